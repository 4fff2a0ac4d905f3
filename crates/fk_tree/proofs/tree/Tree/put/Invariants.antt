use Rattle.fk_tree.proofs.tree.Tree.put.Given as goal

-- the counter's ledger is the one that is made here
abbrev pub ghosts-put_alone : goal.ghosts-put_alone
ghosts-put_alone a = record { name = a.blank.name; parts = a.blank.parts }
