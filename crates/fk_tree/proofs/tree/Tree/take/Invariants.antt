use Rattle.fk_tree.proofs.tree.Tree.take.Given as goal

-- the counter's ledger is the one that is made here
abbrev pub ghosts-take_alone : goal.ghosts-take_alone
ghosts-take_alone a = record { name = a.blank.name; parts = a.blank.parts }
