use Rattle.bench_timed.proofs.tree.run_counted.Given as goal

-- the counter's ledger is the one that is made here
abbrev pub ghosts-count : goal.ghosts-count
ghosts-count a = record { name = a.blank.name; parts = a.blank.parts }
