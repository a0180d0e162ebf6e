use Rattle.test_tables.proofs.balances.trial.Given as goal

abbrev pub ghosts-make_of : goal.ghosts-make_of
ghosts-make_of a = record { name = a.blank.name; parts = a.blank.parts }
