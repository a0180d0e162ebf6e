use Rattle.test_edits.proofs.sessions.moves.Given as goal

abbrev pub ghosts-moves_of : goal.ghosts-moves_of
ghosts-moves_of a = record { name = a.blank.name; parts = a.blank.parts }
