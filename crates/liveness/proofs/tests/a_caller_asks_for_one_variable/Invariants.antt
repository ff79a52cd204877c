use Rattle.liveness.proofs.tests.a_caller_asks_for_one_variable.Given as goal

abbrev pub ghosts-used : goal.ghosts-used
ghosts-used g a = record { name = a.blank.name; parts = a.blank.parts }
