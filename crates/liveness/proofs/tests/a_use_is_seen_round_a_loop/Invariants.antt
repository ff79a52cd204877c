use Rattle.liveness.proofs.tests.a_use_is_seen_round_a_loop.Given as goal

abbrev pub ghosts-has_live : goal.ghosts-has_live
ghosts-has_live g a = record { name = a.blank.name; parts = a.blank.parts }
