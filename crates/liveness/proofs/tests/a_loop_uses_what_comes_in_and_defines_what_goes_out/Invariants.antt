use Rattle.liveness.proofs.tests.a_loop_uses_what_comes_in_and_defines_what_goes_out.Given as goal

abbrev pub ghosts-has_live : goal.ghosts-has_live
ghosts-has_live g a = record { name = a.blank.name; parts = a.blank.parts }
