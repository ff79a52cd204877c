use Rattle.liveness.proofs.tests.a_graph_without_blocks_has_no_sets.Given as goal

abbrev pub ghosts-has_live : goal.ghosts-has_live
ghosts-has_live g a = record { name = a.blank.name; parts = a.blank.parts }
