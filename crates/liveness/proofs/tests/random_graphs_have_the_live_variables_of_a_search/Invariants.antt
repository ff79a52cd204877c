use Rattle.liveness.proofs.tests.random_graphs_have_the_live_variables_of_a_search.Given as goal

abbrev pub ghosts-live_in : goal.ghosts-live_in
ghosts-live_in g a = record { name = a.blank.name; parts = a.blank.parts }
