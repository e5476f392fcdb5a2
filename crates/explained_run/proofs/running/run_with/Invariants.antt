use Rattle.explained_run.proofs.running.run_with.Given as goal

abbrev pub ghosts-run_as : goal.ghosts-run_as
ghosts-run_as g a = record { asked = a.choice }
