use Rattle.explained_run.proofs.replaying.replay_with.Given as goal

abbrev pub ghosts-replay_as : goal.ghosts-replay_as
ghosts-replay_as g a = record { asked = a.choice }
