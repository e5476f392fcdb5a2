use Rattle.xv_machine.proofs.player.MachineRoundPlayer.play_tick.Goals as goal

pub returns-clause-ticked : goal.returns-clause-ticked
returns-clause-ticked c = c.send_tick.ensures
