use Rattle.xv_machine.proofs.PlayedParts.{byte-made, none-made}
use Rattle.xv_machine.proofs.player.MachineRoundPlayer.play_sends.Goals as goal

pub returns-in-Some-clause-made : goal.returns-in-Some-clause-made
returns-in-Some-clause-made c = byte-made c.args.most c.send.result c.in-Some.byte _ _ c.in-Some.is c.send.ensures.goes

pub returns-in-None-clause-made : goal.returns-in-None-clause-made
returns-in-None-clause-made c = none-made c.args.most c.send.result _ _ c.requires c.in-None.is c.send.ensures.goes
