use Rattle.debug_views.proofs.console.show_room.Goals as goal

pub returns : goal.returns
returns c = c.writeln.ensures.bytes
