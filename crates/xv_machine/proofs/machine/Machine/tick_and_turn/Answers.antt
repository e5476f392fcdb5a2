use Rattle.xv_machine.proofs.OverTicks.{turn-told, turn-lives, idle-told, idle-lives}
use Rattle.xv_machine.proofs.machine.Machine.tick_and_turn.Goals as goal

pub invariant_of-self : goal.invariant_of-self
invariant_of-self c = record {
  whole = c.turn_on.ensures.whole;
  halted = idle-lives c.self.inside.kernel c.tick_on.new.self c.self.inside.hart c.self.inside.halted c.self.inside.trace c.args.self.now c.self.view_is c.self.invariant.halted c.self.invariant.kept
      c.requires.running c.requires.nothing_waits c.tick_on.ensures.whole c.tick_on.ensures.happens c.tick_on.ensures.wakes c.tick_on.ensures.frames
      c.turn_on.new.self c.turn_on.new.hart c.turn_on.ensures.frames c.in_default.ensures.stays;
  kept = c.self.invariant.kept;
}

pub returns-in_default : goal.returns-in_default
returns-in_default c =
    idle-told c.self.inside.kernel c.tick_on.new.self c.self.inside.hart c.self.inside.halted c.self.inside.trace c.args.self.now c.self.view_is c.self.invariant.halted c.self.invariant.kept
    c.requires.running c.requires.nothing_waits c.tick_on.ensures.whole c.tick_on.ensures.happens c.tick_on.ensures.wakes c.tick_on.ensures.frames
    c.turn_on.new.self c.turn_on.new.hart c.turn_on.ensures.frames c.in_default.ensures.stays c.in_default.ensures.idle

pub invariant_of-self-2 : goal.invariant_of-self-2
invariant_of-self-2 c = record {
  whole = c.turn_on.ensures.whole;
  halted = turn-lives c.self.inside.kernel c.tick_on.new.self c.self.inside.hart c.self.inside.halted c.self.inside.trace c.args.self.now c.self.view_is c.self.invariant.halted c.self.invariant.kept
      c.requires.running c.requires.nothing_waits c.tick_on.ensures.whole c.tick_on.ensures.happens c.tick_on.ensures.wakes c.tick_on.ensures.frames
      c.turn_on.new.self c.turn_on.new.hart c.turn_on.ensures.frames c.in-Some.pid c.in-Some.ensures.turn;
  kept = c.self.invariant.kept;
}

pub returns : goal.returns
returns c =
    turn-told c.self.inside.kernel c.tick_on.new.self c.self.inside.hart c.self.inside.halted c.self.inside.trace c.args.self.now c.self.view_is c.self.invariant.halted c.self.invariant.kept
    c.requires.running c.requires.nothing_waits c.tick_on.ensures.whole c.tick_on.ensures.happens c.tick_on.ensures.wakes c.tick_on.ensures.frames
    c.turn_on.new.self c.turn_on.new.hart c.turn_on.ensures.frames c.in-Some.pid c.in-Some.ensures.turn c.in-Some.ensures.nearest
