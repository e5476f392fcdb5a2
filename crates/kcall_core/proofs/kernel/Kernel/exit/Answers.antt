use Rattle.kcall_core.proofs.Prelude.{◌∙◌, ap, changed_at, each_changed, ended, given, gone_state, live_now, pid_now, slot_now, state_of, to_z-of_z, woken}
use Rattle.kcall_core.proofs.processes.Exits.{whole-closing, no-descriptors, not-own-parent, parent-now, exit-makes}
use Rattle.proc_table.specs.declared.channel.Channel.TheVariants as on
use Rattle.kcall_core.proofs.kernel.Kernel.exit.Goals as goal

pub close_all-requires : goal.close_all-requires
close_all-requires c = (c.args.hart.now, whole-closing c.requires.whole c.requires.running)

pub go_closed-requires-clause-closed : goal.go_closed-requires-clause-closed
go_closed-requires-clause-closed c = no-descriptors (c.close_all.ensures c.args.hart.now (whole-closing c.requires.whole c.requires.running))

pub go_closed-requires-clause-parent : goal.go_closed-requires-clause-parent
go_closed-requires-clause-parent c = let all = c.close_all.ensures c.args.hart.now (whole-closing c.requires.whole c.requires.running) in not-own-parent all.after

pub returns : goal.returns
returns c =
    let k1 = c.close_all.new.self in
    let k3 = c.wake_parent.new.self in
    let h = c.args.hart.now in
    let after = c.go_closed.new.hart in
    let status = to_z-of_z _ c.args.status c.ranges.status in
    record {
      made = exit-makes c.args.self.now k1 c.go_closed.new.self k3 c.wake.new.self h after c.args.status c.parent-parent.result c.requires.whole c.requires.running
          (c.close_all.ensures h (whole-closing c.requires.whole c.requires.running))
          (parent-now c.running_slot-slot.result c.parent-parent.result c.requires.whole.sound c.running_slot-slot.ensures.is c.parent-parent.ensures)
          c.go_closed.ensures.sound c.go_closed.ensures.stopped c.go_closed.ensures.files c.go_closed.ensures.frames
          (c.go_closed.ensures.table ∙ ap (λ z. changed_at (slot_now k1) (ended z) (each_changed (given (pid_now k1) 1) k1.table)) status)
          (c.go_closed.ensures.state ∙ ap (λ z. gone_state (pid_now k1) (live_now k1 h) z (state_of k1 h).files (state_of k1 h)) status)
          c.wake_parent.ensures.table c.wake_parent.ensures.rest (c.wake_parent.ensures.sound after) (c.wake_parent.ensures.state after)
          (c.wake.ensures.table ∙ ap (λ n. each_changed (woken (on.Children n)) k3.table) c.new.ensures) c.wake.ensures.rest (c.wake.ensures.sound after) (c.wake.ensures.state after);
    }
