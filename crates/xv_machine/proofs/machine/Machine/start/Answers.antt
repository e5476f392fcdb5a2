use Rattle.std.proofs.Common.{ap, ◌∙◌, length, map, None}
use Rattle.kernel_spec.specs.views.State.{named_file}
use Rattle.kcall_core.specs.Kernel.{state_of}
use Rattle.kcall_core.specs.Machine.{world_of}
use Rattle.hart_core.specs.declared.hart.Hart.{Hart}
use Rattle.xv_machine.specs.Machine.{meaning_of}
use Rattle.xv_machine.proofs.Frames.{sound-of}
use Rattle.xv_machine.proofs.Runs.{count-is}
use Rattle.xv_machine.proofs.Kept.{empty-kept}
use Rattle.xv_machine.proofs.Starts.{kernel-free, kernel-console, kernel-clock, kernel-programs, kernel-init, started-lives, boots-started, boots-refused}
use Rattle.xv_machine.proofs.machine.Machine.start.Goals as goal

pub start-requires-clause-whole : goal.start-requires-clause-whole
start-requires-clause-whole c = c.requires.whole c.with_room-hart.result (ap (λ (h : Hart). h.root) c.with_room-hart.ensures, ap (λ (h : Hart). h.cache) c.with_room-hart.ensures)

pub start-requires-clause-program : goal.start-requires-clause-program
start-requires-clause-program c = kernel-init c.args.kernel c.with_room-hart.result c.requires.program

pub invariant_of-result : goal.invariant_of-result
invariant_of-result c = record {
  whole = c.start.ensures.whole;
  kept = empty-kept c.args.trace c.requires.empty;
  halted = started-lives (world_of c.start.new.self c.start.new.hart None) c.in-Ok.ensures.started.0 (state_of c.args.kernel c.with_room-hart.result) c.in-Ok.ensures.started.3;
}

pub returns-in-Ok-clause-boots : goal.returns-in-Ok-clause-boots
returns-in-Ok-clause-boots c =
    let s = state_of c.args.kernel c.with_room-hart.result in
    boots-started (length c.args.kernel.memories.ram) (map named_file c.args.kernel.programs.items) s
    (kernel-free c.args.kernel c.with_room-hart.result c.requires.blank) (kernel-programs c.args.kernel c.with_room-hart.result) c.requires.program
    (kernel-console c.args.kernel c.with_room-hart.result c.requires.blank)
    (kernel-clock c.args.kernel c.with_room-hart.result c.requires.blank) c.in-Ok.ensures.started.0
    (meaning_of (record { kernel = c.start.new.self; hart = c.start.new.hart; halted = None; trace = c.args.trace })) c.in-Ok.ensures.started.1
    c.in-Ok.ensures.started.2 c.in-Ok.ensures.started.3
    (count-is c.start.new.self ∙ c.start.ensures.frames)

pub returns-in-Ok-clause-sound : goal.returns-in-Ok-clause-sound
returns-in-Ok-clause-sound c =
    sound-of c.start.new.self c.start.new.hart None c.args.trace (empty-kept c.args.trace c.requires.empty) c.start.ensures.whole
    (started-lives (world_of c.start.new.self c.start.new.hart None) c.in-Ok.ensures.started.0 (state_of c.args.kernel c.with_room-hart.result) c.in-Ok.ensures.started.3)

pub returns-in-Err-clause-boots : goal.returns-in-Err-clause-boots
returns-in-Err-clause-boots c =
    let s = state_of c.args.kernel c.with_room-hart.result in
    boots-refused (length c.args.kernel.memories.ram) (map named_file c.args.kernel.programs.items) s
    (kernel-free c.args.kernel c.with_room-hart.result c.requires.blank) (kernel-programs c.args.kernel c.with_room-hart.result) c.requires.program
    c.in-Err.refusal c.in-Err.ensures.refused.0
