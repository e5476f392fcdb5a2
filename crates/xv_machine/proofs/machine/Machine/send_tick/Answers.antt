use Rattle.std.proofs.Common.{rules, subst, sym}
use Rattle.kernel_spec.specs.runs.Run as runs
use Rattle.kernel_spec.specs.waking.Wakes.{Promised}
use Rattle.xv_machine.specs.Meaning.{Meaning}
use Rattle.xv_machine.specs.Notes.{ticked}
use Rattle.xv_machine.proofs.machine.Machine.send_tick.Goals as goal

pub returns : goal.returns
returns c = (
  ticked c.count_tick-is_counted.result,
  record {
    promised = subst (λ (m : Meaning). Promised c.args.self.now.world runs.Tick (ticked c.count_tick-is_counted.result) m.world) (sym c.keep.ensures.kept) c.count_tick-is_counted.ensures.promised;
    notes = search rules;
    room = search rules;
    frames = search rules;
    sound = c.keep.ensures.sound;
  },
)
