use Rattle.std.proofs.Common.{arith, string_bytes}
use Rattle.std.proofs.Math.Logic.{∥∥₁_map}
use Rattle.xv_machine.specs.Events.{event_of, outcome_of}
use Rattle.xv_session.proofs.NamesLive.{advances-sound}
use Rattle.explained_run.proofs.Joined.{told-other}
use Rattle.explained_run.proofs.explained.Explained.send.Goals as goal

pub invariant_of-self : goal.invariant_of-self
invariant_of-self c =
    let x = c.args.self.now in
    let e = event_of c.args.event in
    let o = outcome_of c.event.result in
    let s = c.event.new.self in
    record {
      live = (advances-sound e o x.running s (record { machine = c.halted-halted.ensures.sound; names = x.live }) c.event.ensures).names;
      told = ∥∥₁_map x.told (λ t. told-other x.choice e o x.running s x.at c.saturating_add-self.result x.complete (string_bytes x.text) x.counts.complete x.counts.counts.items t c.requires
          c.event.ensures (omega arith));
    }
