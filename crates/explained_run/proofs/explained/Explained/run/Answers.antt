use Rattle.std.proofs.Common.{◌+◌, ◌<◌, ◌∙◌, ap, arith, replicate, string_bytes, subst, sym, Some}
use Rattle.std.specs.Prelude.{option_map}
use Rattle.std.proofs.Math.Logic.{∥∥₁_map}
use Rattle.kernel_spec.specs.runs.Run.{Run}
use Rattle.kernel_spec.specs.views.Words.{or_zero}
use Rattle.kernel_spec.specs.waking.Wakes.{IsPromised}
use Rattle.xv_machine.specs.Drives.{done_by}
use Rattle.xv_machine.specs.Events.{outcome_of}
use Rattle.xv_session.proofs.NamesLive.{goes-by-sound, instructed-sound}
use Rattle.xv_session.proofs.Plays.{goes-by-runs}
use Rattle.xv_session.proofs.RunsMade.{runs-on, some-done}
use Rattle.explained_run.proofs.Ends.{starts-self}
use Rattle.explained_run.proofs.Joined.{ran, told-instructed, told-passing}
use Rattle.explained_run.proofs.explained.Explained.run.Goals as goal

pub invariant_of-self : goal.invariant_of-self
invariant_of-self c =
    let x = c.args.self.now in
    let s = c.run-runs.new.self in
    let last = option_map outcome_of c.run-runs.result.last in
    record {
      live = (goes-by-sound (replicate c.run-runs.result.sent Run) x.running s (record { machine = c.current.ensures.sound; names = x.live })
          (goes-by-runs c.args.most c.run-runs.result.sent last x.running s c.run-runs.ensures.made)).names;
      told = ∥∥₁_map x.told (λ t. told-passing x.choice c.args.most c.run-runs.result.sent last x.running s x.at c.saturating_add-self.result x.complete (string_bytes x.text)
          x.counts.complete x.counts.counts.items t (sym c.current.ensures.pid ∙ c.in_default.is) c.run-runs.ensures.made (omega arith));
    }

pub returns-in_default-clause-ran : goal.returns-in_default-clause-ran
returns-in_default-clause-ran c = ran c.args.most c.run-runs.result.sent (option_map outcome_of c.run-runs.result.last) c.args.self.now.running c.run-runs.new.self c.run-runs.ensures.made

pub invariant_of-self-2 : goal.invariant_of-self-2
invariant_of-self-2 c =
    let x = c.args.self.now in
    let a = x.running.machine in
    let b = c.instructions-made.new.self in
    let p = or_zero a.world.turns.current in
    let is = sym c.current.ensures.pid ∙ c.in-Some.is in
    record {
      live = (instructed-sound c.instructions-made.result p x.running.names a b (record { machine = c.current.ensures.sound; names = x.live }) c.instructions-made.ensures.goes).names;
      told = ∥∥₁_map x.told (λ t. told-instructed x.choice c.instructions-made.result c.in-Some.pid x.at c.saturating_add-self-2.result a b x.running.names x.complete (string_bytes x.text)
          x.counts.complete c.add_instructions.new.self.complete x.counts.counts.items c.add_instructions.new.self.counts.items c.place-place.result
          t is c.instructions-made.ensures.goes (omega arith) c.place-place.ensures c.add_instructions.ensures.counts c.add_instructions.ensures.complete);
    }

pub step-outcome-requires-clause-current : goal.step-outcome-requires-clause-current
step-outcome-requires-clause-current c =
    let a = c.args.self.now.running.machine in
    let b = c.instructions-made.new.self in
    let made = c.instructions-made.result in
    let is = sym c.current.ensures.pid ∙ c.in-Some.is in
    runs-on made a.world b.world c.in-Some.pid is (subst (λ q. IsPromised a.world (replicate made (done_by q)) b.world) (ap or_zero is) c.instructions-made.ensures.goes.run)

pub returns-clause-ran : goal.returns-clause-ran
returns-clause-ran c =
    let r = c.args.self.now.running in
    let made = c.instructions-made.result in
    let o = outcome_of c.step-outcome.result in
    let s = c.step-outcome.new.self.running in
    let fewer : made < c.args.most = omega (arith, c.instructions-made.ensures.within, c.if-made-most.false) in
    ran c.args.most (made + 1) (Some o) r s
    (some-done c.args.most made c.in-Some.pid o r.names r.machine c.instructions-made.new.self s c.current.ensures.sound (sym c.current.ensures.pid ∙ c.in-Some.is) fewer
    c.instructions-made.ensures.goes (c.instructions-made.ensures.stops fewer) c.step-outcome.ensures.advances)

pub returns-in_default-clause-text : goal.returns-in_default-clause-text
returns-in_default-clause-text c = λ yes. (yes, starts-self (string_bytes c.args.self.now.text))
