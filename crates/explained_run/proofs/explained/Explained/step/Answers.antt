use Rattle.std.proofs.Common.{arith, rules, Bool, string_bytes, subst, sym, ◌∙◌}
use Rattle.std.proofs.Math.Logic.{∥∥₁_map}
use Rattle.std.proofs.lemmas.Bool.{and_parts}
use Rattle.kernel_spec.specs.runs.Run.{Run}
use Rattle.xv_machine.specs.Events.{outcome_of}
use Rattle.xv_session.proofs.NamesLive.{advances-sound}
use Rattle.explained_run.specs.Told.{IsTold}
use Rattle.explained_run.proofs.Ends.{starts-more}
use Rattle.explained_run.proofs.Joined.{told-step}
use Rattle.explained_run.proofs.explained.Explained.step.Goals as goal

pub invariant_of-self : goal.invariant_of-self
invariant_of-self c =
    let x = c.args.self.now in
    let o = outcome_of c.tell_step-made.result.outcome in
    let s = c.tell_step-made.new.running in
    let text = string_bytes c.tell_step-made.new.text in
    let after = c.add_outcome.new.self in
    record {
      live = (advances-sound Run o x.running s (record { machine = c.requires.sound; names = x.live }) c.tell_step-made.ensures.advances).names;
      told = ∥∥₁_map x.told (λ t. subst (λ (complete : Bool). IsTold x.choice s c.saturating_add-self.result complete text after.complete after.counts.items) (sym c.both-self.ensures)
          (told-step x.choice o c.args.pid x.running s x.at c.saturating_add-self.result x.complete c.tell_step-made.result.is_told (string_bytes x.text) text
          x.counts.complete after.complete x.counts.counts.items after.counts.items c.or-place.result c.is_marked-marked.result
          t c.requires.sound c.requires.current c.tell_step-made.ensures.advances (omega arith) c.tell_step-made.ensures.told c.add_outcome.ensures.counts c.add_outcome.ensures.complete
          (search rules) (search rules)));
    }

pub returns-clause-text : goal.returns-clause-text
returns-clause-text c = λ yes.
    let x = c.args.self.now in
    let both = and_parts x.complete c.tell_step-made.result.is_told (sym c.both-self.ensures ∙ yes) in (
      both.0,
      starts-more (string_bytes x.text) (string_bytes c.tell_step-made.new.text) _ (c.tell_step-made.ensures.told both.1),
    )
