use Rattle.std.proofs.Common.{◌≡◌, ℕ, Bool, List, [], Ok, true, map, sym, ap, ◌∙◌, subst}
use Rattle.kernel_spec.specs.runs.First.{first}
use Rattle.kernel_spec.specs.views.State.{named_file}
use Rattle.xv_machine.specs.Boots.{Boots, HasEmptyTrace}
use Rattle.xv_machine.specs.Meaning.{Meaning}
use Rattle.xv_machine.specs.Sound.{IsSoundMachine}
use Rattle.xv_session.specs.Names.{first_names}
use Rattle.xv_session.proofs.NamesLive.{anew-sound}
use Rattle.xv_session.proofs.Programs.{booted-led}
use Rattle.explained_run.specs.Told.{IsTold}
use Rattle.explained_run.specs.declared.counts.Count.{Count}
use Rattle.explained_run.proofs.Joined.{told-at-boot}
use Rattle.explained_run.proofs.explained.Explained.boot.Goals as goal

pub invariant_of-result : goal.invariant_of-result
invariant_of-result c =
    let r = c.new.result in
    let f = c.args.config.frames in
    let t = c.args.config.trace in
    let ps = map named_file c.args.programs.items in
    let same = sym c.new.ensures.machine in
    let boots : Boots f (Ok r.machine) (first f t ps) = subst (λ (m : Meaning). Boots f (Ok m) (first f t ps)) same c.in-Ok.ensures.boots in
    let sound : IsSoundMachine r.machine = subst (λ (m : Meaning). IsSoundMachine m) same c.in-Ok.ensures.sound in
    let empty : HasEmptyTrace t r.machine = subst (λ (m : Meaning). HasEmptyTrace t m) same c.in-Ok.ensures.trace in
    let names : r.names ≡ first_names r.machine.world.state.programs = c.new.ensures.names ∙ ap (λ (m : Meaning). first_names m.world.state.programs) same in
    record {
      live = (anew-sound f t ps r boots sound empty names).names;
      told = ∣ subst (λ (text : List ℕ). IsTold c.args.choice r 0 true text c.new-in-Ok.result.complete c.new-in-Ok.result.counts.items) (sym c.new-in-Ok-2.ensures.bytes)
          (subst (λ (counted : Bool). IsTold c.args.choice r 0 true [] counted c.new-in-Ok.result.counts.items) (sym c.new-in-Ok.ensures.complete)
          (subst (λ (rows : List Count). IsTold c.args.choice r 0 true [] true rows) (sym c.new-in-Ok.ensures.counts)
          (told-at-boot c.args.choice f t ps r (booted-led f t ps r boots sound empty names).0))) ∣₁;
    }
