use Rattle.std.proofs.Common.{◌≡◌, Ok, refl, sym, ap, ◌∙◌, subst, map, List}
use Rattle.kernel_spec.specs.runs.First.{first}
use Rattle.kernel_spec.specs.runs.Run.{Event}
use Rattle.kernel_spec.specs.views.State.{named_file}
use Rattle.xv_machine.specs.Boots.{Boots, HasEmptyTrace}
use Rattle.xv_machine.specs.Meaning.{Meaning}
use Rattle.xv_machine.specs.Sound.{IsSoundMachine}
use Rattle.xv_session.specs.LastStep.{HasLast}
use Rattle.xv_session.specs.Names.{first_names}
use Rattle.xv_session.specs.Recorded.{IsLed}
use Rattle.xv_session.proofs.LastSteps.{last-led}
use Rattle.xv_session.proofs.Programs.{booted-led}
use Rattle.xv_session.proofs.session.Session.boot.Goals as goal

pub invariant_of-result : goal.invariant_of-result
invariant_of-result c =
    let r = c.new.result.running in
    let f = c.args.config.frames in
    let t = c.args.config.trace in
    let ps = map named_file c.args.programs.items in
    let same = sym c.new.ensures.machine in
    let boots : Boots f (Ok r.machine) (first f t ps) = subst (λ (m : Meaning). Boots f (Ok m) (first f t ps)) same c.in-Ok.ensures.boots in
    let sound : IsSoundMachine r.machine = subst (λ (m : Meaning). IsSoundMachine m) same c.in-Ok.ensures.sound in
    let empty : HasEmptyTrace t r.machine = subst (λ (m : Meaning). HasEmptyTrace t m) same c.in-Ok.ensures.trace in
    let names : r.names ≡ first_names r.machine.world.state.programs = c.new.ensures.names ∙ ap (λ (m : Meaning). first_names m.world.state.programs) same in
    let led = (booted-led f t ps r boots sound empty names).1 in (
      subst (λ (es : List Event). IsLed f t r.machine.world.state.programs es r) (sym c.new-in-Ok.ensures) led,
      subst (λ (es : List Event). HasLast f t r.machine.world.state.programs es r.machine c.new.result.last) (sym c.new-in-Ok.ensures)
          (last-led f t r.machine.world.state.programs r c.new.result.last c.new.ensures.last led),
    )

pub returns-in-Ok-clause-boots : goal.returns-in-Ok-clause-boots
returns-in-Ok-clause-boots c =
    let f = c.args.config.frames in
    let t = c.args.config.trace in
    let ps = map named_file c.args.programs.items in
    subst (λ (m : Meaning). Boots f (Ok m) (first f t ps)) (sym c.new.ensures.machine) c.in-Ok.ensures.boots

pub returns-in-Ok-clause-fresh : goal.returns-in-Ok-clause-fresh
returns-in-Ok-clause-fresh c =
    let r = c.new.result.running in
    let f = c.args.config.frames in
    let t = c.args.config.trace in
    let ps = map named_file c.args.programs.items in
    let same = sym c.new.ensures.machine in
    let boots : Boots f (Ok r.machine) (first f t ps) = subst (λ (m : Meaning). Boots f (Ok m) (first f t ps)) same c.in-Ok.ensures.boots in
    let sound : IsSoundMachine r.machine = subst (λ (m : Meaning). IsSoundMachine m) same c.in-Ok.ensures.sound in
    let empty : HasEmptyTrace t r.machine = subst (λ (m : Meaning). HasEmptyTrace t m) same c.in-Ok.ensures.trace in
    let names : r.names ≡ first_names r.machine.world.state.programs = c.new.ensures.names ∙ ap (λ (m : Meaning). first_names m.world.state.programs) same in
    let those : r.machine.world.state.programs ≡ ps = (booted-led f t ps r boots sound empty names).2 in
    record { frames_are = refl; trace_is = refl; programs_are = those; events = c.new-in-Ok.ensures; names = names ∙ ap first_names those }
