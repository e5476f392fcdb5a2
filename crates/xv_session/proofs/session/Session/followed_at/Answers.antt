use Rattle.std.proofs.Common.{Ok, sym, ap, ◌∙◌, subst, take, map}
use Rattle.kernel_spec.specs.runs.First.{first}
use Rattle.kernel_spec.specs.views.State.{named_file}
use Rattle.xv_machine.specs.Boots.{Boots, HasEmptyTrace}
use Rattle.xv_machine.specs.Meaning.{Meaning}
use Rattle.xv_machine.specs.Sound.{IsSoundMachine}
use Rattle.xv_session.specs.LastStep.{HasLast}
use Rattle.xv_session.specs.Names.{first_names}
use Rattle.xv_session.specs.Recorded.{Recorded, IsLed}
use Rattle.xv_session.proofs.GoesOn.{led-anew, last-anew}
use Rattle.xv_session.proofs.LastSteps.{follows-goes}
use Rattle.xv_session.proofs.NamesLive.{anew-sound}
use Rattle.xv_session.proofs.session.Session.followed_at.Goals as goal

pub play-requires : goal.play-requires
play-requires g c =
    let f = c.self.inside.config.frames in
    let t = c.self.inside.config.trace in
    let ps = map named_file c.in-Ok.programs.items in
    let r = c.new-followed.result.running in
    let same = sym c.new-followed.ensures.machine in
    anew-sound f t ps r (subst (λ (m : Meaning). Boots f (Ok m) (first f t ps)) same c.in-Ok-boot.ensures.boots) (subst (λ (m : Meaning). IsSoundMachine m) same c.in-Ok-boot.ensures.sound)
    (subst (λ (m : Meaning). HasEmptyTrace t m) same c.in-Ok-boot.ensures.trace) (c.new-followed.ensures.names ∙ ap (λ (m : Meaning). first_names m.world.state.programs) same)

pub returns-clause-led : goal.returns-clause-led
returns-clause-led g c =
    let s = c.self.inside in
    let n = c.play.new.followed in
    let f = s.config.frames in
    let t = s.config.trace in
    let ps = map named_file c.in-Ok.programs.items in
    let r = c.new-followed.result in
    let same = sym c.new-followed.ensures.machine in
    subst (λ (old : Recorded). IsLed old.frames old.trace old.programs (take c.args.place old.events) n.running) c.self.view_is
    (led-anew f t c.args.place s.followed.running.machine.world.state.programs ps s.history.events r.running n.running (c.in-Ok.ensures ∙ c.programs.ensures)
    (subst (λ (m : Meaning). Boots f (Ok m) (first f t ps)) same c.in-Ok-boot.ensures.boots) (subst (λ (m : Meaning). IsSoundMachine m) same c.in-Ok-boot.ensures.sound)
    (subst (λ (m : Meaning). HasEmptyTrace t m) same c.in-Ok-boot.ensures.trace) (c.new-followed.ensures.names ∙ ap (λ (m : Meaning). first_names m.world.state.programs) same)
    (follows-goes (take c.args.place s.history.events) r n c.in-Ok-play.ensures.goes))

pub returns-clause-last : goal.returns-clause-last
returns-clause-last g c =
    let s = c.self.inside in
    let n = c.play.new.followed in
    let f = s.config.frames in
    let t = s.config.trace in
    let ps = map named_file c.in-Ok.programs.items in
    let r = c.new-followed.result in
    let same = sym c.new-followed.ensures.machine in
    subst (λ (old : Recorded). HasLast old.frames old.trace old.programs (take c.args.place old.events) n.running.machine n.last) c.self.view_is
    (last-anew f t c.args.place s.followed.running.machine.world.state.programs ps s.history.events r n (c.in-Ok.ensures ∙ c.programs.ensures)
    (subst (λ (m : Meaning). Boots f (Ok m) (first f t ps)) same c.in-Ok-boot.ensures.boots) (subst (λ (m : Meaning). IsSoundMachine m) same c.in-Ok-boot.ensures.sound)
    (subst (λ (m : Meaning). HasEmptyTrace t m) same c.in-Ok-boot.ensures.trace) c.new-followed.ensures.last c.in-Ok-play.ensures.goes)
