use Rattle.std.proofs.Common.{ap, ◌∙◌, ◌++◌, List, take}
use Rattle.kernel_spec.specs.runs.Run.{Event}
use Rattle.xv_record.specs.declared.line.Line.{Line}
use Rattle.xv_live.specs.Plays.{events_of_lines}
use Rattle.xv_live.proofs.Kept.{keeps-more}
use Rattle.xv_live.proofs.keeping.Recording.go_on.Goals as goal

pub returns-clause-keeps : goal.returns-clause-keeps
returns-clause-keeps g c = λ before more same kept.
    let events : List Event = c.args.session.now.events in
    let new = c.in_ok-new.new in (
      keeps-more _ _ _ _ _ _ _ before more _ _ _ same kept.0 (λ start. c.in_ok-grow.ensures.grows _ start)
          (ap (λ (ls : List Line). take c.args.self.now.place events ++ events_of_lines ls) c.as_slice.ensures.value ∙ c.in_ok-new.ensures.over)
          c.in_ok-new.ensures.within
          (ap (λ (ls : List Line). take new.place events ++ events_of_lines ls) c.as_slice-2.ensures.value ∙ c.in_ok-new.ensures.last),
      c.at-self.ensures,
    )
