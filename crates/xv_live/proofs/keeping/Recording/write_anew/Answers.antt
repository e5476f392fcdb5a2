use Rattle.std.proofs.Common.{ap, ◌∙◌, ◌++◌, List, take}
use Rattle.kernel_spec.specs.runs.Run.{Event}
use Rattle.xv_record.specs.declared.line.Line.{Line}
use Rattle.xv_live.specs.Plays.{events_of_lines}
use Rattle.xv_live.proofs.Kept.{keeps-begun}
use Rattle.xv_live.proofs.keeping.Recording.write_anew.Goals as goal

pub returns-clause-keeps : goal.returns-clause-keeps
returns-clause-keeps g c =
    let events : List Event = c.args.session.now.events in
    let new = c.in_ok-new.new in (
      keeps-begun _ _ _ _ _ _ _ _ c.as_str-head.ensures.value c.in_ok-begin.ensures.grows
          (ap (λ (ls : List Line). take 0 events ++ events_of_lines ls) c.as_slice.ensures.value ∙ c.in_ok-new.ensures.over)
          c.in_ok-new.ensures.within
          (ap (λ (ls : List Line). take new.place events ++ events_of_lines ls) c.as_slice-2.ensures.value ∙ c.in_ok-new.ensures.last),
      c.at-self.ensures,
    )
