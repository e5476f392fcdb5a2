use Rattle.std.proofs.Common.{◌≡◌, ◌∙◌, Bool, true, ap, subst, rules}
use Rattle.std.specs.Prelude.{slice_get}
use Rattle.xv_report.specs.Reports.{is_run, ToldOf}
use Rattle.xv_report.specs.Unwound.{frames_known}
use Rattle.xv_report.proofs.fault.report_at.Goals as goal

pub returns-in-Ok : goal.returns-in-Ok
returns-in-Ok c =
    let s = c.args.session.now in
    let tables = frames_known c.args.source.now.symbols.now in
    let is : true ≡ c.is_run.result = search rules in
    let run : true ≡ is_run (slice_get s.events c.args.place) = is ∙ c.is_run.ensures ∙ ap is_run c.event.ensures in
    subst (λ (b : Bool). ToldOf b tables s c.args.place c.in-Ok.told) run (c.in_ok-machine.machine, c.report_of_run.new.machine, c.in_ok-machine.ensures.played, c.in-Ok.ensures.told)
