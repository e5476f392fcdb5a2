use Rattle.std.proofs.Common.{◌+◌, ◌-◌, ◌<◌, None, Some, subst, arith}
use Rattle.xv_machine.specs.Meaning.{Meaning}
use Rattle.debug_views.specs.Focus.{IsLeastFrom}
use Rattle.debug_views.proofs.Shown.{shows-behind, shows-text, writes-nothing}
use Rattle.xv_debug.specs.ProcessText.{AreLines, line_text, more_text}
use Rattle.xv_debug.proofs.ToldProcesses.{no-lines-left, no-more-lines, lines-next}
use Rattle.xv_debug.proofs.processes.+show_from.Goals as goal

pub returns-then-lines-eq0 : goal.returns-then-lines-eq0
returns-then-lines-eq0 n c =
    let s = c.args.session.now in
    let least : IsLeastFrom s.machine.world.state c.args.from c.least_from-next.result =
    subst (λ (m : Meaning). IsLeastFrom m.world.state c.args.from c.least_from-next.result) c.machine.ensures.machine c.least_from-next.ensures in
    shows-text c.show_more.result (AreLines s c.args.lines c.args.from) _ _ (more_text c.least_from-next.result)
    (no-lines-left s c.args.lines c.args.from c.least_from-next.result c.if-lines-eq0.true least) c.show_more.ensures

pub returns-in_default : goal.returns-in_default
returns-in_default n c =
    let s = c.args.session.now in
    let some : 0 < c.args.lines = omega (arith, c.if-lines-eq0.false) in
    let least : IsLeastFrom s.machine.world.state c.args.from c.least_from-next.result =
    subst (λ (m : Meaning). IsLeastFrom m.world.state c.args.from c.least_from-next.result) c.machine.ensures.machine c.least_from-next.ensures in
    let none : IsLeastFrom s.machine.world.state c.args.from None = subst (IsLeastFrom s.machine.world.state c.args.from) c.in_default.is least in
    writes-nothing (AreLines s c.args.lines c.args.from) _ (no-more-lines s c.args.lines c.args.from some none)

pub returns : goal.returns
returns n c =
    let s = c.args.session.now in
    let pid = c.in-Some.pid in
    let some : 0 < c.args.lines = omega (arith, c.if-lines-eq0.false) in
    let least : IsLeastFrom s.machine.world.state c.args.from c.least_from-next.result =
    subst (λ (m : Meaning). IsLeastFrom m.world.state c.args.from c.least_from-next.result) c.machine.ensures.machine c.least_from-next.ensures in
    let next : IsLeastFrom s.machine.world.state c.args.from (Some pid) = subst (IsLeastFrom s.machine.world.state c.args.from) c.in-Some.is least in
    shows-behind c.show_from.result (AreLines s (c.args.lines - 1) (c.number.result + 1)) (AreLines s c.args.lines c.args.from) _ _ _
    (line_text s pid) c.in_ok-show_line.ensures
    (λ rest are. lines-next s c.args.lines c.args.from pid rest some next (subst (λ q. AreLines s (c.args.lines - 1) (q + 1) rest) c.number.ensures.value are)) c.show_from.ensures
