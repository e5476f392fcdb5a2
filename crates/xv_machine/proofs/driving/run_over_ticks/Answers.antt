use Rattle.std.proofs.Common.{ℕ, ◌≡◌, ◌+◌, sym, subst, arith}
use Rattle.xv_machine.specs.Meaning.{Meaning}
use Rattle.xv_machine.specs.Stretches.{RanOver}
use Rattle.xv_machine.proofs.Quiet.{none-quiet, quiet-more, quiet-begins, runs-all, runs-first, runs-stay}
use Rattle.xv_machine.proofs.Refused.{if-err}
use Rattle.xv_machine.proofs.driving.run_over_ticks.Goals as goal

pub returns-in_err-run_often-clause-refused : goal.returns-in_err-run_often-clause-refused
returns-in_err-run_often-clause-refused g c =
    let m = g.P.RoundPlayer.machine c.args.player.now in
    if-err c.from_residual.result (0, m, omega arith, none-quiet c.args.quantum m c.requires, c.in_err-run_often.ensures.refused)

pub returns-then-quantum-eq0-clause-ran : goal.returns-then-quantum-eq0-clause-ran
returns-then-quantum-eq0-clause-ran g c = let m = g.P.RoundPlayer.machine c.args.player.now in (m, none-quiet c.args.quantum m c.requires, c.in_ok-run_often.ensures.sent)

pub loop-passed-init : goal.loop-passed-init
loop-passed-init g c = let m = g.P.RoundPlayer.machine c.args.player.now in (m, none-quiet c.args.quantum m c.requires, c.in_ok-run_often.ensures.sent)

pub returns-in_err-pass_tick-clause-refused : goal.returns-in_err-pass_tick-clause-refused
returns-in_err-pass_tick-clause-refused g c =
    let (start, q, s) = c.loop-passed.invariant in
    if-err c.from_residual-in_err-pass_tick.result (
      c.loop-passed.passed,
      start,
      omega arith,
      q,
      runs-stay c.args.quantum start (g.P.RoundPlayer.machine c.loop-passed.player) (g.P.RoundPlayer.machine c.pass_tick.new.self) c.in_err-pass_tick.ensures.refused s,
    )

pub returns-then-not-branch-clause-ran : goal.returns-then-not-branch-clause-ran
returns-then-not-branch-clause-ran g c =
    subst (λ (n : Meaning). RanOver c.loop-passed.passed c.args.quantum (g.P.RoundPlayer.machine c.args.player.now) n)
    (sym (c.in_ok-pass_tick.ensures.stays c.if-not-branch.true)) c.loop-passed.invariant

pub returns-in_err-run_often-2-clause-refused : goal.returns-in_err-run_often-2-clause-refused
returns-in_err-run_often-2-clause-refused g c =
    let m = g.P.RoundPlayer.machine c.args.player.now in
    let mid = g.P.RoundPlayer.machine c.loop-passed.player in
    let new = g.P.RoundPlayer.machine c.pass_tick.new.self in
    let (start, q, s) = c.loop-passed.invariant in
    let p = c.in_ok-pass_tick.ensures.passed c.if-not-branch.false in
    if-err c.from_residual-in_err-run_often-2.result (
      c.loop-passed.passed + 1,
      p.between,
      omega arith,
      quiet-more c.loop-passed.passed c.args.quantum m start mid new q s p,
      runs-first c.args.quantum p.between new (g.P.RoundPlayer.machine c.run_often-in-loop-passed.new.player) (λ e. omega (arith, e))
          (quiet-begins c.loop-passed.passed c.args.quantum m start mid new q s p) c.in_err-run_often-2.ensures.refused,
    )

pub loop-passed-preserved : goal.loop-passed-preserved
loop-passed-preserved g c =
    let m = g.P.RoundPlayer.machine c.args.player.now in
    let mid = g.P.RoundPlayer.machine c.loop-passed.player in
    let new = g.P.RoundPlayer.machine c.pass_tick.new.self in
    let (start, q, s) = c.loop-passed.invariant in
    let p = c.in_ok-pass_tick.ensures.passed c.if-not-branch.false in (
      p.between,
      quiet-more c.loop-passed.passed c.args.quantum m start mid new q s p,
      runs-all c.args.quantum p.between new (g.P.RoundPlayer.machine c.run_often-in-loop-passed.new.player) (λ e. omega (arith, e))
          (quiet-begins c.loop-passed.passed c.args.quantum m start mid new q s p) c.in_ok-run_often-2.ensures.sent,
    )

pub returns-clause-ran : goal.returns-clause-ran
returns-clause-ran g c =
    let all : c.loop-passed.passed ≡ c.args.more = omega arith in
    subst (λ (n : ℕ). RanOver n c.args.quantum (g.P.RoundPlayer.machine c.args.player.now) (g.P.RoundPlayer.machine c.loop-passed.player)) all c.loop-passed.invariant
