use Rattle.std.proofs.Common.{◌≡◌, ◌-◌, ℕ, length, subst, take, arith}
use Rattle.xv_session.specs.Recorded.{IsPlayed}
use Rattle.gdb_target.proofs.target.Target.registers_before.Goals as goal

pub returns : goal.returns
returns c =
    let s = c.args.self.now.run.session in
    let place : c.saturating_sub-place.result ≡ length s.events - 1 = omega (arith, c.saturating_sub-place.ensures, c.at.ensures) in
    record {
      before = c.in_ok-before.before;
      played = subst (λ (n : ℕ). IsPlayed s.frames s.trace s.programs (take n s.events) c.in_ok-before.before) place c.in_ok-before.ensures.played;
      registers_are = c.registers.ensures;
    }
