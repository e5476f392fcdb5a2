use Rattle.std.proofs.Common.{◌≡◌, ◌∙◌, ◌+◌, ◌-◌, ◌++◌, ℕ, [], replicate, arith, sym, ap}
use Rattle.std.proofs.lemmas.List.{replicate-append-replicate}
use Rattle.kernel_spec.specs.runs.Run.{Run}
use Rattle.grade_submissions.proofs.Going.{plays-none, plays-join, plays-those, first-all, first-full, first-those}
use Rattle.grade_submissions.proofs.playing.Played.run_often.Goals as goal

pub runs-init : goal.runs-init
runs-init c =
    let none : 0 ≡ c.args.count - c.args.count = omega arith in
    record {
      plays = plays-those [] (replicate (c.args.count - c.args.count) Run) c.args.self.now c.args.self.now (ap (λ (n : ℕ). replicate n Run) none) (plays-none c.args.self.now);
      within = omega arith;
      few = omega arith;
    }

pub runs-preserved : goal.runs-preserved
runs-preserved c =
    let sent = c.in_ok-left.field-0 in
    let count : c.args.count - c.runs.left + sent ≡ c.args.count - (c.runs.left - sent) = omega (arith, c.in_ok-left.ensures.within, c.runs.invariant.within) in
    record {
      plays = plays-those (replicate (c.args.count - c.runs.left) Run ++ replicate sent Run) (replicate (c.args.count - (c.runs.left - sent)) Run) c.args.self.now c.run.new.self
          (replicate-append-replicate (c.args.count - c.runs.left) sent Run ∙ ap (λ (n : ℕ). replicate n Run) count)
          (plays-join (replicate (c.args.count - c.runs.left) Run) (replicate sent Run) c.args.self.now c.runs.self c.run.new.self c.runs.invariant.plays c.in_ok-left.ensures.plays);
      within = omega (arith, c.runs.invariant.within);
      few = omega (arith, c.runs.invariant.few, c.in_ok-left.ensures.runs, c.in_ok-left.ensures.within);
    }

pub returns-then-is_full-clause-plays : goal.returns-then-is_full-clause-plays
returns-then-is_full-clause-plays c =
    let count : c.args.count - c.runs.left + c.runs.left ≡ c.args.count = omega (arith, c.runs.invariant.within) in
    first-those (replicate (c.args.count - c.runs.left) Run ++ replicate c.runs.left Run) (replicate c.args.count Run) c.args.self.now c.runs.self
    (replicate-append-replicate (c.args.count - c.runs.left) c.runs.left Run ∙ ap (λ (n : ℕ). replicate n Run) count)
    (first-full (replicate (c.args.count - c.runs.left) Run) (replicate c.runs.left Run) c.args.self.now c.runs.self
    (first-all (replicate (c.args.count - c.runs.left) Run) c.args.self.now c.runs.self c.runs.invariant.plays) (sym c.is_full.ensures ∙ c.if-is_full.true))

pub returns-clause-plays : goal.returns-clause-plays
returns-clause-plays c =
    let count : c.args.count - c.runs.left ≡ c.args.count = omega (arith, c.runs-test.false) in
    first-all (replicate c.args.count Run) c.args.self.now c.runs.self
    (plays-those (replicate (c.args.count - c.runs.left) Run) (replicate c.args.count Run) c.args.self.now c.runs.self (ap (λ (n : ℕ). replicate n Run) count) c.runs.invariant.plays)
