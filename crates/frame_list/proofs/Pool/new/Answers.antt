use Rattle.std.proofs.Common.{◌≡◌, inl, inr, sym, ap, ◌∙◌, arith, rules}
use Rattle.std.proofs.lemmas.Bool.{cases_eq}
use Rattle.xk_base.proofs.Frames.{at, at-same, at-other, copies-nil, copies-one}
use Rattle.frame_list.specs.Pool.{free_in}
use Rattle.frame_list.proofs.FreeList.{Good-empty}
use Rattle.frame_list.proofs.Pool.new.Goals as goal

pub loop-number-init : goal.loop-number-init
unfolding free_in
loop-number-init c = record {
  good = Good-empty c.args.ram.now (omega (arith, c.frames-n.ensures.value, c.frames-n.ensures.range.1));
  frames = sym c.frames-n.ensures.value;
  free = λ f low. absurd (omega arith);
  rest = λ f high. copies-nil f;
}

pub loop-number-preserved : goal.loop-number-preserved
loop-number-preserved c =
    let was = c.loop-number.invariant in
    let given = c.give.ensures in
    let put = c.new.result in
    let number : put ≡ c.loop-number.number = c.new.ensures in
    record {
      good = given.good;
      frames = given.count ∙ was.frames;
      free = λ f low. elim (cases_eq f put) [
        | inl e ↦ omega (arith, given.frames f, copies-nil f, copies-one f put, ap (at f) (sym e), at-same f, was.rest f (omega (arith, e, number)))
        | inr ne ↦ omega (arith, given.frames f, copies-nil f, copies-one f put, at-other f put ne, was.free f (omega (arith, ne, number, low)))
      ];
      rest = λ f high. omega (arith, given.frames f, copies-nil f, copies-one f put, at-other f put (λ e. omega (arith, e, number, high)), was.rest f (omega (arith, high)));
    }

pub returns-clause-good : goal.returns-clause-good
returns-clause-good c = search rules

pub returns-clause-all_free : goal.returns-clause-all_free
returns-clause-all_free c = search rules
