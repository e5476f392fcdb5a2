-- How many numbers below a bound pass a test, and the least two of them.
use Rattle.std.proofs.Common.{◌≡◌, ℕ, zero, suc, ◌+◌, ◌<◌, ◌≤◌, ◌&&◌, Bool, cond, true, false, Option, Some, None, refl, sym, ap, ◌∙◌, subst, arith}
use Rattle.std.specs.Prelude.{nat_lt}
use Rattle.std.proofs.lemmas.Bool.{lt-ltb, le-ltb}
use Rattle.std.proofs.lemmas.Option.{same_Some}
use Rattle.xk_base.specs.Words.{count_below, least_below, or_here}
use Rattle.kernel_spec.proofs.steps.LeastPasses.{least_passes}

-- none passes, or one at least
abbrev pub CountsOne : Option ℕ → ℕ → Type 0
CountsOne None n = n ≡ 0
CountsOne (Some k) n = 1 ≤ n

-- of those that pass, no second one is there, or one at least
abbrev pub CountsTwo : Option ℕ → ℕ → Type 0
CountsTwo None n = n ≡ 1
CountsTwo (Some k) n = 2 ≤ n

one_more : (o : Option ℕ) (b : Bool) (n k : ℕ) → CountsOne o k → CountsOne (or_here o b n) (k + cond b 1 0)
one_more None true n k e = omega (arith, e)
one_more None false n k e = omega (arith, e)
one_more (Some j) true n k e = omega (arith, e)
one_more (Some j) false n k e = omega (arith, e)

pub least_counts : (test : ℕ → Bool) (n : ℕ) → CountsOne (least_below test n) (count_below test n)
unfolding least_below count_below
least_counts test zero = refl
least_counts test (suc n) = one_more (least_below test n) (test n) n (count_below test n) (least_counts test n)

abbrev pub above : (test : ℕ → Bool) → ℕ → ℕ → Bool
above test low k = nat_lt low k && test k

-- if none passes, none above another passes
none_above : (test : ℕ → Bool) (low n : ℕ) → least_below test n ≡ None → least_below (above test low) n ≡ None
unfolding least_below
none_above test low zero e = refl
none_above test low (suc n) e = by (least_below test n) refl (test n) refl e (none_above test low n)
  where
    by : (o : Option ℕ) → least_below test n ≡ o → (b : Bool) → test n ≡ b → or_here o b n ≡ None
        → (least_below test n ≡ None → least_below (above test low) n ≡ None) → or_here (least_below (above test low) n) (nat_lt low n && test n) n ≡ None
    by (Some k) is b t e rest = let no : ⊥ = cc in absurd no
    by None is true t e rest = let no : ⊥ = cc in absurd no
    by None is false t e rest = rw (t, rest is) (both (nat_lt low n))
      where
        both : (b : Bool) → or_here None (b && false) n ≡ None
        both true = refl
        both false = refl

pub two_counted : (test : ℕ → Bool) (n low : ℕ) → least_below test n ≡ Some low → CountsTwo (least_below (above test low) n) (count_below test n)
unfolding least_below count_below
two_counted test zero low e = let no : ⊥ = cc in absurd no
two_counted test (suc n) low e = by (least_below test n) refl (test n) refl e (two_counted test n)
  where
    more : (o : Option ℕ) (b : Bool) (k : ℕ) → CountsTwo o k → CountsTwo (or_here o (true && b) n) (k + cond b 1 0)
    more None true k h = omega (arith, h)
    more None false k h = omega (arith, h)
    more (Some j) true k h = omega (arith, h)
    more (Some j) false k h = omega (arith, h)

    by : (o : Option ℕ) → least_below test n ≡ o → (b : Bool) → test n ≡ b → or_here o b n ≡ Some low
        → ((k : ℕ) → least_below test n ≡ Some k → CountsTwo (least_below (above test k) n) (count_below test n))
        → CountsTwo (or_here (least_below (above test low) n) (nat_lt low n && test n) n) (count_below test n + cond (test n) 1 0)
    by (Some k) is b t e rest =
        let same : k ≡ low = same_Some k low e in
        let below : low < n = subst (λ j. j < n) same (least_passes n test k is).1 in
        rw (lt-ltb low n below) (more (least_below (above test low) n) (test n) (count_below test n) (rest low (is ∙ ap Some same)))
    by None is false t e rest = let no : ⊥ = cc in absurd no
    by None is true t e rest =
        let same : n ≡ low = same_Some n low e in
        let first : count_below test n ≡ 0 = subst (λ o. CountsOne o (count_below test n)) is (least_counts test n) in
        rw (sym same, none_above test n n is, le-ltb n n (omega arith), t) (omega (arith, first))

-- ---- number by number

pub none_counted : (test : ℕ → Bool) → 0 ≡ count_below test 0
unfolding count_below
none_counted test = refl

pub one_more_counted : (test : ℕ → Bool) (n k one : ℕ) → k ≡ count_below test n → one ≡ cond (test n) 1 0 → k + one ≡ count_below test (n + 1)
unfolding count_below
one_more_counted test n k one before here =
    let next : suc n ≡ n + 1 = omega arith in
    ap (λ m. m + one) before ∙ ap (λ m. count_below test n + m) here ∙ ap (count_below test) next
