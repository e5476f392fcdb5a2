-- How often a frame stands in a list.
use Rattle.std.proofs.Common.{◌≡◌, ◌≢◌, ℕ, zero, suc, ◌+◌, ◌<◌, ◌≤◌, cond, eqb, List, [], ◌∷◌, ◌++◌, length, inl, inr, refl, sym, ap, ◌∙◌, arith}
use Rattle.std.proofs.lemmas.Bool.{cases_eq}
use Rattle.std.proofs.lemmas.Bool.Decides.{nat_tests}
use Rattle.xk_base.specs.Frames.{copies, Once}

-- the same frames, each as often
pub record SameFrames (xs ys : List ℕ) : Type 0 where
  pub each : (x : ℕ) → copies x xs ≡ copies x ys

-- 1 where the two are one frame, and else 0
unfoldable pub at : ℕ → ℕ → ℕ
at x y = cond (eqb x y) 1 0

pub at-same : (x : ℕ) → at x x ≡ 1
unfolding at
at-same x = grind (arith, nat_tests)

pub at-other : (x y : ℕ) → x ≢ y → at x y ≡ 0
unfolding at
at-other x y h = grind (arith, nat_tests)

pub at-le : (x y : ℕ) → at x y ≤ 1
at-le x y = elim (cases_eq x y) [ inl e ↦ omega (arith, ap (at x) e, at-same x) | inr h ↦ omega (arith, at-other x y h) ]

pub copies-nil : (x : ℕ) → copies x [] ≡ 0
unfolding copies
copies-nil x = refl

pub copies-cons : (x y : ℕ) (ys : List ℕ) → copies x (y ∷ ys) ≡ at x y + copies x ys
unfolding copies at
copies-cons x y ys = refl

pub copies-one : (x y : ℕ) → copies x (y ∷ []) ≡ at x y
copies-one x y = omega (arith, copies-cons x y [], copies-nil x)

pub copies-append : (x : ℕ) (xs ys : List ℕ) → copies x (xs ++ ys) ≡ copies x xs + copies x ys
copies-append x [] ys = omega (arith, copies-nil x)
copies-append x (z ∷ zs) ys = omega (arith, copies-cons x z (zs ++ ys), copies-cons x z zs, copies-append x zs ys)

-- how many of a list are below n
below : ℕ → List ℕ → ℕ
below zero xs = 0
below (suc n) xs = copies n xs + below n xs

below-cons-past : (n y : ℕ) (ys : List ℕ) → n ≤ y → below n (y ∷ ys) ≡ below n ys
unfolding below
below-cons-past zero y ys h = refl
below-cons-past (suc n) y ys h = omega (arith, copies-cons n y ys, at-other n y (omega arith), below-cons-past n y ys (omega arith))

below-cons : (n y : ℕ) (ys : List ℕ) → y < n → below n (y ∷ ys) ≡ 1 + below n ys
unfolding below
below-cons zero y ys h = absurd (omega arith)
below-cons (suc n) y ys h =
    elim (cases_eq n y) [
      | inl e ↦ omega (arith, copies-cons n y ys, ap (at n) e, at-same n, below-cons-past n y ys (omega arith))
      | inr ne ↦ omega (arith, copies-cons n y ys, at-other n y ne, below-cons n y ys (omega (arith, ne)))
    ]

below-nil : (m : ℕ) → below m [] ≡ 0
unfolding below
below-nil zero = refl
below-nil (suc m) = omega (arith, copies-nil m, below-nil m)

-- a list all of whose frames are below n has as many as are below n
length-below : (n : ℕ) (xs : List ℕ) → ((x : ℕ) → 0 < copies x xs → x < n) → length xs ≡ below n xs
unfolding below
length-below n [] h = sym (below-nil n)
length-below n (y ∷ ys) h =
    omega (
      arith,
      below-cons n y ys (h y (omega (arith, copies-cons y y ys, at-same y))),
      length-below n ys (λ x p. h x (omega (arith, copies-cons x y ys, p))),
    )

below-le : (n : ℕ) (xs : List ℕ) → ((x : ℕ) → copies x xs ≤ 1) → below n xs ≤ n
unfolding below
below-le zero xs h = omega arith
below-le (suc n) xs h = omega (arith, h n, below-le n xs h)

-- frames that stand once are at most as many as there are
pub length-once : (n : ℕ) (xs : List ℕ) → Once n xs → length xs ≤ n
length-once n xs o = omega (arith, length-below n xs o.inside, below-le n xs o.once)

-- and where each stands once they are just as many
below-all : (n : ℕ) (xs : List ℕ) → ((x : ℕ) → x < n → copies x xs ≡ 1) → below n xs ≡ n
unfolding below
below-all zero xs h = refl
below-all (suc n) xs h = omega (arith, h n (omega arith), below-all n xs (λ x p. h x (omega arith)))

pub length-all : (n : ℕ) (xs : List ℕ) → Once n xs → ((x : ℕ) → x < n → copies x xs ≡ 1) → length xs ≡ n
length-all n xs o h = omega (arith, length-below n xs o.inside, below-all n xs h)

-- the greatest frame of a list, and 1
top : List ℕ → ℕ
top [] = 0
top (x ∷ xs) = suc x + top xs

in-top : (xs : List ℕ) (x : ℕ) → 0 < copies x xs → x < top xs
unfolding top
in-top [] x h = absurd (omega (arith, copies-nil x, h))
in-top (y ∷ ys) x h =
    elim (cases_eq x y) [ inl e ↦ omega arith | inr ne ↦ omega (arith, in-top ys x (omega (arith, copies-cons x y ys, at-other x y ne, h))) ]

below-same : (n : ℕ) (xs ys : List ℕ) → SameFrames xs ys → below n xs ≡ below n ys
unfolding below
below-same zero xs ys h = refl
below-same (suc n) xs ys h = omega (arith, h.each n, below-same n xs ys h)

-- the same frames, each as often, are as many
pub length-same : (xs ys : List ℕ) → SameFrames xs ys → length xs ≡ length ys
length-same xs ys h =
    length-below (top xs) xs (in-top xs) ∙ below-same (top xs) xs ys h ∙ sym (length-below (top xs) ys (λ x p. in-top xs x (omega (arith, h.each x, p))))

pub same-cons : (x f : ℕ) (xs ys : List ℕ) → SameFrames xs (f ∷ ys) → copies x xs ≡ at x f + copies x ys
same-cons x f xs ys h = h.each x ∙ copies-cons x f ys

-- one frame less
pub Once-less : (n f : ℕ) (xs ys : List ℕ) → SameFrames xs (f ∷ ys) → Once n xs → Once n ys
Once-less n f xs ys same o = record {
  inside = λ x p. o.inside x (omega (arith, same-cons x f xs ys same, p));
  once = λ x. omega (arith, same-cons x f xs ys same, o.once x);
}

pub Once-first : (n f : ℕ) (xs ys : List ℕ) → SameFrames xs (f ∷ ys) → Once n xs → f < n
Once-first n f xs ys same o = o.inside f (omega (arith, same-cons f f xs ys same, at-same f))

pub Once-apart : (n f : ℕ) (xs ys : List ℕ) → SameFrames xs (f ∷ ys) → Once n xs → copies f ys ≡ 0
Once-apart n f xs ys same o = omega (arith, same-cons f f xs ys same, at-same f, o.once f)

-- one frame more
pub Once-more : (n f : ℕ) (xs ys : List ℕ) → SameFrames xs (f ∷ ys) → f < n → copies f ys ≡ 0 → Once n ys → Once n xs
Once-more n f xs ys same inside apart o = record {
  inside = λ x p. elim (cases_eq x f) [
    | inl e ↦ omega arith
    | inr ne ↦ o.inside x (omega (arith, same-cons x f xs ys same, at-other x f ne, p))
  ];
  once = λ x. elim (cases_eq x f) [
    | inl e ↦ omega (arith, same-cons x f xs ys same, at-le x f, ap (λ y. copies y ys) e)
    | inr ne ↦ omega (arith, same-cons x f xs ys same, at-other x f ne, o.once x)
  ];
}

-- a frame that isn't in the list leaves room for one more
pub length-once-but : (n f : ℕ) (xs : List ℕ) → Once n xs → f < n → copies f xs ≡ 0 → length xs < n
length-once-but n f xs o inside apart =
    let same : SameFrames (f ∷ xs) (f ∷ xs) = record { each = λ x. refl } in
    omega (arith, length-once n (f ∷ xs) (Once-more n f (f ∷ xs) xs same inside apart o))
