-- How the list of free frames changes.
use Rattle.std.proofs.Common.{◌≡◌, ℕ, zero, suc, ◌+◌, ◌-◌, ◌<◌, ◌≤◌, List, [], ◌∷◌, length, Option, Some, None, refl, sym, ap, ◌∙◌, subst, add-one, arith}
use Rattle.xk_base.specs.Frames.{copies, Once}
use Rattle.xk_base.specs.declared.limits.TheConstants.{FRAMES_MAX}
use Rattle.xk_base.proofs.Frames.{at, at-same, copies-nil, copies-cons, length-once-but, Once-less, Once-more, Once-apart, SameFrames}
use Rattle.phys_ram.specs.Ram.{word_at, OthersStay, WordWritten}
use Rattle.frame_list.specs.declared.Pool.{Pool}
use Rattle.frame_list.specs.Pool.{link, next, chain, free_in, IsChain, Good}

-- ---- the list

-- the list depends on the first words of its own frames alone
chain-kept : (ram ram' : List (List ℕ)) (first : Option ℕ) (n : ℕ) → ((f : ℕ) → 1 ≤ copies f (chain ram first n) → word_at ram' f 0 ≡ word_at ram f 0) → chain ram' first n ≡ chain ram first n
chain-kept ram ram' first zero same = refl
chain-kept ram ram' None (suc n) same = refl
chain-kept ram ram' (Some f) (suc n) same =
    let rest = chain ram (next ram f) n in
    let here : next ram' f ≡ next ram f = ap link (same f (omega (arith, copies-cons f f rest, at-same f))) in
    ap (λ o. f ∷ chain ram' o n) here ∙ ap (λ fs. f ∷ fs) (chain-kept ram ram' (next ram f) n (λ g has. same g (omega (arith, copies-cons g f rest, has))))

IsChain-kept : (ram ram' : List (List ℕ)) (first : Option ℕ) (fs : List ℕ) → ((f : ℕ) → 1 ≤ copies f fs → word_at ram' f 0 ≡ word_at ram f 0) → IsChain ram first fs → IsChain ram' first fs
IsChain-kept ram ram' None [] same is = tt
IsChain-kept ram ram' None (g ∷ gs) same is = absurd is
IsChain-kept ram ram' (Some f) [] same is = absurd is
IsChain-kept ram ram' (Some f) (g ∷ gs) same is =
    let word : word_at ram' f 0 ≡ word_at ram f 0 = same f (omega (arith, copies-cons f g gs, at-same f, ap (at f) is.0)) in
    (is.0, subst (λ o. IsChain ram' o gs) (sym (ap link word)) (IsChain-kept ram ram' (next ram f) gs (λ h has. same h (omega (arith, copies-cons h g gs, has))) is.1))

-- a list's first frame, and the rest
record Split (ram : List (List ℕ)) (first : Option ℕ) (n f : ℕ) : Type 0 where
  more : ℕ
  count : n ≡ suc more
  list : chain ram first n ≡ f ∷ chain ram (next ram f) more
  rest : IsChain ram (next ram f) (chain ram (next ram f) more)

split : (ram : List (List ℕ)) (first : Option ℕ) (n f : ℕ) → first ≡ Some f → IsChain ram first (chain ram first n) → Split ram first n f
split ram None n f e is = absurd (cc)
split ram (Some g) zero f e is = absurd is
split ram (Some g) (suc m) f e is =
    let same : g ≡ f = cc in
    record {
      more = m;
      count = refl;
      list = ap (λ y. y ∷ chain ram (next ram y) m) same;
      rest = subst (λ y. IsChain ram (next ram y) (chain ram (next ram y) m)) same is.1;
    }

-- a list that leads to a frame holds it
first-in : (ram : List (List ℕ)) (first : Option ℕ) (fs : List ℕ) (f : ℕ) → first ≡ Some f → IsChain ram first fs → 1 ≤ copies f fs
first-in ram None fs f e is = absurd (cc)
first-in ram (Some g) [] f e is = absurd is
first-in ram (Some g) (h ∷ hs) f e is =
    let same : g ≡ f = cc in
    omega (arith, copies-cons f h hs, at-same f, ap (at f) (sym same ∙ is.0))

-- ---- the first frame is taken

-- the pool without its first frame
abbrev pub but_first : Pool → Option ℕ → Pool
but_first pool after = record { first = after; count = pool.count - 1 }

link-small : (word most : ℕ) → ((g : ℕ) → link word ≡ Some g → g < most) → word ≤ most
link-small zero most small = omega arith
link-small (suc g) most small = let below = small g refl in omega arith

-- what the first frame leads to is a frame of RAM
next-inside : (pool : Pool) (ram : List (List ℕ)) (f g : ℕ) → Good pool ram → pool.first ≡ Some f → next ram f ≡ Some g → g < FRAMES_MAX
unfolding free_in
next-inside pool ram f g good is leads =
    let s = split ram pool.first pool.count f is good.whole in
    let held = first-in ram (next ram f) (chain ram (next ram f) s.more) g leads s.rest in
    omega (arith, good.frames.inside g (omega (arith, ap (copies g) s.list, copies-cons g f (chain ram (next ram f) s.more), held)), good.small)

pub next-small : (pool : Pool) (ram : List (List ℕ)) (f : ℕ) → Good pool ram → pool.first ≡ Some f → word_at ram f 0 ≤ FRAMES_MAX
next-small pool ram f good is = link-small (word_at ram f 0) FRAMES_MAX (λ g leads. next-inside pool ram f g good is leads)

pub first-inside : (pool : Pool) (ram : List (List ℕ)) (f : ℕ) → Good pool ram → pool.first ≡ Some f → f < length ram
first-inside pool ram f good is = good.frames.inside f (omega (arith, first-in ram pool.first (free_in pool ram) f is good.whole))

-- the rest of the list stays, whatever happens to the first frame
pub rest-kept : (pool : Pool) (ram ram' : List (List ℕ)) (f : ℕ) → Good pool ram → pool.first ≡ Some f → OthersStay ram ram' f → free_in pool ram ≡ f ∷ free_in (but_first pool (next ram f)) ram'
unfolding free_in
rest-kept pool ram ram' f good is stay =
    let s = split ram pool.first pool.count f is good.whole in
    let apart = Once-apart (length ram) f (free_in pool ram) (chain ram (next ram f) s.more) (record { each = λ x. ap (copies x) s.list }) good.frames in
    let fewer : pool.count - 1 ≡ s.more = omega (arith, s.count) in
    s.list
    ∙ ap (λ fs. f ∷ fs) (sym (chain-kept ram ram' (next ram f) s.more (λ g has. stay.words g 0 (λ e. omega (arith, has, apart, ap (λ y. copies y (chain ram (next ram f) s.more)) e)))))
    ∙ ap (λ n. f ∷ chain ram' (next ram f) n) (sym fewer)

pub Good-but_first : (pool : Pool) (ram ram' : List (List ℕ)) (f : ℕ) → Good pool ram → pool.first ≡ Some f → OthersStay ram ram' f → Good (but_first pool (next ram f)) ram'
unfolding free_in
Good-but_first pool ram ram' f good is stay =
    let s = split ram pool.first pool.count f is good.whole in
    let list = rest-kept pool ram ram' f good is stay in
    let rest = free_in (but_first pool (next ram f)) ram' in
    let same : SameFrames (free_in pool ram) (f ∷ rest) = record { each = λ x. ap (copies x) list } in
    let apart = Once-apart (length ram) f (free_in pool ram) rest same good.frames in
    let tail : chain ram (next ram f) s.more ≡ rest = cc (s.list, list) in
    record {
      frames = subst (λ n. Once n rest) (sym stay.count) (Once-less (length ram) f (free_in pool ram) rest same good.frames);
      whole = IsChain-kept ram ram' (next ram f) rest (λ g has. stay.words g 0 (λ e. omega (arith, has, apart, ap (λ y. copies y rest) e))) (subst (λ fs. IsChain ram (next ram f) fs) tail s.rest);
      counted = omega (arith, good.counted, ap length list);
      small = omega (arith, good.small, stay.count);
    }

-- ---- a frame is put first

-- the pool with a frame put first
abbrev pub with_first : Pool → ℕ → Pool
with_first pool f = record { first = Some f; count = pool.count + 1 }

-- the frames that were free are, and the one put first
pub first-put : (pool : Pool) (ram ram' : List (List ℕ)) (f w : ℕ) → WordWritten ram ram' f 0 w → link w ≡ pool.first → copies f (free_in pool ram) ≡ 0
    → free_in (with_first pool f) ram' ≡ f ∷ free_in pool ram
unfolding free_in
first-put pool ram ram' f w put leads apart =
    let after : next ram' f ≡ pool.first = ap link put.here ∙ leads in
    ap (chain ram' (Some f)) (add-one pool.count)
    ∙ ap (λ o. f ∷ chain ram' o pool.count) after
    ∙ ap (λ fs. f ∷ fs) (chain-kept ram ram' pool.first pool.count (λ g has. put.stay.words g 0 (λ e. omega (arith, has, apart, ap (λ y. copies y (free_in pool ram)) e))))

pub Good-with_first : (pool : Pool) (ram ram' : List (List ℕ)) (f w : ℕ) → Good pool ram → f < length ram → WordWritten ram ram' f 0 w → link w ≡ pool.first → copies f (free_in pool ram) ≡ 0
    → Good (with_first pool f) ram'
Good-with_first pool ram ram' f w good inside put leads apart =
    let list = first-put pool ram ram' f w put leads apart in
    let after : next ram' f ≡ pool.first = ap link put.here ∙ leads in
    let old : IsChain ram' pool.first (free_in pool ram) =
    IsChain-kept ram ram' pool.first (free_in pool ram)
    (λ g has. put.stay.words g 0 (λ e. omega (arith, has, apart, ap (λ y. copies y (free_in pool ram)) e))) good.whole in
    let new : IsChain ram' (Some f) (f ∷ free_in pool ram) = (refl, subst (λ o. IsChain ram' o (free_in pool ram)) (sym after) old) in
    record {
      frames = subst (λ n. Once n (free_in (with_first pool f) ram')) (sym put.stay.count)
          (Once-more (length ram) f (free_in (with_first pool f) ram') (free_in pool ram) (record { each = λ x. ap (copies x) list })
          inside apart good.frames);
      whole = subst (λ fs. IsChain ram' (Some f) fs) (sym list) new;
      counted = omega (arith, good.counted, ap length list);
      small = omega (arith, good.small, put.stay.count);
    }

-- while a frame isn't free, fewer are free than RAM has
pub not-all-free : (pool : Pool) (ram : List (List ℕ)) (f : ℕ) → Good pool ram → f < length ram → copies f (free_in pool ram) ≡ 0 → pool.count < FRAMES_MAX
not-all-free pool ram f good inside apart = omega (arith, length-once-but (length ram) f (free_in pool ram) good.frames inside apart, good.counted, good.small)

-- ---- RAM changes elsewhere

-- where the free frames keep their first words, they stay the free frames
pub free_in-kept : (pool : Pool) (ram ram' : List (List ℕ)) → ((f : ℕ) → 1 ≤ copies f (free_in pool ram) → word_at ram' f 0 ≡ word_at ram f 0) → free_in pool ram' ≡ free_in pool ram
unfolding free_in
free_in-kept pool ram ram' same = chain-kept ram ram' pool.first pool.count same

pub Good-kept : (pool : Pool) (ram ram' : List (List ℕ)) → Good pool ram → length ram' ≡ length ram → ((f : ℕ) → 1 ≤ copies f (free_in pool ram) → word_at ram' f 0 ≡ word_at ram f 0) → Good pool ram'
Good-kept pool ram ram' good count same =
    let list = free_in-kept pool ram ram' same in
    record {
      frames = rw (count, list) good.frames;
      whole = rw list (IsChain-kept ram ram' pool.first (free_in pool ram) same good.whole);
      counted = ap length list ∙ good.counted;
      small = omega (arith, good.small, count);
    }

words-elsewhere : (pool : Pool) (ram ram' : List (List ℕ)) (f : ℕ) → OthersStay ram ram' f → copies f (free_in pool ram) ≡ 0 → (g : ℕ) → 1 ≤ copies g (free_in pool ram)
    → word_at ram' g 0 ≡ word_at ram g 0
words-elsewhere pool ram ram' f stay apart g has = stay.words g 0 (λ e. omega (arith, has, apart, ap (λ y. copies y (free_in pool ram)) e))

-- a write to a frame that isn't free leaves the free frames
pub free_in-written : (pool : Pool) (ram ram' : List (List ℕ)) (f : ℕ) → Good pool ram → OthersStay ram ram' f → copies f (free_in pool ram) ≡ 0 → free_in pool ram' ≡ free_in pool ram
free_in-written pool ram ram' f good stay apart = free_in-kept pool ram ram' (words-elsewhere pool ram ram' f stay apart)

pub Good-written : (pool : Pool) (ram ram' : List (List ℕ)) (f : ℕ) → Good pool ram → OthersStay ram ram' f → copies f (free_in pool ram) ≡ 0 → Good pool ram'
Good-written pool ram ram' f good stay apart = Good-kept pool ram ram' good stay.count (words-elsewhere pool ram ram' f stay apart)

-- no frame is free in an empty list
pub Good-empty : (ram : List (List ℕ)) → length ram ≤ FRAMES_MAX → Good (record { first = None; count = 0 }) ram
unfolding free_in
Good-empty ram small = record {
  frames = record { inside = λ x p. absurd (omega (arith, copies-nil x)); once = λ x. omega (arith, copies-nil x) };
  whole = tt;
  counted = refl;
  small = small;
}
