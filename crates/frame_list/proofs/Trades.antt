-- Frames that go between a pool and an owner.
use Rattle.std.proofs.Common.{◌≡◌, ◌≢◌, ℕ, ◌+◌, ◌≤◌, List, [], ◌∷◌, ◌++◌, length, refl, sym, ap, ◌∙◌, arith}
use Rattle.std.proofs.lemmas.List.{length-append}
use Rattle.xk_base.specs.Frames.{copies}
use Rattle.xk_base.proofs.Frames.{at, at-same, at-other, copies-nil, copies-one, copies-append, same-cons, length-same, length-once, Once-first, SameFrames}
use Rattle.phys_ram.specs.Ram.{frame_at, zero_frame, OthersStay}
use Rattle.frame_list.specs.declared.Pool.{Pool}
use Rattle.frame_list.specs.Pool.{free_in, Good}
use Rattle.frame_list.specs.Traded.{Traded, Taken, Given, Untouched}

-- ---- one frame

-- a free frame f is cleared and no longer free
pub taken-first : (pool pool' : Pool) (ram ram' : List (List ℕ)) (f : ℕ) → Good pool ram → Good pool' ram' → length ram' ≡ length ram → SameFrames (free_in pool ram) (f ∷ free_in pool' ram')
    → frame_at ram' f ≡ zero_frame → ((g : ℕ) → g ≢ f → frame_at ram' g ≡ frame_at ram g) → Taken pool ram pool' ram' f
taken-first pool pool' ram ram' f good good' count same zeros others = record {
  traded = record {
    good = good';
    count = count;
    frames = λ x. omega (arith, same-cons x f (free_in pool ram) (free_in pool' ram') same, copies-one x f, copies-nil x);
    others = λ g free none. others g (λ e. omega (arith, same-cons g f (free_in pool ram) (free_in pool' ram') same, free, ap (λ y. at y f) e, at-same f));
  };
  inside = omega (arith, count, Once-first (length ram) f (free_in pool ram) (free_in pool' ram') same good.frames);
  zeros = zeros;
}

-- frame f is free now
pub given-first : (pool pool' : Pool) (ram ram' : List (List ℕ)) (f : ℕ) → Good pool' ram' → length ram' ≡ length ram → SameFrames (free_in pool' ram') (f ∷ free_in pool ram)
    → ((g : ℕ) → g ≢ f → frame_at ram' g ≡ frame_at ram g) → Given pool ram pool' ram' f
given-first pool pool' ram ram' f good' count same others = record {
  good = good';
  count = count;
  frames = λ x. omega (arith, same-cons x f (free_in pool' ram') (free_in pool ram) same, copies-one x f, copies-nil x);
  others = λ g free none. others g (λ e. omega (arith, copies-one g f, none, ap (λ y. at y f) e, at-same f));
}

-- the same, where the free frames are a list, and f alone may have changed
pub taken-list : (pool pool' : Pool) (ram ram' : List (List ℕ)) (f : ℕ) → Good pool ram → Good pool' ram' → free_in pool ram ≡ f ∷ free_in pool' ram' → OthersStay ram ram' f
    → frame_at ram' f ≡ zero_frame → Taken pool ram pool' ram' f
taken-list pool pool' ram ram' f good good' list stay zeros = taken-first pool pool' ram ram' f good good' stay.count (record { each = λ x. ap (copies x) list }) zeros stay.others

pub given-list : (pool pool' : Pool) (ram ram' : List (List ℕ)) (f : ℕ) → Good pool' ram' → free_in pool' ram' ≡ f ∷ free_in pool ram → OthersStay ram ram' f → Given pool ram pool' ram' f
given-list pool pool' ram ram' f good' list stay = given-first pool pool' ram ram' f good' stay.count (record { each = λ x. ap (copies x) list }) stay.others

-- the frame that is taken was free, and no longer is
pub taken-free : (pool pool' : Pool) (ram ram' : List (List ℕ)) (f : ℕ) → Taken pool ram pool' ram' f → SameFrames (free_in pool ram) (f ∷ free_in pool' ram')
taken-free pool pool' ram ram' f t = record { each = λ x. omega (arith, t.traded.frames x, copies-one x f, copies-nil x, copies-append x (f ∷ []) (free_in pool' ram')) }

-- the frame that is given back is free
pub given-free : (pool pool' : Pool) (ram ram' : List (List ℕ)) (f : ℕ) → Given pool ram pool' ram' f → SameFrames (free_in pool' ram') (f ∷ free_in pool ram)
given-free pool pool' ram ram' f t = record { each = λ x. omega (arith, t.frames x, copies-one x f, copies-nil x, copies-append x (f ∷ []) (free_in pool ram)) }

-- where none was free and nothing changed, none is
pub untouched-none : (pool pool' : Pool) (ram ram' : List (List ℕ)) → free_in pool ram ≡ [] → Untouched pool ram pool' ram' → (f : ℕ) → copies f (free_in pool' ram') ≡ 0
untouched-none pool pool' ram ram' none u f = ap (λ p. copies f (free_in p ram')) u.same_pool ∙ ap (λ r. copies f (free_in pool r)) u.same_ram ∙ ap (copies f) none ∙ copies-nil f

-- the only free frame is the one given back
pub given-other : (pool pool' : Pool) (ram ram' : List (List ℕ)) (f g : ℕ) → Given pool ram pool' ram' f → copies g (free_in pool ram) ≡ 0 → g ≢ f → copies g (free_in pool' ram') ≡ 0
given-other pool pool' ram ram' f g t none apart = omega (arith, t.frames g, none, copies-one g f, copies-nil g, at-other g f apart)

-- ---- many frames

-- nothing goes
pub trade-none : (pool : Pool) (ram : List (List ℕ)) (mine : List ℕ) → Good pool ram → Traded pool ram pool ram mine mine
trade-none pool ram mine good = record { good = good; count = refl; frames = λ f. refl; others = λ f a b. refl }

-- one trade after another
pub trade-join : (pool0 pool1 pool2 : Pool) (ram0 ram1 ram2 : List (List ℕ)) (a b c : List ℕ) → Traded pool0 ram0 pool1 ram1 a b → Traded pool1 ram1 pool2 ram2 b c → Traded pool0 ram0 pool2 ram2 a c
trade-join pool0 pool1 pool2 ram0 ram1 ram2 a b c s t = record {
  good = t.good;
  count = t.count ∙ s.count;
  frames = λ f. t.frames f ∙ s.frames f;
  others = λ f free own. t.others f (omega (arith, s.frames f, free, own)) (omega (arith, s.frames f, free, own)) ∙ s.others f free own;
}

-- a trade leaves the frames of every other owner, who shares none with the free ones or the first
pub trade-beside : (pool pool' : Pool) (ram ram' : List (List ℕ)) (mine mine' : List ℕ) → Traded pool ram pool' ram' mine mine' → (f : ℕ) → copies f (free_in pool ram) + copies f mine ≡ 0
    → (frame_at ram' f ≡ frame_at ram f) × (copies f (free_in pool' ram') + copies f mine' ≡ 0)
trade-beside pool pool' ram ram' mine mine' t f none = (t.others f (omega (arith, none)) (omega (arith, none)), t.frames f ∙ none)

-- no frame is lost
pub trade-lengths : (pool pool' : Pool) (ram ram' : List (List ℕ)) (mine mine' : List ℕ) → Traded pool ram pool' ram' mine mine'
    → length (free_in pool' ram') + length mine' ≡ length (free_in pool ram) + length mine
trade-lengths pool pool' ram ram' mine mine' t =
    let same : SameFrames (free_in pool' ram' ++ mine') (free_in pool ram ++ mine) =
    record { each = λ f. copies-append f (free_in pool' ram') mine' ∙ t.frames f ∙ sym (copies-append f (free_in pool ram) mine) } in
    sym (length-append (free_in pool' ram') mine') ∙ length-same (free_in pool' ram' ++ mine') (free_in pool ram ++ mine) same ∙ length-append (free_in pool ram) mine

-- no more frames are free than RAM has
pub free-few : (pool : Pool) (ram : List (List ℕ)) → Good pool ram → length (free_in pool ram) ≤ length ram
free-few pool ram good = length-once (length ram) (free_in pool ram) good.frames
