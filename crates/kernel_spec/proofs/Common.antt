-- Small facts that several files need: of options, truth values, lists and counts, and of what is read off a process or a view.
use Rattle.kernel_spec.proofs.Prelude.{[], ℕ, ◌&&◌, ◌+◌, ◌<◌, ◌>>=◌, ◌>>◌, ◌or◌, ◌when◌, ◌||◌, ◌∙◌, ◌∷◌, ◌≡◌, ◌≢◌, ◌≤◌, Alive, ap, arith, Bool, child_of, cond, count_below, Descriptors, eqb-true}
use Rattle.kernel_spec.proofs.Prelude.{eqb_tells, false, false≢true, inl, inr, is_same, is_some, is_this, IsSome, keys, length, List, Live, live_part, ltb-false, ltb-true, marked, named, nat_lt}
use Rattle.kernel_spec.proofs.Prelude.{NOFILE, None, none-some, numbered, Ok, Option, option_map, Own, Process, refl, rename, Result, same_Some, Some, State, suc, sum_below, sym, true, View, view_of}
use Rattle.kernel_spec.proofs.Prelude.{zero, Zombie}
pub use Rattle.xk_base.proofs.Options.{none_from_is_some, none_from_is_none, none_either_way}

-- ---- options

pub the_value : {A : Type 0} (o : Option A) → IsSome o → (x : A) × (o ≡ Some x)
the_value None some = let no : ⊥ = cc in absurd no
the_value (Some x) some = (x, refl)

pub none_has_no_value : {A : Type 0} (o : Option A) → o ≡ None → IsSome o → ⊥
none_has_no_value o none some = false≢true (sym (ap is_some none) ∙ some)

pub is_some-map : {A B : Type 0} (f : A → B) (o : Option A) → is_some (option_map f o) ≡ is_some o
is_some-map f None = refl
is_some-map f (Some x) = refl

pub there_if_so : {A : Type 0} (b : Bool) (o : Option A) (x : A) → cond b o None ≡ Some x → (b ≡ true) × (o ≡ Some x)
there_if_so true o x e = (refl, e)
there_if_so false o x e = absurd (none-some x e)

-- ---- results

pub same_Ok : {A E : Type 0} (x y : A) → ◌≡◌ {A = Result A E} (Ok x) (Ok y) → x ≡ y
same_Ok x y e = cc

-- ---- truth values

pub or_false : (b : Bool) → b ≡ (b || false)
or_false true = refl
or_false false = refl

pub and_true : (b : Bool) → (b && true) ≡ b
and_true true = refl
and_true false = refl

pub or_assoc : (a b c : Bool) → ((a || b) || c) ≡ (a || (b || c))
or_assoc true b c = refl
or_assoc false b c = refl

-- ---- lists

pub no_bytes : (xs : List ℕ) → nat_lt 0 (length xs) ≡ false → xs ≡ []
no_bytes [] e = refl
no_bytes (x ∷ xs) e = let k : ℕ = length xs in let low : suc k ≤ 0 = ltb-false 0 (suc k) e in absurd (omega arith)

pub same_first : {A : Type 0} (x y : A) (xs ys : List A) → x ∷ xs ≡ y ∷ ys → x ≡ y
same_first x y xs ys e = cc

pub same_rest : {A : Type 0} (x y : A) (xs ys : List A) → x ∷ xs ≡ y ∷ ys → xs ≡ ys
same_rest x y xs ys e = cc

-- ---- the numbers below a bound that pass a test

pub count_below-same : (n : ℕ) (P Q : ℕ → Bool) → ((d : ℕ) → d < n → P d ≡ Q d) → count_below P n ≡ count_below Q n
unfolding count_below
count_below-same zero P Q same = refl
count_below-same (suc n) P Q same = λ i. count_below-same n P Q (λ d below. same d (omega arith)) i + cond (same n (omega arith) i) 1 0

pub count_below-none : (n : ℕ) (P : ℕ → Bool) → ((d : ℕ) → d < n → P d ≡ false) → count_below P n ≡ 0
unfolding count_below
count_below-none zero P none = refl
count_below-none (suc n) P none = λ i. count_below-none n P (λ d below. none d (omega arith)) i + cond (none n (omega arith) i) 1 0

-- ---- sums

pub sum_below-zero : (n : ℕ) (f : ℕ → ℕ) → ((i : ℕ) → i < n → f i ≡ 0) → sum_below n f ≡ 0
unfolding sum_below
sum_below-zero zero f zeros = refl
sum_below-zero (suc n) f zeros = omega (arith, sum_below-zero n f (λ i low. zeros i (omega arith)), zeros n (omega arith))

-- ---- an optional number that is this one

pub this_is : (n : ℕ) (o : Option ℕ) → is_this n o ≡ true → o ≡ Some n
this_is n None e = let no : ⊥ = cc in absurd no
this_is n (Some k) e = ap Some (eqb-true k n e)

pub this_is_not : (n : ℕ) (o : Option ℕ) → o ≢ Some n → is_this n o ≡ false
this_is_not n None apart = refl
this_is_not n (Some k) apart = elim (eqb_tells k n) [ inl e ↦ absurd (apart (ap Some e.1)) | inr e ↦ e.0 ]

pub none_is_same : (o : Option ℕ) → is_same o None ≡ false
none_is_same None = refl
none_is_same (Some n) = refl

-- ---- processes

pub alive_part : (o : Option Process) (m : Live) → live_part o ≡ Some m → o ≡ Some (Alive m)
alive_part None m e = let no : ⊥ = cc in absurd no
alive_part (Some (Alive l)) m e = let same : l ≡ m = cc in ap (λ (x : Live). Some (Alive x)) same
alive_part (Some (Zombie parent status)) m e = let no : ⊥ = cc in absurd no

pub same_live : (a b : Live) → Some (Alive a) ≡ Some (Alive b) → a ≡ b
same_live a b e = cc

pub there_if_alive : (o : Option Process) → IsSome (live_part o) → IsSome o
there_if_alive None alive = alive
there_if_alive (Some x) alive = refl

pub marked_again : (x : Process) → marked (marked x) ≡ marked x
marked_again (Alive l) = refl
marked_again (Zombie parent status) = refl

pub marked_child : (q : ℕ) (b : Bool) (o : Option Process) → child_of q (cond b (option_map marked o) o) ≡ child_of q o
marked_child q true None = refl
marked_child q true (Some (Alive l)) = refl
marked_child q true (Some (Zombie parent status)) = refl
marked_child q false o = refl

pub gone_child : (q : ℕ) (b : Bool) (o : Option Process) → child_of q (cond b None o) ≡ cond b None (child_of q o)
gone_child q true o = refl
gone_child q false o = refl

-- ---- views

pub is_some-view : (o : Option Live) (s : State) (p : ℕ) → is_some (option_map (view_of s p) o) ≡ is_some o
is_some-view None s p = refl
is_some-view (Some l) s p = refl

-- a view names the processes of the state
pub view_pids : (s : State) (p : ℕ) (o : Option Live) (v : View) → option_map (view_of s p) o ≡ Some v → v.pids ≡ keys s.processes
unfolding view_of
view_pids s p None v e = let no : ⊥ = cc in absurd no
view_pids s p (Some l) v e = sym (ap (λ (u : View). u.pids) (same_Some (view_of s p l) v e))

-- descriptors have numbers below NOFILE
pub named_low : (t : Descriptors) (d : ℕ) → IsSome (named t d) → d < NOFILE
unfolding named
named_low t d there = by (nat_lt d NOFILE) refl there
  where
    by : (b : Bool) → nat_lt d NOFILE ≡ b → IsSome (cond b (option_map (rename t) (t d)) None) → d < NOFILE
    by true low there = ltb-true d NOFILE low
    by false high there = let no : ⊥ = cc in absurd no

pub view_low : (s : State) (p : ℕ) (o : Option Live) (v : View) → option_map (view_of s p) o ≡ Some v → (d : ℕ) → IsSome (v.descriptors d) → d < NOFILE
unfolding view_of
view_low s p None v e d there = let no : ⊥ = cc in absurd no
view_low s p (Some l) v e d there = named_low (numbered s l) d (ap (λ (u : View). is_some (u.descriptors d)) (same_Some (view_of s p l) v e) ∙ there)

-- ---- a line of a row that is passed

pub takes : {A : Type 0} (o : Option A) (a : A) (e : Own) (f : A → Own) → o ≡ Some a → ((o or e) >>= f) ≡ f a
unfolding ◌>>=◌ ◌or◌
takes {A = A} o a e f is = ap (λ (o : Option A). (o or e) >>= f) is

pub passes : (b : Bool) (e x : Own) → b ≡ false → ((e when b) >> x) ≡ x
unfolding ◌>>◌ ◌when◌
passes b e x is = ap (λ (b : Bool). (e when b) >> x) is
