-- The pipes where each descriptor of a process is counted once more, and where each is closed.
use Rattle.kernel_spec.proofs.Prelude.{ℕ, ◌&&◌, ◌+◌, ◌<◌, ◌∙◌, ◌≡◌, ◌≢◌, ap, arith, Bool, cond, count_below, End, end_of, eq-eqb, eqb_tells, false, File, FinMap, get, inl, inr, is_end, joined, Live}
use Rattle.kernel_spec.proofs.Prelude.{more_at, more_on, more_on_all, nat_cmp, nat_eq, NOFILE, None, numbered, on_end, OpenFile, Option, option_map, Pipe, Pipe_end, pipe_of_target, Reading, refl}
use Rattle.kernel_spec.proofs.Prelude.{Some, State, suc, sym, Target, target_of_open, Terminal, true, Writing, zero}
use Rattle.kernel_spec.proofs.steps.SeenByParts.{pipe_of_file, pipe_of_open, descriptor_at, descriptor_on}
use Rattle.kernel_spec.proofs.steps.MapsAfterChange.{get_at}
use Rattle.kernel_spec.proofs.Common.{count_below-none}

-- ---- whether a target is an end of pipe j

abbrev pub hits : ℕ → End → Option Target → Bool
hits j end None = false
hits j end (Some Terminal) = false
hits j end (Some (File program offset)) = false
hits j end (Some (Pipe_end i e)) = nat_eq i j && is_end end e

hits_shown : (s : State) (j : ℕ) (end : End) (g : ℕ) (r w : Bool) (x : Target) → on_end j end (descriptor_on s g (Some (record { read = r; write = w; target = x }))) ≡ hits j end (Some x)
hits_shown s j end g r w Terminal = refl
hits_shown s j end g r w (File program offset) = refl
hits_shown s j end g r w (Pipe_end i e) = refl

hits_open : (s : State) (j : ℕ) (end : End) (g : ℕ) (o : Option OpenFile) → on_end j end (descriptor_on s g o) ≡ hits j end (target_of_open o)
hits_open s j end g None = refl
hits_open s j end g (Some x) = hits_shown s j end g x.read x.write x.target

pub hits_at : (s : State) (j : ℕ) (end : End) (o : Option ℕ) → on_end j end (descriptor_at s o) ≡ hits j end (end_of s o)
hits_at s j end None = refl
hits_at s j end (Some g) = hits_open s j end g (get s.files g)

-- ---- counts

abbrev pub plus : Pipe → ℕ → ℕ → Pipe
plus x a b = record x { readers = x.readers + a; writers = x.writers + b }

pub plus_none : (x : Pipe) → plus x 0 0 ≡ x
plus_none x = let a : x.readers + 0 ≡ x.readers = omega arith in let b : x.writers + 0 ≡ x.writers = omega arith in λ i. record x { readers = a i; writers = b i }

pub plus_plus : (x : Pipe) (a b c d : ℕ) → plus (plus x a b) c d ≡ plus x (a + c) (b + d)
plus_plus x a b c d = let e : x.readers + a + c ≡ x.readers + (a + c) = omega arith in let f : x.writers + b + d ≡ x.writers + (b + d) = omega arith in λ i. record x { readers = e i; writers = f i }

abbrev pub one : Bool → ℕ
one b = cond b 1 0

option_plus_none : (o : Option Pipe) → o ≡ option_map (λ x. plus x 0 0) o
option_plus_none None = refl
option_plus_none (Some x) = ap Some (sym (plus_none x))

option_plus_plus : (a b c d : ℕ) (o : Option Pipe) → option_map (λ x. plus x c d) (option_map (λ x. plus x a b) o) ≡ option_map (λ x. plus x (a + c) (b + d)) o
option_plus_plus a b c d None = refl
option_plus_plus a b c d (Some x) = ap Some (plus_plus x a b c d)

joined_is : (x : Pipe) (e : End) (b : Bool) → b ≡ true → joined x e 1 ≡ plus x (one (b && is_end Reading e)) (one (b && is_end Writing e))
joined_is x Reading b h = let z : x.writers ≡ x.writers + 0 = omega arith in (λ i. record x { readers = x.readers + 1; writers = z i }) ∙ (λ i. plus x (one (sym h i && true)) (one (sym h i && false)))
joined_is x Writing b h = let z : x.readers ≡ x.readers + 0 = omega arith in (λ i. record x { readers = z i; writers = x.writers + 1 }) ∙ (λ i. plus x (one (sym h i && false)) (one (sym h i && true)))

no_hit : (o : Option Pipe) (e : End) (b : Bool) → b ≡ false → o ≡ option_map (λ x. plus x (one (b && is_end Reading e)) (one (b && is_end Writing e))) o
no_hit o e b h = option_plus_none o ∙ (λ i. option_map (λ x. plus x (one (sym h i && is_end Reading e)) (one (sym h i && is_end Writing e))) o)

more_pipe : (i : ℕ) (e : End) (m : FinMap nat_cmp Pipe) (j : ℕ) (a : Option Pipe) → get m i ≡ a
    → get (more_at i e m a) j ≡ option_map (λ x. plus x (one (nat_eq i j && is_end Reading e)) (one (nat_eq i j && is_end Writing e))) (get m j)
more_pipe i e m j None is = elim (eqb_tells i j) [
  | inl h ↦ let none : get m j ≡ None = ap (get m) (sym h.1) ∙ is in
      none ∙ ap (option_map (λ (x : Pipe). plus x (one (nat_eq i j && is_end Reading e)) (one (nat_eq i j && is_end Writing e)))) (sym none)
  | inr h ↦ no_hit (get m j) e (nat_eq i j) h.0
]
more_pipe i e m j (Some x) is = elim (eqb_tells i j) [
  | inl h ↦
      get_at m i (joined x e 1) j ∙ ap (λ (b : Bool). cond b (Some (joined x e 1)) (get m j)) (eq-eqb j i (sym h.1)) ∙ ap Some (joined_is x e (nat_eq i j) h.0)
      ∙ ap (option_map (λ (x : Pipe). plus x (one (nat_eq i j && is_end Reading e)) (one (nat_eq i j && is_end Writing e)))) (sym (ap (get m) (sym h.1) ∙ is))
  | inr h ↦
      get_at m i (joined x e 1) j ∙ elim (eqb_tells j i) [ inl g ↦ absurd (h.1 (sym g.1)) | inr g ↦ ap (λ (b : Bool). cond b (Some (joined x e 1)) (get m j)) g.0 ]
      ∙ no_hit (get m j) e (nat_eq i j) h.0
]

more_step : (o : Option Target) (m : FinMap nat_cmp Pipe) (j : ℕ) → get (more_on o m) j ≡ option_map (λ x. plus x (one (hits j Reading o)) (one (hits j Writing o))) (get m j)
more_step None m j = option_plus_none (get m j)
more_step (Some Terminal) m j = option_plus_none (get m j)
more_step (Some (File program offset)) m j = option_plus_none (get m j)
more_step (Some (Pipe_end i e)) m j = more_pipe i e m j (get m i) refl

module _ (s : State) (l : Live) where
  -- how many of the first n descriptors are on an end
  abbrev pub among : ℕ → ℕ → End → ℕ
  among n j end = count_below (λ d. on_end j end (numbered s l d)) n

  pub among_more : (n j : ℕ) (end : End) → among (suc n) j end ≡ among n j end + one (hits j end (end_of s (get l.descriptors n)))
  unfolding count_below
  among_more n j end = ap (λ (b : Bool). among n j end + one b) (hits_at s j end (get l.descriptors n))

  among_none : (j : ℕ) (end : End) → among 0 j end ≡ 0
  unfolding count_below
  among_none j end = refl

  -- each pipe has as many more as descriptors are on it
  pub get-more_on_all : (n j : ℕ) → get (more_on_all s l n) j ≡ option_map (λ x. plus x (among n j Reading) (among n j Writing)) (get s.pipes j)
  unfolding more_on_all
  get-more_on_all zero j = option_plus_none (get s.pipes j) ∙ (λ i. option_map (λ x. plus x (sym (among_none j Reading) i) (sym (among_none j Writing) i)) (get s.pipes j))
  get-more_on_all (suc n) j =
      more_step (end_of s (get l.descriptors n)) (more_on_all s l n) j
      ∙ ap (option_map (λ (x : Pipe). plus x (one (hits j Reading (end_of s (get l.descriptors n)))) (one (hits j Writing (end_of s (get l.descriptors n)))))) (get-more_on_all n j)
      ∙ option_plus_plus (among n j Reading) (among n j Writing) (one (hits j Reading (end_of s (get l.descriptors n)))) (one (hits j Writing (end_of s (get l.descriptors n)))) (get s.pipes j)
      ∙ (λ i. option_map (λ x. plus x (sym (among_more n j Reading) i) (sym (among_more n j Writing) i)) (get s.pipes j))

-- ---- nobody on a pipe

open_misses : (j : ℕ) (end : End) (o : Option OpenFile) → pipe_of_open o ≢ Some j → hits j end (target_of_open o) ≡ false
open_misses j end None h = refl
open_misses j end (Some x) h = target_misses x.target h
  where
    target_misses : (y : Target) → pipe_of_target y ≢ Some j → hits j end (Some y) ≡ false
    target_misses Terminal g = refl
    target_misses (File program offset) g = refl
    target_misses (Pipe_end i e) g = elim (eqb_tells i j) [ inl same ↦ absurd (g (ap Some same.1)) | inr apart ↦ ap (λ (b : Bool). b && is_end end e) apart.0 ]

pub misses : (s : State) (j : ℕ) (end : End) (o : Option ℕ) → pipe_of_file s o ≢ Some j → hits j end (end_of s o) ≡ false
misses s j end None h = refl
misses s j end (Some g) h = open_misses j end (get s.files g) h

pub among_nobody : (s : State) (l : Live) (n j : ℕ) (end : End) → ((e : ℕ) → e < n → pipe_of_file s (get l.descriptors e) ≢ Some j) → among s l n j end ≡ 0
among_nobody s l n j end h = count_below-none n (λ d. on_end j end (numbered s l d)) (λ d below. hits_at s j end (get l.descriptors d) ∙ misses s j end (get l.descriptors d) (h d below))

pub more_on_none : (s : State) (l : Live) (j : ℕ) → ((e : ℕ) → e < NOFILE → pipe_of_file s (get l.descriptors e) ≢ Some j) → get (more_on_all s l NOFILE) j ≡ get s.pipes j
more_on_none s l j h =
    get-more_on_all s l NOFILE j
    ∙ (λ i. option_map (λ x. plus x (among_nobody s l NOFILE j Reading h i) (among_nobody s l NOFILE j Writing h i)) (get s.pipes j))
    ∙ sym (option_plus_none (get s.pipes j))
