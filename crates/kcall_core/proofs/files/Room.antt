-- There is room to count: no open file is named by more descriptors than there are, no end of a pipe has more on it, and a kernel with a free slot has fewer processes than slots.
use Rattle.kcall_core.proofs.Prelude.{ℕ, ◌*◌, ◌+◌, ◌<◌, ◌∙◌, ◌≡◌, ◌≤◌, Alive, ap, AreCounted, arith, Bool, by_pid, cases_lt, count_at, count_below, count_on, CountedFile, descriptors_at, End}
use Rattle.kcall_core.proofs.Prelude.{entry_at, false, FinMap, get, get-empty, get_other, Hart, if◌then◌else◌, inl, inr, insert, Kernel, List, named_in, namings, nat_cmp, NOFILE, None, NPROC}
use Rattle.kcall_core.proofs.Prelude.{numbered, on, on_end, OPEN_FILES, Option, or_zero, over_all, Pipe, put, Reading, refl, SHARERS_MAX, Slots, Some, State, state_of, suc, sum_below, sum_below-zero}
use Rattle.kcall_core.proofs.Prelude.{sum_change, sum_same, true, WellFormed, Writing, zero, Zombie}
use Rattle.kernel_spec.specs.views.Processes.{Process}

-- ---- counts and sums

pub count-few : (test : ℕ → Bool) (n : ℕ) → count_below test n ≤ n
unfolding count_below
count-few test zero = omega arith
count-few test (suc n) = by (test n) (count-few test n)
  where
    by : (b : Bool) → count_below test n ≤ n → count_below test n + (if b then 1 else 0) ≤ suc n
    by true less = omega (arith, less)
    by false less = omega (arith, less)

pub sum-few : (n b : ℕ) (f : ℕ → ℕ) → ((i : ℕ) → f i ≤ b) → sum_below n f ≤ n * b
unfolding sum_below
sum-few zero b f few = omega arith
sum-few (suc n) b f few = let a : ℕ = sum_below n f in let c : ℕ = f n in let m : ℕ = n * b in let l : a ≤ m = sum-few n b f few in
    let r : c ≤ b = few n in let goal : a + c ≤ m + b = omega arith in by goal
  where
    by : sum_below n f + f n ≤ n * b + b → sum_below n f + f n ≤ suc n * b
    by less = omega (arith, less)

-- ---- open files

pub namings-few : (t : Slots) (file : ℕ) → namings t file ≤ OPEN_FILES
namings-few t file = sum-few NPROC NOFILE (λ slot. named_in (descriptors_at t slot) file) (λ slot. count-few _ NOFILE)

pub file-room : (files : List (Option CountedFile)) (t : Slots) (file : ℕ) → AreCounted files t → (n : ℕ) → count_at files file ≡ Some n → n < SHARERS_MAX
file-room files t file counted n is = let counts : or_zero (count_at files file) ≡ n = ap or_zero is in omega (arith, counts, counted.counts file, namings-few t file)

-- ---- over all processes: as many as slots, at most

module _ {X : Type 0} (f : Option X → ℕ) (b : ℕ) (nothing : f None ≡ 0) (few : (o : Option X) → f o ≤ b) where
  put-few : (N : ℕ) (m : FinMap nat_cmp X) (o : Option (ℕ × X)) → sum_below N (λ q. f (get (put m o) q)) ≤ sum_below N (λ q. f (get m q)) + b
  put-few N m None = omega arith
  put-few N m (Some e) = elim (cases_lt e.0 N) [
    | inl inside ↦
        let before : ℕ = sum_below N (λ q. f (get m q)) in
        let after : ℕ = sum_below N (λ q. f (get (insert m e.0 e.1) q)) in
        let was : ℕ = f (get m e.0) in
        let is : ℕ = f (get (insert m e.0 e.1) e.0) in
        let change : after + was ≡ before + is = sum_change N e.0 (λ q. f (get (insert m e.0 e.1) q)) (λ q. f (get m q)) inside (λ q apart. ap f (get_other m e.0 e.1 q apart)) in
        let most : is ≤ b = few (get (insert m e.0 e.1) e.0) in
        let goal : after ≤ before + b = omega arith in goal
    | inr outside ↦
        let before : ℕ = sum_below N (λ q. f (get m q)) in
        let after : ℕ = sum_below N (λ q. f (get (insert m e.0 e.1) q)) in
        let same : after ≡ before = sum_same N (λ q. f (get (insert m e.0 e.1) q)) (λ q. f (get m q))
        (λ q below. ap f (get_other m e.0 e.1 q (λ at. let here : q ≡ e.0 = at in omega (arith, here, below, outside)))) in
        let goal : after ≤ before + b = omega arith in goal
  ]

  pub by_pid-few : (g : ℕ → Option (ℕ × X)) (n N : ℕ) → sum_below N (λ q. f (get (by_pid g n) q)) ≤ n * b
  unfolding by_pid
  by_pid-few g zero N = let none : sum_below N (λ q. f (get (by_pid g zero) q)) ≡ 0 =
      sum_below-zero N (λ q. f (get (by_pid g zero) q)) (λ q low. ap f (get-empty nat_cmp q) ∙ nothing) in omega (arith, none)
  by_pid-few g (suc n) N =
      let before : ℕ = sum_below N (λ q. f (get (by_pid g n) q)) in
      let after : ℕ = sum_below N (λ q. f (get (put (by_pid g n) (g n)) q)) in
      let step : after ≤ before + b = put-few N (by_pid g n) (g n) in
      let m : ℕ = n * b in
      let rest : before ≤ m = by_pid-few g n N in
      let goal : after ≤ m + b = omega arith in by goal
    where
      by : sum_below N (λ q. f (get (put (by_pid g n) (g n)) q)) ≤ n * b + b → sum_below N (λ q. f (get (put (by_pid g n) (g n)) q)) ≤ suc n * b
      by less = omega (arith, less)

-- ---- ends of pipes

on-few : (s : State) (i : ℕ) (end : End) (o : Option Process) → on s i end o ≤ NOFILE
on-few s i end None = omega arith
on-few s i end (Some (Alive l)) = count-few (λ d. on_end i end (numbered s l d)) NOFILE
on-few s i end (Some (Zombie parent status)) = omega arith

pub ends-few : (k : Kernel) (h : Hart) (frames i : ℕ) (x : Pipe) (end : End) → WellFormed frames (state_of k h) → get (state_of k h).pipes i ≡ Some x → count_on end x ≤ OPEN_FILES
unfolding state_of
ends-few k h frames i x Reading well there =
    let s = state_of k h in
    let few : over_all s (on s i Reading) ≤ OPEN_FILES = by_pid-few (on s i Reading) NOFILE refl (on-few s i Reading) (entry_at k h) NPROC s.next_pid in
    omega (arith, well.readers i x there, few)
ends-few k h frames i x Writing well there =
    let s = state_of k h in
    let few : over_all s (on s i Writing) ≤ OPEN_FILES = by_pid-few (on s i Writing) NOFILE refl (on-few s i Writing) (entry_at k h) NPROC s.next_pid in
    omega (arith, well.writers i x there, few)
