-- There is room for open files: no more are open than descriptors are in use, and where one is free, fewer than can be are open.
use Rattle.kcall_core.proofs.Prelude.{[], ℕ, ◌*◌, ◌+◌, ◌<◌, ◌∙◌, ◌∷◌, ◌≡◌, ◌≢◌, ◌≤◌, ap, AreCounted, arith, Bool, cond, count_below, count_by, CountedFile, descriptors_at, entry_count, eqb_tells}
use Rattle.kcall_core.proofs.Prelude.{false, frame_count, get_or, Hart, HasRoom, if◌then◌else◌, inl, inr, is_some, is_this, Kernel, length, List, named_by, named_in, namings, nat_eq, NOFILE, None}
use Rattle.kcall_core.proofs.Prelude.{NPROC, open_count, OPEN_FILES, Option, option_map, or_zero, refl, Slots, Some, state_of, suc, sum_below, sum_below-zero, sum_by-cons, sum_same, sym, true}
use Rattle.kcall_core.proofs.Prelude.{WellFormed, WholeHasRoom, zero}
use Rattle.file_table.specs.OpenFiles.{IsTable}
use Rattle.kcall_core.proofs.files.Room.{count-few, sum-few, file-room, ends-few}

-- ---- sums

-- the first term apart
pub sum-first : (n : ℕ) (f : ℕ → ℕ) → sum_below (suc n) f ≡ f 0 + sum_below n (λ i. f (suc i))
unfolding sum_below
sum-first zero f = omega arith
sum-first (suc n) f = let a : ℕ = sum_below n f + f n in let b : ℕ = sum_below n (λ i. f (suc i)) in let c : ℕ = f 0 in let d : ℕ = f (suc n) in
    let r : a ≡ c + b = sum-first n f in let goal : a + d ≡ c + (b + d) = omega arith in goal

sum-plus : (n : ℕ) (f g : ℕ → ℕ) → sum_below n (λ i. f i + g i) ≡ sum_below n f + sum_below n g
unfolding sum_below
sum-plus zero f g = refl
sum-plus (suc n) f g = let a : ℕ = sum_below n (λ i. f i + g i) in let b : ℕ = sum_below n f in let c : ℕ = sum_below n g in let x : ℕ = f n in
    let y : ℕ = g n in let r : a ≡ b + c = sum-plus n f g in let goal : a + (x + y) ≡ (b + x) + (c + y) = omega arith in goal

sum-less : (n : ℕ) (f g : ℕ → ℕ) → ((i : ℕ) → f i ≤ g i) → sum_below n f ≤ sum_below n g
unfolding sum_below
sum-less zero f g less = omega arith
sum-less (suc n) f g less = let a : ℕ = sum_below n f in let b : ℕ = sum_below n g in let x : ℕ = f n in let y : ℕ = g n in
    let l : a ≤ b = sum-less n f g less in let r : x ≤ y = less n in let goal : a + x ≤ b + y = omega arith in goal

-- a sum of sums, the other way round
sum-swap : (m n : ℕ) (f : ℕ → ℕ → ℕ) → sum_below m (λ i. sum_below n (f i)) ≡ sum_below n (λ j. sum_below m (λ i. f i j))
unfolding sum_below
sum-swap zero n f = sym (sum_below-zero n (λ j. 0) (λ j low. refl))
sum-swap (suc m) n f =
    let a : ℕ = sum_below m (λ i. sum_below n (f i)) in
    let b : ℕ = sum_below n (λ j. sum_below m (λ i. f i j)) in
    let c : ℕ = sum_below n (f m) in
    let d : ℕ = sum_below n (λ j. sum_below m (λ i. f i j) + f m j) in
    let r : a ≡ b = sum-swap m n f in
    let s : d ≡ b + c = sum-plus n (λ j. sum_below m (λ i. f i j)) (f m) in
    let goal : a + c ≡ d = omega arith in goal

-- where one term leaves room, so does the sum
pub sum-room : (n b m k : ℕ) (f : ℕ → ℕ) → ((i : ℕ) → f i ≤ b) → k < n → f k + m ≤ b → sum_below n f + m ≤ n * b
unfolding sum_below
sum-room zero b m k f few below room = absurd (omega arith)
sum-room (suc n) b m k f few below room =
    let a : ℕ = sum_below n f in let c : ℕ = f n in let x : ℕ = f k in let nb : ℕ = n * b in
    let most : c ≤ b = few n in
    let goal : a + c + m ≤ nb + b = elim (eqb_tells k n) [
      | inl e ↦ let same : x ≡ c = ap f e.1 in let less : a ≤ nb = all n in omega arith
      | inr e ↦ let apart : k ≢ n = e.1 in let less : a + m ≤ nb = sum-room n b m k f few (omega arith) room in omega arith
    ] in by goal
  where
    all : (i : ℕ) → sum_below i f ≤ i * b
    all i = sum-few i b f few

    by : sum_below n f + f n + m ≤ n * b + b → sum_below n f + f n + m ≤ suc n * b
    by less = omega (arith, less)

-- ---- counts

abbrev count : Bool → ℕ
count b = if b then 1 else 0

at-most : (b : Bool) → count b ≤ 1
at-most true = omega arith
at-most false = omega arith

-- one number that doesn't pass leaves room, and two leave more
pub count-room : (n k : ℕ) (test : ℕ → Bool) → k < n → test k ≡ false → count_below test n + 1 ≤ n
unfolding count_below
count-room zero k test below free = absurd (omega arith)
count-room (suc n) k test below free =
    let a : ℕ = count_below test n in let c : ℕ = count (test n) in
    let most : c ≤ 1 = at-most (test n) in
    elim (eqb_tells k n) [
      | inl e ↦ let none : c ≡ 0 = ap (λ m. count (test m)) (sym e.1) ∙ ap count free in let less : a ≤ n = count-few test n in let goal : a + c + 1 ≤ suc n = omega arith in goal
      | inr e ↦ let apart : k ≢ n = e.1 in let less : a + 1 ≤ n = count-room n k test (omega arith) free in let goal : a + c + 1 ≤ suc n = omega arith in goal
    ]

pub count-room-two : (n k j : ℕ) (test : ℕ → Bool) → k < n → j < n → k ≢ j → test k ≡ false → test j ≡ false → count_below test n + 2 ≤ n
unfolding count_below
count-room-two zero k j test below lower apart free empty = absurd (omega arith)
count-room-two (suc n) k j test below lower apart free empty =
    let a : ℕ = count_below test n in let c : ℕ = count (test n) in
    let most : c ≤ 1 = at-most (test n) in
    elim (eqb_tells k n) [
      | inl e ↦
          let at : k ≡ n = e.1 in
          let none : c ≡ 0 = ap (λ m. count (test m)) (sym at) ∙ ap count free in
          let less : a + 1 ≤ n = count-room n j test (omega arith) empty in let goal : a + c + 2 ≤ suc n = omega arith in goal
      | inr e ↦
          let other : k ≢ n = e.1 in
          elim (eqb_tells j n) [
            | inl q ↦ let at : j ≡ n = q.1 in let none : c ≡ 0 = ap (λ m. count (test m)) (sym at) ∙ ap count empty in
                let less : a + 1 ≤ n = count-room n k test (omega arith) free in let goal : a + c + 2 ≤ suc n = omega arith in goal
            | inr q ↦ let more : j ≢ n = q.1 in let less : a + 2 ≤ n = count-room-two n k j test (omega arith) (omega arith) apart free empty in let goal : a + c + 2 ≤ suc n = omega arith in goal
          ]
    ]

-- ---- each descriptor in use names one open file

one-name : (n g : ℕ) → sum_below n (λ f. count (nat_eq g f)) ≤ 1
unfolding sum_below
one-name zero g = omega arith
one-name (suc n) g =
    let a : ℕ = sum_below n (λ f. count (nat_eq g f)) in let c : ℕ = count (nat_eq g n) in
    elim (eqb_tells g n) [
      | inl e ↦
          let at : g ≡ n = e.1 in
          let none : a ≡ 0 = sum_below-zero n (λ f. count (nat_eq g f))
          (λ f low. elim (eqb_tells g f) [ inl q ↦ let same : g ≡ f = q.1 in absurd (omega (arith, at, same, low)) | inr q ↦ ap count q.0 ]) in
          let most : c ≤ 1 = at-most (nat_eq g n) in let goal : a + c ≤ 1 = omega arith in goal
      | inr e ↦ let none : c ≡ 0 = ap count e.0 in let less : a ≤ 1 = one-name n g in let goal : a + c ≤ 1 = omega arith in goal
    ]

names-one : (n : ℕ) (o : Option ℕ) → sum_below n (λ f. count (is_this f o)) ≤ count (is_some o)
names-one n None = let e : sum_below n (λ f. count (is_this f None)) ≡ 0 = sum_below-zero n (λ f. count (is_this f None)) (λ f low. refl) in omega (arith, e)
names-one n (Some g) = one-name n g

names-few : (n m : ℕ) (named : ℕ → Option ℕ) → sum_below n (λ f. count_below (λ d. is_this f (named d)) m) ≤ count_below (λ d. is_some (named d)) m
unfolding count_below
names-few n zero named = let e : sum_below n (λ f. 0) ≡ 0 = sum_below-zero n (λ f. 0) (λ f low. refl) in omega (arith, e)
names-few n (suc m) named =
    let a : ℕ = sum_below n (λ f. count_below (λ d. is_this f (named d)) m) in
    let b : ℕ = sum_below n (λ f. count (is_this f (named m))) in
    let c : ℕ = count_below (λ d. is_some (named d)) m in
    let d : ℕ = count (is_some (named m)) in
    let all : ℕ = sum_below n (λ f. count_below (λ d. is_this f (named d)) m + count (is_this f (named m))) in
    let parts : all ≡ a + b = sum-plus n (λ f. count_below (λ d. is_this f (named d)) m) (λ f. count (is_this f (named m))) in
    let l : a ≤ c = names-few n m named in
    let r : b ≤ d = names-one n (named m) in
    let goal : all ≤ c + d = omega arith in goal

-- how many descriptors are in use
abbrev pub used_in : List (Option ℕ) → ℕ
used_in ds = count_below (λ d. is_some (named_by ds d)) NOFILE

-- over all slots
abbrev pub used : Slots → ℕ
used t = sum_below NPROC (λ slot. used_in (descriptors_at t slot))

namings-used : (n : ℕ) (t : Slots) → sum_below n (namings t) ≤ used t
namings-used n t =
    let swapped : sum_below n (namings t) ≡ sum_below NPROC (λ slot. sum_below n (λ f. named_in (descriptors_at t slot) f)) = sum-swap n NPROC (λ f slot. named_in (descriptors_at t slot) f) in
    let less : sum_below NPROC (λ slot. sum_below n (λ f. named_in (descriptors_at t slot) f)) ≤ used t =
    sum-less NPROC (λ slot. sum_below n (λ f. named_in (descriptors_at t slot) f)) (λ slot. used_in (descriptors_at t slot))
    (λ slot. names-few n NOFILE (named_by (descriptors_at t slot))) in
    omega (arith, swapped, less)

-- ---- each open file is named

open-few : (xs : List (Option CountedFile)) → ((f : ℕ) (e : CountedFile) → get_or xs f None ≡ Some e → 1 ≤ e.count)
    → count_by is_some xs ≤ sum_below (length xs) (λ f. or_zero (option_map entry_count (get_or xs f None)))
unfolding sum_below
open-few [] named = omega arith
open-few (x ∷ xs) named =
    let a : ℕ = count_by is_some xs in
    let rest : ℕ = sum_below (length xs) (λ f. or_zero (option_map entry_count (get_or xs f None))) in
    let all : ℕ = sum_below (suc (length xs)) (λ f. or_zero (option_map entry_count (get_or (x ∷ xs) f None))) in
    let c : ℕ = count (is_some x) in
    let d : ℕ = or_zero (option_map entry_count x) in
    let parts : all ≡ d + rest = sum-first (length xs) (λ f. or_zero (option_map entry_count (get_or (x ∷ xs) f None))) in
    let l : a ≤ rest = open-few xs (λ f e is. named (suc f) e is) in
    let r : c ≤ d = first x (λ e is. named 0 e is) in
    let goal : count_by is_some (x ∷ xs) ≤ all = omega (arith, parts, l, r, sum_by-cons (λ (y : Option CountedFile). cond (is_some y) 1 0) x xs) in goal
  where
    first : (x : Option CountedFile) → ((e : CountedFile) → x ≡ Some e → 1 ≤ e.count) → count (is_some x) ≤ or_zero (option_map entry_count x)
    first None named = omega arith
    first (Some e) named = named e refl

-- no more files are open than descriptors are in use
pub open-used : (files : List (Option CountedFile)) (t : Slots) → IsTable files → AreCounted files t → open_count files ≤ used t
open-used files t table counted =
    let few : open_count files ≤ sum_below (length files) (λ f. or_zero (option_map entry_count (get_or files f None))) = open-few files (λ f e is. (table.counts f e is).0) in
    let same : sum_below (length files) (λ f. or_zero (option_map entry_count (get_or files f None))) ≡ sum_below (length files) (namings t) =
    sum_same (length files) (λ f. or_zero (option_map entry_count (get_or files f None))) (namings t) (λ f low. counted.counts f) in
    omega (arith, few, same, namings-used (length files) t)

pub open-room : (files : List (Option CountedFile)) (t : Slots) (n : ℕ) → IsTable files → AreCounted files t → used t + n ≤ OPEN_FILES → open_count files + n ≤ OPEN_FILES
open-room files t n table counted room = omega (arith, room, open-used files t table counted)

-- ---- where descriptors are free

-- a free descriptor leaves room for an open file
pub room-for-one : (files : List (Option CountedFile)) (t : Slots) (slot d : ℕ) → IsTable files → AreCounted files t → slot < NPROC → d < NOFILE
    → named_by (descriptors_at t slot) d ≡ None → open_count files < OPEN_FILES
room-for-one files t slot d table counted inside below free =
    let here : used_in (descriptors_at t slot) + 1 ≤ NOFILE = count-room NOFILE d (λ e. is_some (named_by (descriptors_at t slot) e)) below (ap is_some free) in
    let all : used t + 1 ≤ OPEN_FILES = sum-room NPROC NOFILE 1 slot (λ j. used_in (descriptors_at t j)) (λ j. count-few _ NOFILE) inside here in
    omega (arith, open-room files t 1 table counted all)

-- and two leave room for two
pub room-for-two : (files : List (Option CountedFile)) (t : Slots) (slot d e : ℕ) → IsTable files → AreCounted files t → slot < NPROC → d < NOFILE
    → e < NOFILE → d ≢ e → named_by (descriptors_at t slot) d ≡ None → named_by (descriptors_at t slot) e ≡ None → open_count files + 1 < OPEN_FILES
room-for-two files t slot d e table counted inside below lower apart free empty =
    let here : used_in (descriptors_at t slot) + 2 ≤ NOFILE = count-room-two NOFILE d e (λ f. is_some (named_by (descriptors_at t slot) f)) below lower apart (ap is_some free) (ap is_some empty) in
    let all : used t + 2 ≤ OPEN_FILES = sum-room NPROC NOFILE 2 slot (λ j. used_in (descriptors_at t j)) (λ j. count-few _ NOFILE) inside here in
    omega (arith, open-room files t 2 table counted all)

-- ---- all of it, of a kernel whose descriptors are counted

pub has-room : (k : Kernel) (h : Hart) (frames : ℕ) → WellFormed frames (state_of k h) → IsTable k.files → AreCounted k.files k.table → HasRoom k h
has-room k h frames well table counted = record {
  sharers = λ file n is. file-room k.files k.table file counted n is;
  ends = λ i x end is. omega (arith, ends-few k h frames i x end well is);
  one_file = λ slot d inside below free. room-for-one k.files k.table slot d table counted inside below free;
  two_files = λ slot d e inside below lower apart free empty. room-for-two k.files k.table slot d e table counted inside below lower apart free empty;
}

pub whole_has_room : WholeHasRoom
whole_has_room k h whole = has-room k h (frame_count k) whole.well whole.files whole.counted
