-- One descriptor fewer on an end of a pipe: the pipes after it, and who wakes.
use Rattle.kcall_core.proofs.Prelude.{ℕ, ◌&&◌, ◌-◌, ◌||◌, ◌∙◌, ◌≡◌, ◌≤◌, across, and_parts, and_right, and_true, ap, arith, Bool, Channel, closes_wake, cond, count_on, End, eq-eqb, eqb-true}
use Rattle.kcall_core.proofs.Prelude.{eqb_tells, false, FinMap, get, get_at, get_without, inl, inr, insert, is_given_up, last_closes, nat_cmp, nat_eq, None, not, Option, or_gone, parted, Pipe}
use Rattle.kcall_core.proofs.Prelude.{Reading, refl, remove, same_channel, same_pages, settled, Some, sym, true, true≢false, with_pipe, Writing}
use Rattle.proc_table.specs.declared.channel.Channel.TheVariants as on

never-both : (b : Bool) → (not b && b) ≡ false
never-both true = refl
never-both false = refl

-- what is left of a pipe
abbrev pub remainder : Pipe → Option Pipe
remainder y = cond (is_given_up y) None (Some y)

-- the two wordings
pub with-settled : (i : ℕ) (y : Pipe) (m : FinMap nat_cmp Pipe) → with_pipe i (remainder y) m ≡ settled i y m
with-settled i y m = by (is_given_up y)
  where
    by : (b : Bool) → with_pipe i (cond b None (Some y)) m ≡ cond b (remove m i) (insert m i y)
    by true = refl
    by false = refl

-- a pipe that is changed and then goes is gone
pub with-twice : (i : ℕ) (y : Pipe) (m : FinMap nat_cmp Pipe) → with_pipe i None (with_pipe i (Some y) m) ≡ with_pipe i None m
with-twice i y m = same_pages (remove (insert m i y) i) (remove m i) (λ q. elim (eqb_tells q i) [
  | inl h ↦ get_without (insert m i y) i q ∙ ap (λ b. cond b None (get (insert m i y) q)) h.0 ∙ sym (get_without m i q ∙ ap (λ b. cond b None (get m q)) h.0)
  | inr h ↦
      get_without (insert m i y) i q
      ∙ ap (λ b. cond b None (get (insert m i y) q)) h.0
      ∙ get_at m i y q
      ∙ ap (λ b. cond b (Some y) (get m q)) h.0
      ∙ sym (get_without m i q ∙ ap (λ b. cond b None (get m q)) h.0)
])

pub get-with : (i : ℕ) (y : Pipe) (m : FinMap nat_cmp Pipe) (j : ℕ) → get (with_pipe i (remainder y) m) j ≡ cond (nat_eq j i) (remainder y) (get m j)
get-with i y m j = by (is_given_up y)
  where
    by : (b : Bool) → get (with_pipe i (cond b None (Some y)) m) j ≡ cond (nat_eq j i) (cond b None (Some y)) (get m j)
    by true = get_without m i j
    by false = get_at m i y j

-- ---- counts

-- how many are on an end of what is left
remainder-count : (y : Pipe) (e : End) → count_on e (or_gone (remainder y)) ≡ count_on e y
remainder-count y e = by (is_given_up y) refl e
  where
    zero-is : (n : ℕ) → nat_eq n 0 ≡ true → 0 ≡ n
    zero-is n z = sym (eqb-true n 0 z)

    by : (b : Bool) → is_given_up y ≡ b → (e : End) → count_on e (or_gone (cond b None (Some y))) ≡ count_on e y
    by true none Reading = zero-is y.readers (and_parts (nat_eq y.readers 0) (nat_eq y.writers 0) none).0
    by true none Writing = zero-is y.writers (and_parts (nat_eq y.readers 0) (nat_eq y.writers 0) none).1
    by false none e = refl

abbrev same_end : End → End → Bool
same_end Reading Reading = true
same_end Reading Writing = false
same_end Writing Reading = false
same_end Writing Writing = true

parted-count : (x : Pipe) (end e : End) → count_on e (parted x end 1) ≡ cond (same_end e end) (count_on e x - 1) (count_on e x)
parted-count x Reading Reading = refl
parted-count x Reading Writing = refl
parted-count x Writing Reading = refl
parted-count x Writing Writing = refl

module _ (m : FinMap nat_cmp Pipe) (i : ℕ) (end : End) (x : Pipe) (is : get m i ≡ Some x) where
  abbrev after : FinMap nat_cmp Pipe
  after = with_pipe i (remainder (parted x end 1)) m

  count-here : (e : End) → count_on e (or_gone (get after i)) ≡ cond (same_end e end) (count_on e x - 1) (count_on e x)
  count-here e =
      ap (λ o. count_on e (or_gone o)) (get-with i (parted x end 1) m i ∙ ap (λ b. cond b (remainder (parted x end 1)) (get m i)) (eq-eqb i i refl))
      ∙ remainder-count (parted x end 1) e
      ∙ parted-count x end e

  same-there : (j : ℕ) → nat_eq j i ≡ false → get after j ≡ get m j
  same-there j apart = get-with i (parted x end 1) m j ∙ ap (λ b. cond b (remainder (parted x end 1)) (get m j)) apart

  still-zero : (b : Bool) (n : ℕ) → n ≡ 0 → cond b (n - 1) n ≡ 0
  still-zero true n z = omega (arith, z)
  still-zero false n z = z

  -- an end that nobody is on stays so
  pub ends-stay : (j : ℕ) (e : End) → count_on e (or_gone (get m j)) ≡ 0 → count_on e (or_gone (get after j)) ≡ 0
  ends-stay j e none = elim (eqb_tells j i) [
    | inl h ↦
        let before : count_on e x ≡ 0 = sym (ap (λ o. count_on e (or_gone o)) (ap (get m) h.1 ∙ is)) ∙ none in
        ap (λ n. count_on e (or_gone (get after n))) h.1 ∙ count-here e ∙ still-zero (same_end e end) (count_on e x) before
    | inr h ↦ ap (λ o. count_on e (or_gone o)) (same-there j h.0) ∙ none
  ]

  -- ---- who wakes

  steady : (n : ℕ) → last_closes n n ≡ false
  steady n = never-both (nat_eq n 0)

  some-not : (n : ℕ) → 1 ≤ n → nat_eq n 0 ≡ false
  some-not n some = elim (eqb_tells n 0) [ inl h ↦ absurd (omega (arith, some, h.1)) | inr h ↦ h.0 ]

  -- the end that a channel tells of
  wakes-end : (some : 1 ≤ count_on end x) (j : ℕ) (e : End)
      → last_closes (count_on e (or_gone (get m j))) (count_on e (or_gone (get after j))) ≡
      (nat_eq (count_on end (parted x end 1)) 0 && (nat_eq j i && same_end e end))
  wakes-end some j e = elim (eqb_tells j i) [
    | inl h ↦
        let before : count_on e (or_gone (get m j)) ≡ count_on e x = ap (λ o. count_on e (or_gone o)) (ap (get m) h.1 ∙ is) in
        let now : count_on e (or_gone (get after j)) ≡ cond (same_end e end) (count_on e x - 1) (count_on e x) = ap (λ n. count_on e (or_gone (get after n))) h.1 ∙ count-here e in
        (λ t. last_closes (before t) (now t))
        ∙ here end e some
        ∙ ap (λ b. nat_eq (count_on end (parted x end 1)) 0 && (b && same_end e end)) (sym h.0)
    | inr h ↦
        ap (λ o. last_closes (count_on e (or_gone (get m j))) (count_on e (or_gone o))) (same-there j h.0)
        ∙ steady (count_on e (or_gone (get m j)))
        ∙ sym (ap (λ b. nat_eq (count_on end (parted x end 1)) 0 && (b && same_end e end)) h.0 ∙ and_right (nat_eq (count_on end (parted x end 1)) 0) false refl)
  ]
    where
      here : (end e : End) → 1 ≤ count_on end x → last_closes (count_on e x) (cond (same_end e end) (count_on e x - 1) (count_on e x)) ≡ (nat_eq (count_on end (parted x end 1)) 0 && same_end e end)
      here Reading Reading some = ap (λ b. not b && nat_eq (x.readers - 1) 0) (some-not x.readers some) ∙ sym (and_true (nat_eq (x.readers - 1) 0))
      here Writing Writing some = ap (λ b. not b && nat_eq (x.writers - 1) 0) (some-not x.writers some) ∙ sym (and_true (nat_eq (x.writers - 1) 0))
      here Reading Writing some = steady x.writers ∙ sym (and_right (nat_eq (x.readers - 1) 0) false refl)
      here Writing Reading some = steady x.readers ∙ sym (and_right (nat_eq (x.writers - 1) 0) false refl)

  across-is : (c : Channel) → 1 ≤ count_on end x → closes_wake m after c ≡ (nat_eq (count_on end (parted x end 1)) 0 && same_channel c (across i end))
  across-is (on.Bytes j) some = wakes-end some j Writing ∙ ap (λ a. nat_eq (count_on end (parted x end 1)) 0 && a) (by end)
    where
      by : (end : End) → (nat_eq j i && same_end Writing end) ≡ same_channel (on.Bytes j) (across i end)
      by Reading = and_right (nat_eq j i) false refl
      by Writing = and_true (nat_eq j i)
  across-is (on.Room j) some = wakes-end some j Reading ∙ ap (λ a. nat_eq (count_on end (parted x end 1)) 0 && a) (by end)
    where
      by : (end : End) → (nat_eq j i && same_end Reading end) ≡ same_channel (on.Room j) (across i end)
      by Reading = and_true (nat_eq j i)
      by Writing = and_right (nat_eq j i) false refl
  across-is (on.Children p) some = sym (none end)
    where
      none : (e : End) → (nat_eq (count_on end (parted x end 1)) 0 && same_channel (on.Children p) (across i e)) ≡ false
      none Reading = and_right (nat_eq (count_on end (parted x end 1)) 0) false refl
      none Writing = and_right (nat_eq (count_on end (parted x end 1)) 0) false refl
  across-is on.Clock some = sym (none end)
    where
      none : (e : End) → (nat_eq (count_on end (parted x end 1)) 0 && same_channel on.Clock (across i e)) ≡ false
      none Reading = and_right (nat_eq (count_on end (parted x end 1)) 0) false refl
      none Writing = and_right (nat_eq (count_on end (parted x end 1)) 0) false refl
  across-is on.Keys some = sym (none end)
    where
      none : (e : End) → (nat_eq (count_on end (parted x end 1)) 0 && same_channel on.Keys (across i e)) ≡ false
      none Reading = and_right (nat_eq (count_on end (parted x end 1)) 0) false refl
      none Writing = and_right (nat_eq (count_on end (parted x end 1)) 0) false refl
  across-is on.Sending some = sym (none end)
    where
      none : (e : End) → (nat_eq (count_on end (parted x end 1)) 0 && same_channel on.Sending (across i e)) ≡ false
      none Reading = and_right (nat_eq (count_on end (parted x end 1)) 0) false refl
      none Writing = and_right (nat_eq (count_on end (parted x end 1)) 0) false refl

  -- those wake who wait across, where the end's last descriptor went
  pub wakes-across : 1 ≤ count_on end x → nat_eq (count_on end (parted x end 1)) 0 ≡ true → (c : Channel) → closes_wake m after c ≡ same_channel c (across i end)
  wakes-across some last c = across-is c some ∙ ap (λ b. b && same_channel c (across i end)) last

  pub wakes-nobody : 1 ≤ count_on end x → nat_eq (count_on end (parted x end 1)) 0 ≡ false → (c : Channel) → closes_wake m after c ≡ false
  wakes-nobody some more c = across-is c some ∙ ap (λ b. b && same_channel c (across i end)) more

-- ---- one change after another

-- the same pipes
pub same-wakes : (m : FinMap nat_cmp Pipe) (c : Channel) → closes_wake m m c ≡ false
same-wakes m c = by c
  where
    by : (c : Channel) → closes_wake m m c ≡ false
    by (on.Bytes j) = never-both (nat_eq (or_gone (get m j)).writers 0)
    by (on.Room j) = never-both (nat_eq (or_gone (get m j)).readers 0)
    by (on.Children p) = refl
    by on.Clock = refl
    by on.Keys = refl
    by on.Sending = refl

last-twice : (a b c : ℕ) → (a ≡ 0 → b ≡ 0) → (b ≡ 0 → c ≡ 0) → (last_closes a b || last_closes b c) ≡ last_closes a c
last-twice a b c ab bc = by (nat_eq a 0) (nat_eq b 0) (nat_eq c 0) refl refl refl
  where
    yes : (n : ℕ) → n ≡ 0 → nat_eq n 0 ≡ true
    yes n z = eq-eqb n 0 z

    by : (x y z : Bool) → nat_eq a 0 ≡ x → nat_eq b 0 ≡ y → nat_eq c 0 ≡ z → ((not (nat_eq a 0) && nat_eq b 0) || (not (nat_eq b 0) && nat_eq c 0)) ≡ (not (nat_eq a 0) && nat_eq c 0)
    by true true true ea eb ec = (λ t. (not (ea t) && eb t) || (not (eb t) && ec t)) ∙ sym (λ t. not (ea t) && ec t)
    by true true false ea eb ec = absurd (true≢false (sym (yes c (bc (eqb-true b 0 eb))) ∙ ec))
    by true false z ea eb ec = absurd (true≢false (sym (yes b (ab (eqb-true a 0 ea))) ∙ eb))
    by false true true ea eb ec = (λ t. (not (ea t) && eb t) || (not (eb t) && ec t)) ∙ sym (λ t. not (ea t) && ec t)
    by false true false ea eb ec = absurd (true≢false (sym (yes c (bc (eqb-true b 0 eb))) ∙ ec))
    by false false z ea eb ec = (λ t. (not (ea t) && eb t) || (not (eb t) && ec t)) ∙ sym (λ t. not (ea t) && ec t)

pub wakes-twice : (m n o : FinMap nat_cmp Pipe) → ((j : ℕ) (e : End) → count_on e (or_gone (get m j)) ≡ 0 → count_on e (or_gone (get n j)) ≡ 0)
    → ((j : ℕ) (e : End) → count_on e (or_gone (get n j)) ≡ 0 → count_on e (or_gone (get o j)) ≡ 0)
    → (c : Channel) → (closes_wake m n c || closes_wake n o c) ≡ closes_wake m o c
wakes-twice m n o first second c = by c
  where
    by : (c : Channel) → (closes_wake m n c || closes_wake n o c) ≡ closes_wake m o c
    by (on.Bytes j) = last-twice (or_gone (get m j)).writers (or_gone (get n j)).writers (or_gone (get o j)).writers (first j Writing) (second j Writing)
    by (on.Room j) = last-twice (or_gone (get m j)).readers (or_gone (get n j)).readers (or_gone (get o j)).readers (first j Reading) (second j Reading)
    by (on.Children p) = refl
    by on.Clock = refl
    by on.Keys = refl
    by on.Sending = refl
