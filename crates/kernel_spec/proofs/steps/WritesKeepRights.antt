-- Writing to memory changes no right, and brings no page.
use Rattle.kernel_spec.proofs.Prelude.{[], ℕ, ◌%◌, ◌&&◌, ◌*◌, ◌+◌, ◌/◌, ◌||◌, ◌∙◌, ◌∷◌, ◌≡◌, allows, ap, Bool, eqb_tells, get, has_absent, Image, inl, inr, insert, is_absent, is_some, List, list_all}
use Rattle.kernel_spec.proofs.Prelude.{list_any, may, may_touching, nat_lt, None, not, Option, option_map, Page, perm_of_page, put_byte, put_in, range_with_len, reaches_touching, refl, Rights, set}
use Rattle.kernel_spec.proofs.Prelude.{Some, Storing as Store, sym, writable, write_image}
use Rattle.kernel_spec.proofs.steps.MapsAfterChange.{get_same, get_other}

-- what a page allows, if it is there
abbrev rights_of : Option Page → Option Rights
rights_of p = option_map perm_of_page p

put_open : (i : Image) (v : ℕ) (p : Option Page) (o b q : ℕ) → get i.pages v ≡ p → rights_of (get (put_in i v p o b).pages q) ≡ rights_of (get i.pages q)
put_open i v None o b q is = refl
put_open i v (Some page) o b q is = elim (eqb_tells q v) [
  | inl e ↦
      ap (λ (x : ℕ). rights_of (get (insert i.pages v (record { perm = page.perm; bytes = set page.bytes o b })) x)) e.1
      ∙ ap rights_of (get_same i.pages v (record { perm = page.perm; bytes = set page.bytes o b }))
      ∙ sym (ap rights_of (ap (get i.pages) e.1 ∙ is))
  | inr e ↦ ap rights_of (get_other i.pages v (record { perm = page.perm; bytes = set page.bytes o b }) q e.1)
]

put_size : (i : Image) (v : ℕ) (p : Option Page) (o b : ℕ) → (put_in i v p o b).size ≡ i.size
put_size i v None o b = refl
put_size i v (Some page) o b = refl

same-there : (p q : Option Page) → rights_of p ≡ rights_of q → is_some p ≡ is_some q
same-there None None e = refl
same-there None (Some y) e = let no : ⊥ = cc in absurd no
same-there (Some x) None e = let no : ⊥ = cc in absurd no
same-there (Some x) (Some y) e = refl

put_absent : (i : Image) (a b q : ℕ) → is_absent (put_byte i a b) q ≡ is_absent i q
put_absent i a b q =
    ap (λ n. nat_lt (4096 * q) n && not (is_some (get (put_byte i a b).pages q))) (put_size i (a / 4096) (get i.pages (a / 4096)) (a % 4096) b)
    ∙ ap (λ c. nat_lt (4096 * q) i.size && not c) (same-there (get (put_byte i a b).pages q) (get i.pages q) (put_open i (a / 4096) (get i.pages (a / 4096)) (a % 4096) b q refl))

put_may : (i : Image) (a b x : ℕ) → may_touching Store (put_byte i a b) x ≡ may_touching Store i x
put_may i a b x =
    ap (λ c. c || may Store (put_byte i a b) x) (put_absent i a b (x / 4096))
    ∙ ap (λ o. is_absent i (x / 4096) || allows Store o) (put_open i (a / 4096) (get i.pages (a / 4096)) (a % 4096) b (x / 4096) refl)

same-all : (test other : ℕ → Bool) → ((x : ℕ) → test x ≡ other x) → (xs : List ℕ) → list_all test xs ≡ list_all other xs
same-all test other same [] = refl
same-all test other same (x ∷ xs) = ap (λ b. b && list_all test xs) (same x) ∙ ap (λ b. other x && b) (same-all test other same xs)

same-any : (test other : ℕ → Bool) → ((x : ℕ) → test x ≡ other x) → (xs : List ℕ) → list_any test xs ≡ list_any other xs
same-any test other same [] = refl
same-any test other same (x ∷ xs) = ap (λ b. b || list_any test xs) (same x) ∙ ap (λ b. other x || b) (same-any test other same xs)

pub writable_written : (bytes : List ℕ) (i : Image) (at a n : ℕ) → writable (write_image i at bytes) a n ≡ writable i a n
unfolding write_image reaches_touching
writable_written [] i at a n = refl
writable_written (b ∷ bs) i at a n = writable_written bs (put_byte i at b) (at + 1) a n ∙ same-all (may_touching Store (put_byte i at b)) (may_touching Store i) (put_may i at b) (range_with_len a n)

-- which pages are absent stays the same
pub absent_written : (bytes : List ℕ) (i : Image) (at : ℕ) (ps : List ℕ) → has_absent ps (write_image i at bytes) ≡ has_absent ps i
unfolding write_image
absent_written [] i at ps = refl
absent_written (b ∷ bs) i at ps = absent_written bs (put_byte i at b) (at + 1) ps ∙ same-any (is_absent (put_byte i at b)) (is_absent i) (put_absent i at b) ps
