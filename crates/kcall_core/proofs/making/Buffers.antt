-- The buffers of reads and writes in progress stay there, whatever a step does.
use Rattle.kcall_core.proofs.Prelude.{[], ℕ, ◌&&◌, ◌*◌, ◌/◌, ◌<◌, ◌||◌, ◌∙◌, ◌∷◌, ◌≡◌, ◌≢◌, After, Alive, allows, and_from, and_parts, ap, arith, Bool, brought, brought-keeps, brought-new}
use Rattle.kcall_core.proofs.Prelude.{brought-none, brought-size, brought-there, c_int, Call, cases_eq, false, false≢true, get, get_other, get_same, has_absent, HasMoved, Image, inl, inr, insert}
use Rattle.kcall_core.proofs.Prelude.{is_absent, is_none, is_some, is_some-view, IsBuffer, KeepBuffers, KeepsBuffer, length_of_int, List, list_all, list_any, Live, live, live_part, Load, MatchOption}
use Rattle.kcall_core.proofs.Prelude.{may, may_touching, nat_lt, None, none-some, none_from_is_none, not, Option, option_map, or_parts, or_right, Own, Page, pages_at, perm_of_page, pos}
use Rattle.kcall_core.proofs.Prelude.{range_with_len, reaches_touching, readable, ready-there, refl, same_Some, seen, Some, State, store-brought, subst, sym, the_value, there-not-absent, there-ready}
use Rattle.kcall_core.proofs.Prelude.{true, View, view, view_of, writable_now, write_image}
use Rattle.kernel_spec.proofs.steps.WritesKeepRights.{writable_written, absent_written}

-- ---- one process

-- it is in no call
pub no-call-keeps : (call : Option Call) (image : Image) → call ≡ None → KeepsBuffer call image
no-call-keeps call image none = record {
  room = λ n c has. absurd (none-some c (sym none ∙ has.is));
  source = λ n c has. absurd (none-some c (sym none ∙ has.is));
}

-- its call has moved nothing
pub unmoved-keeps : (c : Call) (image : Image) → c.moved ≡ 0 → KeepsBuffer (Some c) image
unmoved-keeps c image none = record { room = λ n d has. absurd (no d has.is has.some); source = λ n d has. absurd (no d has.is has.some) }
  where
    no : (d : Call) → Some c ≡ Some d → 0 < d.moved → ⊥
    no d is some = let same : c.moved ≡ d.moved = ap (λ (x : Call). x.moved) (same_Some c d is) in omega (arith, some, none, same)

module _ (c d : Call) (moved n m : ℕ) (number : ℕ) (own : c.number ≡ pos number) (asked : c_int c.a2 ≡ pos n) where
  -- another row's call isn't meant
  another-row : (other : ℕ) → HasMoved (Some (record c { moved = moved })) other m d → number ≡ other
  another-row other has = ap length_of_int (sym own ∙ ap (λ (x : Call). x.number) (same_Some (record c { moved = moved }) d has.is) ∙ has.row)

  -- it asks for as many bytes from the same address on
  same-start : HasMoved (Some (record c { moved = moved })) number m d → d.a1 ≡ c.a1
  same-start has = ap (λ (x : Call). x.a1) (sym (same_Some (record c { moved = moved }) d has.is))

  same-count : HasMoved (Some (record c { moved = moved })) number m d → m ≡ n
  same-count has = ap length_of_int (sym has.asked ∙ ap (λ (x : Call). c_int x.a2) (sym (same_Some (record c { moved = moved }) d has.is)) ∙ asked)

-- a write, whatever it has moved
pub write-keeps : (c : Call) (moved : ℕ) (image : Image) (n : ℕ) → c.number ≡ pos 16 → IsBuffer c (readable image c.a1) n → KeepsBuffer (Some (record c { moved = moved })) image
write-keeps c moved image n number buffer = record {
  room = λ m d has. let no : 16 ≡ 5 = another-row c d moved n m 16 number buffer.0 5 has in absurd (omega (arith, no));
  source = λ m d has. (λ i. readable image (same-start c d moved n m 16 number buffer.0 has i) (same-count c d moved n m 16 number buffer.0 has i)) ∙ buffer.2;
}

-- bytes that are put into memory change no right
room-written : (image : Image) (at : ℕ) (bytes : List ℕ) (a n : ℕ) → writable_now image a n ≡ true → writable_now (write_image image at bytes) a n ≡ true
room-written image at bytes a n there =
    let ready = there-ready image a n there in
    let none = absent_written bytes image at (pages_at a n) ∙ ready.1 in
    ap (λ j. writable_now j a n) (sym (brought-none (pages_at a n) (write_image image at bytes) none))
    ∙ ready-there (write_image image at bytes) a n (writable_written bytes image at a n ∙ ready.0)

-- a read, whatever bytes it has put into its memory
pub read-keeps : (c : Call) (moved : ℕ) (image : Image) (n at : ℕ) (bytes : List ℕ) → c.number ≡ pos 5 → IsBuffer c (writable_now image c.a1) n
    → KeepsBuffer (Some (record c { moved = moved })) (write_image image at bytes)
read-keeps c moved image n at bytes number buffer = record {
  room = λ m d has.
      (λ i. writable_now (write_image image at bytes) (same-start c d moved n m 5 number buffer.0 has i) (same-count c d moved n m 5 number buffer.0 has i))
      ∙ room-written image at bytes c.a1 n buffer.2;
  source = λ m d has. let no : 5 ≡ 16 = another-row c d moved n m 5 number buffer.0 16 has in absurd (omega (arith, no));
}

-- ---- pages that are touched

module _ (pages : List ℕ) (image : Image) where
  abbrev after : Image
  after = brought pages image

  none-absent : (qs : List ℕ) → has_absent qs image ≡ false → has_absent qs after ≡ false
  none-absent [] none = refl
  none-absent (q ∷ qs) none =
      let parts = or_parts (is_absent image q) (list_any (is_absent image) qs) none in
      ap (λ b. b || list_any (is_absent after) qs) (brought-keeps pages image q parts.0) ∙ none-absent qs parts.1

  room-touched : (a n : ℕ) → writable_now image a n ≡ true → writable_now after a n ≡ true
  room-touched a n there =
      let ready = there-ready image a n there in
      ap (λ j. writable_now j a n) (sym (brought-none (pages_at a n) after (none-absent (pages_at a n) ready.1))) ∙ ready-there after a n (store-brought pages image a n ready.0)

  -- what user code may read, or may once the page is touched, it may so still
  byte-touched : (a : ℕ) → may_touching Load image a ≡ true → may_touching Load after a ≡ true
  byte-touched a e = by (get image.pages (a / 4096)) (get after.pages (a / 4096)) refl refl
    where
      was-absent : get image.pages (a / 4096) ≡ None → is_absent image (a / 4096) ≡ true
      was-absent none = either (is_absent image (a / 4096)) e
        where
          either : (b : Bool) → (b || may Load image a) ≡ true → b ≡ true
          either true f = refl
          either false f = absurd (false≢true (sym (ap (λ o. allows Load (option_map perm_of_page o)) none) ∙ f))

      by : (o p : Option Page) → get image.pages (a / 4096) ≡ o → get after.pages (a / 4096) ≡ p → may_touching Load after a ≡ true
      by (Some x) p is there = or_right (is_absent after (a / 4096)) (may Load after a)
          (ap (λ o. allows Load (option_map perm_of_page o)) (brought-there pages image (a / 4096) x is ∙ sym is)
          ∙ sym (ap (λ b. b || may Load image a) (there-not-absent image (a / 4096) x is)) ∙ e)
      by None (Some y) none there = or_right (is_absent after (a / 4096)) (may Load after a)
          (ap (λ o. allows Load (option_map perm_of_page o)) there ∙ ap (λ (z : Page). allows Load (Some z.perm)) (brought-new pages image (a / 4096) y none there).1)
      by None None none gone = ap (λ b. b || may Load after a)
          (ap (λ size. nat_lt (4096 * (a / 4096)) size && not (is_some (get after.pages (a / 4096)))) (brought-size pages image)
          ∙ ap (λ o. nat_lt (4096 * (a / 4096)) image.size && not (is_some o)) (gone ∙ sym none) ∙ was-absent none)

  source-touched : (a n : ℕ) → readable image a n ≡ true → readable after a n ≡ true
  unfolding reaches_touching
  source-touched a n there = all (range_with_len a n) there
    where
      all : (at : List ℕ) → list_all (may_touching Load image) at ≡ true → list_all (may_touching Load after) at ≡ true
      all [] e = refl
      all (x ∷ xs) e =
          let parts = and_parts (may_touching Load image x) (list_all (may_touching Load image) xs) e in
          and_from (may_touching Load after x) (list_all (may_touching Load after) xs) (byte-touched x parts.0) (all xs parts.1)

  pub touched-keeps : (call : Option Call) → KeepsBuffer call image → KeepsBuffer call after
  touched-keeps call keeps = record { room = λ n c has. room-touched c.a1 n (keeps.room n c has); source = λ n c has. source-touched c.a1 n (keeps.source n c has) }

-- ---- all processes

-- process p is m now, and each other one is what it was
pub changed-buffers : (s t : State) (p : ℕ) (m : Live) → t.processes ≡ insert s.processes p (Alive m) → KeepsBuffer m.call m.image → KeepBuffers s → KeepBuffers t
changed-buffers s t p m is its before q l lives = elim (cases_eq q p) [
  | inl here ↦
      let now : live t q ≡ Some m = ap (λ ps. live_part (get ps q)) is ∙ ap (λ r. live_part (get (insert s.processes p (Alive m)) r)) here ∙ ap live_part (get_same s.processes p (Alive m)) in
      subst (λ (x : Live). KeepsBuffer x.call x.image) (same_Some m l (sym now ∙ lives)) its
  | inr other ↦
      let now : live t q ≡ live s q = ap (λ ps. live_part (get ps q)) is ∙ ap live_part (get_other s.processes p (Alive m) q other) in
      before q l (sym now ∙ lives)
]

-- ---- a step behind which its process, and one that it made, are in no call

abbrev pub is_in_no_call : Option View → Bool
is_in_no_call None = true
is_in_no_call (Some v) = is_none v.call

module _ (s : State) (p : ℕ) (l : Live) (o : Own) (t : State) (after : After s p l o t) (next : is_in_no_call o.next ≡ true) (child : is_in_no_call o.child ≡ true) (before : KeepBuffers s) where
  seen-so : (q : ℕ) (m : Live) → live t q ≡ Some m → view t q ≡ Some (view_of t q m)
  seen-so q m lives = ap (option_map (view_of t q)) lives

  no-call : (q : ℕ) (m : Live) (u : Option View) → live t q ≡ Some m → view t q ≡ u → is_in_no_call u ≡ true → KeepsBuffer m.call m.image
  unfolding view_of
  no-call q m u lives sees none = no-call-keeps m.call m.image (none_from_is_none m.call (ap is_in_no_call (sym (seen-so q m lives) ∙ sees) ∙ none))

  itself : (q : ℕ) (m : Live) → q ≡ p → live t q ≡ Some m → KeepsBuffer m.call m.image
  unfolding view_of
  itself q m same lives = no-call q m o.next lives (ap (view t) same ∙ after.next) next

  another : (q : ℕ) (m a : Live) → q ≢ p → live s q ≡ Some a → live t q ≡ Some m → KeepsBuffer m.call m.image
  unfolding view_of seen
  another q m a apart was lives =
      let same : view_of t q m ≡ seen s (view_of s p l) o (view_of s q a) =
      same_Some _ _ (sym (seen-so q m lives) ∙ after.others q (view_of s q a) apart (ap (option_map (view_of s q)) was)) in
      subst (λ (v : View). KeepsBuffer v.call v.image) (sym same) (before q a was)

  born : (q : ℕ) (m : Live) (d : Option View) → is_in_no_call d ≡ true → MatchOption d (Unit {0}) (λ c. view t c.pid ≡ Some c) → MatchOption d ⊥ (λ c. q ≡ c.pid) → live t q ≡ Some m
      → KeepsBuffer m.call m.image
  born q m None none new is lives = absurd is
  born q m (Some c) none new is lives = no-call q m (Some c) lives (ap (view t) is ∙ new) none

  pub ended-buffers : KeepBuffers t
  unfolding view_of
  ended-buffers q m lives = elim (cases_eq q p) [
    | inl own ↦ itself q m own lives
    | inr apart ↦ elim (after.no_more q (ap is_some (seen-so q m lives))) [
      | inl own ↦ absurd (apart own)
      | inr more ↦ elim more [
        | inl was ↦ let a = the_value (live s q) (sym (is_some-view (live s q) s q) ∙ was) in another q m a.0 apart a.1 lives
        | inr new ↦ born q m o.child child after.newborn new lives
      ]
    ]
  ]
