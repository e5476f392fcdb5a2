-- Worked cases of what the kernel reads of a process's memory: buffers, texts and lists of texts. The cells that user code sees are given.
use Rattle.kernel_spec.proofs.Prelude.{[], ℕ, ◌%◌, ◌&&◌, ◌+◌, ◌/◌, ◌||◌, ◌∙◌, ◌∷◌, ◌≡◌, allows, ap, Bool, byte_in, Cell, cell_in, codes, cond, false, get, if◌then◌else◌, Image, image_byte}
use Rattle.kernel_spec.proofs.Prelude.{image_bytes, is_absent, le, List, map, may, no_slashes, None, Option, option_map, Page, perm_of_page, pointer_at, range_with_len, reaches, reaches_touching}
use Rattle.kernel_spec.proofs.Prelude.{readable, refl, Some, Storing as Store, suc, text_at, text_from, texts_at, true, user, writable, writable_now}
use Rattle.xk_base.specs.declared.access.Access.TheVariants.{Load}
use Rattle.kernel_spec.proofs.memory.UserBytes.{may_read, may_write, cell_text, byte-read, byte-write}
use Rattle.kernel_spec.proofs.rows.Settled.{there-not-absent, absent-not-there}
use Rattle.kernel_spec.proofs.memory.TextsByParts.{texts_from, with_text}

-- a byte that may be read and written, one that may be read alone, and one that may be run alone
abbrev open_cell : ℕ → Cell
open_cell byte = record { read = true; write = true; execute = false; byte = byte }

abbrev read_cell : ℕ → Cell
read_cell byte = record { read = true; write = false; execute = true; byte = byte }

abbrev run_cell : ℕ → Cell
run_cell byte = record { read = false; write = false; execute = true; byte = byte }

-- a page without U isn't there for user code, and one with U allows what it allows
no_user_page : (bytes : List ℕ) → cell_in (Some (record { perm = record { read = true; write = true; execute = true; user = false }; bytes = bytes })) 5 ≡ None
no_user_page bytes = refl

user_page : cell_in (Some (record { perm = record { read = true; write = false; execute = true; user = true }; bytes = 7 ∷ 8 ∷ 9 ∷ [] })) 1 ≡ Some (read_cell 8)
user_page = refl

-- ---- one byte

-- the text that a byte of a page begins
text_of_page : (o : Option Page) (k : ℕ) (rest : Option (List ℕ)) → (if allows Load (option_map perm_of_page o) then text_from (byte_in o k) rest else None) ≡ cell_text (cell_in o k) rest
text_of_page None k rest = refl
text_of_page (Some page) k rest = by page.perm.user
  where
    by : (u : Bool) → (if u && page.perm.read then text_from (byte_in (Some page) k) rest else None) ≡ cell_text
        (if u then Some (record { read = page.perm.read; write = page.perm.write; execute = page.perm.execute; byte = byte_in (Some page) k }) else None) rest
    by true = refl
    by false = refl

module _ (i : Image) where
  -- a page with a byte that user code sees isn't absent
  seen_present : (a : ℕ) (c : Cell) → user i a ≡ Some c → is_absent i (a / 4096) ≡ false
  unfolding user
  seen_present a c is = by (get i.pages (a / 4096)) refl is
    where
      by : (o : Option Page) → get i.pages (a / 4096) ≡ o → cell_in o (a % 4096) ≡ Some c → is_absent i (a / 4096) ≡ false
      by None e h = absurd (cc)
      by (Some page) e h = there-not-absent i (a / 4096) page e

  -- ---- buffers of two bytes at 10, in a page that is there, or that isn't there and isn't absent

  module _ (present : is_absent i 0 ≡ false) where
    abbrev at_10 : Option Cell → Option Cell → Type 0
    at_10 first second = (user i 10 ≡ first) × (user i 11 ≡ second)

    readable_as : (first second : Option Cell) → at_10 first second → readable i 10 2 ≡ (may_read first && (may_read second && true))
    unfolding reaches_touching
    readable_as first second (one, two) = λ j. (present j || (byte-read i 10 ∙ ap may_read one) j) && ((present j || (byte-read i 11 ∙ ap may_read two) j) && true)

    writable_as : (first second : Option Cell) → at_10 first second → writable i 10 2 ≡ (may_write first && (may_write second && true))
    unfolding reaches_touching
    writable_as first second (one, two) = λ j. (present j || (byte-write i 10 ∙ ap may_write one) j) && ((present j || (byte-write i 11 ∙ ap may_write two) j) && true)

    reads_both : at_10 (Some (open_cell 1)) (Some (read_cell 2)) → readable i 10 2 ≡ true
    reads_both at = readable_as (Some (open_cell 1)) (Some (read_cell 2)) at

    reads_not_first : at_10 None (Some (open_cell 2)) → readable i 10 2 ≡ false
    reads_not_first at = readable_as None (Some (open_cell 2)) at

    reads_not_second : at_10 (Some (open_cell 1)) (Some (run_cell 2)) → readable i 10 2 ≡ false
    reads_not_second at = readable_as (Some (open_cell 1)) (Some (run_cell 2)) at

    writes_both : at_10 (Some (open_cell 1)) (Some (open_cell 2)) → writable i 10 2 ≡ true
    writes_both at = writable_as (Some (open_cell 1)) (Some (open_cell 2)) at

    writes_not_first : at_10 (Some (read_cell 1)) (Some (open_cell 2)) → writable i 10 2 ≡ false
    writes_not_first at = writable_as (Some (read_cell 1)) (Some (open_cell 2)) at

    writes_not_second : at_10 (Some (open_cell 1)) None → writable i 10 2 ≡ false
    writes_not_second at = writable_as (Some (open_cell 1)) None at

  -- ---- buffers across the end of page 0, of which page 1 is absent, or isn't there and isn't absent either

  abbrev at_end : Option Cell → Bool → Type 0
  at_end last absent = (user i 4095 ≡ last) × (is_absent i 0 ≡ false) × (is_absent i 1 ≡ absent)

  end_readable : (last : Option Cell) (absent : Bool) → at_end last absent → readable i 4095 2 ≡ (may_read last && ((absent || may Load i 4096) && true))
  unfolding reaches_touching
  end_readable last absent (one, present, two) = λ j. (present j || (byte-read i 4095 ∙ ap may_read one) j) && ((two j || may Load i 4096) && true)

  end_writable : (last : Option Cell) (absent : Bool) → at_end last absent → writable i 4095 2 ≡ (may_write last && ((absent || may Store i 4096) && true))
  unfolding reaches_touching
  end_writable last absent (one, present, two) = λ j. (present j || (byte-write i 4095 ∙ ap may_write one) j) && ((two j || may Store i 4096) && true)

  -- an absent page may be read and written
  reads_into_absent : at_end (Some (read_cell 1)) true → readable i 4095 2 ≡ true
  reads_into_absent at = end_readable (Some (read_cell 1)) true at

  writes_into_absent : at_end (Some (open_cell 1)) true → writable i 4095 2 ≡ true
  writes_into_absent at = end_writable (Some (open_cell 1)) true at

  -- what is before it has to allow it still
  writes_not_before_absent : at_end (Some (read_cell 1)) true → writable i 4095 2 ≡ false
  writes_not_before_absent at = end_writable (Some (read_cell 1)) true at

  -- a page that is neither there nor absent may not
  reads_not_past : at_end (Some (open_cell 1)) false → get i.pages 1 ≡ None → readable i 4095 2 ≡ false
  reads_not_past at none = end_readable (Some (open_cell 1)) false at ∙ ap (λ o. allows Load (option_map perm_of_page o) && true) none

  writes_not_past : at_end (Some (open_cell 1)) false → get i.pages 1 ≡ None → writable i 4095 2 ≡ false
  writes_not_past at none = end_writable (Some (open_cell 1)) false at ∙ ap (λ o. allows Store (option_map perm_of_page o) && true) none

  -- as it stands, before the page is touched, it may not be written
  writes_not_now : is_absent i 1 ≡ true → writable_now i 4096 1 ≡ false
  unfolding reaches
  writes_not_now absent = ap (λ o. allows Store (option_map perm_of_page o) && true) (absent-not-there i 1 absent)

  -- and reads as zeros
  zeros_in_absent : is_absent i 1 ≡ true → image_bytes i 4096 3 ≡ 0 ∷ 0 ∷ 0 ∷ []
  zeros_in_absent absent = ap (λ o. byte_in o 0 ∷ byte_in o 1 ∷ byte_in o 2 ∷ []) (absent-not-there i 1 absent)

  -- ---- texts at 20

  -- the text that the cell at an address begins, where the page isn't absent
  first_cell : (limit a : ℕ) (c : Option Cell) → is_absent i (a / 4096) ≡ false → user i a ≡ c → text_at (suc limit) i a ≡ cell_text c (text_at limit i (a + 1))
  unfolding text_at user
  first_cell limit a c present is =
      ap (λ b. if b || may Load i a then text_from (image_byte i a) (text_at limit i (a + 1)) else None) present
      ∙ text_of_page (get i.pages (a / 4096)) (a % 4096) (text_at limit i (a + 1))
      ∙ ap (λ (c : Option Cell). cell_text c (text_at limit i (a + 1))) is

  first_seen : (limit a : ℕ) (c : Cell) → user i a ≡ Some c → text_at (suc limit) i a ≡ cell_text (Some c) (text_at limit i (a + 1))
  first_seen limit a c is = first_cell limit a (Some c) (seen_present a c is) is

  -- `ab` and its zero byte, of which a limit of 3 has room
  text_ab : user i 20 ≡ Some (open_cell 97) → user i 21 ≡ Some (read_cell 98) → user i 22 ≡ Some (open_cell 0) → text_at 3 i 20 ≡ Some (codes "ab")
  text_ab a b zero = first_seen 2 20 (open_cell 97) a ∙ ap (text_from 97) (first_seen 1 21 (read_cell 98) b ∙ ap (text_from 98) (first_seen 0 22 (open_cell 0) zero))

  -- a limit of 2 hasn't
  text_long : user i 20 ≡ Some (open_cell 97) → user i 21 ≡ Some (open_cell 98) → text_at 2 i 20 ≡ None
  unfolding text_at
  text_long a b = first_seen 1 20 (open_cell 97) a ∙ ap (text_from 97) (first_seen 0 21 (open_cell 98) b)

  -- nothing behind the zero byte has to be there
  text_empty : user i 20 ≡ Some (open_cell 0) → text_at 3 i 20 ≡ Some []
  text_empty zero = first_seen 2 20 (open_cell 0) zero

  -- a byte before it does, and has to be readable
  text_cut : user i 20 ≡ Some (open_cell 97) → user i 21 ≡ None → text_at 3 i 20 ≡ None
  text_cut a none = first_seen 2 20 (open_cell 97) a ∙ ap (text_from 97) (first_cell 1 21 None (seen_present 20 (open_cell 97) a) none)

  text_hidden : user i 20 ≡ Some (run_cell 0) → text_at 3 i 20 ≡ None
  text_hidden zero = first_seen 2 20 (run_cell 0) zero

  -- a text in an absent page is empty, and one that runs into it ends there
  pub text_absent : (limit a : ℕ) → is_absent i (a / 4096) ≡ true → text_at (suc limit) i a ≡ Some []
  unfolding text_at
  text_absent limit a absent =
      ap (λ b. if b || may Load i a then text_from (image_byte i a) (text_at limit i (a + 1)) else None) absent
      ∙ ap (λ o. text_from (byte_in o (a % 4096)) (text_at limit i (a + 1))) (absent-not-there i (a / 4096) absent)

  text_into_absent : user i 4095 ≡ Some (read_cell 97) → is_absent i 1 ≡ true → text_at 3 i 4095 ≡ Some (codes "a")
  text_into_absent a absent = first_seen 2 4095 (read_cell 97) a ∙ ap (text_from 97) (text_absent 1 4096 absent)

  -- one that runs past the size doesn't
  text_past : user i 4095 ≡ Some (read_cell 97) → is_absent i 1 ≡ false → user i 4096 ≡ None → text_at 3 i 4095 ≡ None
  text_past a present none = first_seen 2 4095 (read_cell 97) a ∙ ap (text_from 97) (first_cell 1 4096 None present none)

  -- ---- lists of texts at 64: pointers 8 bytes apart, up to a pointer 0

  no_texts : pointer_at i 64 ≡ Some 0 → texts_at 31 4096 i 64 ≡ Some []
  unfolding texts_at
  no_texts end = ap (λ (p : Option ℕ). texts_from p (λ q. with_text (text_at 4096 i q) (texts_at 30 4096 i 72))) end

  one_text : pointer_at i 64 ≡ Some 20 → text_at 9 i 20 ≡ Some (codes "ab") → pointer_at i 72 ≡ Some 0 → texts_at 2 9 i 64 ≡ Some (codes "ab" ∷ [])
  unfolding texts_at
  one_text first text end =
      ap (λ (p : Option ℕ). texts_from p (λ q. with_text (text_at 9 i q) (texts_at 1 9 i 72))) first
      ∙ ap (λ (t : Option (List ℕ)). with_text t (texts_at 1 9 i 72)) text
      ∙ ap (λ (p : Option ℕ). with_text (Some (codes "ab")) (texts_from p (λ q. with_text (text_at 9 i q) (texts_at 0 9 i 80)))) end

  -- as many as may be, and one more
  texts_all : pointer_at i 64 ≡ Some 20 → text_at 9 i 20 ≡ Some (codes "ab") → pointer_at i 72 ≡ Some 0 → texts_at 1 9 i 64 ≡ Some (codes "ab" ∷ [])
  unfolding texts_at
  texts_all first text end =
      ap (λ (p : Option ℕ). texts_from p (λ q. with_text (text_at 9 i q) (texts_at 0 9 i 72))) first
      ∙ ap (λ (t : Option (List ℕ)). with_text t (texts_at 0 9 i 72)) text
      ∙ ap (λ (p : Option ℕ). with_text (Some (codes "ab")) (texts_from p (λ q. None))) end

  texts_too_many : pointer_at i 64 ≡ Some 20 → texts_at 0 9 i 64 ≡ None
  unfolding texts_at
  texts_too_many first = ap (λ (p : Option ℕ). texts_from p (λ q. None)) first

  -- a pointer or a text that isn't there
  texts_no_pointer : pointer_at i 64 ≡ None → texts_at 2 9 i 64 ≡ None
  unfolding texts_at
  texts_no_pointer first = ap (λ (p : Option ℕ). texts_from p (λ q. with_text (text_at 9 i q) (texts_at 1 9 i 72))) first

  texts_no_text : pointer_at i 64 ≡ Some 20 → text_at 9 i 20 ≡ None → texts_at 2 9 i 64 ≡ None
  unfolding texts_at
  texts_no_text first text = ap (λ (p : Option ℕ). texts_from p (λ q. with_text (text_at 9 i q) (texts_at 1 9 i 72))) first ∙ ap (λ (t : Option (List ℕ)). with_text t (texts_at 1 9 i 72)) text

  -- a pointer whose 8 bytes may not all be read
  no_pointer : readable i 64 8 ≡ false → pointer_at i 64 ≡ None
  no_pointer absent = ap (λ (b : Bool). cond b (Some (le (image_bytes i 64 8))) None) absent

  -- in an absent page the first pointer is 0
  pub texts_absent : is_absent i 1 ≡ true → texts_at 31 4096 i 4096 ≡ Some []
  unfolding texts_at reaches_touching
  texts_absent absent =
      ap (λ (b : Bool). texts_from (cond (all_of b) (Some (le (image_bytes i 4096 8))) None) (λ q. with_text (text_at 4096 i q) (texts_at 30 4096 i 4104))) absent
      ∙ ap (λ o. texts_from (Some (le (map (byte_in o) (range_with_len 0 8)))) (λ q. with_text (text_at 4096 i q) (texts_at 30 4096 i 4104))) (absent-not-there i 1 absent)
    where
      all_of : Bool → Bool
      all_of b = (b || may Load i 4096) && ((b || may Load i 4097) &&
          ((b || may Load i 4098) && ((b || may Load i 4099) &&
          ((b || may Load i 4100) && ((b || may Load i 4101) && ((b || may Load i 4102) && ((b || may Load i 4103) && true)))))))

-- ---- names without their leading slashes

slashes_dropped : no_slashes (codes "//a/b") ∷ no_slashes (codes "a") ∷ no_slashes (codes "///") ∷ [] ≡ codes "a/b" ∷ codes "a" ∷ [] ∷ []
unfolding no_slashes
slashes_dropped = refl
