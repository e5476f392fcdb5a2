-- Worked cases of strings and lines.
use Rattle.std.proofs.Common.{◌≡◌, [], ◌∷◌, ◌++◌, codes, Option, None, Some, refl, sym, ap, replicate, true, false, arith, slice_index}
use Rattle.std.specs.FinMap.{empty, get, get-empty}
use Rattle.std.specs.Ordering.{nat_cmp}
use Rattle.std.specs.Prelude.{pos, negsuc}
use Rattle.std.specs.Fmt.{digits, padded_integral, char_count}
use Rattle.xk_base.specs.Image.{Image, Page}
use Rattle.xk_base.specs.Access.{data_rights}
use Rattle.xk_base.specs.declared.access.Rights.{Rights}
use Rattle.kernel_calls.specs.Table.{call_at}
use Rattle.kernel_spec.specs.views.State.{State}
use Rattle.call_reasons.specs.Asked.{call_asked}
use Rattle.call_reasons.specs.Shown.{reason_in}
use Rattle.call_reasons.specs.declared.asked.Asked.{Asked}
use Rattle.call_reasons.specs.declared.reason.Reason.{Reason}
use Rattle.call_reasons.specs.declared.reason.Reason.TheVariants.{NotOpen}
use Rattle.call_reasons.proofs.ByCall.{none_of_other}
use Rattle.call_lines.specs.Line.{answer_shown, call_shown, reason_text, whole_or_place}
use Rattle.call_lines.specs.Memory.{read_of}
use Rattle.call_lines.specs.Strings.{c_string, ending, escaped}

-- ---- strings

-- the first and the last byte that stand as they are, and those beside them
edges : escaped 31 ++ escaped 32 ++ escaped 126 ++ escaped 127 ≡ codes "\\037 ~\\177"
unfolding padded_integral char_count digits
edges = refl

signs : c_string 32 (10 ∷ 9 ∷ 13 ∷ 34 ∷ 92 ∷ 0 ∷ []) ≡ codes "\"\\n\\t\\r\\\"\\\\\\000\""
unfolding padded_integral char_count digits
signs = refl

no_bytes : c_string 32 [] ≡ codes "\"\""
no_bytes = refl

all_shown : ending 32 (replicate 32 97) ≡ codes "\""
all_shown = refl

one_more : ending 32 (replicate 33 97) ≡ codes "\"..."
one_more = refl

-- as many as are asked for, also none
two_shown : c_string 2 (97 ∷ 98 ∷ 99 ∷ []) ≡ codes "\"ab\"..."
two_shown = refl

none_shown : c_string 0 (97 ∷ []) ≡ codes "\"\"..."
none_shown = refl

-- ---- what the kernel reads

-- two pages of memory, of which none is there
abbrev bare : Image
bare = record { pages = empty; size = 8192 }

absent : read_of bare 8191 ≡ Some 0
absent = rw (get-empty {X = Page} nat_cmp 1) refl

past_the_end : read_of bare 8192 ≡ None
past_the_end = rw (get-empty {X = Page} nat_cmp 2) refl

-- the guard page is there, and user code may not read it
abbrev guard : Rights
guard = record { read = true; write = true; execute = false; user = false }

closed : (image : Image) (page : Page) → get image.pages 1 ≡ Some page → page.perm ≡ guard → read_of image 4096 ≡ None
closed image page there perm = rw (there, perm) grind arith

-- a byte of the program's own data
opened : (image : Image) (page : Page) → get image.pages 1 ≡ Some page → page.perm ≡ data_rights → slice_index page.bytes 3 ≡ 104 → read_of image 4099 ≡ Some 104
opened image page there perm byte = rw (there, perm) grind (arith, byte)

-- ---- buffers

whole : whole_or_place 32 4096 2 (104 ∷ 105 ∷ []) ≡ codes "\"hi\""
whole = refl

not_whole : whole_or_place 32 4096 2 (104 ∷ []) ≡ codes "0x1000"
unfolding digits
not_whole = refl

-- ---- lines

module _ (s : State) where
  forked : call_shown 32 s 3 (record { number = pos 1; a0 = 7; a1 = 8; a2 = 9 }) None ≡ codes "fork()"
  unfolding call_at
  forked = refl

  slept : call_shown 32 s 3 (record { number = pos 13; a0 = 10; a1 = 8; a2 = 9 }) None ≡ codes "sleep(10)"
  unfolding digits call_at
  slept = refl

  -- the low 32 bits count, and nothing is known of what will be read
  will_read : call_shown 32 s 3 (record { number = pos 5; a0 = 0; a1 = 4096; a2 = 64 }) None ≡ codes "read(0, 0x1000, 64)"
  unfolding digits call_at
  will_read = refl

  waits : call_shown 32 s 3 (record { number = pos 3; a0 = 12188; a1 = 8; a2 = 9 }) None ≡ codes "wait(&0x2f9c)"
  unfolding digits call_at
  waits = refl

  unknown : call_shown 32 s 3 (record { number = pos 99; a0 = 1; a1 = 2; a2 = 16 }) None ≡ codes "call 99(0x1, 0x2, 0x10)"
  unfolding digits call_at
  unknown = refl

  -- an answer that is no refusal has no reason
  abbrev more : Asked
  more = record { number = pos 12; a0 = 4096; a1 = 0; a2 = 0 }

  grown : answer_shown s 3 more (pos 20480) ≡ codes " = 0x5000"
  unfolding digits call_at
  grown = ap (λ o. codes " = 0x5000" ++ reason_text o) (sym (none_of_other s 3 (call_asked more) (pos 20480) refl))

  refused : (reason : Option Reason) → reason_in s 3 (call_asked more) (negsuc 0) ≡ reason → answer_shown s 3 more (negsuc 0) ≡ codes " = -1" ++ reason_text reason
  unfolding digits call_at
  refused reason is = ap (λ o. codes " = -1" ++ reason_text o) is

  abbrev waited : Asked
  waited = record { number = pos 3; a0 = 0; a1 = 0; a2 = 0 }

  nowhere_stored : answer_shown s 3 waited (pos 4) ≡ codes " = 4"
  unfolding digits call_at
  nowhere_stored = ap (λ o. codes " = 4" ++ reason_text o) (sym (none_of_other s 3 (call_asked waited) (pos 4) refl))

in_brackets : reason_text (Some (NotOpen (pos 7))) ≡ codes " (descriptor 7 isn't open)"
unfolding digits
in_brackets = refl
