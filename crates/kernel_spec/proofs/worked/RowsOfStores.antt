-- Worked cases of which bytes a step stores.
use Rattle.kernel_spec.proofs.Prelude.{[], ℕ, ◌+◌, ◌-◌, ◌<◌, ◌>>=◌, ◌or◌, ◌∙◌, ◌∷◌, ◌≡◌, ◌≤◌, ap, arith, Blocked, Called, cond, Ecall, Fault, Faulted, fresh, Image, IsNewPage, IsStored, IsStoredAs}
use Rattle.kernel_spec.proofs.Prelude.{least_below, length, List, nat_eq, negsuc, new_pipe, NewBytesAreZeros, Next, None, nothing_stored, own, Page, perform, Pipe_row, pos, Read, Reading, refl, row}
use Rattle.kernel_spec.proofs.Prelude.{row_of, Sbrk, Shown, Shown_file, Shown_pipe, Shown_terminal, slice_index, Some, Status, Stepped, Store, stored_by, stored_by_instruction, stored_by_row}
use Rattle.kernel_spec.proofs.Prelude.{StorePageFault, subst, sym, true, View, Wait, Write}
use Rattle.kernel_spec.proofs.worked.WorkedViews.{call, in_call}

abbrev stored : ℕ → List ℕ → Store
stored address bytes = record { address = address; bytes = bytes }

-- descriptor 0 is on this
abbrev shows : Shown → View → View
shows x v = record v { descriptors = λ d. cond (nat_eq d 0) (Some (record { file = 0; read = true; write = true; shown = x })) None }

-- the console has these bytes for a read
abbrev typed : List ℕ → View → View
typed bytes v = record v { console = record v.console { committed = bytes } }

-- program 0 has this file
abbrev filed : List ℕ → View → View
filed bytes v = record v { programs = record { name = []; bytes = bytes } ∷ [] }

module _ (image : Image) where
  abbrev v : View
  v = in_call image (call 0 0 0 0)

  -- ---- instructions: a store of two bytes, an instruction without one, a fault

  store : stored_by_instruction v (Next (fresh 4) (Some (record { address = 8193; bytes = 7 ∷ 0 ∷ [] }))) Stepped ≡ stored 8193 (7 ∷ 0 ∷ [])
  store = refl

  no_store : stored_by_instruction v (Next (fresh 4) None) Stepped ≡ nothing_stored
  no_store = refl

  fault : stored_by_instruction v (Fault StorePageFault) (Faulted StorePageFault) ≡ nothing_stored
  fault = refl

  -- ---- wait: the status of the child that it answers, if it has an address; nothing if it has none, waits, or is refused

  module _ (w : View) (gone : w.children 2 ≡ Some (Status (negsuc 0))) where
    wait_tells : stored_by_row (call 3 8192 0 0) w (Some Wait) (Called (pos 3) (pos 2)) ≡ stored 8192 (255 ∷ 255 ∷ 255 ∷ 255 ∷ [])
    wait_tells = ap (λ c. stored_by_row (call 3 8192 0 0) (record w { children = λ q. c }) (Some Wait) (Called (pos 3) (pos 2))) gone

  wait_without : stored_by_row (call 3 0 0 0) v (Some Wait) (Called (pos 3) (pos 2)) ≡ nothing_stored
  wait_without = refl

  wait_waits : stored_by_row (call 3 8192 0 0) v (Some Wait) (Blocked (pos 3)) ≡ nothing_stored
  wait_waits = refl

  wait_refused : stored_by_row (call 3 8192 0 0) v (Some Wait) (Called (pos 3) (negsuc 0)) ≡ nothing_stored
  wait_refused = refl

  -- ---- pipe: the two lowest free numbers

  pipe_tells : stored_by_row (call 4 8192 0 0) (record v { descriptors = λ d. None }) (Some Pipe_row) (Called (pos 4) (pos 0)) ≡ stored 8192 (0 ∷ 0 ∷ 0 ∷ 0 ∷ 1 ∷ 0 ∷ 0 ∷ 0 ∷ [])
  unfolding least_below
  pipe_tells = refl

  pipe_refused : stored_by_row (call 4 8192 0 0) v (Some Pipe_row) (Called (pos 4) (negsuc 0)) ≡ nothing_stored
  pipe_refused = refl

  -- ---- read of 4 bytes: a line of 3; 2 bytes of the line behind those that came before, whether it ends or waits; a
  -- refusal; of a file from its offset on, and of a pipe, from the buffer's first byte on, whatever the call counts

  read_line : stored_by_row (call 5 0 8192 4) (typed (104 ∷ 105 ∷ 10 ∷ 33 ∷ []) (shows Shown_terminal v)) (Some Read) (Called (pos 5) (pos 3)) ≡ stored 8192 (104 ∷ 105 ∷ 10 ∷ [])
  unfolding in_call
  read_line = refl

  read_on : stored_by_row (record (call 5 0 8192 4) { moved = 2 }) (typed (105 ∷ 10 ∷ []) (shows Shown_terminal v)) (Some Read) (Called (pos 5) (pos 4)) ≡ stored 8194 (105 ∷ 10 ∷ [])
  unfolding in_call
  read_on = refl

  read_waits : stored_by_row (record (call 5 0 8192 4) { moved = 2 }) (typed (105 ∷ []) (shows Shown_terminal v)) (Some Read) (Blocked (pos 5)) ≡ stored 8194 (105 ∷ [])
  unfolding in_call
  read_waits = refl

  read_refused : stored_by_row (call 5 0 8192 4) (typed (104 ∷ 10 ∷ []) (shows Shown_terminal v)) (Some Read) (Called (pos 5) (negsuc 0)) ≡ nothing_stored
  read_refused = refl

  read_file : stored_by_row (record (call 5 0 8192 4) { moved = 2 }) (filed (1 ∷ 2 ∷ 3 ∷ []) (shows (Shown_file 0 1) v)) (Some Read) (Called (pos 5) (pos 2)) ≡ stored 8192 (2 ∷ 3 ∷ [])
  unfolding in_call
  read_file = refl

  read_part : stored_by_row (call 5 0 8192 1) (filed (1 ∷ 2 ∷ 3 ∷ []) (shows (Shown_file 0 1) v)) (Some Read) (Called (pos 5) (pos 1)) ≡ stored 8192 (2 ∷ [])
  unfolding in_call
  read_part = refl

  read_pipe : stored_by_row (record (call 5 0 8192 4) { moved = 2 }) (shows (Shown_pipe 0 Reading (record new_pipe { bytes = 9 ∷ 8 ∷ [] })) v)
      (Some Read) (Called (pos 5) (pos 2)) ≡ stored 8192 (9 ∷ 8 ∷ [])
  unfolding in_call
  read_pipe = refl

  -- a descriptor that isn't in use, and -1
  read_nothing : stored_by_row (record (call 5 7 8192 4) { moved = 2 }) (shows Shown_terminal v) (Some Read) (Called (pos 5) (negsuc 0)) ≡ nothing_stored
  read_nothing = refl

  -- ---- a write, which only reads, and sbrk store nothing

  write_3 : stored_by_row (call 16 0 8192 10) v (Some Write) (Called (pos 16) (pos 10)) ≡ nothing_stored
  write_3 = refl

  sbrk : stored_by_row (call 12 4096 0 0) v (Some Sbrk) (Called (pos 12) (pos 12288)) ≡ nothing_stored
  sbrk = refl

  -- ---- the step of a process in a call, and of one at an ECALL

  in_progress : stored_by (in_call image (call 11 8192 8192 8192)) ≡ nothing_stored
  unfolding own in_call perform row row_of ◌>>=◌ ◌or◌
  in_progress = refl

  -- a marked process, at a store
  marked : stored_by (record v { killed = true; call = None }) ≡ nothing_stored
  unfolding in_call
  marked = refl

  asked : stored_by_instruction (record v { call = None; regs = fresh 4 }) Ecall (Called (pos 0) (negsuc 0)) ≡ nothing_stored
  unfolding row_of in_call
  asked = refl

-- ---- 4 bytes from 8192 on: the first and the last, and those beside them

module _ (w : View) (four : stored_by w ≡ stored 8192 (7 ∷ 8 ∷ 9 ∷ 10 ∷ [])) where
  first_stored : IsStored w 8192
  first_stored = subst (λ (s : Store). (s.address ≤ 8192) × (8192 < s.address + length s.bytes)) (sym four) (omega arith, omega arith)

  last_stored : IsStored w 8195
  last_stored = subst (λ (s : Store). (s.address ≤ 8195) × (8195 < s.address + length s.bytes)) (sym four) (omega arith, omega arith)

  third_is : (byte : ℕ) → IsStoredAs w 8194 byte → byte ≡ 9
  third_is byte is = is.1 ∙ ap (λ (s : Store). slice_index s.bytes (8194 - s.address)) four

  before_them : IsStored w 8191 → ⊥
  before_them is = let here : 8192 ≤ 8191 = subst (λ (s : Store). s.address ≤ 8191) four is.0 in omega (arith, here)

  behind_them : IsStored w 8196 → ⊥
  behind_them is = let here : 8196 < 8192 + 4 = subst (λ (s : Store). 8196 < s.address + length s.bytes) four is.1 in omega (arith, here)

  -- page 2 is new and page 3 too: behind the bytes that are stored there are zeros
  module _ (n : View) (x y : Page) (zeros : NewBytesAreZeros w n) (new : IsNewPage w n 2 x) (next : IsNewPage w n 3 y) where
    rest_of_page : slice_index x.bytes 4 ≡ 0
    rest_of_page = (zeros 2 x new).1 4 (omega arith) behind_them

    next_page : slice_index y.bytes 0 ≡ 0
    next_page = (zeros 3 y next).1 0 (omega arith) (λ is. let here : 12288 < 8192 + 4 = subst (λ (s : Store). 12288 < s.address + length s.bytes) four is.1 in omega (arith, here))

    whole_page : length x.bytes ≡ 4096
    whole_page = (zeros 2 x new).0
