-- Where user code may store, and that a row stores the same whether pages came before or not.
use Rattle.kernel_spec.proofs.Prelude.{ℕ, ℤ, ◌%◌, ◌&&◌, ◌+◌, ◌-◌, ◌/◌, ◌<◌, ◌^◌, ◌||◌, ◌∙◌, ◌∷◌, ◌≡◌, ◌≤◌, add, allows, and_from, and_parts, Answer, ap, arith, begun, Bool, both_ways, branch}
use Rattle.kernel_spec.proofs.Prelude.{bytes_at, bytes_of_width, c_int, Call, call_begun, Cause, Cell, cell_byte, cell_in, cond, decoded, Descriptor, Ecall, eqb-true, Err, extended, false, Fault}
use Rattle.kernel_spec.proofs.Prelude.{fetched, get, has_absent, Image, in_use, Instr, instr, instruction_of, instruction_row, is_absent, jump, le_bytes, length, Lies, List, list_all, load_step}
use Rattle.kernel_spec.proofs.Prelude.{LoadOp, may, may_touching, Memory, nat_eq, natural, negsuc, Next, None, Ok, Option, option_map, or_fault, or_parts, or_right, or_zero, Page, pages_at}
use Rattle.kernel_spec.proofs.Prelude.{perm_of_page, Pipe_row, pos, range_with_len, reaches, reaches-not, reaches_touching, Read, read_stored, refl, reg, Registers, Result, Row, row_of, settled}
use Rattle.kernel_spec.proofs.Prelude.{Shown, Shown_file, Shown_pipe, Shown_terminal, Some, Step, step_of_word, Store, store_step, store_width, stored_by_instruction, stored_by_pipe, stored_by_row}
use Rattle.kernel_spec.proofs.Prelude.{stored_by_wait, stored_from, StoreMisaligned, StorePageFault, Storing, subst, suc, sym, true, unless_refused, user, View, Wait, Width, within-page, word}
use Rattle.kernel_spec.proofs.Prelude.{writable, zero}
use Rattle.rv64i_core.specs.Memory.{storing}
use Rattle.xk_base.proofs.Words.{length-le_bytes}
use Rattle.rv64i_core.specs.declared.access_width.Width.TheVariants.{Byte, HalfWord, Word, DoubleWord}
use Rattle.kernel_spec.proofs.rows.Touched.{IsTouched, touched_view, absent_before}
use Rattle.rv64i_core.specs.declared.instruction.Instr.TheVariants as op

-- user code may store at each of these
abbrev pub Allowed : Image → Store → Type 0
Allowed i s = (a : ℕ) → Lies s a → may Storing i a ≡ true

-- bytes of a buffer that may be written
pub of_buffer : (i : Image) (from n m : ℕ) (s : Store) → reaches Storing i from n ≡ true → s.address ≡ from + m → length s.bytes ≤ n - m → Allowed i s
of_buffer i from n m s all at few a l = by (may Storing i a) refl
  where
    by : (b : Bool) → may Storing i a ≡ b → b ≡ true
    by true e = refl
    by false e =
        let low = l.0 in
        let high = l.1 in
        let here : from + (a - from) ≡ a = omega (arith, low, at) in
        absurd (both_ways _ (reaches-not Storing i from n (a - from) (omega (arith, low, high, at, few)) (ap (may Storing i) here ∙ e)) all)

-- bytes of a buffer that has no absent page may be written as they stand
pub settled_reaches : (i : Image) (a n : ℕ) → has_absent (pages_at a n) i ≡ false → writable i a n ≡ true → reaches Storing i a n ≡ true
unfolding reaches reaches_touching
settled_reaches i a n settled all = by n a settled all
  where
    by : (n a : ℕ) → has_absent (pages_at a n) i ≡ false → list_all (may_touching Storing i) (range_with_len a n) ≡ true → list_all (may Storing i) (range_with_len a n) ≡ true
    by zero a settled all = refl
    by (suc n) a settled all =
        let present = or_parts (is_absent i (a / 4096)) (has_absent (pages_at (a + 1) n) i) settled in
        let parts = and_parts (may_touching Storing i a) (list_all (may_touching Storing i) (range_with_len (a + 1) n)) all in
        and_from (may Storing i a) (list_all (may Storing i) (range_with_len (a + 1) n)) (sym (ap (λ (b : Bool). b || may Storing i a) present.0) ∙ parts.0) (by n (a + 1) present.1 parts.1)

-- ---- an instruction

-- there is a cell at the address, which may be written
abbrev Writable : Memory → ℕ → Type 0
Writable memory a = (cell : Cell) × (memory a ≡ Some cell) × (cell.write ≡ true)

cell_writes : (cell : Cell) (rest bytes : List ℕ) (b : Bool) → cond b (Some (cell.byte ∷ rest)) None ≡ Some bytes → b ≡ true
cell_writes cell rest bytes true f = refl
cell_writes cell rest bytes false f = let no : ⊥ = cc in absurd no

-- the first of the bytes, or one of the rest
one_or_rest : (memory : Memory) (n address : ℕ) (bytes : List ℕ) (o : Option Cell) (left : Option (List ℕ)) → memory (address % 2 ^ 64) ≡ o
    → ((rest : List ℕ) → left ≡ Some rest → (k : ℕ) → k < n → Writable memory ((address + 1 + k) % 2 ^ 64))
    → cell_byte (λ c. c.write) o left ≡ Some bytes → (k : ℕ) → k < suc n → Writable memory ((address + k) % 2 ^ 64)
one_or_rest memory n address bytes None left is later e k lt = let no : ⊥ = cc in absurd no
one_or_rest memory n address bytes (Some cell) None is later e k lt = let no : ⊥ = cc in absurd no
one_or_rest memory n address bytes (Some cell) (Some rest) is later e zero lt =
    let here : address ≡ address + 0 = omega arith in
    (cell, ap (λ a. memory (a % 2 ^ 64)) (sym here) ∙ is, cell_writes cell rest bytes cell.write e)
one_or_rest memory n address bytes (Some cell) (Some rest) is later e (suc k) lt =
    let here : address + 1 + k ≡ address + suc k = omega arith in
    subst (λ a. Writable memory (a % 2 ^ 64)) here (later rest refl k (omega (arith, lt)))

cells_at : (memory : Memory) (n address : ℕ) (bytes : List ℕ) → bytes_at (λ c. c.write) memory address n ≡ Some bytes → (k : ℕ) → k < n → Writable memory ((address + k) % 2 ^ 64)
unfolding bytes_at
cells_at memory zero address bytes e k lt = absurd (omega (arith, lt))
cells_at memory (suc n) address bytes e k lt = one_or_rest memory n address bytes (memory (address % 2 ^ 64))
    (bytes_at (λ c. c.write) memory (address + 1) n) refl (λ rest left. cells_at memory n (address + 1) rest left) e k lt

-- a width's bytes, from an address that is a multiple of it on, don't go round
no_wrap : (w : Width) (address k : ℕ) → address < 2 ^ 64 → address % bytes_of_width w ≡ 0 → k < bytes_of_width w → (address + k) % 2 ^ 64 ≡ address + k
no_wrap Byte address k small even lt = omega (arith, small, even, lt)
no_wrap HalfWord address k small even lt = omega (arith, small, even, lt)
no_wrap Word address k small even lt = omega (arith, small, even, lt)
no_wrap DoubleWord address k small even lt = omega (arith, small, even, lt)

-- a store that lies in one page, and whose bytes may be written
abbrev WhereWritable : Memory → Store → Type 0
WhereWritable memory s = (s.address % 4096 + length s.bytes ≤ 4096) × ((a : ℕ) → s.address ≤ a → a < s.address + length s.bytes → Writable memory a)

abbrev put : Store → Result Store Cause
put s = Ok s

same_store : (a b : Store) → put a ≡ put b → a ≡ b
same_store a b e = cc

storing_writes : (memory : Memory) (address : ℕ) (w : Width) (value : ℕ) (s : Store) → address < 2 ^ 64 → storing memory address w value ≡ Ok s → WhereWritable memory s
unfolding storing
storing_writes memory address w value s small e = by (nat_eq (address % bytes_of_width w) 0) refl e
  where
    found : (o : Option (List ℕ)) → address % bytes_of_width w ≡ 0 → bytes_at (λ c. c.write) memory address (bytes_of_width w) ≡ o
        → or_fault StorePageFault (λ _. record { address = address; bytes = le_bytes (bytes_of_width w) value }) o ≡ Ok s → WhereWritable memory s
    found None even is f = let no : ⊥ = cc in absurd no
    found (Some bytes) even is f = subst (WhereWritable memory) (same_store (record { address = address; bytes = le_bytes (bytes_of_width w) value }) s f) (
      omega (arith, within-page address w even, length-le_bytes (bytes_of_width w) value),
      λ a low high.
          let below : a - address < bytes_of_width w = omega (arith, low, high, length-le_bytes (bytes_of_width w) value) in
          let here : address + (a - address) ≡ a = omega (arith, low) in
          subst (Writable memory) (no_wrap w address (a - address) small even below ∙ here) (cells_at memory (bytes_of_width w) address bytes is (a - address) below),
    )

    by : (b : Bool) → nat_eq (address % bytes_of_width w) 0 ≡ b
        → cond b (or_fault StorePageFault (λ _. record { address = address; bytes = le_bytes (bytes_of_width w) value })
        (bytes_at (λ c. c.write) memory address (bytes_of_width w))) (Err StoreMisaligned) ≡ Ok s → WhereWritable memory s
    by true even f = found (bytes_at (λ c. c.write) memory address (bytes_of_width w)) (eqb-true (address % bytes_of_width w) 0 even) refl f
    by false even f = let no : ⊥ = cc in absurd no

-- what an instruction may end in besides a store
no_store : {X : Type 0} (a b : Registers) (s : Store) → Next a None ≡ Next b (Some s) → X
no_store a b s e = let no : ⊥ = cc in absurd no

no_fault : {X : Type 0} (cause : Cause) (b : Registers) (s : Store) → Fault cause ≡ Next b (Some s) → X
no_fault cause b s e = let no : ⊥ = cc in absurd no

no_ecall : {X : Type 0} (b : Registers) (s : Store) → Ecall ≡ Next b (Some s) → X
no_ecall b s e = let no : ⊥ = cc in absurd no

no_jump : {X : Type 0} (t : Bool) (a b : Registers) (cause : Cause) (s : Store) → cond t (Next a None) (Fault cause) ≡ Next b (Some s) → X
no_jump true a b cause s e = no_store a b s e
no_jump false a b cause s e = no_fault cause b s e

same_put : (a b : Registers) (s t : Store) → Next a (Some s) ≡ Next b (Some t) → s ≡ t
same_put a b s t e = cc

module _ (regs : Registers) (memory : Memory) (r : Registers) (s : Store) where
  no_load : (op : LoadOp) (d : ℕ) (o : Result ℕ Cause) → load_step regs op d o ≡ Next r (Some s) → WhereWritable memory s
  no_load op d (Ok value) e = no_store _ r s e
  no_load op d (Err cause) e = no_fault cause r s e

  no_branch : (taken : Bool) (target : ℕ) → branch regs taken target ≡ Next r (Some s) → WhereWritable memory s
  unfolding branch
  no_branch false target e = no_store _ r s e
  no_branch true target e = no_jump (nat_eq (target % 4) 0) _ r _ s e

  store_writes : (o : Result Store Cause) (address : ℕ) (w : Width) (value : ℕ) → address < 2 ^ 64 → storing memory address w value ≡ o → store_step regs o ≡ Next r (Some s) → WhereWritable memory s
  store_writes (Ok t) address w value small is e = subst (WhereWritable memory) (same_put _ r t s e) (storing_writes memory address w value t small is)
  store_writes (Err cause) address w value small is e = no_fault cause r s e

  row_writes : (i : Instr) → instruction_row i regs memory ≡ Next r (Some s) → WhereWritable memory s
  unfolding instruction_row jump
  row_writes (op.Lui d imm) e = no_store _ r s e
  row_writes (op.Auipc d imm) e = no_store _ r s e
  row_writes (op.Jal d offset) e = no_jump _ _ r _ s e
  row_writes (op.Jalr d t imm) e = no_jump _ _ r _ s e
  row_writes (op.Branch b t u offset) e = no_branch _ _ e
  row_writes (op.Load l d t imm) e = no_load l d _ e
  row_writes (op.Store w t u imm) e = store_writes (storing memory (add (reg regs t) (extended 12 imm)) (store_width w) (reg regs u))
      (add (reg regs t) (extended 12 imm)) (store_width w) (reg regs u) (omega arith) refl e
  row_writes (op.OpImm o d t imm) e = no_store _ r s e
  row_writes (op.ShiftImm o d t places) e = no_store _ r s e
  row_writes (op.Op o d t u) e = no_store _ r s e
  row_writes (op.AddImmW d t imm) e = no_store _ r s e
  row_writes (op.ShiftImmW o d t places) e = no_store _ r s e
  row_writes (op.OpW o d t u) e = no_store _ r s e
  row_writes (op.Fence d t imm) e = no_store _ r s e
  row_writes op.Ecall e = no_ecall r s e
  row_writes op.Ebreak e = no_fault _ r s e

  word_writes : (o : Option Instr) → instruction_of o regs memory ≡ Next r (Some s) → WhereWritable memory s
  word_writes None e = no_fault _ r s e
  word_writes (Some i) e = row_writes i e

  fetch_writes : (o : Result ℕ Cause) → step_of_word o regs memory ≡ Next r (Some s) → WhereWritable memory s
  fetch_writes (Ok word) e = word_writes (decoded word) e
  fetch_writes (Err cause) e = no_fault cause r s e

  instruction_writes : instr regs memory ≡ Next r (Some s) → WhereWritable memory s
  unfolding instr
  instruction_writes e = fetch_writes (fetched memory regs.pc) e

-- a store of an instruction lies in one page
pub store_in_page : (regs : Registers) (memory : Memory) (r : Registers) (s : Store) → instr regs memory ≡ Next r (Some s) → s.address % 4096 + length s.bytes ≤ 4096
store_in_page regs memory r s is = (instruction_writes regs memory r s is).0

-- what the memory of an image lets user code write
user_may : (i : Image) (a : ℕ) → Writable (user i) a → may Storing i a ≡ true
unfolding user
user_may i a (cell, is, writes) = by (get i.pages (a / 4096)) refl is
  where
    in_page : (u w x r : Bool) (byte : ℕ) → cond u (Some (record { read = r; write = w; execute = x; byte = byte })) None ≡ Some cell → (u && w) ≡ true
    in_page true w x r byte e = let same : record { read = r; write = w; execute = x; byte = byte } ≡ cell = cc in ap (λ (c : Cell). c.write) same ∙ writes
    in_page false w x r byte e = let no : ⊥ = cc in absurd no

    by : (o : Option Page) → get i.pages (a / 4096) ≡ o → cell_in o (a % 4096) ≡ Some cell → may Storing i a ≡ true
    by None e f = let no : ⊥ = cc in absurd no
    by (Some page) e f = ap (λ o. allows Storing (option_map perm_of_page o)) e ∙ in_page page.perm.user page.perm.write page.perm.execute page.perm.read _ f

-- where an instruction stores, user code may store
pub instruction_may : (regs : Registers) (image : Image) (r : Registers) (s : Store) → instr regs (user image) ≡ Next r (Some s) → Allowed image s
instruction_may regs image r s is a l = user_may image a ((instruction_writes regs (user image) r s is).1 a l.0 l.1)

-- ---- where pages came

-- user code may store at each of these, or may do so once the page is touched
abbrev pub AllowedTouching : Image → Store → Type 0
AllowedTouching i s = (a : ℕ) → Lies s a → may_touching Storing i a ≡ true

-- where user code may store once pages are touched, it may do so before, or may do so once the page is touched
pub may_before : (i j : Image) → IsTouched i j → (a : ℕ) → may Storing j a ≡ true → may_touching Storing i a ≡ true
may_before i j t a e = by (get i.pages (a / 4096)) (get j.pages (a / 4096)) refl refl e
  where
    by : (o q : Option Page) → get i.pages (a / 4096) ≡ o → get j.pages (a / 4096) ≡ q → allows Storing (option_map perm_of_page q) ≡ true → may_touching Storing i a ≡ true
    by None None was is h = let no : ⊥ = cc in absurd no
    by None (Some y) was is h = ap (λ (b : Bool). b || may Storing i a) (t.new (a / 4096) y was is).0
    by (Some x) q was is h =
        or_right (is_absent i (a / 4096)) (may Storing i a) (ap (λ (p : Option Page). allows Storing (option_map perm_of_page p)) (was ∙ sym (t.kept (a / 4096) x was) ∙ is) ∙ h)

pub touching_before : (i j : Image) → IsTouched i j → (a : ℕ) → may_touching Storing j a ≡ true → may_touching Storing i a ≡ true
touching_before i j t a e = by (is_absent j (a / 4096)) refl e
  where
    by : (b : Bool) → is_absent j (a / 4096) ≡ b → (b || may Storing j a) ≡ true → may_touching Storing i a ≡ true
    by true absent h = ap (λ (b : Bool). b || may Storing i a) (absent_before i j (a / 4096) t absent)
    by false present h = may_before i j t a h

-- ---- the same stores

-- a row stores the same in views that differ in their registers, image, call and free frames alone
abbrev SameSources : View → View → Type 0
SameSources u v = u ≡ record v { regs = u.regs; image = u.image; call = u.call; free = u.free }

module _ (c : Call) (u v : View) (same : SameSources u v) where
  same_shown : (n : ℕ) (x : Shown) → read_stored c u n x ≡ read_stored c v n x
  same_shown n Shown_terminal = ap (λ (w : View). read_stored c w n Shown_terminal) same
  same_shown n (Shown_file program offset) = ap (λ (w : View). read_stored c w n (Shown_file program offset)) same
  same_shown n (Shown_pipe name end pipe) = refl

  same_source : (r : Option Row) (answer : Answer) → stored_by_row c u r answer ≡ stored_by_row c v r answer
  same_source None answer = refl
  same_source (Some Wait) answer = ap (λ (w : View). stored_by_wait c w.children answer) same
  same_source (Some Pipe_row) answer = ap (λ (w : View). stored_by_pipe c w.descriptors answer) same
  same_source (Some Read) answer = ap (unless_refused answer) (by_number (c_int c.a0))
    where
      by_descriptor : (o : Option Descriptor) → stored_from c u o ≡ stored_from c v o
      by_descriptor None = refl
      by_descriptor (Some d) = same_shown (or_zero (natural (c_int c.a2))) d.shown

      by_number : (z : ℤ) → stored_from c u (in_use u z) ≡ stored_from c v (in_use v z)
      by_number (pos fd) = by_descriptor (u.descriptors fd) ∙ ap (λ (w : View). stored_from c v (w.descriptors fd)) same
      by_number (negsuc k) = refl
  same_source _ answer = refl

-- the same stores, whether pages came before or not
pub same_row : (c : Call) (v : View) (image : Image) (free : ℕ) (r : Option Row) (answer : Answer) → stored_by_row c (touched_view v image free) r answer ≡ stored_by_row c v r answer
same_row c v image free r answer = same_source c (touched_view v image free) v refl r answer

pub same_begun : (v : View) (answer : Answer) → stored_by_row (call_begun v) (begun v) (row_of (call_begun v).number) answer ≡ stored_by_instruction v Ecall answer
same_begun v answer = same_source (call_begun v) (begun v) v refl (row_of (call_begun v).number) answer

pub same_stores : (v : View) (image : Image) (free : ℕ) (st : Step) (answer : Answer) → stored_by_instruction (touched_view v image free) st answer ≡ stored_by_instruction v st answer
same_stores v image free (Next r None) answer = refl
same_stores v image free (Next r (Some st)) answer = refl
same_stores v image free Ecall answer = same_row (call_begun v) v image free (row_of (call_begun v).number) answer
same_stores v image free (Fault cause) answer = refl
