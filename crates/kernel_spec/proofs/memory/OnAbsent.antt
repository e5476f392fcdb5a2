-- Instructions and touched pages, over plain images: what an instruction finds is the same once some pages are touched,
-- and one that is on an absent page is done once that page is there.
use Rattle.kernel_spec.proofs.Prelude.{[], ℕ, ◌%◌, ◌&&◌, ◌*◌, ◌+◌, ◌/◌, ◌<◌, ◌^◌, ◌||◌, ◌∙◌, ◌∷◌, ◌≡◌, ◌≤◌, add, AddImmW, address_used, after, and_parts, and_right, ap, arith, Auipc}
use Rattle.kernel_spec.proofs.Prelude.{before_instruction, before_step, Bool, Branch, branch, brought, bytes_at, bytes_of_width, Cause, Cell, cell_byte, cell_in, cond, data_address, data_address_of}
use Rattle.kernel_spec.proofs.Prelude.{data_rights, decoded, Ebreak, Ecall, EcallInstr, eqb, eqb-true, Err, extended, false, false≢true, Fault, Fence, fetched, FetchPageFault, get, if◌then◌else◌}
use Rattle.kernel_spec.proofs.Prelude.{Image, Instr, instr, instruction_of as row_of, instruction_row as row, is_absent, is_data_page_fault, is_taken, Jal, Jalr, jump, le, le_bytes, List, Load}
use Rattle.kernel_spec.proofs.Prelude.{load_step, load_width, LoadMisaligned, LoadOp, LoadPageFault, Lui, Memory, Next, next_instruction, None, Ok, Op, OpImm, Option, OpW, or_fault, or_pc, Page}
use Rattle.kernel_spec.proofs.Prelude.{page_used, put, refl, reg, Registers, Result, ShiftImm, ShiftImmW, slice_index, Some, Step, step_of_word, stop_of, Store, store_step, store_width, StoreInstr}
use Rattle.kernel_spec.proofs.Prelude.{StoreMisaligned, StorePageFault, subst, suc, sym, TargetMisaligned, touch, true, unwrap_or, user, View, Width, with_page, with_pc, within-page, zero, zero_frame}
use Rattle.kernel_spec.proofs.Prelude.{zeroed}
use Rattle.rv64i_core.specs.Memory.{storing, loaded}
use Rattle.rv64i_core.specs.Step.{instruction_of}
use Rattle.rv64i_core.specs.declared.instruction.StoreOp.{StoreOp}
use Rattle.kernel_spec.proofs.rows.Settled.{there-not-absent, brought-there, touch-none}
use Rattle.kernel_spec.proofs.steps.MapsAfterChange.{get_same}
use Rattle.rv64i_core.specs.declared.execution.Stop.TheVariants as stops

-- a load or a store faults for its page
abbrev pub faults_on_data : Step → Bool
faults_on_data (Next regs store) = false
faults_on_data Ecall = false
faults_on_data (Fault cause) = is_data_page_fault cause

-- the instruction at the pc loads from an absent page, or stores to one
unfoldable pub is_on_absent : Registers → Image → Bool
is_on_absent regs image = faults_on_data (next_instruction regs image) && is_absent image (page_used regs image)

-- the page that is touched alone, where it was absent
pub brought-one : (v : ℕ) (i : Image) → is_absent i v ≡ true → get (brought (v ∷ []) i).pages v ≡ Some (zeroed data_rights)
unfolding brought
brought-one v i absent = ap (λ b. get (cond b (with_page i v (zeroed data_rights)) i).pages v) absent ∙ get_same i.pages v (zeroed data_rights)

-- ---- what user code finds

-- a memory that has all that another one has
abbrev pub Holds : Memory → Memory → Type 0
Holds m n = (a : ℕ) (cell : Cell) → m a ≡ Some cell → n a ≡ Some cell

pub user-keeps : (ps : List ℕ) (i : Image) → Holds (user i) (user (brought ps i))
unfolding user
user-keeps ps i a cell is = by (get i.pages (a / 4096)) refl is
  where
    by : (o : Option Page) → get i.pages (a / 4096) ≡ o → cell_in o (a % 4096) ≡ Some cell → cell_in (get (brought ps i).pages (a / 4096)) (a % 4096) ≡ Some cell
    by None e h = absurd (cc)
    by (Some page) e h = ap (λ o. cell_in o (a % 4096)) (brought-there ps i (a / 4096) page e) ∙ h

one-kept : (allows : Cell → Bool) (n : Memory) (a : ℕ) (c : Option Cell) (r rest : Option (List ℕ)) (bs : List ℕ)
    → ((cell : Cell) → c ≡ Some cell → n a ≡ Some cell) → ((l : List ℕ) → r ≡ Some l → rest ≡ Some l)
    → cell_byte allows c r ≡ Some bs → cell_byte allows (n a) rest ≡ Some bs
one-kept allows n a None r rest bs here behind h = absurd (cc)
one-kept allows n a (Some cell) None rest bs here behind h = absurd (cc)
one-kept allows n a (Some cell) (Some l) rest bs here behind h = ap (λ c. cell_byte allows c rest) (here cell refl) ∙ ap (λ r. cell_byte allows (Some cell) r) (behind l refl) ∙ h

pub bytes-held : (allows : Cell → Bool) (m n : Memory) → Holds m n → (k a : ℕ) (bs : List ℕ) → bytes_at allows m a k ≡ Some bs → bytes_at allows n a k ≡ Some bs
unfolding bytes_at
bytes-held allows m n holds zero a bs h = h
bytes-held allows m n holds (suc k) a bs h =
    one-kept allows n (a % 2 ^ 64) (m (a % 2 ^ 64)) (bytes_at allows m (a + 1) k) (bytes_at allows n (a + 1) k) bs (holds (a % 2 ^ 64)) (λ l e. bytes-held allows m n holds k (a + 1) l e) h

-- an answer that the bytes give, given by more memory too
answer-held : {B : Type 0} (cause : Cause) (f : List ℕ → B) (o p : Option (List ℕ)) (b : B) → ((bs : List ℕ) → o ≡ Some bs → p ≡ Some bs) → or_fault cause f o ≡ Ok b → or_fault cause f p ≡ Ok b
answer-held cause f None p b held h = absurd (cc)
answer-held cause f (Some bs) p b held h = ap (or_fault cause f) (held bs refl) ∙ h

pub fetched-held : (m n : Memory) → Holds m n → (pc w : ℕ) → fetched m pc ≡ Ok w → fetched n pc ≡ Ok w
unfolding fetched
fetched-held m n holds pc w h = answer-held FetchPageFault le (bytes_at (λ c. c.execute) m pc 4) (bytes_at (λ c. c.execute) n pc 4) w (bytes-held (λ c. c.execute) m n holds 4 pc) h

abbrev puts : ℕ → Width → ℕ → List ℕ → Store
puts a w v = λ _. record { address = a; bytes = le_bytes (bytes_of_width w) v }

-- ---- the instruction

pub same_word : (ps : List ℕ) (i : Image) (pc w : ℕ) → fetched (user i) pc ≡ Ok w → fetched (user (brought ps i)) pc ≡ Ok w
same_word ps i pc w h = fetched-held (user i) (user (brought ps i)) (user-keeps ps i) pc w h

-- ---- an access to a page that is there, with all that a touched page allows

-- user code may read and write each byte of page v
pub record IsOpen (m : Memory) (v : ℕ) : Type 0 where
  pub cell : (o : ℕ) → o < 4096 → (c : Cell) × (m (4096 * v + o) ≡ Some c) × (c.read ≡ true) × (c.write ≡ true)

touched-cell : ℕ → Cell
touched-cell byte = record { read = true; write = true; execute = false; byte = byte }

open-cell : (pages : ℕ → Option Page) (v o : ℕ) → o < 4096 → pages v ≡ Some (zeroed data_rights)
    → cell_in (pages ((4096 * v + o) / 4096)) ((4096 * v + o) % 4096) ≡ Some (touched-cell (slice_index zero_frame o))
unfolding touched-cell
open-cell pages v o lt is =
    let q : (4096 * v + o) / 4096 ≡ v = omega arith in
    let r : (4096 * v + o) % 4096 ≡ o = omega arith in
    ap (λ u. cell_in (pages u) ((4096 * v + o) % 4096)) q ∙ ap (cell_in (pages v)) r ∙ ap (λ p. cell_in p o) is

pub touched-open : (i : Image) (v : ℕ) → get i.pages v ≡ Some (zeroed data_rights) → IsOpen (user i) v
unfolding user touched-cell
touched-open i v is = record { cell = λ o lt. (touched-cell (slice_index zero_frame o), open-cell (get i.pages) v o lt is, refl, refl) }

one-more : (allows : Cell → Bool) (m : Memory) (a v o : ℕ) (c : Cell) (bs : List ℕ) (rest : Option (List ℕ)) → a % 2 ^ 64 ≡ 4096 * v + o
    → m (4096 * v + o) ≡ Some c → allows c ≡ true → rest ≡ Some bs → cell_byte allows (m (a % 2 ^ 64)) rest ≡ Some (c.byte ∷ bs)
one-more allows m a v o c bs rest at is may behind =
    ap (λ x. cell_byte allows (m x) rest) at ∙ ap (λ x. cell_byte allows x rest) is ∙ ap (cell_byte allows (Some c)) behind ∙ ap (λ b. cond b (Some (c.byte ∷ bs)) None) may

bytes-there : (allows : Cell → Bool) (m : Memory) (v : ℕ) → v < 2 ^ 52
    → ((o : ℕ) → o < 4096 → (c : Cell) × (m (4096 * v + o) ≡ Some c) × (allows c ≡ true)) → (k o : ℕ) → o + k ≤ 4096
    → (bs : List ℕ) × (bytes_at allows m (4096 * v + o) k ≡ Some bs)
unfolding bytes_at
bytes-there allows m v small each zero o fits = ([], refl)
bytes-there allows m v small each (suc k) o fits =
    let rest = bytes-there allows m v small each k (o + 1) (omega (arith, fits)) in
    let next : 4096 * v + o + 1 ≡ 4096 * v + (o + 1) = omega arith in
    let at : (4096 * v + o) % 2 ^ 64 ≡ 4096 * v + o = omega (arith, small, fits) in
    let here = each o (omega (arith, fits)) in
    (here.0.byte ∷ rest.0, one-more allows m (4096 * v + o) v o here.0 rest.0 (bytes_at allows m (4096 * v + o + 1) k) at here.1 here.2 (ap (λ a. bytes_at allows m a k) next ∙ rest.1))

bytes-within : (allows : Cell → Bool) (m : Memory) (a k : ℕ) → a < 2 ^ 64 → a % 4096 + k ≤ 4096
    → ((o : ℕ) → o < 4096 → (c : Cell) × (m (4096 * (a / 4096) + o) ≡ Some c) × (allows c ≡ true)) → (bs : List ℕ) × (bytes_at allows m a k ≡ Some bs)
bytes-within allows m a k small fits each =
    let all = bytes-there allows m (a / 4096) (omega (arith, small)) each k (a % 4096) fits in
    let at : 4096 * (a / 4096) + a % 4096 ≡ a = omega arith in
    (all.0, ap (λ x. bytes_at allows m x k) (sym at) ∙ all.1)

pub loads-there : (m : Memory) (a : ℕ) (w : Width) → a < 2 ^ 64 → a % bytes_of_width w ≡ 0 → IsOpen m (a / 4096) → (v : ℕ) × (loaded m a w ≡ Ok v)
unfolding loaded
loads-there m a w small aligned there =
    let bs = bytes-within (λ c. c.read) m a (bytes_of_width w) small (within-page a w aligned) (λ o lt. let c = there.cell o lt in (c.0, c.1, c.2)) in
    (le bs.0, ap (λ x. cond (eqb x 0) (or_fault LoadPageFault le (bytes_at (λ c. c.read) m a (bytes_of_width w))) (Err LoadMisaligned)) aligned ∙ ap (or_fault LoadPageFault le) bs.1)

pub stores-there : (m : Memory) (a : ℕ) (w : Width) (v : ℕ) → a < 2 ^ 64 → a % bytes_of_width w ≡ 0 → IsOpen m (a / 4096)
    → storing m a w v ≡ Ok (record { address = a; bytes = le_bytes (bytes_of_width w) v })
unfolding storing
stores-there m a w v small aligned there =
    let bs = bytes-within (λ c. c.write) m a (bytes_of_width w) small (within-page a w aligned) (λ o lt. let c = there.cell o lt in (c.0, c.1, c.3)) in
    ap (λ x. cond (eqb x 0) (or_fault StorePageFault (puts a w v) (bytes_at (λ c. c.write) m a (bytes_of_width w))) (Err StoreMisaligned)) aligned ∙ ap (or_fault StorePageFault (puts a w v)) bs.1

-- ---- a load or a store that faults, and is done where its page is there

not-even : {B : Type 0} (b : Bool) (x : Result B Cause) (cause : Cause) (asked : Result B Cause → Bool) → asked (Err cause) ≡ false → asked (if b then x else Err cause) ≡ true → b ≡ true
not-even true x cause asked other h = refl
not-even false x cause asked other h = absurd (false≢true (sym other ∙ h))

load-comes : (m n : Memory) (regs : Registers) (op : LoadOp) (d a : ℕ) → a < 2 ^ 64
    → faults_on_data (load_step regs op d (loaded m a (load_width op))) ≡ true → IsOpen n (a / 4096)
    → stop_of (load_step regs op d (loaded n a (load_width op))) ≡ stops.Next
unfolding loaded
load-comes m n regs op d a small h there =
    let w = load_width op in
    let even = eqb-true (a % bytes_of_width w) 0 (not-even (eqb (a % bytes_of_width w) 0)
    (or_fault LoadPageFault le (bytes_at (λ c. c.read) m a (bytes_of_width w))) LoadMisaligned (λ x. faults_on_data (load_step regs op d x)) refl h) in
    let done = loads-there n a w small even there in
    ap (λ x. stop_of (load_step regs op d x)) done.1

store-comes : (m n : Memory) (regs : Registers) (op : StoreOp) (a v : ℕ) → a < 2 ^ 64
    → faults_on_data (store_step regs (storing m a (store_width op) v)) ≡ true → IsOpen n (a / 4096)
    → stop_of (store_step regs (storing n a (store_width op) v)) ≡ stops.Next
unfolding storing
store-comes m n regs op a v small h there =
    let w = store_width op in
    let even = eqb-true (a % bytes_of_width w) 0 (not-even (eqb (a % bytes_of_width w) 0)
    (or_fault StorePageFault (puts a w v) (bytes_at (λ c. c.write) m a (bytes_of_width w))) StoreMisaligned
    (λ x. faults_on_data (store_step regs x)) refl h) in
    ap (λ x. stop_of (store_step regs x)) (stores-there n a w v small even there)

sum-small : (a b : ℕ) → add a b < 2 ^ 64
sum-small a b = omega arith

target-fault : (b : Bool) (new : Registers) → faults_on_data (if b then Next new None else Fault TargetMisaligned) ≡ true → ⊥
target-fault true new h = false≢true h
target-fault false new h = false≢true h

branch-fault : (b : Bool) (regs : Registers) (target : ℕ) → faults_on_data (branch regs b target) ≡ true → ⊥
unfolding branch
branch-fault true regs target h = target-fault (eqb (target % 4) 0) (with_pc regs target) h
branch-fault false regs target h = false≢true h

jump-fault : (regs : Registers) (d target : ℕ) → faults_on_data (jump regs d target) ≡ true → ⊥
unfolding jump
jump-fault regs d target h = target-fault (eqb (target % 4) 0) (with_pc (put regs d (after regs)) target) h

row-comes : (m n : Memory) (regs : Registers) (i : Instr) → faults_on_data (row i regs m) ≡ true → IsOpen n (or_pc regs (data_address regs i) / 4096) → stop_of (row i regs n) ≡ stops.Next
unfolding row data_address
row-comes m n regs (Lui d imm) h there = absurd (false≢true h)
row-comes m n regs (Auipc d imm) h there = absurd (false≢true h)
row-comes m n regs (Jal d offset) h there = absurd (jump-fault regs d (add regs.pc (extended 21 (offset * 2))) h)
row-comes m n regs (Jalr d s imm) h there = absurd (jump-fault regs d (add (reg regs s) (extended 12 imm) / 2 * 2) h)
row-comes m n regs (Branch op s t offset) h there = absurd (branch-fault (is_taken op (reg regs s) (reg regs t)) regs (add regs.pc (extended 13 (offset * 2))) h)
row-comes m n regs (Load op d s imm) h there = load-comes m n regs op d (add (reg regs s) (extended 12 imm)) (sum-small (reg regs s) (extended 12 imm)) h there
row-comes m n regs (StoreInstr op s t imm) h there = store-comes m n regs op (add (reg regs s) (extended 12 imm)) (reg regs t) (sum-small (reg regs s) (extended 12 imm)) h there
row-comes m n regs (OpImm op d s imm) h there = absurd (false≢true h)
row-comes m n regs (ShiftImm op d s places) h there = absurd (false≢true h)
row-comes m n regs (Op op d s t) h there = absurd (false≢true h)
row-comes m n regs (AddImmW d s imm) h there = absurd (false≢true h)
row-comes m n regs (ShiftImmW op d s places) h there = absurd (false≢true h)
row-comes m n regs (OpW op d s t) h there = absurd (false≢true h)
row-comes m n regs (Fence d s imm) h there = absurd (false≢true h)
row-comes m n regs EcallInstr h there = absurd (false≢true h)
row-comes m n regs Ebreak h there = absurd (false≢true h)

row_of-comes : (m n : Memory) (regs : Registers) (i : Option Instr) → faults_on_data (row_of i regs m) ≡ true
    → IsOpen n (or_pc regs (data_address_of regs i) / 4096) → stop_of (row_of i regs n) ≡ stops.Next
row_of-comes m n regs None h there = absurd (false≢true h)
row_of-comes m n regs (Some i) h there = row-comes m n regs i h there

-- a fault on data isn't one of the fetch
pub data-fetched : (m : Memory) (regs : Registers) → faults_on_data (instr regs m) ≡ true → (w : ℕ) × (fetched m regs.pc ≡ Ok w)
unfolding instr fetched
data-fetched m regs h = by (bytes_at (λ c. c.execute) m regs.pc 4) h
  where
    by : (o : Option (List ℕ)) → faults_on_data (step_of_word (or_fault FetchPageFault le o) regs m) ≡ true → (w : ℕ) × (or_fault FetchPageFault le o ≡ Ok w)
    by None h = absurd (false≢true h)
    by (Some bs) h = (le bs, refl)

-- the address that an instruction uses, by its word
pub address-of_word : (m : Memory) (regs : Registers) (w : ℕ) → fetched m regs.pc ≡ Ok w → address_used regs m ≡ or_pc regs (data_address_of regs (decoded w))
unfolding address_used
address-of_word m regs w is = ap (λ x. or_pc regs (data_address_of regs (instruction_of x))) is

instr-comes : (m n : Memory) → Holds m n → (regs : Registers) → faults_on_data (instr regs m) ≡ true → IsOpen n (address_used regs m / 4096) → stop_of (instr regs n) ≡ stops.Next
unfolding instr
instr-comes m n holds regs h there =
    let got = data-fetched m regs h in
    let w = got.0 in
    let faults : faults_on_data (row_of (decoded w) regs m) ≡ true = sym (ap (λ x. faults_on_data (step_of_word x regs m)) got.1) ∙ h in
    let there_too : IsOpen n (or_pc regs (data_address_of regs (decoded w)) / 4096) = subst (λ a. IsOpen n (a / 4096)) (address-of_word m regs w got.1) there in
    ap (λ x. stop_of (step_of_word x regs n)) (fetched-held m n holds regs.pc w got.1) ∙ row_of-comes m n regs (decoded w) faults there_too

-- ---- an instruction on an absent page

on-absent : (regs : Registers) (i : Image) → is_on_absent regs i ≡ true → (faults_on_data (next_instruction regs i) ≡ true) × (is_absent i (page_used regs i) ≡ true)
unfolding is_on_absent
on-absent regs i h = and_parts (faults_on_data (next_instruction regs i)) (is_absent i (page_used regs i)) h

-- it is on the same page, whichever pages are touched
pub same_page_used : (ps : List ℕ) (regs : Registers) (i : Image) → is_on_absent regs i ≡ true → page_used regs (brought ps i) ≡ page_used regs i
same_page_used ps regs i h =
    let got = data-fetched (user i) regs (on-absent regs i h).0 in
    let after = fetched-held (user i) (user (brought ps i)) (user-keeps ps i) regs.pc got.0 got.1 in
    ap (λ a. a / 4096) (address-of_word (user (brought ps i)) regs got.0 after ∙ sym (address-of_word (user i) regs got.0 got.1))

-- the page is there, once it is touched: zeros that user code may read and write
pub page_used_comes : (regs : Registers) (i : Image) → is_on_absent regs i ≡ true → get (brought (page_used regs i ∷ []) i).pages (page_used regs i) ≡ Some (zeroed data_rights)
page_used_comes regs i h = brought-one (page_used regs i) i (on-absent regs i h).1

-- and the instruction is on no absent page any more
pub off_absent_once_touched : (regs : Registers) (i : Image) → is_on_absent regs i ≡ true → is_on_absent regs (brought (page_used regs i ∷ []) i) ≡ false
unfolding is_on_absent
off_absent_once_touched regs i h =
    let t = brought (page_used regs i ∷ []) i in
    ap (λ p. faults_on_data (next_instruction regs t) && is_absent t p) (same_page_used (page_used regs i ∷ []) regs i h)
    ∙ ap (λ b. faults_on_data (next_instruction regs t) && b) (there-not-absent t (page_used regs i) (zeroed data_rights) (page_used_comes regs i h))
    ∙ and_right (faults_on_data (next_instruction regs t)) false refl

-- it is done then: it neither faults nor calls the kernel
pub done_once_touched : (regs : Registers) (i : Image) → is_on_absent regs i ≡ true → stop_of (next_instruction regs (brought (page_used regs i ∷ []) i)) ≡ stops.Next
done_once_touched regs i h =
    let ps = page_used regs i ∷ [] in
    instr-comes (user i) (user (brought ps i)) (user-keeps ps i) regs (on-absent regs i h).0 (touched-open (brought ps i) (page_used regs i) (page_used_comes regs i h))

pub next_of_stop : (s : Step) → stop_of s ≡ stops.Next → (new : Registers) × (store : Option Store) × (s ≡ Next new store)
next_of_stop (Next new store) h = (new, store, refl)
next_of_stop Ecall h = absurd (cc)
next_of_stop (Fault cause) h = absurd (cc)

pub next_once_touched : (regs : Registers) (i : Image) → is_on_absent regs i ≡ true
    → (new : Registers) × (store : Option Store) × (next_instruction regs (brought (page_used regs i ∷ []) i) ≡ Next new store)
next_once_touched regs i h = next_of_stop (next_instruction regs (brought (page_used regs i ∷ []) i)) (done_once_touched regs i h)

-- ---- an instruction that is on no absent page

pub not_on_absent : (regs : Registers) (i : Image) → faults_on_data (next_instruction regs i) ≡ false → is_on_absent regs i ≡ false
unfolding is_on_absent
not_on_absent regs i h = ap (λ b. b && is_absent i (page_used regs i)) h

pub next_not_on_absent : (regs new : Registers) (i : Image) (store : Option Store) → next_instruction regs i ≡ Next new store → is_on_absent regs i ≡ false
next_not_on_absent regs new i store h = not_on_absent regs i (ap faults_on_data h)

pub ecall_not_on_absent : (regs : Registers) (i : Image) → next_instruction regs i ≡ Ecall → is_on_absent regs i ≡ false
ecall_not_on_absent regs i h = not_on_absent regs i (ap faults_on_data h)

-- a fault that isn't a page fault of a load or a store
pub fault_not_on_absent : (regs : Registers) (i : Image) (cause : Cause) → next_instruction regs i ≡ Fault cause → is_data_page_fault cause ≡ false → is_on_absent regs i ≡ false
fault_not_on_absent regs i cause h other = not_on_absent regs i (ap faults_on_data h ∙ other)

-- a page that is there, or lies past the size
pub page_not_on_absent : (regs : Registers) (i : Image) → is_absent i (page_used regs i) ≡ false → is_on_absent regs i ≡ false
unfolding is_on_absent
page_not_on_absent regs i h = ap (λ b. faults_on_data (next_instruction regs i) && b) h ∙ and_right (faults_on_data (next_instruction regs i)) false refl

-- ---- the view in which an instruction is done

-- it is told by whether the instruction is on an absent page
pub before-is : (v : View) → before_instruction v ≡ (if is_on_absent v.regs v.image then unwrap_or (touch (page_used v.regs v.image ∷ []) v) v else v)
unfolding is_on_absent
before-is v = by (next_instruction v.regs v.image)
  where
    came : View
    came = unwrap_or (touch (page_used v.regs v.image ∷ []) v) v

    fault : (d b : Bool) → is_absent v.image (page_used v.regs v.image) ≡ b → (if d then came else v) ≡ (if d && is_absent v.image (page_used v.regs v.image) then came else v)
    fault false b e = refl
    fault true true e = sym (ap (λ b. if b then came else v) e)
    fault true false e = ap (λ o. unwrap_or o v) (touch-none (page_used v.regs v.image ∷ []) v (ap (λ b. b || false) e)) ∙ sym (ap (λ b. if b then came else v) e)

    by : (st : Step) → before_step st v ≡ (if faults_on_data st && is_absent v.image (page_used v.regs v.image) then came else v)
    by (Next regs store) = refl
    by Ecall = refl
    by (Fault cause) = fault (is_data_page_fault cause) (is_absent v.image (page_used v.regs v.image)) refl

pub before_same : (v : View) → is_on_absent v.regs v.image ≡ false → before_instruction v ≡ v
before_same v off = before-is v ∙ ap (λ b. if b then unwrap_or (touch (page_used v.regs v.image ∷ []) v) v else v) off

pub before_next : (v : View) (new : Registers) (store : Option Store) → next_instruction v.regs v.image ≡ Next new store → before_instruction v ≡ v
before_next v new store h = before_same v (next_not_on_absent v.regs new v.image store h)

pub before_ecall : (v : View) → next_instruction v.regs v.image ≡ Ecall → before_instruction v ≡ v
before_ecall v h = before_same v (ecall_not_on_absent v.regs v.image h)

pub before_fault : (v : View) (cause : Cause) → next_instruction v.regs v.image ≡ Fault cause → is_data_page_fault cause ≡ false → before_instruction v ≡ v
before_fault v cause h other = before_same v (fault_not_on_absent v.regs v.image cause h other)

pub before_touched : (v t : View) → is_on_absent v.regs v.image ≡ true → touch (page_used v.regs v.image ∷ []) v ≡ Some t → before_instruction v ≡ t
before_touched v t on is = before-is v ∙ ap (λ b. if b then unwrap_or (touch (page_used v.regs v.image ∷ []) v) v else v) on ∙ ap (λ o. unwrap_or o v) is

pub before_untouched : (v : View) → touch (page_used v.regs v.image ∷ []) v ≡ None → before_instruction v ≡ v
before_untouched v none = before-is v ∙ ap (λ o. if is_on_absent v.regs v.image then unwrap_or o v else v) none ∙ either (is_on_absent v.regs v.image)
  where
    either : (b : Bool) → (if b then v else v) ≡ v
    either true = refl
    either false = refl
