-- Sv39: page-table entries, and the walk from a virtual address to a frame (RISC-V Privileged ISA, "Sv39: Page-Based 39-bit
-- Virtual-Memory System"). The bits of an entry: V 0, R 1, W 2, X 3, U 4, G 5, A 6, D 7, software 9..8, page number 53..10.
use Rattle.std.specs.Prelude.{ℕ, zero, suc, ◌+◌, ◌-◌, ◌*◌, ◌/◌, ◌%◌, ◌^◌, ◌==◌, ◌&&◌, ◌||◌, Bool, false, not, if◌then◌else◌, nat_le, nat_lt, List, Option, Some, None, length}
use Rattle.std.specs.Int.{bit_at}
use Rattle.phys_ram.specs.Ram.{word_at}
use Rattle.xk_base.specs.declared.access.Rights.{Rights}
use Rattle.xk_base.specs.declared.access.Access.{Access}
use Rattle.xk_base.specs.declared.access.Access.TheVariants.{Fetch, Load, Store}
use Rattle.xk_base.specs.declared.access.Cause.{Cause}
use Rattle.xk_base.specs.declared.access.Cause.TheVariants.{FetchPageFault, LoadPageFault, StorePageFault}
use Rattle.sv39_core.specs.declared.entry.Entry.{Entry}
use Rattle.sv39_core.specs.declared.entry.Entry.TheVariants.{Invalid, Table, Leaf}

-- ---- entries

-- bit k of a word is 1
abbrev pub flag : ℕ → ℕ → Bool
flag w k = bit_at w k == 1

-- the physical page that an entry names; frame f is physical page 0x80000 + f
abbrev pub page_number : ℕ → ℕ
page_number w = w / 2 ^ 10 % 2 ^ 44

abbrev pub rights_of : ℕ → Rights
rights_of w = record { read = flag w 1; write = flag w 2; execute = flag w 3; user = flag w 4 }

-- bits 63 to 54 are 0, and the page is one of RAM's frames
abbrev pub is_in_ram : ℕ → ℕ → Bool
is_in_ram frames w = (w / 2 ^ 54 == 0) && nat_le 0x80000 (page_number w) && nat_lt (page_number w - 0x80000) frames

-- V is set, W only with R, bits 63 to 54 are 0, and the page is one of RAM's frames
abbrev pub is_usable : ℕ → ℕ → Bool
is_usable frames w =
    flag w 0 && (not (flag w 2) || flag w 1) && (w / 2 ^ 54 == 0) && nat_le 0x80000 (page_number w) && nat_lt (page_number w - 0x80000) frames

-- what an entry says where RAM has so many frames: with R or X it is a leaf, else it leads to a table
unfoldable pub entry_of : ℕ → ℕ → Entry
entry_of frames w =
    if is_usable frames w
    then (if flag w 1 || flag w 3 then Leaf (page_number w - 0x80000) (rights_of w) (flag w 6) (flag w 7) else Table (page_number w - 0x80000))
    else Invalid

abbrev pub bit_if : Bool → ℕ → ℕ
bit_if b n = if b then n else 0

-- the leaf for a frame: V, A and D, and the rights
unfoldable pub leaf_word : ℕ → Rights → ℕ
leaf_word f r = (0x80000 + f) * 2 ^ 10 + (1 + bit_if r.read 2 + bit_if r.write 4 + bit_if r.execute 8 + bit_if r.user 16 + 64 + 128)

-- the entry that leads to a table: V alone
unfoldable pub table_word : ℕ → ℕ
table_word f = (0x80000 + f) * 2 ^ 10 + 1

-- ---- look-ups

-- entry i of the table in frame f
abbrev pub entry_at : List (List ℕ) → ℕ → ℕ → Entry
entry_at ram f i = entry_of (length ram) (word_at ram f i)

abbrev pub table_of : Entry → Option ℕ
table_of (Table f) = Some f
table_of (Leaf f r a d) = None
table_of Invalid = None

-- the table that entry i of a table leads to
abbrev pub below : List (List ℕ) → Option ℕ → ℕ → Option ℕ
below ram None i = None
below ram (Some f) i = table_of (entry_at ram f i)

-- the table at place p of a level: the root is place 0 of level 0, and the 512 entries of place p lead to the places of the next level from 512 p on
abbrev pub table_at : List (List ℕ) → ℕ → ℕ → ℕ → Option ℕ
table_at ram root zero zero = Some root
table_at ram root zero (suc p) = None
table_at ram root (suc l) p = below ram (table_at ram root l (p / 512)) (p % 512)

abbrev pub last : List (List ℕ) → Option ℕ → ℕ → Entry
last ram None i = Invalid
last ram (Some f) i = entry_at ram f i

-- the last entry on the way to virtual page v: three look-ups, by v div 2^18, v div 2^9 and v, each modulo 512
abbrev pub page_entry : List (List ℕ) → ℕ → ℕ → Entry
page_entry ram root v = last ram (table_at ram root 2 (v / 512)) (v % 512)

-- ---- the walk

-- what a leaf allows: nothing where A is clear, no write where D is clear
abbrev pub given : Rights → Bool → Bool → Rights
given r a d = record { read = a && r.read; write = a && d && r.write; execute = a && r.execute; user = r.user }

-- user code may make the access
abbrev pub permits : Access → Rights → Bool
permits Fetch r = r.user && r.execute
permits Load r = r.user && r.read
permits Store r = r.user && r.write

-- the same, of the page that an entry leads to, by its rights alone: A and D decide nothing here
abbrev pub entry_permits : Access → Entry → Bool
entry_permits access Invalid = false
entry_permits access (Table f) = false
entry_permits access (Leaf f perm a d) = permits access perm

-- bits 63 to 39 all equal bit 38
abbrev pub is_canonical : ℕ → Bool
is_canonical va = va / 2 ^ 39 == (2 ^ 25 - 1) * bit_at va 38

abbrev pub allowed : Access → Entry → ℕ → Option (ℕ × ℕ)
allowed access (Leaf f r a d) offset = if permits access (given r a d) then Some (f, offset) else None
allowed access (Table f) offset = None
allowed access Invalid offset = None

-- the frame and the offset in it that an access reaches; None is a page fault
unfoldable pub walked : List (List ℕ) → ℕ → ℕ → Access → Option (ℕ × ℕ)
walked ram root va access = if is_canonical va then allowed access (page_entry ram root (va / 2 ^ 12 % 2 ^ 27)) (va % 2 ^ 12) else None

-- the page fault of the access's kind
abbrev pub page_fault : Access → Cause
page_fault Fetch = FetchPageFault
page_fault Load = LoadPageFault
page_fault Store = StorePageFault
