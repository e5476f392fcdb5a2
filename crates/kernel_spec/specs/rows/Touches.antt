-- Absent pages: they lie below the size, and aren't there until they are touched. A process that grew lazily has them
-- (the xv6 book, "Page tables" and "Traps and system calls": lazy allocation, page-fault exceptions).
-- A load or a store touches the page that it is on, and a call that stores into a buffer touches the buffer's pages. Nothing else does.
use Rattle.std.specs.Prelude.{ℕ, ◌+◌, ◌-◌, ◌/◌, Bool, if◌then◌else◌, nat_lt, List, [], ◌∷◌, Option, None, Some, unwrap_or}
use Rattle.std.specs.List.{list_any}
use Rattle.xk_base.specs.Image.{Image, price}
use Rattle.rv64i_core.specs.Registers.{Registers}
use Rattle.rv64i_core.specs.Step.{Step, Fault, address_used, is_data_page_fault}
use Rattle.rv64i_core.specs.UserImage.{user}
use Rattle.addr_space.specs.Absent.{is_absent, brought}
use Rattle.kernel_spec.specs.steps.Instruction.{next_instruction}
use Rattle.kernel_spec.specs.views.View.{View}

-- one of these pages is absent
abbrev pub has_absent : List ℕ → Image → Bool
has_absent pages image = list_any (is_absent image) pages

-- the view with an image that costs more: it takes its frames from the free ones; none where so many aren't free
abbrev pub at_price : Image → View → Option View
at_price image v = if nat_lt v.free (price image - price v.image) then None else Some (record v { image = image; free = v.free + price v.image - price image })

-- the view, once these pages are touched: those that were absent are there; none where they cost more than is free
unfoldable pub touch : List ℕ → View → Option View
touch pages v = if has_absent pages v.image then at_price (brought pages v.image) v else Some v

-- ---- by an instruction

-- the page that the instruction at the pc loads from or stores to, if it does
abbrev pub page_used : Registers → Image → ℕ
page_used regs image = address_used regs (user image) / 4096

-- the view in which the instruction at the pc is done, by what it comes to in v: at a page fault of a load or a store its page is touched first,
-- where that costs no more than is free. (A misaligned load or store has another fault.)
abbrev pub before_step : Step → View → View
before_step (Fault cause) v = if is_data_page_fault cause then unwrap_or (touch (page_used v.regs v.image ∷ []) v) v else v
before_step _ v = v

abbrev pub before_instruction : View → View
before_instruction v = before_step (next_instruction v.regs v.image) v

-- what the instruction at the pc comes to
abbrev pub instruction_now : View → Step
instruction_now v = next_instruction (before_instruction v).regs (before_instruction v).image
