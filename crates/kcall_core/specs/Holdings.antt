-- What the memories of the kernel stand for, as the rest of the kernel sees them. No frame is named here.
use Rattle.std.specs.Prelude.{◌≡◌, ℕ, ◌+◌, ◌/◌, ◌%◌, ◌<◌, List, Option, Some, None, IsSome, length, get_or, option_map, slice_index}
use Rattle.std.specs.Ordering.{nat_cmp}
use Rattle.std.specs.FinMap.{FinMap, get, insert, remove}
use Rattle.xk_base.specs.declared.access.Rights.{Rights}
use Rattle.xk_base.specs.Image.{Page, Image, price, no_pages}
use Rattle.rv64i_core.specs.Registers.{Registers, fresh}
use Rattle.pipe_core.specs.Pipe.{Pipe, new_pipe}

-- the memory of a process: its image, and the registers that lie in its trapframe
pub record Held : Type 0 where
  pub image : Image
  pub saved : Registers

-- a memory without pages, and registers of zeros
abbrev pub nothing_held : Held
nothing_held = record { image = no_pages; saved = fresh 0 }

-- the memory in a place that has one
abbrev pub or_nothing : Option Held → Held
or_nothing None = nothing_held
or_nothing (Some held) = held

abbrev pub held_at : List (Option Held) → ℕ → Held
held_at each slot = or_nothing (get_or each slot None)

-- the slot has a memory
abbrev pub HasMemory : List (Option Held) → ℕ → Type 0
HasMemory each slot = IsSome (get_or each slot None)

-- there is such a slot, and it has no memory
abbrev pub IsVacant : List (Option Held) → ℕ → Type 0
IsVacant each slot = (slot < length each) × (get_or each slot None ≡ None)

-- the memory with another image, or with other registers
abbrev pub with_image : Image → Held → Held
with_image image held = record held { image = image }

abbrev pub with_saved : Registers → Held → Held
with_saved saved held = record held { saved = saved }

-- how many frames a memory takes: its image's price, and the trapframe
abbrev pub held_cost : Option Held → ℕ
held_cost None = 0
held_cost (Some held) = price held.image + 1

-- a pipe takes one frame
abbrev pub pipe_cost : Option Pipe → ℕ
pipe_cost None = 0
pipe_cost (Some pipe) = 1

-- the pipe of this name, which is there
abbrev pub or_new : Option Pipe → Pipe
or_new None = new_pipe
or_new (Some pipe) = pipe

abbrev pub pipe_named : FinMap nat_cmp Pipe → ℕ → Pipe
pipe_named pipes f = or_new (get pipes f)

-- the pipes where this one is another, or there is none
abbrev pub with_pipe : ℕ → Option Pipe → FinMap nat_cmp Pipe → FinMap nat_cmp Pipe
with_pipe f None pipes = remove pipes f
with_pipe f (Some pipe) pipes = insert pipes f pipe

-- the byte of an image at an address, whatever its page allows; none where there is no page
abbrev pub byte_of : Image → ℕ → Option ℕ
byte_of image va = option_map (λ (page : Page). slice_index page.bytes (va % 4096)) (get image.pages (va / 4096))

-- what a page of an image allows; none where it isn't there
abbrev pub rights_of : Image → ℕ → Option Rights
rights_of image vpn = option_map (λ (page : Page). page.perm) (get image.pages vpn)
