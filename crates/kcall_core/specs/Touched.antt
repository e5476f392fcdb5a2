-- What a kernel leaves where pages of the process that runs are touched.
use Rattle.std.specs.Prelude.{◌≡◌, ◌⊎◌, ℕ, ◌+◌, ◌<◌, ◌≤◌, List, true, false, Some}
use Rattle.xk_base.specs.Image.{price}
use Rattle.xk_base.specs.declared.access.Cause.{Cause}
use Rattle.rv64i_core.specs.Step.{Fault, address_used, is_data_page_fault}
use Rattle.rv64i_core.specs.UserImage.{user}
use Rattle.hart_core.specs.declared.hart.Hart.{Hart}
use Rattle.kernel_spec.specs.steps.Instruction.{next_instruction}
use Rattle.kernel_spec.specs.rows.Buffers.{writable, writable_now}
use Rattle.kernel_spec.specs.rows.Touches.{touch}
use Rattle.addr_space.specs.Absent.{pages_at, brought}
use Rattle.kernel_spec.specs.steps.Own.{Own}
use Rattle.kcall_core.specs.Kernel.{state_of, live_now, IsRunning}
use Rattle.kcall_core.specs.Whole.{IsWhole}
use Rattle.kcall_core.specs.Makes.{Makes, view_now}
use Rattle.kcall_core.specs.declared.kernel.Kernel.{Kernel}

-- Pages of the process that runs are touched: it sees them, and nothing else is another. What it makes from there on is what it makes from before
pub record IsTouched (pages : List ℕ) (k : Kernel) (h : Hart) (k' : Kernel) (h' : Hart) : Type 0 where
  pub whole : IsWhole k' h'
  pub running : IsRunning k'
  pub kernel : k' ≡ record k { memories = k'.memories }
  pub live : live_now k' h' ≡ record (live_now k h) { image = brought pages (live_now k h).image }
  pub view : touch pages (view_now k h) ≡ Some (view_now k' h')
  pub makes : (o : Own) (k'' : Kernel) (h'' : Hart) → Makes k' h' o k'' h'' → Makes k h o k'' h''

-- all of a buffer of n bytes at an address may be written, and it is there: so many frames are free beside it
pub record IsReady (address n spare : ℕ) (k : Kernel) (h : Hart) (k' : Kernel) (h' : Hart) : Type 0 where
  pub touched : IsTouched (pages_at address n) k h k' h'
  pub may : writable (live_now k h).image address n ≡ true
  pub there : writable_now (live_now k' h').image address n ≡ true
  pub free : spare ≤ (state_of k' h').free

-- not all of it may be written, or its absent pages and so many frames more aren't free
abbrev pub IsUnready : (address n spare : ℕ) → Kernel → Hart → Type 0
IsUnready address n spare k h =
    let image = (live_now k h).image in
    (writable image address n ≡ false) ⊎ (price image + (state_of k h).free < price (brought (pages_at address n) image) + spare)

-- The instruction of the process that runs has faulted with this cause, and the hart notes the address, where it is a page fault of a load or a store
pub record HasFaulted (cause : Cause) (k : Kernel) (h : Hart) : Type 0 where
  pub fault : next_instruction (live_now k h).regs (live_now k h).image ≡ Fault cause
  pub address : is_data_page_fault cause ≡ true → h.fault_address ≡ address_used (live_now k h).regs (user (live_now k h).image)
