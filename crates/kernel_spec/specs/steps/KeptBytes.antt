-- What a step leaves of the bytes of its process's memory, and which pages and pipes are new.
use Rattle.std.specs.Prelude.{◌≡◌, ℕ, None, Some, option_map, ◌⊎◌, ◌+◌, ◌*◌, ◌<◌, length, slice_index}
use Rattle.std.specs.FinMap.{get}
use Rattle.xk_base.specs.Image.{Page, Image}
use Rattle.pipe_core.specs.Pipe.{Pipe}
use Rattle.file_table.specs.declared.open_file.End.{End}
use Rattle.kernel_spec.specs.views.View.{View, Shown_pipe, pipe_name}
use Rattle.kernel_spec.specs.rows.Stores.{IsStored}

-- each page has 4,096 bytes
abbrev pub HasWholePages : Image → Type 0
HasWholePages image = (page : ℕ) (x : Page) → get image.pages page ≡ Some x → length x.bytes ≡ 4096

-- a page that the step added
abbrev pub IsNewPage : View → View → ℕ → Page → Type 0
IsNewPage v n page x = (get v.image.pages page ≡ None) × (get n.image.pages page ≡ Some x)

-- a new page holds zeros, but for bytes that the step itself stores there
abbrev pub NewBytesAreZeros : View → View → Type 0
NewBytesAreZeros v n =
    (page : ℕ) (x : Page) → IsNewPage v n page x
    → (length x.bytes ≡ 4096) × ((i : ℕ) → i < 4096 → ¬ IsStored v (page * 4096 + i) → slice_index x.bytes i ≡ 0)

-- a page that stays keeps its rights, and each byte that the step doesn't store
abbrev pub OtherBytesStay : View → View → Type 0
OtherBytesStay v n =
    (page : ℕ) (x y : Page) → get v.image.pages page ≡ Some x → get n.image.pages page ≡ Some y
    → (y.perm ≡ x.perm) × ((i : ℕ) → i < 4096 → ¬ IsStored v (page * 4096 + i) → slice_index y.bytes i ≡ slice_index x.bytes i)

-- where the byte at place i of a page is from: the step stores it, or it stood there before, or it is a 0 in a page that wasn't there
abbrev pub IsOfItsOwn : View → (page i byte : ℕ) → Type 0
IsOfItsOwn v page i byte =
    IsStored v (page * 4096 + i)
    ⊎ ((x : Page) × (get v.image.pages page ≡ Some x) × (slice_index x.bytes i ≡ byte))
    ⊎ ((get v.image.pages page ≡ None) × (byte ≡ 0))

-- a pipe of the next view that no descriptor of the former was on
abbrev pub IsNewPipe : View → View → Pipe → Type 0
IsNewPipe v n x =
    (d : ℕ) × (name : ℕ) × (end : End)
    × (option_map (λ y. y.shown) (n.descriptors d) ≡ Some (Shown_pipe name end x))
    × ((e : ℕ) → pipe_name (n.descriptors e) ≡ Some name → v.descriptors e ≡ None)
