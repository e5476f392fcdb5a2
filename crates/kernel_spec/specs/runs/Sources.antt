-- Where the bytes of a process's memory are from, over a whole run.
use Rattle.std.specs.Prelude.{◌≡◌, ◌⊎◌, ℕ, ◌+◌, ◌*◌, List, [], ◌∷◌, None, Some, IsSome, slice_index}
use Rattle.std.specs.FinMap.{get}
use Rattle.xk_base.specs.Image.{Page, Image}
use Rattle.kernel_spec.specs.views.View.{View, view}
use Rattle.kernel_spec.specs.steps.Step.{own}
use Rattle.kernel_spec.specs.rows.Stores.{IsStoredAs}
use Rattle.kernel_spec.specs.runs.Run.{World, Event, Outcome, Happens}
use Rattle.kernel_spec.specs.rows.Execs.{HasExeced}
use Rattle.kernel_spec.specs.runs.Moments.{IsStepOf}

-- byte i of a page of the image
abbrev pub HasByte : Image → (page i byte : ℕ) → Type 0
HasByte image page i byte = (x : Page) × (get image.pages page ≡ Some x) × (slice_index x.bytes i ≡ byte)

-- and of p's memory, where p is live
abbrev pub Holds : World → (p page i byte : ℕ) → Type 0
Holds w p page i byte = (v : View) × (view w.state p ≡ Some v) × HasByte v.image page i byte

-- The step of a process that sees v puts this byte there: it stores it; or the page wasn't there, and the byte is 0; or the step is an exec that succeeded, and the program that it named has the byte there, with the texts that were given
abbrev pub IsPut : View → (page i byte : ℕ) → Type 0
IsPut v page i byte =
    IsStoredAs v (page * 4096 + i) byte
    ⊎ ((get v.image.pages page ≡ None) × (byte ≡ 0))
    ⊎ ((image : Image) × HasExeced v (own v) image × HasByte image page i byte)

-- the event of w leaves q's memory to be r's: r is q, or a child that q's step makes, whose memory is a copy
abbrev pub Passes : World → Event → World → (q r : ℕ) → Type 0
Passes w e t q r = (r ≡ q) ⊎ (IsStepOf q w e × (view w.state r ≡ None) × IsSome (view t.state r))

-- Along the run the byte stands there all the time: in the memory of q at first, then perhaps in that of a child of q's, and so on, and of p at last
abbrev pub Stands : World → List (Event × Outcome) → World → (q p page i byte : ℕ) → Type 0
Stands w [] t q p page i byte = Holds w q page i byte × (t ≡ w) × (p ≡ q)
Stands w (e ∷ es) t q p page i byte = Holds w q page i byte × ((mid : World) × (r : ℕ) × Happens w e.0 e.1 mid × Passes w e.0 mid q r × Stands mid es t r p page i byte)

-- the event of w is a step of q that puts the byte there
abbrev pub Puts : World → Event → (q page i byte : ℕ) → Type 0
Puts w e q page i byte = IsStepOf q w e × ((v : View) × (view w.state q ≡ Some v) × IsPut v page i byte)

-- An event of the run put the byte there, and there it stands from then on: the first event, or a later one
abbrev pub WasPut : World → List (Event × Outcome) → World → (p page i byte : ℕ) → Type 0
WasPut w [] t p page i byte = ⊥
WasPut w (e ∷ es) t p page i byte =
    (mid : World) × Happens w e.0 e.1 mid
    × (((q : ℕ) × Puts w e.0 q page i byte × Stands mid es t q p page i byte) ⊎ WasPut mid es t p page i byte)
