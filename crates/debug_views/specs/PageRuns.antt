-- Pages of a process, one behind another, that are alike.
use Rattle.std.specs.Prelude.{◌≡◌, ◌⊎◌, ℕ, ◌+◌, ◌-◌, ◌/◌, ◌<◌, ◌≤◌, List, [], ◌∷◌, ◌++◌, length, slice_get, Option, None, Some}
use Rattle.xk_base.specs.declared.access.Rights.{Rights}
use Rattle.kcall_core.specs.Observers.{rights_at}
use Rattle.kcall_core.specs.declared.kernel.observers.frame_uses.FrameUse.{FrameUse}
use Rattle.kcall_core.specs.declared.kernel.observers.frame_uses.FrameUse.TheVariants.{Lower}
use Rattle.kernel_spec.specs.views.State.{State}
use Rattle.debug_views.specs.FrameLists.{IsAmong}
use Rattle.debug_views.specs.declared.page_runs.Kind.{Kind}
use Rattle.debug_views.specs.declared.page_runs.Kind.TheVariants.{There, Absent, NoTable}
use Rattle.debug_views.specs.declared.page_runs.PageRun.{PageRun}

-- of a page for which there is a table, by what it allows
abbrev pub kind_by : Option Rights → Kind
kind_by None = Absent
kind_by (Some rights) = There rights

-- a frame has the lower table of process p at this place
abbrev pub HasLower : List FrameUse → (p place : ℕ) → Type 0
HasLower uses p place = IsAmong uses (Lower p place)

-- This is known of page n of process p: it is there with these rights, or absent, in a lower table that it has; or there is no such table
abbrev pub PageIs : State → List FrameUse → (p n : ℕ) → Kind → Type 0
PageIs s uses p n NoTable = ¬ HasLower uses p (n / 512)
PageIs s uses p n Absent = HasLower uses p (n / 512) × (kind_by (rights_at s p n) ≡ Absent)
PageIs s uses p n (There rights) = HasLower uses p (n / 512) × (kind_by (rights_at s p n) ≡ There rights)

-- all pages of the run are so
abbrev pub IsRun : State → List FrameUse → (p : ℕ) → PageRun → Type 0
IsRun s uses p run = (n : ℕ) → run.first ≤ n → n < run.first + run.count → PageIs s uses p n run.kind

-- The run begins here, and ends at another page at most; it has a page at least
pub record IsRunFrom (s : State) (uses : List FrameUse) (p first end : ℕ) (run : PageRun) : Type 0 where
  pub begins : run.first ≡ first
  pub some : 0 < run.count
  pub within : first + run.count ≤ end
  pub alike : IsRun s uses p run

-- the page behind a run, and this one without any
abbrev pub behind_run : (from : ℕ) → Option PageRun → ℕ
behind_run from None = from
behind_run from (Some run) = run.first + run.count

-- the page behind the last of these runs
abbrev pub behind_runs : (from : ℕ) → List PageRun → ℕ
behind_runs from runs = behind_run from (slice_get runs (length runs - 1))

-- The runs of pages from one on up to an end, one behind another, as many as there is room for
abbrev pub AreRunsIn : State → List FrameUse → (p room from end : ℕ) → List PageRun → Type 0
AreRunsIn s uses p room from end [] = (room ≡ 0) ⊎ (end ≤ from)
AreRunsIn s uses p room from end (run ∷ runs) = (0 < room) × IsRunFrom s uses p from end run × AreRunsIn s uses p (room - 1) (run.first + run.count) end runs

-- of those 14 at most are shown at once
abbrev pub AreRuns : State → List FrameUse → (p from end : ℕ) → List PageRun → Type 0
AreRuns s uses p from end runs = AreRunsIn s uses p 14 from end runs

-- such runs were put behind others
abbrev pub Adds : (old new : List PageRun) → (List PageRun → Type 0) → Type 0
Adds old new Are = (added : List PageRun) × Are added × (new ≡ old ++ added)
