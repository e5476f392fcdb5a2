-- What a plan holds.
use Rattle.std.specs.Prelude.{◌≡◌, ℕ, ◌+◌, ◌*◌, ◌≤◌, List, [], ◌∷◌, length}
use Rattle.xk_base.specs.Image.{page_count}
use Rattle.xk_base.specs.declared.limits.TheConstants.{VPN_END, SIZE_LIMIT}
use Rattle.xk_base.specs.ProgramFile.{Fit}
use Rattle.xk_base.specs.declared.program.Segment.{Segment}
use Rattle.xk_base.specs.Loaded.{end_after, stack_pointer}

-- the segments fit one behind another, the guard page is the first page behind them, where two pages more may be, and the texts fit into the stack page
pub record IsPlan (file : List ℕ) (segments : List Segment) (guard : ℕ) (texts : List (List ℕ)) (sp : ℕ) : Type 0 where
  pub fit : Fit (length file) 0 segments
  pub behind : guard ≡ page_count (end_after 0 segments)
  pub limit : guard + 2 ≤ VPN_END
  pub below : sp ≡ stack_pointer (4096 * (guard + 2)) texts
  pub room : 4096 * (guard + 1) ≤ sp

-- each segment ends at or below the memory's end
abbrev pub Within : List Segment → Type 0
Within [] = Unit {0}
Within (s ∷ later) = (s.vaddr + s.memsz ≤ SIZE_LIMIT) × Within later
