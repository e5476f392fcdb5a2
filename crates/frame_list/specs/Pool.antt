-- The free frames of RAM: a list that runs through the free frames themselves.
use Rattle.std.specs.Prelude.{◌≡◌, ℕ, zero, suc, ◌≤◌, List, [], ◌∷◌, Option, Some, None, length}
use Rattle.xk_base.specs.Frames.{Once}
use Rattle.xk_base.specs.declared.limits.TheConstants.{FRAMES_MAX}
use Rattle.phys_ram.specs.Ram.{word_at}
use Rattle.frame_list.specs.declared.Pool.{Pool}

-- what a word says of the next frame of the list: its number and 1, or 0 for none
abbrev pub link : ℕ → Option ℕ
link zero = None
link (suc f) = Some f

-- the frame that comes after a free frame: the link in its first word
abbrev pub next : List (List ℕ) → ℕ → Option ℕ
next ram f = link (word_at ram f 0)

-- the frames of the list from a first one on, at most n
abbrev pub chain : List (List ℕ) → Option ℕ → ℕ → List ℕ
chain ram first zero = []
chain ram None (suc n) = []
chain ram (Some f) (suc n) = f ∷ chain ram (next ram f) n

-- the free frames
unfoldable pub free_in : Pool → List (List ℕ) → List ℕ
free_in pool ram = chain ram pool.first pool.count

-- the list from a first frame on is this one, to its end
abbrev pub IsChain : List (List ℕ) → Option ℕ → List ℕ → Type 0
IsChain ram None [] = Unit {0}
IsChain ram None (g ∷ gs) = ⊥
IsChain ram (Some f) [] = ⊥
IsChain ram (Some f) (g ∷ gs) = (f ≡ g) × IsChain ram (next ram f) gs

-- the pool is of this RAM: its list goes through frames of RAM, each once, and the count is right
pub record Good (pool : Pool) (ram : List (List ℕ)) : Type 0 where
  pub frames : Once (length ram) (free_in pool ram)
  pub whole : IsChain ram pool.first (free_in pool ram)
  pub counted : length (free_in pool ram) ≡ pool.count
  pub small : length ram ≤ FRAMES_MAX
