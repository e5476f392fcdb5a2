-- Frames that go between a pool and an owner.
use Rattle.std.specs.Prelude.{◌≡◌, ℕ, ◌+◌, ◌<◌, List, [], ◌∷◌, length}
use Rattle.xk_base.specs.Frames.{copies}
use Rattle.phys_ram.specs.Ram.{frame_at, zero_frame}
use Rattle.frame_list.specs.declared.Pool.{Pool}
use Rattle.frame_list.specs.Pool.{free_in, Good}

-- an owner had the frames `mine` and now has `mine'`: frames only moved between it and the free ones, and all frames that were neither keep their bytes
pub record Traded (pool : Pool) (ram : List (List ℕ)) (pool' : Pool) (ram' : List (List ℕ)) (mine mine' : List ℕ) : Type 0 where
  pub good : Good pool' ram'
  pub count : length ram' ≡ length ram
  pub frames : (f : ℕ) → copies f (free_in pool' ram') + copies f mine' ≡ copies f (free_in pool ram) + copies f mine
  pub others : (f : ℕ) → copies f (free_in pool ram) ≡ 0 → copies f mine ≡ 0 → frame_at ram' f ≡ frame_at ram f

-- frame f was free and is handed out, all zeros
pub record Taken (pool : Pool) (ram : List (List ℕ)) (pool' : Pool) (ram' : List (List ℕ)) (f : ℕ) : Type 0 where
  pub traded : Traded pool ram pool' ram' [] (f ∷ [])
  pub inside : f < length ram'
  pub zeros : frame_at ram' f ≡ zero_frame

-- frame f is given back
abbrev pub Given : (pool : Pool) (ram : List (List ℕ)) (pool' : Pool) (ram' : List (List ℕ)) (f : ℕ) → Type 0
Given pool ram pool' ram' f = Traded pool ram pool' ram' (f ∷ []) []

-- nothing changed
pub record Untouched (pool : Pool) (ram : List (List ℕ)) (pool' : Pool) (ram' : List (List ℕ)) : Type 0 where
  pub same_pool : pool' ≡ pool
  pub same_ram : ram' ≡ ram
