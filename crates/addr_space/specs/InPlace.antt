-- What a write to the bytes of a space's pages leaves of RAM.
use Rattle.std.specs.Prelude.{◌≡◌, ℕ, List, length}
use Rattle.xk_base.specs.Frames.{copies}
use Rattle.xk_base.specs.declared.access.Access.{Access}
use Rattle.phys_ram.specs.Ram.{frame_at}
use Rattle.sv39_core.specs.Sv39.{walked}
use Rattle.addr_space.specs.declared.Space.{Space}
use Rattle.addr_space.specs.Space.{frames_of, IsSpace}

-- bytes were written in place: the space is made of the same frames, each access leads where it led, and each frame that isn't its own keeps its bytes
pub record WrittenInPlace (ram ram' : List (List ℕ)) (space : Space) : Type 0 where
  pub whole : IsSpace ram' space
  pub frames : frames_of ram' space ≡ frames_of ram space
  pub walks : (va : ℕ) (access : Access) → walked ram' space.root va access ≡ walked ram space.root va access
  pub count : length ram' ≡ length ram
  pub others : (f : ℕ) → copies f (frames_of ram space) ≡ 0 → frame_at ram' f ≡ frame_at ram f
