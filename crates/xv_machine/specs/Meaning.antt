-- What a machine stands for: the world of its kernel and its hart, whose each frame of RAM is, and the notes that its trace keeps.
use Rattle.std.specs.Prelude.{ℕ, List}
use Rattle.std.specs.FinMap.{FinMap}
use Rattle.std.specs.Ordering.{nat_cmp}
use Rattle.kernel_spec.specs.runs.Run.{World}
use Rattle.xv_machine.specs.declared.trace.Note.{Note}

-- the frames of a live process, by what it has them for
pub record Owned : Type 0 where
  -- the frame in which its registers are saved
  pub trapframe : ℕ
  -- the first table of its memory
  pub root : ℕ
  -- the tables that the root leads to, by their places in it: one for each 2^18 pages
  pub uppers : FinMap nat_cmp ℕ
  -- the tables that those lead to: table t has the places of the 512 pages from 512 * t on
  pub lowers : FinMap nat_cmp ℕ
  -- the frames of its pages, by their numbers
  pub pages : FinMap nat_cmp ℕ

-- whose each frame of RAM is; a pipe is named by its frame, so the state tells the others
pub record Frames : Type 0 where
  -- how many there are: they have the numbers below this one
  pub count : ℕ
  pub free : List ℕ
  -- those of the live processes, by pid
  pub owned : FinMap nat_cmp Owned

pub record Meaning : Type 0 where
  pub world : World
  pub frames : Frames
  -- the notes of the last events, the oldest first, and how many are kept at most
  pub notes : List Note
  pub room : ℕ
