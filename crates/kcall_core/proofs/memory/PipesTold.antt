-- What is told of the pipe in a frame.
use Rattle.kcall_core.proofs.Prelude.{ℕ, ◌<◌, ◌∙◌, ◌≡◌, ap, Bool, cases_lt, cond, false, false≢true, FinMap, FRAMES_MAX, gathered-get, get, inl, inr, is_some, IsSome, keeps_pipe, kept_pipe, le-ltb}
use Rattle.kcall_core.proofs.Prelude.{lt-ltb, Memories, nat_cmp, None, Option, or_new, Pipe, pipe_in, pipe_named, pipes_of, refl, Some, subst, true}

-- a pipe lies in a frame, so its number is a frame's
pub pipe-below : (m : Memories) (f : ℕ) → IsSome (get (pipes_of m) f) → f < FRAMES_MAX
unfolding pipes_of
pipe-below m f there = elim (cases_lt f FRAMES_MAX) [
  | inl below ↦ below
  | inr past ↦ absurd (false≢true (subst (λ o. IsSome o)
      (gathered-get (kept_pipe m.ram m.pipes.items) FRAMES_MAX f
      ∙ ap (λ (b : Bool). cond b (kept_pipe m.ram m.pipes.items f) None) (le-ltb f FRAMES_MAX past)) there))
]

pub keeps-told : (m : Memories) (f : ℕ) → f < FRAMES_MAX → is_some (get (pipes_of m) f) ≡ keeps_pipe m.pipes.items f
unfolding pipes_of
keeps-told m f lt =
    ap is_some (gathered-get (kept_pipe m.ram m.pipes.items) FRAMES_MAX f ∙ ap (λ b. cond b (kept_pipe m.ram m.pipes.items f) None) (lt-ltb f FRAMES_MAX lt))
    ∙ by (keeps_pipe m.pipes.items f) (pipe_in m.ram f)
  where
    by : (b : Bool) (p : Pipe) → is_some (cond b (Some p) None) ≡ b
    by true p = refl
    by false p = refl

pub named-some : (pipes : FinMap nat_cmp Pipe) (f : ℕ) → is_some (get pipes f) ≡ true → get pipes f ≡ Some (pipe_named pipes f)
named-some pipes f there = by (get pipes f) there
  where
    by : (o : Option Pipe) → is_some o ≡ true → o ≡ Some (or_new o)
    by None e = let no : ⊥ = cc in absurd no
    by (Some p) e = refl
