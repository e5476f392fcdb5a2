-- Worked cases of what is told of a machine.
use Rattle.std.proofs.Common.{[], ℕ, ◌*◌, ◌+◌, ◌^◌, ◌≤◌, ◌∙◌, ◌∷◌, ◌≡◌, ◌≢◌, ap, arith, false, length, List, map, None, Ok, Err, Option, refl}
use Rattle.std.proofs.Common.{Result, Some, subst, suc, sym, true}
use Rattle.std.proofs.lemmas.Option.{same_Some}
use Rattle.std.specs.FinMap.{get}
use Rattle.std.specs.Prelude.{◌↔◌, Contains, is_some}
use Rattle.xk_base.specs.Image.{Page as ImagePage, some_below}
use Rattle.xk_base.specs.declared.errors.BootError.{BootError}
use Rattle.xk_base.specs.declared.errors.BootError.TheVariants.{BadConfig}
use Rattle.xk_base.specs.Frames.{copies}
use Rattle.xk_base.proofs.Frames.{at, at-same, copies-cons}
use Rattle.kernel_spec.specs.views.Processes.{Live}
use Rattle.kernel_spec.specs.views.State.{live, ProgramFile, State}
use Rattle.kernel_spec.specs.views.WellFormed.{cost, over_all}
use Rattle.kernel_spec.specs.views.Words.{count_if}
unfoldable use Rattle.kernel_spec.specs.runs.First.{first}
use Rattle.kernel_spec.specs.runs.Run.{Event, Key, out, Outcome, Send, Sent, Tick, Ticked, Typed, World}
use Rattle.kernel_spec.specs.runs.Rounds.{events}
use Rattle.kcall_core.specs.declared.kernel.observers.frame_uses.FrameUse.TheVariants.{Free, Trapframe, Root, Upper, Lower, Page, Pipe}
use Rattle.kcall_core.specs.Observers.{byte_at, child_at, registers_of}
use Rattle.xv_machine.specs.FrameUses.{IsUsed, page_frame_at}
use Rattle.xv_machine.specs.Meaning.{Meaning}
use Rattle.xv_machine.specs.declared.trace.Note.TheVariants as note
use Rattle.xv_claims.specs.Told.{count_used, has_page, has_part, HasTold, HaveUse, OutcomesOf, Told, told_of}

-- ---- how many frames have a use

-- of a process that isn't live there is none
module _ (s : State) (dead : live s 5 ≡ None) where
  no_trapframe : count_used 64 s (Trapframe 5) ≡ 0
  no_trapframe = ap (λ (o : Option Live). count_if (is_some o)) dead

  no_root : count_used 64 s (Root 5) ≡ 0
  no_root = ap (λ (o : Option Live). count_if (is_some o)) dead

  no_page : count_used 64 s (Page 5 0) ≡ 0
  no_page = ap (λ (o : Option Live). count_if (has_page 0 o)) dead

  no_table : count_used 64 s (Lower 5 0) ≡ 0
  no_table = ap (λ (o : Option Live). count_if (has_part 512 0 o)) dead

  no_upper : count_used 64 s (Upper 5 0) ≡ 0
  no_upper = ap (λ (o : Option Live). count_if (has_part (2 ^ 18) 0 o)) dead

module _ (s : State) (l : Live) (lives : live s 2 ≡ Some l) where
  one_trapframe : count_used 64 s (Trapframe 2) ≡ 1
  one_trapframe = ap (λ (o : Option Live). count_if (is_some o)) lives

  one_root : count_used 64 s (Root 2) ≡ 1
  one_root = ap (λ (o : Option Live). count_if (is_some o)) lives

  -- a page that is there, and one that isn't
  one_page : (x : ImagePage) → get l.image.pages 4 ≡ Some x → count_used 64 s (Page 2 4) ≡ 1
  one_page x is = ap (λ (o : Option Live). count_if (has_page 4 o)) lives ∙ ap (λ (o : Option ImagePage). count_if (is_some o)) is

  absent_page : get l.image.pages 4 ≡ None → count_used 64 s (Page 2 4) ≡ 0
  absent_page is = ap (λ (o : Option Live). count_if (has_page 4 o)) lives ∙ ap (λ (o : Option ImagePage). count_if (is_some o)) is

  -- table 3 of the last level, of whose pages from 512 * 3 on one is there, or none; and table 1 of the level above
  one_table : some_below 512 (λ k. is_some (get l.image.pages (512 * 3 + k))) ≡ true → count_used 64 s (Lower 2 3) ≡ 1
  one_table is = ap (λ (o : Option Live). count_if (has_part 512 3 o)) lives ∙ ap count_if is

  absent_table : some_below 512 (λ k. is_some (get l.image.pages (512 * 3 + k))) ≡ false → count_used 64 s (Lower 2 3) ≡ 0
  absent_table is = ap (λ (o : Option Live). count_if (has_part 512 3 o)) lives ∙ ap count_if is

  one_upper : some_below (2 ^ 18) (λ k. is_some (get l.image.pages (2 ^ 18 * 1 + k))) ≡ true → count_used 64 s (Upper 2 1) ≡ 1
  one_upper is = ap (λ (o : Option Live). count_if (has_part (2 ^ 18) 1 o)) lives ∙ ap count_if is

-- 64 frames, of which 20 are free and processes have 41: three hold pipes
module _ (s : State) (free : s.free ≡ 20) where
  twenty_free : count_used 64 s Free ≡ 20
  twenty_free = free

  three_pipes : over_all s cost ≡ 41 → count_used 64 s Pipe ≡ 3
  three_pipes costs = rw (free, costs) refl

-- ---- frames that have a use

module _ (m : Meaning) where
  none_used : HaveUse m Pipe 0 → IsUsed m 7 Pipe → ⊥
  none_used (fs, count, are) used = by fs count ((are 7).1.1 used)
    where
      by : (fs : List ℕ) → length fs ≡ 0 → Contains fs 7 → ⊥
      by fs count (k, below, is) = omega (arith, count, below)

  -- the page of a process has one frame, and not two
  not_two : (f : ℕ) → page_frame_at m.frames 2 4 ≡ Some f → HaveUse m (Page 2 4) 2 → ⊥
  not_two f is (fs, count, are) = by fs count are
    where
      by : (fs : List ℕ) → length fs ≡ 2 → ((f : ℕ) → (copies f fs ≤ 1) × (Contains fs f ↔ IsUsed m f (Page 2 4))) → ⊥
      by [] count are = let no : ⊥ = cc in no
      by (x ∷ []) count are = omega (arith, count)
      by (x ∷ y ∷ []) count are =
          let one : x ≡ f = same_Some x f (sym ((are x).1.0 (0, omega arith, refl)) ∙ is) in
          let two : y ≡ f = same_Some y f (sym ((are y).1.0 (1, omega arith, refl)) ∙ is) in
          omega (arith, (are f).0, copies-cons f x (y ∷ []), copies-cons f y [], ap (at f) one, ap (at f) two, at-same f)
      by (x ∷ y ∷ z ∷ fs) count are = omega (arith, count)

-- ---- what is told

-- after a key, a tick and a byte that is sent, with a trace of two notes
abbrev three : List (Event × Outcome)
three = (Key 97, Typed (97 ∷ [])) ∷ (Tick, Ticked) ∷ (Send, Sent (Some 97)) ∷ []

module _ (w : World) where
  outcomes_in_order : (told_of 64 2 three w).outcomes ≡ Typed (97 ∷ []) ∷ Ticked ∷ Sent (Some 97) ∷ []
  outcomes_in_order = refl

  bytes_shown : (told_of 64 2 three w).bytes ≡ 97 ∷ 97 ∷ []
  bytes_shown = refl

  last_two : (told_of 64 2 three w).trace ≡ note.Ticked ∷ note.Sent (Some 97) ∷ []
  last_two = refl

  -- the rest is read off the world
  as_observed : (p q va : ℕ) → let told = told_of 64 2 three w in
      (told.registers p ≡ registers_of w.state p) × (told.peek p va ≡ byte_at w.state p va) × (told.child_state p q ≡ child_at w.state p q)
      × (told.free_frames ≡ w.state.free) × (told.current ≡ w.turns.current) × (told.halted ≡ w.turns.halted)
  as_observed p q va = (refl, refl, refl, refl, refl, refl)

  frames_told : (told_of 64 2 three w).frames Free ≡ w.state.free
  frames_told = refl

-- ---- what the definitions give

module _ (programs : List ProgramFile) (told : Told) where
  -- of a boot that is refused nothing comes
  not_from_15_frames : OutcomesOf 15 0 programs [] told → ⊥
  unfolding first
  not_from_15_frames is = let both : ◌≡◌ {A = Result World BootError} (Err BadConfig) (Ok is.0) = is.1 in let no : ⊥ = cc in no

  -- an outcome for each event
  one_outcome : OutcomesOf 64 8 programs (Tick ∷ []) told → length told.outcomes ≡ 1
  one_outcome (w, boot, (t, list, run, those, is)) = ap (λ (x : Told). length x.outcomes) is ∙ by list ∙ ap length those
    where
      by : (list : List (Event × Outcome)) → length (map (λ e. e.1) list) ≡ length (events list)
      by [] = refl
      by (e ∷ es) = ap suc (by es)

  -- without an event the first world is told
  at_first : OutcomesOf 64 8 programs [] told → (w : World) × (first 64 8 programs ≡ Ok w) × (told ≡ told_of 64 8 [] w)
  at_first (w, boot, (t, [], run, those, is)) = (w, boot, is ∙ ap (told_of 64 8 []) run)
  at_first (w, boot, (t, e ∷ es, run, those, is)) = let no : ⊥ = cc in absurd no

-- ---- what a machine has told

module _ (m : Meaning) (told : Told) (list : List (Event × Outcome)) (has : HasTold list m told) where
  no_other_outcomes : told.outcomes ≢ map (λ e. e.1) list → ⊥
  no_other_outcomes other = other has.outcomes

  no_other_bytes : told.bytes ≢ out list → ⊥
  no_other_bytes other = other has.bytes

  no_other_registers : (p : ℕ) → registers_of m.world.state p ≢ told.registers p → ⊥
  no_other_registers p other = other (has.registers p)

  no_other_byte : (p va : ℕ) → byte_at m.world.state p va ≢ told.peek p va → ⊥
  no_other_byte p va other = other (has.peek p va)

  no_other_child : (p q : ℕ) → child_at m.world.state p q ≢ told.child_state p q → ⊥
  no_other_child p q other = other (has.child_state p q)

  no_other_count : m.world.state.free ≢ told.free_frames → ⊥
  no_other_count other = other has.free_frames

  no_other_turn : m.world.turns.current ≢ told.current → ⊥
  no_other_turn other = other has.current

  no_other_end : m.world.turns.halted ≢ told.halted → ⊥
  no_other_end other = other has.halted

  no_other_notes : m.notes ≢ told.trace → ⊥
  no_other_notes other = other has.trace

  no_pipe_if_none : told.frames Pipe ≡ 0 → IsUsed m 7 Pipe → ⊥
  no_pipe_if_none none used = none_used m (subst (HaveUse m Pipe) none (has.frames Pipe)) used
