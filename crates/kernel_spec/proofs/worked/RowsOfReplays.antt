-- Worked cases of two worlds that can't be told apart, and of what is so of every world that a machine comes to.
use Rattle.kernel_spec.proofs.Prelude.{ℕ, ◌<◌, ◌∙◌, ◌≡◌, ◌≢◌, ◌⊎◌, ap, AreAlike, AreShown, arith, false, file_at, get, HidesNothing, inl, inr, is_same, is_some, IsOrderly, keys, meet_on_file, NOFILE}
use Rattle.kernel_spec.proofs.Prelude.{None, pipe_at, refl, Sleeps, Some, State, sym, true, view, World}

-- ---- two worlds that can't be told apart

-- a world is like itself
alike_itself : (w : World) → AreAlike w w
alike_itself w = record { views = λ p. refl; pids = refl; console = refl; clock = refl; next_pid = refl; free = refl; programs = refl; turns = refl; files = λ p d q e. refl; pipes = λ p d q e. refl }

-- what is told apart: what a process sees, what all share, and the turn part
module _ (v w : World) (alike : AreAlike v w) where
  no_other_view : (p : ℕ) → view v.state p ≢ view w.state p → ⊥
  no_other_view p apart = apart (alike.views p)

  no_other_pids : keys v.state.processes ≢ keys w.state.processes → ⊥
  no_other_pids apart = apart alike.pids

  no_other_console : v.state.console ≢ w.state.console → ⊥
  no_other_console apart = apart alike.console

  no_other_numbers : (v.state.clock ≢ w.state.clock) ⊎ (v.state.next_pid ≢ w.state.next_pid) ⊎ (v.state.free ≢ w.state.free) → ⊥
  no_other_numbers apart = elim apart [ inl clock ↦ clock alike.clock | inr rest ↦ elim rest [ inl next ↦ next alike.next_pid | inr free ↦ free alike.free ] ]

  no_other_programs : v.state.programs ≢ w.state.programs → ⊥
  no_other_programs apart = apart alike.programs

  no_other_turns : v.turns ≢ w.turns → ⊥
  no_other_turns apart = apart alike.turns

  -- and whether two processes are on one open file, or on one pipe
  no_other_files : file_at v.state 1 0 ≡ Some 5 → file_at v.state 2 0 ≡ Some 5 → file_at w.state 1 0 ≡ Some 7 → file_at w.state 2 0 ≡ Some 8 → ⊥
  no_other_files a b c d =
      let no : true ≡ false = sym (λ i. is_same (a i) (b i)) ∙ alike.files 1 0 2 0 ∙ (λ i. is_same (c i) (d i)) in
      let bad : ⊥ = cc in bad

  no_other_pipes : pipe_at v.state 1 0 ≡ Some 5 → pipe_at v.state 2 0 ≡ Some 5 → pipe_at w.state 1 0 ≡ Some 7 → pipe_at w.state 2 0 ≡ Some 8 → ⊥
  no_other_pipes a b c d =
      let no : true ≡ false = sym (λ i. is_same (a i) (b i)) ∙ alike.pipes 1 0 2 0 ∙ (λ i. is_same (c i) (d i)) in
      let bad : ⊥ = cc in bad

-- the numbers themselves may differ
other_numbers : (v w : State) → file_at v 1 0 ≡ Some 5 → file_at v 2 0 ≡ Some 5 → file_at w 1 0 ≡ Some 7 → file_at w 2 0 ≡ Some 7 → meet_on_file v 1 0 2 0 ≡ meet_on_file w 1 0 2 0
other_numbers v w a b c d = (λ i. is_same (a i) (b i)) ∙ sym (λ i. is_same (c i) (d i))

-- ---- what is so of each world

-- no descriptor in use is hidden: none is above the last, and each names an open file
not_above : (s : State) → AreShown s → file_at s 1 NOFILE ≡ Some 5 → ⊥
not_above s shown there = let below : NOFILE < NOFILE = (shown 1 NOFILE 5 there).0 in omega (arith, below)

not_without_a_file : (s : State) → AreShown s → file_at s 1 0 ≡ Some 5 → get s.files 5 ≡ None → ⊥
not_without_a_file s shown there none = let no : false ≡ true = sym (ap is_some none) ∙ (shown 1 0 5 there).1 in let bad : ⊥ = cc in bad

none_hidden : (w t : World) → HidesNothing w t → AreShown w.state → file_at t.state 1 0 ≡ Some 5 → get t.state.files 5 ≡ None → ⊥
none_hidden w t hides shown there none = not_without_a_file t.state (hides shown) there none

-- only who is live sleeps
not_dead_asleep : (w : World) → IsOrderly w → Sleeps w.turns 2 → view w.state 2 ≡ None → ⊥
not_dead_asleep w orderly asleep none = let no : false ≡ true = sym (ap is_some none) ∙ orderly.sleepers 2 asleep in let bad : ⊥ = cc in bad
