-- Worked cases of statements: each is used on what boots and events give, so a premise that nobody produces, and a claim that is weaker, are refused here.
use Rattle.std.proofs.Common.{[], ℕ, ◌%◌, ◌+◌, ◌<◌, ◌∙◌, ◌∷◌, ◌++◌, ◌≡◌, ◌≢◌, ◌⊎◌, ap, Bool, false, List, None, Ok, Option, refl, Some, subst, sym}
use Rattle.std.proofs.Common.{true}
use Rattle.kernel_spec.specs.laws.Worlds.{OthersKeep}
use Rattle.kernel_spec.specs.runs.First.{first}
use Rattle.kernel_spec.specs.runs.Moments.{IsStepOf}
use Rattle.kernel_spec.specs.runs.Run.{Happens, Outcome, Run, StateAfter, Step_of, Tick, TickHappens, Ticked, TurnsAfter, World}
use Rattle.kernel_spec.specs.runs.Sources.{Holds, Stands, WasPut}
use Rattle.kernel_spec.specs.steps.Step.{own}
use Rattle.kernel_spec.specs.views.Shared.{bare, SameDescriptors}
use Rattle.kernel_spec.specs.views.State.{ProgramFile}
use Rattle.kernel_spec.specs.views.View.{Descriptor, Shown, Shown_file, Shown_pipe, View, view}
use Rattle.kernel_spec.specs.views.Words.{CLOCK_ROUND}
use Rattle.pipe_core.specs.Pipe.{Pipe}
use Rattle.file_table.specs.declared.open_file.End.{End}
use Rattle.xv_machine.specs.Boots.{Boots, HasEmptyTrace}
use Rattle.xv_machine.specs.Meaning.{Meaning}
use Rattle.xv_machine.specs.Reached.{BootReaches, EventsGo, IsEvent, IsReached, NoByteIsShown, ReachesOn, StepsAreOwn}
use Rattle.xv_machine.specs.Sound.{IsSoundMachine}
use Rattle.xv_claims.specs.Apart.{AreApart, channels_left, Spares, with_channels}
use Rattle.xv_claims.specs.ApartLaws.{ApartSeesChannels}
use Rattle.xv_claims.specs.Told.{HasTold, OutcomesOf, Told}
use Rattle.xv_claims.specs.ToldLaws.{OutcomesAreDetermined, OutcomesGoOn, TellsOutcomes}

-- ---- the same descriptors, but for what is shared

abbrev can_read : Option Descriptor → Bool
can_read None = false
can_read (Some d) = d.read

abbrev name_of : Option Descriptor → ℕ
name_of None = 0
name_of (Some d) = d.file

abbrev program_shown : Shown → ℕ
program_shown (Shown_file program offset) = program
program_shown shown = 0

abbrev program_of : Option Descriptor → ℕ
program_of None = 0
program_of (Some d) = program_shown d.shown

module _ (v : View) (d : Descriptor) where
  -- an offset, a pipe's bytes and its counts may differ
  other_offset : SameDescriptors (record v { descriptors = λ n. Some (record d { shown = Shown_file 2 10 }) }) (record v { descriptors = λ n. Some (record d { shown = Shown_file 2 90 }) })
  other_offset n = refl

  other_content : (e : End) (x y : Pipe) → SameDescriptors (record v { descriptors = λ n. Some (record d { shown = Shown_pipe 3 e x }) })
      (record v { descriptors = λ n. Some (record d { shown = Shown_pipe 3 e y }) })
  other_content e x y n = refl

  -- which are in use, what may be done with them, what they are on, and which share one, may not
  not_in_use : SameDescriptors (record v { descriptors = λ n. Some d }) (record v { descriptors = λ n. None }) → ⊥
  not_in_use same = let no : bare (Some d) ≡ None = same 7 in let bad : ⊥ = cc in bad

  other_mode : SameDescriptors (record v { descriptors = λ n. Some (record d { read = true }) }) (record v { descriptors = λ n. Some (record d { read = false }) }) → ⊥
  other_mode same = let no : true ≡ false = ap can_read (same 7) in let bad : ⊥ = cc in bad

  other_program : SameDescriptors (record v { descriptors = λ n. Some (record d { shown = Shown_file 2 10 }) })
      (record v { descriptors = λ n. Some (record d { shown = Shown_file 3 10 }) }) → ⊥
  other_program same = let no : ◌≡◌ {A = ℕ} 2 3 = ap program_of (same 7) in let bad : ⊥ = cc in bad

  other_name : SameDescriptors (record v { descriptors = λ n. Some (record d { file = 2 }) }) (record v { descriptors = λ n. Some (record d { file = 3 }) }) → ⊥
  other_name same = let no : ◌≡◌ {A = ℕ} 2 3 = ap name_of (same 7) in let bad : ⊥ = cc in bad

-- ---- a tick keeps the registers and the descriptors of process 2, which is live

module _ (law : OthersKeep) (w : World) (v : View) (going : w.turns.halted ≡ None) (see : view w.state 2 ≡ Some v) where
  abbrev t : World
  t = record { state = record w.state { clock = (w.state.clock + 1) % CLOCK_ROUND }; turns = record w.turns { current = None } }

  tick : Happens w Tick Ticked t
  tick = subst (λ (h : Option _). TickHappens w h Ticked t) (sym going) (refl, refl, (refl, λ p asleep. asleep))

  no_step : ¬ IsStepOf 2 w Tick
  no_step is = let no : Tick ≡ Run = is.0 in let bad : ⊥ = cc in bad

  it_keeps : (u : View) × (view t.state 2 ≡ Some u) × (u.regs ≡ v.regs) × (u.image ≡ v.image) × (u.call ≡ v.call) × ((d : ℕ) → bare (u.descriptors d) ≡ bare (v.descriptors d))
  it_keeps = let k = law 2 v w t Tick Ticked tick no_step see in (k.0, k.1, k.2.1, k.2.2, k.2.3, k.3)

-- ---- a machine that was booted, and was then sent two events

module _ (boots_reach : BootReaches) (reaches_on : ReachesOn) (events_go : EventsGo) (programs : List ProgramFile) (a b c : Meaning) (o q : Outcome)
    (booted : Boots 64 (Ok a) (first 64 8 programs)) (sound : IsSoundMachine a) (empty : HasEmptyTrace 8 a) (one : IsEvent a Run o b) (two : IsEvent b Run q c) where
  reached : IsReached 64 8 programs [] a
  reached = boots_reach 64 8 programs a booted sound empty

  reached_one : IsReached 64 8 programs ((Run, o) ∷ []) b
  reached_one = reaches_on 64 8 programs [] ((Run, o) ∷ []) a b reached (events_go a b ((Run, o) ∷ []) sound (b, one, refl))

  reached_two : IsReached 64 8 programs ((Run, o) ∷ (Run, q) ∷ []) c
  reached_two = reaches_on 64 8 programs [] ((Run, o) ∷ (Run, q) ∷ []) a c reached (events_go a c ((Run, o) ∷ (Run, q) ∷ []) sound (b, one, (c, two, refl)))

  -- process 1 runs after the first: the second is its step, which answers and leaves what `own` says
  second_is_own : StepsAreOwn → IsStepOf 1 b.world Run
      → (v : View) × (view b.world.state 1 ≡ Some v) × (q ≡ Step_of 1 (own v).answer) × StateAfter b.world.state v (own v) c.world.state × TurnsAfter b.world.turns 1 (own v) c.world.turns
  second_is_own law his = law 64 8 programs ((Run, o) ∷ []) b c 1 q reached_one his two

  -- process 2, which has nothing in common with it and which it spares, sees the channels change
  other_sees_channels : ApartSeesChannels → IsStepOf 1 b.world Run → (v u : View) → view b.world.state 1 ≡ Some v → view b.world.state 2 ≡ Some u
      → AreApart b.world.state 1 2 → Spares b.world.state 1 (own v) 2 → view c.world.state 2 ≡ Some (with_channels (channels_left v (own v)) u)
  other_sees_channels law his v u see_v see_u apart spares = law b.world c.world 1 2 q v u two.promised.0 his other see_v see_u apart spares
    where
      other : ◌≢◌ {A = ℕ} 1 2
      other e = cc

  -- a byte that a process holds then stood in the memory of process 1 at boot, or was put there
  byte_has_source : NoByteIsShown → (p byte : ℕ) → 5 < 4096 → Holds c.world p 2 5 byte
      → (w : World) × (first 64 8 programs ≡ Ok w) × (Stands w ((Run, o) ∷ (Run, q) ∷ []) c.world 1 p 2 5 byte ⊎ WasPut w ((Run, o) ∷ (Run, q) ∷ []) c.world p 2 5 byte)
  byte_has_source law p byte low holds = law 64 8 programs ((Run, o) ∷ (Run, q) ∷ []) c p 2 5 byte reached_two low holds

  -- what it has told is what the definitions give of two Runs, and nothing else
  told_so : TellsOutcomes
      → (told : Told) × OutcomesOf 64 8 programs (Run ∷ Run ∷ []) told × HasTold ((Run, o) ∷ (Run, q) ∷ []) c told × ((other : Told) → OutcomesOf 64 8 programs (Run ∷ Run ∷ []) other → other ≡ told)
  told_so law = law 64 8 programs ((Run, o) ∷ (Run, q) ∷ []) c reached_two

  both_outcomes : OutcomesAreDetermined → (told : Told) → OutcomesOf 64 8 programs (Run ∷ Run ∷ []) told → TellsOutcomes → told.outcomes ≡ o ∷ q ∷ []
  both_outcomes one_answer told is law =
      let t = told_so law in
      ap (λ (x : Told). x.outcomes) (one_answer 64 8 programs (Run ∷ Run ∷ []) told t.0 is t.1) ∙ t.2.outcomes

-- what two Runs give begins with what the first of them gives
one_first : OutcomesGoOn → (programs : List ProgramFile) (told : Told) → OutcomesOf 64 8 programs (Run ∷ Run ∷ []) told
    → (before : Told) × OutcomesOf 64 8 programs (Run ∷ []) before × ((later : List Outcome) × (told.outcomes ≡ before.outcomes ++ later))
one_first law programs told is = let b = law 64 8 programs (Run ∷ []) (Run ∷ []) told is in (b.0, b.3, (b.1, b.4))
