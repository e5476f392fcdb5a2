-- Worked cases of what an exit status says of a run.
use Rattle.std.proofs.Common.{◌≡◌, ◌≢◌, ◌∙◌, ℕ, zero, suc, ◌≤◌, List, [], ◌∷◌, Option, Some, None, Result, Ok, Err, inl, inr, refl, sym, ap, subst, arith}
use Rattle.std.specs.Prelude.{ℤ, pos, negsuc}
use Rattle.kernel_spec.specs.waking.Wakes.{IsPromised}
use Rattle.kernel_spec.specs.runs.Rounds.{AreRounds}
use Rattle.kernel_spec.specs.runs.Run.{World, Event, Outcome}
use Rattle.kernel_spec.specs.views.State.{ProgramFile}
use Rattle.xv_machine.specs.declared.driving.DriveEnd.TheVariants.{Halted, RoundsOver}
use Rattle.xv_machine.specs.declared.driving.DriveError.TheVariants.{Read, Write}
use Rattle.xv_machine.specs.declared.driving.RunPlan.{RunPlan}
use Rattle.xv_machine.specs.declared.machine.Config.{Config}
use Rattle.xv_machine.specs.Devices.{one_more}
use Rattle.xv_machine.specs.Drives.{is_halted}
use Rattle.xv_machine.specs.Meaning.{Meaning}
use Rattle.program_files.specs.Statuses.{exit_status, status_of, Devices, Drove, Tells}
use Rattle.xv_run.specs.Runs.{Says}

-- ---- the statuses

exits : exit_status (pos 0) ∷ exit_status (pos 1) ∷ exit_status (pos 4) ∷ exit_status (negsuc 0) ∷ [] ≡ 0 ∷ 3 ∷ 3 ∷ 3 ∷ []
exits = refl

ends : status_of (Ok (Halted (pos 0))) ∷ status_of (Ok (Halted (pos 2))) ∷ status_of (Ok RoundsOver) ∷ status_of (Err Read) ∷ status_of (Err Write) ∷ [] ≡ 0 ∷ 3 ∷ 4 ∷ 5 ∷ 5 ∷ []
ends = refl

-- ---- a machine that was driven by a plan of no round

module _ (booted : Meaning) (before after : Devices) where
  -- is as it was booted
  as_booted : (status : Option ℤ) → Drove (record { rounds = 0; quantum = 1 }) booted before after status → booted.world.turns.halted ≡ status
  as_booted status (ended, done, halted) = sym (ap (λ (w : World). w.turns.halted) stays) ∙ halted
    where
      none : (count : ℕ) → count ≤ 0 → AreRounds count 1 done.keys (is_halted booted) done.list → done.list ≡ []
      none zero within are = are
      none (suc count) within are = absurd (omega (arith, within))

      stays : ended.world ≡ booted.world
      stays = subst (λ (list : List (Event × Outcome)). IsPromised booted.world list ended.world) (none done.planned.0 done.planned.1 done.planned.2) done.goes.run

  -- and not one that has ended
  ended_by_nothing : booted.world.turns.halted ≡ None → Drove (record { rounds = 0; quantum = 1 }) booted before after (Some (pos 0)) → ⊥
  ended_by_nothing on drove = let bad = sym on ∙ as_booted (Some (pos 0)) drove in let no : ⊥ = cc in no

-- ---- what a status says

not_both : (count : ℕ) → count ≡ 0 → count ≡ 1 → ⊥
not_both count none one = omega (arith, none, one)

module _ (plan : RunPlan) (config : Config) (programs : List ProgramFile) (booted : Meaning) (before after : Devices) where
  -- 1, 2 and 6 are told of no machine that was driven
  other_status : Tells 6 plan booted before after → ⊥
  other_status tells = elim tells.no_other [
    | inl zero_is ↦ let bad : ⊥ = cc in bad
    | inr more ↦ elim more [
      | inl three ↦ let bad : ⊥ = cc in bad
      | inr last ↦ elim last [
        | inl four ↦ let bad : ⊥ = cc in bad
        | inr five ↦ let bad : ⊥ = cc in bad
      ]
    ]
  ]

  -- 5 where no device failed, or both did
  none_failed : after.failed_reads ≡ before.failed_reads → before.failed_reads ≡ 0 → after.failed_writes ≡ before.failed_writes → before.failed_writes ≡ 0 → Tells 5 plan booted before after → ⊥
  none_failed reads none writes none_too tells = elim (tells.device_failed refl) [
    | inl one ↦ not_both after.failed_reads (reads ∙ none) (one.0 ∙ ap one_more none)
    | inr one ↦ not_both after.failed_writes (writes ∙ none_too) (one.0 ∙ ap one_more none_too)
  ]

  both_failed : before.failed_reads ≡ 0 → after.failed_reads ≡ 1 → before.failed_writes ≡ 0 → after.failed_writes ≡ 1 → Tells 5 plan booted before after → ⊥
  both_failed none one none_too one_too tells = elim (tells.device_failed refl) [
    | inl first ↦ not_both after.failed_writes (first.1 ∙ none_too) one_too
    | inr second ↦ not_both after.failed_reads (second.1 ∙ none) one
  ]

  -- 2 where a write failed
  refused_and_written : before.failed_writes ≡ 0 → after.failed_writes ≡ 1 → Says 2 config plan programs before after → ⊥
  refused_and_written none one says = not_both after.failed_writes (ap (λ (d : Devices). d.failed_writes) (says.refused refl) ∙ none) one

  -- and where bytes were written
  refused_with_output : before.sink.held ≡ Some [] → after.sink.held ≡ Some (104 ∷ []) → Says 2 config plan programs before after → ⊥
  refused_with_output none one says = let same : after.sink.held ≡ before.sink.held = ap (λ (d : Devices). d.sink.held) (says.refused refl) in let bad = sym one ∙ same ∙ none in let no : ⊥ = cc in no
