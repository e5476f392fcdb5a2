-- Process 1 lives at the boot, so it ends by an event.
use Rattle.std.proofs.Common.{◌≡◌, ◌∙◌, ℕ, ◌<◌, List, [], ◌∷◌, Option, None, Some, false, true, is_some, length, sym, ap, arith}
use Rattle.std.specs.Prelude.{ℤ, IsSome}
use Rattle.std.proofs.lemmas.Bool.{false≢true}
use Rattle.kernel_spec.specs.runs.Rounds.{events}
use Rattle.kernel_spec.specs.runs.Run.{Event, Outcome, World}
use Rattle.kernel_spec.specs.views.Processes.{Process}
use Rattle.kernel_spec.specs.views.State.{ProgramFile, State, live, live_part}
use Rattle.kernel_spec.specs.waking.Turns.{Turns}
use Rattle.xv_machine.specs.Meaning.{Meaning}
use Rattle.xv_machine.specs.Reached.{IsReached}
use Rattle.xv_machine.specs.Sound.{IsHalted}
use Rattle.xv_session.specs.Recorded.{IsRecorded, Recorded}
use Rattle.xv_session.proofs.AtBoot.{first-lives}

-- ---- at the boot

-- process 1 doesn't live once it has ended
lives-on : (s : State) (turns : Turns) (status : Option ℤ) → IsHalted s turns status → IsSome (live s 1) → is_some status ≡ true → ⊥
lives-on s turns None halted lives ended = false≢true ended
lives-on s turns (Some status) halted lives ended =
    let gone : is_some (live s 1) ≡ false = ap (λ (p : Option Process). is_some (live_part p)) halted.0 in
    false≢true (sym gone ∙ lives)

no-event : (frames trace : ℕ) (programs : List ProgramFile) (m : Meaning) (list : List (Event × Outcome)) → IsReached frames trace programs list m
    → events list ≡ [] → is_some m.world.turns.halted ≡ true → ⊥
no-event frames trace programs m [] (booted, is, count, sound, empty, goes) none ended =
    lives-on booted.world.state booted.world.turns booted.world.turns.halted sound.halted (first-lives frames trace programs booted is sound)
    (ap (λ (w : World). is_some w.turns.halted) (sym goes.run) ∙ ended)
no-event frames trace programs m (e ∷ es) reached none ended = let no : ⊥ = cc in no

-- if process 1 has ended, the machine has got an event
pub ended-later : (s : Recorded) → IsRecorded s → is_some s.machine.world.turns.halted ≡ true → 0 < length s.events
ended-later s (list, those, reached, named) ended = by s.events those
  where
    by : (wanted : List Event) → events list ≡ wanted → 0 < length wanted
    by [] none = absurd (no-event s.frames s.trace s.programs s.machine list reached none ended)
    by (e ∷ es) some = omega arith
