-- A wait where all children live: the process sleeps on its children's channel.
use Rattle.kcall_core.proofs.Prelude.{ℕ, ◌∙◌, ◌≡◌, After, Alive, ap, Blocked, Call, changed_state, eq-eqb, false, get_same, Hart, is_for, IsRunning, IsWhole, Kernel, Live, live_now}
use Rattle.kcall_core.proofs.Prelude.{live_part, Makes, Own, pid_now, pos, ready, refl, row_of, row_waits_for, Some, State, state_of, subst, sym, true, view_now, view_of, wait, waits, waits_for}
use Rattle.kcall_core.proofs.turns.Turned.{live-is}
use Rattle.kcall_core.proofs.turns.StepSlots.{KeepsAll}
use Rattle.kcall_core.proofs.making.Buffers.{unmoved-keeps}
use Rattle.kcall_core.proofs.making.Midway.{IsAsleep, midway-sleeps}
use Rattle.kcall_core.proofs.making.Moved.{still, sleeps-unready}
use Rattle.proc_table.specs.declared.channel.Channel.TheVariants as on
use Rattle.kernel_spec.specs.steps.Updates as update
use Rattle.kernel_spec.proofs.steps.AloneLawsHold as law
use Rattle.kernel_spec.proofs.calls.wait.{is_wait}

-- ---- it sleeps

module _ {k : Kernel} {h : Hart} (c : Call) (whole : IsWhole k h) (runs : IsRunning k) (row : wait c (view_now k h) ≡ waits c 0 (view_now k h)) where
  abbrev s : State
  s = state_of k h

  abbrev p : ℕ
  p = pid_now k

  abbrev l : Live
  l = live_now k h

  abbrev d : Call
  d = record c { moved = 0 }

  abbrev asleep : Live
  asleep = update.in_call d l

  abbrev after : State
  after = changed_state p asleep s.files s.pipes s.console s.free s

  pub waits-answer : (wait c (view_now k h)).answer ≡ Blocked c.number
  waits-answer = ap (λ (o : Own). o.answer) row

  waits-keeps : KeepsAll s (wait c (view_now k h))
  unfolding view_of
  waits-keeps = subst (KeepsAll s) (sym row) (record { child = refl; stays = refl; pids = refl })

  waits-law : After s p l (wait c (view_now k h)) after
  unfolding view_of
  waits-law = subst (λ o. After s p l o after) (sym row) (law.waiting s p l c 0 l.image s.console s.free (live-is k h whole.sound runs))

  for-child : c.number ≡ pos 3 → is_for (waits_for after p asleep) (on.Children p) ≡ true
  unfolding row_of
  for-child number = ap (λ z. is_for (row_waits_for after p asleep d (row_of z)) (on.Children p)) number ∙ eq-eqb p p refl

  unready : c.number ≡ pos 3 → l.killed ≡ false → l.call ≡ Some c → ready (view_of after p asleep) ≡ false
  unfolding view_of
  unready number unmarked busy = sleeps-unready s after p l asleep (wait c (view_now k h)) c.number
      (law.resume s p l c unmarked busy ∙ is_wait c (view_now k h) number) waits-answer waits-law.next (ap live_part (get_same s.processes p (Alive asleep)))

  pub wait-waits : (k' : Kernel) (h' : Hart) → c.number ≡ pos 3 → l.killed ≡ false → l.call ≡ Some c → IsAsleep k h d (on.Children p) k' h' → Makes k h (wait c (view_now k h)) k' h'
  wait-waits k' h' number unmarked busy slept =
      midway-sleeps whole runs (still whole runs) k' h' d (on.Children p) (wait c (view_now k h)) c.number slept
      (unmoved-keeps d l.image refl) waits-answer waits-keeps waits-law (for-child number, unready number unmarked busy)
