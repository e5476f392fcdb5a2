-- Where nothing that can be seen is another, the process that ran runs on, and what it makes next it makes from before.
use Rattle.kcall_core.proofs.Prelude.{ℕ, ◌∙◌, ◌≡◌, After, ap, get, halts_with, Hart, IsRunning, IsSome, IsSound, Kernel, Live, live_now, Makes, None, none-some, Option, option_map, Own, pid_now, refl}
use Rattle.kcall_core.proofs.Prelude.{same_live, same_Some, Some, State, state_of, Stays, Step_of, StillRuns, subst, sym, turns_of, TurnsAfter, view_now, view_of, WakesWhereDue, World, world_of}
use Rattle.kcall_core.proofs.Prelude.{Zombie}
use Rattle.kcall_core.proofs.table.States.{running}
use Rattle.kcall_core.proofs.turns.Turned.{live-is}

module _ (k k' : Kernel) (h h' : Hart) (sound : IsSound k h) (runs : IsRunning k) (stays : Stays k h k' h') where
  current : option_map (λ (i : ℕ). pid_now k') k'.current ≡ Some (pid_now k)
  unfolding turns_of
  current = ap (λ (w : World). w.turns.current) stays.world ∙ ap (option_map (λ (i : ℕ). pid_now k)) (running k h sound runs).current

  pub still-runs : StillRuns k h k' h'
  still-runs = by k'.current refl
    where
      by : (o : Option ℕ) → k'.current ≡ o → StillRuns k h k' h'
      by None is = absurd (none-some (pid_now k) (sym (ap (option_map (λ (i : ℕ). pid_now k')) is) ∙ current))
      by (Some i) is =
          let pid : pid_now k' ≡ pid_now k = same_Some (pid_now k') (pid_now k) (sym (ap (option_map (λ (i : ℕ). pid_now k')) is) ∙ current) in
          let now : IsRunning k' = subst (λ o. IsSome o) (sym is) refl in
          record {
            running = now;
            pid = pid;
            live = same_live (live_now k' h') (live_now k h)
                (sym (live-is k' h' stays.whole.sound now) ∙ ap (λ (s : State). get s.processes (pid_now k'))
                (ap (λ (w : World). w.state) stays.world) ∙ ap (get (state_of k h).processes) pid ∙ live-is k h sound runs);
          }

  pub stays-view : view_now k' h' ≡ view_now k h
  stays-view = λ t. view_of ((stays.world t).state) (still-runs.pid t) (still-runs.live t)

  -- what is made of a step of process p, which is l, in the world w
  abbrev MadeFrom : (o : Own) (last : Kernel) (hart : Hart) → World → ℕ → Live → Type 0
  MadeFrom o last hart w p l = After w.state p l o (state_of last hart) × TurnsAfter w.turns p o (turns_of last (halts_with p o.answer))
      × WakesWhereDue w (Step_of p o.answer) (world_of last hart (halts_with p o.answer))

  pub makes-from : (o : Own) (last : Kernel) (hart : Hart) → Makes k' h' o last hart → Makes k h o last hart
  makes-from o last hart made =
      let all : MadeFrom o last hart (world_of k h None) (pid_now k) (live_now k h) =
      subst (λ (w : World). MadeFrom o last hart w (pid_now k) (live_now k h)) stays.world
      (subst (λ (p : ℕ). MadeFrom o last hart (world_of k' h' None) p (live_now k h)) still-runs.pid
      (subst (λ (l : Live). MadeFrom o last hart (world_of k' h' None) (pid_now k') l) still-runs.live (made.state, made.turns, made.wakes))) in
      record {
        whole = made.whole;
        state = all.0;
        turns = all.1;
        wakes = all.2;
        kept = λ status is. ap (get (state_of last hart).processes) (sym still-runs.pid) ∙ made.kept status is ∙ ap (λ (l : Live). Some (Zombie l.parent status)) still-runs.live;
        frames = made.frames ∙ stays.frames;
      }
