use Rattle.kcall_core.proofs.Prelude.{◌+◌, ◌∙◌, ◌≡◌, ap, changed_at, each_changed, end_process, ended, give_frames, given, gone-closed, IsLive, IsRunning, IsSome, IsSound, keeps-parent, Kernel}
use Rattle.kcall_core.proofs.Prelude.{length, live_now, or_zero, orphans, pid_now, price, slot_now, state_of, subst, sym, to_z-of_z}
use Rattle.kcall_core.proofs.table.Stops.{now-slot}
use Rattle.kcall_core.proofs.turns.Chosen.{pid-told}
use Rattle.kcall_core.proofs.turns.Turned.{live-is}
use Rattle.kcall_core.proofs.kernel.Kernel.go_closed.Goals as goal

pub end-requires-clause-sound : goal.end-requires-clause-sound
end-requires-clause-sound c = c.orphan.ensures.sound c.args.hart.now c.requires.sound

pub end-requires-clause-running : goal.end-requires-clause-running
end-requires-clause-running c = subst (λ o. IsSome o) (sym c.orphan.ensures.current) c.requires.running

pub returns-clause-state : goal.returns-clause-state
returns-clause-state c =
    let k = c.args.self.now in
    let h = c.args.hart.now in
    let k1 = c.orphan.new.self in
    let s = state_of k h in
    let p = pid_now k in
    let told : p ≡ c.pid-pid.result =
    pid-told k c.running_slot-slot.result c.pid-pid.result
    (sym (now-slot c.running_slot-slot.result c.requires.sound c.running_slot-slot.ensures.is)) c.pid-pid.ensures in
    let sound1 : IsSound k1 h = c.orphan.ensures.sound h c.requires.sound in
    let runs1 : IsRunning k1 = subst (λ o. IsSome o) (sym c.orphan.ensures.current) c.requires.running in
    let state1 : state_of k1 h ≡ orphans p s = c.orphan.ensures.state h ∙ ap (λ n. orphans n s) (sym told) in
    let pid1 : pid_now k1 ≡ p = c.orphan.ensures.pid h c.requires.sound c.requires.running in
    let is1 : IsLive (orphans p s) p (live_now k1 h) = subst (λ t. IsLive t p (live_now k1 h)) state1 (subst (λ n. IsLive (state_of k1 h) n (live_now k1 h)) pid1 (live-is k1 h sound1 runs1)) in
    let live1 : live_now k1 h ≡ live_now k h = keeps-parent s p (live_now k h) (live_now k1 h) (live-is k h c.requires.sound c.requires.running) c.requires.parent is1 in
    let status = to_z-of_z _ c.args.status c.ranges.status in
    c.end.ensures.state
    ∙ (λ t. give_frames (price (live1 t).image + 1) (end_process (pid1 t) (live1 t).parent (status t) (state1 t)))
    ∙ gone-closed s (live_now k h) c.requires.closed p c.args.status

pub returns-clause-table : goal.returns-clause-table
returns-clause-table c =
    let k = c.args.self.now in
    let told : pid_now k ≡ c.pid-pid.result =
    pid-told k c.running_slot-slot.result c.pid-pid.result
    (sym (now-slot c.running_slot-slot.result c.requires.sound c.running_slot-slot.ensures.is)) c.pid-pid.ensures in
    c.end.ensures.table
    ∙ (λ i. changed_at (or_zero (c.orphan.ensures.current i)) (ended (to_z-of_z _ c.args.status c.ranges.status i)) (c.orphan.ensures.table i))
    ∙ ap (λ n. changed_at (slot_now k) (ended c.args.status) (each_changed (given n 1) k.table)) (sym told)

pub returns-clause-files : goal.returns-clause-files
returns-clause-files c = c.end.ensures.files ∙ ap (λ (n : Kernel). n.files) c.orphan.ensures.rest

pub returns-clause-frames : goal.returns-clause-frames
returns-clause-frames c = c.end.ensures.frames ∙ ap (λ (n : Kernel). length n.memories.ram) c.orphan.ensures.rest
