use Rattle.kcall_core.proofs.Prelude.{ℕ, ◌∙◌, ◌≡◌, ap, IsSome, Kernel, length, none-some, pid_at, place_at, refl, RunsIn, same_Some, Slots, Some, subst, sym}
use Rattle.kcall_core.proofs.turns.Chosen.{chosen, noted-sound, noted-state}
use Rattle.kcall_core.proofs.turns.NextTurn.{runs-in, with_turn, nobody, turned-whole, turned-world, turned-nearest}
use Rattle.kcall_core.proofs.kernel.Kernel.turn.Goals as goal

pub enter-requires-clause-sound : goal.enter-requires-clause-sound
enter-requires-clause-sound c = noted-sound c.args.self.now c.args.hart.now c.in_ok-slot.slot c.next_turn.new.self c.requires.whole.sound c.in_ok-slot.ensures.nearest.0 c.in_ok-slot.ensures.turn

pub enter-requires-clause-live : goal.enter-requires-clause-live
enter-requires-clause-live c =
    let found = chosen (place_at c.args.self.now.table c.in_ok-slot.slot) c.in_ok-slot.ensures.nearest.1 in
    (found.0, ap (λ (t : Slots). place_at t c.in_ok-slot.slot) c.in_ok-slot.ensures.turn ∙ found.1, found.2)

pub pid-requires-clause-held : goal.pid-requires-clause-held
pid-requires-clause-held c =
    let found = chosen (place_at c.args.self.now.table c.in_ok-slot.slot) c.in_ok-slot.ensures.nearest.1 in
    subst (λ o. IsSome o)
    (sym (ap (λ (k : Kernel). place_at k.table c.in_ok-slot.slot) c.enter.ensures.runs ∙ ap (λ (t : Slots). place_at t c.in_ok-slot.slot)
    c.in_ok-slot.ensures.turn ∙ found.1)) refl

pub returns-clause-whole : goal.returns-clause-whole
returns-clause-whole c =
    let k = c.args.self.now in
    let slot = c.in_ok-slot.slot in
    let r = runs-in k.table slot c.in_ok-slot.ensures.nearest.1 in
    let is : c.enter.new.self ≡ with_turn k slot = c.enter.ensures.runs ∙ ap (λ (t : Slots). record k { table = t; current = Some slot }) c.in_ok-slot.ensures.turn in
    turned-whole k c.enter.new.self c.args.hart.now c.enter.new.hart slot r.0 c.requires.whole r.1 is
    (c.enter.ensures.state ∙ noted-state k c.args.hart.now slot c.next_turn.new.self c.in_ok-slot.ensures.turn) c.enter.ensures.sound

pub returns-clause-turn : goal.returns-clause-turn
returns-clause-turn c =
    let k = c.args.self.now in
    let slot = c.in_ok-slot.slot in
    let r = runs-in k.table slot c.in_ok-slot.ensures.nearest.1 in
    let is : c.enter.new.self ≡ with_turn k slot = c.enter.ensures.runs ∙ ap (λ (t : Slots). record k { table = t; current = Some slot }) c.in_ok-slot.ensures.turn in
    let told : pid_at k.table slot ≡ Some c.pid.result = sym (ap (λ (x : Kernel). pid_at x.table slot) is) ∙ c.pid.ensures in
    turned-world k c.enter.new.self c.args.hart.now c.enter.new.hart slot r.0 c.requires.whole r.1 is
    (c.enter.ensures.state ∙ noted-state k c.args.hart.now slot c.next_turn.new.self c.in_ok-slot.ensures.turn) c.pid.result told

pub returns-clause-nearest : goal.returns-clause-nearest
returns-clause-nearest c =
    let k = c.args.self.now in
    let slot = c.in_ok-slot.slot in
    let r = runs-in k.table slot c.in_ok-slot.ensures.nearest.1 in
    let is : c.enter.new.self ≡ with_turn k slot = c.enter.ensures.runs ∙ ap (λ (t : Slots). record k { table = t; current = Some slot }) c.in_ok-slot.ensures.turn in
    let told : pid_at k.table slot ≡ Some c.pid.result = sym (ap (λ (x : Kernel). pid_at x.table slot) is) ∙ c.pid.ensures in
    turned-nearest k c.enter.new.self c.args.hart.now c.enter.new.hart slot r.0 c.requires.whole r.1 is
    (c.enter.ensures.state ∙ noted-state k c.args.hart.now slot c.next_turn.new.self c.in_ok-slot.ensures.turn) c.pid.result told
    c.in_ok-slot.ensures.nearest.2

pub returns-clause-frames : goal.returns-clause-frames
returns-clause-frames c =
    let k = c.args.self.now in
    let slot = c.in_ok-slot.slot in
    ap (λ (x : Kernel). length x.memories.ram) (c.enter.ensures.runs ∙ ap (λ (t : Slots). record k { table = t; current = Some slot }) c.in_ok-slot.ensures.turn)

pub returns-in_err-slot-clause-idle : goal.returns-in_err-slot-clause-idle
returns-in_err-slot-clause-idle c = rw c.from_residual.ensures (nobody c.args.self.now c.args.hart.now c.requires.whole.sound.table c.in_err-slot.ensures.nearest)

pub returns-clause-kept : goal.returns-clause-kept
returns-clause-kept c = λ slot current runs.
    let same : slot ≡ c.in_ok-slot.slot = same_Some slot c.in_ok-slot.slot (sym current ∙ ap (λ (x : Kernel). x.current) c.enter.ensures.runs) in
    c.enter.ensures.kept (subst (λ (n : ℕ). RunsIn c.args.self.now.memories n c.args.hart.now) same runs)

pub returns-in_err-slot-clause-kept : goal.returns-in_err-slot-clause-kept
returns-in_err-slot-clause-kept c = λ slot current runs. absurd (none-some slot (sym c.requires.stopped ∙ current))
