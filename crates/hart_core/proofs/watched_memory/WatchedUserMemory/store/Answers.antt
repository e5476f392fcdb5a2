use Rattle.std.proofs.Common.{◌≡◌, ◌%◌, sym, ap, ◌∙◌, subst}
use Rattle.std.specs.Prelude.{◌≢◌}
use Rattle.xk_base.specs.declared.access.Cause.TheVariants.{StoreMisaligned, StorePageFault}
use Rattle.rv64i_core.specs.Memory.{bytes_of_width, storing, StoreEnds}
use Rattle.rv64i_core.specs.Step.{state_ends}
use Rattle.hart_core.specs.Steps.{root_of}
use Rattle.hart_core.specs.UserMemory.{user_at, space_state}
use Rattle.hart_core.specs.Watch.{guarded, WatchedState, watched_store}
use Rattle.hart_core.proofs.Ends.{refused}
use Rattle.hart_core.proofs.Guarded.{store-free, store-shut, store-odd-too, guarded-ends, watched-ends}
use Rattle.hart_core.proofs.watched_memory.WatchedUserMemory.store.Goals as goal

pub returns-then-address-bytes-ne0-clause-done : goal.returns-then-address-bytes-ne0-clause-done
returns-then-address-bytes-ne0-clause-done c =
    let s = c.args.self.now in
    let m = user_at s.paged.ram.now (root_of s.paged.root.now) in
    let odd : c.args.address % bytes_of_width c.args.width ≢ 0 = (rw c.bytes.ensures.value at c.if-address-bytes-ne0.true) in
    refused StoreMisaligned (guarded s.watch.now.bytes.now m) c.args.address c.args.width c.args.value
    (store-odd-too s.watch.now.bytes.now m c.args.address c.args.width c.args.value odd)

pub returns-then-address-bytes-ne0-clause-state : goal.returns-then-address-bytes-ne0-clause-state
returns-then-address-bytes-ne0-clause-state c =
    let s = c.args.self.now in
    let m = user_at s.paged.ram.now (root_of s.paged.root.now) in
    let odd : c.args.address % bytes_of_width c.args.width ≢ 0 = (rw c.bytes.ensures.value at c.if-address-bytes-ne0.true) in
    sym (ap (state_ends watched_store (record { space = space_state (root_of s.paged.root.now) s.paged.ram.now; memory = m }))
    (store-odd-too s.watch.now.bytes.now m c.args.address c.args.width c.args.value odd))

pub returns-then-has_byte_of-clause-done : goal.returns-then-has_byte_of-clause-done
returns-then-has_byte_of-clause-done c =
    let s = c.args.self.now in
    let m = user_at s.paged.ram.now (root_of s.paged.root.now) in
    let even : c.args.address % bytes_of_width c.args.width ≡ 0 = (rw c.bytes.ensures.value at c.if-address-bytes-ne0.false) in
    refused StorePageFault (guarded s.watch.now.bytes.now m) c.args.address c.args.width c.args.value
    (store-shut s.watch.now.bytes.now m c.args.address c.args.width c.args.value c.ranges.address.fits even (sym c.has_byte_of.ensures ∙ c.if-has_byte_of.true))

pub returns-then-has_byte_of-clause-state : goal.returns-then-has_byte_of-clause-state
returns-then-has_byte_of-clause-state c =
    let s = c.args.self.now in
    let m = user_at s.paged.ram.now (root_of s.paged.root.now) in
    let even : c.args.address % bytes_of_width c.args.width ≡ 0 = (rw c.bytes.ensures.value at c.if-address-bytes-ne0.false) in
    sym (ap (state_ends watched_store (record { space = space_state (root_of s.paged.root.now) s.paged.ram.now; memory = m }))
    (store-shut s.watch.now.bytes.now m c.args.address c.args.width c.args.value c.ranges.address.fits even (sym c.has_byte_of.ensures ∙ c.if-has_byte_of.true)))

pub returns-clause-done : goal.returns-clause-done
returns-clause-done c =
    let s = c.args.self.now in
    let m = user_at s.paged.ram.now (root_of s.paged.root.now) in
    let m' = user_at c.store.new.self.ram.now (root_of c.store.new.self.root.now) in
    let b = s.watch.now.bytes.now in
    let same = store-free b m c.args.address c.args.width c.args.value c.ranges.address.fits (sym c.has_byte_of.ensures ∙ c.if-has_byte_of.false) in
    subst (λ r. StoreEnds c.store.result r (guarded b m) (guarded b m')) (sym same) (guarded-ends b m c.store.result (storing m c.args.address c.args.width c.args.value) m' c.store.ensures.done)

pub returns-clause-state : goal.returns-clause-state
returns-clause-state c =
    let s = c.args.self.now in
    let m = user_at s.paged.ram.now (root_of s.paged.root.now) in
    let new = c.store.new.self in
    let before : WatchedState = record { space = space_state (root_of s.paged.root.now) s.paged.ram.now; memory = m } in
    let after : WatchedState = record { space = space_state (root_of new.root.now) new.ram.now; memory = user_at new.ram.now (root_of new.root.now) } in
    let same = store-free s.watch.now.bytes.now m c.args.address c.args.width c.args.value c.ranges.address.fits (sym c.has_byte_of.ensures ∙ c.if-has_byte_of.false) in
    subst (λ r. after ≡ state_ends watched_store before r) (sym same)
    (watched-ends c.store.result (storing m c.args.address c.args.width c.args.value) before after c.store.ensures.done c.store.ensures.state)
