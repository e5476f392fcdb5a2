use Rattle.addr_space.proofs.Prelude.{[], ℕ, ◌<◌, ◌∙◌, ◌≡◌, ap, arith, frame_of, None, owned, page_entry, refl, root-inside, table-owned, trade-join}
use Rattle.addr_space.proofs.Trades.{belongs-after}
use Rattle.addr_space.proofs.Freeing.{only-root, root-given}
use Rattle.addr_space.proofs.Isolation.{spared}
use Rattle.addr_space.proofs.Space.drop_all.Goals as goal

pub give-requires-clause-inside : goal.give-requires-clause-inside
give-requires-clause-inside c = root-inside c.free_from.new.ram c.free_from.new.self.root c.free_from.ensures.changed.whole.tree

pub give-requires-clause-not_free : goal.give-requires-clause-not_free
give-requires-clause-not_free c =
    let b = belongs-after _ _ _ _ _ _ c.requires.belongs c.free_from.ensures.changed in
    omega (arith, b.apart c.free_from.new.self.root, table-owned c.free_from.new.ram c.free_from.new.self.root 0 0 c.free_from.new.self.root b.whole.tree (omega arith) refl)

pub returns-clause-traded : goal.returns-clause-traded
returns-clause-traded c =
    let root : c.free_from.new.self.root ≡ c.args.self.root = c.free_from.ensures.changed.root in
    let none : (u : ℕ) → u < 67108864 → frame_of (page_entry c.free_from.new.ram c.free_from.new.self.root u) ≡ None =
    λ u lt. ap (λ r. frame_of (page_entry c.free_from.new.ram r u)) root ∙ c.free_from.ensures.above u (omega arith) lt in
    let one = only-root c.free_from.new.ram c.free_from.new.self.root c.free_from.ensures.changed.whole.tree c.free_from.ensures.changed.whole.full none in
    trade-join _ _ _ _ _ _ (owned c.args.ram.now c.args.self.root) (owned c.free_from.new.ram c.free_from.new.self.root) [] c.free_from.ensures.changed.traded
    (root-given c.free_from.new.pool c.give.new.self c.free_from.new.ram c.give.new.ram c.free_from.new.self.root one c.give.ensures)

pub returns-clause-others : goal.returns-clause-others
returns-clause-others c other s = spared _ _ _ _ _ _ other (returns-clause-traded c) s
