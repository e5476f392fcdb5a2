use Rattle.addr_space.proofs.Prelude.{◌+◌, ◌-◌, ◌<◌, ◌∙◌, ◌≡◌, ap, arith, get, pages_of, rules, subst, sym, with_absent, zeroed}
use Rattle.addr_space.proofs.Grown.{perm-none, perm-some, no-refusal, SoFar, so_far-none, so_far-new, so_far-same}
use Rattle.addr_space.proofs.Isolation.{spared}
use Rattle.addr_space.proofs.Space.fill.Goals.{in-None+in-Ok, in_default}
use Rattle.addr_space.proofs.Space.fill.Goals as goal

pub loop-number-init : goal.loop-number-init
loop-number-init c = so_far-none c.args.pool.now c.args.ram.now c.args.self.now c.args.first c.args.perm c.requires.belongs

pub unreachable-requires : goal.unreachable-requires
unreachable-requires c =
    let inv = c.loop-number.invariant in
    let v : c.new-vpn.result ≡ c.loop-number.number = c.new-vpn.ensures in
    no-refusal c.args.pool.now c.loop-number.pool c.args.ram.now c.loop-number.ram c.args.self.now c.loop-number.self c.args.self.now.size
    c.new-vpn.result c.args.first c.args.last c.price_between-extra.result c.free.result c.args.perm c.requires.belongs inv.changed
    (inv.pages ∙ ap (λ x. with_absent (pages_of c.args.ram.now c.args.self.now.root) c.args.first (x - c.args.first) (zeroed c.args.perm)) (sym v))
    (omega (arith, v, c.loop-number.auto.number)) (omega (arith, v, c.loop-number-test.true)) (omega (arith, c.requires.limit))
    (c.price_between-extra.ensures c.args.perm) c.if-free-extra.false (c.free.ensures c.args.ram.now c.requires.belongs.good)
    (perm-none (get (pages_of c.loop-number.ram c.loop-number.self.root) c.new-vpn.result) (sym c.in-None.ensures))
    c.in_default-map_zeroed.ensures.refused.0

pub loop-number-preserved : goal.loop-number-preserved
loop-number-preserved c =
    let v : c.new-vpn.result ≡ c.loop-number.number = c.new-vpn.ensures in
    let small : c.loop-number.number < 67108864 = omega (arith, c.loop-number-test.true, c.requires.limit) in
    let old : SoFar c.args.pool.now c.args.ram.now c.args.self.now c.args.first c.args.perm c.new-vpn.result c.loop-number.pool c.loop-number.ram
    c.loop-number.self = subst (λ x. SoFar c.args.pool.now c.args.ram.now c.args.self.now c.args.first c.args.perm x c.loop-number.pool
    c.loop-number.ram c.loop-number.self) (sym v) c.loop-number.invariant in
    elim c.match-perm.branch [
      | in-None+in-Ok w ↦
          let next : SoFar c.args.pool.now c.args.ram.now c.args.self.now c.args.first c.args.perm (c.new-vpn.result + 1) w.map_zeroed.new.pool w.map_zeroed.new.ram w.map_zeroed.new.self =
          so_far-new c.args.pool.now c.loop-number.pool w.map_zeroed.new.pool c.args.ram.now c.loop-number.ram w.map_zeroed.new.ram c.args.self.now
          c.loop-number.self w.map_zeroed.new.self c.args.first c.new-vpn.result c.args.perm old w.in-Ok.ensures.changed w.in-Ok.ensures.image
          w.in-Ok.ensures.translations
          (perm-none (get (pages_of c.loop-number.ram c.loop-number.self.root) c.new-vpn.result) (sym w.in-None.ensures)) (omega (arith, v, c.loop-number.auto.number)) (omega (arith, v, small)) in
          rw (w.self-is, w.pool-is, w.ram-is, sym v) next
      | in_default w ↦
          let next : SoFar c.args.pool.now c.args.ram.now c.args.self.now c.args.first c.args.perm (c.new-vpn.result + 1) c.loop-number.pool c.loop-number.ram c.loop-number.self =
          so_far-same c.args.pool.now c.loop-number.pool c.args.ram.now c.loop-number.ram c.args.self.now c.loop-number.self c.args.first c.new-vpn.result c.args.perm old
          (perm-some (get (pages_of c.loop-number.ram c.loop-number.self.root) c.new-vpn.result) (λ e. w.in_default.not-None (c.perm.ensures ∙ e)))
          (omega (arith, v, c.loop-number.auto.number)) (omega (arith, v, small)) in
          rw (w.self-is, w.pool-is, w.ram-is, sym v) next
    ]

pub returns-clause-others : goal.returns-clause-others
returns-clause-others c other s = spared _ _ _ _ _ _ other c.loop-number.invariant.changed.traded s

pub returns-then-free-extra-clause-refused : goal.returns-then-free-extra-clause-refused
returns-then-free-extra-clause-refused c = search rules
