use Rattle.addr_space.proofs.Prelude.{◌∙◌, ap, arith, cond, gathered-get, get, le-ltb, None, page_at, refl}
use Rattle.addr_space.proofs.Trades.{belongs-made}
use Rattle.addr_space.proofs.Prices.{length-kinds}
use Rattle.addr_space.proofs.Copies.{copied-none, copied-step, copied-all, room-for}
use Rattle.addr_space.proofs.Isolation.{spared, belongs-apart}
use Rattle.addr_space.proofs.Space.copy.Goals as goal

pub returns-then-free-price-clause-refused : goal.returns-then-free-price-clause-refused
returns-then-free-price-clause-refused c = (
  omega (
    arith,
    c.if-free-price.true,
    c.free.ensures c.args.ram.now c.requires.belongs.good,
    c.price.ensures.price c.args.ram.now c.requires.belongs.whole,
  ),
  refl,
  refl,
)

pub price-requires : goal.price-requires
price-requires c = (c.args.ram.now, c.requires.belongs.whole)

-- a space costs at least its root, so that a frame is free
pub unreachable-requires : goal.unreachable-requires
unreachable-requires c =
    omega (
      arith,
      c.if-free-price.false,
      c.free.ensures c.args.ram.now c.requires.belongs.good,
      c.price.ensures.owned c.args.ram.now c.requires.belongs.whole,
      length-kinds c.args.ram.now c.args.self.now.root,
      c.in_default.ensures.refused.0,
    )

pub pages-init : goal.pages-init
pages-init c =
    (copied-none c.args.pool.now c.empty.new.pool c.args.ram.now c.empty.new.ram c.args.self.now c.in-Ok.child c.requires.belongs c.in-Ok.ensures.made c.in-Ok.ensures.image
    (omega (arith, c.if-free-price.false, c.free.ensures c.args.ram.now c.requires.belongs.good, c.price.ensures.price c.args.ram.now c.requires.belongs.whole))).0

pub page_from-requires-clause-whole : goal.page_from-requires-clause-whole
page_from-requires-clause-whole c = c.pages.invariant.whole

pub copy_page-requires-clause-absent : goal.copy_page-requires-clause-absent
copy_page-requires-clause-absent c =
    let inv = c.pages.invariant in
    ap (λ m. get m c.in-Some.number) inv.pages ∙ gathered-get (page_at c.empty.new.ram c.args.self.now.root) c.pages.from c.in-Some.number
    ∙ ap (λ b. cond b (page_at c.empty.new.ram c.args.self.now.root c.in-Some.number) None) (le-ltb c.in-Some.number c.pages.from c.in-Some.ensures.some.1)

pub copy_page-requires-clause-room : goal.copy_page-requires-clause-room
copy_page-requires-clause-room c page =
    let s = c.in-Some.ensures.some in
    room-for c.empty.new.pool c.pages.pool c.empty.new.ram c.pages.ram c.in-Ok.child c.args.self.now c.pages.child c.pages.from c.in-Some.number s.2.0 page c.pages.invariant s.1 s.0 s.2.1 s.3

pub pages-preserved : goal.pages-preserved
pages-preserved c =
    let s = c.in-Some.ensures.some in
    copied-step c.empty.new.pool c.pages.pool c.copy_page.new.pool c.empty.new.ram c.pages.ram c.copy_page.new.ram c.in-Ok.child c.args.self.now
    c.pages.child c.copy_page.new.child c.pages.from c.in-Some.number s.2.0 c.pages.invariant c.copy_page.ensures.changed
    c.copy_page.ensures.image s.1 s.0 s.2.1 s.3

pub returns-clause-image : goal.returns-clause-image
returns-clause-image c =
    let start = copied-none c.args.pool.now c.empty.new.pool c.args.ram.now c.empty.new.ram c.args.self.now c.in-Ok.child c.requires.belongs c.in-Ok.ensures.made c.in-Ok.ensures.image
    (omega (arith, c.if-free-price.false, c.free.ensures c.args.ram.now c.requires.belongs.good, c.price.ensures.price c.args.ram.now c.requires.belongs.whole)) in
    (copied-all c.args.pool.now c.empty.new.pool c.pages.pool c.args.ram.now c.empty.new.ram c.pages.ram c.args.self.now c.in-Ok.child c.pages.child
    c.pages.from c.in-Ok.ensures.made start.1 c.pages.invariant c.in_default-page_from.ensures.none).1

pub returns-clause-fits : goal.returns-clause-fits
returns-clause-fits c = omega (arith, c.if-free-price.false, c.free.ensures c.args.ram.now c.requires.belongs.good, c.price.ensures.price c.args.ram.now c.requires.belongs.whole)

pub returns-clause-others : goal.returns-clause-others
returns-clause-others c other s =
    let start = copied-none c.args.pool.now c.empty.new.pool c.args.ram.now c.empty.new.ram c.args.self.now c.in-Ok.child c.requires.belongs c.in-Ok.ensures.made c.in-Ok.ensures.image
    (omega (arith, c.if-free-price.false, c.free.ensures c.args.ram.now c.requires.belongs.good, c.price.ensures.price c.args.ram.now c.requires.belongs.whole)) in
    spared _ _ _ _ _ _ other (copied-all c.args.pool.now c.empty.new.pool c.pages.pool c.args.ram.now c.empty.new.ram c.pages.ram c.args.self.now
    c.in-Ok.child c.pages.child c.pages.from c.in-Ok.ensures.made start.1 c.pages.invariant c.in_default-page_from.ensures.none).0.traded s

pub returns-clause-belongs : goal.returns-clause-belongs
returns-clause-belongs c =
    let start = copied-none c.args.pool.now c.empty.new.pool c.args.ram.now c.empty.new.ram c.args.self.now c.in-Ok.child c.requires.belongs c.in-Ok.ensures.made c.in-Ok.ensures.image
    (omega (arith, c.if-free-price.false, c.free.ensures c.args.ram.now c.requires.belongs.good, c.price.ensures.price c.args.ram.now c.requires.belongs.whole)) in
    belongs-made _ _ _ _ _ c.requires.belongs.good (copied-all c.args.pool.now c.empty.new.pool c.pages.pool c.args.ram.now c.empty.new.ram
    c.pages.ram c.args.self.now c.in-Ok.child c.pages.child c.pages.from c.in-Ok.ensures.made start.1 c.pages.invariant
    c.in_default-page_from.ensures.none).0

-- the original has none of the free frames, and so none of the copy's
pub returns-clause-original : goal.returns-clause-original
returns-clause-original c =
    let start = copied-none c.args.pool.now c.empty.new.pool c.args.ram.now c.empty.new.ram c.args.self.now c.in-Ok.child c.requires.belongs c.in-Ok.ensures.made c.in-Ok.ensures.image
    (omega (arith, c.if-free-price.false, c.free.ensures c.args.ram.now c.requires.belongs.good, c.price.ensures.price c.args.ram.now c.requires.belongs.whole)) in
    let traded = (copied-all c.args.pool.now c.empty.new.pool c.pages.pool c.args.ram.now c.empty.new.ram c.pages.ram c.args.self.now c.in-Ok.child
    c.pages.child c.pages.from c.in-Ok.ensures.made start.1 c.pages.invariant c.in_default-page_from.ensures.none).0.traded in
    belongs-apart _ _ _ _ _ c.args.self.now c.requires.belongs traded
