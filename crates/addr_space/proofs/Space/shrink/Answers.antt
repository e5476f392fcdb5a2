use Rattle.addr_space.proofs.Prelude.{◌+◌, ◌/◌, ◌∙◌, ◌≡◌, ap, arith, frame_of, min, page_entry, pages_of}
use Rattle.addr_space.proofs.Freeing.{pages-below}
use Rattle.addr_space.proofs.Isolation.{spared}
use Rattle.addr_space.proofs.Translations.{walks-below}
use Rattle.addr_space.proofs.Trades.{belongs-after, belongs-ended}
use Rattle.addr_space.proofs.Space.shrink.Goals as goal

pub page_count-first-requires : goal.page_count-first-requires
page_count-first-requires c = omega (arith, c.requires.less, c.requires.belongs.whole.size)

pub returns-clause-image : goal.returns-clause-image
returns-clause-image c =
    let root : c.free_from.new.self.root ≡ c.args.self.now.root = c.free_from.ensures.changed.root in
    ap (λ r. record { pages = pages_of c.free_from.new.ram r; size = c.args.size }) root
    ∙ ap (λ m. record { pages = m; size = c.args.size })
    (pages-below c.args.ram.now c.free_from.new.ram c.args.self.now.root ((c.args.size + 4095) / 4096)
    (omega (arith, c.requires.less, c.requires.belongs.whole.size))
    (λ u lt. c.free_from.ensures.below u (omega (arith, lt, c.page_count-first.ensures.value)))
    (λ u ge lt. c.free_from.ensures.above u (omega (arith, ge, c.page_count-first.ensures.value)) lt))

pub returns-clause-others : goal.returns-clause-others
returns-clause-others c other s = spared _ _ _ _ _ _ other c.free_from.ensures.changed.traded s

pub returns-clause-belongs : goal.returns-clause-belongs
returns-clause-belongs c =
    let root : c.free_from.new.self.root ≡ c.args.self.now.root = c.free_from.ensures.changed.root in
    belongs-ended c.free_from.new.pool c.free_from.new.ram c.free_from.new.self ((c.args.size + 4095) / 4096) c.args.size c.min-self.result
    (c.min-self.ensures ∙ ap (λ n. min c.free_from.new.self.end n) c.page_count-first.ensures.value)
    (omega (arith, c.requires.less, c.requires.belongs.whole.size)) (belongs-after _ _ _ _ _ _ c.requires.belongs c.free_from.ensures.changed)
    (λ u ge lt. ap (λ r. frame_of (page_entry c.free_from.new.ram r u)) root ∙ c.free_from.ensures.above u (omega (arith, ge, c.page_count-first.ensures.value)) lt)

pub returns-clause-changed : goal.returns-clause-changed
returns-clause-changed c = record { whole = (returns-clause-belongs c).whole; root = c.free_from.ensures.changed.root; traded = c.free_from.ensures.changed.traded }

pub returns-clause-walks : goal.returns-clause-walks
returns-clause-walks c = walks-below c.args.ram.now c.free_from.new.ram c.args.self.now.root ((c.args.size + 4095) / 4096)
    (λ u lt. c.free_from.ensures.entries u (omega (arith, lt, c.page_count-first.ensures.value)))
    (omega (arith, c.requires.less, c.requires.belongs.whole.size))
