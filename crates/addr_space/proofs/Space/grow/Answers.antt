use Rattle.addr_space.proofs.Prelude.{◌-◌, arith, pages_of, with_absent, zeroed}
use Rattle.std.proofs.lemmas.Result.{err_from_is_err_and}
use Rattle.addr_space.proofs.PriceTo.{cost-size}
use Rattle.addr_space.proofs.Trades.{belongs-resized}
use Rattle.addr_space.proofs.Space.grow.Goals as goal

pub page_count-first-requires : goal.page_count-first-requires
page_count-first-requires c = omega (arith, c.requires.belongs.whole.size)

pub returns-clause-belongs : goal.returns-clause-belongs
returns-clause-belongs c = belongs-resized c.fill.new.pool c.fill.new.ram c.fill.new.self c.args.size c.requires.limit c.in_ok-fill.ensures.belongs

pub returns-clause-fits : goal.returns-clause-fits
returns-clause-fits c =
    let first = c.page_count-first.result in
    rw (← c.page_count-first.ensures.value, ← c.page_count-last.ensures.value)
    (omega (
      arith,
      c.in_ok-fill.ensures.fits,
      cost-size
          (with_absent (pages_of c.args.ram.now c.args.self.now.root) first (c.page_count-last.result - first) (zeroed c.args.perm)) c.args.size
          c.args.self.now.size,
    ))

pub returns-in_err-fill-clause-refused : goal.returns-in_err-fill-clause-refused
returns-in_err-fill-clause-refused c =
    let first = c.page_count-first.result in
    let p = err_from_is_err_and c.from_residual.result c.from_residual.ensures.1 in
    rw (p.1, ← c.page_count-first.ensures.value, ← c.page_count-last.ensures.value) (
      omega (
        arith,
        c.in_err-fill.ensures.refused.0,
        cost-size
            (with_absent (pages_of c.args.ram.now c.args.self.now.root) first (c.page_count-last.result - first) (zeroed c.args.perm)) c.args.size
            c.args.self.now.size,
      ),
      c.in_err-fill.ensures.refused.1,
    )
