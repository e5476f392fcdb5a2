use Rattle.addr_space.proofs.Prelude.{◌+◌, ◌-◌, ◌<◌, ◌∙◌, ◌≡◌, ◌≤◌, ap, brought, filled, free_in, image_of, length, pages_at, price, subst, Unchanged}
use Rattle.std.specs.Result.{IfOk, IfErr}
use Rattle.addr_space.proofs.Touching.{filled-brought, run-of-range}
use Rattle.addr_space.proofs.Space.touch.Goals.{After-fill}
use Rattle.addr_space.proofs.Space.touch.Goals as goal

-- the run of pages is what was to be touched
same : (c : After-fill) → filled (image_of c.args.ram.now c.args.self.now) c.pages_below-pages.result.first
    (c.pages_below-pages.result.end - c.pages_below-pages.result.first) c.data.result ≡ brought (pages_at c.args.address c.args.len)
    (image_of c.args.ram.now c.args.self.now)
same c =
    let run = c.pages_below-pages.ensures in
    ap (filled (image_of c.args.ram.now c.args.self.now) c.pages_below-pages.result.first (c.pages_below-pages.result.end - c.pages_below-pages.result.first)) c.data.ensures
    ∙ filled-brought (pages_at c.args.address c.args.len) (image_of c.args.ram.now c.args.self.now) c.pages_below-pages.result.first c.pages_below-pages.result.end
    (run-of-range c.args.self.now.size c.args.address c.args.len c.pages_below-pages.result.first c.pages_below-pages.result.end run.order run.inside run.before run.behind)

pub returns-clause-image : goal.returns-clause-image
returns-clause-image c = subst (λ i. IfOk c.fill.result (λ _. image_of c.fill.new.ram c.fill.new.self ≡ i)) (same c) c.fill.ensures.image

pub returns-clause-fits : goal.returns-clause-fits
returns-clause-fits c = subst (λ i. IfOk c.fill.result (λ _. price i ≤ price (image_of c.args.ram.now c.args.self.now) + length (free_in c.args.pool.now c.args.ram.now))) (same c) c.fill.ensures.fits

pub returns-clause-refused : goal.returns-clause-refused
returns-clause-refused c = subst (λ i. IfErr c.fill.result
    (λ _. (price (image_of c.args.ram.now c.args.self.now) + length (free_in c.args.pool.now c.args.ram.now) < price i)
    × Unchanged c.args.pool.now c.args.ram.now c.args.self.now c.fill.new.pool c.fill.new.ram c.fill.new.self)) (same c) c.fill.ensures.refused
