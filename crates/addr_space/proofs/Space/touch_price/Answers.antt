use Rattle.addr_space.proofs.Prelude.{◌∙◌, ap, data_rights, image_of, pages_at, price, sym}
use Rattle.addr_space.proofs.Touching.{filled-brought, run-of-range}
use Rattle.addr_space.proofs.Space.touch_price.Goals as goal

pub returns : goal.returns
returns c =
    let run = c.pages_below-pages.ensures in
    sym (ap price (filled-brought (pages_at c.args.address c.args.len) (image_of c.args.ram.now c.args.self.now) c.pages_below-pages.result.first c.pages_below-pages.result.end
    (run-of-range c.args.self.now.size c.args.address c.args.len c.pages_below-pages.result.first c.pages_below-pages.result.end run.order run.inside
    run.before run.behind))) ∙ c.price_between.ensures data_rights
