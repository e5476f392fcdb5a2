use Rattle.addr_space.proofs.Prelude.{◌∙◌, rules}
use Rattle.addr_space.proofs.Freeing.{changed-join}
use Rattle.addr_space.proofs.Trades.{belongs-after}
use Rattle.addr_space.proofs.Space.free_from.Goals as goal

pub page_from-requires-clause-whole : goal.page_from-requires-clause-whole
page_from-requires-clause-whole c = c.pages.invariant.belongs.whole

pub pages-preserved : goal.pages-preserved
pages-preserved c = record {
  belongs = belongs-after _ _ _ _ _ _ c.pages.invariant.belongs c.free_page.ensures.changed;
  changed = changed-join _ _ _ _ _ _ _ _ _ c.pages.invariant.changed c.free_page.ensures.changed;
  size = c.free_page.ensures.size ∙ c.pages.invariant.size;
  ahead = search rules;
  in_range = search rules;
  entries = search rules;
  below = search rules;
  gone = search rules;
}
