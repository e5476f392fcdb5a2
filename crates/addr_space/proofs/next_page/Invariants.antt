use Rattle.addr_space.proofs.Prelude.{ℕ, ◌-◌, ◌<◌, ◌≡◌, ◌≤◌, frame_of, None, page_entry}
use Rattle.addr_space.proofs.next_page.Given as goal

abbrev pub invariant-pages : goal.invariant-pages
invariant-pages l = record {
  from : l.from ≤ l.number;
  in_range : l.number ≤ 67108864;
  none : (u : ℕ) → l.from ≤ u → u < l.number → frame_of (page_entry l.ram l.root u) ≡ None;
}

abbrev pub decreases-pages : goal.decreases-pages
decreases-pages l = 67108864 - l.number
