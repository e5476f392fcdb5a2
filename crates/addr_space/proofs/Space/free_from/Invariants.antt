use Rattle.addr_space.proofs.Prelude.{ℕ, ◌-◌, ◌<◌, ◌≡◌, ◌≤◌, Belongs, Changed, frame_of, None, page_at, page_entry}
use Rattle.addr_space.proofs.Space.free_from.Given as goal

abbrev pub invariant-pages : goal.invariant-pages
invariant-pages l = record {
  belongs : Belongs l.pool l.ram l.self;
  changed : Changed l.initial.pool l.initial.ram l.initial.self l.pool l.ram l.self;
  size : l.self.size ≡ l.initial.self.size;
  ahead : l.first ≤ l.from;
  in_range : l.from ≤ 67108864;
  entries : (u : ℕ) → u < l.first → page_entry l.ram l.initial.self.root u ≡ page_entry l.initial.ram l.initial.self.root u;
  below : (u : ℕ) → u < l.first → page_at l.ram l.initial.self.root u ≡ page_at l.initial.ram l.initial.self.root u;
  gone : (u : ℕ) → l.first ≤ u → u < l.from → frame_of (page_entry l.ram l.initial.self.root u) ≡ None;
}

abbrev pub decreases-pages : goal.decreases-pages
decreases-pages l = 67108864 - l.from
