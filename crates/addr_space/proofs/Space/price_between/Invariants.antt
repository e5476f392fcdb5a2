use Rattle.addr_space.proofs.Prelude.{◌%◌, ◌*◌, ◌+◌, ◌-◌, ◌/◌, ◌<◌, ◌≡◌, ◌≤◌, None, pages_of, Rights, table_at, with_absent, zeroed}
use Rattle.addr_space.proofs.Growing.{cost}
use Rattle.addr_space.proofs.Space.price_between.Given as goal

abbrev pub invariant-pages : goal.invariant-pages
invariant-pages l = record {
  from : l.first ≤ l.number;
  in_range : l.number ≤ l.last;
  small : l.count ≤ 3 * (l.number - l.first);
  aligned : l.number < l.last → l.first < l.number → table_at l.ram l.self.root 2 (l.number / 512) ≡ None → l.number % 512 ≡ 0;
  span : l.number < l.last → l.first < l.number → table_at l.ram l.self.root 1 (l.number / 262144) ≡ None → l.number % 262144 ≡ 0;
  count : (perm : Rights) → cost (with_absent (pages_of l.ram l.self.root) l.first (l.number - l.first) (zeroed perm)) l.self.size ≡ cost (pages_of l.ram l.self.root) l.self.size + l.count;
}

abbrev pub decreases-pages : goal.decreases-pages
decreases-pages l = l.last - l.number
