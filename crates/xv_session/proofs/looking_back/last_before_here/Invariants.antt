use Rattle.std.proofs.Common.{◌≡◌, ◌⊎◌, ℕ, None}
use Rattle.xv_session.proofs.looking_back.last_before_here.Given as goal

-- nothing was looked for yet, or nothing was found
abbrev pub invariant-windows : goal.invariant-windows
invariant-windows g l = record {
  stays : g.L.LooksBack.stays l.fn.looker l.looker;
  vain : (l.looker ≡ l.fn.looker) ⊎ ((before : ℕ) × g.L.LooksBack.looked l.goal before l.fn.looker l.looker None);
}
