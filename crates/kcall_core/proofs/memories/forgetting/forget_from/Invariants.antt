use Rattle.kcall_core.proofs.Prelude.{ℕ, ◌<◌, ◌≡◌, ◌≤◌, FitsBut, is_between, kept_frame, List}
use Rattle.kcall_core.proofs.memories.forgetting.forget_from.Given as goal

abbrev pub invariant-loop-page : goal.invariant-loop-page
invariant-loop-page l = record {
  regs : l.hart.regs ≡ l.initial.hart.regs;
  root : l.hart.root ≡ l.initial.hart.root;
  ahead : l.first ≤ l.page;
  fits : (ram : List (List ℕ)) (root : ℕ) → FitsBut ram root l.initial.hart.cache (is_between l.first l.end) → FitsBut ram root l.hart.cache (is_between l.page l.end);
  kept : (page : ℕ) → page < l.first → kept_frame l.hart.cache page ≡ kept_frame l.initial.hart.cache page;
}
