-- Kill: it is the step that its row tells.
use Rattle.kernel_spec.proofs.Prelude.{ℕ, ◌||◌, ◌∙◌, ◌≡◌, Alive, ap, Bool, Call, Called, child_of, cond, done, false, get, goes_on, is_this, keys, kill_state, list_any, Live, live, live_part, marked}
use Rattle.kernel_spec.proofs.Prelude.{nat_eq, None, not, Option, option_map, own_state, pos, Process, refl, Some, State, sym, true, view, view_of, with_a0, word}
use Rattle.kernel_spec.proofs.steps.MapsAfterChange.{get_same}
use Rattle.kernel_spec.proofs.steps.ViewsAfterSetLive.{same_child, same_keys, live-set_live_there}
use Rattle.kernel_spec.proofs.steps.TableTells.{Leaves, own_table_tells}
use Rattle.kernel_spec.proofs.steps.GoneIsItsRow.{turn}
use Rattle.kernel_spec.proofs.steps.OrphansKeepKeys.{get-change, keys-change}
use Rattle.kernel_spec.proofs.rows.RowParts.{killed_by, unless}
use Rattle.kernel_spec.proofs.Common.{alive_part, marked_again, marked_child, or_false}

module _ (s : State) (p q : ℕ) (old : Live) (was : get s.processes p ≡ Some (Alive old)) (c : Call) where
  abbrev pub killer : Live
  killer = record old { regs = with_a0 old.regs (word (pos 0)); call = None; killed = old.killed || nat_eq q p }

  abbrev pub before : State
  before = own_state p killer s

  abbrev pub after : State
  after = kill_state p killer q s

  pub process_at : (r : ℕ) → get after.processes r ≡ cond (nat_eq r q) (option_map marked (get before.processes r)) (get before.processes r)
  process_at r = get-change marked marked_again before.processes q r (get before.processes q) refl

  children_at : (m r : ℕ) → child_of m (get after.processes r) ≡ child_of m (get s.processes r)
  children_at m r = ap (child_of m) (process_at r) ∙ marked_child m (nat_eq r q) (get before.processes r) ∙ same_child s p old killer was refl m r

  pids_after : keys after.processes ≡ keys s.processes
  pids_after = keys-change marked marked_again before.processes q (get before.processes q) refl ∙ same_keys s p old killer was refl

  pub kill_own : not (list_any (nat_eq q) (keys s.processes)) ≡ false → killed_by c (view_of s p old) q ≡ record (goes_on (Called c.number (pos 0)) (view_of after p killer)) { marked = Some q }
  unfolding view_of
  kill_own known =
      ap (λ (b : Bool). unless b c (view_of s p old) (λ _. record (done c (pos 0) (record (view_of s p old) { killed = old.killed || nat_eq q p })) { marked = Some q })) known
      ∙ (λ i. record (goes_on (Called c.number (pos 0)) (record (view_of after p killer) { children = λ r. sym (children_at p r) i; pids = sym pids_after i })) { marked = Some q })

  marked_live : (m : Live) (b : Bool) → live_part (cond b (option_map marked (Some (Alive m))) (Some (Alive m))) ≡ Some (record m { killed = m.killed || b })
  marked_live m true = λ i. Some (record m { killed = or_true m.killed i })
    where
      or_true : (b : Bool) → true ≡ (b || true)
      or_true true = refl
      or_true false = refl
  marked_live m false = λ i. Some (record m { killed = or_false m.killed i })

  pub live_after : (r : ℕ) (m : Live) → live before r ≡ Some m → live after r ≡ Some (record m { killed = m.killed || is_this r (Some q) })
  live_after r m is =
      ap live_part (process_at r)
      ∙ ap (λ (o : Option Process). live_part (cond (nat_eq r q) (option_map marked o) o)) (alive_part (get before.processes r) m is)
      ∙ marked_live m (nat_eq r q)
      ∙ ap (λ (b : Bool). Some (record m { killed = m.killed || b })) (turn r q)

  pub kill_leaves : Leaves s after (view_of s p old) (record (goes_on (Called c.number (pos 0)) (view_of after p killer)) { marked = Some q })
  unfolding view_of
  kill_leaves = record {
    tells = own_table_tells s after p old (ap live_part was) (λ f. refl);
    spares = record { file = λ f other h. refl; pipe = λ j other h. refl; kinds = λ f other. refl };
    keeps = λ r m other is. (m.parent, live_after r m (live-set_live_there s p old killer was refl r other ∙ is));
    children = λ m l other is r. children_at m r;
    pids = refl;
    console = refl;
    next_pid = refl;
    free = refl;
    clock = refl;
    programs = refl;
  }

  twice : (b : Bool) → ((old.killed || b) || b) ≡ (old.killed || b)
  twice b = by old.killed b
    where
      by : (a b : Bool) → ((a || b) || b) ≡ (a || b)
      by true b = refl
      by false true = refl
      by false false = refl

  pub view_killer : view after p ≡ Some (view_of after p killer)
  view_killer = ap (option_map (view_of after p)) (live_after p killer (ap live_part (get_same s.processes p (Alive killer))) ∙ (λ i. Some (record killer { killed = twice (nat_eq q p) i })))
