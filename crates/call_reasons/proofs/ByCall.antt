-- What is told of a call, by the call and by the process.
use Rattle.std.proofs.Common.{◌≡◌, ℕ, true, false, cond, Option, Some, None, refl, sym, ap, ◌∙◌}
use Rattle.std.specs.Prelude.{ℤ, is_none, option_map}
use Rattle.std.specs.Option.{option_and_then}
use Rattle.std.specs.Ordering.{int_eq}
use Rattle.proc_table.specs.declared.process.Call.{Call}
use Rattle.kernel_calls.specs.Rows.{row_for}
use Rattle.kernel_calls.specs.Table.{call_at}
use Rattle.kernel_calls.specs.declared.call.KernelCall.{KernelCall}
use Rattle.kernel_calls.proofs.Found.{same_numbers}
use Rattle.kernel_spec.specs.rows.Calls.{row_of}
use Rattle.kernel_spec.specs.views.Processes.{Live}
use Rattle.kernel_spec.specs.views.State.{State, live}
use Rattle.kernel_spec.specs.views.View.{View, view}
use Rattle.kernel_spec.specs.views.Words.{minus_one}
use Rattle.kcall_core.specs.Observers.{size_of}
use Rattle.call_reasons.specs.Facts.{Facts, facts_of}
use Rattle.kernel_spec.specs.rows.Calls as rows
use Rattle.call_reasons.specs.Reasons.{first, of_close, of_dup, of_exec, of_kill, of_open, of_pipe, of_read, of_sbrk, of_sbrklazy, of_wait, of_write, reason_by, reason_told, tests}
use Rattle.call_reasons.specs.Shown.{facts_in, reason_in}
use Rattle.call_reasons.specs.declared.reason.Reason.{Reason}
use Rattle.call_reasons.specs.declared.reason.Reason.TheVariants.{NoRoom}
use Rattle.call_reasons.proofs.Rows.{other_answer}
use Rattle.call_reasons.proofs.Viewed.{none_told, told_same}

-- the row of a call has its reason
pub reason_at : (c : Call) (f : Facts) (k : Option KernelCall) (r : Option Reason) → k ≡ call_at c.number → r ≡ reason_by (option_map row_for k) c f (λ r. true)
    → r ≡ reason_by (row_of c.number) c f (λ r. true)
reason_at c f k r is told = told ∙ ap (λ o. reason_by o c f (λ r. true)) (ap (option_map row_for) is ∙ sym (same_numbers c.number))

-- the tests of each row
module _ (c : Call) (f : Facts) (r : Option Reason) where
  pub fork_told : r ≡ Some (NoRoom f.free) → r ≡ reason_by (Some rows.Fork) c f (λ r. true)
  unfolding tests
  fork_told e = e

  pub wait_told : r ≡ first (of_wait c f true) → r ≡ reason_by (Some rows.Wait) c f (λ r. true)
  unfolding tests
  wait_told e = e

  pub pipe_told : r ≡ first (of_pipe c f true) → r ≡ reason_by (Some rows.Pipe_row) c f (λ r. true)
  unfolding tests
  pipe_told e = e

  pub read_told : r ≡ first (of_read c f true) → r ≡ reason_by (Some rows.Read) c f (λ r. true)
  unfolding tests
  read_told e = e

  pub kill_told : r ≡ first (of_kill c f true) → r ≡ reason_by (Some rows.Kill) c f (λ r. true)
  unfolding tests
  kill_told e = e

  pub dup_told : r ≡ first (of_dup c f true) → r ≡ reason_by (Some rows.Dup) c f (λ r. true)
  unfolding tests
  dup_told e = e

  pub sbrk_told : r ≡ first (of_sbrk c f true) → r ≡ reason_by (Some rows.Sbrk) c f (λ r. true)
  unfolding tests
  sbrk_told e = e

  pub write_told : r ≡ first (of_write c f true) → r ≡ reason_by (Some rows.Write) c f (λ r. true)
  unfolding tests
  write_told e = e

  pub close_told : r ≡ first (of_close c f true) → r ≡ reason_by (Some rows.Close) c f (λ r. true)
  unfolding tests
  close_told e = e

  pub sbrklazy_told : r ≡ first (of_sbrklazy c f true) → r ≡ reason_by (Some rows.Sbrklazy) c f (λ r. true)
  unfolding tests
  sbrklazy_told e = e

  pub exit_untold : r ≡ None → r ≡ reason_by (Some rows.Exit) c f (λ r. true)
  unfolding tests
  exit_untold e = e

  pub exec_told : r ≡ first (of_exec c f true) → r ≡ reason_by (Some rows.Exec) c f (λ r. true)
  unfolding tests
  exec_told e = e

  pub getpid_untold : r ≡ None → r ≡ reason_by (Some rows.Getpid) c f (λ r. true)
  unfolding tests
  getpid_untold e = e

  pub sleep_untold : r ≡ None → r ≡ reason_by (Some rows.Sleep) c f (λ r. true)
  unfolding tests
  sleep_untold e = e

  pub uptime_untold : r ≡ None → r ≡ reason_by (Some rows.Uptime) c f (λ r. true)
  unfolding tests
  uptime_untold e = e

  pub open_told : r ≡ first (of_open c f true) → r ≡ reason_by (Some rows.Open) c f (λ r. true)
  unfolding tests
  open_told e = e

module _ (s : State) (p : ℕ) (c : Call) (value : ℤ) where
  pub none_of_other : int_eq value minus_one ≡ false → None ≡ reason_in s p c value
  none_of_other other = by (view s p)
    where
      by : (o : Option View) → None ≡ option_and_then (λ v. reason_told c (facts_of v) value) o
      by None = refl
      by (Some v) = sym (other_answer c (facts_of v) value other)

  none_lives : (o : Option Live) → is_none (option_map (λ (l : Live). l.image.size) o) ≡ true → o ≡ None
  none_lives None e = refl
  none_lives (Some l) e = let no : ⊥ = cc in absurd no

  pub none_of_dead : is_none (size_of s p) ≡ true → None ≡ reason_in s p c value
  none_of_dead dead = sym (none_told s p c value (none_lives (live s p) dead))

  told_minus_one : (f : Facts) → value ≡ minus_one → reason_by (row_of c.number) c f (λ r. true) ≡ reason_told c f value
  unfolding reason_told
  told_minus_one f is = sym (ap (λ z. cond (int_eq z minus_one) (reason_by (row_of c.number) c f (λ r. true)) None) is)

  pub told_of_live : value ≡ minus_one → is_none (size_of s p) ≡ false → reason_by (row_of c.number) c (facts_in s p) (λ r. true) ≡ reason_in s p c value
  told_of_live is lives = by (live s p) refl lives
    where
      by : (o : Option Live) → live s p ≡ o → is_none (option_map (λ (l : Live). l.image.size) o) ≡ false → reason_by (row_of c.number) c (facts_in s p) (λ r. true) ≡ reason_in s p c value
      by None dead e = let no : ⊥ = cc in absurd no
      by (Some l) there e = told_minus_one (facts_in s p) is ∙ told_same s p l there c value
