-- Worked cases: what is watched, and where no row starts.
use Rattle.std.proofs.Common.{◌≡◌, ◌∙◌, ℕ, ◌-◌, ◌^◌, Bool, List, [], ◌∷◌, Option, None, Some, false, true, ap, refl}
use Rattle.std.specs.Prelude.{◌&&◌, not, is_some}
use Rattle.xv_session.specs.Stops.{is_before_stop}
use Rattle.gdb_target.specs.Forth.{current_of}
use Rattle.gdb_target.specs.Rows.{is_free, starts_row}
use Rattle.gdb_target.specs.Touches.{addresses_of, watches_uses}
use Rattle.gdb_target.specs.declared.target.Target.{Target}
use Rattle.gdb_target.specs.declared.target.Until.TheVariants.{StepOf}

two_bytes_are_watched : addresses_of (record { address = 0x1010; length = 2 }) ≡ 0x1010 ∷ (0x1011 ∷ [])
two_bytes_are_watched = refl

after_the_last_address_comes_0 : addresses_of (record { address = 2 ^ 64 - 1; length = 2 }) ≡ (2 ^ 64 - 1) ∷ (0 ∷ [])
after_the_last_address_comes_0 = refl

a_step_starts_no_row : (p : ℕ) (bytes : List ℕ) (t : Target) → starts_row (StepOf p) bytes t ≡ false
a_step_starts_no_row p bytes t = refl

where_nobody_runs_none_starts : (bytes : List ℕ) (t : Target) → current_of t ≡ None → is_free bytes t ≡ false
where_nobody_runs_none_starts bytes t nobody =
    ap (λ (current : Option ℕ). (is_some current && not (watches_uses t.points)) && not (is_before_stop t.points.breakpoints.items bytes t.run.session.machine.world)) nobody

while_reads_are_watched_none_starts : (p : ℕ) (bytes : List ℕ) (t : Target) → current_of t ≡ Some p → watches_uses t.points ≡ true → is_free bytes t ≡ false
while_reads_are_watched_none_starts p bytes t runs watches =
    ap (λ (current : Option ℕ). (is_some current && not (watches_uses t.points)) && not (is_before_stop t.points.breakpoints.items bytes t.run.session.machine.world)) runs
    ∙ ap (λ (b : Bool). not b && not (is_before_stop t.points.breakpoints.items bytes t.run.session.machine.world)) watches
