-- Worked cases of a record that is kept while its session goes on.
use Rattle.std.proofs.Common.{◌≡◌, ℕ, ◌+◌, List, [], ◌∷◌, ◌++◌, ap, arith, length, Some, None, refl}
use Rattle.std.proofs.lemmas.List.{length-append}
use Rattle.std.specs.Prelude.{codes}
use Rattle.kernel_spec.specs.runs.Run.{Run, Tick}
use Rattle.xv_record.specs.Text.{events_text_of, line_text}
use Rattle.xv_record.specs.Told.{end_text}
use Rattle.xv_record.specs.declared.line.Line.TheVariants as line
use Rattle.xv_live.specs.Keeps.{Keeps}

-- two Runs, of which more may come, so that their line doesn't stand
pub two_runs_that_may_go_on : Keeps (Some ((codes "head\n" ++ (line_text (line.Run 2) ++ [])) ++ end_text)) (codes "head\n") 5 0 (Run ∷ Run ∷ [])
two_runs_that_may_go_on = record {
  over = [];
  last = line.Run 2 ∷ [];
  those = refl;
  whole = refl;
  first = refl;
  within = omega arith;
  stands = record { size = refl; bytes = refl };
}

-- behind a tick they stand, and the tick doesn't
pub runs_behind_which_a_tick_came : Keeps None (codes "head\n") (length (codes "head\n" ++ events_text_of (line.Run 2 ∷ []))) 2 (Run ∷ Run ∷ Tick ∷ [])
runs_behind_which_a_tick_came = record {
  over = line.Run 2 ∷ [];
  last = line.Tick 1 ∷ [];
  those = refl;
  whole = tt;
  first = refl;
  within = omega arith;
  stands = record { size = refl; bytes = tt };
}

-- a file whose record isn't closed keeps none
pub an_open_record_is_not_kept : Keeps (Some (codes "head\n")) (codes "head\n") 5 0 [] → ⊥
an_open_record_is_not_kept k =
    let lines : List ℕ = events_text_of (k.over ++ k.last) in
    let n : 5 ≡ length ((codes "head\n" ++ lines) ++ end_text) = ap (λ (t : List ℕ). length t) k.whole in
    let a : length ((codes "head\n" ++ lines) ++ end_text) ≡ length (codes "head\n" ++ lines) + 4 = length-append (codes "head\n" ++ lines) end_text in
    let b : length (codes "head\n" ++ lines) ≡ 5 + length lines = length-append (codes "head\n") lines in
    absurd (omega (arith, n, a, b))

-- no more events stand than there are
pub more_events_than_there_are_do_not_stand : Keeps None (codes "head\n") 5 1 [] → ⊥
more_events_than_there_are_do_not_stand k = absurd (omega (arith, k.within))
