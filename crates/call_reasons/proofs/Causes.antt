-- The error that is told of an exec is that of its loading.
use Rattle.std.proofs.Common.{◌≡◌, ℕ, not, Bool, true, false, List, [], ◌∷◌, Option, Some, None, refl, sym, ap, ◌∙◌}
use Rattle.std.specs.Prelude.{Result, Ok, Err, is_none, is_some, option_map}
use Rattle.std.proofs.lemmas.Option.{none-some, same_Some}
use Rattle.xk_base.specs.declared.errors.ExecError.{ExecError}
use Rattle.xk_base.specs.declared.errors.ExecError.TheVariants as errors
use Rattle.xk_base.specs.declared.limits.TheConstants.{ARG_BYTES, MAXARG, MAXPATH}
use Rattle.xk_base.specs.Loaded.{Loaded, loaded}
use Rattle.proc_table.specs.declared.process.Call.{Call}
use Rattle.kernel_spec.specs.rows.Buffers as buffers
use Rattle.kernel_spec.specs.rows.Buffers.{no_slashes}
use Rattle.kernel_spec.specs.rows.Calls.{Exec}
use Rattle.kernel_spec.specs.views.Programs.{program_named}
use Rattle.kernel_spec.specs.views.State.{ProgramFile}
use Rattle.kernel_spec.specs.views.View.{View}
use Rattle.call_reasons.specs.Facts.{facts_of, file_named}
use Rattle.call_reasons.specs.Laws.{ErrorsAreCauses, FailsToLoad, error_told}
use Rattle.call_reasons.specs.Loading.{error_of, load_error}
use Rattle.call_reasons.specs.Reasons.{first, is_short, of_loading, reason_by, reason_of, tests}
use Rattle.call_reasons.specs.Texts.{name_in, text_at, texts_at}
use Rattle.call_reasons.specs.declared.reason.Reason.{Reason}
use Rattle.call_reasons.specs.declared.reason.Reason.TheVariants.{NoPath, NoList, NoProgram, NoFrames}
use Rattle.call_reasons.proofs.Told.{Follows, text_follows, texts_follow}

module _ (c : Call) (v : View) (short : Bool) (reason : Reason) (error : ExecError) (told : error_told reason ≡ Some error) where
  -- the reason is this one
  told_by : (other : Reason) → Some other ≡ Some reason → error_told other ≡ Some error
  told_by other is = ap error_told (same_Some other reason is) ∙ told

  -- it isn't one of these
  untold_by : (other : Reason) → error_told other ≡ None → Some other ≡ Some reason → ⊥
  untold_by other none is = none-some error (sym none ∙ told_by other is)

  untold_last : (free : ℕ) (b : Bool) → first ((NoFrames free, b) ∷ []) ≡ Some reason → ⊥
  untold_last free true is = untold_by (NoFrames free) refl is
  untold_last free false is = none-some reason is

  of_error : (o : Option ExecError) → first (of_loading c (facts_of v) short o) ≡ Some reason → o ≡ Some error
  of_error None is = absurd (untold_last v.free short is)
  of_error (Some errors.NotElf) is = told_by _ is
  of_error (Some (errors.BadSegment number)) is = told_by _ is
  of_error (Some errors.TooManyArgs) is = absurd (untold_last v.free short is)
  of_error (Some errors.ArgsTooLong) is = told_by _ is
  of_error (Some errors.NoFrames) is = absurd (untold_last v.free short is)

  of_result : (r : Result Loaded ExecError) → error_of r ≡ Some error → r ≡ Err error
  of_result (Ok l) is = absurd (none-some error is)
  of_result (Err e) is = ap Err (same_Some e error is)

  module _ (path : List ℕ) (path_is : buffers.text_at MAXPATH v.image c.a0 ≡ Some path) where
    by_program : (texts : List (List ℕ)) → buffers.texts_at MAXARG ARG_BYTES v.image c.a1 ≡ Some texts → (o : Option ProgramFile) → program_named (no_slashes path) v.programs ≡ o
        → first ((NoProgram, not (is_some o)) ∷ of_loading c (facts_of v) short (load_error (option_map (λ (p : ProgramFile). p.bytes) o) (Some texts))) ≡ Some reason → FailsToLoad c v error
    unfolding load_error
    by_program texts texts_is None program_is is = absurd (untold_by NoProgram refl is)
    by_program texts texts_is (Some program) program_is is = record {
      path = path;
      texts = texts;
      program = program;
      path_is = path_is;
      texts_is = texts_is;
      program_is = program_is;
      fails = of_result (loaded program.bytes texts) (of_error (error_of (loaded program.bytes texts)) is);
    }

    by_texts : (o : Option (List (List ℕ))) → Follows v o (buffers.texts_at MAXARG ARG_BYTES v.image c.a1)
        → first ((NoList c.a1, not (is_some o)) ∷ (NoProgram, not (is_some (program_named (no_slashes path) v.programs)))
        ∷ of_loading c (facts_of v) short (load_error (file_named (no_slashes path) v.programs) o)) ≡ Some reason → FailsToLoad c v error
    by_texts None follows is = absurd (untold_by (NoList c.a1) refl is)
    by_texts (Some texts) follows is = by_program texts follows (program_named (no_slashes path) v.programs) refl is

  by_path : (o : Option (List ℕ)) → Follows v o (buffers.text_at MAXPATH v.image c.a0)
      → first ((NoPath c.a0, is_none o) ∷ (NoList c.a1, not (is_some (texts_at (facts_of v) MAXARG ARG_BYTES c.a1))) ∷ (NoProgram, not (is_some (program_named (name_in o) v.programs)))
      ∷ of_loading c (facts_of v) short (load_error (file_named (name_in o) v.programs) (texts_at (facts_of v) MAXARG ARG_BYTES c.a1))) ≡ Some reason → FailsToLoad c v error
  by_path None follows is = absurd (untold_by (NoPath c.a0) refl is)
  by_path (Some path) follows is = by_texts path follows (texts_at (facts_of v) MAXARG ARG_BYTES c.a1) (texts_follow v MAXARG ARG_BYTES c.a1) is

  of_exec : first (tests Exec c (facts_of v) short) ≡ Some reason → FailsToLoad c v error
  unfolding tests
  of_exec is = by_path (text_at (facts_of v) MAXPATH c.a0) (text_follows v MAXPATH c.a0) is

pub errors_are_causes : ErrorsAreCauses
unfolding reason_of
errors_are_causes c v reason error exec is told =
    of_exec c v (is_short Exec c v) reason error told (sym (ap (λ o. reason_by o c (facts_of v) (λ r. is_short r c v)) exec) ∙ is)
