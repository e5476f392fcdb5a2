-- Texts that are too long can't be loaded.
use Rattle.std.proofs.Common.{◌≡◌, ℕ, ◌+◌, ◌-◌, ◌<◌, ◌≤◌, ◌++◌, Bool, cond, true, false, List, [], ◌∷◌, Option, Some, None, refl, sym, ap, ◌∙◌, arith, length}
use Rattle.std.specs.Prelude.{Result, Ok, Err, is_some, nat_lt, option_map}
use Rattle.std.proofs.lemmas.Bool.{lt-ltb}
use Rattle.std.proofs.lemmas.List.{length-append}
use Rattle.xk_base.specs.declared.limits.TheConstants.{ARG_BYTES}
use Rattle.xk_base.specs.declared.errors.ExecError.{ExecError}
use Rattle.xk_base.specs.declared.errors.ExecError.TheVariants.{ArgsTooLong}
use Rattle.xk_base.specs.declared.program.Header.{Header}
use Rattle.xk_base.specs.declared.program.Segment.{Segment}
use Rattle.xk_base.specs.Loaded.{Loaded, ◌>>=◌, aligned, down, end_after, loaded, lowest, program_image, stack_pointer, text_places, with_texts}
use Rattle.xk_base.specs.ProgramFile.{page_up, header_of, segments_of}
use Rattle.exec_core.specs.ArgTexts.{terminated}
use Rattle.kernel_spec.specs.views.Programs.{program_named}
use Rattle.kernel_spec.specs.views.State.{ProgramFile}
use Rattle.call_reasons.specs.Facts.{file_named}
use Rattle.call_reasons.specs.Loading.{error_of, load_error}

-- texts that are so long lead so low
lowest_within : (texts : List (List ℕ)) (top low : ℕ) → top ≤ low + length (terminated texts) → lowest top (text_places top texts) ≤ low
lowest_within [] top low long = omega (arith, long)
lowest_within (text ∷ later) top low long =
    lowest_within later (down top (length text + 1)) low (omega (arith, long, length-append (text ++ 0 ∷ []) (terminated later), length-append text (0 ∷ [])))

-- the program that starts with these texts at a stack pointer, unless that is too low
abbrev unless_low : Bool → Loaded → Result Loaded ExecError
unless_low low l = cond low (Err ArgsTooLong) (Ok l)

module _ (file : List ℕ) (texts : List (List ℕ)) (long : ARG_BYTES < length (terminated texts)) where
  with_long : (header : Header) (segments : List Segment) → with_texts file header texts segments ≡ Err ArgsTooLong
  with_long header segments =
      let s = page_up (end_after 0 segments) in
      let sp = stack_pointer (s + 8192) texts in
      let low : sp < s + 4096 = omega (arith, lowest_within texts (s + 8192) (s + 4095) (omega (arith, long))) in
      ap (λ b. unless_low b (record { image = program_image file segments texts; pc = aligned header.entry; sp = sp; argc = length texts })) (lt-ltb sp (s + 4096) low)

  -- an error that comes with no texts comes with these as well
  low_error : (low : Bool) (l : Loaded) (e : ExecError) → Some e ≡ error_of (unless_low low l) → Some e ≡ Some ArgsTooLong
  low_error true l e is = is
  low_error false l e is = let no : ⊥ = cc in absurd no

  some_segments : (header : Header) (r : Result (List Segment) ExecError) (e : ExecError) → Some e ≡ error_of (r >>= with_texts file header []) → Some e ≡ error_of (r >>= with_texts file header texts)
  some_segments header (Err x) e is = is
  some_segments header (Ok segments) e is =
      low_error (nat_lt (stack_pointer (page_up (end_after 0 segments) + 8192) []) (page_up (end_after 0 segments) + 4096)) _ e is ∙ sym (ap error_of (with_long header segments))

  some_header : (r : Result Header ExecError) (e : ExecError) → Some e ≡ error_of (r >>= (λ header. segments_of file header >>= with_texts file header []))
      → Some e ≡ error_of (r >>= (λ header. segments_of file header >>= with_texts file header texts))
  some_header (Err x) e is = is
  some_header (Ok header) e is = some_segments header (segments_of file header) e is

  pub same_error : (e : ExecError) → Some e ≡ error_of (loaded file []) → Some e ≡ error_of (loaded file texts)
  same_error e is = some_header (header_of file) e is

  -- if no error comes with no texts, these are too long
  none_segments : (header : Header) (r : Result (List Segment) ExecError) → None ≡ error_of (r >>= with_texts file header []) → Some ArgsTooLong ≡ error_of (r >>= with_texts file header texts)
  none_segments header (Err x) is = let no : ⊥ = cc in absurd no
  none_segments header (Ok segments) is = sym (ap error_of (with_long header segments))

  none_header : (r : Result Header ExecError) → None ≡ error_of (r >>= (λ header. segments_of file header >>= with_texts file header []))
      → Some ArgsTooLong ≡ error_of (r >>= (λ header. segments_of file header >>= with_texts file header texts))
  none_header (Err x) is = let no : ⊥ = cc in absurd no
  none_header (Ok header) is = none_segments header (segments_of file header) is

  pub long_error : None ≡ error_of (loaded file []) → Some ArgsTooLong ≡ error_of (loaded file texts)
  long_error is = none_header (header_of file) is

-- ---- the program of a name

module _ (name : List ℕ) (programs : List ProgramFile) (o : Option (List (List ℕ))) where
  pub no_file : program_named name programs ≡ None → None ≡ load_error (file_named name programs) o
  unfolding load_error
  no_file none = sym (ap (λ (q : Option ProgramFile). load_error (option_map (λ (p : ProgramFile). p.bytes) q) o) none)

  pub of_file : (program : ProgramFile) (texts : List (List ℕ)) (r : Option ExecError) → program_named name programs ≡ Some program → o ≡ Some texts → r ≡ error_of (loaded program.bytes texts)
      → r ≡ load_error (file_named name programs) o
  unfolding load_error
  of_file program texts r is there told =
      told ∙ sym (ap (λ (q : Option ProgramFile). load_error (option_map (λ (p : ProgramFile). p.bytes) q) o) is ∙ ap (load_error (Some program.bytes)) there)

  -- the texts are too long
  pub of_long : (program : ProgramFile) (e : ExecError) → program_named name programs ≡ Some program → is_some o ≡ true
      → ((texts : List (List ℕ)) → o ≡ Some texts → ARG_BYTES < length (terminated texts))
      → ((texts : List (List ℕ)) → ARG_BYTES < length (terminated texts) → Some e ≡ error_of (loaded program.bytes texts)) → Some e ≡ load_error (file_named name programs) o
  of_long program e is there long told = by o refl there
    where
      by : (q : Option (List (List ℕ))) → o ≡ q → is_some q ≡ true → Some e ≡ load_error (file_named name programs) o
      by None none there = let no : ⊥ = cc in absurd no
      by (Some texts) some there = of_file program texts (Some e) is some (told texts (long texts some))
