-- The words that this crate's proofs say: each is handed on from where it is defined.
pub use Rattle.std.proofs.Common.{[], ℕ, ◌++◌, ◌+◌, ◌<◌, ◌^◌, ◌∙◌, ◌∷◌, ◌≡◌, ◌≢◌, ◌≤◌, ap, arith, Bool, drop, false, get_or, inl, inr, length, length-append, List, lit<, map, None, refl, rules, Some}
pub use Rattle.std.proofs.Common.{subst, sym, take, true}
pub use Rattle.std.proofs.lemmas.Bool.{and_from, and_parts, cases_Bool, cond-false, cond-true, eqb-true, false_from_ne_true, false≢true, lt-ltb, ltb-true, ne_eqb, or_parts, true≢false}
pub use Rattle.std.proofs.lemmas.Iterator.Consumers.{map_from_collect}
pub use Rattle.std.proofs.lemmas.Iterator.Splits.{YieldsList-from_lines, YieldsList-from_slice_split}
pub use Rattle.std.proofs.lemmas.List.{drop_all, take-append-drop, take-map, take_more}
pub use Rattle.std.proofs.lemmas.Str.Ascii.{IsAscii-cons, trim_ascii_is}
pub use Rattle.std.specs.List.{list_all, list_any, position_or_len, starts_with}
pub use Rattle.std.specs.Prelude.{◌&&◌, ◌==◌, ◌↔◌, codes, cond, count_by, eqb, flat_map, if◌then◌else◌, is_none, IsTrue, min, nat_lt, slice_index, String, string_bytes, suc, sum, sum_by, zero}
pub use Rattle.std.specs.Str.Parse.{AllDigits, digits_value, IsNumeral, without_leading_plus}
pub use Rattle.grade_sheets.specs.Answers.{asks, asks_by_number, question_of, says, short_answer, whole_answer}
pub use Rattle.grade_sheets.specs.Grades.{AreAnswered, AreEachAnswered, AreMarked, IsAnswered, IsMarked}
pub use Rattle.grade_sheets.specs.Numbers.{AreRising, ends_line, if_number, is_numeral, number_in, number_of, numbers_in}
pub use Rattle.grade_sheets.specs.Points.{asked_for, given_for, points_for, points_of_exercise, points_of_runs}
pub use Rattle.grade_sheets.specs.Predictions.{begins_note, first_word, if_said, lines_if, with_end}
pub use Rattle.grade_sheets.specs.Standings.{first_refusal, first_standing, has, refusal_or}
pub use Rattle.grade_sheets.specs.declared.judging.Mark.{Mark}
