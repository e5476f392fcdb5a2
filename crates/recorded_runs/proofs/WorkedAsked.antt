-- Worked cases of the number of events that a text writes, and of options among words.
use Rattle.std.proofs.Common.{◌≡◌, None, Some, arith, false, refl, rules, true}
use Rattle.std.specs.Prelude.{codes}
use Rattle.recorded_runs.specs.Asked.{IsNumber, IsWritten, is_end, is_option}

pub seven : IsWritten (Some (codes "7")) (Some 7)
seven = (((omega arith, (omega arith, tt)), omega arith), refl)

-- a plus may stand before it, and zeros
pub seven_behind_a_plus : IsWritten (Some (codes "+7")) (Some 7)
seven_behind_a_plus = (((omega arith, (omega arith, tt)), omega arith), refl)

pub seven_behind_a_zero : IsWritten (Some (codes "07")) (Some 7)
seven_behind_a_zero = (((omega arith, (omega arith, (omega arith, tt))), omega arith), refl)

-- no text writes another number than its own
pub seven_is_not_eight : IsWritten (Some (codes "7")) (Some 8) → ⊥
seven_is_not_eight w = absurd (omega (arith, w.1))

-- the greatest number, and the next one, which is none
pub the_greatest : IsNumber (codes "18446744073709551615")
the_greatest = ((omega arith, search rules), omega arith)

pub one_more_than_the_greatest_is_none : IsNumber (codes "18446744073709551616") → ⊥
one_more_than_the_greatest_is_none n = absurd (omega (arith, n.1))

-- digits with something behind them are none, and so is no text at all, and a plus alone
pub a_letter_behind_it_is_none : IsNumber (codes "7x") → ⊥
a_letter_behind_it_is_none n = absurd (omega (arith, n.0.1.1.0))

pub no_text_is_none : IsNumber (codes "") → ⊥
no_text_is_none n = absurd (omega (arith, n.0.0))

pub a_plus_alone_is_none : IsNumber (codes "+") → ⊥
a_plus_alone_is_none n = absurd (omega (arith, n.0.0))

-- if no number was written, none is asked for
pub none_is_none : IsWritten None None
none_is_none = tt

pub none_is_not_zero : IsWritten None (Some 0) → ⊥
none_is_not_zero w = w

-- an option is its name behind two dashes, alone, or with a value, which may be nothing
pub an_option_alone : is_option (codes "--rounds") (codes "rounds") ≡ true
an_option_alone = refl

pub an_option_with_a_value : is_option (codes "--rounds=5") (codes "rounds") ≡ true
an_option_with_a_value = refl

pub an_option_with_an_empty_value : is_option (codes "--rounds=") (codes "rounds") ≡ true
an_option_with_an_empty_value = refl

-- no word is an option without the dashes, with less of the name, or with more
pub a_file_is_none : is_option (codes "rounds=5") (codes "rounds") ≡ false
a_file_is_none = refl

pub less_of_the_name_is_none : is_option (codes "--round=5") (codes "rounds") ≡ false
less_of_the_name_is_none = refl

pub more_of_the_name_is_none : is_option (codes "--rounds5") (codes "rounds") ≡ false
more_of_the_name_is_none = refl

-- two dashes alone end the options
pub two_dashes_end_them : is_end (codes "--") ≡ true
two_dashes_end_them = refl

pub an_option_ends_none : is_end (codes "--at") ≡ false
an_option_ends_none = refl
