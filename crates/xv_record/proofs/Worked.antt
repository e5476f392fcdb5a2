-- Worked cases of texts that are cut off, and of files that grow.
use Rattle.std.specs.Prelude.{◌≡◌, true, false, [], ◌∷◌, ◌++◌, codes, Some, refl}
use Rattle.xv_record.specs.Growing.{IsWholeFile, PutBehind, Stands}
use Rattle.xv_record.specs.Reading.{EndsIn, in_form}
use Rattle.xv_record.specs.declared.reading.Ending.TheVariants.{Whole, Longer}

a_return_before_each_break : in_form true (97 ∷ 10 ∷ 98 ∷ 10 ∷ []) ≡ 97 ∷ 13 ∷ 10 ∷ 98 ∷ 13 ∷ 10 ∷ []
a_return_before_each_break = refl

no_return : in_form false (97 ∷ 10 ∷ []) ≡ 97 ∷ 10 ∷ []
no_return = refl

the_last_line : EndsIn false Whole (codes "end\n")
the_last_line = refl

the_last_line_with_a_return : EndsIn true Whole (codes "end" ++ 13 ∷ 10 ∷ [])
the_last_line_with_a_return = refl

a_last_line_without_a_break_is_cut : EndsIn false Whole (codes "end") → ⊥
a_last_line_without_a_break_is_cut e = cc

more_behind_the_last_line : EndsIn false Longer (codes "end\nx")
more_behind_the_last_line = (codes "x", λ e. cc, refl)

-- one byte in the place of two, and three in the place of one
a_shorter_tail : PutBehind 2 (7 ∷ []) (Some (1 ∷ 2 ∷ 3 ∷ 4 ∷ [])) (Some (1 ∷ 2 ∷ 7 ∷ []))
a_shorter_tail = refl

a_longer_tail : PutBehind 1 (7 ∷ 8 ∷ 9 ∷ []) (Some (1 ∷ 2 ∷ [])) (Some (1 ∷ 7 ∷ 8 ∷ 9 ∷ []))
a_longer_tail = refl

a_head_stands : Stands (Some (1 ∷ 2 ∷ codes "end\n")) 2 (1 ∷ 2 ∷ []) []
a_head_stands = record { size = refl; bytes = refl }

a_record_without_events : IsWholeFile (Some (1 ∷ 2 ∷ codes "end\n")) (1 ∷ 2 ∷ []) []
a_record_without_events = refl
