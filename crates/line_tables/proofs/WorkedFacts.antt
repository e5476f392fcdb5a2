-- Worked cases of what counts of the rows of a table.
use Rattle.std.proofs.Common.{◌≡◌, ℕ, List, [], ◌∷◌, true, false, refl}
use Rattle.dwarf.specs.declared.entry.Text.TheVariants.{Here, LineStrings, Strings}
use Rattle.line_tables.specs.declared.fact.FrameBase.TheVariants.{Sp, S0}
use Rattle.line_tables.specs.declared.fact.Frame.{Frame}
use Rattle.line_tables.specs.declared.fact.Fact.{Fact}
use Rattle.line_tables.specs.declared.fact.Fact.TheVariants.{Line, NoLine, Framed, NoFrame}
use Rattle.line_tables.specs.declared.fact.Told.{Told}
use Rattle.line_tables.specs.Facts.{by_address, facts_of, is_same_fact, is_same_text}

abbrev line : ℕ → Fact
line n = Line (record { file = LineStrings 0; line = n })

abbrev row : ℕ → ℕ → Told
row address n = record { address = address; is_end = false; fact = line n }

abbrev end : ℕ → Told
end address = record { address = address; is_end = true; fact = NoLine }

-- rows stand in the order of addresses, whatever their order was
pub in_order : by_address (row 8 3 ∷ end 12 ∷ row 4 2 ∷ end 8 ∷ []) ≡ (4, line 2) ∷ (8, line 3) ∷ (12, NoLine) ∷ []
in_order = refl

-- of two rows of an address the later one counts
pub later_row : by_address (row 4 2 ∷ row 4 7 ∷ []) ≡ (4, line 7) ∷ []
later_row = refl

-- an end counts neither before a row of its address nor after it
pub end_before : by_address (end 4 ∷ row 4 2 ∷ []) ≡ (4, line 2) ∷ []
end_before = refl

pub end_after : by_address (row 4 2 ∷ end 4 ∷ []) ≡ (4, line 2) ∷ []
end_after = refl

-- a row that tells that no line is known is no end: it counts after another one
pub no_line_counts : by_address (row 4 2 ∷ (record { address = 4; is_end = false; fact = NoLine }) ∷ []) ≡ (4, NoLine) ∷ []
no_line_counts = refl

-- what tells nothing new is left out: the same line again, and at first that none is known
pub changes_alone : facts_of NoLine (end 0 ∷ row 4 2 ∷ row 8 2 ∷ row 12 3 ∷ row 16 2 ∷ end 20 ∷ end 24 ∷ []) ≡ (4, line 2) ∷ (12, line 3) ∷ (16, line 2) ∷ (20, NoLine) ∷ []
changes_alone = refl

-- names at the same number of other sections are others
pub other_section : is_same_text (LineStrings 5) (Strings 5) ≡ false
other_section = refl

pub here_alone : is_same_text (Here 5) (LineStrings 5) ≡ false
here_alone = refl

pub same_place : is_same_text (Strings 5) (Strings 5) ≡ true
same_place = refl

-- the same line of another source is another
pub other_source : is_same_fact (line 2) (Line (record { file = LineStrings 9; line = 2 })) ≡ false
other_source = refl

abbrev frame : Frame
frame = record { base = Sp; size = 16; ra = 8; s0 = 16 }

-- each part of a frame counts
pub same_frame : is_same_fact (Framed frame) (Framed frame) ≡ true
same_frame = refl

pub other_base : is_same_fact (Framed frame) (Framed (record frame { base = S0 })) ≡ false
other_base = refl

pub other_size : is_same_fact (Framed frame) (Framed (record frame { size = 32 })) ≡ false
other_size = refl

pub other_ra : is_same_fact (Framed frame) (Framed (record frame { ra = 0 })) ≡ false
other_ra = refl

pub other_s0 : is_same_fact (Framed frame) (Framed (record frame { s0 = 0 })) ≡ false
other_s0 = refl

pub unknown_frame : is_same_fact (Framed frame) NoFrame ≡ false
unknown_frame = refl
