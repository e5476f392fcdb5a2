-- Kinds of the language, by names that the specs and proofs of other crates can cite.
use Rattle.uasm_core.specs.declared.words.Section as sections
use Rattle.uasm_core.specs.declared.words.Section.TheVariants as section
use Rattle.uasm_core.specs.declared.place.Place as places
use Rattle.uasm_core.specs.declared.numeral.Number as numbers
use Rattle.uasm_core.specs.declared.scan.Quote as quotes
use Rattle.uasm_core.specs.declared.scan.Quote.TheVariants as quote

-- a place in a program
abbrev pub Place : Type 0
Place = places.Place

-- the section of instructions
abbrev pub text_section : sections.Section
text_section = section.Text

-- a number with its sign
abbrev pub Number : Type 0
Number = numbers.Number

-- where the first byte of a line stands: outside a text in quotes
abbrev pub outside : quotes.Quote
outside = quote.Outside
