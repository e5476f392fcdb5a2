-- Worked cases of names and lines of sources.
use Rattle.std.proofs.Common.{◌≡◌, ℕ, ◌-◌, ◌^◌, [], ◌∷◌, true, false, codes, None, Some, refl}
use Rattle.xv_report.specs.Locations.{distance, or_own, unless_empty}
use Rattle.xv_report.specs.Places.{assembled_name, is_after, line_start_once}
use Rattle.uasm_core.specs.declared.source_lines.CodeLine.{CodeLine}

-- the source of `wc` is `wc.s`; a file of C is assembled of nothing
of_a_source : assembled_name (codes "wc.s") ≡ Some (codes "wc")
of_a_source = refl

of_c : assembled_name (codes "wc.c") ≡ None
of_c = refl

-- a text that is shorter than `.s` is no source
too_short : assembled_name (codes "s") ≡ None
too_short = refl

sixteen_behind : distance 0x1000 0x1010 ≡ 16
sixteen_behind = refl

-- below its beginning an address stands far behind it, in 64 bits
below : distance 0x1010 0x1000 ≡ 2 ^ 64 - 16
below = refl

-- a row with an empty text ends what is known
ends : unless_empty [] ≡ None
ends = refl

-- what stands beside a file has its symbols, before its own
beside_first : or_own (codes "beside") (codes "own") ≡ codes "beside"
beside_first = refl

own_alone : or_own [] (codes "own") ≡ codes "own"
own_alone = refl

-- a line begins again above an address, and not at it
above : is_after 0x18 (Some 0x14) ≡ true
above = refl

not_at_it : is_after 0x14 (Some 0x14) ≡ false
not_at_it = refl

the_first : is_after 0 None ≡ true
the_first = refl

-- an assembled line begins once
once : (code : CodeLine) → line_start_once 3 (Some 8) (code ∷ []) ≡ None
once code = refl
