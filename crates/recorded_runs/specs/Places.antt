-- Which FILEs are those of a record's programs.
use Rattle.std.specs.Prelude.{ℕ, List, Option, bytes_eq, flat_map, option_map, position, slice_get, string_bytes, String}
use Rattle.std.specs.Option.{option_to_list}
use Rattle.std.specs.declared.alloc.Global.{Global}
use Rattle.xk_base.specs.declared.program.Program.{Program}
use Rattle.xv_record.specs.declared.sums.ProgramSum.{ProgramSum}

-- the place of the first program of a name
abbrev pub place_of : List Program → (name : List ℕ) → Option ℕ
place_of programs name = position (λ (p : Program). bytes_eq p.name.items name) programs

-- those of the programs that were recorded, in the record's order, as far as they are there
abbrev pub places_of : List Program → List ProgramSum → List ℕ
places_of programs recorded = flat_map (λ (w : ProgramSum). option_to_list (place_of programs (string_bytes w.name))) recorded

-- the path at a place
abbrev pub path_at : List (String Global) → (place : ℕ) → Option (List ℕ)
path_at paths place = option_map (λ (t : String Global). string_bytes t) (slice_get paths place)

abbrev pub paths_at : List (String Global) → (places : List ℕ) → List (List ℕ)
paths_at paths places = flat_map (λ place. option_to_list (path_at paths place)) places
