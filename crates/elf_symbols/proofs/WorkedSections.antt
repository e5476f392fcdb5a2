-- Worked cases: which bytes of a file a section's name stands for. The file has 12 bytes and the headers of no section: what a
-- section's header says is given.
use Rattle.std.proofs.Common.{◌≡◌, ℕ, List, true, false, Some, None, [], ◌∷◌, codes, ◌++◌, refl}
use Rattle.elf_symbols.specs.declared.section.Section.{Section}
use Rattle.elf_symbols.specs.Sections.{bytes_found, bytes_of, has_bytes, or_no_bytes}

-- six bytes of names, and six of what a section holds
abbrev file : List ℕ
file = 0 ∷ codes "line" ++ 0 ∷ codes "abcdef"

-- a section of this type, flags, place and size
abbrev held : (kind flags off size : ℕ) → Section
held kind flags off size = record { name = 1; kind = kind; flags = flags; off = off; size = size; link = 0 }

-- its bytes are those from its place on, as many as it has
pub some_bytes : bytes_of file (held 1 0 7 3) ≡ Some (codes "bcd")
some_bytes = refl

pub to_the_end : bytes_of file (held 1 0 6 6) ≡ Some (codes "abcdef")
to_the_end = refl

pub no_bytes : bytes_of file (held 1 0 12 0) ≡ Some []
no_bytes = refl

-- none, if one byte more is told than there is
pub beyond_the_end : bytes_of file (held 1 0 6 7) ≡ None
beyond_the_end = refl

-- none of a section whose bytes stand in no file (type 8), though they would be within
pub in_no_file : bytes_of file (held 8 0 6 6) ≡ None
in_no_file = refl

-- compressed bytes aren't the section's (flag 0x800); the other flags say nothing of that
pub compressed : has_bytes file (held 1 0x800 6 6) ≡ false
compressed = refl

pub compressed_among_others : has_bytes file (held 1 0x832 6 6) ≡ false
compressed_among_others = refl

pub other_flags : has_bytes file (held 1 0x1430 6 6) ≡ true
other_flags = refl

pub not_found : bytes_found file None ≡ None
not_found = refl

-- no bytes of a section that isn't found, or of a file that has no sections
pub none_are_no_bytes : or_no_bytes None ≡ []
none_are_no_bytes = refl

pub found_bytes : or_no_bytes (Some (codes "bcd")) ≡ codes "bcd"
found_bytes = refl
