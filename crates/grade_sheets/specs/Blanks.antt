-- Bytes without the blanks around them: spaces, tabs, form feeds and the ends of lines.
use Rattle.std.specs.Prelude.{ℕ, ◌-◌, List, length, take, drop}
use Rattle.std.specs.Char.{is_ascii_whitespace}
use Rattle.std.specs.List.{prefix_len, suffix_len}

-- without those at the beginning
abbrev pub without_begin : List ℕ → List ℕ
without_begin text = drop (prefix_len is_ascii_whitespace text) text

-- without those at the end
abbrev pub without_end : List ℕ → List ℕ
without_end text = take (length text - suffix_len is_ascii_whitespace text) text

-- without both
abbrev pub without_blanks : List ℕ → List ℕ
without_blanks text = without_end (without_begin text)
