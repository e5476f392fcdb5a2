-- What a descriptor names: a process's table is a map from descriptors to open files.
use Rattle.std.specs.Prelude.{ℕ, List, Option, None, get_or, set, position, replicate, is_none}
use Rattle.xk_base.specs.declared.limits.TheConstants.{NOFILE}

-- the open file that a descriptor names, if it is in use
abbrev pub named_by : List (Option ℕ) → ℕ → Option ℕ
named_by files fd = get_or files fd None

-- no descriptor is in use
abbrev pub none_named : List (Option ℕ)
none_named = replicate NOFILE None

-- the lowest descriptor that isn't in use
abbrev pub lowest_unused : List (Option ℕ) → Option ℕ
lowest_unused files = position is_none files

-- the descriptor names this open file, or none, and all others name what they did
abbrev pub with_named : ℕ → Option ℕ → List (Option ℕ) → List (Option ℕ)
with_named fd file files = set files fd file
