use Rattle.kcall_core.proofs.Prelude.{◌≡◌, least_below, map, named_file, None, same_name}
use Rattle.kcall_core.proofs.kernel.program_list.has_earlier_name.Given as goal

-- no program so far has the name
abbrev pub invariant-loop-k : goal.invariant-loop-k
invariant-loop-k l = least_below (same_name (map named_file l.programs) l.i) l.k ≡ None
