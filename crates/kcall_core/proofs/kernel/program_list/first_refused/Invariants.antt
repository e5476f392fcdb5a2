use Rattle.kcall_core.proofs.Prelude.{◌≡◌, is_bad_program, least_below, map, named_file, None}
use Rattle.kcall_core.proofs.kernel.program_list.first_refused.Given as goal

-- no program so far is refused
abbrev pub invariant-loop-i : goal.invariant-loop-i
invariant-loop-i l = least_below (is_bad_program (map named_file l.programs)) l.i ≡ None
