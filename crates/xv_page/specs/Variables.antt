-- Which variables of a program in C a host asks for, and of which call.
use Rattle.std.specs.Prelude.{ℕ, List, [], ◌∷◌, Option, Some, None, nat_eq, if◌then◌else◌}
use Rattle.xv_page.specs.declared.variables.RegisterKnown.{RegisterKnown}
use Rattle.xv_page.specs.declared.variables.Scope.{Scope}
use Rattle.xv_page.specs.declared.variables.Scope.TheVariants.{Locals, Globals}

-- 0 those of the call's function, 1 those of the program
abbrev pub scope_named : ℕ → Option Scope
scope_named number = if nat_eq number 0 then Some Locals else (if nat_eq number 1 then Some Globals else None)

-- the register of this number, by the first of those that are known
abbrev pub register_among : List RegisterKnown → ℕ → Option ℕ
register_among [] number = None
register_among (known ∷ others) number = if nat_eq known.number number then Some known.value else register_among others number

-- where the caller's part of the stack begins, if that is known
abbrev pub base_of : (has_base base : ℕ) → Option ℕ
base_of has_base base = if nat_eq has_base 0 then None else Some base
