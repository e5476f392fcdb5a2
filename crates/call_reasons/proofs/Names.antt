-- A program of a name.
use Rattle.std.proofs.Common.{◌≡◌, ℕ, ◌||◌, Bool, cond, true, false, List, [], ◌∷◌, Some, refl}
use Rattle.std.specs.Prelude.{bytes_eq, is_some, map}
use Rattle.std.specs.List.{list_any}
use Rattle.xk_base.specs.declared.program.Program.{Program}
use Rattle.kernel_spec.specs.views.Programs.{program_named}
use Rattle.kernel_spec.specs.views.State.{named_file}

-- one of the programs has a name exactly if the program of that name is found
pub one_named : (name : List ℕ) (programs : List Program) → list_any (λ (p : Program). bytes_eq p.name.items name) programs ≡ is_some (program_named name (map named_file programs))
one_named name [] = refl
one_named name (p ∷ later) = by (bytes_eq p.name.items name) (one_named name later)
  where
    by : (b : Bool) → list_any (λ (q : Program). bytes_eq q.name.items name) later ≡ is_some (program_named name (map named_file later))
        → (b || list_any (λ (q : Program). bytes_eq q.name.items name) later) ≡ is_some (cond b (Some (named_file p)) (program_named name (map named_file later)))
    by true e = refl
    by false e = e
