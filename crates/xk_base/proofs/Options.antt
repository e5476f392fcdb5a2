-- Small facts of options, and of a choice between two.
use Rattle.std.proofs.Common.{◌≡◌, Bool, true, false, cond, Option, Some, None, refl}
use Rattle.std.specs.Prelude.{is_some, is_none}

pub none_from_is_some : {A : Type 0} (o : Option A) → is_some o ≡ false → o ≡ None
none_from_is_some None e = refl
none_from_is_some (Some x) e = let no : ⊥ = cc in absurd no

pub none_from_is_none : {A : Type 0} (o : Option A) → is_none o ≡ true → o ≡ None
none_from_is_none None e = refl
none_from_is_none (Some x) e = let no : ⊥ = cc in absurd no

-- the value was chosen, or nothing
pub some_chosen : {A : Type 0} (b : Bool) (x : A) → cond b None (Some x) ≡ None → b ≡ true
some_chosen true x e = refl
some_chosen false x e = cc

-- both ways lead to the same
pub none_either_way : {A : Type 0} (b : Bool) (o : Option A) → o ≡ None → cond b o None ≡ None
none_either_way true o none = none
none_either_way false o none = refl

pub same_either_way : {A : Type 0} (b : Bool) (x : A) → cond b x x ≡ x
same_either_way true x = refl
same_either_way false x = refl
