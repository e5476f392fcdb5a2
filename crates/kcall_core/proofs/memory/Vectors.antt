-- A vector is told by its parts: two with the same elements in the same place are one. So it is with the memories of a kernel.
use Rattle.kcall_core.proofs.Prelude.{ℕ, ◌∙◌, ◌≡◌, ap, List, Memories, Pool, subst, sym}
use Rattle.std.proofs.Props.{props}
use Rattle.std.specs.declared.vec.Vec.{Vec, ok-type}
use Rattle.std.proofs.Math.Bridge.{le_prop}
use native.Mathlib.Nat.{ℕ_set}
use Rattle.hart_core.specs.Rooms as rooms

pub vec-same : {X Z : Type 0} (v : Vec X Z) (items : List X) (ok : ok-type X Z v.ptr v.len v.cap v.alloc items) → items ≡ v.items → record v { items = items; ok = ok } ≡ v
vec-same {X} {Z} v items ok e =
    subst (λ xs. (fact : ok-type X Z v.ptr v.len v.cap v.alloc xs) → record v { items = xs; ok = fact } ≡ v) (sym e)
    (λ fact. ap (λ (f : ok-type X Z v.ptr v.len v.cap v.alloc v.items). record v { ok = f }) (one-fact v.items fact v.ok)) ok
  where
    one-fact : (xs : List X) (a b : ok-type X Z v.ptr v.len v.cap v.alloc xs) → a ≡ b
    one-fact xs = hlevel (le_prop, ℕ_set)

-- memories are told by RAM, the free frames and the slots, if the rest is the same
pub memories-same : (m : Memories) (ram : List (List ℕ)) (fact : rooms.StandsIn ram m.known) → ram ≡ m.ram → record m { ram = ram; stands = fact } ≡ m
memories-same m ram fact e =
    let one : (f g : rooms.StandsIn m.ram m.known) → f ≡ g = hlevel (props) in
    subst (λ (x : List (List ℕ)). (f : rooms.StandsIn x m.known) → record m { ram = x; stands = f } ≡ m) (sym e)
    (λ f. ap (λ (g : rooms.StandsIn m.ram m.known). record m { stands = g }) (one f m.stands)) fact

pub memories-back : (m : Memories) (ram : List (List ℕ)) (fact : rooms.StandsIn ram m.known) (pool : Pool) (each : _) → ram ≡ m.ram → pool ≡ m.pool
    → each ≡ m.each → record m { ram = ram; stands = fact; pool = pool; each = each } ≡ m
memories-back m ram fact pool each a b d = (λ t. record m { ram = ram; stands = fact; pool = b t; each = d t }) ∙ memories-same m ram fact a
