-- Turns come nearer.
use Rattle.kernel_spec.proofs.Prelude.{ℕ, ℤ, ◌<◌, ◌∙◌, ◌≡◌, ◌≢◌, ◌≤◌, ap, arith, ComesNearer, distance, HasSlot, IsNear, None, Option, Outcome, refl, RunHappens, Some, subst, sym, Turn, TurnTaken}
use Rattle.kernel_spec.proofs.Prelude.{World}
use Rattle.proc_table.proofs.Turns.{nearer}

turn_taken : (w t : World) (o : Outcome) (halted : Option ℤ) (current : Option ℕ) → RunHappens w halted current o t → halted ≡ None → current ≡ None → TurnTaken w o t
turn_taken w t o (Some status) current h e f = let no : ⊥ = cc in absurd no
turn_taken w t o None (Some p) h e f = let no : ⊥ = cc in absurd no
turn_taken w t o None None h e f = h

pub comes_nearer : ComesNearer
comes_nearer w t p q i happens takes halted current slots runs apart mine =
    let taken : TurnTaken w (Turn q) t = turn_taken w t (Turn q) w.turns.halted w.turns.current happens halted current in
    let j : ℕ = taken.0 in
    let its : HasSlot w.turns q j = taken.1 in
    let near : distance w.turns.last j ≤ distance w.turns.last i = ((takes refl halted current).1 q refl).1 p j i runs its mine in
    let other : j ≢ i = λ e. apart (slots.apart q p j its (mine ∙ ap Some (sym e))) in
    subst (λ (last : ℕ). distance last i < distance w.turns.last i) (sym (ap (λ (u : World). u.turns.last) taken.3))
    (nearer w.turns.last j i slots.last (slots.below q j its) (slots.below p i mine) near other)

pub is_near : IsNear
is_near last slot = omega arith
