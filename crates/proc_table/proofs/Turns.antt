-- Which slots come next.
use Rattle.std.proofs.Common.{◌≡◌, ◌≢◌, ℕ, ◌<◌, ◌≤◌, List, Option, Some, None, ap, sym, arith, ◌∙◌}
use Rattle.std.proofs.lemmas.Bool.{false≢true}
use Rattle.proc_table.specs.Turns.{distance, IsNearest}
use Rattle.proc_table.specs.declared.process.Process.{Process}

-- a turn of another brings a slot nearer
pub nearer : (last a p : ℕ) → last < 64 → a < 64 → p < 64 → distance last a ≤ distance last p → a ≢ p → distance a p < distance last p
nearer last a p l h k le ne = omega (arith, le, ne)

-- no two slots are as near
same_slot : (last a b : ℕ) → last < 64 → a < 64 → b < 64 → distance last a ≤ distance last b → distance last b ≤ distance last a → a ≡ b
same_slot last a b l h k le ge = omega (arith, le, ge)

pub nearest_alone : (places : List (Option Process)) (last slot : ℕ) (found : Option ℕ) → last < 64 → IsNearest places last found → IsNearest places last (Some slot) → found ≡ Some slot
nearest_alone places last slot None low none (within, runs, _) = absurd (false≢true (sym (none slot within) ∙ runs))
nearest_alone places last slot (Some n) low (inside, runs, least) (within, can, nearest) = ap Some (same_slot last n slot low inside within (least slot within can) (nearest n inside runs))
