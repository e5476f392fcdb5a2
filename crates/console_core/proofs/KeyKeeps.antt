-- What a key leaves as it is.
use Rattle.std.proofs.Common.{◌≡◌, ℕ, ◌-◌, ◌==◌, Bool, true, false, cond, List, [], ◌∷◌, ◌++◌, length, take, refl}
use Rattle.std.specs.Prelude.{nat_lt}
use Rattle.xk_base.specs.declared.limits.TheConstants.{CONSOLE_BYTES}
use Rattle.console_core.specs.Lists.{Console, held_bytes}
use Rattle.console_core.specs.Keys.{line, line_by, meaning_of, ends_line, wipes}
use Rattle.console_core.specs.declared.keys.Key.{Key}
use Rattle.console_core.specs.declared.keys.Key.TheVariants.{Ignored, Erase, Kill, Typed}

by-meaning : (c : Console) (key : Key) → (line_by c key).0.to_send ≡ c.to_send
by-meaning c Ignored = refl
by-meaning c Erase = by (length c.uncommitted == 0)
  where
    by : (b : Bool) → (cond {A = Console × List ℕ} b (c, []) (record c { uncommitted = take (length c.uncommitted - 1) c.uncommitted }, wipes 1)).0.to_send ≡ c.to_send
    by true = refl
    by false = refl
by-meaning c Kill = refl
by-meaning c (Typed byte) = by (nat_lt (held_bytes c) CONSOLE_BYTES) (ends_line c byte)
  where
    ended : Bool → Console
    ended e = cond e (record c { committed = c.committed ++ (c.uncommitted ++ byte ∷ []); uncommitted = [] }) (record c { uncommitted = c.uncommitted ++ byte ∷ [] })

    by : (b e : Bool) → (cond {A = Console × List ℕ} b (ended e, byte ∷ []) (c, [])).0.to_send ≡ c.to_send
    by true true = refl
    by true false = refl
    by false e = refl

-- the bytes that wait to be sent stay
pub key-sends-nothing : (c : Console) (key : ℕ) → (line c key).0.to_send ≡ c.to_send
key-sends-nothing c key = by-meaning c (meaning_of key)
