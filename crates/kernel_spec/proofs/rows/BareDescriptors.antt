-- Descriptors that are the same but for what their pipes hold.
use Rattle.kernel_spec.proofs.Prelude.{ℕ, ℤ, ◌≡◌, ap, bare, bare_shown, Bool, change_shown, changed, Descriptor, in_use, negsuc, None, Option, Pipe, pos, refl, SameDescriptors, Shown, Shown_file}
use Rattle.kernel_spec.proofs.Prelude.{Shown_pipe, Shown_terminal, Some, true, View}

pub in_use_bare : (m u : View) → SameDescriptors m u → (z : ℤ) → bare (in_use m z) ≡ bare (in_use u z)
in_use_bare m u same (pos d) = same d
in_use_bare m u same (negsuc k) = refl

abbrev pub read_of : Option Descriptor → Bool
read_of None = true
read_of (Some d) = d.read

abbrev pub write_of : Option Descriptor → Bool
write_of None = true
write_of (Some d) = d.write

abbrev pub shown_in : Option Descriptor → Shown
shown_in None = Shown_terminal
shown_in (Some d) = d.shown

-- a descriptor that is bare the same is there, and can be read and written alike
pub bare_alike : (o : Option Descriptor) (d : Descriptor) → bare o ≡ bare (Some d)
    → (e : Descriptor) × (o ≡ Some e) × (e.read ≡ d.read) × (e.write ≡ d.write) × (bare_shown e.shown ≡ bare_shown d.shown)
bare_alike None d h = let no : ⊥ = cc in absurd no
bare_alike (Some e) d h = (e, refl, ap read_of h, ap write_of h, ap shown_in h)

-- what is changed of a pipe doesn't show
pub bare_changed : (f : ℕ → Pipe → Pipe) (o : Option Descriptor) → bare (changed f o) ≡ bare o
bare_changed f None = refl
bare_changed f (Some e) = ap (λ (x : Shown). Some (record e { shown = x })) (by e.shown)
  where
    by : (x : Shown) → bare_shown (change_shown f x) ≡ bare_shown x
    by Shown_terminal = refl
    by (Shown_file program offset) = refl
    by (Shown_pipe name end pipe) = refl
