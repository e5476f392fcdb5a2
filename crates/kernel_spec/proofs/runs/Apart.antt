-- What is shared of a view, and what is not, can be chosen each for itself.
use Rattle.kernel_spec.proofs.Prelude.{ℕ, ◌≡◌, ap, bare, bare_shown, Bool, Content, Descriptor, None, Nothing_shared, Offset, Option, Part, refl, shared, shared_part, SharedIsApart, Shown, Shown_file}
use Rattle.kernel_spec.proofs.Prelude.{Shown_pipe, Shown_terminal, Some}
use Rattle.kernel_spec.proofs.steps.ViewIsSharedAndRest.{together, filled, filled_shown}

abbrev some_shown : Option Descriptor → Shown
some_shown None = Shown_terminal
some_shown (Some d) = d.shown

-- of a descriptor: what is shared is that of the one, and the rest that of the other
part_is : (file : ℕ) (r w : Bool) (x y : Shown) → bare_shown x ≡ bare_shown y
    → shared_part (Some (record {
      file = file;
      read = r;
      write = w;
      shown = filled_shown x (shared_part (Some (record { file = file; read = r; write = w; shown = y })));
    })) ≡ shared_part
    (Some (record { file = file; read = r; write = w; shown = y }))
part_is file r w Shown_terminal Shown_terminal e = refl
part_is file r w (Shown_file p m) (Shown_file q n) e = refl
part_is file r w (Shown_pipe i f a) (Shown_pipe j g b) e = refl
part_is file r w Shown_terminal (Shown_file q n) e = let no : ⊥ = cc in absurd no
part_is file r w Shown_terminal (Shown_pipe j g b) e = let no : ⊥ = cc in absurd no
part_is file r w (Shown_file p m) Shown_terminal e = let no : ⊥ = cc in absurd no
part_is file r w (Shown_file p m) (Shown_pipe j g b) e = let no : ⊥ = cc in absurd no
part_is file r w (Shown_pipe i f a) Shown_terminal e = let no : ⊥ = cc in absurd no
part_is file r w (Shown_pipe i f a) (Shown_file q n) e = let no : ⊥ = cc in absurd no

shown_part : (x : Descriptor) (y : Descriptor) → bare_shown x.shown ≡ bare_shown y.shown → shared_part (filled (Some x) (shared_part (Some y))) ≡ shared_part (Some y)
shown_part x y e = part_is x.file x.read x.write x.shown y.shown e

both_parts : (o q : Option Descriptor) → bare o ≡ bare q → shared_part (filled o (shared_part q)) ≡ shared_part q
both_parts None None e = refl
both_parts None (Some y) e = let no : ⊥ = cc in absurd no
both_parts (Some x) None e = let no : ⊥ = cc in absurd no
both_parts (Some x) (Some y) e = shown_part x y (ap (λ (o : Option Descriptor). some_shown o) e)

bare_filled : (o q : Option Descriptor) → bare (filled o (shared_part q)) ≡ bare o
bare_filled None q = refl
bare_filled (Some x) q = by x.file x.read x.write x.shown (shared_part q)
  where
    by : (file : ℕ) (r w : Bool) (s : Shown) (part : Part)
        → bare (Some (record { file = file; read = r; write = w; shown = filled_shown s part })) ≡ bare
        (Some (record { file = file; read = r; write = w; shown = s }))
    by file r w Shown_terminal part = refl
    by file r w (Shown_file program offset) Nothing_shared = refl
    by file r w (Shown_file program offset) (Offset n) = refl
    by file r w (Shown_file program offset) (Content pipe) = refl
    by file r w (Shown_pipe name end p) Nothing_shared = refl
    by file r w (Shown_pipe name end p) (Offset n) = refl
    by file r w (Shown_pipe name end p) (Content pipe) = refl

pub shared_is_apart : SharedIsApart
shared_is_apart v w same = (
  together v (shared w),
  λ i. record (shared w) { parts = λ d. both_parts (v.descriptors d) (w.descriptors d) (same d) i },
  (refl, refl, refl, refl, refl),
  λ d. bare_filled (v.descriptors d) (w.descriptors d),
)
