-- Events that are added.
use Rattle.std.proofs.Common.{ℕ, ◌+◌, List, [], ◌++◌, replicate, sym, ap, ◌∙◌, subst, append_assoc}
use Rattle.std.proofs.lemmas.List.{append-nil, replicate-append-replicate}
use Rattle.kernel_spec.specs.runs.Run.{Event}
use Rattle.xv_session.specs.Answers.{stands}
use Rattle.xv_session.specs.Recorded.{Recorded}
use Rattle.xv_debug.specs.motion.Effects.{Adds}

pub adds-none : (old : Recorded) → Adds [] old old
adds-none old = ap (λ (es : List Event). stands old es old.machine old.names) (sym (append-nil old.events))

pub adds-join : (xs ys : List Event) (old mid new : Recorded) → Adds xs old mid → Adds ys mid new → Adds (xs ++ ys) old new
adds-join xs ys old mid new one two =
    two ∙ ap (λ (m : Recorded). stands m (m.events ++ ys) new.machine new.names) one ∙ ap (λ (es : List Event). stands old es new.machine new.names) (append_assoc old.events xs ys)

pub adds-more : (count more : ℕ) (e : Event) (old mid new : Recorded) → Adds (replicate count e) old mid → Adds (replicate more e) mid new → Adds (replicate (count + more) e) old new
adds-more count more e old mid new one two =
    subst (λ (es : List Event). Adds es old new) (replicate-append-replicate count more e) (adds-join (replicate count e) (replicate more e) old mid new one two)
