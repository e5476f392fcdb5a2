-- What was sent before a player refused.
use Rattle.std.proofs.Common.{◌≡◌, ◌∙◌, ℕ, ◌+◌, ◌-◌, ◌<◌, ◌≤◌, List, [], ◌∷◌, ◌++◌, append_assoc, replicate, refl, sym, ap, subst, arith, Result, Ok, Err, IfErr}
use Rattle.std.proofs.lemmas.List.{replicate_more, replicate-append-replicate}
use Rattle.kernel_spec.specs.runs.Run.{Event}
use Rattle.xv_machine.specs.Devices.{Sink}
use Rattle.xv_machine.specs.Meaning.{Meaning}
use Rattle.xv_machine.specs.Sound.{IsSoundMachine}
use Rattle.xv_machine.specs.Stretches.{Silent, Played, SilentFirst, PlayedFirst}
use Rattle.xv_machine.proofs.Joins.{none-played, played-join, silent-played}

-- what is so whether a call is refused or not
pub if-err : {A E : Type 0} {P : Type 0} (r : Result A E) → P → IfErr r (λ _. P)
if-err (Ok a) p = tt
if-err (Err e) p = p

-- ---- the first of them

-- the machine stays
pub first-still : (xs : List Event) (old new : Meaning) (h : Sink) → IsSoundMachine old → new ≡ old → PlayedFirst xs old new h h
first-still xs old new h sound same =
    subst (λ (m : Meaning). PlayedFirst xs old m h h) (sym same) (record { part = []; rest = xs; those = refl; played = none-played old h sound })

pub first-those : (xs ys : List Event) (s t : Meaning) (h k : Sink) → xs ≡ ys → PlayedFirst xs s t h k → PlayedFirst ys s t h k
first-those xs ys s t h k same q = subst (λ (es : List Event). PlayedFirst es s t h k) same q

-- behind a stretch that was played
pub first-later : (xs ys : List Event) (s t u : Meaning) (h k m : Sink) → Played xs s t h k → PlayedFirst ys t u k m → PlayedFirst (xs ++ ys) s u h m
first-later xs ys s t u h k m p q = record {
  part = xs ++ q.part;
  rest = q.rest;
  those = append_assoc xs q.part q.rest ∙ ap (λ (es : List Event). xs ++ es) q.those;
  played = played-join xs q.part s t u h k m p q.played;
}

-- more events were wanted
pub first-early : (xs ys : List Event) (s t : Meaning) (h k : Sink) → PlayedFirst xs s t h k → PlayedFirst (xs ++ ys) s t h k
first-early xs ys s t h k q = record {
  part = q.part;
  rest = q.rest ++ ys;
  those = sym (append_assoc q.part q.rest ys) ∙ ap (λ (es : List Event). es ++ ys) q.those;
  played = q.played;
}

-- nothing has to be written of a silent stretch
pub first-silent : (xs : List Event) (s t : Meaning) (h : Sink) → SilentFirst xs s t → PlayedFirst xs s t h h
first-silent xs s t h q = record { part = q.part; rest = q.rest; those = q.those; played = silent-played q.part s t h q.silent }

-- ---- so many of one event

-- so many were played, and then the machine stays
module _ (e : Event) (done count : ℕ) (s t u : Meaning) (within : done ≤ count) (same : u ≡ t) where
  whole : replicate done e ++ replicate (count - done) e ≡ replicate count e
  whole =
      let n : done + (count - done) ≡ count = omega (arith, within) in
      replicate-append-replicate done (count - done) e ∙ ap (λ (z : ℕ). replicate z e) n

  pub often-silent : Silent (replicate done e) s t → SilentFirst (replicate count e) s u
  often-silent p = record {
    part = replicate done e;
    rest = replicate (count - done) e;
    those = whole;
    silent = subst (λ (m : Meaning). Silent (replicate done e) s m) (sym same) p;
  }

  pub often-first : (h k : Sink) → Played (replicate done e) s t h k → PlayedFirst (replicate count e) s u h k
  often-first h k p = record {
    part = replicate done e;
    rest = replicate (count - done) e;
    those = whole;
    played = subst (λ (m : Meaning). Played (replicate done e) s m h k) (sym same) p;
  }

-- so many were played, and one more was to be
pub first-within : (e : Event) (i n : ℕ) (s t u : Meaning) (h k m : Sink) → i < n → Played (replicate i e) s t h k → PlayedFirst (e ∷ []) t u k m → PlayedFirst (replicate n e) s u h m
first-within e i n s t u h k m less p q =
    let full : i + 1 + (n - (i + 1)) ≡ n = omega (arith, less) in
    let all : (replicate i e ++ e ∷ []) ++ replicate (n - (i + 1)) e ≡ replicate n e =
    ap (λ (z : List Event). z ++ replicate (n - (i + 1)) e) (replicate_more i e) ∙ replicate-append-replicate (i + 1) (n - (i + 1)) e ∙ ap (λ (z : ℕ). replicate z e) full in
    first-those ((replicate i e ++ e ∷ []) ++ replicate (n - (i + 1)) e) (replicate n e) s u h m all
    (first-early (replicate i e ++ e ∷ []) (replicate (n - (i + 1)) e) s u h m (first-later (replicate i e) (e ∷ []) s t u h k m p q))
