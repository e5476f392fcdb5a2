-- A session that couldn't get all events that it was to get.
use Rattle.std.proofs.Common.{◌≡◌, ◌∙◌, ℕ, ◌+◌, ◌-◌, ◌<◌, ◌≤◌, List, [], ◌∷◌, ◌++◌, append-nil, append_assoc, take, drop, Option, Result, Ok, Err, IfErr, OnErr, refl, sym, ap, ap₂, arith, inl, inr, replicate, subst}
use Rattle.std.proofs.lemmas.Grind.{flat_map-append}
use Rattle.std.proofs.lemmas.List.{replicate-append-replicate}
use Rattle.kernel_spec.specs.runs.Run.{Event, Send, Outcome}
use Rattle.kernel_spec.specs.runs.Rounds.{events}
use Rattle.program_files.specs.Failures.{failure_of_session}
use Rattle.program_files.specs.declared.failure.Failure.{Failure}
use Rattle.program_files.specs.declared.failure.Failure.TheVariants.{Write}
use Rattle.xv_machine.proofs.Joins.{goes-none, goes-one, goes-join, events-join}
use Rattle.xv_record.specs.declared.line.Line.{Line}
use Rattle.xv_session.specs.Answers.{stands, Sent}
use Rattle.xv_session.specs.Recorded.{Recorded}
use Rattle.xv_session.specs.declared.session.SessionError.{SessionError}
use Rattle.xv_session.specs.declared.session.SessionError.TheVariants.{Memory, Full}
use Rattle.xv_live.specs.Attends.{Types}
use Rattle.xv_live.specs.Breaks.{Begins, BeginsWithoutKeys, IsBreak}
use Rattle.xv_live.specs.Keys.{key_in, keys_of}
use Rattle.xv_live.specs.Plays.{Plays, events_of_line, events_of_lines}
use Rattle.xv_live.specs.Shown.{Shown}

-- a session that can't keep an event
pub session_breaks : (e : SessionError) (why : Failure) → why ≡ failure_of_session e → IsBreak why
session_breaks Memory why is = inl is
session_breaks Full why is = inr (inl is)

pub on-err : {T E : Type 0} {P : Type 0} (r : Result T E) → P → OnErr r P
on-err (Ok x) p = tt
on-err (Err e) p = p

-- or what an event shows can't be written
pub write-breaks : {T : Type 0} (r : Result T Failure) → IfErr r (λ why. why ≡ Write) → IfErr r IsBreak
write-breaks (Ok x) is = tt
write-breaks (Err e) is = inr (inr is)

-- nothing was sent
begins-none : (wanted : List Event) (s : Recorded) → Begins wanted s s
begins-none wanted s = record {
  list = [];
  rest = wanted;
  first = refl;
  goes = λ sound. goes-none s.machine sound;
  kept = λ i. stands s (sym (append-nil s.events) i) s.machine s.names;
}

pub begins-still : (wanted : List Event) (s t : Recorded) → t ≡ s → Begins wanted s t
begins-still wanted s t same = subst (λ (r : Recorded). Begins wanted s r) (sym same) (begins-none wanted s)

-- one event was sent, and more were to come
pub begins-one : (e : Event) (o : Outcome) (rest : List Event) (s t : Recorded) → Sent s e o t → Begins (e ∷ rest) s t
begins-one e o rest s t (one, kept) = record {
  list = (e, o) ∷ [];
  rest = rest;
  first = refl;
  goes = λ sound. goes-one e o s.machine t.machine one.event.promised one.event.notes one.event.room one.event.frames one.event.sound;
  kept = kept;
}

-- events were shown, and then more were begun
pub begins-after : (ys : List Event) (s t u : Recorded) (h k : Option (List ℕ)) → (p : Shown s t h k) → Begins ys t u → Begins (events p.list ++ ys) s u
begins-after ys s t u h k p q = record {
  list = p.list ++ q.list;
  rest = q.rest;
  first = ap (λ (es : List Event). events p.list ++ es) q.first
      ∙ (sym (append_assoc (events p.list) (events q.list) q.rest) ∙ ap (λ (es : List Event). es ++ q.rest) (sym (events-join p.list q.list)));
  goes = λ sound. goes-join p.list q.list s.machine t.machine u.machine (p.goes sound) (q.goes (p.goes sound).sound);
  kept = q.kept ∙ (ap (λ (r : Recorded). stands r (r.events ++ events q.list) u.machine u.names) p.kept
      ∙ ap (λ (es : List Event). stands s es u.machine u.names) (append_assoc s.events (events p.list) (events q.list) ∙ ap (λ (es : List Event). s.events ++ es) (sym (events-join p.list q.list))));
}

-- more was wanted behind these events
pub begins-more : (xs zs : List Event) (s t : Recorded) → Begins xs s t → Begins (xs ++ zs) s t
begins-more xs zs s t b = record {
  list = b.list;
  rest = b.rest ++ zs;
  first = ap (λ (es : List Event). es ++ zs) b.first ∙ append_assoc (events b.list) b.rest zs;
  goes = b.goes;
  kept = b.kept;
}

-- events were played, then more were begun, and still more was wanted
pub begins-played : (xs ys zs wanted : List Event) (s t u : Recorded) (h k : Option (List ℕ)) → Plays xs s t h k → Begins ys t u → wanted ≡ xs ++ (ys ++ zs) → Begins wanted s u
begins-played xs ys zs wanted s t u h k p b same =
    subst (λ (es : List Event). Begins es s u)
    (ap (λ (es : List Event). es ++ (ys ++ zs)) p.those ∙ sym same)
    (begins-after (ys ++ zs) s t u h k p.shown (begins-more ys zs t u b))

-- of so many equal events some were played, then one was begun
pub begins-often : (count left : ℕ) (e : Event) (s t u : Recorded) (h k : Option (List ℕ)) → left ≤ count → 0 < left
    → Plays (replicate (count - left) e) s t h k → Begins (e ∷ []) t u → Begins (replicate count e) s u
begins-often count left e s t u h k within some p b =
    let parts : (count - left) + (1 + (left - 1)) ≡ count = omega (arith, within, some) in
    begins-played (replicate (count - left) e) (e ∷ []) (replicate (left - 1) e) (replicate count e) s t u h k p b
    (sym (ap (λ (es : List Event). replicate (count - left) e ++ es) (replicate-append-replicate 1 (left - 1) e)
    ∙ (replicate-append-replicate (count - left) (1 + (left - 1)) e ∙ ap (λ (n : ℕ). replicate n e) parts)))

-- and then nothing more
pub begins-some : (count left : ℕ) (e : Event) (s t u : Recorded) (h k : Option (List ℕ)) → left ≤ count → Plays (replicate (count - left) e) s t h k → u ≡ t → Begins (replicate count e) s u
begins-some count left e s t u h k within p still =
    let parts : (count - left) + left ≡ count = omega (arith, within) in
    begins-played (replicate (count - left) e) [] (replicate left e) (replicate count e) s t u h k p (begins-still [] t u still)
    (sym (replicate-append-replicate (count - left) left e ∙ ap (λ (n : ℕ). replicate n e) parts))

-- of lines the first were played, and the next one was begun
pub begins-line : (lines : List Line) (i : ℕ) (line : Line) (s t u : Recorded) (h k : Option (List ℕ)) → take (i + 1) lines ++ drop (i + 1) lines ≡ lines
    → events_of_lines (take (i + 1) lines) ≡ events_of_lines (take i lines) ++ events_of_line line
    → Plays (events_of_lines (take i lines)) s t h k → Begins (events_of_line line) t u → Begins (events_of_lines lines) s u
begins-line lines i line s t u h k whole more p b =
    let rest : List Event = events_of_lines (drop (i + 1) lines) in
    begins-played (events_of_lines (take i lines)) (events_of_line line) rest (events_of_lines lines) s t u h k p b
    (ap (λ (ls : List Line). events_of_lines ls) (sym whole) ∙ (flat_map-append events_of_line (take (i + 1) lines) (drop (i + 1) lines)
    ∙ (ap (λ (es : List Event). es ++ rest) more ∙ append_assoc (events_of_lines (take i lines)) (events_of_line line) rest)))

-- sends without keys, and then one that was begun
pub begins-send : (s t u : Recorded) (h k : Option (List ℕ)) → Types [] s t h k → Begins (Send ∷ []) t u → BeginsWithoutKeys s u
begins-send s t u h k p b = record {
  wanted = events p.shown.list ++ Send ∷ [];
  no_keys = flat_map-append key_in (events p.shown.list) (Send ∷ []) ∙ (append-nil (keys_of (events p.shown.list)) ∙ p.those);
  begins = begins-after (Send ∷ []) s t u h k p.shown b;
}
