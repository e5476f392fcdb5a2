-- Stretches of a drive, one behind another.
use Rattle.std.proofs.Common.{append-nil, ◌≡◌, ◌≢◌, ◌∙◌, ℕ, ◌+◌, ◌-◌, ◌<◌, subst, refl, sym, ap, ap₂, arith}
use Rattle.std.proofs.Common.{List, [], ◌∷◌, ◌++◌, append_assoc, replicate, Option, None, Some, Result, Ok, Err, OnOk, OnErr}
use Rattle.std.proofs.lemmas.List.{map-append, replicate-append-replicate, replicate_more}
use Rattle.std.proofs.lemmas.Grind.{flat_map-append}
use Rattle.std.proofs.KnownBytes.{Appends-nil, Appends-trans}
use Rattle.std.specs.Io.KnownBytes.{Appends}
use Rattle.circular_buffer.specs.Buffer.{keep_last}
use Rattle.kernel_spec.specs.runs.Run.{Event, Tick, Outcome, bytes_out, out}
use Rattle.kernel_spec.specs.runs.Rounds.{events}
use Rattle.kernel_spec.specs.waking.Wakes.{Promised}
use Rattle.kernel_spec.proofs.runs.Boot.{promised_runs_join}
use Rattle.xv_machine.specs.Devices.{Given, Sink, Calls, failed}
use Rattle.xv_machine.specs.Drives.{Goes, Wrote, call_of, calls_of}
use Rattle.xv_machine.specs.Meaning.{Meaning}
use Rattle.xv_machine.specs.Notes.{note, notes_of}
use Rattle.xv_machine.specs.Reached.{TakesEvent}
use Rattle.xv_machine.specs.Sound.{IsSoundMachine}
use Rattle.xv_machine.specs.Stretches.{Silent, Played, BrokeOff, Plays}
use Rattle.xv_machine.proofs.Kept.{keep-all, keep-more}
use Rattle.xv_machine.proofs.Shown.{tick-shows}

abbrev Steps : Type 0
Steps = List (Event × Outcome)

-- ---- words

pub shows-join : (xs ys : Steps) → out (xs ++ ys) ≡ out xs ++ out ys
shows-join xs ys = flat_map-append (λ (e : Event × Outcome). bytes_out e.1) xs ys

pub calls-join : (xs ys : Steps) → calls_of (xs ++ ys) ≡ calls_of xs ++ calls_of ys
calls-join xs ys = flat_map-append (λ (e : Event × Outcome). call_of (bytes_out e.1)) xs ys

pub events-join : (xs ys : Steps) → events (xs ++ ys) ≡ events xs ++ events ys
events-join xs ys = map-append (λ (e : Event × Outcome). e.0) xs ys

pub notes-join : (xs ys : Steps) → notes_of (xs ++ ys) ≡ notes_of xs ++ notes_of ys
notes-join xs ys = map-append (λ (e : Event × Outcome). note e.0 e.1) xs ys

-- ---- calls of a sink

pub calls-nil : (a : Option (List Given)) → Calls a a []
calls-nil None = tt
calls-nil (Some calls) = ap Some (sym (append-nil calls))

pub calls-trans : (a b c : Option (List Given)) (xs ys : List Given) → Calls a b xs → Calls b c ys → Calls a c (xs ++ ys)
calls-trans None b c xs ys p q = tt
calls-trans (Some calls) b c xs ys p q = subst (λ z. Calls z c ys) p q ∙ ap Some (append_assoc calls xs ys)

pub wrote-nil : (h : Sink) → Wrote h h []
wrote-nil h = record { bytes = Appends-nil h.held; calls = calls-nil h.calls }

pub wrote-join : (h k m : Sink) (xs ys : Steps) → Wrote h k xs → Wrote k m ys → Wrote h m (xs ++ ys)
wrote-join h k m xs ys p q = record {
  bytes = subst (Appends h.held m.held) (sym (shows-join xs ys)) (Appends-trans h.held k.held m.held (out xs) (out ys) p.bytes q.bytes);
  calls = subst (Calls h.calls m.calls) (sym (calls-join xs ys)) (calls-trans h.calls k.calls m.calls (calls_of xs) (calls_of ys) p.calls q.calls);
}

front-none : (xs ys : List ℕ) → xs ++ ys ≡ [] → (xs ≡ []) × (ys ≡ [])
front-none [] ys e = (refl, e)
front-none (x ∷ xs) ys e = cc

-- what shows no byte makes no call
pub silent-calls : (list : Steps) → out list ≡ [] → calls_of list ≡ []
silent-calls [] e = refl
silent-calls (s ∷ list) e =
    let both = front-none (bytes_out s.1) (out list) e in
    ap₂ (λ bytes calls. call_of bytes ++ calls) both.0 (silent-calls list both.1)

-- nothing has to be written of it
pub wrote-silent : (h : Sink) (list : Steps) → out list ≡ [] → Wrote h h list
wrote-silent h list e = record {
  bytes = subst (Appends h.held h.held) (sym e) (Appends-nil h.held);
  calls = subst (Calls h.calls h.calls) (sym (silent-calls list e)) (calls-nil h.calls);
}

-- ---- where the machine goes

pub goes-none : (m : Meaning) → IsSoundMachine m → Goes m [] m
goes-none m sound = record { run = refl; notes = sym (keep-all m.room m.notes sound.kept); room = refl; frames = refl; sound = sound }

pub goes-one : (e : Event) (o : Outcome) (old new : Meaning) → Promised old.world e o new.world
    → new.notes ≡ keep_last old.room (old.notes ++ note e o ∷ []) → new.room ≡ old.room → new.frames.count ≡ old.frames.count → IsSoundMachine new
    → Goes old ((e, o) ∷ []) new
goes-one e o old new promised notes room frames sound = record { run = (new.world, promised, refl); notes = notes; room = room; frames = frames; sound = sound }

pub goes-join : (xs ys : Steps) (old mid new : Meaning) → Goes old xs mid → Goes mid ys new → Goes old (xs ++ ys) new
goes-join xs ys old mid new p q = record {
  run = promised_runs_join old.world mid.world new.world xs ys p.run q.run;
  notes = q.notes ∙ ap₂ (λ n zs. keep_last n (zs ++ notes_of ys)) p.room p.notes ∙ keep-more old.room (old.notes ++ notes_of xs) (notes_of ys)
      ∙ ap (keep_last old.room) (append_assoc old.notes (notes_of xs) (notes_of ys) ∙ ap (λ zs. old.notes ++ zs) (sym (notes-join xs ys)));
  room = q.room ∙ p.room;
  frames = q.frames ∙ p.frames;
  sound = q.sound;
}

-- ---- one event

pub one-silent : (e : Event) (o : Outcome) (old new : Meaning) → Goes old ((e, o) ∷ []) new → bytes_out o ≡ [] → Silent (e ∷ []) old new
one-silent e o old new goes none = record { list = (e, o) ∷ []; goes = goes; those = refl; silent = ap (λ bs. bs ++ []) none }

pub tick-silent : (o : Outcome) (old new : Meaning) → Promised old.world Tick o new.world → Goes old ((Tick, o) ∷ []) new → Silent (Tick ∷ []) old new
tick-silent o old new promised goes = one-silent Tick o old new goes (tick-shows old.world new.world o promised.0)

-- nothing was sent yet
pub none-silent : (m : Meaning) → IsSoundMachine m → Silent [] m m
none-silent m sound = record { list = []; goes = goes-none m sound; those = refl; silent = refl }

-- an event whose bytes were written, or couldn't be
pub event-plays : {E : Type 0} (r : Result (Unit {0}) E) (e : Event) (o : Outcome) (old new : Meaning) (h k : Sink) (bytes : List ℕ)
    → Goes old ((e, o) ∷ []) new → bytes ≡ bytes_out o → OnOk r (Appends h.held k.held bytes) → OnOk r (Calls h.calls k.calls (call_of bytes))
    → OnErr r (Calls h.calls k.calls (failed bytes ∷ [])) → OnErr r (bytes ≢ []) → Plays r (e ∷ []) old new h k
event-plays (Ok x) e o old new h k bytes goes is written called broken some = record {
  list = (e, o) ∷ [];
  goes = goes;
  those = refl;
  written = record {
    bytes = subst (Appends h.held k.held) (is ∙ sym (append-nil (bytes_out o))) written;
    calls = subst (Calls h.calls k.calls) (ap call_of is ∙ sym (append-nil (call_of (bytes_out o)))) called;
  };
}
event-plays (Err x) e o old new h k bytes goes is written called broken some = record {
  before = [];
  last = (e, o);
  rest = [];
  goes = goes;
  those = refl;
  shows = λ none. some (is ∙ none);
  calls = subst (λ bs. Calls h.calls k.calls (failed bs ∷ [])) is broken;
}

-- ---- one behind another

pub none-played : (m : Meaning) (h : Sink) → IsSoundMachine m → Played [] m m h h
none-played m h sound = record { list = []; goes = goes-none m sound; those = refl; written = wrote-nil h }

pub silent-join : (xs ys : List Event) (s t u : Meaning) → Silent xs s t → Silent ys t u → Silent (xs ++ ys) s u
silent-join xs ys s t u p q = record {
  list = p.list ++ q.list;
  goes = goes-join p.list q.list s t u p.goes q.goes;
  those = events-join p.list q.list ∙ ap₂ (λ a b. a ++ b) p.those q.those;
  silent = shows-join p.list q.list ∙ ap₂ (λ a b. a ++ b) p.silent q.silent;
}

-- one Tick more
pub ticks-more : (n : ℕ) (old mid new : Meaning) → Silent (replicate n Tick) old mid → TakesEvent mid Tick new → Silent (replicate (n + 1) Tick) old new
ticks-more n old mid new before event =
    let is = event.1 in
    let one : Silent (Tick ∷ []) mid new = tick-silent event.0 mid new is.promised (goes-one Tick event.0 mid new is.promised is.notes is.room is.frames is.sound) in
    subst (λ (es : List Event). Silent es old new) (replicate_more n Tick) (silent-join (replicate n Tick) (Tick ∷ []) old mid new before one)

-- nothing has to be written of a silent stretch
pub silent-played : (xs : List Event) (s t : Meaning) (h : Sink) → Silent xs s t → Played xs s t h h
silent-played xs s t h p = record { list = p.list; goes = p.goes; those = p.those; written = wrote-silent h p.list p.silent }

pub played-join : (xs ys : List Event) (s t u : Meaning) (h k m : Sink) → Played xs s t h k → Played ys t u k m → Played (xs ++ ys) s u h m
played-join xs ys s t u h k m p q = record {
  list = p.list ++ q.list;
  goes = goes-join p.list q.list s t u p.goes q.goes;
  those = events-join p.list q.list ∙ ap₂ (λ a b. a ++ b) p.those q.those;
  written = wrote-join h k m p.list q.list p.written q.written;
}

-- a stretch that was played, and then one that broke off
pub broke-later : (xs ys : List Event) (s t u : Meaning) (h k m : Sink) → Played xs s t h k → BrokeOff ys t u k m → BrokeOff (xs ++ ys) s u h m
broke-later xs ys s t u h k m p q =
    let same : p.list ++ (q.before ++ q.last ∷ []) ≡ (p.list ++ q.before) ++ q.last ∷ [] = sym (append_assoc p.list q.before (q.last ∷ [])) in
    record {
      before = p.list ++ q.before;
      last = q.last;
      rest = q.rest;
      goes = subst (λ (zs : Steps). Goes s zs u) same (goes-join p.list (q.before ++ q.last ∷ []) s t u p.goes q.goes);
      those = ap (λ (zs : Steps). events zs ++ q.rest) (sym same) ∙ ap (λ (zs : List Event). zs ++ q.rest) (events-join p.list (q.before ++ q.last ∷ []))
          ∙ append_assoc (events p.list) (events (q.before ++ q.last ∷ [])) q.rest ∙ ap₂ (λ a b. a ++ b) p.those q.those;
      shows = q.shows;
      calls = subst (Calls h.calls m.calls)
          (sym (append_assoc (calls_of p.list) (calls_of q.before) (failed (bytes_out q.last.1) ∷ [])) ∙ ap (λ cs. cs ++ failed (bytes_out q.last.1) ∷ []) (sym (calls-join p.list q.before)))
          (calls-trans h.calls k.calls m.calls (calls_of p.list) (calls_of q.before ++ failed (bytes_out q.last.1) ∷ []) p.written.calls q.calls);
    }

-- more events were wanted behind it
pub broke-early : (xs ys : List Event) (s t : Meaning) (h k : Sink) → BrokeOff xs s t h k → BrokeOff (xs ++ ys) s t h k
broke-early xs ys s t h k q = record {
  before = q.before;
  last = q.last;
  rest = q.rest ++ ys;
  goes = q.goes;
  those = sym (append_assoc (events (q.before ++ q.last ∷ [])) q.rest ys) ∙ ap (λ (z : List Event). z ++ ys) q.those;
  shows = q.shows;
  calls = q.calls;
}

-- ---- the same event again and again

pub played-more : (e : Event) (n : ℕ) (s t u : Meaning) (h k m : Sink) → Played (replicate n e) s t h k → Played (e ∷ []) t u k m
    → Played (replicate (n + 1) e) s u h m
played-more e n s t u h k m p q = subst (λ (z : List Event). Played z s u h m) (replicate_more n e) (played-join (replicate n e) (e ∷ []) s t u h k m p q)

pub broke-within : (e : Event) (i n : ℕ) (s t u : Meaning) (h k m : Sink) → i < n → Played (replicate i e) s t h k → BrokeOff (e ∷ []) t u k m
    → BrokeOff (replicate n e) s u h m
broke-within e i n s t u h k m l p q =
    let j = broke-early (replicate i e ++ e ∷ []) (replicate (n - (i + 1)) e) s u h m (broke-later (replicate i e) (e ∷ []) s t u h k m p q) in
    let full : i + 1 + (n - (i + 1)) ≡ n = omega arith in
    let all : (replicate i e ++ e ∷ []) ++ replicate (n - (i + 1)) e ≡ replicate n e =
    ap (λ (z : List Event). z ++ replicate (n - (i + 1)) e) (replicate_more i e) ∙ replicate-append-replicate (i + 1) (n - (i + 1)) e ∙ ap (λ (z : ℕ). replicate z e) full in
    subst (λ (z : List Event). BrokeOff z s u h m) all j
