-- The parts of a round, one after another, and stretches of equal events.
use Rattle.std.proofs.Common.{◌≡◌, ◌≢◌, ◌∙◌, ℕ, ◌+◌, ◌-◌, ◌<◌, ◌≤◌, List, [], ◌∷◌, ◌++◌, length, take, drop, get_or, append-nil}
use Rattle.std.proofs.Common.{sym, ap, subst, replicate, arith, Option, None, Some, Result, Ok, Err, OnOk, OnErr}
use Rattle.std.proofs.lemmas.Grind.{flat_map-append}
use Rattle.std.proofs.lemmas.List.{take_all, take_more, take-append-drop, replicate_more, replicate-append-replicate}
use Rattle.std.specs.Io.KnownBytes.{Appends}
use Rattle.kernel_spec.specs.runs.Run.{Event, Send, Outcome, Sent, bytes_out, out}
use Rattle.kernel_spec.specs.runs.Rounds.{events}
use Rattle.xv_machine.specs.Devices.{Sink, Calls, failed}
use Rattle.xv_machine.specs.Drives.{Goes, SendsMade, call_of, calls_of}
use Rattle.xv_machine.specs.Meaning.{Meaning}
use Rattle.xv_machine.specs.RoundParts.{events_of_part, events_of_parts}
use Rattle.xv_machine.specs.Sound.{IsSoundMachine}
use Rattle.xv_machine.specs.Stretches.{Played, BrokeOff, Plays, sends}
use Rattle.xv_machine.specs.declared.parts.RoundPart.{RoundPart}
use Rattle.xv_machine.proofs.Idle.{out-again}
use Rattle.xv_machine.proofs.Joins.{calls-join, events-join, shows-join, silent-calls, none-played, played-join, broke-early, broke-later}
use Rattle.xv_machine.proofs.Sent.{events-again}

abbrev Steps : Type 0
Steps = List (Event × Outcome)

-- ---- parts

-- the first parts, one more
pub parts-more : (xs : List RoundPart) (i : ℕ) (d : RoundPart) → i < length xs → events_of_parts (take (i + 1) xs) ≡ events_of_parts (take i xs) ++ events_of_part (get_or xs i d)
parts-more xs i d below =
    ap events_of_parts (take_more xs i d below)
    ∙ (flat_map-append events_of_part (take i xs) (get_or xs i d ∷ []) ∙ ap (λ (es : List Event). events_of_parts (take i xs) ++ es) (append-nil (events_of_part (get_or xs i d))))

-- so many of the first parts that they are all
pub parts-all : (xs : List RoundPart) (i : ℕ) → length xs ≤ i → events_of_parts (take i xs) ≡ events_of_parts xs
parts-all xs i all = ap events_of_parts (take_all i xs all)

-- the first parts, one more, and those that follow
pub parts-around : (xs : List RoundPart) (i : ℕ) (d : RoundPart) → i < length xs
    → (events_of_parts (take i xs) ++ events_of_part (get_or xs i d)) ++ events_of_parts (drop (i + 1) xs) ≡ events_of_parts xs
parts-around xs i d below =
    ap (λ (es : List Event). es ++ events_of_parts (drop (i + 1) xs)) (sym (parts-more xs i d below))
    ∙ (sym (flat_map-append events_of_part (take (i + 1) xs) (drop (i + 1) xs)) ∙ ap events_of_parts (take-append-drop (i + 1) xs))

-- ---- events that were wanted

pub played-those : (xs ys : List Event) (s t : Meaning) (h k : Sink) → xs ≡ ys → Played xs s t h k → Played ys s t h k
played-those xs ys s t h k same p = subst (λ (es : List Event). Played es s t h k) same p

pub broke-those : (xs ys : List Event) (s t : Meaning) (h k : Sink) → xs ≡ ys → BrokeOff xs s t h k → BrokeOff ys s t h k
broke-those xs ys s t h k same p = subst (λ (es : List Event). BrokeOff es s t h k) same p

module _ {E : Type 0} (xs : List Event) (old new : Meaning) (h k : Sink) where
  -- they were played, or not all of them
  pub played-of : (r : Result (Unit {0}) E) (u : Unit {0}) → r ≡ Ok u → Plays r xs old new h k → Played xs old new h k
  played-of (Ok x) u is plays = plays
  played-of (Err e) u is plays = let no : ⊥ = cc in absurd no

  pub broke-of : (r : Result (Unit {0}) E) (e : E) → r ≡ Err e → Plays r xs old new h k → BrokeOff xs old new h k
  broke-of (Ok x) e is plays = let no : ⊥ = cc in absurd no
  broke-of (Err x) e is plays = plays

-- ---- so many of one event

-- none of them yet
pub often-none : (e : Event) (count : ℕ) (m : Meaning) (h : Sink) → IsSoundMachine m → Played (replicate (count - count) e) m m h h
often-none e count m h sound = let none : 0 ≡ count - count = omega arith in subst (λ (n : ℕ). Played (replicate n e) m m h h) none (none-played m h sound)

module _ (e : Event) (count left sent : ℕ) (s t u : Meaning) (h k m : Sink) (within : left ≤ count) (few : sent ≤ left) (before : Played (replicate (count - left) e) s t h k) where
  -- some of those that are left
  pub often-more : Played (replicate sent e) t u k m → Played (replicate (count - (left - sent)) e) s u h m
  often-more p =
      let n : count - left + sent ≡ count - (left - sent) = omega (arith, within, few) in
      played-those (replicate (count - left) e ++ replicate sent e) (replicate (count - (left - sent)) e) s u h m
      (replicate-append-replicate (count - left) sent e ∙ ap (λ (z : ℕ). replicate z e) n) (played-join (replicate (count - left) e) (replicate sent e) s t u h k m before p)

  -- or some of them were to be played, and broke off
  pub often-broke : BrokeOff (replicate sent e) t u k m → BrokeOff (replicate count e) s u h m
  often-broke p =
      let n : count - left + sent + (left - sent) ≡ count = omega (arith, within, few) in
      broke-those ((replicate (count - left) e ++ replicate sent e) ++ replicate (left - sent) e) (replicate count e) s u h m
      (ap (λ (z : List Event). z ++ replicate (left - sent) e) (replicate-append-replicate (count - left) sent e)
      ∙ (replicate-append-replicate (count - left + sent) (left - sent) e ∙ ap (λ (z : ℕ). replicate z e) n))
      (broke-early (replicate (count - left) e ++ replicate sent e) (replicate (left - sent) e) s u h m (broke-later (replicate (count - left) e) (replicate sent e) s t u h k m before p))

-- ---- Sends, of which the last may send a byte

idle-out : (n : ℕ) (byte : Option ℕ) → out (replicate n (Send, Sent None) ++ (Send, Sent byte) ∷ []) ≡ bytes_out (Sent byte)
idle-out n byte =
    shows-join (replicate n (Send, Sent None)) ((Send, Sent byte) ∷ []) ∙ (ap (λ (bs : List ℕ). bs ++ out ((Send, Sent byte) ∷ [])) (out-again n) ∙ append-nil (bytes_out (Sent byte)))

idle-calls : (n : ℕ) (byte : Option ℕ) → calls_of (replicate n (Send, Sent None) ++ (Send, Sent byte) ∷ []) ≡ call_of (bytes_out (Sent byte))
idle-calls n byte =
    calls-join (replicate n (Send, Sent None)) ((Send, Sent byte) ∷ [])
    ∙ (ap (λ cs. cs ++ calls_of ((Send, Sent byte) ∷ [])) (silent-calls (replicate n (Send, Sent None)) (out-again n)) ∙ append-nil (call_of (bytes_out (Sent byte))))

idle-events : (n sent : ℕ) (byte : Option ℕ) → sent ≡ n + 1 → events (replicate n (Send, Sent None) ++ (Send, Sent byte) ∷ []) ≡ replicate sent Send
idle-events n sent byte is =
    events-join (replicate n (Send, Sent None)) ((Send, Sent byte) ∷ [])
    ∙ (ap (λ (es : List Event). es ++ Send ∷ []) (events-again n Send (Sent None)) ∙ (replicate_more n Send ∙ ap (λ (z : ℕ). replicate z Send) (sym is)))

-- what the last one sent was written, or couldn't be
pub sends-play : {E : Type 0} (r : Result (Unit {0}) E) (sent : ℕ) (byte : Option ℕ) (old new : Meaning) (h k : Sink) (bytes : List ℕ) → SendsMade sent byte old new → bytes ≡ bytes_out (Sent byte)
    → OnOk r (Appends h.held k.held bytes) → OnOk r (Calls h.calls k.calls (call_of bytes)) → OnErr r (Calls h.calls k.calls (failed bytes ∷ [])) → OnErr r (bytes ≢ [])
    → Plays r (replicate sent Send) old new h k
sends-play (Ok x) sent byte old new h k bytes made is written called broken some = record {
  list = replicate made.idle (Send, Sent None) ++ (Send, Sent byte) ∷ [];
  goes = made.goes;
  those = idle-events made.idle sent byte made.count;
  written = record {
    bytes = subst (Appends h.held k.held) (is ∙ sym (idle-out made.idle byte)) written;
    calls = subst (Calls h.calls k.calls) (ap call_of is ∙ sym (idle-calls made.idle byte)) called;
  };
}
sends-play (Err x) sent byte old new h k bytes made is written called broken some = record {
  before = replicate made.idle (Send, Sent None);
  last = (Send, Sent byte);
  rest = [];
  goes = made.goes;
  those = append-nil (events (replicate made.idle (Send, Sent None) ++ (Send, Sent byte) ∷ [])) ∙ idle-events made.idle sent byte made.count;
  shows = λ none. some (is ∙ none);
  calls = subst (λ cs. Calls h.calls k.calls (cs ++ failed (bytes_out (Sent byte)) ∷ [])) (sym (silent-calls (replicate made.idle (Send, Sent None)) (out-again made.idle)))
      (subst (λ bs. Calls h.calls k.calls (failed bs ∷ [])) is broken);
}

-- ---- the Sends of a machine

-- a byte leaves
pub byte-made : (most : ℕ) (byte : Option ℕ) (b : ℕ) (old new : Meaning) → byte ≡ Some b → Goes old (sends most byte) new → SendsMade 1 (Some b) old new
byte-made most None b old new is goes = let no : ⊥ = cc in absurd no
byte-made most (Some c) b old new is goes =
    let same : c ≡ b = cc in
    record { idle = 0; goes = subst (λ (x : ℕ). Goes old ((Send, Sent (Some x)) ∷ []) new) same goes; count = omega arith }

-- none waits: all of them were sent
pub none-made : (most : ℕ) (byte : Option ℕ) (old new : Meaning) → 0 < most → byte ≡ None → Goes old (sends most byte) new → SendsMade most None old new
none-made most (Some b) old new some is goes = let no : ⊥ = cc in absurd no
none-made most None old new some is goes =
    let n : most ≡ most - 1 + 1 = omega (arith, some) in
    let one : Event × Outcome = (Send, Sent None) in
    record {
      idle = most - 1;
      goes = subst (λ (xs : Steps). Goes old xs new) (ap (λ (z : ℕ). replicate z one) n ∙ sym (replicate_more (most - 1) one)) goes;
      count = n;
    }
