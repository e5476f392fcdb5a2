-- Events that are played one behind another, and what the console shows of them.
use Rattle.std.proofs.Common.{◌≡◌, ◌≤◌, ◌-◌, ℕ, zero, suc, Bool, true, false, ◌||◌, Option, None, Some, ◌+◌, ◌<◌, List, [], ◌∷◌, ◌++◌, length, get_or, map, replicate, take, sym, ap, ap₂, ◌∙◌, subst}
use Rattle.std.proofs.Common.{append_assoc, add-one, refl, arith, length-append, min}
use Rattle.std.proofs.lemmas.List.{append-nil, map-append, replicate-append-replicate, take_more}
use Rattle.std.proofs.lemmas.Grind.{flat_map-append}
use Rattle.circular_buffer.specs.Buffer.{keep_last, buffer, Buffer}
use Rattle.kernel_spec.specs.runs.Run.{Event, Key, Outcome, bytes_out, out}
use Rattle.xv_machine.specs.Meaning.{Meaning}
use Rattle.xv_machine.specs.Reached.{AreEvents}
use Rattle.xv_machine.proofs.Kept.{keep-more, keep-all}
use Rattle.xv_session.specs.Answers.{Sent}
use Rattle.xv_session.specs.Recorded.{Recorded}
use Rattle.xv_session.specs.Until.{faults}
use Rattle.xv_debug.specs.motion.Sent.{Plays, Sends, last_outcome, any_fault}
use Rattle.xv_debug.specs.motion.Shown.{KeepsShown}
use Rattle.xv_debug.specs.motion.Rounds.{PlaysTelling, PlaysPart, rounds_of}
use Rattle.xv_debug.specs.declared.motion.output.Output.{Output}
use Rattle.kernel_spec.specs.runs.Rounds.{round}
use Rattle.xv_debug.proofs.Reached.{adds-none, adds-join}

-- ---- lists of events and outcomes

abbrev pub Steps : Type 0
Steps = List (Event × Outcome)

pub events-go-on : (xs ys : Steps) (a b c : Meaning) → AreEvents a xs b → AreEvents b ys c → AreEvents a (xs ++ ys) c
events-go-on [] ys a b c same more = subst (λ (m : Meaning). AreEvents m ys c) same more
events-go-on (x ∷ xs) ys a b c (mid, one, rest) more = (mid, one, events-go-on xs ys mid b c rest more)

pub last-one : (xs : Steps) (e : Event) (o : Outcome) → last_outcome (xs ++ (e, o) ∷ []) ≡ Some o
last-one [] e o = refl
last-one (x ∷ []) e o = refl
last-one (x ∷ y ∷ xs) e o = last-one (y ∷ xs) e o

or-later : (a b c : Bool) → (a || b) || c ≡ a || (b || c)
or-later true b c = refl
or-later false b c = refl

faults-join : (xs ys : Steps) → any_fault (xs ++ ys) ≡ any_fault xs || any_fault ys
faults-join [] ys = refl
faults-join (x ∷ xs) ys = ap (λ b. faults x.1 || b) (faults-join xs ys) ∙ sym (or-later (faults x.1) (any_fault xs) (any_fault ys))

true-or : (a b : Bool) → a ≡ true → a || b ≡ true
true-or true b is = refl
true-or false b is = let bad : ⊥ = cc in absurd bad

or-true : (a b : Bool) → b ≡ true → a || b ≡ true
or-true true b is = refl
or-true false b is = is

one-true : (a b : Bool) (P : Type 0) → a || b ≡ true → (a ≡ true → P) → (b ≡ true → P) → P
one-true true b P is f g = f refl
one-true false b P is f g = g is

-- ---- what is shown

pub shown-none : (o : Output) → length o.last.items ≤ o.last.capacity → KeepsShown [] o o
shown-none o fits = record {
  kept = sym (ap (λ xs. buffer xs o.last.capacity) (keep-all o.last.capacity o.last.items fits));
  counted = λ _. omega arith;
}

pub shown-join : (xs ys : List ℕ) (a b c : Output) → KeepsShown xs a b → KeepsShown ys b c → KeepsShown (xs ++ ys) a c
shown-join xs ys a b c p q =
    let cap : b.last.capacity ≡ a.last.capacity = ap (λ (l : Buffer ℕ). l.capacity) p.kept in
    let items : b.last.items ≡ keep_last a.last.capacity (a.last.items ++ xs) = ap (λ (l : Buffer ℕ). l.items) p.kept in
    let long = length-append xs ys in record {
      kept = q.kept ∙ ap₂ (λ (n : ℕ) (zs : List ℕ). buffer (keep_last n (zs ++ ys)) n) cap items
          ∙ ap (λ (zs : List ℕ). buffer zs a.last.capacity) (keep-more a.last.capacity (a.last.items ++ xs) ys ∙ ap (keep_last a.last.capacity) (append_assoc a.last.items xs ys));
      counted = λ room.
          let first : b.count ≡ a.count + length xs = p.counted (omega (arith, room, long)) in
          let rest : c.count ≡ b.count + length ys = q.counted (omega (arith, room, long, first)) in
          omega (arith, first, rest, long);
    }

-- one byte more
pub pushed-kept : (xs ys : List ℕ) (b : ℕ) (a m : Output) (last : Buffer ℕ) → ys ≡ xs ++ b ∷ [] → KeepsShown xs a m
    → last ≡ buffer (keep_last m.last.capacity (m.last.items ++ b ∷ [])) m.last.capacity → last ≡ buffer (keep_last a.last.capacity (a.last.items ++ ys)) a.last.capacity
pushed-kept xs ys b a m last all p kept =
    let cap : m.last.capacity ≡ a.last.capacity = ap (λ (l : Buffer ℕ). l.capacity) p.kept in
    let items : m.last.items ≡ keep_last a.last.capacity (a.last.items ++ xs) = ap (λ (l : Buffer ℕ). l.items) p.kept in
    kept ∙ ap₂ (λ (n : ℕ) (zs : List ℕ). buffer (keep_last n (zs ++ b ∷ [])) n) cap items
    ∙ ap (λ (zs : List ℕ). buffer zs a.last.capacity)
    (keep-more a.last.capacity (a.last.items ++ xs) (b ∷ [])
    ∙ ap (keep_last a.last.capacity) (append_assoc a.last.items xs (b ∷ []) ∙ ap (λ (zs : List ℕ). a.last.items ++ zs) (sym all)))

pub pushed-counted : (xs ys : List ℕ) (b : ℕ) (a m : Output) (count : ℕ) → ys ≡ xs ++ b ∷ [] → KeepsShown xs a m → count ≡ min (m.count + 1) 18446744073709551615
    → length ys ≤ 18446744073709551615 - a.count → count ≡ a.count + length ys
pushed-counted xs ys b a m count all p counted room =
    let long : length ys ≡ length xs + 1 = ap (length {A = ℕ}) all ∙ length-append xs (b ∷ []) in
    let first : m.count ≡ a.count + length xs = p.counted (omega (arith, room, long)) in
    omega (arith, room, long, first, counted)

-- ---- events that are played

pub plays-none : (s : Recorded) (o : Output) → length o.last.items ≤ o.last.capacity → Plays [] s s o o
plays-none s o fits = record { adds = adds-none s; list = []; goes = refl; those = refl; shown = shown-none o fits }

pub plays-one : (e : Event) (o : Outcome) (old new : Recorded) (had has : Output) → Sent old e o new → KeepsShown (bytes_out o) had has → Plays (e ∷ []) old new had has
plays-one e o old new had has (one, same) shown = record {
  adds = same;
  list = (e, o) ∷ [];
  goes = (new.machine, one.event, refl);
  those = refl;
  shown = subst (λ (bs : List ℕ). KeepsShown bs had has) (sym (append-nil (bytes_out o))) shown;
}

pub plays-join : (xs ys : List Event) (a b c : Recorded) (i j k : Output) → Plays xs a b i j → Plays ys b c j k → Plays (xs ++ ys) a c i k
plays-join xs ys a b c i j k p q = record {
  adds = adds-join xs ys a b c p.adds q.adds;
  list = p.list ++ q.list;
  goes = events-go-on p.list q.list a.machine b.machine c.machine p.goes q.goes;
  those = map-append (λ (e : Event × Outcome). e.0) p.list q.list ∙ ap₂ (λ u v. u ++ v) p.those q.those;
  shown = subst (λ (bs : List ℕ). KeepsShown bs i k) (sym (flat_map-append (λ (e : Event × Outcome). bytes_out e.1) p.list q.list)) (shown-join (out p.list) (out q.list) i j k p.shown q.shown);
}

pub plays-those : (xs ys : List Event) (old new : Recorded) (had has : Output) → xs ≡ ys → Plays xs old new had has → Plays ys old new had has
plays-those xs ys old new had has same p = subst (λ (es : List Event). Plays es old new had has) same p

-- the session stayed as it was behind them
pub plays-still : (xs : List Event) (old mid new : Recorded) (had has : Output) → Plays xs old mid had has → new ≡ mid → Plays xs old new had has
plays-still xs old mid new had has p same = subst (λ (s : Recorded). Plays xs old s had has) (sym same) p

-- one more, and what came of it
pub sends-none : (s : Recorded) (o : Output) → length o.last.items ≤ o.last.capacity → Sends [] None s s o o
unfolding plays-none
sends-none s o fits = (plays-none s o fits, refl)

pub sends-more : (xs : List Event) (e : Event) (o : Outcome) (last : Option Outcome) (old mid new : Recorded) (i j k : Output) → Plays xs old mid i j → Sent mid e o new
    → KeepsShown (bytes_out o) j k → last ≡ Some o
    → Sends (xs ++ e ∷ []) last old new i k
unfolding plays-join plays-one
sends-more xs e o last old mid new i j k p one shown is = (plays-join xs (e ∷ []) old mid new i j k p (plays-one e o mid new j k one shown), is ∙ sym (last-one p.list e o))

pub sends-those : (xs ys : List Event) (last : Option Outcome) (old new : Recorded) (had has : Output) → xs ≡ ys → Sends xs last old new had has → Sends ys last old new had has
sends-those xs ys last old new had has same s = subst (λ (es : List Event). Sends es last old new had has) same s

pub sends-still : (xs : List Event) (last : Option Outcome) (old mid new : Recorded) (had has : Output) → Sends xs last old mid had has → new ≡ mid → Sends xs last old new had has
sends-still xs last old mid new had has s same = subst (λ (t : Recorded). Sends xs last old t had has) (sym same) s

-- the keys of the first bytes, and of the next
pub keys-more : (bytes : List ℕ) (place : ℕ) → place < length bytes → map Key (take place bytes) ++ Key (get_or bytes place 0) ∷ [] ≡ map Key (take (place + 1) bytes)
keys-more bytes place lt = sym (ap (map Key) (take_more bytes place 0 lt) ∙ map-append Key (take place bytes) (get_or bytes place 0 ∷ []))

-- ---- parts, and faults

pub part-of-all : (xs ys : List Event) (a b c : Recorded) (i j k : Output) → Plays xs a b i j → PlaysPart ys b c j k → PlaysPart (xs ++ ys) a c i k
part-of-all xs ys a b c i j k p q = record {
  part = xs ++ q.part;
  rest = q.rest;
  begins = append_assoc xs q.part q.rest ∙ ap (λ (es : List Event). xs ++ es) q.begins;
  plays = plays-join xs q.part a b c i j k p q.plays;
}

pub part-more : (xs ys : List Event) (old new : Recorded) (had has : Output) → PlaysPart xs old new had has → PlaysPart (xs ++ ys) old new had has
part-more xs ys old new had has p = record {
  part = p.part;
  rest = p.rest ++ ys;
  begins = sym (append_assoc p.part p.rest ys) ∙ ap (λ (es : List Event). es ++ ys) p.begins;
  plays = p.plays;
}

pub part-those : (xs ys : List Event) (old new : Recorded) (had has : Output) → xs ≡ ys → PlaysPart xs old new had has → PlaysPart ys old new had has
part-those xs ys old new had has same p = subst (λ (es : List Event). PlaysPart es old new had has) same p

-- so many of one event were to be played, and fewer were
pub part-often : (n all : ℕ) (e : Event) (old new : Recorded) (had has : Output) → n ≤ all → Plays (replicate n e) old new had has → PlaysPart (replicate all e) old new had has
part-often n all e old new had has within p = record {
  part = replicate n e;
  rest = replicate (all - n) e;
  begins = (let same : n + (all - n) ≡ all = omega (arith, within) in replicate-append-replicate n (all - n) e ∙ ap (λ (k : ℕ). replicate k e) same);
  plays = p;
}

pub telling-join : (xs ys : List Event) (f g : Bool) (a b c : Recorded) (i j k : Output) → PlaysTelling xs f a b i j → PlaysTelling ys g b c j k → PlaysTelling (xs ++ ys) (f || g) a c i k
unfolding plays-join
telling-join xs ys f g a b c i j k p q = record {
  plays = plays-join xs ys a b c i j k p.plays q.plays;
  told = λ is. faults-join p.plays.list q.plays.list ∙ one-true f g (any_fault p.plays.list || any_fault q.plays.list ≡ true) is
      (λ first. true-or (any_fault p.plays.list) (any_fault q.plays.list) (p.told first))
      (λ rest. or-true (any_fault p.plays.list) (any_fault q.plays.list) (q.told rest));
}

pub telling-nothing : (xs : List Event) (old new : Recorded) (had has : Output) → Plays xs old new had has → PlaysTelling xs false old new had has
telling-nothing xs old new had has p = record { plays = p; told = λ is. let bad : ⊥ = cc in absurd bad }

pub telling-one : (e : Event) (o : Outcome) (old new : Recorded) (had has : Output) → Sent old e o new → KeepsShown (bytes_out o) had has → PlaysTelling (e ∷ []) (faults o) old new had has
unfolding plays-one
telling-one e o old new had has one shown = record { plays = plays-one e o old new had has one shown; told = λ is. true-or (faults o) false is }

pub telling-those : (xs ys : List Event) (f g : Bool) (old new : Recorded) (had has : Output) → xs ≡ ys → f ≡ g → PlaysTelling xs f old new had has → PlaysTelling ys g old new had has
telling-those xs ys f g old new had has same is p = subst (λ (b : Bool). PlaysTelling ys b old new had has) is (subst (λ (es : List Event). PlaysTelling es f old new had has) same p)

-- ---- rounds

pub rounds-more : (quantum n : ℕ) → rounds_of quantum n ++ round quantum [] ≡ rounds_of quantum (n + 1)
rounds-more quantum n = ap (rounds_of quantum) (sym (add-one n))

-- rounds up to one among them, and those behind
pub rounds-begin : (quantum n more : ℕ) → (rest : List Event) × (rounds_of quantum n ++ rest ≡ rounds_of quantum (n + more))
rounds-begin quantum n zero = let same : n ≡ n + 0 = omega arith in ([], append-nil (rounds_of quantum n) ∙ ap (rounds_of quantum) same)
rounds-begin quantum n (suc more) =
    let before = rounds-begin quantum n more in
    let same : suc (n + more) ≡ n + suc more = omega arith in (
      before.0 ++ round quantum [],
      sym (append_assoc (rounds_of quantum n) before.0 (round quantum [])) ∙ ap (λ (es : List Event). es ++ round quantum []) before.1 ∙ ap (rounds_of quantum) same,
    )

pub rounds-part : (quantum n all : ℕ) (old new : Recorded) (had has : Output) → n ≤ all → PlaysPart (rounds_of quantum n) old new had has → PlaysPart (rounds_of quantum all) old new had has
rounds-part quantum n all old new had has within p =
    let behind = rounds-begin quantum n (all - n) in
    let same : n + (all - n) ≡ all = omega (arith, within) in
    part-those (rounds_of quantum n ++ behind.0) (rounds_of quantum all) old new had has (behind.1 ∙ ap (rounds_of quantum) same) (part-more (rounds_of quantum n) behind.0 old new had has p)
