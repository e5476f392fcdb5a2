-- A machine that goes on, with what is kept of its run.
use Rattle.std.proofs.Common.{◌≡◌, ℕ, ◌+◌, ◌-◌, length, length-append, arith, ◌<◌, ◌≤◌, true, false, List, [], ◌∷◌, ◌++◌, replicate, Option, None, Ok, inl}
use Rattle.std.proofs.Common.{inr, refl, sym, ap, ◌∙◌, subst, append-nil, append_assoc}
use Rattle.std.proofs.lemmas.Bool.{true≢false}
use Rattle.std.proofs.lemmas.List.{length-replicate, replicate_more}
use Rattle.grade_rules.specs.declared.note.Note.{Note}
use Rattle.kernel_spec.specs.runs.Run.{Event, Run, Outcome, Step_of}
use Rattle.kernel_spec.specs.runs.First.{first}
use Rattle.kernel_spec.specs.runs.Rounds.{events}
use Rattle.kernel_spec.specs.steps.Own.{Stepped}
use Rattle.kernel_spec.specs.views.State.{ProgramFile}
use Rattle.kernel_spec.specs.views.Words.{or_zero}
use Rattle.kernel_spec.specs.waking.Wakes.{IsPromised}
use Rattle.xv_machine.specs.Drives.{done_by}
use Rattle.xv_machine.specs.Meaning.{Meaning}
use Rattle.xv_machine.specs.Reached.{IsReached, IsEvent}
use Rattle.xv_machine.proofs.Joins.{goes-one, events-join}
use Rattle.xv_machine.proofs.Reached.{reaches_on}
use Rattle.xv_session.specs.Answers.{IsNew, Sent, RunsSent, stands}
use Rattle.xv_session.specs.Recorded.{Recorded, IsRecorded}
use Rattle.grade_submissions.specs.Givens.{given_in}
use Rattle.grade_submissions.specs.Pipes.{made_of, none_made, pipes_after}
use Rattle.grade_submissions.specs.Plays.{Told, runs_in, note_with, all_of, passed_notes, fault_after, fault_behind, nothing_noted, noted_with, noted_of, NotesGo}
use Rattle.grade_submissions.specs.Plays.{told_of, told_with, told_by, told_runs, is_full, PlaysOn, PlaysFirst}
use Rattle.grade_submissions.specs.declared.playing.Kept.{Kept}
use Rattle.grade_submissions.specs.declared.playing.Played.{Played}
use Rattle.grade_submissions.proofs.Noting.{noted-is, notes-one, notes-join, notes-those, IsNoteless, later, passed_with, done-noteless, other-noteless, notes-again, notes-passed}
use Rattle.grade_submissions.proofs.Telling.{told-join, done-told, runs-told}

abbrev Steps : Type 0
Steps = List (Event × Outcome)

pub plays-none : (p : Played) → PlaysOn [] p p
plays-none p = record {
  list = [];
  those = refl;
  reaches = λ frames trace programs es here. subst (λ (xs : List (Event × Outcome)). IsReached frames trace programs xs p.session.machine) (sym (append-nil es)) here;
  noted = (refl, refl);
  told = refl;
  budget = refl;
}

pub plays-join : (xs ys : List Event) (a b c : Played) → PlaysOn xs a b → PlaysOn ys b c → PlaysOn (xs ++ ys) a c
plays-join xs ys a b c one two = record {
  list = one.list ++ two.list;
  those = events-join one.list two.list ∙ ap (λ (es : List Event). es ++ events two.list) one.those ∙ ap (λ (es : List Event). xs ++ es) two.those;
  reaches = λ frames trace programs es here. subst (λ (xs : List (Event × Outcome)). IsReached frames trace programs xs c.session.machine)
      (append_assoc es one.list two.list) (two.reaches frames trace programs (es ++ one.list) (one.reaches frames trace programs es here));
  noted = notes-join one.list two.list a.session.machine.world b.session.machine.world c.session.machine.world (noted_of a) (noted_of b) (noted_of c) one.noted two.noted;
  told = two.told ∙ ap (λ (t : Told). told_by t two.list) one.told ∙ sym (told-join (told_of a.kept) one.list two.list);
  budget = two.budget ∙ one.budget;
}

pub plays-those : (xs ys : List Event) (a b : Played) → xs ≡ ys → PlaysOn xs a b → PlaysOn ys a b
plays-those xs ys a b same plays = subst (λ (es : List Event). PlaysOn es a b) same plays

-- one event was sent
longer : (old new : Recorded) (e : Event) (o : Outcome) → Sent old e o new → length new.events ≡ length old.events + 1
longer old new e o sent = ap (λ (s : Recorded). length s.events) sent.1 ∙ length-append old.events (e ∷ [])

-- its place
place-of : (old new : Recorded) (e : Event) (o : Outcome) (place : ℕ) → Sent old e o new → place ≡ length new.events - 1 → place ≡ length old.events
place-of old new e o place sent is = let long = longer old new e o sent in omega (arith, is, long)

-- one event, of which this comes
module _ (e : Event) (o : Outcome) (old new : Played) (sent : Sent old.session e o new.session) where
  abbrev one : IsEvent old.session.machine e o new.session.machine
  one = sent.0.event

  abbrev here : Steps
  here = (e, o) ∷ []

  on-reached : (frames trace : ℕ) (programs : List ProgramFile) (es : Steps) → IsReached frames trace programs es old.session.machine → IsReached frames trace programs (es ++ here) new.session.machine
  on-reached frames trace programs es reached = reaches_on frames trace programs es here old.session.machine new.session.machine reached
      (goes-one e o old.session.machine new.session.machine one.promised one.notes one.room one.frames one.sound)

  pub plays-one : noted_of new ≡ noted_with old.session.machine.world new.session.machine.world o (noted_of old) → told_of new.kept ≡ told_with (told_of old.kept) (runs_in e) o
      → new.kept.budget ≡ old.kept.budget → PlaysOn (e ∷ []) old new
  plays-one noted told same = record {
    list = here;
    those = refl;
    reaches = on-reached;
    noted = notes-those old.session.machine.world new.session.machine.world here (noted_of old) (noted_with old.session.machine.world new.session.machine.world o (noted_of old))
        (noted_of new) (sym noted)
        (notes-one old.session.machine.world new.session.machine.world e o (noted_of old) one.promised);
    told = told;
    budget = same;
  }

  -- it isn't Run
  pub plays-event : (place : ℕ) → runs_in e ≡ 0 → place ≡ length new.session.events - 1 → new.kept.notes.items ≡ old.kept.notes.items
      → new.kept.fault ≡ fault_after old.kept.fault place o → made_of new.kept.pipes ≡ made_of old.kept.pipes → told_of new.kept ≡ told_with (told_of old.kept) 0 o
      → new.kept.budget ≡ old.kept.budget → PlaysOn (e ∷ []) old new
  plays-event place other last notes fault pipes told same =
      let w = old.session.machine.world in
      let t = new.session.machine.world in
      let before = made_of old.kept.pipes in
      let quiet : IsNoteless o = other-noteless w new.session.machine.world e o other one.promised in
      plays-one
      (noted-is (noted_of new) (noted_with w t o (noted_of old))
      (notes ∙ sym (ap (λ (x : Option Note). old.kept.notes.items ++ all_of x) (quiet.none (given_in before w)) ∙ append-nil old.kept.notes.items))
      (fault ∙ ap (λ (k : ℕ). fault_after old.kept.fault k o) (place-of old.session new.session e o place sent last)) (longer old.session new.session e o sent)
      (pipes ∙ sym (quiet.pipeless (given_in before w) t before)))
      (told ∙ ap (λ (n : ℕ). told_with (told_of old.kept) n o) (sym other)) same

-- a Run, of the machine before which the note tells
pub plays-run : (o : Outcome) (place : ℕ) (old new : Played) → Sent old.session Run o new.session → place ≡ length new.session.events - 1
    → new.kept.notes.items ≡ old.kept.notes.items ++ all_of (note_with (given_in (made_of old.kept.pipes) old.session.machine.world) o) → new.kept.fault ≡ fault_after old.kept.fault place o
    → made_of new.kept.pipes ≡ pipes_after (given_in (made_of old.kept.pipes) old.session.machine.world) new.session.machine.world o (made_of old.kept.pipes)
    → told_of new.kept ≡ told_with (told_of old.kept) 1 o → new.kept.budget ≡ old.kept.budget → PlaysOn (Run ∷ []) old new
plays-run o place old new sent last notes fault pipes told same =
    plays-one Run o old new sent
    (noted-is (noted_of new) (noted_with old.session.machine.world new.session.machine.world o (noted_of old)) notes
    (fault ∙ ap (λ (k : ℕ). fault_after old.kept.fault k o) (place-of old.session new.session Run o place sent last)) (longer old.session new.session Run o sent) pipes) told same

-- so many Runs were sent
more-events : (made : ℕ) (old new : Played) → new.session ≡ stands old.session (old.session.events ++ replicate made Run) new.session.machine new.session.names
    → length new.session.events ≡ length old.session.events + made
more-events made old new stays =
    ap (λ (s : Recorded). length s.events) stays ∙ length-append old.session.events (replicate made Run) ∙ ap (λ (k : ℕ). length old.session.events + k) (length-replicate made Run)

-- instructions that are done
pub plays-instructions : (made : ℕ) (old new : Played) → RunsSent made made None old.session new.session → new.kept.notes.items ≡ old.kept.notes.items → new.kept.fault ≡ old.kept.fault
    → made_of new.kept.pipes ≡ made_of old.kept.pipes → ((p : ℕ) → told_of new.kept ≡ told_by (told_of old.kept) (replicate made (done_by p))) → new.kept.budget ≡ old.kept.budget → PlaysOn
    (replicate made Run) old new
plays-instructions made old new (are, stays) notes fault pipes told same =
    let w = old.session.machine.world in
    let v = new.session.machine.world in
    let noted : noted_of new ≡ later (noted_of old) made = noted-is (noted_of new) (later (noted_of old) made) notes fault (more-events made old new stays) pipes in
    let p = or_zero w.turns.current in record {
      list = are.list;
      those = are.those;
      reaches = λ frames trace programs es here. reaches_on frames trace programs es are.list old.session.machine new.session.machine here are.goes;
      noted = subst (λ (es : Steps). NotesGo w es v (noted_of old) (noted_of new)) (sym are.runs_are)
          (notes-those w v (replicate made (done_by p)) (noted_of old) (later (noted_of old) made) (noted_of new) (sym noted)
          (notes-again made w v Run (Step_of p Stepped) (noted_of old) (done-noteless p) (subst (λ (es : Steps). IsPromised w es v) are.runs_are are.goes.run)));
      told = told p ∙ ap (told_by (told_of old.kept)) (sym are.runs_are);
      budget = same;
    }

-- none of them
pub plays-still : (made : ℕ) (old new : Played) → RunsSent made made None old.session new.session → made ≡ 0 → new.kept ≡ old.kept → PlaysOn [] old new
plays-still made old new are none same =
    plays-those (replicate made Run) [] old new (ap (λ (n : ℕ). replicate n Run) none)
    (plays-instructions made old new are (ap (λ (k : Kept). k.notes.items) same) (ap (λ (k : Kept). k.fault) same) (ap (λ (k : Kept). made_of k.pipes) same)
    (λ p. ap told_of same ∙ ap (λ (n : ℕ). told_by (told_of old.kept) (replicate n (done_by p))) (sym none)) (ap (λ (k : Kept). k.budget) same))

-- some
pub plays-done : (made : ℕ) (old new : Played) → RunsSent made made None old.session new.session → 0 < made → new.kept.notes.items ≡ old.kept.notes.items → new.kept.fault ≡ old.kept.fault
    → made_of new.kept.pipes ≡ made_of old.kept.pipes → told_of new.kept ≡ told_runs (told_of old.kept) made None → new.kept.budget ≡ old.kept.budget → PlaysOn (replicate made Run) old new
plays-done made old new are some notes fault pipes told same = plays-instructions made old new are notes fault pipes (λ p. told ∙ sym (done-told made p (told_of old.kept) some)) same

-- Runs as nobody runs
pub plays-passed : (most sent place : ℕ) (last : Option Outcome) (old new : Played) → 0 < most → old.session.machine.world.turns.current ≡ None → RunsSent most sent last old.session new.session
    → place ≡ length new.session.events - 1 → new.kept.notes.items ≡ old.kept.notes.items ++ passed_notes last → new.kept.fault ≡ fault_behind old.kept.fault place last
    → made_of new.kept.pipes ≡ made_of old.kept.pipes → told_of new.kept ≡ told_runs (told_of old.kept) sent last → new.kept.budget ≡ old.kept.budget → PlaysOn (replicate sent Run) old new
    × (0 < sent) × (sent ≤ most)
plays-passed most sent place last old new some nobody (made, stays) at notes fault pipes told same =
    let w = old.session.machine.world in
    let long = more-events sent old new stays in
    let there : place ≡ length old.session.events + sent - 1 = omega (arith, at, long) in
    let noted : noted_of new ≡ passed_with (noted_of old) sent last =
    noted-is (noted_of new) (passed_with (noted_of old) sent last) notes (fault ∙ ap (λ (k : ℕ). fault_behind old.kept.fault k last) there) long pipes in
    let is = runs-told most sent _ last made.list (told_of old.kept) some made.runs_are made.those in (
      record {
        list = made.list;
        those = made.those;
        reaches = λ frames trace programs es here. reaches_on frames trace programs es made.list old.session.machine new.session.machine here made.goes;
        noted = notes-those w new.session.machine.world made.list (noted_of old) (passed_with (noted_of old) sent last) (noted_of new) (sym noted)
            (notes-passed w new.session.machine.world nobody (noted_of old) most sent _ last made.list made.runs_are made.those made.goes.run);
        told = told ∙ sym is.0;
        budget = same;
      },
      is.1,
      is.2,
    )

-- Runs, and one more
pub plays-more : (n : ℕ) (a b c : Played) → PlaysOn (replicate n Run) a b → PlaysOn (Run ∷ []) b c → PlaysOn (replicate (n + 1) Run) a c
plays-more n a b c some one = plays-those (replicate n Run ++ (Run ∷ [])) (replicate (n + 1) Run) a c (replicate_more n Run) (plays-join (replicate n Run) (Run ∷ []) a b c some one)

-- ---- events of which the first are played

pub first-all : (xs : List Event) (a b : Played) → PlaysOn xs a b → PlaysFirst xs a b
first-all xs a b plays = record { part = xs; rest = []; those = append-nil xs; plays = plays; all = inl refl }

pub first-those : (xs ys : List Event) (a b : Played) → xs ≡ ys → PlaysFirst xs a b → PlaysFirst ys a b
first-those xs ys a b same first = subst (λ (es : List Event). PlaysFirst es a b) same first

-- it is full, so that more isn't played
pub first-full : (xs ys : List Event) (a b : Played) → PlaysFirst xs a b → is_full b.kept ≡ true → PlaysFirst (xs ++ ys) a b
first-full xs ys a b first full = record {
  part = first.part;
  rest = first.rest ++ ys;
  those = sym (append_assoc first.part first.rest ys) ∙ ap (λ (es : List Event). es ++ ys) first.those;
  plays = first.plays;
  all = inr full;
}

-- it isn't, so that all were played
pub all-played : (xs : List Event) (a b : Played) → PlaysFirst xs a b → is_full b.kept ≡ false → PlaysOn xs a b
all-played xs a b first free = elim first.all [
  | inl none ↦ plays-those first.part xs a b (sym (append-nil first.part) ∙ ap (λ (es : List Event). first.part ++ es) (sym none) ∙ first.those) first.plays
  | inr full ↦ absurd (true≢false (sym full ∙ free))
]

pub first-more : (xs ys : List Event) (a b c : Played) → PlaysFirst xs a b → is_full b.kept ≡ false → PlaysFirst ys b c → PlaysFirst (xs ++ ys) a c
first-more xs ys a b c one free two = record {
  part = xs ++ two.part;
  rest = two.rest;
  those = append_assoc xs two.part two.rest ∙ ap (λ (es : List Event). xs ++ es) two.those;
  plays = plays-join xs two.part a b c (all-played xs a b one free) two.plays;
  all = two.all;
}

-- ---- from boot on

no-events : (list : List (Event × Outcome)) → events list ≡ [] → list ≡ []
no-events [] none = refl
no-events (e ∷ list) none = absurd (cc)

pub booted-reached : (frames trace : ℕ) (programs : List ProgramFile) (s : Recorded) → IsRecorded s → IsNew frames trace programs s → IsReached frames trace programs [] s.machine
booted-reached frames trace programs s (list, those, reached, named) new =
    let none : list ≡ [] = no-events list (those ∙ new.events) in
    let a : IsReached s.frames s.trace s.programs [] s.machine = subst (λ (xs : List (Event × Outcome)). IsReached s.frames s.trace s.programs xs s.machine) none reached in
    let b : IsReached frames s.trace s.programs [] s.machine = subst (λ (n : ℕ). IsReached n s.trace s.programs [] s.machine) new.frames_are a in
    let c : IsReached frames trace s.programs [] s.machine = subst (λ (n : ℕ). IsReached frames n s.programs [] s.machine) new.trace_is b in
    subst (λ (ps : List ProgramFile). IsReached frames trace ps [] s.machine) new.programs_are c

-- the first world, and that no note stands of it yet
pub booted-noted : (frames trace : ℕ) (programs : List ProgramFile) (m : Meaning) → IsReached frames trace programs [] m → first frames trace programs ≡ Ok m.world
booted-noted frames trace programs m (booted, is, count, sound, empty, goes) = is ∙ ap Ok (sym goes.run)

-- nothing is noted yet
pub booted-blank : (frames trace : ℕ) (programs : List ProgramFile) (s : Recorded) (p : Played) → IsNew frames trace programs s → p.session ≡ s → p.kept.notes.items ≡ [] → p.kept.fault ≡ None
    → made_of p.kept.pipes ≡ none_made → noted_of p ≡ nothing_noted
booted-blank frames trace programs s p new is notes fault pipes =
    noted-is (noted_of p) nothing_noted notes fault (ap (λ (r : Recorded). length r.events) is ∙ ap length new.events) pipes
