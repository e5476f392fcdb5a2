-- The notes of events, one behind another.
use Rattle.std.specs.Prelude.{ℤ}
use Rattle.std.proofs.Common.{◌≡◌, ℕ, zero, suc, ◌+◌, ◌-◌, List, [], ◌∷◌, ◌++◌, length, replicate, Option, None, Some, inl, inr, refl, sym, ap, ◌∙◌, subst, arith, append-nil, length-append}
use Rattle.std.proofs.lemmas.List.{length-replicate}
use Rattle.console_core.specs.Keys.{line}
use Rattle.grade_rules.specs.declared.given.Given.{Given}
use Rattle.grade_rules.specs.declared.note.Note.{Note}
use Rattle.kernel_spec.specs.runs.Rounds.{events}
use Rattle.kernel_spec.specs.runs.Run.{World, Event, Run, Tick, Key, Send, Outcome, Step_of, Turn, Idle, Ticked, Typed, Sent, Halted, RunHappens, TickHappens, KeyHappens, first_sent}
use Rattle.kernel_spec.specs.steps.Own.{Answer, Stepped}
use Rattle.kernel_spec.specs.waking.Wakes.{Promised, IsPromised}
use Rattle.xv_machine.specs.Drives.{done_by}
use Rattle.xv_session.specs.Steps.{AreRunsTo}
use Rattle.xv_session.proofs.RunsCounted.{count-sent}
use Rattle.grade_submissions.specs.Givens.{given_in, given_by, nothing_given}
use Rattle.grade_submissions.specs.Pipes.{Made, pipes_after}
use Rattle.grade_submissions.specs.Plays.{Noted, runs_in, note_with, all_of, passed_notes, fault_after, fault_behind, noted_with, NotesGo}

-- what is noted, of its parts
abbrev pub noted-of : List Note → (fault : Option ℕ) → (events : ℕ) → Made → Noted
noted-of notes fault events pipes = record { notes = notes; fault = fault; events = events; pipes = pipes }

pub noted-is : (n m : Noted) → n.notes ≡ m.notes → n.fault ≡ m.fault → n.events ≡ m.events → n.pipes ≡ m.pipes → n ≡ m
noted-is n m notes fault count pipes =
    ap (λ (ns : List Note). noted-of ns n.fault n.events n.pipes) notes ∙ ap (λ (f : Option ℕ). noted-of m.notes f n.events n.pipes) fault
    ∙ ap (λ (k : ℕ). noted-of m.notes m.fault k n.pipes) count ∙ ap (λ (p : Made). noted-of m.notes m.fault m.events p) pipes

pub notes-one : (w t : World) (e : Event) (o : Outcome) (n : Noted) → Promised w e o t → NotesGo w ((e, o) ∷ []) t n (noted_with w t o n)
notes-one w t e o n promised = (t, promised, (refl, refl))

pub notes-join : (xs ys : List (Event × Outcome)) (w m t : World) (a b c : Noted) → NotesGo w xs m a b → NotesGo m ys t b c → NotesGo w (xs ++ ys) t a c
notes-join [] ys w m t a b c p q = subst (λ (v : World). NotesGo v ys t a c) p.0 (subst (λ (n : Noted). NotesGo m ys t n c) p.1 q)
notes-join (x ∷ xs) ys w m t a b c (mid, one, more) q = (mid, one, notes-join xs ys mid m t (noted_with w mid x.1 a) b c more q)

pub notes-those : (w t : World) (list : List (Event × Outcome)) (a b c : Noted) → b ≡ c → NotesGo w list t a b → NotesGo w list t a c
notes-those w t list a b c same go = subst (λ (n : Noted). NotesGo w list t a n) same go

-- ---- outcomes without a note

pub record IsNoteless (o : Outcome) : Type 0 where
  pub none : (given : Given) → note_with given o ≡ None
  pub faultless : (before : Option ℕ) (place : ℕ) → fault_after before place o ≡ before
  pub pipeless : (given : Given) (t : World) (made : Made) → pipes_after given t o made ≡ made

pub done-noteless : (p : ℕ) → IsNoteless (Step_of p Stepped)
done-noteless p = record { none = λ given. refl; faultless = λ before place. refl; pipeless = λ given t made. refl }

idle-noteless : IsNoteless Idle
idle-noteless = record { none = λ given. refl; faultless = λ before place. refl; pipeless = λ given t made. refl }

halted-noteless : IsNoteless Halted
halted-noteless = record { none = λ given. refl; faultless = λ before place. refl; pipeless = λ given t made. refl }

ticked-noteless : IsNoteless Ticked
ticked-noteless = record { none = λ given. refl; faultless = λ before place. refl; pipeless = λ given t made. refl }

typed-noteless : (echo : List ℕ) → IsNoteless (Typed echo)
typed-noteless echo = record { none = λ given. refl; faultless = λ before place. refl; pipeless = λ given t made. refl }

sent-noteless : (byte : Option ℕ) → IsNoteless (Sent byte)
sent-noteless byte = record { none = λ given. refl; faultless = λ before place. refl; pipeless = λ given t made. refl }

tick-noteless : (w t : World) (halted : Option ℤ) (o : Outcome) → TickHappens w halted o t → IsNoteless o
tick-noteless w t (Some status) o h = subst IsNoteless (sym h.0) halted-noteless
tick-noteless w t None o h = subst IsNoteless (sym h.0) ticked-noteless

key-noteless : (w t : World) (byte : ℕ) (halted : Option ℤ) (o : Outcome) → KeyHappens w halted byte o t → IsNoteless o
key-noteless w t byte (Some status) o h = subst IsNoteless (sym h.0) halted-noteless
key-noteless w t byte None o h = subst IsNoteless (sym h.0) (typed-noteless (line w.state.console byte).1)

-- of an event other than Run no note comes
pub other-noteless : (w t : World) (e : Event) (o : Outcome) → runs_in e ≡ 0 → Promised w e o t → IsNoteless o
other-noteless w t Run o other promised = absurd (omega (arith, other))
other-noteless w t Tick o other promised = tick-noteless w t w.turns.halted o promised.0
other-noteless w t (Key byte) o other promised = key-noteless w t byte w.turns.halted o promised.0
other-noteless w t Send o other promised = subst IsNoteless (sym promised.0.0) (sent-noteless (first_sent w.state.console.to_send))

-- so many events later, of which nothing is noted
abbrev pub later : Noted → (count : ℕ) → Noted
later n count = record { notes = n.notes; fault = n.fault; events = n.events + count; pipes = n.pipes }

pub none-more : (w t : World) (o : Outcome) (n : Noted) → IsNoteless o → noted_with w t o n ≡ later n 1
none-more w t o n quiet =
    noted-is (noted_with w t o n) (later n 1) (ap (λ (x : Option Note). n.notes ++ all_of x) (quiet.none (given_in n.pipes w)) ∙ append-nil n.notes) (quiet.faultless n.fault n.events) refl
    (quiet.pipeless (given_in n.pipes w) t n.pipes)

-- the same outcome again and again, of which nothing is noted
pub notes-again : (k : ℕ) (w t : World) (e : Event) (o : Outcome) (n : Noted) → IsNoteless o → IsPromised w (replicate k (e, o)) t → NotesGo w (replicate k (e, o)) t n (later n k)
notes-again zero w t e o n quiet run = (run, noted-is (later n 0) n refl refl (omega arith) refl)
notes-again (suc k) w t e o n quiet (mid, one, more) = (
  mid,
  one,
  subst (λ (m : Noted). NotesGo mid (replicate k (e, o)) t m (later n (suc k))) (sym (none-more w mid o n quiet))
      (notes-those mid t (replicate k (e, o)) (later n 1) (later (later n 1) k) (later n (suc k)) (noted-is (later (later n 1) k) (later n (suc k)) refl refl (omega arith) refl)
      (notes-again k mid t e o (later n 1) quiet more)),
)

-- ---- Runs as nobody runs

no-step : (w t : World) (halted : Option ℤ) (current : Option ℕ) (p : ℕ) (answer : Answer) → current ≡ None → RunHappens w halted current (Step_of p answer) t → ⊥
no-step w t (Some status) current p answer none happens = let is : Step_of p answer ≡ Halted = happens.0 in absurd (cc)
no-step w t None None p answer none happens = happens
no-step w t None (Some q) p answer none happens = absurd (cc)

-- what is noted behind so many Runs, of the last of which this came
abbrev pub passed_with : Noted → (sent : ℕ) → Option Outcome → Noted
passed_with n sent last = record { notes = n.notes ++ passed_notes last; fault = fault_behind n.fault (n.events + sent - 1) last; events = n.events + sent; pipes = n.pipes }

-- nobody makes a pipe
no-pipe : (w t v : World) (o : Outcome) (given : Given) (made : Made) → w.turns.current ≡ None → RunHappens w w.turns.halted w.turns.current o t → pipes_after given v o made ≡ made
no-pipe w t v (Step_of p answer) given made nobody happens = absurd (no-step w t w.turns.halted w.turns.current p answer nobody happens)
no-pipe w t v (Turn p) given made nobody happens = refl
no-pipe w t v Idle given made nobody happens = refl
no-pipe w t v Ticked given made nobody happens = refl
no-pipe w t v (Typed echo) given made nobody happens = refl
no-pipe w t v (Sent byte) given made nobody happens = refl
no-pipe w t v Halted given made nobody happens = refl

-- what came of the first Run has the note that stands for nobody's
first-noted : (w t : World) (o : Outcome) (n : Noted) → w.turns.current ≡ None → RunHappens w w.turns.halted w.turns.current o t → noted_with w t o n ≡ passed_with n 1 (Some o)
first-noted w t o n nobody happens =
    let place : n.events ≡ n.events + 1 - 1 = omega arith in
    noted-is (noted_with w t o n) (passed_with n 1 (Some o)) (ap (λ (c : Option ℕ). n.notes ++ all_of (note_with (given_by n.pipes w c) o)) nobody) (ap (λ (k : ℕ). fault_after n.fault k o) place) refl
    (no-pipe w t t o (given_in n.pipes w) n.pipes nobody happens)

module _ (w t : World) (nobody : w.turns.current ≡ None) (n : Noted) where
  -- instructions can't come first
  at-once : (made p sent : ℕ) (o : Outcome) → sent ≡ made + 1 → IsPromised w (replicate made (done_by p) ++ (Run, o) ∷ []) t
      → NotesGo w (replicate made (done_by p) ++ (Run, o) ∷ []) t n (passed_with n sent (Some o))
  at-once zero p sent o count (mid, one, here) =
      notes-those w t ((Run, o) ∷ []) n (noted_with w mid o n) (passed_with n sent (Some o)) (first-noted w mid o n nobody one.0 ∙ ap (λ (k : ℕ). passed_with n k (Some o)) (sym count))
      (mid, one, (here, refl))
  at-once (suc made) p sent o count (mid, one, more) = absurd (no-step w mid w.turns.halted w.turns.current p Stepped nobody one.0)

  -- the same again and again
  all-the-same : (most sent : ℕ) (o : Outcome) → sent ≡ most → IsNoteless o → IsPromised w (replicate most (Run, o)) t
      → NotesGo w (replicate most (Run, o)) t n (passed_with n sent (Some o))
  all-the-same most sent o count quiet run =
      notes-those w t (replicate most (Run, o)) n (later n most) (passed_with n sent (Some o))
      (sym (noted-is (passed_with n sent (Some o)) (later n most) (ap (λ (x : Option Note). n.notes ++ all_of x) (quiet.none nothing_given) ∙ append-nil n.notes)
      (quiet.faultless n.fault (n.events + sent - 1)) (ap (λ (k : ℕ). n.events + k) count) refl)) (notes-again most w t Run o n quiet run)

  by-list : (most sent p : ℕ) (last : Option Outcome) (list : List (Event × Outcome)) → AreRunsTo most p last list → length list ≡ sent → IsPromised w list t
      → NotesGo w list t n (passed_with n sent last)
  by-list most sent p None list are long run =
      let count : sent ≡ most = sym long ∙ ap length are ∙ length-replicate most (done_by p) in
      subst (λ (es : List (Event × Outcome)). NotesGo w es t n (passed_with n sent None)) (sym are)
      (notes-those w t (replicate most (done_by p)) n (later n most) (passed_with n sent None)
      (sym (noted-is (passed_with n sent None) (later n most) (append-nil n.notes) refl (ap (λ (k : ℕ). n.events + k) count) refl))
      (notes-again most w t Run (Step_of p Stepped) n (done-noteless p) (subst (λ (es : List (Event × Outcome)). IsPromised w es t) are run)))
  by-list most sent p (Some o) list (inl made) long run =
      let count : sent ≡ made.0 + 1 =
      sym long ∙ ap length made.1 ∙ length-append (replicate made.0 (done_by p)) ((Run, o) ∷ []) ∙ ap (λ (k : ℕ). k + 1) (length-replicate made.0 (done_by p)) in
      subst (λ (es : List (Event × Outcome)). NotesGo w es t n (passed_with n sent (Some o))) (sym made.1)
      (at-once made.0 p sent o count (subst (λ (es : List (Event × Outcome)). IsPromised w es t) made.1 run))
  by-list most sent p (Some o) list (inr (is, inl idle)) long run =
      let count : sent ≡ most = sym long ∙ ap length is ∙ length-replicate most (Run, o) in
      subst (λ (es : List (Event × Outcome)). NotesGo w es t n (passed_with n sent (Some o))) (sym is)
      (all-the-same most sent o count (subst IsNoteless (sym idle) idle-noteless) (subst (λ (es : List (Event × Outcome)). IsPromised w es t) is run))
  by-list most sent p (Some o) list (inr (is, inr halted)) long run =
      let count : sent ≡ most = sym long ∙ ap length is ∙ length-replicate most (Run, o) in
      subst (λ (es : List (Event × Outcome)). NotesGo w es t n (passed_with n sent (Some o))) (sym is)
      (all-the-same most sent o count (subst IsNoteless (sym halted) halted-noteless) (subst (λ (es : List (Event × Outcome)). IsPromised w es t) is run))

  pub notes-passed : (most sent p : ℕ) (last : Option Outcome) (list : List (Event × Outcome)) → AreRunsTo most p last list → events list ≡ replicate sent Run → IsPromised w list t
      → NotesGo w list t n (passed_with n sent last)
  notes-passed most sent p last list are those run = by-list most sent p last list are (count-sent list sent those) run
