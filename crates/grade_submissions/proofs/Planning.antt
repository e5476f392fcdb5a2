-- Rounds of a plan, one behind another, and how they end.
use Rattle.std.proofs.Common.{◌≡◌, ◌⊎◌, ◌∙◌, ℕ, zero, suc, ◌+◌, ◌<◌, ◌≤◌, arith, Bool, true, false, ◌||◌, cond, List, [], ◌∷◌}
use Rattle.std.proofs.Common.{◌++◌, length, replicate, drop, slice_get, Option, None, Some, Result, Ok, Err, inl, inr, refl, sym, ap, subst, append-nil, append_assoc}
use Rattle.std.specs.Prelude.{ℤ, is_some, nat_lt}
use Rattle.std.proofs.lemmas.Bool.{true≢false, or_parts}
use Rattle.std.specs.Option.{option_to_list}
use Rattle.xk_base.specs.Loaded.{Loaded, loaded}
use Rattle.xk_base.specs.declared.limits.TheConstants.{SEND_BYTES, TRACE_MAX}
use Rattle.xk_base.specs.declared.errors.BootError.{BootError}
use Rattle.xk_base.specs.declared.errors.BootError.TheVariants.{BadConfig}
use Rattle.xk_base.specs.declared.errors.ExecError.{ExecError}
use Rattle.kernel_spec.specs.views.NewKernel.{refusal}
use Rattle.kernel_spec.specs.views.Programs.{init_name, init_of}
use Rattle.kernel_spec.specs.runs.First.{first, first_init, first_loaded, unless_refused, within_frames}
use Rattle.kernel_spec.specs.runs.Run.{Event, Run, Tick, Send, Outcome, World}
use Rattle.kernel_spec.specs.runs.Rounds.{halts, key_events, round, AreRounds}
use Rattle.kernel_spec.specs.views.State.{ProgramFile}
use Rattle.kernel_spec.proofs.runs.Plans.{rounds_follow_rounds}
use Rattle.xv_machine.specs.Drives.{StopsInRound}
use Rattle.xv_machine.specs.Reached.{IsReached}
use Rattle.xv_machine.proofs.Shown.{ends-in}
use Rattle.grade_submissions.specs.Plays.{Told, Noted, nothing, told_of, told_by, nothing_noted, noted_of, NotesGo, is_full, is_over, PlaysFirst, IsByPlan, IsRunOf}
use Rattle.grade_submissions.specs.declared.playing.TheConstants.{SHOWN_MAX}
use Rattle.grade_submissions.specs.declared.playing.Plan.{Plan}
use Rattle.grade_submissions.specs.declared.playing.Played.{Played}
use Rattle.grade_submissions.proofs.Going.{booted-noted}
use Rattle.grade_submissions.proofs.Noting.{notes-join}
use Rattle.grade_submissions.proofs.Telling.{told-join, told-shown}

abbrev Steps : Type 0
Steps = List (Event × Outcome)

-- ---- the first world isn't halted

abbrev Unhalted : Result World BootError → Type 0
Unhalted (Ok w) = w.turns.halted ≡ None
Unhalted (Err e) = Unit {0}

module _ (frames : ℕ) (programs : List ProgramFile) where
  by-loaded : (r : Result Loaded ExecError) → Unhalted (first_loaded frames programs r)
  by-loaded (Err e) = tt
  by-loaded (Ok l) = refl

  by-init : (o : Option ProgramFile) → Unhalted (first_init frames programs o)
  by-init None = tt
  by-init (Some init) = by-loaded (within_frames frames (loaded init.bytes (init_name ∷ [])))

  by-refusal : (o : Option BootError) → Unhalted (unless_refused o (first_init frames programs (init_of programs)))
  by-refusal None = by-init (init_of programs)
  by-refusal (Some e) = tt

  by-trace : (b : Bool) → Unhalted (cond b (Err BadConfig) (unless_refused (refusal frames programs) (first_init frames programs (init_of programs))))
  by-trace true = tt
  by-trace false = by-refusal (refusal frames programs)

unhalted : (frames trace : ℕ) (programs : List ProgramFile) (w : World) → first frames trace programs ≡ Ok w → w.turns.halted ≡ None
unfolding first
unhalted frames trace programs w is = subst Unhalted is (by-trace frames programs (nat_lt TRACE_MAX trace))

-- a machine that was booted is halted exactly if one of its events halted it
halted-by : (frames trace : ℕ) (programs : List ProgramFile) (list : Steps) (p : Played) → IsReached frames trace programs list p.session.machine
    → is_some p.session.machine.world.turns.halted ≡ halts list
halted-by frames trace programs list p (booted, is, count, sound, empty, goes) =
    ends-in booted.world list p.session.machine.world goes.run ∙ ap (λ (h : Option ℤ). is_some h || halts list) (unhalted frames trace programs booted.world is)

-- ---- keys

one-key : (keys : List ℕ) (count : ℕ) → key_events (option_to_list (slice_get keys count)) ≡ key_events (drop count keys)
one-key [] zero = refl
one-key [] (suc count) = refl
one-key (k ∷ keys) zero = refl
one-key (k ∷ keys) (suc count) = one-key keys count

round-key : (quantum : ℕ) (keys : List ℕ) (count : ℕ) (key : Option ℕ) → key ≡ slice_get keys count → round quantum (option_to_list key) ≡ round quantum (drop count keys)
round-key quantum keys count key is =
    ap (λ (k : Option ℕ). round quantum (option_to_list k)) is ∙ ap (λ (es : List Event). es ++ replicate quantum Run ++ Tick ∷ replicate SEND_BYTES Send) (one-key keys count)

-- ---- neither halted nor over

pub neither : (p : Played) → (is_some p.session.machine.world.turns.halted || is_over p.kept) ≡ false → (is_some p.session.machine.world.turns.halted ≡ false) × (is_full p.kept ≡ false)
neither p is =
    let both = or_parts (is_some p.session.machine.world.turns.halted) (is_over p.kept) is in
    (both.0, (or_parts (is_full p.kept) (nat_lt SHOWN_MAX (length p.kept.shown.items)) both.1).0)

-- ---- rounds so far

-- So many rounds were played; or fewer, and a part of one more, and the run is full
pub record HasPlayed (plan : Plan) (keys : List ℕ) (count : ℕ) (booted now : Played) : Type 0 where
  pub list : Steps
  pub reaches : (frames trace : ℕ) (programs : List ProgramFile) (es : Steps)
      → IsReached frames trace programs es booted.session.machine → IsReached frames trace programs (es ++ list) now.session.machine
  pub noted : NotesGo booted.session.machine.world list now.session.machine.world (noted_of booted) (noted_of now)
  pub told : told_of now.kept ≡ told_by (told_of booted.kept) list
  pub budget : now.kept.budget ≡ booted.kept.budget
  pub so : AreRounds count plan.quantum keys false list ⊎ (StopsInRound plan.rounds plan.quantum keys false list × (is_full now.kept ≡ true))

pub none-played : (plan : Plan) (keys : List ℕ) (booted : Played) → HasPlayed plan keys 0 booted booted
none-played plan keys booted = record {
  list = [];
  reaches = λ frames trace programs es here. subst (λ (xs : Steps). IsReached frames trace programs xs booted.session.machine) (sym (append-nil es)) here;
  noted = (refl, refl);
  told = refl;
  budget = refl;
  so = inl refl;
}

module _ (frames trace : ℕ) (programs : List ProgramFile) (plan : Plan) (keys : List ℕ) (count : ℕ) (booted now : Played)
    (start : IsReached frames trace programs [] booted.session.machine) (so-far : HasPlayed plan keys count booted now) where
  abbrev list : Steps
  list = so-far.list

  reached : IsReached frames trace programs list now.session.machine
  reached = so-far.reaches frames trace programs [] start

  not-halted : is_some now.session.machine.world.turns.halted ≡ false → halts list ≡ false
  not-halted on = sym (halted-by frames trace programs list now reached) ∙ on

  -- one round more, or a part of it
  pub round-more : (key : Option ℕ) (next : Played) → key ≡ slice_get keys count → count < plan.rounds → is_some now.session.machine.world.turns.halted ≡ false → is_full now.kept ≡ false
      → PlaysFirst (round plan.quantum (option_to_list key)) now next → HasPlayed plan keys (count + 1) booted next
  round-more key next is within on free first = elim so-far.so [
    | inl rounds ↦ record {
      list = list ++ first.plays.list;
      reaches = λ frames trace programs es here. subst (λ (xs : Steps). IsReached frames trace programs xs next.session.machine)
          (append_assoc es list first.plays.list) (first.plays.reaches frames trace programs (es ++ list) (so-far.reaches frames trace programs es here));
      noted = notes-join list first.plays.list booted.session.machine.world now.session.machine.world next.session.machine.world (noted_of booted) (noted_of now) (noted_of next)
          so-far.noted first.plays.noted;
      told = first.plays.told ∙ ap (λ (t : Told). told_by t first.plays.list) so-far.told ∙ sym (told-join (told_of booted.kept) list first.plays.list);
      budget = first.plays.budget ∙ so-far.budget;
      so = elim first.all [
        | inl none ↦ inl (rounds_follow_rounds count 1 plan.quantum keys false list first.plays.list rounds
            (subst (λ (b : Bool). AreRounds 1 plan.quantum (drop count keys) b first.plays.list) (sym (not-halted on)) (
              first.plays.list,
              [],
              sym (append-nil first.plays.list),
              first.plays.those ∙ sym (append-nil first.part) ∙ ap (λ (es : List Event). first.part ++ es) (sym none) ∙ first.those ∙ round-key plan.quantum keys count key is,
              refl,
            )))
        | inr full ↦ inr (
          (
            count,
            list,
            first.plays.list,
            first.rest,
            refl,
            within,
            rounds,
            not-halted on,
            ap (λ (es : List Event). es ++ first.rest) first.plays.those ∙ first.those ∙ round-key plan.quantum keys count key is,
          ),
          full,
        )
      ];
    }
    | inr stopped ↦ absurd (true≢false (sym stopped.1 ∙ free))
  ]

  over-full : is_full now.kept ≡ true → is_over now.kept ≡ true
  over-full full = ap (λ (b : Bool). b || nat_lt SHOWN_MAX (length now.kept.shown.items)) full

  -- all rounds that may begin are played
  pub plan-done : count ≤ plan.rounds → (count ≡ plan.rounds) ⊎ (is_some now.session.machine.world.turns.halted ≡ true) → IsByPlan plan keys list now.kept
  plan-done within why = elim so-far.so [
    | inl rounds ↦ inl (count, within, rounds, elim why [ inl all ↦ inl all | inr halted ↦ inr (sym (halted-by frames trace programs list now reached) ∙ halted) ])
    | inr stopped ↦ inr (stopped.0, over-full stopped.1)
  ]

  -- or no more, since the run is over
  pub plan-over : count < plan.rounds → is_some now.session.machine.world.turns.halted ≡ false → is_over now.kept ≡ true → IsByPlan plan keys list now.kept
  plan-over within on over = elim so-far.so [
    | inl rounds ↦ inr ((count, list, [], round plan.quantum (drop count keys), sym (append-nil list), within, rounds, not-halted on, refl), over)
    | inr stopped ↦ inr (stopped.0, over)
  ]

  -- it is ended: `init` is gone, or the run is over
  pub plan-ended : count < plan.rounds → (is_some now.session.machine.world.turns.halted || is_over now.kept) ≡ true → IsByPlan plan keys list now.kept
  plan-ended within ended = by (is_some now.session.machine.world.turns.halted) refl
    where
      by : (h : Bool) → is_some now.session.machine.world.turns.halted ≡ h → IsByPlan plan keys list now.kept
      by true halted = plan-done (omega (arith, within)) (inr halted)
      by false on = plan-over within on (sym (ap (λ (b : Bool). b || is_over now.kept) on) ∙ ended)

  -- the whole run
  pub run-of : told_of booted.kept ≡ nothing → noted_of booted ≡ nothing_noted → booted.kept.budget ≡ plan.budget → IsByPlan plan keys list now.kept → IsRunOf frames trace programs plan keys now
  run-of empty blank budget by-plan =
      let told : told_of now.kept ≡ told_by nothing list = so-far.told ∙ ap (λ (t : Told). told_by t list) empty in
      record {
        list = list;
        reached = reached;
        rounds = by-plan;
        booted = booted.session.machine.world;
        boots = booted-noted frames trace programs booted.session.machine start;
        noted = subst (λ (n : Noted). NotesGo booted.session.machine.world list now.session.machine.world n (noted_of now)) blank so-far.noted;
        shown = ap (λ (t : Told). t.shown) told ∙ told-shown nothing list;
        told = told;
        budget = so-far.budget ∙ budget;
      }
