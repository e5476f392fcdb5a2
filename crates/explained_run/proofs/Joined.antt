-- What is told of runs, one after another.
use Rattle.std.proofs.Common.{◌≡◌, ℕ, zero, suc, ◌+◌, ◌-◌, ◌^◌, min, Bool, true, false, List, [], ◌∷◌, ◌++◌, length, replicate, Option, None, Some}
use Rattle.std.proofs.Common.{inl, inr, refl, sym, ◌∙◌, ap, subst, append_assoc, append-nil, if◌then◌else◌, arith}
use Rattle.std.specs.Prelude.{ℤ, ◌&&◌}
use Rattle.std.proofs.lemmas.Bool.{and_parts}
use Rattle.std.proofs.lemmas.List.{length-append, length-replicate}
use Rattle.console_core.specs.Keys.{line}
use Rattle.kcall_core.specs.Observers.{process_at}
use Rattle.kernel_spec.specs.runs.Run.{World, Event, Run, Tick, Key, Send, Outcome, Step_of, Idle, Ticked, Typed, Sent, Halted, TickHappens, KeyHappens, first_sent}
use Rattle.kernel_spec.specs.steps.Own.{Answer, Stepped}
use Rattle.kernel_spec.specs.views.State.{State, ProgramFile}
use Rattle.kernel_spec.specs.views.Words.{or_zero}
use Rattle.kernel_spec.specs.waking.Wakes.{IsPromised, Promised}
use Rattle.xv_machine.specs.Drives.{AreRuns, Goes, Ran, SendsMade, done_by}
use Rattle.xv_machine.specs.Meaning.{Meaning}
use Rattle.xv_machine.specs.Reached.{IsEvent}
use Rattle.xv_machine.specs.Sound.{IsSoundMachine}
use Rattle.xv_machine.proofs.Joins.{goes-one}
use Rattle.xv_session.specs.Names.{NamesGo, asked_in, first_names, names_after, place_in}
use Rattle.xv_session.specs.Recorded.{IsLed}
use Rattle.xv_session.specs.Steps.{Advances, AreRunsTo, RunsMade}
use Rattle.xv_session.specs.declared.names.Named.{Named}
use Rattle.xv_session.specs.declared.running.Running.{Running}
use Rattle.xv_session.proofs.NamesGo.{names-one}
use Rattle.explained_run.specs.Chosen.{shows, shows_process}
use Rattle.xv_session.proofs.RunsCounted.{count-sent}
use Rattle.xv_session.proofs.RunsMade.{first-no-step, runs-on, steps}
use Rattle.explained_run.specs.Counts.{done_if, done_in, program_of, row, tallied}
use Rattle.explained_run.specs.Counts.{counted as count_in, done_by as count_by}
use Rattle.explained_run.specs.Lines.{told, told_by}
use Rattle.explained_run.specs.Seen.{Before, before, is_marked, name_in, place_of}
use Rattle.explained_run.specs.Sent.{byte_sent, is_run}
use Rattle.explained_run.specs.Told.{IsTold, ToldOf}
use Rattle.explained_run.specs.declared.choice.Choice.{Choice}
use Rattle.explained_run.specs.declared.counts.Count.{Count}
use Rattle.explained_run.proofs.Rows.{option-or-self, tallied-join}

either : (b : Bool) (text : List ℕ) → (if b then text else text) ≡ text
either true text = refl
either false text = refl

silent-by : (choice : Choice) (at : ℕ) (w : World) (names : List Named) (current : Option ℕ) (o : Outcome) (s : State) → ((b : Before) → shows choice b o ≡ false)
    → told_by choice at w names current o s ≡ []
silent-by choice at w names None o s quiet = refl
silent-by choice at w names (Some p) o s quiet = rw (quiet (before choice.numbers choice.shown at w names p)) (either (shows_process choice p (name_in w names p)) [])

-- ---- events by which nothing is done

-- an outcome by which nothing is done, whoever runs
pub record IsIdle (o : Outcome) : Type 0 where
  pub keeps : (choice : Choice) (w : World) (names after : List Named) (current : Option ℕ) → done_if choice w names after current o ≡ []

idle-by : (o : Outcome) → ((choice : Choice) (w : World) (names after : List Named) (p : ℕ) → done_if choice w names after (Some p) o ≡ []) → IsIdle o
idle-by o none = record { keeps = by }
  where
    by : (choice : Choice) (w : World) (names after : List Named) (current : Option ℕ) → done_if choice w names after current o ≡ []
    by choice w names after None = refl
    by choice w names after (Some p) = none choice w names after p

idle-idle : IsIdle Idle
idle-idle = idle-by Idle (λ choice w names after p. refl)

ticked-idle : IsIdle Ticked
ticked-idle = idle-by Ticked (λ choice w names after p. refl)

typed-idle : (echo : List ℕ) → IsIdle (Typed echo)
typed-idle echo = idle-by (Typed echo) (λ choice w names after p. refl)

sent-idle : (byte : Option ℕ) → IsIdle (Sent byte)
sent-idle byte = idle-by (Sent byte) (λ choice w names after p. refl)

halted-idle : IsIdle Halted
halted-idle = idle-by Halted (λ choice w names after p. refl)

-- ---- events of which nothing is told

-- an outcome of which nothing is told
pub record IsSilent (o : Outcome) : Type 0 where
  pub keeps : (choice : Choice) (at : ℕ) (w : World) (names : List Named) (s : State) → told choice at w names o s ≡ []

silent : (o : Outcome) → ((choice : Choice) (b : Before) → shows choice b o ≡ false) → IsSilent o
silent o quiet = record { keeps = λ choice at w names s. silent-by choice at w names w.turns.current o s (quiet choice) }

pub step-silent : (p : ℕ) → IsSilent (Step_of p Stepped)
step-silent p = silent (Step_of p Stepped) (λ choice b. refl)

pub idle-silent : IsSilent Idle
idle-silent = silent Idle (λ choice b. refl)

pub ticked-silent : IsSilent Ticked
ticked-silent = silent Ticked (λ choice b. refl)

pub typed-silent : (echo : List ℕ) → IsSilent (Typed echo)
typed-silent echo = silent (Typed echo) (λ choice b. refl)

pub sent-silent : (byte : Option ℕ) → IsSilent (Sent byte)
sent-silent byte = silent (Sent byte) (λ choice b. refl)

pub halted-silent : IsSilent Halted
halted-silent = silent Halted (λ choice b. refl)

-- ---- one run after another

-- so many more events
place-more : (n k : ℕ) → min (min n (2 ^ 64 - 1) + k) (2 ^ 64 - 1) ≡ place_of (n + k)
place-more n k = omega arith

none-before : (n : ℕ) → n ≡ 0 + n
none-before n = omega arith

told-one : (choice : Choice) (at : ℕ) (w t : World) (e : Event) (o : Outcome) (names : List Named) → Promised w e o t
    → ToldOf choice at w names ((e, o) ∷ []) t (names_after (asked_in w) o names) (told choice (place_of at) w names o t.state) (done_in choice w names (names_after (asked_in w) o names) o)
told-one choice at w t e o names promised =
    (t, [], [], promised, (refl, refl, refl, refl), sym (append-nil (told choice (place_of at) w names o t.state)), sym (append-nil (done_in choice w names (names_after (asked_in w) o names) o)))

pub join : (choice : Choice) (at : ℕ) (xs ys : List (Event × Outcome)) (w m t : World) (a b c : List Named) (old more : List ℕ) (done did : List Count)
    → ToldOf choice at w a xs m b old done → ToldOf choice (at + length xs) m b ys t c more did → ToldOf choice at w a (xs ++ ys) t c (old ++ more) (done ++ did)
join choice at [] ys w m t a b c old more done did (same, names, nothing, none) q =
    let here : at + 0 ≡ at = omega arith in
    subst (λ (v : World). ToldOf choice at v a ys t c (old ++ more) (done ++ did)) same
    (subst (λ (ns : List Named). ToldOf choice at m ns ys t c (old ++ more) (done ++ did)) names
    (subst (λ (text : List ℕ). ToldOf choice at m b ys t c (text ++ more) (done ++ did)) (sym nothing)
    (subst (λ (cs : List Count). ToldOf choice at m b ys t c more (cs ++ did)) (sym none)
    (subst (λ (n : ℕ). ToldOf choice n m b ys t c more did) here q))))
join choice at (x ∷ xs) ys w m t a b c old more done did (mid, rest, later, first, go, is, counts) q =
    let there : at + suc (length xs) ≡ (at + 1) + length xs = omega arith in (
      mid,
      rest ++ more,
      later ++ did,
      first,
      join choice (at + 1) xs ys mid m t (names_after (asked_in w) x.1 a) b c rest more later did go (subst (λ (n : ℕ). ToldOf choice n m b ys t c more did) there q),
      ap (λ text. text ++ more) is ∙ append_assoc (told choice (place_of at) w a x.1 mid.state) rest more,
      ap (λ (cs : List Count). cs ++ did) counts ∙ append_assoc (done_in choice w a (names_after (asked_in w) x.1 a) x.1) later did,
    )

-- the same outcome again and again, of which nothing is told, and by which nothing is done
pub again : (n : ℕ) (choice : Choice) (at : ℕ) (w t : World) (e : Event) (o : Outcome) (a b : List Named) → IsSilent o → IsIdle o → NamesGo w (replicate n (e, o)) t a b
    → ToldOf choice at w a (replicate n (e, o)) t b [] []
again zero choice at w t e o a b silent idle go = (go.0, go.1, refl, refl)
again (suc n) choice at w t e o a b silent idle (mid, first, more) = (
  mid,
  [],
  [],
  first,
  again n choice (at + 1) mid t e o (names_after (asked_in w) o a) b silent idle more,
  sym (append-nil (told choice (place_of at) w a o mid.state) ∙ silent.keeps choice (place_of at) w a mid.state),
  sym (append-nil (done_in choice w a (names_after (asked_in w) o a) o) ∙ idle.keeps choice w a (names_after (asked_in w) o a) w.turns.current),
)

along : (choice : Choice) (at : ℕ) (xs ys : List (Event × Outcome)) (w t : World) (a b : List Named) → xs ≡ ys
    → (NamesGo w ys t a b → ToldOf choice at w a ys t b [] []) → NamesGo w xs t a b → ToldOf choice at w a xs t b [] []
along choice at xs ys w t a b same by go =
    subst (λ (zs : List (Event × Outcome)). ToldOf choice at w a zs t b [] []) (sym same) (by (subst (λ (zs : List (Event × Outcome)). NamesGo w zs t a b) same go))

-- instructions of process p, which runs: each is counted
pub instructed : (n : ℕ) (choice : Choice) (at : ℕ) (w t : World) (p : ℕ) (names : List Named) → w.turns.current ≡ Some p → IsPromised w (replicate n (done_by p)) t
    → ToldOf choice at w names (replicate n (done_by p)) t names [] (replicate n (row p (place_in p names) 0 0 1))
instructed zero choice at w t p names is run = (run, refl, refl, refl)
instructed (suc n) choice at w t p names is (mid, first, more) = (
  mid,
  [],
  replicate n (row p (place_in p names) 0 0 1),
  first,
  instructed n choice (at + 1) mid t p names (runs-on 1 w mid p is (mid, first, refl)) more,
  sym (append-nil (told choice (place_of at) w names (Step_of p Stepped) mid.state) ∙ (step-silent p).keeps choice (place_of at) w names mid.state),
  sym (ap (λ (cs : List Count). cs ++ replicate n (row p (place_in p names) 0 0 1))
      (ap (λ (current : Option ℕ). done_if choice w names names current (Step_of p Stepped)) is ∙ ap (λ (place : Option ℕ). row p place 0 0 1 ∷ []) (option-or-self (place_in p names)))),
)

-- ---- where nobody runs

unmoved : (choice : Choice) (at : ℕ) (w : World) (names : List Named) (o : Outcome) (s : State) → w.turns.current ≡ None → told choice at w names o s ≡ []
unmoved choice at w names o s stopped = ap (λ (current : Option ℕ). told_by choice at w names current o s) stopped

undone : (choice : Choice) (w : World) (names after : List Named) (o : Outcome) → w.turns.current ≡ None → done_in choice w names after o ≡ []
undone choice w names after o stopped = ap (λ (current : Option ℕ). done_if choice w names after current o) stopped

-- of Runs nothing is told, and by them nothing is done, up to the one by which a process has its turn
passing : (choice : Choice) (at most p : ℕ) (last : Option Outcome) (list : List (Event × Outcome)) (w t : World) (a b : List Named) → w.turns.current ≡ None → AreRunsTo most p last list
    → NamesGo w list t a b → ToldOf choice at w a list t b [] []
passing choice at zero p None list w t a b stopped is go = along choice at list [] w t a b is (λ none. (none.0, none.1, refl, refl)) go
passing choice at (suc most) p None list w t a b stopped is go =
    along choice at list (done_by p ∷ replicate most (done_by p)) w t a b is (λ first. absurd (first-no-step w first.0 p stopped first.1.0)) go
passing choice at most p (Some o) list w t a b stopped (inl (zero, is, less, step, idle, halted)) go =
    along choice at list ((Run, o) ∷ []) w t a b is (λ first. (
      first.0,
      [],
      [],
      first.1,
      (first.2.0, first.2.1, refl, refl),
      sym (append-nil (told choice (place_of at) w a o first.0.state) ∙ unmoved choice (place_of at) w a o first.0.state stopped),
      sym (append-nil (done_in choice w a (names_after (asked_in w) o a) o) ∙ undone choice w a (names_after (asked_in w) o a) o stopped),
    )) go
passing choice at most p (Some o) list w t a b stopped (inl (suc made, is, less, step, idle, halted)) go =
    along choice at list (done_by p ∷ (replicate made (done_by p) ++ (Run, o) ∷ [])) w t a b is (λ first. absurd (first-no-step w first.0 p stopped first.1.0)) go
passing choice at most p (Some o) list w t a b stopped (inr (is, inl idle)) go =
    along choice at list (replicate most (Run, o)) w t a b is (again most choice at w t Run o a b (subst IsSilent (sym idle) idle-silent) (subst IsIdle (sym idle) idle-idle)) go
passing choice at most p (Some o) list w t a b stopped (inr (is, inr halted)) go =
    along choice at list (replicate most (Run, o)) w t a b is (again most choice at w t Run o a b (subst IsSilent (sym halted) halted-silent) (subst IsIdle (sym halted) halted-idle)) go

-- ---- events other than Run

-- nothing is told of it, and nothing is done by it
record IsQuiet (o : Outcome) : Type 0 where
  pub silent : IsSilent o
  pub idle : IsIdle o

halted-quiet : IsQuiet Halted
halted-quiet = record { silent = halted-silent; idle = halted-idle }

tick-quiet : (w t : World) (halted : Option ℤ) (o : Outcome) → TickHappens w halted o t → IsQuiet o
tick-quiet w t (Some status) o h = subst IsQuiet (sym h.0) halted-quiet
tick-quiet w t None o h = subst IsQuiet (sym h.0) (record { silent = ticked-silent; idle = ticked-idle })

key-quiet : (w t : World) (byte : ℕ) (halted : Option ℤ) (o : Outcome) → KeyHappens w halted byte o t → IsQuiet o
key-quiet w t byte (Some status) o h = subst IsQuiet (sym h.0) halted-quiet
key-quiet w t byte None o h =
    let echo = (line w.state.console byte).1 in
    subst IsQuiet (sym h.0) (record { silent = typed-silent echo; idle = typed-idle echo })

other-quiet : (e : Event) (w t : World) (o : Outcome) → is_run e ≡ false → Promised w e o t → IsQuiet o
other-quiet Run w t o other promised = cc
other-quiet Tick w t o other promised = tick-quiet w t w.turns.halted o promised.0
other-quiet (Key byte) w t o other promised = key-quiet w t byte w.turns.halted o promised.0
other-quiet Send w t o other promised =
    let byte = first_sent w.state.console.to_send in
    subst IsQuiet (sym promised.0.0) (record { silent = sent-silent byte; idle = sent-idle byte })

-- ---- what is told since the boot

-- nothing
pub told-at-boot : (choice : Choice) (frames trace : ℕ) (programs : List ProgramFile) (r : Running) → IsLed frames trace programs [] r → IsTold choice r 0 true [] true []
told-at-boot choice frames trace programs r ([], those, reached, (booted, is, named)) = record {
  frames = frames;
  trace = trace;
  programs = programs;
  booted = booted;
  boots = is;
  list = [];
  said = [];
  done = [];
  count = refl;
  told = (named.0, named.1, refl, refl);
  lines_are = λ yes. refl;
  rows_are = λ yes. refl;
}
told-at-boot choice frames trace programs r (x ∷ xs, those, reached, named) = cc

-- after some more events
pub told-on : (choice : Choice) (r s : Running) (at at-after : ℕ) (complete after counted counted-after : Bool) (old new more : List ℕ) (rows new-rows did : List Count)
    (list : List (Event × Outcome)) → IsTold choice r at complete old counted rows
    → ((n : ℕ) → at ≡ place_of n → ToldOf choice n r.machine.world r.names list s.machine.world s.names more did)
    → at-after ≡ place_of (at + length list)
    → (after ≡ true → (complete ≡ true) × (new ≡ old ++ more))
    → (counted-after ≡ true → (counted ≡ true) × (new-rows ≡ tallied choice rows did)) → IsTold choice s at-after after new counted-after new-rows
told-on choice r s at at-after complete after counted counted-after old new more rows new-rows did list t go later lines tally = record {
  frames = t.frames;
  trace = t.trace;
  programs = t.programs;
  booted = t.booted;
  boots = t.boots;
  list = t.list ++ list;
  said = t.said ++ more;
  done = t.done ++ did;
  count = later ∙ ap (λ (n : ℕ). place_of (n + length list)) t.count ∙ place-more (length t.list) (length list) ∙ ap place_of (sym (length-append t.list list));
  told = join choice 0 t.list list t.booted r.machine.world s.machine.world (first_names t.programs) r.names s.names t.said more t.done did t.told
      (subst (λ (n : ℕ). ToldOf choice n r.machine.world r.names list s.machine.world s.names more did) (none-before (length t.list)) (go (length t.list) t.count));
  lines_are = λ yes. let h = lines yes in h.1 ∙ ap (λ (text : List ℕ). text ++ more) (t.lines_are h.0);
  rows_are = λ yes. let h = tally yes in h.1 ∙ ap (λ (cs : List Count). tallied choice cs did) (t.rows_are h.0) ∙ sym (tallied-join choice [] t.done did);
}

-- of which nothing is told, and by which nothing is done
pub told-silently : (choice : Choice) (r s : Running) (at at-after : ℕ) (complete : Bool) (text : List ℕ) (counted : Bool) (rows : List Count) (list : List (Event × Outcome))
    → IsTold choice r at complete text counted rows → ((n : ℕ) → ToldOf choice n r.machine.world r.names list s.machine.world s.names [] [])
    → at-after ≡ place_of (at + length list) → IsTold choice s at-after complete text counted rows
told-silently choice r s at at-after complete text counted rows list t go later =
    told-on choice r s at at-after complete complete counted counted text text [] rows rows [] list t (λ n same. go n) later (λ yes. (yes, sym (append-nil text))) (λ yes. (yes, refl))

-- after instructions of a process
pub told-instructed : (choice : Choice) (n p at at-after : ℕ) (a b : Meaning) (names : List Named) (complete : Bool) (text : List ℕ) (counted after : Bool) (rows new-rows : List Count)
    (place : Option ℕ) → IsTold choice (record { machine = a; names = names }) at complete text counted rows
    → a.world.turns.current ≡ Some p → Goes a (replicate n (done_by (or_zero a.world.turns.current))) b
    → at-after ≡ place_of (at + n)
    → place ≡ place_in p names → (after ≡ true → new-rows ≡ tallied choice rows (replicate n (row p place 0 0 1))) → (after ≡ true → counted ≡ true)
    → IsTold choice (record { machine = b; names = names }) at-after complete text after new-rows
told-instructed choice n p at at-after a b names complete text counted after rows new-rows place t is goes later named tally were =
    told-on choice (record { machine = a; names = names }) (record { machine = b; names = names }) at at-after complete complete counted after text text [] rows new-rows
    (replicate n (row p (place_in p names) 0 0 1)) (replicate n (done_by p)) t
    (λ k same. instructed n choice k a.world b.world p names is (subst (λ q. IsPromised a.world (replicate n (done_by q)) b.world) (ap or_zero is) goes.run))
    (later ∙ ap (λ (k : ℕ). place_of (at + k)) (sym (length-replicate n (done_by p))))
    (λ yes. (yes, sym (append-nil text)))
    (λ yes. (were yes, tally yes ∙ ap (λ (x : Option ℕ). tallied choice rows (replicate n (row p x 0 0 1))) named))

-- after Runs where nobody runs
pub told-passing : (choice : Choice) (most sent : ℕ) (last : Option Outcome) (r s : Running) (at at-after : ℕ) (complete : Bool) (text : List ℕ) (counted : Bool) (rows : List Count)
    → IsTold choice r at complete text counted rows → r.machine.world.turns.current ≡ None → RunsMade most sent last r s → at-after ≡ place_of (at + sent)
    → IsTold choice s at-after complete text counted rows
told-passing choice most sent last r s at at-after complete text counted rows t stopped made later =
    told-silently choice r s at at-after complete text counted rows made.list t
    (λ n. passing choice n most (or_zero r.machine.world.turns.current) last made.list r.machine.world s.machine.world r.names s.names stopped made.runs_are made.named)
    (later ∙ ap (λ (k : ℕ). place_of (at + k)) (sym (count-sent made.list sent made.those)))

-- after another event
pub told-other : (choice : Choice) (e : Event) (o : Outcome) (r s : Running) (at at-after : ℕ) (complete : Bool) (text : List ℕ) (counted : Bool) (rows : List Count)
    → IsTold choice r at complete text counted rows → is_run e ≡ false → Advances r e o s → at-after ≡ place_of (at + 1) → IsTold choice s at-after complete text counted rows
told-other choice e o r s at at-after complete text counted rows t other one later =
    let quiet = other-quiet e r.machine.world s.machine.world o other one.event.promised in
    told-silently choice r s at at-after complete text counted rows ((e, o) ∷ []) t
    (λ n. again 1 choice n r.machine.world s.machine.world e o r.names s.names quiet.silent quiet.idle
    (subst (λ (ns : List Named). NamesGo r.machine.world ((e, o) ∷ []) s.machine.world r.names ns) (sym one.names) (names-one r.machine.world s.machine.world e o r.names one.event.promised)))
    later

-- ---- one step

-- what is done by a step is what is counted
step-done : (choice : Choice) (w : World) (names after : List Named) (p : ℕ) (a : Answer) (o : Outcome) → w.turns.current ≡ Some p → o ≡ Step_of p a
    → done_in choice w names after o ≡ count_by choice p (program_of p names after) (is_marked (process_at w p)) o ∷ []
step-done choice w names after p a o is step =
    ap (λ (current : Option ℕ). done_if choice w names after current o) is
    ∙ ap (λ (x : Outcome). done_if choice w names after (Some p) x) step
    ∙ sym (ap (λ (x : Outcome). count_by choice p (program_of p names after) (is_marked (process_at w p)) x ∷ []) step)

-- after a step, of which this was told and counted
pub told-step : (choice : Choice) (o : Outcome) (p : ℕ) (r s : Running) (at at-after : ℕ) (complete is-told : Bool) (old new : List ℕ) (counted after : Bool) (rows new-rows : List Count)
    (place : Option ℕ) (marked : Bool) → IsTold choice r at complete old counted rows → IsSoundMachine r.machine → r.machine.world.turns.current ≡ Some p → Advances r Run o s
    → at-after ≡ place_of (at + 1)
    → (is-told ≡ true → new ≡ old ++ told choice at r.machine.world r.names o s.machine.world.state)
    → (after ≡ true → new-rows ≡ count_in choice rows (count_by choice p place marked o)) → (after ≡ true → counted ≡ true)
    → place ≡ program_of p r.names s.names → marked ≡ is_marked (process_at r.machine.world p) → IsTold choice s at-after (complete && is-told) new after new-rows
told-step choice o p r s at at-after complete is-told old new counted after rows new-rows place marked t sound is one later line tally were placed mark =
    let w = r.machine.world in
    let step = steps r.machine s.machine.world p o sound is one.event.promised.0 in
    let said = told choice at w r.names o s.machine.world.state in
    let did = done_in choice w r.names s.names o in
    told-on choice r s at at-after complete (complete && is-told) counted after old new said rows new-rows did ((Run, o) ∷ []) t
    (λ n same. subst (λ (k : ℕ). ToldOf choice n w r.names ((Run, o) ∷ []) s.machine.world s.names (told choice k w r.names o s.machine.world.state) did) (sym same)
    (subst (λ (ns : List Named).
    ToldOf choice n w r.names ((Run, o) ∷ []) s.machine.world ns (told choice (place_of n) w r.names o s.machine.world.state) (done_in choice w r.names ns o)) (sym one.names)
    (told-one choice n w s.machine.world Run o r.names one.event.promised)))
    later
    (λ yes. let both = and_parts complete is-told yes in (both.0, line both.1))
    (λ yes. (
      were yes,
      tally yes
          ∙ ap (λ (x : Option ℕ). count_in choice rows (count_by choice p x marked o)) placed
          ∙ ap (λ (m : Bool). count_in choice rows (count_by choice p (program_of p r.names s.names) m o)) mark
          ∙ sym (ap (λ (cs : List Count). tallied choice rows cs) (step-done choice w r.names s.names p step.0 o is step.1)),
    ))

-- ---- Runs that were sent

runs-are : (most p : ℕ) (last : Option Outcome) (list : List (Event × Outcome)) → AreRunsTo most p last list → AreRuns most p list
runs-are most p None list is = inl is
runs-are most p (Some o) list (inl (made, is, less, step, idle, halted)) = inr (inl (made, o, is, less, step, idle, halted))
runs-are most p (Some o) list (inr (is, why)) = inr (inr (o, is, why))

pub ran : (most sent : ℕ) (last : Option Outcome) (old new : Running) → RunsMade most sent last old new → Ran most sent old.machine new.machine
ran most sent last old new made = record {
  list = made.list;
  goes = made.goes;
  runs_are = runs-are most (or_zero old.machine.world.turns.current) last made.list made.runs_are;
  count = count-sent made.list sent made.those;
}

-- ---- Sends

pub send-made : (o : Outcome) (byte : Option ℕ) (old new : Meaning) → IsEvent old Send o new → byte ≡ byte_sent o → SendsMade 1 byte old new
send-made o byte old new event is =
    let b = first_sent old.world.state.console.to_send in
    let sent : o ≡ Sent b = event.promised.0.0 in
    let same : o ≡ Sent byte = sent ∙ ap Sent (sym (is ∙ ap byte_sent sent)) in
    record {
      idle = 0;
      goes = subst (λ (x : Outcome). Goes old ((Send, x) ∷ []) new) same (goes-one Send o old new event.promised event.notes event.room event.frames event.sound);
      count = omega arith;
    }
