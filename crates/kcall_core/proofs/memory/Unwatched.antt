-- Instructions of the process in a slot that use nothing that is watched.
use Rattle.kcall_core.proofs.Prelude.{ℕ, ◌∙◌, ◌≡◌, ◌≢◌, address_used, ap, AreSound, Bool, each_of, false, Fits, fits_empty, fits_hart, fits_root, FitsHart, FRAMES_MAX, free_in, free_of, gathered}
use Rattle.kcall_core.proofs.Prelude.{get_or, Hart, held_at, held_in, instr, Instructed, IsAccounted, kept_pipe, length, List, map, Memories, None, nothing_kept, OnlyKnown, pipes_of, refl, root_of}
use Rattle.kcall_core.proofs.Prelude.{RunsIn, Same, StepsDoneUnwatched, StepsUnwatched, stop_of, subst, suc, sym, Translations, true, user, user_at, zero}
use Rattle.hart_core.specs.Watch.{AreDoneUnwatched, IsUnwatched}
use Rattle.kcall_core.proofs.memory.Changes.{image-seen, runs-inside}
use Rattle.kcall_core.proofs.memory.Stepping.{fault-stays, next-no-fault, none-stands, runs-stands, steps, user-space}
use Rattle.rv64i_core.specs.declared.execution.Stop.TheVariants as stops

-- what the hart says of one
pub record Guarded (addresses bytes : List ℕ) (made : Bool) (ram ram' : List (List ℕ)) (hart hart' : Hart) : Type 0 where
  pub done : made ≡ true → Instructed (root_of hart.root) ram hart.regs stops.Next ram' hart'.regs hart'.cache × IsUnwatched addresses bytes hart.regs (user_at ram (root_of hart.root))
  pub refused : made ≡ false → IsUnwatched addresses bytes hart.regs (user_at ram (root_of hart.root)) → stop_of (instr hart.regs (user_at ram (root_of hart.root))) ≢ stops.Next
  pub kept : made ≡ false → (ram' ≡ ram) × (hart'.regs ≡ hart.regs)
  pub root : hart'.root ≡ hart.root
  pub fault : hart'.fault_address ≡ hart.fault_address
  pub fits : FitsHart ram' hart'.root hart'.cache

-- the hart has the same root and the same fault address, and what it keeps is true
record Keeps (ram : List (List ℕ)) (hart hart' : Hart) : Type 0 where
  root : hart'.root ≡ hart.root
  fault : hart'.fault_address ≡ hart.fault_address
  fits : FitsHart ram hart'.root hart'.cache

-- what is no memory of a process, nor RAM, is the same
record Beside (old new : Memories) : Type 0 where
  pool : new.pool ≡ old.pool
  each : new.each.items ≡ old.each.items
  pipes : new.pipes.items ≡ old.pipes.items

module _ (old new : Memories) (slot : ℕ) (hart hart' : Hart) (addresses bytes : List ℕ) (sound : AreSound old) (r : RunsIn old slot hart) where
  seen-here : user_at old.ram (root_of hart.root) ≡ user (held_at (each_of old) slot).image
  seen-here =
      ap (user_at old.ram) (ap root_of r.root) ∙ user-space old.ram r.memory.space
      ∙ ap user (sym (image-seen (runs-stands old slot hart sound r (runs-inside r))))

  -- one is done, whatever translations the hart keeps then
  one-done : (cache : Translations) → Instructed (root_of hart.root) old.ram hart.regs stops.Next new.ram hart'.regs cache
      → IsUnwatched addresses bytes hart.regs (user_at old.ram (root_of hart.root)) → Keeps new.ram hart hart' → Beside old new → StepsUnwatched addresses bytes true old new slot hart hart'
  one-done cache one free keeps beside =
      let before = user_at old.ram (root_of hart.root) in (
        record { spares = subst (IsUnwatched addresses bytes hart.regs) seen-here free; done = sym (ap (λ m. stop_of (instr hart.regs m)) seen-here) ∙ sym one.ends },
        steps old new slot hart hart' stops.Next r (runs-stands old slot hart sound r (runs-inside r)) (record {
          ends = one.ends;
          regs = one.regs_are;
          stepped = one.stepped;
          root = keeps.root;
          fits = keeps.fits;
          fault = keeps.fault ∙ fault-stays stops.Next (instr hart.regs before) hart.fault_address (address_used hart.regs before) one.ends next-no-fault;
        }) beside.pool beside.each beside.pipes,
      )

  pub unwatched-done : (made : Bool) → made ≡ true → Guarded addresses bytes made old.ram new.ram hart hart' → new.pool ≡ old.pool → new.each.items ≡ old.each.items → new.pipes.items ≡ old.pipes.items
      → StepsUnwatched addresses bytes true old new slot hart hart'
  unwatched-done made is g pool each pipes =
      let (one, free) = g.done is in
      one-done hart'.cache one free (record { root = g.root; fault = g.fault; fits = g.fits }) (record { pool = pool; each = each; pipes = pipes })

  pub unwatched-refused : (made : Bool) → made ≡ false → Guarded addresses bytes made old.ram new.ram hart hart' → new ≡ old → StepsUnwatched addresses bytes false old new slot hart hart'
  unwatched-refused made is g same =
      let (ram, regs) = g.kept is in (
        λ goes. g.refused is (subst (IsUnwatched addresses bytes hart.regs) (sym seen-here) goes.spares) (ap (λ m. stop_of (instr hart.regs m)) seen-here ∙ goes.done),
        same,
        regs,
        record {
          memory = r.memory;
          is = r.is;
          root = g.root ∙ r.root;
          fits = fits_root old.ram hart'.root r.memory.space.root hart'.cache (g.root ∙ r.root) (subst (λ x. FitsHart x hart'.root hart'.cache) ram g.fits);
        },
      )

-- ---- one after another

-- memories that are the same but for what is known of their code
pub known-same : (old new : Memories) → OnlyKnown old new → AreSound old → Same old new
unfolding each_of pipes_of free_of
known-same old new is sound = record {
  sound = subst (λ p. IsAccounted p new.ram new.each.items new.pipes.items) (sym is.pool) (subst (λ r. IsAccounted old.pool r new.each.items new.pipes.items) (sym is.ram)
      (subst (λ e. IsAccounted old.pool old.ram e new.pipes.items) (sym is.each) (subst (λ p. IsAccounted old.pool old.ram old.each.items p) (sym is.pipes) sound)));
  each = λ t. map (held_in (is.ram t)) (is.each t);
  pipes = λ t. gathered (kept_pipe (is.ram t) (is.pipes t)) FRAMES_MAX;
  free = λ t. length (free_in (is.pool t) (is.ram t));
  frames = ap length is.ram;
  runs = λ slot hart r. record {
    memory = r.memory;
    is = ap (λ l. get_or l slot None) is.each ∙ r.is;
    root = r.root;
    fits = subst (λ x. Fits x r.memory.space.root hart.cache) (sym is.ram) r.fits;
  };
}

module _ (addresses bytes : List ℕ) (old : Memories) (slot : ℕ) (hart : Hart) (sound : AreSound old) (r : RunsIn old slot hart) where
  abbrev AreThere : ℕ → Memories → Hart → Type 0
  AreThere count new hart' = StepsDoneUnwatched addresses bytes count slot old hart new hart' × AreSound new × RunsIn new slot hart'

  row : (count : ℕ) (new : Memories) (hart' : Hart) → Beside old new → Keeps new.ram hart hart'
      → AreDoneUnwatched addresses bytes count (root_of hart.root) old.ram hart.regs new.ram hart'.regs → AreThere count new hart'
  row zero new hart' beside keeps (ram, regs) =
      let known : OnlyKnown old new = record { ram = ram; pool = beside.pool; each = beside.each; pipes = beside.pipes } in
      let runs : RunsIn new slot hart' = record {
        memory = r.memory;
        is = ap (λ l. get_or l slot None) beside.each ∙ r.is;
        root = keeps.root ∙ r.root;
        fits = fits_root new.ram hart'.root r.memory.space.root hart'.cache (keeps.root ∙ r.root) keeps.fits;
      } in
      ((known, regs, runs), (known-same old new known sound).sound, runs)
  row (suc count) new hart' beside keeps (ram, regs, cache, before, free, one) =
      -- between two of them nothing need be kept
      let mid : Memories = record old { ram = ram; known = record old.known { root = None }; stands = none-stands ram old.known } in
      let between : Hart = record hart { regs = regs; cache = nothing_kept } in
      let fits = fits_hart ram hart.root r.memory.space.root nothing_kept r.root (fits_empty ram r.memory.space.root nothing_kept refl) in
      let so_far = row count mid between (record { pool = refl; each = refl; pipes = refl }) (record { root = refl; fault = refl; fits = fits }) before in
      let step =
      one-done mid new slot between hart' addresses bytes so_far.1 so_far.2 cache one free (record { root = keeps.root; fault = keeps.fault; fits = keeps.fits })
      (record { pool = beside.pool; each = beside.each; pipes = beside.pipes }) in
      ((mid, between, so_far.0, step), step.1.changes.sound, step.1.runs)

-- as the hart tells them
pub unwatched-row : (addresses bytes : List ℕ) (old new : Memories) (slot : ℕ) (hart hart' : Hart) (count : ℕ) → AreSound old → RunsIn old slot hart → hart'.root ≡ hart.root
    → hart'.fault_address ≡ hart.fault_address → FitsHart new.ram hart'.root hart'.cache → new.pool ≡ old.pool → new.each.items ≡ old.each.items → new.pipes.items ≡ old.pipes.items
    → AreDoneUnwatched addresses bytes count (root_of hart.root) old.ram hart.regs new.ram hart'.regs → StepsDoneUnwatched addresses bytes count slot old hart new hart'
unwatched-row addresses bytes old new slot hart hart' count sound r root fault fits pool each pipes done =
    (row addresses bytes old slot hart sound r count new hart' (record { pool = pool; each = each; pipes = pipes }) (record { root = root; fault = fault; fits = fits }) done).0
