-- One instruction of the process in a slot.
use Rattle.kcall_core.proofs.Prelude.{ℕ, ◌%◌, ◌/◌, ◌<◌, ◌∙◌, ◌≡◌, ◌≢◌, ◌≤◌, address_used, ap, AreDone, AreSound, arith, Belongs, Cause, Changed, each_of, Ecall, Fault, Fits, fits_hart, fits_root}
use Rattle.kcall_core.proofs.Prelude.{FitsHart, frame_at, frame_of, free_in, free_of, get_or, Hart, held_at, image_of, InARow, instr, Instructed, last_fault, length, List, Memories, Next, None}
use Rattle.kcall_core.proofs.Prelude.{Option, others_stay-set, owned, page_entry, pages_of, Pool, put_bytes, refl, Registers, regs_after, root_of, RunsIn, set, Some, Space, space_state, space_store}
use Rattle.kcall_core.proofs.Prelude.{SpaceState, Stands, state_after, Step, step_in, Steps, StepsDone, StepsInARow, Stop, stop_of, store_in, subst, suc, sym, trade-lengths, Translations, user}
use Rattle.kcall_core.proofs.Prelude.{user_at, with_store, write_pages, zero}
use Rattle.addr_space.proofs.Pages.{bytes-changed}
use Rattle.addr_space.proofs.Freeing.{changed-none}
use Rattle.addr_space.proofs.FromFrames.{leaf-of}
use Rattle.rv64i_core.specs.Memory.{written}
use Rattle.hart_core.specs.Steps.{Stepped}
use Rattle.hart_core.specs.declared.fast.known_code.KnownCode.{KnownCode}
use Rattle.kcall_core.proofs.memory.Lists.{set-read}
use Rattle.kcall_core.proofs.memory.Changes.{belongs-of, image-seen, space-changes, runs-inside}
use Rattle.hart_core.specs.Rooms as rooms
use Rattle.addr_space.specs.Space as space
use Rattle.rv64i_core.specs.declared.execution.Stop.TheVariants as stops

-- a store changes the frame of one page, or nothing
put-changed : (pool : Pool) (ram : List (List ℕ)) (s : Space) (v o : ℕ) (bytes : List ℕ) → Belongs pool ram s → (t : Option ℕ)
    → frame_of (page_entry ram s.root v) ≡ t → Changed pool ram s pool (put_bytes ram t o bytes) s
put-changed pool ram s v o bytes b None is = changed-none pool ram s b
put-changed pool ram s v o bytes b (Some g) is =
    let leaf = leaf-of (page_entry ram s.root v) g is in
    bytes-changed pool ram (set ram g (written (frame_at ram g) o bytes)) s v g leaf.0 leaf.1 leaf.2 b leaf.3 (others_stay-set ram g (written (frame_at ram g) o bytes))

after-changed : (pool : Pool) (ram : List (List ℕ)) (s : Space) (step : Step) → Belongs pool ram s → Changed pool ram s pool (state_after space_store (space_state s.root ram) step).ram s
unfolding store_in
after-changed pool ram s (Next regs None) b = changed-none pool ram s b
after-changed pool ram s (Next regs (Some store)) b = put-changed pool ram s (store.address / 4096) (store.address % 4096) store.bytes b (frame_of (page_entry ram s.root (store.address / 4096))) refl
after-changed pool ram s Ecall b = changed-none pool ram s b
after-changed pool ram s (Fault cause) b = changed-none pool ram s b

step-changed : (pool : Pool) (ram ram' : List (List ℕ)) (s : Space) (step : Step) → Belongs pool ram s
    → space_state s.root ram' ≡ state_after space_store (space_state s.root ram) step → Changed pool ram s pool ram' s
step-changed pool ram ram' s step b e = subst (λ r. Changed pool ram s pool r s) (sym (ap (λ (x : SpaceState). x.ram) e)) (after-changed pool ram s step b)

step-image : (ram ram' : List (List ℕ)) (s : Space) (step : Step) → pages_of ram' s.root ≡ state_after write_pages (pages_of ram s.root) step
    → image_of ram' s ≡ state_after with_store (image_of ram s) step
step-image ram ram' s (Next regs None) e = ap (λ p. record { pages = p; size = s.size }) e
step-image ram ram' s (Next regs (Some store)) e = ap (λ p. record { pages = p; size = s.size }) e
step-image ram ram' s Ecall e = ap (λ p. record { pages = p; size = s.size }) e
step-image ram ram' s (Fault cause) e = ap (λ p. record { pages = p; size = s.size }) e

-- the memory that user code sees of a space
pub user-space : (ram : List (List ℕ)) (s : Space) → user_at ram s.root ≡ user (image_of ram s)
unfolding user user_at
user-space ram s = refl

-- what a hart says of one instruction
pub record Made (ram ram' : List (List ℕ)) (hart hart' : Hart) (stop : Stop) : Type 0 where
  pub ends : stop ≡ stop_of (instr hart.regs (user_at ram (root_of hart.root)))
  pub regs : hart'.regs ≡ regs_after hart.regs (instr hart.regs (user_at ram (root_of hart.root)))
  pub stepped : Stepped ram ram' (root_of hart.root) (instr hart.regs (user_at ram (root_of hart.root)))
  pub root : hart'.root ≡ hart.root
  pub fits : FitsHart ram' hart'.root hart'.cache
  pub fault : hart'.fault_address ≡ last_fault hart.fault_address (address_used hart.regs (user_at ram (root_of hart.root))) (instr hart.regs (user_at ram (root_of hart.root)))

pub runs-stands : (old : Memories) (slot : ℕ) (hart : Hart) → AreSound old → (r : RunsIn old slot hart) → slot < length old.each.items → Stands old slot r.memory
runs-stands old slot hart sound r lt = record { sound = sound; inside = lt; is = r.is }

free-same : (old new : Memories) → new.pool ≡ old.pool → length (free_in new.pool new.ram) ≡ length (free_in old.pool old.ram) → free_of new ≡ free_of old
unfolding free_of
free-same old new pool e = e

pub steps : (old new : Memories) (slot : ℕ) (hart hart' : Hart) (stop : Stop) → (r : RunsIn old slot hart) → Stands old slot r.memory
    → Made old.ram new.ram hart hart' stop → new.pool ≡ old.pool → new.each.items ≡ old.each.items → new.pipes.items ≡ old.pipes.items
    → Steps old new slot hart hart' stop
steps old new slot hart hart' stop r s made pool each pipes =
    let space' = r.memory.space in
    let root : root_of hart.root ≡ space'.root = ap root_of r.root in
    let memory : user_at old.ram (root_of hart.root) ≡ user (held_at (each_of old) slot).image = ap (user_at old.ram) root ∙ user-space old.ram space' ∙ ap user (sym (image-seen s)) in
    let step : instr hart.regs (user_at old.ram (root_of hart.root)) ≡ step_in old slot hart.regs = ap (instr hart.regs) memory in
    let state : space_state space'.root new.ram ≡ state_after space_store (space_state space'.root old.ram) (step_in old slot hart.regs) =
    sym (ap (λ x. space_state x new.ram) root) ∙ made.stepped.state
    ∙ ap (λ x. state_after space_store (space_state x old.ram) (instr hart.regs (user_at old.ram (root_of hart.root)))) root
    ∙ ap (state_after space_store (space_state space'.root old.ram)) step in
    let pages : pages_of new.ram space'.root ≡ state_after write_pages (pages_of old.ram space'.root) (step_in old slot hart.regs) =
    sym (ap (λ x. pages_of new.ram x) root) ∙ made.stepped.pages
    ∙ ap (λ x. state_after write_pages (pages_of old.ram x) (instr hart.regs (user_at old.ram (root_of hart.root)))) root
    ∙ ap (state_after write_pages (pages_of old.ram space'.root)) step in
    let changed : Changed old.pool old.ram space' new.pool new.ram space' =
    subst (λ p. Changed old.pool old.ram space' p new.ram space') (sym pool)
    (step-changed old.pool old.ram new.ram space' (step_in old slot hart.regs) (belongs-of s) state) in
    let image : image_of new.ram space' ≡ state_after with_store (held_at (each_of old) slot).image (step_in old slot hart.regs) =
    step-image old.ram new.ram space' (step_in old slot hart.regs) pages ∙ ap (λ i. state_after with_store i (step_in old slot hart.regs)) (sym (image-seen s)) in
    record {
      ends = made.ends ∙ ap stop_of step;
      regs = made.regs ∙ ap (regs_after hart.regs) step;
      changes = space-changes new space' (state_after with_store (held_at (each_of old) slot).image (step_in old slot hart.regs)) s changed image
          (each ∙ sym (set-read old.each.items slot (Some r.memory) None s.inside s.is)) pipes;
      free = free-same old new pool (omega (
        arith,
        trade-lengths old.pool new.pool old.ram new.ram (space.frames_of old.ram space') (space.frames_of new.ram space') changed.traded,
        ap length (subst (λ (x : ℕ). owned new.ram x ≡ owned old.ram x) root made.stepped.own),
      ));
      runs = record {
        memory = r.memory;
        is = ap (λ l. get_or l slot None) each ∙ r.is;
        root = made.root ∙ r.root;
        fits = fits_root new.ram hart'.root space'.root hart'.cache (made.root ∙ r.root) made.fits;
      };
      fault = made.fault ∙ (λ t. last_fault hart.fault_address (address_used hart.regs (memory t)) (instr hart.regs (memory t)));
    }

-- ---- one instruction after another

-- a slot whose process may run on a hart
record Ready (m : Memories) (slot : ℕ) (hart : Hart) : Type 0 where
  sound : AreSound m
  runs : RunsIn m slot hart

-- the address of the last page fault is another only where the instruction faults
pub fault-stays : (stop : Stop) (step : Step) (old address : ℕ) → stop ≡ stop_of step → ((cause : Cause) → stop ≢ stops.Fault cause) → old ≡ last_fault old address step
fault-stays stop (Next regs store) old address ends other = refl
fault-stays stop Ecall old address ends other = refl
fault-stays stop (Fault cause) old address ends other = absurd (other cause ends)

pub next-no-fault : (cause : Cause) → stops.Next ≢ stops.Fault cause
next-no-fault cause e = cc

pub ecall-no-fault : (cause : Cause) → stops.Ecall ≢ stops.Fault cause
ecall-no-fault cause e = cc

-- if there is no root, nothing is known
pub none-stands : (ram : List (List ℕ)) (known : KnownCode) → rooms.StandsIn ram (record known { root = None })
none-stands ram known r m none = absurd (cc)

-- RAM is another, and what is known of its code
record OnlyRam (old new : Memories) : Type 0 where
  pool : new.pool ≡ old.pool
  each : new.each.items ≡ old.each.items
  pipes : new.pipes.items ≡ old.pipes.items

-- one instruction, from where others have led
one-step : (old new : Memories) (slot : ℕ) (hart : Hart) (ram ram' : List (List ℕ)) (regs' : Registers) (cache' : Translations) (fault' : ℕ) (stop : Stop) → Ready old slot hart → OnlyRam old new
    → old.ram ≡ ram → new.ram ≡ ram' → Instructed (root_of hart.root) ram hart.regs stop ram' regs' cache'
    → fault' ≡ last_fault hart.fault_address (address_used hart.regs (user_at ram (root_of hart.root))) (instr hart.regs (user_at ram (root_of hart.root)))
    → Steps old new slot hart (record hart { regs = regs'; cache = cache'; fault_address = fault' }) stop
one-step old new slot hart ram ram' regs' cache' fault' stop ready same from to instructed faulted =
    let r = ready.runs in
    let P = λ (x : List (List ℕ)). Instructed (root_of hart.root) x hart.regs stop ram' regs' cache' in
    let Q = λ (x : List (List ℕ)). Instructed (root_of hart.root) old.ram hart.regs stop x regs' cache' in
    let F = λ (x : List (List ℕ)). fault' ≡ last_fault hart.fault_address (address_used hart.regs (user_at x (root_of hart.root))) (instr hart.regs (user_at x (root_of hart.root))) in
    let one = subst Q (sym to) (subst P (sym from) instructed) in
    steps old new slot hart (record hart { regs = regs'; cache = cache'; fault_address = fault' }) stop r (runs-stands old slot hart ready.sound r (runs-inside r))
    (record {
      ends = one.ends;
      regs = one.regs_are;
      stepped = one.stepped;
      root = refl;
      fits = fits_hart new.ram hart.root r.memory.space.root cache' r.root (subst (λ x. Fits new.ram x cache') (ap root_of r.root) one.fits);
      fault = subst F (sym from) faulted;
    }) same.pool same.each same.pipes

after-step : (old new : Memories) (slot : ℕ) (hart hart' : Hart) (stop : Stop) → Steps old new slot hart hart' stop → Ready new slot hart'
after-step old new slot hart hart' stop s = record { sound = s.changes.sound; runs = s.runs }

module _ (old : Memories) (slot : ℕ) (hart : Hart) (ready : Ready old slot hart) where
  abbrev AreThere : ℕ → Memories → Hart → Type 0
  AreThere count m h = StepsDone count slot old hart m h × Ready m slot h

  -- where the instruction at the pc doesn't fault
  quiet : (stop : Stop) (ram ram' : List (List ℕ)) (regs regs' : Registers) (cache' : Translations)
      → Instructed (root_of hart.root) ram regs stop ram' regs' cache' → ((cause : Cause) → stop ≢ stops.Fault cause)
      → hart.fault_address ≡ last_fault hart.fault_address (address_used regs (user_at ram (root_of hart.root))) (instr regs (user_at ram (root_of hart.root)))
  quiet stop ram ram' regs regs' cache' one other = fault-stays stop (instr regs (user_at ram (root_of hart.root))) hart.fault_address
      (address_used regs (user_at ram (root_of hart.root))) one.ends other

  -- the memories with this RAM, and nothing known of its code
  abbrev with-ram : List (List ℕ) → Memories
  with-ram ram = record old { ram = ram; known = record old.known { root = None }; stands = none-stands ram old.known }

  -- the hart once so many instructions led to these registers
  abbrev at : Registers → Translations → Hart
  at regs cache = record hart { regs = regs; cache = cache }

  -- none did
  still : (regs : Registers) (cache : Translations) → regs ≡ hart.regs → cache ≡ hart.cache → AreThere 0 old (at regs cache)
  still regs cache a b =
      let same : at regs cache ≡ hart = λ t. record hart { regs = a t; cache = b t } in
      ((refl, same), subst (λ h. Ready old slot h) (sym same) ready)

  -- one more than so many lead to these memories
  series : (count : ℕ) (ram' : List (List ℕ)) (regs' : Registers) (cache' : Translations) (new : Memories) → OnlyRam old new → new.ram ≡ ram'
      → AreDone (suc count) (root_of hart.root) old.ram hart.regs hart.cache ram' regs' cache' → AreThere (suc count) new (at regs' cache')
  series zero ram' regs' cache' new same is (mid, mid_regs, mid_cache, before, one) =
      let h = at mid_regs mid_cache in
      let so_far = still mid_regs mid_cache before.1 before.2 in
      let step = one-step old new slot h mid ram' regs' cache' hart.fault_address stops.Next so_far.1 same (sym before.0) is one (quiet stops.Next mid ram' mid_regs regs' cache' one next-no-fault) in
      ((old, h, so_far.0, step), after-step old new slot h (at regs' cache') stops.Next step)
  series (suc count) ram' regs' cache' new same is (mid, mid_regs, mid_cache, before, one) =
      let m = with-ram mid in
      let h = at mid_regs mid_cache in
      let so_far = series count mid mid_regs mid_cache m (record { pool = refl; each = refl; pipes = refl }) refl before in
      let beside : OnlyRam m new = record { pool = same.pool; each = same.each; pipes = same.pipes } in
      let step = one-step m new slot h mid ram' regs' cache' hart.fault_address stops.Next so_far.1 beside refl is one (quiet stops.Next mid ram' mid_regs regs' cache' one next-no-fault) in
      ((m, h, so_far.0, step), after-step m new slot h (at regs' cache') stops.Next step)

  -- where so many lead
  record Reached (count : ℕ) (ram : List (List ℕ)) (h : Hart) (new : Memories) : Type 0 where
    memories : Memories
    is : memories.ram ≡ ram
    same : OnlyRam memories new
    there : AreThere count memories h

  reached : (count : ℕ) (mid : List (List ℕ)) (mid_regs : Registers) (mid_cache : Translations) (new : Memories) → OnlyRam old new
      → AreDone count (root_of hart.root) old.ram hart.regs hart.cache mid mid_regs mid_cache → Reached count mid (at mid_regs mid_cache) new
  reached zero mid mid_regs mid_cache new same done = record { memories = old; is = sym done.0; same = same; there = still mid_regs mid_cache done.1 done.2 }
  reached (suc count) mid mid_regs mid_cache new same done = record {
    memories = with-ram mid;
    is = refl;
    same = record { pool = same.pool; each = same.each; pipes = same.pipes };
    there = series count mid mid_regs mid_cache (with-ram mid) (record { pool = refl; each = refl; pipes = refl }) refl done;
  }

  in-a-row : (most made : ℕ) (stop : Stop) (new : Memories) (ram' : List (List ℕ)) (regs' : Registers) (cache' : Translations) (fault' : ℕ) → 1 ≤ most → OnlyRam old new → new.ram ≡ ram'
      → InARow (root_of hart.root) most made stop old.ram hart.regs hart.cache hart.fault_address ram' regs' cache' fault'
      → StepsInARow slot most made stop old hart new (record hart { regs = regs'; cache = cache'; fault_address = fault' })
  in-a-row most zero stops.Next new ram' regs' cache' fault' some same is row = let none = row.last.0 in absurd (omega (arith, some, none))
  in-a-row most (suc made) stops.Next new ram' regs' cache' fault' some same is row =
      let last = row.last in
      let there = series made row.mid row.mid_regs row.mid_cache new same (is ∙ last.1) row.done in
      record {
        mid = new;
        between = at row.mid_regs row.mid_cache;
        done = there.0;
        last = (last.0, refl, λ t. record hart { regs = last.2 t; cache = last.3 t; fault_address = last.4 t });
      }
  in-a-row most made stops.Ecall new ram' regs' cache' fault' some same is row =
      let last = row.last in
      let r = reached made row.mid row.mid_regs row.mid_cache new same row.done in
      record {
        mid = r.memories;
        between = at row.mid_regs row.mid_cache;
        done = r.there.0;
        last = (
          last.0,
          one-step r.memories new slot (at row.mid_regs row.mid_cache) row.mid ram' regs' cache' fault' stops.Ecall r.there.1 r.same r.is is last.1
              (last.2 ∙ quiet stops.Ecall row.mid ram' row.mid_regs regs' cache' last.1 ecall-no-fault),
        );
      }
  in-a-row most made (stops.Fault cause) new ram' regs' cache' fault' some same is row =
      let last = row.last in
      let r = reached made row.mid row.mid_regs row.mid_cache new same row.done in
      record {
        mid = r.memories;
        between = at row.mid_regs row.mid_cache;
        done = r.there.0;
        last = (last.0, one-step r.memories new slot (at row.mid_regs row.mid_cache) row.mid ram' regs' cache' fault' (stops.Fault cause) r.there.1 r.same r.is is last.1 last.2);
      }

-- the hart as it is behind them
pub steps-in-a-row : (old new : Memories) (slot : ℕ) (hart hart' : Hart) (most made : ℕ) (stop : Stop) → 1 ≤ most → AreSound old → RunsIn old slot hart → hart'.root ≡ hart.root
    → new.pool ≡ old.pool → new.each.items ≡ old.each.items → new.pipes.items ≡ old.pipes.items
    → InARow (root_of hart.root) most made stop old.ram hart.regs hart.cache hart.fault_address new.ram hart'.regs hart'.cache hart'.fault_address
    → StepsInARow slot most made stop old hart new hart'
steps-in-a-row old new slot hart hart' most made stop some sound runs root pool each pipes row =
    let P = λ (h : Hart). StepsInARow slot most made stop old hart new h in
    let same : OnlyRam old new = record { pool = pool; each = each; pipes = pipes } in
    subst P (λ t. record hart' { root = sym root t })
    (in-a-row old slot hart (record { sound = sound; runs = runs }) most made stop new new.ram hart'.regs hart'.cache hart'.fault_address some same refl row)

-- ---- a single one of a row

one-done : {old mid : Memories} {slot made : ℕ} {hart between : Hart} → made ≡ 1 → StepsDone made slot old hart mid between → Steps old mid slot hart between stops.Next
one-done {old} {mid} {slot} {made} {hart} {between} one done =
    let d = subst (λ m. StepsDone m slot old hart mid between) one done in
    subst (λ (y : Memories × Hart). Steps y.0 mid slot y.1 between stops.Next) (λ i. (d.2.0 i, d.2.1 i)) d.3

none-done : (old mid : Memories) (slot made : ℕ) (hart between : Hart) → made < 1 → StepsDone made slot old hart mid between → (mid ≡ old) × (between ≡ hart)
none-done old mid slot made hart between few done = let none : made ≡ 0 = omega (arith, few) in subst (λ m. StepsDone m slot old hart mid between) none done

pub one-in-a-row : (old new : Memories) (slot made : ℕ) (stop : Stop) (hart hart' : Hart) → StepsInARow slot 1 made stop old hart new hart' → Steps old new slot hart hart' stop
one-in-a-row old new slot made stops.Next hart hart' x =
    let one = one-done x.last.0 x.done in
    subst (λ (y : Memories × Hart). Steps old y.0 slot hart y.1 stops.Next) (λ i. (sym x.last.1 i, sym x.last.2 i)) one
one-in-a-row old new slot made stops.Ecall hart hart' x =
    let none = none-done old x.mid slot made hart x.between x.last.0 x.done in
    subst (λ (y : Memories × Hart). Steps y.0 new slot y.1 hart' stops.Ecall) (λ i. (none.0 i, none.1 i)) x.last.1
one-in-a-row old new slot made (stops.Fault cause) hart hart' x =
    let none = none-done old x.mid slot made hart x.between x.last.0 x.done in
    subst (λ (y : Memories × Hart). Steps y.0 new slot y.1 hart' (stops.Fault cause)) (λ i. (none.0 i, none.1 i)) x.last.1
