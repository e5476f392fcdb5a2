-- A process whose next instruction uses nothing that is watched stands before no stop; and Runs in a row.
use Rattle.std.proofs.Common.{◌≡◌, ◌≢◌, ℕ, zero, suc, ◌+◌, ◌-◌, ◌*◌, ◌/◌, ◌%◌, ◌^◌, ◌<◌, ◌≤◌, ◌||◌, ◌&&◌, Bool, true, false, List, [], ◌∷◌, Option, None, Some, refl, sym, ap, ◌∙◌, subst, arith, cond}
use Rattle.std.proofs.Common.{add-one}
use Rattle.std.specs.Prelude.{Result, Ok, Err, option_map, slice_index, not}
use Rattle.std.specs.List.{list_any}
use Rattle.std.specs.FinMap.{get}
use Rattle.std.proofs.lemmas.Bool.{true≢false}
use Rattle.xk_base.specs.Words.{le}
use Rattle.xk_base.specs.Image.{Image, Page}
use Rattle.xk_base.specs.declared.access.Cause.{Cause}
use Rattle.xk_base.specs.declared.access.Cause.TheVariants.{FetchPageFault}
use Rattle.std.proofs.lemmas.Option.{same_Some}
use Rattle.std.proofs.Math.Nat.{add-zero, add-suc}
use Rattle.rv64i_core.specs.Memory.{Memory, cell_byte, bytes_at, fetched, or_fault}
use Rattle.rv64i_core.specs.Registers.{Registers}
use Rattle.rv64i_core.specs.Step.{instr, row, row_of, step_of_word, stop_of, instruction_of, data_address, data_address_of}
use Rattle.rv64i_core.specs.Table.{decoded}
use Rattle.rv64i_core.specs.UserImage.{user, cell_in, seen}
use Rattle.rv64i_core.specs.declared.instruction.Instr.{Instr}
use Rattle.hart_core.specs.Watch.{SparesBytes}
use Rattle.kernel_spec.specs.runs.Run.{World, Run, Outcome, Step_of, Turn, Idle, Ticked, Typed, Sent, Halted, Happens}
use Rattle.kernel_spec.specs.steps.Own.{Stepped, Called, Blocked, Exited, Faulted}
use Rattle.kernel_spec.specs.views.Processes.{Live}
use Rattle.kernel_spec.specs.views.State.{State, live}
use Rattle.kcall_core.specs.Holdings.{byte_of}
use Rattle.kcall_core.specs.Observers.{byte_in}
use Rattle.kcall_core.specs.Watched.{GoesUnwatched}
use Rattle.xv_machine.specs.Instructions.{RunsUnwatched, AreUnwatched}
use Rattle.xv_machine.specs.Meaning.{Meaning}
use Rattle.xv_machine.specs.Reached.{IsEvent}
use Rattle.kernel_spec.specs.views.Words.{or_zero}
use Rattle.rv64i_core.specs.declared.execution.Stop.TheVariants as stops
use Rattle.rv64i_core.specs.declared.instruction.Instr.TheVariants as i
use Rattle.xv_session.specs.Looking.{word_of, address_of}
use Rattle.xv_session.specs.Steps.{Advances, IsSound}
use Rattle.xv_session.specs.Stops.{pc_is_one, puts_at_one, stores_by, stores_to_one, stops_for, is_before_stop, Unstopped, WentOn, MadeRow}
use Rattle.xv_session.specs.Until.{instruction_in, is_done}
use Rattle.xv_session.specs.declared.names.Named.{Named}
use Rattle.xv_session.specs.declared.running.Running.{Running}
use Rattle.xv_session.specs.LastStep.{stepper}
use Rattle.xv_session.proofs.LastSteps.{run-steps}
use Rattle.xv_session.proofs.LastRuns.{done-stays}

no-test : {X : Type 0} (g : X → Bool) (xs : List X) → ((x : X) → g x ≡ false) → list_any g xs ≡ false
no-test g [] none = refl
no-test g (x ∷ xs) none = ap (λ b. b || list_any g xs) (none x) ∙ no-test g xs none

-- ---- the word at the pc

-- the first of some bytes that may be executed
record First (image : Image) (a n : ℕ) (bs : List ℕ) : Type 0 where
  byte : ℕ
  rest : List ℕ
  is : bs ≡ byte ∷ rest
  here : byte_of image a ≡ Some byte
  more : bytes_at (λ c. c.execute) (user image) (a + 1) n ≡ Some rest

module _ (image : Image) (a n : ℕ) (bs : List ℕ) where
  allowed : (q : Page) (xs : List ℕ) (x : Bool) → get image.pages (a / 4096) ≡ Some q → bytes_at (λ c. c.execute) (user image) (a + 1) n ≡ Some xs
      → cond x (Some (slice_index q.bytes (a % 4096) ∷ xs)) None ≡ Some bs → First image a n bs
  allowed q xs true is more e = record {
    byte = slice_index q.bytes (a % 4096);
    rest = xs;
    is = sym (same_Some (slice_index q.bytes (a % 4096) ∷ xs) bs e);
    here = ap (option_map (λ (p : Page). slice_index p.bytes (a % 4096))) is;
    more = more;
  }
  allowed q xs false is more e = let bad : ⊥ = cc in absurd bad

  in-page : (q : Page) (r : Option (List ℕ)) (b : Bool) → get image.pages (a / 4096) ≡ Some q → bytes_at (λ c. c.execute) (user image) (a + 1) n ≡ r
      → cell_byte (λ c. c.execute) (cond b (Some (record { read = q.perm.read; write = q.perm.write; execute = q.perm.execute; byte = slice_index q.bytes (a % 4096) })) None) r ≡ Some bs
      → First image a n bs
  in-page q r false is more e = let bad : ⊥ = cc in absurd bad
  in-page q None true is more e = let bad : ⊥ = cc in absurd bad
  in-page q (Some xs) true is more e = allowed q xs q.perm.execute is more e

  of-page : (p : Option Page) → get image.pages (a / 4096) ≡ p → cell_byte (λ c. c.execute) (cell_in p (a % 4096)) (bytes_at (λ c. c.execute) (user image) (a + 1) n) ≡ Some bs → First image a n bs
  of-page None is e = let bad : ⊥ = cc in absurd bad
  of-page (Some q) is e = in-page q (bytes_at (λ c. c.execute) (user image) (a + 1) n) q.perm.user is refl e

  first-byte : a < 2 ^ 64 → bytes_at (λ c. c.execute) (user image) a (suc n) ≡ Some bs → First image a n bs
  unfolding bytes_at user
  first-byte low e =
      let same : a % 2 ^ 64 ≡ a = omega (arith, low) in
      of-page (get image.pages (a / 4096)) refl (sym (ap (λ x. cell_byte (λ c. c.execute) (seen (get image.pages) x) (bytes_at (λ c. c.execute) (user image) (a + 1) n)) same) ∙ e)

no-more : (image : Image) (a : ℕ) (bs : List ℕ) → bytes_at (λ c. c.execute) (user image) a 0 ≡ Some bs → bs ≡ []
unfolding bytes_at
no-more image a bs e = sym (same_Some [] bs e)

abbrev word_in : Image → ℕ → Option ℕ
word_in image pc = word_of (byte_of image pc) (byte_of image (pc + 1)) (byte_of image (pc + 2)) (byte_of image (pc + 3))

-- what is fetched is the word that stands there
pub fetched-word : (image : Image) (pc w : ℕ) → pc % 4 ≡ 0 → pc < 2 ^ 64 → fetched (user image) pc ≡ Ok w → word_in image pc ≡ Some w
unfolding fetched
fetched-word image pc w even low e = by (bytes_at (λ c. c.execute) (user image) pc 4) refl e
  where
    four : (bs : List ℕ) → bytes_at (λ c. c.execute) (user image) pc 4 ≡ Some bs → word_in image pc ≡ Some (le bs)
    four bs is =
        let a = first-byte image pc 3 bs low is in
        let b = first-byte image (pc + 1) 2 a.rest (omega (arith, even, low)) a.more in
        let c = first-byte image (pc + 1 + 1) 1 b.rest (omega (arith, even, low)) b.more in
        let d = first-byte image (pc + 1 + 1 + 1) 0 c.rest (omega (arith, even, low)) c.more in
        let end = no-more image (pc + 1 + 1 + 1 + 1) d.rest d.more in
        let two : pc + 1 + 1 ≡ pc + 2 = omega arith in
        let three : pc + 1 + 1 + 1 ≡ pc + 3 = omega arith in
        let list : bs ≡ a.byte ∷ (b.byte ∷ (c.byte ∷ (d.byte ∷ []))) =
        a.is ∙ ap (λ r. a.byte ∷ r) (b.is ∙ ap (λ r. b.byte ∷ r) (c.is ∙ ap (λ r. c.byte ∷ r) (d.is ∙ ap (λ r. d.byte ∷ r) end))) in
        let number : a.byte + 256 * (b.byte + 256 * (c.byte + 256 * d.byte)) ≡ a.byte + 256 * (b.byte + 256 * (c.byte + 256 * (d.byte + 256 * 0))) = omega arith in
        (λ t. word_of (a.here t) (b.here t) ((ap (byte_of image) (sym two) ∙ c.here) t) ((ap (byte_of image) (sym three) ∙ d.here) t)) ∙ ap Some number ∙ ap (λ l. Some (le l)) (sym list)

    by : (o : Option (List ℕ)) → bytes_at (λ c. c.execute) (user image) pc 4 ≡ o → or_fault FetchPageFault le o ≡ Ok w → word_in image pc ≡ Some w
    by None is h = let bad : ⊥ = cc in absurd bad
    by (Some bs) is h = let same : le bs ≡ w = cc in four bs is ∙ ap Some same

-- ---- an instruction that is done

pub done-word : (regs : Registers) (m : Memory) → stop_of (instr regs m) ≡ stops.Next → (w : ℕ) × (fetched m regs.pc ≡ Ok w) × (stop_of (row_of (decoded w) regs m) ≡ stops.Next)
unfolding instr
done-word regs m done = by (fetched m regs.pc) refl done
  where
    by : (x : Result ℕ Cause) → fetched m regs.pc ≡ x → stop_of (step_of_word x regs m) ≡ stops.Next
        → (w : ℕ) × (fetched m regs.pc ≡ Ok w) × (stop_of (row_of (decoded w) regs m) ≡ stops.Next)
    by (Err cause) is h = let bad : ⊥ = cc in absurd bad
    by (Ok w) is h = (w, is, h)

-- ---- and uses nothing that is watched

module _ (addresses bytes : List ℕ) where
  module _ (regs : Registers) (m : Memory) where
    puts-none : (instr : Instr) → SparesBytes bytes regs (Some instr) → stop_of (row instr regs m) ≡ stops.Next → puts_at_one bytes (Some instr) (data_address regs instr) ≡ false
    unfolding row data_address
    puts-none (i.Lui d imm) spares done = no-test (λ a. false) bytes (λ a. refl)
    puts-none (i.Auipc d imm) spares done = no-test (λ a. false) bytes (λ a. refl)
    puts-none (i.Jal d offset) spares done = no-test (λ a. false) bytes (λ a. refl)
    puts-none (i.Jalr d s imm) spares done = no-test (λ a. false) bytes (λ a. refl)
    puts-none (i.Branch op s t offset) spares done = no-test (λ a. false) bytes (λ a. refl)
    puts-none (i.Load op d s imm) spares done = no-test (λ a. false) bytes (λ a. refl)
    puts-none (i.Store op s t imm) spares done = spares
    puts-none (i.OpImm op d s imm) spares done = no-test (λ a. false) bytes (λ a. refl)
    puts-none (i.ShiftImm op d s places) spares done = no-test (λ a. false) bytes (λ a. refl)
    puts-none (i.Op op d s t) spares done = no-test (λ a. false) bytes (λ a. refl)
    puts-none (i.AddImmW d s imm) spares done = no-test (λ a. false) bytes (λ a. refl)
    puts-none (i.ShiftImmW op d s places) spares done = no-test (λ a. false) bytes (λ a. refl)
    puts-none (i.OpW op d s t) spares done = no-test (λ a. false) bytes (λ a. refl)
    puts-none (i.Fence d s imm) spares done = no-test (λ a. false) bytes (λ a. refl)
    puts-none i.Ecall spares done = no-test (λ a. false) bytes (λ a. refl)
    puts-none i.Ebreak spares done = no-test (λ a. false) bytes (λ a. refl)

    stores-none : (o : Option Instr) → SparesBytes bytes regs o → stop_of (row_of o regs m) ≡ stops.Next → puts_at_one bytes o (data_address_of regs o) ≡ false
    stores-none None spares done = let bad : ⊥ = cc in absurd bad
    stores-none (Some instr) spares done = puts-none instr spares done

  -- what is about to be stored, of a process
  abbrev storing_in : ℕ → Option Live → Bool
  storing_in p o =
      stores_by bytes (option_map (λ (regs : Registers). record {
        pid = p;
        regs = regs;
        word = word_of (byte_in regs.pc o) (byte_in (regs.pc + 1) o) (byte_in (regs.pc + 2) o) (byte_in (regs.pc + 3) o);
        address = address_of regs (word_of (byte_in regs.pc o) (byte_in (regs.pc + 1) o) (byte_in (regs.pc + 2) o) (byte_in (regs.pc + 3) o));
      }) (option_map (λ (l : Live). l.regs) o))

  no-store : (p : ℕ) (l : Live) → GoesUnwatched addresses bytes l.regs l.image → storing_in p (Some l) ≡ false
  no-store p l goes =
      let (w, is, done) = done-word l.regs (user l.image) goes.done in
      let word = fetched-word l.image l.regs.pc w goes.spares.even goes.spares.low is in
      ap (λ o. puts_at_one bytes (instruction_in o) (address_of l.regs o)) word
      ∙ stores-none l.regs (user l.image) (decoded w) (subst (λ x. SparesBytes bytes l.regs (instruction_of x)) is goes.spares.spares) done

  no-stop : (s : State) (p : ℕ) (l : Live) → live s p ≡ Some l → GoesUnwatched addresses bytes l.regs l.image → stops_for addresses bytes s (Some p) ≡ false
  no-stop s p l lives goes =
      ap (λ o. pc_is_one addresses (option_map (λ (x : Live). x.regs) o) || stores_to_one bytes s p) lives
      ∙ ap (λ b. b || stores_to_one bytes s p) goes.spares.away
      ∙ ap (storing_in p) lives ∙ no-store p l goes

  pub unwatched-free : (w : World) → RunsUnwatched addresses bytes w → is_before_stop addresses bytes w ≡ false
  unwatched-free w (p, l, current, lives, free, goes) = ap (stops_for addresses bytes w.state) current ∙ no-stop w.state p l lives goes

  -- instructions of one process

  module _ (p : ℕ) (names : List Named) where
    abbrev named : Meaning → Running
    named m = record { machine = m; names = names }

    one-advances : (a b : Meaning) → IsEvent a Run (Step_of p Stepped) b → Advances (named a) Run (Step_of p Stepped) (named b)
    one-advances a b one = record { event = one; names = refl }

    unstopped : (n : ℕ) (old mid : Meaning) → AreUnwatched addresses bytes p n old mid → is_before_stop addresses bytes mid.world ≡ false → Unstopped addresses bytes n (named old) (named mid)
    unstopped zero old mid same free = ap named same
    unstopped (suc n) old mid (m, before, runs, one) free = (named m, Step_of p Stepped, unstopped n old m before (unwatched-free m.world runs), one-advances m mid one, refl, free)

-- one after another
pub unstopped-join : (addresses bytes : List ℕ) (a b : ℕ) (old mid new : Running) → Unstopped addresses bytes a old mid → Unstopped addresses bytes b mid new
    → Unstopped addresses bytes (a + b) old new
unstopped-join addresses bytes a zero old mid new first same = subst (λ n. Unstopped addresses bytes n old new) (sym (add-zero a)) (subst (Unstopped addresses bytes a old) (sym same) first)
unstopped-join addresses bytes a (suc b) old mid new first (m, o, before, one, done, free) =
    subst (λ n. Unstopped addresses bytes n old new) (sym (add-suc a b)) (m, o, unstopped-join addresses bytes a b old mid m first before, one, done, free)

-- ---- a row

-- an instruction that is done is one of the process that runs after it too
pub same-step : (a b : Running) (o : Outcome) → IsSound a → Advances a Run o b → is_done o ≡ true → o ≡ Step_of (or_zero b.machine.world.turns.current) Stepped
same-step a b o sound one done = by o done (run-steps a.machine b.machine.world o sound.machine happens ∙ sym (done-stays a.machine.world b.machine.world o happens done))
  where
    happens : Happens a.machine.world Run o b.machine.world
    happens = one.event.promised.0

    by : (x : Outcome) → is_done x ≡ true → stepper x ≡ b.machine.world.turns.current → x ≡ Step_of (or_zero b.machine.world.turns.current) Stepped
    by (Step_of p Stepped) done is = ap (λ (o : Option ℕ). Step_of (or_zero o) Stepped) is
    by (Step_of p (Called number value)) done is = let bad : ⊥ = cc in absurd bad
    by (Step_of p (Blocked number)) done is = let bad : ⊥ = cc in absurd bad
    by (Step_of p (Exited status)) done is = let bad : ⊥ = cc in absurd bad
    by (Step_of p (Faulted cause)) done is = let bad : ⊥ = cc in absurd bad
    by (Turn p) done is = let bad : ⊥ = cc in absurd bad
    by Idle done is = let bad : ⊥ = cc in absurd bad
    by Ticked done is = let bad : ⊥ = cc in absurd bad
    by (Typed echo) done is = let bad : ⊥ = cc in absurd bad
    by (Sent b) done is = let bad : ⊥ = cc in absurd bad
    by Halted done is = let bad : ⊥ = cc in absurd bad

module _ (addresses bytes : List ℕ) (a b : Running) (o : Outcome) (one : Advances a Run o b) where
  -- one Run alone
  pub row-one : (met : Bool) → is_before_stop addresses bytes b.machine.world ≡ met → MadeRow addresses bytes met o a b 1
  row-one met is = (a, refl, one, is)

  module _ (done : is_done o ≡ true) (free : is_before_stop addresses bytes b.machine.world ≡ false) (p : ℕ) (same : o ≡ Step_of p Stepped) (new : Meaning) where
    abbrev end : Running
    end = record { machine = new; names = b.names }

    -- and so many after it
    next : (made : ℕ) → AreUnwatched addresses bytes p made b.machine new → MadeRow addresses bytes (is_before_stop addresses bytes new.world) o a end (suc made)
    next zero are = (a, refl, subst (λ (m : Meaning). Advances a Run o (record { machine = m; names = b.names })) (sym are) one, refl)
    next (suc n) (m, before, runs, event) =
        let mid : Running = record { machine = m; names = b.names } in
        let more = unstopped addresses bytes p b.names n b.machine m before (unwatched-free addresses bytes m.world runs) in
        let count : 1 + n ≡ suc n = omega arith in (
          mid,
          subst (λ k. Unstopped addresses bytes k a mid) count (unstopped-join addresses bytes 1 n a b mid (a, o, refl, one, done, free) more),
          subst (λ (x : Outcome). Advances mid Run x end) (sym same) (one-advances addresses bytes p b.names m new event),
          refl,
        )

    pub row-more : (made : ℕ) (met : Bool) → AreUnwatched addresses bytes p made b.machine new → is_before_stop addresses bytes new.world ≡ met → MadeRow addresses bytes met o a end (made + 1)
    row-more made met are is =
        subst (λ k. MadeRow addresses bytes met o a end k) (sym (add-one made)) (subst (λ (x : Bool). MadeRow addresses bytes x o a end (suc made)) is (next made are))

-- ---- running on

-- Run is sent again, or not
pub goes-parts : (goes met done : Bool) → goes ≡ (not met && done) → goes ≡ true → (met ≡ false) × (done ≡ true)
goes-parts goes false true is on = (refl, refl)
goes-parts goes false false is on = absurd (true≢false (sym on ∙ is))
goes-parts goes true done is on = absurd (true≢false (sym on ∙ is))

pub goes-not : (goes met done : Bool) → goes ≡ (not met && done) → goes ≡ false → met ≡ false → done ≡ true → ⊥
goes-not goes false true is off unmet was_done = true≢false (sym is ∙ off)
goes-not goes false false is off unmet was_done = true≢false (sym was_done)
goes-not goes true done is off unmet was_done = true≢false unmet

module _ (addresses bytes : List ℕ) (old mid new : Running) (n : ℕ) (o : Outcome) (before : Unstopped addresses bytes n old mid) where
  -- a row that is the last one
  pub went-on-row : (most sent : ℕ) (met : Bool) → MadeRow addresses bytes met o mid new sent → n + sent ≤ most → (met ≡ false → is_done o ≡ true → n + sent ≡ most)
      → WentOn addresses bytes most met (Some o) old new (n + sent)
  went-on-row most zero met row within all = absurd row
  went-on-row most (suc s) met (m, more, one, is) within all =
      subst (λ k. WentOn addresses bytes most met (Some o) old new k) (sym (add-suc n s))
      (m, o, unstopped-join addresses bytes n s old mid m before more, one, is, refl, omega (arith, within), λ unmet done. sym (add-suc n s) ∙ all unmet done)

  -- one that isn't
  pub unstopped-row : (sent : ℕ) (met : Bool) → met ≡ false → is_done o ≡ true → MadeRow addresses bytes met o mid new sent → Unstopped addresses bytes (n + sent) old new
  unstopped-row zero met unmet done row = absurd row
  unstopped-row (suc s) met unmet done (m, more, one, is) =
      subst (λ k. Unstopped addresses bytes k old new) (sym (add-suc n s)) (m, o, unstopped-join addresses bytes n s old mid m before more, one, done, is ∙ unmet)

-- all were sent where none was asked for
pub none-sent : (addresses bytes : List ℕ) (most n : ℕ) (old new : Running) → Unstopped addresses bytes n old new → (0 < n → n < most) → most ≤ n → (most ≡ 0) × (new ≡ old)
none-sent addresses bytes most zero old new same fewer over = (omega (arith, over), same)
none-sent addresses bytes most (suc n) old new before fewer over = absurd (let few = fewer (omega arith) in omega (arith, few, over))
