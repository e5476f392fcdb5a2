-- Where a run stops between two instructions, and what running on up to there leaves.
use Rattle.std.specs.Prelude.{◌≡◌, ℕ, zero, suc, ◌≤◌, ◌||◌, Bool, true, false, nat_eq, List, Option, None, Some}
use Rattle.std.specs.List.{list_any}
use Rattle.rv64i_core.specs.Registers.{Registers}
use Rattle.rv64i_core.specs.declared.instruction.Instr.{Instr}
use Rattle.kernel_spec.specs.runs.Run.{World, Run, Outcome}
use Rattle.kernel_spec.specs.views.State.{State}
use Rattle.kcall_core.specs.Observers.{registers_of}
use Rattle.xv_session.specs.Looking.{next_step_of}
use Rattle.xv_session.specs.Steps.{Advances}
use Rattle.xv_session.specs.Until.{instruction_in, is_done, puts_at}
use Rattle.xv_session.specs.declared.looking.NextStep.{NextStep}
use Rattle.xv_session.specs.declared.running.Running.{Running}

abbrev pub pc_is_one : (addresses : List ℕ) → Option Registers → Bool
pc_is_one addresses None = false
pc_is_one addresses (Some regs) = list_any (λ a. nat_eq a regs.pc) addresses

-- process p is live, and its next instruction stands at one of the addresses
abbrev pub is_at_one : (addresses : List ℕ) → State → ℕ → Bool
is_at_one addresses s p = pc_is_one addresses (registers_of s p)

-- the instruction is a store, and one of the bytes that it puts, from its own address on, lies at one of these addresses
abbrev pub puts_at_one : (bytes : List ℕ) → Option Instr → (own : Option ℕ) → Bool
puts_at_one bytes instr own = list_any (λ a. puts_at a instr own) bytes

abbrev pub stores_by : (bytes : List ℕ) → Option NextStep → Bool
stores_by bytes None = false
stores_by bytes (Some step) = puts_at_one bytes (instruction_in step.word) step.address

-- process p is live, and about to store to one of the addresses
abbrev pub stores_to_one : (bytes : List ℕ) → State → ℕ → Bool
stores_to_one bytes s p = stores_by bytes (next_step_of s p)

abbrev pub stops_for : (addresses bytes : List ℕ) → State → Option ℕ → Bool
stops_for addresses bytes s None = false
stops_for addresses bytes s (Some p) = is_at_one addresses s p || stores_to_one bytes s p

-- the process that runs stands before a stop: its next instruction stands at one of the addresses, or stores to one of the bytes
abbrev pub is_before_stop : (addresses bytes : List ℕ) → World → Bool
is_before_stop addresses bytes w = stops_for addresses bytes w.state w.turns.current

-- so many Runs were sent, one by one: a done instruction came of each, and none led to a stop
abbrev pub Unstopped : (addresses bytes : List ℕ) → ℕ → Running → Running → Type 0
Unstopped addresses bytes zero old new = new ≡ old
Unstopped addresses bytes (suc n) old new =
    (mid : Running) × (o : Outcome) × Unstopped addresses bytes n old mid × Advances mid Run o new × (is_done o ≡ true) × (is_before_stop addresses bytes new.machine.world ≡ false)

-- So many Runs were sent, `most` at most: all but the last are done instructions that lead to no stop; this came of the last, and it led to a stop, or it didn't; if neither a stop nor another outcome ended them, all were sent
abbrev pub WentOn : (addresses bytes : List ℕ) → (most : ℕ) → (met : Bool) → (last : Option Outcome) → (old new : Running) → (sent : ℕ) → Type 0
WentOn addresses bytes most met last old new zero = (most ≡ 0) × (met ≡ false) × (last ≡ None) × (new ≡ old)
WentOn addresses bytes most met last old new (suc n) =
    (mid : Running) × (o : Outcome) × Unstopped addresses bytes n old mid × Advances mid Run o new × (is_before_stop addresses bytes new.machine.world ≡ met) × (last ≡ Some o) × (suc n ≤ most) × (met ≡ false → is_done o ≡ true → suc n ≡ most)

-- So many Runs were sent in a row, one at least: all but the last are done instructions that lead to no stop; this came of the last, and it led to a stop, or it didn't
abbrev pub MadeRow : (addresses bytes : List ℕ) → (met : Bool) → (last : Outcome) → (old new : Running) → (sent : ℕ) → Type 0
MadeRow addresses bytes met last old new zero = ⊥
MadeRow addresses bytes met last old new (suc n) =
    (mid : Running) × Unstopped addresses bytes n old mid × Advances mid Run last new × (is_before_stop addresses bytes new.machine.world ≡ met)
