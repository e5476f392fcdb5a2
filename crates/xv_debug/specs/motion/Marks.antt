-- Which Runs meet a mark.
use Rattle.std.specs.Prelude.{ℕ, ◌&&◌, ◌||◌, Bool, false, List, Option, None, Some}
use Rattle.std.specs.List.{list_any}
use Rattle.kernel_spec.specs.runs.Run.{World, Outcome}
use Rattle.kernel_spec.specs.views.Words.{is_this}
use Rattle.xv_session.specs.Names.{place_in}
use Rattle.xv_session.specs.Until.{is_before, is_done, is_storing}
use Rattle.xv_session.specs.declared.running.Running.{Running}
use Rattle.debug_words.specs.declared.vocabulary.Mark.{Mark}
use Rattle.debug_words.specs.declared.vocabulary.Mark.TheVariants.{At, Store}

-- process p runs the program at a place, and stands before the instruction at this address: it is in no kernel call
abbrev pub stands_in : (program pc : ℕ) → Running → Option ℕ → Bool
stands_in program pc r None = false
stands_in program pc r (Some p) = is_this program (place_in p r.names) && is_before pc r.machine.world p

-- so does the process that runs
abbrev pub is_at : (program pc : ℕ) → Running → Bool
is_at program pc r = stands_in program pc r r.machine.world.turns.current

abbrev pub is_at_mark : Running → Mark → Bool
is_at_mark r (At program address) = is_at program address r
is_at_mark r (Store address) = false

-- the mark waits for a store, and the process that runs is about to make it
abbrev pub is_store_due : World → Mark → Bool
is_store_due w (At program address) = false
is_store_due w (Store address) = is_storing address w

-- one of them does
abbrev pub is_any_due : List Mark → World → Bool
is_any_due marks w = list_any (is_store_due w) marks

-- an instruction was done, of which it is told whether it was such a store; or the process that runs stands at one of the marks
abbrev pub meets_with : List Mark → (due : Bool) → Outcome → Running → Bool
meets_with marks due o r = (due && is_done o) || list_any (is_at_mark r) marks

-- an event of which this came led from the one to the other, and meets one of the marks
abbrev pub meets_marks : List Mark → Running → Outcome → Running → Bool
meets_marks marks before o after = meets_with marks (is_any_due marks before.machine.world) o after
