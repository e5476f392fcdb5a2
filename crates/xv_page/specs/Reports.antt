-- What is known of the sources of programs, and what is told of a run in words.
use Rattle.std.specs.Prelude.{◌≡◌, ◌⊎◌, ℕ, List, [], ◌∷◌, ◌++◌, length, map, Option, None, Some, option_map, Result, Ok, Err}
use Rattle.std.specs.Str.{IsUtf8}
use Rattle.std.specs.declared.boxed.Box.{Box}
use Rattle.xk_base.specs.declared.access.Cause.{Cause}
use Rattle.kcall_core.specs.Observers.{registers_of}
use Rattle.uasm_core.specs.FileFormat.{file_of}
use Rattle.uasm_core.specs.LineTable.{LineTable, line_table, table_seen}
use Rattle.uasm_core.specs.Written.{Fault}
use Rattle.xv_report.specs.Hints.{hint_of}
use Rattle.xv_report.specs.Locations.{IsSourceOf}
use Rattle.xv_report.specs.Reports.{AreCallsOf}
use Rattle.xv_report.specs.Unwound.{frames_known}
use Rattle.xv_report.specs.declared.fault.FaultReport.{FaultReport}
use Rattle.xv_report.specs.declared.unwinding.Calls.{Calls}
use Rattle.xv_report.specs.declared.sources.ProgramSource.{ProgramSource}
use Rattle.xv_report.specs.declared.sources.Sources.{Sources}
use Rattle.xv_session.specs.Looking.{next_step_of}
use Rattle.xv_session.specs.Names.{place_in}
use Rattle.xv_session.specs.Recorded.{Recorded}
use Rattle.xv_page.specs.Told.{laid}
use Rattle.xv_page.specs.declared.answers.Answer.{Answer}
use Rattle.xv_page.specs.declared.answers.Answer.TheVariants.{Done, NotBooted, Memory, Full, Unknown}

-- ---- what is known of sources

-- the bytes of the ELF files with the programs' symbols
abbrev pub symbols_in : Sources → List (List ℕ)
symbols_in s = map (λ v. v.items) s.symbols.items

-- the tables of the lines of those that were assembled
abbrev pub tables_in : Sources → List (Option LineTable)
tables_in s = map (option_map table_seen) s.assembled.items

-- what is known, in the host's place for it
abbrev pub known : {Z : Type 0} → Option (Box Sources Z) → Option Sources
known None = None
known (Some b) = Some b.value

-- nothing is known of any program
abbrev pub IsBegun : Option Sources → Type 0
IsBegun None = ⊥
IsBegun (Some s) = (symbols_in s ≡ []) × (tables_in s ≡ [])

-- what is known was begun anew; if not, it stays as it was
abbrev pub Begins : (table : List ℕ) → Answer → (old new : Option Sources) → Type 0
Begins table Done old new = IsUtf8 table × IsBegun new
Begins table Memory old new = IsUtf8 table × (new ≡ old)
Begins table Unknown old new = (¬ IsUtf8 table) × (new ≡ old)
Begins table NotBooted old new = ⊥
Begins table Full old new = ⊥

-- the table of the text's lines, or none if the text is refused
abbrev pub IsAssembledOf : (text : List ℕ) → Option LineTable → Type 0
IsAssembledOf text (Some table) = line_table text ≡ Ok table
IsAssembledOf text None = (e : Fault) × (file_of text ≡ Err e)

-- the table of a source's lines; none if there is no source, or it is no text, or one that is refused
abbrev pub IsLinesOf : (source : List ℕ) → Option LineTable → Type 0
IsLinesOf source (Some table) = IsAssembledOf source (Some table)
IsLinesOf source None = (source ≡ []) ⊎ ((¬ IsUtf8 source) ⊎ IsAssembledOf source None)

-- this was put behind what is known; or there is too little memory, and what is known is as it was
abbrev pub Adds : (symbols : List ℕ) → Option LineTable → Answer → (old new : Sources) → Type 0
Adds symbols table Done old new = (symbols_in new ≡ symbols_in old ++ symbols ∷ []) × (tables_in new ≡ tables_in old ++ table ∷ [])
Adds symbols table Memory old new = (symbols_in new ≡ symbols_in old) × (tables_in new ≡ tables_in old)
Adds symbols table NotBooted old new = ⊥
Adds symbols table Full old new = ⊥
Adds symbols table Unknown old new = ⊥

-- so with the lines of a source; the memory for them may be short too
abbrev pub AddedTo : (symbols source : List ℕ) → {E : Type 0} → Result Answer E → (old new : Sources) → Type 0
AddedTo symbols source (Ok answer) old new = (table : Option LineTable) × IsLinesOf source table × Adds symbols table answer old new
AddedTo symbols source (Err e) old new = new ≡ old

-- of the call's answer: if nothing was begun, it says so
abbrev pub SourceAdded : (symbols source : List ℕ) → Answer → (old new : Option Sources) → Type 0
SourceAdded symbols source answer None new = (answer ≡ Unknown) × (new ≡ None)
SourceAdded symbols source answer (Some old) None = ⊥
SourceAdded symbols source Done (Some old) (Some new) = (table : Option LineTable) × IsLinesOf source table × Adds symbols table Done old new
SourceAdded symbols source Memory (Some old) (Some new) = Adds symbols None Memory old new
SourceAdded symbols source NotBooted (Some old) (Some new) = ⊥
SourceAdded symbols source Full (Some old) (Some new) = ⊥
SourceAdded symbols source Unknown (Some old) (Some new) = ⊥

-- ---- what is told in words

-- a text is told: its length, and the text itself in the room, if it fits; or the host has too little memory for it, and nothing is told
abbrev pub TextTold : Answer → (before after : ℕ × List ℕ) → Type 0
TextTold Done before after = (text : List ℕ) × (after.0 ≡ length text) × (after.1 ≡ laid text before.1)
TextTold Memory before after = after ≡ before
TextTold NotBooted before after = ⊥
TextTold Full before after = ⊥
TextTold Unknown before after = ⊥

-- a text is told of what the host's numbers name
abbrev pub TellsOf : {A : Type 0} → (named : Option A) → Option Recorded → Answer → (before after : ℕ × List ℕ) → Type 0
TellsOf named None answer before after = (answer ≡ NotBooted) × (after ≡ before)
TellsOf None (Some s) answer before after = (answer ≡ Unknown) × (after ≡ before)
TellsOf (Some named) (Some s) answer before after = TextTold answer before after

-- the calls that led process p to where it is, by what is known of the source of its program
abbrev pub AreCalls : Option Sources → Recorded → (p : ℕ) → Calls → Type 0
AreCalls sources s p calls =
    (source : ProgramSource) × IsSourceOf sources s.machine.world.state.programs (place_in p s.names) source × AreCallsOf (frames_known source.symbols.now) s.machine.world.state p calls

-- the step that process p is about to make, with this cause of its fault, the calls that led to it, and what may be wrong; none if it isn't live
abbrev pub ReportOf : Option Sources → Cause → Recorded → (p : ℕ) → Option FaultReport → Type 0
ReportOf sources cause s p None = (next_step_of s.machine.world.state p ≡ None) ⊎ (registers_of s.machine.world.state p ≡ None)
ReportOf sources cause s p (Some r) =
    (next_step_of s.machine.world.state p ≡ Some r.fault.step) × (r.fault.cause ≡ cause) × AreCalls sources s p r.calls × (r.hint ≡ hint_of s.machine.world.state r.fault)

-- of the process that runs, if one does
abbrev pub ReportNow : Option Sources → Cause → Recorded → (current : Option ℕ) → Option FaultReport → Type 0
ReportNow sources cause s None r = r ≡ None
ReportNow sources cause s (Some p) r = ReportOf sources cause s p r

-- a text is told of a report, if there is one
abbrev pub ReportTold : Option FaultReport → Answer → (before after : ℕ × List ℕ) → Type 0
ReportTold None answer before after = (answer ≡ Unknown) × (after ≡ before)
ReportTold (Some r) answer before after = TextTold answer before after

-- a text is told of the fault of this cause that the next step comes to; nothing if no fault has it, nobody runs, or the host has too little memory
abbrev pub FaultTold : Option Sources → Option Cause → Option Recorded → Answer → (before after : ℕ × List ℕ) → Type 0
FaultTold sources cause None answer before after = (answer ≡ NotBooted) × (after ≡ before)
FaultTold sources None (Some s) answer before after = (answer ≡ Unknown) × (after ≡ before)
FaultTold sources (Some cause) (Some s) answer before after =
    ((answer ≡ Memory) × (after ≡ before)) ⊎ ((r : Option FaultReport) × ReportNow sources cause s s.machine.world.turns.current r × ReportTold r answer before after)
