-- What is told again and again, one after another; and what is told in a call.
use Rattle.std.proofs.Common.{◌≡◌, ◌∙◌, ◌<◌, ◌+◌, ◌++◌, ℕ, Bool, true, false, List, [], ◌∷◌, Option, None, Some, codes, decimal, drop, get_or, length, refl, subst, sym}
use Rattle.std.proofs.lemmas.List.{drop_more}
use Rattle.c_expressions.specs.Answers.{IsAnswer}
use Rattle.c_expressions.specs.declared.asked.Asked.{Asked}
use Rattle.kcall_core.specs.Observers.{byte_at, registers_of}
use Rattle.rv64i_core.specs.Registers.{Registers}
use Rattle.xv_machine.specs.Meaning.{Meaning}
use Rattle.xv_report.specs.declared.sources.ProgramSource.{ProgramSource}
use Rattle.xv_report.specs.declared.sources.Sources.{Sources}
use Rattle.xv_session.specs.Recorded.{Recorded}
use Rattle.xv_debug.specs.Chosen.{address_in, registers_in}
use Rattle.xv_debug.specs.ToldOfC.{AreDisplaysTold, IsDisplayTold, IsLineTold, IsToldSeen, TellsOfC, live, of_c, of_line, writes_nothing}
use Rattle.xv_debug.specs.declared.choosing.Chosen.{Chosen}
use Rattle.xv_debug.specs.declared.choosing.SeenCall.{SeenCall}
use Rattle.xv_debug.specs.declared.displays.Displayed.{Displayed}

-- what is told of those from a place on is told of all, since that of those before it was
abbrev pub AreToldUpTo : Option Sources → Chosen → Recorded → List Displayed → (place : ℕ) → (old now : List ℕ) → Type 0
AreToldUpTo known c s ds place old now = (end : List ℕ) → AreDisplaysTold known c s (drop place ds) now end → AreDisplaysTold known c s ds old end

module _ (known : Option Sources) (c : Chosen) (s : Recorded) (ds : List Displayed) where
  pub told-one : (place : ℕ) (d : Displayed) (old now next : List ℕ) → place < length ds → AreToldUpTo known c s ds place old now → IsDisplayTold known c s (get_or ds place d) now next
      → AreToldUpTo known c s ds (place + 1) old next
  told-one place d old now next below before is end rest =
      before end (subst (λ (left : List Displayed). AreDisplaysTold known c s left now end) (sym (drop_more ds place d below)) (next, is, rest))

module _ (source : ProgramSource) (s : Recorded) (p : ℕ) (call : SeenCall) (asked : Asked) where
  pub seen-live : (m : Meaning) (regs : Registers) (address : ℕ) (text : Option (List ℕ)) → m ≡ s.machine → registers_of m.world.state p ≡ Some regs → address ≡ address_in regs call
      → IsAnswer source.symbols.now address (registers_in regs call) (byte_at m.world.state p) asked text → IsToldSeen source s p call asked text
  seen-live m regs address text same there at told =
      live regs (subst (λ (n : Meaning). registers_of n.world.state p ≡ Some regs) same there)
      (subst (λ (place : ℕ). IsAnswer source.symbols.now place (registers_in regs call) (byte_at s.machine.world.state p) asked text) at
      (subst (λ (n : Meaning). IsAnswer source.symbols.now address (registers_in regs call) (byte_at n.world.state p) asked text) same told))

-- a line that is shown again and again: of a program in C, or any other
module _ (known : Option Sources) (c : Chosen) (s : Recorded) (d : Displayed) (line old mid : List ℕ) (same : line ≡ d.line.bytes) (numbered : mid ≡ old ++ (decimal d.number ++ codes ": ")) where
  pub shown-of-c : (new : List ℕ) (told : Bool) → told ≡ true → TellsOfC known c s line mid new told → IsDisplayTold known c s d old new
  shown-of-c new told is tells =
      of_c mid numbered (subst (λ (t : Bool). TellsOfC known c s d.line.bytes mid new t) is (subst (λ (l : List ℕ). TellsOfC known c s l mid new told) same tells))

  pub shown-of-line : (next new : List ℕ) (told : Bool) → told ≡ false → TellsOfC known c s line mid next told → IsLineTold s line next new → IsDisplayTold known c s d old new
  shown-of-line next new told is tells told_line = by (subst (λ (t : Bool). TellsOfC known c s line mid next t) is tells)
    where
      by : TellsOfC known c s line mid next false → IsDisplayTold known c s d old new
      by (writes_nothing t seen none other still) =
          of_line mid numbered (subst (λ (l : List ℕ). TellsOfC known c s l mid mid false) same (writes_nothing t seen none other refl))
          (subst (λ (l : List ℕ). IsLineTold s l mid new) same (subst (λ (at : List ℕ). IsLineTold s line at new) still told_line))
