-- What the words that look answer.
use Rattle.std.specs.Prelude.{◌≡◌, ℕ, unwrap_or, ⊤, List, [], ◌++◌, Option, None, Some}
use Rattle.kcall_core.specs.Observers.{process_at}
use Rattle.xv_session.specs.Recorded.{Recorded}
use Rattle.debug_words.specs.declared.vocabulary.Word.{Word}
use Rattle.debug_words.specs.declared.vocabulary.Word.TheVariants.{Nothing, Where, Registers, Memory, Pages, Frames, Processes, Descriptors, Pipe, Console, At, Events, Trace, Callers, Listing, Numbers, Value, Continue, Quit}
use Rattle.debug_views.specs.ConsoleText.{console_text}
use Rattle.debug_views.specs.DescriptorText.{descriptors_shown}
use Rattle.debug_views.specs.EventText.{IsEventsText, no_notes}
use Rattle.debug_views.specs.FrameText.{IsFramesText}
use Rattle.debug_views.specs.MemoryText.{memory_shown}
use Rattle.debug_views.specs.NumberText.{numbers_shown, value_text}
use Rattle.debug_views.specs.PagesText.{IsPagesText}
use Rattle.debug_views.specs.RegisterText.{registers_shown}
use Rattle.debug_views.specs.Written.{Writes}
use Rattle.xv_debug.specs.Focus.{IsFocus}
use Rattle.xv_debug.specs.PipeText.{IsPipesText}
use Rattle.xv_debug.specs.ProcessText.{IsProcessesText}
use Rattle.xv_debug.specs.WhereText.{IsProcessText, IsWhereOf, nobody}

-- of a process, if there is one
abbrev pub IsOf : (ℕ → List ℕ → Type 0) → Option ℕ → List ℕ → Type 0
IsOf Is None text = text ≡ nobody
IsOf Is (Some p) text = Is p text

-- of the process that a word looks at, which may name one
abbrev pub IsOfFocus : Recorded → (named : Option ℕ) → (ℕ → List ℕ → Type 0) → List ℕ → Type 0
IsOfFocus s named Is text = (p : Option ℕ) × IsFocus named s p × IsOf Is p text

-- What a word writes behind an answer, if the memory that was shown last ends at `shown`. Of `help`, of a trace that has notes, of marks, and of what stands after a process's line, nothing is told here, nor of words that move the session
abbrev pub Shows : (shown : ℕ) → Recorded → Word → (old new : List ℕ) → Type 0
Shows shown s (Where named) old new = Writes old new (IsWhereOf s named)
Shows shown s At old new = Writes old new (IsWhereOf s None)
Shows shown s (Registers named) old new = Writes old new (IsOfFocus s named (λ p text. text ≡ registers_shown s p))
Shows shown s (Memory address count named) old new = Writes old new (IsOfFocus s named (λ p text. text ≡ memory_shown s p (unwrap_or address shown) count))
Shows shown s (Pages from named) old new = Writes old new (IsOfFocus s named (λ p. IsPagesText s p from))
Shows shown s (Numbers from count size named) old new = Writes old new (IsOfFocus s named (λ p text. text ≡ numbers_shown s size p from count))
Shows shown s (Value n) old new = new ≡ old ++ value_text n
Shows shown s (Callers named) old new = Writes old new (IsOfFocus s named (λ p. IsProcessText s p (process_at s.machine.world p)))
Shows shown s (Listing from count named) old new = Writes old new (IsOfFocus s named (λ p. IsProcessText s p (process_at s.machine.world p)))
Shows shown s (Descriptors named) old new = Writes old new (IsOfFocus s named (λ p text. text ≡ descriptors_shown s p))
Shows shown s (Frames frame) old new = Writes old new (IsFramesText s frame)
Shows shown s (Processes from) old new = Writes old new (IsProcessesText s from)
Shows shown s Pipe old new = Writes old new (IsPipesText s.machine.world)
Shows shown s Console old new = new ≡ old ++ console_text s.machine.world.state.console
Shows shown s (Events from) old new = Writes old new (IsEventsText s from)
Shows shown s (Trace count) old new = s.machine.notes ≡ [] → new ≡ old ++ no_notes
Shows shown s Nothing old new = new ≡ old
Shows shown s Continue old new = new ≡ old
Shows shown s Quit old new = new ≡ old
Shows shown s word old new = ⊤
