-- What a session stands for, as data.
use Rattle.std.specs.Prelude.{◌≡◌, ℕ, zero, suc, List, refl, ◌⊎◌}
use Rattle.std.proofs.Common.{inl, inr}
use Rattle.std.specs.Coded.{Coded, code_by, coded×, coded⊎, coded_ℕ, coded_list}
use Rattle.kernel_spec.specs.views.Codes.{program_code}
use Rattle.kernel_spec.specs.views.State.{ProgramFile}
use Rattle.kernel_spec.specs.runs.Run.{Event, Run, Tick, Key, Send}
use Rattle.xv_machine.specs.Codes.{meaning_code}
use Rattle.xv_machine.specs.Meaning.{Meaning}
use Rattle.xv_session.specs.Recorded.{Recorded}
use Rattle.xv_session.specs.Spans.{Kept}
use Rattle.xv_session.specs.NameCodes.{names_code}
use Rattle.xv_session.specs.declared.names.Named.{Named}

-- an event: a key by its byte, the others by their place
abbrev pub event_out : Event → ℕ ⊎ ℕ
event_out Run = inl 0
event_out Tick = inl 1
event_out (Key byte) = inr byte
event_out Send = inl 2

abbrev pub event_in : ℕ ⊎ ℕ → Event
event_in (inl zero) = Run
event_in (inl (suc zero)) = Tick
event_in (inl (suc (suc k))) = Send
event_in (inr byte) = Key byte

pub event_back : (e : Event) → event_in (event_out e) ≡ e
event_back Run = refl
event_back Tick = refl
event_back (Key byte) = refl
event_back Send = refl

abbrev pub event_code : Coded Event
event_code = code_by (ℕ ⊎ ℕ) (coded⊎ coded_ℕ coded_ℕ) event_out event_in event_back

abbrev pub kept_code : Coded Kept
kept_code = code_by (List Event × Event) (coded× (coded_list event_code) event_code) (λ k. (k.events, k.next)) (λ t. record { events = t.0; next = t.1 }) (λ _. refl)

abbrev pub recorded_code : Coded Recorded
recorded_code = code_by ((ℕ × ℕ) × (List ProgramFile × (List Event × (Meaning × List Named)))) (coded× (coded× coded_ℕ coded_ℕ) (coded× (coded_list program_code) (coded× (coded_list event_code) (coded× meaning_code names_code))))
    (λ s. ((s.frames, s.trace), (s.programs, (s.events, (s.machine, s.names))))) (λ t. record { frames = t.0.0; trace = t.0.1; programs = t.1.0; events = t.1.1.0; machine = t.1.1.1.0; names = t.1.1.1.1 }) (λ _. refl)
