-- What a machine stands for, as data.
use Rattle.std.specs.Prelude.{◌≡◌, ℕ, zero, suc, ℤ, List, Option, refl, ◌⊎◌}
use Rattle.std.proofs.Common.{inl, inr}
use Rattle.std.specs.FinMap.{FinMap, code}
use Rattle.std.specs.Ordering.{nat_cmp}
use Rattle.std.specs.Coded.{Coded, code_by, coded×, coded⊎, coded_ℕ, coded_ℤ, coded_list, coded_option}
use Rattle.xk_base.specs.declared.access.Cause.{Cause}
use Rattle.xk_base.specs.declared.access.Cause.TheVariants.{TargetMisaligned, IllegalInstruction, Breakpoint, LoadMisaligned, StoreMisaligned, FetchPageFault, LoadPageFault, StorePageFault}
use Rattle.kernel_spec.specs.views.Codes.{world_code}
use Rattle.kernel_spec.specs.runs.Run.{World}
use Rattle.xv_machine.specs.declared.trace.Note.{Note}
use Rattle.xv_machine.specs.declared.trace.Note.TheVariants.{Stepped, Called, Blocked, Exited, Faulted, Turn, Idle, Ticked, Typed, Sent, Halted}
use Rattle.xv_machine.specs.Meaning.{Owned, Frames, Meaning}

abbrev pub list_code : Coded (List ℕ)
list_code = coded_list coded_ℕ

abbrev pub places_code : Coded (FinMap nat_cmp ℕ)
places_code = code coded_ℕ coded_ℕ

abbrev pub levels_code : Coded (FinMap nat_cmp ℕ × (FinMap nat_cmp ℕ × FinMap nat_cmp ℕ))
levels_code = coded× places_code (coded× places_code places_code)

abbrev pub owned_code : Coded Owned
owned_code = code_by (ℕ × (ℕ × (FinMap nat_cmp ℕ × (FinMap nat_cmp ℕ × FinMap nat_cmp ℕ)))) (coded× coded_ℕ (coded× coded_ℕ levels_code)) (λ o. (o.trapframe, (o.root, (o.uppers, (o.lowers, o.pages))))) (λ t. record { trapframe = t.0; root = t.1.0; uppers = t.1.1.0; lowers = t.1.1.1.0; pages = t.1.1.1.1 }) (λ _. refl)

abbrev pub frames_code : Coded Frames
frames_code = code_by (ℕ × (List ℕ × FinMap nat_cmp Owned)) (coded× coded_ℕ (coded× list_code (code coded_ℕ owned_code))) (λ f. (f.count, (f.free, f.owned))) (λ t. record { count = t.0; free = t.1.0; owned = t.1.1 }) (λ _. refl)

-- a cause, by its place
abbrev pub cause_out : Cause → ℕ
cause_out TargetMisaligned = 0
cause_out IllegalInstruction = 1
cause_out Breakpoint = 2
cause_out LoadMisaligned = 3
cause_out StoreMisaligned = 4
cause_out FetchPageFault = 5
cause_out LoadPageFault = 6
cause_out StorePageFault = 7

abbrev pub cause_in : ℕ → Cause
cause_in zero = TargetMisaligned
cause_in (suc zero) = IllegalInstruction
cause_in (suc (suc zero)) = Breakpoint
cause_in (suc (suc (suc zero))) = LoadMisaligned
cause_in (suc (suc (suc (suc zero)))) = StoreMisaligned
cause_in (suc (suc (suc (suc (suc zero))))) = FetchPageFault
cause_in (suc (suc (suc (suc (suc (suc zero)))))) = LoadPageFault
cause_in (suc (suc (suc (suc (suc (suc (suc k))))))) = StorePageFault

-- the notes of a step, those of other events that have a value, and those that have none
abbrev pub StepNote : Type 0
StepNote = (ℕ ⊎ (ℕ × (ℤ × ℤ))) ⊎ ((ℕ × ℤ) ⊎ ((ℕ × ℤ) ⊎ (ℕ × ℕ)))

abbrev pub OtherNote : Type 0
OtherNote = ℕ ⊎ ((ℕ × ℕ) ⊎ Option ℕ)

abbrev pub note_out : Note → StepNote ⊎ (OtherNote ⊎ ℕ)
note_out (Stepped pid) = inl (inl (inl pid))
note_out (Called pid number value) = inl (inl (inr (pid, (number, value))))
note_out (Blocked pid number) = inl (inr (inl (pid, number)))
note_out (Exited pid status) = inl (inr (inr (inl (pid, status))))
note_out (Faulted pid cause) = inl (inr (inr (inr (pid, cause_out cause))))
note_out (Turn pid) = inr (inl (inl pid))
note_out (Typed key echo) = inr (inl (inr (inl (key, echo))))
note_out (Sent byte) = inr (inl (inr (inr byte)))
note_out Idle = inr (inr 0)
note_out Ticked = inr (inr 1)
note_out Halted = inr (inr 2)

abbrev pub note_in : StepNote ⊎ (OtherNote ⊎ ℕ) → Note
note_in (inl (inl (inl pid))) = Stepped pid
note_in (inl (inl (inr t))) = Called t.0 t.1.0 t.1.1
note_in (inl (inr (inl t))) = Blocked t.0 t.1
note_in (inl (inr (inr (inl t)))) = Exited t.0 t.1
note_in (inl (inr (inr (inr t)))) = Faulted t.0 (cause_in t.1)
note_in (inr (inl (inl pid))) = Turn pid
note_in (inr (inl (inr (inl t)))) = Typed t.0 t.1
note_in (inr (inl (inr (inr byte)))) = Sent byte
note_in (inr (inr zero)) = Idle
note_in (inr (inr (suc zero))) = Ticked
note_in (inr (inr (suc (suc k)))) = Halted

pub note_back : (n : Note) → note_in (note_out n) ≡ n
note_back (Stepped pid) = refl
note_back (Called pid number value) = refl
note_back (Blocked pid number) = refl
note_back (Exited pid status) = refl
note_back (Faulted pid TargetMisaligned) = refl
note_back (Faulted pid IllegalInstruction) = refl
note_back (Faulted pid Breakpoint) = refl
note_back (Faulted pid LoadMisaligned) = refl
note_back (Faulted pid StoreMisaligned) = refl
note_back (Faulted pid FetchPageFault) = refl
note_back (Faulted pid LoadPageFault) = refl
note_back (Faulted pid StorePageFault) = refl
note_back (Turn pid) = refl
note_back (Typed key echo) = refl
note_back (Sent byte) = refl
note_back Idle = refl
note_back Ticked = refl
note_back Halted = refl

abbrev pub step_note_code : Coded StepNote
step_note_code = coded⊎ (coded⊎ coded_ℕ (coded× coded_ℕ (coded× coded_ℤ coded_ℤ))) (coded⊎ (coded× coded_ℕ coded_ℤ) (coded⊎ (coded× coded_ℕ coded_ℤ) (coded× coded_ℕ coded_ℕ)))

abbrev pub note_code : Coded Note
note_code = code_by (StepNote ⊎ (OtherNote ⊎ ℕ)) (coded⊎ step_note_code (coded⊎ (coded⊎ coded_ℕ (coded⊎ (coded× coded_ℕ coded_ℕ) (coded_option coded_ℕ))) coded_ℕ)) note_out note_in note_back

abbrev pub meaning_code : Coded Meaning
meaning_code = code_by ((World × Frames) × (List Note × ℕ)) (coded× (coded× world_code frames_code) (coded× (coded_list note_code) coded_ℕ)) (λ m. ((m.world, m.frames), (m.notes, m.room))) (λ t. record { world = t.0.0; frames = t.0.1; notes = t.1.0; room = t.1.1 }) (λ _. refl)
