-- A world as data, so that it can be what a machine stands for.
use Rattle.std.specs.Prelude.{◌≡◌, ℕ, zero, suc, ℤ, Bool, List, Option, refl, ◌⊎◌}
use Rattle.std.proofs.Common.{inl, inr}
use Rattle.std.specs.FinMap.{FinMap, code}
use Rattle.std.specs.FinSet as set
use Rattle.std.specs.FinSet.{FinSet}
use Rattle.std.specs.Ordering.{nat_cmp}
use Rattle.std.specs.Coded.{Coded, code_by, coded×, coded⊎, coded_ℕ, coded_ℤ, coded_bool, coded_list, coded_option}
use Rattle.xk_base.specs.Codes.{image_code}
use Rattle.xk_base.specs.Image.{Image}
use Rattle.pipe_core.specs.Pipe.{Pipe}
use Rattle.console_core.specs.Lists.{Console}
use Rattle.file_table.specs.declared.open_file.End.{End}
use Rattle.file_table.specs.declared.open_file.End.TheVariants.{Reading, Writing}
use Rattle.file_table.specs.declared.open_file.OpenFile.{OpenFile}
use Rattle.file_table.specs.declared.open_file.Target.{Target}
use Rattle.file_table.specs.declared.open_file.Target.TheVariants.{Console as Terminal, Program as File, Pipe as Pipe_end}
use Rattle.proc_table.specs.declared.process.Call.{Call}
use Rattle.kernel_spec.specs.views.Processes.{Process, Live, Alive, Zombie}
use Rattle.kernel_spec.specs.views.State.{State, ProgramFile}
use Rattle.kernel_spec.specs.waking.Turns.{Turns}
use Rattle.kernel_spec.specs.runs.Run.{World}

abbrev pub bytes_code : Coded (List ℕ)
bytes_code = coded_list coded_ℕ

abbrev pub call_code : Coded Call
call_code = code_by ((ℤ × ℕ) × ((ℕ × ℕ) × (ℕ × ℕ))) (coded× (coded× coded_ℤ coded_ℕ) (coded× (coded× coded_ℕ coded_ℕ) (coded× coded_ℕ coded_ℕ)))
    (λ c. ((c.number, c.a0), ((c.a1, c.a2), (c.moved, c.clock))))
    (λ t. record { number = t.0.0; a0 = t.0.1; a1 = t.1.0.0; a2 = t.1.0.1; moved = t.1.1.0; clock = t.1.1.1 }) (λ _. refl)

abbrev pub live_code : Coded Live
live_code = code_by (((List ℕ × ℕ) × Image) × ((FinMap nat_cmp ℕ × Option ℕ) × (Bool × Option Call)))
    (coded× (coded× (coded× bytes_code coded_ℕ) image_code) (coded× (coded× (code coded_ℕ coded_ℕ) (coded_option coded_ℕ)) (coded× coded_bool (coded_option call_code))))
    (λ l. (((l.regs.x, l.regs.pc), l.image), ((l.descriptors, l.parent), (l.killed, l.call))))
    (λ t. record { regs = record { x = t.0.0.0; pc = t.0.0.1 }; image = t.0.1; descriptors = t.1.0.0; parent = t.1.0.1; killed = t.1.1.0; call = t.1.1.1 }) (λ _. refl)

abbrev pub process_out : Process → Live ⊎ (Option ℕ × ℤ)
process_out (Alive l) = inl l
process_out (Zombie parent status) = inr (parent, status)

abbrev pub process_in : Live ⊎ (Option ℕ × ℤ) → Process
process_in (inl l) = Alive l
process_in (inr z) = Zombie z.0 z.1

pub process_back : (p : Process) → process_in (process_out p) ≡ p
process_back (Alive l) = refl
process_back (Zombie parent status) = refl

abbrev pub process_code : Coded Process
process_code = code_by (Live ⊎ (Option ℕ × ℤ)) (coded⊎ live_code (coded× (coded_option coded_ℕ) coded_ℤ)) process_out process_in process_back

abbrev pub pipe_code : Coded Pipe
pipe_code = code_by (List ℕ × (ℕ × ℕ)) (coded× bytes_code (coded× coded_ℕ coded_ℕ)) (λ p. (p.bytes, (p.readers, p.writers))) (λ t. record { bytes = t.0; readers = t.1.0; writers = t.1.1 }) (λ _. refl)

abbrev pub console_code : Coded Console
console_code = code_by (List ℕ × (List ℕ × List ℕ)) (coded× bytes_code (coded× bytes_code bytes_code)) (λ c. (c.committed, (c.uncommitted, c.to_send))) (λ t. record { committed = t.0; uncommitted = t.1.0; to_send = t.1.1 }) (λ _. refl)

abbrev pub program_code : Coded ProgramFile
program_code = code_by (List ℕ × List ℕ) (coded× bytes_code bytes_code) (λ p. (p.name, p.bytes)) (λ t. record { name = t.0; bytes = t.1 }) (λ _. refl)

abbrev pub end_out : End → ℕ
end_out Reading = 0
end_out Writing = 1

abbrev pub end_in : ℕ → End
end_in zero = Reading
end_in (suc k) = Writing

abbrev pub target_out : Target → ℕ ⊎ ((ℕ × ℕ) ⊎ (ℕ × ℕ))
target_out Terminal = inl 0
target_out (File program offset) = inr (inl (program, offset))
target_out (Pipe_end pipe end) = inr (inr (pipe, end_out end))

abbrev pub target_in : ℕ ⊎ ((ℕ × ℕ) ⊎ (ℕ × ℕ)) → Target
target_in (inl t) = Terminal
target_in (inr (inl f)) = File f.0 f.1
target_in (inr (inr p)) = Pipe_end p.0 (end_in p.1)

pub target_back : (t : Target) → target_in (target_out t) ≡ t
target_back Terminal = refl
target_back (File program offset) = refl
target_back (Pipe_end pipe Reading) = refl
target_back (Pipe_end pipe Writing) = refl

abbrev pub target_code : Coded Target
target_code = code_by (ℕ ⊎ ((ℕ × ℕ) ⊎ (ℕ × ℕ))) (coded⊎ coded_ℕ (coded⊎ (coded× coded_ℕ coded_ℕ) (coded× coded_ℕ coded_ℕ))) target_out target_in target_back

abbrev pub file_code : Coded OpenFile
file_code = code_by (Bool × (Bool × Target)) (coded× coded_bool (coded× coded_bool target_code)) (λ f. (f.read, (f.write, f.target))) (λ t. record { target = t.1.1; read = t.0; write = t.1.0 }) (λ _. refl)

abbrev pub state_code : Coded State
state_code = code_by ((FinMap nat_cmp Process × FinMap nat_cmp OpenFile) × ((FinMap nat_cmp Pipe × Console) × ((ℕ × ℕ) × (ℕ × List ProgramFile))))
    (coded× (coded× (code coded_ℕ process_code) (code coded_ℕ file_code)) (coded× (coded× (code coded_ℕ pipe_code) console_code) (coded× (coded× coded_ℕ coded_ℕ) (coded× coded_ℕ (coded_list program_code)))))
    (λ s. ((s.processes, s.files), ((s.pipes, s.console), ((s.clock, s.next_pid), (s.free, s.programs)))))
    (λ t. record { processes = t.0.0; files = t.0.1; pipes = t.1.0.0; console = t.1.0.1; clock = t.1.1.0.0; next_pid = t.1.1.0.1; free = t.1.1.1.0; programs = t.1.1.1.1 }) (λ _. refl)

abbrev pub turns_code : Coded Turns
turns_code = code_by ((FinMap nat_cmp ℕ × FinSet nat_cmp) × (ℕ × (Option ℕ × Option ℤ))) (coded× (coded× (code coded_ℕ coded_ℕ) (set.code coded_ℕ)) (coded× coded_ℕ (coded× (coded_option coded_ℕ) (coded_option coded_ℤ))))
    (λ t. ((t.slots, t.sleepers), (t.last, (t.current, t.halted)))) (λ u. record { slots = u.0.0; sleepers = u.0.1; last = u.1.0; current = u.1.1.0; halted = u.1.1.1 }) (λ _. refl)

abbrev pub world_code : Coded World
world_code = code_by (State × Turns) (coded× state_code turns_code) (λ w. (w.state, w.turns)) (λ t. record { state = t.0; turns = t.1 }) (λ _. refl)
