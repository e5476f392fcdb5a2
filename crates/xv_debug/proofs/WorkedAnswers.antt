-- Worked cases of what the words answer.
use Rattle.std.proofs.Common.{◌≡◌, true, false, [], ◌∷◌, ◌++◌, codes, pos, None, Some, refl}
use Rattle.std.specs.Fmt.{digits}
use Rattle.xk_base.specs.declared.access.Cause.TheVariants.{StorePageFault}
use Rattle.kernel_spec.specs.rows.Calls.{row_of}
use Rattle.kernel_spec.specs.steps.Own.{Stepped, Called, Blocked, Exited, Faulted}
use Rattle.kernel_spec.specs.runs.Run.{Step_of, Idle, Typed, Sent}
use Rattle.xv_report.specs.declared.waits.Wait.TheVariants.{Until, PipeBytes, Sending}
use Rattle.kcall_core.specs.declared.kernel.observers.ProcessState.TheVariants as state
use Rattle.debug_words.specs.Texts.{grouped_by}
use Rattle.debug_words.specs.declared.vocabulary.Word.TheVariants.{Step, Next, Run}
use Rattle.xv_debug.specs.declared.motion.journey.Stop.TheVariants.{Asleep, Broken, Done, Met}
use Rattle.xv_debug.specs.OutcomeText.{call_text, happened_text}
use Rattle.xv_debug.specs.OutputText.{behind_bars}
use Rattle.xv_debug.specs.PipeText.{count_text, holders_text, pipe_text, read_end_text, write_end_text}
use Rattle.xv_debug.specs.ProcessText.{marked_text, more_text, parent_in, state_text, wait_text}
use Rattle.xv_debug.specs.StopText.{back_text, journey_text, last_text, stop_text}
use Rattle.xv_debug.specs.WhereText.{halted_text, if_nobody, no_process}

-- ---- what came of an event

calls : call_text (pos 16) ++ codes ", " ++ call_text (pos 9) ≡ codes "write, call 9"
unfolding row_of digits
calls = refl

a_call_is_done : happened_text (Step_of 3 (Called (pos 16) (pos 5))) ≡ codes "process 3: write answers 5"
unfolding row_of digits
a_call_is_done = refl

a_process_sleeps : happened_text (Step_of 3 (Blocked (pos 5))) ≡ codes "process 3 sleeps in read"
unfolding row_of digits
a_process_sleeps = refl

a_process_is_gone : happened_text (Step_of 2 (Exited (pos 7))) ≡ codes "process 2 is gone, with status 7"
unfolding digits
a_process_is_gone = refl

a_fault : happened_text (Step_of 2 (Faulted StorePageFault)) ≡ codes "process 2 is gone by a fault: a store where nothing may be written"
unfolding digits
a_fault = refl

an_instruction : happened_text (Step_of 12 Stepped) ≡ codes "process 12 did an instruction"
unfolding digits
an_instruction = refl

a_key : happened_text (Typed (97 ∷ 10 ∷ [])) ≡ codes "the console shows \"a\\n\""
a_key = refl

a_byte : happened_text (Sent (Some 104)) ++ codes "; " ++ happened_text (Sent None) ≡ codes "the byte \"h\" is sent; no byte waits to be sent"
a_byte = refl

-- ---- why no more were sent

why_none : stop_text Next Done ++ stop_text (Step 3) Done ≡ codes "it has not come yet; a word sends 100000000 events at most, and the same word goes on\n"
unfolding digits
why_none = refl

why_asleep : stop_text (Step 3) Asleep ++ stop_text Next Asleep ≡ codes "all processes sleep: tick moves the clock, key types\nall processes sleep, and no tick wakes one: key types\n"
why_asleep = refl

a_round_met : stop_text (Run 3) Met ++ stop_text Next Met ≡ codes "a process is gone by a fault: trace and back show more\n"
a_round_met = refl

the_last_event : last_text (Some Idle) ++ last_text None ≡ codes "; the last: all processes sleep\n\n"
the_last_event = refl

a_journey : journey_text (Step 3) 1 Done (Some (Step_of 2 Stepped)) ≡ codes "1 event; the last: process 2 did an instruction\n"
unfolding digits grouped_by
a_journey = refl

a_broken_journey : journey_text Next 2 Broken (Some (Step_of 2 Stepped)) ≡ codes "2 events; the last: process 2 did an instruction\nit was broken off here: what was sent stays, and back goes back\n"
unfolding digits grouped_by
a_broken_journey = refl

a_way_back : back_text 1 ++ back_text 20 ≡ codes "1 event back\n20 events back\n"
unfolding digits grouped_by
a_way_back = refl

-- ---- where the run is

nobody_runs : if_nobody None ++ if_nobody (Some 2) ++ no_process 7 ≡ codes "nobody runs; no process has the pid 7; ps lists them\n"
unfolding digits
nobody_runs = refl

the_end : halted_text (pos 3) ≡ codes "the machine has halted, with status 3\n"
unfolding digits
the_end = refl

-- ---- what the console showed

-- a bar before each line, and an end behind the last
two_lines : behind_bars true (104 ∷ 105 ∷ 10 ∷ 7 ∷ []) ≡ codes "| hi\n| .\n"
two_lines = refl

no_line_behind_an_end : behind_bars true (104 ∷ 10 ∷ []) ≡ codes "| h\n"
no_line_behind_an_end = refl

-- ---- pipes

nobody : holders_text [] ≡ codes "nobody"
nobody = refl

three_holders : holders_text (2 ∷ 3 ∷ 17 ∷ []) ≡ codes "2, 3, 17"
unfolding digits
three_holders = refl

a_pipe : pipe_text 31 (record { readers = 1; writers = 2; bytes = 3 }) (2 ∷ []) (2 ∷ 3 ∷ []) (104 ∷ 105 ∷ 10 ∷ [])
    ≡ codes "pipe 31, named by its frame: 3 bytes of 2048\n  read end: 1 descriptor, of 2\n  write end: 2 descriptors, of 2, 3\n  the oldest: \"hi\\n\"\n"
unfolding digits grouped_by read_end_text write_end_text
a_pipe = refl

how_many : count_text 0 ++ count_text 6 ++ count_text 8 ≡ codes "there is no pipe\nand 2 more pipes: fds tells of each\n"
unfolding digits grouped_by
how_many = refl

-- ---- processes

sleeps_in_read : wait_text (PipeBytes 0 31) ≡ codes "read of fd 0, for bytes in pipe 31"
unfolding digits
sleeps_in_read = refl

sleeps_in_write : wait_text (Sending 1) ≡ codes "write to fd 1, for room in the console"
unfolding digits
sleeps_in_write = refl

a_zombie : state_text false None (Some (state.Zombie (Some 1) (pos 7))) ≡ codes "is a zombie, of status 7"
unfolding digits
a_zombie = refl

a_sleeper : state_text false (Some (Until 30)) (Some (state.Live None false None true)) ≡ codes "sleeps in sleep, until tick 30"
unfolding digits
a_sleeper = refl

one_that_may_run : state_text false None (Some (state.Live None false None false)) ++ codes ", " ++ state_text true None (Some (state.Live None false None false)) ≡ codes "may run, runs"
one_that_may_run = refl

a_mark : marked_text (Some (state.Live None true None false)) ++ marked_text (Some (state.Live None false None false)) ≡ codes ", marked by kill"
a_mark = refl

parents : parent_in (Some (state.Live (Some 3) false None false)) ∷ parent_in (Some (state.Zombie (Some 4) (pos 0))) ∷ parent_in (Some (state.Live None false None false)) ∷ [] ≡ 3 ∷ 4 ∷ 0 ∷ []
parents = refl

more : more_text (Some 17) ++ more_text None ≡ codes "there are more: ps 17 goes on\n"
unfolding digits
more = refl
