-- The words that this crate's proofs say: each is handed on from where it is defined.
pub use Rattle.std.proofs.Common.{[], ℕ, ◌%◌, ◌&&◌, ◌*◌, ◌++◌, ◌+◌, ◌-◌, ◌/◌, ◌<◌, ◌^◌, ◌||◌, ◌∙◌, ◌∷◌, ◌≡◌, ◌≢◌, ◌≤◌, ◌⊎◌, ap, arith, Bool, cond, drop, eqb, false, get_or, inl, inr, int_eq, length}
pub use Rattle.std.proofs.Common.{List, lt-ltb, map, None, not, Option, refl, replicate, set, Some, subst, suc, sym, T, take, true, zero}
pub use Rattle.std.proofs.Math.Nat.{add-zero, suc-add, zero-add}
pub use Rattle.std.proofs.Math.Path.{fun_ext}
pub use Rattle.std.proofs.Math.Seq.{drop-append_seam, take-append_seam}
pub use Rattle.std.proofs.lemmas.Bool.{and_from, and_left, and_parts, and_right, both_ways, cases_eq, cases_lt, cond-false, cond-true, eq-eqb, eqb-true, false≢true, le-leb, le-ltb, leb-false, lt-leb}
pub use Rattle.std.proofs.lemmas.Bool.{ltb-false, ltb-true, ne_eqb, not-false, not-true, or_cases, or_left, or_parts, or_right}
pub use Rattle.std.proofs.lemmas.Bool.Decides.{Decides-int_eq, eqb_tells, leb_tells}
pub use Rattle.std.proofs.lemmas.List.{append-nil, append_assoc, drop_all, get_or-append_right, get_or-drop, get_or-replicate, get_or-set_other, get_or-set_same, get_or-take, get_or_append_left}
pub use Rattle.std.proofs.lemmas.List.{length-map, length-replicate, length-set, length-take, length-take-le, map-append}
pub use Rattle.std.proofs.lemmas.List.Folds.{list_any-append}
pub use Rattle.std.proofs.lemmas.List.FromFn.{length-map-range_with_len}
pub use Rattle.std.proofs.lemmas.Option.{none-some, same_Some, slice_get_cases}
pub use Rattle.std.specs.Cmp.{IsTotalOrder, nat_cmp_is, nat_cmp_total, unsigned_tied}
pub use Rattle.std.specs.FinMap.{contains_key-keys, empty, empty_of_len, entries, entries-from_sorted, entries-insert, entries_sorted, FinMap, from_sorted, get, get-empty, get-entries}
pub use Rattle.std.specs.FinMap.{get-from_sorted, get-remove, insert, keys, len, len-empty, len-insert, len-remove, nat_cmp-IsAntisymmetric, remove, same_map}
pub use Rattle.std.specs.FinSet.{contains, contains-empty, FinSet, same_set}
pub use Rattle.std.specs.Int.{cast_unsigned, w32}
pub use Rattle.std.specs.List.{list_all, list_any, position_from, range_with_len}
pub use Rattle.std.specs.Option.{option_or}
pub use Rattle.std.specs.Ordering.{eq_by_cmp, is_eq, is_lt, nat_cmp}
pub use Rattle.std.specs.Prelude.{ℤ, ◌+ℤ◌, ◌==◌, bytes_eq, codes, Contains, Err, filter, find, fold, if◌then◌else◌, is_none, is_some, IsSome, MatchOption, min, nat_eq, nat_le, nat_lt, negsuc, Ok}
pub use Rattle.std.specs.Prelude.{option_map, pos, Result, slice_get, slice_index, unwrap_or}
pub use Rattle.xk_base.proofs.Gathered.{gathered-get}
pub use Rattle.xk_base.proofs.Least.{least_below-zero, none_below}
pub use Rattle.xk_base.specs.Access.{data_rights}
pub use Rattle.xk_base.specs.Bytes.{byte_in, image_byte, image_bytes, put_byte, put_in}
unfoldable pub use Rattle.xk_base.specs.Bytes.{write_image}
pub use Rattle.xk_base.specs.Gathered.{insert_some}
pub use Rattle.xk_base.specs.Image.{Image, no_pages, Page, page_count, some_below, with_page}
unfoldable pub use Rattle.xk_base.specs.Image.{price}
pub use Rattle.xk_base.specs.Loaded.{aligned, end_after, Loaded, loaded, page_by, page_perm, segments_over, stack_over, stack_pointer, with_texts, zeros}
unfoldable pub use Rattle.xk_base.specs.Loaded.{addresses, program_image}
pub use Rattle.xk_base.specs.Words.{le, le_bytes, or_here}
unfoldable pub use Rattle.xk_base.specs.Words.{count_below, least_below}
pub use Rattle.xk_base.specs.declared.access.Access.{Access}
pub use Rattle.xk_base.specs.declared.access.Access.TheVariants.{Store as Storing}
pub use Rattle.xk_base.specs.declared.access.Cause.{Cause}
pub use Rattle.xk_base.specs.declared.access.Cause.TheVariants.{FetchPageFault, LoadMisaligned, LoadPageFault, StoreMisaligned, StorePageFault, TargetMisaligned}
pub use Rattle.xk_base.specs.declared.access.Rights.{Rights}
pub use Rattle.xk_base.specs.declared.errors.BootError.{BootError}
pub use Rattle.xk_base.specs.declared.errors.BootError.TheVariants.{BadConfig, BadPrograms, Init, NoInit}
pub use Rattle.xk_base.specs.declared.errors.ExecError.{ExecError}
pub use Rattle.xk_base.specs.declared.errors.ExecError.TheVariants.{ArgsTooLong, NoFrames}
pub use Rattle.xk_base.specs.declared.limits.TheConstants.{ARG_BYTES, CONSOLE_BYTES, FRAMES_MAX, FRAMES_MIN, MAXARG, MAXPATH, NAME_MAX, NOFILE, NPROC, OPEN_FILES, PID_MAX, PIPE_BYTES, PROGRAM_BYTES}
pub use Rattle.xk_base.specs.declared.limits.TheConstants.{PROGRAMS_MAX, SEND_BYTES, SIZE_LIMIT, TRACE_MAX}
pub use Rattle.rv64i_core.proofs.Aligned.{within-page}
pub use Rattle.rv64i_core.specs.Memory.{bytes_of_width, Cell, cell_byte, Memory, or_fault, Store, written}
unfoldable pub use Rattle.rv64i_core.specs.Memory.{bytes_at, fetched}
pub use Rattle.rv64i_core.specs.Registers.{add, after, fresh, put, reg, Registers, with_pc}
pub use Rattle.rv64i_core.specs.Step.{data_address_of, Ecall, extended, Fault, row_of as instruction_of, is_data_page_fault, is_taken, load_step, load_width, Next, or_pc, Step, step_of_word, stop_of}
pub use Rattle.rv64i_core.specs.Step.{store_step, store_width}
unfoldable pub use Rattle.rv64i_core.specs.Step.{address_used, branch, data_address, instr, row as instruction_row, jump, load_value}
unfoldable pub use Rattle.rv64i_core.specs.Table.{by_opcode, decoded, load_op, load_row, store_op, store_row}
pub use Rattle.rv64i_core.specs.UserImage.{cell_in, with_store, written_page}
unfoldable pub use Rattle.rv64i_core.specs.UserImage.{user, write_pages}
pub use Rattle.rv64i_core.specs.declared.access_width.Width.{Width}
pub use Rattle.rv64i_core.specs.declared.instruction.Instr.{Instr}
pub use Rattle.rv64i_core.specs.declared.instruction.Instr.TheVariants.{AddImmW, Auipc, Branch, Ebreak, Ecall as EcallInstr, Fence, Jal, Jalr, Load, Lui, Op, OpImm, OpW, ShiftImm, ShiftImmW}
pub use Rattle.rv64i_core.specs.declared.instruction.Instr.TheVariants.{Store as StoreInstr}
pub use Rattle.rv64i_core.specs.declared.instruction.LoadOp.{LoadOp}
unfoldable pub use Rattle.phys_ram.specs.Ram.{zero_frame}
pub use Rattle.addr_space.proofs.Prices.{same_test}
pub use Rattle.addr_space.proofs.Touching.{brought-size, LowPages, whole-byte, whole-bytes, whole-get, whole-past}
pub use Rattle.addr_space.specs.Absent.{bring, grown_lazily, is_absent, pages_at, whole}
unfoldable pub use Rattle.addr_space.specs.Absent.{brought}
pub use Rattle.addr_space.specs.Changes.{perm_of_page, zeroed}
unfoldable pub use Rattle.addr_space.specs.Changes.{with_absent}
pub use Rattle.user_copy.proofs.Ranges.{may-past, reaches-fewer, reaches-none, reaches-not}
pub use Rattle.user_copy.specs.Reach.{allows, ends_after, may}
unfoldable pub use Rattle.user_copy.specs.Reach.{reaches, text_length}
pub use Rattle.pipe_core.specs.Pipe.{Pipe, with_more, without_first}
unfoldable pub use Rattle.pipe_core.specs.Pipe.{new_pipe}
pub use Rattle.console_core.specs.Keys.{line}
pub use Rattle.console_core.specs.Lists.{Console, empty_console}
pub use Rattle.console_core.specs.Reads.{first_bytes, line_length, Pulled, pulled, up_to}
pub use Rattle.file_table.specs.declared.open_file.End.{End}
pub use Rattle.file_table.specs.declared.open_file.End.TheVariants.{Reading, Writing}
pub use Rattle.file_table.specs.declared.open_file.OpenFile.{OpenFile}
pub use Rattle.file_table.specs.declared.open_file.Target.{Target}
pub use Rattle.file_table.specs.declared.open_file.Target.TheVariants.{Program as File, Pipe as Pipe_end, Console as Terminal}
pub use Rattle.proc_table.specs.Turns.{distance}
pub use Rattle.proc_table.specs.declared.channel.Channel.{Channel}
pub use Rattle.proc_table.specs.declared.process.Call.{Call}
pub use Rattle.kernel_spec.specs.laws.ConditionLaws.{ConditionsSuffice, OpensAlone, OpensConsole, OpensForked, OpensGone, OpensMarked, OpensNothing, OpensPipe, OpensReaped, OpensTick, ReadyIsOpen}
pub use Rattle.kernel_spec.specs.laws.ConditionLaws.{WaitsStay}
pub use Rattle.kernel_spec.specs.laws.RowLaws.{AnswerLaw, CloseLaw, ClosePipeLaw, DupLaw, DupPipeLaw, EcallLaw, EndLaw, ExecLaw, FileReadLaw, ForkLaw, GoneLaw, InstructionLaw, KillLaw, OpenLaw}
pub use Rattle.kernel_spec.specs.laws.RowLaws.{PipeLaw, PipeReadLaw, PipeWriteLaw, ReapLaw, ResumeLaw, StoresTakeNothing, TouchLaw, WaitingLaw, WellAlone, WellClosed, WellClosedPipe, WellDup}
pub use Rattle.kernel_spec.specs.laws.RowLaws.{WellDupPipe, WellForked, WellGone, WellMadePipe, WellMarked, WellMoved, WellOpened, WellOutside, WellPiped, WellReaped, WritesTakeNothing}
pub use Rattle.kernel_spec.specs.laws.WakeLaws.{BlocksUnready, ComesNearer, FallsAsleepByItself, IsNear, NeverLost, NoLostWakeUp, PromisedIsRun, PromisedRunsJoin, PromisedRunsSplit, ReadyMayRun}
pub use Rattle.kernel_spec.specs.laws.WakeLaws.{SlotsStay, StaysRunnable, TurnComes, WaitsAtMost}
pub use Rattle.kernel_spec.specs.laws.Worlds.{EachByteHasItsSource, EachByteIsOfItsOwn, HaltedStays, Isolated, NoOldByte, NoOldChild, NoOldPipe, OnlyBrokenWritesFailLate, OnlyStoresChangeBytes}
pub use Rattle.kernel_spec.specs.laws.Worlds.{OnlyWaitersAreInCalls, OthersKeep, OutsideSteps, PidsAreGiven, RunsAreCut, RunsJoin, RunsSplit, SameStep, SharedIsApart, StoresTheseBytes}
pub use Rattle.kernel_spec.specs.laws.Worlds.{StoresWhereUserMay, TwoWorlds, UnreadyWaits}
pub use Rattle.kernel_spec.specs.others.Quiet.{file_at, is_same, meets_on_file, meets_on_pipe, offset_in, pipe_at, pipe_in, pipe_of_target, Quiet, seen_children, seen_shown, seen_table}
unfoldable pub use Rattle.kernel_spec.specs.others.Quiet.{seen}
pub use Rattle.kernel_spec.specs.rows.Buffers.{grown, may_touching, pointer_at, readable, shrunk, text_from, writable, writable_now}
unfoldable pub use Rattle.kernel_spec.specs.rows.Buffers.{no_slashes, reaches_touching, text_at, texts_at}
pub use Rattle.kernel_spec.specs.rows.Calls.{answered, Close, done, done_at, Dup, ends_stored, Exec, Exit, exit, Fork, Getpid, getpid, gone, has_child, has_mode, Kill, least_zombie, next_bytes, Open}
pub use Rattle.kernel_spec.specs.rows.Calls.{Pipe_row, Read, read_stored, refused, Row, Sbrk, Sbrklazy, Sleep, status_stored, storing, table, Uptime, uptime, Wait, waits, what_is_named, with_a0}
pub use Rattle.kernel_spec.specs.rows.Calls.{Write}
unfoldable pub use Rattle.kernel_spec.specs.rows.Calls.{close, dup, exec, fork, kill, make_pipe, open_file, perform, read, row, row_of, sbrk, sbrklazy, sleep, wait, write}
pub use Rattle.kernel_spec.specs.rows.Execs.{HasExeced, IsExecDone, IsExecOf}
pub use Rattle.kernel_spec.specs.rows.Lines.{natural, result_of}
unfoldable pub use Rattle.kernel_spec.specs.rows.Lines.{◌>>=◌, ◌>>◌, ◌or◌, ◌when◌}
pub use Rattle.kernel_spec.specs.rows.Stores.{IsStored, IsStoredAs, Lies, next_ends, nothing_stored, stored_by, stored_by_instruction, stored_by_pipe, stored_by_row, stored_by_wait, stored_from}
pub use Rattle.kernel_spec.specs.rows.Stores.{stored_in, unless_refused}
pub use Rattle.kernel_spec.specs.rows.Tables.{advance, advance_shown, advanced, all_closed, change_pipe, change_pipes, change_shown, changed, doubled, ends, is_end, lowest_free, lowest_free_above}
pub use Rattle.kernel_spec.specs.rows.Tables.{names_given_up, on_end, one_less_on, one_more_on, pipes_given_up, shown_on_end, with_copy, with_descriptor, without_descriptor}
pub use Rattle.kernel_spec.specs.rows.Terminal.{has_committed, has_room_to_send, next_line, room_for, with_sent, without_line}
pub use Rattle.kernel_spec.specs.rows.Touches.{at_price, before_instruction, before_step, has_absent, instruction_now, page_used}
unfoldable pub use Rattle.kernel_spec.specs.rows.Touches.{touch}
pub use Rattle.kernel_spec.specs.runs.Alike.{AreAlike, IsOrderly, meet_on_file}
pub use Rattle.kernel_spec.specs.runs.First.{first_init, first_loaded, first_process, first_regs, first_state, first_turns, within_frames}
unfoldable pub use Rattle.kernel_spec.specs.runs.First.{first}
pub use Rattle.kernel_spec.specs.runs.Moments.{AllBoth, Course, is_step_of, IsCut, IsFromBoot, IsStepOf, Moment, Others, steps_of}
pub use Rattle.kernel_spec.specs.runs.Rounds.{AreRounds, EndsInRound, events, halts, Planned, round, StopsBeforeRound}
pub use Rattle.kernel_spec.specs.runs.Run.{Event, FilesAfter, first_sent, Halted, halted_by, HaltedRun, Happens, Idle, IsBlocked, IsButWoken, IsLeft, IsNewbornOf, IsRun, Key, KeyHappens, out, Outcome}
pub use Rattle.kernel_spec.specs.runs.Run.{Run, RunHappens, Send, SendHappens, Sent, sent, StateAfter, stays_current, Step_of, StepOf, Tick, Ticked, TickHappens, Turn, TurnsAfter, TurnTaken, Typed}
pub use Rattle.kernel_spec.specs.runs.Run.{World}
pub use Rattle.kernel_spec.specs.runs.Sources.{HasByte, Holds, IsPut, Passes, Stands, WasPut}
pub use Rattle.kernel_spec.specs.steps.Cases.{After, begun_live, begun_state, closed_state, FilesLeft, HasTable, IsBetweenCalls, IsBuffer, IsLive, NobodyHas, NobodyNames, now_moved, OnPipe}
pub use Rattle.kernel_spec.specs.steps.Instruction.{next_instruction}
pub use Rattle.kernel_spec.specs.steps.KeptBytes.{HasWholePages, IsNewPage, IsNewPipe, IsOfItsOwn, NewBytesAreZeros}
pub use Rattle.kernel_spec.specs.steps.Own.{Answer, Blocked, Called, Exited, Faulted, goes_on, gone_with, Left, left_by, Own, Stepped}
pub use Rattle.kernel_spec.specs.steps.Step.{after_instruction, begun, call_begun, call_in, call_or_begun, going_on, stored, unless_killed}
unfoldable pub use Rattle.kernel_spec.specs.steps.Step.{own}
pub use Rattle.kernel_spec.specs.steps.Ticks.{has_passed, ticks_since}
pub use Rattle.kernel_spec.specs.steps.Updates.{alone_state, change, changed_state, end_of, end_process, fewer_at, fewer_on, filed_state, forked_child, forked_state, forking, freed_at, freed_on}
pub use Rattle.kernel_spec.specs.steps.Updates.{give_frames, given_to, gone_state, in_call, kill_state, killer, mark, marked, more_at, more_on, orphan, orphans, own_state, piped_state, remove_zombie}
pub use Rattle.kernel_spec.specs.steps.Updates.{set_file, set_live, set_pipe, settled, started, stepped, target_of_open, told_image, waited, waited_state, with_answer, with_bytes, with_closed}
pub use Rattle.kernel_spec.specs.steps.Updates.{with_named}
unfoldable pub use Rattle.kernel_spec.specs.steps.Updates.{fewer_on_all, freed_on_all, more_on_all}
pub use Rattle.kernel_spec.specs.steps.Waiting.{IsBrokenWrite, regs_in_call, waiting_calls}
pub use Rattle.kernel_spec.specs.views.PipeEnds.{fit, has_bytes, has_room, is_given_up, joined, parted, there}
pub use Rattle.kernel_spec.specs.views.Processes.{Alive, Child, child_status, has_status, Live, parent_of, Process, Running, Status, Zombie}
pub use Rattle.kernel_spec.specs.views.Programs.{console_name, init_name, is_bad_name, place_of, program_bytes, program_named}
unfoldable pub use Rattle.kernel_spec.specs.views.Programs.{first_bad, init_of, is_bad_program}
pub use Rattle.kernel_spec.specs.views.Shared.{bare, bare_shown, Content, Nothing_shared, Offset, Part, SameDescriptors, SameRest, Shared, shared, shared_part}
pub use Rattle.kernel_spec.specs.views.State.{live, live_part, ProgramFile, State}
pub use Rattle.kernel_spec.specs.views.View.{child_of, Descriptor, Descriptors, file_name, in_use, least_on_file, least_on_pipe, numbered, or_gone, pipe_name, rename, rename_shown, show, Shown}
pub use Rattle.kernel_spec.specs.views.View.{Shown_file, Shown_pipe, shown_pipe_name, Shown_terminal, View, view}
unfoldable pub use Rattle.kernel_spec.specs.views.View.{named, view_of}
pub use Rattle.kernel_spec.specs.views.WellFormed.{AreShown, cost, HasParent, HasSlots, on, over_all, WellFormed}
unfoldable pub use Rattle.kernel_spec.specs.views.WellFormed.{sum_below}
pub use Rattle.kernel_spec.specs.views.Words.{A0, A1, c_int, CLOCK_ROUND, is_this, minus_one, or_zero, SP, with_value, word}
pub use Rattle.kernel_spec.specs.waking.Conditions.{at_start, Bytes, call_waits_for, Child_of, Condition, is_open, IsTime, KeepsTargets, Keys, MayOpenAtEnd, Nothing, OpensOnly, OthersWaitOn}
pub use Rattle.kernel_spec.specs.waking.Conditions.{read_waits_for, Room, row_waits_for, Sending, sleep_waits_for, target_at, Time, waits_for, WakesAnyway, WakesByConditions, write_waits_for}
pub use Rattle.kernel_spec.specs.waking.Ready.{call_ready, can_read, can_write, on_shown, row_ready}
unfoldable pub use Rattle.kernel_spec.specs.waking.Ready.{ready}
pub use Rattle.kernel_spec.specs.waking.SleepsOn.{closes_wake, end_wakes, is_for, last_closes}
pub use Rattle.kernel_spec.specs.waking.Turns.{HasSlot, IsFreeSlot, IsLowestFree, Sleeps, Turns}
pub use Rattle.kernel_spec.specs.waking.Wakes.{HasNoTurn, HidesNothing, is_turn, IsEnd, IsInCall, IsNearest, IsPromised, IsReady, IsRunnable, NoReadySleeper, Promised, TakesNearest, turns_taken}
pub use Rattle.kernel_spec.specs.waking.Wakes.{WakesWhereDue}
