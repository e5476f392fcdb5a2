-- The words that this crate's proofs say: each is handed on from where it is defined.
pub use Rattle.std.proofs.Common.{[], ℕ, ◌%◌, ◌&&◌, ◌*◌, ◌++◌, ◌+◌, ◌-◌, ◌/◌, ◌<◌, ◌^◌, ◌||◌, ◌∙◌, ◌∷◌, ◌≡◌, ◌≢◌, ◌≤◌, ◌⊎◌, ap, arith, Bool, cond, drop, Err, false, get_or, IfErr, IfOk, if◌then◌else◌}
pub use Rattle.std.proofs.Common.{inl, inr, IsSome, length, List, ltb, map, nat_lt, None, not, Ok, Option, pos, refl, replicate, Result, rules, set, Some, subst, suc, sym, T, take, to_z, true, w32}
pub use Rattle.std.proofs.Common.{w64, zero}
pub use Rattle.std.proofs.Math.ListN.{get_or-map}
pub use Rattle.std.proofs.Math.Path.{fun_ext}
pub use Rattle.std.proofs.lemmas.Bool.{and_from, and_parts, and_right, both_ways, cases_eq, cases_lt, eq-eqb, eqb-true, false_from_ne_true, false≢true, le-leb, le-ltb, lt-leb, lt-ltb, ltb-false}
pub use Rattle.std.proofs.lemmas.Bool.{ltb-true, ne_eqb, not-false, not-true, or_parts, or_right, true≢false}
pub use Rattle.std.proofs.lemmas.Bool.Decides.{eqb_tells, leb_tells, nat_tests}
pub use Rattle.std.proofs.lemmas.Int.{to_z-of_z, to_z_pos}
pub use Rattle.std.proofs.lemmas.Iterator.{YieldsList-from_slice}
pub use Rattle.std.proofs.lemmas.Iterator.Adapters.{option_map_id, position_from-zero}
pub use Rattle.std.proofs.lemmas.Iterator.Search.{find_from_yields_List, position_from_yields_List}
pub use Rattle.std.proofs.lemmas.List.{append-nil, append_assoc, ext_get_or, get_or-replicate, get_or-set_other, get_or-set_same, get_or_past, get_or_read, length-append, length-drop, length-map}
pub use Rattle.std.proofs.lemmas.List.{length-replicate, length-set, length-take, length-take-le, set-get_or, take-append-le, take_all}
pub use Rattle.std.proofs.lemmas.List.Sums.{fails_before_first, position_or_len_is, prefix_len-le-length, sum_by-cons}
pub use Rattle.std.proofs.lemmas.Option.{IfSome_then, none-some, same_Some}
pub use Rattle.std.specs.Cmp.{nat_cmp_is, nat_cmp_total, unsigned_tied}
pub use Rattle.std.specs.FinMap.{empty, entries, entries_sorted, FinMap, get, get-empty, get-insert, get-remove, insert, keys, len, len-empty, len-entries, len-insert, nat_cmp-IsAntisymmetric, remove}
pub use Rattle.std.specs.FinMap.{same_map}
pub use Rattle.std.specs.FinSet.{contains, contains-empty, contains-insert, FinSet}
pub use Rattle.std.specs.Int.{cast_signed, cast_unsigned}
pub use Rattle.std.specs.List.{list_all, list_any, position_from, position_or_len, range_with_len}
pub use Rattle.std.specs.Option.{option_and_then}
pub use Rattle.std.specs.Ordering.{eq_by_cmp, is_lt, nat_cmp}
pub use Rattle.std.specs.Prelude.{ℤ, ◌↔◌, bytes_eq, codes, Contains, count_by, find, IfNone, IfSome, is_none, is_ok, is_some, IsTrue, MatchOption, min, nat_eq, nat_le, negsuc, OnOk, option_copied}
pub use Rattle.std.specs.Prelude.{option_map, position, slice_get, slice_index}
pub use Rattle.xk_base.proofs.Frames.{at, at-other, at-same, copies-append, copies-cons, copies-nil, copies-one, length-all}
pub use Rattle.xk_base.proofs.Gathered.{gathered-get, same_pages, tie-no, tie-yes}
pub use Rattle.xk_base.proofs.Least.{least_below-found, least_below-next, least_below-zero, none_below}
pub use Rattle.xk_base.specs.Access.{data_rights}
pub use Rattle.xk_base.specs.Bytes.{image_byte, image_bytes, write_image}
pub use Rattle.xk_base.specs.Frames.{copies}
pub use Rattle.xk_base.specs.Gathered.{insert_some}
unfoldable pub use Rattle.xk_base.specs.Gathered.{gathered}
pub use Rattle.xk_base.specs.Image.{Image, Page, price, with_page}
pub use Rattle.xk_base.specs.Loaded.{◌>>=◌, aligned, down, end_after, Loaded, loaded, lowest, program_image, stack_pointer, text_places, with_texts}
pub use Rattle.xk_base.specs.Words.{le_bytes}
unfoldable pub use Rattle.xk_base.specs.Words.{count_below, least_below}
pub use Rattle.xk_base.specs.declared.access.Access.{Access}
pub use Rattle.xk_base.specs.declared.access.Access.TheVariants.{Load, Store}
pub use Rattle.xk_base.specs.declared.access.Cause.{Cause}
pub use Rattle.xk_base.specs.declared.access.Rights.{Rights}
pub use Rattle.xk_base.specs.declared.errors.ExecError.{ExecError}
pub use Rattle.xk_base.specs.declared.errors.ExecError.TheVariants.{ArgsTooLong, TooManyArgs}
pub use Rattle.xk_base.specs.declared.errors.NoFrames.{NoFrames}
pub use Rattle.xk_base.specs.declared.limits.TheConstants.{ARG_BYTES, FRAMES_MAX, MAXARG, MAXPATH, NOFILE, NPROC, OPEN_FILES, PID_MAX, PIPE_BYTES, SEND_BYTES, SIZE_LIMIT}
pub use Rattle.xk_base.specs.declared.program.Program.{Program}
pub use Rattle.rv64i_core.specs.Registers.{after, fresh, reg, Registers, with_pc}
pub use Rattle.rv64i_core.specs.Step.{address_used, Ecall, Fault, instr, is_data_page_fault, Next, regs_after, state_after, Step, stop_of}
pub use Rattle.rv64i_core.specs.UserImage.{with_store, write_pages}
unfoldable pub use Rattle.rv64i_core.specs.UserImage.{user}
pub use Rattle.rv64i_core.specs.declared.execution.Stop.{Stop}
pub use Rattle.phys_ram.proofs.Words.{others_stay-set, word_at-same, word_at-zero}
pub use Rattle.phys_ram.specs.Ram.{frame_at, OthersStay, word_at, zero_frame}
pub use Rattle.sv39_core.proofs.Places.{copies-owned, lower-entry, lower-place, one-place, page-has, page-place, root-inside, upper-entry, upper-place}
pub use Rattle.sv39_core.specs.Sv39.{last, page_entry, walked}
pub use Rattle.sv39_core.specs.Tree.{frame_of, IsTree, owned, pages_of}
unfoldable pub use Rattle.sv39_core.specs.Tree.{lowers, page_frames, uppers}
pub use Rattle.frame_list.proofs.FreeList.{free_in-written, Good-written}
pub use Rattle.frame_list.proofs.Trades.{trade-join, trade-lengths, trade-none}
pub use Rattle.frame_list.specs.Pool.{free_in, Good}
pub use Rattle.frame_list.specs.Traded.{Given, Taken, Traded}
pub use Rattle.frame_list.specs.declared.Pool.{Pool}
pub use Rattle.addr_space.proofs.Isolation.{spared}
pub use Rattle.addr_space.proofs.Touching.{brought-size, low-pages, whole-low}
pub use Rattle.addr_space.specs.Absent.{bring, grown_lazily, is_absent, pages_at, whole}
unfoldable pub use Rattle.addr_space.specs.Absent.{brought}
pub use Rattle.addr_space.specs.Changes.{grown, perm_of_page, shrunk, zeroed}
pub use Rattle.addr_space.specs.Space.{Belongs, Changed, frames_of, image_of, IsSpace, Made, Spared, Unchanged}
pub use Rattle.addr_space.specs.Translations.{TranslationsStay, WalksStayBelow}
pub use Rattle.addr_space.specs.declared.Space.{Space}
pub use Rattle.exec_core.specs.ArgTexts.{push_refusal, terminated}
pub use Rattle.exec_core.specs.declared.planning.Entry.{Entry}
pub use Rattle.user_copy.proofs.Ranges.{mapped-inside, may-beyond, reached-mapped, reaches-fewer, reaches-none, reaches-not, reaches-rest}
pub use Rattle.user_copy.specs.Reach.{allows, may, reaches}
pub use Rattle.hart_core.proofs.Caches.{fits-none_gone, fits-same, fits_empty, fits_hart, fits_root}
pub use Rattle.hart_core.specs.Steps.{AreDone, FitsHart, InARow, Instructed, last_fault, root_of}
pub use Rattle.hart_core.specs.Translations.{but_not, Fits, FitsBut, kept_frame, nothing, nothing_kept, Translations}
pub use Rattle.hart_core.specs.Trapframe.{words_from}
unfoldable pub use Rattle.hart_core.specs.Trapframe.{saved}
pub use Rattle.hart_core.specs.UserMemory.{put_bytes, space_state, space_store, SpaceState}
unfoldable pub use Rattle.hart_core.specs.UserMemory.{store_in, user_at}
pub use Rattle.hart_core.specs.declared.hart.Hart.{Hart}
pub use Rattle.pipe_core.specs.Pipe.{Becomes, IsPipe, new_pipe, Pipe, ring_byte, values_below, with_more, without_first}
unfoldable pub use Rattle.pipe_core.specs.Pipe.{pipe_in}
pub use Rattle.pipe_core.specs.declared.TheConstants.{END_COUNT_MAX}
pub use Rattle.console_core.specs.Lists.{Console, empty_console, held_bytes, IsWithinLimits}
pub use Rattle.console_core.specs.Reads.{first_bytes, line_length, Pulled, pulled, up_to}
pub use Rattle.file_table.specs.Named.{named_by, none_named, with_named}
pub use Rattle.file_table.specs.OpenFiles.{count_at, entry_count, entry_file, entry_moved, IsOpen, lowest_place, moved_to, none_open, once_less, once_more, open_count, open_file_at, pipe_file}
pub use Rattle.file_table.specs.OpenFiles.{target_moved, with_offset, with_opened, with_sharer, without_sharer}
pub use Rattle.file_table.specs.declared.open_file.CountedFile.{CountedFile}
pub use Rattle.file_table.specs.declared.open_file.End.{End}
pub use Rattle.file_table.specs.declared.open_file.End.TheVariants.{Reading, Writing}
pub use Rattle.file_table.specs.declared.open_file.OpenFile.{OpenFile}
pub use Rattle.file_table.specs.declared.open_file.Target.{Target}
pub use Rattle.file_table.specs.declared.open_file.Target.TheVariants.{Program as File, Pipe as Pipe_end, Console as Terminal}
pub use Rattle.file_table.specs.declared.open_file.TheConstants.{SHARERS_MAX}
pub use Rattle.proc_table.proofs.Pids.{pids_emptied, table_at, table_each, table_new}
pub use Rattle.proc_table.specs.Channels.{same_channel, without}
pub use Rattle.proc_table.specs.Processes.{asleep, call_of, channel_of, ended, given, in_call, is_asleep, is_live, is_marked, is_parent, is_runnable, killed, newborn, state_asleep, state_call}
pub use Rattle.proc_table.specs.Processes.{state_channel, state_in_call, state_killed, state_runnable, state_status, state_woken, status_of, woken}
pub use Rattle.proc_table.specs.Reaping.{HasChild, HasNoChild, HasNoneEnded, place_is_child, TakesLeast}
pub use Rattle.proc_table.specs.Slots.{call_at, changed_at, descriptors_at, each_changed, emptied_at, Holds, IsLiveAt, IsTable, mark_at, no_process, parent_at, pid_at, place_at, place_has_pid}
pub use Rattle.proc_table.specs.Slots.{place_is_live, process_parent, process_pid, sleep_at, slot_for_new, slot_of, Slots, status_at, with_mark, with_new}
pub use Rattle.proc_table.specs.Turns.{distance, place_is_runnable}
pub use Rattle.proc_table.specs.declared.channel.Channel.{Channel}
pub use Rattle.proc_table.specs.declared.process.Call.{Call}
pub use Rattle.proc_table.specs.declared.process.Process.{Process}
pub use Rattle.proc_table.specs.declared.process.State.TheVariants.{Live as Live_state, Zombie as Zombie_state}
pub use Rattle.kernel_spec.proofs.Common.{and_true, is_some-view, marked_again, no_bytes, none_either_way, none_from_is_none, none_from_is_some, or_false, same_live, sum_below-zero, the_value}
pub use Rattle.kernel_spec.proofs.Common.{there_if_so, this_is}
pub use Rattle.kernel_spec.proofs.memory.Bringing.{high-present, reaches-whole, touching-fewer, touching-rest}
pub use Rattle.kernel_spec.proofs.memory.OnAbsent.{before_fault, before_same, before_touched, before_untouched, done_once_touched, faults_on_data, next_of_stop, not_on_absent, off_absent_once_touched}
pub use Rattle.kernel_spec.proofs.memory.OnAbsent.{page_not_on_absent}
unfoldable pub use Rattle.kernel_spec.proofs.memory.OnAbsent.{is_on_absent}
pub use Rattle.kernel_spec.proofs.memory.UserBytes.{front-bytes, low-read, pointer-none, pointer-there, text-found, text-none}
pub use Rattle.kernel_spec.proofs.rows.Decoding.{close_case, dup_case, lowest_free_above_is, lowest_free_is, pipe_case, read_case, write_case}
pub use Rattle.kernel_spec.proofs.rows.Resized.{at-greater, at-smaller, lazily-price, lazy-inside, lazy-outside, sbrk-outside, sbrk-resized, sbrk-too-dear}
pub use Rattle.kernel_spec.proofs.rows.RowParts.{A_program, cannot_fork, close_at, close_number, close_on, dup_at, dup_number, dup_on, exec_loaded, exec_path, exec_program, forked, kill_pid}
pub use Rattle.kernel_spec.proofs.rows.RowParts.{killed_by, kind_named, length_of_int, moving, Named, Nothing, open_at, open_path, opened_as, piped, program_place, read_file, read_from, reaped}
pub use Rattle.kernel_spec.proofs.rows.RowParts.{running, slots_are_full, The_console, told_bytes, unless, unless_nothing, write_on, write_to}
pub use Rattle.kernel_spec.proofs.rows.RowsByParts.{close_same, dup_same, exec_same, fork_same, kill_same, none_opened, open_same, pipe_full, pipe_no_read, pipe_no_write, pipe_none, pipe_ready}
pub use Rattle.kernel_spec.proofs.rows.RowsByParts.{pipe_unwritable, read_below, read_dear, read_nothing, read_ready, read_shut, read_unused, read_unwritable, sbrk_same, sbrklazy_same, sleep_same}
pub use Rattle.kernel_spec.proofs.rows.RowsByParts.{wait_childless, wait_none, wait_ready, wait_same, wait_unwritable, write_same}
pub use Rattle.kernel_spec.proofs.rows.Settled.{absent-not-there, brought-keeps, brought-new, brought-none, brought-there, ready-there, store-brought, there-not-absent, there-ready, told-ready}
pub use Rattle.kernel_spec.proofs.rows.Settled.{touch-comes, touch-dear, touch-view}
pub use Rattle.kernel_spec.proofs.steps.AloneLawsHold.{alone_law, before-next, begins, by_own, instruction, mid_after, waiting}
pub use Rattle.kernel_spec.proofs.steps.ChangeIsSeen.{view_alone}
pub use Rattle.kernel_spec.proofs.steps.ClosedProcessGoes.{gone-closed, keeps-parent}
pub use Rattle.kernel_spec.proofs.steps.ClosingCountsDown.{count_some}
pub use Rattle.kernel_spec.proofs.steps.DupCloseLawsHold.{close_law, close_pipe_law, dup_law, dup_pipe_law}
pub use Rattle.kernel_spec.proofs.steps.EndsAreCounted.{among, get-more_on_all, hits, hits_at, one, plus}
pub use Rattle.kernel_spec.proofs.steps.FamilyLawsHold.{fork_law, gone_law}
pub use Rattle.kernel_spec.proofs.steps.FileLawsHold.{file_read, open_law, pipe_law, pipe_write, read_is, read_takes, read_waits}
pub use Rattle.kernel_spec.proofs.steps.GoneIsItsRow.{turn}
pub use Rattle.kernel_spec.proofs.steps.LeastPasses.{least_congr, least_least, least_passes}
pub use Rattle.kernel_spec.proofs.steps.MapsAfterChange.{first, get_at, get_other, get_same, get_without, insert-twice, insert_again, second}
pub use Rattle.kernel_spec.proofs.steps.NamesAreChosenAgain.{name_of_file, named_at}
pub use Rattle.kernel_spec.proofs.steps.OnePipeChanges.{least_there}
pub use Rattle.kernel_spec.proofs.steps.OrphansKeepKeys.{get-change, get-orphans}
pub use Rattle.kernel_spec.proofs.steps.SeenByParts.{descriptor_at, descriptor_on, file_of, pipe_of_file, pipe_of_open, seen_descriptor}
pub use Rattle.kernel_spec.proofs.turns.KeepsSlots.{is_listed, listed, not_listed}
pub use Rattle.kernel_spec.proofs.waking.Openings.{family, opens_forked, opens_marked, opens_nothing, opens_reaped, opens_tick}
pub use Rattle.kernel_spec.proofs.waking.WaitsOn.{waits_stay}
pub use Rattle.kernel_spec.proofs.waking.Wakes.{ready_is, view_is}
pub use Rattle.kernel_spec.proofs.well.Sums.{sum_change, sum_same, sum_term}
pub use Rattle.kernel_spec.proofs.well.WellCloses.{well_closed, well_closed_pipe, well_made_pipe}
pub use Rattle.kernel_spec.proofs.well.WellOpens.{well_dup, well_dup_pipe, well_opened}
pub use Rattle.kernel_spec.proofs.well.WellTable.{count_change}
pub use Rattle.kernel_spec.specs.others.Quiet.{file_at, pipe_of_target, seen_children}
unfoldable pub use Rattle.kernel_spec.specs.others.Quiet.{seen}
pub use Rattle.kernel_spec.specs.rows.Buffers.{may_touching, pointer_at, readable, text_from, writable, writable_now}
unfoldable pub use Rattle.kernel_spec.specs.rows.Buffers.{no_slashes, reaches_touching, text_at, texts_at}
pub use Rattle.kernel_spec.specs.rows.Calls.{close, done, dup, exec, fork, gone, kill, least_zombie, make_pipe, open_file, perform, read, refused, sbrk, sbrklazy, sleep, table, wait, waits, with_a0}
pub use Rattle.kernel_spec.specs.rows.Calls.{write}
unfoldable pub use Rattle.kernel_spec.specs.rows.Calls.{row_of}
pub use Rattle.kernel_spec.specs.rows.Execs.{Asks}
pub use Rattle.kernel_spec.specs.rows.Sizes.{at_size, resized, resized_lazily}
pub use Rattle.kernel_spec.specs.rows.Tables.{is_end, lowest_free, lowest_free_above, on_end}
pub use Rattle.kernel_spec.specs.rows.Terminal.{next_line, room_for, with_sent, without_line}
pub use Rattle.kernel_spec.specs.rows.Touches.{before_instruction, has_absent, instruction_now, page_used}
unfoldable pub use Rattle.kernel_spec.specs.rows.Touches.{touch}
pub use Rattle.kernel_spec.specs.runs.First.{first_process, first_regs, first_state, first_turns, within_frames}
pub use Rattle.kernel_spec.specs.runs.Run.{Event, first_sent, Halted, halts_with, Happens, Idle, IsBlocked, IsButWoken, Key, KeyHappens, Outcome, Run, RunHappens, Send, SendHappens, Sent, sent}
pub use Rattle.kernel_spec.specs.runs.Run.{stays_current, Step_of, StepOf, Tick, Ticked, TickHappens, Turn, TurnsAfter, TurnTaken, Typed, World}
pub use Rattle.kernel_spec.specs.steps.Cases.{After, begun_live, begun_state, FilesLeft, IsBuffer, IsLive, NobodyHas, NobodyNames, now_moved, OnPipe, written}
pub use Rattle.kernel_spec.specs.steps.Instruction.{next_instruction}
pub use Rattle.kernel_spec.specs.steps.Own.{Answer, Blocked, Called, Exited, Faulted, goes_on, gone_with, Own, Stepped}
pub use Rattle.kernel_spec.specs.steps.Step.{after_instruction, call_begun, call_in, call_or_begun, going_on, stored, unless_killed}
unfoldable pub use Rattle.kernel_spec.specs.steps.Step.{own}
pub use Rattle.kernel_spec.specs.steps.Updates.{alone_state, change, changed_state, end_of, end_process, fewer_at, fewer_on, filed_state, forked_child, forked_state, forking, freed_at, freed_on}
pub use Rattle.kernel_spec.specs.steps.Updates.{give_frames, given_to, gone_state, kill_state, killer, mark, marked, more_at, more_on, orphan, orphans, own_state, remove_zombie, set_file, set_live}
pub use Rattle.kernel_spec.specs.steps.Updates.{set_pipe, settled, started, stepped, target_of_open, told_image, waited, waited_state, with_answer, with_bytes, with_closed}
unfoldable pub use Rattle.kernel_spec.specs.steps.Updates.{fewer_on_all, freed_on_all, more_on_all}
pub use Rattle.kernel_spec.specs.views.ByPid.{put}
unfoldable pub use Rattle.kernel_spec.specs.views.ByPid.{by_pid}
pub use Rattle.kernel_spec.specs.views.NewKernel.{empty_state}
pub use Rattle.kernel_spec.specs.views.PipeEnds.{count_on, fit, has_bytes, has_room, is_given_up, joined, parted, there}
pub use Rattle.kernel_spec.specs.views.Processes.{Alive, Child, has_status, Live, parent_of, Running, Status, Zombie}
pub use Rattle.kernel_spec.specs.views.Programs.{console_name, init_name, is_bad_program, place_of, program_bytes, program_named, same_name}
unfoldable pub use Rattle.kernel_spec.specs.views.Programs.{first_bad, init_of}
pub use Rattle.kernel_spec.specs.views.State.{live, live_part, named_file, ProgramFile, State}
pub use Rattle.kernel_spec.specs.views.View.{child_of, Descriptor, Descriptors, in_use, least_on_pipe, numbered, or_gone, pipe_name, rename, rename_shown, show, Shown, Shown_file, Shown_pipe}
pub use Rattle.kernel_spec.specs.views.View.{Shown_terminal, View, view}
unfoldable pub use Rattle.kernel_spec.specs.views.View.{named, view_of}
pub use Rattle.kernel_spec.specs.views.WellFormed.{AreShown, cost, HasSlots, on, over_all, WellFormed}
unfoldable pub use Rattle.kernel_spec.specs.views.WellFormed.{sum_below}
pub use Rattle.kernel_spec.specs.views.Words.{A0, A1, A2, A7, c_int, CLOCK_ROUND, count_if, is_this, minus_one, or_zero, SP, word}
pub use Rattle.kernel_spec.specs.waking.Conditions.{at_start, Bytes, Child_of, Condition, is_open, KeepsTargets, Keys, OthersWaitOn, read_waits_for, Room, row_waits_for, Sending, sleep_waits_for}
pub use Rattle.kernel_spec.specs.waking.Conditions.{target_at, Time, waits_for, write_waits_for}
pub use Rattle.kernel_spec.specs.waking.Ready.{row_ready}
unfoldable pub use Rattle.kernel_spec.specs.waking.Ready.{ready}
pub use Rattle.kernel_spec.specs.waking.SleepsOn.{closes_wake, end_wakes, family_wakes, is_for, last_closes}
pub use Rattle.kernel_spec.specs.waking.Turns.{HasSlot, IsFreeSlot, IsLowestFree, Sleeps, Turns}
pub use Rattle.kernel_spec.specs.waking.Wakes.{IsEnd, IsInCall, IsNearest, IsRunnable, NoReadySleeper, Promised, WakesWhereDue}
pub use Rattle.kcall_core.specs.Buffers.{HasMoved, KeepBuffers, KeepsBuffer}
pub use Rattle.kcall_core.specs.Closings.{across, Closes, ClosesFrom, IsClosing, parent_woken, Remains, state_woken_by, target_now, unless_woken, wakes_if, woken_by}
pub use Rattle.kcall_core.specs.Forks.{Bears, IsBarren}
pub use Rattle.kcall_core.specs.Holdings.{byte_of, HasMemory, Held, held_at, held_cost, IsVacant, or_new, or_nothing, pipe_cost, pipe_named, rights_of, with_image, with_pipe, with_saved}
pub use Rattle.kcall_core.specs.Kernel.{by_status, descriptor_map, entry_at, entry_of, frame_count, HasImage, IsCurrent, IsIdle, IsParked, IsRepriced, IsRunning, IsSound, IsTooDear, live_now, live_of}
pub use Rattle.kcall_core.specs.Kernel.{or_nobody, pid_now, place_now, process_of, regs_at, slot_now}
unfoldable pub use Rattle.kcall_core.specs.Kernel.{state_of}
pub use Rattle.kcall_core.specs.Machine.{resting, sleeper_in, slot_entry, with_sleeper, world_of}
unfoldable pub use Rattle.kcall_core.specs.Machine.{sleepers_below, slots_of, turns_of}
pub use Rattle.kcall_core.specs.Makes.{answer_of, IsLastMade, IsUndone, Makes, MakesDone, MakesInARow, Stays, StillRuns, stop_now, view_now}
pub use Rattle.kcall_core.specs.Memories.{AreSound, held_in, is_between, IsAccounted, IsLastStep, IsMemory, keeps_pipe, kept_pipe, owners, PipeChanges, process_frames, RunsIn, Same, slot_frames}
pub use Rattle.kcall_core.specs.Memories.{SlotChanges, Stands, step_in, Steps, StepsDone, StepsInARow}
unfoldable pub use Rattle.kcall_core.specs.Memories.{all_joined, each_of, free_of, pipes_of}
pub use Rattle.kcall_core.specs.Moves.{InUse, Moves, OnFile, ReadsPipe, ReadsTerminal, row_on, wakes_readers, WritesPipe, WritesTerminal}
pub use Rattle.kcall_core.specs.ObservedFrames.{IsInTree, IsOffTheWay, IsOwned, IsUsed, IsUsedBy, IsUsedIn, page_frame_in, page_frame_of, use_of}
pub use Rattle.kcall_core.specs.ObservedPipes.{byte_of_pipe, counts_of}
pub use Rattle.kcall_core.specs.Observers.{byte_at, byte_in, child_at, child_seen, descriptor_of, if_live, IsLiveIn, opened, process_at, registers_of, rights_at, rights_in, size_of, told}
pub use Rattle.kcall_core.specs.Opens.{asked, asked_in, file_asked, name_asked}
pub use Rattle.kcall_core.specs.Room.{HasRoom, WholeHasRoom}
pub use Rattle.kcall_core.specs.Sharings.{IsShared, Joins, MayShare}
pub use Rattle.kcall_core.specs.Starts.{HasNoProcess, init_loaded, started_world}
pub use Rattle.kcall_core.specs.Touched.{HasFaulted, IsReady, IsTouched, IsUnready}
pub use Rattle.kcall_core.specs.Watched.{GoesUnwatched, MakesAllUnwatched, MakesDoneUnwatched, OnlyKept, OnlyKnown, StepsDoneUnwatched, StepsUnwatched}
pub use Rattle.kcall_core.specs.Whole.{AreCounted, IsWhole, named_in, namings, SleepOnTheirChannels}
pub use Rattle.kcall_core.specs.declared.call_end.CallEnd.{CallEnd}
pub use Rattle.kcall_core.specs.declared.kernel.Kernel.{Kernel}
pub use Rattle.kcall_core.specs.declared.kernel.observers.frame_uses.FrameUse.{FrameUse}
pub use Rattle.kcall_core.specs.declared.kernel.observers.frame_uses.FrameUse.TheVariants.{Free, Lower, Root, Trapframe, Upper}
pub use Rattle.kcall_core.specs.declared.memories.Memories.{Memories}
pub use Rattle.kcall_core.specs.declared.memories.Memory.{Memory}
pub use Rattle.kcall_core.specs.declared.memories.frame_roles.FrameRole.{FrameRole}
