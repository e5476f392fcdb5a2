-- What a sleeper waits for, and what each update may make come.
use Rattle.std.specs.Prelude.{◌≡◌, ℕ, Bool, ◌||◌, Some, ℤ, ◌⊎◌, ◌≢◌}
use Rattle.std.specs.FinMap.{FinMap, get}
use Rattle.std.specs.Ordering.{nat_cmp}
use Rattle.pipe_core.specs.Pipe.{Pipe}
use Rattle.console_core.specs.Lists.{Console}
use Rattle.file_table.specs.declared.open_file.OpenFile.{OpenFile}
use Rattle.kernel_spec.specs.views.Processes.{Live, Alive, Zombie}
use Rattle.kernel_spec.specs.views.State.{State}
use Rattle.kernel_spec.specs.views.View.{view_of}
use Rattle.kernel_spec.specs.steps.Updates.{changed_state, alone_state, mark, waited_state, forked_state, gone_state, kill_state}
use Rattle.kernel_spec.specs.views.WellFormed.{WellFormed}
use Rattle.kernel_spec.specs.waking.Ready.{ready}
use Rattle.kernel_spec.specs.runs.Run.{World, Outcome}
use Rattle.kernel_spec.specs.waking.Wakes.{NoReadySleeper, WakesWhereDue}
use Rattle.kernel_spec.specs.steps.Cases.{FilesLeft}
use Rattle.kernel_spec.specs.waking.Conditions.{Condition, Child_of, is_open, waits_for, OpensOnly, IsOfPipe, IsOfConsole, IsTime, MayOpenAtEnd, OthersWaitOn, KeepsTargets, WakesByConditions}

-- a process is ready exactly where it is marked, or what it waits for has come
abbrev pub ReadyIsOpen : Type 0
ReadyIsOpen = (s : State) (p : ℕ) (l : Live) → ready (view_of s p l) ≡ (l.killed || is_open s (waits_for s p l))

-- ---- what each update may make come: whoever waits for something else sleeps on

-- rows that change only their process, the console and the free frames
abbrev pub OpensAlone : Type 0
OpensAlone = (s : State) (p : ℕ) (l m : Live) (console : Console) (free : ℕ) → get s.processes p ≡ Some (Alive l) → m.parent ≡ l.parent → OpensOnly s (alone_state p m console free s) IsOfConsole

-- and leave the console as it is, or change an open file
abbrev pub OpensNothing : Type 0
OpensNothing =
    (s : State) (p : ℕ) (l m : Live) (files : FinMap nat_cmp OpenFile) (free : ℕ) → get s.processes p ≡ Some (Alive l) → m.parent ≡ l.parent
    → OpensOnly s (changed_state p m files s.pipes s.console free s) (λ c. ⊥)

-- reads and writes of pipe i, dup and close on it: all other pipes stay
abbrev pub OpensPipe : Type 0
OpensPipe =
    (s : State) (p : ℕ) (l m : Live) (i : ℕ) (files : FinMap nat_cmp OpenFile) (pipes : FinMap nat_cmp Pipe) (free : ℕ) → get s.processes p ≡ Some (Alive l) → m.parent ≡ l.parent
    → ((j : ℕ) → j ≢ i → get pipes j ≡ get s.pipes j)
    → OpensOnly s (changed_state p m files pipes s.console free s) (IsOfPipe i)

-- a mark
abbrev pub OpensMarked : Type 0
OpensMarked = (s : State) (q : ℕ) → OpensOnly s (mark q s) (λ c. ⊥)

-- a wait that takes a zombie of p
abbrev pub OpensReaped : Type 0
OpensReaped =
    (s : State) (p q : ℕ) (l m : Live) (status : ℤ) → get s.processes p ≡ Some (Alive l) → m.parent ≡ l.parent → get s.processes q ≡ Some (Zombie (Some p) status)
    → OpensOnly s (waited_state p m q s) (λ c. c ≡ Child_of p)

-- a tick; a key, or a byte that is sent
abbrev pub OpensTick : Type 0
OpensTick = (s : State) (clock : ℕ) → OpensOnly s (record s { clock = clock }) IsTime

abbrev pub OpensConsole : Type 0
OpensConsole = (s : State) (console : Console) → OpensOnly s (record s { console = console }) IsOfConsole

-- a new process: nothing
abbrev pub OpensForked : Type 0
OpensForked = (frames : ℕ) (s : State) (p : ℕ) (l : Live) → WellFormed frames s → get s.processes p ≡ Some (Alive l) → OpensOnly s (forked_state p l s) (λ c. ⊥)

abbrev pub OpensGone : Type 0
OpensGone =
    (frames : ℕ) (s : State) (p : ℕ) (l : Live) (status : ℤ) (files : FinMap nat_cmp OpenFile) → WellFormed frames s → get s.processes p ≡ Some (Alive l) → FilesLeft s (gone_state p l status files s)
    → OpensOnly s (gone_state p l status files s) (MayOpenAtEnd s p l)

-- ---- what no update changes: what everybody else waits for, and marks

-- It is so after each update of a live process p: p changes with the open files, pipes, the console and the free frames, where the open files of others are on what they
-- were on, or are those that somebody still names; p kills q; p takes the zombie q; p forks; p goes. A tick, a key and a byte that is sent leave what anybody waits for
abbrev pub WaitsStay : Type 0
WaitsStay =
    (frames : ℕ) (s : State) (p : ℕ) (l : Live) → WellFormed frames s → get s.processes p ≡ Some (Alive l)
    → ((m : Live) (files : FinMap nat_cmp OpenFile) (pipes : FinMap nat_cmp Pipe) (console : Console) (free : ℕ)
    → KeepsTargets s p files ⊎ FilesLeft s (changed_state p m files pipes console free s) → OthersWaitOn s p (changed_state p m files pipes console free s))
    × ((m : Live) (q : ℕ) → OthersWaitOn s p (kill_state p m q s))
    × ((m : Live) (q : ℕ) → OthersWaitOn s p (waited_state p m q s))
    × OthersWaitOn s p (forked_state p l s)
    × ((status : ℤ) (files : FinMap nat_cmp OpenFile) → FilesLeft s (gone_state p l status files s) → OthersWaitOn s p (gone_state p l status files s))
    × ((clock : ℕ) (console : Console) (q : ℕ) (m : Live) → waits_for (record s { clock = clock; console = console }) q m ≡ waits_for s q m)

-- ---- waking by conditions is waking where it is due

abbrev pub ConditionsSuffice : Type 0
ConditionsSuffice = (w t : World) (o : Outcome) (came : Condition → Bool) → NoReadySleeper w → WakesByConditions w o t came → WakesWhereDue w o t
