-- Worked cases of what a view holds, of what of it is shared with others, and of what the step of another process may change in it.
-- If two things differ in one part alone, what shows this part tells them apart, and what doesn't show it is the same.
use Rattle.kcall_core.proofs.Prelude.{[], ℕ, ◌||◌, ◌∙◌, ◌∷◌, ◌≡◌, ◌≢◌, Alive, ap, Bool, Call, Child, child_at, child_of, Console, Descriptor, descriptor_on, Descriptors, End, false, File, get}
use Rattle.kcall_core.proofs.Prelude.{if_live, Image, is_this, keys, least_below, List, Live, live, named, negsuc, None, Option, or_gone, Own, Pipe, Pipe_end, pos, ProgramFile, Reading, refl}
use Rattle.kcall_core.proofs.Prelude.{Registers, Running, seen, seen_children, seen_descriptor, Shown, Shown_file, Shown_pipe, Shown_terminal, Some, State, Status, suc, Terminal, true, View, view_of}
use Rattle.kcall_core.proofs.Prelude.{with_pc, Writing, zero, Zombie}
use Rattle.kernel_spec.specs.views.Shared.{Nothing_shared, Offset, Content, shared_part, Shared, shared}

-- ---- what is shared

module _ (v : View) where
  -- not the registers and the pc among them, the image, the call, the pid and the programs
  shared_without_regs : (regs : Registers) → shared (record v { regs = regs }) ≡ shared v
  shared_without_regs regs = refl

  shared_without_pc : (pc : ℕ) → shared (record v { regs = with_pc v.regs pc }) ≡ shared v
  shared_without_pc pc = refl

  shared_without_image : (image : Image) → shared (record v { image = image }) ≡ shared v
  shared_without_image image = refl

  shared_without_call : (call : Option Call) → shared (record v { call = call }) ≡ shared v
  shared_without_call call = refl

  shared_without_pid : (pid : ℕ) → shared (record v { pid = pid }) ≡ shared v
  shared_without_pid pid = refl

  shared_without_programs : (programs : List ProgramFile) → shared (record v { programs = programs }) ≡ shared v
  shared_without_programs programs = refl

  -- but the console, the clock, the pids in use, the next pid, the number of free frames, the children and the kill mark
  shared_has_console : (a b : Console) → a ≢ b → shared (record v { console = a }) ≢ shared (record v { console = b })
  shared_has_console a b apart e = apart (ap (λ (s : Shared). s.console) e)

  shared_has_clock : (a b : ℕ) → a ≢ b → shared (record v { clock = a }) ≢ shared (record v { clock = b })
  shared_has_clock a b apart e = apart (ap (λ (s : Shared). s.clock) e)

  shared_has_pids : (a b : List ℕ) → a ≢ b → shared (record v { pids = a }) ≢ shared (record v { pids = b })
  shared_has_pids a b apart e = apart (ap (λ (s : Shared). s.pids) e)

  shared_has_next_pid : (a b : ℕ) → a ≢ b → shared (record v { next_pid = a }) ≢ shared (record v { next_pid = b })
  shared_has_next_pid a b apart e = apart (ap (λ (s : Shared). s.next_pid) e)

  shared_has_free : (a b : ℕ) → a ≢ b → shared (record v { free = a }) ≢ shared (record v { free = b })
  shared_has_free a b apart e = apart (ap (λ (s : Shared). s.free) e)

  shared_has_children : (a b : ℕ → Option Child) (q : ℕ) → a q ≢ b q → shared (record v { children = a }) ≢ shared (record v { children = b })
  shared_has_children a b q apart e = apart (ap (λ (s : Shared). s.children q) e)

  shared_has_mark : shared (record v { killed = true }) ≢ shared (record v { killed = false })
  shared_has_mark e = let no : true ≡ false = ap (λ (s : Shared). s.killed) e in let bad : ⊥ = cc in bad

  -- and of each descriptor what is shared of it
  shared_has_parts : (t u : Descriptors) (d : ℕ) → shared_part (t d) ≢ shared_part (u d) → shared (record v { descriptors = t }) ≢ shared (record v { descriptors = u })
  shared_has_parts t u d apart e = apart (ap (λ (s : Shared). s.parts d) e)

-- ---- of a descriptor

abbrev on : ℕ → Bool → Bool → Shown → Option Descriptor
on file read write shown = Some (record { file = file; read = read; write = write; shown = shown })

-- not its open file's name and its modes, nor which program's file it is on, nor its pipe's name and which end it is
part_without_names : (f g : ℕ) (r s w x : Bool) (shown : Shown) → shared_part (on f r w shown) ≡ shared_part (on g s x shown)
part_without_names f g r s w x Shown_terminal = refl
part_without_names f g r s w x (Shown_file program offset) = refl
part_without_names f g r s w x (Shown_pipe name end pipe) = refl

part_without_program : (p q offset : ℕ) → shared_part (on 0 true false (Shown_file p offset)) ≡ shared_part (on 0 true false (Shown_file q offset))
part_without_program p q offset = refl

part_without_end : (m n : ℕ) (e f : End) (pipe : Pipe) → shared_part (on 0 true false (Shown_pipe m e pipe)) ≡ shared_part (on 0 true false (Shown_pipe n f pipe))
part_without_end m n e f pipe = refl

-- nothing of one that isn't in use, or is on the console
part_of_none : shared_part None ∷ shared_part (on 0 true true Shown_terminal) ∷ [] ≡ Nothing_shared ∷ Nothing_shared ∷ []
part_of_none = refl

-- but a file's offset
part_has_offset : (program m n : ℕ) → m ≢ n → shared_part (on 0 true false (Shown_file program m)) ≢ shared_part (on 0 true false (Shown_file program n))
part_has_offset program m n apart e = apart (by m n e)
  where
    by : (a b : ℕ) → Offset a ≡ Offset b → a ≡ b
    by a b h = cc

-- and a pipe's bytes and its two counts
module _ (name : ℕ) (end : End) where
  abbrev on_pipe : List ℕ → ℕ → ℕ → Option Descriptor
  on_pipe bytes readers writers = on 0 true false (Shown_pipe name end (record { bytes = bytes; readers = readers; writers = writers }))

  content : (a b : Pipe) → Content a ≡ Content b → a ≡ b
  content a b h = cc

  part_has_bytes : (a b : List ℕ) (r w : ℕ) → a ≢ b → shared_part (on_pipe a r w) ≢ shared_part (on_pipe b r w)
  part_has_bytes a b r w apart e = apart (ap (λ (x : Pipe). x.bytes) (content (record { bytes = a; readers = r; writers = w }) (record { bytes = b; readers = r; writers = w }) e))

  part_has_readers : (bytes : List ℕ) (m n w : ℕ) → m ≢ n → shared_part (on_pipe bytes m w) ≢ shared_part (on_pipe bytes n w)
  part_has_readers bytes m n w apart e = apart (ap (λ (x : Pipe). x.readers) (content (record { bytes = bytes; readers = m; writers = w }) (record { bytes = bytes; readers = n; writers = w }) e))

  part_has_writers : (bytes : List ℕ) (r m n : ℕ) → m ≢ n → shared_part (on_pipe bytes r m) ≢ shared_part (on_pipe bytes r n)
  part_has_writers bytes r m n apart e = apart (ap (λ (x : Pipe). x.writers) (content (record { bytes = bytes; readers = r; writers = m }) (record { bytes = bytes; readers = r; writers = n }) e))

-- ---- what a view holds

module _ (s : State) (p : ℕ) (l : Live) where
  -- the process's own pid, registers, image, call and mark
  view_own : ((view_of s p l).pid ≡ p) × ((view_of s p l).regs ≡ l.regs) × ((view_of s p l).image ≡ l.image) × ((view_of s p l).call ≡ l.call) × ((view_of s p l).killed ≡ l.killed)
  unfolding view_of
  view_own = (refl, refl, refl, refl, refl)

  -- the console, the pids in use, the clock, the next pid, the number of free frames, and the programs
  view_common : ((view_of s p l).console ≡ s.console) × ((view_of s p l).pids ≡ keys s.processes) × ((view_of s p l).clock ≡ s.clock) × ((view_of s p l).next_pid ≡ s.next_pid)
      × ((view_of s p l).free ≡ s.free) × ((view_of s p l).programs ≡ s.programs)
  unfolding view_of
  view_common = (refl, refl, refl, refl, refl, refl)

  -- not who its parent is
  view_without_parent : (parent : Option ℕ) → view_of s p (record l { parent = parent }) ≡ view_of s p l
  unfolding view_of
  view_without_parent parent = refl

  -- of another process its pid alone, unless it is a child
  view_children : (q : ℕ) → (view_of s p l).children q ≡ child_of p (get s.processes q)
  unfolding view_of
  view_children q = refl

module _ (l : Live) (mine : l.parent ≡ Some 1) (other : Live) (its : other.parent ≡ Some 2) where
  child_runs : child_of 1 (Some (Alive l)) ≡ Some Running
  child_runs = ap (λ (parent : Option ℕ). child_of 1 (Some (Alive (record l { parent = parent })))) mine

  others_child : child_of 1 (Some (Alive other)) ≡ None
  others_child = ap (λ (parent : Option ℕ). child_of 1 (Some (Alive (record other { parent = parent })))) its

-- of a zombie its status; of no process nothing
children_gone : child_of 1 (Some (Zombie (Some 1) (negsuc 0))) ∷ child_of 1 (Some (Zombie (Some 2) (negsuc 0))) ∷ child_of 1
    (Some (Zombie None (pos 0))) ∷ child_of 1 None ∷ [] ≡ Some (Status (negsuc 0)) ∷ None ∷ None ∷ None ∷ []
children_gone = refl

-- what an observer of the machine is told of a child: nothing if the parent isn't live
module _ (s : State) (gone : live s 1 ≡ None) (l : Live) (here : live s 2 ≡ Some l) (child : get s.processes 3 ≡ Some (Zombie (Some 1) (pos 7)))
    (its : get s.processes 4 ≡ Some (Zombie (Some 2) (pos 7))) where
  no_parent : child_at s 1 3 ≡ None
  no_parent = ap (λ (o : Option Live). if_live o (child_of 1 (get s.processes 3))) gone

  a_parent : child_at s 2 4 ≡ Some (Status (pos 7))
  a_parent = ap (λ (o : Option Live). if_live o (child_of 2 (get s.processes 4))) here ∙ ap (child_of 2) its

  not_its_child : child_at s 2 3 ≡ None
  not_its_child = ap (λ (o : Option Live). if_live o (child_of 2 (get s.processes 3))) here ∙ ap (child_of 2) child

-- a descriptor shows its modes, and the console, a program with the offset, or an end of a pipe with the pipe
module _ (s : State) where
  on_console : descriptor_on s 7 (Some (record { read = true; write = false; target = Terminal })) ≡ on 7 true false Shown_terminal
  on_console = refl

  on_file : descriptor_on s 7 (Some (record { read = true; write = false; target = File 2 9 })) ≡ on 7 true false (Shown_file 2 9)
  on_file = refl

  on_end : (x : Pipe) → get s.pipes 5 ≡ Some x → descriptor_on s 7 (Some (record { read = false; write = true; target = Pipe_end 5 Writing })) ≡ on 7 false true (Shown_pipe 5 Writing x)
  on_end x is = ap (λ (o : Option Pipe). on 7 false true (Shown_pipe 5 Writing (or_gone o))) is

-- the kernel's numbers aren't shown: open file 40 is named by the least descriptor on it, and so is pipe 50
module _ (x : Pipe) where
  abbrev end_at : ℕ → ℕ → Option Descriptor
  end_at file pipe = on file true false (Shown_pipe pipe Reading x)

  -- descriptors 1 and 3 are on one open file, 2 is on another on the same pipe, 0 on another pipe
  abbrev four : (a b c i j : ℕ) → Descriptors
  four a b c i j = λ d. elim d [ zero ↦ end_at a i | suc n ↦ elim n [ zero ↦ end_at b j | suc m ↦ elim m [ zero ↦ end_at c j | suc k ↦ elim k [ zero ↦ end_at b j | suc h ↦ None ] ] ] ]

  names_are_least : named (four 39 40 41 49 50) 0 ∷ named (four 39 40 41 49 50) 1 ∷ named (four 39 40 41 49 50) 2 ∷ named (four 39 40 41 49 50) 3 ∷ named (four 39 40 41 49 50) 4 ∷ []
      ≡ end_at 0 0 ∷ end_at 1 1 ∷ end_at 2 1 ∷ end_at 1 1 ∷ None ∷ []
  unfolding named least_below
  names_are_least = refl

-- ---- what another process sees of a step

module _ (s : State) (v : View) (o : Own) (w : View) where
  -- it keeps its pid, registers, image, call and programs, and the clock
  seen_keeps : ((seen s v o w).pid ≡ w.pid) × ((seen s v o w).regs ≡ w.regs) × ((seen s v o w).image ≡ w.image) × ((seen s v o w).call ≡ w.call)
      × ((seen s v o w).programs ≡ w.programs) × ((seen s v o w).clock ≡ w.clock)
  unfolding seen
  seen_keeps = (refl, refl, refl, refl, refl, refl)

  -- the console, the pids, the next pid and the number of free frames are those that the step left
  seen_left : ((seen s v o w).console ≡ o.left.console) × ((seen s v o w).pids ≡ o.left.pids) × ((seen s v o w).next_pid ≡ o.left.next_pid) × ((seen s v o w).free ≡ o.left.free)
  unfolding seen
  seen_left = (refl, refl, refl, refl)

-- a descriptor keeps its name, its modes, its program, and its pipe's name and end; one that isn't in use stays so
descriptor_keeps_file : (f p : Option Descriptor) (file program offset : ℕ) (r w : Bool)
    → (now : ℕ) × (seen_descriptor f p (on file r w (Shown_file program offset)) ≡ on file r w (Shown_file program now))
descriptor_keeps_file f p file program offset r w = (_, refl)

descriptor_keeps_pipe : (f p : Option Descriptor) (file name : ℕ) (end : End) (pipe : Pipe) (r w : Bool)
    → (now : Pipe) × (seen_descriptor f p (on file r w (Shown_pipe name end pipe)) ≡ on file r w (Shown_pipe name end now))
descriptor_keeps_pipe f p file name end pipe r w = (_, refl)

descriptor_keeps_console : (f p : Option Descriptor) (file : ℕ) (r w : Bool) → seen_descriptor f p (on file r w Shown_terminal) ≡ on file r w Shown_terminal
descriptor_keeps_console f p file r w = refl

descriptor_unused : (f p : Option Descriptor) → seen_descriptor f p None ≡ None
descriptor_unused f p = refl

-- an offset changes only with an open file that both name, a pipe only with one that both are on
descriptor_alone : (file name offset program : ℕ) (end : End) (pipe : Pipe) (f p : Option Descriptor)
    → (seen_descriptor None p (on file true false (Shown_file program offset)) ≡ on file true false (Shown_file program offset))
    × (seen_descriptor f None (on file true false (Shown_pipe name end pipe)) ≡ on file true false (Shown_pipe name end pipe))
descriptor_alone file name offset program end pipe f p = (refl, refl)

-- a mark that is set isn't cleared, and is set for no other than the one that was marked
mark_stays : (s : State) (v : View) (o : Own) (w : View) → w.killed ≡ true → (seen s v o w).killed ≡ true
unfolding seen
mark_stays s v o w marked = ap (λ (b : Bool). b || is_this w.pid o.marked) marked

no_mark : (s : State) (v : View) (o : Own) (w : View) → o.marked ≡ None → w.killed ≡ false → (seen s v o w).killed ≡ false
unfolding seen
no_mark s v o w none unmarked = (λ i. unmarked i || is_this w.pid (none i))

-- children change only if the process is gone
children_stay : (v w : View) → seen_children None v w ≡ w.children
children_stay v w = refl
