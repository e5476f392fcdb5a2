-- Which case of its row a call comes to, by its arguments.
use Rattle.kernel_spec.proofs.Prelude.{ℕ, ℤ, ◌&&◌, ◌<◌, ◌||◌, ◌∙◌, ◌≡◌, Alive, ap, ARG_BYTES, Bool, c_int, Call, close, Descriptor, dup, exec, false, get, in_use, is_none, IsSome, kill, least_below}
use Rattle.kernel_spec.proofs.Prelude.{List, Live, live_part, loaded, lowest_free, lowest_free_above, make_pipe, MAXARG, MAXPATH, nat_eq, nat_lt, no_slashes, NOFILE, None, not, numbered, OpenFile}
use Rattle.kernel_spec.proofs.Prelude.{Option, option_map, Own, pos, program_named, ProgramFile, read, readable, refl, rename, Some, State, text_at, texts_at, there, true, View, view_of, WellFormed}
use Rattle.kernel_spec.proofs.Prelude.{writable, writable_now, write}
use Rattle.kernel_spec.proofs.steps.SeenByParts.{file_of, descriptor_at, descriptor_on}
use Rattle.kernel_spec.proofs.steps.LeastPasses.{least_congr}
use Rattle.kernel_spec.proofs.steps.NamesAreChosenAgain.{named_at}
use Rattle.kernel_spec.proofs.rows.RowParts.{piped, piped_from, read_on, read_from, killed_by, exec_path, exec_program, exec_loaded, dup_number, dup_on, dup_at, write_on, write_to, close_at, unless}
use Rattle.kernel_spec.proofs.rows.RowParts.{unless_nothing, moving, length_of_int, close_number, close_on, kill_pid}
use Rattle.kernel_spec.proofs.rows.Settled.{there-ready, now-writable, counted-settled}
use Rattle.kernel_spec.proofs.rows.RowsByParts.{dup_same, close_same, read_same, write_same, pipe_same, kill_same, exec_same}

module _ (c : Call) (v : View) where
  module _ (d : Descriptor) (fd : ℕ) (n : ℕ) (is_fd : c_int c.a0 ≡ pos fd) (used : v.descriptors fd ≡ Some d) where
    pub dup_case : dup c v ≡ dup_at c v fd d (lowest_free v.descriptors)
    dup_case = dup_same c v ∙ ap (dup_number c v) is_fd ∙ ap (dup_on c v fd) used

    pub close_case : close c v ≡ close_at c v fd d
    close_case = close_same c v ∙ ap (close_number c v) is_fd ∙ ap (close_on c v fd) used

    found : in_use v (c_int c.a0) ≡ Some d
    found = ap (in_use v) is_fd ∙ used

    module _ (count : c_int c.a2 ≡ pos n) (some : nat_eq n 0 ≡ false) where
      by_count : (room : ℕ → Bool) (go : ℕ → Own) → room n ≡ true → moving c v (room (length_of_int (c_int c.a2))) (c_int c.a2) go ≡ go n
      by_count room go there =
          ap (λ (z : ℤ). moving c v (room (length_of_int z)) z go) count
          ∙ ap (λ (b : Bool). unless_nothing b c v (λ _. unless (not (room n)) c v (λ _. go n))) some
          ∙ ap (λ (b : Bool). unless (not b) c v (λ _. go n)) there

      pub read_case : d.read ≡ true → writable_now v.image c.a1 n ≡ true → read c v ≡ read_from c v n d.file d.shown
      read_case reads there =
          read_same c v (counted-settled v.image c.a1 n (c_int c.a2) count there) ∙ ap (read_on c v) found
          ∙ ap (λ (b : Bool). unless (not b) c v (λ _. moving c v (writable v.image c.a1 (length_of_int (c_int c.a2))) (c_int c.a2) (λ m. read_from c v m d.file d.shown))) reads
          ∙ by_count (writable v.image c.a1) (λ m. read_from c v m d.file d.shown) (now-writable v.image c.a1 n there)

      pub write_case : d.write ≡ true → readable v.image c.a1 n ≡ true → write c v ≡ write_to c v n d.shown
      write_case writes there =
          write_same c v ∙ ap (write_on c v) found
          ∙ ap (λ (b : Bool). unless (not b) c v (λ _. moving c v (readable v.image c.a1 (length_of_int (c_int c.a2))) (c_int c.a2) (λ m. write_to c v m d.shown))) writes
          ∙ by_count (readable v.image c.a1) (λ m. write_to c v m d.shown) there

  pub pipe_case : (r : ℕ) → writable_now v.image c.a0 8 ≡ true → nat_eq v.free 0 ≡ false → lowest_free v.descriptors ≡ Some r → make_pipe c v ≡ piped c v r (lowest_free_above v.descriptors r)
  pipe_case r there frame least =
      let ready = there-ready v.image c.a0 8 there in
      let room : (not (writable v.image c.a0 8) || nat_eq v.free 0) ≡ false = ap (λ b. not b || nat_eq v.free 0) ready.0 ∙ frame in
      pipe_same c v ready.1 ∙ ap (λ (b : Bool). unless b c v (λ _. piped_from c v (lowest_free v.descriptors))) room ∙ ap (piped_from c v) least

  pub kill_case : (q : ℕ) → c_int c.a0 ≡ pos q → nat_eq q 0 ≡ false → kill c v ≡ killed_by c v q
  kill_case q is some = kill_same c v ∙ ap (kill_pid c v) is ∙ ap (λ (b : Bool). unless b c v (λ _. killed_by c v q)) some

  pub exec_case : (path : List ℕ) (texts : List (List ℕ)) (program : ProgramFile) → text_at MAXPATH v.image c.a0 ≡ Some path → texts_at MAXARG ARG_BYTES v.image c.a1 ≡ Some texts
      → program_named (no_slashes path) v.programs ≡ Some program → exec c v ≡ exec_loaded c v (loaded program.bytes texts)
  exec_case path texts program is args named_so =
      exec_same c v ∙ ap (exec_path c v) is
      ∙ ap (λ (t : Option (List (List ℕ))). exec_program c v t (program_named (no_slashes path) v.programs)) args
      ∙ ap (exec_program c v (Some texts)) named_so

-- ---- what a view shows of descriptors that are free and in use

module _ (frames : ℕ) (s : State) (well : WellFormed frames s) (p : ℕ) (l : Live) (was : get s.processes p ≡ Some (Alive l)) where
  none_map : {A B : Type 0} (f : A → B) (o : Option A) → is_none (option_map f o) ≡ is_none o
  none_map f None = refl
  none_map f (Some x) = refl

  none_on : (g : ℕ) (o : Option OpenFile) → IsSome o → is_none (descriptor_on s g o) ≡ false
  none_on g None h = let no : ⊥ = cc in absurd no
  none_on g (Some x) h = refl

  none_at : (d : ℕ) (o : Option ℕ) → get l.descriptors d ≡ o → is_none (descriptor_at s o) ≡ is_none o
  none_at d None e = refl
  none_at d (Some g) e = none_on g (get s.files g) (well.descriptors p d g (ap (λ (x : Option Live). file_of x d) (ap live_part was) ∙ e)).1

  -- a descriptor is free in the view exactly where it is free
  pub free_shown : (d : ℕ) → d < NOFILE → is_none ((view_of s p l).descriptors d) ≡ is_none (get l.descriptors d)
  unfolding view_of
  free_shown d below = ap is_none (named_at (numbered s l) d below) ∙ none_map (rename (numbered s l)) (numbered s l d) ∙ none_at d (get l.descriptors d) refl

  pub lowest_free_is : lowest_free (view_of s p l).descriptors ≡ least_below (λ d. is_none (get l.descriptors d)) NOFILE
  lowest_free_is = least_congr NOFILE (λ d. is_none ((view_of s p l).descriptors d)) (λ d. is_none (get l.descriptors d)) free_shown

  pub lowest_free_above_is : (low : ℕ) → lowest_free_above (view_of s p l).descriptors low ≡ least_below (λ d. nat_lt low d && is_none (get l.descriptors d)) NOFILE
  lowest_free_above_is low = least_congr NOFILE (λ d. nat_lt low d && is_none ((view_of s p l).descriptors d))
      (λ d. nat_lt low d && is_none (get l.descriptors d)) (λ d below. ap (λ (b : Bool). nat_lt low d && b) (free_shown d below))
