-- Whether a process is ready depends on its mark and on what it waits for.
use Rattle.kernel_spec.proofs.Prelude.{ℕ, ℤ, ◌||◌, ◌≡◌, ap, Bool, c_int, Call, call_ready, call_waits_for, can_read, can_write, cond, end_of, false, File, get, has_passed, in_use, is_open, Live}
use Rattle.kernel_spec.proofs.Prelude.{named, nat_lt, negsuc, NOFILE, None, numbered, on_shown, OpenFile, Option, option_map, Pipe_end, pos, Read, read_waits_for, ready, ReadyIsOpen, refl, rename}
use Rattle.kernel_spec.proofs.Prelude.{Row, row_of, row_ready, row_waits_for, same_Some, Sleep, sleep_waits_for, Some, State, Target, target_at, target_of_open, Terminal, ticks_since, true, View}
use Rattle.kernel_spec.proofs.Prelude.{view_of, Wait, waits_for, Write, write_waits_for}
use Rattle.kernel_spec.proofs.steps.SeenByParts.{descriptor_at, descriptor_on}

module _ (s : State) (p : ℕ) (l : Live) where
  abbrev v : View
  v = view_of s p l

  -- ---- by the open file

  read_target : (r w : Bool) (g : ℕ) (y : Target) → on_shown (can_read (view_of s p l))
      (option_map (rename (numbered s l)) (descriptor_on s g (Some (record { read = r; write = w; target = y })))) ≡ is_open s (read_waits_for (Some y))
  unfolding view_of
  read_target r w g Terminal = refl
  read_target r w g (File program offset) = refl
  read_target r w g (Pipe_end i end) = refl

  read_place : (o : Option ℕ) → on_shown (can_read (view_of s p l)) (option_map (rename (numbered s l)) (descriptor_at s o)) ≡ is_open s (read_waits_for (end_of s o))
  read_place None = refl
  read_place (Some g) = by (get s.files g)
    where
      by : (x : Option OpenFile) → on_shown (can_read (view_of s p l)) (option_map (rename (numbered s l)) (descriptor_on s g x)) ≡ is_open s (read_waits_for (target_of_open x))
      by None = refl
      by (Some x) = read_target x.read x.write g x.target

  write_target : (r w : Bool) (g : ℕ) (y : Target) → on_shown (can_write (view_of s p l))
      (option_map (rename (numbered s l)) (descriptor_on s g (Some (record { read = r; write = w; target = y })))) ≡ is_open s (write_waits_for (Some y))
  unfolding view_of
  write_target r w g Terminal = refl
  write_target r w g (File program offset) = refl
  write_target r w g (Pipe_end i end) = refl

  write_place : (o : Option ℕ) → on_shown (can_write (view_of s p l)) (option_map (rename (numbered s l)) (descriptor_at s o)) ≡ is_open s (write_waits_for (end_of s o))
  write_place None = refl
  write_place (Some g) = by (get s.files g)
    where
      by : (x : Option OpenFile) → on_shown (can_write (view_of s p l)) (option_map (rename (numbered s l)) (descriptor_on s g x)) ≡ is_open s (write_waits_for (target_of_open x))
      by None = refl
      by (Some x) = write_target x.read x.write g x.target

  read_in_range : (d : ℕ) (b : Bool) → on_shown (can_read (view_of s p l)) (cond b (option_map (rename (numbered s l)) (numbered s l d)) None)
      ≡ is_open s (read_waits_for (cond b (end_of s (get l.descriptors d)) None))
  read_in_range d true = read_place (get l.descriptors d)
  read_in_range d false = refl

  write_in_range : (d : ℕ) (b : Bool) → on_shown (can_write (view_of s p l)) (cond b (option_map (rename (numbered s l)) (numbered s l d)) None)
      ≡ is_open s (write_waits_for (cond b (end_of s (get l.descriptors d)) None))
  write_in_range d true = write_place (get l.descriptors d)
  write_in_range d false = refl

  read_number : (z : ℤ) → on_shown (can_read (view_of s p l)) (in_use (view_of s p l) z) ≡ is_open s (read_waits_for (target_at s l z))
  unfolding view_of named
  read_number (pos d) = read_in_range d (nat_lt d NOFILE)
  read_number (negsuc k) = refl

  write_number : (z : ℤ) → on_shown (can_write (view_of s p l)) (in_use (view_of s p l) z) ≡ is_open s (write_waits_for (target_at s l z))
  unfolding view_of named
  write_number (pos d) = write_in_range d (nat_lt d NOFILE)
  write_number (negsuc k) = refl

  sleep_number : (c : Call) (z : ℤ) → has_passed (ticks_since (view_of s p l).clock c.clock) z ≡ is_open s (sleep_waits_for c z)
  unfolding view_of
  sleep_number c (pos n) = refl
  sleep_number c (negsuc k) = refl

  row_is : (c : Call) (r : Option Row) → row_ready (view_of s p l) c r ≡ is_open s (row_waits_for s p l c r)
  unfolding view_of
  row_is c (Some Wait) = refl
  row_is c (Some Read) = read_number (c_int c.a0)
  row_is c (Some Write) = write_number (c_int c.a0)
  row_is c (Some Sleep) = sleep_number c (c_int c.a0)
  row_is c _ = refl

  call_is : (o : Option Call) → call_ready (view_of s p l) o ≡ is_open s (call_waits_for s p l o)
  call_is None = refl
  call_is (Some c) = row_is c (row_of c.number)

  -- a process is ready where it is marked, or what it waits for is there
  pub ready_is : ready (view_of s p l) ≡ (l.killed || is_open s (waits_for s p l))
  unfolding ready view_of
  ready_is = ap (λ (b : Bool). l.killed || b) (call_is l.call)

-- ---- who is seen

-- who is seen is live
pub view_is : (s : State) (q : ℕ) (o : Option Live) (v : View) → option_map (view_of s q) o ≡ Some v → (m : Live) × (o ≡ Some m) × (view_of s q m ≡ v)
view_is s q None v e = let no : ⊥ = cc in absurd no
view_is s q (Some m) v e = (m, refl, same_Some (view_of s q m) v e)

pub ready_is_open : ReadyIsOpen
ready_is_open s p l = ready_is s p l
