-- open: which call it is, and what is claimed of its row.
use Rattle.kernel_spec.proofs.Prelude.{ℕ, ◌==◌, ◌>>=◌, ◌or◌, ◌≡◌, ap, Bool, bytes_eq, c_int, Call, cond, console_name, Descriptor, false, has_mode, List, lowest_free, MAXPATH, named, natural}
use Rattle.kernel_spec.proofs.Prelude.{no_slashes, None, none-some, not, Open, open_file, Option, option_map, perform, place_of, pos, ProgramFile, refl, row, row_of, same_Some, Shown, Shown_file}
use Rattle.kernel_spec.proofs.Prelude.{shown_pipe_name, Shown_terminal, Some, sym, text_at, true, View, what_is_named, with_descriptor, with_value}
use Rattle.kernel_spec.proofs.calls.Facts.{RowFacts, done_with, no, nothing}
use Rattle.kernel_spec.proofs.calls.Words.{by_number, by_or, by_when}
use Rattle.kernel_spec.proofs.calls.Tables.{IsLow, Table, added_named, lowest_is_free, named_empty, new_empty, no_pipe_empty, none_empty, same_adds, same_table, table_added, value_adds, value_empty}

pub is_open : (c : Call) (v : View) → c.number ≡ pos 15 → perform c v ≡ open_file c v
unfolding row row_of ◌>>=◌ ◌or◌
is_open c v is = by_number c v (pos 15) is

-- what is opened is no pipe
no_pipe : (name : List ℕ) (programs : List ProgramFile) (shown : Shown) → what_is_named name programs ≡ Some shown → shown_pipe_name shown ≡ None
no_pipe name programs shown e = by (bytes_eq console_name name) e
  where
    place : (o : Option ℕ) → option_map (λ place. Shown_file place 0) o ≡ Some shown → shown_pipe_name shown ≡ None
    place None h = absurd (none-some shown h)
    place (Some k) h = ap shown_pipe_name (sym (same_Some (Shown_file k 0) shown h))

    by : (b : Bool) → cond b (Some Shown_terminal) (option_map (λ place. Shown_file place 0) (place_of name programs)) ≡ Some shown → shown_pipe_name shown ≡ None
    by true h = ap shown_pipe_name (sym (same_Some Shown_terminal shown h))
    by false h = place (place_of name programs) h

module _ (c : Call) (v : View) (its : row_of c.number ≡ Some Open) where
  -- one descriptor more, that is on no pipe
  opens : (fd : ℕ) (r w : Bool) (shown : Shown) → shown_pipe_name shown ≡ None → lowest_free v.descriptors ≡ Some fd → IsLow v.descriptors
      → Table v.descriptors (with_descriptor fd (record { file = fd; read = r; write = w; shown = shown }) v.descriptors)
  opens fd r w shown plain_one free low =
      let opened : Descriptor = record { file = fd; read = r; write = w; shown = shown } in
      let t = v.descriptors in
      let u = with_value t fd (Some opened) in
      table_added t (named u) (added_named t low u (value_adds t t fd (Some opened) (lowest_is_free t low fd free) (same_adds t t (same_table t))))
      (new_empty t (named u) (λ d none. named_empty u d (value_empty t fd (Some opened) d (no_pipe_empty fd r w shown plain_one) (none_empty (t d) none))))

  pub open_facts : RowFacts c v nothing (open_file c v)
  unfolding open_file
  open_facts = by_or (RowFacts c v nothing) (text_at MAXPATH v.image c.a0) (no c v) (λ path _.
      by_or (RowFacts c v nothing) (what_is_named (no_slashes path) v.programs) (no c v) (λ shown is.
      by_or (RowFacts c v nothing) (natural (c_int c.a1)) (no c v) (λ mode _. by_when (RowFacts c v nothing) (not (has_mode shown mode)) (no c v) (λ _.
      by_or (RowFacts c v nothing) (lowest_free v.descriptors) (no c v) (λ fd free.
      done_with c v its refl fd (record v { descriptors = with_descriptor fd (record { file = fd; read = not (mode == 1); write = not (mode == 0); shown = shown }) v.descriptors }) refl refl refl
      (opens fd (not (mode == 1)) (not (mode == 0)) shown (no_pipe (no_slashes path) v.programs shown is) free))))))
