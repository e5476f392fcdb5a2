-- A call is found by its number and by its name, and by no other; it has few arguments; and the calls are the rows of the kernel's table.
use Rattle.std.proofs.Common.{◌≡◌, ℕ, Bool, true, false, cond, List, [], ◌∷◌, Option, Some, None, refl, ap, sym, ◌∙◌, lit≤}
use Rattle.std.specs.Prelude.{pos, negsuc, option_map, map, nat_eq, find, bytes_eq}
use Rattle.std.proofs.lemmas.Bool.{eqb-true}
use Rattle.std.proofs.lemmas.Slice.Eq.{bytes_eq-Decides}
use Rattle.kernel_spec.specs.rows.Calls.{Row, table, row_of, row, perform, refused}
use Rattle.kernel_spec.specs.rows.Calls as rows
use Rattle.kernel_spec.specs.rows.Lines.{◌>>=◌, ◌or◌}
use Rattle.kernel_spec.specs.views.View.{View}
use Rattle.proc_table.specs.declared.process.Call.{Call}
use Rattle.kernel_calls.specs.declared.call.KernelCall.{KernelCall}
use Rattle.kernel_calls.specs.declared.call.KernelCall.TheVariants.{Fork, Exit, Wait, Pipe, Read, Kill, Exec, Dup, Getpid, Sbrk, Sleep, Uptime, Open, Write, Close, Sbrklazy}
use Rattle.kernel_calls.specs.Table.{entry_of, calls, call_at, call_named}
use Rattle.kernel_calls.specs.Rows.{row_for}
use Rattle.kernel_calls.specs.Laws.{FoundByNumber, HasNumber, FoundByName, HasName, AtMostThree, SameNumbers, RowsOfCalls, CallsOfRows, DoneByRow, OthersRefused}

-- what is found passes the test
passes : {X : Type 0} (test : X → Bool) (xs : List X) (x : X) → find test xs ≡ Some x → test x ≡ true
passes test [] x e = let no : ⊥ = cc in absurd no
passes test (y ∷ ys) x e = by (passes test ys x) (test y) refl
  where
    by : (find test ys ≡ Some x → test x ≡ true) → (b : Bool) → test y ≡ b → test x ≡ true
    by later true is =
        let found : Some y ≡ Some x = sym (ap (λ (b : Bool). cond b (Some y) (find test ys)) is) ∙ e in
        let same : y ≡ x = cc in
        ap test (sym same) ∙ is
    by later false is = later (sym (ap (λ (b : Bool). cond b (Some y) (find test ys)) is) ∙ e)

-- ---- number and name

pub found_by_number : FoundByNumber
unfolding call_at
found_by_number Fork = refl
found_by_number Exit = refl
found_by_number Wait = refl
found_by_number Pipe = refl
found_by_number Read = refl
found_by_number Kill = refl
found_by_number Exec = refl
found_by_number Dup = refl
found_by_number Getpid = refl
found_by_number Sbrk = refl
found_by_number Sleep = refl
found_by_number Uptime = refl
found_by_number Open = refl
found_by_number Write = refl
found_by_number Close = refl
found_by_number Sbrklazy = refl

pub has_number : HasNumber
unfolding call_at
has_number (pos n) call e = ap pos (sym (eqb-true (entry_of call).number n (passes (λ c. nat_eq (entry_of c).number n) calls call e)))
has_number (negsuc k) call e = let no : ⊥ = cc in absurd no

pub found_by_name : FoundByName
unfolding call_named
found_by_name Fork = refl
found_by_name Exit = refl
found_by_name Wait = refl
found_by_name Pipe = refl
found_by_name Read = refl
found_by_name Kill = refl
found_by_name Exec = refl
found_by_name Dup = refl
found_by_name Getpid = refl
found_by_name Sbrk = refl
found_by_name Sleep = refl
found_by_name Uptime = refl
found_by_name Open = refl
found_by_name Write = refl
found_by_name Close = refl
found_by_name Sbrklazy = refl

pub has_name : HasName
unfolding call_named
has_name name call e = sym ((bytes_eq-Decides (entry_of call).name name).0 (passes (λ c. bytes_eq (entry_of c).name name) calls call e))

-- ---- arguments

pub at_most_three : AtMostThree
at_most_three Fork = lit≤ tt
at_most_three Exit = lit≤ tt
at_most_three Wait = lit≤ tt
at_most_three Pipe = lit≤ tt
at_most_three Read = lit≤ tt
at_most_three Kill = lit≤ tt
at_most_three Exec = lit≤ tt
at_most_three Dup = lit≤ tt
at_most_three Getpid = lit≤ tt
at_most_three Sbrk = lit≤ tt
at_most_three Sleep = lit≤ tt
at_most_three Uptime = lit≤ tt
at_most_three Open = lit≤ tt
at_most_three Write = lit≤ tt
at_most_three Close = lit≤ tt
at_most_three Sbrklazy = lit≤ tt

-- ---- the kernel's table

-- a call's number and row, as the kernel's table has them
abbrev listed : KernelCall → ℕ × Row
listed call = ((entry_of call).number, row_for call)

abbrev row_in : Option (ℕ × Row) → Option Row
row_in found = option_map (λ (e : ℕ × Row). e.1) found

abbrev row_by : Option KernelCall → Option Row
row_by found = option_map row_for found

module _ (n : ℕ) where
  abbrev listed_there : List KernelCall → Option (ℕ × Row)
  listed_there cs = find (λ (e : ℕ × Row). nat_eq e.0 n) (map listed cs)

  abbrev call_there : List KernelCall → Option KernelCall
  call_there cs = find (λ c. nat_eq (entry_of c).number n) cs

  -- what is found by number among the rows of calls is the row of the call that is found
  row_found : (cs : List KernelCall) → row_in (listed_there cs) ≡ row_by (call_there cs)
  row_found [] = refl
  row_found (c ∷ cs) = by (row_found cs) (nat_eq (entry_of c).number n)
    where
      by : row_in (listed_there cs) ≡ row_by (call_there cs) → (b : Bool) → row_in (cond b (Some (listed c)) (listed_there cs)) ≡ row_by (cond b (Some c) (call_there cs))
      by later true = refl
      by later false = later

pub same_numbers : SameNumbers
unfolding call_at row_of
same_numbers (pos n) = row_found n calls
same_numbers (negsuc k) = refl

pub rows_of_calls : RowsOfCalls
rows_of_calls Fork = refl
rows_of_calls Exit = refl
rows_of_calls Wait = refl
rows_of_calls Pipe = refl
rows_of_calls Read = refl
rows_of_calls Kill = refl
rows_of_calls Exec = refl
rows_of_calls Dup = refl
rows_of_calls Getpid = refl
rows_of_calls Sbrk = refl
rows_of_calls Sleep = refl
rows_of_calls Uptime = refl
rows_of_calls Open = refl
rows_of_calls Write = refl
rows_of_calls Close = refl
rows_of_calls Sbrklazy = refl

pub calls_of_rows : CallsOfRows
calls_of_rows rows.Fork = refl
calls_of_rows rows.Exit = refl
calls_of_rows rows.Wait = refl
calls_of_rows rows.Pipe_row = refl
calls_of_rows rows.Read = refl
calls_of_rows rows.Kill = refl
calls_of_rows rows.Exec = refl
calls_of_rows rows.Dup = refl
calls_of_rows rows.Getpid = refl
calls_of_rows rows.Sbrk = refl
calls_of_rows rows.Sleep = refl
calls_of_rows rows.Uptime = refl
calls_of_rows rows.Open = refl
calls_of_rows rows.Write = refl
calls_of_rows rows.Close = refl
calls_of_rows rows.Sbrklazy = refl

-- the kernel does a call by its row
by_row : (c : Call) (v : View) (found : Option Row) → row_of c.number ≡ found → perform c v ≡ ((found or refused c v) >>= (λ r. row r c v))
unfolding perform
by_row c v found is = ap (λ (o : Option Row). (o or refused c v) >>= (λ r. row r c v)) is

pub done_by_row : DoneByRow
unfolding ◌>>=◌ ◌or◌
done_by_row c v call e = by_row c v (Some (row_for call)) (same_numbers c.number ∙ ap (λ (o : Option KernelCall). option_map row_for o) e)

pub others_refused : OthersRefused
unfolding ◌>>=◌ ◌or◌
others_refused c v e = by_row c v None (same_numbers c.number ∙ ap (λ (o : Option KernelCall). option_map row_for o) e)
