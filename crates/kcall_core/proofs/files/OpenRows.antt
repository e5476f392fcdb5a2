-- The row open, as the code goes through it.
use Rattle.kcall_core.proofs.Prelude.{[], ℕ, ℤ, ◌+◌, ◌∙◌, ◌∷◌, ◌≡◌, A_program, ap, asked, asked_in, Bool, bytes_eq, c_int, Call, cases_lt, cond, console_name, false, file_asked, inl, inr, kind_named}
use Rattle.kcall_core.proofs.Prelude.{le-leb, le-ltb, List, lowest_free, lt-leb, lt-ltb, map, MAXPATH, name_asked, Named, named_file, nat_eq, nat_le, nat_lt, negsuc, no_slashes, None, none_opened}
use Rattle.kcall_core.proofs.Prelude.{not, Nothing, open_at, open_file, open_path, open_same, opened_as, Option, option_and_then, option_map, Own, pipe_of_target, place_of, pos, position_from}
use Rattle.kcall_core.proofs.Prelude.{program_place, ProgramFile, refl, refused, show, Shown, Shown_file, Shown_terminal, Some, State, sym, text_at, The_console, true, View}
use Rattle.kcall_core.specs.declared.kernel.opening.Asked.{Asked}
use Rattle.kcall_core.specs.declared.kernel.opening.Asked.TheVariants.{Terminal, Program}
use Rattle.xk_base.specs.declared.program.Program as file

-- ---- which program

-- a program's place is found among the programs as among their names and files
pub place-among : (name : List ℕ) (k : ℕ) (programs : List file.Program)
    → position_from (λ (p : file.Program). bytes_eq p.name.items name) k programs ≡ position_from (λ (p : ProgramFile). bytes_eq p.name name) k
    (map named_file programs)
place-among name k [] = refl
place-among name k (p ∷ later) = ap (λ o. cond (bytes_eq p.name.items name) (Some k) o) (place-among name (k + 1) later)

abbrev at-place : Option ℕ → Named
at-place None = Nothing
at-place (Some k) = A_program k

either : (b : Bool) (k : ℕ) (o : Option ℕ) (n : Named) → n ≡ at-place o → cond b (A_program k) n ≡ at-place (cond b (Some k) o)
either true k o n e = refl
either false k o n e = e

-- the row finds it so too
place-is : (name : List ℕ) (programs : List ProgramFile) (k : ℕ) → program_place name programs k ≡ at-place (position_from (λ (p : ProgramFile). bytes_eq p.name name) k programs)
place-is name [] k = refl
place-is name (p ∷ later) k = either (bytes_eq p.name name) k (position_from (λ (q : ProgramFile). bytes_eq q.name name) (k + 1) later) (program_place name later (k + 1)) (place-is name later (k + 1))

-- ---- what is asked for

-- what the row opens for it
abbrev pub shown_asked : Asked → Bool × Bool × Shown
shown_asked (Terminal read write) = (read, write, Shown_terminal)
shown_asked (Program place) = (true, false, Shown_file place 0)

-- and the open file shows that
pub asked-shown : (s : State) (a : Asked) → shown_asked a ≡ ((file_asked a).read, (file_asked a).write, show s (file_asked a).target)
asked-shown s (Terminal read write) = refl
asked-shown s (Program place) = refl

-- which is no pipe
pub asked-no-pipe : (a : Asked) → pipe_of_target (file_asked a).target ≡ None
asked-no-pipe (Terminal read write) = refl
asked-no-pipe (Program place) = refl

-- a mode of the terminal, told by what is above it
above-2 : (mode : ℕ) → nat_lt 2 mode ≡ not (nat_le mode 2)
above-2 mode = elim (cases_lt 2 mode) [
  | inl above ↦ lt-ltb 2 mode above ∙ sym (ap not (lt-leb mode 2 above))
  | inr fits ↦ le-ltb 2 mode fits ∙ sym (ap not (le-leb mode 2 fits))
]

terminal-opened : (mode : ℤ) → opened_as The_console mode ≡ option_map shown_asked (asked_in mode Shown_terminal)
terminal-opened (pos mode) = ap (λ (b : Bool). cond {A = Option (Bool × Bool × Shown)} b None (Some (not (nat_eq mode 1), not (nat_eq mode 0), Shown_terminal))) (above-2 mode) ∙ by (nat_le mode 2)
  where
    by : (b : Bool) → cond {A = Option (Bool × Bool × Shown)} (not b) None (Some (not (nat_eq mode 1), not (nat_eq mode 0), Shown_terminal))
        ≡ option_map shown_asked (cond b (Some (Terminal (not (nat_eq mode 1)) (not (nat_eq mode 0)))) None)
    by true = refl
    by false = refl
terminal-opened (negsuc k) = refl

program-opened : (mode : ℤ) (place : ℕ) → opened_as (A_program place) mode ≡ option_map shown_asked (asked_in mode (Shown_file place 0))
program-opened (pos mode) place = by (nat_eq mode 0)
  where
    by : (b : Bool) → cond b (Some (true, false, Shown_file place 0)) None ≡ option_map shown_asked (cond b (Some (Program place)) None)
    by true = refl
    by false = refl
program-opened (negsuc k) place = refl

place-opened : (mode : ℤ) (o : Option ℕ) → opened_as (at-place o) mode ≡ option_map shown_asked (option_and_then (asked_in mode) (option_map (λ place. Shown_file place 0) o))
place-opened mode None = refl
place-opened mode (Some place) = program-opened mode place

-- ---- the row

module _ (c : Call) (v : View) where
  name-opened : (name : List ℕ) → opened_as (kind_named name v) (c_int c.a1) ≡ option_map shown_asked (name_asked v.programs (c_int c.a1) name)
  name-opened name = by (bytes_eq console_name name)
    where
      by : (b : Bool) → opened_as (cond b The_console (program_place name v.programs 0)) (c_int c.a1)
          ≡ option_map shown_asked (option_and_then (asked_in (c_int c.a1)) (cond b (Some Shown_terminal) (option_map (λ place. Shown_file place 0) (place_of name v.programs))))
      by true = terminal-opened (c_int c.a1)
      by false = ap (λ n. opened_as n (c_int c.a1)) (place-is name v.programs 0) ∙ place-opened (c_int c.a1) (place_of name v.programs)

  abbrev opens : Option Asked → Own
  opens a = open_at c v (lowest_free v.descriptors) (option_map shown_asked a)

  by-path : (t : Option (List ℕ)) → open_path c v t ≡ opens (option_and_then (λ path. name_asked v.programs (c_int c.a1) (no_slashes path)) t)
  by-path None = none_opened c v (lowest_free v.descriptors)
  by-path (Some path) = ap (open_at c v (lowest_free v.descriptors)) (name-opened (no_slashes path))

  row : open_file c v ≡ opens (asked v.programs v.image c)
  row = open_same c v ∙ by-path (text_at MAXPATH v.image c.a0)

  pub open-nothing : asked v.programs v.image c ≡ None → open_file c v ≡ refused c v
  open-nothing none = row ∙ ap opens none ∙ sym (none_opened c v (lowest_free v.descriptors))

  module _ (a : Asked) (asks : asked v.programs v.image c ≡ Some a) where
    pub open-full : lowest_free v.descriptors ≡ None → open_file c v ≡ refused c v
    open-full none = row ∙ ap opens asks ∙ ap (λ o. open_at c v o (Some (shown_asked a))) none

    pub open-opens : (s : State) (d : ℕ) → lowest_free v.descriptors ≡ Some d → open_file c v ≡ open_at c v (Some d) (Some ((file_asked a).read, (file_asked a).write, show s (file_asked a).target))
    open-opens s d least = row ∙ ap opens asks ∙ ap (λ o. open_at c v o (Some (shown_asked a))) least ∙ ap (λ w. open_at c v (Some d) (Some w)) (asked-shown s a)
