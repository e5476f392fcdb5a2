-- The row of exec, by the program that is asked for.
use Rattle.kcall_core.proofs.Prelude.{ℕ, ◌∙◌, ◌≡◌, ARG_BYTES, Call, done, Err, exec, exec_loaded, exec_path, exec_program, exec_same, ExecError, List, Loaded, loaded, MAXARG, MAXPATH, nat_lt}
use Rattle.kcall_core.proofs.Prelude.{no_slashes, None, Ok, Option, Own, pos, price, program_named, ProgramFile, refl, refused, Result, running, Some, text_at, texts_at, unless, View}
use Rattle.kcall_core.proofs.processes.Asking.{asked, asked_path, asked_program, if_loaded}

abbrev pub exec_asked : Call → View → Option Loaded → Own
exec_asked c v None = refused c v
exec_asked c v (Some l) = unless (nat_lt v.free (price l.image)) c v (λ _. done c (pos l.argc) (running l v))

module _ (c : Call) (v : View) where
  by-loaded : (r : Result Loaded ExecError) → exec_loaded c v r ≡ exec_asked c v (if_loaded r)
  by-loaded (Err e) = refl
  by-loaded (Ok l) = refl

  by-program : (texts : Option (List (List ℕ))) (program : Option ProgramFile) → exec_program c v texts program ≡ exec_asked c v (asked_program texts program)
  by-program None program = refl
  by-program (Some texts) None = refl
  by-program (Some texts) (Some program) = by-loaded (loaded program.bytes texts)

  by-path : (path : Option (List ℕ)) → exec_path c v path ≡ exec_asked c v (asked_path v.programs (texts_at MAXARG ARG_BYTES v.image c.a1) path)
  by-path None = refl
  by-path (Some path) = by-program (texts_at MAXARG ARG_BYTES v.image c.a1) (program_named (no_slashes path) v.programs)

  -- the row says what `asked` does
  pub exec-is : exec c v ≡ exec_asked c v (asked v.programs v.image c.a0 c.a1)
  exec-is = exec_same c v ∙ by-path (text_at MAXPATH v.image c.a0)
