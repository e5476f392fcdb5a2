-- What exec is asked for, and which steps are an exec that succeeded (the xv6 book, "Code: exec").
use Rattle.std.specs.Prelude.{◌≡◌, ℕ, List, Some, Ok, pos}
use Rattle.xk_base.specs.declared.limits.TheConstants.{MAXPATH, MAXARG, ARG_BYTES}
use Rattle.xk_base.specs.Image.{Image}
use Rattle.xk_base.specs.Loaded.{Loaded, loaded}
use Rattle.proc_table.specs.declared.process.Call.{Call}
use Rattle.kernel_spec.specs.rows.Buffers.{text_at, texts_at, no_slashes}
use Rattle.kernel_spec.specs.views.Programs.{program_named}
use Rattle.kernel_spec.specs.views.State.{ProgramFile}
use Rattle.kernel_spec.specs.views.View.{View}
use Rattle.kernel_spec.specs.steps.Own.{Own, Called}
use Rattle.kernel_spec.specs.rows.Calls.{Exec, row_of}
use Rattle.kernel_spec.specs.steps.Step.{call_in}

-- The path at one address names a program that can be loaded with the texts at the other, and l is what comes of it
pub record Asks (programs : List ProgramFile) (image : Image) (path pointers : ℕ) (l : Loaded) : Type 0 where
  pub name : List ℕ
  pub texts : List (List ℕ)
  pub program : ProgramFile
  pub name_is : text_at MAXPATH image path ≡ Some name
  pub texts_is : texts_at MAXARG ARG_BYTES image pointers ≡ Some texts
  pub program_is : program_named (no_slashes name) programs ≡ Some program
  pub loaded_is : loaded program.bytes texts ≡ Ok l

-- ---- an exec that succeeded

-- The call c is exec, and the image is what the program that its path names makes of the texts that it was given
abbrev pub IsExecOf : Call → View → Own → Image → Type 0
IsExecOf c v o image =
    (path : List ℕ) × (texts : List (List ℕ)) × (p : ProgramFile) × (l : Loaded)
    × (row_of c.number ≡ Some Exec) × (text_at MAXPATH v.image c.a0 ≡ Some path)
    × (program_named (no_slashes path) v.programs ≡ Some p) × (texts_at MAXARG ARG_BYTES v.image c.a1 ≡ Some texts)
    × (loaded p.bytes texts ≡ Ok l) × (image ≡ l.image) × (o.answer ≡ Called c.number (pos l.argc))

-- the call that the step is on, one in progress or one that an ECALL begins, is such an exec
abbrev pub HasExeced : View → Own → Image → Type 0
HasExeced v o image = IsExecOf (call_in v) v o image

-- the call c was an exec that succeeded
abbrev pub IsExecDone : Call → Own → Type 0
IsExecDone c o = (k : ℕ) × (row_of c.number ≡ Some Exec) × (o.answer ≡ Called c.number (pos k))
