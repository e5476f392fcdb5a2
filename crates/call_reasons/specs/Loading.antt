-- Why a program can't be loaded (ELF-64 Object File Format; the xv6 book, "Code: exec").
use Rattle.std.specs.Prelude.{ℕ, Bool, true, false, List, Option, None, Some, Result, Ok, Err}
use Rattle.xk_base.specs.Loaded.{loaded}
use Rattle.xk_base.specs.declared.errors.ExecError.{ExecError}
use Rattle.xk_base.specs.declared.errors.ExecError.TheVariants as errors

-- the error of a result, if it is one
abbrev pub error_of : {A : Type 0} → Result A ExecError → Option ExecError
error_of (Ok a) = None
error_of (Err e) = Some e

-- why a file can't be loaded with these texts, if it can't be; nothing if one of both isn't there
unfoldable pub load_error : (file : Option (List ℕ)) → (texts : Option (List (List ℕ))) → Option ExecError
load_error None texts = None
load_error (Some file) None = None
load_error (Some file) (Some texts) = error_of (loaded file texts)

-- ---- which error it is

-- the file isn't one of ELF
abbrev pub is_not_elf : Option ExecError → Bool
is_not_elf (Some errors.NotElf) = true
is_not_elf _ = false

-- a program header can't be loaded
abbrev pub is_bad_header : Option ExecError → Bool
is_bad_header (Some (errors.BadSegment number)) = true
is_bad_header _ = false

-- the number of that program header, and 0 if it is another error
abbrev pub bad_header : Option ExecError → ℕ
bad_header (Some (errors.BadSegment number)) = number
bad_header _ = 0

-- the texts don't fit on the stack page
abbrev pub is_too_long : Option ExecError → Bool
is_too_long (Some errors.ArgsTooLong) = true
is_too_long _ = false
