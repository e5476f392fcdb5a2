-- What the rights of a page are, and the number of each cause.
use Rattle.std.specs.Prelude.{ℕ, Bool, true, false, IsTrue, ◌||◌, ◌&&◌, not}
use Rattle.xk_base.specs.declared.access.Rights.{Rights}
use Rattle.xk_base.specs.declared.access.Access.{Access}
use Rattle.xk_base.specs.declared.access.Access.TheVariants.{Fetch, Load, Store}
use Rattle.xk_base.specs.declared.access.Cause.{Cause}
use Rattle.xk_base.specs.declared.access.Cause.TheVariants.{TargetMisaligned, IllegalInstruction, Breakpoint, LoadMisaligned, StoreMisaligned, FetchPageFault, LoadPageFault, StorePageFault}

-- R or X is given, and W only with R
abbrev pub is_perm : Rights → Bool
is_perm r = (r.read || r.execute) && (not r.write || r.read)

abbrev pub IsPerm : Rights → Type 0
IsPerm r = IsTrue (is_perm r)

-- what user code may do with its data, and with its stack: read and write
abbrev pub data_rights : Rights
data_rights = record { read = true; write = true; execute = false; user = true }

-- the right that an access needs is given
abbrev pub right_for : Access → Rights → Bool
right_for Fetch r = r.execute
right_for Load r = r.read
right_for Store r = r.write

-- the numbers of the `scause` register
abbrev pub code_of : Cause → ℕ
code_of TargetMisaligned = 0
code_of IllegalInstruction = 2
code_of Breakpoint = 3
code_of LoadMisaligned = 4
code_of StoreMisaligned = 6
code_of FetchPageFault = 12
code_of LoadPageFault = 13
code_of StorePageFault = 15
