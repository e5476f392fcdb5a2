-- Worked cases of hints.
use Rattle.std.proofs.Common.{◌≡◌, true, false, None, Some, refl}
use Rattle.xk_base.specs.declared.access.Rights.{Rights}
use Rattle.xk_base.specs.declared.access.Cause.TheVariants.{LoadMisaligned, FetchPageFault, LoadPageFault, StorePageFault}
use Rattle.xv_report.specs.Hints.{hint_by, hint_if}
use Rattle.xv_report.specs.declared.hints.Hint.TheVariants.{FullStack, PastTheEnd, NullPointer}

abbrev text : Rights
text = record { read = true; write = false; execute = true; user = true }

abbrev guard : Rights
guard = record { read = true; write = true; execute = false; user = false }

-- the first and the last address of the first page, and the one after it
null : hint_by (Some text) (Some text) 12224 0 ≡ Some (NullPointer true)
null = refl

null_element : hint_by (Some text) (Some text) 12224 4095 ≡ Some (NullPointer true)
null_element = refl

no_null : hint_by (Some text) (Some text) 12224 4096 ≡ None
no_null = refl

-- a program whose text begins on a later page
unmapped_null : hint_by None None 12224 8 ≡ Some (NullPointer false)
unmapped_null = refl

-- the page of the kernel alone isn't readable
closed_null : hint_by (Some guard) (Some guard) 12224 8 ≡ Some (NullPointer false)
closed_null = refl

-- a store by sp, and one right above it
deep : hint_by (Some text) (Some guard) 7920 8184 ≡ Some FullStack
deep = refl

at_sp : hint_by (Some text) (Some guard) 8184 8184 ≡ Some FullStack
at_sp = refl

-- the first address after a program of one page, with sp in the stack
passed : hint_by (Some text) (Some guard) 12224 4096 ≡ Some PastTheEnd
passed = refl

below_sp : hint_by (Some text) (Some guard) 8185 8184 ≡ Some PastTheEnd
below_sp = refl

-- a program whose text lies right below its stack: a stack that has come there, and a store by another pointer
deep_in_text : hint_by (Some text) (Some text) 8176 8184 ≡ Some FullStack
deep_in_text = refl

in_text : hint_by (Some text) (Some text) 12224 8184 ≡ None
in_text = refl

deep_in_the_first_page : hint_by (Some text) (Some text) 64 64 ≡ Some FullStack
deep_in_the_first_page = refl

nowhere : hint_by (Some text) None 7920 8184 ≡ None
nowhere = refl

-- the causes that a hint is for
at_a_load : hint_if LoadPageFault (Some FullStack) ≡ Some FullStack
at_a_load = refl

at_a_store : hint_if StorePageFault (Some FullStack) ≡ Some FullStack
at_a_store = refl

at_a_fetch : hint_if FetchPageFault (Some FullStack) ≡ None
at_a_fetch = refl

misaligned : hint_if LoadMisaligned (Some FullStack) ≡ None
misaligned = refl
