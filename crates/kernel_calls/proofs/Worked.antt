-- Worked cases of the table: which call a number or a name is of, and what its arguments are.
use Rattle.std.proofs.Common.{◌≡◌, [], ◌∷◌, codes, map, Some, None, refl}
use Rattle.std.specs.Prelude.{pos, negsuc}
use Rattle.kernel_calls.specs.declared.argument.ArgumentKind.TheVariants as kinds
use Rattle.kernel_calls.specs.declared.call.KernelCall.TheVariants.{Fork, Pipe, Read, Exec, Dup, Write, Close, Sbrklazy}
use Rattle.kernel_calls.specs.Arguments.{kind_of, argument_name}
use Rattle.kernel_calls.specs.Table.{entry_of, call_at, call_named}

-- ---- numbers

first_number : call_at (pos 1) ≡ Some Fork
unfolding call_at
first_number = refl

-- 8 and 9 are calls of xv6, and none here
behind_exec : call_at (pos 7) ≡ Some Exec
unfolding call_at
behind_exec = refl

none_at_8 : call_at (pos 8) ≡ None
unfolding call_at
none_at_8 = refl

none_at_9 : call_at (pos 9) ≡ None
unfolding call_at
none_at_9 = refl

before_getpid : call_at (pos 10) ≡ Some Dup
unfolding call_at
before_getpid = refl

-- nor are 17 to 20
write_before_them : call_at (pos 16) ≡ Some Write
unfolding call_at
write_before_them = refl

none_at_17 : call_at (pos 17) ≡ None
unfolding call_at
none_at_17 = refl

none_at_20 : call_at (pos 20) ≡ None
unfolding call_at
none_at_20 = refl

close_after_them : call_at (pos 21) ≡ Some Close
unfolding call_at
close_after_them = refl

last_number : call_at (pos 22) ≡ Some Sbrklazy
unfolding call_at
last_number = refl

none_at_23 : call_at (pos 23) ≡ None
unfolding call_at
none_at_23 = refl

none_at_0 : call_at (pos 0) ≡ None
unfolding call_at
none_at_0 = refl

none_below_0 : call_at (negsuc 0) ≡ None
unfolding call_at
none_below_0 = refl

-- ---- names

by_its_name : call_named (codes "read") ≡ Some Read
unfolding call_named
by_its_name = refl

-- small letters
other_letters : call_named (codes "Read") ≡ None
unfolding call_named
other_letters = refl

-- the whole of it
part_of_a_name : call_named (codes "sbrklaz") ≡ None
unfolding call_named
part_of_a_name = refl

no_name : call_named [] ≡ None
unfolding call_named
no_name = refl

-- ---- arguments

-- read(fd, buf, n)
names_of_read : map argument_name (entry_of Read).arguments ≡ codes "fd" ∷ codes "buf" ∷ codes "n" ∷ []
names_of_read = refl

kinds_of_read : map kind_of (entry_of Read).arguments ≡ kinds.Descriptor ∷ kinds.Buffer ∷ kinds.Int ∷ []
kinds_of_read = refl

-- write(fd, buf, n)
kinds_of_write : map kind_of (entry_of Write).arguments ≡ kinds.Descriptor ∷ kinds.Buffer ∷ kinds.Int ∷ []
kinds_of_write = refl

-- exec(file, argv)
names_of_exec : map argument_name (entry_of Exec).arguments ≡ codes "file" ∷ codes "argv" ∷ []
names_of_exec = refl

kinds_of_exec : map kind_of (entry_of Exec).arguments ≡ kinds.Text ∷ kinds.Texts ∷ []
kinds_of_exec = refl

-- pipe(p)
kind_of_pipe : map kind_of (entry_of Pipe).arguments ≡ kinds.TwoDescriptors ∷ []
kind_of_pipe = refl

-- fork()
none_of_fork : (entry_of Fork).arguments ≡ []
none_of_fork = refl
