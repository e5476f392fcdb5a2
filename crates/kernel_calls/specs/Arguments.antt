-- The arguments of kernel calls: what is passed, and what it is called in xv6's prototypes.
use Rattle.std.specs.Prelude.{ℕ, List, codes}
use Rattle.kernel_calls.specs.declared.argument.Argument.{Argument}
use Rattle.kernel_calls.specs.declared.argument.Argument.TheVariants.{ExitStatus, ChildStatus, Ends, Descriptor, Buffer, Count, Pid, File, Words, Flags}
use Rattle.kernel_calls.specs.declared.argument.ArgumentKind.{ArgumentKind}
use Rattle.kernel_calls.specs.declared.argument.ArgumentKind.TheVariants as kinds

abbrev pub kind_of : Argument → ArgumentKind
kind_of ExitStatus = kinds.Int
kind_of ChildStatus = kinds.Status
kind_of Ends = kinds.TwoDescriptors
kind_of Descriptor = kinds.Descriptor
kind_of Buffer = kinds.Buffer
kind_of Count = kinds.Int
kind_of Pid = kinds.Int
kind_of File = kinds.Text
kind_of Words = kinds.Texts
kind_of Flags = kinds.Int

abbrev pub argument_name : Argument → List ℕ
argument_name ExitStatus = codes "status"
argument_name ChildStatus = codes "status"
argument_name Ends = codes "p"
argument_name Descriptor = codes "fd"
argument_name Buffer = codes "buf"
argument_name Count = codes "n"
argument_name Pid = codes "pid"
argument_name File = codes "file"
argument_name Words = codes "argv"
argument_name Flags = codes "flags"
