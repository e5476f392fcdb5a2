-- What is made of what is read, by a function that takes memory of the host.
use Rattle.std.specs.Prelude.{◌≡◌, List, ◌++◌, Result, Ok, Err}
use Rattle.std.specs.Global.{Vec}
use Rattle.dwarf.specs.declared.fault.Fault.{Fault}
use Rattle.dwarf.specs.declared.fault.LineError.{LineError}
use Rattle.dwarf.specs.declared.fault.LineError.TheVariants as errors

-- What a function that takes memory returned is what reading gives, unless the host has too little memory.
abbrev pub Fails : {Y : Type 0} → LineError → Result Y Fault → Type 0
Fails errors.Memory read = Unit {0}
Fails (errors.Damaged f) read = read ≡ Err f

abbrev pub IsMade : {X : Type 0} → Result (Vec X) LineError → Result (List X) Fault → Type 0
IsMade (Ok v) read = read ≡ Ok v.items
IsMade (Err e) read = Fails e read

-- what is read first, before what is read after it
abbrev pub with_front : {X : Type 0} → List X → Result (List X) Fault → Result (List X) Fault
with_front front (Ok xs) = Ok (front ++ xs)
with_front front (Err f) = Err f
