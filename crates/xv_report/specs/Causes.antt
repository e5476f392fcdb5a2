-- The causes of faults, in words.
use Rattle.std.specs.Prelude.{ℕ, List, codes}
use Rattle.xk_base.specs.declared.access.Cause.{Cause}
use Rattle.xk_base.specs.declared.access.Cause.TheVariants.{TargetMisaligned, IllegalInstruction, Breakpoint, LoadMisaligned, StoreMisaligned, FetchPageFault, LoadPageFault, StorePageFault}

-- why an instruction can't be done
abbrev pub cause_text : Cause → List ℕ
cause_text TargetMisaligned = codes "a jump to an address that is no multiple of 4"
cause_text IllegalInstruction = codes "a word that is no instruction"
cause_text Breakpoint = codes "ebreak"
cause_text LoadMisaligned = codes "a load at an address that is no multiple of its size"
cause_text StoreMisaligned = codes "a store at an address that is no multiple of its size"
cause_text FetchPageFault = codes "an instruction where nothing may be executed"
cause_text LoadPageFault = codes "a load where nothing may be read"
cause_text StorePageFault = codes "a store where nothing may be written"
