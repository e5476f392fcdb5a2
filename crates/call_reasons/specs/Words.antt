-- Reasons in words.
use Rattle.std.specs.Prelude.{ℕ, ◌==◌, if◌then◌else◌, List, [], ◌∷◌, ◌++◌, codes, decimal}
use Rattle.std.specs.List.{concat}
use Rattle.std.specs.Fmt.{signed_decimal}
use Rattle.debug_words.specs.Texts.{hexadecimal}
use Rattle.call_reasons.specs.declared.reason.Reason.{Reason}
use Rattle.call_reasons.specs.declared.reason.Reason.TheVariants.{NoCall, NotOpen, NotForReading, NotForWriting, BelowZero, NotReadable, NotWritable, NoReader, NoChild, NoProcess, NoDescriptor}
use Rattle.call_reasons.specs.declared.reason.Reason.TheVariants.{BadSize, NoFrames, NoRoom, NoPath, NoList, NotNamed, NoProgram, NotInMode, NotElf, BadHeader, LongWords}

-- so many bytes from an address on
abbrev pub bytes_words : (address count : ℕ) → List ℕ
bytes_words address count =
    if count == 1 then codes "the byte at " ++ hexadecimal address else concat (codes "all " ∷ decimal count ∷ codes " bytes from " ∷ hexadecimal address ∷ codes " on" ∷ [])

abbrev pub reason_words : Reason → List ℕ
reason_words NoCall = codes "no call has this number"
reason_words (NotOpen descriptor) = codes "descriptor " ++ signed_decimal descriptor ++ codes " isn't open"
reason_words (NotForReading descriptor) = codes "descriptor " ++ signed_decimal descriptor ++ codes " isn't open for reading"
reason_words (NotForWriting descriptor) = codes "descriptor " ++ signed_decimal descriptor ++ codes " isn't open for writing"
reason_words (BelowZero number) = signed_decimal number ++ codes " is below 0"
reason_words (NotReadable address count) = codes "it may not read " ++ bytes_words address count
reason_words (NotWritable address count) = codes "it may not write " ++ bytes_words address count
reason_words NoReader = codes "nobody can read from the pipe"
reason_words NoChild = codes "it has no child"
reason_words (NoProcess pid) = codes "no process has the pid " ++ signed_decimal pid
reason_words (NoDescriptor free) = codes "too few descriptors are free: " ++ decimal free
reason_words BadSize = codes "its memory can't have such a size"
reason_words (NoFrames free) = codes "too few frames are free: " ++ decimal free
reason_words (NoRoom free) = codes "no slot or pid is left for a child, or too few frames are free: " ++ decimal free
reason_words (NoPath address) = codes "no path of at most 127 bytes can be read at " ++ hexadecimal address
reason_words (NoList address) = codes "no list of at most 31 words can be read at " ++ hexadecimal address
reason_words NotNamed = codes "nothing has this name"
reason_words NoProgram = codes "no program has this name"
reason_words (NotInMode mode) = codes "it can't be opened in mode " ++ signed_decimal mode
reason_words NotElf = codes "its file isn't an ELF program"
reason_words (BadHeader number) = codes "program header " ++ decimal number ++ codes " of its file can't be loaded"
reason_words LongWords = codes "its words don't fit on the stack page"
