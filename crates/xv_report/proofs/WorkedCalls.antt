-- Worked cases of calls.
use Rattle.std.proofs.Common.{◌≡◌, true, false, None, Some, refl}
use Rattle.rv64i_core.specs.Table.{decoded, by_opcode, jalr_row}
use Rattle.xv_report.specs.Callers.{is_call_word}

-- jal ra, .+16
jal_to_a_function : is_call_word (Some 0x010000ef) ≡ true
unfolding decoded by_opcode jalr_row
jal_to_a_function = refl

-- jalr ra, 0(t0)
jalr_by_a_pointer : is_call_word (Some 0x000280e7) ≡ true
unfolding decoded by_opcode jalr_row
jalr_by_a_pointer = refl

-- jal x0, 0: a jump
jump : is_call_word (Some 0x0000006f) ≡ false
unfolding decoded by_opcode jalr_row
jump = refl

-- jalr x0, 0(ra): a return
back_to_the_caller : is_call_word (Some 0x00008067) ≡ false
unfolding decoded by_opcode jalr_row
back_to_the_caller = refl

-- jal t0, .+16: the link goes elsewhere
other_link : is_call_word (Some 0x010002ef) ≡ false
unfolding decoded by_opcode jalr_row
other_link = refl

-- lui ra, 0: ra is written, and nothing jumps
no_jump : is_call_word (Some 0x000000b7) ≡ false
unfolding decoded by_opcode jalr_row
no_jump = refl

-- a word that spells no instruction
no_instruction : is_call_word (Some 0) ≡ false
unfolding decoded by_opcode jalr_row
no_instruction = refl

-- bytes that aren't there
no_word : is_call_word None ≡ false
no_word = refl
