use Rattle.uasm_text.proofs.ReadBack.{labelled_is_read, target_is_shown, shown_is_read, shown_is_program}
use Rattle.uasm_text.proofs.laws.text_is_read_back.Goals as goal

pub returns-clause-labelled_is_read : goal.returns-clause-labelled_is_read
returns-clause-labelled_is_read c = labelled_is_read

pub returns-clause-target_is_shown : goal.returns-clause-target_is_shown
returns-clause-target_is_shown c = target_is_shown

pub returns-clause-shown_is_read : goal.returns-clause-shown_is_read
returns-clause-shown_is_read c = shown_is_read

pub returns-clause-shown_is_program : goal.returns-clause-shown_is_program
returns-clause-shown_is_program c = shown_is_program
