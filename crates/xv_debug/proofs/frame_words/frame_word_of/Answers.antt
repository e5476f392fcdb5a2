use Rattle.std.proofs.Common.{sym, ◌∙◌}
use Rattle.xv_debug.proofs.FrameLines.{asked-help, asked-info, asked-other, refused-other}
use Rattle.xv_debug.proofs.frame_words.frame_word_of.Goals as goal

pub returns-then-is_info-clause-asked : goal.returns-then-is_info-clause-asked
returns-then-is_info-clause-asked c =
    asked-info _ _ _ _ _ c.trim.ensures.trim c.parted.ensures.word c.parted.ensures.rest c.trim-text.ensures.trim _ (sym c.is_info.ensures ∙ c.if-is_info.true) c.info_of.ensures

pub returns-then-is_help-clause-asked : goal.returns-then-is_help-clause-asked
returns-then-is_help-clause-asked c =
    asked-help _ _ _ _ _ c.trim.ensures.trim c.parted.ensures.word c.parted.ensures.rest c.trim-text.ensures.trim _ (sym c.is_info.ensures ∙ c.if-is_info.false)
    (sym c.is_help.ensures ∙ c.if-is_help.true) c.help_of.ensures

pub returns-in-Ok-clause-asked : goal.returns-in-Ok-clause-asked
returns-in-Ok-clause-asked c =
    asked-other _ _ _ _ _ c.trim.ensures.trim c.parted.ensures.word c.parted.ensures.rest c.trim-text.ensures.trim _ _ _ (sym c.is_info.ensures ∙ c.if-is_info.false)
    (sym c.is_help.ensures ∙ c.if-is_help.false) c.form_of.ensures.word c.form_of.ensures.form c.in-Ok.ensures.asked

pub returns-in-Err-clause-refused : goal.returns-in-Err-clause-refused
returns-in-Err-clause-refused c =
    refused-other _ _ _ _ _ c.trim.ensures.trim c.parted.ensures.word c.parted.ensures.rest c.trim-text.ensures.trim _ _ (sym c.is_info.ensures ∙ c.if-is_info.false)
    (sym c.is_help.ensures ∙ c.if-is_help.false) c.form_of.ensures.word c.form_of.ensures.form c.in-Err.ensures.refused
