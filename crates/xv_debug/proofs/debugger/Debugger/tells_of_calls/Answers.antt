use Rattle.std.proofs.Common.{Option, refl, subst}
use Rattle.xv_debug.specs.CallWords.{obeyed, refused, other}
use Rattle.xv_debug.specs.FrameWords.{IsAsked}
use Rattle.xv_debug.specs.declared.frame_words.FrameWord.{FrameWord}
use Rattle.xv_debug.proofs.debugger.Debugger.tells_of_calls.Goals as goal

pub returns-in_ok-obey_frame_word-in-Ok-Some-clause-told : goal.returns-in_ok-obey_frame_word-in-Ok-Some-clause-told
returns-in_ok-obey_frame_word-in-Ok-Some-clause-told c =
    let is = c.in_ok-obey_frame_word-in-Ok-Some.ensures in
    obeyed c.in-Ok-Some.word (subst (λ (word : Option FrameWord). IsAsked c.args.line.now word) c.in-Ok-Some.field-0-is c.in-Ok-Some.ensures.asked)
    (record { chooses = is.chosen; displays = is.displays })

pub returns-in-Ok-None-clause-told : goal.returns-in-Ok-None-clause-told
returns-in-Ok-None-clause-told c =
    other (subst (λ (word : Option FrameWord). IsAsked c.args.line.now word) c.in-Ok-None.field-0-is c.in-Ok-None.ensures.asked) refl refl

pub returns-in_ok-writeln-in-Err-clause-told : goal.returns-in_ok-writeln-in-Err-clause-told
returns-in_ok-writeln-in-Err-clause-told c = refused c.in-Err.ensures.refused refl refl
