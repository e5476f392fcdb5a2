use Rattle.std.proofs.Common.{codes, ◌++◌, option_map, string_bytes}
use Rattle.xv_machine.specs.Events.{outcome_of}
use Rattle.debug_words.specs.Texts.{many}
use Rattle.debug_views.proofs.Texts.{two_behind, shown_behind}
use Rattle.xv_debug.specs.StopText.{last_text, stop_text}
use Rattle.xv_debug.proofs.stops.show_sent.Goals as goal

pub returns : goal.returns
returns c =
    let j = c.args.journey.now in
    let old = string_bytes c.args.answer.now in
    let mid = string_bytes c.write.new.self in
    let next = string_bytes c.show_last.new.answer in
    let new = string_bytes c.show_stop.new.answer in
    let sent = many j.sent (codes "event") in
    let last = last_text (option_map outcome_of j.last) in
    shown_behind c.show_stop.result old next new (sent ++ last) (stop_text c.args.word.now j.stop) (two_behind old mid next sent last c.in_ok-write.ensures.bytes c.in_ok-show_last.ensures) c.show_stop.ensures
