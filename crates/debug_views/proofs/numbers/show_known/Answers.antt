use Rattle.std.proofs.Common.{◌≡◌, ◌∙◌, ◌++◌, codes, min, string_bytes}
use Rattle.debug_views.specs.NumberText.{first_numbers, numbers_head}
use Rattle.debug_views.specs.Focus.{name_in}
use Rattle.debug_views.proofs.Texts.{shown_behind}
use Rattle.debug_views.proofs.numbers.show_known.Goals as goal

pub returns : goal.returns
returns c =
    let s = c.args.session.now in
    let p = c.args.pid in
    let head = numbers_head c.args.size p c.args.count (name_in s p) in
    let first = first_numbers c.args.size s.machine.world.state p c.args.address (min c.args.count 256) in
    let old = string_bytes c.args.answer.now in
    let mid = string_bytes c.show_head.new.answer in
    let next = string_bytes c.show_first.new.answer in
    let new = string_bytes c.writeln.new.self in
    let second : next ≡ mid ++ first =
    c.in_ok-show_first.ensures ∙ (λ i. mid ++ first_numbers c.args.size (c.machine.ensures.machine i).world.state p c.args.address (c.min.ensures i)) in
    shown_behind c.writeln.result old mid new head (first ++ codes "\n") c.in_ok-show_head.ensures
    (shown_behind c.writeln.result mid next new first (codes "\n") second c.writeln.ensures.bytes)
