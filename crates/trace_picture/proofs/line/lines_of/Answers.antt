use Rattle.std.proofs.Common.{rules, ◌≡◌, List, ℕ, Bor, map, sym, subst}
use Rattle.std.proofs.lemmas.List.{map-append}
use Rattle.std.proofs.lemmas.Iterator.Consumers.{YieldsList-end}
use Rattle.std.proofs.lemmas.Iterator.Splits.{YieldsList-from_lines}
use Rattle.std.specs.Str.Iter.{lines_rest}
use Rattle.trace_picture.specs.Remarks.{IsToldBy}
use Rattle.trace_picture.proofs.Told.{none_told, more_told}
use Rattle.trace_picture.proofs.line.lines_of.Goals as goal

pub loop-line-init : goal.loop-line-init
loop-line-init c = none_told _ c.new-told.ensures.notes c.new-told.ensures.names c.new-told.ensures.waits

pub loop-line-preserved : goal.loop-line-preserved
loop-line-preserved c =
    subst (λ (texts : List (List ℕ)). IsToldBy texts c.add.new.self) (sym (map-append (λ (line : Bor (List ℕ)). line.now) c.loop-line.yielded _))
    (more_told _ _ _ _ _ c.loop-line.invariant (search rules) c.in_ok-add.ensures.events c.in_ok-add.ensures.names c.in_ok-add.ensures.waits)

pub returns : goal.returns
returns c =
    let rest : lines_rest c.into_iter-line-iterator.result ≡ c.args.text.now = search rules in
    let t = YieldsList-end (YieldsList-from_lines {s = c.into_iter-line-iterator.result} c.args.text.now rest) c.loop-line.yielded _ c.loop-line.yielded_by _ _ c.in-None.is c.next.ensures.steps in
    subst (λ (texts : List (List ℕ)). IsToldBy texts c.loop-line.told) t.0 c.loop-line.invariant
