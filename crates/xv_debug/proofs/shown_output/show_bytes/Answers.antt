use Rattle.std.proofs.Common.{◌≡◌, ◌≤◌, ◌<◌, ◌∙◌, ◌++◌, Some, true, sym, ap, length, slice_get, string_bytes, arith}
use Rattle.std.specs.Option.{option_copied}
use Rattle.xv_debug.specs.OutputText.{behind_bars}
use Rattle.xv_debug.proofs.ToldOutput.{byte-there, line-ended, line-ends, one-byte-more}
use Rattle.xv_debug.proofs.shown_output.show_bytes.Goals as goal

pub unreachable-requires : goal.unreachable-requires
unreachable-requires c =
    let xs = c.args.bytes.now.items in
    let within : c.loop-place.place < length xs = omega (arith, c.loop-place-test.true, c.len-place-end.ensures) in
    absurd (byte-there xs c.loop-place.place within (sym c.get.ensures ∙ ap option_copied c.in_default.is))

pub loop-place-preserved : goal.loop-place-preserved
loop-place-preserved c =
    let xs = c.args.bytes.now.items in
    let byte = c.in-Some.byte.now in
    let there : slice_get xs c.loop-place.place ≡ Some byte = sym c.get.ensures ∙ ap option_copied c.in-Some.is in
    one-byte-more xs c.loop-place.place byte c.loop-place.begins (string_bytes c.args.answer.now ++ behind_bars true xs) (string_bytes c.loop-place.answer) (string_bytes c.show_byte.new.answer)
    there c.loop-place.invariant c.in_ok-show_byte.ensures

pub returns-then-begins : goal.returns-then-begins
returns-then-begins c =
    let xs = c.args.bytes.now.items in
    let past : length xs ≤ c.loop-place.place = omega (arith, c.loop-place-test.false, c.len-place-end.ensures) in
    line-ended xs c.loop-place.place c.loop-place.begins (string_bytes c.args.answer.now ++ behind_bars true xs) (string_bytes c.loop-place.answer) past c.if-begins.true c.loop-place.invariant

pub returns-else-begins : goal.returns-else-begins
returns-else-begins c =
    let xs = c.args.bytes.now.items in
    let past : length xs ≤ c.loop-place.place = omega (arith, c.loop-place-test.false, c.len-place-end.ensures) in
    line-ends c.writeln.result xs c.loop-place.place c.loop-place.begins (string_bytes c.args.answer.now ++ behind_bars true xs) (string_bytes c.loop-place.answer) _ past c.if-begins.false c.loop-place.invariant
    c.writeln.ensures.bytes
