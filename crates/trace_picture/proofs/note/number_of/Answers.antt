use Rattle.std.proofs.Common.{◌^◌}
use Rattle.std.specs.Str.Parse.{without_leading_plus}
use Rattle.trace_picture.proofs.Numerals.{number-is, no-number}
use Rattle.trace_picture.proofs.note.number_of.Goals as goal

pub returns-in-Ok : goal.returns-in-Ok
returns-in-Ok c =
    let parsed = c.in-Ok.ensures.value.0 in
    number-is (2 ^ 32) (without_leading_plus c.args.word.now) c.in-Ok.number parsed.0.0 parsed.0.1 parsed.1

pub returns-in-Err : goal.returns-in-Err
returns-in-Err c = no-number (2 ^ 32) (without_leading_plus c.args.word.now) c.in-Err.ensures.value.0
