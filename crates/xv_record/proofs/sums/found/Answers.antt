use Rattle.std.proofs.Common.{◌≡◌, ◌∙◌, ap, option_copied, rules, sym}
use Rattle.std.specs.String.{string_bytes}
use Rattle.xv_record.specs.Chosen.{HasBytes, named}
use Rattle.xv_record.specs.Told.{program_told_of, told_program}
use Rattle.xv_record.proofs.sums.found.Goals as goal

pub returns-then-not-is_recorded-clause-reason : goal.returns-then-not-is_recorded-clause-reason
returns-then-not-is_recorded-clause-reason c =
    let programs = c.args.programs.now in (
      c.as_str-then-not-is_recorded.ensures.value,
      record {
        found = c.in-Some.program.now;
        named = ap (named programs) (sym c.as_str.ensures.value) ∙ sym c.named.ensures.first ∙ ap option_copied c.in-Some.is;
        other = c.is_recorded.ensures.other (search rules);
      },
    )

pub returns-clause-same : goal.returns-clause-same
returns-clause-same c =
    let same : HasBytes c.in-Some.program.now (told_program c.args.wanted.now) = c.is_recorded.ensures.same (search rules) in
    let name : c.in-Some.program.now.name.items ≡ string_bytes c.args.wanted.now.name = c.in-Some.ensures.same ∙ c.as_str.ensures.value in
    c.in-Ok.ensures ∙ (λ i. program_told_of (same.sum i) (same.size i) (name i))

pub returns-clause-there : goal.returns-clause-there
returns-clause-there c =
    let programs = c.args.programs.now in
    record {
      found = c.in-Some.program.now;
      named = ap (named programs) (sym c.as_str.ensures.value) ∙ sym c.named.ensures.first ∙ ap option_copied c.in-Some.is;
      same = c.is_recorded.ensures.same (search rules);
    }
