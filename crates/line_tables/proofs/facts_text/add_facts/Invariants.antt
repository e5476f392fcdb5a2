use Rattle.std.proofs.Common.{◌≡◌, None, drop}
use Rattle.line_tables.specs.FactsText.{source_name, with_facts}
use Rattle.line_tables.proofs.facts_text.add_facts.Given as goal

abbrev pub invariant-loop-entry : goal.invariant-loop-entry
invariant-loop-entry l =
    let reads = source_name l.sections.lines.now l.sections.line_strings.now l.sections.strings.now in
    with_facts reads l.told (drop l.entry-index l.facts) l.text.items ≡ with_facts reads None l.facts l.initial.text.items
