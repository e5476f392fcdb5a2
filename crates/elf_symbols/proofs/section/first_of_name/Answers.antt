use Rattle.std.proofs.Common.{◌≡◌, true, Some, option_map, sym, ap, ◌∙◌}
use Rattle.xk_base.proofs.Least.{least_below-found, least_below-next, least_below-zero}
use Rattle.elf_symbols.specs.Symbols.{section}
use Rattle.elf_symbols.specs.Sections.{is_of_name}
use Rattle.elf_symbols.proofs.section.first_of_name.Goals as goal

pub loop-k-init : goal.loop-k-init
loop-k-init c = least_below-zero (is_of_name c.args.file.now c.args.place c.args.names.now c.args.name.now)

pub returns-then-is_of_name : goal.returns-then-is_of_name
returns-then-is_of_name c =
    let passes : is_of_name c.args.file.now c.args.place c.args.names.now c.args.name.now c.loop-k.k ≡ true = sym c.is_of_name.ensures ∙ c.if-is_of_name.true in
    ap (λ s. Some s) c.read_section.ensures
    ∙ sym (ap (option_map (section c.args.file.now c.args.place)) (least_below-found _ _ c.loop-k.k c.loop-k.invariant passes c.loop-k-test.true))

pub loop-k-preserved : goal.loop-k-preserved
loop-k-preserved c = least_below-next _ _ c.loop-k.invariant (sym c.is_of_name.ensures ∙ c.if-is_of_name.false)
