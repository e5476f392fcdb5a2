use Rattle.std.proofs.Common.{◌≡◌, true, Some, option_map, eqb, sym, ap, ◌∙◌, eq-eqb, ne_eqb}
use Rattle.xk_base.proofs.Least.{least_below-found, least_below-next, least_below-zero}
use Rattle.elf_symbols.specs.declared.section.Section.{Section}
use Rattle.elf_symbols.specs.Symbols.{section, is_symbol_table}
use Rattle.elf_symbols.proofs.section.symbol_table.Goals as goal

pub loop-k-init : goal.loop-k-init
loop-k-init c = least_below-zero (is_symbol_table c.args.file.now c.args.place)

pub returns-then-found-eq-SYMBOL_TABLE : goal.returns-then-found-eq-SYMBOL_TABLE
returns-then-found-eq-SYMBOL_TABLE c =
    let passes : is_symbol_table c.args.file.now c.args.place c.loop-k.k ≡ true = ap (λ (s : Section). eqb s.kind 2) (sym c.read_section-found.ensures) ∙ eq-eqb _ 2 c.if-found-eq-SYMBOL_TABLE.true in
    ap (λ s. Some s) c.read_section-found.ensures
    ∙ sym (ap (option_map (section c.args.file.now c.args.place)) (least_below-found _ _ c.loop-k.k c.loop-k.invariant passes c.loop-k-test.true))

pub loop-k-preserved : goal.loop-k-preserved
loop-k-preserved c = least_below-next _ _ c.loop-k.invariant (ap (λ (s : Section). eqb s.kind 2) (sym c.read_section-found.ensures) ∙ ne_eqb _ 2 c.if-found-eq-SYMBOL_TABLE.false)
