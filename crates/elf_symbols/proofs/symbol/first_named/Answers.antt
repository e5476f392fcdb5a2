use Rattle.std.proofs.Common.{◌≡◌, true, Some, option_map, sym, ap, ◌∙◌}
use Rattle.xk_base.proofs.Least.{least_below-found, least_below-next, least_below-zero}
use Rattle.elf_symbols.specs.Symbols.{symbol, is_named, is_named_at}
use Rattle.elf_symbols.proofs.symbol.first_named.Goals as goal

pub loop-i-init : goal.loop-i-init
loop-i-init c = least_below-zero (is_named_at c.args.file.now c.args.table.now c.args.strings.now c.args.name.now)

pub returns-then-is_named : goal.returns-then-is_named
returns-then-is_named c =
    let named = is_named c.args.file.now c.args.strings.now c.args.name.now in
    let passes : is_named_at c.args.file.now c.args.table.now c.args.strings.now c.args.name.now c.loop-i.i ≡ true =
    ap named (sym c.symbol_at-symbol.ensures) ∙ sym c.is_named.ensures ∙ c.if-is_named.true in
    ap (λ s. Some s) c.symbol_at-symbol.ensures
    ∙ sym (ap (option_map (symbol c.args.file.now c.args.table.now)) (least_below-found _ _ c.loop-i.i c.loop-i.invariant passes c.loop-i-test.true))

pub loop-i-preserved : goal.loop-i-preserved
loop-i-preserved c =
    let named = is_named c.args.file.now c.args.strings.now c.args.name.now in
    least_below-next _ _ c.loop-i.invariant (ap named (sym c.symbol_at-symbol.ensures) ∙ sym c.is_named.ensures ∙ c.if-is_named.false)
