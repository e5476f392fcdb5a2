use Rattle.std.proofs.Common.{◌≡◌, true, Some, option_map, sym, ap, ◌∙◌}
use Rattle.xk_base.proofs.Least.{least_below-found, least_below-next, least_below-zero}
use Rattle.elf_symbols.specs.Symbols.{symbol, covers, is_covering}
use Rattle.elf_symbols.proofs.symbol.first_function.Goals as goal

pub loop-i-init : goal.loop-i-init
loop-i-init c = least_below-zero (is_covering c.args.file.now c.args.table.now c.args.address)

pub returns-then-covers : goal.returns-then-covers
returns-then-covers c =
    let passes : is_covering c.args.file.now c.args.table.now c.args.address c.loop-i.i ≡ true =
    ap (covers c.args.address) (sym c.symbol_at-symbol.ensures) ∙ sym c.covers.ensures ∙ c.if-covers.true in
    ap (λ s. Some s) c.symbol_at-symbol.ensures
    ∙ sym (ap (option_map (symbol c.args.file.now c.args.table.now)) (least_below-found _ _ c.loop-i.i c.loop-i.invariant passes c.loop-i-test.true))

pub loop-i-preserved : goal.loop-i-preserved
loop-i-preserved c = least_below-next _ _ c.loop-i.invariant (ap (covers c.args.address) (sym c.symbol_at-symbol.ensures) ∙ sym c.covers.ensures ∙ c.if-covers.false)
