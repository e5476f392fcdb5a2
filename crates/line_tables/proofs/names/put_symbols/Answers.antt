use Rattle.std.proofs.Common.{◌≡◌, ℕ, ◌-◌, ◌/◌, length, suc, subst, arith}
use Rattle.line_tables.specs.Passes.{put_symbols}
use Rattle.line_tables.proofs.Steps.{one_symbol, no_symbol_left}
use Rattle.line_tables.proofs.names.put_symbols.Goals as goal

pub symbols-preserved : goal.symbols-preserved
symbols-preserved c =
    let f = c.args.are_functions in
    let symbols = c.args.symbols.now in
    let old = c.symbols.map.entries in
    let n = c.symbols.left - 1 in
    let SoFar : ℕ → Type 0 = λ k. put_symbols f symbols k old ≡ put_symbols f symbols (length symbols / 24) c.args.map.now.entries in
    let left : c.symbols.left ≡ suc (c.symbols.left - 1) = omega arith in
    let total = put_symbols f symbols (length symbols / 24) c.args.map.now.entries in
    record {
      within = omega arith;
      so_far = one_symbol f symbols n c.symbol_at-symbol.result old c.put_symbol.new.map.entries total c.symbol_at-symbol.ensures c.in_ok-put_symbol.ensures
          (subst SoFar left c.symbols.invariant.so_far);
    }

pub returns : goal.returns
returns c =
    let f = c.args.are_functions in
    let symbols = c.args.symbols.now in
    no_symbol_left f symbols c.symbols.left c.symbols.map.entries (put_symbols f symbols (length symbols / 24) c.args.map.now.entries) (omega arith) c.symbols.invariant.so_far
