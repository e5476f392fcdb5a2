-- One symbol more of those that are put into a map.
use Rattle.std.proofs.Common.{◌≡◌, ℕ, zero, suc, ◌*◌, ◌≤◌, ◌∙◌, Bool, List, ap, arith}
use Rattle.elf_symbols.specs.declared.symbol.Symbol.{Symbol}
use Rattle.elf_symbols.specs.Symbols.{symbol_at}
use Rattle.line_tables.specs.Names.{Entries}
use Rattle.line_tables.specs.Passes.{put_symbol, put_symbols}

pub one_symbol : (functions : Bool) (symbols : List ℕ) (n : ℕ) (symbol : Symbol) (old new total : Entries) → symbol ≡ symbol_at symbols (24 * n) → new ≡ put_symbol functions symbol old
    → put_symbols functions symbols (suc n) old ≡ total → put_symbols functions symbols n new ≡ total
unfolding put_symbols
one_symbol functions symbols n symbol old new total read put so_far =
    ap (λ (es : Entries). put_symbols functions symbols n es) (put ∙ ap (λ (s : Symbol). put_symbol functions s old) read) ∙ so_far

pub no_symbol_left : (functions : Bool) (symbols : List ℕ) (left : ℕ) (es total : Entries) → left ≤ 0 → put_symbols functions symbols left es ≡ total → es ≡ total
unfolding put_symbols
no_symbol_left functions symbols zero es total le so_far = so_far
no_symbol_left functions symbols (suc n) es total le so_far = absurd (omega arith)
