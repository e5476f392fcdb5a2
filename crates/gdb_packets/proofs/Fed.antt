-- Bytes that are read one after another.
use Rattle.std.proofs.Common.{◌≡◌, ◌∙◌, ℕ, List, [], ◌∷◌, ◌++◌, refl, ap, Option, Some, None}
use Rattle.gdb_packets.specs.Packets.{Reading, fed, fed_all, piece, pieces, added}
use Rattle.gdb_packets.specs.declared.reader.Piece.{Piece}

pub fed_all-append : (xs ys : List ℕ) (r : Reading) → fed_all (xs ++ ys) r ≡ fed_all ys (fed_all xs r)
fed_all-append [] ys r = refl
fed_all-append (b ∷ xs) ys r = fed_all-append xs ys (fed b r)

added-append : (p : Option Piece) (us vs : List Piece) → added p (us ++ vs) ≡ added p us ++ vs
added-append None us vs = refl
added-append (Some p) us vs = refl

pub pieces-append : (xs ys : List ℕ) (r : Reading) → pieces (xs ++ ys) r ≡ pieces xs r ++ pieces ys (fed_all xs r)
pieces-append [] ys r = refl
pieces-append (b ∷ xs) ys r =
    ap (added (piece b r)) (pieces-append xs ys (fed b r)) ∙ added-append (piece b r) (pieces xs (fed b r)) (pieces ys (fed_all xs (fed b r)))
