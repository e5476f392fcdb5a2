use Rattle.std.proofs.Common.{◌≡◌, ◌<◌, ◌/◌, [], ◌∷◌, arith, length}
use Rattle.std.proofs.lemmas.List.{get_or_read}
use Rattle.gdb_target.proofs.Turning.{round-length, unkeyed-goes, keyed-goes}
use Rattle.gdb_target.proofs.rounds.Rounds.at.Goals as goal

pub nonzero_div-round : goal.nonzero_div-round
nonzero_div-round c =
    let some = round-length c.args.self.now.quantum (0 ∷ []) in
    omega (arith, some, c.round_len-long.ensures)

pub returns-then-round-keys-clause-equal : goal.returns-then-round-keys-clause-equal
returns-then-round-keys-clause-equal c = λ k h.
    let s = c.args.self.now in
    let n : c.len-keys.result ≡ length s.keys.items = omega (arith, s.keys.ok.0) in
    let some = round-length s.quantum (0 ∷ []) in
    unkeyed-goes s.keys.items s.quantum c.args.place k _ c.len-keys.result _ _ n c.round_len-long.ensures c.round_len-short.ensures (omega (arith, some, c.round_len-long.ensures)) c.if-round-keys.true
    (omega (arith, c.next_in.ensures.inside, c.round_len-short.ensures, h)) (c.next_in.ensures.equal k h)

pub returns-clause-equal : goal.returns-clause-equal
returns-clause-equal c = λ k h.
    let s = c.args.self.now in
    let n : c.len-keys.result ≡ length s.keys.items = omega (arith, s.keys.ok.0) in
    let inside : c.args.place / c.round_len-long.result < length s.keys.items = omega (arith, n, c.if-round-keys.false) in
    keyed-goes s.keys.items s.quantum c.args.place k _ c.len-keys.result _ _ c.index-key.result.now n c.round_len-long.ensures c.round_len-short.ensures c.if-round-keys.false
    (omega (arith, c.next_in-2.ensures.inside, c.round_len-long.ensures, h)) (get_or_read s.keys.items _ _ inside c.index-key.ensures 0) (c.next_in-2.ensures.equal k h)
