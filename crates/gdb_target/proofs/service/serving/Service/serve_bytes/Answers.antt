use Rattle.std.proofs.Common.{◌∙◌, get_or, sym}
use Rattle.gdb_packets.specs.Reading.{reading}
use Rattle.gdb_target.proofs.Serving.{fed-next, fed-none, fed-some, serves-last, serves-next}
use Rattle.gdb_target.proofs.service.serving.Service.serve_bytes.Goals as goal

-- nothing comes to its end
pub loop-byte-preserved-in_default : goal.loop-byte-preserved-in_default
loop-byte-preserved-in_default g c =
    let so_far = c.loop-byte.invariant in
    let bytes = c.args.bytes.now in
    let n = c.loop-byte.byte-index in
    let start = reading c.args.reader.now in
    let r = reading c.loop-byte.reader in
    let h = g.W.Write.contents c.loop-byte.output in (
      serves-next bytes n c.loop-byte-test.true start r so_far.1 c.args.self.now c.loop-byte.self c.loop-byte.self (g.W.Write.contents c.args.output.now) h h so_far.0
          (fed-none (get_or bytes n 0) r c.loop-byte.self h (sym c.in_ok-piece.ensures.tells ∙ c.in_default.is)),
      fed-next bytes n c.loop-byte-test.true start r so_far.1 (reading c.feed.new.self) c.in_ok-piece.ensures.goes,
    )

-- what came to its end is done, and it goes on
pub loop-byte-preserved : goal.loop-byte-preserved
loop-byte-preserved g c =
    let so_far = c.loop-byte.invariant in
    let bytes = c.args.bytes.now in
    let n = c.loop-byte.byte-index in
    let start = reading c.args.reader.now in
    let r = reading c.loop-byte.reader in
    let now = reading c.feed.new.self in
    let i = g.W.Write.contents c.loop-byte.output in
    let k = g.W.Write.contents c.take.new.output in (
      serves-next bytes n c.loop-byte-test.true start r so_far.1 c.args.self.now c.loop-byte.self c.take.new.self (g.W.Write.contents c.args.output.now) i k so_far.0
          (fed-some (get_or bytes n 0) r now c.in-Some.piece c.payload.result.now c.loop-byte.self c.take.new.self i k _ (sym c.in_ok-piece.ensures.tells ∙ c.in-Some.is) c.payload.ensures
          c.in_ok-piece.ensures.goes (record {
            takes = c.in_ok-take.ensures.takes;
            kept = c.in_ok-take.ensures.kept;
            acks = c.in_ok-take.ensures.acks;
            next = sym c.in-GoesOn.is ∙ c.in_ok-take.ensures.next;
          })),
      fed-next bytes n c.loop-byte-test.true start r so_far.1 now c.in_ok-piece.ensures.goes,
    )

-- it ends
pub returns-in-Ends-clause-serves : goal.returns-in-Ends-clause-serves
returns-in-Ends-clause-serves g c =
    let so_far = c.loop-byte.invariant in
    let bytes = c.args.bytes.now in
    let n = c.loop-byte.byte-index in
    let start = reading c.args.reader.now in
    let r = reading c.loop-byte.reader in
    let now = reading c.feed.new.self in
    let i = g.W.Write.contents c.loop-byte.output in
    let k = g.W.Write.contents c.take.new.output in
    serves-last bytes n c.loop-byte-test.true start r so_far.1 c.args.self.now c.loop-byte.self c.take.new.self (g.W.Write.contents c.args.output.now) i k so_far.0
    (fed-some (get_or bytes n 0) r now c.in-Some.piece c.payload.result.now c.loop-byte.self c.take.new.self i k _ (sym c.in_ok-piece.ensures.tells ∙ c.in-Some.is) c.payload.ensures
    c.in_ok-piece.ensures.goes (record {
      takes = c.in_ok-take.ensures.takes;
      kept = c.in_ok-take.ensures.kept;
      acks = c.in_ok-take.ensures.acks;
      next = sym c.in-Ends.is ∙ c.in_ok-take.ensures.next;
    }))
