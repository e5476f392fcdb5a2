use Rattle.std.proofs.Common.{◌∙◌, ◌++◌, ap, inr, subst, sym, take}
use Rattle.std.proofs.KnownBytes.{Consumes-trans}
use Rattle.gdb_packets.proofs.Fed.{fed_all-append}
use Rattle.gdb_packets.specs.Packets.{Reading, fed_all}
use Rattle.gdb_packets.specs.Reading.{reading}
use Rattle.gdb_target.specs.Serving.{Serves, ServesSome, ServesUntil}
use Rattle.gdb_target.specs.declared.service.serving.After.{After}
use Rattle.gdb_target.proofs.Serving.{serves-both, some-later}
use Rattle.gdb_target.proofs.service.serving.Service.serve.Goals as goal

-- GDB goes
pub returns-in-Ends : goal.returns-in-Ends
returns-in-Ends g c =
    let so_far = c.loop.invariant in
    let bytes = so_far.0 in
    let more = take c.in-Ok.count c.read.new.buf in
    let start = reading c.new-reader.result in
    let mid = c.loop.self in
    let new = c.serve_bytes.new.self in
    let h = g.W.Write.contents c.args.output.now in
    let i = g.W.Write.contents c.loop.output in
    let k = g.W.Write.contents c.serve_bytes.new.output in
    let here : ServesSome more (reading c.loop.reader) mid new i k =
    subst (λ (n : After). ServesUntil n more (reading c.loop.reader) mid new i k) c.in-Ends.is c.in_ok-serve_bytes.ensures.serves in
    record {
      bytes = bytes ++ more;
      read = Consumes-trans (g.R.Read.remaining c.args.input.now) (g.R.Read.remaining c.loop.input) (g.R.Read.remaining c.read.new.self) bytes more so_far.1 c.in-Ok.ensures.bytes.0;
      start = start;
      between = c.new-reader.ensures.phase;
      served = inr (some-later bytes more start c.args.self.now mid new h i k so_far.2 (subst (λ (r : Reading). ServesSome more r mid new i k) so_far.3 here));
    }

-- it goes on
pub loop-preserved : goal.loop-preserved
loop-preserved g c =
    let so_far = c.loop.invariant in
    let bytes = so_far.0 in
    let more = take c.in-Ok.count c.read.new.buf in
    let start = reading c.new-reader.result in
    let mid = c.loop.self in
    let new = c.serve_bytes.new.self in
    let h = g.W.Write.contents c.args.output.now in
    let i = g.W.Write.contents c.loop.output in
    let k = g.W.Write.contents c.serve_bytes.new.output in
    let here : Serves more (reading c.loop.reader) mid new i k =
    subst (λ (n : After). ServesUntil n more (reading c.loop.reader) mid new i k) c.in-GoesOn.is c.in_ok-serve_bytes.ensures.serves in (
      bytes ++ more,
      Consumes-trans (g.R.Read.remaining c.args.input.now) (g.R.Read.remaining c.loop.input) (g.R.Read.remaining c.read.new.self) bytes more so_far.1 c.in-Ok.ensures.bytes.0,
      serves-both new i k bytes more start c.args.self.now mid h so_far.2 (subst (λ (r : Reading). Serves more r mid new i k) so_far.3 here),
      c.in_ok-serve_bytes.ensures.read c.in-GoesOn.is ∙ (ap (λ (r : Reading). fed_all more r) so_far.3 ∙ sym (fed_all-append bytes more start)),
    )
