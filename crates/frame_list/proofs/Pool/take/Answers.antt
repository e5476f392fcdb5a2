use Rattle.std.proofs.Common.{◌≡◌, ◌<◌, [], Some, length, ap, ◌∙◌, arith}
use Rattle.std.proofs.lemmas.List.{get_or-set_same}
use Rattle.phys_ram.specs.Ram.{zero_frame}
use Rattle.phys_ram.proofs.Words.{others_stay-set}
use Rattle.frame_list.specs.Pool.{link, next}
use Rattle.frame_list.proofs.FreeList.{next-small, first-inside, but_first, rest-kept, Good-but_first}
use Rattle.frame_list.proofs.Trades.{taken-list}
use Rattle.frame_list.proofs.Pool.take.Goals as goal

pub read_u64-requires-clause-frame_in : goal.read_u64-requires-clause-frame_in
read_u64-requires-clause-frame_in c = first-inside c.args.self.now c.args.ram.now c.in_ok-f.f c.requires (c.in_ok-f.was {u = tt})

pub linked-rest-requires : goal.linked-rest-requires
linked-rest-requires c = omega (arith, c.read_u64.ensures, next-small c.args.self.now c.args.ram.now c.in_ok-f.f c.requires (c.in_ok-f.was {u = tt}))

pub zero_frame-requires : goal.zero_frame-requires
zero_frame-requires c = first-inside c.args.self.now c.args.ram.now c.in_ok-f.f c.requires (c.in_ok-f.was {u = tt})

pub returns-clause-taken : goal.returns-clause-taken
returns-clause-taken c =
    let pool = c.args.self.now in
    let ram = c.args.ram.now in
    let f = c.in_ok-f.f in
    let is : pool.first ≡ Some f = c.in_ok-f.was {u = tt} in
    let inside : f < length ram = first-inside pool ram f c.requires is in
    let after : c.linked-rest.result ≡ next ram f = c.linked-rest.ensures ∙ ap link c.read_u64.ensures in
    let stay = others_stay-set ram f zero_frame in
    rw (after, c.zero_frame.ensures)
    (taken-list pool (but_first pool (next ram f)) ram _ f c.requires (Good-but_first pool ram _ f c.requires is stay)
    (rest-kept pool ram _ f c.requires is stay) stay (get_or-set_same ram f zero_frame [] inside))
