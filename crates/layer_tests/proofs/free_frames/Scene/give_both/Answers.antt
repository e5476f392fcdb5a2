use Rattle.frame_list.proofs.Trades.{untouched-none, given-other}
use Rattle.layer_tests.proofs.free_frames.Scene.give_both.Goals as goal

pub give-requires-clause-not_free : goal.give-requires-clause-not_free
give-requires-clause-not_free c = let none = c.in-None.ensures.none in untouched-none _ _ _ _ none.0 none.1 c.args.first

pub give-requires-2-clause-not_free : goal.give-requires-2-clause-not_free
give-requires-2-clause-not_free c =
    let none = c.in-None.ensures.none in
    given-other _ _ _ _ c.args.first c.args.second c.give.ensures (untouched-none _ _ _ _ none.0 none.1 c.args.second) c.requires.apart
