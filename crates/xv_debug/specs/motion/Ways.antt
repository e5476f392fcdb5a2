-- What a way waits for.
use Rattle.xv_debug.specs.motion.Reaching.{Test, meets_one}
use Rattle.xv_debug.specs.declared.motion.searching.Way.{Way}

abbrev pub test_of : Way → Test
test_of way = meets_one way.ran way.aim.now way.marks.now
