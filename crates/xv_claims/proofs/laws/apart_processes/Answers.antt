use Rattle.xv_claims.proofs.laws.apart_processes.Goals as goal
use Rattle.xv_claims.proofs.Apart as in-apart
use Rattle.xv_claims.proofs.Asleep as in-asleep
use Rattle.xv_claims.proofs.Lasting as in-lasting

pub returns-clause-apart_sees_channels : goal.returns-clause-apart_sees_channels
returns-clause-apart_sees_channels c = in-apart.apart_sees_channels

pub returns-clause-apart_worlds : goal.returns-clause-apart_worlds
returns-clause-apart_worlds c = in-apart.apart_worlds

pub returns-clause-only_ticks_wake : goal.returns-clause-only_ticks_wake
returns-clause-only_ticks_wake c = in-asleep.only_ticks_wake

pub returns-clause-apart_lasts : goal.returns-clause-apart_lasts
returns-clause-apart_lasts c = in-lasting.apart_lasts
