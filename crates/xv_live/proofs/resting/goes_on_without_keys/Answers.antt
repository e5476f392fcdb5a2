use Rattle.xv_live.proofs.resting.goes_on_without_keys.Goals as goal

pub returns : goal.returns
returns c none = (c.may_run.ensures.rests c.if-may_run.false, c.is_any_in_sleep.ensures none)
