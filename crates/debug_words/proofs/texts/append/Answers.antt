use Rattle.debug_words.proofs.Appends.{appends-text}
use Rattle.debug_words.proofs.texts.append.Goals as goal

pub returns : goal.returns
returns g c = appends-text _ _ _ _ c.write.ensures.writes
