-- What `byteorder` reads is a number of the file.
use Rattle.xk_base.proofs.Words.{little_number-le}

pub ruleset little_numbers = little_number-le
