-- What a call may be given.
use Rattle.std.specs.Prelude.{ℕ, ◌==◌, Bool, true, false, not, ◌&&◌}
use Rattle.grade_rules.specs.declared.given.Given.{Given}
use Rattle.grade_rules.specs.declared.given.Thing.{Thing}
use Rattle.grade_rules.specs.declared.given.Thing.TheVariants.{Nothing, Console, File, ReadEnd, WriteEnd}
use Rattle.grade_rules.specs.declared.asking.Asking.{Asking}
use Rattle.grade_rules.specs.declared.asking.Things.{Things}
use Rattle.grade_rules.specs.declared.asking.Things.TheVariants.{Any, Only, Not}
use Rattle.grade_rules.specs.declared.pipes.Pipes.{Pipes}
use Rattle.grade_rules.specs.declared.pipes.Pipes.TheVariants as pipes
use Rattle.grade_rules.specs.Numbers.{has}

-- the two are the same
abbrev pub is_same : Thing → Thing → Bool
is_same Nothing Nothing = true
is_same Console Console = true
is_same File File = true
is_same ReadEnd ReadEnd = true
is_same WriteEnd WriteEnd = true
is_same _ _ = false

-- a thing is one of them
abbrev pub names : Things → Thing → Bool
names Any thing = true
names (Only one) thing = is_same one thing
names (Not other) thing = not (is_same other thing)

-- the pipe of this number is meant; for a letter any, as long as no pipe is chosen for it
abbrev pub is_pipe : Pipes → ℕ → Bool
is_pipe pipes.Any pipe = true
is_pipe (pipes.Only number) pipe = pipe == number
is_pipe (pipes.Called letter) pipe = true

-- each argument, and the first byte of a write, is one of the numbers in its place, and the descriptor names such a thing, an end of such a pipe
abbrev pub takes : Asking → Given → Bool
takes asking given =
    has asking.first given.first && has asking.second given.second && has asking.third given.third && has asking.byte given.byte && names asking.on given.on
    && is_pipe asking.pipe given.pipe
