-- Why a text is no expression.
use Rattle.c_expressions.specs.declared.parser.ReadError.{ReadError}
use Rattle.c_expressions.specs.declared.parser.ReadError.TheVariants.{Memory, NoExpression}

-- it is refused for this, but for want of memory
abbrev pub Refuses : Type 0 → ReadError → Type 0
Refuses Said NoExpression = Said
Refuses Said Memory = Unit {0}
