-- What an expression is about.
use Rattle.std.specs.Prelude.{◌≡◌, ℕ, List, Option, Some, None, Result, Ok, Err}
use Rattle.std.specs.Borrow.{Bor}
use Rattle.debug_info.specs.Places.{spot_of}
use Rattle.debug_info.specs.declared.layouts.MemberRow.{MemberRow}
use Rattle.debug_info.specs.declared.layouts.TypeRow.{TypeRow}
use Rattle.debug_info.specs.declared.places.Place.{Place}
use Rattle.debug_info.specs.declared.spots.Spot.{Spot}
use Rattle.debug_info.specs.declared.types.Kind.{Kind}
use Rattle.c_expressions.specs.Scopes.{IsVariable}
use Rattle.c_expressions.specs.Selection.{selected, value_at}
use Rattle.c_expressions.specs.Written.{IsExpressionText, IsNoExpressionText}
use Rattle.c_expressions.specs.declared.expression.Step.{Step}
use Rattle.c_expressions.specs.declared.finding.Found.{Found}
use Rattle.c_expressions.specs.declared.finding.Found.TheVariants as founds
use Rattle.c_expressions.specs.declared.refusal.Refusal.{Refusal}
use Rattle.c_expressions.specs.declared.rows.Rows.{Rows}
use Rattle.c_expressions.specs.declared.rows.VariableRow.{VariableRow}
use Rattle.c_expressions.specs.declared.selection.Subject.{Subject}

abbrev pub told : Result Subject Refusal → Found
told (Ok s) = founds.Subject s
told (Err e) = founds.Refused e

abbrev pub from_spot : List TypeRow → List MemberRow → (memory : ℕ → Option ℕ) → Kind → List Step → Place → Option Spot → Found
from_spot types members memory kind steps place (Some spot) = told (selected types members memory steps (value_at kind spot))
from_spot types members memory kind steps place None = founds.Placeless place

-- the steps are taken from the value of the variable, which begins at its place; a variable that has no bytes leads nowhere
abbrev pub found_from : List TypeRow → List MemberRow → (registers memory : ℕ → Option ℕ) → Kind → Place → List Step → Found
found_from types members registers memory kind place steps = from_spot types members memory kind steps place (spot_of registers place)

-- of a variable whose type the tables tell
abbrev pub found_typed : List TypeRow → List MemberRow → (registers memory : ℕ → Option ℕ) → List Step → Place → Option Kind → Option Found
found_typed types members registers memory steps place (Some kind) = Some (found_from types members registers memory kind place steps)
found_typed types members registers memory steps place None = None

abbrev pub found_of : List TypeRow → List MemberRow → (registers memory : ℕ → Option ℕ) → List Step → Option VariableRow → Option Found
found_of types members registers memory steps (Some row) = found_typed types members registers memory steps row.place row.kind
found_of types members registers memory steps None = None

-- an expression of a name and of some steps is about what the steps lead to from the variable that the name is
pub record IsFound (rows : Rows) (registers memory : ℕ → Option ℕ) (name : List ℕ) (taken : List Step) (found : Option Found) : Type 0 where
  pub variable : Option VariableRow
  pub is : IsVariable rows.locals.items rows.globals.items name variable
  pub found_is : found ≡ found_of rows.layouts.types.items rows.layouts.members.items registers memory taken variable

-- a text is about what its expression is about; a text that is none is about nothing
pub data IsFoundIn (rows : Rows) (registers memory : ℕ → Option ℕ) (text : List ℕ) : Option Found → Type 0 where
  read : (name : Bor (List ℕ)) (taken : List Step) (found : Option Found) → IsExpressionText text name taken → IsFound rows registers memory name.now taken found → IsFoundIn rows registers memory text found
  unread : IsNoExpressionText text → IsFoundIn rows registers memory text None
