-- Where lines are written.
use Rattle.std.specs.Prelude.{◌≡◌, Option, None, Some, String, ⊤}
use Rattle.std.specs.declared.alloc.Global.{Global}
use Rattle.explained_run.specs.declared.lines.Written.{Written}
use Rattle.explained_run.specs.declared.lines.Written.TheVariants.{Errors, File}

module _ {W : Type 0} where
  -- into a file, if one is named, else to where errors are told
  abbrev pub GoesTo : (path : Option (String Global)) → (errors : W) → Written W → Type 0
  GoesTo None errors written = written ≡ Errors errors
  GoesTo (Some path) errors (Errors other) = ⊥
  GoesTo (Some path) errors (File file) = ⊤
