use Rattle.std.proofs.Common.{[], ◌≡◌, ◌∙◌, sym, ap}
use Rattle.xk_base.specs.Loaded.{loaded}
use Rattle.call_reasons.specs.Loading.{error_of}
use Rattle.call_reasons.proofs.Loads.{long_error, same_error}
use Rattle.call_reasons.proofs.loading.error_with_long.Goals as goal

pub returns-in-Some : goal.returns-in-Some
returns-in-Some c texts long =
    let with_none : c.error_with.result ≡ error_of (loaded c.args.file.now []) = c.error_with.ensures ∙ ap (λ args. error_of (loaded c.args.file.now args)) c.new.ensures in
    same_error c.args.file.now texts long c.in-Some.error (sym c.in-Some.is ∙ with_none)

pub returns-in-None : goal.returns-in-None
returns-in-None c texts long =
    let with_none : c.error_with.result ≡ error_of (loaded c.args.file.now []) = c.error_with.ensures ∙ ap (λ args. error_of (loaded c.args.file.now args)) c.new.ensures in
    long_error c.args.file.now texts long (sym c.in-None.is ∙ with_none)
