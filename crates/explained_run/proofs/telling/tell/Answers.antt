use Rattle.std.proofs.Common.{◌≡◌, ◌∙◌, ◌++◌, [], Bool, if◌then◌else◌, string_bytes, OnOk, sym, subst}
use Rattle.xv_machine.specs.Events.{outcome_of}
use Rattle.explained_run.specs.Lines.{line}
use Rattle.explained_run.specs.Seen.{seen_of}
use Rattle.explained_run.proofs.telling.tell.Goals as goal

pub returns-then-shows : goal.returns-then-shows
returns-then-shows c =
    let told = line (seen_of c.args.seen.now) c.args.machine.now.world.state c.args.pid (outcome_of c.args.outcome.now) in
    subst (λ (b : Bool). OnOk c.show_line.result (string_bytes c.show_line.new.text ≡ string_bytes c.args.text.now ++ (if b then told else []))) (sym c.if-shows.true ∙ c.shows.ensures)
    c.show_line.ensures
