use Rattle.std.proofs.Common.{◌∙◌, ◌∷◌, ap}
use Rattle.c_expressions.proofs.Longer.{and-before, brackets-around, name-before, star-before}
use Rattle.c_expressions.proofs.Read.{and-reads, brackets-read, name-reads, star-reads}
use Rattle.c_expressions.proofs.parser.+read.Goals as goal

pub returns-in_ok-add-in-Star-clause-is : goal.returns-in_ok-add-in-Star-clause-is
returns-in_ok-add-in-Star-clause-is t c =
    star-before c.in_ok-name-in-Star.name c.args.tokens.now c.in-Some.rest.now c.in_ok-name-in-Star.after.now c.args.steps.now.items c.read.new.steps.items c.add.new.steps.items
    (c.in-Some.ensures.some ∙ ap (λ x. x ∷ c.in-Some.rest.now) c.in-Star.is) c.in_ok-name-in-Star.ensures.is c.in_ok-add-in-Star.ensures.added

pub returns-in_ok-add-in-And-clause-is : goal.returns-in_ok-add-in-And-clause-is
returns-in_ok-add-in-And-clause-is t c =
    and-before c.in_ok-name-in-And.name c.args.tokens.now c.in-Some.rest.now c.in_ok-name-in-And.after.now c.args.steps.now.items c.read-in-And.new.steps.items c.add-in-And.new.steps.items
    (c.in-Some.ensures.some ∙ ap (λ x. x ∷ c.in-Some.rest.now) c.in-And.is) c.in_ok-name-in-And.ensures.is c.in_ok-add-in-And.ensures.added

pub returns-in_ok-after-in-Open-clause-is : goal.returns-in_ok-after-in-Open-clause-is
returns-in_ok-after-in-Open-clause-is t c =
    brackets-around c.in_ok-name-in-Open.name c.args.tokens.now c.in-Some.rest.now c.in_ok-name-in-Open.inner.now c.in_ok-behind-in-Open.behind.now c.in_ok-after-in-Open.after.now
    c.args.steps.now.items c.read-in-Open.new.steps.items c.read_behind.new.steps.items
    (c.in-Some.ensures.some ∙ ap (λ x. x ∷ c.in-Some.rest.now) c.in-Open.is) c.in_ok-name-in-Open.ensures.is c.in_ok-behind-in-Open.ensures.closed c.in_ok-after-in-Open.ensures.is

pub returns-in_ok-after-in-Name-clause-is : goal.returns-in_ok-after-in-Name-clause-is
returns-in_ok-after-in-Name-clause-is t c =
    name-before c.in-Name.name c.args.tokens.now c.in-Some.rest.now c.in_ok-after-in-Name.after.now c.args.steps.now.items c.read_behind-in-Name.new.steps.items
    (c.in-Some.ensures.some ∙ ap (λ x. x ∷ c.in-Some.rest.now) c.in-Name.is) c.in_ok-after-in-Name.ensures.is

pub returns-in_ok-add-in-Star-clause-all : goal.returns-in_ok-add-in-Star-clause-all
returns-in_ok-add-in-Star-clause-all t c =
    star-reads c.in_ok-name-in-Star.name c.args.tokens.now c.in-Some.rest.now c.in_ok-name-in-Star.after.now c.args.steps.now.items c.read.new.steps.items c.add.new.steps.items
    (c.in-Some.ensures.some ∙ ap (λ x. x ∷ c.in-Some.rest.now) c.in-Star.is) c.in_ok-name-in-Star.ensures.all c.in_ok-add-in-Star.ensures.added

pub returns-in_ok-add-in-And-clause-all : goal.returns-in_ok-add-in-And-clause-all
returns-in_ok-add-in-And-clause-all t c =
    and-reads c.in_ok-name-in-And.name c.args.tokens.now c.in-Some.rest.now c.in_ok-name-in-And.after.now c.args.steps.now.items c.read-in-And.new.steps.items c.add-in-And.new.steps.items
    (c.in-Some.ensures.some ∙ ap (λ x. x ∷ c.in-Some.rest.now) c.in-And.is) c.in_ok-name-in-And.ensures.all c.in_ok-add-in-And.ensures.added

pub returns-in_ok-after-in-Open-clause-all : goal.returns-in_ok-after-in-Open-clause-all
returns-in_ok-after-in-Open-clause-all t c =
    brackets-read c.in_ok-name-in-Open.name c.args.tokens.now c.in-Some.rest.now c.in_ok-name-in-Open.inner.now c.in_ok-behind-in-Open.behind.now c.in_ok-after-in-Open.after.now
    c.args.steps.now.items c.read-in-Open.new.steps.items c.read_behind.new.steps.items
    (c.in-Some.ensures.some ∙ ap (λ x. x ∷ c.in-Some.rest.now) c.in-Open.is) c.in_ok-name-in-Open.ensures.all c.in_ok-behind-in-Open.ensures.closed c.in_ok-after-in-Open.ensures.all

pub returns-in_ok-after-in-Name-clause-all : goal.returns-in_ok-after-in-Name-clause-all
returns-in_ok-after-in-Name-clause-all t c =
    name-reads c.in-Name.name c.args.tokens.now c.in-Some.rest.now c.in_ok-after-in-Name.after.now c.args.steps.now.items c.read_behind-in-Name.new.steps.items
    (c.in-Some.ensures.some ∙ ap (λ x. x ∷ c.in-Some.rest.now) c.in-Name.is) c.in_ok-after-in-Name.ensures.all
