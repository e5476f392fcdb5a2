use Rattle.addr_space.proofs.Prelude.{◌∙◌, ap, image_of, rules, Some, sym}
use Rattle.addr_space.proofs.Touching.{absent-allows, away-absent, other-allows, present-allows}
use Rattle.addr_space.proofs.Space.perm_touched.Goals as goal

pub returns-in-Some : goal.returns-in-Some
returns-in-Some c = present-allows (image_of c.args.ram.now c.args.self.now) c.args.vpn c.in-Some.perm (search rules) c.in-Some.ensures

pub returns-then-begins_below_size : goal.returns-then-begins_below_size
returns-then-begins_below_size c =
    let image = image_of c.args.ram.now c.args.self.now in
    let absent = away-absent image c.args.vpn (sym c.in_default.is ∙ c.perm.ensures) ∙ sym c.begins_below_size.ensures ∙ c.if-begins_below_size.true in
    ap Some c.data.ensures ∙ absent-allows image c.args.vpn (search rules) absent

pub returns : goal.returns
returns c =
    let image = image_of c.args.ram.now c.args.self.now in
    let none = sym c.in_default.is ∙ c.perm.ensures in
    let beyond = away-absent image c.args.vpn none ∙ sym c.begins_below_size.ensures ∙ c.if-begins_below_size.false in
    none ∙ other-allows image c.args.vpn (search rules) beyond
