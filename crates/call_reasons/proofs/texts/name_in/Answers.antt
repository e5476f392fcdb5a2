use Rattle.std.proofs.Common.{ℕ, ◌-◌, ◌<◌, ◌∙◌, ◌≡◌, ◌≢◌, arith, drop, length, length-drop, rules, slice_index, take_all}
use Rattle.kcall_core.proofs.processes.Asking.{slashes-gone, slashes-only}
use Rattle.call_reasons.proofs.texts.name_in.Goals as goal

pub returns-in_default : goal.returns-in_default
returns-in_default c =
    let all : (j : ℕ) → j < length c.args.path.now → slice_index c.args.path.now j ≡ 47 = search rules in
    slashes-only c.args.path.now all

pub returns : goal.returns
returns c =
    let k = c.in-Some.first in
    let lt : c.in-Some.first < length c.args.path.now = search rules in
    let ne : slice_index c.args.path.now c.in-Some.first ≢ 47 = search rules in
    let all : (j : ℕ) → j < c.in-Some.first → slice_index c.args.path.now j ≡ 47 = search rules in
    take_all (length c.args.path.now - k) (drop k c.args.path.now) (omega (arith, length-drop k c.args.path.now)) ∙ slashes-gone c.args.path.now k lt ne all
