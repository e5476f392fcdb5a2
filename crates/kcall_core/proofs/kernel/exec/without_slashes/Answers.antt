use Rattle.kcall_core.proofs.Prelude.{ℕ, ◌-◌, ◌<◌, ◌∙◌, ◌≡◌, ◌≢◌, arith, drop, length, length-drop, rules, slice_index, take_all}
use Rattle.kcall_core.proofs.processes.Asking.{slashes-gone, slashes-only}
use Rattle.kcall_core.proofs.kernel.exec.without_slashes.Goals as goal

pub returns-in_default : goal.returns-in_default
returns-in_default c =
    let all : (j : ℕ) → j < length c.args.name.now → slice_index c.args.name.now j ≡ 47 = search rules in
    slashes-only c.args.name.now all

pub returns : goal.returns
returns c =
    let k = c.in-Some.first in
    let lt : c.in-Some.first < length c.args.name.now = search rules in
    let ne : slice_index c.args.name.now c.in-Some.first ≢ 47 = search rules in
    let all : (j : ℕ) → j < c.in-Some.first → slice_index c.args.name.now j ≡ 47 = search rules in
    take_all (length c.args.name.now - k) (drop k c.args.name.now) (omega (arith, length-drop k c.args.name.now)) ∙ slashes-gone c.args.name.now k lt ne all
