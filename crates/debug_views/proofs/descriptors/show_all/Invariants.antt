use Rattle.std.proofs.Common.{◌≡◌, ◌++◌, string_bytes, flat_map}
use Rattle.std.specs.List.{range_with_len}
use Rattle.kcall_core.specs.Observers.{descriptor_of}
use Rattle.debug_views.specs.DescriptorText.{descriptor_told}
use Rattle.debug_views.proofs.descriptors.show_all.Given as goal

abbrev pub invariant-loop-number : goal.invariant-loop-number
invariant-loop-number l =
    string_bytes l.answer ≡ string_bytes l.fn.answer ++ flat_map (λ d. descriptor_told l.machine.world.state l.pid d (descriptor_of l.machine.world.state l.pid d)) (range_with_len 0 l.number)
