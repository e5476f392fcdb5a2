-- On which channel a sleeper sleeps, and on which channels an end of a process or of a pipe wakes.
use Rattle.std.specs.Prelude.{ℕ, ◌&&◌, ◌||◌, Bool, true, false, not, nat_eq, Option}
use Rattle.std.specs.FinMap.{FinMap, get}
use Rattle.std.specs.Ordering.{nat_cmp}
use Rattle.pipe_core.specs.Pipe.{Pipe}
use Rattle.proc_table.specs.declared.channel.Channel.{Channel}
use Rattle.proc_table.specs.declared.channel.Channel.TheVariants as on
use Rattle.kernel_spec.specs.views.Words.{is_this}
use Rattle.kernel_spec.specs.views.View.{or_gone}
use Rattle.kernel_spec.specs.waking.Conditions.{Condition, Child_of, Bytes, Room, Time, Keys, Sending}

-- who sleeps on the channel waits for the condition
abbrev pub is_for : Condition → Channel → Bool
is_for (Child_of p) (on.Children q) = nat_eq p q
is_for (Bytes i) (on.Bytes f) = nat_eq i f
is_for (Room i) (on.Room f) = nat_eq i f
is_for (Time since ticks) on.Clock = true
is_for Keys on.Keys = true
is_for Sending on.Sending = true
is_for _ _ = false

-- the last descriptor on an end of a pipe is closed
abbrev pub last_closes : (before after : ℕ) → Bool
last_closes before after = not (nat_eq before 0) && nat_eq after 0

-- readers wake where nobody is left to write, writers where nobody is left to read: from these pipes to those
abbrev pub closes_wake : FinMap nat_cmp Pipe → FinMap nat_cmp Pipe → Channel → Bool
closes_wake m n (on.Bytes i) = last_closes (or_gone (get m i)).writers (or_gone (get n i)).writers
closes_wake m n (on.Room i) = last_closes (or_gone (get m i)).readers (or_gone (get n i)).readers
closes_wake m n _ = false

-- a process of this parent that goes wakes its parent and pid 1, where they wait for a child
abbrev pub family_wakes : (parent : Option ℕ) → Channel → Bool
family_wakes parent (on.Children q) = is_this q parent || nat_eq q 1
family_wakes parent _ = false

abbrev pub end_wakes : (parent : Option ℕ) → FinMap nat_cmp Pipe → FinMap nat_cmp Pipe → Channel → Bool
end_wakes parent m n channel = closes_wake m n channel || family_wakes parent channel
