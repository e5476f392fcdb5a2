-- What a process sleeps on, and who wakes.
use Rattle.std.specs.Prelude.{Bool, true, false, if◌then◌else◌, nat_eq, Option, None, Some}
use Rattle.proc_table.specs.declared.channel.Channel.{Channel}
use Rattle.proc_table.specs.declared.channel.Channel.TheVariants.{Children, Bytes, Room, Clock, Keys, Sending}

-- the two are one channel: of one kind, and of the same process or pipe
abbrev pub same_channel : Channel → Channel → Bool
same_channel (Children p) (Children q) = nat_eq p q
same_channel (Bytes f) (Bytes g) = nat_eq f g
same_channel (Room f) (Room g) = nat_eq f g
same_channel Clock Clock = true
same_channel Keys Keys = true
same_channel Sending Sending = true
same_channel _ _ = false

-- who sleeps so sleeps on the channel
abbrev pub is_on : Channel → Option Channel → Bool
is_on on None = false
is_on on (Some channel) = same_channel channel on

-- what a process sleeps on once those who sleep on a channel are woken: nothing, if it slept on this one
abbrev pub without : Channel → Option Channel → Option Channel
without on channel = if is_on on channel then None else channel
