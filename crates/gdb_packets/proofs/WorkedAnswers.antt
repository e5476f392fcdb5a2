-- Worked cases: what is told of a stop.
use Rattle.std.proofs.Common.{◌≡◌, refl}
use Rattle.std.specs.Prelude.{codes}
use Rattle.gdb_packets.specs.Answers.{stop_reply}
use Rattle.gdb_packets.specs.Numbers.{digits, digits_in}
use Rattle.gdb_packets.specs.declared.answers.StopReason.TheVariants.{Trap, Watch, ReadWatch, AccessWatch, Interrupt}

after_a_step : stop_reply (record { reason = Trap; thread = 3 }) ≡ codes "T05thread:3;"
unfolding digits digits_in
after_a_step = refl

by_an_interrupt : stop_reply (record { reason = Interrupt; thread = 1 }) ≡ codes "T02thread:1;"
unfolding digits digits_in
by_an_interrupt = refl

after_a_change : stop_reply (record { reason = Watch 0x1000; thread = 3 }) ≡ codes "T05watch:1000;thread:3;"
unfolding digits digits_in
after_a_change = refl

after_a_read : stop_reply (record { reason = ReadWatch 0x1000; thread = 3 }) ≡ codes "T05rwatch:1000;thread:3;"
unfolding digits digits_in
after_a_read = refl

after_a_read_or_a_write : stop_reply (record { reason = AccessWatch 0x1ab8; thread = 26 }) ≡ codes "T05awatch:1ab8;thread:1a;"
unfolding digits digits_in
after_a_read_or_a_write = refl
