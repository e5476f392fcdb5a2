-- What is sent of a stop.
use Rattle.std.proofs.Common.{◌≡◌, ℕ, List, ◌∷◌, ◌++◌, Option, length, subst, sym, true}
use Rattle.std.proofs.KnownBytes.{Appends-trans}
use Rattle.std.specs.Io.KnownBytes.{Appends}
use Rattle.hex.specs.Hex.{encode_lower}
use Rattle.gdb_packets.specs.Packets.{packet}
use Rattle.gdb_packets.specs.declared.answers.StopReason.{StopReason}
use Rattle.gdb_packets.specs.declared.answers.StopReason.TheVariants.{Interrupt, Trap}
use Rattle.gdb_target.specs.Choices.{StopsAt, choices}
use Rattle.gdb_target.specs.Found.{StandsFor}
use Rattle.gdb_target.specs.Gone.{IsStepOver, gone_told}
use Rattle.gdb_target.specs.LastHit.{GoesBackToLast}
use Rattle.gdb_target.specs.LetRun.{lets}
use Rattle.gdb_target.specs.Sent.{Sends, stop_told}
use Rattle.gdb_target.specs.SameRun.{beginning}
use Rattle.gdb_target.specs.Served.{IsGoneTold, IsOver, IsRestarted, IsReversed, over_note}
use Rattle.gdb_target.specs.declared.let_run.LetRun.{LetRun}
use Rattle.gdb_target.specs.declared.reverse.Back.{Back}
use Rattle.gdb_target.specs.declared.target.Target.{Target}

module _ (old mid new : Target) (reason : StopReason) (p : ℕ) (h k : Option (List ℕ)) where
  pub stops_told : StopsAt old reason p mid → new ≡ mid → Sends h k (stop_told mid) → StopsAt old reason p new × Sends h k (stop_told new)
  stops_told stops same sent = (subst (λ (t : Target). StopsAt old reason p t) (sym same) stops, subst (λ (t : Target). Sends h k (stop_told t)) (sym same) sent)

pub reversed : (back : Back) (was old mid new : Target) (reason : StopReason) (p : ℕ) (h k : Option (List ℕ)) → GoesBackToLast back was old (record { reason = reason; pid = p })
    → StandsFor old back reason p → StopsAt old reason p mid → new ≡ mid → Sends h k (stop_told mid) → IsReversed back was new h k
reversed back was old mid new reason p h k last stands stops same sent =
    let told = stops_told old mid new reason p h k stops same sent in
    record { to = old; last = last; reason = reason; pid = p; stands = stands; stops = told.0; sent = told.1 }

pub restarted : (was old mid new : Target) (p : ℕ) (h k : Option (List ℕ)) → length old.run.session.events ≡ 0 → beginning old.run ≡ beginning was.run → choices old ≡ choices was
    → p ≡ 1 → StopsAt old Trap p mid → new ≡ mid → Sends h k (stop_told mid) → IsRestarted was new h k
restarted was old mid new p h k boot begins chosen first stops same sent =
    let told = stops_told old mid new Trap p h k stops same sent in
    record { to = old; boot = boot; same = begins; chosen = chosen; stops = subst (λ (q : ℕ). StopsAt old Trap q new) first told.0; sent = told.1 }

pub over : (r : LetRun) (old mid new : Target) (reason : StopReason) (p : ℕ) (note : List ℕ) (h k m : Option (List ℕ)) → note ≡ 79 ∷ encode_lower (over_note old.most)
    → reason ≡ Interrupt → lets r p ≡ true → StopsAt old reason p mid → new ≡ mid
    → Sends h k note → Sends k m (stop_told mid) → IsOver r old new h m
over r old mid new reason p note h k m text why lets_it stops same noted sent =
    let told = stops_told old mid new reason p k m stops same sent in
    record {
      pid = p;
      of = lets_it;
      stops = subst (λ (it : StopReason). StopsAt old it p new) why told.0;
      sent = subst (λ (it : List ℕ). Appends h m (packet it ++ packet (stop_told new))) text (Appends-trans h k m (packet note) (packet (stop_told new)) noted told.1);
    }

pub gone : (r : LetRun) (old mid : Target) (address : Option ℕ) (reason : StopReason) (p : ℕ) (h k : Option (List ℕ)) → IsStepOver r old address → reason ≡ Trap → StopsAt old reason p mid
    → Sends h k (gone_told r address) → IsGoneTold r old mid h k
gone r old mid address reason p h k over why stops sent = record { address = address; over = over; pid = p; stops = subst (λ (w : StopReason). StopsAt old w p mid) why stops; sent = sent }
