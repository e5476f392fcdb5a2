-- What is done for all that GDB sends, and when it is served no more.
use Rattle.std.specs.Prelude.{◌≡◌, ◌⊎◌, ℕ, Bool, true, false, not, List, [], ◌∷◌, ◌++◌, Option, None, Some}
use Rattle.std.specs.Io.KnownBytes.{Consumes, IsAtEnd}
use Rattle.gdb_packets.specs.Commands.{asked}
use Rattle.gdb_packets.specs.Packets.{Reading, fed, fed_all, piece}
use Rattle.gdb_packets.specs.declared.command.Command.{Command}
use Rattle.gdb_packets.specs.declared.command.Command.TheVariants as on
use Rattle.gdb_packets.specs.declared.reader.Phase.TheVariants.{Between}
use Rattle.gdb_packets.specs.declared.reader.Piece.{Piece}
use Rattle.gdb_packets.specs.declared.reader.Piece.TheVariants.{Packet, Damaged}
use Rattle.gdb_target.specs.Kept.{IsSentLast}
use Rattle.gdb_target.specs.Served.{Takes}
use Rattle.gdb_target.specs.declared.service.serving.After.{After}
use Rattle.gdb_target.specs.declared.service.serving.After.TheVariants.{GoesOn, Ends}
use Rattle.gdb_target.specs.declared.service.serving.Service.{Service}

-- ---- a command

-- two commands end it
abbrev pub more_after : Command → After
more_after on.Detach = Ends
more_after on.Kill = Ends
more_after _ = GoesOn

-- packets are acknowledged from then on
abbrev pub acks_after : Command → (acks : Bool) → Bool
acks_after on.NoAcks acks = false
acks_after _ acks = acks

-- what is kept to be sent again: what was sent last, if a packet was sent
abbrev pub IsKeptIf : (sends : Bool) → (old new : List ℕ) → (before after : Option (List ℕ)) → Type 0
IsKeptIf true old new before after = IsSentLast new before after
IsKeptIf false old new before after = new ≡ old

-- one command sends nothing
abbrev pub sends : Command → Bool
sends on.Kill = false
sends _ = true

abbrev pub IsKept : Command → (old new : List ℕ) → (before after : Option (List ℕ)) → Type 0
IsKept command old new before after = IsKeptIf (sends command) old new before after

-- ---- what GDB sent

abbrev pub more_by : Piece → (payload : List ℕ) → After
more_by Packet payload = more_after (asked payload)
more_by _ payload = GoesOn

abbrev pub acks_by : Piece → (payload : List ℕ) → (acks : Bool) → Bool
acks_by Packet payload acks = acks_after (asked payload) acks
acks_by _ payload acks = acks

-- that a packet is damaged is told by a packet, if packets aren't acknowledged
abbrev pub IsKeptBy : Piece → (payload : List ℕ) → (acks : Bool) → (old new : List ℕ) → (before after : Option (List ℕ)) → Type 0
IsKeptBy Packet payload acks old new before after = IsKept (asked payload) old new before after
IsKeptBy Damaged payload acks old new before after = IsKeptIf (not acks) old new before after
IsKeptBy _ payload acks old new before after = new ≡ old

-- What came to its end is done, and what is left of it
pub record IsTaken (p : Piece) (payload : List ℕ) (old new : Service) (before after : Option (List ℕ)) (more : After) : Type 0 where
  pub takes : Takes p old.link.acks old.link.last.items payload old.target new.target before after
  pub acks : new.link.acks ≡ acks_by p payload old.link.acks
  pub kept : IsKeptBy p payload old.link.acks old.link.last.items new.link.last.items before after
  pub next : more ≡ more_by p payload

-- nothing is done if nothing came to its end
abbrev pub IsDone : Option Piece → (payload : List ℕ) → (old new : Service) → (before after : Option (List ℕ)) → (next : After) → Type 0
IsDone None payload old new before after next = (new ≡ old) × (after ≡ before) × (next ≡ GoesOn)
IsDone (Some p) payload old new before after next = IsTaken p payload old new before after next

-- what a byte brings to its end is done
abbrev pub IsFed : ℕ → Reading → (old new : Service) → (before after : Option (List ℕ)) → (next : After) → Type 0
IsFed b r old new before after next = IsDone (piece b r) (fed b r).payload old new before after next

-- ---- all that GDB sent

-- so of each of these bytes, one after another, and it goes on
abbrev pub Serves : List ℕ → Reading → (old new : Service) → (before after : Option (List ℕ)) → Type 0
Serves [] r old new before after = (new ≡ old) × (after ≡ before)
Serves (b ∷ bytes) r old new before after =
    (mid : Service) × (told : Option (List ℕ)) × IsFed b r old mid before told GoesOn × Serves bytes (fed b r) mid new told after

-- so of some of these bytes: the last of them ends it, and the rest is left
pub record ServesSome (bytes : List ℕ) (r : Reading) (old new : Service) (before after : Option (List ℕ)) : Type 0 where
  pub first : List ℕ
  pub last : ℕ
  pub rest : List ℕ
  pub parts : bytes ≡ first ++ last ∷ rest
  pub mid : Service
  pub told : Option (List ℕ)
  pub serves : Serves first r old mid before told
  pub ends : IsFed last (fed_all first r) mid new told after Ends

abbrev pub ServesUntil : After → List ℕ → Reading → (old new : Service) → (before after : Option (List ℕ)) → Type 0
ServesUntil GoesOn bytes r old new before after = Serves bytes r old new before after
ServesUntil Ends bytes r old new before after = ServesSome bytes r old new before after

-- These bytes were read, and served from the first one on: all of them, up to the input's end; or those up to the command by which GDB goes
pub record IsServed (old new : Service) (input rest before after : Option (List ℕ)) : Type 0 where
  pub bytes : List ℕ
  pub read : Consumes input rest bytes
  pub start : Reading
  pub between : start.phase ≡ Between
  pub served : (Serves bytes start old new before after × IsAtEnd rest) ⊎ ServesSome bytes start old new before after
