-- Sends at which no byte waits: nothing comes of them, and of the next ones neither.
use Rattle.std.proofs.Common.{◌≡◌, ◌∙◌, ℕ, zero, suc, ◌<◌, ◌⊎◌, true, false, arith, List, [], ◌∷◌, ◌++◌, drop, replicate, Option, None, Some, inl, inr, refl, sym, ap, subst}
use Rattle.std.specs.Prelude.{is_some}
use Rattle.circular_buffer.specs.Buffer.{keep_last}
use Rattle.kernel_spec.specs.views.View.{View}
use Rattle.kernel_spec.specs.waking.Ready.{ready}
use Rattle.kernel_spec.specs.runs.Run.{World, Send, Sent, Step_of, Ticked, first_sent, out}
use Rattle.kernel_spec.specs.waking.Wakes.{IsInCall, IsEnd, NoReadySleeper, Promised}
use Rattle.xv_machine.specs.declared.trace.Note.{Note}
use Rattle.xv_machine.specs.Drives.{Goes}
use Rattle.xv_machine.specs.Machine.{SameTrace}
use Rattle.xv_machine.specs.Meaning.{Meaning}
use Rattle.xv_machine.specs.Sound.{IsSoundMachine}
use Rattle.xv_machine.specs.Stretches.{sends}
use Rattle.xv_machine.proofs.Sent.{again, notes-again, goes-kept}

-- no sleeper wakes: it isn't ready, there was no tick, and no process went
never : (p : ℕ) (v : View) → ready v ≡ false → ((ready v ≡ true) ⊎ (IsInCall 13 v × (Sent None ≡ Ticked)) ⊎ ((p ≡ 1) × IsInCall 3 v × IsEnd (Sent None))) → ⊥
never p v unready (inl is) = cc
never p v unready (inr (inl due)) = let tick : Sent None ≡ Ticked = due.1 in cc
never p v unready (inr (inr due)) = let step : Sent None ≡ Step_of due.2.0 due.2.1 = due.2.2 in cc

-- where nothing waits, a Send gives nothing, and the world stays
pub idle-send : (t : World) → NoReadySleeper t → t.state.console.to_send ≡ [] → Promised t Send (Sent None) t
idle-send t unready empty = (
  (
    ap (λ bytes. Sent (first_sent bytes)) (sym empty),
    ap (λ bytes. record t.state { console = record t.state.console { to_send = bytes } }) (empty ∙ sym (ap (drop 1) empty)),
    (refl, λ p s. s),
  ),
  λ p v sleeps seen. (λ wakes. absurd (wakes sleeps), λ due. λ s. never p v (unready p v sleeps seen) due),
  λ is. let no : ⊥ = cc in absurd no,
  λ shown. shown,
)

-- a Send that gives nothing finds no byte
none-waits : (bytes : List ℕ) → Sent None ≡ Sent (first_sent bytes) → bytes ≡ []
none-waits [] e = refl
none-waits (b ∷ bs) e = let no : ⊥ = cc in absurd no

none-sent : (most : ℕ) (old mid new : Meaning) → 0 < most → Promised old.world Send (Sent None) mid.world → mid.frames.count ≡ old.frames.count → SameTrace old mid
    → new ≡ record mid { notes = keep_last mid.room (mid.notes ++ replicate most (Note.Sent None)) } → IsSoundMachine new → Goes old (replicate most (Send, Sent None)) new
none-sent zero old mid new some promised frames trace is sound = absurd (omega arith)
none-sent (suc n) old mid new some promised frames trace is sound =
    let world : new.world ≡ mid.world = ap (λ (m : Meaning). m.world) is in
    let before : old.world.state.console.to_send ≡ [] = none-waits old.world.state.console.to_send promised.0.0 in
    let empty : mid.world.state.console.to_send ≡ [] = ap (λ s. s.console.to_send) promised.0.1 ∙ ap (drop 1) before in
    let here = idle-send mid.world (subst NoReadySleeper world sound.unready) empty in
    goes-kept (replicate (suc n) (Send, Sent None)) (replicate (suc n) (Note.Sent None)) old mid new
    (mid.world, promised, again n mid.world Send (Sent None) here) frames trace (notes-again (suc n) Send (Sent None)) is sound

pub none-left : (most : ℕ) (byte : Option ℕ) (old mid new : Meaning) → 0 < most → is_some byte ≡ false
    → Promised old.world Send (Sent byte) mid.world → mid.frames.count ≡ old.frames.count → SameTrace old mid
    → new ≡ record mid { notes = keep_last mid.room (mid.notes ++ replicate most (Note.Sent None)) } → IsSoundMachine new → Goes old (sends most None) new
none-left most (Some b) old mid new some none promised frames trace is sound = let no : ⊥ = cc in absurd no
none-left most None old mid new some none promised frames trace is sound = none-sent most old mid new some promised frames trace is sound

pub byte-left : (most : ℕ) (byte : Option ℕ) (old mid new : Meaning) → is_some byte ≡ true → Promised old.world Send (Sent byte) mid.world → mid.frames.count ≡ old.frames.count → SameTrace old mid
    → new ≡ record mid { notes = keep_last mid.room (mid.notes ++ Note.Sent byte ∷ []) } → IsSoundMachine new → Goes old (sends most byte) new
byte-left most None old mid new some promised frames trace is sound = let no : ⊥ = cc in absurd no
byte-left most (Some b) old mid new some promised frames trace is sound =
    goes-kept ((Send, Sent (Some b)) ∷ []) (Note.Sent (Some b) ∷ []) old mid new (mid.world, promised, refl) frames trace refl is sound

-- ---- the Sends of a round show nothing at which no byte waits

pub out-again : (n : ℕ) → out (replicate n (Send, Sent None)) ≡ []
out-again zero = refl
out-again (suc n) = out-again n
