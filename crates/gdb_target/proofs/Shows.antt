-- What the console shows, told in packets.
use Rattle.std.proofs.Common.{◌≡◌, ◌∙◌, ℕ, List, [], ◌∷◌, ◌++◌, append-nil, Option, None, Some, true, ap, subst, sym, refl}
use Rattle.std.specs.Prelude.{◌≤◌, false, flat_map, length}
use Rattle.std.proofs.KnownBytes.{Appends-trans}
use Rattle.std.proofs.lemmas.Grind.{flat_map-append}
use Rattle.std.specs.Io.KnownBytes.{Appends}
use Rattle.std.proofs.lemmas.Bool.{false≢true}
use Rattle.gdb_target.specs.Forth.{shows}
use Rattle.gdb_target.specs.Served.{IsSpent, ShowsAlone, shown_told}
use Rattle.gdb_target.specs.declared.target.Pause.{Pause}
use Rattle.gdb_target.specs.declared.target.Pause.TheVariants as pauses
use Rattle.gdb_target.specs.declared.target.Target.{Target}

pub shows-more : (h k m : Option (List ℕ)) (text : List ℕ) → ShowsAlone h k → Appends k m (shown_told text) → ShowsAlone h m
shows-more h k m text shows more = record {
  texts = shows.texts ++ text ∷ [];
  sent = subst (λ (bs : List ℕ). Appends h m bs)
      (ap (λ (bs : List ℕ). flat_map shown_told shows.texts ++ bs) (sym (append-nil (shown_told text))) ∙ sym (flat_map-append shown_told shows.texts (text ∷ [])))
      (Appends-trans h k m (flat_map shown_told shows.texts) (shown_told text) shows.sent more);
}

pub shows-is : (pause : Option Pause) → shows pause ≡ true → pause ≡ Some pauses.Shows
shows-is None so = absurd (false≢true so)
shows-is (Some pauses.Shows) so = refl
shows-is (Some (pauses.Stopped s)) so = absurd (false≢true so)
shows-is (Some pauses.Gone) so = absurd (false≢true so)
shows-is (Some (pauses.Ended status)) so = absurd (false≢true so)

-- what stops otherwise than to tell what the console shows, stops at the end if it stops by itself
pub spent-is : (pause : Option Pause) (end : ℕ) (t : Target) → shows pause ≡ false → (pause ≡ None → end ≤ length t.run.session.events) → IsSpent pause end t
spent-is None end t so over = over refl
spent-is (Some pauses.Shows) end t so over = false≢true (sym so)
spent-is (Some (pauses.Stopped s)) end t so over = tt
spent-is (Some pauses.Gone) end t so over = tt
spent-is (Some (pauses.Ended status)) end t so over = tt
