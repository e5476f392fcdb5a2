-- Keys that are typed, one behind another.
use Rattle.std.proofs.Common.{◌≡◌, ◌∙◌, ℕ, zero, suc, List, [], ◌∷◌, ◌++◌, append_assoc, append-nil, Option, Some, refl, sym, ap, ap₂, subst, replicate}
use Rattle.std.proofs.KnownBytes.{Consumes-nil, Consumes-trans}
use Rattle.std.proofs.lemmas.Grind.{flat_map-append}
use Rattle.std.specs.Io.KnownBytes.{Consumes}
use Rattle.kernel_spec.specs.runs.Run as runs
use Rattle.kernel_spec.specs.runs.Run.{Event}
use Rattle.kernel_spec.specs.runs.Rounds.{events}
use Rattle.xv_machine.proofs.Joins.{events-join}
use Rattle.xv_session.specs.Recorded.{Recorded}
use Rattle.xv_live.specs.Attends.{Types, TypesFirst, Attends}
use Rattle.std.specs.Option.{option_to_list}
use Rattle.xv_live.specs.declared.host.Look.{Look}
use Rattle.xv_live.specs.declared.host.Look.TheVariants.{Came}
use Rattle.xv_live.specs.Keys.{Looks, bytes_in, key_in, keys_of, key_of, leading_of, leads, typed_by, typed_of}
use Rattle.xv_live.specs.declared.pauses.Pause.{Pause}
use Rattle.xv_live.specs.Plays.{Plays}
use Rattle.xv_live.proofs.Joined.{shown-none, shown-join}

keys-join : (xs ys : List Event) → keys_of (xs ++ ys) ≡ keys_of xs ++ keys_of ys
keys-join xs ys = flat_map-append key_in xs ys

typed-join : (xs ys : List ℕ) → typed_of (xs ++ ys) ≡ typed_of xs ++ typed_of ys
typed-join xs ys = flat_map-append (λ b. typed_by (key_of b)) xs ys

leading-join : (xs ys : List ℕ) → leading_of (xs ++ ys) ≡ leading_of xs ++ leading_of ys
leading-join xs ys = flat_map-append (λ b. leads (key_of b)) xs ys

runs-keys : (n : ℕ) → keys_of (replicate n runs.Run) ≡ []
runs-keys zero = refl
runs-keys (suc n) = runs-keys n

pub types-none : (s : Recorded) (h : Option (List ℕ)) → Types [] s s h h
unfolding shown-none
types-none s h = record { shown = shown-none s h; those = refl }

pub types-plays : (list : List Event) (s t : Recorded) (h k : Option (List ℕ)) → Plays list s t h k → Types (keys_of list) s t h k
types-plays list s t h k p = record { shown = p.shown; those = ap keys_of p.those }

pub types-runs : (n : ℕ) (s t : Recorded) (h k : Option (List ℕ)) → Plays (replicate n runs.Run) s t h k → Types [] s t h k
types-runs n s t h k p = record { shown = p.shown; those = ap keys_of p.those ∙ runs-keys n }

pub types-join : (xs ys : List ℕ) (s t u : Recorded) (h k m : Option (List ℕ)) → Types xs s t h k → Types ys t u k m → Types (xs ++ ys) s u h m
unfolding shown-join
types-join xs ys s t u h k m p q = record {
  shown = shown-join s t u h k m p.shown q.shown;
  those = ap keys_of (events-join p.shown.list q.shown.list) ∙ (keys-join (events p.shown.list) (events q.shown.list) ∙ ap₂ (λ (us vs : List ℕ). us ++ vs) p.those q.those);
}

-- ---- keys that waited

pub first-none : (s : Recorded) (h : Option (List ℕ)) (w : List ℕ) → TypesFirst s s h h w w
first-none s h w = record { keys = []; typed = types-none s h; first = refl }

pub first-more : (key : ℕ) (s t u : Recorded) (h k m : Option (List ℕ)) (w v x : List ℕ) → TypesFirst s t h k w v → v ≡ key ∷ x → Plays (runs.Key key ∷ []) t u k m → TypesFirst s u h m w x
first-more key s t u h k m w v x p front q = record {
  keys = p.keys ++ key ∷ [];
  typed = types-join p.keys (key ∷ []) s t u h k m p.typed (types-plays (runs.Key key ∷ []) t u k m q);
  first = p.first ∙ (ap (λ (ks : List ℕ). p.keys ++ ks) front ∙ sym (append_assoc p.keys (key ∷ []) x));
}

pub first-took : (o : Option ℕ) (key : ℕ) (s t u : Recorded) (h k m : Option (List ℕ)) (w v x : List ℕ) → TypesFirst s t h k w v
    → v ≡ option_to_list o ++ x → o ≡ Some key → Plays (runs.Key key ∷ []) t u k m → TypesFirst s u h m w x
first-took o key s t u h k m w v x p front is q = first-more key s t u h k m w v x p (front ∙ ap (λ (a : Option ℕ). option_to_list a ++ x) is) q

-- and then events without keys
pub first-then : (s t u : Recorded) (h k m : Option (List ℕ)) (w v : List ℕ) → TypesFirst s t h k w v → Types [] t u k m → TypesFirst s u h m w v
first-then s t u h k m w v p q = record {
  keys = p.keys;
  typed = subst (λ (ks : List ℕ). Types ks s u h m) (append-nil p.keys) (types-join p.keys [] s t u h k m p.typed q);
  first = p.first;
}

-- ---- bytes that came

pub looks-join : (l m : List Pause) (c d e : Option (List ℕ)) (w v x : List ℕ) → Looks l c d w v → Looks m d e v x → Looks (l ++ m) c e w x
looks-join l m c d e w v x p q = record {
  bytes = p.bytes ++ q.bytes;
  came = Consumes-trans c d e p.bytes q.bytes p.came q.came;
  kept = q.kept ∙ (ap (λ (ks : List ℕ). ks ++ typed_of q.bytes) p.kept
      ∙ (append_assoc w (typed_of p.bytes) (typed_of q.bytes) ∙ ap (λ (ks : List ℕ). w ++ ks) (sym (typed-join p.bytes q.bytes))));
  asked_for = leading-join p.bytes q.bytes ∙ ap₂ (λ (us vs : List Pause). us ++ vs) p.asked_for q.asked_for;
}

pub looks-came : (l : Look) (b : ℕ) (led : List Pause) (c d e : Option (List ℕ)) (w v x : List ℕ) → Looks [] c d w v → l ≡ Came b → Consumes d e (bytes_in l) → x ≡ v ++ typed_by (key_of b)
    → leads (key_of b) ≡ led → Looks led c e w x
looks-came l b led c d e w v x p is came kept leading = looks-join [] led c d e w v x p (record {
  bytes = b ∷ [];
  came = subst (λ (m : Look). Consumes d e (bytes_in m)) is came;
  kept = kept ∙ ap (λ (ks : List ℕ). v ++ ks) (sym (append-nil (typed_by (key_of b))));
  asked_for = append-nil (leads (key_of b)) ∙ leading;
})

-- ---- a machine that is attended to

pub attends-none : (s : Recorded) (h c : Option (List ℕ)) (w : List ℕ) → Attends [] s s h h c c w w
unfolding shown-none
attends-none s h c w = record { shown = shown-none s h; bytes = []; came = Consumes-nil c; keys = append-nil w; asked_for = refl }

-- bytes came, and nothing else
pub attends-looks : (led : List Pause) (s : Recorded) (h k c d : Option (List ℕ)) (w v : List ℕ) → k ≡ h → Looks led c d w v → Attends led s s h k c d w v
unfolding shown-none
attends-looks led s h k c d w v same p =
    subst (λ (x : Option (List ℕ)). Attends led s s x k c d w v) same (record { shown = shown-none s k; bytes = p.bytes; came = p.came; keys = sym p.kept; asked_for = p.asked_for })

pub attends-types : (s t : Recorded) (h k c d : Option (List ℕ)) (w v : List ℕ) → d ≡ c → TypesFirst s t h k w v → Attends [] s t h k c d w v
attends-types s t h k c d w v same p = record {
  shown = p.typed.shown;
  bytes = [];
  came = subst (λ (x : Option (List ℕ)). Consumes x d []) same (Consumes-nil d);
  keys = append-nil w ∙ (p.first ∙ ap (λ (ks : List ℕ). ks ++ v) (sym p.typed.those));
  asked_for = refl;
}

-- and the screen wasn't written after it
pub attends-seen : (l : List Pause) (s t : Recorded) (h k m c d : Option (List ℕ)) (w v : List ℕ) → m ≡ k → Attends l s t h k c d w v → Attends l s t h m c d w v
attends-seen l s t h k m c d w v same a = subst (λ (x : Option (List ℕ)). Attends l s t h x c d w v) (sym same) a

pub attends-join : (l n : List Pause) (s t u : Recorded) (h k m c d e : Option (List ℕ)) (w v x : List ℕ) → Attends l s t h k c d w v → Attends n t u k m d e v x → Attends (l ++ n) s u h m c e w x
unfolding shown-join
attends-join l n s t u h k m c d e w v x p q = record {
  shown = shown-join s t u h k m p.shown q.shown;
  bytes = p.bytes ++ q.bytes;
  came = Consumes-trans c d e p.bytes q.bytes p.came q.came;
  keys =
      ap (λ (ks : List ℕ). w ++ ks) (typed-join p.bytes q.bytes)
      ∙ (sym (append_assoc w (typed_of p.bytes) (typed_of q.bytes))
      ∙ (ap (λ (ks : List ℕ). ks ++ typed_of q.bytes) p.keys
      ∙ (append_assoc (keys_of (events p.shown.list)) v (typed_of q.bytes)
      ∙ (ap (λ (ks : List ℕ). keys_of (events p.shown.list) ++ ks) q.keys
      ∙ (sym (append_assoc (keys_of (events p.shown.list)) (keys_of (events q.shown.list)) x)
      ∙ ap (λ (ks : List ℕ). ks ++ x) (sym (keys-join (events p.shown.list) (events q.shown.list)) ∙ ap keys_of (sym (events-join p.shown.list q.shown.list))))))));
  asked_for = leading-join p.bytes q.bytes ∙ ap₂ (λ (us vs : List Pause). us ++ vs) p.asked_for q.asked_for;
}

pub attends-led : (l n : List Pause) (s t : Recorded) (h k c d : Option (List ℕ)) (w v : List ℕ) → l ≡ n → Attends l s t h k c d w v → Attends n s t h k c d w v
attends-led l n s t h k c d w v same p = subst (λ (x : List Pause). Attends x s t h k c d w v) same p
