-- What is served, byte by byte, and what is kept.
use Rattle.std.proofs.Common.{◌≡◌, ◌∙◌, ℕ, ◌+◌, ◌<◌, Bool, true, false, List, [], ◌∷◌, ◌++◌, length, take, drop, get_or, Option, None, Some, ap, append_assoc, inl, inr, flat_map, refl, subst, sym}
use Rattle.std.proofs.lemmas.List.{take-append-drop, take_more}
use Rattle.std.specs.Io.KnownBytes.{Appends}
use Rattle.gdb_packets.proofs.Fed.{fed_all-append}
use Rattle.gdb_packets.specs.Packets.{Reading, fed, fed_all, packet, piece}
use Rattle.gdb_packets.specs.declared.reader.Piece.{Piece}
use Rattle.gdb_target.specs.Kept.{EndsIn, IsSentLast}
use Rattle.gdb_target.specs.Served.{Pauses, shown_told}
use Rattle.gdb_target.specs.Serving.{IsDone, IsFed, IsKeptIf, IsTaken, Serves, ServesSome}
use Rattle.gdb_target.specs.declared.service.serving.After.{After}
use Rattle.gdb_target.specs.declared.service.serving.After.TheVariants.{GoesOn, Ends}
use Rattle.gdb_target.specs.declared.service.serving.Service.{Service}
use Rattle.gdb_target.specs.declared.target.Pause.{Pause}
use Rattle.gdb_target.specs.declared.target.Target.{Target}
use Rattle.gdb_target.specs.declared.target.Way.{Way}

-- ---- what is kept

ends-in : (a b : Option (List ℕ)) (bytes : List ℕ) → Appends a b bytes → EndsIn a b bytes
ends-in None b bytes appends = tt
ends-in (Some old) None bytes appends = absurd appends
ends-in (Some old) (Some all) bytes appends = (old, appends)

pub sent_last : (a b : Option (List ℕ)) (kept text : List ℕ) → kept ≡ packet text → Appends a b kept → IsSentLast kept a b
sent_last a b kept text is appends = record { text = text; whole = is; last = ends-in a b kept appends }

ends-later : (a b c : Option (List ℕ)) (bytes kept : List ℕ) → Appends a b bytes → EndsIn b c kept → EndsIn a c kept
ends-later None b c bytes kept appends ends = tt
ends-later (Some old) None c bytes kept appends ends = absurd appends
ends-later (Some old) (Some all) None bytes kept appends ends = ends
ends-later (Some old) (Some all) (Some more) bytes kept appends ends = ends

-- what is written before the packet changes nothing
pub sent_later : (a b c : Option (List ℕ)) (bytes kept : List ℕ) → Appends a b bytes → IsSentLast kept b c → IsSentLast kept a c
sent_later a b c bytes kept appends sent = record { text = sent.text; whole = sent.whole; last = ends-later a b c bytes kept appends sent.last }

-- nor does what is written before a pause
pub paused_later : (way : Way) (old : Target) (p : Option Pause) (new : Target) (a b c : Option (List ℕ)) (kept : List ℕ) → Pauses way old p new a b → IsSentLast kept b c → IsSentLast kept a c
paused_later way old p new a b c kept (inl is) sent = subst (λ (x : Option (List ℕ)). IsSentLast kept x c) is.nothing sent
paused_later way old p new a b c kept (inr resumes) sent = sent_later a b c (flat_map shown_told resumes.1.alone.texts) kept resumes.1.alone.sent sent

pub kept_later : (sends : Bool) (old new : List ℕ) (a b c : Option (List ℕ)) (bytes : List ℕ) → Appends a b bytes → IsKeptIf sends old new b c → IsKeptIf sends old new a c
kept_later true old new a b c bytes appends kept = sent_later a b c bytes new appends kept
kept_later false old new a b c bytes appends kept = kept

-- ---- bytes

module _ (new : Service) (k m : Option (List ℕ)) where
  pub serves-both : (xs ys : List ℕ) (r : Reading) (old mid : Service) (h : Option (List ℕ)) → Serves xs r old mid h k → Serves ys (fed_all xs r) mid new k m → Serves (xs ++ ys) r old new h m
  serves-both [] ys r old mid h first then =
      subst (λ (x : Option (List ℕ)). Serves ys r old new x m) first.1 (subst (λ (x : Service). Serves ys r x new k m) first.0 then)
  serves-both (x ∷ xs) ys r old mid h first then =
      (first.0, first.1, first.2, serves-both xs ys (fed x r) first.0 mid first.1 first.3 then)

-- and one byte more
pub serves-one : (b : ℕ) (r : Reading) (old new : Service) (h k : Option (List ℕ)) → IsFed b r old new h k GoesOn → Serves (b ∷ []) r old new h k
serves-one b r old new h k is = (new, k, is, (refl, refl))

-- bytes are served, and then some of the others
pub some-later : (xs ys : List ℕ) (r : Reading) (old mid new : Service) (h k m : Option (List ℕ)) → Serves xs r old mid h k
    → ServesSome ys (fed_all xs r) mid new k m → ServesSome (xs ++ ys) r old new h m
some-later xs ys r old mid new h k m first then = record {
  first = xs ++ then.first;
  last = then.last;
  rest = then.rest;
  parts = ap (λ (l : List ℕ). xs ++ l) then.parts ∙ sym (append_assoc xs then.first (then.last ∷ then.rest));
  mid = then.mid;
  told = then.told;
  serves = serves-both then.mid k then.told xs then.first r old mid h first then.serves;
  ends = subst (λ (x : Reading). IsFed then.last x then.mid new then.told m Ends) (sym (fed_all-append xs then.first r)) then.ends;
}

-- ---- a byte

-- it brings nothing to its end
pub fed-none : (b : ℕ) (r : Reading) (s : Service) (h : Option (List ℕ)) → piece b r ≡ None → IsFed b r s s h h GoesOn
fed-none b r s h none = subst (λ (o : Option Piece). IsDone o (fed b r).payload s s h h GoesOn) (sym none) (refl, refl, refl)

-- or this, which is done
pub fed-some : (b : ℕ) (r now : Reading) (p : Piece) (payload : List ℕ) (old new : Service) (h k : Option (List ℕ)) (more : After)
    → piece b r ≡ Some p → payload ≡ now.payload → now ≡ fed b r → IsTaken p payload old new h k more → IsFed b r old new h k more
fed-some b r now p payload old new h k more is text goes taken =
    subst (λ (o : Option Piece). IsDone o (fed b r).payload old new h k more) (sym is)
    (subst (λ (l : List ℕ). IsTaken p l old new h k more) (text ∙ ap (λ (x : Reading). x.payload) goes) taken)

module _ (bytes : List ℕ) (n : ℕ) (within : n < length bytes) (start r : Reading) (read : r ≡ fed_all (take n bytes) start) where
  one-more : take (n + 1) bytes ≡ take n bytes ++ get_or bytes n 0 ∷ []
  one-more = take_more bytes n 0 within

  pub fed-next : (now : Reading) → now ≡ fed (get_or bytes n 0) r → now ≡ fed_all (take (n + 1) bytes) start
  fed-next now goes =
      goes ∙ (ap (λ (x : Reading). fed (get_or bytes n 0) x) read ∙ (sym (fed_all-append (take n bytes) (get_or bytes n 0 ∷ []) start) ∙ ap (λ (l : List ℕ). fed_all l start) (sym one-more)))

  module _ (old mid new : Service) (h i k : Option (List ℕ)) (served : Serves (take n bytes) start old mid h i) where
    pub serves-next : IsFed (get_or bytes n 0) r mid new i k GoesOn → Serves (take (n + 1) bytes) start old new h k
    serves-next is =
        subst (λ (l : List ℕ). Serves l start old new h k) (sym one-more)
        (serves-both new i k (take n bytes) (get_or bytes n 0 ∷ []) start old mid h served
        (subst (λ (x : Reading). Serves (get_or bytes n 0 ∷ []) x mid new i k) read (serves-one (get_or bytes n 0) r mid new i k is)))

    pub serves-last : IsFed (get_or bytes n 0) r mid new i k Ends → ServesSome bytes start old new h k
    serves-last is = record {
      first = take n bytes;
      last = get_or bytes n 0;
      rest = drop (n + 1) bytes;
      parts = sym (take-append-drop (n + 1) bytes)
          ∙ (ap (λ (l : List ℕ). l ++ drop (n + 1) bytes) one-more ∙ append_assoc (take n bytes) (get_or bytes n 0 ∷ []) (drop (n + 1) bytes));
      mid = mid;
      told = i;
      serves = served;
      ends = subst (λ (x : Reading). IsFed (get_or bytes n 0) x mid new i k Ends) read is;
    }
