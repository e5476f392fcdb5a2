-- The texts that facts tell are those that a row reads.
use Rattle.std.proofs.Common.{◌≡◌, ℕ, zero, suc, ◌+◌, Bool, cond, true, false, List, [], ◌∷◌, Option, Some, None, refl, sym, ap, ◌∙◌, arith}
use Rattle.std.specs.Prelude.{nat_eq, map, option_map}
use Rattle.std.specs.List.{range_with_len}
use Rattle.xk_base.specs.declared.access.Access.TheVariants.{Load}
use Rattle.xk_base.specs.Bytes.{image_byte, image_bytes}
use Rattle.xk_base.specs.Words.{le}
use Rattle.kernel_spec.specs.rows.Buffers as buffers
use Rattle.kernel_spec.specs.rows.Buffers.{may_touching, reaches_touching, readable, text_from}
use Rattle.kernel_spec.specs.views.View.{View}
use Rattle.kernel_spec.specs.views.Words.{◌>>=◌}
use Rattle.call_reasons.specs.Facts.{can_reach, facts_of}
use Rattle.call_reasons.specs.Laws.{EndsLow}
use Rattle.call_reasons.specs.Texts.{list_with, pointer_at, text_at, text_before, text_with, texts_at}
use Rattle.call_reasons.proofs.Reach.{is_reached, not_reached, of_all, of_each}

module _ (v : View) where
  -- what facts tell is what is there; and if they tell nothing, nothing is there, if no address from 2^38 on is memory
  abbrev pub Follows : {A : Type 0} → (told there : Option A) → Type 0
  Follows None there = EndsLow v → there ≡ None
  Follows (Some a) there = there ≡ Some a

  -- ---- bytes

  byte_there : (a : ℕ) → can_reach Load v.image a 1 ≡ true → may_touching Load v.image a ≡ true
  unfolding reaches_touching
  byte_there a e = of_each 1 a (may_touching Load v.image) (is_reached Load v.image a 1 e) a (omega arith) (omega arith)

  byte_missing : EndsLow v → (a : ℕ) → can_reach Load v.image a 1 ≡ false → may_touching Load v.image a ≡ false
  unfolding reaches_touching
  byte_missing low a e = by (may_touching Load v.image a) refl
    where
      all : may_touching Load v.image a ≡ true → reaches_touching Load v.image a 1 ≡ true
      all is = of_all 1 a (may_touching Load v.image) (λ u from below. let same : u ≡ a = omega (arith, from, below) in ap (may_touching Load v.image) same ∙ is)

      by : (b : Bool) → may_touching Load v.image a ≡ b → may_touching Load v.image a ≡ false
      by false is = is
      by true is = let no : true ≡ false = sym (all is) ∙ not_reached Load v.image a (low Load) 1 e in let bad : ⊥ = cc in absurd bad

  -- ---- a text

  first_follows : (byte : ℕ) (o there : Option (List ℕ)) → Follows o there → Follows (text_from byte o) (text_from byte there)
  first_follows byte o there h = by (nat_eq byte 0) o h
    where
      by : (b : Bool) (o : Option (List ℕ)) → Follows o there → Follows (cond b (Some []) (option_map (λ bytes. byte ∷ bytes) o)) (cond b (Some []) (option_map (λ bytes. byte ∷ bytes) there))
      by true o h = refl
      by false None h = λ low. ap (option_map (λ bytes. byte ∷ bytes)) (h low)
      by false (Some text) h = ap (option_map (λ bytes. byte ∷ bytes)) h

  pub text_follows : (limit a : ℕ) → Follows (text_at (facts_of v) limit a) (buffers.text_at limit v.image a)
  unfolding text_at buffers.text_at
  text_follows zero a = λ low. refl
  text_follows (suc limit) a = by (can_reach Load v.image a 1) refl (text_follows limit (a + 1))
    where
      by : (b : Bool) → can_reach Load v.image a 1 ≡ b → Follows (text_at (facts_of v) limit (a + 1)) (buffers.text_at limit v.image (a + 1))
          → Follows (text_with (cond b (Some (image_byte v.image a)) None) (text_at (facts_of v) limit (a + 1)))
          (cond (may_touching Load v.image a) (text_from (image_byte v.image a) (buffers.text_at limit v.image (a + 1))) None)
      by true is h = rw (byte_there a is) (first_follows (image_byte v.image a) _ _ h)
      by false is h = λ low. ap (λ b. cond b (text_from (image_byte v.image a) (buffers.text_at limit v.image (a + 1))) None) (byte_missing low a is)

  -- ---- a list of texts

  pointer_follows : (a : ℕ) → Follows (pointer_at (facts_of v) a) (buffers.pointer_at v.image a)
  pointer_follows a = by (can_reach Load v.image a 8) refl
    where
      by : (b : Bool) → can_reach Load v.image a 8 ≡ b
          → Follows (cond b (Some (le (map (image_byte v.image) (range_with_len a 8)))) None) (cond (readable v.image a 8) (Some (le (image_bytes v.image a 8))) None)
      by true is = ap (λ b. cond b (Some (le (image_bytes v.image a 8))) None) (is_reached Load v.image a 8 is)
      by false is = λ low. ap (λ b. cond b (Some (le (image_bytes v.image a 8))) None) (not_reached Load v.image a (low Load) 8 is)

  -- a row's texts, by its pointer
  abbrev listed : (pointer : Option ℕ) → (rest : ℕ → Option (List (List ℕ))) → Option (List (List ℕ))
  listed pointer rest = pointer >>= (λ p. cond (nat_eq p 0) (Some []) (rest p))

  both_follow : (o there : Option (List ℕ)) (told rest : Option (List (List ℕ))) → Follows o there → Follows told rest
      → Follows (text_before o told) (there >>= (λ text. rest >>= (λ texts. Some (text ∷ texts))))
  both_follow None there told rest h g = λ low. ap (λ t. t >>= (λ text. rest >>= (λ texts. Some (text ∷ texts)))) (h low)
  both_follow (Some text) there told rest h g = rw h (by told rest g)
    where
      by : (told rest : Option (List (List ℕ))) → Follows told rest → Follows (option_map (λ texts. text ∷ texts) told) (rest >>= (λ texts. Some (text ∷ texts)))
      by None rest g = λ low. ap (λ o. o >>= (λ texts. Some (text ∷ texts))) (g low)
      by (Some texts) rest g = ap (λ o. o >>= (λ texts. Some (text ∷ texts))) g

  list_follows : (pointer there : Option ℕ) (text : ℕ → Option (List ℕ)) (told : Option (List (List ℕ))) (rest : ℕ → Option (List (List ℕ))) → Follows pointer there
      → ((p : ℕ) → Follows (text_before (text p) told) (rest p)) → Follows (list_with pointer text told) (listed there rest)
  list_follows None there text told rest h g = λ low. ap (λ o. listed o rest) (h low)
  list_follows (Some p) there text told rest h g = rw h (by (nat_eq p 0))
    where
      by : (z : Bool) → Follows (cond z (Some []) (text_before (text p) told)) (cond z (Some []) (rest p))
      by true = refl
      by false = g p

  pub texts_follow : (more limit a : ℕ) → Follows (texts_at (facts_of v) more limit a) (buffers.texts_at more limit v.image a)
  unfolding texts_at buffers.texts_at
  texts_follow zero limit a = list_follows _ _ (λ p. None) None (λ p. None) (pointer_follows a) (λ p low. refl)
  texts_follow (suc more) limit a =
      list_follows _ _ (λ p. text_at (facts_of v) limit p) _ _ (pointer_follows a)
      (λ p. both_follow (text_at (facts_of v) limit p) (buffers.text_at limit v.image p) _ _ (text_follows limit p) (texts_follow more limit (a + 8)))
