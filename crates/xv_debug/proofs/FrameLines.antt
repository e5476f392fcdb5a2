-- What a line asks, by its parts.
use Rattle.std.proofs.Common.{◌≡◌, ◌∙◌, true, false, List, ℕ, Option, ap, option_map, subst, sym}
use Rattle.std.specs.Str.{trim}
use Rattle.c_expressions.specs.Asked.{rest_of, word_of}
use Rattle.xv_debug.specs.FrameWords.{IsAsked, IsAskedIf, IsRefused, IsRefusedIf, before, behind, first_of, help, info, info_word, is_help, is_info, other, text_of, topic_named, topic_of}
use Rattle.xv_debug.specs.declared.frame_words.FrameWord.{FrameWord}
use Rattle.xv_debug.specs.declared.frame_words.FrameWord.TheVariants as words

module _ (line trimmed first rest text : List ℕ) (p : trimmed ≡ trim line) (q : first ≡ word_of trimmed) (r : rest ≡ rest_of trimmed) (t : text ≡ trim rest) where
  here : first ≡ first_of line
  here = q ∙ ap word_of p

  there : text ≡ text_of line
  there = t ∙ ap trim (r ∙ ap rest_of p)

  pub asked-info : (word : Option FrameWord) → is_info first ≡ true → word ≡ info_word text → IsAsked line word
  asked-info word is same =
      subst (λ (w : Option FrameWord). IsAsked line w) (sym (same ∙ ap info_word there)) (info (sym (ap is_info here) ∙ is))

  pub asked-help : (word : Option FrameWord) → is_info first ≡ false → is_help first ≡ true → word ≡ option_map words.Help (topic_named text) → IsAsked line word
  asked-help word no_info is same =
      subst (λ (w : Option FrameWord). IsAsked line w) (sym (same ∙ ap (λ (it : List ℕ). option_map words.Help (topic_named it)) there))
      (help (sym (ap is_info here) ∙ no_info) (sym (ap is_help here) ∙ is))

  pub asked-other : (word : Option FrameWord) (name form : List ℕ) → is_info first ≡ false → is_help first ≡ false → name ≡ before 47 first → form ≡ behind 47 first
      → IsAskedIf (topic_of name) form text word → IsAsked line word
  asked-other word name form no_info no_help named formed asked =
      other word (sym (ap is_info here) ∙ no_info) (sym (ap is_help here) ∙ no_help)
      (subst (λ (n : List ℕ). IsAskedIf (topic_of n) (behind 47 (first_of line)) (text_of line) word) (named ∙ ap (before 47) here)
      (subst (λ (f : List ℕ). IsAskedIf (topic_of name) f (text_of line) word) (formed ∙ ap (behind 47) here)
      (subst (λ (it : List ℕ). IsAskedIf (topic_of name) form it word) there asked)))

  pub refused-other : (name form : List ℕ) → is_info first ≡ false → is_help first ≡ false → name ≡ before 47 first → form ≡ behind 47 first
      → IsRefusedIf (topic_of name) form text → IsRefused line
  refused-other name form no_info no_help named formed why = record {
    no_info = sym (ap is_info here) ∙ no_info;
    no_help = sym (ap is_help here) ∙ no_help;
    refused = subst (λ (n : List ℕ). IsRefusedIf (topic_of n) (behind 47 (first_of line)) (text_of line)) (named ∙ ap (before 47) here)
        (subst (λ (f : List ℕ). IsRefusedIf (topic_of name) f (text_of line)) (formed ∙ ap (behind 47) here)
        (subst (λ (it : List ℕ). IsRefusedIf (topic_of name) form it) there why));
  }
