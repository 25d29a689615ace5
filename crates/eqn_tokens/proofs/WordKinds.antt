-- What a word is, by its length and its bytes, as the code reads them.
--     sub_reads, sup_reads, over_reads, from_reads, to_reads     the keywords
--     word_reads      a word that is none of them
-- Assumes nothing.
use Rattle.std.specs.Prelude.{◌≡◌, List, ℕ, length, get_or}
use Rattle.std.proofs.Common.{ap}
use Rattle.std.proofs.lemmas.Slice.Eq.{text_from_reads}
use Rattle.eqn_tokens.specs.Bytes.{same}
use Rattle.eqn_tokens.specs.BytesLaws.{same_not}
use Rattle.eqn_tokens.specs.Tokens.{word, keyword, keyword_of, sub_bytes, sup_bytes, over_bytes, from_bytes, to_bytes}
use Rattle.eqn_tokens.specs.declared.tokens.Keyword.TheVariants.{Sub, Sup, Over, From, To}

module _ (w : List ℕ) where
  pub sub_reads : length w ≡ 3 → get_or w 0 0 ≡ 115 → get_or w 1 0 ≡ 117 → get_or w 2 0 ≡ 98 → keyword Sub ≡ keyword_of w
  unfolding keyword_of same
  sub_reads l a b c = rw (text_from_reads w sub_bytes l (a, (b, (c, tt))))

  pub sup_reads : length w ≡ 3 → get_or w 0 0 ≡ 115 → get_or w 1 0 ≡ 117 → get_or w 2 0 ≡ 112 → keyword Sup ≡ keyword_of w
  unfolding keyword_of same
  sup_reads l a b c = rw (text_from_reads w sup_bytes l (a, (b, (c, tt))))

  pub over_reads : length w ≡ 4 → get_or w 0 0 ≡ 111 → get_or w 1 0 ≡ 118 → get_or w 2 0 ≡ 101 → get_or w 3 0 ≡ 114 → keyword Over ≡ keyword_of w
  unfolding keyword_of same
  over_reads l a b c d = rw (text_from_reads w over_bytes l (a, (b, (c, (d, tt)))))

  pub from_reads : length w ≡ 4 → get_or w 0 0 ≡ 102 → get_or w 1 0 ≡ 114 → get_or w 2 0 ≡ 111 → get_or w 3 0 ≡ 109 → keyword From ≡ keyword_of w
  unfolding keyword_of same
  from_reads l a b c d = rw (text_from_reads w from_bytes l (a, (b, (c, (d, tt)))))

  pub to_reads : length w ≡ 2 → get_or w 0 0 ≡ 116 → get_or w 1 0 ≡ 111 → keyword To ≡ keyword_of w
  unfolding keyword_of same
  to_reads l a b = rw (text_from_reads w to_bytes l (a, (b, tt)))

  -- the bytes of a word that is spelled so
  pub word_reads :
      (length w ≡ 3 → get_or w 0 0 ≡ 115 → get_or w 1 0 ≡ 117 → get_or w 2 0 ≡ 98 → ⊥) →
      (length w ≡ 3 → get_or w 0 0 ≡ 115 → get_or w 1 0 ≡ 117 → get_or w 2 0 ≡ 112 → ⊥) →
      (length w ≡ 4 → get_or w 0 0 ≡ 111 → get_or w 1 0 ≡ 118 → get_or w 2 0 ≡ 101 → get_or w 3 0 ≡ 114 → ⊥) →
      (length w ≡ 4 → get_or w 0 0 ≡ 102 → get_or w 1 0 ≡ 114 → get_or w 2 0 ≡ 111 → get_or w 3 0 ≡ 109 → ⊥) →
      (length w ≡ 2 → get_or w 0 0 ≡ 116 → get_or w 1 0 ≡ 111 → ⊥) →
      word w ≡ keyword_of w
  unfolding keyword_of
  word_reads a b c d e =
      rw (
        same_not w sub_bytes (λ is. a (ap length is) (at 0 is) (at 1 is) (at 2 is)),
        same_not w sup_bytes (λ is. b (ap length is) (at 0 is) (at 1 is) (at 2 is)),
        same_not w over_bytes (λ is. c (ap length is) (at 0 is) (at 1 is) (at 2 is) (at 3 is)),
        same_not w from_bytes (λ is. d (ap length is) (at 0 is) (at 1 is) (at 2 is) (at 3 is)),
        same_not w to_bytes (λ is. e (ap length is) (at 0 is) (at 1 is)),
      )
    where
      at : {p : List ℕ} (k : ℕ) → w ≡ p → get_or w k 0 ≡ get_or p k 0
      at k is = ap (λ (s : List ℕ). get_or s k 0) is
