-- The search for the first word that a table has no name for, token by token.
--     Looked         the tokens before a place are known; with its start and its turn
--     looked_found, looked_all     where the search ends: at an unknown word, or behind the last token
-- Assumes nothing.
use mathlib.Core.Path.{◌≡◌, refl, sym, ap, ◌∙◌}
use mathlib.Core.Bool.{true, false}
use mathlib.Core.List.{List, ◌∷◌}
use mathlib.Core.Logic.{⊎_elim}
use mathlib.Core.Option.{Option, none, some}
use Prim.Native.Nat.{ℕ, ◌+◌, ◌≤◌}
use native.Mathlib.Omega.{arith}
use native.Mathlib.Nat.{zero-add}
use lib.ListN.{length, drop, drop_of_length-le}
use Rattle.eqn_tokens.specs.declared.tokens.Token as code
use Rattle.std.specs.Prelude.{Some, None}
use Rattle.eqn_tokens.specs.Tokens.{Token, tokens_from, tokens_in, place_in}
use Rattle.eqn_names.specs.Names.{Name}
use Rattle.eqn_names.specs.Unknown.{is_unknown, one_more, first_unknown}
use Rattle.eqn_tokens.specs.Values.{kind_as, TokenAt}
use Rattle.eqn_names.specs.Values.{UnknownFound}
use Rattle.eqn_tokens.specs.PlacesLaws.{bytes_of, Proper, proper, behind_tokens_lem, behind_places, token_separators}

-- so many more
abbrev pub more : ℕ → Option ℕ → Option ℕ
more n none = none
more n (some k) = some (n + k)

more_none : (o : Option ℕ) → o ≡ more 0 o
more_none none = refl
more_none (some k) = ap some (sym (zero-add k))

more_one : (n : ℕ) (o : Option ℕ) → more n (one_more o) ≡ more (n + 1) o
more_one n none = refl
more_one n (some k) = ap some (omega arith)

module _ (ns : List Name) (s : List ℕ) where
  pub record Looked (at : ℕ) : Type 0 where
    pub count : ℕ
    pub left : first_unknown ns (tokens_in s) ≡ more count (first_unknown ns (tokens_in (drop at s)))
    pub places : (k : ℕ) → place_in (count + k) s ≡ at + place_in k (drop at s)

  pub looked_none : Looked 0
  looked_none =
      record {
        count = 0;
        left = more_none (first_unknown ns (tokens_in s));
        places = λ k. rw (zero-add k) (omega arith);
      }

  module _ {at : ℕ} {t : code.Token} (l : Looked at) (f : TokenAt s at t) where
    -- the first token, where there is one
    front : Proper t.kind → tokens_in (drop at s) ≡ kind_as t.kind (bytes_of s t) ∷ tokens_in (drop t.end s)
    front p = f.tokens ∙ p.then (bytes_of s t) (tokens_in (drop t.end s))

    passed : Proper t.kind → is_unknown ns (kind_as t.kind (bytes_of s t)) ≡ false → Looked t.end
    unfolding first_unknown
    passed p known =
        record {
          count = l.count + 1;
          left =
              l.left
              ∙ ap (λ (ts : List Token). more l.count (first_unknown ns ts)) (front p)
              ∙ rw (known, first_unknown) (more_one l.count (first_unknown ns (tokens_in (drop t.end s))));
          places =
              λ k.
              let next : l.count + 1 + k ≡ l.count + (k + 1) = omega arith in
              rw next (l.places (k + 1) ∙ f.places k);
        }

    -- behind separators alone
    moved : t.start ≡ t.end → Looked t.end
    moved is =
        let separators = token_separators f in
        record {
          count = l.count;
          left =
              l.left
              ∙ ap (λ (ts : List Token). more l.count (first_unknown ns ts))
              (behind_tokens_lem separators ∙ ap (λ (i : ℕ). tokens_in (drop i s)) is);
          places = λ k. l.places k ∙ behind_places separators k ∙ ap (λ (i : ℕ). i + place_in k (drop i s)) is;
        }

    pub looked_next : is_unknown ns (kind_as t.kind (bytes_of s t)) ≡ false → Looked t.end
    looked_next known = ⊎_elim (λ is. moved (rw is at f.some)) (λ p. passed p known) (proper t.kind)

    pub looked_found : Proper t.kind → is_unknown ns (kind_as t.kind (bytes_of s t)) ≡ true → UnknownFound ns s (Some t.start)
    unfolding first_unknown
    looked_found p unknown =
        let here : l.count + 0 ≡ l.count = omega arith in (
          l.count,
          l.left
              ∙ ap (λ (ts : List Token). more l.count (first_unknown ns ts)) (front p)
              ∙ rw (unknown, first_unknown) (ap some here),
          sym f.place ∙ sym (l.places 0) ∙ ap (λ (n : ℕ). place_in n s) here,
        )

  pub looked_all : {at : ℕ} → Looked at → length s ≤ at → UnknownFound ns s None
  unfolding first_unknown tokens_from
  looked_all l e = l.left ∙ ap (λ (r : List ℕ). more l.count (first_unknown ns (tokens_in r))) (drop_of_length-le s e)
