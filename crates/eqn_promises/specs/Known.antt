-- Tokens of which something holds, one by one, with the names of a table.
--     All               of each token of a list; of two lists together by `all_append`, apart by `all_split`
--     GoodNames         what holds of the names of a good table
--     Known             a token that is no unknown word; those of a list are all known exactly if it has no first unknown one
--                       (`known_none`, `none_known`)
--     Written           a token that the writer makes: a word with a name, a keyword or a brace
--     written_known     such a token is known
-- Assumes nothing.
use Rattle.std.proofs.Math.Path.{◌≡◌, refl}
use Rattle.std.specs.Prelude.{Bool, not, ℕ}
use Rattle.std.proofs.Math.Bool.{true, false}
use mathlib.Core.List.{List, [], ◌∷◌, ◌++◌, Memᴰ}
use Rattle.std.proofs.Math.Option.{Option, none, some}
use Rattle.std.proofs.Common.{arith}
use Rattle.eqn_tokens.specs.Tokens.{Token, word, keyword, opening, closing, other}
use Rattle.eqn_names.specs.Names.{Name, named, is_there}
use Rattle.eqn_names.proofs.NamesLaws.{Tabled}
use Rattle.eqn_names.specs.Unknown.{is_unknown, one_more, first_unknown}

pub data All (P : Token → Type 0) : List Token → Type 0 where
  all_nil : All P []
  all_cons : {t : Token} {ts : List Token} → P t → All P ts → All P (t ∷ ts)

pub all_append : {P : Token → Type 0} {ts us : List Token} → All P ts → All P us → All P (ts ++ us)
all_append all_nil k = k
all_append (all_cons p h) k = all_cons p (all_append h k)

pub all_split : {P : Token → Type 0} (ts us : List Token) → All P (ts ++ us) → All P ts × All P us
all_split [] us h = (all_nil, h)
all_split (t ∷ ts) us (all_cons p h) = let r = all_split ts us h in (all_cons p r.0, r.1)

pub all_tail : {P : Token → Type 0} {t : Token} {ts : List Token} → All P (t ∷ ts) → All P ts
all_tail (all_cons p h) = h

pub all_map : {P Q : Token → Type 0} → ((t : Token) → P t → Q t) → {ts : List Token} → All P ts → All Q ts
all_map f all_nil = all_nil
all_map f (all_cons p h) = all_cons (f _ p) (all_map f h)

module _ (ns : List Name) where
  abbrev pub GoodNames : Type 0
  GoodNames = (m : Name) → Memᴰ m ns → Tabled ns m

  abbrev pub Known : Token → Type 0
  Known t = is_unknown ns t ≡ false

  pub known_none : {ts : List Token} → All Known ts → first_unknown ns ts ≡ none
  unfolding first_unknown
  known_none all_nil = refl
  known_none (all_cons p h) = rw (p, first_unknown, known_none h)

  pub none_known : (ts : List Token) → first_unknown ns ts ≡ none → All Known ts
  unfolding first_unknown
  none_known [] e = all_nil
  none_known (t ∷ ts) e = go (is_unknown ns t) refl (first_unknown ns ts) (none_known ts) e
    where
      go : (b : Bool) → is_unknown ns t ≡ b → (o : Option ℕ) → (o ≡ none → All Known ts) →
          ◌≡◌ {A = Option ℕ} (elim b [ true ↦ some 0 | false ↦ one_more o ]) none → All Known (t ∷ ts)
      go true is o rest e = let no : ◌≡◌ {A = ℕ} 0 1 = cc in absurd (omega arith)
      go false is none rest e = all_cons is (rest refl)
      go false is (some n) rest e = let no : ◌≡◌ {A = ℕ} 0 1 = cc in absurd (omega arith)

  abbrev pub HasName : List ℕ → Type 0
  HasName w = (m : Name) × (named ns w ≡ some m)

  abbrev pub Written : Token → Type 0
  Written (word w) = HasName w
  Written (keyword k) = Unit {0}
  Written opening = Unit {0}
  Written closing = Unit {0}
  Written (other b) = ⊥

  pub has_name : (w : List ℕ) → Known (word w) → HasName w
  has_name w = go (named ns w) refl
    where
      go : (o : Option Name) → named ns w ≡ o → not (is_there o) ≡ false → HasName w
      go none is e = let no : ◌≡◌ {A = ℕ} 0 1 = cc in absurd (omega arith)
      go (some m) is e = (m, is)

  pub written_known : (t : Token) → Written t → Known t
  written_known (word w) h = rw h.1
  written_known (keyword k) h = refl
  written_known opening h = refl
  written_known closing h = refl
  written_known (other b) h = refl
