-- Tokens written one behind the other.
--     text_append       the text of tokens behind others: behind some text each stands behind a space
--     token_put         a token that was written
--     nothing_put       no tokens
--     put_then          tokens behind others that were written
--     put_none          others behind tokens that there are not
-- The idea: a text ends behind the front of the buffer as soon as a token has been written, so that what follows goes on with a space.
-- Assumes nothing.
use mathlib.Core.Path.{◌≡◌, refl, sym, ap, ◌∙◌}
use mathlib.Core.List.{List, [], ◌∷◌, ◌++◌, append_assoc, append-nil}
use mathlib.Core.Option.{Option, none, some}
use Prim.Native.Nat.{ℕ, zero, suc, ◌+◌, ◌<◌}
use native.Mathlib.Omega.{arith}
use lib.ListN.{length, length-append}
use lib.Seq.{sets, length-sets}
use Rattle.eqn_tokens.specs.Tokens.{Token, token_bytes}
use Rattle.eqn_meaning.specs.Writing.{spaced}
use Rattle.std.specs.Prelude.{Some, None}
use Rattle.eqn_write.specs.Values.{Put, token_text, text_from, Texted, Untexted, TextPut}
use Rattle.eqn_write.specs.Writes.{joined}
use Rattle.eqn_write.proofs.StoreLaws.{sets_append}

spaced_append : (ts us : List Token) → spaced (ts ++ us) ≡ spaced ts ++ spaced us
unfolding spaced
spaced_append [] us = refl
spaced_append (t ∷ ts) us = ap (λ (r : List ℕ). 32 ∷ r) (rw (spaced_append ts us, append_assoc (token_bytes t) (spaced ts) (spaced us)))

-- behind something each token stands behind a space
text_spaced : (at : ℕ) (ts : List Token) → 0 < at → text_from at ts ≡ spaced ts
unfolding text_from spaced
text_spaced zero ts h = absurd (omega arith)
text_spaced (suc at) [] h = refl
text_spaced (suc at) (t ∷ ts) h = refl

pub text_append : (at : ℕ) (ts us : List Token) → 0 < at + length (text_from at ts) →
    text_from at (ts ++ us) ≡ text_from at ts ++ text_from (at + length (text_from at ts)) us
unfolding text_from
text_append at [] us h =
    let same : at + 0 ≡ at = omega arith in
    rw same
text_append at (t ∷ ts) us h =
    ap (λ (r : List ℕ). token_text at (token_bytes t) ++ r) (spaced_append ts us)
    ∙ rw (text_spaced (at + length (text_from at (t ∷ ts))) us h) (sym (append_assoc (token_text at (token_bytes t)) (spaced ts) (spaced us)))

pub token_put : {at e : ℕ} {before after : List ℕ} (t : Token) {w : List ℕ} → token_bytes t ≡ w → e ≡ at + length (token_text at w) →
    after ≡ sets before at (token_text at w) → Texted (some (t ∷ [])) at e before after
unfolding text_from spaced
token_put {at} t {w} is ends stored =
    let alone : token_text at (token_bytes t) ++ [] ≡ token_text at w = append-nil (token_text at (token_bytes t)) ∙ ap (token_text at) is in
    record { tokens = t ∷ []; are = refl; ends = rw alone ends; stored = rw alone stored }

pub nothing_put : (at : ℕ) (before : List ℕ) → Texted (some []) at at before before
unfolding text_from
nothing_put at before = record { tokens = []; are = refl; ends = omega arith; stored = refl }

module _ {o p : Option (List Token)} {at e : ℕ} {before between after : List ℕ} where
  both_put : {e₂ : ℕ} → 0 < e → Texted o at e before between → Texted p e e₂ between after → Texted (joined o p) at e₂ before after
  both_put {e₂} pos first second =
      let ts = first.tokens in
      let us = second.tokens in
      let text = text_append at ts us (omega (arith, first.ends)) in
      let long = length-append (text_from at ts) (text_from (at + length (text_from at ts)) us) in
      let are : joined o p ≡ some (ts ++ us) = rw (first.are, second.are) in
      record {
        tokens = ts ++ us;
        are = are;
        ends = rw text (rw first.ends at second.ends ∙ rw long (omega arith));
        stored =
            second.stored ∙ rw (first.stored, first.ends, text)
            (sym (sets_append before at (text_from at ts) (text_from (at + length (text_from at ts)) us)));
      }

  then_none : Texted o at e before between → Untexted p between after → Untexted (joined o p) before after
  then_none first second =
      let none_are : joined o p ≡ none = rw (first.are, second.none_are) in
      record { none_are = none_are; as_long = second.as_long ∙ ap length first.stored ∙ length-sets before at (text_from at first.tokens) }

pub put_then : {o : Option (List Token)} (p : Option (List Token)) {at e : ℕ} {before between : List ℕ} (after : List ℕ) (r : Put) → 0 < e → Texted o at e before between → TextPut p e between after r → TextPut (joined o p) at before after r
put_then p after (Some e₂) pos first second = both_put pos first second
put_then p after None pos first second = then_none first second

pub put_none : {o : Option (List Token)} (p : Option (List Token)) {before after : List ℕ} → Untexted o before after → Untexted (joined o p) before after
put_none p u = record { none_are = rw u.none_are; as_long = u.as_long }
