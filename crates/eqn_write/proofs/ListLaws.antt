-- A list, written item by item.
--     Reached           the list's text is written up to a place: whatever writes the rest from there writes the whole
--     reached_start, reached_next     the loop's start and its turn
--     item_size_lem, reached_asked        the item at the place lies in the list, and its text has room
--     reached_other, reached_stop     an item that the reader does not make, and one without a text
--     reached_done      the list's end
-- Assumes nothing.
use mathlib.Core.Path.{◌≡◌, refl, sym, ap, subst, ◌∙◌}
use mathlib.Core.List.{List}
use mathlib.Core.Option.{Option}
use Prim.Native.Nat.{ℕ, ◌+◌, ◌*◌, ◌≤◌, ◌<◌}
use native.Mathlib.Omega.{arith}
use lib.ListN.{length, drop, length-drop}
use lib.Seq.{drop-drop}
use Rattle.eqn_tokens.specs.Tokens.{Token}
use Rattle.eqn_names.specs.Names.{Name, Records}
use Rattle.formula.specs.declared.Kind.{Kind}
use Rattle.formula.specs.declared.Opening.{Opening}
use Rattle.formula.specs.declared.Opening.TheVariants.{Fields}
use Rattle.formula.specs.Heads.{opening_of}
use Rattle.formula.specs.Places.{Readable, end}
use Rattle.formula.specs.PlacesLaws.{noad_at_lem}
use Rattle.std.specs.Prelude.{Some, None}
use Rattle.eqn_write.specs.Values.{Put, text_limit, HasNames, TextPut, ListPut}
use Rattle.eqn_write.specs.Writes.{joined, item_tokens, ItemAsked, ItemPut}
use Rattle.eqn_write.proofs.PutLaws.{nothing_put, put_then, put_none}
use Rattle.eqn_write.proofs.ItemLaws.{row_text, row_first, row_other, row_none}

abbrev pub NoFields : Opening → Type 0
NoFields o = (kind : Kind) → o ≡ Fields kind → ⊥

module _ (table s : List ℕ) (at : ℕ) (before : List ℕ) where
  pub record Reached (place e : ℕ) (out : List ℕ) : Type 0 where
    pub within : place ≤ length s
    pub rest : Readable (drop place s)
    pub room : e ≤ at + 16 * place
    pub as_long : length out ≡ length before
    pub whole : (ns : List Name) → Records table ns → (after : List ℕ) (r : Put) → TextPut (row_text (drop place s) ns) e out after r →
        TextPut (row_text s ns) at before after r

  pub reached_start : Readable s → Reached 0 at before
  reached_start readable =
      record { within = omega arith; rest = readable; room = omega arith; as_long = refl; whole = λ ns rs after r h. h }

  module _ {place e : ℕ} {out : List ℕ} (p : Reached place e out) where
    -- the list's end
    pub reached_done : length s ≤ place → ListPut table s at before out (Some e)
    reached_done all ns rs =
        let none_left : length (drop place s) ≡ 0 = omega (arith, length-drop place s) in
        p.whole ns rs out (Some e) (subst (λ (q : Option (List Token)). TextPut q e out out (Some e)) (sym (row_none (drop place s) ns none_left)) (nothing_put e out))

    module _ (more : place < length s) where
      left : 0 < length (drop place s)
      left = omega (arith, length-drop place s)

      pub reached_other : {o : Opening} → o ≡ opening_of (drop place s) → NoFields o → ListPut table s at before out None
      reached_other {o} is other ns rs =
          let no_text = row_other (drop place s) p.rest left ns (λ kind opens. other kind (is ∙ opens)) in
          p.whole ns rs out None (record { none_are = no_text; as_long = refl })

      module _ {kind : Kind} (opens : opening_of (drop place s) ≡ Fields kind) where
        abbrev size : ℕ
        size = end (drop place s) kind

        pub item_size_lem : (0 < size) × (place + size ≤ length s)
        item_size_lem =
            let item = noad_at_lem (drop place s) kind opens p.rest in
            (omega (arith, item.long), omega (arith, item.end_in, length-drop place s))

        pub reached_asked : HasNames table → at + 16 * length s ≤ text_limit → ItemAsked table (drop place s) kind e
        reached_asked has limit =
            record { has = has; readable = p.rest; opens = opens; room = omega (arith, p.room, item_size_lem.1) }

        row_here : (ns : List Name) → row_text (drop place s) ns ≡ joined (item_tokens kind (drop place s) ns) (row_text (drop (place + size) s) ns)
        row_here ns =
            row_first (drop place s) p.rest left ns kind opens
            ∙ ap (λ (l : List ℕ). joined (item_tokens kind (drop place s) ns) (row_text l ns)) (drop-drop size place s)

        module _ {out₂ : List ℕ} where
          pub reached_stop : ItemPut table (drop place s) kind e out out₂ None → ListPut table s at before out₂ None
          reached_stop f ns rs =
              p.whole ns rs out₂ None
              (subst (λ (q : Option (List Token)). TextPut q e out out₂ None) (sym (row_here ns))
              (put_none (row_text (drop (place + size) s) ns) (f.text ns rs)))

          pub reached_next : {e₂ : ℕ} → length out₂ ≡ length out → ItemPut table (drop place s) kind e out out₂ (Some e₂) → Reached (place + size) e₂ out₂
          reached_next {e₂} kept f =
              let item = noad_at_lem (drop place s) kind opens p.rest in
              let ends : (e + 1 ≤ e₂) × (e₂ ≤ e + 16 * size) = f.ends in
              record {
                within = item_size_lem.1;
                rest = subst Readable (drop-drop size place s) item.rest;
                room = omega (arith, p.room);
                as_long = kept ∙ p.as_long;
                whole =
                    λ ns rs after r h.
                    p.whole ns rs after r
                    (subst (λ (q : Option (List Token)). TextPut q e out after r) (sym (row_here ns))
                    (put_then (row_text (drop (place + size) s) ns) after r (omega arith) (f.text ns rs) h));
              }
