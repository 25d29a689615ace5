-- How long a formula is for its text, and a text for its formula.
--     read_size      a formula has at most 9 bytes for each byte of its text
--     write_size     a text has at most 9 bytes for each byte of its formula
-- One induction over a derivation bounds both: its parts have at most 9 bytes for each token (`most`), and its tokens, each as wide as it can be
-- with the space before it (`widths`), at most 9 for each byte of what they mean (`text`). A field has a little to spare of the first and asks
-- for a little more of the second, which the opening of the item has.
-- Assumes nothing.
use Rattle.std.specs.Prelude.{◌≡◌, refl, true, false, ◌&&◌, List, [], ◌∷◌, ◌++◌, ℕ, ◌+◌, ◌*◌, ◌≤◌, leb}
use Rattle.std.proofs.Common.{sym, ◌∙◌}
use Rattle.std.proofs.Math.Path.{ap}
use Rattle.std.proofs.lemmas.Bool.{false≢true}
use native.Mathlib.Omega.{arith}
use Rattle.std.proofs.Math.ListN.{length, length-append}
use Rattle.laws.specs.Truths.{by_test, either, both_true}
use Rattle.formula.specs.Format.{long_format}
use Rattle.formula.specs.declared.Class.TheVariants.{Op}
use Rattle.formula.specs.declared.Limits.TheVariants.{Always}
use Rattle.formula.specs.declared.Base.TheVariants.{Atom}
use Rattle.formula.specs.declared.Kind.TheVariants.{Scripted}
use Rattle.formula.specs.Tree.{Items, Item, Field, nil, cons, noad, empty, list, greatest_short, list_opening_bytes, items_bytes, item_bytes, field_bytes}
use Rattle.formula.specs.PlacesLaws.{readable_of, tree_is, items_bytes_lem}
use Rattle.formula.specs.FormatLaws.{reads_so}
use Rattle.eqn_tokens.specs.Tokens.{Token, word, keyword, opening, closing, other, keyword_bytes, token_bytes, tokens_in}
use Rattle.eqn_tokens.specs.declared.tokens.Keyword.{Keyword}
use Rattle.eqn_tokens.specs.declared.tokens.Keyword.TheVariants.{Sub, Sup, Over, From, To}
use Rattle.eqn_names.specs.Names.{Name}
use Rattle.eqn_names.proofs.NamesLaws.{named_is}
use Rattle.eqn_grammar.specs.Grammar as grammar
use Rattle.eqn_grammar.specs.Grammar.{row_tokens, limited_tokens, limit_tokens, overs_tokens, scripted_tokens, script_tokens, primary_tokens}
use Rattle.eqn_grammar.proofs.ParsingLaws.{parse_sound}
use Rattle.results.specs.Results.{made}
use Rattle.eqn_meaning.specs.Meaning.{Operand, Nucleus, in_list, is_absent, atom, atom_of, fraction_item, fraction_of, limits_of, row_items, limited_item, limit_field, overs_operand, scripted_operand, script_field, primary_nucleus}
use Rattle.eqn_meaning.specs.Writing.{spaced, text_of}
use Rattle.eqn_meaning.specs.SpelledLength.{spelling_length}
use Rattle.eqn_meaning.specs.Answers.{read_result, write_result}
use Rattle.eqn_promises.specs.Known.{All, all_nil, all_cons, GoodNames, Written}
use Rattle.eqn_promises.specs.WritingLaws.{items_of_row}
use Rattle.eqn_promises.specs.TidyLaws.{formula_tidy}
use Rattle.eqn_promises.specs.OnlySo.{made_written, made_read}
use Rattle.eqn_promises.specs.RoundTrip.{good_names}
use Rattle.eqn_promises.specs.TokenPlaces.{tokens_fewer}

-- ---- tokens as wide as they can be

-- with the space before it; a name has at most 32 bytes
abbrev width : Token → ℕ
width (word w) = 33
width (keyword k) = 1 + length (keyword_bytes k)
width opening = 2
width closing = 2
width (other b) = 2

unfoldable widths : List Token → ℕ
widths [] = 0
widths (t ∷ ts) = width t + widths ts

widths_append : (ts us : List Token) → widths (ts ++ us) ≡ widths ts + widths us
unfolding widths
widths_append [] us = omega arith
widths_append (t ∷ ts) us = omega (arith, widths_append ts us)

keyword_short : (k : Keyword) → length (keyword_bytes k) ≤ 4
keyword_short Sub = omega arith
keyword_short Sup = omega arith
keyword_short Over = omega arith
keyword_short From = omega arith
keyword_short To = omega arith

-- ---- parts and their tokens

-- an item; a field, which is there
record ItemSized (i : Item) (ts : List Token) : Type 0 where
  most : item_bytes i ≤ 9 * length ts
  text : widths ts ≤ 9 * item_bytes i

record FieldSized (f : Field) (ts : List Token) : Type 0 where
  there : is_absent f ≡ false
  most : field_bytes f + 6 ≤ 9 * length ts
  text : widths ts ≤ 9 * field_bytes f + 6

-- a script or a limit with its keyword, which may be absent
record PartSized (f : Field) (ts : List Token) : Type 0 where
  most : field_bytes f ≤ 9 * length ts + 1
  text : widths ts ≤ 9 * field_bytes f + 11
  given : is_absent f ≡ false → field_bytes f + 15 ≤ 9 * length ts
  none : is_absent f ≡ true → ts ≡ []

record OperandSized (x : Operand) (ts : List Token) : Type 0 where
  item : ItemSized x.item ts
  field : FieldSized x.field ts

part_none : PartSized empty []
unfolding field_bytes widths
part_none = record { most = omega arith; text = omega arith; given = λ e. absurd (false≢true (sym e)); none = λ e. refl }

part_some : (k : Keyword) {f : Field} {ts : List Token} → FieldSized f ts → PartSized f (keyword k ∷ ts)
unfolding widths
part_some k f =
    record {
      most = omega (arith, f.most);
      text = omega (arith, f.text, keyword_short k);
      given = λ e. omega (arith, f.most);
      none = λ e. absurd (false≢true (sym f.there ∙ e));
    }

opening_between : (n : ℕ) → (3 ≤ list_opening_bytes n) × (list_opening_bytes n ≤ 5)
unfolding list_opening_bytes
opening_between n = either (λ (k : ℕ). (3 ≤ k) × (k ≤ 5)) (leb n greatest_short) (λ e. omega arith) (λ e. omega arith)

-- ---- atoms, fractions and limits, of parts that are sized

module _ (n : Nucleus) (sub sup : Field) (ts bs qs : List Token) (p : FieldSized n.field ts) (b : PartSized sub bs) (q : PartSized sup qs) where
  atom_item : ItemSized (atom n sub sup) (ts ++ (bs ++ qs))
  unfolding item_bytes field_bytes
  atom_item =
      record {
        most = simp length-append (omega (arith, p.most, b.most, q.most));
        text = simp widths_append (omega (arith, p.text, b.text, q.text));
      }

  bare_field : is_absent sub ≡ true → is_absent sup ≡ true → FieldSized n.field (ts ++ (bs ++ qs))
  unfolding widths
  bare_field e f =
      rw (b.none e, q.none f)
      (record {
        there = p.there;
        most = simp length-append (omega (arith, p.most));
        text = simp widths_append (omega (arith, p.text));
      })

  -- with a script there is a keyword too
  scripts_most : (is_absent sub && is_absent sup) ≡ false → field_bytes sub + field_bytes sup + 14 ≤ 9 * length bs + 9 * length qs
  scripts_most e =
      by_test (is_absent sub) (λ t. omega (arith, b.most, q.given (rw t at e))) (λ t. omega (arith, b.given t, q.most))

  listed_field : (is_absent sub && is_absent sup) ≡ false → FieldSized (in_list (atom n sub sup)) (ts ++ (bs ++ qs))
  unfolding items_bytes item_bytes field_bytes
  listed_field e =
      let opens = opening_between (items_bytes (cons (atom n sub sup) nil)) in
      record {
        there = refl;
        most = simp length-append (omega (arith, opens.1, p.most, scripts_most e));
        text = omega (arith, atom_item.text, opens.0);
      }

  atom_sized : OperandSized (atom_of n sub sup) (ts ++ (bs ++ qs))
  unfolding atom_of
  atom_sized =
      record {
        item = atom_item;
        field =
            either (λ (f : Field). FieldSized f (ts ++ (bs ++ qs))) (is_absent sub && is_absent sup)
            (λ e. let both = both_true {p = is_absent sub} e in bare_field both.0 both.1) listed_field;
      }

module _ (x z : Operand) (ts us : List Token) (p : FieldSized x.field ts) (q : FieldSized z.field us) where
  fraction_item_lem : ItemSized (fraction_item x z) (ts ++ keyword Over ∷ us)
  unfolding item_bytes widths
  fraction_item_lem =
      record {
        most = simp length-append (omega (arith, p.most, q.most));
        text = simp widths_append (omega (arith, p.text, q.text));
      }

  fraction_sized : OperandSized (fraction_of x z) (ts ++ keyword Over ∷ us)
  unfolding items_bytes item_bytes field_bytes
  fraction_sized =
      let opens = opening_between (items_bytes (cons (fraction_item x z) nil)) in
      record {
        item = fraction_item_lem;
        field =
            record {
              there = refl;
              most = simp length-append (omega (arith, opens.1, p.most, q.most));
              text = omega (arith, fraction_item_lem.text, opens.0);
            };
      }

module _ (x : Operand) (lower upper : Field) (ts fs us : List Token) (p : OperandSized x ts) (f : PartSized lower fs) (u : PartSized upper us) where
  unlimited_item : is_absent lower ≡ true → is_absent upper ≡ true → ItemSized x.item (ts ++ (fs ++ us))
  unfolding widths
  unlimited_item e g =
      rw (f.none e, u.none g)
      (record {
        most = simp length-append (omega (arith, p.item.most));
        text = simp widths_append (omega (arith, p.item.text));
      })

  limited_item_lem : ItemSized (noad (Scripted (Atom Op Always)) x.field upper lower) (ts ++ (fs ++ us))
  unfolding item_bytes
  limited_item_lem =
      record {
        most = simp length-append (omega (arith, p.field.most, f.most, u.most));
        text = simp widths_append (omega (arith, p.field.text, f.text, u.text));
      }

  limits_sized : ItemSized (limits_of x lower upper) (ts ++ (fs ++ us))
  unfolding limits_of
  limits_sized =
      either (λ (i : Item). ItemSized i (ts ++ (fs ++ us))) (is_absent lower && is_absent upper)
      (λ e. let both = both_true {p = is_absent lower} e in unlimited_item both.0 both.1) (λ e. limited_item_lem)

-- ---- derivations

record RowSized (l : Items) (ts : List Token) : Type 0 where
  most : items_bytes l ≤ 9 * length ts
  text : widths ts ≤ 9 * items_bytes l

group_sized : {l : Items} {ts : List Token} → RowSized l ts → FieldSized (list l) (opening ∷ (ts ++ closing ∷ []))
unfolding field_bytes widths
group_sized {l} r =
    let opens = opening_between (items_bytes l) in
    record {
      there = refl;
      most = simp length-append (omega (arith, opens.1, r.most));
      text = simp widths_append (omega (arith, opens.0, r.text));
    }

module _ (ns : List Name) where
  mutual
    unfolding row_items row_tokens items_bytes widths

    row_sized : (r : grammar.Row) → RowSized (row_items ns r) (row_tokens r)
    row_sized grammar.nil = record { most = omega arith; text = omega arith }
    row_sized (grammar.beside l r) =
        let first = limited_sized l in
        let rest = row_sized r in
        record {
          most = simp length-append (omega (arith, first.most, rest.most));
          text = simp widths_append (omega (arith, first.text, rest.text));
        }

    limited_sized : (l : grammar.Limited) → ItemSized (limited_item ns l) (limited_tokens l)
    limited_sized (grammar.limited o f t) =
        limits_sized (overs_operand ns o) (limit_field ns f) (limit_field ns t) _ _ _ (overs_sized o) (limit_sized From f) (limit_sized To t)

    limit_sized : (k : Keyword) (o : grammar.NoOvers) → PartSized (limit_field ns o) (limit_tokens k o)
    limit_sized k grammar.no_overs = part_none
    limit_sized k (grammar.some_overs o) = part_some k (overs_sized o).field

    overs_sized : (o : grammar.Overs) → OperandSized (overs_operand ns o) (overs_tokens o)
    overs_sized (grammar.single s) = scripted_sized s
    overs_sized (grammar.fraction o s) =
        fraction_sized (overs_operand ns o) (scripted_operand ns s) _ _ (overs_sized o).field (scripted_sized s).field

    scripted_sized : (s : grammar.Scripted) → OperandSized (scripted_operand ns s) (scripted_tokens s)
    scripted_sized (grammar.scripted p b q) =
        atom_sized (primary_nucleus ns p) (script_field ns b) (script_field ns q) _ _ _ (primary_sized p) (script_sized Sub b) (script_sized Sup q)

    script_sized : (k : Keyword) (p : grammar.NoPrimary) → PartSized (script_field ns p) (script_tokens k p)
    script_sized k grammar.no_primary = part_none
    script_sized k (grammar.some_primary p) = part_some k (primary_sized p)

    primary_sized : (p : grammar.Primary) → FieldSized (primary_nucleus ns p).field (primary_tokens p)
    primary_sized (grammar.named w) = record { there = refl; most = omega arith; text = omega arith }
    primary_sized (grammar.braced r) = group_sized (row_sized r)

-- ---- a formula for its text

pub read_size : (table text : List ℕ) {formula : List ℕ} → read_result table text ≡ made formula → length formula ≤ 9 * length text
read_size table text e =
    let r = made_read e in
    let derives = parse_sound (tokens_in text) r.row r.parsed in
    omega
    (arith, ap length r.formula_is, spelling_length (row_items r.ns r.row), (row_sized r.ns r.row).most, ap length derives, tokens_fewer text)

-- ---- a text for its formula

module _ (ns : List Name) (good : GoodNames ns) where
  token_short : (t : Token) → Written ns t → 1 + length (token_bytes t) ≤ width t
  unfolding token_bytes
  token_short (word w) h =
      let is = named_is ns w h.1 in
      omega (arith, (good h.0 is.member).good.most, ap length is.is)
  token_short (keyword k) h = omega arith
  token_short opening h = omega arith
  token_short closing h = omega arith
  token_short (other b) h = absurd h

  spaced_short : {ts : List Token} → All (Written ns) ts → length (spaced ts) ≤ widths ts
  unfolding spaced widths
  spaced_short all_nil = omega arith
  spaced_short (all_cons {t} {ts} p h) = simp length-append (omega (arith, token_short t p, spaced_short h))

text_shorter : (ts : List Token) → length (text_of ts) ≤ length (spaced ts)
unfolding text_of spaced
text_shorter [] = omega arith
text_shorter (t ∷ ts) = omega arith

pub write_size : (table formula : List ℕ) {text : List ℕ} → write_result table formula ≡ made text → length text ≤ 9 * length formula
write_size table formula e =
    let w = made_written e in
    let good = good_names table w.names_are in
    let meant = items_of_row w.ns good w.items w.row (formula_tidy formula w.items w.reads) w.derived in
    let reads = (reads_so long_format formula w.items w.reads).1 in
    let long : items_bytes w.items ≡ length formula =
    ap items_bytes (sym (tree_is formula _ w.items reads)) ∙ items_bytes_lem formula (readable_of formula _ w.items reads) in
    let sized = row_sized w.ns w.row in
    omega
    (arith, long, ap items_bytes meant.items, sized.text, spaced_short w.ns good meant.tokens, text_shorter (row_tokens w.row), ap length w.text_is)
