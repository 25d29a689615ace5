-- What stands at the head of an item and of a field (document 01, "Bytes of a formula"), with nothing within a list looked at.
--     opening_of    what an item says before its fields: its kind, its kern, its style, or that it is a choice
--     field_head    what a field says at its kind byte; is_empty, is_list    that it is empty, or a list, cut or not
-- A field is read under a format; `field_head` is under the one in use. Both are total: bytes that can be neither are `NoItem` and `NoField`.
-- Assumes nothing.
use Rattle.std.specs.Prelude.{Bool, true, false, ◌&&◌, ◌||◌, List, [], ◌∷◌, ℕ, leb, eqb, ℤ, nat_abs, length}
use Rattle.std.proofs.Math.Option.{Option, none, some}
use Rattle.std.proofs.Math.ListN.{get_elem?}
use Rattle.words.specs.Words.{little_endian, signed_word}
use Rattle.formula.specs.declared.Class.{Class}
use Rattle.formula.specs.declared.Class.TheVariants.{Ord, Op, Bin, Rel, Open, Close, Punct, Inner}
use Rattle.formula.specs.declared.Limits.{Limits}
use Rattle.formula.specs.declared.Limits.TheVariants.{DisplayOnly, Always, Never}
use Rattle.formula.specs.declared.Bar.{Bar}
use Rattle.formula.specs.declared.Bar.TheVariants.{Default, Without}
use Rattle.formula.specs.declared.Delimiter.{Delimiter}
use Rattle.formula.specs.declared.Base.TheVariants.{Atom, Over, Under, Root, Fence}
use Rattle.formula.specs.declared.Kind.TheVariants.{Scripted, Fraction}
use Rattle.formula.specs.declared.Mark.{Mark}
use Rattle.formula.specs.declared.Mark.TheVariants.{AT, OV, UN, FR, KN, ST, C4, RD, FE, Unknown}
use Rattle.formula.specs.declared.FieldHead.{FieldHead}
use Rattle.formula.specs.declared.FieldHead.TheVariants.{NoField, Empty, Symbol, Sublist, CutSublist}
use Rattle.formula.specs.declared.Opening.{Opening}
use Rattle.formula.specs.declared.Opening.TheVariants.{NoItem, Fields, Kern, Restyle, Choice}
use Rattle.formula.specs.Format.{Format, long_format}
use Rattle.formula.specs.Tree.{empty_kind, symbol_kind, list_kind, long_list_kind, short_opening_bytes, long_opening_bytes, list_opening_bytes}
use Rattle.formula.specs.Marks.{mark_of}

-- ---- an item

abbrev pub classes : List Class
classes = Ord ∷ Op ∷ Bin ∷ Rel ∷ Open ∷ Close ∷ Punct ∷ Inner ∷ []

abbrev pub greatest_class : ℕ
greatest_class = 7

-- where a class stands among them
abbrev pub class_number : Class → ℕ
class_number Ord = 0
class_number Op = 1
class_number Bin = 2
class_number Rel = 3
class_number Open = 4
class_number Close = 5
class_number Punct = 6
class_number Inner = 7

abbrev pub limit_kinds : List Limits
limit_kinds = DisplayOnly ∷ Always ∷ Never ∷ []

abbrev pub bars : List Bar
bars = Default ∷ Without ∷ []

abbrev pub is_op : Class → Bool
is_op Ord = false
is_op Op = true
is_op Bin = false
is_op Rel = false
is_op Open = false
is_op Close = false
is_op Punct = false
is_op Inner = false

abbrev pub is_display_only : Limits → Bool
is_display_only DisplayOnly = true
is_display_only Always = false
is_display_only Never = false

-- limits are 0 unless the class is Op
unfoldable pub atom_of : Option Class → Option Limits → Opening
atom_of none l = NoItem
atom_of (some class) none = NoItem
atom_of (some class) (some limits) =
    elim (is_op class || is_display_only limits) [ true ↦ Fields (Scripted (Atom class limits)) | false ↦ NoItem ]

unfoldable pub atom_opening : List ℕ → Opening
atom_opening [] = NoItem
atom_opening (class ∷ []) = NoItem
atom_opening (class ∷ limits ∷ s) = atom_of (get_elem? classes class) (get_elem? limit_kinds limits)

unfoldable pub fraction_of : Option Bar → Opening
fraction_of none = NoItem
fraction_of (some bar) = Fields (Fraction bar)

unfoldable pub fraction_opening : List ℕ → Opening
fraction_opening [] = NoItem
fraction_opening (bar ∷ s) = fraction_of (get_elem? bars bar)

-- a kern is at most this much either way
abbrev pub greatest_kern : ℕ
greatest_kern = 8_388_607

unfoldable pub kern_within : ℤ → Opening
kern_within n = elim (leb (nat_abs n) greatest_kern) [ true ↦ Kern (record { 0 = n }) | false ↦ NoItem ]

unfoldable pub kern_opening : List ℕ → Opening
kern_opening [] = NoItem
kern_opening (a ∷ []) = NoItem
kern_opening (a ∷ b ∷ []) = NoItem
kern_opening (a ∷ b ∷ c ∷ []) = NoItem
kern_opening (a ∷ b ∷ c ∷ d ∷ s) = kern_within (signed_word (little_endian 4 (a ∷ b ∷ c ∷ d ∷ s)))

-- D, D', T, T', S, S', SS, SS' are 0 to 7
abbrev pub greatest_style : ℕ
greatest_style = 7

unfoldable pub style_opening : List ℕ → Opening
style_opening [] = NoItem
style_opening (style ∷ s) = elim (leb style greatest_style) [ true ↦ Restyle style | false ↦ NoItem ]

-- families are numbered to 15
abbrev pub greatest_family : ℕ
greatest_family = 15

-- even a family that is never searched
abbrev pub good_delimiter : Delimiter → Bool
good_delimiter d = leb d.small.family greatest_family && leb d.large.family greatest_family

unfoldable pub root_of : Delimiter → Opening
root_of sign = elim (good_delimiter sign) [ true ↦ Fields (Scripted (Root sign)) | false ↦ NoItem ]

-- the families and codes of two symbols, small and large
abbrev pub delimiter : ℕ → ℕ → ℕ → ℕ → Delimiter
delimiter a b c d = record { small = record { family = a; code = b }; large = record { family = c; code = d } }

-- what opens behind a delimiter, from it and the bytes behind it
unfoldable pub behind_delimiter : (Delimiter → List ℕ → Opening) → List ℕ → Opening
behind_delimiter opening [] = NoItem
behind_delimiter opening (a ∷ []) = NoItem
behind_delimiter opening (a ∷ b ∷ []) = NoItem
behind_delimiter opening (a ∷ b ∷ c ∷ []) = NoItem
behind_delimiter opening (a ∷ b ∷ c ∷ d ∷ s) = opening (delimiter a b c d) s

unfoldable pub root_opening : List ℕ → Opening
root_opening s = behind_delimiter (λ sign r. root_of sign) s

-- a fence's left delimiter comes before its right one
unfoldable pub fence_of : Delimiter → Delimiter → Opening
fence_of left right =
    elim (good_delimiter left && good_delimiter right) [ true ↦ Fields (Scripted (Fence left right)) | false ↦ NoItem ]

unfoldable pub fence_opening : List ℕ → Opening
fence_opening s = behind_delimiter (λ left r. behind_delimiter (λ right q. fence_of left right) r) s

-- what opens behind a mark, from the bytes behind the mark
unfoldable pub opens : Mark → List ℕ → Opening
opens AT s = atom_opening s
opens OV s = Fields (Scripted Over)
opens UN s = Fields (Scripted Under)
opens FR s = fraction_opening s
opens KN s = kern_opening s
opens ST s = style_opening s
opens C4 s = Choice
opens RD s = root_opening s
opens FE s = fence_opening s
opens Unknown s = NoItem

unfoldable pub opening_of : List ℕ → Opening
opening_of [] = NoItem
opening_of (a ∷ []) = NoItem
opening_of (a ∷ b ∷ s) = opens (mark_of a b) s

-- ---- a field

unfoldable pub symbol_head : List ℕ → FieldHead
symbol_head [] = NoField
symbol_head (family ∷ []) = NoField
symbol_head (family ∷ code ∷ s) = elim (leb family greatest_family) [ true ↦ Symbol family code | false ↦ NoField ]

-- a list of n bytes has the opening of its length, and must not pass the end of the list that holds the item; s is what stands behind
-- the opening
unfoldable pub sublist_head : ℕ → ℕ → List ℕ → FieldHead
sublist_head opening n s =
    elim (eqb opening (list_opening_bytes n) && leb n (length s)) [ true ↦ Sublist opening n | false ↦ CutSublist ]

-- with a length of two bytes
unfoldable pub list_head : List ℕ → FieldHead
list_head [] = CutSublist
list_head (a ∷ []) = CutSublist
list_head (a ∷ b ∷ s) = sublist_head short_opening_bytes (little_endian 2 (a ∷ b ∷ [])) s

-- with a length of four
unfoldable pub long_list_head : List ℕ → FieldHead
long_list_head [] = CutSublist
long_list_head (a ∷ []) = CutSublist
long_list_head (a ∷ b ∷ []) = CutSublist
long_list_head (a ∷ b ∷ c ∷ []) = CutSublist
long_list_head (a ∷ b ∷ c ∷ d ∷ s) = sublist_head long_opening_bytes (little_endian 4 (a ∷ b ∷ c ∷ d ∷ [])) s

-- a long list if the format has them; s goes from the kind byte to the end of the list that holds
-- the item
unfoldable pub field_head_under : Format → List ℕ → FieldHead
field_head_under f [] = NoField
field_head_under f (kind ∷ s) =
    elim (eqb kind empty_kind) [
      | true ↦ Empty
      | false ↦
          elim (eqb kind symbol_kind) [
            | true ↦ symbol_head s
            | false ↦
                elim (eqb kind list_kind) [
                  | true ↦ list_head s
                  | false ↦ elim (eqb kind long_list_kind && f.long_lists) [ true ↦ long_list_head s | false ↦ NoField ]
                ]
          ]
    ]

abbrev pub field_head : List ℕ → FieldHead
field_head s = field_head_under long_format s

abbrev pub is_empty : FieldHead → Bool
is_empty NoField = false
is_empty Empty = true
is_empty (Symbol family code) = false
is_empty (Sublist opening n) = false
is_empty CutSublist = false

abbrev pub is_list : FieldHead → Bool
is_list NoField = false
is_list Empty = false
is_list (Symbol family code) = false
is_list (Sublist opening n) = true
is_list CutSublist = true
