-- Short lists with a style, with a choice, with a root, with a fence and with a list of kind 3, as the definition reads them in either format:
-- one table under one statement, `examples_hold`.
-- Assumes nothing.
use mathlib.Core.Path.{◌≡◌, refl}
use mathlib.Core.List.{List, [], ◌∷◌, ◌++◌, map}
use Prim.Native.Nat.{ℕ}
use Rattle.words.specs.Words.{little_endian}
use Rattle.formula.specs.declared.Fault.TheVariants.{Unreadable, TooDeep}
use Rattle.formula.specs.declared.Base.TheVariants.{Root, Fence}
use Rattle.formula.specs.declared.Kind.TheVariants.{Scripted}
use Rattle.formula.specs.Format.{Format, short_format, long_format}
use Rattle.formula.specs.Tree.{Items, Item, nil, cons, noad, restyle, choice, empty, symbol, list, list_opening_bytes}
use Rattle.formula.specs.Marks.{mark_in, mark_of}
use Rattle.formula.specs.Heads.{style_opening, delimiter, root_of, behind_delimiter, root_opening, fence_of, fence_opening, opens, opening_of, symbol_head, sublist_head, list_head, long_list_head, field_head_under}
use Rattle.formula.specs.Reading.{Read, good, fault, list_got, field_by, only_list, held_in, field_at, first_at, third_at, noad_at, list_at, choice_at, opened_by, item_by, before, rest_by, list_by, read_by, read_under}

-- a style by its number; a choice by its four fields
abbrev style : ℕ → List ℕ
style n = 83 ∷ 84 ∷ n ∷ []

abbrev choice_of : List ℕ → List ℕ → List ℕ → List ℕ → List ℕ
choice_of d t sc ss = (67 ∷ 52 ∷ d) ++ (t ++ (sc ++ ss))

-- a root's opening by two families and codes
abbrev sign : ℕ → ℕ → ℕ → ℕ → List ℕ
sign a b c d = 82 ∷ 68 ∷ a ∷ b ∷ c ∷ d ∷ []

-- a field: empty, a symbol, a list of fewer than 256 bytes
abbrev no_field : List ℕ
no_field = 0 ∷ []

abbrev letter : List ℕ
letter = 1 ∷ 1 ∷ 97 ∷ []

abbrev list_of : ℕ → List ℕ → List ℕ
list_of n s = 2 ∷ n ∷ 0 ∷ s

-- a list of kind 3 by the bytes of its length, of whose items there is none
abbrev long_of : ℕ → ℕ → ℕ → ℕ → List ℕ
long_of a b c d = 3 ∷ a ∷ b ∷ c ∷ d ∷ []

abbrev none : List ℕ
none = list_of 0 []

-- a fence with no scripts, by the family of its right one's large symbol, and by its field
abbrev fence_on : ℕ → List ℕ → List ℕ
fence_on n held = (70 ∷ 69 ∷ 0 ∷ 40 ∷ 3 ∷ 0 ∷ 0 ∷ 41 ∷ n ∷ 1 ∷ held) ++ (no_field ++ no_field)

one : Item → Items
one i = cons i nil

-- the format, the levels that may be entered, the bytes, and what they read to
record Row : Type 0 where
  format : Format
  levels : ℕ
  bytes : List ℕ
  reading : Read

abbrev row : ℕ → List ℕ → Read → Row
row levels bytes reading = record { format = long_format; levels = levels; bytes = bytes; reading = reading }

abbrev short_row : ℕ → List ℕ → Read → Row
short_row levels bytes reading = record { format = short_format; levels = levels; bytes = bytes; reading = reading }

rows : List Row
rows =
    row 0 (style 7) (good (one (restyle 7)))
    ∷ row 0 (style 8) (fault Unreadable 0)
    ∷ row 0 (83 ∷ 84 ∷ []) (fault Unreadable 0)
    ∷ row 1 (choice_of none (list_of 3 (style 2)) none none) (good (one (choice nil (one (restyle 2)) nil nil)))
    -- four lists, and no other field among them
    ∷ row 1 (choice_of none none none []) (fault Unreadable 0)
    ∷ row 1 (choice_of none letter none none) (fault Unreadable 0)
    ∷ row 1 (choice_of none none none no_field) (fault Unreadable 0)
    -- the kind comes before the depth
    ∷ row 0 (choice_of none none none none) (fault TooDeep 2)
    ∷ row 0 (choice_of letter none none none) (fault Unreadable 0)
    ∷ row 0 (style 0 ++ (67 ∷ 52 ∷ 2 ∷ [])) (fault TooDeep 5)
    -- a fault in a whole list comes before the item's missing tail, a length past the end before what the list holds
    ∷ row 1 (choice_of none (list_of 3 (style 8)) [] []) (fault Unreadable 8)
    ∷ row 1 (choice_of none none none (list_of 4 (style 8))) (fault Unreadable 0)
    -- a list in a list of a choice is one deeper again
    ∷ row 2 (choice_of (list_of 14 (choice_of none none none none)) none none none) (good (one (choice (one (choice nil nil nil nil)) nil nil nil)))
    ∷ row 1 (choice_of (list_of 14 (choice_of none none none none)) none none none) (fault TooDeep 7)
    -- a root: its sign, its nucleus, its scripts; a pair of zero bytes is no fault, a family of 16 is one in either pair
    ∷ row 0 (sign 15 112 0 0 ++ (letter ++ (no_field ++ no_field))) (good (one (noad (Scripted (Root (delimiter 15 112 0 0))) (symbol 1 97) empty empty)))
    ∷ row 0 (sign 16 112 0 0 ++ (letter ++ (no_field ++ no_field))) (fault Unreadable 0)
    ∷ row 0 (sign 0 112 16 112 ++ (letter ++ (no_field ++ no_field))) (fault Unreadable 0)
    ∷ row 0 (82 ∷ 68 ∷ 2 ∷ 112 ∷ 3 ∷ []) (fault Unreadable 0)
    ∷ row 0 (sign 2 112 3 112 ++ (letter ++ no_field)) (fault Unreadable 0)
    -- a fence: its delimiters, a list, its scripts; what is no list is no fence, at whatever depth, and a family of 16 is a fault in the last pair too
    ∷ row 1 (fence_on 15 (list_of 3 (style 2))) (good (one (noad (Scripted (Fence (delimiter 0 40 3 0) (delimiter 0 41 15 1))) (list (one (restyle 2))) empty empty)))
    ∷ row 1 (fence_on 16 (list_of 3 (style 2))) (fault Unreadable 0)
    ∷ row 1 (fence_on 15 letter) (fault Unreadable 0)
    ∷ row 0 (fence_on 15 letter) (fault Unreadable 0)
    ∷ row 0 (fence_on 15 none) (fault TooDeep 10)
    ∷ row 1 (fence_on 15 (list_of 3 (style 8))) (fault Unreadable 13)
    -- a list of kind 3: the depth comes before a length that is too short for it, and before one that is cut off or passes the end
    ∷ row 1 (style 0 ++ choice_of none none (long_of 255 255 0 0) []) (fault Unreadable 3)
    ∷ row 0 (style 0 ++ choice_of (long_of 255 255 0 0) none none none) (fault TooDeep 5)
    ∷ row 1 (style 0 ++ choice_of none (3 ∷ 0 ∷ 0 ∷ 1 ∷ []) [] []) (fault Unreadable 3)
    ∷ row 1 (style 0 ++ choice_of none none none (long_of 0 0 1 0)) (fault Unreadable 3)
    ∷ row 0 (style 0 ++ (67 ∷ 52 ∷ 3 ∷ [])) (fault TooDeep 5)
    -- in the short format it is no list, at whatever depth; all else is read as in the long one
    ∷ short_row 0 (style 0 ++ choice_of (long_of 255 255 0 0) none none none) (fault Unreadable 3)
    ∷ short_row 1 (style 0 ++ choice_of none none (long_of 0 0 1 0) none) (fault Unreadable 3)
    ∷ short_row 1 (choice_of none (list_of 3 (style 2)) none none) (good (one (choice nil (one (restyle 2)) nil nil)))
    ∷ []

examples_hold : map (λ (r : Row). read_under r.format r.levels r.bytes) rows ≡ map (λ (r : Row). r.reading) rows
unfolding rows one little_endian mark_in mark_of style_opening root_of behind_delimiter root_opening fence_of fence_opening opens opening_of list_opening_bytes symbol_head sublist_head list_head long_list_head field_head_under list_got field_by only_list held_in field_at first_at third_at noad_at list_at choice_at opened_by item_by before rest_by list_by read_by read_under
examples_hold = refl
