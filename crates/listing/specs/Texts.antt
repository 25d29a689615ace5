-- The text of an answer and of its nodes, a line each.
--     answer_text    an acceptance, as `w 500 h 430 d 200 n 2`, or a refusal, as `refused 5 at 4`
--     node_text      a node: `glyph x y size family code`, or `rule x y width thickness`
--     shift_text     request 7: a shift and what decided it, as `down gap 250`; nothing where there is no shift
-- Assumes nothing.
use Rattle.std.specs.Prelude.{Bool, true, false, cond, List, [], ◌∷◌, ◌++◌, ℕ, eqb}
use Rattle.boxes.specs.Boxes.{Size}
use Rattle.nodes.specs.Nodes.{Node, glyph, rule}
use Rattle.nodes.specs.Stored.{number_at}
use Rattle.reasons.specs.declared.Reason.{Reason}
use Rattle.reasons.specs.declared.Reason.TheVariants.{None, Drop, Sigma, XHeight, Gap, Psi, Clearance}
use Rattle.reasons.specs.Reasons.{ShiftReason}
use Rattle.answers.specs.Answers.{Answered, accepted_number}
use Rattle.texts.specs.Decimals.{decimal_of, text_of}
use Rattle.texts.specs.Refusals.{newline, space, refusal_text}

-- ---- what stands between the numbers

-- a letter and a space; a space before them but for the first
abbrev pub width_mark : List ℕ
width_mark = 119 ∷ 32 ∷ []

abbrev pub height_mark : List ℕ
height_mark = 32 ∷ 104 ∷ 32 ∷ []

abbrev pub depth_mark : List ℕ
depth_mark = 32 ∷ 100 ∷ 32 ∷ []

abbrev pub count_mark : List ℕ
count_mark = 32 ∷ 110 ∷ 32 ∷ []

-- `glyph ` and `rule `
abbrev pub glyph_mark : List ℕ
glyph_mark = 103 ∷ 108 ∷ 121 ∷ 112 ∷ 104 ∷ 32 ∷ []

abbrev pub rule_mark : List ℕ
rule_mark = 114 ∷ 117 ∷ 108 ∷ 101 ∷ 32 ∷ []

-- ---- the first line

abbrev pub sizes_text : Size → ℕ → List ℕ
sizes_text z count =
    width_mark ++ text_of z.width
    ++ (height_mark ++ text_of z.height)
    ++ (depth_mark ++ text_of z.depth)
    ++ (count_mark ++ decimal_of count)
    ++ newline

unfoldable pub answer_text : Answered → List ℕ
answer_text a =
    cond (eqb a.number accepted_number) (sizes_text a.size a.count) (refusal_text a.number a.place)

-- ---- a node

-- a mark, and the x and the y of the node at the front of some bytes
abbrev pub place_text : List ℕ → List ℕ → List ℕ
place_text mark s = mark ++ text_of (number_at 2 s) ++ (space ++ text_of (number_at 6 s))

unfoldable pub node_text : Node → List ℕ
node_text (glyph x y size family code) =
    glyph_mark ++ text_of x
    ++ (space ++ text_of y)
    ++ (space ++ decimal_of size)
    ++ (space ++ decimal_of family)
    ++ (space ++ decimal_of code)
    ++ newline
node_text (rule x y width thickness) =
    rule_mark ++ text_of x ++ (space ++ text_of y) ++ (space ++ text_of width) ++ (space ++ text_of thickness) ++ newline

-- ---- what decided a shift

-- its name and a space: `drop `, `sigma `, `xheight `, `gap `, `psi `, `clearance `
abbrev pub reason_mark : Reason → List ℕ
reason_mark None = []
reason_mark Drop = 100 ∷ 114 ∷ 111 ∷ 112 ∷ 32 ∷ []
reason_mark Sigma = 115 ∷ 105 ∷ 103 ∷ 109 ∷ 97 ∷ 32 ∷ []
reason_mark XHeight = 120 ∷ 104 ∷ 101 ∷ 105 ∷ 103 ∷ 104 ∷ 116 ∷ 32 ∷ []
reason_mark Gap = 103 ∷ 97 ∷ 112 ∷ 32 ∷ []
reason_mark Psi = 112 ∷ 115 ∷ 105 ∷ 32 ∷ []
reason_mark Clearance = 99 ∷ 108 ∷ 101 ∷ 97 ∷ 114 ∷ 97 ∷ 110 ∷ 99 ∷ 101 ∷ 32 ∷ []

-- whether there is a shift
abbrev pub is_there : Reason → Bool
is_there None = false
is_there Drop = true
is_there Sigma = true
is_there XHeight = true
is_there Gap = true
is_there Psi = true
is_there Clearance = true

unfoldable pub shift_text : List ℕ → ShiftReason → List ℕ
shift_text mark d = cond (is_there d.by) (mark ++ reason_mark d.by ++ text_of d.shift ++ newline) []
