-- The two forms of nodes as bytes, and the nodes that some bytes stand for. A node stands at the front of some bytes if these are
-- its own bytes and it can be written; so nothing else is read than what can be written (`ReadingLaws`).
--     bytes_in f n, bytes_as f ns     the bytes of a node, and of some nodes, in the form f
--     looks_like f s                 the node that bytes would have to be
--     front_in f s                   the node at their front
--     nodes_in f s                   the nodes that they all are
-- Assumes nothing.
use Rattle.std.specs.Prelude.{Bool, true, false, cond, ◌&&◌, List, [], ◌∷◌, reverse, ℕ, zero, suc, ◌-◌, ◌/◌, ◌%◌, eqb, ℤ, neg_ℤ, length, get_or, take, drop}
use Rattle.std.proofs.Math.Option.{Option, none, some}
use Rattle.words.specs.Words.{little_endian, signed_word}
use Rattle.nodes.specs.Nodes.{Node, glyph, rule, node_bytes, bytes_of}
use Rattle.nodes.specs.Stored.{node_in}
use Rattle.dvi.specs.declared.forms.Form.{Form}
use Rattle.dvi.specs.declared.forms.Form.TheVariants.{Stored, Body}
use Rattle.dvi.specs.Commands.{first_font, push_opcode}
use Rattle.dvi.specs.Body.{body_bytes, body_of}
use Rattle.dvi.specs.Profile.{writable}

abbrev pub other_form : Form → Form
other_form Stored = Body
other_form Body = Stored

abbrev pub bytes_in : Form → Node → List ℕ
bytes_in Stored n = node_bytes n
bytes_in Body n = body_bytes n

abbrev pub bytes_as : Form → List Node → List ℕ
bytes_as Stored ns = bytes_of ns
bytes_as Body ns = body_of ns

-- ---- a node by its bytes in a body

-- the number at a place, the most significant byte first
abbrev pub body_number : ℕ → List ℕ → ℤ
body_number k s = signed_word (little_endian 4 (reverse (take 4 (drop k s))))

abbrev pub body_glyph : List ℕ → Node
body_glyph s =
    let font = get_or s 0 0 - first_font in
    glyph (body_number 3 s) (neg_ℤ (body_number 8 s)) (font / 16) (font % 16) (get_or s 13 0)

abbrev pub body_rule : List ℕ → Node
body_rule s = rule (body_number 2 s) (neg_ℤ (body_number 7 s)) (body_number 16 s) (body_number 12 s)

-- the first byte tells a glyph from a rule: in a body a rule opens with push
unfoldable pub looks_like : Form → List ℕ → Node
looks_like Stored s = node_in s
looks_like Body s = cond (eqb (get_or s 0 0) push_opcode) (body_rule s) (body_glyph s)

-- ---- reading

-- whether s begins with p
unfoldable pub leads : List ℕ → List ℕ → Bool
leads [] s = true
leads (a ∷ p) [] = false
leads (a ∷ p) (b ∷ s) = eqb b a && leads p s

abbrev pub node_if : Bool → Node → Option Node
node_if stands n = cond (stands && writable n) (some n) none

unfoldable pub front_in : Form → List ℕ → Option Node
front_in f s = let n = looks_like f s in node_if (leads (bytes_in f n) s) n

unfoldable pub added : Node → Option (List Node) → Option (List Node)
added n none = none
added n (some ns) = some (n ∷ ns)

-- a node, and the reading R of what stands behind it
unfoldable pub node_then : Form → (List ℕ → Option (List Node)) → List ℕ → Option Node → Option (List Node)
node_then f R s none = none
node_then f R s (some n) = added n (R (drop (length (bytes_in f n)) s))

unfoldable pub read_step : Form → (List ℕ → Option (List Node)) → List ℕ → Option (List Node)
read_step f R [] = some []
read_step f R (b ∷ s) = node_then f R (b ∷ s) (front_in f (b ∷ s))

-- fewer than k nodes
unfoldable pub read_by : Form → ℕ → List ℕ → Option (List Node)
read_by f zero s = none
read_by f (suc k) s = read_step f (read_by f k) s

-- a node has at least a byte
unfoldable pub nodes_in : Form → List ℕ → Option (List Node)
nodes_in f s = read_by f (suc (length s)) s
