-- Text that is put into a buffer piece by piece.
--     put_none, put_turn     the loop that copies a piece: before it, and a turn of it
--     put_then     a piece, and one right behind it
--     put_start    what is put at 0 is written at the front
--     put_as, written_as     a text by another name
--     number_put, line_more, line_ended     a line: a mark and a number, one more of these, and the end
-- Assumes nothing.
use Rattle.std.specs.Prelude.{◌≡◌, List, [], ◌∷◌, ◌++◌, ℕ, suc, ◌+◌, ◌≤◌, ◌<◌, length, get_or, take, drop, set}
use Rattle.std.proofs.Common.{sym, ap, subst, ◌∙◌, append_assoc, append-nil, add-zero, add-one, arith, length-append, length-drop, take-append-drop, drop-cons, drop-drop, take-suc, take_at, drop_at, length-take-le}
use Rattle.std.proofs.lemmas.List.{set_at}
use Rattle.std.proofs.Math.Seq.{append_snoc}
use Rattle.texts.specs.declared.Number.{Number}
use Rattle.texts.specs.Written.{Written, Put, PutNear, number_text}

pub put_none : (b : List ℕ) (at : ℕ) → b ≡ take at b ++ [] ++ drop (at + 0) b
put_none b at =
    sym (ap (λ (k : ℕ). take at b ++ [] ++ drop k b) (add-zero at)
    ∙ ap (λ (r : List ℕ). r ++ drop at b) (append-nil (take at b))
    ∙ take-append-drop at b)

pub put_turn : (s b : List ℕ) (at i : ℕ) → i < length s → at + i < length b →
    set (take at b ++ take i s ++ drop (at + i) b) (at + i) (get_or s i 0) ≡ take at b ++ take (i + 1) s ++ drop (at + (i + 1)) b
put_turn s b at i h g =
    let v = get_or s i 0 in
    let k = at + i in
    let p = take at b ++ take i s in
    let front = length-take-le at b (omega arith) in
    let copied = length-take-le i s (omega arith) in
    let size : length p ≡ k = length-append (take at b) (take i s) ∙ omega arith in
    let next : suc k ≡ at + (i + 1) = omega arith in
    let more : p ++ (v ∷ []) ≡ take at b ++ take (i + 1) s =
    append_assoc (take at b) (take i s) (v ∷ [])
    ∙ ap (λ (l : List ℕ). take at b ++ l) (sym (take-suc s i 0 h) ∙ ap (λ (n : ℕ). take n s) (sym (add-one i)))
    in
    ap (λ (l : List ℕ). set (p ++ l) k v) (drop-cons b k 0 g)
    ∙ set_at p (get_or b k 0) (drop (suc k) b) v k size
    ∙ sym (append_snoc p v (drop (suc k) b))
    ∙ ap (λ (l : List ℕ). l ++ drop (suc k) b) more
    ∙ ap (λ (n : ℕ). take at b ++ take (i + 1) s ++ drop n b) next

pub put_then : {t u b a a' : List ℕ} {at m e : ℕ} → Put t b a at m → Put u a a' m e → Put (t ++ u) b a' at e
put_then {t} {u} {b} {a} {a'} {at} {m} {e} p q =
    let first = take at b ++ t in
    let m-is : m ≡ at + length t = p.size in
    let m-in : m ≤ length b = p.room in
    let front = length-take-le at b (omega arith) in
    let size : length first ≡ m = length-append (take at b) t ∙ omega arith in
    let same : length a ≡ length b = ap length p.bytes ∙ length-append first (drop m b) ∙ omega (arith, length-drop m b) in
    let before : take m a ≡ first = ap (take m) p.bytes ∙ take_at first (drop m b) m size in
    let behind : drop m a ≡ drop m b = ap (drop m) p.bytes ∙ drop_at first (drop m b) m size in
    let rest : drop e a ≡ drop e b =
    ap (λ (n : ℕ). drop n a) q.size
    ∙ sym (drop-drop (length u) m a)
    ∙ ap (drop (length u)) behind
    ∙ drop-drop (length u) m b
    ∙ ap (λ (n : ℕ). drop n b) (sym q.size)
    in
    record {
      size = q.size ∙ omega (arith, length-append t u);
      room = omega (arith, q.room);
      bytes =
          q.bytes
          ∙ ap (λ (l : List ℕ). l ++ u ++ drop e a) before
          ∙ ap (λ (l : List ℕ). first ++ u ++ l) rest
          ∙ ap (λ (l : List ℕ). l ++ drop e b) (append_assoc (take at b) t u);
    }

put_start : {t b a : List ℕ} {e : ℕ} → Put t b a 0 e → Written t b a e
put_start p = record { size = omega (arith, p.size); room = p.room; bytes = p.bytes }

pub put_as : {t u b a : List ℕ} {at e : ℕ} → t ≡ u → Put t b a at e → Put u b a at e
put_as {b = b} {a = a} {at = at} {e = e} same p = subst (λ (t : List ℕ). Put t b a at e) same p

pub written_as : {t u b a : List ℕ} {e : ℕ} → t ≡ u → Written t b a e → Written u b a e
written_as {b = b} {a = a} {e = e} same p = subst (λ (t : List ℕ). Written t b a e) same p

-- a mark and a number whose text is t
pub number_put : {most : ℕ} {t b a : List ℕ} {at e : ℕ} (mark : List ℕ) (n : Number) → number_text n ≡ t →
    PutNear most (mark ++ number_text n) b a at e → Put (mark ++ t) b a at e
number_put mark n is p = put_as (ap (λ (u : List ℕ). mark ++ u) is) p.put

-- ---- a line: what is put first, then a number at a time, then its end

pub line_more : {most : ℕ} {u t b a a' : List ℕ} {at m e : ℕ} (mark : List ℕ) (n : Number) → Put u b a at m → number_text n ≡ t →
    PutNear most (mark ++ number_text n) a a' m e → Put (u ++ (mark ++ t)) b a' at e
line_more mark n so_far is p = put_then so_far (number_put mark n is p)

pub line_ended : {t u b a a' : List ℕ} {m e : ℕ} → Put t b a 0 m → Put u a a' m e → Written (t ++ u) b a' e
line_ended so_far p = put_start (put_then so_far p)
