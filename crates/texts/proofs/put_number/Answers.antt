-- The mark, the minus and the digits are put one behind the other.
use Rattle.std.proofs.Common.{Bool, [], ◌∷◌, ◌++◌, sym, ap, ◌∙◌, append_assoc, arith}
use Rattle.texts.specs.Decimals.{decimal_of, minus}
use Rattle.texts.specs.Written.{signed_text}
use Rattle.texts.specs.PutLaws.{put_then, put_as}
use Rattle.texts.proofs.put_number.Goals as goal

pub returns-then-n : goal.returns-then-n
returns-then-n c =
    let a = c.args in
    let mark = a.mark.now in
    let parts = append_assoc mark (minus ∷ []) (decimal_of a.n.size) in
    record {
      put =
          put_as (parts ∙ ap (λ (t : Bool). mark ++ signed_text t a.n.size) (sym c.if-n.true))
          (put_then (put_then c.put_bytes-next.ensures c.put_bytes-behind.ensures) c.put_decimal.ensures.put);
      near = omega (arith, c.put_bytes-next.ensures.size, c.put_bytes-behind.ensures.size, c.put_decimal.ensures.near);
    }

pub returns : goal.returns
returns c =
    let a = c.args in
    let mark = a.mark.now in
    record {
      put =
          put_as (ap (λ (t : Bool). mark ++ signed_text t a.n.size) (sym c.if-n.false))
          (put_then c.put_bytes-next.ensures c.put_decimal-2.ensures.put);
      near = omega (arith, c.put_bytes-next.ensures.size, c.put_decimal-2.ensures.near);
    }
