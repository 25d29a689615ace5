-- What `io::decimal` wrote is the defined text, by `decimal_is`.
use Rattle.std.proofs.Common.{◌≡◌, ◌≤◌, length, take, ◌∙◌, arith}
use Rattle.texts.specs.PutLaws.{put_as}
use Rattle.texts.proofs.DecimalLaws.{within, decimal_is}
use Rattle.texts.proofs.put_decimal.Goals as goal

pub returns : goal.returns
returns c =
    let d = c.decimal-k in
    let a = c.args in
    let w = c.put_bytes.ensures in
    let k : d.result ≤ 20 = within d.result a.n c.ranges.n.fits d.ensures.len in
    let l : d.result ≡ length (take d.result d.new.out) = d.ensures.in_bounds.1 in
    record {
      put = put_as (d.ensures.digits ∙ decimal_is d.result a.n c.ranges.n.fits d.ensures.len) w;
      near = omega (arith, w.size);
    }
