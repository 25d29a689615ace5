-- A name has at most 32 bytes, and at least one. Assumes nothing.
use native.Mathlib.Omega.{arith}
use Rattle.eqn_names.specs.Names.{first_place, asked_as}
use Rattle.eqn_write.proofs.NameLaws.{text_size, part_of, name_lent, word_put, wordless}
use Rattle.eqn_write.proofs.writing.put_name.Goals as goal

pub returns-in_err-range : goal.returns-in_err-range
returns-in_err-range c =
    rw c.from_residual.ensures (record { ends = tt; text = λ ns rs. wordless _ c.args.out.now (c.in_err-range.ensures ns rs) })

pub put_token-requires : goal.put_token-requires
put_token-requires c =
    let a = c.args in
    omega (arith, (name_lent a.names.now a.family a.code (asked_as a.class) _ c.requires.0 c.in_ok-range.ensures).most)

pub returns : goal.returns
returns c =
    let a = c.args in
    let range = c.in_ok-range.range in
    let name = name_lent a.names.now a.family a.code (asked_as a.class) range c.requires.0 c.in_ok-range.ensures in
    let size = text_size a.at (part_of a.names.now range.start range.end) in
    let ends = c.put_token.ensures.value in
    record {
      ends = (omega (arith, ends, size, name.some), omega (arith, ends, size, name.most));
      text =
          λ ns rs.
          word_put a.names.now _ (first_place a.family a.code (asked_as a.class) 0 ns) range (c.in_ok-range.ensures ns rs) ends
          c.put_token.ensures.out_after;
    }
