-- `ends` goes by the flag, and with it follows the chain: from the successor on where the record is its own symbol's (`flagged_ends`),
-- and else from the symbol on.
-- Assumes nothing.
use mathlib.Core.Path.{sym, ◌∙◌}
use borrow.Author.Tests.{eqb-true}
use Rattle.font.specs.Font.{font_with}
use Rattle.font.specs.Table.{seen_ends}
use Rattle.font_chains.proofs.ChainLaws.{flagged_ends}
use Rattle.font_chains.proofs.ends.Goals as goal

pub returns-then-is_empty : goal.returns-then-is_empty
returns-then-is_empty c =
    let a = c.args in
    let k = c.of-key.ensures in
    let chain = flagged_ends (font_with a.tables.now.ours.now a.tables.now.client.now) a.r.now c.if-r-ne1.false in
    let alone = eqb-true _ _ (sym c.is_empty.ensures ∙ c.if-is_empty.true) in
    rw (c.goes_on.ensures, k.size_is, k.family_is) (sym (c.requires.2.own alone ∙ chain))

pub returns : goal.returns
unfolding seen_ends
returns c =
    let k = c.of-key.ensures in
    rw (c.goes_on-2.ensures, k.size_is, k.family_is, k.code_is)
