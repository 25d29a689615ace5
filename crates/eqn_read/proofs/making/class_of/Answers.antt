-- `class_of` meets its contract: the first token is a word, whose class was looked for, or it is not, and then no word is meant.
-- Assumes nothing.
use mathlib.Core.Path.{◌≡◌}
use native.Mathlib.Omega.{arith}
use Rattle.std.specs.Prelude.{Some, None}
use Rattle.eqn_tokens.specs.declared.tokens.TokenKind.TheVariants.{Word}
use Rattle.eqn_read.proofs.PrimaryLaws.{word_class, group_class}
use Rattle.eqn_read.proofs.making.class_of.Goals as goal

pub returns-then-ne : goal.returns-then-ne
returns-then-ne c =
    let other : c.token_at-token.result.kind ≡ Word → ⊥ = grind arith in
    group_class c.args.index.now c.token_at-token.ensures other

pub returns-in-Some : goal.returns-in-Some
returns-in-Some c =
    let word : c.token_at-token.result.kind ≡ Word = grind arith in
    word_class c.args.index.now c.token_at-token.ensures (Some c.in-Some.symbol) word c.in-Some.ensures

pub returns-in-None : goal.returns-in-None
returns-in-None c =
    let word : c.token_at-token.result.kind ≡ Word = grind arith in
    word_class c.args.index.now c.token_at-token.ensures None word c.in-None.ensures
