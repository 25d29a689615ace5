-- `is_character` makes the tests of `good_character_lem`.
use mathlib.Core.Path.{sym}
use Rattle.font.specs.Records.{metric_words}
use Rattle.font_records.proofs.RuleLaws.{good_character_lem}
use Rattle.font_records.proofs.is_character.Goals as goal

pub returns : goal.returns
unfolding metric_words
returns c =
    let mark = c.is_marked.ensures in
    rw (mark, c.is_successor.ensures, c.are_small.ensures) (sym (good_character_lem _))
