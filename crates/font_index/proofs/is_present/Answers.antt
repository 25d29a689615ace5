-- `is_present` reads the bit of a symbol (`asked`); a size or family that no table has is in none. Assumes nothing.
use mathlib.Core.Path.{sym}
use Rattle.font_index.proofs.ReadingLaws.{absent_size, absent_family, asked}
use Rattle.font_index.proofs.is_present.Goals as goal

pub returns-then-key-gt-GREATEST_SIZE : goal.returns-then-key-gt-GREATEST_SIZE
returns-then-key-gt-GREATEST_SIZE c =
    let a = c.args in sym (absent_size a.index.now a.key.size a.key.family a.key.code c.if-key-gt-GREATEST_SIZE.true)

pub returns-then-key-gt-GREATEST_FAMILY : goal.returns-then-key-gt-GREATEST_FAMILY
returns-then-key-gt-GREATEST_FAMILY c =
    let a = c.args in sym (absent_family a.index.now a.key.size a.key.family a.key.code c.if-key-gt-GREATEST_FAMILY.true)

pub returns : goal.returns
returns c =
    let a = c.args in
    rw (c.from.ensures, c.from-2.ensures)
    (asked a.index.now a.key.size a.key.family a.key.code c.if-key-gt-GREATEST_SIZE.false c.if-key-gt-GREATEST_FAMILY.false c.group_at.result c.group_at.ensures)
