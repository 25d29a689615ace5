-- `put_report` meets its contract: two stores, by `two_stores`, of a place and of a size that a word holds. Assumes nothing.
use Rattle.std.proofs.Common.{refl, ◌∙◌, w64}
use Rattle.std.proofs.lemmas.Int.{to_z_pos}
use Rattle.c_words.specs.Words.{report_words}
use Rattle.c_words.specs.WordsLaws.{two_stores}
use Rattle.c_words.proofs.put_report.Goals as goal

pub returns : goal.returns
unfolding report_words
returns c =
    let report = c.args.report in (
      refl,
      two_stores c.args.words.now _ _ c.requires.0
          ∙ rw (to_z_pos w64 report.place c.requires.1, to_z_pos w64 report.bytes c.requires.2) refl,
    )
