-- A lookup by the index, and a worked index. Assumes nothing.
mod BitLaws
mod RankLaws
mod ReadingLaws
mod Examples
