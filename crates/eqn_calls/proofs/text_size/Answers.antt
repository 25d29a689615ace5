-- `text_size` meets its contract: what is written of a formula has the size of its text, whatever room there is. Assumes nothing.
use Rattle.eqn_calls.proofs.SizeLaws.{put_sized}
use Rattle.eqn_calls.proofs.text_size.Goals as goal

pub returns : goal.returns
returns c = λ ns records. put_sized _ _ _ c.put_list.result (c.put_list.ensures.list_put ns records)
