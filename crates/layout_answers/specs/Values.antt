-- What the code's answers stand for.
--     refusal_as, answered_as            document 01's number, place, sizes and count for each answer
--     why_refusal_as, why_answer_as     request 7's number, place and reasons
-- Assumes nothing.
use Rattle.std.specs.Prelude.{Result, Ok, Err}
use Rattle.formula.specs.declared.Fault.TheVariants as faults
use Rattle.boxes.specs.Values.{size_as}
use Rattle.answers.specs.Answers.{Answered, refusal, accepted_number, style_number, table_number, client_number, index_number, fault_number, missing_number, too_large_number, no_room_number}
use Rattle.reasons.specs.declared.Reasons.{Reasons}
use Rattle.reasons.specs.Values.{reasons_as}
use Rattle.answers.specs.Why.{WhyAnswered, why_refusal, unpicked_number}
use Rattle.layout_answers.specs.declared.Accepted.{Accepted}
use Rattle.layout_answers.specs.declared.Refusal.{Refusal}
use Rattle.layout_answers.specs.declared.Refusal.TheVariants.{NoStyle, BadTable, BadClient, FewWords, Unreadable, TooDeep, Missing, TooLarge, NoRoom}
use Rattle.layout_answers.specs.declared.why.WhyRefusal.{WhyRefusal}
use Rattle.layout_answers.specs.declared.why.WhyRefusal.TheVariants.{Unpicked, Refused}

abbrev pub refusal_as : Refusal → Answered
refusal_as NoStyle = refusal style_number 0
refusal_as BadTable = refusal table_number 0
refusal_as BadClient = refusal client_number 0
refusal_as FewWords = refusal index_number 0
refusal_as (Unreadable place) = refusal (fault_number faults.Unreadable) place
refusal_as (TooDeep place) = refusal (fault_number faults.TooDeep) place
refusal_as (Missing place) = refusal missing_number place
refusal_as TooLarge = refusal too_large_number 0
refusal_as NoRoom = refusal no_room_number 0

abbrev pub answered_as : Result Accepted Refusal → Answered
answered_as (Ok a) = record { number = accepted_number; place = 0; size = size_as a.size; count = a.count }
answered_as (Err r) = refusal_as r

abbrev pub why_refusal_as : WhyRefusal → WhyAnswered
why_refusal_as Unpicked = why_refusal unpicked_number 0
why_refusal_as (Refused r) = why_refusal (refusal_as r).number (refusal_as r).place

abbrev pub why_answer_as : Result Reasons WhyRefusal → WhyAnswered
why_answer_as (Ok r) = record { number = accepted_number; place = 0; reasons = reasons_as r }
why_answer_as (Err r) = why_refusal_as r
