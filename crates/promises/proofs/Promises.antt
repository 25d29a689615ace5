-- What is promised of the setter, on one page: for each demand and each change request the theorem that states it, under its own name. They
-- speak of the definitions, `measured`, `setting`, `buffer_after` and `why_of` (crate answers). That the code gives what these define, for
-- any bytes, is what `measure`, `set` and `why` ensure (crate layout), and with it each of these holds of the code.
-- Assumes nothing.

-- ---- demand 1: any bytes

-- every answer is a refusal, with sizes and count 0 and the node buffer as it was, or an acceptance, which changes the bytes of the nodes that
-- it counts and no others
pub use Rattle.promises.proofs.Demand1.{Leaves, demand_1}
-- a refusal is one of the papers' numbers, in their order: a law for each test, of a list between any two sides
pub use Rattle.answers.proofs.AnswersLaws.{no_style, bad_table, bad_client, few_words, read_is, missing_refused, large_refused, no_room_is}
-- no place and no count is greater than the longest formula has bytes
pub use Rattle.answers.proofs.Small.{measured_small, setting_small, why_small}
-- ---- demand 2: sizes and nodes are those of the rules

-- the worked examples P1 to P12, from bytes, sizes and nodes whole
pub use Rattle.promises.proofs.Examples.{examples_hold}
-- the underlined a, measured, set, and in the buffer byte by byte
pub use Rattle.promises.proofs.Examples.{underlined_measured, underlined_set, underlined-buffer}
-- ---- demand 3: measuring and setting, a list field and the whole

-- setting refuses 7 exactly where measuring accepts and the nodes have no room, and answers as measuring does otherwise
pub use Rattle.promises.proofs.Agreement.{Agrees, measuring_and_setting_agree}
-- every list field of what is set, by the place of its kind byte: set alone it gives the nodes that it has in the whole, moved by one distance;
-- the rules take it for a box of the size that it measures alone; another list of that size changes no node outside
pub use Rattle.promises.proofs.Demand3.{ListFieldAsAlone, demand_3_at}
-- the same of a list field that is named by its path
pub use Rattle.promises.proofs.Demand3.{FieldAsAlone, demand_3}
-- every place leads to a path, and every path of a formula that reads to a place: no list field is left out
pub use Rattle.promises.specs.ListFields.{Reached}
pub use Rattle.promises.proofs.ListFields.{reached}
pub use Rattle.promises.proofs.EveryField.{ListedAt, every_field}
-- a fence's list has the sides of a fence, and no other list has any
pub use Rattle.promises.specs.ListFields.{SidesOf}
pub use Rattle.promises.proofs.ListFields.{field_sides_lem, step_sides_lem}
-- instances, from bytes: in a taken list behind a style change, the nucleus of a root, the list of a fence
pub use Rattle.promises.proofs.FieldExample.{chosen_by_place, nucleus_by_place, inside_by_place}
-- another list of the same size, with what stands around both; a list three lists deep, a fraction's part, a limit; a list of kind 3
pub use Rattle.promises.proofs.FieldInstances.{another_list, another_run, around-frame, deep_by_place, part_by_place, limit_by_place}
pub use Rattle.promises.proofs.LongField.{long_by_place}
-- ---- request 1: blanks beside fractions. The fractions of the worked examples, P10 and P11, have them
-- ---- request 2: style changes and choices

-- a formula without style changes, choices and fences is answered as it was before there were any
pub use Rattle.promises.proofs.AsBefore.{measured_as_before, set_as_before}
-- a style change in the list that a choice takes holds behind the choice
pub use Rattle.promises.proofs.Examples.{display-from-here}
-- ---- requests 3 and 4: roots and fences

pub use Rattle.promises.proofs.Examples.{roots_hold, fences_hold}
-- in good tables no chain of successors has more than sixteen steps
pub use Rattle.font.specs.FontLaws.{chains_end}
-- ---- request 6: a client's table

-- with an empty one every formula is answered as by our table alone
pub use Rattle.promises.proofs.OursAlone.{measured_by_ours, set_by_ours}
pub use Rattle.promises.proofs.Examples.{client-set, client-refused}
-- ---- request 7: why a shift is what it is

-- of every acceptance: what is named is the shift that the setter used, none of its stage is larger, and of equals it is the first
pub use Rattle.promises.proofs.WhyLaws.{WhyTrue, why-true}
-- and on the page: what is asked about is the item that is set at the place; its superscript or numerator stands on the page as far above its
-- baseline as the shift up says, its subscript or denominator as far below as the shift down
pub use Rattle.promises.proofs.WhyLaws.{WhyOnPage, why_on_page}
-- asking finds exactly the items that are set, each in the style current at it: by the place of the first byte (and `picks` of `ItemStands`,
-- below), and in the tree
pub use Rattle.promises.proofs.FoundItems.{FoundAt, found_at}
pub use Rattle.setting.proofs.PickedSet.{set_picked, picked_set}
pub use Rattle.promises.proofs.Examples.{why_hold}
-- ---- request 8: long formulas

-- what document 01's format accepts is answered as before
pub use Rattle.promises.proofs.Formats.{accepted_on, measured-on, set_on}
-- by it a field of kind 3 is refused with 3, at its item in a formula of at most 4,096 bytes, and at 0 in a longer one; every rightful field of
-- kind 3 stands in a longer one
pub use Rattle.promises.proofs.Formats.{kind_answered, long_answered, rightful_answered}
pub use Rattle.promises.proofs.LongField.{long_before}
-- ---- request 9: words for the indexes

-- the words after a call: unchanged on 1, 2, 8 and 19, else with each table's index at the front; so of asking why, on 9 too
pub use Rattle.answers.proofs.LentLaws.{measuring_leaves}
pub use Rattle.promises.proofs.LentWords.{setting_leaves, why_leaves, unpicked_leaves, words_last, words_settle}
-- 19 where words are few, and nowhere else; with words enough their number makes no difference
pub use Rattle.promises.proofs.LentWords.{few_refused, few_why, only_few, only_few_set, only_few_why, same_result, same_measured, same_set, same_why}
pub use Rattle.promises.proofs.Examples.{words-refused, client-index}
-- ---- request 12: the finished page

-- every item with fields of what is set, by the place of its first byte: of the nodes in the buffer some stand before it, some after it, and
-- its own between them, moved by one distance, each part where the rules put it, in the style current at the item
pub use Rattle.promises.specs.ItemsOnPage.{ItemSetAt, ItemStands}
pub use Rattle.promises.proofs.ItemsOnPage.{item_stands}
-- all ink is between the depth and the height that are answered; scripts keep four rules apart, a fraction's bar and its parts keep φ apart, and
-- the bar's middle is within half a scaled point of the axis
pub use Rattle.promises.proofs.Clearances.{ItemKeeps, Clearances, clearances}
pub use Rattle.promises.proofs.Examples.{inks_hold}
-- instances, from bytes: behind a style change, and in a list
pub use Rattle.promises.proofs.ItemExample.{behind_style, styled_up, behind_style_why, in_list_lem}
-- ---- request 14: nodes as the body of a page

-- what is written reads back to the same bytes, and what reads is what the writer writes
pub use Rattle.dvi.specs.RoundTrip.{made_is}
pub use Rattle.dvi.proofs.RoundTrip.{there_and_back, made_by, only_nodes}
-- and so over two calls, with a buffer each that has room: what the first has written at the front of its buffer, the second turns back
pub use Rattle.promises.proofs.PageCalls.{BackAgain, calls_back}
-- the nodes of every accepted formula can be written
pub use Rattle.promises.proofs.PageNodes.{accepted_written}

-- Requests 5 and 9 change how a symbol is found and no answer: `record_in` and `record_of` ensure the record that the definition has. Request 10,
-- typed text, has its page in crate eqn_promises.
