-- The definitions that the worked examples compute with. A proof that says `unfolding definitions` has them all open.
-- Assumes nothing.
use Rattle.scaled.specs.Length.{pick, max_ℤ, min_ℤ, half, at_quad}
use Rattle.words.specs.Words.{little_endian, signed_word, word_of, four_bytes}
use Rattle.font.specs.Records.{pieces, character_count, parameter_records, character_records, client_count, client_records, words, marked, parameter_words, metric_words, every, good_parameters, good_character, before, rising, good_length, good_records, good_client_length, good_client_records}
use Rattle.font.specs.Font.{successor_of, metrics_of, is_of, lookup, font_of, font_with}
use Rattle.font_index.specs.Index.{has, bits, tally, earlier, each, index_of}
use Rattle.font.specs.Chains.{next, goes_on, chain_ends}
use Rattle.font.specs.Table.{good_table, seen_ends, good_client}
use Rattle.formula.specs.Tree.{list_opening_bytes, items_bytes, item_bytes, field_bytes}
use Rattle.formula.specs.Marks.{mark_in, mark_of}
use Rattle.formula.specs.Heads.{atom_of, atom_opening, fraction_of, fraction_opening, kern_within, kern_opening, style_opening, root_of, behind_delimiter, root_opening, fence_of as fenceRead, fence_opening, opens, opening_of, symbol_head, sublist_head, list_head, long_list_head, field_head_under}
use Rattle.formula.specs.Reading.{list_got, field_by, only_list, held_in, field_at, first_at, third_at, noad_at, list_at, choice_at, opened_by, item_by, before as beforeReading, rest_by, list_by, read_by, read_under, read_formula_under}
use Rattle.boxes.specs.Styles.{style_of}
use Rattle.delimiters.specs.Delimiters.{chain_by, chain, in_sizes, of_pair, candidates, extent, first_enough, taller, tallest, taken, sign_for, has_any, has_sign}
use Rattle.roots.specs.Roots.{root}
use Rattle.fences.specs.Fences.{fence_of}
use Rattle.spacing.specs.Classes.{changed_class}
use Rattle.spacing.specs.Spacing.{row, chart, space_before}
use Rattle.scripts.specs.Scripts.{drops, greatest, subscript_candidates, least_up, superscript_candidates, pair_candidates, gap_down, ψ_of, lifted, spread, pair_shifts, reach, scripted}
use Rattle.reasons.specs.Reasons.{corrected}
use Rattle.script_reasons.specs.Reasons.{first_greatest, widened, pair_reasons, script_reasons}
use Rattle.limits.specs.Limits.{limited}
use Rattle.fractions.specs.Fractions.{fraction_shifts, parted, shifts_without_bar, cleared, shifts_with_bar, fraction}
use Rattle.fractions.specs.Reasons.{fraction_reasons}
use Rattle.arrange_rules.specs.Arrange.{nucleus_of, arrange}
use Rattle.arrange.specs.Reasons.{reasons}
use Rattle.nodes.specs.Nodes.{moved, signed_bytes, node_bytes, bytes_of}
use Rattle.nodes.specs.Bounds.{nodes_fit}
use Rattle.setting.specs.Setting.{found, successor, enlarged, symbol_in, symbol_field_box, signs_in, has_signs, own_nodes, item_nodes, item_box, style_after, style_behind, next_class, class_at, placed, set_items, set_item, set_field, set_list}
use Rattle.setting.specs.Missing.{later, absent_at, missing_items, missing_item, missing_field}
use Rattle.setting.specs.Fitting.{box_fits, items_fit, item_fits, field_fits, list_fits}
use Rattle.setting.specs.Picked.{pick_in, pick_at, pick_field, picked_reasons, reasons_at}
use Rattle.answers.specs.Lent.{enough, builds, built_if}
use Rattle.answers.specs.Answers.{if_fits, if_present, if_read, if_enough, if_client, if_good, if_style, result_between, measured_by, measured_between, has_room, set_by, setting_between, buffer_by, buffer_between}
use Rattle.answers.specs.Why.{if_picked, why_by, reasons_in, why_of}

unfoldable pub definitions : Unit {0}
unfolding pick max_ℤ min_ℤ half at_quad little_endian signed_word word_of four_bytes pieces character_count parameter_records character_records client_count client_records words marked parameter_words metric_words every good_parameters good_character before rising good_length good_records good_client_length good_client_records successor_of metrics_of is_of lookup font_of font_with has bits tally earlier each index_of next goes_on chain_ends good_table seen_ends good_client list_opening_bytes items_bytes item_bytes field_bytes mark_in mark_of atom_of atom_opening fraction_of fraction_opening kern_within kern_opening style_opening root_of behind_delimiter root_opening fenceRead fence_opening opens opening_of symbol_head sublist_head list_head long_list_head field_head_under list_got field_by only_list held_in field_at first_at third_at noad_at list_at choice_at opened_by item_by beforeReading rest_by list_by read_by read_under read_formula_under style_of chain_by chain in_sizes of_pair candidates extent first_enough taller tallest taken sign_for has_any has_sign root fence_of changed_class row chart space_before limited drops greatest subscript_candidates least_up superscript_candidates pair_candidates gap_down ψ_of lifted spread pair_shifts reach scripted fraction_shifts parted shifts_without_bar cleared shifts_with_bar fraction nucleus_of arrange moved signed_bytes node_bytes bytes_of found successor enlarged symbol_in symbol_field_box signs_in has_signs own_nodes item_nodes item_box style_after style_behind next_class class_at placed set_items set_item set_field set_list later absent_at missing_items missing_item missing_field nodes_fit box_fits items_fit item_fits field_fits list_fits enough builds built_if if_fits if_present if_read if_enough if_client if_good if_style result_between measured_by measured_between has_room set_by setting_between buffer_by buffer_between corrected first_greatest widened pair_reasons script_reasons fraction_reasons reasons pick_in pick_at pick_field picked_reasons reasons_at if_picked why_by reasons_in why_of
definitions = tt
