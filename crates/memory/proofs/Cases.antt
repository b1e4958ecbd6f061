-- The cases of document 01 hold of the definitions: the table's test, the challenge that accepts the changed ram, and the products of its ram, computed.
-- Assumes nothing.
use mathlib.Core.Path.{refl}
use Rattle.algebra.specs.Modulo.{plus, minus, times}
use Rattle.algebra.specs.Hash.{hash, hash_from}
use Rattle.algebra.specs.Sum.{bit}
use Rattle.field.specs.Field.{p}
use Rattle.memory.specs.Text.{bytes}
use Rattle.memory.specs.Bytes.{longest, fitting, comma, feed, same, onto, fields, digit, digits, decimal_from, numeral, numerals, numbers, all_below, readable, fields_of, before, lines_of}
use Rattle.memory.specs.Names.{value_names, row_names, report_names, memory_name, memory_named, op_name, op_named, op_code, is_op}
use Rattle.memory.specs.Rows.{limit, sized, allowed, raise_by, lower_by, raised, lowered, ends_due, ranges_due, phase_at, ops_due, op_in, columns, used, used_or_zero, formed, row_below, row_with, row_read, parse_row, depth_factor, depth_product, sunk, due_after, phase_after, row_fault, parsed_fault, line_fault}
use Rattle.memory.specs.Equations.{triple, pair, factor, product, balanced, init_writes, look_read, look_write, rom_ends, set_init, member_read, member_write, range_setup, range_read, range_write, range_ends, access_read, new_of, access_writes, access_lookups, cell_ends, push_write, push_writes, pop_read, pop_reads, pop_lookup, pop_lookups, enqueues, dequeues, end_olds, shuffle_lists, ranged_lists, lists_of, end_rows, range_rows, file_lists, range_balances, memory_balances}
use Rattle.memory.specs.Gates.{row_inputs, costs, row_costs, row_mults, inputs_of, mults_of}
use Rattle.memory.specs.File.{no_row, parsed_row, rows_of, parse_rows, refusal, first_fault, refused, accepted, balance_report, rows_report, values_fault, values_report, opened_by, values_read, parse_values, names_fault, names_report, opening_report, lines_report, file_report}
use Rattle.memory.specs.Step.{top, raise, takes_rows, due, phase, refuse_at, refuse_next, refuse_last, pass, sinks, step_fault, ram_clock, end_place, range_place, lookups_by, written_by, read_by, supplied_by, looked_by, enqueued_by, dequeued_by, multiplied, multiply, with_context, passed_row, take_row, take_parsed, step_of, accepting, end_of, report_of, fresh_context, fresh_products, fresh_of, steps_of}
use Rattle.memory.specs.Bound.{accepts, challenge}
use Rattle.memory.specs.Print.{digits_onto, number_text, numbers_text, report_text}
use Rattle.memory.specs.Cases.{case, ram_case, changed_case, cases, reported, all_reported, CasesHold, CountedChallenge, opened_products, products_of, RamProducts}

pub cases_hold : CasesHold
unfolding bytes longest fitting comma feed same onto fields digit digits decimal_from numeral numerals numbers all_below readable fields_of before lines_of value_names row_names report_names memory_name memory_named op_name op_named op_code is_op limit sized allowed raise_by lower_by raised lowered ends_due ranges_due phase_at ops_due op_in columns used used_or_zero formed row_below row_with row_read parse_row depth_factor depth_product sunk due_after phase_after row_fault parsed_fault line_fault triple pair factor product balanced init_writes look_read look_write rom_ends set_init member_read member_write range_setup range_read range_write range_ends access_read new_of access_writes access_lookups cell_ends push_write push_writes pop_read pop_reads pop_lookup pop_lookups enqueues dequeues end_olds shuffle_lists ranged_lists lists_of end_rows range_rows file_lists range_balances memory_balances row_inputs bit costs row_costs row_mults inputs_of mults_of no_row parsed_row rows_of parse_rows refusal first_fault refused accepted balance_report rows_report values_fault values_report opened_by values_read parse_values names_fault names_report opening_report lines_report file_report digits_onto number_text numbers_text report_text case ram_case changed_case cases reported all_reported plus minus times hash hash_from p
cases_hold = tt

pub counted_challenge : CountedChallenge
unfolding bytes longest fitting comma feed onto same fields digit digits decimal_from numeral numerals numbers all_below readable fields_of before lines_of op_name op_named op_code is_op limit sized allowed raise_by lower_by ends_due ranges_due phase_at ops_due op_in columns used used_or_zero formed row_below row_with row_read parse_row depth_factor triple pair factor range_read range_write access_read new_of push_write pop_read pop_lookup row_inputs bit costs row_costs row_mults refused values_fault case changed_case hash_from plus minus times p top raise takes_rows due phase refuse_at refuse_next refuse_last pass sinks step_fault ram_clock end_place range_place lookups_by written_by read_by supplied_by looked_by enqueued_by dequeued_by multiplied multiply with_context passed_row take_row take_parsed step_of accepting end_of report_of fresh_context fresh_products fresh_of steps_of parse_rows accepts challenge
counted_challenge = refl

pub ram_products : RamProducts
unfolding bytes longest fitting comma feed same onto fields digit digits decimal_from numeral numerals numbers all_below readable fields_of before lines_of memory_name memory_named op_name op_named op_code is_op limit sized allowed raise_by lower_by raised lowered ends_due row_with row_read parse_row triple pair factor product init_writes range_setup range_read range_write range_ends access_read new_of access_writes access_lookups cell_ends ranged_lists lists_of end_rows range_rows file_lists parsed_row rows_of parse_rows opened_by values_read parse_values case ram_case opened_products products_of plus minus times p
ram_products = tt
