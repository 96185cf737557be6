-- The two computed tables hold: the expert's sheet, and the limits. Rests on Keys alone: each is computed. A table of `Limits` that does
-- not hold is named by the claim that fails.
use Rattle.listing_rules.proofs.Prelude.{◌≡◌, refl, []}
use Rattle.listing_rules.specs.Cases.{failures}
use Rattle.listing_rules.specs.ExpertSheet.{sheet}
use Rattle.listing_rules.specs.Limits.{flags_of_a_row, names_of_rows, order_of_rows, size_of_a_table, namespace_entries, lsub_lines}
use Rattle.listing_rules.specs.Limits.{lsub_grammar, records_layout, records_size, records_answered, edits_made, edits_inbox, edits_refused}
use Rattle.listing_rules.specs.Limits.{edits_layout, insertion_at_512_rows, edits_commanded, edits_in_order, edits_in_series, program_edits}
use Rattle.listing_rules.specs.Limits.{compactions, compactions_size, compactions_make_room, readers_answered, readers_walked, readers_refused}
use Rattle.listing_rules.specs.Limits.{readers_edits, program_readers, namespace_classes, uses_by_name, flags_by_name, attributes_together}
use Rattle.listing_rules.specs.Limits.{children_and_empty_patterns, special_use_selected, quotes_and_wildcards, childinfo_and_uses_shown}
use Rattle.listing_rules.specs.Limits.{levels_listed, levels_not_listed, levels_counted, inbox_alone, namespace_line_lem, table_then_list_then_line}
use Rattle.listing_rules.specs.Limits.{line_shape, tag_word_rest, values_and_options, answer_length_lem, answer_buffer, walk_buffers_short}
use Rattle.listing_rules.specs.Limits.{walk_finds, walk_buffers_after, line_writer, reader_parts, reader_lines, program_frames}
use Rattle.listing_rules.specs.Limits.{program_digits_and_room, program_answer_room, program_scratch_room, program_found_room}
use Rattle.listing_rules.specs.Limits.{program_pending_room, literals, literals_misplaced, literals_cut_short, literal_lengths, feeder_chunks}
use Rattle.listing_rules.specs.Limits.{feeder_large_literals, feeder_dropping, feeder_command_length}
use Rattle.listing_rules.proofs.Keys.{open_all}

-- E1 to E8, with W1's line and the cases of W3 and W5: one table under one claim
pub sheet_holds : failures 1 sheet ≡ []
unfolding open_all
sheet_holds = refl

flags_of_a_row_hold : failures 1 flags_of_a_row ≡ []
unfolding open_all
flags_of_a_row_hold = refl

names_of_rows_hold : failures 1 names_of_rows ≡ []
unfolding open_all
names_of_rows_hold = refl

order_of_rows_hold : failures 1 order_of_rows ≡ []
unfolding open_all
order_of_rows_hold = refl

size_of_a_table_hold : failures 1 size_of_a_table ≡ []
unfolding open_all
size_of_a_table_hold = refl

records_layout_hold : failures 1 records_layout ≡ []
unfolding open_all
records_layout_hold = refl

records_size_hold : failures 1 records_size ≡ []
unfolding open_all
records_size_hold = refl

records_answered_hold : failures 1 records_answered ≡ []
unfolding open_all
records_answered_hold = refl

edits_made_hold : failures 1 edits_made ≡ []
unfolding open_all
edits_made_hold = refl

edits_inbox_hold : failures 1 edits_inbox ≡ []
unfolding open_all
edits_inbox_hold = refl

edits_refused_hold : failures 1 edits_refused ≡ []
unfolding open_all
edits_refused_hold = refl

edits_layout_hold : failures 1 edits_layout ≡ []
unfolding open_all
edits_layout_hold = refl

insertion_at_512_rows_hold : failures 1 insertion_at_512_rows ≡ []
unfolding open_all
insertion_at_512_rows_hold = refl

edits_commanded_hold : failures 1 edits_commanded ≡ []
unfolding open_all
edits_commanded_hold = refl

edits_in_order_hold : failures 1 edits_in_order ≡ []
unfolding open_all
edits_in_order_hold = refl

edits_in_series_hold : failures 1 edits_in_series ≡ []
unfolding open_all
edits_in_series_hold = refl

compactions_hold : failures 1 compactions ≡ []
unfolding open_all
compactions_hold = refl

compactions_size_hold : failures 1 compactions_size ≡ []
unfolding open_all
compactions_size_hold = refl

compactions_make_room_hold : failures 1 compactions_make_room ≡ []
unfolding open_all
compactions_make_room_hold = refl

readers_answered_hold : failures 1 readers_answered ≡ []
unfolding open_all
readers_answered_hold = refl

readers_walked_hold : failures 1 readers_walked ≡ []
unfolding open_all
readers_walked_hold = refl

readers_refused_hold : failures 1 readers_refused ≡ []
unfolding open_all
readers_refused_hold = refl

readers_edits_hold : failures 1 readers_edits ≡ []
unfolding open_all
readers_edits_hold = refl

program_readers_hold : failures 1 program_readers ≡ []
unfolding open_all
program_readers_hold = refl

namespace_entries_hold : failures 1 namespace_entries ≡ []
unfolding open_all
namespace_entries_hold = refl

namespace_classes_hold : failures 1 namespace_classes ≡ []
unfolding open_all
namespace_classes_hold = refl

uses_by_name_hold : failures 1 uses_by_name ≡ []
unfolding open_all
uses_by_name_hold = refl

flags_by_name_hold : failures 1 flags_by_name ≡ []
unfolding open_all
flags_by_name_hold = refl

attributes_together_hold : failures 1 attributes_together ≡ []
unfolding open_all
attributes_together_hold = refl

children_and_empty_patterns_hold : failures 1 children_and_empty_patterns ≡ []
unfolding open_all
children_and_empty_patterns_hold = refl

special_use_selected_hold : failures 1 special_use_selected ≡ []
unfolding open_all
special_use_selected_hold = refl

quotes_and_wildcards_hold : failures 1 quotes_and_wildcards ≡ []
unfolding open_all
quotes_and_wildcards_hold = refl

childinfo_and_uses_shown_hold : failures 1 childinfo_and_uses_shown ≡ []
unfolding open_all
childinfo_and_uses_shown_hold = refl

levels_listed_hold : failures 1 levels_listed ≡ []
unfolding open_all
levels_listed_hold = refl

levels_not_listed_hold : failures 1 levels_not_listed ≡ []
unfolding open_all
levels_not_listed_hold = refl

levels_counted_hold : failures 1 levels_counted ≡ []
unfolding open_all
levels_counted_hold = refl

inbox_alone_hold : failures 1 inbox_alone ≡ []
unfolding open_all
inbox_alone_hold = refl

lsub_lines_hold : failures 1 lsub_lines ≡ []
unfolding open_all
lsub_lines_hold = refl

lsub_grammar_hold : failures 1 lsub_grammar ≡ []
unfolding open_all
lsub_grammar_hold = refl

namespace_line_hold : failures 1 namespace_line_lem ≡ []
unfolding open_all
namespace_line_hold = refl

table_then_list_then_line_hold : failures 1 table_then_list_then_line ≡ []
unfolding open_all
table_then_list_then_line_hold = refl

line_shape_hold : failures 1 line_shape ≡ []
unfolding open_all
line_shape_hold = refl

tag_word_rest_hold : failures 1 tag_word_rest ≡ []
unfolding open_all
tag_word_rest_hold = refl

values_and_options_hold : failures 1 values_and_options ≡ []
unfolding open_all
values_and_options_hold = refl

answer_length_hold : failures 1 answer_length_lem ≡ []
unfolding open_all
answer_length_hold = refl

answer_buffer_hold : failures 1 answer_buffer ≡ []
unfolding open_all
answer_buffer_hold = refl

walk_buffers_short_hold : failures 1 walk_buffers_short ≡ []
unfolding open_all
walk_buffers_short_hold = refl

walk_finds_hold : failures 1 walk_finds ≡ []
unfolding open_all
walk_finds_hold = refl

walk_buffers_after_hold : failures 1 walk_buffers_after ≡ []
unfolding open_all
walk_buffers_after_hold = refl

line_writer_hold : failures 1 line_writer ≡ []
unfolding open_all
line_writer_hold = refl

reader_parts_hold : failures 1 reader_parts ≡ []
unfolding open_all
reader_parts_hold = refl

reader_lines_hold : failures 1 reader_lines ≡ []
unfolding open_all
reader_lines_hold = refl

program_frames_hold : failures 1 program_frames ≡ []
unfolding open_all
program_frames_hold = refl

program_digits_and_room_hold : failures 1 program_digits_and_room ≡ []
unfolding open_all
program_digits_and_room_hold = refl

program_edits_hold : failures 1 program_edits ≡ []
unfolding open_all
program_edits_hold = refl

program_answer_room_hold : failures 1 program_answer_room ≡ []
unfolding open_all
program_answer_room_hold = refl

program_scratch_room_hold : failures 1 program_scratch_room ≡ []
unfolding open_all
program_scratch_room_hold = refl

program_found_room_hold : failures 1 program_found_room ≡ []
unfolding open_all
program_found_room_hold = refl

program_pending_room_hold : failures 1 program_pending_room ≡ []
unfolding open_all
program_pending_room_hold = refl

literals_hold : failures 1 literals ≡ []
unfolding open_all
literals_hold = refl

literals_misplaced_hold : failures 1 literals_misplaced ≡ []
unfolding open_all
literals_misplaced_hold = refl

literals_cut_short_hold : failures 1 literals_cut_short ≡ []
unfolding open_all
literals_cut_short_hold = refl

literal_lengths_hold : failures 1 literal_lengths ≡ []
unfolding open_all
literal_lengths_hold = refl

feeder_chunks_hold : failures 1 feeder_chunks ≡ []
unfolding open_all
feeder_chunks_hold = refl

feeder_large_literals_hold : failures 1 feeder_large_literals ≡ []
unfolding open_all
feeder_large_literals_hold = refl

feeder_dropping_hold : failures 1 feeder_dropping ≡ []
unfolding open_all
feeder_dropping_hold = refl

feeder_command_length_hold : failures 1 feeder_command_length ≡ []
unfolding open_all
feeder_command_length_hold = refl

-- each table of `Limits`, by its name
pub record Limits-hold : Type 0 where
  pub flags_of_a_row_stand : failures 1 flags_of_a_row ≡ []
  pub names_of_rows_stand : failures 1 names_of_rows ≡ []
  pub order_of_rows_stand : failures 1 order_of_rows ≡ []
  pub size_of_a_table_stand : failures 1 size_of_a_table ≡ []
  pub records_layout_stand : failures 1 records_layout ≡ []
  pub records_size_stand : failures 1 records_size ≡ []
  pub records_answered_stand : failures 1 records_answered ≡ []
  pub edits_made_stand : failures 1 edits_made ≡ []
  pub edits_inbox_stand : failures 1 edits_inbox ≡ []
  pub edits_refused_stand : failures 1 edits_refused ≡ []
  pub edits_layout_stand : failures 1 edits_layout ≡ []
  pub insertion_at_512_rows_stand : failures 1 insertion_at_512_rows ≡ []
  pub edits_commanded_stand : failures 1 edits_commanded ≡ []
  pub edits_in_order_stand : failures 1 edits_in_order ≡ []
  pub edits_in_series_stand : failures 1 edits_in_series ≡ []
  pub compactions_stand : failures 1 compactions ≡ []
  pub compactions_size_stand : failures 1 compactions_size ≡ []
  pub compactions_make_room_stand : failures 1 compactions_make_room ≡ []
  pub readers_answered_stand : failures 1 readers_answered ≡ []
  pub readers_walked_stand : failures 1 readers_walked ≡ []
  pub readers_refused_stand : failures 1 readers_refused ≡ []
  pub readers_edits_stand : failures 1 readers_edits ≡ []
  pub program_readers_stand : failures 1 program_readers ≡ []
  pub namespace_entries_stand : failures 1 namespace_entries ≡ []
  pub namespace_classes_stand : failures 1 namespace_classes ≡ []
  pub uses_by_name_stand : failures 1 uses_by_name ≡ []
  pub flags_by_name_stand : failures 1 flags_by_name ≡ []
  pub attributes_together_stand : failures 1 attributes_together ≡ []
  pub children_and_empty_patterns_stand : failures 1 children_and_empty_patterns ≡ []
  pub special_use_selected_stand : failures 1 special_use_selected ≡ []
  pub quotes_and_wildcards_stand : failures 1 quotes_and_wildcards ≡ []
  pub childinfo_and_uses_shown_stand : failures 1 childinfo_and_uses_shown ≡ []
  pub levels_listed_stand : failures 1 levels_listed ≡ []
  pub levels_not_listed_stand : failures 1 levels_not_listed ≡ []
  pub levels_counted_stand : failures 1 levels_counted ≡ []
  pub inbox_alone_stand : failures 1 inbox_alone ≡ []
  pub lsub_lines_stand : failures 1 lsub_lines ≡ []
  pub lsub_grammar_stand : failures 1 lsub_grammar ≡ []
  pub namespace_line_stand : failures 1 namespace_line_lem ≡ []
  pub table_then_list_then_line_stand : failures 1 table_then_list_then_line ≡ []
  pub line_shape_stand : failures 1 line_shape ≡ []
  pub tag_word_rest_stand : failures 1 tag_word_rest ≡ []
  pub values_and_options_stand : failures 1 values_and_options ≡ []
  pub answer_length_stand : failures 1 answer_length_lem ≡ []
  pub answer_buffer_stand : failures 1 answer_buffer ≡ []
  pub walk_buffers_short_stand : failures 1 walk_buffers_short ≡ []
  pub walk_finds_stand : failures 1 walk_finds ≡ []
  pub walk_buffers_after_stand : failures 1 walk_buffers_after ≡ []
  pub line_writer_stand : failures 1 line_writer ≡ []
  pub reader_parts_stand : failures 1 reader_parts ≡ []
  pub reader_lines_stand : failures 1 reader_lines ≡ []
  pub program_frames_stand : failures 1 program_frames ≡ []
  pub program_digits_and_room_stand : failures 1 program_digits_and_room ≡ []
  pub program_edits_stand : failures 1 program_edits ≡ []
  pub program_answer_room_stand : failures 1 program_answer_room ≡ []
  pub program_scratch_room_stand : failures 1 program_scratch_room ≡ []
  pub program_found_room_stand : failures 1 program_found_room ≡ []
  pub program_pending_room_stand : failures 1 program_pending_room ≡ []
  pub literals_stand : failures 1 literals ≡ []
  pub literals_misplaced_stand : failures 1 literals_misplaced ≡ []
  pub literals_cut_short_stand : failures 1 literals_cut_short ≡ []
  pub literal_lengths_stand : failures 1 literal_lengths ≡ []
  pub feeder_chunks_stand : failures 1 feeder_chunks ≡ []
  pub feeder_large_literals_stand : failures 1 feeder_large_literals ≡ []
  pub feeder_dropping_stand : failures 1 feeder_dropping ≡ []
  pub feeder_command_length_stand : failures 1 feeder_command_length ≡ []

pub limits_hold : Limits-hold
limits_hold =
    record {
      flags_of_a_row_stand = flags_of_a_row_hold;
      names_of_rows_stand = names_of_rows_hold;
      order_of_rows_stand = order_of_rows_hold;
      size_of_a_table_stand = size_of_a_table_hold;
      records_layout_stand = records_layout_hold;
      records_size_stand = records_size_hold;
      records_answered_stand = records_answered_hold;
      edits_made_stand = edits_made_hold;
      edits_inbox_stand = edits_inbox_hold;
      edits_refused_stand = edits_refused_hold;
      edits_layout_stand = edits_layout_hold;
      insertion_at_512_rows_stand = insertion_at_512_rows_hold;
      edits_commanded_stand = edits_commanded_hold;
      edits_in_order_stand = edits_in_order_hold;
      edits_in_series_stand = edits_in_series_hold;
      compactions_stand = compactions_hold;
      compactions_size_stand = compactions_size_hold;
      compactions_make_room_stand = compactions_make_room_hold;
      readers_answered_stand = readers_answered_hold;
      readers_walked_stand = readers_walked_hold;
      readers_refused_stand = readers_refused_hold;
      readers_edits_stand = readers_edits_hold;
      program_readers_stand = program_readers_hold;
      namespace_entries_stand = namespace_entries_hold;
      namespace_classes_stand = namespace_classes_hold;
      uses_by_name_stand = uses_by_name_hold;
      flags_by_name_stand = flags_by_name_hold;
      attributes_together_stand = attributes_together_hold;
      children_and_empty_patterns_stand = children_and_empty_patterns_hold;
      special_use_selected_stand = special_use_selected_hold;
      quotes_and_wildcards_stand = quotes_and_wildcards_hold;
      childinfo_and_uses_shown_stand = childinfo_and_uses_shown_hold;
      levels_listed_stand = levels_listed_hold;
      levels_not_listed_stand = levels_not_listed_hold;
      levels_counted_stand = levels_counted_hold;
      inbox_alone_stand = inbox_alone_hold;
      lsub_lines_stand = lsub_lines_hold;
      lsub_grammar_stand = lsub_grammar_hold;
      namespace_line_stand = namespace_line_hold;
      table_then_list_then_line_stand = table_then_list_then_line_hold;
      line_shape_stand = line_shape_hold;
      tag_word_rest_stand = tag_word_rest_hold;
      values_and_options_stand = values_and_options_hold;
      answer_length_stand = answer_length_hold;
      answer_buffer_stand = answer_buffer_hold;
      walk_buffers_short_stand = walk_buffers_short_hold;
      walk_finds_stand = walk_finds_hold;
      walk_buffers_after_stand = walk_buffers_after_hold;
      line_writer_stand = line_writer_hold;
      reader_parts_stand = reader_parts_hold;
      reader_lines_stand = reader_lines_hold;
      program_frames_stand = program_frames_hold;
      program_digits_and_room_stand = program_digits_and_room_hold;
      program_edits_stand = program_edits_hold;
      program_answer_room_stand = program_answer_room_hold;
      program_scratch_room_stand = program_scratch_room_hold;
      program_found_room_stand = program_found_room_hold;
      program_pending_room_stand = program_pending_room_hold;
      literals_stand = literals_hold;
      literals_misplaced_stand = literals_misplaced_hold;
      literals_cut_short_stand = literals_cut_short_hold;
      literal_lengths_stand = literal_lengths_hold;
      feeder_chunks_stand = feeder_chunks_hold;
      feeder_large_literals_stand = feeder_large_literals_hold;
      feeder_dropping_stand = feeder_dropping_hold;
      feeder_command_length_stand = feeder_command_length_hold;
    }
