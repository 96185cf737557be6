-- Keys that open the definitions of a file of specs/ for a proof by computation: a proof that unfolds a key unfolds every definition that the key
-- names. Rests on the definitions alone.
use Rattle.listing_rules.specs.Bytes.{text, slash, quote, backslash, crlf, bit, within, one_of, all, is_empty, same, raise, raised, spells}
use Rattle.listing_rules.specs.Lists.{every, any_of, keep, joined, on_first, filled_to}
use Rattle.listing_rules.specs.Orders.{then_by, lex_by, byte_order, is_lt, ascends_from, ascends, placed, insert, sorted}
use Rattle.listing_rules.specs.Names.{levels, proper_ancestors, below, level_order, walk_order, inbox, name_byte, is_full, inbox_spelled, lawful_name}
use Rattle.listing_rules.specs.Flags.{exists, subscribed, remote, no_select, no_inferiors, marked, unmarked, uses, has_use, lawful_flags}
use Rattle.listing_rules.specs.Table.{rows, names, none_below, rows_pass, passes, row_at, rows_after, packed_rows, rows_fill, packed_table, has_row}
use Rattle.listing_rules.specs.Table.{flags_of}
use Rattle.listing_rules.specs.Records.{row_of, record_rows, lies_inside, apart, all_apart, laid_out, record_table, records_after, packed_records}
use Rattle.listing_rules.specs.Readers.{is_reader, sees, visible, seen, records_seen, packed_seen}
use Rattle.listing_rules.specs.Subscriptions.{store_table, store_seen, held, store_rows, spelled_as, spelled, rows_before, below_no_inferiors}
use Rattle.listing_rules.specs.Subscriptions.{uses as usesByte, free_from, free_front, lowest_run, free_run, overwritten, with_subscribed}
use Rattle.listing_rules.specs.Subscriptions.{without_subscribed, zero_record, nth, flagged, inserted, removed, insertion, subscribing}
use Rattle.listing_rules.specs.Subscriptions.{unsubscribing, edited, is_in, subscribed_names, set_edited}
use Rattle.listing_rules.specs.Namespaces.{entry_at, entries_after, entries, entries_fill, lawful_entry, classes_rise, of_class, namespaces_pass}
use Rattle.listing_rules.specs.Tokens.{got, ◌>>=◌, at, after, with_first, atom_byte, tag_byte, astring_byte, pattern_byte, run, unless_empty, run₁}
use Rattle.listing_rules.specs.Tokens.{atom, unquoted, line_byte, quoted_text, digit_byte, decimal, number, literal, string_or, astring, pattern}
use Rattle.listing_rules.specs.Feeder.{ends_line, last_is, announced_at, or_else, announced, go_on_line, first, gives, dropped, offends, refusing}
use Rattle.listing_rules.specs.Feeder.{awaiting, line_ended, text_byte, fed_byte, saying, feed_all, feed_chunks, allowed, still_one, one_command}
use Rattle.listing_rules.specs.Options.{lawful_options, no_criteria, is_none, lawful_criteria, criteria_of, criteria_number, criteria}
use Rattle.listing_rules.specs.Command.{line_text, value_rest, option, parted, options, patterns, selection_part, return_part, is_some, list_args}
use Rattle.listing_rules.specs.Command.{extended, selection_words, return_words, known_in, named, options_of, canonical, few_patterns, is_edit}
use Rattle.listing_rules.specs.Command.{asks_root, judged, lsub_args, judged_lsub, name_arg, or_refuse, worded, tagged, parsed}
use Rattle.listing_rules.specs.Match.{any_tail, any_tail_in_level, head_then, wild_match, matches, matches_any}
use Rattle.listing_rules.specs.Listing.{candidates, implied, meets_criteria, candidate_meets, meets_below, meets_unmatched_below, unselective}
use Rattle.listing_rules.specs.Listing.{ends_in_percent, level_above, listed, child_info, has_children, in_order, attributes_for, attributes}
use Rattle.listing_rules.specs.Listing.{listed_names}
use Rattle.listing_rules.specs.Lines.{attribute_names, chosen, spaced_tail, spaced, escaped, quoted, criteria_names, criteria_text, child_info_text}
use Rattle.listing_rules.specs.Lines.{word_line, list_line, root_line, ok_line}
use Rattle.listing_rules.specs.Lsub.{is_subscribed, subscribed_match, subscribed_below, above_subscribed, lsub_listed, lsub_names, lsub_attributes}
use Rattle.listing_rules.specs.Lsub.{lsub_line}
use Rattle.listing_rules.specs.Server.{line_of, list_answer, lsub_answer, delimiter_text, entry_text, class_text, namespace_answer, answer_to, answer}
use Rattle.listing_rules.specs.Server.{limited, buffer_after, number_of, is_answered, length_of, served, from_reader, served_to, attempted}
use Rattle.listing_rules.specs.Server.{unchanged_by, concluded, commanded_over, commanded, changes}
use Rattle.listing_rules.specs.Series.{sent_to, commanded_all, set_commanded, set_sent}
use Rattle.listing_rules.specs.Compaction.{used_from, place_after, moved, compacted, compaction}
use Rattle.listing_rules.specs.Summary.{is_subscribed_local, is_subscribed_remote, is_existing_local, is_existing_remote, count_below, counted, afresh}
use Rattle.listing_rules.specs.Summary.{same_summary, same_summaries, agrees, grown, summed_table, summed_seen, one, switched, resummed}
use Rattle.listing_rules.specs.Summary.{ancestors_resummed, no_summary, put_in, taken_out, subscribing_sums, unsubscribing_sums, sums_edited}
use Rattle.listing_rules.specs.Summary.{sums_after, summed_over, summed_command, summed_all, summed_compaction, counted_first, summarized}
use Rattle.listing_rules.specs.LineReader.{separated, read_chosen, criteria_sets, read_among, child_info_read, read_parts, or_bad, read_line}
use Rattle.listing_rules.specs.LineReader.{root_attributes, attributes_read, name_read, child_info_of, read_number, name_bytes, same_bools, root_parts}
use Rattle.listing_rules.specs.LineReader.{line_from, written}
use Rattle.listing_rules.specs.Walk.{wants_remote, wants_special, drops_subscribed, lawful_byte, when, command_line, lines_of, packed, ◌then◌, attr}
use Rattle.listing_rules.specs.Walk.{use_attr, is_find, with_name, fits, taken_in, taken_all, replied, asked, walk_from, walk_all, ended, walk}
use Rattle.listing_rules.specs.Walk.{walk_number, walk_count, found_length, zero_behind, found_after, pending_after, scratch_after, collected, walk_by}
use Rattle.listing_rules.specs.Walk.{collected_by}
use Rattle.listing_rules.specs.Demand3.{walk_options, meeting_names, meeting_ancestors, walk_answer, scratch_too_small, found_too_small}
use Rattle.listing_rules.specs.Demand3.{pending_too_small, too_small, Demand3}
use Rattle.listing_rules.specs.Sending.{going_on, references_from, references, commands_sent, walk_numbers, allowed_walk}
use Rattle.listing_rules.specs.Evidence.{list_command, list_lines, line_name, lines_for, listed_in, child_info_in, meeting_below, takes_away}
use Rattle.listing_rules.specs.Joining.{line_order, merged_lines, lawful_set, options_from, patterns_after, packed_patterns, patterns_fill, digit_of}
use Rattle.listing_rules.specs.Joining.{decimal_text, string_text, can_stand, selection_text, returns_any, return_text, joined_text, joined_line}
use Rattle.listing_rules.specs.Joining.{joined_into}
use Rattle.listing_rules.specs.Frames.{digit, bytes_of, command_frame, walk_frame, frame_of, read_frame, hex_digit, hex, answer_line, refusal_line}
use Rattle.listing_rules.specs.Frames.{reply_line, walk_line, answering, add_row, add_entry, framed, step, start, fed, behind, fed_all, at_end}
use Rattle.listing_rules.specs.Frames.{program_output, records_from, program_store, program_summed, kept_seen, kept_summed, add_row_to, command_over}
use Rattle.listing_rules.specs.Frames.{accepted, command_step}
use Rattle.listing_rules.specs.Replay.{asked_in, number_in, logged_of, log_limit, read_logged, logged_line, logged_frames, reporting, first_of}
use Rattle.listing_rules.specs.Replay.{same_reply, noted, rerun, replay_from, replay, replay_number, replay_frame, replay_start, waiting, stopped_at}
use Rattle.listing_rules.specs.Replay.{frame_ended, with_character, replay_on, replay_byte, replay_all, replay_pieces, due_at_end, verdict_at_end}
use Rattle.listing_rules.specs.Replay.{replay_end, is_command, logging, session_log}

unfoldable pub open_bytes : Unit {0}
unfolding text slash quote backslash crlf bit within one_of all is_empty same raise raised spells
open_bytes = tt

unfoldable pub open_lists : Unit {0}
unfolding every any_of keep joined on_first filled_to
open_lists = tt

unfoldable pub open_orders : Unit {0}
unfolding then_by lex_by byte_order is_lt ascends_from ascends placed insert sorted
open_orders = tt

unfoldable pub open_names : Unit {0}
unfolding levels proper_ancestors below level_order walk_order inbox name_byte is_full inbox_spelled lawful_name
open_names = tt

unfoldable pub open_flags : Unit {0}
unfolding exists subscribed remote no_select no_inferiors marked unmarked uses has_use lawful_flags
open_flags = tt

unfoldable pub open_table : Unit {0}
unfolding rows names none_below rows_pass passes row_at rows_after packed_rows rows_fill packed_table has_row flags_of
open_table = tt

unfoldable pub open_records : Unit {0}
unfolding row_of record_rows lies_inside apart all_apart laid_out record_table records_after packed_records
open_records = tt

unfoldable pub open_readers : Unit {0}
unfolding is_reader sees visible seen records_seen packed_seen
open_readers = tt

unfoldable pub open_subscriptions : Unit {0}
unfolding store_table store_seen held store_rows spelled_as spelled rows_before below_no_inferiors usesByte free_from free_front lowest_run free_run overwritten
    with_subscribed without_subscribed zero_record nth flagged inserted removed insertion subscribing unsubscribing edited is_in
    subscribed_names set_edited
open_subscriptions = tt

unfoldable pub open_namespaces : Unit {0}
unfolding entry_at entries_after entries entries_fill lawful_entry classes_rise of_class namespaces_pass
open_namespaces = tt

unfoldable pub open_tokens : Unit {0}
unfolding got ◌>>=◌ at after with_first atom_byte tag_byte astring_byte pattern_byte run unless_empty run₁ atom unquoted line_byte quoted_text digit_byte
    decimal number literal string_or astring pattern
open_tokens = tt

unfoldable pub open_feeder : Unit {0}
unfolding ends_line last_is announced_at or_else announced go_on_line first gives dropped offends refusing awaiting line_ended text_byte fed_byte saying
    feed_all feed_chunks allowed still_one one_command
open_feeder = tt

unfoldable pub open_options : Unit {0}
unfolding lawful_options no_criteria is_none lawful_criteria criteria_of criteria_number criteria
open_options = tt

unfoldable pub open_command : Unit {0}
unfolding line_text value_rest option parted options patterns selection_part return_part is_some list_args extended selection_words return_words known_in named
    options_of canonical few_patterns is_edit asks_root judged lsub_args judged_lsub name_arg or_refuse worded tagged parsed
open_command = tt

unfoldable pub open_match : Unit {0}
unfolding any_tail any_tail_in_level head_then wild_match matches matches_any
open_match = tt

unfoldable pub open_listing : Unit {0}
unfolding candidates implied meets_criteria candidate_meets meets_below meets_unmatched_below unselective ends_in_percent level_above listed child_info
    has_children in_order attributes_for attributes listed_names
open_listing = tt

unfoldable pub open_lines : Unit {0}
unfolding attribute_names chosen spaced_tail spaced escaped quoted criteria_names criteria_text child_info_text word_line list_line root_line ok_line
open_lines = tt

unfoldable pub open_lsub : Unit {0}
unfolding is_subscribed subscribed_match subscribed_below above_subscribed lsub_listed lsub_names lsub_attributes lsub_line
open_lsub = tt

unfoldable pub open_server : Unit {0}
unfolding line_of list_answer lsub_answer delimiter_text entry_text class_text namespace_answer answer_to answer limited buffer_after number_of is_answered
    length_of served from_reader served_to attempted unchanged_by concluded commanded_over commanded changes
open_server = tt

unfoldable pub open_series : Unit {0}
unfolding sent_to commanded_all set_commanded set_sent
open_series = tt

unfoldable pub open_compaction : Unit {0}
unfolding used_from place_after moved compacted compaction
open_compaction = tt

unfoldable pub open_reader : Unit {0}
unfolding separated read_chosen criteria_sets read_among child_info_read read_parts or_bad read_line root_attributes attributes_read name_read child_info_of
    read_number name_bytes same_bools root_parts line_from written
open_reader = tt

unfoldable pub open_walk : Unit {0}
unfolding wants_remote wants_special drops_subscribed lawful_byte when command_line lines_of packed ◌then◌ attr use_attr is_find with_name fits taken_in
    taken_all replied asked walk_from walk_all ended walk walk_number walk_count found_length zero_behind found_after pending_after scratch_after collected
    walk_by collected_by
open_walk = tt

unfoldable pub open_demand3 : Unit {0}
unfolding walk_options meeting_names meeting_ancestors walk_answer scratch_too_small found_too_small pending_too_small too_small Demand3
open_demand3 = tt

unfoldable pub open_sending : Unit {0}
unfolding going_on references_from references commands_sent walk_numbers allowed_walk
open_sending = tt

unfoldable pub open_evidence : Unit {0}
unfolding list_command list_lines line_name lines_for listed_in child_info_in meeting_below takes_away
open_evidence = tt

unfoldable pub open_joining : Unit {0}
unfolding line_order merged_lines lawful_set options_from patterns_after packed_patterns patterns_fill digit_of decimal_text string_text can_stand selection_text
    returns_any return_text joined_text joined_line joined_into
open_joining = tt

unfoldable pub open_frames : Unit {0}
unfolding digit bytes_of command_frame walk_frame frame_of read_frame hex_digit hex answer_line refusal_line reply_line walk_line records_from
    program_store program_summed kept_seen
    kept_summed answering add_row_to add_row add_entry command_over accepted command_step framed step start fed behind fed_all at_end program_output
open_frames = tt

unfoldable pub open_summary : Unit {0}
unfolding is_subscribed_local is_subscribed_remote is_existing_local is_existing_remote count_below counted afresh same_summary same_summaries agrees grown
    summed_table
    summed_seen
    one switched resummed ancestors_resummed no_summary put_in taken_out subscribing_sums unsubscribing_sums sums_edited sums_after summed_over summed_command
    summed_all
    summed_compaction counted_first summarized
open_summary = tt

unfoldable pub open_replay : Unit {0}
unfolding asked_in number_in logged_of log_limit read_logged logged_line logged_frames reporting first_of same_reply noted rerun replay_from replay replay_number
    replay_frame replay_start waiting stopped_at frame_ended with_character replay_on replay_byte replay_all replay_pieces due_at_end verdict_at_end replay_end
    is_command logging session_log
open_replay = tt

-- opens every definition that the cases of the computed tables compute
unfoldable pub open_all : Unit {0}
unfolding open_bytes open_lists open_orders open_names open_flags open_table open_records open_readers open_subscriptions open_namespaces open_tokens open_feeder
    open_options
    open_command open_match open_listing open_lines open_lsub open_server open_series open_compaction open_reader open_walk open_demand3
    open_sending open_evidence open_joining open_summary open_frames open_replay
open_all = tt
