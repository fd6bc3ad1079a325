-- Every definition that a case computes with, crate by crate.
use Rattle.sets.specs.Below
use Rattle.sets.specs.Sets
use Rattle.channels.specs.Channels
use Rattle.sheet_rows.specs.Form
use Rattle.sheet_rows.specs.Rows
use Rattle.rule_sections.specs.Rules
use Rattle.sheet.specs.Sheet
use Rattle.sheet.specs.Refusal
use Rattle.rules.specs.Job
use Rattle.spacing.specs.Spacing
use Rattle.pair_test.specs.Pairs
use Rattle.pair_test.specs.Layers
use Rattle.rules.specs.Plans
use Rattle.spares.specs.Table
use Rattle.spares.specs.Spares
use Rattle.cliques.specs.Graph
use Rattle.cliques.specs.Listing
use Rattle.filters.specs.Sweep
use Rattle.filters.specs.Unit as Steps
use Rattle.filters.specs.Failed
use Rattle.filters.specs.PreFilter
use Rattle.filters.specs.Switches
use Rattle.graph.specs.Graph as Micro
use Rattle.partition.specs.Choice
use Rattle.partition.specs.Partition
use Rattle.search.specs.Tree
use Rattle.search.specs.Setting as Root
use Rattle.zeros.specs.Zeros
use Rattle.cells.specs.Cells
use Rattle.setting.specs.Setting
use Rattle.work_words.specs.Classes
use Rattle.planner.specs.Outcome
use Rattle.sets.specs.Choices
use Rattle.counting.specs.Plans as Counted
use Rattle.counting.specs.Outcome as Counting
use Rattle.lines.specs.Lines
use Rattle.hall_plan.specs.Hall
use Rattle.text.specs.Text
use Rattle.dimacs.specs.Lists
use Rattle.dimacs.specs.Export
use Rattle.dimacs.specs.Reading
use Rattle.dimacs.specs.Made
use Rattle.dimacs.specs.Import

unfoldable pub open_sets : Unit {0}
unfolding Below.all Below.any Below.first Below.sum_to Below.count Below.loop Below.replace Below.tabulate Sets.◌∩◌
    Sets.◌∪◌ Sets.◌∖◌ Sets.nothing Sets.just Sets.whole
open_sets = tt

unfoldable pub open_sheet : Unit {0}
unfolding Form.form_by Rows.link_first Rows.link_count Rows.link_width Sheet.link_ok Sheet.link_rows_ok Sheet.links_ok
    Sheet.width_ok Sheet.width_rows_ok Sheet.widths_ok Sheet.freq_ok Sheet.link_freqs_ok Sheet.freqs_ok Rules.before
    Rules.plain_ok Rules.kind_ok Rules.listed Rules.rule_rises Rules.rule_row_ok Rules.rule_ok Rules.rules_ok Rules.pair_rises
    Rules.pair_ok
    Rules.rule_pairs_ok Rules.pairs_ok Refusal.form_ok Refusal.link_count_ok Refusal.counts_ok Refusal.table_ok
    Refusal.offsets_ok Refusal.unless Refusal.section_cause Refusal.refusal
open_sheet = tt

unfoldable pub open_channels : Unit {0}
unfolding Channels.lower_edge Channels.covers Channels.channel_ok Channels.channels_ok Channels.covered_by Job.unstruck
open_channels = tt

unfoldable pub open_check : Unit {0}
unfolding Plans.place_of Plans.has_freq Plans.vertex_of Plans.in_lists Plans.spare_taken Plans.pair_kept Plans.link_kept
    Plans.keeps Plans.keeps_sheet Plans.clear Plans.keeps_job Plans.checked
open_check = tt

unfoldable pub open_spares : Unit {0}
unfolding Table.spare_of Table.spare_at Spares.answer_for Spares.judged Spares.shown Spares.place_left
open_spares = tt

unfoldable pub open_graph : Unit {0}
unfolding Spacing.distance Spacing.zero_or_more Spacing.spare_by Spacing.spare_without Pairs.same_pair Pairs.lists_pair
    Pairs.rule_widths Pairs.of_links Pairs.spare_free Pairs.spare_row Pairs.spare Layers.layer_of
    Micro.links_differ Micro.adjacent Graph.in_class Graph.size Graph.some Graph.lone Graph.two Graph.lower Graph.higher
    Graph.is_open Listing.by_layer
open_graph = tt

unfoldable pub open_filters : Unit {0}
unfolding Sweep.near Sweep.reached Sweep.sweep_to Sweep.sweep Steps.stays Steps.strike Steps.due Steps.steps Steps.unit
    Failed.alone Failed.refuted Failed.trial Failed.try_higher Failed.try_class Failed.round Failed.rounds Failed.failed
    PreFilter.pre_to PreFilter.pre_filter Switches.idle Switches.on Switches.at_node
open_filters = tt

unfoldable pub open_partition : Unit {0}
unfolding Choice.class_list Partition.layers_of Partition.degree Partition.add_degree Partition.by_degree Partition.free
    Partition.join Partition.fill Partition.greedy Partition.all_placed Partition.built Partition.is_partition
    Partition.classes
open_partition = tt

unfoldable pub open_planner : Unit {0}
unfolding Tree.plus Tree.choose Tree.and_then Tree.in_turn Tree.node Root.root Root.root_set Root.entered
    Root.tree Zeros.zeros
    Cells.cell_of Cells.plan_cells
    Setting.in_range Classes.list_ok Classes.classes_of Outcome.setting_cause Outcome.call_refusal Outcome.tree_of
    Outcome.outcome
open_planner = tt

unfoldable pub open_counting : Unit {0}
unfolding Choices.sum_choices Choices.choices Counted.is_plan Counted.plans Counted.plans_with Counting.counting_refusal
    Counting.count_of Counting.counting_outcome
open_counting = tt

unfoldable pub open_lines : Unit {0}
unfolding Lines.ascii Lines.digits Lines.decimal Lines.ending Lines.line
open_lines = tt

unfoldable pub open_text : Unit {0}
unfolding open_lines Hall.is_festival Hall.hall_outcome Text.link_lines Text.printed_of Text.printed
open_text = tt

unfoldable pub open_export : Unit {0}
unfolding Lists.select Lists.for_each Lists.join_to Export.is_edge Export.edge_codes Export.edge_text Export.graph_text
    Export.count_text Export.counts_text Export.counts_of
open_export = tt

unfoldable pub open_reading : Unit {0}
unfolding Reading.is_digit Reading.digits_from Reading.read_number Reading.ended_by Reading.field Reading.first_of
    Reading.layer_by Reading.count_fits Reading.counts_from Reading.is_vertex Reading.edge_to Reading.edge_from
    Reading.edge_line Reading.clashes Reading.edges_from Reading.of_lines Reading.lines_from Reading.head_from
    Reading.edges_of Reading.texts_over Reading.texts_by Reading.texts_of
open_reading = tt

unfoldable pub open_import : Unit {0}
unfolding Made.joined Made.header Made.link_row_of Made.freq_row Made.link_rows Made.freq_rows Made.pair_row Made.is_pair
    Made.pairs_of Made.is_full Made.is_ruled Made.ruled Made.ruled_a Made.ruled_b Made.rule_pairs Made.pairs_before
    Made.kind_of Made.value_of Made.rule_row Made.rule_pair_rows Made.rule_rows Made.pair_rows Made.sheet_of
    Import.sheet_bytes Import.sheet_fits Import.texts_cause Import.import_cause Import.sheet_by Import.imported_sheet
open_import = tt
