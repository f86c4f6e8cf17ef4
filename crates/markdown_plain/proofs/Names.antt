-- The names of the definitions that most lemmas of this crate are about.
pub use Rattle.markdown_base.proofs.ByteListLemmas.{part_length}
pub use Rattle.markdown_base.specs.Bytes.{hyphen, space}
pub use Rattle.markdown_base.specs.Forest.{Forest, nil, node}
pub use Rattle.markdown_base.specs.Source.{Source}
pub use Rattle.markdown_base.specs.Syntax.{any_metadata}
pub use Rattle.markdown_base.specs.declared.item.ItemBody.{ItemBody}
pub use Rattle.markdown_base.specs.declared.syntax.Syntax.{Syntax}
pub use Rattle.markdown_base.specs.declared.tag.Alignment.{Alignment}
pub use Rattle.markdown_base.specs.declared.tag.BlockQuoteKind.{BlockQuoteKind}
pub use Rattle.markdown_base.specs.declared.tag.HeadingLevel.{HeadingLevel}
pub use Rattle.markdown_base.specs.declared.tag.MetadataBlockKind.{MetadataBlockKind}
pub use Rattle.markdown_block_rules.proofs.BlockBeginningsLemmas.{either}
pub use Rattle.markdown_block_rules.specs.BlockGrowth.{Block, Kind, added_in, another_item, closes, begun_by}
pub use Rattle.markdown_block_rules.specs.BlockGrowth.{container_with}
pub use Rattle.markdown_block_rules.specs.BlockGrowth.{content_of, ends_html, inside_of, is_nil, is_text, lazily}
pub use Rattle.markdown_block_rules.specs.BlockGrowth.{leaf_with, line_block, new_blocks, next_item, paragraph_with}
pub use Rattle.markdown_block_rules.specs.BlockGrowth.{table_of_lines, table_with, with_line, with_next_line}
pub use Rattle.markdown_block_rules.specs.BlockRules.{Around, are_separated, block_end, ends_blank, is_blank_block}
pub use Rattle.markdown_block_rules.specs.BlockRules.{is_loose, label_of, last_braces, paragraph_lines, shown_block}
pub use Rattle.markdown_block_rules.specs.BlockRules.{shown_heading, shown_over, shown_row}
pub use Rattle.markdown_block_rules.specs.TableLines.{alignments_for, further_line, reads_tables}
pub use Rattle.markdown_builder.proofs.LaidLemmas.{followed_by-assoc, followed_by-nil}
pub use Rattle.markdown_builder.specs.BuilderView.{BuilderView, Opens, innermost_block, parts_of, with_items}
pub use Rattle.markdown_builder.specs.EvenRows.{is_table_row, open_columns}
pub use Rattle.markdown_builder.specs.Shown.{Shown, chain_of, plain_item, settled_below, shown_item, unnumbered}
pub use Rattle.markdown_builder.specs.TreeLevels.{followed_by, with_trees}
pub use Rattle.markdown_builder.specs.declared.open_block.OpenBlock.{OpenBlock}
pub use Rattle.markdown_items.proofs.RestOfLineLemmas.{more_items, no_items}
pub use Rattle.markdown_items.specs.ContentItems.{content_items}
pub use Rattle.markdown_lines.proofs.BlockStartsLemmas.{slice_same}
pub use Rattle.markdown_lines.proofs.LineBytesLemmas.{trimmed_is}
pub use Rattle.markdown_lines.proofs.PositionsLemmas.{in_part, part_next, rest_of_part}
pub use Rattle.markdown_lines.specs.BlockBeginnings.{Beginning, begins, begins_after, is_paragraph, is_reached}
pub use Rattle.markdown_lines.specs.BlockBeginnings.{item_in_line, item_of, metadata_begun, metadata_in_line}
pub use Rattle.markdown_lines.specs.BlockBeginnings.{past_bytes}
pub use Rattle.markdown_lines.specs.BlockStarts.{beginning_found, left_at, line_at, source_read}
pub use Rattle.markdown_lines.specs.DefinitionRules.{divided}
pub use Rattle.markdown_lines.specs.HeldLines.{AreHeldFrom, IsHeldLine}
pub use Rattle.markdown_lines.specs.LineBytes.{without_end}
pub use Rattle.markdown_lines.specs.Lines.{AllPass, IsLineFrom, is_in_blank_line, is_space_or_tab}
pub use Rattle.markdown_lines.specs.Positions.{left_from}
pub use Rattle.markdown_lines.specs.SourceLines.{SourceLine, cut, is_blank_rest, rest_inside, stop_of, text_line}
pub use Rattle.markdown_lines.specs.TaskMarkers.{task_marker}
pub use Rattle.markdown_lines.specs.declared.atx_heading.AtxHeading.{AtxHeading}
pub use Rattle.markdown_lines.specs.declared.block_start.BlockStart.{BlockStart}
pub use Rattle.markdown_lines.specs.declared.braces.Braces.{Braces}
pub use Rattle.markdown_lines.specs.declared.held_line.HeldLine.{HeldLine}
pub use Rattle.markdown_lines.specs.declared.html_kind.HtmlKind.{HtmlKind}
pub use Rattle.markdown_lines.specs.declared.line.Line.{Line}
pub use Rattle.markdown_lines.specs.declared.line_reader.LineReader.{LineReader}
pub use Rattle.markdown_lines.specs.declared.list_marker.ListMarker.{ListMarker}
pub use Rattle.markdown_lines.specs.declared.position.Position.{Position}
pub use Rattle.markdown_plain.specs.Beginning.{HasRoom, HoldsLast, IsFirst, IsFound, IsHere, IsLeft, MayBegin, Turn}
pub use Rattle.markdown_plain.specs.Beginning.{first, later}
pub use Rattle.markdown_plain.specs.Closable.{AreAhead, AreApart, AreClosable, AreInText, IsInText, IsReady}
pub use Rattle.markdown_plain.specs.Closable.{IsReadyAfter, has_quote, leaf_end}
pub use Rattle.markdown_plain.specs.Closing.{AreItemsInLists, MayBeIn, MayEnd}
pub use Rattle.markdown_plain.specs.CodeLines.{after_line}
pub use Rattle.markdown_plain.specs.Containers.{is_container, is_innermost}
pub use Rattle.markdown_plain.specs.Fits.{MayStep}
pub use Rattle.markdown_plain.specs.Fitting.{GoesOn, OpensHeadingOf, PutsBlock, closed, stepped}
pub use Rattle.markdown_plain.specs.Frames.{AreContainers, AreNested, Frame, IsContainer, Reached, closed_in, forgotten}
pub use Rattle.markdown_plain.specs.Frames.{innermost_is, inside_container, is_item, is_list, is_quote, outer_within}
pub use Rattle.markdown_plain.specs.Frames.{rebuilt, room_depth, touched}
pub use Rattle.markdown_plain.specs.HeldSources.{AreHeld, AreInOrder, AreInParagraph, AreTextLines, IsParagraph, IsRest}
pub use Rattle.markdown_plain.specs.HeldSources.{IsTextLine}
pub use Rattle.markdown_plain.specs.LeafTrees.{HasItems, HasMoreTexts, HasTrees}
pub use Rattle.markdown_plain.specs.OpenBlocks.{has_leaf, without_leaf}
pub use Rattle.markdown_plain.specs.OpenLeaves.{AreItemsOpenedIn, BeginsText, HoldsParagraph, IsLineRest, IsOpenIn}
pub use Rattle.markdown_plain.specs.OpenLeaves.{IsPlaced, is_leaf, is_table, leaf_block}
pub use Rattle.markdown_plain.specs.OpenedFrames.{MayOpen, with_frame}
pub use Rattle.markdown_plain.specs.ParagraphSteps.{EndsTo}
pub use Rattle.markdown_plain.specs.Paragraphs.{EndsFrom, end_of, first_task, has_paragraph, lines_end, past, source_of}
pub use Rattle.markdown_plain.specs.Paragraphs.{task_at}
pub use Rattle.markdown_plain.specs.PassSteps.{ClosesDown, MakesRoom, between}
pub use Rattle.markdown_plain.specs.ReachedFrames.{IsBefore, IsReached, are_none, quote_depth}
pub use Rattle.markdown_plain.specs.ReachedLines.{Before, IsReachedBy, LeavesOff, blocks_before, blocks_in, is_indented}
pub use Rattle.markdown_plain.specs.ReachedLines.{reached_of}
pub use Rattle.markdown_plain.specs.Settled.{AreOpen, BlanksKnown, EmptyKnown, EmptyKnownIn, IsBodyOf, IsBuilt}
pub use Rattle.markdown_plain.specs.Settled.{IsLooseAs, IsLooseBefore, QuotesEnd, around_in, around_innermost}
pub use Rattle.markdown_plain.specs.Settled.{placed_end}
pub use Rattle.markdown_plain.specs.Standing.{AreOpenedBefore, GoesOnBy, HasLast, HoldsBlanks, IsLeafKind, IsSource}
pub use Rattle.markdown_plain.specs.Standing.{PlacesFor, PlacesLast, Stands, with_last}
pub use Rattle.markdown_plain.specs.TableHeads.{IfParagraph, IfParagraphLast, IsUntabled, Remembers, last_of, next_line}
pub use Rattle.markdown_plain.specs.TableRows.{IsCounted, PutsTrees}
pub use Rattle.markdown_plain.specs.TextLines.{IsContentAt, IsTextFrom, held_line, paragraph_before}
pub use Rattle.markdown_plain.specs.declared.beginnings.LineRest.{LineRest}
pub use Rattle.markdown_plain.specs.declared.looseness.Looseness.{Looseness}
pub use Rattle.markdown_plain.specs.declared.pass.LeafKind.{LeafKind}
pub use Rattle.markdown_plain.specs.declared.pass.Pass.{Pass}
pub use Rattle.markdown_plain.specs.declared.placing.Placing.{Placing}
pub use Rattle.markdown_scan.specs.Beginnings.{begins_with}
pub use Rattle.markdown_scan.specs.ContainerParts.{past_footnote, past_indent, past_quote}
pub use Rattle.markdown_scan.specs.Entity.{entity_names}
pub use Rattle.markdown_scan.specs.LineStart.{LineLeft, Space, column_after, is_line_over, leading_space, past_marker}
pub use Rattle.markdown_scan.specs.LineStart.{past_one_byte, space_from, space_width}
pub use Rattle.std.proofs.Math.Bool.{and-false, and-true, or-false, or-true, or_assoc}
pub use Rattle.std.proofs.lemmas.Bool.{and_parts, cases_lt, or_parts, or_right}
pub use Rattle.std.proofs.lemmas.Bool.Decides.{eqb_tells, nat_tests}
pub use Rattle.std.proofs.lemmas.List.Sums.{prefix_len-le-length, prefix_len_passes}
pub use Rattle.std.proofs.lemmas.Option.{get_or_from_slice_get, none-some, same_Some, slice_get-get_or}
pub use Rattle.std.proofs.lemmas.Option.{slice_get_within}
pub use Rattle.std.proofs.lemmas.Str.{IsCharBoundary-after_ascii, IsCharBoundary-before_ascii}
pub use Rattle.std.specs.List.{list_all, prefix_len, suffix_len}
pub use Rattle.std.specs.Option.{option_map_or, option_or}
unfoldable pub use Rattle.markdown_block_rules.specs.BlockGrowth.{begun_in, goes_on, with_lazy}
unfoldable pub use Rattle.markdown_block_rules.specs.BlockRules.{definitions_in, footnotes_in, shown_blocks}
unfoldable pub use Rattle.markdown_lines.specs.DefinitionRules.{divided_in}
unfoldable pub use Rattle.markdown_plain.specs.Frames.{reached}
unfoldable pub use Rattle.markdown_plain.specs.OpenBlocks.{outer_of}
