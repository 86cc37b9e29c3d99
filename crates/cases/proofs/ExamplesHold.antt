-- The examples hold: document 01's small graphs, one statement over one list. The checker computes the figures, refusals and tests
-- of the whole list at once; tables, members, expressions and foldings follow by `CaseLaws`.
-- Assumes nothing.
use mathlib.Core.Path.{◌≡◌, refl}
use mathlib.Core.Option.{none}
use Rattle.theory.specs.Words.{inv, put, reduced_by, inverse_by, named, product}
use Rattle.theory.specs.Letters.{letter_bytes, place_in, byte_of, letter_of, is_letter, up_to, usual, on_first, words_of}
use Rattle.theory.specs.Texts.{bytes_from, word}
use Rattle.theory.specs.Refusals.{is_alphabet, byte_refusal, bytes_refusal, is_unended, text_refusal}
use Rattle.theory.specs.Tables.{cell, end_of, is_accepted}
use Rattle.theory.specs.Canonical.{row_of, rows_before, earlier, greatest_met, present, is_in, breaks_cell, breaks_row, is_faulty, least, first_place, faulty_cell}
use Rattle.theory.specs.Graphs.{edge_of, circle, circles, start_points, start_graph, non_empty_words}
use Rattle.theory.specs.Basis.{spots_of, scan, first_met, path_from, path_of, is_path_step, is_path_edge, those, edges_of, outside_edges, basis_word, basis_of, number_in, crossing, crossings, expression_of, rank_of, all, index_of, is_full, leads_back, is_normal}
use Rattle.theory.specs.Files.{groups, number_bytes, numbers_bytes, cell_number, table_file}
use Rattle.decimals.specs.Decimal.{digit_bytes, decimal_of}
use Rattle.cases.specs.Printed.{line, basis_lines, query_lines, printed}
use Rattle.cases.specs.Claims.{figures_of, AsDocumented, Every}
use Rattle.cases.specs.Cases.{examples, unreduced_query}
use Rattle.cases.proofs.CaseLaws.{is_nothing, same_word, is_named, all_named, spans, none_refused, outcome, tests, ready, all_documented}

-- a word that is not reduced may fail to read although it stands for a member: aBbb in the subgroup of ab
pub not_the_other_way : end_of (cell 2 2 unreduced_query.table) 0 (word "aBbb") ≡ none
unfolding end_of cell bytes_from letter_of place_in letter_bytes
not_the_other_way = refl

pub examples_hold : Every AsDocumented examples
unfolding inv put reduced_by inverse_by named product letter_bytes place_in byte_of letter_of is_letter up_to usual on_first words_of bytes_from is_alphabet byte_refusal bytes_refusal is_unended text_refusal cell end_of is_accepted row_of rows_before earlier greatest_met present is_in breaks_cell breaks_row is_faulty least first_place faulty_cell edge_of circle circles start_points start_graph non_empty_words spots_of scan first_met path_from path_of is_path_step is_path_edge those edges_of outside_edges basis_word basis_of number_in crossing crossings expression_of rank_of all index_of is_full leads_back is_normal groups number_bytes numbers_bytes cell_number table_file digit_bytes decimal_of line basis_lines query_lines printed figures_of is_nothing same_word is_named all_named spans none_refused outcome tests ready
examples_hold = all_documented examples refl refl
