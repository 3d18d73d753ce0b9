-- The trial's source is spelled by tokens from which its tree is read.
use Rattle.std.proofs.Common.{◌≡◌, ◌≤◌, ◌^◌, List, [], length, Some, Ok, refl}
use Rattle.std.specs.Prelude.{unwrap_or}
use Rattle.std.proofs.Math.Dec.{lit≤}
use Rattle.setl_tree.specs.Modes.{attribute, simple_core}
use Rattle.setl_tree.specs.Operators.{level_of, binary_op, op_at, update_op, relation_op, not_sign, prefix_op, fold_sign, quantifier, constant}
use Rattle.setl_tree.specs.Statements.{from_word, simple}
use Rattle.setl_token.specs.Spellings.{spellings, listed}
use Rattle.setl_token.specs.declared.Token.{Token}
use Rattle.setl_token.specs.declared.pieces.Piece.{Piece}
use Rattle.setl_token.specs.Lex.{tokens_of, Spelled}
use Rattle.setl_token.specs.code.Pieces.{piece_at}
use Rattle.setl_parse_cursor.specs.Plain.{plain_token, plain_tokens}
use Rattle.setl_parse_reading.specs.code.Reading.{same_kind, expect, opening, one_of, opening_one_of, many_from, more, separated, listed as listed_parts, name}
use Rattle.setl_parse_reading.specs.code.Scan.{ends_slot, slots_ahead, ahead}
use Rattle.setl_parse_reading.specs.code.ReadExpressions as r
use Rattle.setl_parse_reading.specs.code.ReadModes as m
use Rattle.setl_parse_reading.specs.code.ReadStatements as s
use Rattle.setl_parse_reading.specs.code.ReadPrograms as p
use Rattle.setl_top.specs.Accepted.{lexed}
use Rattle.setl_top.specs.Trials.{trial_lines, trial_source}
use Rattle.setl_top_trial.proofs.Lexing.{Longest, cut, cut_is_exact}
use Rattle.setl_top_trial.proofs.TrialTree.{trial_tree}

unfoldable pub trial_pieces : List Piece
trial_pieces = unwrap_or (cut 500 trial_source) []

unfoldable pub trial_tokens : List Token
trial_tokens = tokens_of trial_source 0 trial_pieces

cut_whole : cut 500 trial_source ≡ Some trial_pieces
unfolding trial_lines trial_source trial_pieces piece_at spellings listed
cut_whole = refl

pub is_spelled : Longest → Spelled trial_source trial_tokens
unfolding trial_tokens
is_spelled longest = record { pieces = trial_pieces; all = cut_is_exact longest 500 trial_source trial_pieces cut_whole; among = refl }

pub is_short : length trial_source ≤ 2 ^ 24
unfolding trial_lines trial_source
is_short = lit≤ tt

pub is_read : p.program 200 (plain_tokens (lexed trial_source trial_tokens)) ≡ Ok (trial_tree, [])
unfolding trial_lines trial_source trial_pieces trial_tokens piece_at spellings listed plain_token same_kind expect opening one_of opening_one_of many_from more separated listed_parts name level_of binary_op op_at update_op relation_op not_sign prefix_op fold_sign quantifier constant r.slot r.pattern r.bound r.image r.named_iter r.pattern_iter r.iter r.iters r.operands r.fold r.prefix r.begins_prefix r.prefixes r.nots r.closes r.condition r.former r.third r.second r.unranged r.rest_of_inner r.plain r.filter r.filter_or_plain r.bound_first r.inner r.begins_selector r.slice r.arguments r.round r.braces r.selector r.selectors r.parenthesized r.if_expr r.set r.tuple r.primary r.e12 r.e11 r.e7 r.compared r.e6 r.e5 r.e2 r.after r.quantified r.whole r.nested r.expr r.source m.declared m.element m.round_mode m.braced_mode m.core m.with_attribute m.mode_in m.nested_mode m.mode m.colon_mode m.base_line m.variables_line m.repr_line m.begins_line m.repr s.ending s.begins_stmt s.place_round s.place_selector s.place_selectors s.place s.assigned s.updated s.stored s.selected_place s.after_arguments s.no_arguments s.called s.braced_or_alone s.called_or_stored s.taken s.behind_name s.tuple_assign s.return_stmt s.print_stmt s.read_stmt s.simple_stmt s.branch s.elseifs s.else_part s.if_stmt s.for_loop s.while_loop s.for_or_while s.loop s.stmt_kind s.stmt s.nested_stmts s.stmts p.optional_name p.named_ending p.var p.vars p.passed p.param p.params p.begins_proc p.proc_word p.proc p.procs p.program_end p.program ends_slot slots_ahead ahead from_word simple attribute simple_core
is_read = refl
