-- Lexemes for computed rows, and what the parser answers in short.
use Rattle.std.proofs.Common.{ℕ, zero, suc, List, [], ◌∷◌, Bool, true, false}
use Rattle.script_grammar.specs.declared.token.Kind.{Kind}
use Rattle.script_grammar.specs.declared.token.Kind.TheVariants as kind
use Rattle.script_grammar.specs.Lexeme.{Lexeme, role_of}
use Rattle.script_grammar.specs.Tree.{Body, BracedBody, no_stmts}
use Rattle.grammar_parser_specs.specs.Parser.{Reply, Read, Bad, Deep, head_of, turns, loop}
use Rattle.grammar_parser_specs.specs.Exprs.{expect, name_of, more_turn, expr_of, args_next, args_turn, more_args, args_of, item_end, item_turn, array_of, part_end, part_turn, template_of, initializer_of, param_of, param_turn, params_next, params_turn, more_params, listed_params, params_head, function_of, maybe_name, func_of, computed_of, key_of, keyed_of, short_of, getter_of, setter_of, accessor_of, prop_of, props_next, props_turn, more_props, object_of, items_from, doomed_rest, lead_end, lead_item, lead_turn, lead_items, paren_of, prim_of, dot_of, index_of, member_turn, call_of, tail_turn, new_or_prim, new_from, new_args, new_of, left_of, postfix_of, update_of, unary_of, prefix_of, power_turn, power_of, op_turn, level_of, or_from, short_circuit, branches_of, cond_tail, cond_of, is_arrow_head, arrow_param, arrow_rest, arrow_first, arrow_next, arrow_turn, arrow_params, arrow_listed, arrow_head, arrow_mark, arrow_body, arrow_of, assign_tail, plain_of, assign_of, calls, passing}
use Rattle.grammar_parser_specs.specs.Stmts.{read_script, expect_word, semi_of, parens_of, stmt_turn, stmts_from, braced_from, braced_of, value_of, bind_from, bind_of, bind_turn, binds_from, binding_of, declared_of, debugger_of, value_stmt, else_of, if_of, while_of, do_of, option_of, for_from, for_in_from, for_named, for_decl, for_valued, for_head, for_of, label_name, continue_of, break_of, returned_of, return_of, thrown_of, throw_of, case_of, default_of, case_turn, clause_turn, more_clauses, clauses_from, switch_of, catch_name, catch_param, try_of, labelled_of, plain_stmt, block_stmt, jump_stmt, nested_stmt, declaration_stmt, stmt_of, everything, close_body, reading, end_of, script_of, strict_param, strict_next, strict_turn, strict_params, strict_listed, strict_head, strict_body, arrow_alone, alone_of}

abbrev pub lexeme : Kind → List ℕ → ℕ → ℕ → ℕ → Bool → Lexeme
lexeme k w n start end line = record { kind = k; text = w; number = n; role = role_of k w; start = start; end = end; after_line = line }

abbrev pub name_at : List ℕ → ℕ → ℕ → Bool → Lexeme
name_at w start end line = lexeme kind.Name w 0 start end line

abbrev pub number_at : ℕ → ℕ → ℕ → Bool → Lexeme
number_at n start end line = lexeme kind.Number [] n start end line

-- a string, or a part of a template
abbrev pub text_at : Kind → List ℕ → ℕ → ℕ → Bool → Lexeme
text_at k w start end line = lexeme k w 0 start end line

abbrev pub word_at : ℕ → List ℕ → ℕ → ℕ → Bool → Lexeme
word_at i w start end line = lexeme (kind.Word i) w 0 start end line

abbrev pub mark_at : ℕ → ℕ → ℕ → Bool → Lexeme
mark_at i start end line = lexeme (kind.Mark i) [] 0 start end line

abbrev pub bad_at : ℕ → Bool → Lexeme
bad_at start line = lexeme kind.Bad [] 0 start start line

abbrev pub end_at : ℕ → Bool → Lexeme
end_at start line = lexeme kind.End [] 0 start start line

-- accepted, refused at the lexeme that starts there, or read alone
pub data Summary : Type 0 where
  Accepted : Summary
  Unexpected : ℕ → Summary
  TooDeep : ℕ → Summary
  -- read up to the lexeme that starts there
  Leaves : ℕ → Summary

abbrev pub outcome : {A : Type 0} → Reply A → Summary
outcome (Read a rs ts) = Accepted
outcome (Bad rs ts) = Unexpected (head_of ts).start
outcome (Deep rs ts) = TooDeep (head_of ts).start

-- n times this mark, from this offset on
abbrev pub many : ℕ → ℕ → ℕ → List Lexeme → List Lexeme
many i zero start ts = ts
many i (suc n) start ts = mark_at i start (suc start) false ∷ many i n (suc start) ts

-- what the parser of scripts answers with this room for depth
unfoldable pub answer : ℕ → List Lexeme → Summary
unfolding turns loop expect name_of more_turn expr_of args_next args_turn more_args args_of item_end item_turn array_of part_end part_turn template_of initializer_of param_of param_turn params_next params_turn more_params listed_params params_head function_of maybe_name func_of computed_of key_of keyed_of short_of getter_of setter_of accessor_of prop_of props_next props_turn more_props object_of items_from doomed_rest lead_end lead_item lead_turn lead_items paren_of prim_of dot_of index_of member_turn call_of tail_turn new_or_prim new_from new_args new_of left_of postfix_of update_of unary_of prefix_of power_turn power_of op_turn level_of or_from short_circuit branches_of cond_tail cond_of is_arrow_head arrow_param arrow_rest arrow_first arrow_next arrow_turn arrow_params arrow_listed arrow_head arrow_mark arrow_body arrow_of assign_tail plain_of assign_of calls passing expect_word semi_of parens_of stmt_turn stmts_from braced_from braced_of value_of bind_from bind_of bind_turn binds_from binding_of declared_of debugger_of value_stmt else_of if_of while_of do_of option_of for_from for_in_from for_named for_decl for_valued for_head for_of label_name continue_of break_of returned_of return_of thrown_of throw_of case_of default_of case_turn clause_turn more_clauses clauses_from switch_of catch_name catch_param try_of labelled_of plain_stmt block_stmt jump_stmt nested_stmt declaration_stmt stmt_of everything close_body reading end_of script_of strict_param strict_next strict_turn strict_params strict_listed strict_head strict_body arrow_alone alone_of
answer room ts = outcome (read_script room ts)

abbrev pub remaining : {A : Type 0} → Reply A → Summary
remaining (Read a rs ts) = Leaves (head_of ts).start
remaining (Bad rs ts) = Unexpected (head_of ts).start
remaining (Deep rs ts) = TooDeep (head_of ts).start

abbrev pub empty_body : ℕ → Body
empty_body start = BracedBody no_stmts

-- what the parser answers that reads an Expression alone and passes bodies over, with this room for depth
unfoldable pub answer_expression : ℕ → List Lexeme → Summary
unfolding turns loop expect name_of more_turn expr_of args_next args_turn more_args args_of item_end item_turn array_of part_end part_turn template_of initializer_of param_of param_turn params_next params_turn more_params listed_params params_head function_of maybe_name func_of computed_of key_of keyed_of short_of getter_of setter_of accessor_of prop_of props_next props_turn more_props object_of items_from doomed_rest lead_end lead_item lead_turn lead_items paren_of prim_of dot_of index_of member_turn call_of tail_turn new_or_prim new_from new_args new_of left_of postfix_of update_of unary_of prefix_of power_turn power_of op_turn level_of or_from short_circuit branches_of cond_tail cond_of is_arrow_head arrow_param arrow_rest arrow_first arrow_next arrow_turn arrow_params arrow_listed arrow_head arrow_mark arrow_body arrow_of assign_tail plain_of assign_of calls passing expect_word semi_of parens_of stmt_turn stmts_from braced_from braced_of value_of bind_from bind_of bind_turn binds_from binding_of declared_of debugger_of value_stmt else_of if_of while_of do_of option_of for_from for_in_from for_named for_decl for_valued for_head for_of label_name continue_of break_of returned_of return_of thrown_of throw_of case_of default_of case_turn clause_turn more_clauses clauses_from switch_of catch_name catch_param try_of labelled_of plain_stmt block_stmt jump_stmt nested_stmt declaration_stmt stmt_of everything close_body reading end_of script_of strict_param strict_next strict_turn strict_params strict_listed strict_head strict_body arrow_alone alone_of
answer_expression room ts = remaining (expr_of (record { sub = calls (passing empty_body) room; body = passing empty_body room }) true ts)
