-- Each turn of a loop over statements, bindings or clauses reads a lexeme.
use Rattle.std.proofs.Common.{Bool, true, Option, Some, None, ◌∷◌}
use Rattle.script_grammar.specs.declared.token.mark.TheConstants as mark
use Rattle.script_grammar.specs.declared.token.word.TheConstants as word
use Rattle.script_grammar.specs.Lexeme.{Lexeme}
use Rattle.script_grammar.specs.Kinds.{is_mark, is_word, is_name}
use Rattle.script_grammar.specs.TreeLists.{Bind, Clause}
use Rattle.grammar_parser_specs.specs.Parser.{Parser, ret, bind, step, when, Turn, Again, Stop}
use Rattle.grammar_parser_specs.specs.Exprs.{Env, AParam, ARest, Plain, Trailing, Rest, again}
use Rattle.grammar_parser_specs.specs.Stmts as parser
use Rattle.grammar_parser_specs.specs.Stmts.{AnItem, StmtCalls, Block}
use Rattle.grammar_parser_laws.proofs.Local.{Local, local_ret, local_bad, local_bind, local_peek, local_when, local_step, Gains, gains_peek, gains_step, moves_when, moves_eats, eats_bind}
use Rattle.grammar_local_laws.proofs.LocalExprs.{LocalEnv}
use Rattle.grammar_local_laws.proofs.LocalStmts.{LocalUses, LocalStmts, LocalBlock, local_expect, local_name, local_stmts}

module _ (stmt : StmtCalls) (s : LocalStmts stmt) where
  pub stmt_turn_gains : (i : Bool) → Gains (parser.stmt_turn stmt i)
  unfolding parser.stmt_turn
  stmt_turn_gains i = gains_peek (λ t. when (parser.ends_items t.kind) (ret (Stop tt)) (bind (stmt (AnItem i)) (λ x. ret (Again x)))) tt
      (λ t ts. moves_when (ret (Stop tt)) (bind (stmt (AnItem i)) (λ x. ret (Again x))) (parser.ends_items t.kind) t ts tt (moves_eats (bind (stmt (AnItem i)) (λ x. ret (Again x))) (eats_bind (s.eats (AnItem i)) (λ x. local_ret (Again x))) (t ∷ ts)))

module _ (v : Env) (u : LocalUses v) where
  local_value_of : (w : Bool) → Local (parser.value_of v w)
  unfolding parser.value_of
  local_value_of w = local_peek (λ t. local_when (is_mark mark.ASSIGN t.kind) (local_step (local_bind (u.assign w) (λ e. local_ret (Some e)))) (local_ret None))

  local_bind_of : (w : Bool) → Local (parser.bind_of v w)
  unfolding parser.bind_of parser.bind_from
  local_bind_of w = local_bind local_name (λ n. local_bind (local_value_of w) (λ o. local_ret (parser.bound n o)))

  behind_comma : (w : Bool) → Local (bind (parser.bind_of v w) (again {A = Bind} {B = Unit {0}}))
  behind_comma w = local_bind (local_bind_of w) (λ x. local_ret (Again x))

  pub bind_turn_gains : (w : Bool) → Gains (parser.bind_turn v w)
  unfolding parser.bind_turn
  bind_turn_gains w = gains_peek (λ t. when (is_mark mark.COMMA t.kind) (step (bind (parser.bind_of v w) again)) (ret (Stop tt))) tt
      (λ t ts. moves_when (step (bind (parser.bind_of v w) again)) (ret (Stop tt)) (is_mark mark.COMMA t.kind) t ts (gains_step (bind (parser.bind_of v w) again) (behind_comma w) t ts) tt)

module _ (b : Block) (l : LocalBlock b) (i : Bool) where
  local_case : Local (parser.case_of b i)
  unfolding parser.case_of
  local_case = local_bind (l.uses.expr true) (λ e. local_bind (local_expect mark.COLON) (λ _. local_bind (local_stmts b.stmt l.stmts i) (λ ss. local_ret (parser.clause (Some e) ss))))

  local_default : Local (parser.default_of b i)
  unfolding parser.default_of
  local_default = local_bind (local_expect mark.COLON) (λ _. local_bind (local_stmts b.stmt l.stmts i) (λ ss. local_ret (parser.clause None ss)))

  behind_case : {B : Type 0} → Local (bind (parser.case_of b i) (again {A = Clause} {B = B}))
  behind_case = local_bind local_case (λ c. local_ret (Again c))

  behind_default : Local (bind (parser.default_of b i) (λ c. ret {A = Turn Clause (Option Clause)} (Stop (Some c))))
  behind_default = local_bind local_default (λ c. local_ret (Stop (Some c)))

  pub case_turn_gains : Gains (parser.case_turn b i)
  unfolding parser.case_turn
  case_turn_gains = gains_peek (λ t. when (is_word word.CASE t.kind) (step (bind (parser.case_of b i) again)) (ret (Stop tt))) tt
      (λ t ts. moves_when (step (bind (parser.case_of b i) again)) (ret (Stop tt)) (is_word word.CASE t.kind) t ts (gains_step (bind (parser.case_of b i) again) behind_case t ts) tt)

  default_turn : Lexeme → Parser (Turn Clause (Option Clause))
  default_turn t = when (is_word word.DEFAULT t.kind) (step (bind (parser.default_of b i) (λ c. ret (Stop (Some c))))) (ret (Stop None))

  pub clause_turn_gains : Gains (parser.clause_turn b i)
  unfolding parser.clause_turn default_turn
  clause_turn_gains = gains_peek (λ t. when (is_word word.CASE t.kind) (step (bind (parser.case_of b i) again)) (default_turn t)) tt
      (λ t ts. moves_when (step (bind (parser.case_of b i) again)) (default_turn t) (is_word word.CASE t.kind) t ts (gains_step (bind (parser.case_of b i) again) behind_case t ts)
      (moves_when (step (bind (parser.default_of b i) (λ c. ret (Stop (Some c))))) (ret (Stop None)) (is_word word.DEFAULT t.kind) t ts (gains_step (bind (parser.default_of b i) (λ c. ret (Stop (Some c)))) behind_default t ts) tt))

module _ (v : Env) (l : LocalEnv v) where
  strict_param_local : Local (parser.strict_param v)
  unfolding parser.strict_param
  strict_param_local = local_peek (λ t. local_when (is_mark mark.ELLIPSIS t.kind) (local_bind (l.at ARest) (λ n. local_ret (Stop (Rest n)))) (local_when (is_name t.kind) (local_bind (l.at AParam) (λ p. local_ret (Again p))) local_bad))

  strict_next_local : Local (parser.strict_next v)
  unfolding parser.strict_next
  strict_next_local = local_peek (λ t. local_when (is_mark mark.CLOSE_PAREN t.kind) (local_ret (Stop Trailing)) strict_param_local)

  pub strict_turn_gains : Gains (parser.strict_turn v)
  unfolding parser.strict_turn
  strict_turn_gains = gains_peek (λ t. when (is_mark mark.COMMA t.kind) (step (parser.strict_next v)) (ret (Stop Plain))) tt (λ t ts. moves_when _ _ (is_mark mark.COMMA t.kind) t ts (gains_step _ strict_next_local t ts) tt)
