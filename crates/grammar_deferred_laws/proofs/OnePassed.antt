-- Where bodies are looked at as tokens whose brackets match, one text is one tree at most, but for what stands in its bodies:
-- two trees of one text are the same with the same bodies.
use Rattle.std.proofs.Common.{◌≡◌, ℕ, suc, ◌+◌, List, [], refl, Bool}
use Rattle.script_grammar.specs.Lexeme.{Lexeme}
use Rattle.script_grammar.specs.Tree.{Expr, Body, Stmts}
use Rattle.script_grammar.specs.Pieces.{passed}
use Rattle.script_grammar.specs.Print.{print, print_stmts}
use Rattle.script_grammar.specs.Script.{IsStatements, IsAssign, IsExpression}
use Rattle.grammar_script_laws.proofs.PartLaws.{both_stand, one_read, room_of}
use Rattle.grammar_parser_specs.specs.Filling.{fill, fill_stmts}
use Rattle.grammar_local_laws.proofs.PassingLaws.{AreBraced}
use Rattle.grammar_deferred_laws.proofs.PassedParts.{pass_assign, pass_expression, pass_statements, assign_complete, expression_complete, statements_complete, no_assign, no_expr}

module _ (bodies : ℕ → Body) (braced : AreBraced bodies) where
  pub one_assign : (w : Bool) (d : ℕ) (u : List Lexeme) (x y : Lexeme) (a b : Expr) → IsAssign passed w d u x a → IsAssign passed w d u y b → fill bodies a ≡ fill bodies b
  one_assign w d u x y a b s t =
      let q = both_stand (print passed (suc d) a) (print passed (suc d) b) u x y s.fits t.fits in
      one_read d (pass_assign bodies braced (room_of q) w) (print passed (suc d) a) (print passed (suc d) b) u (fill bodies a) (fill bodies b) q
      ((assign_complete bodies braced (room_of q + d) (room_of q) d refl w x u a s).at q.left [] q.left_stand (no_assign w a))
      ((assign_complete bodies braced (room_of q + d) (room_of q) d refl w y u b t).at q.right [] q.right_stand (no_assign w b))

  pub one_expression : (w : Bool) (d : ℕ) (u : List Lexeme) (x y : Lexeme) (a b : Expr) → IsExpression passed w d u x a → IsExpression passed w d u y b → fill bodies a ≡ fill bodies b
  one_expression w d u x y a b s t =
      let q = both_stand (print passed (suc d) a) (print passed (suc d) b) u x y s.fits t.fits in
      one_read d (pass_expression bodies braced (room_of q) w) (print passed (suc d) a) (print passed (suc d) b) u (fill bodies a) (fill bodies b) q
      ((expression_complete bodies braced (room_of q + d) (room_of q) d refl w x u a s).at q.left [] q.left_stand (no_expr w a))
      ((expression_complete bodies braced (room_of q + d) (room_of q) d refl w y u b t).at q.right [] q.right_stand (no_expr w b))

  pub one_script : (d : ℕ) (u : List Lexeme) (x y : Lexeme) (a b : Stmts) → IsStatements passed d u x a → IsStatements passed d u y b → fill_stmts bodies a ≡ fill_stmts bodies b
  one_script d u x y a b s t =
      let q = both_stand (print_stmts passed d a) (print_stmts passed d b) u x y s.fits t.fits in
      one_read d (pass_statements bodies braced (room_of q)) (print_stmts passed d a) (print_stmts passed d b) u (fill_stmts bodies a) (fill_stmts bodies b) q
      ((statements_complete bodies braced (room_of q + d) (room_of q) d refl a s.proper).at q.left [] q.left_stand refl)
      ((statements_complete bodies braced (room_of q + d) (room_of q) d refl b t.proper).at q.right [] q.right_stand refl)
