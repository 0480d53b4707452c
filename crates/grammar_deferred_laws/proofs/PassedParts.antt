-- What the parser answers that passes bodies over, by the definitions alone, for a script, an AssignmentExpression and an
-- Expression whose bodies are looked at as tokens whose brackets match: it reads them with the bodies that it is given where
-- no token is too deep, and where it faults there is the first fault of such a part.
use Rattle.std.proofs.Common.{◌≡◌, ℕ, suc, ◌+◌, ◌-◌, ◌≤◌, List, [], ◌∷◌, ◌++◌, length, refl, sym, ap, ◌∙◌, subst, arith, append_assoc, Bool, true, false}
use Rattle.script_grammar.specs.Lexeme.{Lexeme}
use Rattle.script_grammar.specs.Kinds.{is_end}
use Rattle.script_grammar.specs.Tree.{Expr, Body, Stmts}
use Rattle.script_grammar.specs.Endings.{ending}
use Rattle.script_grammar.specs.Pieces.{passed, depths}
use Rattle.script_grammar.specs.Print.{print, print_stmts}
use Rattle.script_grammar.specs.Proper.{rank, assign_rank, free_of_in, InIf}
use Rattle.script_grammar.specs.Proper as plain
use Rattle.script_grammar.specs.Script.{IsStatements, IsAssign, IsExpression}
use Rattle.script_grammar.specs.Fault.{depth_limit, ScriptPart, AssignPart, ExpressionPart, Begins, Unexpected, TooDeep, FirstFault}
use Rattle.grammar_parser_specs.specs.Parser.{Reply, Read, Bad, Deep, Parser, head_of, end_lexeme}
use Rattle.grammar_parser_specs.specs.Exprs.{Env, AnAssign, expr_of, passing}
use Rattle.grammar_parser_specs.specs.Stmts as parser
use Rattle.grammar_parser_specs.specs.Stmts.{env_of, everything}
use Rattle.grammar_parser_specs.specs.Follow.{continues_assign, continues_expr}
use Rattle.grammar_parser_laws.proofs.Friendly.{AtFront}
use Rattle.grammar_complete_laws.proofs.Stops.{stop_end, stop_assign}
use Rattle.grammar_parser_laws.proofs.Stands.{Marked, lexemes_append, fits_standing}
use Rattle.grammar_parser_laws.proofs.Complete.{bare, cut_append}
use Rattle.grammar_complete_laws.proofs.Completes.{Completes, c_pieces, c_weaken}
use Rattle.grammar_parser_laws.proofs.SoundParts.{IsExpr, SoundEnv}
use Rattle.grammar_sound_laws.proofs.SoundLists.{expr_sound}
use Rattle.grammar_sound_laws.proofs.SoundNext.{SoundNext, Plain, next_of, stands}
use Rattle.grammar_sound_laws.proofs.SoundEverything.{script_sound}
use Rattle.grammar_local_laws.proofs.LocalExprs.{expr_local}
use Rattle.grammar_local_laws.proofs.LocalStmts.{local_script}
use Rattle.grammar_complete_laws.proofs.CompleteParts.{CompleteEnv, expr_complete}
use Rattle.grammar_complete_laws.proofs.CompleteEverything.{script_complete}
use Rattle.grammar_script_laws.proofs.Bracketed.{AllInner}
use Rattle.grammar_parser_laws.proofs.NestedTrees.{nested_expr, nested_stmts}
use Rattle.grammar_script_laws.proofs.FirstFaults.{Whole, Decides, Cuts, first_bad, first_deep, read_shallow}
use Rattle.grammar_script_laws.proofs.PartLaws.{bad_part, deep_part, nested_inner, of_read, cuts_end, part_is_read, NoneDeep}
use Rattle.grammar_script_laws.proofs.ScriptLaws.{marks_append, end_kind}
use Rattle.grammar_parser_specs.specs.Filling.{fill, fill_stmts}
use Rattle.grammar_local_laws.proofs.FillLaws.{rank_fill, ending_fill, free_fill, print_fill, stmts_print}
use Rattle.grammar_local_laws.proofs.PassedIn.{passed_mode, has_expr, has_stmts}
use Rattle.grammar_local_laws.proofs.AgreesScripts.{passed_over}
use Rattle.grammar_local_laws.proofs.PassingLaws.{AreBraced, passing_sound, passed_over_sound, passed_over_local}
use Rattle.grammar_deferred_laws.proofs.PassingComplete.{passing_complete, passed_over_complete}

-- tokens before the end of a text

assign_inner : (d : ℕ) (w : Bool) (u : List Lexeme) (e : Expr) → IsExpr passed w (suc d) 20 u e → AllInner u
assign_inner d w u e s = nested_inner (print passed (suc d) e) (nested_expr passed (suc d) e s.proper) u end_lexeme (s.fits.before end_lexeme)

assign_part : (d : ℕ) (w : Bool) (u v : List Lexeme) (e : Expr) → IsExpr passed w (suc d) 20 (u ++ v) e → Begins (AssignPart passed w d) u
assign_part d w u v e s = record {
  end = v;
  deep = depths (print passed (suc d) e) (u ++ v) end_lexeme (s.fits.before end_lexeme);
  is = record { next = end_lexeme; tree = e; is = record { level = s.rank_le; proper = s.proper; in_if = s.in_if; fits = s.fits.before end_lexeme }; deep_is = refl };
}

expression_inner : (d : ℕ) (w : Bool) (u : List Lexeme) (e : Expr) → IsExpr passed w (suc d) 21 u e → AllInner u
expression_inner d w u e s = nested_inner (print passed (suc d) e) (nested_expr passed (suc d) e s.proper) u end_lexeme (s.fits.before end_lexeme)

expression_part : (d : ℕ) (w : Bool) (u v : List Lexeme) (e : Expr) → IsExpr passed w (suc d) 21 (u ++ v) e → Begins (ExpressionPart passed w d) u
expression_part d w u v e s = record {
  end = v;
  deep = depths (print passed (suc d) e) (u ++ v) end_lexeme (s.fits.before end_lexeme);
  is = record { next = end_lexeme; tree = e; is = record { proper = s.proper; in_if = s.in_if; fits = s.fits.before end_lexeme }; deep_is = refl };
}

script_inner : (d : ℕ) (w : List Lexeme) (items : Stmts) (n : Lexeme) → IsStatements passed d w n items → AllInner w
script_inner d w items n s = nested_inner (print_stmts passed d items) (nested_stmts passed d false items s.proper) w n s.fits

script_part : (d : ℕ) (u v : List Lexeme) (items : Stmts) → IsStatements passed d (u ++ v) end_lexeme items → Begins (ScriptPart passed d) u
script_part d u v items s = record {
  end = v ++ end_lexeme ∷ [];
  deep = depths (print_stmts passed d items) (u ++ v) end_lexeme s.fits ++ 0 ∷ [];
  is = record { inner = u ++ v; end = end_lexeme; split = sym (append_assoc u v (end_lexeme ∷ [])); ends = refl; items = items; is = s; deep_is = refl };
}

pub no_assign : (w : Bool) (e : Expr) → continues_assign w (ending e) end_lexeme ≡ false
no_assign w e = stop_assign w (ending e) end_lexeme (stop_end w (ending e) end_lexeme refl)

pub no_expr : (w : Bool) (e : Expr) → continues_expr w (ending e) end_lexeme ≡ false
no_expr w e = stop_end w (ending e) end_lexeme refl

module _ (bodies : ℕ → Body) (braced : AreBraced bodies) where
  -- the parsers, with so much room for depth

  abbrev pub pass_env : ℕ → Env
  pass_env room = env_of (passing bodies room) (everything (passed_over bodies) room)

  abbrev pub pass_assign : ℕ → Bool → Parser Expr
  pass_assign room w = (pass_env room).sub (AnAssign w)

  abbrev pub pass_expression : ℕ → Bool → Parser Expr
  pass_expression room w = expr_of (pass_env room) w

  abbrev pub pass_statements : ℕ → Parser Stmts
  pass_statements room = parser.script_of (everything (passed_over bodies) room).stmts

  pub pass_sound : (room d : ℕ) → SoundEnv passed d (pass_env room)
  pass_sound room d = record { calls = (passed_over_sound bodies braced room d).exprs; body = passing_sound bodies braced d room }

  pub pass_complete : (limit room d : ℕ) → room + d ≡ limit → CompleteEnv limit (passed_mode bodies) d (pass_env room)
  pass_complete limit room d e = record { calls = (passed_over_complete limit bodies room d e).exprs; body = passing_complete limit d (omega (arith, e)) bodies room }

  filled_in : (w : Bool) (e : Expr) → InIf w (free_of_in e) → InIf w (free_of_in (fill bodies e))
  filled_in w e h = subst (InIf w) (sym (free_fill bodies braced e)) h

  -- an AssignmentExpression

  pub assign_complete : (limit room d : ℕ) → room + d ≡ limit → (w : Bool) (x : Lexeme) (u : List Lexeme) (e : Expr) → IsAssign passed w d u x e → Completes limit (print passed (suc d) e) (λ t. continues_assign w (ending e) t ≡ false) (pass_assign room w) (fill bodies e)
  assign_complete limit room d q w x u e s = c_pieces limit (print_fill bodies braced (suc d) e) (c_weaken limit (λ t g. ap (λ y. continues_assign w y t) (ending_fill bodies braced e) ∙ g) ((pass_complete limit room d q).calls.assign w (fill bodies e) (subst (λ y. y ≤ assign_rank) (sym (rank_fill bodies braced e)) s.level) (has_expr bodies braced e s.proper) (filled_in w e s.in_if)))

  pub assign_decides : (room d : ℕ) → room + d ≡ depth_limit → (w : Bool) → Decides (AssignPart passed w d) (pass_assign room w)
  assign_decides room d q w = record {
    local = (passed_over_local bodies braced room).room.env.at (AnAssign w);
    bad_begins = bad_part (AssignPart passed w d) (pass_assign room w) AtFront (Plain (IsExpr passed w (suc d) 20)) (next_of ((pass_sound room d).calls.assign w)) (assign_inner d w) (assign_part d w);
    deep_begins = deep_part (AssignPart passed w d) (pass_assign room w) AtFront (Plain (IsExpr passed w (suc d) 20)) (next_of ((pass_sound room d).calls.assign w)) (assign_inner d w) (assign_part d w);
    reads = λ u deep p. cuts_end (AssignPart passed w d) (pass_assign room w) (print passed (suc d) p.tree) u p.next p.is.fits deep (fill bodies p.tree) p.deep_is (λ m s. (assign_complete depth_limit room d q w p.next u p.tree p.is).at m [] s (no_assign w p.tree));
  }

  pub assign_unexpected : (room d : ℕ) → room + d ≡ depth_limit → (w : Bool) (ts us : List Lexeme) → Whole ts → bare (pass_assign room w ts) ≡ Bad [] us → FirstFault (AssignPart passed w d) ts (length ts - length us) Unexpected
  assign_unexpected room d q w ts us t e = first_bad (AssignPart passed w d) (pass_assign room w) (assign_decides room d q w) ts us t e

  pub assign_too_deep : (room d : ℕ) → room + d ≡ depth_limit → (w : Bool) (ts us : List Lexeme) → bare (pass_assign room w ts) ≡ Deep [] us → FirstFault (AssignPart passed w d) ts (length ts - length us) TooDeep
  assign_too_deep room d q w ts us e = first_deep (AssignPart passed w d) (pass_assign room w) (assign_decides room d q w) ts us e

  pub assign_is_passed : (room d : ℕ) → room + d ≡ depth_limit → (w : Bool) (u rest : List Lexeme) (e : Expr) (s : IsAssign passed w d u (head_of rest) e) → NoneDeep (depths (print passed (suc d) e) u (head_of rest) s.fits) → continues_assign w (ending e) (head_of rest) ≡ false → bare (pass_assign room w (u ++ rest)) ≡ Read (fill bodies e) [] rest
  assign_is_passed room d q w u rest e s h g = part_is_read (pass_assign room w) (print passed (suc d) e) u rest s.fits (fill bodies e) h (λ m k. (assign_complete depth_limit room d q w (head_of rest) u e s).at m rest k g)

  pub record AssignPassed (w : Bool) (d : ℕ) (ts us : List Lexeme) (e : Expr) : Type 0 where
    pub front : List Lexeme
    pub split : ts ≡ front ++ us
    pub is : IsAssign passed w d front (head_of us) e
    pub shallow : NoneDeep (depths (print passed (suc d) e) front (head_of us) is.fits)

  pub passed_is_assign : (room d : ℕ) → room + d ≡ depth_limit → (w : Bool) (ts us : List Lexeme) (e : Expr) → bare (pass_assign room w ts) ≡ Read e [] us → AssignPassed w d ts us e
  passed_is_assign room d q w ts us e h =
      let o = of_read AtFront (Plain (IsExpr passed w (suc d) 20)) ts us e (pass_assign room w ts) h ((next_of ((pass_sound room d).calls.assign w)).at ts) in
      let p = o.is (head_of us) (stands refl) in
      let is : IsAssign passed w d o.front (head_of us) e = record { level = p.rank_le; proper = p.proper; in_if = p.in_if; fits = p.fits.before (head_of us) } in
      record { front = o.front; split = o.split; is = is; shallow = read_shallow (AssignPart passed w d) (pass_assign room w) (assign_decides room d q w) o.front us e _ (ap (λ x. bare (pass_assign room w x)) (sym o.split) ∙ h) (record { next = head_of us; tree = e; is = is; deep_is = refl }) }

  -- an Expression

  pub expression_complete : (limit room d : ℕ) → room + d ≡ limit → (w : Bool) (x : Lexeme) (u : List Lexeme) (e : Expr) → IsExpression passed w d u x e → Completes limit (print passed (suc d) e) (λ t. continues_expr w (ending e) t ≡ false) (pass_expression room w) (fill bodies e)
  expression_complete limit room d q w x u e s = c_pieces limit (print_fill bodies braced (suc d) e) (c_weaken limit (λ t g. ap (λ y. continues_expr w y t) (ending_fill bodies braced e) ∙ g) (expr_complete limit (passed_mode bodies) d (omega (arith, q)) (pass_env room) (pass_complete limit room d q) w (fill bodies e) (has_expr bodies braced e s.proper) (filled_in w e s.in_if)))

  pub expression_decides : (room d : ℕ) → room + d ≡ depth_limit → (w : Bool) → Decides (ExpressionPart passed w d) (pass_expression room w)
  expression_decides room d q w = record {
    local = expr_local (pass_env room) (passed_over_local bodies braced room).room.env w;
    bad_begins = bad_part (ExpressionPart passed w d) (pass_expression room w) AtFront (Plain (IsExpr passed w (suc d) 21)) (next_of (expr_sound passed d (pass_env room) (pass_sound room d) w)) (expression_inner d w) (expression_part d w);
    deep_begins = deep_part (ExpressionPart passed w d) (pass_expression room w) AtFront (Plain (IsExpr passed w (suc d) 21)) (next_of (expr_sound passed d (pass_env room) (pass_sound room d) w)) (expression_inner d w) (expression_part d w);
    reads = λ u deep p. cuts_end (ExpressionPart passed w d) (pass_expression room w) (print passed (suc d) p.tree) u p.next p.is.fits deep (fill bodies p.tree) p.deep_is (λ m s. (expression_complete depth_limit room d q w p.next u p.tree p.is).at m [] s (no_expr w p.tree));
  }

  pub expression_unexpected : (room d : ℕ) → room + d ≡ depth_limit → (w : Bool) (ts us : List Lexeme) → Whole ts → bare (pass_expression room w ts) ≡ Bad [] us → FirstFault (ExpressionPart passed w d) ts (length ts - length us) Unexpected
  expression_unexpected room d q w ts us t e = first_bad (ExpressionPart passed w d) (pass_expression room w) (expression_decides room d q w) ts us t e

  pub expression_too_deep : (room d : ℕ) → room + d ≡ depth_limit → (w : Bool) (ts us : List Lexeme) → bare (pass_expression room w ts) ≡ Deep [] us → FirstFault (ExpressionPart passed w d) ts (length ts - length us) TooDeep
  expression_too_deep room d q w ts us e = first_deep (ExpressionPart passed w d) (pass_expression room w) (expression_decides room d q w) ts us e

  pub expression_is_passed : (room d : ℕ) → room + d ≡ depth_limit → (w : Bool) (u rest : List Lexeme) (e : Expr) (s : IsExpression passed w d u (head_of rest) e) → NoneDeep (depths (print passed (suc d) e) u (head_of rest) s.fits) → continues_expr w (ending e) (head_of rest) ≡ false → bare (pass_expression room w (u ++ rest)) ≡ Read (fill bodies e) [] rest
  expression_is_passed room d q w u rest e s h g = part_is_read (pass_expression room w) (print passed (suc d) e) u rest s.fits (fill bodies e) h (λ m k. (expression_complete depth_limit room d q w (head_of rest) u e s).at m rest k g)

  pub record ExpressionPassed (w : Bool) (d : ℕ) (ts us : List Lexeme) (e : Expr) : Type 0 where
    pub front : List Lexeme
    pub split : ts ≡ front ++ us
    pub is : IsExpression passed w d front (head_of us) e
    pub shallow : NoneDeep (depths (print passed (suc d) e) front (head_of us) is.fits)

  pub passed_is_expression : (room d : ℕ) → room + d ≡ depth_limit → (w : Bool) (ts us : List Lexeme) (e : Expr) → bare (pass_expression room w ts) ≡ Read e [] us → ExpressionPassed w d ts us e
  passed_is_expression room d q w ts us e h =
      let o = of_read AtFront (Plain (IsExpr passed w (suc d) 21)) ts us e (pass_expression room w ts) h ((next_of (expr_sound passed d (pass_env room) (pass_sound room d) w)).at ts) in
      let p = o.is (head_of us) (stands refl) in
      let is : IsExpression passed w d o.front (head_of us) e = record { proper = p.proper; in_if = p.in_if; fits = p.fits.before (head_of us) } in
      record { front = o.front; split = o.split; is = is; shallow = read_shallow (ExpressionPart passed w d) (pass_expression room w) (expression_decides room d q w) o.front us e _ (ap (λ x. bare (pass_expression room w x)) (sym o.split) ∙ h) (record { next = head_of us; tree = e; is = is; deep_is = refl }) }

  -- a script

  statements_sound : (room d : ℕ) → SoundNext AtFront (λ w x n. IsStatements passed d w n x) (pass_statements room)
  statements_sound room d = script_sound passed d (everything (passed_over bodies) room).stmts (passed_over_sound bodies braced room d).stmts

  pub statements_complete : (limit room d : ℕ) → room + d ≡ limit → (items : Stmts) → plain.ProperStmts passed false items → Completes limit (print_stmts passed d items) (λ t. is_end t.kind ≡ true) (pass_statements room) (fill_stmts bodies items)
  statements_complete limit room d q items h = c_pieces limit (stmts_print bodies braced d items) (script_complete limit (passed_mode bodies) d (omega (arith, q)) (everything (passed_over bodies) room).stmts (passed_over_complete limit bodies room d q).stmts (fill_stmts bodies items) (has_stmts bodies braced false items h))

  script_cuts : (room d : ℕ) → room + d ≡ depth_limit → (w : List Lexeme) (deep : List ℕ) → ScriptPart passed d w deep → Cuts (ScriptPart passed d) (pass_statements room) w deep
  script_cuts room d q w deep p =
      let s = fits_standing (print_stmts passed d p.items) p.inner p.end p.is.fits in
      let last : List Marked = record { lexeme = p.end; depth = 0 } ∷ [] in
      let reply : Reply Stmts = Read (fill_stmts bodies p.items) [] (p.end ∷ []) in
      record {
        marked = s.marked ++ last;
        lexemes_are = lexemes_append s.marked last ∙ ap (λ x. x ++ p.end ∷ []) s.lexemes_are ∙ sym p.split;
        depths_are = marks_append s.marked last ∙ ap (λ x. x ++ 0 ∷ []) s.depths_are ∙ sym p.deep_is;
        of = fill_stmts bodies p.items;
        left = p.end ∷ [];
        cuts =
            ap (λ x. bare (pass_statements room x)) (p.split ∙ ap (λ x. x ++ p.end ∷ []) (sym s.lexemes_are))
            ∙ ((statements_complete depth_limit room d q p.items p.is.proper).at s.marked (p.end ∷ []) s.stands (end_kind p.end p.ends)).by
            ∙ sym (cut_append depth_limit s.marked last [] reply);
      }

  pub statements_decide : (room d : ℕ) → room + d ≡ depth_limit → Decides (ScriptPart passed d) (pass_statements room)
  statements_decide room d q = record {
    local = local_script (everything (passed_over bodies) room).stmts (passed_over_local bodies braced room).stmts;
    bad_begins = bad_part (ScriptPart passed d) (pass_statements room) AtFront (λ w x n. IsStatements passed d w n x) (statements_sound room d) (λ w a s. script_inner d w a end_lexeme s) (script_part d);
    deep_begins = deep_part (ScriptPart passed d) (pass_statements room) AtFront (λ w x n. IsStatements passed d w n x) (statements_sound room d) (λ w a s. script_inner d w a end_lexeme s) (script_part d);
    reads = script_cuts room d q;
  }

  pub statements_unexpected : (room d : ℕ) → room + d ≡ depth_limit → (ts us : List Lexeme) → Whole ts → bare (pass_statements room ts) ≡ Bad [] us → FirstFault (ScriptPart passed d) ts (length ts - length us) Unexpected
  statements_unexpected room d q ts us t e = first_bad (ScriptPart passed d) (pass_statements room) (statements_decide room d q) ts us t e

  pub statements_too_deep : (room d : ℕ) → room + d ≡ depth_limit → (ts us : List Lexeme) → bare (pass_statements room ts) ≡ Deep [] us → FirstFault (ScriptPart passed d) ts (length ts - length us) TooDeep
  statements_too_deep room d q ts us e = first_deep (ScriptPart passed d) (pass_statements room) (statements_decide room d q) ts us e

  pub statements_are_passed : (room d : ℕ) → room + d ≡ depth_limit → (inner rest : List Lexeme) (items : Stmts) (s : IsStatements passed d inner (head_of rest) items) → is_end (head_of rest).kind ≡ true → NoneDeep (depths (print_stmts passed d items) inner (head_of rest) s.fits) → bare (pass_statements room (inner ++ rest)) ≡ Read (fill_stmts bodies items) [] rest
  statements_are_passed room d q inner rest items s e h = part_is_read (pass_statements room) (print_stmts passed d items) inner rest s.fits (fill_stmts bodies items) h (λ m k. (statements_complete depth_limit room d q items s.proper).at m rest k e)
