-- Completeness of all calls of the parser of scripts, with whatever room for depth; of scripts; and of parts that are read
-- alone.
use Rattle.std.proofs.Common.{◌≡◌, ℕ, zero, suc, ◌+◌, ◌≤◌, List, [], ◌∷◌, ◌++◌, refl, sym, ap, ◌∙◌, subst, arith, append-nil, Bool, true, false, Some}
use Rattle.script_grammar.specs.declared.token.Kind.TheVariants as kind
use Rattle.script_grammar.specs.declared.token.FuncForm.{FuncForm}
use Rattle.script_grammar.specs.declared.token.FuncForm.TheVariants as form
use Rattle.script_grammar.specs.declared.token.mark.TheConstants as mark
use Rattle.script_grammar.specs.Lexeme.{Lexeme}
use Rattle.script_grammar.specs.Kinds.{is_name, is_end}
use Rattle.script_grammar.specs.Tree.{Named, Expr, Stmt, Stmts, Function, function}
use Rattle.script_grammar.specs.Tree as tree
use Rattle.script_grammar.specs.TreeLists.{stmts_of}
use Rattle.script_grammar.specs.Pieces.{whole, mark_piece, closing_mark, name_piece}
use Rattle.script_grammar.specs.Print.{print_stmts, print_stmt, print_function}
use Rattle.script_grammar.specs.Proper.{}
use Rattle.script_grammar.specs.Proper as plain
use Rattle.grammar_parser_laws.proofs.ProperIn.{Mode, whole_mode, in_stmts, ProperStmts, ProperFunction}
use Rattle.script_grammar.specs.Script.{IsOf}
use Rattle.grammar_parser_specs.specs.Parser.{Read, head_of, ret, bad, bind, when}
use Rattle.grammar_parser_specs.specs.Exprs.{Env, BodyParser, function_of}
use Rattle.grammar_parser_specs.specs.Stmts as parser
use Rattle.grammar_parser_specs.specs.Stmts.{Place, StmtCalls, Block, All, env_of, block_of, all_case, is_item, is_inside, begins_stmt, ends_items}
use Rattle.grammar_parser_laws.proofs.Tests.{end_known}
use Rattle.grammar_parser_laws.proofs.Complete.{bare, deep_at}
use Rattle.grammar_complete_laws.proofs.Completes.{Completes, Leads, Any, at_kind, lead_none, lead_at, lead_any, lead_map, c_ret, c_bind, c_at, c_look, c_pieces, c_mark}
use Rattle.grammar_complete_laws.proofs.CompleteStmts.{EndsList, CompleteUses, CompleteStmts, CompleteBlock, c_value, name_complete, list_of, of_list, stmts_complete}
use Rattle.grammar_complete_laws.proofs.CompleteParts.{CompleteEnv, CompleteCalls, CompleteBody, expr_complete}
use Rattle.grammar_complete_laws.proofs.CompleteFunctions.{function_complete}
use Rattle.grammar_complete_laws.proofs.CompleteEach.{stmt_complete}
use Rattle.grammar_complete_laws.proofs.CompleteCalls.{case_complete, no_calls_complete}
use Rattle.grammar_complete_laws.proofs.DeepFronts.{stmt_deep, place_opens, c_no_room}

-- up to the End token

end_here : {A : Type 0} (a : A) (rest : List Lexeme) → is_end (head_of rest).kind ≡ true → bare (parser.end_of a rest) ≡ Read a [] rest
unfolding parser.end_of
end_here a rest h = ap (λ b. bare (when b (ret a) bad rest)) h

pub end_complete : (limit : ℕ) {A : Type 0} (a : A) → Completes limit [] (λ t. is_end t.kind ≡ true) (parser.end_of a) a
end_complete limit a = c_look limit (end_here a)

-- a braced body that is read in place

module _ (limit : ℕ) (m : Mode) (d : ℕ) (low : d ≤ limit) (stmt : StmtCalls) (c : CompleteStmts limit m d stmt) where
  close_here : (ss : List Stmt) (t : Lexeme) (ts : List Lexeme) → t.kind ≡ kind.Mark mark.CLOSE_BRACE → parser.close_body ss (t ∷ ts) ≡ Read (record { body = tree.BracedBody (stmts_of ss); end = t.end }) [] ts
  unfolding parser.close_body
  close_here ss t ts e = at_kind (λ u. parser.close_body ss (u ∷ ts) ≡ Read (record { body = tree.BracedBody (stmts_of ss); end = u.end }) [] ts) (kind.Mark mark.CLOSE_BRACE) t e refl

  close_leads : (end : ℕ) {G : Lexeme → Type 0} → Leads (closing_mark mark.CLOSE_BRACE end d ∷ []) G EndsList
  close_leads end = lead_at (λ t s. at_kind EndsList (kind.Mark mark.CLOSE_BRACE) t s.kind refl)

  pub own_complete : {F : Lexeme → Type 0} (f : FuncForm) (start end : ℕ) (simple : Bool) (items : Stmts) → ProperStmts m true items → Completes limit (mark_piece mark.OPEN_BRACE d ∷ (print_stmts m.look d items ++ closing_mark mark.CLOSE_BRACE end d ∷ [])) F (parser.reading stmt f start simple) (record { body = tree.BracedBody items; end = end })
  unfolding parser.reading
  own_complete f start end simple items h =
      c_bind limit (λ _. bind (parser.stmts_from stmt true) parser.close_body) (c_mark limit mark.OPEN_BRACE d low refl) lead_any
      (c_bind limit parser.close_body (stmts_complete limit m d low stmt c true items h) (close_leads end)
      (c_at limit (λ t. ret (record { body = tree.BracedBody (stmts_of (list_of items)); end = t.end })) low (λ t ts s. close_here (list_of items) t ts s.kind) (λ t s. c_value (ap (λ x. record { body = tree.BracedBody x; end = t.end }) (of_list items) ∙ ap (λ x. record { body = tree.BracedBody items; end = x }) s.ends.0) (c_ret limit (record { body = tree.BracedBody (stmts_of (list_of items)); end = t.end })))))

  -- statements up to the End token

  ends_list : (t : Lexeme) → is_end t.kind ≡ true → EndsList t
  ends_list t h = at_kind EndsList kind.End t (end_known t.kind h) refl

  pub script_complete : (items : Stmts) → ProperStmts m false items → Completes limit (print_stmts m.look d items) (λ t. is_end t.kind ≡ true) (parser.script_of stmt) items
  unfolding parser.script_of
  script_complete items h = c_value (of_list items) (c_pieces limit (append-nil (print_stmts m.look d items)) (c_bind limit (λ ss. parser.end_of (stmts_of ss)) (stmts_complete limit m d low stmt c false items h) (lead_map ends_list lead_none) (end_complete limit (stmts_of (list_of items)))))

pub reading_complete : (limit d : ℕ) → d ≤ limit → (stmt : StmtCalls) → CompleteStmts limit whole_mode d stmt → CompleteBody limit whole_mode d (parser.reading stmt)
reading_complete limit d low stmt c = record { braced = λ f start end simple items h. own_complete limit whole_mode d low stmt c f start end simple items h.0 }

-- All calls.

pub record CompleteAll (limit : ℕ) (m : Mode) (d : ℕ) (a : All) : Type 0 where
  pub exprs : CompleteCalls limit m d a.exprs
  pub stmts : CompleteStmts limit m d a.stmts
  pub label : (n : Named) → Completes limit (name_piece n (suc d) ∷ []) Any a.label n

-- what statements use of expressions
pub uses_complete : (limit : ℕ) (m : Mode) (d : ℕ) → d ≤ limit → (v : Env) → CompleteEnv limit m d v → CompleteUses limit m d v
uses_complete limit m d low v c = record {
  expr = λ w e h i. expr_complete limit m d low v c w e h i;
  assign = λ w e r h i. c.calls.assign w e r h i;
  function = λ n g o h. plain_function n g o h;
}
  where
    plain_function : (n : Named) (g : Function) → IsOf form.Function (Some n) g → ProperFunction m g → Completes limit (print_function m.look d g) Any (function_of v form.Function (Some n)) g
    plain_function n (function f start end name ps comma alone body) o h =
        subst (λ x. ProperFunction m (function x start end name ps comma alone body) → Completes limit (print_function m.look d (function x start end name ps comma alone body)) Any (function_of v form.Function (Some n)) (function x start end name ps comma alone body)) (sym o.0)
        (λ k. subst (λ x. Completes limit (print_function m.look d (function form.Function start end x ps comma alone body)) Any (function_of v form.Function (Some n)) (function form.Function start end x ps comma alone body)) (sym o.1)
        (function_complete limit m d low v c form.Function (Some n) tt start end ps comma alone body k)) h

no_stmts_complete : (limit : ℕ) (m : Mode) → CompleteStmts limit m limit parser.no_stmts
no_stmts_complete limit m = record { at = λ p s h i. c_no_room limit (begins_stmt p) (print_stmt m.look (suc limit) s) s (place_opens m (suc limit) p s h i) (stmt_deep limit m (suc limit) (is_inside p) s (omega arith) h) }

nothing_left_complete : (limit : ℕ) (m : Mode) → CompleteAll limit m limit parser.nothing_left
nothing_left_complete limit m = record {
  exprs = no_calls_complete limit m;
  stmts = no_stmts_complete limit m;
  label = λ n. c_no_room limit is_name (name_piece n (suc limit) ∷ []) n refl (deep_at limit _ _ (omega arith));
}

all_case_complete : (limit : ℕ) (m : Mode) (d : ℕ) → suc d ≤ limit → (body : BodyParser) (a : All) → CompleteBody limit m (suc d) body → CompleteAll limit m (suc d) a → CompleteAll limit m d (all_case body a)
all_case_complete limit m d low body a b c =
    let v : CompleteEnv limit m (suc d) (env_of body a) = record { calls = c.exprs; body = b } in
    let k : CompleteBlock limit m (suc d) (block_of body a) = record { uses = uses_complete limit m (suc d) low (env_of body a) v; stmts = c.stmts; label = c.label } in
    record {
      exprs = case_complete limit m d low (env_of body a) v;
      stmts = record { at = λ p s h i. stmt_complete limit m (suc d) low (block_of body a) k p s h i };
      label = λ n. name_complete limit m (suc d) low n;
    }

-- Where bodies are read completely over statements that are, everything is: with the room that is left up to the limit.
pub everything_complete : (limit : ℕ) (m : Mode) (body : ℕ → StmtCalls → BodyParser) → ((room d : ℕ) → d ≤ limit → (stmt : StmtCalls) → CompleteStmts limit m d stmt → CompleteBody limit m d (body room stmt)) → (room d : ℕ) → room + d ≡ limit → CompleteAll limit m d (parser.everything body room)
unfolding parser.everything
everything_complete limit m body b zero d e = subst (λ x. CompleteAll limit m x parser.nothing_left) (sym (omega (arith, e))) (nothing_left_complete limit m)
everything_complete limit m body b (suc room) d e =
    let low : suc d ≤ limit = omega (arith, e) in
    let c : CompleteAll limit m (suc d) (parser.everything body room) = everything_complete limit m body b room (suc d) (omega (arith, e)) in
    all_case_complete limit m d low (body room (parser.everything body room).stmts) (parser.everything body room) (b room (suc d) low (parser.everything body room).stmts c.stmts) c

-- bodies read in place
pub in_place_complete : (limit room d : ℕ) → room + d ≡ limit → CompleteAll limit whole_mode d (parser.everything parser.in_place room)
in_place_complete limit room d e = everything_complete limit whole_mode parser.in_place (λ room2 d2 low stmt c. reading_complete limit d2 low stmt c) room d e

-- the parser of scripts
pub read_script_complete : (room : ℕ) (items : Stmts) → plain.ProperStmts whole false items → Completes room (print_stmts whole 0 items) (λ t. is_end t.kind ≡ true) (parser.read_script room) items
read_script_complete room items h = script_complete room whole_mode 0 (omega arith) (parser.everything parser.in_place room).stmts (in_place_complete room room 0 (omega arith)).stmts items (in_stmts false items h)
