-- What reads statements looks at nothing after the place where it stops, and each statement reads a lexeme.
use Rattle.std.proofs.Common.{◌≡◌, ◌∙◌, ℕ, zero, suc, ◌+◌, ◌-◌, ◌<◌, ◌≤◌, List, [], ◌∷◌, length, refl, sym, ap, subst, arith, true}
use Rattle.script_grammar.specs.Fault.{depth_limit}
use Rattle.script_grammar.specs.Interpretation.{Interpretation}
use Rattle.script_grammar.specs.Lexeme.{Lexeme}
use Rattle.script_grammar.specs.Kinds.{is_name}
use Rattle.script_grammar.specs.Endings.{ending}
use Rattle.script_grammar.specs.Tree.{Named, Expr, Stmt}
use Rattle.script_grammar.specs.Tree as tree
use Rattle.grammar_parser_specs.specs.Parser.{Deep, Parser, bind, ret, bad, step, when, after, deep, loop}
use Rattle.grammar_parser_specs.specs.Exprs.{Env, AnAssign, AParam, calls, name_of, named, expr_of, arrow_param, param_of, initializer_of, begins_assign, more_turn, comma_case}
use Rattle.grammar_parser_specs.specs.Stmts.{begins_stmt, value_stmt, semi_of}
use Rattle.grammar_parser_laws.proofs.Tests.{name_known}
use Rattle.grammar_parser_laws.proofs.Local.{Local, Same, out, kept, left, grown, local_ret, local_bind, local_loop, after_shorter, local_no_room, eats_no_room, Eats, eats_peek, ate_when, ate_step}
use Rattle.grammar_local_laws.proofs.LocalExprs.{LocalEnv, NameEnd, deep_end, read_end, name_of_local, expr_local, expr_eats, function_local, more_turn_local, more_turn_gains}
use Rattle.grammar_local_laws.proofs.LocalStmts.{LocalUses, LocalBlock, local_semi, local_stmt, eats_stmt}
use Rattle.parse_exprs.specs.Env.{env_at}
use Rattle.parse_exprs.proofs.Locals.{env_local}
use Rattle.parse_bodies.specs.Blocks.{label_at, block_at}
use Rattle.parse_bodies.proofs.Blocks.{stmt_deeper, stmt_no_room, label_deeper, label_no_room, calls_deeper, calls_no_room}

-- what statements use of expressions
pub uses_local : (i : Interpretation) (depth : ℕ) → LocalUses (env_at i depth)
uses_local i depth =
    let l = env_local i depth in
    record { assign = λ w. l.at (AnAssign w); expr = expr_local (env_at i depth) l; expr_eats = expr_eats (env_at i depth) l; function = function_local (env_at i depth) l }

name_eats : Eats name_of
unfolding name_of
name_eats = eats_peek (λ t. when (is_name t.kind) (step (ret (named t))) bad) tt (λ t ts. ate_when (step (ret (named t))) bad (is_name t.kind) t ts (ate_step (ret (named t)) (local_ret (named t)) t ts) tt)

-- A name after which no lexeme is.

-- as a parameter it is read
param_alone : (v : Env) (t : Lexeme) → is_name t.kind ≡ true → length (left (arrow_param v (t ∷ []))) ≡ 0
unfolding arrow_param param_of name_of initializer_of
param_alone v t e = rw e refl

-- as an expression it is read to the end, where there is room
assign_alone : (i : Interpretation) (depth : ℕ) (t : Lexeme) → depth < depth_limit → is_name t.kind ≡ true → length (left ((env_at i depth).sub (AnAssign true) (t ∷ []))) ≡ 0
assign_alone i depth t h e = alone ((env_local i depth).name t e)
  where
    alone : NameEnd (env_at i depth) t → length (left ((env_at i depth).sub (AnAssign true) (t ∷ []))) ≡ 0
    alone (read_end z k) = z
    alone (deep_end z k) = absurd (omega (arith, ap (λ r. length (left r)) (k []), ap (λ c. length (left (c AParam (t ∷ [])))) (calls_deeper i depth h), param_alone (env_at i (depth + 1)) t e))

-- what follows in a statement

-- the operands after the first, and the semicolon
more_behind : (v : Env) → LocalEnv v → (e : Expr) → Local (bind (loop (more_turn v true)) (λ m. ret (comma_case e m.items)))
more_behind v l e = local_bind (local_loop (more_turn_local v l true) (more_turn_gains v l true)) (λ m. local_ret (comma_case e m.items))

semi_behind : (e : Expr) → Local (bind (semi_of (ending e)) (λ b. ret (tree.Value e b)))
semi_behind e = local_bind (local_semi (ending e)) (λ b. local_ret (tree.Value e b))

value_shorter : (v : Env) → LocalEnv v → (ts : List Lexeme) → length (left (value_stmt v ts)) ≤ length (left (v.sub (AnAssign true) ts))
unfolding value_stmt expr_of
value_shorter v l ts = omega (
  arith,
  after_shorter (λ e. bind (semi_of (ending e)) (λ b. ret (tree.Value e b))) semi_behind (expr_of v true ts),
  after_shorter (λ e. bind (loop (more_turn v true)) (λ m. ret (comma_case e m.items))) (more_behind v l) (v.sub (AnAssign true) ts),
)

-- without room it is too deep
deep_alone : (i : Interpretation) (depth : ℕ) (t : Lexeme) → depth_limit ≤ depth → is_name t.kind ≡ true → value_stmt (env_at i depth) (t ∷ []) ≡ Deep [] (t ∷ [])
unfolding value_stmt expr_of calls
deep_alone i depth t h e =
    let v = env_at i depth in
    let s : v.sub (AnAssign true) (t ∷ []) ≡ Deep [] (t ∷ []) = ap (λ c. c (AnAssign true) (t ∷ [])) (calls_no_room i depth h) ∙ ap (λ k. when (begins_assign k) deep bad (t ∷ [])) (name_known t.kind e) in
    ap (λ r. after (after r (λ x. bind (loop (more_turn v true)) (λ m. ret (comma_case x m.items)))) (λ x. bind (semi_of (ending x)) (λ b. ret (tree.Value x b)))) s

-- as a label it is read, where there is room

label_left : (t : Lexeme) (q : List Lexeme) → is_name t.kind ≡ true → (f : Named → Parser Stmt) → ((n : Named) → Local (f n)) → length (left (bind name_of f (t ∷ q))) ≤ length q
unfolding name_of
label_left t q e f l = subst (λ b. length (left (after (when b (step (ret (named t))) bad (t ∷ q)) f)) ≤ length q) (sym e) ((l (named t)).shorter q)

lone_room : (i : Interpretation) (depth : ℕ) → depth < depth_limit → (t : Lexeme) (q : List Lexeme) → is_name t.kind ≡ true → (f : Named → Parser Stmt) → ((n : Named) → Local (f n)) → Same q (value_stmt (env_at i depth) (t ∷ [])) (bind (label_at i depth) f (t ∷ q))
lone_room i depth h t q e f l = out
    (omega (arith, value_shorter (env_at i depth) (env_local i depth) (t ∷ []), assign_alone i depth t h e))
    (subst (λ p. length (left (bind p f (t ∷ q))) ≤ length q) (sym (label_deeper i depth h)) (label_left t q e f l))

lone_deep : (i : Interpretation) (depth : ℕ) → depth_limit ≤ depth → (t : Lexeme) (q : List Lexeme) → is_name t.kind ≡ true → (f : Named → Parser Stmt) → ((n : Named) → Local (f n)) → Same q (value_stmt (env_at i depth) (t ∷ [])) (bind (label_at i depth) f (t ∷ q))
lone_deep i depth h t q e f l = kept
    (ap (λ p. bind p f (t ∷ q)) (label_no_room i depth h) ∙ ap (λ b. after (when b deep bad (t ∷ q)) f) e ∙ sym (ap (λ r. grown q r) (deep_alone i depth t h e)))

-- What stands in statements.

with_room : (i : Interpretation) (depth : ℕ) → depth < depth_limit → LocalBlock (block_at i (depth + 1)) → LocalBlock (block_at i depth)
with_room i depth h b = record {
  uses = uses_local i depth;
  stmts = record {
    at = λ p. subst (λ f. Local f) (sym (stmt_deeper i depth p h)) (local_stmt (block_at i (depth + 1)) b p);
    eats = λ p. subst (λ f. Eats f) (sym (stmt_deeper i depth p h)) (eats_stmt (block_at i (depth + 1)) b p);
  };
  label = subst (λ f. Local f) (sym (label_deeper i depth h)) name_of_local;
  label_eats = subst (λ f. Eats f) (sym (label_deeper i depth h)) name_eats;
  lone = lone_room i depth h;
}

without_room : (i : Interpretation) (depth : ℕ) → depth_limit ≤ depth → LocalBlock (block_at i depth)
without_room i depth h = record {
  uses = uses_local i depth;
  stmts = record {
    at = λ p. subst (λ f. Local f) (sym (stmt_no_room i depth p h)) (local_no_room (begins_stmt p));
    eats = λ p. subst (λ f. Eats f) (sym (stmt_no_room i depth p h)) (eats_no_room (begins_stmt p));
  };
  label = subst (λ f. Local f) (sym (label_no_room i depth h)) (local_no_room is_name);
  label_eats = subst (λ f. Eats f) (sym (label_no_room i depth h)) (eats_no_room is_name);
  lone = lone_deep i depth h;
}

block_with : (room : ℕ) (i : Interpretation) (depth : ℕ) → depth_limit - depth ≡ room → LocalBlock (block_at i depth)
block_with zero i depth e = without_room i depth (omega arith)
block_with (suc room) i depth e = with_room i depth (omega arith) (block_with room i (depth + 1) (omega arith))

pub block_local : (i : Interpretation) (depth : ℕ) → LocalBlock (block_at i depth)
block_local i depth = block_with (depth_limit - depth) i depth refl
