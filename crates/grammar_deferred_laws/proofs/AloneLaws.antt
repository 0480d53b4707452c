-- What the parsers of parts that are read alone answer, by the definitions alone: an AssignmentExpression, an Expression, a
-- braced body and a function. Each reads a part where its lexemes stand and no token is too deep, with its one tree, and where it faults
-- there is the first fault of such a part. Bodies are read in place.
use Rattle.std.proofs.Common.{◌≡◌, ℕ, suc, ◌+◌, ◌-◌, List, [], ◌++◌, length, refl, sym, ap, ◌∙◌, arith, Bool, true, false, None}
use Rattle.script_grammar.specs.declared.token.FuncForm.{FuncForm}
use Rattle.script_grammar.specs.declared.token.FuncForm.TheVariants as form
use Rattle.script_grammar.specs.Lexeme.{Lexeme}
use Rattle.script_grammar.specs.Kinds.{is_end}
use Rattle.script_grammar.specs.Tree.{Expr, Stmts, Function}
use Rattle.script_grammar.specs.Tree as tree
use Rattle.script_grammar.specs.Endings.{ending}
use Rattle.script_grammar.specs.Pieces.{whole, depths}
use Rattle.script_grammar.specs.Print.{print, print_body}
use Rattle.script_grammar.specs.Script.{IsAssign, IsExpression, IsBody, IsFunction, print_braced, print_alone}
use Rattle.script_grammar.specs.Fault.{depth_limit, AssignPart, ExpressionPart, BodyPart, FunctionPart, Begins, Unexpected, TooDeep, FirstFault}
use Rattle.grammar_parser_specs.specs.Parser.{Read, Bad, Deep, Parser, head_of, when, end_lexeme}
use Rattle.grammar_parser_specs.specs.Exprs.{Env, AnAssign, BodyRead, expr_of, function_of}
use Rattle.grammar_parser_specs.specs.Stmts as parser
use Rattle.grammar_parser_specs.specs.Stmts.{StmtCalls, env_of, everything, in_place, reading, read_alone}
use Rattle.grammar_parser_specs.specs.Follow.{continues_assign, continues_expr}
use Rattle.grammar_parser_laws.proofs.ProperIn.{whole_mode, in_expr, in_stmts}
use Rattle.grammar_parser_laws.proofs.Friendly.{AtFront, Inside}
use Rattle.grammar_parser_laws.proofs.Complete.{bare}
use Rattle.grammar_complete_laws.proofs.Stops.{stop_end, stop_assign}
use Rattle.grammar_parser_laws.proofs.SoundParts.{IsExpr, IsBraced, SoundEnv}
use Rattle.grammar_sound_laws.proofs.SoundLists.{expr_sound}
use Rattle.grammar_sound_laws.proofs.SoundNext.{SoundNext, Plain, next_of, stands}
use Rattle.grammar_sound_laws.proofs.SoundEverything.{in_place_sound, reading_sound, own_sound}
use Rattle.grammar_local_laws.proofs.LocalExprs.{expr_local}
use Rattle.grammar_local_laws.proofs.LocalStmts.{local_reading}
use Rattle.grammar_local_laws.proofs.LocalEverything.{in_place_local}
use Rattle.grammar_complete_laws.proofs.Completes.{Completes}
use Rattle.grammar_complete_laws.proofs.CompleteParts.{CompleteEnv, expr_complete}
use Rattle.grammar_complete_laws.proofs.CompleteEverything.{in_place_complete, reading_complete, own_complete}
use Rattle.grammar_script_laws.proofs.Bracketed.{AllInner}
use Rattle.grammar_parser_laws.proofs.NestedTrees.{nested_expr, nested_body, nested_alone}
use Rattle.grammar_deferred_laws.proofs.FunctionAlone.{IsAlone, alone_in, alone_sound, alone_local, alone_complete}
use Rattle.grammar_script_laws.proofs.FirstFaults.{Whole, Decides, first_bad, first_deep, read_shallow}
use Rattle.grammar_script_laws.proofs.PartLaws.{bad_part, deep_part, nested_inner, of_read, cuts_end, part_is_read, NoneDeep, both_stand, one_read, room_of, ends_there}

-- the parsers, with so much room for depth

abbrev pub stmts_with : ℕ → StmtCalls
stmts_with room = (everything in_place room).stmts

abbrev pub env_with : ℕ → Env
env_with room = env_of (reading (stmts_with room)) (everything in_place room)

abbrev pub read_assign : ℕ → Bool → Parser Expr
read_assign room w = (env_with room).sub (AnAssign w)

abbrev pub read_expression : ℕ → Bool → Parser Expr
read_expression room w = expr_of (env_with room) w

abbrev pub read_braced : ℕ → FuncForm → ℕ → Bool → Parser BodyRead
read_braced room form start simple = reading (stmts_with room) form start simple

-- their laws

env_sound : (room d : ℕ) → SoundEnv whole d (env_with room)
env_sound room d = record { calls = (in_place_sound room d).exprs; body = reading_sound d (stmts_with room) (in_place_sound room d).stmts }

env_complete : (limit room d : ℕ) → room + d ≡ limit → CompleteEnv limit whole_mode d (env_with room)
env_complete limit room d e = record { calls = (in_place_complete limit room d e).exprs; body = reading_complete limit d (omega (arith, e)) (stmts_with room) (in_place_complete limit room d e).stmts }

-- an AssignmentExpression

pub assign_complete : (limit room d : ℕ) → room + d ≡ limit → (w : Bool) (x : Lexeme) (u : List Lexeme) (e : Expr) → IsAssign whole w d u x e → Completes limit (print whole (suc d) e) (λ t. continues_assign w (ending e) t ≡ false) (read_assign room w) e
assign_complete limit room d q w x u e s = (env_complete limit room d q).calls.assign w e s.level (in_expr e s.proper) s.in_if

pub no_assign : (w : Bool) (e : Expr) → continues_assign w (ending e) end_lexeme ≡ false
no_assign w e = stop_assign w (ending e) end_lexeme (stop_end w (ending e) end_lexeme refl)

assign_inner : (d : ℕ) (w : Bool) (u : List Lexeme) (e : Expr) → IsExpr whole w (suc d) 20 u e → AllInner u
assign_inner d w u e s = nested_inner (print whole (suc d) e) (nested_expr whole (suc d) e s.proper) u end_lexeme (s.fits.before end_lexeme)

assign_part : (d : ℕ) (w : Bool) (u v : List Lexeme) (e : Expr) → IsExpr whole w (suc d) 20 (u ++ v) e → Begins (AssignPart whole w d) u
assign_part d w u v e s = record {
  end = v;
  deep = depths (print whole (suc d) e) (u ++ v) end_lexeme (s.fits.before end_lexeme);
  is = record { next = end_lexeme; tree = e; is = record { level = s.rank_le; proper = s.proper; in_if = s.in_if; fits = s.fits.before end_lexeme }; deep_is = refl };
}

pub assign_decides : (room d : ℕ) → room + d ≡ depth_limit → (w : Bool) → Decides (AssignPart whole w d) (read_assign room w)
assign_decides room d q w = record {
  local = (in_place_local room).room.env.at (AnAssign w);
  bad_begins = bad_part (AssignPart whole w d) (read_assign room w) AtFront (Plain (IsExpr whole w (suc d) 20)) (next_of ((in_place_sound room d).exprs.assign w)) (assign_inner d w) (assign_part d w);
  deep_begins = deep_part (AssignPart whole w d) (read_assign room w) AtFront (Plain (IsExpr whole w (suc d) 20)) (next_of ((in_place_sound room d).exprs.assign w)) (assign_inner d w) (assign_part d w);
  reads = λ u deep p. cuts_end (AssignPart whole w d) (read_assign room w) (print whole (suc d) p.tree) u p.next p.is.fits deep p.tree p.deep_is (λ m s. (assign_complete depth_limit room d q w p.next u p.tree p.is).at m [] s (no_assign w p.tree));
}

pub assign_unexpected : (room d : ℕ) → room + d ≡ depth_limit → (w : Bool) (ts us : List Lexeme) → Whole ts → bare (read_assign room w ts) ≡ Bad [] us → FirstFault (AssignPart whole w d) ts (length ts - length us) Unexpected
assign_unexpected room d q w ts us t e = first_bad (AssignPart whole w d) (read_assign room w) (assign_decides room d q w) ts us t e

pub assign_too_deep : (room d : ℕ) → room + d ≡ depth_limit → (w : Bool) (ts us : List Lexeme) → bare (read_assign room w ts) ≡ Deep [] us → FirstFault (AssignPart whole w d) ts (length ts - length us) TooDeep
assign_too_deep room d q w ts us e = first_deep (AssignPart whole w d) (read_assign room w) (assign_decides room d q w) ts us e

pub one_assign : (w : Bool) (d : ℕ) (u : List Lexeme) (x y : Lexeme) (a b : Expr) → IsAssign whole w d u x a → IsAssign whole w d u y b → a ≡ b
one_assign w d u x y a b s t =
    let q = both_stand (print whole (suc d) a) (print whole (suc d) b) u x y s.fits t.fits in
    one_read d (read_assign (room_of q) w) (print whole (suc d) a) (print whole (suc d) b) u a b q
    ((assign_complete (room_of q + d) (room_of q) d refl w x u a s).at q.left [] q.left_stand (no_assign w a))
    ((assign_complete (room_of q + d) (room_of q) d refl w y u b t).at q.right [] q.right_stand (no_assign w b))

-- an Expression

pub expression_complete : (limit room d : ℕ) → room + d ≡ limit → (w : Bool) (x : Lexeme) (u : List Lexeme) (e : Expr) → IsExpression whole w d u x e → Completes limit (print whole (suc d) e) (λ t. continues_expr w (ending e) t ≡ false) (read_expression room w) e
expression_complete limit room d q w x u e s = expr_complete limit whole_mode d (omega (arith, q)) (env_with room) (env_complete limit room d q) w e (in_expr e s.proper) s.in_if

pub no_expr : (w : Bool) (e : Expr) → continues_expr w (ending e) end_lexeme ≡ false
no_expr w e = stop_end w (ending e) end_lexeme refl

expression_inner : (d : ℕ) (w : Bool) (u : List Lexeme) (e : Expr) → IsExpr whole w (suc d) 21 u e → AllInner u
expression_inner d w u e s = nested_inner (print whole (suc d) e) (nested_expr whole (suc d) e s.proper) u end_lexeme (s.fits.before end_lexeme)

expression_part : (d : ℕ) (w : Bool) (u v : List Lexeme) (e : Expr) → IsExpr whole w (suc d) 21 (u ++ v) e → Begins (ExpressionPart whole w d) u
expression_part d w u v e s = record {
  end = v;
  deep = depths (print whole (suc d) e) (u ++ v) end_lexeme (s.fits.before end_lexeme);
  is = record { next = end_lexeme; tree = e; is = record { proper = s.proper; in_if = s.in_if; fits = s.fits.before end_lexeme }; deep_is = refl };
}

pub expression_decides : (room d : ℕ) → room + d ≡ depth_limit → (w : Bool) → Decides (ExpressionPart whole w d) (read_expression room w)
expression_decides room d q w = record {
  local = expr_local (env_with room) (in_place_local room).room.env w;
  bad_begins = bad_part (ExpressionPart whole w d) (read_expression room w) AtFront (Plain (IsExpr whole w (suc d) 21)) (next_of (expr_sound whole d (env_with room) (env_sound room d) w)) (expression_inner d w) (expression_part d w);
  deep_begins = deep_part (ExpressionPart whole w d) (read_expression room w) AtFront (Plain (IsExpr whole w (suc d) 21)) (next_of (expr_sound whole d (env_with room) (env_sound room d) w)) (expression_inner d w) (expression_part d w);
  reads = λ u deep p. cuts_end (ExpressionPart whole w d) (read_expression room w) (print whole (suc d) p.tree) u p.next p.is.fits deep p.tree p.deep_is (λ m s. (expression_complete depth_limit room d q w p.next u p.tree p.is).at m [] s (no_expr w p.tree));
}

pub expression_unexpected : (room d : ℕ) → room + d ≡ depth_limit → (w : Bool) (ts us : List Lexeme) → Whole ts → bare (read_expression room w ts) ≡ Bad [] us → FirstFault (ExpressionPart whole w d) ts (length ts - length us) Unexpected
expression_unexpected room d q w ts us t e = first_bad (ExpressionPart whole w d) (read_expression room w) (expression_decides room d q w) ts us t e

pub expression_too_deep : (room d : ℕ) → room + d ≡ depth_limit → (w : Bool) (ts us : List Lexeme) → bare (read_expression room w ts) ≡ Deep [] us → FirstFault (ExpressionPart whole w d) ts (length ts - length us) TooDeep
expression_too_deep room d q w ts us e = first_deep (ExpressionPart whole w d) (read_expression room w) (expression_decides room d q w) ts us e

pub one_expression : (w : Bool) (d : ℕ) (u : List Lexeme) (x y : Lexeme) (a b : Expr) → IsExpression whole w d u x a → IsExpression whole w d u y b → a ≡ b
one_expression w d u x y a b s t =
    let q = both_stand (print whole (suc d) a) (print whole (suc d) b) u x y s.fits t.fits in
    one_read d (read_expression (room_of q) w) (print whole (suc d) a) (print whole (suc d) b) u a b q
    ((expression_complete (room_of q + d) (room_of q) d refl w x u a s).at q.left [] q.left_stand (no_expr w a))
    ((expression_complete (room_of q + d) (room_of q) d refl w y u b t).at q.right [] q.right_stand (no_expr w b))

-- where an assignment or an expression is read, it is one

pub record AssignRead (w : Bool) (d : ℕ) (ts us : List Lexeme) (e : Expr) : Type 0 where
  pub front : List Lexeme
  pub split : ts ≡ front ++ us
  pub is : IsAssign whole w d front (head_of us) e
  pub shallow : NoneDeep (depths (print whole (suc d) e) front (head_of us) is.fits)

pub read_is_assign : (room d : ℕ) → room + d ≡ depth_limit → (w : Bool) (ts us : List Lexeme) (e : Expr) → bare (read_assign room w ts) ≡ Read e [] us → AssignRead w d ts us e
read_is_assign room d q w ts us e h =
    let o = of_read AtFront (Plain (IsExpr whole w (suc d) 20)) ts us e (read_assign room w ts) h ((next_of ((in_place_sound room d).exprs.assign w)).at ts) in
    let p = o.is (head_of us) (stands refl) in
    let is : IsAssign whole w d o.front (head_of us) e = record { level = p.rank_le; proper = p.proper; in_if = p.in_if; fits = p.fits.before (head_of us) } in
    record { front = o.front; split = o.split; is = is; shallow = read_shallow (AssignPart whole w d) (read_assign room w) (assign_decides room d q w) o.front us e _ (ap (λ x. bare (read_assign room w x)) (sym o.split) ∙ h) (record { next = head_of us; tree = e; is = is; deep_is = refl }) }

pub assign_is_read : (room d : ℕ) → room + d ≡ depth_limit → (w : Bool) (u rest : List Lexeme) (e : Expr) (s : IsAssign whole w d u (head_of rest) e) → NoneDeep (depths (print whole (suc d) e) u (head_of rest) s.fits) → continues_assign w (ending e) (head_of rest) ≡ false → bare (read_assign room w (u ++ rest)) ≡ Read e [] rest
assign_is_read room d q w u rest e s h g = part_is_read (read_assign room w) (print whole (suc d) e) u rest s.fits e h (λ m k. (assign_complete depth_limit room d q w (head_of rest) u e s).at m rest k g)

pub record ExpressionRead (w : Bool) (d : ℕ) (ts us : List Lexeme) (e : Expr) : Type 0 where
  pub front : List Lexeme
  pub split : ts ≡ front ++ us
  pub is : IsExpression whole w d front (head_of us) e
  pub shallow : NoneDeep (depths (print whole (suc d) e) front (head_of us) is.fits)

pub read_is_expression : (room d : ℕ) → room + d ≡ depth_limit → (w : Bool) (ts us : List Lexeme) (e : Expr) → bare (read_expression room w ts) ≡ Read e [] us → ExpressionRead w d ts us e
read_is_expression room d q w ts us e h =
    let o = of_read AtFront (Plain (IsExpr whole w (suc d) 21)) ts us e (read_expression room w ts) h ((next_of (expr_sound whole d (env_with room) (env_sound room d) w)).at ts) in
    let p = o.is (head_of us) (stands refl) in
    let is : IsExpression whole w d o.front (head_of us) e = record { proper = p.proper; in_if = p.in_if; fits = p.fits.before (head_of us) } in
    record { front = o.front; split = o.split; is = is; shallow = read_shallow (ExpressionPart whole w d) (read_expression room w) (expression_decides room d q w) o.front us e _ (ap (λ x. bare (read_expression room w x)) (sym o.split) ∙ h) (record { next = head_of us; tree = e; is = is; deep_is = refl }) }

pub expression_is_read : (room d : ℕ) → room + d ≡ depth_limit → (w : Bool) (u rest : List Lexeme) (e : Expr) (s : IsExpression whole w d u (head_of rest) e) → NoneDeep (depths (print whole (suc d) e) u (head_of rest) s.fits) → continues_expr w (ending e) (head_of rest) ≡ false → bare (read_expression room w (u ++ rest)) ≡ Read e [] rest
expression_is_read room d q w u rest e s h g = part_is_read (read_expression room w) (print whole (suc d) e) u rest s.fits e h (λ m k. (expression_complete depth_limit room d q w (head_of rest) u e s).at m rest k g)

-- a braced body

abbrev pub body_is : Stmts → ℕ → BodyRead
body_is items end = record { body = tree.BracedBody items; end = end }

braced_complete : (limit room d : ℕ) → room + d ≡ limit → (form : FuncForm) (start : ℕ) (simple : Bool) (end : ℕ) (x : Lexeme) (u : List Lexeme) (items : Stmts) → IsBody whole d end u x items → Completes limit (print_braced whole d end items) (λ t. Unit {0}) (read_braced room form start simple) (body_is items end)
braced_complete limit room d q form start simple end x u items s = own_complete limit whole_mode d (omega (arith, q)) (stmts_with room) (in_place_complete limit room d q).stmts form start end simple items (in_stmts true items s.proper)

body_inner : (d : ℕ) (form : FuncForm) (u : List Lexeme) (b : BodyRead) → IsBraced whole d form u b → AllInner u
body_inner d form u b s = nested_inner (print_body whole d b.end (tree.BracedBody s.items)) (nested_body whole d b.end form (tree.BracedBody s.items) s.proper) u end_lexeme (s.fits.before end_lexeme)

body_part : (d : ℕ) (form : FuncForm) (u v : List Lexeme) (b : BodyRead) → IsBraced whole d form (u ++ v) b → Begins (BodyPart whole d) u
body_part d form u v b s = record {
  end = v;
  deep = depths (print_braced whole d b.end s.items) (u ++ v) end_lexeme (s.fits.before end_lexeme);
  is = record { next = end_lexeme; end = b.end; items = s.items; is = record { proper = s.proper; fits = s.fits.before end_lexeme }; deep_is = refl };
}

pub body_decides : (room d : ℕ) → room + d ≡ depth_limit → (form : FuncForm) (start : ℕ) (simple : Bool) → Decides (BodyPart whole d) (read_braced room form start simple)
body_decides room d q form start simple = record {
  local = local_reading (stmts_with room) (in_place_local room).stmts form start simple;
  bad_begins = bad_part (BodyPart whole d) (read_braced room form start simple) Inside (Plain (IsBraced whole d form)) (next_of ((reading_sound d (stmts_with room) (in_place_sound room d).stmts).braced form start simple)) (body_inner d form) (body_part d form);
  deep_begins = deep_part (BodyPart whole d) (read_braced room form start simple) Inside (Plain (IsBraced whole d form)) (next_of ((reading_sound d (stmts_with room) (in_place_sound room d).stmts).braced form start simple)) (body_inner d form) (body_part d form);
  reads = λ u deep p. cuts_end (BodyPart whole d) (read_braced room form start simple) (print_braced whole d p.end p.items) u p.next p.is.fits deep (body_is p.items p.end) p.deep_is (λ m s. (braced_complete depth_limit room d q form start simple p.end p.next u p.items p.is).at m [] s tt);
}

pub body_unexpected : (room d : ℕ) → room + d ≡ depth_limit → (form : FuncForm) (start : ℕ) (simple : Bool) (ts us : List Lexeme) → Whole ts → bare (read_braced room form start simple ts) ≡ Bad [] us → FirstFault (BodyPart whole d) ts (length ts - length us) Unexpected
body_unexpected room d q form start simple ts us t e = first_bad (BodyPart whole d) (read_braced room form start simple) (body_decides room d q form start simple) ts us t e

pub body_too_deep : (room d : ℕ) → room + d ≡ depth_limit → (form : FuncForm) (start : ℕ) (simple : Bool) (ts us : List Lexeme) → bare (read_braced room form start simple ts) ≡ Deep [] us → FirstFault (BodyPart whole d) ts (length ts - length us) TooDeep
body_too_deep room d q form start simple ts us e = first_deep (BodyPart whole d) (read_braced room form start simple) (body_decides room d q form start simple) ts us e

pub record BodyReads (d : ℕ) (ts us : List Lexeme) (b : BodyRead) : Type 0 where
  pub front : List Lexeme
  pub split : ts ≡ front ++ us
  pub items : Stmts
  pub body_are : b ≡ body_is items b.end
  pub is : IsBody whole d b.end front (head_of us) items
  pub shallow : NoneDeep (depths (print_braced whole d b.end items) front (head_of us) is.fits)

pub read_is_body : (room d : ℕ) → room + d ≡ depth_limit → (form : FuncForm) (start : ℕ) (simple : Bool) (ts us : List Lexeme) (b : BodyRead) → bare (read_braced room form start simple ts) ≡ Read b [] us → BodyReads d ts us b
read_is_body room d q form start simple ts us b h =
    let o = of_read Inside (Plain (IsBraced whole d form)) ts us b (read_braced room form start simple ts) h ((next_of ((reading_sound d (stmts_with room) (in_place_sound room d).stmts).braced form start simple)).at ts) in
    let p = o.is (head_of us) (stands refl) in
    let is : IsBody whole d b.end o.front (head_of us) p.items = record { proper = p.proper; fits = p.fits.before (head_of us) } in
    record { front = o.front; split = o.split; items = p.items; body_are = ap (λ x. record { body = x; end = b.end }) p.is; is = is; shallow = read_shallow (BodyPart whole d) (read_braced room form start simple) (body_decides room d q form start simple) o.front us b _ (ap (λ x. bare (read_braced room form start simple x)) (sym o.split) ∙ h) (record { next = head_of us; end = b.end; items = p.items; is = is; deep_is = refl }) }

pub body_is_read : (room d : ℕ) → room + d ≡ depth_limit → (form : FuncForm) (start : ℕ) (simple : Bool) (end : ℕ) (u rest : List Lexeme) (items : Stmts) (s : IsBody whole d end u (head_of rest) items) → NoneDeep (depths (print_braced whole d end items) u (head_of rest) s.fits) → bare (read_braced room form start simple (u ++ rest)) ≡ Read (body_is items end) [] rest
body_is_read room d q form start simple end u rest items s h = part_is_read (read_braced room form start simple) (print_braced whole d end items) u rest s.fits (body_is items end) h (λ m k. (braced_complete depth_limit room d q form start simple end (head_of rest) u items s).at m rest k tt)

abbrev items_in : tree.Body → Stmts
items_in (tree.BracedBody items) = items
items_in (tree.ShortBody value) = tree.no_stmts

body_read_items : (a b : Stmts) (x y : ℕ) → body_is a x ≡ body_is b y → a ≡ b
body_read_items a b x y e = ap (λ z. items_in z.body) e

pub one_body : (d x y : ℕ) (u : List Lexeme) (n m : Lexeme) (a b : Stmts) → IsBody whole d x u n a → IsBody whole d y u m b → a ≡ b
one_body d x y u n m a b s t =
    let q = both_stand (print_braced whole d x a) (print_braced whole d y b) u n m s.fits t.fits in
    body_read_items a b x y (one_read d (read_braced (room_of q) form.Method 0 true) (print_braced whole d x a) (print_braced whole d y b) u (body_is a x) (body_is b y) q
    ((braced_complete (room_of q + d) (room_of q) d refl form.Method 0 true x n u a s).at q.left [] q.left_stand tt)
    ((braced_complete (room_of q + d) (room_of q) d refl form.Method 0 true y m u b t).at q.right [] q.right_stand tt))

-- A function, up to the End token, without its name.

abbrev pub read_function : ℕ → FuncForm → Parser Function
read_function room f = read_alone in_place room f

function_sound : (room d : ℕ) (f : FuncForm) → (f ≡ form.Script → ⊥) → SoundNext Inside (λ w x n. IsAlone whole d f w x) (read_function room f)
function_sound room d f n = alone_sound whole d (env_with room) (reading (stmts_with room)) (env_sound room d) (own_sound whole d (stmts_with room) (in_place_sound room d).stmts) f n

function_inner : (d : ℕ) (f : FuncForm) (u : List Lexeme) (x : Function) → IsAlone whole d f u x → AllInner u
function_inner d f u x s = nested_inner (print_alone whole d x) (nested_alone whole d x s.proper) u end_lexeme (s.fits.before end_lexeme)

function_part : (d : ℕ) (f : FuncForm) (u v : List Lexeme) (x : Function) → IsAlone whole d f (u ++ v) x → Begins (FunctionPart whole f None d) u
function_part d f u v x s = record {
  end = v;
  deep = depths (print_alone whole d x) (u ++ v) end_lexeme (s.fits.before end_lexeme);
  is = record { next = end_lexeme; tree = x; is = record { of = s.of; proper = s.proper; fits = s.fits.before end_lexeme }; deep_is = refl };
}

function_complete : (limit room d : ℕ) → room + d ≡ limit → (f : FuncForm) (n : Lexeme) (u : List Lexeme) (x : Function) → IsFunction whole f None d u n x → Completes limit (print_alone whole d x) (λ t. is_end t.kind ≡ true) (read_function room f) x
function_complete limit room d q f n u x s = alone_complete limit whole_mode d (omega (arith, q)) (env_with room) (reading (stmts_with room)) (env_complete limit room d q) (λ g start end simple items h. own_complete limit whole_mode d (omega (arith, q)) (stmts_with room) (in_place_complete limit room d q).stmts g start end simple items h) f x s.of (alone_in x s.proper)

pub function_decides : (room d : ℕ) → room + d ≡ depth_limit → (f : FuncForm) → (f ≡ form.Script → ⊥) → Decides (FunctionPart whole f None d) (read_function room f)
function_decides room d q f n = record {
  local = alone_local (env_with room) (in_place_local room).room.env f;
  bad_begins = bad_part (FunctionPart whole f None d) (read_function room f) Inside (λ w x k. IsAlone whole d f w x) (function_sound room d f n) (function_inner d f) (function_part d f);
  deep_begins = deep_part (FunctionPart whole f None d) (read_function room f) Inside (λ w x k. IsAlone whole d f w x) (function_sound room d f n) (function_inner d f) (function_part d f);
  reads = λ u deep p. cuts_end (FunctionPart whole f None d) (read_function room f) (print_alone whole d p.tree) u p.next p.is.fits deep p.tree p.deep_is (λ m s. (function_complete depth_limit room d q f p.next u p.tree p.is).at m [] s refl);
}

pub function_unexpected : (room d : ℕ) → room + d ≡ depth_limit → (f : FuncForm) → (f ≡ form.Script → ⊥) → (ts us : List Lexeme) → Whole ts → bare (read_function room f ts) ≡ Bad [] us → FirstFault (FunctionPart whole f None d) ts (length ts - length us) Unexpected
function_unexpected room d q f n ts us t e = first_bad (FunctionPart whole f None d) (read_function room f) (function_decides room d q f n) ts us t e

pub function_too_deep : (room d : ℕ) → room + d ≡ depth_limit → (f : FuncForm) → (f ≡ form.Script → ⊥) → (ts us : List Lexeme) → bare (read_function room f ts) ≡ Deep [] us → FirstFault (FunctionPart whole f None d) ts (length ts - length us) TooDeep
function_too_deep room d q f n ts us e = first_deep (FunctionPart whole f None d) (read_function room f) (function_decides room d q f n) ts us e

pub record FunctionReads (f : FuncForm) (d : ℕ) (ts us : List Lexeme) (x : Function) : Type 0 where
  pub front : List Lexeme
  pub split : ts ≡ front ++ us
  pub ends : is_end (head_of us).kind ≡ true
  pub is : IsFunction whole f None d front (head_of us) x
  pub shallow : NoneDeep (depths (print_alone whole d x) front (head_of us) is.fits)

pub function_ends : (v : Env) (f : FuncForm) (ts us : List Lexeme) (x : Function) → bare (parser.alone_of v f ts) ≡ Read x [] us → is_end (head_of us).kind ≡ true
unfolding parser.alone_of
function_ends v f ts us x e = ends_there (λ y. y) (when (parser.is_arrow_form f) (parser.arrow_alone v) (function_of v f None) ts) x us e

pub read_is_function : (room d : ℕ) → room + d ≡ depth_limit → (f : FuncForm) → (f ≡ form.Script → ⊥) → (ts us : List Lexeme) (x : Function) → bare (read_function room f ts) ≡ Read x [] us → FunctionReads f d ts us x
read_is_function room d q f n ts us x h =
    let o = of_read Inside (λ w y k. IsAlone whole d f w y) ts us x (read_function room f ts) h ((function_sound room d f n).at ts) in
    let p = o.is (head_of us) (stands refl) in
    let is : IsFunction whole f None d o.front (head_of us) x = record { of = p.of; proper = p.proper; fits = p.fits.before (head_of us) } in
    record { front = o.front; split = o.split; ends = function_ends (env_with room) f ts us x h; is = is; shallow = read_shallow (FunctionPart whole f None d) (read_function room f) (function_decides room d q f n) o.front us x _ (ap (λ y. bare (read_function room f y)) (sym o.split) ∙ h) (record { next = head_of us; tree = x; is = is; deep_is = refl }) }

pub function_is_read : (room d : ℕ) → room + d ≡ depth_limit → (f : FuncForm) (u rest : List Lexeme) (x : Function) (s : IsFunction whole f None d u (head_of rest) x) → NoneDeep (depths (print_alone whole d x) u (head_of rest) s.fits) → is_end (head_of rest).kind ≡ true → bare (read_function room f (u ++ rest)) ≡ Read x [] rest
function_is_read room d q f u rest x s h g = part_is_read (read_function room f) (print_alone whole d x) u rest s.fits x h (λ m k. (function_complete depth_limit room d q f (head_of rest) u x s).at m rest k g)

pub one_function : (f : FuncForm) (d : ℕ) (u : List Lexeme) (n m : Lexeme) (a b : Function) → IsFunction whole f None d u n a → IsFunction whole f None d u m b → a ≡ b
one_function f d u n m a b s t =
    let q = both_stand (print_alone whole d a) (print_alone whole d b) u n m s.fits t.fits in
    one_read d (read_function (room_of q) f) (print_alone whole d a) (print_alone whole d b) u a b q
    ((function_complete (room_of q + d) (room_of q) d refl f n u a s).at q.left [] q.left_stand refl)
    ((function_complete (room_of q + d) (room_of q) d refl f m u b t).at q.right [] q.right_stand refl)
