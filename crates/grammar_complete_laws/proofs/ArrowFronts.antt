-- Where an arrow begins: at the lexemes of an arrow its mark is found after the name or the partner of the parenthesis; at
-- those of any other AssignmentExpression none is found there.
use Rattle.std.proofs.Common.{◌≡◌, ℕ, zero, suc, ◌+◌, ◌≤◌, ◌<◌, List, [], ◌∷◌, ◌++◌, refl, sym, ap, ◌∙◌, subst, arith, append_assoc, Bool, true, false, not, ◌&&◌, ◌||◌, nat_eq, Option, Some, None, if◌then◌else◌, ◌⊎◌, inl, inr}
use Rattle.std.proofs.lemmas.Bool.{eqb-true}
use Rattle.script_grammar.specs.declared.token.Kind.{Kind}
use Rattle.script_grammar.specs.declared.token.Kind.TheVariants as kind
use Rattle.script_grammar.specs.declared.token.FuncForm.TheVariants as form
use Rattle.script_grammar.specs.declared.token.mark.TheConstants as mark
use Rattle.script_grammar.specs.Lexeme.{Lexeme}
use Rattle.script_grammar.specs.Kinds.{is_mark, is_name, is_assign_op, op_kind, op_level, mark_level, is_prefix_op, is_arrow_form}
use Rattle.script_grammar.specs.Tree.{Named, Expr, Params, no_params, more_params, MaybeExpr, no_expr, some_expr, Function, function, Body, Tails, no_tails, more_tails, Operands, no_operands, more_operands, Parts, no_parts, more_parts}
use Rattle.script_grammar.specs.Tree as tree
use Rattle.script_grammar.specs.Pieces.{Piece, At, Gap, Pass, Opener, paren, open_behind, open_at_end, comma_piece, mark_piece, name_piece, glued_mark, placed, from}
use Rattle.script_grammar.specs.Endings.{ending}
use Rattle.script_grammar.specs.Print.{print, print_params, print_tails, print_operands, print_body, first_kind}
use Rattle.script_grammar.specs.Proper.{rank, HasTails, HasOperands, operands_level, first_rank}
use Rattle.grammar_parser_specs.specs.Parser.{head_of}
use Rattle.grammar_parser_specs.specs.Exprs.{is_arrow, is_arrow_head, arrow_opens, arrow_behind, closed_case, only_params}
use Rattle.grammar_parser_specs.specs.Follow.{continues_assign}
use Rattle.grammar_parser_laws.proofs.Friendly.{first_of}
use Rattle.grammar_parser_laws.proofs.Fitting.{head_first}
use Rattle.grammar_parser_laws.proofs.Tests.{false_true, true_false, bool_cases, and_both, not_true, neither_left, neither_right, or_cases}
use Rattle.grammar_parser_laws.proofs.Stands.{Marked, lexemes, Stands, stands_split, stands_fit}
use Rattle.grammar_parser_laws.proofs.Complete.{joined}
use Rattle.grammar_complete_laws.proofs.Completes.{Leads, at_kind, lead_at}
use Rattle.grammar_parser_laws.proofs.Nested.{Nested, deeper_behind, nested_append, comma_nested}
use Rattle.grammar_parser_laws.proofs.NestedTrees.{nested_expr, nested_params}
use Rattle.grammar_parser_laws.proofs.ParamsBegin.{params_begin}
use Rattle.grammar_complete_laws.proofs.ExprFronts.{Opens, opens_first, opens_some, update_is}
use Rattle.grammar_complete_laws.proofs.CompletePlain.{IsArrow}
use Rattle.grammar_parser_laws.proofs.ProperIn.{Mode, of_expr, of_params, Proper}

-- the walk after a parenthesis

-- over lexemes whose brackets match
behind_through : (u : List Lexeme) (ps qs : List Opener) (r : List Lexeme) → open_at_end ps u ≡ Some qs → arrow_behind (ps ++ paren ∷ []) (u ++ r) ≡ arrow_behind (qs ++ paren ∷ []) r
behind_through [] ps qs r e = ap (λ o. elim o [ None ↦ false | Some x ↦ arrow_behind (x ++ paren ∷ []) r ]) e
behind_through (t ∷ u) ps qs r e = past (open_behind t.kind ps) refl (λ x. behind_through u x qs r) e
  where
    goes : (x : List Opener) → closed_case (Some (x ++ paren ∷ [])) (is_arrow (head_of (u ++ r))) (λ os. arrow_behind os (u ++ r)) ≡ arrow_behind (x ++ paren ∷ []) (u ++ r)
    goes [] = refl
    goes (y ∷ x) = refl

    past : (o : Option (List Opener)) → open_behind t.kind ps ≡ o → ((x : List Opener) → open_at_end x u ≡ Some qs → arrow_behind (x ++ paren ∷ []) (u ++ r) ≡ arrow_behind (qs ++ paren ∷ []) r) → (elim o [ None ↦ None | Some x ↦ open_at_end x u ]) ≡ Some qs → arrow_behind (ps ++ paren ∷ []) (t ∷ (u ++ r)) ≡ arrow_behind (qs ++ paren ∷ []) r
    past None k h e = absurd (cc)
    past (Some x) k h e = ap (λ o. closed_case o (is_arrow (head_of (u ++ r))) (λ os. arrow_behind os (u ++ r))) (deeper_behind t.kind ps x (paren ∷ []) k) ∙ goes x ∙ h x e

behind_close : (t : Lexeme) (r : List Lexeme) → t.kind ≡ kind.Mark mark.CLOSE_PAREN → arrow_behind (paren ∷ []) (t ∷ r) ≡ is_arrow (head_of r)
behind_close t r h = ap (λ k. closed_case (open_behind k (paren ∷ [])) (is_arrow (head_of r)) (λ os. arrow_behind os r)) h

-- the first lexeme

at_paren : (t : Lexeme) (ts : List Lexeme) → t.kind ≡ kind.Mark mark.OPEN_PAREN → is_arrow_head (t ∷ ts) ≡ arrow_opens ts
unfolding is_arrow_head
at_paren t ts e = at_kind (λ u. is_arrow_head (u ∷ ts) ≡ arrow_opens ts) (kind.Mark mark.OPEN_PAREN) t e refl

at_name : (t : Lexeme) (ts : List Lexeme) → t.kind ≡ kind.Name → is_arrow_head (t ∷ ts) ≡ is_arrow (head_of ts)
unfolding is_arrow_head
at_name t ts e = at_kind (λ u. is_arrow_head (u ∷ ts) ≡ is_arrow (head_of ts)) kind.Name t e refl

neither : (a b x y : Bool) → a ≡ false → b ≡ false → (if a then x else (b && y)) ≡ false
neither true b x y h k = absurd (true_false h)
neither false true x y h k = absurd (true_false k)
neither false false x y h k = refl

at_other : (t : Lexeme) (ts : List Lexeme) → is_name t.kind ≡ false → is_mark mark.OPEN_PAREN t.kind ≡ false → is_arrow_head (t ∷ ts) ≡ false
unfolding is_arrow_head
at_other t ts h k = neither (is_name t.kind) (is_mark mark.OPEN_PAREN t.kind) (is_arrow (head_of ts)) (arrow_opens ts) h k

-- after what stands in parentheses: what stands after the closing one
paren_group : (at d : ℕ) (inner qs : List Piece) → Nested inner → (w : List Marked) (rest : List Lexeme) → Stands (inner ++ (mark_piece mark.CLOSE_PAREN d ∷ qs)) w (head_of rest) → (b : Bool) → ((v : List Marked) → Stands qs v (head_of rest) → is_arrow (head_of (lexemes v ++ rest)) ≡ b) → arrow_behind (paren ∷ []) (lexemes w ++ rest) ≡ b
paren_group at d inner qs n w rest h b f =
    let p = stands_split inner (mark_piece mark.CLOSE_PAREN d ∷ qs) w (head_of rest) h in
    close_at p.front p.back p.split p.first p.second
  where
    close_at : (u v : List Marked) → w ≡ u ++ v → Stands inner u (first_of (lexemes v) (head_of rest)) → Stands (mark_piece mark.CLOSE_PAREN d ∷ qs) v (head_of rest) → arrow_behind (paren ∷ []) (lexemes w ++ rest) ≡ b
    close_at u [] e i k = absurd k
    close_at u (c ∷ v) e i k =
        ap (λ z. arrow_behind (paren ∷ []) (lexemes z ++ rest)) e
        ∙ ap (arrow_behind (paren ∷ [])) (joined u (c ∷ v) rest)
        ∙ behind_through (lexemes u) [] [] (lexemes (c ∷ v) ++ rest) (n.at (lexemes u) _ (stands_fit inner u _ i) [])
        ∙ behind_close c.lexeme (lexemes v ++ rest) k.0.kind
        ∙ f v k.2

-- at an arrow

mark_found : (d : ℕ) (qs : List Piece) (v : List Marked) (rest : List Lexeme) → Stands (glued_mark mark.ARROW d ∷ qs) v (head_of rest) → is_arrow (head_of (lexemes v ++ rest)) ≡ true
mark_found d qs [] rest h = absurd h
mark_found d qs (x ∷ v) rest h = and_both (is_mark mark.ARROW x.lexeme.kind) (not x.lexeme.after_line) (ap (is_mark mark.ARROW) h.0.kind) (ap not (h.0.line refl))

bare_found : (n : Named) (d : ℕ) (qs : List Piece) (w : List Marked) (rest : List Lexeme) → Stands (name_piece n d ∷ glued_mark mark.ARROW d ∷ qs) w (head_of rest) → is_arrow_head (lexemes w ++ rest) ≡ true
bare_found n d qs [] rest h = absurd h
bare_found n d qs (x ∷ w) rest h = at_name x.lexeme (lexemes w ++ rest) h.0.kind ∙ mark_found d qs w rest h.2

pub arrow_found : (m : Mode) (d at start end : ℕ) (name : Option Named) (ps : Params) (comma bare : Bool) (b : Body) → Proper m (tree.Func at (function form.Arrow start end name ps comma bare b)) → (w : List Marked) (rest : List Lexeme) → Stands (print m.look d (tree.Func at (function form.Arrow start end name ps comma bare b))) w (head_of rest) → is_arrow_head (lexemes w ++ rest) ≡ true
arrow_found m d at start end name ps comma false b h w rest k =
    let behind : List Piece = glued_mark mark.ARROW d ∷ print_body m.look d end b in
    let params : List Piece = print_params m.look (suc d) d ps in
    let close : List Piece = mark_piece mark.CLOSE_PAREN d ∷ [] in
    let inner : List Piece = comma_piece comma d ++ (mark_piece mark.CLOSE_PAREN d ∷ behind) in
    let one : (params ++ (comma_piece comma d ++ close)) ++ behind ≡ params ++ inner = append_assoc params (comma_piece comma d ++ close) behind ∙ ap (λ x. params ++ x) (append_assoc (comma_piece comma d) close behind) in
    let two : params ++ inner ≡ (params ++ comma_piece comma d) ++ (mark_piece mark.CLOSE_PAREN d ∷ behind) = sym (append_assoc params (comma_piece comma d) (mark_piece mark.CLOSE_PAREN d ∷ behind)) in
    open_found (params ++ inner) w (subst (λ x. Stands (placed (kind.Mark mark.OPEN_PAREN) start d ∷ x) w (head_of rest)) one k)
    (λ v q. paren_group start d (params ++ comma_piece comma d) behind (nested_append (nested_params m.look (suc d) d ps (of_params m ps h.1.3)) (comma_nested comma d)) v rest (subst (λ x. Stands x v (head_of rest)) two q) true (λ v q. mark_found d (print_body m.look d end b) v rest q))
    (λ v q. params_begin m.look (suc d) d comma behind rest ps h.1.0 (of_params m ps h.1.3) (lexemes v) (head_of rest) (stands_fit (params ++ inner) v (head_of rest) q))
  where
    open_found : (ps : List Piece) (w : List Marked) → Stands (placed (kind.Mark mark.OPEN_PAREN) start d ∷ ps) w (head_of rest) → ((v : List Marked) → Stands ps v (head_of rest) → arrow_behind (paren ∷ []) (lexemes v ++ rest) ≡ true) → ((v : List Marked) → Stands ps v (head_of rest) → only_params true (paren ∷ []) (lexemes v ++ rest) ≡ true) → is_arrow_head (lexemes w ++ rest) ≡ true
    open_found ps [] h f g = absurd h
    open_found ps (x ∷ w) h f g = at_paren x.lexeme (lexemes w ++ rest) h.0.kind ∙ and_both (arrow_behind (paren ∷ []) (lexemes w ++ rest)) (only_params true (paren ∷ []) (lexemes w ++ rest)) (f w h.2) (g w h.2)
arrow_found m d at start end name no_params comma true b h w rest k = absurd h.1.2
arrow_found m d at start end name (more_params n (some_expr e) r ps) comma true b h w rest k = absurd h.1.2
arrow_found m d at start end name (more_params n no_expr true ps) comma true b h w rest k = absurd h.1.2
arrow_found m d at start end name (more_params n no_expr false (more_params n2 v2 r2 ps)) comma true b h w rest k = absurd h.1.2
arrow_found m d at start end name (more_params n no_expr false no_params) comma true b h w rest k = bare_found n d (print_body m.look d end b) w rest k

-- at what is no arrow

abbrev NotArrow : Lexeme → Type 0
NotArrow t = is_arrow t ≡ false

pub record NoHead (ps : List Piece) (F : Lexeme → Type 0) : Type 0 where
  pub at : (w : List Marked) (rest : List Lexeme) → Stands ps w (head_of rest) → F (head_of rest) → is_arrow_head (lexemes w ++ rest) ≡ false

abbrev no_front : Kind → Bool
no_front k = not (is_name k || is_mark mark.OPEN_PAREN k)

by_front : (ps : List Piece) (F : Lexeme → Type 0) → Opens no_front ps → NoHead ps F
by_front ps F o = record { at = none }
  where
    none : (w : List Marked) (rest : List Lexeme) → Stands ps w (head_of rest) → F (head_of rest) → is_arrow_head (lexemes w ++ rest) ≡ false
    none [] rest h g = absurd (omega (arith, opens_some no_front ps [] (head_of rest) o h))
    none (x ∷ w) rest h g =
        let n = not_true (is_name x.lexeme.kind || is_mark mark.OPEN_PAREN x.lexeme.kind) (opens_first no_front ps x w (head_of rest) o h) in
        at_other x.lexeme (lexemes w ++ rest) (neither_left (is_name x.lexeme.kind) (is_mark mark.OPEN_PAREN x.lexeme.kind) n) (neither_right (is_name x.lexeme.kind) (is_mark mark.OPEN_PAREN x.lexeme.kind) n)

by_append : {a b : List Piece} {F : Lexeme → Type 0} → NoHead a NotArrow → Leads b F NotArrow → NoHead (a ++ b) F
by_append {a = a} {b = b} x l = record {
  at = λ w rest h g.
      let p = stands_split a b w (head_of rest) h in
      ap (λ z. is_arrow_head (lexemes z ++ rest)) p.split
      ∙ ap is_arrow_head (joined p.front p.back rest)
      ∙ x.at p.front (lexemes p.back ++ rest) (subst (λ t. Stands a p.front t) (sym (head_first (lexemes p.back) rest)) p.first) (subst NotArrow (sym (head_first (lexemes p.back) rest)) (l.by p.back (head_of rest) p.second g));
}

of_name : (n : Named) (d : ℕ) → NoHead (name_piece n d ∷ []) NotArrow
of_name n d = record { at = none }
  where
    none : (w : List Marked) (rest : List Lexeme) → Stands (name_piece n d ∷ []) w (head_of rest) → NotArrow (head_of rest) → is_arrow_head (lexemes w ++ rest) ≡ false
    none [] rest h g = absurd h
    none (x ∷ []) rest h g = at_name x.lexeme rest h.0.kind ∙ g
    none (x ∷ y ∷ w) rest h g = absurd h.2

of_paren : (m : Mode) (d at : ℕ) (inner : Expr) → Proper m inner → NoHead (print m.look d (tree.Paren at inner)) NotArrow
of_paren m d at inner p = record { at = none }
  where
    last : (v : List Marked) (rest : List Lexeme) → Stands [] v (head_of rest) → NotArrow (head_of rest) → is_arrow (head_of (lexemes v ++ rest)) ≡ false
    last [] rest h g = g
    last (x ∷ v) rest h g = absurd h

    none : (w : List Marked) (rest : List Lexeme) → Stands (print m.look d (tree.Paren at inner)) w (head_of rest) → NotArrow (head_of rest) → is_arrow_head (lexemes w ++ rest) ≡ false
    none [] rest h g = absurd h
    none (x ∷ w) rest h g =
        at_paren x.lexeme (lexemes w ++ rest) h.0.kind
        ∙ ap (λ b. b && only_params true (paren ∷ []) (lexemes w ++ rest)) (paren_group at d (print m.look (suc d) inner) [] (nested_expr m.look (suc d) inner (of_expr m inner p)) w rest h.2 false (λ v k. last v rest k g))

of_from : (n : ℕ) (ps : List Piece) (F : Lexeme → Type 0) → NoHead ps F → NoHead (from n ps) F
of_from n ps F x = record { at = λ w rest h g. x.at w rest (unfrom ps w (head_of rest) h) g }
  where
    unfrom : (ps : List Piece) (w : List Marked) (t : Lexeme) → Stands (from n ps) w t → Stands ps w t
    unfrom [] w t h = h
    unfrom (At s ∷ ps) [] t h = absurd h
    unfrom (At s ∷ ps) (y ∷ w) t h = (record { kind = h.0.kind; content = h.0.content; starts = h.0.starts.1; ends = h.0.ends; line = h.0.line }, h.1, h.2)
    unfrom (Gap e ∷ ps) w t h = h
    unfrom (Pass ∷ ps) w t h = h

arrow_not : (k : Kind) (t : Lexeme) → t.kind ≡ k → is_mark mark.ARROW k ≡ false → NotArrow t
arrow_not k t e h = ap (λ b. b && not t.after_line) (ap (is_mark mark.ARROW) e ∙ h)

op_not_arrow : (op : ℕ) (of_word : Bool) → op_level op of_word < 12 → is_mark mark.ARROW (op_kind op of_word) ≡ false
op_not_arrow op true h = refl
op_not_arrow op false h = by (bool_cases (nat_eq op mark.ARROW))
  where
    by : (nat_eq op mark.ARROW ≡ true) ⊎ (nat_eq op mark.ARROW ≡ false) → nat_eq op mark.ARROW ≡ false
    by (inl e) = absurd (omega (arith, h, ap mark_level (eqb-true op mark.ARROW e)))
    by (inr e) = e

assign_not_arrow : (op : ℕ) → is_assign_op op ≡ true → is_mark mark.ARROW (kind.Mark op) ≡ false
assign_not_arrow op h = by (bool_cases (nat_eq op mark.ARROW))
  where
    by : (nat_eq op mark.ARROW ≡ true) ⊎ (nat_eq op mark.ARROW ≡ false) → nat_eq op mark.ARROW ≡ false
    by (inl e) = absurd (true_false (sym h ∙ ap is_assign_op (eqb-true op mark.ARROW e)))
    by (inr e) = e

tails_lead : (m : Mode) (d : ℕ) (ts : Tails) {G : Lexeme → Type 0} → HasTails ts → Leads (print_tails m.look d ts) G NotArrow
tails_lead m d no_tails h = absurd h
tails_lead m d (more_tails (tree.Dot x) ts) h = lead_at (λ t s. arrow_not (kind.Mark mark.DOT) t s.kind refl)
tails_lead m d (more_tails (tree.Index e) ts) h = lead_at (λ t s. arrow_not (kind.Mark mark.OPEN_BRACKET) t s.kind refl)
tails_lead m d (more_tails (tree.Call es comma) ts) h = lead_at (λ t s. arrow_not (kind.Mark mark.OPEN_PAREN) t s.kind refl)

operands_lead : (m : Mode) (d : ℕ) (os : Operands) {G : Lexeme → Type 0} → HasOperands os → operands_level os < 12 → Leads (print_operands m.look d os) G NotArrow
operands_lead m d no_operands h k = absurd h
operands_lead m d (more_operands op of_word value rest) h k = lead_at (λ t s. arrow_not (op_kind op of_word) t s.kind (op_not_arrow op of_word k))

prefix_front : (op : ℕ) (of_word : Bool) → is_prefix_op op of_word ≡ true → no_front (op_kind op of_word) ≡ true
prefix_front op true h = refl
prefix_front op false h =
    or_cases (nat_eq op mark.PLUS || nat_eq op mark.MINUS || nat_eq op mark.BIT_NOT) (nat_eq op mark.NOT) h
    (λ h. or_cases (nat_eq op mark.PLUS || nat_eq op mark.MINUS) (nat_eq op mark.BIT_NOT) h
    (λ h. or_cases (nat_eq op mark.PLUS) (nat_eq op mark.MINUS) h
    (λ h. subst (λ x. no_front (kind.Mark x) ≡ true) (sym (eqb-true op mark.PLUS h)) refl)
    (λ h. subst (λ x. no_front (kind.Mark x) ≡ true) (sym (eqb-true op mark.MINUS h)) refl))
    (λ h. subst (λ x. no_front (kind.Mark x) ≡ true) (sym (eqb-true op mark.BIT_NOT h)) refl))
    (λ h. subst (λ x. no_front (kind.Mark x) ≡ true) (sym (eqb-true op mark.NOT h)) refl)

template_front : (ps : Parts) → no_front (first_kind ps) ≡ true
template_front no_parts = refl
template_front (more_parts e x ps) = refl

-- what may follow an expression, so that no arrow begins where it does
abbrev pub Lone : Expr → Lexeme → Type 0
Lone (tree.Name n) t = NotArrow t
Lone (tree.Paren at inner) t = NotArrow t
Lone _ t = Unit {0}

lone : (e : Expr) (t : Lexeme) → NotArrow t → Lone e t
lone (tree.Name n) t h = h
lone (tree.Paren at inner) t h = h
lone (tree.This at) t h = tt
lone (tree.Null at) t h = tt
lone (tree.True at) t h = tt
lone (tree.False at) t h = tt
lone (tree.Number at value) t h = tt
lone (tree.Str at end x) t h = tt
lone (tree.Template at first parts) t h = tt
lone (tree.Array at is comma) t h = tt
lone (tree.Object at ps comma) t h = tt
lone (tree.Func at f) t h = tt
lone (tree.Chain head tails) t h = tt
lone (tree.New at callee args) t h = tt
lone (tree.Unary at op of of_word) t h = tt
lone (tree.Update at op prefix of) t h = tt
lone (tree.Binary first rest) t h = tt
lone (tree.Cond test a b) t h = tt
lone (tree.Assign op target value) t h = tt
lone (tree.Comma es) t h = tt

pub lone_follows : (w : Bool) (e : Expr) (t : Lexeme) → continues_assign w (ending e) t ≡ false → Lone e t
lone_follows w (tree.Name n) t h = neither_right _ (is_arrow t) h
lone_follows w (tree.Paren at inner) t h = neither_right _ (is_arrow t) h
lone_follows w (tree.This at) t h = tt
lone_follows w (tree.Null at) t h = tt
lone_follows w (tree.True at) t h = tt
lone_follows w (tree.False at) t h = tt
lone_follows w (tree.Number at value) t h = tt
lone_follows w (tree.Str at end x) t h = tt
lone_follows w (tree.Template at first parts) t h = tt
lone_follows w (tree.Array at is comma) t h = tt
lone_follows w (tree.Object at ps comma) t h = tt
lone_follows w (tree.Func at f) t h = tt
lone_follows w (tree.Chain head tails) t h = tt
lone_follows w (tree.New at callee args) t h = tt
lone_follows w (tree.Unary at op of of_word) t h = tt
lone_follows w (tree.Update at op prefix of) t h = tt
lone_follows w (tree.Binary first rest) t h = tt
lone_follows w (tree.Cond test a b) t h = tt
lone_follows w (tree.Assign op target value) t h = tt
lone_follows w (tree.Comma es) t h = tt

weak : {ps : List Piece} (e : Expr) → NoHead ps (Lone e) → NoHead ps NotArrow
weak e x = record { at = λ w rest h g. x.at w rest h (lone e (head_of rest) g) }

-- an expression that binds more tightly is no arrow

if_arrow : (b : Bool) → b ≡ true → (if b then 20 else 0) ≤ 19 → ⊥
if_arrow true e h = omega (arith, h)
if_arrow false e h = false_true e

pub tight : (e : Expr) → rank e ≤ 19 → IsArrow e → ⊥
tight (tree.Func at (function g start end name ps comma bare body)) h k = if_arrow (is_arrow_form g) k h
tight (tree.This at) h k = k
tight (tree.Name n) h k = k
tight (tree.Null at) h k = k
tight (tree.True at) h k = k
tight (tree.False at) h k = k
tight (tree.Number at value) h k = k
tight (tree.Str at end x) h k = k
tight (tree.Template at first parts) h k = k
tight (tree.Array at is comma) h k = k
tight (tree.Object at ps comma) h k = k
tight (tree.Paren at inner) h k = k
tight (tree.Chain head tails) h k = k
tight (tree.New at callee args) h k = k
tight (tree.Unary at op of of_word) h k = k
tight (tree.Update at op prefix of) h k = k
tight (tree.Binary first rest) h k = k
tight (tree.Cond test a b) h k = k
tight (tree.Assign op target value) h k = k
tight (tree.Comma es) h k = k

if_low : (b : Bool) (n : ℕ) → n < 12 → (if b then 15 else 6 + n) ≤ 19
if_low true n h = omega arith
if_low false n h = omega (arith, h)

first_low : (n : ℕ) → n < 12 → first_rank n ≤ 19
first_low zero h = omega arith
first_low (suc n) h = if_low (nat_eq (suc n) 11) (suc n) h

func_lone : (m : Mode) (d at : ℕ) (f : Function) → Proper m (tree.Func at f) → (IsArrow (tree.Func at f) → ⊥) → Opens no_front (print m.look d (tree.Func at f))
func_lone m d at (function form.Function start end name ps comma bare body) h k = refl
func_lone m d at (function form.Arrow start end name ps comma bare body) h k = absurd (k refl)
func_lone m d at (function form.Script start end name ps comma bare body) h k = absurd h.0
func_lone m d at (function form.Method start end name ps comma bare body) h k = absurd h.0
func_lone m d at (function form.Getter start end name ps comma bare body) h k = absurd h.0
func_lone m d at (function form.Setter start end name ps comma bare body) h k = absurd h.0

pub no_head : (m : Mode) (d : ℕ) (e : Expr) → rank e ≤ 20 → Proper m e → (IsArrow e → ⊥) → NoHead (print m.look d e) (Lone e)
no_head m d (tree.Name n) r h k = of_name n d
no_head m d (tree.Paren at inner) r h k = of_paren m d at inner h
no_head m d (tree.This at) r h k = by_front _ _ refl
no_head m d (tree.Null at) r h k = by_front _ _ refl
no_head m d (tree.True at) r h k = by_front _ _ refl
no_head m d (tree.False at) r h k = by_front _ _ refl
no_head m d (tree.Number at value) r h k = by_front _ _ refl
no_head m d (tree.Str at end x) r h k = by_front _ _ refl
no_head m d (tree.Template at first parts) r h k = by_front _ _ (template_front parts)
no_head m d (tree.Array at is comma) r h k = by_front _ _ refl
no_head m d (tree.Object at ps comma) r h k = by_front _ _ refl
no_head m d (tree.Func at f) r h k = by_front _ _ (func_lone m d at f h k)
no_head m d (tree.Chain head tails) r h k = by_append (weak head (no_head m d head (omega (arith, h.0)) h.1 (tight head (omega (arith, h.0))))) (tails_lead m d tails h.2)
no_head m d (tree.New at callee args) r h k = by_front _ _ refl
no_head m d (tree.Unary at op of of_word) r h k = by_front _ _ (prefix_front op of_word h.0)
no_head m d (tree.Update at op true of) r h k = by_front _ _ (update_is (λ x. no_front (kind.Mark x) ≡ true) refl refl op h.0)
no_head m d (tree.Update at op false of) r h k = by_append (of_from at (print m.look d of) NotArrow (weak of (no_head m d of (omega (arith, h.1)) h.2 (tight of (omega (arith, h.1)))))) (lead_at (λ t s. arrow_not (kind.Mark op) t s.kind (update_is (λ x. is_mark mark.ARROW (kind.Mark x) ≡ false) refl refl op h.0)))
no_head m d (tree.Binary first rest) r h k =
    let low = first_low (operands_level rest) h.1 in
    by_append (weak first (no_head m d first (omega (arith, h.2, low)) h.3 (tight first (omega (arith, h.2, low))))) (operands_lead m d rest h.0 h.1)
no_head m d (tree.Cond test a b) r h k = by_append (weak test (no_head m d test (omega (arith, h.0)) h.1 (tight test (omega (arith, h.0))))) (lead_at (λ t s. arrow_not (kind.Mark mark.QUESTION) t s.kind refl))
no_head m d (tree.Assign op target value) r h k = by_append (weak target (no_head m d target (omega (arith, h.1)) h.2 (tight target (omega (arith, h.1))))) (lead_at (λ t s. arrow_not (kind.Mark op) t s.kind (assign_not_arrow op h.0)))
no_head m d (tree.Comma es) r h k = absurd (omega (arith, r))
