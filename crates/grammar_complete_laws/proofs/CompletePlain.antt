-- Completeness of a ShortCircuitExpression, of conditionals and of assignments.
use Rattle.std.proofs.Common.{◌≡◌, ℕ, zero, suc, ◌+◌, ◌≤◌, ◌<◌, List, [], ◌∷◌, ◌++◌, refl, sym, ap, ◌∙◌, subst, arith, append_assoc, append-nil, Bool, true, false, ◌&&◌, ◌||◌, not, nat_le, nat_eq, if◌then◌else◌}
use Rattle.std.proofs.lemmas.Bool.{leb-true, le-leb, eqb-true, ne_eqb}
use Rattle.script_grammar.specs.declared.token.Kind.{Kind}
use Rattle.script_grammar.specs.declared.token.Kind.TheVariants as kind
use Rattle.script_grammar.specs.declared.token.mark.TheConstants as mark
use Rattle.script_grammar.specs.declared.token.word.TheConstants as word
use Rattle.script_grammar.specs.Lexeme.{Lexeme}
use Rattle.script_grammar.specs.Kinds.{is_mark, is_word, is_update, is_binary, is_assign_mark, is_assign_op, kind_level, mark_level, is_arrow_form, between}
use Rattle.script_grammar.specs.Tree.{Expr, Operands, no_operands, more_operands, MaybeArgs, Function, function}
use Rattle.script_grammar.specs.Tree as tree
use Rattle.script_grammar.specs.Pieces.{Piece, Ending, Operand, BracedArrow, Postfix, BareBinding, Keyword, DoWhile, mark_piece}
use Rattle.script_grammar.specs.Endings.{ending, operands_ending, function_ending, body_ending}
use Rattle.script_grammar.specs.Print.{print, print_operands}
use Rattle.script_grammar.specs.Proper.{rank, free_of_in, operands_free, InIf, are_member_tails, function_rank, new_rank, operands_level, rest_rank}
use Rattle.grammar_parser_specs.specs.Parser.{Read, Parser, head_of, ret, bind, peek, step, when}
use Rattle.grammar_parser_specs.specs.Exprs as parser
use Rattle.grammar_parser_specs.specs.Exprs.{Env, AnAssign, expect, mark_of, is_op}
use Rattle.grammar_parser_specs.specs.Follow.{continues_assign, is_operator}
use Rattle.grammar_parser_laws.proofs.Tests.{true_false, and_left, and_right, and_both, neither_left, neither_right}
use Rattle.grammar_parser_laws.proofs.Complete.{bare}
use Rattle.grammar_complete_laws.proofs.Stops.{stop_colon, stop_assign}
use Rattle.grammar_complete_laws.proofs.Completes.{Completes, Leads, lead_none, lead_at, lead_any, lead_map, c_bind, c_made, c_at, c_look, c_weaken, c_pieces, c_mark}
use Rattle.grammar_complete_laws.proofs.CompleteStmts.{c_value}
use Rattle.grammar_complete_laws.proofs.CompleteParts.{CompleteEnv}
use Rattle.grammar_complete_laws.proofs.CompleteOperators.{refuted, c_when, c_else, lead_append, LevelStops, level_less, op_levels, other_level, op_at, op_is, binary_of, binary_pieces, binary_ending, binary_level, levelled, binary_only, above, in_first, in_rest, from_complete, ReadsUnary, level_complete}
use Rattle.grammar_parser_laws.proofs.ProperIn.{Mode, Proper, ProperOperands}

-- the endings of operands

abbrev pub IsShort : Ending → Type 0
IsShort Operand = Unit {0}
IsShort Postfix = Unit {0}
IsShort _ = ⊥

if_short : (b : Bool) (x : Ending) → (if b then 20 else 0) ≤ 18 → IsShort (if b then x else Operand)
if_short true x h = absurd (omega (arith, h))
if_short false x h = tt

func_short : (f : Function) → function_rank f ≤ 18 → IsShort (function_ending f)
func_short (function g start end name ps comma bare body) h = if_short (is_arrow_form g) (body_ending body) h

if_left : (b : Bool) (x : Ending) → (if b then 20 else 0) ≤ 4 → (if b then x else Operand) ≡ Operand
if_left true x h = absurd (omega (arith, h))
if_left false x h = refl

func_left : (f : Function) → function_rank f ≤ 4 → function_ending f ≡ Operand
func_left (function g start end name ps comma bare body) h = if_left (is_arrow_form g) (body_ending body) h

level_low : (b : Bool) (n : ℕ) → n < 12 → (if b then 15 else 6 + n) ≤ 18
level_low true n h = omega arith
level_low false n h = omega (arith, h)

rest_low : (n : ℕ) (os : Operands) → n < 12 → rest_rank n os ≤ 18
rest_low zero no_operands h = omega arith
rest_low zero (more_operands op of_word value rest) h = omega arith
rest_low (suc n) os h = level_low (nat_eq (suc n) 11) (suc n) h

mutual
  pub short_ending : (m : Mode) (e : Expr) → rank e ≤ 18 → Proper m e → IsShort (ending e)
  short_ending m (tree.This at) r h = tt
  short_ending m (tree.Name name) r h = tt
  short_ending m (tree.Null at) r h = tt
  short_ending m (tree.True at) r h = tt
  short_ending m (tree.False at) r h = tt
  short_ending m (tree.Number at value) r h = tt
  short_ending m (tree.Str at end x) r h = tt
  short_ending m (tree.Template at first parts) r h = tt
  short_ending m (tree.Array at is comma) r h = tt
  short_ending m (tree.Object at ps comma) r h = tt
  short_ending m (tree.Func at f) r h = func_short f r
  short_ending m (tree.Paren at inner) r h = tt
  short_ending m (tree.Chain head tails) r h = tt
  short_ending m (tree.New at callee args) r h = tt
  short_ending m (tree.Unary at op of of_word) r h = short_ending m of (omega (arith, h.1)) h.2
  short_ending m (tree.Update at op true of) r h = short_ending m of (omega (arith, h.1)) h.2
  short_ending m (tree.Update at op false of) r h = tt
  short_ending m (tree.Binary first rest) r h = short_operands m Operand (operands_level rest) h.1 rest h.4 tt
  short_ending m (tree.Cond test a b) r h = absurd (omega (arith, r))
  short_ending m (tree.Assign op target value) r h = absurd (omega (arith, r))
  short_ending m (tree.Comma es) r h = absurd (omega (arith, r))

  short_operands : (m : Mode) (x : Ending) (n : ℕ) → n < 12 → (os : Operands) → ProperOperands m n os → IsShort x → IsShort (operands_ending x os)
  short_operands m x n l no_operands h k = k
  short_operands m x n l (more_operands op of_word value rest) h k = short_operands m (ending value) n l rest h.3 (short_ending m value (omega (arith, h.1, rest_low n rest l)) h.2)

pub left_ending : (e : Expr) → rank e ≤ 4 → ending e ≡ Operand
left_ending (tree.This at) r = refl
left_ending (tree.Name name) r = refl
left_ending (tree.Null at) r = refl
left_ending (tree.True at) r = refl
left_ending (tree.False at) r = refl
left_ending (tree.Number at value) r = refl
left_ending (tree.Str at end x) r = refl
left_ending (tree.Template at first parts) r = refl
left_ending (tree.Array at is comma) r = refl
left_ending (tree.Object at ps comma) r = refl
left_ending (tree.Func at f) r = func_left f r
left_ending (tree.Paren at inner) r = refl
left_ending (tree.Chain head tails) r = refl
left_ending (tree.New at callee args) r = refl
left_ending (tree.Unary at op of of_word) r = absurd (omega (arith, r))
left_ending (tree.Update at op prefix of) r = absurd (omega (arith, r))
left_ending (tree.Binary first rest) r = absurd (omega (arith, r))
left_ending (tree.Cond test a b) r = absurd (omega (arith, r))
left_ending (tree.Assign op target value) r = absurd (omega (arith, r))
left_ending (tree.Comma es) r = absurd (omega (arith, r))

-- an arrow
abbrev pub IsArrow : Expr → Type 0
IsArrow (tree.Func at (function g start end name ps comma bare body)) = is_arrow_form g ≡ true
IsArrow _ = ⊥

postfix_operand : Postfix ≡ Operand → ⊥
postfix_operand e = absurd (subst (λ x. IsPostfix x) e tt)
  where
    IsPostfix : Ending → Type 0
    IsPostfix Postfix = Unit {0}
    IsPostfix _ = ⊥

-- what goes on with an operand, of an ending that an operand has

and_none : (a b : Bool) → a ≡ false → (a && b) ≡ false
and_none true b h = absurd (true_false h)
and_none false b h = refl

no_op : (w : Bool) (n : ℕ) (k : Kind) → n < 12 → is_operator w k ≡ false → is_op w n k ≡ false
no_op w n k l h = refuted (is_op w n k) (λ e. true_false (sym (and_both (is_binary k) (w || not (is_word word.IN k)) (ap not (ne_eqb (kind_level k) 12 (λ q. absurd (omega (arith, q, l, eqb-true (kind_level k) n (and_left (nat_eq (kind_level k) n) (w || not (is_word word.IN k)) e)))))) (and_right (nat_eq (kind_level k) n) (w || not (is_word word.IN k)) e)) ∙ h))

pub record GoesNot (w : Bool) (e : Ending) (t : Lexeme) : Type 0 where
  pub level : LevelStops w 11 e t
  pub question : is_mark mark.QUESTION t.kind ≡ false
  pub assign : e ≡ Operand → is_assign_mark t.kind ≡ false

goes_not : (w : Bool) (e : Ending) (t : Lexeme) → IsShort e → continues_assign w e t ≡ false → GoesNot w e t
goes_not w Operand t h g =
    let a = neither_left (is_mark mark.DOT t.kind || is_mark mark.OPEN_BRACKET t.kind || is_mark mark.OPEN_PAREN t.kind || is_operator w t.kind || is_mark mark.QUESTION t.kind || is_assign_mark t.kind || (is_update t.kind && not t.after_line)) (is_mark mark.ARROW t.kind && not t.after_line) g in
    let update = neither_right (is_mark mark.DOT t.kind || is_mark mark.OPEN_BRACKET t.kind || is_mark mark.OPEN_PAREN t.kind || is_operator w t.kind || is_mark mark.QUESTION t.kind || is_assign_mark t.kind) (is_update t.kind && not t.after_line) a in
    let b = neither_left (is_mark mark.DOT t.kind || is_mark mark.OPEN_BRACKET t.kind || is_mark mark.OPEN_PAREN t.kind || is_operator w t.kind || is_mark mark.QUESTION t.kind || is_assign_mark t.kind) (is_update t.kind && not t.after_line) a in
    let assign = neither_right (is_mark mark.DOT t.kind || is_mark mark.OPEN_BRACKET t.kind || is_mark mark.OPEN_PAREN t.kind || is_operator w t.kind || is_mark mark.QUESTION t.kind) (is_assign_mark t.kind) b in
    let c = neither_left (is_mark mark.DOT t.kind || is_mark mark.OPEN_BRACKET t.kind || is_mark mark.OPEN_PAREN t.kind || is_operator w t.kind || is_mark mark.QUESTION t.kind) (is_assign_mark t.kind) b in
    let question = neither_right (is_mark mark.DOT t.kind || is_mark mark.OPEN_BRACKET t.kind || is_mark mark.OPEN_PAREN t.kind || is_operator w t.kind) (is_mark mark.QUESTION t.kind) c in
    let f = neither_left (is_mark mark.DOT t.kind || is_mark mark.OPEN_BRACKET t.kind || is_mark mark.OPEN_PAREN t.kind || is_operator w t.kind) (is_mark mark.QUESTION t.kind) c in
    let op = neither_right (is_mark mark.DOT t.kind || is_mark mark.OPEN_BRACKET t.kind || is_mark mark.OPEN_PAREN t.kind) (is_operator w t.kind) f in
    let p = neither_left (is_mark mark.DOT t.kind || is_mark mark.OPEN_BRACKET t.kind || is_mark mark.OPEN_PAREN t.kind) (is_operator w t.kind) f in
    let paren = neither_right (is_mark mark.DOT t.kind || is_mark mark.OPEN_BRACKET t.kind) (is_mark mark.OPEN_PAREN t.kind) p in
    let q = neither_left (is_mark mark.DOT t.kind || is_mark mark.OPEN_BRACKET t.kind) (is_mark mark.OPEN_PAREN t.kind) p in
    record {
      level = record {
        unary = record { tail = λ _. record { dot = neither_left (is_mark mark.DOT t.kind) (is_mark mark.OPEN_BRACKET t.kind) q; bracket = neither_right (is_mark mark.DOT t.kind) (is_mark mark.OPEN_BRACKET t.kind) q; paren = paren }; update = λ _. update };
        ops = λ k l. no_op w k t.kind (omega (arith, l)) op;
      };
      question = question;
      assign = λ _. assign;
    }
goes_not w Postfix t h g = record {
  level = record {
    unary = record { tail = λ e. absurd (postfix_operand e); update = λ e. absurd (postfix_operand e) };
    ops = λ k l. no_op w k t.kind (omega (arith, l)) (neither_left (is_operator w t.kind) (is_mark mark.QUESTION t.kind) g);
  };
  question = neither_right (is_operator w t.kind) (is_mark mark.QUESTION t.kind) g;
  assign = λ e. absurd (postfix_operand e);
}
goes_not w BracedArrow t h g = absurd h
goes_not w BareBinding t h g = absurd h
goes_not w Keyword t h g = absurd h
goes_not w DoWhile t h g = absurd h

chain_no : (b : Bool) → 18 < (if b then 2 else 4) → ⊥
chain_no true h = absurd (omega (arith, h))
chain_no false h = absurd (omega (arith, h))

new_no : (a : MaybeArgs) → 18 < new_rank a → ⊥
new_no tree.no_args h = absurd (omega (arith, h))
new_no (tree.some_args es comma) h = absurd (omega (arith, h))

module _ (limit : ℕ) (m : Mode) (d : ℕ) (low : d ≤ limit) (v : Env) (unary : ReadsUnary limit m d low v) where
  -- `??`

  lower : (w heads : Bool) (e : Expr) → rank e ≤ 15 → Proper m e → InIf w (free_of_in e) → Completes limit (print m.look d e) (LevelStops w 8 (ending e)) (parser.level_of v w 8 heads) e
  lower w heads e r h i = level_complete limit m d low v unary 8 (omega arith) w heads e r h i

  with_op : (w : Bool) (f : Expr) (os : Operands) → rank (binary_of f os) ≡ 18 → rank f ≤ 15 → ProperOperands m 11 os → InIf w (operands_free os) → {G : Lexeme → Type 0} → Leads (print_operands m.look d os) G (λ t. is_op w 11 t.kind ≡ true)
  with_op w f no_operands e r h i = absurd (omega (arith, e, r))
  with_op w f (more_operands op of_word value rest) e r h i = lead_at (λ t s. op_is w 11 op of_word t s.kind h.0 (in_first w (not (of_word && nat_eq op word.IN)) (free_of_in value && operands_free rest) i))

  short_turn : Bool → Expr → Parser Expr
  short_turn w e = peek (λ t. when (is_op w parser.coalesce_level t.kind) (parser.operands_from w parser.coalesce_level (parser.level_of v w parser.bit_or_level false) e) (parser.or_from v w e))

  coalesced : (w heads : Bool) (e : Expr) → rank e ≡ 18 → Proper m e → InIf w (free_of_in e) → Completes limit (print m.look d e) (LevelStops w 11 (ending e)) (parser.short_circuit v w heads) e
  unfolding parser.short_circuit
  coalesced w heads e r h i =
      let l = binary_level m w 11 e (binary_only e (omega (arith, r)) (omega (arith, r))) r h i in
      c_value l.same (c_pieces limit (binary_pieces m d l.first l.rest ∙ ap (print m.look d) l.same) (c_weaken limit (λ t g. subst (λ x. LevelStops w 11 x t) (sym (binary_ending l.first l.rest ∙ ap ending l.same)) g)
      (c_bind limit (λ x. peek (λ t. when (is_op w parser.coalesce_level t.kind) (parser.operands_from w parser.coalesce_level (parser.level_of v w parser.bit_or_level false) x) (parser.or_from v w x)))
      (lower w heads l.first l.rank_le l.proper l.in_if)
      (lead_map (λ t g. g) (behind w (ending l.first) l.rest l.operands))
      (c_when (λ t. is_op w parser.coalesce_level t.kind) (parser.or_from v w l.first) (with_op w l.first l.rest (ap rank l.same ∙ r) l.rank_le l.operands l.operands_in)
      (c_weaken limit (λ t g. (level_less w 8 11 (operands_ending (ending l.first) l.rest) t (omega arith) g, g.ops 11 (omega arith)))
      (from_complete limit m d low v w 10 (omega arith) 8 (omega arith) (parser.level_of v w 8 false) (λ x k. lower w false x k.0 k.1 k.2) (ending l.first) l.first l.rest l.operands l.operands_in))))))
    where
      behind : (w : Bool) (e : Ending) (os : Operands) → ProperOperands m 11 os → Leads (print_operands m.look d os) (LevelStops w 11 (operands_ending e os)) (LevelStops w 8 e)
      behind w e no_operands h = lead_map (λ t g. level_less w 8 11 e t (omega arith) g) lead_none
      behind w e (more_operands op of_word value rest) h = lead_at (λ t s. op_levels w 8 11 e t (op_at op of_word t s.kind ∙ h.0) (omega arith) (omega arith))

  -- `||` over `&&`

  operands_lead : (w : Bool) (n k j : ℕ) (e : Ending) (os : Operands) → n < 12 → k < n → k ≤ j → ProperOperands m n os → Leads (print_operands m.look d os) (LevelStops w j (operands_ending e os)) (LevelStops w k e)
  operands_lead w n k j e no_operands s l q h = lead_map (λ t g. level_less w k j e t q g) lead_none
  operands_lead w n k j e (more_operands op of_word value rest) s l q h = lead_at (λ t c. op_levels w k n e t (op_at op of_word t c.kind ∙ h.0) s l)

  no_coalesce : (w : Bool) (n : ℕ) (os : Operands) {G : Lexeme → Type 0} → n ≤ 10 → ProperOperands m n os → ((t : Lexeme) → G t → is_op w 11 t.kind ≡ false) → Leads (print_operands m.look d os) G (λ t. is_op w 11 t.kind ≡ false)
  no_coalesce w n no_operands s h g = lead_map g lead_none
  no_coalesce w n (more_operands op of_word value rest) s h g = lead_at (λ t c. other_level w t.kind 11 n (op_at op of_word t c.kind ∙ h.0) (λ e. absurd (omega (arith, e, s))))

  ors : (w heads : Bool) (e : Expr) → rank e ≤ 17 → Proper m e → InIf w (free_of_in e) → Completes limit (print m.look d e) (LevelStops w 11 (ending e)) (parser.short_circuit v w heads) e
  unfolding parser.short_circuit parser.or_from
  ors w heads e r h i =
      let a = levelled m w 9 e (omega arith) r h i in
      let b = levelled m w 8 a.first (omega arith) a.rank_le a.proper a.in_if in
      let inner : operands_ending (ending b.first) b.rest ≡ ending a.first = binary_ending b.first b.rest ∙ ap ending b.same in
      let outer : operands_ending (ending a.first) a.rest ≡ ending e = binary_ending a.first a.rest ∙ ap ending a.same in
      let ends : (t : Lexeme) → LevelStops w 11 (ending e) t → LevelStops w 11 (operands_ending (ending a.first) a.rest) t = λ t g. subst (λ x. LevelStops w 11 x t) (sym outer) g in
      let tens : Leads (print_operands m.look d a.rest) (LevelStops w 11 (ending e)) (LevelStops w 9 (operands_ending (ending b.first) b.rest)) = lead_map (λ t g. subst (λ x. LevelStops w 9 x t) (sym inner) g) (lead_from ends (operands_lead w 10 9 11 (ending a.first) a.rest (omega arith) (omega arith) (omega arith) a.operands)) in
      c_value a.same (c_pieces limit (sym (append_assoc (print m.look d b.first) (print_operands m.look d b.rest) (print_operands m.look d a.rest)) ∙ ap (λ x. x ++ print_operands m.look d a.rest) (binary_pieces m d b.first b.rest ∙ ap (print m.look d) b.same) ∙ binary_pieces m d a.first a.rest ∙ ap (print m.look d) a.same)
      (c_bind limit (λ x. peek (λ t. when (is_op w parser.coalesce_level t.kind) (parser.operands_from w parser.coalesce_level (parser.level_of v w parser.bit_or_level false) x) (parser.or_from v w x)))
      (lower w heads b.first b.rank_le b.proper b.in_if)
      (lead_append tens (operands_lead w 9 8 9 (ending b.first) b.rest (omega arith) (omega arith) (omega arith) b.operands))
      (c_else (λ t. is_op w parser.coalesce_level t.kind) (parser.operands_from w parser.coalesce_level (parser.level_of v w parser.bit_or_level false) b.first)
      (lead_append (no_coalesce w 10 a.rest (omega arith) a.operands (λ t g. g.ops 11 (omega arith))) (no_coalesce w 9 b.rest (omega arith) b.operands (λ t g. g)))
      (c_bind limit (parser.operands_from w parser.or_level (parser.level_of v w parser.and_level false))
      (c_value b.same (from_complete limit m d low v w 8 (omega arith) 8 (omega arith) (parser.level_of v w 8 false) (λ x k. lower w false x k.0 k.1 k.2) (ending b.first) b.first b.rest b.operands b.operands_in))
      (lead_map (λ t g. (level_less w 8 9 (operands_ending (ending b.first) b.rest) t (omega arith) g, g.ops 9 (omega arith))) tens)
      (c_weaken limit (λ t g. let k = ends t g in (level_less w 9 11 (operands_ending (ending a.first) a.rest) t (omega arith) k, k.ops 10 (omega arith)))
      (from_complete limit m d low v w 9 (omega arith) 9 (omega arith) (parser.level_of v w 9 false) (λ x k. level_complete limit m d low v unary 9 (omega arith) w false x k.0 k.1 k.2) (ending a.first) a.first a.rest a.operands a.operands_in))))))
    where
      lead_from : {qs : List Piece} {G H F : Lexeme → Type 0} → ((t : Lexeme) → H t → G t) → Leads qs G F → Leads qs H F
      lead_from f l = record { by = λ u n h g. l.by u n h (f n g) }

  pub short_complete : (w heads : Bool) (e : Expr) → rank e ≤ 18 → Proper m e → InIf w (free_of_in e) → Completes limit (print m.look d e) (LevelStops w 11 (ending e)) (parser.short_circuit v w heads) e
  short_complete w heads e r h i = by (nat_le (rank e) 17) refl
    where
      by : (b : Bool) → nat_le (rank e) 17 ≡ b → Completes limit (print m.look d e) (LevelStops w 11 (ending e)) (parser.short_circuit v w heads) e
      by true q = ors w heads e (leb-true (rank e) 17 q) h i
      by false q = coalesced w heads e (omega (arith, r, above (rank e) 17 q)) h i

  -- conditionals

  abbrev pub CondStops : Bool → Ending → Lexeme → Type 0
  CondStops w e t = LevelStops w 11 e t × (is_mark mark.QUESTION t.kind ≡ false)

  tail_stops : (w : Bool) (e : Expr) (rest : List Lexeme) → is_mark mark.QUESTION (head_of rest).kind ≡ false → bare (parser.cond_tail v w e rest) ≡ Read e [] rest
  unfolding parser.cond_tail
  tail_stops w e rest h = ap (λ b. bare (when b (step (parser.branches_of v w e)) (ret e) rest)) h

  tail_at : (w : Bool) (e : Expr) (t : Lexeme) (ts : List Lexeme) → t.kind ≡ kind.Mark mark.QUESTION → parser.cond_tail v w e (t ∷ ts) ≡ parser.branches_of v w e ts
  unfolding parser.cond_tail
  tail_at w e t ts h = ap (λ k. when (is_mark mark.QUESTION k) (step (parser.branches_of v w e)) (ret e) (t ∷ ts)) h

  pub cond_short : (w heads : Bool) (e : Expr) → rank e ≤ 18 → Proper m e → InIf w (free_of_in e) → Completes limit (print m.look d e) (CondStops w (ending e)) (parser.cond_of v w heads) e
  unfolding parser.cond_of
  cond_short w heads e r h i = c_pieces limit (append-nil (print m.look d e)) (c_bind limit (parser.cond_tail v w) (short_complete w heads e r h i) (lead_map (λ t g. g.0) lead_none) (c_look limit (λ rest g. tail_stops w e rest g.1)))

  question_stops : (w : Bool) (e : Ending) (t : Lexeme) → t.kind ≡ kind.Mark mark.QUESTION → LevelStops w 11 e t
  question_stops w e t h = record {
    unary = record { tail = λ _. record { dot = ap (is_mark mark.DOT) h; bracket = ap (is_mark mark.OPEN_BRACKET) h; paren = ap (is_mark mark.OPEN_PAREN) h }; update = λ _. ap (λ k. is_update k && not t.after_line) h };
    ops = λ k l. other_level w t.kind k 12 (ap kind_level h) (λ q. absurd (omega (arith, q, l)));
  }

  module _ (c : CompleteEnv limit m d v) where
    branches_complete : (w : Bool) (e a b : Expr) → rank a ≤ 20 → Proper m a → rank b ≤ 20 → Proper m b → InIf w (free_of_in b) → Completes limit (print m.look (suc d) a ++ (mark_piece mark.COLON d ∷ print m.look (suc d) b)) (λ t. continues_assign w (ending b) t ≡ false) (parser.branches_of v w e) (tree.Cond e a b)
    unfolding parser.branches_of
    branches_complete w e a b ra ha rb hb i =
        c_bind limit (λ y. bind (expect mark.COLON) (λ _. bind (v.sub (AnAssign w)) (λ n. ret (tree.Cond e y n)))) (c.calls.assign true a ra ha refl) (lead_at (λ t s. stop_assign true (ending a) t (stop_colon true (ending a) t s.kind)))
        (c_bind limit (λ _. bind (v.sub (AnAssign w)) (λ n. ret (tree.Cond e a n))) (c_mark limit mark.COLON d low refl) lead_any (c_made limit (λ n. tree.Cond e a n) (c.calls.assign w b rb hb i)))

    in_one : (w a b : Bool) → (w || (a && b)) ≡ true → ((w || a) ≡ true) × ((w || b) ≡ true)
    in_one w a b h = (in_first w a b h, in_rest w a b h)

    pub cond_complete : (w heads : Bool) (e a b : Expr) → Proper m (tree.Cond e a b) → InIf w (free_of_in (tree.Cond e a b)) → Completes limit (print m.look d (tree.Cond e a b)) (λ t. continues_assign w (ending b) t ≡ false) (parser.cond_of v w heads) (tree.Cond e a b)
    unfolding parser.cond_of
    cond_complete w heads e a b h i =
        let j = in_one w (free_of_in e) (free_of_in b) i in
        c_bind limit (parser.cond_tail v w) (short_complete w heads e h.0 h.1 j.0) (lead_at (λ t s. question_stops w (ending e) t s.kind))
        (c_at limit (λ t. parser.branches_of v w e) low (λ t ts s. tail_at w e t ts s.kind) (λ t s. branches_complete w e a b h.2 h.3 h.4 h.5 j.1))

    -- assignments

    abbrev Takes : Expr → Lexeme → Bool
    Takes e t = is_assign_mark t.kind && nat_le (rank e) 4

    assign_stops : (w : Bool) (e : Expr) (rest : List Lexeme) → Takes e (head_of rest) ≡ false → bare (parser.assign_tail v w e rest) ≡ Read e [] rest
    unfolding parser.assign_tail
    assign_stops w e rest h = ap (λ b. bare (when b (step (bind (v.sub (AnAssign w)) (λ x. ret (tree.Assign (mark_of (head_of rest).kind) e x)))) (ret e) rest)) h

    assign_at : (w : Bool) (e : Expr) (t : Lexeme) (ts : List Lexeme) → Takes e t ≡ true → parser.assign_tail v w e (t ∷ ts) ≡ bind (v.sub (AnAssign w)) (λ x. ret (tree.Assign (mark_of t.kind) e x)) ts
    unfolding parser.assign_tail
    assign_at w e t ts h = ap (λ b. when b (step (bind (v.sub (AnAssign w)) (λ x. ret (tree.Assign (mark_of t.kind) e x)))) (ret e) (t ∷ ts)) h

    -- what is after a conditional

    and_no : (a b : Bool) → b ≡ false → (a && b) ≡ false
    and_no true b h = h
    and_no false b h = refl

    plain_cond : (w : Bool) (e a b : Expr) → Proper m (tree.Cond e a b) → InIf w (free_of_in (tree.Cond e a b)) → Completes limit (print m.look d (tree.Cond e a b)) (λ t. continues_assign w (ending b) t ≡ false) (parser.plain_of v w) (tree.Cond e a b)
    unfolding parser.plain_of
    plain_cond w e a b h i = c_pieces limit (append-nil (print m.look d (tree.Cond e a b))) (c_bind limit (parser.assign_tail v w) (cond_complete w true e a b h i) (lead_map (λ t g. g) lead_none) (c_look limit (λ rest g. assign_stops w (tree.Cond e a b) rest (and_no (is_assign_mark (head_of rest).kind) false refl))))

    -- assignment marks are no operators

    abbrev high : ℕ
    high = 35

    if_false : (x : ℕ) {y : ℕ} (b : Bool) → b ≡ false → (if b then x else y) ≡ y
    if_false x true h = absurd (true_false h)
    if_false x false h = refl

    no_between : (lo hi i : ℕ) → hi < i → between lo hi i ≡ false
    no_between lo hi i h = and_no (nat_le lo i) (nat_le i hi) (refuted (nat_le i hi) (λ e. absurd (omega (arith, h, leb-true i hi e))))

    no_equal : (i j : ℕ) → j < i → nat_eq i j ≡ false
    no_equal i j h = ne_eqb i j (λ e. absurd (omega (arith, e, h)))

    no_level_high : (i : ℕ) → high ≤ i → mark_level i ≡ 12
    no_level_high i h =
        if_false 0 (nat_eq i mark.POWER) (no_equal i mark.POWER (omega (arith, h)))
        ∙ if_false 1 (between mark.TIMES mark.REMAINDER i) (no_between mark.TIMES mark.REMAINDER i (omega (arith, h)))
        ∙ if_false 2 (between mark.PLUS mark.MINUS i) (no_between mark.PLUS mark.MINUS i (omega (arith, h)))
        ∙ if_false 3 (between mark.LEFT_SHIFT mark.UNSIGNED_RIGHT_SHIFT i) (no_between mark.LEFT_SHIFT mark.UNSIGNED_RIGHT_SHIFT i (omega (arith, h)))
        ∙ if_false 4 (between mark.LESS mark.GREATER_EQUAL i) (no_between mark.LESS mark.GREATER_EQUAL i (omega (arith, h)))
        ∙ if_false 5 (between mark.EQUAL mark.STRICT_NOT_EQUAL i) (no_between mark.EQUAL mark.STRICT_NOT_EQUAL i (omega (arith, h)))
        ∙ if_false 6 (nat_eq i mark.BIT_AND) (no_equal i mark.BIT_AND (omega (arith, h)))
        ∙ if_false 7 (nat_eq i mark.BIT_XOR) (no_equal i mark.BIT_XOR (omega (arith, h)))
        ∙ if_false 8 (nat_eq i mark.BIT_OR) (no_equal i mark.BIT_OR (omega (arith, h)))
        ∙ if_false 9 (nat_eq i mark.AND) (no_equal i mark.AND (omega (arith, h)))
        ∙ if_false 10 (nat_eq i mark.OR) (no_equal i mark.OR (omega (arith, h)))
        ∙ if_false 11 (nat_eq i mark.COALESCE) (no_equal i mark.COALESCE (omega (arith, h)))

    mark_stops : (w : Bool) (e : Ending) (op : ℕ) (t : Lexeme) → is_assign_op op ≡ true → t.kind ≡ kind.Mark op → CondStops w e t
    mark_stops w e op t a h =
        let from : 37 ≤ op = leb-true 37 op (and_left (nat_le 37 op) (nat_le op 49) a) in
        let upto : op ≤ 49 = leb-true op 49 (and_right (nat_le 37 op) (nat_le op 49) a) in (
          record {
            unary = record {
              tail = λ _. record {
                dot = ap (is_mark mark.DOT) h ∙ ne_eqb op mark.DOT (λ q. absurd (omega (arith, q, upto)));
                bracket = ap (is_mark mark.OPEN_BRACKET) h ∙ ne_eqb op mark.OPEN_BRACKET (λ q. absurd (omega (arith, q, from)));
                paren = ap (is_mark mark.OPEN_PAREN) h ∙ ne_eqb op mark.OPEN_PAREN (λ q. absurd (omega (arith, q, from)));
              };
              update = λ _. ap (λ k. is_update k && not t.after_line) h ∙ ap (λ b. b && not t.after_line) (no_between mark.INCREMENT mark.DECREMENT op (omega (arith, from)));
            };
            ops = λ k l. other_level w t.kind k 12 (ap kind_level h ∙ no_level_high op (omega (arith, from))) (λ q. absurd (omega (arith, q, l)));
          },
          ap (is_mark mark.QUESTION) h ∙ ne_eqb op mark.QUESTION (λ q. absurd (omega (arith, q, from))),
        )

    plain_assign : (w : Bool) (op : ℕ) (target value : Expr) → Proper m (tree.Assign op target value) → InIf w (free_of_in (tree.Assign op target value)) → Completes limit (print m.look d (tree.Assign op target value)) (λ t. continues_assign w (ending value) t ≡ false) (parser.plain_of v w) (tree.Assign op target value)
    unfolding parser.plain_of
    plain_assign w op target value h i =
        let j = in_one w (free_of_in target) (free_of_in value) i in
        c_bind limit (parser.assign_tail v w) (cond_short w true target (omega (arith, h.1)) h.2 j.0) (lead_at (λ t s. mark_stops w (ending target) op t h.0 s.kind))
        (c_at limit (λ t. bind (v.sub (AnAssign w)) (λ x. ret (tree.Assign (mark_of t.kind) target x))) low
        (λ t ts s. assign_at w target t ts (ap (λ k. is_assign_mark k && nat_le (rank target) 4) s.kind ∙ ap (λ b. b && nat_le (rank target) 4) h.0 ∙ le-leb (rank target) 4 h.1))
        (λ t s. c_value (ap (λ k. tree.Assign (mark_of k) target value) s.kind) (c_made limit (λ x. tree.Assign (mark_of t.kind) target x) (c.calls.assign w value h.3 h.4 j.1))))

    plain_short : (w : Bool) (e : Expr) → rank e ≤ 18 → Proper m e → InIf w (free_of_in e) → Completes limit (print m.look d e) (λ t. continues_assign w (ending e) t ≡ false) (parser.plain_of v w) e
    unfolding parser.plain_of
    plain_short w e r h i = c_pieces limit (append-nil (print m.look d e)) (c_bind limit (parser.assign_tail v w) (cond_short w true e r h i)
        (lead_map (λ t g. let k = goes_not w (ending e) t (short_ending m e r h) g in (k.level, k.question)) lead_none)
        (c_look limit (λ rest g. assign_stops w e rest (takes_not rest (goes_not w (ending e) (head_of rest) (short_ending m e r h) g) (nat_le (rank e) 4) refl))))
      where
        takes_not : (rest : List Lexeme) → GoesNot w (ending e) (head_of rest) → (b : Bool) → nat_le (rank e) 4 ≡ b → Takes e (head_of rest) ≡ false
        takes_not rest k true q = and_none (is_assign_mark (head_of rest).kind) (nat_le (rank e) 4) (k.assign (left_ending e (leb-true (rank e) 4 q)))
        takes_not rest k false q = and_no (is_assign_mark (head_of rest).kind) (nat_le (rank e) 4) q

    -- an AssignmentExpression that is no arrow
    pub plain_complete : (w : Bool) (e : Expr) → rank e ≤ 20 → (IsArrow e → ⊥) → Proper m e → InIf w (free_of_in e) → Completes limit (print m.look d e) (λ t. continues_assign w (ending e) t ≡ false) (parser.plain_of v w) e
    plain_complete w e r n h i = by (nat_le (rank e) 18) refl
      where
        func_no : (at : ℕ) (f : Function) → (IsArrow (tree.Func at f) → ⊥) → function_rank f ≤ 18
        func_no at (function g start end name ps comma bare body) k = none (is_arrow_form g) refl
          where
            none : (b : Bool) → is_arrow_form g ≡ b → (if is_arrow_form g then 20 else 0) ≤ 18
            none true q = absurd (k q)
            none false q = subst (λ x. (if x then 20 else 0) ≤ 18) (sym q) (omega arith)

        loose : (e : Expr) → rank e ≤ 20 → (IsArrow e → ⊥) → Proper m e → InIf w (free_of_in e) → 18 < rank e → Completes limit (print m.look d e) (λ t. continues_assign w (ending e) t ≡ false) (parser.plain_of v w) e
        loose (tree.Cond test a b) r n h i k = plain_cond w test a b h i
        loose (tree.Assign op target value) r n h i k = plain_assign w op target value h i
        loose (tree.Func at f) r n h i k = absurd (omega (arith, k, func_no at f n))
        loose (tree.Comma es) r n h i k = absurd (omega (arith, r))
        loose (tree.Binary first rest) r n h i k = absurd (omega (arith, k, h.1))
        loose (tree.Chain head tails) r n h i k = absurd (chain_no (are_member_tails tails) k)
        loose (tree.New at callee args) r n h i k = absurd (new_no args k)
        loose (tree.This at) r n h i k = absurd (omega (arith, k))
        loose (tree.Name name) r n h i k = absurd (omega (arith, k))
        loose (tree.Null at) r n h i k = absurd (omega (arith, k))
        loose (tree.True at) r n h i k = absurd (omega (arith, k))
        loose (tree.False at) r n h i k = absurd (omega (arith, k))
        loose (tree.Number at value) r n h i k = absurd (omega (arith, k))
        loose (tree.Str at end x) r n h i k = absurd (omega (arith, k))
        loose (tree.Template at first parts) r n h i k = absurd (omega (arith, k))
        loose (tree.Array at is comma) r n h i k = absurd (omega (arith, k))
        loose (tree.Object at ps comma) r n h i k = absurd (omega (arith, k))
        loose (tree.Paren at inner) r n h i k = absurd (omega (arith, k))
        loose (tree.Unary at op of of_word) r n h i k = absurd (omega (arith, k))
        loose (tree.Update at op prefix of) r n h i k = absurd (omega (arith, k))

        by : (b : Bool) → nat_le (rank e) 18 ≡ b → Completes limit (print m.look d e) (λ t. continues_assign w (ending e) t ≡ false) (parser.plain_of v w) e
        by true q = plain_short w e (leb-true (rank e) 18 q) h i
        by false q = loose e r n h i (above (rank e) 18 q)
