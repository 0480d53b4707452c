-- Completeness of binary operators: from the UnaryExpressions up to a ShortCircuitExpression.
use Rattle.std.proofs.Common.{◌≡◌, ℕ, zero, suc, ◌+◌, ◌≤◌, ◌<◌, List, [], ◌∷◌, ◌++◌, length, refl, sym, ap, ◌∙◌, subst, arith, append_assoc, append-nil, Bool, true, false, ◌&&◌, ◌||◌, not, nat_le, nat_eq, Option, Some, None, if◌then◌else◌, ◌⊎◌, inl, inr}
use Rattle.std.proofs.lemmas.Bool.{leb-true, leb-false, eqb-true, eqb-false, eq-eqb, ne_eqb, le-leb}
use Rattle.script_grammar.specs.declared.token.Kind.{Kind}
use Rattle.script_grammar.specs.declared.token.Kind.TheVariants as kind
use Rattle.script_grammar.specs.declared.token.mark.TheConstants as mark
use Rattle.script_grammar.specs.declared.token.word.TheConstants as word
use Rattle.script_grammar.specs.Lexeme.{Lexeme}
use Rattle.script_grammar.specs.Kinds.{is_mark, is_word, is_update, kind_level, mark_level, op_level, op_kind, is_arrow_form, between}
use Rattle.script_grammar.specs.Tree.{Expr, Operands, no_operands, more_operands, MaybeArgs, Function, function}
use Rattle.script_grammar.specs.Tree as tree
use Rattle.script_grammar.specs.TreeLists.{Operand, operands_of}
use Rattle.script_grammar.specs.Pieces.{Piece, Ending}
use Rattle.script_grammar.specs.Endings.{ending, operands_ending}
use Rattle.script_grammar.specs.Print.{print, print_operands, operator_piece}
use Rattle.script_grammar.specs.Proper.{rank, HasOperands, operand_rank, first_rank, level_rank, free_of_in, operands_free, InIf, are_member_tails, function_rank, new_rank}
use Rattle.grammar_parser_specs.specs.Parser.{Read, Parser, head_of, ret, bind, peek, step, when, Turn, Again, Stop, loop}
use Rattle.grammar_parser_specs.specs.Exprs as parser
use Rattle.grammar_parser_specs.specs.Exprs.{Env, mark_of, is_word_kind, operand, binary_case, is_op, is_update_expr}
use Rattle.grammar_parser_laws.proofs.Friendly.{first_of}
use Rattle.grammar_parser_laws.proofs.Fitting.{head_first}
use Rattle.grammar_parser_laws.proofs.Tests.{true_false, bool_cases, and_left, and_right, and_both, mark_known}
use Rattle.grammar_parser_laws.proofs.Stands.{Marked, lexemes, Stands, stands_split, lexemes_append}
use Rattle.grammar_parser_laws.proofs.Complete.{Parses, bare, AllK, flat}
use Rattle.grammar_complete_laws.proofs.Completes.{Completes, Leads, lead_none, lead_at, lead_map, c_ret, c_bind, c_made, c_at, c_look, c_weaken, c_pieces}
use Rattle.grammar_complete_laws.proofs.CompleteLoops.{c_loop, LastLeads}
use Rattle.grammar_complete_laws.proofs.CompleteStmts.{c_value}
use Rattle.grammar_complete_laws.proofs.CompleteParts.{UnaryStops}
use Rattle.grammar_parser_laws.proofs.ProperIn.{Mode, Proper, ProperOperands}

-- a choice by the first lexeme

pub c_when : {limit : ℕ} {A : Type 0} {ps : List Piece} {G : Lexeme → Type 0} (test : Lexeme → Bool) {f : Parser A} (g : Parser A) {a : A} → Leads ps G (λ t. test t ≡ true) → Completes limit ps G f a → Completes limit ps G (peek (λ t. when (test t) f g)) a
c_when {limit = limit} {ps = ps} {G = G} test {f = f} g {a = a} l c = record { at = chosen }
  where
    chosen : (w : List Marked) (rest : List Lexeme) → Stands ps w (head_of rest) → G (head_of rest) → Parses limit (peek (λ t. when (test t) f g)) w rest a
    chosen w rest h k = record { by = ap (λ b. bare (when b f g (lexemes w ++ rest))) (subst (λ y. test y ≡ true) (sym (head_first (lexemes w) rest)) (l.by w (head_of rest) h k)) ∙ (c.at w rest h k).by }

pub c_else : {limit : ℕ} {A : Type 0} {ps : List Piece} {G : Lexeme → Type 0} (test : Lexeme → Bool) (f : Parser A) {g : Parser A} {a : A} → Leads ps G (λ t. test t ≡ false) → Completes limit ps G g a → Completes limit ps G (peek (λ t. when (test t) f g)) a
c_else {limit = limit} {ps = ps} {G = G} test f {g = g} {a = a} l c = record { at = chosen }
  where
    chosen : (w : List Marked) (rest : List Lexeme) → Stands ps w (head_of rest) → G (head_of rest) → Parses limit (peek (λ t. when (test t) f g)) w rest a
    chosen w rest h k = record { by = ap (λ b. bare (when b f g (lexemes w ++ rest))) (subst (λ y. test y ≡ false) (sym (head_first (lexemes w) rest)) (l.by w (head_of rest) h k)) ∙ (c.at w rest h k).by }

-- what follows two parts
pub lead_append : {ps qs : List Piece} {G F H : Lexeme → Type 0} → Leads qs G F → Leads ps F H → Leads (ps ++ qs) G H
lead_append {ps = ps} {qs = qs} {G = G} {F = F} {H = H} l k = record { by = through }
  where
    first_two : (a c : List Lexeme) (n : Lexeme) → first_of (a ++ c) n ≡ first_of a (first_of c n)
    first_two [] c n = refl
    first_two (t ∷ a) c n = refl

    through : (v : List Marked) (n : Lexeme) → Stands (ps ++ qs) v n → G n → H (first_of (lexemes v) n)
    through v n h g =
        let p = stands_split ps qs v n h in
        subst H (sym (ap (λ y. first_of (lexemes y) n) p.split ∙ ap (λ y. first_of y n) (lexemes_append p.front p.back) ∙ first_two (lexemes p.front) (lexemes p.back) n)) (k.by p.front (first_of (lexemes p.back) n) p.first (l.by p.back n p.second g))

-- A token that is a binary operator is no other.

abbrev pub refuted : (b : Bool) → (b ≡ true → ⊥) → b ≡ false
refuted true h = absurd (h refl)
refuted false h = refl

op_no_mark : (i : ℕ) → mark_level i ≡ 12 → (k : Kind) → kind_level k < 12 → is_mark i k ≡ false
op_no_mark i e k l = refuted (is_mark i k) (λ h. omega (arith, l, ap kind_level (mark_known i k h) ∙ e))

update_cases : (i : ℕ) → 22 ≤ i → i ≤ 23 → mark_level i ≡ 12
update_cases i h k = by (nat_eq i 22) refl
  where
    by : (b : Bool) → nat_eq i 22 ≡ b → mark_level i ≡ 12
    by true e = ap mark_level (eqb-true i 22 e)
    by false e = let other : i ≡ 23 = omega (arith, h, k, eqb-false i 22 e) in ap mark_level other

op_no_update : (k : Kind) → kind_level k < 12 → is_update k ≡ false
op_no_update (kind.Mark i) l = refuted (is_update (kind.Mark i)) (λ h. omega (arith, l, update_cases i (leb-true 22 i (and_left (nat_le 22 i) (nat_le i 23) h)) (leb-true i 23 (and_right (nat_le 22 i) (nat_le i 23) h))))
op_no_update (kind.Word i) l = refl
op_no_update kind.Name l = refl
op_no_update kind.Number l = refl
op_no_update kind.Str l = refl
op_no_update kind.TemplateWhole l = refl
op_no_update kind.TemplateHead l = refl
op_no_update kind.TemplateMiddle l = refl
op_no_update kind.TemplateTail l = refl
op_no_update kind.Bad l = refl
op_no_update kind.End l = refl

pub op_stops : (e : Ending) (t : Lexeme) → kind_level t.kind < 12 → UnaryStops e t
op_stops e t l = record {
  tail = λ _. record { dot = op_no_mark mark.DOT refl t.kind l; bracket = op_no_mark mark.OPEN_BRACKET refl t.kind l; paren = op_no_mark mark.OPEN_PAREN refl t.kind l };
  update = λ _. ap (λ b. b && not t.after_line) (op_no_update t.kind l);
}

-- what goes on with no operators of the levels up to n, and no UnaryExpression
pub record LevelStops (w : Bool) (n : ℕ) (e : Ending) (t : Lexeme) : Type 0 where
  pub unary : UnaryStops e t
  pub ops : (k : ℕ) → k ≤ n → is_op w k t.kind ≡ false

pub level_less : (w : Bool) (n k : ℕ) (e : Ending) (t : Lexeme) → n ≤ k → LevelStops w k e t → LevelStops w n e t
level_less w n k e t l h = record { unary = h.unary; ops = λ i le. h.ops i (omega (arith, l, le)) }

pub other_level : (w : Bool) (k : Kind) (i n : ℕ) → kind_level k ≡ n → (i ≡ n → ⊥) → is_op w i k ≡ false
other_level w k i n e d = ap (λ b. b && (w || not (is_word word.IN k))) (ne_eqb (kind_level k) i (λ q. d (sym q ∙ e)))

pub op_levels : (w : Bool) (n k : ℕ) (e : Ending) (t : Lexeme) → kind_level t.kind ≡ k → k < 12 → n < k → LevelStops w n e t
op_levels w n k e t h l q = record { unary = op_stops e t (omega (arith, h, l)); ops = λ i le. other_level w t.kind i k h (λ same. omega (arith, same, le, q)) }

op_of : (op : ℕ) (is_word : Bool) → kind_level (op_kind op is_word) ≡ op_level op is_word
op_of op true = refl
op_of op false = refl

pub op_at : (op : ℕ) (is_word : Bool) (t : Lexeme) → t.kind ≡ op_kind op is_word → kind_level t.kind ≡ op_level op is_word
op_at op is_word t e = ap kind_level e ∙ op_of op is_word

op_same : (op : ℕ) (is_word : Bool) (t : Lexeme) (x : Expr) → t.kind ≡ op_kind op is_word → operand t x ≡ record { op = op; is_word = is_word; value = x }
op_same op true t x e = ap (λ k. record { op = mark_of k; is_word = is_word_kind k; value = x }) e
op_same op false t x e = ap (λ k. record { op = mark_of k; is_word = is_word_kind k; value = x }) e

pub op_is : (w : Bool) (n op : ℕ) (of_word : Bool) (t : Lexeme) → t.kind ≡ op_kind op of_word → op_level op of_word ≡ n → (w || not (of_word && nat_eq op word.IN)) ≡ true → is_op w n t.kind ≡ true
op_is w n op true t e l i = and_both (nat_eq (kind_level t.kind) n) (w || not (is_word word.IN t.kind)) (eq-eqb (kind_level t.kind) n (op_at op true t e ∙ l)) (ap (λ k. w || not (is_word word.IN k)) e ∙ i)
op_is w n op false t e l i = and_both (nat_eq (kind_level t.kind) n) (w || not (is_word word.IN t.kind)) (eq-eqb (kind_level t.kind) n (op_at op false t e ∙ l)) (ap (λ k. w || not (is_word word.IN k)) e ∙ i)

-- An expression of a level: its first operand, and the further ones, if it has any.

abbrev pub binary_of : Expr → Operands → Expr
binary_of e no_operands = e
binary_of e (more_operands op is_word value rest) = tree.Binary e (more_operands op is_word value rest)

abbrev pub operand_list : Operands → List Operand
operand_list no_operands = []
operand_list (more_operands op is_word value rest) = record { op = op; is_word = is_word; value = value } ∷ operand_list rest

pub of_operands : (os : Operands) → operands_of (operand_list os) ≡ os
of_operands no_operands = refl
of_operands (more_operands op is_word value rest) = ap (more_operands op is_word value) (of_operands rest)

pub binary_same : (e : Expr) (os : Operands) → binary_case e (operand_list os) ≡ binary_of e os
binary_same e no_operands = refl
binary_same e (more_operands op is_word value rest) = ap (λ x. tree.Binary e (more_operands op is_word value x)) (of_operands rest)

pub binary_pieces : (m : Mode) (d : ℕ) (e : Expr) (os : Operands) → print m.look d e ++ print_operands m.look d os ≡ print m.look d (binary_of e os)
binary_pieces m d e no_operands = append-nil (print m.look d e)
binary_pieces m d e (more_operands op is_word value rest) = refl

pub binary_ending : (e : Expr) (os : Operands) → operands_ending (ending e) os ≡ ending (binary_of e os)
binary_ending e no_operands = refl
binary_ending e (more_operands op is_word value rest) = refl

abbrev pub IsBinary : Expr → Type 0
IsBinary (tree.Binary first rest) = Unit {0}
IsBinary _ = ⊥

if_between : (b : Bool) (x y : ℕ) → 7 ≤ (if b then x else y) → (if b then x else y) ≤ 18 → (7 ≤ x → x ≤ 18 → ⊥) → (7 ≤ y → y ≤ 18 → ⊥) → ⊥
if_between true x y h k f g = f h k
if_between false x y h k f g = g h k

func_rank : (f : Function) → 7 ≤ function_rank f → function_rank f ≤ 18 → ⊥
func_rank (function g start end name ps comma bare body) h k = if_between (is_arrow_form g) 20 0 h k (λ a b. absurd (omega (arith, b))) (λ a b. absurd (omega (arith, a)))

chain_rank : (b : Bool) → 7 ≤ (if b then 2 else 4) → ⊥
chain_rank true h = absurd (omega (arith, h))
chain_rank false h = absurd (omega (arith, h))

new_small : (a : MaybeArgs) → 7 ≤ new_rank a → ⊥
new_small tree.no_args h = absurd (omega (arith, h))
new_small (tree.some_args es comma) h = absurd (omega (arith, h))

pub binary_only : (e : Expr) → 7 ≤ rank e → rank e ≤ 18 → IsBinary e
binary_only (tree.This at) h k = absurd (omega (arith, h))
binary_only (tree.Name name) h k = absurd (omega (arith, h))
binary_only (tree.Null at) h k = absurd (omega (arith, h))
binary_only (tree.True at) h k = absurd (omega (arith, h))
binary_only (tree.False at) h k = absurd (omega (arith, h))
binary_only (tree.Number at value) h k = absurd (omega (arith, h))
binary_only (tree.Str at end w) h k = absurd (omega (arith, h))
binary_only (tree.Template at first parts) h k = absurd (omega (arith, h))
binary_only (tree.Array at is comma) h k = absurd (omega (arith, h))
binary_only (tree.Object at ps comma) h k = absurd (omega (arith, h))
binary_only (tree.Func at f) h k = absurd (func_rank f h k)
binary_only (tree.Paren at inner) h k = absurd (omega (arith, h))
binary_only (tree.Chain head tails) h k = absurd (chain_rank (are_member_tails tails) h)
binary_only (tree.New at callee args) h k = absurd (new_small args h)
binary_only (tree.Unary at op of is_word) h k = absurd (omega (arith, h))
binary_only (tree.Update at op prefix of) h k = absurd (omega (arith, h))
binary_only (tree.Binary first rest) h k = tt
binary_only (tree.Cond test then_value else_value) h k = absurd (omega (arith, k))
binary_only (tree.Assign op target value) h k = absurd (omega (arith, k))
binary_only (tree.Comma es) h k = absurd (omega (arith, k))

pub above : (a b : ℕ) → nat_le a b ≡ false → b < a
above a b h = omega (arith, leb-false a b h)

operand_low : (n : ℕ) → n ≤ 10 → operand_rank n ≡ 6 + n
operand_low n h = ap (λ b. if b then 15 else 6 + n) (ne_eqb n 11 (λ e. absurd (omega (arith, h, e))))

pub record Levelled (m : Mode) (w : Bool) (n : ℕ) (e : Expr) : Type 0 where
  pub first : Expr
  pub rest : Operands
  pub same : binary_of first rest ≡ e
  pub rank_le : rank first ≤ first_rank n
  pub proper : Proper m first
  pub in_if : InIf w (free_of_in first)
  pub operands : ProperOperands m n rest
  pub operands_in : InIf w (operands_free rest)

pub in_first : (w a b : Bool) → (w || (a && b)) ≡ true → (w || a) ≡ true
in_first true a b h = refl
in_first false a b h = and_left a b h

pub in_rest : (w a b : Bool) → (w || (a && b)) ≡ true → (w || b) ≡ true
in_rest true a b h = refl
in_rest false a b h = and_right a b h

in_none : (w : Bool) → InIf w true
in_none true = refl
in_none false = refl

alone : (m : Mode) (w : Bool) (n : ℕ) (e : Expr) → rank e ≤ first_rank n → Proper m e → InIf w (free_of_in e) → Levelled m w n e
alone m w n e r h i = record { first = e; rest = no_operands; same = refl; rank_le = r; proper = h; in_if = i; operands = tt; operands_in = in_none w }

pub binary_level : (m : Mode) (w : Bool) (n : ℕ) (e : Expr) → IsBinary e → rank e ≡ level_rank n → Proper m e → InIf w (free_of_in e) → Levelled m w n e
binary_level m w n (tree.Binary first no_operands) b r h i = absurd h.0
binary_level m w n (tree.Binary first (more_operands op is_word value rest)) b r h i =
    let same : op_level op is_word ≡ n = omega (arith, r) in
    record {
      first = first;
      rest = more_operands op is_word value rest;
      same = refl;
      rank_le = subst (λ x. rank first ≤ first_rank x) same h.2;
      proper = h.3;
      in_if = in_first w (free_of_in first) (operands_free (more_operands op is_word value rest)) i;
      operands = subst (λ x. ProperOperands m x (more_operands op is_word value rest)) same h.4;
      operands_in = in_rest w (free_of_in first) (operands_free (more_operands op is_word value rest)) i;
    }
binary_level m w n (tree.This at) b r h i = absurd b
binary_level m w n (tree.Name name) b r h i = absurd b
binary_level m w n (tree.Null at) b r h i = absurd b
binary_level m w n (tree.True at) b r h i = absurd b
binary_level m w n (tree.False at) b r h i = absurd b
binary_level m w n (tree.Number at value) b r h i = absurd b
binary_level m w n (tree.Str at end x) b r h i = absurd b
binary_level m w n (tree.Template at first parts) b r h i = absurd b
binary_level m w n (tree.Array at is comma) b r h i = absurd b
binary_level m w n (tree.Object at ps comma) b r h i = absurd b
binary_level m w n (tree.Func at f) b r h i = absurd b
binary_level m w n (tree.Paren at inner) b r h i = absurd b
binary_level m w n (tree.Chain head tails) b r h i = absurd b
binary_level m w n (tree.New at callee args) b r h i = absurd b
binary_level m w n (tree.Unary at op of is_word) b r h i = absurd b
binary_level m w n (tree.Update at op prefix of) b r h i = absurd b
binary_level m w n (tree.Cond test then_value else_value) b r h i = absurd b
binary_level m w n (tree.Assign op target value) b r h i = absurd b
binary_level m w n (tree.Comma es) b r h i = absurd b

-- of a level above `**` and below `??`
pub levelled : (m : Mode) (w : Bool) (n : ℕ) (e : Expr) → suc n ≤ 10 → rank e ≤ level_rank (suc n) → Proper m e → InIf w (free_of_in e) → Levelled m w (suc n) e
levelled m w n e l r h i = by (nat_le (rank e) (7 + n)) refl
  where
    by : (b : Bool) → nat_le (rank e) (7 + n) ≡ b → Levelled m w (suc n) e
    by true q = alone m w (suc n) e (omega (arith, operand_low (suc n) l, leb-true (rank e) (7 + n) q)) h i
    by false q = binary_level m w (suc n) e (binary_only e (omega (arith, above (rank e) (7 + n) q)) (omega (arith, r, l))) (omega (arith, r, above (rank e) (7 + n) q)) h i

module _ (limit : ℕ) (m : Mode) (d : ℕ) (low : d ≤ limit) (v : Env) where
  abbrev Value : Bool → ℕ → Expr → Type 0
  Value w r e = (rank e ≤ r) × Proper m e × InIf w (free_of_in e)

  abbrev operand_pieces : Operand → List Piece
  operand_pieces o = operator_piece o.op o.is_word d ∷ print m.look d o.value

  flat_operands : (os : Operands) → flat operand_pieces (operand_list os) ++ [] ≡ print_operands m.look d os
  flat_operands no_operands = refl
  flat_operands (more_operands op is_word value rest) = append_assoc (operator_piece op is_word d ∷ print m.look d value) (flat operand_pieces (operand_list rest)) [] ∙ ap (λ x. operator_piece op is_word d ∷ (print m.look d value ++ x)) (flat_operands rest)

  -- the operands of a level above `**`, where the level below is read
  module _ (w : Bool) (n : ℕ) (small : suc n < 12) (low_level : ℕ) (below : low_level < suc n) (lower : Parser Expr)
      (lower_complete : (e : Expr) → Value w (operand_rank (suc n)) e → Completes limit (print m.look d e) (LevelStops w low_level (ending e)) lower e) where
    abbrev Item : Operand → Type 0
    Item o = (op_level o.op o.is_word ≡ suc n) × ((w || not (o.is_word && nat_eq o.op word.IN)) ≡ true) × Value w (operand_rank (suc n)) o.value

    abbrev ItemFollow : Operand → Lexeme → Type 0
    ItemFollow o t = LevelStops w low_level (ending o.value) t

    turn_at : (t : Lexeme) (ts : List Lexeme) → is_op w (suc n) t.kind ≡ true → parser.op_turn w (suc n) lower (t ∷ ts) ≡ bind lower (λ e. ret (Again (operand t e))) ts
    unfolding parser.op_turn
    turn_at t ts h = ap (λ b. when b (step (bind lower (λ e. ret (Again (operand t e))))) (ret (Stop tt)) (t ∷ ts)) h

    turn_stops : (rest : List Lexeme) → is_op w (suc n) (head_of rest).kind ≡ false → bare (parser.op_turn w (suc n) lower rest) ≡ Read (Stop tt) [] rest
    unfolding parser.op_turn
    turn_stops rest h = ap (λ b. bare (when b (step (bind lower (λ e. ret (Again (operand (head_of rest) e))))) (ret (Stop tt)) rest)) h

    item_complete : (o : Operand) → Item o → Completes limit (operand_pieces o) (ItemFollow o) (parser.op_turn w (suc n) lower) (Again o)
    item_complete o k = c_at limit (λ t. bind lower (λ e. ret (Again (operand t e)))) low (λ t ts s. turn_at t ts (op_is w (suc n) o.op o.is_word t s.kind k.0 k.1)) (λ t s. c_value (ap Again (op_same o.op o.is_word t o.value s.kind)) (c_made limit (λ e. Again (operand t e)) (lower_complete o.value k.2)))

    item_some : (o : Operand) → Item o → (u : List Marked) (x : Lexeme) → Stands (operand_pieces o) u x → 0 < length (lexemes u)
    item_some o k [] x h = absurd h
    item_some o k (y ∷ u) x h = omega arith

    op_follows : (e : Ending) (op : ℕ) (of_word : Bool) (t : Lexeme) → op_level op of_word ≡ suc n → t.kind ≡ op_kind op of_word → LevelStops w low_level e t
    op_follows e op of_word t l k = op_levels w low_level (suc n) e t (op_at op of_word t k ∙ l) small below

    item_link : (o p : Operand) → Item o → Item p → (u : List Marked) (x : Lexeme) → Stands (operand_pieces p) u x → ItemFollow o (first_of (lexemes u) x)
    item_link o p ko kp [] x h = absurd h
    item_link o p ko kp (y ∷ u) x h = op_follows (ending o.value) p.op p.is_word y.lexeme kp.0 h.0.kind

    all_operands : (os : Operands) → ProperOperands m (suc n) os → InIf w (operands_free os) → AllK Item (operand_list os)
    all_operands no_operands h i = tt
    all_operands (more_operands op is_word value rest) h i =
        let inner = in_rest w (not (is_word && nat_eq op word.IN)) (free_of_in value && operands_free rest) i in
        ((h.0, in_first w (not (is_word && nat_eq op word.IN)) (free_of_in value && operands_free rest) i, (h.1, h.2, in_first w (free_of_in value) (operands_free rest) inner)), all_operands rest h.3 (in_rest w (free_of_in value) (operands_free rest) inner))

    -- what may follow all
    abbrev End : Ending → Lexeme → Type 0
    End e t = LevelStops w low_level e t × (is_op w (suc n) t.kind ≡ false)

    last_leads : (x : Ending) (os : Operands) → LastLeads limit Item operand_pieces ItemFollow [] (End (operands_ending x os)) tt (parser.op_turn w (suc n) lower) item_complete item_some item_link (c_look limit (λ rest g. turn_stops rest g.1)) (operand_list os)
    last_leads x no_operands = tt
    last_leads x (more_operands op is_word value no_operands) = lead_map (λ t g. g.0) lead_none
    last_leads x (more_operands op is_word value (more_operands p q y rest)) = last_leads (ending value) (more_operands p q y rest)

    pub from_complete : (x : Ending) (e : Expr) (os : Operands) → ProperOperands m (suc n) os → InIf w (operands_free os) → Completes limit (print_operands m.look d os) (End (operands_ending x os)) (parser.operands_from w (suc n) lower e) (binary_of e os)
    from_complete x e os h i = c_value (binary_same e os) (c_made limit (λ n. binary_case e n.items) (c_pieces limit (flat_operands os) (c_loop limit Item operand_pieces ItemFollow [] (End (operands_ending x os)) tt (parser.op_turn w (suc n) lower) item_complete item_some item_link (c_look limit (λ rest g. turn_stops rest g.1)) (operand_list os) (all_operands os h i) (last_leads x os))))

    -- after the first operand
    pub from_leads : (e : Ending) (os : Operands) → ProperOperands m (suc n) os → Leads (print_operands m.look d os) (End (operands_ending e os)) (LevelStops w low_level e)
    from_leads e no_operands h = lead_map (λ t g. g.0) lead_none
    from_leads e (more_operands op is_word value rest) h = lead_at (λ t s. op_follows e op is_word t h.0 s.kind)

    pub step_complete : (first : Parser Expr) (e : Expr) (l : Levelled m w (suc n) e) → Completes limit (print m.look d l.first) (LevelStops w low_level (ending l.first)) first l.first → Completes limit (print m.look d e) (End (ending e)) (bind first (parser.operands_from w (suc n) lower)) e
    step_complete first e l c = c_value l.same (c_pieces limit (binary_pieces m d l.first l.rest ∙ ap (print m.look d) l.same) (c_weaken limit (λ t g. subst (λ x. End x t) (sym (binary_ending l.first l.rest ∙ ap ending l.same)) g) (c_bind limit (parser.operands_from w (suc n) lower) c (from_leads (ending l.first) l.rest l.operands) (from_complete (ending l.first) l.first l.rest l.operands l.operands_in))))

  -- a chain of `**`, where UnaryExpressions are read

  abbrev pub ReadsUnary : Type 0
  ReadsUnary = (heads : Bool) (e : Expr) → rank e ≤ 6 → Proper m e → Completes limit (print m.look d e) (UnaryStops (ending e)) (parser.unary_of v heads) e

  module _ (unary : ReadsUnary) where
    if_some : {x y : ℕ} (b : Bool) → 1 ≤ x → 1 ≤ y → 1 ≤ (if b then x else y)
    if_some true h k = h
    if_some false h k = k

    if_not : {x : ℕ} (b : Bool) → b ≡ false → 1 ≤ x → 1 ≤ (if b then 0 else x)
    if_not true e h = absurd (true_false e)
    if_not false e h = h

    no_power : (i : ℕ) → nat_eq i mark.POWER ≡ false → 1 ≤ mark_level i
    no_power i e =
        if_not (nat_eq i mark.POWER) e (if_some (between mark.TIMES mark.REMAINDER i) (omega arith)
        (if_some (between mark.PLUS mark.MINUS i) (omega arith)
        (if_some (between mark.LEFT_SHIFT mark.UNSIGNED_RIGHT_SHIFT i) (omega arith)
        (if_some (between mark.LESS mark.GREATER_EQUAL i) (omega arith)
        (if_some (between mark.EQUAL mark.STRICT_NOT_EQUAL i) (omega arith)
        (if_some (nat_eq i mark.BIT_AND) (omega arith)
        (if_some (nat_eq i mark.BIT_XOR) (omega arith)
        (if_some (nat_eq i mark.BIT_OR) (omega arith)
        (if_some (nat_eq i mark.AND) (omega arith)
        (if_some (nat_eq i mark.OR) (omega arith)
        (if_some (nat_eq i mark.COALESCE) (omega arith) (omega arith))))))))))))

    power_op : (op : ℕ) (of_word : Bool) → op_level op of_word ≡ 0 → is_mark mark.POWER (op_kind op of_word) ≡ true
    power_op op true h = absurd (omega (arith, h, if_some {x = 4} {y = 12} (between word.IN word.INSTANCEOF op) (omega arith) (omega arith)))
    power_op op false h = by (bool_cases (nat_eq op mark.POWER))
      where
        by : (nat_eq op mark.POWER ≡ true) ⊎ (nat_eq op mark.POWER ≡ false) → nat_eq op mark.POWER ≡ true
        by (inl e) = e
        by (inr e) = absurd (omega (arith, h, no_power op e))

    power_is_op : (w : Bool) (k : Kind) → is_mark mark.POWER k ≡ true → is_op w 0 k ≡ true
    power_is_op true k h = ap (is_op true 0) (mark_known mark.POWER k h)
    power_is_op false k h = ap (is_op false 0) (mark_known mark.POWER k h)

    not_power : (w : Bool) (k : Kind) → is_op w 0 k ≡ false → is_mark mark.POWER k ≡ false
    not_power w k h = refuted (is_mark mark.POWER k) (λ e. true_false (sym (power_is_op w k e) ∙ h))

    abbrev Power : Operand → Type 0
    Power o = (op_level o.op o.is_word ≡ 0) × (rank o.value ≤ 5) × Proper m o.value

    abbrev PowerFollow : Operand → Lexeme → Type 0
    PowerFollow o t = UnaryStops (ending o.value) t

    power_at : (t : Lexeme) (ts : List Lexeme) → is_mark mark.POWER t.kind ≡ true → parser.power_turn v (t ∷ ts) ≡ bind (parser.unary_of v false) (λ e. ret (parser.power_operand t e)) ts
    unfolding parser.power_turn
    power_at t ts h = ap (λ b. when b (step (bind (parser.unary_of v false) (λ e. ret (parser.power_operand t e)))) (ret (Stop None)) (t ∷ ts)) h

    power_stops : (rest : List Lexeme) → is_mark mark.POWER (head_of rest).kind ≡ false → bare (parser.power_turn v rest) ≡ Read (Stop None) [] rest
    unfolding parser.power_turn
    power_stops rest h = ap (λ b. bare (when b (step (bind (parser.unary_of v false) (λ e. ret (parser.power_operand (head_of rest) e)))) (ret (Stop None)) rest)) h

    power_item : (o : Operand) (a : Turn Operand (Option Operand)) → op_level o.op o.is_word ≡ 0 → rank o.value ≤ 6 → Proper m o.value → ((t : Lexeme) → operand t o.value ≡ o → parser.power_operand t o.value ≡ a) → Completes limit (operand_pieces o) (PowerFollow o) (parser.power_turn v) a
    power_item o a l r h e = c_at limit (λ t. bind (parser.unary_of v false) (λ x. ret (parser.power_operand t x))) low
        (λ t ts s. power_at t ts (ap (is_mark mark.POWER) s.kind ∙ power_op o.op o.is_word l))
        (λ t s. c_value (e t (op_same o.op o.is_word t o.value s.kind)) (c_made limit (parser.power_operand t) (unary false o.value r h)))

    power_again : (o : Operand) → rank o.value ≤ 5 → (t : Lexeme) → operand t o.value ≡ o → parser.power_operand t o.value ≡ Again o
    power_again o r t e = ap (λ b. if b then Again (operand t o.value) else Stop (Some (operand t o.value))) (le-leb (rank o.value) 5 r) ∙ ap Again e

    power_last : (o : Operand) → nat_le (rank o.value) 5 ≡ false → (t : Lexeme) → operand t o.value ≡ o → parser.power_operand t o.value ≡ Stop (Some o)
    power_last o r t e = ap (λ b. if b then Again (operand t o.value) else Stop (Some (operand t o.value))) r ∙ ap (λ x. Stop (Some x)) e

    power_complete : (o : Operand) → Power o → Completes limit (operand_pieces o) (PowerFollow o) (parser.power_turn v) (Again o)
    power_complete o k = power_item o (Again o) k.0 (omega (arith, k.1)) k.2 (power_again o k.1)

    power_some : (o : Operand) → Power o → (u : List Marked) (x : Lexeme) → Stands (operand_pieces o) u x → 0 < length (lexemes u)
    power_some o k [] x h = absurd h
    power_some o k (y ∷ u) x h = omega arith

    power_follows : (e : Ending) (o : Operand) (t : Lexeme) → op_level o.op o.is_word ≡ 0 → t.kind ≡ op_kind o.op o.is_word → UnaryStops e t
    power_follows e o t l k = op_stops e t (omega (arith, op_at o.op o.is_word t k, l))

    power_link : (o p : Operand) → Power o → Power p → (u : List Marked) (x : Lexeme) → Stands (operand_pieces p) u x → PowerFollow o (first_of (lexemes u) x)
    power_link o p ko kp [] x h = absurd h
    power_link o p ko kp (y ∷ u) x h = power_follows (ending o.value) p y.lexeme kp.0 h.0.kind

    abbrev PowerEnd : Ending → Lexeme → Type 0
    PowerEnd e t = UnaryStops e t × (is_mark mark.POWER t.kind ≡ false)

    -- how the operands are read: a last one that is no UpdateExpression ends them
    abbrev FirstOf : List Operand → Type 0 → Type 0
    FirstOf [] P = P
    FirstOf (x ∷ xs) P = Unit {0}

    record Powers (os : Operands) (G : Lexeme → Type 0) : Type 0 where
      items : List Operand
      last : Option Operand
      pieces : List Piece
      same : parser.with_last items last ≡ operand_list os
      prints : flat operand_pieces items ++ pieces ≡ print_operands m.look d os
      known : AllK Power items
      stop : Completes limit pieces G (parser.power_turn v) (Stop last)
      leads : LastLeads limit Power operand_pieces PowerFollow pieces G last (parser.power_turn v) power_complete power_some power_link stop items
      first : HasOperands os → FirstOf items ((e : Ending) → Leads pieces G (UnaryStops e))

    none_powers : (x : Ending) → Powers no_operands (PowerEnd x)
    none_powers x = record { items = []; last = None; pieces = []; same = refl; prints = refl; known = tt; stop = c_look limit (λ rest g. power_stops rest g.1); leads = tt; first = λ h. absurd h }

    last_powers : (op : ℕ) (of_word : Bool) (value : Expr) → op_level op of_word ≡ 0 → rank value ≤ 6 → Proper m value → (b : Bool) → nat_le (rank value) 5 ≡ b → Powers (more_operands op of_word value no_operands) (PowerEnd (ending value))
    last_powers op of_word value l r h true q = record {
      items = record { op = op; is_word = of_word; value = value } ∷ [];
      last = None;
      pieces = [];
      same = refl;
      prints = append-nil (operator_piece op of_word d ∷ (print m.look d value ++ []));
      known = ((l, leb-true (rank value) 5 q, h), tt);
      stop = c_look limit (λ rest g. power_stops rest g.1);
      leads = lead_map (λ t g. g.0) lead_none;
      first = λ _. tt;
    }
    last_powers op of_word value l r h false q =
        let o : Operand = record { op = op; is_word = of_word; value = value } in
        record {
          items = [];
          last = Some o;
          pieces = operand_pieces o;
          same = refl;
          prints = ap (λ x. operator_piece op of_word d ∷ x) (sym (append-nil (print m.look d value)));
          known = tt;
          stop = c_weaken limit (λ t g. g.0) (power_item o (Stop (Some o)) l r h (power_last o q));
          leads = tt;
          first = λ _ e. lead_at (λ t s. power_follows e o t l s.kind);
        }

    more_leads : (os : Operands) {G : Lexeme → Type 0} (o : Operand) (items : List Operand) (last : Option Operand) (pieces : List Piece) (stop : Completes limit pieces G (parser.power_turn v) (Stop last)) → LastLeads limit Power operand_pieces PowerFollow pieces G last (parser.power_turn v) power_complete power_some power_link stop items → FirstOf items ((e : Ending) → Leads pieces G (UnaryStops e)) → LastLeads limit Power operand_pieces PowerFollow pieces G last (parser.power_turn v) power_complete power_some power_link stop (o ∷ items)
    more_leads os o [] last pieces stop l f = f (ending o.value)
    more_leads os o (y ∷ ys) last pieces stop l f = l

    with_more : (o : Operand) (items : List Operand) (last : Option Operand) → parser.with_last (o ∷ items) last ≡ o ∷ parser.with_last items last
    with_more o items None = refl
    with_more o items (Some l) = refl

    powers : (x : Ending) (os : Operands) → ProperOperands m 0 os → Powers os (PowerEnd (operands_ending x os))
    powers x no_operands h = none_powers x
    powers x (more_operands op of_word value no_operands) h = last_powers op of_word value h.0 h.1 h.2 (nat_le (rank value) 5) refl
    powers x (more_operands op of_word value (more_operands p b y rest)) h =
        let r = powers (ending value) (more_operands p b y rest) h.3 in
        let o : Operand = record { op = op; is_word = of_word; value = value } in
        record {
          items = o ∷ r.items;
          last = r.last;
          pieces = r.pieces;
          same = with_more o r.items r.last ∙ ap (λ z. o ∷ z) r.same;
          prints = append_assoc (operand_pieces o) (flat operand_pieces r.items) r.pieces ∙ ap (λ z. operand_pieces o ++ z) r.prints;
          known = ((h.0, h.1, h.2), r.known);
          stop = r.stop;
          leads = more_leads (more_operands p b y rest) o r.items r.last r.pieces r.stop r.leads (r.first tt);
          first = λ _. tt;
        }

    power_leads : (e : Ending) (os : Operands) → ProperOperands m 0 os → Leads (print_operands m.look d os) (PowerEnd (operands_ending e os)) (UnaryStops e)
    power_leads e no_operands h = lead_map (λ t g. g.0) lead_none
    power_leads e (more_operands op of_word value rest) h = lead_at (λ t s. op_stops e t (omega (arith, op_at op of_word t s.kind, h.0)))

    powers_read : (x : Ending) (e : Expr) (os : Operands) → ProperOperands m 0 os → Completes limit (print_operands m.look d os) (PowerEnd (operands_ending x os)) (bind (loop (parser.power_turn v)) (λ n. ret (binary_case e (parser.with_last n.items n.last)))) (binary_of e os)
    powers_read x e os h =
        let r = powers x os h in
        c_value (ap (binary_case e) r.same ∙ binary_same e os) (c_made limit (λ n. binary_case e (parser.with_last n.items n.last)) (c_pieces limit r.prints (c_loop limit Power operand_pieces PowerFollow r.pieces (PowerEnd (operands_ending x os)) r.last (parser.power_turn v) power_complete power_some power_link r.stop r.items r.known r.leads)))

    updated : (heads w : Bool) (e : Expr) → Levelled m w 0 e → Completes limit (print m.look d e) (PowerEnd (ending e)) (parser.power_of v heads) e
    unfolding parser.power_of
    updated heads w e l = c_value l.same (c_pieces limit (binary_pieces m d l.first l.rest ∙ ap (print m.look d) l.same) (c_weaken limit (λ t g. subst (λ x. PowerEnd x t) (sym (binary_ending l.first l.rest ∙ ap ending l.same)) g) (c_bind limit (λ x. when (is_update_expr x) (bind (loop (parser.power_turn v)) (λ n. ret (binary_case x (parser.with_last n.items n.last)))) (ret x)) (unary heads l.first (omega (arith, l.rank_le)) l.proper) (power_leads (ending l.first) l.rest l.operands)
        (subst (λ b. Completes limit (print_operands m.look d l.rest) (PowerEnd (operands_ending (ending l.first) l.rest)) (when b (bind (loop (parser.power_turn v)) (λ n. ret (binary_case l.first (parser.with_last n.items n.last)))) (ret l.first)) (binary_of l.first l.rest)) (sym (le-leb (rank l.first) 5 l.rank_le)) (powers_read (ending l.first) l.first l.rest l.operands)))))

    prefixed : (heads : Bool) (e : Expr) → rank e ≡ 6 → Proper m e → Completes limit (print m.look d e) (PowerEnd (ending e)) (parser.power_of v heads) e
    unfolding parser.power_of
    prefixed heads e r h = c_pieces limit (append-nil (print m.look d e)) (c_bind limit (λ x. when (is_update_expr x) (bind (loop (parser.power_turn v)) (λ n. ret (binary_case x (parser.with_last n.items n.last)))) (ret x)) (unary heads e (omega (arith, r)) h) (lead_map (λ t g. g.0) lead_none)
        (subst (λ k. Completes limit [] (PowerEnd (ending e)) (when (nat_le k 5) (bind (loop (parser.power_turn v)) (λ n. ret (binary_case e (parser.with_last n.items n.last)))) (ret e)) e) (sym r) (c_ret limit e)))

    pub power_level : (heads w : Bool) (e : Expr) → rank e ≤ 7 → Proper m e → InIf w (free_of_in e) → Completes limit (print m.look d e) (PowerEnd (ending e)) (parser.power_of v heads) e
    power_level heads w e r h i = by (nat_le (rank e) 5) (nat_eq (rank e) 6) refl refl
      where
        by : (b c : Bool) → nat_le (rank e) 5 ≡ b → nat_eq (rank e) 6 ≡ c → Completes limit (print m.look d e) (PowerEnd (ending e)) (parser.power_of v heads) e
        by true c p q = updated heads w e (alone m w 0 e (leb-true (rank e) 5 p) h i)
        by false true p q = prefixed heads e (eqb-true (rank e) 6 q) h
        by false false p q =
            let seven : rank e ≡ 7 = omega (arith, r, above (rank e) 5 p, eqb-false (rank e) 6 q) in
            updated heads w e (binary_level m w 0 e (binary_only e (omega (arith, seven)) (omega (arith, seven))) seven h i)

    -- the levels up to `||`
    pub level_complete : (n : ℕ) → n ≤ 10 → (w heads : Bool) (e : Expr) → rank e ≤ level_rank n → Proper m e → InIf w (free_of_in e) → Completes limit (print m.look d e) (LevelStops w n (ending e)) (parser.level_of v w n heads) e
    unfolding parser.level_of
    level_complete zero s w heads e r h i = c_weaken limit (λ t g. (g.unary, not_power w t.kind (g.ops 0 (omega arith)))) (power_level heads w e r h i)
    level_complete (suc n) s w heads e r h i =
        let l = levelled m w n e s r h i in
        let same : operand_rank (suc n) ≡ 7 + n = operand_low (suc n) s ∙ omega arith in
        c_weaken limit (λ t g. (level_less w n (suc n) (ending e) t (omega arith) g, g.ops (suc n) (omega arith)))
        (step_complete w n (omega (arith, s)) n (omega arith) (parser.level_of v w n false) (λ x k. level_complete n (omega (arith, s)) w false x (omega (arith, k.0, same)) k.1 k.2) (parser.level_of v w n heads) e l
        (level_complete n (omega (arith, s)) w heads l.first (omega (arith, l.rank_le, same)) l.proper l.in_if))
