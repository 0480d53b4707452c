-- A name that stands alone as an item: after it a comma, a closing parenthesis or `=`.
use Rattle.std.proofs.Common.{◌≡◌, List, ◌∷◌, refl, sym, ap, ◌∙◌, subst, Bool, true, false, ◌&&◌, ◌||◌, if◌then◌else◌}
use Rattle.script_grammar.specs.declared.token.Kind.{Kind}
use Rattle.script_grammar.specs.declared.token.Kind.TheVariants as kind
use Rattle.script_grammar.specs.declared.token.mark.TheConstants as mark
use Rattle.script_grammar.specs.Lexeme.{Lexeme}
use Rattle.script_grammar.specs.Kinds.{is_mark, is_name}
use Rattle.script_grammar.specs.Tree as tree
use Rattle.grammar_parser_specs.specs.Parser.{when, turns, loop}
use Rattle.grammar_parser_specs.specs.Exprs
use Rattle.grammar_parser_specs.specs.Exprs.{Env, named, is_param_form}
use Rattle.grammar_parser_laws.proofs.Tests.{mark_known, name_known, and_left, and_right, or_cases}

-- a lexeme of another kind
abbrev pub of_kind : Kind → Lexeme → Lexeme
of_kind k t = record { kind = k; text = t.text; number = t.number; role = t.role; start = t.start; end = t.end; after_line = t.after_line }

abbrev Lone : Env → Bool → Lexeme → Lexeme → List Lexeme → Type 0
Lone v w t u ts = Exprs.plain_of v w (t ∷ u ∷ ts) ≡ Exprs.assign_tail v w (tree.Name (named t)) (u ∷ ts)

before_comma : (v : Env) (w : Bool) (t u : Lexeme) (ts : List Lexeme) → Lone v w (of_kind kind.Name t) (of_kind (kind.Mark mark.COMMA) u) ts
unfolding Exprs.plain_of Exprs.cond_of Exprs.short_circuit Exprs.level_of Exprs.power_of Exprs.unary_of Exprs.update_of Exprs.left_of Exprs.new_or_prim Exprs.prim_of loop turns Exprs.tail_turn Exprs.postfix_of Exprs.power_turn Exprs.op_turn Exprs.or_from Exprs.cond_tail
before_comma v w t u ts = refl

before_close : (v : Env) (w : Bool) (t u : Lexeme) (ts : List Lexeme) → Lone v w (of_kind kind.Name t) (of_kind (kind.Mark mark.CLOSE_PAREN) u) ts
unfolding Exprs.plain_of Exprs.cond_of Exprs.short_circuit Exprs.level_of Exprs.power_of Exprs.unary_of Exprs.update_of Exprs.left_of Exprs.new_or_prim Exprs.prim_of loop turns Exprs.tail_turn Exprs.postfix_of Exprs.power_turn Exprs.op_turn Exprs.or_from Exprs.cond_tail
before_close v w t u ts = refl

before_assign : (v : Env) (w : Bool) (t u : Lexeme) (ts : List Lexeme) → Lone v w (of_kind kind.Name t) (of_kind (kind.Mark mark.ASSIGN) u) ts
unfolding Exprs.plain_of Exprs.cond_of Exprs.short_circuit Exprs.level_of Exprs.power_of Exprs.unary_of Exprs.update_of Exprs.left_of Exprs.new_or_prim Exprs.prim_of loop turns Exprs.tail_turn Exprs.postfix_of Exprs.power_turn Exprs.op_turn Exprs.or_from Exprs.cond_tail
before_assign v w t u ts = refl

named_kind : (k : Kind) (t : Lexeme) → t.kind ≡ k → of_kind k t ≡ t
named_kind k t e = ap (λ j. of_kind j t) (sym e)

at_kinds : (v : Env) (w : Bool) (t u : Lexeme) (ts : List Lexeme) (k : Kind) → t.kind ≡ kind.Name → u.kind ≡ k → Lone v w (of_kind kind.Name t) (of_kind k u) ts → Lone v w t u ts
at_kinds v w t u ts k e h l = subst (λ x. Lone v w x u ts) (named_kind kind.Name t e) (subst (λ y. Lone v w (of_kind kind.Name t) y ts) (named_kind k u h) l)

-- which marks stand after an item of the form of a parameter
pub form_cases : {C : Type 0} (t u : Lexeme) → is_param_form t u ≡ true → (u.kind ≡ kind.Mark mark.COMMA → C) → (u.kind ≡ kind.Mark mark.CLOSE_PAREN → C) → (u.kind ≡ kind.Mark mark.ASSIGN → C) → C
form_cases t u h f g k =
    let marks = and_right (is_name t.kind) (is_mark mark.COMMA u.kind || is_mark mark.CLOSE_PAREN u.kind || is_mark mark.ASSIGN u.kind) h in
    or_cases (is_mark mark.COMMA u.kind || is_mark mark.CLOSE_PAREN u.kind) (is_mark mark.ASSIGN u.kind) marks
    (λ x. or_cases (is_mark mark.COMMA u.kind) (is_mark mark.CLOSE_PAREN u.kind) x (λ y. f (mark_known mark.COMMA u.kind y)) (λ y. g (mark_known mark.CLOSE_PAREN u.kind y)))
    (λ x. k (mark_known mark.ASSIGN u.kind x))

pub form_name : (t u : Lexeme) → is_param_form t u ≡ true → t.kind ≡ kind.Name
form_name t u h = name_known t.kind (and_left (is_name t.kind) (is_mark mark.COMMA u.kind || is_mark mark.CLOSE_PAREN u.kind || is_mark mark.ASSIGN u.kind) h)

pub lone_plain : (v : Env) (w : Bool) (t u : Lexeme) (ts : List Lexeme) → is_param_form t u ≡ true → Exprs.plain_of v w (t ∷ u ∷ ts) ≡ Exprs.assign_tail v w (tree.Name (named t)) (u ∷ ts)
lone_plain v w t u ts h =
    let n = form_name t u h in
    form_cases t u h
    (λ e. at_kinds v w t u ts (kind.Mark mark.COMMA) n e (before_comma v w t u ts))
    (λ e. at_kinds v w t u ts (kind.Mark mark.CLOSE_PAREN) n e (before_close v w t u ts))
    (λ e. at_kinds v w t u ts (kind.Mark mark.ASSIGN) n e (before_assign v w t u ts))

-- no arrow begins there

no_arrow : (t u : Lexeme) → is_param_form t u ≡ true → Exprs.is_arrow u ≡ false
no_arrow t u h = form_cases t u h (λ e. rw e refl) (λ e. rw e refl) (λ e. rw e refl)

no_head : (t u : Lexeme) (ts : List Lexeme) → is_param_form t u ≡ true → Exprs.is_arrow_head (t ∷ u ∷ ts) ≡ false
unfolding Exprs.is_arrow_head
no_head t u ts h = ap (λ k. if is_name k then Exprs.is_arrow u else (is_mark mark.OPEN_PAREN k && Exprs.arrow_opens (u ∷ ts))) (form_name t u h) ∙ no_arrow t u h

pub lone_assign : (v : Env) (w : Bool) (t u : Lexeme) (ts : List Lexeme) → is_param_form t u ≡ true → Exprs.assign_of v w (t ∷ u ∷ ts) ≡ Exprs.assign_tail v w (tree.Name (named t)) (u ∷ ts)
unfolding Exprs.assign_of
lone_assign v w t u ts h = ap (λ b. when b (Exprs.arrow_of v w) (Exprs.plain_of v w) (t ∷ u ∷ ts)) (no_head t u ts h) ∙ lone_plain v w t u ts h
