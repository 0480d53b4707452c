-- What turns of loops answer.
use Rattle.std.proofs.Common.{◌≡◌, ℕ, List, Bool, true, false, refl, ap, subst, arith, if◌then◌else◌, nat_eq, Some}
use Rattle.std.proofs.lemmas.Bool.Decides.{nat_tests}
use Rattle.script_grammar.specs.declared.token.Kind.{Kind}
use Rattle.script_grammar.specs.declared.token.Kind.TheVariants as kind
use Rattle.script_grammar.specs.declared.token.mark.TheConstants as mark
use Rattle.script_grammar.specs.Kinds.{is_mark}
use Rattle.script_grammar.specs.Interpretation.{Interpretation}
use Rattle.script_grammar.specs.Lexeme.{Lexeme}
use Rattle.script_grammar.specs.Tree.{Expr}
use Rattle.script_grammar.specs.Tree as model
use Rattle.script_grammar.specs.TreeLists.{Args, exprs_of}
use Rattle.grammar_parser_specs.specs.Parser.{Recorded, Reply, Parser, head_of, rest_of, after, ret, Again, Stop}
use Rattle.grammar_parser_specs.specs.Exprs.{Env, AnAssign, more_turn, unary_of, power_operand, power_turn, is_update_expr, operand, is_op, op_turn, args_of, call_of, tail_turn}
use Rattle.grammar_local_laws.proofs.LocalExprs.{after_twice}
use Rattle.parse_exprs.specs.declared.source.Source.{Source}
use Rattle.parse_exprs.specs.declared.place.Cursor.{Cursor}
use Rattle.parse_exprs.specs.declared.place.ParseFault.{ParseFault}
use Rattle.parse_exprs.specs.Answers.{ReadAs, Refuses}
use Rattle.parse_exprs.proofs.Steps.{made, read_is, refused, when_false, when_true}

-- a turn that goes past the comma, and reads an item
pub more_turn_next : {rs qs : List Recorded} {us : List Lexeme} (v : Env) (w : Bool) (ts : List Lexeme) (e : Expr) → is_mark mark.COMMA (head_of ts).kind ≡ true → ReadAs rs (v.sub (AnAssign w) (rest_of ts)) e qs us → ReadAs rs (more_turn v w ts) (Again e) qs us
unfolding more_turn
more_turn_next v w ts e h k = when_true _ _ h (made _ k)

-- a turn that goes past the operator, and reads an operand
pub op_turn_next : {rs qs : List Recorded} {us : List Lexeme} (w : Bool) (n : ℕ) (lower : Parser Expr) (ts : List Lexeme) (e : Expr) → is_op w n (head_of ts).kind ≡ true → ReadAs rs (lower (rest_of ts)) e qs us → ReadAs rs (op_turn w n lower ts) (Again (operand (head_of ts) e)) qs us
unfolding op_turn
op_turn_next w n lower ts e h k = when_true _ _ h (made _ k)

-- the same of a power: another may follow an operand that may be raised, and none another operand

pub power_turn_next : {rs qs : List Recorded} {us : List Lexeme} (v : Env) (ts : List Lexeme) (e : Expr) → is_mark mark.POWER (head_of ts).kind ≡ true → is_update_expr e ≡ true → ReadAs rs (unary_of v false (rest_of ts)) e qs us → ReadAs rs (power_turn v ts) (Again (operand (head_of ts) e)) qs us
unfolding power_turn
power_turn_next v ts e h f k = when_true _ _ h (read_is (made (power_operand (head_of ts)) k) (ap (λ b. if b then Again (operand (head_of ts) e) else Stop (Some (operand (head_of ts) e))) f))

pub power_turn_last : {rs qs : List Recorded} {us : List Lexeme} (v : Env) (ts : List Lexeme) (e : Expr) → is_mark mark.POWER (head_of ts).kind ≡ true → is_update_expr e ≡ false → ReadAs rs (unary_of v false (rest_of ts)) e qs us → ReadAs rs (power_turn v ts) (Stop (Some (operand (head_of ts) e))) qs us
unfolding power_turn
power_turn_last v ts e h f k = when_true _ _ h (read_is (made (power_operand (head_of ts)) k) (ap (λ b. if b then Again (operand (head_of ts) e) else Stop (Some (operand (head_of ts) e))) f))

-- a fault in front of what is made twice
pub refused_twice : {A B C : Type 0} (s : Source) (i : Interpretation) (p : Cursor) (e : ParseFault) (rs : List Recorded) (r : Reply A) (f : A → B) (g : B → C) → Refuses s i p e rs (after r (λ x. ret (f x))) → Refuses s i p e rs (after r (λ x. ret (g (f x))))
refused_twice s i p e rs r f g h = subst (λ x. Refuses s i p e rs x) (after_twice r (λ x. ret (f x)) (λ x. ret (g x))) (refused s i p e rs (after r (λ x. ret (f x))) (λ x. ret (g x)) h)

-- no kind is two marks
pub other_mark : (m n : ℕ) (k : Kind) → nat_eq m n ≡ false → is_mark m k ≡ true → is_mark n k ≡ false
other_mark m n (kind.Mark j) d h = apart j m n d h
  where
    apart : (j m n : ℕ) → nat_eq m n ≡ false → nat_eq j m ≡ true → nat_eq j n ≡ false
    apart j m n d h = grind (arith, nat_tests)
other_mark m n kind.Name d h = refl
other_mark m n kind.Number d h = refl
other_mark m n kind.Str d h = refl
other_mark m n kind.TemplateWhole d h = refl
other_mark m n kind.TemplateHead d h = refl
other_mark m n kind.TemplateMiddle d h = refl
other_mark m n kind.TemplateTail d h = refl
other_mark m n (kind.Word j) d h = refl
other_mark m n kind.Bad d h = refl
other_mark m n kind.End d h = refl

-- a turn that goes past the parenthesis, and reads arguments
pub tail_turn_call : {rs qs : List Recorded} {us : List Lexeme} (v : Env) (ts : List Lexeme) (a : Args) → is_mark mark.OPEN_PAREN (head_of ts).kind ≡ true → ReadAs rs (args_of v (rest_of ts)) a qs us → ReadAs rs (tail_turn v ts) (Again (model.Call (exprs_of a.items) a.comma)) qs us
unfolding tail_turn call_of
tail_turn_call v ts a h k =
    let no_dot = other_mark mark.OPEN_PAREN mark.DOT (head_of ts).kind refl h in
    let no_bracket = other_mark mark.OPEN_PAREN mark.OPEN_BRACKET (head_of ts).kind refl h in
    when_false _ _ no_dot (when_false _ _ no_bracket (when_true _ _ h (made Again (made _ k))))
