-- What stands by itself: the end of all after it, and functions.
use Rattle.std.proofs.Common.{◌≡◌, ℕ, List, Bool, true, false, refl, sym, subst}
use Rattle.std.proofs.Common.{None}
use Rattle.script_grammar.specs.Endings.{body_ending}
use Rattle.script_grammar.specs.TreeLists.{params_of}
use Rattle.script_grammar.specs.declared.token.FuncForm.TheVariants as form
use Rattle.grammar_parser_specs.specs.Exprs.{Head, BodyRead, function_case}
use Rattle.parse_exprs.specs.declared.part.ArrowBody.{ArrowBody}
use Rattle.parse_exprs.specs.Means.{ending_as, ArrowBodyOf}
use Rattle.script_grammar.specs.Interpretation.{Interpretation}
use Rattle.script_grammar.specs.Kinds.{is_end}
use Rattle.script_grammar.specs.Lexeme.{Lexeme}
use Rattle.script_grammar.specs.Shows.{FuncBodyOf, FuncOf, ShowFunc}
use Rattle.script_grammar.specs.Tree.{Expr, Stmts, Function, function}
use Rattle.script_grammar.specs.declared.node.NodeFunc.{NodeFunc}
use Rattle.script_grammar.specs.declared.node.NodeFuncBody.TheVariants as bodies
use Rattle.grammar_parser_specs.specs.Parser.{Recorded, Reply, head_of, after, ret, bad, when}
use Rattle.grammar_parser_specs.specs.Stmts.{end_of}
use Rattle.parse_exprs.specs.declared.source.Source.{Source}
use Rattle.parse_exprs.specs.declared.place.Cursor.{Cursor}
use Rattle.parse_exprs.specs.declared.place.ParseFault.{ParseFault}
use Rattle.parse_exprs.specs.Answers.{Refuses, ReadAs}
use Rattle.parse_exprs.proofs.Onward.{Maps}
use Rattle.parse_exprs.proofs.Steps.{made, refused}

end_after : {A : Type 0} (a : A) (ts : List Lexeme) → end_of a ts ≡ after (end_of {A = Unit {0}} tt ts) (λ _. ret a)
unfolding end_of
end_after {A = A} a ts = split (is_end (head_of ts).kind)
  where
    split : (b : Bool) → when b (ret a) bad ts ≡ after (when b (ret {A = Unit {0}} tt) bad ts) (λ _. ret a)
    split true = refl
    split false = refl

pub end_read : {A : Type 0} {rs qs : List Recorded} {us : List Lexeme} (ts : List Lexeme) (a : A) → ReadAs rs (end_of {A = Unit {0}} tt ts) tt qs us → ReadAs rs (end_of a ts) a qs us
end_read {rs = rs} {qs = qs} {us = us} ts a h = subst (λ r. ReadAs rs r a qs us) (sym (end_after a ts)) (made (λ _. a) h)

pub end_refused : {A : Type 0} (s : Source) (i : Interpretation) (p : Cursor) (e : ParseFault) (rs : List Recorded) (ts : List Lexeme) (a : A) → Refuses s i p e rs (end_of {A = Unit {0}} tt ts) → Refuses s i p e rs (end_of a ts)
end_refused s i p e rs ts a h = subst (λ r. Refuses s i p e rs r) (sym (end_after a ts)) (refused s i p e rs (end_of {A = Unit {0}} tt ts) (λ _. ret a) h)

body_maps : {E B : Type 0} (i : Interpretation) (shows : E → Expr → Type 0) (shows_body : B → Stmts → Type 0) (start : ℕ) → Maps (FuncBodyOf i shows shows_body start)
body_maps i shows shows_body start (bodies.Braced b) k n f h = (h.0, h.1, f _ h.2)
body_maps i shows shows_body start (bodies.Short e) k n f h = (h.0, h.1, f _ h.2)
body_maps i shows shows_body start (bodies.Passed) k n f h = f _ h

func_maps : {E B : Type 0} (i : Interpretation) (shows : E → Expr → Type 0) (shows_body : B → Stmts → Type 0) → Maps (FuncOf i shows shows_body)
func_maps i shows shows_body e k n f h = (h.0, h.1, body_maps i shows shows_body e.start e.body _ _ (λ b x. f _ x) h.2)

-- a function that is given
pub func_made : {E B : Type 0} {rs qs : List Recorded} {us : List Lexeme} {r : Reply Function} {f : Function} (i : Interpretation) (shows : E → Expr → Type 0) (shows_body : B → Stmts → Type 0) (n : NodeFunc E B) → ShowFunc i shows shows_body n f → ReadAs rs r f qs us → FuncOf i shows shows_body n (λ x. ReadAs rs r x qs us)
func_made {rs = rs} {qs = qs} {us = us} {r = r} {f = f} i shows shows_body n h p = func_maps i shows shows_body n (λ x. f ≡ x) (λ x. ReadAs rs r x qs us) (λ x e. subst (λ y. ReadAs rs r y qs us) e p) h

-- an arrow, by its body
pub arrow_made : {E B : Type 0} {rs qs ps : List Recorded} {us : List Lexeme} {r : Reply BodyRead} {u : Reply Function} (i : Interpretation) (shows : E → Expr → Type 0) (shows_body : B → Stmts → Type 0) (v : ArrowBody E B) (h : Head) → ArrowBodyOf i shows shows_body h.start v (λ b. ReadAs rs r b qs us)
    → ((b : BodyRead) → ReadAs rs r b qs us → ReadAs ps u (function_case form.Arrow None h b) qs us) → FuncBodyOf i shows shows_body h.start v.body (λ b. ReadAs ps u (function form.Arrow h.start v.end None (params_of h.params) h.comma h.bare b) qs us)
arrow_made {rs = rs} {qs = qs} {ps = ps} {us = us} {r = r} {u = u} i shows shows_body v h x f =
    body_maps i shows shows_body h.start v.body (λ b. (ending_as v.ending ≡ body_ending b) × ReadAs rs r (record { body = b; end = v.end }) qs us) (λ b. ReadAs ps u (function form.Arrow h.start v.end None (params_of h.params) h.comma h.bare b) qs us) (λ b y. f (record { body = b; end = v.end }) y.1) x
