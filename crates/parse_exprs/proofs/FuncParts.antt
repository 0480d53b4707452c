-- What functions stand for, as values and facts of them, and how they end.
use Rattle.std.proofs.Common.{◌≡◌, ℕ, List, [], ◌∷◌, Option, refl, sym, ap, subst, Err, if◌then◌else◌, nat_le}
use Rattle.script_grammar.specs.declared.node.NodeFunc.{NodeFunc}
use Rattle.script_grammar.specs.declared.node.NodeFuncBody.{NodeFuncBody}
use Rattle.script_grammar.specs.declared.node.NodeFuncBody.TheVariants as bodies
use Rattle.script_grammar.specs.declared.token.FuncForm.{FuncForm}
use Rattle.script_grammar.specs.declared.token.FuncForm.TheVariants as form
use Rattle.script_grammar.specs.Endings.{ending, body_ending}
use Rattle.script_grammar.specs.Interpretation.{Interpretation, maybe_named}
use Rattle.script_grammar.specs.Kinds.{is_arrow_form}
use Rattle.script_grammar.specs.Lexeme.{Lexeme}
use Rattle.script_grammar.specs.Pieces as pieces
use Rattle.script_grammar.specs.Proper.{left_rank, update_rank}
use Rattle.parse_exprs.specs.declared.part.Rank.{Rank}
use Rattle.parse_exprs.specs.declared.part.Rank.TheVariants as ranks
use Rattle.parse_exprs.specs.Ranks.{rank_of}
use Rattle.script_grammar.specs.Shows.{FuncBodyOf, FuncOf, ShowFunc}
use Rattle.script_grammar.specs.Tree.{Expr, Stmts, Named, Body, Function, function}
use Rattle.script_grammar.specs.Tree as model
use Rattle.script_grammar.specs.TreeLists.{params_of}
use Rattle.grammar_parser_specs.specs.Parser.{Recorded, Reply, Read, Bad, Deep, Parser, after, noted}
use Rattle.grammar_parser_specs.specs.Exprs as pure
use Rattle.grammar_parser_specs.specs.Exprs.{Env, function_of}
use Rattle.parse_exprs.specs.declared.source.Source.{Source}
use Rattle.parse_exprs.specs.declared.place.Cursor.{Cursor}
use Rattle.parse_exprs.specs.declared.place.ParseFault.{ParseFault}
use Rattle.parse_exprs.specs.Answers.{ReadAs, Refuses}
use Rattle.parse_exprs.specs.Means.{Itself}
use Rattle.parse_exprs.proofs.Onward.{onward, itself_maps}

-- a fault after a part that was read
pub refused_behind : {A B : Type 0} {qs : List Recorded} {a : A} {us : List Lexeme} (s : Source) (i : Interpretation) (p : Cursor) (e : ParseFault) (rs : List Recorded) (r : Reply A) (f : A → Parser B)
    → ReadAs rs r a qs us → Refuses s i p e qs (f a us) → Refuses s i p e rs (after r f)
refused_behind {B = B} s i p e rs r f h k = onward (Itself {A = B}) s i p (Err e) rs r f itself_maps h k

-- what holds of each value that a reply reads

abbrev Always : {A : Type 0} → (A → Type 0) → Reply A → Type 0
Always P (Read a rs us) = P a
Always P (Bad rs us) = Unit {0}
Always P (Deep rs us) = Unit {0}

always_noted : {A : Type 0} (P : A → Type 0) (rs : List Recorded) (r : Reply A) → Always P r → Always P (noted rs r)
always_noted P [] r h = h
always_noted P (q ∷ qs) (Read a rs us) h = h
always_noted P (q ∷ qs) (Bad rs us) h = tt
always_noted P (q ∷ qs) (Deep rs us) h = tt

always_after : {A B : Type 0} (P : B → Type 0) (r : Reply A) (f : A → Parser B) → ((a : A) (us : List Lexeme) → Always P (f a us)) → Always P (after r f)
always_after P (Read a rs us) f h = always_noted P rs (f a us) (h a us)
always_after P (Bad rs us) f h = tt
always_after P (Deep rs us) f h = tt

always_read : {A : Type 0} (P : A → Type 0) (rs : List Recorded) (r : Reply A) (a : A) (qs : List Recorded) (us : List Lexeme) → Always P r → ReadAs rs r a qs us → P a
always_read P rs r a qs us h k = subst (λ x. Always P x) k.is (always_noted P rs r h)

abbrev form_of : Function → FuncForm
form_of (function f _ _ _ _ _ _ _) = f

-- a function is of the form that was asked for
pub function_form : (v : Env) (f : FuncForm) (name : Option Named) (rs qs : List Recorded) (ts us : List Lexeme) (x : Function) → ReadAs rs (function_of v f name ts) x qs us → form_of x ≡ f
unfolding function_of
function_form v f name rs qs ts us x h =
    always_read (λ y. form_of y ≡ f) rs _ x qs us (always_after (λ y. form_of y ≡ f) (pure.params_head v f ts) _ (λ d ws. always_after (λ y. form_of y ≡ f) (v.body f d.start (pure.is_simple d.params) ws) _ (λ b vs. refl))) h

-- a function expression ends with no arrow and no operator
pub func_ending : (at : ℕ) (x : Function) → form_of x ≡ form.Function → pieces.Operand ≡ ending (model.Func at x)
func_ending at (function f _ _ _ _ _ _ body) h = ap (λ g. if is_arrow_form g then body_ending body else pieces.Operand) (sym h)

-- and may begin a chain
pub func_rank : (at : ℕ) (x : Function) → form_of x ≡ form.Function → ranks.Head ≡ rank_of (model.Func at x)
func_rank at (function f _ _ _ _ _ _ _) h = ap (λ g. rank_by (if is_arrow_form g then 20 else 0)) (sym h)
  where
    rank_by : ℕ → Rank
    rank_by n = if nat_le n 1 then ranks.Head else if nat_le n left_rank then ranks.Left else if nat_le n update_rank then ranks.Update else ranks.Other

module _ {E B : Type 0} (i : Interpretation) (shows : E → Expr → Type 0) (shows_body : B → Stmts → Type 0) where
  body_shown : {A : Type 0} (start : ℕ) (v : NodeFuncBody E B) (f : Body → A) (k : A → Type 0) → FuncBodyOf i shows shows_body start v (λ b. k (f b)) → (x : A) × FuncBodyOf i shows shows_body start v (λ b. x ≡ f b) × k x
  body_shown start (bodies.Braced b) f k h = (_, (h.0, h.1, refl), h.2)
  body_shown start (bodies.Short e) f k h = (_, (h.0, h.1, refl), h.2)
  body_shown start bodies.Passed f k h = (_, refl, h)

  pub func_read : {rs qs : List Recorded} {us : List Lexeme} {r : Reply Function} (n : NodeFunc E B) → FuncOf i shows shows_body n (λ a. ReadAs rs r a qs us) → (x : Function) × ShowFunc i shows shows_body n x × ReadAs rs r x qs us
  func_read {rs = rs} {qs = qs} {us = us} {r = r} n h =
      let a = body_shown n.start n.body (λ b. function n.form n.start n.end (maybe_named i n.name) (params_of h.0) n.comma n.bare b) (λ x. ReadAs rs r x qs us) h.2 in (a.0, (h.0, h.1, a.1), a.2)

  pub body_maps : (start : ℕ) (v : NodeFuncBody E B) (k n : Body → Type 0) → ((b : Body) → k b → n b) → FuncBodyOf i shows shows_body start v k → FuncBodyOf i shows shows_body start v n
  body_maps start (bodies.Braced b) k n f h = (h.0, h.1, f _ h.2)
  body_maps start (bodies.Short e) k n f h = (h.0, h.1, f _ h.2)
  body_maps start bodies.Passed k n f h = f _ h

  -- a body that was read, and how it ends
  pub body_read : {rs qs : List Recorded} {us : List Lexeme} {r : Reply pure.BodyRead} {end : ℕ} {e : pieces.Ending} (start : ℕ) (v : NodeFuncBody E B)
      → FuncBodyOf i shows shows_body start v (λ b. (e ≡ body_ending b) × ReadAs rs r (record { body = b; end = end }) qs us)
      → (x : Body) × FuncBodyOf i shows shows_body start v (λ b. x ≡ b) × (e ≡ body_ending x) × ReadAs rs r (record { body = x; end = end }) qs us
  body_read {rs = rs} {qs = qs} {us = us} {r = r} {end = end} {e = e} start v h =
      let a = body_shown start v (λ b. b) (λ b. (e ≡ body_ending b) × ReadAs rs r (record { body = b; end = end }) qs us) h in (a.0, a.1, a.2.0, a.2.1)
