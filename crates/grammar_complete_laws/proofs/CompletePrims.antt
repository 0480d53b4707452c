-- Completeness of primary expressions.
use Rattle.std.proofs.Common.{◌≡◌, ℕ, ◌≤◌, List, [], ◌∷◌, refl, ap, ◌∙◌, arith, Bool, true, false, if◌then◌else◌}
use Rattle.script_grammar.specs.declared.token.Kind.TheVariants as kind
use Rattle.script_grammar.specs.declared.token.mark.TheConstants as mark
use Rattle.script_grammar.specs.declared.token.word.TheConstants as word
use Rattle.script_grammar.specs.declared.token.FuncForm.TheVariants as form
use Rattle.script_grammar.specs.Lexeme.{Lexeme}
use Rattle.script_grammar.specs.Tree.{Named, Expr, Function, function, MaybeArgs, Parts, no_parts, more_parts}
use Rattle.script_grammar.specs.Tree as tree
use Rattle.script_grammar.specs.Print.{print}
use Rattle.script_grammar.specs.Proper.{rank, new_rank, are_member_tails}
use Rattle.grammar_parser_specs.specs.Parser.{Read, ret}
use Rattle.grammar_parser_specs.specs.Exprs as parser
use Rattle.grammar_parser_specs.specs.Exprs.{Env, atom_case}
use Rattle.grammar_complete_laws.proofs.Completes.{Completes, Any, at_kind, c_ret, c_at}
use Rattle.grammar_complete_laws.proofs.CompleteStmts.{c_value, named_is}
use Rattle.grammar_complete_laws.proofs.CompleteParts.{CompleteEnv}
use Rattle.grammar_complete_laws.proofs.CompleteItems.{array_complete, template_complete}
use Rattle.grammar_complete_laws.proofs.CompleteObjects.{object_complete}
use Rattle.grammar_complete_laws.proofs.CompleteFunctions.{func_complete}
use Rattle.grammar_complete_laws.proofs.CompleteChains.{PrimComplete}
use Rattle.grammar_complete_laws.proofs.CompleteParens.{paren_complete}
use Rattle.grammar_parser_laws.proofs.ProperIn.{Mode, Proper}

above_none : (b : Bool) → (if b then 2 else 4) ≤ 0 → ⊥
above_none true h = omega (arith, h)
above_none false h = omega (arith, h)

new_none : (a : MaybeArgs) → new_rank a ≤ 0 → ⊥
new_none tree.no_args h = omega (arith, h)
new_none (tree.some_args es comma) h = omega (arith, h)

module _ (limit : ℕ) (m : Mode) (d : ℕ) (low : d ≤ limit) (v : Env) (c : CompleteEnv limit m d v) (heads : Bool) where
  name_at : (t : Lexeme) (ts : List Lexeme) → t.kind ≡ kind.Name → parser.prim_of v heads (t ∷ ts) ≡ Read (atom_case kind.Name t) [] ts
  unfolding parser.prim_of
  name_at t ts e = at_kind (λ u. parser.prim_of v heads (u ∷ ts) ≡ Read (atom_case kind.Name u) [] ts) kind.Name t e refl

  number_at : (t : Lexeme) (ts : List Lexeme) → t.kind ≡ kind.Number → parser.prim_of v heads (t ∷ ts) ≡ Read (atom_case kind.Number t) [] ts
  unfolding parser.prim_of
  number_at t ts e = at_kind (λ u. parser.prim_of v heads (u ∷ ts) ≡ Read (atom_case kind.Number u) [] ts) kind.Number t e refl

  str_at : (t : Lexeme) (ts : List Lexeme) → t.kind ≡ kind.Str → parser.prim_of v heads (t ∷ ts) ≡ Read (atom_case kind.Str t) [] ts
  unfolding parser.prim_of
  str_at t ts e = at_kind (λ u. parser.prim_of v heads (u ∷ ts) ≡ Read (atom_case kind.Str u) [] ts) kind.Str t e refl

  whole_at : (t : Lexeme) (ts : List Lexeme) → t.kind ≡ kind.TemplateWhole → parser.prim_of v heads (t ∷ ts) ≡ Read (atom_case kind.TemplateWhole t) [] ts
  unfolding parser.prim_of
  whole_at t ts e = at_kind (λ u. parser.prim_of v heads (u ∷ ts) ≡ Read (atom_case kind.TemplateWhole u) [] ts) kind.TemplateWhole t e refl

  this_at : (t : Lexeme) (ts : List Lexeme) → t.kind ≡ kind.Word word.THIS → parser.prim_of v heads (t ∷ ts) ≡ Read (tree.This t.start) [] ts
  unfolding parser.prim_of
  this_at t ts e = at_kind (λ u. parser.prim_of v heads (u ∷ ts) ≡ Read (tree.This u.start) [] ts) (kind.Word word.THIS) t e refl

  null_at : (t : Lexeme) (ts : List Lexeme) → t.kind ≡ kind.Word word.NULL → parser.prim_of v heads (t ∷ ts) ≡ Read (tree.Null t.start) [] ts
  unfolding parser.prim_of
  null_at t ts e = at_kind (λ u. parser.prim_of v heads (u ∷ ts) ≡ Read (tree.Null u.start) [] ts) (kind.Word word.NULL) t e refl

  true_at : (t : Lexeme) (ts : List Lexeme) → t.kind ≡ kind.Word word.TRUE → parser.prim_of v heads (t ∷ ts) ≡ Read (tree.True t.start) [] ts
  unfolding parser.prim_of
  true_at t ts e = at_kind (λ u. parser.prim_of v heads (u ∷ ts) ≡ Read (tree.True u.start) [] ts) (kind.Word word.TRUE) t e refl

  false_at : (t : Lexeme) (ts : List Lexeme) → t.kind ≡ kind.Word word.FALSE → parser.prim_of v heads (t ∷ ts) ≡ Read (tree.False t.start) [] ts
  unfolding parser.prim_of
  false_at t ts e = at_kind (λ u. parser.prim_of v heads (u ∷ ts) ≡ Read (tree.False u.start) [] ts) (kind.Word word.FALSE) t e refl

  paren_at : (t : Lexeme) (ts : List Lexeme) → t.kind ≡ kind.Mark mark.OPEN_PAREN → parser.prim_of v heads (t ∷ ts) ≡ parser.paren_of v heads t.start ts
  unfolding parser.prim_of
  paren_at t ts e = at_kind (λ u. parser.prim_of v heads (u ∷ ts) ≡ parser.paren_of v heads u.start ts) (kind.Mark mark.OPEN_PAREN) t e refl

  func_at : (t : Lexeme) (ts : List Lexeme) → t.kind ≡ kind.Word word.FUNCTION → parser.prim_of v heads (t ∷ ts) ≡ parser.func_of v t.start ts
  unfolding parser.prim_of
  func_at t ts e = at_kind (λ u. parser.prim_of v heads (u ∷ ts) ≡ parser.func_of v u.start ts) (kind.Word word.FUNCTION) t e refl

  array_at : (t : Lexeme) (ts : List Lexeme) → t.kind ≡ kind.Mark mark.OPEN_BRACKET → parser.prim_of v heads (t ∷ ts) ≡ parser.array_of v t.start ts
  unfolding parser.prim_of
  array_at t ts e = at_kind (λ u. parser.prim_of v heads (u ∷ ts) ≡ parser.array_of v u.start ts) (kind.Mark mark.OPEN_BRACKET) t e refl

  object_at : (t : Lexeme) (ts : List Lexeme) → t.kind ≡ kind.Mark mark.OPEN_BRACE → parser.prim_of v heads (t ∷ ts) ≡ parser.object_of v t.start ts
  unfolding parser.prim_of
  object_at t ts e = at_kind (λ u. parser.prim_of v heads (u ∷ ts) ≡ parser.object_of v u.start ts) (kind.Mark mark.OPEN_BRACE) t e refl

  head_at : (t : Lexeme) (ts : List Lexeme) → t.kind ≡ kind.TemplateHead → parser.prim_of v heads (t ∷ ts) ≡ parser.template_of v t.start t.text ts
  unfolding parser.prim_of
  head_at t ts e = at_kind (λ u. parser.prim_of v heads (u ∷ ts) ≡ parser.template_of v u.start u.text ts) kind.TemplateHead t e refl

  func_prim : (at : ℕ) (f : Function) → rank (tree.Func at f) ≤ 0 → Proper m (tree.Func at f) → Completes limit (print m.look d (tree.Func at f)) Any (parser.prim_of v heads) (tree.Func at f)
  func_prim at (function form.Function start end name ps comma false body) r h = c_at limit (λ t. parser.func_of v t.start) low (λ t ts s. func_at t ts s.kind) (λ t s. c_value (ap (λ x. tree.Func x (function form.Function start end name ps comma false body)) s.starts.0) (func_complete limit m d low v c t.start start end name ps comma body h.1))
  func_prim at (function form.Function start end name ps comma true body) r h = absurd h.1.2
  func_prim at (function form.Arrow start end name ps comma bare body) r h = absurd (omega (arith, r))
  func_prim at (function form.Script start end name ps comma bare body) r h = absurd h.0
  func_prim at (function form.Method start end name ps comma bare body) r h = absurd h.0
  func_prim at (function form.Getter start end name ps comma bare body) r h = absurd h.0
  func_prim at (function form.Setter start end name ps comma bare body) r h = absurd h.0

  pub prim_of_complete : (e : Expr) → rank e ≤ 0 → Proper m e → Completes limit (print m.look d e) Any (parser.prim_of v heads) e
  prim_of_complete (tree.This at) r h = c_at limit (λ t. ret (tree.This t.start)) low (λ t ts s. this_at t ts s.kind) (λ t s. c_value (ap tree.This s.starts.0) (c_ret limit (tree.This t.start)))
  prim_of_complete (tree.Name n) r h = c_at limit (λ t. ret (atom_case kind.Name t)) low (λ t ts s. name_at t ts s.kind) (λ t s. c_value (ap tree.Name (named_is n d t s.content s.starts.0)) (c_ret limit (atom_case kind.Name t)))
  prim_of_complete (tree.Null at) r h = c_at limit (λ t. ret (tree.Null t.start)) low (λ t ts s. null_at t ts s.kind) (λ t s. c_value (ap tree.Null s.starts.0) (c_ret limit (tree.Null t.start)))
  prim_of_complete (tree.True at) r h = c_at limit (λ t. ret (tree.True t.start)) low (λ t ts s. true_at t ts s.kind) (λ t s. c_value (ap tree.True s.starts.0) (c_ret limit (tree.True t.start)))
  prim_of_complete (tree.False at) r h = c_at limit (λ t. ret (tree.False t.start)) low (λ t ts s. false_at t ts s.kind) (λ t s. c_value (ap tree.False s.starts.0) (c_ret limit (tree.False t.start)))
  prim_of_complete (tree.Number at value) r h = c_at limit (λ t. ret (atom_case kind.Number t)) low (λ t ts s. number_at t ts s.kind) (λ t s. c_value (ap (λ x. tree.Number x t.number) s.starts.0 ∙ ap (tree.Number at) s.content) (c_ret limit (atom_case kind.Number t)))
  prim_of_complete (tree.Str at end x) r h = c_at limit (λ t. ret (atom_case kind.Str t)) low (λ t ts s. str_at t ts s.kind) (λ t s. c_value (ap (λ y. tree.Str y t.end t.text) s.starts.0 ∙ ap (λ y. tree.Str at y t.text) s.ends.0 ∙ ap (tree.Str at end) s.content) (c_ret limit (atom_case kind.Str t)))
  prim_of_complete (tree.Template at first no_parts) r h = c_at limit (λ t. ret (atom_case kind.TemplateWhole t)) low (λ t ts s. whole_at t ts s.kind) (λ t s. c_value (ap (λ y. tree.Template y t.text no_parts) s.starts.0 ∙ ap (λ y. tree.Template at y no_parts) s.content) (c_ret limit (atom_case kind.TemplateWhole t)))
  prim_of_complete (tree.Template at first (more_parts e x ps)) r h = c_at limit (λ t. parser.template_of v t.start t.text) low (λ t ts s. head_at t ts s.kind) (λ t s. c_value (ap (λ y. tree.Template y t.text (more_parts e x ps)) s.starts.0 ∙ ap (λ y. tree.Template at y (more_parts e x ps)) s.content) (template_complete limit m d low v c t.start t.text e x ps h))
  prim_of_complete (tree.Array at is comma) r h = c_at limit (λ t. parser.array_of v t.start) low (λ t ts s. array_at t ts s.kind) (λ t s. c_value (ap (λ x. tree.Array x is comma) s.starts.0) (array_complete limit m d low v c t.start is comma h.0 h.1))
  prim_of_complete (tree.Object at ps comma) r h = c_at limit (λ t. parser.object_of v t.start) low (λ t ts s. object_at t ts s.kind) (λ t s. c_value (ap (λ x. tree.Object x ps comma) s.starts.0) (object_complete limit m d low v c t.start ps comma h.0 h.1))
  prim_of_complete (tree.Func at f) r h = func_prim at f r h
  prim_of_complete (tree.Paren at inner) r h = c_at limit (λ t. parser.paren_of v heads t.start) low (λ t ts s. paren_at t ts s.kind) (λ t s. c_value (ap (λ x. tree.Paren x inner) s.starts.0) (paren_complete limit m d low v c heads t.start inner h))
  prim_of_complete (tree.Chain head tails) r h = absurd (above_none (are_member_tails tails) r)
  prim_of_complete (tree.New at callee args) r h = absurd (new_none args r)
  prim_of_complete (tree.Unary at op of is_word) r h = absurd (omega (arith, r))
  prim_of_complete (tree.Update at op prefix of) r h = absurd (omega (arith, r))
  prim_of_complete (tree.Binary first rest) r h = absurd (omega (arith, r))
  prim_of_complete (tree.Cond test a b) r h = absurd (omega (arith, r))
  prim_of_complete (tree.Assign op target value) r h = absurd (omega (arith, r))
  prim_of_complete (tree.Comma es) r h = absurd (omega (arith, r))

pub prim_complete : (limit : ℕ) (m : Mode) (d : ℕ) → d ≤ limit → (v : Env) → CompleteEnv limit m d v → PrimComplete limit m d v
prim_complete limit m d low v c heads e r h = prim_of_complete limit m d low v c heads e r h
