-- Other bodies change no early error that a node has by itself.
use Rattle.std.proofs.Common.{◌≡◌, ℕ, Bool, true, false, not, ◌||◌, ◌&&◌, nat_eq, Option, None, Some, List, [], ◌∷◌, ◌++◌, zero, suc, refl, sym, ap, ◌∙◌}
use Rattle.script_grammar.specs.declared.token.Decl.{Decl}
use Rattle.script_grammar.specs.declared.token.Decl.TheVariants as decl
use Rattle.script_grammar.specs.declared.token.word.TheConstants as word
use Rattle.script_grammar.specs.Tree as tree
use Rattle.script_grammar.specs.Tree.{Expr, MaybeExpr, no_expr, some_expr, Exprs, no_exprs, more_exprs, Tail, Tails, no_tails, more_tails, Key, Prop, Props, no_props, more_props, Params, no_params, more_params, Body, Binds, no_binds, more_binds}
use Rattle.grammar_parser_specs.specs.Filling.{fill, fill_exprs, fill_maybe, fill_tails, fill_key, fill_prop, fill_props, fill_params, fill_binds}
use Rattle.parse_track.specs.declared.region.Early.{Early}
use Rattle.parse_track.specs.Notes.{error, error_if, start_of, ends_in_property, is_target, target_error, is_name, delete_error, const_errors, proto_key, proto_of, proto_error, is_proto, later_protos, args_error, params_error}

module _ (bodies : ℕ → Body) where
  pub start_same : (e : Expr) → start_of (fill bodies e) ≡ start_of e
  start_same (tree.This at) = refl
  start_same (tree.Name name) = refl
  start_same (tree.Null at) = refl
  start_same (tree.True at) = refl
  start_same (tree.False at) = refl
  start_same (tree.Number at value) = refl
  start_same (tree.Str at end text) = refl
  start_same (tree.Template at first parts) = refl
  start_same (tree.Array at items comma) = refl
  start_same (tree.Object at props comma) = refl
  start_same (tree.Func at f) = refl
  start_same (tree.Paren at value) = refl
  start_same (tree.Chain head tails) = start_same head
  start_same (tree.New at callee args) = refl
  start_same (tree.Unary at op operand is_word) = refl
  start_same (tree.Update at op true operand) = refl
  start_same (tree.Update at op false operand) = start_same operand
  start_same (tree.Binary first rest) = start_same first
  start_same (tree.Cond test then_value else_value) = start_same test
  start_same (tree.Assign op target value) = start_same target
  start_same (tree.Comma no_exprs) = refl
  start_same (tree.Comma (more_exprs e rest)) = start_same e

  ends_same : (ts : Tails) → ends_in_property (fill_tails bodies ts) ≡ ends_in_property ts
  ends_same no_tails = refl
  ends_same (more_tails (tree.Dot text) no_tails) = refl
  ends_same (more_tails (tree.Index e) no_tails) = refl
  ends_same (more_tails (tree.Call items comma) no_tails) = refl
  ends_same (more_tails (tree.Dot text) (more_tails tail rest)) = ends_same (more_tails tail rest)
  ends_same (more_tails (tree.Index e) (more_tails tail rest)) = ends_same (more_tails tail rest)
  ends_same (more_tails (tree.Call items comma) (more_tails tail rest)) = ends_same (more_tails tail rest)

  is_target_same : (e : Expr) → is_target (fill bodies e) ≡ is_target e
  is_target_same (tree.This at) = refl
  is_target_same (tree.Name name) = refl
  is_target_same (tree.Null at) = refl
  is_target_same (tree.True at) = refl
  is_target_same (tree.False at) = refl
  is_target_same (tree.Number at value) = refl
  is_target_same (tree.Str at end text) = refl
  is_target_same (tree.Template at first parts) = refl
  is_target_same (tree.Array at items comma) = refl
  is_target_same (tree.Object at props comma) = refl
  is_target_same (tree.Func at f) = refl
  is_target_same (tree.Paren at value) = is_target_same value
  is_target_same (tree.Chain head tails) = ends_same tails
  is_target_same (tree.New at callee args) = refl
  is_target_same (tree.Unary at op operand is_word) = refl
  is_target_same (tree.Update at op prefix operand) = refl
  is_target_same (tree.Binary first rest) = refl
  is_target_same (tree.Cond test then_value else_value) = refl
  is_target_same (tree.Assign op target value) = refl
  is_target_same (tree.Comma items) = refl

  pub target_same : (e : Expr) → target_error (fill bodies e) ≡ target_error e
  target_same e = ap (λ (b : Bool). error_if (not b) 8 (start_of (fill bodies e))) (is_target_same e) ∙ ap (error_if (not (is_target e)) 8) (start_same e)

  is_name_same : (e : Expr) → is_name (fill bodies e) ≡ is_name e
  is_name_same (tree.This at) = refl
  is_name_same (tree.Name name) = refl
  is_name_same (tree.Null at) = refl
  is_name_same (tree.True at) = refl
  is_name_same (tree.False at) = refl
  is_name_same (tree.Number at value) = refl
  is_name_same (tree.Str at end text) = refl
  is_name_same (tree.Template at first parts) = refl
  is_name_same (tree.Array at items comma) = refl
  is_name_same (tree.Object at props comma) = refl
  is_name_same (tree.Func at f) = refl
  is_name_same (tree.Paren at value) = is_name_same value
  is_name_same (tree.Chain head tails) = refl
  is_name_same (tree.New at callee args) = refl
  is_name_same (tree.Unary at op operand is_word) = refl
  is_name_same (tree.Update at op prefix operand) = refl
  is_name_same (tree.Binary first rest) = refl
  is_name_same (tree.Cond test then_value else_value) = refl
  is_name_same (tree.Assign op target value) = refl
  is_name_same (tree.Comma items) = refl

  pub delete_same : (at op : ℕ) (is_word : Bool) (e : Expr) → delete_error at op is_word (fill bodies e) ≡ delete_error at op is_word e
  delete_same at op is_word e = ap (λ (b : Bool). error_if (is_word && (nat_eq op word.DELETE && b)) 10 at) (is_name_same e)

  pub const_same : (d : Decl) (bs : Binds) → const_errors d (fill_binds bodies bs) ≡ const_errors d bs
  const_same decl.Const no_binds = refl
  const_same decl.Const (more_binds name no_expr rest) = ap (λ (es : List Early). error 7 name.at ++ es) (const_same decl.Const rest)
  const_same decl.Const (more_binds name (some_expr value) rest) = const_same decl.Const rest
  const_same decl.Var bs = refl
  const_same decl.Let bs = refl

  key_same : (k : Key) → proto_key (fill_key bodies k) ≡ proto_key k
  key_same (tree.WordKey name) = refl
  key_same (tree.StrKey name) = refl
  key_same (tree.NumberKey at value) = refl
  key_same (tree.ComputedKey e) = refl

  proto_same : (p : Prop) → proto_of (fill_prop bodies p) ≡ proto_of p
  proto_same (tree.Short name) = refl
  proto_same (tree.Pair key value) = key_same key
  proto_same (tree.Method key f) = refl
  proto_same (tree.Get key f) = refl
  proto_same (tree.Set key f) = refl

  pub protos_same : (seen : Bool) (ps : Props) → later_protos seen (fill_props bodies ps) ≡ later_protos seen ps
  protos_same seen no_props = refl
  protos_same seen (more_props p ps) =
      ap (λ (o : Option ℕ). proto_error seen o ++ later_protos (seen || is_proto o) (fill_props bodies ps)) (proto_same p)
      ∙ ap (λ (es : List Early). proto_error seen (proto_of p) ++ es) (protos_same (seen || is_proto (proto_of p)) ps)

  pub args_same : (left : ℕ) (es : Exprs) → args_error left (fill_exprs bodies es) ≡ args_error left es
  args_same left no_exprs = refl
  args_same zero (more_exprs e rest) = ap (error 13) (start_same e)
  args_same (suc left) (more_exprs e rest) = args_same left rest

  pub params_same : (left : ℕ) (ps : Params) → params_error left (fill_params bodies ps) ≡ params_error left ps
  params_same left no_params = refl
  params_same zero (more_params name value rest more) = refl
  params_same (suc left) (more_params name value rest more) = params_same left more
