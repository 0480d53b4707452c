-- Completeness of properties and objects: at their lexemes they are read.
use Rattle.std.proofs.Common.{◌≡◌, ℕ, suc, ◌≤◌, ◌<◌, List, [], ◌∷◌, ◌++◌, length, refl, sym, ap, ◌∙◌, subst, arith, append_assoc, append-nil, Bool, true, false, ◌||◌, None, ◌⊎◌, inl, inr}
use Rattle.script_grammar.specs.declared.token.Kind.{Kind}
use Rattle.script_grammar.specs.declared.token.Kind.TheVariants as kind
use Rattle.script_grammar.specs.declared.token.mark.TheConstants as mark
use Rattle.script_grammar.specs.declared.token.FuncForm.{FuncForm}
use Rattle.script_grammar.specs.declared.token.FuncForm.TheVariants as form
use Rattle.script_grammar.specs.Lexeme.{Lexeme}
use Rattle.script_grammar.specs.Kinds.{is_mark, is_name, is_any_word}
use Rattle.script_grammar.specs.Tree.{Named, Expr, MaybeExpr, no_expr, some_expr, Params, no_params, more_params, Function, function, Body, BracedBody, ShortBody, Stmts}
use Rattle.script_grammar.specs.Tree as tree
use Rattle.script_grammar.specs.Pieces.{Piece, mark_piece, name_piece, comma_piece}
use Rattle.script_grammar.specs.Endings.{ending}
use Rattle.script_grammar.specs.Print.{print, print_function}
use Rattle.script_grammar.specs.Proper.{rank, BareIf}
use Rattle.grammar_parser_specs.specs.Parser.{Read, Parser, head_of, after, ret, bad, bind, step, when, Turn, Again, Stop, stopped, begun, led}
use Rattle.grammar_parser_specs.specs.Exprs as parser
use Rattle.grammar_parser_specs.specs.Exprs.{Env, AnAssign, ParamsEnd, Plain, Trailing, Rest, Head, BodyRead, expect, name_of, named, param, rest_param, ended_params, is_trailing, head_case, function_case, is_simple}
use Rattle.grammar_parser_specs.specs.Follow.{continues_assign}
use Rattle.grammar_parser_laws.proofs.Friendly.{first_of}
use Rattle.grammar_parser_laws.proofs.Tests.{false_true}
use Rattle.grammar_parser_laws.proofs.Stands.{Marked, lexemes, Stands}
use Rattle.grammar_parser_laws.proofs.Complete.{bare, AllK, flat}
use Rattle.grammar_complete_laws.proofs.Completes.{Completes, Leads, at_kind, lead_none, lead_at, lead_any, lead_map, c_ret, c_bind, c_made, c_at, c_front, c_look, c_weaken, c_pieces, c_mark}
use Rattle.grammar_complete_laws.proofs.CompleteLoops.{c_loop, LastLeads}
use Rattle.grammar_complete_laws.proofs.CompleteStmts.{c_value}
use Rattle.grammar_complete_laws.proofs.Stops.{stop_brace, stop_comma, stop_assign}
use Rattle.grammar_complete_laws.proofs.CompleteParts.{CompleteEnv}
use Rattle.script_grammar.specs.Kinds.{is_get, is_set, is_str, is_number}
use Rattle.script_grammar.specs.Lexeme.{get_role, set_role}
use Rattle.script_grammar.specs.Tree.{Key, Prop, Props, no_props, more_props}
use Rattle.script_grammar.specs.TreeLists.{props_of}
use Rattle.script_grammar.specs.Pieces.{any_word}
use Rattle.script_grammar.specs.Print.{print_key, print_prop, print_props, print_more_props}
use Rattle.script_grammar.specs.Proper.{HasProps, IsNamelessOf, assign_rank}
use Rattle.grammar_parser_laws.proofs.Tests.{bool_cases, name_known, or_left, or_right, mark_known, or_cases, neither_left, neither_right}
use Rattle.grammar_complete_laws.proofs.CompleteStmts.{named_is}
use Rattle.grammar_complete_laws.proofs.CompleteItems.{stop_bracket}
use Rattle.grammar_complete_laws.proofs.CompleteFunctions.{PlainForm, function_complete}
use Rattle.grammar_parser_laws.proofs.ProperIn.{Mode, Proper, ProperFunction, ProperKey, ProperProp, ProperProps}

-- parameters in parentheses
abbrev PlainFunction : Function → Type 0
PlainFunction (function g start end name ps comma false body) = Unit {0}
PlainFunction (function g start end name ps comma true body) = ⊥

module _ (limit : ℕ) (m : Mode) (d : ℕ) (low : d ≤ limit) (v : Env) (c : CompleteEnv limit m d v) where
  -- keys

  key_word : (t : Lexeme) (ts : List Lexeme) → is_any_word t.kind ≡ true → parser.key_of v (t ∷ ts) ≡ Read (tree.WordKey (named t)) [] ts
  unfolding parser.key_of
  key_word t ts h = ap (λ x. when x (step (ret (tree.WordKey (named t)))) (when (is_str t.kind) (step (ret (tree.StrKey (named t)))) (when (is_number t.kind) (step (ret (tree.NumberKey t.start t.number))) (when (is_mark mark.OPEN_BRACKET t.kind) (step (parser.computed_of v)) bad))) (t ∷ ts)) h

  key_str : (t : Lexeme) (ts : List Lexeme) → t.kind ≡ kind.Str → parser.key_of v (t ∷ ts) ≡ Read (tree.StrKey (named t)) [] ts
  unfolding parser.key_of
  key_str t ts e = at_kind (λ u. parser.key_of v (u ∷ ts) ≡ Read (tree.StrKey (named u)) [] ts) kind.Str t e refl

  key_number : (t : Lexeme) (ts : List Lexeme) → t.kind ≡ kind.Number → parser.key_of v (t ∷ ts) ≡ Read (tree.NumberKey t.start t.number) [] ts
  unfolding parser.key_of
  key_number t ts e = at_kind (λ u. parser.key_of v (u ∷ ts) ≡ Read (tree.NumberKey u.start u.number) [] ts) kind.Number t e refl

  key_bracket : (t : Lexeme) (ts : List Lexeme) → t.kind ≡ kind.Mark mark.OPEN_BRACKET → parser.key_of v (t ∷ ts) ≡ parser.computed_of v ts
  unfolding parser.key_of
  key_bracket t ts e = at_kind (λ u. parser.key_of v (u ∷ ts) ≡ parser.computed_of v ts) (kind.Mark mark.OPEN_BRACKET) t e refl

  computed_complete : {F : Lexeme → Type 0} (e : Expr) → rank e ≤ assign_rank → Proper m e → Completes limit (print m.look (suc d) e ++ mark_piece mark.CLOSE_BRACKET d ∷ []) F (parser.computed_of v) (tree.ComputedKey e)
  unfolding parser.computed_of
  computed_complete e r h = c_bind limit (λ x. bind (expect mark.CLOSE_BRACKET) (λ _. ret (tree.ComputedKey x))) (c.calls.assign true e r h refl) (lead_at (λ t s. stop_bracket limit m d low v c true e t s.kind)) (c_made limit (λ _. tree.ComputedKey e) (c_mark limit mark.CLOSE_BRACKET d low refl))

  pub key_complete : {F : Lexeme → Type 0} (k : Key) → ProperKey m k → Completes limit (print_key m.look d k) F (parser.key_of v) k
  key_complete (tree.WordKey n) h = c_at limit (λ t. ret (tree.WordKey (named t))) low (λ t ts s. key_word t ts s.kind) (λ t s. c_value (ap tree.WordKey (named_is n d t s.content s.starts.0)) (c_ret limit (tree.WordKey (named t))))
  key_complete (tree.StrKey n) h = c_at limit (λ t. ret (tree.StrKey (named t))) low (λ t ts s. key_str t ts s.kind) (λ t s. c_value (ap tree.StrKey (named_is n d t s.content s.starts.0)) (c_ret limit (tree.StrKey (named t))))
  key_complete (tree.NumberKey at value) h = c_at limit (λ t. ret (tree.NumberKey t.start t.number)) low (λ t ts s. key_number t ts s.kind) (λ t s. c_value (ap (λ x. tree.NumberKey x t.number) s.starts.0 ∙ ap (tree.NumberKey at) s.content) (c_ret limit (tree.NumberKey t.start t.number)))
  key_complete (tree.ComputedKey e) h = c_at limit (λ t. parser.computed_of v) low (λ t ts s. key_bracket t ts s.kind) (λ t s. computed_complete e h.0 h.1)

  -- after a key

  -- what may follow a property: a comma or the closing brace
  abbrev pub PropFollow : Lexeme → Type 0
  PropFollow t = (is_mark mark.COMMA t.kind || is_mark mark.CLOSE_BRACE t.kind) ≡ true

  colon_here : (k : Key) (t : Lexeme) (ts : List Lexeme) → t.kind ≡ kind.Mark mark.COLON → parser.keyed_of v k (t ∷ ts) ≡ bind (v.sub (AnAssign true)) (λ e. ret (tree.Pair k e)) ts
  unfolding parser.keyed_of
  colon_here k t ts e = at_kind (λ u. parser.keyed_of v k (u ∷ ts) ≡ bind (v.sub (AnAssign true)) (λ e. ret (tree.Pair k e)) ts) (kind.Mark mark.COLON) t e refl

  method_here : (k : Key) (t : Lexeme) (ts : List Lexeme) → t.kind ≡ kind.Mark mark.OPEN_PAREN → parser.keyed_of v k (t ∷ ts) ≡ bind (parser.function_of v form.Method None) (λ f. ret (tree.Method k f)) (t ∷ ts)
  unfolding parser.keyed_of
  method_here k t ts e = at_kind (λ u. parser.keyed_of v k (u ∷ ts) ≡ bind (parser.function_of v form.Method None) (λ f. ret (tree.Method k f)) (u ∷ ts)) (kind.Mark mark.OPEN_PAREN) t e refl

  stop_prop : (e : Expr) (t : Lexeme) → PropFollow t → continues_assign true (ending e) t ≡ false
  stop_prop e t h = or_cases (is_mark mark.COMMA t.kind) (is_mark mark.CLOSE_BRACE t.kind) h (λ k. stop_comma true (ending e) t (mark_known mark.COMMA t.kind k)) (λ k. stop_assign true (ending e) t (stop_brace true (ending e) t (mark_known mark.CLOSE_BRACE t.kind k)))

  pair_complete : (k : Key) (e : Expr) → rank e ≤ assign_rank → Proper m e → Completes limit (mark_piece mark.COLON d ∷ print m.look (suc d) e) PropFollow (parser.keyed_of v k) (tree.Pair k e)
  pair_complete k e r h = c_at limit (λ t. bind (v.sub (AnAssign true)) (λ x. ret (tree.Pair k x))) low (λ t ts s. colon_here k t ts s.kind) (λ t s. c_made limit (tree.Pair k) (c_weaken limit (λ t g. stop_prop e t g) (c.calls.assign true e r h refl)))

  -- a function from its parameters on begins with a parenthesis
  paren_first : (f : Function) → PlainFunction f → (x : Marked) (w : List Marked) (n : Lexeme) → Stands (print_function m.look d f) (x ∷ w) n → x.lexeme.kind ≡ kind.Mark mark.OPEN_PAREN
  paren_first (function g start end name ps comma false body) p x w n h = h.0.kind
  paren_first (function g start end name ps comma true body) p x w n h = absurd p

  paren_some : (f : Function) → PlainFunction f → (w : List Marked) (n : Lexeme) → Stands (print_function m.look d f) w n → 0 < length (lexemes w)
  paren_some (function g start end name ps comma false body) p [] n h = absurd h
  paren_some (function g start end name ps comma true body) p w n h = absurd p
  paren_some (function g start end name ps comma false body) p (x ∷ w) n h = omega arith

  plain_function : (g : FuncForm) → PlainForm g → (f : Function) → IsNamelessOf g f → ProperFunction m f → PlainFunction f
  plain_function g i (function g2 start end name ps comma false body) h k = tt
  plain_function g i (function g2 start end name ps comma true body) h k = by g i (subst (λ x. BareIf true x start ps comma) h.0 k.2)
    where
      by : (x : FuncForm) → PlainForm x → BareIf true x start ps comma → ⊥
      by form.Function i b = b
      by form.Method i b = b
      by form.Getter i b = b
      by form.Setter i b = b
      by form.Script i b = i
      by form.Arrow i b = i

  nameless_complete : {F : Lexeme → Type 0} (g : FuncForm) → PlainForm g → (f : Function) → IsNamelessOf g f → ProperFunction m f → Completes limit (print_function m.look d f) F (parser.function_of v g None) f
  nameless_complete {F = F} g i (function g2 start end name ps comma bare body) h k =
      subst (λ x. ProperFunction m (function x start end name ps comma bare body) → Completes limit (print_function m.look d (function x start end name ps comma bare body)) F (parser.function_of v g None) (function x start end name ps comma bare body)) (sym h.0)
      (subst (λ y. ProperFunction m (function g start end y ps comma bare body) → Completes limit (print_function m.look d (function g start end y ps comma bare body)) F (parser.function_of v g None) (function g start end y ps comma bare body)) (sym h.1)
      (λ p. function_complete limit m d low v c g None i start end ps comma bare body p)) k

  method_complete : {F : Lexeme → Type 0} (k : Key) (f : Function) → IsNamelessOf form.Method f → ProperFunction m f → Completes limit (print_function m.look d f) F (parser.keyed_of v k) (tree.Method k f)
  method_complete k f h p = let q = plain_function form.Method tt f h p in c_front limit (bind (parser.function_of v form.Method None) (λ g. ret (tree.Method k g))) (λ x w rest s g. method_here k x.lexeme (lexemes w ++ rest) (paren_first f q x w (head_of rest) s)) (paren_some f q) (c_made limit (tree.Method k) (nameless_complete form.Method tt f h p))

  -- after a name

  abbrev Valued : Lexeme → Type 0
  Valued t = parser.begins_value t.kind ≡ true

  begun_by : (k : Kind) → is_mark mark.COMMA k ≡ true → parser.begins_value k ≡ false
  begun_by k h = ap parser.begins_value (mark_known mark.COMMA k h)

  closed_by : (k : Kind) → is_mark mark.CLOSE_BRACE k ≡ true → parser.begins_value k ≡ false
  closed_by k h = ap parser.begins_value (mark_known mark.CLOSE_BRACE k h)

  follow_value : (t : Lexeme) → PropFollow t → parser.begins_value t.kind ≡ false
  follow_value t h = or_cases (is_mark mark.COMMA t.kind) (is_mark mark.CLOSE_BRACE t.kind) h (begun_by t.kind) (closed_by t.kind)

  follow_ends : (t : Lexeme) → PropFollow t → parser.ends_key t.kind ≡ true
  follow_ends t h = or_left (is_mark mark.COMMA t.kind || is_mark mark.CLOSE_BRACE t.kind) (parser.begins_value t.kind) h

  value_ends : (t : Lexeme) → Valued t → parser.ends_key t.kind ≡ true
  value_ends t h = or_right (is_mark mark.COMMA t.kind || is_mark mark.CLOSE_BRACE t.kind) (parser.begins_value t.kind) h

  short_none : (n : Named) (rest : List Lexeme) → parser.begins_value (head_of rest).kind ≡ false → parser.short_of v n rest ≡ Read (tree.Short n) [] rest
  unfolding parser.short_of
  short_none n rest h = ap (λ x. when x (parser.keyed_of v (tree.WordKey n)) (ret (tree.Short n)) rest) h

  short_keyed : (n : Named) (rest : List Lexeme) → parser.begins_value (head_of rest).kind ≡ true → parser.short_of v n rest ≡ parser.keyed_of v (tree.WordKey n) rest
  unfolding parser.short_of
  short_keyed n rest h = ap (λ x. when x (parser.keyed_of v (tree.WordKey n)) (ret (tree.Short n)) rest) h

  own_key : (n : Named) (f : Parser Prop) (rest : List Lexeme) → parser.ends_key (head_of rest).kind ≡ true → parser.accessor_of v n f rest ≡ parser.short_of v n rest
  unfolding parser.accessor_of
  own_key n f rest h = ap (λ x. when x (parser.short_of v n) f rest) h

  accessor_goes : (n : Named) (f : Parser Prop) (rest : List Lexeme) → parser.ends_key (head_of rest).kind ≡ false → parser.accessor_of v n f rest ≡ f rest
  unfolding parser.accessor_of
  accessor_goes n f rest h = ap (λ x. when x (parser.short_of v n) f rest) h

  role_by : (g s : Bool) (t : Lexeme) (rest : List Lexeme) → parser.ends_key (head_of rest).kind ≡ true → when g (parser.accessor_of v (named t) (parser.getter_of v)) (when s (parser.accessor_of v (named t) (parser.setter_of v)) (parser.short_of v (named t))) rest ≡ parser.short_of v (named t) rest
  role_by true s t rest h = own_key (named t) (parser.getter_of v) rest h
  role_by false true t rest h = own_key (named t) (parser.setter_of v) rest h
  role_by false false t rest h = refl

  -- whatever its role, a name is a key of its own there
  name_own : (t : Lexeme) (rest : List Lexeme) → parser.ends_key (head_of rest).kind ≡ true → parser.name_prop v t rest ≡ parser.short_of v (named t) rest
  name_own t rest h = role_by (is_get t.role) (is_set t.role) t rest h

  -- a property

  prop_name : (t : Lexeme) (ts : List Lexeme) → t.kind ≡ kind.Name → parser.prop_of v (t ∷ ts) ≡ parser.name_prop v t ts
  unfolding parser.prop_of
  prop_name t ts e = at_kind (λ u. parser.prop_of v (u ∷ ts) ≡ parser.name_prop v u ts) kind.Name t e refl

  prop_key : (t : Lexeme) (ts : List Lexeme) → is_name t.kind ≡ false → parser.prop_of v (t ∷ ts) ≡ bind (parser.key_of v) (parser.keyed_of v) (t ∷ ts)
  unfolding parser.prop_of
  prop_key t ts h = ap (λ x. when x (step (parser.name_prop v t)) (bind (parser.key_of v) (parser.keyed_of v)) (t ∷ ts)) h

  short_complete : (n : Named) → Completes limit (name_piece n d ∷ []) PropFollow (parser.prop_of v) (tree.Short n)
  short_complete n = c_at limit (λ t. parser.name_prop v t) low (λ t ts s. prop_name t ts s.kind) (λ t s. c_look limit (λ rest g. ap bare (name_own t rest (follow_ends (head_of rest) g) ∙ short_none (named t) rest (follow_value (head_of rest) g)) ∙ ap (λ x. Read (tree.Short x) [] rest) (named_is n d t s.content s.starts.0)))

  -- a name or a word as a key, and what is after it
  word_key_by : (b : Bool) (t : Lexeme) (qs : List Piece) (a : Prop) → ((x : Marked) (w : List Marked) (n : Lexeme) → Stands qs (x ∷ w) n → Valued x.lexeme) → ((w : List Marked) (n : Lexeme) → Stands qs w n → 0 < length (lexemes w)) → Completes limit qs PropFollow (parser.keyed_of v (tree.WordKey (named t))) a → Completes limit qs PropFollow (when b (parser.name_prop v t) (parser.keyed_of v (tree.WordKey (named t)))) a
  word_key_by true t qs a first some k = c_front limit (parser.keyed_of v (tree.WordKey (named t))) (λ x w rest s g. name_own t (x.lexeme ∷ (lexemes w ++ rest)) (value_ends x.lexeme (first x w (head_of rest) s)) ∙ short_keyed (named t) (x.lexeme ∷ (lexemes w ++ rest)) (first x w (head_of rest) s)) some k
  word_key_by false t qs a first some k = k

  word_here : (t : Lexeme) (ts : List Lexeme) → is_any_word t.kind ≡ true → parser.prop_of v (t ∷ ts) ≡ when (is_name t.kind) (parser.name_prop v t) (parser.keyed_of v (tree.WordKey (named t))) ts
  word_here t ts h = by (bool_cases (is_name t.kind))
    where
      by : (is_name t.kind ≡ true) ⊎ (is_name t.kind ≡ false) → parser.prop_of v (t ∷ ts) ≡ when (is_name t.kind) (parser.name_prop v t) (parser.keyed_of v (tree.WordKey (named t))) ts
      by (inl e) = prop_name t ts (name_known t.kind e) ∙ sym (ap (λ x. when x (parser.name_prop v t) (parser.keyed_of v (tree.WordKey (named t))) ts) e)
      by (inr e) = prop_key t ts e ∙ ap (λ r. after r (parser.keyed_of v)) (key_word t ts h) ∙ sym (ap (λ x. when x (parser.name_prop v t) (parser.keyed_of v (tree.WordKey (named t))) ts) e)

  word_key : (n : Named) (qs : List Piece) (f : Key → Prop) → ((x : Marked) (w : List Marked) (n : Lexeme) → Stands qs (x ∷ w) n → Valued x.lexeme) → ((w : List Marked) (n : Lexeme) → Stands qs w n → 0 < length (lexemes w)) → ((k : Key) → Completes limit qs PropFollow (parser.keyed_of v k) (f k)) → Completes limit (any_word (n.at ∷ []) n.text d ∷ qs) PropFollow (parser.prop_of v) (f (tree.WordKey n))
  word_key n qs f first some k = c_at limit (λ t. when (is_name t.kind) (parser.name_prop v t) (parser.keyed_of v (tree.WordKey (named t)))) low (λ t ts s. word_here t ts s.kind) (λ t s. c_value (ap (λ x. f (tree.WordKey x)) (named_is n d t s.content s.starts.0)) (word_key_by (is_name t.kind) t qs (f (tree.WordKey (named t))) first some (k (tree.WordKey (named t)))))

  key_some : (k : Key) (qs : List Piece) (w : List Marked) (n : Lexeme) → Stands (print_key m.look d k ++ qs) w n → 0 < length (lexemes w)
  key_some (tree.WordKey x) qs [] n h = absurd h
  key_some (tree.StrKey x) qs [] n h = absurd h
  key_some (tree.NumberKey at value) qs [] n h = absurd h
  key_some (tree.ComputedKey e) qs [] n h = absurd h
  key_some k qs (x ∷ w) n h = omega arith

  any_ends : (k : Kind) → is_any_word k ≡ true → parser.ends_key k ≡ false
  any_ends kind.Name h = refl
  any_ends (kind.Word j) h = refl
  any_ends kind.Number h = refl
  any_ends kind.Str h = refl
  any_ends kind.TemplateWhole h = refl
  any_ends kind.TemplateHead h = refl
  any_ends kind.TemplateMiddle h = refl
  any_ends kind.TemplateTail h = refl
  any_ends (kind.Mark j) h = absurd (false_true h)
  any_ends kind.Bad h = refl
  any_ends kind.End h = refl

  key_first : (k : Key) (qs : List Piece) (x : Marked) (w : List Marked) (n : Lexeme) → Stands (print_key m.look d k ++ qs) (x ∷ w) n → parser.ends_key x.lexeme.kind ≡ false
  key_first (tree.WordKey y) qs x w n h = any_ends x.lexeme.kind h.0.kind
  key_first (tree.StrKey y) qs x w n h = ap parser.ends_key h.0.kind
  key_first (tree.NumberKey at value) qs x w n h = ap parser.ends_key h.0.kind
  key_first (tree.ComputedKey e) qs x w n h = ap parser.ends_key h.0.kind

  -- another key
  other_key : (k : Key) (qs : List Piece) (a : Prop) → ProperKey m k → ((x : Marked) (w : List Marked) (n : Lexeme) → Stands (print_key m.look d k ++ qs) (x ∷ w) n → is_name x.lexeme.kind ≡ false) → Completes limit qs PropFollow (parser.keyed_of v k) a → Completes limit (print_key m.look d k ++ qs) PropFollow (parser.prop_of v) a
  other_key k qs a h no_name c2 = c_front limit (bind (parser.key_of v) (parser.keyed_of v)) (λ x w rest s g. prop_key x.lexeme (lexemes w ++ rest) (no_name x w (head_of rest) s)) (key_some k qs) (c_bind limit (parser.keyed_of v) (key_complete k h) lead_any c2)

  keyed : (k : Key) (qs : List Piece) (f : Key → Prop) → ProperKey m k → ((x : Marked) (w : List Marked) (n : Lexeme) → Stands qs (x ∷ w) n → Valued x.lexeme) → ((w : List Marked) (n : Lexeme) → Stands qs w n → 0 < length (lexemes w)) → ((k : Key) → Completes limit qs PropFollow (parser.keyed_of v k) (f k)) → Completes limit (print_key m.look d k ++ qs) PropFollow (parser.prop_of v) (f k)
  keyed (tree.WordKey n) qs f h first some k = word_key n qs f first some k
  keyed (tree.StrKey n) qs f h first some k = other_key (tree.StrKey n) qs (f (tree.StrKey n)) h (λ x w n s. ap is_name s.0.kind) (k (tree.StrKey n))
  keyed (tree.NumberKey at value) qs f h first some k = other_key (tree.NumberKey at value) qs (f (tree.NumberKey at value)) h (λ x w n s. ap is_name s.0.kind) (k (tree.NumberKey at value))
  keyed (tree.ComputedKey e) qs f h first some k = other_key (tree.ComputedKey e) qs (f (tree.ComputedKey e)) h (λ x w n s. ap is_name s.0.kind) (k (tree.ComputedKey e))

  colon_some : (ps : List Piece) (w : List Marked) (n : Lexeme) → Stands (mark_piece mark.COLON d ∷ ps) w n → 0 < length (lexemes w)
  colon_some ps [] n h = absurd h
  colon_some ps (x ∷ w) n h = omega arith

  -- accessors

  get_here : (t : Lexeme) (ts : List Lexeme) → t.kind ≡ kind.Name → t.role ≡ get_role → parser.prop_of v (t ∷ ts) ≡ parser.accessor_of v (named t) (parser.getter_of v) ts
  get_here t ts e r = prop_name t ts e ∙ ap (λ x. when (is_get x) (parser.accessor_of v (named t) (parser.getter_of v)) (when (is_set x) (parser.accessor_of v (named t) (parser.setter_of v)) (parser.short_of v (named t))) ts) r

  set_here : (t : Lexeme) (ts : List Lexeme) → t.kind ≡ kind.Name → t.role ≡ set_role → parser.prop_of v (t ∷ ts) ≡ parser.accessor_of v (named t) (parser.setter_of v) ts
  set_here t ts e r = prop_name t ts e ∙ ap (λ x. when (is_get x) (parser.accessor_of v (named t) (parser.getter_of v)) (when (is_set x) (parser.accessor_of v (named t) (parser.setter_of v)) (parser.short_of v (named t))) ts) r

  getter_complete : {F : Lexeme → Type 0} (k : Key) (f : Function) → ProperKey m k → IsNamelessOf form.Getter f → ProperFunction m f → Completes limit (print_key m.look d k ++ print_function m.look d f) F (parser.getter_of v) (tree.Get k f)
  unfolding parser.getter_of
  getter_complete k f h i p = c_bind limit (λ x. bind (parser.function_of v form.Getter None) (λ g. ret (tree.Get x g))) (key_complete k h) lead_any (c_made limit (tree.Get k) (nameless_complete form.Getter tt f i p))

  setter_complete : {F : Lexeme → Type 0} (k : Key) (f : Function) → ProperKey m k → IsNamelessOf form.Setter f → ProperFunction m f → Completes limit (print_key m.look d k ++ print_function m.look d f) F (parser.setter_of v) (tree.Set k f)
  unfolding parser.setter_of
  setter_complete k f h i p = c_bind limit (λ x. bind (parser.function_of v form.Setter None) (λ g. ret (tree.Set x g))) (key_complete k h) lead_any (c_made limit (tree.Set k) (nameless_complete form.Setter tt f i p))

  pub prop_complete : (p : Prop) → ProperProp m p → Completes limit (print_prop m.look d p) PropFollow (parser.prop_of v) p
  prop_complete (tree.Short n) h = short_complete n
  prop_complete (tree.Pair k e) h = keyed k (mark_piece mark.COLON d ∷ print m.look (suc d) e) (λ x. tree.Pair x e) h.0 (λ x w n s. ap parser.begins_value s.0.kind) (colon_some (print m.look (suc d) e)) (λ x. pair_complete x e h.1 h.2)
  prop_complete (tree.Method k f) h = let q = plain_function form.Method tt f h.1 h.2 in keyed k (print_function m.look d f) (λ x. tree.Method x f) h.0 (λ x w n s. ap parser.begins_value (paren_first f q x w n s)) (paren_some f q) (λ x. method_complete x f h.1 h.2)
  prop_complete (tree.Get k f) h = c_at limit (λ t. parser.accessor_of v (named t) (parser.getter_of v)) low (λ t ts s. get_here t ts s.kind s.content) (λ t s. c_front limit (parser.getter_of v) (λ x w rest q g. accessor_goes (named t) (parser.getter_of v) (x.lexeme ∷ (lexemes w ++ rest)) (key_first k (print_function m.look d f) x w (head_of rest) q)) (key_some k (print_function m.look d f)) (getter_complete k f h.0 h.1 h.2))
  prop_complete (tree.Set k f) h = c_at limit (λ t. parser.accessor_of v (named t) (parser.setter_of v)) low (λ t ts s. set_here t ts s.kind s.content) (λ t s. c_front limit (parser.setter_of v) (λ x w rest q g. accessor_goes (named t) (parser.setter_of v) (x.lexeme ∷ (lexemes w ++ rest)) (key_first k (print_function m.look d f) x w (head_of rest) q)) (key_some k (print_function m.look d f)) (setter_complete k f h.0 h.1 h.2))

  -- the first lexeme of a property does not end the object
  prop_first : (p : Prop) (qs : List Piece) (x : Marked) (w : List Marked) (n : Lexeme) → Stands (print_prop m.look d p ++ qs) (x ∷ w) n → is_mark mark.CLOSE_BRACE x.lexeme.kind ≡ false
  prop_first (tree.Short y) qs x w n h = ap (is_mark mark.CLOSE_BRACE) h.0.kind
  prop_first (tree.Pair k e) qs x w n h = key_not k (mark_piece mark.COLON d ∷ print m.look (suc d) e) qs x w n h
    where
      key_not : (k : Key) (ps qs : List Piece) (x : Marked) (w : List Marked) (n : Lexeme) → Stands ((print_key m.look d k ++ ps) ++ qs) (x ∷ w) n → is_mark mark.CLOSE_BRACE x.lexeme.kind ≡ false
      key_not (tree.WordKey y) ps qs x w n h = neither_right (is_mark mark.COMMA x.lexeme.kind) (is_mark mark.CLOSE_BRACE x.lexeme.kind) (neither_left (is_mark mark.COMMA x.lexeme.kind || is_mark mark.CLOSE_BRACE x.lexeme.kind) (parser.begins_value x.lexeme.kind) (any_ends x.lexeme.kind h.0.kind))
      key_not (tree.StrKey y) ps qs x w n h = ap (is_mark mark.CLOSE_BRACE) h.0.kind
      key_not (tree.NumberKey at value) ps qs x w n h = ap (is_mark mark.CLOSE_BRACE) h.0.kind
      key_not (tree.ComputedKey e) ps qs x w n h = ap (is_mark mark.CLOSE_BRACE) h.0.kind
  prop_first (tree.Method k f) qs x w n h = key_not k (print_function m.look d f) qs x w n h
    where
      key_not : (k : Key) (ps qs : List Piece) (x : Marked) (w : List Marked) (n : Lexeme) → Stands ((print_key m.look d k ++ ps) ++ qs) (x ∷ w) n → is_mark mark.CLOSE_BRACE x.lexeme.kind ≡ false
      key_not (tree.WordKey y) ps qs x w n h = neither_right (is_mark mark.COMMA x.lexeme.kind) (is_mark mark.CLOSE_BRACE x.lexeme.kind) (neither_left (is_mark mark.COMMA x.lexeme.kind || is_mark mark.CLOSE_BRACE x.lexeme.kind) (parser.begins_value x.lexeme.kind) (any_ends x.lexeme.kind h.0.kind))
      key_not (tree.StrKey y) ps qs x w n h = ap (is_mark mark.CLOSE_BRACE) h.0.kind
      key_not (tree.NumberKey at value) ps qs x w n h = ap (is_mark mark.CLOSE_BRACE) h.0.kind
      key_not (tree.ComputedKey e) ps qs x w n h = ap (is_mark mark.CLOSE_BRACE) h.0.kind
  prop_first (tree.Get k f) qs x w n h = ap (is_mark mark.CLOSE_BRACE) h.0.kind
  prop_first (tree.Set k f) qs x w n h = ap (is_mark mark.CLOSE_BRACE) h.0.kind

  prop_some : (p : Prop) (qs : List Piece) (w : List Marked) (n : Lexeme) → Stands (print_prop m.look d p ++ qs) w n → 0 < length (lexemes w)
  prop_some (tree.Short y) qs [] n h = absurd h
  prop_some (tree.Pair k e) qs [] n h = key_some k ((mark_piece mark.COLON d ∷ print m.look (suc d) e) ++ qs) [] n (subst (λ y. Stands y [] n) (append_assoc (print_key m.look d k) (mark_piece mark.COLON d ∷ print m.look (suc d) e) qs) h)
  prop_some (tree.Method k f) qs [] n h = key_some k (print_function m.look d f ++ qs) [] n (subst (λ y. Stands y [] n) (append_assoc (print_key m.look d k) (print_function m.look d f) qs) h)
  prop_some (tree.Get k f) qs [] n h = absurd h
  prop_some (tree.Set k f) qs [] n h = absurd h
  prop_some p qs (x ∷ w) n h = omega arith

  -- all properties

  abbrev pub props_list : Props → List Prop
  props_list no_props = []
  props_list (more_props p ps) = p ∷ props_list ps

  props_as : (ps : Props) → props_of (props_list ps) ≡ ps
  props_as no_props = refl
  props_as (more_props p ps) = ap (more_props p) (props_as ps)

  turn_comma : (t : Lexeme) (ts : List Lexeme) → t.kind ≡ kind.Mark mark.COMMA → parser.props_turn v (t ∷ ts) ≡ parser.props_next v ts
  unfolding parser.props_turn
  turn_comma t ts e = at_kind (λ u. parser.props_turn v (u ∷ ts) ≡ parser.props_next v ts) (kind.Mark mark.COMMA) t e refl

  next_goes : (t : Lexeme) (ts : List Lexeme) → is_mark mark.CLOSE_BRACE t.kind ≡ false → parser.props_next v (t ∷ ts) ≡ bind (parser.prop_of v) (λ p. ret {A = Turn Prop Bool} (Again p)) (t ∷ ts)
  unfolding parser.props_next
  next_goes t ts h = ap (λ x. when x (ret (Stop true)) (bind (parser.prop_of v) (λ p. ret (Again p))) (t ∷ ts)) h

  abbrev ClosesBrace : Lexeme → Type 0
  ClosesBrace t = t.kind ≡ kind.Mark mark.CLOSE_BRACE

  next_close : (rest : List Lexeme) → ClosesBrace (head_of rest) → bare (parser.props_next v rest) ≡ Read (Stop true) [] rest
  unfolding parser.props_next
  next_close rest h = ap (λ k. bare (when (is_mark mark.CLOSE_BRACE k) (ret (Stop true)) (bind (parser.prop_of v) (λ p. ret (Again p))) rest)) h

  turn_close : (rest : List Lexeme) → ClosesBrace (head_of rest) → bare (parser.props_turn v rest) ≡ Read (Stop false) [] rest
  unfolding parser.props_turn
  turn_close rest h = ap (λ k. bare (when (is_mark mark.COMMA k) (step (parser.props_next v)) (ret (Stop false)) rest)) h

  more_close : (rest : List Lexeme) → ClosesBrace (head_of rest) → bare (parser.more_props v rest) ≡ Read (stopped false) [] rest
  unfolding parser.more_props
  more_close rest h = ap (λ k. bare (when (is_mark mark.CLOSE_BRACE k) (ret (stopped false)) (bind (parser.prop_of v) (led (parser.props_turn v))) rest)) h

  more_goes : (t : Lexeme) (ts : List Lexeme) → is_mark mark.CLOSE_BRACE t.kind ≡ false → parser.more_props v (t ∷ ts) ≡ bind (parser.prop_of v) (led (parser.props_turn v)) (t ∷ ts)
  unfolding parser.more_props
  more_goes t ts h = ap (λ x. when x (ret (stopped false)) (bind (parser.prop_of v) (led (parser.props_turn v))) (t ∷ ts)) h

  abbrev item_pieces : Prop → List Piece
  item_pieces p = mark_piece mark.COMMA d ∷ print_prop m.look d p

  comma_prop : (t : Lexeme) → t.kind ≡ kind.Mark mark.COMMA → PropFollow t
  comma_prop t e = ap (λ k. is_mark mark.COMMA k || is_mark mark.CLOSE_BRACE k) e

  close_prop : (t : Lexeme) → ClosesBrace t → PropFollow t
  close_prop t e = ap (λ k. is_mark mark.COMMA k || is_mark mark.CLOSE_BRACE k) e

  item_complete : (p : Prop) → ProperProp m p → Completes limit (item_pieces p) PropFollow (parser.props_turn v) (Again p)
  item_complete p h = c_at limit (λ t. parser.props_next v) low (λ t ts s. turn_comma t ts s.kind) (λ t s. c_front limit (bind (parser.prop_of v) (λ x. ret (Again x))) (λ x w rest q g. next_goes x.lexeme (lexemes w ++ rest) (prop_first p [] x w (head_of rest) (subst (λ y. Stands y (x ∷ w) (head_of rest)) (sym (append-nil (print_prop m.look d p))) q))) (λ w n q. prop_some p [] w n (subst (λ y. Stands y w n) (sym (append-nil (print_prop m.look d p))) q)) (c_made limit Again (prop_complete p h)))

  item_some : (p : Prop) → ProperProp m p → (w : List Marked) (n : Lexeme) → Stands (item_pieces p) w n → 0 < length (lexemes w)
  item_some p k [] n h = absurd h
  item_some p k (x ∷ w) n h = omega arith

  item_link : (p r : Prop) → ProperProp m p → ProperProp m r → (w : List Marked) (n : Lexeme) → Stands (item_pieces r) w n → PropFollow (first_of (lexemes w) n)
  item_link p r kp kr [] n h = absurd h
  item_link p r kp kr (x ∷ w) n h = comma_prop x.lexeme h.0.kind

  stop_complete : (comma : Bool) → Completes limit (comma_piece comma d) ClosesBrace (parser.props_turn v) (Stop comma)
  stop_complete true = c_at limit (λ t. parser.props_next v) low (λ t ts s. turn_comma t ts s.kind) (λ t s. c_look limit next_close)
  stop_complete false = c_look limit turn_close

  stop_leads : (comma : Bool) → Leads (comma_piece comma d) ClosesBrace PropFollow
  stop_leads true = lead_at (λ t s. comma_prop t s.kind)
  stop_leads false = lead_map close_prop lead_none

  props_last : (comma : Bool) (xs : List Prop) → LastLeads limit (ProperProp m) item_pieces (λ p. PropFollow) (comma_piece comma d) ClosesBrace comma (parser.props_turn v) item_complete item_some item_link (stop_complete comma) xs
  props_last comma [] = tt
  props_last comma (p ∷ []) = stop_leads comma
  props_last comma (p ∷ r ∷ xs) = props_last comma (r ∷ xs)

  all_props : (ps : Props) → ProperProps m ps → AllK (ProperProp m) (props_list ps)
  all_props no_props h = tt
  all_props (more_props p ps) h = (h.0, all_props ps h.1)

  flat_props : (ps : Props) (comma : Bool) → flat item_pieces (props_list ps) ++ comma_piece comma d ≡ print_more_props m.look d ps ++ comma_piece comma d
  flat_props no_props comma = refl
  flat_props (more_props p ps) comma = append_assoc (item_pieces p) (flat item_pieces (props_list ps)) (comma_piece comma d) ∙ ap (λ x. item_pieces p ++ x) (flat_props ps comma) ∙ sym (append_assoc (item_pieces p) (print_more_props m.look d ps) (comma_piece comma d))

  props_lead : (ps : Props) (comma : Bool) → Leads (print_more_props m.look d ps ++ comma_piece comma d) ClosesBrace PropFollow
  props_lead no_props comma = stop_leads comma
  props_lead (more_props p ps) comma = lead_at (λ t s. comma_prop t s.kind)

  many_props : (ps : Props) (comma : Bool) → ProperProps m ps → (comma ≡ true → HasProps ps) → Completes limit (print_props m.look d ps ++ comma_piece comma d) ClosesBrace (parser.more_props v) (record { items = props_list ps; last = comma })
  many_props no_props true h k = absurd (k refl)
  many_props no_props false h k = c_look limit more_close
  many_props (more_props p ps) comma h k = c_pieces limit (sym (append_assoc (print_prop m.look d p) (print_more_props m.look d ps) (comma_piece comma d))) (c_front limit (bind (parser.prop_of v) (led (parser.props_turn v)))
      (λ x w rest q g. more_goes x.lexeme (lexemes w ++ rest) (prop_first p (print_more_props m.look d ps ++ comma_piece comma d) x w (head_of rest) q))
      (prop_some p (print_more_props m.look d ps ++ comma_piece comma d))
      (c_bind limit (led (parser.props_turn v)) (prop_complete p h.0) (props_lead ps comma) (c_made limit (begun p) (c_pieces limit (flat_props ps comma) (c_loop limit (ProperProp m) item_pieces (λ p. PropFollow) (comma_piece comma d) ClosesBrace comma (parser.props_turn v) item_complete item_some item_link (stop_complete comma) (props_list ps) (all_props ps h.1) (props_last comma (props_list ps)))))))

  -- after the opening brace
  pub object_complete : {F : Lexeme → Type 0} (at : ℕ) (ps : Props) (comma : Bool) → (comma ≡ true → HasProps ps) → ProperProps m ps → Completes limit (print_props m.look d ps ++ (comma_piece comma d ++ mark_piece mark.CLOSE_BRACE d ∷ [])) F (parser.object_of v at) (tree.Object at ps comma)
  unfolding parser.object_of
  object_complete at ps comma k h = c_pieces limit (append_assoc (print_props m.look d ps) (comma_piece comma d) (mark_piece mark.CLOSE_BRACE d ∷ [])) (c_value (ap (λ x. tree.Object at x comma) (props_as ps)) (c_bind limit (λ x. bind (expect mark.CLOSE_BRACE) (λ _. ret (tree.Object at (props_of x.items) x.last))) (many_props ps comma h k) (lead_at (λ t s. s.kind)) (c_made limit (λ _. tree.Object at (props_of (props_list ps)) comma) (c_mark limit mark.CLOSE_BRACE d low refl))))
