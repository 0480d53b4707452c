-- Parsers of expressions that differ in how they read braced bodies agree: over calls and bodies that agree, from lists to
-- operators.
use Rattle.std.proofs.Common.{◌≡◌, ℕ, List, [], ◌∷◌, ◌++◌, refl, sym, ap, ◌∙◌, subst, Bool, true, false, ◌&&◌, ◌||◌, not, nat_le, nat_eq, Option, Some, None, if◌then◌else◌}
use Rattle.script_grammar.specs.declared.token.Kind.{Kind}
use Rattle.script_grammar.specs.declared.token.Kind.TheVariants as kind
use Rattle.script_grammar.specs.declared.token.FuncForm.{FuncForm}
use Rattle.script_grammar.specs.declared.token.FuncForm.TheVariants as form
use Rattle.script_grammar.specs.declared.token.mark.TheConstants as mark
use Rattle.script_grammar.specs.declared.token.word.TheConstants as word
use Rattle.script_grammar.specs.Lexeme.{Lexeme}
use Rattle.script_grammar.specs.Kinds.{is_mark, is_word, is_name, is_number, is_str, is_head, is_middle, is_tail, is_any_word, is_get, is_set, is_prefix, is_update}
use Rattle.script_grammar.specs.Tree.{Named, Expr, Key, Prop, Tail, Body, Function}
use Rattle.script_grammar.specs.Tree as tree
use Rattle.script_grammar.specs.TreeLists.{Part, Param, exprs_of, maybe_args_of, parts_of, props_of}
use Rattle.grammar_parser_specs.specs.Parser.{Recorded, Reply, Parser, head_of, rest_of, ret, bind, step, when, Turn, Again, Stop, Many, stopped}
use Rattle.grammar_parser_specs.specs.Exprs as parser
use Rattle.grammar_parser_specs.specs.Exprs.{Env, Call, Result, AnAssign, APrefix, ANew, AParam, ARest, BodyRead, ParamsEnd, Plain, Trailing, Rest, Head, expect, name_of, peek_two, comma_case, list_case, chain_case, binary_case, function_case, head_case, param, operand, is_chain_head, is_update_expr}
use Rattle.grammar_local_laws.proofs.Agrees.{Agrees, TurnK, ListK, ManyK, agrees_bind, agrees_ret, agrees_bad, agrees_peek, agrees_step, agrees_when, agrees_if, agrees_made, agrees_loop, agrees_led}
use Rattle.grammar_local_laws.proofs.Alike.{AnyK, SameK, OptionK, EndK, ExprK, FunctionK, BodyK, TailK, ArgsK, PartK, ParamK, HeadK, KeyK, PropK, list_append, exprs_same, parts_same, props_same, comma_alike, paren_alike, array_alike, head_alike, function_alike, chain_alike, new_alike}
use Rattle.grammar_parser_specs.specs.Filling.{fill, fill_exprs, fill_key, fill_prop, fill_props, fill_function}

module _ (bodies : ℕ → Body) where
  -- what the calls read
  abbrev pub CallK : (c : Call) → Result c → Result c → Type 0
  CallK (AnAssign w) a b = ExprK bodies a b
  CallK APrefix a b = ExprK bodies a b
  CallK ANew a b = ExprK bodies a b
  CallK AParam a b = ParamK bodies a b
  CallK ARest a b = b ≡ a

  abbrev pub ExprTurn : Turn Expr (Unit {0}) → Turn Expr (Unit {0}) → Type 0
  ExprTurn a b = TurnK (ExprK bodies) AnyK a b

  abbrev pub ArgTurn : Turn Expr Bool → Turn Expr Bool → Type 0
  ArgTurn a b = TurnK (ExprK bodies) SameK a b

  abbrev ItemTurn : Turn (Option Expr) (Option Expr) → Turn (Option Expr) (Option Expr) → Type 0
  ItemTurn a b = TurnK (OptionK (ExprK bodies)) (OptionK (ExprK bodies)) a b

  abbrev PartTurn : Turn Part Part → Turn Part Part → Type 0
  PartTurn a b = TurnK (PartK bodies) (PartK bodies) a b

  abbrev pub ParamTurn : Turn Param ParamsEnd → Turn Param ParamsEnd → Type 0
  ParamTurn a b = TurnK (ParamK bodies) EndK a b

  abbrev pub ParamsK : Many Param ParamsEnd → Many Param ParamsEnd → Type 0
  ParamsK a b = ManyK (ParamK bodies) EndK a b

  abbrev PropTurn : Turn Prop Bool → Turn Prop Bool → Type 0
  PropTurn a b = TurnK (PropK bodies) SameK a b

  abbrev LeadTurn : Turn Expr (List Expr) → Turn Expr (List Expr) → Type 0
  LeadTurn a b = TurnK (ExprK bodies) (ListK (ExprK bodies)) a b

  abbrev pub TailTurn : Turn Tail (Unit {0}) → Turn Tail (Unit {0}) → Type 0
  TailTurn a b = TurnK (TailK bodies) AnyK a b

  -- an expression of one lexeme has no bodies

  word_same : (x y z : Bool) (at : ℕ) → (if x then tree.This at else if y then tree.Null at else if z then tree.True at else tree.False at) ≡ fill bodies (if x then tree.This at else if y then tree.Null at else if z then tree.True at else tree.False at)
  word_same true y z at = refl
  word_same false true z at = refl
  word_same false false true at = refl
  word_same false false false at = refl

  atom_same : (k : Kind) (t : Lexeme) → parser.atom_case k t ≡ fill bodies (parser.atom_case k t)
  atom_same kind.Name t = refl
  atom_same kind.Number t = refl
  atom_same kind.Str t = refl
  atom_same kind.TemplateWhole t = refl
  atom_same kind.TemplateHead t = refl
  atom_same kind.TemplateMiddle t = refl
  atom_same kind.TemplateTail t = refl
  atom_same (kind.Word i) t = word_same (nat_eq i word.THIS) (nat_eq i word.NULL) (nat_eq i word.TRUE) t.start
  atom_same (kind.Mark i) t = refl
  atom_same kind.Bad t = refl
  atom_same kind.End t = refl

  module _ {C : Type 0} (judge : Recorded → Reply C) where
    pub record AgreesEnv (v u : Env) : Type 0 where
      pub sub : (c : Call) → Agrees judge (CallK c) (v.sub c) (u.sub c)
      pub body : (f : FuncForm) (start : ℕ) (simple simple2 : Bool) → Agrees judge (BodyK bodies start) (v.body f start simple) (u.body f start simple2)

    pub done : {A B : Type 0} {K : A → B → Type 0} (a : A) (b : B) → K a b → Agrees judge K (ret a) (ret b)
    done a b k = agrees_ret judge k

    pub agrees_two : {A B : Type 0} {K : A → B → Type 0} {f : Lexeme → Lexeme → Parser A} {g : Lexeme → Lexeme → Parser B} → ((t x : Lexeme) → Agrees judge K (f t x) (g t x)) → Agrees judge K (peek_two f) (peek_two g)
    agrees_two h = record { at = λ ts. (h (head_of ts) (head_of (rest_of ts))).at ts }

    pub expect_agrees : (i : ℕ) → Agrees judge AnyK (expect i) (expect i)
    unfolding expect
    expect_agrees i = agrees_peek judge (λ t. agrees_when judge (is_mark i t.kind) (agrees_step judge (agrees_ret judge tt)) (agrees_bad judge))

    pub name_agrees : Agrees judge SameK name_of name_of
    unfolding name_of
    name_agrees = agrees_peek judge (λ t. agrees_when judge (is_name t.kind) (agrees_step judge (done (parser.named t) (parser.named t) refl)) (agrees_bad judge))

    maybe_name_agrees : Agrees judge SameK parser.maybe_name parser.maybe_name
    unfolding parser.maybe_name
    maybe_name_agrees = agrees_peek judge (λ t. agrees_when judge (is_name t.kind) (agrees_step judge (done (Some (parser.named t)) (Some (parser.named t)) refl)) (done None None refl))

    module _ (v u : Env) (s : AgreesEnv v u) where
      -- lists of expressions

      more_turn_agrees : (w : Bool) → Agrees judge ExprTurn (parser.more_turn v w) (parser.more_turn u w)
      unfolding parser.more_turn
      more_turn_agrees w = agrees_peek judge (λ t. agrees_when judge (is_mark mark.COMMA t.kind) (agrees_step judge (agrees_made judge Again Again (s.sub (AnAssign w)) (λ a b k. k))) (done (Stop tt) (Stop tt) tt))

      pub expr_agrees : (w : Bool) → Agrees judge (ExprK bodies) (parser.expr_of v w) (parser.expr_of u w)
      unfolding parser.expr_of
      expr_agrees w = agrees_bind judge (s.sub (AnAssign w)) (λ a b k. agrees_made judge (λ m. comma_case a m.items) (λ m. comma_case b m.items) (agrees_loop judge (more_turn_agrees w)) (λ m n q. comma_alike bodies a b m.items n.items k q.0))

      args_next_agrees : Agrees judge ArgTurn (parser.args_next v) (parser.args_next u)
      unfolding parser.args_next
      args_next_agrees = agrees_peek judge (λ t. agrees_when judge (is_mark mark.CLOSE_PAREN t.kind) (done (Stop true) (Stop true) refl) (agrees_made judge Again Again (s.sub (AnAssign true)) (λ a b k. k)))

      args_turn_agrees : Agrees judge ArgTurn (parser.args_turn v) (parser.args_turn u)
      unfolding parser.args_turn
      args_turn_agrees = agrees_peek judge (λ t. agrees_when judge (is_mark mark.COMMA t.kind) (agrees_step judge args_next_agrees) (done (Stop false) (Stop false) refl))

      more_args_agrees : Agrees judge (ManyK (ExprK bodies) SameK) (parser.more_args v) (parser.more_args u)
      unfolding parser.more_args
      more_args_agrees = agrees_peek judge (λ t. agrees_when judge (is_mark mark.CLOSE_PAREN t.kind) (done (stopped false) (stopped false) (tt, refl)) (agrees_bind judge (s.sub (AnAssign true)) (λ a b k. agrees_led judge args_turn_agrees a b k)))

      args_agrees : Agrees judge (ArgsK bodies) (parser.args_of v) (parser.args_of u)
      unfolding parser.args_of
      args_agrees = agrees_bind judge more_args_agrees (λ m n q. agrees_made judge (λ _. record { items = m.items; comma = m.last }) (λ _. record { items = n.items; comma = n.last }) (expect_agrees mark.CLOSE_PAREN) (λ _ _ _. record { items = q.0; commas = q.1 }))

      -- arrays and templates

      item_end_agrees : (a b : Expr) → ExprK bodies a b → Agrees judge ItemTurn (parser.item_end a) (parser.item_end b)
      unfolding parser.item_end
      item_end_agrees a b k = agrees_peek judge (λ t. agrees_when judge (is_mark mark.COMMA t.kind) (agrees_step judge (done (Again (Some a)) (Again (Some b)) k)) (done (Stop (Some a)) (Stop (Some b)) k))

      item_turn_agrees : Agrees judge ItemTurn (parser.item_turn v) (parser.item_turn u)
      unfolding parser.item_turn
      item_turn_agrees = agrees_peek judge (λ t.
          agrees_when judge (is_mark mark.CLOSE_BRACKET t.kind) (done (Stop None) (Stop None) tt)
          (agrees_when judge (is_mark mark.COMMA t.kind) (agrees_step judge (done (Again None) (Again None) tt)) (agrees_bind judge (s.sub (AnAssign true)) item_end_agrees)))

      array_agrees : (at : ℕ) → Agrees judge (ExprK bodies) (parser.array_of v at) (parser.array_of u at)
      unfolding parser.array_of
      array_agrees at = agrees_bind judge (agrees_loop judge item_turn_agrees) (λ m n q. agrees_made judge (λ _. parser.array_case at m.items m.last) (λ _. parser.array_case at n.items n.last) (expect_agrees mark.CLOSE_BRACKET) (λ _ _ _. array_alike bodies at m.items n.items m.last n.last q.0 q.1))

      part_end_agrees : (a b : Expr) → ExprK bodies a b → Agrees judge PartTurn (parser.part_end a) (parser.part_end b)
      unfolding parser.part_end
      part_end_agrees a b k = agrees_peek judge (λ t.
          agrees_when judge (is_middle t.kind) (agrees_step judge (done (Again (parser.part a t)) (Again (parser.part b t)) (record { values = k; texts = refl })))
          (agrees_when judge (is_tail t.kind) (agrees_step judge (done (Stop (parser.part a t)) (Stop (parser.part b t)) (record { values = k; texts = refl }))) (agrees_bad judge)))

      part_turn_agrees : Agrees judge PartTurn (parser.part_turn v) (parser.part_turn u)
      unfolding parser.part_turn
      part_turn_agrees = agrees_bind judge (expr_agrees true) part_end_agrees

      template_agrees : (at : ℕ) (first : List ℕ) → Agrees judge (ExprK bodies) (parser.template_of v at first) (parser.template_of u at first)
      unfolding parser.template_of
      template_agrees at first = agrees_made judge (λ m. tree.Template at first (parts_of (m.items ++ m.last ∷ []))) (λ m. tree.Template at first (parts_of (m.items ++ m.last ∷ []))) (agrees_loop judge part_turn_agrees) (λ m n q. record { ranks = refl; endings = refl; same = ap (tree.Template at first) (parts_same bodies (m.items ++ m.last ∷ []) (n.items ++ n.last ∷ []) (list_append (PartK bodies) m.items (m.last ∷ []) n.items (n.last ∷ []) q.0 (q.1, tt))) })

      -- functions that are no arrows

      initializer_agrees : Agrees judge (OptionK (ExprK bodies)) (parser.initializer_of v) (parser.initializer_of u)
      unfolding parser.initializer_of
      initializer_agrees = agrees_peek judge (λ t. agrees_when judge (is_mark mark.ASSIGN t.kind) (agrees_step judge (agrees_made judge Some Some (s.sub (AnAssign true)) (λ a b k. k))) (done None None tt))

      pub param_agrees : Agrees judge (ParamK bodies) (parser.param_of v) (parser.param_of u)
      unfolding parser.param_of
      param_agrees = agrees_bind judge name_agrees (λ n m e. agrees_made judge (param n) (param m) initializer_agrees (λ o p k. record { names = e; values = k; rests = refl }))

      rest_end_agrees : Agrees judge ParamTurn parser.rest_end parser.rest_end
      rest_end_agrees = agrees_made judge (λ n. Stop (Rest n)) (λ n. Stop (Rest n)) name_agrees (λ n m e. e)

      param_turn_agrees : Agrees judge ParamTurn (parser.param_turn v) (parser.param_turn u)
      unfolding parser.param_turn
      param_turn_agrees = agrees_peek judge (λ t. agrees_when judge (is_mark mark.ELLIPSIS t.kind) (agrees_step judge rest_end_agrees) (agrees_made judge Again Again param_agrees (λ a b k. k)))

      params_next_agrees : Agrees judge ParamTurn (parser.params_next v) (parser.params_next u)
      unfolding parser.params_next
      params_next_agrees = agrees_peek judge (λ t. agrees_when judge (is_mark mark.CLOSE_PAREN t.kind) (done (Stop Trailing) (Stop Trailing) tt) param_turn_agrees)

      params_turn_agrees : Agrees judge ParamTurn (parser.params_turn v) (parser.params_turn u)
      unfolding parser.params_turn
      params_turn_agrees = agrees_peek judge (λ t. agrees_when judge (is_mark mark.COMMA t.kind) (agrees_step judge params_next_agrees) (done (Stop Plain) (Stop Plain) tt))

      pub params_led_agrees : (f g : Parser (Turn Param ParamsEnd)) → Agrees judge ParamTurn f g → (a b : Turn Param ParamsEnd) → ParamTurn a b → Agrees judge ParamsK (parser.params_led f a) (parser.params_led g b)
      params_led_agrees f g h (Again a) (Again b) k = agrees_led judge h a b k
      params_led_agrees f g h (Again a) (Stop y) k = absurd k
      params_led_agrees f g h (Stop x) (Again b) k = absurd k
      params_led_agrees f g h (Stop x) (Stop y) k = done (stopped x) (stopped y) (tt, k)

      more_params_agrees : Agrees judge ParamsK (parser.more_params v) (parser.more_params u)
      unfolding parser.more_params
      more_params_agrees = agrees_peek judge (λ t. agrees_when judge (is_mark mark.CLOSE_PAREN t.kind) (done (stopped Plain) (stopped Plain) (tt, tt)) (agrees_bind judge param_turn_agrees (params_led_agrees (parser.params_turn v) (parser.params_turn u) params_turn_agrees)))

      listed_agrees : (start : ℕ) → Agrees judge (HeadK bodies) (parser.listed_params v start) (parser.listed_params u start)
      unfolding parser.listed_params
      listed_agrees start = agrees_bind judge more_params_agrees (λ m n q. agrees_made judge (λ _. head_case start m) (λ _. head_case start n) (expect_agrees mark.CLOSE_PAREN) (λ _ _ _. head_alike bodies start m.items n.items m.last n.last q.0 q.1))

      one_agrees : (start : ℕ) → Agrees judge (HeadK bodies) (parser.one_param v start) (parser.one_param u start)
      one_agrees start = agrees_bind judge param_agrees (λ p q k. agrees_made judge (λ _. record { start = start; params = p ∷ []; comma = false; bare = false }) (λ _. record { start = start; params = q ∷ []; comma = false; bare = false }) (expect_agrees mark.CLOSE_PAREN) (λ _ _ _. record { starts = refl; params = (k, tt); commas = refl; bares = refl }))

      form_params_agrees : (f : FuncForm) (start : ℕ) → Agrees judge (HeadK bodies) (parser.form_params v f start) (parser.form_params u f start)
      form_params_agrees f start =
          agrees_when judge (parser.is_getter f) (agrees_made judge (λ _. record { start = start; params = []; comma = false; bare = false }) (λ _. record { start = start; params = []; comma = false; bare = false }) (expect_agrees mark.CLOSE_PAREN) (λ _ _ _. record { starts = refl; params = tt; commas = refl; bares = refl }))
          (agrees_when judge (parser.is_setter f) (one_agrees start) (listed_agrees start))

      pub params_head_agrees : (f : FuncForm) → Agrees judge (HeadK bodies) (parser.params_head v f) (parser.params_head u f)
      unfolding parser.params_head
      params_head_agrees f = agrees_peek judge (λ t. agrees_when judge (is_mark mark.OPEN_PAREN t.kind) (agrees_step judge (form_params_agrees f t.start)) (agrees_bad judge))

      -- a body after heads that start at one place
      pub own_body_agrees : (f : FuncForm) (h g : Head) → HeadK bodies h g → Agrees judge (BodyK bodies h.start) (v.body f h.start (parser.is_simple h.params)) (u.body f g.start (parser.is_simple g.params))
      own_body_agrees f h g q = subst (λ x. Agrees judge (BodyK bodies h.start) (v.body f h.start (parser.is_simple h.params)) (u.body f x (parser.is_simple g.params))) (sym q.starts) (s.body f h.start (parser.is_simple h.params) (parser.is_simple g.params))

      pub function_agrees : (f : FuncForm) (n m : Option Named) → m ≡ n → Agrees judge (FunctionK bodies) (parser.function_of v f n) (parser.function_of u f m)
      unfolding parser.function_of
      function_agrees f n m e = agrees_bind judge (params_head_agrees f) (λ h g q. agrees_made judge (function_case f n h) (function_case f m g) (own_body_agrees f h g q) (λ a b k. function_alike bodies f n m h g a b e q k))

      func_agrees : (at : ℕ) → Agrees judge (ExprK bodies) (parser.func_of v at) (parser.func_of u at)
      unfolding parser.func_of
      func_agrees at = agrees_bind judge maybe_name_agrees (λ n m e. agrees_made judge (tree.Func at) (tree.Func at) (function_agrees form.Function n m e) (λ f g k. record { ranks = k.ranks; endings = k.endings; same = ap (tree.Func at) k.same }))

      -- objects

      computed_agrees : Agrees judge (KeyK bodies) (parser.computed_of v) (parser.computed_of u)
      unfolding parser.computed_of
      computed_agrees = agrees_bind judge (s.sub (AnAssign true)) (λ a b k. agrees_made judge (λ _. tree.ComputedKey a) (λ _. tree.ComputedKey b) (expect_agrees mark.CLOSE_BRACKET) (λ _ _ _. record { same = ap tree.ComputedKey k.same }))

      key_agrees : Agrees judge (KeyK bodies) (parser.key_of v) (parser.key_of u)
      unfolding parser.key_of
      key_agrees = agrees_peek judge (λ t.
          agrees_when judge (is_any_word t.kind) (agrees_step judge (done (tree.WordKey (parser.named t)) (tree.WordKey (parser.named t)) (record { same = refl })))
          (agrees_when judge (is_str t.kind) (agrees_step judge (done (tree.StrKey (parser.named t)) (tree.StrKey (parser.named t)) (record { same = refl })))
          (agrees_when judge (is_number t.kind) (agrees_step judge (done (tree.NumberKey t.start t.number) (tree.NumberKey t.start t.number) (record { same = refl })))
          (agrees_when judge (is_mark mark.OPEN_BRACKET t.kind) (agrees_step judge computed_agrees) (agrees_bad judge)))))

      -- a key and a function
      method_alike : (c : Key → Function → Prop) → ((k : Key) (f : Function) → c (fill_key bodies k) (fill_function bodies f) ≡ fill_prop bodies (c k f)) → (k j : Key) → KeyK bodies k j → (f g : Function) → FunctionK bodies f g → PropK bodies (c k f) (c j g)
      method_alike c e k j q f g r = record { same = ap (λ x. c x g) q.same ∙ ap (c (fill_key bodies k)) r.same ∙ e k f }

      keyed_agrees : (k j : Key) → KeyK bodies k j → Agrees judge (PropK bodies) (parser.keyed_of v k) (parser.keyed_of u j)
      unfolding parser.keyed_of
      keyed_agrees k j q = agrees_peek judge (λ t.
          agrees_when judge (is_mark mark.COLON t.kind) (agrees_step judge (agrees_made judge (tree.Pair k) (tree.Pair j) (s.sub (AnAssign true)) (λ a b r. record { same = ap (λ x. tree.Pair x b) q.same ∙ ap (tree.Pair (fill_key bodies k)) r.same })))
          (agrees_when judge (is_mark mark.OPEN_PAREN t.kind) (agrees_made judge (tree.Method k) (tree.Method j) (function_agrees form.Method None None refl) (λ f g r. method_alike tree.Method (λ _ _. refl) k j q f g r)) (agrees_bad judge)))

      short_agrees : (n : Named) → Agrees judge (PropK bodies) (parser.short_of v n) (parser.short_of u n)
      unfolding parser.short_of
      short_agrees n = agrees_peek judge (λ t. agrees_when judge (parser.begins_value t.kind) (keyed_agrees (tree.WordKey n) (tree.WordKey n) (record { same = refl })) (done (tree.Short n) (tree.Short n) (record { same = refl })))

      getter_agrees : Agrees judge (PropK bodies) (parser.getter_of v) (parser.getter_of u)
      unfolding parser.getter_of
      getter_agrees = agrees_bind judge key_agrees (λ k j q. agrees_made judge (tree.Get k) (tree.Get j) (function_agrees form.Getter None None refl) (λ f g r. method_alike tree.Get (λ _ _. refl) k j q f g r))

      setter_agrees : Agrees judge (PropK bodies) (parser.setter_of v) (parser.setter_of u)
      unfolding parser.setter_of
      setter_agrees = agrees_bind judge key_agrees (λ k j q. agrees_made judge (tree.Set k) (tree.Set j) (function_agrees form.Setter None None refl) (λ f g r. method_alike tree.Set (λ _ _. refl) k j q f g r))

      accessor_agrees : (n : Named) (f g : Parser Prop) → Agrees judge (PropK bodies) f g → Agrees judge (PropK bodies) (parser.accessor_of v n f) (parser.accessor_of u n g)
      unfolding parser.accessor_of
      accessor_agrees n f g h = agrees_peek judge (λ t. agrees_when judge (parser.ends_key t.kind) (short_agrees n) h)

      prop_agrees : Agrees judge (PropK bodies) (parser.prop_of v) (parser.prop_of u)
      unfolding parser.prop_of
      prop_agrees = agrees_peek judge (λ t. agrees_when judge (is_name t.kind)
          (agrees_step judge (agrees_when judge (is_get t.role) (accessor_agrees (parser.named t) (parser.getter_of v) (parser.getter_of u) getter_agrees)
          (agrees_when judge (is_set t.role) (accessor_agrees (parser.named t) (parser.setter_of v) (parser.setter_of u) setter_agrees) (short_agrees (parser.named t)))))
          (agrees_bind judge key_agrees keyed_agrees))

      props_next_agrees : Agrees judge PropTurn (parser.props_next v) (parser.props_next u)
      unfolding parser.props_next
      props_next_agrees = agrees_peek judge (λ t. agrees_when judge (is_mark mark.CLOSE_BRACE t.kind) (done (Stop true) (Stop true) refl) (agrees_made judge Again Again prop_agrees (λ a b k. k)))

      props_turn_agrees : Agrees judge PropTurn (parser.props_turn v) (parser.props_turn u)
      unfolding parser.props_turn
      props_turn_agrees = agrees_peek judge (λ t. agrees_when judge (is_mark mark.COMMA t.kind) (agrees_step judge props_next_agrees) (done (Stop false) (Stop false) refl))

      more_props_agrees : Agrees judge (ManyK (PropK bodies) SameK) (parser.more_props v) (parser.more_props u)
      unfolding parser.more_props
      more_props_agrees = agrees_peek judge (λ t. agrees_when judge (is_mark mark.CLOSE_BRACE t.kind) (done (stopped false) (stopped false) (tt, refl)) (agrees_bind judge prop_agrees (λ a b k. agrees_led judge props_turn_agrees a b k)))

      object_agrees : (at : ℕ) → Agrees judge (ExprK bodies) (parser.object_of v at) (parser.object_of u at)
      unfolding parser.object_of
      object_agrees at = agrees_bind judge more_props_agrees (λ m n q. agrees_made judge (λ _. tree.Object at (props_of m.items) m.last) (λ _. tree.Object at (props_of n.items) n.last) (expect_agrees mark.CLOSE_BRACE) (λ _ _ _. record { ranks = refl; endings = refl; same = ap (λ x. tree.Object at x n.last) (props_same bodies m.items n.items q.0) ∙ ap (tree.Object at (fill_props bodies (props_of m.items))) q.1 }))

      -- parentheses

      pub items_agrees : Agrees judge (ListK (ExprK bodies)) (parser.items_from v) (parser.items_from u)
      unfolding parser.items_from
      items_agrees = agrees_bind judge (s.sub (AnAssign true)) (λ a b k. agrees_made judge (λ m. a ∷ m.items) (λ m. b ∷ m.items) (agrees_loop judge (more_turn_agrees true)) (λ m n q. (k, q.0)))

      pub doomed_agrees : {A B : Type 0} (K : A → B → Type 0) → Agrees judge K (parser.doomed {A = A}) (parser.doomed {A = B})
      doomed_agrees K = agrees_bind judge (expect_agrees mark.CLOSE_PAREN) (λ _ _ _. agrees_bad judge)

      doomed_rest_agrees : {A B : Type 0} (K : A → B → Type 0) → Agrees judge K (parser.doomed_rest {A = A} v) (parser.doomed_rest {A = B} u)
      unfolding parser.doomed_rest
      doomed_rest_agrees K = agrees_bind judge (s.sub ARest) (λ _ _ _. doomed_agrees K)

      lead_end_agrees : (a b : Expr) → ExprK bodies a b → Agrees judge LeadTurn (parser.lead_end a) (parser.lead_end b)
      unfolding parser.lead_end
      lead_end_agrees a b k = agrees_peek judge (λ t. agrees_when judge (is_mark mark.COMMA t.kind) (agrees_step judge (done (Again a) (Again b) k)) (done (Stop (a ∷ [])) (Stop (b ∷ [])) (k, tt)))

      lead_item_agrees : Agrees judge LeadTurn (parser.lead_item v) (parser.lead_item u)
      unfolding parser.lead_item
      lead_item_agrees = agrees_two (λ t x. agrees_when judge (parser.is_param_form t x) (agrees_bind judge (s.sub (AnAssign true)) lead_end_agrees) (agrees_made judge Stop Stop items_agrees (λ a b k. k)))

      lead_turn_agrees : Agrees judge LeadTurn (parser.lead_turn v) (parser.lead_turn u)
      unfolding parser.lead_turn
      lead_turn_agrees = agrees_peek judge (λ t.
          agrees_when judge (is_mark mark.CLOSE_PAREN t.kind) (doomed_agrees LeadTurn)
          (agrees_when judge (is_mark mark.ELLIPSIS t.kind) (doomed_rest_agrees LeadTurn) lead_item_agrees))

      lead_items_agrees : Agrees judge (ListK (ExprK bodies)) (parser.lead_items v) (parser.lead_items u)
      unfolding parser.lead_items
      lead_items_agrees = agrees_made judge (λ m. m.items ++ m.last) (λ m. m.items ++ m.last) (agrees_loop judge lead_turn_agrees) (λ m n q. list_append (ExprK bodies) m.items m.last n.items n.last q.0 q.1)

      paren_agrees : (heads : Bool) (at : ℕ) → Agrees judge (ExprK bodies) (parser.paren_of v heads at) (parser.paren_of u heads at)
      unfolding parser.paren_of
      paren_agrees heads at = agrees_bind judge (agrees_when judge heads lead_items_agrees items_agrees) (λ es fs q. agrees_made judge (λ _. tree.Paren at (list_case es)) (λ _. tree.Paren at (list_case fs)) (expect_agrees mark.CLOSE_PAREN) (λ _ _ _. paren_alike bodies at es fs q))

      prim_agrees : (heads : Bool) → Agrees judge (ExprK bodies) (parser.prim_of v heads) (parser.prim_of u heads)
      unfolding parser.prim_of
      prim_agrees heads = agrees_peek judge (λ t.
          agrees_when judge (parser.is_atom t.kind) (agrees_step judge (done (parser.atom_case t.kind t) (parser.atom_case t.kind t) (record { ranks = refl; endings = refl; same = atom_same t.kind t })))
          (agrees_when judge (is_mark mark.OPEN_PAREN t.kind) (agrees_step judge (paren_agrees heads t.start))
          (agrees_when judge (is_word word.FUNCTION t.kind) (agrees_step judge (func_agrees t.start))
          (agrees_when judge (is_mark mark.OPEN_BRACKET t.kind) (agrees_step judge (array_agrees t.start))
          (agrees_when judge (is_mark mark.OPEN_BRACE t.kind) (agrees_step judge (object_agrees t.start))
          (agrees_when judge (is_head t.kind) (agrees_step judge (template_agrees t.start t.text)) (agrees_bad judge)))))))

      -- members and calls

      dot_agrees : Agrees judge (TailK bodies) parser.dot_of parser.dot_of
      unfolding parser.dot_of
      dot_agrees = agrees_peek judge (λ t. agrees_when judge (is_any_word t.kind) (agrees_step judge (done (tree.Dot t.text) (tree.Dot t.text) (record { members = refl; same = refl }))) (agrees_bad judge))

      index_agrees : Agrees judge (TailK bodies) (parser.index_of v) (parser.index_of u)
      unfolding parser.index_of
      index_agrees = agrees_bind judge (expr_agrees true) (λ a b k. agrees_made judge (λ _. tree.Index a) (λ _. tree.Index b) (expect_agrees mark.CLOSE_BRACKET) (λ _ _ _. record { members = refl; same = ap tree.Index k.same }))

      member_agrees : (t : Lexeme) (f g : Parser (Turn Tail (Unit {0}))) → Agrees judge TailTurn f g → Agrees judge TailTurn (parser.member_or v t f) (parser.member_or u t g)
      member_agrees t f g h =
          agrees_when judge (is_mark mark.DOT t.kind) (agrees_step judge (agrees_made judge Again Again dot_agrees (λ a b k. k)))
          (agrees_when judge (is_mark mark.OPEN_BRACKET t.kind) (agrees_step judge (agrees_made judge Again Again index_agrees (λ a b k. k))) h)

      member_turn_agrees : Agrees judge TailTurn (parser.member_turn v) (parser.member_turn u)
      unfolding parser.member_turn
      member_turn_agrees = agrees_peek judge (λ t. member_agrees t (ret (Stop tt)) (ret (Stop tt)) (done (Stop tt) (Stop tt) tt))

      call_agrees : Agrees judge (TailK bodies) (parser.call_of v) (parser.call_of u)
      unfolding parser.call_of
      call_agrees = agrees_made judge (λ a. tree.Call (exprs_of a.items) a.comma) (λ a. tree.Call (exprs_of a.items) a.comma) args_agrees (λ a b k. record { members = refl; same = ap (λ x. tree.Call x b.comma) (exprs_same bodies a.items b.items k.items) ∙ ap (tree.Call (fill_exprs bodies (exprs_of a.items))) k.commas })

      tail_turn_agrees : Agrees judge TailTurn (parser.tail_turn v) (parser.tail_turn u)
      unfolding parser.tail_turn
      tail_turn_agrees = agrees_peek judge (λ t. member_agrees t (when (is_mark mark.OPEN_PAREN t.kind) (step (bind (parser.call_of v) parser.again)) (ret (Stop tt))) (when (is_mark mark.OPEN_PAREN t.kind) (step (bind (parser.call_of u) parser.again)) (ret (Stop tt))) (agrees_when judge (is_mark mark.OPEN_PAREN t.kind) (agrees_step judge (agrees_made judge Again Again call_agrees (λ a b k. k))) (done (Stop tt) (Stop tt) tt)))

      new_or_prim_agrees : (heads : Bool) → Agrees judge (ExprK bodies) (parser.new_or_prim v heads) (parser.new_or_prim u heads)
      unfolding parser.new_or_prim
      new_or_prim_agrees heads = agrees_peek judge (λ t. agrees_when judge (is_word word.NEW t.kind) (s.sub ANew) (prim_agrees heads))

      chain_agrees : (a b : Expr) → ExprK bodies a b → Agrees judge (ExprK bodies) (parser.chain_of (parser.tail_turn v) a) (parser.chain_of (parser.tail_turn u) b)
      chain_agrees a b k = agrees_if judge (is_chain_head a) (is_chain_head b) (ap (λ r. nat_le r 1) (sym k.ranks)) (agrees_made judge (λ m. chain_case a m.items) (λ m. chain_case b m.items) (agrees_loop judge tail_turn_agrees) (λ m n q. chain_alike bodies a b m.items n.items k q.0)) (done a b k)

      new_args_agrees : Agrees judge (OptionK (ArgsK bodies)) (parser.new_args v) (parser.new_args u)
      unfolding parser.new_args
      new_args_agrees = agrees_peek judge (λ t. agrees_when judge (is_mark mark.OPEN_PAREN t.kind) (agrees_step judge (agrees_made judge Some Some args_agrees (λ a b k. k))) (done None None tt))

      new_from_agrees : (at : ℕ) (a b : Expr) → ExprK bodies a b → Agrees judge (ExprK bodies) (parser.new_from v at a) (parser.new_from u at b)
      unfolding parser.new_from
      new_from_agrees at a b k = agrees_if judge (is_chain_head a) (is_chain_head b) (ap (λ r. nat_le r 1) (sym k.ranks))
          (agrees_bind judge (agrees_loop judge member_turn_agrees) (λ m n q. agrees_made judge (λ o. tree.New at (chain_case a m.items) (maybe_args_of o)) (λ o. tree.New at (chain_case b n.items) (maybe_args_of o)) new_args_agrees (λ o p j. new_alike bodies at (chain_case a m.items) (chain_case b n.items) o p (chain_alike bodies a b m.items n.items k q.0) j)))
          (done (tree.New at a (maybe_args_of None)) (tree.New at b (maybe_args_of None)) (new_alike bodies at a b None None k tt))

      pub new_agrees : Agrees judge (ExprK bodies) (parser.new_of v) (parser.new_of u)
      unfolding parser.new_of
      new_agrees = agrees_peek judge (λ t. agrees_when judge (is_word word.NEW t.kind) (agrees_step judge (agrees_bind judge (new_or_prim_agrees false) (new_from_agrees t.start))) (agrees_bad judge))

      left_agrees : (heads : Bool) → Agrees judge (ExprK bodies) (parser.left_of v heads) (parser.left_of u heads)
      unfolding parser.left_of
      left_agrees heads = agrees_bind judge (new_or_prim_agrees heads) chain_agrees

      postfix_agrees : (at : ℕ) (a b : Expr) → ExprK bodies a b → Agrees judge (ExprK bodies) (parser.postfix_of at a) (parser.postfix_of at b)
      unfolding parser.postfix_of
      postfix_agrees at a b k = agrees_peek judge (λ t. agrees_when judge (is_update t.kind && not t.after_line) (agrees_step judge (done (tree.Update at (parser.mark_of t.kind) false a) (tree.Update at (parser.mark_of t.kind) false b) (record { ranks = refl; endings = refl; same = ap (tree.Update at (parser.mark_of t.kind) false) k.same }))) (done a b k))

      update_agrees : (heads : Bool) → Agrees judge (ExprK bodies) (parser.update_of v heads) (parser.update_of u heads)
      unfolding parser.update_of
      update_agrees heads = agrees_peek judge (λ t. agrees_bind judge (left_agrees heads) (postfix_agrees t.start))

      pub unary_agrees : (heads : Bool) → Agrees judge (ExprK bodies) (parser.unary_of v heads) (parser.unary_of u heads)
      unfolding parser.unary_of
      unary_agrees heads = agrees_peek judge (λ t. agrees_when judge (is_prefix t.kind || is_update t.kind) (s.sub APrefix) (update_agrees heads))

      pub prefix_agrees : Agrees judge (ExprK bodies) (parser.prefix_of v) (parser.prefix_of u)
      unfolding parser.prefix_of
      prefix_agrees = agrees_peek judge (λ t.
          agrees_when judge (is_prefix t.kind) (agrees_step judge (agrees_made judge (λ e. tree.Unary t.start (parser.mark_of t.kind) e (parser.is_word_kind t.kind)) (λ e. tree.Unary t.start (parser.mark_of t.kind) e (parser.is_word_kind t.kind)) (unary_agrees false) (λ a b k. record { ranks = refl; endings = k.endings; same = ap (λ x. tree.Unary t.start (parser.mark_of t.kind) x (parser.is_word_kind t.kind)) k.same })))
          (agrees_when judge (is_update t.kind) (agrees_step judge (agrees_made judge (λ e. tree.Update t.start (parser.mark_of t.kind) true e) (λ e. tree.Update t.start (parser.mark_of t.kind) true e) (unary_agrees false) (λ a b k. record { ranks = refl; endings = k.endings; same = ap (tree.Update t.start (parser.mark_of t.kind) true) k.same }))) (agrees_bad judge)))
