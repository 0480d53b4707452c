-- What parameters and the ends of parameters stand for, as values and facts of them.
use Rattle.std.proofs.Common.{◌≡◌, ◌∙◌, List, [], ◌∷◌, ◌++◌, Bool, true, false, Option, Some, None, refl, sym, ap, subst, ◌&&◌, not, is_none}
use Rattle.std.specs.List.{list_all}
use Rattle.script_grammar.specs.declared.node.NodeParam.{NodeParam}
use Rattle.script_grammar.specs.declared.token.FuncForm.{FuncForm}
use Rattle.script_grammar.specs.declared.token.FuncForm.TheVariants as form
use Rattle.script_grammar.specs.declared.tree.Ident.{Ident}
use Rattle.script_grammar.specs.Interpretation.{Interpretation, named}
use Rattle.script_grammar.specs.Shows.{ShowAll, ShowParam, ParamOf, MaybeOf}
use Rattle.script_grammar.specs.Lexeme.{Lexeme}
use Rattle.script_grammar.specs.Tree.{Expr, Named}
use Rattle.grammar_parser_specs.specs.Parser.{Recorded, Reply, Turn, Again, Stop, Many}
use Rattle.parse_exprs.specs.Answers.{ReadAs}
use Rattle.parse_exprs.specs.declared.part.Params.{Params}
use Rattle.script_grammar.specs.TreeLists.{Param}
use Rattle.grammar_parser_specs.specs.Exprs as pure
use Rattle.parse_exprs.specs.declared.part.ParamsEnd.{ParamsEnd}
use Rattle.parse_exprs.specs.declared.part.ParamsEnd.TheVariants as ends
use Rattle.parse_exprs.specs.Means.{ParamsEndOf, ParamsOf}
use Rattle.parse_exprs.specs.Simple.{is_plain}
use Rattle.parse_exprs.proofs.Loops.{all_more}
use Rattle.parse_exprs.proofs.Onward.{Maps}

pub end_maps : (i : Interpretation) → Maps (ParamsEndOf i)
end_maps i ends.Plain k n f h = f _ h
end_maps i ends.Trailing k n f h = f _ h
end_maps i (ends.Rest x) k n f h = f _ h

value_shown : {E : Type 0} (shows : E → Expr → Type 0) (v : Option E) (f : Option Expr → Param) (k : Param → Type 0) → MaybeOf shows v (λ t. k (f t)) → (x : Param) × MaybeOf shows v (λ t. x ≡ f t) × k x
value_shown shows None f k h = (f None, refl, h)
value_shown shows (Some e) f k h = (f (Some h.0), (h.0, h.1, refl), h.2)

value_stands : {E : Type 0} (shows : E → Expr → Type 0) (v : Option E) (f : Option Expr → Param) (x : Param) (k : Param → Type 0) → MaybeOf shows v (λ t. x ≡ f t) → k x → MaybeOf shows v (λ t. k (f t))
value_stands shows None f x k h q = subst k h q
value_stands shows (Some e) f x k h q = (h.0, h.1, subst k h.2 q)

end_shown : (i : Interpretation) (e : ParamsEnd) (k : pure.ParamsEnd → Type 0) → ParamsEndOf i e k → (x : pure.ParamsEnd) × ParamsEndOf i e (λ y. x ≡ y) × k x
end_shown i ends.Plain k h = (_, refl, h)
end_shown i ends.Trailing k h = (_, refl, h)
end_shown i (ends.Rest n) k h = (_, refl, h)

end_stands : (i : Interpretation) (e : ParamsEnd) (x : pure.ParamsEnd) (k : pure.ParamsEnd → Type 0) → ParamsEndOf i e (λ y. x ≡ y) → k x → ParamsEndOf i e k
end_stands i ends.Plain x k h f = subst k h f
end_stands i ends.Trailing x k h f = subst k h f
end_stands i (ends.Rest n) x k h f = subst k h f

-- parameters that were read, and ends

module _ {E : Type 0} (i : Interpretation) (shows : E → Expr → Type 0) {rs qs : List Recorded} {us : List Lexeme} where
  pub param_read : {r : Reply Param} (n : NodeParam E) → ParamOf i shows n (λ a. ReadAs rs r a qs us) → (x : Param) × ShowParam i shows n x × ReadAs rs r x qs us
  param_read {r = r} n h = value_shown shows n.value (λ v. record { name = named i n.name; value = v; rest = n.rest }) (λ a. ReadAs rs r a qs us) h

  pub again_read : {B : Type 0} {r : Reply (Turn Param B)} (n : NodeParam E) → ParamOf i shows n (λ a. ReadAs rs r (Again a) qs us) → (x : Param) × ShowParam i shows n x × ReadAs rs r (Again x) qs us
  again_read {r = r} n h = value_shown shows n.value (λ v. record { name = named i n.name; value = v; rest = n.rest }) (λ a. ReadAs rs r (Again a) qs us) h

  pub again_reads : {B : Type 0} {r : Reply (Turn Param B)} (n : NodeParam E) (x : Param) → ShowParam i shows n x → ReadAs rs r (Again x) qs us → ParamOf i shows n (λ a. ReadAs rs r (Again a) qs us)
  again_reads {r = r} n x h q = value_stands shows n.value (λ v. record { name = named i n.name; value = v; rest = n.rest }) x (λ a. ReadAs rs r (Again a) qs us) h q

  pub head_reads : {r : Reply pure.Head} (n : Params E) (x : pure.Head) → ParamsOf i shows n (λ h. x ≡ h) → ReadAs rs r x qs us → ParamsOf i shows n (λ h. ReadAs rs r h qs us)
  head_reads {r = r} n x h q = (h.0, h.1, subst (λ y. ReadAs rs r y qs us) h.2 q)

module _ (i : Interpretation) {rs qs : List Recorded} {us : List Lexeme} where
  pub stop_read : {A : Type 0} {r : Reply (Turn A pure.ParamsEnd)} (e : ParamsEnd) → ParamsEndOf i e (λ b. ReadAs rs r (Stop b) qs us) → (x : pure.ParamsEnd) × ParamsEndOf i e (λ y. x ≡ y) × ReadAs rs r (Stop x) qs us
  stop_read {r = r} e h = end_shown i e (λ b. ReadAs rs r (Stop b) qs us) h

  pub many_read : {A : Type 0} {r : Reply (Many A pure.ParamsEnd)} {xs : List A} (e : ParamsEnd) → ParamsEndOf i e (λ b. ReadAs rs r (record { items = xs; last = b }) qs us) → (x : pure.ParamsEnd) × ParamsEndOf i e (λ y. x ≡ y) × ReadAs rs r (record { items = xs; last = x }) qs us
  many_read {r = r} {xs = xs} e h = end_shown i e (λ b. ReadAs rs r (record { items = xs; last = b }) qs us) h

  pub many_reads : {A : Type 0} {r : Reply (Many A pure.ParamsEnd)} {xs : List A} (e : ParamsEnd) (x : pure.ParamsEnd) → ParamsEndOf i e (λ y. x ≡ y) → ReadAs rs r (record { items = xs; last = x }) qs us → ParamsEndOf i e (λ b. ReadAs rs r (record { items = xs; last = b }) qs us)
  many_reads {r = r} {xs = xs} e x h q = end_stands i e x (λ b. ReadAs rs r (record { items = xs; last = b }) qs us) h q

-- how parameters end

pub comma_at : (i : Interpretation) (e : ParamsEnd) (x : pure.ParamsEnd) → ParamsEndOf i e (λ y. x ≡ y) → e ≡ ends.Trailing → true ≡ pure.is_trailing x
comma_at i ends.Trailing x h e = sym (ap pure.is_trailing h)
comma_at i ends.Plain x h e = absurd (cc)
comma_at i (ends.Rest n) x h e = absurd (cc)

pub comma_none : (i : Interpretation) (e : ParamsEnd) (x : pure.ParamsEnd) → ParamsEndOf i e (λ y. x ≡ y) → (e ≡ ends.Trailing → ⊥) → false ≡ pure.is_trailing x
comma_none i ends.Trailing x h e = absurd (e refl)
comma_none i ends.Plain x h e = sym (ap pure.is_trailing h)
comma_none i (ends.Rest n) x h e = sym (ap pure.is_trailing h)

module _ {E : Type 0} (i : Interpretation) (shows : E → Expr → Type 0) where
  pub rest_params : (e : ParamsEnd) (x : pure.ParamsEnd) (n : Ident) (ns : List (NodeParam E)) (ps : List Param) → ParamsEndOf i e (λ y. x ≡ y) → e ≡ ends.Rest n → ShowAll (ShowParam i shows) ns ps
      → ShowAll (ShowParam i shows) (ns ++ record { name = n; value = None; rest = true } ∷ []) (pure.ended_params ps x)
  rest_params e x n ns ps h is all =
      let rest : x ≡ pure.Rest (named i n) = subst (λ d. ParamsEndOf i d (λ y. x ≡ y)) is h in
      subst (λ y. ShowAll (ShowParam i shows) (ns ++ record { name = n; value = None; rest = true } ∷ []) (pure.ended_params ps y)) (sym rest) (all_more (ShowParam i shows) ns ps _ _ all refl)

  pub no_rest_params : (e : ParamsEnd) (x : pure.ParamsEnd) (ns : List (NodeParam E)) (ps : List Param) → ParamsEndOf i e (λ y. x ≡ y) → ((n : Ident) → e ≡ ends.Rest n → ⊥) → ShowAll (ShowParam i shows) ns ps
      → ShowAll (ShowParam i shows) ns (pure.ended_params ps x)
  no_rest_params ends.Plain x ns ps h none all = subst (λ y. ShowAll (ShowParam i shows) ns (pure.ended_params ps y)) (sym h) all
  no_rest_params ends.Trailing x ns ps h none all = subst (λ y. ShowAll (ShowParam i shows) ns (pure.ended_params ps y)) (sym h) all
  no_rest_params (ends.Rest n) x ns ps h none all = absurd (none n refl)

  -- parameters that have neither initializers nor rest marks

  value_plain : (v : Option E) (m : Named) (r : Bool) (p : Param) → MaybeOf shows v (λ t. p ≡ record { name = m; value = t; rest = r }) → (is_none v && not r) ≡ (is_none p.value && not p.rest)
  value_plain None m r p h = sym (ap (λ (q : Param). is_none q.value && not q.rest) h)
  value_plain (Some e) m r p h = sym (ap (λ (q : Param). is_none q.value && not q.rest) h.2)

  pub simple_same : (ns : List (NodeParam E)) (ps : List Param) → ShowAll (ShowParam i shows) ns ps → list_all is_plain ns ≡ pure.is_simple ps
  simple_same [] [] h = refl
  simple_same [] (p ∷ ps) h = absurd h
  simple_same (n ∷ ns) [] h = absurd h
  simple_same (n ∷ ns) (p ∷ ps) h = ap (λ b. b && list_all is_plain ns) (value_plain n.value (named i n.name) n.rest p h.0) ∙ ap (λ b. (is_none p.value && not p.rest) && b) (simple_same ns ps h.1)

-- forms of functions

pub not_getter : (f : FuncForm) → (f ≡ form.Getter → ⊥) → pure.is_getter f ≡ false
not_getter form.Getter h = absurd (h refl)
not_getter form.Setter h = refl
not_getter form.Script h = refl
not_getter form.Function h = refl
not_getter form.Method h = refl
not_getter form.Arrow h = refl

pub not_setter : (f : FuncForm) → (f ≡ form.Setter → ⊥) → pure.is_setter f ≡ false
not_setter form.Setter h = absurd (h refl)
not_setter form.Getter h = refl
not_setter form.Script h = refl
not_setter form.Function h = refl
not_setter form.Method h = refl
not_setter form.Arrow h = refl
