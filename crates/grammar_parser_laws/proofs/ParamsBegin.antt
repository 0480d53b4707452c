-- The lexemes of an arrow's parameters, cut at their commas, begin as parameters do.
use Rattle.std.proofs.Common.{◌≡◌, ℕ, List, [], ◌∷◌, ◌++◌, refl, sym, ap, ◌∙◌, subst, arith, append_assoc, Bool, true, false, ◌&&◌, ◌||◌, nat_eq, if◌then◌else◌, Option, Some, None}
use Rattle.script_grammar.specs.declared.token.Kind.{Kind}
use Rattle.script_grammar.specs.declared.token.Kind.TheVariants as kind
use Rattle.script_grammar.specs.declared.token.mark.TheConstants as mark
use Rattle.script_grammar.specs.Lexeme.{Lexeme}
use Rattle.script_grammar.specs.Kinds.{is_mark, is_name}
use Rattle.script_grammar.specs.Tree.{Named, MaybeExpr, no_expr, some_expr, Params, no_params, more_params}
use Rattle.script_grammar.specs.Pieces.{Bodies, Piece, Fits, Opener, paren, bracket, brace, open_behind, mark_opens, comma_piece, mark_piece, name_piece}
use Rattle.script_grammar.specs.Print
use Rattle.script_grammar.specs.Proper.{AreParams, ProperMaybe, ProperParams}
use Rattle.grammar_parser_specs.specs.Parser.{head_of}
use Rattle.grammar_parser_specs.specs.Exprs.{only_params, params_case, is_between, begins_param, is_param_form}
use Rattle.grammar_parser_laws.proofs.Fitting.{fits_part}
use Rattle.grammar_parser_laws.proofs.Nested.{Neutral}
use Rattle.grammar_parser_laws.proofs.Tests.{true_false, and_left, and_both, or_left, or_right}
use Rattle.grammar_parser_laws.proofs.Flat.{Flat, step_params, flat_none, flat_mark, flat_expr}

-- at the start of an item
pub start_params : (t : Lexeme) (ts : List Lexeme) → Neutral t.kind → is_mark mark.COMMA t.kind ≡ false → begins_param t (head_of ts) ≡ true → only_params true (paren ∷ []) (t ∷ ts) ≡ only_params false (paren ∷ []) ts
start_params t ts k c h =
    ap (λ b. params_case b (begins_param t (head_of ts)) (λ qs. only_params (is_between t.kind qs) qs ts)) (k (paren ∷ []))
    ∙ ap (λ b. b && only_params (is_mark mark.COMMA t.kind) (paren ∷ []) ts) h
    ∙ ap (λ b. only_params b (paren ∷ []) ts) c

-- at a comma of the parenthesis an item starts
pub comma_params : (t : Lexeme) (ts : List Lexeme) → t.kind ≡ kind.Mark mark.COMMA → only_params false (paren ∷ []) (t ∷ ts) ≡ only_params true (paren ∷ []) ts
comma_params t ts e =
    step_params t ts (paren ∷ []) paren [] (ap (λ k. open_behind k (paren ∷ [])) e)
    ∙ ap (λ k. only_params (is_mark mark.COMMA k) (paren ∷ []) ts) e

-- at the closing parenthesis
close_params : (b : Bool) (t : Lexeme) (ts : List Lexeme) → t.kind ≡ kind.Mark mark.CLOSE_PAREN → only_params b (paren ∷ []) (t ∷ ts) ≡ true
close_params true t ts e = ap (λ k. params_case (open_behind k (paren ∷ [])) (begins_param t (head_of ts)) (λ qs. only_params (is_between t.kind qs) qs ts)) e
close_params false t ts e = ap (λ k. params_case (open_behind k (paren ∷ [])) true (λ qs. only_params (is_between t.kind qs) qs ts)) e

-- a name that begins a parameter, at the start of an item or elsewhere
pub name_params : (t : Lexeme) (ts : List Lexeme) → t.kind ≡ kind.Name → begins_param t (head_of ts) ≡ true → only_params false (paren ∷ []) (t ∷ ts) ≡ only_params true (paren ∷ []) (t ∷ ts)
name_params t ts e h =
    step_params t ts (paren ∷ []) paren [] (ap (λ k. open_behind k (paren ∷ [])) e)
    ∙ ap (λ k. only_params (is_mark mark.COMMA k) (paren ∷ []) ts) e
    ∙ sym (start_params t ts (λ os. ap (λ k. open_behind k os) e) (ap (is_mark mark.COMMA) e) h)

-- which token closes the parenthesis

closing_mark : (i : ℕ) → mark_opens i (paren ∷ []) ≡ Some [] → nat_eq i mark.CLOSE_PAREN ≡ true
closing_mark i e = by (nat_eq i mark.OPEN_PAREN) (nat_eq i mark.CLOSE_PAREN) (nat_eq i mark.OPEN_BRACKET) (nat_eq i mark.CLOSE_BRACKET) (nat_eq i mark.OPEN_BRACE) (nat_eq i mark.CLOSE_BRACE) e
  where
    by : (a b c d f g : Bool) → (if a then Some (paren ∷ paren ∷ []) else if b then Some [] else if c then Some (bracket ∷ paren ∷ []) else if d then None else if f then Some (brace ∷ paren ∷ []) else if g then None else Some (paren ∷ [])) ≡ Some [] → b ≡ true
    by true b c d f g h = absurd (cc)
    by false true c d f g h = refl
    by false false true d f g h = absurd (cc)
    by false false false true f g h = absurd (cc)
    by false false false false true g h = absurd (cc)
    by false false false false false true h = absurd (cc)
    by false false false false false false h = absurd (cc)

closing_paren : (k : Kind) → open_behind k (paren ∷ []) ≡ Some [] → is_mark mark.CLOSE_PAREN k ≡ true
closing_paren kind.Name e = absurd (cc)
closing_paren kind.Number e = absurd (cc)
closing_paren kind.Str e = absurd (cc)
closing_paren kind.TemplateWhole e = absurd (cc)
closing_paren kind.TemplateHead e = absurd (cc)
closing_paren kind.TemplateMiddle e = absurd (cc)
closing_paren kind.TemplateTail e = absurd (cc)
closing_paren (kind.Word i) e = absurd (cc)
closing_paren (kind.Mark i) e = closing_mark i e
closing_paren kind.Bad e = absurd (cc)
closing_paren kind.End e = absurd (cc)

-- what starts an item that is a parameter
pub params_start : (t : Lexeme) (ts : List Lexeme) → is_mark mark.CLOSE_PAREN t.kind ≡ false → only_params true (paren ∷ []) (t ∷ ts) ≡ true → begins_param t (head_of ts) ≡ true
params_start t ts c h = by (open_behind t.kind (paren ∷ [])) refl h
  where
    by : (o : Option (List Opener)) → open_behind t.kind (paren ∷ []) ≡ o → params_case o (begins_param t (head_of ts)) (λ qs. only_params (is_between t.kind qs) qs ts) ≡ true → begins_param t (head_of ts) ≡ true
    by None e h = absurd (cc)
    by (Some []) e h = absurd (true_false (sym (closing_paren t.kind e) ∙ c))
    by (Some (x ∷ xs)) e h = and_left (begins_param t (head_of ts)) (only_params (is_between t.kind (x ∷ xs)) (x ∷ xs) ts) h

begins_ellipsis : (t u : Lexeme) → t.kind ≡ kind.Mark mark.ELLIPSIS → begins_param t u ≡ true
begins_ellipsis t u e = or_left (is_mark mark.ELLIPSIS t.kind) (is_param_form t u) (ap (is_mark mark.ELLIPSIS) e)

begins_name : (t u : Lexeme) → t.kind ≡ kind.Name → (is_mark mark.COMMA u.kind || is_mark mark.CLOSE_PAREN u.kind || is_mark mark.ASSIGN u.kind) ≡ true → begins_param t u ≡ true
begins_name t u e h = or_right (is_mark mark.ELLIPSIS t.kind) (is_param_form t u) (and_both (is_name t.kind) (is_mark mark.COMMA u.kind || is_mark mark.CLOSE_PAREN u.kind || is_mark mark.ASSIGN u.kind) (ap is_name e) h)

module _ (m : Bodies) (q d : ℕ) (comma : Bool) (qs : List Piece) (r : List Lexeme) where
  -- what stands after the last parameter
  abbrev Tail : List Piece
  Tail = comma_piece comma d ++ (mark_piece mark.CLOSE_PAREN d ∷ qs)

  flat_initializer : (o : MaybeExpr) → ProperMaybe m o → Flat (Print.print_initializer m q o)
  flat_initializer no_expr p = flat_none
  flat_initializer (some_expr e) p = flat_mark _ mark.ASSIGN _ refl (omega arith) refl (flat_expr m _ e p.0 p.1)

  at_tail : (c : Bool) (w : List Lexeme) (n : Lexeme) → Fits (comma_piece c d ++ (mark_piece mark.CLOSE_PAREN d ∷ qs)) w n → only_params false (paren ∷ []) (w ++ r) ≡ true
  at_tail c [] n h = none c h
    where
      none : (c : Bool) → Fits (comma_piece c d ++ (mark_piece mark.CLOSE_PAREN d ∷ qs)) [] n → only_params false (paren ∷ []) r ≡ true
      none true h = absurd h
      none false h = absurd h
  at_tail false (t ∷ w) n h = close_params false t (w ++ r) h.0.kind
  at_tail true (t ∷ []) n h = absurd h.1
  at_tail true (t ∷ u ∷ w) n h = comma_params t (u ∷ (w ++ r)) h.0.kind ∙ close_params true u (w ++ r) h.1.0.kind

  -- what stands after a parameter without an initializer
  abbrev Ends : Lexeme → Type 0
  Ends t = (is_mark mark.COMMA t.kind || is_mark mark.CLOSE_PAREN t.kind) ≡ true

  tail_ends : (c : Bool) (w : List Lexeme) (n : Lexeme) → Fits (comma_piece c d ++ (mark_piece mark.CLOSE_PAREN d ∷ qs)) w n → Ends (head_of (w ++ r))
  tail_ends true [] n h = absurd h
  tail_ends false [] n h = absurd h
  tail_ends true (t ∷ w) n h = ap (λ k. is_mark mark.COMMA k || is_mark mark.CLOSE_PAREN k) h.0.kind
  tail_ends false (t ∷ w) n h = ap (λ k. is_mark mark.COMMA k || is_mark mark.CLOSE_PAREN k) h.0.kind

  more_ends : (ps : Params) (w : List Lexeme) (n : Lexeme) → Fits (Print.print_more_params m q d ps ++ Tail) w n → Ends (head_of (w ++ r))
  more_ends no_params w n h = tail_ends comma w n h
  more_ends (more_params name value rest ps) [] n h = absurd h
  more_ends (more_params name value rest ps) (t ∷ w) n h = ap (λ k. is_mark mark.COMMA k || is_mark mark.CLOSE_PAREN k) h.0.kind

  -- After a parameter's name, where it is so after the parameter.
  at_value : (value : MaybeExpr) (ps : Params) → ProperMaybe m value → ((w : List Lexeme) (n : Lexeme) → Fits (Print.print_more_params m q d ps ++ Tail) w n → only_params false (paren ∷ []) (w ++ r) ≡ true) → (w : List Lexeme) (n : Lexeme) → Fits ((Print.print_initializer m q value ++ Print.print_more_params m q d ps) ++ Tail) w n → only_params false (paren ∷ []) (w ++ r) ≡ true
  at_value value ps p more w n h =
      let x = fits_part (Print.print_initializer m q value) (Print.print_more_params m q d ps ++ Tail) w n (subst (λ y. Fits y w n) (append_assoc (Print.print_initializer m q value) (Print.print_more_params m q d ps) Tail) h) in
      ap (λ z. only_params false (paren ∷ []) (z ++ r)) x.split
      ∙ ap (only_params false (paren ∷ [])) (append_assoc x.front x.back r)
      ∙ (flat_initializer value p).at x.front _ x.first (x.back ++ r)
      ∙ more x.back n x.second

  at_item : (rest : Bool) (name : Named) (value : MaybeExpr) (ps : Params) → ProperMaybe m value → ((w : List Lexeme) (n : Lexeme) → Fits (Print.print_more_params m q d ps ++ Tail) w n → only_params false (paren ∷ []) (w ++ r) ≡ true) → (w : List Lexeme) (n : Lexeme) → Fits ((Print.ellipsis rest q ++ (name_piece name q ∷ (Print.print_initializer m q value ++ Print.print_more_params m q d ps))) ++ Tail) w n → only_params true (paren ∷ []) (w ++ r) ≡ true
  at_item true name value ps p more [] n h = absurd h
  at_item true name value ps p more (t ∷ []) n h = absurd h.1
  at_item true name value ps p more (t ∷ u ∷ w) n h =
      start_params t (u ∷ (w ++ r)) (λ os. ap (λ k. open_behind k os) h.0.kind) (ap (is_mark mark.COMMA) h.0.kind) (begins_ellipsis t u h.0.kind)
      ∙ step_params u (w ++ r) (paren ∷ []) paren [] (ap (λ k. open_behind k (paren ∷ [])) h.1.0.kind)
      ∙ ap (λ k. only_params (is_mark mark.COMMA k) (paren ∷ []) (w ++ r)) h.1.0.kind
      ∙ at_value value ps p more w n h.1.1
  at_item false name value ps p more [] n h = absurd h
  at_item false name value ps p more (t ∷ w) n h =
      start_params t (w ++ r) (λ os. ap (λ k. open_behind k os) h.0.kind) (ap (is_mark mark.COMMA) h.0.kind) (begins_name t (head_of (w ++ r)) h.0.kind (followed value w h.1))
      ∙ at_value value ps p more w n h.1
    where
      followed : (value : MaybeExpr) (w : List Lexeme) → Fits ((Print.print_initializer m q value ++ Print.print_more_params m q d ps) ++ Tail) w n → (is_mark mark.COMMA (head_of (w ++ r)).kind || is_mark mark.CLOSE_PAREN (head_of (w ++ r)).kind || is_mark mark.ASSIGN (head_of (w ++ r)).kind) ≡ true
      followed no_expr w h = or_left (is_mark mark.COMMA (head_of (w ++ r)).kind || is_mark mark.CLOSE_PAREN (head_of (w ++ r)).kind) (is_mark mark.ASSIGN (head_of (w ++ r)).kind) (more_ends ps w n h)
      followed (some_expr e) [] h = absurd h
      followed (some_expr e) (t ∷ w) h = or_right (is_mark mark.COMMA t.kind || is_mark mark.CLOSE_PAREN t.kind) (is_mark mark.ASSIGN t.kind) (ap (is_mark mark.ASSIGN) h.0.kind)

  -- after a parameter
  at_more : (ps : Params) → ProperParams m ps → (w : List Lexeme) (n : Lexeme) → Fits (Print.print_more_params m q d ps ++ Tail) w n → only_params false (paren ∷ []) (w ++ r) ≡ true
  at_more no_params p w n h = at_tail comma w n h
  at_more (more_params name value rest ps) p [] n h = absurd h
  at_more (more_params name value rest ps) p (t ∷ w) n h = comma_params t (w ++ r) h.0.kind ∙ at_item rest name value ps p.0 (at_more ps p.1) w n h.1

  -- all of them, and the closing parenthesis
  pub params_begin : (ps : Params) → AreParams ps comma → ProperParams m ps → (w : List Lexeme) (n : Lexeme) → Fits (Print.print_params m q d ps ++ Tail) w n → only_params true (paren ∷ []) (w ++ r) ≡ true
  params_begin no_params a p w n h = none comma a w h
    where
      none : (c : Bool) → c ≡ false → (w : List Lexeme) → Fits (comma_piece c d ++ (mark_piece mark.CLOSE_PAREN d ∷ qs)) w n → only_params true (paren ∷ []) (w ++ r) ≡ true
      none true e w h = absurd (cc)
      none false e [] h = absurd h
      none false e (t ∷ w) h = close_params true t (w ++ r) h.0.kind
  params_begin (more_params name value rest ps) a p w n h = at_item rest name value ps p.0 (at_more ps p.1) w n h
