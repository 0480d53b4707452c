-- Completeness of an arrow's parameters.
use Rattle.std.proofs.Common.{◌≡◌, ℕ, suc, ◌≤◌, ◌<◌, List, [], ◌∷◌, ◌++◌, length, refl, sym, ap, ◌∙◌, subst, arith, append_assoc, Bool, true, false, ◌||◌, Option, Some, None}
use Rattle.script_grammar.specs.declared.token.Kind.TheVariants as kind
use Rattle.script_grammar.specs.declared.token.mark.TheConstants as mark
use Rattle.script_grammar.specs.Lexeme.{Lexeme}
use Rattle.script_grammar.specs.Kinds.{is_mark}
use Rattle.script_grammar.specs.Tree.{Named, Expr, MaybeExpr, no_expr, some_expr, Params, no_params, more_params}
use Rattle.script_grammar.specs.TreeLists.{Param, maybe_expr_of}
use Rattle.script_grammar.specs.Pieces.{Piece, mark_piece, name_piece, comma_piece}
use Rattle.script_grammar.specs.Print.{print_params, print_more_params, print_initializer}
use Rattle.script_grammar.specs.Proper.{AreParams}
use Rattle.grammar_parser_specs.specs.Parser.{Read, head_of, ret, bind, step, when, Turn, Again, Stop, loop, stopped, begun, Many}
use Rattle.grammar_parser_specs.specs.Exprs as parser
use Rattle.grammar_parser_specs.specs.Exprs.{Env, AParam, ARest, expect, param, ParamsEnd, Plain, Trailing, Rest, Head, head_case, is_param_form}
use Rattle.grammar_parser_laws.proofs.Friendly.{first_of}
use Rattle.grammar_parser_laws.proofs.Tests.{true_false, or_cases, mark_known}
use Rattle.grammar_parser_laws.proofs.Stands.{Marked, lexemes, Stands}
use Rattle.grammar_parser_laws.proofs.Complete.{bare}
use Rattle.grammar_complete_laws.proofs.Completes.{Completes, Leads, Any, lead_none, lead_at, lead_any, lead_map, c_ret, c_bind, c_made, c_at, c_front, c_look, c_weaken, c_pieces, c_mark}
use Rattle.grammar_complete_laws.proofs.CompleteLoops.{c_loop, LastLeads}
use Rattle.grammar_complete_laws.proofs.CompleteStmts.{c_value}
use Rattle.grammar_complete_laws.proofs.CompleteBinds.{option_of}
use Rattle.grammar_complete_laws.proofs.CompleteParts.{CompleteEnv, ParamFollow}
use Rattle.grammar_complete_laws.proofs.CompleteParams.{singles, ends_as, HasOne, single_pieces, end_pieces, flat_params, all_singles, IsSingle, comma_follows, close_follows, rest_alone}
use Rattle.grammar_parser_laws.proofs.ProperIn.{Mode, ProperMaybe, ProperParams}

of_maybe : (o : MaybeExpr) → maybe_expr_of (option_of o) ≡ o
of_maybe no_expr = refl
of_maybe (some_expr e) = refl

opt_of : (o : Option Expr) → option_of (maybe_expr_of o) ≡ o
opt_of None = refl
opt_of (Some e) = refl

pub same_param : (p : Param) → p.rest ≡ false → param p.name (option_of (maybe_expr_of p.value)) ≡ p
same_param p e = ap (param p.name) (opt_of p.value) ∙ ap (λ x. record { name = p.name; value = p.value; rest = x }) (sym e)

module _ (limit : ℕ) (m : Mode) (d : ℕ) (low : d ≤ limit) (v : Env) (c : CompleteEnv limit m d v) where
  -- what stands after a parameter
  abbrev Behind : Lexeme → Type 0
  Behind t = (is_mark mark.COMMA t.kind || is_mark mark.CLOSE_PAREN t.kind) ≡ true

  behind_comma : (t : Lexeme) → t.kind ≡ kind.Mark mark.COMMA → Behind t
  behind_comma t e = ap (λ k. is_mark mark.COMMA k || is_mark mark.CLOSE_PAREN k) e

  behind_close : (t : Lexeme) → t.kind ≡ kind.Mark mark.CLOSE_PAREN → Behind t
  behind_close t e = ap (λ k. is_mark mark.COMMA k || is_mark mark.CLOSE_PAREN k) e

  behind_follows : (o : MaybeExpr) (t : Lexeme) → Behind t → ParamFollow o t
  behind_follows o t h = or_cases (is_mark mark.COMMA t.kind) (is_mark mark.CLOSE_PAREN t.kind) h (λ e. comma_follows limit m d o t (mark_known mark.COMMA t.kind e)) (λ e. close_follows limit m d o t (mark_known mark.CLOSE_PAREN t.kind e))

  abbrev param_places : Named → MaybeExpr → List Piece
  param_places n o = name_piece n (suc d) ∷ print_initializer m.look (suc d) o

  called : (n : Named) (o : MaybeExpr) → ProperMaybe m o → Completes limit {A = Turn Param ParamsEnd} (param_places n o) Behind (bind (v.sub AParam) parser.again) (Again (param n (option_of o)))
  called n o h = c_made limit Again (c_weaken limit (λ t g. behind_follows o t g) (subst (λ x. Completes limit (name_piece n (suc d) ∷ print_initializer m.look (suc d) x) (ParamFollow x) (v.sub AParam) (param n (option_of o))) (of_maybe o) (c.calls.param (param n (option_of o)) refl (subst (ProperMaybe m) (sym (of_maybe o)) h))))

  name_some : (n : Named) (ps : List Piece) (w : List Marked) (x : Lexeme) → Stands (name_piece n (suc d) ∷ ps) w x → 0 < length (lexemes w)
  name_some n ps [] x h = absurd h
  name_some n ps (y ∷ w) x h = omega arith

  mark_some : (i q : ℕ) (ps : List Piece) (w : List Marked) (x : Lexeme) → Stands (mark_piece i q ∷ ps) w x → 0 < length (lexemes w)
  mark_some i q ps [] x h = absurd h
  mark_some i q ps (y ∷ w) x h = omega arith

  -- a parameter, or a rest parameter

  first_item : (t : Lexeme) (ts : List Lexeme) → is_mark mark.ELLIPSIS t.kind ≡ false → parser.arrow_first v (t ∷ ts) ≡ bind (v.sub AParam) parser.again (t ∷ ts)
  unfolding parser.arrow_first
  first_item t ts h = ap (λ b. when b (bind (v.sub ARest) parser.rest_stop) (bind (v.sub AParam) parser.again) (t ∷ ts)) h

  first_rest : (t : Lexeme) (ts : List Lexeme) → is_mark mark.ELLIPSIS t.kind ≡ true → parser.arrow_first v (t ∷ ts) ≡ bind (v.sub ARest) parser.rest_stop (t ∷ ts)
  unfolding parser.arrow_first
  first_rest t ts h = ap (λ b. when b (bind (v.sub ARest) parser.rest_stop) (bind (v.sub AParam) parser.again) (t ∷ ts)) h

  one_complete : (n : Named) (o : MaybeExpr) → ProperMaybe m o → Completes limit (param_places n o) Behind (parser.arrow_first v) (Again (param n (option_of o)))
  one_complete n o h = c_front limit (bind (v.sub AParam) parser.again) (λ x w rest q g. first_item x.lexeme (lexemes w ++ rest) (ap (is_mark mark.ELLIPSIS) q.0.kind)) (name_some n (print_initializer m.look (suc d) o)) (called n o h)

  rest_complete : (n : Named) → Completes limit (mark_piece mark.ELLIPSIS (suc d) ∷ name_piece n (suc d) ∷ []) Any (parser.arrow_first v) (Stop (Rest n))
  rest_complete n = c_front limit (bind (v.sub ARest) parser.rest_stop) (λ x w rest q g. first_rest x.lexeme (lexemes w ++ rest) (ap (is_mark mark.ELLIPSIS) q.0.kind)) (mark_some mark.ELLIPSIS (suc d) (name_piece n (suc d) ∷ [])) (c_made limit (λ x. Stop (Rest x)) (c.calls.rest n))

  -- after a comma, and a turn

  next_first : (t : Lexeme) (ts : List Lexeme) → is_mark mark.CLOSE_PAREN t.kind ≡ false → parser.arrow_next v (t ∷ ts) ≡ parser.arrow_first v (t ∷ ts)
  unfolding parser.arrow_next
  next_first t ts h = ap (λ b. when b (ret (Stop Trailing)) (parser.arrow_first v) (t ∷ ts)) h

  next_close : (rest : List Lexeme) → (head_of rest).kind ≡ kind.Mark mark.CLOSE_PAREN → bare (parser.arrow_next v rest) ≡ Read (Stop Trailing) [] rest
  unfolding parser.arrow_next
  next_close rest h = ap (λ k. bare (when (is_mark mark.CLOSE_PAREN k) (ret (Stop Trailing)) (parser.arrow_first v) rest)) h

  turn_comma : (t : Lexeme) (ts : List Lexeme) → t.kind ≡ kind.Mark mark.COMMA → parser.arrow_turn v (t ∷ ts) ≡ parser.arrow_next v ts
  unfolding parser.arrow_turn
  turn_comma t ts h = ap (λ k. when (is_mark mark.COMMA k) (step (parser.arrow_next v)) (ret (Stop Plain)) (t ∷ ts)) h

  turn_close : (rest : List Lexeme) → (head_of rest).kind ≡ kind.Mark mark.CLOSE_PAREN → bare (parser.arrow_turn v rest) ≡ Read (Stop Plain) [] rest
  unfolding parser.arrow_turn
  turn_close rest h = ap (λ k. bare (when (is_mark mark.COMMA k) (step (parser.arrow_next v)) (ret (Stop Plain)) rest)) h

  abbrev Closes : Lexeme → Type 0
  Closes t = t.kind ≡ kind.Mark mark.CLOSE_PAREN

  each : (p : Param) → IsSingle limit m d p → Completes limit (single_pieces limit m d (suc d) p) Behind (parser.arrow_turn v) (Again p)
  each p k = c_at limit (λ t. parser.arrow_next v) low (λ t ts s. turn_comma t ts s.kind) (λ t s. c_front limit (parser.arrow_first v) (λ x w rest q g. next_first x.lexeme (lexemes w ++ rest) (ap (is_mark mark.CLOSE_PAREN) q.0.kind)) (name_some p.name (print_initializer m.look (suc d) (maybe_expr_of p.value))) (c_value (ap Again (same_param p k.0)) (one_complete p.name (maybe_expr_of p.value) k.1)))

  stop : (e : ParamsEnd) → Completes limit (end_pieces limit m d (suc d) e) Closes (parser.arrow_turn v) (Stop e)
  stop Plain = c_look limit turn_close
  stop Trailing = c_at limit (λ t. parser.arrow_next v) low (λ t ts s. turn_comma t ts s.kind) (λ t s. c_look limit next_close)
  stop (Rest n) = c_at limit (λ t. parser.arrow_next v) low (λ t ts s. turn_comma t ts s.kind) (λ t s. c_front limit (parser.arrow_first v) (λ x w rest q g. next_first x.lexeme (lexemes w ++ rest) (ap (is_mark mark.CLOSE_PAREN) q.0.kind)) (mark_some mark.ELLIPSIS (suc d) (name_piece n (suc d) ∷ [])) (c_weaken limit (λ t g. tt) (rest_complete n)))

  some : (p : Param) → IsSingle limit m d p → (w : List Marked) (n : Lexeme) → Stands (single_pieces limit m d (suc d) p) w n → 0 < length (lexemes w)
  some p k [] n h = absurd h
  some p k (x ∷ w) n h = omega arith

  link : (p r : Param) → IsSingle limit m d p → IsSingle limit m d r → (w : List Marked) (n : Lexeme) → Stands (single_pieces limit m d (suc d) r) w n → Behind (first_of (lexemes w) n)
  link p r kp kr [] n h = absurd h
  link p r kp kr (x ∷ w) n h = behind_comma x.lexeme h.0.kind

  end_leads : (e : ParamsEnd) → Leads (end_pieces limit m d (suc d) e) Closes Behind
  end_leads Plain = lead_map (λ t g. behind_close t g) lead_none
  end_leads Trailing = lead_at (λ t s. behind_comma t s.kind)
  end_leads (Rest n) = lead_at (λ t s. behind_comma t s.kind)

  last_lead : (e : ParamsEnd) (xs : List Param) → LastLeads limit (IsSingle limit m d) (single_pieces limit m d (suc d)) (λ p. Behind) (end_pieces limit m d (suc d) e) Closes e (parser.arrow_turn v) each some link (stop e) xs
  last_lead e [] = tt
  last_lead e (p ∷ []) = end_leads e
  last_lead e (p ∷ r ∷ xs) = last_lead e (r ∷ xs)

  -- all parameters

  has_one : (n : Named) (o : MaybeExpr) (ps : Params) (comma : Bool) → AreParams (more_params n o false ps) comma → HasOne ps → AreParams ps comma
  has_one n o no_params comma h k = absurd k
  has_one n no_expr (more_params n2 v2 r2 ps) comma h k = h
  has_one n (some_expr e) (more_params n2 v2 r2 ps) comma h k = h

  behind_complete : (ps : Params) (comma : Bool) → (HasOne ps → AreParams ps comma) → ProperParams m ps → Completes limit (print_more_params m.look (suc d) d ps ++ comma_piece comma d) Closes (loop (parser.arrow_turn v)) (record { items = singles ps; last = ends_as ps comma })
  behind_complete ps comma h k = c_pieces limit (flat_params limit m d (suc d) ps comma h) (c_loop limit (IsSingle limit m d) (single_pieces limit m d (suc d)) (λ p. Behind) (end_pieces limit m d (suc d) (ends_as ps comma)) Closes (ends_as ps comma) (parser.arrow_turn v) each some link (stop (ends_as ps comma)) (singles ps) (all_singles limit m d ps k) (last_lead (ends_as ps comma) (singles ps)))

  behind_leads : (ps : Params) (comma : Bool) → Leads (print_more_params m.look (suc d) d ps ++ comma_piece comma d) Closes Behind
  behind_leads no_params true = lead_at (λ t s. behind_comma t s.kind)
  behind_leads no_params false = lead_map (λ t g. behind_close t g) lead_none
  behind_leads (more_params n o rest ps) comma = lead_at (λ t s. behind_comma t s.kind)

  more_none : (rest : List Lexeme) → Closes (head_of rest) → bare (parser.arrow_params v rest) ≡ Read (stopped Plain) [] rest
  unfolding parser.arrow_params
  more_none rest h = ap (λ k. bare (when (is_mark mark.CLOSE_PAREN k) (ret (stopped Plain)) (bind (parser.arrow_first v) (parser.params_led (parser.arrow_turn v))) rest)) h

  more_some : (t : Lexeme) (ts : List Lexeme) → is_mark mark.CLOSE_PAREN t.kind ≡ false → parser.arrow_params v (t ∷ ts) ≡ bind (parser.arrow_first v) (parser.params_led (parser.arrow_turn v)) (t ∷ ts)
  unfolding parser.arrow_params
  more_some t ts h = ap (λ b. when b (ret (stopped Plain)) (bind (parser.arrow_first v) (parser.params_led (parser.arrow_turn v))) (t ∷ ts)) h

  -- parameters that begin with one that is no rest parameter
  pub many_complete : (n : Named) (o : MaybeExpr) (ps : Params) (comma : Bool) → AreParams (more_params n o false ps) comma → ProperParams m (more_params n o false ps) → Completes limit (print_params m.look (suc d) d (more_params n o false ps) ++ comma_piece comma d) Closes (parser.arrow_params v) (record { items = singles (more_params n o false ps); last = ends_as (more_params n o false ps) comma })
  many_complete n o ps comma h k = c_front limit (bind (parser.arrow_first v) (parser.params_led (parser.arrow_turn v))) (λ x w r q g. more_some x.lexeme (lexemes w ++ r) (ap (is_mark mark.CLOSE_PAREN) q.0.kind)) (name_some n ((print_initializer m.look (suc d) o ++ print_more_params m.look (suc d) d ps) ++ comma_piece comma d))
      (c_pieces limit (sym (append_assoc (param_places n o) (print_more_params m.look (suc d) d ps) (comma_piece comma d)))
      (c_bind limit (parser.params_led (parser.arrow_turn v)) (one_complete n o k.0) (behind_leads ps comma) (c_made limit (begun (param n (option_of o))) (behind_complete ps comma (λ x. has_one n o ps comma h x) k.1))))

  -- none
  pub none_complete : Completes limit [] Closes (parser.arrow_params v) (stopped Plain)
  none_complete = c_look limit more_none

  abbrev pub many_of : Params → Bool → Many Param ParamsEnd
  many_of ps comma = record { items = singles ps; last = ends_as ps comma }

  -- a rest parameter alone
  rest_first : (n : Named) (o : MaybeExpr) (ps : Params) (comma : Bool) → AreParams (more_params n o true ps) comma → Completes limit (print_params m.look (suc d) d (more_params n o true ps) ++ comma_piece comma d) Closes (parser.arrow_params v) (record { items = []; last = Rest n })
  rest_first n o ps comma h = by (rest_alone n o ps comma h)
    where
      alone : Completes limit (mark_piece mark.ELLIPSIS (suc d) ∷ name_piece n (suc d) ∷ []) Closes (parser.arrow_params v) (record { items = []; last = Rest n })
      alone = c_front limit (bind (parser.arrow_first v) (parser.params_led (parser.arrow_turn v))) (λ x w r q g. more_some x.lexeme (lexemes w ++ r) (ap (is_mark mark.CLOSE_PAREN) q.0.kind)) (mark_some mark.ELLIPSIS (suc d) (name_piece n (suc d) ∷ []))
          (c_bind limit (parser.params_led (parser.arrow_turn v)) {b = record { items = []; last = Rest n }} (rest_complete n) lead_any (c_ret limit (stopped (Rest n))))

      by : (o ≡ no_expr) × (ps ≡ no_params) × (comma ≡ false) → Completes limit (print_params m.look (suc d) d (more_params n o true ps) ++ comma_piece comma d) Closes (parser.arrow_params v) (record { items = []; last = Rest n })
      by z = subst (λ x. Completes limit (print_params m.look (suc d) d (more_params n x true ps) ++ comma_piece comma d) Closes (parser.arrow_params v) (record { items = []; last = Rest n })) (sym z.0)
          (subst (λ x. Completes limit (print_params m.look (suc d) d (more_params n no_expr true x) ++ comma_piece comma d) Closes (parser.arrow_params v) (record { items = []; last = Rest n })) (sym z.1)
          (subst (λ x. Completes limit (print_params m.look (suc d) d (more_params n no_expr true no_params) ++ comma_piece x d) Closes (parser.arrow_params v) (record { items = []; last = Rest n })) (sym z.2) alone))

  pub params_complete : (ps : Params) (comma : Bool) → AreParams ps comma → ProperParams m ps → Completes limit (print_params m.look (suc d) d ps ++ comma_piece comma d) Closes (parser.arrow_params v) (many_of ps comma)
  params_complete no_params true h k = absurd (true_false h)
  params_complete no_params false h k = none_complete
  params_complete (more_params n o false ps) comma h k = many_complete n o ps comma h k
  params_complete (more_params n o true ps) comma h k = rest_first n o ps comma h

  -- with the closing parenthesis
  pub listed_complete : {F : Lexeme → Type 0} (start : ℕ) (ps : Params) (comma : Bool) → AreParams ps comma → ProperParams m ps → Completes limit (print_params m.look (suc d) d ps ++ (comma_piece comma d ++ mark_piece mark.CLOSE_PAREN d ∷ [])) F (parser.arrow_listed v start) (head_case start (many_of ps comma))
  unfolding parser.arrow_listed
  listed_complete start ps comma h k = c_pieces limit (append_assoc (print_params m.look (suc d) d ps) (comma_piece comma d) (mark_piece mark.CLOSE_PAREN d ∷ [])) (c_bind limit (λ x. bind (expect mark.CLOSE_PAREN) (λ _. ret (head_case start x))) (params_complete ps comma h k) (lead_at (λ t s. s.kind)) (c_made limit (λ _. head_case start (many_of ps comma)) (c_mark limit mark.CLOSE_PAREN d low refl)))
