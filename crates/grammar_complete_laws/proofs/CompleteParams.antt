-- Completeness of functions that are no arrows, and of properties and objects: at their lexemes they are read.
use Rattle.std.proofs.Common.{◌≡◌, ℕ, ◌<◌, List, [], ◌∷◌, ◌++◌, length, refl, sym, ap, ◌∙◌, subst, arith, append_assoc, Bool, true, false}
use Rattle.script_grammar.specs.declared.token.Kind.TheVariants as kind
use Rattle.script_grammar.specs.declared.token.mark.TheConstants as mark
use Rattle.script_grammar.specs.Lexeme.{Lexeme}
use Rattle.script_grammar.specs.Kinds.{is_mark}
use Rattle.script_grammar.specs.Tree.{Named, MaybeExpr, no_expr, some_expr, Params, no_params, more_params}
use Rattle.script_grammar.specs.TreeLists.{Param, params_of, maybe_expr_of}
use Rattle.script_grammar.specs.Pieces.{Piece, mark_piece, name_piece, comma_piece}
use Rattle.script_grammar.specs.Endings.{ending}
use Rattle.script_grammar.specs.Print.{print_params, print_more_params, print_initializer}
use Rattle.script_grammar.specs.Proper.{AreParams}
use Rattle.grammar_parser_specs.specs.Parser.{Parser, bind, Turn, Again, Stop, loop, stopped, begun}
use Rattle.grammar_parser_specs.specs.Exprs as parser
use Rattle.grammar_parser_specs.specs.Exprs.{Env, AnAssign, ParamsEnd, Plain, Trailing, Rest, Head, BodyRead, expect, name_of, named, param, rest_param, ended_params, is_trailing, head_case, function_case, is_simple}
use Rattle.grammar_parser_laws.proofs.Friendly.{first_of}
use Rattle.grammar_parser_laws.proofs.Stands.{Marked, lexemes, Stands}
use Rattle.grammar_parser_laws.proofs.Complete.{AllK, flat}
use Rattle.grammar_complete_laws.proofs.Completes.{Completes, Leads, Any, lead_none, lead_at, lead_any, lead_map, c_ret, c_bind, c_made, c_pieces}
use Rattle.grammar_complete_laws.proofs.CompleteLoops.{c_loop, LastLeads}
use Rattle.grammar_complete_laws.proofs.CompleteBinds.{option_of}
use Rattle.grammar_complete_laws.proofs.Stops.{stop_comma, stop_assign, stop_close}
use Rattle.grammar_complete_laws.proofs.CompleteParts.{ParamFollow}
use Rattle.grammar_parser_laws.proofs.ProperIn.{Mode, ProperMaybe, ProperParams}

-- Parameters as a list of those without a rest mark, and how they end.

abbrev pub singles : Params → List Param
singles no_params = []
singles (more_params n value true ps) = []
singles (more_params n value false ps) = param n (option_of value) ∷ singles ps

abbrev pub ends_as : Params → Bool → ParamsEnd
ends_as no_params true = Trailing
ends_as no_params false = Plain
ends_as (more_params n value true ps) comma = Rest n
ends_as (more_params n value false ps) comma = ends_as ps comma

of_maybe : (o : MaybeExpr) → maybe_expr_of (option_of o) ≡ o
of_maybe no_expr = refl
of_maybe (some_expr e) = refl

abbrev pub HasOne : Params → Type 0
HasOne no_params = ⊥
HasOne (more_params n value rest ps) = Unit {0}

tail_params : (n : Named) (value : MaybeExpr) (ps : Params) (comma : Bool) → AreParams (more_params n value false ps) comma → HasOne ps → AreParams ps comma
tail_params n value no_params comma h k = absurd k
tail_params n no_expr (more_params n2 v2 r2 ps) comma h k = h
tail_params n (some_expr e) (more_params n2 v2 r2 ps) comma h k = h

pub rest_alone : (n : Named) (value : MaybeExpr) (ps : Params) (comma : Bool) → AreParams (more_params n value true ps) comma → (value ≡ no_expr) × (ps ≡ no_params) × (comma ≡ false)
rest_alone n no_expr no_params comma h = (refl, refl, h)
rest_alone n (some_expr e) no_params comma h = absurd h
rest_alone n no_expr (more_params n2 v2 r2 ps) comma h = absurd h
rest_alone n (some_expr e) (more_params n2 v2 r2 ps) comma h = absurd h

-- parameters after the first: what is read is what they are
pub ended_more : (ps : Params) (comma : Bool) → (HasOne ps → AreParams ps comma) → (params_of (ended_params (singles ps) (ends_as ps comma)) ≡ ps) × (is_trailing (ends_as ps comma) ≡ comma)
ended_more no_params true h = (refl, refl)
ended_more no_params false h = (refl, refl)
ended_more (more_params n value true ps) comma h = by (rest_alone n value ps comma (h tt))
  where
    by : (value ≡ no_expr) × (ps ≡ no_params) × (comma ≡ false) → (params_of (ended_params [] (Rest n)) ≡ more_params n value true ps) × (is_trailing (Rest n) ≡ comma)
    by q = (sym (ap (λ x. more_params n x true ps) q.0 ∙ ap (more_params n no_expr true) q.1), sym q.2)
ended_more (more_params n value false ps) comma h = step_by (ends_as ps comma) (ended_more ps comma (λ k. tail_params n value ps comma (h tt) k))
  where
    ended_cons : (x : Param) (xs : List Param) (e : ParamsEnd) → ended_params (x ∷ xs) e ≡ x ∷ ended_params xs e
    ended_cons x xs Plain = refl
    ended_cons x xs Trailing = refl
    ended_cons x xs (Rest r) = refl

    step_by : (e : ParamsEnd) → (params_of (ended_params (singles ps) e) ≡ ps) × (is_trailing e ≡ comma) → (params_of (ended_params (param n (option_of value) ∷ singles ps) e) ≡ more_params n value false ps) × (is_trailing e ≡ comma)
    step_by e q = (ap params_of (ended_cons (param n (option_of value)) (singles ps) e) ∙ ap (λ x. more_params n x false (params_of (ended_params (singles ps) e))) (of_maybe value) ∙ ap (more_params n value false) q.0, q.1)

module _ (limit : ℕ) (m : Mode) (d : ℕ) where
  -- pieces of parameters after a comma, and of how they end; the first number is the depth of a parameter

  abbrev pub single_pieces : ℕ → Param → List Piece
  single_pieces q p = mark_piece mark.COMMA d ∷ name_piece p.name q ∷ print_initializer m.look q (maybe_expr_of p.value)

  abbrev pub end_pieces : ℕ → ParamsEnd → List Piece
  end_pieces q Plain = []
  end_pieces q Trailing = mark_piece mark.COMMA d ∷ []
  end_pieces q (Rest n) = mark_piece mark.COMMA d ∷ mark_piece mark.ELLIPSIS q ∷ name_piece n q ∷ []

  pub flat_params : (q : ℕ) (ps : Params) (comma : Bool) → (HasOne ps → AreParams ps comma) → flat (single_pieces q) (singles ps) ++ end_pieces q (ends_as ps comma) ≡ print_more_params m.look q d ps ++ comma_piece comma d
  flat_params q no_params true h = refl
  flat_params q no_params false h = refl
  flat_params q (more_params n value true ps) comma h = by (rest_alone n value ps comma (h tt))
    where
      by : (value ≡ no_expr) × (ps ≡ no_params) × (comma ≡ false) → end_pieces q (Rest n) ≡ print_more_params m.look q d (more_params n value true ps) ++ comma_piece comma d
      by k = sym (ap (λ x. print_more_params m.look q d (more_params n x true ps) ++ comma_piece comma d) k.0 ∙ ap (λ x. print_more_params m.look q d (more_params n no_expr true x) ++ comma_piece comma d) k.1 ∙ ap (λ x. print_more_params m.look q d (more_params n no_expr true no_params) ++ comma_piece x d) k.2)
  flat_params q (more_params n value false ps) comma h =
      ap (λ x. ((mark_piece mark.COMMA d ∷ name_piece n q ∷ print_initializer m.look q x) ++ flat (single_pieces q) (singles ps)) ++ end_pieces q (ends_as ps comma)) (of_maybe value)
      ∙ append_assoc (mark_piece mark.COMMA d ∷ name_piece n q ∷ print_initializer m.look q value) (flat (single_pieces q) (singles ps)) (end_pieces q (ends_as ps comma))
      ∙ ap (λ x. (mark_piece mark.COMMA d ∷ name_piece n q ∷ print_initializer m.look q value) ++ x) (flat_params q ps comma (λ k. tail_params n value ps comma (h tt) k))
      ∙ sym (append_assoc (mark_piece mark.COMMA d ∷ name_piece n q ∷ print_initializer m.look q value) (print_more_params m.look q d ps) (comma_piece comma d))

  abbrev pub IsSingle : Param → Type 0
  IsSingle p = (p.rest ≡ false) × ProperMaybe m (maybe_expr_of p.value)

  pub all_singles : (ps : Params) → ProperParams m ps → AllK IsSingle (singles ps)
  all_singles no_params h = tt
  all_singles (more_params n value true ps) h = tt
  all_singles (more_params n value false ps) h = ((refl, subst (ProperMaybe m) (sym (of_maybe value)) h.0), all_singles ps h.1)

  abbrev pub Closes : Lexeme → Type 0
  Closes t = t.kind ≡ kind.Mark mark.CLOSE_PAREN

  pub comma_follows : (o : MaybeExpr) (t : Lexeme) → t.kind ≡ kind.Mark mark.COMMA → ParamFollow o t
  comma_follows no_expr t e = ap (is_mark mark.ASSIGN) e
  comma_follows (some_expr x) t e = stop_comma true (ending x) t e

  pub close_follows : (o : MaybeExpr) (t : Lexeme) → Closes t → ParamFollow o t
  close_follows no_expr t e = ap (is_mark mark.ASSIGN) e
  close_follows (some_expr x) t e = stop_assign true (ending x) t (stop_close true (ending x) t e)

  pub end_leads : (q : ℕ) (e : ParamsEnd) (o : MaybeExpr) → Leads (end_pieces q e) Closes (ParamFollow o)
  end_leads q Plain o = lead_map (λ t h. close_follows o t h) lead_none
  end_leads q Trailing o = lead_at (λ t s. comma_follows o t s.kind)
  end_leads q (Rest n) o = lead_at (λ t s. comma_follows o t s.kind)

  -- From a parser of the first parameter, and one of a turn after it: all parameters.
  module _ (q : ℕ) (turn : Parser (Turn Param ParamsEnd))
      (each : (p : Param) → IsSingle p → Completes limit (single_pieces q p) (ParamFollow (maybe_expr_of p.value)) turn (Again p))
      (stop : (e : ParamsEnd) → Completes limit (end_pieces q e) Closes turn (Stop e)) where
    single_some : (p : Param) → IsSingle p → (w : List Marked) (n : Lexeme) → Stands (single_pieces q p) w n → 0 < length (lexemes w)
    single_some p k [] n h = absurd h
    single_some p k (x ∷ w) n h = omega arith

    single_link : (p r : Param) → IsSingle p → IsSingle r → (w : List Marked) (n : Lexeme) → Stands (single_pieces q r) w n → ParamFollow (maybe_expr_of p.value) (first_of (lexemes w) n)
    single_link p r kp kr [] n h = absurd h
    single_link p r kp kr (x ∷ w) n h = comma_follows (maybe_expr_of p.value) x.lexeme h.0.kind

    last_lead : (e : ParamsEnd) (xs : List Param) → LastLeads limit IsSingle (single_pieces q) (λ p. ParamFollow (maybe_expr_of p.value)) (end_pieces q e) Closes e turn each single_some single_link (stop e) xs
    last_lead e [] = tt
    last_lead e (p ∷ []) = end_leads q e (maybe_expr_of p.value)
    last_lead e (p ∷ r ∷ xs) = last_lead e (r ∷ xs)

    pub behind_complete : (ps : Params) (comma : Bool) → (HasOne ps → AreParams ps comma) → ProperParams m ps → Completes limit (print_more_params m.look q d ps ++ comma_piece comma d) Closes (loop turn) (record { items = singles ps; last = ends_as ps comma })
    behind_complete ps comma h k = c_pieces limit (flat_params q ps comma h) (c_loop limit IsSingle (single_pieces q) (λ p. ParamFollow (maybe_expr_of p.value)) (end_pieces q (ends_as ps comma)) Closes (ends_as ps comma) turn each single_some single_link (stop (ends_as ps comma)) (singles ps) (all_singles ps k) (last_lead (ends_as ps comma) (singles ps)))

    behind_leads : (ps : Params) (comma : Bool) (o : MaybeExpr) → Leads (print_more_params m.look q d ps ++ comma_piece comma d) Closes (ParamFollow o)
    behind_leads no_params true o = lead_at (λ t s. comma_follows o t s.kind)
    behind_leads no_params false o = lead_map (λ t h. close_follows o t h) lead_none
    behind_leads (more_params n value rest ps) comma o = lead_at (λ t s. comma_follows o t s.kind)

    -- the first turn reads a parameter, or a rest parameter
    pub params_complete : (first : Parser (Turn Param ParamsEnd)) → ((n : Named) (value : MaybeExpr) → ProperMaybe m value → Completes limit (name_piece n q ∷ print_initializer m.look q value) (ParamFollow value) first (Again (param n (option_of value)))) → ((n : Named) → Completes limit (mark_piece mark.ELLIPSIS q ∷ name_piece n q ∷ []) Any first (Stop (Rest n))) → (n : Named) (value : MaybeExpr) (rest : Bool) (ps : Params) (comma : Bool) → AreParams (more_params n value rest ps) comma → ProperParams m (more_params n value rest ps) → Completes limit (print_params m.look q d (more_params n value rest ps) ++ comma_piece comma d) Closes (bind first (parser.params_led turn)) (record { items = singles (more_params n value rest ps); last = ends_as (more_params n value rest ps) comma })
    params_complete first one last n value false ps comma h k = c_pieces limit (sym (append_assoc (name_piece n q ∷ print_initializer m.look q value) (print_more_params m.look q d ps) (comma_piece comma d)))
        (c_bind limit (parser.params_led turn) (one n value k.0) (behind_leads ps comma value) (c_made limit (begun (param n (option_of value))) (behind_complete ps comma (λ x. tail_params n value ps comma h x) k.1)))
    params_complete first one last n value true ps comma h k = by (rest_alone n value ps comma h)
      where
        by : (value ≡ no_expr) × (ps ≡ no_params) × (comma ≡ false) → Completes limit (print_params m.look q d (more_params n value true ps) ++ comma_piece comma d) Closes (bind first (parser.params_led turn)) (record { items = []; last = Rest n })
        by z = subst (λ x. Completes limit (print_params m.look q d (more_params n x true ps) ++ comma_piece comma d) Closes (bind first (parser.params_led turn)) (record { items = []; last = Rest n })) (sym z.0)
            (subst (λ x. Completes limit (print_params m.look q d (more_params n no_expr true x) ++ comma_piece comma d) Closes (bind first (parser.params_led turn)) (record { items = []; last = Rest n })) (sym z.1)
            (subst (λ x. Completes limit (print_params m.look q d (more_params n no_expr true no_params) ++ comma_piece x d) Closes (bind first (parser.params_led turn)) (record { items = []; last = Rest n })) (sym z.2)
            (c_bind limit (parser.params_led turn) {b = record { items = []; last = Rest n }} (last n) lead_any (c_ret limit (stopped (Rest n))))))
