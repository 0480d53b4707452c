-- A function that is read alone, whose own body is read, and the bodies inside are looked at as a mode says: soundness,
-- locality and completeness of its parser.
use Rattle.std.proofs.Common.{◌≡◌, ℕ, suc, ◌≤◌, ◌<◌, List, [], ◌∷◌, ◌++◌, length, refl, sym, ap, ◌∙◌, subst, arith, append_assoc, append-nil, Bool, true, false, Option, None}
use Rattle.script_grammar.specs.declared.token.Kind.TheVariants as kind
use Rattle.script_grammar.specs.declared.token.FuncForm.{FuncForm}
use Rattle.script_grammar.specs.declared.token.FuncForm.TheVariants as form
use Rattle.script_grammar.specs.declared.token.mark.TheConstants as mark
use Rattle.script_grammar.specs.Lexeme.{Lexeme}
use Rattle.script_grammar.specs.Kinds.{is_mark, is_name, is_end, is_arrow_form}
use Rattle.script_grammar.specs.Tree.{Named, Expr, MaybeExpr, no_expr, some_expr, Params, no_params, more_params, Function, function, Body, Stmts}
use Rattle.script_grammar.specs.Tree as tree
use Rattle.script_grammar.specs.TreeLists.{Param, params_of, maybe_expr_of}
use Rattle.script_grammar.specs.Pieces.{Bodies, whole, Piece, At, Slot, mark_piece, name_piece, comma_piece, glued_mark}
use Rattle.script_grammar.specs.Print.{print_params, print_initializer, parenthesized}
use Rattle.script_grammar.specs.Proper.{AreParams, SuitsForm, IsBare, BareIf, rank, assign_rank, begins_brace}
use Rattle.script_grammar.specs.Script.{IsOf, OwnProper, ProperAlone, print_braced, print_own, print_alone}
use Rattle.grammar_parser_specs.specs.Parser.{Read, head_of, ret, bind, step, when, Turn, Again, Stop, Many, stopped}
use Rattle.grammar_parser_specs.specs.Exprs
use Rattle.grammar_parser_specs.specs.Exprs.{Env, BodyParser, AParam, ARest, ParamsEnd, Plain, Trailing, Rest, Head, BodyRead, expect, param, named, is_simple, head_case, bare_head, function_case}
use Rattle.grammar_parser_specs.specs.Stmts as parser
use Rattle.script_grammar.specs.Endings.{body_ending, function_ending}
use Rattle.grammar_parser_specs.specs.Follow.{continues_assign}
use Rattle.grammar_parser_laws.proofs.ProperIn as inner
use Rattle.grammar_parser_laws.proofs.ProperIn.{Mode, whole_mode}
use Rattle.grammar_parser_laws.proofs.Friendly.{Inside}
use Rattle.grammar_parser_laws.proofs.Tests.{true_false, mark_known, name_known, end_known}
use Rattle.grammar_parser_laws.proofs.Fitting.{FitsAll, all_none, all_append, all_mark, all_name, all_same, lexeme_of_kind}
use Rattle.grammar_parser_laws.proofs.Sound.{Sound, Mended, Behind, sound_bind, sound_ret, sound_bad, sound_at, sound_peek, at_step, at_when, sound_some, sound_map, sound_made}
use Rattle.grammar_sound_laws.proofs.SoundNext.{SoundNext, past_bind, next_map, next_inside}
use Rattle.grammar_parser_laws.proofs.SoundParts.{SoundEnv, expect_sound}
use Rattle.grammar_sound_laws.proofs.SoundFunctions as plain
use Rattle.grammar_sound_laws.proofs.SoundFunctions.{FirstTurn, NextTurn, ParamsMany, SuitedHead, IsPlainForm, params_none, led_sound, head_is, behind_comma, plain_arrow}
use Rattle.grammar_sound_laws.proofs.SoundArrows.{ArrowHead, IsArrowMark}
use Rattle.grammar_sound_laws.proofs.SoundHeads.{arrow_mark_sound, either_body_sound}
use Rattle.grammar_sound_laws.proofs.SoundEverything.{IsOwn, end_sound}
use Rattle.grammar_parser_laws.proofs.Local.{Local, local_ret, local_bad, local_bind, local_peek, local_when, local_step, Gains, gains_peek, gains_step, moves_when}
use Rattle.grammar_local_laws.proofs.LocalExprs.{LocalEnv, expect_local, params_led_local, function_local}
use Rattle.grammar_local_laws.proofs.LocalArrows.{arrow_mark_local, arrow_body_local}
use Rattle.grammar_local_laws.proofs.LocalStmts.{local_end}
use Rattle.grammar_parser_laws.proofs.Stands.{Marked, lexemes, Stands}
use Rattle.grammar_complete_laws.proofs.Stops.{stop_end, stop_assign}
use Rattle.grammar_parser_laws.proofs.Complete.{bare}
use Rattle.grammar_complete_laws.proofs.Completes.{Completes, Any, at_kind, lead_none, lead_at, lead_any, lead_map, c_ret, c_bind, c_made, c_at, c_front, c_look, c_weaken, c_pieces, c_mark}
use Rattle.grammar_complete_laws.proofs.CompleteStmts.{c_value, named_is}
use Rattle.grammar_complete_laws.proofs.CompleteBinds.{option_of, of_maybe}
use Rattle.grammar_complete_laws.proofs.CompleteParts.{CompleteEnv, ParamFollow}
use Rattle.grammar_complete_laws.proofs.CompleteParams.{singles, ends_as, single_pieces, end_pieces, IsSingle, Closes, ended_more, params_complete}
use Rattle.grammar_complete_laws.proofs.CompleteArrows.{same_param}
use Rattle.grammar_complete_laws.proofs.CompleteFunctions.{PlainForm, HeadOf, head_of_form, function_as}
use Rattle.grammar_complete_laws.proofs.CompleteHeads.{HeadFor, head_pieces, arrow_mark_complete, either_body, braced_complete, short_complete}
use Rattle.grammar_complete_laws.proofs.CompleteEverything.{end_complete}

-- a function alone
pub record IsAlone (m : Bodies) (d : ℕ) (f : FuncForm) (u : List Lexeme) (x : Function) : Type 0 where
  pub of : IsOf f None x
  pub proper : ProperAlone m x
  pub fits : FitsAll (print_alone m d x) u

-- a function that is no arrow, whose own statements are read

plain_print : (m : Bodies) (d : ℕ) (f : FuncForm) → is_arrow_form f ≡ false → (start end : ℕ) (ps : Params) (comma : Bool) (items : Stmts) → parenthesized false start d (print_params m d d ps) comma ++ print_braced m d end items ≡ print_alone m d (function f start end None ps comma false (tree.BracedBody items))
plain_print m d f e start end ps comma items = rw e refl

-- these calls, with another reader of bodies
abbrev pub with_body : BodyParser → Env → Env
with_body w v = record { sub = v.sub; body = w }

-- The parameters do not depend on how the own body is read.
heads_same : (w : BodyParser) (v : Env) (f : FuncForm) → Exprs.params_head (with_body w v) f ≡ Exprs.params_head v f
unfolding Exprs.params_head Exprs.listed_params Exprs.more_params Exprs.params_turn Exprs.params_next Exprs.param_turn Exprs.param_of Exprs.initializer_of
heads_same w v f = refl

-- Soundness: over sound calls, and own bodies that are read soundly. The reader of bodies that is sound with the calls is used
-- for the parameters alone.

module _ (m : Bodies) (d : ℕ) (v : Env) (w : BodyParser) (s : SoundEnv m d (with_body w v)) (owns : (f : FuncForm) (start : ℕ) (simple : Bool) → Sound Inside (IsOwn m d) (v.body f start simple)) where
  param_item : Sound Inside (FirstTurn m (suc d)) (bind (v.sub AParam) Exprs.again)
  param_item = sound_made Again s.calls.param (λ u p h. h)

  rest_item : Sound Inside (FirstTurn m (suc d)) (bind (v.sub ARest) Exprs.rest_stop)
  rest_item = sound_made (λ n. Stop (Rest n)) s.calls.rest (λ u n h. h)

  param_sound : Sound Inside (FirstTurn m (suc d)) (parser.strict_param v)
  unfolding parser.strict_param
  param_sound = sound_peek (λ t.
      at_when (is_mark mark.ELLIPSIS t.kind) (λ _. sound_at t rest_item) (λ _.
      at_when (is_name t.kind) (λ _. sound_at t param_item) (λ _. sound_at t (sound_bad (sound_some param_item))))) (sound_bad (sound_some param_item))

  next_sound : (t : Lexeme) → t.kind ≡ kind.Mark mark.COMMA → Sound Inside (Behind (t ∷ []) (NextTurn m (suc d) d)) (parser.strict_next v)
  unfolding parser.strict_next
  next_sound t e =
      let item : Sound Inside (Behind (t ∷ []) (NextTurn m (suc d) d)) (parser.strict_param v) = sound_map (λ u p h. behind_comma m d (with_body w v) s (suc d) t e u p h) param_sound in
      sound_peek (λ x. at_when (is_mark mark.CLOSE_PAREN x.kind) (λ _. sound_at x (sound_ret {a = Stop Trailing} (all_mark mark.COMMA d t e))) (λ _. sound_at x item)) item

  turn_sound : Sound Inside (NextTurn m (suc d) d) (parser.strict_turn v)
  unfolding parser.strict_turn
  turn_sound = sound_peek (λ t. at_when (is_mark mark.COMMA t.kind) (λ e. at_step t (next_sound t (mark_known mark.COMMA t.kind e))) (λ _. sound_at t (sound_ret {a = Stop Plain} all_none))) (sound_ret {a = Stop Plain} all_none)

  params_sound : Sound Inside (ParamsMany m (suc d) d) (parser.strict_params v)
  unfolding parser.strict_params
  params_sound =
      let all : Sound Inside (ParamsMany m (suc d) d) (bind (parser.strict_param v) (Exprs.params_led (parser.strict_turn v))) = sound_bind param_sound (led_sound m (suc d) d (parser.strict_turn v) turn_sound) in
      sound_peek (λ t. at_when (is_mark mark.CLOSE_PAREN t.kind) (λ _. sound_at t (sound_ret {a = stopped Plain} (params_none m (suc d) d))) (λ _. sound_at t all)) all

  listed_sound : (t : Lexeme) → t.kind ≡ kind.Mark mark.OPEN_PAREN → Sound Inside (Behind (t ∷ []) (ArrowHead m d)) (parser.strict_listed v t.start)
  unfolding parser.strict_listed
  listed_sound t e = sound_bind params_sound (λ u n r. sound_made (λ _. head_case t.start n) (expect_sound mark.CLOSE_PAREN d) (λ x _ c. let h = head_is m (suc d) d t u x n e r c in record { are = h.are; bare = tt; proper = h.proper; fits = h.fits }))

  name_is : (t : Lexeme) → t.kind ≡ kind.Name → ArrowHead m d (t ∷ []) (bare_head t)
  name_is t e = record { are = tt; bare = (refl, refl); proper = (tt, tt); fits = all_name d t e }

  name_lexeme : Lexeme
  name_lexeme = lexeme_of_kind kind.Name

  head_some : Mended Inside (ArrowHead m d)
  unfolding name_lexeme
  head_some = record { end = name_lexeme ∷ []; of = bare_head name_lexeme; starts = tt; is = name_is name_lexeme refl }

  head_sound : Sound Inside (ArrowHead m d) (parser.strict_head v)
  unfolding parser.strict_head
  head_sound = sound_peek (λ t.
      at_when (is_name t.kind) (λ e. at_step t (sound_ret {a = bare_head t} (name_is t (name_known t.kind e)))) (λ _.
      at_when (is_mark mark.OPEN_PAREN t.kind) (λ e. at_step t (listed_sound t (mark_known mark.OPEN_PAREN t.kind e))) (λ _. sound_at t (sound_bad head_some)))) (sound_bad head_some)

  record ArrowOwn (u : List Lexeme) (x : BodyRead) : Type 0 where
    proper : OwnProper m form.Arrow x.body
    fits : FitsAll (print_own m d x.end x.body) u

  braced_arrow : (u : List Lexeme) (x : BodyRead) → IsOwn m d u x → ArrowOwn u x
  braced_arrow u x h = record { proper = subst (OwnProper m form.Arrow) (sym h.is) h.proper; fits = subst (λ y. FitsAll (print_own m d x.end y) u) (sym h.is) h.fits }

  body_sound : (h : Head) → Sound Inside ArrowOwn (parser.strict_body v h)
  unfolding parser.strict_body
  body_sound h = record { at = λ ts. (either_body_sound m d (with_body w v) s true ArrowOwn (v.body form.Arrow h.start (is_simple h.params)) (sound_map braced_arrow (owns form.Arrow h.start (is_simple h.params))) (λ u x q. record { proper = q.proper; fits = q.fits })).at ts }

  arrow_is : (u x y : List Lexeme) (h : Head) (b : BodyRead) → ArrowHead m d u h → IsArrowMark m d x tt → ArrowOwn y b → IsAlone m d form.Arrow (u ++ (x ++ y)) (function_case form.Arrow None h b)
  arrow_is u x y h b p c q = record {
    of = (refl, refl);
    proper = (p.are, tt, p.bare, p.proper, q.proper);
    fits = all_append p.fits (all_append c q.fits);
  }

  arrow_sound : Sound Inside (IsAlone m d form.Arrow) (parser.arrow_alone v)
  unfolding parser.arrow_alone
  arrow_sound = sound_bind head_sound (λ u h p. sound_bind (arrow_mark_sound m d (with_body w v) s) (λ x _ c. sound_made (function_case form.Arrow None h) (body_sound h) (λ y b q. arrow_is u x y h b p c q)))

  plain_is : (f : FuncForm) → IsPlainForm m d (with_body w v) s f → (u x : List Lexeme) (h : Head) (b : BodyRead) → SuitedHead m d (with_body w v) s f u h → IsOwn m d x b → IsAlone m d f (u ++ x) (function_case f None h b)
  plain_is f i u x h b p q =
      subst (λ y. IsAlone m d f (u ++ x) (function f h.start b.end None (params_of h.params) h.comma y b.body)) (sym p.is.bare)
      (subst (λ y. IsAlone m d f (u ++ x) (function f h.start b.end None (params_of h.params) h.comma false y)) (sym q.is) (record {
        of = (refl, refl);
        proper = (p.is.are, p.suits, tt, p.is.proper, q.proper);
        fits = all_same (plain_print m d f (plain_arrow m d (with_body w v) s f i) h.start b.end (params_of h.params) h.comma q.items) (all_append p.is.fits q.fits);
      }))

  plain_sound : (f : FuncForm) → IsPlainForm m d (with_body w v) s f → Sound Inside (IsAlone m d f) (Exprs.function_of v f None)
  unfolding Exprs.function_of
  plain_sound f i = sound_bind (subst (λ y. Sound Inside (SuitedHead m d (with_body w v) s f) y) (heads_same w v f) (plain.head_sound m d (with_body w v) s f i)) (λ u h p. sound_made (function_case f None h) (owns f h.start (is_simple h.params)) (λ x b q. plain_is f i u x h b p q))

  either_sound : (f : FuncForm) → (f ≡ form.Script → ⊥) → Sound Inside (IsAlone m d f) (when (parser.is_arrow_form f) (parser.arrow_alone v) (Exprs.function_of v f None))
  either_sound form.Arrow n = arrow_sound
  either_sound form.Function n = plain_sound form.Function tt
  either_sound form.Method n = plain_sound form.Method tt
  either_sound form.Getter n = plain_sound form.Getter tt
  either_sound form.Setter n = plain_sound form.Setter tt
  either_sound form.Script n = absurd (n refl)

  pub alone_sound : (f : FuncForm) → (f ≡ form.Script → ⊥) → SoundNext Inside (λ w x n. IsAlone m d f w x) (parser.alone_of v f)
  unfolding parser.alone_of
  alone_sound f n = past_bind {E = IsAlone m d f} (either_sound f n) (λ u x q. next_map (λ w y z h. subst (IsAlone m d f (u ++ w)) (sym h.1) (subst (λ k. IsAlone m d f k x) (sym (append-nil u) ∙ ap (λ k. u ++ k) (sym h.0)) q)) (next_inside (end_sound x)))

-- locality

module _ (v : Env) (l : LocalEnv v) where
  param_local : Local (parser.strict_param v)
  unfolding parser.strict_param
  param_local = local_peek (λ t. local_when (is_mark mark.ELLIPSIS t.kind) (local_bind (l.at ARest) (λ n. local_ret (Stop (Rest n)))) (local_when (is_name t.kind) (local_bind (l.at AParam) (λ p. local_ret (Again p))) local_bad))

  next_local : Local (parser.strict_next v)
  unfolding parser.strict_next
  next_local = local_peek (λ t. local_when (is_mark mark.CLOSE_PAREN t.kind) (local_ret (Stop Trailing)) param_local)

  turn_local : Local (parser.strict_turn v)
  unfolding parser.strict_turn
  turn_local = local_peek (λ t. local_when (is_mark mark.COMMA t.kind) (local_step next_local) (local_ret (Stop Plain)))

  turn_gains : Gains (parser.strict_turn v)
  unfolding parser.strict_turn
  turn_gains = gains_peek (λ t. when (is_mark mark.COMMA t.kind) (step (parser.strict_next v)) (ret (Stop Plain))) tt (λ t ts. moves_when _ _ (is_mark mark.COMMA t.kind) t ts (gains_step _ next_local t ts) tt)

  params_local : Local (parser.strict_params v)
  unfolding parser.strict_params
  params_local = local_peek (λ t. local_when (is_mark mark.CLOSE_PAREN t.kind) (local_ret (stopped Plain)) (local_bind param_local (params_led_local v l turn_local turn_gains)))

  listed_local : (start : ℕ) → Local (parser.strict_listed v start)
  unfolding parser.strict_listed
  listed_local start = local_bind params_local (λ n. local_bind (expect_local mark.CLOSE_PAREN) (λ _. local_ret (head_case start n)))

  head_local : Local (parser.strict_head v)
  unfolding parser.strict_head
  head_local = local_peek (λ t. local_when (is_name t.kind) (local_step (local_ret (bare_head t))) (local_when (is_mark mark.OPEN_PAREN t.kind) (local_step (listed_local t.start)) local_bad))

  body_local : (h : Head) → Local (parser.strict_body v h)
  unfolding parser.strict_body Exprs.arrow_body
  body_local h = record { shorter = λ ts. (arrow_body_local v l true h).shorter ts; same = λ ts q. (arrow_body_local v l true h).same ts q }

  arrow_local : Local (parser.arrow_alone v)
  unfolding parser.arrow_alone
  arrow_local = local_bind head_local (λ h. local_bind arrow_mark_local (λ _. local_bind (body_local h) (λ b. local_ret (function_case form.Arrow None h b))))

  pub alone_local : (f : FuncForm) → Local (parser.alone_of v f)
  unfolding parser.alone_of
  alone_local f = local_bind (local_when (parser.is_arrow_form f) arrow_local (function_local v l f None)) local_end

-- Completeness: where something is asked of each braced body inside beside, but not of its own.

abbrev pub OwnIn : Mode → FuncForm → Body → Type 0
OwnIn m form (tree.BracedBody items) = inner.ProperStmts m true items
OwnIn m form (tree.ShortBody value) = (is_arrow_form form ≡ true) × (rank value ≤ assign_rank) × (begins_brace value ≡ false) × inner.Proper m value

abbrev pub AloneIn : Mode → Function → Type 0
AloneIn m (function form start end name ps comma bare body) = AreParams ps comma × SuitsForm form ps comma × BareIf bare form start ps comma × inner.ProperParams m ps × OwnIn m form body

own_in : (f : FuncForm) (b : Body) → OwnProper whole f b → OwnIn whole_mode f b
own_in f (tree.BracedBody items) h = inner.in_stmts true items h
own_in f (tree.ShortBody value) h = (h.0, h.1, h.2, inner.in_expr value h.3)

pub alone_in : (x : Function) → ProperAlone whole x → AloneIn whole_mode x
alone_in (function f start end name ps comma bare body) h = (h.0, h.1, h.2, inner.in_params ps h.3, own_in f body h.4)

not_arrow : (f : FuncForm) → PlainForm f → is_arrow_form f ≡ false
not_arrow form.Function i = refl
not_arrow form.Method i = refl
not_arrow form.Getter i = refl
not_arrow form.Setter i = refl
not_arrow form.Script i = absurd i
not_arrow form.Arrow i = absurd i

not_bare : (f : FuncForm) → PlainForm f → (start : ℕ) (ps : Params) (comma : Bool) → IsBare f start ps comma → ⊥
not_bare form.Function i start ps comma h = h
not_bare form.Method i start ps comma h = h
not_bare form.Getter i start ps comma h = h
not_bare form.Setter i start ps comma h = h
not_bare form.Script i start ps comma h = i
not_bare form.Arrow i start ps comma h = i

module _ (limit : ℕ) (m : Mode) (d : ℕ) (low : d ≤ limit) (v : Env) (w : BodyParser) (c : CompleteEnv limit m d (with_body w v)) (owns : (f : FuncForm) (start end : ℕ) (simple : Bool) (items : Stmts) → inner.ProperStmts m true items → Completes limit (print_braced m.look d end items) Any (v.body f start simple) (record { body = tree.BracedBody items; end = end })) where
  param_here : (t : Lexeme) (ts : List Lexeme) → t.kind ≡ kind.Name → parser.strict_param v (t ∷ ts) ≡ bind (v.sub AParam) Exprs.again (t ∷ ts)
  unfolding parser.strict_param
  param_here t ts e = at_kind (λ u. parser.strict_param v (u ∷ ts) ≡ bind (v.sub AParam) Exprs.again (u ∷ ts)) kind.Name t e refl

  rest_here : (t : Lexeme) (ts : List Lexeme) → t.kind ≡ kind.Mark mark.ELLIPSIS → parser.strict_param v (t ∷ ts) ≡ bind (v.sub ARest) Exprs.rest_stop (t ∷ ts)
  unfolding parser.strict_param
  rest_here t ts e = at_kind (λ u. parser.strict_param v (u ∷ ts) ≡ bind (v.sub ARest) Exprs.rest_stop (u ∷ ts)) (kind.Mark mark.ELLIPSIS) t e refl

  place_some : (s : Slot) (ps : List Piece) (w : List Marked) (x : Lexeme) → Stands (At s ∷ ps) w x → 0 < length (lexemes w)
  place_some s ps [] x h = absurd h
  place_some s ps (y ∷ w) x h = omega arith

  called : (n : Named) (o : MaybeExpr) → inner.ProperMaybe m o → Completes limit {A = Turn Param ParamsEnd} (name_piece n (suc d) ∷ print_initializer m.look (suc d) o) (ParamFollow o) (bind (v.sub AParam) Exprs.again) (Again (param n (option_of o)))
  called n o h = c_made limit Again (subst (λ x. Completes limit (name_piece n (suc d) ∷ print_initializer m.look (suc d) x) (ParamFollow x) (v.sub AParam) (param n (option_of o))) (of_maybe o) (c.calls.param (param n (option_of o)) refl (subst (inner.ProperMaybe m) (sym (of_maybe o)) h)))

  one_complete : (n : Named) (o : MaybeExpr) → inner.ProperMaybe m o → Completes limit (name_piece n (suc d) ∷ print_initializer m.look (suc d) o) (ParamFollow o) (parser.strict_param v) (Again (param n (option_of o)))
  one_complete n o h = c_front limit (bind (v.sub AParam) Exprs.again) (λ x w rest q g. param_here x.lexeme (lexemes w ++ rest) q.0.kind) (place_some _ (print_initializer m.look (suc d) o)) (called n o h)

  rest_complete : (n : Named) → Completes limit (mark_piece mark.ELLIPSIS (suc d) ∷ name_piece n (suc d) ∷ []) Any (parser.strict_param v) (Stop (Rest n))
  rest_complete n = c_front limit (bind (v.sub ARest) Exprs.rest_stop) (λ x w rest q g. rest_here x.lexeme (lexemes w ++ rest) q.0.kind) (place_some _ (name_piece n (suc d) ∷ [])) (c_made limit (λ x. Stop (Rest x)) (c.calls.rest n))

  next_param : (t : Lexeme) (ts : List Lexeme) → is_mark mark.CLOSE_PAREN t.kind ≡ false → parser.strict_next v (t ∷ ts) ≡ parser.strict_param v (t ∷ ts)
  unfolding parser.strict_next
  next_param t ts h = ap (λ b. when b (ret (Stop Trailing)) (parser.strict_param v) (t ∷ ts)) h

  next_close : (rest : List Lexeme) → (head_of rest).kind ≡ kind.Mark mark.CLOSE_PAREN → bare (parser.strict_next v rest) ≡ Read (Stop Trailing) [] rest
  unfolding parser.strict_next
  next_close rest h = ap (λ k. bare (when (is_mark mark.CLOSE_PAREN k) (ret (Stop Trailing)) (parser.strict_param v) rest)) h

  turn_comma : (t : Lexeme) (ts : List Lexeme) → t.kind ≡ kind.Mark mark.COMMA → parser.strict_turn v (t ∷ ts) ≡ parser.strict_next v ts
  unfolding parser.strict_turn
  turn_comma t ts h = ap (λ k. when (is_mark mark.COMMA k) (step (parser.strict_next v)) (ret (Stop Plain)) (t ∷ ts)) h

  turn_close : (rest : List Lexeme) → (head_of rest).kind ≡ kind.Mark mark.CLOSE_PAREN → bare (parser.strict_turn v rest) ≡ Read (Stop Plain) [] rest
  unfolding parser.strict_turn
  turn_close rest h = ap (λ k. bare (when (is_mark mark.COMMA k) (step (parser.strict_next v)) (ret (Stop Plain)) rest)) h

  each : (p : Param) → IsSingle limit m d p → Completes limit (single_pieces limit m d (suc d) p) (ParamFollow (maybe_expr_of p.value)) (parser.strict_turn v) (Again p)
  each p k = c_at limit (λ t. parser.strict_next v) low (λ t ts s. turn_comma t ts s.kind) (λ t s. c_front limit (parser.strict_param v) (λ x w rest q g. next_param x.lexeme (lexemes w ++ rest) (ap (is_mark mark.CLOSE_PAREN) q.0.kind)) (place_some _ (print_initializer m.look (suc d) (maybe_expr_of p.value))) (c_value (ap Again (same_param p k.0)) (one_complete p.name (maybe_expr_of p.value) k.1)))

  stop : (e : ParamsEnd) → Completes limit (end_pieces limit m d (suc d) e) (Closes limit m d) (parser.strict_turn v) (Stop e)
  stop Plain = c_look limit turn_close
  stop Trailing = c_at limit (λ t. parser.strict_next v) low (λ t ts s. turn_comma t ts s.kind) (λ t s. c_look limit next_close)
  stop (Rest n) = c_at limit (λ t. parser.strict_next v) low (λ t ts s. turn_comma t ts s.kind) (λ t s. c_front limit (parser.strict_param v) (λ x w rest q g. next_param x.lexeme (lexemes w ++ rest) (ap (is_mark mark.CLOSE_PAREN) q.0.kind)) (place_some _ (name_piece n (suc d) ∷ [])) (c_weaken limit (λ t g. tt) (rest_complete n)))

  more_none : (rest : List Lexeme) → (head_of rest).kind ≡ kind.Mark mark.CLOSE_PAREN → bare (parser.strict_params v rest) ≡ Read (stopped Plain) [] rest
  unfolding parser.strict_params
  more_none rest h = ap (λ k. bare (when (is_mark mark.CLOSE_PAREN k) (ret (stopped Plain)) (bind (parser.strict_param v) (Exprs.params_led (parser.strict_turn v))) rest)) h

  more_some : (t : Lexeme) (ts : List Lexeme) → is_mark mark.CLOSE_PAREN t.kind ≡ false → parser.strict_params v (t ∷ ts) ≡ bind (parser.strict_param v) (Exprs.params_led (parser.strict_turn v)) (t ∷ ts)
  unfolding parser.strict_params
  more_some t ts h = ap (λ b. when b (ret (stopped Plain)) (bind (parser.strict_param v) (Exprs.params_led (parser.strict_turn v))) (t ∷ ts)) h

  first_not : (n : Named) (o : MaybeExpr) (rest : Bool) (ps : Params) (comma : Bool) (x : Marked) (w : List Marked) (q : Lexeme) → Stands (print_params m.look (suc d) d (more_params n o rest ps) ++ comma_piece comma d) (x ∷ w) q → is_mark mark.CLOSE_PAREN x.lexeme.kind ≡ false
  first_not n o true ps comma x w q h = ap (is_mark mark.CLOSE_PAREN) h.0.kind
  first_not n o false ps comma x w q h = ap (is_mark mark.CLOSE_PAREN) h.0.kind

  first_some : (n : Named) (o : MaybeExpr) (rest : Bool) (ps : Params) (comma : Bool) (w : List Marked) (q : Lexeme) → Stands (print_params m.look (suc d) d (more_params n o rest ps) ++ comma_piece comma d) w q → 0 < length (lexemes w)
  first_some n o true ps comma [] q h = absurd h
  first_some n o false ps comma [] q h = absurd h
  first_some n o rest ps comma (x ∷ w) q h = omega arith

  abbrev many_of : Params → Bool → Many Param ParamsEnd
  many_of ps comma = record { items = singles ps; last = ends_as ps comma }

  strict_complete : (ps : Params) (comma : Bool) → AreParams ps comma → inner.ProperParams m ps → Completes limit (print_params m.look (suc d) d ps ++ comma_piece comma d) (Closes limit m d) (parser.strict_params v) (many_of ps comma)
  strict_complete no_params true h k = absurd (true_false h)
  strict_complete no_params false h k = c_look limit more_none
  strict_complete (more_params n o rest ps) comma h k = c_front limit (bind (parser.strict_param v) (Exprs.params_led (parser.strict_turn v))) (λ x w r q g. more_some x.lexeme (lexemes w ++ r) (first_not n o rest ps comma x w (head_of r) q)) (first_some n o rest ps comma)
      (params_complete limit m d (suc d) (parser.strict_turn v) each stop (parser.strict_param v) one_complete rest_complete n o rest ps comma h k)

  listed_complete : (start : ℕ) (ps : Params) (comma : Bool) → AreParams ps comma → inner.ProperParams m ps → Completes limit (print_params m.look (suc d) d ps ++ (comma_piece comma d ++ mark_piece mark.CLOSE_PAREN d ∷ [])) Any (parser.strict_listed v start) (head_case start (many_of ps comma))
  unfolding parser.strict_listed
  listed_complete start ps comma h k = c_pieces limit (append_assoc (print_params m.look (suc d) d ps) (comma_piece comma d) (mark_piece mark.CLOSE_PAREN d ∷ [])) (c_bind limit (λ x. bind (expect mark.CLOSE_PAREN) (λ _. ret (head_case start x))) (strict_complete ps comma h k) (lead_at (λ t s. s.kind)) (c_made limit (λ _. head_case start (many_of ps comma)) (c_mark limit mark.CLOSE_PAREN d low refl)))

  head_paren : (t : Lexeme) (ts : List Lexeme) → t.kind ≡ kind.Mark mark.OPEN_PAREN → parser.strict_head v (t ∷ ts) ≡ parser.strict_listed v t.start ts
  unfolding parser.strict_head
  head_paren t ts e = at_kind (λ u. parser.strict_head v (u ∷ ts) ≡ parser.strict_listed v u.start ts) (kind.Mark mark.OPEN_PAREN) t e refl

  head_name : (t : Lexeme) (ts : List Lexeme) → t.kind ≡ kind.Name → parser.strict_head v (t ∷ ts) ≡ Read (bare_head t) [] ts
  unfolding parser.strict_head
  head_name t ts e = at_kind (λ u. parser.strict_head v (u ∷ ts) ≡ Read (bare_head u) [] ts) kind.Name t e refl

  record StrictHead (bare : Bool) (start : ℕ) (ps : Params) (comma : Bool) : Type 0 where
    head : Head
    is : HeadFor limit m d low (with_body w v) c start ps comma bare head
    reads : Completes limit (head_pieces limit m d low (with_body w v) c bare start ps comma) Any (parser.strict_head v) head

  paren_head : (start : ℕ) (ps : Params) (comma : Bool) → AreParams ps comma → inner.ProperParams m ps → StrictHead false start ps comma
  paren_head start ps comma h k =
      let q = ended_more ps comma (λ _. h) in
      record {
        head = head_case start (many_of ps comma);
        is = (refl, q.0, q.1, refl);
        reads = c_at limit (λ t. parser.strict_listed v t.start) low (λ t ts s. head_paren t ts s.kind) (λ t s. c_value (ap (λ x. head_case x (many_of ps comma)) s.starts.0) (listed_complete t.start ps comma h k));
      }

  name_head : (n : Named) → StrictHead true n.at (more_params n no_expr false no_params) false
  name_head n = record {
    head = record { start = n.at; params = param n None ∷ []; comma = false; bare = true };
    is = (refl, refl, refl, refl);
    reads = c_at limit (λ t. ret (bare_head t)) low (λ t ts s. head_name t ts s.kind) (λ t s. c_value (ap (λ x. record { start = x; params = param (named t) None ∷ []; comma = false; bare = true }) s.starts.0 ∙ ap (λ x. record { start = n.at; params = param x None ∷ []; comma = false; bare = true }) (named_is n d t s.content s.starts.0)) (c_ret limit (bare_head t)));
  }

  strict_head : (bare : Bool) (start : ℕ) (ps : Params) (comma : Bool) → AreParams ps comma → BareIf bare form.Arrow start ps comma → inner.ProperParams m ps → StrictHead bare start ps comma
  strict_head true start no_params comma a b k = absurd b
  strict_head true start (more_params n (some_expr e) rest ps) comma a b k = absurd b
  strict_head true start (more_params n no_expr true ps) comma a b k = absurd b
  strict_head true start (more_params n no_expr false (more_params n2 v2 r2 ps)) comma a b k = absurd b
  strict_head true start (more_params n no_expr false no_params) comma a b k = subst (λ x. StrictHead true start (more_params n no_expr false no_params) x) (sym b.0) (subst (λ x. StrictHead true x (more_params n no_expr false no_params) false) (sym b.1) (name_head n))
  strict_head false start ps comma a b k = paren_head start ps comma a k

  body_reads : (h : Head) (end : ℕ) (b : Body) → OwnIn m form.Arrow b → Completes limit (print_own m.look d end b) (λ t. continues_assign true (body_ending b) t ≡ false) (either_body limit m d low (with_body w v) c true (v.body form.Arrow h.start (is_simple h.params))) (record { body = b; end = end })
  body_reads h end (tree.BracedBody items) k = braced_complete limit m d low (with_body w v) c true (v.body form.Arrow h.start (is_simple h.params)) _ (record { body = tree.BracedBody items; end = end }) (owns form.Arrow h.start end (is_simple h.params) items k)
  body_reads h end (tree.ShortBody value) k = short_complete limit m d low (with_body w v) c true (v.body form.Arrow h.start (is_simple h.params)) end value k.1 k.2 k.3 refl

  strict_reads : (h : Head) (end : ℕ) (b : Body) → OwnIn m form.Arrow b → Completes limit (print_own m.look d end b) (λ t. continues_assign true (body_ending b) t ≡ false) (parser.strict_body v h) (record { body = b; end = end })
  unfolding parser.strict_body
  strict_reads h end b k = record { at = λ u rest q g. record { by = ((body_reads h end b k).at u rest q g).by } }

  -- what may follow a function
  abbrev pub FunctionFollow : Function → Lexeme → Type 0
  FunctionFollow x t = continues_assign true (function_ending x) t ≡ false

  arrow_as : (start end : ℕ) (ps : Params) (comma bare : Bool) (b : Body) (h : Head) → HeadFor limit m d low (with_body w v) c start ps comma bare h → function_case form.Arrow None h (record { body = b; end = end }) ≡ function form.Arrow start end None ps comma bare b
  arrow_as start end ps comma bare b h q =
      ap (λ x. function form.Arrow x end None (params_of h.params) h.comma h.bare b) q.0
      ∙ ap (λ x. function form.Arrow start end None x h.comma h.bare b) q.1
      ∙ ap (λ x. function form.Arrow start end None ps x h.bare b) q.2
      ∙ ap (λ x. function form.Arrow start end None ps comma x b) q.3

  same_pieces : (start end : ℕ) (ps : Params) (comma bare : Bool) (b : Body) → head_pieces limit m d low (with_body w v) c bare start ps comma ++ (glued_mark mark.ARROW d ∷ print_own m.look d end b) ≡ print_alone m.look d (function form.Arrow start end None ps comma bare b)
  same_pieces start end ps comma true b = refl
  same_pieces start end ps comma false b = refl

  arrow_complete : (start end : ℕ) (ps : Params) (comma bare : Bool) (b : Body) → AloneIn m (function form.Arrow start end None ps comma bare b) → Completes limit (print_alone m.look d (function form.Arrow start end None ps comma bare b)) (FunctionFollow (function form.Arrow start end None ps comma bare b)) (parser.arrow_alone v) (function form.Arrow start end None ps comma bare b)
  unfolding parser.arrow_alone
  arrow_complete start end ps comma bare b k =
      let h = strict_head bare start ps comma k.0 k.2 k.3 in
      c_pieces limit (same_pieces start end ps comma bare b) (c_value (arrow_as start end ps comma bare b h.head h.is)
      (c_bind limit (λ x. bind Exprs.arrow_mark (λ _. bind (parser.strict_body v x) (λ y. ret (function_case form.Arrow None x y)))) h.reads lead_any
      (c_bind limit (λ _. bind (parser.strict_body v h.head) (λ y. ret (function_case form.Arrow None h.head y))) (arrow_mark_complete limit m d low (with_body w v) c) lead_any
      (c_made limit (function_case form.Arrow None h.head) (strict_reads h.head end b k.4)))))

  by_head : {F : Lexeme → Type 0} (f : FuncForm) (start end : ℕ) (ps : Params) (comma : Bool) (items : Stmts) → inner.ProperStmts m true items → HeadOf limit m d low (with_body w v) c f start ps comma → Completes limit (parenthesized false start d (print_params m.look d d ps) comma ++ print_braced m.look d end items) F (Exprs.function_of v f None) (function f start end None ps comma false (tree.BracedBody items))
  unfolding Exprs.function_of
  by_head f start end ps comma items k h =
      c_value (function_as limit m d low (with_body w v) c f None start end ps comma items h.head h.is)
      (c_bind limit (λ x. bind (v.body f x.start (is_simple x.params)) (λ b. ret (function_case f None x b))) (subst (λ y. Completes limit (parenthesized false start d (print_params m.look d d ps) comma) Any y h.head) (heads_same w v f) h.reads) lead_any
      (c_weaken limit (λ t g. tt) (c_made limit (function_case f None h.head) (owns f h.head.start end (is_simple h.head.params) items k))))

  plain_complete : {F : Lexeme → Type 0} (f : FuncForm) → PlainForm f → (start end : ℕ) (ps : Params) (comma bare : Bool) (b : Body) → AloneIn m (function f start end None ps comma bare b) → Completes limit (print_alone m.look d (function f start end None ps comma bare b)) F (Exprs.function_of v f None) (function f start end None ps comma bare b)
  plain_complete f i start end ps comma true b k = absurd (not_bare f i start ps comma k.2)
  plain_complete f i start end ps comma false (tree.ShortBody value) k = absurd (true_false (sym k.4.0 ∙ not_arrow f i))
  plain_complete f i start end ps comma false (tree.BracedBody items) k = c_pieces limit (plain_print m.look d f (not_arrow f i) start end ps comma items) (by_head f start end ps comma items k.4 (head_of_form limit m d low (with_body w v) c f i start ps comma k.0 k.1 k.3))

  abbrev EitherReads : FuncForm → Function → Type 0
  EitherReads f x = Completes limit (print_alone m.look d x) (FunctionFollow x) (when (parser.is_arrow_form f) (parser.arrow_alone v) (Exprs.function_of v f None)) x

  either_complete : (f : FuncForm) (start end : ℕ) (ps : Params) (comma bare : Bool) (b : Body) → AloneIn m (function f start end None ps comma bare b) → EitherReads f (function f start end None ps comma bare b)
  either_complete form.Arrow start end ps comma bare b k = arrow_complete start end ps comma bare b k
  either_complete form.Function start end ps comma bare b k = plain_complete form.Function tt start end ps comma bare b k
  either_complete form.Method start end ps comma bare b k = plain_complete form.Method tt start end ps comma bare b k
  either_complete form.Getter start end ps comma bare b k = plain_complete form.Getter tt start end ps comma bare b k
  either_complete form.Setter start end ps comma bare b k = plain_complete form.Setter tt start end ps comma bare b k
  either_complete form.Script start end ps comma bare b k = absurd k.1

  by_form : (f g : FuncForm) (start end : ℕ) (name : Option Named) (ps : Params) (comma bare : Bool) (b : Body) → g ≡ f → name ≡ None → AloneIn m (function g start end name ps comma bare b) → EitherReads f (function g start end name ps comma bare b)
  by_form f g start end name ps comma bare b e h k =
      subst (λ x. EitherReads x (function g start end name ps comma bare b)) e
      (subst (λ x. AloneIn m (function g start end x ps comma bare b) → EitherReads g (function g start end x ps comma bare b)) (sym h) (λ q. either_complete g start end ps comma bare b q) k)

  function_end : (x : Function) (t : Lexeme) → is_end t.kind ≡ true → FunctionFollow x t
  function_end x t h = stop_assign true (function_ending x) t (stop_end true (function_ending x) t (end_known t.kind h))

  pub alone_complete : (f : FuncForm) (x : Function) → IsOf f None x → AloneIn m x → Completes limit (print_alone m.look d x) (λ t. is_end t.kind ≡ true) (parser.alone_of v f) x
  unfolding parser.alone_of
  alone_complete f (function g start end name ps comma bare b) o k =
      let x : Function = function g start end name ps comma bare b in
      c_pieces limit (append-nil (print_alone m.look d x)) (c_bind limit parser.end_of (by_form f g start end name ps comma bare b o.0 o.1 k) (lead_map (λ t h. function_end x t h) lead_none) (end_complete limit x))
