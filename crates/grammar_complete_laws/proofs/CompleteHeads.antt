-- Completeness of arrows: their parameters, the mark and the body.
use Rattle.std.proofs.Common.{◌≡◌, ℕ, suc, ◌≤◌, ◌<◌, List, [], ◌∷◌, ◌++◌, length, refl, sym, ap, ◌∙◌, subst, arith, Bool, true, false, not, Option, None, if◌then◌else◌}
use Rattle.script_grammar.specs.declared.token.Kind.TheVariants as kind
use Rattle.script_grammar.specs.declared.token.mark.TheConstants as mark
use Rattle.script_grammar.specs.declared.token.FuncForm.TheVariants as form
use Rattle.script_grammar.specs.Lexeme.{Lexeme}
use Rattle.script_grammar.specs.Kinds.{is_mark}
use Rattle.script_grammar.specs.Tree.{Named, Expr, MaybeExpr, no_expr, some_expr, Params, no_params, more_params, Function, function, Body, BracedBody, ShortBody, Stmts}
use Rattle.script_grammar.specs.Tree as tree
use Rattle.script_grammar.specs.TreeLists.{params_of}
use Rattle.script_grammar.specs.Pieces.{whole, Piece, mark_piece, glued_mark, until}
use Rattle.script_grammar.specs.Endings.{ending, body_ending}
use Rattle.script_grammar.specs.Print.{print, print_params, print_body, parenthesized}
use Rattle.script_grammar.specs.Proper.{rank, AreParams, IsBare, BareIf, free_of_in, body_free, InIf, assign_rank, begins_brace}
use Rattle.grammar_parser_specs.specs.Parser.{Read, Parser, head_of, ret, bad, bind, peek, step, when}
use Rattle.grammar_parser_specs.specs.Exprs as parser
use Rattle.grammar_parser_specs.specs.Exprs.{Env, AnAssign, Head, BodyRead, Spanned, spanned, named, param, is_simple, is_arrow, arrow_case, bare_head, begins_assign, last_end, head_case}
use Rattle.grammar_parser_specs.specs.Follow.{continues_assign}
use Rattle.grammar_parser_laws.proofs.Begins.{begins_same}
use Rattle.grammar_parser_laws.proofs.Tests.{and_both}
use Rattle.grammar_parser_laws.proofs.Stands.{Marked, lexemes, Stands}
use Rattle.grammar_parser_laws.proofs.Spanned.{parses_spanned}
use Rattle.grammar_parser_laws.proofs.Complete.{Parses, bare, parses_map}
use Rattle.grammar_complete_laws.proofs.Completes.{Completes, Any, at_kind, lead_any, c_ret, c_bind, c_made, c_at, c_front, c_weaken, c_pieces}
use Rattle.grammar_complete_laws.proofs.CompleteStmts.{c_value, named_is}
use Rattle.grammar_complete_laws.proofs.CompleteParts.{CompleteEnv}
use Rattle.grammar_complete_laws.proofs.CompleteParams.{ended_more}
use Rattle.grammar_complete_laws.proofs.CompleteArrows.{listed_complete, many_of}
use Rattle.grammar_complete_laws.proofs.ExprFronts.{opens_some, expr_opens, not_begun}
use Rattle.grammar_complete_laws.proofs.ExprEnds.{expr_ends, until_stands}
use Rattle.grammar_parser_laws.proofs.ProperIn.{Mode, Proper, ProperBody, ProperParams}

module _ (limit : ℕ) (m : Mode) (d : ℕ) (low : d ≤ limit) (v : Env) (c : CompleteEnv limit m d v) where
  -- a head that stands for these parameters
  abbrev pub HeadFor : ℕ → Params → Bool → Bool → Head → Type 0
  HeadFor start ps comma bare h = (h.start ≡ start) × (params_of h.params ≡ ps) × (h.comma ≡ comma) × (h.bare ≡ bare)

  abbrev pub head_pieces : Bool → ℕ → Params → Bool → List Piece
  head_pieces bare start ps comma = parenthesized bare start d (print_params m.look (if bare then d else suc d) d ps) comma

  pub record ArrowHeadOf (bare : Bool) (start : ℕ) (ps : Params) (comma : Bool) : Type 0 where
    pub head : Head
    pub is : HeadFor start ps comma bare head
    pub reads : Completes limit (head_pieces bare start ps comma) Any (parser.arrow_head v) head

  head_paren : (t : Lexeme) (ts : List Lexeme) → t.kind ≡ kind.Mark mark.OPEN_PAREN → parser.arrow_head v (t ∷ ts) ≡ parser.arrow_listed v t.start ts
  unfolding parser.arrow_head
  head_paren t ts e = at_kind (λ u. parser.arrow_head v (u ∷ ts) ≡ parser.arrow_listed v u.start ts) (kind.Mark mark.OPEN_PAREN) t e refl

  head_name : (t : Lexeme) (ts : List Lexeme) → t.kind ≡ kind.Name → parser.arrow_head v (t ∷ ts) ≡ Read (bare_head t) [] ts
  unfolding parser.arrow_head
  head_name t ts e = at_kind (λ u. parser.arrow_head v (u ∷ ts) ≡ Read (bare_head u) [] ts) kind.Name t e refl

  paren_head : (start : ℕ) (ps : Params) (comma : Bool) → AreParams ps comma → ProperParams m ps → ArrowHeadOf false start ps comma
  paren_head start ps comma h k =
      let q = ended_more ps comma (λ _. h) in
      record {
        head = head_case start (many_of limit m d low v c ps comma);
        is = (refl, q.0, q.1, refl);
        reads = c_at limit (λ t. parser.arrow_listed v t.start) low (λ t ts s. head_paren t ts s.kind) (λ t s. c_value (ap (λ x. head_case x (many_of limit m d low v c ps comma)) s.starts.0) (listed_complete limit m d low v c t.start ps comma h k));
      }

  name_head : (n : Named) → ArrowHeadOf true n.at (more_params n no_expr false no_params) false
  name_head n = record {
    head = record { start = n.at; params = param n None ∷ []; comma = false; bare = true };
    is = (refl, refl, refl, refl);
    reads = c_at limit (λ t. ret (bare_head t)) low (λ t ts s. head_name t ts s.kind) (λ t s. c_value (ap (λ x. record { start = x; params = param (named t) None ∷ []; comma = false; bare = true }) s.starts.0 ∙ ap (λ x. record { start = n.at; params = param x None ∷ []; comma = false; bare = true }) (named_is n d t s.content s.starts.0)) (c_ret limit (bare_head t)));
  }

  bare_head_of : (start : ℕ) (ps : Params) (comma : Bool) → IsBare form.Arrow start ps comma → ArrowHeadOf true start ps comma
  bare_head_of start no_params comma h = absurd h
  bare_head_of start (more_params n (some_expr e) rest ps) comma h = absurd h
  bare_head_of start (more_params n no_expr true ps) comma h = absurd h
  bare_head_of start (more_params n no_expr false (more_params n2 v2 r2 ps)) comma h = absurd h
  bare_head_of start (more_params n no_expr false no_params) comma h = subst (λ x. ArrowHeadOf true start (more_params n no_expr false no_params) x) (sym h.0) (subst (λ x. ArrowHeadOf true x (more_params n no_expr false no_params) false) (sym h.1) (name_head n))

  pub head_complete : (bare : Bool) (start : ℕ) (ps : Params) (comma : Bool) → AreParams ps comma → BareIf bare form.Arrow start ps comma → ProperParams m ps → ArrowHeadOf bare start ps comma
  head_complete true start ps comma h b k = bare_head_of start ps comma b
  head_complete false start ps comma h b k = paren_head start ps comma h k

  -- the mark

  mark_here : (t : Lexeme) (ts : List Lexeme) → t.kind ≡ kind.Mark mark.ARROW → t.after_line ≡ false → parser.arrow_mark (t ∷ ts) ≡ Read tt [] ts
  unfolding parser.arrow_mark
  mark_here t ts e l = ap (λ b. when b (step (ret tt)) bad (t ∷ ts)) (and_both (is_mark mark.ARROW t.kind) (not t.after_line) (ap (is_mark mark.ARROW) e) (ap not l))

  pub arrow_mark_complete : {F : Lexeme → Type 0} → Completes limit (glued_mark mark.ARROW d ∷ []) F parser.arrow_mark tt
  arrow_mark_complete = c_at limit (λ t. ret tt) low (λ t ts s. mark_here t ts s.kind (s.line refl)) (λ t s. c_ret limit tt)

  -- the body

  -- a braced body that is read so, or an expression
  abbrev pub either_body : Bool → Parser BodyRead → Parser BodyRead
  either_body w braced = peek (λ t. when (is_mark mark.OPEN_BRACE t.kind) braced (bind (spanned (v.sub (AnAssign w))) (λ s. ret (parser.short_body s))))

  braced_here : (w : Bool) (braced : Parser BodyRead) (t : Lexeme) (ts : List Lexeme) → is_mark mark.OPEN_BRACE t.kind ≡ true → either_body w braced (t ∷ ts) ≡ braced (t ∷ ts)
  braced_here w braced t ts e = ap (λ b. when b braced (bind (spanned (v.sub (AnAssign w))) (λ s. ret (parser.short_body s))) (t ∷ ts)) e

  short_here : (w : Bool) (braced : Parser BodyRead) (t : Lexeme) (ts : List Lexeme) → is_mark mark.OPEN_BRACE t.kind ≡ false → either_body w braced (t ∷ ts) ≡ bind (spanned (v.sub (AnAssign w))) (λ s. ret (parser.short_body s)) (t ∷ ts)
  short_here w braced t ts e = ap (λ b. when b braced (bind (spanned (v.sub (AnAssign w))) (λ s. ret (parser.short_body s))) (t ∷ ts)) e

  brace_some : (q : ℕ) (ps : List Piece) (w : List Marked) (n : Lexeme) → Stands (mark_piece mark.OPEN_BRACE q ∷ ps) w n → 0 < length (lexemes w)
  brace_some q ps [] n h = absurd h
  brace_some q ps (x ∷ w) n h = omega arith

  abbrev pub read_body : ℕ → Body → BodyRead
  read_body end b = record { body = b; end = end }

  pub braced_complete : {F : Lexeme → Type 0} (w : Bool) (braced : Parser BodyRead) (ps : List Piece) (b : BodyRead) → Completes limit (mark_piece mark.OPEN_BRACE d ∷ ps) Any braced b → Completes limit (mark_piece mark.OPEN_BRACE d ∷ ps) F (either_body w braced) b
  braced_complete w braced ps b k = c_front limit braced (λ x u rest q g. braced_here w braced x.lexeme (lexemes u ++ rest) (ap (is_mark mark.OPEN_BRACE) q.0.kind)) (brace_some d ps) (c_weaken limit (λ t g. tt) k)

  pub short_complete : (w : Bool) (braced : Parser BodyRead) (end : ℕ) (value : Expr) → rank value ≤ assign_rank → begins_brace value ≡ false → Proper m value → InIf w (free_of_in value) → Completes limit (until end (print m.look (suc d) value)) (λ t. continues_assign w (ending value) t ≡ false) (either_body w braced) (read_body end (ShortBody value))
  short_complete w braced end value r b k i = record { at = read }
    where
      behind : (u : List Marked) (rest : List Lexeme) → Stands (until end (print m.look (suc d) value)) u (head_of rest) → continues_assign w (ending value) (head_of rest) ≡ false → Parses limit (bind (spanned (v.sub (AnAssign w))) (λ s. ret (parser.short_body s))) u rest (read_body end (ShortBody value))
      behind u rest q g =
          let s = until_stands end (print m.look (suc d) value) u (head_of rest) (expr_ends m (suc d) value k) q in
          subst (Parses limit (bind (spanned (v.sub (AnAssign w))) (λ s. ret (parser.short_body s))) u rest) (ap (λ e. read_body e (ShortBody value)) (s.1 0))
          (parses_map limit (λ s. ret (parser.short_body s)) (parses_spanned limit ((c.calls.assign w value r k i).at u rest s.0 g)) refl)

      read : (u : List Marked) (rest : List Lexeme) → Stands (until end (print m.look (suc d) value)) u (head_of rest) → continues_assign w (ending value) (head_of rest) ≡ false → Parses limit (either_body w braced) u rest (read_body end (ShortBody value))
      read [] rest q g = absurd (omega (arith, opens_some begins_assign (print m.look (suc d) value) [] (head_of rest) (expr_opens m (suc d) value k) (until_stands end (print m.look (suc d) value) [] (head_of rest) (expr_ends m (suc d) value k) q).0))
      read (x ∷ u) rest q g =
          let s = until_stands end (print m.look (suc d) value) (x ∷ u) (head_of rest) (expr_ends m (suc d) value k) q in
          record { by = ap bare (short_here w braced x.lexeme (lexemes u ++ rest) (not_begun (is_mark mark.OPEN_BRACE) (print m.look (suc d) value) (begins_same (is_mark mark.OPEN_BRACE) m.look whole (suc d) 1 value ∙ b) x u (head_of rest) (expr_opens m (suc d) value k) s.0)) ∙ (behind (x ∷ u) rest q g).by }

  either_complete : (w : Bool) (h : Head) (end : ℕ) (b : Body) → ProperBody m form.Arrow h.start b → InIf w (body_free b) → Completes limit (print_body m.look d end b) (λ t. continues_assign w (body_ending b) t ≡ false) (either_body w (v.body form.Arrow h.start (is_simple h.params))) (read_body end b)
  either_complete w h end (BracedBody items) k i = braced_complete w (v.body form.Arrow h.start (is_simple h.params)) _ (read_body end (BracedBody items)) (c.body.braced form.Arrow h.start end (is_simple h.params) items k)
  either_complete w h end (ShortBody value) k i = short_complete w (v.body form.Arrow h.start (is_simple h.params)) end value k.1 k.2 k.3 i

  body_complete : (w : Bool) (h : Head) (end : ℕ) (b : Body) → ProperBody m form.Arrow h.start b → InIf w (body_free b) → Completes limit (print_body m.look d end b) (λ t. continues_assign w (body_ending b) t ≡ false) (parser.arrow_body v w h) (read_body end b)
  unfolding parser.arrow_body
  body_complete w h end b k i = record { at = λ u rest q g. record { by = ((either_complete w h end b k i).at u rest q g).by } }

  -- an arrow whole

  arrow_as : (start end : ℕ) (ps : Params) (comma bare : Bool) (b : Body) (h : Head) → HeadFor start ps comma bare h → arrow_case h (read_body end b) ≡ tree.Func start (function form.Arrow start end None ps comma bare b)
  arrow_as start end ps comma bare b h q =
      ap (λ x. tree.Func x (function form.Arrow x end None (params_of h.params) h.comma h.bare b)) q.0
      ∙ ap (λ x. tree.Func start (function form.Arrow start end None x h.comma h.bare b)) q.1
      ∙ ap (λ x. tree.Func start (function form.Arrow start end None ps x h.bare b)) q.2
      ∙ ap (λ x. tree.Func start (function form.Arrow start end None ps comma x b)) q.3

  by_head : (w : Bool) (start end : ℕ) (ps : Params) (comma bare : Bool) (b : Body) → ProperBody m form.Arrow start b → InIf w (body_free b) → ArrowHeadOf bare start ps comma → Completes limit (head_pieces bare start ps comma ++ (glued_mark mark.ARROW d ∷ print_body m.look d end b)) (λ t. continues_assign w (body_ending b) t ≡ false) (parser.arrow_of v w) (tree.Func start (function form.Arrow start end None ps comma bare b))
  unfolding parser.arrow_of
  by_head w start end ps comma bare b k i h =
      c_value (arrow_as start end ps comma bare b h.head h.is)
      (c_bind limit (λ x. bind parser.arrow_mark (λ _. bind (parser.arrow_body v w x) (λ y. ret (arrow_case x y)))) h.reads lead_any
      (c_bind limit (λ _. bind (parser.arrow_body v w h.head) (λ y. ret (arrow_case h.head y))) arrow_mark_complete lead_any
      (c_made limit (arrow_case h.head) (body_complete w h.head end b (subst (λ x. ProperBody m form.Arrow x b) (sym h.is.0) k) i))))

  -- the depth of a parameter
  abbrev arrow_pieces_of : ℕ → ℕ → Params → Bool → Bool → Body → List Piece
  arrow_pieces_of start end ps comma bare b = print m.look d (tree.Func start (function form.Arrow start end None ps comma bare b))

  same_pieces : (start end : ℕ) (ps : Params) (comma bare : Bool) (b : Body) → head_pieces bare start ps comma ++ (glued_mark mark.ARROW d ∷ print_body m.look d end b) ≡ arrow_pieces_of start end ps comma bare b
  same_pieces start end ps comma true b = refl
  same_pieces start end ps comma false b = refl

  pub arrow_complete : (w : Bool) (at start end : ℕ) (name : Option Named) (ps : Params) (comma bare : Bool) (b : Body) → Proper m (tree.Func at (function form.Arrow start end name ps comma bare b)) → InIf w (body_free b) → Completes limit (print m.look d (tree.Func at (function form.Arrow start end name ps comma bare b))) (λ t. continues_assign w (body_ending b) t ≡ false) (parser.arrow_of v w) (tree.Func at (function form.Arrow start end name ps comma bare b))
  arrow_complete w at start end name ps comma bare b h i =
      subst (λ x. Completes limit (print m.look d (tree.Func x (function form.Arrow start end name ps comma bare b))) (λ t. continues_assign w (body_ending b) t ≡ false) (parser.arrow_of v w) (tree.Func x (function form.Arrow start end name ps comma bare b))) (sym h.0.0)
      (subst (λ x. Completes limit (print m.look d (tree.Func start (function form.Arrow start end x ps comma bare b))) (λ t. continues_assign w (body_ending b) t ≡ false) (parser.arrow_of v w) (tree.Func start (function form.Arrow start end x ps comma bare b))) (sym h.0.1)
      (c_pieces limit (same_pieces start end ps comma bare b) (by_head w start end ps comma bare b h.1.4 i (head_complete bare start ps comma h.1.0 h.1.2 h.1.3))))
