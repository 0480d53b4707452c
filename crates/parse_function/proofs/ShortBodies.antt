-- A function whose tokens begin with a head and a `{` has a braced body.
use Rattle.std.proofs.Common.{◌≡◌, ◌∙◌, ℕ, suc, List, [], ◌∷◌, ◌++◌, Bool, true, false, Option, Some, None, refl, sym, ap, subst, append_assoc}
use Rattle.script_grammar.specs.declared.token.FuncForm.{FuncForm}
use Rattle.script_grammar.specs.declared.token.FuncForm.TheVariants as form
use Rattle.script_grammar.specs.declared.token.Kind.{Kind}
use Rattle.script_grammar.specs.declared.token.Kind.TheVariants as kind
use Rattle.script_grammar.specs.declared.token.mark.TheConstants as mark
use Rattle.script_grammar.specs.Kinds.{is_mark}
use Rattle.script_grammar.specs.Lexeme.{Lexeme}
use Rattle.script_grammar.specs.Pieces.{whole, Piece, At, Gap, Pass, Wanted, Exactly, AnyWord, IsWanted, is_wanted, begins_with, Opener, open_behind, open_at_end, Fits, IsBalanced, until, mark_piece, glued_mark, name_piece, comma_piece}
use Rattle.script_grammar.specs.Print.{print, print_params, parenthesized, param_depth, arrow_pieces}
use Rattle.script_grammar.specs.Proper.{BareIf, ProperParams, begins_brace}
use Rattle.script_grammar.specs.Proper as proper
use Rattle.script_grammar.specs.Script.{IsFunction, print_own}
use Rattle.script_grammar.specs.Tree.{Named, Expr, Function, function, Params, no_params, more_params, BracedBody, ShortBody, no_expr, some_expr}
use Rattle.grammar_complete_laws.proofs.ExprFronts.{OfKind, Opens, expr_opens}
use Rattle.grammar_parser_specs.specs.Exprs.{begins_assign}
use Rattle.grammar_parser_laws.proofs.Begins.{begins_same}
use Rattle.grammar_parser_laws.proofs.Fitting.{fits_part}
use Rattle.grammar_parser_laws.proofs.Friendly.{first_of}
use Rattle.grammar_parser_laws.proofs.Nested.{Nested, nested_append, comma_nested}
use Rattle.grammar_parser_laws.proofs.NestedTrees.{nested_params}
use Rattle.grammar_parser_laws.proofs.ProperIn.{whole_mode, in_expr}
use Rattle.grammar_skip_laws.specs.Holes.{IsMark, IsJoint, no_arrow, arrow, IsHead, single, listed, has_braces}
use Rattle.parse_function.specs.Extents.{body_in}

-- ---- the head of an arrow

-- an arrow's single name, or parameters in parentheses, and an arrow's mark
data IsArrowHead : List Lexeme → Type 0 where
  one : (name joint : Lexeme) → name.kind ≡ kind.Name → IsMark mark.ARROW joint → IsArrowHead (name ∷ joint ∷ [])
  many : (opener : Lexeme) (params : List Lexeme) (closer joint : Lexeme) → IsMark mark.OPEN_PAREN opener → IsBalanced params → IsMark mark.CLOSE_PAREN closer → IsMark mark.ARROW joint → (all : List Lexeme) → all ≡ opener ∷ (params ++ closer ∷ joint ∷ []) → IsArrowHead all

not_both : (t : Lexeme) (j k : Kind) → t.kind ≡ j → t.kind ≡ k → (j ≡ k → ⊥) → ⊥
not_both t j k e f no_same = no_same (sym e ∙ f)

-- what stands after the parenthesis that closes what was open
closes_none : (t : Lexeme) (ts : List Lexeme) (os : List Opener) → ◌≡◌ {A = Option (List Opener)} (Some os) (Some []) → IsMark mark.CLOSE_PAREN t → open_at_end os (t ∷ ts) ≡ Some [] → ⊥
closes_none t ts (o ∷ os) e k h = cc
closes_none t ts [] e k h = none (subst (λ j. ◌≡◌ {A = Option (List Opener)} (elim (open_behind j []) [ None ↦ None | Some qs ↦ open_at_end qs ts ]) (Some [])) k h)
  where
    none : ◌≡◌ {A = Option (List Opener)} None (Some []) → ⊥
    none g = cc

same_behind : (os : List Opener) (u v : List Lexeme) (c d : Lexeme) (x y : List Lexeme) → open_at_end os u ≡ Some [] → open_at_end os v ≡ Some [] → IsMark mark.CLOSE_PAREN c → IsMark mark.CLOSE_PAREN d → u ++ c ∷ x ≡ v ++ d ∷ y → x ≡ y
same_behind os [] [] c d x y g h k l e = cc
same_behind os [] (t ∷ v) c d x y g h k l e = absurd (closes_none t v os g (let same : c ≡ t = cc in subst (IsMark mark.CLOSE_PAREN) same k) h)
same_behind os (t ∷ u) [] c d x y g h k l e = absurd (closes_none t u os h (let same : t ≡ d = cc in subst (IsMark mark.CLOSE_PAREN) (sym same) l) g)
same_behind os (t ∷ u) (s ∷ v) c d x y g h k l e = by (λ qs m n. same_behind qs u v c d x y m n k l others) (open_behind t.kind os) refl g (subst (λ (z : Lexeme). open_at_end os (z ∷ v) ≡ Some []) (sym first) h)
  where
    first : t ≡ s
    first = cc

    others : u ++ c ∷ x ≡ v ++ d ∷ y
    others = cc

    by : ((qs : List Opener) → open_at_end qs u ≡ Some [] → open_at_end qs v ≡ Some [] → x ≡ y) → (o : Option (List Opener)) → open_behind t.kind os ≡ o
        → ◌≡◌ {A = Option (List Opener)} (elim o [ None ↦ None | Some qs ↦ open_at_end qs u ]) (Some []) → open_at_end os (t ∷ v) ≡ Some [] → x ≡ y
    by each None i m n = absurd (cc)
    by each (Some qs) i m n = each qs m (subst (λ o. ◌≡◌ {A = Option (List Opener)} (elim o [ None ↦ None | Some zs ↦ open_at_end zs v ]) (Some [])) i n)

-- what stands after an arrow's mark and in front of a brace
behind_joint : (j : List Lexeme) (o joint : Lexeme) (r y : List Lexeme) → IsJoint j → IsMark mark.OPEN_BRACE o → IsMark mark.ARROW joint → j ++ o ∷ r ≡ joint ∷ y → y ≡ o ∷ r
behind_joint j o joint r y no_arrow k l e = let same : o ≡ joint = cc in absurd (not_both o (kind.Mark mark.OPEN_BRACE) (kind.Mark mark.ARROW) k (subst (IsMark mark.ARROW) (sym same) l) (λ q. cc))
behind_joint j o joint r y (arrow t m) k l e = cc

behind_listed : (a : Lexeme) (p : List Lexeme) (c : Lexeme) (j : List Lexeme) (b : Lexeme) (q : List Lexeme) (d joint o : Lexeme) (r y : List Lexeme) → IsBalanced p → IsBalanced q → IsMark mark.CLOSE_PAREN c → IsMark mark.CLOSE_PAREN d → IsJoint j → IsMark mark.ARROW joint → IsMark mark.OPEN_BRACE o
    → (a ∷ (p ++ c ∷ j)) ++ o ∷ r ≡ (b ∷ (q ++ d ∷ joint ∷ [])) ++ y → y ≡ o ∷ r
behind_listed a p c j b q d joint o r y g h k l m n i e =
    let others : (p ++ c ∷ j) ++ o ∷ r ≡ (q ++ d ∷ joint ∷ []) ++ y = cc in
    let apart : p ++ c ∷ (j ++ o ∷ r) ≡ q ++ d ∷ (joint ∷ y) = sym (append_assoc p (c ∷ j) (o ∷ r)) ∙ others ∙ append_assoc q (d ∷ joint ∷ []) y in
    behind_joint j o joint r y m i n (same_behind [] p q c d (j ++ o ∷ r) (joint ∷ y) g h k l apart)

-- where a head and a brace stand at the front, what is after an arrow's head begins with the brace
behind_head : (u h : List Lexeme) (o : Lexeme) (r y : List Lexeme) → IsHead u → IsArrowHead h → IsMark mark.OPEN_BRACE o → u ++ o ∷ r ≡ h ++ y → y ≡ o ∷ r
behind_head u h o r y (single name joint k l) (one other sign m n) i e = cc
behind_head u h o r y (single name joint k l) (many opener q d sign m g s n all are) i e =
    let both : name ∷ (joint ∷ o ∷ r) ≡ (opener ∷ (q ++ d ∷ sign ∷ [])) ++ y = e ∙ ap (λ (x : List Lexeme). x ++ y) are in
    let same : name ≡ opener = cc in absurd (not_both name kind.Name (kind.Mark mark.OPEN_PAREN) k (subst (IsMark mark.OPEN_PAREN) (sym same) m) (λ z. cc))
behind_head u h o r y (listed opener p c j m g s t all are) (one name joint k l) i e =
    let both : (opener ∷ (p ++ c ∷ j)) ++ o ∷ r ≡ name ∷ (joint ∷ y) = ap (λ (x : List Lexeme). x ++ o ∷ r) (sym are) ∙ e in
    let same : opener ≡ name = cc in absurd (not_both name kind.Name (kind.Mark mark.OPEN_PAREN) k (subst (IsMark mark.OPEN_PAREN) same m) (λ z. cc))
behind_head u h o r y (listed a p c j m g s t all are) (many b q d joint n k l v every is) i e =
    behind_listed a p c j b q d joint o r y g k s l t v i (ap (λ (x : List Lexeme). x ++ o ∷ r) (sym are) ∙ e ∙ ap (λ (x : List Lexeme). x ++ y) is)

-- ---- the places of an arrow's head

arrow_listed : (start d : ℕ) (ps : List Piece) (comma : Bool) → Nested ps → (w : List Lexeme) (n : Lexeme) → Fits (parenthesized false start d ps comma ++ glued_mark mark.ARROW d ∷ []) w n → IsArrowHead w
arrow_listed start d ps comma nested [] n h = absurd h
arrow_listed start d ps comma nested (t ∷ w) n h =
    let p = fits_part (ps ++ (comma_piece comma d ++ mark_piece mark.CLOSE_PAREN d ∷ [])) (glued_mark mark.ARROW d ∷ []) w n h.1 in
    let q = fits_part (ps ++ comma_piece comma d) (mark_piece mark.CLOSE_PAREN d ∷ []) p.front (first_of p.back n) (subst (λ x. Fits x p.front (first_of p.back n)) (sym (append_assoc ps (comma_piece comma d) (mark_piece mark.CLOSE_PAREN d ∷ []))) p.first) in
    made q.front q.back p.back (first_of p.back n) n ((nested_append nested (comma_nested comma d)).at q.front (first_of q.back (first_of p.back n)) q.first []) q.second p.second (p.split ∙ ap (λ x. x ++ p.back) q.split)
  where
    made : (u c j : List Lexeme) (m k : Lexeme) → IsBalanced u → Fits (mark_piece mark.CLOSE_PAREN d ∷ []) c m → Fits (glued_mark mark.ARROW d ∷ []) j k → w ≡ (u ++ c) ++ j → IsArrowHead (t ∷ w)
    made u [] j m k b f g e = absurd f
    made u (c ∷ x ∷ cs) j m k b f g e = absurd f.1
    made u (c ∷ []) [] m k b f g e = absurd g
    made u (c ∷ []) (x ∷ y ∷ j) m k b f g e = absurd g.1
    made u (c ∷ []) (x ∷ []) m k b f g e = many t u c x h.0.kind b f.0.kind g.0.kind (t ∷ w) (ap (λ z. t ∷ z) (e ∙ append_assoc u (c ∷ []) (x ∷ [])))

arrow_single : (name : Named) (d : ℕ) (w : List Lexeme) (n : Lexeme) → Fits (name_piece name d ∷ glued_mark mark.ARROW d ∷ []) w n → IsArrowHead w
arrow_single name d [] n h = absurd h
arrow_single name d (t ∷ []) n h = absurd h.1
arrow_single name d (t ∷ u ∷ []) n h = one t u h.0.kind h.1.0.kind
arrow_single name d (t ∷ u ∷ v ∷ w) n h = absurd h.1.1

arrow_head : (start d : ℕ) (ps : Params) (comma bare : Bool) → BareIf bare form.Arrow start ps comma → ProperParams whole ps → (w : List Lexeme) (n : Lexeme)
    → Fits (parenthesized bare start d (print_params whole (param_depth form.Arrow bare d) d ps) comma ++ glued_mark mark.ARROW d ∷ []) w n → IsArrowHead w
arrow_head start d ps comma false b p w n h = arrow_listed start d (print_params whole (param_depth form.Arrow false d) d ps) comma (nested_params whole (param_depth form.Arrow false d) d ps p) w n h
arrow_head start d (more_params name no_expr false no_params) comma true b p w n h = arrow_single name d w n h
arrow_head start d (more_params name no_expr false (more_params m v r ps)) comma true b p w n h = absurd b
arrow_head start d (more_params name no_expr true ps) comma true b p w n h = absurd b
arrow_head start d (more_params name (some_expr e) rest ps) comma true b p w n h = absurd b
arrow_head start d no_params comma true b p w n h = absurd b

-- ---- an expression that begins with no brace

no_wanted : (f : Kind → Bool) (w : Wanted) (k : Kind) → OfKind begins_assign w → is_wanted f w ≡ false → IsWanted w k → f k ≡ false
no_wanted f (Exactly j) k o e h = ap f h ∙ e
no_wanted f AnyWord k o e h = absurd o

no_brace : (f : Kind → Bool) (ps : List Piece) → Opens begins_assign ps → begins_with f ps ≡ false → (end : ℕ) (t : Lexeme) (w : List Lexeme) (n : Lexeme) → Fits (until end ps) (t ∷ w) n → f t.kind ≡ false
no_brace f [] o e end t w n h = absurd o
no_brace f (At s ∷ []) o e end t w n h = no_wanted f s.kind t.kind o e h.0.kind
no_brace f (At s ∷ p ∷ ps) o e end t w n h = no_wanted f s.kind t.kind o e h.0.kind
no_brace f (Gap g ∷ ps) o e end t w n h = absurd o
no_brace f (Pass ∷ ps) o e end t w n h = absurd o

short_not : (d end : ℕ) (value : Expr) → begins_brace value ≡ false → proper.Proper whole value → (t : Lexeme) (w : List Lexeme) (n : Lexeme) → Fits (until end (print whole (suc d) value)) (t ∷ w) n → IsMark mark.OPEN_BRACE t → ⊥
short_not d end value b p t w n h k =
    let no : is_mark mark.OPEN_BRACE t.kind ≡ false =
    no_brace (is_mark mark.OPEN_BRACE) (print whole (suc d) value) (expr_opens whole_mode (suc d) value (in_expr value p)) (begins_same (is_mark mark.OPEN_BRACE) whole whole (suc d) 1 value ∙ b) end t w n h in
    let yes : ◌≡◌ {A = Bool} true false = ap (is_mark mark.OPEN_BRACE) (sym k) ∙ no in cc

-- ---- the function

module _ (who : Option Named) (d : ℕ) (w : List Lexeme) (next : Lexeme) (us : List Lexeme) (o : Lexeme) (r : List Lexeme) (are : w ≡ us ++ o ∷ r) (head : IsHead us) (opens : IsMark mark.OPEN_BRACE o) where
  no_short : (start end : ℕ) (ps : Params) (comma bare : Bool) (value : Expr) → BareIf bare form.Arrow start ps comma → ProperParams whole ps → begins_brace value ≡ false → proper.Proper whole value
      → Fits (parenthesized bare start d (print_params whole (param_depth form.Arrow bare d) d ps) comma ++ (arrow_pieces form.Arrow d ++ print_own whole d end (ShortBody value))) w next → ⊥
  no_short start end ps comma bare value b p g v f =
      let front = parenthesized bare start d (print_params whole (param_depth form.Arrow bare d) d ps) comma in
      let q = fits_part (front ++ glued_mark mark.ARROW d ∷ []) (until end (print whole (suc d) value)) w next (subst (λ x. Fits x w next) (sym (append_assoc front (glued_mark mark.ARROW d ∷ []) (until end (print whole (suc d) value)))) f) in
      let back : q.back ≡ o ∷ r = behind_head us q.front o r q.back head (arrow_head start d ps comma bare b p q.front (first_of q.back next) q.first) opens (sym are ∙ q.split) in
      short_not d end value g v o r next (subst (λ (x : List Lexeme). Fits (until end (print whole (suc d) value)) x next) back q.second) opens

  no_arrow_form : ◌≡◌ {A = Bool} false true → ⊥
  no_arrow_form e = cc

  pub braced_there : (wanted : FuncForm) (f : Function) → IsFunction whole wanted who d w next f → has_braces (body_in f) ≡ true
  braced_there wanted (function g start end name ps comma bare (BracedBody items)) s = refl
  braced_there wanted (function form.Script start end name ps comma bare (ShortBody value)) s = absurd (no_arrow_form s.proper.4.0)
  braced_there wanted (function form.Function start end name ps comma bare (ShortBody value)) s = absurd (no_arrow_form s.proper.4.0)
  braced_there wanted (function form.Method start end name ps comma bare (ShortBody value)) s = absurd (no_arrow_form s.proper.4.0)
  braced_there wanted (function form.Getter start end name ps comma bare (ShortBody value)) s = absurd (no_arrow_form s.proper.4.0)
  braced_there wanted (function form.Setter start end name ps comma bare (ShortBody value)) s = absurd (no_arrow_form s.proper.4.0)
  braced_there wanted (function form.Arrow start end name ps comma bare (ShortBody value)) s = absurd (no_short start end ps comma bare value s.proper.2 s.proper.3 s.proper.4.2 s.proper.4.3 s.fits)
