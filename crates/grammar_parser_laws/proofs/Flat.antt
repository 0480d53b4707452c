-- The lexemes of an AssignmentExpression have no comma outside brackets: the cut of a parenthesis into items passes over them.
use Rattle.std.proofs.Common.{◌≡◌, ℕ, zero, suc, ◌+◌, ◌≤◌, ◌<◌, List, [], ◌∷◌, ◌++◌, refl, sym, ap, ◌∙◌, subst, arith, append_assoc, Bool, true, false, nat_eq, Option, Some, None, if◌then◌else◌, inl, inr}
use Rattle.std.proofs.lemmas.Bool.{eqb-true}
use Rattle.script_grammar.specs.declared.token.Kind.{Kind}
use Rattle.script_grammar.specs.declared.token.Kind.TheVariants as kind
use Rattle.script_grammar.specs.declared.token.FuncForm.{FuncForm}
use Rattle.script_grammar.specs.declared.token.FuncForm.TheVariants as form
use Rattle.script_grammar.specs.declared.token.mark.TheConstants as mark
use Rattle.script_grammar.specs.declared.token.word.TheConstants as word
use Rattle.script_grammar.specs.Lexeme.{Lexeme}
use Rattle.script_grammar.specs.Kinds.{is_mark, is_any_word, is_prefix_op, is_update_op, is_assign_op, is_arrow_form, op_kind, op_level, mark_level}
use Rattle.script_grammar.specs.Tree.{Named, Expr, MaybeExpr, no_expr, some_expr, MaybeArgs, no_args, some_args, Parts, no_parts, more_parts, Operands, no_operands, more_operands, Tail, Tails, no_tails, more_tails, Function, function, Params, no_params, more_params, Body}
use Rattle.script_grammar.specs.Tree as tree
use Rattle.script_grammar.specs.Pieces.{Bodies, whole, passed, Piece, At, Gap, Pass, Slot, Is, IsWanted, Exactly, AnyWord, Fits, Opener, paren, bracket, brace, template, open_behind, open_at_end, comma_piece, template_piece, text_piece, placed, glued_mark, from, until}
use Rattle.script_grammar.specs.Print
use Rattle.script_grammar.specs.Proper.{Proper, ProperArgs, ProperParts, ProperOperands, ProperTails, ProperTail, ProperFunction, ProperBody, BareIf, rank, operands_level, first_rank, rest_rank, operand_rank, callee_rank}
use Rattle.grammar_parser_specs.specs.Exprs.{only_params, params_case, is_between}
use Rattle.grammar_parser_laws.proofs.Fitting.{fits_part}
use Rattle.grammar_parser_laws.proofs.Tests.{true_false, bool_cases}
use Rattle.grammar_parser_laws.proofs.Nested.{Nested, Neutral, deeper_behind, nested_append, nested_pass, neutral_op, prefix_six, between_six, level_six, neutral_mark, comma_nested, ununtil}
use Rattle.grammar_parser_laws.proofs.NestedTrees.{nested_expr, nested_list, nested_items, nested_props, nested_params, nested_stmts}

-- the cut in one bracket or more inside the parenthesis

deeper_between : (k : Kind) (x : List Opener) (o : Opener) → is_between k (x ++ o ∷ paren ∷ []) ≡ false
deeper_between k [] o = refl
deeper_between k (y ∷ []) o = refl
deeper_between k (y ∷ z ∷ x) o = refl

deeper_case : (x : List Opener) (o : Opener) (f : List Opener → Bool) → params_case (Some (x ++ o ∷ paren ∷ [])) true f ≡ f (x ++ o ∷ paren ∷ [])
deeper_case [] o f = refl
deeper_case (y ∷ x) o f = refl

pub deeper_params : (u : List Lexeme) (ps qs : List Opener) (o : Opener) (r : List Lexeme) → open_at_end ps u ≡ Some qs → only_params false (ps ++ o ∷ paren ∷ []) (u ++ r) ≡ only_params false (qs ++ o ∷ paren ∷ []) r
deeper_params [] ps qs o r e = ap (λ x. elim x [ None ↦ false | Some y ↦ only_params false (y ++ o ∷ paren ∷ []) r ]) e
deeper_params (t ∷ u) ps qs o r e = past (open_behind t.kind ps) refl (λ x. deeper_params u x qs o r) e
  where
    past : (b : Option (List Opener)) → open_behind t.kind ps ≡ b → ((x : List Opener) → open_at_end x u ≡ Some qs → only_params false (x ++ o ∷ paren ∷ []) (u ++ r) ≡ only_params false (qs ++ o ∷ paren ∷ []) r) → (elim b [ None ↦ None | Some x ↦ open_at_end x u ]) ≡ Some qs → only_params false (ps ++ o ∷ paren ∷ []) (t ∷ (u ++ r)) ≡ only_params false (qs ++ o ∷ paren ∷ []) r
    past None k h e = absurd (cc)
    past (Some x) k h e =
        ap (λ b. params_case b true (λ os. only_params (is_between t.kind os) os (u ++ r))) (deeper_behind t.kind ps x (o ∷ paren ∷ []) k)
        ∙ deeper_case x o (λ os. only_params (is_between t.kind os) os (u ++ r))
        ∙ ap (λ b. only_params b (x ++ o ∷ paren ∷ []) (u ++ r)) (deeper_between t.kind x o)
        ∙ h x e

-- one lexeme that leaves something open
pub step_params : (t : Lexeme) (ts : List Lexeme) (ps : List Opener) (q : Opener) (qs : List Opener) → open_behind t.kind ps ≡ Some (q ∷ qs) → only_params false ps (t ∷ ts) ≡ only_params (is_between t.kind (q ∷ qs)) (q ∷ qs) ts
step_params t ts ps q qs e = ap (λ b. params_case b true (λ os. only_params (is_between t.kind os) os ts)) e

-- places over whose lexemes the cut passes

pub record Flat (ps : List Piece) : Type 0 where
  pub at : (w : List Lexeme) (n : Lexeme) → Fits ps w n → (r : List Lexeme) → only_params false (paren ∷ []) (w ++ r) ≡ only_params false (paren ∷ []) r

pub flat_none : Flat []
flat_none = record { at = none }
  where
    none : (w : List Lexeme) (n : Lexeme) → Fits [] w n → (r : List Lexeme) → only_params false (paren ∷ []) (w ++ r) ≡ only_params false (paren ∷ []) r
    none [] n h r = refl
    none (t ∷ w) n h r = absurd h

flat_append : {a b : List Piece} → Flat a → Flat b → Flat (a ++ b)
flat_append {a = a} {b = b} x y = record { at = λ w n h r. let p = fits_part a b w n h in ap (λ z. only_params false (paren ∷ []) (z ++ r)) p.split ∙ ap (only_params false (paren ∷ [])) (append_assoc p.front p.back r) ∙ x.at p.front _ p.first (p.back ++ r) ∙ y.at p.back n p.second r }

flat_slot : (s : Slot) (rest : List Piece) → ((t : Lexeme) → Is s t → Neutral t.kind × (is_mark mark.COMMA t.kind ≡ false)) → Flat rest → Flat (At s ∷ rest)
flat_slot s rest k x = record { at = slot_at }
  where
    slot_at : (w : List Lexeme) (n : Lexeme) → Fits (At s ∷ rest) w n → (r : List Lexeme) → only_params false (paren ∷ []) (w ++ r) ≡ only_params false (paren ∷ []) r
    slot_at [] n h r = absurd h
    slot_at (t ∷ w) n h r = let q = k t h.0 in step_params t (w ++ r) (paren ∷ []) paren [] (q.0 (paren ∷ [])) ∙ ap (λ b. only_params b (paren ∷ []) (w ++ r)) q.1 ∙ x.at w n h.1 r

flat_cons : (s : Slot) (rest : List Piece) (k : Kind) → s.kind ≡ Exactly k → Neutral k → is_mark mark.COMMA k ≡ false → Flat rest → Flat (At s ∷ rest)
flat_cons s rest k e h c x = flat_slot s rest (λ t i. let q : t.kind ≡ k = subst (λ y. IsWanted y t.kind) e i.kind in (subst Neutral (sym q) h, ap (is_mark mark.COMMA) q ∙ c)) x

flat_word : (s : Slot) (i : ℕ) (rest : List Piece) → s.kind ≡ Exactly (kind.Word i) → Flat rest → Flat (At s ∷ rest)
flat_word s i rest e x = flat_cons s rest (kind.Word i) e (λ os. refl) refl x

flat_name : (s : Slot) (rest : List Piece) → s.kind ≡ Exactly kind.Name → Flat rest → Flat (At s ∷ rest)
flat_name s rest e x = flat_cons s rest kind.Name e (λ os. refl) refl x

pub flat_mark : (s : Slot) (i : ℕ) (rest : List Piece) → s.kind ≡ Exactly (kind.Mark i) → 6 ≤ i → nat_eq i mark.COMMA ≡ false → Flat rest → Flat (At s ∷ rest)
flat_mark s i rest e h c x = flat_cons s rest (kind.Mark i) e (neutral_mark i h) c x

any_no_comma : (k : Kind) → is_any_word k ≡ true → Neutral k × (is_mark mark.COMMA k ≡ false)
any_no_comma kind.Name e = (λ os. refl, refl)
any_no_comma (kind.Word i) e = (λ os. refl, refl)
any_no_comma kind.Number e = absurd (cc)
any_no_comma kind.Str e = absurd (cc)
any_no_comma kind.TemplateWhole e = absurd (cc)
any_no_comma kind.TemplateHead e = absurd (cc)
any_no_comma kind.TemplateMiddle e = absurd (cc)
any_no_comma kind.TemplateTail e = absurd (cc)
any_no_comma (kind.Mark i) e = absurd (cc)
any_no_comma kind.Bad e = absurd (cc)
any_no_comma kind.End e = absurd (cc)

flat_any : (s : Slot) (rest : List Piece) → s.kind ≡ AnyWord → Flat rest → Flat (At s ∷ rest)
flat_any s rest e x = flat_slot s rest (λ t i. any_no_comma t.kind (subst (λ y. IsWanted y t.kind) e i.kind)) x

flat_same : {a b : List Piece} → a ≡ b → Flat a → Flat b
flat_same e x = subst Flat e x

-- what stands between two brackets, and after them
flat_group : (s c : Slot) (inner rest : List Piece) (j k : Kind) (o : Opener) → s.kind ≡ Exactly j → c.kind ≡ Exactly k → ((os : List Opener) → open_behind j os ≡ Some (o ∷ os)) → ((os : List Opener) → open_behind k (o ∷ os) ≡ Some os) → is_mark mark.COMMA k ≡ false → Nested inner → Flat rest → Flat (At s ∷ (inner ++ (At c ∷ rest)))
flat_group s c inner rest j k o e f h g m x y = record { at = group_at }
  where
    close_at : (w : List Lexeme) (n : Lexeme) → Fits (At c ∷ rest) w n → (r : List Lexeme) → only_params false (o ∷ paren ∷ []) (w ++ r) ≡ only_params false (paren ∷ []) r
    close_at [] n i r = absurd i
    close_at (t ∷ w) n i r =
        let q : t.kind ≡ k = subst (λ z. IsWanted z t.kind) f i.0.kind in
        step_params t (w ++ r) (o ∷ paren ∷ []) paren [] (ap (λ z. open_behind z (o ∷ paren ∷ [])) q ∙ g (paren ∷ []))
        ∙ ap (λ b. only_params b (paren ∷ []) (w ++ r)) (ap (is_mark mark.COMMA) q ∙ m)
        ∙ y.at w n i.1 r

    group_at : (w : List Lexeme) (n : Lexeme) → Fits (At s ∷ (inner ++ (At c ∷ rest))) w n → (r : List Lexeme) → only_params false (paren ∷ []) (w ++ r) ≡ only_params false (paren ∷ []) r
    group_at [] n i r = absurd i
    group_at (t ∷ w) n i r =
        let p = fits_part inner (At c ∷ rest) w n i.1 in
        step_params t (w ++ r) (paren ∷ []) o (paren ∷ []) (ap (λ z. open_behind z (paren ∷ [])) (subst (λ z. IsWanted z t.kind) e i.0.kind) ∙ h (paren ∷ []))
        ∙ ap (λ z. only_params false (o ∷ paren ∷ []) (z ++ r)) p.split
        ∙ ap (only_params false (o ∷ paren ∷ [])) (append_assoc p.front p.back r)
        ∙ deeper_params p.front [] [] o (p.back ++ r) (x.at p.front _ p.first [])
        ∙ close_at p.back n p.second r

flat_parens : (s c : Slot) (inner rest : List Piece) → s.kind ≡ Exactly (kind.Mark mark.OPEN_PAREN) → c.kind ≡ Exactly (kind.Mark mark.CLOSE_PAREN) → Nested inner → Flat rest → Flat (At s ∷ (inner ++ (At c ∷ rest)))
flat_parens s c inner rest e f x y = flat_group s c inner rest (kind.Mark mark.OPEN_PAREN) (kind.Mark mark.CLOSE_PAREN) paren e f (λ os. refl) (λ os. refl) refl x y

flat_brackets : (s c : Slot) (inner rest : List Piece) → s.kind ≡ Exactly (kind.Mark mark.OPEN_BRACKET) → c.kind ≡ Exactly (kind.Mark mark.CLOSE_BRACKET) → Nested inner → Flat rest → Flat (At s ∷ (inner ++ (At c ∷ rest)))
flat_brackets s c inner rest e f x y = flat_group s c inner rest (kind.Mark mark.OPEN_BRACKET) (kind.Mark mark.CLOSE_BRACKET) bracket e f (λ os. refl) (λ os. refl) refl x y

flat_braces : (s c : Slot) (inner rest : List Piece) → s.kind ≡ Exactly (kind.Mark mark.OPEN_BRACE) → c.kind ≡ Exactly (kind.Mark mark.CLOSE_BRACE) → Nested inner → Flat rest → Flat (At s ∷ (inner ++ (At c ∷ rest)))
flat_braces s c inner rest e f x y = flat_group s c inner rest (kind.Mark mark.OPEN_BRACE) (kind.Mark mark.CLOSE_BRACE) brace e f (λ os. refl) (λ os. refl) refl x y

-- places that differ in what else they ask of a lexeme
flat_kind : (ps qs : List Piece) → ((w : List Lexeme) (n : Lexeme) → Fits qs w n → Fits ps w n) → Flat ps → Flat qs
flat_kind ps qs f x = record { at = λ w n h r. x.at w n (f w n h) r }

unfrom : (a : ℕ) (ps : List Piece) (w : List Lexeme) (n : Lexeme) → Fits (from a ps) w n → Fits ps w n
unfrom a [] w n h = h
unfrom a (At s ∷ ps) [] n h = absurd h
unfrom a (At s ∷ ps) (t ∷ w) n h = (record { kind = h.0.kind; content = h.0.content; starts = h.0.starts.1; ends = h.0.ends; line = h.0.line }, h.1)
unfrom a (Gap e ∷ ps) w n h = h
unfrom a (Pass ∷ ps) w n h = h

-- marks that are no commas

not_comma : (test : ℕ → Bool) (op : ℕ) → test op ≡ true → test mark.COMMA ≡ false → nat_eq op mark.COMMA ≡ false
not_comma test op h k = elim (bool_cases (nat_eq op mark.COMMA)) [ inl e ↦ absurd (true_false (sym h ∙ ap test (eqb-true op mark.COMMA e) ∙ k)) | inr e ↦ e ]

prefix_no_comma : (op : ℕ) (of_word : Bool) → is_prefix_op op of_word ≡ true → is_mark mark.COMMA (op_kind op of_word) ≡ false
prefix_no_comma op true h = refl
prefix_no_comma op false h = not_comma (λ i. is_prefix_op i false) op h refl

level_no_comma : (op : ℕ) (of_word : Bool) → op_level op of_word < 12 → is_mark mark.COMMA (op_kind op of_word) ≡ false
level_no_comma op true h = refl
level_no_comma op false h = elim (bool_cases (nat_eq op mark.COMMA)) [ inl e ↦ absurd (omega (arith, h, ap mark_level (eqb-true op mark.COMMA e))) | inr e ↦ e ]

-- a template, after its head

record FlatParts (ps : List Piece) : Type 0 where
  at : (w : List Lexeme) (n : Lexeme) → Fits ps w n → (r : List Lexeme) → only_params false (template ∷ paren ∷ []) (w ++ r) ≡ only_params false (paren ∷ []) r

parts_append : {a b : List Piece} → Nested a → FlatParts b → FlatParts (a ++ b)
parts_append {a = a} {b = b} x y = record { at = λ w n h r. let p = fits_part a b w n h in ap (λ z. only_params false (template ∷ paren ∷ []) (z ++ r)) p.split ∙ ap (only_params false (template ∷ paren ∷ [])) (append_assoc p.front p.back r) ∙ deeper_params p.front [] [] template (p.back ++ r) (x.at p.front _ p.first []) ∙ y.at p.back n p.second r }

tail_flat : (behind : List ℕ) (d : ℕ) → FlatParts (template_piece kind.TemplateTail behind d ∷ [])
tail_flat behind d = record { at = tail_at }
  where
    tail_at : (w : List Lexeme) (n : Lexeme) → Fits (template_piece kind.TemplateTail behind d ∷ []) w n → (r : List Lexeme) → only_params false (template ∷ paren ∷ []) (w ++ r) ≡ only_params false (paren ∷ []) r
    tail_at [] n h r = absurd h
    tail_at (t ∷ w) n h r =
        step_params t (w ++ r) (template ∷ paren ∷ []) paren [] (ap (λ z. open_behind z (template ∷ paren ∷ [])) h.0.kind)
        ∙ ap (λ b. only_params b (paren ∷ []) (w ++ r)) (ap (is_mark mark.COMMA) h.0.kind) ∙ flat_none.at w n h.1 r

middle_flat : (behind : List ℕ) (d : ℕ) (rest : List Piece) → FlatParts rest → FlatParts (template_piece kind.TemplateMiddle behind d ∷ rest)
middle_flat behind d rest x = record { at = middle_at }
  where
    middle_at : (w : List Lexeme) (n : Lexeme) → Fits (template_piece kind.TemplateMiddle behind d ∷ rest) w n → (r : List Lexeme) → only_params false (template ∷ paren ∷ []) (w ++ r) ≡ only_params false (paren ∷ []) r
    middle_at [] n h r = absurd h
    middle_at (t ∷ w) n h r = step_params t (w ++ r) (template ∷ paren ∷ []) template (paren ∷ []) (ap (λ z. open_behind z (template ∷ paren ∷ [])) h.0.kind) ∙ x.at w n h.1 r

head_flat : (first : List ℕ) (at d : ℕ) (rest : List Piece) → FlatParts rest → Flat (text_piece kind.TemplateHead first at d ∷ rest)
head_flat first at d rest x = record { at = head_at }
  where
    head_at : (w : List Lexeme) (n : Lexeme) → Fits (text_piece kind.TemplateHead first at d ∷ rest) w n → (r : List Lexeme) → only_params false (paren ∷ []) (w ++ r) ≡ only_params false (paren ∷ []) r
    head_at [] n h r = absurd h
    head_at (t ∷ w) n h r = step_params t (w ++ r) (paren ∷ []) template (paren ∷ []) (ap (λ z. open_behind z (paren ∷ [])) h.0.kind) ∙ x.at w n h.1 r

parts_flat : (m : Bodies) (d : ℕ) (value : Expr) (behind : List ℕ) (rest : Parts) → ProperParts m (more_parts value behind rest) → FlatParts (Print.print_parts m d (more_parts value behind rest))
parts_flat m d value behind no_parts p = parts_append (nested_expr m (suc d) value p.0) (tail_flat behind d)
parts_flat m d value behind (more_parts v b r) p = parts_append (nested_expr m (suc d) value p.0) (middle_flat behind d _ (parts_flat m d v b r p.1))

-- lists in brackets, with a comma at the end or none

with_comma : (s c : Slot) (inner : List Piece) (comma : Bool) (d : ℕ) → Flat (At s ∷ ((inner ++ comma_piece comma d) ++ (At c ∷ []))) → Flat (At s ∷ (inner ++ (comma_piece comma d ++ At c ∷ [])))
with_comma s c inner comma d x = flat_same (ap (λ y. At s ∷ y) (append_assoc inner (comma_piece comma d) (At c ∷ []))) x

flat_args : (m : Bodies) (d : ℕ) (a : MaybeArgs) → ProperArgs m a → Flat (Print.print_args m d a)
flat_args m d no_args p = flat_none
flat_args m d (some_args es comma) p = with_comma _ _ (Print.print_list m d es) comma d (flat_parens _ _ (Print.print_list m d es ++ comma_piece comma d) [] refl refl (nested_append (nested_list m d es p.1) (comma_nested comma d)) flat_none)

flat_tail : (m : Bodies) (d : ℕ) (t : Tail) → ProperTail m t → Flat (Print.print_tail m d t)
flat_tail m d (tree.Dot w) p = flat_mark _ mark.DOT _ refl (omega arith) refl (flat_any _ [] refl flat_none)
flat_tail m d (tree.Index e) p = flat_brackets _ _ (Print.print m (suc d) e) [] refl refl (nested_expr m (suc d) e p) flat_none
flat_tail m d (tree.Call es comma) p = with_comma _ _ (Print.print_list m d es) comma d (flat_parens _ _ (Print.print_list m d es ++ comma_piece comma d) [] refl refl (nested_append (nested_list m d es p.1) (comma_nested comma d)) flat_none)

flat_tails : (m : Bodies) (d : ℕ) (ts : Tails) → ProperTails m ts → Flat (Print.print_tails m d ts)
flat_tails m d no_tails p = flat_none
flat_tails m d (more_tails t ts) p = flat_append (flat_tail m d t p.0) (flat_tails m d ts p.1)

-- functions

flat_maybe_name : (o : Option Named) (d : ℕ) → Flat (Print.print_name o d)
flat_maybe_name None d = flat_none
flat_maybe_name (Some n) d = flat_name _ [] refl flat_none

flat_func_word : (f : FuncForm) (at : ℕ) (o : Option Named) (d : ℕ) → Flat (Print.func_word f at o d)
flat_func_word f at o d = either (is_arrow_form f)
  where
    either : (b : Bool) → Flat (if b then [] else placed (kind.Word word.FUNCTION) at d ∷ Print.print_name o d)
    either true = flat_none
    either false = flat_word _ word.FUNCTION (Print.print_name o d) refl (flat_maybe_name o d)

flat_arrow : (f : FuncForm) (d : ℕ) → Flat (Print.arrow_pieces f d)
flat_arrow f d = either (is_arrow_form f)
  where
    either : (b : Bool) → Flat (if b then glued_mark mark.ARROW d ∷ [] else [])
    either true = flat_mark _ mark.ARROW [] refl (omega arith) refl flat_none
    either false = flat_none

flat_bare : (m : Bodies) (f : FuncForm) (start q d : ℕ) (ps : Params) (comma : Bool) → BareIf true f start ps comma → Flat (Print.print_params m q d ps)
flat_bare m form.Arrow start q d (more_params n no_expr false no_params) comma b = flat_name _ [] refl flat_none
flat_bare m form.Arrow start q d no_params comma b = absurd b
flat_bare m form.Arrow start q d (more_params n (some_expr e) r ps) comma b = absurd b
flat_bare m form.Arrow start q d (more_params n no_expr true ps) comma b = absurd b
flat_bare m form.Arrow start q d (more_params n no_expr false (more_params n2 v2 r2 ps)) comma b = absurd b
flat_bare m form.Script start q d ps comma b = absurd b
flat_bare m form.Function start q d ps comma b = absurd b
flat_bare m form.Method start q d ps comma b = absurd b
flat_bare m form.Getter start q d ps comma b = absurd b
flat_bare m form.Setter start q d ps comma b = absurd b

flat_parenthesized : (m : Bodies) (f : FuncForm) (bare : Bool) (start q d : ℕ) (ps : Params) (comma : Bool) → BareIf bare f start ps comma → Nested (Print.print_params m q d ps) → Flat (Print.parenthesized bare start d (Print.print_params m q d ps) comma)
flat_parenthesized m f true start q d ps comma b x = flat_bare m f start q d ps comma b
flat_parenthesized m f false start q d ps comma b x = with_comma _ _ (Print.print_params m q d ps) comma d (flat_parens _ _ (Print.print_params m q d ps ++ comma_piece comma d) [] refl refl (nested_append x (comma_nested comma d)) flat_none)

-- the ranks of parts

callee_low : (a : MaybeArgs) (r : ℕ) → r ≤ callee_rank a → r ≤ 20
callee_low no_args r h = omega (arith, h)
callee_low (some_args es comma) r h = omega (arith, h)

operand_low : (n r : ℕ) → r ≤ operand_rank n → n < 12 → r ≤ 20
operand_low n r h k = either (nat_eq n 11) h
  where
    either : (b : Bool) → r ≤ (if b then 15 else 6 + n) → r ≤ 20
    either true e = omega (arith, e)
    either false e = omega (arith, e, k)

first_low : (n r : ℕ) → n < 12 → r ≤ first_rank n → r ≤ 20
first_low zero r l h = omega (arith, h)
first_low (suc n) r l h = operand_low (suc n) r h l

rest_low : (n : ℕ) (os : Operands) (r : ℕ) → n < 12 → r ≤ rest_rank n os → r ≤ 20
rest_low zero no_operands r l h = omega (arith, h)
rest_low zero (more_operands op is_word value rest) r l h = omega (arith, h)
rest_low (suc n) os r l h = operand_low (suc n) r h l

mutual
  pub flat_expr : (m : Bodies) (d : ℕ) (e : Expr) → rank e ≤ 20 → Proper m e → Flat (Print.print m d e)
  flat_expr m d (tree.This at) k p = flat_word _ word.THIS [] refl flat_none
  flat_expr m d (tree.Name n) k p = flat_name _ [] refl flat_none
  flat_expr m d (tree.Null at) k p = flat_word _ word.NULL [] refl flat_none
  flat_expr m d (tree.True at) k p = flat_word _ word.TRUE [] refl flat_none
  flat_expr m d (tree.False at) k p = flat_word _ word.FALSE [] refl flat_none
  flat_expr m d (tree.Number at value) k p = flat_cons _ [] kind.Number refl (λ os. refl) refl flat_none
  flat_expr m d (tree.Str at end w) k p = flat_cons _ [] kind.Str refl (λ os. refl) refl flat_none
  flat_expr m d (tree.Template at first no_parts) k p = flat_cons _ [] kind.TemplateWhole refl (λ os. refl) refl flat_none
  flat_expr m d (tree.Template at first (more_parts value behind rest)) k p = head_flat first at d _ (parts_flat m d value behind rest p)
  flat_expr m d (tree.Array at items comma) k p = with_comma _ _ (Print.print_items m d items) comma d (flat_brackets _ _ (Print.print_items m d items ++ comma_piece comma d) [] refl refl (nested_append (nested_items m d items p.1) (comma_nested comma d)) flat_none)
  flat_expr m d (tree.Object at props comma) k p = with_comma _ _ (Print.print_props m d props) comma d (flat_braces _ _ (Print.print_props m d props ++ comma_piece comma d) [] refl refl (nested_append (nested_props m d props p.1) (comma_nested comma d)) flat_none)
  flat_expr m d (tree.Func at f) k p = flat_func m d at f p.1
  flat_expr m d (tree.Paren at inner) k p = flat_parens _ _ (Print.print m (suc d) inner) [] refl refl (nested_expr m (suc d) inner p) flat_none
  flat_expr m d (tree.Chain head tails) k p = flat_append (flat_expr m d head (omega (arith, p.0)) p.1) (flat_tails m d tails p.3)
  flat_expr m d (tree.New at callee args) k p = flat_word _ word.NEW _ refl (flat_append (flat_expr m (suc d) callee (callee_low args (rank callee) p.0) p.1) (flat_args m (suc d) args p.2))
  flat_expr m d (tree.Unary at op of is_word) k p = flat_cons _ _ (op_kind op is_word) refl (neutral_op op is_word (prefix_six op is_word p.0)) (prefix_no_comma op is_word p.0) (flat_expr m (suc d) of (omega (arith, p.1)) p.2)
  flat_expr m d (tree.Update at op true of) k p = flat_mark _ op _ refl (between_six mark.INCREMENT mark.DECREMENT op (omega arith) p.0) (not_comma is_update_op op p.0 refl) (flat_expr m (suc d) of (omega (arith, p.1)) p.2)
  flat_expr m d (tree.Update at op false of) k p = flat_append (flat_kind (Print.print m d of) (from at (Print.print m d of)) (unfrom at (Print.print m d of)) (flat_expr m d of (omega (arith, p.1)) p.2)) (flat_mark _ op [] refl (between_six mark.INCREMENT mark.DECREMENT op (omega arith) p.0) (not_comma is_update_op op p.0 refl) flat_none)
  flat_expr m d (tree.Binary first rest) k p = flat_append (flat_expr m d first (first_low (operands_level rest) (rank first) p.1 p.2) p.3) (flat_operands m d (operands_level rest) p.1 rest p.4)
  flat_expr m d (tree.Cond test then_value else_value) k p = flat_append (flat_expr m d test (omega (arith, p.0)) p.1) (flat_mark _ mark.QUESTION _ refl (omega arith) refl (flat_append (flat_expr m (suc d) then_value p.2 p.3) (flat_mark _ mark.COLON _ refl (omega arith) refl (flat_expr m (suc d) else_value p.4 p.5))))
  flat_expr m d (tree.Assign op target value) k p = flat_append (flat_expr m d target (omega (arith, p.1)) p.2) (flat_mark _ op _ refl (between_six mark.ASSIGN mark.BIT_XOR_ASSIGN op (omega arith) p.0) (not_comma is_assign_op op p.0 refl) (flat_expr m (suc d) value p.3 p.4))
  flat_expr m d (tree.Comma items) k p = absurd (omega (arith, k))

  flat_operands : (m : Bodies) (d n : ℕ) → n < 12 → (os : Operands) → ProperOperands m n os → Flat (Print.print_operands m d os)
  flat_operands m d n l no_operands p = flat_none
  flat_operands m d n l (more_operands op is_word value rest) p = flat_cons _ _ (op_kind op is_word) refl (neutral_op op is_word (level_six op is_word n p.0 l)) (level_no_comma op is_word (omega (arith, p.0, l))) (flat_append (flat_expr m d value (rest_low n rest (rank value) l p.1) p.2) (flat_operands m d n l rest p.3))

  flat_func : (m : Bodies) (d at : ℕ) (f : Function) → ProperFunction m f → Flat (Print.print_func m d at f)
  flat_func m d at (function form start end name ps comma bare body) p = flat_append (flat_func_word form at name d) (flat_append (flat_parenthesized m form bare start (Print.param_depth form bare d) d ps comma p.2 (nested_params m (Print.param_depth form bare d) d ps p.3)) (flat_append (flat_arrow form d) (flat_body m d end form body p.4)))

  flat_body : (m : Bodies) (d end : ℕ) (form : FuncForm) (b : Body) → ProperBody m form b → Flat (Print.print_body m d end b)
  flat_body whole d end form (tree.BracedBody items) p = flat_braces _ _ (Print.print_stmts whole d items) [] refl refl (nested_stmts whole d true items p) flat_none
  flat_body passed d end form (tree.BracedBody items) p = flat_braces _ _ _ [] refl refl nested_pass flat_none
  flat_body m d end form (tree.ShortBody value) p = flat_kind (Print.print m (suc d) value) (until end (Print.print m (suc d) value)) (ununtil end (Print.print m (suc d) value)) (flat_expr m (suc d) value p.1 p.3)
