-- The lexemes of each part of a proper tree have their brackets matched.
use Rattle.std.proofs.Common.{◌≡◌, ℕ, suc, ◌≤◌, ◌<◌, List, [], ◌∷◌, ◌++◌, refl, ap, ◌∙◌, arith, append_assoc, Bool, true, false, Some}
use Rattle.script_grammar.specs.declared.token.Kind.TheVariants as kind
use Rattle.script_grammar.specs.declared.token.FuncForm.{FuncForm}
use Rattle.script_grammar.specs.declared.token.Decl.{Decl}
use Rattle.script_grammar.specs.declared.token.mark.TheConstants as mark
use Rattle.script_grammar.specs.declared.token.word.TheConstants as word
use Rattle.script_grammar.specs.Lexeme.{Lexeme}
use Rattle.script_grammar.specs.Kinds.{op_kind, decl_word}
use Rattle.script_grammar.specs.Tree.{Named, Expr, Exprs, no_exprs, more_exprs, MaybeExpr, no_expr, some_expr, MaybeArgs, no_args, some_args, Parts, no_parts, more_parts, Items, no_items, more_items, Operands, no_operands, more_operands, Tail, Tails, no_tails, more_tails, Key, Prop, Props, no_props, more_props, Function, function, Params, no_params, more_params, Body, Binds, no_binds, more_binds, Init, Each, Clauses, no_clauses, more_clauses, Stmt, Stmts, no_stmts, more_stmts, MaybeStmt, no_stmt, some_stmt}
use Rattle.script_grammar.specs.Tree as tree
use Rattle.script_grammar.specs.Pieces.{Bodies, whole, passed, Piece, At, Fits, Opener, template, open_at_end, comma_piece, mark_piece, template_piece, Exactly, open_behind, text_piece, Slot, word_piece}
use Rattle.script_grammar.specs.Script.{OwnProper, ProperAlone, print_braced, print_own, print_alone}
use Rattle.script_grammar.specs.Print
use Rattle.script_grammar.specs.Proper.{Proper, ProperExprs, ProperMaybe, ProperOption, ProperArgs, ProperParts, ProperItems, ProperOperands, ProperTails, ProperTail, ProperKey, ProperProp, ProperProps, ProperFunction, ProperParams, ProperBody, ProperBinds, ProperInit, ProperEach, ProperClauses, ProperStmts, ProperElse, ProperStmt, operands_level}
use Rattle.grammar_parser_laws.proofs.Fitting.{fits_part}
use Rattle.grammar_parser_laws.proofs.Nested.{Nested, open_step, open_append, nested_none, nested_append, nested_same, nested_cons, nested_any, nested_pass, neutral_op, prefix_six, between_six, level_six, neutral_mark, mark_cons, comma_nested, semi_nested, parens, brackets, braces, from_nested, glue_nested, until_nested, word_cons, name_cons, label_nested, catch_nested, maybe_name_nested, ellipsis_nested, func_word_nested, arrow_nested, parenthesized_nested}

-- the parts of a template, after its head

record NestedParts (ps : List Piece) : Type 0 where
  at : (w : List Lexeme) (n : Lexeme) → Fits ps w n → (os : List Opener) → open_at_end (template ∷ os) w ≡ Some os

tail_behind : (behind : List ℕ) (d : ℕ) → NestedParts (template_piece kind.TemplateTail behind d ∷ [])
tail_behind behind d = record { at = tail_at }
  where
    tail_at : (w : List Lexeme) (n : Lexeme) → Fits (template_piece kind.TemplateTail behind d ∷ []) w n → (os : List Opener) → open_at_end (template ∷ os) w ≡ Some os
    tail_at [] n h os = absurd h
    tail_at (t ∷ w) n h os = open_step (template ∷ os) os t w (ap (λ z. open_behind z (template ∷ os)) h.0.kind) ∙ nested_none.at w n h.1 os

middle_behind : (behind : List ℕ) (d : ℕ) (rest : List Piece) → NestedParts rest → NestedParts (template_piece kind.TemplateMiddle behind d ∷ rest)
middle_behind behind d rest x = record { at = middle_at }
  where
    middle_at : (w : List Lexeme) (n : Lexeme) → Fits (template_piece kind.TemplateMiddle behind d ∷ rest) w n → (os : List Opener) → open_at_end (template ∷ os) w ≡ Some os
    middle_at [] n h os = absurd h
    middle_at (t ∷ w) n h os = open_step (template ∷ os) (template ∷ os) t w (ap (λ z. open_behind z (template ∷ os)) h.0.kind) ∙ x.at w n h.1 os

parts_append : {a b : List Piece} → Nested a → NestedParts b → NestedParts (a ++ b)
parts_append {a = a} {b = b} x y = record { at = λ w n h os. let p = fits_part a b w n h in ap (λ z. open_at_end (template ∷ os) z) p.split ∙ open_append p.front (template ∷ os) (template ∷ os) p.back (x.at p.front _ p.first (template ∷ os)) ∙ y.at p.back n p.second os }

template_head : (first : List ℕ) (at d : ℕ) (rest : List Piece) → NestedParts rest → Nested (text_piece kind.TemplateHead first at d ∷ rest)
template_head first at d rest x = record { at = head_at }
  where
    head_at : (w : List Lexeme) (n : Lexeme) → Fits (text_piece kind.TemplateHead first at d ∷ rest) w n → (os : List Opener) → open_at_end os w ≡ Some os
    head_at [] n h os = absurd h
    head_at (t ∷ w) n h os = open_step os (template ∷ os) t w (ap (λ z. open_behind z os) h.0.kind) ∙ x.at w n h.1 os

bracketed : (s c : Slot) (inner : List Piece) (comma : Bool) (d : ℕ) → s.kind ≡ Exactly (kind.Mark mark.OPEN_BRACKET) → c.kind ≡ Exactly (kind.Mark mark.CLOSE_BRACKET) → Nested inner → Nested (At s ∷ (inner ++ (comma_piece comma d ++ At c ∷ [])))
bracketed s c inner comma d e f x = nested_same (ap (λ y. At s ∷ y) (append_assoc inner (comma_piece comma d) (At c ∷ []))) (brackets s c (inner ++ comma_piece comma d) [] e f (nested_append x (comma_nested comma d)) nested_none)

braced : (s c : Slot) (inner : List Piece) (comma : Bool) (d : ℕ) → s.kind ≡ Exactly (kind.Mark mark.OPEN_BRACE) → c.kind ≡ Exactly (kind.Mark mark.CLOSE_BRACE) → Nested inner → Nested (At s ∷ (inner ++ (comma_piece comma d ++ At c ∷ [])))
braced s c inner comma d e f x = nested_same (ap (λ y. At s ∷ y) (append_assoc inner (comma_piece comma d) (At c ∷ []))) (braces s c (inner ++ comma_piece comma d) [] e f (nested_append x (comma_nested comma d)) nested_none)

parened : (s c : Slot) (inner : List Piece) (comma : Bool) (d : ℕ) → s.kind ≡ Exactly (kind.Mark mark.OPEN_PAREN) → c.kind ≡ Exactly (kind.Mark mark.CLOSE_PAREN) → Nested inner → Nested (At s ∷ (inner ++ (comma_piece comma d ++ At c ∷ [])))
parened s c inner comma d e f x = nested_same (ap (λ y. At s ∷ y) (append_assoc inner (comma_piece comma d) (At c ∷ []))) (parens s c (inner ++ comma_piece comma d) [] e f (nested_append x (comma_nested comma d)) nested_none)

six_comma : 6 ≤ mark.COMMA
six_comma = omega arith

decl_nested : (x : Decl) (d : ℕ) (rest : List Piece) → Nested rest → Nested (word_piece (decl_word x) d ∷ rest)
decl_nested x d rest h = word_cons _ (decl_word x) rest refl h

abbrev AreNested : Bodies → ℕ → Parts → Type 0
AreNested m d no_parts = Unit {0}
AreNested m d (more_parts value behind rest) = NestedParts (Print.print_parts m d (more_parts value behind rest))

mutual
  pub nested_expr : (m : Bodies) (d : ℕ) (e : Expr) → Proper m e → Nested (Print.print m d e)
  nested_expr m d (tree.This at) p = word_cons _ word.THIS [] refl nested_none
  nested_expr m d (tree.Name n) p = name_cons _ [] refl nested_none
  nested_expr m d (tree.Null at) p = word_cons _ word.NULL [] refl nested_none
  nested_expr m d (tree.True at) p = word_cons _ word.TRUE [] refl nested_none
  nested_expr m d (tree.False at) p = word_cons _ word.FALSE [] refl nested_none
  nested_expr m d (tree.Number at value) p = nested_cons _ [] kind.Number refl (λ os. refl) nested_none
  nested_expr m d (tree.Str at end w) p = nested_cons _ [] kind.Str refl (λ os. refl) nested_none
  nested_expr m d (tree.Template at first no_parts) p = nested_cons _ [] kind.TemplateWhole refl (λ os. refl) nested_none
  nested_expr m d (tree.Template at first (more_parts value behind rest)) p = template_head first at d _ (nested_parts m d (more_parts value behind rest) p)
  nested_expr m d (tree.Array at items comma) p = bracketed _ _ (Print.print_items m d items) comma d refl refl (nested_items m d items p.1)
  nested_expr m d (tree.Object at props comma) p = braced _ _ (Print.print_props m d props) comma d refl refl (nested_props m d props p.1)
  nested_expr m d (tree.Func at f) p = nested_func m d at f p.1
  nested_expr m d (tree.Paren at inner) p = parens _ _ (Print.print m (suc d) inner) [] refl refl (nested_expr m (suc d) inner p) nested_none
  nested_expr m d (tree.Chain head tails) p = nested_append (nested_expr m d head p.1) (nested_tails m d tails p.3)
  nested_expr m d (tree.New at callee args) p = word_cons _ word.NEW _ refl (nested_append (nested_expr m (suc d) callee p.1) (nested_args m (suc d) args p.2))
  nested_expr m d (tree.Unary at op of is_word) p = nested_cons _ _ (op_kind op is_word) refl (neutral_op op is_word (prefix_six op is_word p.0)) (nested_expr m (suc d) of p.2)
  nested_expr m d (tree.Update at op true of) p = nested_cons _ _ (kind.Mark op) refl (neutral_mark op (between_six mark.INCREMENT mark.DECREMENT op (omega arith) p.0)) (nested_expr m (suc d) of p.2)
  nested_expr m d (tree.Update at op false of) p = nested_append (from_nested (Print.print m d of) at (nested_expr m d of p.2)) (nested_cons _ [] (kind.Mark op) refl (neutral_mark op (between_six mark.INCREMENT mark.DECREMENT op (omega arith) p.0)) nested_none)
  nested_expr m d (tree.Binary first rest) p = nested_append (nested_expr m d first p.3) (nested_operands m d (operands_level rest) p.1 rest p.4)
  nested_expr m d (tree.Cond test then_value else_value) p = nested_append (nested_expr m d test p.1) (mark_cons mark.QUESTION d _ (omega arith) (nested_append (nested_expr m (suc d) then_value p.3) (mark_cons mark.COLON d _ (omega arith) (nested_expr m (suc d) else_value p.5))))
  nested_expr m d (tree.Assign op target value) p = nested_append (nested_expr m d target p.2) (mark_cons op d _ (between_six mark.ASSIGN mark.BIT_XOR_ASSIGN op (omega arith) p.0) (nested_expr m (suc d) value p.4))
  nested_expr m d (tree.Comma items) p = nested_list m (Print.above d) items p.1

  pub nested_list : (m : Bodies) (d : ℕ) (es : Exprs) → ProperExprs m es → Nested (Print.print_list m d es)
  nested_list m d no_exprs p = nested_none
  nested_list m d (more_exprs e es) p = nested_append (nested_expr m (suc d) e p.1) (nested_more m d es p.2)

  nested_more : (m : Bodies) (d : ℕ) (es : Exprs) → ProperExprs m es → Nested (Print.print_more m d es)
  nested_more m d no_exprs p = nested_none
  nested_more m d (more_exprs e es) p = mark_cons mark.COMMA d _ (omega arith) (nested_append (nested_expr m (suc d) e p.1) (nested_more m d es p.2))

  nested_maybe : (m : Bodies) (d : ℕ) (o : MaybeExpr) → ProperMaybe m o → Nested (Print.print_maybe m d o)
  nested_maybe m d no_expr p = nested_none
  nested_maybe m d (some_expr e) p = nested_expr m d e p.1

  nested_option : (m : Bodies) (d : ℕ) (o : MaybeExpr) → ProperOption m o → Nested (Print.print_maybe m d o)
  nested_option m d no_expr p = nested_none
  nested_option m d (some_expr e) p = nested_expr m d e p

  nested_args : (m : Bodies) (d : ℕ) (a : MaybeArgs) → ProperArgs m a → Nested (Print.print_args m d a)
  nested_args m d no_args p = nested_none
  nested_args m d (some_args es comma) p = parened _ _ (Print.print_list m d es) comma d refl refl (nested_list m d es p.1)

  nested_parts : (m : Bodies) (d : ℕ) (ps : Parts) → ProperParts m ps → AreNested m d ps
  nested_parts m d no_parts p = tt
  nested_parts m d (more_parts value behind no_parts) p = parts_append (nested_expr m (suc d) value p.0) (tail_behind behind d)
  nested_parts m d (more_parts value behind (more_parts v b r)) p = parts_append (nested_expr m (suc d) value p.0) (middle_behind behind d _ (nested_parts m d (more_parts v b r) p.1))

  pub nested_items : (m : Bodies) (d : ℕ) (is : Items) → ProperItems m is → Nested (Print.print_items m d is)
  nested_items m d no_items p = nested_none
  nested_items m d (more_items i is) p = nested_append (nested_maybe m (suc d) i p.0) (nested_more_items m d is p.1)

  nested_more_items : (m : Bodies) (d : ℕ) (is : Items) → ProperItems m is → Nested (Print.print_more_items m d is)
  nested_more_items m d no_items p = nested_none
  nested_more_items m d (more_items i is) p = mark_cons mark.COMMA d _ (omega arith) (nested_append (nested_maybe m (suc d) i p.0) (nested_more_items m d is p.1))

  nested_operands : (m : Bodies) (d n : ℕ) → n < 12 → (os : Operands) → ProperOperands m n os → Nested (Print.print_operands m d os)
  nested_operands m d n l no_operands p = nested_none
  nested_operands m d n l (more_operands op is_word value rest) p = nested_cons _ _ (op_kind op is_word) refl (neutral_op op is_word (level_six op is_word n p.0 l)) (nested_append (nested_expr m d value p.2) (nested_operands m d n l rest p.3))

  nested_tails : (m : Bodies) (d : ℕ) (ts : Tails) → ProperTails m ts → Nested (Print.print_tails m d ts)
  nested_tails m d no_tails p = nested_none
  nested_tails m d (more_tails t ts) p = nested_append (nested_tail m d t p.0) (nested_tails m d ts p.1)

  nested_tail : (m : Bodies) (d : ℕ) (t : Tail) → ProperTail m t → Nested (Print.print_tail m d t)
  nested_tail m d (tree.Dot w) p = mark_cons mark.DOT d _ (omega arith) (nested_any _ [] refl nested_none)
  nested_tail m d (tree.Index e) p = brackets _ _ (Print.print m (suc d) e) [] refl refl (nested_expr m (suc d) e p) nested_none
  nested_tail m d (tree.Call es comma) p = parened _ _ (Print.print_list m d es) comma d refl refl (nested_list m d es p.1)

  nested_key : (m : Bodies) (d : ℕ) (k : Key) → ProperKey m k → Nested (Print.print_key m d k)
  nested_key m d (tree.WordKey n) p = nested_any _ [] refl nested_none
  nested_key m d (tree.StrKey n) p = nested_cons _ [] kind.Str refl (λ os. refl) nested_none
  nested_key m d (tree.NumberKey at value) p = nested_cons _ [] kind.Number refl (λ os. refl) nested_none
  nested_key m d (tree.ComputedKey e) p = brackets _ _ (Print.print m (suc d) e) [] refl refl (nested_expr m (suc d) e p.1) nested_none

  nested_prop : (m : Bodies) (d : ℕ) (x : Prop) → ProperProp m x → Nested (Print.print_prop m d x)
  nested_prop m d (tree.Short n) p = name_cons _ [] refl nested_none
  nested_prop m d (tree.Pair key value) p = nested_append (nested_key m d key p.0) (mark_cons mark.COLON d _ (omega arith) (nested_expr m (suc d) value p.2))
  nested_prop m d (tree.Method key f) p = nested_append (nested_key m d key p.0) (nested_function m d f p.2)
  nested_prop m d (tree.Get key f) p = name_cons _ _ refl (nested_append (nested_key m d key p.0) (nested_function m d f p.2))
  nested_prop m d (tree.Set key f) p = name_cons _ _ refl (nested_append (nested_key m d key p.0) (nested_function m d f p.2))

  pub nested_props : (m : Bodies) (d : ℕ) (ps : Props) → ProperProps m ps → Nested (Print.print_props m d ps)
  nested_props m d no_props p = nested_none
  nested_props m d (more_props x xs) p = nested_append (nested_prop m d x p.0) (nested_more_props m d xs p.1)

  nested_more_props : (m : Bodies) (d : ℕ) (ps : Props) → ProperProps m ps → Nested (Print.print_more_props m d ps)
  nested_more_props m d no_props p = nested_none
  nested_more_props m d (more_props x xs) p = mark_cons mark.COMMA d _ (omega arith) (nested_append (nested_prop m d x p.0) (nested_more_props m d xs p.1))

  nested_func : (m : Bodies) (d at : ℕ) (f : Function) → ProperFunction m f → Nested (Print.print_func m d at f)
  nested_func m d at (function form start end name ps comma bare body) p = nested_append (func_word_nested form at name d) (nested_append (parenthesized_nested bare start d _ comma (nested_params m (Print.param_depth form bare d) d ps p.3)) (nested_append (arrow_nested form d) (nested_body m d end form body p.4)))

  pub nested_function : (m : Bodies) (d : ℕ) (f : Function) → ProperFunction m f → Nested (Print.print_function m d f)
  nested_function m d (function form start end name ps comma bare body) p = nested_append (parenthesized_nested bare start d _ comma (nested_params m (Print.param_depth form bare d) d ps p.3)) (nested_append (arrow_nested form d) (nested_body m d end form body p.4))

  nested_declared : (m : Bodies) (d : ℕ) (f : Function) → ProperFunction m f → Nested (Print.print_declared m d f)
  nested_declared m d (function form start end name ps comma bare body) p = word_cons _ word.FUNCTION _ refl (nested_append (maybe_name_nested name d) (nested_append (parenthesized_nested bare start d _ comma (nested_params m (Print.param_depth form bare d) d ps p.3)) (nested_append (arrow_nested form d) (nested_body m d end form body p.4))))

  pub nested_params : (m : Bodies) (q d : ℕ) (ps : Params) → ProperParams m ps → Nested (Print.print_params m q d ps)
  nested_params m q d no_params p = nested_none
  nested_params m q d (more_params name value rest ps) p = nested_append (ellipsis_nested rest q) (name_cons _ _ refl (nested_append (nested_initializer m q value p.0) (nested_more_params m q d ps p.1)))

  nested_more_params : (m : Bodies) (q d : ℕ) (ps : Params) → ProperParams m ps → Nested (Print.print_more_params m q d ps)
  nested_more_params m q d no_params p = nested_none
  nested_more_params m q d (more_params name value rest ps) p = mark_cons mark.COMMA d _ (omega arith) (nested_append (ellipsis_nested rest q) (name_cons _ _ refl (nested_append (nested_initializer m q value p.0) (nested_more_params m q d ps p.1))))

  nested_initializer : (m : Bodies) (d : ℕ) (o : MaybeExpr) → ProperMaybe m o → Nested (Print.print_initializer m d o)
  nested_initializer m d no_expr p = nested_none
  nested_initializer m d (some_expr e) p = mark_cons mark.ASSIGN d _ (omega arith) (nested_expr m (suc d) e p.1)

  pub nested_body : (m : Bodies) (d end : ℕ) (form : FuncForm) (b : Body) → ProperBody m form b → Nested (Print.print_body m d end b)
  nested_body whole d end form (tree.BracedBody items) p = braces _ _ (Print.print_stmts whole d items) [] refl refl (nested_stmts whole d true items p) nested_none
  nested_body passed d end form (tree.BracedBody items) p = braces _ _ _ [] refl refl nested_pass nested_none
  nested_body whole d end form (tree.ShortBody value) p = until_nested end (Print.print whole (suc d) value) (nested_expr whole (suc d) value p.3)
  nested_body passed d end form (tree.ShortBody value) p = until_nested end (Print.print passed (suc d) value) (nested_expr passed (suc d) value p.3)

  nested_binds : (m : Bodies) (d : ℕ) (bs : Binds) → ProperBinds m bs → Nested (Print.print_binds m d bs)
  nested_binds m d no_binds p = nested_none
  nested_binds m d (more_binds name value bs) p = name_cons _ _ refl (nested_append (nested_initializer m d value p.0) (nested_more_binds m d bs p.1))

  nested_more_binds : (m : Bodies) (d : ℕ) (bs : Binds) → ProperBinds m bs → Nested (Print.print_more_binds m d bs)
  nested_more_binds m d no_binds p = nested_none
  nested_more_binds m d (more_binds name value bs) p = mark_cons mark.COMMA d _ (omega arith) (name_cons _ _ refl (nested_append (nested_initializer m d value p.0) (nested_more_binds m d bs p.1)))

  pub nested_stmts : (m : Bodies) (d : ℕ) (i : Bool) (ss : Stmts) → ProperStmts m i ss → Nested (Print.print_stmts m d ss)
  nested_stmts m d i no_stmts p = nested_none
  nested_stmts m d i (more_stmts s ss) p = nested_append (nested_stmt m (suc d) i s p.0) (nested_stmts m d i ss p.1)

  nested_else : (m : Bodies) (d : ℕ) (i : Bool) (o : MaybeStmt) → ProperElse m i o → Nested (Print.print_else m d o)
  nested_else m d i no_stmt p = nested_none
  nested_else m d i (some_stmt s) p = word_cons _ word.ELSE _ refl (nested_stmt m (suc d) i s p.1)

  nested_init : (m : Bodies) (d : ℕ) (x : Init) → ProperInit m x → Nested (Print.print_init m d x)
  nested_init m d tree.NoInit p = nested_none
  nested_init m d (tree.ValueInit e) p = nested_expr m (suc d) e p.1
  nested_init m d (tree.BindsInit decl binds) p = decl_nested decl d _ (nested_binds m d binds p.2)

  nested_each : (m : Bodies) (d : ℕ) (x : Each) → ProperEach m x → Nested (Print.print_each m d x)
  nested_each m d (tree.TargetEach e) p = nested_expr m (suc d) e p.1
  nested_each m d (tree.BindEach decl name) p = decl_nested decl d _ (name_cons _ [] refl nested_none)

  nested_clauses : (m : Bodies) (d : ℕ) (i : Bool) (cs : Clauses) → ProperClauses m i cs → Nested (Print.print_clauses m d cs)
  nested_clauses m d i no_clauses p = nested_none
  nested_clauses m d i (more_clauses test items cs) p = nested_append (nested_test m d test p.0) (mark_cons mark.COLON d _ (omega arith) (nested_append (nested_stmts m d i items p.1) (nested_clauses m d i cs p.2)))

  nested_test : (m : Bodies) (d : ℕ) (o : MaybeExpr) → ProperOption m o → Nested (Print.print_test m d o)
  nested_test m d no_expr p = word_cons _ word.DEFAULT [] refl nested_none
  nested_test m d (some_expr e) p = word_cons _ word.CASE _ refl (nested_expr m (suc d) e p)

  pub nested_stmt : (m : Bodies) (d : ℕ) (i : Bool) (s : Stmt) → ProperStmt m i s → Nested (Print.print_stmt m d s)
  nested_stmt m d i (tree.Block items) p = braces _ _ (Print.print_stmts m d items) [] refl refl (nested_stmts m d i items p) nested_none
  nested_stmt m d i tree.Empty p = mark_cons mark.SEMICOLON d [] (omega arith) nested_none
  nested_stmt m d i (tree.Debugger semi) p = word_cons _ word.DEBUGGER _ refl (semi_nested _ semi d)
  nested_stmt m d i (tree.Binding decl binds semi) p = decl_nested decl d _ (nested_append (nested_binds m d binds p.1) (semi_nested _ semi d))
  nested_stmt m d i (tree.Value e semi) p = nested_append (nested_expr m (suc d) e p.2) (semi_nested _ semi d)
  nested_stmt m d i (tree.If test then_stmt else_stmt) p = word_cons _ word.IF _ refl (parens _ _ (Print.print m (suc d) test) _ refl refl (nested_expr m (suc d) test p.0) (nested_append (nested_stmt m (suc d) i then_stmt p.2) (nested_else m d i else_stmt p.4)))
  nested_stmt m d i (tree.Do body test semi) p = word_cons _ word.DO _ refl (nested_append (nested_stmt m (suc d) i body p.1) (word_cons _ word.WHILE _ refl (parens _ _ (Print.print m (suc d) test) _ refl refl (nested_expr m (suc d) test p.2) (semi_nested _ semi d))))
  nested_stmt m d i (tree.While test body) p = word_cons _ word.WHILE _ refl (parens _ _ (Print.print m (suc d) test) _ refl refl (nested_expr m (suc d) test p.0) (nested_stmt m (suc d) i body p.2))
  nested_stmt m d i (tree.For init test update body) p = word_cons _ word.FOR _ refl (nested_same (ap (λ y. mark_piece mark.OPEN_PAREN d ∷ y) (append_assoc (Print.print_init m d init) (mark_piece mark.SEMICOLON d ∷ (Print.print_maybe m (suc d) test ++ (mark_piece mark.SEMICOLON d ∷ Print.print_maybe m (suc d) update))) (mark_piece mark.CLOSE_PAREN d ∷ Print.print_stmt m (suc d) body) ∙ ap (λ y. Print.print_init m d init ++ (mark_piece mark.SEMICOLON d ∷ y)) (append_assoc (Print.print_maybe m (suc d) test) (mark_piece mark.SEMICOLON d ∷ Print.print_maybe m (suc d) update) (mark_piece mark.CLOSE_PAREN d ∷ Print.print_stmt m (suc d) body))))
      (parens _ _ (Print.print_init m d init ++ (mark_piece mark.SEMICOLON d ∷ (Print.print_maybe m (suc d) test ++ (mark_piece mark.SEMICOLON d ∷ Print.print_maybe m (suc d) update)))) _ refl refl
      (nested_append (nested_init m d init p.0) (mark_cons mark.SEMICOLON d _ (omega arith) (nested_append (nested_option m (suc d) test p.1) (mark_cons mark.SEMICOLON d _ (omega arith) (nested_option m (suc d) update p.2)))))
      (nested_stmt m (suc d) i body p.4)))
  nested_stmt m d i (tree.ForIn each over body) p = word_cons _ word.FOR _ refl (nested_same (ap (λ y. mark_piece mark.OPEN_PAREN d ∷ y) (append_assoc (Print.print_each m d each) (word_piece word.IN d ∷ Print.print m (suc d) over) (mark_piece mark.CLOSE_PAREN d ∷ Print.print_stmt m (suc d) body)))
      (parens _ _ (Print.print_each m d each ++ (word_piece word.IN d ∷ Print.print m (suc d) over)) _ refl refl (nested_append (nested_each m d each p.0) (word_cons _ word.IN _ refl (nested_expr m (suc d) over p.1))) (nested_stmt m (suc d) i body p.3)))
  nested_stmt m d i (tree.Continue at label semi) p = word_cons _ word.CONTINUE _ refl (nested_append (label_nested label d) (semi_nested _ semi d))
  nested_stmt m d i (tree.Break at label semi) p = word_cons _ word.BREAK _ refl (nested_append (label_nested label d) (semi_nested _ semi d))
  nested_stmt m d i (tree.Return value semi) p = word_cons _ word.RETURN _ refl (nested_append (glue_nested (Print.print_maybe m (suc d) value) (nested_option m (suc d) value p.1)) (semi_nested _ semi d))
  nested_stmt m d i (tree.Throw value semi) p = word_cons _ word.THROW _ refl (nested_append (glue_nested (Print.print m (suc d) value) (nested_expr m (suc d) value p)) (semi_nested _ semi d))
  nested_stmt m d i (tree.Switch of clauses) p = word_cons _ word.SWITCH _ refl (parens _ _ (Print.print m (suc d) of) _ refl refl (nested_expr m (suc d) of p.0) (braces _ _ (Print.print_clauses m d clauses) [] refl refl (nested_clauses m d i clauses p.2) nested_none))
  nested_stmt m d i (tree.Label name body) p = name_cons _ _ refl (mark_cons mark.COLON d _ (omega arith) (nested_stmt m (suc d) i body p.1))
  nested_stmt m d i (tree.Try body param handler) p = word_cons _ word.TRY _ refl (braces _ _ (Print.print_stmts m d body) _ refl refl (nested_stmts m d i body p.0) (word_cons _ word.CATCH _ refl (nested_append (catch_nested param d) (braces _ _ (Print.print_stmts m d handler) [] refl refl (nested_stmts m d i handler p.1) nested_none))))
  nested_stmt m d i (tree.Declared f) p = nested_declared m d f p.1

-- a braced body whose own statements are read
pub nested_own : (m : Bodies) (d end : ℕ) (items : Stmts) → ProperStmts m true items → Nested (print_braced m d end items)
nested_own m d end items p = braces _ _ (Print.print_stmts m d items) [] refl refl (nested_stmts m d true items p) nested_none

-- a function alone, its own statements read

own_nested : (m : Bodies) (d end : ℕ) (form : FuncForm) (b : Body) → OwnProper m form b → Nested (print_own m d end b)
own_nested m d end form (tree.BracedBody items) p = nested_own m d end items p
own_nested m d end form (tree.ShortBody value) p = until_nested end (Print.print m (suc d) value) (nested_expr m (suc d) value p.3)

pub nested_alone : (m : Bodies) (d : ℕ) (f : Function) → ProperAlone m f → Nested (print_alone m d f)
nested_alone m d (function form start end name ps comma bare body) p = nested_append (parenthesized_nested bare start d _ comma (nested_params m (Print.param_depth form bare d) d ps p.3)) (nested_append (arrow_nested form d) (own_nested m d end form body p.4))
