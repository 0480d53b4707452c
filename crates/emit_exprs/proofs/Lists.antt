-- The parts of a tree that are lists, one item after the other.
use Rattle.std.proofs.Common.{◌≡◌, ℕ, nat_lt, ◌+◌, ◌<◌, ◌^◌, List, [], ◌∷◌, ◌++◌, Bool, true, false, Option, map, option_map, drop, length, length-drop, true≢false, get_or, refl, sym, ◌∙◌, ap, subst, append_assoc, arith, zero-add, if◌then◌else◌}
use Rattle.std.proofs.lemmas.Bool.{ltb_from_iff}
use Rattle.script_grammar.specs.Tree.{Stmts, more_exprs, more_parts, more_items, more_tails, more_props}
use Rattle.script_grammar.specs.TreeLists as part
use Rattle.script_grammar.specs.TreeLists.{exprs_of, items_of, maybe_expr_of, operands_of, parts_of, tails_of, props_of}
use Rattle.script_grammar.specs.TreeOf.{expr_of, operand_of, part_of, tail_of, prop_of}
use Rattle.script_grammar.specs.Interpretation.{Interpretation, text_of}
use Rattle.script_grammar.specs.declared.tree.Expr.{Expr}
use Rattle.script_grammar.specs.declared.tree.Operand.{Operand}
use Rattle.script_grammar.specs.declared.tree.Tail.{Tail}
use Rattle.script_grammar.specs.declared.tree.Prop.{Prop}
use Rattle.script_grammar.specs.declared.tree.TemplatePart.{TemplatePart, out-TemplatePart}
use Rattle.script_grammar.proofs.PartEquations.{part_of-fields}
use Rattle.bytecode_buf.specs.declared.opcode.Op.TheVariants as op
use Rattle.bytecode_buf.specs.Command.{plain, counted}
use Rattle.bytecode_buf.specs.Pieces.{Code, one}
use Rattle.bytecode_buf.specs.Emits.{Emits}
use Rattle.bytecode_buf.proofs.AppendLemmas.{drop-next, emits_none, emits_both}
use Rattle.emit_exprs.specs.declared.site.Site.{Site}
use Rattle.emit_exprs.specs.declared.uses.Use.{Use}
use Rattle.emit_exprs.specs.declared.uses.Use.TheVariants.{Plainly}
use Rattle.emit_exprs.specs.Sites.{EmitsAt, scene_of, text_in}
use Rattle.emit_exprs.specs.Whole.{whole, just}
use Rattle.emit_exprs.specs.Exprs.{code_of, exprs_code, comma_code, dropping, parts_code, text_behind, items_code, item_code, items_size, args_size, tails_code, tail_code, use_before, props_code, powers}
use Rattle.emit_exprs.specs.Fitting.{ExprsFit, PartsFit, ItemsFit, TailsFit, PropsFit}
use Rattle.emit_exprs.specs.TreeCode.{at_site, Written, ExprEmits, ExprsEmit, ItemEmits, TailEmits, PropEmits}
use Rattle.emit_exprs.proofs.Writing.{written_of, Left, left_begin, left_step, left_end}

pub next_of : {A : Type 0} (xs : List A) (k : ℕ) (x : A) → k < length xs → x ≡ get_or xs k x → drop k xs ≡ x ∷ drop (k + 1) xs
next_of {A} xs k x lt is = drop-next xs k x lt ∙ ap (λ (y : A). y ∷ drop (k + 1) xs) (sym is)

-- some item is next
pub drop-at : {A : Type 0} (xs : List A) (k : ℕ) → k < length xs → (x : A) × (drop k xs ≡ x ∷ drop (k + 1) xs)
drop-at [] k lt = absurd (omega arith)
drop-at (x ∷ xs) k lt = (get_or (x ∷ xs) k x, drop-next (x ∷ xs) k x lt)

-- ---- arguments

pub record ExprsLeft (s : Site) (start now : List ℕ) (all left : List Expr) : Type 0 where
  pub loop : Left s start now (λ b. ExprsFit (exprs_of (map (expr_of (at_site s b)) all))) (λ b. ExprsFit (exprs_of (map (expr_of (at_site s b)) left))) (λ b. exprs_code (scene_of s) (exprs_of (map (expr_of (at_site s b)) all))) (λ b. exprs_code (scene_of s) (exprs_of (map (expr_of (at_site s b)) left)))

pub exprs_begin : (s : Site) (now : List ℕ) (all : List Expr) → ExprsLeft s now now all all
exprs_begin s now all = record { loop = left_begin s now _ _ }

pub exprs_next : {s : Site} {start now next : List ℕ} {all : List Expr} (left further : List Expr) (e : Expr) → left ≡ e ∷ further → ExprEmits s now next Plainly e → ExprsLeft s start now all left → ExprsLeft s start next all further
exprs_next {s} left further e is x l = record { loop = left_step x.row.code (λ b f. (subst ExprsFit (same b) f).0) (λ b f. (subst ExprsFit (same b) f).1) (λ b f. ap (exprs_code (scene_of s)) (same b)) l.loop }
  where
    same : (b : ℕ → Stmts) → exprs_of (map (expr_of (at_site s b)) left) ≡ more_exprs (expr_of (at_site s b) e) (exprs_of (map (expr_of (at_site s b)) further))
    same b = ap (λ (es : List Expr). exprs_of (map (expr_of (at_site s b)) es)) is

pub exprs_end : {s : Site} {start now : List ℕ} {all : List Expr} (left : List Expr) → left ≡ [] → ExprsLeft s start now all left → ExprsEmit s start now all
exprs_end {s} left none l = record { code = left_end (λ b. ap (λ (es : List Expr). exprs_code (scene_of s) (exprs_of (map (expr_of (at_site s b)) es))) none) l.loop }

pub args_size-length : (i : Interpretation) (es : List Expr) → args_size (exprs_of (map (expr_of i) es)) ≡ length es
args_size-length i [] = refl
args_size-length i (e ∷ es) = ap (λ (n : ℕ). 1 + n) (args_size-length i es) ∙ omega arith

-- ---- a comma expression

pub record CommaLeft (s : Site) (start now : List ℕ) (all left : List Expr) : Type 0 where
  pub loop : Left s start now (λ b. ExprsFit (exprs_of (map (expr_of (at_site s b)) all))) (λ b. ExprsFit (exprs_of (map (expr_of (at_site s b)) left))) (λ b. comma_code (scene_of s) (exprs_of (map (expr_of (at_site s b)) all))) (λ b. comma_code (scene_of s) (exprs_of (map (expr_of (at_site s b)) left)))

pub comma_begin : (s : Site) (now : List ℕ) (all : List Expr) → CommaLeft s now now all all
comma_begin s now all = record { loop = left_begin s now _ _ }

abbrev has_next : List Expr → Bool
has_next [] = false
has_next (e ∷ es) = true

has_next-some : (es : List Expr) → has_next es ≡ true → 0 < length es
has_next-some [] is = absurd (true≢false (sym is))
has_next-some (e ∷ es) is = omega arith

some-has_next : (es : List Expr) → 0 < length es → has_next es ≡ true
some-has_next [] lt = absurd (omega arith)
some-has_next (e ∷ es) lt = refl

pub has_next-drop : (es : List Expr) (k : ℕ) → nat_lt k (length es) ≡ has_next (drop k es)
has_next-drop es k = sym (ltb_from_iff ((λ h. let some = has_next-some (drop k es) h in omega (arith, some, length-drop k es)), (λ h. some-has_next (drop k es) (omega (arith, h, length-drop k es)))))

pub dropping-next : (i : Interpretation) (es : List Expr) → dropping (exprs_of (map (expr_of i) es)) ≡ (if has_next es then just op.Pop else [])
dropping-next i [] = refl
dropping-next i (e ∷ es) = refl

-- ---- the parts of a template

pub record PartsLeft (s : Site) (start now : List ℕ) (all left : List TemplatePart) : Type 0 where
  pub loop : Left s start now (λ b. PartsFit (parts_of (map (part_of (at_site s b)) all))) (λ b. PartsFit (parts_of (map (part_of (at_site s b)) left))) (λ b. parts_code (scene_of s) (parts_of (map (part_of (at_site s b)) all))) (λ b. parts_code (scene_of s) (parts_of (map (part_of (at_site s b)) left)))

pub parts_begin : (s : Site) (now : List ℕ) (all : List TemplatePart) → PartsLeft s now now all all
parts_begin s now all = record { loop = left_begin s now _ _ }

abbrev behind_part : Site → ℕ → Code
behind_part s atom = whole (plain op.ToString ∷ plain op.Add ∷ []) ++ text_behind (text_in s atom)

pub parts_next : {s : Site} {start now mid next : List ℕ} {all : List TemplatePart} (left further : List TemplatePart) (p : TemplatePart) (value : Expr) (atom : ℕ) → left ≡ p ∷ further → value ≡ (out-TemplatePart p).value → atom ≡ (out-TemplatePart p).after → ExprEmits s now mid Plainly value → EmitsAt s mid next (behind_part s atom) → PartsLeft s start now all left → PartsLeft s start next all further
parts_next {s} left further p value atom is value_is atom_is x y l = record {
  loop = left_step (written_of y) (λ b f. tt) (λ b f. f) (λ b f. refl)
      (left_step {further = λ b. PartsFit (parts_of (map (part_of (at_site s b)) further))} {later = λ b. behind_part s atom ++ parts_code (scene_of s) (parts_of (map (part_of (at_site s b)) further))}
      x.row.code (λ b f. (subst PartsFit (same b) f).0) (λ b f. (subst PartsFit (same b) f).1) (λ b f. ap (parts_code (scene_of s)) (same b) ∙ apart b) l.loop);
}
  where
    apart : (b : ℕ → Stmts) → parts_code (scene_of s) (more_parts (expr_of (at_site s b) value) (text_of (at_site s b) atom) (parts_of (map (part_of (at_site s b)) further))) ≡ code_of (scene_of s) Plainly (expr_of (at_site s b) value) ++ (behind_part s atom ++ parts_code (scene_of s) (parts_of (map (part_of (at_site s b)) further)))
    apart b =
        append_assoc (code_of (scene_of s) Plainly (expr_of (at_site s b) value) ++ whole (plain op.ToString ∷ plain op.Add ∷ [])) (text_behind (text_in s atom)) (parts_code (scene_of s) (parts_of (map (part_of (at_site s b)) further)))
        ∙ append_assoc (code_of (scene_of s) Plainly (expr_of (at_site s b) value)) (whole (plain op.ToString ∷ plain op.Add ∷ [])) (text_behind (text_in s atom) ++ parts_code (scene_of s) (parts_of (map (part_of (at_site s b)) further)))

    same : (b : ℕ → Stmts) → parts_of (map (part_of (at_site s b)) left) ≡ more_parts (expr_of (at_site s b) value) (text_of (at_site s b) atom) (parts_of (map (part_of (at_site s b)) further))
    same b =
        ap (λ (ps : List TemplatePart). parts_of (map (part_of (at_site s b)) ps)) is
        ∙ (ap (λ (q : part.Part). more_parts q.value q.behind (parts_of (map (part_of (at_site s b)) further))) (part_of-fields (at_site s b) p)
        ∙ (ap (λ (v : Expr). more_parts (expr_of (at_site s b) v) (text_of (at_site s b) (out-TemplatePart p).after) (parts_of (map (part_of (at_site s b)) further))) (sym value_is)
        ∙ ap (λ (a : ℕ). more_parts (expr_of (at_site s b) value) (text_of (at_site s b) a) (parts_of (map (part_of (at_site s b)) further))) (sym atom_is)))

pub parts_end : {s : Site} {start now : List ℕ} {all : List TemplatePart} (left : List TemplatePart) → left ≡ [] → PartsLeft s start now all left → Written s start now (λ b. PartsFit (parts_of (map (part_of (at_site s b)) all))) (λ b. parts_code (scene_of s) (parts_of (map (part_of (at_site s b)) all)))
parts_end {s} left none l = left_end (λ b. ap (λ (ps : List TemplatePart). parts_code (scene_of s) (parts_of (map (part_of (at_site s b)) ps))) none) l.loop

-- ---- properties

pub record PropsLeft (s : Site) (start now : List ℕ) (all left : List Prop) : Type 0 where
  pub loop : Left s start now (λ b. PropsFit (props_of (map (prop_of (at_site s b)) all))) (λ b. PropsFit (props_of (map (prop_of (at_site s b)) left))) (λ b. props_code (scene_of s) (props_of (map (prop_of (at_site s b)) all))) (λ b. props_code (scene_of s) (props_of (map (prop_of (at_site s b)) left)))

pub props_begin : (s : Site) (now : List ℕ) (all : List Prop) → PropsLeft s now now all all
props_begin s now all = record { loop = left_begin s now _ _ }

pub props_next : {s : Site} {start now next : List ℕ} {all : List Prop} (left further : List Prop) (p : Prop) → left ≡ p ∷ further → PropEmits s now next p → PropsLeft s start now all left → PropsLeft s start next all further
props_next {s} left further p is x l = record { loop = left_step x.code (λ b f. (subst PropsFit (same b) f).0) (λ b f. (subst PropsFit (same b) f).1) (λ b f. ap (props_code (scene_of s)) (same b)) l.loop }
  where
    same : (b : ℕ → Stmts) → props_of (map (prop_of (at_site s b)) left) ≡ more_props (prop_of (at_site s b) p) (props_of (map (prop_of (at_site s b)) further))
    same b = ap (λ (ps : List Prop). props_of (map (prop_of (at_site s b)) ps)) is

pub props_end : {s : Site} {start now : List ℕ} {all : List Prop} (left : List Prop) → left ≡ [] → PropsLeft s start now all left → Written s start now (λ b. PropsFit (props_of (map (prop_of (at_site s b)) all))) (λ b. props_code (scene_of s) (props_of (map (prop_of (at_site s b)) all)))
props_end {s} left none l = left_end (λ b. ap (λ (ps : List Prop). props_code (scene_of s) (props_of (map (prop_of (at_site s b)) ps))) none) l.loop

-- ---- the tails of a chain

pub record TailsLeft (s : Site) (start now : List ℕ) (wanted : Use) (all left : List Tail) : Type 0 where
  pub loop : Left s start now (λ b. TailsFit (tails_of (map (tail_of (at_site s b)) all))) (λ b. TailsFit (tails_of (map (tail_of (at_site s b)) left))) (λ b. tails_code (scene_of s) wanted (tails_of (map (tail_of (at_site s b)) all))) (λ b. tails_code (scene_of s) wanted (tails_of (map (tail_of (at_site s b)) left)))

pub tails_begin : (s : Site) (now : List ℕ) (wanted : Use) (all : List Tail) → TailsLeft s now now wanted all all
tails_begin s now wanted all = record { loop = left_begin s now _ _ }

pub tails_next : {s : Site} {start now next : List ℕ} {wanted : Use} {all : List Tail} (left further : List Tail) (t : Tail) (used : Use) → left ≡ t ∷ further → ((i : Interpretation) → used ≡ use_before wanted (tails_of (map (tail_of i) further))) → TailEmits s now next used t → TailsLeft s start now wanted all left → TailsLeft s start next wanted all further
tails_next {s} {wanted = wanted} left further t used is use_is x l = record {
  loop = left_step x.code (λ b f. (subst TailsFit (same b) f).0) (λ b f. (subst TailsFit (same b) f).1)
      (λ b f. ap (tails_code (scene_of s) wanted) (same b) ∙ ap (λ (u : Use). tail_code (scene_of s) u (tail_of (at_site s b) t) ++ tails_code (scene_of s) wanted (tails_of (map (tail_of (at_site s b)) further))) (sym (use_is (at_site s b)))) l.loop;
}
  where
    same : (b : ℕ → Stmts) → tails_of (map (tail_of (at_site s b)) left) ≡ more_tails (tail_of (at_site s b) t) (tails_of (map (tail_of (at_site s b)) further))
    same b = ap (λ (ts : List Tail). tails_of (map (tail_of (at_site s b)) ts)) is

pub tails_end : {s : Site} {start now : List ℕ} {wanted : Use} {all : List Tail} (left : List Tail) → left ≡ [] → TailsLeft s start now wanted all left → Written s start now (λ b. TailsFit (tails_of (map (tail_of (at_site s b)) all))) (λ b. tails_code (scene_of s) wanted (tails_of (map (tail_of (at_site s b)) all)))
tails_end {s} {wanted = wanted} left none l = left_end (λ b. ap (λ (ts : List Tail). tails_code (scene_of s) wanted (tails_of (map (tail_of (at_site s b)) ts))) none) l.loop

-- ---- the items of an array

pub items_size-length : (i : Interpretation) (items : List (Option Expr)) → items_size (items_of (map (option_map (expr_of i)) items)) ≡ length items
items_size-length i [] = refl
items_size-length i (x ∷ xs) = ap (λ (n : ℕ). 1 + n) (items_size-length i xs) ∙ omega arith

pub record ItemsLeft (s : Site) (start now : List ℕ) (all left : List (Option Expr)) (index : ℕ) : Type 0 where
  pub loop : Left s start now
      (λ b. (items_size (items_of (map (option_map (expr_of (at_site s b))) all)) < 2 ^ 32) × ItemsFit (items_of (map (option_map (expr_of (at_site s b))) all)))
      (λ b. (index + items_size (items_of (map (option_map (expr_of (at_site s b))) left)) < 2 ^ 32) × ItemsFit (items_of (map (option_map (expr_of (at_site s b))) left)))
      (λ b. items_code (scene_of s) 0 (items_of (map (option_map (expr_of (at_site s b))) all)))
      (λ b. items_code (scene_of s) index (items_of (map (option_map (expr_of (at_site s b))) left)))

pub items_begin : (s : Site) (now : List ℕ) (all : List (Option Expr)) → ItemsLeft s now now all all 0
items_begin s now all = record {
  loop = record {
    written = [];
    emits = emits_none s.texts.now now;
    fits = λ b f. (subst (λ (n : ℕ). n < 2 ^ 32) (sym (zero-add (items_size (items_of (map (option_map (expr_of (at_site s b))) all))))) f.0, f.1);
    is = λ b f. refl;
  };
}

pub items_next : {s : Site} {start now mid next : List ℕ} {all : List (Option Expr)} {index : ℕ} (left further : List (Option Expr)) (item : Option Expr) → left ≡ item ∷ further → ItemEmits s now mid item → Written s mid next (λ b. index < 2 ^ 32) (λ b. one (counted op.InitElemArray index)) → ItemsLeft s start now all left index → ItemsLeft s start next all further (index + 1)
items_next {s} {index = index} left further item is x y l = record {
  loop = left_step y (λ b f. f.0) (λ b f. f.1) (λ b f. refl)
      (left_step {further = λ b. (index < 2 ^ 32) × (((index + 1) + items_size (items_of (map (option_map (expr_of (at_site s b))) further)) < 2 ^ 32) × ItemsFit (items_of (map (option_map (expr_of (at_site s b))) further)))}
      {later = λ b. one (counted op.InitElemArray index) ++ items_code (scene_of s) (index + 1) (items_of (map (option_map (expr_of (at_site s b))) further))}
      x.code (λ b f. (subst ItemsFit (same b) f.1).0) (λ b f. fit b f) (λ b f. ap (items_code (scene_of s) index) (same b) ∙ append_assoc (item_code (scene_of s) (maybe_expr_of (option_map (expr_of (at_site s b)) item))) (one (counted op.InitElemArray index)) (items_code (scene_of s) (index + 1) (items_of (map (option_map (expr_of (at_site s b))) further)))) l.loop);
}
  where
    same : (b : ℕ → Stmts) → items_of (map (option_map (expr_of (at_site s b))) left) ≡ more_items (maybe_expr_of (option_map (expr_of (at_site s b)) item)) (items_of (map (option_map (expr_of (at_site s b))) further))
    same b = ap (λ (xs : List (Option Expr)). items_of (map (option_map (expr_of (at_site s b))) xs)) is

    size : (b : ℕ → Stmts) → items_size (items_of (map (option_map (expr_of (at_site s b))) left)) ≡ 1 + items_size (items_of (map (option_map (expr_of (at_site s b))) further))
    size b = ap items_size (same b)

    fit : (b : ℕ → Stmts) → (index + items_size (items_of (map (option_map (expr_of (at_site s b))) left)) < 2 ^ 32) × ItemsFit (items_of (map (option_map (expr_of (at_site s b))) left))
        → (index < 2 ^ 32) × (((index + 1) + items_size (items_of (map (option_map (expr_of (at_site s b))) further)) < 2 ^ 32) × ItemsFit (items_of (map (option_map (expr_of (at_site s b))) further)))
    fit b f = (omega (arith, size b, f.0), (omega (arith, size b, f.0), (subst ItemsFit (same b) f.1).1))

pub items_end : {s : Site} {start now : List ℕ} {all : List (Option Expr)} {index : ℕ} (left : List (Option Expr)) → left ≡ [] → ItemsLeft s start now all left index
    → Written s start now (λ b. (items_size (items_of (map (option_map (expr_of (at_site s b))) all)) < 2 ^ 32) × ItemsFit (items_of (map (option_map (expr_of (at_site s b))) all))) (λ b. items_code (scene_of s) 0 (items_of (map (option_map (expr_of (at_site s b))) all)))
items_end {s} {index = index} left none l = left_end (λ b. ap (λ (xs : List (Option Expr)). items_code (scene_of s) index (items_of (map (option_map (expr_of (at_site s b))) xs))) none) l.loop

-- ---- a comma expression, by items

pub comma_next : {s : Site} {start now mid next : List ℕ} {all : List Expr} (left further : List Expr) (e : Expr) (more : Bool) → left ≡ e ∷ further → more ≡ has_next further → ExprEmits s now mid Plainly e → EmitsAt s mid next (if more then just op.Pop else []) → CommaLeft s start now all left → CommaLeft s start next all further
comma_next {s} left further e more is more_is x y l = record {
  loop = left_step (written_of y) (λ b f. tt) (λ b f. f) (λ b f. refl)
      (left_step {further = λ b. ExprsFit (exprs_of (map (expr_of (at_site s b)) further))} {later = λ b. (if more then just op.Pop else []) ++ comma_code (scene_of s) (exprs_of (map (expr_of (at_site s b)) further))}
      x.row.code (λ b f. (subst ExprsFit (same b) f).0) (λ b f. (subst ExprsFit (same b) f).1) (λ b f. ap (comma_code (scene_of s)) (same b) ∙ drops b) l.loop);
}
  where
    same : (b : ℕ → Stmts) → exprs_of (map (expr_of (at_site s b)) left) ≡ more_exprs (expr_of (at_site s b) e) (exprs_of (map (expr_of (at_site s b)) further))
    same b = ap (λ (es : List Expr). exprs_of (map (expr_of (at_site s b)) es)) is

    drops : (b : ℕ → Stmts) → code_of (scene_of s) Plainly (expr_of (at_site s b) e) ++ dropping (exprs_of (map (expr_of (at_site s b)) further)) ++ comma_code (scene_of s) (exprs_of (map (expr_of (at_site s b)) further))
        ≡ code_of (scene_of s) Plainly (expr_of (at_site s b) e) ++ ((if more then just op.Pop else []) ++ comma_code (scene_of s) (exprs_of (map (expr_of (at_site s b)) further)))
    drops b = ap (λ (c : Code). code_of (scene_of s) Plainly (expr_of (at_site s b) e) ++ c ++ comma_code (scene_of s) (exprs_of (map (expr_of (at_site s b)) further)))
        (dropping-next (at_site s b) further ∙ ap (λ (m : Bool). if m then just op.Pop else []) (sym more_is))
        ∙ append_assoc (code_of (scene_of s) Plainly (expr_of (at_site s b) e)) (if more then just op.Pop else []) (comma_code (scene_of s) (exprs_of (map (expr_of (at_site s b)) further)))

pub comma_end : {s : Site} {start now : List ℕ} {all : List Expr} (left : List Expr) → left ≡ [] → CommaLeft s start now all left → Written s start now (λ b. ExprsFit (exprs_of (map (expr_of (at_site s b)) all))) (λ b. comma_code (scene_of s) (exprs_of (map (expr_of (at_site s b)) all)))
comma_end {s} left none l = left_end (λ b. ap (λ (es : List Expr). comma_code (scene_of s) (exprs_of (map (expr_of (at_site s b)) es))) none) l.loop

-- ---- the operators of a list of `**`

pub record PowersLeft (start now : List ℕ) (all left : List Operand) : Type 0 where
  pub later : (texts : List (List ℕ)) (i : Interpretation) (end : List ℕ) → Emits texts now end (powers (operands_of (map (operand_of i) left))) → Emits texts start end (powers (operands_of (map (operand_of i) all)))

pub powers_begin : (start : List ℕ) (all : List Operand) → PowersLeft start start all all
powers_begin start all = record { later = λ texts i end x. x }

pub powers_next : {start now next : List ℕ} (all : List Operand) (k : ℕ) → k < length all → ((texts : List (List ℕ)) → Emits texts now next (just op.Pow)) → PowersLeft start now all (drop k all) → PowersLeft start next all (drop (k + 1) all)
powers_next {now = now} all k lt x l = record { later = λ texts i end y. l.later texts i end (subst (λ (os : List Operand). Emits texts now end (powers (operands_of (map (operand_of i) os)))) (sym (drop-at all k lt).1) (emits_both (x texts) y)) }

pub powers_end : {start now : List ℕ} {all : List Operand} (left : List Operand) → left ≡ [] → PowersLeft start now all left → (texts : List (List ℕ)) (i : Interpretation) → Emits texts start now (powers (operands_of (map (operand_of i) all)))
powers_end {start} {now} left none l texts i = l.later texts i now (subst (λ (os : List Operand). Emits texts now now (powers (operands_of (map (operand_of i) os)))) (sym none) (emits_none texts now))
