-- Code that was appended, one after the other.
use Rattle.std.proofs.Common.{◌≡◌, ℕ, List, [], ◌++◌, refl, sym, ◌∙◌, ap, ap₂, subst, subst₂, append_assoc, append-nil}
use Rattle.script_grammar.specs.Tree.{Stmts}
use Rattle.script_grammar.specs.Tree as model
use Rattle.script_grammar.specs.declared.tree.Expr.{Expr}
use Rattle.script_grammar.specs.TreeOf.{expr_of}
use Rattle.stencil_data.specs.declared.functions.Extent.{Extent}
use Rattle.stencil_data.specs.LinkView.{LinkView}
use Rattle.bytecode_buf.specs.Pieces.{Code}
use Rattle.bytecode_buf.specs.Emits.{Emits}
use Rattle.bytecode_buf.proofs.AppendLemmas.{emits_none, emits_both}
use Rattle.emit_exprs.specs.declared.site.Site.{Site}
use Rattle.emit_exprs.specs.declared.uses.Use.{Use}
use Rattle.emit_exprs.specs.declared.uses.Use.TheVariants.{Plainly}
use Rattle.emit_exprs.specs.Sites.{EmitsAt, scene_of}
use Rattle.emit_exprs.specs.Exprs.{code_of}
use Rattle.emit_exprs.specs.Fitting.{ExprFits}
use Rattle.emit_exprs.specs.TreeCode.{at_site, Written, RowEmits, ExprEmits, ExprCode}

-- the same code whatever the bodies
pub written_of : {s : Site} {old new : List ℕ} {code : Code} → EmitsAt s old new code → Written s old new (λ bodies. Unit {0}) (λ bodies. code)
written_of {code = code} emits = record { written = code; emits = emits; is = λ bodies fits. refl }

pub written_both : {s : Site} {old now new : List ℕ} {f g : (ℕ → Stmts) → Type 0} {x y : (ℕ → Stmts) → Code} → Written s old now f x → Written s now new g y → Written s old new (λ bodies. f bodies × g bodies) (λ bodies. x bodies ++ y bodies)
written_both p q = record {
  written = p.written ++ q.written;
  emits = emits_both p.emits q.emits;
  is = λ bodies fits. ap₂ (λ (u : Code) (v : Code). u ++ v) (p.is bodies fits.0) (q.is bodies fits.1);
}

-- the same code by other words
pub written_as : {s : Site} {old new : List ℕ} {f g : (ℕ → Stmts) → Type 0} {x y : (ℕ → Stmts) → Code} → ((bodies : ℕ → Stmts) → g bodies → f bodies) → ((bodies : ℕ → Stmts) → g bodies → x bodies ≡ y bodies) → Written s old new f x → Written s old new g y
written_as fit same w = record { written = w.written; emits = w.emits; is = λ bodies fits. w.is bodies (fit bodies fits) ∙ same bodies fits }

-- the code of an expression of the model
pub row_of : {s : Site} {old new : List ℕ} {wanted : Use} {f : (ℕ → Stmts) → Type 0} (m : (ℕ → Stmts) → model.Expr) → ((bodies : ℕ → Stmts) → ExprFits (m bodies) → f bodies) → Written s old new f (λ bodies. code_of (scene_of s) wanted (m bodies)) → RowEmits s old new wanted m
row_of m fit w = record { code = written_as fit (λ bodies fits. refl) w }

-- the code of an expression, by the one of the model that it stands for
pub expr_at : {s : Site} {old new : List ℕ} {wanted : Use} (e : Expr) (m : (ℕ → Stmts) → model.Expr) → ((bodies : ℕ → Stmts) → expr_of (at_site s bodies) e ≡ m bodies) → RowEmits s old new wanted m → ExprEmits s old new wanted e
expr_at {s} {wanted = wanted} e m same x = record { row = record { code = written_as (λ bodies fits. subst ExprFits (same bodies) fits) (λ bodies fits. ap (code_of (scene_of s) wanted) (sym (same bodies))) x.code } }

-- code whose parts are appended one after the other: what was appended, and what is left
pub record Left (s : Site) (start now : List ℕ) (all left : (ℕ → Stmts) → Type 0) (code rest : (ℕ → Stmts) → Code) : Type 0 where
  pub written : Code
  pub emits : EmitsAt s start now written
  pub fits : (bodies : ℕ → Stmts) → all bodies → left bodies
  pub is : (bodies : ℕ → Stmts) → all bodies → written ++ rest bodies ≡ code bodies

pub left_begin : (s : Site) (now : List ℕ) (all : (ℕ → Stmts) → Type 0) (code : (ℕ → Stmts) → Code) → Left s now now all all code code
left_begin s now all code = record { written = []; emits = emits_none s.texts.now now; fits = λ bodies a. a; is = λ bodies a. refl }

pub left_step : {s : Site} {start now next : List ℕ} {all left further g : (ℕ → Stmts) → Type 0} {code rest later y : (ℕ → Stmts) → Code}
    → Written s now next g y
    → ((bodies : ℕ → Stmts) → left bodies → g bodies)
    → ((bodies : ℕ → Stmts) → left bodies → further bodies)
    → ((bodies : ℕ → Stmts) → left bodies → rest bodies ≡ y bodies ++ later bodies)
    → Left s start now all left code rest → Left s start next all further code later
left_step {later = later} w here on same l = record {
  written = l.written ++ w.written;
  emits = emits_both l.emits w.emits;
  fits = λ bodies a. on bodies (l.fits bodies a);
  is = λ bodies a. append_assoc l.written w.written (later bodies)
      ∙ (ap (λ (c : Code). l.written ++ (c ++ later bodies)) (w.is bodies (here bodies (l.fits bodies a)))
      ∙ (ap (λ (c : Code). l.written ++ c) (sym (same bodies (l.fits bodies a))) ∙ l.is bodies a));
}

pub left_end : {s : Site} {start now : List ℕ} {all left : (ℕ → Stmts) → Type 0} {code rest : (ℕ → Stmts) → Code} → ((bodies : ℕ → Stmts) → rest bodies ≡ []) → Left s start now all left code rest → Written s start now all code
left_end none l = record {
  written = l.written;
  emits = l.emits;
  is = λ bodies a. sym (append-nil l.written) ∙ (ap (λ (c : Code). l.written ++ c) (sym (none bodies)) ∙ l.is bodies a);
}

-- the code of an expression by the lists that the site's fields are
pub expr_under : {old new : List ℕ} {e : Expr} (s : Site) (chain : List LinkView) (inner : List Extent) (texts : List (List ℕ)) → s.chain.now ≡ chain → s.inner.now ≡ inner → s.texts.now ≡ texts → ExprEmits s old new Plainly e → ExprCode chain inner texts old new e
expr_under {old} {new} {e} s chain inner texts chain_is inner_is texts_is x =
    subst (λ (c : List LinkView). ExprCode c inner texts old new e) chain_is
    (subst₂ (λ (i : List Extent) (t : List (List ℕ)). ExprCode s.chain.now i t old new e) inner_is texts_is
    (λ bodies fits. subst (λ (c : Code). Emits s.texts.now old new c) (x.row.code.is bodies fits) x.row.code.emits))
