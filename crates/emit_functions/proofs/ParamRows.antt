-- What stands before the body of a function, one part after the other.
use Rattle.std.proofs.Common.{◌≡◌, ℕ, List, [], ◌∷◌, ◌++◌, Some, None, length, refl, ◌∙◌, ap, ap₂, subst}
use Rattle.script_grammar.specs.declared.tree.Expr.{Expr}
use Rattle.script_grammar.specs.declared.tree.Ident.{Ident}
use Rattle.script_grammar.specs.declared.tree.Param.{Param}
use Rattle.script_grammar.specs.Tree.{Stmts, no_stmts, more_params}
use Rattle.script_grammar.specs.TreeLists as part
use Rattle.script_grammar.specs.TreeLists.{maybe_expr_of, params_of}
use Rattle.script_grammar.proofs.PartEquations.{param_of-fields}
use Rattle.stencil_data.specs.declared.scopes.Binding.{Binding}
use Rattle.stencil_data.specs.declared.stencils.TryNote.{TryNote}
use Rattle.stencil_data.specs.StandsFor.{named_binding, named_bindings}
use Rattle.bytecode_buf.specs.declared.opcode.Op.TheVariants as op
use Rattle.bytecode_buf.specs.declared.waits.Aim.TheVariants as aim
use Rattle.bytecode_buf.specs.declared.waits.Wait.{Wait}
use Rattle.bytecode_buf.specs.Appends.{Appends, AllRoom, kept}
use Rattle.bytecode_buf.specs.Command.{plain}
use Rattle.bytecode_buf.specs.Emits.{emitted, Waits, LandsHere}
use Rattle.bytecode_buf.specs.Pieces.{Code, Waiting, here}
use Rattle.bytecode_buf.proofs.AppendLemmas.{emits_none, emits_closed, appends_both, appends_room}
use Rattle.emit_exprs.specs.declared.site.Site.{Site}
use Rattle.emit_exprs.specs.declared.uses.Use.TheVariants.{Plainly}
use Rattle.emit_exprs.specs.Exprs.{reading, writing}
use Rattle.emit_exprs.specs.Sites.{EmitsAt, scene_of, text_in}
use Rattle.emit_exprs.specs.TreeCode.{at_site, ExprEmits}
use Rattle.emit_exprs.specs.Whole.{just, whole}
use Rattle.emit_exprs.proofs.Writing.{written_of, written_both, written_as, Left, left_begin, left_step, left_end}
use Rattle.emit_stmts.specs.Functions.{special_code, specials_code, rest_code, params_code}
use Rattle.emit_stmts.specs.ValueCode.{ValueEmits, named_in}
use Rattle.emit_functions.specs.ParamCode.{default_of, ParamsFit, value_in, params_in, ParamEmits, ParamsEmit}

-- ---- bindings, one after the other

pub record SpecialsLeft (s : Site) (start now : List ℕ) (all left : List Binding) : Type 0 where
  pub loop : Left s start now (λ b. Unit {0}) (λ b. Unit {0}) (λ b. specials_code (scene_of s) (named_bindings s.texts.now all)) (λ b. specials_code (scene_of s) (named_bindings s.texts.now left))

pub specials_begin : (s : Site) (now : List ℕ) (all : List Binding) → SpecialsLeft s now now all all
specials_begin s now all = record { loop = left_begin s now _ _ }

pub specials_next : {s : Site} {start now next : List ℕ} {all : List Binding} (left further : List Binding) (x : Binding) → left ≡ x ∷ further → EmitsAt s now next (special_code (scene_of s) (named_binding s.texts.now x) x.kind) → SpecialsLeft s start now all left → SpecialsLeft s start next all further
specials_next {s} left further x is y l = record { loop = left_step (written_of y) (λ b f. tt) (λ b f. tt) (λ b f. ap (λ (xs : List Binding). specials_code (scene_of s) (named_bindings s.texts.now xs)) is) l.loop }

pub specials_end : {s : Site} {start now : List ℕ} {all : List Binding} (left : List Binding) → left ≡ [] → SpecialsLeft s start now all left → EmitsAt s start now (specials_code (scene_of s) (named_bindings s.texts.now all))
specials_end {s} {start} {now} {all} left none l =
    let whole = left_end (λ b. ap (λ (xs : List Binding). specials_code (scene_of s) (named_bindings s.texts.now xs)) none) l.loop in
    subst (EmitsAt s start now) (whole.is (λ n. no_stmts) tt) whole.emits

-- ---- initializers

-- up to what follows the initializer
abbrev default_by : Site → Ident → Code → Code
default_by s name value =
    reading (scene_of s) (text_in s name.atom) ++ whole (plain op.Undefined ∷ plain op.StrictEq ∷ []) ++ (Waiting op.JumpIfFalse aim.After ∷ []) ++ value ++ writing (scene_of s) (text_in s name.atom) ++ just op.Pop

default_appends : {s : Site} {start a b c d e : List ℕ} {w0 w1 : List Wait} {value : Expr} (name : Ident)
    → EmitsAt s start a (reading (scene_of s) (text_in s name.atom) ++ whole (plain op.Undefined ∷ plain op.StrictEq ∷ [])) → w0 ≡ [] → Waits op.JumpIfFalse aim.After a w0 b w1
    → (y : ExprEmits s b c Plainly value) → EmitsAt s c d (writing (scene_of s) (text_in s name.atom)) → EmitsAt s d e (just op.Pop) → (notes : List TryNote)
    → Appends s.texts.now (emitted start [] notes) (emitted e w1 notes) (default_by s name y.row.code.written)
default_appends {s} {start} {a} {b} {w0 = w0} {w1} name x none j y z u notes =
    appends_both
    (appends_both
    (appends_both
    (appends_both (x.anywhere [] notes) (subst (λ (ws : List Wait). Appends s.texts.now (emitted a ws notes) (emitted b w1 notes) (Waiting op.JumpIfFalse aim.After ∷ [])) none (j s.texts.now notes)))
    (y.row.code.emits.anywhere w1 notes))
    (z.anywhere w1 notes))
    (u.anywhere w1 notes)

pub default_room : {s : Site} {start a b c d e : List ℕ} {w0 w1 : List Wait} {value : Expr} (name : Ident)
    → EmitsAt s start a (reading (scene_of s) (text_in s name.atom) ++ whole (plain op.Undefined ∷ plain op.StrictEq ∷ [])) → w0 ≡ [] → Waits op.JumpIfFalse aim.After a w0 b w1
    → ExprEmits s b c Plainly value → EmitsAt s c d (writing (scene_of s) (text_in s name.atom)) → EmitsAt s d e (just op.Pop) → AllRoom (length e) w1
default_room name x none j y z u = appends_room refl (default_appends name x none j y z u [])

-- no jump waits after it
kept_none : (p : ℕ) (w0 w1 o0 o1 : List Wait) → w0 ≡ [] → o0 ≡ [] → w1 ≡ w0 ++ record { at = p; aim = aim.After } ∷ [] → o1 ≡ o0 ++ kept aim.After w1 → o1 ≡ []
kept_none p w0 w1 o0 o1 none no_outside made landed =
    landed ∙ ap₂ (λ (o : List Wait) (w : List Wait). o ++ kept aim.After w) no_outside (made ∙ ap (λ (w : List Wait). w ++ record { at = p; aim = aim.After } ∷ []) none)

pub default_some : {s : Site} {start a b c d e new : List ℕ} {w0 w1 o0 o1 : List Wait} {value : Expr} (name : Ident)
    → EmitsAt s start a (reading (scene_of s) (text_in s name.atom) ++ whole (plain op.Undefined ∷ plain op.StrictEq ∷ [])) → w0 ≡ [] → Waits op.JumpIfFalse aim.After a w0 b w1 → w1 ≡ w0 ++ record { at = length a; aim = aim.After } ∷ []
    → ExprEmits s b c Plainly value → EmitsAt s c d (writing (scene_of s) (text_in s name.atom)) → EmitsAt s d e (just op.Pop)
    → o0 ≡ [] → LandsHere aim.After e w1 o0 new o1 → o1 ≡ o0 ++ kept aim.After w1
    → ValueEmits s start new (Some value) (default_of (named_in s name))
default_some {s} {start} {a} {e = e} {new} {w0} {w1} {o0} {o1} {value} name x none j j_made y z u no_outside lands lands_made = record {
  made = record {
    written = here aim.After (default_by s name y.row.code.written);
    emits = emits_closed s.texts.now start new o1 (here aim.After (default_by s name y.row.code.written)) (kept_none (length a) w0 w1 o0 o1 none no_outside j_made lands_made)
        (λ notes. subst (λ (ws : List Wait). Appends s.texts.now (emitted start ws notes) (emitted new o1 notes) (here aim.After (default_by s name y.row.code.written))) no_outside
        (lands s.texts.now start notes notes _ (default_appends name x none j y z u notes)));
    is = λ bodies fits. ap (λ (v : Code). here aim.After (default_by s name v)) (y.row.code.is bodies fits);
  };
}

pub default_none : (s : Site) (now : List ℕ) (name : Ident) → ValueEmits s now now None (default_of (named_in s name))
default_none s now name = record { made = written_as (λ b f. tt) (λ b f. refl) (written_of (emits_none s.texts.now now)) }

-- ---- parameters, one after the other

pub param_row : {s : Site} {a b c : List ℕ} (p : Param) → ValueEmits s a b p.value (default_of (named_in s p.name)) → EmitsAt s b c (rest_code (scene_of s) (named_in s p.name) p.rest) → ParamEmits s a c p
param_row p x y = record { made = written_as (λ b f. (f, tt)) (λ b f. refl) (written_both x.made (written_of y)) }

pub record ParamsLeft (s : Site) (start now : List ℕ) (all left : List Param) : Type 0 where
  pub loop : Left s start now (λ b. ParamsFit (params_in s b all)) (λ b. ParamsFit (params_in s b left)) (λ b. params_code (scene_of s) (params_in s b all)) (λ b. params_code (scene_of s) (params_in s b left))

pub params_begin : (s : Site) (now : List ℕ) (all : List Param) → ParamsLeft s now now all all
params_begin s now all = record { loop = left_begin s now _ _ }

pub params_next : {s : Site} {start now next : List ℕ} {all : List Param} (left further : List Param) (p : Param) → left ≡ p ∷ further → ParamEmits s now next p → ParamsLeft s start now all left → ParamsLeft s start next all further
params_next {s} left further p is y l = record { loop = left_step y.made (λ b f. (subst ParamsFit (same b) f).0) (λ b f. (subst ParamsFit (same b) f).1) (λ b f. ap (params_code (scene_of s)) (same b)) l.loop }
  where
    same : (b : ℕ → Stmts) → params_in s b left ≡ more_params (named_in s p.name) (value_in s b p) p.rest (params_in s b further)
    same b =
        ap (params_in s b) is
        ∙ ap (λ (q : part.Param). more_params q.name (maybe_expr_of q.value) q.rest (params_in s b further)) (param_of-fields (at_site s b) p)

pub params_end : {s : Site} {start now : List ℕ} {all : List Param} (left : List Param) → left ≡ [] → ParamsLeft s start now all left → ParamsEmit s start now all
params_end {s} left none l = record { made = left_end (λ b. ap (λ (xs : List Param). params_code (scene_of s) (params_in s b xs)) none) l.loop }
