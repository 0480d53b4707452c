-- Var names that begin with the values of parameters, one after the other.
use Rattle.std.proofs.Common.{◌≡◌, ℕ, Bool, true, false, ◌||◌, if◌then◌else◌, List, [], ◌∷◌, ◌++◌, refl, sym, ◌∙◌, ap, subst, bytes_eq}
use Rattle.script_grammar.specs.declared.tree.Param.{Param}
use Rattle.script_grammar.specs.Tree.{Stmts}
use Rattle.script_grammar.specs.TreeLists as part
use Rattle.script_grammar.specs.TreeLists.{params_of}
use Rattle.script_grammar.proofs.PartEquations.{param_of-fields}
use Rattle.stencil_data.specs.declared.scopes.Binding.{Binding}
use Rattle.stencil_data.specs.LinkView.{LinkView}
use Rattle.stencil_data.specs.Resolve.{resolve, resolve_beyond}
use Rattle.stencil_data.specs.StandsFor.{named_bindings, text_at}
use Rattle.scope_analysis.specs.DeclaredNames.{has_text, param_names}
use Rattle.scope_analysis.specs.Kept.{under}
use Rattle.bytecode_buf.specs.declared.opcode.Op.TheVariants as op
use Rattle.bytecode_buf.specs.Emits.{Emits}
use Rattle.bytecode_buf.specs.Pieces.{Code}
use Rattle.bytecode_buf.proofs.AppendLemmas.{emits_none, emits_both}
use Rattle.emit_exprs.specs.declared.site.Site.{Site}
use Rattle.emit_exprs.specs.Exprs.{reading, writing}
use Rattle.emit_exprs.specs.Names.{read}
use Rattle.emit_exprs.specs.Sites.{EmitsAt, scene_of, text_in}
use Rattle.emit_exprs.specs.Whole.{just, whole}
use Rattle.emit_exprs.proofs.Writing.{written_of, written_as, Left, left_begin, left_step, left_end}
use Rattle.emit_stmts.specs.Functions.{copies_code}
use Rattle.emit_functions.specs.CopyCode.{Passes, CopyEmits, CopiesEmit}
use Rattle.emit_functions.specs.ParamCode.{params_under, params_in}

-- ---- whether a parameter has a name

-- by those that are left
pub record ParamsLooked (texts : List (List ℕ)) (name : List ℕ) (all left : List Param) : Type 0 where
  pub same : (bodies : ℕ → Stmts) → has_text (param_names (params_under texts bodies left)) name ≡ has_text (param_names (params_under texts bodies all)) name

pub looked_begin : (texts : List (List ℕ)) (name : List ℕ) (all : List Param) → ParamsLooked texts name all all
looked_begin texts name all = record { same = λ bodies. refl }

looked_first : (texts : List (List ℕ)) (name : List ℕ) (bodies : ℕ → Stmts) (left further : List Param) (p : Param) → left ≡ p ∷ further
    → has_text (param_names (params_under texts bodies left)) name ≡ (bytes_eq (text_at texts p.name.atom) name || has_text (param_names (params_under texts bodies further)) name)
looked_first texts name bodies left further p is =
    ap (λ (ps : List Param). has_text (param_names (params_under texts bodies ps)) name) is
    ∙ ap (λ (q : part.Param). bytes_eq q.name.text name || has_text (param_names (params_under texts bodies further)) name) (param_of-fields (under texts bodies) p)

pub looked_next : {texts : List (List ℕ)} {name : List ℕ} {all : List Param} (left further : List Param) (p : Param) (text : List ℕ) → left ≡ p ∷ further → text ≡ text_at texts p.name.atom → bytes_eq text name ≡ false → ParamsLooked texts name all left → ParamsLooked texts name all further
looked_next {texts} {name} left further p text is text_is differs l = record {
  same = λ bodies.
      sym (looked_first texts name bodies left further p is ∙ ap (λ (b : Bool). b || has_text (param_names (params_under texts bodies further)) name) (sym (ap (λ (t : List ℕ). bytes_eq t name) text_is) ∙ differs))
      ∙ l.same bodies;
}

pub looked_found : {texts : List (List ℕ)} {name : List ℕ} {all : List Param} (left further : List Param) (p : Param) (text : List ℕ) → left ≡ p ∷ further → text ≡ text_at texts p.name.atom → bytes_eq text name ≡ true → ParamsLooked texts name all left → (bodies : ℕ → Stmts) → true ≡ has_text (param_names (params_under texts bodies all)) name
looked_found {texts} {name} left further p text is text_is found l bodies =
    sym (looked_first texts name bodies left further p is ∙ ap (λ (b : Bool). b || has_text (param_names (params_under texts bodies further)) name) (sym (ap (λ (t : List ℕ). bytes_eq t name) text_is) ∙ found))
    ∙ l.same bodies

pub looked_end : {texts : List (List ℕ)} {name : List ℕ} {all : List Param} (left : List Param) → left ≡ [] → ParamsLooked texts name all left → (bodies : ℕ → Stmts) → false ≡ has_text (param_names (params_under texts bodies all)) name
looked_end {texts} {name} left none l bodies = sym (ap (λ (ps : List Param). has_text (param_names (params_under texts bodies ps)) name) none) ∙ l.same bodies

-- ---- one name

pub copy_some : {s : Site} {a b c d : List ℕ} {flag : Bool} (outside : Site) (ps : List Param) (atom : ℕ) → outside.texts.now ≡ s.texts.now
    → ((bodies : ℕ → Stmts) → flag ≡ has_text (param_names (params_in s bodies ps)) (text_in s atom)) → flag ≡ true
    → EmitsAt outside a b (reading (scene_of outside) (text_in outside atom)) → EmitsAt s b c (writing (scene_of s) (text_in s atom)) → EmitsAt s c d (just op.Pop)
    → (hops : ℕ) (outer : List LinkView) → Passes outside.chain.now hops outer → CopyEmits s hops outer a d ps atom
copy_some {s} {a} {b} outside ps atom texts_are flag_is found x y z hops outer passes = record {
  made = written_as (λ bs f. tt)
      (λ bs f. ap (λ (t : Bool). if t then whole (read (text_in s atom) (resolve_beyond hops outer (text_in s atom))) ++ writing (scene_of s) (text_in s atom) ++ just op.Pop else []) (sym (sym (flag_is bs) ∙ found)))
      (written_of (emits_both (emits_both first y) z));
}
  where
    seen : List (List ℕ) → Code
    seen texts = whole (read (text_at texts atom) (resolve outside.chain.now (text_at texts atom)))

    first : EmitsAt s a b (whole (read (text_in s atom) (resolve_beyond hops outer (text_in s atom))))
    first = subst (λ (c : Code). Emits s.texts.now a b c) (ap (λ (p : _). whole (read (text_in s atom) p)) (passes.same (text_in s atom)))
        (subst (λ (t : List (List ℕ)). Emits t a b (seen t)) texts_are x)

pub copy_none : {flag : Bool} (s : Site) (now : List ℕ) (ps : List Param) (atom : ℕ) → ((bodies : ℕ → Stmts) → flag ≡ has_text (param_names (params_in s bodies ps)) (text_in s atom)) → flag ≡ false
    → (hops : ℕ) (outer : List LinkView) → CopyEmits s hops outer now now ps atom
copy_none s now ps atom flag_is differs hops outer = record {
  made = written_as (λ bs f. tt)
      (λ bs f. ap (λ (t : Bool). if t then whole (read (text_in s atom) (resolve_beyond hops outer (text_in s atom))) ++ writing (scene_of s) (text_in s atom) ++ just op.Pop else []) (sym (sym (flag_is bs) ∙ differs)))
      (written_of (emits_none s.texts.now now));
}

-- ---- one after the other

pub record CopiesLeft (s : Site) (hops : ℕ) (outer : List LinkView) (start now : List ℕ) (ps : List Param) (all left : List Binding) : Type 0 where
  pub loop : Left s start now (λ b. Unit {0}) (λ b. Unit {0}) (λ b. copies_code (scene_of s) outer hops (param_names (params_in s b ps)) (named_bindings s.texts.now all)) (λ b. copies_code (scene_of s) outer hops (param_names (params_in s b ps)) (named_bindings s.texts.now left))

pub copies_begin : (s : Site) (hops : ℕ) (outer : List LinkView) (now : List ℕ) (ps : List Param) (all : List Binding) → CopiesLeft s hops outer now now ps all all
copies_begin s hops outer now ps all = record { loop = left_begin s now _ _ }

pub copies_next : {s : Site} {hops : ℕ} {outer : List LinkView} {start now next : List ℕ} {ps : List Param} {all : List Binding} (left further : List Binding) (x : Binding) → left ≡ x ∷ further → CopyEmits s hops outer now next ps x.atom → CopiesLeft s hops outer start now ps all left → CopiesLeft s hops outer start next ps all further
copies_next {s} {hops} {outer} {ps = ps} left further x is y l = record { loop = left_step y.made (λ b f. tt) (λ b f. tt) (λ b f. ap (λ (xs : List Binding). copies_code (scene_of s) outer hops (param_names (params_in s b ps)) (named_bindings s.texts.now xs)) is) l.loop }

pub copies_end : {s : Site} {hops : ℕ} {outer : List LinkView} {start now : List ℕ} {ps : List Param} {all : List Binding} (left : List Binding) → left ≡ [] → CopiesLeft s hops outer start now ps all left → CopiesEmit s hops outer start now ps all
copies_end {s} {hops} {outer} {ps = ps} left none l = record { made = left_end (λ b. ap (λ (xs : List Binding). copies_code (scene_of s) outer hops (param_names (params_in s b ps)) (named_bindings s.texts.now xs)) none) l.loop }
