-- That the code was appended by which var names of a body begin with the values of parameters.
use Rattle.std.specs.Prelude.{◌≡◌, ℕ, List, [], ◌++◌, if◌then◌else◌}
use Rattle.script_grammar.specs.declared.tree.Param.{Param}
use Rattle.stencil_data.specs.declared.scopes.Binding.{Binding}
use Rattle.stencil_data.specs.LinkView.{LinkView}
use Rattle.stencil_data.specs.Resolve.{resolve, resolve_beyond}
use Rattle.stencil_data.specs.StandsFor.{named_bindings}
use Rattle.scope_analysis.specs.DeclaredNames.{Text, has_text, param_names}
use Rattle.bytecode_buf.specs.declared.opcode.Op.TheVariants as op
use Rattle.bytecode_buf.specs.Pieces.{Code}
use Rattle.emit_exprs.specs.declared.site.Site.{Site}
use Rattle.emit_exprs.specs.Exprs.{Scene, writing}
use Rattle.emit_exprs.specs.Names.{read}
use Rattle.emit_exprs.specs.Sites.{scene_of, text_in}
use Rattle.emit_exprs.specs.TreeCode.{Written}
use Rattle.emit_exprs.specs.Whole.{whole, just}
use Rattle.emit_stmts.specs.Functions.{copies_code}
use Rattle.emit_functions.specs.ParamCode.{params_in}

-- a name is found on the chain as on the outer one by who has passed n environments
pub record Passes (chain : List LinkView) (hops : ℕ) (outer : List LinkView) : Type 0 where
  pub same : (name : List ℕ) → resolve chain name ≡ resolve_beyond hops outer name

-- one name, where it is that of a parameter
abbrev pub copy_code : Scene → List LinkView → ℕ → List Text → Text → Code
copy_code scene outer hops params name = if has_text params name then whole (read name (resolve_beyond hops outer name))
    ++ writing scene name ++ just op.Pop else []

pub record CopyEmits (s : Site) (hops : ℕ) (outer : List LinkView) (old new : List ℕ) (ps : List Param) (atom : ℕ) : Type 0 where
  pub made : Written s old new (λ bodies. Unit {0})
      (λ bodies. copy_code (scene_of s) outer hops (param_names (params_in s bodies ps)) (text_in s atom))

pub record CopiesEmit (s : Site) (hops : ℕ) (outer : List LinkView) (old new : List ℕ) (ps : List Param) (bindings : List Binding) : Type 0 where
  pub made : Written s old new (λ bodies. Unit {0})
      (λ bodies. copies_code (scene_of s) outer hops (param_names (params_in s bodies ps)) (named_bindings s.texts.now bindings))
