-- That the code of parameters was appended.
use Rattle.std.specs.Prelude.{ℕ, List, ◌++◌, map, option_map}
use Rattle.script_grammar.specs.declared.tree.Param.{Param}
use Rattle.script_grammar.specs.Tree.{Named, MaybeExpr, Params, no_params, more_params, Stmts}
use Rattle.script_grammar.specs.TreeLists.{maybe_expr_of, params_of}
use Rattle.script_grammar.specs.TreeOf.{expr_of, param_of}
use Rattle.scope_analysis.specs.Kept.{under}
use Rattle.bytecode_buf.specs.Pieces.{Code}
use Rattle.emit_exprs.specs.declared.site.Site.{Site}
use Rattle.emit_exprs.specs.Exprs.{Scene}
use Rattle.emit_exprs.specs.Fitting.{MaybeExprFits}
use Rattle.emit_exprs.specs.Sites.{scene_of}
use Rattle.emit_exprs.specs.TreeCode.{at_site, Written}
use Rattle.emit_stmts.specs.Functions.{default_code, rest_code, params_code}
use Rattle.emit_stmts.specs.ValueCode.{named_in}

abbrev pub default_of : Named → Scene → MaybeExpr → Code
default_of name scene value = default_code scene name value

-- the counts of the initializers fit
abbrev pub ParamsFit : Params → Type 0
ParamsFit no_params = Unit {0}
ParamsFit (more_params name value rest more) = MaybeExprFits value × ParamsFit more

abbrev pub value_in : Site → (ℕ → Stmts) → Param → MaybeExpr
value_in s bodies p = maybe_expr_of (option_map (expr_of (at_site s bodies)) p.value)

-- what parameters stand for, under these texts and whatever the bodies of the functions that were passed over
abbrev pub params_under : List (List ℕ) → (ℕ → Stmts) → List Param → Params
params_under texts bodies ps = params_of (map (param_of (under texts bodies)) ps)

abbrev pub params_in : Site → (ℕ → Stmts) → List Param → Params
params_in s bodies ps = params_under s.texts.now bodies ps

pub record ParamEmits (s : Site) (old new : List ℕ) (p : Param) : Type 0 where
  pub made : Written s old new (λ bodies. MaybeExprFits (value_in s bodies p))
      (λ bodies. default_code (scene_of s) (named_in s p.name) (value_in s bodies p) ++ rest_code (scene_of s) (named_in s p.name) p.rest)

pub record ParamsEmit (s : Site) (old new : List ℕ) (ps : List Param) : Type 0 where
  pub made : Written s old new (λ bodies. ParamsFit (params_in s bodies ps)) (λ bodies. params_code (scene_of s) (params_in s bodies ps))
