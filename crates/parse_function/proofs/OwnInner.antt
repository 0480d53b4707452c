-- A function of a script with the bodies of the script's functions inside it is itself.
use Rattle.std.proofs.Common.{◌≡◌, ◌∙◌, ℕ, List, None, ap}
use Rattle.script_grammar.specs.Lexeme.{Lexeme}
use Rattle.script_grammar.specs.Script.{IsScript}
use Rattle.script_grammar.specs.Tree.{Function, function, Body, BracedBody, ShortBody, Stmts}
use Rattle.grammar_parser_specs.specs.Filling.{fill, fill_stmts}
use Rattle.grammar_start_laws.specs.Own.{AllOf, HasOwn, TokensRise}
use Rattle.grammar_start_laws.specs.Started.{started_function, started_params}
use Rattle.grammar_start_laws.proofs.OwnBodies.{first_of, rest_of, same, same_params, same_stmts}
use Rattle.grammar_start_laws.proofs.WholeTrees.{own_bodies, all_own}
use Rattle.parse_parts.specs.Parts.{fill_inside}
use Rattle.scope_analysis.specs.Functions.{Inner}
use Rattle.grammar_alone_laws.specs.Alone.{nameless}
use Rattle.grammar_alone_laws.specs.Functions.{IsFunctionIn}
use Rattle.parse_function.proofs.InnerStarts.{in_every}

-- a function whose functions have the bodies that are given
filled : (bodies : ℕ → Body) (f : Function) → AllOf (HasOwn bodies) (started_function f) → fill_inside bodies (nameless f) ≡ nameless f
filled bodies (function form start end name ps comma bare (BracedBody items)) h =
    ap (λ qs. function form start end None qs comma bare (BracedBody (fill_stmts bodies items))) (same_params bodies ps (first_of (HasOwn bodies) (started_params ps) _ h.1))
    ∙ ap (λ ss. function form start end None ps comma bare (BracedBody ss)) (same_stmts bodies items (rest_of (HasOwn bodies) (started_params ps) _ h.1))
filled bodies (function form start end name ps comma bare (ShortBody value)) h =
    ap (λ qs. function form start end None qs comma bare (ShortBody (fill bodies value))) (same_params bodies ps (first_of (HasOwn bodies) (started_params ps) _ h.1))
    ∙ ap (λ e. function form start end None ps comma bare (ShortBody e)) (same bodies value (rest_of (HasOwn bodies) (started_params ps) _ h.1))

pub own_inside : (w : List Lexeme) (next : Lexeme) (items : Stmts) (from : ℕ) → IsScript w next items → TokensRise from w → (i : Inner) → IsFunctionIn items i → fill_inside (own_bodies items) (nameless i.func) ≡ nameless i.func
own_inside w next items from s r i f = filled (own_bodies items) i.func (in_every (HasOwn (own_bodies items)) items (all_own w next items from s r) i f)
