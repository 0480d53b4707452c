-- What the pending list gained at each call, and the part where the gained bodies are read in place.
use Rattle.std.proofs.Common.{◌≡◌, ◌∙◌, ℕ, ◌-◌, ◌≤◌, [], refl, sym, ap, subst, arith, Bool, Option, Ok, Err}
use Rattle.script_grammar.specs.declared.node.NodeFunc.{NodeFunc}
use Rattle.script_grammar.specs.declared.token.FuncForm.{FuncForm}
use Rattle.script_grammar.specs.Fault.{depth_limit}
use Rattle.script_grammar.specs.Interpretation.{Interpretation}
use Rattle.script_grammar.specs.Tree.{Named, Expr, Stmts, no_stmts}
use Rattle.grammar_parser_specs.specs.Parser.{Parser}
use Rattle.grammar_parser_specs.specs.Exprs.{Env, AnAssign, BodyRead, expr_of, function_of, passing}
use Rattle.grammar_parser_specs.specs.Stmts as pure
use Rattle.grammar_local_laws.proofs.AgreesScripts.{calls_are}
use Rattle.grammar_complete_laws.proofs.CompleteFunctions.{PlainForm}
use Rattle.grammar_deferred_laws.proofs.PassedBodies.{pass_braced}
use Rattle.grammar_deferred_laws.proofs.PassedParts.{pass_assign, pass_expression}
use Rattle.parse_pending_laws.proofs.Rises.{Rises}
use Rattle.parse_pending_laws.proofs.RisesAll.{assign_rises, expression_rises, headed_rises, own_rises}
use Rattle.parse_exprs.specs.declared.part.Ranked.{Ranked}
use Rattle.parse_exprs.specs.declared.place.ParseFault.{ParseFault}
use Rattle.parse_exprs.specs.declared.place.Cursor.{Cursor}
use Rattle.parse_exprs.specs.declared.source.Source.{Source}
use Rattle.parse_exprs.specs.Answers.{Answers, Refuses, records}
use Rattle.parse_exprs.specs.Env.{body_at, env_at}
use Rattle.parse_exprs.specs.Means.{RankedOf}
use Rattle.parse_exprs.specs.Source.{front}
use Rattle.parse_bodies.specs.Blocks.{stmts_at, all_at}
use Rattle.parse_bodies.specs.Means.{BodyOf}
use Rattle.parse_bodies.specs.declared.part.BodyNode.{BodyNode}
use Rattle.parse_bodies.proofs.Parts.{func_read}
use Rattle.script_grammar.specs.Shows.{FuncOf}
use Rattle.parse_parts.specs.Pending.{gained, Gains, IsGained, CompletesAssignment, CompletesExpression, CompletesHead, CompletesBody}
use Rattle.parse_parts.proofs.Clauses.{env_here}
use Rattle.parse_parts.proofs.Completed.{have_read, whole_assign, whole_expression, whole_head, whole_body}
use Rattle.parse_parts.proofs.Gained.{gains_read, gains_refused, gained_read}
use Rattle.parse_parts.proofs.Takes.{given}

-- Which bodies are gained does not depend on an interpretation, so any will do.
pub nothing : Interpretation
nothing = record { texts = []; bodies = λ start. no_stmts }

module _ (s : Source) (i : Interpretation) (d : ℕ) (old new : Cursor) where
  -- an AssignmentExpression

  module _ {E : Type 0} (shows : E → Expr → Type 0) (w : Bool) where
    assign_here : (env_at i d).sub (AnAssign w) ≡ pass_assign (body_at i) (given i) (depth_limit - d) w
    unfolding env_at
    assign_here = sym (calls_are (passing (body_at i)) (depth_limit - d) (AnAssign w))

    assigns_rise : Rises ((env_at i d).sub (AnAssign w))
    assigns_rise = subst (λ (f : Parser Expr). Rises f) (sym assign_here) (assign_rises (body_at i) (depth_limit - d) w)

    pub assignment_gains : (v : Ranked E) → Answers (RankedOf shows) s i new (Ok v) (records s i old) ((env_at i d).sub (AnAssign w) (front s i old.at)) → Gains s old.at new.at old.pending.items new.pending.items
    assignment_gains v a = gains_read s i ((env_at i d).sub (AnAssign w)) assigns_rise old new a.0 a.4

    pub assignment_lost : (e : ParseFault) → Refuses s i new e (records s i old) ((env_at i d).sub (AnAssign w) (front s i old.at)) → IsGained {A = E} s old new (Err e)
    assignment_lost e a = gains_refused s i ((env_at i d).sub (AnAssign w)) assigns_rise old new E e a

    pub assignment_completes : d ≤ depth_limit → (v : Ranked E) → Answers (RankedOf shows) s i new (Ok v) (records s i old) ((env_at i d).sub (AnAssign w) (front s i old.at)) → CompletesAssignment i shows s w d old new (Ok v.node)
    assignment_completes low v a bodies h =
        whole_assign i (depth_limit - d) d (omega (arith, low)) (front s i old.at) (front s i new.at) _ bodies (have_read i s (gained old.pending.items new.pending.items) bodies h) shows w v.node a.0 a.1
        (ap (λ (f : Parser Expr). f (front s i old.at)) (sym assign_here) ∙ gained_read s i ((env_at i d).sub (AnAssign w)) old new a.0 a.4)

  -- an Expression

  module _ {E : Type 0} (shows : E → Expr → Type 0) (w : Bool) where
    expression_here : expr_of (env_at i d) w ≡ pass_expression (body_at i) (given i) (depth_limit - d) w
    expression_here = ap (λ (v : Env). expr_of v w) (env_here i d)

    expressions_rise : Rises (expr_of (env_at i d) w)
    expressions_rise = subst (λ (f : Parser Expr). Rises f) (sym expression_here) (expression_rises (body_at i) (depth_limit - d) w)

    pub expression_gains : (v : Ranked E) → Answers (RankedOf shows) s i new (Ok v) (records s i old) (expr_of (env_at i d) w (front s i old.at)) → Gains s old.at new.at old.pending.items new.pending.items
    expression_gains v a = gains_read s i (expr_of (env_at i d) w) expressions_rise old new a.0 a.4

    pub expression_lost : (e : ParseFault) → Refuses s i new e (records s i old) (expr_of (env_at i d) w (front s i old.at)) → IsGained {A = E} s old new (Err e)
    expression_lost e a = gains_refused s i (expr_of (env_at i d) w) expressions_rise old new E e a

    pub expression_completes : d ≤ depth_limit → (v : Ranked E) → Answers (RankedOf shows) s i new (Ok v) (records s i old) (expr_of (env_at i d) w (front s i old.at)) → CompletesExpression i shows s w d old new (Ok v.node)
    expression_completes low v a bodies h =
        whole_expression i (depth_limit - d) d (omega (arith, low)) (front s i old.at) (front s i new.at) _ bodies (have_read i s (gained old.pending.items new.pending.items) bodies h) shows w v.node a.0 a.1
        (ap (λ (f : Parser Expr). f (front s i old.at)) (sym expression_here) ∙ gained_read s i (expr_of (env_at i d) w) old new a.0 a.4)

  -- a function that is no arrow

  module _ {E B : Type 0} (shows : E → Expr → Type 0) (shows_body : B → Stmts → Type 0) (f : FuncForm) (name : Option Named) where
    functions_rise : Rises (function_of (env_at i d) f name)
    functions_rise = subst (λ (v : Env). Rises (function_of v f name)) (sym (env_here i d)) (headed_rises (body_at i) (depth_limit - d) f name)

    pub head_gains : (n : NodeFunc E B) → Answers (FuncOf i shows shows_body) s i new (Ok n) (records s i old) (function_of (env_at i d) f name (front s i old.at)) → Gains s old.at new.at old.pending.items new.pending.items
    head_gains n a = let x = func_read i shows shows_body n a in gains_read s i (function_of (env_at i d) f name) functions_rise old new x.0 x.2

    pub head_lost : (e : ParseFault) → Refuses s i new e (records s i old) (function_of (env_at i d) f name (front s i old.at)) → IsGained {A = NodeFunc E B} s old new (Err e)
    head_lost e a = gains_refused s i (function_of (env_at i d) f name) functions_rise old new (NodeFunc E B) e a

    pub head_completes : PlainForm f → d ≤ depth_limit → (n : NodeFunc E B) → Answers (FuncOf i shows shows_body) s i new (Ok n) (records s i old) (function_of (env_at i d) f name (front s i old.at)) → CompletesHead i shows shows_body s f name d old new (Ok n)
    head_completes plain low n a bodies h =
        let x = func_read i shows shows_body n a in
        whole_head i (depth_limit - d) d (omega (arith, low)) (front s i old.at) (front s i new.at) _ bodies (have_read i s (gained old.pending.items new.pending.items) bodies h) shows shows_body f name plain n x.0 x.1
        (ap (λ (v : Env). function_of v f name (front s i old.at)) (sym (env_here i d)) ∙ gained_read s i (function_of (env_at i d) f name) old new x.0 x.2)

  -- a braced body

  module _ {B : Type 0} (shows : B → Stmts → Type 0) (f : FuncForm) (at : ℕ) (simple : Bool) where
    body_here : pure.reading (stmts_at i d) f at simple ≡ pass_braced (body_at i) (given i) (depth_limit - d) f at simple
    unfolding stmts_at all_at
    body_here = refl

    bodies_rise : Rises (pure.reading (stmts_at i d) f at simple)
    bodies_rise = subst (λ (g : Parser BodyRead). Rises g) (sym body_here) (own_rises (body_at i) (depth_limit - d) f at simple)

    pub body_gains : (v : BodyNode B) → Answers (BodyOf shows) s i new (Ok v) (records s i old) (pure.reading (stmts_at i d) f at simple (front s i old.at)) → Gains s old.at new.at old.pending.items new.pending.items
    body_gains v a = gains_read s i (pure.reading (stmts_at i d) f at simple) bodies_rise old new _ a.2

    pub body_lost : (e : ParseFault) → Refuses s i new e (records s i old) (pure.reading (stmts_at i d) f at simple (front s i old.at)) → IsGained {A = BodyNode B} s old new (Err e)
    body_lost e a = gains_refused s i (pure.reading (stmts_at i d) f at simple) bodies_rise old new (BodyNode B) e a

    pub body_completes : d ≤ depth_limit → (v : BodyNode B) → Answers (BodyOf shows) s i new (Ok v) (records s i old) (pure.reading (stmts_at i d) f at simple (front s i old.at)) → CompletesBody i shows s d old new (Ok v)
    body_completes low v a bodies h =
        whole_body i (depth_limit - d) d (omega (arith, low)) (front s i old.at) (front s i new.at) _ bodies (have_read i s (gained old.pending.items new.pending.items) bodies h) shows f at simple v.node a.0 v.end a.1
        (ap (λ (g : Parser BodyRead). g (front s i old.at)) (sym body_here) ∙ gained_read s i (pure.reading (stmts_at i d) f at simple) old new _ a.2)
