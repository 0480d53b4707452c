-- What the parsers read that pass bodies over, in the words of the grammar.
use Rattle.std.proofs.Common.{◌≡◌, ◌∙◌, ℕ, suc, ◌+◌, List, [], ◌∷◌, ◌++◌, refl, sym, ap, subst, Bool, Option}
use Rattle.script_grammar.specs.declared.token.FuncForm.{FuncForm}
use Rattle.script_grammar.specs.declared.token.FuncForm.TheVariants as form
use Rattle.script_grammar.specs.declared.node.NodeFunc.{NodeFunc}
use Rattle.script_grammar.specs.Interpretation.{Interpretation}
use Rattle.script_grammar.specs.Lexeme.{Lexeme}
use Rattle.script_grammar.specs.Shows.{ShowFunc}
use Rattle.script_grammar.specs.Tree.{Named, Expr, Stmts, Body, Function}
use Rattle.script_grammar.specs.Tree as tree
use Rattle.script_grammar.specs.Pieces.{passed, depths}
use Rattle.script_grammar.specs.Print.{print, print_function}
use Rattle.script_grammar.specs.Script.{print_braced, print_alone}
use Rattle.script_grammar.specs.Fault.{depth_limit, Part, Begins, AssignPart, ExpressionPart}
use Rattle.grammar_parser_specs.specs.Parser.{Reply, Read, head_of}
use Rattle.grammar_parser_specs.specs.Exprs.{BodyRead}
use Rattle.grammar_parser_specs.specs.Filling.{fill_stmts, fill_function}
use Rattle.grammar_parser_laws.proofs.Complete.{bare}
use Rattle.grammar_complete_laws.proofs.CompleteFunctions.{PlainForm}
use Rattle.grammar_parser_laws.proofs.Tests.{end_known}
use Rattle.grammar_script_laws.proofs.Closed.{Closed}
use Rattle.grammar_deferred_laws.proofs.ClosedParts.{assign_balanced, expression_balanced, leaves_some}
use Rattle.grammar_deferred_laws.proofs.Longest.{passed_assign_is_longest, passed_expression_is_longest}
use Rattle.grammar_local_laws.proofs.PassingLaws.{AreBraced}
use Rattle.grammar_deferred_laws.proofs.PassedParts.{pass_assign, pass_expression, passed_is_assign, passed_is_expression}
use Rattle.grammar_deferred_laws.proofs.PassedBodies.{pass_braced, passed_is_body, body_is_passed}
use Rattle.grammar_deferred_laws.proofs.PassedHeads.{pass_head, passed_is_head, head_is_passed}
use Rattle.grammar_deferred_laws.proofs.PassedFunctions.{pass_alone, passed_is_function, function_is_passed}
use Rattle.grammar_script_laws.proofs.AgreesAlone.{fill_alone}
use Rattle.parse_exprs.specs.Env.{body_at}
use Rattle.parse_parts.specs.Parts.{IsLongest, TakesAssign, TakesExpression, TakesHead, TakesBody, TakesAlone, fill_inside}
use Rattle.parse_parts.proofs.Refills.{assign_kept, expression_kept}

-- the bodies that an interpretation gives are braced
pub given : (i : Interpretation) → AreBraced (body_at i)
given i = record { items = i.bodies; are = λ n. refl }

-- after what was read stands a token
longest_by : (P : Part) (tokens us : List Lexeme) → (us ≡ [] → ⊥) → ((x : Lexeme) (r : List Lexeme) → us ≡ x ∷ r → Begins P (tokens ++ x ∷ []) → ⊥) → IsLongest P tokens us
longest_by P tokens [] n h b = n refl
longest_by P tokens (x ∷ r) n h b = h x r refl b

same_value : {A : Type 0} (a b : A) (us : List Lexeme) → ◌≡◌ {A = Reply A} (Read a [] us) (Read b [] us) → a ≡ b
same_value a b us e = cc

module _ (i : Interpretation) (room d : ℕ) (q : room + d ≡ depth_limit) (ts us : List Lexeme) where
  module _ {E : Type 0} (shows : E → Expr → Type 0) (w : Bool) (node : E) (e : Expr) where
    pub takes_assign : Closed ts → shows node e → bare (pass_assign (body_at i) (given i) room w ts) ≡ Read e [] us → TakesAssign i shows w d ts us node
    takes_assign c s h =
        let p = passed_is_assign (body_at i) (given i) room d q w ts us e h in
        let part : AssignPart passed w d p.front (depths (print passed (suc d) e) p.front (head_of us) p.is.fits) = record { next = head_of us; tree = e; is = p.is; deep_is = refl } in
        record {
          taken = record { tokens = p.front; split = p.split; deep = depths (print passed (suc d) e) p.front (head_of us) p.is.fits; part = part; shallow = p.shallow };
          next = refl;
          shown = subst (shows node) (sym (assign_kept (body_at i) (given i) room w ts us e h)) s;
          longest = longest_by (AssignPart passed w d) p.front us (leaves_some (AssignPart passed w d) (assign_balanced passed w d) ts p.front us _ c p.split part)
              (λ x r k. passed_assign_is_longest (body_at i) (given i) room d q w p.front x r e (ap (λ y. bare (pass_assign (body_at i) (given i) room w (p.front ++ y))) (sym k) ∙ ap (λ y. bare (pass_assign (body_at i) (given i) room w y)) (sym p.split) ∙ h ∙ ap (Read e []) k));
        }

    pub takes_expression : Closed ts → shows node e → bare (pass_expression (body_at i) (given i) room w ts) ≡ Read e [] us → TakesExpression i shows w d ts us node
    takes_expression c s h =
        let p = passed_is_expression (body_at i) (given i) room d q w ts us e h in
        let part : ExpressionPart passed w d p.front (depths (print passed (suc d) e) p.front (head_of us) p.is.fits) = record { next = head_of us; tree = e; is = p.is; deep_is = refl } in
        record {
          taken = record { tokens = p.front; split = p.split; deep = depths (print passed (suc d) e) p.front (head_of us) p.is.fits; part = part; shallow = p.shallow };
          next = refl;
          shown = subst (shows node) (sym (expression_kept (body_at i) (given i) room w ts us e h)) s;
          longest = longest_by (ExpressionPart passed w d) p.front us (leaves_some (ExpressionPart passed w d) (expression_balanced passed w d) ts p.front us _ c p.split part)
              (λ x r k. passed_expression_is_longest (body_at i) (given i) room d q w p.front x r e (ap (λ y. bare (pass_expression (body_at i) (given i) room w (p.front ++ y))) (sym k) ∙ ap (λ y. bare (pass_expression (body_at i) (given i) room w y)) (sym p.split) ∙ h ∙ ap (Read e []) k));
        }

  pub takes_body : {B : Type 0} (shows : B → Stmts → Type 0) (f : FuncForm) (start : ℕ) (simple : Bool) (node : B) (items : Stmts) (end : ℕ) → shows node items → bare (pass_braced (body_at i) (given i) room f start simple ts) ≡ Read (record { body = tree.BracedBody items; end = end }) [] us → TakesBody i shows d end ts us node
  takes_body shows f start simple node items end s h =
      let p = passed_is_body (body_at i) (given i) room d q f start simple ts us _ h in
      let again = body_is_passed (body_at i) (given i) room d q f start simple end p.front us p.items p.is p.shallow in
      let same = same_value _ _ us (sym h ∙ ap (λ x. bare (pass_braced (body_at i) (given i) room f start simple x)) p.split ∙ again) in
      record {
        taken = record { tokens = p.front; split = p.split; deep = depths (print_braced passed d end p.items) p.front (head_of us) p.is.fits; part = record { next = head_of us; end = end; items = p.items; is = p.is; deep_is = refl }; shallow = p.shallow };
        next = refl;
        ends = refl;
        shown = subst (shows node) (items_are items (fill_stmts (body_at i) p.items) end same) s;
      }
    where
      items_are : (a b : Stmts) (n : ℕ) → ◌≡◌ {A = BodyRead} (record { body = tree.BracedBody a; end = n }) (record { body = tree.BracedBody b; end = n }) → a ≡ b
      items_are a b n e = inside (ap (λ (x : BodyRead). x.body) e)
        where
          inside : tree.BracedBody a ≡ tree.BracedBody b → a ≡ b
          inside k = cc

  module _ {E B : Type 0} (shows : E → Expr → Type 0) (shows_body : B → Stmts → Type 0) (f : FuncForm) (node : NodeFunc E B) (x : Function) where
    pub takes_head : (name : Option Named) (plain : PlainForm f) → ShowFunc i shows shows_body node x → bare (pass_head (body_at i) (given i) room d f name plain ts) ≡ Read x [] us → TakesHead i shows shows_body f name d ts us node
    takes_head name plain s h =
        let p = passed_is_head (body_at i) (given i) room d f name plain q ts us x h in
        let again = head_is_passed (body_at i) (given i) room d f name plain q p.front us x p.is p.shallow in
        let same : x ≡ fill_function (body_at i) x = same_value x (fill_function (body_at i) x) us (sym h ∙ ap (λ y. bare (pass_head (body_at i) (given i) room d f name plain y)) p.split ∙ again) in
        record {
          taken = record {
            tokens = p.front;
            split = p.split;
            deep = depths (print_function passed d x) p.front (head_of us) p.is.fits;
            part = record { next = head_of us; tree = x; is = record { of = p.is.of; proper = p.is.proper; fits = p.is.fits }; deep_is = refl };
            shallow = p.shallow;
          };
          next = refl;
          shown = subst (ShowFunc i shows shows_body node) same s;
        }

    inside_same : (y : Function) → fill_alone (body_at i) y ≡ fill_inside (body_at i) y
    inside_same (tree.function g start end who ps comma bare (tree.BracedBody items)) = refl
    inside_same (tree.function g start end who ps comma bare (tree.ShortBody value)) = refl

    pub takes_alone : (f ≡ form.Script → ⊥) → ShowFunc i shows shows_body node x → bare (pass_alone (body_at i) (given i) room f ts) ≡ Read x [] us → TakesAlone i shows shows_body f d ts us node
    takes_alone n s h =
        let p = passed_is_function (body_at i) (given i) room d q f n ts us x h in
        let again = function_is_passed (body_at i) (given i) room d q f p.front us x p.is p.shallow p.ends in
        let same : x ≡ fill_alone (body_at i) x = same_value x (fill_alone (body_at i) x) us (sym h ∙ ap (λ y. bare (pass_alone (body_at i) (given i) room f y)) p.split ∙ again) in
        record {
          taken = record { tokens = p.front; split = p.split; deep = depths (print_alone passed d x) p.front (head_of us) p.is.fits; part = record { next = head_of us; tree = x; is = p.is; deep_is = refl }; shallow = p.shallow };
          next = refl;
          ends = end_known (head_of us).kind p.ends;
          shown = subst (ShowFunc i shows shows_body node) (same ∙ inside_same x) s;
        }
