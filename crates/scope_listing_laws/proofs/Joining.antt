-- How the lists of parts make the list of a whole.
use Rattle.std.proofs.Common.{◌≡◌, ◌∙◌, ℕ, Bool, true, false, None, Option, option_map, List, [], ◌∷◌, ◌++◌, append_assoc, append-nil, refl, sym, ap, subst}
use Rattle.stencil_data.specs.declared.functions.FuncKind.{FuncKind}
use Rattle.stencil_data.specs.declared.functions.FuncKind.TheVariants as func
use Rattle.script_grammar.specs.declared.token.FuncForm.{FuncForm}
use Rattle.script_grammar.specs.declared.token.FuncForm.TheVariants as form
use Rattle.script_grammar.specs.Braced as braced
use Rattle.script_grammar.specs.Pieces.{whole}
use Rattle.script_grammar.specs.Proper.{ProperFunction, IsFuncExpression, IsDeclaration, IsNamelessOf}
use Rattle.script_grammar.specs.Tree.{Named, Function, function, Stmts}
use Rattle.scope_analysis.specs.DeclaredNames.{Text}
use Rattle.scope_analysis.specs.Functions.{Inner, expression_kind, function_form, named_inner, nameless_inner}
use Rattle.parse_handlers.specs.Inner as found
use Rattle.parse_handlers.specs.Inner.{no_inner, more_inner, kind_of, text_of_name, is_braced, is_simple}
use Rattle.scope_listing_laws.specs.Listing.{Outline, outline_in, outside_body, Mirrors, bodies_before}

-- A part whose functions parse_handlers puts before others, whose braced bodies are put before others, and whose functions
-- scope_analysis lists.
pub record Lists (put : found.Inner → found.Inner) (bodies : List Stmts → List Stmts) (fs : List Inner) : Type 0 where
  pub mirrors : (rest : found.Inner) (gs : List Inner) → Mirrors rest gs → Mirrors (put rest) (fs ++ gs)
  pub braced : (rest : List Stmts) → bodies rest ≡ bodies_before fs rest

bodies_before-append : (fs gs : List Inner) (rest : List Stmts) → bodies_before (fs ++ gs) rest ≡ bodies_before fs (bodies_before gs rest)
bodies_before-append [] gs rest = refl
bodies_before-append (f ∷ fs) gs rest = ap (λ (all : List Stmts). braced.in_function true f.func all) (bodies_before-append fs gs rest)

-- no function
pub none : Lists (λ rest. rest) (λ rest. rest) []
none = record { mirrors = λ rest gs h. h; braced = λ rest. refl }

-- one part after the other
pub both : {put put' : found.Inner → found.Inner} {bodies bodies' : List Stmts → List Stmts} {fs gs : List Inner}
    → Lists put bodies fs → Lists put' bodies' gs → Lists (λ rest. put (put' rest)) (λ rest. bodies (bodies' rest)) (fs ++ gs)
both {put = put} {put' = put'} {bodies = bodies} {bodies' = bodies'} {fs = fs} {gs = gs} p q = record {
  mirrors = λ rest hs h.
      subst (λ (all : List Inner). Mirrors (put (put' rest)) all) (sym (append_assoc fs gs hs)) (p.mirrors (put' rest) (gs ++ hs) (q.mirrors rest hs h));
  braced = λ rest. p.braced (bodies' rest) ∙ ap (λ (all : List Stmts). bodies_before fs all) (q.braced rest) ∙ sym (bodies_before-append fs gs rest);
}

-- what is listed of a whole
pub closed : {put : found.Inner → found.Inner} {bodies : List Stmts → List Stmts} {fs : List Inner} → Lists put bodies fs → Mirrors (put no_inner) fs
closed {put = put} {fs = fs} p = subst (λ (all : List Inner). Mirrors (put no_inner) all) (append-nil fs) (p.mirrors no_inner [] tt)

-- ---- functions

-- what parse_handlers finds outside a function's body in braces
abbrev pub inside_of : Function → found.Inner
inside_of (function form start end name ps comma bare body) = found.in_params ps (found.in_body body no_inner)

-- of which the grammar has each, and what is outside whose body in braces is listed in both ways
abbrev pub IsMirrored : Function → Type 0
IsMirrored f = ProperFunction whole f × ((kind : FuncKind) (name : Option Text) → Mirrors (inside_of f) (outside_body kind name f))

-- a function of this kind and name, by what is found of it
one : (kind kind' : FuncKind) (name name' : Option Text) (f : Function) (around : List ℕ) (start end : ℕ) (is_braced is_simple : Bool)
    → outline_in kind name f ≡ record { start = start; end = end; kind = kind'; name = name'; braced = is_braced; simple = is_simple } → IsMirrored f
    → Lists (λ rest. more_inner start end kind' name' is_braced is_simple (inside_of f) rest) (λ rest. braced.in_function true f rest) (record { func = f; kind = kind; name = name; around = around } ∷ [])
one kind kind' name name' f around start end is_braced is_simple e m = record { mirrors = λ rest gs h. (e, m.0, m.1 kind name, h); braced = λ rest. refl }

-- a function expression
pub expression : (at : ℕ) (f : Function) (around : List ℕ) → IsFuncExpression at f → IsMirrored f
    → Lists (found.in_function false f) (braced.in_function true f) (named_inner (expression_kind (function_form f)) f around)
expression at (function form.Function start end name ps comma bare body) around i m = one _ _ _ _ _ _ start end _ _ refl m
expression at (function form.Arrow start end name ps comma bare body) around i m = one _ _ _ _ _ _ start end _ _ refl m
expression at (function form.Script start end name ps comma bare body) around i m = absurd i
expression at (function form.Method start end name ps comma bare body) around i m = absurd i
expression at (function form.Getter start end name ps comma bare body) around i m = absurd i
expression at (function form.Setter start end name ps comma bare body) around i m = absurd i

-- a declared function
pub declaration : (f : Function) (around : List ℕ) → IsDeclaration f → IsMirrored f
    → Lists (found.in_function true f) (braced.in_function true f) (named_inner func.Declared f around)
declaration (function form.Function start end name ps comma bare body) around i m = one _ _ _ _ _ _ start end _ _ refl m
declaration (function form.Script start end name ps comma bare body) around i m = absurd i
declaration (function form.Arrow start end name ps comma bare body) around i m = absurd i
declaration (function form.Method start end name ps comma bare body) around i m = absurd i
declaration (function form.Getter start end name ps comma bare body) around i m = absurd i
declaration (function form.Setter start end name ps comma bare body) around i m = absurd i

-- a method, a getter or a setter
pub method : (wanted : FuncForm) (f : Function) (around : List ℕ) → IsNamelessOf wanted f → IsMirrored f
    → Lists (found.in_function false f) (braced.in_function true f) (nameless_inner (kind_of false wanted) f around)
method wanted (function form start end name ps comma bare body) around i m =
    let made : FuncKind → Option Text → Outline = λ k n. record { start = start; end = end; kind = k; name = n; braced = is_braced body; simple = is_simple ps } in
    one _ _ _ _ _ _ start end _ _ (ap (λ (k : FuncForm). made (kind_of false k) None) (sym i.0) ∙ ap (λ (n : Option Named). made (kind_of false form) (option_map text_of_name n)) (sym i.1)) m
