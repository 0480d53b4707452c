-- The tokens up to the stop of their brackets are all of them where they are a function.
use Rattle.std.proofs.Common.{◌≡◌, ◌∙◌, ℕ, suc, ◌+◌, ◌<◌, ◌≤◌, ◌⊎◌, inl, inr, List, [], ◌∷◌, ◌++◌, length, map, take, drop, refl, sym, ap, subst, arith, None, Result, Ok, Err, length-append, append-nil, take-append-drop}
use Rattle.std.specs.Prelude.{Vec, IsErrAnd}
use Rattle.std.proofs.lemmas.Result.{err_from_is_err_and}
use Rattle.std.specs.declared.alloc.Global.{Global}
use Rattle.std.proofs.Math.ListN.{drop_of_length-le}
use Rattle.std.proofs.lemmas.List.{take-map, take-append-le}
use Rattle.std.proofs.lemmas.Bool.{cases_lt}
use Rattle.script_grammar.specs.declared.token.FuncForm.{FuncForm}
use Rattle.script_grammar.specs.declared.token.FuncForm.TheVariants as form
use Rattle.script_grammar.specs.declared.token.Token.{Token}
use Rattle.script_grammar.specs.declared.tree.Expr as code
use Rattle.script_grammar.specs.declared.tree.Func.{Func}
use Rattle.script_grammar.specs.declared.tree.Stmt.{Stmt}
use Rattle.script_grammar.specs.declared.node.NodeFunc.{NodeFunc}
use Rattle.script_grammar.specs.Interpretation.{Interpretation}
use Rattle.script_grammar.specs.Lexeme.{Lexeme, lexeme_of}
use Rattle.script_grammar.specs.Matching.{Matching}
use Rattle.script_grammar.specs.Pieces.{whole, open_at_end, IsBalanced, depths}
use Rattle.script_grammar.specs.Script.{print_alone}
use Rattle.script_grammar.specs.Tree.{Function}
use Rattle.grammar_script_laws.proofs.Closed.{Closed, open_front, not_both}
use Rattle.grammar_deferred_laws.proofs.ClosedParts.{function_balanced}
use Rattle.parse_exprs.specs.declared.source.Source.{Source}
use Rattle.parse_exprs.specs.declared.place.ParseFault.{ParseFault}
use Rattle.parse_exprs.specs.declared.place.ParseFault.TheVariants as faults
use Rattle.parse_exprs.specs.Source.{IsSource, lexemes, front}
use Rattle.parse_exprs.specs.Env.{body_at}
use Rattle.parse_exprs.proofs.Closing.{ended}
use Rattle.parse_handlers.specs.Kept.{IsExpr, IsBody, kept_func}
use Rattle.parse_function.proofs.Shown.{func_shown}
use Rattle.parse_parts.specs.Answers.{IsAlone}
use Rattle.parse_parts.specs.Parts.{fill_inside}
use Rattle.parse_function.specs.Alone.{AreFunction, IsReadAlone}
use Rattle.parse_function.proofs.Reading.{is_no_fault, taken_is}

-- brackets that match are open nowhere after the stop
cut_is_all : (n : ℕ) (inner : List Lexeme) (end : Lexeme) → IsBalanced inner → Closed (take n (inner ++ end ∷ [])) → take n (inner ++ end ∷ []) ≡ inner ++ end ∷ []
cut_is_all n inner end balanced closed = by (cases_lt (length inner) n)
  where
    size : length (inner ++ end ∷ []) ≡ length inner + 1
    size = length-append inner (end ∷ [])

    by : (length inner < n) ⊎ (n ≤ length inner) → take n (inner ++ end ∷ []) ≡ inner ++ end ∷ []
    by (inr le) =
        let o = open_front (take n inner) (drop n inner) [] [] (ap (open_at_end []) (take-append-drop n inner) ∙ balanced) in
        absurd (not_both (open_at_end [] (take n inner)) o.open_ones (subst Closed (take-append-le n inner (end ∷ []) le) closed).is o.is)
    by (inl lt) =
        sym (append-nil (take n (inner ++ end ∷ [])))
        ∙ ap (λ (us : List Lexeme). take n (inner ++ end ∷ []) ++ us) (sym (drop_of_length-le (inner ++ end ∷ []) {i = n} (omega (arith, lt, size))))
        ∙ take-append-drop n (inner ++ end ∷ [])

module _ (i : Interpretation) (f : FuncForm) (n : f ≡ form.Script → ⊥) (ts : List Token) (m : Matching) (s : Source) (get set : ℕ) (is : IsSource s) (cut : s.tokens.now ≡ take (suc m.stop) ts) (same_get : s.get ≡ get) (same_set : s.set ≡ set) where
  abbrev all : List Lexeme
  all = map (lexeme_of get set i.texts) ts

  front_is : lexemes s i ≡ take (suc m.stop) all
  front_is =
      ap (λ (g : ℕ). map (lexeme_of g s.set i.texts) s.tokens.now) same_get
      ∙ ap (λ (g : ℕ). map (lexeme_of get g i.texts) s.tokens.now) same_set
      ∙ ap (map (lexeme_of get set i.texts)) cut
      ∙ sym (take-map (lexeme_of get set i.texts) (suc m.stop) ts)

  all_there : (x : Function) → AreFunction all f x → front s i 0 ≡ all
  unfolding front
  all_there x t =
      let balanced : IsBalanced t.inner = (function_balanced whole f None 0).at t.inner (depths (print_alone whole 0 x) t.inner t.end t.is.fits) (record { next = t.end; tree = x; is = t.is; deep_is = refl }) in
      let closed : Closed (take (suc m.stop) (t.inner ++ t.end ∷ [])) = subst Closed (front_is ∙ ap (take (suc m.stop)) t.split) (ended s is i).closed in
      front_is ∙ ap (take (suc m.stop)) t.split ∙ cut_is_all (suc m.stop) t.inner t.end balanced closed ∙ sym t.split

  pub node_is : (at stop : ℕ) (node : NodeFunc code.Expr (Vec Stmt Global)) → at ≡ 0 → IsAlone i (IsExpr i) (IsBody i) s f at stop (Ok node) → (x : Function) → AreFunction all f x → kept_func i node ≡ fill_inside (body_at i) x
  node_is at stop node begins read x t =
      let k = subst (λ (n : ℕ). IsAlone i (IsExpr i) (IsBody i) s f n stop (Ok node)) begins read in
      func_shown i node (fill_inside (body_at i) x)
      (taken_is i f n (front s i 0) x (subst (λ (us : List Lexeme). AreFunction us f x) (sym (all_there x t)) t) (IsExpr i) (IsBody i) (front s i stop) node k.1)

  fault_at_start : (stop : ℕ) (e : ParseFault) → IsAlone {E = code.Expr} {B = Vec Stmt Global} i (IsExpr i) (IsBody i) s f 0 stop (Err e) → IsReadAlone i all f (Err e)
  fault_at_start stop (faults.Unexpected token) k = λ x t. is_no_fault i f n (front s i 0) x (subst (λ (us : List Lexeme). AreFunction us f x) (sym (all_there x t)) t) k.1
  fault_at_start stop (faults.TooDeep token) k = λ x t. is_no_fault i f n (front s i 0) x (subst (λ (us : List Lexeme). AreFunction us f x) (sym (all_there x t)) t) k.1
  fault_at_start stop faults.NoMemory k = tt

  pub fault_is : (at stop : ℕ) (e : ParseFault) → at ≡ 0 → IsAlone {E = code.Expr} {B = Vec Stmt Global} i (IsExpr i) (IsBody i) s f at stop (Err e) → IsReadAlone i all f (Err e)
  fault_is at stop e begins k = fault_at_start stop e (subst (λ (n : ℕ). IsAlone {E = code.Expr} {B = Vec Stmt Global} i (IsExpr i) (IsBody i) s f n stop (Err e)) begins k)

-- a fault is handed on
pub fault_on : (i : Interpretation) (tokens : List Lexeme) (f : FuncForm) (e : ParseFault) (r : Result Func ParseFault) → IsErrAnd r (λ y. y ≡ e) → IsReadAlone i tokens f (Err e) → IsReadAlone i tokens f r
fault_on i tokens f e r h k = let x = err_from_is_err_and r h in subst (IsReadAlone i tokens f) (ap Err (sym x.2) ∙ sym x.1) k
