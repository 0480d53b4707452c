-- The laws applied to `function f(a){return () => a}`.
use Rattle.std.proofs.Common.{◌≡◌, ℕ, zero, suc, ◌≤◌, inl, List, [], ◌∷◌, false, codes, get_or, Some, None, refl, arith}
use Rattle.script_grammar.specs.declared.token.FuncForm.TheVariants as form
use Rattle.script_grammar.specs.declared.token.Kind.{Kind}
use Rattle.script_grammar.specs.declared.token.Kind.TheVariants as kind
use Rattle.script_grammar.specs.declared.token.mark.TheConstants as mark
use Rattle.script_grammar.specs.declared.token.word.TheConstants as word
use Rattle.script_grammar.specs.Fault.{depth_limit}
use Rattle.script_grammar.specs.Lexeme.{Lexeme, role_of}
use Rattle.script_grammar.specs.Pieces.{whole, Slot, Is, IsWanted, Has, AllAre, Fits, depths}
use Rattle.script_grammar.specs.Print.{print_stmts}
use Rattle.script_grammar.specs.Proper.{ProperStmts}
use Rattle.script_grammar.specs.Tree.{Func, Name, no_expr, some_expr, Function, function, no_params, more_params, BracedBody, ShortBody, Return, Declared, Stmts, no_stmts, more_stmts}
use Rattle.stencil_data.specs.declared.functions.FuncKind.TheVariants as func
use Rattle.stencil_data.specs.LinkView.{LinkView}
use Rattle.scope_analysis.specs.Functions.{Inner}
use Rattle.scope_analysis.specs.Scopes.{function_scopes, script_scopes}
use Rattle.emit_stmts.specs.Functions.{chain_at}
use Rattle.emit_limit_laws.specs.EveryFunction.{IsFunctionOf, at_top, inside}
use Rattle.emit_limit_laws.specs.Limits.{ScriptStands, ScriptWithin, FunctionWithin}
use Rattle.emit_limit_laws.specs.Places.{AllUpTo}
use Rattle.emit_limit_laws.proofs.EveryFunction.{every_within}
use Rattle.emit_limit_laws.proofs.Scripts.{script_within}

-- ---- the tokens

abbrev lexeme : Kind → List ℕ → ℕ → ℕ → Lexeme
lexeme k text start end = record { kind = k; text = text; number = 0; role = role_of k text; start = start; end = end; after_line = false }

abbrev tokens : List Lexeme
tokens =
    lexeme (kind.Word word.FUNCTION) (codes "function") 0 8
    ∷ lexeme kind.Name (codes "f") 9 10
    ∷ lexeme (kind.Mark mark.OPEN_PAREN) [] 10 11
    ∷ lexeme kind.Name (codes "a") 11 12
    ∷ lexeme (kind.Mark mark.CLOSE_PAREN) [] 12 13
    ∷ lexeme (kind.Mark mark.OPEN_BRACE) [] 13 14
    ∷ lexeme (kind.Word word.RETURN) (codes "return") 14 20
    ∷ lexeme (kind.Mark mark.OPEN_PAREN) [] 21 22
    ∷ lexeme (kind.Mark mark.CLOSE_PAREN) [] 22 23
    ∷ lexeme (kind.Mark mark.ARROW) [] 24 26
    ∷ lexeme kind.Name (codes "a") 27 28
    ∷ lexeme (kind.Mark mark.CLOSE_BRACE) [] 28 29
    ∷ []

abbrev last : Lexeme
last = lexeme kind.End [] 29 29

-- ---- the tree

abbrev arrow : Function
arrow = function form.Arrow 21 28 None no_params false false (ShortBody (Name (record { text = codes "a"; at = 27 })))

abbrev outer : Function
outer = function form.Function 10 29 (Some (record { text = codes "f"; at = 9 })) (more_params (record { text = codes "a"; at = 11 }) no_expr false no_params) false false
    (BracedBody (more_stmts (Return (some_expr (Func 21 arrow)) false) no_stmts))

abbrev items : Stmts
items = more_stmts (Declared outer) no_stmts

proper : ProperStmts whole false items
proper = ((tt, (tt, tt, tt, (tt, tt), ((refl, ((refl, refl), (refl, tt, tt, tt, (refl, omega arith, refl, tt)))), tt))), tt)

at : {s : Slot} {t : Lexeme} → IsWanted s.kind t.kind → Has s.content t → AllAre s.starts t.start → AllAre s.ends t.end → t.after_line ≡ false → Is s t
at k c ss es l = record { kind = k; content = c; starts = ss; ends = es; line = λ glued. l }

fits : Fits (print_stmts whole 0 items) tokens last
fits =
    (at refl tt tt tt refl, (at refl refl (refl, tt) tt refl, (at refl tt (refl, tt) tt refl, (at refl refl (refl, tt) tt refl, (at refl tt tt tt refl, (at refl tt tt tt refl, (at refl tt tt tt refl, (at refl tt (refl, tt) tt refl, (at refl tt tt tt refl, (at refl tt tt tt refl, (at refl refl (refl, tt) (refl, tt) refl, (refl, (at refl tt tt (refl, tt) refl, tt)))))))))))))

read : (limit : ℕ) (ds : List ℕ) → AllUpTo limit ds → (j : ℕ) → get_or ds j 0 ≤ limit
read limit [] h j = omega arith
read limit (d ∷ ds) h zero = h.0
read limit (d ∷ ds) h (suc j) = read limit ds h.1 j

-- ---- it stands well

stands : ScriptStands tokens last items
stands = record {
  script = record { proper = proper; fits = fits };
  few = omega arith;
  shallow = read depth_limit (depths (print_stmts whole 0 items) tokens last fits) shallow;
  rise = (omega arith, (omega arith, (omega arith, (omega arith, (omega arith, (omega arith, (omega arith, (omega arith, (omega arith, (omega arith, (omega arith, (omega arith, tt))))))))))));
  faultless = refl;
}
  where
    shallow : AllUpTo depth_limit (depths (print_stmts whole 0 items) tokens last fits)
    shallow = (omega arith, (omega arith, (omega arith, (omega arith, (omega arith, (omega arith, (omega arith, (omega arith, (omega arith, (omega arith, (omega arith, (omega arith, tt))))))))))))

within : ScriptWithin items
within = script_within tokens last items stands

-- and so does the arrow inside the function that is declared

abbrev declared : Inner
declared = record { func = outer; kind = func.Declared; name = Some (codes "f"); around = 0 ∷ [] }

abbrev returned : Inner
returned = record { func = arrow; kind = func.Arrow; name = None; around = 0 ∷ [] }

abbrev around_declared : List LinkView
around_declared = chain_at (script_scopes items) [] declared

abbrev around_returned : List LinkView
around_returned = chain_at (function_scopes func.Declared (Some (codes "f")) outer) around_declared returned

arrow_is_in : IsFunctionOf items returned around_returned
arrow_is_in = inside declared around_declared returned around_returned (at_top declared around_declared (inl refl) refl) (inl refl) refl

arrow_within : FunctionWithin func.Arrow None arrow around_returned
arrow_within = every_within tokens last items stands returned around_returned arrow_is_in
