-- Where the last token of a function ends.
use Rattle.std.proofs.Common.{◌≡◌, ◌∙◌, ℕ, suc, List, [], ◌∷◌, ◌++◌, refl, sym, ap}
use Rattle.script_grammar.specs.declared.token.FuncForm.{FuncForm}
use Rattle.script_grammar.specs.declared.token.mark.TheConstants as mark
use Rattle.script_grammar.specs.Lexeme.{Lexeme}
use Rattle.script_grammar.specs.Tree.{Function, function, Body}
use Rattle.script_grammar.specs.Tree as tree
use Rattle.script_grammar.specs.Pieces.{whole, Fits, closing_mark, mark_piece, until}
use Rattle.script_grammar.specs.Print.{print, print_stmts, print_function, print_body, print_params, param_depth, parenthesized, arrow_pieces}
use Rattle.script_grammar.specs.Proper.{ProperFunction, ProperBody}
use Rattle.grammar_parser_specs.specs.Exprs.{last_end}
use Rattle.grammar_complete_laws.proofs.ExprEnds.{expr_ends, until_stands}
use Rattle.grammar_parser_laws.proofs.Fitting.{fits_part}
use Rattle.grammar_parser_laws.proofs.ProperIn.{whole_mode, in_expr}
use Rattle.grammar_parser_laws.proofs.Stands.{fits_standing}
use Rattle.grammar_alone_laws.specs.Alone.{end_of}

last_append : (k : ℕ) (u v : List Lexeme) → last_end k (u ++ v) ≡ last_end (last_end k u) v
last_append k [] v = refl
last_append k (t ∷ u) v = last_append t.end u v

closing_ends : (i end d : ℕ) (w : List Lexeme) (n : Lexeme) → Fits (closing_mark i end d ∷ []) w n → (k : ℕ) → last_end k w ≡ end
closing_ends i end d [] n h k = absurd h
closing_ends i end d (t ∷ []) n h k = h.0.ends.0
closing_ends i end d (t ∷ u ∷ w) n h k = absurd h.1

body_ends : (d end : ℕ) (form : FuncForm) (x : Body) → ProperBody whole form x → (w : List Lexeme) (n : Lexeme) → Fits (print_body whole d end x) w n → (k : ℕ) → last_end k w ≡ end
body_ends d end form (tree.BracedBody items) p w n h k =
    let s = fits_part (mark_piece mark.OPEN_BRACE d ∷ print_stmts whole d items) (closing_mark mark.CLOSE_BRACE end d ∷ []) w n h in
    ap (last_end k) s.split ∙ last_append k s.front s.back ∙ closing_ends mark.CLOSE_BRACE end d s.back n s.second (last_end k s.front)
body_ends d end form (tree.ShortBody value) p w n h k =
    let s = fits_standing (until end (print whole (suc d) value)) w n h in
    ap (last_end k) (sym s.lexemes_are) ∙ (until_stands end (print whole (suc d) value) s.marked n (expr_ends whole_mode (suc d) value (in_expr value p.3)) s.stands).1 k

pub function_ends : (d : ℕ) (f : Function) → ProperFunction whole f → (w : List Lexeme) (n : Lexeme) → Fits (print_function whole d f) w n → (k : ℕ) → last_end k w ≡ end_of f
function_ends d (function form start end name ps comma bare body) p w n h k =
    let s = fits_part (parenthesized bare start d (print_params whole (param_depth form bare d) d ps) comma) _ w n h in
    let r = fits_part (arrow_pieces form d) (print_body whole d end body) s.back n s.second in
    ap (last_end k) s.split ∙ last_append k s.front s.back
    ∙ ap (last_end (last_end k s.front)) r.split ∙ last_append (last_end k s.front) r.front r.back
    ∙ body_ends d end form body p.4 r.back n r.second (last_end (last_end k s.front) r.front)
