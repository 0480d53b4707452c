-- Each function of a script is read from its text without what stands in the bodies of some functions directly in it.
use Rattle.std.proofs.Common.{◌≡◌, ◌∙◌, ℕ, suc, ◌+◌, ◌≤◌, List, [], ◌∷◌, ◌++◌, map, length, take, drop, get_or, Bool, true, false, cond, Option, None, refl, sym, ap, subst, append_assoc, take-append-drop, arith}
use Rattle.std.specs.Prelude.{◌==◌}
use Rattle.script_grammar.specs.declared.token.Kind.TheVariants as kind
use Rattle.script_grammar.specs.Fault.{depth_limit}
use Rattle.script_grammar.specs.Lexeme.{Lexeme}
use Rattle.script_grammar.specs.Pieces.{whole, depths}
use Rattle.script_grammar.specs.Print.{print_stmts}
use Rattle.script_grammar.specs.Script.{IsScript}
use Rattle.script_grammar.specs.Tree.{Function, function, Stmts}
use Rattle.stencil_data.specs.declared.functions.FuncKind.{FuncKind}
use Rattle.unit_text.specs.declared.Point.{Point}
use Rattle.unit_text.specs.Points.{points, code_of}
use Rattle.unit_text.specs.Points as units
use Rattle.script_scanner.specs.Blanks.{first_line_length}
use Rattle.script_scanner.specs.Tokens.{part, tokens}
use Rattle.script_scanner.specs.Lexemes.{lexeme_of, lexemes}
use Rattle.scan_laws.specs.Inside.{end_of, end_token}
use Rattle.scan_laws.proofs.Balanced.{pieces_close}
use Rattle.scan_laws.proofs.Places.{RiseTo, points_rise, part_rises, rise_behind}
use Rattle.scan_laws.proofs.ReadAlone.{read_alone}
use Rattle.scope_analysis.specs.DeclaredNames.{Text}
use Rattle.scope_analysis.specs.Functions.{Inner, function_form, inner_function}
use Rattle.grammar_alone_laws.specs.Alone.{nameless, at_front, StandsAlone}
use Rattle.grammar_alone_laws.specs.Functions.{IsFunctionIn}
use Rattle.grammar_alone_laws.proofs.Alone.{stands_alone, alone_shallow}
use Rattle.grammar_skip_laws.specs.Holes.{place_of, hollow_places}
use Rattle.parse_skip_laws.specs.Read.{ReadSkipped, text_of}
use Rattle.grammar_skip_laws.specs.Skipped.{Skipped}
use Rattle.parse_skip_laws.proofs.SkippedText.{skipped_text}
use Rattle.grammar_skip_laws.proofs.Skipping.{skipped}

-- the functions directly in a function do not hang on its name
same_inner : (kind : FuncKind) (name : Option Text) (f : Function) → inner_function kind name (nameless f) ≡ inner_function kind name f
same_inner kind name (function form start end who ps comma bare body) = refl

text_rises : (file : List ℕ) (from to : ℕ) → RiseTo to 0 (text_of file from to)
text_rises file from to = by (from == 0)
  where
    here : RiseTo to 0 (part from to (points file))
    here = part_rises from to 0 (points file) (omega arith) (points_rise 0 (units.codes_of file))

    by : (b : Bool) → RiseTo to 0 (cond b (drop (first_line_length (map code_of (part from to (points file)))) (part from to (points file))) (part from to (points file)))
    by false = here
    by true =
        let n = first_line_length (map code_of (part from to (points file))) in
        rise_behind to 0 (take n (part from to (points file))) (drop n (part from to (points file))) (subst (RiseTo to 0) (sym (take-append-drop n (part from to (points file)))) here)

pub function_skipped : (file : List ℕ) (w : List Lexeme) (end : Lexeme) (items : Stmts) (script : IsScript w end items) → lexemes file ≡ w ++ end ∷ []
    → ((j : ℕ) → get_or (depths (print_stmts whole 0 items) w end script.fits) j 0 ≤ depth_limit) → (i : Inner) → IsFunctionIn items i → (from to : ℕ)
    → (s : StandsAlone w end items script i.func) → from ≡ s.first.start → to ≡ end_of s.first s.rest → (chosen : ℕ → Bool) → ReadSkipped chosen i to (text_of file from to)
function_skipped file w end items script are shallow i inside from to s begins ends chosen = record {
  holes = k.holes;
  places = k.places ∙ ap (hollow_places chosen) (same_inner i.kind i.name i.func);
  all = at_front s.first ∷ s.rest;
  left = k.left;
  last = end_token to;
  alone = alone;
  leaves = k.leaves;
  scanned = λ others blanks. skipped_text chosen (inner_function i.kind i.name (nameless i.func)) (function_form i.func) None depth_limit (at_front s.first ∷ s.rest) (end_token to) (nameless i.func) k to 0 (text_of file from to) others (text_rises file from to) blanks alone;
  is = k.is;
  shallow = k.shallow;
}
  where
    k : Skipped chosen (inner_function i.kind i.name (nameless i.func)) (function_form i.func) None depth_limit (at_front s.first ∷ s.rest) (end_token to) (nameless i.func)
    k = skipped chosen i.kind i.name (function_form i.func) None depth_limit (at_front s.first ∷ s.rest) (end_token to) (nameless i.func) (s.in_front (end_token to) refl).is (alone_shallow w end items script i.func s shallow (end_token to) refl)

    alone : map lexeme_of (tokens (points file) from to) ≡ (at_front s.first ∷ s.rest) ++ end_token to ∷ []
    alone =
        ap (λ n. map lexeme_of (tokens (points file) n to)) begins
        ∙ ap (λ n. map lexeme_of (tokens (points file) s.first.start n)) ends
        ∙ read_alone file s.before s.first s.rest s.next s.behind (are ∙ s.split ∙ sym (append_assoc s.before (s.first ∷ s.rest) (s.next ∷ s.behind))) (pieces_close (s.first ∷ s.rest) s.balanced)
        ∙ ap (λ n. (at_front s.first ∷ s.rest) ++ end_token n ∷ []) (sym ends)
