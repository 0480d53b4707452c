-- The script of a file that was read without an error stands well: the file has no more tokens than code points, but for the
-- last, and no more code points than bytes.
use Rattle.std.proofs.Common.{◌≡◌, ℕ, zero, suc, ◌^◌, ◌≤◌, ◌<◌, Bool, false, ◌||◌, ◌&&◌, nat_le, nat_lt, List, [], ◌∷◌, ◌++◌, length, map, drop, get_or, All, chars, IsUtf8, None, refl, subst, arith}
use Rattle.std.proofs.lemmas.List.{length-map, length-drop}
use Rattle.std.proofs.lemmas.List.Sums.{length-filter, count_by-le-length}
use Rattle.script_grammar.specs.Fault.{depth_limit, ScriptPart}
use Rattle.script_grammar.specs.Lexeme.{Lexeme}
use Rattle.script_grammar.specs.Pieces.{whole, depths}
use Rattle.script_grammar.specs.Print.{print_stmts}
use Rattle.script_grammar.specs.Script.{IsScript}
use Rattle.script_grammar.specs.Tree.{Stmts}
use Rattle.unit_text.specs.declared.Point.{Point}
use Rattle.unit_text.specs.Points.{points, points_from, code_of}
use Rattle.unit_text.proofs.Decoding.{points_few, points-utf8}
use Rattle.script_scanner.specs.declared.braces.Brace.{Brace}
use Rattle.script_scanner.specs.Blanks.{first_line_length}
use Rattle.script_scanner.specs.Lexemes.{lexeme_of, lexemes}
use Rattle.script_scanner.specs.Tokens.{Lexed, Front, IsBlank, IsToken, IsNeither, braces_after, front_at, then_tokens, tokens_within, part, without_first_line, tokens}
use Rattle.grammar_start_laws.proofs.Rising.{lexemes_rise}
use Rattle.parse_track.specs.Notes.{early_error}
use Rattle.emit_limit_laws.specs.Limits.{ScriptStands}
use Rattle.emit_limit_laws.proofs.Texts.{stands_of_text}

then_few : (to fuel : ℕ) (braces : List Brace) (after : Bool) (rest : List Point) (f : Front) (others : List Brace → Bool → List Point → List Lexed)
    → ((o : List Brace) (a : Bool) (ps : List Point) → length (others o a ps) ≤ fuel) → length (then_tokens to braces after rest f others) ≤ suc fuel
then_few to fuel braces after rest (IsBlank blank) others h = let k = h braces (after || blank.breaks) (drop blank.length rest) in omega (arith, k)
then_few to fuel braces after rest (IsToken p) others h = let k = h (braces_after braces p.kind) false (drop p.length rest) in omega (arith, k)
then_few to fuel braces after rest IsNeither others h = omega arith

few_within : (fuel to : ℕ) (braces : List Brace) (after : Bool) (rest : List Point) → length (tokens_within fuel to braces after rest) ≤ fuel
few_within zero to braces after rest = omega arith
few_within (suc fuel) to braces after rest = then_few to fuel braces after rest (front_at braces rest) (λ o a ps. tokens_within fuel to o a ps) (λ o a ps. few_within fuel to o a ps)

tokens_few : (ps : List Point) (to : ℕ) → length (tokens ps 0 to) ≤ suc (length ps)
tokens_few ps to =
    let text = without_first_line 0 (part 0 to ps) in
    let few = few_within (suc (length text)) to [] false text in
    let kept = length-filter (λ (p : Point). nat_le 0 p.start && nat_lt p.start to) ps in
    let most = count_by-le-length (λ (p : Point). nat_le 0 p.start && nat_lt p.start to) ps in
    let cut = length-drop (first_line_length (map code_of (part 0 to ps))) (part 0 to ps) in
    omega (arith, few, kept, most, cut)

-- of bytes that are UTF-8
points_of_few : (file : List ℕ) → IsUtf8 file → length (points file) ≤ length file
points_of_few file utf8 = subst (λ (ps : List Point). length ps ≤ length file) (points-utf8 file file (points_from 0 (chars file)) refl utf8 refl) (points_few file file (points_from 0 (chars file)) refl utf8 refl)

pub lexemes_few : (file : List ℕ) → IsUtf8 file → length (lexemes file) ≤ suc (length file)
unfolding lexemes
lexemes_few file utf8 =
    let e = length-map (tokens (points file) 0 (length file)) lexeme_of in
    let few = tokens_few (points file) (length file) in
    let most = points_of_few file utf8 in
    omega (arith, e, few, most)

pub file_stands : (file : List ℕ) (tokens : List Lexeme) (end : Lexeme) (items : Stmts) → length file < 2 ^ 24 → IsUtf8 file → lexemes file ≡ tokens ++ end ∷ [] → (script : IsScript tokens end items)
    → ((j : ℕ) → get_or (depths (print_stmts whole 0 items) tokens end script.fits) j 0 ≤ depth_limit) → early_error items ≡ None → ScriptStands tokens end items
file_stands file tokens end items short utf8 split script shallow faultless =
    let few = lexemes_few file utf8 in
    stands_of_text (lexemes file) tokens end items split script shallow (omega (arith, few, short)) (lexemes_rise file) faultless

-- ---- the same of a script with its End token as the grammar has it

within_limit : (ds : List ℕ) → All (λ d. d ≤ depth_limit) (ds ++ 0 ∷ []) → (j : ℕ) → get_or ds j 0 ≤ depth_limit
within_limit [] h j = omega arith
within_limit (d ∷ ds) h zero = h 0 0 (omega arith)
within_limit (d ∷ ds) h (suc j) = within_limit ds (λ k e lt. h (suc k) e (omega (arith, lt))) j

pub part_stands : (file deep : List ℕ) (p : ScriptPart whole 0 (lexemes file) deep) → length file < 2 ^ 24 → IsUtf8 file → All (λ d. d ≤ depth_limit) deep → early_error p.items ≡ None → ScriptStands p.inner p.end p.items
part_stands file deep p short utf8 shallow faultless =
    file_stands file p.inner p.end p.items short utf8 p.split p.is
    (within_limit (depths (print_stmts whole 0 p.items) p.inner p.end p.is.fits) (subst (λ (ds : List ℕ). All (λ d. d ≤ depth_limit) ds) p.deep_is shallow)) faultless
