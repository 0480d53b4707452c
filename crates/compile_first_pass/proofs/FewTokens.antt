-- A file within the limit of length has few tokens, and its script tells few regions.
use Rattle.std.proofs.Common.{◌≡◌, ℕ, suc, ◌+◌, ◌*◌, ◌^◌, ◌<◌, ◌≤◌, List, [], ◌∷◌, ◌++◌, length, length-append, chars, IsUtf8, refl, sym, ap, subst, ◌∙◌, arith}
use Rattle.std.proofs.lemmas.List.{length-map}
use Rattle.script_grammar.specs.Lexeme.{Lexeme}
use Rattle.script_grammar.specs.Tree.{Stmts}
use Rattle.unit_text.specs.declared.Point.{Point}
use Rattle.unit_text.specs.Points.{points, points_from}
use Rattle.unit_text.proofs.Decoding.{points_few, points-utf8}
use Rattle.script_scanner.specs.Lexemes.{lexeme_of, lexemes}
use Rattle.script_scanner.specs.Tokens.{tokens}
use Rattle.parse_token_laws.proofs.ScannedTokens.{tokens_few}
use Rattle.parse_track.specs.declared.region.WellKnownAtoms.{WellKnownAtoms}
use Rattle.parse_track.specs.Counted.{region_count}
use Rattle.parse_track.specs.Tells.{tells_script}
use Rattle.track_count_laws.proofs.Scripts.{script_regions}
use Rattle.parse_bodies.specs.Whole.{IsText}
use Rattle.parse_script.specs.declared.file_tokens.FileTokens.{FileTokens}
use Rattle.parse_script.specs.Tokens.{tokens_in, IsSound}
use Rattle.early_script_errors.specs.Told.{AreOfFew}
use Rattle.compile_first_pass.specs.declared.pass.ListedScript.{ListedScript}
use Rattle.compile_first_pass.specs.declared.skim.SkimmedScript.{SkimmedScript}
use Rattle.compile_first_pass.specs.Passes.{IsListed, IsOfSmallFile, IsSkimmedFile}
use Rattle.compile_first_pass.proofs.PassLemmas.{of_known}

-- ---- tokens

points_of_few : (bytes : List ℕ) → IsUtf8 bytes → length (points bytes) ≤ length bytes
points_of_few bytes utf8 =
    subst (λ (ps : List Point). length ps ≤ length bytes) (points-utf8 bytes bytes (points_from 0 (chars bytes)) refl utf8 refl)
    (points_few bytes bytes (points_from 0 (chars bytes)) refl utf8 refl)

lexemes_few : (bytes : List ℕ) → IsUtf8 bytes → length (lexemes bytes) ≤ suc (length bytes)
unfolding lexemes
lexemes_few bytes utf8 =
    let e = length-map (tokens (points bytes) 0 (length bytes)) lexeme_of in
    let few = tokens_few (points bytes) 0 (length bytes) in
    let most = points_of_few bytes utf8 in
    omega (arith, e, few, most)

length_tokens : (file : FileTokens) → length (tokens_in file) ≡ length file.tokens.items
length_tokens file = length-map file.tokens.items _

pub file_few : (file : FileTokens) (bytes : List ℕ) → IsUtf8 bytes → tokens_in file ≡ lexemes bytes → length bytes ≤ 16777215
    → length file.tokens.items ≤ 16777216
file_few file bytes utf8 same short =
    let e = length_tokens file in
    let f = ap (λ (ts : List Lexeme). length ts) same in
    let g = lexemes_few bytes utf8 in
    omega (arith, e, f, g, short)

-- ---- regions

text_few : (file : FileTokens) (items : Stmts) → IsText (tokens_in file) items → length file.tokens.items ≤ 16777216
    → region_count (tells_script items) < 2 ^ 31
text_few file items text few =
    let e = script_regions text.inner text.end items text.script in
    let f = length_tokens file in
    let g = ap (λ (ts : List Lexeme). length ts) text.split in
    let k = length-append text.inner (text.end ∷ []) in
    omega (arith, e, f, g, k, few)

pub listed_few : (file : FileTokens) (items : Stmts) (known : WellKnownAtoms) (listed : ListedScript) → IsListed file items listed
    → file.known ≡ known → length file.tokens.items ≤ 16777216 → AreOfFew known listed.top listed.bodies.items listed.first
listed_few file items known listed h same few = record {
  texts = file.texts.items;
  items = items;
  of = of_known file items listed h known same;
  told = h.told;
  few = text_few file items h.text few;
}

pub small_file : (file : FileTokens) (items : Stmts) (script : SkimmedScript) → IsSound file → IsSkimmedFile file script items
    → length file.tokens.items ≤ 16777216 → IsOfSmallFile file.known script
small_file file items script sound h few = record { file = file; items = items; sound = sound; skimmed = h; known_is = refl; few = few }
