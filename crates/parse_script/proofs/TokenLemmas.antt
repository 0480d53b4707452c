-- The tokens that the scanner answers for a whole file are those of the file, and their atoms are those of its texts.
use Rattle.std.proofs.Common.{◌≡◌, ℕ, List, [], ◌∷◌, map, length, sym, ◌∙◌, ap, subst}
use Rattle.std.specs.List.{AllByRecursion}
use Rattle.unit_text.specs.declared.Point.{Point}
use Rattle.unit_text.specs.Points.{points}
use Rattle.script_grammar.specs.declared.token.Token.{Token}
use Rattle.script_grammar.specs.Lexeme as token
use Rattle.parse_exprs.specs.Source.{has_atom}
use Rattle.script_scanner.specs.Lexemes.{lexeme_of, lexemes}
use Rattle.script_scanner.specs.Stands.{StandFor}
use Rattle.script_scanner.specs.Tokens.{Lexed, tokens}
use Rattle.parse_token_laws.proofs.ScannedTokens.{AllCarry, KnowsWords, atom_within, tokens_carry, scanned_lexemes}
use Rattle.parse_script.specs.Tokens.{AtomWithin}

pub file_tokens : (bytes : List ℕ) (ps seen_points : List Point) (to : ℕ) (texts made_texts : List (List ℕ)) (ts : List Token) (get set : ℕ)
    → ps ≡ points bytes → seen_points ≡ ps → to ≡ length bytes → KnowsWords texts get set → StandFor texts ts (tokens seen_points 0 to) → made_texts ≡ texts → map (token.lexeme_of get set made_texts) ts ≡ lexemes bytes
unfolding lexemes
file_tokens bytes ps seen_points to texts made_texts ts get set decoded same size knows stand made_same =
    ap (λ (xs : List (List ℕ)). map (token.lexeme_of get set xs) ts) made_same
    ∙ scanned_lexemes seen_points 0 to texts ts get set knows stand
    ∙ ap (λ (qs : List Point). map lexeme_of (tokens qs 0 to)) (same ∙ decoded)
    ∙ ap (λ (n : ℕ). map lexeme_of (tokens (points bytes) 0 n)) size

atoms_within : (texts : List (List ℕ)) (ts : List Token) (ls : List Lexed) → AllCarry ls → StandFor texts ts ls → AllByRecursion (AtomWithin (length texts)) ts
atoms_within texts [] [] all stand = tt
atoms_within texts [] (x ∷ ls) all stand = absurd stand
atoms_within texts (t ∷ ts) [] all stand = absurd stand
atoms_within texts (t ∷ ts) (x ∷ ls) all stand =
    (λ some. atom_within texts x.kind x.value t.value all.0 stand.0.value (ap has_atom (sym stand.0.kind) ∙ some), atoms_within texts ts ls all.1 stand.1)

pub file_atoms : (ps : List Point) (to : ℕ) (texts made_texts : List (List ℕ)) (ts : List Token) → StandFor texts ts (tokens ps 0 to) → made_texts ≡ texts → AllByRecursion (AtomWithin (length made_texts)) ts
file_atoms ps to texts made_texts ts stand made_same =
    subst (λ (xs : List (List ℕ)). AllByRecursion (AtomWithin (length xs)) ts) (sym made_same) (atoms_within texts ts (tokens ps 0 to) (tokens_carry ps 0 to) stand)
