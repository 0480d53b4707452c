-- Every text that a token of a file has is among the file's texts.
use Rattle.std.proofs.Common.{◌≡◌, ◌∙◌, inl, inr, ℕ, true, List, [], ◌∷◌, length, map, slice_index_or, refl, sym, ap, subst}
use Rattle.std.specs.Prelude.{Some}
use Rattle.std.specs.List.{AllByRecursion}
use Rattle.std.proofs.lemmas.Option.{slice_get-get_or}
use Rattle.parser_atoms.specs.Places.{StandsIn}
use Rattle.script_grammar.specs.declared.token.Kind.{Kind}
use Rattle.script_grammar.specs.declared.token.Kind.TheVariants as kind
use Rattle.script_grammar.specs.declared.token.Token.{Token}
use Rattle.script_grammar.specs.Lexeme.{Lexeme, text_of}
use Rattle.script_grammar.specs.Lexeme as token
use Rattle.unit_text.specs.Points.{points}
use Rattle.script_scanner.specs.Lexemes.{text_in, lexeme_of, lexemes}
use Rattle.script_scanner.specs.Stands.{IsValueAmong}
use Rattle.script_scanner.specs.Tokens.{Text, Lexed, tokens}
use Rattle.parse_exprs.specs.Source.{has_atom}
use Rattle.parse_token_laws.proofs.ScannedTokens.{Carries, AllCarry, tokens_carry}
use Rattle.parse_script.specs.declared.file_tokens.FileTokens.{FileTokens}
use Rattle.parse_script.specs.Tokens.{tokens_in, AtomWithin, IsSound}
use Rattle.parse_script.proofs.FewTexts.{HasText, has_text}

-- a token with a text is of a kind that has an atom
text_has_atom : (k : Kind) (text : List ℕ) → Carries k (Text text) → has_atom k ≡ true
text_has_atom kind.Name text h = refl
text_has_atom kind.Number text h = absurd h
text_has_atom kind.Str text h = refl
text_has_atom kind.TemplateWhole text h = refl
text_has_atom kind.TemplateHead text h = refl
text_has_atom kind.TemplateMiddle text h = refl
text_has_atom kind.TemplateTail text h = refl
text_has_atom (kind.Word i) text h = refl
text_has_atom (kind.Mark i) text h = absurd h
text_has_atom kind.Bad text h = absurd h
text_has_atom kind.End text h = absurd h

-- the text of such a kind is the one at the atom
text_at_atom : (texts : List (List ℕ)) (k : Kind) (n : ℕ) → has_atom k ≡ true → text_of texts k n ≡ slice_index_or texts n []
text_at_atom texts kind.Name n some = refl
text_at_atom texts kind.Number n some = absurd (cc)
text_at_atom texts kind.Str n some = refl
text_at_atom texts kind.TemplateWhole n some = refl
text_at_atom texts kind.TemplateHead n some = refl
text_at_atom texts kind.TemplateMiddle n some = refl
text_at_atom texts kind.TemplateTail n some = refl
text_at_atom texts (kind.Word i) n some = refl
text_at_atom texts (kind.Mark i) n some = absurd (cc)
text_at_atom texts kind.Bad n some = absurd (cc)
text_at_atom texts kind.End n some = absurd (cc)

first_same : (a b : Lexeme) (us vs : List Lexeme) → a ∷ us ≡ b ∷ vs → a ≡ b
first_same a b us vs e = cc

rest_same : (a b : Lexeme) (us vs : List Lexeme) → a ∷ us ≡ b ∷ vs → us ≡ vs
rest_same a b us vs e = cc

none_some : {X : Type 0} (x : X) (xs : List X) → [] ≡ x ∷ xs → ⊥
none_some x xs e = cc

module _ (texts : List (List ℕ)) (get set : ℕ) where
  token_stands : (t : Token) (l : Lexed) (text : List ℕ) → token.lexeme_of get set texts t ≡ lexeme_of l → Carries l.kind l.value → AtomWithin (length texts) t → l.value ≡ Text text → StandsIn texts text
  token_stands t l text same carries within is =
      let kinds : t.kind ≡ l.kind = ap (λ (x : Lexeme). x.kind) same in
      let some : has_atom t.kind ≡ true = ap has_atom kinds ∙ text_has_atom l.kind text (subst (Carries l.kind) is carries) in
      let here : slice_index_or texts t.value [] ≡ text = sym (text_at_atom texts t.kind t.value some) ∙ (ap (λ (x : Lexeme). x.text) same ∙ ap text_in is) in
      (t.value, slice_get-get_or texts t.value [] (within some) ∙ ap Some here)

  tokens_stand : (ts : List Token) (ls : List Lexed) (text : List ℕ) → map (token.lexeme_of get set texts) ts ≡ map lexeme_of ls → AllCarry ls → AllByRecursion (AtomWithin (length texts)) ts → HasText ls text → StandsIn texts text
  tokens_stand [] [] text same carry within has = absurd has
  tokens_stand (t ∷ ts) [] text same carry within has = absurd has
  tokens_stand [] (l ∷ ls) text same carry within has = absurd (none_some (lexeme_of l) (map lexeme_of ls) same)
  tokens_stand (t ∷ ts) (l ∷ ls) text same carry within (inl is) =
      token_stands t l text (first_same (token.lexeme_of get set texts t) (lexeme_of l) (map (token.lexeme_of get set texts) ts) (map lexeme_of ls) same) carry.0 within.0 is
  tokens_stand (t ∷ ts) (l ∷ ls) text same carry within (inr has) =
      tokens_stand ts ls text (rest_same (token.lexeme_of get set texts t) (lexeme_of l) (map (token.lexeme_of get set texts) ts) (map lexeme_of ls) same) carry.1 within.1 has

pub file_texts : (file : FileTokens) (bytes text : List ℕ) → IsSound file → tokens_in file ≡ lexemes bytes → IsValueAmong (tokens (points bytes) 0 (length bytes)) text → StandsIn file.texts.items text
unfolding lexemes
file_texts file bytes text sound same among =
    let ls = tokens (points bytes) 0 (length bytes) in
    tokens_stand file.texts.items file.known.get file.known.set file.tokens.items ls text same (tokens_carry (points bytes) 0 (length bytes)) sound.atoms (has_text ls text among)
