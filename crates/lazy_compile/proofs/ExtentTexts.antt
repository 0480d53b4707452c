-- The texts of a function that is read on its own: those that it began with, and values of tokens of its file.
use Rattle.std.proofs.Common.{◌≡◌, ◌∙◌, ℕ, zero, suc, ◌≤◌, true, List, [], ◌∷◌, ◌++◌, map, length, Some, refl, sym, ap, subst, inl, inr, arith, true≢false}
use Rattle.std.specs.Prelude.{◌⊎◌, slice_get}
use Rattle.std.specs.List.{AllByRecursion}
use Rattle.std.proofs.lemmas.Option.{slice_get_within}
use Rattle.script_grammar.specs.declared.token.FuncForm.{FuncForm}
use Rattle.script_grammar.specs.declared.token.Kind.{Kind}
use Rattle.script_grammar.specs.Lexeme.{Lexeme}
use Rattle.script_grammar.specs.Tree.{Stmts}
use Rattle.stencil_data.specs.declared.functions.Extent.{Extent}
use Rattle.unit_text.specs.Points.{points}
use Rattle.parser_atoms.specs.Places.{StandsIn}
use Rattle.script_scanner.specs.Lexemes.{lexeme_of, lexemes}
use Rattle.script_scanner.specs.Stands.{GainsOnly, IsValueAmong}
use Rattle.script_scanner.specs.Tokens.{tokens}
use Rattle.grammar_parser_specs.specs.Exprs.{last_end}
use Rattle.scope_analysis.specs.Functions.{Inner}
use Rattle.track_atoms.specs.Known.{HasWords, known_atoms, word_texts}
use Rattle.scan_laws.specs.Inside.{end_from, end_of, end_token}
use Rattle.scan_laws.proofs.Balanced.{pieces_close}
use Rattle.scan_laws.proofs.ReadAlone.{read_alone}
use Rattle.grammar_alone_laws.specs.Alone.{StandsAlone, at_front}
use Rattle.grammar_alone_laws.proofs.Alone.{stands_alone}
use Rattle.parse_function.specs.Extents.{IsExtentOf}
use Rattle.lazy_compile.specs.OwnTexts.{TakesFrom}
use Rattle.lazy_compile.specs.Texts.{IsTextOf, AreTextsOf}
use Rattle.lazy_compile.proofs.OwnTexts.{either_at}
use Rattle.parse_function.proofs.TokenValues.{has_text, IsAmong, value_among, among_value, among_left, among_right, among_either, tokens_suited}
use Rattle.std.proofs.lemmas.List.{append_assoc}

-- ---- a token of the extent is one of the file

same_end : (at : ℕ) (ts : List Lexeme) → end_from at ts ≡ last_end at ts
same_end at [] = refl
same_end at (t ∷ ts) = same_end t.end ts

no_end : (k : Kind) (text : List ℕ) (at : ℕ) → has_text k ≡ true → IsAmong k text (end_token at ∷ []) → ⊥
no_end k text at e (inl a) = true≢false (sym e ∙ ap has_text (sym a.0))
no_end k text at e (inr a) = a

module _ (file : List ℕ) (extent : Extent) (f : FuncForm) (items : Stmts) (i : Inner) (x : IsExtentOf file extent f items i) where
  stands : StandsAlone x.text.inner x.text.end items x.text.script i.func
  stands = stands_alone x.text.inner x.text.end items x.text.script i x.inside

  split : lexemes file ≡ stands.before ++ ((stands.first ∷ stands.rest) ++ stands.next ∷ stands.behind)
  split = x.text.split ∙ stands.split

  tokens_are : map lexeme_of (tokens (points file) extent.start extent.end) ≡ (at_front stands.first ∷ stands.rest) ++ end_token extent.end ∷ []
  tokens_are =
      let begins : stands.first.start ≡ extent.start = stands.starts ∙ x.starts in
      let ends : end_of stands.first stands.rest ≡ extent.end = same_end stands.first.end stands.rest ∙ stands.ends ∙ x.ends in
      ap (λ n. map lexeme_of (tokens (points file) n extent.end)) (sym begins)
      ∙ ap (λ n. map lexeme_of (tokens (points file) stands.first.start n)) (sym ends)
      ∙ read_alone file stands.before stands.first stands.rest stands.next stands.behind
      (split ∙ sym (append_assoc stands.before (stands.first ∷ stands.rest) (stands.next ∷ stands.behind)))
      (pieces_close (stands.first ∷ stands.rest) stands.balanced)
      ∙ ap (λ n. (at_front stands.first ∷ stands.rest) ++ end_token n ∷ []) ends

  among_file : (k : Kind) (text : List ℕ) → has_text k ≡ true → IsAmong k text ((at_front stands.first ∷ stands.rest) ++ end_token extent.end ∷ []) → IsAmong k text (lexemes file)
  among_file k text e a = subst (IsAmong k text) (sym split) (among_right k text stands.before _ (here (among_either k text (at_front stands.first ∷ stands.rest) (end_token extent.end ∷ []) a)))
    where
      here : IsAmong k text (at_front stands.first ∷ stands.rest) ⊎ IsAmong k text (end_token extent.end ∷ []) → IsAmong k text ((stands.first ∷ stands.rest) ++ stands.next ∷ stands.behind)
      here (inl b) = among_left k text (stands.first ∷ stands.rest) (stands.next ∷ stands.behind) b
      here (inr b) = absurd (no_end k text extent.end e b)

  pub value_in_file : (text : List ℕ) → IsValueAmong (tokens (points file) extent.start extent.end) text → IsValueAmong (tokens (points file) 0 (length file)) text
  unfolding lexemes
  value_in_file text v =
      let h = value_among (tokens (points file) extent.start extent.end) text (tokens_suited (points file) extent.start extent.end) v in
      among_value h.kind text (tokens (points file) 0 (length file)) h.texted (tokens_suited (points file) 0 (length file))
      (among_file h.kind text h.texted (subst (IsAmong h.kind text) tokens_are h.among))

-- ---- texts

-- texts of at most seven, among which the seven words have their places, are these words
pub only_words : (texts : List (List ℕ)) → HasWords texts known_atoms → length texts ≤ 7 → (text : List ℕ) → StandsIn texts text → StandsIn word_texts text
only_words texts h few text s = (s.0, by s.0 s.1)
  where
    by : (n : ℕ) → slice_get texts n ≡ Some text → slice_get word_texts n ≡ Some text
    by zero e = sym h.eval ∙ e
    by (suc zero) e = sym h.arguments ∙ e
    by (suc (suc zero)) e = sym h.this ∙ e
    by (suc (suc (suc zero))) e = sym h.proto ∙ e
    by (suc (suc (suc (suc zero)))) e = sym h.get ∙ e
    by (suc (suc (suc (suc (suc zero))))) e = sym h.set ∙ e
    by (suc (suc (suc (suc (suc (suc zero)))))) e = sym h.strict ∙ e
    by (suc (suc (suc (suc (suc (suc (suc n))))))) e = absurd (let lt = slice_get_within texts (suc (suc (suc (suc (suc (suc (suc n))))))) text e in omega (arith, lt, few))

gained_at : (P : List ℕ → Type 0) (texts : List (List ℕ)) (n : ℕ) (text : List ℕ) → AllByRecursion P texts → slice_get texts n ≡ Some text → P text
gained_at P [] n text h e = absurd (cc)
gained_at P (t ∷ texts) zero text h e = subst P (let same : t ≡ text = cc in same) h.0
gained_at P (t ∷ texts) (suc n) text h e = gained_at P texts n text h.1 e

-- With the known words, the name, the closed names, and then what was read of the extent.
pub texts_of : (file : List ℕ) (extent : Extent) (f : FuncForm) (items : Stmts) (i : Inner) → IsExtentOf file extent f items i → (given words named all read : List (List ℕ)) → HasWords words known_atoms → length words ≤ 7
    → TakesFrom given words named → TakesFrom given named all → GainsOnly all read (tokens (points file) extent.start extent.end) → AreTextsOf file given read
texts_of file extent f items i x given words named all read has few name closed gains text s =
    by (either_at all gains.gained text s.0 (sym (ap (λ (ts : List (List ℕ)). slice_get ts s.0) gains.grown) ∙ s.1))
  where
    of_words : StandsIn words text ⊎ StandsIn given text → IsTextOf file given text
    of_words (inl a) = inr (inl (only_words words has few text a))
    of_words (inr a) = inr (inr a)

    of_named : StandsIn named text ⊎ StandsIn given text → IsTextOf file given text
    of_named (inl a) = let there = name.among text a in of_words (either_at words given text there.0 there.1)
    of_named (inr a) = inr (inr a)

    by : StandsIn all text ⊎ StandsIn gains.gained text → IsTextOf file given text
    by (inl a) = let there = closed.among text a in of_named (either_at named given text there.0 there.1)
    by (inr a) = inl (value_in_file file extent f items i x text (gained_at (IsValueAmong (tokens (points file) extent.start extent.end)) gains.gained a.0 text gains.are_values a.1))
