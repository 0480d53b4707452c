-- The values of tokens that are left without some bodies are values of all of the tokens.
use Rattle.std.proofs.Common.{◌≡◌, ℕ, List, [], ◌∷◌, ◌++◌, map, sym, subst, inl, inr}
use Rattle.std.specs.Prelude.{◌⊎◌}
use Rattle.std.specs.List.{AllByRecursion}
use Rattle.script_grammar.specs.declared.token.Kind.{Kind}
use Rattle.script_grammar.specs.Lexeme.{Lexeme}
use Rattle.unit_text.specs.declared.Point.{Point}
use Rattle.script_scanner.specs.Lexemes.{lexeme_of}
use Rattle.script_scanner.specs.Stands.{GainsOnly, IsValueAmong}
use Rattle.script_scanner.specs.Tokens.{tokens}
use Rattle.grammar_alone_laws.specs.Alone.{at_front}
use Rattle.grammar_skip_laws.specs.Holes.{Hole, Braced, all_of, left_of, LeavesOut, nothing, keeps, skips}
use Rattle.parse_function.proofs.TokenValues.{IsAmong, value_among, among_value, among_left, among_right, among_either, tokens_suited}

module _ (k : Kind) (text : List ℕ) where
  among_all_of : (b : Braced) → IsAmong k text (left_of b) → IsAmong k text (all_of b)
  among_all_of b a = by (among_either k text (b.first ∷ b.more) (b.opener ∷ at_front b.closer ∷ []) a)
    where
      by : IsAmong k text (b.first ∷ b.more) ⊎ IsAmong k text (b.opener ∷ at_front b.closer ∷ []) → IsAmong k text (all_of b)
      by (inl c) = among_left k text (b.first ∷ b.more) (b.opener ∷ (b.inside ++ b.closer ∷ [])) c
      by (inr (inl c)) = among_right k text (b.first ∷ b.more) (b.opener ∷ (b.inside ++ b.closer ∷ [])) (inl c)
      by (inr (inr c)) = among_right k text (b.first ∷ b.more) (b.opener ∷ (b.inside ++ b.closer ∷ [])) (inr (among_right k text b.inside (b.closer ∷ []) c))

  among_all : (holes : List Hole) (all left : List Lexeme) → LeavesOut holes all left → IsAmong k text left → IsAmong k text all
  among_all holes all left nothing a = a
  among_all holes all left (keeps t hs ts us h) (inl a) = inl a
  among_all holes all left (keeps t hs ts us h) (inr a) = inr (among_all hs ts us h a)
  among_all holes all left (skips b hs ts us all' left' f g h) a = subst (IsAmong k text) (sym f) (by (λ c. among_all hs ts us h c) (among_either k text (left_of b) us (subst (IsAmong k text) g a)))
    where
      by : (IsAmong k text us → IsAmong k text ts) → IsAmong k text (left_of b) ⊎ IsAmong k text us → IsAmong k text (all_of b ++ ts)
      by others (inl c) = among_left k text (all_of b) ts (among_all_of b c)
      by others (inr c) = among_right k text (all_of b) ts (others c)

  among_with_last : (holes : List Hole) (all left : List Lexeme) → LeavesOut holes all left → (last : Lexeme) → IsAmong k text (left ++ last ∷ []) → IsAmong k text (all ++ last ∷ [])
  among_with_last holes all left h last a = by (among_either k text left (last ∷ []) a)
    where
      by : IsAmong k text left ⊎ IsAmong k text (last ∷ []) → IsAmong k text (all ++ last ∷ [])
      by (inl c) = among_left k text all (last ∷ []) (among_all holes all left h c)
      by (inr c) = among_right k text all (last ∷ []) c

module _ (holes : List Hole) (all left : List Lexeme) (leaves : LeavesOut holes all left) (last : Lexeme) (ps qs : List Point) (from to : ℕ)
    (left_are : map lexeme_of (tokens ps from to) ≡ left ++ last ∷ []) (all_are : map lexeme_of (tokens qs from to) ≡ all ++ last ∷ []) where
  value_left : (text : List ℕ) → IsValueAmong (tokens ps from to) text → IsValueAmong (tokens qs from to) text
  value_left text v =
      let h = value_among (tokens ps from to) text (tokens_suited ps from to) v in
      among_value h.kind text (tokens qs from to) h.texted (tokens_suited qs from to)
      (subst (IsAmong h.kind text) (sym all_are) (among_with_last h.kind text holes all left leaves last (subst (IsAmong h.kind text) left_are h.among)))

  all_values : (texts : List (List ℕ)) → AllByRecursion (IsValueAmong (tokens ps from to)) texts → AllByRecursion (IsValueAmong (tokens qs from to)) texts
  all_values [] h = tt
  all_values (t ∷ texts) h = (value_left t h.0, all_values texts h.1)

  pub values_left : (before after : List (List ℕ)) → GainsOnly before after (tokens ps from to) → GainsOnly before after (tokens qs from to)
  values_left before after g = record { gained = g.gained; grown = g.grown; are_values = all_values g.gained g.are_values }
