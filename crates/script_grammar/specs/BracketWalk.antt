-- How far a walk over the tokens has come, for the private calls of the matching of brackets.
use Rattle.std.specs.Prelude.{Bool, true, false, if◌then◌else◌, nat_eq, ℕ, suc, List, [], ◌∷◌, ◌++◌, Option, Some, None, ◌≡◌, ◌<◌, take}
use Rattle.std.specs.Prelude.{map, slice_index_or}
use Rattle.script_grammar.specs.declared.token.Kind.{Kind}
use Rattle.script_grammar.specs.declared.brackets.Bracket.{Bracket}
use Rattle.script_grammar.specs.declared.brackets.BracketPart.TheVariants.{Closing}
use Rattle.script_grammar.specs.declared.brackets.Open.{Open}
use Rattle.script_grammar.specs.Matching.{is_same, next_open, IsMatching, all_open, opened_by, part_at, between, IsPartner}

-- What an entry of a list of partners tells: 2^32 - 1 stands in place of a partner where there is none.
abbrev pub told_by : ℕ → Option ℕ
told_by entry = if nat_eq entry 4294967295 then None else Some entry

-- What a list of such entries tells.
abbrev pub told_partners : List ℕ → List (Option ℕ)
told_partners = map told_by

-- The partner of a token by such a list. Tokens after the end of the list have none.
abbrev pub partner_in : List ℕ → ℕ → Option ℕ
partner_in partners t = told_by (slice_index_or partners t 4294967295)

-- Both lists say the same but for token t, whose partner is p in the new one.
abbrev pub GainsPartner : List ℕ → List ℕ → ℕ → ℕ → Type 0
GainsPartner old new t p = (x : ℕ) → partner_in new x ≡ (if nat_eq x t then Some p else partner_in old x)

abbrev pub brackets_of : List Open → List Bracket
brackets_of = map (λ o. o.bracket)

-- Each of these tokens, innermost first, opened its bracket, and those above it are what is open after it before token n.
abbrev pub AllOpen : List Kind → ℕ → List Bracket → List Open → Type 0
AllOpen ks n above [] = Unit {0}
AllOpen ks n above (o ∷ os) =
    (o.token < n) × (opened_by (part_at ks o.token) ≡ Some o.bracket) × (all_open [] (between ks o.token n) ≡ Some above)
    × AllOpen ks n (above ++ (o.bracket ∷ [])) os

-- The tokens before n fit, these are open, and partners are known among them.
pub record Walked (ks : List Kind) (n : ℕ) (partner : ℕ → Option ℕ) (stack : List Open) : Type 0 where
  pub fit : all_open [] (take n ks) ≡ Some (brackets_of stack)
  pub opened : AllOpen ks n [] stack
  pub sound : (t p : ℕ) → partner t ≡ Some p → IsPartner ks n t p
  pub only : (t p : ℕ) → IsPartner ks n t p → partner t ≡ Some p

-- What the walk knows after token n, whether it fits or not.
abbrev pub After : List Kind → ℕ → Bool → List ℕ → List Open → Type 0
After ks n true partners stack = Walked ks (suc n) (partner_in partners) stack
After ks n false partners stack = IsMatching ks (record { partners = told_partners partners; stop = n })

-- Closing this bracket takes away the innermost open token, where that is of this kind, and answers it.
abbrev pub Closes : List Open → List Open → Bracket → Option ℕ → Type 0
Closes old new b (Some t) = (o : Open) × ((old ≡ o ∷ new) × (o.token ≡ t) × (is_same o.bracket b ≡ true))
Closes old new b None = next_open (brackets_of old) (Closing b) ≡ None
