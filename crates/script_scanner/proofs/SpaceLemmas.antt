-- Spaces that are passed over at once.
use Rattle.std.proofs.Common.{◌≡◌, ℕ, ◌+◌, ◌≤◌, zero, suc, List, [], ◌∷◌, map, drop, Bool, true, cond, sym, ◌∙◌, ap, subst, arith, inl, inr}
use Rattle.std.specs.Prelude.{◌==◌}
use Rattle.std.specs.List.{prefix_len}
use Rattle.std.proofs.lemmas.Bool.{cases_Bool, eqb-true}
use Rattle.script_grammar.specs.declared.token.Token.{Token}
use Rattle.unit_text.specs.declared.Point.{Point}
use Rattle.unit_text.specs.Points.{code_of}
use Rattle.script_scanner.specs.declared.braces.Brace.{Brace}
use Rattle.script_scanner.proofs.BlankLemmas.{space_is_blank}
use Rattle.script_scanner.proofs.FrontLemmas.{moves_space}
use Rattle.script_scanner.proofs.Lists.{drop_drop}
use Rattle.script_scanner.proofs.ScanLemmas.{IsScanning, IsAt, IsRunning, resumed, stepped_behind}

-- one of them
space_passed : (to : ℕ) (text rest : List Point) (p : Point) (at : ℕ) (tokens : List Token) (braces : List Brace) (after : Bool) (texts now : List (List ℕ))
    → p ∷ rest ≡ drop at text → p.code ≡ 0x20 → IsScanning to text at tokens braces after texts now → IsScanning to text (at + 1) tokens braces after texts now
space_passed to text rest p at tokens braces after texts now here is s =
    resumed to text at 1 tokens braces after texts now
    (stepped_behind to text (p ∷ rest) at 1 tokens tokens braces braces after after texts now now here s
    (moves_space to (p ∷ rest) tokens braces after now (space_is_blank p.code (map code_of rest) is)) (omega arith))
    (omega arith)

-- so many of them
spaces_passed : (to : ℕ) (text : List Point) (n at : ℕ) (rest : List Point) (tokens : List Token) (braces : List Brace) (after : Bool) (texts now : List (List ℕ))
    → rest ≡ drop at text → n ≤ prefix_len (λ c. c == 0x20) (map code_of rest) → IsScanning to text at tokens braces after texts now → IsScanning to text (at + n) tokens braces after texts now
spaces_passed to text zero at rest tokens braces after texts now here le s =
    subst (λ (k : ℕ). IsScanning to text k tokens braces after texts now) (let e : at ≡ at + zero = omega arith in e) s
spaces_passed to text (suc n) at [] tokens braces after texts now here le s = absurd (omega (arith, le))
spaces_passed to text (suc n) at (p ∷ rest) tokens braces after texts now here le s =
    let others = prefix_len (λ c. c == 0x20) (map code_of rest) in
    elim (cases_Bool (p.code == 0x20)) as (λ _. IsScanning to text (at + suc n) tokens braces after texts now) [
      | inl y ↦ let count : prefix_len (λ c. c == 0x20) (map code_of (p ∷ rest)) ≡ 1 + others = ap (λ (b : Bool). cond b (1 + others) 0) y in
          let next : rest ≡ drop (at + 1) text = ap (λ (ps : List Point). drop 1 ps) here ∙ sym (drop_drop at 1 text) in
          subst (λ (k : ℕ). IsScanning to text k tokens braces after texts now) (let e : (at + 1) + n ≡ at + suc n = omega arith in e)
          (spaces_passed to text n (at + 1) rest tokens braces after texts now next (omega (arith, le, count))
          (space_passed to text rest p at tokens braces after texts now here (eqb-true p.code 0x20 y) s))
      | inr f ↦ let none : prefix_len (λ c. c == 0x20) (map code_of (p ∷ rest)) ≡ 0 = ap (λ (b : Bool). cond b (1 + others) 0) f in absurd (omega (arith, le, none))
    ]

-- the scan goes on behind them
pub running_spaces : (to : ℕ) (text rest : List Point) (at n : ℕ) (tokens : List Token) (braces : List Brace) (after : Bool) (texts now : List (List ℕ)) (goes_on : Bool)
    → rest ≡ drop at text → goes_on ≡ true → n ≡ prefix_len (λ c. c == 0x20) (map code_of rest)
    → IsRunning goes_on to text at tokens braces after texts now → IsRunning goes_on to text (at + n) tokens braces after texts now
running_spaces to text rest at n tokens braces after texts now goes_on here on count r =
    let s : IsScanning to text (at + n) tokens braces after texts now =
    spaces_passed to text n at rest tokens braces after texts now here (omega (arith, count)) (subst (λ (b : Bool). IsAt b to text at tokens braces after texts now) on r.state) in
    record { within = s.within; few = s.few; gained = r.gained; state = subst (λ (b : Bool). IsAt b to text (at + n) tokens braces after texts now) (sym on) s }
