-- A script, with its End token after it, stands well where it has at most 2^24 tokens.
use Rattle.std.proofs.Common.{◌≡◌, ℕ, suc, ◌+◌, ◌^◌, ◌≤◌, List, [], ◌∷◌, ◌++◌, length, get_or, None, ap, subst, arith}
use Rattle.std.proofs.lemmas.List.{length-append}
use Rattle.script_grammar.specs.Fault.{depth_limit}
use Rattle.script_grammar.specs.Lexeme.{Lexeme}
use Rattle.script_grammar.specs.Pieces.{whole, depths}
use Rattle.script_grammar.specs.Print.{print_stmts}
use Rattle.script_grammar.specs.Script.{IsScript}
use Rattle.script_grammar.specs.Tree.{Stmts}
use Rattle.parse_track.specs.Notes.{early_error}
use Rattle.grammar_start_laws.specs.Own.{TokensRise}
use Rattle.emit_limit_laws.specs.Limits.{ScriptStands}

rise_front : (low : ℕ) (ts us : List Lexeme) → TokensRise low (ts ++ us) → TokensRise low ts
rise_front low [] us h = tt
rise_front low (t ∷ ts) us h = (h.0, rise_front (suc t.start) ts us h.1)

-- tokens that start at rising offsets are no more than the offsets in front of the last of them
pub rising_few : (low : ℕ) (ts : List Lexeme) (last : Lexeme) → TokensRise low (ts ++ last ∷ []) → low + length ts ≤ last.start
rising_few low [] last h = let first = h.0 in omega (arith, first)
rising_few low (t ∷ ts) last h =
    let first = h.0 in
    let k = rising_few (suc t.start) ts last h.1 in
    omega (arith, first, k)

pub stands_of_text : (all tokens : List Lexeme) (end : Lexeme) (items : Stmts) → all ≡ tokens ++ end ∷ [] → (script : IsScript tokens end items)
    → ((j : ℕ) → get_or (depths (print_stmts whole 0 items) tokens end script.fits) j 0 ≤ depth_limit) → length all ≤ 2 ^ 24 → TokensRise 0 all → early_error items ≡ None → ScriptStands tokens end items
stands_of_text all tokens end items split script shallow few rise faultless =
    let e = ap (λ (ts : List Lexeme). length ts) split in
    let f = length-append tokens (end ∷ []) in
    record {
      script = script;
      few = omega (arith, e, f, few);
      shallow = shallow;
      rise = rise_front 0 tokens (end ∷ []) (subst (TokensRise 0) split rise);
      faultless = faultless;
    }
