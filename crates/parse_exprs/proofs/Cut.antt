-- The tokens of a text up to the stop of its brackets.
use Rattle.std.proofs.Common.{◌≡◌, ◌∙◌, ℕ, suc, ◌<◌, List, [], ◌++◌, take, drop, length, sym, ap, subst, arith, get_or, true, false}
use Rattle.std.proofs.lemmas.List.{take-append-drop, length-take-le, length-drop, length-map}
use Rattle.std.proofs.Math.ListN.{get_or-append}
use Rattle.script_grammar.specs.declared.token.Token.{Token}
use Rattle.script_grammar.specs.Matching.{Matching, IsMatching, kinds_of}
use Rattle.parse_exprs.specs.declared.source.Source.{Source}
use Rattle.parse_exprs.specs.Source.{IsSource, IsScanned, HasAtom, ends_all}

module _ (ts : List Token) (m : Matching) (h : IsScanned ts) (k : IsMatching (kinds_of ts) m) where
  within : m.stop < length ts
  within = let w = k.stop.within in let z = length-map ts (λ (t : Token). t.kind) in omega arith

  size : length (take (suc m.stop) ts) ≡ suc m.stop
  size = length-take-le (suc m.stop) ts (let w = within in omega arith)

  kept : (n : ℕ) (d : Token) → n < suc m.stop → get_or ts n d ≡ get_or (take (suc m.stop) ts) n d
  kept n d l = ap (λ xs. get_or xs n d) (sym (take-append-drop (suc m.stop) ts)) ∙ get_or-append (take (suc m.stop) ts) (drop (suc m.stop) ts) d n (let z = size in omega arith)

  ended : drop (suc m.stop) ts ≡ [] → suc m.stop ≡ length ts
  ended e = let z = size in let w = within in omega (arith, ap length e, length-drop (suc m.stop) ts)

  -- those of a source that has these tokens and these brackets
  pub is_source : (s : Source) → s.tokens.now ≡ take (suc m.stop) ts → s.brackets.now ≡ m → IsSource s
  is_source s e b = record {
    few = let z = size in let w = within in let f = h.few in omega (arith, ap length e);
    atoms = λ n d l. subst HasAtom (kept n d (let z = size in omega (arith, ap length e)) ∙ sym (ap (λ xs. get_or xs n d) e)) (h.atoms n d (let z = size in let w = within in omega (arith, ap length e)));
    behind = drop (suc m.stop) ts;
    matching = subst (λ x. IsMatching (kinds_of (s.tokens.now ++ drop (suc m.stop) ts)) x) (sym b) (subst (λ xs. IsMatching (kinds_of (xs ++ drop (suc m.stop) ts)) m) (sym e) (subst (λ xs. IsMatching (kinds_of xs) m) (sym (take-append-drop (suc m.stop) ts)) k));
    stop = ap (λ x. suc x.stop) b ∙ sym (ap length e ∙ size);
    inner = λ n d l. let below : n < m.stop = subst (λ x. n < x.stop) b l in subst (λ (t : Token). ends_all t.kind ≡ false) (kept n d (omega arith) ∙ sym (ap (λ xs. get_or xs n d) e)) (h.inner n d (let w = within in omega arith));
    last = λ d none. subst (λ x. ends_all (get_or s.tokens.now x.stop d).kind ≡ true) (sym b) (subst (λ (t : Token). ends_all t.kind ≡ true) (kept m.stop d (omega arith) ∙ sym (ap (λ xs. get_or xs m.stop d) e)) (h.last m.stop d (ended none)));
  }
