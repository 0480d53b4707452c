-- Tokens are a script of one tree, or have a first fault, and never both.
use Rattle.std.proofs.Common.{◌≡◌, false, ℕ, zero, suc, ◌-◌, ◌≤◌, ◌<◌, List, [], ◌∷◌, ◌++◌, length, take, refl, sym, ap, ◌∙◌, subst, arith, append_assoc, length-append, ◌⊎◌, inl, inr}
use Rattle.std.proofs.Math.ListN.{get_or-eq_default}
use Rattle.std.proofs.lemmas.List.{take_all}
use Rattle.script_grammar.specs.Lexeme.{Lexeme}
use Rattle.script_grammar.specs.Pieces.{whole}
use Rattle.script_grammar.specs.Print.{print_stmts}
use Rattle.script_grammar.specs.Script.{IsScript}
use Rattle.script_grammar.specs.Tree.{Stmts}
use Rattle.script_grammar.specs.Fault.{Begins, BeginsDeep, ScriptPart, Refusal, Unexpected, TooDeep, RefusedAs, FirstFault}
use Rattle.grammar_parser_specs.specs.Parser.{Reply, Read}
use Rattle.grammar_script_laws.proofs.Bracketed.{IsInner, AllInner}
use Rattle.grammar_script_laws.proofs.Closed.{Closed, not_both}
use Rattle.grammar_deferred_laws.proofs.ClosedParts.{script_matches}
use Rattle.grammar_parser_laws.proofs.NestedTrees.{nested_stmts}
use Rattle.grammar_script_laws.proofs.PartLaws.{nested_inner}
use Rattle.grammar_script_laws.proofs.Partnered.{inner-or_not}
use Rattle.grammar_script_laws.proofs.ScriptLaws.{ScriptOf, script_decides, script_read, last_only, inner_no_end, read_has_no_fault}
use Rattle.grammar_parser_laws.proofs.Stands.{Marked, lexemes, marks}
use Rattle.parse_bodies.specs.Whole.{IsText}

abbrev as_script : (ts : List Lexeme) (items : Stmts) → IsText ts items → ScriptOf ts items
as_script ts items t = record { inner = t.inner; last = t.end; split = t.split; ends = t.ends; is = t.script; shallow = t.shallow }

-- One tree.

read_same : (a b : Stmts) (us vs : List Lexeme) → ◌≡◌ {A = Reply Stmts} (Read a [] us) (Read b [] vs) → a ≡ b
read_same a b us vs e = cc

pub one_text : (ts : List Lexeme) (a b : Stmts) → IsText ts a → IsText ts b → a ≡ b
one_text ts a b s t = read_same a b (s.end ∷ []) (t.end ∷ []) (sym (script_read ts a (as_script ts a s)) ∙ script_read ts b (as_script ts b t))

-- A first fault stands at one of the tokens.

inside : (w : List Lexeme) (items : Stmts) (n : Lexeme) → IsScript w n items → AllInner w
inside w items n s = nested_inner (print_stmts whole 0 items) (nested_stmts whole 0 false items s.proper) w n s.fits

as_long : (xs : List Marked) → length (marks xs) ≡ length (lexemes xs)
as_long [] = refl
as_long (x ∷ xs) = ap suc (as_long xs)

deep_long : (w : List Lexeme) (deep : List ℕ) → ScriptPart whole 0 w deep → length deep ≡ length w
deep_long w deep p = let c = script_decides.reads w deep p in ap length (sym c.depths_are) ∙ as_long c.marked ∙ ap length c.lexemes_are

-- no token after these is deep
never_deep : (ts inner : List Lexeme) (last : Lexeme) (k : ℕ) → ts ≡ inner ++ last ∷ [] → AllInner inner → (IsInner last.kind → Closed ts) → length ts ≤ k → BeginsDeep (ScriptPart whole 0) ts k → ⊥
never_deep ts inner last k split all closed beyond b = elim (inner-or_not last.kind) [
  | inl is ↦
      let o = (script_matches whole 0).at ts b.end b.deep b.is (subst AllInner (sym split) (all_more inner last all is)) in
      not_both _ o.open_ones (closed is).is o.is
  | inr none ↦
      let p = b.is in
      let q = last_only inner p.inner last p.end b.end (sym (append_assoc inner (last ∷ []) b.end) ∙ ap (λ (l : List Lexeme). l ++ b.end) (sym split) ∙ p.split) (inside p.inner p.items p.end p.is) none in
      let size : length b.deep ≤ k = (let a = deep_long (ts ++ b.end) b.deep p in let z = length-append ts b.end in let w = ap length q.none in omega (arith, a, z, w, beyond)) in
      let a = b.above in
      let z = get_or-eq_default b.deep 0 size in
      omega (arith, a, z)
]
  where
    all_more : (us : List Lexeme) (t : Lexeme) → AllInner us → IsInner t.kind → AllInner (us ++ t ∷ [])
    all_more [] t h i = (i, tt)
    all_more (u ∷ us) t h i = (h.0, all_more us t h.1 i)

pub fault_within : (ts inner : List Lexeme) (last : Lexeme) (k : ℕ) (why : Refusal) → ts ≡ inner ++ last ∷ [] → AllInner inner → (IsInner last.kind → Closed ts) → FirstFault (ScriptPart whole 0) ts k why → k < length ts
fault_within ts inner last k why split all closed f = elim (below k (length ts)) [
  | inl less ↦ less
  | inr beyond ↦ absurd (never why beyond f.refused)
]
  where
    below : (a b : ℕ) → (a < b) ⊎ (b ≤ a)
    below a zero = inr (omega arith)
    below zero (suc b) = inl (omega arith)
    below (suc a) (suc b) = elim (below a b) [ inl l ↦ inl (omega (arith, l)) | inr l ↦ inr (omega (arith, l)) ]

    some : 0 < length ts
    some = let z = ap length split ∙ length-append inner (last ∷ []) in omega (arith, z)

    all_of : (n : ℕ) → length ts ≤ n → take n ts ≡ ts
    all_of n l = take_all n ts l

    never : (why : Refusal) → length ts ≤ k → RefusedAs why (ScriptPart whole 0) ts k → ⊥
    never Unexpected beyond r =
        let v = (f.before (length ts - 1) (let s = some in omega (arith, s, beyond))).0 in
        r (subst (Begins (ScriptPart whole 0)) (all_of (suc (length ts - 1)) (let s = some in omega (arith, s)) ∙ sym (all_of (suc k) (omega (arith, beyond)))) v)
    never TooDeep beyond r = never_deep ts inner last k split all closed beyond (subst (λ (x : List Lexeme). BeginsDeep (ScriptPart whole 0) x k) (all_of (suc k) (omega (arith, beyond))) r)

-- A script has no fault.
pub script_no_fault : (ts : List Lexeme) (items : Stmts) (token : ℕ) (why : Refusal) → IsText ts items → FirstFault (ScriptPart whole 0) ts token why → ⊥
script_no_fault ts items token why t f =
    read_has_no_fault ts items token why (as_script ts items t)
    (fault_within ts t.inner t.end token why t.split (inside t.inner items t.end t.script) (λ is. absurd (inner_no_end t.end.kind t.ends is)) f) f
