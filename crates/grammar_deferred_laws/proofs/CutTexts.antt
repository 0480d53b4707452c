-- A text that is cut: a first fault of its first tokens is one of all of it, and a script that ends in them is all of it. Cut
-- after the stop of its brackets, it is closed.
use Rattle.std.proofs.Common.{◌≡◌, ℕ, zero, suc, ◌-◌, ◌≤◌, ◌<◌, List, [], ◌∷◌, ◌++◌, length, take, drop, get_or, refl, sym, ap, ◌∙◌, subst, arith, append_assoc, append-nil, length-append, Option, Some, None, option_map, option_and_then, inl, inr}
use Rattle.std.proofs.Math.Seq.{take-suc}
use Rattle.std.proofs.lemmas.List.{take-append-drop, take-take, take-map, length-map}
use Rattle.script_grammar.specs.declared.brackets.Bracket.{Bracket}
use Rattle.script_grammar.specs.Lexeme.{Lexeme}
use Rattle.script_grammar.specs.Tree.{Body, Stmts}
use Rattle.script_grammar.specs.Pieces.{BracedArrow, Opener, open_behind, open_at_end}
use Rattle.script_grammar.specs.Endings.{body_ending}
use Rattle.script_grammar.specs.Matching.{part_of, next_open, all_open, IsStop}
use Rattle.script_grammar.specs.Fault.{Part, Begins, BeginsDeep, Refusal, Unexpected, TooDeep, RefusedAs, FirstFault}
use Rattle.grammar_parser_specs.specs.Parser.{Bad, Deep, Parser, end_lexeme}
use Rattle.grammar_parser_laws.proofs.Complete.{bare}
use Rattle.grammar_script_laws.proofs.Bracketed.{IsInner, AllInner, openers, kinds, open_behind-next}
use Rattle.grammar_script_laws.proofs.Partnered.{part-read, inner-or_not, open_behind-last}
use Rattle.grammar_parser_laws.proofs.Nested.{open_step, open_append}
use Rattle.grammar_script_laws.proofs.FirstFaults.{Decides, first_deep}
use Rattle.grammar_script_laws.proofs.ScriptLaws.{Text, ScriptOf, last_only, inner_no_end}
use Rattle.grammar_script_laws.proofs.Closed.{Closed, Ended, open_front, not_both}
use Rattle.grammar_script_laws.proofs.PassedLaws.{Passed}
use Rattle.grammar_deferred_laws.proofs.ClosedParts.{Matches, closed_some, first_bad_closed}

-- A first fault is known by the tokens up to it.

refused_same : (P : Part) (ts us : List Lexeme) (k : ℕ) (why : Refusal) → take (suc k) ts ≡ take (suc k) us → RefusedAs why P ts k → RefusedAs why P us k
refused_same P ts us k Unexpected e r = subst (λ w. Begins P w → ⊥) e r
refused_same P ts us k TooDeep e r = subst (λ w. BeginsDeep P w k) e r

fewer_same : (ts us : List Lexeme) (j k : ℕ) → j ≤ k → take k ts ≡ take k us → take j ts ≡ take j us
fewer_same ts us j k l e = sym (take-take j k ts l) ∙ ap (take j) e ∙ take-take j k us l

pub first_fault_same : (P : Part) (ts us : List Lexeme) (k : ℕ) (why : Refusal) → take (suc k) ts ≡ take (suc k) us → FirstFault P ts k why → FirstFault P us k why
first_fault_same P ts us k why e f = record {
  before = λ j l. subst (λ w. Begins P w × (BeginsDeep P w j → ⊥)) (fewer_same ts us (suc j) (suc k) (omega (arith, l)) e) (f.before j l);
  refused = refused_same P ts us k why e f.refused;
}

-- of the first tokens, and of all
pub first_fault_of_cut : (P : Part) (n : ℕ) (ts : List Lexeme) (k : ℕ) (why : Refusal) → k < n → FirstFault P (take n ts) k why → FirstFault P ts k why
first_fault_of_cut P n ts k why l f = first_fault_same P (take n ts) ts k why (take-take (suc k) n ts (omega (arith, l))) f

pub first_fault_in_cut : (P : Part) (n : ℕ) (ts : List Lexeme) (k : ℕ) (why : Refusal) → k < n → FirstFault P ts k why → FirstFault P (take n ts) k why
first_fault_in_cut P n ts k why l f = first_fault_same P ts (take n ts) k why (sym (take-take (suc k) n ts (omega (arith, l)))) f

-- What a parser finds in the first tokens.

length_cut : (n : ℕ) (ts : List Lexeme) → length (take n ts) ≤ n
length_cut zero ts = omega arith
length_cut (suc n) [] = omega arith
length_cut (suc n) (t ∷ ts) = let h = length_cut n ts in omega (arith, h)

place_in_cut : (n : ℕ) (ts front : List Lexeme) (t : Lexeme) (us : List Lexeme) → take n ts ≡ front ++ t ∷ us → length (take n ts) - length (t ∷ us) < n
place_in_cut n ts front t us e = omega (arith, length_cut n ts, ap length e, length-append front (t ∷ us))

module _ {A : Type 0} (P : Part) (f : Parser A) (d : Decides P f) (n : ℕ) (ts : List Lexeme) where
  pub first_bad_cut : Matches P → (us : List Lexeme) → Closed (take n ts) → bare (f (take n ts)) ≡ Bad [] us → FirstFault P ts (length (take n ts) - length us) Unexpected
  first_bad_cut o [] c e = absurd (closed_some P f d o (take n ts) c e)
  first_bad_cut o (t ∷ us) c e =
      let b = d.bad_begins (take n ts) (t ∷ us) e in
      first_fault_of_cut P n ts (length (take n ts) - length (t ∷ us)) Unexpected (place_in_cut n ts b.front t us b.split) (first_bad_closed P f d o (take n ts) (t ∷ us) c e)

  pub first_deep_cut : (us : List Lexeme) → bare (f (take n ts)) ≡ Deep [] us → FirstFault P ts (length (take n ts) - length us) TooDeep
  first_deep_cut us e =
      let b = d.deep_begins (take n ts) us e in
      let place = place_in_cut n ts b.front b.token b.behind (b.split ∙ ap (λ x. b.front ++ x) b.first) in
      first_fault_of_cut P n ts (length (take n ts) - length us) TooDeep (subst (λ x. length (take n ts) - length x < n) (sym b.first) place) (first_deep P f d (take n ts) us e)

-- Where the first tokens end as a text does, they are all.
pub cut_is_all : (n : ℕ) (ts inner : List Lexeme) (last : Lexeme) → Text ts → take n ts ≡ inner ++ last ∷ [] → (IsInner last.kind → ⊥) → take n ts ≡ ts
cut_is_all n ts inner last t e h =
    let split : ts ≡ inner ++ last ∷ drop n ts = sym (take-append-drop n ts) ∙ ap (λ x. x ++ drop n ts) e ∙ append_assoc inner (last ∷ []) (drop n ts) in
    let q = last_only inner t.inner last t.last (drop n ts) (sym split ∙ t.split) t.are_inner h in
    sym (append-nil (take n ts)) ∙ ap (λ x. take n ts ++ x) (sym q.none) ∙ take-append-drop n ts

pub script_of_cut : (n : ℕ) (ts : List Lexeme) (items : Stmts) → Text ts → ScriptOf (take n ts) items → ScriptOf ts items
script_of_cut n ts items t s = subst (λ x. ScriptOf x items) (cut_is_all n ts s.inner s.last t s.split (inner_no_end s.last.kind s.ends)) s

-- the same for what was read of bodies that are passed over
pub passed_of_cut : (bodies : ℕ → Body) (braced : (k : ℕ) → body_ending (bodies k) ≡ BracedArrow) (n : ℕ) (ts : List Lexeme) (items : Stmts) → Text ts → Passed bodies braced (take n ts) items → Passed bodies braced ts items
passed_of_cut bodies braced n ts items t p = record { tree = p.tree; is = script_of_cut n ts p.tree t p.is; same = p.same }

-- After what is closed all is.
pub closed_more : (u v : List Lexeme) → Closed u → Closed (u ++ v)
closed_more u v c = record { is = by (open_at_end [] (u ++ v)) refl }
  where
    by : (o : Option (List Opener)) → open_at_end [] (u ++ v) ≡ o → o ≡ None
    by None e = refl
    by (Some qs) e = let o = open_front u v [] qs e in absurd (not_both (open_at_end [] u) o.open_ones c.is o.is)

pub closed_cut : (n : ℕ) (ts : List Lexeme) → Closed (take n ts) → Closed ts
closed_cut n ts c = subst Closed (take-append-drop n ts) (closed_more (take n ts) (drop n ts) c)

-- The two ways to say what is open after some tokens agree.
open_kinds : (ls : List Lexeme) (s t : List Bracket) → AllInner ls → all_open s (kinds ls) ≡ Some t → open_at_end (openers s) ls ≡ Some (openers t)
open_kinds [] s t i h = ap (option_map openers) h
open_kinds (x ∷ ls) s t i h = past (next_open s (part_of x.kind)) refl (λ u. open_kinds ls u t i.1) h
  where
    past : (o : Option (List Bracket)) → next_open s (part_of x.kind) ≡ o → ((u : List Bracket) → all_open u (kinds ls) ≡ Some t → open_at_end (openers u) ls ≡ Some (openers t)) → option_and_then (λ u. all_open u (kinds ls)) o ≡ Some t → open_at_end (openers s) (x ∷ ls) ≡ Some (openers t)
    past None e k h = absurd (cc)
    past (Some u) e k h = open_step (openers s) (openers u) x ls (open_behind-next x.kind s i.0 ∙ ap (option_map openers) e) ∙ k u h

-- The tokens up to the stop of the brackets and the one there are closed, and only the last may be End or Bad.
pub stop_ended : (ls : List Lexeme) (stop : ℕ) → IsStop (kinds ls) stop → AllInner (take stop ls) → (suc stop ≡ length ls → IsInner (get_or ls stop end_lexeme).kind → ⊥) → Ended (take (suc stop) ls)
stop_ended ls stop h i n =
    let size = length-map ls (λ t. t.kind) in
    let within : stop < length ls = (let w = h.within in omega arith) in
    let last : Lexeme = get_or ls stop end_lexeme in
    let split : take (suc stop) ls ≡ take stop ls ++ last ∷ [] = take-suc ls stop end_lexeme within in
    let before : open_at_end [] (take stop ls) ≡ Some (openers h.stack) = open_kinds (take stop ls) [] h.stack i (ap (all_open []) (sym (take-map (λ t. t.kind) stop ls)) ∙ h.fit) in
    let misfit : open_behind last.kind (openers h.stack) ≡ None = elim (inner-or_not last.kind) [
      | inl k ↦ elim h.stops [
        | inl e ↦ absurd (n (e ∙ size) k)
        | inr e ↦ open_behind-next last.kind h.stack k ∙ ap (λ q. option_map openers (next_open h.stack q)) (sym (part-read ls stop end_lexeme within)) ∙ ap (option_map openers) e
      ]
      | inr k ↦ open_behind-last last.kind (openers h.stack) k
    ] in
    record {
      inner = take stop ls;
      last = last;
      split = split;
      are_inner = i;
      closed = record { is = ap (open_at_end []) split ∙ open_append (take stop ls) [] (openers h.stack) (last ∷ []) before ∙ none last (openers h.stack) misfit };
    }
  where
    none : (t : Lexeme) (qs : List Opener) → open_behind t.kind qs ≡ None → open_at_end qs (t ∷ []) ≡ None
    none t qs e = ap (λ o. elim o [ None ↦ None | Some x ↦ open_at_end x [] ]) e
