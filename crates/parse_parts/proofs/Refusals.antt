-- Where a parser of a part faults, there is the first fault of that part, by the number of its token.
use Rattle.std.proofs.Common.{◌≡◌, ◌∙◌, ℕ, ◌+◌, ◌-◌, ◌<◌, List, [], ◌∷◌, ◌++◌, length, drop, refl, sym, ap, subst, arith}
use Rattle.std.proofs.lemmas.List.{length-drop, length-append}
use Rattle.script_grammar.specs.Lexeme.{Lexeme}
use Rattle.script_grammar.specs.Fault.{Part, RefusedAs, Refusal, Unexpected, TooDeep, FirstFault}
use Rattle.grammar_parser_specs.specs.Parser.{Bad, Deep, Parser}
use Rattle.grammar_parser_laws.proofs.Complete.{bare}
use Rattle.grammar_script_laws.proofs.FirstFaults.{Decides, first_deep}
use Rattle.grammar_script_laws.proofs.Closed.{Closed}
use Rattle.grammar_deferred_laws.proofs.ClosedParts.{Matches, closed_some, first_bad_closed}
use Rattle.parse_parts.specs.Parts.{Refused}

pub some_left : (us : List Lexeme) → (us ≡ [] → ⊥) → 0 < length us
some_left [] n = absurd (n refl)
some_left (t ∷ us) n = omega arith

-- a fault after what was read stands in the text
at_token : (P : Part) (all front : List Lexeme) (start token : ℕ) (why : Refusal) → drop start all ≡ front ++ drop token all → (drop token all ≡ [] → ⊥) → FirstFault P (drop start all) (length (drop start all) - length (drop token all)) why → Refused P (drop start all) start token why
at_token P all front start token why e n h =
    let left = some_left (drop token all) n in
    let first = length-drop start all in
    let second = length-drop token all in
    let whole : length (drop start all) ≡ length front + length (drop token all) = ap length e ∙ length-append front (drop token all) in
    record {
      not_before = omega (arith, left, first, second, whole);
      first = subst (λ k. FirstFault P (drop start all) k why) (omega (arith, left, first, second, whole)) h;
    }

module _ {A : Type 0} (P : Part) (f : Parser A) (d : Decides P f) where
  pub bad_refused : Matches P → (all : List Lexeme) (start token : ℕ) → Closed (drop start all) → bare (f (drop start all)) ≡ Bad [] (drop token all) → Refused P (drop start all) start token Unexpected
  bad_refused o all start token c e =
      let b = d.bad_begins (drop start all) (drop token all) e in
      at_token P all b.front start token Unexpected b.split (λ k. closed_some P f d o (drop start all) c (e ∙ ap (Bad []) k)) (first_bad_closed P f d o (drop start all) (drop token all) c e)

  pub deep_refused : (all : List Lexeme) (start token : ℕ) → bare (f (drop start all)) ≡ Deep [] (drop token all) → Refused P (drop start all) start token TooDeep
  deep_refused all start token e =
      let b = d.deep_begins (drop start all) (drop token all) e in
      at_token P all b.front start token TooDeep b.split (λ k. none b.token b.behind (sym k ∙ b.first)) (first_deep P f d (drop start all) (drop token all) e)
    where
      none : (t : Lexeme) (us : List Lexeme) → [] ≡ t ∷ us → ⊥
      none t us k = cc

-- two names for one part

module _ (P Q : Part) (to : (w : List Lexeme) (deep : List ℕ) → P w deep → Q w deep) (back : (w : List Lexeme) (deep : List ℕ) → Q w deep → P w deep) where
  refused_as : (ts : List Lexeme) (k : ℕ) (why : Refusal) → RefusedAs why P ts k → RefusedAs why Q ts k
  refused_as ts k Unexpected h = λ v. h (record { end = v.end; deep = v.deep; is = back _ v.deep v.is })
  refused_as ts k TooDeep h = record { end = h.end; deep = h.deep; is = to _ h.deep h.is; above = h.above }

  pub renamed : (ts : List Lexeme) (start token : ℕ) (why : Refusal) → Refused P ts start token why → Refused Q ts start token why
  renamed ts start token why h = record {
    not_before = h.not_before;
    first = record {
      before = λ j l.
          let b = h.first.before j l in
          (record { end = b.0.end; deep = b.0.deep; is = to _ b.0.deep b.0.is }, λ x. b.1 (record { end = x.end; deep = x.deep; is = back _ x.deep x.is; above = x.above }));
      refused = refused_as ts (token - start) why h.first.refused;
    };
  }
