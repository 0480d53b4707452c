-- What the walk knows after one more token, by what its calls did to partners and open tokens.
use Rattle.std.proofs.Common.{◌≡◌, ◌≢◌, ◌∙◌, ◌<◌, ◌+◌, ℕ, suc, List, [], ◌∷◌, Bool, true, false, Some, None, length, get_or, refl, ap, sym, subst, arith, if◌then◌else◌}
use Rattle.std.proofs.lemmas.List.{get_or-map, length-map}
use Rattle.script_grammar.specs.declared.token.Token.{Token}
use Rattle.script_grammar.specs.declared.token.Kind.TheVariants as kind
use Rattle.script_grammar.specs.declared.brackets.Bracket.{Bracket}
use Rattle.script_grammar.specs.declared.brackets.Bracket.TheVariants.{Template}
use Rattle.script_grammar.specs.declared.brackets.BracketPart.{BracketPart}
use Rattle.script_grammar.specs.declared.brackets.BracketPart.TheVariants.{Opening, Closing, Middle, Other}
use Rattle.script_grammar.specs.declared.brackets.Open.{Open}
use Rattle.script_grammar.specs.Matching.{part_of, part_at, kinds_of, is_same, next_open, Matching, IsMatching}
use Rattle.script_grammar.specs.BracketWalk.{brackets_of, partner_in, told_partners, Walked, After, Closes, GainsPartner}
use Rattle.script_grammar.proofs.Walking.{walked-start, walked-other, walked-opening, walked-closing, walked-middle, walked-last, walked-misfit, opener-before}
use Rattle.script_grammar.proofs.PartnerLists.{none-in, gains-here, gains-other}

-- reading a token tells its part
part-read : (ts : List Token) (n : ℕ) (d : Token) (p : BracketPart) → n < length ts → p ≡ part_of (get_or ts n d).kind → part_at (kinds_of ts) n ≡ p
part-read ts n d p within read = ap part_of (get_or-map (λ t. t.kind) ts n d kind.End within) ∙ sym read

kinds-within : (ts : List Token) (n : ℕ) → n < length ts → n < length (kinds_of ts)
kinds-within ts n within = subst (λ m. n < m) (sym (length-map ts (λ t. t.kind))) within

-- the token that a closing one closes stands before it
pub closed-before : (ts : List Token) (n x : ℕ) (b : Bracket) (ps : List ℕ) (os us : List Open) → Walked (kinds_of ts) n (partner_in ps) os → Closes os us b (Some x) → x < n
closed-before ts n x b ps os us h closed =
    subst (λ t. t < n) closed.1.1 (opener-before (kinds_of ts) n (partner_in ps) closed.0 us (subst (λ l. Walked (kinds_of ts) n (partner_in ps) l) closed.1.0 h))

pub taken-other : (ts : List Token) (n : ℕ) (d : Token) (ps : List ℕ) (os : List Open) → n < length ts → Other ≡ part_of (get_or ts n d).kind → Walked (kinds_of ts) n (partner_in ps) os
    → Walked (kinds_of ts) (suc n) (partner_in ps) os
taken-other ts n d ps os within read h = walked-other (kinds_of ts) n (partner_in ps) os (kinds-within ts n within) (part-read ts n d Other within read) h

pub taken-opening : (ts : List Token) (n : ℕ) (d : Token) (b : Bracket) (ps qs : List ℕ) (os us : List Open) → n < length ts → Opening b ≡ part_of (get_or ts n d).kind
    → Walked (kinds_of ts) n (partner_in ps) os → qs ≡ ps → us ≡ record { token = n; bracket = b } ∷ os → Walked (kinds_of ts) (suc n) (partner_in qs) us
taken-opening ts n d b ps qs os us within read h partners opened =
    subst (λ q. Walked (kinds_of ts) (suc n) (partner_in q) us) (sym partners) (subst (λ u. Walked (kinds_of ts) (suc n) (partner_in ps) u) (sym opened)
    (walked-opening (kinds_of ts) n b (partner_in ps) os (kinds-within ts n within) (part-read ts n d (Opening b) within read) h))

pub taken-closing : (ts : List Token) (n : ℕ) (d : Token) (b : Bracket) (x : ℕ) (ps qs rs ss : List ℕ) (os us vs : List Open) → n < length ts → Closing b ≡ part_of (get_or ts n d).kind
    → Walked (kinds_of ts) n (partner_in ps) os → Closes os us b (Some x) → qs ≡ ps → GainsPartner qs rs x n → GainsPartner rs ss n x → vs ≡ us
    → Walked (kinds_of ts) (suc n) (partner_in ss) vs
taken-closing ts n d b x ps qs rs ss os us vs within read h closed same first second stack =
    let o = closed.0 in
    let before = closed-before ts n x b ps os us h closed in
    let apart : o.token ≢ n = (λ e. let l = before in let y = closed.1.1 in omega arith) in
    let is_x : x ≡ o.token = sym closed.1.1 in
    subst (λ u. Walked (kinds_of ts) (suc n) (partner_in ss) u) (sym stack)
    (walked-closing (kinds_of ts) n b (partner_in ps) (partner_in ss) o us (kinds-within ts n within) (part-read ts n d (Closing b) within read) closed.1.2
    (gains-here rs ss n x second ∙ ap Some is_x)
    (gains-other rs ss n x second o.token apart ∙ ap (partner_in rs) (sym is_x) ∙ gains-here qs rs x n first)
    (λ t not_x not_n. gains-other rs ss n x second t not_n ∙ gains-other qs rs x n first t (λ e. not_x (e ∙ is_x)) ∙ ap (λ l. partner_in l t) same)
    (subst (λ l. Walked (kinds_of ts) n (partner_in ps) l) closed.1.0 h))

pub taken-middle : (ts : List Token) (n : ℕ) (d : Token) (x : ℕ) (ps qs rs ss : List ℕ) (os us vs ws : List Open) → n < length ts → Middle ≡ part_of (get_or ts n d).kind
    → Walked (kinds_of ts) n (partner_in ps) os → Closes os us Template (Some x) → qs ≡ ps → GainsPartner qs rs x n → vs ≡ us → ss ≡ rs
    → ws ≡ record { token = n; bracket = Template } ∷ vs → Walked (kinds_of ts) (suc n) (partner_in ss) ws
taken-middle ts n d x ps qs rs ss os us vs ws within read h closed same first kept after stack =
    let o = closed.0 in
    let is_x : x ≡ o.token = sym closed.1.1 in
    let entries : ws ≡ record { token = n; bracket = Template } ∷ us = stack ∙ ap (λ l. record { token = n; bracket = Template } ∷ l) kept in
    let made = walked-middle (kinds_of ts) n (partner_in ps) (partner_in rs) o us (kinds-within ts n within) (part-read ts n d Middle within read) closed.1.2
    (ap (partner_in rs) (sym is_x) ∙ gains-here qs rs x n first)
    (λ t not_x. gains-other qs rs x n first t (λ e. not_x (e ∙ is_x)) ∙ ap (λ l. partner_in l t) same)
    (subst (λ l. Walked (kinds_of ts) n (partner_in ps) l) closed.1.0 h) in
    subst (λ q. Walked (kinds_of ts) (suc n) (partner_in q) ws) (sym after) (subst (λ u. Walked (kinds_of ts) (suc n) (partner_in rs) u) (sym entries) made)

pub misfit-closing : (ts : List Token) (n : ℕ) (d : Token) (b : Bracket) (ps qs : List ℕ) (os us : List Open) → n < length ts → Closing b ≡ part_of (get_or ts n d).kind
    → Walked (kinds_of ts) n (partner_in ps) os → Closes os us b None → qs ≡ ps → IsMatching (kinds_of ts) (record { partners = told_partners qs; stop = n })
misfit-closing ts n d b ps qs os us within read h closed same =
    subst (λ q. IsMatching (kinds_of ts) (record { partners = told_partners q; stop = n })) (sym same)
    (walked-misfit (kinds_of ts) n ps os (kinds-within ts n within) (ap (next_open (brackets_of os)) (part-read ts n d (Closing b) within read) ∙ closed) h)

-- what does not close a template does not stand in the middle of one
middle-none : (os : List Open) → next_open (brackets_of os) (Closing Template) ≡ None → next_open (brackets_of os) Middle ≡ None
middle-none [] h = refl
middle-none (o ∷ os) h = same (is_same o.bracket Template) h
  where
    same : (t : Bool) → (if t then Some (brackets_of os) else None) ≡ None → (if t then Some (o.bracket ∷ brackets_of os) else None) ≡ None
    same true e = absurd (cc)
    same false e = refl

pub misfit-middle : (ts : List Token) (n : ℕ) (d : Token) (ps qs : List ℕ) (os us : List Open) → n < length ts → Middle ≡ part_of (get_or ts n d).kind
    → Walked (kinds_of ts) n (partner_in ps) os → Closes os us Template None → qs ≡ ps → IsMatching (kinds_of ts) (record { partners = told_partners qs; stop = n })
misfit-middle ts n d ps qs os us within read h closed same =
    subst (λ q. IsMatching (kinds_of ts) (record { partners = told_partners q; stop = n })) (sym same)
    (walked-misfit (kinds_of ts) n ps os (kinds-within ts n within) (ap (next_open (brackets_of os)) (part-read ts n d Middle within read) ∙ middle-none os closed) h)

pub taken-start : (ts : List Token) (ps : List ℕ) (os : List Open) → ps ≡ [] → os ≡ [] → Walked (kinds_of ts) 0 (partner_in ps) os
taken-start ts ps os made none = subst (λ l. Walked (kinds_of ts) 0 (partner_in ps) l) (sym none) (walked-start (kinds_of ts) (partner_in ps) (λ t. ap (λ l. partner_in l t) made ∙ none-in t))

pub taken-last : (ts : List Token) (n : ℕ) (ps : List ℕ) (os : List Open) → suc n ≡ length ts → Walked (kinds_of ts) n (partner_in ps) os
    → IsMatching (kinds_of ts) (record { partners = told_partners ps; stop = n })
taken-last ts n ps os last h = walked-last (kinds_of ts) n ps os (last ∙ sym (length-map ts (λ t. t.kind))) h

pub after-fits : (ts : List Token) (n : ℕ) (fits : Bool) (ps : List ℕ) (os : List Open) → fits ≡ true → After (kinds_of ts) n fits ps os
    → Walked (kinds_of ts) (n + 1) (partner_in ps) os
after-fits ts n true ps os e h = let next : suc n ≡ n + 1 = omega arith in subst (λ m. Walked (kinds_of ts) m (partner_in ps) os) next h
after-fits ts n false ps os e h = absurd (cc)

pub taken-end : (ts : List Token) (n last : ℕ) (ps : List ℕ) (os : List Open) (m : Matching) → n ≡ last → suc last ≡ length ts → m ≡ record { partners = told_partners ps; stop = last }
    → Walked (kinds_of ts) n (partner_in ps) os → IsMatching (kinds_of ts) m
taken-end ts n last ps os m at_last end made h =
    subst (IsMatching (kinds_of ts)) (sym made) (taken-last ts last ps os end (subst (λ k. Walked (kinds_of ts) k (partner_in ps) os) at_last h))
