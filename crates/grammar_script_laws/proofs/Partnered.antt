-- What the walks of the parser find after an opening bracket, by its partner in a matching of the tokens: where it has
-- one, what stands there, and else the stop.
use Rattle.std.proofs.Common.{◌≡◌, ◌∙◌, ◌<◌, ◌≤◌, ◌+◌, ◌-◌, ◌⊎◌, inl, inr, ℕ, zero, suc, List, [], ◌∷◌, ◌++◌, Bool, true, false, Option, Some, None, length, take, drop, get_or, option_map, refl, ap, sym, subst, arith, if◌then◌else◌, option_and_then}
use Rattle.std.proofs.Math.Seq.{take-suc, drop-cons}
use Rattle.std.proofs.lemmas.List.{take-append-drop, drop-append-le, length-take-le, append_assoc, drop-map, take-map, length-map, get_or-map}
use Rattle.script_grammar.specs.declared.token.Kind.{Kind}
use Rattle.script_grammar.specs.declared.token.Kind.TheVariants as kind
use Rattle.script_grammar.specs.declared.brackets.Bracket.{Bracket}
use Rattle.script_grammar.specs.declared.brackets.Bracket.TheVariants.{Paren, Brace, Template}
use Rattle.script_grammar.specs.declared.brackets.BracketPart.{BracketPart}
use Rattle.script_grammar.specs.declared.brackets.BracketPart.TheVariants.{Opening, Closing, Middle, Other}
use Rattle.script_grammar.specs.Lexeme.{Lexeme}
use Rattle.script_grammar.specs.Pieces.{Opener, paren, brace, open_behind}
use Rattle.script_grammar.specs.Matching.{part_of, part_at, is_same, next_open, all_open, opened_by, closed_by, between, Pairs, IsStop, IsPartner, IsMatching, Matching, partner_of}
use Rattle.script_grammar.proofs.Balance.{all_open-append, all_open-more, is_same-eq, between-more, between-none}
use Rattle.grammar_parser_specs.specs.Parser.{Read, Bad, head_of}
use Rattle.grammar_parser_specs.specs.Exprs.{pass_case, pass_over, closed_case, arrow_behind, is_arrow}
use Rattle.grammar_script_laws.proofs.Bracketed.{opener_of, openers, kinds, IsInner, AllInner, open_behind-next, walk_case, IsWalk, next_open-under, walk-done, walk-misfit}

pub kinds-between : (ls : List Lexeme) (a p : ℕ) → kinds (drop (suc a) (take p ls)) ≡ between (kinds ls) a p
kinds-between ls a p = sym (ap (drop (suc a)) (take-map (λ t. t.kind) p ls) ∙ drop-map (λ t. t.kind) (suc a) (take p ls))

pub split-behind : (ls : List Lexeme) (a p : ℕ) (d : Lexeme) → a < p → p < length ls → drop (suc a) ls ≡ drop (suc a) (take p ls) ++ (get_or ls p d ∷ drop (suc p) ls)
split-behind ls a p d a_p within =
    ap (drop (suc a)) (sym (take-append-drop p ls))
    ∙ drop-append-le (suc a) (take p ls) (drop p ls) (subst (λ m. suc a ≤ m) (sym (length-take-le p ls (omega arith))) (omega arith))
    ∙ ap (λ r. drop (suc a) (take p ls) ++ r) (drop-cons ls p d within)

pub inner-take : (ls : List Lexeme) (p q : ℕ) → p ≤ q → AllInner (take q ls) → AllInner (take p ls)
inner-take [] zero q l h = tt
inner-take [] (suc p) q l h = tt
inner-take (x ∷ xs) zero q l h = tt
inner-take (x ∷ xs) (suc p) zero l h = absurd (omega arith)
inner-take (x ∷ xs) (suc p) (suc q) l h = (h.0, inner-take xs p q (omega arith) h.1)

pub inner-drop : (n : ℕ) (ls : List Lexeme) → AllInner ls → AllInner (drop n ls)
inner-drop zero ls h = h
inner-drop (suc n) [] h = tt
inner-drop (suc n) (x ∷ xs) h = inner-drop n xs h.1

pub inner-at : (ls : List Lexeme) (p q : ℕ) (d : Lexeme) → p < q → q ≤ length ls → AllInner (take q ls) → IsInner (get_or ls p d).kind
inner-at [] p q d l w h = absurd (omega arith)
inner-at (x ∷ xs) zero zero d l w h = absurd (omega arith)
inner-at (x ∷ xs) zero (suc q) d l w h = h.0
inner-at (x ∷ xs) (suc p) zero d l w h = absurd (omega arith)
inner-at (x ∷ xs) (suc p) (suc q) d l w h = inner-at xs p q d (omega arith) (omega arith) h.1

pub part-read : (ls : List Lexeme) (n : ℕ) (d : Lexeme) → n < length ls → part_at (kinds ls) n ≡ part_of (get_or ls n d).kind
part-read ls n d within = ap part_of (get_or-map (λ t. t.kind) ls n d kind.End within)

pub some-eq : {A : Type 0} {a b : A} → Some a ≡ Some b → a ≡ b
some-eq {A = A} {a = a} h = ap value h
  where
    value : Option A → A
    value None = a
    value (Some v) = v

-- a walk from an opening bracket that has a partner
pub walk-paired : {A : Type 0} (f : List Opener → List Lexeme → A) (none done : Lexeme → List Lexeme → A) → IsWalk f none done
    → (ls : List Lexeme) (a p stop : ℕ) (b : Bracket) (d : Lexeme) → is_same b Template ≡ false → part_at (kinds ls) a ≡ Opening b
    → p < stop → stop ≤ length ls → AllInner (take stop ls) → Pairs (kinds ls) a p
    → f (opener_of b ∷ []) (drop (suc a) ls) ≡ done (get_or ls p d) (drop (suc p) ls)
walk-paired f none done walk ls a p stop b d plain opens p_stop within inner pair =
    let same : b ≡ pair.bracket = some-eq (sym (ap opened_by opens) ∙ pair.opened) in
    let closing = ap closed_by (sym (part-read ls p d (omega arith))) ∙ pair.closed ∙ ap Some (sym same) in
    let xs = drop (suc a) (take p ls) in
    ap (f (opener_of b ∷ [])) (split-behind ls a p d pair.before (omega arith))
    ∙ walk-done f none done walk xs b (get_or ls p d) (drop (suc p) ls) plain
    (inner-drop (suc a) (take p ls) (inner-take ls p stop (omega arith) inner)) (inner-at ls p stop d p_stop within inner)
    (ap (all_open []) (kinds-between ls a p) ∙ pair.balanced) closing

-- what is open of a prefix of tokens that fit
pub take-shorter : (ks : List Kind) (n m : ℕ) → n ≤ m → take n (take m ks) ≡ take n ks
take-shorter [] zero m l = refl
take-shorter [] (suc n) zero l = absurd (omega arith)
take-shorter [] (suc n) (suc m) l = refl
take-shorter (k ∷ ks) zero m l = refl
take-shorter (k ∷ ks) (suc n) zero l = absurd (omega arith)
take-shorter (k ∷ ks) (suc n) (suc m) l = ap (λ r. k ∷ r) (take-shorter ks n m (omega arith))

prefix-fits : (ks : List Kind) (n m : ℕ) (s : List Bracket) → n ≤ m → all_open [] (take m ks) ≡ Some s → (t : List Bracket) × (all_open [] (take n ks) ≡ Some t)
prefix-fits ks n m s l h = found (all_open [] (take n ks)) refl
  where
    no_some : {A : Type 0} {a : A} → None ≡ Some a → ⊥
    no_some e = cc

    whole : option_and_then (λ o. all_open o (drop n (take m ks))) (all_open [] (take n ks)) ≡ Some s
    whole = ap (λ r. option_and_then (λ o. all_open o (drop n (take m ks))) (all_open [] r)) (sym (take-shorter ks n m l))
        ∙ sym (all_open-append [] (take n (take m ks)) (drop n (take m ks))) ∙ ap (all_open []) (take-append-drop n (take m ks)) ∙ h

    found : (o : Option (List Bracket)) → all_open [] (take n ks) ≡ o → (t : List Bracket) × (o ≡ Some t)
    found None e = absurd (no_some (sym (ap (option_and_then (λ o. all_open o (drop n (take m ks)))) e) ∙ whole))
    found (Some t) e = (t, refl)

-- One more token that fits either leaves the bracket below open, or closes it.
pub next-above : (p : BracketPart) (u : List Bracket) (b : Bracket) (base s : List Bracket) → next_open (u ++ (b ∷ base)) p ≡ Some s
    → ((v : List Bracket) × ((next_open u p ≡ Some v) × (s ≡ v ++ (b ∷ base)))) ⊎ ((u ≡ []) × (closed_by p ≡ Some b))
next-above (Opening c) u b base s h = inl (c ∷ u, (refl, sym (some-eq h)))
next-above Other u b base s h = inl (u, (refl, sym (some-eq h)))
next-above (Closing c) [] b base s h = inr (refl, ap Some (sym (same (is_same b c) refl h)))
  where
    same : (t : Bool) → is_same b c ≡ t → (if t then Some base else None) ≡ Some s → b ≡ c
    same true e g = is_same-eq b c e
    same false e g = absurd (cc)
next-above (Closing c) (x ∷ u) b base s h = inl (u, split (is_same x c) h)
  where
    split : (t : Bool) → (if t then Some (u ++ (b ∷ base)) else None) ≡ Some s → ((if t then Some u else None) ≡ Some u) × (s ≡ u ++ (b ∷ base))
    split true g = (refl, sym (some-eq g))
    split false g = absurd (cc)
next-above Middle [] b base s h = inr (refl, ap Some (sym (same (is_same b Template) refl h)))
  where
    same : (t : Bool) → is_same b Template ≡ t → (if t then Some (b ∷ base) else None) ≡ Some s → b ≡ Template
    same true e g = is_same-eq b Template e
    same false e g = absurd (cc)
next-above Middle (x ∷ u) b base s h = inl (x ∷ u, split (is_same x Template) h)
  where
    split : (t : Bool) → (if t then Some (x ∷ (u ++ (b ∷ base))) else None) ≡ Some s → ((if t then Some (x ∷ u) else None) ≡ Some (x ∷ u)) × (s ≡ (x ∷ u) ++ (b ∷ base))
    split true g = (refl, sym (some-eq g))
    split false g = absurd (cc)

-- after a bracket without a partner the tokens fit, up to the stop, and leave it open
fits-behind : (ks : List Kind) (a stop : ℕ) (b : Bracket) (base stack : List Bracket) → stop < length ks → part_at ks a ≡ Opening b
    → all_open [] (take a ks) ≡ Some base → all_open [] (take stop ks) ≡ Some stack → ((p : ℕ) → p < stop → Pairs ks a p → ⊥)
    → (j : ℕ) → suc a + j ≤ stop → (u : List Bracket) × ((all_open [] (between ks a (suc a + j)) ≡ Some u) × (all_open [] (take (suc a + j) ks) ≡ Some (u ++ (b ∷ base))))
fits-behind ks a stop b base stack within opens below fit alone zero l =
    let here : suc a + zero ≡ suc a = omega arith in (
      [],
      (
        ap (λ n. all_open [] (between ks a n)) here ∙ ap (all_open []) (between-none ks a),
        ap (λ n. all_open [] (take n ks)) here ∙ ap (all_open []) (take-suc ks a kind.End (omega arith)) ∙ all_open-more [] base (take a ks) (get_or ks a kind.End) below ∙ ap (next_open base) opens,
      ),
    )
fits-behind ks a stop b base stack within opens below fit alone (suc j) l =
    let n = suc a + j in
    let more : suc a + suc j ≡ suc (suc a + j) = omega arith in
    let (u, known) = fits-behind ks a stop b base stack within opens below fit alone j (omega arith) in
    let (s, later) = prefix-fits ks (suc (suc a + j)) stop stack (omega arith) fit in
    let step = sym (all_open-more [] (u ++ (b ∷ base)) (take (suc a + j) ks) (get_or ks (suc a + j) kind.End) known.1) ∙ sym (ap (all_open []) (take-suc ks (suc a + j) kind.End (omega arith))) ∙ later in
    elim (next-above (part_at ks (suc a + j)) u b base s step) [
      | inl v ↦ (
        v.0,
        (
          ap (λ m. all_open [] (between ks a m)) more ∙ ap (all_open []) (between-more ks a (suc a + j) (omega arith) (omega arith)) ∙ all_open-more [] u (between ks a (suc a + j)) (get_or ks (suc a + j) kind.End) known.0 ∙ v.1.0,
          ap (λ m. all_open [] (take m ks)) more ∙ later ∙ ap Some v.1.1,
        ),
      )
      | inr c ↦ absurd (alone (suc a + j) (omega arith) (record { before = omega arith; bracket = b; opened = ap opened_by opens; closed = c.1; balanced = known.0 ∙ ap Some c.0 }))
    ]

next-none : (k : Kind) (u : List Bracket) (b : Bracket) (base : List Bracket) → next_open (u ++ (b ∷ base)) (part_of k) ≡ None → next_open (u ++ (b ∷ [])) (part_of k) ≡ None
next-none k u b base h = found (next_open (u ++ (b ∷ [])) (part_of k)) refl
  where
    no_some : {A : Type 0} {a : A} → None ≡ Some a → ⊥
    no_some e = cc

    found : (o : Option (List Bracket)) → next_open (u ++ (b ∷ [])) (part_of k) ≡ o → o ≡ None
    found None e = refl
    found (Some o) e = absurd (no_some (sym h ∙ ap (λ s. next_open s (part_of k)) (sym (append_assoc u (b ∷ []) base)) ∙ next_open-under k (u ++ (b ∷ [])) o base e))

pub inner-or_not : (k : Kind) → IsInner k ⊎ (IsInner k → ⊥)
inner-or_not kind.Name = inl tt
inner-or_not kind.Number = inl tt
inner-or_not kind.Str = inl tt
inner-or_not kind.TemplateWhole = inl tt
inner-or_not kind.TemplateHead = inl tt
inner-or_not kind.TemplateMiddle = inl tt
inner-or_not kind.TemplateTail = inl tt
inner-or_not (kind.Word i) = inl tt
inner-or_not (kind.Mark i) = inl tt
inner-or_not kind.Bad = inr (λ h. h)
inner-or_not kind.End = inr (λ h. h)

pub open_behind-last : (k : Kind) (q : List Opener) → (IsInner k → ⊥) → open_behind k q ≡ None
open_behind-last kind.Name q h = absurd (h tt)
open_behind-last kind.Number q h = absurd (h tt)
open_behind-last kind.Str q h = absurd (h tt)
open_behind-last kind.TemplateWhole q h = absurd (h tt)
open_behind-last kind.TemplateHead q h = absurd (h tt)
open_behind-last kind.TemplateMiddle q h = absurd (h tt)
open_behind-last kind.TemplateTail q h = absurd (h tt)
open_behind-last (kind.Word i) q h = absurd (h tt)
open_behind-last (kind.Mark i) q h = absurd (h tt)
open_behind-last kind.Bad q h = refl
open_behind-last kind.End q h = refl

-- a walk from an opening bracket that has no partner before the stop
pub walk-unpaired : {A : Type 0} (f : List Opener → List Lexeme → A) (none done : Lexeme → List Lexeme → A) → IsWalk f none done
    → (ls : List Lexeme) (a stop : ℕ) (b : Bracket) (d : Lexeme) → is_same b Template ≡ false → part_at (kinds ls) a ≡ Opening b
    → a < stop → IsStop (kinds ls) stop → AllInner (take stop ls) → (suc stop ≡ length ls → IsInner (get_or ls stop d).kind → ⊥)
    → ((p : ℕ) → p < stop → Pairs (kinds ls) a p → ⊥)
    → f (opener_of b ∷ []) (drop (suc a) ls) ≡ none (get_or ls stop d) (drop (suc stop) ls)
walk-unpaired f none done walk ls a stop b d plain opens a_stop h inner ends alone =
    let size = length-map ls (λ t. t.kind) in
    let within : stop < length ls = (let w = h.within in omega arith) in
    let (base, below) = prefix-fits (kinds ls) a stop h.stack (omega arith) h.fit in
    let j = stop - suc a in
    let there : suc a + j ≡ stop = omega arith in
    let (u, known) = fits-behind (kinds ls) a stop b base h.stack h.within opens below h.fit alone j (omega arith) in
    let stack : h.stack ≡ u ++ (b ∷ base) = some-eq (sym h.fit ∙ ap (λ n. all_open [] (take n (kinds ls))) (sym there) ∙ known.1) in
    let inside = ap (all_open []) (kinds-between ls a stop) ∙ ap (λ n. all_open [] (between (kinds ls) a n)) (sym there) ∙ known.0 in
    let misfit : open_behind (get_or ls stop d).kind (openers (u ++ (b ∷ []))) ≡ None = elim (inner-or_not (get_or ls stop d).kind) [
      | inl i ↦ elim h.stops [
        | inl last ↦ absurd (ends (last ∙ size) i)
        | inr none ↦ open_behind-next (get_or ls stop d).kind (u ++ (b ∷ [])) i
            ∙ ap (λ q. option_map openers (next_open (u ++ (b ∷ [])) q)) (sym (part-read ls stop d within))
            ∙ ap (option_map openers) (next-none (get_or (kinds ls) stop kind.End) u b base (ap (λ s. next_open s (part_at (kinds ls) stop)) (sym stack) ∙ none))
      ]
      | inr last ↦ open_behind-last (get_or ls stop d).kind (openers (u ++ (b ∷ []))) last
    ] in
    ap (f (opener_of b ∷ [])) (split-behind ls a stop d a_stop within)
    ∙ walk-misfit f none done walk (drop (suc a) (take stop ls)) u b (get_or ls stop d) (drop (suc stop) ls) (inner-drop (suc a) (take stop ls) inner) inside misfit

pub pass_over-walks : IsWalk pass_over (λ t ts. Bad [] (t ∷ ts)) (λ t ts. Read t.end [] ts)
pass_over-walks ps t ts = cases (open_behind t.kind ps)
  where
    cases : (o : Option (List Opener)) → pass_case o t ts (λ qs. pass_over qs ts) ≡ walk_case o (Bad [] (t ∷ ts)) (Read t.end [] ts) (λ qs. pass_over qs ts)
    cases None = refl
    cases (Some []) = refl
    cases (Some (q ∷ qs)) = refl

pub arrow_behind-walks : IsWalk arrow_behind (λ t ts. false) (λ t ts. is_arrow (head_of ts))
arrow_behind-walks ps t ts = cases (open_behind t.kind ps)
  where
    cases : (o : Option (List Opener)) → closed_case o (is_arrow (head_of ts)) (λ qs. arrow_behind qs ts) ≡ walk_case o false (is_arrow (head_of ts)) (λ qs. arrow_behind qs ts)
    cases None = refl
    cases (Some []) = refl
    cases (Some (q ∷ qs)) = refl

-- a token that opens a bracket is no closing one of its pair
pairs-of : (ks : List Kind) (stop a p : ℕ) (b : Bracket) → part_at ks a ≡ Opening b → IsPartner ks stop a p → Pairs ks a p
pairs-of ks stop a p b opens h = elim h.pairs [ inl pair ↦ pair | inr back ↦ absurd (no_some (sym back.0 ∙ ap opened_by opens)) ]
  where
    no_some : {A : Type 0} {a : A} → None ≡ Some a → ⊥
    no_some e = cc

-- a token that no other is the partner of
alone-of : (ks : List Kind) (m : Matching) (a : ℕ) → IsMatching ks m → a < m.stop → partner_of m a ≡ None → (p : ℕ) → p < m.stop → Pairs ks a p → ⊥
alone-of ks m a h a_stop none p p_stop pair = no_some (sym none ∙ h.only a p (record { token = a_stop; partner = p_stop; pairs = inl pair }))
  where
    no_some : {A : Type 0} {a : A} → None ≡ Some a → ⊥
    no_some e = cc

-- A braced body is passed over up to its partner.
pub pass_over-partner : (ls : List Lexeme) (m : Matching) (a p : ℕ) (d : Lexeme) → IsMatching (kinds ls) m → AllInner (take m.stop ls) → part_at (kinds ls) a ≡ Opening Brace → partner_of m a ≡ Some p
    → pass_over (brace ∷ []) (drop (suc a) ls) ≡ Read (get_or ls p d).end [] (drop (suc p) ls)
pass_over-partner ls m a p d h inner opens partner =
    let found = h.partner a p partner in
    let within : m.stop ≤ length ls = (let w = h.stop.within in let size = length-map ls (λ t. t.kind) in omega arith) in
    walk-paired pass_over (λ t ts. Bad [] (t ∷ ts)) (λ t ts. Read t.end [] ts) pass_over-walks ls a p m.stop Brace d refl opens found.partner within inner (pairs-of (kinds ls) m.stop a p Brace opens found)

-- Where it has no partner, what is passed over ends at the stop.
pub pass_over-alone : (ls : List Lexeme) (m : Matching) (a : ℕ) (d : Lexeme) → IsMatching (kinds ls) m → AllInner (take m.stop ls) → (suc m.stop ≡ length ls → IsInner (get_or ls m.stop d).kind → ⊥) → part_at (kinds ls) a ≡ Opening Brace → a < m.stop → partner_of m a ≡ None
    → pass_over (brace ∷ []) (drop (suc a) ls) ≡ Bad [] (drop m.stop ls)
pass_over-alone ls m a d h inner ends opens a_stop none =
    let within : m.stop < length ls = (let w = h.stop.within in let size = length-map ls (λ t. t.kind) in omega arith) in
    walk-unpaired pass_over (λ t ts. Bad [] (t ∷ ts)) (λ t ts. Read t.end [] ts) pass_over-walks ls a m.stop Brace d refl opens a_stop h.stop inner ends (alone-of (kinds ls) m a h a_stop none)
    ∙ ap (Bad []) (sym (drop-cons ls m.stop d within))

-- An arrow begins at a parenthesis where the arrow's mark stands after its partner.
pub arrow_behind-partner : (ls : List Lexeme) (m : Matching) (a p : ℕ) → IsMatching (kinds ls) m → AllInner (take m.stop ls) → part_at (kinds ls) a ≡ Opening Paren → partner_of m a ≡ Some p
    → arrow_behind (paren ∷ []) (drop (suc a) ls) ≡ is_arrow (head_of (drop (suc p) ls))
arrow_behind-partner ls m a p h inner opens partner =
    let found = h.partner a p partner in
    let within : m.stop ≤ length ls = (let w = h.stop.within in let size = length-map ls (λ t. t.kind) in omega arith) in
    walk-paired arrow_behind (λ t ts. false) (λ t ts. is_arrow (head_of ts)) arrow_behind-walks ls a p m.stop Paren (head_of []) refl opens found.partner within inner (pairs-of (kinds ls) m.stop a p Paren opens found)

-- No arrow begins at a parenthesis without a partner.
pub arrow_behind-alone : (ls : List Lexeme) (m : Matching) (a : ℕ) → IsMatching (kinds ls) m → AllInner (take m.stop ls) → (suc m.stop ≡ length ls → IsInner (get_or ls m.stop (head_of [])).kind → ⊥) → part_at (kinds ls) a ≡ Opening Paren → a < m.stop → partner_of m a ≡ None
    → arrow_behind (paren ∷ []) (drop (suc a) ls) ≡ false
arrow_behind-alone ls m a h inner ends opens a_stop none =
    walk-unpaired arrow_behind (λ t ts. false) (λ t ts. is_arrow (head_of ts)) arrow_behind-walks ls a m.stop Paren (head_of []) refl opens a_stop h.stop inner ends (alone-of (kinds ls) m a h a_stop none)
