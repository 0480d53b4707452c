-- Where the body of a function directly in another one begins is found in the function's own text.
use Rattle.std.proofs.Common.{◌≡◌, ◌∙◌, ℕ, suc, ◌+◌, ◌≤◌, List, [], ◌∷◌, ◌++◌, map, length, Bool, false, refl, sym, ap, subst, append_assoc, arith}
use Rattle.std.proofs.lemmas.List.{map-append}
use Rattle.script_grammar.specs.declared.token.Kind.TheVariants as kind
use Rattle.script_grammar.specs.declared.token.mark.TheConstants as mark
use Rattle.script_grammar.specs.Lexeme.{Lexeme}
use Rattle.script_grammar.specs.Script.{IsScript}
use Rattle.script_grammar.specs.Tree.{Function, Stmts}
use Rattle.unit_text.specs.declared.Point.{Point}
use Rattle.unit_text.specs.Points.{points}
use Rattle.script_scanner.specs.Tokens.{Lexed, place, tokens, tokens_within}
use Rattle.script_scanner.specs.Lexemes.{lexeme_of, lexemes}
use Rattle.scan_laws.specs.Inside.{end_of, end_token}
use Rattle.scan_laws.proofs.Balanced.{pieces_close}
use Rattle.scan_laws.proofs.Places.{RiseTo}
use Rattle.scan_laws.proofs.ReadAlone.{read_alone}
use Rattle.scan_skip_laws.proofs.Readings.{Reads}
use Rattle.scan_skip_laws.proofs.Growing.{Grown, grown}
use Rattle.grammar_start_laws.specs.Own.{TokensRise}
use Rattle.grammar_start_laws.proofs.Rising.{lexemes_rise}
use Rattle.grammar_alone_laws.specs.Alone.{at_front, StandsAlone}
use Rattle.grammar_skip_laws.specs.Holes.{Braced, all_of, IsMark, IsHead, single, listed}
use Rattle.parse_skip_laws.specs.Read.{text_of}
use Rattle.grammar_skip_laws.proofs.OneHead.{SameHead, one_head}

-- ---- tokens that start at one place are one

rising_in : (from : ℕ) (q : List Lexeme) (t : Lexeme) (v : List Lexeme) → TokensRise from (q ++ t ∷ v) → from ≤ t.start
rising_in from [] t v h = h.0
rising_in from (x ∷ q) t v h = let up : suc x.start ≤ t.start = rising_in (suc x.start) q t v h.1 in let low = h.0 in omega (arith, up, low)

record SamePlace (p q : List Lexeme) (t s : Lexeme) (u v : List Lexeme) : Type 0 where
  first : t ≡ s
  behind : u ≡ v

same_place : (from : ℕ) (p q : List Lexeme) (t s : Lexeme) (u v : List Lexeme) → TokensRise from (p ++ t ∷ u) → p ++ t ∷ u ≡ q ++ s ∷ v → t.start ≡ s.start → SamePlace p q t s u v
same_place from [] [] t s u v h e k = record { first = cc; behind = cc }
same_place from [] (x ∷ q) t s u v h e k =
    let same : t ≡ x = cc in
    let others : u ≡ q ++ s ∷ v = cc in
    let up : suc t.start ≤ s.start = rising_in (suc t.start) q s v (subst (TokensRise (suc t.start)) others h.1) in
    absurd (omega (arith, up, k))
same_place from (x ∷ p) [] t s u v h e k =
    let same : x ≡ s = cc in
    let up : suc x.start ≤ t.start = rising_in (suc x.start) p t u h.1 in
    let here : x.start ≡ s.start = ap (λ (y : Lexeme). y.start) same in
    absurd (omega (arith, up, here, k))
same_place from (x ∷ p) (y ∷ q) t s u v h e k =
    let others : p ++ t ∷ u ≡ q ++ s ∷ v = cc in
    let r = same_place (suc x.start) p q t s u v h.1 others k in
    record { first = r.first; behind = r.behind }

-- ---- the last token is none of these

-- what stands in front of the last token
pub record InFront (us : List Lexeme) (o : Lexeme) (x w : List Lexeme) : Type 0 where
  pub rest : List Lexeme
  pub are : w ≡ us ++ o ∷ rest

in_front : (us : List Lexeme) (o : Lexeme) (x w : List Lexeme) (last : Lexeme) → (o ≡ last → ⊥) → us ++ o ∷ x ≡ w ++ last ∷ [] → InFront us o x w
in_front [] o x [] last other e = absurd (other cc)
in_front [] o x (t ∷ w) last other e = record { rest = w; are = ap (λ (y : Lexeme). y ∷ w) (let same : o ≡ t = cc in sym same) }
in_front (u ∷ us) o x [] last other e = let none : us ++ o ∷ x ≡ [] = cc in absurd (not_none us o x none)
  where
    not_none : (xs : List Lexeme) (y : Lexeme) (ys : List Lexeme) → xs ++ y ∷ ys ≡ [] → ⊥
    not_none [] y ys k = cc
    not_none (z ∷ xs) y ys k = cc
in_front (u ∷ us) o x (t ∷ w) last other e =
    let same : u ≡ t = cc in
    let r = in_front us o x w last other cc in
    record { rest = r.rest; are = ap (λ (y : Lexeme). y ∷ w) (sym same) ∙ ap (λ (ys : List Lexeme). u ∷ ys) r.are }

-- a head's first token may stand on a new line or not
front_head : (t : Lexeme) (more : List Lexeme) → IsHead (t ∷ more) → IsHead (at_front t ∷ more)
front_head t more h = by (t ∷ more) h refl
  where
    by : (all : List Lexeme) → IsHead all → all ≡ t ∷ more → IsHead (at_front t ∷ more)
    by all (single name joint k l) e =
        let first : name ≡ t = cc in
        let others : joint ∷ [] ≡ more = cc in
        subst (λ (ys : List Lexeme). IsHead (at_front t ∷ ys)) others (single (at_front t) joint (ap (λ (y : Lexeme). y.kind) (sym first) ∙ k) l)
    by all (listed opener params closer joint k b l j every are) e =
        let same : opener ∷ (params ++ closer ∷ joint) ≡ t ∷ more = sym are ∙ e in
        let first : opener ≡ t = cc in
        let others : params ++ closer ∷ joint ≡ more = cc in
        listed (at_front t) params closer joint (ap (λ (y : Lexeme). y.kind) (sym first) ∙ k) b l j (at_front t ∷ more) (ap (λ (ys : List Lexeme). at_front t ∷ ys) (sym others))

-- ---- the same function in the tokens of the one around it and in the script's

-- the tokens of the script from a function in another one on
record Inside (all : List Lexeme) (b : Braced) (rest : List Lexeme) : Type 0 where
  before : List Lexeme
  first : Lexeme
  behind : List Lexeme
  split : all ≡ before ++ first ∷ (rest ++ behind)
  same : at_front first ≡ at_front b.first

inside_at : (all before : List Lexeme) (first : Lexeme) (more behind : List Lexeme) (b : Braced) (front rest : List Lexeme) → all ≡ before ++ ((first ∷ more) ++ behind) → at_front first ∷ more ≡ front ++ (b.first ∷ rest) → Inside all b rest
inside_at all before first more behind b [] rest e k =
    let here : at_front first ≡ b.first = cc in
    let others : more ≡ rest = cc in
    record { before = before; first = first; behind = behind; split = e ∙ ap (λ (xs : List Lexeme). before ++ first ∷ (xs ++ behind)) others; same = ap at_front here }
inside_at all before first more behind b (x ∷ front) rest e k =
    let others : more ≡ front ++ (b.first ∷ rest) = cc in
    record {
      before = before ++ (first ∷ front);
      first = b.first;
      behind = behind;
      split = e ∙ ap (λ (xs : List Lexeme). before ++ ((first ∷ xs) ++ behind)) others ∙ ap (λ (xs : List Lexeme). before ++ (first ∷ xs)) (append_assoc front (b.first ∷ rest) behind) ∙ sym (append_assoc before (first ∷ front) (b.first ∷ (rest ++ behind)));
      same = refl;
    }

module _ (file : List ℕ) (w : List Lexeme) (end : Lexeme) (items : Stmts) (script : IsScript w end items) (are : lexemes file ≡ w ++ end ∷ []) (inner : Function) (t : StandsAlone w end items script inner)
    (from to : ℕ) (begins : from ≡ t.first.start) (ends : to ≡ end_of t.first t.rest)
    (window low : ℕ) (ps es : List Point) (us : List Lexed) (opener last : Lexed) (text : text_of file from to ≡ ps ++ es) (reaches : place to es ≡ window) (rises : RiseTo window low ps) (reads : Reads window [] false ps (us ++ opener ∷ last ∷ []))
    (opens : opener.kind ≡ kind.Mark mark.OPEN_BRACE) (at_end : opener.end ≡ window) where
  -- the function's tokens alone begin with these
  pub more : Grown to [] false (ps ++ es) us opener
  more = grown window low [] false ps us opener last rises reads opens at_end to es reaches

  alone : map lexeme_of us ++ lexeme_of opener ∷ map lexeme_of more.others ≡ (at_front t.first ∷ t.rest) ++ end_token to ∷ []
  alone =
      sym (map-append lexeme_of us (opener ∷ more.others)) ∙ ap (map lexeme_of) (sym more.reads) ∙ ap (λ (xs : List Point). map lexeme_of (tokens_within (suc (length xs)) to [] false xs)) (sym text)
      ∙ ap (λ n. map lexeme_of (tokens (points file) n to)) begins
      ∙ ap (λ n. map lexeme_of (tokens (points file) t.first.start n)) ends
      ∙ read_alone file t.before t.first t.rest t.next t.behind (are ∙ t.split ∙ sym (append_assoc t.before (t.first ∷ t.rest) (t.next ∷ t.behind))) (pieces_close (t.first ∷ t.rest) t.balanced)
      ∙ ap (λ n. (at_front t.first ∷ t.rest) ++ end_token n ∷ []) (sym ends)

  no_end : lexeme_of opener ≡ end_token to → ⊥
  no_end e = let same : kind.Mark mark.OPEN_BRACE ≡ kind.End = sym opens ∙ ap (λ (x : Lexeme). x.kind) e in cc

  -- so do the tokens without the one at the end
  pub inside_front : InFront (map lexeme_of us) (lexeme_of opener) (map lexeme_of more.others) (at_front t.first ∷ t.rest)
  inside_front = in_front (map lexeme_of us) (lexeme_of opener) (map lexeme_of more.others) (at_front t.first ∷ t.rest) (end_token to) no_end alone

  module _ (outer : Function) (s : StandsAlone w end items script outer) (b : Braced) (front rest : List Lexeme) (there : at_front s.first ∷ s.rest ≡ front ++ (all_of b ++ rest)) (starts : b.first.start ≡ t.first.start) (head : IsHead (map lexeme_of us)) where
    abbrev tail_of_braced : List Lexeme
    tail_of_braced = b.more ++ (b.opener ∷ (b.inside ++ b.closer ∷ []))

    around : Inside (lexemes file) b (tail_of_braced ++ rest)
    around = inside_at (lexemes file) s.before s.first s.rest (s.next ∷ s.behind) b front ((b.more ++ (b.opener ∷ (b.inside ++ b.closer ∷ []))) ++ rest) (are ∙ s.split) there

    one : SamePlace around.before t.before around.first t.first ((tail_of_braced ++ rest) ++ around.behind) (t.rest ++ t.next ∷ t.behind)
    one = same_place 0 around.before t.before around.first t.first ((tail_of_braced ++ rest) ++ around.behind) (t.rest ++ t.next ∷ t.behind) (subst (TokensRise 0) around.split (lexemes_rise file)) (sym around.split ∙ are ∙ t.split) (ap (λ (x : Lexeme). x.start) around.same ∙ starts)

    -- the body's opening brace is the one that was found
    pub hole_found : b.opener.end ≡ window
    hole_found =
        let heads : SameHead (map lexeme_of us) (at_front b.first ∷ b.more) (lexeme_of opener) b.opener =
        one_head (map lexeme_of us) (at_front b.first ∷ b.more) (lexeme_of opener) b.opener (inside_front.rest ++ t.next ∷ t.behind) ((b.inside ++ b.closer ∷ []) ++ (rest ++ around.behind)) head (front_head b.first b.more b.head) opens b.opens
        (sym (append_assoc (map lexeme_of us) (lexeme_of opener ∷ inside_front.rest) (t.next ∷ t.behind))
        ∙ ap (λ (xs : List Lexeme). xs ++ t.next ∷ t.behind) (sym inside_front.are)
        ∙ ap (λ (xs : List Lexeme). at_front t.first ∷ xs) (sym one.behind)
        ∙ ap (λ (x : Lexeme). at_front x ∷ (((b.more ++ (b.opener ∷ (b.inside ++ b.closer ∷ []))) ++ rest) ++ around.behind)) (sym one.first)
        ∙ ap (λ (x : Lexeme). x ∷ (((b.more ++ (b.opener ∷ (b.inside ++ b.closer ∷ []))) ++ rest) ++ around.behind)) around.same
        ∙ ap (λ (xs : List Lexeme). at_front b.first ∷ xs) (append_assoc (b.more ++ (b.opener ∷ (b.inside ++ b.closer ∷ []))) rest around.behind ∙ append_assoc b.more (b.opener ∷ (b.inside ++ b.closer ∷ [])) (rest ++ around.behind))) in
        ap (λ (x : Lexeme). x.end) (sym heads.opener) ∙ at_end
