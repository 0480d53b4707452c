-- Holes that are found of some functions directly in one are those of that function.
use Rattle.std.specs.Prelude.{Contains}
use Rattle.std.proofs.Common.{◌≡◌, ◌∙◌, ℕ, zero, suc, ◌+◌, ◌<◌, ◌≤◌, List, [], ◌∷◌, ◌++◌, length, map, take, slice_index_or, Bool, true, false, cond, ◌&&◌, ◌||◌, nat_eq, refl, sym, ap, subst, arith, append_assoc, None}
use Rattle.std.proofs.lemmas.Bool.{eq-eqb, ne_eqb}
use Rattle.script_grammar.specs.declared.token.FuncForm.{FuncForm}
use Rattle.script_grammar.specs.declared.token.Kind.TheVariants as kind
use Rattle.script_grammar.specs.declared.token.mark.TheConstants as mark
use Rattle.script_grammar.specs.Lexeme.{Lexeme}
use Rattle.script_grammar.specs.Tree.{Function, function, Stmts}
use Rattle.stencil_data.specs.declared.functions.Extent.{Extent}
use Rattle.unit_text.specs.Points.{points}
use Rattle.script_scanner.specs.Lexemes.{lexeme_of}
use Rattle.script_scanner.specs.Tokens.{Lexed, tokens, tokens_within}
use Rattle.grammar_start_laws.specs.Own.{AllOf, TokensRise}
use Rattle.grammar_start_laws.proofs.Rising.{lexemes_rise}
use Rattle.scan_laws.specs.Inside.{end_token}
use Rattle.scan_laws.proofs.Balanced.{pieces_close}
use Rattle.scan_laws.proofs.ReadAlone.{read_alone}
use Rattle.scan_skip_laws.specs.Spans.{Span}
use Rattle.scope_analysis.specs.Functions.{Inner, function_form, inner_function}
use Rattle.grammar_alone_laws.specs.Alone.{start_of, nameless, at_front, StandsAlone}
use Rattle.grammar_alone_laws.specs.Alone as alone
use Rattle.grammar_alone_laws.specs.Functions.{IsFunctionIn, inside}
use Rattle.grammar_skip_laws.specs.Holes.{Braced, Place, place_of, place_in, hole_of, all_of, left_of, LeavesOut, nothing, keeps, skips, has_braces, is_hollow, hollow_places}
use Rattle.grammar_skip_laws.specs.Holes as laws
use Rattle.parse_skip_laws.specs.Read.{ReadSkipped, text_of}
use Rattle.parse_skip_laws.specs.SkippedText.{span_of}
use Rattle.parse_skip_laws.proofs.FunctionSkipped.{function_skipped}
use Rattle.parse_skip_laws.proofs.HoleFound.{inside_front, hole_found}
use Rattle.parse_function.specs.declared.holes.Hole.{Hole}
use Rattle.parse_function.specs.Extents.{IsExtentOf, extents_in, body_in}
use Rattle.parse_function.specs.Holes.{span_at, AreHolesOf, IsFunctionAt, IsHole, AreFound, found, passed}
use Rattle.parse_function.specs.Holes as holes
use Rattle.parse_function.proofs.ClosingBraces.{IsByte, within_bytes}
use Rattle.parse_function.proofs.HoleTexts.{stands, begins, ends, whole_reach, text_behind, text_splits, behind_reaches, front_rises}
use Rattle.parse_function.proofs.ShortBodies.{braced_there}

-- ---- tokens without those in some bodies

record IsHoleIn (all : List Lexeme) (h : laws.Hole) : Type 0 where
  b : Braced
  front : List Lexeme
  rest : List Lexeme
  there : all ≡ front ++ (all_of b ++ rest)
  is : hole_of b ≡ h

all_holes : (whole before : List Lexeme) (hs : List laws.Hole) (all left : List Lexeme) → whole ≡ before ++ all → LeavesOut hs all left → AllOf (IsHoleIn whole) hs
all_holes whole before hs all left e nothing = tt
all_holes whole before hs all left e (keeps t hs' ts us l) = all_holes whole (before ++ t ∷ []) hs' ts us (e ∙ sym (append_assoc before (t ∷ []) ts)) l
all_holes whole before hs all left e (skips b hs' ts us all' left' f g l) =
    let here = e ∙ ap (λ (xs : List Lexeme). before ++ xs) f in
    (record { b = b; front = before; rest = ts; there = here; is = refl }, all_holes whole (before ++ all_of b) hs' ts us (here ∙ sym (append_assoc before (all_of b) ts)) l)

-- they start one after the other

abbrev PlacesRise : ℕ → List Place → Type 0
PlacesRise from [] = Unit {0}
PlacesRise from (p ∷ ps) = (from ≤ p.start) × PlacesRise (suc p.start) ps

lower : (b c : ℕ) (ts : List Lexeme) → b ≤ c → TokensRise c ts → TokensRise b ts
lower b c [] le h = tt
lower b c (t ∷ ts) le h = (omega (arith, le, h.0), h.1)

rise_behind : (b : ℕ) (us vs : List Lexeme) → TokensRise b (us ++ vs) → TokensRise b vs
rise_behind b [] vs h = h
rise_behind b (u ∷ us) vs h = lower b (suc u.start) vs (omega (arith, h.0)) (rise_behind (suc u.start) us vs h.1)

places_lower : (b c : ℕ) (ps : List Place) → b ≤ c → PlacesRise c ps → PlacesRise b ps
places_lower b c [] le h = tt
places_lower b c (p ∷ ps) le h = (omega (arith, le, h.0), h.1)

holes_rise : (from : ℕ) (hs : List laws.Hole) (all left : List Lexeme) → TokensRise from all → LeavesOut hs all left → PlacesRise from (map place_of hs)
holes_rise from hs all left r nothing = tt
holes_rise from hs all left r (keeps t hs' ts us l) = places_lower from (suc t.start) (map place_of hs') (omega (arith, r.0)) (holes_rise (suc t.start) hs' ts us r.1 l)
holes_rise from hs all left r (skips b hs' ts us all' left' f g l) =
    let s = subst (TokensRise from) f r in
    (s.0, holes_rise (suc b.first.start) hs' ts us (rise_behind (suc b.first.start) (b.more ++ (b.opener ∷ (b.inside ++ b.closer ∷ []))) ts s.1) l)

-- ---- the functions whose starts are chosen

abbrev has : List ℕ → ℕ → Bool
has [] n = false
has (m ∷ ms) n = nat_eq m n || has ms n

has_here : (ms : List ℕ) (n : ℕ) (ns : List ℕ) → has (ms ++ n ∷ ns) n ≡ true
has_here [] n ns = ap (λ b. b || has ns n) (eq-eqb n n refl)
has_here (m ∷ ms) n ns = by (nat_eq m n) (has_here ms n ns)
  where
    by : (b : Bool) → has (ms ++ n ∷ ns) n ≡ true → (b || has (ms ++ n ∷ ns) n) ≡ true
    by true h = refl
    by false h = h

has_not : (ms ns : List ℕ) (n : ℕ) → AllOf (λ m. m < n) ms → AllOf (λ m. n < m) ns → has (ms ++ ns) n ≡ false
has_not [] [] n h k = refl
has_not [] (m ∷ ns) n h k = ap (λ b. b || has ns n) (ne_eqb m n (λ e. omega (arith, e, k.0))) ∙ has_not [] ns n h k.1
has_not (m ∷ ms) ns n h k = ap (λ b. b || has (ms ++ ns) n) (ne_eqb m n (λ e. omega (arith, e, h.0))) ∙ has_not ms ns n h.1 k

hollow_is : (c : ℕ → Bool) (f : Function) → is_hollow c f ≡ (c (start_of f) && has_braces (body_in f))
hollow_is c (function form start end name ps comma bare body) = refl

abbrev extent_of : Inner → Extent
extent_of j = record { start = start_of j.func; end = alone.end_of j.func }

abbrev every : ℕ → Bool
every n = true

-- a function with braces, and one without
hollow_yes : (c : ℕ → Bool) (j : Inner) (js : List Inner) → c (start_of j.func) ≡ true → has_braces (body_in j.func) ≡ true → hollow_places c (j ∷ js) ≡ place_in j.func ∷ hollow_places c js
hollow_yes c j js e k = ap (λ b. cond b (place_in j.func ∷ hollow_places c js) (hollow_places c js)) (hollow_is c j.func ∙ ap (λ b. b && has_braces (body_in j.func)) e ∙ k)

hollow_no : (c : ℕ → Bool) (j : Inner) (js : List Inner) → (c (start_of j.func) && has_braces (body_in j.func)) ≡ false → hollow_places c (j ∷ js) ≡ hollow_places c js
hollow_no c j js e = ap (λ b. cond b (place_in j.func ∷ hollow_places c js) (hollow_places c js)) (hollow_is c j.func ∙ e)

neither : (b c : Bool) → c ≡ false → (b && c) ≡ false
neither true c e = e
neither false c e = refl

raised : (ms : List ℕ) (a b : ℕ) → a ≤ b → AllOf (λ m. m < a) ms → AllOf (λ m. m < b) ms
raised [] a b le h = tt
raised (m ∷ ms) a b le h = (omega (arith, le, h.0), raised ms a b le h.1)

one_more : (ms : List ℕ) (n b : ℕ) → n < b → AllOf (λ m. m < b) ms → AllOf (λ m. m < b) (ms ++ n ∷ [])
one_more [] n b lt h = (lt, tt)
one_more (m ∷ ms) n b lt h = (h.0, one_more ms n b lt h.1)

module _ (file : List ℕ) where
  starts_of : (es : List Extent) (hs : List Hole) → AreFound file es hs → List ℕ
  starts_of es hs holes.nothing = []
  starts_of es hs (found e h es' hs' p r) = e.start ∷ starts_of es' hs' r
  starts_of es hs (passed e es' hs' r) = starts_of es' hs' r

  places_of : (es : List Extent) (hs : List Hole) → AreFound file es hs → List Place
  places_of es hs holes.nothing = []
  places_of es hs (found e h es' hs' p r) = record { start = e.start; end = e.end } ∷ places_of es' hs' r
  places_of es hs (passed e es' hs' r) = places_of es' hs' r

  -- what is found is a hole of a function with braces
  module _ (Is : Inner → Type 0) (braced : (j : Inner) (h : Hole) → Is j → IsHole file (extent_of j) h → has_braces (body_in j.func) ≡ true) where
    above : (from : ℕ) (js : List Inner) (es : List Extent) (hs : List Hole) (r : AreFound file es hs) → map extent_of js ≡ es → AllOf Is js → PlacesRise from (hollow_places every js) → AllOf (λ n. from ≤ n) (starts_of es hs r)
    unfolding starts_of
    above from js es hs holes.nothing e a p = tt
    above from [] es hs (found x h es' hs' q r) e a p = absurd (cc)
    above from [] es hs (passed x es' hs' r) e a p = absurd (cc)
    above from (j ∷ js) es hs (found x h es' hs' q r) e a p =
        let same : extent_of j ≡ x = cc in
        let others : map extent_of js ≡ es' = cc in
        let k = braced j h a.0 (subst (λ (y : Extent). IsHole file y h) (sym same) q) in
        let s = subst (PlacesRise from) (hollow_yes every j js refl k) p in
        let here : start_of j.func ≡ x.start = ap (λ (y : Extent). y.start) same in
        (omega (arith, here, s.0), above from js es' hs' r others a.1 (places_lower from (suc (start_of j.func)) (hollow_places every js) (omega (arith, s.0)) s.1))
    above from (j ∷ js) es hs (passed x es' hs' r) e a p = let others : map extent_of js ≡ es' = cc in above from js es' hs' r others a.1 (by (has_braces (body_in j.func)) refl)
      where
        by : (b : Bool) → has_braces (body_in j.func) ≡ b → PlacesRise from (hollow_places every js)
        by true k = let s = subst (PlacesRise from) (hollow_yes every j js refl k) p in places_lower from (suc (start_of j.func)) (hollow_places every js) (omega (arith, s.0)) s.1
        by false k = subst (PlacesRise from) (hollow_no every j js k) p

    strictly : (n : ℕ) (ms : List ℕ) → AllOf (λ m. suc n ≤ m) ms → AllOf (λ m. n < m) ms
    strictly n [] h = tt
    strictly n (m ∷ ms) h = (omega (arith, h.0), strictly n ms h.1)

    places_are : (from : ℕ) (before : List ℕ) (js : List Inner) (es : List Extent) (hs : List Hole) (r : AreFound file es hs) → map extent_of js ≡ es → AllOf Is js → PlacesRise from (hollow_places every js) → AllOf (λ m. m < from) before
        → hollow_places (has (before ++ starts_of es hs r)) js ≡ places_of es hs r
    unfolding starts_of places_of
    places_are from before [] es hs holes.nothing e a p b = refl
    places_are from before (j ∷ js) es hs holes.nothing e a p b = absurd (cc)
    places_are from before [] es hs (found x h es' hs' q r) e a p b = absurd (cc)
    places_are from before [] es hs (passed x es' hs' r) e a p b = absurd (cc)
    places_are from before (j ∷ js) es hs (found x h es' hs' q r) e a p b =
        let same : extent_of j ≡ x = cc in
        let others : map extent_of js ≡ es' = cc in
        let here : start_of j.func ≡ x.start = ap (λ (y : Extent). y.start) same in
        let there : place_in j.func ≡ record { start = x.start; end = x.end } = ap (λ (y : Extent). record { start = y.start; end = y.end }) same in
        let k = braced j h a.0 (subst (λ (y : Extent). IsHole file y h) (sym same) q) in
        let s = subst (PlacesRise from) (hollow_yes every j js refl k) p in
        let all : before ++ x.start ∷ starts_of es' hs' r ≡ (before ++ x.start ∷ []) ++ starts_of es' hs' r = sym (append_assoc before (x.start ∷ []) (starts_of es' hs' r)) in
        hollow_yes (has (before ++ x.start ∷ starts_of es' hs' r)) j js (ap (has (before ++ x.start ∷ starts_of es' hs' r)) here ∙ has_here before x.start (starts_of es' hs' r)) k
        ∙ ap (λ (z : Place). z ∷ hollow_places (has (before ++ x.start ∷ starts_of es' hs' r)) js) there
        ∙ ap (λ (zs : List Place). record { start = x.start; end = x.end } ∷ zs) (ap (λ (zs : List ℕ). hollow_places (has zs) js) all
        ∙ places_are (suc (start_of j.func)) (before ++ x.start ∷ []) js es' hs' r others a.1 s.1 (one_more before x.start (suc (start_of j.func)) (omega (arith, here)) (raised before from (suc (start_of j.func)) (omega (arith, s.0)) b)))
    places_are from before (j ∷ js) es hs (passed x es' hs' r) e a p b =
        let others : map extent_of js ≡ es' = cc in by (has_braces (body_in j.func)) refl others (λ from' q c. places_are from' before js es' hs' r others a.1 q c)
      where
        by : (c : Bool) → has_braces (body_in j.func) ≡ c → map extent_of js ≡ es' → ((from' : ℕ) → PlacesRise from' (hollow_places every js) → AllOf (λ m. m < from') before → hollow_places (has (before ++ starts_of es' hs' r)) js ≡ places_of es' hs' r)
            → hollow_places (has (before ++ starts_of es' hs' r)) (j ∷ js) ≡ places_of es' hs' r
        by true k others each =
            let s = subst (PlacesRise from) (hollow_yes every j js refl k) p in
            let n = start_of j.func in
            let no : has (before ++ starts_of es' hs' r) n ≡ false = has_not before (starts_of es' hs' r) n (raised before from n (omega (arith, s.0)) b) (strictly n (starts_of es' hs' r) (above (suc n) js es' hs' r others a.1 s.1)) in
            hollow_no (has (before ++ starts_of es' hs' r)) j js (ap (λ z. z && has_braces (body_in j.func)) no)
            ∙ each (suc n) s.1 (raised before from (suc n) (omega (arith, s.0)) b)
        by false k others each =
            hollow_no (has (before ++ starts_of es' hs' r)) j js (neither (has (before ++ starts_of es' hs' r) (start_of j.func)) (has_braces (body_in j.func)) k)
            ∙ each from (subst (PlacesRise from) (hollow_no every j js k) p) b

-- ---- a function and those directly in it

-- tokens without a last one
front_same : (xs ys : List Lexeme) (a b : Lexeme) → xs ++ a ∷ [] ≡ ys ++ b ∷ [] → xs ≡ ys
front_same [] [] a b e = refl
front_same [] (y ∷ ys) a b e = let none : [] ≡ ys ++ b ∷ [] = cc in absurd (not_none ys b none)
  where
    not_none : (zs : List Lexeme) (z : Lexeme) → ◌≡◌ {A = List Lexeme} [] (zs ++ z ∷ []) → ⊥
    not_none [] z g = cc
    not_none (x ∷ zs) z g = cc
front_same (x ∷ xs) [] a b e = let none : xs ++ a ∷ [] ≡ [] = cc in absurd (not_none xs a none)
  where
    not_none : (zs : List Lexeme) (z : Lexeme) → ◌≡◌ {A = List Lexeme} (zs ++ z ∷ []) [] → ⊥
    not_none [] z g = cc
    not_none (y ∷ zs) z g = cc
front_same (x ∷ xs) (y ∷ ys) a b e =
    let same : x ≡ y = cc in
    let others : xs ++ a ∷ [] ≡ ys ++ b ∷ [] = cc in
    ap (λ z. z ∷ xs) same ∙ ap (λ (zs : List Lexeme). y ∷ zs) (front_same xs ys a b others)

abbrev IsByteLexeme : Lexeme → Type 0
IsByteLexeme t = t.kind ≡ kind.Mark mark.CLOSE_BRACE → t.end ≡ t.start + 1

bytes_map : (ts : List Lexed) → AllOf IsByte ts → AllOf IsByteLexeme (map lexeme_of ts)
bytes_map [] h = tt
bytes_map (t ∷ ts) h = (h.0, bytes_map ts h.1)

byte_in : (front : List Lexeme) (t : Lexeme) (behind : List Lexeme) → AllOf IsByteLexeme (front ++ t ∷ behind) → IsByteLexeme t
byte_in [] t behind h = h.0
byte_in (x ∷ front) t behind h = byte_in front t behind h.1

module _ (file : List ℕ) (extent : Extent) (f : FuncForm) (items : Stmts) (i : Inner) (x : IsExtentOf file extent f items i) where
  abbrev s : StandsAlone x.text.inner x.text.end items x.text.script i.func
  s = stands file extent f items i x

  abbrev js : List Inner
  js = inner_function i.kind i.name i.func

  -- a function directly in it
  abbrev IsIn : Inner → Type 0
  IsIn j = IsFunctionIn items j

  abbrev at : (j : Inner) → IsIn j → IsExtentOf file (extent_of j) (function_form j.func) items j
  at j k = record { utf8 = x.utf8; text = x.text; inside = k; form_is = refl; starts = refl; ends = refl }

  module _ (j : Inner) (k : IsIn j) (h : Hole) (p : IsHole file (extent_of j) h) where
    abbrev y : IsExtentOf file (extent_of j) (function_form j.func) items j
    y = at j k

    abbrev t : StandsAlone x.text.inner x.text.end items x.text.script j.func
    t = stands file (extent_of j) (function_form j.func) items j y

    front_there : (r : List Lexeme) × (at_front t.first ∷ t.rest ≡ map lexeme_of p.front ++ lexeme_of p.opener ∷ r)
    front_there =
        let r = inside_front file x.text.inner x.text.end items x.text.script x.text.split j.func t (start_of j.func) (alone.end_of j.func)
        (begins file (extent_of j) (function_form j.func) items j y) (ends file (extent_of j) (function_form j.func) items j y)
        h.from 0 (text_of file (start_of j.func) h.from) (text_behind file (extent_of j) (function_form j.func) items j y h.from p.behind p.within p.utf8) p.front p.opener p.last
        (text_splits file (extent_of j) (function_form j.func) items j y h.from p.behind p.within p.utf8 p.above)
        (behind_reaches file (extent_of j) (function_form j.func) items j y h.from p.behind p.within p.utf8)
        (front_rises file (extent_of j) (function_form j.func) items j y h.from p.behind p.within p.utf8 p.above) p.are p.opens p.ends in
        (r.rest, r.are)

    has_a_braced : has_braces (body_in j.func) ≡ true
    has_a_braced =
        let r = front_there in
        same_body j.func ∙ braced_there None 0 (at_front t.first ∷ t.rest) (end_token 0) (map lexeme_of p.front) (lexeme_of p.opener) r.0 r.1 p.head p.opens (function_form j.func) (nameless j.func) (t.in_front (end_token 0) refl).is
      where
        same_body : (g : Function) → has_braces (body_in g) ≡ has_braces (body_in (nameless g))
        same_body (function form start end name ps comma bare body) = refl

    -- its body's braces
    opener_is : (b : Braced) (front rest : List Lexeme) → at_front s.first ∷ s.rest ≡ front ++ (all_of b ++ rest) → b.first.start ≡ start_of j.func → b.opener.end ≡ h.from
    opener_is b front rest there starts =
        hole_found file x.text.inner x.text.end items x.text.script x.text.split j.func t (start_of j.func) (alone.end_of j.func)
        (begins file (extent_of j) (function_form j.func) items j y) (ends file (extent_of j) (function_form j.func) items j y)
        h.from 0 (text_of file (start_of j.func) h.from) (text_behind file (extent_of j) (function_form j.func) items j y h.from p.behind p.within p.utf8) p.front p.opener p.last
        (text_splits file (extent_of j) (function_form j.func) items j y h.from p.behind p.within p.utf8 p.above)
        (behind_reaches file (extent_of j) (function_form j.func) items j y h.from p.behind p.within p.utf8)
        (front_rises file (extent_of j) (function_form j.func) items j y h.from p.behind p.within p.utf8 p.above) p.are p.opens p.ends
        i.func s b front rest there (starts ∙ begins file (extent_of j) (function_form j.func) items j y) p.head

  -- all of them are functions of the script
  all_in : (ks : List Inner) → ((j : Inner) → Contains ks j → IsIn j) → AllOf IsIn ks
  all_in [] h = tt
  all_in (j ∷ ks) h = (h j (0, omega arith, refl), all_in ks (λ m c. h m (suc c.0, let lt = c.1 in omega (arith, lt), c.2)))

  pub inside_all : AllOf IsIn js
  inside_all = all_in js (λ j c. inside i j x.inside c)

  -- its tokens
  alone_are : map lexeme_of (tokens (points file) extent.start extent.end) ≡ (at_front s.first ∷ s.rest) ++ end_token extent.end ∷ []
  alone_are =
      ap (λ n. map lexeme_of (tokens (points file) n extent.end)) (begins file extent f items i x)
      ∙ ap (λ n. map lexeme_of (tokens (points file) s.first.start n)) (ends file extent f items i x)
      ∙ read_alone file s.before s.first s.rest s.next s.behind (x.text.split ∙ s.split ∙ sym (append_assoc s.before (s.first ∷ s.rest) (s.next ∷ s.behind))) (pieces_close (s.first ∷ s.rest) s.balanced)
      ∙ ap (λ n. (at_front s.first ∷ s.rest) ++ end_token n ∷ []) (sym (ends file extent f items i x))

  all_rise : TokensRise 0 (at_front s.first ∷ s.rest)
  all_rise = front_rises_too (at_front s.first ∷ s.rest) (s.next ∷ s.behind) (rise_behind 0 s.before ((s.first ∷ s.rest) ++ s.next ∷ s.behind) (subst (TokensRise 0) (x.text.split ∙ s.split) (lexemes_rise file)))
    where
      rise_front : (from : ℕ) (us vs : List Lexeme) → TokensRise from (us ++ vs) → TokensRise from us
      rise_front from [] vs h = tt
      rise_front from (u ∷ us) vs h = (h.0, rise_front (suc u.start) us vs h.1)

      front_rises_too : (us vs : List Lexeme) → TokensRise 0 (us ++ vs) → TokensRise 0 us
      front_rises_too us vs h = rise_front 0 us vs h

  module _ (chosen : ℕ → Bool) (r : ReadSkipped chosen i extent.end (text_of file extent.start extent.end)) where
    all_are : r.all ≡ at_front s.first ∷ s.rest
    all_are = front_same r.all (at_front s.first ∷ s.rest) r.last (end_token extent.end) (sym r.alone ∙ alone_are)

    all_bytes : AllOf IsByteLexeme (r.all ++ r.last ∷ [])
    all_bytes = subst (AllOf IsByteLexeme) r.alone (bytes_map (tokens_within (suc (length (text_of file extent.start extent.end))) extent.end [] false (text_of file extent.start extent.end))
        (within_bytes extent.end (suc (length (text_of file extent.start extent.end))) [] false (text_of file extent.start extent.end) (whole_reach file extent f items i x)))

    places_rise : PlacesRise 0 (map place_of r.holes)
    places_rise = holes_rise 0 r.holes r.all r.left (subst (TokensRise 0) (sym all_are) all_rise) r.leaves

    closer_is : (b : Braced) (front rest : List Lexeme) → r.all ≡ front ++ (all_of b ++ rest) → b.closer.end ≡ b.closer.start + 1
    closer_is b front rest e = byte_in (front ++ ((b.first ∷ b.more) ++ (b.opener ∷ b.inside))) b.closer (rest ++ r.last ∷ []) (subst (AllOf IsByteLexeme) (ap (λ (xs : List Lexeme). xs ++ r.last ∷ []) e ∙ apart) all_bytes) b.closes
      where
        apart : (front ++ (all_of b ++ rest)) ++ r.last ∷ [] ≡ (front ++ ((b.first ∷ b.more) ++ (b.opener ∷ b.inside))) ++ b.closer ∷ (rest ++ r.last ∷ [])
        apart =
            let head = b.first ∷ b.more in
            let behind = rest ++ r.last ∷ [] in
            append_assoc front (all_of b ++ rest) (r.last ∷ [])
            ∙ ap (λ (xs : List Lexeme). front ++ xs) (append_assoc (all_of b) rest (r.last ∷ [])
            ∙ append_assoc head (b.opener ∷ (b.inside ++ b.closer ∷ [])) behind
            ∙ ap (λ (xs : List Lexeme). head ++ (b.opener ∷ xs)) (append_assoc b.inside (b.closer ∷ []) behind)
            ∙ sym (append_assoc head (b.opener ∷ b.inside) (b.closer ∷ behind)))
            ∙ sym (append_assoc front (head ++ (b.opener ∷ b.inside)) (b.closer ∷ behind))

    span_is : (j : Inner) → IsIn j → (h : Hole) → IsHole file (extent_of j) h → (q : laws.Hole) → IsHoleIn r.all q → place_of q ≡ record { start = start_of j.func; end = alone.end_of j.func } → span_of q ≡ span_at h
    span_is j k h p q w e =
        let starts : w.b.first.start ≡ start_of j.func = ap (λ (z : laws.Hole). z.start) w.is ∙ ap (λ (z : Place). z.start) e in
        let stops : w.b.closer.end ≡ alone.end_of j.func = ap (λ (z : laws.Hole). z.end) w.is ∙ ap (λ (z : Place). z.end) e in
        let from : w.b.opener.end ≡ h.from = opener_is j k h p w.b w.front w.rest (sym all_are ∙ w.there) starts in
        let byte = closer_is w.b w.front w.rest w.there in
        let last = p.closes in
        let to : w.b.closer.start ≡ h.to = omega (arith, stops, byte, last) in
        ap span_of (sym w.is) ∙ ap (λ n. record { from = n; to = w.b.closer.start }) from ∙ ap (λ n. record { from = h.from; to = n }) to

    spans_are : (ks : List Inner) (es : List Extent) (hs : List Hole) (found_all : AreFound file es hs) (qs : List laws.Hole) → map extent_of ks ≡ es → AllOf IsIn ks → map place_of qs ≡ places_of file es hs found_all → AllOf (IsHoleIn r.all) qs → map span_of qs ≡ map span_at hs
    unfolding places_of
    spans_are ks es hs holes.nothing [] e a m w = refl
    spans_are ks es hs holes.nothing (q ∷ qs) e a m w = absurd (cc)
    spans_are [] es hs (found y h es' hs' p r') qs e a m w = absurd (cc)
    spans_are [] es hs (passed y es' hs' r') qs e a m w = absurd (cc)
    spans_are (j ∷ ks) es hs (found y h es' hs' p r') [] e a m w = absurd (cc)
    spans_are (j ∷ ks) es hs (found y h es' hs' p r') (q ∷ qs) e a m w =
        let same : extent_of j ≡ y = cc in
        let others : map extent_of ks ≡ es' = cc in
        let first : place_of q ≡ record { start = y.start; end = y.end } = cc in
        let behind : map place_of qs ≡ places_of file es' hs' r' = cc in
        ap (λ (z : Span). z ∷ map span_of qs) (span_is j a.0 h (subst (λ (z : Extent). IsHole file z h) (sym same) p) q w.0 (first ∙ ap (λ (z : Extent). record { start = z.start; end = z.end }) (sym same)))
        ∙ ap (λ (zs : List Span). span_at h ∷ zs) (spans_are ks es' hs' r' qs others a.1 behind w.1)
    spans_are (j ∷ ks) es hs (passed y es' hs' r') qs e a m w = let others : map extent_of ks ≡ es' = cc in spans_are ks es' hs' r' qs others a.1 m w

  rises : PlacesRise 0 (hollow_places every js)
  rises =
      let r : ReadSkipped every i extent.end (text_of file extent.start extent.end) = function_skipped file x.text.inner x.text.end items x.text.script x.text.split x.text.shallow i x.inside extent.start extent.end s (begins file extent f items i x) (ends file extent f items i x) every in
      subst (PlacesRise 0) r.places (places_rise every r)

  -- what is found of the functions directly in it
  pub are_holes : (es : List Extent) (hs : List Hole) → es ≡ extents_in i → AreFound file es hs → AreHolesOf file extent i hs
  are_holes es hs e all =
      let chosen = has (starts_of file es hs all) in
      record {
        chosen = chosen;
        are = λ r. spans_are chosen r js es hs all r.holes (sym e) inside_all
            (r.places ∙ places_are file IsIn (λ j h k p. has_a_braced j k h p) 0 [] js es hs all (sym e) inside_all rises tt)
            (all_holes r.all [] r.holes r.all r.left refl r.leaves);
      }

  -- each of them is one of the script
  function_in : (ks : List Inner) → AllOf IsIn ks → (k : ℕ) (d : Extent) → k < length (map extent_of ks) → IsFunctionAt file (slice_index_or (map extent_of ks) k d)
  function_in [] a k d lt = absurd (omega (arith, lt))
  function_in (j ∷ ks) a zero d lt = record { items = items; inner = j; is = at j a.0 }
  function_in (j ∷ ks) a (suc k) d lt = function_in ks a.1 k d (omega (arith, lt))

  pub function_at : (es : List Extent) → es ≡ extents_in i → (k : ℕ) (d : Extent) → k < length es → IsFunctionAt file (slice_index_or es k d)
  function_at es e k d lt = subst (λ (xs : List Extent). IsFunctionAt file (slice_index_or xs k d)) (sym e) (function_in js inside_all k d (subst (λ (xs : List Extent). k < length xs) e lt))

-- ---- one more function

pub add_found : (file : List ℕ) (es : List Extent) (hs : List Hole) (e : Extent) (h : Hole) → AreFound file es hs → IsHole file e h → AreFound file (es ++ e ∷ []) (hs ++ h ∷ [])
add_found file es hs e h holes.nothing p = found e h [] [] p holes.nothing
add_found file es hs e h (found x y es' hs' q r) p = found x y (es' ++ e ∷ []) (hs' ++ h ∷ []) q (add_found file es' hs' e h r p)
add_found file es hs e h (passed x es' hs' r) p = passed x (es' ++ e ∷ []) (hs' ++ h ∷ []) (add_found file es' hs' e h r p)

pub add_passed : (file : List ℕ) (es : List Extent) (hs : List Hole) (e : Extent) → AreFound file es hs → AreFound file (es ++ e ∷ []) hs
add_passed file es hs e holes.nothing = passed e [] [] holes.nothing
add_passed file es hs e (found x y es' hs' q r) = found x y (es' ++ e ∷ []) hs' q (add_passed file es' hs' e r)
add_passed file es hs e (passed x es' hs' r) = passed x (es' ++ e ∷ []) hs' (add_passed file es' hs' e r)

-- all of them
pub all_taken : (file : List ℕ) (es : List Extent) (k : ℕ) (hs : List Hole) → length es ≤ k → AreFound file (take k es) hs → AreFound file es hs
all_taken file es k hs le h = subst (λ (xs : List Extent). AreFound file xs hs) (all es k le) h
  where
    all : (xs : List Extent) (n : ℕ) → length xs ≤ n → take n xs ≡ xs
    all [] zero lt = refl
    all [] (suc n) lt = refl
    all (x ∷ xs) zero lt = absurd (omega (arith, lt))
    all (x ∷ xs) (suc n) lt = ap (λ (ys : List Extent). x ∷ ys) (all xs n (omega (arith, lt)))
