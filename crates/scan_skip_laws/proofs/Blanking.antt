-- A text with blanks in place of some parts has the tokens of the text without those parts.
use Rattle.std.proofs.Common.{◌≡◌, ℕ, zero, suc, ◌+◌, ◌-◌, ◌<◌, ◌≤◌, List, [], ◌∷◌, ◌++◌, map, length, drop, Bool, true, false, cond, refl, sym, ◌∙◌, ap, subst, arith, Option, Some, None, length-append, append_assoc}
use Rattle.std.specs.Prelude.{nat_lt}
use Rattle.std.proofs.lemmas.Bool.{ltb-true, ltb-false}
use Rattle.script_grammar.specs.declared.token.Kind.TheVariants as kind
use Rattle.script_grammar.specs.declared.token.mark.TheConstants as mark
use Rattle.unit_text.specs.declared.Point.{Point}
use Rattle.unit_text.specs.Points.{code_of}
use Rattle.script_scanner.specs.declared.braces.Brace.{Brace}
use Rattle.script_scanner.specs.Blanks.{blank_at}
use Rattle.script_scanner.specs.Braces.{in_substitution}
use Rattle.script_scanner.specs.Tokens.{Piece, Lexed, place, last_token, token_at, braces_after, tokens_within}
use Rattle.scan_laws.proofs.Places.{RiseTo, highest, rise_behind}
use Rattle.scan_skip_laws.specs.Spans.{Span, blank, Blanked, whole, part, at_front, kinds_of, CloseInside, LeavesSpans, nothing, keeps, skips}
use Rattle.scan_skip_laws.proofs.Braces.{brace_piece, brace_token, AtBrace, at_brace, open_again}
use Rattle.scan_skip_laws.proofs.Readings.{codes_of, lexed_at, Reads, reads_before_blank, reads_after, one_token, token_takes, Walked, walk, open_after, last_alone}

-- ---- tokens without those of the first span, and of the others

record Parted (s : Span) (spans : List Span) (ts left : List Lexed) : Type 0 where
  front : List Lexed
  opener : Lexed
  inside : List Lexed
  closer : Lexed
  rest : List Lexed
  others : List Lexed
  all : ts ≡ front ++ opener ∷ (inside ++ closer ∷ rest)
  are : left ≡ front ++ opener ∷ at_front closer ∷ others
  opens : opener.kind ≡ kind.Mark mark.OPEN_BRACE
  closed : CloseInside (kinds_of inside)
  from : s.from ≡ opener.end
  to : s.to ≡ closer.start
  leaves : LeavesSpans spans rest others

parted : (s : Span) (spans all : List Span) (ts left : List Lexed) → LeavesSpans all ts left → all ≡ s ∷ spans → Parted s spans ts left
parted s spans all ts left nothing e = absurd (cc)
parted s spans all ts left (keeps t all' ts' left' h) e =
    let p = parted s spans all' ts' left' h e in
    record {
      front = t ∷ p.front;
      opener = p.opener;
      inside = p.inside;
      closer = p.closer;
      rest = p.rest;
      others = p.others;
      all = ap (λ (x : List Lexed). t ∷ x) p.all;
      are = ap (λ (x : List Lexed). t ∷ x) p.are;
      opens = p.opens;
      closed = p.closed;
      from = p.from;
      to = p.to;
      leaves = p.leaves;
    }
parted s spans all ts left (skips opener closer inside more rest others ts' left' opens closed f g h) e =
    let first : record { from = opener.end; to = closer.start } ≡ s = cc in
    let behind : more ≡ spans = cc in
    record {
      front = [];
      opener = opener;
      inside = inside;
      closer = closer;
      rest = rest;
      others = others;
      all = f;
      are = g;
      opens = opens;
      closed = closed;
      from = ap (λ (x : Span). x.from) (sym first);
      to = ap (λ (x : Span). x.to) (sym first);
      leaves = subst (λ x. LeavesSpans x rest others) behind h;
    }

unparted : (all : List Span) (ts left : List Lexed) → LeavesSpans all ts left → all ≡ [] → left ≡ ts
unparted all ts left nothing e = refl
unparted all ts left (keeps t all' ts' left' h) e = ap (λ (x : List Lexed). t ∷ x) (unparted all' ts' left' h e)
unparted all ts left (skips opener closer inside more rest others ts' left' opens closed f g h) e = absurd (cc)

-- ---- points in two parts

-- where points are parted at one place, the parts are the same
record Same (xs ds front rest : List Point) : Type 0 where
  before : xs ≡ front
  behind : ds ≡ rest

same_parts : (to b : ℕ) (xs ds front rest : List Point) → RiseTo to b (xs ++ ds) → xs ++ ds ≡ front ++ rest → place to ds ≡ place to rest → Same xs ds front rest
same_parts to b [] ds [] rest h e p = record { before = refl; behind = e }
same_parts to b [] ds (f ∷ front) rest h e p =
    let rises : RiseTo to b (f ∷ (front ++ rest)) = subst (RiseTo to b) e h in
    let up : suc f.start ≤ place to rest = highest to (suc f.start) front rest rises.1 in
    let here : place to ds ≡ f.start = ap (place to) e in
    absurd (omega (arith, up, here, p))
same_parts to b (x ∷ xs) ds [] rest h e p =
    let up : suc x.start ≤ place to ds = highest to (suc x.start) xs ds h.1 in
    let there : place to rest ≡ x.start = ap (place to) (sym e) in
    absurd (omega (arith, up, there, p))
same_parts to b (x ∷ xs) ds (f ∷ front) rest h e p =
    let first : x ≡ f = cc in
    let others : xs ++ ds ≡ front ++ rest = cc in
    let s = same_parts to (suc x.start) xs ds front rest h.1 others p in
    record { before = ap (λ (y : Point). y ∷ xs) first ∙ ap (λ (ys : List Point). f ∷ ys) s.before; behind = s.behind }

place_rises : (to b : ℕ) (xs ys : List Point) → RiseTo to b (xs ++ ys) → place to (xs ++ ys) ≤ place to ys
place_rises to b [] ys h = omega arith
place_rises to b (x ∷ xs) ys h = let up : suc x.start ≤ place to ys = highest to (suc x.start) xs ys h.1 in omega (arith, up)

-- a blank and what is after it
blank_place : (to from end : ℕ) (ps : List Point) → from ≤ end → place to ps ≡ end → place to (blank from end ++ ps) ≡ from
blank_place to from end ps le e = by (nat_lt from end) refl
  where
    by : (b : Bool) → nat_lt from end ≡ b → place to (cond b (record { code = 0x20; start = from; end = end } ∷ []) [] ++ ps) ≡ from
    by true f = refl
    by false f = let ge : end ≤ from = ltb-false from end f in e ∙ omega (arith, ge, le)

-- points with blanks begin where they began
blanked_place : (to b : ℕ) (all : List Span) (ps left : List Point) → RiseTo to b ps → Blanked to all ps left → place to left ≡ place to ps
blanked_place to b all ps left h (whole ps') = refl
blanked_place to b all ps left h (part s spans front inside rest others ps' left' f t e g k) = by (λ r. blanked_place to b spans rest others r k) front e g
  where
    by : (RiseTo to b rest → place to others ≡ place to rest) → (xs : List Point) → ps ≡ xs ++ (inside ++ rest) → left ≡ xs ++ (blank s.from s.to ++ others) → place to left ≡ place to ps
    by each (x ∷ xs) i j = ap (place to) j ∙ sym (ap (place to) i)
    by each [] i j =
        let rises : RiseTo to b (inside ++ rest) = subst (RiseTo to b) i h in
        let up : place to (inside ++ rest) ≤ place to rest = place_rises to b inside rest rises in
        let there : place to others ≡ s.to = each (rise_behind to b inside rest rises) ∙ t in
        ap (place to) j ∙ blank_place to s.from s.to others (omega (arith, up, f, t)) there ∙ sym f ∙ ap (place to) (sym i)

reads_blank : (to from end : ℕ) (braces : List Brace) (ps : List Point) (ts : List Lexed) → Reads to braces false ps ts → Reads to braces false (blank from end ++ ps) ts
reads_blank to from end braces ps ts r = by (nat_lt from end)
  where
    by : (b : Bool) → Reads to braces false (cond b (record { code = 0x20; start = from; end = end } ∷ []) [] ++ ps) ts
    by true = reads_before_blank to braces false (record { code = 0x20; start = from; end = end } ∷ ps) (record { length = 1; breaks = false }) ts refl r
    by false = r

-- ---- a token, and what is read after it

pub record AtToken (to : ℕ) (braces : List Brace) (after : Bool) (ps : List Point) (t : Lexed) (ts : List Lexed) : Type 0 where
  pub piece : Piece
  pub is : token_at (in_substitution braces) (codes_of ps) ≡ Some piece
  pub first : lexed_at to after ps piece ≡ t
  pub behind : Reads to (braces_after braces piece.kind) false (drop piece.length ps) ts

pub at_token : (to : ℕ) (braces : List Brace) (after : Bool) (ps : List Point) (t u : Lexed) (ts us : List Lexed) → blank_at (codes_of ps) ≡ None → Reads to braces after ps (t ∷ (ts ++ u ∷ us)) → AtToken to braces after ps t (ts ++ u ∷ us)
at_token to braces after ps t u ts us bare r = by (token_at (in_substitution braces) (codes_of ps)) refl
  where
    by : (o : Option Piece) → token_at (in_substitution braces) (codes_of ps) ≡ o → AtToken to braces after ps t (ts ++ u ∷ us)
    by None e = absurd (last_alone to braces after ps t u ts us bare e r)
    by (Some p) e =
        let split : lexed_at to after ps p ∷ tokens_within (suc (length (drop p.length ps))) to (braces_after braces p.kind) false (drop p.length ps) ≡ t ∷ (ts ++ u ∷ us) = sym (reads_after to braces after ps p bare e) ∙ r in
        record { piece = p; is = e; first = cc; behind = cc }

-- the same with no line end said to stand before it
unsaid : (to : ℕ) (braces : List Brace) (said : Bool) (ps : List Point) (t : Lexed) (ts : List Lexed) → blank_at (codes_of ps) ≡ None → AtToken to braces said ps t ts → Reads to braces false ps (at_front t ∷ ts)
unsaid to braces said ps t ts bare a =
    reads_after to braces false ps a.piece bare a.is
    ∙ ap (λ (x : Lexed). x ∷ tokens_within (suc (length (drop a.piece.length ps))) to (braces_after braces a.piece.kind) false (drop a.piece.length ps)) (ap (λ (x : Lexed). record x { after_line = false }) a.first)
    ∙ ap (λ (xs : List Lexed). at_front t ∷ xs) a.behind

-- ---- up to the end of the first span

-- The points up to the opening brace of a span, and those from its closing one on, where no line end is said to stand before it.
record Bound (to : ℕ) (braces : List Brace) (after : Bool) (ps : List Point) (front : List Lexed) (opener closer : Lexed) (rest : List Lexed) : Type 0 where
  before : List Point
  inside : List Point
  behind : List Point
  split : ps ≡ before ++ (inside ++ behind)
  from : place to (inside ++ behind) ≡ opener.end
  to_is : place to behind ≡ closer.start
  now : List Brace
  reads : Reads to now false behind (at_front closer ∷ rest)
  swaps : (es : List Point) (rs : List Lexed) → place to es ≡ opener.end → Reads to now false es rs → Reads to braces after (before ++ es) (front ++ opener ∷ rs)

pub codes_one : (here : List Point) (cs : List ℕ) → codes_of here ≡ 0x7B ∷ cs → (o : Point) × (ds : List Point) × (here ≡ o ∷ ds) × (o.code ≡ 0x7B)
codes_one [] cs e = absurd (cc)
codes_one (o ∷ ds) cs e = (o, ds, refl, cc)

module _ (to : ℕ) (braces : List Brace) (after : Bool) (ps : List Point) (front : List Lexed) (opener : Lexed) (inside : List Lexed) (closer next : Lexed) (rest : List Lexed) (opens : opener.kind ≡ kind.Mark mark.OPEN_BRACE) (closed : CloseInside (kinds_of inside))
    (r : Reads to braces after ps (front ++ opener ∷ (inside ++ closer ∷ next ∷ rest))) where
  w : Walked to braces after ps front opener (inside ++ closer ∷ next ∷ rest)
  w = walk to braces after ps front opener (inside ++ closer ∷ next ∷ rest) r

  abbrev stack : List Brace
  stack = open_after braces (kinds_of front)

  at : AtToken to stack w.said w.here opener (inside ++ closer ∷ next ∷ rest)
  at = at_token to stack w.said w.here opener closer inside (next ∷ rest) w.bare w.reads

  kind_is : at.piece.kind ≡ kind.Mark mark.OPEN_BRACE
  kind_is = ap (λ (x : Lexed). x.kind) at.first ∙ opens

  brace : AtBrace (codes_of w.here) at.piece
  brace = at_brace (in_substitution stack) (codes_of w.here) at.piece at.is kind_is

  abbrev inner : List Brace
  inner = braces_after stack (kind.Mark mark.OPEN_BRACE)

  bound_at : (o : Point) (ds : List Point) → w.here ≡ o ∷ ds → o.code ≡ 0x7B → Bound to braces after ps front opener closer (next ∷ rest)
  bound_at o ds is code = record {
    before = w.before ++ o ∷ [];
    inside = v.before;
    behind = v.here;
    split = w.split ∙ ap (λ (xs : List Point). w.before ++ xs) (is ∙ ap (λ (xs : List Point). o ∷ xs) v.split) ∙ sym (append_assoc w.before (o ∷ []) (v.before ++ v.here));
    from = ap (place to) (sym v.split) ∙ ends;
    to_is = ap (λ (x : Lexed). x.start) last.first;
    now = inner;
    reads = subst (λ (bs : List Brace). Reads to bs false v.here (at_front closer ∷ next ∷ rest)) again (unsaid to (open_after inner (kinds_of inside)) v.said v.here closer (next ∷ rest) v.bare last);
    swaps = swaps;
  }
    where
      opened : Reads to inner false ds (inside ++ closer ∷ next ∷ rest)
      opened =
          subst (λ (xs : List Point). Reads to inner false xs (inside ++ closer ∷ next ∷ rest)) (ap (λ (p : Piece). drop p.length w.here) brace.is ∙ ap (drop 1) is)
          (subst (λ k. Reads to (braces_after stack k) false (drop at.piece.length w.here) (inside ++ closer ∷ next ∷ rest)) kind_is at.behind)

      v : Walked to inner false ds inside closer (next ∷ rest)
      v = walk to inner false ds inside closer (next ∷ rest) opened

      again : open_after inner (kinds_of inside) ≡ inner
      again = open_again inner (kinds_of inside) closed

      last : AtToken to (open_after inner (kinds_of inside)) v.said v.here closer (next ∷ rest)
      last = at_token to (open_after inner (kinds_of inside)) v.said v.here closer next [] rest v.bare v.reads

      lexed : lexed_at to w.said (o ∷ ds) brace_piece ≡ opener
      lexed = ap (λ (xs : List Point). lexed_at to w.said xs brace_piece) (sym is) ∙ ap (lexed_at to w.said w.here) (sym brace.is) ∙ at.first

      ends : place to ds ≡ opener.end
      ends = ap (λ (x : Lexed). x.end) lexed

      swaps : (es : List Point) (rs : List Lexed) → place to es ≡ opener.end → Reads to inner false es rs → Reads to braces after ((w.before ++ o ∷ []) ++ es) (front ++ opener ∷ rs)
      swaps es rs there k =
          subst (λ (xs : List Point). Reads to braces after xs (front ++ opener ∷ rs)) (sym (append_assoc w.before (o ∷ []) es))
          (w.swaps to o ds es (opener ∷ rs) code is
          (reads_after to stack w.said (o ∷ es) brace_piece (ap (λ c. blank_at (c ∷ codes_of es)) code) (ap (λ c. token_at (in_substitution stack) (c ∷ codes_of es)) code ∙ brace_token (in_substitution stack) (codes_of es))
          ∙ ap (λ n. record { kind = kind.Mark mark.OPEN_BRACE; value = brace_piece.value; start = o.start; end = n; after_line = w.said } ∷ tokens_within (suc (length es)) to inner false es) (there ∙ sym ends)
          ∙ ap (λ (x : Lexed). x ∷ tokens_within (suc (length es)) to inner false es) lexed
          ∙ ap (λ (xs : List Lexed). opener ∷ xs) k))

  bound : Bound to braces after ps front opener closer (next ∷ rest)
  bound = let c = codes_one w.here brace.rest brace.begins in bound_at c.0 c.1 c.2 c.3

-- ---- all spans

-- tokens and a last one are a first one and others
record Begun (ts : List Lexed) (last : Lexed) : Type 0 where
  next : Lexed
  others : List Lexed
  are : ts ++ last ∷ [] ≡ next ∷ others

begun : (ts : List Lexed) (last : Lexed) → Begun ts last
begun [] last = record { next = last; others = []; are = refl }
begun (t ∷ ts) last = record { next = t; others = ts ++ last ∷ []; are = refl }

two_more : (front inside rest : List Lexed) (opener closer last : Lexed) → (front ++ opener ∷ (inside ++ closer ∷ rest)) ++ last ∷ [] ≡ front ++ opener ∷ (inside ++ closer ∷ (rest ++ last ∷ []))
two_more front inside rest opener closer last = append_assoc front (opener ∷ (inside ++ closer ∷ rest)) (last ∷ []) ∙ ap (λ (xs : List Lexed). front ++ opener ∷ xs) (append_assoc inside (closer ∷ rest) (last ∷ []))

-- The points with blanks have the tokens of the points without those in the spans. Behind the last span there is a token more.
pub blanked_reads : (to b : ℕ) (spans : List Span) (ts left : List Lexed) (last : Lexed) (ps others : List Point) (braces : List Brace) (after : Bool) → RiseTo to b ps → LeavesSpans spans ts left → Blanked to spans ps others → Reads to braces after ps (ts ++ last ∷ [])
    → Reads to braces after others (left ++ last ∷ [])
blanked_reads to b all ts left last ps there braces after rises leaves (whole ps') reads = subst (λ (xs : List Lexed). Reads to braces after ps (xs ++ last ∷ [])) (sym (unparted [] ts left leaves refl)) reads
blanked_reads to b all ts left last ps there braces after rises leaves (part s spans front inside rest others ps' there' f t e g k) reads =
    let p : Parted s spans ts left = parted s spans (s ∷ spans) ts left leaves refl in
    let n : Begun p.rest last = begun p.rest last in
    let now : Reads to braces after ps (p.front ++ p.opener ∷ (p.inside ++ p.closer ∷ n.next ∷ n.others)) =
    reads ∙ ap (λ (xs : List Lexed). xs ++ last ∷ []) p.all ∙ two_more p.front p.inside p.rest p.opener p.closer last ∙ ap (λ (xs : List Lexed). p.front ++ p.opener ∷ (p.inside ++ p.closer ∷ xs)) n.are in
    let d : Bound to braces after ps p.front p.opener p.closer (n.next ∷ n.others) = bound to braces after ps p.front p.opener p.inside p.closer n.next n.others p.opens p.closed now in
    let here : Same d.before (d.inside ++ d.behind) front (inside ++ rest) = same_parts to b d.before (d.inside ++ d.behind) front (inside ++ rest) (subst (RiseTo to b) d.split rises) (sym d.split ∙ e) (d.from ∙ sym p.from ∙ sym f) in
    let inner : RiseTo to b (inside ++ rest) = rise_behind to b front (inside ++ rest) (subst (RiseTo to b) e rises) in
    let back : Same d.inside d.behind inside rest = same_parts to b d.inside d.behind inside rest (subst (RiseTo to b) (sym here.behind) inner) here.behind (d.to_is ∙ sym p.to ∙ sym t) in
    let more : Reads to d.now false rest ((at_front p.closer ∷ p.rest) ++ last ∷ []) = subst (λ (xs : List Point). Reads to d.now false xs ((at_front p.closer ∷ p.rest) ++ last ∷ [])) back.behind (d.reads ∙ ap (λ (xs : List Lexed). at_front p.closer ∷ xs) (sym n.are)) in
    let behind : Reads to d.now false others ((at_front p.closer ∷ p.others) ++ last ∷ []) =
    blanked_reads to b spans (at_front p.closer ∷ p.rest) (at_front p.closer ∷ p.others) last rest others d.now false (rise_behind to b inside rest inner) (keeps (at_front p.closer) spans p.rest p.others p.leaves) k more in
    let up : place to (inside ++ rest) ≤ place to rest = place_rises to b inside rest inner in
    let at_end : place to others ≡ s.to = blanked_place to b spans rest others (rise_behind to b inside rest inner) k ∙ t in
    let start : place to (blank s.from s.to ++ others) ≡ p.opener.end = blank_place to s.from s.to others (omega (arith, up, f, t)) at_end ∙ p.from in
    let made : Reads to braces after (d.before ++ (blank s.from s.to ++ others)) (p.front ++ p.opener ∷ ((at_front p.closer ∷ p.others) ++ last ∷ [])) =
    d.swaps (blank s.from s.to ++ others) ((at_front p.closer ∷ p.others) ++ last ∷ []) start (reads_blank to s.from s.to d.now others ((at_front p.closer ∷ p.others) ++ last ∷ []) behind) in
    subst (λ (xs : List Point). Reads to braces after xs (left ++ last ∷ [])) (ap (λ (xs : List Point). xs ++ (blank s.from s.to ++ others)) here.before ∙ sym g)
    (made ∙ sym (append_assoc p.front (p.opener ∷ at_front p.closer ∷ p.others) (last ∷ [])) ∙ ap (λ (xs : List Lexed). xs ++ last ∷ []) (sym p.are))
