-- The text of a function with blanks in place of what stands in some bodies has the tokens that are left without these bodies.
use Rattle.std.proofs.Common.{◌≡◌, ◌∙◌, ℕ, suc, List, [], ◌∷◌, ◌++◌, map, length, refl, sym, ap, subst, append_assoc, false, Bool, Option, append-nil}
use Rattle.std.proofs.lemmas.List.{map-append}
use Rattle.script_grammar.specs.declared.token.FuncForm.{FuncForm}
use Rattle.script_grammar.specs.declared.token.Kind.{Kind}
use Rattle.script_grammar.specs.Lexeme.{Lexeme}
use Rattle.script_grammar.specs.Tree.{Named, Function}
use Rattle.unit_text.specs.declared.Point.{Point}
use Rattle.script_scanner.specs.Tokens.{Lexed, tokens_within}
use Rattle.script_scanner.specs.Lexemes.{lexeme_of}
use Rattle.scan_laws.specs.Inside.{kinds}
use Rattle.scan_laws.proofs.Balanced.{pieces_close}
use Rattle.scan_laws.proofs.Places.{RiseTo}
use Rattle.scan_skip_laws.specs.Spans.{Span, Blanked, kinds_of, CloseInside, LeavesSpans}
use Rattle.scan_skip_laws.specs.Spans as text
use Rattle.scan_skip_laws.proofs.Readings.{Reads}
use Rattle.scan_skip_laws.proofs.Blanking.{blanked_reads}
use Rattle.scope_analysis.specs.Functions.{Inner}
use Rattle.grammar_skip_laws.specs.Holes.{Hole, Braced, hole_of, LeavesOut, nothing, keeps, skips}
use Rattle.grammar_skip_laws.specs.Skipped.{Skipped}
use Rattle.parse_skip_laws.specs.SkippedText.{span_of}

-- ---- tokens of the scanner for tokens of the grammar

record MapParts {A B : Type 0} (g : A → B) (ts : List A) (xs ys : List B) : Type 0 where
  front : List A
  back : List A
  split : ts ≡ front ++ back
  first : map g front ≡ xs
  second : map g back ≡ ys

map_parts : {A B : Type 0} (g : A → B) (ts : List A) (xs ys : List B) → map g ts ≡ xs ++ ys → MapParts g ts xs ys
map_parts g ts [] ys e = record { front = []; back = ts; split = refl; first = refl; second = e }
map_parts g [] (x ∷ xs) ys e = absurd (cc)
map_parts g (t ∷ ts) (x ∷ xs) ys e =
    let p = map_parts g ts xs ys cc in
    let one : g t ≡ x = cc in
    record { front = t ∷ p.front; back = p.back; split = ap (λ zs. t ∷ zs) p.split; first = ap (λ zs. g t ∷ zs) p.first ∙ ap (λ z. z ∷ xs) one; second = p.second }

same_kinds : (ts : List Lexed) → kinds (map lexeme_of ts) ≡ kinds_of ts
same_kinds [] = refl
same_kinds (t ∷ ts) = ap (λ (ks : List Kind). t.kind ∷ ks) (same_kinds ts)

-- the tokens of the scanner that are left
record Left (spans : List Span) (ts : List Lexed) (left : List Lexeme) : Type 0 where
  us : List Lexed
  leaves : LeavesSpans spans ts us
  are : map lexeme_of us ≡ left

keep_all : (us : List Lexed) (spans : List Span) (ts vs : List Lexed) → LeavesSpans spans ts vs → LeavesSpans spans (us ++ ts) (us ++ vs)
keep_all [] spans ts vs h = h
keep_all (u ∷ us) spans ts vs h = text.keeps u spans (us ++ ts) (us ++ vs) (keep_all us spans ts vs h)

-- a function with a body that is left out
braced_left : (b : Braced) (spans : List Span) (rest left : List Lexeme) (ts : List Lexed) → map lexeme_of ts ≡ ((b.first ∷ b.more) ++ (b.opener ∷ (b.inside ++ b.closer ∷ []))) ++ rest
    → ((us : List Lexed) → map lexeme_of us ≡ rest → Left spans us left) → Left (span_of (hole_of b) ∷ spans) ts (((b.first ∷ b.more) ++ (b.opener ∷ record b.closer { after_line = false } ∷ [])) ++ left)
braced_left b spans rest left ts e behind = at_head (map_parts lexeme_of ts (b.first ∷ b.more) ((b.opener ∷ (b.inside ++ b.closer ∷ [])) ++ rest) (e ∙ append_assoc (b.first ∷ b.more) (b.opener ∷ (b.inside ++ b.closer ∷ [])) rest))
  where
    at_head : MapParts lexeme_of ts (b.first ∷ b.more) ((b.opener ∷ (b.inside ++ b.closer ∷ [])) ++ rest) → Left (span_of (hole_of b) ∷ spans) ts (((b.first ∷ b.more) ++ (b.opener ∷ record b.closer { after_line = false } ∷ [])) ++ left)
    at_head h = at_opener h.back h.split h.second
      where
        at_closer : (o : Lexed) (inner : List Lexed) (back : List Lexed) → ts ≡ h.front ++ o ∷ (inner ++ back) → lexeme_of o ≡ b.opener → map lexeme_of inner ≡ b.inside → map lexeme_of back ≡ b.closer ∷ rest
            → Left (span_of (hole_of b) ∷ spans) ts (((b.first ∷ b.more) ++ (b.opener ∷ record b.closer { after_line = false } ∷ [])) ++ left)
        at_closer o inner [] s k m n = absurd (cc)
        at_closer o inner (c ∷ back) s k m n =
            let last : lexeme_of c ≡ b.closer = cc in
            let others : map lexeme_of back ≡ rest = cc in
            let r = behind back others in
            let spans_are : record { from = o.end; to = c.start } ≡ span_of (hole_of b) = ap (λ (t : Lexeme). record { from = t.end; to = c.start }) k ∙ ap (λ (t : Lexeme). record { from = b.opener.end; to = t.start }) last in
            record {
              us = h.front ++ (o ∷ text.at_front c ∷ r.us);
              leaves = subst (λ (x : List Lexed). LeavesSpans (span_of (hole_of b) ∷ spans) x (h.front ++ (o ∷ text.at_front c ∷ r.us))) (sym s)
                  (keep_all h.front (span_of (hole_of b) ∷ spans) (o ∷ (inner ++ c ∷ back)) (o ∷ text.at_front c ∷ r.us)
                  (subst (λ x. LeavesSpans (x ∷ spans) (o ∷ (inner ++ c ∷ back)) (o ∷ text.at_front c ∷ r.us)) spans_are
                  (text.skips o c inner spans back r.us (o ∷ (inner ++ c ∷ back)) (o ∷ text.at_front c ∷ r.us) (ap (λ (t : Lexeme). t.kind) k ∙ b.opens)
                  (subst (λ ks. CloseInside ks) (ap kinds (sym m) ∙ same_kinds inner) (pieces_close b.inside b.balanced)) refl refl r.leaves)));
              are = map-append lexeme_of h.front (o ∷ text.at_front c ∷ r.us)
                  ∙ ap (λ xs. xs ++ map lexeme_of (o ∷ text.at_front c ∷ r.us)) h.first
                  ∙ ap (λ (t : Lexeme). (b.first ∷ b.more) ++ (t ∷ map lexeme_of (text.at_front c ∷ r.us))) k
                  ∙ ap (λ (t : Lexeme). (b.first ∷ b.more) ++ (b.opener ∷ record t { after_line = false } ∷ map lexeme_of r.us)) last
                  ∙ ap (λ xs. (b.first ∷ b.more) ++ (b.opener ∷ record b.closer { after_line = false } ∷ xs)) r.are
                  ∙ sym (append_assoc (b.first ∷ b.more) (b.opener ∷ record b.closer { after_line = false } ∷ []) left);
            }

        at_inside : (o : Lexed) (back : List Lexed) → ts ≡ h.front ++ o ∷ back → lexeme_of o ≡ b.opener → MapParts lexeme_of back b.inside (b.closer ∷ rest)
            → Left (span_of (hole_of b) ∷ spans) ts (((b.first ∷ b.more) ++ (b.opener ∷ record b.closer { after_line = false } ∷ [])) ++ left)
        at_inside o back s k p = at_closer o p.front p.back (s ∙ ap (λ (x : List Lexed). h.front ++ o ∷ x) p.split) k p.first p.second

        at_opener : (back : List Lexed) → ts ≡ h.front ++ back → map lexeme_of back ≡ (b.opener ∷ (b.inside ++ b.closer ∷ [])) ++ rest
            → Left (span_of (hole_of b) ∷ spans) ts (((b.first ∷ b.more) ++ (b.opener ∷ record b.closer { after_line = false } ∷ [])) ++ left)
        at_opener [] s n = absurd (cc)
        at_opener (o ∷ back) s n =
            let first : lexeme_of o ≡ b.opener = cc in
            let others : map lexeme_of back ≡ (b.inside ++ b.closer ∷ []) ++ rest = cc in
            at_inside o back s first (map_parts lexeme_of back b.inside (b.closer ∷ rest) (others ∙ append_assoc b.inside (b.closer ∷ []) rest))

left_of_all : (holes : List Hole) (all left : List Lexeme) → LeavesOut holes all left → (ts : List Lexed) → map lexeme_of ts ≡ all → Left (map span_of holes) ts left
left_of_all holes all left nothing [] e = record { us = []; leaves = text.nothing; are = refl }
left_of_all holes all left nothing (t ∷ ts) e = absurd (cc)
left_of_all holes all left (keeps t holes' all' left' h) [] e = absurd (cc)
left_of_all holes all left (keeps t holes' all' left' h) (u ∷ ts) e =
    let r = left_of_all holes' all' left' h ts cc in
    let one : lexeme_of u ≡ t = cc in
    record { us = u ∷ r.us; leaves = text.keeps u (map span_of holes') ts r.us r.leaves; are = ap (λ x. x ∷ map lexeme_of r.us) one ∙ ap (λ xs. t ∷ xs) r.are }
left_of_all holes all left (skips b more rest others all' left' f g h) ts e =
    let r = braced_left b (map span_of more) rest others ts (e ∙ f) (λ us k. left_of_all more rest others h us k) in
    record { us = r.us; leaves = r.leaves; are = r.are ∙ sym g }

-- ---- the text

-- a last token is the last one of the scanner too
record Lasts (ts : List Lexed) (w : List Lexeme) (last : Lexeme) : Type 0 where
  front : List Lexed
  end : Lexed
  split : ts ≡ front ++ end ∷ []
  are : map lexeme_of front ≡ w
  is : lexeme_of end ≡ last

lasts : (ts : List Lexed) (w : List Lexeme) (last : Lexeme) → map lexeme_of ts ≡ w ++ last ∷ [] → Lasts ts w last
lasts ts w last e = by p.back p.split p.second
  where
    p : MapParts lexeme_of ts w (last ∷ [])
    p = map_parts lexeme_of ts w (last ∷ []) e

    by : (back : List Lexed) → ts ≡ p.front ++ back → map lexeme_of back ≡ last ∷ [] → Lasts ts w last
    by [] s n = absurd (cc)
    by (t ∷ []) s n = record { front = p.front; end = t; split = s; are = p.first; is = cc }
    by (t ∷ u ∷ back) s n = absurd (cc)

-- Where points of a text are scanned to these tokens and a last one, the points with blanks in place of what stands in the chosen
-- bodies are scanned to the tokens that are left, and the last one.
pub skipped_text : (chosen : ℕ → Bool) (inner : List Inner) (form : FuncForm) (who : Option Named) (limit : ℕ) (w : List Lexeme) (last : Lexeme) (f : Function) (k : Skipped chosen inner form who limit w last f)
    (to b : ℕ) (ps others : List Point) → RiseTo to b ps → Blanked to (map span_of k.holes) ps others → map lexeme_of (tokens_within (suc (length ps)) to [] false ps) ≡ w ++ last ∷ []
    → map lexeme_of (tokens_within (suc (length others)) to [] false others) ≡ k.left ++ last ∷ []
skipped_text chosen inner form who limit w last f k to b ps others rises blanks e =
    let ts = tokens_within (suc (length ps)) to [] false ps in
    let l = lasts ts w last e in
    let r = left_of_all k.holes w k.left k.leaves l.front l.are in
    let read : Reads to [] false others (r.us ++ l.end ∷ []) = blanked_reads to b (map span_of k.holes) l.front r.us l.end ps others [] false rises r.leaves blanks l.split in
    ap (map lexeme_of) read ∙ map-append lexeme_of r.us (l.end ∷ []) ∙ ap (λ xs. xs ++ lexeme_of l.end ∷ []) r.are ∙ ap (λ x. k.left ++ x ∷ []) l.is
