-- What is read of a text that a `{` ends is read of every longer text.
use Rattle.std.proofs.Common.{◌≡◌, ℕ, suc, ◌+◌, ◌≤◌, List, [], ◌∷◌, ◌++◌, length, drop, Bool, true, false, refl, sym, ◌∙◌, ap, subst, arith, append_assoc}
use Rattle.script_grammar.specs.declared.token.Kind.TheVariants as kind
use Rattle.script_grammar.specs.declared.token.mark.TheConstants as mark
use Rattle.unit_text.specs.declared.Point.{Point}
use Rattle.script_scanner.specs.declared.braces.Brace.{Brace}
use Rattle.script_scanner.specs.Blanks.{blank_at}
use Rattle.script_scanner.specs.Braces.{in_substitution}
use Rattle.script_scanner.specs.Tokens.{Piece, Lexed, place, token_at, braces_after, tokens_within}
use Rattle.scan_laws.proofs.Places.{RiseTo, highest, rise_behind}
use Rattle.scan_skip_laws.specs.Spans.{kinds_of}
use Rattle.scan_skip_laws.proofs.Blanking.{AtToken, at_token, codes_one}
use Rattle.scan_skip_laws.proofs.Braces.{brace_piece, brace_token, AtBrace, at_brace}
use Rattle.scan_skip_laws.proofs.Readings.{codes_of, lexed_at, Reads, reads_after, Walked, walk, open_after}

-- the tokens of the longer text: these, the brace, and others
pub record Grown (end : ℕ) (braces : List Brace) (after : Bool) (ps : List Point) (us : List Lexed) (opener : Lexed) : Type 0 where
  pub others : List Lexed
  pub reads : Reads end braces after ps (us ++ opener ∷ others)

-- points begin before the end
place_within : (to c : ℕ) (qs : List Point) → RiseTo to c qs → place to qs ≤ to
place_within to c [] g = omega arith
place_within to c (q ∷ qs) g = let on : suc q.start ≤ place to qs = highest to (suc q.start) [] qs g.1 in let more : place to qs ≤ to = place_within to (suc q.start) qs g.1 in omega (arith, on, more)

-- points that reach the end are none
none_at_end : (to b : ℕ) (ps : List Point) → RiseTo to b ps → place to ps ≡ to → ps ≡ []
none_at_end to b [] h e = refl
none_at_end to b (p ∷ ps) h e =
    let up : suc p.start ≤ place to ps = highest to (suc p.start) [] ps h.1 in
    let le : place to ps ≤ to = place_within to (suc p.start) ps h.1 in
    absurd (omega (arith, up, le, e))

module _ (window b : ℕ) (braces : List Brace) (after : Bool) (ps : List Point) (us : List Lexed) (opener last : Lexed) (rises : RiseTo window b ps) (r : Reads window braces after ps (us ++ opener ∷ last ∷ [])) (opens : opener.kind ≡ kind.Mark mark.OPEN_BRACE) (ends : opener.end ≡ window)
    (end : ℕ) (es : List Point) (there : place end es ≡ window) where
  w : Walked window braces after ps us opener (last ∷ [])
  w = walk window braces after ps us opener (last ∷ []) r

  abbrev stack : List Brace
  stack = open_after braces (kinds_of us)

  at : AtToken window stack w.said w.here opener (last ∷ [])
  at = at_token window stack w.said w.here opener last [] [] w.bare w.reads

  brace : AtBrace (codes_of w.here) at.piece
  brace = at_brace (in_substitution stack) (codes_of w.here) at.piece at.is (ap (λ (x : Lexed). x.kind) at.first ∙ opens)

  grown_at : (o : Point) (ds : List Point) → w.here ≡ o ∷ ds → o.code ≡ 0x7B → Grown end braces after (ps ++ es) us opener
  grown_at o ds is code = record {
    others = tokens_within (suc (length es)) end (braces_after stack (kind.Mark mark.OPEN_BRACE)) false es;
    reads = subst (λ (xs : List Point). Reads end braces after xs (us ++ opener ∷ tokens_within (suc (length es)) end (braces_after stack (kind.Mark mark.OPEN_BRACE)) false es)) text
        (w.swaps end o ds es (opener ∷ tokens_within (suc (length es)) end (braces_after stack (kind.Mark mark.OPEN_BRACE)) false es) code is
        (reads_after end stack w.said (o ∷ es) brace_piece (ap (λ c. blank_at (c ∷ codes_of es)) code) (ap (λ c. token_at (in_substitution stack) (c ∷ codes_of es)) code ∙ brace_token (in_substitution stack) (codes_of es))
        ∙ ap (λ n. record { kind = kind.Mark mark.OPEN_BRACE; value = brace_piece.value; start = o.start; end = n; after_line = w.said } ∷ tokens_within (suc (length es)) end (braces_after stack (kind.Mark mark.OPEN_BRACE)) false es) (there ∙ sym ends ∙ sym (ap (λ (x : Lexed). x.end) lexed))
        ∙ ap (λ (x : Lexed). x ∷ tokens_within (suc (length es)) end (braces_after stack (kind.Mark mark.OPEN_BRACE)) false es) lexed));
  }
    where
      lexed : lexed_at window w.said (o ∷ ds) brace_piece ≡ opener
      lexed = ap (λ (xs : List Point). lexed_at window w.said xs brace_piece) (sym is) ∙ ap (lexed_at window w.said w.here) (sym brace.is) ∙ at.first

      none : ds ≡ []
      none = none_at_end window b ds (rise_behind window b (w.before ++ o ∷ []) ds (subst (RiseTo window b) (w.split ∙ ap (λ (xs : List Point). w.before ++ xs) is ∙ sym (append_assoc w.before (o ∷ []) ds)) rises)) (ap (λ (x : Lexed). x.end) lexed ∙ ends)

      text : w.before ++ o ∷ es ≡ ps ++ es
      text =
          sym (append_assoc w.before (o ∷ []) es) ∙ ap (λ (xs : List Point). (w.before ++ o ∷ xs) ++ es) (sym none) ∙ ap (λ (xs : List Point). (w.before ++ xs) ++ es) (sym is) ∙ ap (λ (xs : List Point). xs ++ es) (sym w.split)

  pub grown : Grown end braces after (ps ++ es) us opener
  grown = let c = codes_one w.here brace.rest brace.begins in grown_at c.0 c.1 c.2 c.3
