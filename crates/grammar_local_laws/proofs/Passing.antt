-- Passing over a braced body: it ends where a body that is read in place there does.
use Rattle.std.proofs.Common.{◌≡◌, ℕ, List, [], ◌∷◌, ◌++◌, refl, ap, ◌∙◌, append_assoc, Bool, true, false, Option, Some, None}
use Rattle.script_grammar.specs.declared.token.Kind.TheVariants as kind
use Rattle.script_grammar.specs.declared.token.FuncForm.{FuncForm}
use Rattle.script_grammar.specs.declared.token.mark.TheConstants as mark
use Rattle.script_grammar.specs.Lexeme.{Lexeme}
use Rattle.script_grammar.specs.Kinds.{is_mark}
use Rattle.script_grammar.specs.Tree.{Body}
use Rattle.script_grammar.specs.Pieces.{Piece, Opener, brace, open_behind, open_at_end, Fits, mark_piece, closing_mark}
use Rattle.grammar_parser_specs.specs.Parser.{Recorded, Reply, Read, Bad, head_of, put_before, after, ret, bad, bind, step, when, note}
use Rattle.grammar_parser_specs.specs.Exprs.{BodyRead, pass_case, pass_over, passed_body, passing}
use Rattle.grammar_parser_laws.proofs.Friendly.{first_of}
use Rattle.grammar_parser_laws.proofs.Fitting.{fits_part}
use Rattle.grammar_parser_laws.proofs.Nested.{Nested, deeper_behind}

-- over lexemes whose brackets match
pass_through : (u : List Lexeme) (ps qs : List Opener) (r : List Lexeme) → open_at_end ps u ≡ Some qs → pass_over (ps ++ brace ∷ []) (u ++ r) ≡ pass_over (qs ++ brace ∷ []) r
pass_through [] ps qs r e = ap (λ o. elim o [ None ↦ Bad [] [] | Some x ↦ pass_over (x ++ brace ∷ []) r ]) e
pass_through (t ∷ u) ps qs r e = past (open_behind t.kind ps) refl (λ x. pass_through u x qs r) e
  where
    goes : (x : List Opener) → pass_case (Some (x ++ brace ∷ [])) t (u ++ r) (λ os. pass_over os (u ++ r)) ≡ pass_over (x ++ brace ∷ []) (u ++ r)
    goes [] = refl
    goes (y ∷ x) = refl

    past : (o : Option (List Opener)) → open_behind t.kind ps ≡ o → ((x : List Opener) → open_at_end x u ≡ Some qs → pass_over (x ++ brace ∷ []) (u ++ r) ≡ pass_over (qs ++ brace ∷ []) r) → (elim o [ None ↦ None | Some x ↦ open_at_end x u ]) ≡ Some qs → pass_over (ps ++ brace ∷ []) (t ∷ (u ++ r)) ≡ pass_over (qs ++ brace ∷ []) r
    past None k h e = absurd (cc)
    past (Some x) k h e = ap (λ o. pass_case o t (u ++ r) (λ os. pass_over os (u ++ r))) (deeper_behind t.kind ps x (brace ∷ []) k) ∙ goes x ∙ h x e

pass_close : (t : Lexeme) (r : List Lexeme) → t.kind ≡ kind.Mark mark.CLOSE_BRACE → pass_over (brace ∷ []) (t ∷ r) ≡ Read t.end [] r
pass_close t r h = ap (λ k. pass_case (open_behind k (brace ∷ [])) t r (λ os. pass_over os r)) h

-- what fits the places of a braced body is passed over up to its end
pub braced_pass : (d end : ℕ) (ps : List Piece) → Nested ps → (t : Lexeme) (w : List Lexeme) (n : Lexeme) (us : List Lexeme) → Fits (mark_piece mark.OPEN_BRACE d ∷ (ps ++ closing_mark mark.CLOSE_BRACE end d ∷ [])) (t ∷ w) n → pass_over (brace ∷ []) (w ++ us) ≡ Read end [] us
braced_pass d end ps x t w n us h =
    let p = fits_part ps (closing_mark mark.CLOSE_BRACE end d ∷ []) w n h.1 in
    close_at p.front p.back p.split p.first p.second
  where
    close_at : (u v : List Lexeme) → w ≡ u ++ v → Fits ps u (first_of v n) → Fits (closing_mark mark.CLOSE_BRACE end d ∷ []) v n → pass_over (brace ∷ []) (w ++ us) ≡ Read end [] us
    close_at u [] e i k = absurd k
    close_at u (c ∷ y ∷ v) e i k = absurd k.1
    close_at u (c ∷ []) e i k =
        ap (λ z. pass_over (brace ∷ []) (z ++ us)) e
        ∙ ap (pass_over (brace ∷ [])) (append_assoc u (c ∷ []) us)
        ∙ pass_through u [] [] (c ∷ us) (x.at u (first_of (c ∷ []) n) i [])
        ∙ pass_close c us k.0.kind
        ∙ ap (λ z. Read z [] us) k.0.ends.0

-- the reply of what passes over, by its first lexeme

module _ (bodies : ℕ → Body) (room : ℕ) (f : FuncForm) (start : ℕ) (simple : Bool) where
  abbrev pub record_at : List Lexeme → Recorded
  record_at ts = record { form = f; room = room; simple = simple; from = ts }

  abbrev pub passed_reply : List Lexeme → Reply BodyRead
  passed_reply ts = after (pass_over (brace ∷ []) ts) (λ end. ret (passed_body (bodies start) end))

  pub passing_here : (t : Lexeme) (ts : List Lexeme) → is_mark mark.OPEN_BRACE t.kind ≡ true → passing bodies room f start simple (t ∷ ts) ≡ put_before (record_at (t ∷ ts) ∷ []) (passed_reply ts)
  unfolding passing
  passing_here t ts h = ap (λ b. when b (bind (note f room simple) (λ _. step (bind (pass_over (brace ∷ [])) (λ end. ret (passed_body (bodies start) end))))) bad (t ∷ ts)) h

  pub passing_no : (ts : List Lexeme) → is_mark mark.OPEN_BRACE (head_of ts).kind ≡ false → passing bodies room f start simple ts ≡ Bad [] ts
  unfolding passing
  passing_no ts h = ap (λ b. when b (bind (note f room simple) (λ _. step (bind (pass_over (brace ∷ [])) (λ end. ret (passed_body (bodies start) end))))) bad ts) h
