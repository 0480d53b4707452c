-- What a braced body that is passed over is to the parser on lists of lexemes, after bodies that were recorded before.
use Rattle.std.proofs.Common.{◌≡◌, ◌∙◌, ℕ, ◌-◌, List, [], ◌∷◌, ◌++◌, Bool, true, false, map, sym, ap}
use Rattle.std.proofs.lemmas.List.{map-append}
use Rattle.script_grammar.specs.declared.token.FuncForm.{FuncForm}
use Rattle.script_grammar.specs.declared.token.mark.TheConstants as mark
use Rattle.script_grammar.specs.Fault.{depth_limit}
use Rattle.script_grammar.specs.Interpretation.{Interpretation}
use Rattle.script_grammar.specs.Kinds.{is_mark}
use Rattle.script_grammar.specs.Lexeme.{Lexeme}
use Rattle.script_grammar.specs.Pieces.{brace}
use Rattle.grammar_parser_specs.specs.Parser.{Recorded, Read, Bad, head_of, rest_of, noted, after, ret, bad, bind, step, when, note}
use Rattle.grammar_parser_specs.specs.Exprs.{pass_over, passed_body, passing}
use Rattle.grammar_local_laws.proofs.LocalExprs.{noted_twice}
use Rattle.parse_exprs.specs.declared.source.Source.{Source}
use Rattle.parse_exprs.specs.declared.place.Cursor.{Cursor}
use Rattle.parse_exprs.specs.declared.place.Pending.{Pending}
use Rattle.parse_exprs.specs.Answers.{ReadAs, BadAs, recorded, records}
use Rattle.parse_exprs.specs.Env.{env_at, body_at}
use Rattle.parse_exprs.proofs.Steps.{just, bad_here}

module _ (i : Interpretation) (depth : ℕ) (form : FuncForm) (start : ℕ) (simple : Bool) (rs : List Recorded) (ts : List Lexeme) where
  abbrev pub body : Recorded
  body = record { form = form; room = depth_limit - depth; simple = simple; from = ts }

  pub body_read : (e : ℕ) (us : List Lexeme) → is_mark mark.OPEN_BRACE (head_of ts).kind ≡ true → pass_over (brace ∷ []) (rest_of ts) ≡ Read e [] us → ReadAs rs ((env_at i depth).body form start simple ts) (record { body = body_at i start; end = e }) (rs ++ body ∷ []) us
  unfolding env_at passing
  body_read e us m h = record {
    is = ap (λ b. noted rs (when b (bind (note form (depth_limit - depth) simple) (λ _. step (bind (pass_over (brace ∷ [])) (λ end. ret (passed_body (body_at i start) end))))) bad ts)) m
        ∙ sym (noted_twice rs (body ∷ []) (after (pass_over (brace ∷ []) (rest_of ts)) (λ end. ret (passed_body (body_at i start) end))))
        ∙ ap (λ r. noted (rs ++ body ∷ []) (after r (λ end. ret (passed_body (body_at i start) end)))) h
        ∙ (just (rs ++ body ∷ []) (passed_body (body_at i start) e) us).is;
  }

  pub body_bad : (us : List Lexeme) → is_mark mark.OPEN_BRACE (head_of ts).kind ≡ true → pass_over (brace ∷ []) (rest_of ts) ≡ Bad [] us → BadAs rs ((env_at i depth).body form start simple ts) (rs ++ body ∷ []) us
  unfolding env_at passing
  body_bad us m h = record {
    is = ap (λ b. noted rs (when b (bind (note form (depth_limit - depth) simple) (λ _. step (bind (pass_over (brace ∷ [])) (λ end. ret (passed_body (body_at i start) end))))) bad ts)) m
        ∙ sym (noted_twice rs (body ∷ []) (after (pass_over (brace ∷ []) (rest_of ts)) (λ end. ret (passed_body (body_at i start) end))))
        ∙ ap (λ r. noted (rs ++ body ∷ []) (after r (λ end. ret (passed_body (body_at i start) end)))) h
        ∙ bad_here (rs ++ body ∷ []) us;
  }

  pub body_none : is_mark mark.OPEN_BRACE (head_of ts).kind ≡ false → BadAs rs ((env_at i depth).body form start simple ts) rs ts
  unfolding env_at passing
  body_none m = record {
    is = ap (λ b. noted rs (when b (bind (note form (depth_limit - depth) simple) (λ _. step (bind (pass_over (brace ∷ [])) (λ end. ret (passed_body (body_at i start) end))))) bad ts)) m ∙ bad_here rs ts;
  }

-- one more body that was passed over
pub records_more : (s : Source) (i : Interpretation) (old new : Cursor) (p : Pending) → new.pending.items ≡ old.pending.items ++ p ∷ [] → records s i new ≡ records s i old ++ recorded s i p ∷ []
unfolding records
records_more s i old new p e = ap (map (recorded s i)) e ∙ map-append (recorded s i) old.pending.items (p ∷ [])
