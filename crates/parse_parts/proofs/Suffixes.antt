-- The tokens of a text from any of them on are a text that no text begins with whose brackets match, where those of the whole
-- text are: a bracket that closes nothing of all that is open closes nothing of what is open since.
use Rattle.std.proofs.Common.{◌≡◌, ◌∙◌, ℕ, ◌≤◌, List, [], ◌∷◌, ◌++◌, length, take, drop, refl, sym, ap, append_assoc, Option, Some, None}
use Rattle.std.proofs.lemmas.List.{take-append-drop, drop-append-le}
use Rattle.script_grammar.specs.Lexeme.{Lexeme}
use Rattle.script_grammar.specs.Pieces.{Opener, open_behind, open_at_end}
use Rattle.grammar_parser_laws.proofs.Nested.{open_step, open_append, deeper_behind}
use Rattle.grammar_script_laws.proofs.Closed.{Closed, open_front, not_both}

-- what is known of brackets is known where more are open around
more_around : (u : List Lexeme) (ps qs os : List Opener) → open_at_end ps u ≡ Some qs → open_at_end (ps ++ os) u ≡ Some (qs ++ os)
more_around [] ps qs os e = ap (λ x. elim x [ None ↦ None | Some y ↦ Some (y ++ os) ]) e
more_around (t ∷ u) ps qs os e = past (open_behind t.kind ps) refl (λ x. more_around u x qs os) e
  where
    past : (o : Option (List Opener)) → open_behind t.kind ps ≡ o → ((x : List Opener) → open_at_end x u ≡ Some qs → open_at_end (x ++ os) u ≡ Some (qs ++ os)) → (elim o [ None ↦ None | Some x ↦ open_at_end x u ]) ≡ Some qs → open_at_end (ps ++ os) (t ∷ u) ≡ Some (qs ++ os)
    past None k h e = absurd (cc)
    past (Some x) k h e = open_step (ps ++ os) (x ++ os) t u (deeper_behind t.kind ps x os k) ∙ h x e

-- so what is not known around is not known alone
alone_closed : (u : List Lexeme) (os : List Opener) → open_at_end os u ≡ None → (o : Option (List Opener)) → open_at_end [] u ≡ o → o ≡ None
alone_closed u os n None e = refl
alone_closed u os n (Some qs) e = absurd (not_both (open_at_end os u) (qs ++ os) n (more_around u [] qs os e))

pub suffix_closed : (inner : List Lexeme) (last : Lexeme) (os : List Opener) → open_at_end [] inner ≡ Some os → Closed (inner ++ last ∷ []) → (at : ℕ) → at ≤ length inner → Closed (drop at (inner ++ last ∷ []))
suffix_closed inner last os e c at h =
    let split : inner ≡ take at inner ++ drop at inner = sym (take-append-drop at inner) in
    let before = open_front (take at inner) (drop at inner) [] os (ap (open_at_end []) (sym split) ∙ e) in
    let all : inner ++ last ∷ [] ≡ take at inner ++ (drop at inner ++ last ∷ []) = ap (λ x. x ++ last ∷ []) split ∙ append_assoc (take at inner) (drop at inner) (last ∷ []) in
    let around : open_at_end before.open_ones (drop at inner ++ last ∷ []) ≡ None = sym (open_append (take at inner) [] before.open_ones (drop at inner ++ last ∷ []) before.is) ∙ ap (open_at_end []) (sym all) ∙ c.is in
    record { is = ap (open_at_end []) (drop-append-le at inner (last ∷ []) h) ∙ alone_closed (drop at inner ++ last ∷ []) before.open_ones around (open_at_end [] (drop at inner ++ last ∷ [])) refl }
