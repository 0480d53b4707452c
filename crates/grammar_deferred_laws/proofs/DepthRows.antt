-- The limit of depth, computed.
use Rattle.std.proofs.Common.{◌≡◌, [], ◌∷◌, false, refl}
use Rattle.script_grammar.specs.declared.token.mark.TheConstants as mark
use Rattle.grammar_deferred_laws.proofs.Rows.{Accepted, TooDeep, answer, name_at, number_at, mark_at, end_at, many}

-- 10 times `(`, a name, and as many `)`
few_parens : answer 12 (many mark.OPEN_PAREN 10 0 (name_at (120 ∷ []) 10 11 false ∷ many mark.CLOSE_PAREN 10 11 (end_at 21 false ∷ []))) ≡ Accepted
unfolding answer
few_parens = refl

-- one more of each
few_parens_more : answer 12 (many mark.OPEN_PAREN 11 0 (name_at (120 ∷ []) 11 12 false ∷ many mark.CLOSE_PAREN 11 12 (end_at 23 false ∷ []))) ≡ TooDeep 11
unfolding answer
few_parens_more = refl

-- 12 times `{`, and as many `}`
few_braces : answer 12 (many mark.OPEN_BRACE 12 0 (many mark.CLOSE_BRACE 12 12 (end_at 24 false ∷ []))) ≡ Accepted
unfolding answer
few_braces = refl

-- one more of each
few_braces_more : answer 12 (many mark.OPEN_BRACE 13 0 (many mark.CLOSE_BRACE 13 13 (end_at 26 false ∷ []))) ≡ TooDeep 12
unfolding answer
few_braces_more = refl

-- 11 times `(`, and `...a) => 1`
few_rest : answer 12 (many mark.OPEN_PAREN 11 0 (mark_at mark.ELLIPSIS 11 14 false ∷ name_at (97 ∷ []) 14 15 false ∷ mark_at mark.CLOSE_PAREN 15 16 false ∷ mark_at mark.ARROW 17 19 false ∷ number_at 1 20 21 false ∷ end_at 21 false ∷ [])) ≡ TooDeep 11
unfolding answer
few_rest = refl

-- 398 times `(`, a name, and as many `)`
all_parens : answer 400 (many mark.OPEN_PAREN 398 0 (name_at (120 ∷ []) 398 399 false ∷ many mark.CLOSE_PAREN 398 399 (end_at 797 false ∷ []))) ≡ Accepted
unfolding answer
all_parens = refl

-- one more of each
all_parens_more : answer 400 (many mark.OPEN_PAREN 399 0 (name_at (120 ∷ []) 399 400 false ∷ many mark.CLOSE_PAREN 399 400 (end_at 799 false ∷ []))) ≡ TooDeep 399
unfolding answer
all_parens_more = refl

-- 400 times `{`, and as many `}`
all_braces : answer 400 (many mark.OPEN_BRACE 400 0 (many mark.CLOSE_BRACE 400 400 (end_at 800 false ∷ []))) ≡ Accepted
unfolding answer
all_braces = refl

-- one more of each
all_braces_more : answer 400 (many mark.OPEN_BRACE 401 0 (many mark.CLOSE_BRACE 401 401 (end_at 802 false ∷ []))) ≡ TooDeep 400
unfolding answer
all_braces_more = refl

-- 399 times `(`, and `...a) => 1`
all_rest : answer 400 (many mark.OPEN_PAREN 399 0 (mark_at mark.ELLIPSIS 399 402 false ∷ name_at (97 ∷ []) 402 403 false ∷ mark_at mark.CLOSE_PAREN 403 404 false ∷ mark_at mark.ARROW 405 407 false ∷ number_at 1 408 409 false ∷ end_at 409 false ∷ [])) ≡ TooDeep 399
unfolding answer
all_rest = refl
