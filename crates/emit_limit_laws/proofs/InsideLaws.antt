-- Functions in parts that are put together.
use Rattle.std.proofs.Common.{◌≡◌, ◌∙◌, ℕ, ◌+◌, ◌*◌, ◌≤◌, List, [], ◌∷◌, ◌++◌, length, sym, ap, subst, append_assoc, append-nil}
use Rattle.script_grammar.specs.Pieces.{whole, Piece, from, glue, until}
use Rattle.script_grammar.specs.Print.{print_function}
use Rattle.script_grammar.specs.Proper.{ProperFunction}
use Rattle.parse_track.specs.declared.region.Early.{Early}
use Rattle.parse_track.specs.Notes.{notes_function}
use Rattle.scope_analysis.specs.Functions.{Inner}
use Rattle.grammar_start_laws.specs.Started.{Started, started_function}
use Rattle.emit_limit_laws.specs.Places.{depths_of}
use Rattle.emit_limit_laws.specs.Inside.{Cut, InnerIn, Inside}
use Rattle.emit_limit_laws.proofs.Measures.{depths_both, depths_from, depths_glue, depths_until}

-- ---- one cut

all_of : {A : Type 0} (xs : List A) → Cut xs xs []
all_of xs = record { front = []; is = sym (append-nil xs) }

cut_before : {A : Type 0} {all part back : List A} (xs : List A) → Cut all part back → Cut (xs ++ all) part back
cut_before {part = part} {back = back} xs c = record { front = xs ++ c.front; is = ap (λ ys. xs ++ ys) c.is ∙ sym (append_assoc xs c.front (part ++ back)) }

cut_after : {A : Type 0} {all part back : List A} (xs : List A) → Cut all part back → Cut (all ++ xs) part (back ++ xs)
cut_after {part = part} {back = back} xs c = record { front = c.front; is = ap (λ ys. ys ++ xs) c.is ∙ append_assoc c.front (part ++ back) xs ∙ ap (λ ys. c.front ++ ys) (append_assoc part back xs) }

-- ---- functions in lists

widened : (c : ℕ) (is : List Inner) (p q : List ℕ) (fs gs : List Started) (ns ms : List Early) → InnerIn c is p fs ns → InnerIn c is (q ++ p) (gs ++ fs) (ms ++ ns)
widened c [] p q fs gs ns ms h = tt
widened c (i ∷ is) p q fs gs ns ms h =
    (h.0, h.1, h.2, record { depth = h.3.depth; around = h.3.around; proper = h.3.proper; printed = cut_before q h.3.printed; started = cut_before gs h.3.started; noted = cut_before ms h.3.noted }, h.4)

joined : (c : ℕ) (is js : List Inner) (p q : List ℕ) (fs gs : List Started) (ns ms : List Early) → InnerIn c is p fs ns → InnerIn c js q gs ms → InnerIn c (is ++ js) (p ++ q) (fs ++ gs) (ns ++ ms)
joined c [] js p q fs gs ns ms h k = widened c js q p gs fs ms ns k
joined c (i ∷ is) js p q fs gs ns ms h k =
    (h.0 ++ q, h.1 ++ gs, h.2 ++ ms, record { depth = h.3.depth; around = h.3.around; proper = h.3.proper; printed = cut_after q h.3.printed; started = cut_after gs h.3.started; noted = cut_after ms h.3.noted }, joined c is js h.0 q h.1 gs h.2 ms h.4 k)

longer : (c : ℕ) (is : List Inner) (p q : List ℕ) (fs : List Started) (ns : List Early) → InnerIn c is p fs ns → InnerIn c is (p ++ q) fs ns
longer c [] p q fs ns h = tt
longer c (i ∷ is) p q fs ns h =
    (h.0 ++ q, h.1, h.2, record { depth = h.3.depth; around = h.3.around; proper = h.3.proper; printed = cut_after q h.3.printed; started = h.3.started; noted = h.3.noted }, longer c is h.0 q h.1 h.2 h.4)

-- ---- functions in pieces

pub none : {c : ℕ} {ps : List Piece} {fs : List Started} {ns : List Early} → Inside c [] ps fs ns
none = record { found = tt }

alike : {c : ℕ} {is : List Inner} {ps qs : List Piece} {fs : List Started} {ns : List Early} → depths_of qs ≡ depths_of ps → Inside c is ps fs ns → Inside c is qs fs ns
alike {c} {is} {fs = fs} {ns = ns} e h = record { found = subst (λ p. InnerIn c is p fs ns) (sym e) h.found }

pub both : {c : ℕ} {is js : List Inner} {ps qs : List Piece} {fs gs : List Started} {ns ms : List Early} → Inside c is ps fs ns → Inside c js qs gs ms → Inside c (is ++ js) (ps ++ qs) (fs ++ gs) (ns ++ ms)
both {c} {is} {js} {ps} {qs} {fs} {gs} {ns} {ms} h k =
    record { found = subst (λ p. InnerIn c (is ++ js) p (fs ++ gs) (ns ++ ms)) (sym (depths_both ps qs)) (joined c is js (depths_of ps) (depths_of qs) fs gs ns ms h.found k.found) }

pub before : {c : ℕ} {is : List Inner} {ps : List Piece} {fs : List Started} {ns : List Early} (qs : List Piece) → Inside c is ps fs ns → Inside c is (qs ++ ps) fs ns
before {c} {is} {ps} {fs} {ns} qs h =
    record { found = subst (λ p. InnerIn c is p fs ns) (sym (depths_both qs ps)) (widened c is (depths_of ps) (depths_of qs) fs [] ns [] h.found) }

pub past : {c : ℕ} {is : List Inner} {ps : List Piece} {fs : List Started} {ns : List Early} {p : Piece} → Inside c is ps fs ns → Inside c is (p ∷ ps) fs ns
past {p = p} h = before (p ∷ []) h

pub after : {c : ℕ} {is : List Inner} {ps : List Piece} {fs : List Started} {ns : List Early} (qs : List Piece) → Inside c is ps fs ns → Inside c is (ps ++ qs) fs ns
after {c} {is} {ps} {fs} {ns} qs h =
    record { found = subst (λ p. InnerIn c is p fs ns) (sym (depths_both ps qs)) (longer c is (depths_of ps) (depths_of qs) fs ns h.found) }

pub noted : {c : ℕ} {is : List Inner} {ps : List Piece} {fs : List Started} {ns : List Early} (ms : List Early) → Inside c is ps fs ns → Inside c is ps fs (ms ++ ns)
noted {c} {is} {ps} {fs} {ns} ms h = record { found = widened c is (depths_of ps) [] fs [] ns ms h.found }

-- what else is asked of the first or the last piece takes no function away
pub inside_from : {c : ℕ} {is : List Inner} {ps : List Piece} {fs : List Started} {ns : List Early} (n : ℕ) → Inside c is ps fs ns → Inside c is (from n ps) fs ns
inside_from {ps = ps} n h = alike (depths_from n ps) h

pub inside_glue : {c : ℕ} {is : List Inner} {ps : List Piece} {fs : List Started} {ns : List Early} → Inside c is ps fs ns → Inside c is (glue ps) fs ns
inside_glue {ps = ps} h = alike (depths_glue ps) h

pub inside_until : {c : ℕ} {is : List Inner} {ps : List Piece} {fs : List Started} {ns : List Early} (n : ℕ) → Inside c is ps fs ns → Inside c is (until n ps) fs ns
inside_until {ps = ps} n h = alike (depths_until n ps) h

-- three and four parts, listed from the left
pub three : {c : ℕ} {is js ks : List Inner} {ps qs rs : List Piece} {fs gs hs : List Started} {ns ms ls : List Early} (p : Piece)
    → Inside c is ps fs ns → Inside c js qs gs ms → Inside c ks rs hs ls → Inside c ((is ++ js) ++ ks) (ps ++ (p ∷ (qs ++ rs))) (fs ++ (gs ++ hs)) (ns ++ (ms ++ ls))
three {c} {is} {js} {ks} {ps} {qs} {rs} {fs} {gs} {hs} {ns} {ms} {ls} p h k l =
    record { found = subst (λ xs. InnerIn c xs (depths_of (ps ++ (p ∷ (qs ++ rs)))) (fs ++ (gs ++ hs)) (ns ++ (ms ++ ls))) (sym (append_assoc is js ks)) (both h (past {p = p} (both k l))).found }

pub four : {c : ℕ} {is js ks xs : List Inner} {ps qs rs ss : List Piece} {fs gs hs es : List Started} {ns ms ls us : List Early} (p q : Piece)
    → Inside c is ps fs ns → Inside c js qs gs ms → Inside c ks rs hs ls → Inside c xs ss es us
    → Inside c (((is ++ js) ++ ks) ++ xs) (ps ++ (p ∷ (qs ++ (q ∷ (rs ++ ss))))) (fs ++ (gs ++ (hs ++ es))) (ns ++ (ms ++ (ls ++ us)))
four {c} {is} {js} {ks} {xs} {ps} {qs} {rs} {ss} {fs} {gs} {hs} {es} {ns} {ms} {ls} {us} p q h k l m =
    record { found = subst (λ ys. InnerIn c ys (depths_of (ps ++ (p ∷ (qs ++ (q ∷ (rs ++ ss)))))) (fs ++ (gs ++ (hs ++ es))) (ns ++ (ms ++ (ls ++ us)))) (sym (append_assoc (is ++ js) ks xs)) (three p h k (past {p = q} (both l m))).found }

-- one function
pub alone : {c : ℕ} (d : ℕ) (i : Inner) → ProperFunction whole i.func → length i.around + c ≤ 4 * d → Inside c (i ∷ []) (print_function whole d i.func) (started_function i.func) (notes_function i.func)
alone {c} d i p h =
    record { found = ([], [], [], record { depth = d; around = h; proper = p; printed = all_of (depths_of (print_function whole d i.func)); started = all_of (started_function i.func); noted = all_of (notes_function i.func) }, tt) }
