-- A fault at a lexeme: no list of lexemes that begins as these do, up to and including this one, is read.
use Rattle.std.proofs.Common.{◌≡◌, ℕ, List, [], ◌∷◌, ◌++◌, length, refl, sym, ap, ◌∙◌, arith, append_assoc, length-append, cond, nat_lt, Bool, true, false}
use Rattle.script_grammar.specs.Lexeme.{Lexeme}
use Rattle.grammar_parser_specs.specs.Parser.{Reply, Read, Bad, Deep, Parser}
use Rattle.grammar_parser_laws.proofs.Local.{Local, Same, out, kept, left, grown}
use Rattle.grammar_parser_laws.proofs.Stands.{Marked, lexemes}
use Rattle.grammar_parser_laws.proofs.Complete.{Parses, cut, bare}

nil_from : (us r : List Lexeme) → us ++ r ≡ r → us ≡ []
nil_from [] r e = refl
nil_from (u ∷ us) r e = absurd (omega (arith, ap length e, length-append us r))

-- a list that ends as another is one lexeme longer is that lexeme
pub one_from : (us : List Lexeme) (x : Lexeme) (r : List Lexeme) → us ++ r ≡ x ∷ r → us ≡ x ∷ []
one_from [] x r e = absurd (omega (arith, ap length e))
one_from (u ∷ us) x r e = cc (nil_from us r (rest_same e))
  where
    rest_same : (u ∷ (us ++ r)) ≡ x ∷ r → us ++ r ≡ r
    rest_same e = cc

bad_rest : (A : Type 0) (us : List Lexeme) (x : Lexeme) (r : List Lexeme) → ◌≡◌ {A = Reply A} (Bad [] (x ∷ r)) (Bad [] (us ++ r)) → us ++ r ≡ x ∷ r
bad_rest A us x r e = cc

-- the reply to the lexemes up to and including the fault's
bad_short : {A : Type 0} (x : Lexeme) (r : List Lexeme) (s : Reply A) → bare (grown r s) ≡ Bad [] (x ∷ r) → bare s ≡ Bad [] (x ∷ [])
bad_short x r (Read a rs us) e = cc
bad_short {A} x r (Bad rs us) e = ap (λ y. Bad [] y) (one_from us x r (bad_rest A us x r (sym e)))
bad_short x r (Deep rs us) e = cc

pub left_bare : {A : Type 0} (s : Reply A) → left (bare s) ≡ left s
left_bare (Read a rs us) = refl
left_bare (Bad rs us) = refl
left_bare (Deep rs us) = refl

fault_here : {A : Type 0} (x : Lexeme) (r : List Lexeme) (s t : Reply A) → Same r s t → bare t ≡ Bad [] (x ∷ r) → bare s ≡ Bad [] (x ∷ [])
fault_here x r s t (kept k) e = bad_short x r s (ap bare (sym k) ∙ e)
fault_here x r s t (out z h) e = absurd (omega (arith, h, ap length (left_bare t), ap (λ y. length (left y)) e))

bad_long : {A : Type 0} (r : List Lexeme) (x : Lexeme) (s : Reply A) → bare s ≡ Bad [] (x ∷ []) → bare (grown r s) ≡ Bad [] (x ∷ r)
bad_long r x (Read a rs us) e = cc
bad_long {A} r x (Bad rs us) e = ap (λ y. Bad [] (y ++ r)) (same_left e)
  where
    same_left : ◌≡◌ {A = Reply A} (Bad [] us) (Bad [] (x ∷ [])) → us ≡ x ∷ []
    same_left e = cc
bad_long r x (Deep rs us) e = cc

fault_there : {A : Type 0} (x : Lexeme) (r : List Lexeme) (s t : Reply A) → Same r s t → bare s ≡ Bad [] (x ∷ []) → bare t ≡ Bad [] (x ∷ r)
fault_there x r s t (kept k) e = ap bare k ∙ bad_long r x s e
fault_there x r s t (out z h) e = absurd (omega (arith, z, ap length (left_bare s), ap (λ y. length (left y)) e))

-- the same fault, whatever follows
pub bad_again : {A : Type 0} (f : Parser A) → Local f → (p : List Lexeme) (x : Lexeme) (r r2 : List Lexeme) → bare (f (p ++ x ∷ r)) ≡ Bad [] (x ∷ r) → bare (f (p ++ x ∷ r2)) ≡ Bad [] (x ∷ r2)
bad_again f l p x r r2 e =
    let h : bare (f (p ++ x ∷ [])) ≡ Bad [] (x ∷ []) = fault_here x r (f (p ++ x ∷ [])) (f ((p ++ x ∷ []) ++ r)) (l.same (p ++ x ∷ []) r) (ap (λ y. bare (f y)) (append_assoc p (x ∷ []) r) ∙ e) in
    ap (λ y. bare (f y)) (sym (append_assoc p (x ∷ []) r2)) ∙ fault_there x r2 (f (p ++ x ∷ [])) (f ((p ++ x ∷ []) ++ r2)) (l.same (p ++ x ∷ []) r2) h

either_bad : {A : Type 0} (b : Bool) (ts : List Lexeme) (r : Reply A) (us : List Lexeme) → (r ≡ Bad [] us → ⊥) → cond b (Deep [] ts) r ≡ Bad [] us → ⊥
either_bad true ts r us h e = cc
either_bad false ts r us h e = h e

pub cut_no_bad : {A : Type 0} (limit : ℕ) (w : List Marked) (q : List Lexeme) (a : A) (v us : List Lexeme) → cut limit w q (Read a [] v) ≡ Bad [] us → ⊥
cut_no_bad limit [] q a v us e = cc
cut_no_bad limit (x ∷ w) q a v us e = either_bad (nat_lt limit x.depth) (x.lexeme ∷ (lexemes w ++ q)) (cut limit w q (Read a [] v)) us (cut_no_bad limit w q a v us) e

-- no lexemes of a tree begin as those up to and including the fault's
pub refuse : {A : Type 0} (limit : ℕ) (f : Parser A) → Local f → (p : List Lexeme) (x : Lexeme) (r r2 : List Lexeme) → bare (f (p ++ x ∷ r)) ≡ Bad [] (x ∷ r) → (w : List Marked) (q : List Lexeme) (a : A) → Parses limit f w q a → lexemes w ++ q ≡ p ++ x ∷ r2 → ⊥
refuse limit f l p x r r2 e w q a h s = cut_no_bad limit w q a q (x ∷ r2) (sym h.by ∙ ap (λ y. bare (f y)) s ∙ bad_again f l p x r r2 e)

-- The same for a fault that is too deep: the reply is the same, whatever follows.

deep_rest : (A : Type 0) (us : List Lexeme) (x : Lexeme) (r : List Lexeme) → ◌≡◌ {A = Reply A} (Deep [] (x ∷ r)) (Deep [] (us ++ r)) → us ++ r ≡ x ∷ r
deep_rest A us x r e = cc

deep_short : {A : Type 0} (x : Lexeme) (r : List Lexeme) (s : Reply A) → bare (grown r s) ≡ Deep [] (x ∷ r) → bare s ≡ Deep [] (x ∷ [])
deep_short x r (Read a rs us) e = cc
deep_short x r (Bad rs us) e = cc
deep_short {A} x r (Deep rs us) e = ap (λ y. Deep [] y) (one_from us x r (deep_rest A us x r (sym e)))

deep_here : {A : Type 0} (x : Lexeme) (r : List Lexeme) (s t : Reply A) → Same r s t → bare t ≡ Deep [] (x ∷ r) → bare s ≡ Deep [] (x ∷ [])
deep_here x r s t (kept k) e = deep_short x r s (ap bare (sym k) ∙ e)
deep_here x r s t (out z h) e = absurd (omega (arith, h, ap length (left_bare t), ap (λ y. length (left y)) e))

deep_long : {A : Type 0} (r : List Lexeme) (x : Lexeme) (s : Reply A) → bare s ≡ Deep [] (x ∷ []) → bare (grown r s) ≡ Deep [] (x ∷ r)
deep_long r x (Read a rs us) e = cc
deep_long r x (Bad rs us) e = cc
deep_long {A} r x (Deep rs us) e = ap (λ y. Deep [] (y ++ r)) (same_left e)
  where
    same_left : ◌≡◌ {A = Reply A} (Deep [] us) (Deep [] (x ∷ [])) → us ≡ x ∷ []
    same_left e = cc

deep_there : {A : Type 0} (x : Lexeme) (r : List Lexeme) (s t : Reply A) → Same r s t → bare s ≡ Deep [] (x ∷ []) → bare t ≡ Deep [] (x ∷ r)
deep_there x r s t (kept k) e = ap bare k ∙ deep_long r x s e
deep_there x r s t (out z h) e = absurd (omega (arith, z, ap length (left_bare s), ap (λ y. length (left y)) e))

pub deep_again : {A : Type 0} (f : Parser A) → Local f → (p : List Lexeme) (x : Lexeme) (r r2 : List Lexeme) → bare (f (p ++ x ∷ r)) ≡ Deep [] (x ∷ r) → bare (f (p ++ x ∷ r2)) ≡ Deep [] (x ∷ r2)
deep_again f l p x r r2 e =
    let h : bare (f (p ++ x ∷ [])) ≡ Deep [] (x ∷ []) = deep_here x r (f (p ++ x ∷ [])) (f ((p ++ x ∷ []) ++ r)) (l.same (p ++ x ∷ []) r) (ap (λ y. bare (f y)) (append_assoc p (x ∷ []) r) ∙ e) in
    ap (λ y. bare (f y)) (sym (append_assoc p (x ∷ []) r2)) ∙ deep_there x r2 (f (p ++ x ∷ [])) (f ((p ++ x ∷ []) ++ r2)) (l.same (p ++ x ∷ []) r2) h
