-- What is read is as long as can be: after an AssignmentExpression or an Expression that was read, the next token makes no
-- beginning of such a part. With bodies read in place, and passed over.
use Rattle.std.proofs.Common.{◌≡◌, ℕ, suc, ◌+◌, List, [], ◌∷◌, ◌++◌, length, sym, ap, ◌∙◌, arith, append_assoc, append-nil, Bool}
use Rattle.script_grammar.specs.Lexeme.{Lexeme}
use Rattle.script_grammar.specs.Tree.{Expr, Body}
use Rattle.script_grammar.specs.Pieces.{Piece, whole, passed, Fits}
use Rattle.script_grammar.specs.Print.{print}
use Rattle.script_grammar.specs.Fault.{depth_limit, Part, Begins, AssignPart, ExpressionPart}
use Rattle.grammar_parser_specs.specs.Parser.{Reply, Read, Bad, Deep, Parser, end_lexeme}
use Rattle.grammar_parser_laws.proofs.Friendly.{end_friendly}
use Rattle.grammar_parser_laws.proofs.Local.{Local, Same, out, kept, left, grown}
use Rattle.grammar_parser_laws.proofs.Stands.{Marked, lexemes, Stands, fits_standing}
use Rattle.grammar_parser_laws.proofs.Complete.{Parses, bare}
use Rattle.grammar_script_laws.proofs.Refuse.{one_from, left_bare}
use Rattle.grammar_script_laws.proofs.PartLaws.{stands_friendly, cut_read}
use Rattle.grammar_deferred_laws.proofs.AloneLaws as eager
use Rattle.grammar_deferred_laws.proofs.PassedParts as lazy
use Rattle.grammar_local_laws.proofs.PassingLaws.{AreBraced}

-- what is read before a lexeme is so whatever follows

read_rest : {A : Type 0} (a e : A) (us : List Lexeme) (x : Lexeme) (r : List Lexeme) → ◌≡◌ {A = Reply A} (Read a [] (us ++ r)) (Read e [] (x ∷ r)) → (a ≡ e) × (us ++ r ≡ x ∷ r)
read_rest a e us x r k = (cc, cc)

read_short : {A : Type 0} (e : A) (x : Lexeme) (r : List Lexeme) (s : Reply A) → bare (grown r s) ≡ Read e [] (x ∷ r) → bare s ≡ Read e [] (x ∷ [])
read_short e x r (Read a rs us) k = let h = read_rest a e us x r k in ap (λ y. Read y [] us) h.0 ∙ ap (λ y. Read e [] y) (one_from us x r h.1)
read_short e x r (Bad rs us) k = cc
read_short e x r (Deep rs us) k = cc

read_here : {A : Type 0} (e : A) (x : Lexeme) (r : List Lexeme) (s t : Reply A) → Same r s t → bare t ≡ Read e [] (x ∷ r) → bare s ≡ Read e [] (x ∷ [])
read_here e x r s t (kept k) h = read_short e x r s (ap bare (sym k) ∙ h)
read_here e x r s t (out z i) h = absurd (omega (arith, i, ap length (left_bare t), ap (λ y. length (left y)) h))

read_long : {A : Type 0} (e : A) (r : List Lexeme) (x : Lexeme) (s : Reply A) → bare s ≡ Read e [] (x ∷ []) → bare (grown r s) ≡ Read e [] (x ∷ r)
read_long {A = A} e r x (Read a rs us) k = ap (λ y. Read y [] (us ++ r)) (same_value k) ∙ ap (λ y. Read e [] (y ++ r)) (same_left k)
  where
    same_value : ◌≡◌ {A = Reply A} (Read a [] us) (Read e [] (x ∷ [])) → a ≡ e
    same_value k = cc

    same_left : ◌≡◌ {A = Reply A} (Read a [] us) (Read e [] (x ∷ [])) → us ≡ x ∷ []
    same_left k = cc
read_long e r x (Bad rs us) k = cc
read_long e r x (Deep rs us) k = cc

read_there : {A : Type 0} (e : A) (x : Lexeme) (r : List Lexeme) (s t : Reply A) → Same r s t → bare s ≡ Read e [] (x ∷ []) → bare t ≡ Read e [] (x ∷ r)
read_there e x r s t (kept k) h = ap bare k ∙ read_long e r x s h
read_there e x r s t (out z i) h = absurd (omega (arith, z, ap length (left_bare s), ap (λ y. length (left y)) h))

pub read_again : {A : Type 0} (f : Parser A) → Local f → (p : List Lexeme) (x : Lexeme) (r r2 : List Lexeme) (e : A) → bare (f (p ++ x ∷ r)) ≡ Read e [] (x ∷ r) → bare (f (p ++ x ∷ r2)) ≡ Read e [] (x ∷ r2)
read_again f l p x r r2 e k =
    let h : bare (f (p ++ x ∷ [])) ≡ Read e [] (x ∷ []) = read_here e x r (f (p ++ x ∷ [])) (f ((p ++ x ∷ []) ++ r)) (l.same (p ++ x ∷ []) r) (ap (λ y. bare (f y)) (append_assoc p (x ∷ []) r) ∙ k) in
    ap (λ y. bare (f y)) (sym (append_assoc p (x ∷ []) r2)) ∙ read_there e x r2 (f (p ++ x ∷ [])) (f ((p ++ x ∷ []) ++ r2)) (l.same (p ++ x ∷ []) r2) h

-- A parser that reads all lexemes of such a part leaves none.

read_none : {A : Type 0} (a e : A) (x : Lexeme) (r : List Lexeme) → ◌≡◌ {A = Reply A} (Read a [] []) (Read e [] (x ∷ r)) → ⊥
read_none a e x r k = cc

none_left : {A : Type 0} (f : Parser A) (ps : List Piece) (w : List Lexeme) (n : Lexeme) → Fits ps w n → (a : A) → ((m : List Marked) → Stands ps m end_lexeme → Parses depth_limit f m [] a) → (x : Lexeme) (r : List Lexeme) (e : A) → bare (f w) ≡ Read e [] (x ∷ r) → ⊥
none_left f ps w n h a c x r e k =
    let s = fits_standing ps w n h in
    read_none a e x r (cut_read s.marked [] (Read a [] []) e (x ∷ r) (sym (c s.marked (stands_friendly ps s.marked n end_lexeme end_friendly s.stands)).by ∙ ap (λ y. bare (f y)) (append-nil (lexemes s.marked) ∙ s.lexemes_are) ∙ k)).1

longest : {A : Type 0} (P : Part) (f : Parser A) → Local f → ((w : List Lexeme) (deep : List ℕ) → P w deep → (x : Lexeme) (r : List Lexeme) (e : A) → bare (f w) ≡ Read e [] (x ∷ r) → ⊥) → (front : List Lexeme) (x : Lexeme) (r : List Lexeme) (e : A) → bare (f (front ++ x ∷ r)) ≡ Read e [] (x ∷ r) → Begins P (front ++ x ∷ []) → ⊥
longest P f l h front x r e k b = h ((front ++ x ∷ []) ++ b.end) b.deep b.is x b.end e (ap (λ y. bare (f y)) (append_assoc front (x ∷ []) b.end) ∙ read_again f l front x r b.end e k)

-- bodies read in place

pub assign_is_longest : (room d : ℕ) → room + d ≡ depth_limit → (w : Bool) (front : List Lexeme) (x : Lexeme) (r : List Lexeme) (e : Expr) → bare (eager.read_assign room w (front ++ x ∷ r)) ≡ Read e [] (x ∷ r) → Begins (AssignPart whole w d) (front ++ x ∷ []) → ⊥
assign_is_longest room d q w front x r e k b =
    longest (AssignPart whole w d) (eager.read_assign room w) (eager.assign_decides room d q w).local
    (λ u deep p. none_left (eager.read_assign room w) (print whole (suc d) p.tree) u p.next p.is.fits p.tree (λ m s. (eager.assign_complete depth_limit room d q w p.next u p.tree p.is).at m [] s (eager.no_assign w p.tree)))
    front x r e k b

pub expression_is_longest : (room d : ℕ) → room + d ≡ depth_limit → (w : Bool) (front : List Lexeme) (x : Lexeme) (r : List Lexeme) (e : Expr) → bare (eager.read_expression room w (front ++ x ∷ r)) ≡ Read e [] (x ∷ r) → Begins (ExpressionPart whole w d) (front ++ x ∷ []) → ⊥
expression_is_longest room d q w front x r e k b =
    longest (ExpressionPart whole w d) (eager.read_expression room w) (eager.expression_decides room d q w).local
    (λ u deep p. none_left (eager.read_expression room w) (print whole (suc d) p.tree) u p.next p.is.fits p.tree (λ m s. (eager.expression_complete depth_limit room d q w p.next u p.tree p.is).at m [] s (eager.no_expr w p.tree)))
    front x r e k b

-- bodies passed over

module _ (bodies : ℕ → Body) (braced : AreBraced bodies) where
  pub passed_assign_is_longest : (room d : ℕ) → room + d ≡ depth_limit → (w : Bool) (front : List Lexeme) (x : Lexeme) (r : List Lexeme) (e : Expr) → bare (lazy.pass_assign bodies braced room w (front ++ x ∷ r)) ≡ Read e [] (x ∷ r) → Begins (AssignPart passed w d) (front ++ x ∷ []) → ⊥
  passed_assign_is_longest room d q w front x r e k b =
      longest (AssignPart passed w d) (lazy.pass_assign bodies braced room w) (lazy.assign_decides bodies braced room d q w).local
      (λ u deep p. none_left (lazy.pass_assign bodies braced room w) (print passed (suc d) p.tree) u p.next p.is.fits _ (λ m s. (lazy.assign_complete bodies braced depth_limit room d q w p.next u p.tree p.is).at m [] s (lazy.no_assign w p.tree)))
      front x r e k b

  pub passed_expression_is_longest : (room d : ℕ) → room + d ≡ depth_limit → (w : Bool) (front : List Lexeme) (x : Lexeme) (r : List Lexeme) (e : Expr) → bare (lazy.pass_expression bodies braced room w (front ++ x ∷ r)) ≡ Read e [] (x ∷ r) → Begins (ExpressionPart passed w d) (front ++ x ∷ []) → ⊥
  passed_expression_is_longest room d q w front x r e k b =
      longest (ExpressionPart passed w d) (lazy.pass_expression bodies braced room w) (lazy.expression_decides bodies braced room d q w).local
      (λ u deep p. none_left (lazy.pass_expression bodies braced room w) (print passed (suc d) p.tree) u p.next p.is.fits _ (λ m s. (lazy.expression_complete bodies braced depth_limit room d q w p.next u p.tree p.is).at m [] s (lazy.no_expr w p.tree)))
      front x r e k b
