-- An AssignmentExpression or an Expression that is all of the lexemes before a fault would have been read, where bodies are
-- passed over and no lexeme of it is too deep.
use Rattle.std.proofs.Common.{◌≡◌, ℕ, suc, ◌+◌, List, [], ◌∷◌, ◌++◌, length, sym, ap, ◌∙◌, subst, arith, append-nil, Bool, ◌⊎◌, inl, inr}
use Rattle.script_grammar.specs.Lexeme.{Lexeme}
use Rattle.script_grammar.specs.Tree.{Body}
use Rattle.script_grammar.specs.Pieces.{Piece, passed, Fits, depths}
use Rattle.script_grammar.specs.Print.{print}
use Rattle.script_grammar.specs.Fault.{depth_limit, AssignPart, ExpressionPart}
use Rattle.grammar_parser_specs.specs.Parser.{Reply, Read, Bad, Deep, Parser, end_lexeme}
use Rattle.grammar_parser_specs.specs.Exprs.{Env, Calls, AnAssign, calls, passing, expr_of}
use Rattle.grammar_local_laws.proofs.AgreesScripts.{calls_are}
use Rattle.grammar_parser_laws.proofs.Friendly.{end_friendly}
use Rattle.grammar_parser_laws.proofs.Stands.{Marked, lexemes, Stands, fits_standing}
use Rattle.grammar_parser_laws.proofs.Complete.{Parses, bare}
use Rattle.grammar_script_laws.proofs.PartLaws.{NoneDeep, stands_friendly, cut_none}
use Rattle.grammar_parser_laws.proofs.Local.{left}
use Rattle.grammar_local_laws.proofs.LocalCalls.{local_room}
use Rattle.grammar_deferred_laws.proofs.PassedParts as lazy
use Rattle.grammar_local_laws.proofs.PassingLaws.{AreBraced, passing_sound, passing_local}
use Rattle.grammar_script_laws.proofs.Refuse.{left_bare}
use Rattle.grammar_local_laws.proofs.Steady.{Goes, Steady, SteadyEnv, expr_steady}
use Rattle.grammar_local_laws.proofs.SteadyCalls.{calls_steady, passing_steady, passing_none}

-- a fault at these lexemes
abbrev pub FaultsAt : {A : Type 0} → Parser A → (ts us : List Lexeme) → Type 0
FaultsAt f ts us = (bare (f ts) ≡ Bad [] us) ⊎ (bare (f ts) ≡ Deep [] us)

-- a part that is all of the lexemes is read
whole_read : {A : Type 0} (f : Parser A) (ps : List Piece) (w : List Lexeme) (n : Lexeme) (h : Fits ps w n) → NoneDeep (depths ps w n h) → (a : A) → ((m : List Marked) → Stands ps m end_lexeme → Parses depth_limit f m [] a) → bare (f w) ≡ Read a [] []
whole_read f ps w n h k a c =
    let s = fits_standing ps w n h in
    ap (λ y. bare (f y)) (sym s.lexemes_are ∙ sym (append-nil (lexemes s.marked)))
    ∙ (c s.marked (stands_friendly ps s.marked n end_lexeme end_friendly s.stands)).by
    ∙ cut_none s.marked [] (Read a [] []) (subst NoneDeep (sym s.depths_are) k)

left_of : {A : Type 0} (r : Reply A) (us : List Lexeme) → (bare r ≡ Bad [] us) ⊎ (bare r ≡ Deep [] us) → left r ≡ us
left_of r us (inl e) = sym (left_bare r) ∙ ap left e
left_of r us (inr e) = sym (left_bare r) ∙ ap left e

never_read : {A : Type 0} (a : A) (r : Reply A) (us vs : List Lexeme) → bare r ≡ Read a [] vs → (bare r ≡ Bad [] us) ⊎ (bare r ≡ Deep [] us) → ⊥
never_read {A = A} a r us vs h (inl e) = no (sym h ∙ e)
  where
    no : ◌≡◌ {A = Reply A} (Read a [] vs) (Bad [] us) → ⊥
    no k = cc
never_read {A = A} a r us vs h (inr e) = no (sym h ∙ e)
  where
    no : ◌≡◌ {A = Reply A} (Read a [] vs) (Deep [] us) → ⊥
    no k = cc

not_there : {A : Type 0} (q : List Lexeme) (a : A) (s t : Reply A) → Goes q s t → bare s ≡ Read a [] [] → (bare t ≡ Bad [] q) ⊎ (bare t ≡ Deep [] q) → ⊥
not_there q a (Read b rs []) t (inl h) e f = never_read b t q q (ap bare h.1) f
not_there q a (Read b rs []) t (inr h) e f = absurd (omega (arith, h, ap length (left_of t q f)))
not_there {A = A} q a (Read b rs (u ∷ us)) t h e f = no e
  where
    no : ◌≡◌ {A = Reply A} (Read b [] (u ∷ us)) (Read a [] []) → ⊥
    no k = cc
not_there q a (Bad rs us) t h e f = cc
not_there q a (Deep rs us) t h e f = cc

not_before : {A : Type 0} (f : Parser A) → Steady f → (a : A) (w us : List Lexeme) → bare (f w) ≡ Read a [] [] → FaultsAt f (w ++ us) us → ⊥
not_before f h a w [] e k = never_read a (f w) [] [] e (subst (λ y. FaultsAt f y []) (append-nil w) k)
not_before f h a w (x ∷ r) e k = not_there (x ∷ r) a (f w) (f (w ++ x ∷ r)) (h.at w x r) e k

module _ (bodies : ℕ → Body) (braced : AreBraced bodies) where
  steady_env : (room : ℕ) → SteadyEnv (record { sub = calls (passing bodies) room; body = passing bodies room })
  steady_env room = calls_steady passed (passing bodies) (λ r d. passing_sound bodies braced d r) (λ r f start simple. passing_local bodies r f start simple) (λ r f start simple. passing_steady bodies r f start simple) (λ r f start simple. passing_none bodies r f start simple) room

  same_env : (room : ℕ) → ◌≡◌ {A = Env} (record { sub = calls (passing bodies) room; body = passing bodies room }) (lazy.pass_env bodies braced room)
  same_env room = ap (λ (s : Calls). record { sub = s; body = passing bodies room }) (λ j c. sym (calls_are (passing bodies) room c) j)

  pass_assign_steady : (room : ℕ) (w : Bool) → Steady (lazy.pass_assign bodies braced room w)
  pass_assign_steady room w = subst (λ (v : Env). Steady (v.sub (AnAssign w))) (same_env room) ((steady_env room).assign w)

  pass_expression_steady : (room : ℕ) (w : Bool) → Steady (lazy.pass_expression bodies braced room w)
  pass_expression_steady room w = subst (λ (v : Env). Steady (expr_of v w)) (same_env room) (expr_steady (record { sub = calls (passing bodies) room; body = passing bodies room }) (local_room passed (passing bodies) (λ r d. passing_sound bodies braced d r) (λ r f start simple. passing_local bodies r f start simple) room).env (steady_env room) w)

  pub assign_is_exact : (room d : ℕ) → room + d ≡ depth_limit → (w : Bool) (front us : List Lexeme) (deep : List ℕ) → AssignPart passed w d front deep → NoneDeep deep → FaultsAt (lazy.pass_assign bodies braced room w) (front ++ us) us → ⊥
  assign_is_exact room d q w front us deep p h k =
      not_before (lazy.pass_assign bodies braced room w) (pass_assign_steady room w) _ front us
      (whole_read (lazy.pass_assign bodies braced room w) (print passed (suc d) p.tree) front p.next p.is.fits (subst NoneDeep p.deep_is h) _ (λ m s. (lazy.assign_complete bodies braced depth_limit room d q w p.next front p.tree p.is).at m [] s (lazy.no_assign w p.tree))) k

  pub expression_is_exact : (room d : ℕ) → room + d ≡ depth_limit → (w : Bool) (front us : List Lexeme) (deep : List ℕ) → ExpressionPart passed w d front deep → NoneDeep deep → FaultsAt (lazy.pass_expression bodies braced room w) (front ++ us) us → ⊥
  expression_is_exact room d q w front us deep p h k =
      not_before (lazy.pass_expression bodies braced room w) (pass_expression_steady room w) _ front us
      (whole_read (lazy.pass_expression bodies braced room w) (print passed (suc d) p.tree) front p.next p.is.fits (subst NoneDeep p.deep_is h) _ (λ m s. (lazy.expression_complete bodies braced depth_limit room d q w p.next front p.tree p.is).at m [] s (lazy.no_expr w p.tree))) k
