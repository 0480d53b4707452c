-- The recorded bodies one for one: where a parser reads that passes bodies over, and none of the bodies that it recorded has a
-- fault, the k-th of them, read in place, is the k-th braced body of what the parser reads that reads bodies in place.
use Rattle.std.proofs.Common.{◌≡◌, ℕ, List, [], ◌∷◌, refl, sym, ap, ◌∙◌, subst, Bool, false, Option}
use Rattle.script_grammar.specs.Lexeme.{Lexeme}
use Rattle.script_grammar.specs.Tree.{Named, Expr, Body, Function, Stmts, no_stmts}
use Rattle.script_grammar.specs.Tree as tree
use Rattle.script_grammar.specs.Pieces.{whole, BracedArrow}
use Rattle.script_grammar.specs.Endings.{body_ending}
use Rattle.script_grammar.specs.Fault.{depth_limit}
use Rattle.grammar_parser_specs.specs.Parser.{Recorded, Reply, Read, Bad, Deep, Parser}
use Rattle.script_grammar.specs.declared.token.FuncForm.{FuncForm}
use Rattle.grammar_parser_specs.specs.Exprs.{BodyRead, function_of}
use Rattle.grammar_parser_specs.specs.Stmts.{everything, in_place, read_script, read_alone}
use Rattle.grammar_parser_laws.proofs.Friendly.{Inside}
use Rattle.grammar_parser_laws.proofs.Complete.{bare}
use Rattle.grammar_parser_laws.proofs.Sound.{Outcome}
use Rattle.grammar_parser_laws.proofs.SoundParts.{IsBraced}
use Rattle.grammar_sound_laws.proofs.SoundEverything.{in_place_sound, reading_sound}
use Rattle.grammar_local_laws.proofs.Agrees.{Verdict, fine, bad_at, deep_at, or_else, judged, records}
use Rattle.grammar_local_laws.proofs.Alike.{ExprK, FunctionK}
use Rattle.grammar_local_laws.proofs.AgreesStmts.{StmtsK, OwnK}
use Rattle.grammar_local_laws.proofs.AgreesScripts.{body_in_place, passed_over, silent, own_bodies_agree}
use Rattle.grammar_script_laws.proofs.AgreesAlone.{AloneK}
use Rattle.grammar_script_laws.proofs.PassedLaws.{pass_script}
use Rattle.grammar_local_laws.proofs.PassingLaws.{AreBraced}
use Rattle.grammar_deferred_laws.proofs.PassedBodies.{pass_braced}
use Rattle.grammar_deferred_laws.proofs.PassedParts.{pass_env, pass_assign, pass_expression}
use Rattle.grammar_deferred_laws.proofs.AloneLaws.{env_with, read_assign, read_expression, read_braced}
use Rattle.script_grammar.specs.Braced.{in_expr, in_function, in_body, in_stmts}
use Rattle.parse_pending_laws.proofs.Lists.{Bodies, as_is, in_read, in_records, ListsAt, Lists}
use Rattle.parse_pending_laws.proofs.ListsStmts.{in_inner}
use Rattle.parse_pending_laws.proofs.ListsScripts.{scripts_list, own_bodies_list, assign_list, expr_list, head_list}
use Rattle.parse_pending_laws.proofs.ListsAlone.{in_alone, functions_list}

-- A recorded body, read in place, has these statements.
pub record HasItems (b : Recorded) (items : Stmts) : Type 0 where
  pub end : ℕ
  pub left : List Lexeme
  pub reads : body_in_place b ≡ Read (record { body = tree.BracedBody items; end = end }) [] left

-- Recorded bodies have these statements, one for one.
abbrev pub HaveItems : List Recorded → List Stmts → Type 0
HaveItems [] [] = Unit {0}
HaveItems [] (items ∷ bs) = ⊥
HaveItems (b ∷ rs) [] = ⊥
HaveItems (b ∷ rs) (items ∷ bs) = HasItems b items × HaveItems rs bs

-- what is read in place records nothing
body_silent : (b : Recorded) → body_in_place b ≡ bare (body_in_place b)
body_silent b = silent (own_bodies_agree (λ _. tree.BracedBody no_stmts) (λ _. refl) b.room b.form 0 b.simple) b.from

-- a body that was read is a braced one
pub body_braced : (b : Recorded) (x : BodyRead) (us : List Lexeme) → body_in_place b ≡ Read x [] us → (items : Stmts) × (x.body ≡ tree.BracedBody items)
body_braced b x us h =
    let o = subst (Outcome Inside (IsBraced whole 0 b.form) (IsBraced whole 0 b.form) b.from) h (((reading_sound 0 (everything in_place b.room).stmts (in_place_sound b.room 0).stmts).braced b.form 0 b.simple).at b.from) in
    (o.is.items, o.is.is)

read_has : (b : Recorded) (x : BodyRead) (us : List Lexeme) (items : Stmts) → body_in_place b ≡ Read x [] us → x.body ≡ tree.BracedBody items → HasItems b items
read_has b x us items h e = record { end = x.end; left = us; reads = h ∙ ap (λ y. Read (record { body = y; end = x.end }) [] us) e }

-- bodies that have no fault
pub have_items : (rs : List Recorded) → judged body_in_place rs ≡ fine → HaveItems rs (in_records false body_in_place rs [])
have_items [] e = tt
have_items (b ∷ rs) e = by (body_in_place b) refl (body_silent b) e (have_items rs)
  where
    by : (s : Reply BodyRead) → body_in_place b ≡ s → s ≡ bare s → or_else s (judged body_in_place rs) ≡ fine → (judged body_in_place rs ≡ fine → HaveItems rs (in_records false body_in_place rs [])) → HaveItems (b ∷ rs) (in_read false s (in_records false body_in_place rs []))
    by (Read x qs us) h q e k =
        let g = h ∙ q in
        let i = body_braced b x us g in
        subst (λ y. HaveItems (b ∷ rs) (in_body false y (in_records false body_in_place rs []))) (sym i.1) (read_has b x us i.0 g i.1, k e)
    by (Bad qs us) h q e k = absurd (cc)
    by (Deep qs us) h q e k = absurd (cc)

module _ {A B : Type 0} (K : A → B → Type 0) (w : Bodies A) (e : Parser A) (l : Parser B) where
  -- Both parsers read, and the recorded bodies are those of what the one read.
  pub record InOrder (ts us : List Lexeme) (a : A) (b : B) (rs : List Recorded) : Type 0 where
    pub reads : e ts ≡ Read a [] us
    pub passes : l ts ≡ Read b rs us
    pub clean : judged body_in_place rs ≡ fine
    pub are : K a b
    pub order : HaveItems rs (w a [])

  of_both : (ts us : List Lexeme) (a : A) (b : B) (rs : List Recorded) → e ts ≡ Read a [] us → l ts ≡ Read b rs us → judged body_in_place rs ≡ fine → K a b → ((r : List Stmts) → in_records false body_in_place rs r ≡ w a r) → InOrder ts us a b rs
  of_both ts us a b rs h k c q o = record { reads = h; passes = k; clean = c; are = q; order = subst (HaveItems rs) (o []) (have_items rs c) }

  -- what was read by the parser that passes bodies over
  pub read_in_order : Lists false body_in_place K as_is w e l → (ts us : List Lexeme) (b : B) (rs : List Recorded) → l ts ≡ Read b rs us → judged body_in_place rs ≡ fine → (a : A) × InOrder ts us a b rs
  read_in_order m ts us b rs h c =
      let n = subst (λ v. ListsAt false body_in_place K as_is w v (e ts) (Read b rs us)) c (subst (λ s. ListsAt false body_in_place K as_is w (judged body_in_place (records s)) (e ts) s) h (m.at ts)) in
      (n.0, of_both ts us n.0 b rs n.1 h c n.2 n.3)

  -- what was read by the parser that reads bodies in place
  pub read_is_in_order : Lists false body_in_place K as_is w e l → (ts us : List Lexeme) (a : A) → e ts ≡ Read a [] us → (b : B) × (rs : List Recorded) × InOrder ts us a b rs
  read_is_in_order m ts us a h = by (judged body_in_place (records (l ts))) (l ts) refl refl (m.at ts)
    where
      never_bad : (vs : List Lexeme) → ◌≡◌ {A = Reply A} (Bad [] vs) (Read a [] us) → ⊥
      never_bad vs q = cc

      never_deep : (vs : List Lexeme) → ◌≡◌ {A = Reply A} (Deep [] vs) (Read a [] us) → ⊥
      never_deep vs q = cc

      same_value : (c : A) (vs : List Lexeme) → ◌≡◌ {A = Reply A} (Read c [] vs) (Read a [] us) → c ≡ a
      same_value c vs q = cc

      same_left : (c : A) (vs : List Lexeme) → ◌≡◌ {A = Reply A} (Read c [] vs) (Read a [] us) → vs ≡ us
      same_left c vs q = cc

      by : (v : Verdict) (s : Reply B) → judged body_in_place (records (l ts)) ≡ v → l ts ≡ s → ListsAt false body_in_place K as_is w v (e ts) s → (b : B) × (rs : List Recorded) × InOrder ts us a b rs
      by fine (Read b rs vs) c k n =
          let v = same_left n.0 vs (sym n.1 ∙ h) in
          let x = same_value n.0 vs (sym n.1 ∙ h) in
          (b, rs, of_both ts us a b rs h (k ∙ ap (Read b rs) v) (sym (ap (λ s. judged body_in_place (records s)) k) ∙ c) (subst (λ y. K y b) x n.2) (subst (λ y. (r : List Stmts) → in_records false body_in_place rs r ≡ w y r) x n.3))
      by fine (Bad rs vs) c k n = absurd (never_bad vs (sym n ∙ h))
      by fine (Deep rs vs) c k n = absurd (never_deep vs (sym n ∙ h))
      by (bad_at vs) s c k n = absurd (never_bad vs (sym n ∙ h))
      by (deep_at vs) s c k n = absurd (never_deep vs (sym n ∙ h))

module _ (bodies : ℕ → Body) (braced : (n : ℕ) → body_ending (bodies n) ≡ BracedArrow) where
  -- a script, by the parsers with all room for depth

  abbrev pub ScriptInOrder : List Lexeme → List Lexeme → Stmts → Stmts → List Recorded → Type 0
  ScriptInOrder = InOrder (StmtsK bodies) (in_stmts false) (read_script depth_limit) (pass_script bodies braced)

  pub script_passed : (ts us : List Lexeme) (given : Stmts) (rs : List Recorded) → pass_script bodies braced ts ≡ Read given rs us → judged body_in_place rs ≡ fine → (items : Stmts) × ScriptInOrder ts us items given rs
  script_passed = read_in_order (StmtsK bodies) (in_stmts false) (read_script depth_limit) (pass_script bodies braced) (scripts_list false bodies braced depth_limit)

  pub script_read : (ts us : List Lexeme) (items : Stmts) → read_script depth_limit ts ≡ Read items [] us → (given : Stmts) × (rs : List Recorded) × ScriptInOrder ts us items given rs
  script_read = read_is_in_order (StmtsK bodies) (in_stmts false) (read_script depth_limit) (pass_script bodies braced) (scripts_list false bodies braced depth_limit)

module _ (bodies : ℕ → Body) (braced : AreBraced bodies) (room : ℕ) where
  ends : (n : ℕ) → body_ending (bodies n) ≡ BracedArrow
  ends n = ap body_ending (braced.are n)

  -- a braced body whose own statements are read

  module _ (f : FuncForm) (start : ℕ) (simple : Bool) where
    abbrev pub BodyInOrder : List Lexeme → List Lexeme → BodyRead → BodyRead → List Recorded → Type 0
    BodyInOrder = InOrder (OwnK bodies) (in_inner false) (read_braced room f start simple) (pass_braced bodies braced room f start simple)

    pub body_passed : (ts us : List Lexeme) (given : BodyRead) (rs : List Recorded) → pass_braced bodies braced room f start simple ts ≡ Read given rs us → judged body_in_place rs ≡ fine → (body : BodyRead) × BodyInOrder ts us body given rs
    body_passed = read_in_order (OwnK bodies) (in_inner false) (read_braced room f start simple) (pass_braced bodies braced room f start simple) (own_bodies_list false bodies ends room f start simple)

  -- an AssignmentExpression and an Expression, with or without the operator `in`

  module _ (w : Bool) where
    abbrev pub AssignInOrder : List Lexeme → List Lexeme → Expr → Expr → List Recorded → Type 0
    AssignInOrder = InOrder (ExprK bodies) (in_expr false) (read_assign room w) (pass_assign bodies braced room w)

    pub assign_passed : (ts us : List Lexeme) (given : Expr) (rs : List Recorded) → pass_assign bodies braced room w ts ≡ Read given rs us → judged body_in_place rs ≡ fine → (e : Expr) × AssignInOrder ts us e given rs
    assign_passed = read_in_order (ExprK bodies) (in_expr false) (read_assign room w) (pass_assign bodies braced room w) (assign_list false bodies ends room w)

    abbrev pub ExprInOrder : List Lexeme → List Lexeme → Expr → Expr → List Recorded → Type 0
    ExprInOrder = InOrder (ExprK bodies) (in_expr false) (read_expression room w) (pass_expression bodies braced room w)

    pub expr_passed : (ts us : List Lexeme) (given : Expr) (rs : List Recorded) → pass_expression bodies braced room w ts ≡ Read given rs us → judged body_in_place rs ≡ fine → (e : Expr) × ExprInOrder ts us e given rs
    expr_passed = read_in_order (ExprK bodies) (in_expr false) (read_expression room w) (pass_expression bodies braced room w) (expr_list false bodies ends room w)

  module _ (f : FuncForm) where
    -- A function that is no arrow, from its parameters on. Its own body, if it is a braced one, is the last of the bodies.

    module _ (name : Option Named) where
      abbrev pub HeadInOrder : List Lexeme → List Lexeme → Function → Function → List Recorded → Type 0
      HeadInOrder = InOrder (FunctionK bodies) (in_function false) (function_of (env_with room) f name) (function_of (pass_env bodies braced room) f name)

      pub head_passed : (ts us : List Lexeme) (given : Function) (rs : List Recorded) → function_of (pass_env bodies braced room) f name ts ≡ Read given rs us → judged body_in_place rs ≡ fine → (x : Function) × HeadInOrder ts us x given rs
      head_passed = read_in_order (FunctionK bodies) (in_function false) (function_of (env_with room) f name) (function_of (pass_env bodies braced room) f name) (head_list false bodies ends room f name)

    -- a function that is read alone, with its own statements

    abbrev pub FunctionInOrder : List Lexeme → List Lexeme → Function → Function → List Recorded → Type 0
    FunctionInOrder = InOrder (AloneK bodies) (in_alone false) (read_alone in_place room f) (read_alone (passed_over bodies) room f)

    pub function_passed : (ts us : List Lexeme) (given : Function) (rs : List Recorded) → read_alone (passed_over bodies) room f ts ≡ Read given rs us → judged body_in_place rs ≡ fine → (x : Function) × FunctionInOrder ts us x given rs
    function_passed = read_in_order (AloneK bodies) (in_alone false) (read_alone in_place room f) (read_alone (passed_over bodies) room f) (functions_list false bodies ends room f)
