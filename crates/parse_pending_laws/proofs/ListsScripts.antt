-- Where no recorded body has a fault, the recorded bodies, read in place, are the braced bodies of the outermost functions of
-- what was read, in the order of the source: of each call of the parser, of a script, and of a braced body.
use Rattle.std.proofs.Common.{◌≡◌, ℕ, zero, suc, List, [], ◌∷◌, refl, sym, ap, ◌∙◌, Bool, true, false, Option, None, Some, ◌⊎◌, inl, inr}
use Rattle.script_grammar.specs.declared.token.FuncForm.{FuncForm}
use Rattle.script_grammar.specs.declared.token.mark.TheConstants as mark
use Rattle.script_grammar.specs.Lexeme.{Lexeme}
use Rattle.script_grammar.specs.Kinds.{is_mark, is_name}
use Rattle.script_grammar.specs.Tree.{Named, Body, Stmts}
use Rattle.script_grammar.specs.Pieces.{Opener, brace, open_behind, BracedArrow}
use Rattle.script_grammar.specs.Endings.{body_ending}
use Rattle.grammar_parser_specs.specs.Parser.{Recorded, Reply, Read, Bad, Deep, Parser, put_before, after, ret}
use Rattle.grammar_parser_specs.specs.Exprs.{Call, AnAssign, BodyRead, expr_of, function_of, pass_case, pass_over, passed_body, passing}
use Rattle.grammar_parser_specs.specs.Stmts.{Place, StmtCalls, All, env_of, block_of, everything, in_place, reading, script_of, read_script, begins_stmt}
use Rattle.grammar_parser_laws.proofs.Tests.{bool_cases}
use Rattle.grammar_local_laws.proofs.Passing.{record_at, passing_here, passing_no}
use Rattle.grammar_local_laws.proofs.Agrees.{Verdict, fine, bad_at, deep_at, judged, records, MeetsAt, Agrees}
use Rattle.grammar_local_laws.proofs.Alike.{SameK, BodyK, ExprK, FunctionK, StmtK}
use Rattle.grammar_local_laws.proofs.AgreesExprs.{CallK}
use Rattle.grammar_local_laws.proofs.AgreesStmts.{StmtsK, OwnK, reading_agrees}
use Rattle.grammar_local_laws.proofs.AgreesScripts.{body_in_place, passed_over, silent, body_agrees, everything_agrees}
use Rattle.script_grammar.specs.Braced.{in_expr, in_function, in_stmt, in_stmts}
use Rattle.parse_pending_laws.proofs.Lists.{Bodies, as_is, in_none, in_read, in_records, ListsAt, Lists, lists_no_room}
use Rattle.parse_pending_laws.proofs.ListedParts.{in_own}
use Rattle.parse_pending_laws.proofs.ListsExprs.{ListsEnv, in_call, name_lists, expr_lists, function_lists}
use Rattle.parse_pending_laws.proofs.ListsCalls.{case_lists, no_calls_lists}
use Rattle.parse_pending_laws.proofs.ListsStmts.{ListsBlock, in_inner, stmt_lists, reading_lists, script_lists}

-- of parsers that agree, by what the second records where both read
module _ (nested : Bool) {A B : Type 0} (K : A → B → Type 0) (w : Bodies A) (e : Parser A) (l : Parser B) where
  from_agreed : Agrees body_in_place K e l → ((ts us : List Lexeme) (a : A) (b : B) (rs : List Recorded) → e ts ≡ Read a [] us → l ts ≡ Read b rs us → (r : List Stmts) → in_records nested body_in_place rs r ≡ w a r) → Lists nested body_in_place K as_is w e l
  from_agreed m h = record { at = λ ts. by ts (judged body_in_place (records (l ts))) (l ts) refl (m.at ts) }
    where
      by : (ts : List Lexeme) (v : Verdict) (s : Reply B) → l ts ≡ s → MeetsAt body_in_place K v (e ts) s → ListsAt nested body_in_place K as_is w v (e ts) s
      by ts fine (Read b rs us) k n = (n.0, n.1, n.2, h ts us n.0 b rs n.1 k)
      by ts fine (Bad rs us) k n = n
      by ts fine (Deep rs us) k n = n
      by ts (bad_at vs) s k n = n
      by ts (deep_at vs) s k n = n

-- passing over records nothing

pass_silent : (ps : List Opener) (ts : List Lexeme) → records (pass_over ps ts) ≡ []
pass_silent ps [] = refl
pass_silent ps (t ∷ ts) = by (open_behind t.kind ps) (λ qs. pass_silent qs ts)
  where
    by : (o : Option (List Opener)) → ((qs : List Opener) → records (pass_over qs ts) ≡ []) → records (pass_case o t ts (λ qs. pass_over qs ts)) ≡ []
    by None h = refl
    by (Some []) h = refl
    by (Some (q ∷ qs)) h = h (q ∷ qs)

read_value : {A : Type 0} (a b : A) (rs qs : List Recorded) (us vs : List Lexeme) → ◌≡◌ {A = Reply A} (Read a rs us) (Read b qs vs) → rs ≡ qs
read_value a b rs qs us vs e = cc

module _ (bodies : ℕ → Body) (room : ℕ) (f : FuncForm) (start : ℕ) (simple : Bool) where
  -- what is passed over was recorded once
  recorded_once : (ts us : List Lexeme) (b : BodyRead) (rs : List Recorded) → passing bodies room f start simple ts ≡ Read b rs us → rs ≡ record_at bodies room f start simple ts ∷ []
  recorded_once [] us b rs e = absurd (never (sym (passing_no bodies room f start simple [] refl) ∙ e))
    where
      never : ◌≡◌ {A = Reply BodyRead} (Bad [] []) (Read b rs us) → ⊥
      never e = cc
  recorded_once (t ∷ ts) us b rs e = by (bool_cases (is_mark mark.OPEN_BRACE t.kind))
    where
      never : ◌≡◌ {A = Reply BodyRead} (Bad [] (t ∷ ts)) (Read b rs us) → ⊥
      never e = cc

      faulty : (qs : List Recorded) (vs : List Lexeme) → ◌≡◌ {A = Reply BodyRead} (Bad (record_at bodies room f start simple (t ∷ ts) ∷ qs) vs) (Read b rs us) → ⊥
      faulty qs vs e = cc

      too_deep : (qs : List Recorded) (vs : List Lexeme) → ◌≡◌ {A = Reply BodyRead} (Deep (record_at bodies room f start simple (t ∷ ts) ∷ qs) vs) (Read b rs us) → ⊥
      too_deep qs vs e = cc

      behind : (s : Reply ℕ) → records s ≡ [] → put_before (record_at bodies room f start simple (t ∷ ts) ∷ []) (after s (λ end. ret (passed_body (bodies start) end))) ≡ Read b rs us → rs ≡ record_at bodies room f start simple (t ∷ ts) ∷ []
      behind (Read n [] vs) q e = sym (read_value _ _ _ _ _ _ e)
      behind (Read n (x ∷ qs) vs) q e = absurd (cc)
      behind (Bad qs vs) q e = absurd (faulty qs vs e)
      behind (Deep qs vs) q e = absurd (too_deep qs vs e)

      by : (is_mark mark.OPEN_BRACE t.kind ≡ true) ⊎ (is_mark mark.OPEN_BRACE t.kind ≡ false) → rs ≡ record_at bodies room f start simple (t ∷ ts) ∷ []
      by (inl h) = behind (pass_over (brace ∷ []) ts) (pass_silent (brace ∷ []) ts) (sym (passing_here bodies room f start simple t ts h) ∙ e)
      by (inr h) = absurd (never (sym (passing_no bodies room f start simple (t ∷ ts) h) ∙ e))

same_reading : (stmt : StmtCalls) (f g : FuncForm) (x y : ℕ) (p q : Bool) (ts : List Lexeme) → reading stmt f x p ts ≡ reading stmt g y q ts
unfolding reading
same_reading stmt f g x y p q ts = refl

module _ (nested : Bool) (bodies : ℕ → Body) (braced : (n : ℕ) → body_ending (bodies n) ≡ BracedArrow) where
  -- a body
  pub body_lists : (room : ℕ) (f : FuncForm) (start : ℕ) (simple simple2 : Bool) → Lists nested body_in_place (BodyK bodies start) as_is (in_own nested) (reading (everything in_place room).stmts f start simple) (passing bodies room f start simple2)
  body_lists room f start simple simple2 = from_agreed nested (BodyK bodies start) (in_own nested) (reading e.stmts f start simple) (passing bodies room f start simple2) (body_agrees bodies braced room f start simple simple2 (λ ts. silent (reading_agrees bodies body_in_place e.stmts l.stmts (everything_agrees bodies braced room).stmts f f start start simple simple2) ts)) told
    where
      e : All
      e = everything in_place room

      l : All
      l = everything (passed_over bodies) room

      told : (ts us : List Lexeme) (a b : BodyRead) (rs : List Recorded) → reading (everything in_place room).stmts f start simple ts ≡ Read a [] us → passing bodies room f start simple2 ts ≡ Read b rs us → (r : List Stmts) → in_records nested body_in_place rs r ≡ (in_own nested) a r
      told ts us a b rs h k r =
          ap (λ x. in_records nested body_in_place x r) (recorded_once bodies room f start simple2 ts us b rs k)
          ∙ ap (λ x. in_read nested x r) (same_reading (everything in_place room).stmts f f 0 start simple2 simple ts ∙ h)

  -- all calls

  pub record ListsAll (a l : All) : Type 0 where
    pub exprs : (c : Call) → Lists nested body_in_place (CallK bodies c) as_is (in_call nested c) (a.exprs c) (l.exprs c)
    pub stmts : (p : Place) → Lists nested body_in_place (StmtK bodies) as_is (in_stmt nested) (a.stmts p) (l.stmts p)
    pub label : Lists nested body_in_place SameK as_is in_none a.label l.label

  pub everything_lists : (room : ℕ) → ListsAll (everything in_place room) (everything (passed_over bodies) room)
  unfolding everything
  everything_lists zero = record {
    exprs = no_calls_lists nested bodies body_in_place;
    stmts = λ p. lists_no_room nested body_in_place (begins_stmt p);
    label = lists_no_room nested body_in_place is_name;
  }
  everything_lists (suc room) =
      let a = everything_lists room in
      let e : All = everything in_place room in
      let l : All = everything (passed_over bodies) room in
      let v : ListsEnv nested bodies body_in_place (env_of (in_place room e.stmts) e) (env_of (passed_over bodies room l.stmts) l) = record { sub = a.exprs; body = body_lists room } in
      let k : ListsBlock nested bodies body_in_place (block_of (in_place room e.stmts) e) (block_of (passed_over bodies room l.stmts) l) = record { exprs = v; stmt = a.stmts; label = a.label } in
      record {
        exprs = case_lists nested bodies body_in_place (env_of (in_place room e.stmts) e) (env_of (passed_over bodies room l.stmts) l) v;
        stmts = λ p. stmt_lists nested bodies body_in_place (block_of (in_place room e.stmts) e) (block_of (passed_over bodies room l.stmts) l) k p;
        label = name_lists nested bodies body_in_place;
      }

  -- what expressions are read by
  pub env_lists : (room : ℕ) → ListsEnv nested bodies body_in_place (env_of (in_place room (everything in_place room).stmts) (everything in_place room)) (env_of (passed_over bodies room (everything (passed_over bodies) room).stmts) (everything (passed_over bodies) room))
  env_lists room = record { sub = (everything_lists room).exprs; body = body_lists room }

  -- scripts
  pub scripts_list : (room : ℕ) → Lists nested body_in_place (StmtsK bodies) as_is (in_stmts nested) (read_script room) (script_of (everything (passed_over bodies) room).stmts)
  scripts_list room = script_lists nested bodies body_in_place (everything in_place room).stmts (everything (passed_over bodies) room).stmts (everything_lists room).stmts

  -- a body whose own statements are read by both
  pub own_bodies_list : (room : ℕ) (f : FuncForm) (start : ℕ) (simple : Bool) → Lists nested body_in_place (OwnK bodies) as_is (in_inner nested) (reading (everything in_place room).stmts f start simple) (reading (everything (passed_over bodies) room).stmts f start simple)
  own_bodies_list room f start simple = reading_lists nested bodies body_in_place (everything in_place room).stmts (everything (passed_over bodies) room).stmts (everything_lists room).stmts f f start start simple simple

  -- an AssignmentExpression and an Expression, with or without the operator `in`

  pub assign_list : (room : ℕ) (w : Bool) → Lists nested body_in_place (ExprK bodies) as_is (in_expr nested) ((everything in_place room).exprs (AnAssign w)) ((everything (passed_over bodies) room).exprs (AnAssign w))
  assign_list room w = (everything_lists room).exprs (AnAssign w)

  pub expr_list : (room : ℕ) (w : Bool) → Lists nested body_in_place (ExprK bodies) as_is (in_expr nested) (expr_of (env_of (in_place room (everything in_place room).stmts) (everything in_place room)) w) (expr_of (env_of (passed_over bodies room (everything (passed_over bodies) room).stmts) (everything (passed_over bodies) room)) w)
  expr_list room w = expr_lists nested bodies body_in_place _ _ (env_lists room) w

  -- a function that is no arrow, from its parameters on
  pub head_list : (room : ℕ) (f : FuncForm) (name : Option Named) → Lists nested body_in_place (FunctionK bodies) as_is (in_function nested) (function_of (env_of (in_place room (everything in_place room).stmts) (everything in_place room)) f name) (function_of (env_of (passed_over bodies room (everything (passed_over bodies) room).stmts) (everything (passed_over bodies) room)) f name)
  head_list room f name = function_lists nested bodies body_in_place _ _ (env_lists room) f name name refl
