-- What the pending list gained where a function was read alone, and the function where the gained bodies are read in place.
use Rattle.std.proofs.Common.{◌≡◌, ◌∙◌, ℕ, suc, ◌+◌, ◌<◌, List, [], ◌∷◌, ◌++◌, map, length, refl, sym, ap, subst, false, Option, Some, None, Result, Ok, Err}
use Rattle.std.specs.Prelude.{MatchOption, option_to_list}
use Rattle.script_grammar.specs.declared.node.NodeFunc.{NodeFunc}
use Rattle.script_grammar.specs.declared.node.NodeFuncBody.TheVariants as bodies
use Rattle.script_grammar.specs.declared.token.FuncForm.{FuncForm}
use Rattle.script_grammar.specs.declared.token.FuncForm.TheVariants as form
use Rattle.script_grammar.specs.Fault.{depth_limit}
use Rattle.script_grammar.specs.Interpretation.{Interpretation}
use Rattle.script_grammar.specs.Lexeme.{Lexeme}
use Rattle.script_grammar.specs.Pieces.{whole, depths}
use Rattle.script_grammar.specs.Script.{print_alone}
use Rattle.script_grammar.specs.Shows.{ShowAll, ShowFunc, FuncOf}
use Rattle.script_grammar.specs.Tree.{Expr, Stmts, Body, Function, function}
use Rattle.script_grammar.specs.Tree as tree
use Rattle.grammar_parser_specs.specs.Parser.{Recorded, Reply, Read, Bad, Deep, Parser, head_of, noted}
use Rattle.grammar_parser_specs.specs.Exprs.{Env, BodyRead}
use Rattle.grammar_parser_specs.specs.Stmts as pure
use Rattle.grammar_local_laws.proofs.Agrees as agrees
use Rattle.grammar_script_laws.proofs.AgreesAlone.{fill_alone}
use Rattle.grammar_deferred_laws.proofs.AloneLaws.{read_is_function}
use Rattle.grammar_parser_laws.proofs.Complete.{bare}
use Rattle.grammar_parser_laws.proofs.Local.{left}
use Rattle.grammar_deferred_laws.proofs.PassedFunctions.{pass_alone}
use Rattle.grammar_parser_laws.proofs.Tests.{end_known}
use Rattle.parse_pending_laws.proofs.ListsAlone.{in_alone}
use Rattle.parse_pending_laws.proofs.Rises.{Falls, Rises}
use Rattle.parse_pending_laws.proofs.RisesAll.{passed_alone_rises}
use Rattle.parse_exprs.specs.declared.place.ParseFault.{ParseFault}
use Rattle.parse_exprs.specs.declared.place.ParseFault.TheVariants as faults
use Rattle.parse_exprs.specs.declared.place.Pending.{Pending}
use Rattle.parse_exprs.specs.declared.place.Cursor.{Cursor}
use Rattle.parse_exprs.specs.declared.source.Source.{Source}
use Rattle.parse_exprs.specs.Answers.{Answers, Refuses, recorded, records}
use Rattle.parse_exprs.specs.Env.{body_at, env_at}
use Rattle.parse_exprs.specs.Source.{IsSource, front}
use Rattle.parse_bodies.specs.Means.{BodyOf}
use Rattle.parse_bodies.specs.Whole.{lacks_memory}
use Rattle.parse_bodies.specs.declared.part.BodyNode.{BodyNode}
use Rattle.parse_bodies.proofs.Parts.{func_read}
use Rattle.parse_parts.specs.Parts.{fill_inside}
use Rattle.parse_parts.specs.Pending.{gained, Gains, IsGained, inside, WholeAlone, CompletesAlone}
use Rattle.parse_parts.proofs.Clauses.{env_here, read_bare}
use Rattle.parse_parts.proofs.Completed.{have_read}
use Rattle.parse_parts.proofs.Gained.{gained_are, gained_read, gains, gains_read, gains_refused, told}
use Rattle.parse_parts.proofs.InnerBodies.{ReadsTo, function_in_place}
use Rattle.parse_parts.proofs.OwnBody.{passes, Stood}
use Rattle.parse_parts.proofs.OwnClauses.{Passes, all_pending, map_last, own_reply, own_here, own_function}
use Rattle.parse_parts.proofs.OwnPending.{own_falls, passes_left, own_records, exactly}
use Rattle.parse_parts.proofs.Takes.{given}

-- lists that end with one more each

front_same : {A : Type 0} (u v : List A) (x y : A) → u ++ x ∷ [] ≡ v ++ y ∷ [] → u ≡ v
front_same [] [] x y e = refl
front_same {A = A} [] (b ∷ v) x y e = absurd (never v (others e))
  where
    others : x ∷ [] ≡ b ∷ (v ++ y ∷ []) → [] ≡ v ++ y ∷ []
    others e = cc

    never : (v : List A) → [] ≡ v ++ y ∷ [] → ⊥
    never [] k = absurd (cc)
    never (c ∷ v) k = absurd (cc)
front_same {A = A} (a ∷ u) [] x y e = absurd (never u (others e))
  where
    others : a ∷ (u ++ x ∷ []) ≡ y ∷ [] → u ++ x ∷ [] ≡ []
    others e = cc

    never : (u : List A) → u ++ x ∷ [] ≡ [] → ⊥
    never [] k = absurd (cc)
    never (c ∷ u) k = absurd (cc)
front_same {A = A} (a ∷ u) (b ∷ v) x y e = ap (λ z. z ∷ u) (first e) ∙ ap (λ w. b ∷ w) (front_same u v x y (others e))
  where
    first : a ∷ (u ++ x ∷ []) ≡ b ∷ (v ++ y ∷ []) → a ≡ b
    first e = cc

    others : a ∷ (u ++ x ∷ []) ≡ b ∷ (v ++ y ∷ []) → u ++ x ∷ [] ≡ v ++ y ∷ []
    others e = cc

-- without the last body
pub popped : (ps kept before : List Pending) (own : Pending) (o : Option Pending) (len rest : ℕ) → len ≡ length ps → ps ≡ before ++ own ∷ [] → ps ≡ kept ++ option_to_list o → MatchOption o ((len ≡ 0) × (rest ≡ 0)) (λ _. rest + 1 ≡ len) → ps ≡ kept ++ own ∷ []
popped ps kept before own (Some x) len rest l e k m = e ∙ ap (λ y. y ++ own ∷ []) (front_same before kept own x (sym e ∙ k))
popped ps kept before own None len rest l e k m = absurd (some before (sym (ap length e) ∙ sym l ∙ m.0))
  where
    some : (before : List Pending) → length (before ++ own ∷ []) ≡ 0 → ⊥
    some [] h = absurd (cc)
    some (b ∷ before) h = absurd (cc)

inside_same : (x : Function) → in_alone false x [] ≡ inside x
inside_same (function f start end name ps comma bare (tree.BracedBody items)) = refl
inside_same (function f start end name ps comma bare (tree.ShortBody value)) = refl

fill_same : (i : Interpretation) (x : Function) → fill_alone (body_at i) x ≡ fill_inside (body_at i) x
fill_same i (function f start end name ps comma bare (tree.BracedBody items)) = refl
fill_same i (function f start end name ps comma bare (tree.ShortBody value)) = refl

module _ (s : Source) (h : IsSource s) (i : Interpretation) (f : FuncForm) (n : f ≡ form.Script → ⊥) where
  -- the function, where its bodies are read in place
  whole_alone : {E B : Type 0} (shows : E → Expr → Type 0) (shows_body : B → Stmts → Type 0) (ts us : List Lexeme) (node : NodeFunc E B) (x : Function) (rs : List Recorded) (inner : List Stmts) → ShowAll ReadsTo rs inner → ShowFunc i shows shows_body node x → pass_alone (body_at i) (given i) depth_limit f ts ≡ Read x rs us → WholeAlone i shows shows_body f 0 ts us node inner
  whole_alone shows shows_body ts us node x rs inner r k e =
      let p = function_in_place (body_at i) (given i) depth_limit f ts us x rs inner e r in
      let t = read_is_function depth_limit 0 refl f n ts us p.value (ap bare p.reads) in
      record {
        taken = record { tokens = t.front; split = t.split; deep = depths (print_alone whole 0 p.value) t.front (head_of us) t.is.fits; part = record { next = head_of us; tree = p.value; is = t.is; deep_is = refl }; shallow = t.shallow };
        next = refl;
        ends = end_known (head_of us).kind t.ends;
        shown = subst (ShowFunc i shows shows_body node) (p.are.same ∙ fill_same i p.value) k;
        are = sym (inside_same p.value) ∙ p.order;
      }

  module _ (old p : Cursor) (none : old.pending.items ≡ []) (l : old.at < length s.tokens.now) where
    passes_here : pure.alone_of (env_at i 0) f ≡ passes (body_at i) (given i) depth_limit f
    passes_here = ap (λ (v : Env). pure.alone_of v f) (env_here i 0)

    passes_rise : Rises (pure.alone_of (env_at i 0) f)
    passes_rise = subst (λ (g : Parser Function). Rises g) (sym passes_here) (passed_alone_rises (body_at i) depth_limit f)

    module _ {E B : Type 0} (shows : E → Expr → Type 0) (shows_body : B → Stmts → Type 0) where
      -- no own body was passed over

      pub alone_gains : (o : Result (NodeFunc E B) ParseFault) → Answers (FuncOf i shows shows_body) s i p o (records s i old) (pure.alone_of (env_at i 0) f (front s i old.at)) → IsGained s old p o
      alone_gains (Ok node) a = let x = func_read i shows shows_body node a in gains_read s i (pure.alone_of (env_at i 0) f) passes_rise old p x.0 x.2
      alone_gains (Err e) a = gains_refused s i (pure.alone_of (env_at i 0) f) passes_rise old p (NodeFunc E B) e a

      pub alone_completes : (o : Result (NodeFunc E B) ParseFault) → passes (body_at i) (given i) depth_limit f (front s i old.at) ≡ pass_alone (body_at i) (given i) depth_limit f (front s i old.at)
          → Answers (FuncOf i shows shows_body) s i p o (records s i old) (pure.alone_of (env_at i 0) f (front s i old.at)) → CompletesAlone i shows shows_body s f old p o
      alone_completes (Ok node) e a = λ inner k.
          let x = func_read i shows shows_body node a in
          whole_alone shows shows_body (front s i old.at) (front s i p.at) node x.0 _ inner (have_read i s (gained old.pending.items p.pending.items) inner k) x.1
          (sym e ∙ ap (λ (g : Parser Function). g (front s i old.at)) (sym passes_here) ∙ gained_read s i (pure.alone_of (env_at i 0) f) old p x.0 x.2)
      alone_completes (Err fault) e a = tt

      -- the own body was passed over, taken from the list and read

      module _ (o : Result (NodeFunc E B) ParseFault) (m : lacks_memory o ≡ false) (a : Passes s h i f n old.at l shows shows_body p o) (own : Pending) (kept : List Pending) (last : p.pending.items ≡ kept ++ own ∷ []) (st : Stood (body_at i) (given i) depth_limit f (front s i old.at) (recorded s i own)) (q : Cursor) where
        -- what is read there
        abbrev reply : Reply BodyRead
        reply = own_reply s h i f n old.at l shows shows_body own st q []

        before_are : st.before ≡ map (recorded s i) kept
        before_are = front_same st.before (map (recorded s i) kept) (recorded s i own) (recorded s i own) (sym st.recorded_are ∙ all_pending s h i f n old.at l shows shows_body p o m a ∙ ap (map (recorded s i)) last ∙ map_last (recorded s i) kept own)

        -- what is pending then
        old_none : records s i old ≡ []
        unfolding records
        old_none = ap (map (recorded s i)) none

        now_pending : (t : Reply BodyRead) → noted (map (recorded s i) kept) reply ≡ t → agrees.records t ≡ records s i q → records s i q ≡ records s i old ++ (st.before ++ agrees.records reply)
        now_pending t e k = sym k ∙ (told s i (map (recorded s i) kept) reply t e).0 ∙ ap (λ rs. rs ++ agrees.records reply) (sym before_are) ∙ ap (λ rs. rs ++ (st.before ++ agrees.records reply)) (sym old_none)

        falls_all : Falls (suc (length (front s i old.at))) (st.before ++ agrees.records reply) (length (left reply))
        falls_all = subst (λ (r : Reply BodyRead). Falls (suc (length (front s i old.at))) (st.before ++ agrees.records r) (length (left r))) (sym (own_here s h i f n old.at l shows shows_body own st q [])) (own_falls (body_at i) (given i) f (front s i old.at) (recorded s i own) st)

        gains_to : (stop : ℕ) (t : Reply BodyRead) → noted (map (recorded s i) kept) reply ≡ t → agrees.records t ≡ records s i q → left reply ≡ front s i stop → Gains s old.at stop old.pending.items q.pending.items
        gains_to stop t e k j = gains s i old q stop (st.before ++ agrees.records reply) (now_pending t e k) (subst (λ us. Falls (suc (length (front s i old.at))) (st.before ++ agrees.records reply) (length us)) j falls_all)

        left_told : (t : Reply BodyRead) → noted (map (recorded s i) kept) reply ≡ t → left reply ≡ left t
        left_told t e = (told s i (map (recorded s i) kept) reply t e).1

        -- a fault of the own body
        pub own_lost : (e : ParseFault) → Refuses s i q e (map (recorded s i) kept) reply → IsGained {A = NodeFunc E B} s old q (Err e)
        own_lost (faults.Unexpected k) g = gains_to k (Bad (records s i q) (front s i k)) g.is refl (left_told (Bad (records s i q) (front s i k)) g.is)
        own_lost (faults.TooDeep k) g = gains_to k (Deep (records s i q) (front s i k)) g.is refl (left_told (Deep (records s i q) (front s i k)) g.is)
        own_lost faults.NoMemory g = tt

        module _ (b : BodyNode B) (r : Answers (BodyOf shows_body) s i q (Ok b) (map (recorded s i) kept) reply) where
          gains_read_to : (stop : ℕ) → front s i q.at ≡ front s i stop → Gains s old.at stop old.pending.items q.pending.items
          gains_read_to stop e = gains_to stop (Read _ (records s i q) (front s i q.at)) r.2.is refl (left_told (Read _ (records s i q) (front s i q.at)) r.2.is ∙ e)

          pub own_gains : Gains s old.at q.at old.pending.items q.pending.items
          own_gains = gains_read_to q.at refl

          passed_to : left (passes (body_at i) (given i) depth_limit f (front s i old.at)) ≡ front s i q.at
          passed_to = passes_left (body_at i) (given i) f (front s i old.at) (recorded s i own) st _ (front s i q.at) (ap bare (sym (own_here s h i f n old.at l shows shows_body own st q [])) ∙ read_bare r.2)

          -- a fault after the own body
          pub behind_lost : (e : ParseFault) → Passes s h i f n old.at l shows shows_body p (Err e) → IsGained {A = NodeFunc E B} s old q (Err e)
          behind_lost (faults.Unexpected k) g = gains_read_to k (sym passed_to ∙ ap (λ (x : Parser Function). left (x (front s i old.at))) (sym passes_here) ∙ (told s i [] (pure.alone_of (env_at i 0) f (front s i old.at)) (Bad (records s i p) (front s i k)) g.is).1)
          behind_lost (faults.TooDeep k) g = gains_read_to k (sym passed_to ∙ ap (λ (x : Parser Function). left (x (front s i old.at))) (sym passes_here) ∙ (told s i [] (pure.alone_of (env_at i 0) f (front s i old.at)) (Deep (records s i p) (front s i k)) g.is).1)
          behind_lost faults.NoMemory g = tt

          -- and the function, with what is pending
          pub own_completes : (node : NodeFunc E B) → Passes s h i f n old.at l shows shows_body p (Ok node) → CompletesAlone i shows shows_body s f old q (Ok (record node { end = b.end; body = bodies.Braced b.node }))
          unfolding records
          own_completes node g inner k =
              let x = own_function s h i f n old.at l shows shows_body own st q (map (recorded s i) kept) p b r node g in
              let exact = exactly reply _ (front s i q.at) (read_bare r.2) in
              let all : agrees.records (pass_alone (body_at i) (given i) depth_limit f (front s i old.at)) ≡ st.before ++ agrees.records reply
              = own_records (body_at i) (given i) f (front s i old.at) (recorded s i own) st _ (agrees.records reply) (front s i q.at) (sym (own_here s h i f n old.at l shows shows_body own st q []) ∙ exact) in
              let are = gained_are s i old.pending.items q.pending.items (st.before ++ agrees.records reply) (now_pending (Read _ (records s i q) (front s i q.at)) r.2.is refl) in
              whole_alone shows shows_body (front s i old.at) (front s i q.at) (record node { end = b.end; body = bodies.Braced b.node }) x.0 (map (recorded s i) (gained old.pending.items q.pending.items)) inner (have_read i s (gained old.pending.items q.pending.items) inner k) x.1
              (exactly (pass_alone (body_at i) (given i) depth_limit f (front s i old.at)) x.0 (front s i q.at) x.2 ∙ ap (λ rs. Read x.0 rs (front s i q.at)) (all ∙ sym are))
