-- A function that is read alone, from what the code answers that passes its own body over and reads it then.
use Rattle.std.proofs.Common.{◌≡◌, ◌∙◌, ℕ, ◌-◌, ◌<◌, List, [], ◌∷◌, ◌++◌, map, length, refl, sym, ap, subst, arith, Bool, true, false, Option, Some, None, Result, Ok, Err}
use Rattle.script_grammar.specs.declared.node.NodeFunc.{NodeFunc}
use Rattle.script_grammar.specs.declared.node.NodeFuncBody.{NodeFuncBody}
use Rattle.script_grammar.specs.declared.node.NodeFuncBody.TheVariants as bodies
use Rattle.script_grammar.specs.declared.token.FuncForm.{FuncForm}
use Rattle.script_grammar.specs.declared.token.FuncForm.TheVariants as form
use Rattle.script_grammar.specs.Fault.{depth_limit, FunctionPart}
use Rattle.script_grammar.specs.Interpretation.{Interpretation, maybe_named}
use Rattle.script_grammar.specs.Kinds.{is_end}
use Rattle.script_grammar.specs.Lexeme.{Lexeme}
use Rattle.script_grammar.specs.Pieces.{passed}
use Rattle.script_grammar.specs.Shows.{FuncBodyOf, FuncOf, ShowFunc}
use Rattle.script_grammar.specs.Tree.{Expr, Stmts, Body, BracedBody, Function, function}
use Rattle.script_grammar.specs.TreeLists.{params_of}
use Rattle.grammar_parser_specs.specs.Parser.{Recorded, Reply, Read, Bad, Deep, Parser, head_of, ret, bad, when}
use Rattle.grammar_parser_specs.specs.Exprs.{Env, BodyRead, is_simple, function_case, passed_body}
use Rattle.grammar_parser_specs.specs.Stmts as pure
use Rattle.grammar_parser_specs.specs.Stmts.{end_of}
use Rattle.grammar_local_laws.proofs.Agrees as agrees
use Rattle.grammar_deferred_laws.proofs.ClosedParts.{balanced_matches, function_balanced}
use Rattle.grammar_parser_laws.proofs.Complete.{bare}
use Rattle.grammar_deferred_laws.proofs.PassedFunctions.{pass_alone, function_decides}
use Rattle.parse_exprs.specs.declared.place.ParseFault.{ParseFault}
use Rattle.parse_exprs.specs.declared.place.ParseFault.TheVariants as faults
use Rattle.parse_exprs.specs.declared.place.Pending.{Pending}
use Rattle.parse_exprs.specs.declared.place.Cursor.{Cursor}
use Rattle.parse_exprs.specs.declared.source.Source.{Source}
use Rattle.parse_exprs.specs.Answers.{Answers, Refuses, recorded, records}
use Rattle.parse_exprs.specs.Env.{body_at, env_at}
use Rattle.parse_exprs.specs.Source.{IsSource, front}
use Rattle.parse_bodies.specs.Blocks.{stmts_at, all_at}
use Rattle.parse_bodies.specs.Means.{BodyOf}
use Rattle.parse_bodies.specs.Whole.{lacks_memory}
use Rattle.parse_bodies.specs.declared.part.BodyNode.{BodyNode}
use Rattle.parse_bodies.proofs.Parts.{func_read}
use Rattle.parse_parts.specs.Answers.{IsAlone, IsOutermost}
use Rattle.parse_parts.proofs.Clauses.{Faults, env_here, fault_is, taken_in, read_bare, fault_bare}
use Rattle.parse_parts.proofs.OwnBody.{passes, own_body, Stood, none_own, own_stood, own_bad, own_deep, own_read}
use Rattle.parse_parts.specs.Parts.{NoFunction}
use Rattle.parse_parts.proofs.Present.{no_function}
use Rattle.parse_parts.proofs.Takes.{given, takes_alone}

-- the last of what was recorded is the last body on the pending list
last_pending : (g : Pending → Recorded) (ps : List Pending) (rs : List Recorded) (b : Recorded) → map g ps ≡ rs ++ b ∷ [] → (before : List Pending) × (p : Pending) × (ps ≡ before ++ p ∷ []) × (g p ≡ b)
last_pending g [] [] b e = absurd (cc)
last_pending g [] (r ∷ rs) b e = absurd (cc)
last_pending g (p ∷ []) [] b e = ([], p, refl, first e)
  where
    first : g p ∷ [] ≡ b ∷ [] → g p ≡ b
    first e = cc
last_pending g (p ∷ q ∷ ps) [] b e = absurd (cc)
last_pending g (p ∷ ps) (r ∷ rs) b e = let x = last_pending g ps rs b (tail e) in (p ∷ x.0, x.1, ap (λ y. p ∷ y) x.2, x.3)
  where
    tail : g p ∷ map g ps ≡ r ∷ (rs ++ b ∷ []) → map g ps ≡ rs ++ b ∷ []
    tail e = cc

pub map_last : (g : Pending → Recorded) (ps : List Pending) (p : Pending) → map g (ps ++ p ∷ []) ≡ map g ps ++ g p ∷ []
map_last g [] p = refl
map_last g (q ∷ ps) p = ap (λ y. g q ∷ y) (map_last g ps p)

-- no such body
pub no_outermost : (ps : List Pending) (o : Option Pending) → IsOutermost ps o → ((p : Pending) → o ≡ Some p → ⊥) → IsOutermost ps None
no_outermost ps None h n = h
no_outermost ps (Some p) h n = absurd (n p refl)

-- where only the end of all may stand

abbrev at_end : {A : Type 0} → A → List Lexeme → Reply A
at_end a us = end_of a us

end_when : {A : Type 0} (a : A) (us : List Lexeme) → end_of a us ≡ when (is_end (head_of us).kind) (ret a) bad us
unfolding end_of
end_when a us = refl

read_same : {A : Type 0} (a b : A) (us vs : List Lexeme) → ◌≡◌ {A = Reply A} (Read a [] us) (Read b [] vs) → (a ≡ b) × (us ≡ vs)
read_same a b us vs e = (cc, cc)

end_reads : {A : Type 0} (a c x : A) (us vs : List Lexeme) → bare (end_of a us) ≡ Read x [] vs → (a ≡ x) × (us ≡ vs) × (bare (end_of c us) ≡ Read c [] us)
end_reads {A = A} a c x us vs e = by (is_end (head_of us).kind) refl (sym (ap bare (end_when a us)) ∙ e)
  where
    by : (b : Bool) → is_end (head_of us).kind ≡ b → bare (when b (ret a) bad us) ≡ Read x [] vs → (a ≡ x) × (us ≡ vs) × (bare (end_of c us) ≡ Read c [] us)
    by true k h = let r = read_same a x us vs h in (r.0, r.1, ap bare (end_when c us) ∙ ap (λ b. bare (when b (ret c) bad us)) k)
    by false k h = absurd (never h)
      where
        never : ◌≡◌ {A = Reply A} (Bad [] us) (Read x [] vs) → ⊥
        never h = cc

-- a fault there is at the first token
end_faults : {A : Type 0} (s : Source) (i : Interpretation) (a c : A) (us : List Lexeme) (e : ParseFault) → lacks_memory {B = A} (Err e) ≡ false → Faults s i e (bare (end_of a us)) → Faults s i e (bare (end_of c us))
end_faults {A = A} s i a c us e m h = by (is_end (head_of us).kind) refl e m h
  where
    here : (d : A) (b : Bool) → is_end (head_of us).kind ≡ b → bare (end_of d us) ≡ bare (when b (ret d) bad us)
    here d b k = ap bare (end_when d us) ∙ ap (λ x. bare (when x (ret d) bad us)) k

    read_bad : (vs : List Lexeme) → ◌≡◌ {A = Reply A} (Read a [] us) (Bad [] vs) → ⊥
    read_bad vs x = cc

    read_deep : (vs : List Lexeme) → ◌≡◌ {A = Reply A} (Read a [] us) (Deep [] vs) → ⊥
    read_deep vs x = cc

    by : (b : Bool) → is_end (head_of us).kind ≡ b → (e : ParseFault) → lacks_memory {B = A} (Err e) ≡ false → Faults s i e (bare (end_of a us)) → Faults s i e (bare (end_of c us))
    by true k (faults.Unexpected t) m h = absurd (read_bad (front s i t) (sym (here a true k) ∙ h))
    by true k (faults.TooDeep t) m h = absurd (read_deep (front s i t) (sym (here a true k) ∙ h))
    by true k faults.NoMemory m h = tt
    by false k (faults.Unexpected t) m h = here c false k ∙ (sym (here a false k) ∙ h)
    by false k (faults.TooDeep t) m h = here c false k ∙ (sym (here a false k) ∙ h)
    by false k faults.NoMemory m h = tt

-- with another body
pub with_body : ℕ → Body → Function → Function
with_body end body (function f start e name ps comma bare b) = function f start end name ps comma bare body

module _ {E B : Type 0} (i : Interpretation) (shows : E → Expr → Type 0) (shows_body : B → Stmts → Type 0) where
  some_body : (n : NodeFunc E B) (f : Body → Function) (x : Function) → FuncBodyOf i shows shows_body n.start n.body (λ b. x ≡ f b) → (b : Body) × (x ≡ f b)
  some_body n f x h = by n.body h
    where
      by : (o : NodeFuncBody E B) → FuncBodyOf i shows shows_body n.start o (λ b. x ≡ f b) → (b : Body) × (x ≡ f b)
      by (bodies.Braced b) h = (BracedBody h.0, h.2)
      by (bodies.Short e) h = (Rattle.script_grammar.specs.Tree.ShortBody h.0, h.2)
      by bodies.Passed h = (BracedBody (i.bodies n.start), h)

  -- the function with its own body in place of the one that was passed over
  pub with_own : (n : NodeFunc E B) (x : Function) → ShowFunc i shows shows_body n x → (end : ℕ) (node : B) (items : Stmts) → shows_body node items → ShowFunc i shows shows_body (record n { end = end; body = bodies.Braced node }) (with_body end (BracedBody items) x)
  unfolding with_body
  with_own n x h end node items k =
      let b = some_body n (λ y. function n.form n.start n.end (maybe_named i n.name) (params_of h.0) n.comma n.bare y) x h.2 in
      (h.0, h.1, (items, k, ap (with_body end (BracedBody items)) b.1))

module _ (s : Source) (h : IsSource s) (i : Interpretation) (f : FuncForm) (n : f ≡ form.Script → ⊥) (start : ℕ) (l : start < length s.tokens.now) where
  alone_here : pure.alone_of (env_at i 0) f ≡ passes (body_at i) (given i) depth_limit f
  alone_here = ap (λ (v : Env). pure.alone_of v f) (env_here i 0)

  -- a fault of the function
  pub alone_refused : {E B : Type 0} (shows : E → Expr → Type 0) (shows_body : B → Stmts → Type 0) (stop : ℕ) (e : ParseFault) → Faults s i e (bare (pass_alone (body_at i) (given i) depth_limit f (front s i start))) → IsAlone {E = E} {B = B} i shows shows_body s f start stop (Err e)
  alone_refused shows shows_body stop e k = fault_is s h i (FunctionPart passed f None 0) (pass_alone (body_at i) (given i) depth_limit f) (function_decides (body_at i) (given i) depth_limit 0 refl f n) (balanced_matches (FunctionPart passed f None 0) (function_balanced passed f None 0)) (NoFunction f 0 (front s i start)) start (no_function i depth_limit 0 refl (front s i start) f) l e k

  module _ {E B : Type 0} (shows : E → Expr → Type 0) (shows_body : B → Stmts → Type 0) where
    alone_is : (stop : ℕ) (node : NodeFunc E B) (x : Function) → ShowFunc i shows shows_body node x → bare (pass_alone (body_at i) (given i) depth_limit f (front s i start)) ≡ Read x [] (front s i stop) → IsAlone i shows shows_body s f start stop (Ok node)
    alone_is stop node x k e = let t = takes_alone i depth_limit 0 refl (front s i start) (front s i stop) shows shows_body f node x n k e in (taken_in s h i (FunctionPart passed f None 0) (function_balanced passed f None 0) start stop l t.taken, t)

    -- what the code answered that passes the own body over, with nothing recorded before
    abbrev pub Passes : Cursor → Result (NodeFunc E B) ParseFault → Type 0
    Passes p o = Answers (FuncOf i shows shows_body) s i p o [] (pure.alone_of (env_at i 0) f (front s i start))

    -- as it is where nothing was pending
    pub passes_alone : (old p : Cursor) (o : Result (NodeFunc E B) ParseFault) → old.pending.items ≡ [] → Answers (FuncOf i shows shows_body) s i p o (records s i old) (pure.alone_of (env_at i 0) f (front s i start)) → Passes p o
    unfolding records
    passes_alone old p o e a = subst (λ ps. Answers (FuncOf i shows shows_body) s i p o (map (recorded s i) ps) (pure.alone_of (env_at i 0) f (front s i start))) e a

    -- what it recorded is pending
    pub all_pending : (p : Cursor) (o : Result (NodeFunc E B) ParseFault) → lacks_memory o ≡ false → Passes p o → agrees.records (passes (body_at i) (given i) depth_limit f (front s i start)) ≡ map (recorded s i) p.pending.items
    unfolding records
    all_pending p (Ok node) m a = let x = func_read i shows shows_body node a in ap (λ (g : Parser Function). agrees.records (g (front s i start))) (sym alone_here) ∙ ap agrees.records x.2.is
    all_pending p (Err (faults.Unexpected k)) m a = ap (λ (g : Parser Function). agrees.records (g (front s i start))) (sym alone_here) ∙ ap agrees.records a.is
    all_pending p (Err (faults.TooDeep k)) m a = ap (λ (g : Parser Function). agrees.records (g (front s i start))) (sym alone_here) ∙ ap agrees.records a.is
    all_pending p (Err faults.NoMemory) m a = absurd (cc)

    -- no body of its own was passed over: what was read is the function

    pub no_own : (p : Cursor) (o : Result (NodeFunc E B) ParseFault) → lacks_memory o ≡ false → IsOutermost p.pending.items None → Passes p o → passes (body_at i) (given i) depth_limit f (front s i start) ≡ pass_alone (body_at i) (given i) depth_limit f (front s i start)
    no_own p o m none a = none_own (body_at i) (given i) depth_limit f (front s i start) not_own
      where
        not_own : (rs : List Recorded) (b : Recorded) → agrees.records (passes (body_at i) (given i) depth_limit f (front s i start)) ≡ rs ++ b ∷ [] → b.room ≡ depth_limit → ⊥
        not_own rs b e q =
            let x = last_pending (recorded s i) p.pending.items rs b (sym (all_pending p o m a) ∙ e) in
            none x.0 x.1 x.2 (outer x.1 (ap (λ (y : Recorded). y.room) x.3 ∙ q))
          where
            outer : (y : Pending) → depth_limit - y.depth ≡ depth_limit → y.depth ≡ 0
            outer y e = omega (arith, e)

    pub without_own : (p : Cursor) (o : Result (NodeFunc E B) ParseFault) → lacks_memory o ≡ false → IsOutermost p.pending.items None → Passes p o → IsAlone i shows shows_body s f start p.at o
    without_own p o m none a = by o a (no_own p o m none a)
      where
        by : (o : Result (NodeFunc E B) ParseFault) → Passes p o → passes (body_at i) (given i) depth_limit f (front s i start) ≡ pass_alone (body_at i) (given i) depth_limit f (front s i start) → IsAlone i shows shows_body s f start p.at o
        by (Ok node) a e = let x = func_read i shows shows_body node a in alone_is p.at node x.0 x.1 (ap bare (sym e) ∙ ap (λ (g : Parser Function). bare (g (front s i start))) (sym alone_here) ∙ read_bare x.2)
        by (Err fault) a e = alone_refused shows shows_body p.at fault (subst (λ r. Faults s i fault (bare r)) e (subst (λ (g : Parser Function). Faults s i fault (bare (g (front s i start)))) alone_here (fault_bare s i p fault [] _ a)))

    -- its own body stands there
    pub own_there : (p : Cursor) (o : Result (NodeFunc E B) ParseFault) → lacks_memory o ≡ false → (own : Pending) → IsOutermost p.pending.items (Some own) → Passes p o → Stood (body_at i) (given i) depth_limit f (front s i start) (recorded s i own)
    own_there p o m own k a = own_stood (body_at i) (given i) depth_limit f (front s i start) (map (recorded s i) k.0) (recorded s i own) (all_pending p o m a ∙ ap (map (recorded s i)) k.1 ∙ map_last (recorded s i) k.0 own) (ap (λ d. depth_limit - d) k.2)

    module _ (own : Pending) (st : Stood (body_at i) (given i) depth_limit f (front s i start) (recorded s i own)) (q : Cursor) (rs : List Recorded) where
      -- the parser of its own body
      abbrev pub own_reply : Reply BodyRead
      own_reply = pure.reading (stmts_at i 0) f st.head.start (is_simple st.head.params) (front s i own.token)

      pub own_here : own_reply ≡ own_body (body_at i) (given i) depth_limit f st.head (front s i own.token)
      unfolding stmts_at all_at
      own_here = refl

      -- a fault of the own body
      pub own_refused : (e : ParseFault) → Refuses s i q e rs own_reply → (stop : ℕ) → IsAlone {E = E} {B = B} i shows shows_body s f start stop (Err e)
      own_refused e a stop = by e (fault_bare s i q e rs own_reply a)
        where
          by : (e : ParseFault) → Faults s i e (bare own_reply) → IsAlone {E = E} {B = B} i shows shows_body s f start stop (Err e)
          by (faults.Unexpected k) h = alone_refused shows shows_body stop (faults.Unexpected k) (own_bad (body_at i) (given i) depth_limit f (front s i start) (front s i k) (recorded s i own) st (ap bare (sym own_here) ∙ h))
          by (faults.TooDeep k) h = alone_refused shows shows_body stop (faults.TooDeep k) (own_deep (body_at i) (given i) depth_limit f (front s i start) (front s i k) (recorded s i own) st (ap bare (sym own_here) ∙ h))
          by faults.NoMemory h = tt

      -- the own body is read: after it the same is found as where it is passed over

      module _ (p : Cursor) (b : BodyNode B) (a : Answers (BodyOf shows_body) s i q (Ok b) rs own_reply) where
        here : (bare (pass_alone (body_at i) (given i) depth_limit f (front s i start)) ≡ bare (end_of (function_case f None st.head (record { body = BracedBody a.0; end = b.end })) (front s i q.at)))
            × (bare (passes (body_at i) (given i) depth_limit f (front s i start)) ≡ bare (end_of (function_case f None st.head (passed_body (body_at i st.head.start) b.end)) (front s i q.at)))
        here = own_read (body_at i) (given i) depth_limit f 0 refl (front s i start) (front s i q.at) (recorded s i own) st (record { body = BracedBody a.0; end = b.end }) (ap bare (sym own_here) ∙ read_bare a.2)

        pub own_then_refused : (e : ParseFault) → lacks_memory {B = NodeFunc E B} (Err e) ≡ false → Passes p (Err e) → IsAlone {E = E} {B = B} i shows shows_body s f start q.at (Err e)
        own_then_refused e m k =
            let faulty : Faults s i e (bare (passes (body_at i) (given i) depth_limit f (front s i start))) = subst (λ (g : Parser Function). Faults s i e (bare (g (front s i start)))) alone_here (fault_bare s i p e [] _ k) in
            alone_refused shows shows_body q.at e (subst (Faults s i e) (sym here.0) (end_faults s i _ _ (front s i q.at) e (same_memory e m) (subst (Faults s i e) here.1 faulty)))
          where
            same_memory : (e : ParseFault) → lacks_memory {B = NodeFunc E B} (Err e) ≡ false → lacks_memory {B = Function} (Err e) ≡ false
            same_memory (faults.Unexpected t) m = refl
            same_memory (faults.TooDeep t) m = refl
            same_memory faults.NoMemory m = m

        -- the function with its own body, which is read where it stands
        pub own_function : (node : NodeFunc E B) → Passes p (Ok node) → (x : Function) × ShowFunc i shows shows_body (record node { end = b.end; body = bodies.Braced b.node }) x × (bare (pass_alone (body_at i) (given i) depth_limit f (front s i start)) ≡ Read x [] (front s i q.at))
        unfolding with_body
        own_function node k =
            let x = func_read i shows shows_body node k in
            let reads : bare (passes (body_at i) (given i) depth_limit f (front s i start)) ≡ Read x.0 [] (front s i p.at) = ap (λ (g : Parser Function). bare (g (front s i start))) (sym alone_here) ∙ read_bare x.2 in
            let r = end_reads _ (function_case f None st.head (record { body = BracedBody a.0; end = b.end })) x.0 (front s i q.at) (front s i p.at) (sym here.1 ∙ reads) in (
              function_case f None st.head (record { body = BracedBody a.0; end = b.end }),
              subst (ShowFunc i shows shows_body (record node { end = b.end; body = bodies.Braced b.node })) (ap (with_body b.end (BracedBody a.0)) (sym r.0)) (with_own i shows shows_body node x.0 x.1 b.end b.node a.0 a.1),
              here.0 ∙ r.2,
            )

        pub own_then_read : (node : NodeFunc E B) → Passes p (Ok node) → IsAlone i shows shows_body s f start q.at (Ok (record node { end = b.end; body = bodies.Braced b.node }))
        own_then_read node k = let x = own_function node k in alone_is q.at (record node { end = b.end; body = bodies.Braced b.node }) x.0 x.1 x.2
