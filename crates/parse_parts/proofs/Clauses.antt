-- From what the code answers beside the parser on lists of lexemes to the words of the grammar.
use Rattle.std.proofs.Common.{◌≡◌, ◌∙◌, ℕ, zero, suc, ◌+◌, ◌-◌, ◌<◌, ◌≤◌, List, [], ◌∷◌, ◌++◌, drop, take, length, refl, sym, ap, subst, arith, Bool, Option, Result, Ok, Err, inl, inr}
use Rattle.std.specs.Prelude.{IsErrAnd}
use Rattle.std.proofs.lemmas.List.{length-map, length-drop, length-append, take-append-drop}
use Rattle.std.proofs.lemmas.Result.{err_from_is_err_and}
use Rattle.script_grammar.specs.declared.node.NodeFunc.{NodeFunc}
use Rattle.script_grammar.specs.declared.token.FuncForm.{FuncForm}
use Rattle.script_grammar.specs.declared.token.FuncForm.TheVariants as form
use Rattle.script_grammar.specs.Fault.{depth_limit, Part, AssignPart, ExpressionPart, BodyPart, Unexpected, TooDeep}
use Rattle.script_grammar.specs.Interpretation.{Interpretation}
use Rattle.script_grammar.specs.Lexeme.{Lexeme, lexeme_of}
use Rattle.script_grammar.specs.Pieces.{passed}
use Rattle.script_grammar.specs.Shows.{FuncOf}
use Rattle.script_grammar.specs.Tree.{Named, Expr, Stmts}
use Rattle.grammar_parser_specs.specs.Parser.{Recorded, Reply, Read, Bad, Deep, Parser}
use Rattle.grammar_parser_specs.specs.Exprs.{Env, Calls, AnAssign, passing, expr_of, function_of}
use Rattle.grammar_parser_specs.specs.Stmts as pure
use Rattle.grammar_local_laws.proofs.AgreesScripts.{calls_are}
use Rattle.grammar_script_laws.proofs.Closed.{Closed}
use Rattle.grammar_deferred_laws.proofs.ClosedParts.{Balanced, Matches, leaves_some, balanced_matches, assign_balanced, expression_balanced, body_balanced, head_balanced}
use Rattle.grammar_parser_laws.proofs.Complete.{bare, bare_noted}
use Rattle.grammar_complete_laws.proofs.CompleteFunctions.{PlainForm}
use Rattle.grammar_deferred_laws.proofs.Exact.{FaultsAt, assign_is_exact, expression_is_exact}
use Rattle.grammar_script_laws.proofs.FirstFaults.{Decides}
use Rattle.grammar_script_laws.proofs.PartLaws.{NoneDeep}
use Rattle.grammar_deferred_laws.proofs.PassedBodies.{pass_braced, body_decides}
use Rattle.grammar_deferred_laws.proofs.PassedHeads as heads
use Rattle.grammar_deferred_laws.proofs.PassedHeads.{pass_head, head_decides}
use Rattle.grammar_deferred_laws.proofs.PassedParts.{pass_env, pass_assign, pass_expression, assign_decides, expression_decides}
use Rattle.parse_exprs.specs.declared.part.Ranked.{Ranked}
use Rattle.parse_exprs.specs.declared.place.ParseFault.{ParseFault}
use Rattle.parse_exprs.specs.declared.place.ParseFault.TheVariants as faults
use Rattle.parse_exprs.specs.declared.place.Cursor.{Cursor}
use Rattle.parse_exprs.specs.declared.source.Source.{Source}
use Rattle.parse_exprs.specs.Answers.{Answers, Refuses, ReadAs}
use Rattle.parse_exprs.specs.Env.{body_at, env_at}
use Rattle.parse_exprs.specs.Means.{RankedOf}
use Rattle.parse_exprs.specs.Source.{IsSource, lexemes, front}
use Rattle.parse_exprs.proofs.Closing as closing
use Rattle.parse_exprs.proofs.Partners.{ls}
use Rattle.parse_bodies.specs.Blocks.{stmts_at, all_at}
use Rattle.parse_bodies.specs.Means.{BodyOf}
use Rattle.parse_bodies.specs.declared.part.BodyNode.{BodyNode}
use Rattle.parse_bodies.proofs.Parts.{func_read}
use Rattle.parse_parts.specs.Answers.{IsRefused, IsUnread, IsAssignment, IsExpression, IsHeaded, IsBraced}
use Rattle.parse_parts.specs.Parts.{HeadPart, NoneWhole, NoHead, NoBody, Taken}
use Rattle.parse_parts.proofs.Present.{ReadsNothing, no_head, no_body}
use Rattle.parse_parts.proofs.Refusals.{some_left, bad_refused, deep_refused, renamed}
use Rattle.parse_parts.proofs.Suffixes.{suffix_closed}
use Rattle.parse_parts.proofs.Takes.{given, takes_assign, takes_expression, takes_head, takes_body}

-- an error is handed on
pub handed_on : {A : Type 0} (P : Result A ParseFault → Type 0) (e : ParseFault) (o : Result A ParseFault) → IsErrAnd o (λ y. y ≡ e) → P (Err e) → P o
handed_on P e o h k = let x = err_from_is_err_and o h in subst P (ap Err (sym x.2) ∙ sym x.1) k

-- replies without what was recorded

pub read_bare : {A : Type 0} {rs qs : List Recorded} {r : Reply A} {a : A} {us : List Lexeme} → ReadAs rs r a qs us → bare r ≡ Read a [] us
read_bare {rs = rs} {r = r} h = sym (bare_noted rs r) ∙ ap bare h.is

-- the fault of the code is that of the reply, as far as it is said
abbrev pub Faults : {A : Type 0} → Source → Interpretation → ParseFault → Reply A → Type 0
Faults s i (faults.Unexpected k) r = r ≡ Bad [] (front s i k)
Faults s i (faults.TooDeep k) r = r ≡ Deep [] (front s i k)
Faults s i faults.NoMemory r = Unit {0}

pub fault_bare : {A : Type 0} (s : Source) (i : Interpretation) (p : Cursor) (e : ParseFault) (rs : List Recorded) (r : Reply A) → Refuses s i p e rs r → Faults s i e (bare r)
fault_bare s i p (faults.Unexpected k) rs r h = sym (bare_noted rs r) ∙ ap bare h.is
fault_bare s i p (faults.TooDeep k) rs r h = sym (bare_noted rs r) ∙ ap bare h.is
fault_bare s i p faults.NoMemory rs r h = tt

-- what is read there is read by the parser that passes bodies over
pub env_here : (i : Interpretation) (d : ℕ) → env_at i d ≡ pass_env (body_at i) (given i) (depth_limit - d)
unfolding env_at
env_here i d = ap (λ (s : Calls). record { sub = s; body = passing (body_at i) (depth_limit - d) }) (λ j c. sym (calls_are (passing (body_at i)) (depth_limit - d) c) j)

-- the forms of functions that are no arrows
pub plain_form : (f : FuncForm) → (f ≡ form.Script → ⊥) → (f ≡ form.Arrow → ⊥) → PlainForm f
plain_form form.Function n m = tt
plain_form form.Method n m = tt
plain_form form.Getter n m = tt
plain_form form.Setter n m = tt
plain_form form.Script n m = absurd (n refl)
plain_form form.Arrow n m = absurd (m refl)

-- the tokens from one place on, cut at a later one
parted : (start k : ℕ) (xs : List Lexeme) → start ≤ k → drop start xs ≡ take (k - start) (drop start xs) ++ drop k xs
parted start k xs l = sym (take-append-drop (k - start) (drop start xs)) ∙ ap (λ y. take (k - start) (drop start xs) ++ y) (later start (k - start) xs ∙ ap (λ n. drop n xs) (let e : start + (k - start) ≡ k = omega (arith, l) in e))
  where
    none : (n : ℕ) → drop {A = Lexeme} n [] ≡ []
    none n = nil n
      where
        nil : (n : ℕ) → drop {A = Lexeme} n [] ≡ []
        nil zero = refl
        nil (suc n) = refl

    later : (n j : ℕ) (xs : List Lexeme) → drop j (drop n xs) ≡ drop (n + j) xs
    later zero j xs = let e : j ≡ 0 + j = omega arith in ap (λ m. drop m xs) e
    later (suc n) j [] = none j ∙ sym (none (suc n + j))
    later (suc n) j (x ∷ xs) = let e : suc (n + j) ≡ suc n + j = omega arith in later n j xs ∙ ap (λ m. drop m (x ∷ xs)) e

module _ (s : Source) (h : IsSource s) (i : Interpretation) where
  -- the tokens from one of the text on
  pub closed_at : (at : ℕ) → at < length s.tokens.now → Closed (front s i at)
  unfolding front ls
  closed_at at l =
      let text = closing.split s h i in
      let size : length (lexemes s i) ≡ length s.tokens.now = length-map s.tokens.now (lexeme_of s.get s.set i.texts) in
      let inner : length (lexemes s i) ≡ length (take s.brackets.now.stop (lexemes s i)) + 1 = ap length text ∙ length-append (take s.brackets.now.stop (lexemes s i)) (closing.last s h i ∷ []) in
      subst (λ us. Closed (drop at us)) (sym text)
      (suffix_closed (take s.brackets.now.stop (lexemes s i)) (closing.last s h i) _ (closing.open_before s h i) (subst Closed text (closing.ended s h i).closed) at (omega (arith, l, size, inner)))

  -- where a token is left, the place is one of the text
  pub place_in : (at : ℕ) → (front s i at ≡ [] → ⊥) → at < length s.tokens.now
  unfolding front
  place_in at n =
      let size : length (lexemes s i) ≡ length s.tokens.now = length-map s.tokens.now (lexeme_of s.get s.set i.texts) in
      let left : length (drop at (lexemes s i)) ≡ length (lexemes s i) - at = length-drop at (lexemes s i) in
      let some : 0 < length (drop at (lexemes s i)) = some_left (drop at (lexemes s i)) n in
      omega (arith, size, left, some)

  -- after a part that was taken stands a token of the text
  pub taken_in : (P : Part) → Balanced P → (start stop : ℕ) → start < length s.tokens.now → (t : Taken P (front s i start) (front s i stop)) → stop < length s.tokens.now
  taken_in P b start stop l t = place_in stop (leaves_some P b (front s i start) t.tokens (front s i stop) t.deep (closed_at start l) t.split t.part)

  -- where the code faults, the parser reads nothing

  reads_no_bad : {A : Type 0} (f : Parser A) (from us : List Lexeme) → bare (f from) ≡ Bad [] us → ReadsNothing f from
  reads_no_bad {A = A} f from us e a vs k = never (sym e ∙ k)
    where
      never : ◌≡◌ {A = Reply A} (Bad [] us) (Read a [] vs) → ⊥
      never k = cc

  reads_no_deep : {A : Type 0} (f : Parser A) (from us : List Lexeme) → bare (f from) ≡ Deep [] us → ReadsNothing f from
  reads_no_deep {A = A} f from us e a vs k = never (sym e ∙ k)
    where
      never : ◌≡◌ {A = Reply A} (Deep [] us) (Read a [] vs) → ⊥
      never k = cc

  -- and the fault is the first of the part
  pub fault_is : {A : Type 0} (P : Part) (f : Parser A) → Decides P f → Matches P → (none : Type 0) (start : ℕ) → (ReadsNothing f (front s i start) → none) → start < length s.tokens.now → (e : ParseFault) → Faults s i e (bare (f (front s i start))) → IsRefused P none i s start e
  unfolding front
  fault_is P f d o none start n l (faults.Unexpected k) e = (bad_refused P f d o (lexemes s i) start k (closed_at start l) e, n (reads_no_bad f (drop start (lexemes s i)) (drop k (lexemes s i)) e))
  fault_is P f d o none start n l (faults.TooDeep k) e = (deep_refused P f d (lexemes s i) start k e, n (reads_no_deep f (drop start (lexemes s i)) (drop k (lexemes s i)) e))
  fault_is P f d o none start n l faults.NoMemory e = tt

  -- Where no part that is all of the tokens before a fault is read so, they are none.
  unread : {A : Type 0} (P : Part) (f : Parser A) → ((w us : List Lexeme) (deep : List ℕ) → P w deep → NoneDeep deep → FaultsAt f (w ++ us) us → ⊥) → (start k : ℕ) → start ≤ k → FaultsAt f (front s i start) (front s i k) → NoneWhole P (front s i start) (k - start)
  unfolding front
  unread P f x start k l e = record { none = λ deep p h. x (take (k - start) (drop start (lexemes s i))) (drop k (lexemes s i)) deep p h (subst (λ y. FaultsAt f y (drop k (lexemes s i))) (parted start k (lexemes s i) l) e) }

  pub unread_is : {A : Type 0} (P : Part) (f : Parser A) → Decides P f → Matches P → ((w us : List Lexeme) (deep : List ℕ) → P w deep → NoneDeep deep → FaultsAt f (w ++ us) us → ⊥) → (start : ℕ) → start < length s.tokens.now → (e : ParseFault) → Faults s i e (bare (f (front s i start))) → IsUnread P i s start e
  unfolding front
  unread_is P f d o x start l (faults.Unexpected k) e = let r = bad_refused P f d o (lexemes s i) start k (closed_at start l) e in (r, unread P f x start k r.not_before (inl e))
  unread_is P f d o x start l (faults.TooDeep k) e = let r = deep_refused P f d (lexemes s i) start k e in (r, unread P f x start k r.not_before (inr e))
  unread_is P f d o x start l faults.NoMemory e = tt

  module _ (d : ℕ) (low : d ≤ depth_limit) (start : ℕ) (l : start < length s.tokens.now) (p : Cursor) (rs : List Recorded) where
    room : depth_limit - d + d ≡ depth_limit
    room = omega (arith, low)

    -- an AssignmentExpression

    module _ {E : Type 0} (shows : E → Expr → Type 0) (w : Bool) where
      assign_here : (env_at i d).sub (AnAssign w) ≡ pass_assign (body_at i) (given i) (depth_limit - d) w
      unfolding env_at
      assign_here = sym (calls_are (passing (body_at i)) (depth_limit - d) (AnAssign w))

      pub assignment_is : (v : Ranked E) → Answers (RankedOf shows) s i p (Ok v) rs ((env_at i d).sub (AnAssign w) (front s i start)) → IsAssignment i shows s w d start p.at (Ok v.node)
      assignment_is v a =
          let t = takes_assign i (depth_limit - d) d room (front s i start) (front s i p.at) shows w v.node a.0 (closed_at start l) a.1 (ap (λ (f : Parser Expr). bare (f (front s i start))) (sym assign_here) ∙ read_bare a.4) in
          (taken_in (AssignPart passed w d) (assign_balanced passed w d) start p.at l t.taken, t)

      pub assignment_refused : (e : ParseFault) → Refuses s i p e rs ((env_at i d).sub (AnAssign w) (front s i start)) → IsAssignment {E = E} i shows s w d start p.at (Err e)
      assignment_refused e a =
          unread_is (AssignPart passed w d) (pass_assign (body_at i) (given i) (depth_limit - d) w) (assign_decides (body_at i) (given i) (depth_limit - d) d room w) (balanced_matches (AssignPart passed w d) (assign_balanced passed w d)) (assign_is_exact (body_at i) (given i) (depth_limit - d) d room w) start l e
          (subst (λ (f : Parser Expr). Faults s i e (bare (f (front s i start)))) assign_here (fault_bare s i p e rs _ a))

    -- an Expression

    module _ {E : Type 0} (shows : E → Expr → Type 0) (w : Bool) where
      expression_here : expr_of (env_at i d) w ≡ pass_expression (body_at i) (given i) (depth_limit - d) w
      expression_here = ap (λ (v : Env). expr_of v w) (env_here i d)

      pub expression_is : (v : Ranked E) → Answers (RankedOf shows) s i p (Ok v) rs (expr_of (env_at i d) w (front s i start)) → IsExpression i shows s w d start p.at (Ok v.node)
      expression_is v a =
          let t = takes_expression i (depth_limit - d) d room (front s i start) (front s i p.at) shows w v.node a.0 (closed_at start l) a.1 (ap (λ (f : Parser Expr). bare (f (front s i start))) (sym expression_here) ∙ read_bare a.4) in
          (taken_in (ExpressionPart passed w d) (expression_balanced passed w d) start p.at l t.taken, t)

      pub expression_refused : (e : ParseFault) → Refuses s i p e rs (expr_of (env_at i d) w (front s i start)) → IsExpression {E = E} i shows s w d start p.at (Err e)
      expression_refused e a =
          unread_is (ExpressionPart passed w d) (pass_expression (body_at i) (given i) (depth_limit - d) w) (expression_decides (body_at i) (given i) (depth_limit - d) d room w) (balanced_matches (ExpressionPart passed w d) (expression_balanced passed w d)) (expression_is_exact (body_at i) (given i) (depth_limit - d) d room w) start l e
          (subst (λ (f : Parser Expr). Faults s i e (bare (f (front s i start)))) expression_here (fault_bare s i p e rs _ a))

    -- a function that is no arrow

    module _ {E B : Type 0} (shows : E → Expr → Type 0) (shows_body : B → Stmts → Type 0) (f : FuncForm) (name : Option Named) (plain : PlainForm f) where
      head_here : function_of (env_at i d) f name ≡ pass_head (body_at i) (given i) (depth_limit - d) d f name plain
      head_here = ap (λ (v : Env). function_of v f name) (env_here i d)

      head_to : (w : List Lexeme) (deep : List ℕ) → heads.HeadPart passed f name d w deep → HeadPart passed f name d w deep
      head_to w deep x = record { next = x.next; tree = x.tree; is = record { of = x.is.of; proper = x.is.proper; fits = x.is.fits }; deep_is = x.deep_is }

      head_back : (w : List Lexeme) (deep : List ℕ) → HeadPart passed f name d w deep → heads.HeadPart passed f name d w deep
      head_back w deep x = record { next = x.next; tree = x.tree; is = record { of = x.is.of; proper = x.is.proper; fits = x.is.fits }; deep_is = x.deep_is }

      pub headed_is : (n : NodeFunc E B) → Answers (FuncOf i shows shows_body) s i p (Ok n) rs (function_of (env_at i d) f name (front s i start)) → IsHeaded i shows shows_body s f name d start p.at (Ok n)
      headed_is n a =
          let x = func_read i shows shows_body n a in
          let t = takes_head i (depth_limit - d) d room (front s i start) (front s i p.at) shows shows_body f n x.0 name plain x.1 (ap (λ (g : Parser _). bare (g (front s i start))) (sym head_here) ∙ read_bare x.2) in
          (place_in p.at (leaves_some (heads.HeadPart passed f name d) (head_balanced passed f name d) (front s i start) t.taken.tokens (front s i p.at) t.taken.deep (closed_at start l) t.taken.split (head_back t.taken.tokens t.taken.deep t.taken.part)), t)

      pub headed_refused : (e : ParseFault) → Refuses s i p e rs (function_of (env_at i d) f name (front s i start)) → IsHeaded {E = E} {B = B} i shows shows_body s f name d start p.at (Err e)
      headed_refused e a =
          renamed_fault e
          (fault_is (heads.HeadPart passed f name d) (pass_head (body_at i) (given i) (depth_limit - d) d f name plain) (head_decides (body_at i) (given i) (depth_limit - d) d f name plain room) (balanced_matches (heads.HeadPart passed f name d) (head_balanced passed f name d)) (NoHead f name d (front s i start)) start (no_head i (depth_limit - d) d room (front s i start) f name plain) l e
          (subst (λ (g : Parser _). Faults s i e (bare (g (front s i start)))) head_here (fault_bare s i p e rs _ a)))
        where
          renamed_fault : (e : ParseFault) → IsRefused (heads.HeadPart passed f name d) (NoHead f name d (front s i start)) i s start e → IsRefused (HeadPart passed f name d) (NoHead f name d (front s i start)) i s start e
          renamed_fault (faults.Unexpected k) r = (renamed (heads.HeadPart passed f name d) (HeadPart passed f name d) head_to head_back (front s i start) start k Unexpected r.0, r.1)
          renamed_fault (faults.TooDeep k) r = (renamed (heads.HeadPart passed f name d) (HeadPart passed f name d) head_to head_back (front s i start) start k TooDeep r.0, r.1)
          renamed_fault faults.NoMemory r = tt

    -- a braced body

    module _ {B : Type 0} (shows : B → Stmts → Type 0) (f : FuncForm) (at : ℕ) (simple : Bool) where
      body_here : pure.reading (stmts_at i d) f at simple ≡ pass_braced (body_at i) (given i) (depth_limit - d) f at simple
      unfolding stmts_at all_at
      body_here = refl

      pub braced_is : (v : BodyNode B) → Answers (BodyOf shows) s i p (Ok v) rs (pure.reading (stmts_at i d) f at simple (front s i start)) → IsBraced i shows s d start p.at (Ok v)
      braced_is v a =
          let t = takes_body i (depth_limit - d) d room (front s i start) (front s i p.at) shows f at simple v.node a.0 v.end a.1 (ap (λ (g : Parser _). bare (g (front s i start))) (sym body_here) ∙ read_bare a.2) in
          (taken_in (BodyPart passed d) (body_balanced passed d) start p.at l t.taken, t)

      pub braced_refused : (e : ParseFault) → Refuses s i p e rs (pure.reading (stmts_at i d) f at simple (front s i start)) → IsBraced {B = B} i shows s d start p.at (Err e)
      braced_refused e a =
          fault_is (BodyPart passed d) (pass_braced (body_at i) (given i) (depth_limit - d) f at simple) (body_decides (body_at i) (given i) (depth_limit - d) d room f at simple) (balanced_matches (BodyPart passed d) (body_balanced passed d)) (NoBody d (front s i start)) start (no_body i (depth_limit - d) d room (front s i start) f at simple) l e
          (subst (λ (g : Parser _). Faults s i e (bare (g (front s i start)))) body_here (fault_bare s i p e rs _ a))
