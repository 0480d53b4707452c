-- All calls of the parser of expressions read where more lexemes follow what they read where the lexemes end, or more.
use Rattle.std.proofs.Common.{◌≡◌, ℕ, zero, suc, ◌≤◌, List, [], ◌∷◌, ◌++◌, length, refl, sym, ap, ◌∙◌, subst, arith, append-nil, Bool, true, false, ◌&&◌, Option, Some, None, inl, inr}
use Rattle.script_grammar.specs.declared.token.Kind.{Kind}
use Rattle.script_grammar.specs.declared.token.Kind.TheVariants as kind
use Rattle.script_grammar.specs.declared.token.FuncForm.{FuncForm}
use Rattle.script_grammar.specs.declared.token.mark.TheConstants as mark
use Rattle.script_grammar.specs.Lexeme.{Lexeme}
use Rattle.script_grammar.specs.Kinds.{is_mark, is_name}
use Rattle.script_grammar.specs.Tree.{Expr, Body}
use Rattle.script_grammar.specs.Pieces.{Bodies, Opener, paren, brace, open_behind, open_at_end}
use Rattle.grammar_parser_specs.specs.Parser.{Recorded, Reply, Read, Bad, Deep, Parser, head_of, end_lexeme, after, ret, bad, bind, step, when}
use Rattle.grammar_parser_specs.specs.Exprs
use Rattle.grammar_parser_specs.specs.Exprs.{Env, BodyParser, AnAssign, APrefix, ANew, Head, begins_call, calls, call_case, is_arrow, arrow_behind, arrow_opens, closed_case, only_params, pass_case, pass_over, passed_body, passing}
use Rattle.grammar_parser_laws.proofs.Friendly.{AtFront}
use Rattle.grammar_parser_laws.proofs.Tests.{mark_known, bool_cases, and_left, and_right}
use Rattle.grammar_parser_laws.proofs.Nested.{open_step}
use Rattle.grammar_parser_laws.proofs.NestedTrees.{nested_expr}
use Rattle.grammar_sound_laws.proofs.Lone.{of_kind}
use Rattle.grammar_parser_laws.proofs.Local.{Local, left, left_noted, after_shorter, local_ret, local_bind, local_note, local_step}
use Rattle.grammar_parser_laws.proofs.Sound.{Outcome}
use Rattle.grammar_parser_laws.proofs.SoundParts.{IsExpr, SoundEnv, SoundBody}
use Rattle.grammar_sound_laws.proofs.SoundCalls.{case_sound, calls_sound}
use Rattle.grammar_local_laws.proofs.LocalArrows.{arrow_body_local}
use Rattle.grammar_local_laws.proofs.LocalRace.{Next, RunsOut, IsRead, WhereRead, where_any, opens_local, opens_false}
use Rattle.grammar_local_laws.proofs.LocalHeads.{paren_reads}
use Rattle.grammar_local_laws.proofs.LocalCalls.{LocalRoom, local_room}
use Rattle.grammar_local_laws.proofs.PassingLaws.{pass_local}
use Rattle.grammar_local_laws.proofs.Steady.{Goes, Steady, SteadyEnv, ReadsNone, goes_less, goes_none, steady_ret, steady_bad, steady_note, steady_when, steady_peek, steady_step, steady_bind, steady_no_room, plain_steady, arrow_steady, prefix_steady, new_steady}

known : (k : Kind) (t : Lexeme) → t.kind ≡ k → of_kind k t ≡ t
known k t e = ap (λ j. of_kind j t) (sym e)

where_after : {A B : Type 0} (r : Reply A) (f : A → Parser B) (P : Type 0) → WhereRead r P → WhereRead (after r f) P
where_after (Read a rs us) f P h = where_any (after (Read a rs us) f) P h
where_after (Bad rs us) f P h = tt
where_after (Deep rs us) f P h = tt

-- where the lexemes end with the one that closes all brackets, the mark is looked for in what follows
closes_end : (o : Opener) (os : List Opener) (us q : List Lexeme) → RunsOut (o ∷ os) us → open_at_end (o ∷ os) us ≡ Some [] → arrow_behind (o ∷ os) (us ++ q) ≡ is_arrow (head_of q)
closes_end o os [] q r e = absurd (cc)
closes_end o os (t ∷ us) q r e = by (open_behind t.kind (o ∷ os)) (λ x xs k g. closes_end x xs us q k g) r e
  where
    last : (us : List Lexeme) → RunsOut [] us → is_arrow (head_of (us ++ q)) ≡ is_arrow (head_of q)
    last [] k = refl
    last (u ∷ us) k = absurd k

    by : (b : Option (List Opener)) → ((x : Opener) (xs : List Opener) → RunsOut (x ∷ xs) us → open_at_end (x ∷ xs) us ≡ Some [] → arrow_behind (x ∷ xs) (us ++ q) ≡ is_arrow (head_of q)) → Next b (λ qs. RunsOut qs us) → ◌≡◌ {A = Option (List Opener)} (elim b [ None ↦ None | Some x ↦ open_at_end x us ]) (Some []) → closed_case b (is_arrow (head_of (us ++ q))) (λ qs. arrow_behind qs (us ++ q)) ≡ is_arrow (head_of q)
    by None i k g = absurd k
    by (Some []) i k g = last us k
    by (Some (x ∷ xs)) i k g = i x xs k g

head_name : (t : Lexeme) (us : List Lexeme) → is_name t.kind ≡ true → Exprs.is_arrow_head (t ∷ us) ≡ is_arrow (head_of us)
unfolding Exprs.is_arrow_head
head_name t us e = rw e refl

head_other : (t : Lexeme) (us : List Lexeme) → is_name t.kind ≡ false → Exprs.is_arrow_head (t ∷ us) ≡ (is_mark mark.OPEN_PAREN t.kind && arrow_opens us)
unfolding Exprs.is_arrow_head
head_other t us e = rw e refl

module _ (v : Env) (l : LocalRoom v) (h : SteadyEnv v) (m : Bodies) (d : ℕ) (s : SoundEnv m (suc d) v) (w : Bool) where
  abbrev choice : Bool → Parser Expr
  choice b = when b (Exprs.arrow_of v w) (Exprs.plain_of v w)

  choice_steady : (b : Bool) → Steady (choice b)
  choice_steady b = steady_when b (arrow_steady v l.env h w) (plain_steady v l.env h w)

  same_choice : (b c : Bool) → c ≡ b → (ts : List Lexeme) (x : Lexeme) (r : List Lexeme) → Goes (x ∷ r) (choice b ts) (choice c (ts ++ x ∷ r))
  same_choice b c e ts x r = subst (λ y. Goes (x ∷ r) (choice b ts) (choice y (ts ++ x ∷ r))) (sym e) ((choice_steady b).at ts x r)

  -- the mark is read
  abbrev behind : Head → Parser Expr
  behind p = bind Exprs.arrow_mark (λ _. bind (Exprs.arrow_body v w p) (λ b. ret (Exprs.arrow_case p b)))

  mark_less : (p : Head) (x : Lexeme) (r : List Lexeme) → is_arrow x ≡ true → length (left (behind p (x ∷ r))) ≤ length r
  unfolding Exprs.arrow_mark
  mark_less p x r k =
      let mark : Parser (Unit {0}) = step (ret tt) in
      omega (arith, after_shorter (λ _. bind (Exprs.arrow_body v w p) (λ b. ret (Exprs.arrow_case p b))) (λ _. local_bind (arrow_body_local v l.env w p) (λ b. local_ret (Exprs.arrow_case p b))) (when (is_arrow x) mark bad (x ∷ r)), ap (λ b. length (left (when b mark bad (x ∷ r)))) k)

  -- a name that is the last lexeme
  name_less : (t x : Lexeme) (r : List Lexeme) → is_name t.kind ≡ true → is_arrow x ≡ true → length (left (Exprs.arrow_of v w (t ∷ x ∷ r))) ≤ length r
  unfolding Exprs.arrow_of Exprs.arrow_head
  name_less t x r e k = omega (arith, mark_less (Exprs.bare_head t) x r k, ap (λ b. length (left (after (when b (step (ret (Exprs.bare_head t))) (when (is_mark mark.OPEN_PAREN t.kind) (step (Exprs.arrow_listed v t.start)) bad) (t ∷ x ∷ r)) behind))) e)

  name_goes : (t : Lexeme) (us : List Lexeme) (x : Lexeme) (r : List Lexeme) → is_name t.kind ≡ true → Goes (x ∷ r) (choice (Exprs.is_arrow_head (t ∷ us)) (t ∷ us)) (choice (Exprs.is_arrow_head (t ∷ (us ++ x ∷ r))) (t ∷ (us ++ x ∷ r)))
  name_goes t [] x r e = subst (λ b. Goes (x ∷ r) (choice b (t ∷ [])) (choice (Exprs.is_arrow_head (t ∷ x ∷ r)) (t ∷ x ∷ r))) (sym (head_name t [] e)) (by (is_arrow x) refl)
    where
      by : (b : Bool) → is_arrow x ≡ b → Goes (x ∷ r) (Exprs.plain_of v w (t ∷ [])) (choice (Exprs.is_arrow_head (t ∷ x ∷ r)) (t ∷ x ∷ r))
      by true k = subst (λ b. Goes (x ∷ r) (Exprs.plain_of v w (t ∷ [])) (choice b (t ∷ x ∷ r))) (sym (head_name t (x ∷ r) e ∙ k)) (goes_less (x ∷ r) (Exprs.plain_of v w (t ∷ [])) (Exprs.arrow_of v w (t ∷ x ∷ r)) (omega (arith, name_less t x r e k)))
      by false k = same_choice false (Exprs.is_arrow_head (t ∷ x ∷ r)) (head_name t (x ∷ r) e ∙ k) (t ∷ []) x r
  name_goes t (u ∷ us) x r e = same_choice (Exprs.is_arrow_head (t ∷ u ∷ us)) (Exprs.is_arrow_head (t ∷ u ∷ (us ++ x ∷ r))) (head_name t (u ∷ (us ++ x ∷ r)) e ∙ sym (head_name t (u ∷ us) e)) (t ∷ u ∷ us) x r

  -- a parenthesis with which the lexemes end: what is read there can be parameters
  module _ (q us : List Lexeme) (t : Lexeme) (r : RunsOut (paren ∷ []) us) (f : only_params true (paren ∷ []) (us ++ q) ≡ true) where
    open_lexeme : Lexeme
    open_lexeme = of_kind (kind.Mark mark.OPEN_PAREN) t

    Listed : Type 0
    Listed = IsRead q (Exprs.arrow_listed v t.start (us ++ q))

    left_reads : WhereRead (Exprs.left_of v true (open_lexeme ∷ us)) Listed
    unfolding Exprs.left_of Exprs.new_or_prim Exprs.prim_of open_lexeme Listed
    left_reads = where_after (Exprs.paren_of v true t.start us) (Exprs.chain_of (Exprs.tail_turn v)) (IsRead q (Exprs.arrow_listed v t.start (us ++ q))) (paren_reads v l.env q m (suc d) s (l.pair q) t.start us r f)

    power_reads : WhereRead (Exprs.power_of v true (open_lexeme ∷ us)) Listed
    unfolding Exprs.power_of Exprs.unary_of Exprs.update_of open_lexeme
    power_reads = where_after (after (Exprs.left_of v true (open_lexeme ∷ us)) (Exprs.postfix_of t.start)) _ Listed (where_after (Exprs.left_of v true (open_lexeme ∷ us)) (Exprs.postfix_of t.start) Listed left_reads)

    level_reads : (n : ℕ) → WhereRead (Exprs.level_of v w n true (open_lexeme ∷ us)) Listed
    unfolding Exprs.level_of
    level_reads zero = power_reads
    level_reads (suc n) = where_after (Exprs.level_of v w n true (open_lexeme ∷ us)) _ Listed (level_reads n)

    plain_reads : WhereRead (Exprs.plain_of v w (open_lexeme ∷ us)) Listed
    unfolding Exprs.plain_of Exprs.cond_of Exprs.short_circuit
    plain_reads = where_after (Exprs.cond_of v w true (open_lexeme ∷ us)) _ Listed (where_after (Exprs.short_circuit v w true (open_lexeme ∷ us)) _ Listed (where_after (Exprs.level_of v w 8 true (open_lexeme ∷ us)) _ Listed (level_reads 8)))

  reads_at : (q us : List Lexeme) (t : Lexeme) → is_mark mark.OPEN_PAREN t.kind ≡ true → RunsOut (paren ∷ []) us → only_params true (paren ∷ []) (us ++ q) ≡ true → WhereRead (Exprs.plain_of v w (t ∷ us)) (IsRead q (Exprs.arrow_listed v t.start (us ++ q)))
  unfolding open_lexeme Listed
  reads_at q us t e r f = subst (λ x. WhereRead (Exprs.plain_of v w (x ∷ us)) (IsRead q (Exprs.arrow_listed v t.start (us ++ q)))) (known (kind.Mark mark.OPEN_PAREN) t (mark_known mark.OPEN_PAREN t.kind e)) (plain_reads q us t r f)

  -- then the mark is read too
  listed_less : (t : Lexeme) (us : List Lexeme) (x : Lexeme) (r : List Lexeme) → is_name t.kind ≡ false → is_mark mark.OPEN_PAREN t.kind ≡ true → is_arrow x ≡ true → IsRead (x ∷ r) (Exprs.arrow_listed v t.start (us ++ x ∷ r)) → length (left (Exprs.arrow_of v w (t ∷ (us ++ x ∷ r)))) ≤ length r
  unfolding Exprs.arrow_of Exprs.arrow_head
  listed_less t us x r n e k i =
      omega (
        arith,
        mark_less i.0 x r k,
        ap length (left_noted i.1 (behind i.0 (x ∷ r))),
        ap (λ b. length (left (after (when b (step (ret (Exprs.bare_head t))) (when (is_mark mark.OPEN_PAREN t.kind) (step (Exprs.arrow_listed v t.start)) bad) (t ∷ (us ++ x ∷ r))) behind))) n,
        ap (λ b. length (left (after (when b (step (Exprs.arrow_listed v t.start)) bad (t ∷ (us ++ x ∷ r))) behind))) e,
        ap (λ y. length (left (after y behind))) i.2,
      )

  -- what is read has its brackets matched
  read_closes : (t : Lexeme) (us : List Lexeme) (e : Expr) (rs : List Recorded) → is_mark mark.OPEN_PAREN t.kind ≡ true → Exprs.assign_of v w (t ∷ us) ≡ Read e rs [] → open_at_end (paren ∷ []) us ≡ Some []
  read_closes t us e rs k g =
      let o : Outcome AtFront (IsExpr m w (suc d) 20) (IsExpr m w (suc d) 20) (t ∷ us) (Read e rs []) = subst (λ y. Outcome AtFront (IsExpr m w (suc d) 20) (IsExpr m w (suc d) 20) (t ∷ us) y) g (((case_sound m d v s).assign w).at (t ∷ us)) in
      sym (open_step [] (paren ∷ []) t us (ap (λ j. open_behind j []) (mark_known mark.OPEN_PAREN t.kind k)))
      ∙ ap (open_at_end []) (o.split ∙ append-nil o.front)
      ∙ (nested_expr m (suc d) e o.is.proper).at o.front end_lexeme (o.is.fits.before end_lexeme) []

  paren_goes : (t : Lexeme) (us : List Lexeme) (x : Lexeme) (r : List Lexeme) → is_name t.kind ≡ false → is_mark mark.OPEN_PAREN t.kind ≡ true → RunsOut (paren ∷ []) us → Exprs.is_arrow_head (t ∷ (us ++ x ∷ r)) ≡ true → (p : Reply Expr) → Exprs.plain_of v w (t ∷ us) ≡ p → Goes (x ∷ r) p (Exprs.arrow_of v w (t ∷ (us ++ x ∷ r)))
  unfolding Exprs.assign_of
  paren_goes t us x r n k runs a (Read e rs []) g =
      let opens : arrow_opens (us ++ x ∷ r) ≡ true = and_right (is_mark mark.OPEN_PAREN t.kind) (arrow_opens (us ++ x ∷ r)) (sym (head_other t (us ++ x ∷ r) n) ∙ a) in
      let plain : Exprs.is_arrow_head (t ∷ us) ≡ false = head_other t us n ∙ ap (λ b. b && arrow_opens us) k ∙ opens_false us runs in
      let closed : open_at_end (paren ∷ []) us ≡ Some [] = read_closes t us e rs k (ap (λ b. choice b (t ∷ us)) plain ∙ g) in
      let mark : is_arrow x ≡ true = sym (closes_end paren [] us (x ∷ r) runs closed) ∙ and_left (arrow_behind (paren ∷ []) (us ++ x ∷ r)) (only_params true (paren ∷ []) (us ++ x ∷ r)) opens in
      let listed : IsRead (x ∷ r) (Exprs.arrow_listed v t.start (us ++ x ∷ r)) = subst (λ y. WhereRead y (IsRead (x ∷ r) (Exprs.arrow_listed v t.start (us ++ x ∷ r)))) g (reads_at (x ∷ r) us t k runs (and_right (arrow_behind (paren ∷ []) (us ++ x ∷ r)) (only_params true (paren ∷ []) (us ++ x ∷ r)) opens)) in
      goes_less (x ∷ r) (Read e rs []) (Exprs.arrow_of v w (t ∷ (us ++ x ∷ r))) (omega (arith, listed_less t us x r n k mark listed))
  paren_goes t us x r n k runs a (Read e rs (u ∷ ys)) g = tt
  paren_goes t us x r n k runs a (Bad rs ys) g = tt
  paren_goes t us x r n k runs a (Deep rs ys) g = tt

  open_goes : (t : Lexeme) (us : List Lexeme) (x : Lexeme) (r : List Lexeme) → is_name t.kind ≡ false → is_mark mark.OPEN_PAREN t.kind ≡ true → RunsOut (paren ∷ []) us → (c : Bool) → Exprs.is_arrow_head (t ∷ (us ++ x ∷ r)) ≡ c → Goes (x ∷ r) (choice false (t ∷ us)) (choice c (t ∷ (us ++ x ∷ r)))
  open_goes t us x r n k runs true a = paren_goes t us x r n k runs a (Exprs.plain_of v w (t ∷ us)) refl
  open_goes t us x r n k runs false a = (choice_steady false).at (t ∷ us) x r

  other_goes : (t : Lexeme) (us : List Lexeme) (x : Lexeme) (r : List Lexeme) → is_name t.kind ≡ false → (o : Bool) → is_mark mark.OPEN_PAREN t.kind ≡ o → Goes (x ∷ r) (choice (Exprs.is_arrow_head (t ∷ us)) (t ∷ us)) (choice (Exprs.is_arrow_head (t ∷ (us ++ x ∷ r))) (t ∷ (us ++ x ∷ r)))
  other_goes t us x r n false o = same_choice (Exprs.is_arrow_head (t ∷ us)) (Exprs.is_arrow_head (t ∷ (us ++ x ∷ r))) (head_other t (us ++ x ∷ r) n ∙ ap (λ b. b && arrow_opens (us ++ x ∷ r)) o ∙ sym (head_other t us n ∙ ap (λ b. b && arrow_opens us) o)) (t ∷ us) x r
  other_goes t us x r n true o = elim (opens_local us (x ∷ r)) [
    | inl e ↦ same_choice (Exprs.is_arrow_head (t ∷ us)) (Exprs.is_arrow_head (t ∷ (us ++ x ∷ r))) (head_other t (us ++ x ∷ r) n ∙ ap (λ b. is_mark mark.OPEN_PAREN t.kind && b) e ∙ sym (head_other t us n)) (t ∷ us) x r
    | inr runs ↦ subst (λ b. Goes (x ∷ r) (choice b (t ∷ us)) (choice (Exprs.is_arrow_head (t ∷ (us ++ x ∷ r))) (t ∷ (us ++ x ∷ r)))) (sym (head_other t us n ∙ ap (λ b. b && arrow_opens us) o ∙ opens_false us runs)) (open_goes t us x r n o runs (Exprs.is_arrow_head (t ∷ (us ++ x ∷ r))) refl)
  ]

  none_there : ReadsNone (Exprs.assign_of v w [])
  unfolding Exprs.assign_of Exprs.is_arrow_head Exprs.plain_of Exprs.cond_of Exprs.short_circuit Exprs.level_of Exprs.power_of Exprs.unary_of Exprs.update_of Exprs.left_of Exprs.new_or_prim Exprs.prim_of
  none_there = tt

  assign_steady : Steady (Exprs.assign_of v w)
  unfolding Exprs.assign_of
  assign_steady = record { at = by }
    where
      by : (ts : List Lexeme) (x : Lexeme) (r : List Lexeme) → Goes (x ∷ r) (choice (Exprs.is_arrow_head ts) ts) (choice (Exprs.is_arrow_head (ts ++ x ∷ r)) (ts ++ x ∷ r))
      by [] x r = goes_none (x ∷ r) (choice (Exprs.is_arrow_head []) []) (choice (Exprs.is_arrow_head (x ∷ r)) (x ∷ r)) none_there
      by (t ∷ us) x r = elim (bool_cases (is_name t.kind)) [ inl e ↦ name_goes t us x r e | inr e ↦ other_goes t us x r e (is_mark mark.OPEN_PAREN t.kind) refl ]

-- with whatever room for depth

module _ (m : Bodies) (body : ℕ → BodyParser) (b : (room d : ℕ) → SoundBody m d (body room)) (k : (room : ℕ) (f : FuncForm) (start : ℕ) (simple : Bool) → Local (body room f start simple))
    (t : (room : ℕ) (f : FuncForm) (start : ℕ) (simple : Bool) → Steady (body room f start simple)) (n : (room : ℕ) (f : FuncForm) (start : ℕ) (simple : Bool) → ReadsNone (body room f start simple [])) where
  pub calls_steady : (room : ℕ) → SteadyEnv (record { sub = calls body room; body = body room })
  unfolding calls
  calls_steady zero = record { assign = λ w. steady_no_room (begins_call (AnAssign w)); prefix = steady_no_room (begins_call APrefix); new = steady_no_room (begins_call ANew); body = t zero; body_none = n zero }
  calls_steady (suc room) =
      let v : Env = record { sub = calls body room; body = body room } in
      let l : LocalRoom v = local_room m body b k room in
      let h : SteadyEnv v = calls_steady room in
      record {
        assign = λ w. assign_steady v l h m 0 (record { calls = calls_sound m body b room 1; body = b room 1 }) w;
        prefix = prefix_steady v l.env h;
        new = new_steady v l.env h;
        body = t (suc room);
        body_none = n (suc room);
      }

-- a braced body that is passed over

pass_steady : (ps : List Opener) → Steady (pass_over ps)
pass_steady ps = record { at = λ ts x r. by ts ps x r }
  where
    one : (o : Option (List Opener)) (t : Lexeme) (ts : List Lexeme) (x : Lexeme) (r : List Lexeme) → ((qs : List Opener) → Goes (x ∷ r) (pass_over qs ts) (pass_over qs (ts ++ x ∷ r))) → Goes (x ∷ r) (pass_case o t ts (λ os. pass_over os ts)) (pass_case o t (ts ++ x ∷ r) (λ os. pass_over os (ts ++ x ∷ r)))
    one None t ts x r i = tt
    one (Some []) t ts x r i = (steady_ret t.end).at ts x r
    one (Some (q ∷ qs)) t ts x r i = i (q ∷ qs)

    by : (ts : List Lexeme) (ps : List Opener) (x : Lexeme) (r : List Lexeme) → Goes (x ∷ r) (pass_over ps ts) (pass_over ps (ts ++ x ∷ r))
    by [] ps x r = tt
    by (t ∷ ts) ps x r = one (open_behind t.kind ps) t ts x r (λ qs. by ts qs x r)

pub passing_steady : (bodies : ℕ → Body) (room : ℕ) (f : FuncForm) (start : ℕ) (simple : Bool) → Steady (passing bodies room f start simple)
unfolding passing
passing_steady bodies room f start simple = steady_peek
    (λ t. steady_when (is_mark mark.OPEN_BRACE t.kind) (steady_bind (local_note f room simple) (steady_note f room simple) (λ _. local_step (local_bind (pass_local (brace ∷ [])) (λ end. local_ret (passed_body (bodies start) end)))) (λ _. steady_step (local_bind (pass_local (brace ∷ [])) (λ end. local_ret (passed_body (bodies start) end))) (steady_bind (pass_local (brace ∷ [])) (pass_steady (brace ∷ [])) (λ end. local_ret (passed_body (bodies start) end)) (λ end. steady_ret (passed_body (bodies start) end))))) steady_bad)
    (λ x r. tt)

pub passing_none : (bodies : ℕ → Body) (room : ℕ) (f : FuncForm) (start : ℕ) (simple : Bool) → ReadsNone (passing bodies room f start simple [])
unfolding passing
passing_none bodies room f start simple = tt
