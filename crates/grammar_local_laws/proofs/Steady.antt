-- What is read where the lexemes end is read where more follow, or more is read: no parser faults at the first of them. With
-- the parts of the parser of expressions that may end an expression, where the calls that count for the depth are so.
use Rattle.std.proofs.Common.{◌≡◌, ℕ, zero, suc, ◌≤◌, ◌<◌, List, [], ◌∷◌, ◌++◌, length, refl, sym, ap, ◌∙◌, subst, arith, length-append, Bool, true, false, ◌&&◌, ◌||◌, not, nat_le, Option, Some, None, ◌⊎◌, inl, inr}
use Rattle.std.proofs.lemmas.Bool.{ne_eqb}
use Rattle.script_grammar.specs.declared.token.Kind.{Kind}
use Rattle.script_grammar.specs.declared.token.FuncForm.{FuncForm}
use Rattle.script_grammar.specs.declared.token.FuncForm.TheVariants as form
use Rattle.script_grammar.specs.declared.token.mark.TheConstants as mark
use Rattle.script_grammar.specs.declared.token.word.TheConstants as word
use Rattle.script_grammar.specs.Lexeme.{Lexeme}
use Rattle.script_grammar.specs.Kinds.{is_mark, is_word, is_head, is_middle, is_tail, is_any_word, is_assign_mark, is_prefix, is_update}
use Rattle.script_grammar.specs.Tree.{Named, Expr, Tail}
use Rattle.script_grammar.specs.Tree as tree
use Rattle.script_grammar.specs.Proper.{rank}
use Rattle.script_grammar.specs.TreeLists.{Operand}
use Rattle.grammar_parser_specs.specs.Parser.{Recorded, Reply, Read, Bad, Deep, Parser, end_lexeme, noted, after, ret, bad, deep, bind, peek, step, when, note, no_room, Turn, Again, Stop, Many, turned, turns, loop, begun, stopped}
use Rattle.grammar_parser_specs.specs.Exprs
use Rattle.grammar_parser_specs.specs.Exprs.{Env, AnAssign, APrefix, ANew, Head, expect, again, is_atom, atom_case, is_chain_head, is_update_expr, is_op, is_arrow, is_simple, short_body, spanned, spanned_reply, last_end}
use Rattle.grammar_parser_laws.proofs.Local.{Local, Same, out, kept, left, grown_records, left_noted, after_shorter, local_ret, local_bind, local_peek, local_when, local_step, local_loop, local_turned, local_turns, Gains, enough, Eats, Ate}
use Rattle.grammar_parser_laws.proofs.Spanned.{local_spanned, spanned_left, grown_taken}
use Rattle.grammar_local_laws.proofs.LocalExprs.{LocalEnv, expect_local, maybe_name_local, dot_local, again_local, more_turn_local, more_turn_gains, expr_local, args_local, more_args_local, item_turn_local, item_turn_gains, part_turn_local, part_turn_gains, template_local, params_head_local, function_local, func_local, more_props_local, array_local, object_local, lead_items_local, items_local, paren_local, index_local, call_local, member_turn_local, member_turn_gains, tail_turn_local, tail_turn_gains, chain_local, new_or_prim_local, new_from_local, left_local, postfix_local, unary_local, power_turn_local, power_turn_gains, op_turn_local, op_turn_gains, operands_local, level_local, cond_tail_local, short_behind_local, short_circuit_local, cond_local, assign_tail_local}
use Rattle.grammar_local_laws.proofs.LocalArrows.{arrow_head_local, arrow_mark_local, arrow_body_local}

-- the same is read up to these lexemes, or more
abbrev pub Goes : {A : Type 0} → List Lexeme → Reply A → Reply A → Type 0
Goes q (Read a rs []) s = ((qs : List Recorded) × (s ≡ Read a qs q)) ⊎ (length (left s) < length q)
Goes q (Read a rs (u ∷ us)) s = Unit {0}
Goes q (Bad rs us) s = Unit {0}
Goes q (Deep rs us) s = Unit {0}

pub record Steady {A : Type 0} (f : Parser A) : Type 0 where
  pub at : (ts : List Lexeme) (x : Lexeme) (r : List Lexeme) → Goes (x ∷ r) (f ts) (f (ts ++ x ∷ r))

-- nothing is read
abbrev pub ReadsNone : {A : Type 0} → Reply A → Type 0
ReadsNone (Read a rs us) = ⊥
ReadsNone (Bad rs us) = Unit {0}
ReadsNone (Deep rs us) = Unit {0}

pub goes_less : {A : Type 0} (q : List Lexeme) (r s : Reply A) → length (left s) < length q → Goes q r s
goes_less q (Read a rs []) s h = inr h
goes_less q (Read a rs (u ∷ us)) s h = tt
goes_less q (Bad rs us) s h = tt
goes_less q (Deep rs us) s h = tt

pub goes_none : {A : Type 0} (q : List Lexeme) (r s : Reply A) → ReadsNone r → Goes q r s
goes_none q (Read a rs us) s h = absurd h
goes_none q (Bad rs us) s h = tt
goes_none q (Deep rs us) s h = tt

read_noted : {A : Type 0} (rs ps : List Recorded) (a : A) (us : List Lexeme) → noted rs (Read a ps us) ≡ Read a (rs ++ ps) us
read_noted [] ps a us = refl
read_noted (b ∷ rs) ps a us = refl

goes_read : {A : Type 0} (q : List Lexeme) (a : A) (ps : List Recorded) (us : List Lexeme) (rs qs : List Recorded) (s : Reply A) → Goes q (Read a ps us) s → Goes q (Read a rs us) (noted qs s)
goes_read q a ps [] rs qs s (inl h) = inl (qs ++ h.0, ap (noted qs) h.1 ∙ read_noted qs h.0 a q)
goes_read q a ps [] rs qs s (inr h) = inr (omega (arith, h, ap length (left_noted qs s)))
goes_read q a ps (u ∷ us) rs qs s h = tt

goes_noted : {A : Type 0} (q : List Lexeme) (rs qs : List Recorded) (r s : Reply A) → Goes q r s → Goes q (noted rs r) (noted qs s)
goes_noted q [] qs (Read a ps us) s h = goes_read q a ps us ps qs s h
goes_noted q (b ∷ rs) qs (Read a ps us) s h = goes_read q a ps us ((b ∷ rs) ++ ps) qs s h
goes_noted q [] qs (Bad ps us) s h = tt
goes_noted q (b ∷ rs) qs (Bad ps us) s h = tt
goes_noted q [] qs (Deep ps us) s h = tt
goes_noted q (b ∷ rs) qs (Deep ps us) s h = tt

none_noted : {A : Type 0} (rs : List Recorded) (r : Reply A) → ReadsNone r → ReadsNone (noted rs r)
none_noted rs (Read a ps us) h = absurd h
none_noted [] (Bad ps us) h = tt
none_noted (b ∷ rs) (Bad ps us) h = tt
none_noted [] (Deep ps us) h = tt
none_noted (b ∷ rs) (Deep ps us) h = tt

pub none_after : {A B : Type 0} (r : Reply A) (f : A → Parser B) → ReadsNone r → ReadsNone (after r f)
none_after (Read a rs us) f h = absurd h
none_after (Bad rs us) f h = tt
none_after (Deep rs us) f h = tt

pub eats_none : {A : Type 0} {f : Parser A} → Eats f → ReadsNone (f [])
eats_none {f = f} e = by (f []) (e.each [])
  where
    by : {A : Type 0} (r : Reply A) → Ate 0 r → ReadsNone r
    by (Read a rs us) h = absurd (omega (arith, h))
    by (Bad rs us) h = tt
    by (Deep rs us) h = tt

-- the combinators

pub steady_ret : {A : Type 0} (a : A) → Steady (ret a)
steady_ret a = record { at = by }
  where
    by : (ts : List Lexeme) (x : Lexeme) (r : List Lexeme) → Goes (x ∷ r) (Read a [] ts) (Read a [] (ts ++ x ∷ r))
    by [] x r = inl ([], refl)
    by (t ∷ ts) x r = tt

pub steady_note : (f : FuncForm) (room : ℕ) (simple : Bool) → Steady (note f room simple)
steady_note f room simple = record { at = by }
  where
    by : (ts : List Lexeme) (x : Lexeme) (r : List Lexeme) → Goes (x ∷ r) (note f room simple ts) (note f room simple (ts ++ x ∷ r))
    by [] x r = inl (record { form = f; room = room; simple = simple; from = x ∷ r } ∷ [], refl)
    by (t ∷ ts) x r = tt

pub steady_bad : {A : Type 0} → Steady (bad {A = A})
steady_bad = record { at = λ ts x r. tt }

pub steady_deep : {A : Type 0} → Steady (deep {A = A})
steady_deep = record { at = λ ts x r. tt }

pub steady_when : {A : Type 0} {f g : Parser A} (b : Bool) → Steady f → Steady g → Steady (when b f g)
steady_when true h k = h
steady_when false h k = k

pub steady_step : {A : Type 0} {f : Parser A} → Local f → Steady f → Steady (step f)
steady_step {f = f} l h = record { at = by }
  where
    by : (ts : List Lexeme) (x : Lexeme) (r : List Lexeme) → Goes (x ∷ r) (step f ts) (step f (ts ++ x ∷ r))
    by [] x r = goes_less (x ∷ r) (f []) (f r) (omega (arith, l.shorter r))
    by (t ∷ ts) x r = h.at ts x r

pub steady_peek : {A : Type 0} {f : Lexeme → Parser A} → ((t : Lexeme) → Steady (f t)) → ((x : Lexeme) (r : List Lexeme) → Goes (x ∷ r) (f end_lexeme []) (f x (x ∷ r))) → Steady (peek f)
steady_peek {f = f} h k = record { at = by }
  where
    by : (ts : List Lexeme) (x : Lexeme) (r : List Lexeme) → Goes (x ∷ r) (peek f ts) (peek f (ts ++ x ∷ r))
    by [] x r = k x r
    by (t ∷ ts) x r = (h t).at (t ∷ ts) x r

-- a lexeme may be read, or nothing
pub goes_step : {A : Type 0} {f : Parser A} → Local f → (g : Parser A) (x : Lexeme) (r : List Lexeme) (s : Reply A) → Goes (x ∷ r) s (g (x ∷ r)) → (b : Bool) → Goes (x ∷ r) s (when b (step f) g (x ∷ r))
goes_step {f = f} l g x r s h true = goes_less (x ∷ r) s (f r) (omega (arith, l.shorter r))
goes_step l g x r s h false = h

pub goes_or : {A : Type 0} {f : Parser A} → Local f → (a : A) (x : Lexeme) (r : List Lexeme) (b : Bool) → Goes (x ∷ r) (Read a [] []) (when b (step f) (ret a) (x ∷ r))
goes_or l a x r b = goes_step l (ret a) x r (Read a [] []) (inl ([], refl)) b

goes_after : {A B : Type 0} (g : A → Parser B) → ((a : A) → Local (g a)) → ((a : A) → Steady (g a)) → (x : Lexeme) (r : List Lexeme) (s t : Reply A) → Same (x ∷ r) s t → Goes (x ∷ r) s t → Goes (x ∷ r) (after s g) (after t g)
goes_after g l h x r (Read a rs []) t k (inl e) = subst (λ y. Goes (x ∷ r) (noted rs (g a [])) (after y g)) (sym e.1) (goes_noted (x ∷ r) rs e.0 (g a []) (g a (x ∷ r)) ((h a).at [] x r))
goes_after g l h x r (Read a rs []) t k (inr e) = goes_less (x ∷ r) (noted rs (g a [])) (after t g) (omega (arith, e, after_shorter g l t))
goes_after g l h x r (Read a rs (u ∷ us)) t (out z e) k = absurd (omega (arith, z))
goes_after g l h x r (Read a rs (u ∷ us)) t (kept e) k = subst (λ y. Goes (x ∷ r) (noted rs (g a (u ∷ us))) (after y g)) (sym e) (goes_noted (x ∷ r) rs (grown_records (x ∷ r) rs) (g a (u ∷ us)) (g a ((u ∷ us) ++ x ∷ r)) ((h a).at (u ∷ us) x r))
goes_after g l h x r (Bad rs us) t e k = tt
goes_after g l h x r (Deep rs us) t e k = tt

pub steady_bind : {A B : Type 0} {m : Parser A} {g : A → Parser B} → Local m → Steady m → ((a : A) → Local (g a)) → ((a : A) → Steady (g a)) → Steady (bind m g)
steady_bind {m = m} {g = g} lm hm l h = record { at = λ ts x r. goes_after g l h x r (m ts) (m (ts ++ x ∷ r)) (lm.same ts (x ∷ r)) (hm.at ts x r) }

goes_closed : {A B : Type 0} (g : A → Parser B) → ((a : A) → Steady (g a)) → ((a : A) → ReadsNone (g a [])) → (x : Lexeme) (r : List Lexeme) (s t : Reply A) → Same (x ∷ r) s t → Goes (x ∷ r) (after s g) (after t g)
goes_closed g h n x r (Read a rs []) t k = goes_none (x ∷ r) (noted rs (g a [])) (after t g) (none_noted rs (g a []) (n a))
goes_closed g h n x r (Read a rs (u ∷ us)) t (out z e) = absurd (omega (arith, z))
goes_closed g h n x r (Read a rs (u ∷ us)) t (kept e) = subst (λ y. Goes (x ∷ r) (noted rs (g a (u ∷ us))) (after y g)) (sym e) (goes_noted (x ∷ r) rs (grown_records (x ∷ r) rs) (g a (u ∷ us)) (g a ((u ∷ us) ++ x ∷ r)) ((h a).at (u ∷ us) x r))
goes_closed g h n x r (Bad rs us) t e = tt
goes_closed g h n x r (Deep rs us) t e = tt

-- what reads at least one more lexeme after the first part
pub steady_closed : {A B : Type 0} {m : Parser A} {g : A → Parser B} → Local m → ((a : A) → Steady (g a)) → ((a : A) → ReadsNone (g a [])) → Steady (bind m g)
steady_closed {m = m} {g = g} lm h n = record { at = λ ts x r. goes_closed g h n x r (m ts) (m (ts ++ x ∷ r)) (lm.same ts (x ∷ r)) }

pub steady_no_room : {A : Type 0} (begins : Kind → Bool) → Steady (no_room {A = A} begins)
steady_no_room {A} begins = steady_peek (λ t. steady_when (begins t.kind) steady_deep steady_bad) (λ x r. by (begins end_lexeme.kind) (when (begins x.kind) deep bad (x ∷ r)) (x ∷ r))
  where
    by : (b : Bool) (s : Reply A) (q : List Lexeme) → Goes q (when b deep bad []) s
    by true s q = tt
    by false s q = tt

-- loops

steady_turned : {A B : Type 0} (f : Parser (Many A B)) → Local f → Steady f → (t : Turn A B) → Steady (turned f t)
steady_turned f l h (Again a) = steady_bind l h (λ m. local_ret (begun a m)) (λ m. steady_ret (begun a m))
steady_turned f l h (Stop b) = steady_ret (stopped b)

steady_turns : {A B : Type 0} (turn : Parser (Turn A B)) → Local turn → Steady turn → (n : ℕ) → Steady (turns turn n)
unfolding turns
steady_turns turn l h zero = steady_bad
steady_turns turn l h (suc n) = steady_bind l h (local_turned (turns turn n) (local_turns turn l n)) (steady_turned (turns turn n) (local_turns turn l n) (steady_turns turn l h n))

pub steady_loop : {A B : Type 0} {turn : Parser (Turn A B)} → Local turn → Gains turn → Steady turn → Steady (loop turn)
unfolding loop
steady_loop {turn = turn} l gains h = record {
  at = λ ts x r. subst (λ s. Goes (x ∷ r) s (turns turn (suc (length (ts ++ x ∷ r))) (ts ++ x ∷ r))) (enough turn gains (suc (length (ts ++ x ∷ r))) (suc (length ts)) ts (omega (arith, length-append ts (x ∷ r))) (omega arith)) ((steady_turns turn l h (suc (length (ts ++ x ∷ r)))).at ts x r);
}

-- where what was read ends

goes_spanned : {A : Type 0} (ts : List Lexeme) (x : Lexeme) (r : List Lexeme) (s t : Reply A) → Goes (x ∷ r) s t → Goes (x ∷ r) (spanned_reply ts s) (spanned_reply (ts ++ x ∷ r) t)
goes_spanned ts x r (Read a rs []) t (inl h) = inl (h.0, ap (spanned_reply (ts ++ x ∷ r)) h.1 ∙ ap (λ y. Read (record { value = a; end = last_end 0 y }) h.0 (x ∷ r)) (grown_taken ts [] (x ∷ r) (omega arith)))
goes_spanned ts x r (Read a rs []) t (inr h) = inr (omega (arith, h, ap length (spanned_left (ts ++ x ∷ r) t)))
goes_spanned ts x r (Read a rs (u ∷ us)) t h = tt
goes_spanned ts x r (Bad rs us) t h = tt
goes_spanned ts x r (Deep rs us) t h = tt

pub steady_spanned : {A : Type 0} {f : Parser A} → Steady f → Steady (spanned f)
steady_spanned {f = f} h = record { at = λ ts x r. goes_spanned ts x r (f ts) (f (ts ++ x ∷ r)) (h.at ts x r) }

-- the parser of expressions

pub record SteadyEnv (v : Env) : Type 0 where
  pub assign : (w : Bool) → Steady (v.sub (AnAssign w))
  pub prefix : Steady (v.sub APrefix)
  pub new : Steady (v.sub ANew)
  pub body : (f : FuncForm) (start : ℕ) (simple : Bool) → Steady (v.body f start simple)
  pub body_none : (f : FuncForm) (start : ℕ) (simple : Bool) → ReadsNone (v.body f start simple [])

expect_steady : (i : ℕ) → is_mark i end_lexeme.kind ≡ false → Steady (expect i)
unfolding expect
expect_steady i h = steady_peek (λ t. steady_when (is_mark i t.kind) (steady_step (local_ret tt) (steady_ret tt)) steady_bad) (λ x r. tt)

mark_steady : Steady Exprs.arrow_mark
unfolding Exprs.arrow_mark
mark_steady = steady_peek (λ t. steady_when (is_arrow t) (steady_step (local_ret tt) (steady_ret tt)) steady_bad) (λ x r. tt)

dot_steady : Steady Exprs.dot_of
unfolding Exprs.dot_of
dot_steady = steady_peek (λ t. steady_when (is_any_word t.kind) (steady_step (local_ret (tree.Dot t.text)) (steady_ret (tree.Dot t.text))) steady_bad) (λ x r. tt)

-- what ends with a mark that must stand there
marked_steady : {A B : Type 0} {m : Parser A} (i : ℕ) (f : A → B) → is_mark i end_lexeme.kind ≡ false → Local m → Steady (bind m (λ a. bind (expect i) (λ _. ret (f a))))
unfolding expect
marked_steady i f h l = steady_closed l (λ a. steady_bind (expect_local i) (expect_steady i h) (λ _. local_ret (f a)) (λ _. steady_ret (f a))) (λ a. tt)

module _ (v : Env) (l : LocalEnv v) (h : SteadyEnv v) where
  more_turn_steady : (w : Bool) → Steady (Exprs.more_turn v w)
  unfolding Exprs.more_turn
  more_turn_steady w =
      let one : Local (bind (v.sub (AnAssign w)) (λ e. ret (Again e))) = local_bind (l.at (AnAssign w)) (λ e. local_ret (Again e)) in
      steady_peek (λ t. steady_when (is_mark mark.COMMA t.kind) (steady_step one (steady_bind (l.at (AnAssign w)) (h.assign w) (λ e. local_ret (Again e)) (λ e. steady_ret (Again e)))) (steady_ret (Stop tt)))
      (λ x r. goes_or one (Stop tt) x r (is_mark mark.COMMA x.kind))

  pub expr_steady : (w : Bool) → Steady (Exprs.expr_of v w)
  unfolding Exprs.expr_of
  expr_steady w = steady_bind (l.at (AnAssign w)) (h.assign w) (λ e. local_bind (local_loop (more_turn_local v l w) (more_turn_gains v l w)) (λ m. local_ret _)) (λ e. steady_bind (local_loop (more_turn_local v l w) (more_turn_gains v l w)) (steady_loop (more_turn_local v l w) (more_turn_gains v l w) (more_turn_steady w)) (λ m. local_ret _) (λ m. steady_ret _))

  -- primaries

  part_end_steady : (e : Expr) → Steady (Exprs.part_end e)
  unfolding Exprs.part_end
  part_end_steady e = steady_peek (λ t. steady_when (is_middle t.kind) (steady_step (local_ret (Again (Exprs.part e t))) (steady_ret (Again (Exprs.part e t)))) (steady_when (is_tail t.kind) (steady_step (local_ret (Stop (Exprs.part e t))) (steady_ret (Stop (Exprs.part e t)))) steady_bad)) (λ x r. tt)

  part_turn_steady : Steady (Exprs.part_turn v)
  unfolding Exprs.part_turn Exprs.part_end
  part_turn_steady = steady_closed (expr_local v l true) part_end_steady (λ e. tt)

  template_steady : (at : ℕ) (first : List ℕ) → Steady (Exprs.template_of v at first)
  unfolding Exprs.template_of
  template_steady at first = steady_bind (local_loop (part_turn_local v l) (part_turn_gains v l)) (steady_loop (part_turn_local v l) (part_turn_gains v l) part_turn_steady) (λ m. local_ret _) (λ m. steady_ret _)

  array_steady : (at : ℕ) → Steady (Exprs.array_of v at)
  unfolding Exprs.array_of
  array_steady at = marked_steady mark.CLOSE_BRACKET (λ m. Exprs.array_case at m.items m.last) refl (local_loop (item_turn_local v l) (item_turn_gains v l))

  object_steady : (at : ℕ) → Steady (Exprs.object_of v at)
  unfolding Exprs.object_of
  object_steady at = marked_steady mark.CLOSE_BRACE _ refl (more_props_local v l)

  function_steady : (f : FuncForm) (name : Option Named) → Steady (Exprs.function_of v f name)
  unfolding Exprs.function_of
  function_steady f name = steady_closed (params_head_local v l f)
      (λ p. steady_bind (l.body f p.start (is_simple p.params)) (h.body f p.start (is_simple p.params)) (λ b. local_ret _) (λ b. steady_ret _))
      (λ p. none_after (v.body f p.start (is_simple p.params) []) _ (h.body_none f p.start (is_simple p.params)))

  func_steady : (at : ℕ) → Steady (Exprs.func_of v at)
  unfolding Exprs.func_of Exprs.function_of Exprs.params_head
  func_steady at = steady_closed maybe_name_local (λ n. steady_bind (function_local v l form.Function n) (function_steady form.Function n) (λ f. local_ret _) (λ f. steady_ret _)) (λ n. tt)

  paren_steady : (heads : Bool) (at : ℕ) → Steady (Exprs.paren_of v heads at)
  unfolding Exprs.paren_of
  paren_steady heads at = marked_steady mark.CLOSE_PAREN (λ es. tree.Paren at (Exprs.list_case es)) refl (local_when heads (lead_items_local v l) (items_local v l))

  prim_steady : (heads : Bool) → Steady (Exprs.prim_of v heads)
  unfolding Exprs.prim_of
  prim_steady heads = steady_peek (λ t.
      steady_when (is_atom t.kind) (steady_step (local_ret (atom_case t.kind t)) (steady_ret (atom_case t.kind t)))
      (steady_when (is_mark mark.OPEN_PAREN t.kind) (steady_step (paren_local v l heads t.start) (paren_steady heads t.start))
      (steady_when (is_word word.FUNCTION t.kind) (steady_step (func_local v l t.start) (func_steady t.start))
      (steady_when (is_mark mark.OPEN_BRACKET t.kind) (steady_step (array_local v l t.start) (array_steady t.start))
      (steady_when (is_mark mark.OPEN_BRACE t.kind) (steady_step (object_local v l t.start) (object_steady t.start))
      (steady_when (is_head t.kind) (steady_step (template_local v l t.start t.text) (template_steady t.start t.text)) steady_bad))))))
      (λ x r. tt)

  -- members and calls

  index_steady : Steady (Exprs.index_of v)
  unfolding Exprs.index_of
  index_steady = marked_steady mark.CLOSE_BRACKET tree.Index refl (expr_local v l true)

  args_steady : Steady (Exprs.args_of v)
  unfolding Exprs.args_of
  args_steady = marked_steady mark.CLOSE_PAREN _ refl (more_args_local v l)

  call_steady : Steady (Exprs.call_of v)
  unfolding Exprs.call_of
  call_steady = steady_bind (args_local v l) args_steady (λ a. local_ret _) (λ a. steady_ret _)

  dot_again : Local (bind Exprs.dot_of (again {A = Tail} {B = Unit {0}}))
  dot_again = local_bind dot_local again_local

  index_again : Local (bind (Exprs.index_of v) (again {A = Tail} {B = Unit {0}}))
  index_again = local_bind (index_local v l) again_local

  call_again : Local (bind (Exprs.call_of v) (again {A = Tail} {B = Unit {0}}))
  call_again = local_bind (call_local v l) again_local

  again_steady : {A B : Type 0} (a : A) → Steady (again {A = A} {B = B} a)
  again_steady a = steady_ret (Again a)

  member_or_steady : (t : Lexeme) (f : Parser (Turn Tail (Unit {0}))) → Steady f → Steady (Exprs.member_or v t f)
  member_or_steady t f k =
      steady_when (is_mark mark.DOT t.kind) (steady_step dot_again (steady_bind dot_local dot_steady again_local again_steady))
      (steady_when (is_mark mark.OPEN_BRACKET t.kind) (steady_step index_again (steady_bind (index_local v l) index_steady again_local again_steady)) k)

  member_or_goes : (f : Parser (Turn Tail (Unit {0}))) (x : Lexeme) (r : List Lexeme) → Goes (x ∷ r) (Read (Stop tt) [] []) (f (x ∷ r)) → Goes (x ∷ r) (Read (Stop tt) [] []) (Exprs.member_or v x f (x ∷ r))
  member_or_goes f x r k =
      goes_step dot_again (when (is_mark mark.OPEN_BRACKET x.kind) (step (bind (Exprs.index_of v) again)) f) x r (Read (Stop tt) [] [])
      (goes_step index_again f x r (Read (Stop tt) [] []) k (is_mark mark.OPEN_BRACKET x.kind)) (is_mark mark.DOT x.kind)

  member_turn_steady : Steady (Exprs.member_turn v)
  unfolding Exprs.member_turn
  member_turn_steady = steady_peek (λ t. member_or_steady t (ret (Stop tt)) (steady_ret (Stop tt))) (λ x r. member_or_goes (ret (Stop tt)) x r (inl ([], refl)))

  tail_turn_steady : Steady (Exprs.tail_turn v)
  unfolding Exprs.tail_turn
  tail_turn_steady = steady_peek
      (λ t. member_or_steady t (when (is_mark mark.OPEN_PAREN t.kind) (step (bind (Exprs.call_of v) again)) (ret (Stop tt))) (steady_when (is_mark mark.OPEN_PAREN t.kind) (steady_step call_again (steady_bind (call_local v l) call_steady again_local again_steady)) (steady_ret (Stop tt))))
      (λ x r. member_or_goes (when (is_mark mark.OPEN_PAREN x.kind) (step (bind (Exprs.call_of v) again)) (ret (Stop tt))) x r (goes_or call_again (Stop tt) x r (is_mark mark.OPEN_PAREN x.kind)))

  chain_steady : {turn : Parser (Turn Tail (Unit {0}))} → Local turn → Gains turn → Steady turn → (e : Expr) → Steady (Exprs.chain_of turn e)
  chain_steady a b c e = steady_when (is_chain_head e) (steady_bind (local_loop a b) (steady_loop a b c) (λ m. local_ret _) (λ m. steady_ret _)) (steady_ret e)

  new_or_prim_steady : (heads : Bool) → Steady (Exprs.new_or_prim v heads)
  unfolding Exprs.new_or_prim Exprs.prim_of
  new_or_prim_steady heads = steady_peek (λ t. steady_when (is_word word.NEW t.kind) h.new (prim_steady heads)) (λ x r. tt)

  args_some : Local (bind (Exprs.args_of v) (λ a. ret (Some a)))
  args_some = local_bind (args_local v l) (λ a. local_ret (Some a))

  new_args_is : Local (Exprs.new_args v)
  unfolding Exprs.new_args
  new_args_is = local_peek (λ t. local_when (is_mark mark.OPEN_PAREN t.kind) (local_step args_some) (local_ret None))

  new_args_steady : Steady (Exprs.new_args v)
  unfolding Exprs.new_args
  new_args_steady = steady_peek (λ t. steady_when (is_mark mark.OPEN_PAREN t.kind) (steady_step args_some (steady_bind (args_local v l) args_steady (λ a. local_ret (Some a)) (λ a. steady_ret (Some a)))) (steady_ret None)) (λ x r. goes_or args_some None x r (is_mark mark.OPEN_PAREN x.kind))

  new_from_steady : (at : ℕ) (e : Expr) → Steady (Exprs.new_from v at e)
  unfolding Exprs.new_from
  new_from_steady at e = steady_when (is_chain_head e)
      (steady_bind (local_loop (member_turn_local v l) (member_turn_gains v l)) (steady_loop (member_turn_local v l) (member_turn_gains v l) member_turn_steady) (λ m. local_bind new_args_is (λ a. local_ret _)) (λ m. steady_bind new_args_is new_args_steady (λ a. local_ret _) (λ a. steady_ret _)))
      (steady_ret _)

  pub new_steady : Steady (Exprs.new_of v)
  unfolding Exprs.new_of
  new_steady = steady_peek (λ t. steady_when (is_word word.NEW t.kind) (steady_step (local_bind (new_or_prim_local v l false) (new_from_local v l t.start)) (steady_bind (new_or_prim_local v l false) (new_or_prim_steady false) (new_from_local v l t.start) (new_from_steady t.start))) steady_bad) (λ x r. tt)

  left_steady : (heads : Bool) → Steady (Exprs.left_of v heads)
  unfolding Exprs.left_of
  left_steady heads = steady_bind (new_or_prim_local v l heads) (new_or_prim_steady heads) (chain_local v l (tail_turn_local v l) (tail_turn_gains v l)) (chain_steady (tail_turn_local v l) (tail_turn_gains v l) tail_turn_steady)

  postfix_steady : (at : ℕ) (e : Expr) → Steady (Exprs.postfix_of at e)
  unfolding Exprs.postfix_of
  postfix_steady at e = steady_peek (λ t. steady_when (is_update t.kind && not t.after_line) (steady_step (local_ret (tree.Update at (Exprs.mark_of t.kind) false e)) (steady_ret (tree.Update at (Exprs.mark_of t.kind) false e))) (steady_ret e)) (λ x r. goes_or (local_ret (tree.Update at (Exprs.mark_of x.kind) false e)) e x r (is_update x.kind && not x.after_line))

  update_steady : (heads : Bool) → Steady (Exprs.update_of v heads)
  unfolding Exprs.update_of Exprs.left_of Exprs.new_or_prim Exprs.prim_of
  update_steady heads = steady_peek (λ t. steady_bind (left_local v l heads) (left_steady heads) (postfix_local v l t.start) (postfix_steady t.start)) (λ x r. tt)

  unary_steady : (heads : Bool) → Steady (Exprs.unary_of v heads)
  unfolding Exprs.unary_of Exprs.update_of Exprs.left_of Exprs.new_or_prim Exprs.prim_of
  unary_steady heads = steady_peek (λ t. steady_when (is_prefix t.kind || is_update t.kind) h.prefix (update_steady heads)) (λ x r. tt)

  pub prefix_steady : Steady (Exprs.prefix_of v)
  unfolding Exprs.prefix_of
  prefix_steady = steady_peek (λ t.
      let one : Local (bind (Exprs.unary_of v false) (λ e. ret (tree.Unary t.start (Exprs.mark_of t.kind) e (Exprs.is_word_kind t.kind)))) = local_bind (unary_local v l false) (λ e. local_ret _) in
      let two : Local (bind (Exprs.unary_of v false) (λ e. ret (tree.Update t.start (Exprs.mark_of t.kind) true e))) = local_bind (unary_local v l false) (λ e. local_ret _) in
      steady_when (is_prefix t.kind) (steady_step one (steady_bind (unary_local v l false) (unary_steady false) (λ e. local_ret _) (λ e. steady_ret _)))
      (steady_when (is_update t.kind) (steady_step two (steady_bind (unary_local v l false) (unary_steady false) (λ e. local_ret _) (λ e. steady_ret _))) steady_bad))
      (λ x r. tt)

  -- binary operators

  power_turn_steady : Steady (Exprs.power_turn v)
  unfolding Exprs.power_turn
  power_turn_steady = steady_peek
      (λ t. steady_when (is_mark mark.POWER t.kind) (steady_step (local_bind (unary_local v l false) (λ e. local_ret (Exprs.power_operand t e))) (steady_bind (unary_local v l false) (unary_steady false) (λ e. local_ret (Exprs.power_operand t e)) (λ e. steady_ret (Exprs.power_operand t e)))) (steady_ret (Stop None)))
      (λ x r. goes_or (local_bind (unary_local v l false) (λ e. local_ret (Exprs.power_operand x e))) (Stop None) x r (is_mark mark.POWER x.kind))

  power_steady : (heads : Bool) → Steady (Exprs.power_of v heads)
  unfolding Exprs.power_of
  power_steady heads = steady_bind (unary_local v l heads) (unary_steady heads)
      (λ e. local_when (is_update_expr e) (local_bind (local_loop (power_turn_local v l) (power_turn_gains v l)) (λ m. local_ret _)) (local_ret e))
      (λ e. steady_when (is_update_expr e) (steady_bind (local_loop (power_turn_local v l) (power_turn_gains v l)) (steady_loop (power_turn_local v l) (power_turn_gains v l) power_turn_steady) (λ m. local_ret _) (λ m. steady_ret _)) (steady_ret e))

  module _ (w : Bool) (n : ℕ) (below : n < 12) (lower : Parser Expr) (a : Local lower) (b : Steady lower) where
    operand_is : (t : Lexeme) → Local (bind lower (λ e. ret {A = Turn Operand (Unit {0})} (Again (Exprs.operand t e))))
    operand_is t = local_bind a (λ e. local_ret (Again (Exprs.operand t e)))

    op_turn_steady : Steady (Exprs.op_turn w n lower)
    unfolding Exprs.op_turn
    op_turn_steady = steady_peek
        (λ t. steady_when (is_op w n t.kind) (steady_step (operand_is t) (steady_bind a b (λ e. local_ret (Again (Exprs.operand t e))) (λ e. steady_ret (Again (Exprs.operand t e))))) (steady_ret (Stop tt)))
        (λ x r. subst (λ c. Goes (x ∷ r) (when {A = Turn Operand (Unit {0})} (c && (w || true)) (step (bind lower (λ e. ret (Again (Exprs.operand end_lexeme e))))) (ret (Stop tt)) []) (when (is_op w n x.kind) (step (bind lower (λ e. ret (Again (Exprs.operand x e))))) (ret (Stop tt)) (x ∷ r))) (sym (ne_eqb 12 n (λ e. absurd (omega (arith, below, e)))))
        (goes_or (operand_is x) (Stop tt) x r (is_op w n x.kind)))

    operands_steady : (e : Expr) → Steady (Exprs.operands_from w n lower e)
    operands_steady e = steady_bind (local_loop (op_turn_local v l w n lower a) (op_turn_gains v l w n lower a below)) (steady_loop (op_turn_local v l w n lower a) (op_turn_gains v l w n lower a below) op_turn_steady) (λ m. local_ret _) (λ m. steady_ret _)

    -- an operator of the level is read
    operands_less : (e : Expr) (x : Lexeme) (r : List Lexeme) → is_op w n x.kind ≡ true → length (left (Exprs.operands_from w n lower e (x ∷ r))) ≤ length r
    unfolding loop turns Exprs.op_turn
    operands_less e x r k =
        let turn : Parser (Turn Operand (Unit {0})) = step (bind lower (λ y. ret (Again (Exprs.operand x y)))) in
        let more = turned (turns (Exprs.op_turn w n lower) (length (x ∷ r))) in
        let more_is = local_turned (turns (Exprs.op_turn w n lower) (length (x ∷ r))) (local_turns (Exprs.op_turn w n lower) (op_turn_local v l w n lower a) (length (x ∷ r))) in
        omega (arith, after_shorter (λ m. ret (Exprs.binary_case e m.items)) (λ m. local_ret _) (after (when (is_op w n x.kind) turn (ret (Stop tt)) (x ∷ r)) more), after_shorter more more_is (when (is_op w n x.kind) turn (ret (Stop tt)) (x ∷ r)), ap (λ c. length (left (when c turn (ret (Stop tt)) (x ∷ r)))) k, (operand_is x).shorter r)

  level_steady : (w : Bool) (n : ℕ) → n ≤ 10 → (heads : Bool) → Steady (Exprs.level_of v w n heads)
  unfolding Exprs.level_of
  level_steady w zero k heads = power_steady heads
  level_steady w (suc n) k heads = steady_bind (level_local v l w n (omega arith) heads) (level_steady w n (omega arith) heads) (operands_local v l w (suc n) (Exprs.level_of v w n false) (level_local v l w n (omega arith) false) (omega arith)) (operands_steady w (suc n) (omega arith) (Exprs.level_of v w n false) (level_local v l w n (omega arith) false) (level_steady w n (omega arith) false))

  or_steady : (w : Bool) (e : Expr) → Steady (Exprs.or_from v w e)
  unfolding Exprs.or_from
  or_steady w e =
      let eight = level_local v l w 8 (omega arith) false in
      let nine = level_local v l w 9 (omega arith) false in
      steady_bind (operands_local v l w 9 (Exprs.level_of v w 8 false) eight (omega arith) e) (operands_steady w 9 (omega arith) (Exprs.level_of v w 8 false) eight (level_steady w 8 (omega arith) false) e) (operands_local v l w 10 (Exprs.level_of v w 9 false) nine (omega arith)) (operands_steady w 10 (omega arith) (Exprs.level_of v w 9 false) nine (level_steady w 9 (omega arith) false))

  short_behind_steady : (w : Bool) (e : Expr) → Steady (peek (λ t. when (is_op w Exprs.coalesce_level t.kind) (Exprs.operands_from w Exprs.coalesce_level (Exprs.level_of v w Exprs.bit_or_level false) e) (Exprs.or_from v w e)))
  short_behind_steady w e =
      let eight = level_local v l w 8 (omega arith) false in
      let more = operands_steady w 11 (omega arith) (Exprs.level_of v w 8 false) eight (level_steady w 8 (omega arith) false) e in
      steady_peek (λ t. steady_when (is_op w 11 t.kind) more (or_steady w e)) (λ x r. by x r (is_op w 11 x.kind) refl)
    where
      by : (x : Lexeme) (r : List Lexeme) (b : Bool) → is_op w 11 x.kind ≡ b → Goes (x ∷ r) (Exprs.or_from v w e []) (when b (Exprs.operands_from w Exprs.coalesce_level (Exprs.level_of v w Exprs.bit_or_level false) e) (Exprs.or_from v w e) (x ∷ r))
      by x r true k = goes_less (x ∷ r) (Exprs.or_from v w e []) (Exprs.operands_from w 11 (Exprs.level_of v w 8 false) e (x ∷ r)) (omega (arith, operands_less w 11 (omega arith) (Exprs.level_of v w 8 false) (level_local v l w 8 (omega arith) false) (level_steady w 8 (omega arith) false) e x r k))
      by x r false k = (or_steady w e).at [] x r

  short_steady : (w heads : Bool) → Steady (Exprs.short_circuit v w heads)
  unfolding Exprs.short_circuit
  short_steady w heads = steady_bind (level_local v l w 8 (omega arith) heads) (level_steady w 8 (omega arith) heads) (short_behind_local v l w) (short_behind_steady w)

  -- conditionals and assignments

  branches_is : (w : Bool) (e : Expr) → Local (Exprs.branches_of v w e)
  unfolding Exprs.branches_of
  branches_is w e = local_bind (l.at (AnAssign true)) (λ y. local_bind (expect_local mark.COLON) (λ _. local_bind (l.at (AnAssign w)) (λ n. local_ret _)))

  branches_steady : (w : Bool) (e : Expr) → Steady (Exprs.branches_of v w e)
  unfolding Exprs.branches_of expect
  branches_steady w e = steady_closed (l.at (AnAssign true)) (λ y. steady_bind (expect_local mark.COLON) (expect_steady mark.COLON refl) (λ _. local_bind (l.at (AnAssign w)) (λ n. local_ret _)) (λ _. steady_bind (l.at (AnAssign w)) (h.assign w) (λ n. local_ret _) (λ n. steady_ret _))) (λ y. tt)

  cond_tail_steady : (w : Bool) (e : Expr) → Steady (Exprs.cond_tail v w e)
  unfolding Exprs.cond_tail
  cond_tail_steady w e = steady_peek (λ t. steady_when (is_mark mark.QUESTION t.kind) (steady_step (branches_is w e) (branches_steady w e)) (steady_ret e)) (λ x r. goes_or (branches_is w e) e x r (is_mark mark.QUESTION x.kind))

  cond_steady : (w heads : Bool) → Steady (Exprs.cond_of v w heads)
  unfolding Exprs.cond_of
  cond_steady w heads = steady_bind (short_circuit_local v l w heads) (short_steady w heads) (cond_tail_local v l w) (cond_tail_steady w)

  assign_tail_steady : (w : Bool) (e : Expr) → Steady (Exprs.assign_tail v w e)
  unfolding Exprs.assign_tail
  assign_tail_steady w e = steady_peek
      (λ t. steady_when (is_assign_mark t.kind && nat_le (rank e) 4) (steady_step (local_bind (l.at (AnAssign w)) (λ x. local_ret (tree.Assign (Exprs.mark_of t.kind) e x))) (steady_bind (l.at (AnAssign w)) (h.assign w) (λ x. local_ret _) (λ x. steady_ret _))) (steady_ret e))
      (λ x r. goes_or (local_bind (l.at (AnAssign w)) (λ y. local_ret (tree.Assign (Exprs.mark_of x.kind) e y))) e x r (is_assign_mark x.kind && nat_le (rank e) 4))

  pub plain_steady : (w : Bool) → Steady (Exprs.plain_of v w)
  unfolding Exprs.plain_of
  plain_steady w = steady_bind (cond_local v l w true) (cond_steady w true) (assign_tail_local v l w) (assign_tail_steady w)

  -- arrows

  short_is : (w : Bool) → Local (bind (spanned (v.sub (AnAssign w))) (λ s. ret (short_body s)))
  short_is w = local_bind (local_spanned (l.at (AnAssign w))) (λ s. local_ret (short_body s))

  body_steady : (w : Bool) (p : Head) → Steady (Exprs.arrow_body v w p)
  unfolding Exprs.arrow_body
  body_steady w p = steady_peek
      (λ t. steady_when (is_mark mark.OPEN_BRACE t.kind) (h.body form.Arrow p.start (is_simple p.params)) (steady_bind (local_spanned (l.at (AnAssign w))) (steady_spanned (h.assign w)) (λ s. local_ret (short_body s)) (λ s. steady_ret (short_body s))))
      (λ x r. goes_none (x ∷ r) (bind (spanned (v.sub (AnAssign w))) (λ s. ret (short_body s)) []) _ (none_after (spanned (v.sub (AnAssign w)) []) (λ s. ret (short_body s)) (none_spanned (v.sub (AnAssign w) []) (eats_none (l.eats (AnAssign w))))))
    where
      none_spanned : (s : Reply Expr) → ReadsNone s → ReadsNone (spanned_reply [] s)
      none_spanned (Read a rs us) k = absurd k
      none_spanned (Bad rs us) k = tt
      none_spanned (Deep rs us) k = tt

  pub arrow_steady : (w : Bool) → Steady (Exprs.arrow_of v w)
  unfolding Exprs.arrow_of Exprs.arrow_mark
  arrow_steady w = steady_closed (arrow_head_local v l)
      (λ p. steady_bind arrow_mark_local mark_steady (λ _. local_bind (arrow_body_local v l w p) (λ b. local_ret _)) (λ _. steady_bind (arrow_body_local v l w p) (body_steady w p) (λ b. local_ret _) (λ b. steady_ret _)))
      (λ p. tt)
