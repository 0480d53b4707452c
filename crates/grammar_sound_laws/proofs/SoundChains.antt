-- Primaries, members, calls, `new`, and the operators of one operand: what is read fits its places, and faults can be
-- mended.
use Rattle.std.proofs.Common.{◌≡◌, ℕ, suc, ◌≤◌, List, [], ◌∷◌, ◌++◌, refl, sym, ap, subst, arith, append_assoc, append-nil, Bool, true, false, ◌&&◌, ◌||◌, not, nat_eq, Option, Some, None, if◌then◌else◌}
use Rattle.std.proofs.lemmas.Bool.{leb-true, eqb-true}
use Rattle.script_grammar.specs.declared.token.Kind.{Kind}
use Rattle.script_grammar.specs.declared.token.Kind.TheVariants as kind
use Rattle.script_grammar.specs.declared.token.mark.TheConstants as mark
use Rattle.script_grammar.specs.declared.token.word.TheConstants as word
use Rattle.script_grammar.specs.Lexeme.{Lexeme}
use Rattle.script_grammar.specs.Kinds.{is_mark, is_word, is_any_word, is_prefix, is_prefix_op, is_update, is_update_op, is_head, op_kind}
use Rattle.script_grammar.specs.Tree.{Named, Expr, Tail, Tails}
use Rattle.script_grammar.specs.Tree as tree
use Rattle.script_grammar.specs.TreeLists.{Args, exprs_of, tails_of, maybe_args_of}
use Rattle.script_grammar.specs.Pieces.{Bodies, Piece, from}
use Rattle.script_grammar.specs.Print.{print, print_tail, print_tails, print_args}
use Rattle.script_grammar.specs.Proper.{rank, ProperTail, ProperTails, ProperArgs, is_member_tail, are_member_tails}
use Rattle.grammar_parser_specs.specs.Parser.{Parser, ret, bind, step, when, Turn, Again, Stop, loop, Many, stopped}
use Rattle.grammar_parser_specs.specs.Exprs
use Rattle.grammar_parser_specs.specs.Exprs.{Env, AnAssign, APrefix, ANew, expect, is_atom, is_word_atom, word_atom, atom_case, chain_case, is_chain_head, mark_of, is_word_kind}
use Rattle.grammar_parser_laws.proofs.Friendly.{AtFront, Inside}
use Rattle.grammar_parser_laws.proofs.Fitting.{FitsAll, all_none, all_append, all_mark, all_placed, all_name, all_text, all_number, all_str, all_some_word, all_glued, all_same, fits_from, lexeme_of_kind}
use Rattle.grammar_parser_laws.proofs.Tests.{false_true, mark_known, word_known, head_known, and_left, and_right, or_cases, not_true}
use Rattle.grammar_parser_laws.proofs.Sound.{Leads, LeadsAt, Sound, Mended, Behind, BeginsAt, sound_bind, sound_ret, sound_bad, sound_at, sound_peek, sound_look, at_step, at_when, at_bind, end_bind, sound_first, sound_done, some_done, leads_map, sound_inside, sound_loop, sound_made, sound_when}
use Rattle.grammar_parser_laws.proofs.SoundParts.{IsExpr, SoundEnv, SoundHead, looser, zero_some, expect_sound, top, top_le, head_bind, head_map, head_of_sound}
use Rattle.grammar_sound_laws.proofs.SoundLists.{expr_sound, args_sound, array_sound, template_sound}
use Rattle.grammar_sound_laws.proofs.SoundFunctions.{func_sound}
use Rattle.grammar_sound_laws.proofs.SoundObjects.{object_sound}

-- a primary of one lexeme

module _ (m : Bodies) (d : ℕ) where
  word_atom_at : (i : ℕ) (t : Lexeme) → t.kind ≡ kind.Word i → is_word_atom i ≡ true → IsExpr m false d 0 (t ∷ []) (word_atom i t.start)
  word_atom_at i t e h =
      or_cases (nat_eq i word.THIS || nat_eq i word.NULL || nat_eq i word.TRUE) (nat_eq i word.FALSE) h
      (λ h. or_cases (nat_eq i word.THIS || nat_eq i word.NULL) (nat_eq i word.TRUE) h
      (λ h. or_cases (nat_eq i word.THIS) (nat_eq i word.NULL) h
      (λ h. subst (λ j. t.kind ≡ kind.Word j → IsExpr m false d 0 (t ∷ []) (word_atom j t.start)) (sym (eqb-true i word.THIS h)) (λ e. record { rank_le = omega arith; proper = tt; in_if = refl; fits = all_placed (kind.Word word.THIS) d t e }) e)
      (λ h. subst (λ j. t.kind ≡ kind.Word j → IsExpr m false d 0 (t ∷ []) (word_atom j t.start)) (sym (eqb-true i word.NULL h)) (λ e. record { rank_le = omega arith; proper = tt; in_if = refl; fits = all_placed (kind.Word word.NULL) d t e }) e))
      (λ h. subst (λ j. t.kind ≡ kind.Word j → IsExpr m false d 0 (t ∷ []) (word_atom j t.start)) (sym (eqb-true i word.TRUE h)) (λ e. record { rank_le = omega arith; proper = tt; in_if = refl; fits = all_placed (kind.Word word.TRUE) d t e }) e))
      (λ h. subst (λ j. t.kind ≡ kind.Word j → IsExpr m false d 0 (t ∷ []) (word_atom j t.start)) (sym (eqb-true i word.FALSE h)) (λ e. record { rank_le = omega arith; proper = tt; in_if = refl; fits = all_placed (kind.Word word.FALSE) d t e }) e)

  pub atom_at : (k : Kind) (t : Lexeme) → t.kind ≡ k → is_atom k ≡ true → IsExpr m false d 0 (t ∷ []) (atom_case k t)
  atom_at kind.Name t e h = record { rank_le = omega arith; proper = tt; in_if = refl; fits = all_name d t e }
  atom_at kind.Number t e h = record { rank_le = omega arith; proper = tt; in_if = refl; fits = all_number d t e }
  atom_at kind.Str t e h = record { rank_le = omega arith; proper = tt; in_if = refl; fits = all_str d t e }
  atom_at kind.TemplateWhole t e h = record { rank_le = omega arith; proper = tt; in_if = refl; fits = all_text kind.TemplateWhole d t e }
  atom_at (kind.Word i) t e h = word_atom_at i t e h
  atom_at kind.TemplateHead t e h = absurd (false_true h)
  atom_at kind.TemplateMiddle t e h = absurd (false_true h)
  atom_at kind.TemplateTail t e h = absurd (false_true h)
  atom_at (kind.Mark i) t e h = absurd (false_true h)
  atom_at kind.Bad t e h = absurd (false_true h)
  atom_at kind.End t e h = absurd (false_true h)

  -- tails; the flag says whether calls are among them

  abbrev pub MayCall : Bool → Tail → Type 0
  MayCall calls t = calls ≡ false → is_member_tail t ≡ true

  abbrev pub TailTurn : Bool → List Lexeme → Turn Tail (Unit {0}) → Type 0
  TailTurn calls u (Again t) = ProperTail m t × MayCall calls t × FitsAll (print_tail m d t) u
  TailTurn calls u (Stop b) = u ≡ []

  pub record TailMany (calls : Bool) (u : List Lexeme) (n : Many Tail (Unit {0})) : Type 0 where
    pub proper : ProperTails m (tails_of n.items)
    pub members : calls ≡ false → are_member_tails (tails_of n.items) ≡ true
    pub fits : FitsAll (print_tails m d (tails_of n.items)) u

  -- the most that a chain has with these tails
  abbrev pub chain_rank : Bool → ℕ
  chain_rank true = 4
  chain_rank false = 2

  chain_rank_le : (calls : Bool) (ts : Tails) → (calls ≡ false → are_member_tails ts ≡ true) → (if are_member_tails ts then 2 else 4) ≤ chain_rank calls
  chain_rank_le true ts h = either (are_member_tails ts)
    where
      either : (b : Bool) → (if b then 2 else 4) ≤ 4
      either true = omega arith
      either false = omega arith
  chain_rank_le false ts h = rw (h refl) (omega arith)

  pub chain_is : (calls : Bool) (u x : List Lexeme) (e : Expr) (ts : List Tail) → IsExpr m false d 1 u e → TailMany calls x (record { items = ts; last = tt }) → IsExpr m false d (chain_rank calls) (u ++ x) (chain_case e ts)
  chain_is true u x e [] q r = record { rank_le = omega (arith, q.rank_le); proper = q.proper; in_if = q.in_if; fits = all_same (append-nil (print m d e)) (all_append q.fits r.fits) }
  chain_is false u x e [] q r = record { rank_le = omega (arith, q.rank_le); proper = q.proper; in_if = q.in_if; fits = all_same (append-nil (print m d e)) (all_append q.fits r.fits) }
  chain_is calls u x e (t ∷ ts) q r = record { rank_le = chain_rank_le calls (tails_of (t ∷ ts)) r.members; proper = (q.rank_le, q.proper, tt, r.proper); in_if = refl; fits = all_append q.fits r.fits }

  -- arguments of `new`, or none

  pub record IsMaybeArgs (u : List Lexeme) (o : Option Args) : Type 0 where
    pub proper : ProperArgs m (maybe_args_of o)
    pub fits : FitsAll (print_args m d (maybe_args_of o)) u

  module _ (v : Env) (s : SoundEnv m d v)
      (paren : (heads : Bool) (t : Lexeme) → t.kind ≡ kind.Mark mark.OPEN_PAREN → Leads Inside (Behind (t ∷ []) (IsExpr m false d 0)) (Behind (t ∷ []) (IsExpr m false d (top heads 0))) (Exprs.paren_of v heads t.start)) where
    primed : (heads : Bool) (w : List Lexeme) (f : Parser Expr) → Sound Inside (Behind w (IsExpr m false d 0)) f → Leads Inside (Behind w (IsExpr m false d 0)) (Behind w (IsExpr m false d (top heads 0))) f
    primed heads w f h = leads_map (λ u e q. q) (λ u e q. looser (top_le heads 0 (omega arith)) (w ++ u) e q) h

    pub prim_sound : (heads : Bool) → SoundHead m false d heads 0 (Exprs.prim_of v heads)
    unfolding Exprs.prim_of
    prim_sound heads = sound_peek (λ t.
        at_when (is_atom t.kind) (λ e. at_step t (sound_ret {a = atom_case t.kind t} (atom_at t.kind t refl e))) (λ _.
        at_when (is_mark mark.OPEN_PAREN t.kind) (λ e. at_step t (paren heads t (mark_known mark.OPEN_PAREN t.kind e))) (λ _.
        at_when (is_word word.FUNCTION t.kind) (λ e. at_step t (primed heads (t ∷ []) (Exprs.func_of v t.start) (func_sound m d v s t (word_known word.FUNCTION t.kind e)))) (λ _.
        at_when (is_mark mark.OPEN_BRACKET t.kind) (λ e. at_step t (primed heads (t ∷ []) (Exprs.array_of v t.start) (array_sound m d v s t (mark_known mark.OPEN_BRACKET t.kind e)))) (λ _.
        at_when (is_mark mark.OPEN_BRACE t.kind) (λ e. at_step t (primed heads (t ∷ []) (Exprs.object_of v t.start) (object_sound m d v s t (mark_known mark.OPEN_BRACE t.kind e)))) (λ _.
        at_when (is_head t.kind) (λ e. at_step t (primed heads (t ∷ []) (Exprs.template_of v t.start t.text) (template_sound m d v s t (head_known t.kind e)))) (λ _.
        sound_at t (sound_bad (zero_some AtFront m false d (top heads 0)))))))))) (sound_bad (zero_some AtFront m false d (top heads 0)))

    -- tails

    -- one tail: a member, or a call
    pub record IsDot (u : List Lexeme) (a : Tail) : Type 0 where
      pub proper : ProperTail m a
      pub member : is_member_tail a ≡ true
      pub fits : (t : Lexeme) → t.kind ≡ kind.Mark mark.DOT → FitsAll (print_tail m d a) (t ∷ u)

    dot_name_sound : Sound Inside IsDot Exprs.dot_of
    unfolding Exprs.dot_of
    dot_name_sound =
        let name : Lexeme = lexeme_of_kind kind.Name in
        let some : Mended Inside IsDot = record { end = name ∷ []; of = tree.Dot []; starts = tt; is = record { proper = tt; member = refl; fits = λ t e. all_append (all_mark mark.DOT d t e) (all_some_word d name refl) } } in
        sound_peek (λ u. at_when (is_any_word u.kind) (λ h. at_step u (sound_ret {a = tree.Dot u.text} (record { proper = tt; member = refl; fits = λ t e. all_append (all_mark mark.DOT d t e) (all_some_word d u h) }))) (λ _. sound_at u (sound_bad some))) (sound_bad some)

    dot_sound : (calls : Bool) (t : Lexeme) → t.kind ≡ kind.Mark mark.DOT → Sound Inside (Behind (t ∷ []) (TailTurn calls)) (bind Exprs.dot_of Exprs.again)
    dot_sound calls t e = sound_made Again dot_name_sound (λ u a h. (h.proper, (λ _. h.member), h.fits t e))

    index_inner : (t : Lexeme) → t.kind ≡ kind.Mark mark.OPEN_BRACKET → (calls : Bool) → Sound Inside (λ u a. TailTurn calls (t ∷ u) (Again a)) (Exprs.index_of v)
    unfolding Exprs.index_of
    index_inner t e calls = sound_bind (sound_inside (expr_sound m d v s true)) (λ u a q. sound_made (λ _. tree.Index a) (expect_sound mark.CLOSE_BRACKET d) (λ x _ c. (q.proper, (λ _. refl), all_append (all_mark mark.OPEN_BRACKET d t e) (all_append q.fits c))))

    index_sound : (calls : Bool) (t : Lexeme) → t.kind ≡ kind.Mark mark.OPEN_BRACKET → Sound Inside (Behind (t ∷ []) (TailTurn calls)) (bind (Exprs.index_of v) Exprs.again)
    index_sound calls t e = sound_made Again (index_inner t e calls) (λ u a h. h)

    call_inner : (t : Lexeme) → t.kind ≡ kind.Mark mark.OPEN_PAREN → Sound Inside (λ u a. TailTurn true (t ∷ u) (Again a)) (Exprs.call_of v)
    unfolding Exprs.call_of
    call_inner t e = sound_made (λ a. tree.Call (exprs_of a.items) a.comma) (args_sound m d v s) (λ u a r. ((r.has, r.proper), (λ h. absurd (false_true (sym h))), all_append (all_mark mark.OPEN_PAREN d t e) r.fits))

    call_sound : (t : Lexeme) → t.kind ≡ kind.Mark mark.OPEN_PAREN → Sound Inside (Behind (t ∷ []) (TailTurn true)) (bind (Exprs.call_of v) Exprs.again)
    call_sound t e = sound_made Again (call_inner t e) (λ u a h. h)

    member_or_sound : (calls : Bool) (t : Lexeme) (f : Parser (Turn Tail (Unit {0}))) → LeadsAt Inside (TailTurn calls) (TailTurn calls) t f → LeadsAt Inside (TailTurn calls) (TailTurn calls) t (Exprs.member_or v t f)
    member_or_sound calls t f h =
        at_when (is_mark mark.DOT t.kind) (λ e. at_step t (dot_sound calls t (mark_known mark.DOT t.kind e))) (λ _.
        at_when (is_mark mark.OPEN_BRACKET t.kind) (λ e. at_step t (index_sound calls t (mark_known mark.OPEN_BRACKET t.kind e))) (λ _. h))

    member_turn_sound : Sound Inside (TailTurn false) (Exprs.member_turn v)
    unfolding Exprs.member_turn
    member_turn_sound = sound_peek (λ t. member_or_sound false t (ret (Stop tt)) (sound_at t (sound_ret {a = Stop tt} refl))) (sound_ret {a = Stop tt} refl)

    tail_turn_sound : Sound Inside (TailTurn true) (Exprs.tail_turn v)
    unfolding Exprs.tail_turn
    tail_turn_sound = sound_peek (λ t. member_or_sound true t (when (is_mark mark.OPEN_PAREN t.kind) (step (bind (Exprs.call_of v) Exprs.again)) (ret (Stop tt)))
        (at_when (is_mark mark.OPEN_PAREN t.kind) (λ e. at_step t (call_sound t (mark_known mark.OPEN_PAREN t.kind e))) (λ _. sound_at t (sound_ret {a = Stop tt} refl)))) (sound_ret {a = Stop tt} refl)

    tails_sound : (calls : Bool) (turn : Parser (Turn Tail (Unit {0}))) → Sound Inside (TailTurn calls) turn → Sound Inside (TailMany calls) (loop turn)
    tails_sound calls turn h = sound_loop (TailTurn calls) (TailMany calls) turn h
        (λ u b q. record { proper = tt; members = λ _. refl; fits = subst (λ x. FitsAll [] x) (sym q) all_none })
        (λ u x a n q r. record { proper = (q.0, r.proper); members = λ e. member_both (is_member_tail a) (are_member_tails (tails_of n.items)) (q.1 e) (r.members e); fits = all_append q.2 r.fits })
        (record { end = []; of = stopped tt; starts = tt; is = record { proper = tt; members = λ _. refl; fits = all_none } })
      where
        member_both : (a b : Bool) → a ≡ true → b ≡ true → (a && b) ≡ true
        member_both true b h k = k
        member_both false b h k = absurd (false_true h)

    -- a chain, or what may not begin one
    chain_sound : (calls : Bool) (turn : Parser (Turn Tail (Unit {0}))) → Sound Inside (TailTurn calls) turn → (r : ℕ) → 3 ≤ r → chain_rank calls ≤ r → (u : List Lexeme) (e : Expr) → IsExpr m false d 3 u e → Sound Inside (Behind u (IsExpr m false d r)) (Exprs.chain_of turn e)
    chain_sound calls turn h r l k u e q = sound_when (is_chain_head e)
        (λ c. sound_made (λ n. chain_case e n.items) (tails_sound calls turn h) (λ x n t. looser k (u ++ x) (chain_case e n.items) (chain_is calls u x e n.items (record { rank_le = leb-true (rank e) 1 c; proper = q.proper; in_if = q.in_if; fits = q.fits }) (record { proper = t.proper; members = t.members; fits = t.fits }))))
        (λ _. sound_done (IsExpr m false d r) u e (looser l u e q))

    -- `new`

    pub new_or_prim_sound : (heads : Bool) → SoundHead m false d heads 3 (Exprs.new_or_prim v heads)
    unfolding Exprs.new_or_prim
    new_or_prim_sound heads = sound_peek (λ t. at_when (is_word word.NEW t.kind) (λ _. sound_at t (head_of_sound heads (omega arith) s.calls.new)) (λ _. sound_at t (head_map heads (omega arith) (prim_sound heads)))) (head_map heads (omega arith) (prim_sound heads))

    new_args_sound : Sound Inside IsMaybeArgs (Exprs.new_args v)
    unfolding Exprs.new_args
    new_args_sound =
        let none : Sound Inside IsMaybeArgs (ret None) = sound_ret (record { proper = tt; fits = all_none }) in
        sound_peek (λ t. at_when (is_mark mark.OPEN_PAREN t.kind) (λ e. at_step t (sound_made Some (args_sound m d v s) (λ u a r. record { proper = (r.has, r.proper); fits = all_append (all_mark mark.OPEN_PAREN d t (mark_known mark.OPEN_PAREN t.kind e)) r.fits }))) (λ _. sound_at t none)) none

    -- left sides and updates

    pub left_sound : (heads : Bool) → SoundHead m false d heads 4 (Exprs.left_of v heads)
    unfolding Exprs.left_of
    left_sound heads = head_bind heads (Exprs.chain_of (Exprs.tail_turn v)) (omega arith) (new_or_prim_sound heads) (chain_sound true (Exprs.tail_turn v) tail_turn_sound 4 (omega arith) (omega arith))

    update_known : (k : Kind) → is_update k ≡ true → (k ≡ kind.Mark (mark_of k)) × (is_update_op (mark_of k) ≡ true)
    update_known (kind.Mark i) e = (refl, e)
    update_known kind.Name e = absurd (false_true e)
    update_known kind.Number e = absurd (false_true e)
    update_known kind.Str e = absurd (false_true e)
    update_known kind.TemplateWhole e = absurd (false_true e)
    update_known kind.TemplateHead e = absurd (false_true e)
    update_known kind.TemplateMiddle e = absurd (false_true e)
    update_known kind.TemplateTail e = absurd (false_true e)
    update_known (kind.Word i) e = absurd (false_true e)
    update_known kind.Bad e = absurd (false_true e)
    update_known kind.End e = absurd (false_true e)

    from_fits : (ps : List Piece) (u : List Lexeme) (t : Lexeme) → BeginsAt t u → FitsAll ps u → FitsAll (from t.start ps) u
    from_fits ps [] t b h = absurd b
    from_fits ps (x ∷ u) t b h = record { before = λ n. fits_from ps x u n t.start (ap (λ y. y.start) b) (h.before n) }

    postfix_sound : (t : Lexeme) (u : List Lexeme) (e : Expr) → IsExpr m false d 4 u e → BeginsAt t u → Sound Inside (Behind u (IsExpr m false d 5)) (Exprs.postfix_of t.start e)
    unfolding Exprs.postfix_of
    postfix_sound t u e q b =
        let alone : Sound Inside (Behind u (IsExpr m false d 5)) (ret e) = sound_done (IsExpr m false d 5) u e (looser (omega arith) u e q) in
        sound_peek (λ k. at_when (is_update k.kind && not k.after_line) (λ h.
        let known = update_known k.kind (and_left (is_update k.kind) (not k.after_line) h) in
        at_step k (sound_ret {a = tree.Update t.start (mark_of k.kind) false e} (record {
          rank_le = omega arith;
          proper = (known.1, q.rank_le, q.proper);
          in_if = q.in_if;
          fits = all_append (from_fits (print m d e) u t b q.fits) (all_glued (mark_of k.kind) d k known.0 (not_true k.after_line (and_right (is_update k.kind) (not k.after_line) h)));
        }))) (λ _. sound_at k alone)) alone

    update_mend : (heads : Bool) (u : List Lexeme) (e : Expr) → IsExpr m false d (top heads 4) u e → Mended Inside (Behind u (IsExpr m false d (top heads 5)))
    update_mend true u e q = some_done (IsExpr m false d 20) u e q
    update_mend false u e q = some_done (IsExpr m false d 5) u e (looser (omega arith) u e q)

    pub update_sound : (heads : Bool) → SoundHead m false d heads 5 (Exprs.update_of v heads)
    unfolding Exprs.update_of
    update_sound heads = sound_look
        (λ t. at_bind (sound_first t (left_sound heads)) (λ u e q. leads_map (λ x a r. r) (λ x a r. looser (top_le heads 5 (omega arith)) (u ++ x) a r) (postfix_sound t u e q.0 q.1)) (λ u e q. update_mend heads u e q.0))
        (end_bind (IsExpr m false d 5) (IsExpr m false d (top heads 5)) (Exprs.postfix_of 0) (left_sound heads) (update_mend heads))

    pub unary_sound : (heads : Bool) → SoundHead m false d heads 6 (Exprs.unary_of v heads)
    unfolding Exprs.unary_of
    unary_sound heads =
        let plain : SoundHead m false d heads 6 (Exprs.update_of v heads) = head_map heads (omega arith) (update_sound heads) in
        sound_peek (λ t. at_when (is_prefix t.kind || is_update t.kind) (λ _. sound_at t (head_of_sound heads (omega arith) s.calls.prefix)) (λ _. sound_at t plain)) plain

-- What the calls for `new` and a prefix operator read: these count for the depth.

prefix_known : (k : Kind) → is_prefix k ≡ true → (k ≡ op_kind (mark_of k) (is_word_kind k)) × (is_prefix_op (mark_of k) (is_word_kind k) ≡ true)
prefix_known (kind.Mark i) e = (refl, e)
prefix_known (kind.Word i) e = (refl, e)
prefix_known kind.Name e = absurd (false_true e)
prefix_known kind.Number e = absurd (false_true e)
prefix_known kind.Str e = absurd (false_true e)
prefix_known kind.TemplateWhole e = absurd (false_true e)
prefix_known kind.TemplateHead e = absurd (false_true e)
prefix_known kind.TemplateMiddle e = absurd (false_true e)
prefix_known kind.TemplateTail e = absurd (false_true e)
prefix_known kind.Bad e = absurd (false_true e)
prefix_known kind.End e = absurd (false_true e)

module _ (m : Bodies) (d : ℕ) (v : Env) (s : SoundEnv m (suc d) v)
    (paren : (heads : Bool) (t : Lexeme) → t.kind ≡ kind.Mark mark.OPEN_PAREN → Leads Inside (Behind (t ∷ []) (IsExpr m false (suc d) 0)) (Behind (t ∷ []) (IsExpr m false (suc d) (top heads 0))) (Exprs.paren_of v heads t.start)) where
  new_is : (t : Lexeme) → t.kind ≡ kind.Word word.NEW → (u x : List Lexeme) (e : Expr) (o : Option Args) → IsExpr m false (suc d) 2 u e → IsMaybeArgs m (suc d) x o → IsExpr m false d 3 (t ∷ (u ++ x)) (tree.New t.start e (maybe_args_of o))
  new_is t k u x e None q r = record { rank_le = omega arith; proper = (omega (arith, q.rank_le), q.proper, r.proper); in_if = refl; fits = all_append (all_placed (kind.Word word.NEW) (suc d) t k) (all_append q.fits r.fits) }
  new_is t k u x e (Some a) q r = record { rank_le = omega arith; proper = (q.rank_le, q.proper, r.proper); in_if = refl; fits = all_append (all_placed (kind.Word word.NEW) (suc d) t k) (all_append q.fits r.fits) }

  new_alone : (t : Lexeme) → t.kind ≡ kind.Word word.NEW → (u : List Lexeme) (e : Expr) → IsExpr m false (suc d) 3 u e → IsExpr m false d 3 (t ∷ u) (tree.New t.start e (maybe_args_of None))
  new_alone t k u e q = record { rank_le = omega arith; proper = (q.rank_le, q.proper, tt); in_if = refl; fits = all_append (all_placed (kind.Word word.NEW) (suc d) t k) (all_same (sym (append-nil (print m (suc d) e))) q.fits) }

  new_from_sound : (t : Lexeme) → t.kind ≡ kind.Word word.NEW → (u : List Lexeme) (e : Expr) → IsExpr m false (suc d) 3 u e → Sound Inside (Behind u (Behind (t ∷ []) (IsExpr m false d 3))) (Exprs.new_from v t.start e)
  unfolding Exprs.new_from
  new_from_sound t k u e q = sound_when (is_chain_head e)
      (λ c. sound_bind (tails_sound m (suc d) v s paren false (Exprs.member_turn v) (member_turn_sound m (suc d) v s paren)) (λ x n r.
      let callee = chain_is m (suc d) false u x e n.items (record { rank_le = leb-true (rank e) 1 c; proper = q.proper; in_if = q.in_if; fits = q.fits }) (record { proper = r.proper; members = r.members; fits = r.fits }) in
      sound_made (λ o. tree.New t.start (chain_case e n.items) (maybe_args_of o)) (new_args_sound m (suc d) v s paren) (λ y o a. subst (λ z. IsExpr m false d 3 (t ∷ z) (tree.New t.start (chain_case e n.items) (maybe_args_of o))) (append_assoc u x y) (new_is t k (u ++ x) y (chain_case e n.items) o callee a))))
      (λ _. sound_done (Behind (t ∷ []) (IsExpr m false d 3)) u (tree.New t.start e (maybe_args_of None)) (new_alone t k u e q))

  pub new_behind : (t : Lexeme) → t.kind ≡ kind.Word word.NEW → Sound Inside (Behind (t ∷ []) (IsExpr m false d 3)) (bind (Exprs.new_or_prim v false) (Exprs.new_from v t.start))
  new_behind t e = sound_bind (sound_inside (new_or_prim_sound m (suc d) v s paren false)) (new_from_sound t e)

  pub new_sound : Sound AtFront (IsExpr m false d 3) (Exprs.new_of v)
  unfolding Exprs.new_of
  new_sound =
      let some = zero_some AtFront m false d 3 in
      sound_peek (λ t. at_when (is_word word.NEW t.kind) (λ e. at_step t (new_behind t (word_known word.NEW t.kind e))) (λ _. sound_at t (sound_bad some))) (sound_bad some)

  pub unary_behind : (t : Lexeme) → is_prefix t.kind ≡ true → Sound Inside (Behind (t ∷ []) (IsExpr m false d 6)) (bind (Exprs.unary_of v false) (λ a. ret (tree.Unary t.start (mark_of t.kind) a (is_word_kind t.kind))))
  unary_behind t e =
      let known = prefix_known t.kind e in
      sound_made (λ a. tree.Unary t.start (mark_of t.kind) a (is_word_kind t.kind)) (sound_inside (unary_sound m (suc d) v s paren false)) (λ u a q. record { rank_le = omega arith; proper = (known.1, q.rank_le, q.proper); in_if = q.in_if; fits = all_append (all_placed (op_kind (mark_of t.kind) (is_word_kind t.kind)) (suc d) t known.0) q.fits })

  pub update_behind : (t : Lexeme) → is_update t.kind ≡ true → Sound Inside (Behind (t ∷ []) (IsExpr m false d 6)) (bind (Exprs.unary_of v false) (λ a. ret (tree.Update t.start (mark_of t.kind) true a)))
  update_behind t e =
      let known = update_known m (suc d) v s paren t.kind e in
      sound_made (λ a. tree.Update t.start (mark_of t.kind) true a) (sound_inside (unary_sound m (suc d) v s paren false)) (λ u a q. record { rank_le = omega arith; proper = (known.1, q.rank_le, q.proper); in_if = q.in_if; fits = all_append (all_placed (kind.Mark (mark_of t.kind)) (suc d) t known.0) q.fits })

  pub prefix_sound : Sound AtFront (IsExpr m false d 6) (Exprs.prefix_of v)
  unfolding Exprs.prefix_of
  prefix_sound =
      let some = zero_some AtFront m false d 6 in
      sound_peek (λ t.
      at_when (is_prefix t.kind) (λ e. at_step t (unary_behind t e)) (λ _.
      at_when (is_update t.kind) (λ e. at_step t (update_behind t e)) (λ _. sound_at t (sound_bad some)))) (sound_bad some)
