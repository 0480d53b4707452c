-- Operands of one token.
use Rattle.std.proofs.Common.{◌≡◌, ◌∙◌, ◌||◌, ◌&&◌, not, ℕ, List, [], Bool, if◌then◌else◌, nat_le, subst, ◌⊎◌, inl, inr, true, false, refl, sym, ap, arith, nat_eq, length}
use Rattle.std.proofs.lemmas.Bool.{cases_eq, ne_eqb}
use Rattle.std.proofs.lemmas.Bool.Decides.{nat_tests}
use Rattle.script_grammar.specs.declared.token.Kind.{Kind}
use Rattle.script_grammar.specs.declared.token.Kind.TheVariants as kind
use Rattle.script_grammar.specs.declared.token.mark.TheConstants as mark
use Rattle.script_grammar.specs.declared.token.word.TheConstants as word
use Rattle.script_grammar.specs.Kinds.{is_assign_mark, is_mark, is_name, is_prefix, is_update, is_word, mark_level}
use Rattle.script_grammar.specs.Lexeme.{Lexeme}
use Rattle.script_grammar.specs.Proper.{left_rank, rank}
use Rattle.script_grammar.specs.Tree.{Expr}
use Rattle.grammar_parser_specs.specs.Parser.{Recorded, Read, head_of, rest_of, noted, after, ret, Stop, turned, turns, loop}
use Rattle.grammar_parser_specs.specs.Exprs.{Env, assign_of, assign_tail, atom_case, chain_case, chain_of, cond_of, cond_tail, is_arrow_head, is_atom, is_chain_head, is_word_atom, left_of, new_or_prim, plain_of, postfix_of, power_of, prim_of, tail_turn, unary_of, update_of}
use Rattle.parse_exprs.specs.Alone.{ends_assign, ends_assign_mark, extends_operand}
use Rattle.parse_exprs.specs.Answers.{ReadAs}
use Rattle.parse_exprs.specs.Levels.{level_with, up_to}
use Rattle.parse_exprs.specs.Ranks.{begins}
use Rattle.parse_exprs.proofs.ChainExits.{atom_rank}
use Rattle.parse_exprs.proofs.Climbing.{climb_start, climb_stop, no_powers}
use Rattle.parse_exprs.proofs.RankFacts.{begins_rank}
use Rattle.parse_exprs.proofs.Steps.{just, then as and_then, when_false, when_true}

neither : (a b : Bool) → (a || b) ≡ false → (a ≡ false) × (b ≡ false)
neither false b h = (refl, h)
neither true b h = absurd (cc)

-- what an operand of one token is not

word_no_prefix : (i : ℕ) → is_word_atom i ≡ true → (is_prefix (kind.Word i) || is_update (kind.Word i)) ≡ false
word_no_prefix i h = grind (arith, nat_tests)

word_no_new : (i : ℕ) → is_word_atom i ≡ true → nat_eq i word.NEW ≡ false
word_no_new i h = grind (arith, nat_tests)

no_prefix : (k : Kind) → is_atom k ≡ true → (is_prefix k || is_update k) ≡ false
no_prefix kind.Name h = refl
no_prefix kind.Number h = refl
no_prefix kind.Str h = refl
no_prefix kind.TemplateWhole h = refl
no_prefix kind.TemplateHead h = refl
no_prefix kind.TemplateMiddle h = refl
no_prefix kind.TemplateTail h = refl
no_prefix (kind.Word i) h = word_no_prefix i h
no_prefix (kind.Mark m) h = absurd (cc)
no_prefix kind.Bad h = refl
no_prefix kind.End h = refl

no_new : (k : Kind) → is_atom k ≡ true → is_word word.NEW k ≡ false
no_new kind.Name h = refl
no_new kind.Number h = refl
no_new kind.Str h = refl
no_new kind.TemplateWhole h = refl
no_new kind.TemplateHead h = refl
no_new kind.TemplateMiddle h = refl
no_new kind.TemplateTail h = refl
no_new (kind.Word i) h = word_no_new i h
no_new (kind.Mark m) h = refl
no_new kind.Bad h = refl
no_new kind.End h = refl

-- no tail is read where none begins

tail_stops : (v : Env) (us : List Lexeme) → extends_operand (head_of us).kind ≡ false → tail_turn v us ≡ Read (Stop tt) [] us
unfolding tail_turn
tail_stops v us h =
    let dot = neither (is_mark mark.DOT (head_of us).kind) _ h in
    let bracket = neither (is_mark mark.OPEN_BRACKET (head_of us).kind) _ dot.1 in
    let paren = neither (is_mark mark.OPEN_PAREN (head_of us).kind) _ bracket.1 in
    rw (dot.0, bracket.0, paren.0) refl

no_tails : (v : Env) (e : Expr) (rs : List Recorded) (us : List Lexeme) → extends_operand (head_of us).kind ≡ false
    → ReadAs rs (after (loop (tail_turn v) us) (λ m. ret (chain_case e m.items))) e rs us
unfolding loop turns
no_tails v e rs us h = record {
  is =
      ap (λ r. noted rs (after (after r (turned (turns (tail_turn v) (length us)))) (λ m. ret (chain_case e m.items)))) (tail_stops v us h)
      ∙ (just rs e us).is;
}

-- An operand of one token, which the token after it does not extend, is read as a UnaryExpression.
pub alone_read : (v : Env) (heads : Bool) (rs : List Recorded) (ts : List Lexeme) → is_atom (head_of ts).kind ≡ true → extends_operand (head_of (rest_of ts)).kind ≡ false
    → ReadAs rs (unary_of v heads ts) (atom_case (head_of ts).kind (head_of ts)) rs (rest_of ts)
unfolding unary_of update_of left_of new_or_prim prim_of postfix_of
alone_read v heads rs ts is ends =
    let t = head_of ts in
    let us = rest_of ts in
    let e = atom_case t.kind t in
    let dot = neither (is_mark mark.DOT (head_of us).kind) _ ends in
    let bracket = neither (is_mark mark.OPEN_BRACKET (head_of us).kind) _ dot.1 in
    let paren = neither (is_mark mark.OPEN_PAREN (head_of us).kind) _ bracket.1 in
    let begins_chain : is_chain_head e ≡ true = begins_rank e ∙ sym (ap begins (atom_rank t.kind t).0) in
    let prim : ReadAs rs (new_or_prim v heads ts) e rs us = when_false _ _ (no_new t.kind is) (when_true _ _ is (just rs e us)) in
    let left : ReadAs rs (left_of v heads ts) e rs us = and_then (chain_of (tail_turn v)) prim (when_true _ _ begins_chain (no_tails v e rs us ends)) in
    when_false _ _ (no_prefix t.kind is) (and_then (postfix_of t.start) left (when_false _ _ (ap (λ b. b && not (head_of us).after_line) paren.1) (just rs e us)))

-- what a mark is not that ends an AssignmentExpression

record Ending (m : ℕ) : Type 0 where
  extends : extends_operand (kind.Mark m) ≡ false
  power : is_mark mark.POWER (kind.Mark m) ≡ false
  level : mark_level m ≡ 12
  question : is_mark mark.QUESTION (kind.Mark m) ≡ false
  assign : is_assign_mark (kind.Mark m) ≡ false
  arrow : is_mark mark.ARROW (kind.Mark m) ≡ false

one_of : (m n : ℕ) (b : Bool) → (nat_eq m n || b) ≡ true → (n ≡ m) ⊎ (b ≡ true)
one_of m n b h = elim (cases_eq m n) [
  | inl same ↦ inl (sym same)
  | inr other ↦ inr (subst (λ x. (x || b) ≡ true) (ne_eqb m n other) h)
]

ended : (m : ℕ) → ends_assign_mark m ≡ true → Ending m
ended m h = elim (one_of m mark.COMMA _ h) [
  | inl e ↦ subst Ending e (record { extends = refl; power = refl; level = refl; question = refl; assign = refl; arrow = refl })
  | inr h ↦ elim (one_of m mark.CLOSE_PAREN _ h) [
    | inl e ↦ subst Ending e (record { extends = refl; power = refl; level = refl; question = refl; assign = refl; arrow = refl })
    | inr h ↦ elim (one_of m mark.SEMICOLON _ h) [
      | inl e ↦ subst Ending e (record { extends = refl; power = refl; level = refl; question = refl; assign = refl; arrow = refl })
      | inr h ↦ elim (one_of m mark.CLOSE_BRACKET _ h) [
        | inl e ↦ subst Ending e (record { extends = refl; power = refl; level = refl; question = refl; assign = refl; arrow = refl })
        | inr h ↦ elim (one_of m mark.CLOSE_BRACE _ h) [
          | inl e ↦ subst Ending e (record { extends = refl; power = refl; level = refl; question = refl; assign = refl; arrow = refl })
          | inr h ↦ let e : mark.COLON ≡ m = grind (arith, nat_tests) in subst Ending e (record { extends = refl; power = refl; level = refl; question = refl; assign = refl; arrow = refl })
        ]
      ]
    ]
  ]
]

-- no level of operators begins with it, whether or not `in` is one
no_level : (w : Bool) (m : ℕ) → mark_level m ≡ 12 → 12 ≡ level_with w (kind.Mark m)
no_level true m e = sym e
no_level false m e = sym e

no_arrow : (k : Kind) (a b c : Bool) → is_atom k ≡ true → a ≡ false → (if is_name k then (a && b) else (is_mark mark.OPEN_PAREN k && c)) ≡ false
no_arrow kind.Name a b c h e = ap (λ x. x && b) e
no_arrow kind.Number a b c h e = refl
no_arrow kind.Str a b c h e = refl
no_arrow kind.TemplateWhole a b c h e = refl
no_arrow kind.TemplateHead a b c h e = refl
no_arrow kind.TemplateMiddle a b c h e = refl
no_arrow kind.TemplateTail a b c h e = refl
no_arrow (kind.Word i) a b c h e = refl
no_arrow (kind.Mark m) a b c h e = absurd (cc)
no_arrow kind.Bad a b c h e = refl
no_arrow kind.End a b c h e = refl

module _ (v : Env) (w : Bool) (rs : List Recorded) (ts : List Lexeme) (is : is_atom (head_of ts).kind ≡ true) where
  -- before a token of this kind
  single : (k : Kind) → (head_of (rest_of ts)).kind ≡ k → ends_assign k ≡ true → ReadAs rs (assign_of v w ts) (atom_case (head_of ts).kind (head_of ts)) rs (rest_of ts)
  unfolding assign_of plain_of cond_of cond_tail assign_tail is_arrow_head power_of
  single (kind.Mark m) same h =
      let us = rest_of ts in
      let e = atom_case (head_of ts).kind (head_of ts) in
      let d = ended m h in
      let power : ReadAs rs (power_of v true ts) e rs us = and_then _ (alone_read v true rs ts is (ap extends_operand same ∙ d.extends)) (no_powers v e rs us (ap (is_mark mark.POWER) same ∙ d.power)) in
      let level : 12 ≡ level_with w (head_of us).kind = no_level w m d.level ∙ ap (level_with w) (sym same) in
      let up : ReadAs rs (up_to v w 11 true ts) e rs us = climb_stop v w true rs ts 11 0 12 e rs us (omega arith) (climb_start v w true rs ts 11 e rs us power) level refl in
      let cond : ReadAs rs (cond_of v w true ts) e rs us = and_then (cond_tail v w) up (when_false _ _ (ap (is_mark mark.QUESTION) same ∙ d.question) (just rs e us)) in
      let plain : ReadAs rs (plain_of v w ts) e rs us = and_then (assign_tail v w) cond (when_false _ _ (ap (λ b. b && nat_le (rank e) left_rank) (ap is_assign_mark same ∙ d.assign)) (just rs e us)) in
      when_false _ _ (no_arrow (head_of ts).kind (is_mark mark.ARROW (head_of us).kind) _ _ is (ap (is_mark mark.ARROW) same ∙ d.arrow)) plain
  single kind.Name same h = absurd (cc)
  single kind.Number same h = absurd (cc)
  single kind.Str same h = absurd (cc)
  single kind.TemplateWhole same h = absurd (cc)
  single kind.TemplateHead same h = absurd (cc)
  single kind.TemplateMiddle same h = absurd (cc)
  single kind.TemplateTail same h = absurd (cc)
  single (kind.Word i) same h = absurd (cc)
  single kind.Bad same h = absurd (cc)
  single kind.End same h = absurd (cc)

  -- An operand of one token is an AssignmentExpression where the token after it ends one.
  pub single_read : ends_assign (head_of (rest_of ts)).kind ≡ true → ReadAs rs (assign_of v w ts) (atom_case (head_of ts).kind (head_of ts)) rs (rest_of ts)
  single_read h = single (head_of (rest_of ts)).kind refl h
