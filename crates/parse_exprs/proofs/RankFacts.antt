-- How loosely nodes bind that are made.
use Rattle.std.proofs.Common.{◌≡◌, ℕ, ◌+◌, Bool, true, false, nat_le, refl, arith, if◌then◌else◌}
use Rattle.std.proofs.lemmas.Bool.Decides.{nat_tests}
use Rattle.script_grammar.specs.Proper.{rank, are_member_tails, operands_level, left_rank}
use Rattle.script_grammar.specs.Tree.{Expr, Tails, Operands}
use Rattle.script_grammar.specs.Tree as model
use Rattle.grammar_parser_specs.specs.Exprs.{is_chain_head, is_update_expr}
use Rattle.parse_exprs.specs.declared.part.Rank.TheVariants as ranks
use Rattle.parse_exprs.specs.Ranks.{rank_of, begins, assigns, raises}

pub chain_rank : (t : Expr) (ts : Tails) → ranks.Left ≡ rank_of (model.Chain t ts)
chain_rank t ts = split (are_member_tails ts)
  where
    split : (b : Bool) → ranks.Left ≡ (if nat_le (if b then 2 else 4) 1 then ranks.Head else if nat_le (if b then 2 else 4) 4 then ranks.Left else if nat_le (if b then 2 else 4) 5 then ranks.Update else ranks.Other)
    split true = refl
    split false = refl

over_one : (n : ℕ) → nat_le (7 + n) 1 ≡ false
over_one n = grind (arith, nat_tests)

over_left : (n : ℕ) → nat_le (7 + n) 4 ≡ false
over_left n = grind (arith, nat_tests)

over_update : (n : ℕ) → nat_le (7 + n) 5 ≡ false
over_update n = grind (arith, nat_tests)

pub binary_rank : (t : Expr) (os : Operands) → ranks.Other ≡ rank_of (model.Binary t os)
binary_rank t os = rw (over_one (operands_level os), over_left (operands_level os), over_update (operands_level os)) refl

-- what the rank of a tree says of it

le_left : (n : ℕ) → nat_le n 1 ≡ true → nat_le n 4 ≡ true
le_left n e = grind (arith, nat_tests)

le_update : (n : ℕ) → nat_le n 4 ≡ true → nat_le n 5 ≡ true
le_update n e = grind (arith, nat_tests)

begins_by : (b c d : Bool) → b ≡ begins (if b then ranks.Head else if c then ranks.Left else if d then ranks.Update else ranks.Other)
begins_by true c d = refl
begins_by false true d = refl
begins_by false false true = refl
begins_by false false false = refl

assigns_by : (b c d : Bool) → (b ≡ true → c ≡ true) → c ≡ assigns (if b then ranks.Head else if c then ranks.Left else if d then ranks.Update else ranks.Other)
assigns_by true c d h = h refl
assigns_by false true d h = refl
assigns_by false false true h = refl
assigns_by false false false h = refl

raises_by : (b c d : Bool) → (b ≡ true → c ≡ true) → (c ≡ true → d ≡ true) → d ≡ raises (if b then ranks.Head else if c then ranks.Left else if d then ranks.Update else ranks.Other)
raises_by true c d h k = k (h refl)
raises_by false true d h k = k refl
raises_by false false true h k = refl
raises_by false false false h k = refl

pub begins_rank : (t : Expr) → is_chain_head t ≡ begins (rank_of t)
begins_rank t = begins_by (nat_le (rank t) 1) (nat_le (rank t) 4) (nat_le (rank t) 5)

pub assigns_rank : (t : Expr) → nat_le (rank t) left_rank ≡ assigns (rank_of t)
assigns_rank t = assigns_by (nat_le (rank t) 1) (nat_le (rank t) 4) (nat_le (rank t) 5) (le_left (rank t))

pub raises_rank : (t : Expr) → is_update_expr t ≡ raises (rank_of t)
raises_rank t = raises_by (nat_le (rank t) 1) (nat_le (rank t) 4) (nat_le (rank t) 5) (le_left (rank t)) (le_update (rank t))
