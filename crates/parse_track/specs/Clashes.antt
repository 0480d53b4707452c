-- How var names clash with lexical names of the regions around them, from the outside in: the counterpart of the
-- rules on lexical and var names for one walk, with the smallest offset of each lexical name. Only clauses of private
-- functions cite it; that it gives those rules is proved.
use Rattle.std.specs.Prelude.{ℕ, max, Bool, true, false, cond, not, nat_eq, Option, None, Some, List, [], ◌∷◌}
use Rattle.parse_track.specs.Told.{Name, Region, Told, nothing, leaf, inner}
use Rattle.parse_track.specs.RegionNames.{is_lexical, is_var, is_head, stops_vars, declared_by, directly, vars}
use Rattle.parse_track.specs.EarlyErrors.{smaller, later, also_in}

-- the smallest offset of each lexical name around
abbrev pub Firsts : Type 0
Firsts = ℕ → Option ℕ

abbrev pub no_firsts : Firsts
no_firsts x = None

abbrev pub put_first : Firsts → Name ℕ → Firsts
put_first firsts x y = cond (nat_eq x.name y) (smaller (Some x.at) (firsts y)) (firsts y)

abbrev pub open_all : List (Name ℕ) → Firsts → Firsts
open_all [] firsts = firsts
open_all (x ∷ xs) firsts = open_all xs (put_first firsts x)

-- Where a var name clashes: of a head's name at the var name, of another lexical name at the later of the two.
abbrev pub clash_at : Bool → Option ℕ → ℕ → Option ℕ
clash_at heads None at = None
clash_at true (Some first) at = Some at
clash_at false (Some first) at = Some (max first at)

abbrev pub clash_all : Bool → Firsts → List (Name ℕ) → Option ℕ
clash_all heads firsts [] = None
clash_all heads firsts (v ∷ vs) = smaller (clash_at heads (firsts v.name) v.at) (clash_all heads firsts vs)

-- whether the lexical names of a head, or of another region, count: those of heads do, or those of the others
abbrev pub counts : Bool → Bool → Bool
counts true is_head = is_head
counts false is_head = not is_head

abbrev pub opens : Bool → Region ℕ → Bool
opens heads k = counts heads (is_head k)

-- what is around inside a region
abbrev pub base : Region ℕ → Firsts → Firsts
base k firsts = cond (stops_vars k) no_firsts firsts

-- with the lexical names of a region, where those of its kind count
abbrev pub opened_in : Bool → Region ℕ → Told ℕ → Firsts → Firsts
opened_in heads k i firsts = cond (opens heads k) (open_all (directly is_lexical i) firsts) firsts

abbrev pub opened : Bool → Region ℕ → Told ℕ → Firsts → Firsts
opened heads k i firsts = opened_in heads k i (base k firsts)

abbrev pub clashes : Bool → Firsts → Told ℕ → Option ℕ
clashes heads firsts nothing = None
clashes heads firsts (leaf l t) = smaller (clash_all heads firsts (declared_by is_var l)) (clashes heads firsts t)
clashes heads firsts (inner k at i t) = smaller (clashes heads (opened heads k i firsts) i) (clashes heads firsts t)

-- the rule, as a list
abbrev pub pairs : Bool → List (Name ℕ) → List (Name ℕ) → List ℕ
pairs true xs ys = also_in nat_eq xs ys
pairs false xs ys = later nat_eq xs ys

abbrev pub clash_rule : Bool → Region ℕ → Told ℕ → List ℕ
clash_rule heads k i = cond (opens heads k) (pairs heads (directly is_lexical i) (vars i)) []
