-- The early errors that look at one region alone, and the offsets of all of them, as the code keeps them.
use Rattle.std.specs.Prelude.{ℕ, Bool, List, [], ◌++◌, nat_eq, Option, ◌≡◌}
use Rattle.parse_track.specs.declared.rules.RuleOffsets.{RuleOffsets}
use Rattle.parse_track.specs.declared.rules.InnerKind.{InnerKind}
use Rattle.parse_track.specs.declared.rules.InnerKind.TheVariants as kind
use Rattle.parse_track.specs.Told.{Region, Told, KnownNames}
use Rattle.parse_track.specs.RegionNames.{is_block, is_body, is_lexical, is_param, is_catch_param, directly, lexical_below}
use Rattle.parse_track.specs.declared.names.Asked.{Asked}
use Rattle.parse_track.specs.Asked.{asks}
use Rattle.parse_track.specs.EarlyErrors.{smaller, smallest, also_in, at_regions}
use Rattle.parse_track.specs.EarlyErrors.{twice_lexical, catch_and_lexical, param_and_lexical, twice_param, binds_reserved}

pub data RegionRule : Type 0 where
  TwiceLexical : RegionRule
  CatchAndLexical : RegionRule
  ParamAndLexical : RegionRule
  TwiceParam : RegionRule
  BindsReserved : RegionRule

abbrev pub rule_of : RegionRule → KnownNames ℕ → Region ℕ → Told ℕ → List ℕ
rule_of TwiceLexical known = twice_lexical nat_eq
rule_of CatchAndLexical known = catch_and_lexical nat_eq
rule_of ParamAndLexical known = param_and_lexical nat_eq
rule_of TwiceParam known = twice_param nat_eq
rule_of BindsReserved known = binds_reserved nat_eq known

-- the offset that is kept for a rule
abbrev pub offset_of : RuleOffsets → RegionRule → Option ℕ
offset_of offsets TwiceLexical = offsets.twice_lexical
offset_of offsets CatchAndLexical = offsets.catch_and_lexical
offset_of offsets ParamAndLexical = offsets.param_and_lexical
offset_of offsets TwiceParam = offsets.twice_param
offset_of offsets BindsReserved = offsets.binds_reserved

-- the smallest offset of a rule at a region itself, and at all regions of what is told
abbrev pub first_at : RegionRule → KnownNames ℕ → Region ℕ → Told ℕ → Option ℕ
first_at rule known k told = smallest (rule_of rule known k told)

abbrev pub first_of : RegionRule → KnownNames ℕ → Told ℕ → Option ℕ
first_of rule known told = smallest (at_regions (rule_of rule known) told)

-- of each rule the smallest offset at a region itself
abbrev pub AreFirstAt : KnownNames ℕ → RuleOffsets → Region ℕ → Told ℕ → Type 0
AreFirstAt known offsets k told = (rule : RegionRule) → offset_of offsets rule ≡ first_at rule known k told

-- of each rule the smallest offset in what is told
abbrev pub AreFirstOf : KnownNames ℕ → RuleOffsets → Told ℕ → Type 0
AreFirstOf known offsets told = (rule : RegionRule) → offset_of offsets rule ≡ first_of rule known told

-- of each rule the smallest offset so far, with those of what is told
abbrev pub AreLessened : KnownNames ℕ → RuleOffsets → RuleOffsets → Told ℕ → Type 0
AreLessened known before now told = (rule : RegionRule) → offset_of now rule ≡ smaller (offset_of before rule) (first_of rule known told)

-- the offsets of the lexical names of a catch clause's block that equal its parameter
abbrev pub equal_catch_param : Told ℕ → List ℕ
equal_catch_param told = also_in nat_eq (directly is_catch_param told) (lexical_below is_block told)

-- the offsets of the lexical names of a function's body that equal a parameter
abbrev pub equal_param : Told ℕ → List ℕ
equal_param told = also_in nat_eq (directly is_param told) (directly is_lexical told ++ lexical_below is_body told)

-- a region itself declares no name
abbrev pub DeclaresNothing : Told ℕ → Type 0
DeclaresNothing told = (asked : Asked) → directly (asks asked) told ≡ []

abbrev pub is_inner : InnerKind → Region ℕ → Bool
is_inner kind.Block = is_block
is_inner kind.Body = is_body
