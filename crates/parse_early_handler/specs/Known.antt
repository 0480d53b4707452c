-- Words that rules know by their spelling, as atoms.
use Rattle.std.specs.Prelude.{◌≡◌, ℕ, List, codes}
use Rattle.script_grammar.specs.Interpretation.{Interpretation, text_of}
use Rattle.parse_track.specs.declared.region.WellKnownAtoms.{WellKnownAtoms}

-- The atoms of the known words where they are the first texts of all, in this order: `eval`, `arguments`, `.this`,
-- `__proto__`, `get`, `set`, `use strict`.
abbrev pub known_atoms : WellKnownAtoms
known_atoms = record { eval = 0; arguments = 1; this = 2; proto = 3; get = 4; set = 5; strict = 6 }

-- The atom has this text, and no other atom has it.
pub record KnowsWord (i : Interpretation) (atom : ℕ) (text : List ℕ) : Type 0 where
  pub has : text_of i atom ≡ text
  pub only : (other : ℕ) → text_of i other ≡ text → other ≡ atom

-- The words that the rules without regions ask for have these atoms.
pub record KnowsWords (i : Interpretation) (known : WellKnownAtoms) : Type 0 where
  pub eval : KnowsWord i known.eval (codes "eval")
  pub arguments : KnowsWord i known.arguments (codes "arguments")
  pub proto : KnowsWord i known.proto (codes "__proto__")
  pub strict : KnowsWord i known.strict (codes "use strict")
