-- What a script tells of its regions: in each region, in the order of the source, the names that
-- are declared in it, the names that it uses, its jumps, and the regions inside.
-- The type of names is a parameter: the definitions of this crate serve for names that are texts and
-- for names that are numbers of texts.
use Rattle.std.specs.Prelude.{ℕ, Option}
use Rattle.parse_track.specs.declared.region.Declare.{Declare}
use Rattle.parse_track.specs.declared.region.Jump.{Jump}

-- a name, and the byte offset of its token
pub record Name (A : Type 0) : Type 0 where
  pub name : A
  pub at : ℕ

-- The regions are this project's own choice. Those of ECMA-262 in which names are declared are the
-- script (16.1), the function and its parameters (15.2), the block (14.2), the switch (14.12), the
-- head of a for statement (14.7.4, 14.7.5) and the catch clause (14.15); a loop and a label (14.13)
-- are regions for their jumps alone. A Lambda is the scope of the name of a function expression
-- (15.2.5), around its function. A VarBody is the body of a function that has an initializer among its
-- parameters (10.2.11, step 28), inside its function.
pub data Region (A : Type 0) : Type 0 where
  Script : Region A
  Function : Region A
  Arrow : Region A
  Lambda : Name A → Region A
  Block : Region A
  Switch : Region A
  ForHead : Region A
  Catch : Region A
  Loop : Region A
  Label : Name A → Region A
  VarBody : Region A

pub data Leaf (A : Type 0) : Type 0 where
  Declared : Declare → Name A → Leaf A
  Used : A → Leaf A
  Jumped : Jump → ℕ → Option (Name A) → Leaf A

-- What stands in a region. `inner` has a region inside: its kind, the offset of its first token (of a
-- function that of its parameters), what stands in it, and what stands after it.
pub data Told (A : Type 0) : Type 0 where
  nothing : Told A
  leaf : Leaf A → Told A → Told A
  inner : Region A → ℕ → Told A → Told A → Told A

-- the names that are known by their spelling: `eval`, `arguments` and `.this`, the name by which
-- a use of `this` goes
pub record KnownNames (A : Type 0) : Type 0 where
  pub eval : A
  pub arguments : A
  pub this : A
