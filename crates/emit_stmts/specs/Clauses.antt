-- The jumps of a switch that wait for its clauses, and that those to one clause have landed, and no others.
use Rattle.std.specs.Prelude.{◌≡◌, ℕ, ◌+◌, ◌<◌, ◌≤◌, true, false, List, [], ◌∷◌, ◌++◌, drop}
use Rattle.bytecode_buf.specs.declared.waits.Aim.TheVariants as aim
use Rattle.bytecode_buf.specs.declared.waits.Wait.{Wait}
use Rattle.bytecode_buf.specs.Appends.{patched, kept}
use Rattle.bytecode_buf.specs.Emits.{LandsHere}
use Rattle.emit_stmts.specs.Apart.{is_clause, place_of}
use Rattle.emit_stmts.specs.declared.switching.ClauseJumps.{ClauseJumps}

-- none of these jumps waits for a clause
abbrev pub NoClause : List Wait → Type 0
NoClause [] = Unit {0}
NoClause (w ∷ ws) = (is_clause w.aim ≡ false) × NoClause ws

-- each waits for a clause, by rising places, which are these at least and below that bound
abbrev pub InOrder : ℕ → ℕ → List Wait → Type 0
InOrder from to [] = from ≤ to
InOrder from to (w ∷ ws) = (is_clause w.aim ≡ true) × (from ≤ place_of w.aim) × InOrder (place_of w.aim + 1) to ws

-- what waits for a clause waits for one of these places
abbrev pub Among : ℕ → ℕ → List Wait → Type 0
Among from to [] = Unit {0}
Among from to (w ∷ ws) = (is_clause w.aim ≡ true → (from ≤ place_of w.aim) × (place_of w.aim < to)) × Among from to ws

-- the jumps to clauses that still wait, in the order of the code
abbrev pub waiting : ClauseJumps → List Wait
waiting jumps = drop jumps.landed jumps.tests.items ++ jumps.otherwise.items

-- the jumps of the tests
pub record TestLanded (place to : ℕ) (old : List ℕ) (tests : List Wait) (new : List ℕ) (tests_left : List Wait) : Type 0 where
  pub bytes : new ≡ patched (aim.Clause place) tests old
  pub left : tests_left ≡ kept (aim.Clause place) tests
  pub order : InOrder (place + 1) to tests_left

-- all jumps to it, whatever else waits for no clause
pub record ClauseLanded (place to : ℕ) (old : List ℕ) (jumps : ClauseJumps) (new : List ℕ) (jumps_new : ClauseJumps) : Type 0 where
  pub lands : (rest : List Wait) → NoClause rest → LandsHere (aim.Clause place) old (waiting jumps ++ rest) [] new (waiting jumps_new ++ rest)
  pub order : InOrder (place + 1) to (drop jumps_new.landed jumps_new.tests.items)
  pub among : Among place to jumps.otherwise.items → Among (place + 1) to jumps_new.otherwise.items
