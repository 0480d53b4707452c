-- A tally's two meanings: its count, and the room that is left to it. Their sum never changes. Both are
-- this project's own.
use Rattle.std.specs.Prelude.{◌≡◌, ℕ, ◌+◌}

-- the count rises by this much, out of the room
pub record Rises (count_before room_before count_now room_now amount : ℕ) : Type 0 where
  pub count : count_now ≡ count_before + amount
  pub room : room_now + amount ≡ room_before
