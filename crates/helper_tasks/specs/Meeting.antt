-- What is known of a gate at which calls meet.
use Rattle.std.specs.Prelude.{ℕ}

-- This project's own choice: n calls pass at once, m have to arrive, and each looks m times.
pub record Meeting : Type 0 where
  pub pass : ℕ
  pub needed : ℕ
  pub turns : ℕ
