-- Bytes that are handed out in a caller's room.
use Rattle.std.specs.Prelude.{◌≡◌, ◌≤◌, ◌<◌, ◌⊎◌, ◌++◌, ℕ, List, length, drop}
use Rattle.stencil_c.specs.declared.answers.StencilAnswer.{StencilAnswer}

-- an answer of this kind that says how many bytes there are
abbrev pub of_bytes : ℕ → ℕ → StencilAnswer
of_bytes kind needed = record { kind = kind; rule = 0; offset = 0; count = 0; needed = needed }

-- the bytes stand at the front of the room, whose rest stays; or they are more than the room has place for, and it stays as it was
abbrev pub IsHandedOut : List ℕ → List ℕ → List ℕ → StencilAnswer → Type 0
IsHandedOut bytes before after out =
    ((length bytes ≤ length before) × (after ≡ bytes ++ drop (length bytes) before) × (out ≡ of_bytes 0 (length bytes)))
    ⊎ ((length before < length bytes) × (after ≡ before) × (out ≡ of_bytes 10 (length bytes)))
