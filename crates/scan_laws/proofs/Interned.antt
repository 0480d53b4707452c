-- One more text, which is small, keeps texts small.
use Rattle.std.proofs.Common.{ℕ, List, [], ◌∷◌, length, subst, sym, inl, inr}
use Rattle.parser_atoms.specs.Places.{Interns}
use Rattle.bytecode_buf.specs.InRange.{Small, TextsSmall}
use Rattle.scan_laws.proofs.Gained.{small_both}

pub interns_small : (before after : List (List ℕ)) (units : List ℕ) (atom : ℕ) → Interns before after units atom → TextsSmall before → Small (length units) → TextsSmall after
interns_small before after units atom (inl h) small few = subst TextsSmall (sym h.1) small
interns_small before after units atom (inr h) small few = subst TextsSmall (sym h.2) (small_both before (units ∷ []) small (few, tt))
