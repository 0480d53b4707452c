-- Where all functions of a script start: offsets that rise.
use Rattle.std.specs.Prelude.{◌≡◌, ◌⊎◌, ℕ, suc, ◌≤◌, List, [], ◌∷◌, map}
use Rattle.emit_stmts.specs.Functions.{start_of}
use Rattle.compile_specs.specs.Eager.{Site}
use Rattle.grammar_start_laws.specs.Started.{Started}

-- each is above the one before it, and none is below this one
abbrev pub OffsetsRise : ℕ → List ℕ → Type 0
OffsetsRise from [] = Unit {0}
OffsetsRise from (n ∷ ns) = (from ≤ n) × OffsetsRise (suc n) ns

-- where the parameters of functions start
abbrev pub site_starts : List Site → List ℕ
site_starts all = map (λ (s : Site). start_of s.inner.func) all

-- these are starts of some of the functions, in their order
abbrev pub AreStarts : List ℕ → List Started → Type 0
AreStarts [] fs = Unit {0}
AreStarts (n ∷ ns) [] = ⊥
AreStarts (n ∷ ns) (f ∷ fs) = ((n ≡ f.start) × AreStarts ns fs) ⊎ AreStarts (n ∷ ns) fs
