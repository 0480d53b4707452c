-- How many functions are shown compiled of a small script, computed.
use Rattle.std.proofs.Common.{◌≡◌, refl, ℕ, zero, suc, List, [], ◌∷◌, codes}
use Rattle.std.specs.Prelude.{flat_map, true, false}
use Rattle.script_grammar.specs.Tree.{Stmts, Declared}
use Rattle.stencil_data.specs.Named.{NamedFunction}
use Rattle.bytecode_buf.specs.Command.{Command}
use Rattle.parse_track.specs.Notes.{closed_names}
use Rattle.emit_stmts.specs.Functions.{top_script}
use Rattle.scope_analysis.proofs.RowTrees as row
use Rattle.compile_specs.specs.Eager.{Site, compiled_at, sites_in, top_sites}
use Rattle.compile_specs.specs.Shown.{Wanted, All, Numbers, shown}
use Rattle.session_words.specs.Words.{asked_of}
use Rattle.session_specs.specs.Compiled.{compiled_among, words_compile_none}

-- the functions at these sites and in them, at n depths
abbrev compiled_within : ℕ → List Site → List (NamedFunction (List Command))
compiled_within zero ss = []
compiled_within (suc n) ss = flat_map (λ (s : Site). (compiled_at s).part ∷ compiled_within n (sites_in s)) ss

-- `function f(x){ return () => () => x }`, a function in a function in a function
abbrev nested : Stmts
nested = row.only (Declared row.returns_arrows)

abbrev compiled_where : Wanted → ℕ
compiled_where wanted = compiled_among (shown wanted (closed_names nested) (top_script nested 37).part (compiled_within 3 (top_sites nested 37))).entries

all_row : compiled_where All ≡ 3
all_row = refl

outermost_row : compiled_where (Numbers (1 ∷ [])) ≡ 1
outermost_row = refl

innermost_row : compiled_where (Numbers (3 ∷ [])) ≡ 3
innermost_row = refl

none_row : compiled_where (Numbers []) ≡ 0
none_row = refl

-- ---- words for which none is compiled

checked_row : words_compile_none (asked_of (codes "check" ∷ codes "a.js" ∷ [])) ≡ true
checked_row = refl

unwanted_row : words_compile_none (asked_of (codes "code" ∷ codes "--want" ∷ codes "none" ∷ codes "a.js" ∷ [])) ≡ true
unwanted_row = refl

listed_row : words_compile_none (asked_of (codes "code" ∷ codes "a.js" ∷ [])) ≡ false
listed_row = refl
