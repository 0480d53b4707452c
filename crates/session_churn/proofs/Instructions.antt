-- How many instructions a script has with all its functions: those of its own part, and those of each function.
use Rattle.std.proofs.Common.{Bool, List, None, Option, [], ap, append_assoc, ap₂, arith, false, if◌then◌else◌, refl, suc, sym, true, ℕ, ◌&&◌, ◌++◌, ◌||◌, ◌∙◌, ◌∷◌}
use Rattle.std.proofs.lemmas.Bool.{le-leb}
use Rattle.std.proofs.lemmas.List.{length-map}
use Rattle.std.proofs.lemmas.List.Folds.{list_any-append}
use Rattle.std.specs.List.{list_any}
use Rattle.std.specs.Prelude.{Some, length, map, option_map, sum, ◌+◌, ◌≡◌}
use Rattle.bytecode_buf.specs.Command.{Command, ShowsCommands, listed_from, placed_from}
use Rattle.bytecode_buf.specs.Layout.{Numbered, instructions}
use Rattle.bytecode_buf.specs.Width.{width_of}
use Rattle.compile_specs.specs.Eager.{AreFunctions, Site, compiled_at}
use Rattle.compile_specs.specs.Shown.{All, IsShown, entry, extents_of, is_shown, is_within, shown, starts_of, with_numbers}
use Rattle.emit_stmts.specs.Functions.{top_script}
use Rattle.parse_track.specs.ClosedNames.{Bound}
use Rattle.parse_track.specs.Notes.{closed_names}
use Rattle.script_grammar.specs.Tree.{Stmts}
use Rattle.script_image.specs.ScriptLines.{entry_instructions, instruction_count, listed_function, listed_merged}
use Rattle.session_churn.specs.Counts.{size_at}
use Rattle.stencil_data.specs.Named.{NamedFunction, NamedMerged}
use Rattle.stencil_data.specs.declared.functions.Extent.{Extent}

-- ---- one code

length-listed_from : (texts : List (List ℕ)) (at : ℕ) (is : List Numbered) → length (listed_from texts at is) ≡ length is
length-listed_from texts at [] = refl
length-listed_from texts at (i ∷ is) = ap suc (length-listed_from texts (at + width_of i.op) is)

length-placed_from : (at : ℕ) (cs : List Command) → length (placed_from at cs) ≡ length cs
length-placed_from at [] = refl
length-placed_from at (c ∷ cs) = ap suc (length-placed_from (at + width_of c.op) cs)

-- bytes that stand for commands have as many instructions
pub code_counted : (texts : List (List ℕ)) (code : List ℕ) (commands : List Command) → ShowsCommands texts code commands → length (instructions code) ≡ length commands
code_counted texts code commands shows = sym (length-listed_from texts 0 (instructions code)) ∙ (ap length shows.is ∙ length-placed_from 0 commands)

function_size : (starts : List ℕ) (f : NamedFunction (List Command)) → length (listed_function (with_numbers starts f)).code ≡ length f.code
function_size starts f = length-placed_from 0 (with_numbers starts f).code ∙ length-map f.code _

-- ---- all functions are shown

is_in_itself : (x : Extent) → is_within x x ≡ true
is_in_itself x = ap₂ (λ (a : Bool) (b : Bool). a && b) (le-leb x.start x.start (omega arith)) (le-leb x.end x.end (omega arith))

or_true : (a b : Bool) → b ≡ true → (a || b) ≡ true
or_true true b is = refl
or_true false b is = is

is_shown_there : (x : Extent) (front back : List Extent) → list_any (λ (e : Extent). is_within x e && true) (front ++ x ∷ back) ≡ true
is_shown_there x front back =
    let inside : Extent → Bool = λ (e : Extent). is_within x e && true in
    list_any-append inside front (x ∷ back) ∙ or_true (list_any inside front) (list_any inside (x ∷ back)) (ap (λ (b : Bool). (b && true) || list_any inside back) (is_in_itself x))

-- ---- the sizes of all entries

entry_size : (starts : List ℕ) (f : NamedFunction (List Command)) (b : Bool) → b ≡ true → entry_instructions (option_map listed_function (if b then Some (with_numbers starts f) else None)) ≡ length f.code
entry_size starts f true is = function_size starts f
entry_size starts f false is = absurd (cc)

-- the sizes of the entries of functions among others of these extents
sizes_among : List ℕ → List Extent → List (NamedFunction (List Command)) → List ℕ
sizes_among starts all fs = map entry_instructions (map (λ (e : Option (NamedFunction (List Command))). option_map listed_function e) (map (entry All all starts) fs))

entries_counted : (starts : List ℕ) (front : List Extent) (fs : List (NamedFunction (List Command))) → sizes_among starts (front ++ extents_of fs) fs ≡ map (λ (f : NamedFunction (List Command)). length f.code) fs
unfolding sizes_among
entries_counted starts front [] = refl
entries_counted starts front (f ∷ fs) =
    ap₂ (λ (n : ℕ) (ns : List ℕ). n ∷ ns) (entry_size starts f (is_shown All (front ++ f.extent ∷ extents_of fs) f.extent) (is_shown_there f.extent front (extents_of fs)))
    (ap (λ (l : List Extent). sizes_among starts l fs) (sym (append_assoc front (f.extent ∷ []) (extents_of fs))) ∙ entries_counted starts (front ++ f.extent ∷ []) fs)

-- what is shown of a script with all its functions has the instructions of its own part and those of each function
pub shown_counted : (bound : List (Bound (List ℕ))) (top : NamedFunction (List Command)) (fs : List (NamedFunction (List Command)))
    → instruction_count (listed_merged (shown All bound top fs)) ≡ length top.code + sum (map (λ (f : NamedFunction (List Command)). length f.code) fs)
unfolding sizes_among
shown_counted bound top fs = ap₂ (λ (m : ℕ) (n : ℕ). m + n) (function_size (starts_of fs) top) (ap sum (entries_counted (starts_of fs) [] fs))

-- ---- a script

parts_sized : (all : List Site) → map (λ (f : NamedFunction (List Command)). length f.code) (map (λ (s : Site). (compiled_at s).part) all) ≡ map size_at all
parts_sized [] = refl
parts_sized (s ∷ all) = ap (λ (ns : List ℕ). size_at s ∷ ns) (parts_sized all)

-- The instructions of a script, by the sites of its functions.
pub record IsCounted (items : Stmts) (size : ℕ) (merged : NamedMerged (List Command)) : Type 0 where
  pub all : List Site
  pub functions : AreFunctions items size all
  pub count : instruction_count (listed_merged merged) ≡ length (top_script items size).part.code + sum (map size_at all)

pub script_counted : (items : Stmts) (size : ℕ) (merged : NamedMerged (List Command)) → IsShown All items size merged → IsCounted items size merged
script_counted items size merged (top, fs, eager, is) = record {
  all = eager.all;
  functions = eager.are;
  count = ap (λ (m : NamedMerged (List Command)). instruction_count (listed_merged m)) is
      ∙ (shown_counted (closed_names items) top fs
      ∙ ap₂ (λ (f : NamedFunction (List Command)) (l : List (NamedFunction (List Command))). length f.code + sum (map (λ (g : NamedFunction (List Command)). length g.code) l)) eager.script eager.each
      ∙ ap (λ (ns : List ℕ). length (top_script items size).part.code + sum ns) (parts_sized eager.all));
}
