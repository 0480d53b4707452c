-- What the walk does to the functions so far and to the bodies at hand.
use Rattle.std.specs.Prelude.{◌≡◌, ℕ, suc, Bool, true, false, Option, List, [], ◌∷◌, ◌++◌, length, map, reverse}
use Rattle.std.specs.declared.vec.Vec.{Vec}
use Rattle.std.specs.declared.alloc.Global.{Global}
use Rattle.stencil_data.specs.declared.functions.Extent.{Extent}
use Rattle.script_grammar.specs.Interpretation.{Interpretation}
use Rattle.script_grammar.specs.Shows.{ShowAll}
use Rattle.script_grammar.specs.Tree.{Stmts}
use Rattle.scope_analysis.specs.Functions.{Inner}
use Rattle.parse_handlers.specs.declared.found.FoundFunction.{FoundFunction, out-FoundFunction}
use Rattle.parse_handlers.specs.FoundOf.{HoldsBody, founds_before}
use Rattle.parse_handlers.specs.Inner.{no_inner, in_stmts}
use Rattle.scope_listing_laws.specs.Listing.{Mirrors, bodies_before}
use Rattle.parse_track.specs.declared.region.Early.{Early}
use Rattle.parse_track.specs.EarlyErrors.{smaller, sooner, error_of}
use Rattle.parse_track.specs.Notes.{first_note, strict_errors}
use Rattle.early_apart_laws.specs.Late.{late_function}
use Rattle.parse_function_list.specs.declared.list.FoundBody.{FoundBody}
use Rattle.parse_function_list.specs.declared.list.ListedFunction.{ListedFunction}
use Rattle.parse_function_list.specs.declared.listing.Listing.{Listing}
use Rattle.parse_function_list.specs.Placed.{Placed, AllPlaced, extents_of, directly_in, placed_of}
use Rattle.parse_function_list.specs.Strict.{HasStrict}

-- a function that was found, where it stands, with these directly in it
abbrev pub head_of : FoundFunction → (around place : ℕ) → Vec Extent Global → ListedFunction
head_of found around place inner = record {
  extent = (out-FoundFunction found).extent;
  kind = (out-FoundFunction found).kind;
  name = (out-FoundFunction found).name;
  inner = inner;
  around = around;
  place = place;
}

-- the smallest offset of a directive, after the body of a function whose parameters are simple or not
abbrev pub met : Bool → Option ℕ → Option ℕ → Option ℕ
met true before strict = before
met false before strict = smaller before strict

-- The bodies at hand, of which the next one stands last, have these statements.
abbrev pub AtHand : Interpretation → List FoundBody → List Stmts → Type 0
AtHand i bodies all = ShowAll (λ (b : FoundBody). HoldsBody i b.found) (reverse bodies) all

-- So have what was found of their directives.
abbrev pub StrictAtHand : List FoundBody → List Stmts → Type 0
StrictAtHand bodies all = ShowAll HasStrict (reverse bodies) all

-- the errors of rule 14 in these functions and in those inside them
abbrev pub late_in : List Inner → List Early
late_in [] = []
late_in (f ∷ fs) = late_function f.func ++ late_in fs

-- the errors of rule 14 of a body whose function has such parameters
abbrev pub body_late : (simple : Bool) → Stmts → List Early
body_late true items = []
body_late false items = strict_errors items

-- Functions that stand directly in one were listed after those of the extents `before`: they and all functions in them are
-- placed, the bodies `taken` were taken, and the others are left; and of the bodies that were taken the first error of
-- rule 14 was met.
pub record Places (i : Interpretation) (old new : Listing) (before after : List Extent) (fs : List Inner) (around : ℕ) (taken others : List Stmts)
    (late : List Early) : Type 0 where
  pub all : List Placed
  pub placed : AllPlaced around (length before) (suc (length old.functions.items)) fs all
  pub listed : map (placed_of i) new.functions.items ≡ map (placed_of i) old.functions.items ++ all
  pub extents : after ≡ before ++ extents_of fs
  pub left : AtHand i new.bodies.items others
  pub meets : StrictAtHand old.bodies.items taken
      → StrictAtHand new.bodies.items others × (error_of 14 new.strict ≡ sooner (error_of 14 old.strict) (first_note late))

-- What was found is listed, where the bodies at hand are those of these functions and then others.
pub record Lists (old new : Listing) (before after : List Extent) (found : List FoundFunction) (around : ℕ) : Type 0 where
  pub places : (i : Interpretation) (fs : List Inner) (others : List Stmts) → Mirrors (founds_before i found no_inner) fs
      → AtHand i old.bodies.items (bodies_before fs others) → Places i old new before after fs around (bodies_before fs others) others (late_in fs)

-- So is one function.
pub record ListsOne (old new : Listing) (before after : List Extent) (found : FoundFunction) (around : ℕ) : Type 0 where
  pub places : (i : Interpretation) (f : Inner) (others : List Stmts) → Mirrors (founds_before i (found ∷ []) no_inner) (f ∷ [])
      → AtHand i old.bodies.items (bodies_before (f ∷ []) others)
      → Places i old new before after (f ∷ []) around (bodies_before (f ∷ []) others) others (late_function f.func)

-- So is what is in one function.
pub record ListsInside (old new : Listing) (before after : List Extent) (found : FoundFunction) (around : ℕ) : Type 0 where
  pub places : (i : Interpretation) (f : Inner) (others : List Stmts) → Mirrors (founds_before i (found ∷ []) no_inner) (f ∷ [])
      → AtHand i old.bodies.items (bodies_before (f ∷ []) others)
      → Places i old new before after (directly_in f) around (bodies_before (f ∷ []) others) others (late_function f.func)

-- So is what is in the next body.
pub record ListsBody (old new : Listing) (before after : List Extent) (simple : Bool) (around : ℕ) : Type 0 where
  pub places : (i : Interpretation) (items : Stmts) (fs : List Inner) (others : List Stmts) → Mirrors (in_stmts items no_inner) fs
      → AtHand i old.bodies.items (items ∷ bodies_before fs others)
      → Places i old new before after fs around (items ∷ bodies_before fs others) others (body_late simple items ++ late_in fs)
