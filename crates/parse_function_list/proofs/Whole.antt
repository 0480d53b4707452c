-- The functions of a whole script.
use Rattle.std.proofs.Common.{◌≡◌, ◌∙◌, ℕ, suc, false, Option, None, List, [], ◌∷◌, ◌++◌, length, map, reverse, sym, ap, subst}
use Rattle.std.proofs.lemmas.List.{reverse-reverse}
use Rattle.stencil_data.specs.declared.functions.Extent.{Extent}
use Rattle.script_grammar.specs.Braced.{braced_all}
use Rattle.script_grammar.specs.Interpretation.{Interpretation}
use Rattle.script_grammar.specs.Pieces.{whole}
use Rattle.script_grammar.specs.Proper.{ProperStmts}
use Rattle.script_grammar.specs.Shows.{ShowAll}
use Rattle.script_grammar.specs.Tree.{Stmts}
use Rattle.scope_analysis.specs.Functions.{Inner, inner_script}
use Rattle.parse_handlers.specs.declared.found.SyntaxBody.{SyntaxBody}
use Rattle.parse_handlers.specs.FoundOf.{HoldsBody}
use Rattle.parse_handlers.specs.Inner.{Inner as FoundInner, no_inner}
use Rattle.parse_track.specs.declared.region.Early.{Early}
use Rattle.parse_track.specs.EarlyErrors.{sooner, error_of}
use Rattle.parse_track.specs.Notes.{first_note}
use Rattle.early_apart_laws.specs.Late.{late_stmts}
use Rattle.scope_listing_laws.specs.Listing.{Mirrors, bodies_before}
use Rattle.scope_listing_laws.proofs.Laws.{mirrors_stmts, bodies_stmts}
use Rattle.parse_function_list.specs.declared.list.FoundBody.{FoundBody}
use Rattle.parse_function_list.specs.declared.list.ListedFunction.{ListedFunction}
use Rattle.parse_function_list.specs.declared.listing.Listing.{Listing}
use Rattle.parse_function_list.specs.Placed.{Placed, AllPlaced, ArePlaced, placed_of}
use Rattle.parse_function_list.specs.Listing.{AtHand, late_in, Places, Lists}
use Rattle.parse_function_list.specs.Strict.{HasStrict}
use Rattle.parse_function_list.proofs.Late.{in_stmts}

-- What the walk over a script begins with.
pub record Begins (a : Listing) (before : List Extent) (bodies : List FoundBody) : Type 0 where
  pub functions : a.functions.items ≡ []
  pub extents : before ≡ []
  pub bodies_are : a.bodies.items ≡ reverse bodies
  pub strict : a.strict ≡ None

at_hand : {a : Listing} {before : List Extent} {bodies : List FoundBody} (Shows : FoundBody → Stmts → Type 0) (all : List Stmts) → Begins a before bodies → ShowAll Shows bodies all → ShowAll Shows (reverse a.bodies.items) all
at_hand {bodies = bodies} Shows all b h =
    subst (λ (bs : List FoundBody). ShowAll Shows bs all) (sym (ap (λ (bs : List FoundBody). reverse bs) b.bodies_are ∙ reverse-reverse bodies)) h

module _ {a b : Listing} {before after : List Extent} {bodies : List FoundBody} (top : SyntaxBody) (begins : Begins a before bodies) (lists : Lists a b before after top.found.items 0) where
  script_places : (i : Interpretation) (items : Stmts) → ProperStmts whole false items → HoldsBody i top items → ShowAll (λ (x : FoundBody). HoldsBody i x.found) bodies (braced_all items)
      → Places i a b before after (inner_script items) 0 (braced_all items) [] (late_in (inner_script items))
  script_places i items proper holds shown =
      let taken : braced_all items ≡ bodies_before (inner_script items) [] = bodies_stmts items false 1 (0 ∷ []) proper [] in
      let mirrors = subst (λ (r : FoundInner). Mirrors r (inner_script items)) (sym (holds no_inner)) (mirrors_stmts items false 1 (0 ∷ []) proper) in
      let hand : AtHand i a.bodies.items (braced_all items) = at_hand (λ (x : FoundBody). HoldsBody i x.found) (braced_all items) begins shown in
      subst (λ (bs : List Stmts). Places i a b before after (inner_script items) 0 bs [] (late_in (inner_script items))) (sym taken)
      (lists.places i (inner_script items) [] mirrors (subst (λ (bs : List Stmts). AtHand i a.bodies.items bs) taken hand))

  pub script_placed : (i : Interpretation) (items : Stmts) → ProperStmts whole false items → HoldsBody i top items → ShowAll (λ (x : FoundBody). HoldsBody i x.found) bodies (braced_all items)
      → ArePlaced i b.functions.items (inner_script items)
  script_placed i items proper holds shown =
      let p = script_places i items proper holds shown in (
        p.all,
        subst (λ (es : List Extent). AllPlaced 0 (length es) 1 (inner_script items) p.all) begins.extents
            (subst (λ (fs : List ListedFunction). AllPlaced 0 (length before) (suc (length fs)) (inner_script items) p.all) begins.functions p.placed),
        subst (λ (fs : List ListedFunction). map (placed_of i) b.functions.items ≡ map (placed_of i) fs ++ p.all) begins.functions p.listed,
      )

  pub script_late : (i : Interpretation) (items : Stmts) → ProperStmts whole false items → HoldsBody i top items → ShowAll (λ (x : FoundBody). HoldsBody i x.found) bodies (braced_all items)
      → ShowAll HasStrict bodies (braced_all items) → error_of 14 b.strict ≡ first_note (late_stmts items)
  script_late i items proper holds shown strict =
      let p = script_places i items proper holds shown in
      (p.meets (at_hand HasStrict (braced_all items) begins strict)).1
      ∙ (ap (λ (o : Option ℕ). sooner (error_of 14 o) (first_note (late_in (inner_script items)))) begins.strict ∙ ap first_note (sym (in_stmts items 1 (0 ∷ [])).are))
