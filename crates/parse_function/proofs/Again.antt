-- What is read from a function's extent is the function of the script.
use Rattle.std.proofs.Common.{◌≡◌, ◌∙◌, ℕ, suc, ◌+◌, ◌≤◌, ◌<◌, ◌^◌, List, [], ◌∷◌, ◌++◌, length, map, Ok, Err, refl, sym, ap, subst, arith}
use Rattle.std.specs.Prelude.{Some, slice_get}
use Rattle.script_grammar.specs.declared.token.FuncForm.{FuncForm}
use Rattle.script_grammar.specs.declared.token.Token.{Token}
use Rattle.script_grammar.specs.declared.tree.Func.{Func, out-Func}
use Rattle.script_grammar.specs.Interpretation.{Interpretation}
use Rattle.script_grammar.specs.Lexeme.{Lexeme, lexeme_of, get_text, set_text}
use Rattle.script_grammar.specs.Tree.{Stmts, no_stmts}
use Rattle.script_grammar.specs.TreeOf.{func_of}
use Rattle.stencil_data.specs.declared.functions.Extent.{Extent}
use Rattle.unit_text.specs.declared.Point.{Point}
use Rattle.unit_text.specs.Points.{points}
use Rattle.parser_atoms.specs.Places.{AreWithoutEquals}
use Rattle.parser_atoms.proofs.Interning.{slice_get-append_old}
use Rattle.script_scanner.specs.Order.{AreInOrder}
use Rattle.script_scanner.specs.Stands.{StandFor, HasOneLast, GainsOnly, Keeps}
use Rattle.script_scanner.specs.Tokens.{tokens}
use Rattle.parse_exprs.specs.declared.place.ParseFault.{ParseFault}
use Rattle.parse_exprs.specs.declared.place.ParseFault.TheVariants as faults
use Rattle.parse_exprs.specs.Env.{body_at}
use Rattle.parse_exprs.specs.Source.{IsScanned}
use Rattle.parse_token_laws.proofs.ScannedTokens.{scanned_lexemes, are_scanned}
use Rattle.parse_parts.specs.Parts.{fill_inside}
use Rattle.parse_track.specs.declared.region.WellKnownAtoms.{WellKnownAtoms}
use Rattle.grammar_start_laws.specs.Own.{TokensRise}
use Rattle.grammar_start_laws.proofs.Rising.{lexemes_rise}
use Rattle.scope_analysis.specs.FunctionTree.{HasBody}
use Rattle.scope_analysis.specs.Functions.{Inner}
use Rattle.scope_analysis.specs.Kept.{under}
use Rattle.grammar_alone_laws.specs.Alone.{start_of, end_of, nameless}
use Rattle.grammar_skip_laws.specs.Hollow.{hollow_inside}
use Rattle.grammar_skip_laws.proofs.Filled.{same_inside}
use Rattle.parse_function.specs.declared.holes.Hole.{Hole}
use Rattle.parse_function.specs.Alone.{AreFunction, IsReadAlone}
use Rattle.parse_function.specs.Extents.{IsExtentOf, IsFunctionExtent, extents_in, own_statements, body_in}
use Rattle.parse_function.specs.Holes.{span_at, AreHolesOf}
use Rattle.parse_function.specs.Without.{AreParts, points_without}
use Rattle.parse_function.specs.Words.{KnowsAccessors}
use Rattle.parse_function.proofs.Bodies.{has_body}
use Rattle.parse_function.proofs.Fields.{start_there, end_there, nameless_start, nameless_end}
use Rattle.parse_function.proofs.OwnInner.{own_inside}
use Rattle.parse_function.proofs.Reading.{inside_same}
use Rattle.parse_function.proofs.ReadingExtents.{in_file, one_there, are_parts, lie_in_order, few_points, are_function, gains_left}

-- a text stays where it stands while others join
still_there : (before after : List (List ℕ)) (text : List ℕ) (n : ℕ) → Keeps before after → slice_get before n ≡ Some text → slice_get after n ≡ Some text
still_there before after text n k is = ap (λ (ts : List (List ℕ)). slice_get ts n) k.1 ∙ slice_get-append_old before k.0 n text is

rise_front : (from : ℕ) (us vs : List Lexeme) → TokensRise from (us ++ vs) → TokensRise from us
rise_front from [] vs h = tt
rise_front from (u ∷ us) vs h = (h.0, rise_front (suc u.start) us vs h.1)

-- the holes that were found are those of some of the functions directly in each function that has this extent, and these inside it
abbrev pub Found : List ℕ → Extent → FuncForm → List Extent → List Hole → Type 0
Found file extent f inside holes = (g : FuncForm) (items : Stmts) (i : Inner) → IsExtentOf file extent g items i → inside ≡ extents_in i → AreHolesOf file extent i holes

module _ (file : List ℕ) (extent : Extent) (f : FuncForm) (inside : List Extent) (d : IsFunctionExtent file extent f inside) (all holes : List Hole) (same_holes : holes ≡ all) (found : Found file extent f inside all) where
  there : AreHolesOf file extent d.inner holes
  there = subst (AreHolesOf file extent d.inner) (sym same_holes) (found f d.items d.inner d.is d.inside_are)

  pub can_be_made : AreParts file extent.start extent.end (map span_at holes)
  can_be_made = are_parts file extent f d.items d.inner d.is holes there

  module _ (ps : List Point) (made : ps ≡ points_without file extent.start extent.end (map span_at holes)) where
    pub lie : AreInOrder ps
    lie = lie_in_order file extent f d.items d.inner d.is holes there ps made

    pub few : extent.start + length ps ≤ extent.end
    few = few_points file extent f d.items d.inner d.is holes there ps made

    pub gains : (before after : List (List ℕ)) → GainsOnly before after (tokens ps extent.start extent.end) → GainsOnly before after (tokens (points file) extent.start extent.end)
    gains = gains_left file extent f d.items d.inner d.is holes there ps made

    -- ---- the tokens

    module _ (before texts : List (List ℕ)) (known : WellKnownAtoms) (words : KnowsAccessors before known) (keeps : Keeps before texts) (apart : AreWithoutEquals texts)
        (scanned ts : List Token) (same : ts ≡ scanned) (stand : StandFor texts scanned (tokens ps extent.start extent.end)) where
      as_function : AreFunction (map (lexeme_of known.get known.set texts) ts) f (hollow_inside there.chosen (nameless d.inner.func))
      as_function =
          subst (λ (ls : List Lexeme). AreFunction ls f (hollow_inside there.chosen (nameless d.inner.func)))
          (sym (ap (map (lexeme_of known.get known.set texts)) same ∙ scanned_lexemes ps extent.start extent.end texts scanned known.get known.set
          (record { apart = apart; get_is = still_there before texts get_text known.get keeps words.get; set_is = still_there before texts set_text known.set keeps words.set }) stand))
          (are_function file extent f d.items d.inner d.is holes there ps made)

      -- a parser takes them
      pub for_parser : length file ≤ 16777215 → length texts < 2 ^ 32 → HasOneLast scanned → IsScanned ts
      for_parser short many one =
          let last = in_file file extent f d.items d.inner d.is in
          let size = few in
          subst IsScanned (sym same) (are_scanned ps extent.start extent.end texts scanned many (omega (arith, size, last, short)) stand one)

      -- there is no fault
      pub is_no_unexpected : (e : ParseFault) (token : ℕ) → e ≡ faults.Unexpected token → ((i : Interpretation) → IsReadAlone i (map (lexeme_of known.get known.set i.texts) ts) f (Err e)) → ⊥
      is_no_unexpected e token same_fault h =
          subst (λ (x : ParseFault). IsReadAlone (under texts (λ n. no_stmts)) (map (lexeme_of known.get known.set texts) ts) f (Err x)) same_fault (h (under texts (λ n. no_stmts)))
          (hollow_inside there.chosen (nameless d.inner.func)) as_function

      pub is_no_too_deep : (e : ParseFault) (token : ℕ) → e ≡ faults.TooDeep token → ((i : Interpretation) → IsReadAlone i (map (lexeme_of known.get known.set i.texts) ts) f (Err e)) → ⊥
      is_no_too_deep e token same_fault h =
          subst (λ (x : ParseFault). IsReadAlone (under texts (λ n. no_stmts)) (map (lexeme_of known.get known.set texts) ts) f (Err x)) same_fault (h (under texts (λ n. no_stmts)))
          (hollow_inside there.chosen (nameless d.inner.func)) as_function

      -- ---- what was read

      module _ (func : Func) (read : (i : Interpretation) → IsReadAlone i (map (lexeme_of known.get known.set i.texts) ts) f (Ok func)) where
        -- with any bodies, the function
        read_with : (i : Interpretation) → i.texts ≡ texts → func_of i func ≡ fill_inside (body_at i) (nameless d.inner.func)
        read_with i e = read i (hollow_inside there.chosen (nameless d.inner.func)) (subst (λ ws. AreFunction (map (lexeme_of known.get known.set ws) ts) f (hollow_inside there.chosen (nameless d.inner.func))) (sym e) as_function)
            ∙ sym (inside_same i (hollow_inside there.chosen (nameless d.inner.func)))
            ∙ same_inside there.chosen (body_at i) (nameless d.inner.func)
            ∙ inside_same i (nameless d.inner.func)

        -- the tree
        pub tree_is : (items : Stmts) (i : Inner) → IsExtentOf file extent f items i → func_of (under texts (own_statements items)) func ≡ nameless i.func
        tree_is items i x =
            read_with (under texts (own_statements items)) refl
            ∙ ap (fill_inside (body_at (under texts (own_statements items)))) (one_there file extent f d.items items d.inner i d.is x)
            ∙ own_inside x.text.inner x.text.end items 0 x.text.script (rise_front 0 x.text.inner (x.text.end ∷ []) (subst (TokensRise 0) x.text.split (lexemes_rise file))) i x.inside

        -- its own body
        pub body_is : (bodies : ℕ → Stmts) → HasBody (under texts bodies) func (body_in (func_of (under texts bodies) func))
        body_is bodies = has_body texts func (nameless d.inner.func) (λ given. read_with (under texts given) refl) bodies

        -- and its place
        pub start_is : (out-Func func).start ≡ extent.start
        start_is = start_there (under texts (own_statements d.items)) func ∙ ap start_of (tree_is d.items d.inner d.is) ∙ nameless_start d.inner.func ∙ d.is.starts

        pub end_is : (out-Func func).end ≡ extent.end
        end_is = end_there (under texts (own_statements d.items)) func ∙ ap end_of (tree_is d.items d.inner d.is) ∙ nameless_end d.inner.func ∙ d.is.ends
