-- A function whose tokens are read without those in the bodies of functions directly in it.
use Rattle.std.proofs.Common.{ℕ, ◌≤◌, List, get_or, Bool, Option}
use Rattle.script_grammar.specs.declared.token.FuncForm.{FuncForm}
use Rattle.script_grammar.specs.Lexeme.{Lexeme}
use Rattle.script_grammar.specs.Pieces.{whole, depths}
use Rattle.script_grammar.specs.Script.{IsFunction, print_alone}
use Rattle.script_grammar.specs.Tree.{Named, Function}
use Rattle.stencil_data.specs.declared.functions.FuncKind.{FuncKind}
use Rattle.scope_analysis.specs.DeclaredNames.{Text}
use Rattle.scope_analysis.specs.Functions.{inner_function}
use Rattle.grammar_skip_laws.specs.Hollow.{hollow_inside}
use Rattle.grammar_skip_laws.specs.Skipped.{Skipped}
use Rattle.grammar_skip_laws.proofs.Standing.{to_stand, stood, get_below, below_get}
use Rattle.grammar_skip_laws.proofs.Hollowing.{emptied}
use Rattle.grammar_skip_laws.proofs.HollowProper.{has_alone, is_of}
use Rattle.grammar_skip_laws.proofs.HollowPrint.{inside_hollow}

pub skipped : (chosen : ℕ → Bool) (kind : FuncKind) (name : Option Text) (form : FuncForm) (who : Option Named) (limit : ℕ) (w : List Lexeme) (next : Lexeme) (f : Function) (s : IsFunction whole form who 0 w next f)
    → ((j : ℕ) → get_or (depths (print_alone whole 0 f) w next s.fits) j 0 ≤ limit) → Skipped chosen (inner_function kind name f) form who limit w next f
skipped chosen kind name form who limit w next f s shallow =
    let e = emptied chosen limit (inside_hollow chosen 0 kind name f s.proper) w next (to_stand limit (print_alone whole 0 f) w next s.fits (get_below limit (depths (print_alone whole 0 f) w next s.fits) shallow)) in
    let r = stood limit (print_alone whole 0 (hollow_inside chosen f)) e.left next e.stand in
    record {
      holes = e.holes;
      left = e.left;
      leaves = e.leaves;
      places = e.places;
      is = record { of = is_of chosen form who f s.of; proper = has_alone chosen f s.proper; fits = r.fits };
      shallow = below_get limit (depths (print_alone whole 0 (hollow_inside chosen f)) e.left next r.fits) r.below;
    }
