-- `function f(x){ return () => () => x }`, whole, and where only one of its functions is wanted, computed.
use Rattle.std.proofs.Common.{◌≡◌, ℕ, List, [], ◌∷◌, refl, codes, Bool, true, false, Option, Some, None, map, slice_index_or}
use Rattle.std.specs.Prelude.{is_some}
use Rattle.script_grammar.specs.Tree.{Stmts, Declared}
use Rattle.stencil_data.specs.declared.functions.FuncKind.TheVariants as func
use Rattle.stencil_data.specs.Named.{NamedFunction, NamedRecord, NamedMerged}
use Rattle.bytecode_buf.specs.Command.{Command, counted, plain}
use Rattle.bytecode_buf.specs.declared.opcode.Op.TheVariants as op
use Rattle.parse_track.specs.Notes.{closed_names}
use Rattle.emit_stmts.specs.Functions.{top_script}
use Rattle.scope_analysis.proofs.RowTrees as row
use Rattle.compile_specs.specs.Eager.{Site, no_sites, more_sites, compiled_at, sites_in, top_sites, IsEager}
use Rattle.compile_specs.specs.Shown.{Wanted, All, Numbers, shown, initial, IsInitial}

abbrev arrows : Stmts
arrows = row.only (Declared row.returns_arrows)

abbrev top : NamedFunction (List Command)
top = (top_script arrows 37).part

abbrev no_site : Site
no_site = record { inner = record { func = row.returns_arrows; kind = func.Declared; name = None; around = [] }; chain = [] }

-- the function, the arrow in it, and the arrow in that
abbrev outer : Site
outer = slice_index_or (top_sites arrows 37) 0 no_site

abbrev middle : Site
middle = slice_index_or (sites_in outer) 0 no_site

abbrev innermost : Site
innermost = slice_index_or (sites_in middle) 0 no_site

abbrev functions : List (NamedFunction (List Command))
functions = (compiled_at outer).part ∷ (compiled_at middle).part ∷ (compiled_at innermost).part ∷ []

-- these are all functions of the script, in order
pub eager_row : IsEager arrows 37 top functions
eager_row = record {
  script = refl;
  all = outer ∷ middle ∷ innermost ∷ [];
  are = more_sites outer [] (middle ∷ innermost ∷ []) [] (more_sites middle [] (innermost ∷ []) [] (more_sites innermost [] [] [] no_sites no_sites) no_sites) no_sites;
  each = refl;
}

-- before any of them is compiled
pub initial_row : IsInitial arrows 37 (initial (closed_names arrows) top functions)
initial_row = (top, functions, eager_row, refl)

abbrev merged : Wanted → NamedMerged (List Command)
merged wanted = shown wanted (closed_names arrows) top functions

-- which functions are shown compiled
abbrev which : Wanted → List Bool
which wanted = map (λ (e : Option (NamedFunction (List Command))). is_some e) (merged wanted).entries

pub all_row : which All ≡ true ∷ true ∷ true ∷ []
all_row = refl

pub none_row : which (Numbers []) ≡ false ∷ false ∷ false ∷ []
none_row = refl

-- a function around a wanted one is compiled too
pub middle_row : which (Numbers (2 ∷ [])) ≡ true ∷ true ∷ false ∷ []
middle_row = refl

pub inner_row : map (λ (r : NamedRecord). r.inner) (merged All).records ≡ (2 ∷ []) ∷ (3 ∷ []) ∷ [] ∷ []
inner_row = refl

pub closed_row : map (λ (r : NamedRecord). r.closed) (merged All).records ≡ (record { scope = 0; text = codes "x" } ∷ []) ∷ [] ∷ [] ∷ []
closed_row = refl

-- a Lambda has the number of its function
abbrev code_of_entry : Option (NamedFunction (List Command)) → List Command
code_of_entry None = []
code_of_entry (Some f) = f.code

pub lambda_row : map code_of_entry (merged (Numbers (1 ∷ []))).entries ≡ (counted op.Lambda 2 ∷ plain op.Return ∷ plain op.RetRval ∷ []) ∷ [] ∷ [] ∷ []
lambda_row = refl
