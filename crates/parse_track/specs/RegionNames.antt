-- The names that a region declares.
use Rattle.std.specs.Prelude.{Bool, true, false, cond, List, [], ◌∷◌, ◌++◌}
use Rattle.parse_track.specs.declared.region.Declare.{Declare}
use Rattle.parse_track.specs.declared.region.Declare.TheVariants.{Lexical, Var, Param, Catch as CatchParam}
use Rattle.parse_track.specs.Told.{Name, Region, Script, Function, Arrow, Lambda, Block, ForHead, VarBody, Leaf, Declared, Used, Jumped}
use Rattle.parse_track.specs.Told.{Told, nothing, leaf, inner}

-- how a name may be declared
abbrev pub is_lexical : Declare → Bool
is_lexical Lexical = true
is_lexical _ = false

abbrev pub is_var : Declare → Bool
is_var Var = true
is_var _ = false

abbrev pub is_param : Declare → Bool
is_param Param = true
is_param _ = false

abbrev pub is_catch_param : Declare → Bool
is_catch_param CatchParam = true
is_catch_param _ = false

-- which regions are which
abbrev pub is_lambda : {A : Type 0} → Region A → Bool
is_lambda (Lambda _) = true
is_lambda _ = false

abbrev pub is_function : {A : Type 0} → Region A → Bool
is_function Function = true
is_function Arrow = true
is_function _ = false

abbrev pub is_head : {A : Type 0} → Region A → Bool
is_head ForHead = true
is_head _ = false

abbrev pub is_block : {A : Type 0} → Region A → Bool
is_block Block = true
is_block _ = false

abbrev pub is_body : {A : Type 0} → Region A → Bool
is_body VarBody = true
is_body _ = false

-- A var name hoists through all regions to the body of the function, or to the script: VarDeclaredNames of
-- ECMA-262, 8.1.6.
abbrev pub stops_vars : {A : Type 0} → Region A → Bool
stops_vars Script = true
stops_vars Function = true
stops_vars Arrow = true
stops_vars VarBody = true
stops_vars _ = false

-- the name of a leaf that declares one so
abbrev pub declared_by : {A : Type 0} → (Declare → Bool) → Leaf A → List (Name A)
declared_by how (Declared d name) = cond (how d) (name ∷ []) []
declared_by how (Used _) = []
declared_by how (Jumped _ _ _) = []

-- the names that are declared so in a region itself
abbrev pub directly : {A : Type 0} → (Declare → Bool) → Told A → List (Name A)
directly how nothing = []
directly how (leaf l t) = declared_by how l ++ directly how t
directly how (inner k at i t) = directly how t

-- the var names that are declared in a region or hoist through it: VarDeclaredNames of ECMA-262, 8.1.6
abbrev pub vars : {A : Type 0} → Told A → List (Name A)
vars nothing = []
vars (leaf l t) = declared_by is_var l ++ vars t
vars (inner k at i t) = cond (stops_vars k) [] (vars i) ++ vars t

-- the lexical names of the regions of a kind that are directly inside a region
abbrev pub lexical_below : {A : Type 0} → (Region A → Bool) → Told A → List (Name A)
lexical_below kind nothing = []
lexical_below kind (leaf l t) = lexical_below kind t
lexical_below kind (inner k at i t) = cond (kind k) (directly is_lexical i) [] ++ lexical_below kind t
