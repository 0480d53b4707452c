-- Which parts of a tree the parts over nodes stand for. This is this project's own choice.
--
-- A handler says by a relation which tree a node stands for. For each struct and enum over nodes there is a definition
-- `XOf .. n k`: the part n stands for some x of the model of which the fact k holds. With `ShowX .. n x` n stands for x.
use Rattle.std.specs.Prelude.{ℕ, List, [], ◌∷◌, ◌≡◌, Option, Some, None}
use Rattle.script_grammar.specs.declared.node.NodeArgs.{NodeArgs}
use Rattle.script_grammar.specs.declared.node.NodeOperand.{NodeOperand}
use Rattle.script_grammar.specs.declared.node.NodeTemplatePart.{NodeTemplatePart}
use Rattle.script_grammar.specs.declared.node.NodeTail.{NodeTail}
use Rattle.script_grammar.specs.declared.node.NodeTail.TheVariants as tails
use Rattle.script_grammar.specs.declared.node.NodeKey.{NodeKey}
use Rattle.script_grammar.specs.declared.node.NodeKey.TheVariants as keys
use Rattle.script_grammar.specs.declared.node.NodeFuncBody.{NodeFuncBody}
use Rattle.script_grammar.specs.declared.node.NodeFuncBody.TheVariants as bodies
use Rattle.script_grammar.specs.declared.node.NodeParam.{NodeParam}
use Rattle.script_grammar.specs.declared.node.NodeFunc.{NodeFunc}
use Rattle.script_grammar.specs.declared.node.NodeBind.{NodeBind}
use Rattle.script_grammar.specs.declared.node.NodeInit.{NodeInit}
use Rattle.script_grammar.specs.declared.node.NodeInit.TheVariants as inits
use Rattle.script_grammar.specs.declared.node.NodeEach.{NodeEach}
use Rattle.script_grammar.specs.declared.node.NodeEach.TheVariants as eaches
use Rattle.script_grammar.specs.declared.node.NodeClause.{NodeClause}
use Rattle.script_grammar.specs.Interpretation.{Interpretation, text_of, named, maybe_named}
use Rattle.script_grammar.specs.Tree as model
use Rattle.script_grammar.specs.Tree.{Expr, Stmt, Stmts, Key, Tail, Body, Function, Init, Each}
use Rattle.script_grammar.specs.TreeLists.{Args, Operand, Part, Param, Bind, Clause, exprs_of, params_of, binds_of}

-- A list of nodes stands for a list of trees, one for one.
abbrev pub ShowAll : {E A : Type 0} → (E → A → Type 0) → List E → List A → Type 0
ShowAll shows [] [] = Unit {0}
ShowAll shows [] (t ∷ ts) = ⊥
ShowAll shows (e ∷ es) [] = ⊥
ShowAll shows (e ∷ es) (t ∷ ts) = shows e t × ShowAll shows es ts

-- No node stands for no tree, a node for its tree.
abbrev pub ShowMaybe : {E A : Type 0} → (E → A → Type 0) → Option E → Option A → Type 0
ShowMaybe shows None None = Unit {0}
ShowMaybe shows None (Some t) = ⊥
ShowMaybe shows (Some e) None = ⊥
ShowMaybe shows (Some e) (Some t) = shows e t

abbrev pub NodeOf : {E A : Type 0} → (E → A → Type 0) → E → (A → Type 0) → Type 0
NodeOf {A = A} shows e k = (t : A) × shows e t × k t

abbrev pub MaybeOf : {E A : Type 0} → (E → A → Type 0) → Option E → (Option A → Type 0) → Type 0
MaybeOf shows None k = k None
MaybeOf shows (Some e) k = NodeOf shows e (λ t. k (Some t))

abbrev pub ArgsOf : {E : Type 0} → (E → Expr → Type 0) → NodeArgs E → (Args → Type 0) → Type 0
ArgsOf shows n k = (ts : List Expr) × ShowAll shows n.items.items ts × k (record { items = ts; comma = n.comma })

abbrev pub ShowArgs : {E : Type 0} → (E → Expr → Type 0) → NodeArgs E → Args → Type 0
ShowArgs shows n a = ArgsOf shows n (λ x. a ≡ x)

abbrev pub OperandOf : {E : Type 0} → (E → Expr → Type 0) → NodeOperand E → (Operand → Type 0) → Type 0
OperandOf shows n k = (t : Expr) × shows n.value t × k (record { op = n.op; is_word = n.is_word; value = t })

abbrev pub ShowOperand : {E : Type 0} → (E → Expr → Type 0) → NodeOperand E → Operand → Type 0
ShowOperand shows n o = OperandOf shows n (λ x. o ≡ x)

abbrev pub PartOf : {E : Type 0} → Interpretation → (E → Expr → Type 0) → NodeTemplatePart E → (Part → Type 0) → Type 0
PartOf i shows n k = (t : Expr) × shows n.value t × k (record { value = t; behind = text_of i n.after })

abbrev pub ShowPart : {E : Type 0} → Interpretation → (E → Expr → Type 0) → NodeTemplatePart E → Part → Type 0
ShowPart i shows n p = PartOf i shows n (λ x. p ≡ x)

abbrev pub TailOf : {E : Type 0} → Interpretation → (E → Expr → Type 0) → NodeTail E → (Tail → Type 0) → Type 0
TailOf i shows (tails.Dot atom) k = k (model.Dot (text_of i atom))
TailOf i shows (tails.Index e) k = (t : Expr) × shows e t × k (model.Index t)
TailOf i shows (tails.Call n) k = (ts : List Expr) × ShowAll shows n.items.items ts × k (model.Call (exprs_of ts) n.comma)

abbrev pub ShowTail : {E : Type 0} → Interpretation → (E → Expr → Type 0) → NodeTail E → Tail → Type 0
ShowTail i shows n t = TailOf i shows n (λ x. t ≡ x)

abbrev pub KeyOf : {E : Type 0} → Interpretation → (E → Expr → Type 0) → NodeKey E → (Key → Type 0) → Type 0
KeyOf i shows (keys.Word name) k = k (model.WordKey (named i name))
KeyOf i shows (keys.Str name) k = k (model.StrKey (named i name))
KeyOf i shows (keys.Number at value) k = k (model.NumberKey at value)
KeyOf i shows (keys.Computed e) k = (t : Expr) × shows e t × k (model.ComputedKey t)

abbrev pub ShowKey : {E : Type 0} → Interpretation → (E → Expr → Type 0) → NodeKey E → Key → Type 0
ShowKey i shows n key = KeyOf i shows n (λ x. key ≡ x)

-- A body that was passed over has the statements that the interpretation gives to its function, by its start.
abbrev pub FuncBodyOf : {E B : Type 0} → Interpretation → (E → Expr → Type 0) → (B → Stmts → Type 0) → (start : ℕ) → NodeFuncBody E B
    → (Body → Type 0) → Type 0
FuncBodyOf i shows shows_body start (bodies.Braced b) k = (ss : Stmts) × shows_body b ss × k (model.BracedBody ss)
FuncBodyOf i shows shows_body start (bodies.Short e) k = (t : Expr) × shows e t × k (model.ShortBody t)
FuncBodyOf i shows shows_body start (bodies.Passed) k = k (model.BracedBody (i.bodies start))

abbrev pub ParamOf : {E : Type 0} → Interpretation → (E → Expr → Type 0) → NodeParam E → (Param → Type 0) → Type 0
ParamOf i shows n k = MaybeOf shows n.value (λ v. k (record { name = named i n.name; value = v; rest = n.rest }))

abbrev pub ShowParam : {E : Type 0} → Interpretation → (E → Expr → Type 0) → NodeParam E → Param → Type 0
ShowParam i shows n p = ParamOf i shows n (λ x. p ≡ x)

abbrev pub FuncOf : {E B : Type 0} → Interpretation → (E → Expr → Type 0) → (B → Stmts → Type 0) → NodeFunc E B → (Function → Type 0) → Type 0
FuncOf i shows shows_body n k =
    (ps : List Param) × ShowAll (ShowParam i shows) n.params.items ps
    × FuncBodyOf i shows shows_body n.start n.body (λ b. k
    (model.function n.form n.start n.end (maybe_named i n.name) (params_of ps) n.comma n.bare b))

abbrev pub ShowFunc : {E B : Type 0} → Interpretation → (E → Expr → Type 0) → (B → Stmts → Type 0) → NodeFunc E B → Function → Type 0
ShowFunc i shows shows_body n f = FuncOf i shows shows_body n (λ x. f ≡ x)

abbrev pub BindOf : {E : Type 0} → Interpretation → (E → Expr → Type 0) → NodeBind E → (Bind → Type 0) → Type 0
BindOf i shows n k = MaybeOf shows n.value (λ v. k (record { name = named i n.name; value = v }))

abbrev pub ShowBind : {E : Type 0} → Interpretation → (E → Expr → Type 0) → NodeBind E → Bind → Type 0
ShowBind i shows n b = BindOf i shows n (λ x. b ≡ x)

abbrev pub InitOf : {E : Type 0} → Interpretation → (E → Expr → Type 0) → NodeInit E → (Init → Type 0) → Type 0
InitOf i shows (inits.Nothing) k = k model.NoInit
InitOf i shows (inits.Value e) k = (t : Expr) × shows e t × k (model.ValueInit t)
InitOf i shows (inits.Binds decl ns) k = (bs : List Bind) × ShowAll (ShowBind i shows) ns.items bs × k (model.BindsInit decl (binds_of bs))

abbrev pub ShowInit : {E : Type 0} → Interpretation → (E → Expr → Type 0) → NodeInit E → Init → Type 0
ShowInit i shows n init = InitOf i shows n (λ x. init ≡ x)

abbrev pub EachOf : {E : Type 0} → Interpretation → (E → Expr → Type 0) → NodeEach E → (Each → Type 0) → Type 0
EachOf i shows (eaches.Target e) k = (t : Expr) × shows e t × k (model.TargetEach t)
EachOf i shows (eaches.Bind decl name) k = k (model.BindEach decl (named i name))

abbrev pub ShowEach : {E : Type 0} → Interpretation → (E → Expr → Type 0) → NodeEach E → Each → Type 0
ShowEach i shows n each = EachOf i shows n (λ x. each ≡ x)

abbrev pub ClauseOf : {E S : Type 0} → (E → Expr → Type 0) → (S → Stmt → Type 0) → NodeClause E S → (Clause → Type 0) → Type 0
ClauseOf shows shows_stmt n k =
    MaybeOf shows n.test (λ t. (ss : List Stmt) × ShowAll shows_stmt n.items.items ss × k (record { test = t; items = ss }))

abbrev pub ShowClause : {E S : Type 0} → (E → Expr → Type 0) → (S → Stmt → Type 0) → NodeClause E S → Clause → Type 0
ShowClause shows shows_stmt n c = ClauseOf shows shows_stmt n (λ x. c ≡ x)
