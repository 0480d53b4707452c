-- In an expression that is proper and has no early error, each assignment goes to a place.
use Rattle.std.proofs.Common.{◌≡◌, ℕ, Bool, true, false, not, List, [], ◌∷◌, ◌++◌, refl}
use Rattle.script_grammar.specs.Pieces.{Bodies}
use Rattle.script_grammar.specs.Proper.{Proper, ProperExprs, ProperMaybe, ProperOption, ProperArgs, ProperParts, ProperItems, ProperOperands, ProperTails, ProperTail, ProperKey, ProperProp, ProperProps, ProperParams, ProperBinds, ProperInit, ProperEach, HasTwo}
use Rattle.script_grammar.specs.Tree.{Expr, This, Name, Null, True, False, Number, Str, Template, Array, Object, Func, Paren, Chain, New, Unary, Update, Binary, Cond, Assign, Comma, Exprs, no_exprs, more_exprs, MaybeExpr, no_expr, some_expr, MaybeArgs, no_args, some_args, Parts, no_parts, more_parts, Items, no_items, more_items, Operands, no_operands, more_operands, Tail, Dot, Index, Call, Tails, no_tails, more_tails, Key, WordKey, StrKey, NumberKey, ComputedKey, Prop, Short, Pair, Method, Get, Set, Props, no_props, more_props, Params, no_params, more_params, Binds, no_binds, more_binds, Init, NoInit, ValueInit, BindsInit, Each, TargetEach, BindEach}
use Rattle.parse_track.specs.Notes.{error_if, start_of, ends_in_property, is_target, target_error, delete_error, const_errors, later_protos, args_error, limit, notes_expr, notes_exprs, notes_maybe, notes_args, notes_parts, notes_items, notes_operands, notes_tails, notes_tail, notes_key, notes_prop, notes_props, notes_function, notes_params, notes_binds, notes_init, notes_each}
use Rattle.emit_exprs.specs.Exprs.{target_of, last_target}
use Rattle.emit_depth_laws.specs.Assigning.{IsPlace, HasItem, ExprAssigns, ExprsAssign, MaybeExprAssigns, MaybeArgsAssign, PartsAssign, ItemsAssign, OperandsAssign, TailsAssign, TailAssigns, KeyAssigns, PropAssigns, PropsAssign}
use Rattle.emit_depth_laws.specs.Targets.{BindsAssign, InitAssigns, EachAssigns, ParamsAssign}

-- ---- nothing is two times nothing

pub nil_left : {A : Type 0} (xs ys : List A) → xs ++ ys ≡ [] → xs ≡ []
nil_left [] ys h = refl
nil_left (x ∷ xs) ys h = absurd (cc)

pub nil_right : {A : Type 0} (xs ys : List A) → xs ++ ys ≡ [] → ys ≡ []
nil_right [] ys h = h
nil_right (x ∷ xs) ys h = absurd (cc)

-- ---- targets

chain_place : (tails : Tails) → ends_in_property tails ≡ true → IsPlace (last_target tails)
chain_place no_tails h = absurd (cc)
chain_place (more_tails (Dot name) no_tails) h = tt
chain_place (more_tails (Index key) no_tails) h = tt
chain_place (more_tails (Call items comma) no_tails) h = absurd (cc)
chain_place (more_tails (Dot name) (more_tails u rest)) h = chain_place (more_tails u rest) h
chain_place (more_tails (Index key) (more_tails u rest)) h = chain_place (more_tails u rest) h
chain_place (more_tails (Call items comma) (more_tails u rest)) h = chain_place (more_tails u rest) h

target_place : (e : Expr) → is_target e ≡ true → IsPlace (target_of e)
target_place (Name name) h = tt
target_place (Paren at inner) h = target_place inner h
target_place (Chain head tails) h = chain_place tails h
target_place (This at) h = absurd (cc)
target_place _ h = absurd (cc)

no_error : (b : Bool) (rule offset : ℕ) → error_if (not b) rule offset ≡ [] → b ≡ true
no_error true rule offset h = refl
no_error false rule offset h = absurd (cc)

pub place_of : (e : Expr) → target_error e ≡ [] → IsPlace (target_of e)
place_of e h = target_place e (no_error (is_target e) 8 (start_of e) h)

two_items : (es : Exprs) → HasTwo es → HasItem es
two_items no_exprs h = h
two_items (more_exprs e rest) h = tt

-- ---- the equations

mutual
  pub expr_assigns : (m : Bodies) (e : Expr) → Proper m e → notes_expr e ≡ [] → ExprAssigns e
  expr_assigns m (This at) p n = tt
  expr_assigns m (Name name) p n = tt
  expr_assigns m (Null at) p n = tt
  expr_assigns m (True at) p n = tt
  expr_assigns m (False at) p n = tt
  expr_assigns m (Number at value) p n = tt
  expr_assigns m (Str at end text) p n = tt
  expr_assigns m (Template at first parts) p n = parts_assign m parts p n
  expr_assigns m (Array at items comma) p n = items_assign m items p.1 n
  expr_assigns m (Object at props comma) p n = props_assign m props p.1 (nil_right (later_protos false props) (notes_props props) n)
  expr_assigns m (Func at f) p n = tt
  expr_assigns m (Paren at inner) p n = expr_assigns m inner p n
  expr_assigns m (Chain head tails) p n = (expr_assigns m head p.1 (nil_left (notes_expr head) (notes_tails tails) n), tails_assign m tails p.3 (nil_right (notes_expr head) (notes_tails tails) n))
  expr_assigns m (New at callee args) p n = (expr_assigns m callee p.1 (nil_left (notes_expr callee) (notes_args args) n), args_assign m args p.2 (nil_right (notes_expr callee) (notes_args args) n))
  expr_assigns m (Unary at sign operand is_word) p n = expr_assigns m operand p.2 (nil_right (delete_error at sign is_word operand) (notes_expr operand) n)
  expr_assigns m (Update at sign prefix operand) p n = (place_of operand (nil_left (target_error operand) (notes_expr operand) n), expr_assigns m operand p.2 (nil_right (target_error operand) (notes_expr operand) n))
  expr_assigns m (Binary first rest) p n = (expr_assigns m first p.3 (nil_left (notes_expr first) (notes_operands rest) n), operands_assign m _ rest p.4 (nil_right (notes_expr first) (notes_operands rest) n))
  expr_assigns m (Cond test then_value else_value) p n =
      let more = nil_right (notes_expr test) (notes_expr then_value ++ notes_expr else_value) n in (
        expr_assigns m test p.1 (nil_left (notes_expr test) (notes_expr then_value ++ notes_expr else_value) n),
        expr_assigns m then_value p.3 (nil_left (notes_expr then_value) (notes_expr else_value) more),
        expr_assigns m else_value p.5 (nil_right (notes_expr then_value) (notes_expr else_value) more),
      )
  expr_assigns m (Assign sign target value) p n =
      let more = nil_right (target_error target) (notes_expr target ++ notes_expr value) n in (
        place_of target (nil_left (target_error target) (notes_expr target ++ notes_expr value) n),
        expr_assigns m target p.2 (nil_left (notes_expr target) (notes_expr value) more),
        expr_assigns m value p.4 (nil_right (notes_expr target) (notes_expr value) more),
      )
  expr_assigns m (Comma items) p n = (two_items items p.0, exprs_assign m items p.1 n)

  exprs_assign : (m : Bodies) (es : Exprs) → ProperExprs m es → notes_exprs es ≡ [] → ExprsAssign es
  exprs_assign m no_exprs p n = tt
  exprs_assign m (more_exprs e rest) p n = (expr_assigns m e p.1 (nil_left (notes_expr e) (notes_exprs rest) n), exprs_assign m rest p.2 (nil_right (notes_expr e) (notes_exprs rest) n))

  pub maybe_assigns : (m : Bodies) (e : MaybeExpr) → ProperMaybe m e → notes_maybe e ≡ [] → MaybeExprAssigns e
  maybe_assigns m no_expr p n = tt
  maybe_assigns m (some_expr e) p n = expr_assigns m e p.1 n

  args_assign : (m : Bodies) (args : MaybeArgs) → ProperArgs m args → notes_args args ≡ [] → MaybeArgsAssign args
  args_assign m no_args p n = tt
  args_assign m (some_args items comma) p n = exprs_assign m items p.1 (nil_right (args_error limit items) (notes_exprs items) n)

  parts_assign : (m : Bodies) (ps : Parts) → ProperParts m ps → notes_parts ps ≡ [] → PartsAssign ps
  parts_assign m no_parts p n = tt
  parts_assign m (more_parts value behind rest) p n = (expr_assigns m value p.0 (nil_left (notes_expr value) (notes_parts rest) n), parts_assign m rest p.1 (nil_right (notes_expr value) (notes_parts rest) n))

  items_assign : (m : Bodies) (items : Items) → ProperItems m items → notes_items items ≡ [] → ItemsAssign items
  items_assign m no_items p n = tt
  items_assign m (more_items item rest) p n = (maybe_assigns m item p.0 (nil_left (notes_maybe item) (notes_items rest) n), items_assign m rest p.1 (nil_right (notes_maybe item) (notes_items rest) n))

  operands_assign : (m : Bodies) (level : ℕ) (rest : Operands) → ProperOperands m level rest → notes_operands rest ≡ [] → OperandsAssign rest
  operands_assign m level no_operands p n = tt
  operands_assign m level (more_operands sign is_word value rest) p n =
      (expr_assigns m value p.2 (nil_left (notes_expr value) (notes_operands rest) n), operands_assign m level rest p.3 (nil_right (notes_expr value) (notes_operands rest) n))

  tails_assign : (m : Bodies) (tails : Tails) → ProperTails m tails → notes_tails tails ≡ [] → TailsAssign tails
  tails_assign m no_tails p n = tt
  tails_assign m (more_tails t rest) p n = (tail_assigns m t p.0 (nil_left (notes_tail t) (notes_tails rest) n), tails_assign m rest p.1 (nil_right (notes_tail t) (notes_tails rest) n))

  tail_assigns : (m : Bodies) (t : Tail) → ProperTail m t → notes_tail t ≡ [] → TailAssigns t
  tail_assigns m (Dot name) p n = tt
  tail_assigns m (Index key) p n = expr_assigns m key p n
  tail_assigns m (Call items comma) p n = exprs_assign m items p.1 (nil_right (args_error limit items) (notes_exprs items) n)

  key_assigns : (m : Bodies) (key : Key) → ProperKey m key → notes_key key ≡ [] → KeyAssigns key
  key_assigns m (WordKey name) p n = tt
  key_assigns m (StrKey name) p n = tt
  key_assigns m (NumberKey at number) p n = tt
  key_assigns m (ComputedKey e) p n = expr_assigns m e p.1 n

  prop_assigns : (m : Bodies) (q : Prop) → ProperProp m q → notes_prop q ≡ [] → PropAssigns q
  prop_assigns m (Short name) p n = tt
  prop_assigns m (Pair key value) p n = (key_assigns m key p.0 (nil_left (notes_key key) (notes_expr value) n), expr_assigns m value p.2 (nil_right (notes_key key) (notes_expr value) n))
  prop_assigns m (Method key f) p n = key_assigns m key p.0 (nil_left (notes_key key) (notes_function f) n)
  prop_assigns m (Get key f) p n = key_assigns m key p.0 (nil_left (notes_key key) (notes_function f) n)
  prop_assigns m (Set key f) p n = key_assigns m key p.0 (nil_left (notes_key key) (notes_function f) n)

  props_assign : (m : Bodies) (ps : Props) → ProperProps m ps → notes_props ps ≡ [] → PropsAssign ps
  props_assign m no_props p n = tt
  props_assign m (more_props q rest) p n = (prop_assigns m q p.0 (nil_left (notes_prop q) (notes_props rest) n), props_assign m rest p.1 (nil_right (notes_prop q) (notes_props rest) n))

-- ---- parts of statements

pub option_assigns : (m : Bodies) (e : MaybeExpr) → ProperOption m e → notes_maybe e ≡ [] → MaybeExprAssigns e
option_assigns m no_expr p n = tt
option_assigns m (some_expr e) p n = expr_assigns m e p n

pub binds_assign : (m : Bodies) (bs : Binds) → ProperBinds m bs → notes_binds bs ≡ [] → BindsAssign bs
binds_assign m no_binds p n = tt
binds_assign m (more_binds name value rest) p n = (maybe_assigns m value p.0 (nil_left (notes_maybe value) (notes_binds rest) n), binds_assign m rest p.1 (nil_right (notes_maybe value) (notes_binds rest) n))

pub init_assigns : (m : Bodies) (init : Init) → ProperInit m init → notes_init init ≡ [] → InitAssigns init
init_assigns m NoInit p n = tt
init_assigns m (ValueInit e) p n = expr_assigns m e p.1 n
init_assigns m (BindsInit kind bs) p n = binds_assign m bs p.2 (nil_right (const_errors kind bs) (notes_binds bs) n)

pub each_assigns : (m : Bodies) (each : Each) → ProperEach m each → notes_each each ≡ [] → EachAssigns each
each_assigns m (TargetEach e) p n = expr_assigns m e p.1 (nil_right (target_error e) (notes_expr e) n)
each_assigns m (BindEach kind name) p n = tt

pub params_assign : (m : Bodies) (ps : Params) → ProperParams m ps → notes_params ps ≡ [] → ParamsAssign ps
params_assign m no_params p n = tt
params_assign m (more_params name value rest more) p n = (maybe_assigns m value p.0 (nil_left (notes_maybe value) (notes_params more) n), params_assign m more p.1 (nil_right (notes_maybe value) (notes_params more) n))
