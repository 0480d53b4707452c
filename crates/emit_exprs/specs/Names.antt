-- The code that reads, writes and prepares a name, by its place; at a write the value is on top of the stack. The checks
-- are those of bindings that are not initialized yet (ECMA-262, 12th edition, clause 9.1.1.1.6, GetBindingValue, and
-- 9.1.1.1.5, SetMutableBinding); the opcodes are this project's own choice.
use Rattle.std.specs.Prelude.{ℕ, List, [], ◌∷◌, ◌++◌}
use Rattle.stencil_data.specs.declared.scopes.BindKind.{BindKind}
use Rattle.stencil_data.specs.declared.scopes.BindKind.TheVariants as bind
use Rattle.stencil_data.specs.declared.scopes.Place.{Place}
use Rattle.stencil_data.specs.declared.scopes.Place.TheVariants as place
use Rattle.emit_exprs.specs.declared.names.Access.{Access}
use Rattle.emit_exprs.specs.declared.names.Access.TheVariants as access
use Rattle.bytecode_buf.specs.declared.opcode.Op.TheVariants as op
use Rattle.bytecode_buf.specs.Command.{Command, plain, counted, named, aliased}

-- how a binding is read and written
abbrev pub access_of : BindKind → Access
access_of bind.Let = access.Checked
access_of bind.Const = access.Constant
access_of bind.Callee = access.Fixed
access_of bind.Param = access.Free
access_of bind.Var = access.Free
access_of bind.Function = access.Free
access_of bind.Catch = access.Free
access_of bind.Arguments = access.Free
access_of bind.This = access.Free

-- what is checked when it is read is checked by this command
abbrev pub checked : Access → Command → List Command
checked access.Free check = []
checked access.Fixed check = []
checked access.Checked check = check ∷ []
checked access.Constant check = check ∷ []

abbrev pub read_frame : ℕ → Access → List Command
read_frame slot how = counted op.GetLocal slot ∷ checked how (counted op.CheckLexical slot)

abbrev pub read_env : ℕ → ℕ → Access → List Command
read_env hops slot how = aliased op.GetAliasedVar hops slot ∷ checked how (aliased op.CheckAliasedLexical hops slot)

-- the value of a name
abbrev pub read : List ℕ → Place → List Command
read name place.Global = named op.GetGName name ∷ []
read name (place.Arg index) = counted op.GetArg index ∷ []
read name (place.Frame slot kind) = read_frame slot (access_of kind)
read name (place.Env hops slot kind) = read_env hops slot (access_of kind)
read name place.Callee = plain op.Callee ∷ []

-- a write or a throw, after the check of a read
abbrev pub after_check : List Command → Command → List Command
after_check checked_read last = checked_read ++ (plain op.Pop ∷ last ∷ [])

-- A write in the frame: of a `let` after a check that it is initialized; of a `const` a throw after the check; of a
-- function expression's own name a throw.
abbrev pub write_frame : List ℕ → ℕ → Access → List Command
write_frame name slot access.Free = counted op.SetLocal slot ∷ []
write_frame name slot access.Fixed = named op.ThrowSetConst name ∷ []
write_frame name slot access.Checked = after_check (read_frame slot access.Checked) (counted op.SetLocal slot)
write_frame name slot access.Constant = after_check (read_frame slot access.Constant) (named op.ThrowSetConst name)

-- the same in an environment
abbrev pub write_env : List ℕ → ℕ → ℕ → Access → List Command
write_env name hops slot access.Free = aliased op.SetAliasedVar hops slot ∷ []
write_env name hops slot access.Fixed = named op.ThrowSetConst name ∷ []
write_env name hops slot access.Checked = after_check (read_env hops slot access.Checked) (aliased op.SetAliasedVar hops slot)
write_env name hops slot access.Constant = after_check (read_env hops slot access.Constant) (named op.ThrowSetConst name)

abbrev pub write : List ℕ → Place → List Command
write name place.Global = named op.StrictSetGName name ∷ []
write name (place.Arg index) = counted op.SetArg index ∷ []
write name (place.Frame slot kind) = write_frame name slot (access_of kind)
write name (place.Env hops slot kind) = write_env name hops slot (access_of kind)
write name place.Callee = named op.ThrowSetConst name ∷ []

-- what stands below the value of a write
abbrev pub base : List ℕ → Place → List Command
base name place.Global = named op.BindGName name ∷ []
base name (place.Arg index) = []
base name (place.Frame slot kind) = []
base name (place.Env hops slot kind) = []
base name place.Callee = []

-- the first value of a lexical name or a catch parameter
abbrev pub init : List ℕ → Place → List Command
init name place.Global = named op.InitGLexical name ∷ []
init name (place.Arg index) = counted op.SetArg index ∷ []
init name (place.Frame slot kind) = counted op.InitLexical slot ∷ []
init name (place.Env hops slot kind) = aliased op.InitAliasedLexical hops slot ∷ []
init name place.Callee = named op.ThrowSetConst name ∷ []
