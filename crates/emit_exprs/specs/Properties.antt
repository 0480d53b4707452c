-- The code of a property by what stands before its value and after it.
use Rattle.std.specs.Prelude.{[], ◌++◌, if◌then◌else◌}
use Rattle.script_grammar.specs.Tree.{Key, WordKey, StrKey, NumberKey, ComputedKey}
use Rattle.bytecode_buf.specs.declared.opcode.Op.TheVariants as op
use Rattle.bytecode_buf.specs.Pieces.{Code}
use Rattle.emit_exprs.specs.declared.uses.Use.TheVariants.{Plainly}
use Rattle.emit_exprs.specs.declared.properties.Defines.{Defines}
use Rattle.emit_exprs.specs.declared.properties.Defines.TheVariants.{Value}
use Rattle.emit_exprs.specs.Exprs.{Scene, number_code, define_named, define_computed, is_proto, code_of}
use Rattle.emit_exprs.specs.Whole.{just}

abbrev pub opening : Scene → Key → Code
opening scene (WordKey name) = []
opening scene (StrKey name) = []
opening scene (NumberKey at number) = number_code number
opening scene (ComputedKey e) = code_of scene Plainly e ++ just op.ToPropertyKey

abbrev pub closing : Defines → Key → Code
closing how (WordKey name) = define_named how name.text
closing how (StrKey name) = define_named how name.text
closing how (NumberKey at number) = define_computed how
closing how (ComputedKey e) = define_computed how

-- after the value of a pair
abbrev pub closing_pair : Key → Code
closing_pair key = if is_proto key then just op.MutateProto else closing Value key
