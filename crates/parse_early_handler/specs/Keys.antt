-- Keys that are `__proto__`, over nodes.
use Rattle.std.specs.Prelude.{ℕ, Option, Some, None, bytes_eq, codes, cond}
use Rattle.script_grammar.specs.declared.tree.Ident.{Ident}
use Rattle.script_grammar.specs.declared.node.NodeKey.{NodeKey}
use Rattle.script_grammar.specs.declared.node.NodeKey.TheVariants as keys
use Rattle.script_grammar.specs.Interpretation.{Interpretation, text_of}

-- the offset of `__proto__`
abbrev pub proto_name : Interpretation → Ident → Option ℕ
proto_name i name = cond (bytes_eq (text_of i name.atom) (codes "__proto__")) (Some name.at) None

abbrev pub proto_key : {E : Type 0} → Interpretation → NodeKey E → Option ℕ
proto_key i (keys.Word name) = proto_name i name
proto_key i (keys.Str name) = proto_name i name
proto_key i (keys.Number at value) = None
proto_key i (keys.Computed e) = None
