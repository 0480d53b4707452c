-- The form of an expression, as far as rules 8 and 10 and the directives look at it.
use Rattle.std.specs.Prelude.{◌-◌, ◌&&◌, Bool, true, false, not, bytes_eq, codes, nat_eq}
use Rattle.script_grammar.specs.Tree as tree
use Rattle.script_grammar.specs.Tree.{Expr}
use Rattle.parse_track.specs.Notes.{ends_in_property, is_reserved}
use Rattle.parse_early_handler.specs.declared.shape.Shape.{Shape}
use Rattle.parse_early_handler.specs.declared.shape.Shape.TheVariants as shape

abbrev pub in_parentheses : Shape → Shape
in_parentheses (shape.Name reserved) = shape.NameInParentheses reserved
in_parentheses (shape.NameInParentheses reserved) = shape.NameInParentheses reserved
in_parentheses shape.Property = shape.Property
in_parentheses (shape.Str strict) = shape.Other
in_parentheses shape.Other = shape.Other

-- a chain of members and calls, by whether its last part is a property
abbrev pub chain_shape : Bool → Shape
chain_shape true = shape.Property
chain_shape false = shape.Other

abbrev pub shape_of : Expr → Shape
shape_of (tree.Name name) = shape.Name (is_reserved name.text)
shape_of (tree.Str at end text) = shape.Str (bytes_eq text (codes "use strict") && nat_eq (end - at) 12)
shape_of (tree.Paren at value) = in_parentheses (shape_of value)
shape_of (tree.Chain head tails) = chain_shape (ends_in_property tails)
shape_of _ = shape.Other

-- AssignmentTargetType of ECMA-262, 13.15.1, 13.4.1 and 14.7.5.1, by the form alone
abbrev pub is_target_shape : Shape → Bool
is_target_shape (shape.Name reserved) = not reserved
is_target_shape (shape.NameInParentheses reserved) = not reserved
is_target_shape shape.Property = true
is_target_shape (shape.Str strict) = false
is_target_shape shape.Other = false

-- a name, parentheses looked through (ECMA-262, 13.5.1.1)
abbrev pub is_name_shape : Shape → Bool
is_name_shape (shape.Name reserved) = true
is_name_shape (shape.NameInParentheses reserved) = true
is_name_shape shape.Property = false
is_name_shape (shape.Str strict) = false
is_name_shape shape.Other = false
