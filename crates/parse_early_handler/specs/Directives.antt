-- The directives at the head of a body: leading statements that are one string without parentheses. ECMA-262, 11.2.1.
use Rattle.std.specs.Prelude.{ℕ, Bool, true, false, Option, Some, None}
use Rattle.script_grammar.specs.Tree as tree
use Rattle.script_grammar.specs.Tree.{Stmt}
use Rattle.parse_track.specs.Notes.{start_of}
use Rattle.parse_early_handler.specs.declared.shape.Shape.{Shape}
use Rattle.parse_early_handler.specs.declared.shape.Shape.TheVariants as shape
use Rattle.parse_early_handler.specs.declared.directive.Directive.{Directive}
use Rattle.parse_early_handler.specs.declared.directive.Directive.TheVariants as kind
use Rattle.parse_early_handler.specs.Shapes.{shape_of}

-- an expression of this form, which starts at this offset, as a statement
abbrev pub string_directive : Shape → ℕ → Directive
string_directive (shape.Name reserved) start = kind.No
string_directive (shape.NameInParentheses reserved) start = kind.No
string_directive shape.Property start = kind.No
string_directive (shape.Str true) start = kind.Strict start
string_directive (shape.Str false) start = kind.Other
string_directive shape.Other start = kind.No

abbrev pub directive_of : Stmt → Directive
directive_of (tree.Value value semi) = string_directive (shape_of value) (start_of value)
directive_of _ = kind.No

-- whether no directive stands after this
abbrev pub ends : Directive → Bool
ends kind.No = true
ends kind.Other = false
ends (kind.Strict at) = false

-- where `use strict` stands
abbrev pub strict_at : Directive → Option ℕ
strict_at kind.No = None
strict_at kind.Other = None
strict_at (kind.Strict at) = Some at
