-- What is packed, whole again.
use Rattle.std.specs.Prelude.{ℕ, Bool, true, false, Option, None}
use Rattle.std.specs.declared.vec.Vec.{Vec}
use Rattle.std.specs.declared.boxed.Box.{Box}
use Rattle.std.specs.declared.alloc.Global.{Global}
use Rattle.script_grammar.specs.declared.tree.Ident.{Ident}
use Rattle.parse_early_handler.specs.declared.directive.Directive.TheVariants as kind
use Rattle.parse_early_handler.specs.declared.nodes.ExprErrors.{ExprErrors}
use Rattle.parse_early_handler.specs.declared.nodes.PropErrors.{PropErrors}
use Rattle.parse_early_handler.specs.declared.nodes.StmtErrors.{StmtErrors}
use Rattle.parse_early_handler.specs.declared.shape.Shape.{Shape}
use Rattle.parse_track.specs.declared.region.Early.{Early}
use Rattle.parse_track_pieces.specs.declared.piece.Piece.{Piece}
use Rattle.parse_track_pieces.specs.declared.piece.RegionHead.{RegionHead}
use Rattle.parse_skim_handler.specs.declared.kept.Kept.{Kept}
use Rattle.parse_skim_handler.specs.declared.nodes.SkimExpr.{SkimExpr}
use Rattle.parse_skim_handler.specs.declared.nodes.SkimProp.{SkimProp}
use Rattle.parse_skim_handler.specs.declared.nodes.SkimStmt.{SkimStmt}
use Rattle.parse_skim_handler.specs.declared.nodes.WholeExpr.{WholeExpr}
use Rattle.parse_skim_handler.specs.declared.nodes.WholeProp.{WholeProp}
use Rattle.parse_skim_handler.specs.declared.packed.Packed.{Packed}
use Rattle.parse_skim_handler.specs.declared.packed.Packed.TheVariants as packed
use Rattle.parse_skim_handler.specs.declared.packed.Whole.{Whole}
use Rattle.parse_skim_handler.specs.declared.told.Told.{Told}
use Rattle.parse_skim_handler.specs.declared.told.Told.TheVariants as told

-- nothing but what is told and the first early error
abbrev pub noted : Told → Option Early → Whole
noted t first = record { declares = None; labels_on = false; told = t; errors = record { first = first; directive = kind.No } }

-- nothing but what is told
abbrev pub plain : Told → Whole
plain t = noted t None

-- nothing but the region of a loop or of a statement that has a label
abbrev pub looping : Box (RegionHead × Vec Piece Global) Global → Whole
looping region = record (plain (told.Inside region)) { labels_on = true }

abbrev pub unpacked : Packed → Whole
unpacked packed.Nothing = plain told.Nothing
unpacked (packed.Used atom) = plain (told.Used atom)
unpacked (packed.Two first second) = plain (told.Two first second)
unpacked (packed.Three first second third) = plain (told.Three first second third)
unpacked packed.EmptyBlock = plain told.EmptyBlock
unpacked (packed.Inside region) = plain (told.Inside region)
unpacked (packed.Looping region) = looping region
unpacked (packed.Function function) = plain (told.Function function)
unpacked (packed.Parts parts) = plain (told.Parts parts)
unpacked (packed.More whole) = whole.value

-- what is told and the first early error
abbrev pub kept_of : Whole → Kept
kept_of w = record { told = w.told; first = w.errors.first }

abbrev pub whole_expr : SkimExpr → WholeExpr
whole_expr n = record { told = (unpacked n.kept).told; errors = record { first = (unpacked n.kept).errors.first; start = n.start; shape = n.shape } }

abbrev pub whole_prop : SkimProp → WholeProp
whole_prop n = record { told = (unpacked n.kept).told; errors = record { first = (unpacked n.kept).errors.first; proto = n.proto } }

abbrev pub whole_stmt : SkimStmt → Whole
whole_stmt n = unpacked n.kept

-- an expression of this form, of which this is kept
abbrev pub expr_of : Kept → (start : ℕ) → Shape → WholeExpr
expr_of kept start shape = record { told = kept.told; errors = record { first = kept.first; start = start; shape = shape } }

-- a property, of which this is kept
abbrev pub prop_of : Kept → (proto : Option ℕ) → WholeProp
prop_of kept proto = record { told = kept.told; errors = record { first = kept.first; proto = proto } }

-- a statement that is no directive, of which this is kept
abbrev pub stmt_of : Kept → (declares : Option Ident) → (labels_on : Bool) → Whole
stmt_of kept declares labels_on = record {
  declares = declares;
  labels_on = labels_on;
  told = kept.told;
  errors = record { first = kept.first; directive = kind.No };
}

abbrev pub expr_errors : SkimExpr → ExprErrors
expr_errors n = (whole_expr n).errors

abbrev pub prop_errors : SkimProp → PropErrors
prop_errors n = (whole_prop n).errors

abbrev pub stmt_errors : SkimStmt → StmtErrors
stmt_errors n = (whole_stmt n).errors
