-- What is listed of a compiled script: its code or its scopes.
use Rattle.script_image.specs.declared.script_lines.Listing.{Listing}
use Rattle.script_image.specs.declared.script_lines.Listing.TheVariants as of
use Rattle.script_image.specs.CodeLines.{code_lines}
use Rattle.script_image.specs.ScopeLines.{scope_lines}
use Rattle.script_image.specs.ScriptLines.{Lines}

abbrev pub lines_of : Listing → Lines
lines_of of.Code = code_lines
lines_of of.Scopes = scope_lines
