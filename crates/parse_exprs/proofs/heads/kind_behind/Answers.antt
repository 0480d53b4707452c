use Rattle.std.proofs.Common.{◌∙◌, ap, List}
use Rattle.script_grammar.specs.Lexeme.{Lexeme}
use Rattle.grammar_parser_specs.specs.Parser.{head_of}
use Rattle.parse_exprs.proofs.Fronts.{front_next}
use Rattle.parse_exprs.proofs.heads.kind_behind.Goals as goal

pub returns : goal.returns
returns c = λ i. ap (λ (t : Lexeme). t.kind) (c.token.ensures.lexeme i) ∙ ap (λ (ts : List Lexeme). (head_of ts).kind) (front_next c.args.source.now i c.args.at)
