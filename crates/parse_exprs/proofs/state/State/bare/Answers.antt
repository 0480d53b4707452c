use Rattle.parse_exprs.proofs.KeyParts.{name_atom, named_same}
use Rattle.grammar_parser_specs.specs.Exprs.{AnAssign, AParam, ARest}
use Rattle.grammar_parser_specs.specs.Exprs as pure
use Rattle.script_grammar.specs.Lexeme.{lexeme_of}
use Rattle.std.proofs.Common.{[], ap, refl, sym, None, ◌∷◌}
use Rattle.parse_exprs.proofs.state.State.bare.Goals as goal

pub returns : goal.returns
returns g c = λ i get set.
    let name = named_same get set i c.args.token c.ident.result (name_atom c.args.token.kind c.requires.name) c.ident.ensures.atom c.ident.ensures.at in
    rw (c.in_ok-push.ensures.items, c.new-params.ensures.items) (pure.param (pure.named (lexeme_of get set i.texts c.args.token)) None ∷ [], (ap (λ m. pure.param m None) (sym name), tt), refl)
