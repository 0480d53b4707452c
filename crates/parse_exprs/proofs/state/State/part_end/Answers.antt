use Rattle.std.proofs.Common.{◌∙◌, sym, ap}
use Rattle.script_grammar.specs.Interpretation.{text_of}
use Rattle.script_grammar.specs.Kinds.{is_middle, is_tail}
use Rattle.script_grammar.specs.Lexeme.{Lexeme}
use Rattle.grammar_parser_specs.specs.Exprs.{part_end}
use Rattle.parse_exprs.proofs.Steps.{when_true, when_false, just, read_at}
use Rattle.parse_exprs.proofs.TokenTexts.{atom_text, middle_atom, tail_atom}
use Rattle.parse_exprs.proofs.state.State.part_end.Goals as goal

pub returns-then-is_middle : goal.returns-then-is_middle
unfolding part_end
returns-then-is_middle g c = λ i t m.
    let same = c.token-token.ensures.lexeme i in
    let is = sym c.is_middle.ensures ∙ c.if-is_middle.true in
    let text = ap (text_of i) c.atom.ensures.value ∙ sym (atom_text c.args.source.now.get c.args.source.now.set i c.token-token.result (middle_atom c.token-token.result.kind is)) ∙ ap (λ (x : Lexeme). x.text) same in
    (t, m, rw text (read_at (when_true _ _ (ap (λ (x : Lexeme). is_middle x.kind) (sym same) ∙ is) (just _ _ _)) (c.step.ensures.records i) (c.step.ensures.at i)))

pub returns-then-is_tail : goal.returns-then-is_tail
unfolding part_end
returns-then-is_tail g c = λ i t m.
    let same = c.token-token.ensures.lexeme i in
    let is = sym c.is_tail.ensures ∙ c.if-is_tail.true in
    let text = ap (text_of i) c.atom-then-is_tail.ensures.value ∙ sym (atom_text c.args.source.now.get c.args.source.now.set i c.token-token.result (tail_atom c.token-token.result.kind is)) ∙ ap (λ (x : Lexeme). x.text) same in
    (t, m, rw text (read_at (when_false _ _ (ap (λ (x : Lexeme). is_middle x.kind) (sym same) ∙ sym c.is_middle.ensures ∙ c.if-is_middle.false) (when_true _ _ (ap (λ (x : Lexeme). is_tail x.kind) (sym same) ∙ is) (just _ _ _))) (c.step-then-is_tail.ensures.records i) (c.step-then-is_tail.ensures.at i)))
