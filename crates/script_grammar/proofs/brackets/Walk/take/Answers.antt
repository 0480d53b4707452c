use Rattle.std.proofs.Common.{ap, reverse, ◌∙◌}
use Rattle.script_grammar.proofs.Taking.{taken-other, taken-opening, taken-closing, taken-middle, misfit-closing, misfit-middle}
use Rattle.script_grammar.specs.Matching.{part_of}
use Rattle.script_grammar.specs.declared.token.Token.{Token}
use Rattle.script_grammar.proofs.brackets.Walk.take.Goals as goal

pub returns-in-Other : goal.returns-in-Other
returns-in-Other c = taken-other c.args.tokens.now c.args.token _ c.args.self.now.partners.items (reverse c.args.self.now.stack.items) c.requires.within (c.in-Other.ensures ∙ ap (λ (t : Token). part_of t.kind) c.index-tokens-token.is) c.requires.so_far

pub returns-in_ok-open-in-Opening : goal.returns-in_ok-open-in-Opening
returns-in_ok-open-in-Opening c =
    let new = c.open.new.self in
    taken-opening c.args.tokens.now c.args.token _ c.in-Opening.bracket c.args.self.now.partners.items new.partners.items (reverse c.args.self.now.stack.items) (reverse new.stack.items)
    c.requires.within (c.in-Opening.ensures ∙ ap (λ (t : Token). part_of t.kind) c.index-tokens-token.is) c.requires.so_far (ap (λ v. v.items) c.in_ok-open-in-Opening.ensures.partners) c.in_ok-open-in-Opening.ensures.stack

pub returns-in_ok-pair-in-Closing-2 : goal.returns-in_ok-pair-in-Closing-2
returns-in_ok-pair-in-Closing-2 c =
    let old = c.args.self.now in let closed = c.close.new.self in let first = c.pair.new.self in let second = c.pair-in-Closing.new.self in
    taken-closing c.args.tokens.now c.args.token _ c.in-Closing.bracket c.in-Some.opener old.partners.items closed.partners.items first.partners.items second.partners.items
    (reverse old.stack.items) (reverse closed.stack.items) (reverse second.stack.items)
    c.requires.within (c.in-Closing.ensures ∙ ap (λ (t : Token). part_of t.kind) c.index-tokens-token.is) c.requires.so_far c.in-Some.ensures.stack (ap (λ v. v.items) c.in-Some.ensures.partners)
    c.in_ok-pair-in-Closing.ensures.partners c.in_ok-pair-in-Closing-2.ensures.partners
    (ap (λ v. reverse v.items) c.pair-in-Closing.ensures.stack ∙ ap (λ v. reverse v.items) c.pair.ensures.stack)

pub returns-in_ok-open-in-Middle : goal.returns-in_ok-open-in-Middle
returns-in_ok-open-in-Middle c =
    let old = c.args.self.now in let closed = c.close-in-Middle.new.self in let first = c.pair-in-Middle.new.self in let opened = c.open-in-Middle.new.self in
    taken-middle c.args.tokens.now c.args.token _ c.in-Some-close.opener old.partners.items closed.partners.items first.partners.items opened.partners.items
    (reverse old.stack.items) (reverse closed.stack.items) (reverse first.stack.items) (reverse opened.stack.items)
    c.requires.within (c.in-Middle.ensures ∙ ap (λ (t : Token). part_of t.kind) c.index-tokens-token.is) c.requires.so_far c.in-Some-close.ensures.stack (ap (λ v. v.items) c.in-Some-close.ensures.partners)
    c.in_ok-pair-in-Middle.ensures.partners (ap (λ v. reverse v.items) c.pair-in-Middle.ensures.stack)
    (ap (λ v. v.items) c.in_ok-open-in-Middle.ensures.partners) c.in_ok-open-in-Middle.ensures.stack

pub returns-in_default : goal.returns-in_default
returns-in_default c =
    let old = c.args.self.now in let closed = c.close.new.self in
    misfit-closing c.args.tokens.now c.args.token _ c.in-Closing.bracket old.partners.items closed.partners.items (reverse old.stack.items) (reverse closed.stack.items)
    c.requires.within (c.in-Closing.ensures ∙ ap (λ (t : Token). part_of t.kind) c.index-tokens-token.is) c.requires.so_far c.in_default.ensures.stack (ap (λ v. v.items) c.in_default.ensures.partners)

pub returns-in_default-close : goal.returns-in_default-close
returns-in_default-close c =
    let old = c.args.self.now in let closed = c.close-in-Middle.new.self in
    misfit-middle c.args.tokens.now c.args.token _ old.partners.items closed.partners.items (reverse old.stack.items) (reverse closed.stack.items)
    c.requires.within (c.in-Middle.ensures ∙ ap (λ (t : Token). part_of t.kind) c.index-tokens-token.is) c.requires.so_far c.in_default-close.ensures.stack (ap (λ v. v.items) c.in_default-close.ensures.partners)
