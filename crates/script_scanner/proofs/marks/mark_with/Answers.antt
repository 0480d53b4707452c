use Rattle.std.proofs.Common.{◌≡◌, ◌∙◌, sym, ap, arith, ℕ}
use Rattle.std.specs.Prelude.{option_map, map}
use Rattle.unit_text.specs.Points.{code_of}
use Rattle.script_scanner.specs.Marks.{mark_from, sign_of}
use Rattle.script_scanner.proofs.MarkLemmas.{no_mark, single_123, single_125, single_40, single_41, single_91, single_93, single_59, single_44, single_126, single_58}
use Rattle.script_scanner.proofs.marks.mark_with.Goals as goal

pub returns-in-123 : goal.returns-in-123
returns-in-123 g c = let codes = map code_of (g.T.Source.points c.args.others) in
    let made : c.found.result ≡ option_map sign_of (mark_from 123 codes) = c.found.ensures ∙ single_123 codes in
    made ∙ ap (λ (k : ℕ). option_map sign_of (mark_from k codes)) (sym c.in-123.is)

pub returns-in-125 : goal.returns-in-125
returns-in-125 g c = let codes = map code_of (g.T.Source.points c.args.others) in
    let made : c.found-in-125.result ≡ option_map sign_of (mark_from 125 codes) = c.found-in-125.ensures ∙ single_125 codes in
    made ∙ ap (λ (k : ℕ). option_map sign_of (mark_from k codes)) (sym c.in-125.is)

pub returns-in-40 : goal.returns-in-40
returns-in-40 g c = let codes = map code_of (g.T.Source.points c.args.others) in
    let made : c.found-in-40.result ≡ option_map sign_of (mark_from 40 codes) = c.found-in-40.ensures ∙ single_40 codes in
    made ∙ ap (λ (k : ℕ). option_map sign_of (mark_from k codes)) (sym c.in-40.is)

pub returns-in-41 : goal.returns-in-41
returns-in-41 g c = let codes = map code_of (g.T.Source.points c.args.others) in
    let made : c.found-in-41.result ≡ option_map sign_of (mark_from 41 codes) = c.found-in-41.ensures ∙ single_41 codes in
    made ∙ ap (λ (k : ℕ). option_map sign_of (mark_from k codes)) (sym c.in-41.is)

pub returns-in-91 : goal.returns-in-91
returns-in-91 g c = let codes = map code_of (g.T.Source.points c.args.others) in
    let made : c.found-in-91.result ≡ option_map sign_of (mark_from 91 codes) = c.found-in-91.ensures ∙ single_91 codes in
    made ∙ ap (λ (k : ℕ). option_map sign_of (mark_from k codes)) (sym c.in-91.is)

pub returns-in-93 : goal.returns-in-93
returns-in-93 g c = let codes = map code_of (g.T.Source.points c.args.others) in
    let made : c.found-in-93.result ≡ option_map sign_of (mark_from 93 codes) = c.found-in-93.ensures ∙ single_93 codes in
    made ∙ ap (λ (k : ℕ). option_map sign_of (mark_from k codes)) (sym c.in-93.is)

pub returns-in-59 : goal.returns-in-59
returns-in-59 g c = let codes = map code_of (g.T.Source.points c.args.others) in
    let made : c.found-in-59.result ≡ option_map sign_of (mark_from 59 codes) = c.found-in-59.ensures ∙ single_59 codes in
    made ∙ ap (λ (k : ℕ). option_map sign_of (mark_from k codes)) (sym c.in-59.is)

pub returns-in-44 : goal.returns-in-44
returns-in-44 g c = let codes = map code_of (g.T.Source.points c.args.others) in
    let made : c.found-in-44.result ≡ option_map sign_of (mark_from 44 codes) = c.found-in-44.ensures ∙ single_44 codes in
    made ∙ ap (λ (k : ℕ). option_map sign_of (mark_from k codes)) (sym c.in-44.is)

pub returns-in-126 : goal.returns-in-126
returns-in-126 g c = let codes = map code_of (g.T.Source.points c.args.others) in
    let made : c.found-in-126.result ≡ option_map sign_of (mark_from 126 codes) = c.found-in-126.ensures ∙ single_126 codes in
    made ∙ ap (λ (k : ℕ). option_map sign_of (mark_from k codes)) (sym c.in-126.is)

pub returns-in-58 : goal.returns-in-58
returns-in-58 g c = let codes = map code_of (g.T.Source.points c.args.others) in
    let made : c.found-in-58.result ≡ option_map sign_of (mark_from 58 codes) = c.found-in-58.ensures ∙ single_58 codes in
    made ∙ ap (λ (k : ℕ). option_map sign_of (mark_from k codes)) (sym c.in-58.is)

pub returns-in_default : goal.returns-in_default
returns-in_default g c = no_mark c.args.first (map code_of (g.T.Source.points c.args.others)) (omega arith) (omega arith) (omega arith) (omega arith) (omega arith) (omega arith) (omega arith) (omega arith) (omega arith) (omega arith) (omega arith) (omega arith) (omega arith) (omega arith) (omega arith) (omega arith) (omega arith) (omega arith) (omega arith) (omega arith) (omega arith) (omega arith) (omega arith) (omega arith)
