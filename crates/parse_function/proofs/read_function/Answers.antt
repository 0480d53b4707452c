use Rattle.std.proofs.Common.{◌≡◌, ◌∙◌, ◌<◌, ◌^◌, ℕ, List, length, refl, subst, sym, arith}
use Rattle.script_scanner.specs.Stands.{GainsOnly}
use Rattle.parse_function.proofs.Again.{can_be_made, lie, few, gains, for_parser, is_no_unexpected, is_no_too_deep, tree_is, body_is, start_is, end_is}
use Rattle.parse_function.proofs.ReadingExtents.{no_script}
use Rattle.scope_analysis.specs.FunctionTree.{HasBody}
use Rattle.scope_analysis.specs.Kept.{under}
use Rattle.script_grammar.specs.TreeOf.{func_of}
use Rattle.parser_atoms.specs.Places.{AreWithoutEquals}
use Rattle.script_scanner.specs.Tokens.{tokens}
use Rattle.unit_text.specs.Points.{points}
use Rattle.grammar_alone_laws.specs.Alone.{nameless}
use Rattle.parse_function.specs.Extents.{own_statements, body_in}
use Rattle.parse_function.specs.Left.{points_left}
use Rattle.parse_function.proofs.read_function.Goals as goal

pub holes_in-requires-clause-function : goal.holes_in-requires-clause-function
holes_in-requires-clause-function c = (c.args.form, c.requires.function)

pub tokens_without-requires-clause-parts : goal.tokens_without-requires-clause-parts
tokens_without-requires-clause-parts c = can_be_made c.args.file.now c.args.extent c.args.form c.args.inside.now c.requires.function c.in_ok-holes.holes.items c.deref.result.now c.deref.ensures.value c.in_ok-holes.ensures

pub tokens_without-requires-clause-in_order : goal.tokens_without-requires-clause-in_order
tokens_without-requires-clause-in_order c = lie c.args.file.now c.args.extent c.args.form c.args.inside.now c.requires.function c.in_ok-holes.holes.items c.deref.result.now c.deref.ensures.value c.in_ok-holes.ensures (points_left c.args.file.now c.args.extent c.deref.result.now) refl

pub tokens_without-requires-clause-few : goal.tokens_without-requires-clause-few
tokens_without-requires-clause-few c =
    let many = few c.args.file.now c.args.extent c.args.form c.args.inside.now c.requires.function c.in_ok-holes.holes.items c.deref.result.now c.deref.ensures.value c.in_ok-holes.ensures (points_left c.args.file.now c.args.extent c.deref.result.now) refl in
    let room = c.requires.room in
    omega (arith, many, room)

pub function_of-requires-clause-scanned : goal.function_of-requires-clause-scanned
function_of-requires-clause-scanned c =
    for_parser c.args.file.now c.args.extent c.args.form c.args.inside.now c.requires.function c.in_ok-holes.holes.items c.deref.result.now c.deref.ensures.value c.in_ok-holes.ensures (points_left c.args.file.now c.args.extent c.deref.result.now) refl
    c.args.atoms c.tokens_without.new.atoms c.args.known c.requires.words c.in_ok-tokens.ensures.keeps c.into_texts-texts.ensures.apart c.in_ok-tokens.tokens.items c.deref-2.result.now c.deref-2.ensures.value c.in_ok-tokens.ensures.tokens
    c.requires.size (subst (λ (ts : List (List ℕ)). length ts < 2 ^ 32) c.atoms-2.view_is c.atoms-2.invariant.few) c.in_ok-tokens.ensures.last

pub function_of-requires-clause-no_script : goal.function_of-requires-clause-no_script
function_of-requires-clause-no_script c = let d = c.requires.function in no_script c.args.file.now c.args.extent c.args.form d.items d.inner d.is

pub returns-in-Ok-clause-tree : goal.returns-in-Ok-clause-tree
returns-in-Ok-clause-tree c = λ items inner e.
    subst (λ (ts : List (List ℕ)). func_of (under ts (own_statements items)) c.in-Ok.func ≡ nameless inner.func) (sym c.into_texts-texts.ensures.list)
    ((tree_is c.args.file.now c.args.extent c.args.form c.args.inside.now c.requires.function c.in_ok-holes.holes.items c.deref.result.now c.deref.ensures.value c.in_ok-holes.ensures (points_left c.args.file.now c.args.extent c.deref.result.now) refl
    c.args.atoms c.tokens_without.new.atoms c.args.known c.requires.words c.in_ok-tokens.ensures.keeps c.into_texts-texts.ensures.apart c.in_ok-tokens.tokens.items c.deref-2.result.now c.deref-2.ensures.value c.in_ok-tokens.ensures.tokens
    c.in-Ok.func c.in-Ok.ensures) items inner e)

pub returns-in-Ok-clause-body : goal.returns-in-Ok-clause-body
returns-in-Ok-clause-body c = λ bodies.
    subst (λ (ts : List (List ℕ)). HasBody (under ts bodies) c.in-Ok.func (body_in (func_of (under ts bodies) c.in-Ok.func))) (sym c.into_texts-texts.ensures.list)
    ((body_is c.args.file.now c.args.extent c.args.form c.args.inside.now c.requires.function c.in_ok-holes.holes.items c.deref.result.now c.deref.ensures.value c.in_ok-holes.ensures (points_left c.args.file.now c.args.extent c.deref.result.now) refl
    c.args.atoms c.tokens_without.new.atoms c.args.known c.requires.words c.in_ok-tokens.ensures.keeps c.into_texts-texts.ensures.apart c.in_ok-tokens.tokens.items c.deref-2.result.now c.deref-2.ensures.value c.in_ok-tokens.ensures.tokens
    c.in-Ok.func c.in-Ok.ensures) bodies)

pub returns-in-Ok-clause-start : goal.returns-in-Ok-clause-start
returns-in-Ok-clause-start c =
    start_is c.args.file.now c.args.extent c.args.form c.args.inside.now c.requires.function c.in_ok-holes.holes.items c.deref.result.now c.deref.ensures.value c.in_ok-holes.ensures (points_left c.args.file.now c.args.extent c.deref.result.now) refl
    c.args.atoms c.tokens_without.new.atoms c.args.known c.requires.words c.in_ok-tokens.ensures.keeps c.into_texts-texts.ensures.apart c.in_ok-tokens.tokens.items c.deref-2.result.now c.deref-2.ensures.value c.in_ok-tokens.ensures.tokens
    c.in-Ok.func c.in-Ok.ensures

pub returns-in-Ok-clause-end : goal.returns-in-Ok-clause-end
returns-in-Ok-clause-end c =
    end_is c.args.file.now c.args.extent c.args.form c.args.inside.now c.requires.function c.in_ok-holes.holes.items c.deref.result.now c.deref.ensures.value c.in_ok-holes.ensures (points_left c.args.file.now c.args.extent c.deref.result.now) refl
    c.args.atoms c.tokens_without.new.atoms c.args.known c.requires.words c.in_ok-tokens.ensures.keeps c.into_texts-texts.ensures.apart c.in_ok-tokens.tokens.items c.deref-2.result.now c.deref-2.ensures.value c.in_ok-tokens.ensures.tokens
    c.in-Ok.func c.in-Ok.ensures

pub returns-in-Ok-clause-gains : goal.returns-in-Ok-clause-gains
returns-in-Ok-clause-gains c =
    subst (λ (ts : List (List ℕ)). GainsOnly c.args.atoms ts (tokens (points c.args.file.now) c.args.extent.start c.args.extent.end)) (sym c.into_texts-texts.ensures.list)
    (gains c.args.file.now c.args.extent c.args.form c.args.inside.now c.requires.function c.in_ok-holes.holes.items c.deref.result.now c.deref.ensures.value c.in_ok-holes.ensures (points_left c.args.file.now c.args.extent c.deref.result.now) refl c.args.atoms c.tokens_without.new.atoms c.in_ok-tokens.ensures.gains)

pub unreachable-requires : goal.unreachable-requires
unreachable-requires c =
    is_no_unexpected c.args.file.now c.args.extent c.args.form c.args.inside.now c.requires.function c.in_ok-holes.holes.items c.deref.result.now c.deref.ensures.value c.in_ok-holes.ensures (points_left c.args.file.now c.args.extent c.deref.result.now) refl
    c.args.atoms c.tokens_without.new.atoms c.args.known c.requires.words c.in_ok-tokens.ensures.keeps c.into_texts-texts.ensures.apart c.in_ok-tokens.tokens.items c.deref-2.result.now c.deref-2.ensures.value c.in_ok-tokens.ensures.tokens
    c.in-Err-Unexpected.field-0 c.in-Err-Unexpected.field-0-0 c.in-Err-Unexpected.field-0-is c.in-Err-Unexpected.ensures

pub unreachable-requires-in-Err-TooDeep : goal.unreachable-requires-in-Err-TooDeep
unreachable-requires-in-Err-TooDeep c =
    is_no_too_deep c.args.file.now c.args.extent c.args.form c.args.inside.now c.requires.function c.in_ok-holes.holes.items c.deref.result.now c.deref.ensures.value c.in_ok-holes.ensures (points_left c.args.file.now c.args.extent c.deref.result.now) refl
    c.args.atoms c.tokens_without.new.atoms c.args.known c.requires.words c.in_ok-tokens.ensures.keeps c.into_texts-texts.ensures.apart c.in_ok-tokens.tokens.items c.deref-2.result.now c.deref-2.ensures.value c.in_ok-tokens.ensures.tokens
    c.in-Err-TooDeep.field-0 c.in-Err-TooDeep.field-0-0 c.in-Err-TooDeep.field-0-is c.in-Err-TooDeep.ensures

pub returns-in-Ok-clause-apart : goal.returns-in-Ok-clause-apart
returns-in-Ok-clause-apart c = subst AreWithoutEquals (sym c.into_texts-texts.ensures.list) c.into_texts-texts.ensures.apart
