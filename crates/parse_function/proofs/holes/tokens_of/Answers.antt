use Rattle.std.proofs.Common.{subst, arith, rules}
use Rattle.std.specs.Str.{IsAscii, IsUtf8}
use Rattle.scope_analysis.specs.Functions.{function_form}
use Rattle.parse_function.proofs.HoleTexts.{ends_within}
use Rattle.parse_function.proofs.holes.tokens_of.Goals as goal

pub part_of-bytes-requires-clause-within : goal.part_of-bytes-requires-clause-within
part_of-bytes-requires-clause-within c =
    let d = c.requires.function in
    let last = ends_within c.args.file.now c.args.inner (function_form d.inner.func) d.items d.inner d.is in
    let high = c.requires.within in
    omega (arith, last, high)

pub ascii_tokens-requires-clause-ascii : goal.ascii_tokens-requires-clause-ascii
ascii_tokens-requires-clause-ascii c =
    let ascii : IsAscii c.part_of-bytes.result.now = search rules in
    subst IsAscii c.part_of-bytes.ensures ascii

pub unicode_tokens-requires-clause-utf8 : goal.unicode_tokens-requires-clause-utf8
unicode_tokens-requires-clause-utf8 c =
    let utf8 : IsUtf8 c.part_of-bytes.result.now = search rules in
    subst IsUtf8 c.part_of-bytes.ensures utf8
