use Rattle.std.proofs.Common.{◌≡◌, ℕ, arith, length, subst, sym}
use Rattle.session_specs.specs.Sources.{IsValid}
use Rattle.compile_first_pass.proofs.FewTokens.{listed_few}
use Rattle.compile_first_pass.proofs.PassLemmas.{early_at, of_known, script_apart, valid}
use Rattle.compile_first_pass.proofs.verdict.check_over.Goals as goal

pub returns-in-None : goal.returns-in-None
returns-in-None g c = λ bytes tokens.
    let file = c.args.file in
    let apart = script_apart g.H.Handler.shows_body file c.in_ok-script.field-0 c.in-Ok.script c.in_ok-skimmed.skimmed c.in_ok-script.ensures c.in-Ok.is c.in_ok-skimmed.ensures in
    let listed = c.in_ok-listed.ensures file apart.0 c.requires.sound apart.1 in
    let of = of_known file apart.0 c.in_ok-listed.listed listed c.known_of-known.result (sym c.known_of-known.ensures) in
    let early = c.in_ok-first_early_error.ensures file.texts.items apart.0 of listed.told in
    let counted : length c.in_ok-listed.listed.functions.items ≡ c.len.result = let e = c.len.ensures in let o = c.in_ok-listed.listed.functions.ok.0 in omega (arith, e, o) in
    (apart.0, subst (λ (n : ℕ). IsValid bytes apart.0 n) counted (valid file apart.0 c.in_ok-listed.listed listed bytes tokens c.in_ok-first_early_error.field-0 early c.in-None.is))

pub returns : goal.returns
returns g c = λ bytes tokens.
    let file = c.args.file in
    let apart = script_apart g.H.Handler.shows_body file c.in_ok-script.field-0 c.in-Ok.script c.in_ok-skimmed.skimmed c.in_ok-script.ensures c.in-Ok.is c.in_ok-skimmed.ensures in
    let listed = c.in_ok-listed.ensures file apart.0 c.requires.sound apart.1 in
    let of = of_known file apart.0 c.in_ok-listed.listed listed c.known_of-known.result (sym c.known_of-known.ensures) in
    let early = c.in_ok-first_early_error.ensures file.texts.items apart.0 of listed.told in
    early_at file apart.0 c.in_ok-listed.listed listed bytes tokens c.in_ok-first_early_error.field-0 c.in-Some.early early c.in-Some.is

pub first_early_error-requires : goal.first_early_error-requires
first_early_error-requires g c =
    let file = c.args.file in
    let apart = script_apart g.H.Handler.shows_body file c.in_ok-script.field-0 c.in-Ok.script c.in_ok-skimmed.skimmed c.in_ok-script.ensures c.in-Ok.is c.in_ok-skimmed.ensures in
    let listed = c.in_ok-listed.ensures file apart.0 c.requires.sound apart.1 in
    listed_few file apart.0 c.known_of-known.result c.in_ok-listed.listed listed (sym c.known_of-known.ensures) c.requires.few
