use Rattle.compile_first_pass.proofs.FewTokens.{listed_few}
use Rattle.compile_first_pass.proofs.PassLemmas.{none_of, of_known, early_at, valid}
use Rattle.compile_first_pass.proofs.pass.check_skimmed.Goals as goal

pub returns-in-Some : goal.returns-in-Some
returns-in-Some c = λ file items sound h same bytes tokens.
    let listed = c.in_ok-listed.ensures file items sound h in
    let of = of_known file items c.in_ok-listed.listed listed c.args.known same in
    early_at file items c.in_ok-listed.listed listed bytes tokens c.in_ok-checked.checked.early c.in-Some.early (c.in_ok-checked.ensures.early file.texts.items items of listed.told) c.in-Some.is

pub returns : goal.returns
returns c = λ file items sound h same.
    let listed = c.in_ok-listed.ensures file items sound h in
    let of = of_known file items c.in_ok-listed.listed listed c.args.known same in
    record {
      valid = λ bytes tokens. valid file items c.in_ok-listed.listed listed bytes tokens c.in_ok-checked.checked.early (c.in_ok-checked.ensures.early file.texts.items items of listed.told) (none_of c.in_ok-checked.checked.early c.in_default.not-Some);
      placed = listed.placed;
      closed = c.in_ok-checked.ensures.closed file.texts.items items of listed.told;
    }

pub check_told-requires : goal.check_told-requires
check_told-requires c =
    let few = c.requires in
    listed_few few.file few.items c.args.known c.in_ok-listed.listed (c.in_ok-listed.ensures few.file few.items few.sound few.skimmed) few.known_is few.few
