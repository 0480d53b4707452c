use Rattle.std.proofs.Common.{refl}
use Rattle.compile_session.proofs.StartLemmas.{script_started}
use Rattle.compile_wanted.specs.Numbers.{to_show}
use Rattle.session_words.specs.Asked as asked
use Rattle.compile_session.proofs.start.script_start.Goals as goal

pub initial-requires : goal.initial-requires
initial-requires c = (c.args.bytes.now, c.requires.is, refl, c.requires.is.tokens.short)

pub flags_of-requires : goal.flags_of-requires
flags_of-requires c = (c.args.bytes.now, c.in_ok-initial.ensures c.args.bytes.now c.requires.is refl)

pub returns : goal.returns
returns c =
    script_started (asked.wanted c.args.want.now) c.args.bytes.now c.args.script (record { initial = c.in_ok-initial.initial; shown = c.in_ok-shown.shown }) (to_show c.wanted_of.result) c.requires
    (c.in_ok-initial.ensures c.args.bytes.now c.requires.is refl) c.wanted_of.ensures c.in_ok-shown.ensures
