use Rattle.std.proofs.Common.{◌≡◌, ◌/◌, length, ap, arith}
use Rattle.code_check.specs.NoteIndex.{Index}
use Rattle.code_check.proofs.Spreading.{inserts, inserts_none}
use Rattle.code_check.proofs.note_index.NoteIndex.insert.Goals as goal

pub returns-in_ok-spread : goal.returns-in_ok-spread
returns-in_ok-spread c =
    let same : length c.self.inside.heads.items ≡ length c.args.self.now.heads = ap (λ (i : Index). length i.heads) c.self.view_is in
    inserts c.args.number c.args.note c.args.self.now (c.len-size.result / 2) c.min-end.result (omega (arith, same, c.len-size.ensures, c.self.inside.heads.ok.0)) c.min-end.ensures c.spread.new.self c.if-note-end.true c.in_ok-spread.ensures

pub returns-else-note-end : goal.returns-else-note-end
returns-else-note-end c =
    let same : length c.self.inside.heads.items ≡ length c.args.self.now.heads = ap (λ (i : Index). length i.heads) c.self.view_is in
    inserts_none c.args.number c.args.note c.args.self.now (c.len-size.result / 2) c.min-end.result (omega (arith, same, c.len-size.ensures, c.self.inside.heads.ok.0)) c.min-end.ensures c.if-note-end.false
