use Rattle.std.proofs.Common.{subst, sym, [], slice_index_or}
use Rattle.stencil_data.specs.declared.scopes.Place.{Place}
use Rattle.bytecode_buf.specs.Emits.{Emits}
use Rattle.bytecode_buf.proofs.AppendLemmas.{emits_both}
use Rattle.emit_exprs.specs.Names.{base}
use Rattle.emit_exprs.specs.Whole.{whole}
use Rattle.emit_stmts.specs.Stmts.{swapped}
use Rattle.emit_stmts.proofs.storing.base_below.Goals as goal

pub returns-in_ok-plain-in-Global : goal.returns-in_ok-plain-in-Global
returns-in_ok-plain-in-Global c texts = subst (λ (p : Place). Emits texts c.args.out.now c.plain.new.out (whole (swapped (base (slice_index_or texts c.args.atom []) p)))) (sym c.in-Global.is) (emits_both (c.in_ok-named-in-Global.ensures texts) (c.in_ok-plain-in-Global.ensures texts))
