use Rattle.std.proofs.Common.{Option, List, length, ◌≡◌, ◌++◌, subst, sym}
use Rattle.script_grammar.specs.declared.tree.Expr.{Expr}
use Rattle.bytecode_buf.specs.declared.waits.Aim.TheVariants as aim
use Rattle.bytecode_buf.specs.declared.waits.Wait.{Wait}
use Rattle.bytecode_buf.specs.Appends.{AllRoom, kept}
use Rattle.bytecode_buf.specs.Emits.{LandsHere}
use Rattle.emit_stmts.specs.ValueCode.{ValueEmits, named_in}
use Rattle.emit_functions.specs.ParamCode.{default_of}
use Rattle.emit_functions.proofs.ParamRows.{default_some, default_none, default_room}
use Rattle.emit_functions.proofs.params.default_value.Goals as goal

pub target-requires : goal.target-requires
target-requires c = subst (AllRoom (length c.plain.new.out)) (sym c.deref.ensures.value) (default_room c.args.name c.in_ok-is_undefined-in-Some.ensures c.new-waits.ensures.items c.in_ok-jump_to-in-Some.ensures.jumps c.in_ok-emit_expr-in-Some.ensures c.in_ok-writing-in-Some.ensures (c.in_ok-plain-in-Some.ensures c.args.site.now.texts.now))

pub returns-in_ok-target-in-Some : goal.returns-in_ok-target-in-Some
returns-in_ok-target-in-Some c = subst (λ (v : Option Expr). ValueEmits c.args.site.now c.args.out.now c.target.new.out v (default_of (named_in c.args.site.now c.args.name))) (sym c.in-Some.is)
    (default_some c.args.name c.in_ok-is_undefined-in-Some.ensures c.new-waits.ensures.items c.in_ok-jump_to-in-Some.ensures.jumps c.in_ok-jump_to-in-Some.ensures.waits c.in_ok-emit_expr-in-Some.ensures c.in_ok-writing-in-Some.ensures (c.in_ok-plain-in-Some.ensures c.args.site.now.texts.now)
    c.new-outside.ensures.items
    (subst (λ (ws : List Wait). LandsHere aim.After c.plain.new.out ws c.new-outside.result.items c.target.new.out c.target.new.waits.items) c.deref.ensures.value c.in_ok-target-in-Some.ensures.lands)
    (subst (λ (ws : List Wait). c.target.new.waits.items ≡ c.new-outside.result.items ++ kept aim.After ws) c.deref.ensures.value c.in_ok-target-in-Some.ensures.waits))

pub returns-in-None : goal.returns-in-None
returns-in-None c = subst (λ (v : Option Expr). ValueEmits c.args.site.now c.args.out.now c.args.out.now v (default_of (named_in c.args.site.now c.args.name))) (sym c.in-None.is) (default_none c.args.site.now c.args.out.now c.args.name)
