use Rattle.std.proofs.Common.{subst, sym}
use Rattle.stencil_data.specs.Views.{RecordView}
use Rattle.parse_function.specs.Extents.{own_statements}
use Rattle.lazy_compile.specs.Delazified.{CanBeDelazified}
use Rattle.lazy_compile.specs.Texts.{AreTextsOf}
use Rattle.lazy_compile.proofs.Compiled.{asked, compiled_alone, nameless_at}
use Rattle.lazy_compile.proofs.delazify.Goals as goal

pub compile_function-requires : goal.compile_function-requires
compile_function-requires c =
    let can = subst (λ (v : RecordView). CanBeDelazified c.args.file.now v c.args.texts.now c.args.chain.now c.requires.0 c.requires.1) (sym c.lazy.view_is) c.requires.2 in (
      own_statements c.requires.0,
      nameless_at c.requires.1,
      asked c.args.file.now _ c.args.texts.now c.args.chain.now c.requires.0 c.requires.1 can c.in_ok-func.field-0 (c.in_ok-func.ensures.read c.args.chain.now c.requires.0 c.requires.1 c.requires.2) c.deref-2.result.now c.deref.result.now c.deref-2.ensures.value c.deref.ensures.value,
    )

pub behind_known-requires : goal.behind_known-requires
behind_known-requires c = (c.in_ok-func.ensures.read c.args.chain.now c.requires.0 c.requires.1 c.requires.2).words

pub returns-clause-compiled : goal.returns-clause-compiled
returns-clause-compiled c = λ items m can.
    let read = c.in_ok-func.ensures.read c.args.chain.now items m can in
    let seen = subst (λ (v : RecordView). CanBeDelazified c.args.file.now v c.args.texts.now c.args.chain.now items m) (sym c.lazy.view_is) can in
    compiled_alone (own_statements items) m c.in_ok-func.field-0 items (record { stencil = c.in_ok-stencil.field-0.stencil; texts = c.in_ok-texts.texts; chains = c.in_ok-chains.chains }) c.deref-2.result.now c.in_ok-stencil.field-0.inside.items read
    (c.in_ok-stencil.ensures (own_statements items) (nameless_at m) (asked c.args.file.now _ c.args.texts.now c.args.chain.now items m seen c.in_ok-func.field-0 read c.deref-2.result.now c.deref.result.now c.deref-2.ensures.value c.deref.ensures.value))
    c.deref-2.ensures.value c.in_ok-texts.ensures c.in_ok-chains.ensures

pub returns-clause-texts : goal.returns-clause-texts
returns-clause-texts c = subst (AreTextsOf c.args.file.now c.args.texts.now) (sym c.in_ok-texts.ensures) c.in_ok-func.ensures.texts
