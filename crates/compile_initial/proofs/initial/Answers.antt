use Rattle.std.proofs.Common.{◌∙◌, ap, map, List, ℕ, Vec}
use Rattle.std.specs.declared.alloc.Global.{Global}
use Rattle.compile_initial.specs.Records.{around_at}
use Rattle.compile_initial.proofs.Scripts.{text, sorted_names, asks, compiled, records_seen, initial_is}
use Rattle.compile_initial.proofs.initial.Goals as goal

pub read_top-requires : goal.read_top-requires
read_top-requires c = record { sound = c.requires.1.sound; script = (c.requires.1.items, text c.requires.0 c.args.script c.requires.1) }

pub compile_script-requires : goal.compile_script-requires
compile_script-requires c =
    asks c.requires.0 c.args.script c.requires.1 c.in_ok-top.top c.deref.result.now c.in_ok-closed.closed c.of_script.result.now c.deref-2.result.now c.deref-3.result.now c.deref.ensures.value c.in_ok-closed.ensures c.of_script.ensures c.deref-2.ensures.value (c.deref-3.ensures.value ∙ ap (λ (v : Vec (List ℕ) Global). v.items) c.texts_of-texts.ensures) c.in_ok-top.ensures

pub returns : goal.returns
returns c = λ bytes is size.
    let sorted = sorted_names bytes c.args.script is c.in_ok-top.top c.deref.result.now c.in_ok-closed.closed c.of_script.result.now c.deref-2.result.now c.deref-3.result.now c.deref.ensures.value c.in_ok-closed.ensures c.of_script.ensures c.deref-2.ensures.value (c.deref-3.ensures.value ∙ ap (λ (v : Vec (List ℕ) Global). v.items) c.texts_of-texts.ensures) c.in_ok-top.ensures in
    let top = compiled bytes c.args.script is c.in_ok-top.top c.deref.result.now c.in_ok-closed.closed c.of_script.result.now c.deref-2.result.now c.deref-3.result.now c.deref.ensures.value c.in_ok-closed.ensures c.of_script.ensures c.deref-2.ensures.value (c.deref-3.ensures.value ∙ ap (λ (v : Vec (List ℕ) Global). v.items) c.texts_of-texts.ensures) c.in_ok-top.ensures
    c.in_ok-stencil.field-0.stencil c.in_ok-stencil.field-0.inside.items c.args.size c.in_ok-stencil.ensures size in
    initial_is bytes c.args.script is (record { parts = record { texts = c.texts_of-texts.result.items; top = c.in_ok-stencil.field-0.stencil; records = c.in_ok-records.records.items }; chains = c.in_ok-chains.chains; around = c.in_ok-around.around })
    c.in_ok-stencil.field-0.inside.items c.in_ok-closed.closed sorted (ap (λ (v : Vec (List ℕ) Global). v.items) c.texts_of-texts.ensures) top c.in_ok-chains.ensures
    (records_seen c.deref-4.result.now c.args.script.functions.items c.in_ok-closed.closed c.in_ok-records.records.items c.deref-4.ensures.value c.in_ok-records.ensures)
    (c.in_ok-around.ensures ∙ ap (map around_at) c.deref-5.ensures.value)
