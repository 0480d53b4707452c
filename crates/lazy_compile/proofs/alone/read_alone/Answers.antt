use Rattle.std.proofs.Common.{refl, subst, sym}
use Rattle.stencil_data.specs.Views.{RecordView}
use Rattle.track_atoms.specs.Known.{HasWords}
use Rattle.lazy_compile.specs.Delazified.{CanBeDelazified}
use Rattle.lazy_compile.proofs.ExtentTexts.{texts_of}
use Rattle.lazy_compile.proofs.Reading.{knows_accessors, read_alone, room}
use Rattle.lazy_compile.proofs.Records.{extent_of_record, some_extent}
use Rattle.lazy_compile.proofs.alone.read_alone.Goals as goal

pub read_function-requires-clause-function : goal.read_function-requires-clause-function
read_function-requires-clause-function c =
    let can = subst (λ (v : RecordView). CanBeDelazified c.args.file.now v c.args.texts.now c.requires.0 c.requires.1 c.requires.2) (sym c.lazy.view_is) c.requires.3 in
    some_extent c.args.file.now _ c.args.texts.now c.requires.0 c.requires.1 c.requires.2 can c.form_of-form.result c.form_of-form.ensures c.args.inside.now c.requires.4

pub read_function-requires-clause-words : goal.read_function-requires-clause-words
read_function-requires-clause-words c =
    knows_accessors c.args.texts.now c.known_words.new.atoms c.own_name.new.atoms c.own_closed.new.atoms c.in_ok-known.known c.in_ok-known.ensures.words c.in_ok-name.ensures.taken c.in_ok-closed.ensures.taken

pub read_function-requires-clause-room : goal.read_function-requires-clause-room
read_function-requires-clause-room c =
    let can = subst (λ (v : RecordView). CanBeDelazified c.args.file.now v c.args.texts.now c.requires.0 c.requires.1 c.requires.2) (sym c.lazy.view_is) c.requires.3 in
    room c.args.file.now _ c.args.texts.now c.requires.0 c.requires.1 c.requires.2 can c.known_words.new.atoms c.own_name.new.atoms c.own_closed.new.atoms
    c.in_ok-known.ensures.few c.in_ok-name.ensures.few c.in_ok-closed.ensures.taken

pub returns-clause-read : goal.returns-clause-read
returns-clause-read c = λ chain items m can.
    read_alone c.args.texts.now c.known_words.new.atoms c.own_name.new.atoms c.own_closed.new.atoms c.in_ok-known.known c.in_ok-known.ensures.words c.in_ok-name.ensures.taken c.in_ok-closed.ensures.taken
    c.in_ok-func.texts.items c.in_ok-func.ensures.keeps _ c.in_ok-name.name _ c.in_ok-closed.closed.items c.in_ok-name.ensures.name c.in_ok-closed.ensures.names
    c.args.file.now _ chain items m c.form_of-form.result (record { func = c.in_ok-func.func; name = c.in_ok-name.name; closed = c.in_ok-closed.closed; texts = c.in_ok-func.texts })
    (subst (λ (v : RecordView). CanBeDelazified c.args.file.now v c.args.texts.now chain items m) (sym c.lazy.view_is) can) c.form_of-form.ensures refl c.deref.ensures.value
    c.in_ok-func.ensures.few c.in_ok-func.ensures.apart c.in_ok-known.ensures.fixed refl refl refl c.in_ok-func.ensures.tree c.in_ok-func.ensures.body

pub returns-clause-texts : goal.returns-clause-texts
returns-clause-texts c =
    let can = subst (λ (v : RecordView). CanBeDelazified c.args.file.now v c.args.texts.now c.requires.0 c.requires.1 c.requires.2) (sym c.lazy.view_is) c.requires.3 in
    texts_of c.args.file.now _ c.form_of-form.result c.requires.1 c.requires.2.inner (extent_of_record c.args.file.now _ c.args.texts.now c.requires.0 c.requires.1 c.requires.2 can c.form_of-form.result c.form_of-form.ensures)
    c.args.texts.now c.known_words.new.atoms c.own_name.new.atoms c.own_closed.new.atoms c.in_ok-func.texts.items
    (subst (HasWords c.known_words.new.atoms) c.in_ok-known.ensures.fixed c.in_ok-known.ensures.words) c.in_ok-known.ensures.few c.in_ok-name.ensures.taken c.in_ok-closed.ensures.taken c.in_ok-func.ensures.gains
