use Rattle.std.proofs.Common.{◌++◌, ◌∷◌, [], map, get_or, refl}
use Rattle.std.proofs.lemmas.List.{get_or_default}
use Rattle.stencil_data.specs.StandsFor.{text_at}
use Rattle.scope_analysis.specs.DeclaredNames.{declaration, declarations}
use Rattle.scope_analysis.specs.Kept.{declaration_of, declarations_of}
use Rattle.scope_analysis.proofs.Appending.{one_more, step_on, all_done}
use Rattle.scope_analysis.proofs.toplevel.push_all.Goals as goal

pub loop-atom-preserved : goal.loop-atom-preserved
loop-atom-preserved c = λ texts.
    step_on (λ atoms. declarations c.args.kind (map (text_at texts) atoms)) c.args.atoms.now c.loop-atom.atom-index
    (get_or c.args.atoms.now c.loop-atom.atom-index 0) (declarations_of texts c.loop-atom.names.items) (declarations_of texts c.push.new.self.items)
    (declaration c.args.kind (text_at texts (get_or c.args.atoms.now c.loop-atom.atom-index 0)) ∷ [])
    (declarations_of texts c.args.names.now.items ++ declarations c.args.kind (map (text_at texts) c.args.atoms.now))
    c.loop-atom-test.true
    (get_or_default c.args.atoms.now c.loop-atom.atom-index 0 (get_or c.args.atoms.now c.loop-atom.atom-index 0) c.loop-atom-test.true)
    refl
    (one_more (declaration_of texts) c.loop-atom.names.items c.push.new.self.items
    (record { atom = get_or c.args.atoms.now c.loop-atom.atom-index 0; kind = c.args.kind }) c.in_ok-push.ensures.items)
    (c.loop-atom.invariant texts)

pub returns : goal.returns
returns c = λ texts.
    all_done (λ atoms. declarations c.args.kind (map (text_at texts) atoms)) c.args.atoms.now c.loop-atom.atom-index
    (declarations_of texts c.loop-atom.names.items)
    (declarations_of texts c.args.names.now.items ++ declarations c.args.kind (map (text_at texts) c.args.atoms.now))
    c.loop-atom-test.false refl (c.loop-atom.invariant texts)
