use Rattle.std.proofs.Common.{◌≡◌, ◌∙◌, ◌++◌, ◌∷◌, [], ◌<◌, ◌-◌, ◌^◌, length, List, ℕ, subst, sym, ap, arith, take}
use Rattle.std.proofs.Math.Seq.{take-append_seam}
use Rattle.parser_atoms.specs.Places.{StandsIn}
use Rattle.parser_atoms.specs.Indexed.{IsWhole}
use Rattle.parser_atoms.proofs.Interning.{indexed_same, whole_more}
use Rattle.parser_atoms.proofs.Atoms.append.Goals as goal

pub invariant_of-self-in-Ok : goal.invariant_of-self-in-Ok
invariant_of-self-in-Ok c =
    let held : c.self.inside.texts.items ≡ c.args.self.now = cc in
    let same : c.make_first_room.new.texts.items ≡ c.args.self.now = c.make_first_room.ensures ∙ held in
    let absent : ¬ (StandsIn c.make_first_room.new.texts.items c.args.units.now) = subst (λ (ts : List (List ℕ)). ¬ (StandsIn ts c.args.units.now)) (sym same) c.requires.absent in
    let few : length c.make_first_room.new.texts.items < 2 ^ 32 - 1 = subst (λ (ts : List (List ℕ)). length ts < 2 ^ 32 - 1) (sym same) c.requires.few in
    let pushed : c.push.new.self.items ≡ c.make_first_room.new.texts.items ++ c.in_ok-text.text ∷ [] = c.in_ok-push.ensures.items in
    let at : c.len-atom.result ≡ length c.make_first_room.new.texts.items = omega (arith, c.make_first_room.new.texts.ok.0, c.len-atom.ensures) in
    subst (λ (ts : List (List ℕ)). IsWhole ts c.put.new.self.cells.entries.items c.put.new.self.others) (sym (pushed ∙ ap (λ (t : List ℕ). c.make_first_room.new.texts.items ++ t ∷ []) c.in_ok-text.ensures))
    (whole_more c.make_first_room.new.texts.items c.args.units.now c.len-atom.result c.make_room.new.self.cells.entries.items c.put.new.self.cells.entries.items c.make_room.new.self.others c.put.new.self.others
    c.make_room.ensures.whole absent at few c.in-Ok.ensures.ok)

pub invariant_of-self-in-Err : goal.invariant_of-self-in-Err
invariant_of-self-in-Err c =
    let pushed : c.push.new.self.items ≡ c.make_first_room.new.texts.items ++ c.in_ok-text.text ∷ [] = c.in_ok-push.ensures.items in
    let at : c.len-atom.result ≡ length c.make_first_room.new.texts.items = omega (arith, c.make_first_room.new.texts.ok.0, c.len-atom.ensures) in
    let back : c.truncate.new.self.items ≡ c.make_first_room.new.texts.items =
    c.truncate.ensures.items ∙ ap (λ (n : ℕ). take n c.push.new.self.items) at ∙ ap (λ (ts : List (List ℕ)). take (length c.make_first_room.new.texts.items) ts) pushed
    ∙ take-append_seam c.make_first_room.new.texts.items (c.in_ok-text.text ∷ []) in
    indexed_same c.make_first_room.new.texts.items c.truncate.new.self.items c.make_room.new.self.cells.entries.items c.put.new.self.cells.entries.items c.make_room.new.self.others c.put.new.self.others
    c.make_room.ensures.whole c.in-Err.ensures.cells c.in-Err.ensures.others back
