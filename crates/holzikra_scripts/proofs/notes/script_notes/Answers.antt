use Rattle.std.proofs.Common.{◌≡◌, ◌<◌, ◌+◌, [], ◌∷◌, min, length, get_or, rules}
use Rattle.holzikra_scripts.specs.Notes.{source_of}
use Rattle.holzikra_scripts.proofs.NoteLemmas.{all_noted, function_added, top_added}
use Rattle.holzikra_scripts.proofs.notes.script_notes.Goals as goal

pub loop-index-init : goal.loop-index-init
loop-index-init c =
    let new = c.push.new.self.items in
    let top = c.in_ok-top_note.field-0 in
    let is : new ≡ top ∷ [] = search rules in
    let size : length new ≡ 0 + 1 = search (rules, is) in
    (size, top_added (source_of c.args.source.now) c.args.stencil.now new top is c.in_ok-top_note.ensures)

pub loop-index-preserved : goal.loop-index-preserved
loop-index-preserved c =
    let l = c.loop-index in
    let new = c.push-in-loop-index.new.self.items in
    let in_rs : l.index < length c.args.stencil.now.records = search rules in
    let in_es : l.index < length c.args.stencil.now.entries = search rules in
    let r_is : c.index-lazy.result.now ≡ get_or c.args.stencil.now.records l.index c.index-lazy.result.now = search rules in
    let e_is : c.index-entry.result.now ≡ get_or c.args.stencil.now.entries l.index c.index-entry.result.now = search rules in
    let count : length new ≡ l.index + 1 + 1 = search rules in (
      count,
      function_added (source_of c.args.source.now) c.args.stencil.now l.notes.items new c.in_ok-function_note.field-0 l.index c.index-lazy.result.now c.index-entry.result.now
          l.invariant.1 c.in_ok-push-2.ensures.items l.invariant.0 in_rs in_es r_is e_is c.in_ok-function_note.ensures,
    )

pub returns : goal.returns
returns c =
    let l = c.loop-index in
    let last : l.index ≡ min (length c.args.stencil.now.records) (length c.args.stencil.now.entries) = search rules in
    all_noted (source_of c.args.source.now) c.args.stencil.now l.notes.items l.index l.invariant.0 last l.invariant.1
