-- What the code of an image is listed as is one list.
use Rattle.std.proofs.Common.{◌≡◌, ℕ, List, [], ◌∷◌, Option, Some, None, sym, refl, ◌∙◌, ap, ap₂}
use Rattle.stencil_data.specs.declared.functions.Extent.{Extent}
use Rattle.stencil_data.specs.declared.functions.FuncKind.{FuncKind}
use Rattle.stencil_data.specs.declared.stencils.Entry.{Entry}
use Rattle.stencil_data.specs.declared.stencils.Entry.TheVariants as entry
use Rattle.stencil_data.specs.declared.stencils.TryNote.{TryNote}
use Rattle.stencil_data.specs.MergedView.{MergedView}
use Rattle.stencil_data.specs.Named.{NamedScope, NamedFunction, NamedRecord, NamedMerged}
use Rattle.stencil_data.specs.StandsFor.{FunctionStandsFor, EntriesStandFor, MergedStandsFor}
use Rattle.stencil_data.specs.Views.{FunctionView}
use Rattle.bytecode_buf.specs.Command.{Listed}
use Rattle.stencil_xdr_read.proofs.OneImage.{one_image_one_value}
use Rattle.script_image.specs.Listed.{ShowsListed}
use Rattle.session_image_specs.specs.Images.{IsImageFor}

abbrev made : Extent → FuncKind → Option (List ℕ) → ℕ → List NamedScope → List Listed → List TryNote → List Extent → NamedFunction (List Listed)
made extent kind name params scopes code notes inner = record { extent = extent; kind = kind; name = name; params = params; scopes = scopes; code = code; notes = notes; inner = inner }

function_is : (a b : NamedFunction (List Listed)) → a.extent ≡ b.extent → a.kind ≡ b.kind → a.name ≡ b.name → a.params ≡ b.params → a.scopes ≡ b.scopes → a.code ≡ b.code → a.notes ≡ b.notes → a.inner ≡ b.inner → a ≡ b
function_is a b extent kind name params scopes code notes inner =
    ap₂ (λ (x : Extent) (y : FuncKind). made x y a.name a.params a.scopes a.code a.notes a.inner) extent kind
    ∙ (ap₂ (λ (x : Option (List ℕ)) (y : ℕ). made b.extent b.kind x y a.scopes a.code a.notes a.inner) name params
    ∙ (ap₂ (λ (x : List NamedScope) (y : List Listed). made b.extent b.kind b.name b.params x y a.notes a.inner) scopes code
    ∙ ap₂ (λ (x : List TryNote) (y : List Extent). made b.extent b.kind b.name b.params b.scopes b.code x y) notes inner))

function_once : (texts : List (List ℕ)) (f : FunctionView) (n o : NamedFunction (List Listed)) → FunctionStandsFor ShowsListed texts f n → FunctionStandsFor ShowsListed texts f o → n ≡ o
function_once texts f n o s t = function_is n o (sym s.extent ∙ t.extent) (sym s.kind ∙ t.kind) (sym s.name ∙ t.name) (sym s.params ∙ t.params) (sym s.scopes.are ∙ t.scopes.are) (sym s.code ∙ t.code) (sym s.notes ∙ t.notes) (sym s.inner ∙ t.inner)

entries_once : (texts : List (List ℕ)) (es : List Entry) (ns os : List (Option (NamedFunction (List Listed)))) → EntriesStandFor ShowsListed texts es ns → EntriesStandFor ShowsListed texts es os → ns ≡ os
entries_once texts [] [] [] s t = refl
entries_once texts [] [] (o ∷ os) s t = absurd t
entries_once texts [] (n ∷ ns) os s t = absurd s
entries_once texts (e ∷ es) [] os s t = absurd s
entries_once texts (e ∷ es) (n ∷ ns) [] s t = absurd t
entries_once texts (entry.Lazy ∷ es) (Some n ∷ ns) (o ∷ os) s t = absurd s.0
entries_once texts (entry.Lazy ∷ es) (None ∷ ns) (Some o ∷ os) s t = absurd t.0
entries_once texts (entry.Lazy ∷ es) (None ∷ ns) (None ∷ os) s t = ap (λ (l : List (Option (NamedFunction (List Listed)))). None ∷ l) (entries_once texts es ns os s.1 t.1)
entries_once texts (entry.Compiled f ∷ es) (None ∷ ns) (o ∷ os) s t = absurd s.0
entries_once texts (entry.Compiled f ∷ es) (Some n ∷ ns) (None ∷ os) s t = absurd t.0
entries_once texts (entry.Compiled f ∷ es) (Some n ∷ ns) (Some o ∷ os) s t =
    ap₂ (λ (x : NamedFunction (List Listed)) (l : List (Option (NamedFunction (List Listed)))). Some x ∷ l) (function_once texts f n o s.0 t.0) (entries_once texts es ns os s.1 t.1)

merged_is : (a b : NamedMerged (List Listed)) → a.top ≡ b.top → a.records ≡ b.records → a.entries ≡ b.entries → a ≡ b
merged_is a b top records entries =
    ap₂ (λ (x : NamedFunction (List Listed)) (y : List NamedRecord). let n : NamedMerged (List Listed) = record { top = x; records = y; entries = a.entries } in n) top records
    ∙ ap (λ (x : List (Option (NamedFunction (List Listed)))). let n : NamedMerged (List Listed) = record { top = b.top; records = b.records; entries = x } in n) entries

-- a stencil stands for one listing
pub stands_once : (m : MergedView) (n o : NamedMerged (List Listed)) → MergedStandsFor ShowsListed m n → MergedStandsFor ShowsListed m o → n ≡ o
stands_once m n o s t = merged_is n o (function_once m.texts m.top n.top o.top s.top t.top) (sym s.records.are ∙ t.records.are) (entries_once m.texts m.entries n.entries o.entries s.entries t.entries)

-- bytes have one listing
pub one_image_one_listing : (bytes : List ℕ) (n o : NamedMerged (List Listed)) → IsImageFor bytes n → IsImageFor bytes o → n ≡ o
one_image_one_listing bytes n o h k = stands_once k.stencil n o (one_image_one_value h.stencil k.stencil bytes n h.is k.is h.stands) k.stands
