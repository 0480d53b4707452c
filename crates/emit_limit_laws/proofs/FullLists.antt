-- Lists of names of which none is empty, and scopes of such names.
use Rattle.std.proofs.Common.{Bool, true, false, cond, not, List, [], ◌∷◌, ◌++◌, Option, None, Some}
use Rattle.script_grammar.specs.Tree.{Named}
use Rattle.stencil_data.specs.declared.scopes.BindKind.{BindKind}
use Rattle.stencil_data.specs.declared.scopes.ScopeKind.{ScopeKind}
use Rattle.stencil_data.specs.declared.scopes.Slot.{Slot}
use Rattle.stencil_data.specs.Named.{NamedScope}
use Rattle.stencil_data.specs.Slots.{slots}
use Rattle.grammar_start_laws.specs.Own.{AllOf}
use Rattle.scope_analysis.specs.DeclaredNames.{Text, has_text, texts_without, first_ones_after, Declaration, declarations, name_list}
use Rattle.scope_analysis.specs.Scopes.{unplaced, placed, Within, inside, scope_and, scope_around}
use Rattle.scope_closed_laws.proofs.Places.{MaybeHolds}
use Rattle.emit_limit_laws.specs.FullNames.{BindingsFull, ScopesFull}
use Rattle.emit_limit_laws.proofs.FullPlaces.{Full}

abbrev pub TextsFull : List Text → Type 0
TextsFull texts = AllOf Full texts

abbrev pub DeclaredFull : List Declaration → Type 0
DeclaredFull ds = AllOf (λ (d : Declaration). Full d.text) ds

-- ---- names

pub all_both : {X : Type 0} (P : X → Type 0) (xs ys : List X) → AllOf P xs → AllOf P ys → AllOf P (xs ++ ys)
all_both P [] ys h k = k
all_both P (x ∷ xs) ys h k = (h.0, all_both P xs ys h.1 k)

pub declared_both : (ds es : List Declaration) → DeclaredFull ds → DeclaredFull es → DeclaredFull (ds ++ es)
declared_both ds es h k = all_both (λ (d : Declaration). Full d.text) ds es h k

pub declared_full : (kind : BindKind) (texts : List Text) → TextsFull texts → DeclaredFull (declarations kind texts)
declared_full kind [] h = tt
declared_full kind (t ∷ ts) h = (h.0, declared_full kind ts h.1)

pub texts_full : (kind : BindKind) (texts : List Text) → DeclaredFull (declarations kind texts) → TextsFull texts
texts_full kind [] h = tt
texts_full kind (t ∷ ts) h = (h.0, texts_full kind ts h.1)

either_full : (b : Bool) (xs ys : List Text) → TextsFull xs → TextsFull ys → TextsFull (cond b xs ys)
either_full true xs ys h k = h
either_full false xs ys h k = k

pub first_ones_full : (seen texts : List Text) → TextsFull texts → TextsFull (first_ones_after seen texts)
first_ones_full seen [] h = tt
first_ones_full seen (t ∷ ts) h =
    either_full (has_text seen t) (first_ones_after seen ts) (t ∷ first_ones_after (t ∷ seen) ts) (first_ones_full seen ts h.1) (h.0, first_ones_full (t ∷ seen) ts h.1)

pub without_full : (gone texts : List Text) → TextsFull texts → TextsFull (texts_without gone texts)
without_full gone [] h = tt
without_full gone (t ∷ ts) h =
    either_full (not (has_text gone t)) (t ∷ texts_without gone ts) (texts_without gone ts) (h.0, without_full gone ts h.1) (without_full gone ts h.1)

pub list_full : (name : Option Named) → MaybeHolds Full name → TextsFull (name_list name)
list_full None h = tt
list_full (Some n) h = (h, tt)

-- ---- scopes

bindings_full : (ds : List Declaration) (ss : List Slot) → DeclaredFull ds → BindingsFull (placed ds ss)
bindings_full [] ss h = tt
bindings_full (d ∷ ds) [] h = tt
bindings_full (d ∷ ds) (s ∷ ss) h = (h.0, bindings_full ds ss h.1)

pub scopes_both : (ss ts : List NamedScope) → ScopesFull ss → ScopesFull ts → ScopesFull (ss ++ ts)
scopes_both [] ts h k = k
scopes_both (s ∷ ss) ts h k = (h.0, scopes_both ss ts h.1 k)

pub and_full : (kind : ScopeKind) (ds : List Declaration) (inner : List Text) (content : Within → List NamedScope) (w : Within) → DeclaredFull ds → ((v : Within) → ScopesFull (content v)) → ScopesFull (scope_and kind ds inner content w)
and_full kind ds inner content w h k = (bindings_full ds (slots kind w.frame (unplaced inner ds)) h, k (inside kind ds inner w))

pub around_full : (kind : ScopeKind) (ds : List Declaration) (inner : List Text) (content : Within → List NamedScope) (w : Within) → DeclaredFull ds → ((v : Within) → ScopesFull (content v)) → ScopesFull (scope_around kind ds inner content w)
around_full kind [] inner content w h k = k w
around_full kind (d ∷ ds) inner content w h k = and_full kind (d ∷ ds) inner content w h k
