-- Steps of reading a whole stencil.
use Rattle.std.proofs.Common.{◌≡◌, ℕ, List, [], ◌++◌, length, flat_map, true, false, Result, Ok, Err, refl, sym, ◌∙◌, ap, ap₂, subst, append_assoc, append-nil}
use Rattle.std.specs.Prelude.{IsErrAnd, IsTrue, ◌↔◌}
use Rattle.std.proofs.lemmas.Bool.{false≢true}
use Rattle.std.proofs.lemmas.Result.{err_from_is_err_and}
use Rattle.stencil_data.specs.declared.stencils.Entry.{Entry}
use Rattle.stencil_data.specs.MergedView.{MergedView}
use Rattle.stencil_xdr_read.specs.declared.fault.ImageFault.{ImageFault}
use Rattle.stencil_xdr_read.specs.declared.fault.ImageFault.TheVariants as fault
use Rattle.stencil_xdr_read.specs.Reading.{IsReadAs, IsRefusedBy, AreItems}
use Rattle.stencil_xdr_read.specs.Parts.{entry_bytes, FitEntry}
use Rattle.stencil_xdr_read.specs.Whole.{FrontParts, front_parts, front_bytes, FitFront, stencil_bytes, FitStencil, ReadsWhole}
use Rattle.stencil_xdr_read.specs.UniqueWhole.{unique_fronts, unique_stencils}

-- the stencil of a front and entries
abbrev pub stencil_of : FrontParts → List Entry → MergedView
stencil_of f es = record { texts = f.1.0; top = f.1.1.0; records = f.1.1.1; entries = es }

same_front : (f : FrontParts) (es : List Entry) → FitFront f → front_parts (stencil_of f es) ≡ f
same_front f es fit = ap (λ (n : ℕ). let g : FrontParts = (record { word = n }, f.1) in g) (sym fit.0)

pub refused_front : (before : List ℕ) (e : ImageFault) → IsRefusedBy front_bytes FitFront before e → IsRefusedBy stencil_bytes FitStencil before e
refused_front before fault.NoImage h = λ m rest fit is. h (front_parts m) (flat_map entry_bytes m.entries ++ rest) fit.front (is ∙ append_assoc (front_bytes (front_parts m)) (flat_map entry_bytes m.entries) rest)
refused_front before fault.NoMemory h = tt

pub refused_entries : (before now : List ℕ) (f : FrontParts) (count : ℕ) (e : ImageFault) → IsReadAs front_bytes FitFront before now f → count ≡ length f.1.1.1 → IsRefusedBy (flat_map entry_bytes) (AreItems count FitEntry) now e → IsRefusedBy stencil_bytes FitStencil before e
refused_entries before now f count fault.NoImage r same h = λ m rest fit is.
    let one = unique_fronts f (front_parts m) now (flat_map entry_bytes m.entries ++ rest) r.fits fit.front (sym r.is ∙ (is ∙ append_assoc (front_bytes (front_parts m)) (flat_map entry_bytes m.entries) rest)) in
    h m.entries rest (fit.entries.0 ∙ (sym (ap (λ (g : FrontParts). length g.1.1.1) one.0) ∙ sym same), fit.entries.1) one.1
refused_entries before now f count fault.NoMemory r same h = tt

pub reads_stencil : (before now after : List ℕ) (f : FrontParts) (es : List Entry) → IsReadAs front_bytes FitFront before now f → IsReadAs (flat_map entry_bytes) (AreItems (length f.1.1.1) FitEntry) now after es → IsReadAs stencil_bytes FitStencil before after (stencil_of f es)
reads_stencil before now after f es r h = record {
  is = r.is ∙ (ap₂ (λ (g : FrontParts) (l : List ℕ). front_bytes g ++ l) (sym (same_front f es r.fits)) h.is ∙ sym (append_assoc (front_bytes (front_parts (stencil_of f es))) (flat_map entry_bytes es) after));
  fits = record { front = subst FitFront (sym (same_front f es r.fits)) r.fits; entries = h.fits };
}

refused_whole : (bytes : List ℕ) (e : ImageFault) → IsRefusedBy stencil_bytes FitStencil bytes e → ReadsWhole bytes (Err e)
refused_whole bytes fault.NoImage none = λ m fit is. none m [] fit (is ∙ sym (append-nil (stencil_bytes m)))
refused_whole bytes fault.NoMemory none = tt

-- an error that is handed on
pub whole_handed : (bytes before : List ℕ) (e : ImageFault) (r : Result MergedView ImageFault) → before ≡ bytes → IsErrAnd r (λ f. f ≡ e) → IsRefusedBy stencil_bytes FitStencil before e → ReadsWhole bytes r
whole_handed bytes before e r same h k =
    let x = err_from_is_err_and r h in
    subst (λ y. ReadsWhole bytes y) (ap Err (sym x.2) ∙ sym x.1) (refused_whole bytes e (subst (λ b. IsRefusedBy stencil_bytes FitStencil b e) same k))

pub whole_read : (bytes before after : List ℕ) (m : MergedView) → before ≡ bytes → IsReadAs stencil_bytes FitStencil before after m → IsTrue true ↔ (after ≡ []) → ReadsWhole bytes (Ok m)
whole_read bytes before after m same r done = (sym same ∙ (r.is ∙ (ap (λ (l : List ℕ). stencil_bytes m ++ l) (done.0 refl) ∙ append-nil (stencil_bytes m))), r.fits)

-- bytes are left after the stencil
pub whole_left : (bytes before after : List ℕ) (m : MergedView) → before ≡ bytes → IsReadAs stencil_bytes FitStencil before after m → IsTrue false ↔ (after ≡ []) → ReadsWhole bytes (Err fault.NoImage)
whole_left bytes before after m same r done = λ other fit is.
    false≢true (done.1 ((unique_stencils m other after [] r.fits fit (sym r.is ∙ (same ∙ (is ∙ sym (append-nil (stencil_bytes other)))))).1))
