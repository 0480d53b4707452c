-- The bytes of a stencil where atoms are the numbers that stand there.
use Rattle.std.specs.Prelude.{◌≡◌, ℕ, List, ◌++◌, length, flat_map, Result, Ok, Err}
use Rattle.stencil_data.specs.MergedView.{MergedView}
use Rattle.stencil_data.specs.Views.{RecordView, FunctionView}
use Rattle.stencil_xdr_read.specs.declared.fault.ImageFault.{ImageFault}
use Rattle.stencil_xdr_read.specs.declared.fault.ImageFault.TheVariants as fault
use Rattle.stencil_xdr_read.specs.declared.whole.Magic.{Magic}
use Rattle.stencil_xdr_read.specs.Reading.{number, pair_bytes, FitPair, list_bytes, FitList, AreItems}
use Rattle.stencil_xdr_read.specs.Parts.{text_bytes, FitText, function_bytes, FitFunction, record_bytes, FitRecord, entry_bytes, FitEntry}

-- `STN1`
abbrev pub magic_number : ℕ
magic_number = 827216979

abbrev pub magic_bytes : Magic → List ℕ
magic_bytes m = number 4 m.word

abbrev pub IsMagic : Magic → Type 0
IsMagic m = m.word ≡ magic_number

abbrev pub FrontParts : Type 0
FrontParts = Magic × (List (List ℕ) × (FunctionView × List RecordView))

abbrev pub front_parts : MergedView → FrontParts
front_parts m = (record { word = magic_number }, (m.texts, (m.top, m.records)))

abbrev pub front_bytes : FrontParts → List ℕ
front_bytes = pair_bytes magic_bytes (pair_bytes (list_bytes text_bytes) (pair_bytes function_bytes (list_bytes record_bytes)))

abbrev pub FitFront : FrontParts → Type 0
FitFront = FitPair IsMagic (FitPair (FitList FitText) (FitPair FitFunction (FitList FitRecord)))

abbrev pub stencil_bytes : MergedView → List ℕ
stencil_bytes m = front_bytes (front_parts m) ++ flat_map entry_bytes m.entries

-- the numbers fit, and there are as many entries as records
pub record FitStencil (m : MergedView) : Type 0 where
  pub front : FitFront (front_parts m)
  pub entries : AreItems (length m.records) FitEntry m.entries

-- what a call that reads a stencil of all the bytes answers
abbrev pub ReadsWhole : List ℕ → Result MergedView ImageFault → Type 0
ReadsWhole bytes (Ok m) = (bytes ≡ stencil_bytes m) × FitStencil m
ReadsWhole bytes (Err fault.NoImage) = (m : MergedView) → FitStencil m → bytes ≡ stencil_bytes m → ⊥
ReadsWhole bytes (Err fault.NoMemory) = Unit {0}
