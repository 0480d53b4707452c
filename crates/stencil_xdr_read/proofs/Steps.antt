-- Steps of reading: an error that is handed on, a part that is read as another, and items read one by one.
use Rattle.std.proofs.Common.{◌≡◌, ℕ, ◌+◌, ◌-◌, ◌<◌, ◌≤◌, List, [], ◌∷◌, ◌++◌, length, flat_map, Result, Err, refl, sym, ◌∙◌, ap, ap₂, subst, append_assoc, append-nil, arith}
use Rattle.std.specs.Prelude.{IsErrAnd}
use Rattle.std.proofs.lemmas.Grind.{flat_map-append}
use Rattle.std.proofs.lemmas.Result.{err_from_is_err_and}
use Rattle.std.proofs.lemmas.List.{length_push}
use Rattle.stencil_xdr_read.specs.declared.fault.ImageFault.{ImageFault}
use Rattle.stencil_xdr_read.specs.declared.fault.ImageFault.TheVariants as fault
use Rattle.stencil_xdr_read.specs.Reading.{AreUnique, BeginWithNone, IsReadAs, IsRefusedBy, Reads, number, Fits, Each, AreItems, list_bytes, FitList}
use Rattle.stencil_xdr_read.specs.Unique.{unique_numbers}

-- an error that a `?` hands on
pub handed : {A : Type 0} (p : A → List ℕ) (P : A → Type 0) (before after : List ℕ) (e : ImageFault) (r : Result A ImageFault) → IsErrAnd r (λ f. f ≡ e) → IsRefusedBy p P before e → Reads p P before after r
handed p P before after e r h k =
    let x = err_from_is_err_and r h in
    subst (λ y. Reads p P before after y) (ap Err (sym x.2) ∙ sym x.1) k

-- what has the bytes of another part is refused with it
pub refused_by : {S T : Type 0} (f : S → List ℕ) (F : S → Type 0) (p : T → List ℕ) (P : T → Type 0) (to : S → T) (before : List ℕ) (e : ImageFault)
    → ((s : S) → F s → P (to s)) → ((s : S) → F s → f s ≡ p (to s)) → IsRefusedBy p P before e → IsRefusedBy f F before e
refused_by f F p P to before fault.NoImage fits same h = λ s rest fit is. h (to s) rest (fits s fit) (is ∙ ap (λ (l : List ℕ). l ++ rest) (same s fit))
refused_by f F p P to before fault.NoMemory fits same h = tt

-- the same, handed on
pub handed_by : {S T : Type 0} (f : S → List ℕ) (F : S → Type 0) (p : T → List ℕ) (P : T → Type 0) (to : S → T) (before after : List ℕ) (e : ImageFault) (r : Result S ImageFault)
    → ((s : S) → F s → P (to s)) → ((s : S) → F s → f s ≡ p (to s)) → IsErrAnd r (λ g. g ≡ e) → IsRefusedBy p P before e → Reads f F before after r
handed_by f F p P to before after e r fits same h k = handed f F before after e r h (refused_by f F p P to before e fits same k)

-- the same, where the bytes of the other part are the part's own
pub handed_as : {S T : Type 0} (p : T → List ℕ) (P : T → Type 0) (to : S → T) (before after : List ℕ) (e : ImageFault) (r : Result S ImageFault)
    → IsErrAnd r (λ g. g ≡ e) → IsRefusedBy p P before e → Reads (λ s. p (to s)) (λ s. P (to s)) before after r
handed_as p P to before after e r h k = handed_by (λ s. p (to s)) (λ s. P (to s)) p P to before after e r (λ s f. f) (λ s f. refl) h k

-- ---- items

-- how far a loop that reads items has come
pub record ReadsItems {A : Type 0} (p : A → List ℕ) (P : A → Type 0) (before now : List ℕ) (items : List A) (count : ℕ) : Type 0 where
  pub is : before ≡ flat_map p items ++ now
  pub fits : Each P items
  pub many : length items ≡ count

pub reads_none : {A : Type 0} (p : A → List ℕ) (P : A → Type 0) (before : List ℕ) → ReadsItems p P before before [] 0
reads_none p P before = record { is = refl; fits = tt; many = refl }

pub Each-push : {A : Type 0} (P : A → Type 0) (xs : List A) (x : A) → Each P xs → P x → Each P (xs ++ x ∷ [])
Each-push P [] x h f = (f, tt)
Each-push P (y ∷ xs) x h f = (h.0, Each-push P xs x h.1 f)

pub reads_more : {A : Type 0} (p : A → List ℕ) (P : A → Type 0) (before now after : List ℕ) (items new : List A) (count : ℕ) (x : A)
    → ReadsItems p P before now items count → IsReadAs p P now after x → new ≡ items ++ x ∷ [] → ReadsItems p P before after new (count + 1)
reads_more p P before now after items new count x r h e = record {
  is = r.is ∙ (ap (λ (l : List ℕ). flat_map p items ++ l) h.is ∙ (sym (append_assoc (flat_map p items) (p x) after) ∙ ap (λ (l : List ℕ). l ++ after) joined));
  fits = subst (Each P) (sym e) (Each-push P items x r.fits h.fits);
  many = ap length e ∙ (length_push items x ∙ ap (λ (k : ℕ). k + 1) r.many);
}
  where
    joined : flat_map p items ++ p x ≡ flat_map p new
    joined = sym (ap (flat_map p) e ∙ (flat_map-append p items (x ∷ []) ∙ ap (λ (l : List ℕ). flat_map p items ++ l) (append-nil (p x))))

-- items that were read are the first of all others with which the bytes begin
pub record Behind {A : Type 0} (p : A → List ℕ) (P : A → Type 0) (now rest : List ℕ) (count : ℕ) : Type 0 where
  pub items : List A
  pub is : now ≡ flat_map p items ++ rest
  pub fits : Each P items
  pub many : length items ≡ count

behind_items : {A : Type 0} (p : A → List ℕ) (P : A → Type 0) → AreUnique p P → (items others : List A) (now rest : List ℕ) (count : ℕ)
    → Each P items → Each P others → length others ≡ length items + count → flat_map p items ++ now ≡ flat_map p others ++ rest → Behind p P now rest count
behind_items p P u [] others now rest count f g many e = record { items = others; is = e; fits = g; many = omega arith }
behind_items p P u (x ∷ items) [] now rest count f g many e = absurd (omega arith)
behind_items p P u (x ∷ items) (y ∷ others) now rest count f g many e =
    let one = u x y (flat_map p items ++ now) (flat_map p others ++ rest) f.0 g.0 (sym (append_assoc (p x) (flat_map p items) now) ∙ (e ∙ append_assoc (p y) (flat_map p others) rest)) in
    behind_items p P u items others now rest count f.1 g.1 (omega arith) one.1

no_item : {A : Type 0} (p : A → List ℕ) (P : A → Type 0) (now rest : List ℕ) (count : ℕ) (items : List A) → now ≡ flat_map p items ++ rest → Each P items → length items ≡ count → 0 < count → BeginWithNone p P now → ⊥
no_item p P now rest count [] is fits many some none = omega arith
no_item p P now rest count (x ∷ items) is fits many some none = none x (flat_map p items ++ rest) fits.0 (is ∙ append_assoc (p x) (flat_map p items) rest)

-- where an item is missing, the bytes do not begin with n items
pub refused_items : {A : Type 0} (p : A → List ℕ) (P : A → Type 0) → AreUnique p P → (before now : List ℕ) (items : List A) (i count : ℕ) (e : ImageFault)
    → i < count → ReadsItems p P before now items i → IsRefusedBy p P now e → IsRefusedBy (flat_map p) (AreItems count P) before e
refused_items p P u before now items i count fault.NoImage more r h = λ others rest fit is.
    let b = behind_items p P u items others now rest (count - i) r.fits fit.1 (omega (arith, fit.0, r.many)) (sym r.is ∙ is) in
    no_item p P now rest (count - i) b.items b.is b.fits b.many (omega arith) h
refused_items p P u before now items i count fault.NoMemory more r h = tt

pub reads_all : {A : Type 0} (p : A → List ℕ) (P : A → Type 0) (before now : List ℕ) (items : List A) (i count : ℕ) → i ≤ count → count ≤ i → ReadsItems p P before now items i → IsReadAs (flat_map p) (AreItems count P) before now items
reads_all p P before now items i count low high r = record { is = r.is; fits = (omega (arith, r.many), r.fits) }

-- ---- a list after its count

pub refused_count : {A : Type 0} (p : A → List ℕ) (P : A → Type 0) (before : List ℕ) (e : ImageFault) → IsRefusedBy (number 4) (Fits 4) before e → IsRefusedBy (list_bytes p) (FitList P) before e
refused_count p P before fault.NoImage h = λ xs rest fit is. h (length xs) (flat_map p xs ++ rest) fit.0 (is ∙ append_assoc (number 4 (length xs)) (flat_map p xs) rest)
refused_count p P before fault.NoMemory h = tt

pub refused_counted : {A : Type 0} (p : A → List ℕ) (P : A → Type 0) (before now : List ℕ) (count : ℕ) (e : ImageFault) → IsReadAs (number 4) (Fits 4) before now count → IsRefusedBy (flat_map p) (AreItems count P) now e → IsRefusedBy (list_bytes p) (FitList P) before e
refused_counted p P before now count fault.NoImage r h = λ xs rest fit is.
    let one = unique_numbers 4 count (length xs) now (flat_map p xs ++ rest) r.fits fit.0 (sym r.is ∙ (is ∙ append_assoc (number 4 (length xs)) (flat_map p xs) rest)) in
    h xs rest (sym one.0, fit.1) one.1
refused_counted p P before now count fault.NoMemory r h = tt

pub reads_list : {A : Type 0} (p : A → List ℕ) (P : A → Type 0) (before now after : List ℕ) (count : ℕ) (xs : List A) → IsReadAs (number 4) (Fits 4) before now count → IsReadAs (flat_map p) (AreItems count P) now after xs → IsReadAs (list_bytes p) (FitList P) before after xs
reads_list p P before now after count xs r h = record {
  is = r.is ∙ (ap₂ (λ (k : ℕ) (l : List ℕ). number 4 k ++ l) (sym h.fits.0) h.is ∙ sym (append_assoc (number 4 (length xs)) (flat_map p xs) after));
  fits = (subst (Fits 4) (sym h.fits.0) r.fits, h.fits.1);
}
