-- Items and the pieces that they are: an image is written of the pieces alone.
use Rattle.std.proofs.Common.{◌≡◌, ℕ, List, [], ◌∷◌, ◌++◌, length, map, flat_map, refl, sym, ◌∙◌, ap, ap₂}
use Rattle.std.proofs.lemmas.List.{length-map, map-append}
use Rattle.stencil_data.specs.MergedView.{MergedView}
use Rattle.stencil_data.specs.StandsFor.{text_at}
use Rattle.bytecode_buf.specs.Bytes.{le_bytes}
use Rattle.stencil_xdr_specs.specs.Image as image
use Rattle.stencil_xdr_specs.specs.Image.{Item, Bytes, Atom, items, named, firsts, place_in, item_bytes, text_bytes, magic}
use Rattle.stencil_xdr_read.specs.Reading.{Each}
use Rattle.stencil_xdr_laws.specs.Pieces.{Piece, Plain, Text, piece, list_pieces, texts_of, piece_bytes, written_by, written}

-- by these texts the items are these pieces
pub record Shows (texts : List (List ℕ)) (is : List Item) (ps : List Piece) : Type 0 where
  pub are : map (piece texts) is ≡ ps

-- ---- an image of pieces

named_by_pieces : (texts : List (List ℕ)) (is : List Item) → named texts is ≡ texts_of (map (piece texts) is)
named_by_pieces texts [] = refl
named_by_pieces texts (Bytes bs ∷ is) = named_by_pieces texts is
named_by_pieces texts (Atom a ∷ is) = ap (λ (l : List (List ℕ)). text_at texts a ∷ l) (named_by_pieces texts is)

bytes_by_pieces : (texts numbered : List (List ℕ)) (is : List Item) → flat_map (item_bytes texts numbered) is ≡ flat_map (piece_bytes numbered) (map (piece texts) is)
bytes_by_pieces texts numbered [] = refl
bytes_by_pieces texts numbered (Bytes bs ∷ is) = ap (λ (l : List ℕ). bs ++ l) (bytes_by_pieces texts numbered is)
bytes_by_pieces texts numbered (Atom a ∷ is) = ap (λ (l : List ℕ). le_bytes 4 (place_in numbered (text_at texts a)) ++ l) (bytes_by_pieces texts numbered is)

-- an image is written of the pieces alone
pub image_of_pieces : (m : MergedView) (ps : List Piece) → Shows m.texts (items m) ps → image.image m ≡ written ps
image_of_pieces m ps s =
    let numbered : List (List ℕ) = firsts (named m.texts (items m)) in
    ap (λ (l : List ℕ). magic ++ le_bytes 4 (length numbered) ++ flat_map text_bytes numbered ++ l) (bytes_by_pieces m.texts numbered (items m))
    ∙ (ap (λ (l : List (List ℕ)). written_by (firsts l) (map (piece m.texts) (items m))) (named_by_pieces m.texts (items m)) ∙ ap written s.are)

-- ---- items put together

pub shows_none : {texts : List (List ℕ)} → Shows texts [] []
shows_none = record { are = refl }

pub shows_bytes : {texts : List (List ℕ)} {is : List Item} {ps : List Piece} (bs : List ℕ) → Shows texts is ps → Shows texts (Bytes bs ∷ is) (Plain bs ∷ ps)
shows_bytes bs s = record { are = ap (λ (l : List Piece). Plain bs ∷ l) s.are }

pub shows_text : {texts : List (List ℕ)} {is : List Item} {ps : List Piece} (a : ℕ) → Shows texts is ps → Shows texts (Atom a ∷ is) (Text (text_at texts a) ∷ ps)
shows_text {texts = texts} a s = record { are = ap (λ (l : List Piece). Text (text_at texts a) ∷ l) s.are }

pub shows_both : {texts : List (List ℕ)} {is js : List Item} {ps qs : List Piece} → Shows texts is ps → Shows texts js qs → Shows texts (is ++ js) (ps ++ qs)
shows_both {texts = texts} {is = is} {js = js} s t = record { are = map-append (piece texts) is js ∙ ap₂ (λ (k l : List Piece). k ++ l) s.are t.are }

-- parts of which each gives the pieces of its value
pub shows_each : {A B : Type 0} (texts : List (List ℕ)) (f : A → List Item) (value : A → B) (part : B → List Piece) (P : A → Type 0) → ((x : A) → P x → Shows texts (f x) (part (value x)))
    → (xs : List A) → Each P xs → Shows texts (flat_map f xs) (flat_map part (map value xs))
shows_each texts f value part P same [] all = shows_none
shows_each texts f value part P same (x ∷ xs) all = shows_both (same x all.0) (shows_each texts f value part P same xs all.1)

shows_all : {A B : Type 0} (texts : List (List ℕ)) (f : A → List Item) (value : A → B) (part : B → List Piece) → ((x : A) → Shows texts (f x) (part (value x)))
    → (xs : List A) → Shows texts (flat_map f xs) (flat_map part (map value xs))
shows_all texts f value part same [] = shows_none
shows_all texts f value part same (x ∷ xs) = shows_both (same x) (shows_all texts f value part same xs)

pub shows_list : {A B : Type 0} (texts : List (List ℕ)) (f : A → List Item) (value : A → B) (part : B → List Piece) → ((x : A) → Shows texts (f x) (part (value x)))
    → (xs : List A) → Shows texts (image.list f xs) (list_pieces part (map value xs))
shows_list texts f value part same xs = record { are = ap₂ (λ (n : ℕ) (l : List Piece). Plain (le_bytes 4 n) ∷ l) (sym (length-map xs value)) (shows_all texts f value part same xs).are }

-- parts that are their own values
shows_own : {A : Type 0} (texts : List (List ℕ)) (f : A → List Item) (part : A → List Piece) → ((x : A) → Shows texts (f x) (part x)) → (xs : List A) → Shows texts (flat_map f xs) (flat_map part xs)
shows_own texts f part same [] = shows_none
shows_own texts f part same (x ∷ xs) = shows_both (same x) (shows_own texts f part same xs)

pub shows_same : {A : Type 0} (texts : List (List ℕ)) (f : A → List Item) (part : A → List Piece) → ((x : A) → Shows texts (f x) (part x)) → (xs : List A) → Shows texts (image.list f xs) (list_pieces part xs)
shows_same texts f part same xs = shows_bytes (le_bytes 4 (length xs)) (shows_own texts f part same xs)
