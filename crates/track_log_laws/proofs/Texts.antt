-- The regions of a log may be put together, and its atoms read as texts, in either order.
use Rattle.std.proofs.Common.{◌≡◌, ℕ, ◌+◌, zero, suc, Option, None, Some, List, [], ◌∷◌, ◌++◌, length, map, option_map, slice_get, refl, sym, ap, ◌∙◌}
use Rattle.std.proofs.lemmas.List.{length-map}
use Rattle.std.proofs.lemmas.Option.{slice_get-map}
use Rattle.script_grammar.specs.Interpretation.{Interpretation}
use Rattle.parse_track.specs.Told as told
use Rattle.parse_track.specs.Told.{Told, nothing, leaf, inner}
use Rattle.parse_track.specs.Tells.{Text}
use Rattle.parse_track.specs.Log as log
use Rattle.parse_track.specs.Log.{Log, Item, Part, told_items, told_region, told_of, region_of}
use Rattle.track_renaming_laws.specs.Renaming.{renamed, renamed_region, renamed_leaf}
use Rattle.track_renaming_laws.specs.Texts.{text_at}
use Rattle.track_log_laws.specs.Spelled.{TextItem, TextInner, region_text, leaf_text, item_text, part_text, log_text, logged}
use Rattle.track_log_laws.specs.Reading.{kind_of, at_of, items_of, read_items, read_region, outermost_if, outermost, read_back, IsOfRegions}
use Rattle.track_log_laws.proofs.Reading.{inner_same, read_back-logged}

module _ (i : Interpretation) where
  region_read : (kind : told.Region ℕ) → renamed_region (text_at i.texts) kind ≡ region_text i kind
  region_read told.Script = refl
  region_read told.Function = refl
  region_read told.Arrow = refl
  region_read (told.Lambda name) = refl
  region_read told.Block = refl
  region_read told.Switch = refl
  region_read told.ForHead = refl
  region_read told.Catch = refl
  region_read told.Loop = refl
  region_read (told.Label name) = refl
  region_read told.VarBody = refl

  leaf_read : (l : told.Leaf ℕ) → renamed_leaf (text_at i.texts) l ≡ leaf_text i l
  leaf_read (told.Declared how name) = refl
  leaf_read (told.Used name) = refl
  leaf_read (told.Jumped word at None) = refl
  leaf_read (told.Jumped word at (Some name)) = refl

  kind_read : (part : Option Part) → renamed_region (text_at i.texts) (log.kind_of part) ≡ kind_of (option_map (part_text i) part)
  kind_read None = refl
  kind_read (Some part) = region_read (region_of part.kind)

  at_read : (part : Option Part) → log.at_of part ≡ at_of (option_map (part_text i) part)
  at_read None = refl
  at_read (Some part) = refl

  items_kept : (part : Option Part) → map (item_text i) (log.items_of part) ≡ items_of (option_map (part_text i) part)
  items_kept None = refl
  items_kept (Some part) = refl

  items_read : (parts : List Part) (inside : ℕ → Told ℕ) (there : ℕ → Told Text) → ((n : ℕ) → renamed (text_at i.texts) (inside n) ≡ there n)
      → (items : List Item) → renamed (text_at i.texts) (told_items parts inside items) ≡ read_items (map (part_text i) parts) there (map (item_text i) items)
  items_read parts inside there h [] = refl
  items_read parts inside there h (log.Leaf l ∷ items) =
      ap (λ x. leaf x (renamed (text_at i.texts) (told_items parts inside items))) (leaf_read l)
      ∙ ap (leaf (leaf_text i l)) (items_read parts inside there h items)
  items_read parts inside there h (log.Inner n ∷ items) =
      let here : option_map (part_text i) (slice_get parts n) ≡ slice_get (map (part_text i) parts) n = sym (slice_get-map (part_text i) parts n) in
      inner_same (renamed_region (text_at i.texts) (log.kind_of (slice_get parts n))) (log.at_of (slice_get parts n)) (renamed (text_at i.texts) (inside n)) (renamed (text_at i.texts) (told_items parts inside items))
      (kind_of (slice_get (map (part_text i) parts) n)) (at_of (slice_get (map (part_text i) parts) n)) (there n) (read_items (map (part_text i) parts) there (map (item_text i) items))
      (kind_read (slice_get parts n) ∙ ap kind_of here)
      (at_read (slice_get parts n) ∙ ap at_of here)
      (h n)
      (items_read parts inside there h items)

  inside_read : (room : ℕ) (parts : List Part) (n : ℕ) → renamed (text_at i.texts) (told_region room parts n) ≡ read_region room (map (part_text i) parts) n
  unfolding told_region read_region
  inside_read zero parts n = refl
  inside_read (suc room) parts n =
      items_read parts (told_region room parts) (read_region room (map (part_text i) parts)) (inside_read room parts) (log.items_of (slice_get parts n))
      ∙ ap (read_items (map (part_text i) parts) (read_region room (map (part_text i) parts)))
      (items_kept (slice_get parts n) ∙ ap items_of (sym (slice_get-map (part_text i) parts n)))

  outermost_one : (n : ℕ) (around : Option ℕ) (items : List Item) (there : List TextItem) → map (item_text i) items ≡ there
      → map (item_text i) (log.outermost_if n around ++ items) ≡ outermost_if n around ++ there
  outermost_one n None items there e = ap (λ xs. TextInner n ∷ xs) e
  outermost_one n (Some _) items there e = e

  outermost_read : (n : ℕ) (parts : List Part) → map (item_text i) (log.outermost n parts) ≡ outermost n (map (part_text i) parts)
  outermost_read n [] = refl
  outermost_read n (part ∷ parts) = outermost_one n part.around (log.outermost (n + 1) parts) (outermost (n + 1) (map (part_text i) parts)) (outermost_read (n + 1) parts)

  pub told_of-texts : (parts : List Part) → renamed (text_at i.texts) (told_of parts) ≡ read_back (map (part_text i) parts)
  told_of-texts parts =
      items_read parts (told_region (length parts) parts) (read_region (length parts) (map (part_text i) parts)) (inside_read (length parts) parts) (log.outermost 0 parts)
      ∙ (ap (read_items (map (part_text i) parts) (read_region (length parts) (map (part_text i) parts))) (outermost_read 0 parts)
      ∙ ap (λ room. read_items (map (part_text i) parts) (read_region room (map (part_text i) parts)) (outermost 0 (map (part_text i) parts))) (sym (length-map parts (part_text i))))

  -- What was told to a track that was told nothing before, its atoms read as texts, is what the log says that it was told.
  pub told_back : (old new : Log) (t : Told Text) → old.parts ≡ [] → old.present ≡ None → IsOfRegions t → logged t (log_text i old) ≡ log_text i new
      → renamed (text_at i.texts) (told_of new.parts) ≡ t
  told_back old new t p q o e =
      let empty : log_text i old ≡ record { parts = []; present = None } =
      ap (λ ps. record { parts = map (part_text i) ps; present = old.present }) p ∙ ap (λ at. record { parts = []; present = at }) q in
      told_of-texts new.parts ∙ (ap (λ l. read_back l.parts) (sym e) ∙ (ap (λ l. read_back (logged t l).parts) empty ∙ read_back-logged t o))
