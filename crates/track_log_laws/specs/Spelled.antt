-- The log of a track with texts in place of atoms, and what it becomes where more is told.
use Rattle.std.specs.Prelude.{ℕ, zero, suc, Option, None, Some, List, [], ◌∷◌, ◌++◌, length, map, option_map}
use Rattle.script_grammar.specs.Interpretation.{Interpretation, text_of}
use Rattle.parse_track.specs.Told as told
use Rattle.parse_track.specs.Told.{Told, nothing, leaf, inner}
use Rattle.parse_track.specs.Log.{Item, Leaf, Inner, Part, Log, region_of}
use Rattle.parse_track.specs.Tells.{Text}

pub data TextItem : Type 0 where
  TextLeaf : told.Leaf Text → TextItem
  TextInner : ℕ → TextItem

pub record TextPart : Type 0 where
  pub kind : told.Region Text
  pub at : ℕ
  pub around : Option ℕ
  pub items : List TextItem

pub record TextLog : Type 0 where
  pub parts : List TextPart
  pub present : Option ℕ

-- the same with the texts that an interpretation gives
module _ (i : Interpretation) where
  abbrev pub name_text : told.Name ℕ → told.Name Text
  name_text name = record { name = text_of i name.name; at = name.at }

  abbrev pub region_text : told.Region ℕ → told.Region Text
  region_text told.Script = told.Script
  region_text told.Function = told.Function
  region_text told.Arrow = told.Arrow
  region_text (told.Lambda name) = told.Lambda (name_text name)
  region_text told.Block = told.Block
  region_text told.Switch = told.Switch
  region_text told.ForHead = told.ForHead
  region_text told.Catch = told.Catch
  region_text told.Loop = told.Loop
  region_text (told.Label name) = told.Label (name_text name)
  region_text told.VarBody = told.VarBody

  abbrev pub leaf_text : told.Leaf ℕ → told.Leaf Text
  leaf_text (told.Declared how name) = told.Declared how (name_text name)
  leaf_text (told.Used name) = told.Used (text_of i name)
  leaf_text (told.Jumped word at label) = told.Jumped word at (option_map name_text label)

  abbrev pub item_text : Item → TextItem
  item_text (Leaf l) = TextLeaf (leaf_text l)
  item_text (Inner n) = TextInner n

  abbrev pub part_text : Part → TextPart
  part_text part = record { kind = region_text (region_of part.kind); at = part.at; around = part.around; items = map item_text part.items }

  abbrev pub log_text : Log → TextLog
  log_text log = record { parts = map part_text log.parts; present = log.present }

-- an item more at the end of a region
abbrev pub put : TextItem → ℕ → List TextPart → List TextPart
put item n [] = []
put item zero (p ∷ ps) = record p { items = p.items ++ item ∷ [] } ∷ ps
put item (suc n) (p ∷ ps) = p ∷ put item n ps

abbrev pub put_in : Option ℕ → TextItem → List TextPart → List TextPart
put_in None item parts = parts
put_in (Some n) item parts = put item n parts

-- a leaf more in the present region
abbrev pub with_text : TextLog → told.Leaf Text → TextLog
with_text log l = record { parts = put_in log.present (TextLeaf l) log.parts; present = log.present }

-- a region inside the present one, which becomes the present one
abbrev pub opened : TextLog → told.Region Text → ℕ → TextLog
opened log kind at = record {
  parts = put_in log.present (TextInner (length log.parts)) log.parts ++ record { kind = kind; at = at; around = log.present; items = [] } ∷ [];
  present = Some (length log.parts);
}

-- The log after more is told, put after what the present region has; the regions inside get the numbers from the number of
-- regions on, and after each the present region is the one of before.
abbrev pub logged : Told Text → TextLog → TextLog
logged nothing log = log
logged (leaf l t) log = logged t (with_text log l)
logged (inner kind at inside t) log = logged t (record { parts = (logged inside (opened log kind at)).parts; present = log.present })
