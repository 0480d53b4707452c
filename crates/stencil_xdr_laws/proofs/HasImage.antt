-- A small value that a stencil stands for has an image, though the stencil itself need not be in range.
use Rattle.std.proofs.Common.{◌+◌, ◌^◌, ◌<◌, List, length, map, sym}
use Rattle.stencil_data.specs.MergedView.{MergedView}
use Rattle.stencil_data.specs.Named.{NamedMerged}
use Rattle.stencil_data.specs.StandsFor.{MergedStandsFor}
use Rattle.bytecode_buf.specs.Command.{Command, ShowsCommands}
use Rattle.bytecode_buf.specs.InRange.{InRange, TextsSmall}
use Rattle.stencil_xdr_specs.specs.Widths.{RecordFits, EntryFits, NumbersFit}
use Rattle.script_image.specs.ScriptLines.{listed_merged}
use Rattle.stencil_xdr_laws.specs.Sizes.{MergedSmall}
use Rattle.stencil_xdr_laws.specs.Texts.{CodesStand}
use Rattle.stencil_xdr_laws.proofs.Standing.{stencil_in_range}
use Rattle.session_image_specs.specs.Images.{IsImage}
use Rattle.stencil_xdr_read.proofs.Anew.{all_each}
use Rattle.stencil_xdr_read.proofs.Ranges.{each_all}
use Rattle.stencil_xdr_read.proofs.Renamed.{renamed, renamed_record, renamed_entry}
use Rattle.stencil_xdr_laws.specs.Bytes.{EntryOfBytes, CodesOfBytes}
use Rattle.stencil_xdr_laws.specs.Pieces.{image_of}
use Rattle.stencil_xdr_laws.proofs.HeldCode.{are_bytes}
use Rattle.stencil_xdr_laws.proofs.NewTexts.{new_texts, new_number, new_texts_stand, new_texts_fit, names_same}
use Rattle.stencil_xdr_laws.proofs.NewCode.{code_stands}
use Rattle.stencil_xdr_laws.proofs.NewParts.{function_stands_same, records_stand_same, entries_stand_same, entries_stand, function_fits, records_fit, entries_fit}
use Rattle.stencil_xdr_laws.proofs.OneImage.{image_of_script}

-- the stencil with its texts anew and with nothing in its codes but their whole instructions
abbrev pub made_anew : MergedView → MergedView
made_anew m = renamed (new_number m.texts) (new_texts m.texts) m

pub anew_stands : (m : MergedView) (n : NamedMerged (List Command)) → MergedStandsFor ShowsCommands m n → CodesOfBytes m → length m.texts + 1 < 2 ^ 32 → MergedStandsFor ShowsCommands (made_anew m) n
anew_stands m n s bytes few = record {
  top = function_stands_same (names_same m.texts few) m.top n.top bytes.top s.top;
  records = records_stand_same (names_same m.texts few) m.records n.records s.records;
  entries = entries_stand_same (names_same m.texts few) m.entries n.entries (all_each EntryOfBytes m.entries bytes.entries) s.entries;
}

pub anew_codes_stand : (m : MergedView) → CodesOfBytes m → length m.texts + 1 < 2 ^ 32 → CodesStand (made_anew m)
anew_codes_stand m bytes few = record {
  top = code_stands (names_same m.texts few) m.top.code (are_bytes m.top.code bytes.top);
  entries = entries_stand (names_same m.texts few) m.entries (all_each EntryOfBytes m.entries bytes.entries);
}

pub anew_in_range : (m : MergedView) (n : NamedMerged (List Command)) → MergedStandsFor ShowsCommands m n → CodesOfBytes m → MergedSmall n → length m.texts + 1 < 2 ^ 32 → TextsSmall m.texts → InRange (made_anew m)
anew_in_range m n s bytes small few short = stencil_in_range (made_anew m) n (anew_stands m n s bytes few) small (new_texts_stand m.texts few short) (anew_codes_stand m bytes few)

pub anew_fits : (m : MergedView) → CodesOfBytes m → length m.texts + 1 < 2 ^ 32 → NumbersFit m → NumbersFit (made_anew m)
anew_fits m bytes few fit = record {
  texts = new_texts_fit m.texts fit.texts;
  top = function_fits (names_same m.texts few) m.top bytes.top fit.top;
  records = each_all RecordFits (map (renamed_record (new_number m.texts)) m.records)
      (records_fit (names_same m.texts few) m.records (all_each RecordFits m.records fit.records));
  entries = each_all EntryFits (map (renamed_entry (new_number m.texts)) m.entries)
      (entries_fit (names_same m.texts few) m.entries (all_each EntryOfBytes m.entries bytes.entries) (all_each EntryFits m.entries fit.entries));
}

-- the image is the one that is written of the value
pub small_value_has_image : (m : MergedView) (n : NamedMerged (List Command)) → MergedStandsFor ShowsCommands m n → CodesOfBytes m → MergedSmall n → length m.texts + 1 < 2 ^ 32 → TextsSmall m.texts → NumbersFit m → IsImage n (image_of (listed_merged n))
small_value_has_image m n s bytes small few short fit = record {
  stencil = made_anew m;
  stands = anew_stands m n s bytes few;
  is = record {
    range = anew_in_range m n s bytes small few short;
    widths = anew_fits m bytes few fit;
    is = sym (image_of_script (made_anew m) n (anew_in_range m n s bytes small few short) (anew_stands m n s bytes few));
  };
}
