-- Stencils with one image have the same codes but for the numbers of texts.
use Rattle.std.proofs.Common.{◌≡◌, ℕ, List, [], ◌∷◌, ◌++◌, length, map, refl, sym, ◌∙◌, ap, ap₂, subst}
use Rattle.stencil_data.specs.declared.stencils.Entry.{Entry}
use Rattle.stencil_data.specs.declared.stencils.Entry.TheVariants as entry
use Rattle.stencil_data.specs.MergedView.{MergedView}
use Rattle.stencil_data.specs.Views.{FunctionView}
use Rattle.bytecode_buf.specs.declared.opcode.Shape.{Shape}
use Rattle.bytecode_buf.specs.declared.opcode.Shape.TheVariants as shape
use Rattle.bytecode_buf.specs.Layout.{Numbered, instructions, IsWhole}
use Rattle.bytecode_buf.specs.Width.{shape_of}
use Rattle.stencil_xdr_specs.specs.Image.{IsImageOf}
use Rattle.bytecode_buf.specs.Verdicts.{Soundness, IsVerified}
use Rattle.stencil_xdr_read.specs.Reading.{Each}
use Rattle.stencil_xdr_read.specs.UniqueWhole.{unique_stencils}
use Rattle.stencil_xdr_read.proofs.Items.{WholeEntry}
use Rattle.stencil_xdr_read.proofs.Renamed.{AreSmall, renamed_by, renamed_instruction, renamed_code, renamed_function, renamed_entry, renamed_instructions}
use Rattle.stencil_xdr_read.proofs.Anew.{entries_whole}
use Rattle.stencil_xdr_read.proofs.Complete.{anew, canonical_of, anew_small, canonical_fits, canonical_bytes}
use Rattle.session_images.specs.Agree.{textless, without_text, CodesAgree, PartsAgree, EntriesAgree, StencilsAgree, EntriesVerified}
use Rattle.session_images.proofs.SameSteps.{codes_back, codes_both}
use Rattle.session_images.proofs.SameVerdict.{parts_verdict}

-- ---- texts numbered anew

instruction_anew : (N : ℕ → ℕ) (s : Shape) (i : Numbered) → shape_of i.op ≡ s → without_text (renamed_by s N i) ≡ without_text i
instruction_anew N shape.Atom i e =
    ap (λ (n : ℕ). let j : Numbered = record { op = i.op; a = n; b = i.b } in j)
    (ap (λ (s : Shape). textless s (N i.a)) e ∙ sym (ap (λ (s : Shape). textless s i.a) e))
instruction_anew N _ i e = refl

instructions_anew : (N : ℕ → ℕ) (is : List Numbered) → map without_text (map (renamed_instruction N) is) ≡ map without_text is
instructions_anew N [] = refl
instructions_anew N (i ∷ is) = ap₂ (λ (j : Numbered) (js : List Numbered). j ∷ js) (instruction_anew N (shape_of i.op) i refl) (instructions_anew N is)

code_anew : (N : ℕ → ℕ) (code : List ℕ) → AreSmall N → IsWhole code → CodesAgree code (renamed_code N code)
code_anew N code small whole = record { are = sym (ap (map without_text) (renamed_instructions N code small whole) ∙ instructions_anew N (instructions code)) }

-- ---- one numbering

module _ (N M : ℕ → ℕ) (small : AreSmall N) (others : AreSmall M) where
  codes_agree : (code other : List ℕ) → IsWhole code → IsWhole other → renamed_code N code ≡ renamed_code M other → CodesAgree code other
  codes_agree code other h k e = codes_both code (renamed_code N code) other (code_anew N code small h) (subst (λ (c : List ℕ). CodesAgree c other) (sym e) (codes_back other (renamed_code M other) (code_anew M other others k)))

  parts_agree : (f g : FunctionView) → IsWhole f.code → IsWhole g.code → renamed_function N f ≡ renamed_function M g → PartsAgree f g
  parts_agree f g h k e = record { codes = codes_agree f.code g.code h k (ap (λ (x : FunctionView). x.code) e); notes = ap (λ (x : FunctionView). x.notes) e }

  entries_agree : (es os : List Entry) → Each WholeEntry es → Each WholeEntry os → map (renamed_entry N) es ≡ map (renamed_entry M) os → EntriesAgree es os
  entries_agree [] [] h k e = tt
  entries_agree [] (o ∷ os) h k e = cc
  entries_agree (x ∷ es) [] h k e = cc
  entries_agree (entry.Lazy ∷ es) (entry.Lazy ∷ os) h k e = entries_agree es os h.1 k.1 (cc)
  entries_agree (entry.Lazy ∷ es) (entry.Compiled g ∷ os) h k e = cc
  entries_agree (entry.Compiled f ∷ es) (entry.Lazy ∷ os) h k e = cc
  entries_agree (entry.Compiled f ∷ es) (entry.Compiled g ∷ os) h k e =
      let first : renamed_function N f ≡ renamed_function M g = cc in
      let rest : map (renamed_entry N) es ≡ map (renamed_entry M) os = cc in (parts_agree f g h.0 k.0 first, entries_agree es os h.1 k.1 rest)

-- two stencils with one image are one once their texts are numbered as in it
one_numbering : (m other : MergedView) (bytes : List ℕ) → IsImageOf m bytes → IsImageOf other bytes → canonical_of m ≡ canonical_of other
one_numbering m other bytes i j =
    (unique_stencils (canonical_of m) (canonical_of other) [] [] (canonical_fits m bytes i) (canonical_fits other bytes j)
    (ap (λ (l : List ℕ). l ++ []) (sym (canonical_bytes m bytes i) ∙ canonical_bytes other bytes j))).0

all_whole : (m : MergedView) (bytes : List ℕ) → IsImageOf m bytes → Each WholeEntry m.entries
all_whole m bytes i = entries_whole (length m.texts) (length m.records) m.records m.records m.entries i.range.entries

pub image_codes_agree : (m other : MergedView) (bytes : List ℕ) → IsImageOf m bytes → IsImageOf other bytes → StencilsAgree m other
image_codes_agree m other bytes i j =
    let e = one_numbering m other bytes i j in
    let small = anew_small m i.range in
    let others = anew_small other j.range in record {
      top = parts_agree (anew m) (anew other) small others m.top other.top i.range.top.range.code.whole j.range.top.range.code.whole (ap (λ (x : MergedView). x.top) e);
      entries = entries_agree (anew m) (anew other) small others m.entries other.entries (all_whole m bytes i) (all_whole other bytes j) (ap (λ (x : MergedView). x.entries) e);
    }

-- ---- verdicts

pub top_verdict : (m other : MergedView) (bytes : List ℕ) (s : Soundness) → IsImageOf m bytes → IsImageOf other bytes → IsVerified m.top.code m.top.notes s → IsVerified other.top.code other.top.notes s
top_verdict m other bytes s i j v = parts_verdict m.top other.top s (image_codes_agree m other bytes i j).top v

entries_verified : (es os : List Entry) → EntriesAgree es os → EntriesVerified es os
entries_verified [] [] h = tt
entries_verified [] (o ∷ os) h = absurd h
entries_verified (e ∷ es) [] h = absurd h
entries_verified (entry.Lazy ∷ es) (entry.Lazy ∷ os) h = entries_verified es os h
entries_verified (entry.Lazy ∷ es) (entry.Compiled g ∷ os) h = absurd h
entries_verified (entry.Compiled f ∷ es) (entry.Lazy ∷ os) h = absurd h
entries_verified (entry.Compiled f ∷ es) (entry.Compiled g ∷ os) h = (λ s v. parts_verdict f g s h.0 v, entries_verified es os h.1)

pub entry_verdicts : (m other : MergedView) (bytes : List ℕ) → IsImageOf m bytes → IsImageOf other bytes → EntriesVerified m.entries other.entries
entry_verdicts m other bytes i j = entries_verified m.entries other.entries (image_codes_agree m other bytes i j).entries
