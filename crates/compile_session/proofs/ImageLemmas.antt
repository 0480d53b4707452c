-- Images: what is printed is the answer, and there is one.
use Rattle.std.proofs.Common.{◌≡◌, ℕ, false, List, ◌++◌, inl, inr, ap, sym, ◌∙◌}
use Rattle.stencil_data.specs.Named.{NamedMerged}
use Rattle.bytecode_buf.specs.Command.{Listed}
use Rattle.script_image.specs.ScriptLines.{code_text}
use Rattle.session_image_specs.specs.Images.{IsImageFor, IsNoImage, AreVerifiedLines}
use Rattle.session_images.proofs.OneListing.{one_image_one_listing}
use Rattle.session_images.proofs.OneVerdict.{one_image_one_verdict}
use Rattle.session_words.specs.declared.options.Command.TheVariants as command
use Rattle.session_words.specs.Asked.{Wanted}
use Rattle.session_specs.specs.Answer.{RefusedAs, file_line}
use Rattle.session_specs.specs.Refusals as line
use Rattle.compile_session.specs.declared.answer.FileAnswer.{FileAnswer}
use Rattle.compile_session.specs.Answers.{IsAnswerFor}

pub loads : (want : Wanted) (name file front : List ℕ) (answer : FileAnswer) → front ≡ file_line name → ((merged : NamedMerged (List Listed)) × IsImageFor file merged × (answer.text ≡ front ++ code_text merged)) → answer.refused ≡ false
    → IsAnswerFor command.Load want name file answer
loads want name file front answer begins listed fine = record {
  is = inl (record { merged = listed.0; is = listed.1; listed = printed; fine = fine });
  only = λ other r o. elim o [
    | inl l ↦ (
      l.listed ∙ ap (λ (m : NamedMerged (List Listed)). file_line name ++ code_text m) (one_image_one_listing file l.merged listed.0 l.is listed.1) ∙ sym printed,
      l.fine ∙ sym fine,
    )
    | inr n ↦ absurd (n.0 listed.1.stencil listed.1.is)
  ];
}
  where
    printed : answer.text ≡ file_line name ++ code_text listed.0
    printed = listed.2 ∙ ap (λ (l : List ℕ). l ++ code_text listed.0) begins

pub verifies : (want : Wanted) (name file front : List ℕ) (answer : FileAnswer) → front ≡ file_line name → ((lines : List ℕ) × AreVerifiedLines file lines answer.refused × (answer.text ≡ front ++ lines)) → IsAnswerFor command.Verify want name file answer
verifies want name file front answer begins checked = record {
  is = inl (record { lines = checked.0; verified = checked.1; written = printed });
  only = λ other r o. elim o [
    | inl l ↦
        let e = one_image_one_verdict file l.lines checked.0 r answer.refused l.verified checked.1 in
        (l.written ∙ ap (λ (x : List ℕ). file_line name ++ x) e.0 ∙ sym printed, e.1)
    | inr n ↦ absurd (n.0 checked.1.stencil checked.1.is)
  ];
}
  where
    printed : answer.text ≡ file_line name ++ checked.0
    printed = checked.2 ∙ ap (λ (l : List ℕ). l ++ checked.0) begins

pub loads_none : (want : Wanted) (name file : List ℕ) (answer : FileAnswer) → IsNoImage file → RefusedAs name line.NoImage answer.text answer.refused → IsAnswerFor command.Load want name file answer
loads_none want name file answer none said = record {
  is = inr (none, said);
  only = λ other r o. elim o [
    | inl l ↦ absurd (none l.is.stencil l.is.is)
    | inr n ↦ (n.1.0 ∙ sym said.0, n.1.1 ∙ sym said.1)
  ];
}

pub verifies_none : (want : Wanted) (name file : List ℕ) (answer : FileAnswer) → IsNoImage file → RefusedAs name line.NoImage answer.text answer.refused → IsAnswerFor command.Verify want name file answer
verifies_none want name file answer none said = record {
  is = inr (none, said);
  only = λ other r o. elim o [
    | inl l ↦ absurd (none l.verified.stencil l.verified.is)
    | inr n ↦ (n.1.0 ∙ sym said.0, n.1.1 ∙ sym said.1)
  ];
}
