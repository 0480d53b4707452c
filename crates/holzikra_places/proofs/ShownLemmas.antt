-- What is shown of a text, character by character.
use Rattle.std.proofs.Common.{◌≡◌, ℕ, List, [], ◌∷◌, ◌++◌, length, IsUtf8, encode_utf8, sym, ◌∙◌, ap, append_assoc, append-nil}
use Rattle.std.specs.Str.{chars}
use Rattle.std.proofs.lemmas.Str.{chars_past_char, chars-nil}
use Rattle.holzikra_places.specs.Shown.{shown, shown_all}

pub shown_step : (a b text rest whole : List ℕ) (c : ℕ) → IsUtf8 text → text ≡ encode_utf8 c ++ rest → b ≡ a ++ shown c
    → a ++ shown_all (chars text) ≡ whole → b ++ shown_all (chars rest) ≡ whole
shown_step a b text rest whole c utf8 parts is held =
    ap (λ l. l ++ shown_all (chars rest)) is ∙ append_assoc a (shown c) (shown_all (chars rest))
    ∙ sym (ap (λ l. a ++ shown_all l) (chars_past_char text rest c utf8 parts)) ∙ held

pub shown_end : (a rest whole : List ℕ) → length rest ≡ 0 → a ++ shown_all (chars rest) ≡ whole → a ≡ whole
shown_end a [] whole none held = sym (append-nil a) ∙ sym (ap (λ l. a ++ shown_all l) chars-nil) ∙ held
shown_end a (b ∷ bs) whole none held = absurd (cc)
