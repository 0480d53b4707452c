use Rattle.std.proofs.Common.{ℕ, ◌<◌, ◌^◌, List, length, refl, sym, ◌∙◌, ap, subst, arith}
use Rattle.script_grammar.specs.Matching.{IsMatching, kinds_of}
use Rattle.script_grammar.specs.declared.token.Token.{Token}
use Rattle.parser_atoms.specs.Places.{AreWithoutEquals}
use Rattle.grammar_start_laws.specs.Own.{TokensRise}
use Rattle.script_grammar.specs.NameTokens.{NamesAreFull}
use Rattle.grammar_start_laws.proofs.Rising.{lexemes_rise}
use Rattle.scan_laws.proofs.FullNames.{names_are_full}
use Rattle.track_atoms.specs.Known.{HasWords}
use Rattle.track_atoms.proofs.Interning.{words_kept}
use Rattle.unit_text.specs.Points.{points}
use Rattle.parse_token_laws.proofs.ScannedTokens.{KnowsWords, are_scanned}
use Rattle.parse_script.proofs.AsciiFiles.{file_points_few}
use Rattle.parse_script.proofs.ReadLemmas.{has_some}
use Rattle.parse_script.proofs.FewTexts.{file_texts_few}
use Rattle.parse_script.proofs.SmallTexts.{file_texts_small}
use Rattle.parse_script.proofs.TokenLemmas.{file_tokens, file_atoms}
use Rattle.parse_script.proofs.file_tokens.tokens_of.Goals as goal

pub returns-clause-tokens : goal.returns-clause-tokens
returns-clause-tokens c =
    let words = words_kept c.known_words.new.atoms c.scan_file.new.atoms c.in_ok-known.known c.in_ok-tokens.ensures.keeps c.in_ok-known.ensures.words in
    let knows : KnowsWords c.scan_file.new.atoms c.in_ok-known.known.get c.in_ok-known.known.set = record { apart = c.into_texts-texts.ensures.apart; get_is = words.get; set_is = words.set } in
    file_tokens c.args.bytes.now (points c.args.bytes.now) (points c.args.bytes.now) (length c.args.bytes.now) c.scan_file.new.atoms c.into_texts-texts.result.items c.in_ok-tokens.tokens.items c.in_ok-known.known.get c.in_ok-known.known.set refl refl refl knows c.in_ok-tokens.ensures.tokens c.into_texts-texts.ensures.list

pub of-requires-clause-some : goal.of-requires-clause-some
of-requires-clause-some c = subst (λ (ts : List Token). 0 < length ts) (sym c.deref.ensures.value) (has_some c.in_ok-tokens.tokens.items c.in_ok-tokens.ensures.last)

pub of-requires-clause-few : goal.of-requires-clause-few
of-requires-clause-few c = subst (λ (ts : List Token). length ts < 2 ^ 32) (sym c.deref.ensures.value) (are_scanned (points c.args.bytes.now) 0 (length c.args.bytes.now) c.scan_file.new.atoms c.in_ok-tokens.tokens.items (subst (λ (ts : List (List ℕ)). length ts < 2 ^ 32) c.atoms-2.view_is c.atoms-2.invariant.few) (omega (arith, file_points_few c.args.bytes.now c.in_ok-tokens.ensures.utf8, c.requires)) c.in_ok-tokens.ensures.tokens c.in_ok-tokens.ensures.last).few

pub returns-clause-sound : goal.returns-clause-sound
returns-clause-sound c = record {
  scanned = are_scanned (points c.args.bytes.now) 0 (length c.args.bytes.now) c.scan_file.new.atoms c.in_ok-tokens.tokens.items (subst (λ (ts : List (List ℕ)). length ts < 2 ^ 32) c.atoms-2.view_is c.atoms-2.invariant.few) (omega (arith, file_points_few c.args.bytes.now c.in_ok-tokens.ensures.utf8, c.requires)) c.in_ok-tokens.ensures.tokens c.in_ok-tokens.ensures.last;
  last = c.in_ok-tokens.ensures.last;
  matched = subst (λ (ts : List Token). IsMatching (kinds_of ts) c.in_ok-brackets.brackets) c.deref.ensures.value c.in_ok-brackets.ensures;
  rise = subst (TokensRise 0) (sym (returns-clause-tokens c)) (lexemes_rise c.args.bytes.now);
  names = subst NamesAreFull (sym (returns-clause-tokens c)) (names_are_full c.args.bytes.now);
  apart = subst AreWithoutEquals (sym c.into_texts-texts.ensures.list) c.into_texts-texts.ensures.apart;
  few = file_texts_few (points c.args.bytes.now) (length c.args.bytes.now) c.known_words.new.atoms c.scan_file.new.atoms c.into_texts-texts.result.items c.in_ok-tokens.ensures.gains c.into_texts-texts.ensures.apart c.in_ok-known.ensures.few (omega (arith, file_points_few c.args.bytes.now c.in_ok-tokens.ensures.utf8, c.requires)) c.into_texts-texts.ensures.list;
  small = file_texts_small c.args.bytes.now (points c.args.bytes.now) c.known_words.new.atoms c.scan_file.new.atoms c.into_texts-texts.result.items c.in_ok-known.known refl c.in_ok-known.ensures.words c.in_ok-known.ensures.fixed c.in_ok-known.ensures.few c.in_ok-tokens.ensures.gains c.into_texts-texts.ensures.list c.requires;
  atoms = file_atoms (points c.args.bytes.now) (length c.args.bytes.now) c.scan_file.new.atoms c.into_texts-texts.result.items c.in_ok-tokens.tokens.items c.in_ok-tokens.ensures.tokens c.into_texts-texts.ensures.list;
  words = subst (λ (ts : List (List ℕ)). HasWords ts c.in_ok-known.known) (sym c.into_texts-texts.ensures.list) (words_kept c.known_words.new.atoms c.scan_file.new.atoms c.in_ok-known.known c.in_ok-tokens.ensures.keeps c.in_ok-known.ensures.words);
  fixed = c.in_ok-known.ensures.fixed;
}
