-- What the tokens of a file are read as, said of the file's bytes.
use Rattle.std.proofs.Common.{◌≡◌, ℕ, suc, List, [], ◌∷◌, ◌++◌, ap, ◌∙◌, subst}
use Rattle.std.specs.Str.{IsUtf8}
use Rattle.script_grammar.specs.Fault.{Refusal as Fault, FirstFault, ScriptPart}
use Rattle.script_grammar.specs.Lexeme.{Lexeme}
use Rattle.script_grammar.specs.NameTokens.{NamesAreFull}
use Rattle.script_grammar.specs.Pieces.{whole}
use Rattle.script_grammar.specs.Tree.{Stmts}
use Rattle.grammar_start_laws.specs.Own.{TokensRise}
use Rattle.script_scanner.specs.Lexemes.{lexemes}
use Rattle.parse_track.specs.declared.region.WellKnownAtoms.{WellKnownAtoms}
use Rattle.track_atoms.specs.Known.{HasWords}
use Rattle.parse_bodies.specs.Whole.{IsText}
use Rattle.parse_script.specs.declared.file_tokens.FileTokens.{FileTokens}
use Rattle.parse_script.specs.Tokens.{tokens_in, AreTokensOf, IsSound}
use Rattle.early_script_errors.specs.Told.{Knows, IsOf}
use Rattle.session_specs.specs.Sources.{IsRead}
use Rattle.session_specs.specs.Sources as source

pub text_of : (bytes : List ℕ) (items : Stmts) → IsRead bytes items → IsText (lexemes bytes) items
text_of bytes items r = record { inner = r.inner; end = r.end; split = r.split; ends = r.ends; script = r.script; shallow = r.shallow }

pub read_of : (bytes : List ℕ) (items : Stmts) → IsUtf8 bytes → IsText (lexemes bytes) items → IsRead bytes items
read_of bytes items utf8 t = record { utf8 = utf8; inner = t.inner; end = t.end; split = t.split; ends = t.ends; script = t.script; shallow = t.shallow }

-- the tree of a file
pub script_read : (file : FileTokens) (size : ℕ) (bytes : List ℕ) (items : Stmts) → AreTokensOf file size bytes → IsText (tokens_in file) items → IsRead bytes items
script_read file size bytes items t text = read_of bytes items t.utf8 (subst (λ (ts : List Lexeme). IsText ts items) t.tokens text)

-- a fault of the tokens is one of the file
pub fault_of : (file : FileTokens) (size : ℕ) (bytes : List ℕ) (why : Fault) (token offset : ℕ) → AreTokensOf file size bytes → FirstFault (ScriptPart whole 0) (tokens_in file) token why → offset ≡ source.start_of (tokens_in file) token → source.FaultAt bytes why offset
fault_of file size bytes why token offset t first place = record {
  utf8 = t.utf8;
  token = token;
  first = subst (λ (ts : List Lexeme). FirstFault (ScriptPart whole 0) ts token why) t.tokens first;
  place = place ∙ ap (λ (ts : List Lexeme). source.start_of ts token) t.tokens;
}

-- a front of tokens whose starts rise, and whose names are not empty

rise_front : (ts us : List Lexeme) (from : ℕ) → TokensRise from (ts ++ us) → TokensRise from ts
rise_front [] us from h = tt
rise_front (t ∷ ts) us from h = (h.0, rise_front ts us (suc t.start) h.1)

names_front : (ts us : List Lexeme) → NamesAreFull (ts ++ us) → NamesAreFull ts
names_front [] us h = tt
names_front (t ∷ ts) us h = (h.0, names_front ts us h.1)

pub names_of_text : (file : FileTokens) (items : Stmts) → IsSound file → (text : IsText (tokens_in file) items) → NamesAreFull text.inner
names_of_text file items sound text = names_front text.inner (text.end ∷ []) (subst NamesAreFull text.split sound.names)

-- of the known words, those that errors ask for
pub knows_of : (texts : List (List ℕ)) (known : WellKnownAtoms) → HasWords texts known → Knows texts known
knows_of texts known h = record { eval = h.eval; arguments = h.arguments; this = h.this; proto = h.proto; strict = h.strict }

-- the tree is that of a script of the file
pub of_file : (file : FileTokens) (items : Stmts) → IsSound file → IsText (tokens_in file) items → IsOf file.texts.items file.known items
of_file file items sound text = record {
  tokens = text.inner;
  end = text.end;
  script = text.script;
  rise = rise_front text.inner (text.end ∷ []) 0 (subst (TokensRise 0) text.split sound.rise);
  names = names_of_text file items sound text;
  once = sound.apart;
  knows = knows_of file.texts.items file.known sound.words;
}
