-- What was told with atoms, read as its texts, is what a script tells.
use Rattle.std.proofs.Common.{◌≡◌, ℕ, List, refl}
use Rattle.script_grammar.specs.Lexeme.{Lexeme}
use Rattle.script_grammar.specs.Tree.{Stmts}
use Rattle.script_grammar.specs.Script.{IsScript}
use Rattle.parse_track.specs.Told.{Told, KnownNames}
use Rattle.parse_track.specs.Tells.{Text, known_texts, tells_script}
use Rattle.track_renaming_laws.specs.Renaming.{rewritten, renamed, renamed_known}
use Rattle.track_renaming_laws.specs.Starts.{if_function}
use Rattle.track_renaming_laws.specs.Texts.{AreWithoutEquals, text_at, TellsOf}
use Rattle.script_grammar.specs.NameTokens.{NamesAreFull}
use Rattle.track_renaming_laws.proofs.Standing.{alike_by_texts, knows_by_texts}
use Rattle.track_renaming_laws.proofs.Written.{script-written}

module _ (texts : List Text) (known : KnownNames ℕ) (t : Told ℕ) (items : Stmts) (w : List Lexeme) (next : Lexeme)
    (once : AreWithoutEquals texts) (knows : renamed_known (text_at texts) known ≡ known_texts) (script : IsScript w next items) (full : NamesAreFull w) where
  -- with the offsets of all regions
  pub tells_of-renamed : renamed (text_at texts) t ≡ tells_script items → TellsOf texts known t items
  tells_of-renamed e = record {
    once = once;
    knows = knows_by_texts texts known knows;
    alike = alike_by_texts texts (λ k at. at) (λ at. refl) (λ at. refl) t (tells_script items) e (script-written w next items script full);
  }

  -- with the offsets of functions, and 0 for all other regions
  pub tells_of-functions : rewritten (text_at texts) if_function t ≡ tells_script items → TellsOf texts known t items
  tells_of-functions e = record {
    once = once;
    knows = knows_by_texts texts known knows;
    alike = alike_by_texts texts if_function (λ at. refl) (λ at. refl) t (tells_script items) e (script-written w next items script full);
  }
