-- A track that was told a script, from nothing on: what was told is what the script tells, and its functions are those of the script.
use Rattle.std.proofs.Common.{◌≡◌, ◌+◌, ◌∙◌, None, List, [], ap, arith}
use Rattle.script_grammar.specs.Interpretation.{Interpretation}
use Rattle.script_grammar.specs.Lexeme.{Lexeme}
use Rattle.script_grammar.specs.Tree.{Stmts}
use Rattle.script_grammar.specs.Script.{IsScript}
use Rattle.parse_track.specs.Tells.{known_texts, tells_script}
use Rattle.parse_track.specs.Log.{Log, known_names, told_of}
use Rattle.parse_track.specs.Counted.{function_count, counted}
use Rattle.track_renaming_laws.specs.Renaming.{renamed_known}
use Rattle.track_renaming_laws.specs.Texts.{AreWithoutEquals, text_at, TellsOf}
use Rattle.script_grammar.specs.NameTokens.{NamesAreFull}
use Rattle.track_renaming_laws.proofs.Telling.{tells_of-renamed}
use Rattle.track_log_laws.specs.Spelled.{log_text, logged}
use Rattle.track_log_laws.proofs.Texts.{told_back}
use Rattle.track_log_laws.proofs.Counts.{counted-logged}

module _ (i : Interpretation) (old new : Log) (items : Stmts) (parts : old.parts ≡ []) (told : logged (tells_script items) (log_text i old) ≡ log_text i new) where
  -- From this the laws of track_renaming_laws give that `finish` answers the script's first early error and its closed names.
  pub script-tells : (w : List Lexeme) (next : Lexeme) → old.present ≡ None → AreWithoutEquals i.texts
      → renamed_known (text_at i.texts) (known_names new.known) ≡ known_texts → IsScript w next items → NamesAreFull w
      → TellsOf i.texts (known_names new.known) (told_of new.parts) items
  script-tells w next present once knows script full =
      tells_of-renamed i.texts (known_names new.known) (told_of new.parts) items w next once knows script full
      (told_back i old new (tells_script items) parts present tt told)

  -- what `functions` of the track answers
  pub script-functions : counted new.parts ≡ function_count (tells_script items)
  script-functions = counted-logged i old new (tells_script items) told ∙ ap (λ ps. counted ps + function_count (tells_script items)) parts ∙ omega arith
