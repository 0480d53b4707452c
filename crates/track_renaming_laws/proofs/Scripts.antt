-- The early error and the closed names of a script, by the atoms of its names.
use Rattle.std.proofs.Common.{◌≡◌, ℕ, nat_eq, List, map, sym, ap, ◌∙◌}
use Rattle.std.specs.Str.{bytes_eq}
use Rattle.script_grammar.specs.Tree.{Stmts}
use Rattle.parse_track.specs.Told.{Told, KnownNames}
use Rattle.parse_track.specs.EarlyErrors.{first_error}
use Rattle.parse_track.specs.ClosedNames.{closed}
use Rattle.parse_track.specs.Tells.{Text, known_texts, tells_script}
use Rattle.parse_track.specs.Notes.{first_note, notes_stmts, early_error, closed_names}
use Rattle.parse_track.specs.Log.{Log, known_names, told_of}
use Rattle.track_renaming_laws.specs.Renaming.{renamed_bound}
use Rattle.track_renaming_laws.specs.Texts.{StandsAt, text_at, TellsOf}
use Rattle.track_renaming_laws.proofs.ToldAlike.{first_error-alike, closed-alike}
use Rattle.track_renaming_laws.proofs.Occurring.{bounds_read}
use Rattle.track_renaming_laws.proofs.Standing.{stands_read, one_to_one}
use Rattle.track_renaming_laws.proofs.Around.{script-around}

-- The first early error of a script is that of what was told with atoms for names.
pub early_error-by_atoms : (texts : List Text) (known : KnownNames ℕ) (t : Told ℕ) (items : Stmts) → TellsOf texts known t items
    → early_error items ≡ first_error nat_eq known (first_note (notes_stmts items)) t
early_error-by_atoms texts known t items h =
    first_error-alike (StandsAt texts) nat_eq bytes_eq (one_to_one texts h.once) known known_texts h.knows t (tells_script items) h.alike (first_note (notes_stmts items))

-- The closed names of a script are those of what was told with atoms for names, each atom read as its text.
pub closed_names-by_atoms : (texts : List Text) (known : KnownNames ℕ) (t : Told ℕ) (items : Stmts) → TellsOf texts known t items
    → closed_names items ≡ map (renamed_bound (text_at texts)) (closed nat_eq known t)
closed_names-by_atoms texts known t items h =
    bounds_read (StandsAt texts) (text_at texts) (stands_read texts) (closed nat_eq known t) (closed_names items)
    (closed-alike (StandsAt texts) nat_eq bytes_eq (one_to_one texts h.once) known known_texts h.knows t (tells_script items) h.alike (script-around items))

-- What a track answers that was told so: the first early error of the script, and its closed names by their atoms.
pub track-early_error : (texts : List Text) (log : Log) (items : Stmts) → TellsOf texts (known_names log.known) (told_of log.parts) items → log.noted ≡ first_note (notes_stmts items)
    → first_error nat_eq (known_names log.known) log.noted (told_of log.parts) ≡ early_error items
track-early_error texts log items h noted =
    ap (λ early. first_error nat_eq (known_names log.known) early (told_of log.parts)) noted
    ∙ sym (early_error-by_atoms texts (known_names log.known) (told_of log.parts) items h)

pub track-closed_names : (texts : List Text) (log : Log) (items : Stmts) → TellsOf texts (known_names log.known) (told_of log.parts) items
    → map (renamed_bound (text_at texts)) (closed nat_eq (known_names log.known) (told_of log.parts)) ≡ closed_names items
track-closed_names texts log items h = sym (closed_names-by_atoms texts (known_names log.known) (told_of log.parts) items h)
