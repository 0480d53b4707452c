-- How many regions a log has.
use Rattle.std.proofs.Common.{◌≡◌, ℕ, ◌+◌, List, [], ◌∷◌, ◌++◌, length, length-append, ap, arith}
use Rattle.std.proofs.lemmas.List.{length-map}
use Rattle.script_grammar.specs.Interpretation.{Interpretation}
use Rattle.parse_track.specs.Told as told
use Rattle.parse_track.specs.Told.{Told, nothing, leaf, inner}
use Rattle.parse_track.specs.Tells.{Text}
use Rattle.parse_track.specs.Log.{Log}
use Rattle.parse_track.specs.Counted.{region_count}
use Rattle.track_log_laws.specs.Spelled.{TextLeaf, TextInner, TextPart, TextLog, put_in, opened, logged, part_text, log_text}
use Rattle.track_log_laws.proofs.Putting.{length_put_in}

length_opened : (log : TextLog) (kind : told.Region Text) (at : ℕ) → length (opened log kind at).parts ≡ length log.parts + 1
length_opened log kind at =
    let own : TextPart = record { kind = kind; at = at; around = log.present; items = [] } in
    let e = length-append (put_in log.present (TextInner (length log.parts)) log.parts) (own ∷ []) in
    let f = length_put_in log.present (TextInner (length log.parts)) log.parts in
    omega (arith, e, f)

length_logged : (t : Told Text) (log : TextLog) → length (logged t log).parts ≡ length log.parts + region_count t
length_logged nothing log = omega arith
length_logged (leaf l t) log =
    let e = length_logged t (record { parts = put_in log.present (TextLeaf l) log.parts; present = log.present }) in
    let f = length_put_in log.present (TextLeaf l) log.parts in
    omega (arith, e, f)
length_logged (inner kind at inside t) log =
    let rest = length_logged t (record { parts = (logged inside (opened log kind at)).parts; present = log.present }) in
    let within = length_logged inside (opened log kind at) in
    let first = length_opened log kind at in
    omega (arith, rest, within, first)

-- Where one telling leaves another still to tell, the regions of the log and those to tell are as many before as after.
pub length-logged : (i : Interpretation) (old new : Log) (t rest : Told Text) → logged t (log_text i old) ≡ logged rest (log_text i new)
    → length old.parts + region_count t ≡ length new.parts + region_count rest
length-logged i old new t rest e =
    let a = length_logged t (log_text i old) in
    let b = length_logged rest (log_text i new) in
    let c = length-map old.parts (part_text i) in
    let d = length-map new.parts (part_text i) in
    let s = ap (λ (log : TextLog). length log.parts) e in
    omega (arith, a, b, c, d, s)
