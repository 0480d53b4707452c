-- How many functions a log has.
use Rattle.std.proofs.Common.{◌≡◌, ℕ, ◌+◌, zero, suc, Bool, cond, Option, None, Some, List, [], ◌∷◌, ◌++◌, length, map, count_by, refl, sym, ap, ◌∙◌, arith}
use Rattle.std.proofs.lemmas.List.Sums.{sum_by-cons, sum_by_push}
use Rattle.script_grammar.specs.Interpretation.{Interpretation}
use Rattle.parse_track.specs.Told as told
use Rattle.parse_track.specs.Told.{Told, nothing, leaf, inner}
use Rattle.parse_track.specs.Tells.{Text}
use Rattle.parse_track.specs.RegionNames.{is_function}
use Rattle.parse_track.specs.Log.{Log, Part, region_of}
use Rattle.parse_track.specs.Counted.{function_count, counted}
use Rattle.track_log_laws.specs.Spelled.{TextItem, TextLeaf, TextInner, TextPart, TextLog, put, put_in, opened, logged, region_text, part_text, log_text}

abbrev one : told.Region Text → ℕ
one kind = cond (is_function kind) 1 0

abbrev counted_texts : List TextPart → ℕ
counted_texts parts = count_by (λ (part : TextPart). is_function part.kind) parts

counted_put : (x : TextItem) (n : ℕ) (ps : List TextPart) → counted_texts (put x n ps) ≡ counted_texts ps
counted_put x n [] = refl
counted_put x zero (p ∷ ps) =
    sum_by-cons (λ (part : TextPart). one part.kind) (record p { items = p.items ++ x ∷ [] }) ps ∙ sym (sum_by-cons (λ (part : TextPart). one part.kind) p ps)
counted_put x (suc n) (p ∷ ps) =
    sum_by-cons (λ (part : TextPart). one part.kind) p (put x n ps)
    ∙ (ap (λ k. one p.kind + k) (counted_put x n ps) ∙ sym (sum_by-cons (λ (part : TextPart). one part.kind) p ps))

counted_put_in : (at : Option ℕ) (x : TextItem) (ps : List TextPart) → counted_texts (put_in at x ps) ≡ counted_texts ps
counted_put_in None x ps = refl
counted_put_in (Some n) x ps = counted_put x n ps

counted_opened : (log : TextLog) (kind : told.Region Text) (at : ℕ) → counted_texts (opened log kind at).parts ≡ counted_texts log.parts + one kind
counted_opened log kind at =
    let own : TextPart = record { kind = kind; at = at; around = log.present; items = [] } in
    sum_by_push (λ (part : TextPart). one part.kind) (put_in log.present (TextInner (length log.parts)) log.parts) own
    ∙ ap (λ k. k + one kind) (counted_put_in log.present (TextInner (length log.parts)) log.parts)

counted_logged : (t : Told Text) (log : TextLog) → counted_texts (logged t log).parts ≡ counted_texts log.parts + function_count t
counted_logged nothing log = omega arith
counted_logged (leaf l t) log =
    counted_logged t (record { parts = put_in log.present (TextLeaf l) log.parts; present = log.present })
    ∙ ap (λ k. k + function_count t) (counted_put_in log.present (TextLeaf l) log.parts)
counted_logged (inner kind at inside t) log =
    let rest = counted_logged t (record { parts = (logged inside (opened log kind at)).parts; present = log.present }) in
    let within = counted_logged inside (opened log kind at) in
    let first = counted_opened log kind at in
    omega (arith, rest, within, first)

is_function-text : (i : Interpretation) (kind : told.Region ℕ) → is_function (region_text i kind) ≡ is_function kind
is_function-text i told.Script = refl
is_function-text i told.Function = refl
is_function-text i told.Arrow = refl
is_function-text i (told.Lambda name) = refl
is_function-text i told.Block = refl
is_function-text i told.Switch = refl
is_function-text i told.ForHead = refl
is_function-text i told.Catch = refl
is_function-text i told.Loop = refl
is_function-text i (told.Label name) = refl
is_function-text i told.VarBody = refl

counted-text : (i : Interpretation) (parts : List Part) → counted_texts (map (part_text i) parts) ≡ counted parts
counted-text i [] = refl
counted-text i (part ∷ parts) =
    sum_by-cons (λ (x : TextPart). one x.kind) (part_text i part) (map (part_text i) parts)
    ∙ (ap (λ (b : Bool). cond b 1 0 + counted_texts (map (part_text i) parts)) (is_function-text i (region_of part.kind))
    ∙ (ap (λ k. cond (is_function (region_of part.kind)) 1 0 + k) (counted-text i parts)
    ∙ sym (sum_by-cons (λ (x : Part). cond (is_function (region_of x.kind)) 1 0) part parts)))

-- The functions of a log are those of before and those that were told.
pub counted-logged : (i : Interpretation) (old new : Log) (t : Told Text) → logged t (log_text i old) ≡ log_text i new
    → counted new.parts ≡ counted old.parts + function_count t
counted-logged i old new t e =
    sym (counted-text i new.parts)
    ∙ (ap (λ (l : TextLog). counted_texts l.parts) (sym e)
    ∙ (counted_logged t (log_text i old)
    ∙ ap (λ k. k + function_count t) (counted-text i old.parts)))
