-- The text that is generated from any number, of 100000 lines at most, is a script without any error, of less than 16 MiB.
use Rattle.std.proofs.Common.{List, [], arith, false, length, length-append, refl, suc, zero, ℕ, ◌*◌, ◌++◌, ◌+◌, ◌∙◌, ◌∷◌, ◌≡◌, ◌≤◌}
use Rattle.std.proofs.lemmas.Fmt.{length-decimal-le}
use Rattle.std.specs.Fmt.{decimal}
use Rattle.script_grammar.specs.Pieces.{whole}
use Rattle.script_grammar.specs.Print.{print_stmts}
use Rattle.script_grammar.specs.Tree.{Stmts}
use Rattle.session_specs.specs.Sources.{HasAll, IsRead, IsValid}
use Rattle.session_trial.specs.Generated.{generated, kind_of, lines_from, next_state}
use Rattle.session_trial_laws.proofs.Lines.{Shape, line, line_length}
use Rattle.session_trial_laws.proofs.LinesRead.{by_kind, lines_read, no_hash}
use Rattle.session_trial_laws.proofs.Quiet.{no_early_error}
use Rattle.session_trial_laws.proofs.Shallow.{shallow_depths}
use Rattle.session_trial_laws.proofs.Shapes.{counter_shape, function_shape, loop_shape, object_shape}
use Rattle.session_trial_laws.proofs.WholeTexts.{ascii_utf8, whole_text}
use Rattle.session_words.specs.Asked as asked
use Rattle.session_trial_laws.proofs.LinesRead as lines

read_whole : (number size : ℕ) (r : lines.ReadsAsStatements size (length (generated number size)) 0 false (generated number size)) → IsRead (generated number size) r.items
read_whole number size r = record {
  utf8 = ascii_utf8 (generated number size) r.ascii;
  inner = r.inner;
  end = r.end;
  split = whole_text (generated number size) r.ascii (no_hash size 0 number) ∙ r.scans (suc (length (generated number size))) (omega arith);
  ends = r.ends;
  script = record { proper = r.proper; fits = r.fits };
  shallow = shallow_depths (print_stmts whole 0 r.items) r.inner r.end r.fits r.shallow;
}

-- the text is a script, without early errors, and has n functions, at most two in each line
pub generated_is_valid : (number size : ℕ) → size ≤ 100000 → (items : Stmts) × (count : ℕ) × IsValid (generated number size) items count × (count ≤ 2 * size)
generated_is_valid number size le =
    let r : lines.ReadsAsStatements size (length (generated number size)) 0 false (generated number size) = lines_read size 0 number (length (generated number size)) 0 false (omega (arith, le)) in
    let (count, counts, few) = r.counts 1 (0 ∷ []) in
    (r.items, count, record { read = read_whole number size r; faultless = no_early_error r.items r.notes r.quiet; functions = counts }, few)

-- and no function that is wanted is missing, where all are
pub generated_has_all : (number size : ℕ) → size ≤ 100000 → (items : Stmts) × (count : ℕ) × HasAll (generated number size) asked.All items count
generated_has_all number size le = let (items, count, valid, few) = generated_is_valid number size le in (items, count, record { valid = valid; present = refl })

-- How long the text is.

short : (s : Shape) (n rest : List ℕ) (more : ℕ) → length n ≤ 5 → length s.head + (length s.middle + length s.tail) ≤ 80 → length rest ≤ more * 100 → length (line s n ++ rest) ≤ suc more * 100
short s n rest more few parts behind =
    let size : length (line s n ++ rest) ≡ length (line s n) + length rest = length-append (line s n) rest in
    let here : length (line s n) ≡ length s.head + suc (length n + (length s.middle + (length n + length s.tail))) = line_length s n in
    omega (arith, size, here, few, parts, behind)

lines_short : (more i s : ℕ) → i + more ≤ 100000 → length (lines_from more i s) ≤ more * 100
lines_short zero i s le = omega arith
lines_short (suc more) i s le =
    let few : length (decimal i) ≤ 5 = length-decimal-le 5 i (omega arith) (omega (arith, le)) (omega (arith, le)) in
    let rest : List ℕ = lines_from more (i + 1) (next_state s) in
    let behind : length rest ≤ more * 100 = lines_short more (i + 1) (next_state s) (omega (arith, le)) in
    by_kind (λ (text : List ℕ). length (text ++ rest) ≤ suc more * 100) (decimal i)
    (short function_shape (decimal i) rest more few (omega arith) behind)
    (short counter_shape (decimal i) rest more few (omega arith) behind)
    (short loop_shape (decimal i) rest more few (omega arith) behind)
    (short object_shape (decimal i) rest more few (omega arith) behind)
    (kind_of (next_state s))

pub generated_is_short : (number size : ℕ) → size ≤ 100000 → length (generated number size) ≤ 16777215
generated_is_short number size le = let h : length (generated number size) ≤ size * 100 = lines_short size 0 number (omega (arith, le)) in omega (arith, h, le)
