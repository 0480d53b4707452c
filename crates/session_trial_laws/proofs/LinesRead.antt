-- Lines of the generated kinds, one after the other, are statements without any error.
use Rattle.std.proofs.Common.{Bool, List, [], ap, append_assoc, arith, cond, false, length, refl, subst, suc, sym, true, zero, ℕ, ◌*◌, ◌++◌, ◌+◌, ◌<◌, ◌∙◌, ◌∷◌, ◌≡◌, ◌≤◌}
use Rattle.std.specs.Fmt.{decimal}
use Rattle.std.specs.Prelude.{fold, nat_eq, ◌&&◌}
use Rattle.compile_specs.specs.Counted.{no_functions}
use Rattle.parse_track.specs.Notes.{notes_stmt, notes_stmts}
use Rattle.parse_track.specs.Tells.{Text, tells_stmt, tells_stmts}
use Rattle.parse_track.specs.Told.{Told, nothing}
use Rattle.scope_analysis.specs.Functions.{Inner, inner_stmt, inner_stmts}
use Rattle.scope_analysis.specs.Scopes.{count_stmt}
use Rattle.script_grammar.specs.Lexeme.{Lexeme}
use Rattle.script_grammar.specs.Pieces.{Fits, Piece, whole}
use Rattle.script_grammar.specs.Print.{print_stmt, print_stmts}
use Rattle.script_grammar.specs.Proper.{ProperStmt, ProperStmts}
use Rattle.script_grammar.specs.Tree.{Stmt, Stmts, more_stmts, no_stmts}
use Rattle.script_scanner.specs.Blanks.{begins}
use Rattle.script_scanner.specs.Lexemes.{lexeme_of}
use Rattle.script_scanner.specs.Numbers.{with_digit}
use Rattle.script_scanner.specs.Tokens.{last_token, token_at}
use Rattle.session_trial.specs.Generated.{counter_line, function_line, kind_of, line_of, lines_from, loop_line, next_state, object_line}
use Rattle.session_trial_laws.proofs.Counting.{HasCount, counter_counts, function_counts, loop_counts, object_counts}
use Rattle.session_trial_laws.proofs.Digits.{AreDigits, IsNumber, decimal_is, digits_ascii}
use Rattle.session_trial_laws.proofs.Lines.{IsShape, Offsets, Shape, enough, line, line_read, tokens}
use Rattle.session_trial_laws.proofs.Quiet.{IsQuiet, counter_quiet, function_quiet, loop_quiet, object_quiet, quiet_nothing}
use Rattle.session_trial_laws.proofs.Scanning.{is_ascii, scan}
use Rattle.session_trial_laws.proofs.Shallow.{is_shallow}
use Rattle.session_trial_laws.proofs.Shapes.{counter_line_is, counter_shape, function_line_is, function_shape, is_counter_shape, is_function_shape, is_loop_shape, is_object_shape, loop_line_is, loop_shape, object_line_is, object_shape}
use Rattle.session_trial_laws.proofs.Trees.{counter_fits, counter_proper, counter_shallow, counter_tree, function_fits, function_proper, function_shallow, function_tree, loop_fits, loop_proper, loop_shallow, loop_tree, object_fits, object_proper, object_shallow, object_tree}
use Rattle.session_trial_laws.proofs.WholeTexts.{ascii_both}
use Rattle.unit_text.specs.Points.{points_from}
use Rattle.script_grammar.specs.declared.token.Kind.TheVariants as kind

-- What is asked of the tree of a line.
record IsKind (s : Shape) (tree : (b m k t : ℕ) → List ℕ → ℕ → Stmt) : Type 0 where
  shape : IsShape s
  proper : (b m k t : ℕ) (n : List ℕ) (i : ℕ) → ProperStmt whole false (tree b m k t n i)
  fits : (after : Bool) (o b m k t : ℕ) (n : List ℕ) (i : ℕ) (ps : List Piece) (ts : List Lexeme) (next : Lexeme) → Fits ps ts next
      → Fits (print_stmt whole 1 (tree b m k t n i) ++ ps) (tokens s after o b m k t n i ++ ts) next
  shallow : (b m k t : ℕ) (n : List ℕ) (i : ℕ) (ps : List Piece) → is_shallow (print_stmt whole 1 (tree b m k t n i) ++ ps) ≡ is_shallow ps
  notes : (b m k t : ℕ) (n : List ℕ) (i : ℕ) → notes_stmt (tree b m k t n i) ≡ []
  quiet : (b m k t : ℕ) (n : List ℕ) (i : ℕ) (told : Told Text) → IsQuiet told → IsQuiet (tells_stmt true (tree b m k t n i) told)
  counts : (b m k t : ℕ) (n : List ℕ) (i next : ℕ) (around : List ℕ) (most : ℕ) (fs : List Inner) → HasCount most fs → HasCount (most + 2) (inner_stmt (tree b m k t n i) next around ++ fs)

function_kind : IsKind function_shape function_tree
function_kind = record { shape = is_function_shape; proper = function_proper; fits = function_fits; shallow = function_shallow; notes = λ b m k t n i. refl; quiet = function_quiet; counts = function_counts }

counter_kind : IsKind counter_shape counter_tree
counter_kind = record { shape = is_counter_shape; proper = counter_proper; fits = counter_fits; shallow = counter_shallow; notes = λ b m k t n i. refl; quiet = counter_quiet; counts = counter_counts }

loop_kind : IsKind loop_shape loop_tree
loop_kind = record { shape = is_loop_shape; proper = loop_proper; fits = loop_fits; shallow = loop_shallow; notes = λ b m k t n i. refl; quiet = loop_quiet; counts = loop_counts }

object_kind : IsKind object_shape object_tree
object_kind = record { shape = is_object_shape; proper = object_proper; fits = object_fits; shallow = object_shallow; notes = λ b m k t n i. refl; quiet = object_quiet; counts = object_counts }

-- A text of n lines, which stands at an offset, is read as statements without an error, which have at most two functions for each line.
pub record ReadsAsStatements (lines to o : ℕ) (after : Bool) (text : List ℕ) : Type 0 where
  pub items : Stmts
  pub inner : List Lexeme
  pub end : Lexeme
  pub ascii : is_ascii text ≡ true
  pub scans : (fuel : ℕ) → length text < fuel → scan fuel to [] after (points_from o text) ≡ inner ++ end ∷ []
  pub ends : end.kind ≡ kind.End
  pub proper : ProperStmts whole false items
  pub fits : Fits (print_stmts whole 0 items) inner end
  pub shallow : is_shallow (print_stmts whole 0 items) ≡ true
  pub notes : notes_stmts items ≡ []
  pub quiet : IsQuiet (tells_stmts true items nothing)
  pub counts : (next : ℕ) (around : List ℕ) → HasCount (2 * lines) (inner_stmts items next around)

end_scans : (to o : ℕ) (after : Bool) (fuel : ℕ) → 0 < fuel → scan fuel to [] after (points_from o []) ≡ lexeme_of (last_token to after []) ∷ []
unfolding token_at
end_scans to o after zero lt = absurd (omega (arith, lt))
end_scans to o after (suc fuel) lt = refl

nothing_read : (to o : ℕ) (after : Bool) → ReadsAsStatements 0 to o after []
nothing_read to o after = record {
  items = no_stmts;
  inner = [];
  end = lexeme_of (last_token to after []);
  ascii = refl;
  scans = end_scans to o after;
  ends = refl;
  proper = tt;
  fits = tt;
  shallow = refl;
  notes = refl;
  quiet = quiet_nothing;
  counts = λ next around. (0, no_functions, omega arith);
}

line_ascii : (s : Shape) → IsShape s → (n : List ℕ) → is_ascii n ≡ true → is_ascii (line s n) ≡ true
line_ascii s is n e =
    ascii_both s.head (s.letter ∷ (n ++ (s.middle ++ (n ++ s.tail)))) is.head_ascii
    (ap (λ (b : Bool). b && is_ascii (n ++ (s.middle ++ (n ++ s.tail)))) is.letter.ascii
    ∙ ascii_both n (s.middle ++ (n ++ s.tail)) e (ascii_both s.middle (n ++ s.tail) is.middle_ascii (ascii_both n s.tail e is.tail_ascii)))

-- one more line in front
module _ (s : Shape) (tree : (b m k t : ℕ) → List ℕ → ℕ → Stmt) (is : IsKind s tree) (lines to o i : ℕ) (after : Bool) (small : i ≤ 9007199254740991) where
  digits_read : (c : ℕ) (cs rest : List ℕ) → AreDigits (c ∷ cs) → fold (with_digit 10) 0 (c ∷ cs) ≡ i → (c ≡ 48 → (i ≡ 0) × (cs ≡ []))
      → ((e : ℕ) → ReadsAsStatements lines to e true rest) → ReadsAsStatements (suc lines) to o after (line s (c ∷ cs) ++ rest)
  digits_read c cs rest digits value lead behind =
      let n : List ℕ = c ∷ cs in
      let b : ℕ = o + length s.head in
      let m : ℕ = b + (1 + length n) in
      let k : ℕ = m + length s.middle in
      let t : ℕ = k + length n in
      let e : ℕ = t + length s.tail in
      let at : Offsets s n o b m k t e = record { name = refl; middle = refl; number = refl; tail = refl; end = refl } in
      let r : ReadsAsStatements lines to e true rest = behind e in
      let scans : (fuel : ℕ) → length (line s n ++ rest) < fuel → scan fuel to [] after (points_from o (line s n ++ rest)) ≡ (tokens s after o b m k t n i ++ r.inner) ++ r.end ∷ [] =
      λ fuel lt. let (left, more, same) = enough s is.shape fuel n rest (omega arith) lt in
      ap (λ (f : ℕ). scan f to [] after (points_from o (line s n ++ rest))) same
      ∙ line_read s is.shape left to after o b m k t e i c cs rest digits value small lead at
      ∙ ap (λ (ts : List Lexeme). tokens s after o b m k t n i ++ ts) (r.scans left more)
      ∙ sym (append_assoc (tokens s after o b m k t n i) r.inner (r.end ∷ [])) in
      record {
        items = more_stmts (tree b m k t n i) r.items;
        inner = tokens s after o b m k t n i ++ r.inner;
        end = r.end;
        ascii = ascii_both (line s n) rest (line_ascii s is.shape n (digits_ascii n digits)) r.ascii;
        scans = scans;
        ends = r.ends;
        proper = (is.proper b m k t n i, r.proper);
        fits = is.fits after o b m k t n i (print_stmts whole 0 r.items) r.inner r.end r.fits;
        shallow = is.shallow b m k t n i (print_stmts whole 0 r.items) ∙ r.shallow;
        notes = ap (λ (xs : List _). xs ++ notes_stmts r.items) (is.notes b m k t n i) ∙ r.notes;
        quiet = is.quiet b m k t n i (tells_stmts true r.items nothing) r.quiet;
        counts = λ next around.
            let both : 2 * lines + 2 ≡ 2 * suc lines = omega arith in
            let fs : List Inner = inner_stmts r.items (next + count_stmt (tree b m k t n i)) around in
            subst (λ (most : ℕ). HasCount most (inner_stmt (tree b m k t n i) next around ++ fs)) both (is.counts b m k t n i next around (2 * lines) fs (r.counts (next + count_stmt (tree b m k t n i)) around));
      }

  number_read : (n rest : List ℕ) → IsNumber i n → ((e : ℕ) → ReadsAsStatements lines to e true rest) → ReadsAsStatements (suc lines) to o after (line s n ++ rest)
  number_read n rest h behind = subst (λ (text : List ℕ). ReadsAsStatements (suc lines) to o after (line s text ++ rest)) (sym h.split) (digits_read h.first h.more rest h.digits h.value h.lead behind)

-- what holds of the four lines holds of the line of each kind
pub by_kind : (P : List ℕ → Type 0) (n : List ℕ) → P (line function_shape n) → P (line counter_shape n) → P (line loop_shape n) → P (line object_shape n) → (kind : ℕ) → P (line_of kind n)
by_kind P n f g h l kind =
    either (nat_eq kind 0) (function_line n) _ (subst P (sym (function_line_is n)) f)
    (either (nat_eq kind 1) (counter_line n) _ (subst P (sym (counter_line_is n)) g)
    (either (nat_eq kind 2) (loop_line n) (object_line n) (subst P (sym (loop_line_is n)) h) (subst P (sym (object_line_is n)) l)))
  where
    either : (b : Bool) (x y : List ℕ) → P x → P y → P (cond b x y)
    either true x y p q = p
    either false x y p q = q

pub lines_read : (more i s to o : ℕ) (after : Bool) → i + more ≤ 9007199254740991 → ReadsAsStatements more to o after (lines_from more i s)
lines_read zero i s to o after le = nothing_read to o after
lines_read (suc more) i s to o after le =
    let small : i ≤ 9007199254740991 = omega (arith, le) in
    let n : IsNumber i (decimal i) = decimal_is i (omega (arith, le)) in
    let rest : List ℕ = lines_from more (i + 1) (next_state s) in
    let behind : (e : ℕ) → ReadsAsStatements more to e true rest = λ e. lines_read more (i + 1) (next_state s) to e true (omega (arith, le)) in
    by_kind (λ (text : List ℕ). ReadsAsStatements (suc more) to o after (text ++ rest)) (decimal i)
    (number_read function_shape function_tree function_kind more to o i after small (decimal i) rest n behind)
    (number_read counter_shape counter_tree counter_kind more to o i after small (decimal i) rest n behind)
    (number_read loop_shape loop_tree loop_kind more to o i after small (decimal i) rest n behind)
    (number_read object_shape object_tree object_kind more to o i after small (decimal i) rest n behind)
    (kind_of (next_state s))

-- no line begins with `#!`
pub no_hash : (more i s : ℕ) → begins (0x23 ∷ 0x21 ∷ []) (lines_from more i s) ≡ false
no_hash zero i s = refl
no_hash (suc more) i s = by_kind (λ (text : List ℕ). begins (0x23 ∷ 0x21 ∷ []) (text ++ lines_from more (i + 1) (next_state s)) ≡ false) (decimal i) refl refl refl refl (kind_of (next_state s))
