-- The texts that a scan gains are small where the file is.
use Rattle.std.proofs.Common.{ℕ, ◌≤◌, ◌<◌, ◌^◌, List, [], ◌∷◌, ◌++◌, length, subst, sym, arith}
use Rattle.std.specs.List.{AllByRecursion}
use Rattle.unit_text.specs.Points.{points}
use Rattle.script_scanner.specs.Tokens.{Lexed, tokens}
use Rattle.script_scanner.specs.Stands.{IsValueAmong, GainsOnly}
use Rattle.bytecode_buf.specs.InRange.{TextsSmall}
use Rattle.scan_laws.proofs.Pieces.{ValueShort}
use Rattle.scan_laws.proofs.Tokens.{LexedShort}
use Rattle.scan_laws.proofs.Files.{file_tokens_short}

-- small texts, and more
pub small_both : (texts more : List (List ℕ)) → TextsSmall texts → TextsSmall more → TextsSmall (texts ++ more)
small_both [] more h k = k
small_both (t ∷ texts) more h k = (h.0, small_both texts more h.1 k)

middle_short : (bound : ℕ) (before : List Lexed) (t : Lexed) (after : List Lexed) → LexedShort bound (before ++ t ∷ after) → ValueShort bound t.value
middle_short bound [] t after h = h.0
middle_short bound (b ∷ before) t after h = middle_short bound before t after h.1

value_short : (bound : ℕ) (lexed : List Lexed) (text : List ℕ) → LexedShort bound lexed → IsValueAmong lexed text → length text ≤ bound
value_short bound lexed text h is = subst (ValueShort bound) is.4 (middle_short bound is.0 is.1 is.2 (subst (LexedShort bound) is.3 h))

values_small : (bound : ℕ) (lexed : List Lexed) (texts : List (List ℕ)) → bound < 2 ^ 32 → LexedShort bound lexed → AllByRecursion (IsValueAmong lexed) texts → TextsSmall texts
values_small bound lexed [] lt h all = tt
values_small bound lexed (text ∷ texts) lt h all =
    (let le : length text ≤ bound = value_short bound lexed text h all.0 in omega (arith, le, lt), values_small bound lexed texts lt h all.1)

-- what a scan between any two offsets of a file leaves
pub gained_small_between : (before after : List (List ℕ)) (file : List ℕ) (from to : ℕ) → GainsOnly before after (tokens (points file) from to) → TextsSmall before → length file < 2 ^ 32 → TextsSmall after
gained_small_between before after file from to g small lt = subst TextsSmall (sym g.grown)
    (small_both before g.gained small (values_small (length file) (tokens (points file) from to) g.gained lt (file_tokens_short file from to) g.are_values))

-- what a scan of a file leaves
pub gained_small : (before after : List (List ℕ)) (file : List ℕ) → GainsOnly before after (tokens (points file) 0 (length file)) → TextsSmall before → length file < 2 ^ 32 → TextsSmall after
gained_small before after file g small lt = gained_small_between before after file 0 (length file) g small lt
