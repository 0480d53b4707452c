-- Tokens that are a script are read with bodies passed over, up to their end: the parser finds no fault, and what it reads is the
-- script's tree with other bodies. Brackets of a script match, so the tokens up to the stop of their brackets are all.
use Rattle.std.proofs.Common.{◌≡◌, ◌∙◌, ℕ, suc, ◌+◌, ◌<◌, ◌≤◌, ◌⊎◌, inl, inr, List, [], ◌∷◌, ◌++◌, length, map, take, drop, refl, sym, ap, subst, arith, false, Result, Ok, Err, Some, length-append, append-nil, take-append-drop}
use Rattle.std.specs.Prelude.{IsErrAnd}
use Rattle.std.proofs.lemmas.Result.{err_from_is_err_and}
use Rattle.std.proofs.Math.ListN.{drop_of_length-le}
use Rattle.std.proofs.lemmas.List.{take-map, take-append-le}
use Rattle.std.proofs.lemmas.Bool.{cases_lt}
use Rattle.script_grammar.specs.declared.token.Token.{Token}
use Rattle.script_grammar.specs.Interpretation.{Interpretation}
use Rattle.script_grammar.specs.Lexeme.{Lexeme, lexeme_of}
use Rattle.script_grammar.specs.Matching.{Matching}
use Rattle.script_grammar.specs.Pieces.{whole, open_at_end}
use Rattle.script_grammar.specs.Shows.{NodeOf}
use Rattle.script_grammar.specs.Tree.{Stmts, no_stmts}
use Rattle.grammar_parser_specs.specs.Filling.{fill_stmts}
use Rattle.grammar_parser_specs.specs.Parser.{Recorded, Reply, Read, Bad, Deep}
use Rattle.grammar_parser_specs.specs.Stmts.{script_of}
use Rattle.grammar_parser_laws.proofs.NestedTrees.{nested_stmts}
use Rattle.grammar_script_laws.proofs.Closed.{Closed, open_front, not_both}
use Rattle.grammar_script_laws.proofs.PassedLaws.{pass_script, script_is_passed}
use Rattle.parse_exprs.specs.declared.place.ParseFault.{ParseFault}
use Rattle.parse_exprs.specs.declared.place.ParseFault.TheVariants as faults
use Rattle.parse_exprs.specs.declared.place.Cursor.{Cursor}
use Rattle.parse_exprs.specs.declared.source.Source.{Source}
use Rattle.parse_exprs.specs.Answers.{Answers, Reads, recorded, records}
use Rattle.parse_exprs.specs.Env.{body_at}
use Rattle.parse_exprs.specs.Source.{IsSource, front, lexemes}
use Rattle.parse_exprs.proofs.Closing.{ended}
use Rattle.parse_bodies.specs.Blocks.{stmts_at, all_at}
use Rattle.parse_bodies.specs.Whole.{IsText}
use Rattle.parse_bodies.proofs.Later.{braced_at}
use Rattle.parse_script.specs.Reading.{under}
use Rattle.parse_top.specs.Top.{AreAScript, IsTopOf}

-- Tokens whose brackets match, and the one that ends them: no first part of them is closed but all.
whole_cut : (n : ℕ) (inner : List Lexeme) (end : Lexeme) → open_at_end [] inner ≡ Some [] → Closed (take n (inner ++ end ∷ [])) → take n (inner ++ end ∷ []) ≡ inner ++ end ∷ []
whole_cut n inner end balanced closed = by (cases_lt (length inner) n)
  where
    size : length (inner ++ end ∷ []) ≡ length inner + 1
    size = length-append inner (end ∷ [])

    by : (length inner < n) ⊎ (n ≤ length inner) → take n (inner ++ end ∷ []) ≡ inner ++ end ∷ []
    by (inr le) =
        let o = open_front (take n inner) (drop n inner) [] [] (ap (open_at_end []) (take-append-drop n inner) ∙ balanced) in
        absurd (not_both (open_at_end [] (take n inner)) o.open_ones (subst Closed (take-append-le n inner (end ∷ []) le) closed).is o.is)
    by (inl lt) =
        sym (append-nil (take n (inner ++ end ∷ [])))
        ∙ ap (λ (us : List Lexeme). take n (inner ++ end ∷ []) ++ us) (sym (drop_of_length-le (inner ++ end ∷ []) {i = n} (omega (arith, lt, size))))
        ∙ take-append-drop n (inner ++ end ∷ [])

-- What the parser of scripts that passes bodies over reads from the first token of the source on: these statements, with the bodies
-- that the interpretation gives.
pub record ReadsTop (i : Interpretation) (s : Source) (items : Stmts) : Type 0 where
  pub passed : List Recorded
  pub left : List Lexeme
  pub is : script_of (stmts_at i 0) (front s i 0) ≡ Read (fill_stmts (body_at i) items) passed left

passes_here : (i : Interpretation) (ts : List Lexeme) → script_of (stmts_at i 0) ts ≡ pass_script (body_at i) (braced_at i) ts
unfolding stmts_at all_at
passes_here i ts = refl

from_first : (i : Interpretation) (s : Source) → front s i 0 ≡ lexemes s i
unfolding front
from_first i s = refl

-- tokens that are a script are read so
pub script_passes : (i : Interpretation) (s : Source) (items : Stmts) → IsText (lexemes s i) items → ReadsTop i s items
script_passes i s items t =
    let p = script_is_passed (body_at i) (braced_at i) (lexemes s i) items (record { inner = t.inner; last = t.end; split = t.split; ends = t.ends; is = t.script; shallow = t.shallow }) in
    record { passed = p.passed; left = t.end ∷ []; is = passes_here i (front s i 0) ∙ ap (pass_script (body_at i) (braced_at i)) (from_first i s) ∙ p.reads }

-- What the code answers that reads so.
module _ {B : Type 0} (shows : Interpretation → B → Stmts → Type 0) (i : Interpretation) (s : Source) (old new : Cursor) (start : old.at ≡ 0) (none : old.pending.items ≡ []) where
  none_before : records s i old ≡ []
  unfolding records
  none_before = ap (map (recorded s i)) none

  from_start : (items : Stmts) (r : ReadsTop i s items) (o : Result B ParseFault) → Reads (NodeOf (shows i)) (script_of (stmts_at i 0)) s i old new o → Answers (NodeOf (shows i)) s i new o [] (Read (fill_stmts (body_at i) items) r.passed r.left)
  from_start items r o h =
      subst (λ (q : Reply Stmts). Answers (NodeOf (shows i)) s i new o [] q) (ap (λ (k : ℕ). script_of (stmts_at i 0) (front s i k)) start ∙ r.is)
      (subst (λ (rs : List Recorded). Answers (NodeOf (shows i)) s i new o rs (script_of (stmts_at i 0) (front s i old.at))) none_before h)

  same_items : (a b : Stmts) (ps qs : List Recorded) (us vs : List Lexeme) → ◌≡◌ {A = Reply Stmts} (Read a ps us) (Read b qs vs) → b ≡ a
  same_items a b ps qs us vs e = cc

  no_bad : (a : Stmts) (ps qs : List Recorded) (us vs : List Lexeme) → ◌≡◌ {A = Reply Stmts} (Read a ps us) (Bad qs vs) → ⊥
  no_bad a ps qs us vs e = cc

  no_deep : (a : Stmts) (ps qs : List Recorded) (us vs : List Lexeme) → ◌≡◌ {A = Reply Stmts} (Read a ps us) (Deep qs vs) → ⊥
  no_deep a ps qs us vs e = cc

  -- its node stands for the statements
  pub top_shown : (top : B) → Reads (NodeOf (shows i)) (script_of (stmts_at i 0)) s i old new (Ok top) → IsTopOf shows i (lexemes s i) (Ok top)
  top_shown top h = λ items t.
      let r = script_passes i s items t in
      let a = from_start items r (Ok top) h in
      subst (shows i top) (same_items (fill_stmts (body_at i) items) a.0 r.passed (records s i new) r.left (front s i new.at) a.2.is) a.1

  -- and it finds no fault
  pub top_refused : (e : ParseFault) → Reads {E = B} (NodeOf (shows i)) (script_of (stmts_at i 0)) s i old new (Err e) → IsTopOf shows i (lexemes s i) (Err e)
  top_refused (faults.Unexpected token) h = λ w.
      let r = script_passes i s w.0 w.1 in
      no_bad (fill_stmts (body_at i) w.0) r.passed (records s i new) r.left (front s i token) (from_start w.0 r (Err (faults.Unexpected token)) h).is
  top_refused (faults.TooDeep token) h = λ w.
      let r = script_passes i s w.0 w.1 in
      no_deep (fill_stmts (body_at i) w.0) r.passed (records s i new) r.left (front s i token) (from_start w.0 r (Err (faults.TooDeep token)) h).is
  top_refused faults.NoMemory h = tt

-- The tokens of a file, of which a parser sees those up to the stop of their brackets.
module _ (i : Interpretation) (ts : List Token) (m : Matching) (s : Source) (get set : ℕ) (is : IsSource s) (cut : s.tokens.now ≡ take (suc m.stop) ts) (same_get : s.get ≡ get) (same_set : s.set ≡ set) where
  abbrev all : List Lexeme
  all = map (lexeme_of get set i.texts) ts

  front_is : lexemes s i ≡ take (suc m.stop) all
  front_is =
      ap (λ (g : ℕ). map (lexeme_of g s.set i.texts) s.tokens.now) same_get
      ∙ ap (λ (g : ℕ). map (lexeme_of get g i.texts) s.tokens.now) same_set
      ∙ ap (map (lexeme_of get set i.texts)) cut
      ∙ sym (take-map (lexeme_of get set i.texts) (suc m.stop) ts)

  all_there : (items : Stmts) → IsText all items → lexemes s i ≡ all
  all_there items t =
      let balanced : open_at_end [] t.inner ≡ Some [] = (nested_stmts whole 0 false items t.script.proper).at t.inner t.end t.script.fits [] in
      let closed : Closed (take (suc m.stop) (t.inner ++ t.end ∷ [])) = subst Closed (front_is ∙ ap (take (suc m.stop)) t.split) (ended s is i).closed in
      front_is ∙ ap (take (suc m.stop)) t.split ∙ whole_cut (suc m.stop) t.inner t.end balanced closed ∙ sym t.split

  cut_text : (items : Stmts) → IsText all items → IsText (lexemes s i) items
  cut_text items t = subst (λ (us : List Lexeme). IsText us items) (sym (all_there items t)) t

  -- so what is read of these is read of all
  pub top_of_all : {B : Type 0} (shows : Interpretation → B → Stmts → Type 0) (o : Result B ParseFault) → IsTopOf shows i (lexemes s i) o → IsTopOf shows i all o
  top_of_all shows (Ok top) h = λ items t. h items (cut_text items t)
  top_of_all shows (Err (faults.Unexpected token)) h = λ w. h (w.0, cut_text w.0 w.1)
  top_of_all shows (Err (faults.TooDeep token)) h = λ w. h (w.0, cut_text w.0 w.1)
  top_of_all shows (Err faults.NoMemory) h = tt

-- an error is handed on
pub top_on : {B : Type 0} (shows : Interpretation → B → Stmts → Type 0) (i : Interpretation) (tokens : List Lexeme) (e : ParseFault) (o : Result B ParseFault) → IsErrAnd o (λ y. y ≡ e) → IsTopOf {B = B} shows i tokens (Err e) → IsTopOf shows i tokens o
top_on shows i tokens e o h k = let x = err_from_is_err_and o h in subst (IsTopOf shows i tokens) (ap Err (sym x.2) ∙ sym x.1) k

-- A script has no fault.
module _ {B : Type 0} (shows : Interpretation → B → Stmts → Type 0) (texts : List (List ℕ)) (tokens : List Lexeme) (script : AreAScript tokens) (e : ParseFault) (h : (bodies : ℕ → Stmts) → IsTopOf {B = B} shows (under texts bodies) tokens (Err e)) where
  pub is_no_unexpected : (token : ℕ) → e ≡ faults.Unexpected token → ⊥
  is_no_unexpected token same = subst (λ (x : ParseFault). IsTopOf {B = B} shows (under texts (λ n. no_stmts)) tokens (Err x)) same (h (λ n. no_stmts)) script

  pub is_no_too_deep : (token : ℕ) → e ≡ faults.TooDeep token → ⊥
  is_no_too_deep token same = subst (λ (x : ParseFault). IsTopOf {B = B} shows (under texts (λ n. no_stmts)) tokens (Err x)) same (h (λ n. no_stmts)) script
