-- What compiling a function alone asks is known of every function of a script without errors.
use Rattle.std.proofs.Common.{◌≡◌, ℕ, zero, suc, ◌^◌, ◌<◌, ◌≤◌, List, [], ◌∷◌, length, map, Some, subst}
use Rattle.std.specs.Prelude.{slice_get}
use Rattle.std.proofs.lemmas.Option.{none-some, same_Some}
use Rattle.script_grammar.specs.Tree.{Stmts}
use Rattle.stencil_data.specs.LinkView.{LinkView}
use Rattle.stencil_data.specs.Named.{NamedFunction, NamedInitial}
use Rattle.stencil_data.specs.StandsFor.{named_record, RecordsWithin, RecordStandsFor, RecordsStandFor, InitialStandsFor}
use Rattle.stencil_data.specs.Views.{InitialView, RecordView}
use Rattle.bytecode_buf.specs.Command.{Command, ShowsCommands}
use Rattle.parse_track.specs.ClosedNames.{Bound}
use Rattle.parse_track.specs.Notes.{closed_names}
use Rattle.grammar_start_laws.specs.Own.{AllOf}
use Rattle.compile_specs.specs.Eager.{Site, compiled_at, AreFunctions}
use Rattle.compile_specs.specs.Shown.{starts_of, record_of, initial}
use Rattle.compile_function.specs.Sites.{IsFunctionAt}
use Rattle.session_specs.specs.Sources.{IsValid}
use Rattle.lazy_compile.specs.Delazified.{CanBeDelazified}
use Rattle.compile_site_laws.proofs.Standing.{all_at}
use Rattle.compile_lazy_laws.proofs.Valid.{valid_stands, valid_text}

-- ---- lists

each_at : {X : Type 0} (P : X → Type 0) (xs : List X) (place : ℕ) (x : X) → AllOf P xs → slice_get xs place ≡ Some x → P x
each_at P [] place x h e = absurd (none-some x e)
each_at P (y ∷ xs) zero x h e = subst P (same_Some y x e) h.0
each_at P (y ∷ xs) (suc place) x h e = each_at P xs place x h.1 e

heads_same : {A : Type 0} (x y : A) (xs ys : List A) → x ∷ xs ≡ y ∷ ys → x ≡ y
heads_same x y xs ys e = cc

tails_same : {A : Type 0} (x y : A) (xs ys : List A) → x ∷ xs ≡ y ∷ ys → xs ≡ ys
tails_same x y xs ys e = cc

-- a record at a place stands for that of the function there
pub record_stands : (texts : List (List ℕ)) (starts : List ℕ) (bound : List (Bound (List ℕ))) (records : List RecordView) (all : List Site) (place : ℕ) (m : Site) (lazy : RecordView)
    → RecordsWithin (length texts) records → map (named_record texts) records ≡ map (record_of starts bound) (map (λ (s : Site). (compiled_at s).part) all)
    → slice_get all place ≡ Some m → slice_get records place ≡ Some lazy → RecordStandsFor texts lazy (record_of starts bound (compiled_at m).part)
record_stands texts starts bound [] all place m lazy within e there recorded = absurd (none-some lazy recorded)
record_stands texts starts bound (r ∷ records) [] place m lazy within e there recorded = absurd (none-some m there)
record_stands texts starts bound (r ∷ records) (s ∷ all) zero m lazy within e there recorded =
    let is : named_record texts r ≡ record_of starts bound (compiled_at s).part =
    heads_same (named_record texts r) (record_of starts bound (compiled_at s).part) (map (named_record texts) records) (map (record_of starts bound) (map (λ (x : Site). (compiled_at x).part) all)) e in
    subst (λ (x : Site). RecordStandsFor texts lazy (record_of starts bound (compiled_at x).part)) (same_Some s m there)
    (subst (λ (l : RecordView). RecordStandsFor texts l (record_of starts bound (compiled_at s).part)) (same_Some r lazy recorded) (record { within = within.0; is = is }))
record_stands texts starts bound (r ∷ records) (s ∷ all) (suc place) m lazy within e there recorded =
    record_stands texts starts bound records all place m lazy within.1
    (tails_same (named_record texts r) (record_of starts bound (compiled_at s).part) (map (named_record texts) records) (map (record_of starts bound) (map (λ (x : Site). (compiled_at x).part) all)) e) there recorded

-- ---- the laws

-- The file is a script without errors, `all` are its functions, and the records stand for theirs, by numbers among functions
-- that start at some offsets. Then the function at each place can be compiled alone, by its record and under its chain.
pub can_delazify : (bytes : List ℕ) (items : Stmts) (count : ℕ) (all : List Site) (starts : List ℕ) (texts : List (List ℕ)) (records : List RecordView) (place : ℕ) (m : Site) (lazy : RecordView) (chain : List LinkView)
    → IsValid bytes items count → length bytes ≤ 16777215 → AreFunctions items (length bytes) all → RecordsStandFor texts records (map (record_of starts (closed_names items)) (map (λ (s : Site). (compiled_at s).part) all))
    → length texts < 2 ^ 31 → slice_get all place ≡ Some m → slice_get records place ≡ Some lazy → chain ≡ m.chain → CanBeDelazified bytes lazy texts chain items m
can_delazify bytes items count all starts texts records place m lazy chain v short are stands few there recorded chain_is =
    let well = valid_stands bytes items count v short in
    let stood = all_at items (length bytes) all v.read.inner v.read.end are well in
    record {
      short = short;
      utf8 = v.read.utf8;
      text = valid_text bytes items count v;
      faultless = v.faultless;
      function = each_at (IsFunctionAt items) all place m stood there;
      chain_is = chain_is;
      recorded = record { starts = starts; stands = record_stands texts starts (closed_names items) records all place m lazy stands.within stands.are there recorded };
      few_texts = few;
    }

-- the same of the parts that a lazy first pass made
pub can_delazify_part : (bytes : List ℕ) (items : Stmts) (count : ℕ) (all : List Site) (parts : InitialView) (named : NamedInitial (List Command)) (top : NamedFunction (List Command)) (place : ℕ) (m : Site) (lazy : RecordView) (chain : List LinkView)
    → IsValid bytes items count → length bytes ≤ 16777215 → AreFunctions items (length bytes) all → named ≡ initial (closed_names items) top (map (λ (s : Site). (compiled_at s).part) all)
    → InitialStandsFor ShowsCommands parts named → length parts.texts < 2 ^ 31 → slice_get all place ≡ Some m → slice_get parts.records place ≡ Some lazy → chain ≡ m.chain → CanBeDelazified bytes lazy parts.texts chain items m
can_delazify_part bytes items count all parts named top place m lazy chain v short are is stands few there recorded chain_is =
    let functions : List (NamedFunction (List Command)) = map (λ (s : Site). (compiled_at s).part) all in
    let kept : RecordsStandFor parts.texts parts.records (map (record_of (starts_of functions) (closed_names items)) functions) =
    subst (λ (n : NamedInitial (List Command)). RecordsStandFor parts.texts parts.records n.records) is stands.records in
    can_delazify bytes items count all (starts_of functions) parts.texts parts.records place m lazy chain v short are kept few there recorded chain_is
