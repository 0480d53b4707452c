-- A function is read on its own: its record's names have their own atoms first, and its tree is read after them.
use Rattle.std.proofs.Common.{◌≡◌, ◌∙◌, ℕ, ◌+◌, ◌-◌, ◌^◌, ◌<◌, ◌≤◌, List, map, length, Option, option_map, sym, ap, subst, arith}
use Rattle.script_grammar.specs.declared.token.FuncForm.{FuncForm}
use Rattle.script_grammar.specs.Tree.{Stmts}
use Rattle.script_grammar.specs.TreeOf.{func_of}
use Rattle.stencil_data.specs.declared.records.ClosedName.{ClosedName}
use Rattle.stencil_data.specs.LinkView.{LinkView}
use Rattle.stencil_data.specs.StandsFor.{text_at, named_closed}
use Rattle.stencil_data.specs.Views.{RecordView}
use Rattle.parse_track.specs.declared.region.WellKnownAtoms.{WellKnownAtoms}
use Rattle.parser_atoms.specs.Places.{AreWithoutEquals}
use Rattle.script_scanner.specs.Stands.{Keeps}
use Rattle.scope_analysis.specs.FunctionTree.{HasBody, KnowsNames}
use Rattle.scope_analysis.specs.Functions.{Inner}
use Rattle.scope_analysis.specs.Kept.{under}
use Rattle.compile_specs.specs.Eager.{Site}
use Rattle.grammar_alone_laws.specs.Alone.{nameless}
use Rattle.track_atoms.specs.Known.{HasWords, known_atoms}
use Rattle.track_atoms.proofs.Found.{knows_names}
use Rattle.track_atoms.proofs.Interning.{words_kept}
use Rattle.parse_function.specs.Extents.{IsExtentOf, own_statements, body_in}
use Rattle.parse_function.specs.Words.{KnowsAccessors}
use Rattle.lazy_compile.specs.declared.alone.FunctionAlone.{FunctionAlone}
use Rattle.lazy_compile.specs.Alone.{IsReadAlone}
use Rattle.lazy_compile.specs.Delazified.{CanBeDelazified}
use Rattle.lazy_compile.specs.Forms.{form_of}
use Rattle.lazy_compile.specs.OwnTexts.{AreOwnNames, IsOwnName, TakesFrom}
use Rattle.lazy_compile.proofs.OwnTexts.{own_name_kept, own_names_kept, takes_few}
use Rattle.lazy_compile.proofs.Records.{name_is, closed_are, ends_in_file, extent_of_record}

-- they are few enough for the texts of the tree to join them
pub room : (file : List ℕ) (lazy : RecordView) (texts : List (List ℕ)) (chain : List LinkView) (items : Stmts) (m : Site) → CanBeDelazified file lazy texts chain items m → (words named all : List (List ℕ))
    → length words ≤ 7 → length named ≤ length words + 1 → TakesFrom texts named all → lazy.extent.end - lazy.extent.start + length all < 2 ^ 32 - 1
room file lazy texts chain items m can words named all few_words few_named taken =
    let short = can.short in
    let few_texts = can.few_texts in
    let ends = ends_in_file file lazy texts chain items m can in
    let few = takes_few texts named all taken in
    omega (arith, short, few_texts, ends, few_words, few_named, few)

-- the own texts: with the known words, then with the name, then with the closed names
module _ (texts words named all : List (List ℕ)) (known : WellKnownAtoms) (has : HasWords words known) (name_taken : TakesFrom texts words named) (closed_taken : TakesFrom texts named all) where
  words_there : HasWords all known
  words_there = words_kept named all known closed_taken.keeps (words_kept words named known name_taken.keeps has)

  pub knows_accessors : KnowsAccessors all known
  knows_accessors = record { get = words_there.get; set = words_there.set }

  -- and with those of the tree
  module _ (read : List (List ℕ)) (read_keeps : Keeps all read) (name own_name : Option ℕ) (closed own_closed : List ClosedName)
      (name_own : IsOwnName texts named name own_name) (closed_own : AreOwnNames texts all closed own_closed) where
    name_there : option_map (text_at read) own_name ≡ option_map (text_at texts) name
    name_there = (own_name_kept texts all read name own_name read_keeps (own_name_kept texts named all name own_name closed_taken.keeps name_own)).is

    closed_there : map (named_closed read) own_closed ≡ map (named_closed texts) closed
    closed_there = (own_names_kept texts all read closed own_closed read_keeps closed_own).are

    knows_there : length read < 2 ^ 32 → KnowsNames read
    knows_there few = knows_names read known few (words_kept all read known read_keeps words_there)

    pub read_alone : (file : List ℕ) (lazy : RecordView) (chain : List LinkView) (items : Stmts) (m : Site) (form : FuncForm) (alone : FunctionAlone)
        → CanBeDelazified file lazy texts chain items m → form ≡ form_of lazy.kind → name ≡ lazy.name → closed ≡ lazy.closed
        → length read < 2 ^ 32 → AreWithoutEquals read → known ≡ known_atoms → alone.texts.items ≡ read → alone.name ≡ own_name → alone.closed.items ≡ own_closed
        → ((x : Stmts) (i : Inner) → IsExtentOf file lazy.extent form x i → func_of (under read (own_statements x)) alone.func ≡ nameless i.func)
        → ((bodies : ℕ → Stmts) → HasBody (under read bodies) alone.func (body_in (func_of (under read bodies) alone.func)))
        → IsReadAlone alone items m
    read_alone file lazy chain items m form alone can written name_same closed_same few apart fixed texts_are name_made closed_made tree body =
        record {
          tree = subst (λ (ts : List (List ℕ)). func_of (under ts (own_statements items)) alone.func ≡ nameless m.inner.func) (sym texts_are) (tree items m.inner (extent_of_record file lazy texts chain items m can form written));
          body = body_in (func_of (under read (own_statements items)) alone.func);
          read = subst (λ (ts : List (List ℕ)). HasBody (under ts (own_statements items)) alone.func (body_in (func_of (under read (own_statements items)) alone.func))) (sym texts_are) (body (own_statements items));
          name_is =
              ap (λ (ts : List (List ℕ)). option_map (text_at ts) alone.name) texts_are
              ∙ (ap (option_map (text_at read)) name_made ∙ (name_there ∙ (ap (option_map (text_at texts)) name_same ∙ name_is file lazy texts chain items m can)));
          closed_are =
              ap (λ (ts : List (List ℕ)). map (named_closed ts) alone.closed.items) texts_are
              ∙ (ap (map (named_closed read)) closed_made ∙ (closed_there ∙ (ap (map (named_closed texts)) closed_same ∙ closed_are file lazy texts chain items m can)));
          knows = subst KnowsNames (sym texts_are) (knows_there few);
          apart = subst AreWithoutEquals (sym texts_are) apart;
          words = subst (λ (ts : List (List ℕ)). HasWords ts known_atoms) (sym texts_are) (subst (HasWords read) fixed (words_kept all read known read_keeps words_there));
        }
