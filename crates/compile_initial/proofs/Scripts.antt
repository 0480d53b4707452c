-- What a script that was read without trees is before any of its functions is compiled.
use Rattle.std.proofs.Common.{◌≡◌, ◌∙◌, ℕ, ◌+◌, ◌<◌, ◌^◌, List, [], ◌∷◌, ◌++◌, length, map, Vec, refl, sym, ap, subst, arith}
use Rattle.std.specs.declared.alloc.Global.{Global}
use Rattle.std.proofs.lemmas.List.{length-map}
use Rattle.script_grammar.specs.declared.tree.Stmt.{Stmt}
use Rattle.script_grammar.specs.Interpretation.{Interpretation}
use Rattle.script_grammar.specs.Lexeme.{Lexeme}
use Rattle.script_grammar.specs.NameTokens.{NamesAreFull, OfEachNameToken, IsNotThis}
use Rattle.script_grammar.specs.Shows.{ShowAll}
use Rattle.script_grammar.specs.Tree.{Stmts}
use Rattle.stencil_data.specs.declared.records.ClosedName.{ClosedName}
use Rattle.stencil_data.specs.LinkView.{LinkView}
use Rattle.stencil_data.specs.Named.{NamedRecord}
use Rattle.stencil_data.specs.StandsFor.{named_closed, FunctionStandsFor, RecordsStandFor}
use Rattle.stencil_data.specs.Views.{FunctionView, RecordView}
use Rattle.grammar_start_laws.specs.Own.{AllOf, stmts_at}
use Rattle.grammar_start_laws.specs.Started.{started_stmts}
use Rattle.grammar_start_laws.proofs.WholeTrees.{script_is_own}
use Rattle.scan_laws.proofs.FullNames.{names_are_full}
use Rattle.scan_laws.proofs.OtherNames.{names_are_others}
use Rattle.parse_bodies.specs.Whole.{IsText}
use Rattle.parse_handlers.specs.Kept.{IsBody}
use Rattle.parse_script.specs.Tokens.{tokens_in}
use Rattle.parse_script.proofs.FileTexts.{file_texts}
use Rattle.parse_top.specs.Top.{ShowsTop}
use Rattle.parse_track.specs.declared.region.ClosedAt.{ClosedAt}
use Rattle.parse_track.specs.Notes.{closed_names}
use Rattle.scope_analysis.specs.Closed.{inside_global}
use Rattle.scope_analysis.specs.FunctionTree.{KnowsNames}
use Rattle.scope_analysis.specs.Functions.{inner_script}
use Rattle.scope_closed_laws.specs.Sound.{IsSound}
use Rattle.scope_closed_laws.proofs.Handing.{top_handed}
use Rattle.track_atoms.specs.Known.{HasWords}
use Rattle.track_atoms.proofs.Found.{knows_names}
use Rattle.early_script_errors.specs.Told.{own}
use Rattle.bytecode_buf.specs.Command.{ShowsCommands}
use Rattle.bytecode_buf.specs.InRange.{TextsSmall}
use Rattle.parser_atoms.specs.Places.{AreWithoutEquals}
use Rattle.emit_stmts.specs.Functions.{start_of, top_script}
use Rattle.emit_limit_laws.specs.FullNames.{FullNames}
use Rattle.emit_limit_laws.specs.Limits.{ScriptStands}
use Rattle.emit_limit_laws.proofs.Files.{file_stands}
use Rattle.emit_limit_laws.proofs.FullScripts.{full_names}
use Rattle.emit_limit_laws.proofs.RisingSites.{sites_rise, sites_numbered}
use Rattle.emit_limit_laws.proofs.Scripts.{script_within}
use Rattle.session_specs.specs.Sources.{IsRead}
use Rattle.compile_specs.specs.Counted.{HasFunctions}
use Rattle.compile_specs.specs.Eager.{Site, compiled_at}
use Rattle.compile_specs.specs.Shown as shown
use Rattle.compile_function.specs.Sites.{IsFunctionAt}
use Rattle.compile_numbers.specs.Sorted.{NamesView, AreSorted}
use Rattle.compile_script.specs.Compiling.{CanBeCompiled, IsCompiledScript}
use Rattle.scope_inner.specs.declared.sites.FunctionSite.{FunctionSite}
use Rattle.parse_function_list.specs.declared.list.ListedFunction.{ListedFunction}
use Rattle.parse_function_list.specs.Placed.{Placed, placed_of}
use Rattle.compile_first_pass.specs.declared.pass.SyntaxScript.{SyntaxScript}
use Rattle.compile_first_pass.specs.Passes.{IsSyntaxOf}
use Rattle.compile_site_laws.specs.Around.{IsPlacedAt}
use Rattle.compile_site_laws.proofs.Sites.{PlacedSites, placed_sites}
use Rattle.compile_site_laws.proofs.Standing.{all_at}
use Rattle.compile_initial.specs.declared.Nesting.{Nesting}
use Rattle.compile_initial.specs.declared.InitialStencil.{InitialStencil}
use Rattle.compile_initial.specs.Initial.{AreAround, HasTextsOf, IsInitialOf}
use Rattle.compile_initial.specs.Records.{HaveNumbers, start_at, record_at, around_at}
use Rattle.compile_initial.proofs.Inside.{IsInsideAt, all_inside}
use Rattle.compile_initial.proofs.Listed.{part_starts, starts_listed, records_stand}
use Rattle.compile_initial.proofs.Standing.{AllAfter, all_after, all_around}

-- ---- tokens

names_front : (ts us : List Lexeme) → NamesAreFull (ts ++ us) → NamesAreFull ts
names_front [] us h = tt
names_front (t ∷ ts) us h = (h.0, names_front ts us h.1)

others_front : (ts us : List Lexeme) → OfEachNameToken IsNotThis (ts ++ us) → OfEachNameToken IsNotThis ts
others_front [] us h = tt
others_front (t ∷ ts) us h = (h.0, others_front ts us h.1)

-- the records of functions as they were seen
pub records_seen : (seen found : List ListedFunction) (closed : NamesView) (records : List RecordView) → seen ≡ found → (HaveNumbers (map start_at seen) → records ≡ map (record_at (map start_at seen) closed) seen)
    → HaveNumbers (map start_at found) → records ≡ map (record_at (map start_at found) closed) found
records_seen seen found closed records same h = subst (λ (fs : List ListedFunction). HaveNumbers (map start_at fs) → records ≡ map (record_at (map start_at fs) closed) fs) same h

module _ (bytes : List ℕ) (script : SyntaxScript) (is : IsSyntaxOf bytes script) where
  abbrev pub texts : List (List ℕ)
  texts = script.file.texts.items

  abbrev pub items : Stmts
  items = is.items

  -- each function of the script has its own body
  abbrev pub bodies : ℕ → Stmts
  bodies n = stmts_at (started_stmts is.items) n

  abbrev pub read : IsRead bytes is.items
  read = is.valid.read

  -- ---- the script

  pub text : IsText (tokens_in script.file) is.items
  text = record { inner = read.inner; end = read.end; split = is.tokens.tokens ∙ read.split; ends = read.ends; script = read.script; shallow = read.shallow }

  stands : ScriptStands read.inner read.end is.items
  stands = let short = is.tokens.short in file_stands bytes read.inner read.end is.items (omega (arith, short)) read.utf8 read.split read.script read.shallow is.valid.faultless

  sound : IsSound is.items
  sound = record {
    tokens = read.inner;
    end = read.end;
    script = read.script;
    rise = stands.rise;
    names = others_front read.inner (read.end ∷ []) (subst (OfEachNameToken IsNotThis) read.split (names_are_others bytes));
    faultless = is.valid.faultless;
  }

  full : FullNames is.items
  full = full_names read.inner read.end is.items read.script (names_front read.inner (read.end ∷ []) (subst NamesAreFull read.split (names_are_full bytes)))

  knows : KnowsNames texts
  knows = let few = is.sound.few in knows_names texts script.file.known (omega (arith, few)) is.sound.words

  -- its own statements can be compiled, by what was called
  module _ (top : Vec Stmt Global) (seen_closed : List ClosedAt) (closed : NamesView) (names : List ClosedName) (seen_top : List Stmt) (seen_texts : List (List ℕ))
      (closed_same : seen_closed ≡ script.closed.items) (sorted : AreSorted seen_closed closed) (given : names ≡ closed.top) (top_same : seen_top ≡ top.items) (texts_same : seen_texts ≡ texts)
      (shows : ShowsTop IsBody texts (tokens_in script.file) top) where
    pub sorted_names : AreSorted script.closed.items closed
    sorted_names = subst (λ (ats : List ClosedAt). AreSorted ats closed) closed_same sorted

    can : CanBeCompiled texts bodies top.items names is.items
    can = record {
      is = shows is.items bodies text ∙ script_is_own read.inner read.end is.items 0 read.script stands.rise;
      within = script_within read.inner read.end is.items stands;
      full = full.top;
      closed_are = ap (λ (ns : List ClosedName). map (named_closed texts) (inside_global ns)) (given ∙ sorted_names.top) ∙ top_handed texts script.closed.items is.items is.closed sound;
      knows = knows;
    }

    asked : CanBeCompiled seen_texts bodies seen_top names is.items
    asked = subst (λ (ts : List (List ℕ)). CanBeCompiled ts bodies seen_top names is.items) (sym texts_same) (subst (λ (ss : List Stmt). CanBeCompiled texts bodies ss names is.items) (sym top_same) can)

    pub asks : (bs : ℕ → Stmts) × (t : Stmts) × CanBeCompiled seen_texts bs seen_top names t
    asks = (bodies, is.items, asked)

    pub compiled : (stencil : FunctionView) (inside : List FunctionSite) (end : ℕ) → ((bs : ℕ → Stmts) (t : Stmts) → CanBeCompiled seen_texts bs seen_top names t → IsCompiledScript seen_texts stencil inside t end)
        → end ≡ length bytes → IsCompiledScript texts stencil inside is.items (length bytes)
    compiled stencil inside end made size =
        subst (IsCompiledScript texts stencil inside is.items) size
        (subst (λ (ts : List (List ℕ)). IsCompiledScript ts stencil inside is.items end) texts_same (made bodies is.items asked))

  -- ---- its functions

  abbrev pub found : List ListedFunction
  found = script.functions.items

  abbrev pub top_chains : List (List LinkView)
  top_chains = (top_script is.items (length bytes)).chains

  pub sited : PlacedSites is.items (length bytes) is.placed.0
  sited = placed_sites is.items (length bytes) is.placed.0 is.placed.1

  abbrev pub i : Interpretation
  i = own texts is.items

  listed : ShowAll (IsPlacedAt top_chains sited.all) (map (placed_of i) found) sited.all
  listed = subst (λ (ps : List Placed). ShowAll (IsPlacedAt top_chains sited.all) ps sited.all) (sym is.placed.2) sited.placed

  held : ShowAll (IsInsideAt sited.all) (map (placed_of i) found) sited.all
  held = subst (λ (ps : List Placed). ShowAll (IsInsideAt sited.all) ps sited.all) (sym is.placed.2) (all_inside is.items (length bytes) is.placed.0 sited.all is.placed.1 sited.functions)

  at_sites : AllOf (IsFunctionAt is.items) sited.all
  at_sites = all_at is.items (length bytes) sited.all read.inner read.end sited.functions stands

  starts_are : map start_at found ≡ shown.starts_of (map (λ (s : Site). (compiled_at s).part) sited.all)
  starts_are = starts_listed top_chains sited.all i found sited.all listed ∙ sym (part_starts sited.all)

  numbered : HaveNumbers (map start_at found)
  numbered =
      let starts = starts_listed top_chains sited.all i found sited.all listed in
      let rise = sites_rise read.inner read.end is.items (length bytes) sited.all stands sited.functions in
      let few = sites_numbered read.inner read.end is.items (length bytes) sited.all stands sited.functions in
      let long = length-map sited.all (λ (s : Site). start_of s.inner.func) in
      subst HaveNumbers (sym starts) (rise, omega (arith, few, long))

  after : AllAfter 1 (map (placed_of i) found)
  after = subst (AllAfter 1) (sym is.placed.2) (all_after 0 0 1 (inner_script is.items) is.placed.0 is.placed.1 (omega arith))

  -- ---- all of it

  abbrev pub named_records : List NamedRecord
  named_records = map (shown.record_of (shown.starts_of (map (λ (s : Site). (compiled_at s).part) sited.all)) (closed_names is.items)) (map (λ (s : Site). (compiled_at s).part) sited.all)

  records_are : (closed : NamesView) → AreSorted script.closed.items closed → RecordsStandFor texts (map (record_at (map start_at found) closed) found) named_records
  records_are closed sorted =
      subst (λ (starts : List ℕ). RecordsStandFor texts (map (record_at (map start_at found) closed) found) (map (shown.record_of starts (closed_names is.items)) (map (λ (s : Site). (compiled_at s).part) sited.all))) starts_are
      (records_stand texts i script.closed.items closed is.items (record { texts_are = refl; sound = sound; full = full; sorted = sorted; closed_are = is.closed }) (map start_at found) top_chains sited.all found sited.all listed at_sites)

  pub initial_is : (made : InitialStencil) (inside : List FunctionSite) (closed : NamesView) → AreSorted script.closed.items closed → made.parts.texts ≡ texts
      → IsCompiledScript texts made.parts.top inside is.items (length bytes) → made.chains.items ≡ map (λ (s : FunctionSite). s.chain) inside
      → (HaveNumbers (map start_at found) → made.parts.records ≡ map (record_at (map start_at found) closed) found) → made.around.items ≡ map around_at found → IsInitialOf bytes made
  initial_is made inside closed sorted texts_are top chains records around =
      let kept : made.parts.records ≡ map (record_at (map start_at found) closed) found = records numbered in
      record {
        items = is.items;
        valid = record {
          read = is.valid.read;
          faultless = is.valid.faultless;
          functions = subst (HasFunctions is.items) (sym (ap length kept ∙ length-map found (record_at (map start_at found) closed))) is.valid.functions;
        };
        short = is.tokens.short;
        all = sited.all;
        functions = sited.functions;
        named = shown.initial (closed_names is.items) (top_script is.items (length bytes)).part (map (λ (s : Site). (compiled_at s).part) sited.all);
        is = refl;
        stands = record {
          top = subst (λ (ts : List (List ℕ)). FunctionStandsFor ShowsCommands ts made.parts.top (top_script is.items (length bytes)).part) (sym texts_are) top.stands;
          records = subst (λ (ts : List (List ℕ)). RecordsStandFor ts made.parts.records named_records) (sym texts_are) (subst (λ (rs : List RecordView). RecordsStandFor texts rs named_records) (sym kept) (records_are closed sorted));
        };
        chains = chains ∙ top.chains_are;
        around = subst (λ (as_ : List Nesting). AreAround is.items (length bytes) as_ sited.all) (sym around) (all_around top_chains sited.all i 1 found sited.all after held listed);
        few = subst (λ (ts : List (List ℕ)). length ts < 2 ^ 31) (sym texts_are) is.sound.few;
        apart = subst AreWithoutEquals (sym texts_are) is.sound.apart;
        texts = subst (HasTextsOf bytes) (sym texts_are) (record {
          values = λ t among. file_texts script.file bytes t is.sound is.tokens.tokens among;
          words = subst (HasWords texts) is.sound.fixed is.sound.words;
        });
        small = subst TextsSmall (sym texts_are) is.sound.small;
      }
