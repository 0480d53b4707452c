-- What was read on its own is compiled to what the whole script has.
use Rattle.std.proofs.Common.{◌≡◌, ◌∙◌, ℕ, List, [], ◌∷◌, map, Option, option_map, refl, sym, ap, subst}
use Rattle.script_grammar.specs.Interpretation.{Interpretation, text_of}
use Rattle.script_grammar.specs.Tree.{Function, function, Stmts}
use Rattle.stencil_data.specs.declared.functions.FuncKind.{FuncKind}
use Rattle.stencil_data.specs.declared.records.ClosedName.{ClosedName}
use Rattle.stencil_data.specs.LinkView.{LinkView}
use Rattle.stencil_data.specs.Named.{NamedScope}
use Rattle.stencil_data.specs.StandsFor.{FunctionStandsFor}
use Rattle.stencil_data.specs.Views.{RecordView}
use Rattle.bytecode_buf.specs.Command.{ShowsCommands}
use Rattle.parse_track.specs.Notes.{closed_names}
use Rattle.scope_analysis.specs.Closed.{closed_over}
use Rattle.scope_analysis.specs.DeclaredNames.{Text}
use Rattle.scope_analysis.specs.Functions.{Inner, inner_function}
use Rattle.parser_atoms.specs.Places.{AreWithoutEquals}
use Rattle.scope_analysis.specs.Kept.{under}
use Rattle.scope_analysis.specs.Scopes.{function_scopes}
use Rattle.emit_stmts.specs.Functions.{start_of, chain_at, function_script}
use Rattle.emit_stmts.specs.Functions as emitted
use Rattle.scope_inner.specs.declared.sites.FunctionSite.{FunctionSite}
use Rattle.scope_inner.specs.Sites.{Sited, sited, sited_in}
use Rattle.scope_closed_laws.specs.Handed as handed
use Rattle.scope_closed_laws.proofs.Handing.{sound_function}
use Rattle.emit_limit_laws.specs.Limits.{FunctionWithin}
use Rattle.emit_limit_laws.proofs.Functions.{function_within}
use Rattle.emit_limit_laws.specs.FullNames.{ScopesFull}
use Rattle.compile_specs.specs.Eager.{Site, compiled_at}
use Rattle.grammar_alone_laws.specs.Alone.{nameless}
use Rattle.parse_function.specs.Extents.{own_statements}
use Rattle.compile_function.specs.Compiling.{CanBeCompiled, IsCompiledFunction, stands_as}
use Rattle.compile_function.proofs.Shown.{same_closed}
use Rattle.lazy_compile.specs.declared.alone.FunctionAlone.{FunctionAlone}
use Rattle.lazy_compile.specs.declared.Delazified.{Delazified}
use Rattle.lazy_compile.specs.Alone.{IsReadAlone}
use Rattle.lazy_compile.specs.Delazified.{CanBeDelazified, IsCompiledAlone, all_texts}
use Rattle.lazy_compile.proofs.Records.{sound, full, kind_is}

-- ---- the name in a tree is not looked at

same_scopes : (kind : FuncKind) (name : Option Text) (f : Function) → function_scopes kind name f ≡ function_scopes kind name (nameless f)
same_scopes kind name (function form start end who ps comma bare body) = refl

same_script : (kind : FuncKind) (name : Option Text) (f : Function) (chain : List LinkView) → function_script kind name (nameless f) chain ≡ function_script kind name f chain
same_script kind name (function form start end who ps comma bare body) chain = refl

within_nameless : (kind : FuncKind) (name : Option Text) (f : Function) (chain : List LinkView) → FunctionWithin kind name f chain → FunctionWithin kind name (nameless f) chain
within_nameless kind name (function form start end who ps comma bare body) chain h = record {
  fit = h.fit;
  numbered = h.numbered;
  few_scopes = h.few_scopes;
  slots = h.slots;
  few_inner = h.few_inner;
  ordered = h.ordered;
  chain_fits = h.chain_fits;
  inner = h.inner;
}

same_start : (f : Function) → handed.function_start f ≡ start_of f
same_start (function _ _ _ _ _ _ _ _) = refl

-- the function at a site, but for the name in its tree
abbrev pub nameless_at : Site → Sited
nameless_at m = record { func = nameless m.inner.func; kind = m.inner.kind; name = m.inner.name; chain = m.chain }

-- ---- what is asked

module _ (file : List ℕ) (lazy : RecordView) (texts : List (List ℕ)) (chain : List LinkView) (items : Stmts) (m : Site) (can : CanBeDelazified file lazy texts chain items m) (alone : FunctionAlone) (read : IsReadAlone alone items m) where
  stands_there : stands_as (under alone.texts.items (own_statements items)) alone.func lazy.kind alone.name chain ≡ nameless_at m
  stands_there =
      let i = under alone.texts.items (own_statements items) in
      ap (λ (f : Function). record { func = f; kind = lazy.kind; name = option_map (text_of i) alone.name; chain = chain }) read.tree
      ∙ (ap (λ (k : FuncKind). record { func = nameless m.inner.func; kind = k; name = option_map (text_of i) alone.name; chain = chain }) (kind_is file lazy texts chain items m can)
      ∙ (ap (λ (n : Option Text). record { func = nameless m.inner.func; kind = m.inner.kind; name = n; chain = chain }) read.name_is
      ∙ ap (λ (ls : List LinkView). record { func = nameless m.inner.func; kind = m.inner.kind; name = m.inner.name; chain = ls }) can.chain_is))

  pub can_be_compiled : CanBeCompiled alone.texts.items (own_statements items) alone.func lazy.kind alone.name alone.closed.items chain (nameless_at m)
  can_be_compiled = record {
    is = stands_there;
    body = read.body;
    read = read.read;
    within = within_nameless m.inner.kind m.inner.name m.inner.func m.chain (function_within m.inner.kind m.inner.name m.inner.func m.chain can.function.stands);
    full = subst ScopesFull (same_scopes m.inner.kind m.inner.name m.inner.func) ((full file lazy texts chain items m can).inside m.inner can.function.of).scopes;
    full_name = ((full file lazy texts chain items m can).inside m.inner can.function.of).name;
    closed_are =
        read.closed_are
        ∙ (sym (same_closed (closed_names items) (start_of m.inner.func))
        ∙ (ap (handed.closed_of (closed_names items)) (sym (same_start m.inner.func))
        ∙ (sound_function items m.inner (sound file lazy texts chain items m can) can.function.of ∙ ap closed_over (same_scopes m.inner.kind m.inner.name m.inner.func))));
    knows = read.knows;
  }

  -- by what was called
  pub asked : (ts : List (List ℕ)) (names : List ClosedName) → ts ≡ alone.texts.items → names ≡ alone.closed.items → CanBeCompiled ts (own_statements items) alone.func lazy.kind alone.name names chain (nameless_at m)
  asked ts names texts_are names_are =
      subst (λ (us : List (List ℕ)). CanBeCompiled us (own_statements items) alone.func lazy.kind alone.name names chain (nameless_at m)) (sym texts_are)
      (subst (λ (ns : List ClosedName). CanBeCompiled alone.texts.items (own_statements items) alone.func lazy.kind alone.name ns chain (nameless_at m)) (sym names_are) can_be_compiled)

-- ---- what is handed down

chains_found : (i : Interpretation) (ss : List FunctionSite) → map (λ (x : Sited). x.chain) (map (sited i) ss) ≡ map (λ (s : FunctionSite). s.chain) ss
chains_found i [] = refl
chains_found i (s ∷ ss) = ap (λ (cs : List (List LinkView)). s.chain ∷ cs) (chains_found i ss)

chains_sited : (scopes : List NamedScope) (outer : List LinkView) (is : List Inner) → map (λ (x : Sited). x.chain) (map (sited_in scopes outer) is) ≡ map (chain_at scopes outer) is
chains_sited scopes outer [] = refl
chains_sited scopes outer (i ∷ is) = ap (λ (cs : List (List LinkView)). chain_at scopes outer i ∷ cs) (chains_sited scopes outer is)

pub compiled_alone : (bodies : ℕ → Stmts) (m : Site) (alone : FunctionAlone) (items : Stmts) (made : Delazified) (ts : List (List ℕ)) (inside : List FunctionSite) → IsReadAlone alone items m
    → IsCompiledFunction ts bodies made.stencil inside (nameless_at m) → ts ≡ alone.texts.items → all_texts made ≡ alone.texts.items → made.chains.items ≡ map (λ (s : FunctionSite). s.chain) inside → IsCompiledAlone made m
compiled_alone bodies m alone items made ts inside read h seen texts_are handed_down =
    let scopes = function_scopes m.inner.kind m.inner.name (nameless m.inner.func) in
    let inner = inner_function m.inner.kind m.inner.name (nameless m.inner.func) in
    let same = same_script m.inner.kind m.inner.name m.inner.func m.chain in
    record {
      stands =
          subst (λ (us : List (List ℕ)). FunctionStandsFor ShowsCommands us made.stencil (compiled_at m).part) (seen ∙ sym texts_are)
          (subst (λ (x : emitted.Compiled). FunctionStandsFor ShowsCommands ts made.stencil x.part) same h.stands);
      chains_are =
          handed_down
          ∙ (sym (chains_found (under ts bodies) inside)
          ∙ (ap (map (λ (x : Sited). x.chain)) h.found ∙ (chains_sited scopes m.chain inner ∙ ap (λ (x : emitted.Compiled). x.chains) same)));
      apart = subst AreWithoutEquals (sym texts_are) read.apart;
    }
