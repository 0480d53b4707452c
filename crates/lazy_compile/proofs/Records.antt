-- What is known of a function that can be compiled on its own: of its script, and of its record.
use Rattle.std.proofs.Common.{◌≡◌, ◌∙◌, ℕ, ◌≤◌, List, [], ◌∷◌, ◌++◌, map, length, option_map, refl, sym, ap, subst, arith}
use Rattle.script_grammar.specs.declared.token.FuncForm.{FuncForm}
use Rattle.script_grammar.specs.Lexeme.{Lexeme}
use Rattle.script_grammar.specs.Tree.{Function, function, Stmts}
use Rattle.stencil_data.specs.declared.functions.Extent.{Extent}
use Rattle.stencil_data.specs.LinkView.{LinkView}
use Rattle.stencil_data.specs.Named.{NamedRecord}
use Rattle.stencil_data.specs.StandsFor.{text_at, named_closed}
use Rattle.stencil_data.specs.Views.{RecordView}
use Rattle.parse_track.specs.Notes.{closed_names}
use Rattle.scope_analysis.specs.Functions.{Inner}
use Rattle.emit_stmts.specs.Functions.{start_of, extent_of}
use Rattle.script_grammar.specs.NameTokens.{NamesAreFull}
use Rattle.script_grammar.specs.NameTokens.{OfEachNameToken, IsNotThis}
use Rattle.scope_closed_laws.specs.Sites.{IsFunctionOf}
use Rattle.scope_closed_laws.specs.Sites as site
use Rattle.scope_closed_laws.specs.Sound.{IsSound}
use Rattle.scan_laws.proofs.OtherNames.{names_are_others}
use Rattle.scan_laws.proofs.FullNames.{names_are_full}
use Rattle.emit_limit_laws.specs.Limits.{ScriptStands}
use Rattle.emit_limit_laws.proofs.Files.{file_stands}
use Rattle.emit_limit_laws.specs.FullNames.{FullNames}
use Rattle.emit_limit_laws.proofs.FullScripts.{full_names}
use Rattle.compile_specs.specs.Eager.{Site}
use Rattle.compile_specs.specs.Shown.{closed_of}
use Rattle.grammar_alone_laws.specs.Alone as alone
use Rattle.grammar_alone_laws.specs.Functions.{IsFunctionIn, directly, inside}
use Rattle.parse_function.specs.Extents.{IsExtentOf, IsFunctionExtent, extents_in}
use Rattle.parse_function.proofs.ReadingExtents.{in_file}
use Rattle.lazy_compile.specs.Delazified.{CanBeDelazified}
use Rattle.lazy_compile.specs.Forms.{form_of}
use Rattle.lazy_compile.proofs.WrittenForms.{written_as}

-- ---- tokens in front of others

names_front : (ts us : List Lexeme) → NamesAreFull (ts ++ us) → NamesAreFull ts
names_front [] us h = tt
names_front (t ∷ ts) us h = (h.0, names_front ts us h.1)

others_front : (ts us : List Lexeme) → OfEachNameToken IsNotThis (ts ++ us) → OfEachNameToken IsNotThis ts
others_front [] us h = tt
others_front (t ∷ ts) us h = (h.0, others_front ts us h.1)

-- ---- where a function stands

extent_start : (f : Function) → (extent_of f).start ≡ start_of f
extent_start (function _ start _ _ _ _ _ _) = refl

reader_start : (f : Function) → alone.start_of f ≡ (extent_of f).start
reader_start (function _ start _ _ _ _ _ _) = refl

reader_end : (f : Function) → alone.end_of f ≡ (extent_of f).end
reader_end (function _ _ end _ _ _ _ _) = refl

pub is_in : (items : Stmts) (f : Inner) → IsFunctionOf items f → IsFunctionIn items f
is_in items f (site.directly f' c) = directly f' c
is_in items f (site.inside around f' o c) = inside around f' (is_in items around o) c

module _ (file : List ℕ) (lazy : RecordView) (texts : List (List ℕ)) (chain : List LinkView) (items : Stmts) (m : Site) (can : CanBeDelazified file lazy texts chain items m) where
  -- ---- the script

  stands : ScriptStands can.text.inner can.text.end items
  stands = file_stands file can.text.inner can.text.end items (let short = can.short in omega (arith, short)) can.utf8 can.text.split can.text.script can.text.shallow can.faultless

  pub sound : IsSound items
  sound = record {
    tokens = can.text.inner;
    end = can.text.end;
    script = can.text.script;
    rise = stands.rise;
    names = others_front can.text.inner (can.text.end ∷ []) (subst (OfEachNameToken IsNotThis) can.text.split (names_are_others file));
    faultless = can.faultless;
  }

  pub full : FullNames items
  full = full_names can.text.inner can.text.end items can.text.script (names_front can.text.inner (can.text.end ∷ []) (subst NamesAreFull can.text.split (names_are_full file)))

  -- ---- the record

  extent_is : lazy.extent ≡ extent_of m.inner.func
  extent_is = ap (λ (r : NamedRecord). r.extent) can.recorded.stands.is

  pub kind_is : lazy.kind ≡ m.inner.kind
  kind_is = ap (λ (r : NamedRecord). r.kind) can.recorded.stands.is

  pub name_is : option_map (text_at texts) lazy.name ≡ m.inner.name
  name_is = ap (λ (r : NamedRecord). r.name) can.recorded.stands.is

  pub closed_are : map (named_closed texts) lazy.closed ≡ closed_of (closed_names items) (start_of m.inner.func)
  closed_are = ap (λ (r : NamedRecord). r.closed) can.recorded.stands.is ∙ ap (closed_of (closed_names items)) (extent_start m.inner.func)

  -- ---- where the record says that the function stands

  pub extent_of_record : (form : FuncForm) → form ≡ form_of lazy.kind → IsExtentOf file lazy.extent form items m.inner
  extent_of_record form is = record {
    utf8 = can.utf8;
    text = can.text;
    inside = is_in items m.inner can.function.of;
    form_is = written_as items can.text.script.proper m.inner can.function.of ∙ (ap form_of (sym kind_is) ∙ sym is);
    starts = reader_start m.inner.func ∙ ap (λ (e : Extent). e.start) (sym extent_is);
    ends = reader_end m.inner.func ∙ ap (λ (e : Extent). e.end) (sym extent_is);
  }

  pub some_extent : (form : FuncForm) → form ≡ form_of lazy.kind → (within : List Extent) → within ≡ extents_in m.inner → IsFunctionExtent file lazy.extent form within
  some_extent form is within are = record { items = items; inner = m.inner; is = extent_of_record form is; inside_are = are }

  pub ends_in_file : lazy.extent.end ≤ length file
  ends_in_file = in_file file lazy.extent (form_of lazy.kind) items m.inner (extent_of_record (form_of lazy.kind) refl)
