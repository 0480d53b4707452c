-- How many functions are shown compiled: as many as are counted while the functions of a script are compiled, and that is one number.
use Rattle.std.proofs.Common.{Bool, List, None, Option, Some, [], ap, append_assoc, ap₂, arith, cond, false, filter, inl, inr, le-leb, length, map, refl, subst, suc, sym, true, ℕ, ◌&&◌, ◌++◌, ◌+◌, ◌||◌, ◌∙◌, ◌∷◌, ◌≡◌}
use Rattle.std.proofs.lemmas.List.{length-map}
use Rattle.std.proofs.lemmas.List.Folds.{list_any-append}
use Rattle.std.specs.List.{list_any}
use Rattle.std.specs.Prelude.{if◌then◌else◌}
use Rattle.bytecode_buf.specs.Command.{Command}
use Rattle.compile_first_pass.specs.Passes.{IsSyntaxOf}
use Rattle.compile_first_pass.specs.declared.pass.SyntaxScript.{SyntaxScript}
use Rattle.compile_initial.specs.Initial.{IsInitialOf}
use Rattle.compile_initial.specs.declared.InitialStencil.{InitialStencil}
use Rattle.compile_session.proofs.SourceLemmas.{one_shown, same_valid, sources_equal}
use Rattle.compile_shown.proofs.Flags.{same_extents}
use Rattle.compile_shown.specs.Counting.{shown_count}
use Rattle.compile_shown.specs.Shown.{shown_in}
use Rattle.compile_specs.proofs.Counts.{one_count}
use Rattle.compile_specs.specs.Counted.{HasFunctions}
use Rattle.compile_specs.specs.Eager.{IsEager, Site, compiled_at}
use Rattle.compile_specs.specs.Shown.{IsShown, entry, extents_of, is_shown, is_within, number_of, shown, starts_of, wants}
use Rattle.emit_limit_laws.proofs.SiteCounts.{functions_counted}
use Rattle.parse_track.specs.Notes.{closed_names}
use Rattle.script_grammar.specs.Tree.{Stmts}
use Rattle.session_specs.specs.Answer.{to_show}
use Rattle.session_specs.specs.Compiled.{Compiles, CompilesAsked, CompilesFile, CompilesFiles, CompilesOf, CompilesSource, ShowsCompiled, compiled_among, compiles_none, shows_scripts, wants_none}
use Rattle.session_specs.specs.Sources.{IsRefused, IsScript, Source}
use Rattle.session_trial.specs.Generated.{generated}
use Rattle.session_words.specs.Asked.{Asked, Churn, Files, Trial, Wanted, job}
use Rattle.session_words.specs.declared.options.Command.{Command as Word}
use Rattle.stencil_data.specs.Named.{NamedFunction, NamedInitial, NamedMerged}
use Rattle.stencil_data.specs.declared.functions.Extent.{Extent}
use Rattle.session_words.specs.Asked as asked
use Rattle.compile_specs.specs.Shown as show

-- ---- those that are shown

one_entry : (b : Bool) (f : NamedFunction (List Command)) (e : Extent) (entries : List (Option (NamedFunction (List Command)))) (others : List Extent) → compiled_among entries ≡ length others
    → compiled_among ((if b then Some f else None) ∷ entries) ≡ length (cond b (e ∷ others) others)
one_entry true f e entries others same = omega (arith, same)
one_entry false f e entries others same = same

entries_counted : (want : show.Wanted) (all : List Extent) (starts : List ℕ) (fs : List (NamedFunction (List Command))) → compiled_among (map (entry want all starts) fs) ≡ length (filter (is_shown want all) (extents_of fs))
entries_counted want all starts [] = refl
entries_counted want all starts (f ∷ fs) =
    one_entry (is_shown want all f.extent) (show.with_numbers starts f) f.extent (map (entry want all starts) fs) (filter (is_shown want all) (extents_of fs)) (entries_counted want all starts fs)

-- of what is shown of a script, as many functions are compiled as are shown
shown_counted : (want : show.Wanted) (items : Stmts) (end : ℕ) (merged : NamedMerged (List Command)) (is : IsShown want items end merged) → compiled_among merged.entries ≡ shown_count want (extents_of is.1)
shown_counted want items end merged is = ap (λ (m : NamedMerged (List Command)). compiled_among m.entries) is.3 ∙ entries_counted want (extents_of is.1) (starts_of is.1) is.1

-- what was counted while the functions of a script were compiled
pub shown_compiles : (want : Wanted) (bytes : List ℕ) (made : InitialStencil) (is : IsInitialOf bytes made) (count : ℕ) → count ≡ shown_in (to_show want) made → Compiles want is.items (length bytes) count
shown_compiles want bytes made is count counted =
    let top : NamedFunction (List Command) = is.named.top in
    let fs : List (NamedFunction (List Command)) = map (λ (s : Site). (compiled_at s).part) is.all in (
      shown (to_show want) (closed_names is.items) top fs,
      (top, fs, record { script = ap (λ (n : NamedInitial (List Command)). n.top) is.is; all = is.all; are = is.functions; each = refl }, refl),
      counted ∙ (ap (shown_count (to_show want)) (same_extents (to_show want) bytes made is) ∙ sym (entries_counted (to_show want) (extents_of fs) (starts_of fs) fs)),
    )

-- the same of a script that was read without trees
pub script_compiles : (want : Wanted) (bytes : List ℕ) (script : SyntaxScript) (made : InitialStencil) (count : ℕ) → IsInitialOf bytes made → count ≡ shown_in (to_show want) made → (is : IsSyntaxOf bytes script) → Compiles want is.items (length bytes) count
script_compiles want bytes script made count before counted is =
    subst (λ (items : Stmts). Compiles want items (length bytes) count) (same_valid bytes before.items is.items (length made.parts.records) (length script.functions.items) before.valid is.valid).0
    (shown_compiles want bytes made before count counted)

-- ---- where none is wanted

and_false : (b : Bool) → (b && false) ≡ false
and_false true = refl
and_false false = refl

none_in : (x : Extent) (all some : List Extent) → list_any (λ (e : Extent). is_within x e && wants (show.Numbers []) (number_of (map (λ (a : Extent). a.start) all) e.start)) some ≡ false
none_in x all [] = refl
none_in x all (e ∷ some) = ap₂ (λ (a : Bool) (b : Bool). a || b) (and_false (is_within x e)) (none_in x all some)

none_passes : (all some : List Extent) → length (filter (is_shown (show.Numbers []) all) some) ≡ 0
none_passes all [] = refl
none_passes all (e ∷ some) =
    ap (λ (b : Bool). length (cond b (e ∷ filter (is_shown (show.Numbers []) all) some) (filter (is_shown (show.Numbers []) all) some))) (none_in e all all) ∙ none_passes all some

none_compiles : (items : Stmts) (size count : ℕ) → Compiles asked.Nothing items size count → count ≡ 0
none_compiles items size count c = c.2 ∙ (shown_counted (show.Numbers []) items size c.0 c.1 ∙ none_passes (extents_of c.1.1) (extents_of c.1.1))

none_of_source : (size : ℕ) (source : Source) (count : ℕ) → CompilesSource asked.Nothing size source count → count ≡ 0
none_of_source size (IsScript items functions) count c = none_compiles items size count c
none_of_source size (IsRefused why) count c = c

-- of a file, where its script is not shown or no function is wanted
pub none_compiled : (shows : Bool) (want : Wanted) (file : List ℕ) (count : ℕ) → (if shows then wants_none want else true) ≡ true → CompilesOf shows want file count → count ≡ 0
none_compiled true asked.All file count none c = absurd (cc)
none_compiled true asked.Nothing file count none c = none_of_source (length file) c.0 count c.2
none_compiled true (asked.Numbers ns) file count none c = absurd (cc)
none_compiled false want file count none c = c

-- ---- where all are wanted

is_in_itself : (x : Extent) → is_within x x ≡ true
is_in_itself x = ap₂ (λ (a : Bool) (b : Bool). a && b) (le-leb x.start x.start (omega arith)) (le-leb x.end x.end (omega arith))

or_true : (a b : Bool) → b ≡ true → (a || b) ≡ true
or_true true b is = refl
or_true false b is = is

-- whether one of these functions is in one of this extent
abbrev any_in : Extent → List Extent → Bool
any_in x all = list_any (λ (e : Extent). is_within x e && true) all

found : (x : Extent) (front back : List Extent) → any_in x (front ++ x ∷ back) ≡ true
found x front back =
    list_any-append (λ (e : Extent). is_within x e && true) front (x ∷ back)
    ∙ or_true (any_in x front) (any_in x (x ∷ back)) (ap (λ (b : Bool). (b && true) || any_in x back) (is_in_itself x))

all_pass : (front back : List Extent) → length (filter (λ (x : Extent). any_in x (front ++ back)) back) ≡ length back
all_pass front [] = refl
all_pass front (x ∷ back) =
    ap (λ (b : Bool). length (cond b (x ∷ filter (λ (y : Extent). any_in y (front ++ x ∷ back)) back) (filter (λ (y : Extent). any_in y (front ++ x ∷ back)) back))) (found x front back)
    ∙ ap suc (ap (λ (l : List Extent). length (filter (λ (y : Extent). any_in y l) back)) (sym (append_assoc front (x ∷ []) back)) ∙ all_pass (front ++ x ∷ []) back)

-- as many are compiled as the script has
pub all_compiled : (items : Stmts) (size count functions : ℕ) → Compiles asked.All items size count → HasFunctions items functions → count ≡ functions
all_compiled items size count functions c has =
    let e : IsEager items size c.1.0 c.1.1 = c.1.2 in
    c.2
    ∙ (shown_counted show.All items size c.0 c.1
    ∙ (all_pass [] (extents_of c.1.1)
    ∙ (length-map c.1.1 (λ (f : NamedFunction (List Command)). f.extent)
    ∙ (ap length e.each
    ∙ (length-map e.all (λ (s : Site). (compiled_at s).part)
    ∙ one_count items (length e.all) functions (functions_counted items size e.all e.are) has)))))

-- ---- one number

one_compiles : (want : Wanted) (items : Stmts) (size a b : ℕ) → Compiles want items size a → Compiles want items size b → a ≡ b
one_compiles want items size a b h k = h.2 ∙ (ap (λ (m : NamedMerged (List Command)). compiled_among m.entries) (one_shown (to_show want) items size h.0 k.0 h.1 k.1) ∙ sym k.2)

one_of_source : (want : Wanted) (size : ℕ) (source : Source) (a b : ℕ) → CompilesSource want size source a → CompilesSource want size source b → a ≡ b
one_of_source want size (IsScript items functions) a b h k = one_compiles want items size a b h k
one_of_source want size (IsRefused why) a b h k = h ∙ sym k

one_of_file : (shows : Bool) (want : Wanted) (file : List ℕ) (a b : ℕ) → CompilesOf shows want file a → CompilesOf shows want file b → a ≡ b
one_of_file true want file a b h k =
    let e = sources_equal want file h.0 k.0 h.1 k.1 in
    one_of_source want (length file) k.0 a b (subst (λ (s : Source). CompilesSource want (length file) s a) e h.2) k.2
one_of_file false want file a b h k = h ∙ sym k

one_behind : (command : Word) (want : Wanted) (before : ℕ) (file : List ℕ) (a b : ℕ) → CompilesFile command want before file a → CompilesFile command want before file b → a ≡ b
one_behind command want before file a b (inl h) (inl k) = h.1 ∙ sym k.1
one_behind command want before file a b (inl h) (inr k) = absurd (let p = h.0 in let q = k.0 in omega (arith, p, q))
one_behind command want before file a b (inr h) (inl k) = absurd (let p = h.0 in let q = k.0 in omega (arith, p, q))
one_behind command want before file a b (inr h) (inr k) = one_of_file (shows_scripts command) want file a b h.1 k.1

one_of_files : (command : Word) (want : Wanted) (held : List ℕ → List ℕ) (before : ℕ) (names : List (List ℕ)) (a b : ℕ) → CompilesFiles command want held before names a → CompilesFiles command want held before names b → a ≡ b
one_of_files command want held before [] a b h k = h ∙ sym k
one_of_files command want held before (name ∷ names) a b h k =
    h.4
    ∙ (ap₂ (λ (m : ℕ) (n : ℕ). m + n) (one_behind command want before (held name) h.0 k.0 h.2 k.2) (one_of_files command want held (before + length (held name)) names h.1 k.1 h.3 k.3)
    ∙ sym k.4)

pub one_asked : (a : Asked) (held : List ℕ → List ℕ) (m n : ℕ) → CompilesAsked a held m → CompilesAsked a held n → m ≡ n
one_asked (Files job) held m n h k = one_of_files job.command job.want held 0 job.files m n h k
one_asked (Trial number size workers) held m n h k = (same_valid (generated number size) h.0 k.0 m n h.1.valid k.1.valid).1
one_asked (Churn number size workers) held m n h k = absurd h

some_same : (a b : Asked) → ◌≡◌ {A = Option Asked} (Some a) (Some b) → a ≡ b
some_same a b h = cc

-- the answer to words shows one number of functions compiled
pub one_number : (words : List (List ℕ)) (held : List ℕ → List ℕ) (m n : ℕ) → ShowsCompiled words held m → ShowsCompiled words held n → m ≡ n
one_number words held m n h k =
    one_asked k.asked held m n (subst (λ (a : Asked). CompilesAsked a held m) (some_same h.asked k.asked (sym h.form ∙ k.form)) h.compiled) k.compiled

-- ---- words for which none is compiled

none_of_files : (command : Word) (want : Wanted) (held : List ℕ → List ℕ) (before : ℕ) (names : List (List ℕ)) (count : ℕ) → (if shows_scripts command then wants_none want else true) ≡ true → CompilesFiles command want held before names count → count ≡ 0
none_of_files command want held before [] count none h = h
none_of_files command want held before (name ∷ names) count none h =
    let first = by h.2 in
    let later = none_of_files command want held (before + length (held name)) names h.1 none h.3 in
    let both = h.4 in
    omega (arith, first, later, both)
  where
    by : CompilesFile command want before (held name) h.0 → h.0 ≡ 0
    by (inl l) = l.1
    by (inr s) = none_compiled (shows_scripts command) want (held name) h.0 none s.1

-- for these the answer shows none compiled
pub none_asked : (a : Asked) (held : List ℕ → List ℕ) (count : ℕ) → compiles_none a ≡ true → CompilesAsked a held count → count ≡ 0
none_asked (Files job) held count none h = none_of_files job.command job.want held 0 job.files count none h
none_asked (Trial number size workers) held count none h = absurd (cc)
none_asked (Churn number size workers) held count none h = absurd (cc)
