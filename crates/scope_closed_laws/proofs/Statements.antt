-- The scopes of statements have the closed names of what the statements tell.
use Rattle.std.proofs.Common.{◌≡◌, ℕ, ◌+◌, Bool, true, false, bytes_eq, None, Some, List, [], ◌∷◌, length, refl, sym, ap, ap₂, subst, ◌∙◌, append-nil, zero-add, add-zero}
use Rattle.script_grammar.specs.declared.token.Decl.{Decl}
use Rattle.script_grammar.specs.Pieces.{whole}
use Rattle.script_grammar.specs.Proper.{ProperStmt, ProperStmts, ProperElse, ProperClauses}
use Rattle.script_grammar.specs.Tree.{Named, Expr, Exprs, no_exprs, more_exprs, MaybeExpr, no_expr, some_expr, MaybeArgs, no_args, some_args, Parts, no_parts, more_parts, Items, no_items, more_items, Operands, no_operands, more_operands, Tail, Tails, no_tails, more_tails, Key, Prop, Props, no_props, more_props, Function, function, Params, no_params, more_params, Body, BracedBody, ShortBody, Binds, no_binds, more_binds, Init, Each, Clauses, no_clauses, more_clauses, Stmt, Stmts, no_stmts, more_stmts, MaybeStmt, no_stmt, some_stmt}
use Rattle.script_grammar.specs.Tree as tree
use Rattle.stencil_data.specs.declared.scopes.ScopeKind.{ScopeKind}
use Rattle.stencil_data.specs.declared.scopes.ScopeKind.TheVariants as scope
use Rattle.stencil_data.specs.Named.{NamedScope}
use Rattle.stencil_data.specs.Resolve.{is_global}
use Rattle.parse_track.specs.declared.region.Declare.TheVariants as how
use Rattle.parse_track.specs.Told as told
use Rattle.parse_track.specs.Told.{Region, Told, nothing, leaf, inner}
use Rattle.parse_track.specs.RegionNames.{is_lexical, directly}
use Rattle.parse_track.specs.ClosedNames.{names_of, distinct, scope_if_any}
use Rattle.parse_track.specs.Tells.{Text, spelled, labelled_region, labels_on, tells_binds, tells_init, tells_each, tells_clauses, tells_stmt, tells_stmts, tells_maybe_stmt}
use Rattle.scope_analysis.specs.DeclaredNames.{Declaration, has_text, texts_of, lexical_names, clauses_lexical_names, init_lexical_names, each_lexical_names}
use Rattle.scope_analysis.specs.Uses.{Uses, uses_clauses}
use Rattle.scope_analysis.specs.Scopes.{Within, scope_around, scope_count, catch_names, count_stmt, count_stmts, count_else, count_clauses, for_inner, for_in_inner, block_inner, catch_inner, scopes_stmt, scopes_stmts, scopes_else, scopes_clauses}
use Rattle.grammar_start_laws.specs.Started.{Started}
use Rattle.scope_analysis.specs.Functions.{Inner}
use Rattle.scope_closed_laws.proofs.Own.{scopes_in, reaches_in, count_in, own, Tidy, Clean}
use Rattle.scope_closed_laws.proofs.Quiet.{quiet, quiet_maybe, quiet_function}
use Rattle.scope_closed_laws.proofs.Declaring.{IsPlain, plain_block, plain_switch, plain_head, plain_catch, plain_loop, plain_label, block_long, inside_lexical, inside_count, lexical_in_block, clauses_texts, plain_as, quiet_front, declares_both, declares_init, declares_each, declares_stmt, declares_stmts, declares_clauses}
use Rattle.scope_closed_laws.proofs.Reading.{Reads, reads_both}
use Rattle.scope_closed_laws.proofs.Parts.{block_of, reads, reads_init, reads_option, reads_each, reads_clauses, reads_stmt, reads_stmts}
use Rattle.scope_closed_laws.proofs.Scoping.{Once, distinct_once, distinct_same, Scoped, scoped_none, scoped_quiet, scoped_front, scoped_back, scoped_both, scoped_bare, scoped_around}
use Rattle.scope_closed_laws.proofs.Texts.{or_false}

-- what functions in a part use, by what it tells alone
pub reach_inner : (u : Uses) (bs : List Started) (fs : List Inner) (i : Told Text) → Reads u bs fs nothing i → (x : Text) → reaches_in false false x i ≡ has_text u.inner x
reach_inner u bs fs i r x = r.reach false x ∙ or_false (has_text u.inner x)

pub texts_long : (ds : List Declaration) → length (scope_if_any (texts_of ds)) ≡ scope_count ds
texts_long [] = refl
texts_long (d ∷ ds) = refl

-- a region that binds its lexical names
pub lexical_scoped : (kind : ScopeKind) (k : Region Text) (at c : ℕ) (ds : List Declaration) (uses : List Text) (p : Within → List NamedScope) (i t : Told Text) → is_global kind ≡ false → IsPlain k
    → scopes_in k i ≡ scope_if_any (distinct bytes_eq (names_of (directly is_lexical i))) → Tidy i → names_of (directly is_lexical i) ≡ texts_of ds
    → ((x : Text) → reaches_in false false x i ≡ has_text uses x) → count_in false i ≡ c → Scoped c p nothing i → Scoped (scope_count ds + c) (scope_around kind ds uses p) t (inner k at i t)
lexical_scoped kind k at c ds uses p i t global plain e tidy is reach count h =
    let same = distinct_same (directly is_lexical i) tidy.lexical in
    scoped_around kind k at c ds uses p (names_of (directly is_lexical i)) i t global plain (e ∙ ap scope_if_any same) (subst Once same (distinct_once (names_of (directly is_lexical i)))) is reach
    (ap (λ us. length (scope_if_any us)) is ∙ texts_long ds) count h

scoped_by : (c : ℕ) (p : Within → List NamedScope) (s t u : Told Text) → ((n : ℕ) → own false n u ≡ own false n t) → Scoped c p s t → Scoped c p s u
scoped_by c p s t u e h = record { long = h.long; alone = λ n w. e n ∙ h.alone n w }

scoped_silent : (t u : Told Text) → ((n : ℕ) → own false n u ≡ own false n t) → Scoped 0 (λ w. []) t u
scoped_silent t u e = scoped_by 0 (λ w. []) t t u e (scoped_none t)

scoped_count : (c d : ℕ) (p : Within → List NamedScope) (s t : Told Text) → c ≡ d → Scoped c p s t → Scoped d p s t
scoped_count c d p s t e h = subst (λ (n : ℕ). Scoped n p s t) e h

-- ---- names have no scope of their own

binds_alone : (d : Decl) (binds : Binds) (t : Told Text) (n : ℕ) → own false n (tells_binds d binds t) ≡ own false n t
binds_alone d no_binds t n = refl
binds_alone d (more_binds name value rest) t n = (quiet_maybe value _).alone n ∙ binds_alone d rest t n

init_alone : (init : Init) (t : Told Text) (n : ℕ) → own false n (tells_init init t) ≡ own false n t
init_alone tree.NoInit t n = refl
init_alone (tree.ValueInit e) t n = (quiet e t).alone n
init_alone (tree.BindsInit d binds) t n = binds_alone d binds t n

each_alone : (each : Each) (t : Told Text) (n : ℕ) → own false n (tells_each each t) ≡ own false n t
each_alone (tree.TargetEach e) t n = (quiet e t).alone n
each_alone (tree.BindEach d name) t n = refl

declared_alone : (top : Bool) (f : Function) (t : Told Text) (n : ℕ) → own false n (tells_stmt top (tree.Declared f) t) ≡ own false n t
declared_alone top (function form start end None params comma bare body) t n = (quiet_function (function form start end None params comma bare body) t).alone n
declared_alone top (function form start end (Some name) params comma bare body) t n = (quiet_function (function form start end (Some name) params comma bare body) t).alone n

-- ---- statements with regions

pub block_scoped : (items : Stmts) (inside : Bool) (t : Told Text) → ProperStmts whole inside items → Tidy (tells_stmts false items nothing) → Scoped (count_stmts items) (scopes_stmts items) nothing (tells_stmts false items nothing)
    → Scoped (scope_count (lexical_names items) + count_stmts items) (scope_around scope.Lexical (lexical_names items) (block_inner items) (scopes_stmts items)) t (inner told.Block 0 (tells_stmts false items nothing) t)
block_scoped items inside t p tidy h =
    let declares = declares_stmts false items inside nothing p in
    lexical_scoped scope.Lexical told.Block 0 (count_stmts items) (lexical_names items) (block_inner items) (scopes_stmts items) (tells_stmts false items nothing) t refl plain_block refl tidy
    (inside_lexical _ _ _ _ _ declares (lexical_in_block items)) (reach_inner _ _ _ _ (reads_stmts items false inside 0 [] nothing p)) (inside_count _ _ _ _ declares) h

block_count : (items : Stmts) (inside : Bool) → ProperStmts whole inside items → count_in false (inner told.Block 0 (tells_stmts false items nothing) nothing) ≡ scope_count (lexical_names items) + count_stmts items
block_count items inside p =
    let declares = declares_stmts false items inside nothing p in
    add-zero _ ∙ ap₂ (λ (a b : ℕ). a + b) (block_long (tells_stmts false items nothing) (lexical_names items) (inside_lexical _ _ _ _ _ declares (lexical_in_block items))) (inside_count _ _ _ _ declares)

catch_scoped : (name : Named) (items : Stmts) (inside : Bool) (t : Told Text) → ProperStmts whole inside items
    → Scoped (scope_count (lexical_names items) + count_stmts items) (scope_around scope.Lexical (lexical_names items) (block_inner items) (scopes_stmts items)) nothing (inner told.Block 0 (tells_stmts false items nothing) nothing)
    → Scoped (1 + (scope_count (lexical_names items) + count_stmts items))
    (scope_around scope.SimpleCatch (catch_names (Some name)) (catch_inner items) (scope_around scope.Lexical (lexical_names items) (block_inner items) (scopes_stmts items))) t
    (inner told.Catch 0 (leaf (told.Declared how.Catch (spelled name)) (inner told.Block 0 (tells_stmts false items nothing) nothing)) t)
catch_scoped name items inside t p h =
    scoped_around scope.SimpleCatch told.Catch 0 (scope_count (lexical_names items) + count_stmts items) (catch_names (Some name)) (catch_inner items)
    (scope_around scope.Lexical (lexical_names items) (block_inner items) (scopes_stmts items)) (name.text ∷ []) _ t refl plain_catch refl (refl, tt) refl
    (reach_inner _ _ _ _ (block_of items inside nothing p (reads_stmts items false inside 0 [] nothing p))) refl (block_count items inside p) (record { long = h.long; alone = h.alone })

-- the head of a loop with its body
head_scoped : (ds : List Declaration) (uses : List Text) (c : ℕ) (p : Within → List NamedScope) (i t : Told Text) → Tidy i → names_of (directly is_lexical i) ≡ texts_of ds
    → ((x : Text) → reaches_in false false x i ≡ has_text uses x) → count_in false i ≡ c → Scoped c p nothing i
    → Scoped (scope_count ds + c) (scope_around scope.Lexical ds uses p) t (inner told.Loop 0 (inner told.ForHead 0 i nothing) t)
head_scoped ds uses c p i t tidy is reach count h =
    scoped_bare told.Loop 0 (scope_count ds + c) (scope_around scope.Lexical ds uses p) (inner told.ForHead 0 i nothing) t plain_loop refl
    (add-zero _ ∙ ap₂ (λ (a b : ℕ). a + b) (block_long i ds is) count)
    (lexical_scoped scope.Lexical told.ForHead 0 c ds uses p i nothing refl plain_head refl tidy is reach count h)

labelled_clean : (b : Bool) (i : Told Text) → Clean (labelled_region b i) → Clean i
labelled_clean true i c = c
labelled_clean false i c = c.1

labelled_scoped : (b : Bool) (c : ℕ) (p : Within → List NamedScope) (i : Told Text) → names_of (directly is_lexical i) ≡ [] → count_in false i ≡ c → Scoped c p nothing i → Scoped c p nothing (labelled_region b i)
labelled_scoped true c p i e count h = h
labelled_scoped false c p i e count h = scoped_bare told.Block 0 c p i nothing plain_block (ap (λ (us : List Text). scope_if_any (distinct bytes_eq us)) e) count h

labelled_count : (b : Bool) (c : ℕ) (i : Told Text) → names_of (directly is_lexical i) ≡ [] → count_in false i ≡ c → count_in false (labelled_region b i) ≡ c
labelled_count true c i e count = count
labelled_count false c i e count = add-zero _ ∙ (ap₂ (λ (us : List Text) (n : ℕ). length (scope_if_any (distinct bytes_eq us)) + n) e count ∙ zero-add c)

mutual
  pub scoped_stmt : (s : Stmt) (top inside : Bool) (t : Told Text) → ProperStmt whole inside s → Clean (tells_stmt top s t) → Scoped (count_stmt s) (scopes_stmt s) t (tells_stmt top s t)
  scoped_stmt (tree.Block items) top inside t p c = block_scoped items inside t p c.0 (scoped_stmts items false inside nothing p c.1)
  scoped_stmt tree.Empty top inside t p c = scoped_none t
  scoped_stmt (tree.Debugger semi) top inside t p c = scoped_none t
  scoped_stmt (tree.Binding d binds semi) top inside t p c = scoped_silent t _ (binds_alone d binds t)
  scoped_stmt (tree.Value e semi) top inside t p c = scoped_quiet t _ (quiet e t)
  scoped_stmt (tree.If test then_stmt else_stmt) top inside t p c =
      scoped_front _ _ _ _ _ (quiet test _)
      (scoped_both _ _ _ _ _ _ _ (scoped_stmt then_stmt false inside _ p.2 ((quiet test _).clean c)) (scoped_else else_stmt inside t p.4 ((declares_stmt false then_stmt inside _ p.2).clean ((quiet test _).clean c))))
  scoped_stmt (tree.Do body test semi) top inside t p c =
      scoped_bare told.Loop 0 _ _ _ t plain_loop refl
      ((declares_stmt false body inside _ p.1).counted ∙ (ap (λ (n : ℕ). count_stmt body + n) (quiet test nothing).count ∙ add-zero _))
      (scoped_back _ _ _ _ _ (scoped_stmt body false inside _ p.1 c.1) (quiet test nothing))
  scoped_stmt (tree.While test body) top inside t p c =
      scoped_bare told.Loop 0 _ _ _ t plain_loop refl ((quiet test _).count ∙ inside_count _ _ _ _ (declares_stmt false body inside nothing p.2))
      (scoped_front _ _ _ _ _ (quiet test _) (scoped_stmt body false inside nothing p.2 ((quiet test _).clean c.1)))
  scoped_stmt (tree.For init test update body) top inside t p c =
      let declares = declares_both _ _ _ _ _ _ _ _ _ (declares_init init _) (quiet_front _ _ _ _ _ _ (quiet_maybe test _) (quiet_front _ _ _ _ _ _ (quiet_maybe update _) (plain_as body _ _ _ p.3 (declares_stmt false body inside nothing p.4)))) in
      head_scoped (init_lexical_names init) (for_inner init test update body) (count_stmt body) (scopes_stmt body) _ t c.1.0
      (inside_lexical _ _ _ _ _ declares (append-nil _))
      (reach_inner _ _ _ _ (reads_both _ _ _ _ _ _ _ _ _ (reads_init init [] _ p.0) (reads_both _ _ _ _ _ _ _ _ _ (reads_option test [] _ p.1) (reads_both _ _ _ _ _ _ _ _ _ (reads_option update [] _ p.2) (reads_stmt body false inside 0 [] nothing p.4)))))
      (inside_count _ _ _ _ declares ∙ zero-add _)
      (scoped_by _ _ _ _ _ (init_alone init _) (scoped_front _ _ _ _ _ (quiet_maybe test _) (scoped_front _ _ _ _ _ (quiet_maybe update _)
      (scoped_stmt body false inside nothing p.4 ((quiet_maybe update _).clean ((quiet_maybe test _).clean ((declares_init init _).clean c.1.1)))))))
  scoped_stmt (tree.ForIn each over body) top inside t p c =
      let declares = declares_both _ _ _ _ _ _ _ _ _ (declares_each each _) (quiet_front _ _ _ _ _ _ (quiet over _) (plain_as body _ _ _ p.2 (declares_stmt false body inside nothing p.3))) in
      head_scoped (each_lexical_names each) (for_in_inner each over body) (count_stmt body) (scopes_stmt body) _ t c.1.0
      (inside_lexical _ _ _ _ _ declares (append-nil _))
      (reach_inner _ _ _ _ (reads_both _ _ _ _ _ _ _ _ _ (reads_each each [] _ p.0) (reads_both _ _ _ _ _ _ _ _ _ (reads over [] _ p.1) (reads_stmt body false inside 0 [] nothing p.3))))
      (inside_count _ _ _ _ declares ∙ zero-add _)
      (scoped_by _ _ _ _ _ (each_alone each _) (scoped_front _ _ _ _ _ (quiet over _) (scoped_stmt body false inside nothing p.3 ((quiet over _).clean ((declares_each each _).clean c.1.1)))))
  scoped_stmt (tree.Continue at label semi) top inside t p c = scoped_silent t _ (λ n. refl)
  scoped_stmt (tree.Break at label semi) top inside t p c = scoped_silent t _ (λ n. refl)
  scoped_stmt (tree.Return value semi) top inside t p c = scoped_quiet t _ (quiet_maybe value t)
  scoped_stmt (tree.Throw e semi) top inside t p c = scoped_quiet t _ (quiet e t)
  scoped_stmt (tree.Switch e clauses) top inside t p c =
      let declares = declares_clauses clauses inside nothing p.2 in
      let clean = (quiet e _).clean c in
      scoped_front _ _ _ _ _ (quiet e _)
      (lexical_scoped scope.Lexical told.Switch 0 (count_clauses clauses) (clauses_lexical_names clauses) (uses_clauses clauses).inner (scopes_clauses clauses) _ t refl plain_switch refl clean.0
      (inside_lexical _ _ _ _ _ declares (clauses_texts clauses)) (reach_inner _ _ _ _ (reads_clauses clauses inside 0 [] nothing p.2)) (inside_count _ _ _ _ declares)
      (scoped_clauses clauses inside nothing p.2 clean.1))
  scoped_stmt (tree.Label name body) top inside t p c =
      let declares = plain_as body _ _ _ p.0 (declares_stmt false body inside nothing p.1) in
      let none = inside_lexical _ _ _ _ _ declares refl in
      let count = inside_count _ _ _ _ declares in
      scoped_bare (told.Label (spelled name)) 0 _ _ _ t (plain_label (spelled name)) refl (labelled_count (labels_on body) _ _ none count)
      (labelled_scoped (labels_on body) _ _ _ none count (scoped_stmt body false inside nothing p.1 (labelled_clean (labels_on body) _ c.1)))
  scoped_stmt (tree.Try body None handler) top inside t p c =
      scoped_count _ _ _ _ _ (ap (λ (n : ℕ). scope_count (lexical_names body) + count_stmts body + n) (sym (zero-add _)))
      (scoped_both _ _ _ _ _ _ _ (block_scoped body inside _ p.0 c.0 (scoped_stmts body false inside nothing p.0 c.1)) (block_scoped handler inside t p.1 c.2.0 (scoped_stmts handler false inside nothing p.1 c.2.1)))
  scoped_stmt (tree.Try body (Some name) handler) top inside t p c =
      scoped_both _ _ _ _ _ _ _ (block_scoped body inside _ p.0 c.0 (scoped_stmts body false inside nothing p.0 c.1))
      (catch_scoped name handler inside t p.1 (block_scoped handler inside nothing p.1 c.2.1.0 (scoped_stmts handler false inside nothing p.1 c.2.1.1)))
  scoped_stmt (tree.Declared f) top inside t p c = scoped_silent t _ (declared_alone top f t)

  pub scoped_stmts : (items : Stmts) (top inside : Bool) (t : Told Text) → ProperStmts whole inside items → Clean (tells_stmts top items t) → Scoped (count_stmts items) (scopes_stmts items) t (tells_stmts top items t)
  scoped_stmts no_stmts top inside t p c = scoped_none t
  scoped_stmts (more_stmts s rest) top inside t p c = scoped_both _ _ _ _ _ _ _ (scoped_stmt s top inside _ p.0 c) (scoped_stmts rest top inside t p.1 ((declares_stmt top s inside _ p.0).clean c))

  scoped_else : (s : MaybeStmt) (inside : Bool) (t : Told Text) → ProperElse whole inside s → Clean (tells_maybe_stmt s t) → Scoped (count_else s) (scopes_else s) t (tells_maybe_stmt s t)
  scoped_else no_stmt inside t p c = scoped_none t
  scoped_else (some_stmt s) inside t p c = scoped_stmt s false inside t p.1 c

  scoped_clauses : (cs : Clauses) (inside : Bool) (t : Told Text) → ProperClauses whole inside cs → Clean (tells_clauses cs t) → Scoped (count_clauses cs) (scopes_clauses cs) t (tells_clauses cs t)
  scoped_clauses no_clauses inside t p c = scoped_none t
  scoped_clauses (more_clauses test items rest) inside t p c =
      scoped_front _ _ _ _ _ (quiet_maybe test _)
      (scoped_both _ _ _ _ _ _ _ (scoped_stmts items false inside _ p.1 ((quiet_maybe test _).clean c)) (scoped_clauses rest inside t p.2 ((declares_stmts false items inside _ p.1).clean ((quiet_maybe test _).clean c))))
