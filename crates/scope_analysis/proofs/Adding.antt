-- Scopes that are added to those of a function.
use Rattle.std.proofs.Common.{◌≡◌, ℕ, ◌+◌, ◌^◌, ◌<◌, Bool, true, false, if◌then◌else◌, List, [], ◌∷◌, ◌++◌, map, length, Option, Some, refl, sym, ◌∙◌, ap, subst, arith, append_assoc, length-append, suc, count_by, nat_eq, drop, get_or, drop-cons}
use Rattle.std.proofs.Math.Dec.{eqb-suc-zero}
use Rattle.std.proofs.lemmas.List.{map-append, append-nil}
use Rattle.script_grammar.specs.declared.tree.Stmt.{Stmt}
use Rattle.script_grammar.specs.declared.tree.Clause.{Clause}
use Rattle.script_grammar.specs.Interpretation.{Interpretation}
use Rattle.script_grammar.specs.Tree as model
use Rattle.script_grammar.specs.TreeLists as part
use Rattle.script_grammar.specs.TreeLists.{stmts_of, clauses_of}
use Rattle.script_grammar.specs.TreeOf.{stmt_of, clause_of}
use Rattle.script_grammar.proofs.PartEquations.{clause_of-fields}
use Rattle.stencil_data.specs.declared.chains.LinkName.{LinkName}
use Rattle.stencil_data.specs.declared.records.ClosedName.{ClosedName}
use Rattle.stencil_data.specs.declared.scopes.Binding.{Binding}
use Rattle.stencil_data.specs.declared.scopes.ScopeKind.{ScopeKind}
use Rattle.stencil_data.specs.declared.scopes.ScopeKind.TheVariants as scope
use Rattle.stencil_data.specs.declared.scopes.Slot.{Slot}
use Rattle.stencil_data.specs.declared.scopes.Slot.TheVariants as slot
use Rattle.stencil_data.specs.Fits.{NamesFit}
use Rattle.stencil_data.specs.Named.{NamedScope}
use Rattle.stencil_data.specs.Resolve.{is_global}
use Rattle.stencil_data.specs.Slots.{Unplaced, slots, slots_from, slot_of, own_slot, is_param, takes_frame, frame_after, env_slots}
use Rattle.stencil_data.specs.StandsFor.{named_bindings, named_scope}
use Rattle.stencil_data.specs.Views.{ScopeView}
use Rattle.scope_analysis.specs.declared.names.DeclaredName.{DeclaredName}
use Rattle.scope_analysis.specs.declared.scoping.ScopePosition.{ScopePosition}
use Rattle.scope_analysis.specs.DeclaredNames.{Text, Declaration}
use Rattle.scope_analysis.specs.Scopes.{Within, unplaced, placed, scope_of, inside, behind, scope_around, scope_count, count_stmt, count_stmts, count_clauses, scopes_stmt, scopes_stmts, scopes_clauses}
use Rattle.scope_analysis.specs.Closed.{closed_bindings, closed_from}
use Rattle.scope_analysis.specs.Kept.{declarations_of}
use Rattle.scope_analysis.specs.Placing.{placed_at, envs_of, frames_of, Ready, Going}
use Rattle.scope_analysis.specs.Walked.{ScopesFit, within, Added, Adds, Scoped, Opens, OpensAny}

-- ---- nothing, and two parts

pub adds_none : (texts : List (List ℕ)) (closed : List ClosedName) (old : List ScopeView) (from : ℕ) → Adds texts closed old from old from []
adds_none texts closed old from = record { adds = λ later fits few left. record { scopes = sym (append-nil (map (named_scope texts) old)); left = left } }

fit_both : (p q : List NamedScope) → ScopesFit (p ++ q) → ScopesFit p × ScopesFit q
fit_both [] q fits = (tt, fits)
fit_both (s ∷ p) q fits = let both = fit_both p q fits.1 in ((fits.0, both.0), both.1)

mapped_length : (texts : List (List ℕ)) (xs : List ScopeView) → length (map (named_scope texts) xs) ≡ length xs
mapped_length texts [] = refl
mapped_length texts (x ∷ xs) = ap (λ (n : ℕ). suc n) (mapped_length texts xs)

added_length : (texts : List (List ℕ)) (closed : List ClosedName) (old new : List ScopeView) (to : ℕ) (part later : List NamedScope) → Added texts closed old new to part later → length new ≡ length old + length part
added_length texts closed old new to part later added =
    sym (mapped_length texts new) ∙ (ap length added.scopes ∙ (length-append (map (named_scope texts) old) part ∙ ap (λ (n : ℕ). n + length part) (mapped_length texts old)))

pub adds_both : (texts : List (List ℕ)) (closed : List ClosedName) (a b c : List ScopeView) (at_a at_b at_c : ℕ) (p q : List NamedScope)
    → Adds texts closed a at_a b at_b p → Adds texts closed b at_b c at_c q → Adds texts closed a at_a c at_c (p ++ q)
adds_both texts closed a b c at_a at_b at_c p q first second = record {
  adds = λ later fits few left.
      let both : ScopesFit p × ScopesFit q = fit_both p q fits in
      let long : length (p ++ q) ≡ length p + length q = length-append p q in
      let one : Added texts closed a b at_b p (q ++ later) =
      first.adds (q ++ later) both.0 (omega (arith, few, long)) (left ∙ ap (closed_from (length a)) (append_assoc p q later)) in
      let longer : length b ≡ length a + length p = added_length texts closed a b at_b p (q ++ later) one in
      let two : Added texts closed b c at_c q later = second.adds later both.1 (omega (arith, few, long, longer)) one.left in
      record {
        scopes = two.scopes ∙ (ap (λ (xs : List NamedScope). xs ++ q) one.scopes ∙ append_assoc (map (named_scope texts) a) p q);
        left = two.left;
      };
}

-- ---- a scope

-- a scope that is not the global one has its slots like any other
pub slots_lexical : (kind : ScopeKind) → is_global kind ≡ false → (us : List Unplaced) (env arg frame : ℕ) → slots_from kind env arg frame us ≡ slots_from scope.Lexical env arg frame us
slots_lexical kind other [] env arg frame = refl
slots_lexical kind other (u ∷ us) env arg frame =
    let same : slot_of kind env arg frame u ≡ slot_of scope.Lexical env arg frame u =
    ap (λ (b : Bool). if b then slot.Global else (if u.closed then slot.Env env else own_slot u.kind arg frame)) other in
    ap (λ (s : Slot). s ∷ slots_from kind (env + (if u.closed then 1 else 0)) (arg + (if is_param u.kind then 1 else 0)) (frame + (if takes_frame s then 1 else 0)) us) same
    ∙ ap (λ (ss : List Slot). slot_of scope.Lexical env arg frame u ∷ ss) (slots_lexical kind other us (env + (if u.closed then 1 else 0)) (arg + (if is_param u.kind then 1 else 0)) (frame + (if takes_frame (slot_of scope.Lexical env arg frame u) then 1 else 0)))

abbrev scope_with : ScopeKind → Option ℕ → List LinkName → ℕ → NamedScope
scope_with kind parent bindings env = record { kind = kind; parent = parent; bindings = bindings; env_slots = env }

abbrev place_with : Option ℕ → ℕ → ℕ → Within
place_with parent next frame = record { parent = parent; next = next; frame = frame }

pub pushed_opens : (texts : List (List ℕ)) (closed : List ClosedName) (old new : List ScopeView) (from to : ℕ) (kind : ScopeKind) (ds : List Declaration) (around : ScopePosition)
    (number env arg frame env_kept number_kept frame_kept : ℕ) (bindings : List Binding)
    → is_global kind ≡ false → number ≡ length old → around.frame < 2 ^ 32
    → ((inner : List Text) (later : List NamedScope) → Ready texts closed number inner later 0 0 around.frame from ds → Going texts closed number inner later around.frame ds (named_bindings texts bindings) env arg frame to [])
    → new ≡ old ++ record { kind = kind; parent = around.parent; bindings = bindings; env_slots = env_kept } ∷ []
    → (env < 2 ^ 32 → env_kept ≡ env) → (number < 2 ^ 32 → number_kept ≡ number) → (frame < 2 ^ 32 → frame_kept ≡ frame)
    → Opens texts closed old from new to kind ds around (record { parent = Some number_kept; frame = frame_kept })
pushed_opens texts closed old new from to kind ds around number env arg frame env_kept number_kept frame_kept bindings other number_is frame_few going pushed env_is kept_is frame_is = record {
  opened = ap length pushed ∙ length-append old (record { kind = kind; parent = around.parent; bindings = bindings; env_slots = env_kept } ∷ []);
  opens = λ inner content final last adds_in. record {
    adds = λ later fits few left.
        let w : Within = within around (length old) in
        let s : NamedScope = scope_of kind around.parent around.frame ds inner in
        let content_in : List NamedScope = content (inside kind ds inner w) in
        let lex : slots kind around.frame (unplaced inner ds) ≡ slots_from scope.Lexical 0 0 around.frame (unplaced inner ds) = slots_lexical kind other (unplaced inner ds) 0 0 around.frame in
        let ready : Ready texts closed number inner (content_in ++ later) 0 0 around.frame from ds = record {
          fits = subst (λ (ss : List Slot). NamesFit (placed ds ss)) lex fits.0;
          left = left
              ∙ (ap (λ (bs : List LinkName). closed_bindings (length old) bs ++ closed_from (length old + 1) (content_in ++ later)) (ap (placed ds) lex)
              ∙ ap (λ (n : ℕ). closed_bindings n (placed_at 0 0 around.frame inner ds) ++ closed_from (n + 1) (content_in ++ later)) (sym number_is));
          env_fits = omega arith;
          frame_fits = frame_few;
        } in
        let g : Going texts closed number inner (content_in ++ later) around.frame ds (named_bindings texts bindings) env arg frame to [] = going inner (content_in ++ later) ready in
        let bound : named_bindings texts bindings ≡ s.bindings = sym (append-nil (named_bindings texts bindings)) ∙ (g.bindings ∙ ap (placed ds) (sym lex)) in
        let env_all : env ≡ envs_of inner ds = omega (arith, g.envs) in
        let env_known : env_kept ≡ env_slots kind (unplaced inner ds) = env_is g.ready.env_fits ∙ (env_all ∙ ap (λ (b : Bool). if b then 0 else envs_of inner ds) (sym other)) in
        let frame_all : frame ≡ around.frame + frames_of 0 0 around.frame inner ds = omega (arith, g.frames) in
        let frame_known : frame_kept ≡ frame_after kind around.frame (unplaced inner ds) =
        frame_is g.ready.frame_fits ∙ (frame_all ∙ ap (λ (ss : List Slot). around.frame + count_by takes_frame ss) (sym lex)) in
        let number_known : number_kept ≡ length old = kept_is (omega (arith, few, number_is)) ∙ number_is in
        let long : length new ≡ length old + 1 = ap length pushed ∙ length-append old (record { kind = kind; parent = around.parent; bindings = bindings; env_slots = env_kept } ∷ []) in
        let scope_known : named_scope texts (record { kind = kind; parent = around.parent; bindings = bindings; env_slots = env_kept }) ≡ s =
        ap (λ (bs : List LinkName). scope_with kind around.parent bs env_kept) bound ∙ ap (λ (e : ℕ). scope_with kind around.parent s.bindings e) env_known in
        let around_known : within (record { parent = Some number_kept; frame = frame_kept }) (length new) ≡ inside kind ds inner w =
        ap (λ (n : ℕ). place_with (Some n) (length new) frame_kept) number_known
        ∙ (ap (λ (n : ℕ). place_with (Some (length old)) n frame_kept) long
        ∙ ap (λ (f : ℕ). place_with (Some (length old)) (length old + 1) f) frame_known) in
        let inner_adds : Adds texts closed new to final last content_in = subst (λ (v : Within). Adds texts closed new to final last (content v)) around_known adds_in in
        let after : Added texts closed new final last content_in later =
        inner_adds.adds later fits.1 (omega (arith, few, long)) (g.ready.left ∙ ap (λ (n : ℕ). closed_from n (content_in ++ later)) (ap (λ (n : ℕ). n + 1) number_is ∙ sym long)) in
        let mapped : map (named_scope texts) new ≡ map (named_scope texts) old ++ s ∷ [] =
        ap (map (named_scope texts)) pushed
        ∙ (map-append (named_scope texts) old (record { kind = kind; parent = around.parent; bindings = bindings; env_slots = env_kept } ∷ [])
        ∙ ap (λ (x : NamedScope). map (named_scope texts) old ++ x ∷ []) scope_known) in
        record {
          scopes = after.scopes ∙ (ap (λ (xs : List NamedScope). xs ++ content_in) mapped ∙ append_assoc (map (named_scope texts) old) (s ∷ []) content_in);
          left = after.left;
        };
  };
}

-- a scope of some names
pub opens_some : (texts : List (List ℕ)) (closed : List ClosedName) (old new : List ScopeView) (from to : ℕ) (kind : ScopeKind) (names : List DeclaredName) (around inside_it : ScopePosition)
    → false ≡ nat_eq (length names) 0 → Opens texts closed old from new to kind (declarations_of texts names) around inside_it → OpensAny texts closed old from new to kind (declarations_of texts names) around inside_it
opens_some texts closed old new from to kind [] around inside_it some o = cc
opens_some texts closed old new from to kind (n ∷ ns) around inside_it some o = record { opened = o.opened; opens = o.opens }

pub opens_none : (texts : List (List ℕ)) (closed : List ClosedName) (old : List ScopeView) (from : ℕ) (kind : ScopeKind) (names : List DeclaredName) (around : ScopePosition)
    → true ≡ nat_eq (length names) 0 → OpensAny texts closed old from old from kind (declarations_of texts names) around around
opens_none texts closed old from kind [] around none = record { opened = omega arith; opens = λ inner content final last added. added }
opens_none texts closed old from kind (n ∷ ns) around none = let absurd_eq : true ≡ false = none ∙ eqb-suc-zero (length ns) in cc

pub opens_at : (texts : List (List ℕ)) (closed : List ClosedName) (old new : List ScopeView) (from to : ℕ) (kind : ScopeKind) (ds es : List Declaration) (around inside_it : ScopePosition)
    → ds ≡ es → OpensAny texts closed old from new to kind ds around inside_it → OpensAny texts closed old from new to kind es around inside_it
opens_at texts closed old new from to kind ds es around inside_it same o = subst (λ (xs : List Declaration). OpensAny texts closed old from new to kind xs around inside_it) same o

-- ---- parts where they stand

pub scoped_none : (texts : List (List ℕ)) (closed : List ClosedName) (around : ScopePosition) (old : List ScopeView) (from : ℕ) → Scoped texts closed around old from old from 0 (λ w. [])
scoped_none texts closed around old from = record { counted = omega arith; added = adds_none texts closed old from }

pub scoped_both : (texts : List (List ℕ)) (closed : List ClosedName) (around : ScopePosition) (a b c : List ScopeView) (at_a at_b at_c n m : ℕ) (p q : Within → List NamedScope)
    → Scoped texts closed around a at_a b at_b n p → Scoped texts closed around b at_b c at_c m q → Scoped texts closed around a at_a c at_c (n + m) (λ w. p w ++ q (behind n w))
scoped_both texts closed around a b c at_a at_b at_c n m p q first second = record {
  counted = omega (arith, first.counted, second.counted);
  added = adds_both texts closed a b c at_a at_b at_c (p (within around (length a))) (q (behind n (within around (length a)))) first.added
      (subst (λ (k : ℕ). Adds texts closed b at_b c at_c (q (within around k))) first.counted second.added);
}

pub scoped_inside : (texts : List (List ℕ)) (closed : List ClosedName) (around inside_it : ScopePosition) (a b c : List ScopeView) (at_a at_b at_c n : ℕ) (kind : ScopeKind) (ds : List Declaration) (inner : List Text) (content : Within → List NamedScope)
    → OpensAny texts closed a at_a b at_b kind ds around inside_it → Scoped texts closed inside_it b at_b c at_c n content
    → Scoped texts closed around a at_a c at_c (scope_count ds + n) (scope_around kind ds inner content)
scoped_inside texts closed around inside_it a b c at_a at_b at_c n kind ds inner content o s = record {
  counted = omega (arith, o.opened, s.counted);
  added = o.opens inner content c at_c s.added;
}

-- ---- lists of statements, one after another

pub stmts_turn : (texts : List (List ℕ)) (closed : List ClosedName) (around : ScopePosition) (a b c : List ScopeView) (at_a at_b at_c : ℕ) (i : Interpretation) (items : List Stmt) (k : ℕ) (item : Stmt)
    → k < length items → item ≡ get_or items k item
    → Scoped texts closed around a at_a b at_b (count_stmt (stmt_of i item)) (scopes_stmt (stmt_of i item))
    → Scoped texts closed around b at_b c at_c (count_stmts (stmts_of (map (stmt_of i) (drop (k + 1) items)))) (scopes_stmts (stmts_of (map (stmt_of i) (drop (k + 1) items))))
    → Scoped texts closed around a at_a c at_c (count_stmts (stmts_of (map (stmt_of i) (drop k items)))) (scopes_stmts (stmts_of (map (stmt_of i) (drop k items))))
stmts_turn texts closed around a b c at_a at_b at_c i items k item lt is first rest =
    let one : k + 1 ≡ suc k = omega arith in
    let split : drop k items ≡ item ∷ drop (k + 1) items =
    drop-cons items k item lt ∙ (ap (λ (x : Stmt). x ∷ drop (suc k) items) (sym is) ∙ ap (λ (n : ℕ). item ∷ drop n items) (sym one)) in
    subst (λ (xs : List Stmt). Scoped texts closed around a at_a c at_c (count_stmts (stmts_of (map (stmt_of i) xs))) (scopes_stmts (stmts_of (map (stmt_of i) xs)))) (sym split)
    (scoped_both texts closed around a b c at_a at_b at_c (count_stmt (stmt_of i item)) (count_stmts (stmts_of (map (stmt_of i) (drop (k + 1) items)))) (scopes_stmt (stmt_of i item)) (scopes_stmts (stmts_of (map (stmt_of i) (drop (k + 1) items)))) first rest)

pub clauses_turn : (texts : List (List ℕ)) (closed : List ClosedName) (around : ScopePosition) (a b c : List ScopeView) (at_a at_b at_c : ℕ) (i : Interpretation) (clauses : List Clause) (k : ℕ) (clause : Clause) (items : List Stmt)
    → k < length clauses → clause ≡ get_or clauses k clause → items ≡ clause.items.items
    → Scoped texts closed around a at_a b at_b (count_stmts (stmts_of (map (stmt_of i) items))) (scopes_stmts (stmts_of (map (stmt_of i) items)))
    → Scoped texts closed around b at_b c at_c (count_clauses (clauses_of (map (clause_of i) (drop (k + 1) clauses)))) (scopes_clauses (clauses_of (map (clause_of i) (drop (k + 1) clauses))))
    → Scoped texts closed around a at_a c at_c (count_clauses (clauses_of (map (clause_of i) (drop k clauses)))) (scopes_clauses (clauses_of (map (clause_of i) (drop k clauses))))
clauses_turn texts closed around a b c at_a at_b at_c i clauses k clause items lt is are first rest =
    let one : k + 1 ≡ suc k = omega arith in
    let split : drop k clauses ≡ clause ∷ drop (k + 1) clauses =
    drop-cons clauses k clause lt ∙ (ap (λ (x : Clause). x ∷ drop (suc k) clauses) (sym is) ∙ ap (λ (n : ℕ). clause ∷ drop n clauses) (sym one)) in
    let fields : map (stmt_of i) items ≡ (clause_of i clause).items =
    ap (map (stmt_of i)) are ∙ sym (ap (λ (x : part.Clause). x.items) (clause_of-fields i clause)) in
    let here : Scoped texts closed around a at_a b at_b (count_stmts (stmts_of (clause_of i clause).items)) (scopes_stmts (stmts_of (clause_of i clause).items)) =
    subst (λ (xs : List model.Stmt). Scoped texts closed around a at_a b at_b (count_stmts (stmts_of xs)) (scopes_stmts (stmts_of xs))) fields first in
    subst (λ (xs : List Clause). Scoped texts closed around a at_a c at_c (count_clauses (clauses_of (map (clause_of i) xs))) (scopes_clauses (clauses_of (map (clause_of i) xs)))) (sym split)
    (scoped_both texts closed around a b c at_a at_b at_c (count_stmts (stmts_of (clause_of i clause).items)) (count_clauses (clauses_of (map (clause_of i) (drop (k + 1) clauses)))) (scopes_stmts (stmts_of (clause_of i clause).items)) (scopes_clauses (clauses_of (map (clause_of i) (drop (k + 1) clauses)))) here rest)

pub stmts_end : (texts : List (List ℕ)) (closed : List ClosedName) (around : ScopePosition) (a : List ScopeView) (at_a : ℕ) (i : Interpretation) (items : List Stmt)
    → items ≡ [] → Scoped texts closed around a at_a a at_a (count_stmts (stmts_of (map (stmt_of i) items))) (scopes_stmts (stmts_of (map (stmt_of i) items)))
stmts_end texts closed around a at_a i items none = subst (λ (xs : List Stmt). Scoped texts closed around a at_a a at_a (count_stmts (stmts_of (map (stmt_of i) xs))) (scopes_stmts (stmts_of (map (stmt_of i) xs)))) (sym none) (scoped_none texts closed around a at_a)

pub clauses_end : (texts : List (List ℕ)) (closed : List ClosedName) (around : ScopePosition) (a : List ScopeView) (at_a : ℕ) (i : Interpretation) (clauses : List Clause)
    → clauses ≡ [] → Scoped texts closed around a at_a a at_a (count_clauses (clauses_of (map (clause_of i) clauses))) (scopes_clauses (clauses_of (map (clause_of i) clauses)))
clauses_end texts closed around a at_a i clauses none = subst (λ (xs : List Clause). Scoped texts closed around a at_a a at_a (count_clauses (clauses_of (map (clause_of i) xs))) (scopes_clauses (clauses_of (map (clause_of i) xs)))) (sym none) (scoped_none texts closed around a at_a)

-- a statement of the model that a tree stands for
pub scoped_at : (texts : List (List ℕ)) (closed : List ClosedName) (around : ScopePosition) (a b : List ScopeView) (at_a at_b : ℕ) (m n : model.Stmt)
    → m ≡ n → Scoped texts closed around a at_a b at_b (count_stmt m) (scopes_stmt m) → Scoped texts closed around a at_a b at_b (count_stmt n) (scopes_stmt n)
scoped_at texts closed around a b at_a at_b m n same s = subst (λ (x : model.Stmt). Scoped texts closed around a at_a b at_b (count_stmt x) (scopes_stmt x)) same s
