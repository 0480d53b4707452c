-- What is in one function, and in the next body at hand.
use Rattle.std.proofs.Common.{◌≡◌, ◌∙◌, ℕ, suc, ◌+◌, ◌<◌, ◌≤◌, ◌⊎◌, inl, inr, cond, Bool, true, false, not, ◌&&◌, ◌||◌, Option, Some, None, option_map, List, [], ◌∷◌, ◌++◌, append_assoc, append-nil, arith, length, length-append, reverse, refl, sym, ap, subst}
use Rattle.std.specs.Prelude.{map, min, nat_lt, nat_eq}
use Rattle.std.specs.declared.vec.Vec.{Vec}
use Rattle.std.specs.declared.alloc.Global.{Global}
use Rattle.std.proofs.lemmas.List.{length-map, map-append, map-set, reverse-append}
use Rattle.std.proofs.Math.Seq.{set-append_seam}
use Rattle.std.proofs.Math.ListN.{set}
use Rattle.std.proofs.lemmas.Bool.{false≢true, cases_lt, lt-ltb, le-ltb}
use Rattle.stencil_data.specs.declared.functions.Extent.{Extent}
use Rattle.stencil_data.specs.declared.functions.FuncKind.{FuncKind}
use Rattle.script_grammar.specs.Braced as braced
use Rattle.script_grammar.specs.Interpretation.{Interpretation, text_of}
use Rattle.script_grammar.specs.Pieces.{whole}
use Rattle.script_grammar.specs.Proper.{ProperFunction}
use Rattle.script_grammar.specs.Shows.{ShowAll}
use Rattle.script_grammar.specs.declared.token.FuncForm.{FuncForm}
use Rattle.script_grammar.specs.Tree.{Named, Expr, Function, function, Params, no_params, more_params, no_expr, some_expr, BracedBody, ShortBody, Stmts}
use Rattle.scope_analysis.specs.DeclaredNames.{Text}
use Rattle.scope_analysis.specs.Functions.{Inner, inner_params, inner_function, params_around}
use Rattle.parse_handlers.specs.declared.found.FoundFunction.{FoundFunction, out-FoundFunction}
use Rattle.parse_handlers.specs.declared.found.FoundFunction.TheFolds.{fold_out-FoundFunction}
use Rattle.parse_handlers.specs.FoundOf.{FoundAs, found_step, found_of, founds_before, HoldsBody}
use Rattle.parse_handlers.specs.Inner.{Inner as FoundInner, no_inner, is_simple}
use Rattle.parse_track.specs.declared.region.Early.{Early}
use Rattle.parse_track.specs.EarlyErrors.{smaller, is_sooner, sooner, error_of}
use Rattle.parse_track.specs.Notes.{first_note, strict_errors, has_rest, body_errors}
use Rattle.parse_track.specs.Tells.{has_initializer}
use Rattle.early_apart_laws.specs.Late.{late, late_params, late_function, late_stmts}
use Rattle.early_apart_laws.proofs.Sooner.{sooner_assoc, sooner_comm, sooner_none, first_note-append}
use Rattle.scope_listing_laws.specs.Listing.{Outline, outline_in, outline_of, outside_body, inside_body, Mirrors, bodies_before, own_before}
use Rattle.scope_listing_laws.proofs.Laws.{mirrors_stmts, bodies_function, inner_function-split}
use Rattle.parse_function_list.specs.declared.list.FoundBody.{FoundBody}
use Rattle.parse_function_list.specs.declared.list.ListedFunction.{ListedFunction}
use Rattle.parse_function_list.specs.declared.listing.Listing.{Listing}
use Rattle.parse_function_list.specs.Placed.{Brief, Placed, AllPlaced, no_placed, more_placed, extent_of, extents_of, directly_in, brief_of, placed_of}
use Rattle.parse_function_list.specs.Listing.{head_of, met, AtHand, StrictAtHand, late_in, body_late, Places, Lists, ListsOne, ListsInside, ListsBody}
use Rattle.parse_function_list.specs.Strict.{HasStrict}
use Rattle.parse_function_list.proofs.Late.{both, in_expr, in_params, in_stmts as late_stmts_in}
use Rattle.parse_function_list.proofs.Placing.{longer_by, places_then, places_late}

-- ---- a function by what was found of it

-- the outline of a function that was found
abbrev found_outline : Interpretation → FoundFunction → Outline
found_outline i found = record {
  start = (out-FoundFunction found).extent.start;
  end = (out-FoundFunction found).extent.end;
  kind = (out-FoundFunction found).kind;
  name = option_map (text_of i) (out-FoundFunction found).name;
  braced = (out-FoundFunction found).braced;
  simple = (out-FoundFunction found).simple;
}

record Outlined (i : Interpretation) (found : FoundFunction) (f : Inner) : Type 0 where
  outline : outline_of f ≡ found_outline i found
  proper : ProperFunction whole f.func
  inner : Mirrors (founds_before i (out-FoundFunction found).inner.items no_inner) (outside_body f.kind f.name f.func)

outlined : (i : Interpretation) (found : FoundFunction) (f : Inner) → Mirrors (founds_before i (found ∷ []) no_inner) (f ∷ []) → Outlined i found f
outlined i found f h =
    let is = fold_out-FoundFunction FoundAs (found_step i) found in
    let as_outline : FoundAs → Outline = λ o. record { start = o.start; end = o.end; kind = o.kind; name = o.name; braced = o.braced; simple = o.simple } in
    record {
      outline = h.0 ∙ ap as_outline is;
      proper = h.1;
      inner = subst (λ (o : FoundAs). Mirrors o.inner (outside_body f.kind f.name f.func)) is h.2;
    }

-- of a function's outline, what is listed of the function
record Parts (kind : FuncKind) (name : Option Text) (f : Function) : Type 0 where
  extent : extent_of f ≡ record { start = (outline_in kind name f).start; end = (outline_in kind name f).end }
  kind_is : kind ≡ (outline_in kind name f).kind
  name_is : name ≡ (outline_in kind name f).name

parts : (kind : FuncKind) (name : Option Text) (f : Function) → Parts kind name f
parts kind name (function form start end written ps comma bare body) = record { extent = refl; kind_is = refl; name_is = refl }

abbrev brief_with : Extent → FuncKind → Option Text → List Extent → Brief
brief_with extent kind name inner = record { extent = extent; kind = kind; name = name; inner = inner }

same_extent : (i : Interpretation) (found : FoundFunction) (f : Inner) → outline_of f ≡ found_outline i found → extent_of f.func ≡ (out-FoundFunction found).extent
same_extent i found f e = let p : Parts f.kind f.name f.func = parts f.kind f.name f.func in p.extent ∙ ap (λ (o : Outline). record { start = o.start; end = o.end }) e

same_brief : (i : Interpretation) (found : FoundFunction) (f : Inner) (inner : List Extent) → outline_of f ≡ found_outline i found → inner ≡ extents_of (directly_in f)
    → brief_with (out-FoundFunction found).extent (out-FoundFunction found).kind (option_map (text_of i) (out-FoundFunction found).name) inner ≡ brief_of f
same_brief i found f inner e d =
    let p : Parts f.kind f.name f.func = parts f.kind f.name f.func in
    let kind : f.kind ≡ (out-FoundFunction found).kind = p.kind_is ∙ ap (λ (o : Outline). o.kind) e in
    let name : f.name ≡ option_map (text_of i) (out-FoundFunction found).name = p.name_is ∙ ap (λ (o : Outline). o.name) e in
    ap (λ (x : Extent). brief_with x (out-FoundFunction found).kind (option_map (text_of i) (out-FoundFunction found).name) inner) (sym (same_extent i found f e))
    ∙ (ap (λ (k : FuncKind). brief_with (extent_of f.func) k (option_map (text_of i) (out-FoundFunction found).name) inner) (sym kind)
    ∙ (ap (λ (n : Option Text). brief_with (extent_of f.func) f.kind n inner) (sym name) ∙ ap (brief_with (extent_of f.func) f.kind f.name) d))

-- ---- the errors of rule 14

-- parameters that are not simple have an initializer or a rest parameter
simple_is : (ps : Params) → is_simple ps ≡ not (has_initializer ps || has_rest ps)
simple_is no_params = refl
simple_is (more_params name no_expr true more) = not_all (has_initializer more)
  where
    not_all : (b : Bool) → false ≡ not (b || true)
    not_all true = refl
    not_all false = refl
simple_is (more_params name no_expr false more) = simple_is more
simple_is (more_params name (some_expr e) rest more) = refl

late_of_body : (b : Bool) (items : Stmts) → body_late (not b) items ≡ body_errors b (BracedBody items)
late_of_body true items = refl
late_of_body false items = refl

no_errors : (b : Bool) (value : Expr) → body_errors b (ShortBody value) ≡ []
no_errors true value = refl
no_errors false value = refl

swapped : (xs ys zs : List Early) → first_note (xs ++ (ys ++ zs)) ≡ first_note (ys ++ (xs ++ zs))
swapped xs ys zs =
    split xs ys zs ∙ (ap (λ (o : Option Early). sooner o (first_note zs)) (sooner_comm (first_note xs) (first_note ys)) ∙ sym (split ys xs zs))
  where
    split : (ps qs rs : List Early) → first_note (ps ++ (qs ++ rs)) ≡ sooner (sooner (first_note ps) (first_note qs)) (first_note rs)
    split ps qs rs =
        first_note-append ps (qs ++ rs)
        ∙ (ap (λ (o : Option Early). sooner (first_note ps) o) (first_note-append qs rs) ∙ sooner_assoc (first_note ps) (first_note qs) (first_note rs))

-- the errors of a function in the order in which they are met: those outside its body in braces, its own, those inside
late_braced : (kind : FuncKind) (name : Option Text) (form : FuncForm) (start end : ℕ) (written : Option Named) (ps : Params) (comma bare : Bool) (items : Stmts) (simple : Bool) → is_simple ps ≡ simple
    → first_note (
    late_in (outside_body kind name (function form start end written ps comma bare (BracedBody items)))
    ++ (body_late simple items ++ late_in (inside_body kind name (function form start end written ps comma bare (BracedBody items)))))
    ≡ first_note (late_function (function form start end written ps comma bare (BracedBody items)))
late_braced kind name form start end written ps comma bare items simple e =
    let f = function form start end written ps comma bare (BracedBody items) in
    let b = has_initializer ps || has_rest ps in
    let outside : late_in (outside_body kind name f) ≡ late_params ps =
    ap late_in (append-nil (inner_params ps (params_around kind name))) ∙ sym (in_params ps (params_around kind name)).are in
    let own : body_late simple items ≡ body_errors b (BracedBody items) = ap (λ (s : Bool). body_late s items) (sym e ∙ simple_is ps) ∙ late_of_body b items in
    let inside : late_in (inside_body kind name f) ≡ late_stmts items = sym (late_stmts_in items _ _).are in
    swapped (late_in (outside_body kind name f)) (body_late simple items) (late_in (inside_body kind name f))
    ∙ ap first_note (ap (λ (es : List Early). es ++ (late_in (outside_body kind name f) ++ late_in (inside_body kind name f))) own
    ∙ ap (λ (es : List Early). body_errors b (BracedBody items) ++ es) (ap (λ (es : List Early). es ++ late_in (inside_body kind name f)) outside ∙ ap (λ (es : List Early). late_params ps ++ es) inside))

late_short : (kind : FuncKind) (name : Option Text) (form : FuncForm) (start end : ℕ) (written : Option Named) (ps : Params) (comma bare : Bool) (value : Expr)
    → first_note (late_in (outside_body kind name (function form start end written ps comma bare (ShortBody value)))) ≡ first_note (late_function (function form start end written ps comma bare (ShortBody value)))
late_short kind name form start end written ps comma bare value =
    ap first_note (sym (both (in_params ps (params_around kind name)) (in_expr value (params_around kind name))).are
    ∙ sym (ap (λ (own : List Early). own ++ (late_params ps ++ late value)) (no_errors (has_initializer ps || has_rest ps) value)))

-- ---- one function

module _ {i : Interpretation} {a m : Listing} {x y : List Extent} {around : ℕ} (found : FoundFunction) where
  braced_inside : {n : Listing} {z : List Extent} {taken : List Stmts} (kind : FuncKind) (name : Option Text) (f : Function) (others : List Stmts)
      → outline_in kind name f ≡ found_outline i found → ProperFunction whole f → (out-FoundFunction found).braced ≡ true → ListsBody m n y z (out-FoundFunction found).simple around
      → Places i a m x y (outside_body kind name f) around taken (own_before kind name f others) (late_in (outside_body kind name f))
      → Places i a n x z (inner_function kind name f) around taken others (late_function f)
  braced_inside {n = n} {z = z} {taken = taken} kind name (function form start end written ps comma bare (BracedBody items)) others e p b body h =
      let f = function form start end written ps comma bare (BracedBody items) in
      let inside = body.places i items (inside_body kind name f) others (mirrors_stmts items true _ _ p.4) h.left in
      subst (λ (fs : List Inner). Places i a n x z fs around taken others (late_function f)) (sym (inner_function-split kind name f))
      (places_late (late_braced kind name form start end written ps comma bare items (out-FoundFunction found).simple (ap (λ (o : Outline). o.simple) e)) (places_then h inside))
  braced_inside kind name (function form start end written ps comma bare (ShortBody value)) others e p b body h = absurd (false≢true (ap (λ (o : Outline). o.braced) e ∙ b))

  short_inside : {taken : List Stmts} (kind : FuncKind) (name : Option Text) (f : Function) (others : List Stmts)
      → outline_in kind name f ≡ found_outline i found → (out-FoundFunction found).braced ≡ false
      → Places i a m x y (outside_body kind name f) around taken (own_before kind name f others) (late_in (outside_body kind name f))
      → Places i a m x y (inner_function kind name f) around taken others (late_function f)
  short_inside kind name (function form start end written ps comma bare (BracedBody items)) others e b h = absurd (false≢true (sym b ∙ sym (ap (λ (o : Outline). o.braced) e)))
  short_inside kind name (function form start end written ps comma bare (ShortBody value)) others e b h = places_late (late_short kind name form start end written ps comma bare value) h

-- what is outside a function's body in braces
outside_placed : {i : Interpretation} {a m : Listing} {x y : List Extent} {around : ℕ} (found : FoundFunction) (f : Inner) (others : List Stmts)
    → Lists a m x y (out-FoundFunction found).inner.items around → Outlined i found f → AtHand i a.bodies.items (bodies_before (f ∷ []) others)
    → Places i a m x y (outside_body f.kind f.name f.func) around (bodies_before (f ∷ []) others) (own_before f.kind f.name f.func others) (late_in (outside_body f.kind f.name f.func))
outside_placed {i = i} {a = a} {m = m} {x = x} {y = y} {around = around} found f others all o hand =
    let outside = outside_body f.kind f.name f.func in
    let own = own_before f.kind f.name f.func others in
    let e : bodies_before (f ∷ []) others ≡ bodies_before outside own = bodies_function f.kind f.name f.func o.proper others in
    subst (λ (taken : List Stmts). Places i a m x y outside around taken own (late_in outside)) (sym e)
    (all.places i outside own o.inner (subst (λ (taken : List Stmts). AtHand i a.bodies.items taken) e hand))

pub inside_braced : {a m n : Listing} {x y z : List Extent} {around : ℕ} (found : FoundFunction) → (out-FoundFunction found).braced ≡ true
    → Lists a m x y (out-FoundFunction found).inner.items around → ListsBody m n y z (out-FoundFunction found).simple around → ListsInside a n x z found around
inside_braced found b all body = record {
  places = λ i f others h hand.
      let o : Outlined i found f = outlined i found f h in
      braced_inside found f.kind f.name f.func others o.outline o.proper b body (outside_placed found f others all o hand);
}

pub inside_short : {a m : Listing} {x y : List Extent} {around : ℕ} (found : FoundFunction) → (out-FoundFunction found).braced ≡ false
    → Lists a m x y (out-FoundFunction found).inner.items around → ListsInside a m x y found around
inside_short found b all = record {
  places = λ i f others h hand.
      let o : Outlined i found f = outlined i found f h in
      short_inside found f.kind f.name f.func others o.outline b (outside_placed found f others all o hand);
}

-- ---- the next body

abbrev error_at : ℕ → ℕ → Early
error_at rule offset = record { offset = offset; rule = rule }

-- the smaller of two offsets is that of the sooner of two errors of one rule
smaller_is : (rule : ℕ) (x y : Option ℕ) → error_of rule (smaller x y) ≡ sooner (error_of rule x) (error_of rule y)
smaller_is rule None y = refl
smaller_is rule (Some x) None = refl
smaller_is rule (Some x) (Some y) = by (cases_lt y x)
  where
    never : (b : Bool) → (b && nat_lt rule rule) ≡ false
    never true = le-ltb rule rule (omega arith)
    never false = refl

    by : (y < x) ⊎ (x ≤ y) → Some (error_at rule (min x y)) ≡ cond (is_sooner (error_at rule y) (error_at rule x)) (Some (error_at rule y)) (Some (error_at rule x))
    by (inl h) =
        let least : min x y ≡ y = omega arith in
        ap (λ (n : ℕ). Some (error_at rule n)) least
        ∙ ap (λ (b : Bool). cond (b || (nat_eq y x && nat_lt rule rule)) (Some (error_at rule y)) (Some (error_at rule x))) (sym (lt-ltb y x h))
    by (inr h) =
        let least : min x y ≡ x = omega arith in
        let not_sooner : is_sooner (error_at rule y) (error_at rule x) ≡ false = ap (λ (b : Bool). b || (nat_eq y x && nat_lt rule rule)) (le-ltb y x h) ∙ never (nat_eq y x) in
        ap (λ (n : ℕ). Some (error_at rule n)) least ∙ ap (λ (b : Bool). cond b (Some (error_at rule y)) (Some (error_at rule x))) (sym not_sooner)

met_late : (simple : Bool) (before strict : Option ℕ) (items : Stmts) → error_of 14 strict ≡ first_note (strict_errors items)
    → error_of 14 (met simple before strict) ≡ sooner (error_of 14 before) (first_note (body_late simple items))
met_late true before strict items e = sym (sooner_none (error_of 14 before))
met_late false before strict items e = smaller_is 14 before strict ∙ ap (λ (o : Option Early). sooner (error_of 14 before) o) e

pub body_listed : {a b c : Listing} {y z : List Extent} {around : ℕ} (simple : Bool) (body : FoundBody) → a.bodies.items ≡ b.bodies.items ++ body ∷ [] → b.functions.items ≡ a.functions.items
    → b.strict ≡ met simple a.strict body.strict → Lists b c y z body.found.found.items around → ListsBody a c y z simple around
body_listed {a = a} {b = b} {c = c} {y = y} {z = z} {around = around} simple body bodies functions strict all = record {
  places = λ i items fs others m hand.
      let turned : reverse a.bodies.items ≡ body ∷ reverse b.bodies.items = ap (λ (bs : List FoundBody). reverse bs) bodies ∙ reverse-append b.bodies.items (body ∷ []) in
      let shown = subst (λ (bs : List FoundBody). ShowAll (λ (x : FoundBody). HoldsBody i x.found) bs (items ∷ bodies_before fs others)) turned hand in
      let p = all.places i fs others (subst (λ (r : FoundInner). Mirrors r fs) (sym (shown.0 no_inner)) m) shown.1 in
      record {
        all = p.all;
        placed = subst (λ (ls : List ListedFunction). AllPlaced around (length y) (suc (length ls)) fs p.all) functions p.placed;
        listed = p.listed ∙ ap (λ (ls : List ListedFunction). map (placed_of i) ls ++ p.all) functions;
        extents = p.extents;
        left = p.left;
        meets = λ s.
            let found = subst (λ (bs : List FoundBody). ShowAll HasStrict bs (items ∷ bodies_before fs others)) turned s in
            let u = p.meets found.1 in (
              u.0,
              u.1
                  ∙ (ap (λ (o : Option Early). sooner o (first_note (late_in fs))) (ap (λ (o : Option ℕ). error_of 14 o) strict ∙ met_late simple a.strict body.strict items found.0)
                  ∙ (sym (sooner_assoc (error_of 14 a.strict) (first_note (body_late simple items)) (first_note (late_in fs)))
                  ∙ ap (λ (o : Option Early). sooner (error_of 14 a.strict) o) (sym (first_note-append (body_late simple items) (late_in fs))))),
            );
      };
}

pub no_body_listed : {a b : Listing} {y z : List Extent} {around : ℕ} (simple : Bool) → a.bodies.items ≡ [] → ListsBody a b y z simple around
no_body_listed {a = a} simple e = record {
  places = λ i items fs others m hand. absurd (subst (λ (bs : List FoundBody). AtHand i bs (items ∷ bodies_before fs others)) e hand);
}

-- ---- a function with all in it

pub one_listed : {a b n d : Listing} {empty x z : List Extent} {around number : ℕ} (found : FoundFunction) (unfilled : ListedFunction) (inner : Vec Extent Global)
    → b.functions.items ≡ a.functions.items ++ unfilled ∷ [] → b.bodies.items ≡ a.bodies.items → b.strict ≡ a.strict
    → number ≡ suc (length a.functions.items) → empty ≡ [] → ListsInside b n empty inner.items found number
    → d.functions.items ≡ set n.functions.items (length a.functions.items) (head_of found around (length x) inner) → d.bodies.items ≡ n.bodies.items → d.strict ≡ n.strict
    → z ≡ x ++ (out-FoundFunction found).extent ∷ [] → ListsOne a d x z found around
one_listed {a = a} {b = b} {n = n} {d = d} {empty = empty} {x = x} {z = z} {around = around} {number = number} found unfilled inner pushed bodies strict is none inside put left met_is extents = record {
  places = λ i f others h hand.
      let o : Outlined i found f = outlined i found f h in
      let taken = bodies_before (f ∷ []) others in
      let p = (subst (λ (es : List Extent). ListsInside b n es inner.items found number) none inside).places i f others h (subst (λ (bs : List FoundBody). AtHand i bs taken) (sym bodies) hand) in
      let head : ListedFunction = head_of found around (length x) inner in
      let here : Placed = record { brief = brief_of f; around = around; place = length x } in
      let head_is : placed_of i head ≡ here =
      ap (λ (brief : Brief). record { brief = brief; around = around; place = length x }) (same_brief i found f inner.items o.outline p.extents) in
      let longer : length b.functions.items ≡ length a.functions.items + 1 = ap (λ (ls : List ListedFunction). length ls) pushed ∙ length-append a.functions.items (unfilled ∷ []) in
      record {
        all = here ∷ (p.all ++ []);
        placed = more_placed around (length x) (suc (length a.functions.items)) f [] p.all []
            (subst (λ (k : ℕ). AllPlaced k 0 (suc (suc (length a.functions.items))) (directly_in f) p.all) is
            (subst (λ (k : ℕ). AllPlaced number 0 k (directly_in f) p.all) (omega (arith, longer)) p.placed))
            (no_placed around _ _);
        listed =
            ap (λ (ls : List ListedFunction). map (placed_of i) ls) put
            ∙ (map-set (placed_of i) n.functions.items (length a.functions.items) head
            ∙ (ap (λ (ps : List Placed). set ps (length a.functions.items) (placed_of i head))
            (p.listed ∙ (ap (λ (ps : List Placed). ps ++ p.all) (ap (λ (ls : List ListedFunction). map (placed_of i) ls) pushed ∙ map-append (placed_of i) a.functions.items (unfilled ∷ []))
            ∙ append_assoc (map (placed_of i) a.functions.items) (placed_of i unfilled ∷ []) p.all))
            ∙ (ap (λ (k : ℕ). set (map (placed_of i) a.functions.items ++ placed_of i unfilled ∷ p.all) k (placed_of i head)) (sym (length-map a.functions.items (placed_of i)))
            ∙ (set-append_seam (map (placed_of i) a.functions.items) (placed_of i unfilled) p.all (placed_of i head)
            ∙ (ap (λ (q : Placed). map (placed_of i) a.functions.items ++ q ∷ p.all) head_is
            ∙ ap (λ (ps : List Placed). map (placed_of i) a.functions.items ++ here ∷ ps) (sym (append-nil p.all)))))));
        extents = extents ∙ ap (λ (e : Extent). x ++ e ∷ []) (sym (same_extent i found f o.outline));
        left = subst (λ (bs : List FoundBody). AtHand i bs others) (sym left) p.left;
        meets = λ s.
            let u = p.meets (subst (λ (bs : List FoundBody). StrictAtHand bs taken) (sym bodies) s) in (
              subst (λ (bs : List FoundBody). StrictAtHand bs others) (sym left) u.0,
              ap (λ (k : Option ℕ). error_of 14 k) met_is ∙ (u.1 ∙ ap (λ (k : Option ℕ). sooner (error_of 14 k) (first_note (late_function f.func))) strict),
            );
      };
}
