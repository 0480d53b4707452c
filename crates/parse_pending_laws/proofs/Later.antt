-- Bodies that are passed over and read later, one by one, those inside a body next: the bodies that were read are those of all
-- functions of the script's tree, each before the bodies inside it, and each with the bodies inside it as they are given.
use Rattle.std.proofs.Common.{◌≡◌, ℕ, List, [], ◌∷◌, ◌++◌, map, refl, sym, ap, ◌∙◌, subst, append_assoc, append-nil, true}
use Rattle.script_grammar.specs.declared.token.FuncForm.{FuncForm}
use Rattle.script_grammar.specs.Lexeme.{Lexeme}
use Rattle.script_grammar.specs.Shows.{ShowAll}
use Rattle.script_grammar.specs.Tree.{Body, Function, Stmts}
use Rattle.script_grammar.specs.Tree as tree
use Rattle.script_grammar.specs.Pieces.{BracedArrow}
use Rattle.script_grammar.specs.Endings.{body_ending}
use Rattle.script_grammar.specs.Fault.{depth_limit}
use Rattle.grammar_parser_specs.specs.Parser.{Recorded, Reply, Read, Parser}
use Rattle.grammar_parser_specs.specs.Stmts.{in_place, read_script, read_alone}
use Rattle.grammar_parser_specs.specs.Filling.{fill_stmts}
use Rattle.grammar_local_laws.proofs.Agrees.{Verdict, fine, bad_at, deep_at, judged, records}
use Rattle.grammar_local_laws.proofs.AgreesStmts.{StmtsK, OwnK}
use Rattle.grammar_local_laws.proofs.AgreesScripts.{body_in_place, passed_over}
use Rattle.grammar_script_laws.proofs.AgreesAlone.{AloneK}
use Rattle.grammar_script_laws.proofs.PassedLaws.{pass_script}
use Rattle.grammar_script_laws.proofs.Totals.{or_says, or_fine, judged_bodies, judged_both, own_says, pass_body, next_read}
use Rattle.script_grammar.specs.Braced.{in_body, in_stmts, braced_all}
use Rattle.parse_pending_laws.proofs.Lists.{Bodies, as_is, in_read, in_records, in_append, ListsAt, Lists}
use Rattle.parse_pending_laws.proofs.ListsStmts.{in_inside, in_inner}
use Rattle.parse_pending_laws.proofs.ListsScripts.{scripts_list, own_bodies_list}
use Rattle.parse_pending_laws.proofs.ListsAlone.{in_alone, functions_list}

-- one more node for one more tree
pub show_more : {E A : Type 0} (shows : E → A → Type 0) (es : List E) (xs : List A) (e : E) (a : A) → ShowAll shows es xs → shows e a → ShowAll shows (es ++ e ∷ []) (xs ++ a ∷ [])
show_more shows [] [] e a h k = (k, tt)
show_more shows [] (x ∷ xs) e a h k = absurd h
show_more shows (y ∷ es) [] e a h k = absurd h
show_more shows (y ∷ es) (x ∷ xs) e a h k = (h.0, show_more shows es xs e a h.1 k)

map_more : {A B : Type 0} (f : A → B) (xs : List A) (a : A) → map f (xs ++ a ∷ []) ≡ map f xs ++ f a ∷ []
map_more f [] a = refl
map_more f (x ∷ xs) a = ap (λ ys. f x ∷ ys) (map_more f xs a)

-- what both parsers read where the recorded bodies have no fault
module _ {A B : Type 0} (K : A → B → Type 0) (w : Bodies A) (e : Parser A) (l : Parser B) (m : Lists true body_in_place K as_is w e l) where
  both : (ts us : List Lexeme) (b : B) (rs : List Recorded) → l ts ≡ Read b rs us → judged_bodies rs ≡ fine → (a : A) × (e ts ≡ Read a [] us) × K a b × ((r : List Stmts) → in_records true body_in_place rs r ≡ w a r)
  both ts us b rs h c = subst (λ v. ListsAt true body_in_place K as_is w v (e ts) (Read b rs us)) c (subst (λ s. ListsAt true body_in_place K as_is w (judged body_in_place (records s)) (e ts) s) h (m.at ts))

-- no fault in all of these is none in the first of them
judged_first : (rs qs : List Recorded) → judged_bodies (rs ++ qs) ≡ fine → judged_bodies rs ≡ fine
judged_first rs qs e = by (judged_bodies rs) (sym (judged_both rs qs) ∙ e)
  where
    by : (v : Verdict) → or_says v (judged_bodies qs) ≡ fine → v ≡ fine
    by fine e = refl
    by (bad_at vs) e = absurd (cc)
    by (deep_at vs) e = absurd (cc)

braced_items : (a b : Stmts) → tree.BracedBody a ≡ tree.BracedBody b → a ≡ b
braced_items a b e = cc

same_read : {A : Type 0} (a b : A) (us vs : List Lexeme) → ◌≡◌ {A = Reply A} (Read a [] us) (Read b [] vs) → a ≡ b
same_read a b us vs e = cc

module _ (bodies : ℕ → Body) {B : Type 0} (shows : B → Stmts → Type 0) where
  -- Nodes for all of these bodies but those that the recorded bodies have, each with the bodies inside it as they are given.
  pub record Done (wanted : List Stmts) (nodes : List B) (rs : List Recorded) : Type 0 where
    pub trees : List Stmts
    pub shown : ShowAll shows nodes (map (fill_stmts bodies) trees)
    pub all : wanted ≡ trees ++ in_records true body_in_place rs []

  module _ {A : Type 0} (w : Bodies A) (e : Parser A) where
    -- so where a text is read, and these bodies, which are still to be read, have no fault
    abbrev pub Reading : List Lexeme → List B → List Recorded → Type 0
    Reading ts nodes rs = (a : A) (us : List Lexeme) → e ts ≡ Read a [] us → judged_bodies rs ≡ fine → Done (w a []) nodes rs

    -- the text is read, and no body yet
    pub reading_init : {C : Type 0} (K : A → C → Type 0) (l : Parser C) → Lists true body_in_place K as_is w e l → (ts us : List Lexeme) (given : C) (rs : List Recorded) → l ts ≡ Read given rs us → Reading ts [] rs
    reading_init K l m ts us given rs h a vs r c =
        let n = both K w e l m ts us given rs h c in
        record { trees = []; shown = tt; all = ap (λ x. w x []) (same_read a n.0 vs us (sym r ∙ n.1)) ∙ sym (n.3 []) }

    -- all are read
    pub reading_done : (ts us : List Lexeme) (nodes : List B) (a : A) → e ts ≡ Read a [] us → Reading ts nodes [] → ShowAll shows nodes (map (fill_stmts bodies) (w a []))
    reading_done ts us nodes a r g = let d = g a us r refl in subst (λ x. ShowAll shows nodes (map (fill_stmts bodies) x)) (sym (d.all ∙ append-nil d.trees)) d.shown

    -- the next body is read: those inside it come next
    pub reading_next : (braced : (n : ℕ) → body_ending (bodies n) ≡ BracedArrow) (ts us : List Lexeme) (nodes : List B) (node : B) (b : Recorded) (rest qs : List Recorded) (given : Stmts) (end : ℕ) → pass_body bodies braced b ≡ Read (record { body = tree.BracedBody given; end = end }) qs us → shows node given → Reading ts nodes (b ∷ rest) → Reading ts (nodes ++ node ∷ []) (qs ++ rest)
    reading_next braced ts us nodes node b rest qs given end h s g a vs r c =
        let n = both (OwnK bodies) (in_inner true) _ _ (own_bodies_list true bodies braced b.room b.form 0 b.simple) b.from us _ qs h (judged_first qs rest c) in
        let d = g a vs r (before_fine c) in
        let k : OwnK bodies n.0 (record { body = tree.BracedBody given; end = end }) = n.2 in
        let inner : in_read true (body_in_place b) (in_records true body_in_place rest []) ≡ k.items ∷ in_records true body_in_place (qs ++ rest) [] =
        ap (λ y. in_read true y (in_records true body_in_place rest [])) n.1
        ∙ ap (λ y. in_body true y (in_records true body_in_place rest [])) k.first
        ∙ ap (λ y. k.items ∷ y) (ap (λ y. in_inside true y (in_records true body_in_place rest [])) (sym k.first) ∙ sym (n.3 (in_records true body_in_place rest [])) ∙ sym (in_append true body_in_place qs rest [])) in
        record {
          trees = d.trees ++ k.items ∷ [];
          shown = subst (ShowAll shows (nodes ++ node ∷ [])) (sym (map_more (fill_stmts bodies) d.trees k.items)) (show_more shows nodes (map (fill_stmts bodies) d.trees) node (fill_stmts bodies k.items) d.shown (subst (shows node) (braced_items given (fill_stmts bodies k.items) k.second) s));
          all = d.all ∙ ap (λ x. d.trees ++ x) inner ∙ sym (append_assoc d.trees (k.items ∷ []) (in_records true body_in_place (qs ++ rest) []));
        }
      where
        before_fine : judged_bodies (qs ++ rest) ≡ fine → judged_bodies (b ∷ rest) ≡ fine
        before_fine c = sym (or_fine (judged_bodies (b ∷ rest))) ∙ next_read bodies braced b rest fine (ap own_says h) ∙ or_fine (judged_bodies (records (pass_body bodies braced b) ++ rest)) ∙ ap (λ x. judged_bodies (records x ++ rest)) h ∙ c

  -- a script, by the parsers with all room for depth

  abbrev pub ScriptReading : List Lexeme → List B → List Recorded → Type 0
  ScriptReading = Reading (in_stmts true) (read_script depth_limit)

  pub script_init : (braced : (n : ℕ) → body_ending (bodies n) ≡ BracedArrow) (ts us : List Lexeme) (given : Stmts) (rs : List Recorded) → pass_script bodies braced ts ≡ Read given rs us → ScriptReading ts [] rs
  script_init braced = reading_init (in_stmts true) (read_script depth_limit) (StmtsK bodies) (pass_script bodies braced) (scripts_list true bodies braced depth_limit)

  pub script_next : (braced : (n : ℕ) → body_ending (bodies n) ≡ BracedArrow) (ts us : List Lexeme) (nodes : List B) (node : B) (b : Recorded) (rest qs : List Recorded) (given : Stmts) (end : ℕ) → pass_body bodies braced b ≡ Read (record { body = tree.BracedBody given; end = end }) qs us → shows node given → ScriptReading ts nodes (b ∷ rest) → ScriptReading ts (nodes ++ node ∷ []) (qs ++ rest)
  script_next braced = reading_next (in_stmts true) (read_script depth_limit) braced

  -- A node for each body of the script, in the order of the source, each before those of the bodies inside it.
  pub script_done : (ts us : List Lexeme) (nodes : List B) (items : Stmts) → read_script depth_limit ts ≡ Read items [] us → ScriptReading ts nodes [] → ShowAll shows nodes (map (fill_stmts bodies) (braced_all items))
  script_done = reading_done (in_stmts true) (read_script depth_limit)

  -- a function that is read alone, with so much room for depth

  module _ (room : ℕ) (f : FuncForm) where
    abbrev pub FunctionReading : List Lexeme → List B → List Recorded → Type 0
    FunctionReading = Reading (in_alone true) (read_alone in_place room f)

    pub function_init : (braced : (n : ℕ) → body_ending (bodies n) ≡ BracedArrow) (ts us : List Lexeme) (given : Function) (rs : List Recorded) → read_alone (passed_over bodies) room f ts ≡ Read given rs us → FunctionReading ts [] rs
    function_init braced = reading_init (in_alone true) (read_alone in_place room f) (AloneK bodies) (read_alone (passed_over bodies) room f) (functions_list true bodies braced room f)

    pub function_next : (braced : (n : ℕ) → body_ending (bodies n) ≡ BracedArrow) (ts us : List Lexeme) (nodes : List B) (node : B) (b : Recorded) (rest qs : List Recorded) (given : Stmts) (end : ℕ) → pass_body bodies braced b ≡ Read (record { body = tree.BracedBody given; end = end }) qs us → shows node given → FunctionReading ts nodes (b ∷ rest) → FunctionReading ts (nodes ++ node ∷ []) (qs ++ rest)
    function_next braced = reading_next (in_alone true) (read_alone in_place room f) braced

    pub function_done : (ts us : List Lexeme) (nodes : List B) (x : Function) → read_alone in_place room f ts ≡ Read x [] us → FunctionReading ts nodes [] → ShowAll shows nodes (map (fill_stmts bodies) (in_alone true x []))
    function_done = reading_done (in_alone true) (read_alone in_place room f)
