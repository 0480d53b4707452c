-- What the parser of scripts answers, by the definitions alone: it reads a script with its one tree where no token is too
-- deep, and where it faults there is the first fault of the text. Bodies are read in place.
use Rattle.std.proofs.Common.{◌≡◌, ℕ, suc, ◌+◌, ◌-◌, ◌<◌, List, [], ◌∷◌, ◌++◌, length, drop, refl, sym, ap, ◌∙◌, subst, arith, append_assoc, append-nil, length-append, true, false}
use Rattle.std.proofs.lemmas.List.{take-append-drop}
use Rattle.script_grammar.specs.declared.token.Kind.{Kind}
use Rattle.script_grammar.specs.declared.token.Kind.TheVariants as kind
use Rattle.script_grammar.specs.Lexeme.{Lexeme}
use Rattle.script_grammar.specs.Kinds.{is_end}
use Rattle.script_grammar.specs.Tree.{Stmts}
use Rattle.script_grammar.specs.TreeLists.{stmts_of}
use Rattle.script_grammar.specs.Pieces.{whole, depths}
use Rattle.script_grammar.specs.Print.{print_stmts}
use Rattle.script_grammar.specs.Script.{IsScript}
use Rattle.script_grammar.specs.Fault.{depth_limit, Part, ScriptPart, Begins, Viable, Refusal, Unexpected, TooDeep, RefusedAs, FirstFault}
use Rattle.grammar_parser_specs.specs.Parser.{Reply, Read, Bad, Deep, head_of, end_lexeme}
use Rattle.grammar_parser_specs.specs.Stmts as parser
use Rattle.grammar_parser_specs.specs.Stmts.{StmtCalls, read_script}
use Rattle.grammar_parser_laws.proofs.Friendly.{AtFront}
use Rattle.grammar_parser_laws.proofs.Tests.{end_known}
use Rattle.grammar_parser_laws.proofs.Stands.{Marked, marks, lexemes_append, fits_standing}
use Rattle.grammar_parser_laws.proofs.Complete.{bare, cut_append}
use Rattle.grammar_sound_laws.proofs.SoundNext.{stands}
use Rattle.grammar_sound_laws.proofs.SoundEverything.{read_script_sound}
use Rattle.grammar_local_laws.proofs.LocalEverything.{read_script_local}
use Rattle.grammar_complete_laws.proofs.CompleteEverything.{read_script_complete}
use Rattle.grammar_script_laws.proofs.Bracketed.{IsInner, AllInner}
use Rattle.grammar_parser_laws.proofs.NestedTrees.{nested_stmts}
use Rattle.grammar_script_laws.proofs.FirstFaults.{Whole, Decides, Cuts, first_bad, first_bad_by, first_deep, not_inner, deep_before, fault_place, fault_kind}
use Rattle.grammar_script_laws.proofs.PartLaws.{of_read, bad_part, deep_part, nested_inner, NoneDeep, cut_read, cut_none, both_stand, one_read, room_of, ends_there}

-- the parser, with all room for depth
abbrev pub Reads : List Lexeme → Reply Stmts
Reads ts = bare (read_script depth_limit ts)

-- a list of tokens of which only the last is no token of a text, as its End
pub record Text (ts : List Lexeme) : Type 0 where
  pub inner : List Lexeme
  pub last : Lexeme
  pub split : ts ≡ inner ++ last ∷ []
  pub are_inner : AllInner inner
  pub ends : IsInner last.kind → ⊥

pub whole_text : (ts : List Lexeme) → Text ts → Whole ts
whole_text ts t = record { inner = t.inner; last = t.last; split = t.split; ends = t.ends }

-- tokens that are a script with this tree and its End token, none of them too deep
pub record ScriptOf (ts : List Lexeme) (items : Stmts) : Type 0 where
  pub inner : List Lexeme
  pub last : Lexeme
  pub split : ts ≡ inner ++ last ∷ []
  pub ends : last.kind ≡ kind.End
  pub is : IsScript inner last items
  pub shallow : NoneDeep (depths (print_stmts whole 0 items) inner last is.fits)

-- the three laws

pub end_kind : (t : Lexeme) → t.kind ≡ kind.End → is_end t.kind ≡ true
end_kind t e = ap is_end e

script_inner : (w : List Lexeme) (items : Stmts) (n : Lexeme) → IsScript w n items → AllInner w
script_inner w items n s = nested_inner (print_stmts whole 0 items) (nested_stmts whole 0 false items s.proper) w n s.fits

script_part : (u v : List Lexeme) (items : Stmts) → IsScript (u ++ v) end_lexeme items → Begins (ScriptPart whole 0) u
script_part u v items s = record {
  end = v ++ end_lexeme ∷ [];
  deep = depths (print_stmts whole 0 items) (u ++ v) end_lexeme s.fits ++ 0 ∷ [];
  is = record { inner = u ++ v; end = end_lexeme; split = sym (append_assoc u v (end_lexeme ∷ [])); ends = refl; items = items; is = s; deep_is = refl };
}

pub marks_append : (u v : List Marked) → marks (u ++ v) ≡ marks u ++ marks v
marks_append [] v = refl
marks_append (x ∷ u) v = ap (λ y. x.depth ∷ y) (marks_append u v)

script_cuts : (w : List Lexeme) (deep : List ℕ) → ScriptPart whole 0 w deep → Cuts (ScriptPart whole 0) (read_script depth_limit) w deep
script_cuts w deep p =
    let s = fits_standing (print_stmts whole 0 p.items) p.inner p.end p.is.fits in
    let last : List Marked = record { lexeme = p.end; depth = 0 } ∷ [] in
    let reply : Reply Stmts = Read p.items [] (p.end ∷ []) in
    record {
      marked = s.marked ++ last;
      lexemes_are = lexemes_append s.marked last ∙ ap (λ x. x ++ p.end ∷ []) s.lexemes_are ∙ sym p.split;
      depths_are = marks_append s.marked last ∙ ap (λ x. x ++ 0 ∷ []) s.depths_are ∙ sym p.deep_is;
      of = p.items;
      left = p.end ∷ [];
      cuts =
          ap Reads (p.split ∙ ap (λ x. x ++ p.end ∷ []) (sym s.lexemes_are))
          ∙ ((read_script_complete depth_limit p.items p.is.proper).at s.marked (p.end ∷ []) s.stands (end_kind p.end p.ends)).by
          ∙ sym (cut_append depth_limit s.marked last [] reply);
    }

pub script_decides : Decides (ScriptPart whole 0) (read_script depth_limit)
script_decides = record {
  local = read_script_local depth_limit;
  bad_begins = bad_part (ScriptPart whole 0) (read_script depth_limit) AtFront (λ w x n. IsScript w n x) (read_script_sound depth_limit) (λ w a s. script_inner w a end_lexeme s) script_part;
  deep_begins = deep_part (ScriptPart whole 0) (read_script depth_limit) AtFront (λ w x n. IsScript w n x) (read_script_sound depth_limit) (λ w a s. script_inner w a end_lexeme s) script_part;
  reads = script_cuts;
}

-- What is read is a script.

pub script_ends : (stmt : StmtCalls) (ts us : List Lexeme) (a : Stmts) → bare (parser.script_of stmt ts) ≡ Read a [] us → is_end (head_of us).kind ≡ true
unfolding parser.script_of
script_ends stmt ts us a e = ends_there stmts_of (parser.stmts_from stmt false ts) a us e

pub record Last (front inner : List Lexeme) (x last : Lexeme) (r : List Lexeme) : Type 0 where
  pub same_front : front ≡ inner
  pub same_last : x ≡ last
  pub none : r ≡ []

pub last_only : (front inner : List Lexeme) (x last : Lexeme) (r : List Lexeme) → front ++ x ∷ r ≡ inner ++ last ∷ [] → AllInner inner → (IsInner x.kind → ⊥) → Last front inner x last r
last_only [] [] x last r e h n = record { same_front = refl; same_last = cc; none = cc }
last_only [] (t ∷ inner) x last r e h n = absurd (n (subst (λ y. IsInner y.kind) (first e) h.0))
  where
    first : (x ∷ r) ≡ t ∷ (inner ++ last ∷ []) → t ≡ x
    first e = cc
last_only (y ∷ front) [] x last r e h n = absurd (omega (arith, ap length e, length-append front (x ∷ r)))
last_only (y ∷ front) (t ∷ inner) x last r e h n = both (last_only front inner x last r (tail e) h.1 n)
  where
    tail : (y ∷ (front ++ x ∷ r)) ≡ t ∷ (inner ++ last ∷ []) → front ++ x ∷ r ≡ inner ++ last ∷ []
    tail e = cc

    both : Last front inner x last r → Last (y ∷ front) (t ∷ inner) x last r
    both q = record { same_front = cc (e, q.same_front); same_last = q.same_last; none = q.none }

script_at : (inner : List Lexeme) (last : Lexeme) (items : Stmts) (us : List Lexeme) → last.kind ≡ kind.End → (s : IsScript inner last items) → Reads (inner ++ last ∷ []) ≡ Read items [] us → NoneDeep (depths (print_stmts whole 0 items) inner last s.fits)
script_at inner last items us e s h =
    let q = fits_standing (print_stmts whole 0 items) inner last s.fits in
    let r = (read_script_complete depth_limit items s.proper).at q.marked (last ∷ []) q.stands (end_kind last e) in
    subst NoneDeep q.depths_are (cut_read q.marked (last ∷ []) (Read items [] (last ∷ [])) items us (sym r.by ∙ ap (λ x. Reads (x ++ last ∷ [])) q.lexemes_are ∙ h)).0

pub inner_no_end : (k : Kind) → k ≡ kind.End → IsInner k → ⊥
inner_no_end k e h = subst IsInner e h

-- where a text is read, it is a script with this tree, and none of its tokens is too deep
pub read_is_script : (ts : List Lexeme) (items : Stmts) (us : List Lexeme) → Text ts → Reads ts ≡ Read items [] us → ScriptOf ts items
read_is_script ts items us t e = by us refl
  where
    by : (vs : List Lexeme) → us ≡ vs → ScriptOf ts items
    by [] h =
        let o = of_read AtFront (λ w x n. IsScript w n x) ts us items (read_script depth_limit ts) e ((read_script_sound depth_limit).at ts) in
        absurd (not_inner t.inner t.last t.ends (subst AllInner (sym (append-nil o.front) ∙ ap (λ y. o.front ++ y) (sym h) ∙ sym o.split ∙ t.split) (script_inner o.front items (head_of us) (o.is (head_of us) (stands refl)))))
    by (x ∷ r) h =
        let o = of_read AtFront (λ w y n. IsScript w n y) ts us items (read_script depth_limit ts) e ((read_script_sound depth_limit).at ts) in
        let ends : x.kind ≡ kind.End = end_known x.kind (ap (λ y. is_end (head_of y).kind) (sym h) ∙ script_ends (parser.everything parser.in_place depth_limit).stmts ts us items e) in
        let q = last_only o.front t.inner x t.last r (ap (λ y. o.front ++ y) (sym h) ∙ sym o.split ∙ t.split) t.are_inner (inner_no_end x.kind ends) in
        let last_ends : t.last.kind ≡ kind.End = subst (λ y. y.kind ≡ kind.End) q.same_last ends in
        let is : IsScript t.inner t.last items = subst (λ y. IsScript y t.last items) q.same_front (o.is t.last (stands (sym q.same_last ∙ ap head_of (sym h)))) in
        record { inner = t.inner; last = t.last; split = t.split; ends = last_ends; is = is; shallow = script_at t.inner t.last items us last_ends is (ap Reads (sym t.split) ∙ e) }

-- A script is read, up to its End token.

pub script_is_read : (inner : List Lexeme) (last : Lexeme) (rest : List Lexeme) (items : Stmts) → last.kind ≡ kind.End → (s : IsScript inner last items) → NoneDeep (depths (print_stmts whole 0 items) inner last s.fits) → Reads (inner ++ last ∷ rest) ≡ Read items [] (last ∷ rest)
script_is_read inner last rest items e s h =
    let q = fits_standing (print_stmts whole 0 items) inner last s.fits in
    let r = (read_script_complete depth_limit items s.proper).at q.marked (last ∷ rest) q.stands (end_kind last e) in
    ap (λ x. Reads (x ++ last ∷ rest)) (sym q.lexemes_are) ∙ r.by ∙ cut_none q.marked (last ∷ rest) (Read items [] (last ∷ rest)) (subst NoneDeep (sym q.depths_are) h)

pub script_read : (ts : List Lexeme) (items : Stmts) (s : ScriptOf ts items) → Reads ts ≡ Read items [] (s.last ∷ [])
script_read ts items s = ap Reads s.split ∙ script_is_read s.inner s.last [] items s.ends s.is s.shallow

-- Where it faults, there is the first fault.

pub script_unexpected : (ts us : List Lexeme) → Whole ts → Reads ts ≡ Bad [] us → FirstFault (ScriptPart whole 0) ts (length ts - length us) Unexpected
script_unexpected ts us t e = first_bad (ScriptPart whole 0) (read_script depth_limit) script_decides ts us t e

pub script_unexpected_by : (ts us : List Lexeme) → (Reads ts ≡ Bad [] [] → ⊥) → Reads ts ≡ Bad [] us → FirstFault (ScriptPart whole 0) ts (length ts - length us) Unexpected
script_unexpected_by ts us h e = first_bad_by (ScriptPart whole 0) (read_script depth_limit) script_decides ts us h e

pub script_too_deep : (ts us : List Lexeme) → Reads ts ≡ Deep [] us → FirstFault (ScriptPart whole 0) ts (length ts - length us) TooDeep
script_too_deep ts us e = first_deep (ScriptPart whole 0) (read_script depth_limit) script_decides ts us e

-- A text that is read has no fault, so a fault of the text is where the parser finds one.

whole_viable : (P : Part) (ts : List Lexeme) (deep : List ℕ) (k : ℕ) → P ts deep → Viable P ts k
whole_viable P ts deep k p = record { end = drop (suc k) ts; deep = deep; is = subst (λ x. P x deep) (sym (take-append-drop (suc k) ts)) p }

read_deep : {A : Type 0} (a : A) (us vs : List Lexeme) → ◌≡◌ {A = Reply A} (Read a [] us) (Deep [] vs) → ⊥
read_deep a us vs e = cc

part_of : (ts : List Lexeme) (items : Stmts) (s : ScriptOf ts items) → ScriptPart whole 0 ts (depths (print_stmts whole 0 items) s.inner s.last s.is.fits ++ 0 ∷ [])
part_of ts items s = record { inner = s.inner; end = s.last; split = s.split; ends = s.ends; items = items; is = s.is; deep_is = refl }

no_fault : (ts : List Lexeme) (items : Stmts) (s : ScriptOf ts items) (k : ℕ) (why : Refusal) → k < length ts → RefusedAs why (ScriptPart whole 0) ts k → ⊥
no_fault ts items s k Unexpected l r = r (whole_viable (ScriptPart whole 0) ts _ k (part_of ts items s))
no_fault ts items s k TooDeep l r =
    let g = deep_before (ScriptPart whole 0) (read_script depth_limit) script_decides ts k l r in
    read_deep items (s.last ∷ []) (g.at ∷ g.rest) (sym (script_read ts items s) ∙ g.found)

pub read_has_no_fault : (ts : List Lexeme) (items : Stmts) (k : ℕ) (why : Refusal) → ScriptOf ts items → k < length ts → FirstFault (ScriptPart whole 0) ts k why → ⊥
read_has_no_fault ts items k why s l f = no_fault ts items s k why l f.refused

-- what the parser answers at a fault
abbrev pub Refuses : Refusal → ℕ → List Lexeme → Reply Stmts → Type 0
Refuses why k ts (Read a rs us) = ⊥
Refuses why k ts (Bad rs us) = (why ≡ Unexpected) × (k ≡ length ts - length us)
Refuses why k ts (Deep rs us) = (why ≡ TooDeep) × (k ≡ length ts - length us)

pub fault_is_found : (ts : List Lexeme) (k : ℕ) (why : Refusal) → Text ts → k < length ts → FirstFault (ScriptPart whole 0) ts k why → Refuses why k ts (Reads ts)
fault_is_found ts k why t l f = by (read_script depth_limit ts) refl
  where
    by : (r : Reply Stmts) → read_script depth_limit ts ≡ r → Refuses why k ts (bare r)
    by (Read a rs us) e = read_has_no_fault ts a k why (read_is_script ts a us t (ap bare e)) l f
    by (Bad rs us) e =
        let g = script_unexpected ts us (whole_text ts t) (ap bare e) in
        (fault_kind (ScriptPart whole 0) ts k (length ts - length us) why Unexpected f g, fault_place (ScriptPart whole 0) ts k (length ts - length us) why Unexpected f g)
    by (Deep rs us) e =
        let g = script_too_deep ts us (ap bare e) in
        (fault_kind (ScriptPart whole 0) ts k (length ts - length us) why TooDeep f g, fault_place (ScriptPart whole 0) ts k (length ts - length us) why TooDeep f g)

-- One tree.

pub one_script : (w : List Lexeme) (x y : Lexeme) (a b : Stmts) → IsScript w x a → IsScript w y b → a ≡ b
one_script w x y a b s t =
    let q = both_stand (print_stmts whole 0 a) (print_stmts whole 0 b) w x y s.fits t.fits in
    one_read 0 (read_script (room_of q + 0)) (print_stmts whole 0 a) (print_stmts whole 0 b) w a b q
    ((read_script_complete (room_of q + 0) a s.proper).at q.left [] q.left_stand refl)
    ((read_script_complete (room_of q + 0) b t.proper).at q.right [] q.right_stand refl)
