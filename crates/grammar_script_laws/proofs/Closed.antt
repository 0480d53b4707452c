-- A text up to the stop of its brackets: no text whose brackets match begins with all of it, so the parser faults before its
-- end. Where it reads a script, the text ends with its End token.
use Rattle.std.proofs.Common.{◌≡◌, List, [], ◌∷◌, ◌++◌, refl, sym, ap, ◌∙◌, subst, append-nil, Option, Some, None, false}
use Rattle.script_grammar.specs.declared.token.Kind.TheVariants as kind
use Rattle.script_grammar.specs.Lexeme.{Lexeme}
use Rattle.script_grammar.specs.Kinds.{is_end}
use Rattle.script_grammar.specs.Tree.{Stmts}
use Rattle.script_grammar.specs.Pieces.{whole, Opener, open_behind, open_at_end}
use Rattle.script_grammar.specs.Script.{IsScript}
use Rattle.script_grammar.specs.Fault.{depth_limit}
use Rattle.grammar_parser_specs.specs.Parser.{Read, Bad, head_of, end_lexeme}
use Rattle.grammar_parser_specs.specs.Stmts as parser
use Rattle.grammar_parser_specs.specs.Stmts.{read_script}
use Rattle.grammar_parser_laws.proofs.Friendly.{AtFront}
use Rattle.grammar_parser_laws.proofs.Tests.{end_known}
use Rattle.grammar_sound_laws.proofs.SoundNext.{stands}
use Rattle.grammar_sound_laws.proofs.SoundEverything.{read_script_sound}
use Rattle.grammar_script_laws.proofs.Bracketed.{IsInner, AllInner}
use Rattle.grammar_parser_laws.proofs.NestedTrees.{nested_stmts}
use Rattle.grammar_script_laws.proofs.PartLaws.{of_read}
use Rattle.grammar_script_laws.proofs.ScriptLaws.{Reads, Text, script_decides, script_ends, last_only, inner_no_end}

pub record Closed (ts : List Lexeme) : Type 0 where
  pub is : open_at_end [] ts ≡ None

-- The brackets that are open after some tokens are known where they are after more.
pub record Open (os : List Opener) (ts : List Lexeme) : Type 0 where
  pub open_ones : List Opener
  pub is : open_at_end os ts ≡ Some open_ones

pub open_front : (u v : List Lexeme) (os qs : List Opener) → open_at_end os (u ++ v) ≡ Some qs → Open os u
open_front [] v os qs e = record { open_ones = os; is = refl }
open_front (t ∷ u) v os qs e = past (open_behind t.kind os) refl (λ x. open_front u v x qs) e
  where
    past : (o : Option (List Opener)) → open_behind t.kind os ≡ o → ((x : List Opener) → open_at_end x (u ++ v) ≡ Some qs → Open x u) → (elim o [ None ↦ None | Some x ↦ open_at_end x (u ++ v) ]) ≡ Some qs → Open os (t ∷ u)
    past None k h e = absurd (cc)
    past (Some x) k h e = let r = h x e in record { open_ones = r.open_ones; is = ap (λ o. elim o [ None ↦ None | Some y ↦ open_at_end y u ]) k ∙ r.is }

pub not_both : (o : Option (List Opener)) (qs : List Opener) → o ≡ None → o ≡ Some qs → ⊥
not_both o qs n s = cc (n, s)

closed_no_script : (w : List Lexeme) (next : Lexeme) (items : Stmts) → IsScript w next items → (u v : List Lexeme) → w ≡ u ++ v → Closed u → ⊥
closed_no_script w next items s u v e c =
    let balanced = (nested_stmts whole 0 false items s.proper).at w next s.fits [] in
    let o = open_front u v [] [] (ap (open_at_end []) (sym e) ∙ balanced) in
    not_both (open_at_end [] u) o.open_ones c.is o.is

-- tokens of a text that begin a text and its end begin the text
pub record Front (u w : List Lexeme) : Type 0 where
  pub rest : List Lexeme
  pub is : w ≡ u ++ rest

pub front_of : (u v w : List Lexeme) (x : Lexeme) → u ++ v ≡ w ++ x ∷ [] → AllInner u → (IsInner x.kind → ⊥) → Front u w
front_of [] v w x e h n = record { rest = w; is = refl }
front_of (t ∷ u) v [] x e h n = absurd (n (subst (λ (y : Lexeme). IsInner y.kind) (first e) h.0))
  where
    first : t ∷ (u ++ v) ≡ x ∷ [] → t ≡ x
    first e = cc
front_of (t ∷ u) v (y ∷ w) x e h n = let r = front_of u v w x (tail e) h.1 n in record { rest = r.rest; is = ap (λ z. z ∷ w) (sym (head e)) ∙ ap (λ z. t ∷ z) r.is }
  where
    head : t ∷ (u ++ v) ≡ y ∷ (w ++ x ∷ []) → t ≡ y
    head e = cc

    tail : t ∷ (u ++ v) ≡ y ∷ (w ++ x ∷ []) → u ++ v ≡ w ++ x ∷ []
    tail e = cc

-- the parser does not fault after the end
pub no_bad_end : (ts : List Lexeme) → Closed ts → Reads ts ≡ Bad [] [] → ⊥
no_bad_end ts c e =
    let b = script_decides.bad_begins ts [] e in
    let f = front_of b.front b.end b.is.inner b.is.end b.is.split b.inner (inner_no_end b.is.end.kind b.is.ends) in
    closed_no_script b.is.inner b.is.end b.is.items b.is.is b.front f.rest f.is (record { is = ap (open_at_end []) (sym (append-nil b.front) ∙ sym b.split) ∙ c.is })

-- a text up to the stop of its brackets, of which only the last token may be its End or Bad
pub record Ended (ts : List Lexeme) : Type 0 where
  pub inner : List Lexeme
  pub last : Lexeme
  pub split : ts ≡ inner ++ last ∷ []
  pub are_inner : AllInner inner
  pub closed : Closed ts

-- where a script is read, the last token is its End
pub read_text : (ts : List Lexeme) (items : Stmts) (us : List Lexeme) → Ended ts → Reads ts ≡ Read items [] us → Text ts
read_text ts items us t e = by us refl
  where
    by : (vs : List Lexeme) → us ≡ vs → Text ts
    by [] h =
        let o = of_read AtFront (λ w x n. IsScript w n x) ts us items (read_script depth_limit ts) e ((read_script_sound depth_limit).at ts) in
        absurd (closed_no_script o.front end_lexeme items (o.is end_lexeme (stands (ap head_of (sym h)))) o.front [] (sym (append-nil o.front)) (record { is = ap (open_at_end []) (sym (append-nil o.front) ∙ ap (λ y. o.front ++ y) (sym h) ∙ sym o.split) ∙ t.closed.is }))
    by (x ∷ r) h =
        let o = of_read AtFront (λ w y n. IsScript w n y) ts us items (read_script depth_limit ts) e ((read_script_sound depth_limit).at ts) in
        let ends : x.kind ≡ kind.End = end_known x.kind (ap (λ y. is_end (head_of y).kind) (sym h) ∙ script_ends (parser.everything parser.in_place depth_limit).stmts ts us items e) in
        let q = last_only o.front t.inner x t.last r (ap (λ y. o.front ++ y) (sym h) ∙ sym o.split ∙ t.split) t.are_inner (inner_no_end x.kind ends) in
        record { inner = t.inner; last = t.last; split = t.split; are_inner = t.are_inner; ends = inner_no_end t.last.kind (subst (λ (y : Lexeme). y.kind ≡ kind.End) q.same_last ends) }
