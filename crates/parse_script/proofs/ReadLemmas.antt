-- What is read of the tokens up to the stop of their brackets is what all of them are.
use Rattle.std.proofs.Common.{◌≡◌, ℕ, suc, ◌≤◌, ◌<◌, List, [], ◌∷◌, map, length, take, true, false, Result, Ok, Err, refl, sym, ap, ◌∙◌, subst, arith, length-append}
use Rattle.std.proofs.lemmas.List.{take-map, map-append, length-take}
use Rattle.std.specs.Prelude.{IsErrAnd}
use Rattle.std.proofs.lemmas.Result.{err_from_is_err_and}
use Rattle.script_grammar.specs.declared.token.Kind.{Kind}
use Rattle.script_grammar.specs.declared.token.Kind.TheVariants as kind
use Rattle.script_grammar.specs.declared.token.Token.{Token}
use Rattle.script_grammar.specs.Braced.{braced_all}
use Rattle.script_grammar.specs.Interpretation.{Interpretation}
use Rattle.script_grammar.specs.Lexeme.{Lexeme, lexeme_of}
use Rattle.script_grammar.specs.Matching.{Matching}
use Rattle.script_grammar.specs.Pieces.{whole}
use Rattle.script_grammar.specs.Shows.{ShowAll}
use Rattle.script_grammar.specs.Tree.{Stmts}
use Rattle.script_grammar.specs.Fault.{ScriptPart, Refusal, Unexpected, TooDeep, FirstFault}
use Rattle.script_scanner.specs.Stands.{is_last, AreNoLast, HasOneLast}
use Rattle.grammar_parser_specs.specs.Filling.{fill_stmts}
use Rattle.grammar_script_laws.proofs.Bracketed.{IsInner, AllInner}
use Rattle.grammar_deferred_laws.proofs.CutTexts.{first_fault_of_cut, cut_is_all}
use Rattle.grammar_script_laws.proofs.ScriptLaws.{Text, inner_no_end}
use Rattle.parse_exprs.specs.declared.source.Source.{Source}
use Rattle.parse_exprs.specs.declared.place.ParseFault.{ParseFault}
use Rattle.parse_exprs.specs.declared.place.ParseFault.TheVariants as faults
use Rattle.parse_exprs.specs.Env.{body_at}
use Rattle.parse_exprs.specs.Source.{IsSource, lexemes}
use Rattle.parse_exprs.proofs.Closing.{ended}
use Rattle.parse_bodies.specs.Whole.{IsText, IsWhole}
use Rattle.parse_bodies.specs.declared.whole.Script.{Script}
use Rattle.parse_script.specs.Reading.{IsShown, IsReadingBy}
use Rattle.parse_script.proofs.TextLemmas.{one_text, fault_within}

-- The tokens are a text: the last of them, and no other, ends it.

inner_kind : (k : Kind) → is_last k ≡ false → IsInner k
inner_kind kind.Bad h = absurd (cc)
inner_kind kind.End h = absurd (cc)
inner_kind kind.Name h = tt
inner_kind kind.Number h = tt
inner_kind kind.Str h = tt
inner_kind kind.TemplateWhole h = tt
inner_kind kind.TemplateHead h = tt
inner_kind kind.TemplateMiddle h = tt
inner_kind kind.TemplateTail h = tt
inner_kind (kind.Word i) h = tt
inner_kind (kind.Mark i) h = tt

last_kind : (k : Kind) → is_last k ≡ true → IsInner k → ⊥
last_kind kind.Bad h i = i
last_kind kind.End h i = i
last_kind _ h i = cc

inner_all : (get set : ℕ) (texts : List (List ℕ)) (ts : List Token) → AreNoLast ts → AllInner (map (lexeme_of get set texts) ts)
inner_all get set texts [] h = tt
inner_all get set texts (t ∷ ts) h = (inner_kind t.kind h.0, inner_all get set texts ts h.1)

as_text : (get set : ℕ) (texts : List (List ℕ)) (ts : List Token) → HasOneLast ts → Text (map (lexeme_of get set texts) ts)
as_text get set texts ts h = record {
  inner = map (lexeme_of get set texts) h.front;
  last = lexeme_of get set texts h.last;
  split = ap (map (lexeme_of get set texts)) h.split ∙ map-append (lexeme_of get set texts) h.front (h.last ∷ []);
  are_inner = inner_all get set texts h.front h.others;
  ends = last_kind h.last.kind h.ends;
}

-- there is one at least
pub has_some : (ts : List Token) → HasOneLast ts → 0 < length ts
has_some ts h = let z = ap length h.split ∙ length-append h.front (h.last ∷ []) in omega (arith, z)

module _ (i : Interpretation) (ts : List Token) (m : Matching) (s : Source) (get set : ℕ) (one : HasOneLast ts) (is : IsSource s) (cut : s.tokens.now ≡ take (suc m.stop) ts) (same_get : s.get ≡ get) (same_set : s.set ≡ set) where
  abbrev all : List Lexeme
  all = map (lexeme_of get set i.texts) ts

  abbrev front : List Lexeme
  front = take (suc m.stop) all

  front_is : lexemes s i ≡ front
  front_is =
      ap (λ (g : ℕ). map (lexeme_of g s.set i.texts) s.tokens.now) same_get
      ∙ ap (λ (g : ℕ). map (lexeme_of get g i.texts) s.tokens.now) same_set
      ∙ ap (map (lexeme_of get set i.texts)) cut
      ∙ sym (take-map (lexeme_of get set i.texts) (suc m.stop) ts)

  text_is_all : (items : Stmts) → IsText (lexemes s i) items → IsText all items
  text_is_all items t =
      let h : IsText front items = subst (λ (x : List Lexeme). IsText x items) front_is t in
      subst (λ (x : List Lexeme). IsText x items) (cut_is_all (suc m.stop) all h.inner h.end (as_text get set i.texts ts one) h.split (inner_no_end h.end.kind h.ends)) h

  fault_is_all : (token : ℕ) (why : Refusal) → FirstFault (ScriptPart whole 0) (lexemes s i) token why → FirstFault (ScriptPart whole 0) all token why
  fault_is_all token why f =
      let e = ended s is i in
      let within = fault_within (lexemes s i) e.inner e.last token why e.split e.are_inner (λ inner. e.closed) f in
      let size : length (lexemes s i) ≤ suc m.stop = (let z = ap length front_is in let w = length-take (suc m.stop) all in omega (arith, z, w)) in
      first_fault_of_cut (ScriptPart whole 0) (suc m.stop) all token why (omega (arith, within, size)) (subst (λ (x : List Lexeme). FirstFault (ScriptPart whole 0) x token why) front_is f)

  module _ {B : Type 0} (shows : Interpretation → B → Stmts → Type 0) where
    -- the nodes that were made
    pub read_shown : (script : Script B) → IsWhole i (shows i) s (Ok script) → IsShown shows i all script
    read_shown script w = record { items = w.items; is = text_is_all w.items w.is; top = w.top; bodies = w.bodies }

    -- the fault that was found
    pub read_fault : (e : ParseFault) → IsWhole {B = B} i (shows i) s (Err e) → IsReadingBy shows i all (Err e)
    read_fault (faults.Unexpected token) w = fault_is_all token Unexpected w
    read_fault (faults.TooDeep token) w = fault_is_all token TooDeep w
    read_fault faults.NoMemory w = tt

module _ {B : Type 0} (shows : Interpretation → B → Stmts → Type 0) (i : Interpretation) (tokens : List Lexeme) where
  -- an error is handed on
  pub read_on : (e : ParseFault) (r : Result (Script B) ParseFault) → IsErrAnd r (λ y. y ≡ e) → IsReadingBy shows i tokens (Err e) → IsReadingBy shows i tokens r
  read_on e r h k = let x = err_from_is_err_and r h in subst (IsReadingBy shows i tokens) (ap Err (sym x.2) ∙ sym x.1) k

  -- the kind of a fault
  pub read_unexpected : (e : ParseFault) (token : ℕ) → e ≡ faults.Unexpected token → IsReadingBy shows i tokens (Err e) → FirstFault (ScriptPart whole 0) tokens token Unexpected
  read_unexpected e token is h = let P : ParseFault → Type 0 = λ f. IsReadingBy shows i tokens (Err f) in subst P is h

  pub read_too_deep : (e : ParseFault) (token : ℕ) → e ≡ faults.TooDeep token → IsReadingBy shows i tokens (Err e) → FirstFault (ScriptPart whole 0) tokens token TooDeep
  read_too_deep e token is h = let P : ParseFault → Type 0 = λ f. IsReadingBy shows i tokens (Err f) in subst P is h

-- Tokens have one tree, whatever bodies and whatever handler's nodes it is shown with.
pub one_script : {A B : Type 0} (shows : Interpretation → A → Stmts → Type 0) (others : Interpretation → B → Stmts → Type 0) (i j : Interpretation) (tokens : List Lexeme) (one : Script A) (other : Script B)
    → (a : IsShown shows i tokens one) → (b : IsShown others j tokens other) → a.items ≡ b.items
one_script shows others i j tokens one other a b = one_text tokens a.items b.items a.is b.is

-- So the nodes stand for the parts of any tree that the tokens have.
pub record ShowsParts {B : Type 0} (shows : Interpretation → B → Stmts → Type 0) (i : Interpretation) (script : Script B) (items : Stmts) : Type 0 where
  pub top : shows i script.top (fill_stmts (body_at i) items)
  pub bodies : ShowAll (shows i) script.bodies.items (map (fill_stmts (body_at i)) (braced_all items))

pub shows_parts : {B : Type 0} (shows : Interpretation → B → Stmts → Type 0) (i : Interpretation) (tokens : List Lexeme) (script : Script B) (items : Stmts) → IsText tokens items → IsShown shows i tokens script → ShowsParts shows i script items
shows_parts shows i tokens script items text h =
    subst (ShowsParts shows i script) (one_text tokens h.items items h.is text) (record { top = h.top; bodies = h.bodies })
