-- Passing over a braced body: what is read is a brace, lexemes whose brackets match, and a brace; faults can be mended; and
-- nothing after is looked at. So all calls of the parser that passes bodies over are sound and local.
use Rattle.std.proofs.Common.{◌≡◌, ℕ, suc, ◌≤◌, List, [], ◌∷◌, ◌++◌, length, refl, sym, ap, ◌∙◌, subst, arith, append_assoc, Bool, true, false, nat_eq, Option, Some, None, if◌then◌else◌, ◌⊎◌, inl, inr}
use Rattle.std.proofs.lemmas.Bool.{eqb-true}
use Rattle.script_grammar.specs.declared.token.Kind.{Kind}
use Rattle.script_grammar.specs.declared.token.Kind.TheVariants as kind
use Rattle.script_grammar.specs.declared.token.FuncForm.{FuncForm}
use Rattle.script_grammar.specs.declared.token.mark.TheConstants as mark
use Rattle.script_grammar.specs.Lexeme.{Lexeme}
use Rattle.script_grammar.specs.Kinds.{is_mark}
use Rattle.script_grammar.specs.Tree.{Body, Stmts}
use Rattle.script_grammar.specs.Tree as tree
use Rattle.script_grammar.specs.Pieces.{Opener, paren, bracket, brace, template, closes, closed, reopened, open_behind, open_at_end, passed, Pass, mark_piece, closing_mark}
use Rattle.grammar_parser_specs.specs.Parser.{Recorded, Reply, Read, Bad, Deep, put_before, after, ret}
use Rattle.grammar_parser_specs.specs.Exprs.{BodyRead, pass_case, pass_over, passed_body, passing}
use Rattle.grammar_parser_specs.specs.Stmts.{everything}
use Rattle.grammar_parser_laws.proofs.Friendly.{Inside}
use Rattle.grammar_parser_laws.proofs.Tests.{bool_cases, mark_known}
use Rattle.grammar_parser_laws.proofs.Fitting.{FitsAll, is_slot, fits_closing, lexeme_of_kind}
use Rattle.grammar_parser_laws.proofs.Nested.{open_step, open_append}
use Rattle.grammar_parser_laws.proofs.Sound.{Outcome, Sound, outcome_noted}
use Rattle.grammar_parser_laws.proofs.SoundParts.{IsBraced, SoundBody}
use Rattle.grammar_sound_laws.proofs.SoundEverything.{SoundAll, everything_sound}
use Rattle.grammar_parser_laws.proofs.Local.{Local, Same, out, kept, left, local_ret, local_bad, local_bind, local_peek, local_when, local_step, local_note}
use Rattle.grammar_local_laws.proofs.LocalEverything.{LocalAll, everything_local}
use Rattle.grammar_local_laws.proofs.Passing.{record_at, passed_reply, passing_here, passing_no}
use Rattle.grammar_local_laws.proofs.AgreesScripts.{passed_over}

-- What a token does to what is open above a brace: it does not fit, it closes the brace, or the brace stays open.
data Base (k : Kind) (ps : List Opener) (o p : Option (List Opener)) : Type 0 where
  fails : p ≡ None → Base k ps o p
  ends : ps ≡ [] → k ≡ kind.Mark mark.CLOSE_BRACE → p ≡ Some [] → Base k ps o p
  stays : (x : List Opener) → o ≡ Some x → p ≡ Some (x ++ brace ∷ []) → Base k ps o p

over : (b : Bool) (k : Kind) (q : Opener) (ps : List Opener) → Base k (q ∷ ps) (if b then Some ps else None) (if b then Some (ps ++ brace ∷ []) else None)
over true k q ps = stays ps refl refl
over false k q ps = fails refl

base_other : (o : Opener) → closes o brace ≡ false → (k : Kind) (ps : List Opener) → Base k ps (closed o ps) (closed o (ps ++ brace ∷ []))
base_other o e k [] = fails (ap (λ b. if b then Some [] else None) e)
base_other o e k (q ∷ ps) = over (closes o q) k q ps

base_brace : (k : Kind) → k ≡ kind.Mark mark.CLOSE_BRACE → (ps : List Opener) → Base k ps (closed brace ps) (closed brace (ps ++ brace ∷ []))
base_brace k e [] = ends refl e refl
base_brace k e (q ∷ ps) = over (closes brace q) k q ps

base_middle : (k : Kind) (ps : List Opener) → Base k ps (reopened ps (closed template ps)) (reopened (ps ++ brace ∷ []) (closed template (ps ++ brace ∷ [])))
base_middle k [] = fails refl
base_middle k (q ∷ ps) = by (closes template q)
  where
    by : (b : Bool) → Base k (q ∷ ps) (reopened (q ∷ ps) (if b then Some ps else None)) (reopened (q ∷ (ps ++ brace ∷ [])) (if b then Some (ps ++ brace ∷ []) else None))
    by true = stays (q ∷ ps) refl refl
    by false = fails refl

base_mark : (k : Kind) (ps : List Opener) (a b c d e f : Bool) → (f ≡ true → k ≡ kind.Mark mark.CLOSE_BRACE) → Base k ps (if a then Some (paren ∷ ps) else if b then closed paren ps else if c then Some (bracket ∷ ps) else if d then closed bracket ps else if e then Some (brace ∷ ps) else if f then closed brace ps else Some ps) (if a then Some (paren ∷ (ps ++ brace ∷ [])) else if b then closed paren (ps ++ brace ∷ []) else if c then Some (bracket ∷ (ps ++ brace ∷ [])) else if d then closed bracket (ps ++ brace ∷ []) else if e then Some (brace ∷ (ps ++ brace ∷ [])) else if f then closed brace (ps ++ brace ∷ []) else Some (ps ++ brace ∷ []))
base_mark k ps true b c d e f h = stays (paren ∷ ps) refl refl
base_mark k ps false true c d e f h = base_other paren refl k ps
base_mark k ps false false true d e f h = stays (bracket ∷ ps) refl refl
base_mark k ps false false false true e f h = base_other bracket refl k ps
base_mark k ps false false false false true f h = stays (brace ∷ ps) refl refl
base_mark k ps false false false false false true h = base_brace k (h refl) ps
base_mark k ps false false false false false false h = stays ps refl refl

base : (k : Kind) (ps : List Opener) → Base k ps (open_behind k ps) (open_behind k (ps ++ brace ∷ []))
base (kind.Mark i) ps = base_mark (kind.Mark i) ps (nat_eq i mark.OPEN_PAREN) (nat_eq i mark.CLOSE_PAREN) (nat_eq i mark.OPEN_BRACKET) (nat_eq i mark.CLOSE_BRACKET) (nat_eq i mark.OPEN_BRACE) (nat_eq i mark.CLOSE_BRACE) (λ e. ap kind.Mark (eqb-true i mark.CLOSE_BRACE e))
base kind.TemplateHead ps = stays (template ∷ ps) refl refl
base kind.TemplateMiddle ps = base_middle kind.TemplateMiddle ps
base kind.TemplateTail ps = base_other template refl kind.TemplateTail ps
base kind.Bad ps = fails refl
base kind.End ps = fails refl
base kind.Name ps = stays ps refl refl
base kind.Number ps = stays ps refl refl
base kind.Str ps = stays ps refl refl
base kind.TemplateWhole ps = stays ps refl refl
base (kind.Word i) ps = stays ps refl refl

-- what is passed over, and what was before a fault

record Over (ps : List Opener) (ts : List Lexeme) (end : ℕ) (us : List Lexeme) : Type 0 where
  inner : List Lexeme
  close : Lexeme
  split : ts ≡ inner ++ close ∷ us
  balanced : open_at_end ps inner ≡ Some []
  closing : close.kind ≡ kind.Mark mark.CLOSE_BRACE
  ends_at : end ≡ close.end

record Stuck (ps : List Opener) (ts us : List Lexeme) : Type 0 where
  inner : List Lexeme
  split : ts ≡ inner ++ us
  open_now : List Opener
  opens : open_at_end ps inner ≡ Some open_now

abbrev OverAs : List Opener → List Lexeme → Reply ℕ → Type 0
OverAs ps ts (Read end rs us) = Over ps ts end us
OverAs ps ts (Bad rs us) = Stuck ps ts us
OverAs ps ts (Deep rs us) = ⊥

behind_one : (t : Lexeme) (ts : List Lexeme) (ps x : List Opener) → open_behind t.kind ps ≡ Some x → (r : Reply ℕ) → OverAs x ts r → OverAs ps (t ∷ ts) r
behind_one t ts ps x e (Read end rs us) o = record { inner = t ∷ o.inner; close = o.close; split = ap (λ z. t ∷ z) o.split; balanced = open_step ps x t o.inner e ∙ o.balanced; closing = o.closing; ends_at = o.ends_at }
behind_one t ts ps x e (Bad rs us) o = record { inner = t ∷ o.inner; split = ap (λ z. t ∷ z) o.split; open_now = o.open_now; opens = open_step ps x t o.inner e ∙ o.opens }
behind_one t ts ps x e (Deep rs us) o = absurd o

goes : (x : List Opener) (t : Lexeme) (ts : List Lexeme) → pass_case (Some (x ++ brace ∷ [])) t ts (λ os. pass_over os ts) ≡ pass_over (x ++ brace ∷ []) ts
goes [] t ts = refl
goes (y ∷ x) t ts = refl

over_at : (t : Lexeme) (ts : List Lexeme) (ps : List Opener) (o p : Option (List Opener)) → open_behind t.kind ps ≡ o → Base t.kind ps o p → ((x : List Opener) → OverAs x ts (pass_over (x ++ brace ∷ []) ts)) → OverAs ps (t ∷ ts) (pass_case p t ts (λ os. pass_over os ts))
over_at t ts ps o p e (fails h) i = subst (λ z. OverAs ps (t ∷ ts) (pass_case z t ts (λ os. pass_over os ts))) (sym h) (record { inner = []; split = refl; open_now = ps; opens = refl })
over_at t ts ps o p e (ends q k h) i = subst (λ z. OverAs ps (t ∷ ts) (pass_case z t ts (λ os. pass_over os ts))) (sym h) (record { inner = []; close = t; split = refl; balanced = ap Some q; closing = k; ends_at = refl })
over_at t ts ps o p e (stays x g h) i = subst (λ z. OverAs ps (t ∷ ts) (pass_case z t ts (λ os. pass_over os ts))) (sym h) (subst (OverAs ps (t ∷ ts)) (sym (goes x t ts)) (behind_one t ts ps x (e ∙ g) (pass_over (x ++ brace ∷ []) ts) (i x)))

over_as : (ts : List Lexeme) (ps : List Opener) → OverAs ps ts (pass_over (ps ++ brace ∷ []) ts)
over_as [] ps = record { inner = []; split = refl; open_now = ps; opens = refl }
over_as (t ∷ ts) ps = over_at t ts ps (open_behind t.kind ps) (open_behind t.kind (ps ++ brace ∷ [])) refl (base t.kind ps) (λ x. over_as ts x)

-- lexemes that close all these

closer : Opener → Lexeme
closer paren = lexeme_of_kind (kind.Mark mark.CLOSE_PAREN)
closer bracket = lexeme_of_kind (kind.Mark mark.CLOSE_BRACKET)
closer brace = lexeme_of_kind (kind.Mark mark.CLOSE_BRACE)
closer template = lexeme_of_kind kind.TemplateTail

closers : List Opener → List Lexeme
closers [] = []
closers (p ∷ ps) = closer p ∷ closers ps

all_closed : (ps : List Opener) → open_at_end ps (closers ps) ≡ Some []
unfolding closers closer
all_closed [] = refl
all_closed (paren ∷ ps) = all_closed ps
all_closed (bracket ∷ ps) = all_closed ps
all_closed (brace ∷ ps) = all_closed ps
all_closed (template ∷ ps) = all_closed ps

-- soundness

passed_fits : (d : ℕ) (t : Lexeme) (u : List Lexeme) (c : Lexeme) → t.kind ≡ kind.Mark mark.OPEN_BRACE → open_at_end [] u ≡ Some [] → c.kind ≡ kind.Mark mark.CLOSE_BRACE → FitsAll (mark_piece mark.OPEN_BRACE d ∷ Pass ∷ closing_mark mark.CLOSE_BRACE c.end d ∷ []) (t ∷ (u ++ c ∷ []))
passed_fits d t u c h b k = record { before = λ n. (is_slot (kind.Mark mark.OPEN_BRACE) d t h, (u, c ∷ [], refl, b, fits_closing mark.CLOSE_BRACE d c n k)) }

-- the bodies that are given are braced
pub record AreBraced (bodies : ℕ → Body) : Type 0 where
  pub items : ℕ → Stmts
  pub are : (n : ℕ) → bodies n ≡ tree.BracedBody (items n)

module _ (bodies : ℕ → Body) (braced : AreBraced bodies) (d room : ℕ) (f : FuncForm) (start : ℕ) (simple : Bool) where
  abbrev IsPassed : List Lexeme → BodyRead → Type 0
  IsPassed u b = IsBraced passed d f u b

  passed_is : (t : Lexeme) (u : List Lexeme) (c : Lexeme) → t.kind ≡ kind.Mark mark.OPEN_BRACE → open_at_end [] u ≡ Some [] → c.kind ≡ kind.Mark mark.CLOSE_BRACE → IsPassed (t ∷ (u ++ c ∷ [])) (passed_body (bodies start) c.end)
  passed_is t u c h b k = record { items = braced.items start; is = braced.are start; proper = tt; fits = passed_fits d t u c h b k }

  abbrev open_brace : Lexeme
  open_brace = lexeme_of_kind (kind.Mark mark.OPEN_BRACE)

  abbrev close_brace : Lexeme
  close_brace = lexeme_of_kind (kind.Mark mark.CLOSE_BRACE)

  none_read : (ts : List Lexeme) → Outcome Inside IsPassed IsPassed ts (Bad [] ts)
  none_read ts = record { front = []; split = refl; end = open_brace ∷ close_brace ∷ []; of = passed_body (bodies start) 0; starts = tt; is = passed_is (lexeme_of_kind (kind.Mark mark.OPEN_BRACE)) [] (lexeme_of_kind (kind.Mark mark.CLOSE_BRACE)) refl refl refl }

  outcome_put : (ts : List Lexeme) (rs : List Recorded) (r : Reply BodyRead) → Outcome Inside IsPassed IsPassed ts r → Outcome Inside IsPassed IsPassed ts (put_before rs r)
  outcome_put ts rs (Read a qs us) o = o
  outcome_put ts rs (Bad qs us) o = o
  outcome_put ts rs (Deep qs us) o = o

  passed_at : (t : Lexeme) (ts : List Lexeme) → t.kind ≡ kind.Mark mark.OPEN_BRACE → (r : Reply ℕ) → OverAs [] ts r → Outcome Inside IsPassed IsPassed (t ∷ ts) (after r (λ end. ret (passed_body (bodies start) end)))
  passed_at t ts h (Read end rs us) o = outcome_noted Inside IsPassed IsPassed (t ∷ ts) rs (Read (passed_body (bodies start) end) [] us) (record {
    front = t ∷ (o.inner ++ o.close ∷ []);
    split = ap (λ z. t ∷ z) (o.split ∙ sym (append_assoc o.inner (o.close ∷ []) us));
    some = tt;
    is = subst (λ e. IsPassed (t ∷ (o.inner ++ o.close ∷ [])) (passed_body (bodies start) e)) (sym o.ends_at) (passed_is t o.inner o.close h o.balanced o.closing);
  })
  passed_at t ts h (Bad rs us) o = record {
    front = t ∷ o.inner;
    split = ap (λ z. t ∷ z) o.split;
    end = closers o.open_now ++ close_brace ∷ [];
    of = passed_body (bodies start) 0;
    starts = tt;
    is = subst (λ z. IsPassed (t ∷ z) (passed_body (bodies start) 0)) (append_assoc o.inner (closers o.open_now) (close_brace ∷ [])) (passed_is t (o.inner ++ closers o.open_now) (lexeme_of_kind (kind.Mark mark.CLOSE_BRACE)) h (open_append o.inner [] o.open_now (closers o.open_now) o.opens ∙ all_closed o.open_now) refl);
  }
  passed_at t ts h (Deep rs us) o = absurd o

  passing_at : (ts : List Lexeme) → Outcome Inside IsPassed IsPassed ts (passing bodies room f start simple ts)
  passing_at [] = subst (Outcome Inside IsPassed IsPassed []) (sym (passing_no bodies room f start simple [] refl)) (none_read [])
  passing_at (t ∷ ts) = by (bool_cases (is_mark mark.OPEN_BRACE t.kind))
    where
      by : (is_mark mark.OPEN_BRACE t.kind ≡ true) ⊎ (is_mark mark.OPEN_BRACE t.kind ≡ false) → Outcome Inside IsPassed IsPassed (t ∷ ts) (passing bodies room f start simple (t ∷ ts))
      by (inl h) = subst (Outcome Inside IsPassed IsPassed (t ∷ ts)) (sym (passing_here bodies room f start simple t ts h)) (outcome_put (t ∷ ts) (record_at bodies room f start simple (t ∷ ts) ∷ []) (passed_reply bodies room f start simple ts) (passed_at t ts (mark_known mark.OPEN_BRACE t.kind h) (pass_over (brace ∷ []) ts) (over_as ts [])))
      by (inr h) = subst (Outcome Inside IsPassed IsPassed (t ∷ ts)) (sym (passing_no bodies room f start simple (t ∷ ts) h)) (none_read (t ∷ ts))

  pub passing_braced : Sound Inside IsPassed (passing bodies room f start simple)
  passing_braced = record { at = passing_at }

pub passing_sound : (bodies : ℕ → Body) → AreBraced bodies → (d room : ℕ) → SoundBody passed d (passing bodies room)
passing_sound bodies braced d room = record { braced = λ f start simple. passing_braced bodies braced d room f start simple }

-- locality

pass_shorter : (ts : List Lexeme) (ps : List Opener) → length (left (pass_over ps ts)) ≤ length ts
pass_shorter [] ps = omega arith
pass_shorter (t ∷ ts) ps = by (open_behind t.kind ps) (pass_shorter ts)
  where
    by : (o : Option (List Opener)) → ((qs : List Opener) → length (left (pass_over qs ts)) ≤ length ts) → length (left (pass_case o t ts (λ os. pass_over os ts))) ≤ suc (length ts)
    by None i = omega arith
    by (Some []) i = omega arith
    by (Some (q ∷ qs)) i = omega (arith, i (q ∷ qs))

pass_same : (ts q : List Lexeme) (ps : List Opener) → Same q (pass_over ps ts) (pass_over ps (ts ++ q))
pass_same [] q ps = out refl (pass_shorter q ps)
pass_same (t ∷ ts) q ps = by (open_behind t.kind ps) (λ qs. pass_same ts q qs)
  where
    by : (o : Option (List Opener)) → ((qs : List Opener) → Same q (pass_over qs ts) (pass_over qs (ts ++ q))) → Same q (pass_case o t ts (λ os. pass_over os ts)) (pass_case o t (ts ++ q) (λ os. pass_over os (ts ++ q)))
    by None i = kept refl
    by (Some []) i = kept refl
    by (Some (r ∷ rs)) i = i (r ∷ rs)

pub pass_local : (ps : List Opener) → Local (pass_over ps)
pass_local ps = record { shorter = λ ts. pass_shorter ts ps; same = λ ts q. pass_same ts q ps }

pub passing_local : (bodies : ℕ → Body) (room : ℕ) (f : FuncForm) (start : ℕ) (simple : Bool) → Local (passing bodies room f start simple)
unfolding passing
passing_local bodies room f start simple = local_peek (λ t. local_when (is_mark mark.OPEN_BRACE t.kind) (local_bind (local_note f room simple) (λ _. local_step (local_bind (pass_local (brace ∷ [])) (λ end. local_ret (passed_body (bodies start) end))))) local_bad)

-- all calls

pub passed_over_sound : (bodies : ℕ → Body) → AreBraced bodies → (room d : ℕ) → SoundAll passed d (everything (passed_over bodies) room)
passed_over_sound bodies braced room d = everything_sound passed (passed_over bodies) (λ r e stmt s. passing_sound bodies braced e r) room d

pub passed_over_local : (bodies : ℕ → Body) → AreBraced bodies → (room : ℕ) → LocalAll (passing bodies room) (everything (passed_over bodies) room)
passed_over_local bodies braced room = everything_local passed (passed_over bodies) (λ r e stmt s. passing_sound bodies braced e r) (λ r stmt l f start simple. passing_local bodies r f start simple) room
