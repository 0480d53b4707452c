-- What the parser of a braced body answers that reads its own statements and passes over the bodies inside, by the definitions
-- alone, where these are looked at as tokens whose brackets match.
use Rattle.std.proofs.Common.{◌≡◌, ℕ, ◌+◌, ◌-◌, List, [], ◌∷◌, ◌++◌, length, refl, sym, ap, ◌∙◌, arith, Bool, true}
use Rattle.script_grammar.specs.declared.token.FuncForm.{FuncForm}
use Rattle.script_grammar.specs.declared.token.mark.TheConstants as mark
use Rattle.script_grammar.specs.Lexeme.{Lexeme}
use Rattle.script_grammar.specs.Tree.{Body, Stmts}
use Rattle.script_grammar.specs.Pieces.{passed, depths, mark_piece, closing_mark}
use Rattle.script_grammar.specs.Script.{IsBody, print_braced}
use Rattle.script_grammar.specs.Fault.{depth_limit, BodyPart, Begins, Unexpected, TooDeep, FirstFault}
use Rattle.grammar_parser_specs.specs.Parser.{Read, Bad, Deep, Parser, head_of, end_lexeme}
use Rattle.grammar_parser_specs.specs.Exprs.{BodyRead}
use Rattle.grammar_parser_specs.specs.Stmts.{StmtCalls, everything, reading}
use Rattle.grammar_parser_laws.proofs.Friendly.{Inside}
use Rattle.grammar_parser_laws.proofs.Complete.{bare}
use Rattle.grammar_complete_laws.proofs.Completes.{Completes, c_pieces}
use Rattle.grammar_sound_laws.proofs.SoundNext.{Plain, next_of, stands}
use Rattle.grammar_sound_laws.proofs.SoundEverything.{IsOwn, own_sound}
use Rattle.grammar_local_laws.proofs.LocalStmts.{local_reading}
use Rattle.grammar_complete_laws.proofs.CompleteEverything.{own_complete}
use Rattle.grammar_script_laws.proofs.Bracketed.{AllInner}
use Rattle.grammar_parser_laws.proofs.NestedTrees.{nested_own}
use Rattle.grammar_script_laws.proofs.FirstFaults.{Whole, Decides, first_bad, first_deep, read_shallow}
use Rattle.grammar_script_laws.proofs.PartLaws.{bad_part, deep_part, nested_inner, of_read, cuts_end, part_is_read, NoneDeep}
use Rattle.grammar_deferred_laws.proofs.AloneLaws.{body_is}
use Rattle.grammar_parser_specs.specs.Filling.{fill_stmts}
use Rattle.grammar_local_laws.proofs.FillLaws.{stmts_print}
use Rattle.grammar_local_laws.proofs.PassedIn.{passed_mode, has_stmts}
use Rattle.grammar_local_laws.proofs.AgreesScripts.{passed_over}
use Rattle.grammar_local_laws.proofs.PassingLaws.{AreBraced, passed_over_sound, passed_over_local}
use Rattle.grammar_deferred_laws.proofs.PassingComplete.{passed_over_complete}

own_inner : (d : ℕ) (u : List Lexeme) (b : BodyRead) → IsOwn passed d u b → AllInner u
own_inner d u b s = nested_inner (print_braced passed d b.end s.items) (nested_own passed d b.end s.items s.proper) u end_lexeme (s.fits.before end_lexeme)

own_part : (d : ℕ) (u v : List Lexeme) (b : BodyRead) → IsOwn passed d (u ++ v) b → Begins (BodyPart passed d) u
own_part d u v b s = record {
  end = v;
  deep = depths (print_braced passed d b.end s.items) (u ++ v) end_lexeme (s.fits.before end_lexeme);
  is = record { next = end_lexeme; end = b.end; items = s.items; is = record { proper = s.proper; fits = s.fits.before end_lexeme }; deep_is = refl };
}

module _ (bodies : ℕ → Body) (braced : AreBraced bodies) where
  abbrev pub stmts_over : ℕ → StmtCalls
  stmts_over room = (everything (passed_over bodies) room).stmts

  -- the parser, with so much room for depth
  abbrev pub pass_braced : ℕ → FuncForm → ℕ → Bool → Parser BodyRead
  pass_braced room f start simple = reading (everything (passed_over bodies) room).stmts f start simple

  braced_complete : (limit room d : ℕ) → room + d ≡ limit → (f : FuncForm) (start : ℕ) (simple : Bool) (end : ℕ) (x : Lexeme) (u : List Lexeme) (items : Stmts) → IsBody passed d end u x items → Completes limit (print_braced passed d end items) (λ t. Unit {0}) (pass_braced room f start simple) (body_is (fill_stmts bodies items) end)
  braced_complete limit room d q f start simple end x u items s = c_pieces limit (ap (λ y. mark_piece mark.OPEN_BRACE d ∷ (y ++ closing_mark mark.CLOSE_BRACE end d ∷ [])) (stmts_print bodies braced d items)) (own_complete limit (passed_mode bodies) d (omega (arith, q)) (stmts_over room) (passed_over_complete limit bodies room d q).stmts f start end simple (fill_stmts bodies items) (has_stmts bodies braced true items s.proper))

  pub body_decides : (room d : ℕ) → room + d ≡ depth_limit → (f : FuncForm) (start : ℕ) (simple : Bool) → Decides (BodyPart passed d) (pass_braced room f start simple)
  body_decides room d q f start simple = record {
    local = local_reading (stmts_over room) (passed_over_local bodies braced room).stmts f start simple;
    bad_begins = bad_part (BodyPart passed d) (pass_braced room f start simple) Inside (Plain (IsOwn passed d)) (next_of (own_sound passed d (stmts_over room) (passed_over_sound bodies braced room d).stmts f start simple)) (own_inner d) (own_part d);
    deep_begins = deep_part (BodyPart passed d) (pass_braced room f start simple) Inside (Plain (IsOwn passed d)) (next_of (own_sound passed d (stmts_over room) (passed_over_sound bodies braced room d).stmts f start simple)) (own_inner d) (own_part d);
    reads = λ u deep p. cuts_end (BodyPart passed d) (pass_braced room f start simple) (print_braced passed d p.end p.items) u p.next p.is.fits deep (body_is (fill_stmts bodies p.items) p.end) p.deep_is (λ m s. (braced_complete depth_limit room d q f start simple p.end p.next u p.items p.is).at m [] s tt);
  }

  pub body_unexpected : (room d : ℕ) → room + d ≡ depth_limit → (f : FuncForm) (start : ℕ) (simple : Bool) (ts us : List Lexeme) → Whole ts → bare (pass_braced room f start simple ts) ≡ Bad [] us → FirstFault (BodyPart passed d) ts (length ts - length us) Unexpected
  body_unexpected room d q f start simple ts us t e = first_bad (BodyPart passed d) (pass_braced room f start simple) (body_decides room d q f start simple) ts us t e

  pub body_too_deep : (room d : ℕ) → room + d ≡ depth_limit → (f : FuncForm) (start : ℕ) (simple : Bool) (ts us : List Lexeme) → bare (pass_braced room f start simple ts) ≡ Deep [] us → FirstFault (BodyPart passed d) ts (length ts - length us) TooDeep
  body_too_deep room d q f start simple ts us e = first_deep (BodyPart passed d) (pass_braced room f start simple) (body_decides room d q f start simple) ts us e

  pub record BodyPassed (d : ℕ) (ts us : List Lexeme) (b : BodyRead) : Type 0 where
    pub front : List Lexeme
    pub split : ts ≡ front ++ us
    pub items : Stmts
    pub body_are : b ≡ body_is items b.end
    pub is : IsBody passed d b.end front (head_of us) items
    pub shallow : NoneDeep (depths (print_braced passed d b.end items) front (head_of us) is.fits)

  pub passed_is_body : (room d : ℕ) → room + d ≡ depth_limit → (f : FuncForm) (start : ℕ) (simple : Bool) (ts us : List Lexeme) (b : BodyRead) → bare (pass_braced room f start simple ts) ≡ Read b [] us → BodyPassed d ts us b
  passed_is_body room d q f start simple ts us b h =
      let o = of_read Inside (Plain (IsOwn passed d)) ts us b (pass_braced room f start simple ts) h ((next_of (own_sound passed d (stmts_over room) (passed_over_sound bodies braced room d).stmts f start simple)).at ts) in
      let p = o.is (head_of us) (stands refl) in
      let is : IsBody passed d b.end o.front (head_of us) p.items = record { proper = p.proper; fits = p.fits.before (head_of us) } in
      record { front = o.front; split = o.split; items = p.items; body_are = ap (λ x. record { body = x; end = b.end }) p.is; is = is; shallow = read_shallow (BodyPart passed d) (pass_braced room f start simple) (body_decides room d q f start simple) o.front us b _ (ap (λ x. bare (pass_braced room f start simple x)) (sym o.split) ∙ h) (record { next = head_of us; end = b.end; items = p.items; is = is; deep_is = refl }) }

  pub body_is_passed : (room d : ℕ) → room + d ≡ depth_limit → (f : FuncForm) (start : ℕ) (simple : Bool) (end : ℕ) (u rest : List Lexeme) (items : Stmts) (s : IsBody passed d end u (head_of rest) items) → NoneDeep (depths (print_braced passed d end items) u (head_of rest) s.fits) → bare (pass_braced room f start simple (u ++ rest)) ≡ Read (body_is (fill_stmts bodies items) end) [] rest
  body_is_passed room d q f start simple end u rest items s h = part_is_read (pass_braced room f start simple) (print_braced passed d end items) u rest s.fits (body_is (fill_stmts bodies items) end) h (λ m k. (braced_complete depth_limit room d q f start simple end (head_of rest) u items s).at m rest k tt)
