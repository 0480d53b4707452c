-- What the parser of a function alone answers that reads its own statements and passes over the bodies inside, by the
-- definitions alone, where these are looked at as tokens whose brackets match.
use Rattle.std.proofs.Common.{◌≡◌, ℕ, suc, ◌+◌, ◌-◌, List, [], ◌∷◌, ◌++◌, length, refl, sym, ap, ◌∙◌, arith, true, None}
use Rattle.script_grammar.specs.declared.token.FuncForm.{FuncForm}
use Rattle.script_grammar.specs.declared.token.FuncForm.TheVariants as form
use Rattle.script_grammar.specs.declared.token.mark.TheConstants as mark
use Rattle.script_grammar.specs.Lexeme.{Lexeme}
use Rattle.script_grammar.specs.Kinds.{is_end}
use Rattle.script_grammar.specs.Tree.{Body, Function, function}
use Rattle.script_grammar.specs.Tree as tree
use Rattle.script_grammar.specs.Pieces.{passed, depths, until, mark_piece, closing_mark}
use Rattle.script_grammar.specs.Print.{param_depth}
use Rattle.script_grammar.specs.Script.{IsOf, IsFunction, OwnProper, ProperAlone, print_own, print_alone}
use Rattle.script_grammar.specs.Fault.{depth_limit, FunctionPart, Begins, Unexpected, TooDeep, FirstFault}
use Rattle.grammar_parser_specs.specs.Parser.{Read, Bad, Deep, Parser, head_of, end_lexeme}
use Rattle.grammar_parser_specs.specs.Exprs.{Env, BodyParser, passing}
use Rattle.grammar_parser_specs.specs.Stmts.{env_of, everything, reading, read_alone}
use Rattle.grammar_parser_laws.proofs.Friendly.{Inside}
use Rattle.grammar_parser_laws.proofs.Complete.{bare}
use Rattle.grammar_complete_laws.proofs.Completes.{Completes, c_pieces}
use Rattle.grammar_sound_laws.proofs.SoundNext.{SoundNext, stands}
use Rattle.grammar_sound_laws.proofs.SoundEverything.{own_sound}
use Rattle.grammar_local_laws.proofs.LocalExprs.{LocalEnv, NameEnd, deep_end, read_end}
use Rattle.grammar_local_laws.proofs.LocalStmts.{local_reading}
use Rattle.grammar_complete_laws.proofs.CompleteEverything.{own_complete}
use Rattle.grammar_script_laws.proofs.Bracketed.{AllInner}
use Rattle.grammar_parser_laws.proofs.NestedTrees.{nested_alone}
use Rattle.grammar_script_laws.proofs.FirstFaults.{Whole, Decides, first_bad, first_deep, read_shallow}
use Rattle.grammar_script_laws.proofs.PartLaws.{bad_part, deep_part, nested_inner, of_read, cuts_end, part_is_read, NoneDeep}
use Rattle.grammar_deferred_laws.proofs.FunctionAlone.{IsAlone, OwnIn, AloneIn, with_body, alone_sound, alone_local, alone_complete}
use Rattle.grammar_deferred_laws.proofs.AloneLaws.{function_ends}
use Rattle.grammar_local_laws.proofs.FillLaws.{print_fill, stmts_print, params_print}
use Rattle.grammar_local_laws.proofs.PassedIn.{passed_mode, rank_le, brace_fill, keeps_params, keeps_form, keeps_bare, has_expr, has_params, has_stmts}
use Rattle.grammar_script_laws.proofs.AgreesAlone.{fill_own, fill_alone}
use Rattle.grammar_local_laws.proofs.AgreesScripts.{passed_over}
use Rattle.grammar_local_laws.proofs.PassingLaws.{AreBraced, passed_over_sound, passed_over_local}
use Rattle.grammar_deferred_laws.proofs.PassingComplete.{passed_over_complete}
use Rattle.grammar_deferred_laws.proofs.PassedParts.{pass_sound, pass_complete}

function_inner : (d : ℕ) (f : FuncForm) (u : List Lexeme) (x : Function) → IsAlone passed d f u x → AllInner u
function_inner d f u x s = nested_inner (print_alone passed d x) (nested_alone passed d x s.proper) u end_lexeme (s.fits.before end_lexeme)

function_part : (d : ℕ) (f : FuncForm) (u v : List Lexeme) (x : Function) → IsAlone passed d f (u ++ v) x → Begins (FunctionPart passed f None d) u
function_part d f u v x s = record {
  end = v;
  deep = depths (print_alone passed d x) (u ++ v) end_lexeme (s.fits.before end_lexeme);
  is = record { next = end_lexeme; tree = x; is = record { of = s.of; proper = s.proper; fits = s.fits.before end_lexeme }; deep_is = refl };
}

name_end : (v : Env) (w : BodyParser) (t : Lexeme) → NameEnd v t → NameEnd (with_body w v) t
name_end v w t (deep_end a b) = deep_end a b
name_end v w t (read_end a b) = read_end a b

module _ (bodies : ℕ → Body) (braced : AreBraced bodies) where
  -- with the given bodies inside, a function is as it was

  own_fill : (f : FuncForm) (b : Body) → OwnProper passed f b → OwnIn (passed_mode bodies) f (fill_own bodies b)
  own_fill f (tree.BracedBody items) h = has_stmts bodies braced true items h
  own_fill f (tree.ShortBody value) h = (h.0, rank_le bodies braced value h.1, brace_fill bodies braced value ∙ h.2, has_expr bodies braced value h.3)

  alone_fill : (x : Function) → ProperAlone passed x → AloneIn (passed_mode bodies) (fill_alone bodies x)
  alone_fill (function form start end name ps comma bare body) h = (keeps_params bodies braced ps comma h.0, keeps_form bodies braced form ps comma h.1, keeps_bare bodies braced bare form start ps comma h.2, has_params bodies braced ps h.3, own_fill form body h.4)

  of_fill : (f : FuncForm) (x : Function) → IsOf f None x → IsOf f None (fill_alone bodies x)
  of_fill f (function form start end name ps comma bare body) h = h

  own_print : (d end : ℕ) (b : Body) → print_own passed d end (fill_own bodies b) ≡ print_own passed d end b
  own_print d end (tree.BracedBody items) = ap (λ y. mark_piece mark.OPEN_BRACE d ∷ (y ++ closing_mark mark.CLOSE_BRACE end d ∷ [])) (stmts_print bodies braced d items)
  own_print d end (tree.ShortBody value) = ap (until end) (print_fill bodies braced (suc d) value)

  alone_print : (d : ℕ) (x : Function) → print_alone passed d (fill_alone bodies x) ≡ print_alone passed d x
  alone_print d (function form start end name ps comma bare body) = rw ((params_print bodies braced (param_depth form bare d) d ps), (own_print d end body)) refl

  -- the parser, with so much room for depth

  abbrev pub alone_env : ℕ → Env
  alone_env room = env_of (reading (everything (passed_over bodies) room).stmts) (everything (passed_over bodies) room)

  abbrev pub pass_alone : ℕ → FuncForm → Parser Function
  pass_alone room f = read_alone (passed_over bodies) room f

  function_sound : (room d : ℕ) (f : FuncForm) → (f ≡ form.Script → ⊥) → SoundNext Inside (λ w x n. IsAlone passed d f w x) (pass_alone room f)
  function_sound room d f n = alone_sound passed d (alone_env room) (passing bodies room) (pass_sound bodies braced room d) (own_sound passed d (everything (passed_over bodies) room).stmts (passed_over_sound bodies braced room d).stmts) f n

  env_local : (room : ℕ) → LocalEnv (alone_env room)
  env_local room =
      let l = passed_over_local bodies braced room in
      record {
        at = l.room.env.at;
        eats = l.room.env.eats;
        body = local_reading (everything (passed_over bodies) room).stmts l.stmts;
        name = λ t h. name_end (env_of (passing bodies room) (everything (passed_over bodies) room)) (reading (everything (passed_over bodies) room).stmts) t (l.room.env.name t h);
      }

  function_complete : (limit room d : ℕ) → room + d ≡ limit → (f : FuncForm) (n : Lexeme) (u : List Lexeme) (x : Function) → IsFunction passed f None d u n x → Completes limit (print_alone passed d x) (λ t. is_end t.kind ≡ true) (pass_alone room f) (fill_alone bodies x)
  function_complete limit room d q f n u x s =
      c_pieces limit (alone_print d x)
      (alone_complete limit (passed_mode bodies) d (omega (arith, q)) (alone_env room) (passing bodies room) (pass_complete bodies braced limit room d q)
      (λ g start end simple items h. own_complete limit (passed_mode bodies) d (omega (arith, q)) (everything (passed_over bodies) room).stmts (passed_over_complete limit bodies room d q).stmts g start end simple items h)
      f (fill_alone bodies x) (of_fill f x s.of) (alone_fill x s.proper))

  pub function_decides : (room d : ℕ) → room + d ≡ depth_limit → (f : FuncForm) → (f ≡ form.Script → ⊥) → Decides (FunctionPart passed f None d) (pass_alone room f)
  function_decides room d q f n = record {
    local = alone_local (alone_env room) (env_local room) f;
    bad_begins = bad_part (FunctionPart passed f None d) (pass_alone room f) Inside (λ w x k. IsAlone passed d f w x) (function_sound room d f n) (function_inner d f) (function_part d f);
    deep_begins = deep_part (FunctionPart passed f None d) (pass_alone room f) Inside (λ w x k. IsAlone passed d f w x) (function_sound room d f n) (function_inner d f) (function_part d f);
    reads = λ u deep p. cuts_end (FunctionPart passed f None d) (pass_alone room f) (print_alone passed d p.tree) u p.next p.is.fits deep (fill_alone bodies p.tree) p.deep_is (λ m s. (function_complete depth_limit room d q f p.next u p.tree p.is).at m [] s refl);
  }

  pub function_unexpected : (room d : ℕ) → room + d ≡ depth_limit → (f : FuncForm) → (f ≡ form.Script → ⊥) → (ts us : List Lexeme) → Whole ts → bare (pass_alone room f ts) ≡ Bad [] us → FirstFault (FunctionPart passed f None d) ts (length ts - length us) Unexpected
  function_unexpected room d q f n ts us t e = first_bad (FunctionPart passed f None d) (pass_alone room f) (function_decides room d q f n) ts us t e

  pub function_too_deep : (room d : ℕ) → room + d ≡ depth_limit → (f : FuncForm) → (f ≡ form.Script → ⊥) → (ts us : List Lexeme) → bare (pass_alone room f ts) ≡ Deep [] us → FirstFault (FunctionPart passed f None d) ts (length ts - length us) TooDeep
  function_too_deep room d q f n ts us e = first_deep (FunctionPart passed f None d) (pass_alone room f) (function_decides room d q f n) ts us e

  pub record FunctionPassed (f : FuncForm) (d : ℕ) (ts us : List Lexeme) (x : Function) : Type 0 where
    pub front : List Lexeme
    pub split : ts ≡ front ++ us
    pub ends : is_end (head_of us).kind ≡ true
    pub is : IsFunction passed f None d front (head_of us) x
    pub shallow : NoneDeep (depths (print_alone passed d x) front (head_of us) is.fits)

  pub passed_is_function : (room d : ℕ) → room + d ≡ depth_limit → (f : FuncForm) → (f ≡ form.Script → ⊥) → (ts us : List Lexeme) (x : Function) → bare (pass_alone room f ts) ≡ Read x [] us → FunctionPassed f d ts us x
  passed_is_function room d q f n ts us x h =
      let o = of_read Inside (λ w y k. IsAlone passed d f w y) ts us x (pass_alone room f ts) h ((function_sound room d f n).at ts) in
      let p = o.is (head_of us) (stands refl) in
      let is : IsFunction passed f None d o.front (head_of us) x = record { of = p.of; proper = p.proper; fits = p.fits.before (head_of us) } in
      record { front = o.front; split = o.split; ends = function_ends (alone_env room) f ts us x h; is = is; shallow = read_shallow (FunctionPart passed f None d) (pass_alone room f) (function_decides room d q f n) o.front us x _ (ap (λ y. bare (pass_alone room f y)) (sym o.split) ∙ h) (record { next = head_of us; tree = x; is = is; deep_is = refl }) }

  pub function_is_passed : (room d : ℕ) → room + d ≡ depth_limit → (f : FuncForm) (u rest : List Lexeme) (x : Function) (s : IsFunction passed f None d u (head_of rest) x) → NoneDeep (depths (print_alone passed d x) u (head_of rest) s.fits) → is_end (head_of rest).kind ≡ true → bare (pass_alone room f (u ++ rest)) ≡ Read (fill_alone bodies x) [] rest
  function_is_passed room d q f u rest x s h g = part_is_read (pass_alone room f) (print_alone passed d x) u rest s.fits (fill_alone bodies x) h (λ m k. (function_complete depth_limit room d q f (head_of rest) u x s).at m rest k g)
