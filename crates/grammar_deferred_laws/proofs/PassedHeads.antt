-- What the parser of a function that is no arrow answers, from its parameters on, whose braced body is passed over with all
-- bodies in its parameters, by the definitions alone.
use Rattle.std.proofs.Common.{◌≡◌, ℕ, ◌+◌, ◌-◌, List, [], ◌++◌, length, refl, sym, ap, ◌∙◌, subst, arith, Option}
use Rattle.script_grammar.specs.declared.token.FuncForm.{FuncForm}
use Rattle.script_grammar.specs.declared.token.FuncForm.TheVariants as form
use Rattle.script_grammar.specs.Lexeme.{Lexeme}
use Rattle.script_grammar.specs.Tree.{Named, Body, Function, function}
use Rattle.script_grammar.specs.Pieces.{Bodies, passed, Fits, depths}
use Rattle.script_grammar.specs.Print.{print_function}
use Rattle.script_grammar.specs.Proper as plain
use Rattle.script_grammar.specs.Script.{IsOf}
use Rattle.script_grammar.specs.Fault.{depth_limit, Begins, Unexpected, TooDeep, FirstFault}
use Rattle.grammar_parser_specs.specs.Parser.{Read, Bad, Deep, Parser, head_of, end_lexeme}
use Rattle.grammar_parser_specs.specs.Exprs.{function_of}
use Rattle.grammar_parser_laws.proofs.Friendly.{Inside}
use Rattle.grammar_parser_laws.proofs.Complete.{bare}
use Rattle.grammar_complete_laws.proofs.Completes.{Completes, Any, c_pieces}
use Rattle.grammar_sound_laws.proofs.SoundNext.{Plain, next_of, stands}
use Rattle.grammar_sound_laws.proofs.SoundFunctions.{IsFunctionOf, IsPlainForm, function_sound}
use Rattle.grammar_local_laws.proofs.LocalExprs.{function_local}
use Rattle.grammar_complete_laws.proofs.CompleteFunctions.{PlainForm, function_complete}
use Rattle.grammar_script_laws.proofs.Bracketed.{AllInner}
use Rattle.grammar_parser_laws.proofs.NestedTrees.{nested_function}
use Rattle.grammar_script_laws.proofs.FirstFaults.{Whole, Decides, first_bad, first_deep, read_shallow}
use Rattle.grammar_script_laws.proofs.PartLaws.{bad_part, deep_part, nested_inner, of_read, cuts_end, part_is_read, NoneDeep}
use Rattle.grammar_parser_laws.proofs.ProperIn.{ProperFunction}
use Rattle.grammar_parser_specs.specs.Filling.{fill_params, fill_body, fill_function}
use Rattle.grammar_local_laws.proofs.FillLaws.{function_print}
use Rattle.grammar_local_laws.proofs.PassedIn.{passed_mode, has_function}
use Rattle.grammar_local_laws.proofs.PassingLaws.{AreBraced, passed_over_local}
use Rattle.grammar_deferred_laws.proofs.PassedParts.{pass_env, pass_sound, pass_complete}

-- the parameters and the body of a function, whose bodies are looked at so
pub record IsHeaded (m : Bodies) (f : FuncForm) (name : Option Named) (depth : ℕ) (w : List Lexeme) (next : Lexeme) (x : Function) : Type 0 where
  pub of : IsOf f name x
  pub proper : plain.ProperFunction m x
  pub fits : Fits (print_function m depth x) w next

pub record HeadPart (m : Bodies) (f : FuncForm) (name : Option Named) (depth : ℕ) (w : List Lexeme) (deep : List ℕ) : Type 0 where
  pub next : Lexeme
  pub tree : Function
  pub is : IsHeaded m f name depth w next tree
  pub deep_is : deep ≡ depths (print_function m depth tree) w next is.fits

module _ (bodies : ℕ → Body) (braced : AreBraced bodies) (room d : ℕ) (f : FuncForm) (name : Option Named) (form_is : PlainForm f) where
  -- the parser, with so much room for depth
  abbrev pub pass_head : Parser Function
  pass_head = function_of (pass_env bodies braced room) f name

  abbrev IsHere : List Lexeme → Function → Type 0
  IsHere u x = IsFunctionOf passed d (pass_env bodies braced room) (pass_sound bodies braced room d) f name u x

  is_plain : (g : FuncForm) → PlainForm g → IsPlainForm passed d (pass_env bodies braced room) (pass_sound bodies braced room d) g
  is_plain form.Function i = tt
  is_plain form.Method i = tt
  is_plain form.Getter i = tt
  is_plain form.Setter i = tt
  is_plain form.Arrow i = absurd i
  is_plain form.Script i = absurd i

  head_inner : (u : List Lexeme) (x : Function) → IsHere u x → AllInner u
  head_inner u x s = nested_inner (print_function passed d x) (nested_function passed d x s.proper) u end_lexeme (s.fits.before end_lexeme)

  head_part : (u v : List Lexeme) (x : Function) → IsHere (u ++ v) x → Begins (HeadPart passed f name d) u
  head_part u v x s = record {
    end = v;
    deep = depths (print_function passed d x) (u ++ v) end_lexeme (s.fits.before end_lexeme);
    is = record { next = end_lexeme; tree = x; is = record { of = s.of; proper = s.proper; fits = s.fits.before end_lexeme }; deep_is = refl };
  }

  head_complete : (limit : ℕ) → room + d ≡ limit → (x : Function) → IsOf f name x → plain.ProperFunction passed x → Completes limit (print_function passed d x) Any (function_of (pass_env bodies braced room) f name) (fill_function bodies x)
  head_complete limit q (function g start end who ps comma alone body) o h =
      c_pieces limit (function_print bodies braced d (function g start end who ps comma alone body))
      (subst (λ y. ProperFunction (passed_mode bodies) (function y start end who (fill_params bodies ps) comma alone (fill_body bodies start body)) → Completes limit (print_function passed d (function y start end who (fill_params bodies ps) comma alone (fill_body bodies start body))) Any (function_of (pass_env bodies braced room) f name) (function y start end who (fill_params bodies ps) comma alone (fill_body bodies start body))) (sym o.0)
      (λ k. subst (λ y. Completes limit (print_function passed d (function f start end y (fill_params bodies ps) comma alone (fill_body bodies start body))) Any (function_of (pass_env bodies braced room) f name) (function f start end y (fill_params bodies ps) comma alone (fill_body bodies start body))) (sym o.1)
      (function_complete limit (passed_mode bodies) d (omega (arith, q)) (pass_env bodies braced room) (pass_complete bodies braced limit room d q) f name form_is start end (fill_params bodies ps) comma alone (fill_body bodies start body) k))
      (has_function bodies braced (function g start end who ps comma alone body) h))

  pub head_decides : room + d ≡ depth_limit → Decides (HeadPart passed f name d) (function_of (pass_env bodies braced room) f name)
  head_decides q = record {
    local = function_local (pass_env bodies braced room) (passed_over_local bodies braced room).room.env f name;
    bad_begins = bad_part (HeadPart passed f name d) (function_of (pass_env bodies braced room) f name) Inside (Plain IsHere) (next_of (function_sound passed d (pass_env bodies braced room) (pass_sound bodies braced room d) f name (is_plain f form_is))) head_inner head_part;
    deep_begins = deep_part (HeadPart passed f name d) (function_of (pass_env bodies braced room) f name) Inside (Plain IsHere) (next_of (function_sound passed d (pass_env bodies braced room) (pass_sound bodies braced room d) f name (is_plain f form_is))) head_inner head_part;
    reads = λ u deep p. cuts_end (HeadPart passed f name d) (function_of (pass_env bodies braced room) f name) (print_function passed d p.tree) u p.next p.is.fits deep (fill_function bodies p.tree) p.deep_is (λ m s. (head_complete depth_limit q p.tree p.is.of p.is.proper).at m [] s tt);
  }

  pub head_unexpected : room + d ≡ depth_limit → (ts us : List Lexeme) → Whole ts → bare (pass_head ts) ≡ Bad [] us → FirstFault (HeadPart passed f name d) ts (length ts - length us) Unexpected
  head_unexpected q ts us t e = first_bad (HeadPart passed f name d) pass_head (head_decides q) ts us t e

  pub head_too_deep : room + d ≡ depth_limit → (ts us : List Lexeme) → bare (pass_head ts) ≡ Deep [] us → FirstFault (HeadPart passed f name d) ts (length ts - length us) TooDeep
  head_too_deep q ts us e = first_deep (HeadPart passed f name d) pass_head (head_decides q) ts us e

  pub record HeadPassed (ts us : List Lexeme) (x : Function) : Type 0 where
    pub front : List Lexeme
    pub split : ts ≡ front ++ us
    pub is : IsHeaded passed f name d front (head_of us) x
    pub shallow : NoneDeep (depths (print_function passed d x) front (head_of us) is.fits)

  pub passed_is_head : room + d ≡ depth_limit → (ts us : List Lexeme) (x : Function) → bare (pass_head ts) ≡ Read x [] us → HeadPassed ts us x
  passed_is_head q ts us x h =
      let o = of_read Inside (Plain IsHere) ts us x (pass_head ts) h ((next_of (function_sound passed d (pass_env bodies braced room) (pass_sound bodies braced room d) f name (is_plain f form_is))).at ts) in
      let p = o.is (head_of us) (stands refl) in
      let is : IsHeaded passed f name d o.front (head_of us) x = record { of = p.of; proper = p.proper; fits = p.fits.before (head_of us) } in
      record { front = o.front; split = o.split; is = is; shallow = read_shallow (HeadPart passed f name d) pass_head (head_decides q) o.front us x _ (ap (λ y. bare (pass_head y)) (sym o.split) ∙ h) (record { next = head_of us; tree = x; is = is; deep_is = refl }) }

  pub head_is_passed : room + d ≡ depth_limit → (u rest : List Lexeme) (x : Function) (s : IsHeaded passed f name d u (head_of rest) x) → NoneDeep (depths (print_function passed d x) u (head_of rest) s.fits) → bare (pass_head (u ++ rest)) ≡ Read (fill_function bodies x) [] rest
  head_is_passed q u rest x s h = part_is_read pass_head (print_function passed d x) u rest s.fits (fill_function bodies x) h (λ m k. (head_complete depth_limit q x s.of s.proper).at m rest k tt)
