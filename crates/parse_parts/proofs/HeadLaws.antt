-- What the parser of a function that is no arrow answers, from its parameters on, where bodies are read in place.
use Rattle.std.proofs.Common.{◌≡◌, ℕ, ◌+◌, List, [], ◌++◌, refl, sym, ap, ◌∙◌, subst, arith, Option}
use Rattle.script_grammar.specs.declared.token.FuncForm.{FuncForm}
use Rattle.script_grammar.specs.declared.token.FuncForm.TheVariants as form
use Rattle.script_grammar.specs.Lexeme.{Lexeme}
use Rattle.script_grammar.specs.Tree.{Named, Function, function}
use Rattle.script_grammar.specs.Pieces.{whole, depths}
use Rattle.script_grammar.specs.Print.{print_function}
use Rattle.script_grammar.specs.Proper as plain
use Rattle.script_grammar.specs.Script.{IsOf}
use Rattle.script_grammar.specs.Fault.{depth_limit, Begins}
use Rattle.grammar_parser_specs.specs.Parser.{Read, Parser, head_of, end_lexeme}
use Rattle.grammar_parser_specs.specs.Exprs.{function_of}
use Rattle.grammar_parser_laws.proofs.Friendly.{Inside}
use Rattle.grammar_parser_laws.proofs.Complete.{bare}
use Rattle.grammar_complete_laws.proofs.Completes.{Completes, Any}
use Rattle.grammar_sound_laws.proofs.SoundNext.{Plain, next_of, stands}
use Rattle.grammar_parser_laws.proofs.SoundParts.{SoundEnv}
use Rattle.grammar_sound_laws.proofs.SoundFunctions.{IsFunctionOf, IsPlainForm, function_sound}
use Rattle.grammar_sound_laws.proofs.SoundEverything.{in_place_sound, reading_sound}
use Rattle.grammar_local_laws.proofs.LocalExprs.{function_local}
use Rattle.grammar_local_laws.proofs.LocalEverything.{in_place_local}
use Rattle.grammar_complete_laws.proofs.CompleteParts.{CompleteEnv}
use Rattle.grammar_complete_laws.proofs.CompleteEverything.{in_place_complete, reading_complete}
use Rattle.grammar_complete_laws.proofs.CompleteFunctions.{PlainForm, function_complete}
use Rattle.grammar_script_laws.proofs.Bracketed.{AllInner}
use Rattle.grammar_parser_laws.proofs.NestedTrees.{nested_function}
use Rattle.grammar_script_laws.proofs.FirstFaults.{Decides, read_shallow}
use Rattle.grammar_script_laws.proofs.PartLaws.{bad_part, deep_part, nested_inner, of_read, cuts_end, NoneDeep}
use Rattle.grammar_parser_laws.proofs.ProperIn.{whole_mode, in_function}
use Rattle.grammar_deferred_laws.proofs.AloneLaws.{stmts_with, env_with}
use Rattle.grammar_deferred_laws.proofs.PassedHeads.{IsHeaded, HeadPart}

env_sound : (room d : ℕ) → SoundEnv whole d (env_with room)
env_sound room d = record { calls = (in_place_sound room d).exprs; body = reading_sound d (stmts_with room) (in_place_sound room d).stmts }

env_complete : (limit room d : ℕ) → room + d ≡ limit → CompleteEnv limit whole_mode d (env_with room)
env_complete limit room d e = record { calls = (in_place_complete limit room d e).exprs; body = reading_complete limit d (omega (arith, e)) (stmts_with room) (in_place_complete limit room d e).stmts }

module _ (room d : ℕ) (f : FuncForm) (name : Option Named) (form_is : PlainForm f) where
  -- the parser, with so much room for depth
  abbrev pub read_head : Parser Function
  read_head = function_of (env_with room) f name

  abbrev IsHere : List Lexeme → Function → Type 0
  IsHere u x = IsFunctionOf whole d (env_with room) (env_sound room d) f name u x

  is_plain : (g : FuncForm) → PlainForm g → IsPlainForm whole d (env_with room) (env_sound room d) g
  is_plain form.Function i = tt
  is_plain form.Method i = tt
  is_plain form.Getter i = tt
  is_plain form.Setter i = tt
  is_plain form.Arrow i = absurd i
  is_plain form.Script i = absurd i

  head_inner : (u : List Lexeme) (x : Function) → IsHere u x → AllInner u
  head_inner u x s = nested_inner (print_function whole d x) (nested_function whole d x s.proper) u end_lexeme (s.fits.before end_lexeme)

  head_part : (u v : List Lexeme) (x : Function) → IsHere (u ++ v) x → Begins (HeadPart whole f name d) u
  head_part u v x s = record {
    end = v;
    deep = depths (print_function whole d x) (u ++ v) end_lexeme (s.fits.before end_lexeme);
    is = record { next = end_lexeme; tree = x; is = record { of = s.of; proper = s.proper; fits = s.fits.before end_lexeme }; deep_is = refl };
  }

  head_complete : (limit : ℕ) → room + d ≡ limit → (x : Function) → IsOf f name x → plain.ProperFunction whole x → Completes limit (print_function whole d x) Any (function_of (env_with room) f name) x
  head_complete limit q (function g start end who ps comma alone body) o h =
      subst (λ y. plain.ProperFunction whole (function y start end who ps comma alone body) → Completes limit (print_function whole d (function y start end who ps comma alone body)) Any (function_of (env_with room) f name) (function y start end who ps comma alone body)) (sym o.0)
      (λ k. subst (λ y. Completes limit (print_function whole d (function f start end y ps comma alone body)) Any (function_of (env_with room) f name) (function f start end y ps comma alone body)) (sym o.1)
      (function_complete limit whole_mode d (omega (arith, q)) (env_with room) (env_complete limit room d q) f name form_is start end ps comma alone body (in_function (function f start end who ps comma alone body) k)))
      h

  head_decides : room + d ≡ depth_limit → Decides (HeadPart whole f name d) (function_of (env_with room) f name)
  head_decides q = record {
    local = function_local (env_with room) (in_place_local room).room.env f name;
    bad_begins = bad_part (HeadPart whole f name d) (function_of (env_with room) f name) Inside (Plain IsHere) (next_of (function_sound whole d (env_with room) (env_sound room d) f name (is_plain f form_is))) head_inner head_part;
    deep_begins = deep_part (HeadPart whole f name d) (function_of (env_with room) f name) Inside (Plain IsHere) (next_of (function_sound whole d (env_with room) (env_sound room d) f name (is_plain f form_is))) head_inner head_part;
    reads = λ u deep p. cuts_end (HeadPart whole f name d) (function_of (env_with room) f name) (print_function whole d p.tree) u p.next p.is.fits deep p.tree p.deep_is (λ m s. (head_complete depth_limit q p.tree p.is.of p.is.proper).at m [] s tt);
  }

  pub record HeadRead (ts us : List Lexeme) (x : Function) : Type 0 where
    pub front : List Lexeme
    pub split : ts ≡ front ++ us
    pub is : IsHeaded whole f name d front (head_of us) x
    pub shallow : NoneDeep (depths (print_function whole d x) front (head_of us) is.fits)

  pub read_is_head : room + d ≡ depth_limit → (ts us : List Lexeme) (x : Function) → bare (read_head ts) ≡ Read x [] us → HeadRead ts us x
  read_is_head q ts us x h =
      let o = of_read Inside (Plain IsHere) ts us x (read_head ts) h ((next_of (function_sound whole d (env_with room) (env_sound room d) f name (is_plain f form_is))).at ts) in
      let p = o.is (head_of us) (stands refl) in
      let is : IsHeaded whole f name d o.front (head_of us) x = record { of = p.of; proper = p.proper; fits = p.fits.before (head_of us) } in
      record { front = o.front; split = o.split; is = is; shallow = read_shallow (HeadPart whole f name d) read_head (head_decides q) o.front us x _ (ap (λ y. bare (read_head y)) (sym o.split) ∙ h) (record { next = head_of us; tree = x; is = is; deep_is = refl }) }
