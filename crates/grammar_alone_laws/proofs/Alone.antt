-- Each function of a script, read alone, is a function of its form with its tree but for its name.
use Rattle.std.proofs.Common.{◌≡◌, ◌∙◌, ℕ, ◌+◌, ◌≤◌, List, [], ◌∷◌, ◌++◌, length, get_or, refl, sym, ap, subst, false, None, arith}
use Rattle.script_grammar.specs.declared.token.Kind.TheVariants as kind
use Rattle.script_grammar.specs.Fault.{depth_limit}
use Rattle.script_grammar.specs.Lexeme.{Lexeme}
use Rattle.script_grammar.specs.Tree.{Function, function, Stmts}
use Rattle.script_grammar.specs.Tree as tree
use Rattle.script_grammar.specs.Pieces.{whole, Fits, depths}
use Rattle.script_grammar.specs.Print.{print_function, print_stmts}
use Rattle.script_grammar.specs.Proper.{ProperFunction, ProperStmts}
use Rattle.script_grammar.specs.Script.{IsScript, IsOf, ProperAlone, print_alone}
use Rattle.grammar_parser_laws.proofs.NestedTrees.{nested_function}
use Rattle.scope_analysis.specs.Functions.{Inner, function_form, inner_function, inner_script}
use Rattle.grammar_alone_laws.specs.Alone.{nameless, at_front, ReadAlone, StandsAlone}
use Rattle.grammar_alone_laws.specs.Functions.{IsFunctionIn, directly, inside}
use Rattle.grammar_alone_laws.specs.Held.{Holds}
use Rattle.grammar_alone_laws.proofs.Carrying.{carries_through}
use Rattle.grammar_alone_laws.proofs.Holding.{held_at}
use Rattle.grammar_alone_laws.proofs.InnerFunctions.{in_function, in_script}
use Rattle.grammar_alone_laws.proofs.Lasting.{function_ends}
use Rattle.grammar_alone_laws.proofs.Loosening.{fits_looser}
use Rattle.grammar_alone_laws.proofs.Refitting.{before_end, begun, in_front, printed_alone}
use Rattle.grammar_alone_laws.proofs.Shallower.{less_function}

-- ---- a function that is held anywhere

is_of : (f : Function) → IsOf (function_form f) None (nameless f)
is_of (function form start end name ps comma bare body) = (refl, refl)

proper_alone : (f : Function) → ProperFunction whole f → ProperAlone whole (nameless f)
proper_alone (function form start end name ps comma bare (tree.BracedBody items)) p = p
proper_alone (function form start end name ps comma bare (tree.ShortBody value)) p = p

-- tokens that fit a function at the least depth are this function alone
read_alone : (f : Function) (w : List Lexeme) (last : Lexeme) (limits : ℕ → ℕ) → ProperFunction whole f → (h : Fits (print_function whole 0 f) w last) → ((j : ℕ) → get_or (depths (print_function whole 0 f) w last h) j 0 ≤ limits j) → ReadAlone f w last limits
read_alone f w last limits p h le =
    let r = printed_alone 0 f w last h in
    record {
      is = record { of = is_of f; proper = proper_alone f p; fits = r.is };
      shallow = λ j. subst (λ ds. get_or ds j 0 ≤ limits j) (sym r.deep) (le j);
    }

-- the same of tokens that fit it at some depth, in front of any token
ends_alone : (d : ℕ) (f : Function) (w : List Lexeme) (n last : Lexeme) (limits : ℕ → ℕ) → last.kind ≡ kind.End → ProperFunction whole f → (h : Fits (print_function whole d f) w n) → ((j : ℕ) → get_or (depths (print_function whole d f) w n h) j 0 ≤ limits j) → ReadAlone f w last limits
ends_alone d f w n last limits e p h le =
    let k = fits_looser (less_function f {e = 0} {d = d} (omega arith)) w n h in
    let r = before_end (print_function whole 0 f) w n last e k.is in
    read_alone f w last limits p r.is (λ j. subst (λ ds. get_or ds j 0 ≤ limits j) (sym r.deep) (let here = k.shallow j in let there = le j in omega (arith, here, there)))

fronted : (d : ℕ) (f : Function) (t : Lexeme) (w : List Lexeme) (n last : Lexeme) (limits : ℕ → ℕ) → last.kind ≡ kind.End → ProperFunction whole f → (h : Fits (print_function whole d f) (t ∷ w) n) → ((j : ℕ) → get_or (depths (print_function whole d f) (t ∷ w) n h) j 0 ≤ limits j) → ReadAlone f (at_front t ∷ w) last limits
fronted d f t w n last limits e p h le =
    let r = in_front d f p t w n h in
    ends_alone d f (at_front t ∷ w) n last limits e p r.is (λ j. subst (λ ds. get_or ds j 0 ≤ limits j) (sym r.deep) (le j))

-- tokens and what is known of them
record Words (d : ℕ) (f : Function) (limits : ℕ → ℕ) (w : List Lexeme) (n : Lexeme) : Type 0 where
  is : Fits (print_function whole d f) w n
  shallow : (j : ℕ) → get_or (depths (print_function whole d f) w n is) j 0 ≤ limits j

stands : (tokens : List Lexeme) (end : Lexeme) (items : Stmts) (script : IsScript tokens end items) (f : Function) → Holds (print_stmts whole 0 items) f → StandsAlone tokens end items script f
stands tokens end items script f held =
    let d = held.depth in
    let p = held.proper in
    let part = held.carries.at tokens end script.fits in
    let limits : ℕ → ℕ = λ j. get_or (depths (print_stmts whole 0 items) tokens end script.fits) (length part.before + j) 0 in
    let b = begun d f p part.words part.next part.is in
    let words = subst (λ w. Words d f limits w part.next) b.are (record { is = part.is; shallow = part.shallow }) in
    record {
      before = part.before;
      first = b.first;
      rest = b.rest;
      next = part.next;
      behind = part.behind;
      split = part.split ∙ ap (λ w. part.before ++ (w ++ part.next ∷ part.behind)) b.are;
      starts = b.starts;
      ends = function_ends d f p (b.first ∷ b.rest) part.next words.is 0;
      alone = λ last e. ends_alone d f (b.first ∷ b.rest) part.next last limits e p words.is words.shallow;
      in_front = λ last e. fronted d f b.first b.rest part.next last limits e p words.is words.shallow;
      balanced = (nested_function whole d f p).at (b.first ∷ b.rest) part.next words.is [];
    }

-- ---- every function of a script

every_held : (items : Stmts) → ProperStmts whole false items → (i : Inner) → IsFunctionIn items i → Holds (print_stmts whole 0 items) i.func
every_held items p i (directly i' a) = held_at i' (inner_script items) (print_stmts whole 0 items) (in_script items p).held a
every_held items p i (inside outer i' o a) =
    let around = every_held items p outer o in
    let here = held_at i' (inner_function outer.kind outer.name outer.func) (print_function whole around.depth outer.func) (in_function around.depth outer.kind outer.name outer.func around.proper).held a in
    record { depth = here.depth; proper = here.proper; carries = carries_through around.carries here.carries }

pub stands_alone : (tokens : List Lexeme) (end : Lexeme) (items : Stmts) (script : IsScript tokens end items) (i : Inner) → IsFunctionIn items i → StandsAlone tokens end items script i.func
stands_alone tokens end items script i f = stands tokens end items script i.func (every_held items script.proper i f)

-- ---- none of its tokens is too deep

too_deep_nowhere : {f : Function} {words : List Lexeme} {last : Lexeme} {limits : ℕ → ℕ} (limit : ℕ) (r : ReadAlone f words last limits) → ((j : ℕ) → limits j ≤ limit) → (j : ℕ) → get_or (depths (print_alone whole 0 (nameless f)) words last r.is.fits) j 0 ≤ limit
too_deep_nowhere limit r h j = let here = r.shallow j in let there = h j in omega (arith, here, there)

-- where none is in the script
pub alone_shallow : (tokens : List Lexeme) (end : Lexeme) (items : Stmts) (script : IsScript tokens end items) (f : Function) (s : StandsAlone tokens end items script f)
    → ((j : ℕ) → get_or (depths (print_stmts whole 0 items) tokens end script.fits) j 0 ≤ depth_limit)
    → (last : Lexeme) (e : last.kind ≡ kind.End) (j : ℕ) → get_or (depths (print_alone whole 0 (nameless f)) (at_front s.first ∷ s.rest) last (s.in_front last e).is.fits) j 0 ≤ depth_limit
alone_shallow tokens end items script f s h last e = too_deep_nowhere depth_limit (s.in_front last e) (λ j. h (length s.before + j))
