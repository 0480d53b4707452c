-- The functions of a script start at tokens of their own, so that each body is found by where its function starts.
use Rattle.std.proofs.Common.{ℕ, ◌≡◌, ap, List, [], ◌∷◌, false}
use Rattle.script_grammar.specs.Lexeme.{Lexeme}
use Rattle.script_grammar.specs.Script.{IsScript}
use Rattle.script_grammar.specs.Tree.{Body, BracedBody, ShortBody, Stmts}
use Rattle.grammar_parser_specs.specs.Filling.{fill_stmts}
use Rattle.script_grammar.specs.Braced.{braced_all}
use Rattle.grammar_start_laws.specs.Started.{Started, started_stmts}
use Rattle.grammar_start_laws.specs.Own.{AllOf, HasOwn, IsFilled, TokensRise, StartsRise, stmts_in, stmts_at}
use Rattle.grammar_start_laws.proofs.Finding.{starts_rise, all_found, found}
use Rattle.grammar_start_laws.proofs.Starting.{keeps_stmts}
use Rattle.grammar_start_laws.proofs.OwnBodies.{same_stmts}
use Rattle.grammar_start_laws.proofs.OwnInside.{own_in_stmts}

-- the functions of a script start in the order of the source, no two at one offset
pub script_starts_rise : (w : List Lexeme) (next : Lexeme) (items : Stmts) (from : ℕ) → IsScript w next items → TokensRise from w → StartsRise from (started_stmts items)
script_starts_rise w next items from s r = starts_rise (started_stmts items) _ w next from (keeps_stmts 0 items false s.proper) s.fits r

-- the bodies of these functions, by where they start
abbrev pub own_bodies : Stmts → ℕ → Body
own_bodies items n = BracedBody (stmts_at (started_stmts items) n)

own_of_found : (all fs : List Started) → AllOf (found all) fs → AllOf (HasOwn (λ n. BracedBody (stmts_at all n))) fs
own_of_found all [] h = tt
own_of_found all (f ∷ fs) h = (by f.start f.body h.0, own_of_found all fs h.1)
  where
    by : (start : ℕ) (body : Body) → stmts_at all start ≡ stmts_in body → HasOwn (λ n. BracedBody (stmts_at all n)) (record { start = start; body = body })
    by start (BracedBody items) e = ap BracedBody e
    by start (ShortBody value) e = tt

pub all_own : (w : List Lexeme) (next : Lexeme) (items : Stmts) (from : ℕ) → IsScript w next items → TokensRise from w → AllOf (HasOwn (own_bodies items)) (started_stmts items)
all_own w next items from s r = own_of_found (started_stmts items) (started_stmts items) (all_found (started_stmts items) from (script_starts_rise w next items from s r))

-- a script's tree whose bodies are its own is the tree
pub script_is_own : (w : List Lexeme) (next : Lexeme) (items : Stmts) (from : ℕ) → IsScript w next items → TokensRise from w → fill_stmts (own_bodies items) items ≡ items
script_is_own w next items from s r = same_stmts (own_bodies items) items (all_own w next items from s r)

-- and so are the bodies of all functions in it
pub bodies_are_own : (w : List Lexeme) (next : Lexeme) (items : Stmts) (from : ℕ) → IsScript w next items → TokensRise from w → AllOf (IsFilled (own_bodies items)) (braced_all items)
bodies_are_own w next items from s r = own_in_stmts (own_bodies items) items [] (all_own w next items from s r) tt
