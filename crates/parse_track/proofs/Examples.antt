-- Short scripts, what they tell, and what follows: computed from the definitions.
use Rattle.std.proofs.Common.{◌≡◌, ℕ, Option, Some, None, [], ◌∷◌, refl, nat_eq}
use Rattle.parse_track.specs.declared.region.Declare.{Declare}
use Rattle.parse_track.specs.declared.region.Declare.TheVariants as how
use Rattle.parse_track.specs.declared.region.Jump.TheVariants as word
use Rattle.parse_track.specs.declared.region.Early.{Early}
use Rattle.parse_track.specs.Told.{Name, Script, Function, Arrow, Lambda, Block, ForHead, Catch, Loop, Label, Declared, Used, Jumped, Told, nothing, leaf, inner, KnownNames}
use Rattle.parse_track.specs.EarlyErrors.{first_error}
use Rattle.parse_track.specs.ClosedNames.{Bound, closed}

known : KnownNames ℕ
known = record { eval = 1000; arguments = 1001; this = 1002 }

name : ℕ → ℕ → Name ℕ
name x at = record { name = x; at = at }

declared : Declare → ℕ → ℕ → Told ℕ → Told ℕ
declared d x at t = leaf (Declared d (name x at)) t

used : ℕ → Told ℕ → Told ℕ
used x t = leaf (Used x) t

error : Told ℕ → Option Early
error t = first_error nat_eq known None t

at_rule : ℕ → ℕ → Option Early
at_rule offset rule = Some (record { offset = offset; rule = rule })

-- function f(){ let x; { var x } }
var_in_block : error (inner Script 0 (declared how.Var 1 9 (inner Function 10 (declared how.Lexical 2 18 (inner Block 21 (declared how.Var 2 27 nothing) nothing)) nothing)) nothing) ≡ at_rule 27 2
unfolding error declared name known at_rule
var_in_block = refl

-- try{}catch(e){let e} and try{}catch(e){var e = 1}
catch_and_let : error (inner Script 0 (inner Block 3 nothing (inner Catch 5 (declared how.Catch 1 11 (inner Block 13 (declared how.Lexical 1 18 nothing) nothing)) nothing)) nothing) ≡ at_rule 18 4
unfolding error declared name known at_rule
catch_and_let = refl

catch_and_var : error (inner Script 0 (inner Block 3 nothing (inner Catch 5 (declared how.Catch 1 11 (inner Block 13 (declared how.Var 1 18 nothing) nothing)) nothing)) nothing) ≡ None
unfolding error declared name known
catch_and_var = refl

-- let a; let a
twice : error (inner Script 0 (declared how.Lexical 1 4 (declared how.Lexical 1 11 nothing)) nothing) ≡ at_rule 11 1
unfolding error declared name known at_rule
twice = refl

-- for (let i;;) { var i }
head : error (inner Script 0 (inner Loop 0 (inner ForHead 0 (declared how.Lexical 1 9 (inner Block 14 (declared how.Var 1 20 nothing) nothing)) nothing) nothing) nothing) ≡ at_rule 20 3
unfolding error declared name known at_rule
head = refl

-- a: { continue a }, a: { for(;;) continue a }, and a: for(;;) continue a
continue_block : error (inner Script 0 (inner (Label (name 1 0)) 0 (inner Block 3 (leaf (Jumped word.Continue 5 (Some (name 1 14))) nothing) nothing) nothing) nothing) ≡ at_rule 5 11
unfolding error name known at_rule
continue_block = refl

continue_inside : error (inner Script 0 (inner (Label (name 1 0)) 0 (inner Block 3 (inner Loop 5 (inner ForHead 5 (leaf (Jumped word.Continue 13 (Some (name 1 22))) nothing) nothing) nothing) nothing) nothing) nothing) ≡ at_rule 22 11
unfolding error name known at_rule
continue_inside = refl

continue_loop : error (inner Script 0 (inner (Label (name 1 0)) 0 (inner Loop 3 (inner ForHead 3 (leaf (Jumped word.Continue 11 (Some (name 1 20))) nothing) nothing) nothing) nothing) nothing) ≡ None
unfolding error name known
continue_loop = refl

bound : Option ℕ → ℕ → ℕ → Bound ℕ
bound func scope x = record { func = func; scope = scope; name = x }

-- function f(x){ return () => () => x }
through_arrows : closed nat_eq known (inner Script 0 (declared how.Var 1 9 (inner Function 10 (declared how.Param 2 11 (inner Arrow 22 (inner Arrow 28 (used 2 nothing) nothing) nothing)) nothing)) nothing) ≡ bound (Some 10) 0 2 ∷ []
unfolding declared name known used bound
through_arrows = refl

-- (function g(){ return () => this + arguments.length + g })
named_function : closed nat_eq known (inner Script 0 (inner (Lambda (name 1 10)) 10 (inner Function 11 (inner Arrow 22 (used 1002 (used 1001 (used 1 nothing))) nothing) nothing) nothing) nothing)
    ≡ bound (Some 11) 0 1 ∷ bound (Some 11) 1 1001 ∷ bound (Some 11) 1 1002 ∷ []
unfolding name known used bound
named_function = refl
