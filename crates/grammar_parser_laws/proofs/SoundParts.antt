-- What the calls that count for the depth read, and the parts that all others are made of.
use Rattle.std.proofs.Common.{◌≡◌, ℕ, suc, ◌≤◌, List, [], ◌∷◌, ◌++◌, refl, subst, arith, Bool, true, false, ◌&&◌, ◌||◌, Option, Some, None}
use Rattle.script_grammar.specs.declared.token.Kind.TheVariants as kind
use Rattle.script_grammar.specs.declared.token.FuncForm.{FuncForm}
use Rattle.script_grammar.specs.declared.token.mark.TheConstants as mark
use Rattle.script_grammar.specs.Lexeme.{Lexeme}
use Rattle.script_grammar.specs.Kinds.{is_mark, is_name}
use Rattle.script_grammar.specs.Tree.{Named, Expr, Body, Stmts}
use Rattle.script_grammar.specs.Tree as tree
use Rattle.script_grammar.specs.TreeLists.{Param, maybe_expr_of}
use Rattle.script_grammar.specs.Pieces.{Bodies, Piece, mark_piece, name_piece}
use Rattle.script_grammar.specs.Print.{print, print_body, print_initializer, ellipsis}
use Rattle.script_grammar.specs.Proper.{rank, Proper, ProperMaybe, ProperBody, free_of_in, InIf}
use Rattle.grammar_parser_specs.specs.Parser.{Parser, bind}
use Rattle.grammar_parser_specs.specs.Exprs.{AnAssign, APrefix, ANew, AParam, ARest, Calls, BodyRead, BodyParser, Env, expect, name_of, named, is_param_form}
use Rattle.grammar_parser_laws.proofs.Friendly.{Spot, AtFront, Inside}
use Rattle.grammar_parser_laws.proofs.Fitting.{FitsAll, all_mark, all_name, fits_number, lexeme_of_kind, zero_lexeme, zero_starts}
use Rattle.grammar_parser_laws.proofs.Tests.{mark_known, name_known, and_both, or_right}
use Rattle.grammar_parser_laws.proofs.Sound.{Leads, Outcome, Sound, Mended, Behind, leads_bind, sound_ret, sound_bad, sound_at, sound_peek, at_step, at_when, some_done, sound_some, leads_map}

-- A proper expression that binds no looser than r, without `in` where it is left out, whose places the lexemes fit.
pub record IsExpr (m : Bodies) (w : Bool) (d r : ℕ) (u : List Lexeme) (e : Expr) : Type 0 where
  pub rank_le : rank e ≤ r
  pub proper : Proper m e
  pub in_if : InIf w (free_of_in e)
  pub fits : FitsAll (print m d e) u

-- one parameter, as it is printed after what stands before it
abbrev pub print_param : Bodies → ℕ → Param → List Piece
print_param m d p = ellipsis p.rest d ++ (name_piece p.name d ∷ print_initializer m d (maybe_expr_of p.value))

pub record IsParam (m : Bodies) (d : ℕ) (u : List Lexeme) (p : Param) : Type 0 where
  pub single : p.rest ≡ false
  pub proper : ProperMaybe m (maybe_expr_of p.value)
  pub fits : FitsAll (print_param m d p) u

-- An item of a parenthesized expression that has the form of a parameter: it stands for one, and the other way round.

abbrev pub param_value : Named → Option Expr → Expr
param_value n None = tree.Name n
param_value n (Some e) = tree.Assign mark.ASSIGN (tree.Name n) e

abbrev pub param_expr : Param → Expr
param_expr p = param_value p.name p.value

pub record IsItem (m : Bodies) (d : ℕ) (u : List Lexeme) (e : Expr) : Type 0 where
  pub param : Param
  pub is : e ≡ param_expr param
  pub of : IsParam m d u param

-- `...` and a name
abbrev pub IsRest : ℕ → List Lexeme → Named → Type 0
IsRest d u n = FitsAll (mark_piece mark.ELLIPSIS d ∷ name_piece n d ∷ []) u

-- a braced body
pub record IsBraced (m : Bodies) (d : ℕ) (form : FuncForm) (u : List Lexeme) (b : BodyRead) : Type 0 where
  pub items : Stmts
  pub is : b.body ≡ tree.BracedBody items
  pub proper : ProperBody m form (tree.BracedBody items)
  pub fits : FitsAll (print_body m d b.end (tree.BracedBody items)) u

pub record SoundCalls (m : Bodies) (d : ℕ) (sub : Calls) : Type 0 where
  pub assign : (w : Bool) → Sound AtFront (IsExpr m w (suc d) 20) (sub (AnAssign w))
  pub prefix : Sound AtFront (IsExpr m false d 6) (sub APrefix)
  pub new : Sound AtFront (IsExpr m false d 3) (sub ANew)
  pub param : Sound Inside (IsParam m (suc d)) (sub AParam)
  pub rest : Sound Inside (IsRest (suc d)) (sub ARest)
  pub item : (t u : Lexeme) → is_param_form t u ≡ true → (ts : List Lexeme) → Outcome Inside (IsItem m (suc d)) (IsItem m (suc d)) (t ∷ u ∷ ts) (sub (AnAssign true) (t ∷ u ∷ ts))

pub record SoundBody (m : Bodies) (d : ℕ) (body : BodyParser) : Type 0 where
  pub braced : (form : FuncForm) (start : ℕ) (simple : Bool) → Sound Inside (IsBraced m d form) (body form start simple)

pub record SoundEnv (m : Bodies) (d : ℕ) (v : Env) : Type 0 where
  pub calls : SoundCalls m d v.sub
  pub body : SoundBody m d v.body

-- weaker claims

pub in_both : (w a b : Bool) → (w || a) ≡ true → (w || b) ≡ true → (w || (a && b)) ≡ true
in_both true a b h k = refl
in_both false a b h k = and_both a b h k

pub looser : {m : Bodies} {w : Bool} {d r r2 : ℕ} → r ≤ r2 → (u : List Lexeme) (e : Expr) → IsExpr m w d r u e → IsExpr m w d r2 u e
looser h u e q = record { rank_le = omega (arith, q.rank_le, h); proper = q.proper; in_if = q.in_if; fits = q.fits }

pub freed : {m : Bodies} {w : Bool} {d r : ℕ} (u : List Lexeme) (e : Expr) → IsExpr m false d r u e → IsExpr m w d r u e
freed {w = w} u e q = record { rank_le = q.rank_le; proper = q.proper; in_if = or_right w (free_of_in e) q.in_if; fits = q.fits }

-- the number 0
pub zero_is : (m : Bodies) (w : Bool) (d r : ℕ) → IsExpr m w d r (zero_lexeme ∷ []) (tree.Number 0 0)
zero_is m w d r = record { rank_le = omega arith; proper = tt; in_if = or_right w true refl; fits = record { before = λ n. fits_number d zero_lexeme n refl } }

pub zero_some : (p : Spot) (m : Bodies) (w : Bool) (d r : ℕ) → Mended p (IsExpr m w d r)
zero_some AtFront m w d r = record { end = zero_lexeme ∷ []; of = tree.Number 0 0; starts = zero_starts; is = zero_is m w d r }
zero_some Inside m w d r = record { end = zero_lexeme ∷ []; of = tree.Number 0 0; starts = tt; is = zero_is m w d r }

-- a mark that must stand here
abbrev pub IsMark : ℕ → ℕ → List Lexeme → Unit {0} → Type 0
IsMark i d u _ = FitsAll (mark_piece i d ∷ []) u

pub mark_some : (i d : ℕ) → Mended Inside (IsMark i d)
mark_some i d = record { end = lexeme_of_kind (kind.Mark i) ∷ []; of = tt; starts = tt; is = all_mark i d (lexeme_of_kind (kind.Mark i)) refl }

pub expect_sound : (i d : ℕ) → Sound Inside (IsMark i d) (expect i)
unfolding expect
expect_sound i d = sound_peek (λ t. at_when (is_mark i t.kind) (λ e. at_step t (sound_ret {a = tt} (all_mark i d t (mark_known i t.kind e)))) (λ e. sound_at t (sound_bad (mark_some i d)))) (sound_bad (mark_some i d))

abbrev pub IsName : ℕ → List Lexeme → Named → Type 0
IsName d u n = FitsAll (name_piece n d ∷ []) u

pub name_some : (d : ℕ) → Mended Inside (IsName d)
name_some d = record { end = lexeme_of_kind kind.Name ∷ []; of = named (lexeme_of_kind kind.Name); starts = tt; is = all_name d (lexeme_of_kind kind.Name) refl }

pub name_sound : (d : ℕ) → Sound Inside (IsName d) name_of
unfolding name_of
name_sound d = sound_peek (λ t. at_when (is_name t.kind) (λ e. at_step t (sound_ret {a = named t} (all_name d t (name_known t.kind e)))) (λ _. sound_at t (sound_bad (name_some d)))) (sound_bad (name_some d))

-- Where an arrow's parameters may stand, the end may make an arrow of what was read.

abbrev pub top : Bool → ℕ → ℕ
top true r = 20
top false r = r

pub top_le : (heads : Bool) (r : ℕ) → r ≤ 20 → r ≤ top heads r
top_le true r h = h
top_le false r h = omega arith

abbrev pub SoundHead : Bodies → Bool → ℕ → Bool → ℕ → Parser Expr → Type 0
SoundHead m w d heads r f = Leads AtFront (IsExpr m w d r) (IsExpr m w d (top heads r)) f

head_some : {m : Bodies} {w : Bool} {d r r2 : ℕ} (heads : Bool) (f : Expr → Parser Expr) → ((u : List Lexeme) (e : Expr) → IsExpr m w d r u e → Sound Inside (Behind u (IsExpr m w d r2)) (f e)) → (u : List Lexeme) (e : Expr) → IsExpr m w d (top heads r) u e → Mended Inside (Behind u (IsExpr m w d (top heads r2)))
head_some {m = m} {w = w} {d = d} true f g u e q = some_done (IsExpr m w d 20) u e q
head_some false f g u e q = sound_some (g u e q)

pub head_bind : {m : Bodies} {w : Bool} {d r r2 : ℕ} (heads : Bool) {g : Parser Expr} (f : Expr → Parser Expr) → r2 ≤ 20 → SoundHead m w d heads r g → ((u : List Lexeme) (e : Expr) → IsExpr m w d r u e → Sound Inside (Behind u (IsExpr m w d r2)) (f e)) → SoundHead m w d heads r2 (bind g f)
head_bind heads f h s k = leads_bind s (λ u e q. leads_map (λ v a x. x) (λ v a x. looser (top_le heads _ h) (u ++ v) a x) (k u e q)) (head_some heads f k)

pub head_map : {m : Bodies} {w : Bool} {d r r2 : ℕ} (heads : Bool) {g : Parser Expr} → r ≤ r2 → SoundHead m false d heads r g → SoundHead m w d heads r2 g
head_map true h s = leads_map (λ u e q. looser h u e (freed u e q)) (λ u e q. freed u e q) s
head_map false h s = leads_map (λ u e q. looser h u e (freed u e q)) (λ u e q. looser h u e (freed u e q)) s

pub head_of_sound : {m : Bodies} {w : Bool} {d r : ℕ} (heads : Bool) {g : Parser Expr} → r ≤ 20 → Sound AtFront (IsExpr m w d r) g → SoundHead m w d heads r g
head_of_sound heads h s = leads_map (λ u e q. q) (λ u e q. looser (top_le heads _ h) u e q) s

-- a parameter prints as the expression that it stands for

value_print : (m : Bodies) (q : ℕ) (n : Named) (o : Option Expr) (r : Bool) → r ≡ false → ellipsis r q ++ (name_piece n q ∷ print_initializer m q (maybe_expr_of o)) ≡ print m q (param_value n o)
value_print m q n None false h = refl
value_print m q n (Some e) false h = refl
value_print m q n o true h = absurd (cc)

pub param_print : (m : Bodies) (q : ℕ) (p : Param) → p.rest ≡ false → print_param m q p ≡ print m q (param_expr p)
param_print m q p h = value_print m q p.name p.value p.rest h

value_is : (m : Bodies) (d : ℕ) (u : List Lexeme) (n : Named) (o : Option Expr) → ProperMaybe m (maybe_expr_of o) → FitsAll (print m d (param_value n o)) u → IsExpr m true d 20 u (param_value n o)
value_is m d u n None p f = record { rank_le = omega arith; proper = tt; in_if = refl; fits = f }
value_is m d u n (Some e) p f = record { rank_le = omega arith; proper = (refl, omega arith, tt, p.0, p.1); in_if = refl; fits = f }

pub param_is : (m : Bodies) (d : ℕ) (u : List Lexeme) (p : Param) → IsParam m d u p → IsExpr m true d 20 u (param_expr p)
param_is m d u p h = value_is m d u p.name p.value h.proper (subst (λ x. FitsAll x u) (param_print m d p h.single) h.fits)
