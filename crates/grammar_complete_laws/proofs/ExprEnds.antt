-- The last place of an expression: a token stands there, so the end of the expression is the end of its last lexeme.
use Rattle.std.proofs.Common.{◌≡◌, ℕ, suc, List, [], ◌∷◌, ◌++◌, refl, sym, ap, ◌∙◌, subst, append-nil, true, false}
use Rattle.script_grammar.specs.Lexeme.{Lexeme}
use Rattle.script_grammar.specs.Tree.{Expr, Exprs, no_exprs, more_exprs, MaybeArgs, no_args, some_args, Parts, no_parts, more_parts, Operands, no_operands, more_operands, Tail, Tails, no_tails, more_tails, Function, function, Body}
use Rattle.script_grammar.specs.Tree as tree
use Rattle.script_grammar.specs.Pieces.{Piece, At, Gap, Pass, Slot, comma_piece, from, until, ending_at}
use Rattle.script_grammar.specs.Print.{print, print_list, print_more, print_parts, print_operands, print_tails, print_tail, print_func, above, inside, print_items, print_props, print_stmts, func_word, parenthesized, print_params, param_depth, arrow_pieces}
use Rattle.script_grammar.specs.Proper.{HasOperands, HasTails, HasExprs, operands_level}
use Rattle.grammar_parser_specs.specs.Exprs.{last_end}
use Rattle.grammar_parser_laws.proofs.Stands.{Marked, lexemes, Stands, lexemes_append}
use Rattle.grammar_parser_laws.proofs.ProperIn.{Mode, Proper, ProperExprs, ProperFunction, ProperOperands}

abbrev pub IsAt : Piece → Type 0
IsAt (At s) = Unit {0}
IsAt (Gap e) = ⊥
IsAt Pass = ⊥

-- the last of these is a token's place
abbrev LastAt : List Piece → Type 0
LastAt [] = ⊥
LastAt (p ∷ []) = IsAt p
LastAt (p ∷ q ∷ ps) = LastAt (q ∷ ps)

pub record EndsAt (ps : List Piece) : Type 0 where
  pub last : LastAt ps

pub ends_here : {s : Slot} → EndsAt (At s ∷ [])
ends_here = record { last = tt }

pub ends_cons : {p : Piece} {b : List Piece} → EndsAt b → EndsAt (p ∷ b)
ends_cons {p = p} {b = b} h = record { last = more b h.last }
  where
    more : (b : List Piece) → LastAt b → LastAt (p ∷ b)
    more [] k = absurd k
    more (q ∷ b) k = k

pub ends_append : (a : List Piece) {b : List Piece} → EndsAt b → EndsAt (a ++ b)
ends_append [] h = h
ends_append (p ∷ a) h = ends_cons (ends_append a h)

pub ends_none : {a : List Piece} → EndsAt a → EndsAt (a ++ [])
ends_none {a = a} h = subst EndsAt (sym (append-nil a)) h

is_ending : (n : ℕ) (p : Piece) → IsAt p → IsAt (ending_at n p)
is_ending n (At s) h = tt
is_ending n (Gap e) h = absurd h
is_ending n Pass h = absurd h

pub ends_until : (n : ℕ) (ps : List Piece) → EndsAt ps → EndsAt (until n ps)
ends_until n [] h = absurd h.last
ends_until n (p ∷ []) h = record { last = is_ending n p h.last }
ends_until n (p ∷ q ∷ ps) h = ends_cons (ends_until n (q ∷ ps) (record { last = h.last }))

last_append : (k : ℕ) (u v : List Lexeme) → last_end k (u ++ v) ≡ last_end (last_end k u) v
last_append k [] v = refl
last_append k (t ∷ u) v = last_append t.end u v

-- Lexemes at places of which the last ends there.
pub until_stands : (n : ℕ) (ps : List Piece) (w : List Marked) (x : Lexeme) → EndsAt ps → Stands (until n ps) w x → Stands ps w x × ((k : ℕ) → last_end k (lexemes w) ≡ n)
until_stands n [] w x e h = absurd e.last
until_stands n (At s ∷ []) [] x e h = absurd h
until_stands n (At s ∷ []) (y ∷ []) x e h = ((record { kind = h.0.kind; content = h.0.content; starts = h.0.starts; ends = h.0.ends.1; line = h.0.line }, h.1, tt), λ k. h.0.ends.0)
until_stands n (At s ∷ []) (y ∷ z ∷ w) x e h = absurd h.2
until_stands n (Gap g ∷ []) w x e h = absurd e.last
until_stands n (Pass ∷ []) w x e h = absurd e.last
until_stands n (At s ∷ q ∷ ps) [] x e h = absurd h
until_stands n (At s ∷ q ∷ ps) (y ∷ w) x e h =
    let r = until_stands n (q ∷ ps) w x (record { last = e.last }) h.2 in
    ((h.0, h.1, r.0), λ k. r.1 y.lexeme.end)
until_stands n (Gap g ∷ q ∷ ps) w x e h =
    let r = until_stands n (q ∷ ps) w x (record { last = e.last }) h.1 in
    ((h.0, r.0), r.1)
until_stands n (Pass ∷ q ∷ ps) w x e h =
    let r = until_stands n (q ∷ ps) h.1 x (record { last = e.last }) h.5 in
    ((h.0, h.1, h.2, h.3, h.4, r.0), λ k. ap (λ y. last_end k (lexemes y)) h.2 ∙ ap (last_end k) (lexemes_append h.0 h.1) ∙ last_append k (lexemes h.0) (lexemes h.1) ∙ r.1 (last_end k (lexemes h.0)))

tail_ends : (m : Mode) (d : ℕ) (t : Tail) → EndsAt (print_tail m.look d t)
tail_ends m d (tree.Dot w) = ends_cons ends_here
tail_ends m d (tree.Index e) = ends_cons (ends_append (print m.look (suc d) e) ends_here)
tail_ends m d (tree.Call es comma) = ends_cons (ends_append (print_list m.look d es) (ends_append (comma_piece comma d) ends_here))

tails_end : (m : Mode) (d : ℕ) (ts : Tails) → HasTails ts → EndsAt (print_tails m.look d ts)
tails_end m d no_tails h = absurd h
tails_end m d (more_tails t no_tails) h = ends_none (tail_ends m d t)
tails_end m d (more_tails t (more_tails u ts)) h = ends_append (print_tail m.look d t) (tails_end m d (more_tails u ts) tt)

parts_end : (m : Mode) (d : ℕ) {s : Slot} (ps : Parts) → EndsAt (At s ∷ print_parts m.look d ps)
parts_end m d no_parts = ends_here
parts_end m d (more_parts value behind rest) = ends_cons (ends_append (print m.look (suc d) value) (parts_end m d rest))

mutual
  pub expr_ends : (m : Mode) (d : ℕ) (e : Expr) → Proper m e → EndsAt (print m.look d e)
  expr_ends m d (tree.This at) h = ends_here
  expr_ends m d (tree.Name name) h = ends_here
  expr_ends m d (tree.Null at) h = ends_here
  expr_ends m d (tree.True at) h = ends_here
  expr_ends m d (tree.False at) h = ends_here
  expr_ends m d (tree.Number at value) h = ends_here
  expr_ends m d (tree.Str at end w) h = ends_here
  expr_ends m d (tree.Template at first parts) h = parts_end m d parts
  expr_ends m d (tree.Array at is comma) h = ends_cons (ends_append (print_items m.look d is) (ends_append (comma_piece comma d) ends_here))
  expr_ends m d (tree.Object at ps comma) h = ends_cons (ends_append (print_props m.look d ps) (ends_append (comma_piece comma d) ends_here))
  expr_ends m d (tree.Func at f) h = func_ends m d at f h.1
  expr_ends m d (tree.Paren at inner) h = ends_cons (ends_append (print m.look (suc d) inner) ends_here)
  expr_ends m d (tree.Chain head tails) h = ends_append (print m.look d head) (tails_end m d tails h.2)
  expr_ends m d (tree.New at callee no_args) h = ends_cons (ends_none (expr_ends m (suc d) callee h.1))
  expr_ends m d (tree.New at callee (some_args es comma)) h = ends_cons (ends_append (print m.look (suc d) callee) (ends_cons (ends_append (print_list m.look (suc d) es) (ends_append (comma_piece comma (suc d)) ends_here))))
  expr_ends m d (tree.Unary at op of is_word) h = ends_cons (expr_ends m (suc d) of h.2)
  expr_ends m d (tree.Update at op true of) h = ends_cons (expr_ends m (suc d) of h.2)
  expr_ends m d (tree.Update at op false of) h = ends_append (from at (print m.look d of)) ends_here
  expr_ends m d (tree.Binary first rest) h = ends_append (print m.look d first) (operands_end m d (operands_level rest) rest h.0 h.4)
  expr_ends m d (tree.Cond test then_value else_value) h = ends_append (print m.look d test) (ends_cons (ends_append (print m.look (suc d) then_value) (ends_cons (expr_ends m (suc d) else_value h.5))))
  expr_ends m d (tree.Assign op target value) h = ends_append (print m.look d target) (ends_cons (expr_ends m (suc d) value h.4))
  expr_ends m d (tree.Comma no_exprs) h = absurd h.0
  expr_ends m d (tree.Comma (more_exprs x no_exprs)) h = absurd h.0
  expr_ends m d (tree.Comma (more_exprs x (more_exprs y ys))) h = ends_append (print m.look (suc (above d)) x) (more_end m (above d) (more_exprs y ys) tt h.1.2)

  more_end : (m : Mode) (d : ℕ) (es : Exprs) → HasExprs es → ProperExprs m es → EndsAt (print_more m.look d es)
  more_end m d no_exprs h p = absurd h
  more_end m d (more_exprs x no_exprs) h p = ends_cons (ends_none (expr_ends m (suc d) x p.1))
  more_end m d (more_exprs x (more_exprs y ys)) h p = ends_cons (ends_append (print m.look (suc d) x) (more_end m d (more_exprs y ys) tt p.2))

  operands_end : (m : Mode) (d n : ℕ) (os : Operands) → HasOperands os → ProperOperands m n os → EndsAt (print_operands m.look d os)
  operands_end m d n no_operands h p = absurd h
  operands_end m d n (more_operands op is_word value no_operands) h p = ends_cons (ends_none (expr_ends m d value p.2))
  operands_end m d n (more_operands op is_word value (more_operands o w v r)) h p = ends_cons (ends_append (print m.look d value) (operands_end m d n (more_operands o w v r) tt p.3))

  func_ends : (m : Mode) (d at : ℕ) (f : Function) → ProperFunction m f → EndsAt (print_func m.look d at f)
  func_ends m d at (function form start end name ps comma bare (tree.BracedBody items)) h = ends_append (func_word form at name d) (ends_append (parenthesized bare start d (print_params m.look (param_depth form bare d) d ps) comma) (ends_append (arrow_pieces form d) (ends_cons (ends_append (inside m.look (print_stmts m.look d items)) ends_here))))
  func_ends m d at (function form start end name ps comma bare (tree.ShortBody value)) h = ends_append (func_word form at name d) (ends_append (parenthesized bare start d (print_params m.look (param_depth form bare d) d ps) comma) (ends_append (arrow_pieces form d) (ends_until end (print m.look (suc d) value) (expr_ends m (suc d) value h.4.3))))
