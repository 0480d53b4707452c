-- A function in another one starts after it starts and ends where it ends, or before.
use Rattle.std.proofs.Common.{◌≡◌, ◌∙◌, ℕ, ◌≤◌, List, [], ◌∷◌, ◌++◌, length, refl, sym, ap, ap₂, subst, arith, append_assoc, length-append, IsUtf8, Contains}
use Rattle.script_grammar.specs.Lexeme.{Lexeme}
use Rattle.script_grammar.specs.Pieces.{whole}
use Rattle.script_grammar.specs.Print.{print_function, print_stmts}
use Rattle.script_grammar.specs.Proper.{ProperStmts}
use Rattle.script_grammar.specs.Tree.{Function, function, Stmts}
use Rattle.script_scanner.specs.Lexemes.{lexemes}
use Rattle.grammar_parser_specs.specs.Exprs.{last_end}
use Rattle.scope_analysis.specs.Functions.{Inner, inner_function, inner_script}
use Rattle.emit_stmts.specs.Functions.{extent_of}
use Rattle.parse_bodies.specs.Whole.{IsText}
use Rattle.grammar_alone_laws.specs.Alone.{start_of, end_of}
use Rattle.grammar_alone_laws.specs.Functions.{IsFunctionIn, directly, inside}
use Rattle.grammar_alone_laws.specs.Held.{Holds}
use Rattle.grammar_alone_laws.proofs.Carrying.{carries_through}
use Rattle.grammar_alone_laws.proofs.Holding.{held_at}
use Rattle.grammar_alone_laws.proofs.InnerFunctions.{in_function, in_script}
use Rattle.grammar_alone_laws.proofs.Lasting.{function_ends}
use Rattle.grammar_alone_laws.proofs.Refitting.{begun}
use Rattle.parse_function.proofs.Places.{AllPlaced, lexemes_placed}
use Rattle.std.specs.Prelude.{false}

-- ---- tokens that begin and end one after another, the first not before an offset

abbrev InOrder : ℕ → List Lexeme → Type 0
InOrder b [] = Unit {0}
InOrder b (t ∷ ts) = (b ≤ t.start) × (t.start ≤ t.end) × InOrder t.end ts

in_order : (file : List ℕ) (b : ℕ) (ts : List Lexeme) → AllPlaced file b ts → InOrder b ts
in_order file b [] h = tt
in_order file b (t ∷ ts) h = (h.0, h.1, in_order file t.end ts h.4)

behind : (b : ℕ) (us ts : List Lexeme) → InOrder b (us ++ ts) → (b ≤ last_end b us) × InOrder (last_end b us) ts
behind b [] ts h = (omega arith, h)
behind b (u ∷ us) ts h =
    let r = behind u.end us ts h.2 in
    let first = h.0 in
    let own = h.1 in
    let others = r.0 in
    (omega (arith, first, own, others), r.1)

last_append : (k : ℕ) (u v : List Lexeme) → last_end k (u ++ v) ≡ last_end (last_end k u) v
last_append k [] v = refl
last_append k (t ∷ u) v = last_append t.end u v

-- what is in front of the last token, where more than nothing is after a part
without_last : (xs ys zs : List Lexeme) (x y : Lexeme) → xs ++ x ∷ [] ≡ ys ++ y ∷ zs → (more : List Lexeme) × (xs ≡ ys ++ more)
without_last xs [] zs x y e = (xs, refl)
without_last [] (z ∷ ys) zs x y e =
    let one : 1 ≡ length (z ∷ (ys ++ y ∷ zs)) = ap length e in
    let long = length-append ys (y ∷ zs) in
    absurd (omega (arith, one, long))
without_last (w ∷ xs) (z ∷ ys) zs x y e =
    let tails : xs ++ x ∷ [] ≡ ys ++ y ∷ zs = cc in
    let heads : w ≡ z = cc in
    let r = without_last xs ys zs x y tails in
    (r.0, ap₂ (λ (a : Lexeme) (b : List Lexeme). a ∷ b) heads r.1)

-- a part of some tokens, those in front of it and those after it
split_at : (words before deep more tail : List Lexeme) → words ≡ (before ++ deep) ++ more → words ++ tail ≡ before ++ (deep ++ (more ++ tail))
split_at words before deep more tail e = ap (λ (w : List Lexeme). w ++ tail) e ∙ (append_assoc (before ++ deep) more tail ∙ append_assoc before deep (more ++ tail))

ends_at : (from : ℕ) (words before deep more : List Lexeme) → words ≡ (before ++ deep) ++ more → last_end from words ≡ last_end (last_end (last_end from before) deep) more
ends_at from words before deep more e = ap (last_end from) e ∙ (last_append from (before ++ deep) more ∙ ap (λ (n : ℕ). last_end n more) (last_append from before deep))

-- ---- functions

held : (items : Stmts) → ProperStmts whole false items → (i : Inner) → IsFunctionIn items i → Holds (print_stmts whole 0 items) i.func
held items p i (directly i' a) = held_at i' (inner_script items) (print_stmts whole 0 items) (in_script items p).held a
held items p i (inside outer i' o a) =
    let around = held items p outer o in
    let here = held_at i' (inner_function outer.kind outer.name outer.func) (print_function whole around.depth outer.func) (in_function around.depth outer.kind outer.name outer.func around.proper).held a in
    record { depth = here.depth; proper = here.proper; carries = carries_through around.carries here.carries }

pub record IsNested (outer inner : Function) : Type 0 where
  pub starts : start_of outer ≤ start_of inner
  pub ends : end_of inner ≤ end_of outer

module _ (file : List ℕ) (utf8 : IsUtf8 file) (items : Stmts) (text : IsText (lexemes file) items) where
  pub nested : (outer i : Inner) → IsFunctionIn items outer → Contains (inner_function outer.kind outer.name outer.func) i → IsNested outer.func i.func
  nested outer i o c =
      let around = held items text.script.proper outer o in
      let part = around.carries.at text.inner text.end text.script.fits in
      let here = held_at i (inner_function outer.kind outer.name outer.func) (print_function whole around.depth outer.func) (in_function around.depth outer.kind outer.name outer.func around.proper).held c in
      let deep = here.carries.at part.words part.next part.is in
      let tail : List Lexeme = part.next ∷ part.behind in
      let cut = without_last part.words (deep.before ++ deep.words) deep.behind part.next deep.next (deep.split ∙ sym (append_assoc deep.before deep.words (deep.next ∷ deep.behind))) in
      let whole_file : InOrder 0 (part.before ++ (part.words ++ tail)) = subst (InOrder 0) (text.split ∙ part.split) (in_order file 0 (lexemes file) (lexemes_placed file utf8)) in
      let b = begun around.depth outer.func around.proper part.words part.next part.is in
      let d = begun here.depth i.func here.proper deep.words deep.next deep.is in
      let from = b.first.start in
      let there : InOrder (last_end 0 part.before) ((b.first ∷ b.rest) ++ tail) = subst (λ (w : List Lexeme). InOrder (last_end 0 part.before) (w ++ tail)) b.are (behind 0 part.before (part.words ++ tail) whole_file).1 in
      let words : InOrder from (part.words ++ tail) = subst (λ (w : List Lexeme). InOrder from (w ++ tail)) (sym b.are) (omega arith, there.1, there.2) in
      let split = split_at part.words deep.before deep.words cut.0 tail cut.1 in
      let first = behind from deep.before (deep.words ++ (cut.0 ++ tail)) (subst (InOrder from) split words) in
      let start = last_end from deep.before in
      let second = behind start deep.words (cut.0 ++ tail) first.1 in
      let third = behind (last_end start deep.words) cut.0 tail second.1 in
      let begins : InOrder start ((d.first ∷ d.rest) ++ (cut.0 ++ tail)) = subst (λ (w : List Lexeme). InOrder start (w ++ (cut.0 ++ tail))) d.are first.1 in
      let inner_end = function_ends here.depth i.func here.proper deep.words deep.next deep.is start in
      let outer_end = function_ends around.depth outer.func around.proper part.words part.next part.is from in
      let at_end = ends_at from part.words deep.before deep.words cut.0 cut.1 in
      let outer_start = b.starts in
      let inner_start = d.starts in
      let low = first.0 in
      let lower = begins.0 in
      let high = third.0 in
      record {
        starts = omega (arith, outer_start, inner_start, low, lower);
        ends = omega (arith, inner_end, outer_end, at_end, high);
      }

-- so by their extents
pub extent_starts : (f : Function) → (extent_of f).start ≡ start_of f
extent_starts (function _ _ _ _ _ _ _ _) = refl

pub extent_ends : (f : Function) → (extent_of f).end ≡ end_of f
extent_ends (function _ _ _ _ _ _ _ _) = refl
