-- The tokens of a function, in front of an End token, with no line end before the first, and without the function's name.
use Rattle.std.proofs.Common.{◌≡◌, ◌∙◌, ℕ, List, [], ◌∷◌, ◌++◌, length, replicate, refl, sym, ap, subst, true, false, not, ◌&&◌, ◌||◌}
use Rattle.script_grammar.specs.declared.token.Kind.TheVariants as kind
use Rattle.script_grammar.specs.declared.token.FuncForm.TheVariants as form
use Rattle.script_grammar.specs.declared.token.mark.TheConstants as mark
use Rattle.script_grammar.specs.Kinds.{is_mark, is_end}
use Rattle.script_grammar.specs.Lexeme.{Lexeme}
use Rattle.script_grammar.specs.Tree.{no_expr, some_expr, Function, function, no_params, more_params}
use Rattle.script_grammar.specs.Tree as tree
use Rattle.script_grammar.specs.Pieces.{whole, Piece, At, Gap, Pass, Ending, Content, nothing, text, number, role, Has, Is, Fits, may_omit, is_do_while, continues, depths}
use Rattle.script_grammar.specs.Print.{print_function}
use Rattle.script_grammar.specs.Proper.{ProperFunction}
use Rattle.script_grammar.specs.Script.{print_alone}
use Rattle.grammar_alone_laws.specs.Alone.{start_of, nameless, at_front}

-- tokens that fit, each as deep as that
pub record Refitted (ps : List Piece) (w : List Lexeme) (n : Lexeme) (ds : List ℕ) : Type 0 where
  pub is : Fits ps w n
  pub deep : depths ps w n is ≡ ds

-- ---- in front of an End token a semicolon may be left out

omits_end : (e : Ending) (n : Lexeme) → n.kind ≡ kind.End → may_omit e n ≡ true
omits_end e n h = subst (λ k. (not (is_mark mark.SEMICOLON k) && (is_mark mark.CLOSE_BRACE k || is_end k || is_do_while e || (n.after_line && not (continues e k)))) ≡ true) (sym h) refl

pub before_end : (ps : List Piece) (w : List Lexeme) (n last : Lexeme) → last.kind ≡ kind.End → (h : Fits ps w n) → Refitted ps w last (depths ps w n h)
before_end [] [] n last e h = record { is = tt; deep = refl }
before_end [] (t ∷ w) n last e h = absurd h
before_end (At s ∷ ps) [] n last e h = absurd h
before_end (At s ∷ ps) (t ∷ w) n last e h =
    let r = before_end ps w n last e h.1 in
    record { is = (h.0, r.is); deep = ap (λ ds. s.depth ∷ ds) r.deep }
before_end (Gap g ∷ ps) [] n last e h =
    let r = before_end ps [] n last e h.1 in
    record { is = (omits_end g last e, r.is); deep = r.deep }
before_end (Gap g ∷ ps) (t ∷ w) n last e h =
    let r = before_end ps (t ∷ w) n last e h.1 in
    record { is = (h.0, r.is); deep = r.deep }
before_end (Pass ∷ ps) w n last e h =
    let r = before_end ps h.1 n last e h.4 in
    record { is = (h.0, h.1, h.2, h.3, r.is); deep = ap (λ ds. replicate (length h.0) 0 ++ ds) r.deep }

-- ---- the first token of a function is where the function starts

-- The first place is one for a token, which starts at this offset.
abbrev StartsThere : ℕ → List Piece → Type 0
StartsThere n [] = ⊥
StartsThere n (At s ∷ ps) = (t : Lexeme) → Is s t → t.start ≡ n
StartsThere n (Gap e ∷ ps) = ⊥
StartsThere n (Pass ∷ ps) = ⊥

function_starts : (d : ℕ) (f : Function) → ProperFunction whole f → StartsThere (start_of f) (print_function whole d f)
function_starts d (function form start end who ps comma false body) p = λ t i. i.starts.0
function_starts d (function form.Arrow start end who (more_params name no_expr false no_params) comma true body) p = λ t i. i.starts.0 ∙ sym p.2.1
function_starts d (function form.Arrow start end who (more_params name no_expr false (more_params n v r ps)) comma true body) p = absurd p.2
function_starts d (function form.Arrow start end who (more_params name no_expr true ps) comma true body) p = absurd p.2
function_starts d (function form.Arrow start end who (more_params name (some_expr e) rest ps) comma true body) p = absurd p.2
function_starts d (function form.Arrow start end who no_params comma true body) p = absurd p.2
function_starts d (function form.Script start end who ps comma true body) p = absurd p.2
function_starts d (function form.Function start end who ps comma true body) p = absurd p.2
function_starts d (function form.Method start end who ps comma true body) p = absurd p.2
function_starts d (function form.Getter start end who ps comma true body) p = absurd p.2
function_starts d (function form.Setter start end who ps comma true body) p = absurd p.2

-- a first token, and the others
pub record Begun (n : ℕ) (w : List Lexeme) : Type 0 where
  pub first : Lexeme
  pub rest : List Lexeme
  pub are : w ≡ first ∷ rest
  pub starts : first.start ≡ n

begun_at : (n : ℕ) (ps : List Piece) → StartsThere n ps → (w : List Lexeme) (next : Lexeme) → Fits ps w next → Begun n w
begun_at n [] k w next h = absurd k
begun_at n (At s ∷ ps) k [] next h = absurd h
begun_at n (At s ∷ ps) k (t ∷ w) next h = record { first = t; rest = w; are = refl; starts = k t h.0 }
begun_at n (Gap e ∷ ps) k w next h = absurd k
begun_at n (Pass ∷ ps) k w next h = absurd k

pub begun : (d : ℕ) (f : Function) → ProperFunction whole f → (w : List Lexeme) (n : Lexeme) → Fits (print_function whole d f) w n → Begun (start_of f) w
begun d f p w n h = begun_at (start_of f) (print_function whole d f) (function_starts d f p) w n h

-- with no line end before it, it fits there too
front_at : (k : ℕ) (ps : List Piece) → StartsThere k ps → (t : Lexeme) (w : List Lexeme) (n : Lexeme) (h : Fits ps (t ∷ w) n) → Refitted ps (at_front t ∷ w) n (depths ps (t ∷ w) n h)
front_at k [] s t w n h = absurd s
front_at k (At r ∷ ps) s t w n h = record { is = (record { kind = h.0.kind; content = has r.content h.0.content; starts = h.0.starts; ends = h.0.ends; line = λ _. refl }, h.1); deep = refl }
  where
    has : (c : Content) → Has c t → Has c (at_front t)
    has nothing i = tt
    has (text x) i = i
    has (number x) i = i
    has (role x) i = i
front_at k (Gap e ∷ ps) s t w n h = absurd s
front_at k (Pass ∷ ps) s t w n h = absurd s

pub in_front : (d : ℕ) (f : Function) → ProperFunction whole f → (t : Lexeme) (w : List Lexeme) (n : Lexeme) (h : Fits (print_function whole d f) (t ∷ w) n) → Refitted (print_function whole d f) (at_front t ∷ w) n (depths (print_function whole d f) (t ∷ w) n h)
in_front d f p t w n h = front_at (start_of f) (print_function whole d f) (function_starts d f p) t w n h

-- ---- without its name a function is printed alone as it is in a script

same_print : (d : ℕ) (f : Function) → print_function whole d f ≡ print_alone whole d (nameless f)
same_print d (function form start end who ps comma bare (tree.BracedBody items)) = refl
same_print d (function form start end who ps comma bare (tree.ShortBody value)) = refl

pub printed_alone : (d : ℕ) (f : Function) (w : List Lexeme) (n : Lexeme) (h : Fits (print_function whole d f) w n) → Refitted (print_alone whole d (nameless f)) w n (depths (print_function whole d f) w n h)
printed_alone d f w n h = subst (λ ps. Refitted ps w n (depths (print_function whole d f) w n h)) (same_print d f) (record { is = h; deep = refl })
