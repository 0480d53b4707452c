-- What a walk over lexemes with a list of open brackets finds, by the partners that a matching of the tokens knows.
-- `pass_over` and `arrow_behind` are such walks.
use Rattle.std.proofs.Common.{◌≡◌, ◌∙◌, List, [], ◌∷◌, ◌++◌, Bool, true, false, Option, Some, None, map, option_map, refl, ap, sym, subst, if◌then◌else◌, option_and_then, nat_eq}
use Rattle.script_grammar.specs.declared.token.Kind.{Kind}
use Rattle.script_grammar.specs.declared.token.Kind.TheVariants as kind
use Rattle.script_grammar.specs.declared.token.mark.TheConstants as mark
use Rattle.script_grammar.specs.declared.brackets.Bracket.{Bracket}
use Rattle.script_grammar.specs.declared.brackets.Bracket.TheVariants.{Paren, Square, Brace, Template}
use Rattle.script_grammar.specs.declared.brackets.BracketPart.{BracketPart}
use Rattle.script_grammar.specs.declared.brackets.BracketPart.TheVariants.{Opening, Closing, Middle, Other}
use Rattle.script_grammar.specs.Lexeme.{Lexeme}
use Rattle.script_grammar.specs.Pieces.{Opener, paren, bracket, brace, template, closes, closed, reopened, open_behind}
use Rattle.script_grammar.specs.Matching.{part_of, is_same, next_open, all_open, closed_by, IsBalanced}
use Rattle.script_grammar.proofs.Balance.{all_open-below}

abbrev pub opener_of : Bracket → Opener
opener_of Paren = paren
opener_of Square = bracket
opener_of Brace = brace
opener_of Template = template

abbrev pub openers : List Bracket → List Opener
openers = map opener_of

abbrev pub kinds : List Lexeme → List Kind
kinds = map (λ t. t.kind)

-- a token that is neither Bad nor End
abbrev pub IsInner : Kind → Type 0
IsInner kind.Bad = ⊥
IsInner kind.End = ⊥
IsInner _ = Unit {0}

abbrev pub AllInner : List Lexeme → Type 0
AllInner [] = Unit {0}
AllInner (t ∷ ts) = IsInner t.kind × AllInner ts

closes-same : (b x : Bracket) → closes (opener_of b) (opener_of x) ≡ is_same x b
closes-same Paren Paren = refl
closes-same Paren Square = refl
closes-same Paren Brace = refl
closes-same Paren Template = refl
closes-same Square Paren = refl
closes-same Square Square = refl
closes-same Square Brace = refl
closes-same Square Template = refl
closes-same Brace Paren = refl
closes-same Brace Square = refl
closes-same Brace Brace = refl
closes-same Brace Template = refl
closes-same Template Paren = refl
closes-same Template Square = refl
closes-same Template Brace = refl
closes-same Template Template = refl

closed-next : (b : Bracket) (s : List Bracket) → closed (opener_of b) (openers s) ≡ option_map openers (next_open s (Closing b))
closed-next b [] = refl
closed-next b (x ∷ s) = ap (λ t. if t then Some (openers s) else None) (closes-same b x) ∙ split (is_same x b)
  where
    split : (t : Bool) → (if t then Some (openers s) else None) ≡ option_map openers (if t then Some s else None)
    split true = refl
    split false = refl

reopened-next : (s : List Bracket) → reopened (openers s) (closed template (openers s)) ≡ option_map openers (next_open s Middle)
reopened-next [] = refl
reopened-next (x ∷ s) = ap (λ t. reopened (openers (x ∷ s)) (if t then Some (openers s) else None)) (closes-same Template x) ∙ split (is_same x Template)
  where
    split : (t : Bool) → reopened (openers (x ∷ s)) (if t then Some (openers s) else None) ≡ option_map openers (if t then Some (x ∷ s) else None)
    split true = refl
    split false = refl

mark-next : (a b c d e f : Bool) (s : List Bracket)
    → (if a then Some (paren ∷ openers s) else if b then closed paren (openers s) else if c then Some (bracket ∷ openers s) else if d then closed bracket (openers s) else if e then Some (brace ∷ openers s) else if f then closed brace (openers s) else Some (openers s))
    ≡ option_map openers (next_open s (if a then Opening Paren else (if b then Closing Paren else (if c then Opening Square else (if d then Closing Square else (if e then Opening Brace else (if f then Closing Brace else Other)))))))
mark-next true b c d e f s = refl
mark-next false true c d e f s = closed-next Paren s
mark-next false false true d e f s = refl
mark-next false false false true e f s = closed-next Square s
mark-next false false false false true f s = refl
mark-next false false false false false true s = closed-next Brace s
mark-next false false false false false false s = refl

-- the two ways to say what is open after a token agree
pub open_behind-next : (k : Kind) (s : List Bracket) → IsInner k → open_behind k (openers s) ≡ option_map openers (next_open s (part_of k))
open_behind-next kind.Name s h = refl
open_behind-next kind.Number s h = refl
open_behind-next kind.Str s h = refl
open_behind-next kind.TemplateWhole s h = refl
open_behind-next kind.TemplateHead s h = refl
open_behind-next kind.TemplateMiddle s h = reopened-next s
open_behind-next kind.TemplateTail s h = closed-next Template s
open_behind-next (kind.Word i) s h = refl
open_behind-next (kind.Mark i) s h = mark-next (nat_eq i mark.OPEN_PAREN) (nat_eq i mark.CLOSE_PAREN) (nat_eq i mark.OPEN_BRACKET) (nat_eq i mark.CLOSE_BRACKET) (nat_eq i mark.OPEN_BRACE) (nat_eq i mark.CLOSE_BRACE) s
open_behind-next kind.Bad s h = absurd h
open_behind-next kind.End s h = absurd h

-- What is open below changes nothing above.
pub next_open-under : (k : Kind) (s o base : List Bracket) → next_open s (part_of k) ≡ Some o → next_open (s ++ base) (part_of k) ≡ Some (o ++ base)
next_open-under k s o base h = sym (one (next_open (s ++ base) (part_of k))) ∙ all_open-below (k ∷ []) s o base (ap (option_and_then (λ t. Some t)) h)
  where
    one : (n : Option (List Bracket)) → option_and_then (λ t. Some t) n ≡ n
    one None = refl
    one (Some t) = refl

-- What a walk answers at a lexeme: nothing fits, all is closed, or it goes on with what is open.
abbrev pub walk_case : {A : Type 0} → Option (List Opener) → A → A → (List Opener → A) → A
walk_case None none done go = none
walk_case (Some []) none done go = done
walk_case (Some (q ∷ qs)) none done go = go (q ∷ qs)

-- a walk that answers so at each lexeme
abbrev pub IsWalk : {A : Type 0} → (List Opener → List Lexeme → A) → (none done : Lexeme → List Lexeme → A) → Type 0
IsWalk f none done = (ps : List Opener) (t : Lexeme) (ts : List Lexeme) → f ps (t ∷ ts) ≡ walk_case (open_behind t.kind ps) (none t ts) (done t ts) (λ qs. f qs ts)

-- lexemes that close nothing of what was open before them
pub walk-through : {A : Type 0} (f : List Opener → List Lexeme → A) (none done : Lexeme → List Lexeme → A) → IsWalk f none done
    → (xs : List Lexeme) (s t : List Bracket) (b : Bracket) (rest : List Lexeme) → AllInner xs → all_open s (kinds xs) ≡ Some t
    → f (openers (s ++ (b ∷ []))) (xs ++ rest) ≡ f (openers (t ++ (b ∷ []))) rest
walk-through f none done walk [] s t b rest inner h = ap (λ o. f (openers (some_or s o ++ (b ∷ []))) rest) h
  where
    some_or : List Bracket → Option (List Bracket) → List Bracket
    some_or d None = d
    some_or d (Some x) = x
walk-through {A = A} f none done walk (x ∷ xs) s t b rest inner h = behind (λ u g. walk-through f none done walk xs u t b rest inner.1 g) (next_open s (part_of x.kind)) refl h
  where
    goes : (u : List Bracket) → walk_case (Some (openers (u ++ (b ∷ [])))) (none x (xs ++ rest)) (done x (xs ++ rest)) (λ qs. f qs (xs ++ rest)) ≡ f (openers (u ++ (b ∷ []))) (xs ++ rest)
    goes [] = refl
    goes (v ∷ u) = refl

    behind : ((u : List Bracket) → all_open u (kinds xs) ≡ Some t → f (openers (u ++ (b ∷ []))) (xs ++ rest) ≡ f (openers (t ++ (b ∷ []))) rest)
        → (n : Option (List Bracket)) → next_open s (part_of x.kind) ≡ n → option_and_then (λ o. all_open o (kinds xs)) n ≡ Some t
        → f (openers (s ++ (b ∷ []))) (x ∷ (xs ++ rest)) ≡ f (openers (t ++ (b ∷ []))) rest
    behind each None e g = absurd (cc)
    behind each (Some u) e g =
        walk (openers (s ++ (b ∷ []))) x (xs ++ rest)
        ∙ ap (λ o. walk_case o (none x (xs ++ rest)) (done x (xs ++ rest)) (λ qs. f qs (xs ++ rest)))
        (open_behind-next x.kind (s ++ (b ∷ [])) inner.0 ∙ ap (option_map openers) (next_open-under x.kind s u (b ∷ []) e))
        ∙ goes u ∙ each u g

is_same-self : (b : Bracket) → is_same b b ≡ true
is_same-self Paren = refl
is_same-self Square = refl
is_same-self Brace = refl
is_same-self Template = refl

some-eq : {A : Type 0} {a b : A} → Some a ≡ Some b → a ≡ b
some-eq {A = A} {a = a} h = ap value h
  where
    value : Option A → A
    value None = a
    value (Some v) = v

close-one : (p : BracketPart) (b : Bracket) → is_same b Template ≡ false → closed_by p ≡ Some b → next_open (b ∷ []) p ≡ Some []
close-one (Opening c) b plain h = absurd (cc)
close-one (Closing c) b plain h = ap (λ t. if t then Some [] else None) (subst (λ x. is_same b x ≡ true) (sym (some-eq h)) (is_same-self b))
close-one Middle b plain h = absurd (true_false (sym (is_same-self Template) ∙ ap (λ x. is_same x Template) (some-eq h) ∙ plain))
  where
    true_false : true ≡ false → ⊥
    true_false e = cc
close-one Other b plain h = absurd (cc)

-- a walk from one open bracket, over balanced lexemes, to one that closes it
pub walk-done : {A : Type 0} (f : List Opener → List Lexeme → A) (none done : Lexeme → List Lexeme → A) → IsWalk f none done
    → (xs : List Lexeme) (b : Bracket) (l : Lexeme) (rest : List Lexeme) → is_same b Template ≡ false → AllInner xs → IsInner l.kind → IsBalanced (kinds xs) → closed_by (part_of l.kind) ≡ Some b
    → f (opener_of b ∷ []) (xs ++ (l ∷ rest)) ≡ done l rest
walk-done f none done walk xs b l rest plain inner last balanced closing =
    walk-through f none done walk xs [] [] b (l ∷ rest) inner balanced
    ∙ walk (opener_of b ∷ []) l rest
    ∙ ap (λ o. walk_case o (none l rest) (done l rest) (λ qs. f qs rest)) (open_behind-next l.kind (b ∷ []) last ∙ ap (option_map openers) (close-one (part_of l.kind) b plain closing))

-- a walk from one open bracket to a lexeme that does not fit
pub walk-misfit : {A : Type 0} (f : List Opener → List Lexeme → A) (none done : Lexeme → List Lexeme → A) → IsWalk f none done
    → (xs : List Lexeme) (u : List Bracket) (b : Bracket) (l : Lexeme) (rest : List Lexeme) → AllInner xs → all_open [] (kinds xs) ≡ Some u → open_behind l.kind (openers (u ++ (b ∷ []))) ≡ None
    → f (opener_of b ∷ []) (xs ++ (l ∷ rest)) ≡ none l rest
walk-misfit f none done walk xs u b l rest inner fit misfit =
    walk-through f none done walk xs [] u b (l ∷ rest) inner fit
    ∙ walk (openers (u ++ (b ∷ []))) l rest
    ∙ ap (λ o. walk_case o (none l rest) (done l rest) (λ qs. f qs rest)) misfit
