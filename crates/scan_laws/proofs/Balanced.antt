-- Tokens whose brackets match close the braces that they open, and no other.
use Rattle.std.proofs.Common.{◌≡◌, ℕ, List, [], ◌∷◌, map, Bool, true, false, cond, refl, sym, ◌∙◌, ap, Option, Some, None, option_map, option_and_then}
use Rattle.std.specs.Prelude.{◌==◌, filter}
use Rattle.script_grammar.specs.declared.token.Kind.{Kind}
use Rattle.script_grammar.specs.declared.token.Kind.TheVariants as kind
use Rattle.script_grammar.specs.declared.brackets.Bracket.{Bracket}
use Rattle.script_grammar.specs.declared.brackets.Bracket.TheVariants.{Paren, Square, Brace, Template}
use Rattle.script_grammar.specs.declared.brackets.BracketPart.{BracketPart}
use Rattle.script_grammar.specs.declared.brackets.BracketPart.TheVariants.{Opening, Closing, Middle, Other}
use Rattle.script_grammar.specs.Lexeme.{Lexeme}
use Rattle.script_grammar.specs.Matching.{part_of, part_of_mark, is_same, next_open, all_open, IsBalanced}
use Rattle.script_grammar.specs.Pieces.{Opener, paren, bracket, brace, template, closes, closed, reopened, mark_opens, open_behind, open_at_end}
use Rattle.script_grammar.specs.Pieces as pieces
use Rattle.script_grammar.proofs.Balance.{is_same-eq}
use Rattle.scan_laws.specs.Inside.{is_brace, opens_or_closes_brace, kinds, ClosesInside}
use Rattle.scan_laws.proofs.OpenBraces.{moving}

-- the braces among brackets
braces : List Bracket → List Bracket
braces s = filter is_brace s

-- what closes a bracket closes the innermost
closes_innermost : (b c : Bracket) (s t : List Bracket) → next_open (b ∷ s) (Closing c) ≡ Some t → (b ≡ c) × (s ≡ t)
closes_innermost b c s t e = by (is_same b c) refl e
  where
    by : (x : Bool) → is_same b c ≡ x → cond x (Some s) None ≡ Some t → (b ≡ c) × (s ≡ t)
    by true f g = (is_same-eq b c f, cc)
    by false f g = absurd (cc)

closes_template : (b : Bracket) (s t : List Bracket) → next_open (b ∷ s) Middle ≡ Some t → (b ≡ Template) × (b ∷ s ≡ t)
closes_template b s t e = by (is_same b Template) refl e
  where
    by : (x : Bool) → is_same b Template ≡ x → cond x (Some (b ∷ s)) None ≡ Some t → (b ≡ Template) × (b ∷ s ≡ t)
    by true f g = (is_same-eq b Template f, cc)
    by false f g = absurd (cc)

-- a token that moves a brace does to the braces what it does to all brackets
moved : (p : BracketPart) (s t : List Bracket) → opens_or_closes_brace p ≡ true → next_open s p ≡ Some t → next_open (braces s) p ≡ Some (braces t)
unfolding braces
moved (Opening Paren) s t m e = absurd (cc)
moved (Opening Square) s t m e = absurd (cc)
moved (Opening Brace) s t m e = ap (option_map (filter is_brace)) e
moved (Opening Template) s t m e = ap (option_map (filter is_brace)) e
moved (Closing c) [] t m e = absurd (cc)
moved (Closing Paren) (b ∷ s) t m e = absurd (cc)
moved (Closing Square) (b ∷ s) t m e = absurd (cc)
moved (Closing Brace) (b ∷ s) t m e = let c = closes_innermost b Brace s t e in ap (λ x. next_open (filter is_brace (x ∷ s)) (Closing Brace)) c.0 ∙ ap (λ (x : List Bracket). Some (filter is_brace x)) c.1
moved (Closing Template) (b ∷ s) t m e = let c = closes_innermost b Template s t e in ap (λ x. next_open (filter is_brace (x ∷ s)) (Closing Template)) c.0 ∙ ap (λ (x : List Bracket). Some (filter is_brace x)) c.1
moved Middle [] t m e = absurd (cc)
moved Middle (b ∷ s) t m e = let c = closes_template b s t e in
    ap (λ x. next_open (filter is_brace (x ∷ s)) Middle) c.0 ∙ ap (λ x. Some (filter is_brace (x ∷ s))) (sym c.0) ∙ ap (λ (x : List Bracket). Some (filter is_brace x)) c.1
moved Other s t m e = absurd (cc)

-- and one that moves none leaves the braces
unmoved : (p : BracketPart) (s t : List Bracket) → opens_or_closes_brace p ≡ false → next_open s p ≡ Some t → braces s ≡ braces t
unfolding braces
unmoved (Opening Paren) s t m e = let is : Paren ∷ s ≡ t = cc in ap (filter is_brace) is
unmoved (Opening Square) s t m e = let is : Square ∷ s ≡ t = cc in ap (filter is_brace) is
unmoved (Opening Brace) s t m e = absurd (cc)
unmoved (Opening Template) s t m e = absurd (cc)
unmoved (Closing c) [] t m e = absurd (cc)
unmoved (Closing Paren) (b ∷ s) t m e = let c = closes_innermost b Paren s t e in ap (λ x. filter is_brace (x ∷ s)) c.0 ∙ ap (filter is_brace) c.1
unmoved (Closing Square) (b ∷ s) t m e = let c = closes_innermost b Square s t e in ap (λ x. filter is_brace (x ∷ s)) c.0 ∙ ap (filter is_brace) c.1
unmoved (Closing Brace) (b ∷ s) t m e = absurd (cc)
unmoved (Closing Template) (b ∷ s) t m e = absurd (cc)
unmoved Middle s t m e = absurd (cc)
unmoved Other s t m e = let is : s ≡ t = cc in ap (filter is_brace) is

all_moved : (ks : List Kind) (s t : List Bracket) → all_open s ks ≡ Some t → all_open (braces s) (filter moving ks) ≡ Some (braces t)
unfolding braces
all_moved [] s t e = ap (option_map (filter is_brace)) e
all_moved (k ∷ ks) s t e = by (next_open s (part_of k)) (moving k) refl refl (λ u. all_moved ks u t) e
  where
    by : (n : Option (List Bracket)) (m : Bool) → next_open s (part_of k) ≡ n → moving k ≡ m → ((u : List Bracket) → all_open u ks ≡ Some t → all_open (braces u) (filter moving ks) ≡ Some (braces t))
        → option_and_then (λ u. all_open u ks) n ≡ Some t → all_open (braces s) (cond m (k ∷ filter moving ks) (filter moving ks)) ≡ Some (braces t)
    by None m f g each h = absurd (cc)
    by (Some u) true f g each h = ap (option_and_then (λ x. all_open x (filter moving ks))) (moved (part_of k) s u g f) ∙ each u h
    by (Some u) false f g each h = ap (λ x. all_open x (filter moving ks)) (unmoved (part_of k) s u g f) ∙ each u h

-- By the brackets of a list of kinds.
pub balanced_closes : (ts : List Lexeme) → IsBalanced (kinds ts) → ClosesInside ts
unfolding braces
balanced_closes ts h = all_moved (kinds ts) [] [] h

-- By the brackets of the grammar's pieces.

bracket_of : Opener → Bracket
bracket_of paren = Paren
bracket_of bracket = Square
bracket_of brace = Brace
bracket_of template = Template

brackets : List Opener → List Bracket
brackets os = map bracket_of os

same_test : (o p : Opener) → closes o p ≡ is_same (bracket_of p) (bracket_of o)
unfolding bracket_of
same_test paren paren = refl
same_test paren bracket = refl
same_test paren brace = refl
same_test paren template = refl
same_test bracket paren = refl
same_test bracket bracket = refl
same_test bracket brace = refl
same_test bracket template = refl
same_test brace paren = refl
same_test brace bracket = refl
same_test brace brace = refl
same_test brace template = refl
same_test template paren = refl
same_test template bracket = refl
same_test template brace = refl
same_test template template = refl

opened_next : (o : Opener) (ps qs : List Opener) → Some (o ∷ ps) ≡ Some qs → next_open (brackets ps) (Opening (bracket_of o)) ≡ Some (brackets qs)
unfolding brackets
opened_next o ps qs e = ap (option_map (map bracket_of)) e

same_next : (ps qs : List Opener) → Some ps ≡ Some qs → next_open (brackets ps) Other ≡ Some (brackets qs)
unfolding brackets
same_next ps qs e = other (map bracket_of ps) ∙ ap (option_map (map bracket_of)) e
  where
    other : (s : List Bracket) → next_open s Other ≡ Some s
    other [] = refl
    other (b ∷ s) = refl

closed_next : (o : Opener) (ps qs : List Opener) → closed o ps ≡ Some qs → next_open (brackets ps) (Closing (bracket_of o)) ≡ Some (brackets qs)
unfolding brackets
closed_next o [] qs e = absurd (cc)
closed_next o (p ∷ ps) qs e = ap (λ b. cond b (Some (map bracket_of ps)) None) (sym (same_test o p)) ∙ by (closes o p) e
  where
    by : (b : Bool) → cond b (Some ps) None ≡ Some qs → cond b (Some (map bracket_of ps)) None ≡ Some (map bracket_of qs)
    by true f = ap (option_map (map bracket_of)) f
    by false f = absurd (cc)

reopened_next : (ps qs : List Opener) → reopened ps (closed template ps) ≡ Some qs → next_open (brackets ps) Middle ≡ Some (brackets qs)
unfolding brackets bracket_of
reopened_next [] qs e = absurd (cc)
reopened_next (p ∷ ps) qs e = ap (λ b. cond b (Some (bracket_of p ∷ map bracket_of ps)) None) (sym (same_test template p)) ∙ by (closes template p) e
  where
    by : (b : Bool) → reopened (p ∷ ps) (cond b (Some ps) None) ≡ Some qs → cond b (Some (bracket_of p ∷ map bracket_of ps)) None ≡ Some (map bracket_of qs)
    by true f = ap (option_map (map bracket_of)) f
    by false f = absurd (cc)

mark_next : (i : ℕ) (ps qs : List Opener) → mark_opens i ps ≡ Some qs → next_open (brackets ps) (part_of_mark i) ≡ Some (brackets qs)
unfolding bracket_of
mark_next i ps qs e = by (i == 2) (i == 3) (i == 4) (i == 5) (i == 0) (i == 1) e
  where
    by : (a b c d x y : Bool)
        → cond a (Some (paren ∷ ps)) (cond b (closed paren ps) (cond c (Some (bracket ∷ ps)) (cond d (closed bracket ps) (cond x (Some (brace ∷ ps)) (cond y (closed brace ps) (Some ps)))))) ≡ Some qs
        → next_open (brackets ps) (cond a (Opening Paren) (cond b (Closing Paren) (cond c (Opening Square) (cond d (Closing Square) (cond x (Opening Brace) (cond y (Closing Brace) Other)))))) ≡ Some (brackets qs)
    by true b c d x y f = opened_next paren ps qs f
    by false true c d x y f = closed_next paren ps qs f
    by false false true d x y f = opened_next bracket ps qs f
    by false false false true x y f = closed_next bracket ps qs f
    by false false false false true y f = opened_next brace ps qs f
    by false false false false false true f = closed_next brace ps qs f
    by false false false false false false f = same_next ps qs f

kind_next : (k : Kind) (ps qs : List Opener) → open_behind k ps ≡ Some qs → next_open (brackets ps) (part_of k) ≡ Some (brackets qs)
unfolding bracket_of
kind_next (kind.Mark i) ps qs e = mark_next i ps qs e
kind_next kind.TemplateHead ps qs e = opened_next template ps qs e
kind_next kind.TemplateMiddle ps qs e = reopened_next ps qs e
kind_next kind.TemplateTail ps qs e = closed_next template ps qs e
kind_next kind.Bad ps qs e = absurd (cc)
kind_next kind.End ps qs e = absurd (cc)
kind_next kind.Name ps qs e = same_next ps qs e
kind_next kind.Number ps qs e = same_next ps qs e
kind_next kind.Str ps qs e = same_next ps qs e
kind_next kind.TemplateWhole ps qs e = same_next ps qs e
kind_next (kind.Word i) ps qs e = same_next ps qs e

all_next : (ts : List Lexeme) (ps qs : List Opener) → open_at_end ps ts ≡ Some qs → all_open (brackets ps) (kinds ts) ≡ Some (brackets qs)
unfolding brackets
all_next [] ps qs e = ap (option_map (map bracket_of)) e
all_next (t ∷ ts) ps qs e = by (open_behind t.kind ps) refl (λ os. all_next ts os qs) e
  where
    by : (n : Option (List Opener)) → open_behind t.kind ps ≡ n → ((os : List Opener) → open_at_end os ts ≡ Some qs → all_open (brackets os) (kinds ts) ≡ Some (brackets qs))
        → (elim n [ None ↦ None | Some os ↦ open_at_end os ts ]) ≡ Some qs → all_open (brackets ps) (kinds (t ∷ ts)) ≡ Some (brackets qs)
    by None f each g = absurd (cc)
    by (Some os) f each g = ap (option_and_then (λ s. all_open s (kinds ts))) (kind_next t.kind ps os f) ∙ each os g

-- tokens that are balanced by the pieces of the grammar are balanced by their kinds
pub pieces_balanced : (ts : List Lexeme) → pieces.IsBalanced ts → IsBalanced (kinds ts)
unfolding brackets
pieces_balanced ts h = all_next ts [] [] h

pub pieces_close : (ts : List Lexeme) → pieces.IsBalanced ts → ClosesInside ts
pieces_close ts h = balanced_closes ts (pieces_balanced ts h)
