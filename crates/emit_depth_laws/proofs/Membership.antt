-- Texts that are among others.
use Rattle.std.proofs.Common.{◌≡◌, ◌∙◌, Bool, true, false, ◌||◌, ◌&&◌, not, bytes_eq, List, [], ◌∷◌, ◌++◌, refl, ap}
use Rattle.std.specs.Cmp.Lexicographic.{bytes_decides}
use Rattle.stencil_data.specs.declared.scopes.BindKind.TheVariants as bind
use Rattle.scope_analysis.specs.DeclaredNames.{Text, has_text, texts_without, Declaration, declarations, texts_of}
use Rattle.scope_functions.proofs.OwnUses.{has_either_named, has_declared, has_without}

-- each of these is among all
abbrev pub AllTexts : List Text → List Text → Type 0
AllTexts all [] = Unit {0}
AllTexts all (t ∷ ts) = (has_text all t ≡ true) × AllTexts all ts

or_behind : (a b : Bool) → b ≡ true → (a || b) ≡ true
or_behind true b h = refl
or_behind false b h = h

or_front : (a b : Bool) → a ≡ true → (a || b) ≡ true
or_front true b h = refl
or_front false b h = absurd (cc)

more_texts : (t : Text) (all ts : List Text) → AllTexts all ts → AllTexts (t ∷ all) ts
more_texts t all [] h = tt
more_texts t all (x ∷ ts) h = (or_behind (bytes_eq t x) (has_text all x) h.0, more_texts t all ts h.1)

pub texts_self : (ts : List Text) → AllTexts ts ts
texts_self [] = tt
texts_self (t ∷ ts) = (or_front (bytes_eq t t) (has_text ts t) ((bytes_decides t t).1 refl), more_texts t ts ts (texts_self ts))

pub texts_left : (all xs ys : List Text) → AllTexts all (xs ++ ys) → AllTexts all xs
texts_left all [] ys h = tt
texts_left all (x ∷ xs) ys h = (h.0, texts_left all xs ys h.1)

pub texts_right : (all xs ys : List Text) → AllTexts all (xs ++ ys) → AllTexts all ys
texts_right all [] ys h = h
texts_right all (x ∷ xs) ys h = texts_right all xs ys h.1

three_ways : (a b c : Bool) → (a || b) ≡ true → ((a || b) || c) ≡ true
three_ways a b c h = or_front (a || b) c h

in_either : (p q a b : Bool) → a ≡ p → b ≡ (not p && q) → (p || q) ≡ true → (a || b) ≡ true
in_either true q a b e f h = ap (λ (x : Bool). x || b) e
in_either false q a b e f h = ap (λ (x : Bool). x || b) e ∙ f ∙ h

-- the parameters, and the names beside them, are among the names of a function
pub among_names : (params beside : List Text) (specials : List Declaration) (t : Text) → (has_text params t || has_text beside t) ≡ true → has_text (texts_of (declarations bind.Param params ++ declarations bind.Var (texts_without params beside) ++ specials)) t ≡ true
among_names params beside specials t h =
    has_either_named (declarations bind.Param params ++ declarations bind.Var (texts_without params beside)) specials t
    ∙ or_front _ (has_text (texts_of specials) t)
    (has_either_named (declarations bind.Param params) (declarations bind.Var (texts_without params beside)) t
    ∙ in_either (has_text params t) (has_text beside t) _ _ (has_declared bind.Param params t) (has_declared bind.Var (texts_without params beside) t ∙ has_without params beside t) h)

pub param_among : (params beside : List Text) (specials : List Declaration) (t : Text) → has_text params t ≡ true → has_text (texts_of (declarations bind.Param params ++ declarations bind.Var (texts_without params beside) ++ specials)) t ≡ true
param_among params beside specials t h = among_names params beside specials t (or_front (has_text params t) (has_text beside t) h)

pub beside_among : (params beside : List Text) (specials : List Declaration) (t : Text) → has_text beside t ≡ true → has_text (texts_of (declarations bind.Param params ++ declarations bind.Var (texts_without params beside) ++ specials)) t ≡ true
beside_among params beside specials t h = among_names params beside specials t (or_behind (has_text params t) (has_text beside t) h)
