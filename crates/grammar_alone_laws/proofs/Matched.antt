-- Where brackets match, each token that opens one has a token after it that closes it.
use Rattle.std.proofs.Common.{◌≡◌, ◌∙◌, List, [], ◌∷◌, ◌++◌, Bool, true, false, Option, Some, None, option_map, option_and_then, refl, sym, ap, subst, if◌then◌else◌}
use Rattle.std.proofs.lemmas.List.{map-append}
use Rattle.script_grammar.specs.declared.token.Kind.{Kind}
use Rattle.script_grammar.specs.declared.token.Kind.TheVariants as kind
use Rattle.script_grammar.specs.declared.brackets.Bracket.{Bracket}
use Rattle.script_grammar.specs.declared.brackets.Bracket.TheVariants.{Template}
use Rattle.script_grammar.specs.declared.brackets.BracketPart.{BracketPart}
use Rattle.script_grammar.specs.declared.brackets.BracketPart.TheVariants.{Opening, Closing, Middle, Other}
use Rattle.script_grammar.specs.Lexeme.{Lexeme}
use Rattle.script_grammar.specs.Matching.{part_of, is_same, next_open, all_open, opened_by, closed_by}
use Rattle.script_grammar.specs.Matching as matching
use Rattle.script_grammar.specs.Pieces.{Opener, open_behind, open_at_end, IsBalanced}
use Rattle.script_grammar.proofs.Balance.{is_same-eq, all_open-append}
use Rattle.grammar_script_laws.proofs.Bracketed.{IsInner, kinds, openers, open_behind-next}
use Rattle.grammar_parser_laws.proofs.Nested.{open_append}
use Rattle.grammar_alone_laws.specs.Closed.{ClosedBehind}

-- ---- the two ways to say that brackets match

inner_of : (k : Kind) (ps qs : List Opener) → open_behind k ps ≡ Some qs → IsInner k
inner_of kind.Name ps qs e = tt
inner_of kind.Number ps qs e = tt
inner_of kind.Str ps qs e = tt
inner_of kind.TemplateWhole ps qs e = tt
inner_of kind.TemplateHead ps qs e = tt
inner_of kind.TemplateMiddle ps qs e = tt
inner_of kind.TemplateTail ps qs e = tt
inner_of (kind.Word i) ps qs e = tt
inner_of (kind.Mark i) ps qs e = tt
inner_of kind.Bad ps qs e = absurd (cc)
inner_of kind.End ps qs e = absurd (cc)

none_open : (s : List Bracket) → ◌≡◌ {A = Option (List Opener)} (Some (openers s)) (Some []) → ◌≡◌ {A = Option (List Bracket)} (Some s) (Some [])
none_open [] e = refl
none_open (b ∷ s) e = absurd (cc)

all_closed : (w : List Lexeme) (s : List Bracket) → open_at_end (openers s) w ≡ Some [] → all_open s (kinds w) ≡ Some []
all_closed [] s e = none_open s e
all_closed (t ∷ w) s e = before (λ r g. all_closed w r g) (open_behind t.kind (openers s)) refl e
  where
    behind : ((r : List Bracket) → open_at_end (openers r) w ≡ Some [] → all_open r (kinds w) ≡ Some []) → (qs : List Opener) → open_at_end qs w ≡ Some []
        → (o : Option (List Bracket)) → ◌≡◌ {A = Option (List Opener)} (Some qs) (option_map openers o) → option_and_then (λ r. all_open r (kinds w)) o ≡ Some []
    behind each qs g None k = absurd (cc)
    behind each qs g (Some r) k = each r (subst (λ (o : Option (List Opener)). ◌≡◌ {A = Option (List Opener)} (elim o [ None ↦ None | Some x ↦ open_at_end x w ]) (Some [])) k g)

    before : ((r : List Bracket) → open_at_end (openers r) w ≡ Some [] → all_open r (kinds w) ≡ Some [])
        → (o : Option (List Opener)) → open_behind t.kind (openers s) ≡ o → ◌≡◌ {A = Option (List Opener)} (elim o [ None ↦ None | Some x ↦ open_at_end x w ]) (Some []) → all_open s (kinds (t ∷ w)) ≡ Some []
    before each None k g = absurd (cc)
    before each (Some qs) k g = behind each qs g (next_open s (part_of t.kind)) (sym k ∙ open_behind-next t.kind s (inner_of t.kind (openers s) qs k))

-- what does not fit does not with more after it
open_none : (u : List Lexeme) (os : List Opener) (v : List Lexeme) → open_at_end os u ≡ None → open_at_end os (u ++ v) ≡ None
open_none [] os v e = absurd (cc)
open_none (t ∷ u) os v e = past (λ x g. open_none u x v g) (open_behind t.kind os) e
  where
    past : ((x : List Opener) → open_at_end x u ≡ None → open_at_end x (u ++ v) ≡ None) → (o : Option (List Opener)) → ◌≡◌ {A = Option (List Opener)} (elim o [ None ↦ None | Some x ↦ open_at_end x u ]) None
        → ◌≡◌ {A = Option (List Opener)} (elim o [ None ↦ None | Some x ↦ open_at_end x (u ++ v) ]) None
    past each None g = refl
    past each (Some x) g = each x g

-- balanced tokens are so by the matching of brackets, too
pub matched : (w : List Lexeme) → IsBalanced w → matching.IsBalanced (kinds w)
matched w h = all_closed w [] h

-- ---- what is open between balanced tokens

-- The brackets that are open after some of them were opened among these, and the others close them.
pub record OpenInside (u v : List Lexeme) : Type 0 where
  pub left : List Opener
  pub opened : open_at_end [] u ≡ Some left
  pub closed : open_at_end left v ≡ Some []

pub open_inside : (u v : List Lexeme) → IsBalanced (u ++ v) → OpenInside u v
open_inside u v h = either (open_at_end [] u) refl
  where
    either : (o : Option (List Opener)) → open_at_end [] u ≡ o → OpenInside u v
    either None k = absurd (none_some (sym (open_none u [] v k) ∙ h))
      where
        none_some : ◌≡◌ {A = Option (List Opener)} None (Some []) → ⊥
        none_some e = cc
    either (Some os) k = record { left = os; opened = k; closed = sym (open_append u [] os v k) ∙ h }

-- ---- what is opened closes

some-eq : {A : Type 0} {a b : A} → Some a ≡ Some b → a ≡ b
some-eq {A = A} {a = a} h = ap value h
  where
    value : Option A → A
    value None = a
    value (Some v) = v

-- What a token does to brackets of which this one is open below some: it closes it, or it stays open.
data Step (p : BracketPart) (above : List Bracket) (b : Bracket) (below s : List Bracket) : Type 0 where
  closes : above ≡ [] → closed_by p ≡ Some b → Step p above b below s
  stays : (x : List Bracket) → next_open above p ≡ Some x → s ≡ x ++ b ∷ below → Step p above b below s

step : (p : BracketPart) (above : List Bracket) (b : Bracket) (below s : List Bracket) → next_open (above ++ b ∷ below) p ≡ Some s → Step p above b below s
step (Opening c) above b below s e = stays (c ∷ above) refl (sym (some-eq e))
step Other above b below s e = stays above refl (sym (some-eq e))
step (Closing c) [] b below s e = either (is_same b c) refl e
  where
    either : (t : Bool) → is_same b c ≡ t → (if t then Some below else None) ≡ Some s → Step (Closing c) [] b below s
    either true h g = closes refl (ap Some (sym (is_same-eq b c h)))
    either false h g = absurd (cc)
step (Closing c) (a ∷ above) b below s e = either (is_same a c) refl e
  where
    either : (t : Bool) → is_same a c ≡ t → (if t then Some (above ++ b ∷ below) else None) ≡ Some s → Step (Closing c) (a ∷ above) b below s
    either true h g = stays above (ap (λ x. if x then Some above else None) h) (sym (some-eq g))
    either false h g = absurd (cc)
step Middle [] b below s e = either (is_same b Template) refl e
  where
    either : (t : Bool) → is_same b Template ≡ t → (if t then Some (b ∷ below) else None) ≡ Some s → Step Middle [] b below s
    either true h g = closes refl (ap Some (sym (is_same-eq b Template h)))
    either false h g = absurd (cc)
step Middle (a ∷ above) b below s e = either (is_same a Template) refl e
  where
    either : (t : Bool) → is_same a Template ≡ t → (if t then Some (a ∷ (above ++ b ∷ below)) else None) ≡ Some s → Step Middle (a ∷ above) b below s
    either true h g = stays (a ∷ above) (ap (λ x. if x then Some (a ∷ above) else None) h) (sym (some-eq g))
    either false h g = absurd (cc)

-- the tokens up to the one that closes the bracket close what is open above it
record Found (above : List Bracket) (b : Bracket) (v : List Lexeme) : Type 0 where
  between : List Lexeme
  closing : Lexeme
  others : List Lexeme
  split : v ≡ between ++ closing ∷ others
  closes : closed_by (part_of closing.kind) ≡ Some b
  inside : all_open above (kinds between) ≡ Some []

still_open : (above : List Bracket) (b : Bracket) (below : List Bracket) → ◌≡◌ {A = Option (List Bracket)} (Some (above ++ b ∷ below)) (Some []) → ⊥
still_open [] b below e = cc
still_open (a ∷ above) b below e = cc

found : (v : List Lexeme) (above : List Bracket) (b : Bracket) (below : List Bracket) → all_open (above ++ b ∷ below) (kinds v) ≡ Some [] → Found above b v
found [] above b below e = absurd (still_open above b below e)
found (t ∷ v) above b below e = before (λ x g. found v x b below g) (next_open (above ++ b ∷ below) (part_of t.kind)) refl e
  where
    by : ((x : List Bracket) → all_open (x ++ b ∷ below) (kinds v) ≡ Some [] → Found x b v) → (s : List Bracket) → all_open s (kinds v) ≡ Some [] → Step (part_of t.kind) above b below s → Found above b (t ∷ v)
    by each s g (closes none h) = record { between = []; closing = t; others = v; split = refl; closes = h; inside = ap Some none }
    by each s g (stays x h k) =
        let r = each x (subst (λ z. all_open z (kinds v) ≡ Some []) k g) in
        record { between = t ∷ r.between; closing = r.closing; others = r.others; split = ap (λ z. t ∷ z) r.split; closes = r.closes; inside = ap (option_and_then (λ z. all_open z (kinds r.between))) h ∙ r.inside }

    before : ((x : List Bracket) → all_open (x ++ b ∷ below) (kinds v) ≡ Some [] → Found x b v)
        → (o : Option (List Bracket)) → next_open (above ++ b ∷ below) (part_of t.kind) ≡ o → option_and_then (λ s. all_open s (kinds v)) o ≡ Some [] → Found above b (t ∷ v)
    before each None k g = absurd (cc)
    before each (Some s) k g = by each s g (step (part_of t.kind) above b below s k)

-- what is open after a token that opens a bracket
opened_first : (p : BracketPart) (b : Bracket) (s r : List Bracket) → opened_by p ≡ Some b → next_open s p ≡ Some r → (below : List Bracket) × (r ≡ b ∷ below)
opened_first (Opening c) b s r h e = (s, sym (some-eq e) ∙ ap (λ x. x ∷ s) (some-eq h))
opened_first (Closing c) b s r h e = absurd (cc)
opened_first Other b s r h e = absurd (cc)
opened_first Middle b [] r h e = absurd (cc)
opened_first Middle b (a ∷ s) r h e = either (is_same a Template) refl e
  where
    either : (t : Bool) → is_same a Template ≡ t → (if t then Some (a ∷ s) else None) ≡ Some r → (below : List Bracket) × (r ≡ b ∷ below)
    either true k g = (s, sym (some-eq g) ∙ ap (λ x. x ∷ s) (is_same-eq a Template k ∙ some-eq h))
    either false k g = absurd (cc)

-- Among balanced tokens, after one that opens a bracket stands one that closes it.
pub closes_behind : (u : List Lexeme) (t : Lexeme) (v : List Lexeme) (b : Bracket) → IsBalanced (u ++ t ∷ v) → opened_by (part_of t.kind) ≡ Some b → ClosedBehind b v
closes_behind u t v b h opened =
    before (all_open [] (kinds u)) (sym (all_open-append [] (kinds u) (kinds (t ∷ v))) ∙ ap (all_open []) (sym (map-append (λ (x : Lexeme). x.kind) u (t ∷ v))) ∙ matched (u ++ t ∷ v) h)
  where
    behind : (r : List Bracket) → all_open r (kinds v) ≡ Some [] → (below : List Bracket) × (r ≡ b ∷ below) → ClosedBehind b v
    behind r g k =
        let f = found v [] b k.0 (subst (λ z. all_open z (kinds v) ≡ Some []) k.1 g) in
        record { between = f.between; closing = f.closing; others = f.others; split = f.split; closes = f.closes; balanced = f.inside }

    next : (s : List Bracket) (o : Option (List Bracket)) → next_open s (part_of t.kind) ≡ o → option_and_then (λ r. all_open r (kinds v)) o ≡ Some [] → ClosedBehind b v
    next s None k g = absurd (cc)
    next s (Some r) k g = behind r g (opened_first (part_of t.kind) b s r opened k)

    before : (o : Option (List Bracket)) → option_and_then (λ s. all_open s (kinds (t ∷ v))) o ≡ Some [] → ClosedBehind b v
    before None g = absurd (cc)
    before (Some s) g = next s (next_open s (part_of t.kind)) refl g
