-- What the code answers where a part ends with another part.
use Rattle.std.proofs.Common.{◌≡◌, ◌∙◌, List, Bool, true, false, sym, ap, subst, Result, Ok, Err, Some, None}
use Rattle.script_grammar.specs.Lexeme.{Lexeme}
use Rattle.script_grammar.specs.Interpretation.{Interpretation}
use Rattle.script_grammar.specs.Shows.{NodeOf, MaybeOf, ArgsOf, OperandOf, PartOf}
use Rattle.script_grammar.specs.Tree.{Expr}
use Rattle.grammar_parser_specs.specs.Parser.{Recorded, Reply, Parser, after, when}
use Rattle.grammar_local_laws.proofs.LocalExprs.{after_noted}
use Rattle.parse_exprs.specs.declared.source.Source.{Source}
use Rattle.parse_exprs.specs.declared.place.Cursor.{Cursor}
use Rattle.parse_exprs.specs.declared.place.ParseFault.{ParseFault}
use Rattle.parse_exprs.specs.declared.place.ParseFault.TheVariants as faults
use Rattle.parse_exprs.specs.declared.part.Turned.TheVariants as turned
use Rattle.parse_exprs.specs.Answers.{Answers, ReadAs}
use Rattle.parse_exprs.specs.Means.{Itself, TurnOf, ItemsOf, RankedOf, AtomOf, ListOf}
use Rattle.parse_exprs.proofs.Steps.{then}

-- what stands for some value of which a fact holds, stands for some value of which a weaker fact holds
abbrev pub Maps : {E A : Type 0} → (E → (A → Type 0) → Type 0) → Type 1
Maps {E = E} {A = A} gives = (e : E) (k n : A → Type 0) → ((a : A) → k a → n a) → gives e k → gives e n

-- a part that ends with another
pub onward : {E A B : Type 0} {qs : List Recorded} {a : A} {us : List Lexeme} (gives : E → (B → Type 0) → Type 0) (s : Source) (i : Interpretation) (p : Cursor) (o : Result E ParseFault) (rs : List Recorded) (r : Reply A) (f : A → Parser B)
    → Maps gives → ReadAs rs r a qs us → Answers gives s i p o qs (f a us) → Answers gives s i p o rs (after r f)
onward gives s i p (Ok e) rs r f m h k = m e _ _ (λ b x. then f h x) k
onward gives s i p (Err (faults.Unexpected n)) rs r f m h k = record { is = sym (after_noted rs r f) ∙ ap (λ x. after x f) h.is ∙ k.is }
onward gives s i p (Err (faults.TooDeep n)) rs r f m h k = record { is = sym (after_noted rs r f) ∙ ap (λ x. after x f) h.is ∙ k.is }
onward gives s i p (Err faults.NoMemory) rs r f m h k = tt

-- the same after a test

pub onward_true : {E A : Type 0} {b : Bool} (gives : E → (A → Type 0) → Type 0) (s : Source) (i : Interpretation) (p : Cursor) (o : Result E ParseFault) (rs : List Recorded) (us : List Lexeme) (f g : Parser A) → b ≡ true → Answers gives s i p o rs (f us) → Answers gives s i p o rs (when b f g us)
onward_true gives s i p o rs us f g e h = subst (λ x. Answers gives s i p o rs (when x f g us)) (sym e) h

pub onward_false : {E A : Type 0} {b : Bool} (gives : E → (A → Type 0) → Type 0) (s : Source) (i : Interpretation) (p : Cursor) (o : Result E ParseFault) (rs : List Recorded) (us : List Lexeme) (f g : Parser A) → b ≡ false → Answers gives s i p o rs (g us) → Answers gives s i p o rs (when b f g us)
onward_false gives s i p o rs us f g e h = subst (λ x. Answers gives s i p o rs (when x f g us)) (sym e) h

-- each way to stand for something maps

pub itself_maps : {A : Type 0} → Maps (Itself {A = A})
itself_maps e k n f h = f e h

pub node_maps : {E A : Type 0} (shows : E → A → Type 0) → Maps (NodeOf shows)
node_maps shows e k n f h = (h.0, h.1, f h.0 h.2)

pub items_maps : {E A C B : Type 0} (shows : E → A → Type 0) (last : C → (B → Type 0) → Type 0) → Maps last → Maps (ItemsOf shows last)
items_maps shows last m e k n f h = (h.0, h.1, m e.last _ _ (λ b x. f _ x) h.2)

pub ranked_maps : {E : Type 0} (shows : E → Expr → Type 0) → Maps (RankedOf shows)
ranked_maps shows e k n f h = (h.0, h.1, h.2, h.3, f h.0 h.4)

pub atom_maps : {E : Type 0} (shows : E → Expr → Type 0) → Maps (AtomOf shows)
atom_maps shows e k n f h = (h.0, h.1, h.2, h.3, f h.0 h.4)

pub turn_maps : {E A C B : Type 0} (item : E → (A → Type 0) → Type 0) (last : C → (B → Type 0) → Type 0) → Maps item → Maps last → Maps (TurnOf item last)
turn_maps item last m w (turned.Next e) k n f h = m e _ _ (λ a x. f _ x) h
turn_maps item last m w (turned.Last c) k n f h = w c _ _ (λ b x. f _ x) h

pub part_maps : {E : Type 0} (j : Interpretation) (shows : E → Expr → Type 0) → Maps (PartOf j shows)
part_maps j shows e k n f h = (h.0, h.1, f _ h.2)

pub operand_maps : {E : Type 0} (shows : E → Expr → Type 0) → Maps (OperandOf shows)
operand_maps shows e k n f h = (h.0, h.1, f _ h.2)

pub maybe_maps : {E A : Type 0} (shows : E → A → Type 0) → Maps (MaybeOf shows)
maybe_maps shows None k n f h = f None h
maybe_maps shows (Some e) k n f h = (h.0, h.1, f _ h.2)

pub args_maps : {E : Type 0} (shows : E → Expr → Type 0) → Maps (ArgsOf shows)
args_maps shows e k n f h = (h.0, h.1, f _ h.2)

pub list_maps : {E : Type 0} (shows : E → Expr → Type 0) → Maps (ListOf shows)
list_maps shows e k n f h = (h.0, h.1, f _ h.2)
