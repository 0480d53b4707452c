-- Primaries, members and arguments: what they stand for.
use Rattle.std.proofs.Common.{◌≡◌, Bool, true, false, Some, None, Option, refl, if◌then◌else◌, ℕ, nat_eq}
use Rattle.script_grammar.specs.declared.node.NodeArgs.{NodeArgs}
use Rattle.script_grammar.specs.declared.node.NodeTail.{NodeTail}
use Rattle.script_grammar.specs.declared.node.NodeTail.TheVariants as tails
use Rattle.script_grammar.specs.declared.token.Kind.{Kind}
use Rattle.script_grammar.specs.declared.token.Kind.TheVariants as kind
use Rattle.script_grammar.specs.declared.token.word.TheConstants as word
use Rattle.script_grammar.specs.Endings.{ending}
use Rattle.script_grammar.specs.Interpretation.{Interpretation, text_of}
use Rattle.script_grammar.specs.Lexeme.{Lexeme}
use Rattle.script_grammar.specs.Pieces as pieces
use Rattle.script_grammar.specs.Shows.{TailOf, ShowTail, ShowMaybe, ShowArgs}
use Rattle.script_grammar.specs.Tree.{Expr, Tail}
use Rattle.script_grammar.specs.Tree as model
use Rattle.script_grammar.specs.TreeLists.{Args, exprs_of}
use Rattle.grammar_parser_specs.specs.Exprs.{atom_case}
use Rattle.parse_exprs.specs.declared.part.Rank.TheVariants as ranks
use Rattle.parse_exprs.specs.Means.{MaybeArgsOf}
use Rattle.parse_exprs.specs.Ranks.{rank_of}

-- how tokens that are expressions bind and end

word_rank : (b c d : Bool) (at : ℕ)
    → (ranks.Head ≡ rank_of (if b then model.This at else if c then model.Null at else if d then model.True at else model.False at))
    × (pieces.Operand ≡ ending (if b then model.This at else if c then model.Null at else if d then model.True at else model.False at))
word_rank true c d at = (refl, refl)
word_rank false true d at = (refl, refl)
word_rank false false true at = (refl, refl)
word_rank false false false at = (refl, refl)

pub atom_rank : (k : Kind) (t : Lexeme) → (ranks.Head ≡ rank_of (atom_case k t)) × (pieces.Operand ≡ ending (atom_case k t))
atom_rank kind.Name t = (refl, refl)
atom_rank kind.Number t = (refl, refl)
atom_rank kind.Str t = (refl, refl)
atom_rank kind.TemplateWhole t = (refl, refl)
atom_rank kind.TemplateHead t = (refl, refl)
atom_rank kind.TemplateMiddle t = (refl, refl)
atom_rank kind.TemplateTail t = (refl, refl)
atom_rank (kind.Word i) t = word_rank (nat_eq i word.THIS) (nat_eq i word.NULL) (nat_eq i word.TRUE) t.start
atom_rank (kind.Mark m) t = (refl, refl)
atom_rank kind.Bad t = (refl, refl)
atom_rank kind.End t = (refl, refl)

-- a tail as one value and a fact of it
pub tail_shown : {E : Type 0} (i : Interpretation) (shows : E → Expr → Type 0) (n : NodeTail E) (k : Tail → Type 0) → TailOf i shows n k → (x : Tail) × ShowTail i shows n x × k x
tail_shown i shows (tails.Dot atom) k h = (model.Dot (text_of i atom), refl, h)
tail_shown i shows (tails.Index e) k h = (model.Index h.0, (h.0, h.1, refl), h.2)
tail_shown i shows (tails.Call n) k h = (model.Call (exprs_of h.0) n.comma, (h.0, h.1, refl), h.2)

-- arguments or none, as one value and a fact of it
pub maybe_args_shown : {E : Type 0} (shows : E → Expr → Type 0) (n : Option (NodeArgs E)) (k : Option Args → Type 0) → MaybeArgsOf shows n k → (x : Option Args) × ShowMaybe (ShowArgs shows) n x × k x
maybe_args_shown shows None k h = (None, tt, h)
maybe_args_shown shows (Some n) k h = (Some (record { items = h.0; comma = n.comma }), (h.0, h.1, refl), h.2)
