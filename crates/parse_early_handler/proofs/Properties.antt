-- Properties of object literals.
use Rattle.std.proofs.Common.{◌≡◌, ℕ, Bool, ◌||◌, Option, List, [], ◌∷◌, map, refl, sym, ap}
use Rattle.script_grammar.specs.declared.node.NodeKey.{NodeKey}
use Rattle.script_grammar.specs.declared.node.NodeKey.TheVariants as keys
use Rattle.script_grammar.specs.Interpretation.{Interpretation}
use Rattle.script_grammar.specs.Tree as model
use Rattle.script_grammar.specs.TreeLists.{props_of}
use Rattle.script_grammar.specs.Shows.{ShowAll, ShowKey}
use Rattle.parse_track.specs.EarlyErrors.{sooner}
use Rattle.parse_track.specs.Notes as defined
use Rattle.parse_track.specs.Notes.{first_note, is_proto, later_protos, notes_key, notes_prop, notes_props, proto_error, proto_of}
use Rattle.parse_early_handler.specs.declared.nodes.ExprErrors.{ExprErrors}
use Rattle.parse_early_handler.specs.declared.nodes.PropErrors.{PropErrors}
use Rattle.parse_early_handler.specs.Firsts.{first_of, key_first, protos_first}
use Rattle.parse_early_handler.specs.HasErrors.{HasEmptyBodies, HasErrorsExpr, HasErrorsProp}
use Rattle.parse_early_handler.specs.Keys.{proto_key}
use Rattle.parse_early_handler.specs.Known.{KnowsWords, known_atoms}
use Rattle.parse_early_handler.proofs.Expressions.{expr-first}
use Rattle.parse_early_handler.proofs.Parting.{IsFirst, none-first, then-first, same-first, first-as, all-first}

module _ {E : Type 0} (i : Interpretation) (R : E → model.Expr → Type 0) where
  -- the offset of a key that is `__proto__`
  pub key-proto : (n : NodeKey E) (k : model.Key) → ShowKey i R n k → proto_key i n ≡ defined.proto_key k
  key-proto (keys.Word name) k h = ap defined.proto_key (sym h)
  key-proto (keys.Str name) k h = ap defined.proto_key (sym h)
  key-proto (keys.Number at value) k h = ap defined.proto_key (sym h)
  key-proto (keys.Computed e) k h = ap defined.proto_key (sym h.2)

module _ (i : Interpretation) (e : HasEmptyBodies i) (k : KnowsWords i known_atoms) where
  pub key-first : (n : NodeKey ExprErrors) (t : model.Key) → ShowKey i (HasErrorsExpr i) n t → IsFirst (key_first n) (notes_key t)
  key-first (keys.Word name) t h = first-as notes_key h none-first
  key-first (keys.Str name) t h = first-as notes_key h none-first
  key-first (keys.Number at value) t h = first-as notes_key h none-first
  key-first (keys.Computed x) t h = first-as notes_key h.2 (expr-first i e k x h.0 h.1)

  pub props-first : (ns : List PropErrors) (ps : List model.Prop) → ShowAll (HasErrorsProp i) ns ps → IsFirst (first_of (map (λ n. n.first) ns)) (notes_props (props_of ps))
  props-first = all-first (HasErrorsProp i) (λ n. n.first) notes_prop (λ ps. notes_props (props_of ps)) none-first (λ x xs g h. h) (λ n p h. record { is = (h.holds e k).first })

  -- properties that set the prototype, after one that does
  pub protos-first : (seen : Bool) (ns : List PropErrors) (ps : List model.Prop) → ShowAll (HasErrorsProp i) ns ps → IsFirst (protos_first seen ns) (later_protos seen (props_of ps))
  protos-first seen [] [] h = none-first
  protos-first seen [] (p ∷ ps) h = absurd h
  protos-first seen (n ∷ ns) [] h = absurd h
  protos-first seen (n ∷ ns) (p ∷ ps) h =
      same-first (ap (λ (o : Option ℕ). sooner (first_note (proto_error seen o)) (protos_first (seen || is_proto o) ns)) (h.0.holds e k).proto)
      (then-first {xs = proto_error seen (proto_of p)} (record { is = refl }) (protos-first (seen || is_proto (proto_of p)) ns ps h.1))
