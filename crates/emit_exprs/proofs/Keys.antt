-- What stands after the values of properties.
use Rattle.std.proofs.Common.{◌≡◌, ℕ, List, Bool, true, false, if◌then◌else◌, sym, ap}
use Rattle.script_grammar.specs.Tree.{Stmts}
use Rattle.script_grammar.specs.TreeOf.{key_of}
use Rattle.script_grammar.specs.declared.tree.Expr.{Expr}
use Rattle.script_grammar.specs.declared.tree.Ident.{Ident}
use Rattle.script_grammar.specs.declared.tree.Key.{Key}
use Rattle.script_grammar.specs.declared.tree.Key.TheVariants as in_key
use Rattle.script_grammar.proofs.ExprEquations as equation
use Rattle.bytecode_buf.specs.declared.opcode.Op.TheVariants as op
use Rattle.emit_exprs.specs.declared.site.Site.{Site}
use Rattle.emit_exprs.specs.declared.properties.Defines.{Defines}
use Rattle.emit_exprs.specs.declared.properties.Defines.TheVariants.{Value}
use Rattle.emit_exprs.specs.Sites.{EmitsAt, text_in}
use Rattle.emit_exprs.specs.Whole.{just}
use Rattle.emit_exprs.specs.Properties.{closing}
use Rattle.emit_exprs.specs.Exprs.{define_named, define_computed, is_proto}
use Rattle.emit_exprs.specs.TreeCode.{at_site, Closes, ClosesPair}
use Rattle.emit_exprs.proofs.Writing.{written_of, written_as}

pub closes_word : {s : Site} {old new : List ℕ} (how : Defines) (name : Ident) → EmitsAt s old new (define_named how (text_in s name.atom)) → Closes s old new how (in_key.Word name)
closes_word {s} how name x = record { code = written_as (λ b f. f) (λ b f. ap (closing how) (sym (equation.key_of-Word (at_site s b) name))) (written_of x) }

pub closes_str : {s : Site} {old new : List ℕ} (how : Defines) (name : Ident) → EmitsAt s old new (define_named how (text_in s name.atom)) → Closes s old new how (in_key.Str name)
closes_str {s} how name x = record { code = written_as (λ b f. f) (λ b f. ap (closing how) (sym (equation.key_of-Str (at_site s b) name))) (written_of x) }

pub closes_number : {s : Site} {old new : List ℕ} (how : Defines) (at value : ℕ) → EmitsAt s old new (define_computed how) → Closes s old new how (in_key.Number at value)
closes_number {s} how at value x = record { code = written_as (λ b f. f) (λ b f. ap (closing how) (sym (equation.key_of-Number (at_site s b) at value))) (written_of x) }

pub closes_computed : {s : Site} {old new : List ℕ} (how : Defines) (value : Expr) → EmitsAt s old new (define_computed how) → Closes s old new how (in_key.Computed value)
closes_computed {s} how value x = record { code = written_as (λ b f. f) (λ b f. ap (closing how) (sym (equation.key_of-Computed (at_site s b) value))) (written_of x) }

pub pair_proto : {s : Site} {old new : List ℕ} (key : Key) → ((b : ℕ → Stmts) → true ≡ is_proto (key_of (at_site s b) key)) → EmitsAt s old new (just op.MutateProto) → ClosesPair s old new key
pair_proto {s} key is x = record { code = written_as (λ b f. f) (λ b f. ap (λ (t : Bool). if t then just op.MutateProto else closing Value (key_of (at_site s b) key)) (is b)) (written_of x) }

pub pair_other : {s : Site} {old new : List ℕ} (key : Key) → ((b : ℕ → Stmts) → false ≡ is_proto (key_of (at_site s b) key)) → Closes s old new Value key → ClosesPair s old new key
pair_other {s} key is x = record { code = written_as (λ b f. f) (λ b f. ap (λ (t : Bool). if t then just op.MutateProto else closing Value (key_of (at_site s b) key)) (is b)) x.code }
