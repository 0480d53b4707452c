-- Tokens that are a script have no fault at any offset, and two first faults are one.
use Rattle.std.proofs.Common.{◌≡◌, ℕ, List, ap, sym, ◌∙◌}
use Rattle.script_grammar.specs.Fault.{ScriptPart, Refusal}
use Rattle.script_grammar.specs.Lexeme.{Lexeme}
use Rattle.script_grammar.specs.Pieces.{whole}
use Rattle.script_grammar.specs.Tree.{Stmts}
use Rattle.grammar_script_laws.proofs.FirstFaults.{fault_place, fault_kind}
use Rattle.parse_bodies.specs.Whole.{IsText}
use Rattle.parse_script.proofs.TextLemmas.{script_no_fault}
use Rattle.session_specs.specs.Sources.{start_of}
use Rattle.compile_session.specs.Faulty.{IsFaulty}

pub text_no_fault : (ts : List Lexeme) (items : Stmts) (why : Refusal) (offset : ℕ) → IsText ts items → IsFaulty ts why offset → ⊥
text_no_fault ts items why offset t f = script_no_fault ts items f.token why t f.first

pub one_offset : (ts : List Lexeme) (a b : Refusal) (one two : ℕ) → IsFaulty ts a one → IsFaulty ts b two → one ≡ two
one_offset ts a b one two f g = f.place ∙ ap (start_of ts) (fault_place (ScriptPart whole 0) ts f.token g.token a b f.first g.first) ∙ sym g.place

pub one_kind : (ts : List Lexeme) (a b : Refusal) (one two : ℕ) → IsFaulty ts a one → IsFaulty ts b two → a ≡ b
one_kind ts a b one two f g = fault_kind (ScriptPart whole 0) ts f.token g.token a b f.first g.first
