-- The calls that count for the depth: what they answer inside one node more, and where there is no room.
use Rattle.std.proofs.Common.{◌≡◌, ◌∙◌, ℕ, zero, suc, ◌+◌, ◌-◌, ◌<◌, ◌≤◌, List, Bool, true, false, sym, ap, subst, arith, if◌then◌else◌, Result}
use Rattle.script_grammar.specs.Interpretation.{Interpretation}
use Rattle.script_grammar.specs.Lexeme.{Lexeme}
use Rattle.grammar_parser_specs.specs.Parser.{Recorded, head_of, noted, deep, bad, when, no_room}
use Rattle.grammar_parser_specs.specs.Exprs.{Call, Result as Answer, calls, call_case, begins_call, passing}
use Rattle.parse_exprs.specs.declared.source.Source.{Source}
use Rattle.parse_exprs.specs.declared.place.Cursor.{Cursor}
use Rattle.parse_exprs.specs.declared.place.ParseFault.{ParseFault}
use Rattle.parse_exprs.specs.declared.place.ParseFault.TheVariants as faults
use Rattle.parse_exprs.specs.Answers.{Answers, Refuses, BadAs, DeepAs, records}
use Rattle.parse_exprs.specs.Env.{env_at, body_at}
use Rattle.parse_exprs.specs.Source.{front}
use Rattle.parse_exprs.proofs.Steps.{bad_here, deep_here}

one_less : (depth : ℕ) → depth < 400 → 400 - depth ≡ suc (400 - (depth + 1))
one_less depth h = omega arith

none_left : (depth : ℕ) → 400 ≤ depth → 400 - depth ≡ zero
none_left depth h = omega arith

pub call_inside : (i : Interpretation) (depth : ℕ) (c : Call) (ts : List Lexeme) → depth < 400 → call_case (env_at i (depth + 1)) c ts ≡ (env_at i depth).sub c ts
unfolding env_at calls
call_inside i depth c ts h = ap (λ n. calls (passing (body_at i)) n c ts) (sym (one_less depth h))

pub call_none : (i : Interpretation) (depth : ℕ) (c : Call) (ts : List Lexeme) → 400 ≤ depth → no_room (begins_call c) ts ≡ (env_at i depth).sub c ts
unfolding env_at calls
call_none i depth c ts h = ap (λ n. calls (passing (body_at i)) n c ts) (sym (none_left depth h))

-- what a call answers is what it answers inside
pub answers_inside : {E : Type 0} (i : Interpretation) (depth : ℕ) (c : Call) (gives : E → (Answer c → Type 0) → Type 0) (s : Source) (p : Cursor) (o : Result E ParseFault) (rs : List Recorded) (ts : List Lexeme) → depth < 400
    → Answers gives s i p o rs (call_case (env_at i (depth + 1)) c ts) → Answers gives s i p o rs ((env_at i depth).sub c ts)
answers_inside i depth c gives s p o rs ts h k = subst (λ r. Answers gives s i p o rs r) (call_inside i depth c ts h) k

-- without room
pub refuses_none : (i : Interpretation) (depth : ℕ) (c : Call) (s : Source) (p : Cursor) (b : Bool) → 400 ≤ depth → begins_call c (head_of (front s i p.at)).kind ≡ b
    → Refuses s i p (if b then faults.TooDeep p.at else faults.Unexpected p.at) (records s i p) ((env_at i depth).sub c (front s i p.at))
refuses_none i depth c s p true h e = subst (λ r. DeepAs (records s i p) r (records s i p) (front s i p.at)) (call_none i depth c (front s i p.at) h) (record { is = ap (λ b. noted (records s i p) (when b deep bad (front s i p.at))) e ∙ deep_here (records s i p) (front s i p.at) })
refuses_none i depth c s p false h e = subst (λ r. BadAs (records s i p) r (records s i p) (front s i p.at)) (call_none i depth c (front s i p.at) h) (record { is = ap (λ b. noted (records s i p) (when b deep bad (front s i p.at))) e ∙ bad_here (records s i p) (front s i p.at) })
