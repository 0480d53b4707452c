-- All calls of the parser of scripts look at no lexeme after the place where they stop, with whatever room for depth; so do
-- the parser of scripts, and that of a function alone.
use Rattle.std.proofs.Common.{◌≡◌, ℕ, zero, suc, List, [], ◌∷◌, length, sym, ap, ◌∙◌, arith, Bool, true}
use Rattle.script_grammar.specs.declared.token.FuncForm.{FuncForm}
use Rattle.script_grammar.specs.Lexeme.{Lexeme}
use Rattle.script_grammar.specs.Kinds.{is_name}
use Rattle.script_grammar.specs.Endings.{ending}
use Rattle.script_grammar.specs.Tree.{Named, Expr, Stmt, Stmts}
use Rattle.script_grammar.specs.Tree as tree
use Rattle.script_grammar.specs.Pieces.{Bodies, whole}
use Rattle.grammar_parser_specs.specs.Parser.{Read, Deep, Parser, after, ret, bad, deep, bind, step, when, no_room, loop}
use Rattle.grammar_parser_specs.specs.Exprs.{Env, BodyParser, AnAssign, name_of, named, expr_of, more_turn, comma_case, begins_assign}
use Rattle.grammar_parser_specs.specs.Stmts as parser
use Rattle.grammar_parser_specs.specs.Stmts.{Place, StmtCalls, Block, All, env_of, block_of, all_case}
use Rattle.grammar_parser_laws.proofs.Tests.{name_known}
use Rattle.grammar_parser_laws.proofs.Local.{Local, Same, out, kept, left, grown, after_shorter, local_ret, local_bind, local_loop, local_no_room, Eats, eats_no_room}
use Rattle.grammar_local_laws.proofs.LocalExprs.{LocalEnv, expr_local, expr_eats, function_local, more_turn_local, more_turn_gains}
use Rattle.grammar_local_laws.proofs.LocalCalls.{LocalRoom, case_room, no_room_calls, no_room_name, name_eats, assign_end}
use Rattle.grammar_local_laws.proofs.LocalStmts.{LocalUses, LocalStmts, LocalBlock, local_name, local_semi, local_stmt, eats_stmt, local_reading, local_script}
use Rattle.grammar_parser_laws.proofs.SoundParts.{SoundEnv, SoundBody}
use Rattle.grammar_sound_laws.proofs.SoundStmtLists.{SoundStmts}
use Rattle.grammar_sound_laws.proofs.SoundEverything.{SoundAll, everything_sound, reading_sound}

-- a label's name, or an expression statement of a name alone
abbrev LoneName : Env → Parser Named → Type 0
LoneName v label = (t : Lexeme) (q : List Lexeme) → is_name t.kind ≡ true → (f : Named → Parser Stmt) → ((n : Named) → Local (f n)) → Same q (parser.value_stmt v (t ∷ [])) (bind label f (t ∷ q))

pub record LocalAll (body : BodyParser) (a : All) : Type 0 where
  pub room : LocalRoom (env_of body a)
  pub stmts : LocalStmts a.stmts
  pub label : Local a.label
  pub label_eats : Eats a.label
  pub lone : LoneName (env_of body a) a.label

semi_behind : (e : Expr) → Local (bind (parser.semi_of (ending e)) (λ b. ret (tree.Value e b)))
semi_behind e = local_bind (local_semi (ending e)) (λ b. local_ret (tree.Value e b))

-- where no room is left

deep_value : (v : Env) (t : Lexeme) → v.sub (AnAssign true) (t ∷ []) ≡ Deep [] (t ∷ []) → parser.value_stmt v (t ∷ []) ≡ Deep [] (t ∷ [])
unfolding parser.value_stmt expr_of
deep_value v t e = ap (λ r. after (after r (λ x. bind (loop (more_turn v true)) (λ m. ret (comma_case x m.items)))) (λ x. bind (parser.semi_of (ending x)) (λ b. ret (tree.Value x b)))) e

deep_label : (t : Lexeme) (q : List Lexeme) (f : Named → Parser Stmt) → is_name t.kind ≡ true → bind (no_room {A = Named} is_name) f (t ∷ q) ≡ Deep [] (t ∷ q)
deep_label t q f e = ap (λ b. after (when b deep bad (t ∷ q)) f) e

no_room_lone : (body : BodyParser) → LoneName (env_of body parser.nothing_left) (no_room is_name)
no_room_lone body t q e f l = kept (deep_label t q f e ∙ ap (λ r. grown q r) (sym (deep_value (env_of body parser.nothing_left) t (no_room_name (AnAssign true) t [] (ap begins_assign (name_known t.kind e))))))

-- where a name is read

value_left : (v : Env) (l : LocalEnv v) (t : Lexeme) → length (left (v.sub (AnAssign true) (t ∷ []))) ≡ 0 → length (left (parser.value_stmt v (t ∷ []))) ≡ 0
unfolding parser.value_stmt expr_of
value_left v l t e =
    let rest : Expr → Parser Expr = λ x. bind (loop (more_turn v true)) (λ m. ret (comma_case x m.items)) in
    let semi : Expr → Parser Stmt = λ x. bind (parser.semi_of (ending x)) (λ b. ret (tree.Value x b)) in
    omega (arith, e, after_shorter semi semi_behind (after (v.sub (AnAssign true) (t ∷ [])) rest), after_shorter rest (λ x. local_bind (local_loop (more_turn_local v l true) (more_turn_gains v l true)) (λ m. local_ret (comma_case x m.items))) (v.sub (AnAssign true) (t ∷ [])))

name_read : (t : Lexeme) (q : List Lexeme) → is_name t.kind ≡ true → name_of (t ∷ q) ≡ Read (named t) [] q
unfolding name_of
name_read t q e = ap (λ b. when b (step (ret (named t))) bad (t ∷ q)) e

read_lone : (v : Env) (l : LocalEnv v) → ((t : Lexeme) → is_name t.kind ≡ true → length (left (v.sub (AnAssign true) (t ∷ []))) ≡ 0) → LoneName v name_of
read_lone v l h t q e f lf = out (value_left v l t (h t e)) (omega (arith, after_shorter f lf (name_of (t ∷ q)), ap (λ r. length (left r)) (name_read t q e)))

-- all calls

uses_local : (v : Env) → LocalEnv v → LocalUses v
uses_local v l = record {
  assign = λ w. l.at (AnAssign w);
  expr = λ w. expr_local v l w;
  expr_eats = λ w. expr_eats v l w;
  function = λ f n. function_local v l f n;
}

block_local : (body : BodyParser) (a : All) → LocalAll body a → LocalBlock (block_of body a)
block_local body a l = record { uses = uses_local (env_of body a) l.room.env; stmts = l.stmts; label = l.label; label_eats = l.label_eats; lone = l.lone }

no_stmts_local : LocalStmts parser.no_stmts
no_stmts_local = record { at = λ p. local_no_room (parser.begins_stmt p); eats = λ p. eats_no_room (parser.begins_stmt p) }

case_stmts : (body : BodyParser) (a : All) → LocalAll body a → LocalStmts (all_case body a).stmts
case_stmts body a l = record { at = λ p. local_stmt (block_of body a) (block_local body a l) p; eats = λ p. eats_stmt (block_of body a) (block_local body a l) p }

all_case_local : (m : Bodies) (body next : BodyParser) (a : All) → LocalAll body a → SoundEnv m 1 (env_of body a) → ((f : FuncForm) (start : ℕ) (simple : Bool) → Local (next f start simple)) → LocalAll next (all_case body a)
all_case_local m body next a l s h =
    let r = case_room (env_of body a) l.room m 0 s next h in
    record {
      room = r;
      stmts = case_stmts body a l;
      label = local_name;
      label_eats = name_eats;
      lone = read_lone (env_of next (all_case body a)) r.env (λ t e. assign_end (env_of body a) true t e);
    }

-- Where bodies are read so that it looks at nothing after, over such statements, everything does.
pub everything_local : (m : Bodies) (body : ℕ → StmtCalls → BodyParser) → ((room d : ℕ) (stmt : StmtCalls) → SoundStmts m d stmt → SoundBody m d (body room stmt)) → ((room : ℕ) (stmt : StmtCalls) → LocalStmts stmt → (f : FuncForm) (start : ℕ) (simple : Bool) → Local (body room stmt f start simple)) → (room : ℕ) → LocalAll (body room (parser.everything body room).stmts) (parser.everything body room)
unfolding parser.everything
everything_local m body b h zero = record {
  room = no_room_calls (body zero parser.no_stmts) (h zero parser.no_stmts no_stmts_local);
  stmts = no_stmts_local;
  label = local_no_room is_name;
  label_eats = eats_no_room is_name;
  lone = no_room_lone (body zero parser.no_stmts);
}
everything_local m body b h (suc room) =
    let below : All = parser.everything body room in
    let inner : BodyParser = body room below.stmts in
    let l : LocalAll inner below = everything_local m body b h room in
    let s : SoundAll m 1 below = everything_sound m body b room 1 in
    all_case_local m inner (body (suc room) (all_case inner below).stmts) below l (record { calls = s.exprs; body = b room 1 below.stmts s.stmts }) (h (suc room) (all_case inner below).stmts (case_stmts inner below l))

pub in_place_local : (room : ℕ) → LocalAll (parser.reading (parser.everything parser.in_place room).stmts) (parser.everything parser.in_place room)
in_place_local room = everything_local whole parser.in_place (λ room2 d stmt s. reading_sound d stmt s) (λ room2 stmt l f start simple. local_reading stmt l f start simple) room

pub read_script_local : (room : ℕ) → Local (parser.read_script room)
read_script_local room = local_script (parser.everything parser.in_place room).stmts (in_place_local room).stmts
