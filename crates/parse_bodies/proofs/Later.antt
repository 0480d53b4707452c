-- Scripts whose bodies are passed over and read later.
use Rattle.std.proofs.Common.{◌≡◌, ◌∙◌, ℕ, ◌-◌, ◌+◌, ◌<◌, List, [], ◌∷◌, ◌++◌, map, drop, length, reverse, refl, sym, ap, subst, arith, Result, Ok, Err, false, Option, None, Some}
use Rattle.std.specs.Prelude.{MatchOption, IsErrAnd}
use Rattle.std.proofs.lemmas.Result.{err_from_is_err_and}
use Rattle.std.proofs.lemmas.List.{length-drop, map-append, reverse-append, reverse-reverse, nil_from_length}
use Rattle.script_grammar.specs.Interpretation.{Interpretation}
use Rattle.script_grammar.specs.Shows.{NodeOf}
use Rattle.script_grammar.specs.Lexeme.{Lexeme}
use Rattle.script_grammar.specs.Tree.{Stmts}
use Rattle.script_grammar.specs.Pieces as grammar
use Rattle.script_grammar.specs.Fault.{depth_limit, ScriptPart, Unexpected, TooDeep, FirstFault}
use Rattle.grammar_parser_specs.specs.Parser.{Recorded, Reply, Read, Bad, Deep}
use Rattle.grammar_parser_specs.specs.Exprs.{BodyRead}
use Rattle.grammar_parser_specs.specs.Stmts as pure
use Rattle.grammar_parser_specs.specs.Stmts.{read_script}
use Rattle.grammar_local_laws.proofs.Agrees.{Verdict, fine, bad_at, deep_at, records}
use Rattle.grammar_local_laws.proofs.AgreesScripts.{scripts_agree, silent}
use Rattle.grammar_script_laws.proofs.ScriptLaws.{Reads, ScriptOf, script_read, script_unexpected_by, script_too_deep}
use Rattle.grammar_script_laws.proofs.Closed.{Ended, no_bad_end}
use Rattle.grammar_script_laws.proofs.PassedLaws.{pass_script, passed_is_script}
use Rattle.grammar_script_laws.proofs.Totals.{or_says, own_says, total, judged_bodies, or_fine, pass_body, next_read, next_faulty, total_bad, total_deep, total_fine, no_deep_end}
use Rattle.parse_pending_laws.proofs.Later.{ScriptReading, script_init, script_next, script_done}
use Rattle.parse_exprs.specs.declared.source.Source.{Source}
use Rattle.parse_exprs.specs.declared.place.Cursor.{Cursor}
use Rattle.parse_exprs.specs.declared.place.Pending.{Pending}
use Rattle.parse_exprs.specs.declared.place.ParseFault.{ParseFault}
use Rattle.parse_exprs.specs.declared.place.ParseFault.TheVariants as faults
use Rattle.parse_exprs.specs.Answers.{Answers, recorded, records as records_at}
use Rattle.parse_exprs.specs.Env.{body_at}
use Rattle.parse_exprs.specs.Source.{front, lexemes}
use Rattle.parse_bodies.specs.Blocks.{stmts_at, all_at}
use Rattle.parse_bodies.specs.Means.{BodyOf}
use Rattle.parse_bodies.specs.Whole.{IsWhole, IsText, IsRead, lacks_memory}
use Rattle.parse_bodies.specs.declared.part.BodyNode.{BodyNode}
use Rattle.parse_bodies.specs.declared.whole.Script.{Script}

-- what a result says by itself
abbrev pub said : {B : Type 0} → Source → Interpretation → Result B ParseFault → Verdict
said s i (Ok b) = fine
said s i (Err (faults.Unexpected k)) = bad_at (front s i k)
said s i (Err (faults.TooDeep k)) = deep_at (front s i k)
said s i (Err faults.NoMemory) = fine

-- a fact that is not asked where memory ran out
abbrev pub UnlessMemory : {B : Type 0} → Result B ParseFault → Type 0 → Type 0
UnlessMemory (Err faults.NoMemory) P = Unit {0}
UnlessMemory _ P = P

-- what a node stands for that was made of all statements of the script
abbrev pub IsNode : {B : Type 0} → (B → Stmts → Type 0) → Reply Stmts → Result B ParseFault → Type 0
IsNode shows reply (Ok b) = (ss : Stmts) × (rs : List Recorded) × (us : List Lexeme) × shows b ss × (reply ≡ Read ss rs us)
IsNode shows reply (Err e) = Unit {0}

abbrev pub ahead : Source → Interpretation → List Pending → List Recorded
ahead s i ps = map (recorded s i) ps

pub braced_at : (i : Interpretation) (n : ℕ) → Rattle.script_grammar.specs.Endings.body_ending (body_at i n) ≡ grammar.BracedArrow
braced_at i n = refl

-- the reply of the parser that the code has
abbrev pub script_reply : Source → Interpretation → Reply Stmts
script_reply s i = pass_script (body_at i) (braced_at i) (front s i 0)

-- these nodes are those of the script's bodies, but for the bodies that are still to be read
abbrev pub HasRead : {B : Type 0} → (B → Stmts → Type 0) → Source → Interpretation → Result B ParseFault → List B → List Recorded → Type 0
HasRead shows s i (Ok b) nodes rs = ScriptReading (body_at i) shows (front s i 0) nodes rs
HasRead shows s i (Err e) nodes rs = Unit {0}

-- Of a script's reply this result is known, these nodes were read, and these bodies are still to be read.
pub record Going {B : Type 0} (shows : B → Stmts → Type 0) (s : Source) (i : Interpretation) (top : Result B ParseFault) (nodes : List B) (ps : List Pending) : Type 0 where
  pub says : UnlessMemory top (total (script_reply s i) ≡ or_says (judged_bodies (ahead s i ps)) (said s i top))
  pub node : IsNode shows (script_reply s i) top
  pub read : HasRead shows s i top nodes (ahead s i ps)

script_here : (s : Source) (i : Interpretation) → pure.script_of (stmts_at i 0) (front s i 0) ≡ script_reply s i
unfolding stmts_at all_at
script_here s i = refl

pub none_before : (s : Source) (i : Interpretation) (p : Cursor) → p.pending.items ≡ [] → records_at s i p ≡ []
unfolding records_at
none_before s i p e = ap (map (recorded s i)) e

then_ahead : (s : Source) (i : Interpretation) (p : Cursor) → records_at s i p ≡ ahead s i p.pending.items
unfolding records_at
then_ahead s i p = refl

pub going_init : {B : Type 0} (shows : B → Stmts → Type 0) (s : Source) (i : Interpretation) (old new : Cursor) (top : Result B ParseFault) → old.at ≡ 0 → old.pending.items ≡ []
    → Answers (NodeOf shows) s i new top (records_at s i old) (pure.script_of (stmts_at i 0) (front s i old.at)) → Going shows s i top [] new.pending.items
going_init {B = B} shows s i old new top z e a = by top (subst (λ rs. Answers (NodeOf shows) s i new top rs (script_reply s i)) (none_before s i old e) (subst (λ r. Answers (NodeOf shows) s i new top (records_at s i old) r) (ap (λ k. pure.script_of (stmts_at i 0) (front s i k)) z ∙ script_here s i) a))
  where
    by : (top : Result B ParseFault) → Answers (NodeOf shows) s i new top [] (script_reply s i) → Going shows s i top [] new.pending.items
    by (Ok b) h = let e = h.2.is in record {
      says = ap total e ∙ or_fine _ ∙ ap judged_bodies (then_ahead s i new) ∙ sym (or_fine _);
      node = (h.0, records_at s i new, front s i new.at, h.1, e);
      read = subst (λ rs. ScriptReading (body_at i) shows (front s i 0) [] rs) (then_ahead s i new) (script_init (body_at i) shows (braced_at i) (front s i 0) (front s i new.at) h.0 (records_at s i new) e);
    }
    by (Err (faults.Unexpected k)) h = record { says = ap total h.is ∙ ap (λ rs. or_says (judged_bodies rs) (bad_at (front s i k))) (then_ahead s i new); node = tt; read = tt }
    by (Err (faults.TooDeep k)) h = record { says = ap total h.is ∙ ap (λ rs. or_says (judged_bodies rs) (deep_at (front s i k))) (then_ahead s i new); node = tt; read = tt }
    by (Err faults.NoMemory) h = record { says = tt; node = tt; read = tt }

body_here : (s : Source) (i : Interpretation) (p : Pending) → pure.reading (stmts_at i p.depth) p.form 0 p.simple (front s i p.token) ≡ pass_body (body_at i) (braced_at i) (recorded s i p)
unfolding stmts_at all_at
body_here s i p = refl

-- the next body is read
pub going_read : {B : Type 0} (shows : B → Stmts → Type 0) (s : Source) (i : Interpretation) (new : Cursor) (top : Result B ParseFault) (nodes : List B) (b : BodyNode B) (p : Pending) (rest : List Pending)
    → Answers (BodyOf shows) s i new (Ok b) [] (pure.reading (stmts_at i p.depth) p.form 0 p.simple (front s i p.token)) → Going shows s i top nodes (p ∷ rest) → Going shows s i top (nodes ++ b.node ∷ []) (new.pending.items ++ rest)
going_read {B = B} shows s i new top nodes b p rest a g =
    let e : pass_body (body_at i) (braced_at i) (recorded s i p) ≡ Read (record { body = Rattle.script_grammar.specs.Tree.BracedBody a.0; end = b.end }) (records_at s i new) (front s i new.at) = sym (body_here s i p) ∙ a.2.is in
    let inner : records (pass_body (body_at i) (braced_at i) (recorded s i p)) ++ ahead s i rest ≡ ahead s i (new.pending.items ++ rest) = ap (λ r. records r ++ ahead s i rest) e ∙ ap (λ rs. rs ++ ahead s i rest) (then_ahead s i new) ∙ sym (map-append (recorded s i) new.pending.items rest) in
    record { says = unless top (λ w. next_read (body_at i) (braced_at i) (recorded s i p) (ahead s i rest) w (ap own_says e) ∙ ap (λ rs. or_says (judged_bodies rs) w) inner) g.says; node = g.node; read = next top e inner g.read }
  where
    next : (top : Result B ParseFault) → pass_body (body_at i) (braced_at i) (recorded s i p) ≡ Read (record { body = Rattle.script_grammar.specs.Tree.BracedBody a.0; end = b.end }) (records_at s i new) (front s i new.at)
        → records (pass_body (body_at i) (braced_at i) (recorded s i p)) ++ ahead s i rest ≡ ahead s i (new.pending.items ++ rest) → HasRead shows s i top nodes (ahead s i (p ∷ rest)) → HasRead shows s i top (nodes ++ b.node ∷ []) (ahead s i (new.pending.items ++ rest))
    next (Err fault) e inner h = tt
    next (Ok top) e inner h =
        subst (λ rs. ScriptReading (body_at i) shows (front s i 0) (nodes ++ b.node ∷ []) rs) (sym (ap (λ r. records r ++ ahead s i rest) e) ∙ inner)
        (script_next (body_at i) shows (braced_at i) (front s i 0) (front s i new.at) nodes b.node (recorded s i p) (ahead s i rest) (records_at s i new) a.0 b.end e a.1 h)

    unless : (top : Result B ParseFault) → ((w : Verdict) → or_says (judged_bodies (ahead s i (p ∷ rest))) w ≡ or_says (judged_bodies (ahead s i (new.pending.items ++ rest))) w)
        → UnlessMemory top (total (script_reply s i) ≡ or_says (judged_bodies (ahead s i (p ∷ rest))) (said s i top)) → UnlessMemory top (total (script_reply s i) ≡ or_says (judged_bodies (ahead s i (new.pending.items ++ rest))) (said s i top))
    unless (Ok b) f h = h ∙ f fine
    unless (Err (faults.Unexpected k)) f h = h ∙ f (bad_at (front s i k))
    unless (Err (faults.TooDeep k)) f h = h ∙ f (deep_at (front s i k))
    unless (Err faults.NoMemory) f h = tt

-- what is known where memory did not run out
known : {B : Type 0} (top : Result B ParseFault) (P : Type 0) → lacks_memory top ≡ false → UnlessMemory top P → P
known (Ok b) P e h = h
known (Err (faults.Unexpected k)) P e h = h
known (Err (faults.TooDeep k)) P e h = h
known (Err faults.NoMemory) P e h = absurd (cc)

-- the next body has a fault
pub going_faulty : {B C : Type 0} (shows : B → Stmts → Type 0) (s : Source) (i : Interpretation) (new : Cursor) (top : Result B ParseFault) (nodes later : List B) (fault : ParseFault) (p : Pending) (rest : List Pending) (gives : C → (BodyRead → Type 0) → Type 0)
    → lacks_memory top ≡ false → Answers {E = C} gives s i new (Err fault) [] (pure.reading (stmts_at i p.depth) p.form 0 p.simple (front s i p.token)) → Going shows s i top nodes (p ∷ rest) → Going shows s i (Err fault) later new.pending.items
going_faulty shows s i new top nodes later (faults.Unexpected k) p rest gives m a g =
    let e : pass_body (body_at i) (braced_at i) (recorded s i p) ≡ Bad (records_at s i new) (front s i k) = sym (body_here s i p) ∙ a.is in
    record {
      says = known top _ m g.says ∙ next_faulty (body_at i) (braced_at i) (recorded s i p) (ahead s i rest) (said s i top) (λ f. bad_no_fine (front s i k) (ap own_says (sym e) ∙ f)) ∙ ap (λ r. or_says (judged_bodies (records r)) (own_says r)) e ∙ ap (λ rs. or_says (judged_bodies rs) (bad_at (front s i k))) (then_ahead s i new);
      node = tt;
      read = tt;
    }
  where
    bad_no_fine : (us : List Lexeme) → bad_at us ≡ fine → ⊥
    bad_no_fine us e = cc
going_faulty shows s i new top nodes later (faults.TooDeep k) p rest gives m a g =
    let e : pass_body (body_at i) (braced_at i) (recorded s i p) ≡ Deep (records_at s i new) (front s i k) = sym (body_here s i p) ∙ a.is in
    record {
      says = known top _ m g.says ∙ next_faulty (body_at i) (braced_at i) (recorded s i p) (ahead s i rest) (said s i top) (λ f. deep_no_fine (front s i k) (ap own_says (sym e) ∙ f)) ∙ ap (λ r. or_says (judged_bodies (records r)) (own_says r)) e ∙ ap (λ rs. or_says (judged_bodies rs) (deep_at (front s i k))) (then_ahead s i new);
      node = tt;
      read = tt;
    }
  where
    deep_no_fine : (us : List Lexeme) → deep_at us ≡ fine → ⊥
    deep_no_fine us e = cc
going_faulty shows s i new top nodes later faults.NoMemory p rest gives m a g = record { says = tt; node = tt; read = tt }

-- the place of the token from which these lexemes are
front_place : (s : Source) (i : Interpretation) (k : ℕ) → (front s i k ≡ [] → ⊥) → length (lexemes s i) - length (front s i k) ≡ k
unfolding front
front_place s i k n = by (length-drop k (lexemes s i)) (some (drop k (lexemes s i)) n)
  where
    some : (us : List Lexeme) → (us ≡ [] → ⊥) → 0 < length us
    some [] n = absurd (n refl)
    some (t ∷ us) n = omega arith

    by : length (drop k (lexemes s i)) ≡ length (lexemes s i) - k → 0 < length (drop k (lexemes s i)) → length (lexemes s i) - length (drop k (lexemes s i)) ≡ k
    by e h = omega (arith, e, h)

all_front : (s : Source) (i : Interpretation) → front s i 0 ≡ lexemes s i
unfolding front
all_front s i = refl

text_of : (ts : List Lexeme) (items : Stmts) → ScriptOf ts items → IsText ts items
text_of ts items h = record { inner = h.inner; end = h.last; split = h.split; ends = h.ends; script = h.is; shallow = h.shallow }

-- no body is to be read any more

-- a script that is read is so read by the parser that reads bodies in place
read_in_place : (s : Source) (i : Interpretation) (items : Stmts) (h : ScriptOf (lexemes s i) items) → read_script depth_limit (front s i 0) ≡ Read items [] (h.last ∷ [])
read_in_place s i items h = silent (scripts_agree (body_at i) (braced_at i) depth_limit) (front s i 0) ∙ ap (λ us. Rattle.grammar_parser_laws.proofs.Complete.bare (read_script depth_limit us)) (all_front s i) ∙ script_read (lexemes s i) items h

pub going_listed : {B : Type 0} (shows : B → Stmts → Type 0) (s : Source) (i : Interpretation) (script : Script B) → Ended (lexemes s i) → Going shows s i (Ok script.top) script.bodies.items [] → IsRead i shows s script
going_listed shows s i script ended g =
    let ts = lexemes s i in
    let here : pass_script (body_at i) (braced_at i) ts ≡ script_reply s i = ap (pass_script (body_at i) (braced_at i)) (sym (all_front s i)) in
    let clean = total_fine (script_reply s i) g.says in
    let p = passed_is_script (body_at i) (braced_at i) ts g.node.2 g.node.0 g.node.1 ended (ap Rattle.grammar_script_laws.proofs.PassedLaws.verdict here ∙ clean) (here ∙ g.node.4) in
    record {
      items = p.tree;
      is = text_of ts p.tree p.is;
      top = subst (shows script.top) p.same g.node.3;
      bodies = script_done (body_at i) shows (front s i 0) (p.is.last ∷ []) script.bodies.items p.tree (read_in_place s i p.tree p.is) g.read;
    }

pub going_refused : {B : Type 0} (shows : B → Stmts → Type 0) (s : Source) (i : Interpretation) (e : ParseFault) (nodes : List B) → Ended (lexemes s i) → Going {B = B} shows s i (Err e) nodes [] → IsWhole {B = B} i shows s (Err e)
going_refused shows s i (faults.Unexpected k) nodes ended g =
    let ts = lexemes s i in
    let reads : Reads ts ≡ Bad [] (front s i k) = total_bad (body_at i) (braced_at i) ts (front s i k) (ap (λ us. total (pass_script (body_at i) (braced_at i) us)) (sym (all_front s i)) ∙ g.says) in
    subst (λ n. FirstFault (ScriptPart grammar.whole 0) ts n Unexpected) (front_place s i k (λ none. no_bad_end ts ended.closed (reads ∙ ap (Bad []) none))) (script_unexpected_by ts (front s i k) (no_bad_end ts ended.closed) reads)
going_refused shows s i (faults.TooDeep k) nodes ended g =
    let ts = lexemes s i in
    let reads : Reads ts ≡ Deep [] (front s i k) = total_deep (body_at i) (braced_at i) ts (front s i k) (ap (λ us. total (pass_script (body_at i) (braced_at i) us)) (sym (all_front s i)) ∙ g.says) in
    subst (λ n. FirstFault (ScriptPart grammar.whole 0) ts n TooDeep) (front_place s i k (λ none. no_deep_end ts (reads ∙ ap (Deep []) none))) (script_too_deep ts (front s i k) reads)
going_refused shows s i faults.NoMemory nodes ended g = tt

-- What is still to be read: the bodies that the last part passed over, and after them those that wait, the last one first.

pub next_ahead : (ps ws reversed joined now : List Pending) (next : Pending) → reversed ≡ reverse ps → joined ≡ ws ++ reversed → joined ≡ now ++ next ∷ [] → ps ++ reverse ws ≡ next ∷ reverse now
next_ahead ps ws reversed joined now next r j e =
    ap (λ x. x ++ reverse ws) (sym (reverse-reverse ps)) ∙ sym (reverse-append ws (reverse ps)) ∙ ap reverse (ap (λ x. ws ++ x) (sym r) ∙ sym j ∙ e) ∙ reverse-append now (next ∷ [])

pub none_ahead : (ps ws reversed joined : List Pending) → reversed ≡ reverse ps → joined ≡ ws ++ reversed → length joined ≡ 0 → ps ++ reverse ws ≡ []
none_ahead ps ws reversed joined r j e =
    ap (λ x. x ++ reverse ws) (sym (reverse-reverse ps)) ∙ sym (reverse-append ws (reverse ps)) ∙ ap reverse (ap (λ x. ws ++ x) (sym r) ∙ sym j ∙ nil_from_length joined e)

-- nothing was taken from a list, so it is empty
pub none_taken : (r : Option Pending) (n m : ℕ) → MatchOption r ((n ≡ 0) × (m ≡ 0)) (λ _. m + 1 ≡ n) → ((x : Pending) → r ≡ Some x → ⊥) → n ≡ 0
none_taken None n m e h = e.0
none_taken (Some x) n m e h = absurd (h x refl)

-- an error is handed on
pub handed_on : {B : Type 0} (shows : B → Stmts → Type 0) (s : Source) (i : Interpretation) (e : ParseFault) (o : Result (Script B) ParseFault) → IsErrAnd o (λ y. y ≡ e) → IsWhole {B = B} i shows s (Err e) → IsWhole i shows s o
handed_on shows s i e o h k = let x = err_from_is_err_and o h in subst (IsWhole i shows s) (ap Err (sym x.2) ∙ sym x.1) k
