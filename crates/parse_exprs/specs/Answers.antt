-- What the code of the parser answers, beside what the parser on lists of lexemes answers.
use Rattle.std.specs.Prelude.{◌-◌, List, map, ◌≡◌, Result, Ok, Err}
use Rattle.script_grammar.specs.Fault.{depth_limit}
use Rattle.script_grammar.specs.Lexeme.{Lexeme}
use Rattle.script_grammar.specs.Interpretation.{Interpretation}
use Rattle.grammar_parser_specs.specs.Parser.{Recorded, Reply, Read, Bad, Deep, Parser, noted}
use Rattle.parse_exprs.specs.declared.source.Source.{Source}
use Rattle.parse_exprs.specs.declared.place.Cursor.{Cursor}
use Rattle.parse_exprs.specs.declared.place.Pending.{Pending}
use Rattle.parse_exprs.specs.declared.place.ParseFault.{ParseFault}
use Rattle.parse_exprs.specs.declared.place.ParseFault.TheVariants as faults
use Rattle.parse_exprs.specs.Source.{front}

-- a body that was passed over
abbrev pub recorded : Source → Interpretation → Pending → Recorded
recorded s i p = record { form = p.form; room = depth_limit - p.depth; simple = p.simple; from = front s i p.token }

-- the bodies that were passed over up to a place
unfoldable pub records : Source → Interpretation → Cursor → List Recorded
records s i p = map (recorded s i) p.pending.items

-- With these bodies recorded before, the reply is: so much was read, and then these bodies are recorded and these lexemes
-- stand after it; or it is a fault.

pub record ReadAs {A : Type 0} (rs : List Recorded) (reply : Reply A) (a : A) (qs : List Recorded) (us : List Lexeme) : Type 0 where
  pub is : noted rs reply ≡ Read a qs us

pub record BadAs {A : Type 0} (rs : List Recorded) (reply : Reply A) (qs : List Recorded) (us : List Lexeme) : Type 0 where
  pub is : noted rs reply ≡ Bad qs us

pub record DeepAs {A : Type 0} (rs : List Recorded) (reply : Reply A) (qs : List Recorded) (us : List Lexeme) : Type 0 where
  pub is : noted rs reply ≡ Deep qs us

-- the fault of the code is that of the reply, unless memory ran out
abbrev pub Refuses : {A : Type 0} → Source → Interpretation → Cursor → ParseFault → List Recorded → Reply A → Type 0
Refuses s i p (faults.Unexpected k) rs reply = BadAs rs reply (records s i p) (front s i k)
Refuses s i p (faults.TooDeep k) rs reply = DeepAs rs reply (records s i p) (front s i k)
Refuses s i p faults.NoMemory rs reply = Unit {0}

-- What the code answered is the reply, unless memory ran out: p is the place where it stands then, and `gives e k` says that
-- e stands for some value of which the fact k holds.
abbrev pub Answers : {E A : Type 0} → (E → (A → Type 0) → Type 0) → Source → Interpretation → Cursor → Result E ParseFault → List Recorded
    → Reply A → Type 0
Answers gives s i p (Ok e) rs reply = gives e (λ a. ReadAs rs reply a (records s i p) (front s i p.at))
Answers gives s i p (Err e) rs reply = Refuses s i p e rs reply

-- The same of what is read from a place on, up to another.
abbrev pub Reads : {E A : Type 0} → (E → (A → Type 0) → Type 0) → Parser A → Source → Interpretation → Cursor → Cursor → Result E ParseFault → Type 0
Reads gives f s i old new result = Answers gives s i new result (records s i old) (f (front s i old.at))

-- what was made of nodes, unless memory ran out
abbrev pub Makes : {E : Type 0} → Result E ParseFault → (E → Type 0) → Type 0
Makes (Ok e) P = P e
Makes (Err faults.NoMemory) P = Unit {0}
Makes (Err _) P = ⊥
