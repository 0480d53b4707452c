-- Parsers as functions on lists of lexemes: this project's own choice of combinators.
use Rattle.std.specs.Prelude.{ℕ, zero, suc, List, [], ◌∷◌, ◌++◌, length, Bool, true, false}
use Rattle.script_grammar.specs.declared.token.Kind.{Kind}
use Rattle.script_grammar.specs.declared.token.Kind.TheVariants as kind
use Rattle.script_grammar.specs.declared.token.FuncForm.{FuncForm}
use Rattle.script_grammar.specs.Lexeme.{Lexeme, no_role}

-- A function body that was passed over, to be read later: of which form its function is, how much room for depth is
-- left in it, whether no parameter has an initializer or a rest mark, and the lexemes from its brace on.
pub record Recorded : Type 0 where
  pub form : FuncForm
  pub room : ℕ
  pub simple : Bool
  pub from : List Lexeme

-- What was read and the lexemes after it, or the lexemes from the fault on: one that cannot stand there, or one that
-- is too deep. Each with the bodies that were passed over before, in their order.
pub data Reply (A : Type 0) : Type 0 where
  Read : A → List Recorded → List Lexeme → Reply A
  Bad : List Recorded → List Lexeme → Reply A
  Deep : List Recorded → List Lexeme → Reply A

abbrev pub Parser : Type 0 → Type 0
Parser A = List Lexeme → Reply A

-- a lexeme that ends all
abbrev pub end_lexeme : Lexeme
end_lexeme = record { kind = kind.End; text = []; number = 0; role = no_role; start = 0; end = 0; after_line = false }

-- the first lexeme, or one that ends all
abbrev pub head_of : List Lexeme → Lexeme
head_of [] = end_lexeme
head_of (t ∷ ts) = t

abbrev pub rest_of : List Lexeme → List Lexeme
rest_of [] = []
rest_of (t ∷ ts) = ts

abbrev pub put_before : {A : Type 0} → List Recorded → Reply A → Reply A
put_before rs (Read a qs ts) = Read a (rs ++ qs) ts
put_before rs (Bad qs ts) = Bad (rs ++ qs) ts
put_before rs (Deep qs ts) = Deep (rs ++ qs) ts

-- the reply with these bodies recorded before its own
abbrev pub noted : {A : Type 0} → List Recorded → Reply A → Reply A
noted [] r = r
noted (b ∷ bs) r = put_before (b ∷ bs) r

abbrev pub after : {A B : Type 0} → Reply A → (A → Parser B) → Reply B
after (Read a rs ts) f = noted rs (f a ts)
after (Bad rs ts) f = Bad rs ts
after (Deep rs ts) f = Deep rs ts

abbrev pub ret : {A : Type 0} → A → Parser A
ret a ts = Read a [] ts

abbrev pub bad : {A : Type 0} → Parser A
bad ts = Bad [] ts

abbrev pub deep : {A : Type 0} → Parser A
deep ts = Deep [] ts

abbrev pub bind : {A B : Type 0} → Parser A → (A → Parser B) → Parser B
bind m f ts = after (m ts) f

-- looks at the first lexeme
abbrev pub peek : {A : Type 0} → (Lexeme → Parser A) → Parser A
peek f ts = f (head_of ts) ts

-- goes past the first lexeme
abbrev pub step : {A : Type 0} → Parser A → Parser A
step f ts = f (rest_of ts)

-- the one or the other
abbrev pub when : {A : Type 0} → Bool → Parser A → Parser A → Parser A
when true f g = f
when false f g = g

-- records that a body begins here, which is passed over next
abbrev pub note : FuncForm → ℕ → Bool → Parser (Unit {0})
note form room simple ts = Read tt (record { form = form; room = room; simple = simple; from = ts } ∷ []) ts

-- without room for depth: what begins as these kinds of lexemes do is too deep
abbrev pub no_room : {A : Type 0} → (Kind → Bool) → Parser A
no_room begins = peek (λ t. when (begins t.kind) deep bad)

-- one turn of a loop: goes on with an item, or stops
pub data Turn (A B : Type 0) : Type 0 where
  Again : A → Turn A B
  Stop : B → Turn A B

-- what a loop read: its items, and how it stopped
pub record Many (A B : Type 0) : Type 0 where
  pub items : List A
  pub last : B

abbrev pub stopped : {A B : Type 0} → B → Many A B
stopped b = record { items = []; last = b }

abbrev pub begun : {A B : Type 0} → A → Many A B → Many A B
begun a m = record { items = a ∷ m.items; last = m.last }

abbrev pub turned : {A B : Type 0} → Parser (Many A B) → Turn A B → Parser (Many A B)
turned f (Again a) = bind f (λ m. ret (begun a m))
turned f (Stop b) = ret (stopped b)

-- at most n turns
unfoldable pub turns : {A B : Type 0} → Parser (Turn A B) → ℕ → Parser (Many A B)
turns turn zero = bad
turns turn (suc n) = bind turn (turned (turns turn n))

-- turns until one stops, each of which reads a lexeme
unfoldable pub loop : {A B : Type 0} → Parser (Turn A B) → Parser (Many A B)
loop turn ts = turns turn (suc (length ts)) ts

-- a loop after its first item
abbrev pub led : {A B : Type 0} → Parser (Turn A B) → A → Parser (Many A B)
led turn a = bind (loop turn) (λ m. ret (begun a m))
