-- What a tree is written with: places for tokens, and semicolons that are not written.
use Rattle.std.specs.Prelude.{ℕ, List, [], ◌∷◌, ◌++◌, Bool, true, false, not, ◌&&◌, ◌||◌, ◌≡◌, Option, Some, None, if◌then◌else◌, nat_eq}
use Rattle.std.specs.Prelude.{length, replicate}
use Rattle.script_grammar.specs.declared.token.Kind.{Kind}
use Rattle.script_grammar.specs.declared.token.Kind.TheVariants as kind
use Rattle.script_grammar.specs.declared.token.mark.TheConstants as mark
use Rattle.script_grammar.specs.Lexeme.{Lexeme, Role}
use Rattle.script_grammar.specs.Kinds.{is_mark, is_any_word, is_end, is_whole, is_head, is_binary, is_assign_mark}
use Rattle.script_grammar.specs.Tree.{Named}

-- the kind of token that stands at a place: this one, or any name or word
pub data Wanted : Type 0 where
  Exactly : Kind → Wanted
  AnyWord : Wanted

-- what else the tree says of the token: its text, its number, or that it is `get` or `set`
pub data Content : Type 0 where
  nothing : Content
  text : List ℕ → Content
  number : ℕ → Content
  role : Role → Content

-- A place for a token. `starts` are the offsets of its start that the tree keeps, and `ends` are those of its end.
-- `glued` says that no line end stands before it. `depth` is the number of counted nodes around it.
pub record Slot : Type 0 where
  pub kind : Wanted
  pub content : Content
  pub starts : List ℕ
  pub ends : List ℕ
  pub glued : Bool
  pub depth : ℕ

-- How a statement ends whose semicolon is not written. That decides which tokens would continue it, by this project's own
-- table, which restates automatic semicolon insertion (ECMA-262, 12th edition, clause 12.9).
pub data Ending : Type 0 where
  -- an expression whose last part is an arrow with a braced body
  BracedArrow : Ending
  -- an expression whose last part is a postfix `++` or `--`
  Postfix : Ending
  -- another expression
  Operand : Ending
  -- a binding without initializer
  BareBinding : Ending
  -- `return`, `break` or `continue` with nothing after, a label, or `debugger`
  Keyword : Ending
  -- the parenthesis of a do-while
  DoWhile : Ending

-- How the braced bodies of functions are looked at: as statements, or as any tokens whose brackets match.
pub data Bodies : Type 0 where
  whole : Bodies
  passed : Bodies

-- a token's place, a semicolon that is not written, or any tokens whose brackets match
pub data Piece : Type 0 where
  At : Slot → Piece
  Gap : Ending → Piece
  Pass : Piece

-- tokens that continue an expression whose last part is a postfix operator
abbrev pub continues_postfix : Kind → Bool
continues_postfix k = is_mark mark.COMMA k || is_mark mark.QUESTION k || is_binary k

-- tokens that continue a statement with this ending
abbrev pub continues : Ending → Kind → Bool
continues BracedArrow k = is_mark mark.COMMA k
continues Postfix k = continues_postfix k
continues Operand k =
    is_mark mark.OPEN_PAREN k || is_mark mark.OPEN_BRACKET k || is_mark mark.DOT k || continues_postfix k
    || is_whole k || is_head k || is_assign_mark k
continues BareBinding k = is_mark mark.ASSIGN k || is_mark mark.COMMA k
continues Keyword k = false
continues DoWhile k = false

abbrev pub is_do_while : Ending → Bool
is_do_while DoWhile = true
is_do_while _ = false

-- A semicolon may be left out before this token. A `;` is always the written one.
abbrev pub may_omit : Ending → Lexeme → Bool
may_omit e t = not (is_mark mark.SEMICOLON t.kind)
    && (is_mark mark.CLOSE_BRACE t.kind || is_end t.kind || is_do_while e || (t.after_line && not (continues e t.kind)))

-- A token at a place.

abbrev pub IsWanted : Wanted → Kind → Type 0
IsWanted (Exactly k) j = j ≡ k
IsWanted AnyWord j = is_any_word j ≡ true

abbrev pub Has : Content → Lexeme → Type 0
Has nothing t = Unit {0}
Has (text w) t = t.text ≡ w
Has (number n) t = t.number ≡ n
Has (role r) t = t.role ≡ r

abbrev pub AllAre : List ℕ → ℕ → Type 0
AllAre [] n = Unit {0}
AllAre (e ∷ es) n = (n ≡ e) × AllAre es n

pub record Is (s : Slot) (t : Lexeme) : Type 0 where
  pub kind : IsWanted s.kind t.kind
  pub content : Has s.content t
  pub starts : AllAre s.starts t.start
  pub ends : AllAre s.ends t.end
  pub line : s.glued ≡ true → t.after_line ≡ false

-- Tokens whose brackets match, by the brackets that are open.

pub data Opener : Type 0 where
  paren : Opener
  bracket : Opener
  brace : Opener
  template : Opener

abbrev pub closes : Opener → Opener → Bool
closes paren paren = true
closes bracket bracket = true
closes brace brace = true
closes template template = true
closes _ _ = false

-- what is open after a token that closes this bracket
abbrev pub closed : Opener → List Opener → Option (List Opener)
closed o [] = None
closed o (p ∷ ps) = if closes o p then Some ps else None

-- a TemplateMiddle closes and opens again
abbrev pub reopened : List Opener → Option (List Opener) → Option (List Opener)
reopened open_now None = None
reopened open_now (Some ps) = Some open_now

abbrev pub mark_opens : ℕ → List Opener → Option (List Opener)
mark_opens i ps =
    if nat_eq i mark.OPEN_PAREN then Some (paren ∷ ps) else
    if nat_eq i mark.CLOSE_PAREN then closed paren ps else
    if nat_eq i mark.OPEN_BRACKET then Some (bracket ∷ ps) else
    if nat_eq i mark.CLOSE_BRACKET then closed bracket ps else
    if nat_eq i mark.OPEN_BRACE then Some (brace ∷ ps) else
    if nat_eq i mark.CLOSE_BRACE then closed brace ps else Some ps

-- the brackets that are open after a token, or none where it closes what is not open, or is no token of a text
abbrev pub open_behind : Kind → List Opener → Option (List Opener)
open_behind (kind.Mark i) ps = mark_opens i ps
open_behind kind.TemplateHead ps = Some (template ∷ ps)
open_behind kind.TemplateMiddle ps = reopened ps (closed template ps)
open_behind kind.TemplateTail ps = closed template ps
open_behind kind.Bad ps = None
open_behind kind.End ps = None
open_behind _ ps = Some ps

-- the brackets that are open after these tokens
abbrev pub open_at_end : List Opener → List Lexeme → Option (List Opener)
open_at_end ps [] = Some ps
open_at_end ps (t ∷ ts) = elim (open_behind t.kind ps) [ None ↦ None | Some qs ↦ open_at_end qs ts ]

abbrev pub IsBalanced : List Lexeme → Type 0
IsBalanced ts = open_at_end [] ts ≡ Some []

-- Tokens that stand at these places, in front of a token that follows them.
abbrev pub Fits : List Piece → List Lexeme → Lexeme → Type 0
Fits [] [] n = Unit {0}
Fits [] (t ∷ ts) n = ⊥
Fits (At s ∷ ps) [] n = ⊥
Fits (At s ∷ ps) (t ∷ ts) n = Is s t × Fits ps ts n
Fits (Gap e ∷ ps) [] n = (may_omit e n ≡ true) × Fits ps [] n
Fits (Gap e ∷ ps) (t ∷ ts) n = (may_omit e t ≡ true) × Fits ps (t ∷ ts) n
Fits (Pass ∷ ps) ts n = (u : List Lexeme) × (v : List Lexeme) × (ts ≡ u ++ v) × IsBalanced u × Fits ps v n

-- The depth of each token of these; one that is passed over has none.
abbrev pub depths : (ps : List Piece) (ts : List Lexeme) (n : Lexeme) → Fits ps ts n → List ℕ
depths [] [] n f = []
depths [] (t ∷ ts) n f = []
depths (At s ∷ ps) [] n f = []
depths (At s ∷ ps) (t ∷ ts) n f = s.depth ∷ depths ps ts n f.1
depths (Gap e ∷ ps) [] n f = depths ps [] n f.1
depths (Gap e ∷ ps) (t ∷ ts) n f = depths ps (t ∷ ts) n f.1
depths (Pass ∷ ps) ts n f = replicate (length f.0) 0 ++ depths ps f.1 n f.4

-- Pieces that a tree is put together from; the last number of each is the depth.

abbrev pub slot : Kind → ℕ → Slot
slot k d = record { kind = Exactly k; content = nothing; starts = []; ends = []; glued = false; depth = d }

abbrev pub mark_piece : ℕ → ℕ → Piece
mark_piece i d = At (slot (kind.Mark i) d)

abbrev pub word_piece : ℕ → ℕ → Piece
word_piece i d = At (slot (kind.Word i) d)

abbrev pub glued_mark : ℕ → ℕ → Piece
glued_mark i d = At (record { kind = Exactly (kind.Mark i); content = nothing; starts = []; ends = []; glued = true; depth = d })

-- a token whose start the tree keeps
abbrev pub placed : Kind → ℕ → ℕ → Piece
placed k at d = At (record { kind = Exactly k; content = nothing; starts = at ∷ []; ends = []; glued = false; depth = d })

abbrev pub closing_mark : ℕ → ℕ → ℕ → Piece
closing_mark i end d = At (record { kind = Exactly (kind.Mark i); content = nothing; starts = []; ends = end ∷ []; glued = false; depth = d })

abbrev pub number_piece : ℕ → ℕ → ℕ → Piece
number_piece at value d = At (record { kind = Exactly kind.Number; content = number value; starts = at ∷ []; ends = []; glued = false; depth = d })

abbrev pub str_piece : ℕ → ℕ → List ℕ → ℕ → Piece
str_piece at end w d = At (record { kind = Exactly kind.Str; content = text w; starts = at ∷ []; ends = end ∷ []; glued = false; depth = d })

-- a token of this kind with this text, whose start the tree keeps
abbrev pub text_piece : Kind → List ℕ → ℕ → ℕ → Piece
text_piece k w at d = At (record { kind = Exactly k; content = text w; starts = at ∷ []; ends = []; glued = false; depth = d })

-- the same where the tree does not keep its start
abbrev pub template_piece : Kind → List ℕ → ℕ → Piece
template_piece k w d = At (record { kind = Exactly k; content = text w; starts = []; ends = []; glued = false; depth = d })

abbrev pub name_piece : Named → ℕ → Piece
name_piece n d = text_piece kind.Name n.text n.at d

abbrev pub glued_name : Named → ℕ → Piece
glued_name n d = At (record { kind = Exactly kind.Name; content = text n.text; starts = n.at ∷ []; ends = []; glued = true; depth = d })

-- a name or a word as a property's name, whose start the tree may keep
abbrev pub any_word : List ℕ → List ℕ → ℕ → Piece
any_word starts w d = At (record { kind = AnyWord; content = text w; starts = starts; ends = []; glued = false; depth = d })

-- the name that begins an accessor
abbrev pub role_piece : Role → ℕ → Piece
role_piece r d = At (record { kind = Exactly kind.Name; content = role r; starts = []; ends = []; glued = false; depth = d })

-- the first of these starts at this offset too
abbrev pub from : ℕ → List Piece → List Piece
from n [] = []
from n (At s ∷ ps) = At (record s { starts = n ∷ s.starts }) ∷ ps
from n (Gap e ∷ ps) = Gap e ∷ ps
from n (Pass ∷ ps) = Pass ∷ ps

-- no line end stands before the first of these
abbrev pub glue : List Piece → List Piece
glue [] = []
glue (At s ∷ ps) = At (record s { glued = true }) ∷ ps
glue (Gap e ∷ ps) = Gap e ∷ ps
glue (Pass ∷ ps) = Pass ∷ ps

-- a piece that ends at this offset too
abbrev pub ending_at : ℕ → Piece → Piece
ending_at n (At s) = At (record s { ends = n ∷ s.ends })
ending_at n (Gap e) = Gap e
ending_at n Pass = Pass

-- the last of these ends at this offset too
abbrev pub until : ℕ → List Piece → List Piece
until n [] = []
until n (p ∷ []) = ending_at n p ∷ []
until n (p ∷ q ∷ ps) = p ∷ until n (q ∷ ps)

-- a comma, if there is one
abbrev pub comma_piece : Bool → ℕ → List Piece
comma_piece true d = mark_piece mark.COMMA d ∷ []
comma_piece false d = []

-- a statement's semicolon
abbrev pub semi_piece : Ending → Bool → ℕ → List Piece
semi_piece e true d = mark_piece mark.SEMICOLON d ∷ []
semi_piece e false d = Gap e ∷ []

-- whether the first place is one for this kind
abbrev pub is_wanted : (Kind → Bool) → Wanted → Bool
is_wanted f (Exactly k) = f k
is_wanted f AnyWord = false

abbrev pub begins_with : (Kind → Bool) → List Piece → Bool
begins_with f [] = false
begins_with f (At s ∷ ps) = is_wanted f s.kind
begins_with f (Gap e ∷ ps) = false
begins_with f (Pass ∷ ps) = false
