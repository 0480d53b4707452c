-- Tests of what a token is.
use Rattle.std.specs.Prelude.{ℕ, Bool, true, false, nat_eq, nat_le, not, ◌||◌, ◌&&◌, if◌then◌else◌}
use Rattle.script_grammar.specs.declared.token.Kind.{Kind}
use Rattle.script_grammar.specs.declared.token.Kind.TheVariants as kind
use Rattle.script_grammar.specs.declared.token.mark.TheConstants as mark
use Rattle.script_grammar.specs.declared.token.word.TheConstants as word
use Rattle.script_grammar.specs.declared.token.FuncForm.{FuncForm}
use Rattle.script_grammar.specs.declared.token.FuncForm.TheVariants as form
use Rattle.script_grammar.specs.declared.token.Decl.{Decl}
use Rattle.script_grammar.specs.declared.token.Decl.TheVariants as decl
use Rattle.script_grammar.specs.Lexeme.{Role, get_role, set_role}

abbrev pub is_mark : ℕ → Kind → Bool
is_mark i (kind.Mark j) = nat_eq j i
is_mark i _ = false

abbrev pub is_word : ℕ → Kind → Bool
is_word i (kind.Word j) = nat_eq j i
is_word i _ = false

abbrev pub is_name : Kind → Bool
is_name kind.Name = true
is_name _ = false

abbrev pub is_number : Kind → Bool
is_number kind.Number = true
is_number _ = false

abbrev pub is_str : Kind → Bool
is_str kind.Str = true
is_str _ = false

abbrev pub is_whole : Kind → Bool
is_whole kind.TemplateWhole = true
is_whole _ = false

abbrev pub is_head : Kind → Bool
is_head kind.TemplateHead = true
is_head _ = false

abbrev pub is_middle : Kind → Bool
is_middle kind.TemplateMiddle = true
is_middle _ = false

abbrev pub is_tail : Kind → Bool
is_tail kind.TemplateTail = true
is_tail _ = false

abbrev pub is_end : Kind → Bool
is_end kind.End = true
is_end _ = false

-- a name or a reserved word (ECMA-262 clause 12.6, IdentifierName)
abbrev pub is_any_word : Kind → Bool
is_any_word kind.Name = true
is_any_word (kind.Word i) = true
is_any_word _ = false

abbrev pub is_get : Role → Bool
is_get get_role = true
is_get _ = false

abbrev pub is_set : Role → Bool
is_set set_role = true
is_set _ = false

-- a test of a mark's index, of a word's index, and of either
abbrev pub mark_with : (ℕ → Bool) → Kind → Bool
mark_with f (kind.Mark i) = f i
mark_with f _ = false

abbrev pub between : ℕ → ℕ → ℕ → Bool
between low high i = nat_le low i && nat_le i high

-- `=` and the twelve marks from `+=` to `^=` (clause 13.15, without the logical assignments)
abbrev pub is_assign_op : ℕ → Bool
is_assign_op i = between mark.ASSIGN mark.BIT_XOR_ASSIGN i

abbrev pub is_assign_mark : Kind → Bool
is_assign_mark k = mark_with is_assign_op k

-- The level of a binary operator, from the tightest (clauses 13.6 to 13.13): `**`, multiplicative, additive, shift,
-- relational, equality, `&`, `^`, `|`, `&&`, `||`, `??`; 12 for what is none.
abbrev pub no_level : ℕ
no_level = 12

abbrev pub mark_level : ℕ → ℕ
mark_level i =
    if nat_eq i mark.POWER then 0 else
    if between mark.TIMES mark.REMAINDER i then 1 else
    if between mark.PLUS mark.MINUS i then 2 else
    if between mark.LEFT_SHIFT mark.UNSIGNED_RIGHT_SHIFT i then 3 else
    if between mark.LESS mark.GREATER_EQUAL i then 4 else
    if between mark.EQUAL mark.STRICT_NOT_EQUAL i then 5 else
    if nat_eq i mark.BIT_AND then 6 else
    if nat_eq i mark.BIT_XOR then 7 else
    if nat_eq i mark.BIT_OR then 8 else
    if nat_eq i mark.AND then 9 else
    if nat_eq i mark.OR then 10 else
    if nat_eq i mark.COALESCE then 11 else no_level

-- `in` and `instanceof` are relational
abbrev pub word_level : ℕ → ℕ
word_level i = if between word.IN word.INSTANCEOF i then 4 else no_level

abbrev pub op_level : ℕ → Bool → ℕ
op_level op true = word_level op
op_level op false = mark_level op

-- the level of a token as a binary operator
abbrev pub kind_level : Kind → ℕ
kind_level (kind.Mark i) = mark_level i
kind_level (kind.Word i) = word_level i
kind_level _ = no_level

abbrev pub is_binary : Kind → Bool
is_binary k = not (nat_eq (kind_level k) no_level)

-- the token of an operator
abbrev pub op_kind : ℕ → Bool → Kind
op_kind op true = kind.Word op
op_kind op false = kind.Mark op

-- the prefix operators beside `++` and `--` (clause 13.5)
abbrev pub is_prefix_op : ℕ → Bool → Bool
is_prefix_op op true = nat_eq op word.DELETE || nat_eq op word.VOID || nat_eq op word.TYPEOF
is_prefix_op op false = nat_eq op mark.PLUS || nat_eq op mark.MINUS || nat_eq op mark.BIT_NOT || nat_eq op mark.NOT

abbrev pub is_prefix : Kind → Bool
is_prefix (kind.Mark i) = is_prefix_op i false
is_prefix (kind.Word i) = is_prefix_op i true
is_prefix _ = false

-- `++` and `--` (clause 13.4)
abbrev pub is_update_op : ℕ → Bool
is_update_op i = between mark.INCREMENT mark.DECREMENT i

abbrev pub is_update : Kind → Bool
is_update k = mark_with is_update_op k

-- the word of a declaration
abbrev pub decl_word : Decl → ℕ
decl_word decl.Var = word.VAR
decl_word decl.Let = word.LET
decl_word decl.Const = word.CONST

abbrev pub is_var : Decl → Bool
is_var decl.Var = true
is_var _ = false

abbrev pub is_arrow_form : FuncForm → Bool
is_arrow_form form.Arrow = true
is_arrow_form _ = false
