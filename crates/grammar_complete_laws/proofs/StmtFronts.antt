-- How a statement is told from its first lexemes: which parser of the chain reads it.
use Rattle.std.proofs.Common.{◌≡◌, ℕ, suc, List, [], ◌∷◌, refl, ap, Bool, true, false, not, ◌||◌}
use Rattle.script_grammar.specs.declared.token.Kind.{Kind}
use Rattle.script_grammar.specs.declared.token.Kind.TheVariants as kind
use Rattle.script_grammar.specs.declared.token.mark.TheConstants as mark
use Rattle.script_grammar.specs.declared.token.word.TheConstants as word
use Rattle.script_grammar.specs.declared.token.Decl.{Decl}
use Rattle.script_grammar.specs.declared.token.Decl.TheVariants as decl
use Rattle.script_grammar.specs.Lexeme.{Lexeme}
use Rattle.script_grammar.specs.Kinds.{is_mark, is_word, is_name, decl_word}
use Rattle.script_grammar.specs.Tree.{Stmt, Binds, Function, function}
use Rattle.script_grammar.specs.Tree as tree
use Rattle.script_grammar.specs.Pieces.{Piece, At, Gap, Pass, Wanted, Exactly, AnyWord}
use Rattle.script_grammar.specs.Print.{print, print_stmt}
use Rattle.grammar_parser_specs.specs.Parser.{Parser, head_of, ret, step, when}
use Rattle.grammar_parser_specs.specs.Exprs.{begins_assign, begins_word, begins_mark}
use Rattle.grammar_parser_specs.specs.Stmts as parser
use Rattle.grammar_parser_specs.specs.Stmts.{Place, AnItem, AStmt, Block, is_item, is_inside, ends_items}
use Rattle.grammar_parser_laws.proofs.Tests.{false_true, true_false}
use Rattle.grammar_complete_laws.proofs.Completes.{of_kind, at_kind}
use Rattle.grammar_complete_laws.proofs.ExprFronts.{OfKind, word_elim, mark_elim, Opens, opens_append, expr_opens}
use Rattle.grammar_parser_laws.proofs.ProperIn.{Mode, ProperStmt}

-- what no statement begins with, and what ends a list of them or stands after a statement
abbrev pub starts : Kind → Bool
starts k = not (is_word word.ELSE k || ends_items k || is_mark mark.COLON k)

assign_starts : (k : Kind) → begins_assign k ≡ true → starts k ≡ true
assign_starts kind.Name h = refl
assign_starts kind.Number h = refl
assign_starts kind.Str h = refl
assign_starts kind.TemplateWhole h = refl
assign_starts kind.TemplateHead h = refl
assign_starts (kind.Word i) h = word_elim (λ j. starts (kind.Word j) ≡ true) refl refl refl refl refl refl refl refl refl i h
assign_starts (kind.Mark i) h = mark_elim (λ j. starts (kind.Mark j) ≡ true) refl refl refl refl refl refl refl refl refl i h
assign_starts kind.TemplateMiddle h = absurd (false_true h)
assign_starts kind.TemplateTail h = absurd (false_true h)
assign_starts kind.Bad h = absurd (false_true h)
assign_starts kind.End h = absurd (false_true h)

opens_map : (f g : Kind → Bool) → ((k : Kind) → f k ≡ true → g k ≡ true) → (ps : List Piece) → Opens f ps → Opens g ps
opens_map f g h [] o = absurd o
opens_map f g h (At s ∷ ps) o = wanted s.kind o
  where
    wanted : (w : Wanted) → OfKind f w → OfKind g w
    wanted (Exactly k) x = h k x
    wanted AnyWord x = absurd x
opens_map f g h (Gap e ∷ ps) o = absurd o
opens_map f g h (Pass ∷ ps) o = absurd o

decl_starts : (c : Decl) → starts (kind.Word (decl_word c)) ≡ true
decl_starts decl.Var = refl
decl_starts decl.Let = refl
decl_starts decl.Const = refl

declared_opens : (m : Mode) (d : ℕ) (f : Function) → Opens starts (print_stmt m.look d (tree.Declared f))
declared_opens m d (function form start end name ps comma bare body) = refl

pub stmt_opens : (m : Mode) (d : ℕ) (i : Bool) (s : Stmt) → ProperStmt m i s → Opens starts (print_stmt m.look d s)
stmt_opens m d i (tree.Block items) h = refl
stmt_opens m d i tree.Empty h = refl
stmt_opens m d i (tree.Debugger semi) h = refl
stmt_opens m d i (tree.Binding c binds semi) h = decl_starts c
stmt_opens m d i (tree.Value e semi) h = opens_append starts (print m.look (suc d) e) _ (opens_map begins_assign starts assign_starts (print m.look (suc d) e) (expr_opens m (suc d) e h.2))
stmt_opens m d i (tree.If test then_stmt else_stmt) h = refl
stmt_opens m d i (tree.Do body test semi) h = refl
stmt_opens m d i (tree.While test body) h = refl
stmt_opens m d i (tree.For init test update body) h = refl
stmt_opens m d i (tree.ForIn each over body) h = refl
stmt_opens m d i (tree.Continue at label semi) h = refl
stmt_opens m d i (tree.Break at label semi) h = refl
stmt_opens m d i (tree.Return value semi) h = refl
stmt_opens m d i (tree.Throw value semi) h = refl
stmt_opens m d i (tree.Switch of clauses) h = refl
stmt_opens m d i (tree.Label name body) h = refl
stmt_opens m d i (tree.Try body param handler) h = refl
stmt_opens m d i (tree.Declared f) h = declared_opens m d f

-- the parser for each first lexeme

module _ (b : Block) (p : Place) where
  abbrev pub Same : Lexeme → List Lexeme → Parser Stmt → Type 0
  Same t ts f = parser.stmt_of b p (t ∷ ts) ≡ f ts

  pub block_at : (t : Lexeme) (ts : List Lexeme) → t.kind ≡ kind.Mark mark.OPEN_BRACE → Same t ts (parser.block_stmt b (is_inside p))
  unfolding parser.stmt_of
  block_at t ts e = at_kind (λ u. Same u ts (parser.block_stmt b (is_inside p))) (kind.Mark mark.OPEN_BRACE) t e refl

  pub empty_at : (t : Lexeme) (ts : List Lexeme) → t.kind ≡ kind.Mark mark.SEMICOLON → Same t ts (ret tree.Empty)
  unfolding parser.stmt_of
  empty_at t ts e = at_kind (λ u. Same u ts (ret tree.Empty)) (kind.Mark mark.SEMICOLON) t e refl

  pub debugger_at : (t : Lexeme) (ts : List Lexeme) → t.kind ≡ kind.Word word.DEBUGGER → Same t ts parser.debugger_of
  unfolding parser.stmt_of
  debugger_at t ts e = at_kind (λ u. Same u ts parser.debugger_of) (kind.Word word.DEBUGGER) t e refl

  pub var_at : (t : Lexeme) (ts : List Lexeme) → t.kind ≡ kind.Word word.VAR → Same t ts (parser.binding_of b.exprs decl.Var)
  unfolding parser.stmt_of parser.declaration_stmt
  var_at t ts e = at_kind (λ u. Same u ts (parser.binding_of b.exprs decl.Var)) (kind.Word word.VAR) t e refl

  pub let_at : is_item p ≡ true → (t : Lexeme) (ts : List Lexeme) → t.kind ≡ kind.Word word.LET → Same t ts (parser.binding_of b.exprs decl.Let)
  unfolding parser.stmt_of parser.declaration_stmt
  let_at i t ts e = at_kind (λ u. Same u ts (parser.binding_of b.exprs decl.Let)) (kind.Word word.LET) t e (ap (λ c. when c (step (parser.binding_of b.exprs decl.Let)) (parser.nested_stmt b p) (of_kind (kind.Word word.LET) t ∷ ts)) i)

  pub const_at : is_item p ≡ true → (t : Lexeme) (ts : List Lexeme) → t.kind ≡ kind.Word word.CONST → Same t ts (parser.binding_of b.exprs decl.Const)
  unfolding parser.stmt_of parser.declaration_stmt
  const_at i t ts e = at_kind (λ u. Same u ts (parser.binding_of b.exprs decl.Const)) (kind.Word word.CONST) t e (ap (λ c. when c (step (parser.binding_of b.exprs decl.Const)) (parser.nested_stmt b p) (of_kind (kind.Word word.CONST) t ∷ ts)) i)

  pub function_at : is_item p ≡ true → (t : Lexeme) (ts : List Lexeme) → t.kind ≡ kind.Word word.FUNCTION → Same t ts (parser.declared_of b.exprs)
  unfolding parser.stmt_of parser.declaration_stmt
  function_at i t ts e = at_kind (λ u. Same u ts (parser.declared_of b.exprs)) (kind.Word word.FUNCTION) t e (ap (λ c. when c (step (parser.declared_of b.exprs)) (parser.nested_stmt b p) (of_kind (kind.Word word.FUNCTION) t ∷ ts)) i)

  pub if_at : (t : Lexeme) (ts : List Lexeme) → t.kind ≡ kind.Word word.IF → Same t ts (parser.if_of b (is_inside p))
  unfolding parser.stmt_of parser.declaration_stmt parser.nested_stmt
  if_at t ts e = at_kind (λ u. Same u ts (parser.if_of b (is_inside p))) (kind.Word word.IF) t e refl

  pub while_at : (t : Lexeme) (ts : List Lexeme) → t.kind ≡ kind.Word word.WHILE → Same t ts (parser.while_of b (is_inside p))
  unfolding parser.stmt_of parser.declaration_stmt parser.nested_stmt
  while_at t ts e = at_kind (λ u. Same u ts (parser.while_of b (is_inside p))) (kind.Word word.WHILE) t e refl

  pub do_at : (t : Lexeme) (ts : List Lexeme) → t.kind ≡ kind.Word word.DO → Same t ts (parser.do_of b (is_inside p))
  unfolding parser.stmt_of parser.declaration_stmt parser.nested_stmt
  do_at t ts e = at_kind (λ u. Same u ts (parser.do_of b (is_inside p))) (kind.Word word.DO) t e refl

  pub for_at : (t : Lexeme) (ts : List Lexeme) → t.kind ≡ kind.Word word.FOR → Same t ts (parser.for_of b (is_inside p))
  unfolding parser.stmt_of parser.declaration_stmt parser.nested_stmt
  for_at t ts e = at_kind (λ u. Same u ts (parser.for_of b (is_inside p))) (kind.Word word.FOR) t e refl

  pub switch_at : (t : Lexeme) (ts : List Lexeme) → t.kind ≡ kind.Word word.SWITCH → Same t ts (parser.switch_of b (is_inside p))
  unfolding parser.stmt_of parser.declaration_stmt parser.nested_stmt
  switch_at t ts e = at_kind (λ u. Same u ts (parser.switch_of b (is_inside p))) (kind.Word word.SWITCH) t e refl

  pub try_at : (t : Lexeme) (ts : List Lexeme) → t.kind ≡ kind.Word word.TRY → Same t ts (parser.try_of b (is_inside p))
  unfolding parser.stmt_of parser.declaration_stmt parser.nested_stmt
  try_at t ts e = at_kind (λ u. Same u ts (parser.try_of b (is_inside p))) (kind.Word word.TRY) t e refl

  pub continue_at : (t : Lexeme) (ts : List Lexeme) → t.kind ≡ kind.Word word.CONTINUE → Same t ts (parser.continue_of t.start)
  unfolding parser.stmt_of parser.declaration_stmt parser.nested_stmt parser.jump_stmt
  continue_at t ts e = at_kind (λ u. Same u ts (parser.continue_of u.start)) (kind.Word word.CONTINUE) t e refl

  pub break_at : (t : Lexeme) (ts : List Lexeme) → t.kind ≡ kind.Word word.BREAK → Same t ts (parser.break_of t.start)
  unfolding parser.stmt_of parser.declaration_stmt parser.nested_stmt parser.jump_stmt
  break_at t ts e = at_kind (λ u. Same u ts (parser.break_of u.start)) (kind.Word word.BREAK) t e refl

  pub return_at : is_inside p ≡ true → (t : Lexeme) (ts : List Lexeme) → t.kind ≡ kind.Word word.RETURN → Same t ts (parser.return_of b.exprs)
  unfolding parser.stmt_of parser.declaration_stmt parser.nested_stmt parser.jump_stmt
  return_at i t ts e = at_kind (λ u. Same u ts (parser.return_of b.exprs)) (kind.Word word.RETURN) t e (ap (λ c. when c (step (parser.return_of b.exprs)) (parser.plain_stmt b (is_inside p)) (of_kind (kind.Word word.RETURN) t ∷ ts)) i)

  pub throw_at : (t : Lexeme) (ts : List Lexeme) → t.kind ≡ kind.Word word.THROW → Same t ts (parser.throw_of b.exprs)
  unfolding parser.stmt_of parser.declaration_stmt parser.nested_stmt parser.jump_stmt
  throw_at t ts e = at_kind (λ u. Same u ts (parser.throw_of b.exprs)) (kind.Word word.THROW) t e refl

  -- a name: a label where a colon stands after it, else an expression
  name_at : (t : Lexeme) (ts : List Lexeme) (c : Bool) → t.kind ≡ kind.Name → is_mark mark.COLON (head_of ts).kind ≡ c → parser.stmt_of b p (t ∷ ts) ≡ when c (parser.labelled_of b (is_inside p)) (parser.value_stmt b.exprs) (t ∷ ts)
  unfolding parser.stmt_of parser.declaration_stmt parser.nested_stmt parser.jump_stmt parser.plain_stmt
  name_at t ts c e h = at_kind (λ u. parser.stmt_of b p (u ∷ ts) ≡ when c (parser.labelled_of b (is_inside p)) (parser.value_stmt b.exprs) (u ∷ ts)) kind.Name t e (ap (λ x. when x (parser.labelled_of b (is_inside p)) (parser.value_stmt b.exprs) (of_kind kind.Name t ∷ ts)) h)

  pub label_at : (t : Lexeme) (ts : List Lexeme) → t.kind ≡ kind.Name → is_mark mark.COLON (head_of ts).kind ≡ true → parser.stmt_of b p (t ∷ ts) ≡ parser.labelled_of b (is_inside p) (t ∷ ts)
  label_at t ts e h = name_at t ts true e h

  abbrev Valued : Kind → Lexeme → List Lexeme → Type 0
  Valued k t ts = parser.stmt_of b p (of_kind k t ∷ ts) ≡ parser.value_stmt b.exprs (of_kind k t ∷ ts)

  valued_word : (t : Lexeme) (ts : List Lexeme) (i : ℕ) → begins_word i ≡ true → is_word word.FUNCTION (kind.Word i) ≡ false → Valued (kind.Word i) t ts
  unfolding parser.stmt_of parser.declaration_stmt parser.nested_stmt parser.jump_stmt parser.plain_stmt
  valued_word t ts i h = word_elim (λ j. is_word word.FUNCTION (kind.Word j) ≡ false → Valued (kind.Word j) t ts) (λ f. refl) (λ f. refl) (λ f. refl) (λ f. refl) (λ f. absurd (true_false f)) (λ f. refl) (λ f. refl) (λ f. refl) (λ f. refl) i h

  valued_mark : (t : Lexeme) (ts : List Lexeme) (i : ℕ) → begins_mark i ≡ true → is_mark mark.OPEN_BRACE (kind.Mark i) ≡ false → Valued (kind.Mark i) t ts
  unfolding parser.stmt_of parser.declaration_stmt parser.nested_stmt parser.jump_stmt parser.plain_stmt
  valued_mark t ts i h = mark_elim (λ j. is_mark mark.OPEN_BRACE (kind.Mark j) ≡ false → Valued (kind.Mark j) t ts) (λ f. refl) (λ f. refl) (λ f. absurd (true_false f)) (λ f. refl) (λ f. refl) (λ f. refl) (λ f. refl) (λ f. refl) (λ f. refl) i h

  valued : (k : Kind) (t : Lexeme) (ts : List Lexeme) → begins_assign k ≡ true → is_word word.FUNCTION k ≡ false → is_mark mark.OPEN_BRACE k ≡ false → (is_name k ≡ true → is_mark mark.COLON (head_of ts).kind ≡ false) → Valued k t ts
  unfolding parser.stmt_of parser.declaration_stmt parser.nested_stmt parser.jump_stmt parser.plain_stmt
  valued kind.Name t ts h f o c = name_at (of_kind kind.Name t) ts false refl (c refl)
  valued kind.Number t ts h f o c = refl
  valued kind.Str t ts h f o c = refl
  valued kind.TemplateWhole t ts h f o c = refl
  valued kind.TemplateHead t ts h f o c = refl
  valued (kind.Word i) t ts h f o c = valued_word t ts i h f
  valued (kind.Mark i) t ts h f o c = valued_mark t ts i h o
  valued kind.TemplateMiddle t ts h f o c = absurd (false_true h)
  valued kind.TemplateTail t ts h f o c = absurd (false_true h)
  valued kind.Bad t ts h f o c = absurd (false_true h)
  valued kind.End t ts h f o c = absurd (false_true h)

  pub value_at : (t : Lexeme) (ts : List Lexeme) → begins_assign t.kind ≡ true → is_word word.FUNCTION t.kind ≡ false → is_mark mark.OPEN_BRACE t.kind ≡ false → (is_name t.kind ≡ true → is_mark mark.COLON (head_of ts).kind ≡ false) → parser.stmt_of b p (t ∷ ts) ≡ parser.value_stmt b.exprs (t ∷ ts)
  value_at t ts h f o c = valued t.kind t ts h f o c
