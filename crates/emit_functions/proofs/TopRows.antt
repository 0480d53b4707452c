-- What stands at the top of a function's body, one part after the other.
use Rattle.std.proofs.Common.{◌≡◌, ℕ, ◌+◌, ◌<◌, ◌^◌, Bool, true, false, ◌&&◌, nat_lt, List, [], ◌∷◌, ◌++◌, Some, map, refl, sym, ◌∙◌, ap, ap₂, subst, add-zero, zero-add, append_assoc, true≢false}
use Rattle.script_grammar.specs.declared.tree.Func.{Func}
use Rattle.script_grammar.specs.declared.tree.Stmt.{Stmt}
use Rattle.script_grammar.specs.Interpretation.{Interpretation}
use Rattle.script_grammar.specs.TreeLists.{stmts_of}
use Rattle.script_grammar.specs.TreeOf.{stmt_of}
use Rattle.scope_analysis.specs.DeclaredNames.{Declaration, top_lexical_name, top_lexical_names}
use Rattle.scope_analysis.specs.Scopes.{count_stmts}
use Rattle.stencil_data.specs.declared.stencils.TryNote.{TryNote}
use Rattle.bytecode_buf.specs.declared.waits.Wait.{Wait}
use Rattle.bytecode_buf.specs.Emits.{emitted}
use Rattle.bytecode_buf.specs.Pieces.{Code}
use Rattle.bytecode_buf.proofs.AppendLemmas.{emits_none}
use Rattle.emit_exprs.specs.declared.site.Site.{Site}
use Rattle.emit_exprs.specs.Exprs.{Scene}
use Rattle.emit_exprs.specs.Sites.{EmitsAt, scene_of}
use Rattle.emit_exprs.specs.TreeCode.{at_site}
use Rattle.emit_exprs.proofs.Writing.{written_of, written_as, Left, left_begin, left_step, left_end}
use Rattle.emit_stmts.specs.declared.stmt_context.StmtContext.{StmtContext}
use Rattle.emit_stmts.specs.Declares.{declares}
use Rattle.emit_stmts.specs.Frames.{kept_values, leave_scope}
use Rattle.emit_stmts.specs.Functions.{top_function, top_functions}
use Rattle.emit_stmts.specs.PartCode.{stmts_in}
use Rattle.emit_stmts.specs.Positions.{Position, position_of, World, setting}
use Rattle.emit_stmts.specs.StmtCode.{Written, StmtsWritten}
use Rattle.emit_stmts.specs.StmtFits.{HasRoom, StmtsFit}
use Rattle.emit_stmts.specs.Stmts.{scene_at, enter_scope, assigning_function, stmts_code}
use Rattle.emit_stmts.specs.ValueCode.{FunctionEmits}
use Rattle.emit_stmts.proofs.Scoped.{inner_position, written_scope, nowhere, declared_some, left_out, count_some, count_none, room_some, room_none, scoped, unscoped}
use Rattle.emit_stmts.proofs.Writing.{written_plain, written_both, written_by, scene_is}
use Rattle.emit_functions.specs.TopCode.{assigned_by, TopFunctionEmits, TopFunctionsEmit, TopWritten}

-- ---- whether names are declared

declares_first : (xs ys : List Declaration) → declares xs ≡ true → declares (xs ++ ys) ≡ true
declares_first [] ys some = absurd (true≢false (sym some))
declares_first (x ∷ xs) ys some = refl

declares_later : (xs ys : List Declaration) → declares xs ≡ false → declares (xs ++ ys) ≡ declares ys
declares_later [] ys none = refl
declares_later (x ∷ xs) ys none = absurd (true≢false none)

abbrev tops : Interpretation → List Stmt → List Declaration
tops i ss = top_lexical_names (stmts_of (map (stmt_of i) ss))

-- what is declared in those that are left is so in all
pub record TopsLooked (all left : List Stmt) : Type 0 where
  pub same : (i : Interpretation) → declares (tops i left) ≡ declares (tops i all)

pub looked_begin : (all : List Stmt) → TopsLooked all all
looked_begin all = record { same = λ i. refl }

pub looked_next : {all : List Stmt} (left further : List Stmt) (s : Stmt) (some : Bool) → left ≡ s ∷ further → ((i : Interpretation) → some ≡ declares (top_lexical_name (stmt_of i s))) → some ≡ false → TopsLooked all left → TopsLooked all further
looked_next left further s some is some_is none l = record {
  same = λ i. sym (declares_later (top_lexical_name (stmt_of i s)) (tops i further) (sym (some_is i) ∙ none))
      ∙ (sym (ap (λ (xs : List Stmt). declares (tops i xs)) is) ∙ l.same i);
}

pub looked_found : {all : List Stmt} (left further : List Stmt) (s : Stmt) (some : Bool) → left ≡ s ∷ further → ((i : Interpretation) → some ≡ declares (top_lexical_name (stmt_of i s))) → some ≡ true → TopsLooked all left → (i : Interpretation) → true ≡ declares (tops i all)
looked_found left further s some is some_is found l i =
    sym (declares_first (top_lexical_name (stmt_of i s)) (tops i further) (sym (some_is i) ∙ found))
    ∙ (sym (ap (λ (xs : List Stmt). declares (tops i xs)) is) ∙ l.same i)

pub looked_none : {all : List Stmt} (left : List Stmt) → left ≡ [] → TopsLooked all left → (i : Interpretation) → false ≡ declares (tops i all)
looked_none left none l i = sym (ap (λ (xs : List Stmt). declares (tops i xs)) none) ∙ l.same i

-- ---- functions, one after the other

pub function_made : {s : Site} {old new : List ℕ} (stmt : Stmt) (f : Func) → ((i : Interpretation) (c : Scene) → top_function c (stmt_of i stmt) ≡ assigned_by c i (Some f)) → FunctionEmits s old new f assigning_function → TopFunctionEmits s old new stmt
function_made {s} stmt f is x = record { made = written_as (λ b t. tt) (λ b t. sym (is (at_site s b) (scene_of s))) x.made }

pub function_none : (s : Site) (now : List ℕ) (stmt : Stmt) → ((i : Interpretation) (c : Scene) → top_function c (stmt_of i stmt) ≡ []) → TopFunctionEmits s now now stmt
function_none s now stmt none = record { made = written_as (λ b t. tt) (λ b t. sym (none (at_site s b) (scene_of s))) (written_of (emits_none s.texts.now now)) }

pub record FunctionsLeft (s : Site) (start now : List ℕ) (all left : List Stmt) : Type 0 where
  pub loop : Left s start now (λ b. Unit {0}) (λ b. Unit {0}) (λ b. top_functions (scene_of s) (stmts_of (map (stmt_of (at_site s b)) all))) (λ b. top_functions (scene_of s) (stmts_of (map (stmt_of (at_site s b)) left)))

pub functions_begin : (s : Site) (now : List ℕ) (all : List Stmt) → FunctionsLeft s now now all all
functions_begin s now all = record { loop = left_begin s now _ _ }

pub functions_next : {s : Site} {start now next : List ℕ} {all : List Stmt} (left further : List Stmt) (x : Stmt) → left ≡ x ∷ further → TopFunctionEmits s now next x → FunctionsLeft s start now all left → FunctionsLeft s start next all further
functions_next {s} left further x is y l = record { loop = left_step y.made (λ b f. tt) (λ b f. tt) (λ b f. ap (λ (xs : List Stmt). top_functions (scene_of s) (stmts_of (map (stmt_of (at_site s b)) xs))) is) l.loop }

pub functions_end : {s : Site} {start now : List ℕ} {all : List Stmt} (left : List Stmt) → left ≡ [] → FunctionsLeft s start now all left → TopFunctionsEmit s start now all
functions_end {s} left none l = record { made = left_end (λ b. ap (λ (xs : List Stmt). top_functions (scene_of s) (stmts_of (map (stmt_of (at_site s b)) xs))) none) l.loop }

-- ---- the scope of the lexical names

abbrev items_fit : List Stmt → Position → World → Type 0
items_fit items q w = StmtsFit q.room (kept_values q.frames) (stmts_in q w items)

abbrev items_count : List Stmt → Position → World → ℕ
items_count items q w = count_stmts (stmts_in q w items)

abbrev items_code : List Stmt → Position → World → ℕ → Code
items_code items q w i = top_functions (scene_at (setting q w) q.frames) (stmts_in q w items) ++ stmts_code (setting q w) (stmts_in q w items) i q.frames

items_written : {a b c : List ℕ} {ws ws_new : List Wait} {ns ns_new : List TryNote} {k l : ℕ} (s : StmtContext) (items : List Stmt) → TopFunctionsEmit s.exprs a b items → StmtsWritten (position_of s) (emitted b ws ns) (emitted c ws_new ns_new) k l items
    → Written (position_of s) (emitted a ws ns) (emitted c ws_new ns_new) k l (items_fit items (position_of s)) (items_count items (position_of s)) (items_code items (position_of s))
items_written {ws = ws} {ns = ns} {k = k} s items x y =
    written_by (λ w f. (tt, f)) (λ w f. zero-add _)
    (λ w stands f. ap₂ (λ (c : Scene) (i : ℕ). top_functions c (stmts_in (position_of s) w items) ++ stmts_code (setting (position_of s) w) (stmts_in (position_of s) w items) i (position_of s).frames) (scene_is (position_of s) w stands) (add-zero k))
    (written_both (written_plain s ws ns k x.made) y.code)

pub top_scoped : {a b c d e : List ℕ} {ws ws_new : List Wait} {ns ns_in ns_new : List TryNote} {k j l number : ℕ} {flag : Bool} (s inside : StmtContext) (items : List Stmt)
    → ((w : World) → flag ≡ declares (top_lexical_names (stmts_in (position_of s) w items))) → (flag && nat_lt 0 (position_of s).room) ≡ true
    → position_of inside ≡ inner_position (position_of s) k → ((w : World) → EmitsAt s.exprs a b (enter_scope (setting (position_of s) w) k)) → (k + 1 < 2 ^ 64 → j ≡ k + 1) → ns_in ≡ ns
    → TopFunctionsEmit inside.exprs b c items → StmtsWritten (position_of inside) (emitted c ws ns_in) (emitted d ws_new ns_new) j l items
    → number ≡ k → EmitsAt s.exprs d e (leave_scope (position_of s).scopes number)
    → TopWritten (position_of s) (emitted a ws ns) (emitted e ws_new ns_new) k l items
top_scoped {k = k} {flag = flag} s inside items flag_is enters is into next same x y number_is leave = record {
  code = written_by (λ w g. subst (λ (r : ℕ). StmtsFit r (kept_values (position_of s).frames) (stmts_in (position_of s) w items)) (room_some (names w) (position_of s).room (some w)) g.1)
      (λ w g. ap (λ (n : ℕ). n + items_count items (position_of s) w) (sym (count_some (names w) (some w))))
      (λ w stands g. ap (λ (c : Code). c ++ leave_scope (position_of s).scopes k) (sym (append_assoc (enter_scope (setting (position_of s) w) k) _ _))
      ∙ sym (scoped (setting (position_of s) w) (names w) (λ c. top_functions c (stmts_in (position_of s) w items)) (stmts_code (setting (position_of s) w) (stmts_in (position_of s) w items)) k (position_of s).frames (some w)))
      (written_scope s inside (items_fit items) (items_count items) (items_code items) (enter_scope (setting (position_of s) nowhere) k) is (into nowhere) next same (items_written inside items x y) number_is leave);
}
  where
    names : World → List Declaration
    names w = top_lexical_names (stmts_in (position_of s) w items)

    some : (w : World) → declares (names w) ≡ true
    some w = sym (flag_is w) ∙ declared_some flag (position_of s).room enters

pub top_plain : {a b c : List ℕ} {ws ws_new : List Wait} {ns ns_new : List TryNote} {k l : ℕ} {flag : Bool} (s : StmtContext) (items : List Stmt)
    → ((w : World) → flag ≡ declares (top_lexical_names (stmts_in (position_of s) w items))) → (flag && nat_lt 0 (position_of s).room) ≡ false
    → TopFunctionsEmit s.exprs a b items → StmtsWritten (position_of s) (emitted b ws ns) (emitted c ws_new ns_new) k l items
    → TopWritten (position_of s) (emitted a ws ns) (emitted c ws_new ns_new) k l items
top_plain {k = k} {flag = flag} s items flag_is none x y = record {
  code = written_by (λ w g. subst (λ (r : ℕ). StmtsFit r (kept_values (position_of s).frames) (stmts_in (position_of s) w items)) (room_none (names w) (position_of s).room (out w g.0)) g.1)
      (λ w g. sym (zero-add (items_count items (position_of s) w)) ∙ ap (λ (n : ℕ). n + items_count items (position_of s) w) (sym (count_none (names w) (out w g.0))))
      (λ w stands g. sym (unscoped (setting (position_of s) w) (names w) (λ c. top_functions c (stmts_in (position_of s) w items)) (stmts_code (setting (position_of s) w) (stmts_in (position_of s) w items)) k (position_of s).frames (out w g.0)))
      (items_written s items x y);
}
  where
    names : World → List Declaration
    names w = top_lexical_names (stmts_in (position_of s) w items)

    out : (w : World) → HasRoom (names w) (position_of s).room → declares (names w) ≡ false
    out w fits = left_out flag (names w) (position_of s).room (flag_is w) none fits
