-- Scopes that are entered around parts of statements.
use Rattle.std.proofs.Common.{◌≡◌, ℕ, ◌+◌, ◌-◌, ◌<◌, ◌^◌, Bool, true, false, ◌&&◌, nat_lt, List, [], ◌∷◌, ◌++◌, Some, refl, sym, ◌∙◌, ap, ap₂, subst, add-zero, zero-add, append_assoc, append-nil, true≢false}
use Rattle.std.proofs.lemmas.Bool.{lt-ltb, ltb-true}
use Rattle.script_grammar.specs.declared.tree.Stmt.{Stmt}
use Rattle.script_grammar.specs.Tree.{no_stmts}
use Rattle.scope_analysis.specs.DeclaredNames.{Declaration, lexical_names}
use Rattle.scope_analysis.specs.Scopes.{scope_count, count_stmts}
use Rattle.stencil_data.specs.declared.stencils.TryNote.{TryNote}
use Rattle.stencil_data.specs.LinkView.{LinkView}
use Rattle.bytecode_buf.specs.declared.waits.Wait.{Wait}
use Rattle.bytecode_buf.specs.Appends.{Emitted}
use Rattle.bytecode_buf.specs.Emits.{emitted}
use Rattle.bytecode_buf.specs.Pieces.{Code}
use Rattle.emit_exprs.specs.Exprs.{Scene}
use Rattle.emit_exprs.specs.Sites.{EmitsAt}
use Rattle.emit_exprs.proofs.Writing.{written_of}
use Rattle.emit_stmts.specs.declared.frames.Frame.{Frame}
use Rattle.emit_stmts.specs.declared.frames.Frame.TheVariants as frame
use Rattle.emit_stmts.specs.declared.stmt_context.StmtContext.{StmtContext}
use Rattle.emit_stmts.specs.Declares.{declares}
use Rattle.emit_stmts.specs.Frames.{Entered, scope_at, chain_link, kept_values, leave_scope}
use Rattle.emit_stmts.specs.Frames as model
use Rattle.emit_stmts.specs.HeadCode.{freshen_head}
use Rattle.emit_stmts.specs.PartCode.{BlockWritten, stmts_in}
use Rattle.emit_stmts.specs.Positions.{Position, position_of, entered, frames_in, World, setting}
use Rattle.emit_stmts.specs.StmtCode.{Written, StmtsWritten}
use Rattle.emit_stmts.specs.StmtFits.{HasRoom, room_in, StmtsFit}
use Rattle.emit_stmts.specs.Stmts.{Setting, scene_at, enter_scope, in_scope, no_functions, freshen, block_functions, stmts_code}
use Rattle.emit_stmts.specs.ValueCode.{BlockFunctionsEmit}
use Rattle.emit_stmts.proofs.Apart.{apart_emits}
use Rattle.emit_stmts.proofs.Writing.{written_plain, written_both, written_by, written_moved, scene_is}

-- ---- whether a scope is entered

pub declared_some : (flag : Bool) (room : ℕ) → (flag && nat_lt 0 room) ≡ true → flag ≡ true
declared_some true room e = refl
declared_some false room e = absurd (true≢false (sym e))

pub some_room : (flag : Bool) (room : ℕ) → (flag && nat_lt 0 room) ≡ true → 0 < room
some_room false room e = absurd (true≢false (sym e))
some_room true room e = ltb-true 0 room e

pub not_entered : (ds : List Declaration) (room : ℕ) → (declares ds && nat_lt 0 room) ≡ false → HasRoom ds room → declares ds ≡ false
not_entered [] room e fits = refl
not_entered (d ∷ ds) room e fits = absurd (true≢false (sym (lt-ltb 0 room fits) ∙ e))

-- by whether something is declared
pub left_out : (flag : Bool) (ds : List Declaration) (room : ℕ) → flag ≡ declares ds → (flag && nat_lt 0 room) ≡ false → HasRoom ds room → declares ds ≡ false
left_out flag ds room is none fits = not_entered ds room (ap (λ (b : Bool). b && nat_lt 0 room) (sym is) ∙ none) fits

pub count_some : (ds : List Declaration) → declares ds ≡ true → scope_count ds ≡ 1
count_some [] some = absurd (true≢false (sym some))
count_some (d ∷ ds) some = refl

pub count_none : (ds : List Declaration) → declares ds ≡ false → scope_count ds ≡ 0
count_none [] none = refl
count_none (d ∷ ds) none = absurd (true≢false none)

pub room_some : (ds : List Declaration) (room : ℕ) → declares ds ≡ true → room_in ds room ≡ room - 1
room_some [] room some = absurd (true≢false (sym some))
room_some (d ∷ ds) room some = refl

pub room_none : (ds : List Declaration) (room : ℕ) → declares ds ≡ false → room_in ds room ≡ room
room_none [] room none = refl
room_none (d ∷ ds) room none = absurd (true≢false none)

pub scoped : (the : Setting) (ds : List Declaration) (functions : Scene → Code) (content : ℕ → List model.Frame → Code) (n : ℕ) (frames : List model.Frame) → declares ds ≡ true
    → in_scope the ds functions content n frames ≡ enter_scope the n ++ functions (scene_at the (Entered n ∷ frames)) ++ content (n + 1) (Entered n ∷ frames) ++ leave_scope the.scopes n
scoped the [] functions content n frames some = absurd (true≢false (sym some))
scoped the (d ∷ ds) functions content n frames some = refl

pub unscoped : (the : Setting) (ds : List Declaration) (functions : Scene → Code) (content : ℕ → List model.Frame → Code) (n : ℕ) (frames : List model.Frame) → declares ds ≡ false
    → in_scope the ds functions content n frames ≡ functions (scene_at the frames) ++ content n frames
unscoped the [] functions content n frames none = refl
unscoped the (d ∷ ds) functions content n frames none = absurd (true≢false none)

pub scoped_plain : (the : Setting) (ds : List Declaration) (content : ℕ → List model.Frame → Code) (n : ℕ) (frames : List model.Frame) → declares ds ≡ true
    → in_scope the ds no_functions content n frames ≡ enter_scope the n ++ content (n + 1) (Entered n ∷ frames) ++ leave_scope the.scopes n
scoped_plain the ds content n frames some = scoped the ds no_functions content n frames some ∙ ap (λ (c : Code). c ++ content (n + 1) (Entered n ∷ frames) ++ leave_scope the.scopes n) (append-nil (enter_scope the n))

pub freshen_some : (the : Setting) (ds : List Declaration) (n : ℕ) → declares ds ≡ true → freshen the ds n ≡ freshen_head the.scopes (Some n)
freshen_some the [] n some = absurd (true≢false (sym some))
freshen_some the (d ∷ ds) n some = refl

pub freshen_none : (the : Setting) (ds : List Declaration) (n : ℕ) → declares ds ≡ false → freshen the ds n ≡ []
freshen_none the [] n none = refl
freshen_none the (d ∷ ds) n none = absurd (true≢false none)

-- ---- inside a scope

abbrev pub inner_position : Position → ℕ → Position
inner_position p n = entered (chain_link (scope_at p.scopes n) ∷ p.chain) (Entered n ∷ p.frames) p

pub inner_is : (s : StmtContext) (q : Position) (n : ℕ) (chain : List LinkView) (frames : List Frame) → q ≡ entered chain (frames_in s.exprs.texts.now frames) (position_of s) → chain ≡ chain_link (scope_at (position_of s).scopes n) ∷ s.exprs.chain.now → frames ≡ frame.Entered n ∷ s.frames.now → q ≡ inner_position (position_of s) n
inner_is s q n chain frames is chain_is frames_is = is ∙ ap₂ (λ (c : List LinkView) (fs : List Frame). entered c (frames_in s.exprs.texts.now fs) (position_of s)) chain_is frames_is

written_entered : {a b : Emitted} {k l : ℕ} {f : World → Type 0} {m : World → ℕ} {x : World → ℕ → Code} (p : Position) (n : ℕ) → Written (inner_position p n) a b k l f m x → Written p a b k l f m x
written_entered p n u = record {
  written = u.written;
  appends = u.appends;
  apart = u.apart;
  counted = u.counted;
  is = λ w stands f small. u.is w (record { chain = ap (λ (c : List LinkView). chain_link (scope_at p.scopes n) ∷ c) stands.chain }) f small;
}

pub nowhere : World
nowhere = record { bodies = λ start. no_stmts; base = [] }

written_enter : {a b : List ℕ} {k l : ℕ} (s : StmtContext) (ws : List Wait) (ns : List TryNote) (enter : Code) → EmitsAt s.exprs a b enter → (k + 1 < 2 ^ 64 → l ≡ k + 1) → Written (position_of s) (emitted a ws ns) (emitted b ws ns) k l (λ w. Unit {0}) (λ w. 1) (λ w i. enter)
written_enter s ws ns enter x next = record { written = enter; appends = x.anywhere ws ns; apart = apart_emits x; counted = λ w f small. next small; is = λ w stands f small. refl }

-- what was written in a scope that was entered and left
pub written_scope : {a b c d : List ℕ} {ws ws_new : List Wait} {ns ns_in ns_new : List TryNote} {k j l number : ℕ} (s inside : StmtContext) (f : Position → World → Type 0) (m : Position → World → ℕ) (x : Position → World → ℕ → Code) (enter : Code)
    → position_of inside ≡ inner_position (position_of s) k → EmitsAt s.exprs a b enter → (k + 1 < 2 ^ 64 → j ≡ k + 1) → ns_in ≡ ns
    → Written (position_of inside) (emitted b ws ns_in) (emitted c ws_new ns_new) j l (f (position_of inside)) (m (position_of inside)) (x (position_of inside))
    → number ≡ k → EmitsAt s.exprs c d (leave_scope (position_of s).scopes number)
    → Written (position_of s) (emitted a ws ns) (emitted d ws_new ns_new) k l (f (inner_position (position_of s) k)) (λ w. 1 + m (inner_position (position_of s) k) w) (λ w i. enter ++ x (inner_position (position_of s) k) w (i + 1) ++ leave_scope (position_of s).scopes k)
written_scope {b = b} {c} {ws = ws} {ws_new} {ns} {ns_in} {ns_new} {k} {j} {l} {number} s inside f m x enter is into next same u number_is leave =
    written_by (λ w g. ((tt, g), tt)) (λ w g. add-zero (1 + m (inner_position (position_of s) k) w)) (λ w stands g. ap (λ (n : ℕ). enter ++ x (inner_position (position_of s) k) w (k + 1) ++ leave_scope (position_of s).scopes n) number_is)
    (written_both (written_both (written_enter {k = k} {l = j} s ws ns enter into next) (written_entered (position_of s) k (written_moved f m x is (subst (λ (ns' : List TryNote). Written (position_of inside) (emitted b ws ns') (emitted c ws_new ns_new) j l (f (position_of inside)) (m (position_of inside)) (x (position_of inside))) same u)))) (written_plain s ws_new ns_new l (written_of leave)))

-- ---- blocks

abbrev items_fit : List Stmt → Position → World → Type 0
items_fit items q w = StmtsFit q.room (kept_values q.frames) (stmts_in q w items)

abbrev items_count : List Stmt → Position → World → ℕ
items_count items q w = count_stmts (stmts_in q w items)

abbrev items_code : List Stmt → Position → World → ℕ → Code
items_code items q w i = block_functions (scene_at (setting q w) q.frames) (stmts_in q w items) ++ stmts_code (setting q w) (stmts_in q w items) i q.frames

items_written : {a b c : List ℕ} {ws ws_new : List Wait} {ns ns_new : List TryNote} {k l : ℕ} (s : StmtContext) (items : List Stmt) → BlockFunctionsEmit s.exprs a b items → StmtsWritten (position_of s) (emitted b ws ns) (emitted c ws_new ns_new) k l items
    → Written (position_of s) (emitted a ws ns) (emitted c ws_new ns_new) k l (items_fit items (position_of s)) (items_count items (position_of s)) (items_code items (position_of s))
items_written {ws = ws} {ns = ns} {k = k} s items x y =
    written_by (λ w f. (tt, f)) (λ w f. zero-add _)
    (λ w stands f. ap₂ (λ (c : Scene) (i : ℕ). block_functions c (stmts_in (position_of s) w items) ++ stmts_code (setting (position_of s) w) (stmts_in (position_of s) w items) i (position_of s).frames) (scene_is (position_of s) w stands) (add-zero k))
    (written_both (written_plain s ws ns k x.made) y.code)

pub block_scoped : {a b c d e : List ℕ} {ws ws_new : List Wait} {ns ns_in ns_new : List TryNote} {k j l number : ℕ} {flag : Bool} (s inside : StmtContext) (items : List Stmt)
    → ((w : World) → flag ≡ declares (lexical_names (stmts_in (position_of s) w items))) → (flag && nat_lt 0 (position_of s).room) ≡ true
    → position_of inside ≡ inner_position (position_of s) k → ((w : World) → EmitsAt s.exprs a b (enter_scope (setting (position_of s) w) k)) → (k + 1 < 2 ^ 64 → j ≡ k + 1) → ns_in ≡ ns
    → BlockFunctionsEmit inside.exprs b c items → StmtsWritten (position_of inside) (emitted c ws ns_in) (emitted d ws_new ns_new) j l items
    → number ≡ k → EmitsAt s.exprs d e (leave_scope (position_of s).scopes number)
    → BlockWritten (position_of s) (emitted a ws ns) (emitted e ws_new ns_new) k l items
block_scoped {k = k} {flag = flag} s inside items flag_is enters is into next same x y number_is leave = record {
  code = written_by (λ w g. subst (λ (r : ℕ). StmtsFit r (kept_values (position_of s).frames) (stmts_in (position_of s) w items)) (room_some (names w) (position_of s).room (some w)) g.1)
      (λ w g. ap (λ (n : ℕ). n + items_count items (position_of s) w) (sym (count_some (names w) (some w))))
      (λ w stands g. ap (λ (c : Code). c ++ leave_scope (position_of s).scopes k) (sym (append_assoc (enter_scope (setting (position_of s) w) k) _ _))
      ∙ sym (scoped (setting (position_of s) w) (names w) (λ c. block_functions c (stmts_in (position_of s) w items)) (stmts_code (setting (position_of s) w) (stmts_in (position_of s) w items)) k (position_of s).frames (some w)))
      (written_scope s inside (items_fit items) (items_count items) (items_code items) (enter_scope (setting (position_of s) nowhere) k) is (into nowhere) next same (items_written inside items x y) number_is leave);
}
  where
    names : World → List Declaration
    names w = lexical_names (stmts_in (position_of s) w items)

    some : (w : World) → declares (names w) ≡ true
    some w = sym (flag_is w) ∙ declared_some flag (position_of s).room enters

pub block_plain : {a b c : List ℕ} {ws ws_new : List Wait} {ns ns_new : List TryNote} {k l : ℕ} {flag : Bool} (s : StmtContext) (items : List Stmt)
    → ((w : World) → flag ≡ declares (lexical_names (stmts_in (position_of s) w items))) → (flag && nat_lt 0 (position_of s).room) ≡ false
    → BlockFunctionsEmit s.exprs a b items → StmtsWritten (position_of s) (emitted b ws ns) (emitted c ws_new ns_new) k l items
    → BlockWritten (position_of s) (emitted a ws ns) (emitted c ws_new ns_new) k l items
block_plain {k = k} {flag = flag} s items flag_is none x y = record {
  code = written_by (λ w g. subst (λ (r : ℕ). StmtsFit r (kept_values (position_of s).frames) (stmts_in (position_of s) w items)) (room_none (names w) (position_of s).room (out w g.0)) g.1)
      (λ w g. sym (zero-add (items_count items (position_of s) w)) ∙ ap (λ (n : ℕ). n + items_count items (position_of s) w) (sym (count_none (names w) (out w g.0))))
      (λ w stands g. sym (unscoped (setting (position_of s) w) (names w) (λ c. block_functions c (stmts_in (position_of s) w items)) (stmts_code (setting (position_of s) w) (stmts_in (position_of s) w items)) k (position_of s).frames (out w g.0)))
      (items_written s items x y);
}
  where
    names : World → List Declaration
    names w = lexical_names (stmts_in (position_of s) w items)

    out : (w : World) → HasRoom (names w) (position_of s).room → declares (names w) ≡ false
    out w fits = left_out flag (names w) (position_of s).room (flag_is w) none fits
