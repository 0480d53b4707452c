-- Code with jumps: binary lists and conditionals.
use Rattle.std.proofs.Common.{◌≡◌, ℕ, Bool, List, [], ◌∷◌, ◌++◌, map, length, refl, sym, ◌∙◌, ap, ap₂, subst, append_assoc, append-nil}
use Rattle.stencil_data.specs.declared.stencils.TryNote.{TryNote}
use Rattle.script_grammar.specs.Tree.{Stmts, no_stmts, more_operands}
use Rattle.script_grammar.specs.Tree as model
use Rattle.script_grammar.specs.TreeLists as part
use Rattle.script_grammar.specs.TreeLists.{operands_of}
use Rattle.script_grammar.specs.TreeOf.{expr_of, operand_of}
use Rattle.script_grammar.specs.Interpretation.{Interpretation}
use Rattle.script_grammar.specs.declared.tree.Expr.{Expr}
use Rattle.script_grammar.specs.declared.tree.Operand.{Operand, out-Operand}
use Rattle.script_grammar.proofs.PartEquations.{operand_of-fields}
use Rattle.bytecode_buf.specs.declared.opcode.Op.{Op}
use Rattle.bytecode_buf.specs.declared.opcode.Op.TheVariants as op
use Rattle.bytecode_buf.specs.declared.waits.Aim.TheVariants as aim
use Rattle.bytecode_buf.specs.declared.waits.Wait.{Wait}
use Rattle.bytecode_buf.specs.Pieces.{Code, Waiting, here}
use Rattle.bytecode_buf.specs.Appends.{Appends, AllRoom, kept}
use Rattle.bytecode_buf.specs.Emits.{Emits, Waits, LandsHere, emitted}
use Rattle.bytecode_buf.proofs.AppendLemmas.{appends_none, appends_both, appends_room, emits_both, emits_closed, AllAim, kept-all}
use Rattle.emit_operators.specs.declared.operators.Short.{Short}
use Rattle.emit_operators.specs.declared.operators.Joining.{Joining}
use Rattle.emit_operators.specs.declared.operators.Joining.TheVariants.{FromLeft, FromRight, Shortcut}
use Rattle.emit_exprs.specs.declared.site.Site.{Site}
use Rattle.emit_exprs.specs.declared.uses.Use.{Use}
use Rattle.emit_exprs.specs.declared.uses.Use.TheVariants.{Plainly}
use Rattle.emit_exprs.specs.Sites.{EmitsAt, scene_of}
use Rattle.emit_exprs.specs.Whole.{just}
use Rattle.emit_operators.specs.Operators.{short_op}
use Rattle.emit_exprs.specs.Exprs.{code_of, used_value, list_joining, powers, joined, before_operand, behind_operand, operands_code}
use Rattle.emit_exprs.specs.Fitting.{OperandsFit}
use Rattle.emit_exprs.specs.Shortcuts.{AllAfter, WaitsOf, Begins, Ends, Joins, OperandsEmit}
use Rattle.emit_exprs.specs.TreeCode.{at_site, RowEmits, ExprEmits}

-- ---- jumps over operands

pub begins_left : (bytes : List ℕ) (waits : List Wait) → Begins FromLeft bytes waits bytes waits
begins_left bytes waits = record { appends = λ texts notes. appends_none texts (emitted bytes waits notes); keeps = λ w. w }

pub begins_right : (bytes : List ℕ) (waits : List Wait) → Begins FromRight bytes waits bytes waits
begins_right bytes waits = record { appends = λ texts notes. appends_none texts (emitted bytes waits notes); keeps = λ w. w }

after_more : (ws : List Wait) (at : ℕ) → AllAfter ws → AllAfter (ws ++ record { at = at; aim = aim.After } ∷ [])
after_more [] at all = (refl, tt)
after_more (w ∷ ws) at all = (all.0, after_more ws at all.1)

pub begins_short : {bytes mid new : List ℕ} {ws ws_new : List Wait} (short : Short) (jump : Op) → jump ≡ short_op short → Waits jump aim.After bytes ws mid ws_new → ws_new ≡ ws ++ record { at = length bytes; aim = aim.After } ∷ [] → ((texts : List (List ℕ)) → Emits texts mid new (just op.Pop)) → Begins (Shortcut short) bytes ws new ws_new
begins_short {bytes} {mid} {new} {ws} {ws_new} short jump is waits made pop = record {
  appends = λ texts notes. subst (λ (o : Op). Appends texts (emitted bytes ws notes) (emitted new ws_new notes) (Waiting o aim.After ∷ just op.Pop)) is (appends_both (waits texts notes) ((pop texts).anywhere ws_new notes));
  keeps = λ all. subst AllAfter (sym made) (after_more ws (length bytes) all);
}

all_aim : (ws : List Wait) → AllAfter ws → AllAim aim.After ws
all_aim [] all = tt
all_aim (w ∷ ws) all = (all.0, all_aim ws all.1)

pub ends_of : (s : Site) {bytes new : List ℕ} {waits outside outside_new : List Wait} → outside ≡ [] → LandsHere aim.After bytes waits outside new outside_new → outside_new ≡ outside ++ kept aim.After waits → Ends s bytes waits new
ends_of s {bytes} {new} {waits} {outside} {outside_new} none lands made = record {
  under = λ all start code x.
      emits_closed s.texts.now start new outside_new (here aim.After code) (made ∙ ap₂ (λ (a : List Wait) (b : List Wait). a ++ b) none (kept-all aim.After waits (all_aim waits all)))
      (λ notes. subst (λ (o : List Wait). Appends s.texts.now (emitted start o notes) (emitted new outside_new notes) (here aim.After code)) none (lands s.texts.now start notes notes code (x notes)));
}

pub joins_left : (s : Site) (rest : List Operand) (bytes : List ℕ) (waits : List Wait) → Joins s FromLeft rest bytes waits bytes
joins_left s rest bytes waits = record { under = λ i none start code x. emits_closed s.texts.now start bytes waits code none x }

pub joins_right : (s : Site) (rest : List Operand) {bytes new : List ℕ} (waits : List Wait) → ((texts : List (List ℕ)) (i : Interpretation) → Emits texts bytes new (powers (operands_of (map (operand_of i) rest)))) → Joins s FromRight rest bytes waits new
joins_right s rest {bytes} {new} waits x = record { under = λ i none start code y. emits_both (emits_closed s.texts.now start bytes waits code none y) (x s.texts.now i) }

pub joins_short : (s : Site) (short : Short) (rest : List Operand) {bytes new : List ℕ} {waits : List Wait} → Ends s bytes waits new → Joins s (Shortcut short) rest bytes waits new
joins_short s short rest x = record { under = λ i all start code y. x.under all start code y }

-- ---- operands, one after the other

pub record OperandsLeft (s : Site) (how : Joining) (start : List ℕ) (begun : List Wait) (now : List ℕ) (waits : List Wait) (all left : List Operand) : Type 0 where
  pub written : Code
  pub appends : (notes : List TryNote) → Appends s.texts.now (emitted start begun notes) (emitted now waits notes) written
  pub keeps : WaitsOf how begun → WaitsOf how waits
  pub fits : (b : ℕ → Stmts) → OperandsFit (operands_of (map (operand_of (at_site s b)) all)) → OperandsFit (operands_of (map (operand_of (at_site s b)) left))
  pub is : (b : ℕ → Stmts) → OperandsFit (operands_of (map (operand_of (at_site s b)) all)) → written ++ operands_code (scene_of s) how (operands_of (map (operand_of (at_site s b)) left)) ≡ operands_code (scene_of s) how (operands_of (map (operand_of (at_site s b)) all))

pub operands_begin : (s : Site) (how : Joining) (start : List ℕ) (begun : List Wait) (all : List Operand) → OperandsLeft s how start begun start begun all all
operands_begin s how start begun all = record {
  written = [];
  appends = λ notes. appends_none s.texts.now (emitted start begun notes);
  keeps = λ w. w;
  fits = λ b f. f;
  is = λ b f. refl;
}

pub operands_next : {s : Site} {how : Joining} {start : List ℕ} {begun : List Wait} {now : List ℕ} {waits : List Wait} {all : List Operand} {mid last next : List ℕ} {waits_next : List Wait}
    (left further : List Operand) (o : Operand) (value : Expr) (is_word : Bool) (sign : ℕ)
    → left ≡ o ∷ further → value ≡ (out-Operand o).value → is_word ≡ (out-Operand o).is_word → sign ≡ (out-Operand o).op
    → Begins how now waits mid waits_next → ExprEmits s mid last Plainly value → EmitsAt s last next (behind_operand how is_word sign)
    → OperandsLeft s how start begun now waits all left → OperandsLeft s how start begun next waits_next all further
operands_next {s} {how} {all = all} {waits_next = waits_next} left further o value is_word sign is value_is word_is sign_is before x behind l = record {
  written = l.written ++ (before_operand how ++ x.row.code.written ++ behind_operand how is_word sign);
  appends = λ notes. appends_both (l.appends notes) (appends_both (appends_both (before.appends s.texts.now notes) (x.row.code.emits.anywhere waits_next notes)) (behind.anywhere waits_next notes));
  keeps = λ w. before.keeps (l.keeps w);
  fits = λ b f. (subst OperandsFit (same b) (l.fits b f)).1;
  is = λ b f.
      append_assoc l.written (before_operand how ++ x.row.code.written ++ behind_operand how is_word sign) (rest b)
      ∙ (ap (λ (c : Code). l.written ++ (before_operand how ++ c ++ behind_operand how is_word sign ++ rest b)) (x.row.code.is b (subst OperandsFit (same b) (l.fits b f)).0)
      ∙ (ap (λ (c : Code). l.written ++ c) (sym (ap (operands_code (scene_of s) how) (same b))) ∙ l.is b f));
}
  where
    rest : (ℕ → Stmts) → Code
    rest b = operands_code (scene_of s) how (operands_of (map (operand_of (at_site s b)) further))

    same : (b : ℕ → Stmts) → operands_of (map (operand_of (at_site s b)) left) ≡ more_operands sign is_word (expr_of (at_site s b) value) (operands_of (map (operand_of (at_site s b)) further))
    same b =
        ap (λ (os : List Operand). operands_of (map (operand_of (at_site s b)) os)) is
        ∙ (ap (λ (q : part.Operand). more_operands q.op q.is_word q.value (operands_of (map (operand_of (at_site s b)) further))) (operand_of-fields (at_site s b) o)
        ∙ (ap (λ (v : Expr). more_operands (out-Operand o).op (out-Operand o).is_word (expr_of (at_site s b) v) (operands_of (map (operand_of (at_site s b)) further))) (sym value_is)
        ∙ ap₂ (λ (w : Bool) (n : ℕ). more_operands n w (expr_of (at_site s b) value) (operands_of (map (operand_of (at_site s b)) further))) (sym word_is) (sym sign_is)))

pub operands_end : {s : Site} {how : Joining} {start : List ℕ} {begun : List Wait} {now : List ℕ} {waits : List Wait} {all : List Operand} (left : List Operand) → left ≡ [] → OperandsLeft s how start begun now waits all left → OperandsEmit s how start begun now waits all
operands_end {s} {how} left none l = record {
  written = l.written;
  appends = l.appends;
  keeps = l.keeps;
  is = λ b f. sym (append-nil l.written) ∙ (ap (λ (os : List Operand). l.written ++ operands_code (scene_of s) how (operands_of (map (operand_of (at_site s b)) os))) (sym none) ∙ l.is b f);
}

-- ---- binary lists

powers_same : (i j : Interpretation) (rest : List Operand) → powers (operands_of (map (operand_of i) rest)) ≡ powers (operands_of (map (operand_of j) rest))
powers_same i j [] = refl
powers_same i j (o ∷ os) = ap (λ (c : Code). just op.Pow ++ c) (powers_same i j os)

joined_same : (how : Joining) (i j : Interpretation) (rest : List Operand) (code : Code) → joined how (operands_of (map (operand_of i) rest)) code ≡ joined how (operands_of (map (operand_of j) rest)) code
joined_same FromLeft i j rest code = refl
joined_same FromRight i j rest code = ap (λ (c : Code). code ++ c) (powers_same i j rest)
joined_same (Shortcut short) i j rest code = refl

waits_none : (how : Joining) → WaitsOf how []
waits_none FromLeft = refl
waits_none FromRight = refl
waits_none (Shortcut short) = tt

-- the first operand and the others
list_appends : {s : Site} {start mid last : List ℕ} {begun waits : List Wait} {first : Expr} {rest : List Operand} {how : Joining} (x : ExprEmits s start mid Plainly first) → begun ≡ [] → (y : OperandsEmit s how mid begun last waits rest) → (notes : List TryNote) → Appends s.texts.now (emitted start [] notes) (emitted last waits notes) (x.row.code.written ++ y.written)
list_appends {s} {start} {mid} {last} {begun} {waits} x none y notes =
    appends_both (x.row.code.emits.anywhere [] notes) (subst (λ (ws : List Wait). Appends s.texts.now (emitted mid ws notes) (emitted last waits notes) y.written) none (y.appends notes))

pub list_room : {s : Site} {start mid last : List ℕ} {begun waits : List Wait} {first : Expr} {rest : List Operand} {how : Joining} → ExprEmits s start mid Plainly first → begun ≡ [] → OperandsEmit s how mid begun last waits rest → AllRoom (length last) waits
list_room x none y = appends_room refl (list_appends x none y [])

pub binary_row : {s : Site} {start mid last end new : List ℕ} {begun waits : List Wait} {wanted : Use} (first : Expr) (rest : List Operand) (how : Joining)
    → ((i : Interpretation) → how ≡ list_joining (operands_of (map (operand_of i) rest))) → begun ≡ []
    → ExprEmits s start mid Plainly first → OperandsEmit s how mid begun last waits rest → Joins s how rest last waits end → EmitsAt s end new (used_value wanted)
    → RowEmits s start new wanted (λ b. model.Binary (expr_of (at_site s b) first) (operands_of (map (operand_of (at_site s b)) rest)))
binary_row {s} {start} {wanted = wanted} first rest how how_is none x y z used = record {
  code = record {
    written = joined how (ops nobody) (x.row.code.written ++ y.written) ++ used_value wanted;
    emits = emits_both (z.under (at_site s nobody) (y.keeps (subst (WaitsOf how) (sym none) (waits_none how))) start (x.row.code.written ++ y.written) (list_appends x none y)) used;
    is = λ b f. ap (λ (c : Code). c ++ used_value wanted)
        (joined_same how (at_site s nobody) (at_site s b) rest (x.row.code.written ++ y.written)
        ∙ (ap₂ (λ (u : Code) (v : Code). joined how (ops b) (u ++ v)) (x.row.code.is b f.0) (y.is b f.1)
        ∙ ap (λ (h : Joining). joined h (ops b) (code_of (scene_of s) Plainly (expr_of (at_site s b) first) ++ operands_code (scene_of s) h (ops b))) (how_is (at_site s b))));
  };
}
  where
    nobody : ℕ → Stmts
    nobody start = no_stmts

    ops : (ℕ → Stmts) → model.Operands
    ops b = operands_of (map (operand_of (at_site s b)) rest)

-- ---- conditionals

-- up to the jump over the second branch
abbrev first_code : Code → Code → Code
first_code test first = test ++ (Waiting op.JumpIfFalse aim.Otherwise ∷ first) ++ (Waiting op.Goto aim.After ∷ [])

first_appends : {s : Site} {start a b c d : List ℕ} {w0 w1 w2 : List Wait} {test first : Expr} (x : ExprEmits s start a Plainly test) → w0 ≡ [] → Waits op.JumpIfFalse aim.Otherwise a w0 b w1 → (y : ExprEmits s b c Plainly first) → Waits op.Goto aim.After c w1 d w2 → (notes : List TryNote)
    → Appends s.texts.now (emitted start [] notes) (emitted d w2 notes) (first_code x.row.code.written y.row.code.written)
first_appends {s} {start} {a} {b} {c} {d} {w0} {w1} {w2} x none j y k notes =
    appends_both
    (appends_both (x.row.code.emits.anywhere [] notes)
    (appends_both (subst (λ (ws : List Wait). Appends s.texts.now (emitted a ws notes) (emitted b w1 notes) (Waiting op.JumpIfFalse aim.Otherwise ∷ [])) none (j s.texts.now notes)) (y.row.code.emits.anywhere w1 notes)))
    (k s.texts.now notes)

pub first_room : {s : Site} {start a b c d : List ℕ} {w0 w1 w2 : List Wait} {test first : Expr} → ExprEmits s start a Plainly test → w0 ≡ [] → Waits op.JumpIfFalse aim.Otherwise a w0 b w1 → ExprEmits s b c Plainly first → Waits op.Goto aim.After c w1 d w2 → AllRoom (length d) w2
first_room x none j y k = appends_room refl (first_appends x none j y k [])

abbrev second_code : Code → Code → Code → Code
second_code test first second = here aim.Otherwise (first_code test first) ++ second

second_appends : {s : Site} {start a b c d e f : List ℕ} {w0 w1 w2 e0 e1 : List Wait} {test first second : Expr} (x : ExprEmits s start a Plainly test) → w0 ≡ [] → Waits op.JumpIfFalse aim.Otherwise a w0 b w1 → (y : ExprEmits s b c Plainly first) → Waits op.Goto aim.After c w1 d w2
    → e0 ≡ [] → LandsHere aim.Otherwise d w2 e0 e e1 → (z : ExprEmits s e f Plainly second) → (notes : List TryNote)
    → Appends s.texts.now (emitted start [] notes) (emitted f e1 notes) (second_code x.row.code.written y.row.code.written z.row.code.written)
second_appends {s} {start} {e = e} {e1 = e1} x none j y k no_ends lands z notes =
    appends_both (subst (λ (ws : List Wait). Appends s.texts.now (emitted start ws notes) (emitted e e1 notes) (here aim.Otherwise (first_code x.row.code.written y.row.code.written))) no_ends (lands s.texts.now start notes notes _ (first_appends x none j y k notes)))
    (z.row.code.emits.anywhere e1 notes)

pub second_room : {s : Site} {start a b c d e f : List ℕ} {w0 w1 w2 e0 e1 : List Wait} {test first second : Expr} → ExprEmits s start a Plainly test → w0 ≡ [] → Waits op.JumpIfFalse aim.Otherwise a w0 b w1 → ExprEmits s b c Plainly first → Waits op.Goto aim.After c w1 d w2
    → e0 ≡ [] → LandsHere aim.Otherwise d w2 e0 e e1 → ExprEmits s e f Plainly second → AllRoom (length f) e1
second_room x none j y k no_ends lands z = appends_room refl (second_appends x none j y k no_ends lands z [])

-- no jump waits after a conditional
kept_none : (p q : ℕ) (w0 w1 w2 e0 e1 o0 o1 : List Wait) → w0 ≡ [] → e0 ≡ [] → o0 ≡ [] → w1 ≡ w0 ++ record { at = p; aim = aim.Otherwise } ∷ [] → w2 ≡ w1 ++ record { at = q; aim = aim.After } ∷ [] → e1 ≡ e0 ++ kept aim.Otherwise w2 → o1 ≡ o0 ++ kept aim.After e1 → o1 ≡ []
kept_none p q w0 w1 w2 e0 e1 o0 o1 n0 n1 n2 m1 m2 m3 m4 =
    m4 ∙ (ap₂ (λ (o : List Wait) (e : List Wait). o ++ kept aim.After e) n2 (m3 ∙ ap₂ (λ (e : List Wait) (w : List Wait). e ++ kept aim.Otherwise w) n1 (m2 ∙ ap (λ (w : List Wait). w ++ record { at = q; aim = aim.After } ∷ []) (m1 ∙ ap (λ (w : List Wait). w ++ record { at = p; aim = aim.Otherwise } ∷ []) n0))))

pub cond_row : {s : Site} {start a b c d e f g new : List ℕ} {w0 w1 w2 e0 e1 o0 o1 : List Wait} {wanted : Use} (test first second : Expr) (x : ExprEmits s start a Plainly test) → w0 ≡ [] → Waits op.JumpIfFalse aim.Otherwise a w0 b w1 → w1 ≡ w0 ++ record { at = length a; aim = aim.Otherwise } ∷ []
    → (y : ExprEmits s b c Plainly first) → Waits op.Goto aim.After c w1 d w2 → w2 ≡ w1 ++ record { at = length c; aim = aim.After } ∷ []
    → e0 ≡ [] → LandsHere aim.Otherwise d w2 e0 e e1 → e1 ≡ e0 ++ kept aim.Otherwise w2 → (z : ExprEmits s e f Plainly second)
    → o0 ≡ [] → LandsHere aim.After f e1 o0 g o1 → o1 ≡ o0 ++ kept aim.After e1 → EmitsAt s g new (used_value wanted)
    → RowEmits s start new wanted (λ bs. model.Cond (expr_of (at_site s bs) test) (expr_of (at_site s bs) first) (expr_of (at_site s bs) second))
cond_row {s} {start} {a} {b} {c} {d} {e} {f} {g} {new} {w0} {w1} {w2} {e0} {e1} {o0} {o1} {wanted} test first second x none j j_made y k k_made no_ends lands lands_made z no_outside ends ends_made used = record {
  code = record {
    written = here aim.After (second_code x.row.code.written y.row.code.written z.row.code.written) ++ used_value wanted;
    emits = emits_both
        (emits_closed s.texts.now start g o1 (here aim.After (second_code x.row.code.written y.row.code.written z.row.code.written)) (kept_none (length a) (length c) w0 w1 w2 e0 e1 o0 o1 none no_ends no_outside j_made k_made lands_made ends_made)
        (λ notes. subst (λ (ws : List Wait). Appends s.texts.now (emitted start ws notes) (emitted g o1 notes) (here aim.After (second_code x.row.code.written y.row.code.written z.row.code.written))) no_outside
        (ends s.texts.now start notes notes _ (second_appends x none j y k no_ends lands z notes))))
        used;
    is = λ bs fits. ap₂ (λ (u : Code) (v : Code). here aim.After (second_code u v z.row.code.written) ++ used_value wanted) (x.row.code.is bs fits.0) (y.row.code.is bs fits.1)
        ∙ ap (λ (v : Code). here aim.After (second_code (code_of (scene_of s) Plainly (expr_of (at_site s bs) test)) (code_of (scene_of s) Plainly (expr_of (at_site s bs) first)) v) ++ used_value wanted) (z.row.code.is bs fits.2);
  };
}
