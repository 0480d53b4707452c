-- Slots that are hidden, one after the other.
use Rattle.std.proofs.Common.{◌≡◌, ℕ, ◌<◌, ◌^◌, ◌==◌, false, List, [], ◌∷◌, map, length, sym, subst, true≢false}
use Rattle.bytecode_buf.specs.declared.opcode.Op.TheVariants as op
use Rattle.bytecode_buf.specs.Command.{plain, counted}
use Rattle.bytecode_buf.specs.Emits.{Emits}
use Rattle.bytecode_buf.specs.Pieces.{Code, one}
use Rattle.bytecode_buf.proofs.AppendLemmas.{emits_none, emits_both}
use Rattle.emit_exprs.specs.Whole.{just}
use Rattle.emit_exprs.proofs.Singles.{whole-append}
use Rattle.emit_stmts.specs.Scoping.{AllBelow, hiding_each}
use Rattle.emit_stmts.specs.Stmts.{hiding}

-- what is appended for those that are left makes the whole
pub record HidesLeft (start now : List ℕ) (all left : List ℕ) : Type 0 where
  pub emits : (texts : List (List ℕ)) (later : List ℕ) → Emits texts now later (hiding_each left) → Emits texts start later (hiding_each all)
  pub fits : AllBelow (2 ^ 24) left

pub hides_begin : (now all : List ℕ) → AllBelow (2 ^ 24) all → HidesLeft now now all all
hides_begin now all fits = record { emits = λ texts later e. e; fits = fits }

pub hides_fits : {start now all : List ℕ} (left further : List ℕ) (slot : ℕ) → left ≡ slot ∷ further → HidesLeft start now all left → slot < 2 ^ 24
hides_fits left further slot is l = (subst (AllBelow (2 ^ 24)) is l.fits).0

pub hides_next : {start now next all : List ℕ} (left further : List ℕ) (slot : ℕ) → left ≡ slot ∷ further → ((texts : List (List ℕ)) → Emits texts now next (one (counted op.InitLexical slot))) → HidesLeft start now all left → HidesLeft start next all further
hides_next {now = now} left further slot is x l = record {
  emits = λ texts later e. l.emits texts later (subst (λ (ss : List ℕ). Emits texts now later (hiding_each ss)) (sym is) (emits_both (x texts) e));
  fits = (subst (AllBelow (2 ^ 24)) is l.fits).1;
}

pub hides_end : {start now all : List ℕ} (left : List ℕ) → left ≡ [] → HidesLeft start now all left → (texts : List (List ℕ)) → Emits texts start now (hiding_each all)
hides_end {now = now} left none l texts = l.emits texts now (subst (λ (ss : List ℕ). Emits texts now now (hiding_each ss)) (sym none) (emits_none texts now))

-- the marker, these slots and a pop, where there are some
pub hidden : {texts : List (List ℕ)} {a b c d : List ℕ} (slots : List ℕ) → false ≡ (length slots == 0) → Emits texts a b (just op.Uninitialized) → Emits texts b c (hiding_each slots) → Emits texts c d (just op.Pop) → Emits texts a d (hiding slots)
hidden [] some x y z = absurd (true≢false (sym some))
hidden {texts} {a} {d = d} (s ∷ ss) some x y z =
    subst (λ (code : Code). Emits texts a d code) (sym (whole-append (plain op.Uninitialized ∷ map (λ (i : ℕ). counted op.InitLexical i) (s ∷ ss)) (plain op.Pop ∷ [])))
    (emits_both (emits_both x y) z)
