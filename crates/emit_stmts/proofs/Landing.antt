-- Jumps that wait for clauses of a switch, landed apart from those that do not.
use Rattle.std.proofs.Common.{◌≡◌, ℕ, ◌+◌, ◌<◌, ◌≤◌, ◌^◌, Bool, true, false, List, [], ◌∷◌, ◌++◌, Vec, Global, length, drop, refl, sym, ◌∙◌, ap, ap₂, subst, arith}
use Rattle.std.proofs.lemmas.Bool.{ne_eqb, eqb-false, eqb-true}
use Rattle.bytecode_buf.specs.declared.opcode.Op.TheVariants as op
use Rattle.bytecode_buf.specs.declared.waits.Aim.{Aim}
use Rattle.bytecode_buf.specs.declared.waits.Aim.TheVariants as aim
use Rattle.bytecode_buf.specs.declared.waits.Wait.{Wait}
use Rattle.bytecode_buf.specs.Appends.{AllRoom, patched, patched_one, kept, kept_one}
use Rattle.bytecode_buf.specs.Emits.{Emits, LandsHere}
use Rattle.bytecode_buf.specs.Bytes.{le_bytes, written}
use Rattle.bytecode_buf.specs.Layout.{distance_bits}
use Rattle.bytecode_buf.specs.Pieces.{same_aim}
use Rattle.bytecode_buf.proofs.AppendLemmas.{appends_both, appends_landed}
use Rattle.emit_exprs.specs.Whole.{just}
use Rattle.emit_stmts.specs.Apart.{is_clause, place_of}
use Rattle.emit_stmts.specs.Clauses.{NoClause, InOrder, Among, TestLanded, ClauseLanded}
use Rattle.emit_stmts.specs.declared.switching.ClauseJumps.{ClauseJumps}

-- ---- landing where nothing is meant

-- each waits for something else
abbrev pub Others : Aim → List Wait → Type 0
Others goal [] = Unit {0}
Others goal (w ∷ ws) = (same_aim goal w.aim ≡ false) × Others goal ws

pub patched-others : (goal : Aim) (ws : List Wait) (bytes : List ℕ) → Others goal ws → patched goal ws bytes ≡ bytes
patched-others goal [] bytes x = refl
patched-others goal (w ∷ ws) bytes x = ap (λ (b : Bool). patched goal ws (patched_one b w.at bytes)) x.0 ∙ patched-others goal ws bytes x.1

pub kept-others : (goal : Aim) (ws : List Wait) → Others goal ws → kept goal ws ≡ ws
kept-others goal [] x = refl
kept-others goal (w ∷ ws) x = ap (λ (b : Bool). kept_one b w (kept goal ws)) x.0 ∙ ap (λ (l : List Wait). w ∷ l) (kept-others goal ws x.1)

other_aim : (place : ℕ) (a : Aim) → is_clause a ≡ false → same_aim (aim.Clause place) a ≡ false
other_aim place (aim.Clause n) x = cc
other_aim place aim.Otherwise x = refl
other_aim place aim.After x = refl
other_aim place (aim.Break n) x = refl
other_aim place (aim.Continue n) x = refl

pub others_none : (place : ℕ) (ws : List Wait) → NoClause ws → Others (aim.Clause place) ws
others_none place [] x = tt
others_none place (w ∷ ws) x = (other_aim place w.aim x.0, others_none place ws x.1)

later_aim : (place : ℕ) (a : Aim) → is_clause a ≡ true → place < place_of a → same_aim (aim.Clause place) a ≡ false
later_aim place (aim.Clause n) x lt = ne_eqb place n (λ is. omega (arith, is))
later_aim place aim.Otherwise x lt = cc
later_aim place aim.After x lt = cc
later_aim place (aim.Break n) x lt = cc
later_aim place (aim.Continue n) x lt = cc

pub others_later : (place from to : ℕ) (ws : List Wait) → place < from → InOrder from to ws → Others (aim.Clause place) ws
others_later place from to [] lt x = tt
others_later place from to (w ∷ ws) lt x = (later_aim place w.aim x.0 (omega (arith, x.1)), others_later place (place_of w.aim + 1) to ws (omega (arith, x.1)) x.2)

-- ---- landing one list after the other

pub patched-append : (goal : Aim) (xs ys : List Wait) (bytes : List ℕ) → patched goal (xs ++ ys) bytes ≡ patched goal ys (patched goal xs bytes)
patched-append goal [] ys bytes = refl
patched-append goal (w ∷ ws) ys bytes = patched-append goal ws ys (patched_one (same_aim goal w.aim) w.at bytes)

kept_one-append : (meant : Bool) (w : Wait) (xs ys : List Wait) → kept_one meant w (xs ++ ys) ≡ kept_one meant w xs ++ ys
kept_one-append true w xs ys = refl
kept_one-append false w xs ys = refl

pub kept-append : (goal : Aim) (xs ys : List Wait) → kept goal (xs ++ ys) ≡ kept goal xs ++ kept goal ys
kept-append goal [] ys = refl
kept-append goal (w ∷ ws) ys = ap (kept_one (same_aim goal w.aim) w) (kept-append goal ws ys) ∙ kept_one-append (same_aim goal w.aim) w (kept goal ws) (kept goal ys)

-- a clause's own jumps, those of its test and of the default, landed apart from what else waits
clause_lands : {a b c d : List ℕ} {tests_left fallback_left : List Wait} (tests fallback : List Wait) (place : ℕ) → length a < 2 ^ 64
    → b ≡ patched (aim.Clause place) tests a → tests_left ≡ kept (aim.Clause place) tests
    → c ≡ patched (aim.Clause place) fallback b → fallback_left ≡ kept (aim.Clause place) fallback
    → ((texts : List (List ℕ)) → Emits texts c d (just op.JumpTarget))
    → (rest : List Wait) → NoClause rest → LandsHere (aim.Clause place) a ((tests ++ fallback) ++ rest) [] d ((tests_left ++ fallback_left) ++ rest)
clause_lands {a} {b} {c} {d} {tests_left} {fallback_left} tests fallback place small bytes_b left_b bytes_c left_c target rest apart texts start notes notes_now code x =
    appends_both (appends_landed texts (aim.Clause place) start a c inner [] new notes notes_now code small patches keeps x) ((target texts).anywhere new notes_now)
  where
    inner : List Wait
    inner = (tests ++ fallback) ++ rest

    new : List Wait
    new = (tests_left ++ fallback_left) ++ rest

    patches : c ≡ patched (aim.Clause place) inner a
    patches = bytes_c
        ∙ (ap (patched (aim.Clause place) fallback) bytes_b
        ∙ (sym (patched-append (aim.Clause place) tests fallback a)
        ∙ (sym (patched-others (aim.Clause place) rest (patched (aim.Clause place) (tests ++ fallback) a) (others_none place rest apart))
        ∙ sym (patched-append (aim.Clause place) (tests ++ fallback) rest a))))

    keeps : new ≡ kept (aim.Clause place) inner
    keeps = ap₂ (λ (x : List Wait) (y : List Wait). (x ++ y) ++ rest) left_b left_c
        ∙ (ap (λ (x : List Wait). x ++ rest) (sym (kept-append (aim.Clause place) tests fallback))
        ∙ (ap (λ (x : List Wait). kept (aim.Clause place) (tests ++ fallback) ++ x) (sym (kept-others (aim.Clause place) rest (others_none place rest apart)))
        ∙ sym (kept-append (aim.Clause place) (tests ++ fallback) rest)))

-- ---- the jump of one test

-- a jump that waits for this clause
meant_place : (place : ℕ) (a : Aim) → same_aim (aim.Clause place) a ≡ true → place_of a ≡ place
meant_place place (aim.Clause n) x = sym (eqb-true place n x)
meant_place place aim.Otherwise x = cc
meant_place place aim.After x = cc
meant_place place (aim.Break n) x = cc
meant_place place (aim.Continue n) x = cc

other_place : (place : ℕ) (a : Aim) → same_aim (aim.Clause place) a ≡ false → is_clause a ≡ true → place ≤ place_of a → place < place_of a
other_place place (aim.Clause n) x is le = omega (arith, eqb-false place n x)
other_place place aim.Otherwise x is le = cc
other_place place aim.After x is le = cc
other_place place (aim.Break n) x is le = cc
other_place place (aim.Continue n) x is le = cc

pub in_order_le : (from to : ℕ) (ws : List Wait) → InOrder from to ws → from ≤ to
in_order_le from to [] x = x
in_order_le from to (w ∷ ws) x = let further : place_of w.aim + 1 ≤ to = in_order_le (place_of w.aim + 1) to ws x.2 in omega (arith, x.1)

pub test_meant : {place to : ℕ} {old new : List ℕ} {tests : List Wait} (w : Wait) (further : List Wait) → tests ≡ w ∷ further → same_aim (aim.Clause place) w.aim ≡ true
    → new ≡ written (w.at + 1) (le_bytes 8 (distance_bits w.at (length old))) old → InOrder place to tests → TestLanded place to old tests new further
test_meant {place} {to} {old} {new} {tests} w further is meant patch order = record {
  bytes = sym (ap (λ (l : List Wait). patched (aim.Clause place) l old) is
      ∙ (ap (λ (b : Bool). patched (aim.Clause place) further (patched_one b w.at old)) meant
      ∙ (ap (patched (aim.Clause place) further) (sym patch) ∙ patched-others (aim.Clause place) further new others)));
  left = sym (ap (kept (aim.Clause place)) is ∙ (ap (λ (b : Bool). kept_one b w (kept (aim.Clause place) further)) meant ∙ kept-others (aim.Clause place) further others));
  order = later;
}
  where
    later : InOrder (place + 1) to further
    later = subst (λ (n : ℕ). InOrder (n + 1) to further) (meant_place place w.aim meant) (subst (InOrder place to) is order).2

    others : Others (aim.Clause place) further
    others = others_later place (place + 1) to further (omega arith) later

unmeant : {place to : ℕ} {old : List ℕ} {tests : List Wait} → InOrder (place + 1) to tests → TestLanded place to old tests old tests
unmeant {place} {to} {old} {tests} order = record {
  bytes = sym (patched-others (aim.Clause place) tests old (others_later place (place + 1) to tests (omega arith) order));
  left = sym (kept-others (aim.Clause place) tests (others_later place (place + 1) to tests (omega arith) order));
  order = order;
}

pub test_other : {place to : ℕ} {old : List ℕ} {tests : List Wait} (w : Wait) (further : List Wait) → tests ≡ w ∷ further → same_aim (aim.Clause place) w.aim ≡ false → InOrder place to tests → TestLanded place to old tests old tests
test_other {place} {to} {old} {tests} w further is other order =
    let whole : InOrder place to (w ∷ further) = subst (InOrder place to) is order in
    let above : place < place_of w.aim = other_place place w.aim other whole.0 whole.1 in
    unmeant (subst (InOrder (place + 1) to) (sym is) (whole.0, omega (arith, above), whole.2))

pub test_none : {place to : ℕ} {old : List ℕ} {tests : List Wait} → tests ≡ [] → place < to → TestLanded place to old tests old tests
test_none {place} {to} {old} {tests} is lt = unmeant (subst (InOrder (place + 1) to) (sym is) (omega arith))

-- ---- the tests of all clauses

pub in_order_more : (from to : ℕ) (ws : List Wait) → InOrder from to ws → InOrder from (to + 1) ws
in_order_more from to [] x = omega (arith, x)
in_order_more from to (w ∷ ws) x = (x.0, x.1, in_order_more (place_of w.aim + 1) to ws x.2)

pub in_order_last : (from to at : ℕ) (ws : List Wait) → InOrder from to ws → InOrder from (to + 1) (ws ++ record { at = at; aim = aim.Clause to } ∷ [])
in_order_last from to at [] x = (refl, x, omega arith)
in_order_last from to at (w ∷ ws) x = (x.0, x.1, in_order_last (place_of w.aim + 1) to at ws x.2)

-- ---- the jump for where no test holds

among_one : (place to : ℕ) (meant : Bool) (w : Wait) (further : List Wait) → same_aim (aim.Clause place) w.aim ≡ meant → (is_clause w.aim ≡ true → (place ≤ place_of w.aim) × (place_of w.aim < to)) → Among (place + 1) to further → Among (place + 1) to (kept_one meant w further)
among_one place to true w further is x y = y
among_one place to false w further is x y = ((λ c. (omega (arith, other_place place w.aim is c (x c).0), (x c).1)), y)

pub among_kept : (place to : ℕ) (ws : List Wait) → Among place to ws → Among (place + 1) to (kept (aim.Clause place) ws)
among_kept place to [] x = tt
among_kept place to (w ∷ ws) x = among_one place to (same_aim (aim.Clause place) w.aim) w (kept (aim.Clause place) ws) refl x.0 (among_kept place to ws x.1)

-- ---- both

pub first_room : (size : ℕ) (xs ys : List Wait) → AllRoom size (xs ++ ys) → AllRoom size xs
first_room size [] ys x = tt
first_room size (w ∷ ws) ys x = (x.0, first_room size ws ys x.1)

pub second_room : (size : ℕ) (xs ys : List Wait) → AllRoom size (xs ++ ys) → AllRoom size ys
second_room size [] ys x = x
second_room size (w ∷ ws) ys x = second_room size ws ys x.1

-- the jumps to a clause landed, by what the steps say
pub clause_landed : {a b c d : List ℕ} {tests otherwise held : List Wait} {place to now : ℕ} (jumps : ClauseJumps) (kept_now : Vec Wait Global) → length a < 2 ^ 64
    → tests ≡ jumps.tests.items → otherwise ≡ jumps.otherwise.items → held ≡ []
    → (InOrder place to (drop jumps.landed tests) → TestLanded place to a (drop jumps.landed tests) b (drop now tests))
    → c ≡ patched (aim.Clause place) otherwise b → kept_now.items ≡ held ++ kept (aim.Clause place) otherwise
    → ((texts : List (List ℕ)) → Emits texts c d (just op.JumpTarget))
    → InOrder place to (drop jumps.landed jumps.tests.items) → ClauseLanded place to a jumps d (record { tests = jumps.tests; landed = now; otherwise = kept_now })
clause_landed {a} {b} {c} {d} {tests} {otherwise} {held} {place} {to} {now} jumps kept_now small tests_is otherwise_is empty test bytes keeps target order = record {
  lands = clause_lands (drop jumps.landed jumps.tests.items) jumps.otherwise.items place small landed.bytes landed.left (bytes ∙ ap (λ (l : List Wait). patched (aim.Clause place) l b) otherwise_is) kept_is target;
  order = landed.order;
  among = λ x. subst (Among (place + 1) to) (sym kept_is) (among_kept place to jumps.otherwise.items x);
}
  where
    landed : TestLanded place to a (drop jumps.landed jumps.tests.items) b (drop now jumps.tests.items)
    landed = subst (λ (l : List Wait). TestLanded place to a (drop jumps.landed l) b (drop now l)) tests_is (test (subst (λ (l : List Wait). InOrder place to (drop jumps.landed l)) (sym tests_is) order))

    kept_is : kept_now.items ≡ kept (aim.Clause place) jumps.otherwise.items
    kept_is = keeps ∙ (ap (λ (l : List Wait). l ++ kept (aim.Clause place) otherwise) empty ∙ ap (kept (aim.Clause place)) otherwise_is)

-- ---- after the last clause

is_none : (b : Bool) → (b ≡ true → ⊥) → b ≡ false
is_none true none = absurd (none refl)
is_none false none = refl

pub among_end : (to : ℕ) (ws : List Wait) → Among to to ws → NoClause ws
among_end to [] x = tt
among_end to (w ∷ ws) x = (is_none (is_clause w.aim) (λ c. omega (arith, (x.0 c).0, (x.0 c).1)), among_end to ws x.1)

pub in_order_end : (to : ℕ) (ws : List Wait) → InOrder to to ws → ws ≡ []
in_order_end to [] x = refl
in_order_end to (w ∷ ws) x = absurd (omega (arith, x.1, in_order_le (place_of w.aim + 1) to ws x.2))
