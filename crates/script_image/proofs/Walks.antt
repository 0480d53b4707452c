-- The loops over some instructions of a code.
use Rattle.std.proofs.Common.{◌≡◌, ℕ, zero, suc, ◌+◌, ◌-◌, ◌<◌, ◌≤◌, Bool, true, false, List, [], ◌++◌, length, drop, get_or, Option, Some, None, option_map, refl, ap, sym, ◌∙◌, append_assoc, append-nil, arith}
use Rattle.std.specs.Prelude.{flat_map}
use Rattle.stencil_data.specs.declared.stencils.TryNote.{TryNote}
use Rattle.bytecode_buf.specs.declared.instruction.Instr.{Instr}
use Rattle.bytecode_buf.specs.declared.opcode.Op.{Op}
use Rattle.bytecode_buf.specs.Layout.{Numbered, decoded, instr_at, instr_by}
use Rattle.bytecode_buf.specs.Width.{is_jump, width_of}
use Rattle.bytecode_buf.specs.Command.{listed_from}
use Rattle.script_image.specs.CodeLines.{line, listing, note_line}
use Rattle.script_image.specs.ReadLines as read
use Rattle.script_image.proofs.CodeLoop.{line_next, reads_end, reads_next, reads_none}
use Rattle.script_image.specs.Pieces.{behind, left_from, walked}

-- what is listed of a code from an offset on, after n instructions
abbrev pub rest_of : List (List ℕ) → List ℕ → ℕ → ℕ → List ℕ
rest_of texts code at turn = listing (listed_from texts at (left_from code at turn))

-- the loop has come to an offset after n instructions
pub record Walking (texts : List (List ℕ)) (code now all : List ℕ) (at turn end from count : ℕ) : Type 0 where
  pub text : now ++ rest_of texts code at turn ≡ all
  pub within : turn ≤ end
  pub walk : walked code at (end - turn) ≡ walked code from count

-- ---- one step of a walk

next_by : (b : Bool) (op : Op) (a c next : ℕ) → (instr_by b op a c next).next ≡ next
next_by true op a c next = refl
next_by false op a c next = refl

walked_as : (code : List ℕ) (at n : ℕ) (instr : Instr) (d : Option Numbered) → decoded (drop at code) ≡ d → Some instr ≡ option_map (instr_at at) d → walked code at (suc n) ≡ walked code instr.next n
walked_as code at n instr None none is = absurd (cc)
walked_as code at n instr (Some i) some is =
    let same : instr ≡ instr_at at i = cc in
    let next_is : instr.next ≡ at + width_of i.op = ap (λ (x : Instr). x.next) same ∙ next_by (is_jump i.op) i.op i.a i.b (at + width_of i.op) in
    ap (λ (o : Option Numbered). behind o at (λ (next : ℕ). walked code next n)) some ∙ ap (λ (next : ℕ). walked code next n) (sym next_is)

walked_next : (code : List ℕ) (at n : ℕ) (instr : Instr) → Some instr ≡ option_map (instr_at at) (decoded (drop at code)) → walked code at (suc n) ≡ walked code instr.next n
walked_next code at n instr is = walked_as code at n instr (decoded (drop at code)) refl is

stays_as : (code : List ℕ) (at n : ℕ) (d : Option Numbered) → decoded (drop at code) ≡ d → None ≡ option_map (instr_at at) d → walked code at (suc n) ≡ at
stays_as code at n None none is = ap (λ (o : Option Numbered). behind o at (λ (next : ℕ). walked code next n)) none
stays_as code at n (Some i) some is = absurd (cc)

-- where nothing is read the walk stays
pub stays : (code : List ℕ) (at n : ℕ) → None ≡ option_map (instr_at at) (decoded (drop at code)) → walked code at n ≡ at
stays code at zero is = refl
stays code at (suc n) is = stays_as code at n (decoded (drop at code)) refl is

-- a walk of some instructions goes on behind the first
pub goes_on : (code : List ℕ) (at turn end from count : ℕ) (instr : Instr) → turn < end → Some instr ≡ option_map (instr_at at) (decoded (drop at code)) → walked code at (end - turn) ≡ walked code from count → walked code instr.next (end - (turn + 1)) ≡ walked code from count
goes_on code at turn end from count instr more is walk =
    let one : end - turn ≡ suc (end - (turn + 1)) = omega arith in
    sym (walked_next code at (end - (turn + 1)) instr is) ∙ ap (walked code at) (sym one) ∙ walk

-- ---- the loop that prints

pub walking_start : (texts : List (List ℕ)) (code now : List ℕ) (at turn end : ℕ) → turn ≤ end → Walking texts code now (now ++ rest_of texts code at turn) at turn end at (end - turn)
walking_start texts code now at turn end within = record { text = refl; within = within; walk = refl }

pub walking_next : (texts : List (List ℕ)) (code now new all : List ℕ) (at turn end from count : ℕ) (instr : Instr) → ((k : ℕ) → get_or code k 0 < 256) → turn < end → end ≤ length code → Some instr ≡ option_map (instr_at at) (decoded (drop at code))
    → new ≡ now ++ line (read.read_as texts at instr) → Walking texts code now all at turn end from count → Walking texts code new all instr.next (turn + 1) end from count
walking_next texts code now new all at turn end from count instr bytes more there is new_is w = record {
  text = line_next texts code now new all at turn instr (reads_next code at turn instr bytes (omega (arith, more, there)) is) new_is w.text;
  within = omega (arith, more);
  walk = goes_on code at turn end from count instr more is w.walk;
}

-- nothing more is read
rest_none : (texts : List (List ℕ)) (code : List ℕ) (at turn : ℕ) → None ≡ option_map (instr_at at) (decoded (drop at code)) → rest_of texts code at turn ≡ []
rest_none texts code at turn is = by_turn (length code - turn) refl
  where
    by_turn : (n : ℕ) → length code - turn ≡ n → rest_of texts code at turn ≡ []
    by_turn zero e = ap (λ l. listing (listed_from texts at l)) (reads_end code at turn (omega (arith, e)))
    by_turn (suc n) e = ap (λ l. listing (listed_from texts at l)) (reads_none code at turn (omega (arith, e)) is)

pub walking_none : (texts : List (List ℕ)) (code now all : List ℕ) (at turn end from count : ℕ) → None ≡ option_map (instr_at at) (decoded (drop at code)) → Walking texts code now all at turn end from count → now ++ rest_of texts code (walked code from count) end ≡ all
walking_none texts code now all at turn end from count is w =
    let here : walked code from count ≡ at = sym w.walk ∙ stays code at (end - turn) is in
    ap (λ (next : ℕ). now ++ rest_of texts code next end) here
    ∙ ap (λ (text : List ℕ). now ++ text) (rest_none texts code at end is ∙ sym (rest_none texts code at turn is))
    ∙ w.text

pub walking_end : (texts : List (List ℕ)) (code now all : List ℕ) (at turn end from count : ℕ) → end ≤ turn → Walking texts code now all at turn end from count → now ++ rest_of texts code (walked code from count) end ≡ all
walking_end texts code now all at turn end from count done w =
    let within = w.within in
    let same : end ≡ turn = omega (arith, done, within) in
    let zero_is : end - turn ≡ 0 = omega (arith, same) in
    let here : walked code from count ≡ at = sym w.walk ∙ ap (walked code at) zero_is in
    ap (λ (next : ℕ). now ++ rest_of texts code next end) here
    ∙ ap (λ (n : ℕ). now ++ rest_of texts code at n) same
    ∙ w.text

-- ---- the rest of a script's lines

-- all instructions and then the notes
pub code_left : (texts : List (List ℕ)) (code : List ℕ) (notes : List TryNote) (now middle new : List ℕ) (at turn next end : ℕ) → end ≡ length code → middle ++ rest_of texts code next end ≡ now ++ rest_of texts code at turn → new ≡ middle ++ flat_map note_line notes
    → new ≡ now ++ (rest_of texts code at turn ++ flat_map note_line notes)
code_left texts code notes now middle new at turn next end end_is is new_is =
    let none : rest_of texts code next end ≡ [] = ap (λ l. listing (listed_from texts next l)) (reads_end code next end (omega (arith, end_is))) in
    let all : middle ≡ now ++ rest_of texts code at turn = sym (append-nil middle) ∙ ap (λ (text : List ℕ). middle ++ text) (sym none) ∙ is in
    new_is ∙ ap (λ (text : List ℕ). text ++ flat_map note_line notes) all ∙ append_assoc now (rest_of texts code at turn) (flat_map note_line notes)
