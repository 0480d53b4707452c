-- Appending composes: code after code, jumps that are landed, jumps back.
use Rattle.std.proofs.Common.{◌≡◌, ℕ, ◌+◌, ◌-◌, ◌^◌, ◌<◌, ◌≤◌, Bool, true, false, if◌then◌else◌, List, [], ◌∷◌, ◌++◌, length, drop, map, refl, sym, ◌∙◌, ap, ap₂, subst, arith, length-append, append_assoc, append-nil, add_assoc, le-leb, true≢false, lit<, get_or, drop-cons, add-one}
use borrow.Author.Tests.{lt-leb}
use Rattle.stencil_data.specs.declared.stencils.TryNote.{TryNote}
use Rattle.bytecode_buf.specs.declared.opcode.Op.{Op}
use Rattle.bytecode_buf.specs.declared.opcode.Op.TheVariants as op
use Rattle.bytecode_buf.specs.declared.opcode.Shape.{Shape}
use Rattle.bytecode_buf.specs.declared.opcode.Shape.TheVariants as shape
use Rattle.bytecode_buf.specs.declared.waits.Aim.{Aim}
use Rattle.bytecode_buf.specs.declared.waits.Wait.{Wait}
use Rattle.bytecode_buf.specs.Bytes.{le_bytes, written}
use Rattle.bytecode_buf.specs.Table.{number_of}
use Rattle.bytecode_buf.specs.Width.{width_of, first_of, second_of, shape_of, is_jump, is_jump_shape, first_width, second_width}
use Rattle.bytecode_buf.specs.Layout.{Numbered, Fits, laid, distance_bits}
use Rattle.bytecode_buf.specs.Command.{Command, command_of, operand_of, jump, Distance, Operand}
use Rattle.bytecode_buf.specs.Pieces.{Piece, Whole, Waiting, Trying, Code, width_by, size_by, size, landed_by, landing, notes_by, note_of, same_aim, turning, command_width}
use Rattle.bytecode_buf.specs.Appends.{Appends, Emitted, PieceFits, PiecesFit, numbered, numbered_width, piece_instruction, piece_of, laid_pieces, waits_of, wait_of, patched, patched_one, kept, kept_one, AllRoom}
use Rattle.bytecode_buf.specs.Emits.{Lands, LandsHere, Emits, emitted}
use Rattle.bytecode_buf.proofs.Bytes.{written-seam}
use Rattle.bytecode_buf.proofs.ReadBack.{length-laid}

-- ---- pieces put together

pub laid_pieces-append : (ps qs : List (Piece Numbered)) → laid_pieces (ps ++ qs) ≡ laid_pieces ps ++ laid_pieces qs
laid_pieces-append [] qs = refl
laid_pieces-append (p ∷ ps) qs = ap (λ (l : List ℕ). laid (piece_instruction p) ++ l) (laid_pieces-append ps qs) ∙ sym (append_assoc (laid (piece_instruction p)) (laid_pieces ps) (laid_pieces qs))

-- the bytes of pieces
abbrev pub bytes_of : List (Piece Numbered) → ℕ
bytes_of [] = 0
bytes_of (p ∷ ps) = numbered_width (piece_instruction p) + bytes_of ps

pub length-laid_pieces : (ps : List (Piece Numbered)) → length (laid_pieces ps) ≡ bytes_of ps
length-laid_pieces [] = refl
length-laid_pieces (p ∷ ps) = length-append (laid (piece_instruction p)) (laid_pieces ps) ∙ ap₂ (λ (x : ℕ) (y : ℕ). x + y) (length-laid (piece_instruction p)) (length-laid_pieces ps)

pub width_by-instruction : (p : Piece Numbered) → width_by numbered_width p ≡ numbered_width (piece_instruction p)
width_by-instruction (Whole i) = refl
width_by-instruction (Waiting op aim) = refl
width_by-instruction (Trying size depth) = refl

pub size_by-bytes : (ps : List (Piece Numbered)) → size_by numbered_width ps ≡ bytes_of ps
size_by-bytes [] = refl
size_by-bytes (p ∷ ps) = ap₂ (λ (x : ℕ) (y : ℕ). x + y) (width_by-instruction p) (size_by-bytes ps)

pub wait_of-append : (at : ℕ) (p : Piece Numbered) (xs ys : List Wait) → wait_of at p (xs ++ ys) ≡ wait_of at p xs ++ ys
wait_of-append at (Whole i) xs ys = refl
wait_of-append at (Waiting op aim) xs ys = refl
wait_of-append at (Trying size depth) xs ys = refl

pub waits_of-append : (at : ℕ) (ps qs : List (Piece Numbered)) → waits_of at (ps ++ qs) ≡ waits_of at ps ++ waits_of (at + bytes_of ps) qs
waits_of-append at [] qs = let e : at + 0 ≡ at = omega arith in sym (ap (λ (k : ℕ). waits_of k qs) e)
waits_of-append at (p ∷ ps) qs =
    let w : ℕ = numbered_width (piece_instruction p) in
    let e : (at + w) + bytes_of ps ≡ at + (w + bytes_of ps) = add_assoc at w (bytes_of ps) in
    ap (wait_of at p) (waits_of-append (at + w) ps qs ∙ ap (λ (k : ℕ). waits_of (at + w) ps ++ waits_of k qs) e)
    ∙ wait_of-append at p (waits_of (at + w) ps) (waits_of (at + (w + bytes_of ps)) qs)

pub note_of-append : (at : ℕ) (p : Piece Numbered) (xs ys : List TryNote) → note_of at p (xs ++ ys) ≡ note_of at p xs ++ ys
note_of-append at (Whole i) xs ys = refl
note_of-append at (Waiting op aim) xs ys = refl
note_of-append at (Trying size depth) xs ys = refl

pub notes_by-append : (at : ℕ) (ps qs : List (Piece Numbered)) → notes_by numbered_width at (ps ++ qs) ≡ notes_by numbered_width at ps ++ notes_by numbered_width (at + bytes_of ps) qs
notes_by-append at [] qs = let e : at + 0 ≡ at = omega arith in sym (ap (λ (k : ℕ). notes_by numbered_width k qs) e)
notes_by-append at (p ∷ ps) qs =
    let w : ℕ = width_by numbered_width p in
    let e : (at + w) + bytes_of ps ≡ at + (numbered_width (piece_instruction p) + bytes_of ps) = add_assoc at w (bytes_of ps) ∙ ap (λ (k : ℕ). at + (k + bytes_of ps)) (width_by-instruction p) in
    ap (note_of at p) (notes_by-append (at + w) ps qs ∙ ap (λ (k : ℕ). notes_by numbered_width (at + w) ps ++ notes_by numbered_width k qs) e)
    ∙ note_of-append at p (notes_by numbered_width (at + w) ps) (notes_by numbered_width (at + (numbered_width (piece_instruction p) + bytes_of ps)) qs)

pub PiecesFit-append : (ps qs : List (Piece Numbered)) → PiecesFit ps → PiecesFit qs → PiecesFit (ps ++ qs)
PiecesFit-append [] qs f g = g
PiecesFit-append (p ∷ ps) qs f g = (f.0, PiecesFit-append ps qs f.1 g)

pub map_pieces-append : (texts : List (List ℕ)) (ps qs : List (Piece Numbered)) → map (piece_of texts) (ps ++ qs) ≡ map (piece_of texts) ps ++ map (piece_of texts) qs
map_pieces-append texts [] qs = refl
map_pieces-append texts (p ∷ ps) qs = ap (λ (l : Code). piece_of texts p ∷ l) (map_pieces-append texts ps qs)

-- ---- code after code

pub appends_none : (texts : List (List ℕ)) (now : Emitted) → Appends texts now now []
appends_none texts now = record {
  pieces = [];
  fit = tt;
  bytes = sym (append-nil now.bytes);
  waits = sym (append-nil now.waits);
  notes = sym (append-nil now.notes);
  stands = refl;
}

pub appends_both : {texts : List (List ℕ)} {old now new : Emitted} {first second : Code} → Appends texts old now first → Appends texts now new second → Appends texts old new (first ++ second)
appends_both {texts} {old} {now} {new} {first} {second} x y = record {
  pieces = x.pieces ++ y.pieces;
  fit = PiecesFit-append x.pieces y.pieces x.fit y.fit;
  bytes = y.bytes ∙ (ap (λ (l : List ℕ). l ++ laid_pieces y.pieces) x.bytes ∙ (append_assoc old.bytes (laid_pieces x.pieces) (laid_pieces y.pieces) ∙ ap (λ (l : List ℕ). old.bytes ++ l) (sym (laid_pieces-append x.pieces y.pieces))));
  waits = y.waits ∙ (ap₂ (λ (l : List Wait) (k : ℕ). l ++ waits_of k y.pieces) x.waits place ∙ (append_assoc old.waits (waits_of (length old.bytes) x.pieces) (waits_of (length old.bytes + bytes_of x.pieces) y.pieces) ∙ ap (λ (l : List Wait). old.waits ++ l) (sym (waits_of-append (length old.bytes) x.pieces y.pieces))));
  notes = y.notes ∙ (ap₂ (λ (l : List TryNote) (k : ℕ). l ++ notes_by numbered_width k y.pieces) x.notes place ∙ (append_assoc old.notes (notes_by numbered_width (length old.bytes) x.pieces) (notes_by numbered_width (length old.bytes + bytes_of x.pieces) y.pieces) ∙ ap (λ (l : List TryNote). old.notes ++ l) (sym (notes_by-append (length old.bytes) x.pieces y.pieces))));
  stands = map_pieces-append texts x.pieces y.pieces ∙ ap₂ (λ (l : Code) (m : Code). l ++ m) x.stands y.stands;
}
  where
    place : length now.bytes ≡ length old.bytes + bytes_of x.pieces
    place = ap length x.bytes ∙ (length-append old.bytes (laid_pieces x.pieces) ∙ ap (λ (k : ℕ). length old.bytes + k) (length-laid_pieces x.pieces))

-- one instruction
pub appends_one : (texts : List (List ℕ)) (bytes new : List ℕ) (ws : List Wait) (ns : List TryNote) (i : Numbered) → Fits i → new ≡ bytes ++ laid i → Appends texts (record { bytes = bytes; waits = ws; notes = ns }) (record { bytes = new; waits = ws; notes = ns }) (Whole (command_of texts i) ∷ [])
appends_one texts bytes new ws ns i fits is = record {
  pieces = Whole i ∷ [];
  fit = (fits, tt);
  bytes = is ∙ ap (λ (l : List ℕ). bytes ++ l) (sym (append-nil (laid i)));
  waits = sym (append-nil ws);
  notes = sym (append-nil ns);
  stands = refl;
}

-- one jump that waits
pub appends_wait : (texts : List (List ℕ)) (bytes new : List ℕ) (ws : List Wait) (ns : List TryNote) (op : Op) (aim : Aim) → is_jump op ≡ true → new ≡ bytes ++ laid (numbered op 0) → Appends texts (record { bytes = bytes; waits = ws; notes = ns }) (record { bytes = new; waits = ws ++ record { at = length bytes; aim = aim } ∷ []; notes = ns }) (Waiting op aim ∷ [])
appends_wait texts bytes new ws ns op aim is_one is = record {
  pieces = Waiting op aim ∷ [];
  fit = (is_one, tt);
  bytes = is ∙ ap (λ (l : List ℕ). bytes ++ l) (sym (append-nil (laid (numbered op 0))));
  waits = refl;
  notes = sym (append-nil ns);
  stands = refl;
}

-- ---- jumps

-- a jump has eight bytes of operand and no second one
pub jump_widths : (s : Shape) → is_jump_shape s ≡ true → (first_width s ≡ 8) × (second_width s ≡ 0)
jump_widths shape.Jump is = (refl, refl)
jump_widths _ is = absurd (true≢false (sym is))

pub width_of-jump : (op : Op) → is_jump op ≡ true → width_of op ≡ 9
width_of-jump op is = let w = jump_widths (shape_of op) is in omega (arith, w.0, w.1)

pub laid-jump : (op : Op) (d : ℕ) → is_jump op ≡ true → laid (numbered op d) ≡ number_of op ∷ le_bytes 8 d
laid-jump op d is = let w = jump_widths (shape_of op) is in
    ap₂ (λ (x : ℕ) (y : ℕ). number_of op ∷ (le_bytes x d ++ le_bytes y 0)) w.0 w.1 ∙ ap (λ (l : List ℕ). number_of op ∷ l) (append-nil (le_bytes 8 d))

pub Fits-jump : (op : Op) (d : ℕ) → is_jump op ≡ true → d < 2 ^ 64 → Fits (numbered op d)
Fits-jump op d is small = let w = jump_widths (shape_of op) is in record {
  first = subst (λ (k : ℕ). d < 256 ^ k) (sym w.0) small;
  second = subst (λ (k : ℕ). 0 < 256 ^ k) (sym w.1) (lit< tt);
}

pub operand_of-jump : (texts : List (List ℕ)) (s : Shape) (a b : ℕ) → is_jump_shape s ≡ true → operand_of texts s a b ≡ Distance a
operand_of-jump texts shape.Jump a b is = refl
operand_of-jump texts _ a b is = absurd (true≢false (sym is))

pub command_of-jump : (texts : List (List ℕ)) (op : Op) (d : ℕ) → is_jump op ≡ true → command_of texts (numbered op d) ≡ jump op d
command_of-jump texts op d is = ap (λ (o : Operand). let c : Command = record { op = op; operand = o } in c) (operand_of-jump texts (shape_of op) d 0 is)

-- a jump that is patched among other bytes
pub written-jump : (before rest : List ℕ) (op : Op) (d : ℕ) → is_jump op ≡ true → written (length before + 1) (le_bytes 8 d) (before ++ (laid (numbered op 0) ++ rest)) ≡ before ++ (laid (numbered op d) ++ rest)
written-jump before rest op d is =
    ap (λ (l : List ℕ). written (length before + 1) (le_bytes 8 d) (before ++ (l ++ rest))) (laid-jump op 0 is)
    ∙ (written-seam before (le_bytes 8 d) (le_bytes 8 0 ++ rest) (number_of op) (length before) refl
    ∙ ap (λ (l : List ℕ). before ++ (l ++ rest)) (sym (laid-jump op d is)))

-- ---- landing

-- the distance from a jump to the end of what stands from it on
pub distance_bits-end : (at size total : ℕ) → total ≡ at + size → distance_bits at total ≡ size
distance_bits-end at size total is = ap (λ (b : Bool). if b then total - at else (2 ^ 64 - (at - total))) (le-leb at total (omega arith)) ∙ omega arith

-- an instruction that is passed on the way
patched-over : (aim : Aim) (ps : List (Piece Numbered)) (before : List ℕ) (i : Numbered) (after : List ℕ) → patched aim (waits_of (length (before ++ laid i)) ps) ((before ++ laid i) ++ laid_pieces ps) ≡ (before ++ laid i) ++ after → patched aim (waits_of (length before + numbered_width i) ps) (before ++ (laid i ++ laid_pieces ps)) ≡ before ++ (laid i ++ after)
patched-over aim ps before i after further =
    ap₂ (λ (k : ℕ) (l : List ℕ). patched aim (waits_of k ps) l) (sym place) (sym (append_assoc before (laid i) (laid_pieces ps))) ∙ (further ∙ append_assoc before (laid i) after)
  where
    place : length (before ++ laid i) ≡ length before + numbered_width i
    place = length-append before (laid i) ∙ ap (λ (k : ℕ). length before + k) (length-laid i)

-- a jump that waits, landed or passed
patched-wait : (aim : Aim) (ps : List (Piece Numbered)) (before : List ℕ) (op : Op) (other : Aim) (d : ℕ) (after : List ℕ) (meant : Bool) → is_jump op ≡ true → d ≡ width_of op + bytes_of ps
    → ((i : Numbered) → patched aim (waits_of (length (before ++ laid i)) ps) ((before ++ laid i) ++ laid_pieces ps) ≡ (before ++ laid i) ++ after)
    → patched aim (waits_of (length before + width_of op) ps) (patched_one meant (length before) (before ++ (laid (numbered op 0) ++ laid_pieces ps))) ≡ before ++ (laid (piece_instruction (if meant then Whole (numbered op d) else Waiting op other)) ++ after)
patched-wait aim ps before op other d after false is_one is further = patched-over aim ps before (numbered op 0) after (further (numbered op 0))
patched-wait aim ps before op other d after true is_one is further =
    ap (λ (l : List ℕ). patched aim (waits_of (length before + width_of op) ps) l) (ap (λ (k : ℕ). written (length before + 1) (le_bytes 8 k) bytes) distance ∙ written-jump before (laid_pieces ps) op d is_one)
    ∙ patched-over aim ps before (numbered op d) after (further (numbered op d))
  where
    bytes : List ℕ
    bytes = before ++ (laid (numbered op 0) ++ laid_pieces ps)

    long : length bytes ≡ length before + d
    long = length-append before (laid (numbered op 0) ++ laid_pieces ps) ∙ ap (λ (k : ℕ). length before + k) (length-laid_pieces (Waiting op other ∷ ps) ∙ sym is)

    distance : distance_bits (length before) (length bytes) ≡ d
    distance = distance_bits-end (length before) d (length bytes) long

pub patched-landed : (aim : Aim) (ps : List (Piece Numbered)) (before : List ℕ) → PiecesFit ps → patched aim (waits_of (length before) ps) (before ++ laid_pieces ps) ≡ before ++ laid_pieces (landed_by numbered_width numbered aim ps)
patched-landed aim [] before fit = refl
patched-landed aim (Whole i ∷ ps) before fit = patched-over aim ps before i (laid_pieces (landed_by numbered_width numbered aim ps)) (patched-landed aim ps (before ++ laid i) fit.1)
patched-landed aim (Trying size depth ∷ ps) before fit = patched-over aim ps before (numbered op.Try 0) (laid_pieces (landed_by numbered_width numbered aim ps)) (patched-landed aim ps (before ++ laid (numbered op.Try 0)) fit.1)
patched-landed aim (Waiting op other ∷ ps) before fit = patched-wait aim ps before op other (width_of op + size_by numbered_width ps) (laid_pieces (landed_by numbered_width numbered aim ps)) (same_aim aim other) fit.0 (ap (λ (k : ℕ). width_of op + k) (size_by-bytes ps)) (λ i. patched-landed aim ps (before ++ laid i) fit.1)

kept-wait : (aim : Aim) (ps : List (Piece Numbered)) (at : ℕ) (op : Op) (other : Aim) (d : ℕ) (later : List Wait) (meant : Bool) → kept_one meant (record { at = at; aim = other }) later ≡ wait_of at (if meant then Whole (numbered op d) else Waiting op other) later
kept-wait aim ps at op other d later true = refl
kept-wait aim ps at op other d later false = refl

width-landing : (op : Op) (other : Aim) (d : ℕ) (meant : Bool) → numbered_width (piece_instruction (if meant then Whole (numbered op d) else Waiting op other)) ≡ width_of op
width-landing op other d true = refl
width-landing op other d false = refl

pub kept-landed : (aim : Aim) (ps : List (Piece Numbered)) (at : ℕ) → kept aim (waits_of at ps) ≡ waits_of at (landed_by numbered_width numbered aim ps)
kept-landed aim [] at = refl
kept-landed aim (Whole i ∷ ps) at = kept-landed aim ps (at + numbered_width i)
kept-landed aim (Trying size depth ∷ ps) at = kept-landed aim ps (at + width_of op.Try)
kept-landed aim (Waiting op other ∷ ps) at =
    let d : ℕ = width_of op + size_by numbered_width ps in
    let p : Piece Numbered = if same_aim aim other then Whole (numbered op d) else Waiting op other in
    ap (kept_one (same_aim aim other) (record { at = at; aim = other })) (kept-landed aim ps (at + width_of op))
    ∙ (kept-wait aim ps at op other d (waits_of (at + width_of op) (landed_by numbered_width numbered aim ps)) (same_aim aim other)
    ∙ ap (λ (k : ℕ). wait_of at p (waits_of (at + k) (landed_by numbered_width numbered aim ps))) (sym (width-landing op other d (same_aim aim other))))

notes-wait : (at : ℕ) (op : Op) (other : Aim) (d : ℕ) (later : List (Piece Numbered)) (meant : Bool) → notes_by numbered_width at ((if meant then Whole (numbered op d) else Waiting op other) ∷ later) ≡ notes_by numbered_width (at + width_of op) later
notes-wait at op other d later true = refl
notes-wait at op other d later false = refl

pub notes-landed : (aim : Aim) (ps : List (Piece Numbered)) (at : ℕ) → notes_by numbered_width at ps ≡ notes_by numbered_width at (landed_by numbered_width numbered aim ps)
notes-landed aim [] at = refl
notes-landed aim (Whole i ∷ ps) at = notes-landed aim ps (at + numbered_width i)
notes-landed aim (Trying size depth ∷ ps) at = ap (λ (l : List TryNote). note_of {A = Numbered} at (Trying size depth) l) (notes-landed aim ps (at + width_of op.Try))
notes-landed aim (Waiting op other ∷ ps) at =
    notes-landed aim ps (at + width_of op) ∙ sym (notes-wait at op other (width_of op + size_by numbered_width ps) (landed_by numbered_width numbered aim ps) (same_aim aim other))

fit-wait : (op : Op) (other : Aim) (d : ℕ) (meant : Bool) → is_jump op ≡ true → d < 2 ^ 64 → PieceFits (if meant then Whole (numbered op d) else Waiting op other)
fit-wait op other d true is small = Fits-jump op d is small
fit-wait op other d false is small = is

pub PiecesFit-landed : (aim : Aim) (ps : List (Piece Numbered)) → PiecesFit ps → bytes_of ps < 2 ^ 64 → PiecesFit (landed_by numbered_width numbered aim ps)
PiecesFit-landed aim [] fit small = tt
PiecesFit-landed aim (Whole i ∷ ps) fit small = (fit.0, PiecesFit-landed aim ps fit.1 (omega arith))
PiecesFit-landed aim (Trying size depth ∷ ps) fit small = (tt, PiecesFit-landed aim ps fit.1 (omega arith))
PiecesFit-landed aim (Waiting op other ∷ ps) fit small =
    (fit-wait op other (width_of op + size_by numbered_width ps) (same_aim aim other) fit.0 (omega (arith, size_by-bytes ps)), PiecesFit-landed aim ps fit.1 (omega arith))

pub width-piece_of : (texts : List (List ℕ)) (p : Piece Numbered) → width_by command_width (piece_of texts p) ≡ width_by numbered_width p
width-piece_of texts (Whole i) = refl
width-piece_of texts (Waiting op aim) = refl
width-piece_of texts (Trying size depth) = refl

pub size-pieces : (texts : List (List ℕ)) (ps : List (Piece Numbered)) → size_by command_width (map (piece_of texts) ps) ≡ size_by numbered_width ps
size-pieces texts [] = refl
size-pieces texts (p ∷ ps) = ap₂ (λ (x : ℕ) (y : ℕ). x + y) (width-piece_of texts p) (size-pieces texts ps)

stands-wait : (texts : List (List ℕ)) (op : Op) (other : Aim) (d : ℕ) (meant : Bool) → is_jump op ≡ true → piece_of texts (if meant then Whole (numbered op d) else Waiting op other) ≡ (if meant then Whole (jump op d) else Waiting op other)
stands-wait texts op other d true is = ap (λ (c : Command). Whole c) (command_of-jump texts op d is)
stands-wait texts op other d false is = refl

pub stands-landed : (texts : List (List ℕ)) (aim : Aim) (ps : List (Piece Numbered)) → PiecesFit ps → map (piece_of texts) (landed_by numbered_width numbered aim ps) ≡ landed_by command_width jump aim (map (piece_of texts) ps)
stands-landed texts aim [] fit = refl
stands-landed texts aim (Whole i ∷ ps) fit = ap (λ (l : Code). Whole (command_of texts i) ∷ l) (stands-landed texts aim ps fit.1)
stands-landed texts aim (Trying size depth ∷ ps) fit = ap (λ (l : Code). Trying size depth ∷ l) (stands-landed texts aim ps fit.1)
stands-landed texts aim (Waiting op other ∷ ps) fit =
    ap₂ (λ (p : Piece Command) (l : Code). p ∷ l)
    (stands-wait texts op other (width_of op + size_by numbered_width ps) (same_aim aim other) fit.0 ∙ ap (λ (k : ℕ). landing jump aim (width_of op + k) (Waiting op other)) (sym (size-pieces texts ps)))
    (stands-landed texts aim ps fit.1)

-- landed jumps stand for landed code
pub appends_landed : (texts : List (List ℕ)) (aim : Aim) (start bytes new : List ℕ) (inner waits_old waits_new : List Wait) (notes notes_now : List TryNote) (code : Code)
    → length bytes < 2 ^ 64 → new ≡ patched aim inner bytes → waits_new ≡ waits_old ++ kept aim inner
    → Appends texts (record { bytes = start; waits = []; notes = notes }) (record { bytes = bytes; waits = inner; notes = notes_now }) code
    → Appends texts (record { bytes = start; waits = waits_old; notes = notes }) (record { bytes = new; waits = waits_new; notes = notes_now }) (landed_by command_width jump aim code)
appends_landed texts aim start bytes new inner waits_old waits_new notes notes_now code small is_new is_kept x = record {
  pieces = landed_by numbered_width numbered aim x.pieces;
  fit = PiecesFit-landed aim x.pieces x.fit (omega (arith, ap length x.bytes, length-append start (laid_pieces x.pieces), length-laid_pieces x.pieces));
  bytes = is_new ∙ (ap₂ (λ (ws : List Wait) (l : List ℕ). patched aim ws l) x.waits x.bytes ∙ patched-landed aim x.pieces start x.fit);
  waits = is_kept ∙ ap (λ (l : List Wait). waits_old ++ l) (ap (kept aim) x.waits ∙ kept-landed aim x.pieces (length start));
  notes = x.notes ∙ ap (λ (l : List TryNote). notes ++ l) (notes-landed aim x.pieces (length start));
  stands = stands-landed texts aim x.pieces x.fit ∙ ap (landed_by command_width jump aim) x.stands;
}

-- the jumps of pieces lie inside them
pub AllRoom-waits_of : (ps : List (Piece Numbered)) (at total : ℕ) → PiecesFit ps → at + bytes_of ps ≤ total → AllRoom total (waits_of at ps)
AllRoom-waits_of [] at total fit room = tt
AllRoom-waits_of (Whole i ∷ ps) at total fit room = AllRoom-waits_of ps (at + numbered_width i) total fit.1 (omega arith)
AllRoom-waits_of (Trying size depth ∷ ps) at total fit room = AllRoom-waits_of ps (at + width_of op.Try) total fit.1 (omega arith)
AllRoom-waits_of (Waiting op other ∷ ps) at total fit room = (omega (arith, width_of-jump op fit.0), AllRoom-waits_of ps (at + width_of op) total fit.1 (omega arith))

pub appends_room : {texts : List (List ℕ)} {old new : Emitted} {code : Code} → old.waits ≡ [] → Appends texts old new code → AllRoom (length new.bytes) new.waits
appends_room {texts} {old} {new} {code} none x =
    subst (AllRoom (length new.bytes)) (sym (x.waits ∙ ap (λ (l : List Wait). l ++ waits_of (length old.bytes) x.pieces) none))
    (AllRoom-waits_of x.pieces (length old.bytes) (length new.bytes) x.fit (omega (arith, ap length x.bytes, length-append old.bytes (laid_pieces x.pieces), length-laid_pieces x.pieces)))

-- ---- jumps back

pub distance_bits-back : (at start size : ℕ) → at ≡ start + size → 0 < size → distance_bits at start ≡ 2 ^ 64 - size
distance_bits-back at start size is some = ap (λ (b : Bool). if b then start - at else (2 ^ 64 - (at - start))) (lt-leb at start (omega arith)) ∙ ap (λ (k : ℕ). 2 ^ 64 - k) (omega arith)

-- a jump to the beginning of a code
pub appends_turn : (texts : List (List ℕ)) (old : Emitted) (bytes new : List ℕ) (ws : List Wait) (ns : List TryNote) (code : Code) (op : Op) (start : ℕ)
    → is_jump op ≡ true → length old.bytes ≡ start → start < length bytes → new ≡ bytes ++ laid (numbered op (distance_bits (length bytes) start))
    → Appends texts old (record { bytes = bytes; waits = ws; notes = ns }) code
    → Appends texts old (record { bytes = new; waits = ws; notes = ns }) (turning op code)
appends_turn texts old bytes new ws ns code op start is_one place some is x = appends_both x (subst (λ (c : Command). Appends texts (record { bytes = bytes; waits = ws; notes = ns }) (record { bytes = new; waits = ws; notes = ns }) (Whole c ∷ [])) same (appends_one texts bytes new ws ns (numbered op (2 ^ 64 - bytes_of x.pieces)) fits made))
  where
    long : length bytes ≡ start + bytes_of x.pieces
    long = ap length x.bytes ∙ (length-append old.bytes (laid_pieces x.pieces) ∙ ap₂ (λ (a : ℕ) (b : ℕ). a + b) place (length-laid_pieces x.pieces))

    distance : distance_bits (length bytes) start ≡ 2 ^ 64 - bytes_of x.pieces
    distance = distance_bits-back (length bytes) start (bytes_of x.pieces) long (omega (arith, long))

    fits : Fits (numbered op (2 ^ 64 - bytes_of x.pieces))
    fits = Fits-jump op (2 ^ 64 - bytes_of x.pieces) is_one (omega (arith, long))

    made : new ≡ bytes ++ laid (numbered op (2 ^ 64 - bytes_of x.pieces))
    made = is ∙ ap (λ (k : ℕ). bytes ++ laid (numbered op k)) distance

    sizes : bytes_of x.pieces ≡ size code
    sizes = sym (size_by-bytes x.pieces) ∙ (sym (size-pieces texts x.pieces) ∙ ap (size_by command_width) x.stands)

    same : command_of texts (numbered op (2 ^ 64 - bytes_of x.pieces)) ≡ jump op (2 ^ 64 - size code)
    same = command_of-jump texts op (2 ^ 64 - bytes_of x.pieces) is_one ∙ ap (λ (k : ℕ). jump op (2 ^ 64 - k)) sizes

-- ---- a loop that lands jumps

-- how far it has come: the jumps that are left, the bytes, and the jumps kept so far
pub record Landing (aim : Aim) (inner : List Wait) (first : List ℕ) (outer : List Wait) (left : List Wait) (now : List ℕ) (kept_now : List Wait) : Type 0 where
  pub long : length now ≡ length first
  pub room : AllRoom (length now) left
  pub patches : patched aim left now ≡ patched aim inner first
  pub keeps : kept_now ++ kept aim left ≡ outer ++ kept aim inner

pub landing_none : (aim : Aim) (inner : List Wait) (first : List ℕ) (outer : List Wait) → AllRoom (length first) inner → Landing aim inner first outer inner first outer
landing_none aim inner first outer room = record { long = refl; room = room; patches = refl; keeps = refl }

pub landing_room : (aim : Aim) (inner : List Wait) (first : List ℕ) (outer left : List Wait) (now : List ℕ) (kept_now : List Wait) (w : Wait) (further : List Wait) → left ≡ w ∷ further → Landing aim inner first outer left now kept_now → w.at + 9 ≤ length now
landing_room aim inner first outer left now kept_now w further is l = (subst (AllRoom (length now)) is l.room).0

-- a jump that waits for this aim is patched
pub landing_patched : (aim : Aim) (inner : List Wait) (first : List ℕ) (outer left : List Wait) (now : List ℕ) (kept_now : List Wait) (w : Wait) (further : List Wait) (new : List ℕ) (end : ℕ) → left ≡ w ∷ further → same_aim aim w.aim ≡ true → length new ≡ length now → end ≡ length first → new ≡ written (w.at + 1) (le_bytes 8 (distance_bits w.at end)) now → Landing aim inner first outer left now kept_now → Landing aim inner first outer further new kept_now
landing_patched aim inner first outer left now kept_now w further new end is meant long at_end made l = record {
  long = long ∙ l.long;
  room = subst (λ (k : ℕ). AllRoom k further) (sym long) (subst (AllRoom (length now)) is l.room).1;
  patches = ap (patched aim further) (made ∙ ap (λ (k : ℕ). written (w.at + 1) (le_bytes 8 (distance_bits w.at k)) now) (at_end ∙ sym l.long)) ∙ (ap (λ (b : Bool). patched aim further (patched_one b w.at now)) (sym meant) ∙ (ap (λ (x : List Wait). patched aim x now) (sym is) ∙ l.patches));
  keeps = ap (λ (b : Bool). kept_now ++ kept_one b w (kept aim further)) (sym meant) ∙ (ap (λ (x : List Wait). kept_now ++ kept aim x) (sym is) ∙ l.keeps);
}

-- a jump that waits for another aim is kept
pub landing_kept : (aim : Aim) (inner : List Wait) (first : List ℕ) (outer left : List Wait) (now : List ℕ) (kept_now : List Wait) (w : Wait) (further : List Wait) (kept_new : List Wait) → left ≡ w ∷ further → same_aim aim w.aim ≡ false → kept_new ≡ kept_now ++ w ∷ [] → Landing aim inner first outer left now kept_now → Landing aim inner first outer further now kept_new
landing_kept aim inner first outer left now kept_now w further kept_new is other made l = record {
  long = l.long;
  room = (subst (AllRoom (length now)) is l.room).1;
  patches = ap (λ (b : Bool). patched aim further (patched_one b w.at now)) (sym other) ∙ (ap (λ (x : List Wait). patched aim x now) (sym is) ∙ l.patches);
  keeps = ap (λ (x : List Wait). x ++ kept aim further) made ∙ (append_assoc kept_now (w ∷ []) (kept aim further) ∙ (ap (λ (b : Bool). kept_now ++ kept_one b w (kept aim further)) (sym other) ∙ (ap (λ (x : List Wait). kept_now ++ kept aim x) (sym is) ∙ l.keeps)));
}

-- no jump is left
pub landing_bytes : (aim : Aim) (inner : List Wait) (first : List ℕ) (outer left : List Wait) (now : List ℕ) (kept_now : List Wait) → left ≡ [] → Landing aim inner first outer left now kept_now → now ≡ patched aim inner first
landing_bytes aim inner first outer left now kept_now none l = ap (λ (x : List Wait). patched aim x now) (sym none) ∙ l.patches

pub landing_waits : (aim : Aim) (inner : List Wait) (first : List ℕ) (outer left : List Wait) (now : List ℕ) (kept_now : List Wait) → left ≡ [] → Landing aim inner first outer left now kept_now → kept_now ≡ outer ++ kept aim inner
landing_waits aim inner first outer left now kept_now none l = sym (append-nil kept_now) ∙ (ap (λ (x : List Wait). kept_now ++ kept aim x) (sym none) ∙ l.keeps)

-- ---- steps of an emitter

-- the next of a list of things that are left
pub drop-next : {A : Type 0} (l : List A) (i : ℕ) (d : A) → i < length l → drop i l ≡ get_or l i d ∷ drop (i + 1) l
drop-next l i d lt = drop-cons l i d lt ∙ ap (λ (k : ℕ). get_or l i d ∷ drop k l) (sym (add-one i))

-- a jump at the end that is patched
pub patched-last : (out made new : List ℕ) (op : Op) (at d : ℕ) → is_jump op ≡ true → at ≡ length out → made ≡ out ++ laid (numbered op 0) → new ≡ written (at + 1) (le_bytes 8 d) made → new ≡ out ++ laid (numbered op d)
patched-last out made new op at d is_one place is patch =
    patch ∙ (ap₂ (λ (k : ℕ) (l : List ℕ). written (k + 1) (le_bytes 8 d) l) place (is ∙ ap (λ (l : List ℕ). out ++ l) (sym (append-nil (laid (numbered op 0)))))
    ∙ (written-jump out [] op d is_one ∙ ap (λ (l : List ℕ). out ++ l) (append-nil (laid (numbered op d)))))

pub Fits-bare : (op : Op) → 0 < 256 ^ first_of op → 0 < 256 ^ second_of op → Fits (numbered op 0)
Fits-bare op f s = record { first = f; second = s }

-- landed code with a JumpTarget after it
pub appends_here : (aim : Aim) (bytes landed new : List ℕ) (inner waits_old waits_new : List Wait) → Lands aim bytes inner waits_old landed waits_new → new ≡ landed ++ laid (numbered op.JumpTarget 0) → LandsHere aim bytes inner waits_old new waits_new
appends_here aim bytes landed new inner waits_old waits_new lands is texts start notes notes_now code x =
    appends_both (lands texts start notes notes_now code x) (appends_one texts landed new waits_new notes_now (numbered op.JumpTarget 0) (Fits-bare op.JumpTarget (lit< tt) (lit< tt)) is)

-- a jump that was appended and put on the list of those that wait
pub appends_wait_at : (texts : List (List ℕ)) (bytes new : List ℕ) (ws ws_new : List Wait) (ns : List TryNote) (op : Op) (aim : Aim) (at : ℕ) → is_jump op ≡ true → new ≡ bytes ++ laid (numbered op 0) → at ≡ length bytes → ws_new ≡ ws ++ record { at = at; aim = aim } ∷ [] → Appends texts (record { bytes = bytes; waits = ws; notes = ns }) (record { bytes = new; waits = ws_new; notes = ns }) (Waiting op aim ∷ [])
appends_wait_at texts bytes new ws ws_new ns op aim at is_one is place made =
    subst (λ (l : List Wait). Appends texts (record { bytes = bytes; waits = ws; notes = ns }) (record { bytes = new; waits = l; notes = ns }) (Waiting op aim ∷ []))
    (sym (made ∙ ap (λ (k : ℕ). ws ++ record { at = k; aim = aim } ∷ []) place)) (appends_wait texts bytes new ws ns op aim is_one is)

-- a jump that was appended and sent back
pub appends_turn_at : (texts : List (List ℕ)) (old : Emitted) (bytes made new : List ℕ) (ws : List Wait) (ns : List TryNote) (code : Code) (op : Op) (start at : ℕ) → is_jump op ≡ true → length old.bytes ≡ start → start < length bytes → at ≡ length bytes → made ≡ bytes ++ laid (numbered op 0) → new ≡ written (at + 1) (le_bytes 8 (distance_bits at start)) made → Appends texts old (record { bytes = bytes; waits = ws; notes = ns }) code → Appends texts old (record { bytes = new; waits = ws; notes = ns }) (turning op code)
appends_turn_at texts old bytes made new ws ns code op start at is_one place some is_at is patch x =
    appends_turn texts old bytes new ws ns code op start is_one place some
    (patched-last bytes made new op at (distance_bits at start) is_one is_at is patch ∙ ap (λ (k : ℕ). bytes ++ laid (numbered op (distance_bits k start))) is_at) x

-- ---- code in which no jump waits

pub emits_none : (texts : List (List ℕ)) (now : List ℕ) → Emits texts now now []
emits_none texts now = record { anywhere = λ waits notes. appends_none texts (emitted now waits notes) }

pub emits_both : {texts : List (List ℕ)} {old now new : List ℕ} {first second : Code} → Emits texts old now first → Emits texts now new second → Emits texts old new (first ++ second)
emits_both x y = record { anywhere = λ waits notes. appends_both (x.anywhere waits notes) (y.anywhere waits notes) }

pub emits_one : (texts : List (List ℕ)) (old new : List ℕ) (i : Numbered) → Fits i → new ≡ old ++ laid i → Emits texts old new (Whole (command_of texts i) ∷ [])
emits_one texts old new i fits is = record { anywhere = λ waits notes. appends_one texts old new waits notes i fits is }

-- bytes that no jump waits in stand for the code after whatever waits
pub emits_closed : (texts : List (List ℕ)) (old new : List ℕ) (waits_new : List Wait) (code : Code) → waits_new ≡ [] → ((notes : List TryNote) → Appends texts (emitted old [] notes) (emitted new waits_new notes) code) → Emits texts old new code
emits_closed texts old new waits_new code none x = record { anywhere = λ waits notes. closed waits notes (x notes) }
  where
    closed : (waits : List Wait) (notes : List TryNote) → Appends texts (emitted old [] notes) (emitted new waits_new notes) code → Appends texts (emitted old waits notes) (emitted new waits notes) code
    closed waits notes y = record {
      pieces = y.pieces;
      fit = y.fit;
      bytes = y.bytes;
      waits = sym (append-nil waits) ∙ ap (λ (l : List Wait). waits ++ l) (sym none ∙ y.waits);
      notes = y.notes;
      stands = y.stands;
    }

-- jumps that all wait for one aim
abbrev pub AllAim : Aim → List Wait → Type 0
AllAim aim [] = Unit {0}
AllAim aim (w ∷ ws) = (same_aim aim w.aim ≡ true) × AllAim aim ws

pub kept-all : (aim : Aim) (ws : List Wait) → AllAim aim ws → kept aim ws ≡ []
kept-all aim [] all = refl
kept-all aim (w ∷ ws) all = ap (λ (b : Bool). kept_one b w (kept aim ws)) all.0 ∙ kept-all aim ws all.1

pub AllAim-append : (aim : Aim) (xs ys : List Wait) → AllAim aim xs → AllAim aim ys → AllAim aim (xs ++ ys)
AllAim-append aim [] ys x y = y
AllAim-append aim (w ∷ ws) ys x y = (x.0, AllAim-append aim ws ys x.1 y)
