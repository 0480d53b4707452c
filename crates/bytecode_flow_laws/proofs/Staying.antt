-- Code whose jumps stay is put together to code whose jumps stay.
use Rattle.std.proofs.Common.{◌≡◌, ◌∙◌, ℕ, ◌+◌, ◌-◌, ◌*◌, ◌/◌, ◌%◌, ◌^◌, ◌≤◌, Bool, true, false, if◌then◌else◌, List, [], ◌∷◌, ◌++◌, map, refl, sym, ap, ap₂, subst, add_assoc, inl, inr, arith}
use Rattle.std.proofs.Math.Nat.{mod-le, mod_self, mod-add-div, add-mul-mod_self_left}
use Rattle.std.proofs.lemmas.Bool.Decides.{leb_tells}
use Rattle.bytecode_buf.specs.declared.opcode.Op.{Op}
use Rattle.bytecode_buf.specs.declared.opcode.Op.TheVariants as op
use Rattle.bytecode_buf.specs.declared.waits.Aim.{Aim}
use Rattle.bytecode_buf.specs.Command.{Operand, Nothing, Number, Text, Aliased, Distance, Target, Command, plain, jump}
use Rattle.bytecode_buf.specs.Pieces.{Piece, Whole, Waiting, Trying, Code, size, here, turning, settled, landed_by, landing, same_aim, command_width, width_by}
use Rattle.bytecode_buf.specs.Width.{width_of}
use Rattle.bytecode_flow_laws.specs.Staying.{OperandStays, CommandsStay, JumpsStay, PieceStays, PiecesStay, Stays, commands_size}

-- ---- sizes

pub size-append : (a b : Code) → size (a ++ b) ≡ size a + size b
size-append [] b = omega arith
size-append (p ∷ ps) b = ap (λ (n : ℕ). width_by command_width p + n) (size-append ps b) ∙ sym (add_assoc (width_by command_width p) (size ps) (size b))

width_if : (b : Bool) (opcode : Op) (aim : Aim) (distance : ℕ) → width_by command_width (if b then Whole (jump opcode distance) else Waiting opcode aim) ≡ width_of opcode
width_if true opcode aim distance = refl
width_if false opcode aim distance = refl

pub width-landing : (aim : Aim) (distance : ℕ) (p : Piece Command) → width_by command_width (landing jump aim distance p) ≡ width_by command_width p
width-landing aim distance (Whole c) = refl
width-landing aim distance (Waiting opcode other) = width_if (same_aim aim other) opcode other distance
width-landing aim distance (Trying n depth) = refl

pub size-landed : (aim : Aim) (code : Code) → size (landed_by command_width jump aim code) ≡ size code
size-landed aim [] = refl
size-landed aim (p ∷ ps) = ap₂ (λ (x : ℕ) (y : ℕ). x + y) (width-landing aim (width_by command_width p + size ps) p) (size-landed aim ps)

-- ---- moving

-- what is left of a larger number is larger by no more
left_above : (m b y : ℕ) → (b + y) % m ≤ b + y % m
left_above m b y = subst (λ (n : ℕ). n ≤ b + y % m) (sym same) (mod-le (b + y % m) m)
  where
    apart : b + y ≡ (b + y % m) + m * (y / m)
    apart = ap (λ (n : ℕ). b + n) (sym (mod-add-div y m)) ∙ sym (add_assoc b (y % m) (m * (y / m)))

    same : (b + y) % m ≡ (b + y % m) % m
    same = ap (λ (n : ℕ). n % m) apart ∙ add-mul-mod_self_left (b + y % m) m (y / m)

left_moved : (m b s s' at at' d : ℕ) → b + s ≤ s' → at' ≡ b + at → (at + d) % m ≤ s → (at' + d) % m ≤ s'
left_moved m b s s' at at' d room is here =
    let far : at' + d ≡ b + (at + d) = omega arith in
    let top : (b + (at + d)) % m ≤ b + (at + d) % m = left_above m b (at + d) in
    subst (λ (n : ℕ). n % m ≤ s') (sym far) (omega arith)

operand_moved : (b s s' at at' : ℕ) (o : Operand) → b + s ≤ s' → at' ≡ b + at → OperandStays s at o → OperandStays s' at' o
operand_moved b s s' at at' Nothing room is h = tt
operand_moved b s s' at at' (Number n) room is h = tt
operand_moved b s s' at at' (Text text) room is h = tt
operand_moved b s s' at at' (Aliased hops slot) room is h = tt
operand_moved b s s' at at' (Distance d) room is h = left_moved (2 ^ 64) b s s' at at' d room is h
operand_moved b s s' at at' (Target offset) room is h = absurd h

piece_moved : (b s s' at at' : ℕ) (p : Piece Command) → b + s ≤ s' → at' ≡ b + at → PieceStays s at p → PieceStays s' at' p
piece_moved b s s' at at' (Whole c) room is h = operand_moved b s s' at at' c.operand room is h
piece_moved b s s' at at' (Waiting opcode aim) room is h = tt
piece_moved b s s' at at' (Trying n depth) room is h = tt

pieces_moved : (b s s' at at' : ℕ) (ps : Code) → b + s ≤ s' → at' ≡ b + at → PiecesStay s at ps → PiecesStay s' at' ps
pieces_moved b s s' at at' [] room is h = tt
pieces_moved b s s' at at' (p ∷ ps) room is h =
    let w : ℕ = width_by command_width p in
    let next : at' + w ≡ b + (at + w) = omega arith in
    (piece_moved b s s' at at' p room is h.0, pieces_moved b s s' (at + w) (at' + w) ps room next h.1)

-- ---- code after code

pieces_both : (s at : ℕ) (ps qs : Code) → PiecesStay s at ps → PiecesStay s (at + size ps) qs → PiecesStay s at (ps ++ qs)
pieces_both s at [] qs f g = let e : at + 0 ≡ at = omega arith in subst (λ (k : ℕ). PiecesStay s k qs) e g
pieces_both s at (p ∷ ps) qs f g =
    let w : ℕ = width_by command_width p in
    let e : at + (w + size ps) ≡ (at + w) + size ps = sym (add_assoc at w (size ps)) in
    (f.0, pieces_both s (at + w) ps qs f.1 (subst (λ (k : ℕ). PiecesStay s k qs) e g))

pub stays_none : Stays []
stays_none = record { stay = tt }

pub stays_both : {a b : Code} → Stays a → Stays b → Stays (a ++ b)
stays_both {a} {b} x y =
    let e = size-append a b in
    record { stay = pieces_both (size (a ++ b)) 0 a b (pieces_moved 0 (size a) (size (a ++ b)) 0 0 a (omega arith) refl x.stay) (pieces_moved (size a) (size b) (size (a ++ b)) 0 (0 + size a) b (omega arith) (omega arith) y.stay) }

-- ---- one piece

pub stays_waiting : (opcode : Op) (aim : Aim) → Stays (Waiting opcode aim ∷ [])
stays_waiting opcode aim = record { stay = (tt, tt) }

pub stays_trying : (n depth : ℕ) → Stays (Trying n depth ∷ [])
stays_trying n depth = record { stay = (tt, tt) }

-- the operand is no jump
abbrev pub NoJump : Operand → Type 0
NoJump (Distance distance) = ⊥
NoJump (Target offset) = ⊥
NoJump _ = Unit {0}

pub operand_stays : (s at : ℕ) (o : Operand) → NoJump o → OperandStays s at o
operand_stays s at Nothing h = tt
operand_stays s at (Number n) h = tt
operand_stays s at (Text text) h = tt
operand_stays s at (Aliased hops slot) h = tt
operand_stays s at (Distance d) h = absurd h
operand_stays s at (Target offset) h = absurd h

pub stays_command : (c : Command) → NoJump c.operand → Stays (Whole c ∷ [])
stays_command c h = record { stay = (operand_stays (size (Whole c ∷ [])) 0 c.operand h, tt) }

-- no command has a jump
abbrev pub NoJumps : List Command → Type 0
NoJumps [] = Unit {0}
NoJumps (c ∷ cs) = NoJump c.operand × NoJumps cs

pieces_whole : (s at : ℕ) (cs : List Command) → NoJumps cs → PiecesStay s at (map (λ (c : Command). Whole c) cs)
pieces_whole s at [] h = tt
pieces_whole s at (c ∷ cs) h = (operand_stays s at c.operand h.0, pieces_whole s (at + width_of c.op) cs h.1)

pub stays_whole : (cs : List Command) → NoJumps cs → Stays (map (λ (c : Command). Whole c) cs)
stays_whole cs h = record { stay = pieces_whole (size (map (λ (c : Command). Whole c) cs)) 0 cs h }

-- ---- jumps

landed_stays : (b : Bool) (s at distance : ℕ) (opcode : Op) (aim : Aim) → at + distance ≤ s → PieceStays s at (if b then Whole (jump opcode distance) else Waiting opcode aim)
landed_stays true s at distance opcode aim room = let top = mod-le (at + distance) (2 ^ 64) in omega arith
landed_stays false s at distance opcode aim room = tt

landing_stays : (s at distance : ℕ) (aim : Aim) (p : Piece Command) → at + distance ≤ s → PieceStays s at p → PieceStays s at (landing jump aim distance p)
landing_stays s at distance aim (Whole c) room h = h
landing_stays s at distance aim (Waiting opcode other) room h = landed_stays (same_aim aim other) s at distance opcode other room
landing_stays s at distance aim (Trying n depth) room h = tt

pieces_landed : (s at : ℕ) (aim : Aim) (ps : Code) → at + size ps ≤ s → PiecesStay s at ps → PiecesStay s at (landed_by command_width jump aim ps)
pieces_landed s at aim [] room h = tt
pieces_landed s at aim (p ∷ ps) room h =
    let w : ℕ = width_by command_width p in
    let e : w ≡ width_by command_width (landing jump aim (w + size ps) p) = sym (width-landing aim (w + size ps) p) in
    (landing_stays s at (w + size ps) aim p room h.0, subst (λ (k : ℕ). PiecesStay s (at + k) (landed_by command_width jump aim ps)) e (pieces_landed s (at + w) aim ps (omega arith) h.1))

pub stays_landed : (aim : Aim) {code : Code} → Stays code → Stays (landed_by command_width jump aim code)
stays_landed aim {code} h = record { stay = subst (λ (n : ℕ). PiecesStay n 0 (landed_by command_width jump aim code)) (sym (size-landed aim code)) (pieces_landed (size code) 0 aim code (omega arith) h.stay) }

pub stays_here : (aim : Aim) {code : Code} → Stays code → Stays (here aim code)
stays_here aim {code} h = stays_both (stays_landed aim h) (stays_command (plain op.JumpTarget) tt)

-- a jump back by all that stands before it stays
back_left : (m n s : ℕ) → n ≤ s → (n + (m - n)) % m ≤ s
back_left m n s room = elim (leb_tells n m) [
  | inl less ↦ let e : n + (m - n) ≡ m = omega (arith, less.1) in subst (λ (k : ℕ). k % m ≤ s) (sym e) (subst (λ (k : ℕ). k ≤ s) (sym (mod_self m)) (omega arith))
  | inr more ↦ let top = mod-le (n + (m - n)) m in let e : n + (m - n) ≡ n = omega (arith, more.1) in omega arith
]

turn_stays : (opcode : Op) (code : Code) → PiecesStay (size (turning opcode code)) (size code) (Whole (jump opcode (2 ^ 64 - size code)) ∷ [])
turn_stays opcode code = let e = size-append code (Whole (jump opcode (2 ^ 64 - size code)) ∷ []) in (back_left (2 ^ 64) (size code) (size (turning opcode code)) (omega arith), tt)

pub stays_turning : (opcode : Op) {code : Code} → Stays code → Stays (turning opcode code)
stays_turning opcode {code} h =
    let e = size-append code (Whole (jump opcode (2 ^ 64 - size code)) ∷ []) in
    let n : ℕ = size (turning opcode code) in
    let zero_and : size code ≡ 0 + size code = omega arith in
    record { stay = pieces_both n 0 code (Whole (jump opcode (2 ^ 64 - size code)) ∷ []) (pieces_moved 0 (size code) n 0 0 code (omega arith) refl h.stay) (subst (λ (k : ℕ). PiecesStay n k (Whole (jump opcode (2 ^ 64 - size code)) ∷ [])) zero_and (turn_stays opcode code)) }

-- ---- finished commands: a jump that still waits is one to itself

pub settled_size : (code : Code) → commands_size (settled code) ≡ size code
settled_size [] = refl
settled_size (Whole c ∷ ps) = ap (λ (n : ℕ). width_of c.op + n) (settled_size ps)
settled_size (Waiting opcode aim ∷ ps) = ap (λ (n : ℕ). width_of opcode + n) (settled_size ps)
settled_size (Trying n depth ∷ ps) = ap (λ (n : ℕ). width_of op.Try + n) (settled_size ps)

still_here : (m at s : ℕ) → at ≤ s → (at + 0) % m ≤ s
still_here m at s room = let top = mod-le (at + 0) m in omega arith

settled_stay : (s at : ℕ) (ps : Code) → at + size ps ≤ s → PiecesStay s at ps → CommandsStay s at (settled ps)
settled_stay s at [] room h = tt
settled_stay s at (Whole c ∷ ps) room h = (h.0, settled_stay s (at + width_of c.op) ps (omega arith) h.1)
settled_stay s at (Waiting opcode aim ∷ ps) room h = (still_here (2 ^ 64) at s (omega arith), settled_stay s (at + width_of opcode) ps (omega arith) h.1)
settled_stay s at (Trying n depth ∷ ps) room h = (tt, settled_stay s (at + width_of op.Try) ps (omega arith) h.1)

pub jumps_stay : {code : Code} → Stays code → JumpsStay (settled code)
jumps_stay {code} h = record { stay = subst (λ (n : ℕ). CommandsStay n 0 (settled code)) (sym (settled_size code)) (settled_stay (size code) 0 code (omega arith) h.stay) }
