-- Pieces of code that are put together: the functions that they make, where their jumps go, and their try notes.
use Rattle.std.proofs.Common.{◌≡◌, ℕ, suc, ◌+◌, ◌-◌, ◌^◌, ◌%◌, ◌≤◌, Bool, true, false, cond, ◌⊎◌, inl, inr, List, [], ◌∷◌, ◌++◌, length, map, refl, sym, ◌∙◌, ap, subst, arith}
use Rattle.std.proofs.Math.Nat.{mod-le, add-mod_right}
use Rattle.std.proofs.lemmas.Bool.Decides.{leb_tells}
use Rattle.bytecode_buf.specs.declared.opcode.Op.{Op}
use Rattle.bytecode_buf.specs.declared.opcode.Op.TheVariants as op
use Rattle.bytecode_buf.specs.declared.waits.Aim.{Aim}
use Rattle.bytecode_buf.specs.Command.{Command, Operand, Nothing, Number, Text, Aliased, Distance, Target, plain, jump}
use Rattle.bytecode_buf.specs.Pieces.{Piece, Whole, Waiting, Trying, Code, same_aim, width_by, size_by, landed_by, notes_by, command_width, one, size, here, turning, settled, notes}
use Rattle.bytecode_buf.specs.Width.{width_of}
use Rattle.stencil_xdr_laws.specs.Sizes.{Makes, AllMake, Lands, AllLand, code_size}

-- ---- what is said of code

abbrev pub MakesPiece : (ℕ → Type 0) → Piece Command → Type 0
MakesPiece Holds (Whole c) = Makes Holds c.op c.operand
MakesPiece Holds (Waiting o aim) = Makes Holds o (Distance 0)
MakesPiece Holds (Trying long depth) = Unit {0}

abbrev pub EachMakes : (ℕ → Type 0) → Code → Type 0
EachMakes Holds [] = Unit {0}
EachMakes Holds (p ∷ ps) = MakesPiece Holds p × EachMakes Holds ps

-- a jump at an offset goes to an offset from 0 to this size, or a round of 2^64 further
abbrev pub Stays : ℕ → ℕ → Operand → Type 0
Stays long at Nothing = Unit {0}
Stays long at (Number n) = Unit {0}
Stays long at (Text t) = Unit {0}
Stays long at (Aliased hops slot) = Unit {0}
Stays long at (Distance distance) = (to : ℕ) × (to ≤ long) × ((at + distance ≡ to) ⊎ (at + distance ≡ to + 2 ^ 64))
Stays long at (Target offset) = ⊥

abbrev pub StaysPiece : ℕ → ℕ → Piece Command → Type 0
StaysPiece long at (Whole c) = Stays long at c.operand
StaysPiece long at (Waiting o aim) = Unit {0}
StaysPiece long at (Trying block depth) = Unit {0}

abbrev pub EachStays : ℕ → ℕ → Code → Type 0
EachStays long at [] = Unit {0}
EachStays long at (p ∷ ps) = StaysPiece long at p × EachStays long (at + width_by command_width p) ps

abbrev pub tries : Code → ℕ
tries [] = 0
tries (Whole c ∷ ps) = tries ps
tries (Waiting o aim ∷ ps) = tries ps
tries (Trying long depth ∷ ps) = suc (tries ps)

-- this holds of the numbers of the functions that it makes, its jumps stay within it, and it has at most n try notes
pub record CodeSmall (Holds : ℕ → Type 0) (most : ℕ) (code : Code) : Type 0 where
  pub made : EachMakes Holds code
  pub stays : EachStays (size code) 0 code
  pub few : tries code ≤ most

-- a command that is no jump
abbrev pub Bare : (ℕ → Type 0) → Op → Operand → Type 0
Bare Holds o Nothing = Makes Holds o Nothing
Bare Holds o (Number n) = Makes Holds o (Number n)
Bare Holds o (Text t) = Makes Holds o (Text t)
Bare Holds o (Aliased hops slot) = Makes Holds o (Aliased hops slot)
Bare Holds o (Distance n) = ⊥
Bare Holds o (Target n) = ⊥

abbrev pub AllBare : (ℕ → Type 0) → List Command → Type 0
AllBare Holds [] = Unit {0}
AllBare Holds (c ∷ cs) = Bare Holds c.op c.operand × AllBare Holds cs

-- ---- jumps in longer code

moved_one : (long more o at : ℕ) (x : Operand) → o + long ≤ more → Stays long at x → Stays more (o + at) x
moved_one long more o at Nothing le h = tt
moved_one long more o at (Number n) le h = tt
moved_one long more o at (Text t) le h = tt
moved_one long more o at (Aliased hops slot) le h = tt
moved_one long more o at (Distance d) le (to, low, inl e) = (o + to, omega (arith, low), inl (omega (arith, e)))
moved_one long more o at (Distance d) le (to, low, inr e) = (o + to, omega (arith, low), inr (omega (arith, e)))
moved_one long more o at (Target t) le h = absurd h

moved_piece : (long more o at : ℕ) (p : Piece Command) → o + long ≤ more → StaysPiece long at p → StaysPiece more (o + at) p
moved_piece long more o at (Whole c) le h = moved_one long more o at c.operand le h
moved_piece long more o at (Waiting x aim) le h = tt
moved_piece long more o at (Trying block depth) le h = tt

moved : (long more o at : ℕ) (code : Code) → o + long ≤ more → EachStays long at code → EachStays more (o + at) code
moved long more o at [] le h = tt
moved long more o at (p ∷ ps) le h =
    let e : o + (at + width_by command_width p) ≡ o + at + width_by command_width p = omega arith in
    (moved_piece long more o at p le h.0, subst (λ (n : ℕ). EachStays more n ps) e (moved long more o (at + width_by command_width p) ps le h.1))

stays_both : (long at : ℕ) (a b : Code) → EachStays long at a → EachStays long (at + size a) b → EachStays long at (a ++ b)
stays_both long at [] b h k = let e : at + 0 ≡ at = omega arith in subst (λ (n : ℕ). EachStays long n b) e k
stays_both long at (p ∷ ps) b h k =
    let e : at + (width_by command_width p + size ps) ≡ at + width_by command_width p + size ps = omega arith in
    (h.0, stays_both long (at + width_by command_width p) ps b h.1 (subst (λ (n : ℕ). EachStays long n b) e k))

size_both : (a b : Code) → size (a ++ b) ≡ size a + size b
size_both [] b = omega arith
size_both (p ∷ ps) b = let h = size_both ps b in omega (arith, h)

-- the second part as it stands after the first
stays_behind : (long more : ℕ) (b : Code) → EachStays long 0 b → EachStays (more + long) (0 + more) b
stays_behind long more b h = let e : more + 0 ≡ 0 + more = omega arith in subst (λ (n : ℕ). EachStays (more + long) n b) e (moved long (more + long) more 0 b (omega arith) h)

stays_joined : (a b : Code) → EachStays (size a) 0 a → EachStays (size a + size b) (0 + size a) b → EachStays (size (a ++ b)) 0 (a ++ b)
stays_joined a b h k =
    subst (λ (n : ℕ). EachStays n 0 (a ++ b)) (sym (size_both a b)) (stays_both (size a + size b) 0 a b (moved (size a) (size a + size b) 0 0 a (omega arith) h) k)

-- ---- parts

pub nothing : {H : ℕ → Type 0} → CodeSmall H 0 []
nothing = record { made = tt; stays = tt; few = omega arith }

made_both : (H : ℕ → Type 0) (a b : Code) → EachMakes H a → EachMakes H b → EachMakes H (a ++ b)
made_both H [] b h k = k
made_both H (p ∷ ps) b h k = (h.0, made_both H ps b h.1 k)

tries_both : (a b : Code) → tries (a ++ b) ≡ tries a + tries b
tries_both [] b = omega arith
tries_both (Whole c ∷ ps) b = tries_both ps b
tries_both (Waiting o aim ∷ ps) b = tries_both ps b
tries_both (Trying long depth ∷ ps) b = let h = tries_both ps b in omega (arith, h)

pub both : {H : ℕ → Type 0} {m n : ℕ} {a b : Code} → CodeSmall H m a → CodeSmall H n b → CodeSmall H (m + n) (a ++ b)
both {H} {m} {n} {a} {b} h k =
    let e = tries_both a b in
    let p = h.few in
    let q = k.few in
    record { made = made_both H a b h.made k.made; stays = stays_joined a b h.stays (stays_behind (size b) (size a) b k.stays); few = omega (arith, e, p, q) }

pub fewer : {H : ℕ → Type 0} {m n : ℕ} {a : Code} → m ≤ n → CodeSmall H m a → CodeSmall H n a
fewer le h = let p = h.few in record { made = h.made; stays = h.stays; few = omega (arith, le, p) }

-- after or before code without try notes
pub behind : {H : ℕ → Type 0} {n : ℕ} {a b : Code} → CodeSmall H 0 a → CodeSmall H n b → CodeSmall H n (a ++ b)
behind h k = fewer (omega arith) (both h k)

pub before : {H : ℕ → Type 0} {n : ℕ} {a b : Code} → CodeSmall H n a → CodeSmall H 0 b → CodeSmall H n (a ++ b)
before h k = fewer (omega arith) (both h k)

pub tried : {H : ℕ → Type 0} {n : ℕ} {ps : Code} (long depth : ℕ) → CodeSmall H n ps → CodeSmall H (suc n) (Trying long depth ∷ ps)
tried {H} {n} {ps} long depth k =
    let q = k.few in
    record { made = (tt, k.made); stays = (tt, stays_behind (size ps) (width_by command_width (Trying long depth)) ps k.stays); few = omega (arith, q) }

bare_makes : (H : ℕ → Type 0) (o : Op) (x : Operand) → Bare H o x → Makes H o x
bare_makes H o Nothing h = h
bare_makes H o (Number n) h = h
bare_makes H o (Text t) h = h
bare_makes H o (Aliased hops slot) h = h
bare_makes H o (Distance n) h = absurd h
bare_makes H o (Target n) h = absurd h

bare_stays : (H : ℕ → Type 0) (o : Op) (long at : ℕ) (x : Operand) → Bare H o x → Stays long at x
bare_stays H o long at Nothing h = tt
bare_stays H o long at (Number n) h = tt
bare_stays H o long at (Text t) h = tt
bare_stays H o long at (Aliased hops slot) h = tt
bare_stays H o long at (Distance n) h = absurd h
bare_stays H o long at (Target n) h = absurd h

commands_made : (H : ℕ → Type 0) (cs : List Command) → AllBare H cs → EachMakes H (map (λ (c : Command). Whole c) cs)
commands_made H [] h = tt
commands_made H (c ∷ cs) h = (bare_makes H c.op c.operand h.0, commands_made H cs h.1)

commands_stay : (H : ℕ → Type 0) (long at : ℕ) (cs : List Command) → AllBare H cs → EachStays long at (map (λ (c : Command). Whole c) cs)
commands_stay H long at [] h = tt
commands_stay H long at (c ∷ cs) h = (bare_stays H c.op long at c.operand h.0, commands_stay H long (at + command_width c) cs h.1)

commands_tries : (cs : List Command) → tries (map (λ (c : Command). Whole c) cs) ≡ 0
commands_tries [] = refl
commands_tries (c ∷ cs) = commands_tries cs

pub commands : {H : ℕ → Type 0} (cs : List Command) → AllBare H cs → CodeSmall H 0 (map (λ (c : Command). Whole c) cs)
commands {H} cs h =
    let e = commands_tries cs in
    record { made = commands_made H cs h; stays = commands_stay H (size (map (λ (c : Command). Whole c) cs)) 0 cs h; few = omega (arith, e) }

pub command : {H : ℕ → Type 0} (c : Command) → Bare H c.op c.operand → CodeSmall H 0 (one c)
command c h = commands (c ∷ []) (h, tt)

pub wait : {H : ℕ → Type 0} (o : Op) (aim : Aim) → Makes H o (Distance 0) → CodeSmall H 0 (Waiting o aim ∷ [])
wait o aim h = record { made = (h, tt); stays = (tt, tt); few = omega arith }

pub either : {H : ℕ → Type 0} {n : ℕ} {a c : Code} (b : Bool) → CodeSmall H n a → CodeSmall H n c → CodeSmall H n (cond b a c)
either true h k = h
either false h k = k

-- ---- jumps

at_any : (H : ℕ → Type 0) (o : Op) (n : ℕ) → Makes H o (Distance 0) → Makes H o (Distance n)
at_any H op.Lambda n h = absurd h
at_any H _ n h = tt

landing_made : (H : ℕ → Type 0) (b : Bool) (o : Op) (other : Aim) (n : ℕ) → Makes H o (Distance 0) → MakesPiece H (cond b (Whole (jump o n)) (Waiting o other))
landing_made H true o other n h = at_any H o n h
landing_made H false o other n h = h

landing_stays : (b : Bool) (o : Op) (other : Aim) (n long at : ℕ) (ps : Code) → at + n ≤ long → EachStays long (at + width_of o) ps → EachStays long at (cond b (Whole (jump o n)) (Waiting o other) ∷ ps)
landing_stays true o other n long at ps le h = ((at + n, le, inl refl), h)
landing_stays false o other n long at ps le h = (tt, h)

landing_tries : (b : Bool) (o : Op) (other : Aim) (n : ℕ) (ps : Code) → tries (cond b (Whole (jump o n)) (Waiting o other) ∷ ps) ≡ tries ps
landing_tries true o other n ps = refl
landing_tries false o other n ps = refl

landing_size : (b : Bool) (o : Op) (other : Aim) (n : ℕ) (ps : Code) → size (cond b (Whole (jump o n)) (Waiting o other) ∷ ps) ≡ width_of o + size ps
landing_size true o other n ps = refl
landing_size false o other n ps = refl

landed_made : (H : ℕ → Type 0) (aim : Aim) (code : Code) → EachMakes H code → EachMakes H (landed_by command_width jump aim code)
landed_made H aim [] h = tt
landed_made H aim (Whole c ∷ ps) h = (h.0, landed_made H aim ps h.1)
landed_made H aim (Waiting o other ∷ ps) h = (landing_made H (same_aim aim other) o other (width_by command_width (Waiting o other) + size_by command_width ps) h.0, landed_made H aim ps h.1)
landed_made H aim (Trying long depth ∷ ps) h = (tt, landed_made H aim ps h.1)

landed_stays : (aim : Aim) (long at : ℕ) (code : Code) → at + size code ≤ long → EachStays long at code → EachStays long at (landed_by command_width jump aim code)
landed_stays aim long at [] le h = tt
landed_stays aim long at (Whole c ∷ ps) le h = (h.0, landed_stays aim long (at + command_width c) ps (omega arith) h.1)
landed_stays aim long at (Waiting o other ∷ ps) le h =
    landing_stays (same_aim aim other) o other (width_by command_width (Waiting o other) + size_by command_width ps) long at (landed_by command_width jump aim ps) le (landed_stays aim long (at + width_of o) ps (omega arith) h.1)
landed_stays aim long at (Trying block depth ∷ ps) le h = (tt, landed_stays aim long (at + width_of op.Try) ps (omega arith) h.1)

landed_tries : (aim : Aim) (code : Code) → tries (landed_by command_width jump aim code) ≡ tries code
landed_tries aim [] = refl
landed_tries aim (Whole c ∷ ps) = landed_tries aim ps
landed_tries aim (Waiting o other ∷ ps) = landing_tries (same_aim aim other) o other (width_by command_width (Waiting o other) + size_by command_width ps) (landed_by command_width jump aim ps) ∙ landed_tries aim ps
landed_tries aim (Trying long depth ∷ ps) = ap suc (landed_tries aim ps)

landed_size : (aim : Aim) (code : Code) → size (landed_by command_width jump aim code) ≡ size code
landed_size aim [] = refl
landed_size aim (Whole c ∷ ps) = ap (λ (n : ℕ). command_width c + n) (landed_size aim ps)
landed_size aim (Waiting o other ∷ ps) =
    landing_size (same_aim aim other) o other (width_by command_width (Waiting o other) + size_by command_width ps) (landed_by command_width jump aim ps) ∙ ap (λ (n : ℕ). width_of o + n) (landed_size aim ps)
landed_size aim (Trying long depth ∷ ps) = ap (λ (n : ℕ). width_of op.Try + n) (landed_size aim ps)

landed : {H : ℕ → Type 0} {n : ℕ} {code : Code} (aim : Aim) → CodeSmall H n code → CodeSmall H n (landed_by command_width jump aim code)
landed {H} {n} {code} aim h =
    let e = landed_tries aim code in
    let p = h.few in
    record {
      made = landed_made H aim code h.made;
      stays = subst (λ (long : ℕ). EachStays long 0 (landed_by command_width jump aim code)) (sym (landed_size aim code)) (landed_stays aim (size code) 0 code (omega arith) h.stays);
      few = omega (arith, e, p);
    }

pub at_here : {H : ℕ → Type 0} {n : ℕ} {code : Code} (aim : Aim) → CodeSmall H n code → CodeSmall H n (here aim code)
at_here aim h = before (landed aim h) (command (plain op.JumpTarget) tt)

-- a jump over n bytes, from after them
back_to_start : (long more : ℕ) → long ≤ more → Stays more (0 + long) (Distance (2 ^ 64 - long))
back_to_start long more le = elim (leb_tells long (2 ^ 64)) [
  | inl low ↦ (0, omega arith, inr (omega (arith, low.1)))
  | inr high ↦ (long, le, inl (omega (arith, high.1)))
]

pub turns : {H : ℕ → Type 0} {n : ℕ} {code : Code} (o : Op) → Makes H o (Distance 0) → CodeSmall H n code → CodeSmall H n (turning o code)
turns {H} {n} {code} o h k =
    let last : Code = one (jump o (2 ^ 64 - size code)) in
    let e = tries_both code last in
    let p = k.few in
    record {
      made = made_both H code last k.made (at_any H o (2 ^ 64 - size code) h, tt);
      stays = stays_joined code last k.stays (back_to_start (size code) (size code + size last) (omega arith), tt);
      few = omega (arith, e, p);
    }

-- ---- finished code

settled_made : (H : ℕ → Type 0) (code : Code) → EachMakes H code → AllMake H (settled code)
settled_made H [] h = tt
settled_made H (Whole c ∷ ps) h = (h.0, settled_made H ps h.1)
settled_made H (Waiting o aim ∷ ps) h = (h.0, settled_made H ps h.1)
settled_made H (Trying long depth ∷ ps) h = (tt, settled_made H ps h.1)

stays_lands : (long at : ℕ) (x : Operand) → Stays long at x → Lands long at x
stays_lands long at Nothing h = tt
stays_lands long at (Number n) h = tt
stays_lands long at (Text t) h = tt
stays_lands long at (Aliased hops slot) h = tt
stays_lands long at (Distance d) (to, low, inl e) = let m = mod-le to (2 ^ 64) in subst (λ (n : ℕ). n % 2 ^ 64 ≤ long) (sym e) (omega (arith, m, low))
stays_lands long at (Distance d) (to, low, inr e) =
    let m = mod-le to (2 ^ 64) in
    let f = add-mod_right to (2 ^ 64) in
    subst (λ (n : ℕ). n % 2 ^ 64 ≤ long) (sym e) (subst (λ (n : ℕ). n ≤ long) (sym f) (omega (arith, m, low)))
stays_lands long at (Target t) h = absurd h

settled_lands : (long at : ℕ) (code : Code) → at + size code ≤ long → EachStays long at code → AllLand long at (settled code)
settled_lands long at [] le h = tt
settled_lands long at (Whole c ∷ ps) le h = (stays_lands long at c.operand h.0, settled_lands long (at + command_width c) ps (omega arith) h.1)
settled_lands long at (Waiting o aim ∷ ps) le h = let m = mod-le (at + 0) (2 ^ 64) in (omega (arith, m), settled_lands long (at + width_of o) ps (omega arith) h.1)
settled_lands long at (Trying block depth ∷ ps) le h = (tt, settled_lands long (at + width_of op.Try) ps (omega arith) h.1)

settled_size : (code : Code) → size code ≡ code_size (settled code)
settled_size [] = refl
settled_size (Whole c ∷ ps) = ap (λ (n : ℕ). command_width c + n) (settled_size ps)
settled_size (Waiting o aim ∷ ps) = ap (λ (n : ℕ). width_of o + n) (settled_size ps)
settled_size (Trying long depth ∷ ps) = ap (λ (n : ℕ). width_of op.Try + n) (settled_size ps)

notes_many : (at : ℕ) (code : Code) → length (notes_by command_width at code) ≡ tries code
notes_many at [] = refl
notes_many at (Whole c ∷ ps) = notes_many (at + command_width c) ps
notes_many at (Waiting o aim ∷ ps) = notes_many (at + width_by command_width (Waiting o aim)) ps
notes_many at (Trying long depth ∷ ps) = ap suc (notes_many (at + width_by command_width (Trying long depth)) ps)

pub record Finished (Holds : ℕ → Type 0) (most : ℕ) (code : Code) : Type 0 where
  pub made : AllMake Holds (settled code)
  pub jumps : AllLand (code_size (settled code)) 0 (settled code)
  pub few : length (notes code) ≤ most

pub finished : {H : ℕ → Type 0} {n : ℕ} {code : Code} → CodeSmall H n code → Finished H n code
finished {H} {n} {code} h =
    let e = notes_many 0 code in
    let p = h.few in
    record {
      made = settled_made H code h.made;
      jumps = subst (λ (long : ℕ). AllLand long 0 (settled code)) (settled_size code) (settled_lands (size code) 0 code (omega arith) h.stays);
      few = omega (arith, e, p);
    }
