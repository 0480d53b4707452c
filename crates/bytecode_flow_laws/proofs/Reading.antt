-- Instructions of bytes, one by one, beside the commands that they stand for.
use Rattle.std.proofs.Common.{◌≡◌, ◌∙◌, ℕ, ◌+◌, List, [], ◌∷◌, refl, sym, ap}
use Rattle.bytecode_buf.specs.declared.opcode.Op.{Op}
use Rattle.bytecode_buf.specs.Command.{Command, operand_of, operand_at, Listed, listed_from, placed_from, ShowsCommands}
use Rattle.bytecode_buf.specs.Layout.{Numbered, instructions}
use Rattle.bytecode_buf.specs.Width.{shape_of, width_of}
use Rattle.bytecode_flow_laws.specs.Staying.{commands_size}

-- ---- an instruction stands for a command at an offset

pub record StandsAt (texts : List (List ℕ)) (at : ℕ) (i : Numbered) (c : Command) : Type 0 where
  pub op : i.op ≡ c.op
  pub operand : operand_at at (operand_of texts (shape_of i.op) i.a i.b) ≡ operand_at at c.operand

-- each instruction for its command
abbrev pub AllStand : List (List ℕ) → ℕ → List Numbered → List Command → Type 0
AllStand texts at [] [] = Unit {0}
AllStand texts at [] (c ∷ cs) = ⊥
AllStand texts at (i ∷ is) [] = ⊥
AllStand texts at (i ∷ is) (c ∷ cs) = StandsAt texts at i c × AllStand texts (at + width_of i.op) is cs

heads : (a b : Listed) (xs ys : List Listed) → ◌≡◌ {A = List Listed} (a ∷ xs) (b ∷ ys) → a ≡ b
heads a b xs ys e = cc

tails : (a b : Listed) (xs ys : List Listed) → ◌≡◌ {A = List Listed} (a ∷ xs) (b ∷ ys) → xs ≡ ys
tails a b xs ys e = cc

none_some : (b : Listed) (bs : List Listed) → ◌≡◌ {A = List Listed} [] (b ∷ bs) → ⊥
none_some b bs e = cc

some_none : (a : Listed) (xs : List Listed) → ◌≡◌ {A = List Listed} (a ∷ xs) [] → ⊥
some_none a xs e = cc

pub all_stand : (texts : List (List ℕ)) (at : ℕ) (is : List Numbered) (cs : List Command) → listed_from texts at is ≡ placed_from at cs → AllStand texts at is cs
all_stand texts at [] [] e = tt
all_stand texts at [] (c ∷ cs) e = absurd (none_some _ _ e)
all_stand texts at (i ∷ is) [] e = absurd (some_none _ _ e)
all_stand texts at (i ∷ is) (c ∷ cs) e =
    let head = heads _ _ _ _ e in
    let same : i.op ≡ c.op = ap (λ (l : Listed). l.command.op) head in
    let rest : listed_from texts (at + width_of i.op) is ≡ placed_from (at + width_of c.op) cs = tails _ _ _ _ e in (
      record { op = same; operand = ap (λ (l : Listed). l.command.operand) head },
      all_stand texts (at + width_of i.op) is cs (rest ∙ ap (λ (o : Op). placed_from (at + width_of o) cs) (sym same)),
    )

pub shown_stand : (texts : List (List ℕ)) (code : List ℕ) (commands : List Command) → ShowsCommands texts code commands → AllStand texts 0 (instructions code) commands
shown_stand texts code commands shows = all_stand texts 0 (instructions code) commands shows.is

-- ---- the bytes that instructions take

abbrev pub instructions_size : List Numbered → ℕ
instructions_size [] = 0
instructions_size (i ∷ is) = width_of i.op + instructions_size is

pub same_size : (texts : List (List ℕ)) (at : ℕ) (is : List Numbered) (cs : List Command) → AllStand texts at is cs → instructions_size is ≡ commands_size cs
same_size texts at [] [] h = refl
same_size texts at [] (c ∷ cs) h = absurd h
same_size texts at (i ∷ is) [] h = absurd h
same_size texts at (i ∷ is) (c ∷ cs) h =
    ap (λ (o : Op). width_of o + instructions_size is) h.0.op ∙ ap (λ (n : ℕ). width_of c.op + n) (same_size texts (at + width_of i.op) is cs h.1)
