-- A stencil is in range where the values that it stands for are small, and its texts and the bytes of its code are as they
-- should be.
use Rattle.std.proofs.Common.{◌≡◌, ℕ, ◌^◌, ◌%◌, ◌≤◌, zero, suc, ◌+◌, ◌-◌, ◌<◌, List, [], ◌∷◌, length, map, Option, Some, None, option_map, refl, sym, ◌∙◌, ap, ap₂, subst, slice_get, arith}
use Rattle.std.proofs.lemmas.List.{length-append, length-map}
use Rattle.parser_atoms.specs.Places.{AreWithoutEquals}
use Rattle.stencil_data.specs.declared.functions.Extent.{Extent}
use Rattle.stencil_data.specs.declared.stencils.Entry.{Entry}
use Rattle.stencil_data.specs.declared.stencils.Entry.TheVariants as entry
use Rattle.stencil_data.specs.MergedView.{MergedView}
use Rattle.stencil_data.specs.Named.{NamedFunction, NamedRecord, NamedMerged}
use Rattle.stencil_data.specs.StandsFor.{text_at, named_binding, named_scope, named_closed, named_record, NameWithin, RecordsWithin, FunctionStandsFor, EntriesStandFor, MergedStandsFor}
use Rattle.stencil_data.specs.Views.{ScopeView, RecordView, FunctionView}
use Rattle.bytecode_buf.specs.declared.opcode.Op.{Op}
use Rattle.bytecode_buf.specs.declared.opcode.Op.TheVariants as op
use Rattle.bytecode_buf.specs.Command.{Command, Listed, Operand, Nothing, Number, Text, Aliased, Distance, Target, operand_of, operand_at, command_of, command_at, listed_from, placed_from, ShowsCommands}
use Rattle.bytecode_buf.specs.InRange as range
use Rattle.bytecode_buf.specs.InRange.{Small, LambdaWithin, JumpWithin, InstructionsWithin, ScopesInRange, FunctionInRange, RecordsInRange, EntriesInRange, InRange}
use Rattle.bytecode_buf.specs.declared.opcode.Shape.{Shape}
use Rattle.bytecode_buf.specs.declared.opcode.Shape.TheVariants as shape
use Rattle.bytecode_buf.specs.Layout.{Numbered, instructions, laid, layout}
use Rattle.bytecode_buf.specs.Width.{shape_of, width_of}
use Rattle.bytecode_buf.proofs.ReadBack.{length-laid}
use Rattle.stencil_xdr_laws.specs.Sizes.{ScopesSmall, Makes, AllMake, Lands, AllLand, code_size, IsNumber, PartSmall, RecordsSmall, extent_or, extent_of, PartAgrees, EntriesAgree, MergedSmall}
use Rattle.stencil_xdr_laws.specs.Texts.{TextsStand, AtomsWithin, EntriesStand, CodesStand}

-- ---- numbers of functions in code

abbrev AllWithin : ℕ → List Numbered → Type 0
AllWithin functions [] = Unit {0}
AllWithin functions (i ∷ is) = LambdaWithin i.op i.a functions × AllWithin functions is

one_within : (texts : List (List ℕ)) (functions at : ℕ) (o : Op) (a b : ℕ) (operand : Operand) → operand_at at (operand_of texts (shape_of o) a b) ≡ operand_at at operand → Makes (IsNumber functions) o operand → LambdaWithin o a functions
one_within texts functions at op.Lambda a b Nothing is h = absurd h
one_within texts functions at op.Lambda a b (Number n) is h = let same : n ≡ a = cc in subst (IsNumber functions) same h
one_within texts functions at op.Lambda a b (Text t) is h = absurd h
one_within texts functions at op.Lambda a b (Aliased hops slot) is h = absurd h
one_within texts functions at op.Lambda a b (Distance n) is h = absurd h
one_within texts functions at op.Lambda a b (Target n) is h = absurd h
one_within texts functions at _ a b operand is h = tt

all_within : (texts : List (List ℕ)) (functions at : ℕ) (is : List Numbered) (cs : List Command) → listed_from texts at is ≡ placed_from at cs → AllMake (IsNumber functions) cs → AllWithin functions is
all_within texts functions at [] cs e h = tt
all_within texts functions at (i ∷ is) [] e h = absurd (cc)
all_within texts functions at (i ∷ is) (c ∷ cs) e h = (
  one_within texts functions at i.op i.a i.b c.operand (ap (λ (l : Listed). l.command.operand) head) (subst (λ (o : Op). Makes (IsNumber functions) o c.operand) (sym ops) h.0),
  all_within texts functions (at + width_of i.op) is cs (rest ∙ ap (λ (o : Op). placed_from (at + width_of o) cs) (sym ops)) h.1,
)
  where
    head : ◌≡◌ {A = Listed} (record { at = at; command = command_at at (command_of texts i) }) (record { at = at; command = command_at at c })
    head = cc

    ops : i.op ≡ c.op
    ops = ap (λ (l : Listed). l.command.op) head

    rest : listed_from texts (at + width_of i.op) is ≡ placed_from (at + width_of c.op) cs
    rest = cc

-- ---- jumps

abbrev AllJump : ℕ → ℕ → List Numbered → Type 0
AllJump size at [] = Unit {0}
AllJump size at (i ∷ is) = JumpWithin (shape_of i.op) at i.a size × AllJump size (at + width_of i.op) is

one_jump : (texts : List (List ℕ)) (size at : ℕ) (s : Shape) (a b : ℕ) (operand : Operand) → operand_at at (operand_of texts s a b) ≡ operand_at at operand → Lands size at operand → JumpWithin s at a size
one_jump texts size at shape.Jump a b Nothing is h = absurd (cc)
one_jump texts size at shape.Jump a b (Number n) is h = absurd (cc)
one_jump texts size at shape.Jump a b (Text t) is h = absurd (cc)
one_jump texts size at shape.Jump a b (Aliased hops slot) is h = absurd (cc)
one_jump texts size at shape.Jump a b (Distance d) is h = let same : (at + d) % 2 ^ 64 ≡ (at + a) % 2 ^ 64 = cc in subst (λ (n : ℕ). n ≤ size) same h
one_jump texts size at shape.Jump a b (Target t) is h = let same : t ≡ (at + a) % 2 ^ 64 = cc in subst (λ (n : ℕ). n ≤ size) same h
one_jump texts size at _ a b operand is h = tt

-- commands and instructions of one listing
record Alike (texts : List (List ℕ)) (at : ℕ) (i : Numbered) (is : List Numbered) (c : Command) (cs : List Command) : Type 0 where
  ops : i.op ≡ c.op
  operands : operand_at at (operand_of texts (shape_of i.op) i.a i.b) ≡ operand_at at c.operand
  rest : listed_from texts (at + width_of i.op) is ≡ placed_from (at + width_of i.op) cs

alike : (texts : List (List ℕ)) (at : ℕ) (i : Numbered) (is : List Numbered) (c : Command) (cs : List Command) → listed_from texts at (i ∷ is) ≡ placed_from at (c ∷ cs) → Alike texts at i is c cs
alike texts at i is c cs e = record { ops = ops; operands = ap (λ (l : Listed). l.command.operand) head; rest = rest ∙ ap (λ (o : Op). placed_from (at + width_of o) cs) (sym ops) }
  where
    head : ◌≡◌ {A = Listed} (record { at = at; command = command_at at (command_of texts i) }) (record { at = at; command = command_at at c })
    head = cc

    ops : i.op ≡ c.op
    ops = ap (λ (l : Listed). l.command.op) head

    rest : listed_from texts (at + width_of i.op) is ≡ placed_from (at + width_of c.op) cs
    rest = cc

all_jump : (texts : List (List ℕ)) (size at : ℕ) (is : List Numbered) (cs : List Command) → listed_from texts at is ≡ placed_from at cs → AllLand size at cs → AllJump size at is
all_jump texts size at [] cs e h = tt
all_jump texts size at (i ∷ is) [] e h = absurd (cc)
all_jump texts size at (i ∷ is) (c ∷ cs) e h =
    let a = alike texts at i is c cs e in
    (one_jump texts size at (shape_of i.op) i.a i.b c.operand a.operands h.0, all_jump texts size (at + width_of i.op) is cs a.rest (subst (λ (o : Op). AllLand size (at + width_of o) cs) (sym a.ops) h.1))

-- whole code has the size of its commands
same_size : (texts : List (List ℕ)) (at : ℕ) (is : List Numbered) (cs : List Command) → listed_from texts at is ≡ placed_from at cs → length (layout is) ≡ code_size cs
same_size texts at [] [] e = refl
same_size texts at [] (c ∷ cs) e = absurd (cc)
same_size texts at (i ∷ is) [] e = absurd (cc)
same_size texts at (i ∷ is) (c ∷ cs) e =
    let a = alike texts at i is c cs e in
    length-append (laid i) (layout is) ∙ ap₂ (λ (x : ℕ) (y : ℕ). x + y) (length-laid i ∙ ap width_of a.ops) (same_size texts (at + width_of i.op) is cs a.rest)

operands_within : (texts functions size at : ℕ) (is : List Numbered) → AtomsWithin texts is → AllWithin functions is → AllJump size at is → InstructionsWithin texts functions size at is
operands_within texts functions size at [] h k j = tt
operands_within texts functions size at (i ∷ is) h k j = ((h.0, k.0, j.0), operands_within texts functions size (at + width_of i.op) is h.1 k.1 j.1)

-- ---- functions

scopes_small : (texts : List (List ℕ)) (number : ℕ) (ss : List ScopeView) → ScopesSmall number (map (named_scope texts) ss) → ScopesInRange number ss
scopes_small texts number [] h = tt
scopes_small texts number (s ∷ ss) h = (h.0, subst Small (length-map s.bindings (named_binding texts)) h.1, h.2, scopes_small texts (number + 1) ss h.3)

part_in_range : (texts : List (List ℕ)) (functions : ℕ) (part : FunctionView) (n : NamedFunction (List Command)) → FunctionStandsFor ShowsCommands texts part n → AtomsWithin (length texts) (instructions part.code) → PartSmall functions n → FunctionInRange (length texts) functions part
part_in_range texts functions part n s c h = record {
  name = s.name_within;
  params = subst Small (sym s.params) h.params;
  scopes_small = subst Small (sym (ap length s.scopes.are) ∙ length-map part.scopes (named_scope texts)) h.few_scopes;
  scopes = scopes_small texts 0 part.scopes (subst (ScopesSmall 0) (sym s.scopes.are) h.scopes);
  bindings = s.scopes.within;
  notes_small = subst Small (sym (ap length s.notes)) h.few_notes;
  inner_small = subst Small (sym (ap length s.inner)) h.few_inner;
  code = record {
    whole = s.code.whole;
    operands = operands_within (length texts) functions (length part.code) 0 (instructions part.code) c (all_within texts functions 0 (instructions part.code) n.code s.code.is h.made)
        (all_jump texts (length part.code) 0 (instructions part.code) n.code s.code.is (subst (λ (size : ℕ). AllLand size 0 n.code) long h.jumps));
  };
}
  where
    long : code_size n.code ≡ length part.code
    long = sym (same_size texts 0 (instructions part.code) n.code s.code.is) ∙ ap length s.code.whole

-- ---- records

records_small : (texts : List (List ℕ)) (functions : ℕ) (rs : List RecordView) → RecordsSmall functions (map (named_record texts) rs) → RecordsInRange functions rs
records_small texts functions [] h = tt
records_small texts functions (r ∷ rs) h = (h.0, subst Small (length-map r.closed (named_closed texts)) h.1, h.2, records_small texts functions rs h.3)

get_named : (texts : List (List ℕ)) (rs : List RecordView) (k : ℕ) → slice_get (map (named_record texts) rs) k ≡ option_map (named_record texts) (slice_get rs k)
get_named texts [] k = refl
get_named texts (r ∷ rs) zero = refl
get_named texts (r ∷ rs) (suc k) = get_named texts rs k

same_extent : (texts : List (List ℕ)) (o : Option RecordView) → extent_or (option_map (named_record texts) o) ≡ range.extent_or o
same_extent texts None = refl
same_extent texts (Some r) = refl

extents_named : (texts : List (List ℕ)) (all : List RecordView) (ns : List ℕ) → map (extent_of (map (named_record texts) all)) ns ≡ map (range.extent_of all) ns
extents_named texts all [] = refl
extents_named texts all (n ∷ ns) = ap₂ (λ (e : Extent) (l : List Extent). e ∷ l) (ap extent_or (get_named texts all (n - 1)) ∙ same_extent texts (slice_get all (n - 1))) (extents_named texts all ns)

-- ---- names

text_stands : (texts : List (List ℕ)) (a : ℕ) → a < length texts → slice_get texts a ≡ Some (text_at texts a)
text_stands [] a h = absurd (omega arith)
text_stands (t ∷ texts) zero h = refl
text_stands (t ∷ texts) (suc a) h = text_stands texts a (omega arith)

-- names with one text are one, where no two texts are equal
one_name : (texts : List (List ℕ)) (m n : Option ℕ) → AreWithoutEquals texts → NameWithin (length texts) m → NameWithin (length texts) n → option_map (text_at texts) m ≡ option_map (text_at texts) n → m ≡ n
one_name texts None None different h k e = refl
one_name texts None (Some b) different h k e = absurd (cc)
one_name texts (Some a) None different h k e = absurd (cc)
one_name texts (Some a) (Some b) different h k e =
    let same : text_at texts a ≡ text_at texts b = cc in
    ap (λ (n : ℕ). Some n) (different (text_at texts b) a b (text_stands texts a h ∙ ap (λ (t : List ℕ). Some t) same) (text_stands texts b k))

-- ---- entries

entry_in_range : (texts : List (List ℕ)) (functions : ℕ) (all : List RecordView) (lazy : RecordView) (part : FunctionView) (n : NamedFunction (List Command)) → AreWithoutEquals texts → NameWithin (length texts) lazy.name → FunctionStandsFor ShowsCommands texts part n
    → AtomsWithin (length texts) (instructions part.code) → PartAgrees functions (map (named_record texts) all) (named_record texts lazy) n → range.EntryAgrees (length texts) functions all lazy part
entry_in_range texts functions all lazy part n different within s c h = record {
  range = part_in_range texts functions part n s c h.small;
  extent = s.extent ∙ h.extent;
  kind = s.kind ∙ h.kind;
  name = one_name texts part.name lazy.name different s.name_within within (s.name ∙ h.name);
  inner = s.inner ∙ (h.inner ∙ extents_named texts all lazy.inner);
}

entries_in_range : (texts : List (List ℕ)) (functions : ℕ) (all records : List RecordView) (es : List Entry) (ns : List (Option (NamedFunction (List Command)))) → AreWithoutEquals texts → RecordsWithin (length texts) records → EntriesStandFor ShowsCommands texts es ns
    → EntriesStand (length texts) es → EntriesAgree functions (map (named_record texts) all) (map (named_record texts) records) ns → EntriesInRange (length texts) functions all records es
entries_in_range texts functions all [] [] ns different within s c h = tt
entries_in_range texts functions all [] (e ∷ es) [] different within s c h = absurd s
entries_in_range texts functions all [] (e ∷ es) (n ∷ ns) different within s c h = absurd h
entries_in_range texts functions all (lazy ∷ records) [] [] different within s c h = absurd h
entries_in_range texts functions all (lazy ∷ records) [] (n ∷ ns) different within s c h = absurd s
entries_in_range texts functions all (lazy ∷ records) (e ∷ es) [] different within s c h = absurd s
entries_in_range texts functions all (lazy ∷ records) (entry.Lazy ∷ es) (n ∷ ns) different within s c h = (tt, entries_in_range texts functions all records es ns different within.1 s.1 c h.1)
entries_in_range texts functions all (lazy ∷ records) (entry.Compiled part ∷ es) (None ∷ ns) different within s c h = absurd s.0
entries_in_range texts functions all (lazy ∷ records) (entry.Compiled part ∷ es) (Some n ∷ ns) different within s c h =
    (entry_in_range texts functions all lazy part n different within.0.0 s.0 c.0 h.0, entries_in_range texts functions all records es ns different within.1 s.1 c.1 h.1)

-- ---- stencils

pub stencil_in_range : (m : MergedView) (n : NamedMerged (List Command)) → MergedStandsFor ShowsCommands m n → MergedSmall n → TextsStand m.texts → CodesStand m → InRange m
stencil_in_range m n s h t c = record {
  texts_small = t.few;
  units_small = t.short;
  records_small = subst Small count h.few;
  atoms = s.records.within;
  records = records_small m.texts (length m.records) m.records (subst (λ (rs : List NamedRecord). RecordsSmall (length m.records) rs) (sym s.records.are) (subst (λ (k : ℕ). RecordsSmall k n.records) count h.records));
  top = record {
    range = part_in_range m.texts (length m.records) m.top n.top s.top c.top (subst (λ (k : ℕ). PartSmall k n.top) count h.top.small);
    kind = s.top.kind ∙ h.top.kind;
    name = no_name m.top.name (s.top.name ∙ h.top.name);
    params = s.top.params ∙ h.top.params;
    start = ap (λ (e : Extent). e.start) s.top.extent ∙ h.top.start;
  };
  entries = entries_in_range m.texts (length m.records) m.records m.records m.entries n.entries t.different s.records.within s.entries c.entries
      (subst (λ (rs : List NamedRecord). EntriesAgree (length m.records) rs rs n.entries) (sym s.records.are) (subst (λ (k : ℕ). EntriesAgree k n.records n.records n.entries) count h.entries));
}
  where
    count : length n.records ≡ length m.records
    count = sym (ap length s.records.are) ∙ length-map m.records (named_record m.texts)

    no_name : (name : Option ℕ) → option_map (text_at m.texts) name ≡ None → name ≡ None
    no_name None e = refl
    no_name (Some a) e = absurd (cc)
