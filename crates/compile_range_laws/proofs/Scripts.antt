-- What is shown of a script that was read without an error is small, and so its stencil is in range.
use Rattle.std.proofs.Common.{◌≡◌, ℕ, ◌+◌, zero, suc, ◌-◌, ◌<◌, Bool, true, false, cond, nat_lt, List, [], ◌∷◌, length, map, filter, slice_get, Some, None, refl, sym, ◌∙◌, ap, ap₂, subst, inl, inr, arith}
use Rattle.std.proofs.lemmas.List.{length-map}
use Rattle.script_grammar.specs.Lexeme.{Lexeme}
use Rattle.script_grammar.specs.Tree.{Function, function, Stmts}
use Rattle.stencil_data.specs.declared.functions.Extent.{Extent}
use Rattle.stencil_data.specs.LinkView.{LinkView}
use Rattle.stencil_data.specs.MergedView.{MergedView}
use Rattle.stencil_data.specs.Named.{NamedFunction, NamedClosed, NamedRecord, NamedMerged}
use Rattle.bytecode_buf.specs.declared.opcode.Op.{Op}
use Rattle.bytecode_buf.specs.declared.opcode.Op.TheVariants as op
use Rattle.bytecode_buf.specs.Command.{Command, Operand, Nothing, Number, Text, Aliased, Distance, Target}
use Rattle.bytecode_buf.specs.InRange.{Small, NumbersWithin, InRange}
use Rattle.bytecode_buf.specs.Width.{width_of}
use Rattle.parse_track.specs.ClosedNames.{Bound}
use Rattle.parse_track.specs.Notes.{closed_names}
use Rattle.scope_analysis.specs.Closed.{closed_over}
use Rattle.scope_analysis.specs.Functions.{Inner, inner_function, inner_script}
use Rattle.scope_analysis.specs.Scopes.{function_scopes, script_scopes}
use Rattle.emit_stmts.specs.Functions.{start_of, extent_of, extents_of, chain_at, top_script}
use Rattle.scope_closed_laws.specs.Handed.{function_start}
use Rattle.script_grammar.specs.NameTokens.{OfEachNameToken, IsNotThis}
use Rattle.scope_closed_laws.specs.Sound.{IsSound}
use Rattle.scope_closed_laws.proofs.Handing.{sound_function}
use Rattle.compile_function.proofs.Shown.{same_closed}
use Rattle.compile_specs.specs.Eager.{Site, AreFunctions, compiled_at}
use Rattle.compile_specs.specs.Shown as shown
use Rattle.compile_specs.specs.Shown.{Wanted, IsShown, number_of, numbers_of, closed_of, record_of, renumbered, with_numbers, entry, is_shown}
use Rattle.emit_limit_laws.specs.EveryFunction.{Among}
use Rattle.emit_limit_laws.specs.Limits.{ScriptStands}
use Rattle.emit_limit_laws.proofs.EveryFunction.{every_stands}
use Rattle.emit_limit_laws.specs.Offsets.{OffsetsRise, site_starts}
use Rattle.emit_limit_laws.proofs.RisingSites.{sites_rise, sites_numbered}
use Rattle.compile_wanted.specs.Shows.{Shows}
use Rattle.stencil_xdr_laws.specs.Sizes as sizes
use Rattle.stencil_xdr_laws.specs.Sizes.{Makes, AllMake, Lands, AllLand, code_size, IsNumber, PartSmall, RecordsSmall, extent_or, PartAgrees, EntryAgrees, EntriesAgree, MergedSmall}
use Rattle.stencil_xdr_laws.specs.Texts.{TextsStand, CodesStand}
use Rattle.compile_range_laws.proofs.FunctionSizes.{PartStands, function_stands, script_stands}
use Rattle.compile_range_laws.proofs.Numbers.{among_map, AllStart, numbers_within, number_at, site_at}
use Rattle.compile_range_laws.proofs.Sites.{sites_at, known, in_script, in_function}
use Rattle.stencil_xdr_laws.proofs.Standing.{stencil_in_range}

-- ---- functions named by their numbers

one_numbered : (functions : ℕ) (numbers : List ℕ) (o : Op) (operand : Operand) → NumbersWithin functions numbers → Makes (λ (n : ℕ). n < length numbers) o operand → Makes (IsNumber functions) o (renumbered numbers o operand)
one_numbered functions numbers op.Lambda Nothing w h = absurd h
one_numbered functions numbers op.Lambda (Number place) w h = number_at functions numbers place w h
one_numbered functions numbers op.Lambda (Text t) w h = absurd h
one_numbered functions numbers op.Lambda (Aliased hops slot) w h = absurd h
one_numbered functions numbers op.Lambda (Distance n) w h = absurd h
one_numbered functions numbers op.Lambda (Target n) w h = absurd h
one_numbered functions numbers _ operand w h = tt

all_numbered : (functions : ℕ) (numbers : List ℕ) (cs : List Command) → NumbersWithin functions numbers → AllMake (λ (n : ℕ). n < length numbers) cs
    → AllMake (IsNumber functions) (map (λ (c : Command). record { op = c.op; operand = renumbered numbers c.op c.operand }) cs)
all_numbered functions numbers [] w h = tt
all_numbered functions numbers (c ∷ cs) w h = (one_numbered functions numbers c.op c.operand w h.0, all_numbered functions numbers cs w h.1)

one_jump : (numbers : List ℕ) (size at : ℕ) (o : Op) (operand : Operand) → Lands size at operand → Lands size at (renumbered numbers o operand)
one_jump numbers size at op.Lambda Nothing h = h
one_jump numbers size at op.Lambda (Number place) h = tt
one_jump numbers size at op.Lambda (Text t) h = h
one_jump numbers size at op.Lambda (Aliased hops slot) h = h
one_jump numbers size at op.Lambda (Distance n) h = h
one_jump numbers size at op.Lambda (Target n) h = h
one_jump numbers size at _ operand h = h

all_jump : (numbers : List ℕ) (size at : ℕ) (cs : List Command) → AllLand size at cs → AllLand size at (map (λ (c : Command). record { op = c.op; operand = renumbered numbers c.op c.operand }) cs)
all_jump numbers size at [] h = tt
all_jump numbers size at (c ∷ cs) h = (one_jump numbers size at c.op c.operand h.0, all_jump numbers size (at + width_of c.op) cs h.1)

same_size : (numbers : List ℕ) (cs : List Command) → code_size cs ≡ code_size (map (λ (c : Command). record { op = c.op; operand = renumbered numbers c.op c.operand }) cs)
same_size numbers [] = refl
same_size numbers (c ∷ cs) = ap (λ (n : ℕ). width_of c.op + n) (same_size numbers cs)

numbered : (starts : List ℕ) (part : NamedFunction (List Command)) → PartStands part → NumbersWithin (length starts) (numbers_of starts part.inner) → PartSmall (length starts) (with_numbers starts part)
numbered starts part s w = record {
  params = s.params;
  few_scopes = s.few_scopes;
  scopes = s.scopes;
  few_notes = s.few_notes;
  few_inner = s.few_inner;
  made = all_numbered (length starts) (numbers_of starts part.inner) part.code w (subst (λ (k : ℕ). AllMake (λ (n : ℕ). n < k) part.code) (sym (length-map part.inner (λ (e : Extent). number_of starts e.start))) s.made);
  jumps = subst (λ (size : ℕ). AllLand size 0 (with_numbers starts part).code) (same_size (numbers_of starts part.inner) part.code) (all_jump (numbers_of starts part.inner) (code_size part.code) 0 part.code s.jumps);
}

-- ---- where functions start

start_is : (f : Function) → (extent_of f).start ≡ start_of f
start_is (function form start end who ps comma bare body) = refl

same_start : (f : Function) → function_start f ≡ start_of f
same_start (function form start end who ps comma bare body) = refl

all_start : (all : List Site) (is : List Inner) → ((i : Inner) → Among i is → Among (start_of i.func) (site_starts all)) → AllStart (site_starts all) (extents_of is)
all_start all [] f = tt
all_start all (i ∷ is) f = (subst (λ (n : ℕ). Among n (site_starts all)) (sym (start_is i.func)) (f i (inl refl)), all_start all is (λ j a. f j (inr a)))

abbrev part_at : Site → NamedFunction (List Command)
part_at s = (compiled_at s).part

-- ---- records, by the functions where they stand

abbrev records_of : List ℕ → List (Bound (List ℕ)) → List Site → List NamedRecord
records_of starts bound some = map (record_of starts bound) (map part_at some)

records_many : (starts : List ℕ) (bound : List (Bound (List ℕ))) (all : List Site) → length (site_starts all) ≡ length (records_of starts bound all)
records_many starts bound all = length-map all (λ (s : Site). start_of s.inner.func) ∙ (sym (length-map all part_at) ∙ sym (length-map (map part_at all) (record_of starts bound)))

get_record : (starts : List ℕ) (bound : List (Bound (List ℕ))) (all : List Site) (k : ℕ) (s : Site) → slice_get all k ≡ Some s → slice_get (records_of starts bound all) k ≡ Some (record_of starts bound (part_at s))
get_record starts bound [] k s e = absurd (cc)
get_record starts bound (x ∷ all) zero s e = let same : x ≡ s = cc in ap (λ (y : Site). Some (record_of starts bound (part_at y))) same
get_record starts bound (x ∷ all) (suc k) s e = get_record starts bound all k s e

-- the extent by a function's number is that of the function
extent_found : (bound : List (Bound (List ℕ))) (all : List Site) (s : Site) → OffsetsRise 0 (site_starts all) → Among s all
    → sizes.extent_of (records_of (site_starts all) bound all) (number_of (site_starts all) (extent_of s.inner.func).start) ≡ extent_of s.inner.func
extent_found bound all s rise a =
    let place : ℕ = length (filter (λ (m : ℕ). nat_lt m (start_of s.inner.func)) (site_starts all)) in
    let less : number_of (site_starts all) (start_of s.inner.func) - 1 ≡ place = omega arith in
    ap (λ (n : ℕ). sizes.extent_of (records_of (site_starts all) bound all) (number_of (site_starts all) n)) (start_is s.inner.func)
    ∙ (ap (λ (n : ℕ). extent_or (slice_get (records_of (site_starts all) bound all) n)) less
    ∙ ap extent_or (get_record (site_starts all) bound all place s (site_at 0 all s rise a)))

inner_found : (bound : List (Bound (List ℕ))) (all : List Site) (chain : Inner → List LinkView) (is : List Inner) → OffsetsRise 0 (site_starts all) → ((i : Inner) → Among i is → Among (record { inner = i; chain = chain i }) all)
    → extents_of is ≡ map (sizes.extent_of (records_of (site_starts all) bound all)) (numbers_of (site_starts all) (extents_of is))
inner_found bound all chain [] rise f = refl
inner_found bound all chain (i ∷ is) rise f =
    ap₂ (λ (e : Extent) (l : List Extent). e ∷ l) (sym (extent_found bound all (record { inner = i; chain = chain i }) rise (f i (inl refl)))) (inner_found bound all chain is rise (λ j a. f j (inr a)))

-- ---- a script that was read

-- these are its functions
record Reads (items : Stmts) (end : ℕ) (all : List Site) : Type 0 where
  pub tokens : List Lexeme
  pub last : Lexeme
  pub stands : ScriptStands tokens last items
  pub plain : OfEachNameToken IsNotThis tokens
  pub are : AreFunctions items end all

module _ (items : Stmts) (end : ℕ) (all : List Site) (r : Reads items end all) where
  rise : OffsetsRise 0 (site_starts all)
  rise = sites_rise r.tokens r.last items end all r.stands r.are

  sound : IsSound items
  sound = record { tokens = r.tokens; end = r.last; script = r.stands.script; rise = r.stands.rise; names = r.plain; faultless = r.stands.faultless }

  part_stands : (s : Site) → Among s all → PartStands (part_at s)
  part_stands s a = function_stands s.inner.kind s.inner.name s.inner.func s.chain (every_stands r.tokens r.last items r.stands s.inner s.chain (sites_at items end all r.are s a))

  part_numbers : (s : Site) → Among s all → NumbersWithin (length (site_starts all)) (numbers_of (site_starts all) (part_at s).inner)
  part_numbers s a =
      let is = inner_function s.inner.kind s.inner.name s.inner.func in
      let chain = chain_at (function_scopes s.inner.kind s.inner.name s.inner.func) s.chain in
      numbers_within (site_starts all) (extents_of is)
      (all_start all is (λ i b. among_map (λ (x : Site). start_of x.inner.func) (record { inner = i; chain = chain i }) all (in_function items end all r.are s a i b)))

  part_closed : (s : Site) → Among s all → Small (length (closed_of (closed_names items) (part_at s).extent.start))
  part_closed s a =
      let of = known items s.inner s.chain (sites_at items end all r.are s a) in
      let same : closed_of (closed_names items) (extent_of s.inner.func).start ≡ closed_over (function_scopes s.inner.kind s.inner.name s.inner.func) =
      ap (closed_of (closed_names items)) (start_is s.inner.func ∙ sym (same_start s.inner.func)) ∙ (sym (same_closed (closed_names items) (function_start s.inner.func)) ∙ sound_function items s.inner sound of) in
      subst (λ (cs : List NamedClosed). Small (length cs)) (sym same) (part_stands s a).closed

  records_small : (some : List Site) → ((s : Site) → Among s some → Among s all) → RecordsSmall (length (site_starts all)) (records_of (site_starts all) (closed_names items) some)
  records_small [] f = tt
  records_small (s ∷ some) f = (
    subst Small (sym (length-map (part_at s).inner (λ (e : Extent). number_of (site_starts all) e.start))) (part_stands s (f s (inl refl))).few_inner,
    part_closed s (f s (inl refl)),
    part_numbers s (f s (inl refl)),
    records_small some (λ x a. f x (inr a)),
  )

  part_agrees : (s : Site) → Among s all → PartAgrees (length (site_starts all)) (records_of (site_starts all) (closed_names items) all) (record_of (site_starts all) (closed_names items) (part_at s)) (with_numbers (site_starts all) (part_at s))
  part_agrees s a = record {
    small = numbered (site_starts all) (part_at s) (part_stands s a) (part_numbers s a);
    extent = refl;
    kind = refl;
    name = refl;
    inner = inner_found (closed_names items) all (chain_at (function_scopes s.inner.kind s.inner.name s.inner.func) s.chain) (inner_function s.inner.kind s.inner.name s.inner.func) rise (λ i b. in_function items end all r.are s a i b);
  }

  by_flag : (b : Bool) (lazy : NamedRecord) (part : NamedFunction (List Command)) → PartAgrees (length (site_starts all)) (records_of (site_starts all) (closed_names items) all) lazy part
      → EntryAgrees (length (site_starts all)) (records_of (site_starts all) (closed_names items) all) lazy (cond b (Some part) None)
  by_flag true lazy part h = h
  by_flag false lazy part h = tt

  entries_agree : (want : Wanted) (extents : List Extent) (some : List Site) → ((s : Site) → Among s some → Among s all)
      → EntriesAgree (length (site_starts all)) (records_of (site_starts all) (closed_names items) all) (records_of (site_starts all) (closed_names items) some) (map (entry want extents (site_starts all)) (map part_at some))
  entries_agree want extents [] f = tt
  entries_agree want extents (s ∷ some) f = (
    by_flag (is_shown want extents (part_at s).extent) (record_of (site_starts all) (closed_names items) (part_at s)) (with_numbers (site_starts all) (part_at s)) (part_agrees s (f s (inl refl))),
    entries_agree want extents some (λ x a. f x (inr a)),
  )

  top_numbers : NumbersWithin (length (site_starts all)) (numbers_of (site_starts all) (top_script items end).part.inner)
  top_numbers =
      numbers_within (site_starts all) (extents_of (inner_script items))
      (all_start all (inner_script items) (λ i b. among_map (λ (x : Site). start_of x.inner.func) (record { inner = i; chain = chain_at (script_scopes items) [] i }) all (in_script items end all r.are i b)))

  top_small : PartSmall (length (site_starts all)) (with_numbers (site_starts all) (top_script items end).part)
  top_small = numbered (site_starts all) (top_script items end).part (script_stands r.tokens r.last items end r.stands) top_numbers

-- ---- what is shown

abbrev shown_by : Wanted → Stmts → ℕ → List Site → List ℕ → NamedMerged (List Command)
shown_by want items end all starts = record {
  top = with_numbers starts (top_script items end).part;
  records = records_of starts (closed_names items) all;
  entries = map (entry want (shown.extents_of (map part_at all)) starts) (map part_at all);
}

shown_small : (want : Wanted) (items : Stmts) (end : ℕ) (all : List Site) → Reads items end all → MergedSmall (shown_by want items end all (site_starts all))
shown_small want items end all r =
    let recs = records_of (site_starts all) (closed_names items) all in
    let count = records_many (site_starts all) (closed_names items) all in
    let some = sites_numbered r.tokens r.last items end all r.stands r.are in
    let long = length-map all (λ (s : Site). start_of s.inner.func) in record {
      few = omega (arith, count, some, long);
      records = subst (λ (n : ℕ). RecordsSmall n recs) count (records_small items end all r all (λ s a. a));
      top = record {
        small = subst (λ (n : ℕ). PartSmall n (with_numbers (site_starts all) (top_script items end).part)) count (top_small items end all r);
        kind = refl;
        name = refl;
        params = refl;
        start = refl;
      };
      entries = subst (λ (n : ℕ). EntriesAgree n recs recs (map (entry want (shown.extents_of (map part_at all)) (site_starts all)) (map part_at all))) count (entries_agree items end all r want (shown.extents_of (map part_at all)) all (λ s a. a));
    }

starts_same : (some : List Site) → shown.starts_of (map part_at some) ≡ site_starts some
starts_same [] = refl
starts_same (s ∷ some) = ap₂ (λ (n : ℕ) (l : List ℕ). n ∷ l) (start_is s.inner.func) (starts_same some)

-- what is shown of a script that was read is small
pub is_shown_small : (tokens : List Lexeme) (last : Lexeme) (items : Stmts) (end : ℕ) (want : Wanted) (merged : NamedMerged (List Command)) → ScriptStands tokens last items → OfEachNameToken IsNotThis tokens → IsShown want items end merged → MergedSmall merged
is_shown_small tokens last items end want merged s plain h =
    let eager = h.2 in
    let r : Reads items end eager.all = record { tokens = tokens; last = last; stands = s; plain = plain; are = eager.are } in
    subst MergedSmall (sym (h.3 ∙ ap₂ (λ (t : NamedFunction (List Command)) (fs : List (NamedFunction (List Command))). shown.shown want (closed_names items) t fs) eager.script eager.each))
    (subst (λ (starts : List ℕ). MergedSmall (shown_by want items end eager.all starts)) (sym (starts_same eager.all)) (shown_small want items end eager.all r))

-- The stencil of a script that was compiled is in range, where its texts and the bytes of its code are as they should be.
pub shows_in_range : (tokens : List Lexeme) (last : Lexeme) (items : Stmts) (end : ℕ) (want : Wanted) (merged : MergedView) → ScriptStands tokens last items → OfEachNameToken IsNotThis tokens
    → Shows want items end merged → TextsStand merged.texts → CodesStand merged → InRange merged
shows_in_range tokens last items end want merged s plain h t c = stencil_in_range merged h.named h.stands (is_shown_small tokens last items end want h.named s plain h.shown) t c
