-- What all visits of a round found together is what the script has, whatever tree its bytes have.
use Rattle.std.proofs.Common.{List, [], ap, ap₂, arith, refl, subst, suc, sym, ℕ, ◌<◌, ◌∙◌, ◌∷◌}
use Rattle.std.specs.Prelude.{Some, length, map, slice_get, slice_index_or, sum, ◌+◌, ◌-◌, ◌≡◌}
use Rattle.bytecode_buf.specs.Command.{Command}
use Rattle.bytecode_buf.specs.Layout.{instructions}
use Rattle.compile_first_pass.proofs.FileLemmas.{text_of}
use Rattle.compile_initial.specs.Initial.{IsInitialOf}
use Rattle.compile_initial.specs.declared.InitialStencil.{InitialStencil}
use Rattle.compile_specs.proofs.Counts.{one_count}
use Rattle.compile_specs.specs.Counted.{HasFunctions}
use Rattle.compile_specs.specs.Eager.{Site, compiled_at}
use Rattle.emit_limit_laws.proofs.SiteCounts.{functions_counted}
use Rattle.emit_stmts.specs.Functions.{top_script}
use Rattle.helper_tasks.specs.Jobs.{GivesEach}
use Rattle.lazy_compile.specs.Delazified.{all_texts}
use Rattle.lazy_compile.specs.declared.Delazified.{Delazified}
use Rattle.lazy_function.specs.Numbered.{IsCompiledFunction}
use Rattle.parse_script.proofs.TextLemmas.{one_text}
use Rattle.script_grammar.specs.Tree.{Stmts}
use Rattle.script_scanner.specs.Lexemes.{lexemes}
use Rattle.session_churn.proofs.Instructions.{code_counted, script_counted}
use Rattle.session_churn.specs.Counts.{FunctionHas, HasInstructions, HaveInstructions, size_at}
use Rattle.session_churn.specs.Visits.{IsVisitOf, size_of}
use Rattle.session_churn.specs.declared.visits.Visit.{Visit}
use Rattle.session_specs.specs.Sources.{IsValid}
use Rattle.stencil_data.specs.Named.{NamedInitial}

-- ---- one script

same_items : (bytes : List ℕ) (a b : Stmts) (m n : ℕ) → IsValid bytes a m → IsValid bytes b n → a ≡ b
same_items bytes a b m n h k = one_text (lexemes bytes) a b (text_of bytes a h.read) (text_of bytes b k.read)

same_count : (bytes : List ℕ) (a b : Stmts) (m n : ℕ) → IsValid bytes a m → IsValid bytes b n → m ≡ n
same_count bytes a b m n h k = one_count b m n (subst (λ (x : Stmts). HasFunctions x m) (same_items bytes a b m n h k) h.functions) k.functions

-- ---- one visit

-- what was compiled has as many instructions as the function has
pub function_counted : (bytes : List ℕ) (number count : ℕ) (made : Delazified) → IsCompiledFunction bytes number made → count ≡ length (instructions made.stencil.code) → FunctionHas bytes number count
function_counted bytes number count made compiled counted items functions all m valid are at =
    counted ∙ code_counted (all_texts made) made.stencil.code (compiled_at m).part.code (compiled items functions all m valid are at).stands.code

-- ---- all visits

sizes_same : (visits : List Visit) (all : List Site) → length visits ≡ length all → ((i : ℕ) (d : Visit) (m : Site) → i < length visits → slice_get all i ≡ Some m → size_of (slice_index_or visits i d) ≡ size_at m)
    → map size_of visits ≡ map size_at all
sizes_same [] [] e h = refl
sizes_same [] (s ∷ all) e h = absurd (omega (arith, e))
sizes_same (v ∷ visits) [] e h = absurd (omega (arith, e))
sizes_same (v ∷ visits) (s ∷ all) e h = ap₂ (λ (n : ℕ) (ns : List ℕ). n ∷ ns) (h 0 v s (omega arith) refl) (sizes_same visits all (omega (arith, e)) (λ i d m lt at. h (suc i) d m (omega (arith, lt)) at))

-- they found the instructions of all functions
pub visits_counted : (bytes : List ℕ) (initial : InitialStencil) (visits : List Visit) (total : ℕ) → IsInitialOf bytes initial → length visits ≡ length initial.parts.records
    → GivesEach (λ (task : ℕ) (visit : Visit). IsVisitOf bytes (task + 1) visit) visits → total ≡ sum (map size_of visits) → HaveInstructions bytes total
visits_counted bytes initial visits total is long gives is_sum items functions all valid are =
    let counted : length all ≡ functions = one_count items (length all) functions (functions_counted items (length bytes) all are) valid.functions in
    let same : length initial.parts.records ≡ functions = same_count bytes is.items items (length initial.parts.records) functions is.valid valid in
    is_sum
    ∙ ap sum (sizes_same visits all (omega (arith, long, counted, same)) (λ i d m lt at.
    let place : i ≡ (i + 1) - 1 = omega arith in
    (gives i d lt).instructions items functions all m valid are (subst (λ (k : ℕ). slice_get all k ≡ Some m) place at)))

-- ---- the script

-- with the instructions of its own part
pub script_has : (bytes : List ℕ) (initial : InitialStencil) (top found : ℕ) → IsInitialOf bytes initial → top ≡ length (instructions initial.parts.top.code) → HaveInstructions bytes found → HasInstructions bytes (top + found)
script_has bytes initial top found is counted have items functions merged valid shown =
    let w = script_counted items (length bytes) merged shown in
    let own : top ≡ length (top_script items (length bytes)).part.code =
    counted
    ∙ (code_counted initial.parts.texts initial.parts.top.code is.named.top.code is.stands.top.code
    ∙ (ap (λ (n : NamedInitial (List Command)). length n.top.code) is.is
    ∙ ap (λ (t : Stmts). length (top_script t (length bytes)).part.code) (same_items bytes is.items items (length initial.parts.records) functions is.valid valid))) in
    ap₂ (λ (m n : ℕ). m + n) own (have items functions w.all valid w.functions) ∙ sym w.count
