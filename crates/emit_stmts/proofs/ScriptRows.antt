-- The code of a script, and the stencil that holds it.
use Rattle.std.proofs.Common.{◌≡◌, ℕ, ◌+◌, ◌<◌, ◌%◌, ◌^◌, true, List, [], ◌∷◌, ◌++◌, map, None, refl, sym, ◌∙◌, ap, ap₂, subst, add-zero, zero-add, arith}
use Rattle.script_grammar.specs.declared.tree.Stmt.{Stmt}
use Rattle.script_grammar.specs.Interpretation.{Interpretation}
use Rattle.script_grammar.specs.Tree.{Stmts, no_stmts, more_stmts, Function, function}
use Rattle.script_grammar.specs.Tree as model
use Rattle.script_grammar.specs.TreeLists.{stmts_of}
use Rattle.script_grammar.specs.TreeOf.{stmt_of}
use Rattle.stencil_data.specs.declared.functions.Extent.{Extent}
use Rattle.stencil_data.specs.declared.functions.FuncKind.TheVariants as func
use Rattle.stencil_data.specs.declared.stencils.TryNote.{TryNote}
use Rattle.stencil_data.specs.LinkView.{LinkView}
use Rattle.stencil_data.specs.Named.{NamedScope}
use Rattle.stencil_data.specs.StandsFor.{named_scope}
use Rattle.stencil_data.specs.Views.{ScopeView}
use Rattle.scope_analysis.specs.Functions.{Inner, inner_script}
use Rattle.bytecode_buf.specs.declared.opcode.Op.TheVariants as op
use Rattle.bytecode_buf.specs.declared.waits.Wait.{Wait}
use Rattle.bytecode_buf.specs.Appends.{Appends, Emitted}
use Rattle.bytecode_buf.specs.Command.{counted, ShowsCommands}
use Rattle.bytecode_buf.specs.Pieces.{Code, one, settled, notes}
use Rattle.bytecode_buf.specs.Emits.{emitted}
use Rattle.emit_exprs.specs.Sites.{EmitsAt}
use Rattle.emit_exprs.specs.Whole.{just}
use Rattle.emit_exprs.proofs.Writing.{written_of}
use Rattle.emit_stmts.specs.declared.stmt_context.StmtContext.{StmtContext}
use Rattle.emit_stmts.specs.Frames.{global_link}
use Rattle.emit_stmts.specs.Functions.{function_count, starts_of, extents_of, start_of, extent_of, script_code}
use Rattle.emit_stmts.specs.PartCode.{stmts_in}
use Rattle.emit_stmts.specs.Positions.{Position, position_of, setting}
use Rattle.emit_stmts.specs.ScriptCode.{ScriptWritten, Drafted, IsTop, script_in, whole_code}
use Rattle.emit_stmts.specs.StmtCode.{StmtsWritten}
use Rattle.emit_stmts.specs.Stmts.{stmts_code}
use Rattle.emit_stmts.proofs.Finished.{finished_code, finished_notes}
use Rattle.emit_stmts.proofs.Writing.{written_plain, written_both, written_by}

-- ---- functions at the top, one statement after the other

abbrev counted_in : Interpretation → List Stmt → ℕ
counted_in i ss = function_count (stmts_of (map (stmt_of i) ss))

count_first : (s : model.Stmt) (rest : Stmts) → function_count (more_stmts s rest) ≡ function_count (more_stmts s no_stmts) + function_count rest
count_first (model.Declared f) rest = refl
count_first _ rest = sym (zero-add (function_count rest))

pub record Counting (all left : List Stmt) (count : ℕ) : Type 0 where
  pub counts : (i : Interpretation) → counted_in i all < 2 ^ 32 → count + counted_in i left ≡ counted_in i all

pub count_begin : (all : List Stmt) → Counting all all 0
count_begin all = record { counts = λ i small. zero-add (counted_in i all) }

pub count_next : {all : List Stmt} {count : ℕ} (left further : List Stmt) (s : Stmt) (n : ℕ) → left ≡ s ∷ further → ((i : Interpretation) → n ≡ function_count (stmts_of (stmt_of i s ∷ []))) → Counting all left count → Counting all further ((count + n) % 2 ^ 32)
count_next {all} {count} left further s n is one_is x = record {
  counts = λ i small.
      let old = x.counts i small in
      let both = ap (counted_in i) is ∙ count_first (stmt_of i s) (stmts_of (map (stmt_of i) further)) in
      omega (arith, old, both, one_is i, small);
}

pub count_end : {all : List Stmt} {count : ℕ} (left : List Stmt) → left ≡ [] → Counting all left count → (i : Interpretation) → counted_in i all < 2 ^ 32 → count ≡ counted_in i all
count_end {all} {count} left none x i small = sym (add-zero count) ∙ (ap (λ (ss : List Stmt). count + counted_in i ss) (sym none) ∙ x.counts i small)

-- ---- the code

pub script_row : {a b c d : List ℕ} {ws ws_new : List Wait} {ns ns_new : List TryNote} {k l : ℕ} (s : StmtContext) (ss : List Stmt) (count : ℕ)
    → ((i : Interpretation) → counted_in i ss < 2 ^ 32 → count ≡ counted_in i ss)
    → EmitsAt s.exprs a b (one (counted op.GlobalOrEvalDeclInstantiation count))
    → StmtsWritten (position_of s) (emitted b ws ns) (emitted c ws_new ns_new) k l ss
    → EmitsAt s.exprs c d (just op.RetRval)
    → ScriptWritten (position_of s) (emitted a ws ns) (emitted d ws_new ns_new) k l ss
script_row {ws = ws} {ws_new} {ns} {ns_new} {k} {l} s ss count is x y z = record {
  code = written_by (λ w f. ((tt, f.1), tt)) (λ w f. omega arith)
      (λ w stands f. ap₂ (λ (n : ℕ) (i : ℕ). one (counted op.GlobalOrEvalDeclInstantiation n) ++ stmts_code (setting (position_of s) w) (stmts_in (position_of s) w ss) i (position_of s).frames ++ just op.RetRval) (is _ f.0) (add-zero k))
      (written_both (written_both (written_plain s ws ns k (written_of x)) y.code) (written_plain s ws_new ns_new l (written_of z)));
}

-- ---- the stencil

start_is : (f : Function) → (extent_of f).start ≡ start_of f
start_is (function _ start end _ _ _ _ _) = refl

starts_are : (is : List Inner) → map (λ (e : Extent). e.start) (extents_of is) ≡ starts_of is
starts_are [] = refl
starts_are (i ∷ is) = ap₂ (λ (n : ℕ) (l : List ℕ). n ∷ l) (start_is i.func) (starts_are is)

-- the top of a script under these scopes
abbrev pub at_top : List (List ℕ) → List ScopeView → List Extent → List LinkView → Position
at_top texts scopes inner chain = record {
  texts = texts;
  chain = chain;
  starts = map (λ (e : Extent). e.start) inner;
  scopes = map (named_scope texts) scopes;
  is_script = true;
  frames = [];
  room = 64999;
}

-- a script's statements, under the global scope alone
pub drafted : {bytes first : List ℕ} {ws first_waits : List Wait} {ns first_notes : List TryNote} {l : ℕ} (texts : List (List ℕ)) (scopes : List ScopeView) (inner : List Extent) (ss : List Stmt) (chain : List LinkView)
    → chain ≡ global_link ∷ [] → first ≡ [] → first_waits ≡ [] → first_notes ≡ []
    → ScriptWritten (at_top texts scopes inner chain) (emitted first first_waits first_notes) (emitted bytes ws ns) 1 l ss → Drafted texts scopes inner ss bytes ns
drafted {bytes} {first} {ws} {first_waits} {ns} {first_notes} texts scopes inner ss chain chain_is no_bytes no_waits no_notes x bodies belongs = record {
  code = subst (λ (c : Code). ShowsCommands texts bytes (settled c)) same (finished_code from_none);
  notes_are = finished_notes from_none ∙ ap notes same;
}
  where
    from_none : Appends texts (emitted [] [] []) (emitted bytes ws ns) x.code.written
    from_none = subst (λ (o : Emitted). Appends texts o (emitted bytes ws ns) x.code.written)
        (ap₂ (λ (b : List ℕ) (v : List Wait). emitted b v first_notes) no_bytes no_waits ∙ ap (emitted [] []) no_notes) x.code.appends

    same : x.code.written ≡ script_code (script_in texts bodies ss)
    same =
        x.code.is (record { bodies = bodies; base = global_link ∷ [] }) (record { chain = chain_is }) belongs.fit belongs.numbered
        ∙ ap₂ (λ (scs : List NamedScope) (starts : List ℕ). whole_code (record { base = global_link ∷ []; scopes = scs; starts = starts; is_script = true }) (script_in texts bodies ss) 1 [])
        belongs.scopes_are.are (ap (map (λ (e : Extent). e.start)) belongs.inner_are ∙ starts_are (inner_script (script_in texts bodies ss)))

-- the stencil that holds them
pub top_stands : {bytes code : List ℕ} {ns : List TryNote} (texts : List (List ℕ)) (scopes : List ScopeView) (inner : List Extent) (ss : List Stmt) (end : ℕ) → code ≡ bytes → Drafted texts scopes inner ss bytes ns
    → IsTop texts scopes inner ss end (record { extent = record { start = 0; end = end }; kind = func.Declared; name = None; params = 0; scopes = scopes; code = code; notes = ns; inner = inner })
top_stands {ns = ns} texts scopes inner ss end code_is x bodies belongs = record {
  extent = refl;
  kind = refl;
  name_within = tt;
  name = refl;
  params = refl;
  scopes = belongs.scopes_are;
  code = subst (λ (b : List ℕ). ShowsCommands texts b (settled (script_code (script_in texts bodies ss)))) (sym code_is) (x bodies belongs).code;
  notes = (x bodies belongs).notes_are;
  inner = belongs.inner_are;
}
