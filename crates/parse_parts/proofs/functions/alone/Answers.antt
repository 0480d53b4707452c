use Rattle.std.proofs.Common.{◌≡◌, ◌∙◌, sym, subst, Ok, Err, Some}
use Rattle.grammar_parser_specs.specs.Exprs.{is_simple}
use Rattle.parse_exprs.specs.Answers.{records}
use Rattle.parse_bodies.specs.Whole.{lacks_memory}
use Rattle.parse_parts.specs.Answers.{IsAlone, IsOutermost}
use Rattle.parse_parts.specs.Pending.{IsGained, CompletesAlone}
use Rattle.parse_parts.proofs.AlonePending.{popped, alone_gains, alone_completes, own_lost, own_gains, behind_lost, own_completes}
use Rattle.parse_parts.proofs.PendingClauses.{nothing}
use Rattle.parse_parts.proofs.Clauses.{handed_on}
use Rattle.parse_parts.proofs.OwnClauses.{Passes, no_outermost, no_own, passes_alone, without_own, own_there, own_refused, own_then_refused, own_then_read}
use Rattle.parse_parts.proofs.functions.alone.Goals as goal

pub returns-in_default-clause-answer : goal.returns-in_default-clause-answer
returns-in_default-clause-answer g c = λ i.
    let s = c.args.source.now in
    let start = c.args.state.now.place.at in
    let p = c.alone-passed.new.state.place in
    let shows = g.H.Handler.shows_expr i in
    let shows_body = g.H.Handler.shows_body i in
    let passes = passes_alone s c.requires.source i c.args.form c.requires.no_script start c.requires.place shows shows_body c.args.state.now.place p c.alone-passed.result c.requires.none (c.alone-passed.ensures i) in
    let none = no_outermost p.pending.items c.outermost.result (subst (λ ps. IsOutermost ps c.outermost.result) c.deref.ensures.value c.outermost.ensures) c.in_default.not-Some in
    without_own s c.requires.source i c.args.form c.requires.no_script start c.requires.place shows shows_body p c.alone-passed.result (sym c.lacks_memory.ensures ∙ c.if-lacks_memory.false) none passes

pub returns-in_err-read-clause-answer : goal.returns-in_err-read-clause-answer
returns-in_err-read-clause-answer g c = λ i.
    let s = c.args.source.now in
    let start = c.args.state.now.place.at in
    let p = c.alone-passed.new.state.place in
    let q = c.body.new.state.place in
    let shows = g.H.Handler.shows_expr i in
    let shows_body = g.H.Handler.shows_body i in
    let passes = passes_alone s c.requires.source i c.args.form c.requires.no_script start c.requires.place shows shows_body c.args.state.now.place p c.alone-passed.result c.requires.none (c.alone-passed.ensures i) in
    let outer = subst (λ ps. IsOutermost ps (Some c.in-Some.own)) c.deref.ensures.value c.in-Some.ensures in
    let stood = own_there s c.requires.source i c.args.form c.requires.no_script start c.requires.place shows shows_body p c.alone-passed.result (sym c.lacks_memory.ensures ∙ c.if-lacks_memory.false) c.in-Some.own outer passes in
    handed_on (IsAlone i shows shows_body s c.args.form start q.at) c.in_err-read.field-0.0 c.from_residual.result c.from_residual.ensures.1
    (own_refused s c.requires.source i c.args.form c.requires.no_script start c.requires.place shows shows_body c.in-Some.own stood q (records s i (record { at = c.in-Some.own.token; pending = c.pop.new.self })) c.in_err-read.field-0.0 (c.in_err-read.ensures i c.args.form stood.head.start (is_simple stood.head.params)) q.at)

pub returns-in_err-func-clause-answer : goal.returns-in_err-func-clause-answer
returns-in_err-func-clause-answer g c = λ i.
    let s = c.args.source.now in
    let start = c.args.state.now.place.at in
    let p = c.alone-passed.new.state.place in
    let q = c.body.new.state.place in
    let shows = g.H.Handler.shows_expr i in
    let shows_body = g.H.Handler.shows_body i in
    let remembers = sym c.lacks_memory.ensures ∙ c.if-lacks_memory.false in
    let passes = passes_alone s c.requires.source i c.args.form c.requires.no_script start c.requires.place shows shows_body c.args.state.now.place p c.alone-passed.result c.requires.none (c.alone-passed.ensures i) in
    let outer = subst (λ ps. IsOutermost ps (Some c.in-Some.own)) c.deref.ensures.value c.in-Some.ensures in
    let stood = own_there s c.requires.source i c.args.form c.requires.no_script start c.requires.place shows shows_body p c.alone-passed.result remembers c.in-Some.own outer passes in
    handed_on (IsAlone i shows shows_body s c.args.form start q.at) c.in_err-func.field-0.0 c.from_residual-in_err-func.result c.from_residual-in_err-func.ensures.1
    (own_then_refused s c.requires.source i c.args.form c.requires.no_script start c.requires.place shows shows_body c.in-Some.own stood q _ p c.in_ok-read.read (c.in_ok-read.ensures i c.args.form stood.head.start (is_simple stood.head.params)) c.in_err-func.field-0.0
    (subst (λ o. lacks_memory o ≡ Rattle.std.proofs.Common.false) c.in_err-func.was remembers) (subst (Passes s c.requires.source i c.args.form c.requires.no_script start c.requires.place shows shows_body p) c.in_err-func.was passes))

pub returns-clause-answer : goal.returns-clause-answer
returns-clause-answer g c = λ i.
    let s = c.args.source.now in
    let start = c.args.state.now.place.at in
    let p = c.alone-passed.new.state.place in
    let q = c.body.new.state.place in
    let shows = g.H.Handler.shows_expr i in
    let shows_body = g.H.Handler.shows_body i in
    let passes = passes_alone s c.requires.source i c.args.form c.requires.no_script start c.requires.place shows shows_body c.args.state.now.place p c.alone-passed.result c.requires.none (c.alone-passed.ensures i) in
    let outer = subst (λ ps. IsOutermost ps (Some c.in-Some.own)) c.deref.ensures.value c.in-Some.ensures in
    let stood = own_there s c.requires.source i c.args.form c.requires.no_script start c.requires.place shows shows_body p c.alone-passed.result (sym c.lacks_memory.ensures ∙ c.if-lacks_memory.false) c.in-Some.own outer passes in
    own_then_read s c.requires.source i c.args.form c.requires.no_script start c.requires.place shows shows_body c.in-Some.own stood q _ p c.in_ok-read.read (c.in_ok-read.ensures i c.args.form stood.head.start (is_simple stood.head.params)) c.in_ok-func.func
    (subst (Passes s c.requires.source i c.args.form c.requires.no_script start c.requires.place shows shows_body p) c.in_ok-func.was passes)

-- which bodies are pending then

pub returns-in_default-clause-pending : goal.returns-in_default-clause-pending
returns-in_default-clause-pending g c =
    let s = c.args.source.now in
    let h = c.requires.source in
    let old = c.args.state.now.place in
    let l = c.requires.place in
    let n = c.requires.no_script in
    let p = c.alone-passed.new.state.place in
    let shows = g.H.Handler.shows_expr nothing in
    let shows_body = g.H.Handler.shows_body nothing in
    alone_gains s h nothing c.args.form n old p c.requires.none l shows shows_body c.alone-passed.result (c.alone-passed.ensures nothing)

pub returns-in_err-read-clause-pending : goal.returns-in_err-read-clause-pending
unfolding records
returns-in_err-read-clause-pending g c =
    let s = c.args.source.now in
    let h = c.requires.source in
    let old = c.args.state.now.place in
    let l = c.requires.place in
    let n = c.requires.no_script in
    let p = c.alone-passed.new.state.place in
    let shows = g.H.Handler.shows_expr nothing in
    let shows_body = g.H.Handler.shows_body nothing in
    let q = c.body.new.state.place in
    let own = c.in-Some.own in
    let remembers = sym c.lacks_memory.ensures ∙ c.if-lacks_memory.false in
    let passes = passes_alone s h nothing c.args.form n old.at l shows shows_body old p c.alone-passed.result c.requires.none (c.alone-passed.ensures nothing) in
    let outer = subst (λ ps. IsOutermost ps (Some own)) c.deref.ensures.value c.in-Some.ensures in
    let stood = own_there s h nothing c.args.form n old.at l shows shows_body p c.alone-passed.result remembers own outer passes in
    let last = popped p.pending.items c.pop.new.self.items outer.0 own c.pop.result _ _ p.pending.ok.0 outer.1 c.pop.ensures.items c.pop.ensures.cases in
    handed_on (IsGained s old q) c.in_err-read.field-0.0 c.from_residual.result c.from_residual.ensures.1
    (own_lost s h nothing c.args.form n old p c.requires.none l shows shows_body c.alone-passed.result remembers passes own c.pop.new.self.items last stood q c.in_err-read.field-0.0 (c.in_err-read.ensures nothing c.args.form stood.head.start (is_simple stood.head.params)))

pub returns-in_err-func-clause-pending : goal.returns-in_err-func-clause-pending
unfolding records
returns-in_err-func-clause-pending g c =
    let s = c.args.source.now in
    let h = c.requires.source in
    let old = c.args.state.now.place in
    let l = c.requires.place in
    let n = c.requires.no_script in
    let p = c.alone-passed.new.state.place in
    let shows = g.H.Handler.shows_expr nothing in
    let shows_body = g.H.Handler.shows_body nothing in
    let q = c.body.new.state.place in
    let own = c.in-Some.own in
    let remembers = sym c.lacks_memory.ensures ∙ c.if-lacks_memory.false in
    let passes = passes_alone s h nothing c.args.form n old.at l shows shows_body old p c.alone-passed.result c.requires.none (c.alone-passed.ensures nothing) in
    let outer = subst (λ ps. IsOutermost ps (Some own)) c.deref.ensures.value c.in-Some.ensures in
    let stood = own_there s h nothing c.args.form n old.at l shows shows_body p c.alone-passed.result remembers own outer passes in
    let last = popped p.pending.items c.pop.new.self.items outer.0 own c.pop.result _ _ p.pending.ok.0 outer.1 c.pop.ensures.items c.pop.ensures.cases in
    handed_on (IsGained s old q) c.in_err-func.field-0.0 c.from_residual-in_err-func.result c.from_residual-in_err-func.ensures.1
    (behind_lost s h nothing c.args.form n old p c.requires.none l shows shows_body c.alone-passed.result remembers passes own c.pop.new.self.items last stood q c.in_ok-read.read (c.in_ok-read.ensures nothing c.args.form stood.head.start (is_simple stood.head.params)) c.in_err-func.field-0.0 (subst (Passes s h nothing c.args.form n old.at l shows shows_body p) c.in_err-func.was passes))

pub returns-clause-pending : goal.returns-clause-pending
unfolding records
returns-clause-pending g c =
    let s = c.args.source.now in
    let h = c.requires.source in
    let old = c.args.state.now.place in
    let l = c.requires.place in
    let n = c.requires.no_script in
    let p = c.alone-passed.new.state.place in
    let shows = g.H.Handler.shows_expr nothing in
    let shows_body = g.H.Handler.shows_body nothing in
    let q = c.body.new.state.place in
    let own = c.in-Some.own in
    let remembers = sym c.lacks_memory.ensures ∙ c.if-lacks_memory.false in
    let passes = passes_alone s h nothing c.args.form n old.at l shows shows_body old p c.alone-passed.result c.requires.none (c.alone-passed.ensures nothing) in
    let outer = subst (λ ps. IsOutermost ps (Some own)) c.deref.ensures.value c.in-Some.ensures in
    let stood = own_there s h nothing c.args.form n old.at l shows shows_body p c.alone-passed.result remembers own outer passes in
    let last = popped p.pending.items c.pop.new.self.items outer.0 own c.pop.result _ _ p.pending.ok.0 outer.1 c.pop.ensures.items c.pop.ensures.cases in
    own_gains s h nothing c.args.form n old p c.requires.none l shows shows_body c.alone-passed.result remembers passes own c.pop.new.self.items last stood q c.in_ok-read.read (c.in_ok-read.ensures nothing c.args.form stood.head.start (is_simple stood.head.params))

-- what they complete

pub returns-in_default-clause-completes : goal.returns-in_default-clause-completes
returns-in_default-clause-completes g c = λ i.
    let s = c.args.source.now in
    let h = c.requires.source in
    let old = c.args.state.now.place in
    let l = c.requires.place in
    let n = c.requires.no_script in
    let p = c.alone-passed.new.state.place in
    let shows = g.H.Handler.shows_expr i in
    let shows_body = g.H.Handler.shows_body i in
    let passes = passes_alone s h i c.args.form n old.at l shows shows_body old p c.alone-passed.result c.requires.none (c.alone-passed.ensures i) in
    let none = no_outermost p.pending.items c.outermost.result (subst (λ ps. IsOutermost ps c.outermost.result) c.deref.ensures.value c.outermost.ensures) c.in_default.not-Some in
    alone_completes s h i c.args.form n old p c.requires.none l shows shows_body c.alone-passed.result (no_own s h i c.args.form n old.at l shows shows_body p c.alone-passed.result (sym c.lacks_memory.ensures ∙ c.if-lacks_memory.false) none passes) (c.alone-passed.ensures i)

pub returns-in_err-read-clause-completes : goal.returns-in_err-read-clause-completes
returns-in_err-read-clause-completes g c = λ i. handed_on (CompletesAlone i (g.H.Handler.shows_expr i) (g.H.Handler.shows_body i) c.args.source.now c.args.form c.args.state.now.place c.body.new.state.place) c.in_err-read.field-0.0 c.from_residual.result c.from_residual.ensures.1 tt

pub returns-in_err-func-clause-completes : goal.returns-in_err-func-clause-completes
returns-in_err-func-clause-completes g c = λ i. handed_on (CompletesAlone i (g.H.Handler.shows_expr i) (g.H.Handler.shows_body i) c.args.source.now c.args.form c.args.state.now.place c.body.new.state.place) c.in_err-func.field-0.0 c.from_residual-in_err-func.result c.from_residual-in_err-func.ensures.1 tt

pub returns-clause-completes : goal.returns-clause-completes
unfolding records
returns-clause-completes g c = λ i.
    let s = c.args.source.now in
    let h = c.requires.source in
    let old = c.args.state.now.place in
    let l = c.requires.place in
    let n = c.requires.no_script in
    let p = c.alone-passed.new.state.place in
    let shows = g.H.Handler.shows_expr i in
    let shows_body = g.H.Handler.shows_body i in
    let q = c.body.new.state.place in
    let own = c.in-Some.own in
    let remembers = sym c.lacks_memory.ensures ∙ c.if-lacks_memory.false in
    let passes = passes_alone s h i c.args.form n old.at l shows shows_body old p c.alone-passed.result c.requires.none (c.alone-passed.ensures i) in
    let outer = subst (λ ps. IsOutermost ps (Some own)) c.deref.ensures.value c.in-Some.ensures in
    let stood = own_there s h i c.args.form n old.at l shows shows_body p c.alone-passed.result remembers own outer passes in
    let last = popped p.pending.items c.pop.new.self.items outer.0 own c.pop.result _ _ p.pending.ok.0 outer.1 c.pop.ensures.items c.pop.ensures.cases in
    own_completes s h i c.args.form n old p c.requires.none l shows shows_body c.alone-passed.result remembers passes own c.pop.new.self.items last stood q c.in_ok-read.read (c.in_ok-read.ensures i c.args.form stood.head.start (is_simple stood.head.params)) c.in_ok-func.func (subst (Passes s h i c.args.form n old.at l shows shows_body p) c.in_ok-func.was passes)
