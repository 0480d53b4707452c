-- Properties of objects and members of chains.
use Rattle.parse_exprs.proofs.KeyParts.{key_read, name_atom, named_same, or_first, or_second}
use Rattle.parse_exprs.proofs.Onward.{items_maps, itself_maps, node_maps, onward, onward_false, onward_true}
use Rattle.parse_exprs.proofs.Steps.{made, then, when_false, when_true}
use Rattle.parse_exprs.proofs.state.State.+exprs.Goals.{short-then-is_mark-via-else-is_mark+then-is_mark-2, short-then-is_mark-via-then-is_mark}
use Rattle.parse_exprs.specs.Answers.{Answers, records}
use Rattle.parse_exprs.specs.Env.{env_at}
use Rattle.parse_exprs.specs.Means.{ItemsOf, Itself}
use Rattle.parse_exprs.specs.Source.{front}
use Rattle.grammar_parser_specs.specs.Exprs.{index_of, member_turn}
use Rattle.grammar_parser_specs.specs.Parser.{Again, head_of, led, rest_of}
use Rattle.script_grammar.specs.Interpretation.{named}
use Rattle.script_grammar.specs.Lexeme.{Lexeme}
use Rattle.script_grammar.specs.Shows.{NodeOf}
use Rattle.std.proofs.Common.{ap, refl, subst, sym, true, ◌-◌, ◌∙◌, ◌≡◌}
use Rattle.grammar_parser_specs.specs.Exprs as pure
use Rattle.script_grammar.specs.Kinds as test
use Rattle.script_grammar.specs.Tree as model
use Rattle.script_grammar.specs.declared.token.mark.TheConstants as mark
use Rattle.parse_exprs.proofs.state.State.+exprs.Goals as goal

pub key-returns-then-is_mark : goal.key-returns-then-is_mark
unfolding pure.key_of pure.computed_of
key-returns-then-is_mark g t c = λ i.
    let same = c.token-token.ensures.lexeme i in
    let a = rw (c.step-then-is_mark.ensures.at i, c.step-then-is_mark.ensures.records i) at (c.in_ok-value.ensures i) in (
      a.0,
      a.1,
      when_false _ _ (ap (λ (x : Lexeme). test.is_any_word x.kind) (sym same) ∙ sym c.is_any_word.ensures ∙ c.if-is_any_word.false)
          (when_false _ _ (ap (λ (x : Lexeme). test.is_str x.kind) (sym same) ∙ sym c.is_str.ensures ∙ c.if-is_str.false)
          (when_false _ _ (ap (λ (x : Lexeme). test.is_number x.kind) (sym same) ∙ sym c.is_number.ensures ∙ c.if-is_number.false)
          (when_true _ _ (ap (λ (x : Lexeme). test.is_mark mark.OPEN_BRACKET x.kind) (sym same) ∙ sym c.is_mark.ensures ∙ c.if-is_mark.true)
          (then _ a.4 (made _ (c.in_ok-expect.ensures i)))))),
    )

pub member-returns-then-is_mark-2 : goal.member-returns-then-is_mark-2
unfolding member_turn index_of
member-returns-then-is_mark-2 g t c = λ i.
    let a = rw (c.step-then-is_mark-2.ensures.at i, c.step-then-is_mark-2.ensures.records i) at (c.in_ok-value.ensures i) in
    let no = sym (c.is_mark.ensures i) ∙ c.if-is_mark.false in
    let yes = sym (c.is_mark-2.ensures i) ∙ c.if-is_mark-2.true in
    (a.0, a.1, when_false _ _ no (when_true _ _ yes (made Again (then _ a.4 (made _ (c.in_ok-expect.ensures i))))))

pub more_props-returns : goal.more_props-returns
unfolding pure.more_props
more_props-returns g t c = λ i.
    let a = c.in_ok-first.ensures i in
    let gives = ItemsOf (g.H.Handler.shows_prop i) Itself in
    let s = c.args.source.now in
    let rs = records s i c.args.self.now.place in
    let ts = front s i c.args.self.now.place.at in
    onward_false gives s i c.props_led.new.self.place c.props_led.result rs ts _ _ (sym (c.is_mark.ensures i) ∙ c.if-is_mark.false)
    (onward gives s i c.props_led.new.self.place c.props_led.result rs _ (led (pure.props_turn (env_at i c.args.depth))) (items_maps (g.H.Handler.shows_prop i) Itself itself_maps) a.2 (c.props_led.ensures i a.0 a.1))

pub prop-returns : goal.prop-returns
unfolding pure.prop_of
prop-returns g t c = λ i.
    let s = c.args.source.now in
    let v = env_at i c.args.depth in
    let ts = front s i c.args.self.now.place.at in
    let rs = records s i c.args.self.now.place in
    let p = c.short.new.self.place in
    let o = c.short.result in
    let same = c.token-token.ensures.lexeme i in
    let name = named_same s.get s.set i c.token-token.result c.ident-name.result (name_atom c.token-token.result.kind (sym c.is_name.ensures ∙ c.if-not-is_name.false)) c.ident-name.ensures.atom c.ident-name.ensures.at ∙ ap pure.named same in
    onward_true (NodeOf (g.H.Handler.shows_prop i)) s i p o rs ts _ _ (ap (λ (x : Lexeme). test.is_name x.kind) (sym same) ∙ sym c.is_name.ensures ∙ c.if-not-is_name.false)
    (onward_false (NodeOf (g.H.Handler.shows_prop i)) s i p o rs (rest_of ts) _ _ (ap (λ (x : Lexeme). test.is_get x.role) (sym same) ∙ sym (c.is_get.ensures i) ∙ c.if-is_get.false)
    (onward_false (NodeOf (g.H.Handler.shows_prop i)) s i p o rs (rest_of ts) _ _ (ap (λ (x : Lexeme). test.is_set x.role) (sym same) ∙ sym (c.is_set.ensures i) ∙ c.if-is_set.false)
    (subst (λ n. Answers (NodeOf (g.H.Handler.shows_prop i)) s i p o rs (pure.short_of v n (rest_of ts))) name (rw (c.step.ensures.at i, c.step.ensures.records i) at (c.short.ensures i)))))

pub prop-returns-then-is_get : goal.prop-returns-then-is_get
unfolding pure.prop_of
prop-returns-then-is_get g t c = λ i.
    let s = c.args.source.now in
    let v = env_at i c.args.depth in
    let ts = front s i c.args.self.now.place.at in
    let rs = records s i c.args.self.now.place in
    let p = c.getter.new.self.place in
    let o = c.getter.result in
    let same = c.token-token.ensures.lexeme i in
    let name = named_same s.get s.set i c.token-token.result c.ident-name.result (name_atom c.token-token.result.kind (sym c.is_name.ensures ∙ c.if-not-is_name.false)) c.ident-name.ensures.atom c.ident-name.ensures.at ∙ ap pure.named same in
    onward_true (NodeOf (g.H.Handler.shows_prop i)) s i p o rs ts _ _ (ap (λ (x : Lexeme). test.is_name x.kind) (sym same) ∙ sym c.is_name.ensures ∙ c.if-not-is_name.false)
    (onward_true (NodeOf (g.H.Handler.shows_prop i)) s i p o rs (rest_of ts) _ _ (ap (λ (x : Lexeme). test.is_get x.role) (sym same) ∙ sym (c.is_get.ensures i) ∙ c.if-is_get.true)
    (subst (λ n. Answers (NodeOf (g.H.Handler.shows_prop i)) s i p o rs (pure.accessor_of v n (pure.getter_of v) (rest_of ts))) name (rw (c.step.ensures.at i, c.step.ensures.records i) at (c.getter.ensures i))))

pub prop-returns-then-is_set : goal.prop-returns-then-is_set
unfolding pure.prop_of
prop-returns-then-is_set g t c = λ i.
    let s = c.args.source.now in
    let v = env_at i c.args.depth in
    let ts = front s i c.args.self.now.place.at in
    let rs = records s i c.args.self.now.place in
    let p = c.setter.new.self.place in
    let o = c.setter.result in
    let same = c.token-token.ensures.lexeme i in
    let name = named_same s.get s.set i c.token-token.result c.ident-name.result (name_atom c.token-token.result.kind (sym c.is_name.ensures ∙ c.if-not-is_name.false)) c.ident-name.ensures.atom c.ident-name.ensures.at ∙ ap pure.named same in
    onward_true (NodeOf (g.H.Handler.shows_prop i)) s i p o rs ts _ _ (ap (λ (x : Lexeme). test.is_name x.kind) (sym same) ∙ sym c.is_name.ensures ∙ c.if-not-is_name.false)
    (onward_false (NodeOf (g.H.Handler.shows_prop i)) s i p o rs (rest_of ts) _ _ (ap (λ (x : Lexeme). test.is_get x.role) (sym same) ∙ sym (c.is_get.ensures i) ∙ c.if-is_get.false)
    (onward_true (NodeOf (g.H.Handler.shows_prop i)) s i p o rs (rest_of ts) _ _ (ap (λ (x : Lexeme). test.is_set x.role) (sym same) ∙ sym (c.is_set.ensures i) ∙ c.if-is_set.true)
    (subst (λ n. Answers (NodeOf (g.H.Handler.shows_prop i)) s i p o rs (pure.accessor_of v n (pure.setter_of v) (rest_of ts))) name (rw (c.step.ensures.at i, c.step.ensures.records i) at (c.setter.ensures i)))))

pub prop-returns-then-not-is_name : goal.prop-returns-then-not-is_name
unfolding pure.prop_of
prop-returns-then-not-is_name g t c = λ i.
    let s = c.args.source.now in
    let ts = front s i c.args.self.now.place.at in
    let rs = records s i c.args.self.now.place in
    let p = c.keyed.new.self.place in
    let o = c.keyed.result in
    let k = key_read i (g.H.Handler.shows_expr i) c.in_ok-key.key (c.in_ok-key.ensures i) in
    onward_false (NodeOf (g.H.Handler.shows_prop i)) s i p o rs ts _ _ (ap (λ (x : Lexeme). test.is_name x.kind) (sym (c.token-token.ensures.lexeme i)) ∙ sym c.is_name.ensures ∙ c.if-not-is_name.true)
    (onward (NodeOf (g.H.Handler.shows_prop i)) s i p o rs _ (pure.keyed_of (env_at i c.args.depth)) (node_maps (g.H.Handler.shows_prop i)) k.2 (c.keyed.ensures i k.0 k.1))

pub short-returns-then-is_mark : goal.short-returns-then-is_mark
unfolding pure.short_of
short-returns-then-is_mark g t c = λ i.
    let s = c.args.source.now in
    let ts = front s i c.args.self.now.place.at in
    let is : pure.begins_value (head_of ts).kind ≡ true = elim c.then-is_mark.branch [ short-then-is_mark-via-then-is_mark w ↦ or_first _ _ (sym (c.is_mark.ensures i) ∙ w.if-is_mark.true) | short-then-is_mark-via-else-is_mark+then-is_mark-2 w ↦ or_second _ _ (sym (w.is_mark-else-is_mark.ensures i) ∙ w.if-is_mark-2.true) ] in
    onward_true (NodeOf (g.H.Handler.shows_prop i)) s i c.keyed.new.self.place c.keyed.result (records s i c.args.self.now.place) ts _ _ is (c.keyed.ensures i (model.WordKey (named i c.args.name)) refl)
