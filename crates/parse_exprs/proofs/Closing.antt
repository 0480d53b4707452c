-- The tokens up to the stop of their brackets are a text that no text begins with whose brackets match.
use Rattle.std.proofs.Common.{◌≡◌, ◌∙◌, ℕ, suc, List, [], ◌∷◌, ◌++◌, take, length, refl, sym, ap, arith, get_or, Bool, true, false, Option, Some, None, ◌⊎◌, inl, inr}
use Rattle.std.proofs.Math.Seq.{drop-cons}
use Rattle.std.proofs.Math.ListN.{drop_of_length-le}
use Rattle.std.proofs.lemmas.List.{take-append-drop, take-append-le, take-map, length-map}
use Rattle.script_grammar.specs.declared.token.Kind.{Kind}
use Rattle.script_grammar.specs.declared.token.Kind.TheVariants as kind
use Rattle.script_grammar.specs.declared.brackets.Bracket.{Bracket}
use Rattle.script_grammar.specs.Interpretation.{Interpretation}
use Rattle.script_grammar.specs.Lexeme.{Lexeme}
use Rattle.script_grammar.specs.Matching.{part_of, part_at, next_open, all_open}
use Rattle.script_grammar.specs.Pieces.{Opener, open_behind, open_at_end}
use Rattle.grammar_parser_specs.specs.Parser.{end_lexeme}
use Rattle.grammar_script_laws.proofs.Bracketed.{kinds, openers, AllInner, open_behind-next}
use Rattle.grammar_script_laws.proofs.Closed.{Ended}
use Rattle.grammar_parser_laws.proofs.Nested.{open_step, open_append}
use Rattle.parse_exprs.specs.declared.source.Source.{Source}
use Rattle.parse_exprs.specs.Source.{IsSource, lexemes, ends_all}
use Rattle.parse_exprs.proofs.Partners.{inner_kind, true_false, ls, within, inner, matches, kind_at, more, stop_ends}

-- brackets that are open after tokens of a text
pub opens_all : (us : List Lexeme) (st o : List Bracket) → AllInner us → all_open st (kinds us) ≡ Some o → open_at_end (openers st) us ≡ Some (openers o)
opens_all [] st o h e = ap (λ (x : Option (List Bracket)). elim x [ None ↦ None | Some y ↦ Some (openers y) ]) e
opens_all (t ∷ us) st o h e = past (next_open st (part_of t.kind)) refl (λ s. opens_all us s o h.1) e
  where
    past : (x : Option (List Bracket)) → next_open st (part_of t.kind) ≡ x → ((s : List Bracket) → all_open s (kinds us) ≡ Some o → open_at_end (openers s) us ≡ Some (openers o)) → Rattle.std.specs.Prelude.option_and_then (λ s. all_open s (kinds us)) x ≡ Some o → open_at_end (openers st) (t ∷ us) ≡ Some (openers o)
    past None k f e = absurd (cc)
    past (Some s) k f e = open_step (openers st) (openers s) t us (open_behind-next t.kind st h.0 ∙ ap (Rattle.std.specs.Prelude.option_map openers) k) ∙ f s e

pub none_behind : (k : Kind) (os : List Opener) → ends_all k ≡ true → open_behind k os ≡ None
none_behind kind.Bad os e = refl
none_behind kind.End os e = refl
none_behind kind.Name os e = absurd (true_false (sym e))
none_behind kind.Number os e = absurd (true_false (sym e))
none_behind kind.Str os e = absurd (true_false (sym e))
none_behind kind.TemplateWhole os e = absurd (true_false (sym e))
none_behind kind.TemplateHead os e = absurd (true_false (sym e))
none_behind kind.TemplateMiddle os e = absurd (true_false (sym e))
none_behind kind.TemplateTail os e = absurd (true_false (sym e))
none_behind (kind.Word i) os e = absurd (true_false (sym e))
none_behind (kind.Mark i) os e = absurd (true_false (sym e))

pub none_last : (os : List Opener) (t : Lexeme) → open_behind t.kind os ≡ None → open_at_end os (t ∷ []) ≡ None
none_last os t e = ap (λ (x : Option (List Opener)). elim x [ None ↦ None | Some qs ↦ Some qs ]) e

module _ (s : Source) (h : IsSource s) (i : Interpretation) where
  pub stop : ℕ
  stop = s.brackets.now.stop

  pub last : Lexeme
  last = get_or (ls s h i) s.brackets.now.stop end_lexeme

  pub split : ls s h i ≡ take s.brackets.now.stop (ls s h i) ++ last ∷ []
  unfolding last
  split = sym (take-append-drop s.brackets.now.stop (ls s h i)) ∙ ap (λ us. take s.brackets.now.stop (ls s h i) ++ us)
      (drop-cons (ls s h i) s.brackets.now.stop end_lexeme (let e = within s h i in omega arith) ∙ ap (λ us. get_or (ls s h i) s.brackets.now.stop end_lexeme ∷ us) (drop_of_length-le (ls s h i) {i = suc s.brackets.now.stop} (let e = within s h i in omega arith)))

  front_kinds : kinds (take s.brackets.now.stop (ls s h i)) ≡ take s.brackets.now.stop (kinds (ls s h i ++ more s h i))
  front_kinds = ap kinds (sym (take-append-le s.brackets.now.stop (ls s h i) (more s h i) (let e = within s h i in omega arith))) ∙ sym (take-map (λ (t : Lexeme). t.kind) s.brackets.now.stop (ls s h i ++ more s h i))

  pub open_before : open_at_end [] (take s.brackets.now.stop (ls s h i)) ≡ Some (openers (matches s h i).stop.stack)
  open_before = opens_all (take s.brackets.now.stop (ls s h i)) [] (matches s h i).stop.stack (inner s h i) (ap (all_open []) front_kinds ∙ (matches s h i).stop.fit)

  pub stops_there : (b : Bool) → ends_all last.kind ≡ b → open_behind last.kind (openers (matches s h i).stop.stack) ≡ None
  unfolding last
  stops_there true e = none_behind last.kind (openers (matches s h i).stop.stack) e
  stops_there false e = by (matches s h i).stop.stops
    where
      by : (suc s.brackets.now.stop ≡ length (kinds (ls s h i ++ more s h i))) ⊎ (next_open (matches s h i).stop.stack (part_at (kinds (ls s h i ++ more s h i)) s.brackets.now.stop) ≡ None) → open_behind last.kind (openers (matches s h i).stop.stack) ≡ None
      by (inl all) = absurd (stop_ends s h i (let w = within s h i in let z = length-map (ls s h i ++ more s h i) (λ (t : Lexeme). t.kind) in omega (arith, all)) (inner_kind last.kind e))
      by (inr none) = open_behind-next last.kind (matches s h i).stop.stack (inner_kind last.kind e)
          ∙ ap (Rattle.std.specs.Prelude.option_map openers) (ap (λ k. next_open (matches s h i).stop.stack (part_of k)) (sym (kind_at s h i s.brackets.now.stop end_lexeme (let w = within s h i in omega arith))) ∙ none)

  text_ended : Ended (ls s h i)
  text_ended = record {
    inner = take s.brackets.now.stop (ls s h i);
    last = last;
    split = split;
    are_inner = inner s h i;
    closed = record { is = ap (open_at_end []) split ∙ open_append (take s.brackets.now.stop (ls s h i)) [] (openers (matches s h i).stop.stack) (last ∷ []) open_before ∙ none_last (openers (matches s h i).stop.stack) last (stops_there (ends_all last.kind) refl) };
  }

  -- a text up to the stop of its brackets
  pub ended : Ended (lexemes s i)
  unfolding ls
  ended = text_ended
