-- Texts that stand in a list from a number on.
use Rattle.std.proofs.Common.{◌≡◌, ℕ, ◌+◌, ◌<◌, ◌≤◌, List, [], ◌++◌, length, slice_index_or, sym, ◌∙◌, ap, subst, arith, length-append}
use Rattle.std.proofs.lemmas.List.{get_or_append_left, get_or-append-add}
use Rattle.stencil_instance.specs.Instances.{StandFrom}

-- they stand behind those that were there
pub stand_behind : (old more all : List (List ℕ)) → all ≡ old ++ more → StandFrom all (length old) more
stand_behind old more all e = record {
  within = let size = ap length e ∙ length-append old more in omega (arith, size);
  each = λ k h. ap (λ (l : List (List ℕ)). slice_index_or l (length old + k) []) e ∙ get_or-append-add old more k [];
}

-- and stay where they are when more are put behind them
pub stand_on : (old rest all : List (List ℕ)) (base : ℕ) (texts : List (List ℕ)) → all ≡ old ++ rest → StandFrom old base texts → StandFrom all base texts
stand_on old rest all base texts e h = record {
  within = let size = ap length e ∙ length-append old rest in let within = h.within in omega (arith, size, within);
  each = λ k less. let within = h.within in ap (λ (l : List (List ℕ)). slice_index_or l (base + k) []) e ∙ (get_or_append_left old rest [] (base + k) (omega (arith, within, less)) ∙ h.each k less);
}
