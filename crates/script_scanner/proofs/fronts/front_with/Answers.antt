use Rattle.std.proofs.Common.{ℕ, ◌∷◌, subst, sym, map}
use Rattle.unit_text.specs.Points.{code_of}
use Rattle.script_scanner.specs.declared.fronts.Front.TheVariants.{Name, Quote, Mark, Close}
use Rattle.script_scanner.specs.Fronts.{StandsAt}
use Rattle.script_scanner.proofs.FrontLemmas.{stands_40, stands_41, stands_44, stands_59, stands_58, stands_91, stands_93, stands_123, stands_125, stands_36, stands_95, stands_34, stands_39}
use Rattle.script_scanner.proofs.fronts.front_with.Goals as goal

pub returns-in-40 : goal.returns-in-40
returns-in-40 g c = subst (λ (k : ℕ). StandsAt (k ∷ map code_of (g.T.Source.points c.args.others)) (Mark 2)) (sym c.in-40.is) (stands_40 (map code_of (g.T.Source.points c.args.others)))

pub returns-in-41 : goal.returns-in-41
returns-in-41 g c = subst (λ (k : ℕ). StandsAt (k ∷ map code_of (g.T.Source.points c.args.others)) (Mark 3)) (sym c.in-41.is) (stands_41 (map code_of (g.T.Source.points c.args.others)))

pub returns-in-44 : goal.returns-in-44
returns-in-44 g c = subst (λ (k : ℕ). StandsAt (k ∷ map code_of (g.T.Source.points c.args.others)) (Mark 7)) (sym c.in-44.is) (stands_44 (map code_of (g.T.Source.points c.args.others)))

pub returns-in-59 : goal.returns-in-59
returns-in-59 g c = subst (λ (k : ℕ). StandsAt (k ∷ map code_of (g.T.Source.points c.args.others)) (Mark 6)) (sym c.in-59.is) (stands_59 (map code_of (g.T.Source.points c.args.others)))

pub returns-in-58 : goal.returns-in-58
returns-in-58 g c = subst (λ (k : ℕ). StandsAt (k ∷ map code_of (g.T.Source.points c.args.others)) (Mark 36)) (sym c.in-58.is) (stands_58 (map code_of (g.T.Source.points c.args.others)))

pub returns-in-91 : goal.returns-in-91
returns-in-91 g c = subst (λ (k : ℕ). StandsAt (k ∷ map code_of (g.T.Source.points c.args.others)) (Mark 4)) (sym c.in-91.is) (stands_91 (map code_of (g.T.Source.points c.args.others)))

pub returns-in-93 : goal.returns-in-93
returns-in-93 g c = subst (λ (k : ℕ). StandsAt (k ∷ map code_of (g.T.Source.points c.args.others)) (Mark 5)) (sym c.in-93.is) (stands_93 (map code_of (g.T.Source.points c.args.others)))

pub returns-in-123 : goal.returns-in-123
returns-in-123 g c = subst (λ (k : ℕ). StandsAt (k ∷ map code_of (g.T.Source.points c.args.others)) (Mark 0)) (sym c.in-123.is) (stands_123 (map code_of (g.T.Source.points c.args.others)))

pub returns-in-125 : goal.returns-in-125
returns-in-125 g c = subst (λ (k : ℕ). StandsAt (k ∷ map code_of (g.T.Source.points c.args.others)) Close) (sym c.in-125.is) (stands_125 (map code_of (g.T.Source.points c.args.others)))

pub returns-in-34 : goal.returns-in-34
returns-in-34 g c = subst (λ (k : ℕ). StandsAt (k ∷ map code_of (g.T.Source.points c.args.others)) (Quote 34)) (sym c.in-34.is) (stands_34 (map code_of (g.T.Source.points c.args.others)))

pub returns-in-39 : goal.returns-in-39
returns-in-39 g c = subst (λ (k : ℕ). StandsAt (k ∷ map code_of (g.T.Source.points c.args.others)) (Quote 39)) (sym c.in-39.is) (stands_39 (map code_of (g.T.Source.points c.args.others)))

pub returns-in-36 : goal.returns-in-36
returns-in-36 g c = subst (λ (k : ℕ). StandsAt (k ∷ map code_of (g.T.Source.points c.args.others)) Name) (sym c.in-36.is) (stands_36 (map code_of (g.T.Source.points c.args.others)))

pub returns-in-95 : goal.returns-in-95
returns-in-95 g c = subst (λ (k : ℕ). StandsAt (k ∷ map code_of (g.T.Source.points c.args.others)) Name) (sym c.in-95.is) (stands_95 (map code_of (g.T.Source.points c.args.others)))

pub returns-in-46 : goal.returns-in-46
returns-in-46 g c = subst (λ (k : ℕ). StandsAt (k ∷ map code_of (g.T.Source.points c.args.others)) c.dot_before.result) (sym c.in-46.is) c.dot_before.ensures
