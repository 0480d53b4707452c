use Rattle.std.proofs.Common.{ℕ, ◌∷◌, subst, sym, map}
use Rattle.unit_text.specs.Points.{code_of}
use Rattle.script_scanner.specs.declared.fronts.Front.TheVariants.{Mark}
use Rattle.script_scanner.specs.Fronts.{StandsAt}
use Rattle.script_scanner.proofs.FrontLemmas.{stands_61, stands_43, stands_45, stands_42, stands_60, stands_62, stands_33, stands_63}
use Rattle.script_scanner.proofs.fronts.operator_with.Goals as goal

pub returns-in-61 : goal.returns-in-61
returns-in-61 g c = subst (λ (k : ℕ). StandsAt (k ∷ map code_of (g.T.Source.points c.args.others)) (Mark 37)) (sym c.in-61.is) (stands_61 (map code_of (g.T.Source.points c.args.others)) (c.is_ended.ensures c.if-not-is_ended.false))

pub returns-in-43 : goal.returns-in-43
returns-in-43 g c = subst (λ (k : ℕ). StandsAt (k ∷ map code_of (g.T.Source.points c.args.others)) (Mark 16)) (sym c.in-43.is) (stands_43 (map code_of (g.T.Source.points c.args.others)) (c.is_ended.ensures c.if-not-is_ended.false))

pub returns-in-45 : goal.returns-in-45
returns-in-45 g c = subst (λ (k : ℕ). StandsAt (k ∷ map code_of (g.T.Source.points c.args.others)) (Mark 17)) (sym c.in-45.is) (stands_45 (map code_of (g.T.Source.points c.args.others)) (c.is_ended.ensures c.if-not-is_ended.false))

pub returns-in-42 : goal.returns-in-42
returns-in-42 g c = subst (λ (k : ℕ). StandsAt (k ∷ map code_of (g.T.Source.points c.args.others)) (Mark 18)) (sym c.in-42.is) (stands_42 (map code_of (g.T.Source.points c.args.others)) (c.is_ended.ensures c.if-not-is_ended.false))

pub returns-in-60 : goal.returns-in-60
returns-in-60 g c = subst (λ (k : ℕ). StandsAt (k ∷ map code_of (g.T.Source.points c.args.others)) (Mark 8)) (sym c.in-60.is) (stands_60 (map code_of (g.T.Source.points c.args.others)) (c.is_ended.ensures c.if-not-is_ended.false))

pub returns-in-62 : goal.returns-in-62
returns-in-62 g c = subst (λ (k : ℕ). StandsAt (k ∷ map code_of (g.T.Source.points c.args.others)) (Mark 9)) (sym c.in-62.is) (stands_62 (map code_of (g.T.Source.points c.args.others)) (c.is_ended.ensures c.if-not-is_ended.false))

pub returns-in-33 : goal.returns-in-33
returns-in-33 g c = subst (λ (k : ℕ). StandsAt (k ∷ map code_of (g.T.Source.points c.args.others)) (Mark 30)) (sym c.in-33.is) (stands_33 (map code_of (g.T.Source.points c.args.others)) (c.is_ended.ensures c.if-not-is_ended.false))

pub returns-in-63 : goal.returns-in-63
returns-in-63 g c = subst (λ (k : ℕ). StandsAt (k ∷ map code_of (g.T.Source.points c.args.others)) (Mark 35)) (sym c.in-63.is) (stands_63 (map code_of (g.T.Source.points c.args.others)) (c.is_ended.ensures c.if-not-is_ended.false))
