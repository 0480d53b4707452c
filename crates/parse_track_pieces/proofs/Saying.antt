-- How what parts say makes what the whole says.
use Rattle.std.proofs.Common.{◌≡◌, ◌∙◌, ℕ, true, List, refl, ap, sym, subst}
use Rattle.script_grammar.specs.Interpretation.{Interpretation, named}
use Rattle.script_grammar.specs.Braced.{in_body, in_stmts}
use Rattle.script_grammar.specs.declared.tree.Ident.{Ident}
use Rattle.script_grammar.specs.Tree.{Stmts, BracedBody}
use Rattle.parse_track.specs.declared.region.Declare.{Declare}
use Rattle.parse_track.specs.Told as told
use Rattle.parse_track.specs.Told.{Told, inner, nothing}
use Rattle.parse_track.specs.Tells.{Text, tells_name, tells_stmts}
use Rattle.parse_track_pieces.specs.Pieces.{Rest, telling, says_name, says_region, says_passed, says_read}
use Rattle.parse_track_pieces.specs.Says.{AreWanted, Says}

abbrev Tell : Type 0
Tell = Told Text → Told Text

abbrev Brace : Type 0
Brace = List Stmts → List Stmts

pub none-says : Says (λ r. r) (λ t. t) (λ r. r)
none-says = record { holds = λ rest others w. (refl, w) }

pub then-says : {f g : Rest → Rest} {p q : Tell} {b c : Brace} → Says f p b → Says g q c → Says (λ r. f (g r)) (λ t. p (q t)) (λ r. b (c r))
then-says {g = g} {p = p} {c = c} h k = record {
  holds = λ rest others w.
      let u = k.holds rest others w in
      let v = h.holds (g rest) (c others) u.1 in
      (v.0 ∙ ap p u.0, v.1);
}

pub same-says : {f g : Rest → Rest} {p : Tell} {b : Brace} → ((rest : Rest) → f rest ≡ g rest) → Says g p b → Says f p b
same-says {b = b} e h = record {
  holds = λ rest others w.
      let u = h.holds rest others w in
      (ap (λ (x : Rest). x.told) (e rest) ∙ u.0, subst (λ (x : Rest). AreWanted x.bodies (b others)) (sym (e rest)) u.1);
}

-- what tells one thing and wants no body
pub tell-says : (p : Tell) → Says (λ rest. telling rest (p rest.told)) p (λ r. r)
tell-says p = record { holds = λ rest others w. (refl, w) }

pub name-says : (i : Interpretation) (how : Declare) (name : Ident) → Says (says_name i how name) (tells_name how (named i name)) (λ r. r)
name-says i how name = record { holds = λ rest others w. (refl, w) }

pub region-says : (kind : told.Region Text) (at : ℕ) {f : Rest → Rest} {p : Tell} {b : Brace} → Says f p b → Says (says_region kind at f) (λ t. inner kind at (p nothing) t) b
region-says kind at h = record {
  holds = λ rest others w.
      let u = h.holds (telling rest nothing) others w in
      (ap (λ (x : Told Text). inner kind at x rest.told) u.0, u.1);
}

pub passed-says : (i : Interpretation) (start : ℕ) → Says (says_passed i start) (tells_stmts true (i.bodies start)) (in_body true (BracedBody (i.bodies start)))
passed-says i start = record { holds = λ rest others w. (refl, (others, refl, w)) }

pub read-says : {f : Rest → Rest} (ss : Stmts) → Says f (tells_stmts true ss) (in_stmts true ss) → Says (says_read f) (tells_stmts true ss) (in_body true (BracedBody ss))
read-says ss h = record {
  holds = λ rest others w.
      let u = h.holds rest others w in
      (u.0, (ss, in_stmts true ss others, refl, u.1));
}

-- the same of what is told the same
pub told-same : {f : Rest → Rest} {p q : Tell} {b : Brace} → ((t : Told Text) → p t ≡ q t) → Says f p b → Says f q b
told-same e h = record { holds = λ rest others w. let u = h.holds rest others w in (u.0 ∙ e rest.told, u.1) }
