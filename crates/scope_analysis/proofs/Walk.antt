-- A walk along a chain.
use Rattle.std.proofs.Common.{◌≡◌, ℕ, ◌+◌, ◌^◌, ◌<◌, ◌≤◌, Bool, true, false, bytes_eq, if◌then◌else◌, List, [], ◌∷◌, length, Option, Some, None, refl, sym, ◌∙◌, ap, subst, arith}
use Rattle.stencil_data.specs.declared.chains.LinkName.{LinkName}
use Rattle.stencil_data.specs.declared.scopes.BindKind.{BindKind}
use Rattle.stencil_data.specs.declared.scopes.Slot.{Slot}
use Rattle.stencil_data.specs.declared.scopes.Slot.TheVariants as slot
use Rattle.stencil_data.specs.declared.scopes.Place.TheVariants as place
use Rattle.stencil_data.specs.LinkView.{LinkView}
use Rattle.stencil_data.specs.Fits.{ChainFits, LinksFit, NamesFit, SlotFits, PlaceFits}
use Rattle.stencil_data.specs.Resolve.{is_global, environments_of, first_named, place_of, place_or, resolve_beyond, resolve}

-- how far the walk has come: what is left of the chain, and the environments that were passed
pub record Walking (chain : List LinkView) (name : List ℕ) (rest : List LinkView) (hops : ℕ) : Type 0 where
  pub found : resolve_beyond hops rest name ≡ resolve chain name
  pub fit : LinksFit rest
  pub few : hops + length rest ≤ 65000

pub walking_start : (chain : List LinkView) (name : List ℕ) → ChainFits 65000 chain → Walking chain name chain 0
walking_start chain name fits = record { found = refl; fit = fits.slots; few = omega (arith, fits.links) }

-- at the link that the walk has reached
pub walking_at : (chain : List LinkView) (name : List ℕ) (rest : List LinkView) (hops : ℕ) (link : LinkView) (outer : List LinkView) → rest ≡ link ∷ outer → Walking chain name rest hops → (if is_global link.kind then place.Global else place_or hops (first_named name link.names) (resolve_beyond (hops + environments_of link) outer name)) ≡ resolve chain name
walking_at chain name rest hops link outer is w = ap (λ (l : List LinkView). resolve_beyond hops l name) (sym is) ∙ w.found

pub walking_global : (chain : List LinkView) (name : List ℕ) (rest : List LinkView) (hops : ℕ) (link : LinkView) (outer : List LinkView) → rest ≡ link ∷ outer → is_global link.kind ≡ true → Walking chain name rest hops → place.Global ≡ resolve chain name
walking_global chain name rest hops link outer is global w = ap (λ (b : Bool). if b then place.Global else place_or hops (first_named name link.names) (resolve_beyond (hops + environments_of link) outer name)) (sym global) ∙ walking_at chain name rest hops link outer is w

-- what the link says, where it is not the global one
pub walking_inner : (chain : List LinkView) (name : List ℕ) (rest : List LinkView) (hops : ℕ) (link : LinkView) (outer : List LinkView) → rest ≡ link ∷ outer → is_global link.kind ≡ false → Walking chain name rest hops → place_or hops (first_named name link.names) (resolve_beyond (hops + environments_of link) outer name) ≡ resolve chain name
walking_inner chain name rest hops link outer is inner w = ap (λ (b : Bool). if b then place.Global else place_or hops (first_named name link.names) (resolve_beyond (hops + environments_of link) outer name)) (sym inner) ∙ walking_at chain name rest hops link outer is w

pub walking_found : (chain : List LinkView) (name : List ℕ) (rest : List LinkView) (hops : ℕ) (link : LinkView) (outer : List LinkView) (b : LinkName) → rest ≡ link ∷ outer → is_global link.kind ≡ false → Some b ≡ first_named name link.names → Walking chain name rest hops → place_of hops b.kind b.slot ≡ resolve chain name
walking_found chain name rest hops link outer b is inner found w =
    ap (λ (o : Option LinkName). place_or hops o (resolve_beyond (hops + environments_of link) outer name)) found ∙ walking_inner chain name rest hops link outer is inner w

pub walking_further : (chain : List LinkView) (name : List ℕ) (rest : List LinkView) (hops : ℕ) (link : LinkView) (outer : List LinkView) (more : ℕ) → rest ≡ link ∷ outer → is_global link.kind ≡ false → ◌≡◌ {A = Option LinkName} None (first_named name link.names) → more ≡ environments_of link → Walking chain name rest hops → Walking chain name outer (hops + more)
walking_further chain name rest hops link outer more is inner none passed w = record {
  found = ap (λ (k : ℕ). resolve_beyond (hops + k) outer name) passed ∙ (ap (λ (o : Option LinkName). place_or hops o (resolve_beyond (hops + environments_of link) outer name)) none ∙ walking_inner chain name rest hops link outer is inner w);
  fit = (subst LinksFit is w.fit).1;
  few = omega (arith, ap length is, w.few, environments_few link.env, passed);
}
  where
    environments_few : (b : Bool) → (if b then 1 else 0) ≤ 1
    environments_few true = omega arith
    environments_few false = omega arith

-- the end of the chain
pub walking_end : (chain : List LinkView) (name : List ℕ) (rest : List LinkView) (hops : ℕ) → rest ≡ [] → Walking chain name rest hops → place.Global ≡ resolve chain name
walking_end chain name rest hops none w = ap (λ (l : List LinkView). resolve_beyond hops l name) (sym none) ∙ w.found

slot_fits_in : (name : List ℕ) (n : LinkName) (names : List LinkName) (b : LinkName) (here : Bool) → SlotFits n.slot → (Some b ≡ first_named name names → SlotFits b.slot) → Some b ≡ (if here then Some n else first_named name names) → SlotFits b.slot
slot_fits_in name n names b true fit later found = let e : b ≡ n = cc in subst (λ (x : LinkName). SlotFits x.slot) (sym e) fit
slot_fits_in name n names b false fit later found = later found

-- a binding that is found has a slot that fits
pub SlotFits-found : (name : List ℕ) (names : List LinkName) (b : LinkName) → NamesFit names → Some b ≡ first_named name names → SlotFits b.slot
SlotFits-found name [] b fit found = cc
SlotFits-found name (n ∷ names) b fit found = slot_fits_in name n names b (bytes_eq n.text name) fit.0 (λ later. SlotFits-found name names b fit.1 later) found

pub PlaceFits-place_of : (hops : ℕ) (kind : BindKind) (s : Slot) → SlotFits s → hops < 2 ^ 16 → PlaceFits (place_of hops kind s)
PlaceFits-place_of hops kind slot.Global fits few = tt
PlaceFits-place_of hops kind (slot.Arg index) fits few = fits
PlaceFits-place_of hops kind (slot.Frame index) fits few = fits
PlaceFits-place_of hops kind (slot.Env index) fits few = (few, fits)
PlaceFits-place_of hops kind slot.Callee fits few = tt

-- the place of a binding that was found at a link
pub walking_fits : (chain : List LinkView) (name : List ℕ) (rest : List LinkView) (hops : ℕ) (link : LinkView) (outer : List LinkView) (b : LinkName) → rest ≡ link ∷ outer → Some b ≡ first_named name link.names → Walking chain name rest hops → PlaceFits (place_of hops b.kind b.slot)
walking_fits chain name rest hops link outer b is found w = PlaceFits-place_of hops b.kind b.slot (SlotFits-found name link.names b (subst LinksFit is w.fit).0 found) (omega (arith, w.few))
