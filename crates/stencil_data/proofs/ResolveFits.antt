-- On a chain that fits, the place of each name fits the operands of code.
use Rattle.std.proofs.Common.{ℕ, ◌+◌, ◌^◌, ◌<◌, ◌≤◌, Bool, true, false, cond, List, [], ◌∷◌, length, IfSome, Option, Some, None, bytes_eq, arith}
use Rattle.stencil_data.specs.declared.chains.LinkName.{LinkName}
use Rattle.stencil_data.specs.declared.scopes.BindKind.{BindKind}
use Rattle.stencil_data.specs.declared.scopes.Slot.{Slot}
use Rattle.stencil_data.specs.declared.scopes.Slot.TheVariants as slot
use Rattle.stencil_data.specs.declared.scopes.Place.{Place}
use Rattle.stencil_data.specs.declared.scopes.Place.TheVariants as place
use Rattle.stencil_data.specs.LinkView.{LinkView}
use Rattle.stencil_data.specs.Resolve.{is_global, environments_of, first_named, place_of, place_or, resolve_beyond, resolve}
use Rattle.stencil_data.specs.Fits.{SlotFits, PlaceFits, NamesFit, LinksFit, ChainFits}

place_fits : (hops : ℕ) (kind : BindKind) (at : Slot) → hops < 2 ^ 16 → SlotFits at → PlaceFits (place_of hops kind at)
place_fits hops kind slot.Global few fits = fits
place_fits hops kind (slot.Arg index) few fits = fits
place_fits hops kind (slot.Frame index) few fits = fits
place_fits hops kind (slot.Env index) few fits = (few, fits)
place_fits hops kind slot.Callee few fits = fits

first_or : (b : Bool) (binding : LinkName) (rest : Option LinkName) → SlotFits binding.slot → IfSome rest (λ found. SlotFits found.slot) → IfSome (cond b (Some binding) rest) (λ found. SlotFits found.slot)
first_or true binding rest fits others = fits
first_or false binding rest fits others = others

named_fits : (name : List ℕ) (names : List LinkName) → NamesFit names → IfSome (first_named name names) (λ found. SlotFits found.slot)
named_fits name [] fits = tt
named_fits name (binding ∷ names) fits = first_or (bytes_eq binding.text name) binding (first_named name names) fits.0 (named_fits name names fits.1)

or_fits : (hops : ℕ) (found : Option LinkName) (further : Place) → hops < 2 ^ 16 → IfSome found (λ binding. SlotFits binding.slot) → PlaceFits further → PlaceFits (place_or hops found further)
or_fits hops None further few fits rest = rest
or_fits hops (Some binding) further few fits rest = place_fits hops binding.kind binding.slot few fits

global_or : (b : Bool) (further : Place) → PlaceFits further → PlaceFits (cond b place.Global further)
global_or true further fits = tt
global_or false further fits = fits

one_at_most : (b : Bool) → cond b 1 0 ≤ 1
one_at_most true = omega arith
one_at_most false = omega arith

beyond_fits : (hops : ℕ) (chain : List LinkView) (name : List ℕ) → hops + length chain < 2 ^ 16 → LinksFit chain → PlaceFits (resolve_beyond hops chain name)
beyond_fits hops [] name few fits = tt
beyond_fits hops (link ∷ outer) name few fits =
    let one = one_at_most link.env in
    global_or (is_global link.kind) (place_or hops (first_named name link.names) (resolve_beyond (hops + environments_of link) outer name))
    (or_fits hops (first_named name link.names) (resolve_beyond (hops + environments_of link) outer name) (omega arith) (named_fits name link.names fits.0)
    (beyond_fits (hops + environments_of link) outer name (omega arith) fits.1))

pub resolve_fits : (limit : ℕ) (chain : List LinkView) (name : List ℕ) → limit < 2 ^ 16 → ChainFits limit chain → PlaceFits (resolve chain name)
resolve_fits limit chain name few fits = let links = fits.links in beyond_fits 0 chain name (omega arith) fits.slots
