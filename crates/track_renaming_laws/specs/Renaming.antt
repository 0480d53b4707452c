-- What a script tells, with each name written down in another way.
use Rattle.std.specs.Prelude.{ℕ, Bool, Option, None, Some}
use Rattle.parse_track.specs.Told.{Name, Region, Script, Function, Arrow, Lambda, Block, Switch, ForHead, Catch, Loop, Label, VarBody, Leaf, Declared}
use Rattle.parse_track.specs.Told.{Used, Jumped, Told, nothing, leaf, inner, KnownNames}
use Rattle.parse_track.specs.ClosedNames.{Bound}

abbrev pub renamed_name : {A B : Type 0} → (A → B) → Name A → Name B
renamed_name f x = record { name = f x.name; at = x.at }

abbrev pub renamed_label : {A B : Type 0} → (A → B) → Option (Name A) → Option (Name B)
renamed_label f None = None
renamed_label f (Some x) = Some (renamed_name f x)

abbrev pub renamed_region : {A B : Type 0} → (A → B) → Region A → Region B
renamed_region f Script = Script
renamed_region f Function = Function
renamed_region f Arrow = Arrow
renamed_region f (Lambda x) = Lambda (renamed_name f x)
renamed_region f Block = Block
renamed_region f Switch = Switch
renamed_region f ForHead = ForHead
renamed_region f Catch = Catch
renamed_region f Loop = Loop
renamed_region f (Label x) = Label (renamed_name f x)
renamed_region f VarBody = VarBody

abbrev pub renamed_leaf : {A B : Type 0} → (A → B) → Leaf A → Leaf B
renamed_leaf f (Declared how x) = Declared how (renamed_name f x)
renamed_leaf f (Used x) = Used (f x)
renamed_leaf f (Jumped word at label) = Jumped word at (renamed_label f label)

-- each name renamed, and each region put at another offset
abbrev pub rewritten : {A B : Type 0} → (A → B) → (Region A → ℕ → ℕ) → Told A → Told B
rewritten f place nothing = nothing
rewritten f place (leaf l t) = leaf (renamed_leaf f l) (rewritten f place t)
rewritten f place (inner k at i t) = inner (renamed_region f k) (place k at) (rewritten f place i) (rewritten f place t)

-- each name renamed, all offsets as they are
abbrev pub renamed : {A B : Type 0} → (A → B) → Told A → Told B
renamed f t = rewritten f (λ k at. at) t

abbrev pub renamed_known : {A B : Type 0} → (A → B) → KnownNames A → KnownNames B
renamed_known f known = record { eval = f known.eval; arguments = f known.arguments; this = f known.this }

abbrev pub renamed_bound : {A B : Type 0} → (A → B) → Bound A → Bound B
renamed_bound f b = record { func = b.func; scope = b.scope; name = f b.name }

-- names are the same where what they are renamed to is
abbrev pub same_by : {A B : Type 0} → (A → B) → (B → B → Bool) → A → A → Bool
same_by f same x y = same (f x) (f y)
