-- What is told twice stays alike where more names come to stand for one another, as with a list of texts that grows.
use Rattle.std.proofs.Common.{ℕ, Option, None, Some, List, ◌++◌}
use Rattle.parse_track.specs.Told.{Name, Region, Script, Function, Arrow, Lambda, Block, Switch, ForHead, Catch, Loop, Label, VarBody, Leaf, Declared, Used, Jumped, Told, nothing, leaf, inner, KnownNames}
use Rattle.parse_track.specs.Tells.{Text}
use Rattle.track_renaming_laws.specs.Alike.{AreOneLabel, AreOneRegion, AreOneLeaf, AreToldAlike, AreKnownAlike}
use Rattle.track_renaming_laws.specs.Texts.{StandsAt}
use Rattle.track_renaming_laws.proofs.Standing.{stands_more}

module _ {A B : Type 0} (Means More : A → B → Type 0) (by : (x : A) (y : B) → Means x y → More x y) where
  label_more : (x : Option (Name A)) (y : Option (Name B)) → AreOneLabel Means x y → AreOneLabel More x y
  label_more None None h = tt
  label_more (Some x) (Some y) h = (by x.name y.name h.0, h.1)
  label_more _ _ h = absurd h

  region_more : (k : Region A) (at : ℕ) (j : Region B) (there : ℕ) → AreOneRegion Means k at j there → AreOneRegion More k at j there
  region_more Script at Script there h = h
  region_more Function at Function there h = h
  region_more Arrow at Arrow there h = h
  region_more (Lambda x) at (Lambda y) there h = (by x.name y.name h.0, h.1)
  region_more Block at Block there h = h
  region_more Switch at Switch there h = h
  region_more ForHead at ForHead there h = h
  region_more Catch at Catch there h = h
  region_more Loop at Loop there h = h
  region_more (Label x) at (Label y) there h = (by x.name y.name h.0, h.1)
  region_more VarBody at VarBody there h = h
  region_more _ at _ there h = absurd h

  leaf_more : (l : Leaf A) (m : Leaf B) → AreOneLeaf Means l m → AreOneLeaf More l m
  leaf_more (Declared how x) (Declared so y) h = (h.0, (by x.name y.name h.1.0, h.1.1))
  leaf_more (Used x) (Used y) h = by x y h
  leaf_more (Jumped word at x) (Jumped jump there y) h = (h.0, (h.1.0, label_more x y h.1.1))
  leaf_more _ _ h = absurd h

  pub alike_more : (t : Told A) (u : Told B) → AreToldAlike Means t u → AreToldAlike More t u
  alike_more nothing nothing h = tt
  alike_more (leaf l t) (leaf m u) h = (leaf_more l m h.0, alike_more t u h.1)
  alike_more (inner k at i t) (inner j there o u) h = (region_more k at j there h.0, (alike_more i o h.1.0, alike_more t u h.1.1))
  alike_more _ _ h = absurd h

  pub knows_more : (known : KnownNames A) (other : KnownNames B) → AreKnownAlike Means known other → AreKnownAlike More known other
  knows_more known other h = (by known.eval other.eval h.0, (by known.arguments other.arguments h.1.0, by known.this other.this h.1.1))

pub alike-append : (texts more : List Text) (t : Told ℕ) (u : Told Text) → AreToldAlike (StandsAt texts) t u → AreToldAlike (StandsAt (texts ++ more)) t u
alike-append texts more = alike_more (StandsAt texts) (StandsAt (texts ++ more)) (stands_more texts more)

pub knows-append : (texts more : List Text) (known : KnownNames ℕ) (other : KnownNames Text) → AreKnownAlike (StandsAt texts) known other
    → AreKnownAlike (StandsAt (texts ++ more)) known other
knows-append texts more = knows_more (StandsAt texts) (StandsAt (texts ++ more)) (stands_more texts more)
