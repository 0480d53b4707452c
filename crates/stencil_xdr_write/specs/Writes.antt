-- What a writer's bytes are once it has taken items.
use Rattle.std.specs.Prelude.{◌≡◌, ℕ, List, [], ◌++◌, flat_map, Option}
use Rattle.std.proofs.Common.{refl, sym, ◌∙◌, ap, ap₂, append_assoc, append-nil}
use Rattle.std.proofs.lemmas.Grind.{flat_map-append}
use Rattle.stencil_xdr_specs.specs.Image.{Item}
use Rattle.stencil_xdr_write.specs.Numbers.{numbered_bytes}

-- what clauses see of a `Writer`
pub record WriterView : Type 0 where
  pub table : List (Option ℕ)
  pub bytes : List ℕ

-- the bytes of the items stand after those before, and the numbers are the same
pub record Writes (old : WriterView) (is : List Item) (new : WriterView) : Type 0 where
  pub same : new.table ≡ old.table
  pub bytes : new.bytes ≡ old.bytes ++ flat_map (numbered_bytes old.table) is

pub writes_none : (w : WriterView) → Writes w [] w
writes_none w = record { same = refl; bytes = sym (append-nil w.bytes) }

pub writes_both : (a b c : WriterView) (xs ys : List Item) → Writes a xs b → Writes b ys c → Writes a (xs ++ ys) c
writes_both a b c xs ys f g = record {
  same = g.same ∙ f.same;
  bytes = g.bytes
      ∙ (ap₂ (λ (l : List ℕ) (t : List (Option ℕ)). l ++ flat_map (numbered_bytes t) ys) f.bytes f.same
      ∙ (append_assoc a.bytes (flat_map (numbered_bytes a.table) xs) (flat_map (numbered_bytes a.table) ys)
      ∙ ap (λ (l : List ℕ). a.bytes ++ l) (sym (flat_map-append (numbered_bytes a.table) xs ys))));
}
