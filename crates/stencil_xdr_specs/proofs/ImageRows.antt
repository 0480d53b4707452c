-- Images of small stencils, computed.
use Rattle.std.proofs.Common.{◌≡◌, refl, [], ◌∷◌, Some, None, codes}
use Rattle.stencil_data.specs.declared.functions.FuncKind.TheVariants as func
use Rattle.stencil_data.specs.declared.scopes.ScopeKind.TheVariants as scope
use Rattle.stencil_data.specs.declared.scopes.BindKind.TheVariants as bind
use Rattle.stencil_data.specs.declared.scopes.Slot.TheVariants as slot
use Rattle.stencil_data.specs.declared.stencils.Entry.TheVariants as entry
use Rattle.stencil_data.specs.MergedView.{MergedView}
use Rattle.stencil_data.specs.Views.{FunctionView}
use Rattle.bytecode_buf.specs.Layout as layout
use Rattle.stencil_xdr_specs.specs.Image.{image, named, firsts, items}

-- the script of the empty file
abbrev empty : MergedView
empty = record {
  texts = [];
  top = record {
    extent = record { start = 0; end = 0 };
    kind = func.Declared;
    name = None;
    params = 0;
    scopes = record { kind = scope.Global; parent = None; bindings = []; env_slots = 0 } ∷ [];
    code = 0x6F ∷ 0 ∷ 0 ∷ 0 ∷ 0 ∷ 0x64 ∷ [];
    notes = [];
    inner = [];
  };
  records = [];
  entries = [];
}

empty_row : image empty ≡
    0x53 ∷ 0x54 ∷ 0x4E ∷ 0x31 ∷ 0 ∷ 0 ∷ 0 ∷ 0 ∷ 0 ∷ 0 ∷ 0 ∷ 0 ∷ 0 ∷ 0 ∷ 0 ∷ 0 ∷ 0 ∷ 0 ∷ 0 ∷ 0 ∷ 0 ∷ 0
    ∷ 1 ∷ 0 ∷ 0 ∷ 0 ∷ 0 ∷ 0 ∷ 0 ∷ 0 ∷ 0 ∷ 0 ∷ 0 ∷ 0 ∷ 0 ∷ 0
    ∷ 6 ∷ 0 ∷ 0 ∷ 0 ∷ 0 ∷ 0 ∷ 0 ∷ 0 ∷ 0x6F ∷ 0 ∷ 0 ∷ 0 ∷ 0 ∷ 0x64
    ∷ 0 ∷ 0 ∷ 0 ∷ 0 ∷ 0 ∷ 0 ∷ 0 ∷ 0 ∷ 0 ∷ 0 ∷ 0 ∷ 0 ∷ []
unfolding layout.instructions_within
empty_row = refl

-- Two functions, one compiled. Texts stand in another order than that in which they are named, one twice, one unnamed.
abbrev compiled : FunctionView
compiled = record {
  extent = record { start = 10; end = 20 };
  kind = func.Arrow;
  name = Some 3;
  params = 1;
  scopes = record { kind = scope.Function; parent = None; bindings = record { atom = 0; kind = bind.Param; slot = slot.Env 0 } ∷ []; env_slots = 1 } ∷ [];
  code = 0x39 ∷ 3 ∷ 0 ∷ 0 ∷ 0 ∷ 0x64 ∷ [];
  notes = record { start = 1; end = 2; depth = 3 } ∷ [];
  inner = record { start = 12; end = 14 } ∷ [];
}

abbrev two : MergedView
two = record {
  texts = codes "x" ∷ codes "unnamed" ∷ codes "f" ∷ codes "f" ∷ [];
  top = empty.top;
  records = record { extent = record { start = 10; end = 20 }; kind = func.Arrow; name = Some 2; inner = 2 ∷ []; closed = record { scope = 0; atom = 0 } ∷ [] }
      ∷ record { extent = record { start = 12; end = 14 }; kind = func.Getter; name = None; inner = []; closed = [] } ∷ [];
  entries = entry.Compiled compiled ∷ entry.Lazy ∷ [];
}

texts_row : firsts (named two.texts (items two)) ≡ codes "f" ∷ codes "x" ∷ []
unfolding layout.instructions_within
texts_row = refl

two_row : image two ≡
    0x53 ∷ 0x54 ∷ 0x4E ∷ 0x31 ∷ 2 ∷ 0 ∷ 0 ∷ 0 ∷ 1 ∷ 0 ∷ 0 ∷ 0 ∷ 0x66 ∷ 0 ∷ 1 ∷ 0 ∷ 0 ∷ 0 ∷ 0x78 ∷ 0
    ∷ 0 ∷ 0 ∷ 0 ∷ 0 ∷ 0 ∷ 0 ∷ 0 ∷ 0 ∷ 0 ∷ 0 ∷ 0 ∷ 0 ∷ 0 ∷ 0 ∷ 1 ∷ 0 ∷ 0 ∷ 0 ∷ 0 ∷ 0 ∷ 0 ∷ 0 ∷ 0 ∷ 0 ∷ 0 ∷ 0 ∷ 0 ∷ 0 ∷ 6 ∷ 0 ∷ 0 ∷ 0 ∷ 0 ∷ 0 ∷ 0 ∷ 0 ∷ 0x6F ∷ 0 ∷ 0 ∷ 0 ∷ 0 ∷ 0x64 ∷ 0 ∷ 0 ∷ 0 ∷ 0 ∷ 0 ∷ 0 ∷ 0 ∷ 0
    ∷ 2 ∷ 0 ∷ 0 ∷ 0 ∷ 0x0A ∷ 0 ∷ 0 ∷ 0 ∷ 0x14 ∷ 0 ∷ 0 ∷ 0 ∷ 2 ∷ 1 ∷ 0 ∷ 0 ∷ 0 ∷ 0 ∷ 1 ∷ 0 ∷ 0 ∷ 0 ∷ 2 ∷ 0 ∷ 0 ∷ 0 ∷ 1 ∷ 0 ∷ 0 ∷ 0 ∷ 0 ∷ 0 ∷ 0 ∷ 0 ∷ 1 ∷ 0 ∷ 0 ∷ 0 ∷ 0x0C ∷ 0 ∷ 0 ∷ 0 ∷ 0x0E ∷ 0 ∷ 0 ∷ 0 ∷ 4 ∷ 0 ∷ 0 ∷ 0 ∷ 0 ∷ 0 ∷ 0 ∷ 0 ∷ 0 ∷ 0
    ∷ 1 ∷ 0x0A ∷ 0 ∷ 0 ∷ 0 ∷ 0x14 ∷ 0 ∷ 0 ∷ 0 ∷ 2 ∷ 1 ∷ 0 ∷ 0 ∷ 0 ∷ 0 ∷ 1 ∷ 0 ∷ 0 ∷ 0 ∷ 1 ∷ 0 ∷ 0 ∷ 0 ∷ 1 ∷ 0 ∷ 1 ∷ 0 ∷ 0 ∷ 0 ∷ 1 ∷ 0 ∷ 0 ∷ 0 ∷ 0 ∷ 3 ∷ 0 ∷ 0 ∷ 0 ∷ 0 ∷ 1 ∷ 0 ∷ 0 ∷ 0 ∷ 6 ∷ 0 ∷ 0 ∷ 0 ∷ 0 ∷ 0 ∷ 0 ∷ 0 ∷ 0x39 ∷ 0 ∷ 0 ∷ 0 ∷ 0 ∷ 0x64 ∷ 1 ∷ 0 ∷ 0 ∷ 0 ∷ 1 ∷ 0 ∷ 0 ∷ 0 ∷ 0 ∷ 0 ∷ 0 ∷ 0 ∷ 2 ∷ 0 ∷ 0 ∷ 0 ∷ 0 ∷ 0 ∷ 0 ∷ 0 ∷ 3 ∷ 0 ∷ 0 ∷ 0 ∷ 1 ∷ 0 ∷ 0 ∷ 0 ∷ 0x0C ∷ 0 ∷ 0 ∷ 0 ∷ 0x0E ∷ 0 ∷ 0 ∷ 0 ∷ 0 ∷ []
unfolding layout.instructions_within
two_row = refl
