-- Numberings of more and more items.
use Rattle.std.specs.Prelude.{List, [], ◌++◌}
use Rattle.std.proofs.Common.{sym, subst, append_assoc, append-nil}
use Rattle.stencil_xdr_specs.specs.Image.{Item}
use Rattle.stencil_xdr_write.specs.Named.{NumberingView, IsNumbered, NumbersMore}

pub more_none : (n : NumberingView) → NumbersMore n [] n
more_none n = λ texts seen h. subst (λ (s : List Item). IsNumbered texts s n) (sym (append-nil seen)) h

pub more_both : (a b c : NumberingView) (xs ys : List Item) → NumbersMore a xs b → NumbersMore b ys c → NumbersMore a (xs ++ ys) c
more_both a b c xs ys f g = λ texts seen h. subst (λ (s : List Item). IsNumbered texts s c) (append_assoc seen xs ys)
    (g texts (seen ++ xs) (f texts seen h))
