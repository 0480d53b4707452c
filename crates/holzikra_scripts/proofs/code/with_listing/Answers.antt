use Rattle.std.proofs.Common.{◌++◌, ◌∙◌, ap}
use Rattle.holzikra_scripts.proofs.code.with_listing.Goals as goal

pub returns : goal.returns
returns c = λ plain is.
    record {
      head = c.args.head.items;
      text = c.args.listing.now.text.items;
      noted = c.args.listing.now.noted;
      whole = c.in_ok-extend_from_slice.ensures.items ∙ ap (λ l. c.args.head.items ++ l) c.deref.ensures.value;
      is = is;
    }
