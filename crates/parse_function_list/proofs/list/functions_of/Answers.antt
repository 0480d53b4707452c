use Rattle.std.proofs.Common.{◌∙◌}
use Rattle.parse_function_list.specs.declared.list.FoundBody.{FoundBody}
use Rattle.parse_function_list.proofs.Turns.{lists_of}
use Rattle.parse_function_list.proofs.Whole.{Begins, script_placed, script_late}
use Rattle.parse_function_list.proofs.list.functions_of.Goals as goal

pub returns-clause-functions : goal.returns-clause-functions
returns-clause-functions c =
    let begins : Begins c.new-listing.result c.new-directly.result.items c.args.bodies.items = record {
      functions = c.new-listing.ensures.functions;
      extents = c.new-directly.ensures.items;
      bodies_are = c.new-listing.ensures.bodies;
      strict = c.new-listing.ensures.strict;
    } in
    script_placed c.args.top begins (lists_of c.deref.ensures.value c.in_ok-list_all.ensures.lists)

pub returns-clause-late : goal.returns-clause-late
returns-clause-late c = λ i items proper holds shown strict.
    let begins : Begins c.new-listing.result c.new-directly.result.items c.args.bodies.items = record {
      functions = c.new-listing.ensures.functions;
      extents = c.new-directly.ensures.items;
      bodies_are = c.new-listing.ensures.bodies;
      strict = c.new-listing.ensures.strict;
    } in
    c.early_of.ensures ∙ script_late c.args.top begins (lists_of c.deref.ensures.value c.in_ok-list_all.ensures.lists) i items proper holds shown strict
