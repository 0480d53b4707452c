use Rattle.std.proofs.Common.{◌∙◌, ap}
use Rattle.atom_table.specs.ListView.{ListView}
use Rattle.atom_table.specs.Words.{hash_of}
use Rattle.atom_table.proofs.text_list.TextList.hash.Goals as goal

pub returns : goal.returns
unfolding hash_of
returns c = c.hash_one.ensures ∙ ap (λ (list : ListView). hash_of list.keys c.args.text.now) c.self.view_is
