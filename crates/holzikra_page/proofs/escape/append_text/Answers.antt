use Rattle.holzikra_page.proofs.Escaping.{appends}
use Rattle.holzikra_page.proofs.escape.append_text.Goals as goal

pub returns : goal.returns
returns c = appends c.args.text.now c.in_ok-append_bytes.ensures
