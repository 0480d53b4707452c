use Rattle.session_images.proofs.Verifying.{all_lines, or_first, or_second}
use Rattle.session_images.proofs.verdicts.append_verdicts.Goals as goal
