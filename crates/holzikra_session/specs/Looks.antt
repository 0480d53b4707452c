-- When what is printed has colours: this project's own choice, with NO_COLOR of no-color.org.
use Rattle.std.specs.Prelude.{◌≡◌, Bool, true, false, not, ◌&&◌}
use Rattle.holzikra_words.specs.declared.look.Colors.{Colors}
use Rattle.holzikra_words.specs.declared.look.Colors.TheVariants as colors
use Rattle.holzikra_words.specs.declared.check.Format.TheVariants as check
use Rattle.holzikra_words.specs.declared.code.CodeFormat.TheVariants as code
use Rattle.holzikra_words.specs.declared.load.LoadFormat.TheVariants as load
use Rattle.holzikra_words.specs.declared.scopes.ScopesFormat.TheVariants as scopes
use Rattle.holzikra_words.specs.declared.stats.StatsFormat.TheVariants as stats
use Rattle.holzikra_words.specs.declared.verify.VerifyFormat.TheVariants as verify
use Rattle.holzikra_session.specs.declared.screen.Surroundings.{Surroundings}
use Rattle.holzikra_session.specs.declared.task.Task.{Task}
use Rattle.holzikra_session.specs.declared.task.Task.TheVariants as task

-- without a choice answers have colours on a terminal that shows them, where the user has not asked for none
abbrev pub has_colours : Colors → Surroundings → Bool
has_colours colors.Always around = true
has_colours colors.Never around = false
has_colours colors.Auto around = around.terminals.answers && not around.no_color && not around.dumb

-- the answers are for people, and not for programs
abbrev pub IsForPeople : Task → Type 0
IsForPeople (task.Check options) = options.now.format ≡ check.Human
IsForPeople (task.Code options) = options.now.format ≡ code.Human
IsForPeople (task.Scopes options) = options.now.format ≡ scopes.Human
IsForPeople (task.Stats options) = options.now.format ≡ stats.Human
IsForPeople (task.Load options) = options.now.format ≡ load.Human
IsForPeople (task.Verify options) = options.now.format ≡ verify.Human
