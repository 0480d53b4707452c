-- Which functions are wanted, as the code is told it.
use Rattle.compile_specs.specs.Shown as shown
use Rattle.compile_wanted.specs.declared.flags.Wanted.{Wanted}
use Rattle.compile_wanted.specs.declared.flags.Wanted.TheVariants as wanted

abbrev pub to_show : Wanted → shown.Wanted
to_show wanted.All = shown.All
to_show (wanted.Numbers numbers) = shown.Numbers numbers.now
