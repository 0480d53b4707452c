-- Why a text is refused, in the words of session_specs.
use Rattle.session_specs.specs.Refusals as line
use Rattle.stencil.specs.declared.answers.Refusal.{Refusal}
use Rattle.stencil.specs.declared.answers.Refusal.TheVariants as refusal

-- the refusal of a file that the code's stands for
abbrev pub refusal_of : Refusal → line.Refusal
refusal_of refusal.TooLong = line.TooLong
refusal_of (refusal.BadUtf8 offset) = line.BadUtf8 offset
refusal_of (refusal.Unexpected offset) = line.Unexpected offset
refusal_of (refusal.TooDeep offset) = line.TooDeep offset
refusal_of (refusal.Early offset rule) = line.Early offset rule
refusal_of (refusal.NoFunction number) = line.NoFunction number
