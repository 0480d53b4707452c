-- Strings and template parts. ECMA-262, 12th edition, clauses 12.8.4 and 12.8.6.
use Rattle.std.specs.Prelude.{ℕ, zero, suc, ◌+◌, Bool, false, not, ◌||◌, ◌&&◌, ◌==◌, List, [], ◌∷◌, ◌++◌, Option, Some, None, option_map, length, drop, if◌then◌else◌}
use Rattle.unit_text.specs.Units.{code_units}
use Rattle.script_scanner.specs.declared.escapes.Step.{Step}
use Rattle.script_scanner.specs.declared.escapes.Step.TheVariants.{Add, Skip, Close, Break}
use Rattle.script_scanner.specs.declared.parts.Ending.{Ending}
use Rattle.script_scanner.specs.declared.parts.Ending.TheVariants.{Quote, Template}
use Rattle.script_scanner.specs.Blanks.{begins, line_end_length}
use Rattle.script_scanner.specs.Escapes.{escape_step}

-- What the code points at the front of a string's rest do, where the string ends at this quote: add a code point, of which
-- this many code points are the source; skip some; end it; or break it. LF and CR break it.
abbrev pub string_step : ℕ → List ℕ → Step
string_step quote [] = Break
string_step quote (c ∷ codes) = if c == quote then Close 1
    else (if c == 0x5C then escape_step codes
    else (if (c == 0xA) || (c == 0xD) then Break else Add c 1))

-- A code point of a string that stands for itself, where the string ends at this quote.
abbrev pub is_plain : ℕ → ℕ → Bool
is_plain quote c = if c == quote then false else (if c == 0x5C then false else not ((c == 0xA) || (c == 0xD)))

-- What the code points at the front of a template part's rest do. CR and CR LF stand for LF (clause 12.8.6.1).
abbrev pub template_step : List ℕ → Step
template_step [] = Break
template_step (c ∷ codes) = if c == 0x60 then Close 1
    else (if (c == 0x24) && begins (0x7B ∷ []) codes then Close 2
    else (if c == 0x5C then escape_step codes
    else (if c == 0xD then Add 0xA (line_end_length (c ∷ codes)) else Add c 1)))

-- The steps of a string or of a template part.
abbrev pub step_at : Ending → List ℕ → Step
step_at (Quote quote) codes = string_step quote codes
step_at Template codes = template_step codes

-- What stands before the end: its units, how many code points they take, and how many the end takes.
pub record Body : Type 0 where
  pub units : List ℕ
  pub inner : ℕ
  pub closing : ℕ

-- The body with units before it, which take n code points.
abbrev pub behind : List ℕ → ℕ → Body → Body
behind units n body = record { units = units ++ body.units; inner = n + body.inner; closing = body.closing }

-- A step, and then what the rest gives.
abbrev pub then_body : Step → (ℕ → Option Body) → Option Body
then_body (Add code n) rest = option_map (behind (code_units code) n) (rest n)
then_body (Skip n) rest = option_map (behind [] n) (rest n)
then_body (Close n) rest = Some (record { units = []; inner = 0; closing = n })
then_body Break rest = None

-- The body that the steps make of a text, in n steps at most.
abbrev pub body_within : Ending → ℕ → List ℕ → Option Body
body_within ending zero codes = None
body_within ending (suc fuel) codes = then_body (step_at ending codes) (λ n. body_within ending fuel (drop n codes))

-- The body that the steps make of a text. Each step takes a code point at least.
unfoldable pub body_of : Ending → List ℕ → Option Body
body_of ending codes = body_within ending (suc (length codes)) codes
