-- The words of a command, this project's own choice: those after the program's name. What has none of these forms asks for
-- nothing:
--   `code`, `scopes`, `check` or `save`, then options, then file names, of which `save` takes one;
--   `load` or `verify` and one file name;
--   `trial` or `churn`, a number and a size, and perhaps `--workers` with a number.
use Rattle.std.specs.Prelude.{ℕ, Bool, true, false, not, ◌&&◌, ◌||◌, nat_eq, nat_le, if◌then◌else◌, List, [], ◌∷◌, length, Option, Some}
use Rattle.std.specs.Prelude.{None, option_and_then, option_map, codes, bytes_eq}
use Rattle.session_words.specs.declared.options.Command.{Command}
use Rattle.session_words.specs.declared.options.Command.TheVariants as command
use Rattle.session_words.specs.declared.options.Order.{Order}
use Rattle.session_words.specs.declared.options.Order.TheVariants as order
use Rattle.session_words.specs.Asked.{Wanted, All, Nothing, Numbers, Asked, Files, Trial, Churn}
use Rattle.session_words.specs.Numbers.{number_in, numbers_in}

-- ---- the values of options

-- `all`, `none`, or numbers of functions
abbrev pub want_of : List ℕ → Option Wanted
want_of word =
    if bytes_eq word (codes "all") then Some All else
    if bytes_eq word (codes "none") then Some Nothing else option_map Numbers (numbers_in 1 16777215 word)

abbrev pub workers_of : List ℕ → Option ℕ
workers_of word = number_in 1 16 word

abbrev pub order_of : List ℕ → Option Order
order_of word =
    if bytes_eq word (codes "first") then Some order.First else
    if bytes_eq word (codes "large") then Some order.Large else
    if bytes_eq word (codes "reverse") then Some order.Reverse else None

-- ---- options, each at most once and in any order, and the file names after them

pub record Given : Type 0 where
  pub want : Option Wanted
  pub workers : Option ℕ
  pub order : Option Order

abbrev pub nothing_given : Given
nothing_given = record { want = None; workers = None; order = None }

-- an option's value, where it was not given yet
abbrev pub once : {A : Type 0} → Option A → Option A → Option A
once (Some earlier) value = None
once None value = value

abbrev pub with_want : Given → List ℕ → Option Given
with_want given word = option_map (λ w. record given { want = Some w }) (once given.want (want_of word))

abbrev pub with_workers : Given → List ℕ → Option Given
with_workers given word = option_map (λ n. record given { workers = Some n }) (once given.workers (workers_of word))

abbrev pub with_order : Given → List ℕ → Option Given
with_order given word = option_map (λ o. record given { order = Some o }) (once given.order (order_of word))

abbrev pub is_option : List ℕ → Bool
is_option word = bytes_eq word (codes "--want") || bytes_eq word (codes "--workers") || bytes_eq word (codes "--order")

-- the option that this word names, with this value
abbrev pub with_option : Given → List ℕ → List ℕ → Option Given
with_option given word value =
    if bytes_eq word (codes "--want") then with_want given value else
    if bytes_eq word (codes "--workers") then with_workers given value else with_order given value

-- what options gave, and the words from the first on that is no option
pub record Taken : Type 0 where
  pub given : Given
  pub names : List (List ℕ)

abbrev pub take_options : Given → List (List ℕ) → Option Taken
take_options given [] = Some (record { given = given; names = [] })
take_options given (word ∷ []) = if is_option word then None else Some (record { given = given; names = word ∷ [] })
take_options given (word ∷ value ∷ rest) =
    if is_option word then option_and_then (λ g. take_options g rest) (with_option given word value)
    else Some (record { given = given; names = word ∷ value ∷ rest })

-- ---- file names

-- a file name is not empty and does not begin with `-`
abbrev pub is_file_name : List ℕ → Bool
is_file_name [] = false
is_file_name (first ∷ rest) = not (nat_eq first 45)

abbrev pub all_file_names : List (List ℕ) → Bool
all_file_names [] = true
all_file_names (name ∷ names) = is_file_name name && all_file_names names

-- from 1 to n file names
abbrev pub are_names : ℕ → List (List ℕ) → Bool
are_names most names = nat_le 1 (length names) && nat_le (length names) most && all_file_names names

-- ---- the forms

-- a value, or what stands for it where it was not given
abbrev pub or_else : {A : Type 0} → A → Option A → A
or_else default None = default
or_else default (Some value) = value

abbrev pub job_of : Command → Given → List (List ℕ) → Asked
job_of c given names = Files
    (record { command = c; want = or_else All given.want; workers = or_else 4 given.workers; order = or_else order.First given.order; files = names })

-- of at most n files
abbrev pub with_names : Command → ℕ → Taken → Option Asked
with_names c most taken = if are_names most taken.names then Some (job_of c taken.given taken.names) else None

abbrev pub files_form : Command → ℕ → List (List ℕ) → Option Asked
files_form c most words = option_and_then (with_names c most) (take_options nothing_given words)

abbrev pub image_form : Command → List (List ℕ) → Option Asked
image_form c words = with_names c 1 (record { given = nothing_given; names = words })

-- a number, a size, and how many workers
pub record Generated : Type 0 where
  pub number : ℕ
  pub size : ℕ
  pub workers : ℕ

abbrev pub generated_by : Option ℕ → Option ℕ → Option ℕ → Option Generated
generated_by (Some n) (Some s) (Some w) = Some (record { number = n; size = s; workers = w })
generated_by _ _ _ = None

abbrev pub number_from : List ℕ → Option ℕ
number_from word = number_in 0 4294967295 word

abbrev pub size_from : List ℕ → Option ℕ
size_from word = number_in 1 100000 word

-- how many workers the words after a size say
abbrev pub workers_behind : List (List ℕ) → Option ℕ
workers_behind [] = Some 4
workers_behind (option ∷ []) = None
workers_behind (option ∷ value ∷ []) = if bytes_eq option (codes "--workers") then workers_of value else None
workers_behind (option ∷ value ∷ further ∷ rest) = None

abbrev pub generated_of : List (List ℕ) → Option Generated
generated_of [] = None
generated_of (number ∷ []) = None
generated_of (number ∷ size ∷ rest) = generated_by (number_from number) (size_from size) (workers_behind rest)

abbrev pub text_form : (ℕ → ℕ → ℕ → Asked) → List (List ℕ) → Option Asked
text_form form words = option_map (λ (g : Generated). form g.number g.size g.workers) (generated_of words)

abbrev pub form_of : List ℕ → List (List ℕ) → Option Asked
form_of word rest =
    if bytes_eq word (codes "code") then files_form command.Code 64 rest else
    if bytes_eq word (codes "scopes") then files_form command.Scopes 64 rest else
    if bytes_eq word (codes "check") then files_form command.Check 64 rest else
    if bytes_eq word (codes "save") then files_form command.Save 1 rest else
    if bytes_eq word (codes "load") then image_form command.Load rest else
    if bytes_eq word (codes "verify") then image_form command.Verify rest else
    if bytes_eq word (codes "trial") then text_form Trial rest else
    if bytes_eq word (codes "churn") then text_form Churn rest else None

-- what these words ask for, where they have a form
abbrev pub asked_of : List (List ℕ) → Option Asked
asked_of [] = None
asked_of (word ∷ rest) = form_of word rest
