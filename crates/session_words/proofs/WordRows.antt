-- Words of commands and what they ask for, computed.
use Rattle.std.proofs.Common.{◌≡◌, refl, ℕ, List, [], ◌∷◌, Some, None}
use Rattle.std.specs.Prelude.{codes}
use Rattle.session_words.specs.declared.options.Command.TheVariants as command
use Rattle.session_words.specs.declared.options.Order.TheVariants as order
use Rattle.session_words.specs.Asked.{All, Nothing, Numbers, Files, Trial, Churn}
use Rattle.session_words.specs.Words.{asked_of}

abbrev a : List ℕ
a = codes "a.js"

plain : asked_of (codes "code" ∷ a ∷ []) ≡ Some (Files (record { command = command.Code; want = All; workers = 4; order = order.First; files = a ∷ [] }))
plain = refl

every_option : asked_of (codes "scopes" ∷ codes "--order" ∷ codes "large" ∷ codes "--want" ∷ codes "2,1,2" ∷ codes "--workers" ∷ codes "16" ∷ a ∷ codes "b" ∷ [])
    ≡ Some (Files (record { command = command.Scopes; want = Numbers (2 ∷ 1 ∷ 2 ∷ []); workers = 16; order = order.Large; files = a ∷ codes "b" ∷ [] }))
every_option = refl

checked : asked_of (codes "check" ∷ codes "--want" ∷ codes "none" ∷ a ∷ []) ≡ Some (Files (record { command = command.Check; want = Nothing; workers = 4; order = order.First; files = a ∷ [] }))
checked = refl

saved : asked_of (codes "save" ∷ codes "--want" ∷ codes "all" ∷ a ∷ []) ≡ Some (Files (record { command = command.Save; want = All; workers = 4; order = order.First; files = a ∷ [] }))
saved = refl

loaded : asked_of (codes "load" ∷ a ∷ []) ≡ Some (Files (record { command = command.Load; want = All; workers = 4; order = order.First; files = a ∷ [] }))
loaded = refl

tried : asked_of (codes "trial" ∷ codes "0" ∷ codes "100000" ∷ []) ≡ Some (Trial 0 100000 4)
tried = refl

churned : asked_of (codes "churn" ∷ codes "4294967295" ∷ codes "1" ∷ codes "--workers" ∷ codes "1" ∷ []) ≡ Some (Churn 4294967295 1 1)
churned = refl

-- ---- words that ask for nothing

no_words : asked_of [] ≡ None
no_words = refl

no_name : asked_of (codes "code" ∷ []) ≡ None
no_name = refl

want_zero : asked_of (codes "code" ∷ codes "--want" ∷ codes "0" ∷ a ∷ []) ≡ None
want_zero = refl

want_empty_piece : asked_of (codes "code" ∷ codes "--want" ∷ codes "1,,2" ∷ a ∷ []) ≡ None
want_empty_piece = refl

want_leading_zero : asked_of (codes "code" ∷ codes "--want" ∷ codes "01" ∷ a ∷ []) ≡ None
want_leading_zero = refl

many_workers : asked_of (codes "code" ∷ codes "--workers" ∷ codes "17" ∷ a ∷ []) ≡ None
many_workers = refl

want_twice : asked_of (codes "code" ∷ codes "--want" ∷ codes "all" ∷ codes "--want" ∷ codes "all" ∷ a ∷ []) ≡ None
want_twice = refl

dashed_name : asked_of (codes "code" ∷ a ∷ codes "-x" ∷ []) ≡ None
dashed_name = refl

option_behind_name : asked_of (codes "code" ∷ a ∷ codes "--want" ∷ codes "all" ∷ []) ≡ None
option_behind_name = refl

option_without_value : asked_of (codes "code" ∷ codes "--want" ∷ []) ≡ None
option_without_value = refl

empty_name : asked_of (codes "code" ∷ [] ∷ []) ≡ None
empty_name = refl

no_size : asked_of (codes "trial" ∷ codes "1" ∷ codes "0" ∷ []) ≡ None
no_size = refl

large_size : asked_of (codes "churn" ∷ codes "1" ∷ codes "100001" ∷ []) ≡ None
large_size = refl

large_number : asked_of (codes "trial" ∷ codes "4294967296" ∷ codes "1" ∷ []) ≡ None
large_number = refl

two_saved : asked_of (codes "save" ∷ a ∷ a ∷ []) ≡ None
two_saved = refl

load_with_options : asked_of (codes "load" ∷ codes "--want" ∷ codes "all" ∷ a ∷ []) ≡ None
load_with_options = refl

another : asked_of (codes "run" ∷ a ∷ []) ≡ None
another = refl
