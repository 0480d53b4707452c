-- The lines of JSON that are no listing of a script. The names of members are this project's own choice.
use Rattle.std.specs.Prelude.{◌≡◌, ℕ, List, [], true, false, Option, Some, None, ◌⊎◌, codes, string_bytes}
use Rattle.serde_json.specs.Data.{Data, Members, null, boolean, string, object, no_members, put}
use Rattle.serde_json.specs.View.{view}
use Rattle.holzikra_json.specs.Lines.{IsLine, file_members, whole, whole_or_null}
use Rattle.holzikra_words.specs.declared.check.Format.{Format}
use Rattle.holzikra_words.specs.declared.check.Format.TheVariants as format
use Rattle.holzikra_words.specs.declared.verify.VerifyFormat.{VerifyFormat}
use Rattle.holzikra_words.specs.declared.verify.VerifyFormat.TheVariants as of
use Rattle.holzikra_session.specs.declared.json.Told.{Told}
use Rattle.holzikra_session.specs.declared.verdict.Reason.{Reason}
use Rattle.holzikra_session.specs.declared.verdict.Reason.TheVariants as reason
use Rattle.holzikra_session.specs.declared.verdict.Spot.{Spot}
use Rattle.holzikra_session.specs.declared.verdict.Verified.{Verified}
use Rattle.holzikra_session.specs.declared.verdict.Verified.TheVariants as verified

-- a script without errors
abbrev pub checked_members : (name : List ℕ) → (bytes functions : ℕ) → Members
checked_members name bytes functions = put (codes "functions") (whole functions) (put (codes "bytes") (whole bytes) (file_members name (codes "ok")))

abbrev pub IsCheckedLine : (name : List ℕ) → (bytes functions : ℕ) → List ℕ → Type 0
IsCheckedLine name bytes functions line = IsLine (object (checked_members name bytes functions)) line

-- the line of a file that cannot be read
abbrev pub IsUnreadableLine : (name fault line : List ℕ) → Type 0
IsUnreadableLine name fault line = IsLine (object (put (codes "fault") (string fault) (file_members name (codes "unreadable")))) line

-- what bytes are that are taken as an image
abbrev pub image_members : List ℕ → Verified → Members
image_members name (verified.Sound functions depth) =
    put (codes "sound") (boolean true) (put (codes "functions") (whole functions) (put (codes "depth") (whole depth) (file_members name (codes "image"))))
image_members name (verified.Unsound script) =
    put (codes "script") (whole script) (put (codes "sound") (boolean false) (file_members name (codes "image")))
image_members name verified.NoImage = file_members name (codes "no_image")

abbrev pub IsImageLine : List ℕ → Verified → List ℕ → Type 0
IsImageLine name found line = IsLine (object (image_members name found)) line

-- the same where the line is JSON; of that for a person nothing is said
abbrev pub IsVerdictLine : VerifyFormat → List ℕ → Verified → List ℕ → Type 0
IsVerdictLine of.Json name found line = IsImageLine name found line
IsVerdictLine of.Human name found line = Unit {0}

-- where a reason stands, its word, and the number of its rule
abbrev pub spot_of : Reason → Option Spot
spot_of reason.TooLong = None
spot_of (reason.BadUtf8 spot) = Some spot
spot_of (reason.Unexpected spot) = Some spot
spot_of (reason.TooDeep spot) = Some spot
spot_of (reason.Early spot rule) = Some spot

abbrev pub word_of : Reason → List ℕ
word_of reason.TooLong = codes "too_long"
word_of (reason.BadUtf8 spot) = codes "not_utf8"
word_of (reason.Unexpected spot) = codes "unexpected"
word_of (reason.TooDeep spot) = codes "too_deep"
word_of (reason.Early spot rule) = codes "early"

abbrev pub rule_of : Reason → Option ℕ
rule_of reason.TooLong = None
rule_of (reason.BadUtf8 spot) = None
rule_of (reason.Unexpected spot) = None
rule_of (reason.TooDeep spot) = None
rule_of (reason.Early spot rule) = Some rule

-- the column, the line and the offset of a place, or null
abbrev pub place_members : Option Spot → Members → Members
place_members None ms = put (codes "offset") null (put (codes "line") null (put (codes "column") null ms))
place_members (Some s) ms =
    put (codes "offset") (whole s.offset) (put (codes "line") (whole s.place.line) (put (codes "column") (whole s.place.column) ms))

-- the value of a refusal: its place, its word and its rule are those of the reason
abbrev pub refusal_data : Reason → Told → Data
refusal_data why told =
    object (put (codes "supported") (boolean told.supported) (put (codes "rule") (whole_or_null (rule_of why)) (put (codes "reason") (string (word_of why))
    (put (codes "notes") (view told.notes) (put (codes "message") (string (string_bytes told.message)) (put (codes "code") (string told.code.now)
    (put (codes "clauses") (view told.clauses) (put (codes "name") (view told.name) (place_members (spot_of why) no_members)))))))))

abbrev pub refused_members : (name : List ℕ) → (bytes : ℕ) → Data → Members
refused_members name bytes refusal =
    put (codes "refusal") refusal (put (codes "functions") null (put (codes "bytes") (whole bytes) (file_members name (codes "refused"))))

-- the line of a file of so many bytes that is refused for this reason, whatever else is told of it
pub record IsRefusalLine (name : List ℕ) (bytes : ℕ) (why : Reason) (line : List ℕ) : Type 0 where
  pub told : Told
  pub is : IsLine (object (refused_members name bytes (refusal_data why told))) line

-- the same where the lines are JSON; of the others nothing is said
abbrev pub IsShownAs : Format → List ℕ → ℕ → Reason → List ℕ → Type 0
IsShownAs format.Json name bytes why lines = IsRefusalLine name bytes why lines
IsShownAs format.Human name bytes why lines = Unit {0}
IsShownAs format.Github name bytes why lines = Unit {0}
IsShownAs format.Sarif name bytes why lines = Unit {0}

-- or none, where it is not shown
abbrev pub MayBeShownAs : Format → List ℕ → ℕ → Reason → List ℕ → Type 0
MayBeShownAs chosen name bytes why lines = (lines ≡ []) ⊎ IsShownAs chosen name bytes why lines
