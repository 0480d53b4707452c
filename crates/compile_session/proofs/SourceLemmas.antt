-- A file of source text is one thing, and one text is written for it.
use Rattle.std.proofs.Common.{Bool, Contains, List, None, Option, Some, [], ap, arith, inl, inr, length, map, subst, sym, true, ℕ, ◌++◌, ◌+◌, ◌<◌, ◌∙◌, ◌≡◌, ◌≤◌}
use Rattle.std.proofs.lemmas.List.Elements.{All-contains}
use Rattle.bytecode_buf.specs.Command.{Command}
use Rattle.compile_first_pass.proofs.FileLemmas.{text_of}
use Rattle.compile_session.proofs.FaultLemmas.{one_kind, one_offset, text_no_fault}
use Rattle.compile_session.specs.Answers.{IsAnswerFor, Settles}
use Rattle.compile_session.specs.Faulty.{IsFaulty}
use Rattle.compile_session.specs.Work.{is_source}
use Rattle.compile_session.specs.declared.answer.FileAnswer.{FileAnswer}
use Rattle.compile_specs.proofs.Counts.{one_count}
use Rattle.compile_specs.proofs.Sites.{one_functions}
use Rattle.compile_specs.specs.Counted.{HasFunctions}
use Rattle.compile_specs.specs.Eager.{IsEager, Site, compiled_at}
use Rattle.compile_specs.specs.Shown.{IsShown, shown}
use Rattle.parse_script.proofs.TextLemmas.{one_text}
use Rattle.parse_track.specs.Notes.{closed_names, early_error}
use Rattle.parse_track.specs.declared.region.Early.{Early}
use Rattle.script_grammar.specs.Fault.{Refusal as Fault, TooDeep, Unexpected}
use Rattle.script_grammar.specs.Tree.{Stmts}
use Rattle.script_image.specs.ScriptLines.{code_text, listed_merged, scope_text}
use Rattle.script_scanner.specs.Lexemes.{lexemes}
use Rattle.session_image_specs.specs.Images.{IsImage}
use Rattle.session_specs.specs.Answer.{FromSource, IsOf, IsOfSource, IsWritten, file_line, most_bytes, to_show}
use Rattle.session_specs.specs.Refusals.{refusal_line}
use Rattle.session_specs.specs.Sources.{ErrorAt, FaultAt, HasAll, IsLeastOf, IsRead, IsRefused, IsScript, IsSource, IsValid, LacksFunction, Source, missing}
use Rattle.session_words.specs.Asked.{Job, Wanted}
use Rattle.session_words.specs.declared.options.Command.{Command as Word}
use Rattle.stencil_data.specs.Named.{NamedFunction, NamedMerged}
use Rattle.stencil_xdr_laws.proofs.OneImage.{one_script_one_image}
use Rattle.session_specs.specs.Refusals as line
use Rattle.compile_specs.specs.Shown as show
use Rattle.session_words.specs.declared.options.Command.TheVariants as word

-- ---- one tree

one_read : (file : List ℕ) (a b : Stmts) → IsRead file a → IsRead file b → a ≡ b
one_read file a b h k = one_text (lexemes file) a b (text_of file a h) (text_of file b k)

read_no_fault : (file : List ℕ) (items : Stmts) (why : Fault) (offset : ℕ) → IsRead file items → FaultAt file why offset → ⊥
read_no_fault file items why offset h k = text_no_fault (lexemes file) items why offset (text_of file items h) (record { token = k.token; first = k.first; place = k.place })

-- ---- one thing

none_some : (e : Early) → ◌≡◌ {A = Option Early} None (Some e) → ⊥
none_some e h = cc

some_same : (a b : Early) → ◌≡◌ {A = Option Early} (Some a) (Some b) → a ≡ b
some_same a b h = cc

unlike : ◌≡◌ {A = Fault} Unexpected TooDeep → ⊥
unlike e = cc

valid_no_early : (file : List ℕ) (items : Stmts) (count : ℕ) (e : Early) → IsValid file items count → ErrorAt file e → ⊥
valid_no_early file items count e h k = none_some e (sym h.faultless ∙ ap early_error (one_read file items k.items h.read k.read) ∙ k.first)

one_early : (file : List ℕ) (a b : Early) → ErrorAt file a → ErrorAt file b → a ≡ b
one_early file a b h k = some_same a b (sym h.first ∙ ap early_error (one_read file h.items k.items h.read k.read) ∙ k.first)

one_fault : (file : List ℕ) (a b : Fault) (x y : ℕ) → FaultAt file a x → FaultAt file b y → (a ≡ b) × (x ≡ y)
one_fault file a b x y h k =
    let p : IsFaulty (lexemes file) a x = record { token = h.token; first = h.first; place = h.place } in
    let q : IsFaulty (lexemes file) b y = record { token = k.token; first = k.first; place = k.place } in
    (one_kind (lexemes file) a b x y p q, one_offset (lexemes file) a b x y p q)

-- the same tree and the same count
pub same_valid : (file : List ℕ) (a b : Stmts) (m n : ℕ) → IsValid file a m → IsValid file b n → (a ≡ b) × (m ≡ n)
same_valid file a b m n h k =
    let e = one_read file a b h.read k.read in
    (e, one_count b m n (subst (λ (x : Stmts). HasFunctions x m) e h.functions) k.functions)

none_contains : {A : Type 0} (x : A) → Contains [] x → ⊥
none_contains x h = let l = h.1 in omega (arith, l)

all_no_lack : (file : List ℕ) (want : Wanted) (items : Stmts) (count number : ℕ) → HasAll file want items count → LacksFunction file want number → ⊥
all_no_lack file want items count number h k =
    let e = (same_valid file items k.items count k.count h.valid k.valid).1 in
    none_contains number (subst (λ (ns : List ℕ). Contains ns number) (ap (λ (n : ℕ). missing n want) (sym e) ∙ h.present) k.least.is_one)

one_lack : (file : List ℕ) (want : Wanted) (a b : ℕ) → LacksFunction file want a → LacksFunction file want b → a ≡ b
one_lack file want a b h k =
    let e = (same_valid file h.items k.items h.count k.count h.valid k.valid).1 in
    let least : IsLeastOf (missing k.count want) a = subst (λ (n : ℕ). IsLeastOf (missing n want) a) e h.least in
    let below = All-contains (λ n. a ≤ n) (missing k.count want) b least.least k.least.is_one in
    let above = All-contains (λ n. b ≤ n) (missing k.count want) a k.least.least least.is_one in
    omega (arith, below, above)

-- ---- a file is one of these alone

pub sources_equal : (want : Wanted) (file : List ℕ) (one two : Source) → IsSource want file one → IsSource want file two → one ≡ two
sources_equal want file (IsScript a_items a_count) (IsScript b_items b_count) h k = let e = same_valid file a_items b_items a_count b_count h.valid k.valid in ap (λ (x : Stmts). IsScript x a_count) e.0 ∙ ap (λ (n : ℕ). IsScript b_items n) e.1
sources_equal want file (IsScript a_items a_count) (IsRefused (line.BadUtf8 b_offset)) h k = absurd (k.utf8 h.valid.read.utf8)
sources_equal want file (IsScript a_items a_count) (IsRefused (line.Unexpected b_offset)) h k = absurd (read_no_fault file a_items Unexpected b_offset h.valid.read k)
sources_equal want file (IsScript a_items a_count) (IsRefused (line.TooDeep b_offset)) h k = absurd (read_no_fault file a_items TooDeep b_offset h.valid.read k)
sources_equal want file (IsScript a_items a_count) (IsRefused (line.Early b_offset b_rule)) h k = absurd (valid_no_early file a_items a_count _ h.valid k)
sources_equal want file (IsScript a_items a_count) (IsRefused (line.NoFunction b_number)) h k = absurd (all_no_lack file want a_items a_count b_number h k)
sources_equal want file (IsRefused (line.BadUtf8 a_offset)) (IsScript b_items b_count) h k = absurd (h.utf8 k.valid.read.utf8)
sources_equal want file (IsRefused (line.BadUtf8 a_offset)) (IsRefused (line.BadUtf8 b_offset)) h k = ap (λ (n : ℕ). IsRefused (line.BadUtf8 n)) (h.front ∙ sym k.front)
sources_equal want file (IsRefused (line.BadUtf8 a_offset)) (IsRefused (line.Unexpected b_offset)) h k = absurd (h.utf8 k.utf8)
sources_equal want file (IsRefused (line.BadUtf8 a_offset)) (IsRefused (line.TooDeep b_offset)) h k = absurd (h.utf8 k.utf8)
sources_equal want file (IsRefused (line.BadUtf8 a_offset)) (IsRefused (line.Early b_offset b_rule)) h k = absurd (h.utf8 k.read.utf8)
sources_equal want file (IsRefused (line.BadUtf8 a_offset)) (IsRefused (line.NoFunction b_number)) h k = absurd (h.utf8 k.valid.read.utf8)
sources_equal want file (IsRefused (line.Unexpected a_offset)) (IsScript b_items b_count) h k = absurd (read_no_fault file b_items Unexpected a_offset k.valid.read h)
sources_equal want file (IsRefused (line.Unexpected a_offset)) (IsRefused (line.BadUtf8 b_offset)) h k = absurd (k.utf8 h.utf8)
sources_equal want file (IsRefused (line.Unexpected a_offset)) (IsRefused (line.Unexpected b_offset)) h k = ap (λ (n : ℕ). IsRefused (line.Unexpected n)) (one_fault file Unexpected Unexpected a_offset b_offset h k).1
sources_equal want file (IsRefused (line.Unexpected a_offset)) (IsRefused (line.TooDeep b_offset)) h k = absurd (unlike (one_fault file Unexpected TooDeep a_offset b_offset h k).0)
sources_equal want file (IsRefused (line.Unexpected a_offset)) (IsRefused (line.Early b_offset b_rule)) h k = absurd (read_no_fault file k.items Unexpected a_offset k.read h)
sources_equal want file (IsRefused (line.Unexpected a_offset)) (IsRefused (line.NoFunction b_number)) h k = absurd (read_no_fault file k.items Unexpected a_offset k.valid.read h)
sources_equal want file (IsRefused (line.TooDeep a_offset)) (IsScript b_items b_count) h k = absurd (read_no_fault file b_items TooDeep a_offset k.valid.read h)
sources_equal want file (IsRefused (line.TooDeep a_offset)) (IsRefused (line.BadUtf8 b_offset)) h k = absurd (k.utf8 h.utf8)
sources_equal want file (IsRefused (line.TooDeep a_offset)) (IsRefused (line.Unexpected b_offset)) h k = absurd (unlike (one_fault file Unexpected TooDeep b_offset a_offset k h).0)
sources_equal want file (IsRefused (line.TooDeep a_offset)) (IsRefused (line.TooDeep b_offset)) h k = ap (λ (n : ℕ). IsRefused (line.TooDeep n)) (one_fault file TooDeep TooDeep a_offset b_offset h k).1
sources_equal want file (IsRefused (line.TooDeep a_offset)) (IsRefused (line.Early b_offset b_rule)) h k = absurd (read_no_fault file k.items TooDeep a_offset k.read h)
sources_equal want file (IsRefused (line.TooDeep a_offset)) (IsRefused (line.NoFunction b_number)) h k = absurd (read_no_fault file k.items TooDeep a_offset k.valid.read h)
sources_equal want file (IsRefused (line.Early a_offset a_rule)) (IsScript b_items b_count) h k = absurd (valid_no_early file b_items b_count _ k.valid h)
sources_equal want file (IsRefused (line.Early a_offset a_rule)) (IsRefused (line.BadUtf8 b_offset)) h k = absurd (k.utf8 h.read.utf8)
sources_equal want file (IsRefused (line.Early a_offset a_rule)) (IsRefused (line.Unexpected b_offset)) h k = absurd (read_no_fault file h.items Unexpected b_offset h.read k)
sources_equal want file (IsRefused (line.Early a_offset a_rule)) (IsRefused (line.TooDeep b_offset)) h k = absurd (read_no_fault file h.items TooDeep b_offset h.read k)
sources_equal want file (IsRefused (line.Early a_offset a_rule)) (IsRefused (line.Early b_offset b_rule)) h k = ap (λ (e : Early). IsRefused (line.Early e.offset e.rule)) (one_early file (record { offset = a_offset; rule = a_rule }) (record { offset = b_offset; rule = b_rule }) h k)
sources_equal want file (IsRefused (line.Early a_offset a_rule)) (IsRefused (line.NoFunction b_number)) h k = absurd (valid_no_early file k.items k.count _ k.valid h)
sources_equal want file (IsRefused (line.NoFunction a_number)) (IsScript b_items b_count) h k = absurd (all_no_lack file want b_items b_count a_number k h)
sources_equal want file (IsRefused (line.NoFunction a_number)) (IsRefused (line.BadUtf8 b_offset)) h k = absurd (k.utf8 h.valid.read.utf8)
sources_equal want file (IsRefused (line.NoFunction a_number)) (IsRefused (line.Unexpected b_offset)) h k = absurd (read_no_fault file h.items Unexpected b_offset h.valid.read k)
sources_equal want file (IsRefused (line.NoFunction a_number)) (IsRefused (line.TooDeep b_offset)) h k = absurd (read_no_fault file h.items TooDeep b_offset h.valid.read k)
sources_equal want file (IsRefused (line.NoFunction a_number)) (IsRefused (line.Early b_offset b_rule)) h k = absurd (valid_no_early file h.items h.count _ h.valid k)
sources_equal want file (IsRefused (line.NoFunction a_number)) (IsRefused (line.NoFunction b_number)) h k = ap (λ (n : ℕ). IsRefused (line.NoFunction n)) (one_lack file want a_number b_number h k)
sources_equal want file (IsScript a_items a_count) (IsRefused line.TooLong) h k = absurd k
sources_equal want file (IsScript a_items a_count) (IsRefused line.NoImage) h k = absurd k
sources_equal want file (IsRefused (line.BadUtf8 a_offset)) (IsRefused line.TooLong) h k = absurd k
sources_equal want file (IsRefused (line.BadUtf8 a_offset)) (IsRefused line.NoImage) h k = absurd k
sources_equal want file (IsRefused (line.Unexpected a_offset)) (IsRefused line.TooLong) h k = absurd k
sources_equal want file (IsRefused (line.Unexpected a_offset)) (IsRefused line.NoImage) h k = absurd k
sources_equal want file (IsRefused (line.TooDeep a_offset)) (IsRefused line.TooLong) h k = absurd k
sources_equal want file (IsRefused (line.TooDeep a_offset)) (IsRefused line.NoImage) h k = absurd k
sources_equal want file (IsRefused (line.Early a_offset a_rule)) (IsRefused line.TooLong) h k = absurd k
sources_equal want file (IsRefused (line.Early a_offset a_rule)) (IsRefused line.NoImage) h k = absurd k
sources_equal want file (IsRefused (line.NoFunction a_number)) (IsRefused line.TooLong) h k = absurd k
sources_equal want file (IsRefused (line.NoFunction a_number)) (IsRefused line.NoImage) h k = absurd k
sources_equal want file (IsRefused line.TooLong) two h k = absurd h
sources_equal want file (IsRefused line.NoImage) two h k = absurd h

-- ---- one text

pub one_shown : (want : show.Wanted) (items : Stmts) (end : ℕ) (a b : NamedMerged (List Command)) → IsShown want items end a → IsShown want items end b → a ≡ b
one_shown want items end a b h k =
    let e : IsEager items end h.0 h.1 = h.2 in
    let f : IsEager items end k.0 k.1 = k.2 in
    let same : h.1 ≡ k.1 = e.each ∙ ap (map (λ (s : Site). (compiled_at s).part)) (one_functions items end e.all f.all e.are f.are) ∙ sym f.each in
    h.3 ∙ ap (λ (t : NamedFunction (List Command)). shown want (closed_names items) t h.1) (e.script ∙ sym f.script)
    ∙ ap (λ (fs : List (NamedFunction (List Command))). shown want (closed_names items) k.0 fs) same ∙ sym k.3

one_written : (command : Word) (want : Wanted) (name : List ℕ) (size : ℕ) (items : Stmts) (count : ℕ) (x y : List ℕ) → is_source command ≡ true → IsWritten command want name size items count x → IsWritten command want name size items count y → x ≡ y
one_written word.Code want name size items count x y built h k =
    h.2 ∙ ap (λ (m : NamedMerged (List Command)). file_line name ++ code_text (listed_merged m)) (one_shown (to_show want) items size h.0 k.0 h.1 k.1) ∙ sym k.2
one_written word.Scopes want name size items count x y built h k =
    h.2 ∙ ap (λ (m : NamedMerged (List Command)). file_line name ++ scope_text (listed_merged m)) (one_shown (to_show want) items size h.0 k.0 h.1 k.1) ∙ sym k.2
one_written word.Check want name size items count x y built h k = h ∙ sym k
one_written word.Save want name size items count x y built h k =
    one_script_one_image k.0 x y (subst (λ (m : NamedMerged (List Command)). IsImage m x) (one_shown (to_show want) items size h.0 k.0 h.1 k.1) h.2) k.2
one_written word.Load want name size items count x y built h k = absurd h
one_written word.Verify want name size items count x y built h k = absurd h

one_of_source : (command : Word) (want : Wanted) (name file : List ℕ) (source : Source) (x y : List ℕ) (r s : Bool) → is_source command ≡ true → IsOfSource command want name file source x r → IsOfSource command want name file source y s → (x ≡ y) × (r ≡ s)
one_of_source command want name file (IsScript items count) x y r s built h k = (one_written command want name (length file) items count x y built h.0 k.0, h.1 ∙ sym k.1)
one_of_source command want name file (IsRefused why) x y r s built h k = (h.0 ∙ sym k.0, h.1 ∙ sym k.1)

from_source : (command : Word) (want : Wanted) (name file : List ℕ) (x : List ℕ) (r : Bool) → is_source command ≡ true → IsOf command want name file x r → FromSource command want name file x r
from_source word.Code want name file x r built h = h
from_source word.Scopes want name file x r built h = h
from_source word.Check want name file x r built h = h
from_source word.Save want name file x r built h = h
from_source word.Load want name file x r built h = absurd (let e = built in cc)
from_source word.Verify want name file x r built h = absurd (let e = built in cc)

to_source : (command : Word) (want : Wanted) (name file : List ℕ) (x : List ℕ) (r : Bool) → is_source command ≡ true → FromSource command want name file x r → IsOf command want name file x r
to_source word.Code want name file x r built h = h
to_source word.Scopes want name file x r built h = h
to_source word.Check want name file x r built h = h
to_source word.Save want name file x r built h = h
to_source word.Load want name file x r built h = absurd (let e = built in cc)
to_source word.Verify want name file x r built h = absurd (let e = built in cc)

-- the answer for a file that is too long
pub settles_long : (job : Job) (before : ℕ) (name file text : List ℕ) (refused : Bool) → most_bytes < before + length file → text ≡ refusal_line name line.TooLong → refused ≡ true → Settles job before name file text refused
settles_long job before name file text refused long printed is = record {
  is = inl (long, (printed, is));
  only = λ other r o. elim o [
    | inl l ↦ (l.1.0 ∙ sym printed, l.1.1 ∙ sym is)
    | inr s ↦ absurd (let p = s.0 in omega (arith, p, long))
  ];
}

-- the answer for a file of this source
pub answers_source : (command : Word) (want : Wanted) (name file : List ℕ) (answer : FileAnswer) (source : Source) → is_source command ≡ true → IsSource want file source
    → IsOfSource command want name file source answer.text answer.refused → IsAnswerFor command want name file answer
answers_source command want name file answer source built is of = record {
  is = to_source command want name file answer.text answer.refused built (source, is, of);
  only = λ other r o.
      let f = from_source command want name file other r built o in
      let e = sources_equal want file f.0 source f.1 is in
      one_of_source command want name file source other answer.text r answer.refused built (subst (λ (x : Source). IsOfSource command want name file x other r) e f.2) of;
}

-- the answer for a file that is not too long
pub settles_within : (job : Job) (before : ℕ) (name file : List ℕ) (answer : FileAnswer) → before + length file ≤ most_bytes → IsAnswerFor job.command job.want name file answer → Settles job before name file answer.text answer.refused
settles_within job before name file answer short a = record {
  is = inr (short, a.is);
  only = λ other r o. elim o [
    | inl l ↦ absurd (let p = l.0 in omega (arith, p, short))
    | inr s ↦ a.only other r s.1
  ];
}
