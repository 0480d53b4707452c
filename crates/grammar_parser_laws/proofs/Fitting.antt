-- Lexemes that stand at places.
use Rattle.std.proofs.Common.{◌≡◌, ℕ, List, [], ◌∷◌, ◌++◌, refl, sym, ap, ◌∙◌, subst, append_assoc, append-nil, true, false}
use Rattle.script_grammar.specs.declared.token.Kind.{Kind}
use Rattle.script_grammar.specs.declared.token.Kind.TheVariants as kind
use Rattle.script_grammar.specs.Lexeme.{Lexeme, Role, no_role}
use Rattle.script_grammar.specs.Kinds.{is_any_word}
use Rattle.script_grammar.specs.Pieces.{Piece, At, Gap, Pass, Slot, Ending, Is, Fits, may_omit, slot, mark_piece, word_piece, glued_mark, placed, closing_mark, number_piece, str_piece, text_piece, template_piece, name_piece, glued_name, any_word, role_piece, glue, from, ending_at, until}
use Rattle.grammar_parser_specs.specs.Parser.{head_of}
use Rattle.grammar_parser_specs.specs.Exprs.{last_end, named}
use Rattle.grammar_parser_laws.proofs.Friendly.{first_of, Friendly, friendly_omits, Starter}
use Rattle.grammar_parser_laws.proofs.Tests.{false_true}

pub first_append : (v e : List Lexeme) (n : Lexeme) → first_of (v ++ e) n ≡ first_of v (first_of e n)
first_append [] e n = refl
first_append (t ∷ v) e n = refl

pub head_first : (v us : List Lexeme) → head_of (v ++ us) ≡ first_of v (head_of us)
head_first [] us = refl
head_first (t ∷ v) us = refl

-- A friendly lexeme may stand after in place of another.
pub fits_friendly : (ps : List Piece) (w : List Lexeme) (x y : Lexeme) → Fits ps w x → Friendly y → Fits ps w y
fits_friendly [] [] x y h f = tt
fits_friendly [] (t ∷ w) x y h f = absurd h
fits_friendly (At s ∷ ps) [] x y h f = absurd h
fits_friendly (At s ∷ ps) (t ∷ w) x y h f = (h.0, fits_friendly ps w x y h.1 f)
fits_friendly (Gap e ∷ ps) [] x y h f = (friendly_omits e y f, fits_friendly ps [] x y h.1 f)
fits_friendly (Gap e ∷ ps) (t ∷ w) x y h f = (h.0, fits_friendly ps (t ∷ w) x y h.1 f)
fits_friendly (Pass ∷ ps) w x y h f = (h.0, h.1, h.2, h.3, fits_friendly ps h.1 x y h.4 f)

pub fits_append : (a b : List Piece) (u v : List Lexeme) (n : Lexeme) → Fits a u (first_of v n) → Fits b v n → Fits (a ++ b) (u ++ v) n
fits_append [] b [] v n h k = k
fits_append [] b (t ∷ u) v n h k = absurd h
fits_append (At s ∷ a) b [] v n h k = absurd h
fits_append (At s ∷ a) b (t ∷ u) v n h k = (h.0, fits_append a b u v n h.1 k)
fits_append (Gap e ∷ a) b [] [] n h k = (h.0, fits_append a b [] [] n h.1 k)
fits_append (Gap e ∷ a) b [] (t ∷ v) n h k = (h.0, fits_append a b [] (t ∷ v) n h.1 k)
fits_append (Gap e ∷ a) b (t ∷ u) v n h k = (h.0, fits_append a b (t ∷ u) v n h.1 k)
fits_append (Pass ∷ a) b u v n h k = (h.0, h.1 ++ v, ap (λ x. x ++ v) h.2 ∙ append_assoc h.0 h.1 v, h.3, fits_append a b h.1 v n h.4 k)

-- lexemes that stand at the places of two lists are those of the one and then those of the other
pub record Parted (a b : List Piece) (w : List Lexeme) (n : Lexeme) : Type 0 where
  pub front : List Lexeme
  pub back : List Lexeme
  pub split : w ≡ front ++ back
  pub first : Fits a front (first_of back n)
  pub second : Fits b back n

gap_fits : (e : Ending) (a : List Piece) (u v w : List Lexeme) (n : Lexeme) → w ≡ u ++ v → may_omit e (first_of w n) ≡ true → Fits a u (first_of v n) → Fits (Gap e ∷ a) u (first_of v n)
gap_fits e a [] v w n s h k = (ap (λ x. may_omit e (first_of x n)) (sym s) ∙ h, k)
gap_fits e a (t ∷ u) v w n s h k = (ap (λ x. may_omit e (first_of x n)) (sym s) ∙ h, k)

pub fits_part : (a b : List Piece) (w : List Lexeme) (n : Lexeme) → Fits (a ++ b) w n → Parted a b w n
fits_part [] b w n h = record { front = []; back = w; split = refl; first = tt; second = h }
fits_part (At s ∷ a) b [] n h = absurd h
fits_part (At s ∷ a) b (t ∷ w) n h =
    let p = fits_part a b w n h.1 in
    record { front = t ∷ p.front; back = p.back; split = ap (λ x. t ∷ x) p.split; first = (h.0, p.first); second = p.second }
fits_part (Gap e ∷ a) b [] n h =
    let p = fits_part a b [] n h.1 in
    record { front = p.front; back = p.back; split = p.split; first = gap_fits e a p.front p.back [] n p.split h.0 p.first; second = p.second }
fits_part (Gap e ∷ a) b (t ∷ w) n h =
    let p = fits_part a b (t ∷ w) n h.1 in
    record { front = p.front; back = p.back; split = p.split; first = gap_fits e a p.front p.back (t ∷ w) n p.split h.0 p.first; second = p.second }
fits_part (Pass ∷ a) b w n h =
    let p = fits_part a b h.1 n h.4 in
    record { front = h.0 ++ p.front; back = p.back; split = h.2 ∙ ap (λ x. h.0 ++ x) p.split ∙ sym (append_assoc h.0 p.front p.back); first = (h.0, p.front, refl, h.3, p.first); second = p.second }

-- leaves: a lexeme at a place of its kind

pub is_slot : (k : Kind) (d : ℕ) (t : Lexeme) → t.kind ≡ k → Is (slot k d) t
is_slot k d t e = record { kind = e; content = tt; starts = tt; ends = tt; line = λ l. absurd (false_true l) }

pub fits_kind : (k : Kind) (d : ℕ) (t : Lexeme) (n : Lexeme) → t.kind ≡ k → Fits (At (slot k d) ∷ []) (t ∷ []) n
fits_kind k d t n e = (is_slot k d t e, tt)

pub fits_placed : (k : Kind) (d : ℕ) (t : Lexeme) (n : Lexeme) → t.kind ≡ k → Fits (placed k t.start d ∷ []) (t ∷ []) n
fits_placed k d t n e = (record { kind = e; content = tt; starts = (refl, tt); ends = tt; line = λ l. absurd (false_true l) }, tt)

pub fits_closing : (m d : ℕ) (t : Lexeme) (n : Lexeme) → t.kind ≡ kind.Mark m → Fits (closing_mark m t.end d ∷ []) (t ∷ []) n
fits_closing m d t n e = (record { kind = e; content = tt; starts = tt; ends = (refl, tt); line = λ l. absurd (false_true l) }, tt)

pub fits_number : (d : ℕ) (t : Lexeme) (n : Lexeme) → t.kind ≡ kind.Number → Fits (number_piece t.start t.number d ∷ []) (t ∷ []) n
fits_number d t n e = (record { kind = e; content = refl; starts = (refl, tt); ends = tt; line = λ l. absurd (false_true l) }, tt)

pub fits_str : (d : ℕ) (t : Lexeme) (n : Lexeme) → t.kind ≡ kind.Str → Fits (str_piece t.start t.end t.text d ∷ []) (t ∷ []) n
fits_str d t n e = (record { kind = e; content = refl; starts = (refl, tt); ends = (refl, tt); line = λ l. absurd (false_true l) }, tt)

pub fits_text : (k : Kind) (d : ℕ) (t : Lexeme) (n : Lexeme) → t.kind ≡ k → Fits (text_piece k t.text t.start d ∷ []) (t ∷ []) n
fits_text k d t n e = (record { kind = e; content = refl; starts = (refl, tt); ends = tt; line = λ l. absurd (false_true l) }, tt)

pub fits_template : (k : Kind) (d : ℕ) (t : Lexeme) (n : Lexeme) → t.kind ≡ k → Fits (template_piece k t.text d ∷ []) (t ∷ []) n
fits_template k d t n e = (record { kind = e; content = refl; starts = tt; ends = tt; line = λ l. absurd (false_true l) }, tt)

pub fits_glued : (m d : ℕ) (t : Lexeme) (n : Lexeme) → t.kind ≡ kind.Mark m → t.after_line ≡ false → Fits (glued_mark m d ∷ []) (t ∷ []) n
fits_glued m d t n e l = (record { kind = e; content = tt; starts = tt; ends = tt; line = λ _. l }, tt)

pub fits_glued_name : (d : ℕ) (t : Lexeme) (n : Lexeme) → t.kind ≡ kind.Name → t.after_line ≡ false → Fits (glued_name (record { text = t.text; at = t.start }) d ∷ []) (t ∷ []) n
fits_glued_name d t n e l = (record { kind = e; content = refl; starts = (refl, tt); ends = tt; line = λ _. l }, tt)

pub fits_any_word : (d : ℕ) (t : Lexeme) (n : Lexeme) → is_any_word t.kind ≡ true → Fits (any_word (t.start ∷ []) t.text d ∷ []) (t ∷ []) n
fits_any_word d t n e = (record { kind = e; content = refl; starts = (refl, tt); ends = tt; line = λ l. absurd (false_true l) }, tt)

pub fits_some_word : (d : ℕ) (t : Lexeme) (n : Lexeme) → is_any_word t.kind ≡ true → Fits (any_word [] t.text d ∷ []) (t ∷ []) n
fits_some_word d t n e = (record { kind = e; content = refl; starts = tt; ends = tt; line = λ l. absurd (false_true l) }, tt)

pub fits_role : (r : Role) (d : ℕ) (t : Lexeme) (n : Lexeme) → t.kind ≡ kind.Name → t.role ≡ r → Fits (role_piece r d ∷ []) (t ∷ []) n
fits_role r d t n e h = (record { kind = e; content = h; starts = tt; ends = tt; line = λ l. absurd (false_true l) }, tt)

-- no line end stands before the first of these
pub fits_glue : (ps : List Piece) (t : Lexeme) (w : List Lexeme) (n : Lexeme) → t.after_line ≡ false → Fits ps (t ∷ w) n → Fits (glue ps) (t ∷ w) n
fits_glue [] t w n e h = absurd h
fits_glue (At s ∷ ps) t w n e h = (record { kind = h.0.kind; content = h.0.content; starts = h.0.starts; ends = h.0.ends; line = λ _. e }, h.1)
fits_glue (Gap g ∷ ps) t w n e h = h
fits_glue (Pass ∷ ps) t w n e h = h

-- the last of these lexemes, if there is one, ends at this offset
abbrev pub EndsBy : List Lexeme → ℕ → Type 0
EndsBy [] e = Unit {0}
EndsBy (t ∷ []) e = t.end ≡ e
EndsBy (t ∷ u ∷ w) e = EndsBy (u ∷ w) e

pub ends_by_last : (t : Lexeme) (w : List Lexeme) (m : ℕ) → EndsBy (t ∷ w) (last_end m (t ∷ w))
ends_by_last t [] m = refl
ends_by_last t (u ∷ w) m = ends_by_last u w t.end

pub ends_by : (w : List Lexeme) (m : ℕ) → EndsBy w (last_end m w)
ends_by [] m = tt
ends_by (t ∷ w) m = ends_by_last t w m

ends_rest : (t : Lexeme) (w : List Lexeme) (e : ℕ) → EndsBy (t ∷ w) e → EndsBy w e
ends_rest t [] e h = tt
ends_rest t (u ∷ w) e h = h

ends_suffix : (u v : List Lexeme) (e : ℕ) → EndsBy (u ++ v) e → EndsBy v e
ends_suffix [] v e h = h
ends_suffix (t ∷ u) v e h = ends_suffix u v e (ends_rest t (u ++ v) e h)

fits_ending : (s : Slot) (t : Lexeme) (w : List Lexeme) (n : Lexeme) (e : ℕ) → EndsBy (t ∷ w) e → Fits (At s ∷ []) (t ∷ w) n → Fits (ending_at e (At s) ∷ []) (t ∷ w) n
fits_ending s t [] n e h f = (record { kind = f.0.kind; content = f.0.content; starts = f.0.starts; ends = (h, f.0.ends); line = f.0.line }, tt)
fits_ending s t (u ∷ w) n e h f = absurd f.1

-- the last of these places ends at this offset
pub fits_until : (ps : List Piece) (w : List Lexeme) (n : Lexeme) (e : ℕ) → EndsBy w e → Fits ps w n → Fits (until e ps) w n
fits_until [] w n e h f = f
fits_until (At s ∷ []) [] n e h f = absurd f
fits_until (At s ∷ []) (t ∷ w) n e h f = fits_ending s t w n e h f
fits_until (Gap g ∷ []) w n e h f = f
fits_until (Pass ∷ []) w n e h f = f
fits_until (Pass ∷ p ∷ ps) w n e h f = (f.0, f.1, f.2, f.3, fits_until (p ∷ ps) f.1 n e (ends_suffix f.0 f.1 e (subst (λ x. EndsBy x e) f.2 h)) f.4)
fits_until (At s ∷ p ∷ ps) [] n e h f = absurd f
fits_until (At s ∷ p ∷ ps) (t ∷ w) n e h f = (f.0, fits_until (p ∷ ps) w n e (ends_rest t w e h) f.1)
fits_until (Gap g ∷ p ∷ ps) [] n e h f = (f.0, fits_until (p ∷ ps) [] n e h f.1)
fits_until (Gap g ∷ p ∷ ps) (t ∷ w) n e h f = (f.0, fits_until (p ∷ ps) (t ∷ w) n e h f.1)

-- the first of these places starts at this offset
pub fits_from : (ps : List Piece) (t : Lexeme) (w : List Lexeme) (n : Lexeme) (a : ℕ) → t.start ≡ a → Fits ps (t ∷ w) n → Fits (from a ps) (t ∷ w) n
fits_from [] t w n a e h = absurd h
fits_from (At s ∷ ps) t w n a e h = (record { kind = h.0.kind; content = h.0.content; starts = (e, h.0.starts); ends = h.0.ends; line = h.0.line }, h.1)
fits_from (Gap g ∷ ps) t w n a e h = h
fits_from (Pass ∷ ps) t w n a e h = h

-- lexemes that stand at these places whatever follows them
pub record FitsAll (ps : List Piece) (w : List Lexeme) : Type 0 where
  pub before : (n : Lexeme) → Fits ps w n

pub all_none : FitsAll [] []
all_none = record { before = λ n. tt }

pub all_append : {a b : List Piece} {u v : List Lexeme} → FitsAll a u → FitsAll b v → FitsAll (a ++ b) (u ++ v)
all_append {a = a} {b = b} {u = u} {v = v} h k = record { before = λ n. fits_append a b u v n (h.before (first_of v n)) (k.before n) }

pub all_mark : (i d : ℕ) (t : Lexeme) → t.kind ≡ kind.Mark i → FitsAll (mark_piece i d ∷ []) (t ∷ [])
all_mark i d t e = record { before = λ n. fits_kind (kind.Mark i) d t n e }

pub all_word : (i d : ℕ) (t : Lexeme) → t.kind ≡ kind.Word i → FitsAll (word_piece i d ∷ []) (t ∷ [])
all_word i d t e = record { before = λ n. fits_kind (kind.Word i) d t n e }

pub all_kind : (k : Kind) (d : ℕ) (t : Lexeme) → t.kind ≡ k → FitsAll (At (slot k d) ∷ []) (t ∷ [])
all_kind k d t e = record { before = λ n. fits_kind k d t n e }

pub all_placed : (k : Kind) (d : ℕ) (t : Lexeme) → t.kind ≡ k → FitsAll (placed k t.start d ∷ []) (t ∷ [])
all_placed k d t e = record { before = λ n. fits_placed k d t n e }

pub all_name : (d : ℕ) (t : Lexeme) → t.kind ≡ kind.Name → FitsAll (name_piece (named t) d ∷ []) (t ∷ [])
all_name d t e = record { before = λ n. fits_text kind.Name d t n e }

pub all_text : (k : Kind) (d : ℕ) (t : Lexeme) → t.kind ≡ k → FitsAll (text_piece k t.text t.start d ∷ []) (t ∷ [])
all_text k d t e = record { before = λ n. fits_text k d t n e }

pub all_template : (k : Kind) (d : ℕ) (t : Lexeme) → t.kind ≡ k → FitsAll (template_piece k t.text d ∷ []) (t ∷ [])
all_template k d t e = record { before = λ n. fits_template k d t n e }

pub all_closing : (i d : ℕ) (t : Lexeme) → t.kind ≡ kind.Mark i → FitsAll (closing_mark i t.end d ∷ []) (t ∷ [])
all_closing i d t e = record { before = λ n. fits_closing i d t n e }

pub all_number : (d : ℕ) (t : Lexeme) → t.kind ≡ kind.Number → FitsAll (number_piece t.start t.number d ∷ []) (t ∷ [])
all_number d t e = record { before = λ n. fits_number d t n e }

pub all_str : (d : ℕ) (t : Lexeme) → t.kind ≡ kind.Str → FitsAll (str_piece t.start t.end t.text d ∷ []) (t ∷ [])
all_str d t e = record { before = λ n. fits_str d t n e }

pub all_glued : (i d : ℕ) (t : Lexeme) → t.kind ≡ kind.Mark i → t.after_line ≡ false → FitsAll (glued_mark i d ∷ []) (t ∷ [])
all_glued i d t e l = record { before = λ n. fits_glued i d t n e l }

pub all_any_word : (d : ℕ) (t : Lexeme) → is_any_word t.kind ≡ true → FitsAll (any_word (t.start ∷ []) t.text d ∷ []) (t ∷ [])
all_any_word d t e = record { before = λ n. fits_any_word d t n e }

pub all_some_word : (d : ℕ) (t : Lexeme) → is_any_word t.kind ≡ true → FitsAll (any_word [] t.text d ∷ []) (t ∷ [])
all_some_word d t e = record { before = λ n. fits_some_word d t n e }

pub all_role : (r : Role) (d : ℕ) (t : Lexeme) → t.kind ≡ kind.Name → t.role ≡ r → FitsAll (role_piece r d ∷ []) (t ∷ [])
all_role r d t e h = record { before = λ n. fits_role r d t n e h }

pub all_none_left : {ps : List Piece} {u v : List Lexeme} → FitsAll ps u → v ≡ [] → FitsAll ps (u ++ v)
all_none_left {ps = ps} {u = u} h e = subst (λ x. FitsAll ps (u ++ x)) (sym e) (subst (λ x. FitsAll ps x) (sym (append-nil u)) h)

pub all_same : {ps qs : List Piece} {u : List Lexeme} → ps ≡ qs → FitsAll ps u → FitsAll qs u
all_same {u = u} e h = subst (λ x. FitsAll x u) e h

-- a lexeme of a kind, and the number 0 on a line of its own
abbrev pub lexeme_of_kind : Kind → Lexeme
lexeme_of_kind k = record { kind = k; text = []; number = 0; role = no_role; start = 0; end = 0; after_line = false }

abbrev pub zero_lexeme : Lexeme
zero_lexeme = record { kind = kind.Number; text = []; number = 0; role = no_role; start = 0; end = 0; after_line = true }

pub zero_starts : Starter zero_lexeme
zero_starts = record { friendly = record { omits = refl }; number = refl }
