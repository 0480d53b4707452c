-- Reading a list of places: wherever lexemes stand at them, in front of one that may follow, a parser reads this value, or
-- finds the first of them that is too deep. Combined from the parts.
use Rattle.std.proofs.Common.{◌≡◌, ℕ, ◌≤◌, ◌<◌, List, [], ◌∷◌, ◌++◌, length, refl, sym, ap, ◌∙◌, subst, arith, true}
use Rattle.script_grammar.specs.declared.token.Kind.{Kind}
use Rattle.script_grammar.specs.declared.token.Kind.TheVariants as kind
use Rattle.script_grammar.specs.Lexeme.{Lexeme}
use Rattle.script_grammar.specs.Pieces.{Piece, At, Gap, Slot, Is, Ending, may_omit, mark_piece, word_piece}
use Rattle.script_grammar.specs.Kinds.{is_mark, is_word}
use Rattle.grammar_parser_specs.specs.Parser.{Read, Deep, Parser, head_of, ret, bad, bind, step, when}
use Rattle.grammar_parser_specs.specs.Exprs.{expect}
use Rattle.grammar_parser_specs.specs.Stmts.{expect_word}
use Rattle.grammar_parser_laws.proofs.Friendly.{first_of}
use Rattle.grammar_parser_laws.proofs.Fitting.{head_first}
use Rattle.grammar_parser_laws.proofs.Stands.{Marked, lexemes, Stands, stands_split}
use Rattle.grammar_parser_laws.proofs.Complete.{Parses, bare, cut, parses_ret, parses_parts, parses_map, shallow}

-- a lexeme with another kind
abbrev pub of_kind : Kind → Lexeme → Lexeme
of_kind k t = record { kind = k; text = t.text; number = t.number; role = t.role; start = t.start; end = t.end; after_line = t.after_line }

pub at_kind : (P : Lexeme → Type 0) (k : Kind) (t : Lexeme) → t.kind ≡ k → P (of_kind k t) → P t
at_kind P k t e h = subst (λ j. P (of_kind j t)) (sym e) h

-- what follows these places, if this follows all, is such
pub record Leads (qs : List Piece) (G F : Lexeme → Type 0) : Type 0 where
  pub by : (v : List Marked) (n : Lexeme) → Stands qs v n → G n → F (first_of (lexemes v) n)

abbrev pub Any : Lexeme → Type 0
Any t = Unit {0}

pub lead_none : {F : Lexeme → Type 0} → Leads [] F F
lead_none {F = F} = record { by = none }
  where
    none : (v : List Marked) (n : Lexeme) → Stands [] v n → F n → F (first_of (lexemes v) n)
    none [] n h g = g
    none (x ∷ v) n h g = absurd h

pub lead_at : {s : Slot} {qs : List Piece} {G F : Lexeme → Type 0} → ((t : Lexeme) → Is s t → F t) → Leads (At s ∷ qs) G F
lead_at {s = s} {qs = qs} {G = G} {F = F} f = record { by = first }
  where
    first : (v : List Marked) (n : Lexeme) → Stands (At s ∷ qs) v n → G n → F (first_of (lexemes v) n)
    first [] n h g = absurd h
    first (x ∷ v) n h g = f x.lexeme h.0

pub lead_any : {qs : List Piece} {G : Lexeme → Type 0} → Leads qs G Any
lead_any = record { by = λ v n h g. tt }

pub lead_gap : {e : Ending} {qs : List Piece} {G F : Lexeme → Type 0} → Leads qs G (λ t. may_omit e t ≡ true → F t) → Leads (Gap e ∷ qs) G F
lead_gap l = record { by = λ v n h g. l.by v n h.1 g h.0 }

pub lead_map : {qs : List Piece} {G F H : Lexeme → Type 0} → ((t : Lexeme) → F t → H t) → Leads qs G F → Leads qs G H
lead_map f l = record { by = λ v n h g. f _ (l.by v n h g) }

-- the first of a list that is not empty
pub lead_front : {ps : List Piece} (qs : List Piece) {G F : Lexeme → Type 0} → Leads ps Any F → ((v : List Marked) (n : Lexeme) → Stands ps v n → 0 < length (lexemes v)) → Leads (ps ++ qs) G F
lead_front {ps = ps} qs {G = G} {F = F} l some = record { by = λ v n h g. let p = stands_split ps qs v n h in front p.front p.back v n p.split p.first }
  where
    of_front : (u b v : List Marked) (n : Lexeme) → v ≡ u ++ b → 0 < length (lexemes u) → F (first_of (lexemes u) (first_of (lexemes b) n)) → F (first_of (lexemes v) n)
    of_front [] b v n e k h = absurd (omega (arith, k))
    of_front (x ∷ u) b v n e k h = subst (λ y. F (first_of (lexemes y) n)) (sym e) h

    front : (u b v : List Marked) (n : Lexeme) → v ≡ u ++ b → Stands ps u (first_of (lexemes b) n) → F (first_of (lexemes v) n)
    front u b v n e h = of_front u b v n e (some u (first_of (lexemes b) n) h) (l.by u (first_of (lexemes b) n) h tt)

module _ (limit : ℕ) where
  pub record Completes {A : Type 0} (ps : List Piece) (F : Lexeme → Type 0) (f : Parser A) (a : A) : Type 0 where
    pub at : (w : List Marked) (rest : List Lexeme) → Stands ps w (head_of rest) → F (head_of rest) → Parses limit f w rest a

  pub c_ret : {A : Type 0} {F : Lexeme → Type 0} (a : A) → Completes [] F (ret a) a
  c_ret {F = F} a = record { at = none }
    where
      none : (w : List Marked) (rest : List Lexeme) → Stands [] w (head_of rest) → F (head_of rest) → Parses limit (ret a) w rest a
      none [] rest h g = parses_ret limit a rest
      none (x ∷ w) rest h g = absurd h

  pub c_bind : {A B : Type 0} {ps qs : List Piece} {F G : Lexeme → Type 0} {m : Parser A} (f : A → Parser B) {a : A} {b : B} → Completes ps F m a → Leads qs G F → Completes qs G (f a) b → Completes (ps ++ qs) G (bind m f) b
  c_bind {ps = ps} {qs = qs} {F = F} f c l e = record {
    at = λ w rest h g.
        let p = stands_split ps qs w (head_of rest) h in
        parses_parts limit f w p.front p.back p.split
        (c.at p.front (lexemes p.back ++ rest) (subst (λ y. Stands ps p.front y) (sym (head_first (lexemes p.back) rest)) p.first) (subst F (sym (head_first (lexemes p.back) rest)) (l.by p.back (head_of rest) p.second g)))
        (e.at p.back rest p.second g);
  }

  -- the value is made into another
  pub c_made : {A B : Type 0} {ps : List Piece} {F : Lexeme → Type 0} {m : Parser A} (g : A → B) {a : A} → Completes ps F m a → Completes ps F (bind m (λ x. ret (g x))) (g a)
  c_made g {a = a} c = record { at = λ w rest h k. parses_map limit (λ x. ret (g x)) (c.at w rest h k) refl }

  -- a parser that goes past a lexeme at the first place
  pub c_at : {A : Type 0} {s : Slot} {qs : List Piece} {G : Lexeme → Type 0} {f : Parser A} (g : Lexeme → Parser A) {a : A} → s.depth ≤ limit → ((t : Lexeme) (ts : List Lexeme) → Is s t → f (t ∷ ts) ≡ g t ts) → ((t : Lexeme) → Is s t → Completes qs G (g t) a) → Completes (At s ∷ qs) G f a
  c_at {s = s} {qs = qs} {G = G} {f = f} g {a = a} low e c = record { at = past }
    where
      past : (w : List Marked) (rest : List Lexeme) → Stands (At s ∷ qs) w (head_of rest) → G (head_of rest) → Parses limit f w rest a
      past [] rest h k = absurd h
      past (x ∷ w) rest h k = record { by = ap bare (e x.lexeme (lexemes w ++ rest) h.0) ∙ ((c x.lexeme h.0).at w rest h.2 k).by ∙ sym (shallow limit x.depth (Deep [] (x.lexeme ∷ (lexemes w ++ rest))) (cut limit w rest (Read a [] rest)) (omega (arith, h.1, low))) }

  -- a parser that is another one at what begins with such a lexeme
  pub c_front : {A : Type 0} {ps : List Piece} {G : Lexeme → Type 0} {f : Parser A} (g : Parser A) {a : A} → ((x : Marked) (w : List Marked) (rest : List Lexeme) → Stands ps (x ∷ w) (head_of rest) → G (head_of rest) → f (lexemes (x ∷ w) ++ rest) ≡ g (lexemes (x ∷ w) ++ rest)) → ((w : List Marked) (n : Lexeme) → Stands ps w n → 0 < length (lexemes w)) → Completes ps G g a → Completes ps G f a
  c_front {ps = ps} {G = G} {f = f} g {a = a} e some c = record { at = same }
    where
      same : (w : List Marked) (rest : List Lexeme) → Stands ps w (head_of rest) → G (head_of rest) → Parses limit f w rest a
      same [] rest h k = absurd (omega (arith, some [] (head_of rest) h))
      same (x ∷ w) rest h k = record { by = ap bare (e x w rest h k) ∙ (c.at (x ∷ w) rest h k).by }

  -- nothing is read
  pub c_look : {A : Type 0} {F : Lexeme → Type 0} {f : Parser A} {a : A} → ((rest : List Lexeme) → F (head_of rest) → bare (f rest) ≡ Read a [] rest) → Completes [] F f a
  c_look {F = F} {f = f} {a = a} e = record { at = none }
    where
      none : (w : List Marked) (rest : List Lexeme) → Stands [] w (head_of rest) → F (head_of rest) → Parses limit f w rest a
      none [] rest h g = record { by = e rest g }
      none (x ∷ w) rest h g = absurd h

  pub c_weaken : {A : Type 0} {ps : List Piece} {F G : Lexeme → Type 0} {f : Parser A} {a : A} → ((t : Lexeme) → G t → F t) → Completes ps F f a → Completes ps G f a
  c_weaken k c = record { at = λ w rest h g. c.at w rest h (k (head_of rest) g) }

  pub c_pieces : {A : Type 0} {ps qs : List Piece} {F : Lexeme → Type 0} {f : Parser A} {a : A} → ps ≡ qs → Completes ps F f a → Completes qs F f a
  c_pieces {F = F} {f = f} {a = a} e c = subst (λ y. Completes y F f a) e c

  -- an unwritten semicolon before what is read
  pub c_gap : {A : Type 0} {e : Ending} {F : Lexeme → Type 0} {f : Parser A} {a : A} → ((rest : List Lexeme) → may_omit e (head_of rest) ≡ true → F (head_of rest) → bare (f rest) ≡ Read a [] rest) → Completes (Gap e ∷ []) F f a
  c_gap {e = e} {F = F} {f = f} {a = a} k = record { at = none }
    where
      none : (w : List Marked) (rest : List Lexeme) → Stands (Gap e ∷ []) w (head_of rest) → F (head_of rest) → Parses limit f w rest a
      none [] rest h g = record { by = k rest h.0 g }
      none (x ∷ w) rest h g = absurd h.1

  -- marks and words that must stand here
  mark_at : (i : ℕ) (t : Lexeme) (ts : List Lexeme) → t.kind ≡ kind.Mark i → is_mark i (kind.Mark i) ≡ true → expect i (t ∷ ts) ≡ Read tt [] ts
  unfolding expect
  mark_at i t ts e h = at_kind (λ u. expect i (u ∷ ts) ≡ Read tt [] ts) (kind.Mark i) t e (ap (λ b. when b (step (ret tt)) bad (of_kind (kind.Mark i) t ∷ ts)) h)

  pub c_mark : {F : Lexeme → Type 0} (i d : ℕ) → d ≤ limit → is_mark i (kind.Mark i) ≡ true → Completes (mark_piece i d ∷ []) F (expect i) tt
  c_mark i d low h = c_at (λ t. ret tt) low (λ t ts s. mark_at i t ts s.kind h) (λ t s. c_ret tt)

  word_at : (i : ℕ) (t : Lexeme) (ts : List Lexeme) → t.kind ≡ kind.Word i → is_word i (kind.Word i) ≡ true → expect_word i (t ∷ ts) ≡ Read tt [] ts
  unfolding expect_word
  word_at i t ts e h = at_kind (λ u. expect_word i (u ∷ ts) ≡ Read tt [] ts) (kind.Word i) t e (ap (λ b. when b (step (ret tt)) bad (of_kind (kind.Word i) t ∷ ts)) h)

  pub c_word : {F : Lexeme → Type 0} (i d : ℕ) → d ≤ limit → is_word i (kind.Word i) ≡ true → Completes (word_piece i d ∷ []) F (expect_word i) tt
  c_word i d low h = c_at (λ t. ret tt) low (λ t ts s. word_at i t ts s.kind h) (λ t s. c_ret tt)
