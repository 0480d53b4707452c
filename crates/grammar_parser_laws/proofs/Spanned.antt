-- What is read with the end of its last lexeme: the laws of the combinators hold of it too.
use Rattle.std.proofs.Common.{◌≡◌, ℕ, ◌-◌, ◌≤◌, List, [], ◌∷◌, ◌++◌, length, take, refl, sym, ap, ◌∙◌, subst, arith, length-append, cond, nat_lt, Bool, true, false}
use Rattle.std.proofs.Math.Seq.{take-append_seam}
use Rattle.std.proofs.lemmas.List.{take-append-le}
use Rattle.script_grammar.specs.Lexeme.{Lexeme}
use Rattle.grammar_parser_specs.specs.Parser.{Reply, Read, Bad, Deep, Parser}
use Rattle.grammar_parser_specs.specs.Exprs.{Spanned, spanned, spanned_reply, last_end}
use Rattle.grammar_parser_laws.proofs.Friendly.{Spot}
use Rattle.grammar_parser_laws.proofs.Fitting.{EndsBy, ends_by}
use Rattle.grammar_parser_laws.proofs.Local.{Local, Same, out, kept, left, grown, grown_records}
use Rattle.grammar_parser_laws.proofs.Sound.{Leads, LeadsAt, Outcome}
use Rattle.grammar_parser_laws.proofs.Stands.{Marked, lexemes}
use Rattle.grammar_parser_laws.proofs.Complete.{Parses, bare, cut}

-- the lexemes before the last ones
taken : (w us : List Lexeme) → take (length (w ++ us) - length us) (w ++ us) ≡ w
taken w us = ap (λ n. take n (w ++ us)) (omega (arith, length-append w us)) ∙ take-append_seam w us

taken_end : (ts w us : List Lexeme) → ts ≡ w ++ us → last_end 0 (take (length ts - length us) ts) ≡ last_end 0 w
taken_end ts w us e = ap (λ x. last_end 0 (take (length x - length us) x)) e ∙ ap (λ x. last_end 0 x) (taken w us)

-- soundness

abbrev pub WithEnd : {A : Type 0} → (List Lexeme → A → Type 0) → List Lexeme → Spanned A → Type 0
WithEnd R w s = R w s.value × EndsBy w s.end

pub spanned_outcome : {A : Type 0} (p : Spot) (R S : List Lexeme → A → Type 0) (ts : List Lexeme) (r : Reply A) → Outcome p R S ts r → Outcome p (WithEnd R) (WithEnd S) ts (spanned_reply ts r)
spanned_outcome p R S ts (Read a rs us) o = record { front = o.front; split = o.split; some = o.some; is = (o.is, subst (λ e. EndsBy o.front e) (sym (taken_end ts o.front us o.split)) (ends_by o.front 0)) }
spanned_outcome p R S ts (Bad rs us) o = record { front = o.front; split = o.split; end = o.end; of = record { value = o.of; end = last_end 0 (o.front ++ o.end) }; starts = o.starts; is = (o.is, ends_by (o.front ++ o.end) 0) }
spanned_outcome p R S ts (Deep rs us) o = record { front = o.front; split = o.split; token = o.token; behind = o.behind; first = o.first; end = o.end; of = record { value = o.of; end = last_end 0 (o.front ++ o.token ∷ o.end) }; is = (o.is, ends_by (o.front ++ o.token ∷ o.end) 0) }

pub sound_spanned : {A : Type 0} {p : Spot} {R S : List Lexeme → A → Type 0} {f : Parser A} → Leads p R S f → Leads p (WithEnd R) (WithEnd S) (spanned f)
sound_spanned {p = p} {R = R} {S = S} {f = f} s = record { at = λ ts. spanned_outcome p R S ts (f ts) (s.at ts) }

pub at_spanned : {A : Type 0} {p : Spot} {R S : List Lexeme → A → Type 0} {t : Lexeme} {f : Parser A} → LeadsAt p R S t f → LeadsAt p (WithEnd R) (WithEnd S) t (spanned f)
at_spanned {p = p} {R = R} {S = S} {t = t} {f = f} s = record { first = λ ts. spanned_outcome p R S (t ∷ ts) (f (t ∷ ts)) (s.first ts) }

-- locality

pub spanned_left : {A : Type 0} (ts : List Lexeme) (r : Reply A) → left (spanned_reply ts r) ≡ left r
spanned_left ts (Read a rs us) = refl
spanned_left ts (Bad rs us) = refl
spanned_left ts (Deep rs us) = refl

pub grown_taken : (ts us q : List Lexeme) → length us ≤ length ts → take (length (ts ++ q) - length (us ++ q)) (ts ++ q) ≡ take (length ts - length us) ts
grown_taken ts us q h = ap (λ n. take n (ts ++ q)) (omega (arith, length-append ts q, length-append us q, h)) ∙ take-append-le (length ts - length us) ts q (omega arith)

spanned_grown : {A : Type 0} (ts q : List Lexeme) (r : Reply A) → length (left r) ≤ length ts → spanned_reply (ts ++ q) (grown q r) ≡ grown q (spanned_reply ts r)
spanned_grown ts q (Read a rs us) h = ap (λ x. Read (record { value = a; end = last_end 0 x }) (grown_records q rs) (us ++ q)) (grown_taken ts us q h)
spanned_grown ts q (Bad rs us) h = refl
spanned_grown ts q (Deep rs us) h = refl

spanned_same : {A : Type 0} (ts q : List Lexeme) (r s : Reply A) → length (left r) ≤ length ts → Same q r s → Same q (spanned_reply ts r) (spanned_reply (ts ++ q) s)
spanned_same ts q r s h (out e k) = out (ap length (spanned_left ts r) ∙ e) (omega (arith, k, ap length (spanned_left (ts ++ q) s)))
spanned_same ts q r s h (kept e) = kept (ap (λ x. spanned_reply (ts ++ q) x) e ∙ spanned_grown ts q r h)

pub local_spanned : {A : Type 0} {f : Parser A} → Local f → Local (spanned f)
local_spanned {f = f} l = record {
  shorter = λ ts. omega (arith, l.shorter ts, ap length (spanned_left ts (f ts)));
  same = λ ts q. spanned_same ts q (f ts) (f (ts ++ q)) (l.shorter ts) (l.same ts q);
}

-- completeness

spanned_bare : {A : Type 0} (ts : List Lexeme) (r : Reply A) → bare (spanned_reply ts r) ≡ spanned_reply ts (bare r)
spanned_bare ts (Read a rs us) = refl
spanned_bare ts (Bad rs us) = refl
spanned_bare ts (Deep rs us) = refl

spanned_cond : {A : Type 0} (ts : List Lexeme) (b : Bool) (us : List Lexeme) (r : Reply A) → spanned_reply ts (cond b (Deep [] us) r) ≡ cond b (Deep [] us) (spanned_reply ts r)
spanned_cond ts true us r = refl
spanned_cond ts false us r = refl

spanned_cut : {A : Type 0} (ts : List Lexeme) (limit : ℕ) (w : List Marked) (rest : List Lexeme) (r : Reply A) → spanned_reply ts (cut limit w rest r) ≡ cut limit w rest (spanned_reply ts r)
spanned_cut ts limit [] rest r = refl
spanned_cut ts limit (x ∷ w) rest r = spanned_cond ts (nat_lt limit x.depth) (x.lexeme ∷ (lexemes w ++ rest)) (cut limit w rest r) ∙ ap (λ y. cond (nat_lt limit x.depth) (Deep [] (x.lexeme ∷ (lexemes w ++ rest))) y) (spanned_cut ts limit w rest r)

pub parses_spanned : {A : Type 0} (limit : ℕ) {f : Parser A} {w : List Marked} {rest : List Lexeme} {a : A} → Parses limit f w rest a → Parses limit (spanned f) w rest (record { value = a; end = last_end 0 (lexemes w) })
parses_spanned limit {f = f} {w = w} {rest = rest} {a = a} p = record {
  by =
      spanned_bare (lexemes w ++ rest) (f (lexemes w ++ rest))
      ∙ ap (λ x. spanned_reply (lexemes w ++ rest) x) p.by
      ∙ spanned_cut (lexemes w ++ rest) limit w rest (Read a [] rest)
      ∙ ap (λ e. cut limit w rest (Read (record { value = a; end = e }) [] rest)) (taken_end (lexemes w ++ rest) (lexemes w) rest refl);
}
