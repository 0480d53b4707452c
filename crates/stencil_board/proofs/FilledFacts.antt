-- A result of a function of the board's file.
use Rattle.std.proofs.Common.{◌≡◌, ℕ, List, Option, Some, IfSome, true, false, Bool, ◌&&◌, refl, sym, subst}
use Rattle.std.proofs.lemmas.Bool.{eqb-true}
use Rattle.std.specs.Prelude.{nat_eq}
use Rattle.lazy_compile.specs.Delazified.{all_texts}
use Rattle.lazy_compile.specs.declared.Delazified.{Delazified}
use Rattle.lazy_function.specs.Numbered.{IsCompiledFunction}
use Rattle.lazy_function.specs.Texts.{AreAmong}
use Rattle.lazy_function.proofs.Among.{among_by_test, test_of_among}
use Rattle.stencil_board.specs.Files.{File, IsFilled, file_at}
use Rattle.stencil_board.specs.Views.{ResultView}
use Rattle.stencil_board.specs.Passes.{is_of}

module _ (file : File) (bytes : List ℕ) (texts : List (List ℕ)) (is : file ≡ record { bytes = bytes; texts = texts }) (number : ℕ) where
  pub filled : (made shared : Delazified) → shared ≡ made → IsCompiledFunction bytes number made → AreAmong texts (all_texts made) → IsFilled file number shared
  filled made shared same compiled among =
      subst (λ (f : File). IsFilled f number shared) (sym is)
      (subst (λ (d : Delazified). IsFilled (record { bytes = bytes; texts = texts }) number d) (sym same) (record { compiled = compiled; among = test_of_among texts (all_texts made) among }))

  filled_there : (made : Delazified) → IsFilled file number made → IsFilled (record { bytes = bytes; texts = texts }) number made
  filled_there made h = subst (λ (f : File). IsFilled f number made) is h

  pub filled_compiled : (made : Delazified) → IsFilled file number made → IsCompiledFunction bytes number made
  filled_compiled made h = (filled_there made h).compiled

  pub filled_texts : (made : Delazified) → IsFilled file number made → AreAmong texts (all_texts made)
  filled_texts made h = among_by_test texts (all_texts made) (filled_there made h).among

first_true : (a b : Bool) → (a && b) ≡ true → a ≡ true
first_true true b h = refl
first_true false b h = absurd (cc)

second_true : (a b : Bool) → (a && b) ≡ true → b ≡ true
second_true true b h = h
second_true false b h = absurd (cc)

-- of a result that is of this function
pub filled_of : (files : List File) (file number : ℕ) (r : ResultView) (made : Delazified) → is_of file number r ≡ true → IsFilled (file_at files r.file) r.number made → IsFilled (file_at files file) number made
filled_of files file number r made same h =
    let file_is : r.file ≡ file = eqb-true r.file file (first_true (nat_eq r.file file) (nat_eq r.number number) same) in
    let number_is : r.number ≡ number = eqb-true r.number number (second_true (nat_eq r.file file) (nat_eq r.number number) same) in
    subst (λ (n : ℕ). IsFilled (file_at files file) n made) number_is (subst (λ (f : ℕ). IsFilled (file_at files f) r.number made) file_is h)

pub if_some : {A : Type 0} (P : A → Type 0) (o : Option A) (x : A) → o ≡ Some x → IfSome o P → P x
if_some P o x e h = subst (λ q. IfSome q P) e h
