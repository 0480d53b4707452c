-- The order in which files are begun: an order that is put into another sequence is one still, and names only files that there are.
use Rattle.std.proofs.Common.{List, [], ap, cond, eqb, length, refl, sym, ℕ, ◌+◌, ◌∙◌, ◌∷◌, ◌≡◌}
use Rattle.std.proofs.lemmas.List.Sorted.{length_permutation, sum_by-IsPermutation, IsPermutation-reverse}
use Rattle.std.proofs.lemmas.List.Sums.{sum_by-cons}
use Rattle.std.specs.List.{All}
use Rattle.std.specs.Prelude.{IsPermutation, reverse, sum_by, ◌<◌}
use Rattle.helper_tasks.proofs.Counts.{each-index}
use Rattle.helper_tasks.proofs.Finishing.{order_within}
use Rattle.helper_tasks.specs.Count.{times}
use Rattle.helper_tasks.specs.Jobs.{IsOrderOf}
use Rattle.session_words.specs.declared.options.Order.{Order}
use Rattle.session_words.specs.declared.options.Order.TheVariants as order
use Rattle.session_orders.specs.Orders.{AreInOrder}

times_is_sum : (x : ℕ) (ys : List ℕ) → times x ys ≡ sum_by (λ y. cond (eqb x y) 1 0) ys
times_is_sum x [] = refl
times_is_sum x (y ∷ ys) = ap (λ (n : ℕ). cond (eqb x y) 1 0 + n) (times_is_sum x ys) ∙ sym (sum_by-cons (λ y. cond (eqb x y) 1 0) y ys)

order_shuffled : (n : ℕ) (before after : List ℕ) → IsPermutation before after → IsOrderOf n before → IsOrderOf n after
order_shuffled n before after moved order = (
  length_permutation before after moved ∙ order.0,
  λ x. times_is_sum x after ∙ sum_by-IsPermutation (λ y. cond (eqb x y) 1 0) before after moved ∙ sym (times_is_sum x before) ∙ order.1 x,
)

order_same : (n : ℕ) (before after : List ℕ) → after ≡ before → IsOrderOf n before → IsOrderOf n after
order_same n before after same order = (ap length same ∙ order.0, λ x. ap (times x) same ∙ order.1 x)

pub order_put : (o : Order) (size : ℕ → ℕ) (n : ℕ) (before after : List ℕ) → AreInOrder o size before after → IsOrderOf n before → IsOrderOf n after
order_put order.First size n before after put is = order_same n before after put is
order_put order.Large size n before after put is = order_shuffled n before after put.same is
order_put order.Reverse size n before after put is = order_same n (reverse before) after put (order_shuffled n before (reverse before) (IsPermutation-reverse before) is)

-- where there are as many files
pub files_within : (files n : ℕ) (order : List ℕ) → files ≡ n → IsOrderOf n order → All (λ (file : ℕ). file < files) order
files_within files n order same is = λ k d there. each-index (λ (file : ℕ). file < files) order k d there (order_within files n order same is.1)
