-- From which functions are wanted to which are shown, from the last one on.
use Rattle.std.proofs.Common.{◌≡◌, ℕ, zero, suc, ◌+◌, ◌<◌, ◌≤◌, Bool, false, ◌&&◌, ◌||◌, nat_le, List, [], ◌∷◌, length, take, drop, get_or, Option, refl, sym, ◌∙◌, ap, ap₂, arith, drop-cons, get_or-take}
use Rattle.std.proofs.Math.ListN.{set}
use Rattle.std.proofs.lemmas.List.{take-set, drop-set}
use Rattle.compile_wanted.specs.Flags.{any_within, shown_flags, reaches}

-- the flags from `left` on are those that are shown, and the least end of a wanted function there is this one
pub record Shown (old : List Bool) (ends : List ℕ) (now : List Bool) (least : Option ℕ) (left : ℕ) : Type 0 where
  pub within : left ≤ length ends
  pub front : take left now ≡ take left old
  pub back : drop left now ≡ shown_flags (drop left old) (drop left ends)
  pub least_is : (e : ℕ) → reaches least e ≡ any_within e (drop left old) (drop left ends)

take_less : {A : Type 0} (j : ℕ) (xs ys : List A) → take (suc j) xs ≡ take (suc j) ys → take j xs ≡ take j ys
take_less zero xs ys is = refl
take_less (suc j) [] [] is = refl
take_less (suc j) [] (y ∷ ys) is = absurd (cc)
take_less (suc j) (x ∷ xs) [] is = absurd (cc)
take_less {A} (suc j) (x ∷ xs) (y ∷ ys) is = let head : x ≡ y = cc in let tail : take (suc j) xs ≡ take (suc j) ys = cc in ap₂ (λ (z : A) (zs : List A). z ∷ zs) head (take_less j xs ys tail)

shown_at : (flag : Bool) (end : ℕ) (flags : List Bool) (ends : List ℕ) (now : List Bool) (least next : Option ℕ) → now ≡ shown_flags flags ends → ((e : ℕ) → reaches least e ≡ any_within e flags ends) → ((e : ℕ) → reaches next e ≡ ((nat_le end e && flag) || reaches least e)) → reaches next end ∷ now ≡ shown_flags (flag ∷ flags) (end ∷ ends)
shown_at flag end flags ends now least next now_is least_is next_is = ap₂ (λ (b : Bool) (bs : List Bool). b ∷ bs) (next_is end ∙ ap (λ (b : Bool). (nat_le end end && flag) || b) (least_is end)) now_is

-- one more function from the end
pub show_next : (old : List Bool) (ends : List ℕ) (now new : List Bool) (least next : Option ℕ) (left j : ℕ) → left ≡ j + 1 → length now ≡ length old → length old ≡ length ends → Shown old ends now least left
    → ((e : ℕ) → reaches next e ≡ ((nat_le (get_or ends j 0) e && get_or now j false) || reaches least e)) → new ≡ set now j (reaches next (get_or ends j 0)) → Shown old ends new next j
show_next old ends now new least next left j left_is same_length lengths s next_is new_is = record {
  within = omega (arith, s.within);
  front = ap (take j) new_is ∙ (take-set now j (reaches next end) ∙ take_less j now old (ap (λ (n : ℕ). take n now) (sym suc_is) ∙ (s.front ∙ ap (λ (n : ℕ). take n old) suc_is)));
  back = ap (drop j) new_is ∙ (drop-set now j (reaches next end) in_now ∙ (shown_at flag end (drop left old) (drop left ends) (drop (j + 1) now) least next (ap (λ (n : ℕ). drop n now) (sym left_is) ∙ s.back) s.least_is next_at ∙ ap₂ shown_flags (sym olds) (sym endings)));
  least_is = λ e. next_at e ∙ (ap (λ (b : Bool). (nat_le end e && flag) || b) (s.least_is e) ∙ ap₂ (any_within e) (sym olds) (sym endings));
}
  where
    end : ℕ
    end = get_or ends j 0

    flag : Bool
    flag = get_or old j false

    suc_is : left ≡ suc j
    suc_is = omega arith

    in_ends : j < length ends
    in_ends = omega (arith, s.within)

    in_old : j < length old
    in_old = omega (arith, s.within)

    in_now : j < length now
    in_now = omega (arith, s.within)

    olds : drop j old ≡ flag ∷ drop left old
    olds = drop-cons old j false in_old ∙ ap (λ (n : ℕ). flag ∷ drop n old) (sym suc_is)

    endings : drop j ends ≡ end ∷ drop left ends
    endings = drop-cons ends j 0 in_ends ∙ ap (λ (n : ℕ). end ∷ drop n ends) (sym suc_is)

    same : get_or now j false ≡ flag
    same = sym (get_or-take left now j false (omega arith)) ∙ (ap (λ (l : List Bool). get_or l j false) s.front ∙ get_or-take left old j false (omega arith))

    next_at : (e : ℕ) → reaches next e ≡ ((nat_le end e && flag) || reaches least e)
    next_at e = next_is e ∙ ap (λ (b : Bool). (nat_le end e && b) || reaches least e) same
