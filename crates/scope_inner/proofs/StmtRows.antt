-- Functions that were found in statements, one part after the other, and in scopes that were entered.
use Rattle.std.proofs.Common.{◌≡◌, ℕ, ◌+◌, ◌≤◌, Bool, true, false, List, [], ◌∷◌, ◌++◌, map, length, refl, sym, ◌∙◌, ap, subst, arith, add-zero, zero-add, append_assoc, append-nil, true≢false}
use Rattle.std.proofs.lemmas.List.{map-append}
use Rattle.script_grammar.specs.Interpretation.{Interpretation}
use Rattle.stencil_data.specs.LinkView.{LinkView}
use Rattle.scope_analysis.specs.DeclaredNames.{Declaration}
use Rattle.scope_analysis.specs.Functions.{Inner, enclosed}
use Rattle.scope_analysis.specs.Scopes.{scope_count}
use Rattle.emit_stmts.specs.Declares.{declares}
use Rattle.emit_stmts.specs.Frames.{scope_at, chain_link}
use Rattle.scope_inner.specs.declared.sites.FunctionSite.{FunctionSite}
use Rattle.scope_inner.specs.Finding.{chain_around, FindsBy, FindsAt, FindsIn}
use Rattle.scope_inner.specs.Sites.{Sited, sited, sited_in}
use Rattle.scope_inner.specs.Spots.{Spot, inside_spot, entered, entered_count}
use Rattle.scope_inner.proofs.FindRows.{found_none}

-- ---- one part after the other

pub joined : (f : Inner → Sited) (start : List Sited) {mid end : List Sited} (xs ys : List Inner) → mid ≡ start ++ map f xs → end ≡ mid ++ map f ys → end ≡ start ++ map f (xs ++ ys)
joined f start xs ys one two = two ∙ (ap (λ (l : List Sited). l ++ map f ys) one ∙ (append_assoc start (map f xs) (map f ys) ∙ ap (λ (l : List Sited). start ++ l) (sym (map-append f xs ys))))

pub both_at : {i : Interpretation} {p : Spot} {a b d : List FunctionSite} {k j l c e : ℕ} {x y : ℕ → List ℕ → List Inner} → FindsAt i p a b k j c x → FindsAt i p b d j l e y → FindsAt i p a d k l (c + e) (λ n r. x n r ++ y (n + c) r)
both_at {i} {p} {a} {b} {d} {k} {j} {l} {c} {e} {x} {y} f g = record {
  counted = λ small.
      let one = f.counted (omega (arith, small)) in
      let two = g.counted (omega (arith, small, one)) in
      omega (arith, small, one, two);
  found = λ outer around small is.
      let one = f.counted (omega (arith, small)) in
      joined (sited_in p.scopes outer) (map (sited i) a) (x k around) (y (k + c) around) (f.found outer around (omega (arith, small)) is)
      (subst (λ (n : ℕ). map (sited i) d ≡ map (sited i) b ++ map (sited_in p.scopes outer) (y n around)) one (g.found outer around (omega (arith, small, one)) is));
}

pub both : {p : Spot} {a b d : List FunctionSite} {k j l : ℕ} {c e : Interpretation → ℕ} {x y : Interpretation → ℕ → List ℕ → List Inner} → FindsIn p a b k j c x → FindsIn p b d j l e y → FindsIn p a d k l (λ i. c i + e i) (λ i n r. x i n r ++ y i (n + c i) r)
both f g = record { finds = λ i. both_at (f.finds i) (g.finds i) }

pub found_in : {p : Spot} {a b : List FunctionSite} {k l : ℕ} {c e : Interpretation → ℕ} {x y : Interpretation → ℕ → List ℕ → List Inner} → ((i : Interpretation) → c i ≡ e i) → ((i : Interpretation) (n : ℕ) (r : List ℕ) → x i n r ≡ y i n r) → FindsIn p a b k l c x → FindsIn p a b k l e y
found_in {p} {a} {b} {k} {c = c} {e} {x} {y} same_count same f = record {
  finds = λ i. record {
    counted = λ small.
        let counts = same_count i in
        let one = (f.finds i).counted (omega (arith, small, counts)) in
        omega (arith, one, counts);
    found = λ outer around small is.
        let counts = same_count i in
        (f.finds i).found outer around (omega (arith, small, counts)) is ∙ ap (λ (l : List Inner). map (sited i) a ++ map (sited_in p.scopes outer) l) (same i k around);
  };
}

-- ---- parts that enter no scope

pub plainly : {p : Spot} {a b : List FunctionSite} {k : ℕ} {x : Interpretation → List ℕ → List Inner} → FindsBy a b p.chain x → FindsIn p a b k k (λ i. 0) (λ i n r. x i r)
plainly {p} {k = k} f = record {
  finds = λ i. record {
    counted = λ small. sym (add-zero k);
    found = λ outer around small is. (f.finds i).found p.scopes outer around is;
  };
}

pub nothing : (p : Spot) (a : List FunctionSite) (k : ℕ) → FindsIn p a a k k (λ i. 0) (λ i n r. [])
nothing p a k = plainly (found_none a p.chain (λ i r. refl))

-- before others, and after
pub before : {p : Spot} {a b d : List FunctionSite} {k l : ℕ} {c : Interpretation → ℕ} {x : Interpretation → List ℕ → List Inner} {y : Interpretation → ℕ → List ℕ → List Inner} → FindsBy a b p.chain x → FindsIn p b d k l c y → FindsIn p a d k l c (λ i n r. x i r ++ y i n r)
before {c = c} {x} {y} f g = found_in (λ i. zero-add (c i)) (λ i n r. ap (λ (m : ℕ). x i r ++ y i m r) (add-zero n)) (both (plainly f) g)

pub behind : {p : Spot} {a b d : List FunctionSite} {k l : ℕ} {c : Interpretation → ℕ} {x : Interpretation → ℕ → List ℕ → List Inner} {y : Interpretation → List ℕ → List Inner} → FindsIn p a b k l c x → FindsBy b d p.chain y → FindsIn p a d k l c (λ i n r. x i n r ++ y i r)
behind {c = c} f g = found_in (λ i. add-zero (c i)) (λ i n r. refl) (both f (plainly g))

-- ---- scopes

-- a scope of these declarations was entered, where there are any
pub record Inside (p : Spot) (k j : ℕ) (chain : List LinkView) (ds : List Declaration) : Type 0 where
  pub next : k + scope_count ds ≤ length p.scopes → j ≡ k + scope_count ds
  pub around : (outer : List LinkView) (around : List ℕ) → p.chain ≡ chain_around p.scopes outer around → chain ≡ chain_around p.scopes outer (enclosed ds k around)

pub inside_of : (p : Spot) {k j : ℕ} {chain : List LinkView} (flag : Bool) (ds : List Declaration) → flag ≡ declares ds → (k + entered_count flag ≤ length p.scopes → j ≡ k + entered_count flag) → chain ≡ entered p k flag → Inside p k j chain ds
inside_of p false [] is next chain_is = record { next = next; around = λ outer around same. chain_is ∙ same }
inside_of p true [] is next chain_is = absurd (true≢false is)
inside_of p false (d ∷ ds) is next chain_is = absurd (true≢false (sym is))
inside_of p {k} true (d ∷ ds) is next chain_is = record { next = next; around = λ outer around same. chain_is ∙ ap (λ (c : List LinkView). chain_link (scope_at p.scopes k) ∷ c) same }

pub scoped_at : {i : Interpretation} {p : Spot} {a b : List FunctionSite} {k j l c : ℕ} {x : ℕ → List ℕ → List Inner} {chain : List LinkView} (ds : List Declaration) → Inside p k j chain ds → FindsAt i (inside_spot chain p) a b j l c x → FindsAt i p a b k l (scope_count ds + c) (λ n r. x (n + scope_count ds) (enclosed ds n r))
scoped_at {i} {p} {a} {b} {k} {j} {l} {c} {x} ds s f = record {
  counted = λ small.
      let one = s.next (omega (arith, small)) in
      let two = f.counted (omega (arith, small, one)) in
      omega (arith, small, one, two);
  found = λ outer around small is.
      let one = s.next (omega (arith, small)) in
      subst (λ (n : ℕ). map (sited i) b ≡ map (sited i) a ++ map (sited_in p.scopes outer) (x n (enclosed ds k around))) one
      (f.found outer (enclosed ds k around) (omega (arith, small, one)) (s.around outer around is));
}

pub moved : {p q : Spot} {a b : List FunctionSite} {k l : ℕ} {c : Interpretation → ℕ} {x : Interpretation → ℕ → List ℕ → List Inner} → q ≡ p → FindsIn q a b k l c x → FindsIn p a b k l c x
moved {a = a} {b} {k} {l} {c} {x} is f = subst (λ (s : Spot). FindsIn s a b k l c x) is f

pub scoped : {p : Spot} {a b : List FunctionSite} {k j l : ℕ} {flag : Bool} {c : Interpretation → ℕ} {x : Interpretation → ℕ → List ℕ → List Inner} {chain : List LinkView} (ds : Interpretation → List Declaration) → ((i : Interpretation) → flag ≡ declares (ds i))
    → (k + entered_count flag ≤ length p.scopes → j ≡ k + entered_count flag) → chain ≡ entered p k flag → FindsIn (inside_spot chain p) a b j l c x
    → FindsIn p a b k l (λ i. scope_count (ds i) + c i) (λ i n r. x i (n + scope_count (ds i)) (enclosed (ds i) n r))
scoped {p} {flag = flag} ds is next chain_is f = record { finds = λ i. scoped_at (ds i) (inside_of p flag (ds i) (is i) next chain_is) (f.finds i) }

-- ---- lists: what was found, and what is left

pub record GoingIn (p : Spot) (start now : List FunctionSite) (k next : ℕ) (count_all count_left : Interpretation → ℕ) (all left : Interpretation → ℕ → List ℕ → List Inner) : Type 0 where
  pub count : Interpretation → ℕ
  pub done : Interpretation → ℕ → List ℕ → List Inner
  pub finds : FindsIn p start now k next count done
  pub counts : (i : Interpretation) → count i + count_left i ≡ count_all i
  pub is : (i : Interpretation) (n : ℕ) (r : List ℕ) → done i n r ++ left i (n + count i) r ≡ all i n r

pub going_in : (p : Spot) (now : List FunctionSite) (k : ℕ) (count : Interpretation → ℕ) (all : Interpretation → ℕ → List ℕ → List Inner) → GoingIn p now now k k count count all all
going_in p now k count all = record {
  count = λ i. 0;
  done = λ i n r. [];
  finds = nothing p now k;
  counts = λ i. zero-add (count i);
  is = λ i n r. ap (λ (m : ℕ). all i m r) (add-zero n);
}

pub gone_on : {p : Spot} {start now later : List FunctionSite} {k next l : ℕ} {count_all count_left count_later c : Interpretation → ℕ} {all left rest y : Interpretation → ℕ → List ℕ → List Inner} → FindsIn p now later next l c y → ((i : Interpretation) → count_left i ≡ c i + count_later i)
    → ((i : Interpretation) (n : ℕ) (r : List ℕ) → left i n r ≡ y i n r ++ rest i (n + c i) r) → GoingIn p start now k next count_all count_left all left → GoingIn p start later k l count_all count_later all rest
gone_on {count_left = count_left} {count_later} {c} {left = left} {rest} {y} f counts split g = record {
  count = λ i. g.count i + c i;
  done = λ i n r. g.done i n r ++ y i (n + g.count i) r;
  finds = both g.finds f;
  counts = λ i.
      let one = counts i in
      let two = g.counts i in
      omega (arith, one, two);
  is = λ i n r.
      append_assoc (g.done i n r) (y i (n + g.count i) r) (rest i (n + (g.count i + c i)) r)
      ∙ (ap (λ (l : List Inner). g.done i n r ++ l) (ap (λ (m : ℕ). y i (n + g.count i) r ++ rest i m r) (shift n (g.count i) (c i)) ∙ sym (split i (n + g.count i) r)) ∙ g.is i n r);
}
  where
    shift : (n m k : ℕ) → n + (m + k) ≡ n + m + k
    shift n m k = omega arith

pub gone : {p : Spot} {start now : List FunctionSite} {k next : ℕ} {count_all count_left : Interpretation → ℕ} {all left : Interpretation → ℕ → List ℕ → List Inner} → ((i : Interpretation) → count_left i ≡ 0) → ((i : Interpretation) (n : ℕ) (r : List ℕ) → left i n r ≡ [])
    → GoingIn p start now k next count_all count_left all left → FindsIn p start now k next count_all all
gone no_count none g =
    found_in
    (λ i.
    let one = no_count i in
    let two = g.counts i in
    omega (arith, one, two))
    (λ i n r. sym (append-nil (g.done i n r)) ∙ (ap (λ (l : List Inner). g.done i n r ++ l) (sym (none i (n + g.count i) r)) ∙ g.is i n r)) g.finds
