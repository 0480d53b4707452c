-- The functions of a script at any depth: those directly in one are among them, and each stands well.
use Rattle.std.proofs.Common.{◌≡◌, ℕ, suc, List, [], ◌∷◌, ◌++◌, Contains, map, refl, sym, ◌∙◌, ap, subst, inl, inr, arith}
use Rattle.script_grammar.specs.Tree.{Stmts}
use Rattle.stencil_data.specs.LinkView.{LinkView}
use Rattle.grammar_start_laws.specs.Own.{AllOf}
use Rattle.scope_closed_laws.specs.Sites as closed
use Rattle.scope_analysis.specs.Functions.{Inner, inner_function, inner_script}
use Rattle.scope_analysis.specs.Scopes.{function_scopes, script_scopes}
use Rattle.emit_stmts.specs.Functions.{chain_at}
use Rattle.compile_specs.specs.Eager.{Site, sites, sites_in, top_sites, AllSites, no_sites, more_sites}
use Rattle.emit_limit_laws.specs.EveryFunction.{Among, IsFunctionOf, at_top, inside}
use Rattle.compile_range_laws.proofs.Numbers.{among_front, among_back}

-- ---- lists

pub each_of : {X : Type 0} (P : X → Type 0) (xs : List X) → ((x : X) → Among x xs → P x) → AllOf P xs
each_of P [] f = tt
each_of P (x ∷ xs) f = (f x (inl refl), each_of P xs (λ y a. f y (inr a)))

contained : {X : Type 0} (x : X) (xs : List X) → Among x xs → Contains xs x
contained x [] a = absurd a
contained x (y ∷ ys) (inl e) = (0, omega arith, e)
contained x (y ∷ ys) (inr a) =
    let c = contained x ys a in
    let within = c.1 in
    (suc c.0, omega (arith, within), c.2)

-- ---- functions, and the sites where they stand

-- a function of these sites is one of these functions, and its chain is that of the function
pub record IsSiteOf (is : List Inner) (chain : Inner → List LinkView) (s : Site) : Type 0 where
  pub among : Among s.inner is
  pub chained : s.chain ≡ chain s.inner

site_of : (chain : Inner → List LinkView) (is : List Inner) (s : Site) → Among s (sites is (map chain is)) → IsSiteOf is chain s
site_of chain [] s a = absurd a
site_of chain (i ∷ is) s (inl e) = record { among = inl (ap (λ (x : Site). x.inner) e); chained = sym (ap (λ (x : Site). x.chain) e) ∙ ap (λ (x : Site). chain x.inner) e }
site_of chain (i ∷ is) s (inr a) = let h = site_of chain is s a in record { among = inr h.among; chained = h.chained }

-- each of these functions has a site
site_for : (chain : Inner → List LinkView) (is : List Inner) (i : Inner) → Among i is → Among (record { inner = i; chain = chain i }) (sites is (map chain is))
site_for chain [] i a = absurd a
site_for chain (j ∷ is) i (inl e) = inl (ap (λ (x : Inner). let s : Site = record { inner = x; chain = chain x } in s) e)
site_for chain (j ∷ is) i (inr a) = inr (site_for chain is i a)

-- ---- with all that are in them

pub listed : (some all : List Site) (s : Site) → AllSites some all → Among s some → Among s all
listed some all s no_sites a = a
listed some all s (more_sites x rest within after h k) (inl e) = inl e
listed some all s (more_sites x rest within after h k) (inr a) = inr (among_back s within after (listed rest after s k a))

split : (s : Site) (xs ys : List Site) (P : Type 0) → (Among s xs → P) → (Among s ys → P) → Among s (xs ++ ys) → P
split s [] ys P f g a = g a
split s (x ∷ xs) ys P f g (inl e) = f (inl e)
split s (x ∷ xs) ys P f g (inr a) = split s xs ys P (λ b. f (inr b)) g a

pub listed_inside : (some all : List Site) (s x : Site) → AllSites some all → Among s all → Among x (sites_in s) → Among x all
listed_inside some all s x no_sites a b = absurd a
listed_inside some all s x (more_sites y rest within after h k) (inl e) b = inr (among_front x within after (listed (sites_in y) within x h (subst (λ (t : Site). Among x (sites_in t)) (sym e) b)))
listed_inside some all s x (more_sites y rest within after h k) (inr a) b =
    inr (split s within after (Among x (within ++ after)) (λ c. among_front x within after (listed_inside (sites_in y) within s x h c b)) (λ c. among_back x within after (listed_inside rest after s x k c b)) a)

-- ---- they are functions of the script

abbrev pub IsAt : Stmts → Site → Type 0
IsAt items s = IsFunctionOf items s.inner s.chain

inside_at : (items : Stmts) (s x : Site) → IsAt items s → Among x (sites_in s) → IsAt items x
inside_at items s x of a =
    let h = site_of (chain_at (function_scopes s.inner.kind s.inner.name s.inner.func) s.chain) (inner_function s.inner.kind s.inner.name s.inner.func) x a in
    inside s.inner s.chain x.inner x.chain of h.among h.chained

all_at : (items : Stmts) (some all : List Site) → AllSites some all → ((s : Site) → Among s some → IsAt items s) → (s : Site) → Among s all → IsAt items s
all_at items some all no_sites f s a = absurd a
all_at items some all (more_sites x rest within after h k) f s (inl e) = subst (IsAt items) e (f x (inl refl))
all_at items some all (more_sites x rest within after h k) f s (inr a) =
    split s within after (IsAt items s) (all_at items (sites_in x) within h (λ y b. inside_at items x y (f x (inl refl)) b) s) (all_at items rest after k (λ y b. f y (inr b)) s) a

pub sites_at : (items : Stmts) (end : ℕ) (all : List Site) → AllSites (top_sites items end) all → (s : Site) → Among s all → IsAt items s
sites_at items end all are = all_at items (top_sites items end) all are (λ s a. let h = site_of (chain_at (script_scopes items) []) (inner_script items) s a in at_top s.inner s.chain h.among h.chained)

-- so they are functions of it as its closed names are spoken of
pub known : (items : Stmts) (i : Inner) (chain : List LinkView) → IsFunctionOf items i chain → closed.IsFunctionOf items i
known items i chain (at_top i' chain' a e) = closed.directly i' (contained i' (inner_script items) a)
known items i chain (inside outer around i' chain' of a e) = closed.inside outer i' (known items outer around of) (contained i' (inner_function outer.kind outer.name outer.func) a)

-- ---- those directly in one are listed

pub in_script : (items : Stmts) (end : ℕ) (all : List Site) → AllSites (top_sites items end) all → (i : Inner) → Among i (inner_script items) → Among (record { inner = i; chain = chain_at (script_scopes items) [] i }) all
in_script items end all are i a =
    listed (top_sites items end) all (record { inner = i; chain = chain_at (script_scopes items) [] i }) are (site_for (chain_at (script_scopes items) []) (inner_script items) i a)

pub in_function : (items : Stmts) (end : ℕ) (all : List Site) → AllSites (top_sites items end) all → (s : Site) → Among s all → (i : Inner) → Among i (inner_function s.inner.kind s.inner.name s.inner.func)
    → Among (record { inner = i; chain = chain_at (function_scopes s.inner.kind s.inner.name s.inner.func) s.chain i }) all
in_function items end all are s at i a =
    let chain = chain_at (function_scopes s.inner.kind s.inner.name s.inner.func) s.chain in
    listed_inside (top_sites items end) all s (record { inner = i; chain = chain i }) are at (site_for chain (inner_function s.inner.kind s.inner.name s.inner.func) i a)
