-- Functions that were found, one part of a tree after the other.
use Rattle.std.proofs.Common.{◌≡◌, ℕ, List, [], ◌∷◌, ◌++◌, Option, map, option_map, refl, sym, ◌∙◌, ap, ap₂, append_assoc, append-nil}
use Rattle.std.proofs.lemmas.List.{map-append}
use Rattle.script_grammar.specs.declared.tree.Expr.{Expr}
use Rattle.script_grammar.specs.declared.tree.Func.{Func}
use Rattle.script_grammar.specs.declared.tree.Key.{Key}
use Rattle.script_grammar.specs.declared.tree.Prop.{Prop}
use Rattle.script_grammar.specs.declared.tree.Tail.{Tail}
use Rattle.script_grammar.specs.Interpretation.{Interpretation, text_of}
use Rattle.script_grammar.specs.Tree as model
use Rattle.script_grammar.specs.TreeOf.{expr_of, func_of, key_of, prop_of, tail_of}
use Rattle.stencil_data.specs.declared.functions.FuncKind.{FuncKind}
use Rattle.stencil_data.specs.LinkView.{LinkView}
use Rattle.scope_analysis.specs.Functions.{Inner, inner_expr, inner_key, inner_prop, inner_tail}
use Rattle.scope_inner.specs.declared.sites.FunctionSite.{FunctionSite}
use Rattle.scope_inner.specs.Finding.{FindsBy}
use Rattle.scope_inner.specs.Sites.{Sited, sited, sited_in}

pub found_none : {inner : Interpretation → List ℕ → List Inner} (old : List FunctionSite) (chain : List LinkView) → ((i : Interpretation) (r : List ℕ) → inner i r ≡ []) → FindsBy old old chain inner
found_none old chain none = record {
  finds = λ i. record {
    found = λ scopes outer around is. sym (append-nil (map (sited i) old)) ∙ ap (λ (l : List Inner). map (sited i) old ++ map (sited_in scopes outer) l) (sym (none i around));
  };
}

pub found_as : {a b : List FunctionSite} {chain : List LinkView} {x y : Interpretation → List ℕ → List Inner} → ((i : Interpretation) (r : List ℕ) → x i r ≡ y i r) → FindsBy a b chain x → FindsBy a b chain y
found_as {a} same f = record {
  finds = λ i. record {
    found = λ scopes outer around is. (f.finds i).found scopes outer around is ∙ ap (λ (l : List Inner). map (sited i) a ++ map (sited_in scopes outer) l) (same i around);
  };
}

pub found_both : {a b c : List FunctionSite} {chain : List LinkView} {x y : Interpretation → List ℕ → List Inner} → FindsBy a b chain x → FindsBy b c chain y → FindsBy a c chain (λ i r. x i r ++ y i r)
found_both {a} {x = x} {y} f g = record {
  finds = λ i. record {
    found = λ scopes outer around is.
        (g.finds i).found scopes outer around is
        ∙ (ap (λ (l : List Sited). l ++ map (sited_in scopes outer) (y i around)) ((f.finds i).found scopes outer around is)
        ∙ (append_assoc (map (sited i) a) (map (sited_in scopes outer) (x i around)) (map (sited_in scopes outer) (y i around))
        ∙ ap (λ (l : List Sited). map (sited i) a ++ l) (sym (map-append (sited_in scopes outer) (x i around) (y i around)))));
  };
}

-- one function
pub found_one : {old new : List FunctionSite} {chain : List LinkView} (site : FunctionSite) (f : Func) (kind : FuncKind) (name : Option ℕ) → new ≡ old ++ site ∷ [] → site.func.now ≡ f → site.kind ≡ kind → site.name ≡ name → site.chain ≡ chain
    → FindsBy old new chain (λ i around. record { func = func_of i f; kind = kind; name = option_map (text_of i) name; around = around } ∷ [])
found_one {old} site f kind name new_is func_is kind_is name_is chain_is = record {
  finds = λ i. record {
    found = λ scopes outer around is.
        ap (map (sited i)) new_is
        ∙ (map-append (sited i) old (site ∷ [])
        ∙ ap (λ (p : Sited). map (sited i) old ++ p ∷ [])
        (ap₂ (λ (g : Func) (k : FuncKind). record { func = func_of i g; kind = k; name = option_map (text_of i) site.name; chain = site.chain }) func_is kind_is
        ∙ ap₂ (λ (n : Option ℕ) (c : List LinkView). record { func = func_of i f; kind = kind; name = option_map (text_of i) n; chain = c }) name_is (chain_is ∙ is)));
  };
}

-- ---- lists: what was found, and what is left

pub record Going (start now : List FunctionSite) (chain : List LinkView) (all rest : Interpretation → List ℕ → List Inner) : Type 0 where
  pub done : Interpretation → List ℕ → List Inner
  pub finds : FindsBy start now chain done
  pub is : (i : Interpretation) (r : List ℕ) → done i r ++ rest i r ≡ all i r

pub going_begin : (now : List FunctionSite) (chain : List LinkView) (all : Interpretation → List ℕ → List Inner) → Going now now chain all all
going_begin now chain all = record { done = λ i r. []; finds = found_none now chain (λ i r. refl); is = λ i r. refl }

pub going_step : {start now next : List FunctionSite} {chain : List LinkView} {all rest later y : Interpretation → List ℕ → List Inner} → FindsBy now next chain y → ((i : Interpretation) (r : List ℕ) → rest i r ≡ y i r ++ later i r) → Going start now chain all rest → Going start next chain all later
going_step {later = later} {y} f split g = record {
  done = λ i r. g.done i r ++ y i r;
  finds = found_both g.finds f;
  is = λ i r. append_assoc (g.done i r) (y i r) (later i r) ∙ (ap (λ (l : List Inner). g.done i r ++ l) (sym (split i r)) ∙ g.is i r);
}

pub going_end : {start now : List FunctionSite} {chain : List LinkView} {all rest : Interpretation → List ℕ → List Inner} → ((i : Interpretation) (r : List ℕ) → rest i r ≡ []) → Going start now chain all rest → FindsBy start now chain all
going_end none g = found_as (λ i r. sym (append-nil (g.done i r)) ∙ (ap (λ (l : List Inner). g.done i r ++ l) (sym (none i r)) ∙ g.is i r)) g.finds

-- ---- a part, by the one of the model that it stands for

pub expr_is : {a b : List FunctionSite} {chain : List LinkView} {x : Interpretation → List ℕ → List Inner} (e : Expr) (m : Interpretation → model.Expr) → ((i : Interpretation) → expr_of i e ≡ m i) → ((i : Interpretation) (r : List ℕ) → x i r ≡ inner_expr (m i) r) → FindsBy a b chain x → FindsBy a b chain (λ i. inner_expr (expr_of i e))
expr_is e m is same f = found_as (λ i r. same i r ∙ sym (ap (λ (n : model.Expr). inner_expr n r) (is i))) f

pub expr_none : (old : List FunctionSite) (chain : List LinkView) (e : Expr) (m : Interpretation → model.Expr) → ((i : Interpretation) → expr_of i e ≡ m i) → ((i : Interpretation) (r : List ℕ) → inner_expr (m i) r ≡ []) → FindsBy old old chain (λ i. inner_expr (expr_of i e))
expr_none old chain e m is none = found_none old chain (λ i r. ap (λ (n : model.Expr). inner_expr n r) (is i) ∙ none i r)

pub key_is : {a b : List FunctionSite} {chain : List LinkView} {x : Interpretation → List ℕ → List Inner} (k : Key) (m : Interpretation → model.Key) → ((i : Interpretation) → key_of i k ≡ m i) → ((i : Interpretation) (r : List ℕ) → x i r ≡ inner_key (m i) r) → FindsBy a b chain x → FindsBy a b chain (λ i. inner_key (key_of i k))
key_is k m is same f = found_as (λ i r. same i r ∙ sym (ap (λ (n : model.Key). inner_key n r) (is i))) f

pub key_none : (old : List FunctionSite) (chain : List LinkView) (k : Key) (m : Interpretation → model.Key) → ((i : Interpretation) → key_of i k ≡ m i) → ((i : Interpretation) (r : List ℕ) → inner_key (m i) r ≡ []) → FindsBy old old chain (λ i. inner_key (key_of i k))
key_none old chain k m is none = found_none old chain (λ i r. ap (λ (n : model.Key). inner_key n r) (is i) ∙ none i r)

pub prop_is : {a b : List FunctionSite} {chain : List LinkView} {x : Interpretation → List ℕ → List Inner} (p : Prop) (m : Interpretation → model.Prop) → ((i : Interpretation) → prop_of i p ≡ m i) → ((i : Interpretation) (r : List ℕ) → x i r ≡ inner_prop (m i) r) → FindsBy a b chain x → FindsBy a b chain (λ i. inner_prop (prop_of i p))
prop_is p m is same f = found_as (λ i r. same i r ∙ sym (ap (λ (n : model.Prop). inner_prop n r) (is i))) f

pub prop_none : (old : List FunctionSite) (chain : List LinkView) (p : Prop) (m : Interpretation → model.Prop) → ((i : Interpretation) → prop_of i p ≡ m i) → ((i : Interpretation) (r : List ℕ) → inner_prop (m i) r ≡ []) → FindsBy old old chain (λ i. inner_prop (prop_of i p))
prop_none old chain p m is none = found_none old chain (λ i r. ap (λ (n : model.Prop). inner_prop n r) (is i) ∙ none i r)

pub tail_is : {a b : List FunctionSite} {chain : List LinkView} {x : Interpretation → List ℕ → List Inner} (t : Tail) (m : Interpretation → model.Tail) → ((i : Interpretation) → tail_of i t ≡ m i) → ((i : Interpretation) (r : List ℕ) → x i r ≡ inner_tail (m i) r) → FindsBy a b chain x → FindsBy a b chain (λ i. inner_tail (tail_of i t))
tail_is t m is same f = found_as (λ i r. same i r ∙ sym (ap (λ (n : model.Tail). inner_tail n r) (is i))) f

pub tail_none : (old : List FunctionSite) (chain : List LinkView) (t : Tail) (m : Interpretation → model.Tail) → ((i : Interpretation) → tail_of i t ≡ m i) → ((i : Interpretation) (r : List ℕ) → inner_tail (m i) r ≡ []) → FindsBy old old chain (λ i. inner_tail (tail_of i t))
tail_none old chain t m is none = found_none old chain (λ i r. ap (λ (n : model.Tail). inner_tail n r) (is i) ∙ none i r)
