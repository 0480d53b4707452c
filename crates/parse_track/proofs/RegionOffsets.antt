-- The rules at one region, where it declares nothing, or no parameters.
use Rattle.std.proofs.Common.{◌≡◌, ℕ, false, cond, ◌||◌, Option, None, List, [], ◌∷◌, ◌++◌, map, nat_eq, refl, sym, ap, ◌∙◌, append-nil, append_assoc}
use Rattle.std.specs.List.{filter_map, list_any}
use Rattle.script_grammar.specs.declared.tree.Ident.{Ident}
use Rattle.parse_track.specs.declared.names.Asked.{Asked}
use Rattle.parse_track.specs.declared.names.Asked.TheVariants as asked
use Rattle.parse_track.specs.declared.track.Item as RegionRow
use Rattle.parse_track.specs.declared.track.Item.TheVariants as row
use Rattle.parse_track.specs.Told.{Name, Region, Told, KnownNames}
use Rattle.parse_track.specs.RegionNames.{is_lexical, is_block, is_body, directly, lexical_below}
use Rattle.parse_track.specs.EarlyErrors.{smaller, smallest, repeated, also_in, reserved, lambda_name}
use Rattle.parse_track.specs.Log.{Part, name_of, told_region}
use Rattle.parse_track.specs.Rows.{item_of, items_at}
use Rattle.parse_track.specs.Asked.{asks, asked_in, is_declared}
use Rattle.parse_track.specs.Rules.{RegionRule, TwiceLexical, CatchAndLexical, ParamAndLexical, TwiceParam, BindsReserved, rule_of}
use Rattle.parse_track.proofs.Items.{directly_filtered}
use Rattle.parse_track.proofs.Smallest.{smallest-append}

-- items that declare nothing
none_filtered : (a : Asked) (items : List RegionRow.Item) → list_any is_declared items ≡ false → filter_map (asked_in a) items ≡ []
none_filtered a [] e = refl
none_filtered a (row.Declared _ _ ∷ items) e = cc
none_filtered a (row.Used _ ∷ items) e = none_filtered a items e
none_filtered a (row.Jumped _ _ ∷ items) e = none_filtered a items e
none_filtered a (row.JumpedTo _ _ _ ∷ items) e = none_filtered a items e
none_filtered a (row.Inner _ ∷ items) e = none_filtered a items e

pub none_declared : (parts : List Part) (room n : ℕ) (items : List RegionRow.Item) → map item_of items ≡ items_at room parts n → list_any is_declared items ≡ false
    → (a : Asked) → directly (asks a) (told_region room parts n) ≡ []
none_declared parts room n items e h a = directly_filtered parts room n a items e ∙ ap (map name_of) (none_filtered a items h)

-- no name is among none
pub also_none : (ys : List (Name ℕ)) → also_in nat_eq [] ys ≡ []
also_none [] = refl
also_none (y ∷ ys) = also_none ys

pub also_no_params : (params ys : List (Name ℕ)) (xs : List Ident) → map name_of xs ≡ params → xs ≡ [] → None ≡ smallest (also_in nat_eq params ys)
also_no_params params ys xs e h = sym (ap (λ (zs : List (Name ℕ)). smallest (also_in nat_eq zs ys)) (sym e ∙ ap (map name_of) h) ∙ ap smallest (also_none ys))

reserved-append : (known : KnownNames ℕ) (xs ys : List (Name ℕ)) → reserved nat_eq known (xs ++ ys) ≡ reserved nat_eq known xs ++ reserved nat_eq known ys
reserved-append known [] ys = refl
reserved-append known (x ∷ xs) ys =
    let here : List ℕ = cond (nat_eq x.name known.eval || nat_eq x.name known.arguments) (x.at ∷ []) [] in
    ap (λ (zs : List ℕ). here ++ zs) (reserved-append known xs ys) ∙ sym (append_assoc here (reserved nat_eq known xs) (reserved nat_eq known ys))

-- the name of a function expression, and the names that a region declares
pub both_reserved : (known : KnownNames ℕ) (xs ys zs : List (Name ℕ)) (own inside : Option ℕ) → own ≡ smallest (reserved nat_eq known xs) → inside ≡ smallest (reserved nat_eq known ys) → ys ≡ zs
    → smaller own inside ≡ smallest (reserved nat_eq known (xs ++ zs))
both_reserved known xs ys zs own inside e f g =
    ap (λ (o : Option ℕ). smaller o inside) e
    ∙ (ap (smaller (smallest (reserved nat_eq known xs))) (f ∙ ap (λ (ns : List (Name ℕ)). smallest (reserved nat_eq known ns)) g)
    ∙ sym (ap smallest (reserved-append known xs zs) ∙ smallest-append (reserved nat_eq known xs) (reserved nat_eq known zs)))

-- an offset of the last rule alone
abbrev pub only : Option ℕ → RegionRule → Option ℕ
only first BindsReserved = first
only first _ = None

-- of a region that declares nothing only the name before it counts
pub offset_without_names : (known : KnownNames ℕ) (k : Region ℕ) (first : Option ℕ) (told : Told ℕ) → first ≡ smallest (reserved nat_eq known (lambda_name k)) → ((a : Asked) → directly (asks a) told ≡ [])
    → (rule : RegionRule) → only first rule ≡ smallest (rule_of rule known k told)
offset_without_names known k first told e none TwiceLexical = sym (ap (λ (ns : List (Name ℕ)). smallest (repeated nat_eq [] ns)) (none asked.Lexical))
offset_without_names known k first told e none CatchAndLexical =
    sym (ap (λ (ns : List (Name ℕ)). smallest (also_in nat_eq ns (lexical_below is_block told))) (none asked.Catch) ∙ ap smallest (also_none (lexical_below is_block told)))
offset_without_names known k first told e none ParamAndLexical =
    sym (ap (λ (ns : List (Name ℕ)). smallest (also_in nat_eq ns (directly is_lexical told ++ lexical_below is_body told))) (none asked.Param)
    ∙ ap smallest (also_none (directly is_lexical told ++ lexical_below is_body told)))
offset_without_names known k first told e none TwiceParam = sym (ap (λ (ns : List (Name ℕ)). smallest (repeated nat_eq [] ns)) (none asked.Param))
offset_without_names known k first told e none BindsReserved =
    e ∙ ap (λ (ns : List (Name ℕ)). smallest (reserved nat_eq known ns)) (sym (append-nil (lambda_name k)) ∙ ap (λ (ns : List (Name ℕ)). lambda_name k ++ ns) (sym (none asked.All)))
