-- What a clause of a `switch` stands for, and the fact that holds of it.
use Rattle.std.proofs.Common.{◌≡◌, List, [], ◌∷◌, ◌++◌, refl, subst, Option, Some, None}
use Rattle.script_grammar.specs.Lexeme.{Lexeme}
use Rattle.script_grammar.specs.Shows.{ShowAll, ShowMaybe, MaybeOf, ClauseOf, ShowClause}
use Rattle.script_grammar.specs.Tree.{Expr, Stmt}
use Rattle.script_grammar.specs.TreeLists.{Clause}
use Rattle.script_grammar.specs.declared.node.NodeClause.{NodeClause}
use Rattle.grammar_parser_specs.specs.Parser.{Recorded, Reply, Turn, Again}
use Rattle.parse_exprs.specs.Answers.{ReadAs}
use Rattle.parse_bodies.specs.Means.{MaybeClauseOf}

module _ {E S : Type 0} (shows : E → Expr → Type 0) (shows_stmt : S → Stmt → Type 0) where
  abbrev of : Option Expr → List Stmt → Clause
  of o ss = record { test = o; items = ss }

  clause_gives : (n : NodeClause E S) (k : Clause → Type 0) → ClauseOf shows shows_stmt n k → (c : Clause) × ShowClause shows shows_stmt n c × k c
  clause_gives n k h = gives n.test h
    where
      gives : (o : Option E) → MaybeOf shows o (λ t. (ss : List Stmt) × ShowAll shows_stmt n.items.items ss × k (of t ss)) → (c : Clause) × MaybeOf shows o (λ t. (ss : List Stmt) × ShowAll shows_stmt n.items.items ss × (c ≡ of t ss)) × k c
      gives None m = (of None m.0, (m.0, m.1, refl), m.2)
      gives (Some e) m = (of (Some m.0) m.2.0, (m.0, m.1, (m.2.0, m.2.1, refl)), m.2.2)

  -- and back
  clause_stands : (n : NodeClause E S) (c : Clause) (k : Clause → Type 0) → ShowClause shows shows_stmt n c → k c → ClauseOf shows shows_stmt n k
  clause_stands n c k h p = back n.test h
    where
      back : (o : Option E) → MaybeOf shows o (λ t. (ss : List Stmt) × ShowAll shows_stmt n.items.items ss × (c ≡ of t ss)) → MaybeOf shows o (λ t. (ss : List Stmt) × ShowAll shows_stmt n.items.items ss × k (of t ss))
      back None m = (m.0, m.1, subst k m.2 p)
      back (Some e) m = (m.0, m.1, (m.2.0, m.2.1, subst k m.2.2 p))

  maybe_clause_gives : (o : Option (NodeClause E S)) (k : Option Clause → Type 0) → MaybeClauseOf shows shows_stmt o k → (t : Option Clause) × ShowMaybe (ShowClause shows shows_stmt) o t × k t
  maybe_clause_gives None k h = (None, tt, h)
  maybe_clause_gives (Some n) k h = let x = clause_gives n (λ c. k (Some c)) h in (Some x.0, x.1, x.2)

  maybe_clause_stands : (o : Option (NodeClause E S)) (t : Option Clause) (k : Option Clause → Type 0) → ShowMaybe (ShowClause shows shows_stmt) o t → k t → MaybeClauseOf shows shows_stmt o k
  maybe_clause_stands None None k h p = p
  maybe_clause_stands None (Some c) k h p = absurd h
  maybe_clause_stands (Some n) None k h p = absurd h
  maybe_clause_stands (Some n) (Some c) k h p = clause_stands n c (λ x. k (Some x)) h p

  -- the same of what was read

  module _ {rs qs : List Recorded} {us : List Lexeme} where
    pub clause_read : (n : NodeClause E S) {r : Reply Clause} → ClauseOf shows shows_stmt n (λ c. ReadAs rs r c qs us) → (c : Clause) × ShowClause shows shows_stmt n c × ReadAs rs r c qs us
    clause_read n {r} h = clause_gives n (λ c. ReadAs rs r c qs us) h

    pub clause_turn_read : {B : Type 0} (n : NodeClause E S) {r : Reply (Turn Clause B)} → ClauseOf shows shows_stmt n (λ c. ReadAs rs r (Again c) qs us) → (c : Clause) × ShowClause shows shows_stmt n c × ReadAs rs r (Again c) qs us
    clause_turn_read n {r} h = clause_gives n (λ c. ReadAs rs r (Again c) qs us) h

    pub clause_made : {A : Type 0} (n : NodeClause E S) (f : Clause → A) {c : Clause} {r : Reply A} → ShowClause shows shows_stmt n c → ReadAs rs r (f c) qs us → ClauseOf shows shows_stmt n (λ x. ReadAs rs r (f x) qs us)
    clause_made n f {c} {r} h p = clause_stands n c (λ x. ReadAs rs r (f x) qs us) h p

    pub maybe_clause_read : {A : Type 0} (o : Option (NodeClause E S)) (f : Option Clause → A) {r : Reply A} → MaybeClauseOf shows shows_stmt o (λ t. ReadAs rs r (f t) qs us) → (t : Option Clause) × ShowMaybe (ShowClause shows shows_stmt) o t × ReadAs rs r (f t) qs us
    maybe_clause_read o f {r} h = maybe_clause_gives o (λ t. ReadAs rs r (f t) qs us) h

    pub maybe_clause_made : {A : Type 0} (o : Option (NodeClause E S)) (f : Option Clause → A) {t : Option Clause} {r : Reply A} → ShowMaybe (ShowClause shows shows_stmt) o t → ReadAs rs r (f t) qs us → MaybeClauseOf shows shows_stmt o (λ x. ReadAs rs r (f x) qs us)
    maybe_clause_made o f {t} {r} h p = maybe_clause_stands o t (λ x. ReadAs rs r (f x) qs us) h p

-- a node that may be left out, where it is known

pub none_shown : {E A : Type 0} (for : E → A → Type 0) (o : Option A) → ShowMaybe for None o → o ≡ None
none_shown for None h = refl
none_shown for (Some a) h = absurd h

pub some_shown : {E A : Type 0} (for : E → A → Type 0) (e : E) (o : Option A) → ShowMaybe for (Some e) o → (a : A) × for e a × (o ≡ Some a)
some_shown for e None h = absurd h
some_shown for e (Some a) h = (a, h, refl)

-- nodes after nodes
pub all_joined : {E A : Type 0} (for : E → A → Type 0) (es fs : List E) (xs ys : List A) → ShowAll for es xs → ShowAll for fs ys → ShowAll for (es ++ fs) (xs ++ ys)
all_joined for [] fs [] ys h k = k
all_joined for [] fs (x ∷ xs) ys h k = absurd h
all_joined for (e ∷ es) fs [] ys h k = absurd h
all_joined for (e ∷ es) fs (x ∷ xs) ys h k = (h.0, all_joined for es fs xs ys h.1 k)
