-- The names that a loop has read so far, and how the last of them ends.
use Rattle.std.proofs.Common.{◌≡◌, ◌∙◌, List, [], ◌∷◌, ◌++◌, refl, sym, ap}
use Rattle.script_grammar.specs.Endings.{binds_ending}
use Rattle.script_grammar.specs.Interpretation.{Interpretation}
use Rattle.script_grammar.specs.Lexeme.{Lexeme}
use Rattle.script_grammar.specs.Pieces as pieces
use Rattle.script_grammar.specs.Shows.{ShowAll, ShowBind}
use Rattle.script_grammar.specs.Tree.{Expr}
use Rattle.script_grammar.specs.TreeLists.{Bind, binds_of}
use Rattle.script_grammar.specs.declared.node.NodeBind.{NodeBind}
use Rattle.grammar_parser_specs.specs.Parser.{Recorded, Reply, Parser, Turn, Again, Stop, Many, led}
use Rattle.grammar_parser_laws.proofs.Local.{Gains}
use Rattle.parse_exprs.specs.Answers.{ReadAs}
use Rattle.parse_exprs.proofs.Loops.{Looping, looping_led, looping_again, looping_stop}
use Rattle.parse_bodies.specs.declared.ending.StmtEnding.{StmtEnding}
use Rattle.parse_bodies.specs.declared.part.EndedBind.{EndedBind}
use Rattle.parse_bodies.specs.Means.{stmt_ending, ShowEnded}
use Rattle.parse_bodies.proofs.Parts.{ended_bind_shows}

-- how a statement ends with the last of these, or so
pub last_of : {E : Type 0} → pieces.Ending → List (EndedBind E) → pieces.Ending
last_of e [] = e
last_of e (v ∷ vs) = last_of (stmt_ending v.ending) vs

pub nodes_of : {E : Type 0} → List (EndedBind E) → List (NodeBind E)
nodes_of [] = []
nodes_of (v ∷ vs) = v.bind ∷ nodes_of vs

last_more : {E : Type 0} (e : pieces.Ending) (vs : List (EndedBind E)) (v : EndedBind E) → last_of e (vs ++ v ∷ []) ≡ stmt_ending v.ending
unfolding last_of
last_more e [] v = refl
last_more e (x ∷ vs) v = last_more (stmt_ending x.ending) vs v

nodes_more : {E : Type 0} (vs : List (EndedBind E)) (v : EndedBind E) → nodes_of (vs ++ v ∷ []) ≡ nodes_of vs ++ v.bind ∷ []
unfolding nodes_of
nodes_more [] v = refl
nodes_more (x ∷ vs) v = ap (λ y. x.bind ∷ y) (nodes_more vs v)

module _ {E : Type 0} (i : Interpretation) (shows : E → Expr → Type 0) where
  all_nodes : (vs : List (EndedBind E)) (bs : List Bind) → ShowAll (ShowEnded i shows) vs bs → ShowAll (ShowBind i shows) (nodes_of vs) bs
  unfolding nodes_of
  all_nodes [] [] h = tt
  all_nodes [] (b ∷ bs) h = absurd h
  all_nodes (v ∷ vs) [] h = absurd h
  all_nodes (v ∷ vs) (b ∷ bs) h = ((ended_bind_shows i shows v b h.0).0, all_nodes vs bs h.1)

  all_ending : (e : pieces.Ending) (vs : List (EndedBind E)) (bs : List Bind) → ShowAll (ShowEnded i shows) vs bs → last_of e vs ≡ binds_ending e (binds_of bs)
  unfolding last_of
  all_ending e [] [] h = refl
  all_ending e [] (b ∷ bs) h = absurd h
  all_ending e (v ∷ vs) [] h = absurd h
  all_ending e (v ∷ vs) (b ∷ bs) h = ap (λ x. last_of x vs) (ended_bind_shows i shows v b h.0).1 ∙ all_ending _ vs bs h.1

  pub record BindsSoFar (turn : Parser (Turn Bind (Unit {0}))) (ns : List Recorded) (start : Reply (Many Bind (Unit {0}))) (rs : List Recorded) (us : List Lexeme) (items : List (NodeBind E)) (ending : StmtEnding) : Type 0 where
    pub read_so_far : List (EndedBind E)
    pub looping : Looping (ShowEnded i shows) turn ns start rs us read_so_far
    pub nodes : items ≡ nodes_of read_so_far
    pub last : stmt_ending ending ≡ last_of pieces.BareBinding read_so_far

  pub binds_init : (turn : Parser (Turn Bind (Unit {0}))) (rs : List Recorded) (us : List Lexeme) (v : EndedBind E) (b : Bind) → ShowEnded i shows v b → BindsSoFar turn rs (led turn b us) rs us (v.bind ∷ []) v.ending
  unfolding last_of nodes_of
  binds_init turn rs us v b h = record { read_so_far = v ∷ []; looping = looping_led (ShowEnded i shows) turn rs us v b h; nodes = refl; last = refl }

  pub binds_again : {turn : Parser (Turn Bind (Unit {0}))} {ns : List Recorded} {start : Reply (Many Bind (Unit {0}))} {rs qs : List Recorded} {us vs : List Lexeme} {items : List (NodeBind E)} {ending : StmtEnding} (v : EndedBind E) (b : Bind)
      → Gains turn → BindsSoFar turn ns start rs us items ending → ReadAs rs (turn us) (Again b) qs vs → ShowEnded i shows v b → BindsSoFar turn ns start qs vs (items ++ v.bind ∷ []) v.ending
  binds_again v b g s t h = record {
    read_so_far = s.read_so_far ++ v ∷ [];
    looping = looping_again v b g s.looping t h;
    nodes = ap (λ y. y ++ v.bind ∷ []) s.nodes ∙ sym (nodes_more s.read_so_far v);
    last = sym (last_more pieces.BareBinding s.read_so_far v);
  }

  pub binds_stop : {turn : Parser (Turn Bind (Unit {0}))} {ns : List Recorded} {start : Reply (Many Bind (Unit {0}))} {rs qs : List Recorded} {us vs : List Lexeme} {items : List (NodeBind E)} {ending : StmtEnding}
      → BindsSoFar turn ns start rs us items ending → ReadAs rs (turn us) (Stop tt) qs vs → (bs : List Bind) × ShowAll (ShowBind i shows) items bs × (stmt_ending ending ≡ binds_ending pieces.BareBinding (binds_of bs)) × ReadAs ns start (record { items = bs; last = tt }) qs vs
  binds_stop s t =
      let x = looping_stop tt s.looping t in
      (x.0, rw s.nodes (all_nodes s.read_so_far x.0 x.1), s.last ∙ all_ending pieces.BareBinding s.read_so_far x.0 x.1, x.2)
