-- Where the bodies that were gained are braced bodies by the grammar, so is the part, with its bodies read in place.
use Rattle.std.proofs.Common.{◌≡◌, ◌∙◌, ℕ, suc, ◌+◌, ◌-◌, List, [], ◌∷◌, ◌++◌, map, min, refl, sym, ap, subst, arith, Bool, false, Option}
use Rattle.script_grammar.specs.declared.node.NodeFunc.{NodeFunc}
use Rattle.script_grammar.specs.declared.token.FuncForm.{FuncForm}
use Rattle.script_grammar.specs.Fault.{depth_limit}
use Rattle.script_grammar.specs.Interpretation.{Interpretation}
use Rattle.script_grammar.specs.Lexeme.{Lexeme}
use Rattle.script_grammar.specs.Pieces.{whole, depths}
use Rattle.script_grammar.specs.Print.{print, print_function}
use Rattle.script_grammar.specs.Script.{IsBody, print_braced}
use Rattle.script_grammar.specs.Shows.{ShowAll, ShowFunc}
use Rattle.script_grammar.specs.Tree.{Named, Expr, Stmts, Function}
use Rattle.script_grammar.specs.Tree as tree
use Rattle.grammar_parser_specs.specs.Parser.{Read, Recorded, head_of}
use Rattle.grammar_parser_specs.specs.Exprs.{BodyRead}
use Rattle.grammar_parser_specs.specs.Filling.{fill_stmts}
use Rattle.grammar_parser_laws.proofs.Complete.{bare}
use Rattle.grammar_complete_laws.proofs.CompleteFunctions.{PlainForm}
use Rattle.grammar_script_laws.proofs.PartLaws.{NoneDeep}
use Rattle.grammar_deferred_laws.proofs.PassedBodies.{pass_braced}
use Rattle.grammar_deferred_laws.proofs.PassedHeads.{pass_head}
use Rattle.grammar_deferred_laws.proofs.PassedParts.{pass_assign, pass_expression}
use Rattle.grammar_deferred_laws.proofs.AloneLaws.{body_is, read_is_assign, read_is_expression, read_is_body}
use Rattle.parse_pending_laws.proofs.ListsStmts.{in_inside}
use Rattle.parse_exprs.specs.declared.place.Pending.{Pending}
use Rattle.parse_exprs.specs.declared.source.Source.{Source}
use Rattle.parse_exprs.specs.Answers.{recorded}
use Rattle.parse_exprs.specs.Env.{body_at}
use Rattle.parse_exprs.specs.Source.{front}
use Rattle.parse_parts.specs.Pending.{HasStatements, HaveStatements, WholeAssign, WholeExpression, WholeHead, WholeBody}
use Rattle.parse_parts.proofs.HeadLaws.{read_is_head}
use Rattle.parse_parts.proofs.InnerBodies.{ReadsTo, reads_to, assign_in_place, expression_in_place, head_in_place, body_in_its_place}
use Rattle.parse_parts.proofs.Takes.{given}

-- a body by the grammar is read so
has_reads : (i : Interpretation) (s : Source) (b : Pending) (items : Stmts) → HasStatements i s b items → ReadsTo (recorded s i b) items
has_reads i s b items h = subst (ReadsTo (recorded s i b)) h.are (by h.taken.tokens h.behind h.taken.part.end h.taken.part.items h.taken.part.next h.next h.taken.split h.taken.part.is (subst NoneDeep h.taken.part.deep_is h.taken.shallow))
  where
    room : depth_limit - b.depth + min b.depth depth_limit ≡ depth_limit
    room = omega arith

    by : (u rest : List Lexeme) (end : ℕ) (items : Stmts) (next : Lexeme) → next ≡ head_of rest → front s i b.token ≡ u ++ rest → (is : IsBody whole (min b.depth depth_limit) end u next items) → NoneDeep (depths (print_braced whole (min b.depth depth_limit) end items) u next is.fits) → ReadsTo (recorded s i b) items
    by u rest end items next e f =
        subst (λ x. (is : IsBody whole (min b.depth depth_limit) end u x items) → NoneDeep (depths (print_braced whole (min b.depth depth_limit) end items) u x is.fits) → ReadsTo (recorded s i b) items) (sym e)
        (λ is k. reads_to (recorded s i b) (min b.depth depth_limit) room items end u rest f is k)

pub have_read : (i : Interpretation) (s : Source) (bodies : List Pending) (inner : List Stmts) → HaveStatements i s bodies inner → ShowAll ReadsTo (map (recorded s i) bodies) inner
have_read i s [] [] h = tt
have_read i s [] (items ∷ inner) h = absurd h
have_read i s (b ∷ bodies) [] h = absurd h
have_read i s (b ∷ bodies) (items ∷ inner) h = (has_reads i s b items h.0, have_read i s bodies inner h.1)

module _ (i : Interpretation) (room d : ℕ) (q : room + d ≡ depth_limit) (ts us : List Lexeme) (rs : List Recorded) (inner : List Stmts) (r : ShowAll ReadsTo rs inner) where
  module _ {E : Type 0} (shows : E → Expr → Type 0) (w : Bool) (node : E) (e : Expr) (s : shows node e) where
    pub whole_assign : pass_assign (body_at i) (given i) room w ts ≡ Read e rs us → WholeAssign i shows w d ts us node inner
    whole_assign h =
        let p = assign_in_place (body_at i) (given i) room w ts us e rs inner h r in
        let t = read_is_assign room d q w ts us p.value (ap bare p.reads) in
        record {
          taken = record { tokens = t.front; split = t.split; deep = depths (print whole (suc d) p.value) t.front (head_of us) t.is.fits; part = record { next = head_of us; tree = p.value; is = t.is; deep_is = refl }; shallow = t.shallow };
          next = refl;
          shown = subst (shows node) p.are.same s;
          are = p.order;
        }

    pub whole_expression : pass_expression (body_at i) (given i) room w ts ≡ Read e rs us → WholeExpression i shows w d ts us node inner
    whole_expression h =
        let p = expression_in_place (body_at i) (given i) room w ts us e rs inner h r in
        let t = read_is_expression room d q w ts us p.value (ap bare p.reads) in
        record {
          taken = record { tokens = t.front; split = t.split; deep = depths (print whole (suc d) p.value) t.front (head_of us) t.is.fits; part = record { next = head_of us; tree = p.value; is = t.is; deep_is = refl }; shallow = t.shallow };
          next = refl;
          shown = subst (shows node) p.are.same s;
          are = p.order;
        }

  module _ {E B : Type 0} (shows : E → Expr → Type 0) (shows_body : B → Stmts → Type 0) (f : FuncForm) (name : Option Named) (plain : PlainForm f) (node : NodeFunc E B) (x : Function) (s : ShowFunc i shows shows_body node x) where
    pub whole_head : pass_head (body_at i) (given i) room d f name plain ts ≡ Read x rs us → WholeHead i shows shows_body f name d ts us node inner
    whole_head h =
        let p = head_in_place (body_at i) (given i) room f name ts us x rs inner h r in
        let t = read_is_head room d f name plain q ts us p.value (ap bare p.reads) in
        record {
          taken = record {
            tokens = t.front;
            split = t.split;
            deep = depths (print_function whole d p.value) t.front (head_of us) t.is.fits;
            part = record { next = head_of us; tree = p.value; is = record { of = t.is.of; proper = t.is.proper; fits = t.is.fits }; deep_is = refl };
            shallow = t.shallow;
          };
          next = refl;
          shown = subst (ShowFunc i shows shows_body node) p.are.same s;
          are = p.order;
        }

  items_same : (a b : Stmts) → tree.BracedBody a ≡ tree.BracedBody b → a ≡ b
  items_same a b e = cc

  module _ {B : Type 0} (shows : B → Stmts → Type 0) (f : FuncForm) (start : ℕ) (simple : Bool) (node : B) (items : Stmts) (end : ℕ) (s : shows node items) where
    pub whole_body : pass_braced (body_at i) (given i) room f start simple ts ≡ Read (body_is items end) rs us → WholeBody i shows d end ts us node inner
    whole_body h =
        let p = body_in_its_place (body_at i) (given i) room f start simple ts us (body_is items end) rs inner h r in
        let t = read_is_body room d q f start simple ts us p.value (ap bare p.reads) in
        let same : t.items ≡ p.are.items = items_same t.items p.are.items (sym (ap (λ (x : BodyRead). x.body) t.body_are) ∙ p.are.first) in
        record {
          taken = record { tokens = t.front; split = t.split; deep = depths (print_braced whole d p.value.end t.items) t.front (head_of us) t.is.fits; part = record { next = head_of us; end = p.value.end; items = t.items; is = t.is; deep_is = refl }; shallow = t.shallow };
          next = refl;
          ends = sym p.are.ends;
          shown = subst (shows node) (items_same items (fill_stmts (body_at i) t.items) (p.are.second ∙ ap (λ x. tree.BracedBody (fill_stmts (body_at i) x)) (sym same))) s;
          are = ap (λ x. in_inside false x []) (sym (ap (λ (x : BodyRead). x.body) t.body_are)) ∙ p.order;
        }
