-- What each step of a worker does.
use Rattle.std.proofs.Common.{◌≡◌, ℕ, List, [], ◌∷◌, ◌++◌, Result, Ok, Err, IfOk, refl, ap, ◌∙◌, arith}
use Rattle.helper_tasks.specs.declared.handles.Handles.{Handles}
use Rattle.helper_tasks.specs.declared.helper.WorkerDesk.{WorkerDesk}
use Rattle.helper_tasks.specs.declared.helper.Helper.{Helper}
use Rattle.helper_tasks.specs.Count.{times}
use Rattle.helper_tasks.specs.Handles.{Place}
use Rattle.helper_tasks.specs.Hands.{Moved}
use Rattle.helper_tasks.specs.Desks.{tasks_of, InOrder, Lists, Ready, Works}
use Rattle.helper_tasks.proofs.Counts.{times-append}
use Rattle.helper_tasks.proofs.Moves.{same_refl, same_then}

module _ {S O N : Type 0} (fits : S → Type 0) (gives : ℕ → O → Type 0) (ran : S → List ℕ) (queue : Place) where
  pub works_stay : (h : Helper S O N) (xs : List ℕ) → Ready fits gives queue h → Works fits gives ran queue h h xs xs
  works_stay h xs r = record { ready = r; same = same_refl h.handles; rest_is = refl; lists = λ start l. l; moves = λ x. refl }

  pub works_then : (a b c : Helper S O N) (xs ys zs : List ℕ) → Works fits gives ran queue a b xs ys → Works fits gives ran queue b c ys zs → Works fits gives ran queue a c xs zs
  works_then a b c xs ys zs p q = record {
    ready = q.ready;
    same = same_then a.handles b.handles c.handles p.same q.same;
    rest_is = q.rest_is ∙ p.rest_is;
    lists = λ start l. q.lists start (p.lists start l);
    moves = λ x. let i = p.moves x in let j = q.moves x in omega arith;
  }

  -- what else is in hand makes no difference
  pub works_beside : (a b : Helper S O N) (xs ys ws : List ℕ) → Works fits gives ran queue a b xs ys → Works fits gives ran queue a b (xs ++ ws) (ys ++ ws)
  works_beside a b xs ys ws p = record {
    ready = p.ready;
    same = p.same;
    rest_is = p.rest_is;
    lists = p.lists;
    moves = λ x. let i = p.moves x in omega (arith, times-append x xs ws, times-append x ys ws);
  }

  -- the worker uses its handles
  pub works_moved : (h : Helper S O N) (b : Handles N) (xs ys : List ℕ) → Ready fits gives queue h → Moved h.handles b xs ys → Works fits gives ran queue h (record h { handles = b }) xs ys
  works_moved h b xs ys r m = record {
    ready = record { equipped = m.equipped; fetches_from = m.same.injector ∙ r.fetches_from; in_order = r.in_order };
    same = m.same;
    rest_is = refl;
    lists = λ start l. l;
    moves = λ x. let i = m.moves x in omega arith;
  }

  -- the worker runs a task
  pub works_run : (h : Helper S O N) (d : WorkerDesk S O) (t : ℕ) → Ready fits gives queue h → InOrder fits gives d → ((start : List ℕ) → Lists ran start h.desk → Lists ran start d)
      → tasks_of d.made.items ≡ tasks_of h.desk.made.items ++ t ∷ [] → Works fits gives ran queue h (record h { desk = d }) (t ∷ []) []
  works_run h d t r o l e = record {
    ready = record { equipped = r.equipped; fetches_from = r.fetches_from; in_order = o };
    same = same_refl h.handles;
    rest_is = refl;
    lists = l;
    moves = λ x. let i = ap (times x) e in omega (arith, times-append x (tasks_of h.desk.made.items) (t ∷ []));
  }

  pub works_ran : {U E : Type 0} (h : Helper S O N) (d : WorkerDesk S O) (t : ℕ) (r : Result U E) → Ready fits gives queue h → IfOk r (λ _. InOrder fits gives d) → IfOk r (λ _. (start : List ℕ) → Lists ran start h.desk → Lists ran start d)
      → IfOk r (λ _. tasks_of d.made.items ≡ tasks_of h.desk.made.items ++ t ∷ []) → IfOk r (λ _. Works fits gives ran queue h (record h { desk = d }) (t ∷ []) [])
  works_ran h d t (Ok u) ready o l e = works_run h d t ready o l e
  works_ran h d t (Err e) ready o l e' = tt
