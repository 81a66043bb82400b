-- A decision with true answers has the reply and the parts of the tree.
use Rattle.std.proofs.Common.{◌≡◌, ◌≤◌, ◌<◌, ◌⊎◌, inl, inr, ⊎_elim, ℕ, true, is_some, Option, Some, None, Result, Ok, Err, List, [], ◌∷◌, refl, sym, ap, ◌∙◌, subst, arith}
use Rattle.std.specs.List.{AllByRecursion}
use Rattle.std.specs.FinMap.{get}
use Rattle.std.specs.Option.{option_map}
use Rattle.fid_space.specs.declared.fid.Fid.{Fid}
use Rattle.tree_model.specs.declared.node.Node.{Node}
use Rattle.tree_model.specs.declared.op.Op.{Op}
use Rattle.tree_model.specs.declared.op.Op.TheVariants as ops
use Rattle.tree_model.specs.declared.errno.Errno.{Errno}
use Rattle.tree_model.specs.declared.reply.Reply.{Reply}
use Rattle.tree_model.specs.declared.reply.Reply.TheVariants as replies
use Rattle.tree_model.specs.Tree.{Tree, named}
use Rattle.tree_model.specs.Changes.{Change, changed_all}
use Rattle.tree_model.specs.Keys.{NodeKey, Laid, layout_at}
use Rattle.tree_model.specs.Laws.{Among}
use Rattle.tree_model.specs.Looks.{looks, changes}
use Rattle.tree_model.specs.Participants.{home_of}
use Rattle.tree_model.specs.Step.{op_fault, op_changes, op_reply, checked, step}
use Rattle.update_record.specs.Spelling.{targets_from}
use Rattle.striped_dir.specs.declared.plan.Decision.{Decision}
use Rattle.striped_dir.specs.declared.plan.Step.{Step}
use Rattle.striped_dir.specs.declared.plan.Step.TheVariants as steps
use Rattle.tree_sound.specs.Sound.{IsSound}
use Rattle.tree_sound.proofs.Faults.{decides}
use Rattle.tree_shares.specs.Updates.{op_updates, unless_none, updates, placed, placed_updates}
use Rattle.tree_shares.proofs.Parting.{parts_are_on}
use Rattle.plan_base.specs.declared.outcome.Outcome.{Outcome}
use Rattle.plan_base.specs.declared.question.Question.{Question}
use Rattle.plan_base.specs.declared.question.Stop.{Stop}
use Rattle.plan_base.specs.declared.question.Stop.TheVariants as stop
use Rattle.plan_base.specs.Told.{Told}
use Rattle.plan_base.specs.Asks.{AskValue}
use Rattle.plan_base.specs.Planning.{found_node, found_value, asks}
use Rattle.plan_base.specs.Planners.{reached, step_at, decision_of, refusal_of, parts_from}
use Rattle.plan_base.specs.Updates.{Placed}
use Rattle.plan_laws.specs.Truth.{seen_node, over, questions, first_open, or_outcome}
use Rattle.plan_laws.proofs.Reaching.{reaching}
use Rattle.plan_shares.specs.Decisions.{IsWriting}
use Rattle.plan_shares.specs.Replies.{ComesTo}
use Rattle.plan_shares.proofs.Every.{writers_reply}
use Rattle.plan_shares.proofs.Replies.{matches, replies_are}
use Rattle.plan_parts.specs.Parts.{IsTrees, DecisionsAreTheTrees}
use Rattle.plan_parts.proofs.Parts.{ones, parts_are}
use Rattle.plan_parts.proofs.Over.{Gives, given, to_directory, to_node, to_value, to_entry, to_refuse, to_settle, to_found, to_there}
use Rattle.plan_parts.proofs.Ops.{Are, gives_create, gives_mkdir, gives_link, gives_unlink, gives_rmdir, gives_setattr, gives_setxattr, gives_delxattr}
use Rattle.plan_parts.proofs.Questions.{ValueHas, values_have}
use Rattle.plan_parts.proofs.Renames.{gives_rename}
use Rattle.plan_parts.proofs.Migrates.{gives_migrate}

-- ---- what settles

-- a node that is there, and at whose key the operation looks
abbrev pub Looked : ℕ → Laid → Op → Fid → Type 0
Looked targets l op f = Among (looks targets l.tree op) (NodeKey f) × (is_some (get l.tree.nodes f) ≡ true)

module _ (targets : ℕ) (some : 1 ≤ targets) (few : targets ≤ 16) (most : ℕ) (l : Laid) (sound : IsSound targets most l) (bound : most < 0x0ffffffe) (batch : ℕ) where
  abbrev t : Tree
  t = l.tree

  -- operations that may change something come to the updates of the tree
  low : most ≤ 0x0ffffffe
  low = let b = bound in omega (arith, b)

  op_gives : (op : Op) → IsWriting op
      → Gives l (Looked targets l op) (Are targets some few most l sound low batch (Looked targets l op) (unless_none (op_changes t op) (op_updates targets batch l op))) (asks targets batch op)
  op_gives (ops.Create p x f) w = gives_create targets some few most l sound low batch _ p x f
  op_gives (ops.Mkdir p x f s) w = gives_mkdir targets some few most l sound low batch _ p x f s
  op_gives (ops.Link p x f) w = gives_link targets some few most l sound low batch _ p x f
  op_gives (ops.Unlink p x) w = gives_unlink targets some few most l sound low batch _ p x
  op_gives (ops.Rmdir p x) w = gives_rmdir targets some few most l sound low batch _ p x
  op_gives (ops.Rename p x q y) w = gives_rename targets some few most l sound low batch _ p x q y
  op_gives (ops.SetAttr f m u g) w = gives_setattr targets some few most l sound low batch _ f m u g _
  op_gives (ops.SetXattr f x v) w = gives_setxattr targets some few most l sound low batch _ f x v _ (λ n e. (inl refl, ap is_some e))
  op_gives (ops.DelXattr f x) w = gives_delxattr targets some few most l sound low batch _ f x _ (λ n e. (inl refl, ap is_some e))
  op_gives (ops.Migrate d c i) w = gives_migrate targets some few most l sound bound batch _ d c i
  op_gives (ops.Lookup p x) w = absurd w
  op_gives (ops.GetAttr f) w = absurd w
  op_gives (ops.GetXattr f x) w = absurd w

-- a read comes to no update
Reads : ℕ → ℕ → Laid → Op → Type 0
Reads targets batch l op = (op_updates targets batch l op ≡ []) × Gives l (Looked targets l op) (λ o. o.placed ≡ []) (asks targets batch op)

writes_or_reads : (targets batch : ℕ) (l : Laid) (op : Op) → IsWriting op ⊎ Reads targets batch l op
unfolding Reads
writes_or_reads targets batch l (ops.Create p x f) = inl tt
writes_or_reads targets batch l (ops.Mkdir p x f s) = inl tt
writes_or_reads targets batch l (ops.Link p x f) = inl tt
writes_or_reads targets batch l (ops.Unlink p x) = inl tt
writes_or_reads targets batch l (ops.Rmdir p x) = inl tt
writes_or_reads targets batch l (ops.Rename p x q y) = inl tt
writes_or_reads targets batch l (ops.SetAttr f m u g) = inl tt
writes_or_reads targets batch l (ops.SetXattr f x v) = inl tt
writes_or_reads targets batch l (ops.DelXattr f x) = inl tt
writes_or_reads targets batch l (ops.Migrate d c i) = inl tt
writes_or_reads targets batch l (ops.Lookup p x) = inr (refl, to_directory p _ (λ n e d. to_entry p _ x _ (to_found (named l.tree p x) _ (λ c e. to_settle _ refl))))
writes_or_reads targets batch l (ops.GetAttr f) = inr (refl, to_node f _ (to_there _ _ (λ n. to_settle _ refl)))
writes_or_reads targets batch l (ops.GetXattr f x) = inr (refl, to_node f _ (by_node (get l.tree.nodes f) refl))
  where
    by_value : (v : Option (List ℕ)) → Gives l (Looked targets l (ops.GetXattr f x)) (λ o. o.placed ≡ []) (found_value v)
    by_value None = to_refuse _
    by_value (Some v) = to_settle _ refl

    by_node : (o : Option Node) → get l.tree.nodes f ≡ o
        → Gives l (Looked targets l (ops.GetXattr f x)) (λ o. o.placed ≡ []) (found_node (option_map (seen_node (layout_at l f)) o) (λ seen. AskValue f x found_value))
    by_node None e = to_refuse _
    by_node (Some n) e = to_value f x _ (inl refl, ap is_some e) by_value

-- values are asked of nodes that are looked at
pub values_looked : (targets most batch : ℕ) (l : Laid) (op : Op) → 1 ≤ targets → targets ≤ 16 → IsSound targets most l → most < 0x0ffffffe
    → AllByRecursion (ValueHas (Looked targets l op)) (questions l (asks targets batch op))
unfolding Reads
values_looked targets most batch l op some few sound bound =
    let a = asks targets batch op in
    ⊎_elim (λ w. values_have l (Looked targets l op) _ a (op_gives targets some few most l sound bound batch op w).all) (λ r. values_have l (Looked targets l op) _ a r.1.all) (writes_or_reads targets batch l op)

-- an operation that may change something is done or refused
writer_done : (t : Tree) (op : Op) → IsWriting op → op_reply t op ≡ replies.Ok
writer_done t (ops.Create p x f) w = refl
writer_done t (ops.Mkdir p x f s) w = refl
writer_done t (ops.Link p x f) w = refl
writer_done t (ops.Unlink p x) w = refl
writer_done t (ops.Rmdir p x) w = refl
writer_done t (ops.Rename p x q y) w = refl
writer_done t (ops.SetAttr f m u g) w = refl
writer_done t (ops.SetXattr f x v) w = refl
writer_done t (ops.DelXattr f x) w = refl
writer_done t (ops.Migrate d c i) w = refl
writer_done t (ops.Lookup p x) w = absurd w
writer_done t (ops.GetAttr f) w = absurd w
writer_done t (ops.GetXattr f x) w = absurd w

err_done : {X : Type 0} (e : Errno) → ◌≡◌ {A = Reply} (replies.Err e) replies.Ok → X
err_done e h = cc

no_more : {A B : Type 0} (cs : List A) (us : List B) → us ≡ [] → unless_none cs us ≡ []
no_more [] us h = refl
no_more (c ∷ cs) us h = h

-- a refused operation has no updates
refused_none : (targets batch : ℕ) (l : Laid) (op : Op) (e : Errno) → replies.Err e ≡ (step targets l.tree op).1 → updates targets batch l op ≡ []
unfolding Reads
refused_none targets batch l op e h = by_fault (op_fault targets l.tree op) refl h
  where
    by_fault : (f : Option Errno) → op_fault targets l.tree op ≡ f → replies.Err e ≡ (checked f l.tree (changed_all l.tree (op_changes l.tree op), op_reply l.tree op)).1 → updates targets batch l op ≡ []
    by_fault None is k = ⊎_elim (λ w. err_done e (k ∙ writer_done l.tree op w)) (λ r. no_more (changes targets l.tree op) (op_updates targets batch l op) r.0) (writes_or_reads targets batch l op)
    by_fault (Some x) is k = ap (λ cs. unless_none cs (op_updates targets batch l op)) (decides targets l.tree op (Some x) is)

-- ---- decisions

answered : (t : Told) (qs : List Question) (r : Result Outcome Stop) (o : Outcome) → or_outcome (first_open t qs) r ≡ Ok o → r ≡ Ok o
answered t qs r o h = by_open (first_open t qs) h
  where
    by_open : (q : Option Question) → or_outcome q r ≡ Ok o → r ≡ Ok o
    by_open None k = k
    by_open (Some q) k = cc

module _ (targets most batch : ℕ) (l : Laid) (op : Op) (some : 1 ≤ targets) (few : targets ≤ 16) (sound : IsSound targets most l) (bound : most < 0x0ffffffe) where
  trees_with : (o : Outcome) → o.reply ≡ (step targets l.tree op).1 → o.placed ≡ ones (placed_updates targets batch l op) → IsTrees targets batch l op (decision_of targets op o)
  trees_with o reply e =
      let same = ap (λ (ps : List Placed). parts_from (home_of targets op) ps 0 targets) e ∙ parts_are targets most batch l op (some, few) sound in
      record { reply = reply; parts = same; on = ap (λ ps. targets_from 0 ps) same ∙ (parts_are_on targets batch l op some).0 }

  done_ones : (t : Told) (o : Outcome) → reached targets batch op t ≡ Ok o → over l (asks targets batch op) ≡ Ok o → o.reply ≡ (step targets l.tree op).1
      → o.placed ≡ ones (placed_updates targets batch l op)
  unfolding Reads
  done_ones t o r e reply = ⊎_elim
      (λ w. by_fault w (op_fault targets l.tree op) refl reply)
      (λ r. given l _ (λ o. o.placed ≡ []) (asks targets batch op) r.1 o e ∙ sym (ap (λ us. ones (placed targets us)) (no_more (changes targets l.tree op) (op_updates targets batch l op) r.0)))
      (writes_or_reads targets batch l op)
    where
      by_fault : IsWriting op → (f : Option Errno) → op_fault targets l.tree op ≡ f → o.reply ≡ (checked f l.tree (changed_all l.tree (op_changes l.tree op), op_reply l.tree op)).1
          → o.placed ≡ ones (placed_updates targets batch l op)
      by_fault w None h k =
          given l _ _ (asks targets batch op) (op_gives targets some few most l sound bound batch op w) o e
          ∙ ap (λ (cs : List Change). ones (placed targets (unless_none cs (op_updates targets batch l op)))) (sym (decides targets l.tree op None h))
      by_fault w (Some x) h k = err_done x (sym k ∙ writers_reply targets batch op t o w r)

pub decisions_are : DecisionsAreTheTrees
decisions_are targets most batch l op t d some few sound bound true_of h = by_reached (reached targets batch op t) refl (replies_are targets most batch l op t sound true_of) h
  where
    decided_is : (a b : Decision) → ◌≡◌ {A = Step} (steps.Decided a) (steps.Decided b) → a ≡ b
    decided_is a b e = cc

    by_reached : (r : Result Outcome Stop) → reached targets batch op t ≡ r → ComesTo targets l op r → step_at targets op r ≡ steps.Decided d → IsTrees targets batch l op d
    by_reached (Ok o) e reply k =
        let m = matches targets most batch l op sound in
        let over_is = answered t (questions l (asks targets batch op)) (over l (asks targets batch op)) o (sym (reaching l t true_of (asks targets batch op) m.same.2) ∙ e) in
        subst (IsTrees targets batch l op) (decided_is (decision_of targets op o) d k)
        (trees_with targets most batch l op some few sound bound o reply (done_ones targets most batch l op some few sound bound t o e over_is reply))
    by_reached (Err (stop.Refused x)) e reply k =
        subst (IsTrees targets batch l op) (decided_is (decision_of targets op (refusal_of (replies.Err x))) d k)
        (trees_with targets most batch l op some few sound bound (refusal_of (replies.Err x)) reply (sym (ap (λ us. ones (placed targets us)) (refused_none targets batch l op x reply))))
    by_reached (Err (stop.Ask q)) e reply k = cc
    by_reached (Err stop.Memory) e reply k = absurd reply
