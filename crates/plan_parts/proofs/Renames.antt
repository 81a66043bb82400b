-- The same of a rename.
use Rattle.std.proofs.Common.{◌≡◌, ◌≤◌, ◌&&◌, ◌||◌, not, ℕ, Bool, true, false, if◌then◌else◌, Option, Some, None, List, [], ◌∷◌, ◌++◌, refl, sym, ap, ◌∙◌, subst}
use Rattle.std.specs.FinMap.{get}
use Rattle.fid_space.specs.declared.fid.Fid.{Fid}
use Rattle.tree_model.specs.declared.node.Node.{Node}
use Rattle.tree_model.specs.declared.op.Op.TheVariants as ops
use Rattle.tree_model.specs.declared.reply.Reply.TheVariants as replies
use Rattle.tree_model.specs.Tree.{Tree, named, same_fid}
use Rattle.tree_model.specs.Changes.{Change, DropName, PutName}
use Rattle.tree_model.specs.Step.{kind_fault, same_place, same_node, is_dir, replaced, moved_node, renamed}
use Rattle.tree_model.specs.Keys.{Laid, layout_at}
use Rattle.striped_dir.specs.declared.layout.Layout.{Layout}
use Rattle.object_store.specs.Meaning.{is_directory}
use Rattle.out_update.specs.declared.update.Update.{Update}
use Rattle.out_update.specs.declared.update.Kind.TheVariants as kind
use Rattle.out_update.specs.Spelling.{fid_bytes}
use Rattle.tree_sound.specs.Sound.{IsSound}
use Rattle.tree_sound.proofs.Basics.{some_none}
use Rattle.tree_sound.proofs.Story.{there_named}
use Rattle.tree_shares.specs.Updates.{update, gone_node, gone, parent_updates, rename_updates, unless_none, placed}
use Rattle.tree_shares.specs.Updates.{inserted as tree_inserted, deleted as tree_deleted}
use Rattle.plan_base.specs.declared.seen.Seen.{Seen}
use Rattle.plan_base.specs.declared.outcome.Outcome.{Outcome}
use Rattle.plan_base.specs.Asks.{Asks, AskNode, AskDirectory, AskEmpty, Settle}
use Rattle.plan_base.specs.Places.{node_place}
use Rattle.plan_base.specs.Planning.{inserted as planned}
use Rattle.plan_base.specs.Planning.{parent_change, check, found, empty_fault, settled, released, is_dir_seen, layout_seen, Move, moved_with, over_asks, replace_asks, place_asks, move_asks, asks}
use Rattle.plan_base.specs.Updates.{Placed, on_target, parent_set_update}
use Rattle.plan_laws.specs.Truth.{kind_of_node}
use Rattle.plan_parts.proofs.Parts.{ones}
use Rattle.plan_parts.proofs.Over.{Gives, to_directory, to_node, to_entry, to_empty, to_walk, to_refuse, to_settle, to_check, to_if}
use Rattle.plan_parts.proofs.Ops.{See, SeeAt, Are, node_put, inserted_put, deleted_put, released_put}

module _ (targets : ℕ) (some : 1 ≤ targets) (few : targets ≤ 16) (most : ℕ) (l : Laid) (sound : IsSound targets most l) (bound : most ≤ 0x0ffffffe) (batch : ℕ) (Q : Fid → Type 0) where
  abbrev t : Tree
  t = l.tree

  abbrev Ones : List Update → Outcome → Type 0
  Ones us o = Are targets some few most l sound bound batch Q us o

  abbrev Saw : Fid → Node → Seen
  Saw f n = See targets some few most l sound bound batch Q f n

  -- another node is replaced, where the kinds allow it
  kinds_given : {P : Outcome → Type 0} (old : Fid) (layout : Layout) (a b : Bool) (o : Outcome) → P o
      → Gives l Q P (check (kind_fault a b) (if b then AskEmpty old layout (λ is_empty. check (empty_fault is_empty) (Settle o)) else Settle o))
  kinds_given old layout a b o h =
      to_check (kind_fault a b) _ (λ _. to_if b _ _ (λ _. to_empty old layout _ (λ e. to_check (empty_fault e) _ (λ _. to_settle o h))) (λ _. to_settle o h))

  -- a directory that gets another parent
  parent_put : (p q m : Fid) (n : Node) → get t.nodes m ≡ Some n
      → (if is_directory (kind_of_node n.dir) && not (same_fid p q) then on_target (node_place targets m) (parent_set_update batch m q) ∷ [] else [])
      ≡ ones (placed targets (parent_updates batch p q m (Some n)))
  parent_put p q m n e = by_dir n.dir (not (same_fid p q))
    where
      by_dir : (a b : Bool) → (if is_directory (kind_of_node a) && b then on_target (node_place targets m) (parent_set_update batch m q) ∷ [] else [])
          ≡ ones (placed targets (if a && b then update kind.ParentSet batch m (fid_bytes q ∷ []) ∷ [] else []))
      by_dir true true = node_put targets some few most l sound bound batch Q m n (parent_set_update batch m q) [] [] e refl refl
      by_dir true false = refl
      by_dir false b = refl

  module _ (p : Fid) (x : List ℕ) (q : Fid) (y : List ℕ) (m : Fid) (from to node : Node) (dir : is_dir (get t.nodes p) ≡ true) (into : is_dir (get t.nodes q) ≡ true) (there : get t.nodes m ≡ Some node) where
    abbrev move : Move
    move = record {
      targets = targets;
      batch = batch;
      parent = p;
      from = Saw p from;
      name = x;
      to_parent = q;
      to = Saw q to;
      to_name = y;
      moved = m;
      node = Some (Saw m node);
    }

    abbrev Behind : List Update → List Update
    Behind us = tree_deleted targets batch p (layout_at l p) x ∷ (us ++ (tree_inserted targets batch q (layout_at l q) y m ∷ parent_updates batch p q m (Some node)))

    moved_put : (ps : List Placed) (us : List Update) → ((qs : List Placed) (vs : List Update) → qs ≡ ones (placed targets vs) → (ps ++ qs) ≡ ones (placed targets (us ++ vs))) → Ones (Behind us) (moved_with move ps)
    unfolding moved_with
    moved_put ps us h =
        let later : List Placed = parent_change targets batch m (Some (Saw m node)) p q in
        let last = parent_updates batch p q m (Some node) in
        let qs : List Placed = planned targets batch q (Saw q to) y m ∷ later in
        let vs = tree_inserted targets batch q (layout_at l q) y m ∷ last in
        deleted_put targets some few most l sound bound batch Q p from x (ps ++ qs) (us ++ vs) dir
        (h qs vs (inserted_put targets some few most l sound bound batch Q q to y m later last into (parent_put p q m node there)))

    abbrev Big : Option Fid → List Change
    Big o = DropName p x ∷ (replaced t o ++ (PutName q y m ∷ moved_node p q m (Some node)))

    -- the outcomes of the rename, with what stands at the new name
    abbrev Renames : Bool → Option Fid → Outcome → Type 0
    Renames same o = Ones (unless_none (if same || same_node m o then [] else Big o) (Behind (gone targets batch l o)))

    over_given : (old : Fid) → named t q y ≡ Some old → Gives l Q (Renames false (Some old)) (over_asks move old)
    over_given old is = to_if (same_fid m old) _ _
        (λ s. to_settle _ (ap (λ b. ones (placed targets (unless_none (if b then [] else Big (Some old)) (Behind (gone targets batch l (Some old)))))) (sym s)))
        (λ s. subst (λ b. Gives l Q (Ones (unless_none (if b then [] else Big (Some old)) (Behind (gone targets batch l (Some old))))) rest) (sym s) (to_node old _ (by_other (get t.nodes old) refl)))
      where
        rest : Asks
        rest = AskNode old (λ other. check (kind_fault (is_dir_seen (Some (Saw m node))) (is_dir_seen other))
            (if is_dir_seen other then AskEmpty old (layout_seen other) (λ is_empty. check (empty_fault is_empty) (Settle (moved_with move (released targets batch old other))))
            else Settle (moved_with move (released targets batch old other))))

        by_other : (o : Option Node) → get t.nodes old ≡ o
            → Gives l Q (Ones (Behind (gone_node targets batch old (layout_at l old) o)))
            (check (kind_fault (is_dir_seen (Some (Saw m node))) (is_dir_seen (SeeAt targets some few most l sound bound batch Q old o)))
            (if is_dir_seen (SeeAt targets some few most l sound bound batch Q old o)
            then AskEmpty old (layout_seen (SeeAt targets some few most l sound bound batch Q old o)) (λ is_empty. check (empty_fault is_empty) (Settle (moved_with move (released targets batch old (SeeAt targets some few most l sound bound batch Q old o)))))
            else Settle (moved_with move (released targets batch old (SeeAt targets some few most l sound bound batch Q old o)))))
        by_other None g = let n = there_named targets most l sound q y old is in some_none (get t.nodes old) n.0 n.1 g
        by_other (Some n) g =
            let put = moved_put (released targets batch old (Some (Saw old n))) (gone_node targets batch old (layout_at l old) (Some n))
            (λ ps us h. released_put targets some few most l sound bound batch Q old n ps us g h) in
            kinds_given old (layout_seen (Some (Saw old n))) (is_dir_seen (Some (Saw m node))) (is_dir_seen (Some (Saw old n))) (moved_with move (released targets batch old (Some (Saw old n)))) put

    replace_given : (o : Option Fid) → named t q y ≡ o → Gives l Q (Renames false o) (replace_asks move o)
    replace_given None is = to_settle _ (moved_put [] [] (λ ps us h. h))
    replace_given (Some old) is = over_given old is

    move_given : (same : Bool) → same ≡ false → Gives l Q (Renames same (named t q y)) (move_asks move)
    move_given same h = subst (λ b. Gives l Q (Renames b (named t q y)) (move_asks move)) (sym h) (to_if _ _ _ (λ _. to_walk _ _ _ at_place) (λ _. at_place))
      where
        at_place : Gives l Q (Renames false (named t q y)) (place_asks move)
        at_place = to_entry q _ y _ (replace_given (named t q y) refl)

  abbrev RenamesAll : Fid → List ℕ → Fid → List ℕ → Option Fid → Outcome → Type 0
  RenamesAll p x q y o = Ones (unless_none (renamed t p x q y o) (rename_updates targets batch l p x q y o))

  pub gives_rename : (p : Fid) (x : List ℕ) (q : Fid) (y : List ℕ) → Gives l Q (RenamesAll p x q y (named t p x)) (asks targets batch (ops.Rename p x q y))
  gives_rename p x q y = to_directory p _ (λ n e d. to_entry p _ x _ (by_name n (ap is_dir e ∙ d) (named t p x) refl))
    where
      moves : Node → Node → Fid → Option Seen → Asks
      moves from to m node = move_asks (record {
        targets = targets;
        batch = batch;
        parent = p;
        from = Saw p from;
        name = x;
        to_parent = q;
        to = Saw q to;
        to_name = y;
        moved = m;
        node = node;
      })

      by_node : (from to : Node) → is_dir (get t.nodes p) ≡ true → is_dir (get t.nodes q) ≡ true → (m : Fid) → named t p x ≡ Some m → same_place p x q y ≡ false → (o : Option Node) → get t.nodes m ≡ o
          → Gives l Q (Ones (unless_none (if same_place p x q y || same_node m (named t q y) then [] else DropName p x ∷ (replaced t (named t q y) ++ (PutName q y m ∷ moved_node p q m o)))
          (tree_deleted targets batch p (layout_at l p) x ∷ (gone targets batch l (named t q y) ++ (tree_inserted targets batch q (layout_at l q) y m ∷ parent_updates batch p q m o)))))
          (moves from to m (SeeAt targets some few most l sound bound batch Q m o))
      by_node from to d k m is other None g = let n = there_named targets most l sound p x m is in some_none (get t.nodes m) n.0 n.1 g
      by_node from to d k m is other (Some n) g = move_given p x q y m from to n d k g (same_place p x q y) other

      by_name : (from : Node) → is_dir (get t.nodes p) ≡ true → (o : Option Fid) → named t p x ≡ o
          → Gives l Q (RenamesAll p x q y o) (found o (λ m. AskDirectory q (λ to. if same_place p x q y then Settle (settled replies.Ok []) else AskNode m (λ node. move_asks (record {
            targets = targets;
            batch = batch;
            parent = p;
            from = Saw p from;
            name = x;
            to_parent = q;
            to = to;
            to_name = y;
            moved = m;
            node = node;
          })))))
      by_name from d None is = to_refuse _
      by_name from d (Some m) is = to_directory q _ (λ to e k. to_if (same_place p x q y) _ _
          (λ s. to_settle _ (ap (λ b. ones (placed targets (unless_none (if b || same_node m (named t q y) then [] else DropName p x ∷ (replaced t (named t q y) ++ (PutName q y m ∷ moved_node p q m (get t.nodes m))))
          (rename_updates targets batch l p x q y (Some m))))) (sym s)))
          (λ s. to_node m _ (by_node from to d (ap is_dir e ∙ k) m is s (get t.nodes m) refl)))
