-- The updates that the checks of each operation come to are those of the tree.
use Rattle.std.proofs.Common.{inr, ◌≡◌, ◌≤◌, is_some, ℕ, Bool, true, false, if◌then◌else◌, Option, Some, None, List, [], ◌∷◌, ◌++◌, refl, sym, ap, ◌∙◌}
use Rattle.std.proofs.lemmas.List.{append_assoc}
use Rattle.std.specs.Option.{option_map, unwrap_or}
use Rattle.std.specs.FinMap.{get}
use Rattle.fid_space.specs.declared.fid.Fid.{Fid}
use Rattle.fid_space.specs.Places.{place_of, is_client}
use Rattle.tree_model.specs.declared.node.Node.{Node}
use Rattle.tree_model.specs.declared.op.Op.TheVariants as ops
use Rattle.tree_model.specs.declared.reply.Reply.TheVariants as replies
use Rattle.tree_model.specs.declared.errno.Errno.TheVariants.{EISDIR, ENOTDIR, ENODATA}
use Rattle.tree_model.specs.Tree.{Tree, named, file_node, directory_in}
use Rattle.tree_model.specs.Step.{client_fault, layout_fault, taken_fault, absent_fault, is_dir, unlinked, changed_node}
use Rattle.tree_model.specs.Keys.{Laid, layout_at, plain_layout}
use Rattle.object_store.specs.Meaning.{is_directory}
use Rattle.out_update.specs.declared.update.Update.{Update}
use Rattle.out_update.specs.declared.update.Kind.TheVariants as kind
use Rattle.striped_dir.specs.Parts.{made_stripes, destroy_of}
use Rattle.striped_dir.specs.Layouts.{laid}
use Rattle.tree_sound.specs.Sound.{IsSound}
use Rattle.tree_sound.proofs.Basics.{some_none}
use Rattle.tree_sound.proofs.Faults.{client_none}
use Rattle.tree_sound.proofs.Story.{there_named}
use Rattle.tree_shares.specs.Updates.{update, part_named, created_node, created_stripes, destroyed_stripes, gone_node, gone, layout_of_stripes, op_updates, unless_none, placed}
use Rattle.tree_shares.specs.Updates.{inserted as tree_inserted, deleted as tree_deleted}
use Rattle.op_laws.proofs.Names.{node_placed}
use Rattle.plan_base.specs.declared.seen.Seen.{Seen}
use Rattle.plan_base.specs.declared.outcome.Outcome.{Outcome}
use Rattle.plan_base.specs.Asks.{Asks, AskNode, AskValue, AskEmpty, Refuse, Settle}
use Rattle.plan_base.specs.Places.{node_place, entry_at, stripes_gone}
use Rattle.plan_base.specs.Planning.{check, found, found_node, as_directory, empty_fault, space_fault, link_fault, settled, inserted, deleted, released, is_dir_seen, asks}
use Rattle.plan_base.specs.Updates.{Placed, on_target, directory_body, create_update, insert_update, delete_update, xattr_set_update, ref_del_update, ref_add_update, xattr_del_update, attr_set_update}
use Rattle.plan_laws.specs.Truth.{kept, kind_of_node, seen_node, seen_of}
use Rattle.plan_parts.proofs.Parts.{ones}
use Rattle.plan_parts.proofs.Placing.{put, made_all, placed_node, placed_entry, gone_all, first_is}
use Rattle.plan_parts.proofs.Over.{Gives, to_directory, to_node, to_value, to_entry, to_empty, to_refuse, to_settle, to_check}

module _ (targets : ℕ) (some : 1 ≤ targets) (few : targets ≤ 16) (most : ℕ) (l : Laid) (sound : IsSound targets most l) (bound : most ≤ 0x0ffffffe) (batch : ℕ) (Q : Fid → Type 0) where
  abbrev t : Tree
  t = l.tree

  abbrev pub See : Fid → Node → Seen
  See f n = seen_node (layout_at l f) n

  abbrev pub SeeAt : Fid → Option Node → Option Seen
  SeeAt f o = option_map (seen_node (layout_at l f)) o

  -- the updates of an outcome, each beside the place of its object
  abbrev pub Are : List Update → Outcome → Type 0
  Are us o = o.placed ≡ ones (placed targets us)

  -- ---- one update

  pub node_put : (f : Fid) (n : Node) (u : Update) (ps : List Placed) (us : List Update) → get t.nodes f ≡ Some n → u.fid ≡ f → ps ≡ ones (placed targets us)
      → (on_target (node_place targets f) u ∷ ps) ≡ ones (placed targets (u ∷ us))
  node_put f n u ps us e is h = put targets (node_place targets f) u ps us (ap (λ g. place_of targets g) is ∙ placed_node targets some few most l sound bound f n e) h

  client_place : (f : Fid) → is_client targets f ≡ true → place_of targets f ≡ Some (node_place targets f)
  client_place f c = let p = node_placed targets f (inr c) in p.1 ∙ sym (ap (λ o. Some (unwrap_or o 0)) p.1)

  pub inserted_put : (d : Fid) (n : Node) (x : List ℕ) (f : Fid) (ps : List Placed) (us : List Update) → is_dir (get t.nodes d) ≡ true → ps ≡ ones (placed targets us)
      → (inserted targets batch d (See d n) x f ∷ ps) ≡ ones (placed targets (tree_inserted targets batch d (layout_at l d) x f ∷ us))
  inserted_put d n x f ps us dir h =
      let e = placed_entry targets some few most l sound bound d x dir in
      let target = (entry_at targets d (layout_at l d) x).0 in
      ap (λ g. (target, insert_update batch g x f ∷ []) ∷ ps) e.object
      ∙ put targets target (insert_update batch (part_named targets d (layout_at l d) x) x f) ps us e.place h

  pub deleted_put : (d : Fid) (n : Node) (x : List ℕ) (ps : List Placed) (us : List Update) → is_dir (get t.nodes d) ≡ true → ps ≡ ones (placed targets us)
      → (deleted targets batch d (See d n) x ∷ ps) ≡ ones (placed targets (tree_deleted targets batch d (layout_at l d) x ∷ us))
  deleted_put d n x ps us dir h =
      let e = placed_entry targets some few most l sound bound d x dir in
      let target = (entry_at targets d (layout_at l d) x).0 in
      ap (λ g. (target, delete_update batch g x ∷ []) ∷ ps) e.object
      ∙ put targets target (delete_update batch (part_named targets d (layout_at l d) x) x) ps us e.place h

  -- ---- a node that goes

  directory_gone : (f : Fid) (n : Node) (ps : List Placed) (us : List Update) → get t.nodes f ≡ Some n → n.dir ≡ true → ps ≡ ones (placed targets us)
      → ((stripes_gone targets f (layout_at l f) batch ++ (on_target (node_place targets f) (destroy_of batch f) ∷ [])) ++ ps)
      ≡ ones (placed targets ((destroyed_stripes targets batch f (layout_at l f) ++ destroy_of batch f ∷ []) ++ us))
  directory_gone f n ps us e dir h =
      let last : List Placed = on_target (node_place targets f) (destroy_of batch f) ∷ [] in
      append_assoc (stripes_gone targets f (layout_at l f) batch) last ps
      ∙ gone_all targets some few most l sound bound batch f n (on_target (node_place targets f) (destroy_of batch f) ∷ ps) (destroy_of batch f ∷ us) e dir (node_put f n (destroy_of batch f) ps us e refl h)
      ∙ ap (λ vs. ones (placed targets vs)) (sym (append_assoc (destroyed_stripes targets batch f (layout_at l f)) (destroy_of batch f ∷ []) us))

  pub released_put : (f : Fid) (n : Node) (ps : List Placed) (us : List Update) → get t.nodes f ≡ Some n → ps ≡ ones (placed targets us)
      → (released targets batch f (Some (See f n)) ++ ps) ≡ ones (placed targets (gone_node targets batch f (layout_at l f) (Some n) ++ us))
  released_put f n ps us e h = by_dir n.dir refl
    where
      by_dir : (b : Bool) → n.dir ≡ b
          → ((if is_directory (kind_of_node b) then stripes_gone targets f (layout_at l f) batch ++ (on_target (node_place targets f) (destroy_of batch f) ∷ []) else on_target (node_place targets f) (ref_del_update batch f) ∷ []) ++ ps)
          ≡ ones (placed targets ((if b then destroyed_stripes targets batch f (layout_at l f) ++ destroy_of batch f ∷ [] else update kind.RefDel batch f [] ∷ []) ++ us))
      by_dir true dir = directory_gone f n ps us e dir h
      by_dir false dir = node_put f n (ref_del_update batch f) ps us e refl h

  -- ---- operations

  pub gives_create : (p : Fid) (x : List ℕ) (f : Fid) → Gives l Q (Are (op_updates targets batch l (ops.Create p x f))) (asks targets batch (ops.Create p x f))
  gives_create p x f =
      to_check (client_fault targets f) _ (λ c. to_directory p _ (λ n e d. to_entry p _ x _ (to_check (taken_fault (named t p x)) _ (λ _. to_node f _ (to_check (taken_fault (seen_of l f)) _ (λ _.
      to_settle _ (put targets (node_place targets f) (created_node batch f file_node plain_layout) (inserted targets batch p (See p n) x f ∷ []) (tree_inserted targets batch p (layout_at l p) x f ∷ []) (client_place f (client_none targets f c))
      (inserted_put p n x f [] [] (ap is_dir e ∙ d) refl))))))))

  pub gives_mkdir : (p : Fid) (x : List ℕ) (f : Fid) (s : Option (ℕ × ℕ)) → Gives l Q (Are (op_updates targets batch l (ops.Mkdir p x f s))) (asks targets batch (ops.Mkdir p x f s))
  gives_mkdir p x f s =
      to_check (client_fault targets f) _ (λ c. to_check (layout_fault targets s) _ (λ _. to_directory p _ (λ n e d. to_entry p _ x _ (to_check (taken_fault (named t p x)) _ (λ _. to_node f _ (to_check (taken_fault (seen_of l f)) _ (λ _.
      to_settle _ (
      let lay = layout_of_stripes s in
      let client = client_none targets f c in
      let rest : List Placed = inserted targets batch p (See p n) x f ∷ [] in
      ap (λ k. on_target (node_place targets f) (create_update batch f (directory_body p k)) ∷ (made_stripes targets f (laid k) batch ++ rest)) (first_is s)
      ∙ put targets (node_place targets f) (created_node batch f (directory_in p) lay) (made_stripes targets f lay batch ++ rest) (created_stripes targets batch f lay ++ tree_inserted targets batch p (layout_at l p) x f ∷ []) (client_place f client)
      (made_all targets some few batch f lay rest (tree_inserted targets batch p (layout_at l p) x f ∷ []) client (inserted_put p n x f [] [] (ap is_dir e ∙ d) refl))))))))))

  pub gives_link : (p : Fid) (x : List ℕ) (f : Fid) → Gives l Q (Are (op_updates targets batch l (ops.Link p x f))) (asks targets batch (ops.Link p x f))
  gives_link p x f = to_directory p _ (λ n e d. to_entry p _ x _ (to_check (taken_fault (named t p x)) _ (λ _. to_node f _ (by_node n (ap is_dir e ∙ d) (get t.nodes f) refl))))
    where
      by_node : (n : Node) → is_dir (get t.nodes p) ≡ true → (o : Option Node) → get t.nodes f ≡ o
          → Gives l Q (Are (op_updates targets batch l (ops.Link p x f)))
          (check (link_fault (SeeAt f o)) (Settle (settled replies.Ok (on_target (node_place targets f) (ref_add_update batch f) ∷ inserted targets batch p (See p n) x f ∷ []))))
      by_node n d None g = to_refuse _
      by_node n d (Some m) g = to_check (link_fault (Some (See f m))) _ (λ _. to_settle _ (node_put f m (ref_add_update batch f) (inserted targets batch p (See p n) x f ∷ []) (tree_inserted targets batch p (layout_at l p) x f ∷ []) g refl (inserted_put p n x f [] [] d refl)))

  abbrev pub Unlinks : Fid → List ℕ → Option Fid → Outcome → Type 0
  Unlinks p x o = Are (unless_none (unlinked t p x o) (tree_deleted targets batch p (layout_at l p) x ∷ gone targets batch l o))

  pub gives_unlink : (p : Fid) (x : List ℕ) → Gives l Q (Unlinks p x (named t p x)) (asks targets batch (ops.Unlink p x))
  gives_unlink p x = to_directory p _ (λ n e d. to_entry p _ x _ (by_name n (ap is_dir e ∙ d) (named t p x) refl))
    where
      by_node : (n : Node) → is_dir (get t.nodes p) ≡ true → (c : Fid) → named t p x ≡ Some c → (o : Option Node) → get t.nodes c ≡ o
          → Gives l Q (Are (tree_deleted targets batch p (layout_at l p) x ∷ gone_node targets batch c (layout_at l c) o))
          (check (if is_dir_seen (SeeAt c o) then Some EISDIR else None) (Settle (settled replies.Ok (deleted targets batch p (See p n) x ∷ on_target (node_place targets c) (ref_del_update batch c) ∷ []))))
      by_node n d c is None g = let there = there_named targets most l sound p x c is in some_none (get t.nodes c) there.0 there.1 g
      by_node n d c is (Some m) g = by_dir m.dir
        where
          by_dir : (b : Bool)
              → Gives l Q (Are (tree_deleted targets batch p (layout_at l p) x ∷ (if b then destroyed_stripes targets batch c (layout_at l c) ++ destroy_of batch c ∷ [] else update kind.RefDel batch c [] ∷ [])))
              (check (if is_directory (kind_of_node b) then Some EISDIR else None) (Settle (settled replies.Ok (deleted targets batch p (See p n) x ∷ on_target (node_place targets c) (ref_del_update batch c) ∷ []))))
          by_dir true = to_refuse _
          by_dir false = to_settle _ (deleted_put p n x (on_target (node_place targets c) (ref_del_update batch c) ∷ []) (update kind.RefDel batch c [] ∷ []) d (node_put c m (ref_del_update batch c) [] [] g refl refl))

      by_name : (n : Node) → is_dir (get t.nodes p) ≡ true → (o : Option Fid) → named t p x ≡ o
          → Gives l Q (Unlinks p x o) (found o (λ child. AskNode child (λ node. check (if is_dir_seen node then Some EISDIR else None)
          (Settle (settled replies.Ok (deleted targets batch p (See p n) x ∷ on_target (node_place targets child) (ref_del_update batch child) ∷ []))))))
      by_name n d None is = to_refuse _
      by_name n d (Some c) is = to_node c _ (by_node n d c is (get t.nodes c) refl)

  pub gives_rmdir : (p : Fid) (x : List ℕ) → Gives l Q (Unlinks p x (named t p x)) (asks targets batch (ops.Rmdir p x))
  gives_rmdir p x = to_directory p _ (λ n e d. to_entry p _ x _ (by_name n (ap is_dir e ∙ d) (named t p x) refl))
    where
      removed : Node → Fid → Seen → Bool → Asks
      removed n c old is_empty = check (empty_fault is_empty) (Settle (settled replies.Ok
          (deleted targets batch p (See p n) x ∷ (stripes_gone targets c (laid old.body.layout) batch ++ (on_target (node_place targets c) (destroy_of batch c) ∷ [])))))

      by_dir : (n : Node) → is_dir (get t.nodes p) ≡ true → (c : Fid) (m : Node) → get t.nodes c ≡ Some m → (b : Bool) → m.dir ≡ b
          → Gives l Q (Are (tree_deleted targets batch p (layout_at l p) x ∷ (if b then destroyed_stripes targets batch c (layout_at l c) ++ destroy_of batch c ∷ [] else update kind.RefDel batch c [] ∷ [])))
          (if is_directory (kind_of_node b) then AskEmpty c (kept (layout_at l c)) (removed n c (See c m)) else Refuse ENOTDIR)
      by_dir n d c m g true dir = to_empty c _ _ (λ b. to_check (empty_fault b) _ (λ _. to_settle _
          (deleted_put p n x (stripes_gone targets c (layout_at l c) batch ++ (on_target (node_place targets c) (destroy_of batch c) ∷ [])) (destroyed_stripes targets batch c (layout_at l c) ++ destroy_of batch c ∷ []) d
          (gone_all targets some few most l sound bound batch c m (on_target (node_place targets c) (destroy_of batch c) ∷ []) (destroy_of batch c ∷ []) g dir (node_put c m (destroy_of batch c) [] [] g refl refl)))))
      by_dir n d c m g false dir = to_refuse _

      by_node : (n : Node) → is_dir (get t.nodes p) ≡ true → (c : Fid) → named t p x ≡ Some c → (o : Option Node) → get t.nodes c ≡ o
          → Gives l Q (Are (tree_deleted targets batch p (layout_at l p) x ∷ gone_node targets batch c (layout_at l c) o))
          (as_directory (SeeAt c o) (λ old. AskEmpty c old.body.layout (removed n c old)))
      by_node n d c is None g = to_refuse _
      by_node n d c is (Some m) g = by_dir n d c m g m.dir refl

      by_name : (n : Node) → is_dir (get t.nodes p) ≡ true → (o : Option Fid) → named t p x ≡ o
          → Gives l Q (Unlinks p x o) (found o (λ child. AskNode child (λ node. as_directory node (λ old. AskEmpty child old.body.layout (removed n child old)))))
      by_name n d None is = to_refuse _
      by_name n d (Some c) is = to_node c _ (by_node n d c is (get t.nodes c) refl)

  -- a change of one node
  abbrev pub Changes : Fid → (Node → Node) → Update → Option Node → Outcome → Type 0
  Changes f change u o = Are (unless_none (changed_node f o change) (u ∷ []))

  pub gives_setattr : (f : Fid) (m u g : ℕ) (change : Node → Node) → Gives l Q (Changes f change (attr_set_update batch f m u g) (get t.nodes f)) (asks targets batch (ops.SetAttr f m u g))
  gives_setattr f m u g change = to_node f _ (by_node (get t.nodes f) refl)
    where
      by_node : (o : Option Node) → get t.nodes f ≡ o
          → Gives l Q (Changes f change (attr_set_update batch f m u g) o) (check (absent_fault (SeeAt f o)) (Settle (settled replies.Ok (on_target (node_place targets f) (attr_set_update batch f m u g) ∷ []))))
      by_node None e = to_refuse _
      by_node (Some n) e = to_settle _ (node_put f n (attr_set_update batch f m u g) [] [] e refl refl)

  pub gives_setxattr : (f : Fid) (x v : List ℕ) (change : Node → Node) → ((n : Node) → get t.nodes f ≡ Some n → Q f) → Gives l Q (Changes f change (xattr_set_update batch f x v) (get t.nodes f)) (asks targets batch (ops.SetXattr f x v))
  gives_setxattr f x v change there = to_node f _ (by_node (get t.nodes f) refl)
    where
      by_node : (o : Option Node) → get t.nodes f ≡ o
          → Gives l Q (Changes f change (xattr_set_update batch f x v) o)
          (found_node (SeeAt f o) (λ seen. AskValue f x (λ old. check (space_fault seen old) (Settle (settled replies.Ok (on_target (node_place targets f) (xattr_set_update batch f x v) ∷ []))))))
      by_node None e = to_refuse _
      by_node (Some n) e = to_value f x _ (there n e) (λ old. to_check (space_fault (See f n) old) _ (λ _. to_settle _ (node_put f n (xattr_set_update batch f x v) [] [] e refl refl)))

  pub gives_delxattr : (f : Fid) (x : List ℕ) (change : Node → Node) → ((n : Node) → get t.nodes f ≡ Some n → Q f) → Gives l Q (Changes f change (xattr_del_update batch f x) (get t.nodes f)) (asks targets batch (ops.DelXattr f x))
  gives_delxattr f x change there = to_node f _ (by_node (get t.nodes f) refl)
    where
      by_node : (o : Option Node) → get t.nodes f ≡ o
          → Gives l Q (Changes f change (xattr_del_update batch f x) o)
          (found_node (SeeAt f o) (λ seen. AskValue f x (λ old. check (if is_some old then None else Some ENODATA) (Settle (settled replies.Ok (on_target (node_place targets f) (xattr_del_update batch f x) ∷ []))))))
      by_node None e = to_refuse _
      by_node (Some n) e = to_value f x _ (there n e) (λ old. to_check (if is_some old then None else Some ENODATA) _ (λ _. to_settle _ (node_put f n (xattr_del_update batch f x) [] [] e refl refl)))
