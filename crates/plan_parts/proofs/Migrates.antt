-- The same of a migrate.
use Rattle.std.proofs.Common.{◌≡◌, ◌≤◌, ◌<◌, ◌==◌, ◌&&◌, ⊎_elim, nat_lt, ℕ, zero, suc, Bool, true, false, if◌then◌else◌, Some, None, List, [], ◌∷◌, ◌++◌, length, refl, sym, ap, ◌∙◌, arith, append-nil}
use Rattle.std.proofs.lemmas.List.{append_assoc}
use Rattle.std.proofs.lemmas.Bool.Decides.{nat_tests}
use Rattle.std.proofs.Math.Dec.{eqb-suc-zero}
use Rattle.std.specs.List.{flat_map}
use Rattle.std.specs.FinMap.{get, entries, from_entries}
use Rattle.fid_space.specs.declared.fid.Fid.{Fid}
use Rattle.fid_space.specs.Places.{is_client}
use Rattle.tree_model.specs.declared.node.Node.{Node}
use Rattle.tree_model.specs.declared.errno.Errno.TheVariants.{EINVAL, EFBIG}
use Rattle.tree_model.specs.declared.op.Op.TheVariants as ops
use Rattle.tree_model.specs.Fids.{name_cmp}
use Rattle.tree_model.specs.Tree.{Names, names_of, same_fid, root_fid}
use Rattle.tree_model.specs.Step.{is_dir, stripes_fault}
use Rattle.tree_model.specs.Keys.{Layout, Laid, layout_at, layout_with}
use Rattle.out_update.specs.declared.update.Update.{Update}
use Rattle.striped_dir.specs.declared.layout.Layout.{Layout as Kept}
use Rattle.striped_dir.specs.Layouts.{FitsLayout}
use Rattle.striped_dir.specs.Parts.{FitsDirectory}
use Rattle.tree_sound.specs.Sound.{IsSound}
use Rattle.tree_sound.proofs.Basics.{no_self}
use Rattle.tree_sound.proofs.Faults.{unmet, stripes_none}
use Rattle.tree_sound.proofs.Keeping.{sound_node}
use Rattle.tree_sound.proofs.Story.{node_has_place}
use Rattle.tree_shares.specs.Updates.{created_stripes, destroyed_stripes, part_named, moved_entry, migrate_updates, op_updates, placed}
use Rattle.tree_shares.specs.Updates.{inserted as tree_inserted, deleted as tree_deleted}
use Rattle.plan_base.specs.Places.{node_place, entry_at, parts_of, stripes_made, stripes_gone}
use Rattle.plan_base.specs.Planning.{many_fault, migrate_fault, next_generation, next_layout, Migration, migrated, asks}
use Rattle.plan_base.specs.Planning.{moved_entry as planned_entry, taken_from, brought_to}
use Rattle.plan_base.specs.Updates.{Placed, on_target, insert_update, delete_update, layout_set_update}
use Rattle.plan_laws.specs.Truth.{kept, all_names_at}
use Rattle.plan_laws.proofs.Listing.{many_listed}
use Rattle.plan_parts.proofs.Listed.{all_listed_are_there}
use Rattle.plan_parts.proofs.Parts.{ones}
use Rattle.plan_parts.proofs.Placing.{put, EntryAt, fitting_entry, fitting_made, placed_node, placed_entry, gone_all}
use Rattle.plan_parts.proofs.Over.{Gives, to_directory, to_names, to_settle, to_check}

-- the layout after another one
next_is : (old : Layout) (c i : ℕ) → old.generation < 0x0ffffffe → next_layout (kept old) c i ≡ kept (layout_with c i (suc old.generation))
next_is old c i low =
    let g : next_generation old.generation ≡ suc old.generation = ap (λ b. if b then suc old.generation else old.generation) below in
    ap (λ n. with_generation c n) g ∙ by_count c
  where
    below : nat_lt old.generation 0x0ffffffe ≡ true
    below = grind (arith, nat_tests)

    with_generation : ℕ → ℕ → Kept
    with_generation c n = if c == 0 then record { count = 0; start = 0; generation = n } else record { count = c; start = i; generation = n }

    by_count : (c : ℕ) → (if c == 0 then record { count = 0; start = 0; generation = suc old.generation } else record { count = c; start = i; generation = suc old.generation })
        ≡ kept (layout_with c i (suc old.generation))
    by_count zero = refl
    by_count (suc c) = ap (λ (b : Bool). choose b) (eqb-suc-zero c)
      where
        choose : Bool → Kept
        choose b = if b then record { count = 0; start = 0; generation = suc old.generation } else record { count = suc c; start = i; generation = suc old.generation }

next_fits : (c i g targets : ℕ) → c ≤ targets → i < targets → targets ≤ 16 → g ≤ 0x0ffffffe → FitsLayout (layout_with c i g)
next_fits zero i g targets some below few last = record { count = omega arith; start = omega arith; plain = λ e. refl; generation = last }
next_fits (suc c) i g targets some below few last = record {
  count = omega (arith, some, few);
  start = omega (arith, below, few);
  plain = λ (e : suc c ≡ 0). absurd (omega (arith, e));
  generation = last;
}

few_asked : (told : List (List ℕ × Fid)) → many_fault told ≡ None → nat_lt 32 (length told) ≡ false
few_asked told h = (unmet (nat_lt 32 (length told)) EFBIG None h).0

module _ (targets : ℕ) (some : 1 ≤ targets) (few : targets ≤ 16) (most : ℕ) (l : Laid) (sound : IsSound targets most l) (bound : most < 0x0ffffffe) (batch : ℕ) (Q : Fid → Type 0) where
  low : most ≤ 0x0ffffffe
  low = let b = bound in omega (arith, b)

  module _ (d : Fid) (n : Node) (c i : ℕ) (there : get l.tree.nodes d ≡ Some n) (dir : n.dir ≡ true) (client : is_client targets d ≡ true) (count : c ≤ targets) (index : i < targets) where
    abbrev old : Layout
    old = layout_at l d

    abbrev new : Layout
    new = layout_with c i (suc (layout_at l d).generation)

    old_low : (layout_at l d).generation < 0x0ffffffe
    old_low = let a = (sound_node targets most l sound.each d n there).layout.migrations in let b = bound in omega (arith, a, b)

    fits : FitsDirectory targets d (layout_with c i (suc (layout_at l d).generation))
    fits = record {
      layout = next_fits c i (suc (layout_at l d).generation) targets count index few (let a = old_low in omega (arith, a));
      placed = node_has_place targets d (sound_node targets most l sound.each d n there).called;
      named = λ h. client;
    }

    -- the migration, by the layouts of the tree
    abbrev move : Migration
    move = record { targets = targets; batch = batch; directory = d; old = kept (layout_at l d); new = kept (layout_with c i (suc (layout_at l d).generation)) }

    taken_put : (x : List ℕ) (ps : List Placed) (us : List Update) → ps ≡ ones (placed targets us) → (taken_from move x ∷ ps) ≡ ones (placed targets (tree_deleted targets batch d old x ∷ us))
    taken_put x ps us h =
        let e = placed_entry targets some few most l sound low d x (ap is_dir there ∙ dir) in
        let target = (entry_at targets d (layout_at l d) x).0 in
        ap (λ g. (target, delete_update batch g x ∷ []) ∷ ps) e.object ∙ put targets target (delete_update batch (part_named targets d (layout_at l d) x) x) ps us e.place h

    brought_put : (x : List ℕ) (f : Fid) (ps : List Placed) (us : List Update) → ps ≡ ones (placed targets us) → (brought_to move x f ∷ ps) ≡ ones (placed targets (tree_inserted targets batch d new x f ∷ us))
    brought_put x f ps us h =
        let lay = layout_with c i (suc (layout_at l d).generation) in
        let e : EntryAt targets some few d lay x = fitting_entry targets some few d lay.count lay.start lay.generation x fits in
        let target = (entry_at targets d lay x).0 in
        ap (λ g. (target, insert_update batch g x f ∷ []) ∷ ps) e.object ∙ put targets target (insert_update batch (part_named targets d lay x) x f) ps us e.place h

    entry_put : (e : List ℕ × Fid) (ps : List Placed) (us : List Update) → ps ≡ ones (placed targets us)
        → (planned_entry move e ++ ps) ≡ ones (placed targets (moved_entry targets batch d old new e ++ us))
    entry_put e ps us h = by_test (old.count == 0)
      where
        by_test : (b : Bool) → ((if b then taken_from move e.0 ∷ brought_to move e.0 e.1 ∷ [] else brought_to move e.0 e.1 ∷ []) ++ ps)
            ≡ ones (placed targets ((if b then tree_deleted targets batch d old e.0 ∷ tree_inserted targets batch d new e.0 e.1 ∷ [] else tree_inserted targets batch d new e.0 e.1 ∷ []) ++ us))
        by_test true = taken_put e.0 (brought_to move e.0 e.1 ∷ ps) (tree_inserted targets batch d new e.0 e.1 ∷ us) (brought_put e.0 e.1 ps us h)
        by_test false = brought_put e.0 e.1 ps us h

    entries_put : (es : List (List ℕ × Fid)) (ps : List Placed) (us : List Update) → ps ≡ ones (placed targets us)
        → (flat_map (planned_entry move) es ++ ps) ≡ ones (placed targets (flat_map (moved_entry targets batch d old new) es ++ us))
    entries_put [] ps us h = h
    entries_put (e ∷ es) ps us h =
        append_assoc (planned_entry move e) (flat_map (planned_entry move) es) ps
        ∙ entry_put e (flat_map (planned_entry move) es ++ ps) (flat_map (moved_entry targets batch d old new) es ++ us) (entries_put es ps us h)
        ∙ ap (λ vs. ones (placed targets vs)) (sym (append_assoc (moved_entry targets batch d old new e) (flat_map (moved_entry targets batch d old new) es) us))

    moves_put : (es : List (List ℕ × Fid)) (ps : List Placed) (us : List Update) → ps ≡ ones (placed targets us)
        → ((if (old.count == 0) && (new.count == 0) then [] else flat_map (planned_entry move) es) ++ ps)
        ≡ ones (placed targets ((if (old.count == 0) && (new.count == 0) then [] else flat_map (moved_entry targets batch d old new) es) ++ us))
    moves_put es ps us h = by_test ((old.count == 0) && (new.count == 0))
      where
        by_test : (b : Bool) → ((if b then [] else flat_map (planned_entry move) es) ++ ps) ≡ ones (placed targets ((if b then [] else flat_map (moved_entry targets batch d old new) es) ++ us))
        by_test true = h
        by_test false = entries_put es ps us h

    gone_put : stripes_gone targets d old batch ≡ ones (placed targets (destroyed_stripes targets batch d old))
    gone_put =
        sym (append-nil (stripes_gone targets d old batch)) ∙ gone_all targets some few most l sound low batch d n [] [] there dir refl
        ∙ ap (λ vs. ones (placed targets vs)) (append-nil (destroyed_stripes targets batch d old))

    migrated_put : (told : List (List ℕ × Fid)) → from_entries {R = name_cmp} told ≡ names_of l.tree d → (migrated move told).placed ≡ ones (placed targets (migrate_updates targets batch d old new (names_of l.tree d)))
    unfolding migrated
    migrated_put told e =
        let rest : Names → List Placed = λ names. (if (old.count == 0) && (new.count == 0) then [] else flat_map (planned_entry move) (entries names)) ++ stripes_gone targets d old batch in
        let moves = (if (old.count == 0) && (new.count == 0) then [] else flat_map (moved_entry targets batch d old new) (entries (names_of l.tree d))) ++ destroyed_stripes targets batch d old in
        let first : Placed = on_target (node_place targets d) (layout_set_update batch d (kept new)) in
        ap (λ names. first ∷ (stripes_made targets d new batch ++ rest names)) e
        ∙ put targets (node_place targets d) (layout_set_update batch d (kept new)) (stripes_made targets d new batch ++ rest (names_of l.tree d)) (created_stripes targets batch d new ++ moves)
        (placed_node targets some few most l sound low d n there)
        (fitting_made targets some few batch d new.count new.start new.generation (rest (names_of l.tree d)) moves fits client
        (moves_put (entries (names_of l.tree d)) (stripes_gone targets d old batch) (destroyed_stripes targets batch d old) gone_put))

  pub gives_migrate : (d : Fid) (c i : ℕ) → Gives l Q (λ o. o.placed ≡ ones (placed targets (op_updates targets batch l (ops.Migrate d c i)))) (asks targets batch (ops.Migrate d c i))
  gives_migrate d c i = to_directory d _ (λ n e dir. to_check (migrate_fault targets d c i) _ (λ f. to_names d _ _ (to_check (many_fault (listed d)) _ (λ g. to_settle _ (settles n e dir f g)))))
    where
      listed : Fid → List (List ℕ × Fid)
      listed d = all_names_at (kept (layout_at l d)) (names_of l.tree d) 0 (parts_of (layout_at l d))

      settles : (n : Node) → get l.tree.nodes d ≡ Some n → n.dir ≡ true → migrate_fault targets d c i ≡ None → many_fault (all_names_at (kept (layout_at l d)) (names_of l.tree d) 0 (parts_of (layout_at l d))) ≡ None
          → (migrated (record { targets = targets; batch = batch; directory = d; old = kept (layout_at l d); new = next_layout (kept (layout_at l d)) c i }) (all_names_at (kept (layout_at l d)) (names_of l.tree d) 0 (parts_of (layout_at l d)))).placed
          ≡ ones (placed targets (op_updates targets batch l (ops.Migrate d c i)))
      settles n e dir f g =
          let told = all_names_at (kept (layout_at l d)) (names_of l.tree d) 0 (parts_of (layout_at l d)) in
          let a = unmet (same_fid d root_fid) EINVAL (stripes_fault targets c i) f in
          let s = stripes_none targets c i a.1 in
          let client = ⊎_elim (λ r. absurd (no_self d root_fid a.0 r)) (λ k. k) (sound_node targets most l sound.each d n e).called in
          let names = all_listed_are_there (layout_at l d) (names_of l.tree d) (sym (many_listed (kept (layout_at l d)) (names_of l.tree d)) ∙ few_asked told g) in
          ap (λ (k : Kept). (migrated (record { targets = targets; batch = batch; directory = d; old = kept (layout_at l d); new = k }) told).placed) (next_is (layout_at l d) c i (old_low d n c i e dir client s.0 s.1))
          ∙ migrated_put d n c i e dir client s.0 s.1 told names
