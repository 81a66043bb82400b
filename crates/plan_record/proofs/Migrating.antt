-- What a migrate settles has a spelling, and is short.
use Rattle.std.proofs.Common.{◌≡◌, ◌≤◌, ◌<◌, ◌^◌, ◌*◌, ◌==◌, ◌&&◌, nat_lt, if◌then◌else◌, ℕ, suc, Bool, true, false, Some, None, List, [], ◌∷◌, length, refl, sym, subst, arith}
use Rattle.std.proofs.lemmas.Bool.Decides.{nat_tests}
use Rattle.std.specs.List.{flat_map}
use Rattle.std.specs.declared.cmp.Ordering.{Ordering}
use Rattle.std.specs.declared.cmp.Ordering.TheVariants.{Less, Equal, Greater}
use Rattle.std.specs.FinMap.{entries, from_entries, empty, entries-insert, len-entries, len-empty}
use Rattle.std.specs.FinMap.Entries.{put, by_order}
use Rattle.fid_space.specs.declared.fid.Fid.{Fid}
use Rattle.fid_space.specs.FidText.{IsFid}
use Rattle.out_update.specs.declared.update.Kind.TheVariants as kind
use Rattle.tree_model.specs.declared.errno.Errno.TheVariants.{EFBIG}
use Rattle.tree_model.specs.declared.op.Op.TheVariants as ops
use Rattle.tree_model.specs.Fids.{name_cmp}
use Rattle.tree_model.proofs.Maps.{names_total}
use Rattle.striped_dir.specs.Layouts.{laid}
use Rattle.plan_base.specs.Listed.{is_name}
use Rattle.plan_base.specs.Places.{node_place, entry_at}
use Rattle.plan_base.specs.Planning.{Migration, moved_entry, moved_entries, migrated, migrate_fault, many_fault, next_layout, asks}
use Rattle.plan_base.specs.Updates.{layout_set_update, delete_update, insert_update}
use Rattle.plan_record.proofs.Outcomes.{Named, each_directory, each_names, each_settle, each_check}
use Rattle.plan_record.proofs.Params.{p_layout, read_param, read_entry}
use Rattle.plan_record.proofs.Fitting.{Fits, Spells, spell, fits_none, fits_one, fits_most, fits_join, fits_if}
use Rattle.plan_record.proofs.Placing.{entry_fid, new_fit, gone_fit}
use Rattle.plan_record.proofs.Settling.{Small, Ends, done}

-- ---- entries by their names

record Kept (n : ℕ) (es : List (List ℕ × Fid)) : Type 0 where
  named : Named es
  few : length es ≤ n

kept_more : (n : ℕ) (es : List (List ℕ × Fid)) → Kept n es → Kept (suc n) es
kept_more n es k = let few = k.few in record { named = k.named; few = omega (arith, few) }

put_kept : (n : ℕ) (x : List ℕ) (f : Fid) (es : List (List ℕ × Fid)) → is_name x ≡ true → Kept n es → Kept (suc n) (put name_cmp x f es)
put_kept n x f [] is k = record { named = (is, tt); few = omega arith }
put_kept n x f (e ∷ es) is k =
    by_test (name_cmp x e.0) (put_kept (length es) x f es is (record { named = k.named.1; few = omega arith }))
  where
    by_test : (o : Ordering) → Kept (suc (length es)) (put name_cmp x f es) → Kept (suc n) (by_order o ((x, f) ∷ e ∷ es) ((e.0, f) ∷ es) (e ∷ put name_cmp x f es))
    by_test Less rest = let few = k.few in record { named = (is, k.named); few = omega (arith, few) }
    by_test Equal rest = let few = k.few in record { named = (k.named.0, k.named.1); few = omega (arith, few) }
    by_test Greater rest = let few = k.few in let more = rest.few in record { named = (k.named.0, rest.named); few = omega (arith, few, more) }

nothing : (es : List (List ℕ × Fid)) → length es ≡ 0 → Kept 0 es
nothing [] h = record { named = tt; few = omega arith }
nothing (e ∷ es) h = absurd (omega (arith, h))

sorted_kept : (es : List (List ℕ × Fid)) → Named es → Kept (length es) (entries (from_entries {R = name_cmp} es))
sorted_kept [] h =
    let len = len-entries (empty {X = Fid} {R = name_cmp}) in
    let zero_len = len-empty name_cmp Fid in
    nothing (entries (empty {X = Fid} {R = name_cmp})) (omega (arith, len, zero_len))
sorted_kept (e ∷ es) h =
    subst (λ fs. Kept (suc (length es)) fs) (sym (entries-insert names_total (from_entries es) e.0 e.1)) (put_kept (length es) e.0 e.1 (entries (from_entries es)) h.0 (sorted_kept es h.1))

-- ---- one entry

module _ (m : Migration) (one : 1 ≤ m.targets) (few : m.targets ≤ 16) (small : m.batch < 2 ^ 64) (is : IsFid m.directory) where
  brings : (e : List ℕ × Fid) → is_name e.0 ≡ true → Spells m.batch (insert_update m.batch (entry_at m.targets m.directory (laid m.new) e.0).1 e.0 e.1)
  brings e name = spell m.batch kind.Insert (entry_at m.targets m.directory (laid m.new) e.0).1 _ small refl (entry_fid m.targets one few m.directory (laid m.new) e.0 is) (read_entry e.0 e.1 name)

  takes : (e : List ℕ × Fid) → is_name e.0 ≡ true → Spells m.batch (delete_update m.batch (entry_at m.targets m.directory (laid m.old) e.0).1 e.0)
  takes e name = spell m.batch kind.Delete (entry_at m.targets m.directory (laid m.old) e.0).1 _ small refl (entry_fid m.targets one few m.directory (laid m.old) e.0 is) (read_param e.0 name)

  one_moves : (e : List ℕ × Fid) → is_name e.0 ≡ true → Fits m.batch 2 616 (moved_entry m e)
  one_moves e name =
      fits_if (m.old.count == 0) 2 616 _ _
      (fits_one (entry_at m.targets m.directory (laid m.old) e.0).0 _ 1 320 _ (takes e name) (fits_one (entry_at m.targets m.directory (laid m.new) e.0).0 _ 0 0 [] (brings e name) fits_none))
      (fits_most 1 2 320 616 _ (omega arith) (omega arith) (fits_one (entry_at m.targets m.directory (laid m.new) e.0).0 _ 0 0 [] (brings e name) fits_none))

  all_move : (n : ℕ) (es : List (List ℕ × Fid)) → Kept n es → Fits m.batch (2 * n) (616 * n) (flat_map (moved_entry m) es)
  all_move n [] k = fits_most 0 (2 * n) 0 (616 * n) [] (omega arith) (omega arith) fits_none
  all_move n (e ∷ es) k =
      let few = k.few in
      fits_most _ _ _ _ _ (omega (arith, few)) (omega (arith, few))
      (fits_join 2 (2 * length es) 616 (616 * length es) _ _ (one_moves e k.named.0) (all_move (length es) es (record { named = k.named.1; few = omega arith })))

  moved_fit : (told : List (List ℕ × Fid)) → Named told → length told ≤ 32 → Fits m.batch 64 19712 (moved_entries m told)
  moved_fit told named short =
      fits_if ((m.old.count == 0) && (m.new.count == 0)) 64 19712 _ _
      (fits_most 0 64 0 19712 [] (omega arith) (omega arith) fits_none)
      (fits_most (2 * length told) 64 (616 * length told) 19712 _ (omega (arith, short)) (omega (arith, short)) (all_move (length told) (entries (from_entries told)) (sorted_kept told named)))

  migrated_fit : (told : List (List ℕ × Fid)) → Named told → length told ≤ 32 → Small m.batch true (migrated m told)
  unfolding migrated
  migrated_fit told named short =
      done m.targets m.batch one few small true 97 21680 _ (omega arith) (omega arith)
      (fits_one (node_place m.targets m.directory) (layout_set_update m.batch m.directory m.new) 96 21632 _ (spell m.batch kind.LayoutSet m.directory _ small refl is (p_layout (laid m.new)))
      (fits_join 16 80 1408 20224 _ _ (new_fit m.targets one few m.batch small m.directory (laid m.new) is)
      (fits_join 64 16 19712 512 _ _ (moved_fit told named short) (gone_fit m.targets one few m.batch small m.directory (laid m.old) is))))

few_of : (told : List (List ℕ × Fid)) → many_fault told ≡ None → length told ≤ 32
few_of told h = by_test (nat_lt 32 (length told)) refl h
  where
    by_test : (b : Bool) → nat_lt 32 (length told) ≡ b → (if b then Some EFBIG else None) ≡ None → length told ≤ 32
    by_test true e k = absurd (cc)
    by_test false e k = grind (arith, nat_tests)

pub migrate_ends : (targets batch : ℕ) (one : 1 ≤ targets) (few : targets ≤ 16) (small : batch < 2 ^ 64) (d : Fid) (count index : ℕ) → IsFid d → Ends targets batch one few small (ops.Migrate d count index) (asks targets batch (ops.Migrate d count index))
migrate_ends targets batch one few small d count index is =
    each_directory d _ (λ seen. each_check (migrate_fault targets d count index) _ (λ _. each_names d _ _ (λ told named. each_check (many_fault told) _ (λ short. each_settle _ (migrated_fit (record {
      targets = targets;
      batch = batch;
      directory = d;
      old = seen.body.layout;
      new = next_layout seen.body.layout count index;
    }) one few small is told named (few_of told short))))))
