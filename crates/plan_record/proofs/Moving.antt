-- What a rename settles has a spelling, and is short.
use Rattle.std.proofs.Common.{◌≤◌, ◌<◌, ◌^◌, ℕ, true, Option, Some, None, List, [], refl, arith}
use Rattle.fid_space.specs.declared.fid.Fid.{Fid}
use Rattle.fid_space.specs.FidText.{IsFid}
use Rattle.out_update.specs.declared.update.Kind.TheVariants as kind
use Rattle.tree_model.specs.declared.op.Op.TheVariants as ops
use Rattle.tree_model.specs.Names.{IsName}
use Rattle.tree_model.specs.Tree.{same_fid}
use Rattle.tree_model.specs.Step.{kind_fault, same_place}
use Rattle.striped_dir.specs.Layouts.{laid}
use Rattle.striped_dir.specs.Parts.{destroy_of}
use Rattle.plan_base.specs.declared.seen.Seen.{Seen}
use Rattle.plan_base.specs.Asks.{Asks, Settle}
use Rattle.plan_base.specs.Heard.{IsChild}
use Rattle.plan_base.specs.Places.{node_place}
use Rattle.plan_base.specs.Planning.{empty_fault, is_dir_seen, layout_seen, changes_parent, entry_in, released, parent_change, asks, Move, replace_asks, over_asks, place_asks, move_asks, moved_with}
use Rattle.plan_base.specs.Updates.{Placed, insert_update, delete_update, ref_del_update, parent_set_update}
use Rattle.plan_record.proofs.Outcomes.{Each, each_directory, each_node, each_entry, each_empty, each_settle, each_check, each_found, each_if}
use Rattle.plan_record.proofs.Params.{p_none, p_fid}
use Rattle.plan_record.proofs.Fitting.{Fits, spell, fits_none, fits_one, fits_most, fits_join, fits_if}
use Rattle.plan_record.proofs.Placing.{gone_fit}
use Rattle.plan_record.proofs.Settling.{Small, Ends, done, deletes, inserts, destroys}

module _ (targets batch : ℕ) (one : 1 ≤ targets) (few : targets ≤ 16) (small : batch < 2 ^ 64) where
  released_fit : (f : Fid) (seen : Option Seen) → IsFid f → Fits batch 17 544 (released targets batch f seen)
  released_fit f seen is =
      fits_if (is_dir_seen seen) 17 544 _ _
      (fits_join 16 1 512 32 _ _ (gone_fit targets one few batch small f (laid (layout_seen seen)) is)
      (fits_one (node_place targets f) (destroy_of batch f) 0 0 [] (destroys targets batch one few small f is) fits_none))
      (fits_most 1 17 32 544 _ (omega arith) (omega arith) (fits_one (node_place targets f) (ref_del_update batch f) 0 0 [] (spell batch kind.RefDel f [] small refl is p_none) fits_none))

  parent_fit : (f : Fid) (node : Option Seen) (p q : Fid) → IsFid f → Fits batch 1 56 (parent_change targets batch f node p q)
  parent_fit f node p q is =
      fits_if (changes_parent node p q) 1 56 _ _
      (fits_one (node_place targets f) (parent_set_update batch f q) 0 0 [] (spell batch kind.ParentSet f _ small refl is (p_fid q)) fits_none)
      (fits_most 0 1 0 56 [] (omega arith) (omega arith) fits_none)

-- a move between two names
record Moves (m : Move) : Type 0 where
  one : 1 ≤ m.targets
  few : m.targets ≤ 16
  small : m.batch < 2 ^ 64
  parent : IsFid m.parent
  name : IsName m.name
  to_parent : IsFid m.to_parent
  to_name : IsName m.to_name
  moved : IsFid m.moved

module _ (m : Move) (h : Moves m) where
  abbrev Ended : Asks → Type 0
  Ended a = Each (Small m.batch true) a

  moved_fit : (gone : List Placed) → Fits m.batch 17 544 gone → Ended (Settle (moved_with m gone))
  unfolding moved_with
  moved_fit gone fits = each_settle _ (done m.targets m.batch h.one h.few h.small true 20 1216 _ (omega arith) (omega arith)
      (fits_one (entry_in m.targets m.parent m.from m.name).0 (delete_update m.batch (entry_in m.targets m.parent m.from m.name).1 m.name) 19 920 _ (deletes m.targets m.batch h.one h.few h.small m.parent m.from m.name h.parent h.name)
      (fits_join 17 2 544 376 _ _ fits
      (fits_one (entry_in m.targets m.to_parent m.to m.to_name).0 (insert_update m.batch (entry_in m.targets m.to_parent m.to m.to_name).1 m.to_name m.moved) 1 56 _ (inserts m.targets m.batch h.one h.few h.small m.to_parent m.to m.to_name m.moved h.to_parent h.to_name)
      (parent_fit m.targets m.batch h.one h.few h.small m.moved m.node m.parent m.to_parent h.moved)))))

  none_gone : Fits m.batch 17 544 []
  none_gone = fits_most 0 17 0 544 [] (omega arith) (omega arith) fits_none

  over_ends : (old : Fid) → IsFid old → Ended (over_asks m old)
  over_ends old is =
      each_if (same_fid m.moved old) _ _ (each_settle _ (done m.targets m.batch h.one h.few h.small true 0 0 [] (omega arith) (omega arith) fits_none)) (each_node old _ (λ other.
      each_check (kind_fault (is_dir_seen m.node) (is_dir_seen other)) _ (λ _.
      each_if (is_dir_seen other) _ _
      (each_empty old _ _ (λ b. each_check (empty_fault b) _ (λ _. moved_fit _ (released_fit m.targets m.batch h.one h.few h.small old other is))))
      (moved_fit _ (released_fit m.targets m.batch h.one h.few h.small old other is)))))

  place_ends : Ended (place_asks m)
  place_ends = each_entry m.to_parent _ _ _ by_old
    where
      by_old : (c : Option Fid) → IsChild c → Ended (replace_asks m c)
      by_old None is = moved_fit [] none_gone
      by_old (Some old) is = over_ends old is

  move_ends : Ended (move_asks m)
  move_ends = each_if (changes_parent m.node m.parent m.to_parent) _ _ (record { all = place_ends.all }) place_ends

pub rename_ends : (targets batch : ℕ) (one : 1 ≤ targets) (few : targets ≤ 16) (small : batch < 2 ^ 64) (p : Fid) (x : List ℕ) (q : Fid) (y : List ℕ) → IsFid p → IsName x → IsFid q → IsName y
    → Ends targets batch one few small (ops.Rename p x q y) (asks targets batch (ops.Rename p x q y))
rename_ends targets batch one few small p x q y is name to to_name =
    each_directory p _ (λ from. each_entry p _ x _ (λ c told. each_found c _ told (λ f fid. each_directory q _ (λ seen.
    each_if (same_place p x q y) _ _ (each_settle _ (done targets batch one few small true 0 0 [] (omega arith) (omega arith) fits_none)) (each_node f _ (λ n. move_ends (record {
      targets = targets;
      batch = batch;
      parent = p;
      from = from;
      name = x;
      to_parent = q;
      to = seen;
      to_name = y;
      moved = f;
      node = n;
    }) (record { one = one; few = few; small = small; parent = is; name = name; to_parent = to; to_name = to_name; moved = fid })))))))
