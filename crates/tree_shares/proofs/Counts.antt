-- How many updates an operation has at most.
use Rattle.std.proofs.Common.{◌≡◌, ◌≤◌, ◌<◌, ◌^◌, ◌+◌, ◌*◌, ◌==◌, ◌&&◌, not, nat_lt, if◌then◌else◌, ℕ, zero, suc, Bool, true, false, List, [], ◌∷◌, ◌++◌, map, length, Option, Some, None, refl, sym, subst, arith}
use Rattle.std.proofs.lemmas.Bool.Decides.{nat_tests}
use Rattle.std.proofs.lemmas.List.FromFn.{length-range_with_len}
use Rattle.std.specs.List.{flat_map, range_with_len}
use Rattle.std.specs.FinMap.{get, entries, len, len-entries}
use Rattle.fid_space.specs.declared.fid.Fid.{Fid}
use Rattle.tree_model.specs.declared.node.Node.{Node}
use Rattle.tree_model.specs.declared.errno.Errno.{Errno}
use Rattle.tree_model.specs.declared.errno.Errno.TheVariants.{EINVAL, EFBIG}
use Rattle.tree_model.specs.declared.op.Op.{Op}
use Rattle.tree_model.specs.declared.op.Op.TheVariants as ops
use Rattle.tree_model.specs.Tree.{Tree, names_of, named, same_fid, root_fid}
use Rattle.tree_model.specs.Changes.{Change}
use Rattle.tree_model.specs.Step.{first_fault, parent_fault, taken_fault, client_fault, layout_fault, stripes_fault, is_dir, op_fault}
use Rattle.tree_model.specs.Keys.{Layout, Laid, layout_at, layout_with}
use Rattle.tree_model.specs.Looks.{changes}
use Rattle.out_update.specs.declared.update.Update.{Update}
use Rattle.out_update.specs.declared.update.Kind.{Kind}
use Rattle.out_update.specs.declared.update.Kind.TheVariants as kind
use Rattle.out_update.specs.Spelling.{fid_bytes}
use Rattle.striped_dir.specs.Parts.{create_of, destroy_of}
use Rattle.tree_shares.specs.Shares.{stripe_fid_of}
use Rattle.tree_sound.specs.Sound.{IsSound}
use Rattle.tree_shares.specs.Updates.{update, inserted, deleted, created_stripes, destroyed_stripes, gone_node, gone, layout_of_stripes, parent_updates, rename_updates, moved_entry, op_updates, unless_none, updates}
use Rattle.tree_shares.proofs.Spelling.{few_at}
use Rattle.tree_sound.proofs.Faults.{first_none, parent_none, unmet, stripes_none, decides}

abbrev pub cost : Kind → ℕ
cost kind.Create = 1
cost kind.Destroy = 1
cost kind.RefAdd = 1
cost kind.RefDel = 1
cost kind.AttrSet = 1
cost kind.XattrSet = 1
cost kind.Insert = 1
cost kind.Delete = 1
cost kind.XattrDel = 1
cost kind.LayoutSet = 1
cost kind.ParentSet = 1
cost _ = 1

abbrev pub costs : List Update → ℕ
costs [] = 0
costs (u ∷ us) = cost u.kind + costs us

costs-append : (us vs : List Update) → costs (us ++ vs) ≡ costs us + costs vs
costs-append [] vs = omega arith
costs-append (u ∷ us) vs = let rest = costs-append us vs in omega (arith, rest)

created_cost : (targets batch : ℕ) (d : Fid) (l : Layout) (is : List ℕ) → costs (map (λ i. create_of batch d i (stripe_fid_of targets d l i)) is) ≡ 1 * length is
created_cost targets batch d l [] = refl
created_cost targets batch d l (i ∷ is) = let rest = created_cost targets batch d l is in omega (arith, rest)

destroyed_cost : (targets batch : ℕ) (d : Fid) (l : Layout) (is : List ℕ) → costs (map (λ i. destroy_of batch (stripe_fid_of targets d l i)) is) ≡ 1 * length is
destroyed_cost targets batch d l [] = refl
destroyed_cost targets batch d l (i ∷ is) = let rest = destroyed_cost targets batch d l is in omega (arith, rest)

all_created : (targets batch : ℕ) (d : Fid) (l : Layout) → l.count ≤ 16 → costs (created_stripes targets batch d l) ≤ 1 * 16
all_created targets batch d l few = let a = created_cost targets batch d l (range_with_len 0 l.count) in let b = length-range_with_len 0 l.count in omega (arith, a, b)

all_destroyed : (targets batch : ℕ) (d : Fid) (l : Layout) → l.count ≤ 16 → costs (destroyed_stripes targets batch d l) ≤ 1 * 16
all_destroyed targets batch d l few = let a = destroyed_cost targets batch d l (range_with_len 0 l.count) in let b = length-range_with_len 0 l.count in omega (arith, a, b)

moves_cost : (targets batch : ℕ) (d : Fid) (old new : Layout) (es : List (List ℕ × Fid)) → costs (flat_map (moved_entry targets batch d old new) es) ≤ (1 + 1) * length es
moves_cost targets batch d old new [] = omega arith
moves_cost targets batch d old new (e ∷ es) =
    let rest = moves_cost targets batch d old new es in
    let here = one (old.count == 0) in
    let both = costs-append (moved_entry targets batch d old new e) (flat_map (moved_entry targets batch d old new) es) in
    omega (arith, rest, here, both)
  where
    one : (b : Bool) → costs (if b then deleted targets batch d old e.0 ∷ inserted targets batch d new e.0 e.1 ∷ [] else inserted targets batch d new e.0 e.1 ∷ []) ≤ 1 + 1
    one true = omega arith
    one false = omega arith

layout_few : (c i g : ℕ) → c ≤ 16 → (layout_with c i g).count ≤ 16
layout_few zero i g h = omega arith
layout_few (suc c) i g h = h

module _ (targets batch : ℕ) (one : 1 ≤ targets) (few : targets ≤ 16) (small : batch < 2 ^ 64) (most : ℕ) (bound : most < 0x0ffffffe) (l : Laid) (sound : IsSound targets most l) where
  abbrev t : Tree
  t = l.tree

  gone_cost : (f : Fid) (o : Option Node) → get t.nodes f ≡ o → costs (gone_node targets batch f (layout_at l f) o) ≤ 1 * 17
  gone_cost f None e = omega arith
  gone_cost f (Some n) e =
      let stripes = all_destroyed targets batch f (layout_at l f) (few_at targets batch one few small most bound l sound f n e) in
      by_kind n.dir (let both = costs-append (destroyed_stripes targets batch f (layout_at l f)) (destroy_of batch f ∷ []) in omega (arith, stripes, both))
    where
      by_kind : (b : Bool) → costs (destroyed_stripes targets batch f (layout_at l f) ++ destroy_of batch f ∷ []) ≤ 1 * 17
          → costs (if b then destroyed_stripes targets batch f (layout_at l f) ++ destroy_of batch f ∷ [] else update kind.RefDel batch f [] ∷ []) ≤ 1 * 17
      by_kind true h = h
      by_kind false h = omega arith

  all_gone : (o : Option Fid) → costs (gone targets batch l o) ≤ 1 * 17
  all_gone None = omega arith
  all_gone (Some f) = gone_cost f (get t.nodes f) refl

  parent_cost : (p q m : Fid) (o : Option Node) → costs (parent_updates batch p q m o) ≤ 1
  parent_cost p q m o = by_case (is_dir o && not (same_fid p q))
    where
      by_case : (b : Bool) → costs (if b then update kind.ParentSet batch m (fid_bytes q ∷ []) ∷ [] else []) ≤ 1
      by_case true = omega arith
      by_case false = omega arith

  mkdir_cost : (p : Fid) (x : List ℕ) (f : Fid) (z : Option (ℕ × ℕ)) → layout_fault targets z ≡ None → costs (op_updates targets batch l (ops.Mkdir p x f z)) ≤ 97
  mkdir_cost p x f z g =
      let count = few_of z g in
      let stripes = all_created targets batch f (layout_of_stripes z) count in
      let both = costs-append (created_stripes targets batch f (layout_of_stripes z)) (inserted targets batch p (layout_at l p) x f ∷ []) in
      omega (arith, stripes, both)
    where
      few_of : (z : Option (ℕ × ℕ)) → layout_fault targets z ≡ None → (layout_of_stripes z).count ≤ 16
      few_of None g = layout_few 0 0 0 (omega arith)
      few_of (Some s) g = let low = (stripes_none targets s.0 s.1 g).0 in layout_few s.0 s.1 0 (omega (arith, low, few))

  migrate_cost : (d : Fid) (c i : ℕ) (n : Node) → get t.nodes d ≡ Some n → c ≤ 16 → len (names_of t d) ≤ 32 → costs (op_updates targets batch l (ops.Migrate d c i)) ≤ 97
  migrate_cost d c i n e few_c short =
      let old = layout_at l d in
      let new = layout_with c i (suc old.generation) in
      let moves = if (old.count == 0) && (new.count == 0) then [] else flat_map (moved_entry targets batch d old new) (entries (names_of t d)) in
      let made = all_created targets batch d new (layout_few c i (suc old.generation) few_c) in
      let gone = all_destroyed targets batch d old (few_at targets batch one few small most bound l sound d n e) in
      let count = len-entries (names_of t d) in
      let all = moves_cost targets batch d old new (entries (names_of t d)) in
      let moved = by_case ((old.count == 0) && (new.count == 0)) (omega (arith, all, count, short)) in
      let a = costs-append (created_stripes targets batch d new) (moves ++ destroyed_stripes targets batch d old) in
      let b = costs-append moves (destroyed_stripes targets batch d old) in
      omega (arith, made, gone, moved, a, b)
    where
      by_case : (b : Bool) → costs (flat_map (moved_entry targets batch d (layout_at l d) (layout_with c i (suc (layout_at l d).generation))) (entries (names_of t d))) ≤ (1 + 1) * 32
          → costs (if b then [] else flat_map (moved_entry targets batch d (layout_at l d) (layout_with c i (suc (layout_at l d).generation))) (entries (names_of t d))) ≤ (1 + 1) * 32
      by_case true h = omega arith
      by_case false h = h

  unlink_cost : (p : Fid) (x : List ℕ) → costs (deleted targets batch p (layout_at l p) x ∷ gone targets batch l (named t p x)) ≤ 97
  unlink_cost p x = let h = all_gone (named t p x) in omega (arith, h)

  rename_cost : (p : Fid) (x : List ℕ) (q : Fid) (y : List ℕ) (o : Option Fid) → costs (rename_updates targets batch l p x q y o) ≤ 97
  rename_cost p x q y None = omega arith
  rename_cost p x q y (Some m) =
      let g = all_gone (named t q y) in
      let r = parent_cost p q m (get t.nodes m) in
      let both = costs-append (gone targets batch l (named t q y)) (inserted targets batch q (layout_at l q) y m ∷ parent_updates batch p q m (get t.nodes m)) in
      omega (arith, g, r, both)

  op_cost : (op : Op) → op_fault targets t op ≡ None → costs (op_updates targets batch l op) ≤ 97
  op_cost (ops.Create p x f) h = omega arith
  op_cost (ops.Mkdir p x f s) h =
      let a = first_none (client_fault targets f) (first_fault (layout_fault targets s) (first_fault (parent_fault (get t.nodes p)) (first_fault (taken_fault (named t p x)) (taken_fault (get t.nodes f))))) h in
      mkdir_cost p x f s (first_none (layout_fault targets s) (first_fault (parent_fault (get t.nodes p)) (first_fault (taken_fault (named t p x)) (taken_fault (get t.nodes f)))) a.1).0
  op_cost (ops.Link p x f) h = omega arith
  op_cost (ops.Unlink p x) h = unlink_cost p x
  op_cost (ops.Rmdir p x) h = unlink_cost p x
  op_cost (ops.Rename p x q y) h = rename_cost p x q y (named t p x)
  op_cost (ops.SetAttr f mode uid gid) h = omega arith
  op_cost (ops.SetXattr f x v) h = omega arith
  op_cost (ops.DelXattr f x) h = omega arith
  op_cost (ops.Migrate d c i) h =
      let big = if nat_lt 32 (len (names_of t d)) then Some EFBIG else None in
      let asked = if same_fid d root_fid then Some EINVAL else stripes_fault targets c i in
      let a = first_none (parent_fault (get t.nodes d)) (first_fault asked big) h in
      let b = first_none asked big a.1 in
      let r = unmet (same_fid d root_fid) EINVAL (stripes_fault targets c i) b.0 in
      let low = (stripes_none targets c i r.1).0 in
      let n = parent_none (get t.nodes d) a.0 in
      migrate_cost d c i n.0 n.1 (omega (arith, low, few)) (not_big (len (names_of t d)) (unmet (nat_lt 32 (len (names_of t d))) EFBIG None b.1).0)
    where
      not_big : (k : ℕ) → nat_lt 32 k ≡ false → k ≤ 32
      not_big k h = grind (arith, nat_tests)
  op_cost (ops.Lookup p x) h = omega arith
  op_cost (ops.GetAttr f) h = omega arith
  op_cost (ops.GetXattr f x) h = omega arith

  unless : (cs : List Change) (us : List Update) → costs us ≤ 97 → costs (unless_none cs us) ≤ 97
  unless [] us h = omega arith
  unless (c ∷ cs) us h = h

  by_fault : (op : Op) (f : Option Errno) → op_fault targets t op ≡ f → costs (updates targets batch l op) ≤ 97
  by_fault op None e = unless (changes targets t op) (op_updates targets batch l op) (op_cost op e)
  by_fault op (Some z) e = subst (λ (cs : List Change). costs (unless_none cs (op_updates targets batch l op)) ≤ 97) (sym (decides targets t op (Some z) e)) (omega arith)

  pub all_cost : (op : Op) → costs (updates targets batch l op) ≤ 97
  all_cost op = by_fault op (op_fault targets t op) refl
