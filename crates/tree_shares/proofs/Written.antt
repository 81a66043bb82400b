-- The objects that the updates of an operation name are those that its changes write.
use Rattle.std.proofs.Common.{◌≡◌, ◌<◌, ◌+◌, ◌-◌, ◌==◌, ◌&&◌, ◌||◌, not, nat_le, if◌then◌else◌, ℕ, zero, suc, Bool, true, false, cond, List, [], ◌∷◌, ◌++◌, map, Option, Some, None, inl, inr, refl, sym, ap, subst, ◌∙◌, arith, add-one}
use Rattle.std.proofs.lemmas.Bool.Decides.{eqb_tells}
use Rattle.std.proofs.lemmas.List.FromFn.{map-range_with_len_more}
use Rattle.std.specs.List.{flat_map, range_with_len}
use Rattle.std.specs.FinMap.{get, entries}
use Rattle.fid_space.specs.declared.fid.Fid.{Fid}
use Rattle.tree_model.specs.declared.node.Node.{Node}
use Rattle.tree_model.specs.declared.errno.Errno.{Errno}
use Rattle.tree_model.specs.declared.op.Op.{Op}
use Rattle.tree_model.specs.declared.op.Op.TheVariants as ops
use Rattle.tree_model.specs.Tree.{Tree, names_of, named, same_fid, directory_in}
use Rattle.tree_model.specs.Changes.{Change, PutNode, DropNode, PutName, DropName, NewLayout, NextLayout, MoveNames}
use Rattle.tree_model.specs.Step.{first_fault, parent_fault, taken_fault, link_fault, found_fault, moved_fault, same_place, same_node, released, replaced, renamed, moved_node, changed_node, unlinked, op_fault, op_changes}
use Rattle.tree_model.specs.Keys.{Layout, Laid, layout_at, layout_with, plain_layout}
use Rattle.tree_model.specs.Looks.{changes}
use Rattle.out_update.specs.declared.update.Update.{Update}
use Rattle.out_update.specs.declared.update.Kind.TheVariants as kind
use Rattle.out_update.specs.Spelling.{fid_bytes}
use Rattle.striped_dir.specs.Parts.{part_of_name, create_of, destroy_of}
use Rattle.tree_shares.specs.Shares.{stripe_fid_of}
use Rattle.tree_sound.specs.Sound.{IsSound}
use Rattle.tree_shares.specs.Updates.{update, part_named, inserted, deleted, created_node, created_stripes, destroyed_stripes, gone_node, gone, parent_updates, rename_updates, moved_entry, op_updates, unless_none, updates}
use Rattle.tree_shares.specs.Wrote.{is_among, stripes_below, stripes_of, written_by, wrote}
use Rattle.tree_shares.specs.ShareLaws.{UpdatesNameWhatIsWritten}
use Rattle.tree_shares.proofs.Here.{part_below}
use Rattle.tree_sound.proofs.Basics.{by_bool}
use Rattle.tree_sound.proofs.Faults.{first_none, absent_none, link_none, found_none, setxattr_there, xattr_there, decides}
use Rattle.tree_shares.proofs.Facts.{facts}

-- ---- lists

or_assoc : (a b c : Bool) → ((a || b) || c) ≡ (a || (b || c))
or_assoc true b c = refl
or_assoc false b c = refl

or_false : (a : Bool) → (a || false) ≡ a
or_false true = refl
or_false false = refl

or_swap : (a b : Bool) → (a || b) ≡ (b || a)
or_swap true true = refl
or_swap true false = refl
or_swap false true = refl
or_swap false false = refl

among-append : (xs ys : List Fid) (x : Fid) → is_among (xs ++ ys) x ≡ (is_among xs x || is_among ys x)
among-append [] ys x = refl
among-append (y ∷ xs) ys x = ap (λ b. same_fid y x || b) (among-append xs ys x) ∙ sym (or_assoc (same_fid y x) (is_among xs x) (is_among ys x))

abbrev pub N : List Update → Fid → Bool
N us x = is_among (map (λ u. u.fid) us) x

N-append : (us vs : List Update) (x : Fid) → N (us ++ vs) x ≡ (N us x || N vs x)
N-append [] vs x = refl
N-append (u ∷ us) vs x = ap (λ b. same_fid u.fid x || b) (N-append us vs x) ∙ sym (or_assoc (same_fid u.fid x) (N us x) (N vs x))

-- ---- stripes and parts

module _ (targets batch : ℕ) (d : Fid) (l : Layout) (x : Fid) where
  abbrev St : Bool
  St = is_among (stripes_of targets d l) x

  in_order : (n : ℕ) → is_among (map (λ i. stripe_fid_of targets d l i) (range_with_len 0 n)) x ≡ is_among (stripes_below targets d l n) x
  in_order zero = refl
  in_order (suc n) =
      let f : ℕ → Fid = λ i. stripe_fid_of targets d l i in
      let more : map f (range_with_len 0 (suc n)) ≡ map f (range_with_len 0 n) ++ f n ∷ [] = ap (λ k. map f (range_with_len 0 k)) (sym (add-one n)) ∙ map-range_with_len_more f 0 n n (omega arith) in
      ap (λ fs. is_among fs x) more ∙ among-append (map f (range_with_len 0 n)) (f n ∷ []) x
      ∙ ap (λ b. b || (same_fid (f n) x || false)) (in_order n) ∙ ap (λ b. is_among (stripes_below targets d l n) x || b) (or_false (same_fid (f n) x)) ∙ or_swap (is_among (stripes_below targets d l n) x) (same_fid (f n) x)

  created_fids : (is : List ℕ) → N (map (λ i. create_of batch d i (stripe_fid_of targets d l i)) is) x ≡ is_among (map (λ i. stripe_fid_of targets d l i) is) x
  created_fids [] = refl
  created_fids (i ∷ is) = ap (λ b. same_fid (stripe_fid_of targets d l i) x || b) (created_fids is)

  destroyed_fids : (is : List ℕ) → N (map (λ i. destroy_of batch (stripe_fid_of targets d l i)) is) x ≡ is_among (map (λ i. stripe_fid_of targets d l i) is) x
  destroyed_fids [] = refl
  destroyed_fids (i ∷ is) = ap (λ b. same_fid (stripe_fid_of targets d l i) x || b) (destroyed_fids is)

  created_named : N (created_stripes targets batch d l) x ≡ St
  created_named = created_fids (range_with_len 0 l.count) ∙ in_order l.count

  destroyed_named : N (destroyed_stripes targets batch d l) x ≡ St
  destroyed_named = destroyed_fids (range_with_len 0 l.count) ∙ in_order l.count

  low_is_among : (n i : ℕ) → i < n → same_fid (stripe_fid_of targets d l i) x ≡ true → is_among (stripes_below targets d l n) x ≡ true
  low_is_among zero i low s = absurd (omega arith)
  low_is_among (suc n) i low s =
      elim (eqb_tells i n) [
        | inl h ↦ ap (λ b. b || is_among (stripes_below targets d l n) x) (ap (λ j. same_fid (stripe_fid_of targets d l j) x) (sym h.1) ∙ s)
        | inr h ↦ let other = h.1 in ap (λ b. same_fid (stripe_fid_of targets d l n) x || b) (low_is_among n i (omega (arith, other)) s) ∙ or_true (same_fid (stripe_fid_of targets d l n) x)
      ]
    where
      or_true : (a : Bool) → (a || true) ≡ true
      or_true true = refl
      or_true false = refl

  -- an entry's object is the directory or one of its stripes
  entry_absorbed : (y : List ℕ) → (same_fid (part_named targets d l y) x || (same_fid d x || St)) ≡ (same_fid d x || St)
  entry_absorbed y =
      let p = stripe_fid_of targets d l (part_of_name l y) in
      let left : Bool → Bool = λ b. same_fid (cond b d p) x || (same_fid d x || St) in
      elim (eqb_tells l.count 0) [
        | inl h ↦ ap left h.0 ∙ twice (same_fid d x) St
        | inr h ↦ ap left h.0 ∙ by_bool (same_fid p x)
            (λ s.
            let in_it = low_is_among l.count (part_of_name l y) (part_below l.count l.start l.generation y h.1) s in
            ap (λ b. same_fid p x || (same_fid d x || b)) in_it ∙ all (same_fid p x) (same_fid d x) ∙ sym (ap (λ b. same_fid d x || b) in_it))
            (λ s. ap (λ b. b || (same_fid d x || St)) s)
      ]
    where
      twice : (a b : Bool) → (a || (a || b)) ≡ (a || b)
      twice true b = refl
      twice false b = refl

      all : (a b : Bool) → (a || (b || true)) ≡ (b || true)
      all true true = refl
      all true false = refl
      all false b = refl

-- the object of an entry of a striped directory
pub part_striped : (targets : ℕ) (d : Fid) (c s g : ℕ) (y : List ℕ)
    → part_named targets d (record { count = suc c; start = s; generation = g }) y ≡ stripe_fid_of targets d (record { count = suc c; start = s; generation = g }) (part_of_name (record { count = suc c; start = s; generation = g }) y)
part_striped targets d c s g y =
    let l : Layout = record { count = suc c; start = s; generation = g } in
    elim (eqb_tells l.count 0) [
      | inl h ↦ let e = h.1 in absurd (omega (arith, e))
      | inr h ↦ ap (λ b. cond b d (stripe_fid_of targets d l (part_of_name l y))) h.0
    ]

-- ---- changes

module _ (targets most batch : ℕ) (l : Laid) (sound : IsSound targets most l) (x : Fid) where
  abbrev t : Tree
  t = l.tree

  abbrev W : List Change → Bool
  W cs = is_among (flat_map (written_by targets l) cs) x

  W-append : (cs ds : List Change) → W (cs ++ ds) ≡ (W cs || W ds)
  W-append [] ds = refl
  W-append (c ∷ cs) ds =
      among-append (written_by targets l c) (flat_map (written_by targets l) (cs ++ ds)) x ∙ ap (λ b. is_among (written_by targets l c) x || b) (W-append cs ds)
      ∙ sym (or_assoc (is_among (written_by targets l c) x) (W cs) (W ds)) ∙ ap (λ b. b || W ds) (sym (among-append (written_by targets l c) (flat_map (written_by targets l) cs) x))

  abbrev P : Fid → List ℕ → Bool
  P d y = same_fid (part_named targets d (layout_at l d) y) x

  part_same : (d : Fid) (y : List ℕ) → P d y ≡ same_fid (part_named targets d (layout_at l d) y) x
  part_same d y = refl

  no_stripes : (f : Fid) → layout_at l f ≡ plain_layout → is_among (stripes_of targets f (layout_at l f)) x ≡ false
  no_stripes f e = ap (λ y. is_among (stripes_of targets f y) x) e

  gone_same : (c : Fid) (o : Option Node) → get t.nodes c ≡ o → N (gone_node targets batch c (layout_at l c) o) x ≡ W (released c o)
  gone_same c None e = refl
  gone_same c (Some n) e =
      let again : Node = record n { links = n.links - 1 } in
      let ly = layout_at l c in
      let C = same_fid c x in
      let S = is_among (stripes_of targets c ly) x in
      let goes : Bool → Bool → Type 0 = λ b z. N (if b then destroyed_stripes targets batch c ly ++ destroy_of batch c ∷ [] else update kind.RefDel batch c [] ∷ []) x ≡ W (if b || z then DropNode c ∷ [] else PutNode c again ∷ []) in
      let dropped : W (DropNode c ∷ []) ≡ (C || S) = ap (λ b. C || b) (among-append (stripes_of targets c ly) [] x ∙ or_false S) in
      by_bool n.dir
      (λ d. subst (λ b. goes b (nat_le n.links 1)) (sym d)
      (N-append (destroyed_stripes targets batch c ly) (destroy_of batch c ∷ []) x ∙ ap (λ b. b || (C || false)) (destroyed_named targets batch c ly x) ∙ ap (λ b. S || b) (or_false C) ∙ or_swap S C ∙ sym dropped))
      (λ d. subst (λ b. goes b (nat_le n.links 1)) (sym d)
      (by_bool (nat_le n.links 1)
      (λ z. subst (λ b. goes false b) (sym z) (ap (λ b. C || b) (sym (no_stripes c ((facts targets most l sound c n e).bare d))) ∙ sym dropped))
      (λ z. subst (λ b. goes false b) (sym z) refl)))

  abbrev Same : List Update → List Change → Type 0
  Same us cs = N (unless_none cs us) x ≡ W cs

  node_same : (f : Fid) (u : Update) (change : Node → Node) (n : Node) → get t.nodes f ≡ Some n → u.fid ≡ f → Same (u ∷ []) (changed_node f (get t.nodes f) change)
  node_same f u change n e is = subst (λ (o : Option Node). Same (u ∷ []) (changed_node f o change)) (sym e) (ap (λ g. same_fid g x || false) is)

  moved_same : (p q m : Fid) (o : Option Node) → N (parent_updates batch p q m o) x ≡ W (moved_node p q m o)
  moved_same p q m None = refl
  moved_same p q m (Some n) = by_case (n.dir && not (same_fid p q))
    where
      by_case : (b : Bool) → N (if b then update kind.ParentSet batch m (fid_bytes q ∷ []) ∷ [] else []) x ≡ W (if b then PutNode m (record n { parent = q }) ∷ [] else [])
      by_case true = refl
      by_case false = refl

  replaced_same : (old : Option Fid) → N (gone targets batch l old) x ≡ W (replaced t old)
  replaced_same None = refl
  replaced_same (Some o) = gone_same o (get t.nodes o) refl

  mkdir_same : (p : Fid) (y : List ℕ) (f : Fid) (k i : ℕ) → Same (created_node batch f (directory_in p) (layout_with k i 0) ∷ (created_stripes targets batch f (layout_with k i 0) ++ inserted targets batch p (layout_at l p) y f ∷ []))
      (PutNode f (directory_in p) ∷ PutName p y f ∷ NewLayout f k i ∷ [])
  mkdir_same p y f k i =
      let F = same_fid f x in
      let S = is_among (stripes_of targets f (layout_with k i 0)) x in
      ap (λ b. F || b) (N-append (created_stripes targets batch f (layout_with k i 0)) (inserted targets batch p (layout_at l p) y f ∷ []) x)
      ∙ ap (λ b. F || (b || (P p y || false))) (created_named targets batch f (layout_with k i 0) x)
      ∙ mixed F S (P p y)
      ∙ ap (λ b. F || (b || (F || (S || false)))) (part_same p y)
      ∙ ap (λ b. F || (same_fid (part_named targets p (layout_at l p) y) x || (F || b))) (sym (among-append (stripes_of targets f (layout_with k i 0)) [] x))
    where
      mixed : (a b c : Bool) → (a || (b || (c || false))) ≡ (a || (c || (a || (b || false))))
      mixed true b c = refl
      mixed false true true = refl
      mixed false true false = refl
      mixed false false true = refl
      mixed false false false = refl

  moves_absorbed : (d : Fid) (old new : Layout) (es : List (List ℕ × Fid)) → (N (flat_map (moved_entry targets batch d old new) es) x || (same_fid d x || is_among (stripes_of targets d new) x)) ≡ (same_fid d x || is_among (stripes_of targets d new) x)
  moves_absorbed d old new [] = refl
  moves_absorbed d old new (e ∷ es) =
      let all = same_fid d x || is_among (stripes_of targets d new) x in
      let rest = N (flat_map (moved_entry targets batch d old new) es) x in
      ap (λ b. b || all) (N-append (moved_entry targets batch d old new e) (flat_map (moved_entry targets batch d old new) es) x)
      ∙ or_assoc (N (moved_entry targets batch d old new e) x) rest all ∙ ap (λ b. N (moved_entry targets batch d old new e) x || b) (moves_absorbed d old new es) ∙ one
    where
      after_insert : (N (inserted targets batch d new e.0 e.1 ∷ []) x || (same_fid d x || is_among (stripes_of targets d new) x)) ≡ (same_fid d x || is_among (stripes_of targets d new) x)
      after_insert = ap (λ b. b || (same_fid d x || is_among (stripes_of targets d new) x)) (or_false (same_fid (part_named targets d new e.0) x)) ∙ entry_absorbed targets batch d new x e.0

      one : (N (moved_entry targets batch d old new e) x || (same_fid d x || is_among (stripes_of targets d new) x)) ≡ (same_fid d x || is_among (stripes_of targets d new) x)
      one =
          let all = same_fid d x || is_among (stripes_of targets d new) x in
          let left : Bool → Bool = λ b. N (if b then update kind.Delete batch (cond b d (stripe_fid_of targets d old (part_of_name old e.0))) (e.0 ∷ []) ∷ inserted targets batch d new e.0 e.1 ∷ [] else inserted targets batch d new e.0 e.1 ∷ []) x || all in
          by_bool (old.count == 0)
          (λ z. ap left z ∙ or_assoc (same_fid d x) (N (inserted targets batch d new e.0 e.1 ∷ []) x) all ∙ ap (λ b. same_fid d x || b) after_insert ∙ twice (same_fid d x) (is_among (stripes_of targets d new) x))
          (λ z. ap left z ∙ after_insert)
        where
          twice : (a b : Bool) → (a || (a || b)) ≡ (a || b)
          twice true b = refl
          twice false b = refl

  migrate_same : (d : Fid) (c i : ℕ) → Same (op_updates targets batch l (ops.Migrate d c i)) (NextLayout d c i ∷ MoveNames d ∷ [])
  migrate_same d c i =
      let old = layout_at l d in
      let new = layout_with c i (suc old.generation) in
      let moves = if (old.count == 0) && (new.count == 0) then [] else flat_map (moved_entry targets batch d old new) (entries (names_of t d)) in
      let D = same_fid d x in
      let O = is_among (stripes_of targets d old) x in
      let S = is_among (stripes_of targets d new) x in
      ap (λ b. D || b) (N-append (created_stripes targets batch d new) (moves ++ destroyed_stripes targets batch d old) x)
      ∙ ap (λ b. D || (b || N (moves ++ destroyed_stripes targets batch d old) x)) (created_named targets batch d new x)
      ∙ ap (λ b. D || (S || b)) (N-append moves (destroyed_stripes targets batch d old) x)
      ∙ ap (λ b. D || (S || (N moves x || b))) (destroyed_named targets batch d old x)
      ∙ mixed D S (N moves x) O (absorbed ((old.count == 0) && (new.count == 0)))
      ∙ sym (ap (λ b. D || b) (among-append (stripes_of targets d old ++ stripes_of targets d new) [] x ∙ or_false (is_among (stripes_of targets d old ++ stripes_of targets d new) x) ∙ among-append (stripes_of targets d old) (stripes_of targets d new) x))
    where
      absorbed : (b : Bool) → (N (if b then [] else flat_map (moved_entry targets batch d (layout_at l d) (layout_with c i (suc (layout_at l d).generation))) (entries (names_of t d))) x || (same_fid d x || is_among (stripes_of targets d (layout_with c i (suc (layout_at l d).generation))) x))
          ≡ (same_fid d x || is_among (stripes_of targets d (layout_with c i (suc (layout_at l d).generation))) x)
      absorbed true = refl
      absorbed false = moves_absorbed d (layout_at l d) (layout_with c i (suc (layout_at l d).generation)) (entries (names_of t d))

      mixed : (a s m o : Bool) → (m || (a || s)) ≡ (a || s) → (a || (s || (m || o))) ≡ (a || (o || s))
      mixed true s m o h = refl
      mixed false true m true h = refl
      mixed false true m false h = refl
      mixed false false true o h = let no : true ≡ false = h in absurd (cc)
      mixed false false false true h = refl
      mixed false false false false h = refl

  rename_same : (p : Fid) (y : List ℕ) (q : Fid) (z : List ℕ) (m : Fid) → Same (rename_updates targets batch l p y q z (Some m)) (renamed t p y q z (Some m))
  rename_same p y q z m = by_case (same_place p y q z || same_node m (named t q z))
    where
      big : List Change
      big = DropName p y ∷ (replaced t (named t q z) ++ (PutName q z m ∷ moved_node p q m (get t.nodes m)))

      whole : N (rename_updates targets batch l p y q z (Some m)) x ≡ W (DropName p y ∷ (replaced t (named t q z) ++ (PutName q z m ∷ moved_node p q m (get t.nodes m))))
      whole =
          let last = parent_updates batch p q m (get t.nodes m) in
          ap (λ b. P p y || b) (N-append (gone targets batch l (named t q z)) (inserted targets batch q (layout_at l q) z m ∷ last) x)
          ∙ ap (λ b. P p y || (b || (P q z || N last x))) (replaced_same (named t q z))
          ∙ ap (λ b. P p y || (W (replaced t (named t q z)) || (P q z || b))) (moved_same p q m (get t.nodes m))
          ∙ ap (λ b. P p y || (W (replaced t (named t q z)) || (b || W (moved_node p q m (get t.nodes m))))) (part_same q z)
          ∙ ap (λ b. b || (W (replaced t (named t q z)) || W (PutName q z m ∷ moved_node p q m (get t.nodes m)))) (part_same p y)
          ∙ ap (λ b. same_fid (part_named targets p (layout_at l p) y) x || b) (sym (W-append (replaced t (named t q z)) (PutName q z m ∷ moved_node p q m (get t.nodes m))))

      by_case : (b : Bool) → Same (rename_updates targets batch l p y q z (Some m)) (if b then [] else DropName p y ∷ (replaced t (named t q z) ++ (PutName q z m ∷ moved_node p q m (get t.nodes m))))
      by_case true = refl
      by_case false = whole

  unlink_same : (p : Fid) (y : List ℕ) (c : Fid) → Same (deleted targets batch p (layout_at l p) y ∷ gone targets batch l (Some c)) (unlinked t p y (Some c))
  unlink_same p y c = ap (λ b. P p y || b) (gone_same c (get t.nodes c) refl) ∙ ap (λ b. b || W (released c (get t.nodes c))) (part_same p y)

  found_same : (p : Fid) (y : List ℕ) (fault : Fid → Option Errno) → first_fault (parent_fault (get t.nodes p)) (found_fault (named t p y) fault) ≡ None
      → Same (deleted targets batch p (layout_at l p) y ∷ gone targets batch l (named t p y)) (unlinked t p y (named t p y))
  found_same p y fault h =
      let a = first_none (parent_fault (get t.nodes p)) (found_fault (named t p y) fault) h in
      let c = found_none (named t p y) fault a.1 in
      subst (λ (o : Option Fid). Same (deleted targets batch p (layout_at l p) y ∷ gone targets batch l o) (unlinked t p y o)) (sym c.1) (unlink_same p y c.0)

  op_same : (op : Op) → op_fault targets t op ≡ None → Same (op_updates targets batch l op) (op_changes t op)
  op_same (ops.Create p y f) h = ap (λ b. same_fid f x || (b || false)) (part_same p y)
  op_same (ops.Mkdir p y f None) h = mkdir_same p y f 0 0
  op_same (ops.Mkdir p y f (Some s)) h = mkdir_same p y f s.0 s.1
  op_same (ops.Link p y f) h =
      let a = first_none (parent_fault (get t.nodes p)) (first_fault (taken_fault (named t p y)) (link_fault (get t.nodes f))) h in
      let b = first_none (taken_fault (named t p y)) (link_fault (get t.nodes f)) a.1 in
      let k = link_none (get t.nodes f) b.1 in
      subst (λ (o : Option Node). Same (op_updates targets batch l (ops.Link p y f)) (PutName p y f ∷ changed_node f o (λ n. record n { links = n.links + 1 }))) (sym k.1)
      (ap (λ b. same_fid f x || (b || false)) (part_same p y) ∙ mixed (same_fid f x) (same_fid (part_named targets p (layout_at l p) y) x))
    where
      mixed : (a b : Bool) → (a || (b || false)) ≡ (b || (a || false))
      mixed true true = refl
      mixed true false = refl
      mixed false true = refl
      mixed false false = refl
  op_same (ops.Unlink p y) h = found_same p y _ h
  op_same (ops.Rmdir p y) h = found_same p y _ h
  op_same (ops.Rename p y q z) h =
      let a = first_none (parent_fault (get t.nodes p)) (found_fault (named t p y) (moved_fault t p y q z)) h in
      let c = found_none (named t p y) (moved_fault t p y q z) a.1 in
      subst (λ (o : Option Fid). Same (rename_updates targets batch l p y q z o) (renamed t p y q z o)) (sym c.1) (rename_same p y q z c.0)
  op_same (ops.SetAttr f mode uid gid) h = let n = absent_none (get t.nodes f) h in node_same f _ _ n.0 n.1 refl
  op_same (ops.SetXattr f y v) h = let n = setxattr_there (get t.nodes f) y h in node_same f _ _ n.0 n.1 refl
  op_same (ops.DelXattr f y) h = let n = xattr_there (get t.nodes f) y h in node_same f _ _ n.0 n.1 refl
  op_same (ops.Migrate d c i) h = migrate_same d c i
  op_same (ops.Lookup p y) h = refl
  op_same (ops.GetAttr f) h = refl
  op_same (ops.GetXattr f y) h = refl

  by_fault : (op : Op) (f : Option Errno) → op_fault targets t op ≡ f → Same (op_updates targets batch l op) (changes targets t op)
  by_fault op None e = subst (λ (cs : List Change). Same (op_updates targets batch l op) cs) (sym (decides targets t op None e)) (op_same op e)
  by_fault op (Some z) e = subst (λ (cs : List Change). Same (op_updates targets batch l op) cs) (sym (decides targets t op (Some z) e)) refl

  pub all_same : (op : Op) → N (updates targets batch l op) x ≡ is_among (wrote targets l op) x
  all_same op = by_fault op (op_fault targets t op) refl

pub updates_name_what_is_written : UpdatesNameWhatIsWritten
updates_name_what_is_written targets most batch l op x sound = all_same targets most batch l sound x op
