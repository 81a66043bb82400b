-- How many names each node has after an operation, and by which directory a directory is named.
use Rattle.std.proofs.Common.{◌≡◌, ◌<◌, ◌≤◌, ◌||◌, ◌&&◌, ◌+◌, ◌-◌, ⊎_elim, ℕ, zero, suc, Bool, true, false, true≢false, not, nat_le, cond, if◌then◌else◌, Option, Some, None, List, [], ◌∷◌, ◌++◌, refl, sym, ap, ◌∙◌, subst, arith}
use Rattle.std.proofs.lemmas.Bool.Decides.{nat_tests}
use Rattle.std.specs.FinMap.{get}
use Rattle.fid_space.specs.declared.fid.Fid.{Fid}
use Rattle.tree_model.specs.declared.node.Node.{Node}
use Rattle.tree_model.specs.Tree.{Tree, named, same_fid, root_fid, directory_in, file_node}
use Rattle.tree_model.specs.Changes.{Change, PutNode, PutName, DropName, NewLayout, NextLayout, MoveNames}
use Rattle.tree_model.specs.Keys.{Laid, laid_after_all}
use Rattle.tree_model.specs.Step.{is_dir, same_place}
use Rattle.tree_sound.specs.Sound.{IsSound, Counted, names_due}
use Rattle.tree_sound.specs.Shapes.{Shape, Nothing, File, Directory, Linked, Left, Renamed, Changed, Migrated, Releases, Absent, Goes, Fewer, Moving, Stays, Turns, Over, Free, Instead}
use Rattle.tree_sound.proofs.Basics.{which, same_is, same_self, no_self, at_fid, neither, some_is, none_is}
use Rattle.tree_sound.proofs.Points.{node_effect, node_fold, name_fold, nodes_are, names_are, place_is, place_self}
use Rattle.tree_sound.proofs.Counts.{put, keeps, gains, loses, named_some, one_place, counts_as, apart_place}

above_one : (k : ℕ) → nat_le k 1 ≡ false → 1 < k
above_one k h = grind (arith, nat_tests)

at_most_one : (k : ℕ) → nat_le k 1 ≡ true → k ≤ 1
at_most_one k h = grind (arith, nat_tests)

-- ---- how many names are due

due_file : (f : Fid) (n : Node) → n.dir ≡ false → names_due f (Some n) ≡ n.links
due_file f n h = ap (λ b. if b then (if same_fid f root_fid then 0 else 1) else n.links) h

pub due_dir : (f : Fid) (n : Node) → n.dir ≡ true → names_due f (Some n) ≡ (if same_fid f root_fid then 0 else 1)
due_dir f n h = ap (λ b. if b then (if same_fid f root_fid then 0 else 1) else n.links) h

one_due : (b : Bool) → 1 ≤ (if b then 0 else 1) → ◌≡◌ {A = ℕ} (if b then 0 else 1) 1
one_due true h = absurd (omega (arith, h))
one_due false h = refl

pub due_one : (f : Fid) (n : Node) → n.dir ≡ true → 1 ≤ names_due f (Some n) → names_due f (Some n) ≡ 1
due_one f n h some = due_dir f n h ∙ one_due (same_fid f root_fid) (subst (λ k. 1 ≤ k) (due_dir f n h) some)

last_due : (f : Fid) (n : Node) → (n.dir || nat_le n.links 1) ≡ true → 1 ≤ names_due f (Some n) → names_due f (Some n) ≡ 1
last_due f n h some = ⊎_elim (λ d. due_one f n d some)
    (λ (d : n.dir ≡ false).
    let low = at_most_one n.links (sym (ap (λ b. b || nat_le n.links 1) d) ∙ h) in
    let e = due_file f n d in
    let at : 1 ≤ n.links = subst (λ k. 1 ≤ k) e some in
    e ∙ omega (arith, low, at))
    (which n.dir)

-- a node that is put stands there
own_node : (f : Fid) (n : Node) (o : Option Node) → cond (same_fid f f) (Some n) o ≡ Some n
own_node f n o = ap (λ b. cond b (Some n) o) (same_self f)

own_gone : (f : Fid) (o : Option Node) → cond (same_fid f f) None o ≡ None
own_gone f o = ap (λ b. cond b None o) (same_self f)

-- ---- one link less

module _ (t : Tree) (c : Fid) where
  released_due : (gone : List Change) → Releases t c gone → 1 ≤ names_due c (get t.nodes c) → suc (names_due c (node_fold gone c (get t.nodes c))) ≡ names_due c (get t.nodes c)
  released_due _ (Absent e) some = absurd (let h : 1 ≤ 0 = subst (λ o. 1 ≤ names_due c o) e some in omega (arith, h))
  released_due _ (Goes n e last) some =
      ap (λ o. suc (names_due c o)) (own_gone c (get t.nodes c)) ∙ sym (ap (λ o. names_due c o) e ∙ last_due c n last (subst (λ o. 1 ≤ names_due c o) e some))
  released_due _ (Fewer n e more) some =
      let both = neither n.dir (nat_le n.links 1) more in
      let high = above_one n.links both.1 in
      let step : suc (n.links - 1) ≡ n.links = omega (arith, high) in
      ap (λ o. suc (names_due c o)) (own_node c (record n { links = n.links - 1 }) (get t.nodes c))
      ∙ ap suc (due_file c (record n { links = n.links - 1 }) both.0) ∙ step ∙ sym (ap (λ o. names_due c o) e ∙ due_file c n both.0)

  released_other : (gone : List Change) (g : Fid) (o : Option Node) → Releases t c gone → same_fid c g ≡ false → node_fold gone g o ≡ o
  released_other _ g o (Absent e) h = refl
  released_other _ g o (Goes n e last) h = ap (λ b. cond b None o) h
  released_other _ g o (Fewer n e more) h = ap (λ b. cond b (Some (record n { links = n.links - 1 })) o) h

  -- a directory that is left was there
  released_dir : (gone : List Change) (g : Fid) (o : Option Node) (k : Node) → Releases t c gone → node_fold gone g o ≡ Some k → k.dir ≡ true → o ≡ Some k
  released_dir _ g o k (Absent e) h d = h
  released_dir _ g o k (Goes n e last) h d = by_test (same_fid c g) h
    where
      by_test : (b : Bool) → cond b None o ≡ Some k → o ≡ Some k
      by_test true s = absurd (none_is s)
      by_test false s = s
  released_dir _ g o k (Fewer n e more) h d = by_test (same_fid c g) h
    where
      by_test : (b : Bool) → cond b (Some (record n { links = n.links - 1 })) o ≡ Some k → o ≡ Some k
      by_test true s =
          let same : record n { links = n.links - 1 } ≡ k = some_is s in
          absurd (true≢false (sym d ∙ sym (ap (λ (n : Node). n.dir) same) ∙ (neither n.dir (nat_le n.links 1) more).0))
      by_test false s = s

  released_names : (gone rest : List Change) (e : Fid) (y : List ℕ) (o : Option Fid) → Releases t c gone → name_fold (gone ++ rest) e y o ≡ name_fold rest e y o
  released_names _ rest e y o (Absent h) = refl
  released_names _ rest e y o (Goes n h last) = refl
  released_names _ rest e y o (Fewer n h more) = refl

over_names : (t : Tree) (m q : Fid) (z : List ℕ) (gone rest : List Change) (e : Fid) (y : List ℕ) (o : Option Fid) → Over t m q z gone → name_fold (gone ++ rest) e y o ≡ name_fold rest e y o
over_names t m q z _ rest e y o (Free h) = refl
over_names t m q z gone rest e y o (Instead old _ h other bare r) = released_names t old gone rest e y o r

over_dir : (t : Tree) (m q : Fid) (z : List ℕ) (gone : List Change) (g : Fid) (o : Option Node) (k : Node) → Over t m q z gone → node_fold gone g o ≡ Some k → k.dir ≡ true → o ≡ Some k
over_dir t m q z _ g o k (Free e) h d = h
over_dir t m q z gone g o k (Instead old _ e other bare r) h d = released_dir t old gone g o k r h d

turn_names : (t : Tree) (p q m : Fid) (turn : List Change) (e : Fid) (y : List ℕ) (o : Option Fid) → Moving t p q m turn → name_fold turn e y o ≡ o
turn_names t p q m _ e y o (Stays h) = refl
turn_names t p q m _ e y o (Turns n h dir other) = refl

fold_append : (cs ds : List Change) (g : Fid) (o : Option Node) → node_fold (cs ++ ds) g o ≡ node_fold ds g (node_fold cs g o)
fold_append [] ds g o = refl
fold_append (c ∷ cs) ds g o = fold_append cs ds g (node_effect c g o)

-- a turn leaves the count of names
turn_due : (t : Tree) (p q m : Fid) (turn : List Change) (g : Fid) (o : Option Node) → Moving t p q m turn → (m ≡ g → o ≡ get t.nodes m) → names_due g (node_fold turn g o) ≡ names_due g o
turn_due t p q m _ g o (Stays h) same = refl
turn_due t p q m _ g o (Turns n e dir other) same = ⊎_elim
    (λ (s : same_fid m g ≡ true).
    ap (λ b. names_due g (cond b (Some (record n { parent = q })) o)) s ∙ sym (ap (λ o. names_due g o) (same (same_is m g s) ∙ e)))
    (λ (s : same_fid m g ≡ false). ap (λ b. names_due g (cond b (Some (record n { parent = q })) o)) s) (which (same_fid m g))

module _ (targets most : ℕ) (l : Laid) (sound : IsSound targets most l) where
  abbrev pub N : Fid → List ℕ → Option Fid
  N = named l.tree

  node : Fid → Option Node
  node g = get l.tree.nodes g

  pub due_some : (d : Fid) (x : List ℕ) (f : Fid) → N d x ≡ Some f → 1 ≤ names_due f (get l.tree.nodes f)
  due_some d x f e = named_some N d x f (names_due f (get l.tree.nodes f)) e (sound.counted f)

  -- what a name stands for is there, and isn't the root
  pub named_there : (d : Fid) (x : List ℕ) (f : Fid) → N d x ≡ Some f → get l.tree.nodes f ≡ None → ⊥
  named_there d x f e h = let some : 1 ≤ 0 = subst (λ o. 1 ≤ names_due f o) h (due_some d x f e) in absurd (omega (arith, some))

  count_of : (d : Fid) (x : List ℕ) (f : Fid) (k : ℕ) → names_due f (get l.tree.nodes f) ≡ suc k → Counted N f (suc k)
  count_of d x f k e = counts_as N N f (names_due f (get l.tree.nodes f)) (suc k) (λ _ _. refl) e (sound.counted f)

  pred : (n : ℕ) → 1 ≤ n → (k : ℕ) × (n ≡ suc k)
  pred zero h = absurd (omega (arith, h))
  pred (suc k) h = (k, refl)

  abbrev After : List Change → Type 0
  After cs = (f : Fid) → Counted (named (laid_after_all l cs).tree) f (names_due f (get (laid_after_all l cs).tree.nodes f))

  -- from counts over folds
  by_folds : (cs : List Change) (f : Fid) (M : Fid → List ℕ → Option Fid) (k : ℕ) → ((e : Fid) (y : List ℕ) → name_fold cs e y (N e y) ≡ M e y) → k ≡ names_due f (node_fold cs f (get l.tree.nodes f)) → Counted M f k
      → Counted (named (laid_after_all l cs).tree) f (names_due f (get (laid_after_all l cs).tree.nodes f))
  by_folds cs f M k names due c =
      counts_as M (named (laid_after_all l cs).tree) f k (names_due f (get (laid_after_all l cs).tree.nodes f))
      (λ e y. names_are l cs e y ∙ names e y) (due ∙ ap (λ o. names_due f o) (sym (nodes_are l cs f))) c

  not_some : (a b : Fid) → same_fid a b ≡ false → ◌≡◌ {A = Option Fid} (Some a) (Some b) → ⊥
  not_some a b h e = no_self a b h (some_is e)

  other_name : (d : Fid) (x : List ℕ) (a b : Fid) → N d x ≡ Some a → same_fid a b ≡ false → N d x ≡ Some b → ⊥
  other_name d x a b e h k = not_some a b h (sym e ∙ k)

  free_name : (d : Fid) (x : List ℕ) (b : Fid) → N d x ≡ None → N d x ≡ Some b → ⊥
  free_name d x b e k = none_is (sym e ∙ k)

  -- a node that comes, with its name
  comes : (cs : List Change) (p : Fid) (x : List ℕ) (f : Fid) (n : Node) → ((e : Fid) (y : List ℕ) → name_fold cs e y (N e y) ≡ put N p x (Some f) e y) → ((g : Fid) → node_fold cs g (get l.tree.nodes g) ≡ cond (same_fid f g) (Some n) (get l.tree.nodes g))
      → N p x ≡ None → suc (names_due f (get l.tree.nodes f)) ≡ names_due f (Some n) → After cs
  comes cs p x f n names nodes free due g = ⊎_elim
      (λ (e : f ≡ g). subst (λ g. Counted (named (laid_after_all l cs).tree) g (names_due g (get (laid_after_all l cs).tree.nodes g))) e
      (by_folds cs f (put N p x (Some f)) (suc (names_due f (get l.tree.nodes f))) names (due ∙ sym (ap (λ o. names_due f o) (nodes f ∙ own_node f n (get l.tree.nodes f))))
      (gains N p x (Some f) f (names_due f (get l.tree.nodes f)) (free_name p x f free) refl (sound.counted f))))
      (λ (e : same_fid f g ≡ false).
      by_folds cs g (put N p x (Some f)) (names_due g (get l.tree.nodes g)) names (sym (ap (λ o. names_due g o) (nodes g ∙ ap (λ b. cond b (Some n) (get l.tree.nodes g)) e)))
      (keeps N p x (Some f) g (names_due g (get l.tree.nodes g)) (free_name p x g free) (not_some f g e) (sound.counted g)))
      (at_fid f g)

  new_root : (f : Fid) → get l.tree.nodes f ≡ None → same_fid f root_fid ≡ false
  new_root f e = ⊎_elim (λ (s : same_fid f root_fid ≡ true). absurd (true≢false (sym sound.root ∙ sym (ap (λ g. is_dir (get l.tree.nodes g)) (same_is f root_fid s)) ∙ ap is_dir e))) (λ s. s) (which (same_fid f root_fid))

  leaves : (p : Fid) (x : List ℕ) (c : Fid) (gone : List Change) → N p x ≡ Some c → Releases l.tree c gone → After (DropName p x ∷ gone)
  leaves p x c gone e r g = ⊎_elim
      (λ (s : c ≡ g). subst (λ g. Counted (named (laid_after_all l cs).tree) g (names_due g (get (laid_after_all l cs).tree.nodes g))) s
      (let due = released_due l.tree c gone r (due_some p x c e) in
      by_folds cs c (put N p x None) (names_due c (node_fold gone c (get l.tree.nodes c))) names refl
      (loses N p x None c (names_due c (node_fold gone c (get l.tree.nodes c))) e none_is (count_of p x c (names_due c (node_fold gone c (get l.tree.nodes c))) (sym due)))))
      (λ (s : same_fid c g ≡ false).
      by_folds cs g (put N p x None) (names_due g (get l.tree.nodes g)) names (sym (ap (λ o. names_due g o) (released_other l.tree c gone g (get l.tree.nodes g) r s)))
      (keeps N p x None g (names_due g (get l.tree.nodes g)) (other_name p x c g e s) none_is (sound.counted g)))
      (at_fid c g)
    where
      cs : List Change
      cs = DropName p x ∷ gone

      names : (e : Fid) (y : List ℕ) → name_fold (DropName p x ∷ gone) e y (N e y) ≡ put N p x None e y
      names e y = ap (λ cs. name_fold cs e y (put N p x None e y)) (sym (append_none gone)) ∙ released_names l.tree c gone [] e y (put N p x None e y) r
        where
          append_none : (xs : List Change) → xs ++ [] ≡ xs
          append_none [] = refl
          append_none (x ∷ xs) = ap (λ ys. x ∷ ys) (append_none xs)

  -- ---- a rename

  module _ (p : Fid) (x : List ℕ) (q : Fid) (y : List ℕ) (m : Fid) (gone turn : List Change) (e : N p x ≡ Some m) (apart : same_place p x q y ≡ false)
      (o : Over l.tree m q y gone) (v : Moving l.tree p q m turn) where
    abbrev moved : List Change
    moved = DropName p x ∷ (gone ++ (PutName q y m ∷ turn))

    abbrev dropped : Fid → List ℕ → Option Fid
    dropped = put N p x None

    abbrev final : Fid → List ℕ → Option Fid
    final = put dropped q y (Some m)

    away : (p ≡ q) × (x ≡ y) → ⊥
    away h = true≢false (sym (subst (λ q. same_place p x q y ≡ true) h.0 (subst (λ y. same_place p x p y ≡ true) h.1 (place_self p x))) ∙ apart)

    moved_names : (d : Fid) (z : List ℕ) → name_fold moved d z (N d z) ≡ final d z
    moved_names d z = over_names l.tree m q y gone (PutName q y m ∷ turn) d z (dropped d z) o ∙ turn_names l.tree p q m turn d z (final d z) v

    moved_node : (g : Fid) → node_fold moved g (get l.tree.nodes g) ≡ node_fold turn g (node_fold gone g (get l.tree.nodes g))
    moved_node g = fold_append gone (PutName q y m ∷ turn) g (get l.tree.nodes g)

    -- the moved node itself isn't replaced
    kept_node : node_fold gone m (get l.tree.nodes m) ≡ get l.tree.nodes m
    kept_node = by_over gone o
      where
        by_over : (gone : List Change) → Over l.tree m q y gone → node_fold gone m (get l.tree.nodes m) ≡ get l.tree.nodes m
        by_over _ (Free h) = refl
        by_over gone (Instead old _ h other bare r) = released_other l.tree old gone m (get l.tree.nodes m) r (flip old other)
          where
            flip : (old : Fid) → same_fid m old ≡ false → same_fid old m ≡ false
            flip old h = ⊎_elim (λ (s : same_fid old m ≡ true). absurd (no_self m old h (sym (same_is old m s)))) (λ s. s) (which (same_fid old m))

    moved_due : (g : Fid) → names_due g (node_fold moved g (get l.tree.nodes g)) ≡ names_due g (node_fold gone g (get l.tree.nodes g))
    moved_due g = ap (λ o. names_due g o) (moved_node g)
        ∙ turn_due l.tree p q m turn g (node_fold gone g (get l.tree.nodes g)) v (λ s. subst (λ g. node_fold gone g (get l.tree.nodes g) ≡ get l.tree.nodes m) s kept_node)

    at_new : dropped q y ≡ N q y
    at_new = apart_place N p x None m q y away

    moves : After moved
    moves g = ⊎_elim
        (λ (s : m ≡ g). subst (λ g. Counted (named (laid_after_all l moved).tree) g (names_due g (get (laid_after_all l moved).tree.nodes g))) s here)
        (λ (s : same_fid m g ≡ false). by_folds moved g final (names_due g (node_fold gone g (get l.tree.nodes g))) moved_names (sym (moved_due g)) (others gone o g s)) (at_fid m g)
      where
        here : Counted (named (laid_after_all l moved).tree) m (names_due m (get (laid_after_all l moved).tree.nodes m))
        here =
            let k = pred (names_due m (get l.tree.nodes m)) (due_some p x m e) in
            by_folds moved m final (suc k.0) moved_names (sym (moved_due m ∙ ap (λ o. names_due m o) kept_node ∙ k.1))
            (gains dropped q y (Some m) m k.0 (λ s. new_other gone o (sym at_new ∙ s)) refl (loses N p x None m k.0 e none_is (count_of p x m k.0 k.1)))
          where
            new_other : (gone : List Change) → Over l.tree m q y gone → N q y ≡ Some m → ⊥
            new_other _ (Free h) s = none_is (sym h ∙ s)
            new_other gone (Instead old _ h other bare r) s = no_self m old other (some_is (sym s ∙ h))

        others : (gone2 : List Change) → Over l.tree m q y gone2 → (g : Fid) → same_fid m g ≡ false → Counted final g (names_due g (node_fold gone2 g (get l.tree.nodes g)))
        others _ (Free h) g s =
            keeps dropped q y (Some m) g (names_due g (get l.tree.nodes g)) (λ t. free_name q y g h (sym at_new ∙ t)) (not_some m g s)
            (keeps N p x None g (names_due g (get l.tree.nodes g)) (other_name p x m g e s) none_is (sound.counted g))
        others gone2 (Instead old _ h other bare r) g s = ⊎_elim
            (λ (same : old ≡ g). subst (λ g. Counted final g (names_due g (node_fold gone2 g (get l.tree.nodes g)))) same
            (let j = names_due old (node_fold gone2 old (get l.tree.nodes old)) in
            let due = released_due l.tree old gone2 r (due_some q y old h) in
            loses dropped q y (Some m) old j (at_new ∙ h) (not_some m old other)
            (keeps N p x None old (suc j) (other_name p x m old e other) none_is (count_of q y old j (sym due)))))
            (λ (differ : same_fid old g ≡ false).
            counts_as final final g (names_due g (get l.tree.nodes g)) (names_due g (node_fold gone2 g (get l.tree.nodes g))) (λ _ _. refl)
            (sym (ap (λ o. names_due g o) (released_other l.tree old gone2 g (get l.tree.nodes g) r differ)))
            (keeps dropped q y (Some m) g (names_due g (get l.tree.nodes g)) (λ t. other_name q y old g h differ (sym at_new ∙ t)) (not_some m g s)
            (keeps N p x None g (names_due g (get l.tree.nodes g)) (other_name p x m g e s) none_is (sound.counted g))))
            (at_fid old g)

    moves_inside : (d : Fid) (z : List ℕ) (g : Fid) (n : Node) → name_fold moved d z (N d z) ≡ Some g → node_fold moved g (get l.tree.nodes g) ≡ Some n → n.dir ≡ true → n.parent ≡ d
    moves_inside d z g n hn hk dir = ⊎_elim
        (λ (s : same_place q y d z ≡ true).
        let at = place_is q y d z s in
        let is : m ≡ g = some_is (sym (ap (λ b. cond b (Some m) (dropped d z)) s) ∙ (sym (moved_names d z) ∙ hn)) in
        by_turn turn v (subst (λ g. node_fold turn g (node_fold gone g (get l.tree.nodes g)) ≡ Some n) (sym is) (sym (moved_node g) ∙ hk)) ∙ at.0)
        (λ (s : same_place q y d z ≡ false).
        let old : dropped d z ≡ Some g = sym (ap (λ b. cond b (Some m) (dropped d z)) s) ∙ (sym (moved_names d z) ∙ hn) in
        ⊎_elim (λ (r : same_place p x d z ≡ true). absurd (none_is (sym (ap (λ b. cond b None (N d z)) r) ∙ old)))
        (λ (r : same_place p x d z ≡ false).
        let named : N d z ≡ Some g = sym (ap (λ b. cond b None (N d z)) r) ∙ old in
        elsewhere turn v named r (sym (moved_node g) ∙ hk)) (which (same_place p x d z)))
        (which (same_place q y d z))
      where
        same_parent : (a b : Bool) → a ≡ true → (a && not b) ≡ false → b ≡ true
        same_parent true true h k = refl
        same_parent true false h k = absurd (true≢false k)
        same_parent false b h k = absurd (true≢false (sym h))

        by_turn : (turn : List Change) → Moving l.tree p q m turn → node_fold turn m (node_fold gone m (get l.tree.nodes m)) ≡ Some n → n.parent ≡ q
        by_turn _ (Stays h) k =
            let was : get l.tree.nodes m ≡ Some n = sym kept_node ∙ k in
            let one : same_fid p q ≡ true = same_parent (is_dir (get l.tree.nodes m)) (same_fid p q) (ap is_dir was ∙ dir) h in
            sound.inside p x m n e was dir ∙ same_is p q one
        by_turn _ (Turns w h isdir other) k =
            let same : record w { parent = q } ≡ n = some_is (sym (own_node m (record w { parent = q }) (node_fold gone m (get l.tree.nodes m))) ∙ k) in
            sym (ap (λ (n : Node). n.parent) same)

        elsewhere : (turn : List Change) → Moving l.tree p q m turn → N d z ≡ Some g → same_place p x d z ≡ false → node_fold turn g (node_fold gone g (get l.tree.nodes g)) ≡ Some n → n.parent ≡ d
        elsewhere _ (Stays h) named r k = sound.inside d z g n named (over_dir l.tree m q y gone g (get l.tree.nodes g) n o k dir) dir
        elsewhere _ (Turns w h isdir other) named r k = ⊎_elim
            (λ (same : m ≡ g).
            let due : names_due m (get l.tree.nodes m) ≡ 1 = ap (λ o. names_due m o) h ∙ due_one m w isdir (subst (λ o. 1 ≤ names_due m o) h (due_some p x m e)) in
            let at = one_place N p x d z m (count_of p x m 0 due) e (named ∙ ap Some (sym same)) in
            absurd (true≢false (sym (subst (λ d. same_place p x d z ≡ true) at.0 (subst (λ z. same_place p x p z ≡ true) at.1 (place_self p x))) ∙ r)))
            (λ (differ : same_fid m g ≡ false).
            let was : node_fold gone g (get l.tree.nodes g) ≡ Some n = sym (ap (λ b. cond b (Some (record w { parent = q })) (node_fold gone g (get l.tree.nodes g))) differ) ∙ k in
            sound.inside d z g n named (over_dir l.tree m q y gone g (get l.tree.nodes g) n o was dir) dir)
            (at_fid m g)

  abbrev Inside : List Change → Type 0
  Inside cs = (d : Fid) (z : List ℕ) (g : Fid) (n : Node) → name_fold cs d z (N d z) ≡ Some g → node_fold cs g (get l.tree.nodes g) ≡ Some n → n.dir ≡ true → n.parent ≡ d

  comes_inside : (cs : List Change) (p : Fid) (x : List ℕ) (f : Fid) (k : Node) → ((e : Fid) (y : List ℕ) → name_fold cs e y (N e y) ≡ put N p x (Some f) e y)
      → ((g : Fid) → node_fold cs g (get l.tree.nodes g) ≡ cond (same_fid f g) (Some k) (get l.tree.nodes g)) → (k.dir ≡ true → (k.parent ≡ p) × ((d : Fid) (z : List ℕ) → N d z ≡ Some f → ⊥)) → Inside cs
  comes_inside cs p x f k names nodes new d z g n hn hk dir = ⊎_elim
      (λ (s : f ≡ g).
      let same : k ≡ n = some_is (sym (own_node f k (get l.tree.nodes f)) ∙ (sym (nodes f) ∙ subst (λ g. node_fold cs g (get l.tree.nodes g) ≡ Some n) (sym s) hk)) in
      let was = new (ap (λ (n : Node). n.dir) same ∙ dir) in
      sym (ap (λ (n : Node). n.parent) same) ∙ was.0 ∙ ⊎_elim (λ (r : same_place p x d z ≡ true). (place_is p x d z r).0)
      (λ (r : same_place p x d z ≡ false). absurd (was.1 d z (sym (ap (λ b. cond b (Some f) (N d z)) r) ∙ (sym (names d z) ∙ (hn ∙ ap Some (sym s)))))) (which (same_place p x d z)))
      (λ (s : same_fid f g ≡ false).
      let was : get l.tree.nodes g ≡ Some n = sym (ap (λ b. cond b (Some k) (get l.tree.nodes g)) s) ∙ (sym (nodes g) ∙ hk) in
      ⊎_elim (λ (r : same_place p x d z ≡ true). absurd (not_some f g s (sym (ap (λ b. cond b (Some f) (N d z)) r) ∙ (sym (names d z) ∙ hn))))
      (λ (r : same_place p x d z ≡ false). sound.inside d z g n (sym (ap (λ b. cond b (Some f) (N d z)) r) ∙ (sym (names d z) ∙ hn)) was dir) (which (same_place p x d z)))
      (at_fid f g)

  leaves_names : (p : Fid) (x : List ℕ) (c : Fid) (gone : List Change) → Releases l.tree c gone → (e : Fid) (y : List ℕ) → name_fold (DropName p x ∷ gone) e y (N e y) ≡ put N p x None e y
  leaves_names p x c _ (Absent h) e y = refl
  leaves_names p x c _ (Goes n h last) e y = refl
  leaves_names p x c _ (Fewer n h more) e y = refl

  leaves_inside : (p : Fid) (x : List ℕ) (c : Fid) (gone : List Change) → Releases l.tree c gone → Inside (DropName p x ∷ gone)
  leaves_inside p x c gone r d z g n hn hk dir = ⊎_elim
      (λ (s : same_place p x d z ≡ true). absurd (none_is (sym (ap (λ b. cond b None (N d z)) s) ∙ (sym (leaves_names p x c gone r d z) ∙ hn))))
      (λ (s : same_place p x d z ≡ false). sound.inside d z g n (sym (ap (λ b. cond b None (N d z)) s) ∙ (sym (leaves_names p x c gone r d z) ∙ hn)) (released_dir l.tree c gone g (get l.tree.nodes g) n r hk dir) dir)
      (which (same_place p x d z))

  -- ---- each change of an operation

  abbrev Sons : List Change → Type 0
  Sons cs = After cs × Inside cs

  unchanged : (cs : List Change) → ((e : Fid) (y : List ℕ) → name_fold cs e y (N e y) ≡ N e y) → ((g : Fid) → node_fold cs g (get l.tree.nodes g) ≡ get l.tree.nodes g) → Sons cs
  unchanged cs names nodes = (
    λ g. by_folds cs g N (names_due g (get l.tree.nodes g)) names (sym (ap (λ o. names_due g o) (nodes g))) (sound.counted g),
    λ d z g n hn hk dir. sound.inside d z g n (sym (names d z) ∙ hn) (sym (nodes g) ∙ hk) dir,
  )

  unnamed : (f : Fid) → get l.tree.nodes f ≡ None → (d : Fid) (z : List ℕ) → N d z ≡ Some f → ⊥
  unnamed f new d z e = named_there d z f e new

  file_due : (f : Fid) (n : Node) → get l.tree.nodes f ≡ Some n → n.dir ≡ false → suc (names_due f (get l.tree.nodes f)) ≡ names_due f (Some (record n { links = n.links + 1 }))
  file_due f n e file =
      let a : names_due f (get l.tree.nodes f) ≡ n.links = ap (λ o. names_due f o) e ∙ due_file f n file in
      let b : names_due f (Some (record n { links = n.links + 1 })) ≡ n.links + 1 = due_file f (record n { links = n.links + 1 }) file in
      omega (arith, a, b)

  pub sons : (cs : List Change) → Shape targets l.tree cs → Sons cs
  sons _ Nothing = unchanged [] (λ e y. refl) (λ g. refl)
  sons _ (File p x f dir free new client) =
      let cs : List Change = PutNode f file_node ∷ PutName p x f ∷ [] in (
        comes cs p x f file_node (λ e y. refl) (λ g. refl) free (ap (λ o. suc (names_due f o)) new),
        comes_inside cs p x f file_node (λ e y. refl) (λ g. refl) (λ h. absurd (true≢false (sym h))),
      )
  sons _ (Directory p x f c i dir free new client) =
      let cs : List Change = PutNode f (directory_in p) ∷ PutName p x f ∷ NewLayout f c i ∷ [] in
      let one : names_due f (Some (directory_in p)) ≡ 1 = ap (λ b. if b then 0 else 1) (new_root f new) in (
        comes cs p x f (directory_in p) (λ e y. refl) (λ g. refl) free (ap (λ o. suc (names_due f o)) new ∙ sym one),
        comes_inside cs p x f (directory_in p) (λ e y. refl) (λ g. refl) (λ h. (refl, unnamed f new)),
      )
  sons _ (Linked p x f n dir free e file few) =
      let k : Node = record n { links = n.links + 1 } in
      let cs : List Change = PutName p x f ∷ PutNode f k ∷ [] in (
        comes cs p x f k (λ e y. refl) (λ g. refl) free (file_due f n e file),
        comes_inside cs p x f k (λ e y. refl) (λ g. refl) (λ h. absurd (true≢false (sym h ∙ file))),
      )
  sons _ (Left p x c gone dir e bare r) = (leaves p x c gone e r, leaves_inside p x c gone r)
  sons _ (Renamed p x q y m gone turn dir into e apart o v) = (moves p x q y m gone turn e apart o v, moves_inside p x q y m gone turn e apart o v)
  sons _ (Changed f n k e like) =
      let cs : List Change = PutNode f k ∷ [] in
      let due : names_due f (Some k) ≡ names_due f (get l.tree.nodes f) =
      (λ i. if like.dir i then (if same_fid f root_fid then 0 else 1) else like.links i) ∙ sym (ap (λ o. names_due f o) e) in (
        λ g. ⊎_elim
            (λ (s : f ≡ g). subst (λ g. Counted (named (laid_after_all l cs).tree) g (names_due g (get (laid_after_all l cs).tree.nodes g))) s
            (by_folds cs f N (names_due f (get l.tree.nodes f)) (λ e y. refl) (sym (ap (λ o. names_due f o) (own_node f k (get l.tree.nodes f)) ∙ due)) (sound.counted f)))
            (λ (s : same_fid f g ≡ false).
            by_folds cs g N (names_due g (get l.tree.nodes g)) (λ e y. refl) (sym (ap (λ b. names_due g (cond b (Some k) (get l.tree.nodes g))) s)) (sound.counted g))
            (at_fid f g),
        λ d z g w hn hk dir. ⊎_elim
            (λ (s : f ≡ g).
            let same : k ≡ w = some_is (sym (own_node f k (get l.tree.nodes f)) ∙ subst (λ g. node_fold cs g (get l.tree.nodes g) ≡ Some w) (sym s) hk) in
            sym (ap (λ (n : Node). n.parent) same) ∙ like.parent
            ∙ sound.inside d z f n (hn ∙ ap Some (sym s)) e (sym like.dir ∙ (ap (λ (n : Node). n.dir) same ∙ dir)))
            (λ (s : same_fid f g ≡ false). sound.inside d z g w hn (sym (ap (λ b. cond b (Some k) (get l.tree.nodes g)) s) ∙ hk) dir)
            (at_fid f g),
      )
  sons _ (Migrated d c i dir) = unchanged (NextLayout d c i ∷ MoveNames d ∷ []) (λ e y. refl) (λ g. refl)

  -- no name stands for the root
  zero_due : (o : Option Node) → is_dir o ≡ true → names_due root_fid o ≡ 0
  zero_due None h = refl
  zero_due (Some n) h = due_dir root_fid n h

  pub rootless : (p : Fid) (x : List ℕ) (c : Fid) → N p x ≡ Some c → same_fid c root_fid ≡ false
  rootless p x c at = ⊎_elim
      (λ (s : c ≡ root_fid).
      let some = due_some p x root_fid (at ∙ ap Some s) in
      let z = zero_due (get l.tree.nodes root_fid) sound.root in
      absurd (omega (arith, some, z)))
      (λ s. s) (at_fid c root_fid)

  -- the root stays a directory, under itself
  abbrev Roots : List Change → Type 0
  Roots cs = (n : Node) → get l.tree.nodes root_fid ≡ Some n → n.dir ≡ true → (k : Node) × (node_fold cs root_fid (get l.tree.nodes root_fid) ≡ Some k) × (k.dir ≡ true) × (k.parent ≡ n.parent)

  as_it_was : (cs : List Change) → node_fold cs root_fid (get l.tree.nodes root_fid) ≡ get l.tree.nodes root_fid → Roots cs
  as_it_was cs h n e d = (n, h ∙ e, d, refl)

  -- what is put or goes elsewhere leaves the root
  put_aside : (f : Fid) (k : Node) (o : Option Node) → same_fid f root_fid ≡ false → cond (same_fid f root_fid) (Some k) o ≡ o
  put_aside f k o h = ap (λ b. cond b (Some k) o) h

  over_aside : (m q : Fid) (y : List ℕ) (gone : List Change) → Over l.tree m q y gone → node_fold gone root_fid (get l.tree.nodes root_fid) ≡ get l.tree.nodes root_fid
  over_aside m q y _ (Free e) = refl
  over_aside m q y gone (Instead old _ e other bare r) = released_other l.tree old gone root_fid (get l.tree.nodes root_fid) r (rootless q y old e)

  turn_aside : (p q m : Fid) (turn : List Change) (o : Option Node) → Moving l.tree p q m turn → same_fid m root_fid ≡ false → node_fold turn root_fid o ≡ o
  turn_aside p q m _ o (Stays e) h = refl
  turn_aside p q m _ o (Turns n e dir other) h = put_aside m (record n { parent = q }) o h

  file_aside : (f : Fid) (n : Node) → get l.tree.nodes f ≡ Some n → n.dir ≡ false → same_fid f root_fid ≡ false
  file_aside f n e file = ⊎_elim
      (λ (s : f ≡ root_fid). absurd (true≢false (sym sound.root ∙ ap is_dir (ap (λ g. get l.tree.nodes g) (sym s) ∙ e) ∙ file)))
      (λ s. s) (at_fid f root_fid)

  pub roots : (cs : List Change) → Shape targets l.tree cs → Roots cs
  roots _ Nothing = as_it_was [] refl
  roots _ (File p x f dir free new client) = as_it_was (PutNode f file_node ∷ PutName p x f ∷ []) (put_aside f file_node (get l.tree.nodes root_fid) (new_root f new))
  roots _ (Directory p x f c i dir free new client) =
      as_it_was (PutNode f (directory_in p) ∷ PutName p x f ∷ NewLayout f c i ∷ []) (put_aside f (directory_in p) (get l.tree.nodes root_fid) (new_root f new))
  roots _ (Linked p x f n dir free e file few) =
      as_it_was (PutName p x f ∷ PutNode f (record n { links = n.links + 1 }) ∷ []) (put_aside f (record n { links = n.links + 1 }) (get l.tree.nodes root_fid) (file_aside f n e file))
  roots _ (Left p x c gone dir e bare r) = as_it_was (DropName p x ∷ gone) (released_other l.tree c gone root_fid (get l.tree.nodes root_fid) r (rootless p x c e))
  roots _ (Renamed p x q y m gone turn dir into e apart o v) =
      as_it_was (DropName p x ∷ (gone ++ (PutName q y m ∷ turn)))
      (fold_append gone (PutName q y m ∷ turn) root_fid (get l.tree.nodes root_fid)
      ∙ ap (λ o. node_fold turn root_fid o) (over_aside m q y gone o)
      ∙ turn_aside p q m turn (get l.tree.nodes root_fid) v (rootless p x m e))
  roots _ (Changed f n k e like) = λ w h d. ⊎_elim
      (λ (s : f ≡ root_fid).
      let is : n ≡ w = some_is (sym (ap (λ g. get l.tree.nodes g) (sym s) ∙ e) ∙ h) in
      (k, ap (λ g. cond (same_fid f g) (Some k) (get l.tree.nodes root_fid)) (sym s) ∙ own_node f k (get l.tree.nodes root_fid), like.dir ∙ ap (λ (n : Node). n.dir) is ∙ d, like.parent ∙ ap (λ (n : Node). n.parent) is))
      (λ s. as_it_was (PutNode f k ∷ []) (put_aside f k (get l.tree.nodes root_fid) s) w h d) (at_fid f root_fid)
  roots _ (Migrated d c i dir) = as_it_was (NextLayout d c i ∷ MoveNames d ∷ []) refl
