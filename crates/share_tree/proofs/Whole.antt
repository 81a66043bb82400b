-- The shares of a sound tree make it up.
use Rattle.std.proofs.Common.{◌≡◌, ◌≢◌, ◌≤◌, ◌<◌, ◌+◌, ◌&&◌, ◌||◌, nat_lt, nat_le, ℕ, Bool, true, false, cond, if◌then◌else◌, List, [], ◌∷◌, ◌++◌, map, length, get_or, Option, Some, None, is_some, inl, inr, refl, sym, ap, subst, ◌∙◌, ◌==◌, arith, mod-lt, append-nil}
use Rattle.std.proofs.lemmas.Bool.{eq-eqb}
use Rattle.std.proofs.lemmas.Bool.Decides.{eqb_tells, nat_tests}
use Rattle.std.proofs.lemmas.List.FromFn.{length-range_with_len, get_or-range_with_len}
use Rattle.std.proofs.lemmas.List.Folds.{list_any_at}
use Rattle.std.specs.List.{range_with_len, flat_map, list_any, AllByRecursion}
use Rattle.std.specs.Option.{option_map, unwrap_or}
use Rattle.std.specs.FinMap.{get, empty, entries, get-empty}
use Rattle.fid_space.specs.declared.fid.Fid.{Fid}
use Rattle.fid_space.specs.FidText.{IsFid}
use Rattle.fid_space.specs.Places.{place_of, has_place, is_client, stripe_of, stripe_fid}
use Rattle.fid_space.proofs.Stripes.{stripe_place}
use Rattle.tree_model.specs.declared.node.Node.{Node}
use Rattle.tree_model.specs.Fids.{fid_cmp, name_cmp}
use Rattle.tree_model.specs.Tree.{Tree, Names, bare, names_of, named, no_fid}
use Rattle.tree_model.specs.Changes.{Change}
use Rattle.tree_model.specs.Step.{same_place}
use Rattle.tree_model.specs.Striped.{stripe_target}
use Rattle.tree_model.specs.Keys.{Layout, Laid, layout_at, laid_base, laid_after, laid_after_all}
use Rattle.tree_model.specs.Looks.{changes}
use Rattle.tree_model.specs.History.{Item}
use Rattle.tree_model.specs.Kept.{laid_step, laid_from, laid_of}
use Rattle.tree_model.proofs.Maps.{fids_total, exact_fids, names_total, exact_names}
use Rattle.tree_model.proofs.Fids.{told_same}
use Rattle.out_update.specs.Spelling.{fid_bytes}
use Rattle.out_update.specs.Values.{fid_value}
use Rattle.out_update.proofs.RequestValues.{fid_back}
use Rattle.striped_dir.specs.Parts.{part_of_name}
use Rattle.object_store.specs.Objects.{Object, ObjectMap}
use Rattle.object_store.specs.Following.{Entry, directory_of}
use Rattle.tree_sound.specs.Sound.{IsSound}
use Rattle.tree_sound.proofs.Basics.{same, not_both, same_itself, none_is}
use Rattle.tree_sound.proofs.Keeping.{sound_node, sound_none}
use Rattle.tree_sound.proofs.Points.{place_is, place_self}
use Rattle.tree_sound.proofs.Story.{histories_sound, parents_are, node_has_place}
use Rattle.tree_shares.specs.Shares.{share, is_at, file_body, directory_body, node_object, stripe_object, stripe_fid_of}
use Rattle.tree_shares.proofs.Facts.{facts}
use Rattle.tree_shares.proofs.Owner.{owner, index_in, owner_of_node}
use Rattle.tree_shares.proofs.Pointwise.{got_share}
use Rattle.tree_shares.proofs.Finding.{among, stripe_in, object_in, object_from, object_at, found_object, entries_got}
use Rattle.tree_shares.proofs.Here.{got_in, part_below}
use Rattle.tree_shares.proofs.Telling.{stripes_told}
use Rattle.tree_shares.proofs.Sets.{place_below}
use Rattle.share_tree.specs.Told.{told_fid, node_in, entries_in, all_entries}
use Rattle.share_tree.specs.Made.{with_objects, with_all, shares, made_of}
use Rattle.share_tree.specs.TreeLaws.{SharesMakeTheTree}
use Rattle.share_tree.proofs.Suffixes.{found_there}
use Rattle.share_tree.proofs.Pointwise.{flat_append, node_absent, node_there, node_of_stripe, hits, IsTrue, names_there, IsTidy, tidy_changed, objects_tidy, same_trees}

-- ---- lists

all_append : {A : Type 0} (P : A → Type 0) (xs ys : List A) → AllByRecursion P xs → AllByRecursion P ys → AllByRecursion P (xs ++ ys)
all_append P [] ys h k = k
all_append P (x ∷ xs) ys h k = (h.0, all_append P xs ys h.1 k)

all_map : {A : Type 0} (P Q : A → Type 0) → ((x : A) → P x → Q x) → (xs : List A) → AllByRecursion P xs → AllByRecursion Q xs
all_map P Q f [] h = tt
all_map P Q f (x ∷ xs) h = (f x h.0, all_map P Q f xs h.1)

or_true : (b : Bool) → (b || true) ≡ true
or_true true = refl
or_true false = refl

any_front : {A : Type 0} (p : A → Bool) (xs ys : List A) → list_any p xs ≡ true → list_any p (xs ++ ys) ≡ true
any_front p [] ys h = not_both true refl (sym h)
any_front p (x ∷ xs) ys h = by_first (any_front p xs ys) (p x) h
  where
    by_first : (list_any p xs ≡ true → list_any p (xs ++ ys) ≡ true) → (b : Bool) → (b || list_any p xs) ≡ true → (b || list_any p (xs ++ ys)) ≡ true
    by_first later true h = refl
    by_first later false h = later h

any_back : {A : Type 0} (p : A → Bool) (xs ys : List A) → list_any p ys ≡ true → list_any p (xs ++ ys) ≡ true
any_back p [] ys h = h
any_back p (x ∷ xs) ys h = ap (λ b. p x || b) (any_back p xs ys h) ∙ or_true (p x)

any_below : (b : ℕ → Bool) (n k : ℕ) → k < n → b k ≡ true → list_any b (range_with_len 0 n) ≡ true
any_below b n k low h =
    let len = length-range_with_len 0 n in
    let there : get_or (range_with_len 0 n) k 0 ≡ k = get_or-range_with_len 0 n k 0 low ∙ omega arith in
    list_any_at b (range_with_len 0 n) k 0 (omega (arith, len, low)) (ap b there ∙ h)

map_split : {A B : Type 0} (g : A → B) (xs : List A) (y : A) (ys : List A) → map g (xs ++ y ∷ ys) ≡ map g xs ++ g y ∷ map g ys
map_split g [] y ys = refl
map_split g (x ∷ xs) y ys = ap (λ zs. g x ∷ zs) (map_split g xs y ys)

-- ---- the node that a body tells

told_itself : (f : Fid) → IsFid f → told_fid f ≡ f
told_itself f h = ap (λ bytes. unwrap_or (option_map (λ v. v.0) (fid_value bytes)) no_fid) (sym (append-nil (fid_bytes f))) ∙ ap (λ o. unwrap_or (option_map (λ v. v.0) o) no_fid) (fid_back f [] h)

node_told : (n : Node) (ly : Layout) (b : Bool) → n.dir ≡ b → IsFid n.parent → (n.dir ≡ false → n.parent ≡ no_fid) → node_in (if b then directory_body n ly else file_body n) ≡ Some (record n { xattrs = empty })
node_told n ly true is fits file =
    let parent = told_itself n.parent fits in
    λ i. Some (record { dir = sym is i; mode = n.mode; uid = n.uid; gid = n.gid; links = n.links; parent = parent i; xattrs = empty })
node_told n ly false is fits file =
    let parent = sym (file is) in
    λ i. Some (record { dir = sym is i; mode = n.mode; uid = n.uid; gid = n.gid; links = n.links; parent = parent i; xattrs = empty })

directory_itself : (f : Fid) (n : Node) (ly : Layout) (b : Bool) → directory_of f (if b then directory_body n ly else file_body n) ≡ f
directory_itself f n ly true = refl
directory_itself f n ly false = refl

at_itself : (k : ℕ) → is_at k (Some k) ≡ true
at_itself k = eq-eqb k k refl

none_either : {A : Type 0} (b : Bool) → ◌≡◌ {A = Option A} (cond b None None) None
none_either true = refl
none_either false = refl

module _ (targets most : ℕ) (some : 1 ≤ targets) (few : targets ≤ 16) (bound : most ≤ 0x0ffffffe) (l : Laid) (sound : IsSound targets most l) where
  got : (k : ℕ) (f : Fid) → get (share targets l k) f ≡ cond (is_at k (place_of targets f)) (object_at targets l f) None
  got k f = got_share targets l k f ∙ ap (λ o. cond (is_at k (place_of targets f)) o None) (found_object targets most few l sound f)

  object_of_node : (f : Fid) (n : Node) → get l.tree.nodes f ≡ Some n → object_at targets l f ≡ Some (node_object n (layout_at l f) (names_of l.tree f))
  object_of_node f n e =
      ap (λ d. object_from targets l f d) (owner_of_node f (facts targets most l sound f n e).version)
      ∙ ap (λ o. object_in targets f f o (layout_at l f) (names_of l.tree f)) e
      ∙ ap (λ b. cond b (Some (node_object n (layout_at l f) (names_of l.tree f))) (stripe_in targets f (layout_at l f) (names_of l.tree f) f)) (same_itself f)

  -- ---- what added objects do, over all targets

  joined : {Y : Type 0} (a b : Bool) (w o : Option Y) → cond a w (cond b w o) ≡ cond (b || a) w o
  joined true true w o = refl
  joined true false w o = refl
  joined false true w o = refl
  joined false false w o = refl

  over_all : {Y : Type 0} (val : Tree → Option Y) (b : ℕ → Bool) (w : Option Y) → ((k : ℕ) (t : Tree) → val (with_objects t (share targets l k)) ≡ cond (b k) w (val t))
      → (ks : List ℕ) (t : Tree) → val (with_all t (map (share targets l) ks)) ≡ cond (list_any b ks) w (val t)
  over_all val b w h [] t = refl
  over_all val b w h (k ∷ ks) t = over_all val b w h ks (with_objects t (share targets l k)) ∙ ap (λ o. cond (list_any b ks) w o) (h k t) ∙ joined (list_any b ks) (b k) w (val t)

  -- a value that each share has or leaves, and one has where there is one
  settled : {Y : Type 0} (val : Tree → Option Y) (b : ℕ → Bool) (w : Option Y) → ((k : ℕ) (t : Tree) → val (with_objects t (share targets l k)) ≡ cond (b k) w (val t))
      → val bare ≡ None → ((y : Y) → w ≡ Some y → (k : ℕ) × (k < targets) × (b k ≡ true)) → val (made_of targets l) ≡ w
  settled {Y} val b w h none one =
      over_all val b w h (range_with_len 0 targets) bare
      ∙ ap (λ o. cond (list_any b (range_with_len 0 targets)) w o) none
      ∙ by_value w refl
    where
      by_value : (v : Option Y) → w ≡ v → cond (list_any b (range_with_len 0 targets)) w None ≡ w
      by_value None is = ap (λ o. cond (list_any b (range_with_len 0 targets)) o None) is ∙ none_either (list_any b (range_with_len 0 targets)) ∙ sym is
      by_value (Some y) is =
          let at = one y is in
          ap (λ c. cond c w None) (any_below b targets at.0 at.1 at.2)

  placed : (f : Fid) → has_place targets f ≡ true → (k : ℕ) × (place_of targets f ≡ Some k) × (k < targets)
  placed f h = by_place (place_of targets f) refl h
    where
      by_place : (o : Option ℕ) → place_of targets f ≡ o → is_some o ≡ true → (k : ℕ) × (place_of targets f ≡ Some k) × (k < targets)
      by_place None is there = not_both true refl (sym there)
      by_place (Some k) is there = (k, is, place_below targets f k some is)

  -- ---- nodes

  abbrev IsNoNode : Option Object → Type 0
  IsNoNode None = Unit {0}
  IsNoNode (Some o) = (node_in o.body ≡ None) × (o.attributes ≡ empty)

  no_node_in : (f d : Fid) (o : Option Node) → get l.tree.nodes d ≡ o → get l.tree.nodes f ≡ None → IsNoNode (object_in targets f d o (layout_at l d) (names_of l.tree d))
  no_node_in f d None at none = tt
  no_node_in f d (Some n) at none = by_same (same f d) refl
    where
      by_among : (b : Bool) → IsNoNode (cond b (Some (stripe_object d (layout_at l d) (names_of l.tree d) (index_in (layout_at l d) f))) None)
      by_among true = (refl, refl)
      by_among false = tt

      by_same : (b : Bool) → same f d ≡ b → IsNoNode (cond b (Some (node_object n (layout_at l d) (names_of l.tree d))) (stripe_in targets d (layout_at l d) (names_of l.tree d) f))
      by_same true is = absurd (none_is (sym none ∙ ap (λ g. get l.tree.nodes g) (told_same f d is) ∙ at))
      by_same false is = by_among (among targets d (layout_at l d) f)

  no_node : (f : Fid) → get l.tree.nodes f ≡ None → IsNoNode (object_at targets l f)
  no_node f none = no_node_in f (owner f) (get l.tree.nodes (owner f)) refl none

  node_stage : (f : Fid) (w : Option Node) → get l.tree.nodes f ≡ w → (k : ℕ) (t : Tree) → get (with_objects t (share targets l k)).nodes f ≡ cond (is_at k (place_of targets f) && is_some w) w (get t.nodes f)
  node_stage f w is k t = by_place (is_at k (place_of targets f)) (got k f)
    where
      without : (o : Option Object) → IsNoNode o → get (share targets l k) f ≡ o → get (with_objects t (share targets l k)).nodes f ≡ get t.nodes f
      without None h e = node_absent (share targets l k) t f e
      without (Some o) h e = node_of_stripe (share targets l k) t f o e h.0 h.1

      by_node : (v : Option Node) → get l.tree.nodes f ≡ v → get (share targets l k) f ≡ object_at targets l f → get (with_objects t (share targets l k)).nodes f ≡ cond (is_some v) v (get t.nodes f)
      by_node None none e = without (object_at targets l f) (no_node f none) e
      by_node (Some n) there e =
          let s = sound_node targets most l sound.each f n there in
          node_there (share targets l k) t f (node_object n (layout_at l f) (names_of l.tree f)) (record n { xattrs = empty }) (e ∙ object_of_node f n there)
          (node_told n (layout_at l f) n.dir refl (parents_are targets most l f n sound there) (λ file. (s.node.file file).2)) refl

      by_place : (b : Bool) → get (share targets l k) f ≡ cond b (object_at targets l f) None → get (with_objects t (share targets l k)).nodes f ≡ cond (b && is_some w) w (get t.nodes f)
      by_place true e = by_node w is e
      by_place false e = node_absent (share targets l k) t f e

  nodes_made : (f : Fid) → get (made_of targets l).nodes f ≡ get l.tree.nodes f
  nodes_made f =
      let w = get l.tree.nodes f in
      settled (λ t. get t.nodes f) (λ k. is_at k (place_of targets f) && is_some w) w (node_stage f w refl) (get-empty {X = Node} fid_cmp f)
      (λ n is.
      let at = placed f (node_has_place targets f (sound_node targets most l sound.each f n is).called) in
      (at.0, at.2, ap (λ o. is_at at.0 o && is_some w) at.1 ∙ ap (λ b. b && is_some w) (at_itself at.0) ∙ ap (λ o. is_some o) is))

  -- ---- names

  -- each entry of an object is one of its directory
  abbrev Holds : Fid → Option Object → Type 0
  Holds f None = Unit {0}
  Holds f (Some o) = (y : List ℕ) (c : Fid) → get o.entries y ≡ Some c → named l.tree (directory_of f o.body) y ≡ Some c

  holds_in : (f d : Fid) (o : Option Node) → Holds f (object_in targets f d o (layout_at l d) (names_of l.tree d))
  holds_in f d None = tt
  holds_in f d (Some n) = by_same (same f d) refl
    where
      by_among : (b : Bool) → Holds f (cond b (Some (stripe_object d (layout_at l d) (names_of l.tree d) (index_in (layout_at l d) f))) None)
      by_among true = λ y c h. from y c (part_of_name (layout_at l d) y == index_in (layout_at l d) f) (sym (got_in (layout_at l d) (index_in (layout_at l d) f) (names_of l.tree d) y) ∙ h)
        where
          from : (y : List ℕ) (c : Fid) (b : Bool) → cond b (get (names_of l.tree d) y) None ≡ Some c → get (names_of l.tree d) y ≡ Some c
          from y c true h = h
          from y c false h = absurd (none_is h)
      by_among false = tt

      own : (b : Bool) (y : List ℕ) (c : Fid) → get (if b then names_of l.tree d else empty) y ≡ Some c → get (names_of l.tree d) y ≡ Some c
      own true y c h = h
      own false y c h = absurd (none_is (sym (get-empty {X = Fid} name_cmp y) ∙ h))

      by_same : (b : Bool) → same f d ≡ b → Holds f (cond b (Some (node_object n (layout_at l d) (names_of l.tree d))) (stripe_in targets d (layout_at l d) (names_of l.tree d) f))
      by_same true is = λ y c h. ap (λ g. named l.tree g y) (directory_itself f n (layout_at l d) n.dir ∙ told_same f d is) ∙ own ((layout_at l d).count == 0) y c h
      by_same false is = by_among (among targets d (layout_at l d) f)

  holds : (f : Fid) (o : Object) → object_at targets l f ≡ Some o → (y : List ℕ) (c : Fid) → get o.entries y ≡ Some c → named l.tree (directory_of f o.body) y ≡ Some c
  holds f o is = subst (λ x. Holds f x) is (holds_in f (owner f) (get l.tree.nodes (owner f)))

  module _ (d : Fid) (x : List ℕ) where
    abbrev w : Option Fid
    w = named l.tree d x

    entries_true : (f : Fid) (o : Object) → object_at targets l f ≡ Some o → (es : List (List ℕ × Fid)) → AllByRecursion (λ e. get o.entries e.0 ≡ Some e.1) es
        → AllByRecursion (IsTrue d x w) (map (λ e. (f, directory_of f o.body, e.0, e.1)) es)
    entries_true f o is [] h = tt
    entries_true f o is (e ∷ es) h = (
      λ hit.
          let at = place_is (directory_of f o.body) e.0 d x hit in
          sym (holds f o is e.0 e.1 h.0) ∙ (λ i. named l.tree (at.0 i) (at.1 i)),
      entries_true f o is es h.1,
    )

    all_true : (os : List (Fid × Object)) → AllByRecursion (λ o. object_at targets l o.0 ≡ Some o.1) os → AllByRecursion (IsTrue d x w) (flat_map entries_in os)
    all_true [] h = tt
    all_true (o ∷ os) h = all_append (IsTrue d x w) (entries_in o) (flat_map entries_in os) (entries_true o.0 o.1 h.0 (entries o.1.entries) (entries_got names_total o.1.entries)) (all_true os h.1)

    at_share : (k : ℕ) (o : Fid × Object) → get (share targets l k) o.0 ≡ Some o.1 → object_at targets l o.0 ≡ Some o.1
    at_share k o h = by_place (is_at k (place_of targets o.0)) (sym (got k o.0) ∙ h)
      where
        by_place : (b : Bool) → cond b (object_at targets l o.0) None ≡ Some o.1 → object_at targets l o.0 ≡ Some o.1
        by_place true h = h
        by_place false h = absurd (none_is h)

    share_true : (k : ℕ) → AllByRecursion (IsTrue d x w) (all_entries (share targets l k))
    share_true k =
        all_true (entries (share targets l k))
        (all_map (λ o. get (share targets l k) o.0 ≡ Some o.1) (λ o. object_at targets l o.0 ≡ Some o.1) (at_share k) (entries (share targets l k)) (entries_got fids_total (share targets l k)))

    -- an object of a share that has the name
    pub record Stands (c : Fid) : Type 0 where
      pub target : ℕ
      pub fid : Fid
      pub object : Object
      pub below : target < targets
      pub here : get (share targets l target) fid ≡ Some object
      pub entry : get object.entries x ≡ Some c
      pub directory : directory_of fid object.body ≡ d

    stands_plain : (n : Node) (c : Fid) → get l.tree.nodes d ≡ Some n → named l.tree d x ≡ Some c → ((layout_at l d).count == 0) ≡ true → Stands c
    stands_plain n c at is plain =
        let p = placed d (node_has_place targets d (sound_node targets most l sound.each d n at).called) in
        record {
          target = p.0;
          fid = d;
          object = node_object n (layout_at l d) (names_of l.tree d);
          below = p.2;
          here = got p.0 d ∙ ap (λ o. cond (is_at p.0 o) (object_at targets l d) None) p.1 ∙ ap (λ b. cond b (object_at targets l d) None) (at_itself p.0) ∙ object_of_node d n at;
          entry = ap (λ b. get (if b then names_of l.tree d else empty) x) plain ∙ is;
          directory = directory_itself d n (layout_at l d) n.dir;
        }

    client_16 : is_client targets d ≡ true → is_client 16 d ≡ true
    client_16 h = grind (arith, nat_tests, h, few)

    stripe_is : (t i g : ℕ) → is_client targets d ≡ true → t < targets → i < 16 → g ≤ most → stripe_fid d t i g ≡ Some (stripe_of d t i g)
    stripe_is t i g client low small young =
        let a = client_16 client in
        let b : nat_lt t 16 ≡ true = grind (arith, nat_tests, low, few) in
        let c : nat_lt i 16 ≡ true = grind (arith, nat_tests, small) in
        let e : nat_le g 0x0ffffffe ≡ true = grind (arith, nat_tests, young, bound) in
        λ j. if a j && b j && c j && e j then Some (stripe_of d t i g) else None

    stands_striped : (n : Node) (c : Fid) → get l.tree.nodes d ≡ Some n → named l.tree d x ≡ Some c → (layout_at l d).count ≢ 0 → Stands c
    stands_striped n c at is striped =
        let ly = layout_at l d in
        let i = part_of_name ly x in
        let t = stripe_target targets ly i in
        let s = facts targets most l sound d n at in
        let inside : i < ly.count = part_below ly.count ly.start ly.generation x striped in
        let low : t < targets = mod-lt (ly.start + i) (omega (arith, some)) in
        let fewer = s.stripes in
        let place = (stripe_place targets d t i ly.generation (stripe_of d t i ly.generation) low (stripe_is t i ly.generation (s.client striped) low (omega (arith, inside, fewer, few)) s.migrations)).0 in
        record {
          target = t;
          fid = stripe_fid_of targets d ly i;
          object = stripe_object d ly (names_of l.tree d) i;
          below = low;
          here = stripes_told targets most l d n i t few sound at inside place;
          entry = got_in ly i (names_of l.tree d) x ∙ ap (λ b. cond b (get (names_of l.tree d) x) None) (at_itself i) ∙ is;
          directory = refl;
        }

    stands : (c : Fid) → named l.tree d x ≡ Some c → Stands c
    stands c is = by_node (get l.tree.nodes d) refl
      where
        by_node : (o : Option Node) → get l.tree.nodes d ≡ o → Stands c
        by_node None at = absurd (none_is (sym (ap (λ (m : Names). get m x) (sound_none targets most l sound.each d at).1 ∙ get-empty {X = Fid} name_cmp x) ∙ is))
        by_node (Some n) at = elim (eqb_tells (layout_at l d).count 0) [
          | inl e ↦ stands_plain n c at is e.0
          | inr e ↦ stands_striped n c at is e.1
        ]

    abbrev has_name : ℕ → Bool
    has_name k = list_any (hits d x) (all_entries (share targets l k))

    it_has : (c : Fid) (s : Stands c) → has_name s.target ≡ true
    it_has c s =
        let m = share targets l s.target in
        let o = found_there fids_total exact_fids m s.fid s.object s.here in
        let e = found_there names_total exact_names s.object.entries x c s.entry in
        let tell : List ℕ × Fid → Entry = λ y. (s.fid, directory_of s.fid s.object.body, y.0, y.1) in
        let hit : hits d x (tell (x, c)) ≡ true = ap (λ g. same_place g x d x) s.directory ∙ place_self d x in
        let own : list_any (hits d x) (entries_in (s.fid, s.object)) ≡ true =
        ap (λ ys. list_any (hits d x) (map tell ys)) e.is ∙ ap (λ ys. list_any (hits d x) ys) (map_split tell e.before (x, c) e.rest)
        ∙ any_back (hits d x) (map tell e.before) (tell (x, c) ∷ map tell e.rest) (ap (λ b. b || list_any (hits d x) (map tell e.rest)) hit) in
        ap (λ os. list_any (hits d x) (flat_map entries_in os)) o.is ∙ ap (λ es. list_any (hits d x) es) (flat_append entries_in o.before (s.fid, s.object) o.rest)
        ∙ any_back (hits d x) (flat_map entries_in o.before) (entries_in (s.fid, s.object) ++ flat_map entries_in o.rest) (any_front (hits d x) (entries_in (s.fid, s.object)) (flat_map entries_in o.rest) own)

    names_made : named (made_of targets l) d x ≡ named l.tree d x
    names_made =
        settled (λ t. named t d x) has_name w (λ k t. names_there (share targets l k) t d x w (share_true k)) nothing
        (λ c is. let s = stands c is in (s.target, s.below, it_has c s))
      where
        nothing : named bare d x ≡ None
        nothing = ap (λ o. get (unwrap_or o empty) x) (get-empty {X = Names} fid_cmp d) ∙ get-empty {X = Fid} name_cmp x

  all_tidy : (ms : List ObjectMap) (t : Tree) → IsTidy t → IsTidy (with_all t ms)
  all_tidy [] t h = h
  all_tidy (m ∷ ms) t h = all_tidy ms (with_objects t m) (objects_tidy m t h)

  pub shares_make : IsTidy l.tree → made_of targets l ≡ l.tree
  shares_make tidy = same_trees (made_of targets l) l.tree (all_tidy (shares targets l) bare (λ d names is none. none_is (sym (get-empty {X = Names} fid_cmp d) ∙ is))) tidy nodes_made names_made

-- ---- histories

changes_tidy : (l : Laid) (cs : List Change) → IsTidy l.tree → IsTidy (laid_after_all l cs).tree
changes_tidy l [] h = h
changes_tidy l (c ∷ cs) h = changes_tidy (laid_after l c) cs (tidy_changed l.tree c h)

history_tidy : (targets : ℕ) (l : Laid) (is : List Item) → IsTidy l.tree → IsTidy (laid_from targets l is).tree
history_tidy targets l [] h = h
history_tidy targets l (i ∷ is) h = history_tidy targets (laid_step targets l i.request.op) is (changes_tidy l (changes targets l.tree i.request.op) h)

pub shares_make_tree : SharesMakeTheTree
shares_make_tree targets history some few short ops =
    shares_make targets (length history) some few (omega (arith, short)) (laid_of targets history) (histories_sound targets history ops)
    (history_tidy targets laid_base history (λ d names is none. none_is (sym (get-empty {X = Names} fid_cmp d) ∙ is)))
