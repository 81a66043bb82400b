-- What the updates of a change do to the objects of one node, over plain variables.
use Rattle.std.proofs.Common.{◌≡◌, ◌≢◌, ◌≤◌, ◌<◌, ◌^◌, ◌+◌, ◌==◌, ◌||◌, if◌then◌else◌, ℕ, zero, suc, Bool, true, false, cond, List, [], ◌∷◌, ◌++◌, length, map, get_or, Option, Some, None, inl, inr, refl, sym, ap, ◌∙◌, arith}
use Rattle.std.proofs.lemmas.Bool.Decides.{nat_tests, eqb_tells}
use Rattle.std.proofs.lemmas.List.FromFn.{length-range_with_len, get_or-range_with_len}
use Rattle.std.proofs.lemmas.List.Folds.{list_any_at}
use Rattle.std.specs.List.{range_with_len, AllByRecursion}
use Rattle.std.specs.Ordering.{eq_by_cmp}
use Rattle.std.specs.declared.cmp.Ordering.TheVariants.{Equal}
use Rattle.std.specs.FinMap.{empty, get, insert, remove, same_map, get-empty, get-insert, get-remove, get-retain_keys}
use Rattle.fid_space.specs.declared.fid.Fid.{Fid}
use Rattle.fid_space.specs.FidText.{IsFid}
use Rattle.tree_model.specs.declared.node.Node.{Node}
use Rattle.tree_model.specs.Fids.{name_cmp}
use Rattle.tree_model.specs.Tree.{Names}
use Rattle.tree_model.specs.Keys.{Layout}
use Rattle.tree_model.proofs.Maps.{names_total, exact_names}
use Rattle.tree_model.proofs.Fids.{told_same, name_same}
use Rattle.out_update.specs.declared.update.Kind.{Kind}
use Rattle.out_update.specs.declared.update.Kind.TheVariants as kind
use Rattle.out_update.specs.Spelling.{fid_bytes}
use Rattle.striped_dir.specs.Parts.{part_of_name, create_of, destroy_of}
use Rattle.object_store.specs.declared.body.Body.{Body}
use Rattle.object_store.specs.ImageReading.{body_at}
use Rattle.object_store.specs.Bodies.{is_allowed, body_bytes}
use Rattle.object_store.specs.Objects.{Object, fresh}
use Rattle.object_store.specs.Meaning.{with_entry}
use Rattle.tree_shares.specs.Shares.{body_of, names_in, node_object, stripe_object, stripe_fid_of, stripe_of_directory}
use Rattle.tree_shares.specs.Updates.{update, part_named, inserted, deleted, created_node, created_stripes, destroyed_stripes}
use Rattle.tree_shares.proofs.Effects.{created_at, effect, touched, effects, effects-append}
use Rattle.tree_shares.proofs.Owner.{index_in}
use Rattle.tree_shares.proofs.Finding.{one_of, among, stripe_in, object_in, one_of_index}
use Rattle.tree_shares.proofs.Encoded.{fid_alone, body_back, stripe_bytes}
use Rattle.tree_sound.proofs.Basics.{same, by_bool, not_both}

-- ---- a node that is there

pub here_node : (targets : ℕ) (k : Kind) (batch : ℕ) (f : Fid) (ps : List (List ℕ)) (q : Fid) (n m : Node) (l : Layout) (names : Names)
    → effect (update k batch f ps) (Some (node_object n l names)) ≡ Some (node_object m l names)
    → effects (update k batch f ps ∷ []) q (object_in targets q f (Some n) l names) ≡ object_in targets q f (Some m) l names
here_node targets k batch f ps q n m l names h = both (same q f)
  where
    both : (b : Bool) → cond b (effect (update k batch f ps) (cond b (Some (node_object n l names)) (stripe_in targets f l names q))) (cond b (Some (node_object n l names)) (stripe_in targets f l names q))
        ≡ cond b (Some (node_object m l names)) (stripe_in targets f l names q)
    both true = h
    both false = refl

-- ---- stripes

-- the FID of a node is no stripe's
pub node_is_no_stripe : (targets : ℕ) (d : Fid) (l : Layout) (q f : Fid) → f.ver ≡ 0 → same q f ≡ true → (is : List ℕ) → one_of targets d l q is ≡ false
node_is_no_stripe targets d l q f v s [] = refl
node_is_no_stripe targets d l q f v s (i ∷ is) =
    by_bool (same q (stripe_fid_of targets d l i))
    (λ t.
    let a : q.ver ≡ f.ver = ap (λ (x : Fid). x.ver) (told_same q f s) in
    let b : q.ver ≡ (stripe_fid_of targets d l i).ver = ap (λ (x : Fid). x.ver) (told_same q (stripe_fid_of targets d l i) t) in
    absurd (omega (arith, a, b, v)))
    (λ t. ap (λ b. b || one_of targets d l q is) t ∙ node_is_no_stripe targets d l q f v s is)

-- one of the stripes is the one of its index
pub one_is_its_index : (targets : ℕ) (d : Fid) (l : Layout) (q : Fid) (is : List ℕ) → one_of targets d l q is ≡ true → same q (stripe_fid_of targets d l (index_in l q)) ≡ true
one_is_its_index targets d l q [] h = not_both false h refl
one_is_its_index targets d l q (i ∷ is) h =
    by_bool (same q (stripe_fid_of targets d l i))
    (λ s. ap (λ j. same q (stripe_fid_of targets d l j)) (one_of_index targets d l q i s) ∙ s)
    (λ s. one_is_its_index targets d l q is (sym (ap (λ b. b || one_of targets d l q is) s) ∙ h))

pub stripe_is_among : (targets : ℕ) (d : Fid) (l : Layout) (q : Fid) (i : ℕ) → i < l.count → same q (stripe_fid_of targets d l i) ≡ true → among targets d l q ≡ true
stripe_is_among targets d l q i low s =
    let len = length-range_with_len 0 l.count in
    let there : get_or (range_with_len 0 l.count) i 0 ≡ i = get_or-range_with_len 0 l.count i 0 low ∙ omega arith in
    list_any_at (λ j. same q (stripe_fid_of targets d l j)) (range_with_len 0 l.count) i 0 (omega (arith, len)) (ap (λ j. same q (stripe_fid_of targets d l j)) there ∙ s)

abbrev pub AreLow : List ℕ → Type 0
AreLow is = AllByRecursion (λ i. i ≤ 15) is

pub low_range : (a n : ℕ) → a + n ≤ 16 → AreLow (range_with_len a n)
low_range a zero h = tt
low_range a (suc n) h = (omega arith, low_range (a + 1) n (omega arith))

stripe_allowed : (d : Fid) (i : ℕ) → i ≤ 15 → is_allowed (stripe_of_directory d i) ≡ true
unfolding is_allowed
stripe_allowed d i h = grind (arith, nat_tests)

pub effect_create : (b : Body) (o : Option Object) → is_allowed b ≡ true → b.uid < 2 ^ 32 → b.gid < 2 ^ 32 → IsFid b.fid → created_at o (body_at (length (body_bytes b)) (body_bytes b)) ≡ Some (fresh b)
effect_create b o h u g f = ap (created_at o) (body_back b h u g f)

effect_create_stripe : (batch : ℕ) (d : Fid) (i : ℕ) (f : Fid) (o : Option Object) → IsFid d → i ≤ 15 → effect (create_of batch d i f) o ≡ Some (fresh (stripe_of_directory d i))
effect_create_stripe batch d i f o fits low =
    ap (λ bs. created_at o (body_at (length bs) bs)) (stripe_bytes d i) ∙ effect_create (stripe_of_directory d i) o (stripe_allowed d i low) (omega arith) (omega arith) fits

pub effects_created : (targets batch : ℕ) (d : Fid) (l : Layout) (q : Fid) → IsFid d → (is : List ℕ) → AreLow is → (o : Option Object)
    → effects (map (λ i. create_of batch d i (stripe_fid_of targets d l i)) is) q o ≡ cond (one_of targets d l q is) (Some (fresh (stripe_of_directory d (index_in l q)))) o
effects_created targets batch d l q fits [] low o = refl
effects_created targets batch d l q fits (i ∷ is) low o =
    let u = create_of batch d i (stripe_fid_of targets d l i) in
    let made : ℕ → Option Object = λ j. Some (fresh (stripe_of_directory d j)) in
    let right : Bool → Option Object = λ b. cond (b || one_of targets d l q is) (made (index_in l q)) o in
    effects_created targets batch d l q fits is low.1 (touched u q o)
    ∙ by_bool (same q (stripe_fid_of targets d l i))
    (λ s.
    let one : touched u q o ≡ made (index_in l q) = ap (λ b. cond b (effect u o) o) s ∙ effect_create_stripe batch d i (stripe_fid_of targets d l i) o fits low.0 ∙ ap made (sym (one_of_index targets d l q i s)) in
    ap (cond (one_of targets d l q is) (made (index_in l q))) one ∙ same_choice (one_of targets d l q is) (made (index_in l q)) ∙ sym (ap right s))
    (λ s. ap (λ b. cond (one_of targets d l q is) (made (index_in l q)) (cond b (effect u o) o)) s ∙ sym (ap right s))
  where
    same_choice : (b : Bool) (x : Option Object) → cond b x x ≡ x
    same_choice true x = refl
    same_choice false x = refl

effect_destroy : (batch : ℕ) (f : Fid) (o : Option Object) → effect (destroy_of batch f) o ≡ None
effect_destroy batch f None = refl
effect_destroy batch f (Some o) = refl

pub effects_destroyed : (targets batch : ℕ) (d : Fid) (l : Layout) (q : Fid) (is : List ℕ) (o : Option Object)
    → effects (map (λ i. destroy_of batch (stripe_fid_of targets d l i)) is) q o ≡ cond (one_of targets d l q is) None o
effects_destroyed targets batch d l q [] o = refl
effects_destroyed targets batch d l q (i ∷ is) o =
    let u = destroy_of batch (stripe_fid_of targets d l i) in
    effects_destroyed targets batch d l q is (touched u q o)
    ∙ ap (λ x. cond (one_of targets d l q is) None (cond (same q (stripe_fid_of targets d l i)) x o)) (effect_destroy batch (stripe_fid_of targets d l i) o)
    ∙ joined (same q (stripe_fid_of targets d l i)) (one_of targets d l q is)
  where
    joined : (a b : Bool) → cond b None (cond a None o) ≡ cond (a || b) None o
    joined true true = refl
    joined true false = refl
    joined false b = refl

-- ---- a new node

own_none : (b : Bool) → ◌≡◌ {A = Names} (if b then empty else empty) empty
own_none true = refl
own_none false = refl

pub names_in_none : (l : Layout) (i : ℕ) → names_in l i empty ≡ empty
names_in_none l i = same_map names_total exact_names _ _ (λ x.
    get-retain_keys empty (λ y. part_of_name l y == i) x (λ y e. ap (λ z. part_of_name l z == i) (sym (exact_names x y e)))
    ∙ ap (λ o. cond (part_of_name l x == i) o None) (get-empty {X = Fid} name_cmp x) ∙ nothing (part_of_name l x == i) ∙ sym (get-empty {X = Fid} name_cmp x))
  where
    nothing : (b : Bool) → ◌≡◌ {A = Option Fid} (cond b None None) None
    nothing true = refl
    nothing false = refl

pub here_created : (targets batch : ℕ) (f q : Fid) (n : Node) (l : Layout) → f.ver ≡ 0 → IsFid f → l.count ≤ 16 → is_allowed (body_of n l) ≡ true
    → (body_of n l).uid < 2 ^ 32 → (body_of n l).gid < 2 ^ 32 → IsFid (body_of n l).fid → n.xattrs ≡ empty
    → effects (created_node batch f n l ∷ created_stripes targets batch f l) q None ≡ object_in targets q f (Some n) l empty
here_created targets batch f q n l v fits few allowed u g p bare =
    let made = effect_create (body_of n l) None allowed u g p in
    let node : fresh (body_of n l) ≡ node_object n l empty = λ i. record { body = body_of n l; entries = sym (own_none (l.count == 0)) i; attributes = sym bare i } in
    let stripe : (k : ℕ) → fresh (stripe_of_directory f k) ≡ stripe_object f l empty k = λ k i. record { body = stripe_of_directory f k; entries = sym (names_in_none l k) i; attributes = empty } in
    effects_created targets batch f l q fits (range_with_len 0 l.count) (low_range 0 l.count (omega arith)) (touched (created_node batch f n l) q None)
    ∙ ap (λ o. cond (among targets f l q) (Some (fresh (stripe_of_directory f (index_in l q)))) (cond (same q f) o None)) (made ∙ ap (λ x. Some x) node)
    ∙ ap (λ o. cond (among targets f l q) (Some o) (cond (same q f) (Some (node_object n l empty)) None)) (stripe (index_in l q))
    ∙ by_bool (same q f)
    (λ s. ap (λ b. cond b (Some (stripe_object f l empty (index_in l q))) (cond (same q f) (Some (node_object n l empty)) None)) (node_is_no_stripe targets f l q f v s (range_with_len 0 l.count))
    ∙ ap (λ b. cond b (Some (node_object n l empty)) None) s ∙ sym (ap (λ b. cond b (Some (node_object n l empty)) (stripe_in targets f l empty q)) s))
    (λ s. ap (λ b. cond (among targets f l q) (Some (stripe_object f l empty (index_in l q))) (cond b (Some (node_object n l empty)) None)) s
    ∙ sym (ap (λ b. cond b (Some (node_object n l empty)) (stripe_in targets f l empty q)) s))

-- ---- a node that goes

pub here_destroyed : (targets batch : ℕ) (f q : Fid) (n : Node) (l : Layout) (names : Names)
    → effects (destroyed_stripes targets batch f l ++ destroy_of batch f ∷ []) q (object_in targets q f (Some n) l names) ≡ None
here_destroyed targets batch f q n l names =
    let o = object_in targets q f (Some n) l names in
    effects-append (destroyed_stripes targets batch f l) (destroy_of batch f ∷ []) q o
    ∙ ap (λ x. effects (destroy_of batch f ∷ []) q x) (effects_destroyed targets batch f l q (range_with_len 0 l.count) o)
    ∙ ap (λ x. cond (same q f) x (cond (among targets f l q) None o)) (effect_destroy batch f (cond (among targets f l q) None o))
    ∙ gone (same q f) (among targets f l q)
  where
    gone : (a b : Bool) → cond a None (cond b None (cond a (Some (node_object n l names)) (cond b (Some (stripe_object f l names (index_in l q))) None))) ≡ None
    gone true b = refl
    gone false true = refl
    gone false false = refl

-- ---- entries

pub part_below : (c s g : ℕ) (x : List ℕ) → c ≢ 0 → part_of_name (record { count = c; start = s; generation = g }) x < c
part_below zero s g x h = absurd (h refl)
part_below (suc c) s g x h = omega arith

pub none_of_none : (targets : ℕ) (d : Fid) (l : Layout) (q : Fid) → (l.count == 0) ≡ true → among targets d l q ≡ false
none_of_none targets d l q e =
    elim (eqb_tells l.count 0) [
      | inl h ↦ ap (λ n. one_of targets d l q (range_with_len 0 n)) h.1
      | inr h ↦ not_both (l.count == 0) e h.0
    ]

-- A change of the entries of a directory that changes one part: `g` changes the entries of the part that has the name.
module _ (targets : ℕ) (k : Kind) (batch : ℕ) (d : Fid) (x : List ℕ) (ps : List (List ℕ)) (q : Fid) (n : Node) (l : Layout) (names : Names) (g : Names → Names)
    (v : d.ver ≡ 0)
    (some : (o : Object) → effect (update k batch d ps) (Some o) ≡ Some (record o { entries = g o.entries }))
    (here : (i : ℕ) → (part_of_name l x == i) ≡ true → names_in l i (g names) ≡ g (names_in l i names))
    (there : (i : ℕ) → (part_of_name l x == i) ≡ false → names_in l i (g names) ≡ names_in l i names) where
  abbrev E : Option Object → Option Object
  E o = effect (update k batch d ps) o

  abbrev K : ℕ
  K = index_in l q

  abbrev S : Names → Option Object
  S m = stripe_in targets d l m q

  abbrev N : Names → Option Object
  N m = Some (record { body = body_of n l; entries = m; attributes = n.xattrs })

  plain : (l.count == 0) ≡ true → cond (same q d) (E (cond (same q d) (N names) (S names))) (cond (same q d) (N names) (S names)) ≡ cond (same q d) (N (g names)) (S (g names))
  plain e =
      let none = none_of_none targets d l q e in
      let left : Bool → Option Object = λ b. cond b (E (cond b (N names) (S names))) (cond b (N names) (S names)) in
      let right : Bool → Option Object = λ b. cond b (N (g names)) (S (g names)) in
      by_bool (same q d)
      (λ s. ap left s ∙ some (record { body = body_of n l; entries = names; attributes = n.xattrs }) ∙ sym (ap right s))
      (λ s. ap left s ∙ ap (λ b. cond b (Some (stripe_object d l names K)) None) none ∙ sym (ap (λ b. cond b (Some (stripe_object d l (g names) K)) None) none) ∙ sym (ap right s))

  -- the index of the part
  is_it : same q (stripe_fid_of targets d l (part_of_name l x)) ≡ true → (part_of_name l x == K) ≡ true
  is_it s =
      elim (eqb_tells (part_of_name l x) K) [
        | inl h ↦ h.0
        | inr h ↦ absurd (h.1 (sym (one_of_index targets d l q (part_of_name l x) s)))
      ]

  isnt_it : same q (stripe_fid_of targets d l (part_of_name l x)) ≡ false → among targets d l q ≡ true → (part_of_name l x == K) ≡ false
  isnt_it s am =
      elim (eqb_tells (part_of_name l x) K) [
        | inl h ↦ not_both (same q (stripe_fid_of targets d l K)) (one_is_its_index targets d l q (range_with_len 0 l.count) am) (ap (λ j. same q (stripe_fid_of targets d l j)) (sym h.1) ∙ s)
        | inr h ↦ h.0
      ]

  stripes : l.count ≢ 0 → cond (same q (stripe_fid_of targets d l (part_of_name l x))) (E (S names)) (S names) ≡ S (g names)
  stripes some_count =
      let low : part_of_name l x < l.count = part_below l.count l.start l.generation x some_count in
      let shown : Names → Bool → Option Object = λ m b. cond b (Some (stripe_object d l m K)) None in
      by_bool (same q (stripe_fid_of targets d l (part_of_name l x)))
      (λ s.
      let am = stripe_is_among targets d l q (part_of_name l x) low s in
      let same_names = here K (is_it s) in
      ap (λ b. cond b (E (S names)) (S names)) s ∙ ap (λ b. E (shown names b)) am ∙ some (stripe_object d l names K)
      ∙ (λ i. Some (record { body = stripe_of_directory d K; entries = sym same_names i; attributes = empty })) ∙ sym (ap (shown (g names)) am))
      (λ s. ap (λ b. cond b (E (S names)) (S names)) s ∙ by_bool (among targets d l q)
      (λ am.
      let same_names = there K (isnt_it s am) in
      ap (shown names) am ∙ (λ i. Some (record { body = stripe_of_directory d K; entries = sym same_names i; attributes = empty })) ∙ sym (ap (shown (g names)) am))
      (λ am. ap (shown names) am ∙ sym (ap (shown (g names)) am)))

  or_false : (b : Bool) → (b || false) ≡ b
  or_false true = refl
  or_false false = refl

  striped : l.count ≢ 0 → cond (same q (stripe_fid_of targets d l (part_of_name l x))) (E (cond (same q d) (N empty) (S names))) (cond (same q d) (N empty) (S names)) ≡ cond (same q d) (N empty) (S (g names))
  striped some_count =
      let p = stripe_fid_of targets d l (part_of_name l x) in
      let left : Bool → Option Object = λ b. cond (same q p) (E (cond b (N empty) (S names))) (cond b (N empty) (S names)) in
      let right : Bool → Option Object = λ b. cond b (N empty) (S (g names)) in
      by_bool (same q d)
      (λ s.
      let apart : same q p ≡ false = sym (or_false (same q p)) ∙ node_is_no_stripe targets d l q d v s (part_of_name l x ∷ []) in
      ap left s ∙ ap (λ b. cond b (E (N empty)) (N empty)) apart ∙ sym (ap right s))
      (λ s. ap left s ∙ stripes some_count ∙ sym (ap right s))

  pub here_entry : effects (update k batch (part_named targets d l x) ps ∷ []) q (object_in targets q d (Some n) l names) ≡ object_in targets q d (Some n) l (g names)
  here_entry =
      let left : Bool → Option Object = λ b. cond (same q (cond b d (stripe_fid_of targets d l (part_of_name l x)))) (E (cond (same q d) (N (cond b names empty)) (S names))) (cond (same q d) (N (cond b names empty)) (S names)) in
      let right : Bool → Option Object = λ b. cond (same q d) (N (cond b (g names) empty)) (S (g names)) in
      elim (eqb_tells l.count 0) [
        | inl h ↦ ap left h.0 ∙ plain h.0 ∙ sym (ap right h.0)
        | inr h ↦ ap left h.0 ∙ striped h.1 ∙ sym (ap right h.0)
      ]

-- the parts after an entry comes or goes
part_alike : (l : Layout) (i : ℕ) (y z : List ℕ) → name_cmp y z ≡ Equal → (part_of_name l z == i) ≡ (part_of_name l y == i)
part_alike l i y z e = ap (λ w. part_of_name l w == i) (sym (exact_names y z e))

pub got_in : (l : Layout) (i : ℕ) (m : Names) (y : List ℕ) → get (names_in l i m) y ≡ cond (part_of_name l y == i) (get m y) None
got_in l i m y = get-retain_keys m (λ z. part_of_name l z == i) y (λ z e. part_alike l i y z e)

-- at the name itself, or elsewhere
module _ (l : Layout) (i : ℕ) (x : List ℕ) (m : Names) (o : Option Fid) where
  passes : (part_of_name l x == i) ≡ true → (y : List ℕ) → cond (part_of_name l y == i) (cond (eq_by_cmp name_cmp y x) o (get m y)) None ≡ cond (eq_by_cmp name_cmp y x) o (cond (part_of_name l y == i) (get m y) None)
  passes h y =
      by_bool (eq_by_cmp name_cmp y x)
      (λ s. ap (λ b. cond (part_of_name l y == i) (cond b o (get m y)) None) s ∙ ap (λ b. cond b o None) (ap (λ z. part_of_name l z == i) (name_same y x s) ∙ h) ∙ sym (ap (λ b. cond b o (cond (part_of_name l y == i) (get m y) None)) s))
      (λ s. ap (λ b. cond (part_of_name l y == i) (cond b o (get m y)) None) s ∙ sym (ap (λ b. cond b o (cond (part_of_name l y == i) (get m y) None)) s))

  fails : (part_of_name l x == i) ≡ false → (y : List ℕ) → cond (part_of_name l y == i) (cond (eq_by_cmp name_cmp y x) o (get m y)) None ≡ cond (part_of_name l y == i) (get m y) None
  fails h y =
      by_bool (eq_by_cmp name_cmp y x)
      (λ s.
      let out = ap (λ z. part_of_name l z == i) (name_same y x s) ∙ h in
      ap (λ b. cond b (cond (eq_by_cmp name_cmp y x) o (get m y)) None) out ∙ sym (ap (λ b. cond b (get m y) None) out))
      (λ s. ap (λ b. cond (part_of_name l y == i) (cond b o (get m y)) None) s)

pub inserted_in : (l : Layout) (i : ℕ) (x : List ℕ) (m : Names) (f : Fid) → (part_of_name l x == i) ≡ true → names_in l i (insert m x f) ≡ insert (names_in l i m) x f
inserted_in l i x m f h = same_map names_total exact_names _ _ (λ y.
    got_in l i (insert m x f) y ∙ ap (λ o. cond (part_of_name l y == i) o None) (get-insert names_total m x f y) ∙ passes l i x m (Some f) h y
    ∙ sym (get-insert names_total (names_in l i m) x f y ∙ ap (cond (eq_by_cmp name_cmp y x) (Some f)) (got_in l i m y)))

pub inserted_out : (l : Layout) (i : ℕ) (x : List ℕ) (m : Names) (f : Fid) → (part_of_name l x == i) ≡ false → names_in l i (insert m x f) ≡ names_in l i m
inserted_out l i x m f h = same_map names_total exact_names _ _ (λ y.
    got_in l i (insert m x f) y ∙ ap (λ o. cond (part_of_name l y == i) o None) (get-insert names_total m x f y) ∙ fails l i x m (Some f) h y ∙ sym (got_in l i m y))

pub removed_in : (l : Layout) (i : ℕ) (x : List ℕ) (m : Names) → (part_of_name l x == i) ≡ true → names_in l i (remove m x) ≡ remove (names_in l i m) x
removed_in l i x m h = same_map names_total exact_names _ _ (λ y.
    got_in l i (remove m x) y ∙ ap (λ o. cond (part_of_name l y == i) o None) (get-remove names_total m x y) ∙ passes l i x m None h y
    ∙ sym (get-remove names_total (names_in l i m) x y ∙ ap (cond (eq_by_cmp name_cmp y x) None) (got_in l i m y)))

pub removed_out : (l : Layout) (i : ℕ) (x : List ℕ) (m : Names) → (part_of_name l x == i) ≡ false → names_in l i (remove m x) ≡ names_in l i m
removed_out l i x m h = same_map names_total exact_names _ _ (λ y.
    got_in l i (remove m x) y ∙ ap (λ o. cond (part_of_name l y == i) o None) (get-remove names_total m x y) ∙ fails l i x m None h y ∙ sym (got_in l i m y))

pub here_inserted : (targets batch : ℕ) (d : Fid) (x : List ℕ) (f q : Fid) (n : Node) (l : Layout) (names : Names) → d.ver ≡ 0 → IsFid f
    → effects (inserted targets batch d l x f ∷ []) q (object_in targets q d (Some n) l names) ≡ object_in targets q d (Some n) l (insert names x f)
here_inserted targets batch d x f q n l names v fits =
    here_entry targets kind.Insert batch d x (x ∷ fid_bytes f ∷ []) q n l names (λ m. insert m x f) v
    (λ o. ap (λ r. Some (with_entry o x r)) (fid_alone f fits)) (λ i h. inserted_in l i x names f h) (λ i h. inserted_out l i x names f h)

pub here_deleted : (targets batch : ℕ) (d : Fid) (x : List ℕ) (q : Fid) (n : Node) (l : Layout) (names : Names) → d.ver ≡ 0
    → effects (deleted targets batch d l x ∷ []) q (object_in targets q d (Some n) l names) ≡ object_in targets q d (Some n) l (remove names x)
here_deleted targets batch d x q n l names v =
    here_entry targets kind.Delete batch d x (x ∷ []) q n l names (λ m. remove m x) v
    (λ o. refl) (λ i h. removed_in l i x names h) (λ i h. removed_out l i x names h)
