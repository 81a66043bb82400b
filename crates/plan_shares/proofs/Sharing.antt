-- What the shares of a sound tree answer is true of the tree.
use Rattle.std.proofs.Common.{◌≡◌, ◌≢◌, ◌<◌, ◌≤◌, ◌+◌, ◌^◌, ◌==◌, ◌&&◌, ◌||◌, ◌%◌, nat_le, nat_lt, cond, ℕ, zero, suc, Bool, true, false, if◌then◌else◌, Option, Some, None, is_some, List, [], ◌∷◌, length, filter, take, refl, sym, ap, subst, ◌∙◌, arith}
use Rattle.std.proofs.lemmas.Bool.Decides.{nat_tests}
use Rattle.std.proofs.Math.Dec.{eqb-suc-zero}
use Rattle.std.proofs.Math.Nat.{mod-lt}
use Rattle.std.specs.Option.{option_map, unwrap_or}
use Rattle.std.specs.List.{AllByRecursion}
use Rattle.std.specs.FinMap.{get, len, entries, empty, len-entries, find, same_map, entries_sorted, from_sorted, get-entries, get-from_sorted, entries-from_sorted}
use Rattle.std.specs.FinMap.Entries.{is_sorted-where_key, find-where_key}
use Rattle.fid_space.specs.declared.fid.Fid.{Fid}
use Rattle.fid_space.specs.FidText.{IsFid}
use Rattle.fid_space.specs.Places.{place_of, has_place, is_client}
use Rattle.tree_model.specs.Fids.{fid_cmp, name_cmp}
use Rattle.tree_model.proofs.Maps.{names_total, exact_names}
use Rattle.tree_model.specs.Names.{IsName}
use Rattle.tree_model.specs.declared.node.Node.{Node}
use Rattle.tree_model.specs.Tree.{Names, names_of, named, no_fid}
use Rattle.tree_model.specs.Step.{is_dir}
use Rattle.tree_model.specs.Keys.{Layout, Laid, layout_at, plain_layout}
use Rattle.tree_model.specs.Striped.{stripe_target}
use Rattle.striped_dir.specs.declared.layout.Layout.{Layout as Kept}
use Rattle.striped_dir.specs.Layouts.{laid, FitsLayout}
use Rattle.striped_dir.specs.Parts.{FitsDirectory, part_at, place_at, part_of_name, stripe_at}
use Rattle.object_store.specs.declared.body.Body.{Body}
use Rattle.object_store.specs.declared.body.ObjectKind.{ObjectKind}
use Rattle.object_store.specs.declared.body.ObjectKind.TheVariants.{File, Directory, Stripe}
use Rattle.object_store.specs.Bodies.{FitsBody, is_allowed}
use Rattle.object_store.specs.Objects.{Object}
use Rattle.object_store.specs.Reads.{reads, node, holder, attr_get, xattr_get, lookup, count, child_get, names as names_get}
use Rattle.tree_sound.specs.Sound.{IsSound, FitsNode}
use Rattle.tree_sound.proofs.Basics.{node_of, by_bool, not_both}
use Rattle.tree_sound.proofs.Keeping.{sound_node}
use Rattle.tree_sound.proofs.Story.{node_has_place, directories_fit, parents_are}
use Rattle.tree_shares.specs.Shares.{share, body_of, file_body, directory_body, node_object, stripe_object, stripe_fid_of, names_in, own_names, all_objects, is_at}
use Rattle.tree_shares.specs.Updates.{part_named}
use Rattle.tree_shares.proofs.Facts.{facts}
use Rattle.tree_shares.proofs.Finding.{entries_got}
use Rattle.tree_shares.proofs.Here.{got_in}
use Rattle.tree_shares.proofs.Pointwise.{got_share}
use Rattle.tree_shares.proofs.Telling.{nodes_told, names_told, stripes_told}
use Rattle.tree_shares.proofs.Written.{part_striped}
use Rattle.op_laws.proofs.Names.{stripe_placed}
use Rattle.plan_base.specs.declared.question.Question.{Question}
use Rattle.plan_base.specs.declared.question.Question.TheVariants as question
use Rattle.plan_base.specs.declared.seen.Seen.{Seen}
use Rattle.plan_base.specs.Places.{node_place, may_stand, entry_at, count_at, parts_of}
use Rattle.plan_base.specs.Planners.{need_of, node_in, child_in, entries_in, attribute_in}
use Rattle.plan_base.specs.Listed.{listed_in}
use Rattle.plan_laws.specs.Truth.{kept, kind_of_node, node_body, seen_node, seen_of, value_at, value_of, count_of, names_at, IsLaid, TellsTruth}
use Rattle.plan_laws.proofs.Readback.{nodes_back, child_back, counts_back, values_back}
use Rattle.plan_laws.proofs.ListedAgain.{names_back}
use Rattle.plan_shares.specs.Sharing.{AreCounted, SharesTellTruth}

-- ---- places

all_of : (a b c d e f : Bool) → a ≡ true → b ≡ true → c ≡ true → d ≡ true → e ≡ true → f ≡ true → ((a && (b && c)) && (d && (e && f))) ≡ true
all_of a b c d e f p q r s t u = (λ i. (p i && (q i && r i)) && (s i && (t i && u i)))

pub may : (targets : ℕ) (d : Fid) (c s g : ℕ) → FitsDirectory targets d (record { count = c; start = s; generation = g }) → may_stand targets d (record { count = c; start = s; generation = g }) ≡ true
may targets d zero s g h =
    let low = h.layout.start in
    let high = h.layout.generation in
    let first : s ≡ 0 = h.layout.plain refl in
    all_of true (nat_le s 15) (nat_le g 0x0ffffffe) (s == 0) (has_place targets d) true
    refl (grind (arith, nat_tests)) (grind (arith, nat_tests)) (ap (λ n. n == 0) first) h.placed refl
may targets d (suc c) s g h =
    let few = h.layout.count in
    let low = h.layout.start in
    let high = h.layout.generation in
    let known = h.named (λ (e : suc c ≡ 0). absurd (omega (arith, e))) in
    let one : nat_le 1 (suc c) ≡ true = grind (arith, nat_tests) in
    all_of (nat_le (suc c) 16) (nat_le s 15) (nat_le g 0x0ffffffe) (nat_le 1 (suc c) || (s == 0)) (has_place targets d) ((suc c == 0) || is_client targets d)
    (grind (arith, nat_tests)) (grind (arith, nat_tests)) (grind (arith, nat_tests)) (ap (λ b. b || (s == 0)) one) h.placed (ap (λ b. b || is_client targets d) (eqb-suc-zero c) ∙ known)

-- the object of a part
abbrev pub part_in : ℕ → Fid → Layout → ℕ → ℕ → Fid
part_in targets d l i zero = d
part_in targets d l i (suc more) = stripe_fid_of targets d l i

abbrev pub part_fid : ℕ → Fid → Layout → ℕ → Fid
part_fid targets d l i = part_in targets d l i l.count

pub record Placed (targets : ℕ) (d : Fid) (l : Layout) (i : ℕ) : Type 0 where
  pub target : ℕ
  pub part : part_at targets d l i ≡ Some (target, part_fid targets d l i)
  pub place : place_of targets (part_fid targets d l i) ≡ Some target

pub placed : (targets : ℕ) (d : Fid) (c s g i : ℕ) → 1 ≤ targets → targets ≤ 16 → FitsDirectory targets d (record { count = c; start = s; generation = g })
    → Placed targets d (record { count = c; start = s; generation = g }) i
placed targets d zero s g i some few h = own (place_of targets d) refl h.placed
  where
    own : (o : Option ℕ) → place_of targets d ≡ o → is_some o ≡ true → Placed targets d (record { count = zero; start = s; generation = g }) i
    own (Some t) e k = record { target = t; part = ap (λ o. option_map (λ target. (target, d)) o) e; place = e }
    own None e k = cc
placed targets d (suc c) s g i some few h =
    let known = h.named (λ (e : suc c ≡ 0). absurd (omega (arith, e))) in
    record { target = (s + i) % targets; part = refl; place = stripe_placed targets d ((s + i) % targets) i g few (mod-lt (s + i) (let one = some in omega (arith, one))) known }

-- the part that has a name
pub name_part : (targets : ℕ) (d : Fid) (c s g : ℕ) (x : List ℕ)
    → part_named targets d (record { count = c; start = s; generation = g }) x
    ≡ part_fid targets d (record { count = c; start = s; generation = g }) (part_of_name (record { count = c; start = s; generation = g }) x)
name_part targets d zero s g x = refl
name_part targets d (suc c) s g x = part_striped targets d c s g x

pub entry_is : (targets : ℕ) (d : Fid) (l : Layout) (x : List ℕ) → FitsDirectory targets d l → (p : Placed targets d l (part_of_name l x))
    → entry_at targets d l x ≡ (p.target, part_fid targets d l (part_of_name l x))
unfolding entry_at
entry_is targets d l x h p =
    ap (λ b. if b then unwrap_or (place_at targets d l x) (0, d) else (0, d)) (may targets d l.count l.start l.generation h) ∙ ap (λ o. unwrap_or o (0, d)) p.part

pub count_is : (targets : ℕ) (d : Fid) (l : Layout) (i : ℕ) → FitsDirectory targets d l → i < parts_of l → (p : Placed targets d l i)
    → count_at targets d l i ≡ (p.target, part_fid targets d l i)
unfolding count_at
count_is targets d l i h low p =
    let within : nat_lt i (parts_of l) ≡ true = grind (arith, nat_tests) in
    ap (λ b. if b && nat_lt i (parts_of l) then unwrap_or (part_at targets d l i) (0, d) else (0, d)) (may targets d l.count l.start l.generation h)
    ∙ ap (λ b. if b then unwrap_or (part_at targets d l i) (0, d) else (0, d)) within ∙ ap (λ o. unwrap_or o (0, d)) p.part

-- ---- counts

all_pass : (p : List ℕ × Fid → Bool) (es : List (List ℕ × Fid)) → ((e : List ℕ × Fid) → p e ≡ true) → filter p es ≡ es
all_pass p [] h = refl
all_pass p (e ∷ es) h = ap (λ b. if b then e ∷ filter p es else filter p es) (h e) ∙ ap (λ r. e ∷ r) (all_pass p es h)

plain_count : (s g : ℕ) (names : Names) → len names ≡ count_of (record { count = 0; start = s; generation = g }) names 0
plain_count s g names = len-entries names ∙ ap length (sym (all_pass (λ e. part_of_name (record { count = 0; start = s; generation = g }) e.0 == 0) (entries names) (λ e. refl)))

stripe_entries : (l : Layout) (names : Names) (i : ℕ) → entries (names_in l i names) ≡ filter (λ e. part_of_name l e.0 == i) (entries names)
stripe_entries l names i =
    let p : List ℕ → Bool = λ x. part_of_name l x == i in
    let es = filter (λ (e : List ℕ × Fid). p e.0) (entries names) in
    let sorted = is_sorted-where_key name_cmp p (entries names) (entries_sorted names) in
    let same : names_in l i names ≡ from_sorted es = same_map names_total exact_names _ _ (λ q.
    got_in l i names q ∙ ap (λ o. cond (p q) o None) (get-entries names q)
    ∙ sym (find-where_key name_cmp p q (λ x e. ap p (sym (exact_names q x e))) (entries names)) ∙ sym (get-from_sorted name_cmp es q sorted)) in
    ap (λ (m : Names). entries m) same ∙ entries-from_sorted name_cmp es sorted

stripe_count : (l : Layout) (names : Names) (i : ℕ) → len (names_in l i names) ≡ count_of (kept l) names i
stripe_count l names i = len-entries (names_in l i names) ∙ ap length (stripe_entries l names i)

fewer_pass : (p : List ℕ × Fid → Bool) (es : List (List ℕ × Fid)) → length (filter p es) ≤ length es
fewer_pass p [] = omega arith
fewer_pass p (e ∷ es) = by_test (p e) (fewer_pass p es)
  where
    by_test : (b : Bool) → length (filter p es) ≤ length es → length (if b then e ∷ filter p es else filter p es) ≤ length (e ∷ es)
    by_test true h = omega (arith, h)
    by_test false h = omega (arith, h)

few_in : (l : Layout) (names : Names) (i : ℕ) → len names < 2 ^ 32 → len (names_in l i names) < 2 ^ 32
few_in l names i h =
    let a = stripe_count l names i in
    let b = len-entries names in
    let c = fewer_pass (λ e. part_of_name l e.0 == i) (entries names) in
    omega (arith, a, b, c, h)

-- ---- names

pub plain_names : (s g : ℕ) (names : Names) → take 33 (entries names) ≡ names_at (record { count = 0; start = s; generation = g }) names 0
plain_names s g names = ap (λ es. take 33 es) (sym (all_pass (λ e. part_of_name (record { count = 0; start = s; generation = g }) e.0 == 0) (entries names) (λ e. refl)))

pub stripe_names : (l : Layout) (names : Names) (i : ℕ) → take 33 (entries (names_in l i names)) ≡ names_at (kept l) names i
stripe_names l names i = ap (λ es. take 33 es) (stripe_entries l names i)

each_listed : (names : Names) → ((x : List ℕ) (c : Fid) → get names x ≡ Some c → IsName x × IsFid c) → (es : List (List ℕ × Fid)) → AllByRecursion (λ e. get names e.0 ≡ Some e.1) es
    → AllByRecursion (λ e. IsName e.0 × IsFid e.1) es
each_listed names h [] k = tt
each_listed names h (e ∷ es) k = (h e.0 e.1 k.0, each_listed names h es k.1)

all_listed : (names : Names) → ((x : List ℕ) (c : Fid) → get names x ≡ Some c → IsName x × IsFid c) → AllByRecursion (λ e. IsName e.0 × IsFid e.1) (entries names)
all_listed names h = each_listed names h (entries names) (entries_got names_total names)

-- ---- objects

node_is : (o : Option Object) (x : Object) → node o ≡ Some x → o ≡ Some x
node_is None x e = e
node_is (Some o) x e = by_kind o.body.kind refl
  where
    by_kind : (k : ObjectKind) → o.body.kind ≡ k → Some o ≡ Some x
    by_kind File h = sym (ap (λ k. node_with k) h) ∙ e
      where
        node_with : ObjectKind → Option Object
        node_with Stripe = None
        node_with _ = Some o
    by_kind Directory h = cc
    by_kind Stripe h = cc

-- the body of a node as it is told
alike : (n : Node) (l : Layout) → (n.dir ≡ false → l ≡ plain_layout) → (n.dir ≡ false → n.parent ≡ no_fid) → body_of n l ≡ node_body n l
alike n l bare orphan = by_bool n.dir
    (λ d. ap (λ b. if b then directory_body n l else file_body n) d ∙ ap body_as (sym d))
    (λ d. ap (λ b. if b then directory_body n l else file_body n) d ∙ sym (λ i. record {
      kind = kind_of_node (d i);
      mode = n.mode;
      uid = n.uid;
      gid = n.gid;
      links = n.links;
      layout = kept (bare d i);
      fid = orphan d i;
      index = 0;
    }))
  where
    body_as : Bool → Body
    body_as b = record { kind = kind_of_node b; mode = n.mode; uid = n.uid; gid = n.gid; links = n.links; layout = kept l; fid = n.parent; index = 0 }

-- ---- the answers

module _ (targets most : ℕ) (some : 1 ≤ targets) (few : targets ≤ 16) (bound : most ≤ 0x0ffffffe) (l : Laid) (sound : IsSound targets most l) (counted : AreCounted l) where
  node_at : (f : Fid) → node (get (share targets l (node_place targets f)) f) ≡ option_map (λ n. node_object n (layout_at l f) (names_of l.tree f)) (get l.tree.nodes f)
  node_at f = by_place (place_of targets f) refl
    where
      nobody : (o : Option Node) → place_of targets f ≡ None → get l.tree.nodes f ≡ o → option_map (λ n. node_object n (layout_at l f) (names_of l.tree f)) o ≡ None
      nobody None e g = refl
      nobody (Some n) e g =
          let has = node_has_place targets f (sound_node targets most l sound.each f n g).called in
          absurd (not_both (has_place targets f) has (ap is_some e))

      by_place : (o : Option ℕ) → place_of targets f ≡ o → node (get (share targets l (node_place targets f)) f) ≡ option_map (λ n. node_object n (layout_at l f) (names_of l.tree f)) (get l.tree.nodes f)
      by_place (Some t) e = ap (λ o. node (get (share targets l (unwrap_or o 0)) f)) e ∙ nodes_told targets most l f t few sound e
      by_place None e =
          ap (λ o. node (get (share targets l (unwrap_or o 0)) f)) e
          ∙ ap node (got_share targets l 0 f ∙ ap (λ p. cond (is_at 0 p) (find fid_cmp f (all_objects targets l)) None) e)
          ∙ sym (nobody (get l.tree.nodes f) e refl)

  like : (f : Fid) (n : Node) → get l.tree.nodes f ≡ Some n → body_of n (layout_at l f) ≡ node_body n (layout_at l f)
  like f n g =
      let s = sound_node targets most l sound.each f n g in
      alike n (layout_at l f) (λ d. (s.bare d).0) (λ d. (s.node.file d).2)

  fits : (f : Fid) (n : Node) → get l.tree.nodes f ≡ Some n → FitsBody (node_body n (layout_at l f))
  fits f n g =
      let s = sound_node targets most l sound.each f n g in
      record { allowed = sym (ap (λ b. is_allowed b) (like f n g)) ∙ (facts targets most l sound f n g).allowed few bound; owner = (s.node.uid, s.node.gid); fid = parents_are targets most l f n sound g }

  told_node : (f : Fid) (o : Option Node) → get l.tree.nodes f ≡ o
      → node_in (attr_get (option_map (λ n. node_object n (layout_at l f) (names_of l.tree f)) o)) ≡ option_map (seen_node (layout_at l f)) o
  told_node f None g = refl
  told_node f (Some n) g =
      let again : Body → Object = λ b. record { body = b; entries = own_names (layout_at l f) (names_of l.tree f); attributes = n.xattrs } in
      let s = sound_node targets most l sound.each f n g in
      let small = s.node.few in
      ap (λ b. node_in (attr_get (Some (again b)))) (like f n g) ∙ nodes_back (again (node_body n (layout_at l f))) (fits f n g) (omega (arith, small))

  tells_node : (f : Fid) → node_in (reads (share targets l (need_of targets (question.Node f)).target) (need_of targets (question.Node f)).ask) ≡ seen_of l f
  unfolding reads
  tells_node f = ap (λ o. node_in (attr_get o)) (node_at f) ∙ told_node f (get l.tree.nodes f) refl

  tells_value : (f : Fid) (x : List ℕ) → attribute_in (reads (share targets l (need_of targets (question.Value f x)).target) (need_of targets (question.Value f x)).ask) ≡ value_of l f x
  unfolding reads
  tells_value f x = ap (λ o. attribute_in (xattr_get o x)) (node_at f) ∙ by_node (get l.tree.nodes f)
    where
      by_node : (o : Option Node) → attribute_in (xattr_get (option_map (λ n. node_object n (layout_at l f) (names_of l.tree f)) o) x) ≡ value_at o x
      by_node None = refl
      by_node (Some n) = values_back (node_object n (layout_at l f) (names_of l.tree f)) x

  tells_entry : (d : Fid) (layout : Kept) (x : List ℕ) → layout ≡ kept (layout_at l d) → is_dir (get l.tree.nodes d) ≡ true
      → child_in (reads (share targets l (need_of targets (question.Entry d layout x)).target) (need_of targets (question.Entry d layout x)).ask) ≡ named l.tree d x
  unfolding reads
  tells_entry d layout x e dir =
      let ly = layout_at l d in
      let fit = directories_fit targets most l d few bound sound dir in
      let p = placed targets d ly.count ly.start ly.generation (part_of_name ly x) some few fit in
      let at : ℕ × Fid → Option Fid = λ a. child_in (lookup (holder (get (share targets l a.0) a.1)) x) in
      let there = node_of (get l.tree.nodes d) dir in
      let part = name_part targets d ly.count ly.start ly.generation x in
      let told = names_told targets most l d there.0 x p.target few sound there.1 there.2 (ap (λ f. place_of targets f) part ∙ p.place) in
      ap (λ (k : Kept). at (entry_at targets d (laid k) x)) e ∙ ap at (entry_is targets d ly x fit p)
      ∙ ap (λ f. child_in (lookup (holder (get (share targets l p.target) f)) x)) (sym part) ∙ ap child_in told
      ∙ child_back (named l.tree d x) (λ f g. (facts targets most l sound d there.0 there.1).children x f g)

  counts_there : (d : Fid) (n : Node) (i t c : ℕ) → get l.tree.nodes d ≡ Some n → n.dir ≡ true → (layout_at l d).count ≡ c → i < (if c == 0 then 1 else c)
      → place_of targets (part_in targets d (layout_at l d) i c) ≡ Some t
      → entries_in (count (holder (get (share targets l t) (part_in targets d (layout_at l d) i c)))) ≡ count_of (kept (layout_at l d)) (names_of l.tree d) i
  counts_there d n i t zero g dir e low place =
      let ly = layout_at l d in
      let names = names_of l.tree d in
      let first : i ≡ 0 = omega (arith, low) in
      let got = node_is (get (share targets l t) d) (node_object n ly names) (nodes_told targets most l d t few sound place ∙ ap (λ o. option_map (λ n. node_object n ly names) o) g) in
      ap (λ o. entries_in (count (holder o))) got
      ∙ ap (λ b. entries_in (count (holder (Some (record { body = if b then directory_body n ly else file_body n; entries = own_names ly names; attributes = n.xattrs }))))) dir
      ∙ ap (λ k. entries_in (count (Some (record { body = directory_body n ly; entries = if k == 0 then names else empty; attributes = n.xattrs })))) e
      ∙ counts_back (record { body = directory_body n ly; entries = names; attributes = n.xattrs }) (counted d)
      ∙ plain_count ly.start ly.generation names
      ∙ ap (λ k. count_of (record { count = k; start = ly.start; generation = ly.generation }) names 0) (sym e)
      ∙ ap (λ k. count_of (kept ly) names k) (sym first)
  counts_there d n i t (suc c) g dir e low place =
      let ly = layout_at l d in
      let names = names_of l.tree d in
      let below : i < suc c = subst (λ b. i < (if b then 1 else suc c)) (eqb-suc-zero c) low in
      ap (λ o. entries_in (count (holder o))) (stripes_told targets most l d n i t few sound g (omega (arith, e, below)) place)
      ∙ counts_back (stripe_object d ly names i) (few_in ly names i (counted d)) ∙ stripe_count ly names i

  tells_count : (d : Fid) (layout : Kept) (i : ℕ) → layout ≡ kept (layout_at l d) → is_dir (get l.tree.nodes d) ≡ true → i < parts_of (laid layout)
      → entries_in (reads (share targets l (need_of targets (question.Count d layout i)).target) (need_of targets (question.Count d layout i)).ask) ≡ count_of (kept (layout_at l d)) (names_of l.tree d) i
  unfolding reads
  tells_count d layout i e dir low =
      let ly = layout_at l d in
      let fit = directories_fit targets most l d few bound sound dir in
      let p = placed targets d ly.count ly.start ly.generation i some few fit in
      let within : i < parts_of ly = subst (λ (k : Kept). i < parts_of (laid k)) e low in
      let at : ℕ × Fid → ℕ = λ a. entries_in (count (holder (get (share targets l a.0) a.1))) in
      let there = node_of (get l.tree.nodes d) dir in
      ap (λ (k : Kept). at (count_at targets d (laid k) i)) e ∙ ap at (count_is targets d ly i fit within p)
      ∙ counts_there d there.0 i p.target ly.count there.1 there.2 refl within p.place

  may_list : (d : Fid) (n : Node) → get l.tree.nodes d ≡ Some n → (x : List ℕ) (c : Fid) → get (names_of l.tree d) x ≡ Some c → IsName x × IsFid c
  may_list d n g x c h = let f = facts targets most l sound d n g in (f.are_names x c h, f.children x c h)

  names_there : (d : Fid) (n : Node) (i t c : ℕ) → get l.tree.nodes d ≡ Some n → n.dir ≡ true → (layout_at l d).count ≡ c → i < (if c == 0 then 1 else c)
      → place_of targets (part_in targets d (layout_at l d) i c) ≡ Some t
      → listed_in (names_get (holder (get (share targets l t) (part_in targets d (layout_at l d) i c)))) ≡ names_at (kept (layout_at l d)) (names_of l.tree d) i
  names_there d n i t zero g dir e low place =
      let ly = layout_at l d in
      let names = names_of l.tree d in
      let first : i ≡ 0 = omega (arith, low) in
      let got = node_is (get (share targets l t) d) (node_object n ly names) (nodes_told targets most l d t few sound place ∙ ap (λ o. option_map (λ n. node_object n ly names) o) g) in
      ap (λ o. listed_in (names_get (holder o))) got
      ∙ ap (λ b. listed_in (names_get (holder (Some (record { body = if b then directory_body n ly else file_body n; entries = own_names ly names; attributes = n.xattrs }))))) dir
      ∙ ap (λ k. listed_in (names_get (Some (record { body = directory_body n ly; entries = if k == 0 then names else empty; attributes = n.xattrs })))) e
      ∙ names_back (record { body = directory_body n ly; entries = names; attributes = n.xattrs }) (all_listed names (may_list d n g))
      ∙ plain_names ly.start ly.generation names
      ∙ ap (λ k. names_at (record { count = k; start = ly.start; generation = ly.generation }) names 0) (sym e)
      ∙ ap (λ k. names_at (kept ly) names k) (sym first)
  names_there d n i t (suc c) g dir e low place =
      let ly = layout_at l d in
      let names = names_of l.tree d in
      let below : i < suc c = subst (λ b. i < (if b then 1 else suc c)) (eqb-suc-zero c) low in
      ap (λ o. listed_in (names_get (holder o))) (stripes_told targets most l d n i t few sound g (omega (arith, e, below)) place)
      ∙ names_back (stripe_object d ly names i) (all_listed (names_in ly i names) in_part) ∙ stripe_names ly names i
    where
      by_part : (x : List ℕ) (c : Fid) (b : Bool) → cond b (get (names_of l.tree d) x) None ≡ Some c → get (names_of l.tree d) x ≡ Some c
      by_part x c true h = h
      by_part x c false h = cc

      in_part : (x : List ℕ) (c : Fid) → get (names_in (layout_at l d) i (names_of l.tree d)) x ≡ Some c → IsName x × IsFid c
      in_part x c h = may_list d n g x c (by_part x c (part_of_name (layout_at l d) x == i) (sym (got_in (layout_at l d) i (names_of l.tree d) x) ∙ h))

  tells_names : (d : Fid) (layout : Kept) (i : ℕ) → layout ≡ kept (layout_at l d) → is_dir (get l.tree.nodes d) ≡ true → i < parts_of (laid layout)
      → listed_in (reads (share targets l (need_of targets (question.Names d layout i)).target) (need_of targets (question.Names d layout i)).ask) ≡ names_at (kept (layout_at l d)) (names_of l.tree d) i
  unfolding reads
  tells_names d layout i e dir low =
      let ly = layout_at l d in
      let fit = directories_fit targets most l d few bound sound dir in
      let p = placed targets d ly.count ly.start ly.generation i some few fit in
      let within : i < parts_of ly = subst (λ (k : Kept). i < parts_of (laid k)) e low in
      let at : ℕ × Fid → List (List ℕ × Fid) = λ a. listed_in (names_get (holder (get (share targets l a.0) a.1))) in
      let there = node_of (get l.tree.nodes d) dir in
      ap (λ (k : Kept). at (count_at targets d (laid k) i)) e ∙ ap at (count_is targets d ly i fit within p)
      ∙ names_there d there.0 i p.target ly.count there.1 there.2 refl within p.place

pub shares_tell : SharesTellTruth
shares_tell targets most l (question.Node f) some few bound sound counted q = tells_node targets most some few bound l sound counted f
shares_tell targets most l (question.Value f x) some few bound sound counted q = tells_value targets most some few bound l sound counted f x
shares_tell targets most l (question.Entry d layout x) some few bound sound counted q = tells_entry targets most some few bound l sound counted d layout x q.0 q.1
shares_tell targets most l (question.Count d layout i) some few bound sound counted q = tells_count targets most some few bound l sound counted d layout i q.0 q.1 q.2
shares_tell targets most l (question.Names d layout i) some few bound sound counted q = tells_names targets most some few bound l sound counted d layout i q.0 q.1 q.2
