-- The updates of each operation make the objects of the tree those of the next.
use Rattle.std.proofs.Common.{◌≡◌, ◌≢◌, ◌≤◌, ◌<◌, ◌^◌, ◌+◌, ◌==◌, ◌&&◌, nat_le, if◌then◌else◌, ℕ, zero, suc, Bool, true, false, List, [], ◌∷◌, ◌++◌, Some, None, refl, sym, ap, ◌∙◌, arith}
use Rattle.std.proofs.lemmas.Bool.Decides.{nat_tests}
use Rattle.std.specs.FinMap.{empty, get, insert, remove}
use Rattle.fid_space.specs.declared.fid.Fid.{Fid}
use Rattle.fid_space.specs.FidText.{IsFid}
use Rattle.fid_space.specs.Places.{is_client}
use Rattle.tree_model.specs.declared.node.Node.{Node}
use Rattle.tree_model.specs.declared.op.Op.TheVariants as ops
use Rattle.tree_model.specs.Tree.{names_of, same_fid, root_fid, directory_in, file_node}
use Rattle.tree_model.specs.Changes.{Change, PutNode, PutName, NewLayout, NextLayout, MoveNames}
use Rattle.tree_model.specs.Step.{is_dir}
use Rattle.tree_model.specs.Keys.{Layout, Laid, layout_at, layout_with, plain_layout, laid_after, laid_after_all}
use Rattle.tree_model.proofs.Fids.{told_same}
use Rattle.out_update.specs.declared.update.Update.{Update}
use Rattle.out_update.specs.declared.update.Kind.TheVariants as kind
use Rattle.striped_dir.specs.Layouts.{FitsLayout}
use Rattle.object_store.specs.Bodies.{is_allowed, may_lay}
use Rattle.tree_shares.specs.Shares.{kept, body_of, directory_body, file_body}
use Rattle.tree_sound.specs.Sound.{IsSound}
use Rattle.tree_shares.specs.Updates.{update, attributes_bytes, inserted, created_node, created_stripes, op_updates, unless_none}
use Rattle.tree_shares.proofs.Owner.{Clients, client_facts}
use Rattle.tree_shares.proofs.Nodes.{effect_attr, effect_xattr_set, effect_xattr_del, effect_ref_add}
use Rattle.tree_shares.proofs.Chains.{Goes, along}
use Rattle.tree_shares.proofs.Going.{goes_node, goes_created, goes_inserted, goes_migrated}
use Rattle.tree_sound.proofs.Basics.{same, by_bool, not_both, some_none}
use Rattle.tree_sound.proofs.Keeping.{sound_none}
use Rattle.tree_shares.proofs.Facts.{Facts, facts}
use Rattle.tree_sound.proofs.Steps.{Has, put_node_at, elsewhere, put_node_has, put_node_only, new_layout_has, new_layout_only, only_twice}

abbrev pub Made : ℕ → List Update → Laid → List Change → Type 0
Made targets us l cs = Goes targets (unless_none cs us) l (laid_after_all l cs)

-- ---- bodies

pub layout_fits : (c i g : ℕ) → c ≤ 16 → i ≤ 15 → g ≤ 0x0ffffffe → FitsLayout (layout_with c i g) × (may_lay (kept (layout_with c i g)) ≡ true) × ((layout_with c i g).count ≤ 16) × ((layout_with c i g).generation ≡ g)
layout_fits zero i g few low most =
    (record { count = omega arith; start = omega arith; plain = λ _. refl; generation = most }, lay, omega arith, refl)
  where
    lay : nat_le g 0x0ffffffe ≡ true
    lay = grind (arith, nat_tests)
layout_fits (suc c) i g few low most =
    (record { count = few; start = low; plain = λ (e : suc c ≡ 0). absurd (omega (arith, e)); generation = most }, lay, few, refl)
  where
    lay : may_lay (record { count = suc c; start = i; generation = g }) ≡ true
    lay = grind (arith, nat_tests)

pub directory_allowed : (n : Node) (l : Layout) → nat_le n.mode 4095 ≡ true → (n.links == 2) ≡ true → may_lay (kept l) ≡ true → is_allowed (directory_body n l) ≡ true
unfolding is_allowed
directory_allowed n l m k h = three (nat_le n.mode 4095) (n.links == 2) (may_lay (kept l)) m k h
  where
    three : (a b c : Bool) → a ≡ true → b ≡ true → c ≡ true → (a && (b && (c && true))) ≡ true
    three a b c x y z = (λ i. x i && (y i && (z i && true)))

-- what a directory's body has
pub directory_has : (n : Node) (l : Layout) → is_allowed (directory_body n l) ≡ true → (nat_le n.mode 4095 ≡ true) × ((n.links == 2) ≡ true) × (may_lay (kept l) ≡ true)
unfolding is_allowed
directory_has n l h = three (nat_le n.mode 4095) (n.links == 2) (may_lay (kept l)) h
  where
    three : (a b c : Bool) → (a && (b && (c && true))) ≡ true → (a ≡ true) × (b ≡ true) × (c ≡ true)
    three true true true h = (refl, refl, refl)
    three true true false h = let no : false ≡ true = h in absurd (cc)
    three true false c h = let no : false ≡ true = h in absurd (cc)
    three false b c h = let no : false ≡ true = h in absurd (cc)

few_stripes : (l : Layout) → may_lay (kept l) ≡ true → l.count ≤ 16
few_stripes l h = grind (arith, nat_tests)

pub file_allowed : is_allowed (body_of file_node plain_layout) ≡ true
unfolding is_allowed
file_allowed = refl

module _ (targets batch most : ℕ) (few : targets ≤ 16) (l : Laid) (sound : IsSound targets most l) (bound : most < 0x0ffffffe) where
  pub at_node : (f : Fid) (n : Node) → get l.tree.nodes f ≡ Some n → Facts targets most f n (layout_at l f) (names_of l.tree f)
  at_node f n e = facts targets most l sound f n e

  at_none : (f : Fid) → get l.tree.nodes f ≡ None → Has l f None plain_layout empty
  at_none f e =
      let s = sound_none targets most l sound.each f e in
      record { node = e; layout = s.0; names_are = s.1 }

  pub has_node : (f : Fid) (n : Node) → get l.tree.nodes f ≡ Some n → Has l f (Some n) (layout_at l f) (names_of l.tree f)
  has_node f n e = record { node = e; layout = refl; names_are = refl }

  pub clients : (f : Fid) (n : Node) → get l.tree.nodes f ≡ Some n → (layout_at l f).count ≢ 0 → Clients f
  clients f n e z = client_facts targets f few ((at_node f n e).client z)

  -- ---- one node

  pub made_attr : (f : Fid) (mode uid gid : ℕ) (n : Node) → get l.tree.nodes f ≡ Some n → mode ≤ 4095 → uid < 2 ^ 32 → gid < 2 ^ 32
      → Goes targets (update kind.AttrSet batch f (attributes_bytes mode uid gid ∷ []) ∷ []) l (laid_after l (PutNode f (record n { mode = mode; uid = uid; gid = gid })))
  made_attr f mode uid gid n e m u g =
      let s = at_node f n e in
      goes_node targets kind.AttrSet batch f (attributes_bytes mode uid gid ∷ []) l n (record n { mode = mode; uid = uid; gid = gid }) (layout_at l f) (names_of l.tree f) (has_node f n e) s.version
      (effect_attr batch f n (layout_at l f) (names_of l.tree f) mode uid gid m u g (s.allowed few (omega (arith, bound))))

  pub made_xattr_set : (f : Fid) (x v : List ℕ) (n : Node) → get l.tree.nodes f ≡ Some n → Goes targets (update kind.XattrSet batch f (x ∷ v ∷ []) ∷ []) l (laid_after l (PutNode f (record n { xattrs = insert n.xattrs x v })))
  made_xattr_set f x v n e =
      goes_node targets kind.XattrSet batch f (x ∷ v ∷ []) l n (record n { xattrs = insert n.xattrs x v }) (layout_at l f) (names_of l.tree f) (has_node f n e) (at_node f n e).version
      (effect_xattr_set batch f n (layout_at l f) (names_of l.tree f) x v)

  pub made_xattr_del : (f : Fid) (x : List ℕ) (n : Node) → get l.tree.nodes f ≡ Some n → Goes targets (update kind.XattrDel batch f (x ∷ []) ∷ []) l (laid_after l (PutNode f (record n { xattrs = remove n.xattrs x })))
  made_xattr_del f x n e =
      goes_node targets kind.XattrDel batch f (x ∷ []) l n (record n { xattrs = remove n.xattrs x }) (layout_at l f) (names_of l.tree f) (has_node f n e) (at_node f n e).version
      (effect_xattr_del batch f n (layout_at l f) (names_of l.tree f) x)

  -- ---- a new node

  pub apart : (p f : Fid) (n : Node) → get l.tree.nodes p ≡ Some n → get l.tree.nodes f ≡ None → same p f ≡ false
  apart p f n e h = by_bool (same p f) (λ s. some_none (get l.tree.nodes f) n (ap (λ x. get l.tree.nodes x) (sym (told_same p f s)) ∙ e) h) (λ s. s)

  pub made_create : (p : Fid) (x : List ℕ) (f : Fid) (n : Node) → is_client targets f ≡ true → IsFid f → get l.tree.nodes p ≡ Some n → get l.tree.nodes f ≡ None
      → Goes targets (created_node batch f file_node plain_layout ∷ inserted targets batch p (layout_at l p) x f ∷ []) l (laid_after (laid_after l (PutNode f file_node)) (PutName p x f))
  made_create p x f n client fits e h =
      let m = laid_after l (PutNode f file_node) in
      let c = client_facts targets f few client in
      let was = at_none f h in
      let p_is : Has m p (Some n) (layout_at l p) (names_of l.tree p) = record { node = put_node_at l f p file_node ∙ elsewhere p f (Some file_node) (get l.tree.nodes p) (apart p f n e h) ∙ e; layout = refl; names_are = refl } in
      let s = at_node p n e in
      along targets (created_node batch f file_node plain_layout ∷ []) (inserted targets batch p (layout_at l p) x f ∷ []) l m (laid_after m (PutName p x f))
      (goes_created targets batch f file_node plain_layout l m was (put_node_has l f file_node file_node None plain_layout empty was) (put_node_only l f file_node) c.version fits (λ z. c) (omega arith) file_allowed (omega arith) (omega arith) (omega arith, omega arith, omega arith) refl)
      (goes_inserted targets batch p x f m n (layout_at l p) (names_of l.tree p) p_is s.version (clients p n e) fits)

  pub made_mkdir : (p : Fid) (x : List ℕ) (f : Fid) (n : Node) (k i : ℕ) → is_client targets f ≡ true → IsFid f → get l.tree.nodes p ≡ Some n → get l.tree.nodes f ≡ None → k ≤ 16 → i ≤ 15
      → Goes targets (created_node batch f (directory_in p) (layout_with k i 0) ∷ (created_stripes targets batch f (layout_with k i 0) ++ inserted targets batch p (layout_at l p) x f ∷ [])) l
      (laid_after (laid_after (laid_after l (PutNode f (directory_in p))) (NewLayout f k i)) (PutName p x f))
  made_mkdir p x f n k i client fits e h few_stripes low =
      let dir = directory_in p in
      let ly = layout_with k i 0 in
      let m = laid_after l (PutNode f dir) in
      let o = laid_after m (NewLayout f k i) in
      let c = client_facts targets f few client in
      let was = at_none f h in
      let lay = layout_fits k i 0 few_stripes low (omega arith) in
      let not_it = apart p f n e h in
      let at_p = new_layout_only m f k i p not_it in
      let p_is : Has o p (Some n) (layout_at l p) (names_of l.tree p) = record { node = at_p.node ∙ put_node_at l f p dir ∙ elsewhere p f (Some dir) (get l.tree.nodes p) not_it ∙ e; layout = at_p.layout; names_are = at_p.names_are } in
      let s = at_node p n e in
      along targets (created_node batch f dir ly ∷ created_stripes targets batch f ly) (inserted targets batch p (layout_at l p) x f ∷ []) l o (laid_after o (PutName p x f))
      (goes_created targets batch f dir ly l o was (new_layout_has m f k i (Some dir) plain_layout empty (put_node_has l f dir dir None plain_layout empty was)) (only_twice l m o f (put_node_only l f dir) (new_layout_only m f k i))
      c.version fits (λ z. c) lay.2 (directory_allowed dir ly refl refl lay.1) (omega arith) (omega arith) s.fid refl)
      (goes_inserted targets batch p x f o n (layout_at l p) (names_of l.tree p) p_is s.version (clients p n e) fits)

  pub made_link : (p : Fid) (x : List ℕ) (f : Fid) (n k : Node) → IsFid f → get l.tree.nodes p ≡ Some n → n.dir ≡ true → get l.tree.nodes f ≡ Some k → k.dir ≡ false → k.links < 65000
      → Goes targets (update kind.RefAdd batch f [] ∷ inserted targets batch p (layout_at l p) x f ∷ []) l (laid_after (laid_after l (PutNode f (record k { links = k.links + 1 }))) (PutName p x f))
  made_link p x f n k fits e dir h file more =
      let again : Node = record k { links = k.links + 1 } in
      let m = laid_after l (PutNode f again) in
      let not_it : same p f ≡ false = by_bool (same p f) (λ s. not_both n.dir dir (ap is_dir (sym e ∙ ap (λ y. get l.tree.nodes y) (told_same p f s) ∙ h) ∙ file)) (λ s. s) in
      let p_is : Has m p (Some n) (layout_at l p) (names_of l.tree p) = record { node = put_node_at l f p again ∙ elsewhere p f (Some again) (get l.tree.nodes p) not_it ∙ e; layout = refl; names_are = refl } in
      let s = at_node p n e in
      let t = at_node f k h in
      along targets (update kind.RefAdd batch f [] ∷ []) (inserted targets batch p (layout_at l p) x f ∷ []) l m (laid_after m (PutName p x f))
      (goes_node targets kind.RefAdd batch f [] l k again (layout_at l f) (names_of l.tree f) (has_node f k h) t.version (effect_ref_add batch f k (layout_at l f) (names_of l.tree f) file (t.allowed few (omega (arith, bound))) more))
      (goes_inserted targets batch p x f m n (layout_at l p) (names_of l.tree p) p_is s.version (clients p n e) fits)

  pub made_migrate : (d : Fid) (c i : ℕ) (n : Node) → get l.tree.nodes d ≡ Some n → n.dir ≡ true → same_fid d root_fid ≡ false → c ≤ 16 → i ≤ 15
      → Goes targets (op_updates targets batch l (ops.Migrate d c i)) l (laid_after (laid_after l (NextLayout d c i)) (MoveNames d))
  made_migrate d c i n e dir not_root few_new low =
      let s = at_node d n e in
      let old = layout_at l d in
      let is_directory : body_of n old ≡ directory_body n old = ap (λ b. if b then directory_body n old else file_body n) dir in
      let has = directory_has n old (ap (λ b. is_allowed b) (sym is_directory) ∙ (s.allowed few (omega (arith, bound)))) in
      let seen = s.migrations in
      let lay = layout_fits c i (suc old.generation) few_new low (omega (arith, seen, bound)) in
      goes_migrated targets batch d l n old (names_of l.tree d) c i (has_node d n e) s.version s.fid dir (client_facts targets d few (s.known not_root)) (few_stripes old has.2) lay.2 lay.3 lay.0
      (directory_allowed n (layout_with c i (suc old.generation)) has.0 has.1 lay.1) s.children
