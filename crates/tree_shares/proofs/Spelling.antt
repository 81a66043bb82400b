-- The updates of an operation have a spelling in a part of a record.
use Rattle.std.proofs.Common.{◌≡◌, ◌≢◌, ◌≤◌, ◌<◌, ◌^◌, ◌*◌, ◌%◌, ◌==◌, ◌&&◌, not, nat_le, nat_lt, if◌then◌else◌, ℕ, zero, suc, Bool, true, false, cond, List, [], ◌∷◌, ◌++◌, map, length, codes, Option, Some, None, inl, inr, refl, sym, ap, subst, ◌∙◌, arith}
use Rattle.std.proofs.Math.Dec.{eqb}
use Rattle.std.proofs.lemmas.Bool.{eq-eqb}
use Rattle.std.proofs.lemmas.Bool.Decides.{nat_tests, eqb_tells}
use Rattle.std.specs.Int.{w8, byte_len}
use Rattle.std.specs.List.{AllByRecursion, flat_map, range_with_len}
use Rattle.std.specs.FinMap.{get, entries, len}
use Rattle.byte_grammar.specs.Numbers.{word, zeros}
use Rattle.fid_space.specs.declared.fid.Fid.{Fid}
use Rattle.fid_space.specs.FidText.{IsFid}
use Rattle.fid_space.specs.Places.{is_client}
use Rattle.tree_model.specs.declared.node.Node.{Node}
use Rattle.tree_model.specs.declared.errno.Errno.{Errno}
use Rattle.tree_model.specs.declared.errno.Errno.TheVariants.{EINVAL, EFBIG}
use Rattle.tree_model.specs.declared.op.Op.{Op}
use Rattle.tree_model.specs.declared.op.Op.TheVariants as ops
use Rattle.tree_model.specs.OpText.{IsOp}
use Rattle.tree_model.specs.Names.{IsName}
use Rattle.tree_model.specs.Tree.{Tree, Names, names_of, named, same_fid, root_fid, directory_in, file_node}
use Rattle.tree_model.specs.Changes.{Change}
use Rattle.tree_model.specs.Step.{first_fault, parent_fault, taken_fault, link_fault, found_fault, moved_fault, client_fault, layout_fault, stripes_fault, op_fault}
use Rattle.tree_model.specs.Keys.{Layout, Laid, layout_at, layout_with}
use Rattle.tree_model.specs.Looks.{changes}
use Rattle.tree_model.specs.Striped.{stripe_target}
use Rattle.tree_model.proofs.Maps.{names_total}
use Rattle.out_update.specs.declared.update.Update.{Update}
use Rattle.out_update.specs.declared.update.Kind.{Kind}
use Rattle.out_update.specs.declared.update.Kind.TheVariants as kind
use Rattle.out_update.specs.declared.shape.BodyField.{BodyField}
use Rattle.out_update.specs.declared.shape.BodyField.TheVariants as body
use Rattle.out_update.specs.declared.shape.Shape.TheVariants as shape
use Rattle.out_update.specs.Types.{is_read, shapes}
use Rattle.out_update.specs.Names.{name_fault, first_bad, is_dots}
use Rattle.out_update.specs.Bodies.{width_of, may_be, kind_after, count_after, AreNumbers, IsBody}
use Rattle.out_update.specs.Spelling.{fid_bytes, FitsParams, FitsUpdateOf}
use Rattle.striped_dir.specs.Layouts.{layout_text}
use Rattle.striped_dir.specs.Parts.{part_of_name, stripe_body, create_of, destroy_of}
use Rattle.object_store.specs.Bodies.{body_bytes}
use Rattle.tree_shares.specs.Shares.{file_body, directory_body, stripe_fid_of}
use Rattle.tree_sound.specs.Sound.{IsSound}
use Rattle.tree_shares.specs.Updates.{update, part_named, inserted, deleted, created_node, created_stripes, destroyed_stripes, gone_node, gone, attributes_bytes, parent_updates, rename_updates, moved_entry, op_updates, unless_none, updates}
use Rattle.tree_shares.specs.ShareLaws.{UpdatesAreSpelled}
use Rattle.tree_shares.proofs.Owner.{Clients, client_facts}
use Rattle.tree_shares.proofs.Finding.{entries_got}
use Rattle.tree_shares.proofs.Here.{AreLow, low_range, part_below}
use Rattle.tree_sound.proofs.Faults.{first_none, parent_none, unmet, client_none, stripes_none, found_none, decides}
use Rattle.tree_shares.proofs.Facts.{facts}

-- ---- names

none_bad : (n : List ℕ) → AllByRecursion (λ b. (b ≢ 0) × (b ≢ 0x2f)) n → first_bad n ≡ None
none_bad [] h = refl
none_bad (b ∷ bs) h =
    let p : eqb b 0 ≡ false = by 0 h.0.0 in
    let q : eqb b 0x2f ≡ false = by 0x2f h.0.1 in
    rw (p, q, none_bad bs h.1) refl
  where
    by : (k : ℕ) → b ≢ k → eqb b k ≡ false
    by k differ = grind (arith, nat_tests)

dots : (n : List ℕ) → n ≢ codes "." → n ≢ codes ".." → is_dots n ≡ false
dots [] h k = refl
dots (b ∷ []) h k = one (eqb b 0x2e) refl
  where
    one : (x : Bool) → eqb b 0x2e ≡ x → x ≡ false
    one true e = let is : b ≡ 0x2e = grind (arith, nat_tests) in absurd (h (ap (λ (x : ℕ). x ∷ []) is))
    one false e = refl
dots (b ∷ c ∷ []) h k = two (eqb b 0x2e) (eqb c 0x2e) refl refl
  where
    two : (x y : Bool) → eqb b 0x2e ≡ x → eqb c 0x2e ≡ y → (x && y) ≡ false
    two true true e f =
        let is : b ≡ 0x2e = grind (arith, nat_tests) in
        let also : c ≡ 0x2e = grind (arith, nat_tests) in
        absurd (k (rw (is, also) refl))
    two true false e f = refl
    two false y e f = refl
dots (b ∷ c ∷ d ∷ n) h k = refl

name_faultless : (n : List ℕ) → IsName n → name_fault n ≡ None
name_faultless n is = rw (dots n is.4 is.5, none_bad n is.3) refl

short : (n least most : ℕ) → least ≤ n → n ≤ most → (nat_le least n && nat_le n most) ≡ true
short n least most low high = grind (arith, nat_tests)

-- ---- parameters

p_none : FitsParams [] []
unfolding FitsParams
p_none = tt

p_name : (x : List ℕ) → IsName x → FitsParams (shape.Name ∷ []) (x ∷ [])
unfolding FitsParams
p_name x is = (record { length_allowed = short (length x) 1 255 is.0 is.1; content = name_faultless x is }, tt)

fid_len : (f : Fid) → (length (fid_bytes f) == 16) ≡ true
unfolding word
fid_len f = refl

p_fid : (f : Fid) → FitsParams (shape.Fid ∷ []) (fid_bytes f ∷ [])
unfolding FitsParams
p_fid f = (record { length_allowed = fid_len f; content = tt }, tt)

p_entry : (x : List ℕ) (f : Fid) → IsName x → FitsParams (shape.Name ∷ shape.Fid ∷ []) (x ∷ fid_bytes f ∷ [])
unfolding FitsParams
p_entry x f is = (record { length_allowed = short (length x) 1 255 is.0 is.1; content = name_faultless x is }, (record { length_allowed = fid_len f; content = tt }, tt))

p_value : (x v : List ℕ) → IsName x → length v ≤ 4096 → FitsParams (shape.Name ∷ shape.Value ∷ []) (x ∷ v ∷ [])
unfolding FitsParams
p_value x v is few = (record { length_allowed = short (length x) 1 255 is.0 is.1; content = name_faultless x is }, (record { length_allowed = at_most few; content = tt }, tt))
  where
    at_most : length v ≤ 4096 → nat_le (length v) 4096 ≡ true
    at_most h = grind (arith, nat_tests)

attributes_len : (mode uid gid : ℕ) → (length (attributes_bytes mode uid gid) == 12) ≡ true
unfolding word
attributes_len mode uid gid = refl

p_attributes : (mode uid gid : ℕ) → FitsParams (shape.Attributes ∷ []) (attributes_bytes mode uid gid ∷ [])
unfolding FitsParams
p_attributes mode uid gid = (record { length_allowed = attributes_len mode uid gid; content = tt }, tt)

p_layout : (l : Layout) → FitsParams (shape.Layout ∷ []) (layout_text l ∷ [])
unfolding FitsParams
p_layout l = (record { length_allowed = refl; content = tt }, tt)

-- ---- bodies

field : (k c : ℕ) (f : BodyField) (fs : List BodyField) (n : ℕ) (rest bytes : List ℕ) → n < 2 ^ (8 * byte_len (width_of f)) → may_be k c f n ≡ true → bytes ≡ word (width_of f) n ++ rest → AreNumbers (kind_after k f n) (count_after c f n) fs rest
    → AreNumbers k c (f ∷ fs) bytes
unfolding AreNumbers
field k c f fs n rest bytes a b e h = (n, rest, a, b, e, h)

no_field : (k c : ℕ) → AreNumbers k c [] []
unfolding AreNumbers
no_field k c = refl

is_file : IsBody (body_bytes (file_body file_node))
unfolding body_bytes word
is_file =
    field 0 0 body.Kind _ 1 _ _ (omega arith) refl refl
    (field 1 0 body.Mode _ 0o644 _ _ (omega arith) refl refl
    (field 1 0 body.Uid _ 0 _ _ (omega arith) refl refl
    (field 1 0 body.Gid _ 0 _ _ (omega arith) refl refl
    (field 1 0 body.Links _ 1 _ _ (omega arith) refl refl
    (field 1 0 body.Count _ 0 _ _ (omega arith) refl refl
    (field 1 0 body.Start _ 0 _ _ (omega arith) refl refl
    (field 1 0 body.Zero _ 0 _ _ (omega arith) refl refl
    (field 1 0 body.Generation _ 0 _ _ (omega arith) refl refl
    (field 1 0 body.Seq _ 0 _ _ (omega arith) refl refl
    (field 1 0 body.Oid _ 0 _ _ (omega arith) refl refl
    (field 1 0 body.Ver _ 0 _ _ (omega arith) refl refl
    (field 1 0 body.Index [] 0 [] _ (omega arith) refl refl (no_field 1 0)))))))))))))

one_byte : (n : ℕ) (rest : List ℕ) → n < 256 → n ∷ rest ≡ word w8 n ++ rest
unfolding word
one_byte n rest h = let is : n % 256 ≡ n = omega arith in ap (λ (x : ℕ). x ∷ rest) (sym is)

record Lay (l : Layout) : Type 0 where
  count : nat_le l.count 16 ≡ true
  few : l.count ≤ 16
  start : (if l.count == 0 then l.start == 0 else nat_le l.start 15) ≡ true
  low : l.start ≤ 15
  most : nat_le l.generation 0x0ffffffe ≡ true
  wide : l.generation ≤ 0x0ffffffe

is_dir_body : (p : Fid) (l : Layout) → IsFid p → Lay l → IsBody (body_bytes (directory_body (directory_in p) l))
unfolding body_bytes word
is_dir_body p l is lay =
    let few = lay.few in
    let low = lay.low in
    let wide = lay.wide in
    field 0 0 body.Kind _ 2 _ _ (omega arith) refl refl
    (field 2 0 body.Mode _ 0o755 _ _ (omega arith) refl refl
    (field 2 0 body.Uid _ 0 _ _ (omega arith) refl refl
    (field 2 0 body.Gid _ 0 _ _ (omega arith) refl refl
    (field 2 0 body.Links _ 2 _ _ (omega arith) refl refl
    (field 2 0 body.Count _ l.count _ _ (omega (arith, few)) lay.count (one_byte l.count _ (omega (arith, few)))
    (field 2 l.count body.Start _ l.start _ _ (omega (arith, low)) lay.start (one_byte l.start _ (omega (arith, low)))
    (field 2 l.count body.Zero _ 0 _ _ (omega arith) refl refl
    (field 2 l.count body.Generation _ l.generation _ _ (omega (arith, wide)) lay.most refl
    (field 2 l.count body.Seq _ p.seq _ _ is.0 refl refl
    (field 2 l.count body.Oid _ p.oid _ _ is.1 refl refl
    (field 2 l.count body.Ver _ p.ver _ _ is.2 refl refl
    (field 2 l.count body.Index [] 0 [] _ (omega arith) refl refl (no_field 2 l.count)))))))))))))

is_stripe_body : (d : Fid) (index : ℕ) → IsFid d → index ≤ 15 → IsBody (stripe_body d index)
unfolding stripe_body word zeros
is_stripe_body d index is small =
    field 0 0 body.Kind _ 3 _ _ (omega arith) refl refl
    (field 3 0 body.Mode _ 0 _ _ (omega arith) refl refl
    (field 3 0 body.Uid _ 0 _ _ (omega arith) refl refl
    (field 3 0 body.Gid _ 0 _ _ (omega arith) refl refl
    (field 3 0 body.Links _ 0 _ _ (omega arith) refl refl
    (field 3 0 body.Count _ 0 _ _ (omega arith) refl refl
    (field 3 0 body.Start _ 0 _ _ (omega arith) refl refl
    (field 3 0 body.Zero _ 0 _ _ (omega arith) refl refl
    (field 3 0 body.Generation _ 0 _ _ (omega arith) refl refl
    (field 3 0 body.Seq _ d.seq _ _ (is.0) refl refl
    (field 3 0 body.Oid _ d.oid _ _ (is.1) refl refl
    (field 3 0 body.Ver _ d.ver _ _ (is.2) refl refl
    (field 3 0 body.Index [] index [] _ (omega (arith, small)) (low_index index small) refl (no_field 3 0)))))))))))))
  where
    low_index : (i : ℕ) → i ≤ 15 → nat_le i 15 ≡ true
    low_index i h = grind (arith, nat_tests)

file_len : (length (body_bytes (file_body file_node)) == 48) ≡ true
unfolding body_bytes word
file_len = refl

directory_len : (p : Fid) (l : Layout) → (length (body_bytes (directory_body (directory_in p) l)) == 48) ≡ true
unfolding body_bytes word
directory_len p l = refl

stripe_len : (d : Fid) (i : ℕ) → (length (stripe_body d i) == 48) ≡ true
unfolding stripe_body word zeros
stripe_len d i = refl

p_body : (bytes : List ℕ) → (length bytes == 48) ≡ true → IsBody bytes → FitsParams (shape.Body ∷ []) (bytes ∷ [])
unfolding FitsParams
p_body bytes len is = (record { length_allowed = len; content = is }, tt)

-- ---- updates

below : (n k : ℕ) → n ≤ k → nat_le n k ≡ true
below n k h = grind (arith, nat_tests)

lay_of : (c i g : ℕ) → c ≤ 16 → i ≤ 15 → g ≤ 0x0ffffffe → Lay (layout_with c i g)
lay_of zero i g few low wide = record { count = refl; few = omega arith; start = refl; low = omega arith; most = below g 0x0ffffffe wide; wide = wide }
lay_of (suc c) i g few low wide = record {
  count = below (suc c) 16 few;
  few = few;
  start = elim (eqb_tells (suc c) 0) [
    | inl h ↦ let e = h.1 in absurd (omega (arith, e))
    | inr h ↦ ap (λ b. if b then i == 0 else nat_le i 15) h.0 ∙ below i 15 low
  ];
  low = low;
  most = below g 0x0ffffffe wide;
  wide = wide;
}

-- what a directory needs, so that its objects have FIDs that are spelled
record Placed (d : Fid) (l : Layout) : Type 0 where
  fid : IsFid d
  client : l.count ≢ 0 → Clients d
  few : l.count ≤ 16
  wide : l.generation ≤ 0x0ffffffe

module _ (targets batch : ℕ) (one : 1 ≤ targets) (few : targets ≤ 16) (small : batch < 2 ^ 64) where
  abbrev Spells : Update → Type 0
  Spells u = FitsUpdateOf (Some batch) u

  abbrev AllSpell : List Update → Type 0
  AllSpell us = AllByRecursion Spells us

  all_app : (us vs : List Update) → AllSpell us → AllSpell vs → AllSpell (us ++ vs)
  all_app [] vs a b = b
  all_app (u ∷ us) vs a b = (a.0, all_app us vs a.1 b)

  spell : (k : Kind) (f : Fid) (ps : List (List ℕ)) → not (is_read k) ≡ true → IsFid f → FitsParams (shapes k) ps → Spells (update k batch f ps)
  spell k f ps writes is fits = record { stands = writes; batch = small; batch_set = eq-eqb batch batch refl; fid = is; params = fits }

  stripe_fid_is : (d : Fid) (l : Layout) (i : ℕ) → IsFid d → Clients d → i ≤ 15 → l.generation ≤ 0x0ffffffe → IsFid (stripe_fid_of targets d l i)
  stripe_fid_is d l i is c low wide =
      let high = c.high in
      let target : stripe_target targets l i < 16 = omega (arith, one, few) in
      (omega (arith, high, target), is.1, omega (arith, low, wide))

  created_spell : (d : Fid) (l : Layout) → IsFid d → Clients d → l.generation ≤ 0x0ffffffe → (is : List ℕ) → AreLow is → AllSpell (map (λ i. create_of batch d i (stripe_fid_of targets d l i)) is)
  created_spell d l fits c wide [] low = tt
  created_spell d l fits c wide (i ∷ is) low =
      (spell kind.Create (stripe_fid_of targets d l i) (stripe_body d i ∷ []) refl (stripe_fid_is d l i fits c low.0 wide) (p_body (stripe_body d i) (stripe_len d i) (is_stripe_body d i fits low.0)), created_spell d l fits c wide is low.1)

  destroyed_spell : (d : Fid) (l : Layout) → IsFid d → Clients d → l.generation ≤ 0x0ffffffe → (is : List ℕ) → AreLow is → AllSpell (map (λ i. destroy_of batch (stripe_fid_of targets d l i)) is)
  destroyed_spell d l fits c wide [] low = tt
  destroyed_spell d l fits c wide (i ∷ is) low = (spell kind.Destroy (stripe_fid_of targets d l i) [] refl (stripe_fid_is d l i fits c low.0 wide) p_none, destroyed_spell d l fits c wide is low.1)

  all_created : (d : Fid) (l : Layout) → Placed d l → (n : ℕ) → n ≤ 16 → (n ≢ 0 → Clients d) → AllSpell (map (λ i. create_of batch d i (stripe_fid_of targets d l i)) (range_with_len 0 n))
  all_created d l p zero low c = tt
  all_created d l p (suc n) low c = created_spell d l p.fid (c (λ (e : suc n ≡ 0). absurd (omega (arith, e)))) p.wide (range_with_len 0 (suc n)) (low_range 0 (suc n) (omega (arith, low)))

  all_destroyed : (d : Fid) (l : Layout) → Placed d l → (n : ℕ) → n ≤ 16 → (n ≢ 0 → Clients d) → AllSpell (map (λ i. destroy_of batch (stripe_fid_of targets d l i)) (range_with_len 0 n))
  all_destroyed d l p zero low c = tt
  all_destroyed d l p (suc n) low c = destroyed_spell d l p.fid (c (λ (e : suc n ≡ 0). absurd (omega (arith, e)))) p.wide (range_with_len 0 (suc n)) (low_range 0 (suc n) (omega (arith, low)))

  entry_fid : (d : Fid) (l : Layout) (x : List ℕ) → Placed d l → IsFid (part_named targets d l x)
  entry_fid d l x p =
      let count = p.few in
      elim (eqb_tells l.count 0) [
        | inl h ↦ subst (λ b. IsFid (cond b d (stripe_fid_of targets d l (part_of_name l x)))) (sym h.0) p.fid
        | inr h ↦
            let in_it = part_below l.count l.start l.generation x h.1 in
            subst (λ b. IsFid (cond b d (stripe_fid_of targets d l (part_of_name l x)))) (sym h.0) (stripe_fid_is d l (part_of_name l x) p.fid (p.client h.1) (omega (arith, in_it, count)) p.wide)
      ]

  inserted_spells : (d : Fid) (l : Layout) (x : List ℕ) (f : Fid) → Placed d l → IsName x → Spells (inserted targets batch d l x f)
  inserted_spells d l x f p name = spell kind.Insert (part_named targets d l x) (x ∷ fid_bytes f ∷ []) refl (entry_fid d l x p) (p_entry x f name)

  deleted_spells : (d : Fid) (l : Layout) (x : List ℕ) → Placed d l → IsName x → Spells (deleted targets batch d l x)
  deleted_spells d l x p name = spell kind.Delete (part_named targets d l x) (x ∷ []) refl (entry_fid d l x p) (p_name x name)

  moves_spell : (d : Fid) (old new : Layout) → Placed d old → Placed d new → (es : List (List ℕ × Fid)) → AllByRecursion (λ e. IsName e.0) es → AllSpell (flat_map (moved_entry targets batch d old new) es)
  moves_spell d old new p r [] names = tt
  moves_spell d old new p r (e ∷ es) names = all_app (moved_entry targets batch d old new e) (flat_map (moved_entry targets batch d old new) es) (both (old.count == 0)) (moves_spell d old new p r es names.1)
    where
      both : (b : Bool) → AllSpell (if b then deleted targets batch d old e.0 ∷ inserted targets batch d new e.0 e.1 ∷ [] else inserted targets batch d new e.0 e.1 ∷ [])
      both true = (deleted_spells d old e.0 p names.0, (inserted_spells d new e.0 e.1 r names.0, tt))
      both false = (inserted_spells d new e.0 e.1 r names.0, tt)

  -- ---- operations

  module _ (most : ℕ) (bound : most < 0x0ffffffe) (l : Laid) (sound : IsSound targets most l) where
    abbrev t : Tree
    t = l.tree

    pub few_at : (f : Fid) (n : Node) → get t.nodes f ≡ Some n → (layout_at l f).count ≤ 16
    few_at f n e = let s = (facts targets most l sound f n e).stripes in omega (arith, s, few)

    placed_at : (f : Fid) (n : Node) → get t.nodes f ≡ Some n → Placed f (layout_at l f)
    placed_at f n e =
        let s = facts targets most l sound f n e in
        let seen = s.migrations in
        record { fid = s.fid; client = λ z. client_facts targets f few (s.client z); few = few_at f n e; wide = omega (arith, seen, bound) }

    gone_spells : (f : Fid) (o : Option Node) → get t.nodes f ≡ o → AllSpell (gone_node targets batch f (layout_at l f) o)
    gone_spells f None e = tt
    gone_spells f (Some n) e =
        let p = placed_at f n e in
        by_kind n.dir (all_app (destroyed_stripes targets batch f (layout_at l f)) (destroy_of batch f ∷ []) (all_destroyed f (layout_at l f) p (layout_at l f).count p.few p.client) (spell kind.Destroy f [] refl p.fid p_none, tt))
        (spell kind.RefDel f [] refl p.fid p_none, tt)
      where
        by_kind : (b : Bool) → AllSpell (destroyed_stripes targets batch f (layout_at l f) ++ destroy_of batch f ∷ []) → AllSpell (update kind.RefDel batch f [] ∷ [])
            → AllSpell (if b then destroyed_stripes targets batch f (layout_at l f) ++ destroy_of batch f ∷ [] else update kind.RefDel batch f [] ∷ [])
        by_kind true a b = a
        by_kind false a b = b

    all_gone : (o : Option Fid) → AllSpell (gone targets batch l o)
    all_gone None = tt
    all_gone (Some f) = gone_spells f (get t.nodes f) refl

    parent_spells : (p q m : Fid) (o : Option Node) → get t.nodes m ≡ o → AllSpell (parent_updates batch p q m o)
    parent_spells p q m None e = tt
    parent_spells p q m (Some n) e = by_case (n.dir && not (same_fid p q))
      where
        by_case : (b : Bool) → AllSpell (if b then update kind.ParentSet batch m (fid_bytes q ∷ []) ∷ [] else [])
        by_case true = (spell kind.ParentSet m (fid_bytes q ∷ []) refl (placed_at m n e).fid (p_fid q), tt)
        by_case false = tt

    mkdir_spells : (p : Fid) (x : List ℕ) (f : Fid) (n : Node) (k i : ℕ) → get t.nodes p ≡ Some n → IsName x → IsFid f → is_client targets f ≡ true → k ≤ 16 → i ≤ 15
        → AllSpell (created_node batch f (directory_in p) (layout_with k i 0) ∷ (created_stripes targets batch f (layout_with k i 0) ++ inserted targets batch p (layout_at l p) x f ∷ []))
    mkdir_spells p x f n k i e name fits client few_k low =
        let ly = layout_with k i 0 in
        let lay = lay_of k i 0 few_k low (omega arith) in
        let at_f : Placed f ly = record { fid = fits; client = λ z. client_facts targets f few client; few = lay.few; wide = lay.wide } in
        let at_p = placed_at p n e in (
          spell kind.Create f (body_bytes (directory_body (directory_in p) ly) ∷ []) refl fits (p_body (body_bytes (directory_body (directory_in p) ly)) (directory_len p ly) (is_dir_body p ly at_p.fid lay)),
          all_app (created_stripes targets batch f ly) (inserted targets batch p (layout_at l p) x f ∷ []) (all_created f ly at_f ly.count lay.few at_f.client) (inserted_spells p (layout_at l p) x f at_p name, tt),
        )

    names_named : (names : Names) (es : List (List ℕ × Fid)) → ((x : List ℕ) (c : Fid) → get names x ≡ Some c → IsName x) → AllByRecursion (λ e. get names e.0 ≡ Some e.1) es → AllByRecursion (λ e. IsName e.0) es
    names_named names [] h all = tt
    names_named names (e ∷ es) h all = (h e.0 e.1 all.0, names_named names es h all.1)

    migrate_spells : (d : Fid) (c i : ℕ) (n : Node) → get t.nodes d ≡ Some n → same_fid d root_fid ≡ false → c ≤ 16 → i ≤ 15 → AllSpell (op_updates targets batch l (ops.Migrate d c i))
    migrate_spells d c i n e not_root few_c low =
        let s = facts targets most l sound d n e in
        let seen = s.migrations in
        let old = layout_at l d in
        let new = layout_with c i (suc old.generation) in
        let lay = lay_of c i (suc old.generation) few_c low (omega (arith, seen, bound)) in
        let p = placed_at d n e in
        let clients = client_facts targets d few (s.known not_root) in
        let r : Placed d new = record { fid = s.fid; client = λ z. clients; few = lay.few; wide = lay.wide } in
        let names = names_of t d in (
          spell kind.LayoutSet d (layout_text new ∷ []) refl s.fid (p_layout new),
          all_app (created_stripes targets batch d new) _ (all_created d new r new.count lay.few r.client)
              (all_app _ (destroyed_stripes targets batch d old) (moves ((old.count == 0) && (new.count == 0)) (moves_spell d old new p r (entries names) (names_named names (entries names) s.are_names (entries_got names_total names))))
              (all_destroyed d old p old.count p.few p.client)),
        )
      where
        moves : (b : Bool) → AllSpell (flat_map (moved_entry targets batch d (layout_at l d) (layout_with c i (suc (layout_at l d).generation))) (entries (names_of t d)))
            → AllSpell (if b then [] else flat_map (moved_entry targets batch d (layout_at l d) (layout_with c i (suc (layout_at l d).generation))) (entries (names_of t d)))
        moves true h = tt
        moves false h = h

    spells_mkdir : (p : Fid) (x : List ℕ) (f : Fid) (z : Option (ℕ × ℕ)) (n : Node) → get t.nodes p ≡ Some n → IsName x → IsFid f → is_client targets f ≡ true → layout_fault targets z ≡ None → AllSpell (op_updates targets batch l (ops.Mkdir p x f z))
    spells_mkdir p x f None n e name fits client g = mkdir_spells p x f n 0 0 e name fits client (omega arith) (omega arith)
    spells_mkdir p x f (Some z) n e name fits client g =
        let low = stripes_none targets z.0 z.1 g in
        let count = low.0 in
        let index = low.1 in
        mkdir_spells p x f n z.0 z.1 e name fits client (omega (arith, count, few)) (omega (arith, index, few))

    unlink_spells : (p : Fid) (x : List ℕ) (rest : Option Errno) → IsName x → first_fault (parent_fault (get t.nodes p)) rest ≡ None → AllSpell (deleted targets batch p (layout_at l p) x ∷ gone targets batch l (named t p x))
    unlink_spells p x rest name h =
        let n = parent_none (get t.nodes p) (first_none (parent_fault (get t.nodes p)) rest h).0 in
        (deleted_spells p (layout_at l p) x (placed_at p n.0 n.1) name, all_gone (named t p x))

    op_spells : (op : Op) → IsOp targets op → op_fault targets t op ≡ None → AllSpell (op_updates targets batch l op)
    op_spells (ops.Create p x f) is h =
        let a = first_none (client_fault targets f) (first_fault (layout_fault targets None) (first_fault (parent_fault (get t.nodes p)) (first_fault (taken_fault (named t p x)) (taken_fault (get t.nodes f))))) h in
        let b = first_none (parent_fault (get t.nodes p)) (first_fault (taken_fault (named t p x)) (taken_fault (get t.nodes f))) a.1 in
        let n = parent_none (get t.nodes p) b.0 in
        (spell kind.Create f (body_bytes (file_body file_node) ∷ []) refl is.2.0 (p_body (body_bytes (file_body file_node)) file_len is_file), (inserted_spells p (layout_at l p) x f (placed_at p n.0 n.1) is.1, tt))
    op_spells (ops.Mkdir p x f s) is h =
        let a = first_none (client_fault targets f) (first_fault (layout_fault targets s) (first_fault (parent_fault (get t.nodes p)) (first_fault (taken_fault (named t p x)) (taken_fault (get t.nodes f))))) h in
        let d = first_none (layout_fault targets s) (first_fault (parent_fault (get t.nodes p)) (first_fault (taken_fault (named t p x)) (taken_fault (get t.nodes f)))) a.1 in
        let b = first_none (parent_fault (get t.nodes p)) (first_fault (taken_fault (named t p x)) (taken_fault (get t.nodes f))) d.1 in
        let n = parent_none (get t.nodes p) b.0 in
        spells_mkdir p x f s n.0 n.1 is.1 is.2.0 (client_none targets f a.0) d.0
    op_spells (ops.Link p x f) is h =
        let a = first_none (parent_fault (get t.nodes p)) (first_fault (taken_fault (named t p x)) (link_fault (get t.nodes f))) h in
        let n = parent_none (get t.nodes p) a.0 in
        (spell kind.RefAdd f [] refl is.2.0 p_none, (inserted_spells p (layout_at l p) x f (placed_at p n.0 n.1) is.1, tt))
    op_spells (ops.Unlink p x) is h = unlink_spells p x _ is.1 h
    op_spells (ops.Rmdir p x) is h = unlink_spells p x _ is.1 h
    op_spells (ops.Rename p x q y) is h =
        let a = first_none (parent_fault (get t.nodes p)) (found_fault (named t p x) (moved_fault t p x q y)) h in
        let n = parent_none (get t.nodes p) a.0 in
        let c = found_none (named t p x) (moved_fault t p x q y) a.1 in
        let b = first_none (parent_fault (get t.nodes q)) _ c.2 in
        let k = parent_none (get t.nodes q) b.0 in
        subst (λ (o : Option Fid). AllSpell (rename_updates targets batch l p x q y o)) (sym c.1) (
          deleted_spells p (layout_at l p) x (placed_at p n.0 n.1) is.1,
          all_app (gone targets batch l (named t q y)) _ (all_gone (named t q y)) (inserted_spells q (layout_at l q) y c.0 (placed_at q k.0 k.1) is.3, parent_spells p q c.0 (get t.nodes c.0) refl),
        )
    op_spells (ops.SetAttr f mode uid gid) is h = (spell kind.AttrSet f (attributes_bytes mode uid gid ∷ []) refl is.0.0 (p_attributes mode uid gid), tt)
    op_spells (ops.SetXattr f x v) is h = (spell kind.XattrSet f (x ∷ v ∷ []) refl is.0.0 (p_value x v is.1 is.2.1), tt)
    op_spells (ops.DelXattr f x) is h = (spell kind.XattrDel f (x ∷ []) refl is.0.0 (p_name x is.1), tt)
    op_spells (ops.Migrate d c i) is h =
        let big = if nat_lt 32 (len (names_of t d)) then Some EFBIG else None in
        let asked = if same_fid d root_fid then Some EINVAL else stripes_fault targets c i in
        let a = first_none (parent_fault (get t.nodes d)) (first_fault asked big) h in
        let b = first_none asked big a.1 in
        let r = unmet (same_fid d root_fid) EINVAL (stripes_fault targets c i) b.0 in
        let low = stripes_none targets c i r.1 in
        let count = low.0 in
        let index = low.1 in
        let n = parent_none (get t.nodes d) a.0 in
        migrate_spells d c i n.0 n.1 r.0 (omega (arith, count, few)) (omega (arith, index, few))
    op_spells (ops.Lookup p x) is h = tt
    op_spells (ops.GetAttr f) is h = tt
    op_spells (ops.GetXattr f x) is h = tt

    unless : (cs : List Change) (us : List Update) → AllSpell us → AllSpell (unless_none cs us)
    unless [] us h = tt
    unless (c ∷ cs) us h = h

    by_fault : (op : Op) (f : Option Errno) → op_fault targets t op ≡ f → IsOp targets op → AllSpell (updates targets batch l op)
    by_fault op None e is = unless (changes targets t op) (op_updates targets batch l op) (op_spells op is e)
    by_fault op (Some z) e is = subst (λ (cs : List Change). AllSpell (unless_none cs (op_updates targets batch l op))) (sym (decides targets t op (Some z) e)) tt

    pub all_spell : (op : Op) → IsOp targets op → AllSpell (updates targets batch l op)
    all_spell op is = by_fault op (op_fault targets t op) refl is

pub updates_are_spelled : UpdatesAreSpelled
updates_are_spelled targets most batch l op one few bound small sound is = all_spell targets batch one few small most bound l sound op is
