-- A migration: the entries of a directory move to its new parts.
use Rattle.std.proofs.Common.{◌≡◌, ◌≤◌, ◌==◌, ◌&&◌, ◌||◌, if◌then◌else◌, ℕ, suc, Bool, true, false, cond, List, [], ◌∷◌, ◌++◌, map, Option, Some, None, is_some, inl, inr, refl, sym, ap, ◌∙◌, arith}
use Rattle.std.proofs.lemmas.Bool.Decides.{eqb_tells}
use Rattle.std.specs.List.{range_with_len, list_any, flat_map, AllByRecursion}
use Rattle.std.specs.Ordering.{eq_by_cmp}
use Rattle.std.specs.FinMap.{empty, entries, get, insert, remove, same_map, get-empty, get-insert, get-remove, contains_key-keys}
use Rattle.fid_space.specs.declared.fid.Fid.{Fid}
use Rattle.fid_space.specs.FidText.{IsFid}
use Rattle.tree_model.specs.declared.node.Node.{Node}
use Rattle.tree_model.specs.Fids.{name_cmp}
use Rattle.tree_model.specs.Tree.{Names}
use Rattle.tree_model.specs.Keys.{Layout}
use Rattle.tree_model.proofs.Maps.{names_total, exact_names}
use Rattle.tree_model.proofs.Fids.{told_same, name_same}
use Rattle.out_update.specs.declared.update.Update.{Update}
use Rattle.out_update.specs.declared.update.Kind.TheVariants as kind
use Rattle.striped_dir.specs.Layouts.{FitsLayout, layout_text}
use Rattle.striped_dir.specs.Parts.{part_of_name}
use Rattle.object_store.specs.Bodies.{is_allowed}
use Rattle.object_store.specs.Objects.{Object, fresh}
use Rattle.object_store.specs.Meaning.{with_entry}
use Rattle.tree_shares.specs.Shares.{directory_body, body_of, names_in, own_names, node_object, stripe_object, stripe_fid_of, stripe_of_directory}
use Rattle.tree_shares.specs.Updates.{update, part_named, inserted, deleted, created_stripes, destroyed_stripes, moved_entry, migrate_updates}
use Rattle.tree_shares.proofs.Effects.{effect, touched, effects, effects-append}
use Rattle.tree_shares.proofs.Owner.{index_in}
use Rattle.tree_shares.proofs.Finding.{entries_got, one_of, among, stripe_in, object_in, one_of_index}
use Rattle.tree_shares.proofs.Encoded.{fid_alone}
use Rattle.tree_shares.proofs.Here.{node_is_no_stripe, one_is_its_index, AreLow, low_range, none_of_none, effects_created, effects_destroyed, got_in}
use Rattle.tree_shares.proofs.Nodes.{effect_layout}
use Rattle.tree_sound.proofs.Basics.{same, by_bool, not_both}

-- ---- entries that go and come

module _ (hit : List ℕ → Bool) (dl : Bool) where
  abbrev pub moved_names : List ℕ × Fid → Names → Names
  moved_names e m = cond (hit e.0) (insert (cond dl (remove m e.0) m) e.0 e.1) (cond dl (remove m e.0) m)

  abbrev pub all_moved : List (List ℕ × Fid) → Names → Names
  all_moved [] m = m
  all_moved (e ∷ es) m = all_moved es (moved_names e m)

  got_left : (d : Bool) (x : List ℕ) (m : Names) (y : List ℕ) → get (cond d (remove m x) m) y ≡ cond (eq_by_cmp name_cmp y x) (cond d None (get m y)) (get m y)
  got_left true x m y = get-remove names_total m x y
  got_left false x m y = either (eq_by_cmp name_cmp y x)
    where
      either : (b : Bool) → get m y ≡ cond b (get m y) (get m y)
      either true = refl
      either false = refl

  got_moved : (h : Bool) (x : List ℕ) (f : Fid) (m : Names) (y : List ℕ)
      → get (cond h (insert (cond dl (remove m x) m) x f) (cond dl (remove m x) m)) y ≡ cond (eq_by_cmp name_cmp y x) (cond h (Some f) (cond dl None (get m y))) (get m y)
  got_moved true x f m y =
      get-insert names_total (cond dl (remove m x) m) x f y ∙ ap (cond (eq_by_cmp name_cmp y x) (Some f)) (got_left dl x m y) ∙ inner (eq_by_cmp name_cmp y x)
    where
      inner : (b : Bool) → cond b (Some f) (cond b (cond dl None (get m y)) (get m y)) ≡ cond b (Some f) (get m y)
      inner true = refl
      inner false = refl
  got_moved false x f m y = got_left dl x m y

  pub got_all : (names : Names) (es : List (List ℕ × Fid)) → AllByRecursion (λ e. get names e.0 ≡ Some e.1) es → (m : Names) (y : List ℕ)
      → get (all_moved es m) y ≡ cond (list_any (eq_by_cmp name_cmp y) (map (λ e. e.0) es)) (cond (hit y) (get names y) (cond dl None (get m y))) (get m y)
  got_all names [] all m y = refl
  got_all names (e ∷ es) all m y =
      let rest = list_any (eq_by_cmp name_cmp y) (map (λ x. x.0) es) in
      let out : Option Fid → Option Fid = λ o. cond rest (cond (hit y) (get names y) (cond dl None o)) o in
      let right : Bool → Option Fid = λ b. cond (b || rest) (cond (hit y) (get names y) (cond dl None (get m y))) (get m y) in
      let value : Bool → Option Fid = λ b. cond b (cond (hit e.0) (Some e.1) (cond dl None (get m y))) (get m y) in
      got_all names es all.1 (moved_names e m) y ∙ ap out (got_moved (hit e.0) e.0 e.1 m y)
      ∙ by_bool (eq_by_cmp name_cmp y e.0)
      (λ s.
      let is = name_same y e.0 s in
      ap (λ b. out (value b)) s
      ∙ ap (λ o. out (cond (hit e.0) o (cond dl None (get m y)))) (sym all.0)
      ∙ ap (λ x. out (cond (hit x) (get names x) (cond dl None (get m y)))) (sym is)
      ∙ settled rest (hit y) dl (get names y) (get m y) ∙ sym (ap right s))
      (λ s. ap (λ b. out (value b)) s ∙ sym (ap right s))
    where
      settled : (r h d : Bool) (a b : Option Fid) → cond r (cond h a (cond d None (cond h a (cond d None b)))) (cond h a (cond d None b)) ≡ cond h a (cond d None b)
      settled true true d a b = refl
      settled true false true a b = refl
      settled true false false a b = refl
      settled false h d a b = refl

  pub got_entries : (names m : Names) (y : List ℕ) → get (all_moved (entries names) m) y ≡ cond (is_some (get names y)) (cond (hit y) (get names y) (cond dl None (get m y))) (get m y)
  got_entries names m y =
      got_all names (entries names) (entries_got names_total names) m y ∙ ap (λ b. cond b (cond (hit y) (get names y) (cond dl None (get m y))) (get m y)) (sym (contains_key-keys names y))

  -- ---- the updates

  abbrev moves_it : Option Object → List ℕ × Fid → Option Object
  moves_it None e = None
  moves_it (Some o) e = Some (record o { entries = moved_names e o.entries })

pub fits_all : (names : Names) (es : List (List ℕ × Fid)) → ((x : List ℕ) (c : Fid) → get names x ≡ Some c → IsFid c) → AllByRecursion (λ e. get names e.0 ≡ Some e.1) es → AllByRecursion (λ e. IsFid e.1) es
fits_all names [] h all = tt
fits_all names (e ∷ es) h all = (h e.0 e.1 all.0, fits_all names es h all.1)

module _ (targets batch : ℕ) (d : Fid) (old new : Layout) (q : Fid) where
  abbrev hits : List ℕ → Bool
  hits x = same q (part_named targets d new x)

  abbrev drops : Bool
  drops = (old.count == 0) && same q d

  inserts : (e : List ℕ × Fid) → IsFid e.1 → (o : Object) → touched (inserted targets batch d new e.0 e.1) q (Some o) ≡ Some (record o { entries = cond (hits e.0) (insert o.entries e.0 e.1) o.entries })
  inserts e fits o =
      ap (λ r. cond (hits e.0) (Some (with_entry o e.0 r)) (Some o)) (fid_alone e.1 fits) ∙ either (hits e.0)
    where
      either : (b : Bool) → ◌≡◌ {A = Option Object} (cond b (Some (record o { entries = insert o.entries e.0 e.1 })) (Some o)) (Some (record o { entries = cond b (insert o.entries e.0 e.1) o.entries }))
      either true = refl
      either false = refl

  one_moves : (e : List ℕ × Fid) → IsFid e.1 → (o : Object) → effects (moved_entry targets batch d old new e) q (Some o) ≡ Some (record o { entries = moved_names hits drops e o.entries })
  one_moves e fits o =
      let left : Bool → Option Object = λ b. effects (if b then update kind.Delete batch (if b then d else stripe_fid_of targets d old (part_of_name old e.0)) (e.0 ∷ []) ∷ inserted targets batch d new e.0 e.1 ∷ [] else inserted targets batch d new e.0 e.1 ∷ []) q (Some o) in
      let right : Bool → Option Object = λ b. Some (record o { entries = moved_names hits (b && same q d) e o.entries }) in
      elim (eqb_tells old.count 0) [
        | inl h ↦ ap left h.0 ∙ plain ∙ sym (ap right h.0)
        | inr h ↦ ap left h.0 ∙ inserts e fits o ∙ sym (ap right h.0)
      ]
    where
      plain : touched (inserted targets batch d new e.0 e.1) q (cond (same q d) (Some (record o { entries = remove o.entries e.0 })) (Some o)) ≡ Some (record o { entries = moved_names hits (same q d) e o.entries })
      plain = by_dir (same q d)
        where
          by_dir : (b : Bool) → touched (inserted targets batch d new e.0 e.1) q (cond b (Some (record o { entries = remove o.entries e.0 })) (Some o)) ≡ Some (record o { entries = moved_names hits b e o.entries })
          by_dir true = inserts e fits (record o { entries = remove o.entries e.0 })
          by_dir false = inserts e fits o

  pub all_move : (es : List (List ℕ × Fid)) → AllByRecursion (λ e. IsFid e.1) es → (o : Object)
      → effects (flat_map (moved_entry targets batch d old new) es) q (Some o) ≡ Some (record o { entries = all_moved hits drops es o.entries })
  all_move [] all o = refl
  all_move (e ∷ es) all o =
      effects-append (moved_entry targets batch d old new e) (flat_map (moved_entry targets batch d old new) es) q (Some o)
      ∙ ap (effects (flat_map (moved_entry targets batch d old new) es) q) (one_moves e all.0 o)
      ∙ all_move es all.1 (record o { entries = moved_names hits drops e o.entries })

-- the index of a stripe that is among them
one_is_low : (targets : ℕ) (d : Fid) (l : Layout) (q : Fid) (is : List ℕ) → AreLow is → one_of targets d l q is ≡ true → index_in l q ≤ 15
one_is_low targets d l q [] low h = not_both false h refl
one_is_low targets d l q (i ∷ is) low h =
    by_bool (same q (stripe_fid_of targets d l i))
    (λ s. let e = one_of_index targets d l q i s in let at = low.0 in omega (arith, e, at))
    (λ s. one_is_low targets d l q is low.1 (sym (ap (λ b. b || one_of targets d l q is) s) ∙ h))

-- no stripe of one generation is one of the next
never_both : (targets : ℕ) (d : Fid) (old new : Layout) (q : Fid) → old.count ≤ 16 → new.count ≤ 16 → new.generation ≡ suc old.generation
    → among targets d new q ≡ true → among targets d old q ≡ true → ⊥
never_both targets d old new q few_old few newer a b =
    let i = one_is_low targets d new q (range_with_len 0 new.count) (low_range 0 new.count (omega arith)) a in
    let j = one_is_low targets d old q (range_with_len 0 old.count) (low_range 0 old.count (omega arith)) b in
    let f : q.ver ≡ (stripe_fid_of targets d new (index_in new q)).ver = ap (λ (x : Fid). x.ver) (told_same q _ (one_is_its_index targets d new q (range_with_len 0 new.count) a)) in
    let g : q.ver ≡ (stripe_fid_of targets d old (index_in old q)).ver = ap (λ (x : Fid). x.ver) (told_same q _ (one_is_its_index targets d old q (range_with_len 0 old.count) b)) in
    omega (arith, i, j, f, g, newer)

got_own : (b : Bool) (names : Names) (y : List ℕ) → get (cond b names empty) y ≡ cond b (get names y) None
got_own true names y = refl
got_own false names y = get-empty {X = Fid} name_cmp y

got_cond : (b : Bool) (m k : Names) (y : List ℕ) → get (cond b m k) y ≡ cond b (get m y) (get k y)
got_cond true m k y = refl
got_cond false m k y = refl

settle_own : (a b : Bool) (o : Option Fid) → cond (a && b) (cond a o None) (cond (is_some o) (cond b o (cond a None (cond a o None))) (cond a o None)) ≡ cond b o None
settle_own true true o = refl
settle_own true false None = refl
settle_own true false (Some f) = refl
settle_own false true None = refl
settle_own false true (Some f) = refl
settle_own false false None = refl
settle_own false false (Some f) = refl

settle_part : (h d : Bool) (o : Option Fid) → cond (is_some o) (cond h o (cond d None None)) None ≡ cond h o None
settle_part true d None = refl
settle_part true d (Some f) = refl
settle_part false true None = refl
settle_part false true (Some f) = refl
settle_part false false None = refl
settle_part false false (Some f) = refl

module _ (targets batch : ℕ) (d q : Fid) (n : Node) (old new : Layout) (names : Names)
    (v : d.ver ≡ 0) (fits : IsFid d) (dir : n.dir ≡ true) (few_old : old.count ≤ 16) (few : new.count ≤ 16) (newer : new.generation ≡ suc old.generation)
    (fits_new : FitsLayout new) (ok : is_allowed (directory_body n new) ≡ true) (kids : (x : List ℕ) (c : Fid) → get names x ≡ Some c → IsFid c) where
  abbrev A : Bool
  A = old.count == 0

  abbrev B : Bool
  B = new.count == 0

  abbrev K : ℕ
  K = index_in new q

  abbrev moves : List Update
  moves = if A && B then [] else flat_map (moved_entry targets batch d old new) (entries names)

  abbrev hit : List ℕ → Bool
  hit y = same q (part_named targets d new y)

  abbrev drop : Bool
  drop = A && same q d

  abbrev set : Update
  set = update kind.LayoutSet batch d (layout_text new ∷ [])

  abbrev before : Option Object
  before = object_in targets q d (Some n) old names

  moves_some : (o : Object) → effects moves q (Some o) ≡ Some (record o { entries = cond (A && B) o.entries (all_moved hit drop (entries names) o.entries) })
  moves_some o = by_case (A && B)
    where
      by_case : (b : Bool) → effects (if b then [] else flat_map (moved_entry targets batch d old new) (entries names)) q (Some o) ≡ Some (record o { entries = cond b o.entries (all_moved hit drop (entries names) o.entries) })
      by_case true = refl
      by_case false = all_move targets batch d old new q (entries names) (fits_all names (entries names) kids (entries_got names_total names)) o

  one_none : (e : List ℕ × Fid) → effects (moved_entry targets batch d old new e) q None ≡ None
  one_none e =
      let left : Bool → Option Object = λ b. effects (if b then deleted targets batch d old e.0 ∷ inserted targets batch d new e.0 e.1 ∷ [] else inserted targets batch d new e.0 e.1 ∷ []) q None in
      by_bool A (λ s. ap left s ∙ two (same q (part_named targets d old e.0)) (hit e.0)) (λ s. ap left s ∙ one (hit e.0))
    where
      one : (b : Bool) → ◌≡◌ {A = Option Object} (cond b None None) None
      one true = refl
      one false = refl

      two : (a b : Bool) → ◌≡◌ {A = Option Object} (cond b (effect (inserted targets batch d new e.0 e.1) (cond a None None)) (cond a None None)) None
      two true true = refl
      two true false = refl
      two false true = refl
      two false false = refl

  all_none : (es : List (List ℕ × Fid)) → effects (flat_map (moved_entry targets batch d old new) es) q None ≡ None
  all_none [] = refl
  all_none (e ∷ es) =
      effects-append (moved_entry targets batch d old new e) (flat_map (moved_entry targets batch d old new) es) q None
      ∙ ap (effects (flat_map (moved_entry targets batch d old new) es) q) (one_none e) ∙ all_none es

  moves_none : effects moves q None ≡ None
  moves_none = by_case (A && B)
    where
      by_case : (b : Bool) → effects (if b then [] else flat_map (moved_entry targets batch d old new) (entries names)) q None ≡ None
      by_case true = refl
      by_case false = all_none (entries names)

  whole : effects (migrate_updates targets batch d old new names) q before
      ≡ cond (among targets d old q) None (effects moves q (cond (among targets d new q) (Some (fresh (stripe_of_directory d K))) (touched set q before)))
  whole =
      effects-append (created_stripes targets batch d new) (moves ++ destroyed_stripes targets batch d old) q (touched set q before)
      ∙ effects-append moves (destroyed_stripes targets batch d old) q (effects (created_stripes targets batch d new) q (touched set q before))
      ∙ ap (λ o. effects (destroyed_stripes targets batch d old) q (effects moves q o)) (effects_created targets batch d new q fits (range_with_len 0 new.count) (low_range 0 new.count (omega arith)) (touched set q before))
      ∙ effects_destroyed targets batch d old q (range_with_len 0 old.count) _

  -- the directory itself
  own_moved : same q d ≡ true → cond (A && B) (own_names old names) (all_moved hit drop (entries names) (own_names old names)) ≡ own_names new names
  own_moved s = same_map names_total exact_names _ _ (λ y.
      let hit_is : hit y ≡ B =
      elim (eqb_tells new.count 0) [
        | inl h ↦ ap (λ b. same q (cond b d (stripe_fid_of targets d new (part_of_name new y)))) h.0 ∙ s ∙ sym h.0
        | inr h ↦ ap (λ b. same q (cond b d (stripe_fid_of targets d new (part_of_name new y)))) h.0
            ∙ sym (or_false (same q (stripe_fid_of targets d new (part_of_name new y)))) ∙ node_is_no_stripe targets d new q d v s (part_of_name new y ∷ []) ∙ sym h.0
      ] in
      let drop_is : drop ≡ A = ap (λ b. A && b) s ∙ and_true A in
      let was = got_own A names y in
      got_cond (A && B) (own_names old names) (all_moved hit drop (entries names) (own_names old names)) y
      ∙ ap (cond (A && B) (get (own_names old names) y)) (got_entries hit drop names (own_names old names) y)
      ∙ ap (λ o. cond (A && B) o (cond (is_some (get names y)) (cond (hit y) (get names y) (cond drop None o)) o)) was
      ∙ ap (λ b. cond (A && B) (cond A (get names y) None) (cond (is_some (get names y)) (cond b (get names y) (cond drop None (cond A (get names y) None))) (cond A (get names y) None))) hit_is
      ∙ ap (λ b. cond (A && B) (cond A (get names y) None) (cond (is_some (get names y)) (cond B (get names y) (cond b None (cond A (get names y) None))) (cond A (get names y) None))) drop_is
      ∙ settle_own A B (get names y)
      ∙ sym (got_own B names y))
    where
      or_false : (b : Bool) → (b || false) ≡ b
      or_false true = refl
      or_false false = refl

      and_true : (b : Bool) → (b && true) ≡ b
      and_true true = refl
      and_true false = refl

  itself : same q d ≡ true → effects (migrate_updates targets batch d old new names) q before ≡ object_in targets q d (Some n) new names
  itself s =
      let o : Object = record { body = body_of n new; entries = own_names old names; attributes = n.xattrs } in
      let not_old = node_is_no_stripe targets d old q d v s (range_with_len 0 old.count) in
      let not_new = node_is_no_stripe targets d new q d v s (range_with_len 0 new.count) in
      let was : touched set q before ≡ Some o =
      ap (λ b. cond b (effect set (cond b (Some (node_object n old names)) (stripe_in targets d old names q))) (cond b (Some (node_object n old names)) (stripe_in targets d old names q))) s
      ∙ effect_layout batch d n old new names dir fits_new ok in
      whole
      ∙ ap (λ b. cond b None (effects moves q (cond (among targets d new q) (Some (fresh (stripe_of_directory d K))) (touched set q before)))) not_old
      ∙ ap (λ b. effects moves q (cond b (Some (fresh (stripe_of_directory d K))) (touched set q before))) not_new
      ∙ ap (effects moves q) was
      ∙ moves_some o
      ∙ (λ i. Some (record { body = body_of n new; entries = own_moved s i; attributes = n.xattrs }))
      ∙ sym (ap (λ b. cond b (Some (node_object n new names)) (stripe_in targets d new names q)) s)

  -- a new stripe
  part_moved : among targets d new q ≡ true → cond (A && B) empty (all_moved hit drop (entries names) empty) ≡ names_in new K names
  part_moved am = same_map names_total exact_names _ _ (λ y.
      let some_new : B ≡ false = by_bool B (λ e. not_both (among targets d new q) am (none_of_none targets d new q e)) (λ e. e) in
      let at_stripe : hit y ≡ same q (stripe_fid_of targets d new (part_of_name new y)) = ap (λ b. same q (cond b d (stripe_fid_of targets d new (part_of_name new y)))) some_new in
      let hit_is : hit y ≡ (part_of_name new y == K) =
      at_stripe ∙ elim (eqb_tells (part_of_name new y) K) [
        | inl h ↦ ap (λ j. same q (stripe_fid_of targets d new j)) h.1 ∙ one_is_its_index targets d new q (range_with_len 0 new.count) am ∙ sym h.0
        | inr h ↦ by_bool (same q (stripe_fid_of targets d new (part_of_name new y))) (λ s. absurd (h.1 (sym (one_of_index targets d new q (part_of_name new y) s)))) (λ s. s) ∙ sym h.0
      ] in
      let none = get-empty {X = Fid} name_cmp y in
      got_cond (A && B) empty (all_moved hit drop (entries names) empty) y
      ∙ ap (λ b. cond b (get {R = name_cmp} empty y) (get (all_moved hit drop (entries names) empty) y)) (ap (λ b. A && b) some_new ∙ and_false A)
      ∙ got_entries hit drop names empty y
      ∙ ap (λ o. cond (is_some (get names y)) (cond (hit y) (get names y) (cond drop None o)) o) none
      ∙ settle_part (hit y) drop (get names y)
      ∙ ap (λ b. cond b (get names y) None) hit_is
      ∙ sym (got_in new K names y))
    where
      and_false : (b : Bool) → (b && false) ≡ false
      and_false true = refl
      and_false false = refl

  new_stripe : same q d ≡ false → among targets d new q ≡ true → effects (migrate_updates targets batch d old new names) q before ≡ object_in targets q d (Some n) new names
  new_stripe s am =
      let not_old : among targets d old q ≡ false = by_bool (among targets d old q) (λ b. absurd (never_both targets d old new q few_old few newer am b)) (λ b. b) in
      whole
      ∙ ap (λ b. cond b None (effects moves q (cond (among targets d new q) (Some (fresh (stripe_of_directory d K))) (touched set q before)))) not_old
      ∙ ap (λ b. effects moves q (cond b (Some (fresh (stripe_of_directory d K))) (touched set q before))) am
      ∙ moves_some (fresh (stripe_of_directory d K))
      ∙ (λ i. Some (record { body = stripe_of_directory d K; entries = part_moved am i; attributes = empty }))
      ∙ sym (ap (λ b. cond b (Some (node_object n new names)) (stripe_in targets d new names q)) s ∙ ap (λ b. cond b (Some (stripe_object d new names K)) None) am)

  old_stripe : same q d ≡ false → among targets d new q ≡ false → effects (migrate_updates targets batch d old new names) q before ≡ object_in targets q d (Some n) new names
  old_stripe s am =
      let was : touched set q before ≡ stripe_in targets d old names q =
      ap (λ b. cond b (effect set (cond b (Some (node_object n old names)) (stripe_in targets d old names q))) (cond b (Some (node_object n old names)) (stripe_in targets d old names q))) s in
      let shown : Bool → Option Object = λ b. cond b None (effects moves q (cond b (Some (stripe_object d old names (index_in old q))) None)) in
      whole
      ∙ ap (λ b. cond (among targets d old q) None (effects moves q (cond b (Some (fresh (stripe_of_directory d K))) (touched set q before)))) am
      ∙ ap (λ o. cond (among targets d old q) None (effects moves q o)) was
      ∙ by_bool (among targets d old q) (λ b. ap shown b) (λ b. ap shown b ∙ moves_none)
      ∙ sym (ap (λ b. cond b (Some (node_object n new names)) (stripe_in targets d new names q)) s ∙ ap (λ b. cond b (Some (stripe_object d new names K)) None) am)

  pub here_migrated : effects (migrate_updates targets batch d old new names) q before ≡ object_in targets q d (Some n) new names
  here_migrated = by_bool (same q d) itself (λ s. by_bool (among targets d new q) (new_stripe s) (old_stripe s))
