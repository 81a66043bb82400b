-- Trees of histories are sound; and what is so of every sound tree.
use Rattle.std.proofs.Common.{◌≡◌, ◌≢◌, ◌≤◌, ◌<◌, ◌+◌, inl, inr, ⊎_elim, is_some, ◌-◌, ◌/◌, ◌==◌, ℕ, zero, suc, Bool, true, false, cond, if◌then◌else◌, length, List, [], ◌∷◌, Option, Some, None, refl, sym, ap, subst, ◌∙◌, arith}
use Rattle.std.proofs.lemmas.Bool.Decides.{nat_tests}
use Rattle.std.specs.Option.{unwrap_or}
use Rattle.std.specs.FinMap.{get, empty, get-empty}
use Rattle.fid_space.specs.declared.fid.Fid.{Fid}
use Rattle.fid_space.specs.FidText.{IsFid}
use Rattle.fid_space.specs.Places.{has_place, in_range, is_client, base_of}
use Rattle.tree_model.specs.declared.node.Node.{Node}
use Rattle.tree_model.specs.Tree.{Names, fid_cmp, name_cmp, base, root_fid, root_node, names_of, named, same_fid}
use Rattle.tree_model.specs.Step.{is_dir}
use Rattle.tree_model.specs.Keys.{Laid, layout_at, laid_base}
use Rattle.tree_model.specs.Looks.{changes}
use Rattle.tree_model.specs.History.{Item}
use Rattle.tree_model.specs.Kept.{laid_step, laid_from, laid_of}
use Rattle.tree_sound.specs.Sound.{IsSound, IsNodeFid, Place, Holds, Counted, names_due}
use Rattle.tree_sound.specs.SoundLaws.{BaseIsSound, StepsAreSound, AreOps, HistoriesAreSound, NamesLeadToNodes, ParentsNameTheirDirectories, ParentsAreFids, DirectoriesFit}
use Rattle.tree_sound.proofs.Basics.{which, at_fid, same_self, some_is, none_is, node_of}
use Rattle.tree_sound.proofs.Points.{nodes_are, names_are, node_is}
use Rattle.tree_sound.proofs.Counts.{one_place, counts_as}
use Rattle.tree_sound.proofs.Shapes.{shapes}
use Rattle.tree_sound.proofs.Naming.{sons, roots, rootless, named_there, due_dir}
use Rattle.tree_sound.proofs.Keeping.{base_all, sound_node, sound_none}
use Rattle.tree_sound.proofs.Sounds.{step_keeps}

-- ---- the root alone

root_only : (f : Fid) → get base.nodes f ≡ cond (same_fid root_fid f) (Some root_node) None
root_only f = node_is root_fid f root_node empty ∙ ap (λ o. cond (same_fid root_fid f) (Some root_node) o) (get-empty {X = Node} fid_cmp f)

root_there : get base.nodes root_fid ≡ Some root_node
root_there = root_only root_fid ∙ ap (λ b. cond b (Some root_node) None) (same_self root_fid)

no_name : (d : Fid) (x : List ℕ) → named base d x ≡ None
no_name d x = ap (λ o. get (unwrap_or o empty) x) (get-empty {X = Names} fid_cmp d) ∙ get-empty {X = Fid} name_cmp x

none_due : (f : Fid) → 0 ≡ names_due f (get base.nodes f)
none_due f = ⊎_elim
    (λ (s : root_fid ≡ f). subst (λ f. 0 ≡ names_due f (get base.nodes f)) s (sym (ap (λ o. names_due root_fid o) root_there ∙ ap (λ b. if b then 0 else 1) (same_self root_fid))))
    (λ s. sym (ap (λ o. names_due f o) (root_only f ∙ ap (λ b. cond b (Some root_node) None) s))) (at_fid root_fid f)

pub base_sound : BaseIsSound
base_sound targets = record {
  each = base_all targets;
  counted = λ f. record {
    places = [];
    distinct = tt;
    all = λ d x e. none_is (sym (no_name d x) ∙ e);
    only = λ d x h. absurd h;
    many = none_due f;
  };
  inside = λ d x f n e. absurd (none_is (sym (no_name d x) ∙ e));
  root = ap is_dir root_there;
  above = λ n e. sym (ap (λ (n : Node). n.parent) (some_is (sym root_there ∙ e)));
}

-- ---- after an operation, and after many

pub steps_sound : StepsAreSound
steps_sound targets most l op sound is =
    let cs = changes targets l.tree op in
    let shape = shapes targets l.tree op in
    let kids = sons targets most l sound cs shape in
    let root = node_of (get l.tree.nodes root_fid) sound.root in
    let kept = roots targets most l sound cs shape root.0 root.1 root.2 in
    let there = nodes_are l cs root_fid ∙ kept.1 in
    record {
      each = step_keeps targets most l sound.each op is;
      counted = kids.0;
      inside = λ d x f n h k dir. kids.1 d x f n (sym (names_are l cs d x) ∙ h) (sym (nodes_are l cs f) ∙ k) dir;
      root = ap is_dir there ∙ kept.2;
      above = λ n e. sym (ap (λ (n : Node). n.parent) (some_is (sym there ∙ e))) ∙ kept.3 ∙ sound.above root.0 root.1;
    }

sound_from : (targets most : ℕ) (l : Laid) (history : List Item) → IsSound targets most l → AreOps targets history → IsSound targets (most + length history) (laid_from targets l history)
sound_from targets most l [] sound are = let none : most ≡ most + 0 = omega arith in subst (λ n. IsSound targets n l) none sound
sound_from targets most l (i ∷ is) sound are =
    let one : suc most + length is ≡ most + suc (length is) = omega arith in
    subst (λ n. IsSound targets n (laid_from targets (laid_step targets l i.request.op) is)) one
    (sound_from targets (suc most) (laid_step targets l i.request.op) is (steps_sound targets most l i.request.op sound are.0) are.1)

pub histories_sound : HistoriesAreSound
histories_sound targets history are =
    let none : 0 + length history ≡ length history = omega arith in
    subst (λ n. IsSound targets n (laid_of targets history)) none (sound_from targets 0 laid_base history (base_sound targets) are)

-- ---- names and parents

module _ (targets most : ℕ) (l : Laid) (sound : IsSound targets most l) where
  there_of : (f : Fid) (o : Option Node) → get l.tree.nodes f ≡ o → (o ≡ None → ⊥) → (n : Node) × (get l.tree.nodes f ≡ Some n)
  there_of f None e h = absurd (h refl)
  there_of f (Some n) e h = (n, e)

  -- entries stand under directories
  entered : (d : Fid) (x : List ℕ) (f : Fid) (o : Option Node) → get l.tree.nodes d ≡ o → named l.tree d x ≡ Some f → is_dir o ≡ true
  entered d x f None e h = absurd (none_is (sym (no_entry d x (sound_none targets most l sound.each d e).1) ∙ h))
    where
      no_entry : (d : Fid) (x : List ℕ) → names_of l.tree d ≡ empty → named l.tree d x ≡ None
      no_entry d x e = ap (λ (m : Names). get m x) e ∙ get-empty {X = Fid} name_cmp x
  entered d x f (Some n) e h = ⊎_elim (λ t. t)
      (λ (file : n.dir ≡ false).
      let bare = (sound_node targets most l sound.each d n e).bare file in
      absurd (none_is (sym (ap (λ (m : Names). get m x) bare.1 ∙ get-empty {X = Fid} name_cmp x) ∙ h)))
      (which n.dir)

  pub there_named : (d : Fid) (x : List ℕ) (f : Fid) → named l.tree d x ≡ Some f → (n : Node) × (get l.tree.nodes f ≡ Some n)
  there_named d x f e = there_of f (get l.tree.nodes f) refl (λ none. named_there targets most l sound d x f e none)

  pub in_directory : (d : Fid) (x : List ℕ) (f : Fid) → named l.tree d x ≡ Some f → is_dir (get l.tree.nodes d) ≡ true
  in_directory d x f e = entered d x f (get l.tree.nodes d) refl e

  -- the one place of a directory
  one_due : (f : Fid) (n : Node) → get l.tree.nodes f ≡ Some n → n.dir ≡ true → same_fid f root_fid ≡ false → Counted (named l.tree) f 1
  one_due f n e dir other =
      counts_as (named l.tree) (named l.tree) f (names_due f (get l.tree.nodes f)) 1 (λ _ _. refl)
      (ap (λ o. names_due f o) e ∙ due_dir f n dir ∙ ap (λ b. if b then 0 else 1) other) (sound.counted f)

  first_place : (f : Fid) (c : Counted (named l.tree) f 1) → (p : Place) × (named l.tree p.0 p.1 ≡ Some f)
  first_place f c = by_places c.places refl
    where
      by_places : (ps : List Place) → c.places ≡ ps → (p : Place) × (named l.tree p.0 p.1 ≡ Some f)
      by_places [] e = let m = c.many in let none : length c.places ≡ 0 = ap (λ (ps : List Place). length ps) e in absurd (omega (arith, m, none))
      by_places (p ∷ ps) e = (p, c.only p.0 p.1 (subst (λ ps. Holds ps (p.0, p.1)) (sym e) (inl refl)))

  pub once_named : (f : Fid) (n : Node) → get l.tree.nodes f ≡ Some n → n.dir ≡ true → same_fid f root_fid ≡ false
      → (x : List ℕ) × (named l.tree n.parent x ≡ Some f) × ((d : Fid) (y : List ℕ) → named l.tree d y ≡ Some f → (d ≡ n.parent) × (y ≡ x))
  once_named f n e dir other =
      let c = one_due f n e dir other in
      let p = first_place f c in
      let up : n.parent ≡ p.0.0 = sound.inside p.0.0 p.0.1 f n p.1 e dir in
      let at : named l.tree n.parent p.0.1 ≡ Some f = ap (λ d. named l.tree d p.0.1) up ∙ p.1 in
      (p.0.1, at, λ d y h. one_place (named l.tree) d y n.parent p.0.1 f c h at)

  pub parent_fid : (f : Fid) (n : Node) → get l.tree.nodes f ≡ Some n → IsFid n.parent
  parent_fid f n e = ⊎_elim
      (λ (dir : n.dir ≡ true). ⊎_elim
      (λ (s : f ≡ root_fid).
      let up = sound.above n (ap (λ g. get l.tree.nodes g) (sym s) ∙ e) in
      subst IsFid (sym up) (omega arith, omega arith, omega arith))
      (λ s.
      let once = once_named f n e dir s in
      let d = node_of (get l.tree.nodes n.parent) (in_directory n.parent once.0 f once.1) in
      (sound_node targets most l sound.each n.parent d.0 d.1).fid)
      (at_fid f root_fid))
      (λ (file : n.dir ≡ false).
      let none = ((sound_node targets most l sound.each f n e).node.file file).2 in
      subst IsFid (sym none) (omega arith, omega arith, omega arith))
      (which n.dir)

pub names_lead : NamesLeadToNodes
names_lead targets most l d x f sound e = (there_named targets most l sound d x f e, rootless targets most l sound d x f e, in_directory targets most l sound d x f e)

pub parents_name : ParentsNameTheirDirectories
parents_name targets most l f n sound e dir other = once_named targets most l sound f n e dir other

pub parents_are : ParentsAreFids
parents_are targets most l f n sound e = parent_fid targets most l sound f n e

-- ---- directories

client_placed : (targets : ℕ) (f : Fid) → is_client targets f ≡ true → has_place targets f ≡ true
client_placed targets f h = by_root (f.seq == 0x200000007)
  where
    within : in_range targets f ≡ true
    within = grind (arith, nat_tests)

    by_root : (b : Bool) → is_some (if b then Some 0 else (if in_range targets f then Some ((f.seq - base_of 0) / 0x100000) else None)) ≡ true
    by_root true = refl
    by_root false = ap (λ b. is_some (if b then Some ((f.seq - base_of 0) / 0x100000) else None)) within

pub node_has_place : (targets : ℕ) (f : Fid) → IsNodeFid targets f → has_place targets f ≡ true
node_has_place targets f (inl e) = ap (λ g. has_place targets g) e
node_has_place targets f (inr c) = client_placed targets f c

start_low : (targets start : ℕ) (count : ℕ) → targets ≤ 16 → (count ≢ 0 → start < targets) → (count ≡ 0 → start ≡ 0) → start ≤ 15
start_low targets start zero few first plain = let e = plain refl in omega (arith, e)
start_low targets start (suc c) few first plain = let low = first (λ (e : suc c ≡ 0). absurd (omega (arith, e))) in omega (arith, low, few)

pub directories_fit : DirectoriesFit
directories_fit targets most l d few bound sound dir =
    let n = node_of (get l.tree.nodes d) dir in
    let s = sound_node targets most l sound.each d n.0 n.1 in
    let lay = s.layout in
    let count = lay.few in
    let low = lay.migrations in
    record {
      layout = record {
        count = omega (arith, count, few);
        start = start_low targets (layout_at l d).start (layout_at l d).count few lay.first lay.plain;
        plain = lay.plain;
        generation = omega (arith, low, bound);
      };
      placed = node_has_place targets d s.called;
      named = lay.client;
    }
