-- What holds of a player between two lines.
use Rattle.std.specs.Prelude.{OnOk, IfSome}
use Rattle.std.proofs.Common.{◌≡◌, ◌≤◌, ◌+◌, ℕ, Bool, true, false, List, [], ◌∷◌, ◌++◌, Option, Some, None, Result, Ok, Err, cond, length, drop, take, refl, sym, ap, ◌∙◌, subst, arith, length-append}
use Rattle.std.specs.Result.{is_err}
use Rattle.std.specs.FinMap.{empty, get, insert, get-empty, get-insert}
use Rattle.std.specs.Ordering.{nat_cmp}
use Rattle.std.specs.Cmp.{nat_cmp_total}
use Rattle.std.proofs.lemmas.List.{length-map, length-take-le, take-append-drop}
use Rattle.outside.specs.Disk.{Shown}
use Rattle.tree_model.specs.declared.op.Request.{Request}
use Rattle.cluster_mail.specs.Mail.{fresh}
use Rattle.scenario_text.specs.declared.command.Command.{Command}
use Rattle.scenario_text.specs.declared.command.Command.TheVariants as commands
use Rattle.scenario_text.specs.declared.line.Line.{Line}
use Rattle.target_turns.specs.Disks.{Calls}
use Rattle.cluster_core.specs.Cluster.{Cluster, disks_of}
use Rattle.cluster_core.specs.Cored.{Cored, Keeps, all_disks, unmade}
use Rattle.cluster_core.specs.Commands.{sends, request_message}
use Rattle.cluster_core.specs.Founding.{AllFounded, unfounded}
use Rattle.cluster_player.specs.Requests.{Messages, AreBelow}
use Rattle.cluster_player.specs.Played.{Playing, IsMade, IsWhole, cluster_in, spare_in}
use Rattle.cluster_player.specs.Disks.{AreKept}
use Rattle.cluster_player.specs.Commanded.{Obeys, Orders}
use Rattle.cluster_player.proofs.Kept.{touched_kept}
use Rattle.cluster_player.proofs.Growing.{Grows, grows}

weaker : (m n : ℕ) (o : Option ℕ) → m ≤ n → IfSome o (λ k. (1 ≤ k) × (k ≤ m)) → IfSome o (λ k. (1 ≤ k) × (k ≤ n))
weaker m n None more h = tt
weaker m n (Some k) more h = (h.0, (let low = h.1 in omega (arith, low, more)))

pub still_below : (m n : ℕ) (messages : Messages) → m ≤ n → AreBelow m messages → AreBelow n messages
still_below m n messages more below number = weaker m n (get messages number) more (below number)

pub none_below : (messages : Messages) → messages ≡ empty → AreBelow 0 messages
none_below messages none q =
    subst (λ (o : Option ℕ). IfSome o (λ k. (1 ≤ k) × (k ≤ 0))) (sym (ap (λ (m : Messages). get m q) none ∙ get-empty nat_cmp q)) tt

-- the disks of a core, before a call and after it
pub core_kept : (slot : Option Cored) (old new : Cored) (disks : List Shown) → slot ≡ Some old → Keeps old new
    → AreKept (disks_of (cluster_in slot).targets ++ spare_in slot disks) (disks_of new.cluster.targets ++ new.spare)
core_kept slot old new disks is keeps =
    subst (λ (x : Option Cored). AreKept (disks_of (cluster_in x).targets ++ spare_in x disks) (disks_of new.cluster.targets ++ new.spare)) (sym is)
    (subst (λ (ds : List Shown). AreKept (disks_of old.cluster.targets ++ old.spare) (disks_of new.cluster.targets ++ ds)) (sym keeps.spare)
    (touched_kept old.cluster.targets new.cluster.targets old.spare keeps.touched))

made_again : (count : Option ℕ) (old new : Cored) → length new.cluster.targets ≡ length old.cluster.targets → IsMade count (Some old) → IsMade count (Some new)
made_again None old new same made = absurd made
made_again (Some n) old new same made = same ∙ made

-- a call of the core leaves the player whole
pub keeps_whole : (count : Option ℕ) (before messages : Messages) (slot : Option Cored) (old new : Cored) (disks : List Shown) (spent after : Bool) → slot ≡ Some old → Keeps old new
    → IsWhole count before slot disks spent → (after ≡ false → AreBelow (length new.cluster.sent) messages) → IsWhole count messages (Some new) disks after
keeps_whole count before messages slot old new disks spent after is keeps whole below = record {
  made = made_again count old new keeps.touched.count (subst (λ (x : Option Cored). IsMade count x) is whole.made);
  sixteen = (core_kept slot old new disks is keeps).count ∙ whole.sixteen;
  sent = below;
}

-- a call that went well
pub went_well : {T E X : Type 0} (result : Result T E) (failed : Bool) → failed ≡ is_err result → failed ≡ false → OnOk result X → X
went_well (Ok x) failed e is h = h
went_well (Err x) failed e is h = absurd (no (sym e ∙ is))
  where
    no : true ≡ false → ⊥
    no p = cc

below_after : (slot : Option Cored) (old : Cored) (new : Cluster) (messages : Messages) → slot ≡ Some old → Grows old.cluster new → AreBelow (length (cluster_in slot).sent) messages → AreBelow (length new.sent) messages
unfolding Grows
below_after slot old new messages is more below =
    still_below (length old.cluster.sent) (length new.sent) messages more (subst (λ (x : Option Cored). AreBelow (length (cluster_in x).sent) messages) is below)

-- what was noted is below all messages after an order
pub ordered_below : (calls : Calls) (slot : Option Cored) (old : Cored) (command : Command) (new : Cluster) (messages : Messages) → slot ≡ Some old
    → (ls : List Line) → Orders calls old.cluster command new ls → AreBelow (length (cluster_in slot).sent) messages → AreBelow (length new.sent) messages
ordered_below calls slot old command new messages is ls o below = below_after slot old new messages is (grows calls old.cluster command new ls o) below

-- ---- a request is sent

noted : (b : Bool) (n : ℕ) (o : Option ℕ) → IfSome o (λ k. (1 ≤ k) × (k ≤ n)) → IfSome (cond b (Some (n + 1)) o) (λ k. (1 ≤ k) × (k ≤ n + 1))
noted true n o h = (omega arith, omega arith)
noted false n o h = weaker n (n + 1) o (omega arith) h

noted_below : (n number : ℕ) (messages : Messages) → AreBelow n messages → AreBelow (n + 1) (insert messages number (n + 1))
noted_below n number messages below q =
    subst (λ (o : Option ℕ). IfSome o (λ k. (1 ≤ k) × (k ≤ n + 1))) (sym (get-insert nat_cmp_total messages number (n + 1) q)) (noted _ n (get messages q) (below q))

pub sent_below : (slot : Option Cored) (old : Cored) (home : ℕ) (r : Request) (new : Cluster) (before messages : Messages) → slot ≡ Some old → new ≡ sends old.cluster home r
    → messages ≡ insert before r.number (length old.cluster.sent + 1) → AreBelow (length (cluster_in slot).sent) before → AreBelow (length new.sent) messages
sent_below slot old home r new before messages is sends noted below =
    let here : AreBelow (length old.cluster.sent) before = subst (λ (x : Option Cored). AreBelow (length (cluster_in x).sent) before) is below in
    let more : length new.sent ≡ length old.cluster.sent + 1 = ap (λ (c : Cluster). length c.sent) sends ∙ length-append old.cluster.sent (fresh (request_message home r) ∷ []) in
    subst (λ (m : Messages). AreBelow (length new.sent) m) (sym noted)
    (subst (λ (n : ℕ). AreBelow n (insert before r.number (length old.cluster.sent + 1))) (sym more) (noted_below (length old.cluster.sent) r.number before here))

-- ---- the cluster is made

unfounded_disks : (count i : ℕ) (ds : List Shown) → disks_of (unfounded count i ds) ≡ ds
unfounded_disks count i [] = refl
unfounded_disks count i (d ∷ ds) = ap (λ (l : List Shown). d ∷ l) (unfounded_disks count (i + 1) ds)

all_unmade : (n : ℕ) (ds : List Shown) → all_disks (unmade n ds) ≡ ds
all_unmade n ds = ap (λ (l : List Shown). l ++ drop n ds) (unfounded_disks n 0 (take n ds)) ∙ take-append-drop n ds

pub founded_kept : (n : ℕ) (core new : Cored) (ds : List Shown) → core ≡ unmade n ds → Keeps core new → AreKept ds (all_disks new)
founded_kept n core new ds is keeps =
    subst (λ (x : List Shown). AreKept x (all_disks new)) (ap all_disks is ∙ all_unmade n ds) (core_kept (Some core) core new [] refl keeps)

pub not_made : (count : Option ℕ) (slot : Option Cored) → count ≡ None → IsMade count slot → slot ≡ None
not_made None None e m = refl
not_made None (Some c) e m = absurd m
not_made (Some n) slot e m = absurd (no e)
  where
    no : Some n ≡ None → ⊥
    no p = cc

pub founded_whole : (count : Option ℕ) (messages : Messages) (slot : Option Cored) (ds rest : List Shown) (spent after : Bool) (n : ℕ) (core new : Cored)
    → IsWhole count messages slot ds spent → spent ≡ false → slot ≡ None → n ≤ 16 → core ≡ unmade n ds → Keeps core new → IsWhole (Some n) messages (Some new) rest after
founded_whole count messages slot ds rest spent after n core new whole going none low is keeps =
    let sixteen : length ds ≡ 16 = ap (λ (x : Option Cored). length (disks_of (cluster_in x).targets ++ spare_in x ds)) (sym none) ∙ whole.sixteen in
    record {
      made = keeps.touched.count ∙ ap (λ (c : Cored). length c.cluster.targets) is ∙ sym (length-map (unfounded n 0 (take n ds)) (λ t. t.disk))
          ∙ ap (λ (l : List Shown). length l) (unfounded_disks n 0 (take n ds)) ∙ length-take-le n ds (omega (arith, low, sixteen));
      sixteen = (founded_kept n core new ds is keeps).count ∙ sixteen;
      sent = λ _. still_below 0 (length new.cluster.sent) messages (omega arith) (subst (λ (x : Option Cored). AreBelow (length (cluster_in x).sent) messages) none (whole.sent going));
    }

pub founded_does : {T E : Type 0} (calls : Calls) (result : Result T E) (after : Bool) (n : ℕ) (core new : Cored) (v p : Playing) (before said : List Line)
    → OnOk result ((ls : List Line) × AllFounded core.cluster new.cluster ls × (said ≡ before ++ ls)) → after ≡ is_err result → core ≡ unmade n v.spare → Keeps core new → v.spent ≡ false → v ≡ p
    → OnOk result ((ls : List Line) × Obeys calls p (commands.Cluster n) (record v { count = Some n; cluster = new.cluster; spare = new.spare; spent = after }) ls × (said ≡ before ++ ls))
founded_does calls (Ok x) after n core new v p before said does failed is keeps going same =
    let spare : new.spare ≡ drop n v.spare = keeps.spare ∙ ap (λ (c : Cored). c.spare) is in
    let spent : after ≡ v.spent = failed ∙ sym going in
    let now : Playing = record v { count = Some n; cluster = new.cluster; spare = new.spare; spent = after } in
    let like : now ≡ record v { count = Some n; cluster = new.cluster; spare = drop n v.spare } =
    ap (λ (s : List Shown). record v { count = Some n; cluster = new.cluster; spare = s; spent = after }) spare
    ∙ ap (λ (b : Bool). record v { count = Some n; cluster = new.cluster; spare = drop n v.spare; spent = b }) spent in
    let founds = subst (λ (c : Cored). AllFounded c.cluster new.cluster does.0) is does.1 in
    (does.0, subst (λ (x : Playing). Obeys calls x (commands.Cluster n) now does.0) same (new.cluster, founds, like), does.2)
founded_does calls (Err x) after n core new v p before said does failed is keeps going same = tt
