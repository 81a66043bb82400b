-- A master is told that its batches are stable somewhere: its mark may rise, and then its own records are cancelled.
use Rattle.std.proofs.Common.{◌≡◌, ◌≢◌, ◌≤◌, ◌<◌, ◌+◌, ◌-◌, ◌==◌, ◌&&◌, ◌||◌, ◌⊎◌, inl, inr, ⊎_elim, max, zero, suc, length, drop, ℕ, Bool, true, false, true≢false, if◌then◌else◌, List, [], ◌∷◌, ◌++◌, get_or, set, ltb, leb, refl, sym, ap, ◌∙◌, subst, arith}
use Rattle.std.proofs.lemmas.Bool.{ltb-true, ltb-false, leb-true, leb-false}
use Rattle.std.proofs.lemmas.Bool.Decides.{eqb_tells}
use Rattle.std.proofs.lemmas.List.{length-set}
use Rattle.out_update.specs.declared.update.Update.{Update}
use Rattle.fid_space.specs.Targets.{is_member}
use Rattle.update_record.specs.Spelling.{FitsParts, FitsRecord, has_target, targets_from}
use Rattle.target_state.specs.State.{TargetState}
use Rattle.target_state.specs.Marking.{cancelled, marked}
use Rattle.target_turns.specs.Target.{Target, quiet, serves}
use Rattle.target_turns.specs.Marks.{note}
use Rattle.update_coordinator.specs.Coordinating.{Coordinating}
use Rattle.update_coordinator.specs.Marks.{is_everywhere, is_stable, mark_from, noted}
use Rattle.update_coordinator.specs.Rules.{all_targets}
use Rattle.update_protocol.specs.Events.{Cancel_own, Event, May, Raise, Run, Stable_comes, happens}
use Rattle.update_protocol.specs.Lists.{IsIn, put, put_two}
use Rattle.update_protocol.specs.World.{Accepted, Each, Stable, World, at, is_on, master}
use Rattle.update_protocol.proofs.Basics.{by_bool}
use Rattle.update_protocol.proofs.Invariant.{Invariant}
use Rattle.update_protocol.proofs.Members.{member_of_parts}
use Rattle.update_protocol.proofs.Setting.{Setting}
use Rattle.turn_laws.specs.Values.{Cluster, Slice, after_turn, record_of, slice, target_at}
use Rattle.turn_laws.specs.Agrees.{Agrees, Keeps, KeepsHome, KeepsNode}
use Rattle.turn_laws.specs.Runs.{IsRun, said}
use Rattle.turn_laws.proofs.Points.{eqb_is, eqb_self, settles}
use Rattle.turn_laws.proofs.Executes.{ended_put}
use Rattle.turn_laws.proofs.Sends.{run_append}
use Rattle.turn_laws.proofs.Then.{said_append}
use Rattle.turn_laws.proofs.Cancelled.{cancels_at, cancels_known, gone_with, gones, gones_here, gones_other, node_cancels}

-- ---- sets and tables

abbrev range : ℕ → ℕ → List ℕ
range zero k = []
range (suc n) k = k ∷ range n (k + 1)

in_range : (n k u : ℕ) → k ≤ u → u < k + n → IsIn u (range n k)
in_range zero k u low high = absurd (omega (arith, low, high))
in_range (suc n) k u low high = elim (eqb_tells u k) [
  | inl q ↦ inl q.1
  | inr q ↦ let ne = q.1 in inr (in_range n (k + 1) u (above (λ e. ne e)) (omega (arith, high)))
]
  where
    above : (u ≡ k → ⊥) → k + 1 ≤ u
    above ne = ⊎_elim (λ (h : ltb k u ≡ true). let l = ltb-true k u h in omega (arith, l)) (λ (h : ltb k u ≡ false). absurd (ne (let l = ltb-false k u h in omega (arith, l, low)))) (by_bool (ltb k u))

in_all : (u : ℕ) → u < 16 → IsIn u all_targets
in_all u low = in_range 16 0 u (omega arith) (omega (arith, low))

everywhere : (ts stable : List ℕ) (b on u : ℕ) → is_everywhere ts stable b on ≡ true → IsIn u ts → is_member on u ≡ true → b ≤ get_or stable u 0
everywhere [] stable b on u e h m = absurd h
everywhere (t ∷ ts) stable b on u e h m = by_test (is_member on t && ltb (get_or stable t 0) b) refl e h (λ e h. everywhere ts stable b on u e h m)
  where
    by_test : (x : Bool) → is_member on t && ltb (get_or stable t 0) b ≡ x → (if x then false else is_everywhere ts stable b on) ≡ true → (u ≡ t) ⊎ IsIn u ts
        → (is_everywhere ts stable b on ≡ true → IsIn u ts → b ≤ get_or stable u 0) → b ≤ get_or stable u 0
    by_test true q e h rest = absurd (true≢false (sym e))
    by_test false q e (inr h) rest = rest e h
    by_test false q e (inl z) rest = (let l = ltb-false (get_or stable u 0) b (subst (λ t. ltb (get_or stable t 0) b ≡ false) (sym z) (sym (ap (λ x. x && ltb (get_or stable t 0) b) (ap (is_member on) (sym z) ∙ m)) ∙ q)) in omega (arith, l))

stable_means : (stable : List ℕ) (b on u : ℕ) → is_stable stable b on ≡ true → u < 16 → is_member on u ≡ true → b ≤ get_or stable u 0
unfolding is_stable
stable_means stable b on u e low m = everywhere all_targets stable b on u e (in_all u low) m

-- what a mark that rises goes over
pub record Rises (stable : List ℕ) (mark : ℕ) (ons : List ℕ) (next : ℕ) : Type 0 where
  pub least : mark ≤ next
  pub most : next ≤ mark + length ons
  pub each : (j : ℕ) → j < length ons → mark + j < next → is_stable stable (mark + j + 1) (get_or ons j 0) ≡ true

mark_rises : (stable : List ℕ) (mark : ℕ) (ons : List ℕ) → Rises stable mark ons (mark_from stable mark ons)
mark_rises stable mark [] = record { least = omega arith; most = omega arith; each = λ j l h. absurd (omega (arith, l)) }
mark_rises stable mark (on ∷ ons) = by_test (is_stable stable (mark + 1) on) refl (mark_rises stable (mark + 1) ons)
  where
    each_so : Rises stable (mark + 1) ons (mark_from stable (mark + 1) ons) → is_stable stable (mark + 1) on ≡ true → (j : ℕ) → j < suc (length ons) → mark + j < mark_from stable (mark + 1) ons → is_stable stable (mark + j + 1) (get_or (on ∷ ons) j 0) ≡ true
    each_so ih e zero l h = (let q : mark + 1 ≡ mark + zero + 1 = omega arith in subst (λ n. is_stable stable n on ≡ true) q e)
    each_so ih e (suc j) l h = (let q : mark + 1 + j + 1 ≡ mark + suc j + 1 = omega arith in subst (λ n. is_stable stable n (get_or ons j 0) ≡ true) q (ih.each j (omega (arith, l)) (omega (arith, h))))

    by_test : (b : Bool) → is_stable stable (mark + 1) on ≡ b → Rises stable (mark + 1) ons (mark_from stable (mark + 1) ons) → Rises stable mark (on ∷ ons) (if b then mark_from stable (mark + 1) ons else mark)
    by_test true e ih = record { least = (let l = ih.least in omega (arith, l)); most = (let m = ih.most in omega (arith, m)); each = each_so ih e }
    by_test false e ih = record { least = omega arith; most = omega arith; each = λ j l h. absurd (omega (arith, h)) }

get_drop : (k : ℕ) (xs : List ℕ) (j : ℕ) → get_or (drop k xs) j 0 ≡ get_or xs (k + j) 0
get_drop zero xs j = (let q : j ≡ zero + j = omega arith in ap (λ n. get_or xs n 0) q)
get_drop (suc k) [] j = refl
get_drop (suc k) (x ∷ xs) j = (let q : suc (k + j) ≡ suc k + j = omega arith in get_drop k xs j ∙ ap (λ n. get_or (x ∷ xs) n 0) q)

length_drop : (k : ℕ) (xs : List ℕ) → k ≤ length xs → length (drop k xs) ≡ length xs - k
length_drop zero xs l = omega arith
length_drop (suc k) [] l = absurd (omega (arith, l))
length_drop (suc k) (x ∷ xs) l = (let h = length_drop k xs (omega (arith, l)) in omega (arith, h))

part_low : (batch least : ℕ) (parts : List (ℕ × List Update)) (u : ℕ) → FitsParts batch least parts → has_target u parts ≡ true → u < 16
unfolding FitsParts
part_low batch least [] u fits h = absurd (true≢false (sym h))
part_low batch least (part ∷ parts) u fits h = by_test (part.0 == u) refl h fits.0.target (part_low batch (part.0 + 1) parts u fits.1)
  where
    by_test : (b : Bool) → (part.0 == u) ≡ b → b || has_target u parts ≡ true → part.0 ≤ 15 → (has_target u parts ≡ true → u < 16) → u < 16
    by_test true e h l rest = (let q = eqb_is part.0 u e in omega (arith, q, l))
    by_test false e h l rest = rest h

-- ---- the events

unfoldable pub own_cancels : ℕ → List ℕ → List Event
own_cancels m [] = []
own_cancels m (n ∷ ns) = Cancel_own m n ∷ own_cancels m ns

run_cancels : (targets : ℕ) (m : ℕ) (ns : List ℕ) (w : World) → ((n : ℕ) → IsIn n ns → (n < length w.since) × (master (at w.since n) ≡ m) × ((at w.since n).batch ≤ w.mark m)) → Run targets w (own_cancels m ns) (record w { gone = gones m ns w.gone })
unfolding own_cancels
run_cancels targets m [] w may = refl
run_cancels targets m (n ∷ ns) w may = (may n (inl refl), run_cancels targets m ns (happens w (Cancel_own m n)) (λ j h. may j (inr h)))

said_cancels : (m : ℕ) (ns : List ℕ) (w : World) → said w (own_cancels m ns) ≡ []
unfolding own_cancels
said_cancels m [] w = refl
said_cancels m (n ∷ ns) w = said_cancels m ns (happens w (Cancel_own m n))

-- ---- the target

-- the world after a master is told
abbrev pub told_world : World → ℕ → ℕ → ℕ → World
told_world w to from batch = record w { stable = put_two w.stable to from (max (w.stable to from) batch) }

-- Events that tell it, and say nothing.
pub record IsTold (targets : ℕ) (w : World) (to from batch : ℕ) : Type 0 where
  pub events : List Event
  pub run : Run targets w events (told_world w to from batch)
  pub says : said w events ≡ []

-- by a message
pub told_by : (targets : ℕ) (w : World) (to from batch : ℕ) → IsIn (Stable from to batch) w.pool → IsTold targets w to from batch
told_by targets w to from batch came = record { events = Stable_comes from to batch ∷ []; run = (came, refl); says = refl }

max_zero : (x : ℕ) → max x 0 ≡ x
max_zero x = omega arith

-- of no batch nothing is told
pub told_none : (targets : ℕ) (w : World) (to from : ℕ) → IsTold targets w to from 0
told_none targets w to from = record { events = []; run = (λ j. record w { stable = λ s u. same s u j }); says = refl }
  where
    same : (s u : ℕ) → put_two w.stable to from (max (w.stable to from) 0) s u ≡ w.stable s u
    same s u = elim (eqb_tells s to) [
      | inr q ↦ ap (λ b. (if b then put (w.stable to) from (max (w.stable to from) 0) else w.stable s) u) q.0
      | inl q ↦ ap (λ b. (if b then put (w.stable to) from (max (w.stable to from) 0) else w.stable s) u) q.0 ∙ inner u ∙ ap (λ t. w.stable t u) (sym q.1)
    ]
      where
        inner : (u : ℕ) → put (w.stable to) from (max (w.stable to from) 0) u ≡ w.stable to u
        inner u = elim (eqb_tells u from) [
          | inr q ↦ ap (λ b. if b then max (w.stable to from) 0 else w.stable to u) q.0
          | inl q ↦ ap (λ b. if b then max (w.stable to from) 0 else w.stable to u) q.0 ∙ max_zero (w.stable to from) ∙ ap (λ t. w.stable to t) (sym q.1)
        ]

module _ (σ : Setting) (c : Cluster) (w : World) (i : Invariant σ.targets w) (g : Agrees σ.targets c w) (to : ℕ) (inside : to < length c.targets) (up : serves (target_at c.targets to) ≡ true)
    (from batch : ℕ) (low : from < 16) (first : IsTold σ.targets w to from batch) where
  abbrev pub was : Target
  was = target_at c.targets to

  abbrev pub h : Coordinating
  h = was.home

  keeps : Keeps σ.targets g.epoch g.sent (g.start to) w.base w.since to (slice w to) was
  keeps = g.keeps to up

  -- the table of the home after it, and the mark that it gives
  abbrev pub table : List ℕ
  table = set h.stable from (max (get_or h.stable from 0) batch)

  abbrev pub next : ℕ
  next = mark_from table h.mark (drop h.mark h.batches)

  abbrev pub told : ℕ → ℕ
  told = put (w.stable to) from (max (w.stable to from) batch)

  rises : Rises table h.mark (drop h.mark h.batches) next
  rises = mark_rises table h.mark (drop h.mark h.batches)

  table_is : (u : ℕ) → u < 16 → get_or table u 0 ≡ told u
  table_is u l = ended_put h.stable (w.stable to) from batch u keeps.home.wide keeps.home.stable l

  told_more : (u : ℕ) → w.stable to u ≤ told u
  told_more u = elim (eqb_tells u from) [
    | inl q ↦ subst (λ b. w.stable to u ≤ (if b then max (w.stable to from) batch else w.stable to u)) (sym q.0) (subst (λ v. w.stable to v ≤ max (w.stable to from) batch) (sym q.1) (omega arith))
    | inr q ↦ subst (λ b. w.stable to u ≤ (if b then max (w.stable to from) batch else w.stable to u)) (sym q.0) (omega arith)
  ]

  least : w.mark to ≤ next
  least = let l = rises.least in let m = keeps.home.mark in omega (arith, l, m)

  most : next ≤ w.batches to
  most =
      let m = (i.marking.mark_most to).1 in
      let k = keeps.home.mark in
      let n = keeps.home.batches in
      let d = length_drop h.mark h.batches (omega (arith, m, k, n)) in
      let r = rises.most in
      omega (arith, m, k, n, d, r)

  member : (x : Accepted) (u : ℕ) → is_on x u ≡ true → is_member (targets_from 0 x.parts) u ≡ true
  member x u on = member_of_parts x.parts 0 u (inr on)

  -- each own item up to the mark is stable on all of its targets, as it was told
  under : Each (λ n x. master x ≡ to → x.batch ≤ next → (u : ℕ) → is_on x u ≡ true → x.batch ≤ told u) w.since
  under n l is le u on = ⊎_elim
      (λ (e : leb (at w.since n).batch (w.mark to) ≡ true). let a = keeps.home.under n l is (leb-true (at w.since n).batch (w.mark to) e) u on in let b = told_more u in omega (arith, a, b))
      (λ (e : leb (at w.since n).batch (w.mark to) ≡ false). above (leb-false (at w.since n).batch (w.mark to) e))
      (by_bool (leb (at w.since n).batch (w.mark to)))
    where
      u_low : u < 16
      u_low = part_low (record_of g.epoch (at w.since n)).id.batch 0 (at w.since n).parts u (g.items n l).fits.each on

      above : w.mark to < (at w.since n).batch → (at w.since n).batch ≤ told u
      above lt =
          let k = keeps.home.mark in
          let m = (i.marking.mark_most to).1 in
          let z = keeps.home.batches in
          let d = length_drop h.mark h.batches (omega (arith, m, k, z)) in
          let r = rises.most in
          let place : h.mark + ((at w.since n).batch - h.mark - 1) + 1 ≡ (at w.since n).batch = omega (arith, lt, k) in
          let before : h.mark + ((at w.since n).batch - h.mark - 1) ≡ (at w.since n).batch - 1 = omega (arith, lt, k) in
          let got : get_or (drop h.mark h.batches) ((at w.since n).batch - h.mark - 1) 0 ≡ targets_from 0 (at w.since n).parts = get_drop h.mark h.batches ((at w.since n).batch - h.mark - 1) ∙ ap (λ j. get_or h.batches j 0) before ∙ keeps.home.sets n l is in
          let s = rises.each ((at w.since n).batch - h.mark - 1) (omega (arith, lt, k, le, d, r, m, z)) (omega (arith, lt, k, le)) in
          let t = subst (λ (y : ℕ × ℕ). is_stable table y.0 y.1 ≡ true) (λ j. (place j, got j)) s in
          let b = stable_means table (at w.since n).batch (targets_from 0 (at w.since n).parts) u t u_low (member (at w.since n) u on) in
          let e = table_is u u_low in
          omega (arith, b, e)

  -- ---- what becomes of the node, by whether the mark rose

  abbrev pub raised : Bool
  raised = ltb was.node.mark next

  abbrev pub cs : List ℕ
  cs = if raised then cancels_at w.since (slice w to) to next else []

  abbrev node_by : Bool → TargetState
  node_by b = if b then marked was.node next else was.node

  abbrev pub after : World
  after = record w { stable = put_two w.stable to from (max (w.stable to from) batch); mark = put w.mark to next; gone = gones to cs w.gone }

  abbrev new : Slice
  new = record (slice w to) { stable = told; mark = next; gone = gone_with cs (w.gone to) }

  here_notes : slice after to ≡ new
  here_notes = λ j. record (slice w to) {
    stable = ap (λ b. if b then told else w.stable to) (eqb_self to) j;
    mark = ap (λ b. if b then next else w.mark to) (eqb_self to) j;
    gone = gones_here to cs w.gone j;
  }

  others_note : (s : ℕ) → s ≢ to → slice after s ≡ slice w s
  others_note s ne = elim (eqb_tells s to) [
    | inl q ↦ absurd (ne q.1)
    | inr q ↦ λ j. record (slice w s) {
      stable = ap (λ b. if b then told else w.stable s) q.0 j;
      mark = ap (λ b. if b then next else w.mark s) q.0 j;
      gone = gones_other to cs w.gone s q.0 j;
    }
  ]

  fits_done : (n : ℕ) → IsIn n (w.done to) → FitsRecord (record_of g.epoch (at w.since n))
  fits_done n m = (g.items n (i.executed.known_done to n m).0).fits

  -- a mark that rose
  with_next : KeepsNode σ.targets g.epoch g.sent (g.start to) w.base w.since to (record (slice w to) { mark = next }) (record was.node { mark = next })
  with_next = let k = keeps.node in record { cluster = k.cluster; index = k.index; epoch = k.epoch; transno = k.transno; clock = k.clock; mark = refl; seats = k.seats; objects = k.objects; log = k.log; waiting = k.waiting; writers = k.writers; holder = k.holder; genuine = k.genuine; wide = k.wide; ended = k.ended }

  -- nothing else of the node speaks of what was told
  told_node : (s : Slice) (n : TargetState) → KeepsNode σ.targets g.epoch g.sent (g.start to) w.base w.since to s n → KeepsNode σ.targets g.epoch g.sent (g.start to) w.base w.since to (record s { stable = told }) n
  told_node s n k = record { cluster = k.cluster; index = k.index; epoch = k.epoch; transno = k.transno; clock = k.clock; mark = k.mark; seats = k.seats; objects = k.objects; log = k.log; waiting = k.waiting; writers = k.writers; holder = k.holder; genuine = k.genuine; wide = k.wide; ended = k.ended }

  most_is : max was.node.mark next ≡ next
  most_is = let l = least in let k = keeps.node.mark in omega (arith, l, k)

  node_notes : (b : Bool) → raised ≡ b → KeepsNode σ.targets g.epoch g.sent (g.start to) w.base w.since to (record (slice w to) { stable = told; mark = next; gone = gone_with (if b then cancels_at w.since (slice w to) to next else []) (w.gone to) }) (node_by b)
  node_notes true e = told_node (record (slice w to) { mark = next; gone = gone_with (cancels_at w.since (slice w to) to next) (w.gone to) }) (node_by true)
      (subst (λ (y : ℕ × ℕ). KeepsNode σ.targets g.epoch g.sent (g.start to) w.base w.since to (record (slice w to) { mark = next; gone = gone_with (cancels_at w.since (slice w to) to next) (w.gone to) }) (cancelled (record was.node { mark = y.0 }) y.1 y.0))
      (λ j. (sym most_is j, sym keeps.node.index j))
      (node_cancels σ.targets g.epoch g.sent (g.start to) w.base w.since to (record (slice w to) { mark = next }) (record was.node { mark = next }) to next fits_done with_next))
  node_notes false e = told_node (record (slice w to) { mark = next }) was.node
      (subst (λ n. KeepsNode σ.targets g.epoch g.sent (g.start to) w.base w.since to (record (slice w to) { mark = n }) was.node) same keeps.node)
    where
      same : w.mark to ≡ next
      same = let l = least in let k = keeps.node.mark in let m = ltb-false was.node.mark next e in omega (arith, l, k, m)

  home_notes : KeepsHome σ.targets g.epoch g.sent w.since to new (noted h from batch)
  home_notes = let k = keeps.home in record {
    cluster = k.cluster;
    at_home = k.at_home;
    epoch = k.epoch;
    attempts = k.attempts;
    batches = k.batches;
    sets = k.sets;
    wide = length-set h.stable from (max (get_or h.stable from 0) batch) ∙ k.wide;
    stable = table_is;
    mark = refl;
    under = under;
    idle = k.idle;
    going = k.going;
  }

  cancels_may : (b : Bool) → (n : ℕ) → IsIn n (if b then cancels_at w.since (slice w to) to next else []) → (n < length w.since) × (master (at w.since n) ≡ to) × ((at w.since n).batch ≤ put w.mark to next to)
  cancels_may false n m = absurd m
  cancels_may true n m = let k = cancels_known w.since (slice w to) to next n m in
      ((i.executed.known_done to n k.0).0, k.1, subst (λ b. (at w.since n).batch ≤ (if b then next else w.mark to)) (sym (eqb_self to)) k.2)

  may_raise : May σ.targets (told_world w to from batch) (Raise to next)
  may_raise = (least, most, λ n l is le u on. subst (λ b. (at w.since n).batch ≤ (if b then told else w.stable to) u) (sym (eqb_self to)) (under n l is le u on))

  abbrev pub events : List Event
  events = first.events ++ (Raise to next ∷ own_cancels to cs)

  pub notes_run : Run σ.targets w events after
  notes_run = run_append σ.targets first.events (Raise to next ∷ own_cancels to cs) w (told_world w to from batch) after first.run (may_raise, run_cancels σ.targets to cs (happens (told_world w to from batch) (Raise to next)) (cancels_may raised))

  pub notes_say : [] ≡ said w events
  notes_say = sym (said_append σ.targets first.events (Raise to next ∷ own_cancels to cs) w (told_world w to from batch) first.run ∙ ap (λ l. l ++ said (told_world w to from batch) (Raise to next ∷ own_cancels to cs)) first.says ∙ said_cancels to cs (happens (told_world w to from batch) (Raise to next)))

  pub notes_agree : Agrees σ.targets (after_turn c to (quiet (note was from batch))) after
  notes_agree = settles σ.targets c w after g g.sent g.unique g.asked to inside (quiet (note was from batch)) refl g.items (g.ups to inside) (λ j ne. refl)
      (λ j ne u. subst (λ s. Keeps σ.targets g.epoch g.sent (g.start j) w.base w.since j s (target_at c.targets j)) (sym (others_note j ne)) (g.keeps j u))
      (λ u. subst (λ s. Keeps σ.targets g.epoch g.sent (g.start to) w.base w.since to s (note was from batch)) (sym here_notes) (record {
        cluster = keeps.cluster;
        index = keeps.index;
        node = node_notes raised refl;
        home = home_notes;
      }))
      (λ x m. m)
      (λ x m epoch. absurd m)

  pub notes_so : IsRun σ.targets w [] (after_turn c to (quiet (note was from batch)))
  notes_so = record { events = events; world = after; run = notes_run; lines = notes_say; agrees = notes_agree }
