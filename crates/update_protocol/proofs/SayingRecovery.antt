-- What a recovery says.
use Rattle.std.proofs.Common.{◌≡◌, ◌<◌, ◌⊎◌, inl, inr, ⊎_elim, ℕ, zero, suc, Bool, true, false, true≢false, if◌then◌else◌, ◌||◌, ◌++◌, ◌+◌, List, [], ◌∷◌, length, refl, sym, ap, ◌∙◌, subst, arith, zero-add}
use Rattle.std.specs.Prelude.{not, ◌&&◌}
use Rattle.fid_space.specs.Targets.{is_member}
use Rattle.out_update.specs.declared.update.Update.{Update}
use Rattle.tree_model.specs.History.{IsLegal}
use Rattle.tree_model.specs.Tree.{base as base_tree}
use Rattle.tree_model.specs.Striped.{on as on_set}
use Rattle.std.proofs.lemmas.Bool.Decides.{eqb_tells}
use Rattle.tree_shares.specs.Parts.{parts, parts_from}
use Rattle.tree_shares.specs.Updates.{placed_updates, updates_at}
use Rattle.update_protocol.specs.Epochs.{Reached}
use Rattle.update_protocol.specs.Facts.{laid}
use Rattle.update_record.specs.Spelling.{has_target, targets_from}
use Rattle.update_protocol.specs.Lists.{IsIn, Rising, put}
use Rattle.update_protocol.specs.Machine.{Entry, Line, Opened, Redone, Says, State, Stopped, Up, names, number, some_named, stands_after, stays_smooth, those}
use Rattle.update_protocol.specs.Parts.{entries_of}
use Rattle.update_protocol.specs.Recovery.{Gathered, Redo}
use Rattle.update_protocol.specs.Rows.{has, live, pending}
use Rattle.update_protocol.specs.States.{Spoken, entries_at, entry_at, gathered_state, number_at, numbers_at, state_of, state_with}
use Rattle.update_protocol.specs.World.{Accepted, Each, Follows, History, World, at, entry, is_on, request_of}
use Rattle.update_protocol.proofs.Basics.{by_bool}
use Rattle.update_protocol.proofs.Fitting.{as_places, left_or, put_self, right_or, same_tests, up_says}
use Rattle.update_protocol.proofs.Naming.{Apart, all_named_too, apart, has_join, has_number, lifted, many_numbers}
use Rattle.update_protocol.proofs.Redone.{mem_back, mem_front, redo_exact, redone_is}
use Rattle.update_protocol.proofs.Saying.{SetsOfParts, inv, parts_same}
use Rattle.update_protocol.proofs.SayingUp.{new_names, nothing_in, old_names}
use Rattle.update_protocol.proofs.Setting.{Setting}
use Rattle.update_protocol.proofs.Shares.{places_from, placed}
use Rattle.update_protocol.proofs.Showing.{gone_named, has_mem, has_not, length_join, mem_has, not_has, pends_behind, redo_new, redo_old, rest_apart}

-- ---- who has named an entry

pub some_of : (disk : ℕ → List ℕ) (n : ℕ) (x : Accepted) (u : ℕ) → some_named u (entry_at disk n x) ≡ true → (t : ℕ) × (has n (disk t) ≡ true)
some_of disk n x zero e = absurd (true≢false (sym e))
some_of disk n x (suc u) e = ⊎_elim (λ (here : has n (disk u) ≡ true). (u, here))
    (λ (gone : has n (disk u) ≡ false). some_of disk n x u (sym (ap (λ b. b || some_named u (entry_at disk n x)) gone) ∙ e)) (by_bool (has n (disk u)))

last_or : (t u : ℕ) → t < suc u → (t ≡ u) ⊎ (t < u)
last_or t u l = grind arith

pub of_some : (disk : ℕ → List ℕ) (n : ℕ) (x : Accepted) (u t : ℕ) → t < u → has n (disk t) ≡ true → some_named u (entry_at disk n x) ≡ true
of_some disk n x zero t l e = absurd (omega (arith, l))
of_some disk n x (suc u) t l e = ⊎_elim
    (λ (same : t ≡ u). left_or (has n (disk u)) (some_named u (entry_at disk n x)) (subst (λ s. has n (disk s) ≡ true) same e))
    (λ lt. right_or (has n (disk u)) (some_named u (entry_at disk n x)) (of_some disk n x u t lt e)) (last_or t u l)

-- ---- the targets of parts

parts_below : (n target set : ℕ) (ps : List (ℕ × Update)) (t : ℕ) → has_target t (parts_from n target set ps) ≡ true → t < target + n
parts_below zero target set ps t e = absurd (true≢false (sym e))
parts_below (suc n) target set ps t e =
    let rest : has_target t (parts_from n (target + 1) set ps) ≡ true → t < target + suc n = λ f. (let l = parts_below n (target + 1) set ps t f in omega (arith, l)) in
    ⊎_elim
    (λ (here : is_member set target ≡ true). elim (eqb_tells target t) [
      | inl w ↦ let same = w.1 in omega (arith, same)
      | inr w ↦ rest (sym (ap (λ b. b || has_target t (parts_from n (target + 1) set ps)) w.0)
          ∙ subst (λ b. has_target t (if b then (target, updates_at target ps) ∷ parts_from n (target + 1) set ps else parts_from n (target + 1) set ps) ≡ true) here e)
    ])
    (λ (gone : is_member set target ≡ false). rest (subst (λ b. has_target t (if b then (target, updates_at target ps) ∷ parts_from n (target + 1) set ps else parts_from n (target + 1) set ps) ≡ true) gone e))
    (by_bool (is_member set target))

-- ---- three tests

three : (a b c : Bool) → (a && b && c) ≡ true → (a ≡ true) × (b ≡ true) × (c ≡ true)
three true true c e = (refl, refl, e)
three true false c e = absurd (true≢false (sym e))
three false b c e = absurd (true≢false (sym e))

all_three : (a b c : Bool) → a ≡ true → b ≡ true → c ≡ true → (a && b && c) ≡ true
all_three a b c p q r = λ i. p i && q i && r i

not_true : (b : Bool) → not b ≡ true → b ≡ false
not_true true e = absurd (true≢false (sym e))
not_true false e = refl

-- ---- numbers of entries that pass a test

module _ (disk : ℕ → List ℕ) (test : Entry → Bool) (items : List ℕ) (since : List Accepted) where
  abbrev among : ℕ → Accepted → Bool
  among n x = has n items

  those_from : (xs : List Accepted) (k : ℕ) → ((j : ℕ) → j < length xs → test (entry_at disk (k + j) (at xs j)) ≡ has (k + j) items) → ((j : ℕ) → j < length xs → at since (k + j) ≡ at xs j)
      → those test (entries_at disk k xs) ≡ numbers_at since (places_from among k xs)
  unfolding at
  those_from [] k tests same = refl
  those_from (x ∷ xs) k tests same =
      let first : k + 0 ≡ k = omega arith in
      let rest : those test (entries_at disk (suc k) xs) ≡ numbers_at since (places_from among (suc k) xs) = those_from xs (suc k)
      (λ j l. let next : k + suc j ≡ suc k + j = omega arith in subst (λ n. test (entry_at disk n (at xs j)) ≡ has n items) next (tests (suc j) (omega (arith, l))))
      (λ j l. let next : k + suc j ≡ suc k + j = omega arith in subst (λ n. at since n ≡ at xs j) next (same (suc j) (omega (arith, l)))) in
      let here : at since k ≡ x = subst (λ n. at since n ≡ x) first (same 0 (omega arith)) in
      ap (λ b. if b then (request_of x).number ∷ those test (entries_at disk (suc k) xs) else those test (entries_at disk (suc k) xs)) (subst (λ n. test (entry_at disk n x) ≡ has n items) first (tests 0 (omega arith)))
      ∙ picked (has k items) k (request_of x).number (ap (λ (y : Accepted). (request_of y).number) (sym here)) (those test (entries_at disk (suc k) xs)) (places_from among (suc k) xs) rest
    where
      picked : (b : Bool) (k number : ℕ) → number ≡ number_at since k → (l : List ℕ) (ps : List ℕ) → l ≡ numbers_at since ps → (if b then number ∷ l else l) ≡ numbers_at since (placed b k ps)
      picked true k number e l ps f = λ i. e i ∷ f i
      picked false k number e l ps f = f

  pub those_are : Rising items → ((n : ℕ) → IsIn n items → n < length since) → ((n : ℕ) → n < length since → test (entry_at disk n (at since n)) ≡ has n items) → those test (entries_at disk 0 since) ≡ numbers_at since items
  those_are rises known tests =
      those_from since 0 (λ j l. subst (λ n. test (entry_at disk n (at since j)) ≡ has n items) (sym (zero-add j)) (tests j l)) (λ j l. ap (at since) (zero-add j))
      ∙ ap (numbers_at since) (sym (as_places since items rises known))

pub below : (targets : ℕ) (h : History) (xs : List Accepted) → Follows targets h xs → Each (λ n x. (t : ℕ) → is_on x t ≡ true → t < targets) xs
unfolding at parts
below targets h [] f n l = absurd (omega (arith, l))
below targets h (x ∷ xs) f zero l = λ t on. subst (λ n. t < n) (zero-add targets) (parts_below targets 0 (on_set targets (laid targets h) (request_of x).op) (placed_updates targets x.batch (laid targets h) (request_of x).op) t (sym (ap (λ ps. has_target t ps) f.0.parts) ∙ on))
below targets h (x ∷ xs) f (suc n) l = below targets (h ++ entry x ∷ []) xs f.1 n (omega (arith, l))

module _ (σ : Setting) (sets : SetsOfParts) (base : History) (since : List Accepted) (disk : ℕ → List ℕ) (mark : ℕ → ℕ) (gone : ℕ → List ℕ) (kept : ℕ → Bool) (g : Gathered σ.targets base since disk mark gone kept)
    (follows : Follows σ.targets base since) (legal : IsLegal σ.targets (base ++ entries_of since)) (o : Spoken) (t : ℕ) where
  far : Apart since
  far = apart σ.targets base_tree base since legal

  abbrev now : State
  now = gathered_state σ.targets o base since disk

  abbrev opened : Spoken
  opened = record o { standing = put o.standing t Opened }

  pub kept_image : (others : List Line) → Says now (Up t (o.start t + length (disk t)) (numbers_at since (live (disk t) (gone t)))) others (gathered_state σ.targets opened base since disk)
  kept_image others =
      let says = up_says σ.targets sets o base since far disk (λ t. []) t (length (disk t)) (live (disk t) (gone t)) (redo_old σ base since disk mark gone kept g t)
      (disk t) refl (λ n l. old_names (disk t) (gone t) n) others in
      (says.0, sym (ap (λ (d : ℕ → List ℕ). gathered_state σ.targets opened base since d) (λ i s. put_self disk t s i)) ∙ says.1)

  module _ (extra : List ℕ) (redo : Redo since disk mark gone t extra) where
    exact : Rising extra × ((n : ℕ) → (IsIn n extra → (n < length since) × (is_on (at since n) t ≡ true) × (kept n ≡ true) × (IsIn n (disk t) → ⊥))
        × (n < length since → is_on (at since n) t ≡ true → kept n ≡ true → (IsIn n (disk t) → ⊥) → IsIn n extra))
    exact = redo_exact σ base since disk mark gone kept g t extra redo

    pub redone_image : (others : List Line)
        → Says now (Up t (o.start t + length (disk t ++ extra)) (numbers_at since (live (disk t ++ extra) (gone t)))) others (gathered_state σ.targets opened base since (put disk t (disk t ++ extra)))
    redone_image others = up_says σ.targets sets o base since far disk (λ t. []) t (length (disk t ++ extra)) (live (disk t ++ extra) (gone t)) (redo_new σ base since disk mark gone kept g t extra redo)
        (disk t ++ extra) refl (λ n l. new_names (disk t) (disk t ++ extra) (gone t) (λ n m. mem_front (disk t) extra n m) (λ n m c. cancelled_there n m c) n) others
      where
        cancelled_there : (n : ℕ) → IsIn n (disk t ++ extra) → IsIn n (gone t) → IsIn n (disk t)
        cancelled_there n m c = gone_named σ base since disk mark gone kept g t n c t (redone_is σ base since disk mark gone kept g t extra redo n m).1

    abbrev is_missing : Entry → Bool
    is_missing e = some_named σ.targets e && is_member e.on t && not (e.named t)

    missing : (n : ℕ) → n < length since → is_missing (entry_at disk n (at since n)) ≡ has n extra
    missing n l = same_tests (is_missing (entry_at disk n (at since n))) (has n extra)
        (λ e. let q = three (some_named σ.targets (entry_at disk n (at since n))) (is_member (targets_from 0 (at since n).parts) t) (not (has n (disk t))) e in
        let s = some_of disk n (at since n) σ.targets q.0 in
        mem_has n extra ((exact.1 n).1 l (sym (sets t (at since n).parts) ∙ q.1) ((g.named n l).1 (s.0, has_mem n (disk s.0) s.1)) (has_not n (disk t) (not_true (has n (disk t)) q.2))))
        (λ e. let x = (exact.1 n).0 (has_mem n extra e) in
        let s = (g.named n l).0 x.2 in
        all_three (some_named σ.targets (entry_at disk n (at since n))) (is_member (targets_from 0 (at since n).parts) t) (not (has n (disk t)))
        (of_some disk n (at since n) σ.targets s.0 (below σ.targets base since follows n l s.0 (g.known s.0 n s.1).1) (mem_has n (disk s.0) s.1))
        (sets t (at since n).parts ∙ x.1) (ap not (not_has n (disk t) x.3)))

    pub redone_says : (others : List Line) → Says now (Redone t (numbers_at since extra)) others (gathered_state σ.targets o base since (put disk t (disk t ++ extra)))
    redone_says others = (
      sym (those_are disk is_missing extra since exact.0 known missing),
      parts_same now (entries_at (put disk t (disk t ++ extra)) 0 since) (names t (numbers_at since extra) (entries_at disk 0 since)) now.pend now.pend
          (λ s. o.start s + length (put disk t (disk t ++ extra) s)) (put now.last t (now.last t + length (numbers_at since extra)))
          (sym (all_named_too disk t (numbers_at since extra) (disk t ++ extra) since (λ n l. ap (λ b. has n (disk t) || b) (has_number since far n l extra known) ∙ sym (has_join n (disk t) extra))))
          (λ s. refl)
          (λ s. lifted (λ q d. o.start q + length d) disk t (disk t ++ extra) s ∙ ap (λ v. put now.last t v s) longer),
    )
      where
        known : (n : ℕ) → IsIn n extra → n < length since
        known n m = ((exact.1 n).0 m).0

        longer : o.start t + length (disk t ++ extra) ≡ now.last t + length (numbers_at since extra)
        longer =
            let a : length (disk t ++ extra) ≡ length (disk t) + length extra = length_join (disk t) extra in
            let b : length (numbers_at since extra) ≡ length extra = many_numbers since extra in omega (arith, a, b)

-- ---- the beginning of a recovery, and stops in it

module _ (σ : Setting) (h : History) (w : World) (r : Reached σ.targets h w) where
  pub none_pends : (t : ℕ) → ((n : ℕ) → IsIn n (w.done t) → IsIn n (w.disk t)) → pending w t ≡ []
  none_pends t all = nothing_in (pending w t) (λ n m.
      let i = inv σ h w r in
      let behind : w.done t ≡ w.disk t ++ pending w t = pends_behind σ w i t in
      rest_apart (w.disk t) (pending w t) (subst Rising behind (i.executed.in_order t)) n m (all n (subst (λ l. IsIn n l) (sym behind) (mem_back (w.disk t) (pending w t) n m))))

  pub gathered_is : (o : Spoken) → ((t n : ℕ) → IsIn n (w.done t) → IsIn n (w.disk t)) → state_of σ.targets o w ≡ gathered_state σ.targets o w.base w.since w.disk
  gathered_is o all = λ i. state_with σ.targets o w.base w.since w.disk (λ t. none_pends t (all t) i)

abbrev nothing : ℕ → List ℕ
nothing s = []

pub stop_says : (targets : ℕ) (o : Spoken) (base : History) (since : List Accepted) (disk : ℕ → List ℕ) (t : ℕ) (others : List Line)
    → Says (gathered_state targets o base since disk) (Stopped t) others (gathered_state targets (record o { standing = stands_after others t o.standing; smooth = stays_smooth others o.smooth }) base since disk)
stop_says targets o base since disk t others =
    λ i. record (gathered_state targets (record o { standing = stands_after others t o.standing; smooth = stays_smooth others o.smooth }) base since disk) { pend = λ s. sym (put_self nothing t s) i }
