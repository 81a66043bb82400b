-- What the end of a recovery says.
use Rattle.std.proofs.Common.{◌≡◌, ◌<◌, inl, inr, ⊎_elim, ℕ, zero, suc, Bool, true, false, true≢false, if◌then◌else◌, ◌||◌, ◌++◌, ◌+◌, List, [], ◌∷◌, length, refl, sym, ap, ◌∙◌, subst, arith, zero-add, add-zero}
use Rattle.std.specs.Prelude.{not}
use Rattle.std.specs.List.{AllByRecursion}
use Rattle.tree_model.specs.History.{IsLegal, Item}
use Rattle.tree_model.specs.Kept.{HasNumber, IsKept, chosen}
use Rattle.tree_model.specs.declared.op.Request.{Request}
use Rattle.update_protocol.specs.Epochs.{Epoch, Story, kept_of}
use Rattle.update_protocol.specs.Events.{Start, fresh}
use Rattle.update_protocol.specs.Lists.{IsIn, put}
use Rattle.update_protocol.specs.Machine.{Entry, Line, Opened, Recovers, Says, Serving, State, Up, all_named, history_of, number, some_named, those}
use Rattle.update_protocol.specs.Parts.{IsSent, all_of, entries_of, numbers_of, passing}
use Rattle.update_protocol.specs.Recovery.{kept_items, put_if}
use Rattle.tree_model.specs.Tree.{base as base_tree}
use Rattle.update_protocol.specs.Rows.{has}
use Rattle.update_protocol.proofs.Naming.{apart}
use Rattle.update_protocol.specs.States.{IsSplit, Spoken, entries_at, entry_at, gathered_state, number_at, state_of}
use Rattle.update_protocol.specs.World.{Accepted, Each, Follows, History, after_items, at, entry, is_on, master, request_of}
use Rattle.update_protocol.proofs.Basics.{by_bool}
use Rattle.update_protocol.proofs.Fitting.{all_entries, full_named, put_self, up_says}
use Rattle.update_protocol.proofs.Legal.{after_joined, chosen_base, chosen_kept}
use Rattle.update_protocol.proofs.Redone.{mem_back, mem_front}
use Rattle.update_protocol.proofs.Saying.{SetsOfParts}
use Rattle.update_protocol.proofs.SayingAccept.{items_are}
use Rattle.update_protocol.proofs.SayingRecovery.{below, of_some, some_of}
use Rattle.update_protocol.proofs.Seating.{mem_all}
use Rattle.update_protocol.proofs.Setting.{Setting}
use Rattle.update_protocol.proofs.Shares.{home_part}
use Rattle.update_protocol.proofs.Showing.{has_mem, mem_has}
use Rattle.update_protocol.proofs.Stories.{absent, renewed, story_grounded, whole, whole_history}
use Rattle.update_protocol.proofs.Whole.{epoch_kept, run_legal}

-- ---- the end of a recovery

number_of_kept : (since : List Accepted) (kept : ℕ → Bool) (xs : List Accepted) (k j : ℕ) → j < length xs → kept (k + j) ≡ true → HasNumber (request_of (at xs j)).number (entries_of (kept_items kept k xs))
unfolding at
number_of_kept since kept [] k j l e = absurd (omega (arith, l))
number_of_kept since kept (x ∷ xs) k zero l e = let first : k + 0 ≡ k = omega arith in
    subst (λ b. HasNumber (request_of x).number (entries_of (put_if b x (kept_items kept (suc k) xs)))) (sym (subst (λ n. kept n ≡ true) first e)) (inl refl)
number_of_kept since kept (x ∷ xs) k (suc j) l e = let next : k + suc j ≡ suc k + j = omega arith in
    behind (kept k) (number_of_kept since kept xs (suc k) j (omega (arith, l)) (subst (λ n. kept n ≡ true) next e))
  where
    behind : (b : Bool) → HasNumber (request_of (at xs j)).number (entries_of (kept_items kept (suc k) xs)) → HasNumber (request_of (at xs j)).number (entries_of (put_if b x (kept_items kept (suc k) xs)))
    behind true m = inr m
    behind false m = m

kept_each : (P : Item → Type 0) (kept : ℕ → Bool) (xs : List Accepted) (k : ℕ) → ((j : ℕ) → j < length xs → kept (k + j) ≡ true → P (entry (at xs j))) → AllByRecursion P (entries_of (kept_items kept k xs))
unfolding at
kept_each P kept [] k each = tt
kept_each P kept (x ∷ xs) k each =
    let first : k + 0 ≡ k = omega arith in
    with_first (kept k) (λ e. each 0 (omega arith) (subst (λ n. kept n ≡ true) (sym first) e))
    (kept_each P kept xs (suc k) (λ j l e. let next : k + suc j ≡ suc k + j = omega arith in each (suc j) (omega (arith, l)) (subst (λ n. kept n ≡ true) (sym next) e)))
  where
    with_first : (b : Bool) → (b ≡ true → P (entry x)) → AllByRecursion P (entries_of (kept_items kept (suc k) xs)) → AllByRecursion P (entries_of (put_if b x (kept_items kept (suc k) xs)))
    with_first true f rest = (f refl, rest)
    with_first false f rest = rest

all_join : (P : Item → Type 0) (h k : History) → AllByRecursion P h → AllByRecursion P k → AllByRecursion P (h ++ k)
all_join P [] k a b = b
all_join P (i ∷ h) k a b = (a.0, all_join P h k a.1 b)

has_left : (n : ℕ) (h k : History) → HasNumber n h → HasNumber n (h ++ k)
has_left n [] k m = absurd m
has_left n (i ∷ h) k m = ⊎_elim (λ e. inl e) (λ m. inr (has_left n h k m)) m

has_right : (n : ℕ) (h k : History) → HasNumber n k → HasNumber n (h ++ k)
has_right n [] k m = m
has_right n (i ∷ h) k m = inr (has_right n h k m)

numbers_each : (h k : History) (ns : List ℕ) → ((n : ℕ) → IsIn n ns → HasNumber n (h ++ k)) → AllByRecursion (λ n. HasNumber n (h ++ k)) (numbers_of h ++ ns)
numbers_each h k ns each = all_numbers h (λ n m. has_left n h k m)
  where
    all_numbers : (g : History) → ((n : ℕ) → HasNumber n g → HasNumber n (h ++ k)) → AllByRecursion (λ n. HasNumber n (h ++ k)) (numbers_of g ++ ns)
    all_numbers [] f = mem_all (λ n. HasNumber n (h ++ k)) ns each
    all_numbers (i ∷ g) f = (f i.request.number (inl refl), all_numbers g (λ n m. f n (inr m)))

in_front : (n : ℕ) (xs ys : List ℕ) → IsIn n xs → IsIn n (xs ++ ys)
in_front n xs ys m = mem_front xs ys n m

own_numbers : (h : History) (ns : List ℕ) → AllByRecursion (λ i. IsIn i.request.number (numbers_of h ++ ns)) h
own_numbers h ns = mem_all (λ i. IsIn i.request.number (numbers_of h ++ ns)) h (λ i m. mem_front (numbers_of h) ns i.request.number (number_among h i m))
  where
    number_among : (g : History) (i : Item) → IsIn i g → IsIn i.request.number (numbers_of g)
    number_among [] i m = absurd m
    number_among (j ∷ g) i m = ⊎_elim (λ (e : i ≡ j). inl (ap (λ (k : Item). k.request.number) e)) (λ m. inr (number_among g i m)) m

those_has : (disk : ℕ → List ℕ) (test : Entry → Bool) (xs : List Accepted) (k j : ℕ) → j < length xs → test (entry_at disk (k + j) (at xs j)) ≡ true → IsIn (request_of (at xs j)).number (those test (entries_at disk k xs))
unfolding at
those_has disk test [] k j l e = absurd (omega (arith, l))
those_has disk test (x ∷ xs) k zero l e = let first : k + 0 ≡ k = omega arith in
    subst (λ b. IsIn (request_of x).number (if b then (request_of x).number ∷ those test (entries_at disk (suc k) xs) else those test (entries_at disk (suc k) xs))) (sym (subst (λ n. test (entry_at disk n x) ≡ true) first e)) (inl refl)
those_has disk test (x ∷ xs) k (suc j) l e = let next : k + suc j ≡ suc k + j = omega arith in
    behind (test (entry_at disk k x)) (those_has disk test xs (suc k) j (omega (arith, l)) (subst (λ n. test (entry_at disk n (at xs j)) ≡ true) next e))
  where
    behind : (b : Bool) → IsIn (request_of (at xs j)).number (those test (entries_at disk (suc k) xs))
        → IsIn (request_of (at xs j)).number (if b then (request_of x).number ∷ those test (entries_at disk (suc k) xs) else those test (entries_at disk (suc k) xs))
    behind true m = inr m
    behind false m = m

home_on : (σ : Setting) (g : History) (xs : List Accepted) → Follows σ.targets g xs → Each (λ n x. is_on x (master x) ≡ true) xs
unfolding at
home_on σ g [] f n l = absurd (omega (arith, l))
home_on σ g (x ∷ xs) f zero l = home_part σ.targets σ.laws g x f.0
home_on σ g (x ∷ xs) f (suc n) l = home_on σ (g ++ entry x ∷ []) xs f.1 n (omega (arith, l))

module _ (σ : Setting) (sets : SetsOfParts) (h : History) (story : Story σ.targets h) (e : Epoch σ.targets h) (o : Spoken) where
  abbrev end : State
  end = gathered_state σ.targets o h e.world.since e.disks

  abbrev after_recovery : ℕ → Spoken
  after_recovery epoch = record { sent = o.sent; epoch = epoch; smooth = true; standing = λ t. Serving; start = λ t. o.start t + length (e.disks t) }

  -- the items of a recovery that was completed
  kept_named : (n : ℕ) → n < length e.world.since → e.kept n ≡ true → some_named σ.targets (entry_at e.disks n (at e.world.since n)) ≡ true
  kept_named n l k =
      let follows = whole_history σ h (story_grounded σ h story) e in
      let on = home_on σ h e.world.since follows n l in
      of_some e.disks n (at e.world.since n) σ.targets (master (at e.world.since n)) (below σ.targets h e.world.since follows n l (master (at e.world.since n)) on)
      (mem_has n (e.disks (master (at e.world.since n))) (whole σ h (story_grounded σ h story) e (master (at e.world.since n)) n l k on))

  named_kept : (n : ℕ) → some_named σ.targets (entry_at e.disks n (at e.world.since n)) ≡ true → e.kept n ≡ true
  named_kept n s = let q = some_of e.disks n (at e.world.since n) σ.targets s in absent σ h (story_grounded σ h story) e q.0 n (has_mem n (e.disks q.0) q.1)

  unkept : (n : ℕ) → some_named σ.targets (entry_at e.disks n (at e.world.since n)) ≡ false → n < length e.world.since → e.kept n ≡ false
  unkept n s l = ⊎_elim (λ (k : e.kept n ≡ true). absurd (true≢false (sym (kept_named n l k) ∙ s))) (λ (k : e.kept n ≡ false). k) (by_bool (e.kept n))

  unnamed : (n : ℕ) → e.kept n ≡ false → some_named σ.targets (entry_at e.disks n (at e.world.since n)) ≡ false
  unnamed n k = ⊎_elim (λ (s : some_named σ.targets (entry_at e.disks n (at e.world.since n)) ≡ true). absurd (true≢false (sym (named_kept n s) ∙ k))) (λ (s : some_named σ.targets (entry_at e.disks n (at e.world.since n)) ≡ false). s)
      (by_bool (some_named σ.targets (entry_at e.disks n (at e.world.since n))))

  abbrev part : List Bool
  part = all_of h ++ passing e.kept 0 e.world.since

  history_is : h ++ entries_of e.world.since ≡ history_of end
  history_is = ap (λ l. h ++ l) (sym (items_are e.disks 0 e.world.since))

  chosen_is : chosen part (h ++ entries_of e.world.since) ≡ h ++ entries_of (kept_of σ.targets h e)
  chosen_is = chosen_base h (passing e.kept 0 e.world.since) (entries_of e.world.since) ∙ ap (λ l. h ++ l) (chosen_kept e.kept e.world.since 0)

  pub recovers : (sent : ℕ → Request) → IsSent sent (h ++ entries_of e.world.since) → (epoch : ℕ) → o.epoch < epoch → (o.smooth ≡ true → epoch ≡ suc o.epoch)
      → (kept lost : List ℕ) → IsSplit e.world.since e.kept kept lost → (s : Start) → Recovers end epoch kept lost (state_of σ.targets (after_recovery epoch) (fresh s (after_items h (kept_of σ.targets h e))))
  recovers sent known epoch later one_more kept lost split s = record {
    later = later;
    one_more = one_more;
    kept_rise = split.kept_rise;
    lost_rise = split.lost_rise;
    named = all_entries (λ x. some_named σ.targets x ≡ true → IsIn (number x) kept × (all_named σ.targets x ≡ true)) e.disks e.world.since
        (λ n l s. (split.keeps n l (named_kept n s), full_named sets e.disks n (at e.world.since n) (λ t on. whole σ h (story_grounded σ h story) e t n l (named_kept n s) on) σ.targets));
    unnamed = all_entries (λ x. some_named σ.targets x ≡ false → IsIn (number x) lost) e.disks e.world.since (λ n l s. split.loses n l (unkept n s l));
    are_kept = mem_all (λ n. IsIn n (those (some_named σ.targets) (entries_at e.disks 0 e.world.since))) kept
        (λ number m. let q = split.kept_only number m in
        subst (λ n. IsIn n (those (some_named σ.targets) (entries_at e.disks 0 e.world.since))) (sym q.3)
        (those_has e.disks (some_named σ.targets) e.world.since 0 q.0 q.1 (subst (λ n. some_named σ.targets (entry_at e.disks n (at e.world.since q.0)) ≡ true) (sym (zero-add q.0)) (kept_named q.0 q.1 q.2))));
    are_lost = mem_all (λ n. IsIn n (those (λ x. not (some_named σ.targets x)) (entries_at e.disks 0 e.world.since))) lost
        (λ number m. let q = split.lost_only number m in
        subst (λ n. IsIn n (those (λ x. not (some_named σ.targets x)) (entries_at e.disks 0 e.world.since))) (sym q.3)
        (those_has e.disks (λ x. not (some_named σ.targets x)) e.world.since 0 q.0 q.1 (subst (λ n. not (some_named σ.targets (entry_at e.disks n (at e.world.since q.0))) ≡ true) (sym (zero-add q.0)) (ap not (unnamed q.0 q.2)))));
    part = part;
    may = subst (λ g. IsKept σ.targets g (numbers_of h ++ kept) part) history_is (record {
      legal = old.legal;
      holds = subst (λ g. AllByRecursion (λ n. HasNumber n g) (numbers_of h ++ kept)) (sym chosen_is) (numbers_each h (entries_of (kept_of σ.targets h e)) kept
          (λ number m. let q = split.kept_only number m in
          has_right number h (entries_of (kept_of σ.targets h e)) (subst (λ n. HasNumber n (entries_of (kept_of σ.targets h e))) (sym q.3)
          (number_of_kept e.world.since e.kept e.world.since 0 q.0 q.1 (subst (λ n. e.kept n ≡ true) (sym (zero-add q.0)) q.2)))));
      closed = old.closed;
    });
    only = subst (λ g. AllByRecursion (λ i. IsIn i.request.number (numbers_of h ++ kept)) (chosen part g)) history_is
        (subst (λ g. AllByRecursion (λ i. IsIn i.request.number (numbers_of h ++ kept)) g) (sym chosen_is)
        (all_join (λ i. IsIn i.request.number (numbers_of h ++ kept)) h (entries_of (kept_of σ.targets h e)) (own_numbers h kept)
        (kept_each (λ i. IsIn i.request.number (numbers_of h ++ kept)) e.kept e.world.since 0
        (λ j l k. mem_back (numbers_of h) kept (number_at e.world.since j) (split.keeps j l (subst (λ n. e.kept n ≡ true) (zero-add j) k))))));
    after = λ i. record {
      targets = σ.targets;
      sent = o.sent;
      epoch = epoch;
      smooth = true;
      before = (after_joined h (kept_of σ.targets h e) ∙ sym chosen_is ∙ ap (chosen part) history_is) i;
      since = [];
      standing = λ t. Serving;
      pend = λ t. [];
      last = λ t. add-zero (o.start t + length (e.disks t)) i;
    };
  }
    where
      old : IsKept σ.targets (h ++ entries_of e.world.since) (numbers_of (h ++ entries_of (kept_of σ.targets h e))) part
      old = epoch_kept σ h story e sent known

  -- a target whose log was emptied shows no record: what it has is named by all
  pub renewed_image : (sent : ℕ → Request) → IsSent sent (h ++ entries_of e.world.since) → (t : ℕ) (others : List Line)
      → Says end (Up t (o.start t + length (e.disks t)) []) others (gathered_state σ.targets (record o { standing = put o.standing t Opened }) h e.world.since e.disks)
  renewed_image sent known t others =
      let legal : IsLegal σ.targets (h ++ entries_of e.world.since) = run_legal σ h story e.start e.events e.world e.run sent known in
      let says = up_says σ.targets sets o h e.world.since (apart σ.targets base_tree h e.world.since legal) e.disks (λ t. []) t (length (e.disks t)) [] (renewed σ h (story_grounded σ h story) e t)
      (e.disks t) refl (λ n l. or_none (has n (e.disks t))) others in
      (says.0, sym (ap (λ (d : ℕ → List ℕ). gathered_state σ.targets (record o { standing = put o.standing t Opened }) h e.world.since d) (λ i s. put_self e.disks t s i)) ∙ says.1)
    where
      or_none : (b : Bool) → (b || false) ≡ b
      or_none true = refl
      or_none false = refl
