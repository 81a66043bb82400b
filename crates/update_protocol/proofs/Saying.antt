-- What events say: the rows of the plain machine that speak of one event.
use Rattle.std.proofs.Common.{◌≡◌, ◌<◌, inl, inr, ℕ, zero, suc, ◌||◌, ◌++◌, ◌+◌, Some, List, [], ◌∷◌, length, refl, sym, ap, ◌∙◌, subst, arith, zero-add}
use Rattle.fid_space.specs.Targets.{is_member}
use Rattle.out_update.specs.declared.update.Update.{Update}
use Rattle.tree_model.specs.Participants.{home_of}
use Rattle.tree_model.specs.Tree.{base as base_tree}
use Rattle.tree_model.specs.declared.op.Request.{Request}
use Rattle.update_record.specs.Spelling.{has_target, targets_from}
use Rattle.update_protocol.specs.Epochs.{Reached}
use Rattle.update_protocol.specs.Events.{Commit, Execute_comes, May, Stop, Tear, fresh, happens}
use Rattle.update_protocol.specs.Lists.{IsIn, put}
use Rattle.update_protocol.specs.Machine.{Entry, Executes, Line, Says, Serving, Stable, State, Stopped, names, stands_after, stays_smooth}
use Rattle.update_protocol.specs.Parts.{IsSent, entries_of}
use Rattle.update_protocol.specs.Rows.{has, pending}
use Rattle.update_protocol.specs.States.{Spoken, entries_at, entry_at, number_at, numbers_at, state_of}
use Rattle.update_protocol.specs.World.{Accepted, Each, Follows, History, World, at, entry, master, request_of}
use Rattle.update_protocol.proofs.Invariant.{Invariant}
use Rattle.update_protocol.proofs.Naming.{Apart, all_named_too, apart, has_join, has_number, in_numbers, lifted, many_numbers, numbers_join, one_place}
use Rattle.update_protocol.proofs.Pending.{commit_pending, execute_pending, stop_pending, tear_pending}
use Rattle.update_protocol.proofs.Redone.{mem_back}
use Rattle.update_protocol.proofs.Runs.{always, begins}
use Rattle.update_protocol.proofs.Seating.{some_number}
use Rattle.update_protocol.proofs.Setting.{Setting}
use Rattle.update_protocol.proofs.Showing.{executed_once, length_join, not_has, pends_behind}
use Rattle.update_protocol.proofs.Stories.{story_grounded}
use Rattle.update_protocol.proofs.Whole.{run_legal}

-- the set of the targets of the parts has just these as members
abbrev pub SetsOfParts : Type 0
SetsOfParts = (t : ℕ) (parts : List (ℕ × List Update)) → is_member (targets_from 0 parts) t ≡ has_target t parts

abbrev with_parts : State → List Entry → (ℕ → List ℕ) → (ℕ → ℕ) → State
with_parts s es p l = record s { since = es; pend = p; last = l }

pub parts_same : (s : State) (es fs : List Entry) (p q : ℕ → List ℕ) (l m : ℕ → ℕ) → es ≡ fs → ((t : ℕ) → p t ≡ q t) → ((t : ℕ) → l t ≡ m t) → with_parts s es p l ≡ with_parts s fs q m
parts_same s es fs p q l m e f g = λ i. with_parts s (e i) (λ t. f t i) (λ t. g t i)

pub entry_among : (disk : ℕ → List ℕ) (xs : List Accepted) (k j : ℕ) → j < length xs → IsIn (entry_at disk (k + j) (at xs j)) (entries_at disk k xs)
unfolding at
entry_among disk [] k j l = absurd (omega (arith, l))
entry_among disk (x ∷ xs) k zero l = let e : k + 0 ≡ k = omega arith in subst (λ n. IsIn (entry_at disk n x) (entry_at disk k x ∷ entries_at disk (suc k) xs)) (sym e) (inl refl)
entry_among disk (x ∷ xs) k (suc j) l = let e : k + suc j ≡ suc k + j = omega arith in
    inr (subst (λ n. IsIn (entry_at disk n (at xs j)) (entries_at disk (suc k) xs)) (sym e) (entry_among disk xs (suc k) j (omega (arith, l))))

pub entry_here : (disk : ℕ → List ℕ) (xs : List Accepted) (n : ℕ) → n < length xs → IsIn (entry_at disk n (at xs n)) (entries_at disk 0 xs)
entry_here disk xs n l = subst (λ k. IsIn (entry_at disk k (at xs n)) (entries_at disk 0 xs)) (zero-add n) (entry_among disk xs 0 n l)

pub homes : (targets : ℕ) (h : History) (xs : List Accepted) → Follows targets h xs → Each (λ n x. home_of targets (request_of x).op ≡ Some (master x)) xs
unfolding at
homes targets h [] f n l = absurd (omega (arith, l))
homes targets h (x ∷ xs) f zero l = f.0.home
homes targets h (x ∷ xs) f (suc n) l = homes targets (h ++ entry x ∷ []) xs f.1 n (omega (arith, l))

module _ (σ : Setting) (h : History) (w : World) (r : Reached σ.targets h w) where
  pub inv : Invariant σ.targets w
  inv = always σ r.events (fresh r.start h) w (begins σ r.start h (story_grounded σ h r.story)) r.run

  module _ (sent : ℕ → Request) (known : IsSent sent (h ++ entries_of w.since)) where
    pub far : Apart w.since
    far = apart σ.targets base_tree h w.since (run_legal σ h r.story r.start r.events w r.run sent known)

    pub pends_known : (t k : ℕ) → IsIn k (pending w t) → k < length w.since
    pends_known t k m = (inv.executed.known_done t k (subst (λ l. IsIn k l) (sym (pends_behind σ w inv t)) (mem_back (w.disk t) (pending w t) k m))).0

    -- what is committed is named by place or number
    named_then : (t n : ℕ) → n < length w.since → (has n (w.disk t) || has (number_at w.since n) (numbers_at w.since (pending w t))) ≡ has n (w.done t)
    named_then t n l =
        ap (λ b. has n (w.disk t) || b) (has_number w.since far n l (pending w t) (pends_known t))
        ∙ sym (has_join n (w.disk t) (pending w t)) ∙ ap (has n) (sym (pends_behind σ w inv t))

    module _ (o : Spoken) where
      abbrev now : State
      now = state_of σ.targets o w

      pub committed : (t : ℕ) (others : List Line) → Says now (Stable t (numbers_at w.since (pending w t))) others (state_of σ.targets o (happens w (Commit t)))
      committed t others = (
        refl,
        parts_same now (entries_at (put w.disk t (w.done t)) 0 w.since) (names t (numbers_at w.since (pending w t)) (entries_at w.disk 0 w.since))
            (λ s. numbers_at w.since (pending (happens w (Commit t)) s)) (put (λ s. numbers_at w.since (pending w s)) t [])
            (λ s. o.start s + length (put w.disk t (w.done t) s)) (put (λ s. o.start s + length (w.disk s)) t ((o.start t + length (w.disk t)) + length (numbers_at w.since (pending w t))))
            (sym (all_named_too w.disk t (numbers_at w.since (pending w t)) (w.done t) w.since (named_then t)))
            (λ s. ap (numbers_at w.since) (commit_pending w t s) ∙ lifted (λ q ns. numbers_at w.since ns) (pending w) t [] s)
            (λ s. lifted (λ q d. o.start q + length d) w.disk t (w.done t) s ∙ ap (λ v. put (λ s. o.start s + length (w.disk s)) t v s) (longer t)),
      )
        where
          longer : (t : ℕ) → o.start t + length (w.done t) ≡ (o.start t + length (w.disk t)) + length (numbers_at w.since (pending w t))
          longer t =
              let a : length (w.done t) ≡ length (w.disk t) + length (pending w t) = ap length (pends_behind σ w inv t) ∙ length_join (w.disk t) (pending w t) in
              let b : length (numbers_at w.since (pending w t)) ≡ length (pending w t) = many_numbers w.since (pending w t) in omega (arith, a, b)

      abbrev stopped_says : List Line → ℕ → Spoken
      stopped_says others t = record o { standing = stands_after others t o.standing; smooth = stays_smooth others o.smooth }

      pub stopped : (t : ℕ) (others : List Line) → Says now (Stopped t) others (state_of σ.targets (stopped_says others t) (happens w (Stop t)))
      stopped t others = parts_same (state_of σ.targets (stopped_says others t) w) now.since now.since (λ s. numbers_at w.since (pending (happens w (Stop t)) s)) (put now.pend t []) now.last now.last refl
          (λ s. ap (numbers_at w.since) (stop_pending w t s) ∙ lifted (λ q ns. numbers_at w.since ns) (pending w) t [] s) (λ s. refl)

      pub torn : (t : ℕ) (others : List Line) → Says now (Stopped t) others (state_of σ.targets (stopped_says others t) (happens w (Tear t)))
      torn t others = parts_same (state_of σ.targets (stopped_says others t) w) now.since now.since (λ s. numbers_at w.since (pending (happens w (Tear t)) s)) (put now.pend t []) now.last now.last refl
          (λ s. ap (numbers_at w.since) (tear_pending w t s) ∙ lifted (λ q ns. numbers_at w.since ns) (pending w) t [] s) (λ s. refl)

      pub executes : SetsOfParts → (n t : ℕ) → May σ.targets w (Execute_comes n t) → o.standing t ≡ Serving → Executes now (number_at w.since n) t (state_of σ.targets o (happens w (Execute_comes n t)))
      executes sets n t may serves =
          let once = executed_once σ w inv n t may in
          record {
            entry = entry_at w.disk n (at w.since n);
            accepted = entry_here w.disk w.since n once.0;
            numbered = refl;
            there = sets t (at w.since n).parts ∙ once.1;
            away = λ e. once.3 (sym (some_number (master (at w.since n)) t (sym (homes σ.targets w.base w.since inv.follows n once.0) ∙ e)));
            serves = serves;
            unlisted = λ m. (let k = in_numbers w.since far (pending w t) (number_at w.since n) m in
                let same : n ≡ k.0 = one_place w.since far n k.0 once.0 (pends_known t k.0 k.1) k.2 in
                once.2 (subst (λ j. IsIn j (w.done t)) (sym same) (subst (λ l. IsIn k.0 l) (sym (pends_behind σ w inv t)) (mem_back (w.disk t) (pending w t) k.0 k.1))));
            unnamed = not_has n (w.disk t) (λ m. once.2 (inv.executed.has t n m));
            after = parts_same now now.since now.since (λ s. numbers_at w.since (pending (happens w (Execute_comes n t)) s)) (put now.pend t (now.pend t ++ number_at w.since n ∷ [])) now.last now.last refl
                (λ s. ap (numbers_at w.since) (execute_pending w n t s (pends_behind σ w inv t)) ∙ lifted (λ q ns. numbers_at w.since ns) (pending w) t (pending w t ++ n ∷ []) s
                ∙ ap (λ v. put now.pend t v s) (numbers_join w.since (pending w t) (n ∷ []))) (λ s. refl);
          }
