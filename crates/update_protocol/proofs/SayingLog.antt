-- What a log says, between two recoveries and in one.
use Rattle.std.proofs.Common.{◌≡◌, ◌≢◌, ◌<◌, ◌⊎◌, inl, inr, ⊎_elim, ℕ, zero, suc, Bool, true, false, true≢false, if◌then◌else◌, ◌++◌, Some, List, [], ◌∷◌, length, refl, sym, ap, ◌∙◌, subst, arith, append-nil}
use Rattle.std.specs.Prelude.{◌==◌, map, take}
use Rattle.std.specs.List.{AllByRecursion}
use Rattle.std.proofs.lemmas.Bool.Decides.{eqb_tells}
use Rattle.tree_model.specs.Participants.{home_of}
use Rattle.tree_model.specs.declared.op.Request.{Request}
use Rattle.update_protocol.specs.Epochs.{Reached}
use Rattle.update_protocol.specs.Lists.{IsIn, Rising}
use Rattle.update_protocol.specs.Machine.{AreDistinct, IsListed, Listed, Lists, State, all_named, is_home, number, position_of}
use Rattle.update_protocol.specs.Parts.{IsSent, entries_of}
use Rattle.update_protocol.specs.Recovery.{Gathered, Redo}
use Rattle.update_protocol.specs.Rows.{has, live, pending}
use Rattle.update_protocol.specs.States.{Spoken, entries_at, entry_at, gathered_state, listed, listed_at, number_at, numbers_at, state_of, state_with}
use Rattle.update_protocol.specs.World.{Accepted, Each, Full, History, World, at, count_home, is_on, master, request_of}
use Rattle.update_protocol.proofs.Fitting.{all_entries, distinct_numbers, full_named}
use Rattle.update_protocol.proofs.Naming.{Apart, in_numbers, number_in}
use Rattle.update_protocol.proofs.Invariant.{Invariant}
use Rattle.update_protocol.proofs.Redone.{mem_append, redone_all}
use Rattle.update_protocol.proofs.Saying.{SetsOfParts, entry_here, far, homes, inv}
use Rattle.update_protocol.proofs.Seating.{mem_all}
use Rattle.update_protocol.proofs.Setting.{Setting}
use Rattle.update_protocol.proofs.Showing.{has_mem, live_in, log_fits, mem_has, pends_behind, redo_old}

-- ---- positions

position_is : (targets : ℕ) (disk : ℕ → List ℕ) (m : ℕ) (xs : List Accepted) (k j : ℕ) → Apart xs → Each (λ n x. home_of targets (request_of x).op ≡ Some (master x)) xs → j < length xs
    → position_of targets m (request_of (at xs j)).number (entries_at disk k xs) ≡ suc (count_home m (take j xs))
unfolding at
position_is targets disk m [] k j far homes l = absurd (omega (arith, l))
position_is targets disk m (x ∷ xs) k zero far homes l = elim (eqb_tells (request_of x).number (request_of x).number) [
  | inl w ↦ ap (λ b. if b then 1 else (if is_home m (home_of targets (request_of x).op) then suc (position_of targets m (request_of x).number (entries_at disk (suc k) xs)) else position_of targets m (request_of x).number (entries_at disk (suc k) xs))) w.0
  | inr w ↦ absurd (w.1 refl)
]
position_is targets disk m (x ∷ xs) k (suc j) far homes l =
    let n : ℕ = (request_of (at xs j)).number in
    let rest : position_of targets m n (entries_at disk (suc k) xs) ≡ suc (count_home m (take j xs)) = position_is targets disk m xs (suc k) j
    (λ a b lt in_xs. far (suc a) (suc b) (omega (arith, lt)) (omega (arith, in_xs))) (λ a in_xs. homes (suc a) (omega (arith, in_xs))) (omega (arith, l)) in
    let other : (request_of x).number ≢ n = λ e. far 0 (suc j) (omega arith) l (sym e) in
    elim (eqb_tells (request_of x).number n) [
      | inl w ↦ absurd (other w.1)
      | inr w ↦ ap (λ b. if b then 1 else (if is_home m (home_of targets (request_of x).op) then suc (position_of targets m n (entries_at disk (suc k) xs)) else position_of targets m n (entries_at disk (suc k) xs))) w.0
          ∙ ap (λ h. if is_home m h then suc (position_of targets m n (entries_at disk (suc k) xs)) else position_of targets m n (entries_at disk (suc k) xs)) (homes 0 (omega (arith, l)))
          ∙ counted (master x == m) (position_of targets m n (entries_at disk (suc k) xs)) (count_home m (take j xs)) rest
    ]
  where
    counted : (b : Bool) (p c : ℕ) → p ≡ suc c → (if b then suc p else p) ≡ suc (if b then suc c else c)
    counted true p c e = ap suc e
    counted false p c e = e

-- ---- records with their indexes

numbers_listed : (epoch : ℕ) (since : List Accepted) (is ns : List ℕ) → length is ≡ length ns → map (λ (r : Listed). r.number) (listed epoch since is ns) ≡ numbers_at since ns
numbers_listed epoch since [] [] e = refl
numbers_listed epoch since [] (n ∷ ns) e = absurd (omega (arith, e))
numbers_listed epoch since (i ∷ is) [] e = absurd (omega (arith, e))
numbers_listed epoch since (i ∷ is) (n ∷ ns) e = ap (λ l. number_at since n ∷ l) (numbers_listed epoch since is ns (omega (arith, e)))

indexes_listed : (epoch : ℕ) (since : List Accepted) (is ns : List ℕ) → length is ≡ length ns → map (λ (r : Listed). r.index) (listed epoch since is ns) ≡ is
indexes_listed epoch since [] [] e = refl
indexes_listed epoch since [] (n ∷ ns) e = absurd (omega (arith, e))
indexes_listed epoch since (i ∷ is) [] e = absurd (omega (arith, e))
indexes_listed epoch since (i ∷ is) (n ∷ ns) e = ap (λ l. i ∷ l) (indexes_listed epoch since is ns (omega (arith, e)))

each_listed : (P : Listed → Type 0) (epoch : ℕ) (since : List Accepted) (is ns : List ℕ) → ((i n : ℕ) → IsIn n ns → P (listed_at epoch since i n)) → AllByRecursion P (listed epoch since is ns)
each_listed P epoch since [] ns each = tt
each_listed P epoch since (i ∷ is) [] each = tt
each_listed P epoch since (i ∷ is) (n ∷ ns) each = (each i n (inl refl), each_listed P epoch since is ns (λ j k m. each j k (inr m)))

-- A log that has these items, where the disks name those and the others are pending.
module _ (targets : ℕ) (o : Spoken) (sets : SetsOfParts) (base : History) (since : List Accepted) (apart : Apart since) (at_home : Each (λ n x. home_of targets (request_of x).op ≡ Some (master x)) since)
    (position : Each (λ n a. a.batch ≡ suc (count_home (master a) (take n since))) since) (disk pend : ℕ → List ℕ) (t : ℕ) (indexes items : List ℕ) where
  abbrev shown : State
  shown = state_with targets o base since disk pend

  module _ (distinct : Rising items) (known : (n : ℕ) → IsIn n items → (n < length since) × (is_on (at since n) t ≡ true) × ((has n (disk t) ≡ true) ⊎ IsIn (number_at since n) (numbers_at since (pend t)))) where
    is_listed : (i n : ℕ) → IsIn n items → IsListed shown t (listed_at o.epoch since i n)
    is_listed i n m =
        let k = known n m in (
          entry_at disk n (at since n),
          entry_here disk since n k.0,
          refl,
          sets t (at since n).parts ∙ k.1,
          k.2,
          refl,
          refl,
          at_home n k.0,
          position n k.0 ∙ sym (position_is targets disk (master (at since n)) since 0 n apart at_home k.0),
        )

    pub lists : ((n : ℕ) → IsIn n (pend t) → IsIn n items) → ((n : ℕ) → IsIn n (disk t) → (Full disk n (at since n) → ⊥) → IsIn n items) → Rising indexes → length indexes ≡ length items
        → Lists shown t (listed o.epoch since indexes items)
    lists pends each rises many =
        let numbers = numbers_listed o.epoch since indexes items many in
        record {
          distinct = subst AreDistinct (sym numbers) (distinct_numbers since apart items distinct (λ k m. (known k m).0));
          rising = subst Rising (sym (indexes_listed o.epoch since indexes items many)) rises;
          each = each_listed (IsListed shown t) o.epoch since indexes items is_listed;
          pending = mem_all (λ n. IsIn n (map (λ (r : Listed). r.number) (listed o.epoch since indexes items))) (numbers_at since (pend t))
              (λ number m. let k = in_numbers since apart (pend t) number m in
              subst (λ l. IsIn number l) (sym numbers) (subst (λ n. IsIn n (numbers_at since items)) (sym k.2) (number_in since apart items k.0 (pends k.0 k.1))));
          live = all_entries (λ e. e.named t ≡ true → all_named targets e ≡ false → IsIn (number e) (map (λ (r : Listed). r.number) (listed o.epoch since indexes items))) disk since
              (λ n l here part. subst (λ l. IsIn (number_at since n) l) (sym numbers)
              (number_in since apart items n (each n (has_mem n (disk t) here) (λ full. true≢false (sym (full_named sets disk n (at since n) full targets) ∙ part)))));
        }

module _ (σ : Setting) (h : History) (w : World) (r : Reached σ.targets h w) (sent : ℕ → Request) (known : IsSent sent (h ++ entries_of w.since)) (o : Spoken) (sets : SetsOfParts) (t : ℕ) (indexes : List ℕ) where
  abbrev i : Invariant σ.targets w
  i = inv σ h w r

  far_apart : Apart w.since
  far_apart = far σ h w r sent known

  at_homes : Each (λ n x. home_of σ.targets (request_of x).op ≡ Some (master x)) w.since
  at_homes = homes σ.targets w.base w.since i.follows

  -- between two recoveries
  pub log_says : Rising indexes → length indexes ≡ length (live (w.done t) (w.gone t)) → Lists (state_of σ.targets o w) t (listed o.epoch w.since indexes (live (w.done t) (w.gone t)))
  log_says rises many =
      let fits = log_fits σ w i t in
      lists σ.targets o sets w.base w.since far_apart at_homes i.numbered.position w.disk (pending w) t indexes (live (w.done t) (w.gone t)) fits.distinct
      (λ n m. let k = fits.known n m in (k.0, k.1, executed n k.2)) fits.pends fits.each rises many
    where
      executed : (n : ℕ) → IsIn n (w.done t) → (has n (w.disk t) ≡ true) ⊎ IsIn (number_at w.since n) (numbers_at w.since (pending w t))
      executed n m = ⊎_elim (λ here. inl (mem_has n (w.disk t) here)) (λ pends. inr (number_in w.since far_apart (pending w t) n pends))
          (mem_append (w.disk t) (pending w t) n (subst (λ l. IsIn n l) (pends_behind σ w i t) m))

  -- in a recovery, where nothing is pending
  module _ (disks : ℕ → List ℕ) (mark : ℕ → ℕ) (gone : ℕ → List ℕ) (kept : ℕ → Bool) (g : Gathered σ.targets w.base w.since disks mark gone kept) where
    pub redone_log : Rising indexes → length indexes ≡ length (live (disks t) (gone t)) → Lists (gathered_state σ.targets o w.base w.since disks) t (listed o.epoch w.since indexes (live (disks t) (gone t)))
    redone_log rises many =
        let fits = redo_old σ w.base w.since disks mark gone kept g t in
        lists σ.targets o sets w.base w.since far_apart at_homes i.numbered.position disks (λ s. []) t indexes (live (disks t) (gone t)) fits.distinct
        (λ n m. let k = fits.known n m in (k.0, k.1, inl (mem_has n (disks t) (live_in (disks t) (gone t) n m)))) (λ n m. absurd m) fits.each rises many

    -- a log that was emptied lists nothing
    pub emptied_log : ((s : ℕ) → Redo w.since disks mark gone s []) → Lists (gathered_state σ.targets o w.base w.since disks) t []
    emptied_log nothing_left =
        lists σ.targets o sets w.base w.since far_apart at_homes i.numbered.position disks (λ s. []) t [] [] tt (λ n m. absurd m) (λ n m. absurd m)
        (λ n m part. let k = g.known t n m in
        absurd (part (λ s on. subst (λ xs. IsIn n xs) (append-nil (disks s)) (redone_all σ w.base w.since disks mark gone kept g s [] (nothing_left s) n k.0 ((g.named n k.0).1 (t, m)) on)))) tt refl
