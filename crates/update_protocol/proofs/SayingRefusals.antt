-- Why a request isn't served, and why a commit is shared for one.
use Rattle.std.proofs.Common.{◌≡◌, ◌≢◌, ◌<◌, ℕ, zero, suc, true, false, if◌then◌else◌, ◌++◌, ◌+◌, Some, List, [], ◌∷◌, length, refl, sym, ap, ◌∙◌, subst, inl, inr, arith}
use Rattle.std.specs.Prelude.{map}
use Rattle.std.proofs.lemmas.Bool.Decides.{eqb_tells}
use Rattle.fid_space.specs.Targets.{is_member}
use Rattle.op_laws.specs.Near.{IsNear}
use Rattle.tree_model.specs.Keys.{Laid}
use Rattle.tree_model.specs.Kept.{laid_of}
use Rattle.tree_model.specs.Striped.{on}
use Rattle.tree_model.specs.declared.op.Request.{Request}
use Rattle.update_protocol.specs.Epochs.{Reached}
use Rattle.update_protocol.specs.Events.{AreHeard}
use Rattle.update_protocol.specs.Facts.{Imply, laid}
use Rattle.update_protocol.specs.Lists.{IsIn}
use Rattle.update_protocol.specs.Machine.{IsFull, IsRecovering, IsShared, Needs, Serving, State, entries_before, history_of, room_of}
use Rattle.update_protocol.specs.Near.{Cause}
use Rattle.update_protocol.specs.Parts.{IsSent, entries_of}
use Rattle.update_protocol.specs.Recovery.{before_item}
use Rattle.update_protocol.specs.Rows.{pending}
use Rattle.update_protocol.specs.Seats.{is_read}
use Rattle.update_protocol.specs.States.{Spoken, entries_at, entry_at, number_at, state_of}
use Rattle.update_protocol.specs.World.{Accepted, Answer, Attempt, History, Sync, World, at, entry, facts_of, grown, request_of}
use Rattle.update_protocol.proofs.Causes.{cause}
use Rattle.update_protocol.proofs.Naming.{Apart, number_in}
use Rattle.update_protocol.proofs.Saying.{SetsOfParts, entry_here, far, inv, pends_known}
use Rattle.update_protocol.proofs.SayingAccept.{grown_is, history_is, whole_is}
use Rattle.update_protocol.proofs.SayingAnswers.{implied}
use Rattle.update_protocol.proofs.Setting.{Setting}

-- the entries before one, as a history
before_is : (disk : ℕ → List ℕ) (h : History) (xs : List Accepted) (k j : ℕ) → Apart xs → j < length xs → h ++ map (λ e. e.item) (entries_before (number_at xs j) (entries_at disk k xs)) ≡ before_item h xs j
unfolding at
before_is disk h [] k j apart l = absurd (omega (arith, l))
before_is disk h (x ∷ xs) k zero apart l = elim (eqb_tells (request_of x).number (request_of x).number) [
  | inl w ↦ ap (λ b. h ++ map (λ e. e.item) (if b then [] else entry_at disk k x ∷ entries_before (request_of x).number (entries_at disk (suc k) xs))) w.0 ∙ nothing h
  | inr w ↦ absurd (w.1 refl)
]
  where
    nothing : (h : History) → h ++ [] ≡ h
    nothing [] = refl
    nothing (i ∷ h) = ap (λ g. i ∷ g) (nothing h)
before_is disk h (x ∷ xs) k (suc j) apart l =
    let n : ℕ = number_at xs j in
    let other : (request_of x).number ≢ n = λ e. apart 0 (suc j) (omega arith) l (sym e) in
    elim (eqb_tells (request_of x).number n) [
      | inl w ↦ absurd (other w.1)
      | inr w ↦ ap (λ b. h ++ map (λ e. e.item) (if b then [] else entry_at disk k x ∷ entries_before n (entries_at disk (suc k) xs))) w.0
          ∙ pushed h (map (λ e. e.item) (entries_before n (entries_at disk (suc k) xs)))
          ∙ before_is disk (grown h x) xs (suc k) j (λ a b lt in_xs. apart (suc a) (suc b) (omega (arith, lt)) (omega (arith, in_xs))) (omega (arith, l))
    ]
  where
    pushed : (h k : History) → h ++ entry x ∷ k ≡ (h ++ entry x ∷ []) ++ k
    pushed [] k = refl
    pushed (i ∷ h) k = ap (λ g. i ∷ g) (pushed h k)

module _ (σ : Setting) (h : History) (w : World) (r : Reached σ.targets h w) (sent : ℕ → Request) (known : IsSent sent (h ++ entries_of w.since)) (o : Spoken) where
  abbrev now : State
  now = state_of σ.targets o w

  module _ (m : ℕ) (a : Attempt) (current : w.trying m ≡ Some a) (was_sent : IsIn a.who.request o.sent) (few : length (h ++ entries_of w.since) < 0x0ffffffe) (answers : List Answer) (heard : AreHeard σ.targets w.pool a answers) where
    so : (P : Laid → Type 0) → Imply σ.targets (facts_of answers) P → P (laid_of σ.targets (history_of now))
    so P implies = subst (λ g. P (laid_of σ.targets g)) (history_is σ h w r sent known o) (implied σ h w r m a current answers heard few P implies)

    pub other_stopped : (t : ℕ) → Imply σ.targets (facts_of answers) (λ l. Needs σ.targets l a.who.request.op t) → (o.standing t ≡ Serving → ⊥) → IsRecovering now a.who.request.number t
    other_stopped t needs stopped = record { request = a.who.request; was_sent = was_sent; numbered = refl; stopped = stopped; needs = so (λ l. Needs σ.targets l a.who.request.op t) needs }

    pub full_says : is_read a.who.request.op ≡ false → o.standing m ≡ Serving → (t load : ℕ) → Imply σ.targets (facts_of answers) (λ l. is_member (on σ.targets l a.who.request.op) t ≡ true)
        → 5242880 < load + room_of a.who.request.op → IsFull now a.who.request.number t load (room_of a.who.request.op)
    full_says changes serves t load takes_part too_much = record {
      comes = record { request = a.who.request; was_sent = was_sent; numbered = refl; home = m; at_home = ((inv σ h w r).holding.current m a current).at_home; serves = serves };
      changes = changes;
      takes_part = so (λ l. is_member (on σ.targets l a.who.request.op) t ≡ true) takes_part;
      given = refl;
      too_much = too_much;
    }

  pub shared_says : SetsOfParts → length (h ++ entries_of w.since) < 0x0ffffffe → (a : Attempt) (t k : ℕ) → IsIn (Sync a t k) w.pool → w.serving ≡ true → w.up t ≡ true → w.holder t ≡ Some a → (n : ℕ) → IsIn n (pending w t)
      → IsIn a.who.request o.sent → IsShared now t a.who.request.number (number_at w.since k)
  shared_says sets few a t k asked serving up holder n pends was_sent =
      let c : Cause σ.targets w t k a.who.request = cause σ w (inv σ h w r) (subst (λ g. length g < 0x0ffffffe) (sym (grown_is σ h w r)) few) a t k asked up n pends serving holder in
      let l : k < length w.since = pends_known σ h w r sent known t k c.pends in
      let apart : Apart w.since = far σ h w r sent known in
      record {
        request = a.who.request;
        was_sent = was_sent;
        numbered = refl;
        entry = entry_at w.disk k (at w.since k);
        accepted = entry_here w.disk w.since k l;
        written_by = refl;
        pends = number_in w.since apart (pending w t) k c.pends;
        near = subst (λ g. IsNear σ.targets (laid σ.targets g) (request_of (at w.since k)).op (laid σ.targets (history_of now)) a.who.request.op) (sym (before_is w.disk w.base w.since 0 k apart l))
            (subst (λ g. IsNear σ.targets (laid σ.targets (before_item w.base w.since k)) (request_of (at w.since k)).op (laid σ.targets g) a.who.request.op) (whole_is σ h w r sent known o) c.near);
        lacks = c.lacks;
        takes_part = subst (λ g. is_member (on σ.targets (laid σ.targets g) a.who.request.op) c.lacks ≡ true) (whole_is σ h w r sent known o) c.takes_part;
        uncovered = sets c.lacks (at w.since k).parts ∙ c.uncovered;
      }
