-- A sync that finds something uncommitted has its cause.
use Rattle.tree_model.specs.Laws.{Among}
use Rattle.op_laws.specs.Near.{key_fid}
use Rattle.fid_space.specs.Targets.{is_member}
use Rattle.fid_space.specs.declared.fid.Fid.{Fid}
use Rattle.object_store.specs.Reads.{reads}
use Rattle.op_laws.specs.Objects.{owner}
use Rattle.out_update.specs.declared.result.UpdateResult.{UpdateResult}
use Rattle.out_update.specs.declared.update.Update.{Update}
use Rattle.std.proofs.Common.{List, Some, [], ap, arith, false, inl, inr, length, refl, subst, suc, sym, true, true≢false, zero, ℕ, ⊎_elim, ◌++◌, ◌<◌, ◌∙◌, ◌∷◌, ◌≡◌, ◌≤◌, ◌⊎◌}
use Rattle.std.specs.Prelude.{map, zip}
use Rattle.tree_model.specs.Keys.{Key}
use Rattle.tree_model.specs.Looks.{looks}
use Rattle.tree_shares.specs.Parts.{parts}
use Rattle.tree_shares.specs.Shares.{share}
use Rattle.update_protocol.proofs.Hearing.{mem_join, mem_zip, zip_true}
use Rattle.update_protocol.proofs.Holds.{all_done}
use Rattle.update_protocol.proofs.Invariant.{Invariant, Told}
use Rattle.update_protocol.proofs.LetsGo.{some_same}
use Rattle.update_protocol.proofs.Members.{member_of_parts}
use Rattle.update_protocol.proofs.Redone.{mem_append, mem_back}
use Rattle.update_protocol.proofs.Seating.{ops_after}
use Rattle.update_protocol.proofs.Setting.{Setting}
use Rattle.update_protocol.proofs.Shares.{wrote_is}
use Rattle.update_protocol.proofs.Showing.{pends_behind, rest_apart}
use Rattle.update_protocol.specs.Events.{Backed}
use Rattle.update_protocol.specs.Facts.{AreTrue, Asks, Decides, Fact, Fits, is_told, laid, place}
use Rattle.update_protocol.specs.Lists.{IsIn, Rising}
use Rattle.update_protocol.specs.Near.{Cause}
use Rattle.update_protocol.specs.Recovery.{before_item}
use Rattle.update_protocol.specs.Rows.{pending}
use Rattle.tree_shares.specs.Seats.{share_of}
use Rattle.update_protocol.specs.World.{Accepted, Answer, Attempt, Each, Follows, Held, History, Matches, Sync, Synced, World, after_items, at, facts_of, grown, is_on, request_of, wrote_of}
use Rattle.update_record.specs.Spelling.{has_target}

matches_at : (o : ℕ) (h : History) (xs : List Accepted) → Follows o h xs → Each (λ n x. Matches o (before_item h xs n) x) xs
unfolding at
matches_at o h [] f n l = absurd (omega (arith, l))
matches_at o h (x ∷ xs) f zero l = f.0
matches_at o h (x ∷ xs) f (suc n) l = matches_at o (grown h x) xs f.1 n (omega (arith, l))

zip_has : (f : Update → UpdateResult) (q : List Update) (u : Update) → IsIn u q → IsIn (u, f u) (zip q (map f q))
zip_has f [] u h = absurd h
zip_has f (v ∷ q) u (inl e) = inl (ap (λ u. (u, f u)) e)
zip_has f (v ∷ q) u (inr h) = inr (zip_has f q u h)

mem_join_left : {A : Type 0} (xs ys : List A) (x : A) → IsIn x xs → IsIn x (xs ++ ys)
mem_join_left [] ys x h = absurd h
mem_join_left (z ∷ xs) ys x (inl e) = inl e
mem_join_left (z ∷ xs) ys x (inr h) = inr (mem_join_left xs ys x h)

mem_join_right : {A : Type 0} (xs ys : List A) (x : A) → IsIn x ys → IsIn x (xs ++ ys)
mem_join_right [] ys x h = h
mem_join_right (z ∷ xs) ys x h = inr (mem_join_right xs ys x h)

facts_have : (answers : List Answer) (a : Answer) (p : Fact) → IsIn a answers → IsIn p (zip a.question a.results) → IsIn p (facts_of answers)
facts_have [] a p h g = absurd h
facts_have (b ∷ more) a p (inl e) g = mem_join_left (zip b.question b.results) (facts_of more) p (subst (λ (b : Answer). IsIn p (zip b.question b.results)) e g)
facts_have (b ∷ more) a p (inr h) g = mem_join_right (zip b.question b.results) (facts_of more) p (facts_have more a p h g)

asks_is : (targets : ℕ) (q : List Update) (f : Fid) → Asks targets q f → (u : Update) × IsIn u q × (u.fid ≡ f) × (is_told targets u ≡ true)
asks_is targets [] f h = absurd h
asks_is targets (u ∷ q) f (inl h) = (u, inl refl, h.0, h.1)
asks_is targets (u ∷ q) f (inr h) = let r = asks_is targets q f h in (r.0, inr r.1, r.2, r.3)

module _ (σ : Setting) (w : World) (i : Invariant σ.targets w) (few : length (after_items w.base w.since) < 0x0ffffffe) (a : Attempt) (t k : ℕ)
    (sent : IsIn (Sync a t k) w.pool) (up : w.up t ≡ true) (n : ℕ) (uncommitted : IsIn n (pending w t)) where
  now : History
  now = after_items w.base w.since

  executed_here : IsIn n (w.done t)
  executed_here = subst (λ l. IsIn n l) (sym (pends_behind σ w i t)) (mem_back (w.disk t) (pending w t) n uncommitted)

  not_named : IsIn n (w.disk t) → ⊥
  not_named h = rest_apart (w.disk t) (pending w t) (subst Rising (pends_behind σ w i t) (i.executed.in_order t)) n uncommitted h

  module _ (trying : w.trying a.who.master ≡ Some a) where
    b : Backed σ.targets w.since w.pool a t k
    b = i.syncing.backed a t k sent

    held : (c : Answer) → IsIn c b.answers → (w.holder c.at ≡ Some a) × Told σ.targets w.base w.since w.disk c.at c.question c.writer c.clock c.results
    unfolding b
    held c h = (i.messages (Held a c.at c.question c.writer c.clock c.results) ((i.syncing.backed a t k sent).heard c h)).2 trying

    true_fact : (c : Answer) → IsIn c b.answers → (u : Update) (r : UpdateResult) → IsIn (u, r) (zip c.question c.results) → r ≡ reads (share σ.targets (laid σ.targets now) (place σ.targets u.fid)) u
    unfolding now b
    true_fact c h u r g =
        let told = (held c h).1 in
        subst (λ t. r ≡ reads (share σ.targets (laid σ.targets now) t) u) (b.placed c h u (mem_zip c.question c.results u r g))
        (zip_true (reads (share σ.targets (laid σ.targets now) c.at)) c.question u r (subst (λ rs. IsIn (u, r) (zip c.question rs)) told.still g))

    facts_true : (cs : List Answer) → ((c : Answer) → IsIn c cs → IsIn c b.answers) → AreTrue σ.targets (laid σ.targets now) (facts_of cs)
    facts_true [] sub u r h = absurd h
    facts_true (c ∷ more) sub u r h = ⊎_elim
        (λ (g : IsIn (u, r) (zip c.question c.results)). true_fact c (sub c (inl refl)) u r g)
        (λ (g : IsIn (u, r) (facts_of more)). facts_true more (λ d j. sub d (inr j)) u r g)
        (mem_join (zip c.question c.results) (facts_of more) (u, r) h)

    fits : Fits σ.targets now
    unfolding now
    fits = record { each = ops_after σ.targets w.base w.since i.grounded.each i.follows; few = few }

    decision : Decides σ.targets (laid σ.targets now) (facts_of b.answers) b.batch a.who.request.op b.decision
    decision = b.decided now fits (facts_true b.answers (λ c h. h))

    asked : (u : Update) × IsIn u b.answer.question × (u.fid ≡ b.object) × (is_told σ.targets u ≡ true)
    asked = asks_is σ.targets b.answer.question b.object b.asks

    told : Told σ.targets w.base w.since w.disk b.answer.at b.answer.question b.answer.writer b.answer.clock b.answer.results
    told = (held b.answer b.answered).1

    last : (k < length w.since) × (wrote_of (at w.since k) b.object ≡ true) × Each (λ n x. is_on x b.answer.at ≡ true → wrote_of x b.object ≡ true → n ≤ k) w.since
    last = told.last k b.writer b.object b.asks

    here : is_on (at w.since k) t ≡ true
    here = subst (λ s. is_on (at w.since k) s ≡ true) (ap (place σ.targets) (sym asked.2) ∙ sym (b.placed b.answer b.answered asked.0 asked.1) ∙ b.at_t) (i.durable.covered k last.0 b.object last.1)

    holds : w.holder t ≡ Some a
    holds = subst (λ s. w.holder s ≡ Some a) b.at_t (held b.answer b.answered).0

    done : IsIn k (w.done t)
    done = all_done σ w i t a up trying (λ c h. ap (λ (x : Attempt). x.who) (some_same c a (sym h ∙ holds))) k last.0 here

    not_committed : IsIn k (w.disk t) → ⊥
    unfolding b
    not_committed h = not_named (i.syncing.whole a t b.answer.question k b.answer.clock b.answer.results
        (subst (λ wr. IsIn (Held a t b.answer.question wr b.answer.clock b.answer.results) w.pool) b.writer
        (subst (λ s. IsIn (Held a s b.answer.question b.answer.writer b.answer.clock b.answer.results) w.pool) b.at_t (b.heard b.answer b.answered)))
        trying up h n executed_here)

    looked : (key : Key) × Among (looks σ.targets (laid σ.targets now).tree a.who.request.op) key × (key_fid key ≡ owner σ.targets asked.0.fid)
    looked =
        let fact : IsIn (asked.0, reads (share_of σ.targets (after_items w.base w.since) b.answer.at).objects asked.0) (zip b.answer.question b.answer.results) =
        subst (λ rs. IsIn (asked.0, reads (share_of σ.targets (after_items w.base w.since) b.answer.at).objects asked.0) (zip b.answer.question rs)) (sym told.still)
        (zip_has (reads (share_of σ.targets (after_items w.base w.since) b.answer.at).objects) b.answer.question asked.0 asked.1) in
        decision.asked_near asked.0 (reads (share_of σ.targets (after_items w.base w.since) b.answer.at).objects asked.0)
        (facts_have b.answers b.answer (asked.0, reads (share_of σ.targets (after_items w.base w.since) b.answer.at).objects asked.0) b.answered fact) asked.3

    cause_now : Cause σ.targets w t k a.who.request
    unfolding now
    cause_now =
        let m : Matches σ.targets (before_item w.base w.since k) (at w.since k) = matches_at σ.targets w.base w.since i.follows k last.0 in
        let near = σ.laws.wrote_near (before_item w.base w.since k) (at w.since k).batch (request_of (at w.since k)).op b.object m.fits m.is_op (sym (wrote_is σ.targets σ.laws (before_item w.base w.since k) (at w.since k) m b.object) ∙ last.1) in
        record {
          pends = ⊎_elim (λ (h : IsIn k (w.disk t)). absurd (not_committed h)) (λ (h : IsIn k (pending w t)). h) (mem_append (w.disk t) (pending w t) k (subst (λ l. IsIn k l) (pends_behind σ w i t) done));
          near = record {
            node = owner σ.targets b.object;
            written = near.0;
            writes = near.1;
            of_written = near.2;
            one = near.3;
            looked = looked.0;
            looks = looked.1;
            of_looked = looked.2 ∙ ap (owner σ.targets) asked.2;
          };
          lacks = b.lacks;
          takes_part = subst (λ s. is_member s b.lacks ≡ true) (σ.laws.on_is now b.batch a.who.request.op fits b.is_op)
              (member_of_parts (parts σ.targets b.batch (laid σ.targets now) a.who.request.op) 0 b.lacks (inr (ap (λ ps. has_target b.lacks ps) (sym decision.parts) ∙ b.takes_part)));
          uncovered = b.uncovered;
        }

  pub cause : w.serving ≡ true → w.holder t ≡ Some a → Cause σ.targets w t k a.who.request
  cause on holder = ⊎_elim
      (λ (trying : w.trying a.who.master ≡ Some a). cause_now trying)
      (λ (other : (w.up t ≡ false) ⊎ IsIn (Synced a t) w.pool). ⊎_elim (λ (d : w.up t ≡ false). absurd (true≢false (sym up ∙ d)))
      (λ (s : IsIn (Synced a t) w.pool). ⊎_elim (λ (h : (w.holder t ≡ Some a) × ((n : ℕ) → IsIn n (w.done t) → IsIn n (w.disk t))). absurd (not_named (h.1 n executed_here)))
      (λ (h : (w.holder t ≡ Some a → ⊥) × (a.turn ≤ w.ended t a.who.master)). absurd (h.0 holder)) (i.syncing.synced a t s up)) other)
      (i.syncing.awaited a t k sent on)
