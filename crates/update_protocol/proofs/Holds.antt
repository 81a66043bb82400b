-- Events that change who holds a target.
use Rattle.object_store.specs.Reads.{reads}
use Rattle.out_update.specs.declared.result.UpdateResult.{UpdateResult}
use Rattle.out_update.specs.declared.update.Update.{Update}
use Rattle.std.proofs.Common.{List, None, Option, Some, ap, arith, inl, inr, le_refl, le_trans, length, max, subst, sym, true, ℕ, ⊎_elim, ◌<◌, ◌∙◌, ◌∷◌, ◌≡◌, ◌≢◌, ◌≤◌, ◌⊎◌}
use Rattle.std.specs.Prelude.{map}
use Rattle.update_protocol.proofs.Basics.{ended_more, put_same, put_at, put_two_same}
use Rattle.update_protocol.proofs.Invariant.{Current, Invariant, Says, Told}
use Rattle.update_protocol.proofs.Messages.{says_more}
use Rattle.update_protocol.proofs.Setting.{Setting}
use Rattle.update_protocol.proofs.Shares.{share_made}
use Rattle.update_protocol.proofs.Syncs.{syncing_more, syncing_push}
use Rattle.update_protocol.specs.Events.{Hold_comes, Hold_takes_over, IsFact, May, Tells, happens}
use Rattle.update_protocol.specs.Lists.{IsIn, put, put_two}
use Rattle.tree_shares.specs.Seats.{Share}
use Rattle.update_protocol.specs.World.{Attempt, Each, Held, Hold, Who, World, at, is_on, wrote_of}

module _ (σ : Setting) where
  -- what a target that an attempt holds has executed
  pub all_done : (w : World) → Invariant σ.targets w → (t : ℕ) (a : Attempt) → w.up t ≡ true → w.trying a.who.master ≡ Some a
      → ((b : Attempt) → w.holder t ≡ Some b → b.who ≡ a.who) → Each (λ n x. is_on x t ≡ true → IsIn n (w.done t)) w.since
  all_done w i t a up trying same n l on =
      let c : Current σ.targets w.base w.since w.up w.holder w.turns a.who.master a = i.holding.current a.who.master a trying in
      ⊎_elim (λ h. h) (λ (e : w.holder t ≡ Some (at w.since n).attempt). absurd (c.not_yet n l (same (at w.since n).attempt e))) (i.holding.waits n l t up on)

  -- what the node tells is what a Held is to tell
  pub told_now : (w : World) → Invariant σ.targets w → (t : ℕ) (q : List Update) (k : Option ℕ) (f : List UpdateResult) → IsFact σ.targets w t q f → t < σ.targets → w.up t ≡ true → Each (λ n x. is_on x t ≡ true → IsIn n (w.done t)) w.since
      → Tells σ.targets w t q k → Told σ.targets w.base w.since w.disk t q k (w.clock t) f
  told_now w i t q None f fact lt up all tells = record {
    still = fact ∙ ap (λ (s : Share). map (reads s.objects) q) (share_made σ w i t lt all);
    clocks = λ n l on. i.executed.clocked t n up (all n l on);
    nobody_else = λ e g asks n l on wrote. tells g asks n (all n l on) wrote;
    last = λ k e. absurd (grind arith);
  }
  told_now w i t q (Some k) f fact lt up all tells = record {
    still = fact ∙ ap (λ (s : Share). map (reads s.objects) q) (share_made σ w i t lt all);
    clocks = λ n l on. i.executed.clocked t n up (all n l on);
    nobody_else = λ e. absurd (grind arith);
    last = λ j e g asks. let same : k ≡ j = grind arith in let told = tells.1 g asks in
        subst (λ j. (j < length w.since) × (wrote_of (at w.since j) g ≡ true) × Each (λ n a. is_on a t ≡ true → wrote_of a g ≡ true → n ≤ j) w.since) same
        ((i.executed.known_done t k tells.0).0, told.0, λ n l on wrote. told.1 n (all n l on) wrote);
  }

  -- a Held is sent where the attempt is, or comes to be, the holder
  held_means : (w : World) → Invariant σ.targets w → (a : Attempt) (t : ℕ) (q : List Update) (k : Option ℕ) (f : List UpdateResult) → IsFact σ.targets w t q f → t < σ.targets → IsIn (Hold a t q) w.pool → w.up t ≡ true
      → ((b : Attempt) → w.holder t ≡ Some b → b.who ≡ a.who) → Tells σ.targets w t q k
      → Says σ.targets w.base w.since w.disk (put w.holder t (Some a)) w.trying w.turns w.batches w.kept_mark (Held a t q k (w.clock t) f)
  held_means w i a t q k f fact lt sent up same tells =
      ((i.messages (Hold a t q) sent).0, lt, λ trying. (put_same w.holder t (Some a), told_now w i t q k f fact lt up (all_done w i t a up trying same) tells))

  -- the holder of t becomes a, where it was a, nobody, or an attempt of the same number with an earlier turn
  abbrev pub Gives : World → ℕ → Attempt → Type 0
  Gives w t a = (b : Attempt) → w.holder t ≡ Some b → (b.who ≡ a.who) × ((b ≡ a) ⊎ (b.turn < a.turn))

  -- a current attempt isn't put out
  stays : (w : World) → Invariant σ.targets w → (t : ℕ) (a : Attempt) → a.turn ≤ w.turns a.who.master → Gives w t a
      → (b : Attempt) (s : ℕ) → w.trying (b.who.master) ≡ Some b → w.holder s ≡ Some b → put w.holder t (Some a) s ≡ Some b
  stays w i t a turn gives b s trying = put_at (λ s x. w.holder s ≡ Some b → x ≡ Some b) w.holder t (Some a) s
      (λ h. let g = gives b h in ⊎_elim (λ (e : b ≡ a). ap Some (sym e))
      (λ (lt : b.turn < a.turn). let c : Current σ.targets w.base w.since w.up w.holder w.turns (b.who.master) b = i.holding.current (b.who.master) b trying in
      let le : a.turn ≤ w.turns (b.who.master) = subst (λ (x : Who). a.turn ≤ w.turns x.master) (sym g.0) turn in absurd (omega (arith, lt, le, c.last_turn))) g.1)
      (λ d h. h)

  tells_new : (w : World) (t : ℕ) (q : List Update) (k : Option ℕ) → Tells σ.targets w t q k → (j : ℕ) → k ≡ Some j → IsIn j (w.disk t) → ⊥
  tells_new w t q None tells j e h = absurd (grind arith)
  tells_new w t q (Some k) tells j e h = let same : k ≡ j = grind arith in tells.2 (subst (λ n. IsIn n (w.disk t)) (sym same) h)

  keeps_given : (w : World) → Invariant σ.targets w → (a : Attempt) (t : ℕ) (q : List Update) (k : Option ℕ) (f : List UpdateResult) → IsFact σ.targets w t q f → t < σ.targets → (ended' : ℕ → ℕ → ℕ) → IsIn (Hold a t q) w.pool → w.up t ≡ true
      → Gives w t a → Tells σ.targets w t q k
      → ((b : Attempt) → w.holder t ≡ Some b → b.turn < a.turn → b.turn ≤ ended' t b.who.master)
      → ((s m : ℕ) → w.ended s m ≤ ended' s m)
      → ((w.holder t ≡ Some a) ⊎ (w.ended t a.who.master < a.turn))
      → Invariant σ.targets (record w { holder = put w.holder t (Some a); ended = ended'; pool = Held a t q k (w.clock t) f ∷ w.pool })
  keeps_given w i a t q k f fact lt ended' sent up gives tells outs more free =
      let means = i.messages (Hold a t q) sent in
      let stay = stays w i t a means.0 gives in
      record {
        grounded = i.grounded;
        numbered = i.numbered;
        syncing = syncing_push σ w.since w.pool w.up w.done w.disk w.trying (put w.holder t (Some a)) ended' w.serving (Held a t q k (w.clock t) f)
            (syncing_more σ w.since w.pool w.up w.up w.done w.done w.disk w.disk w.trying w.trying w.holder (put w.holder t (Some a)) w.ended ended' w.serving w.serving (record {
              downs = λ s d. d;
              ups = λ s u. u;
              serves = λ e. e;
              goes = λ a s k m on c. inl c;
              holds = λ b s u h sub. put_at (λ s x. w.holder s ≡ Some b → ((n : ℕ) → IsIn n (w.done s) → IsIn n (w.disk s)) → ((x ≡ Some b) × ((n : ℕ) → IsIn n (w.done s) → IsIn n (w.disk s))) ⊎ ((x ≢ Some b) × (b.turn ≤ ended' s b.who.master))) w.holder t (Some a) s
                  (λ h z. ⊎_elim (λ (e : b ≡ a). inl (ap Some (sym e), z)) (λ (lt : b.turn < a.turn). inr ((λ e. let same : a ≡ b = grind arith in absurd (let q : a.turn ≡ b.turn = ap (λ (x : Attempt). x.turn) same in omega (arith, lt, q))), outs b h lt)) (gives b h).1) (λ d h z. inl (h, z)) h sub;
              never = λ b s m u out le. put_at (λ s x. w.holder s ≢ Some b → b.turn ≤ w.ended s b.who.master → x ≢ Some b) w.holder t (Some a) s
                  (λ out le e. let same : a ≡ b = grind arith in ⊎_elim (λ (h : w.holder t ≡ Some a). out (h ∙ ap Some same))
                  (λ (lt : w.ended t a.who.master < a.turn). let le' : a.turn ≤ w.ended t a.who.master = subst (λ (x : Attempt). x.turn ≤ w.ended t x.who.master) (sym same) le in omega (arith, lt, le')) free)
                  (λ d out le. out) out le;
              ends = more;
              stays = λ b s q k c f m is u h old n g. old h n g;
              back = λ b s q k c f m is. is;
            }) i.syncing)
            (tells_new w t q k tells);
        follows = i.follows;
        tearing = i.tearing;
        durable = i.durable;
        executed = i.executed;
        marking = i.marking;
        holding = record {
          waits = λ n l s u on. ⊎_elim (λ h. inl h)
              (λ (e : w.holder s ≡ Some (at w.since n).attempt). put_at (λ s x. w.holder s ≡ Some (at w.since n).attempt → IsIn n (w.done s) ⊎ (x ≡ Some (at w.since n).attempt)) w.holder t (Some a) s
              (λ h. let g = gives (at w.since n).attempt h in ⊎_elim (λ (q : (at w.since n).attempt ≡ a). inr (ap Some (sym q)))
              (λ (lt : (at w.since n).attempt.turn < a.turn). absurd (let le = means.1 n l (sym g.0) in omega (arith, lt, le))) g.1)
              (λ d h. inr h) e)
              (i.holding.waits n l s u on);
          once = λ n l s u h. let old = i.holding.once n l s u h in (
            put_at (λ s x. w.up s ≡ true → IsIn n (w.done s) → x ≢ Some (at w.since n).attempt) w.holder t (Some a) s
                (λ u h e. let q₁ : a ≡ (at w.since n).attempt = grind arith in let was = i.holding.once n l t u h in
                ⊎_elim (λ (g : w.holder t ≡ Some a). was.0 (g ∙ ap Some q₁))
                (λ (lt : w.ended t a.who.master < a.turn). let le : a.turn ≤ w.ended t a.who.master = subst (λ (x : Attempt). x.turn ≤ w.ended t (x.who.master)) (sym q₁) was.1 in omega (arith, lt, le)) free)
                (λ d u h. (i.holding.once n l s u h).0) u h,
            le_trans old.1 (more s _),
          );
          over = i.holding.over;
          distinct = i.holding.distinct;
          current = λ m b e. let c : Current σ.targets w.base w.since w.up w.holder w.turns m b = i.holding.current m b e in
              record {
                is_home = c.is_home;
                last_turn = c.last_turn;
                at_home = c.at_home;
                newest = c.newest;
                not_yet = c.not_yet;
                holds = stay b m (subst (λ x. w.trying x ≡ Some b) (sym c.is_home) e) c.holds;
              };
        };
        messages = λ p m. ⊎_elim
            (λ (e : p ≡ Held a t q k (w.clock t) f). subst (λ p. Says σ.targets w.base w.since w.disk (put w.holder t (Some a)) w.trying w.turns w.batches w.kept_mark p) (sym e) (held_means w i a t q k f fact lt sent up (λ b h. (gives b h).0) tells))
            (λ (h : IsIn p w.pool). says_more σ w.base w.since w.disk w.disk w.holder (put w.holder t (Some a)) w.trying w.trying w.turns w.turns w.batches w.batches w.kept_mark w.kept_mark
            (record { disks = λ t n h. h; turn = λ m. le_refl _; batch = λ m. le_refl _; marks = λ m. le_refl _; back = λ a l e. e; holds = λ b s l e h. stay b s e h }) p (i.messages p h)) m;
      }

  pub keeps_hold : (w : World) → Invariant σ.targets w → (a : Attempt) (t : ℕ) (q : List Update) (k : Option ℕ) (f : List UpdateResult) → May σ.targets w (Hold_comes a t q k f) → Invariant σ.targets (happens w (Hold_comes a t q k f))
  keeps_hold w i a t q k f may =
      let same : (b : Attempt) → w.holder t ≡ Some b → b ≡ a = λ b h. ⊎_elim (λ (e : w.holder t ≡ Some a). grind arith) (λ (f : (w.holder t ≡ None) × (w.ended t a.who.master < a.turn)). absurd (let g = f.0 in grind arith)) may.2 in
      keeps_given w i a t q k f may.4 may.5 w.ended may.0 may.1
      (λ b h. (ap (λ (x : Attempt). x.who) (same b h), inl (same b h)))
      may.3 (λ b h lt. absurd (let q : b.turn ≡ a.turn = ap (λ (x : Attempt). x.turn) (same b h) in omega (arith, lt, q))) (λ s m. le_refl _) (⊎_elim (λ e. inl e) (λ (f : (w.holder t ≡ None) × (w.ended t a.who.master < a.turn)). inr f.1) may.2)

  pub keeps_takes_over : (w : World) → Invariant σ.targets w → (a : Attempt) (t : ℕ) (q : List Update) (k : Option ℕ) (f : List UpdateResult) (b : Attempt) → May σ.targets w (Hold_takes_over a t q k f b) → Invariant σ.targets (happens w (Hold_takes_over a t q k f b))
  keeps_takes_over w i a t q k f b may =
      let same : (c : Attempt) → w.holder t ≡ Some c → b ≡ c = λ c h. let g = may.2 in grind arith in
      let ended' : ℕ → ℕ → ℕ = put_two w.ended t a.who.master (max (w.ended t a.who.master) b.turn) in
      let noted : b.turn ≤ ended' t b.who.master = subst (λ m. b.turn ≤ ended' t m) (ap (λ (y : Who). y.master) (sym may.3))
      (subst (λ v. b.turn ≤ v) (sym (put_two_same w.ended t a.who.master (max (w.ended t a.who.master) b.turn))) (omega arith)) in
      keeps_given w i a t q k f may.7 may.8 ended' may.0 may.1
      (λ c h. subst (λ (c : Attempt). (c.who ≡ a.who) × ((c ≡ a) ⊎ (c.turn < a.turn))) (same c h) (may.3, inr may.4))
      may.6 (λ c h lt. subst (λ (c : Attempt). c.turn ≤ ended' t c.who.master) (same c h) noted) (ended_more w.ended t a.who.master b.turn) (inr may.5)
