-- Each turn keeps that what is awaited has a message.
use Rattle.std.proofs.Common.{List, None, Option, Some, [], ap, arith, inl, inr, le_refl, le_trans, map, max, refl, subst, suc, sym, ℕ, ⊎_elim, ◌++◌, ◌<◌, ◌∙◌, ◌∷◌, ◌≡◌, ◌≢◌, ◌≤◌, ◌⊎◌}
use Rattle.std.proofs.lemmas.Bool.Decides.{eqb_tells}
use Rattle.update_protocol.proofs.Basics.{none_less, ended_more, put_same, put_at}
use Rattle.update_protocol.proofs.LetsGo.{none_some, some_same}
use Rattle.update_protocol.specs.Lists.{IsIn, put}
use Rattle.update_protocol.specs.Progress.{Answer_ignored, Answer_taken, Ask, Asked, Asking, Asks, Execute, Execute_again, Execute_taken, Executed, Executed_taken, Finishes, Granted, Ignored, IsAnswer, IsAskOf, MayTurn, Moves, Note, Past, Reason, ReasonIn, Refused, Release, Release_noted, Release_taken, Released, Released_taken, Resends, Starts, Sync, Sync_ignored, Sync_taken, Synced, Syncs, Takes, Tells, Through, ThroughIn, Turn, Turns, Waits, answer, ends_at, idle, new_attempt, turned}
use Rattle.update_protocol.specs.World.{Attempt, Who}

-- how a turn may change what messages speak of
record Goes (w v : Asking) : Type 0 where
  past : (a : Attempt) → Past w.turns w.trying a → Past v.turns v.trying a
  turns : (m : ℕ) → w.turns m ≤ v.turns m
  through : (a : Attempt) (t : ℕ) → a.turn ≤ w.turns (a.who.master) → Through w a t → Through v a t
  reason : (a : Attempt) (t k : ℕ) → IsIn (Ask a t k) w.ever → Reason w a t → Reason v a t
  holds : (a : Attempt) (t : ℕ) → Past w.turns w.trying a → w.holder t ≡ Some a → (v.holder t ≡ Some a) ⊎ Through v a t

tells_more : (w v : Asking) → Goes w v → (p : Note) → IsIn p w.ever → Tells w p → Tells v p
tells_more w v g (Ask a t k) sent s = (le_trans s.0 (g.turns _), g.reason a t k sent s.1)
tells_more w v g (Asked a t k) sent s = tt
tells_more w v g (Sync a t k) sent s = tt
tells_more w v g (Synced a t k) sent s = tt
tells_more w v g (Execute a t) sent s = (g.past a s.0, ⊎_elim (λ (h : w.holder t ≡ Some a). g.holds a t s.0 h) (λ (q : Through w a t). inr (g.through a t s.0.0 q)) s.1)
tells_more w v g (Executed a t) sent s = (g.past a s.0, g.through a t s.0.0 s.1)
tells_more w v g (Release a t) sent s = g.past a s
tells_more w v g (Released a t) sent s = (g.past a s.0, g.through a t s.0.0 s.1)

-- replies are no asks
abbrev IsReply : Note → Type 0
IsReply (Ask b t k) = ⊥
IsReply (Sync b t k) = ⊥
IsReply (Asked b t k) = Unit
IsReply (Synced b t k) = Unit
IsReply (Execute b t) = ⊥
IsReply (Executed b t) = Unit
IsReply (Release b t) = ⊥
IsReply (Released b t) = Unit

reply_of : (q : Note) → IsReply (answer q)
reply_of (Ask b t k) = tt
reply_of (Sync b t k) = tt
reply_of (Asked b t k) = tt
reply_of (Synced b t k) = tt
reply_of (Execute b t) = tt
reply_of (Executed b t) = tt
reply_of (Release b t) = tt
reply_of (Released b t) = tt

-- an ask was delivered and its answer sent
waits_answered : (w : Asking) (p : Note) (left : List Note) → Takes w p left → (IsReply p → ⊥) → (q : Note) → Waits w.fresh q → Waits (answer p ∷ left) q
waits_answered w p left takes ask q (inl h) = ⊎_elim (λ (e : q ≡ p). inr (inl (ap answer e))) (λ (g : IsIn q left). inl (inr g)) (takes.rest q h)
waits_answered w p left takes ask q (inr h) = ⊎_elim (λ (e : answer q ≡ p). absurd (ask (subst (λ x. IsReply x) e (reply_of q)))) (λ (g : IsIn (answer q) left). inr (inr g)) (takes.rest (answer q) h)

-- something was delivered that q doesn't wait for
waits_left : (w : Asking) (p : Note) (left : List Note) → Takes w p left → (q : Note) → q ≢ p → answer q ≢ p → Waits w.fresh q → Waits left q
waits_left w p left takes q a b (inl h) = ⊎_elim (λ (e : q ≡ p). absurd (a e)) (λ (g : IsIn q left). inl g) (takes.rest q h)
waits_left w p left takes q a b (inr h) = ⊎_elim (λ (e : answer q ≡ p). absurd (b e)) (λ (g : IsIn (answer q) left). inr g) (takes.rest (answer q) h)

waits_more : (fresh : List Note) (n q : Note) → Waits fresh q → Waits (n ∷ fresh) q
waits_more fresh n q (inl h) = inl (inr h)
waits_more fresh n q (inr h) = inr (inr h)

-- nothing but messages changes
goes_same : (w : Asking) (awaits' : ℕ → List Note) (ever' fresh' : List Note) → Goes w (record w { awaits = awaits'; ever = ever'; fresh = fresh' })
goes_same w awaits' ever' fresh' = record { past = λ a p. p; turns = λ m. le_refl _; through = λ a t l q. q; reason = λ a t k s r. r; holds = λ a t p h. inl h }

-- an ask was delivered and answered, and no target changed
answered : (w : Asking) → Moves w → (p : Note) (left : List Note) → Takes w p left → (IsReply p → ⊥) → Tells w (answer p)
    → Moves (record w { ever = answer p ∷ w.ever; fresh = answer p ∷ left })
answered w v p left takes ask new = record {
  newest = v.newest;
  ends = v.ends;
  tells = λ q m. ⊎_elim (λ (e : q ≡ answer p). subst (λ x. Tells w x) (sym e) new) (λ (h : IsIn q w.ever). v.tells q h) m;
  held = λ t a h. ⊎_elim (λ x. inl x) (λ (x : (k : ℕ) × IsIn (Ask a t k) w.ever). inr (x.0, inr x.1)) (v.held t a h);
  asked = λ m q h. let o = v.asked m q h in (o.0, o.1, o.2, waits_answered w p left takes ask q o.3);
  executing = λ a t h. waits_answered w p left takes ask (Execute a t) (v.executing a t h);
  releasing = λ a t h. waits_answered w p left takes ask (Release a t) (v.releasing a t h);
}

-- something was delivered that nothing waits for any more
passed : (w : Asking) → Moves w → (awaits' : ℕ → List Note) (p : Note) (left : List Note) → Takes w p left
    → ((m : ℕ) (q : Note) → IsIn q (awaits' m) → IsIn q (w.awaits m) × (q ≢ p) × (answer q ≢ p)) → ((a : Attempt) (t : ℕ) → (IsIn (a, t) w.execs → (Execute a t ≢ p) × (Executed a t ≢ p)) × (IsIn (a, t) w.rels → (Release a t ≢ p) × (Released a t ≢ p)))
    → Moves (record w { awaits = awaits'; fresh = left })
passed w v awaits' p left takes none others = record {
  newest = v.newest;
  ends = v.ends;
  tells = v.tells;
  held = v.held;
  asked = λ m q h. let n = none m q h in let o = v.asked m q n.0 in (o.0, o.1, o.2, waits_left w p left takes q n.1 n.2 o.3);
  executing = λ a t h. let n = (others a t).0 h in waits_left w p left takes (Execute a t) n.0 n.1 (v.executing a t h);
  releasing = λ a t h. let n = (others a t).1 h in waits_left w p left takes (Release a t) n.0 n.1 (v.releasing a t h);
}

-- a master sends an ask
asks : (w : Asking) → Moves w → (m : ℕ) (a : Attempt) (p : Note) → w.trying m ≡ Some a → IsAskOf w.holder a p → Tells w p
    → Moves (record w { awaits = put w.awaits m (p ∷ []); ever = p ∷ w.ever; fresh = p ∷ w.fresh })
asks w v m a p trying is new = record {
  newest = v.newest;
  ends = v.ends;
  tells = λ q h. ⊎_elim (λ (e : q ≡ p). subst (λ x. Tells w x) (sym e) new) (λ (g : IsIn q w.ever). v.tells q g) h;
  held = λ t b h. ⊎_elim (λ x. inl x) (λ (x : (k : ℕ) × IsIn (Ask b t k) w.ever). inr (x.0, inr x.1)) (v.held t b h);
  asked = λ s q. put_at (λ s l. IsIn q l → (b : Attempt) × (w.trying s ≡ Some b) × IsAskOf w.holder b q × Waits (p ∷ w.fresh) q) w.awaits m (p ∷ []) s
      (λ h. ⊎_elim (λ (e : q ≡ p). (a, trying, subst (λ x. IsAskOf w.holder a x) (sym e) is, inl (inl e))) (λ x. absurd x) h)
      (λ d h. let o = v.asked s q h in (o.0, o.1, o.2, waits_more w.fresh p q o.3));
  executing = λ b t h. waits_more w.fresh p (Execute b t) (v.executing b t h);
  releasing = λ b t h. waits_more w.fresh p (Release b t) (v.releasing b t h);
}

is_again : (holder holder' : ℕ → Option Attempt) (a : Attempt) (q : Note) → ((t : ℕ) → holder t ≡ Some a → holder' t ≡ Some a) → IsAskOf holder a q → IsAskOf holder' a q
is_again holder holder' a (Ask b t k) f h = h
is_again holder holder' a (Sync b t k) f h = (h.0, f t h.1)
is_again holder holder' a (Asked b t k) f h = h
is_again holder holder' a (Synced b t k) f h = h
is_again holder holder' a (Execute b t) f h = h
is_again holder holder' a (Executed b t) f h = h
is_again holder holder' a (Release b t) f h = h
is_again holder holder' a (Released b t) f h = h

-- t changes its holder or notes a turn as ended; no current attempt loses it
changes : (w : Asking) → Moves w → (t : ℕ) (next : Option Attempt) (m x : ℕ) (p : Note) (left : List Note) → Takes w p left → (IsReply p → ⊥)
    → x ≤ w.turns m
    → ((c : Attempt) → w.trying m ≡ Some c → (x < c.turn) ⊎ (x ≡ 0))
    -- who held it holds it on or is through; and who comes to hold it isn't through
    → ((b : Attempt) → w.holder t ≡ Some b → (next ≡ Some b) ⊎ ((b.who.master ≡ m) × (b.turn ≤ x) × (next ≢ Some b)))
    → ((b : Attempt) → next ≡ Some b → (w.holder t ≡ Some b) ⊎ ((w.ended t (b.who.master) < b.turn) × ((k : ℕ) × IsIn (Ask b t k) w.ever)))
    → Tells (record w { holder = put w.holder t next; ended = ends_at w t m x }) (answer p)
    → Moves (record w { holder = put w.holder t next; ended = ends_at w t m x; ever = answer p ∷ w.ever; fresh = answer p ∷ left })
changes w v t next m x p left takes ask low bound keeps comes new =
    let holder' : ℕ → Option Attempt = put w.holder t next in
    let ended' : ℕ → ℕ → ℕ = ends_at w t m x in
    let more : (s r : ℕ) → w.ended s r ≤ ended' s r = ended_more w.ended t m x in
    let at_m : x ≤ ended' t m = subst (λ f. x ≤ f m) (sym (put_same w.ended t (put (w.ended t) m (max (w.ended t m) x)))) (subst (λ y. x ≤ y) (sym (put_same (w.ended t) m (max (w.ended t m) x))) (omega arith)) in
    let through : (a : Attempt) (s : ℕ) → Through w a s → ThroughIn holder' ended' a s = λ a s q. (
      le_trans q.0 (more s _),
      put_at (λ s h. w.holder s ≢ Some a → a.turn ≤ w.ended s (a.who.master) → h ≢ Some a) w.holder t next s
          (λ ne le e. ⊎_elim ne (λ (y : (w.ended t (a.who.master) < a.turn) × ((k : ℕ) × IsIn (Ask a t k) w.ever)). let lt = y.0 in absurd (omega (arith, lt, le))) (comes a e)) (λ d ne le e. ne e) q.1 q.0,
    ) in
    let holds : (a : Attempt) (s : ℕ) → w.holder s ≡ Some a → (holder' s ≡ Some a) ⊎ ThroughIn holder' ended' a s = λ a s.
    put_at (λ s h. w.holder s ≡ Some a → (h ≡ Some a) ⊎ ((a.turn ≤ ended' s (a.who.master)) × (h ≢ Some a))) w.holder t next s
    (λ h. ⊎_elim (λ e. inl e) (λ (y : (a.who.master ≡ m) × (a.turn ≤ x) × (next ≢ Some a)). inr (le_trans y.1 (subst (λ r. x ≤ ended' t r) (sym y.0) at_m), y.2)) (keeps a h)) (λ d h. inl h) in
    let stay : (c : Attempt) → w.trying (c.who.master) ≡ Some c → (s : ℕ) → w.holder s ≡ Some c → holder' s ≡ Some c = λ c trying s.
    put_at (λ s h. w.holder s ≡ Some c → h ≡ Some c) w.holder t next s
    (λ h. ⊎_elim (λ e. e) (λ (y : (c.who.master ≡ m) × (c.turn ≤ x) × (next ≢ Some c)).
    let low : w.ended t (c.who.master) < c.turn = (v.newest (c.who.master) c trying).3 t in let le = y.1 in
    absurd (⊎_elim (λ (lt : x < c.turn). omega (arith, lt, le)) (λ (e : x ≡ 0). omega (arith, e, le, low)) (bound c (subst (λ r. w.trying r ≡ Some c) y.0 trying)))) (keeps c h)) (λ d h. h) in
    let w' : Asking = record w { holder = holder'; ended = ended' } in
    let goes : Goes w w' = record {
      past = λ a q. q;
      turns = λ r. le_refl _;
      through = λ a s l q. through a s q;
      holds = λ a s q h. holds a s h;
      reason = λ a s k sent r. ⊎_elim (λ e. inl e) (λ (y : IsIn (a, s) w.execs ⊎ (IsIn (a, s) w.rels ⊎ Through w a s)). ⊎_elim (λ e. inr (inl e))
          (λ (z : IsIn (a, s) w.rels ⊎ Through w a s). ⊎_elim (λ e. inr (inr (inl e))) (λ (q : Through w a s). inr (inr (inr (through a s q)))) z) y) r;
    } in
    record {
      newest = λ r c trying. let n = v.newest r c trying in (
        n.0,
        n.1,
        stay c (subst (λ r. w.trying r ≡ Some c) (sym n.0) trying) r n.2,
        λ s. put_at (λ s f. f r < c.turn) w.ended t (put (w.ended t) m (max (w.ended t m) x)) s
            (put_at (λ r y. w.trying r ≡ Some c → w.ended t r < c.turn → y < c.turn) (w.ended t) m (max (w.ended t m) x) r
            (λ trying lt. ⊎_elim (λ (b : x < c.turn). omega (arith, b, lt)) (λ (e : x ≡ 0). omega (arith, e, lt)) (bound c trying)) (λ d trying lt. lt) trying (n.3 t))
            (λ d. n.3 s),
      );
      ends = λ s r. put_at (λ s f. f r ≤ w.turns r) w.ended t (put (w.ended t) m (max (w.ended t m) x)) s
          (put_at (λ r y. w.ended t r ≤ w.turns r → y ≤ w.turns r) (w.ended t) m (max (w.ended t m) x) r (λ le. let l = low in omega (arith, l, le)) (λ d le. le) (v.ends t r)) (λ d. v.ends s r);
      tells = λ q h. ⊎_elim (λ (e : q ≡ answer p). subst (λ y. Tells w' y) (sym e) new) (λ (g : IsIn q w.ever). tells_more w w' goes q g (v.tells q g)) h;
      held = λ s a. put_at (λ s h. h ≡ Some a → ((a.who.master ≡ s) × (w.trying s ≡ Some a)) ⊎ ((k : ℕ) × IsIn (Ask a s k) (answer p ∷ w.ever))) w.holder t next s
          (λ e. ⊎_elim (λ (h : w.holder t ≡ Some a). ⊎_elim (λ z. inl z) (λ (z : (k : ℕ) × IsIn (Ask a t k) w.ever). inr (z.0, inr z.1)) (v.held t a h))
          (λ (y : (w.ended t (a.who.master) < a.turn) × ((k : ℕ) × IsIn (Ask a t k) w.ever)). inr (y.1.0, inr y.1.1)) (comes a e))
          (λ d e. ⊎_elim (λ z. inl z) (λ (z : (k : ℕ) × IsIn (Ask a s k) w.ever). inr (z.0, inr z.1)) (v.held s a e));
      asked = λ r q h. let o = v.asked r q h in let home_is = (v.newest r o.0 o.1).0 in
          (o.0, o.1, is_again w.holder holder' o.0 q (stay o.0 (subst (λ r. w.trying r ≡ Some o.0) (sym home_is) o.1)) o.2, waits_answered w p left takes ask q o.3);
      executing = λ a s h. waits_answered w p left takes ask (Execute a s) (v.executing a s h);
      releasing = λ a s h. waits_answered w p left takes ask (Release a s) (v.releasing a s h);
    }

who : Note → Attempt
who (Ask b t k) = b
who (Sync b t k) = b
who (Asked b t k) = b
who (Synced b t k) = b
who (Execute b t) = b
who (Executed b t) = b
who (Release b t) = b
who (Released b t) = b

who_answers : (q : Note) → who (answer q) ≡ who q
unfolding who
who_answers (Ask b t k) = refl
who_answers (Sync b t k) = refl
who_answers (Asked b t k) = refl
who_answers (Synced b t k) = refl
who_answers (Execute b t) = refl
who_answers (Executed b t) = refl
who_answers (Release b t) = refl
who_answers (Released b t) = refl

where_to : Note → ℕ
where_to (Ask b t k) = t
where_to (Sync b t k) = t
where_to (Asked b t k) = t
where_to (Synced b t k) = t
where_to (Execute b t) = t
where_to (Executed b t) = t
where_to (Release b t) = t
where_to (Released b t) = t

ask_facts : (holder : ℕ → Option Attempt) (a : Attempt) (q : Note) → IsAskOf holder a q → (who q ≡ a) × (IsReply q → ⊥) × IsAnswer (answer q)
unfolding who
ask_facts holder a (Ask b t k) h = (h, (λ x. x), tt)
ask_facts holder a (Sync b t k) h = (h.0, (λ x. x), tt)
ask_facts holder a (Asked b t k) h = absurd h
ask_facts holder a (Synced b t k) h = absurd h
ask_facts holder a (Execute b t) h = absurd h
ask_facts holder a (Executed b t) h = absurd h
ask_facts holder a (Release b t) h = absurd h
ask_facts holder a (Released b t) h = absurd h

answer_replies : (p : Note) → IsAnswer p → IsReply p
answer_replies (Ask b t k) h = h
answer_replies (Sync b t k) h = h
answer_replies (Asked b t k) h = tt
answer_replies (Synced b t k) h = tt
answer_replies (Execute b t) h = h
answer_replies (Executed b t) h = tt
answer_replies (Release b t) h = h
answer_replies (Released b t) h = tt

-- an answer to an ask is none to an execute or a release
apart_from : (p : Note) → IsAnswer p → (a : Attempt) (t : ℕ) → ((Execute a t ≢ p) × (Executed a t ≢ p)) × ((Release a t ≢ p) × (Released a t ≢ p))
apart_from p h a t = (((λ e. subst (λ x. IsReply x) (sym e) (answer_replies p h)), (λ e. subst (λ x. IsAnswer x) (sym e) h)), ((λ e. subst (λ x. IsReply x) (sym e) (answer_replies p h)), (λ e. subst (λ x. IsAnswer x) (sym e) h)))

ignored : (w : Asking) → Moves w → (a : Attempt) (t k : ℕ) (left : List Note) → MayTurn w (Ignored a t k left) → Moves (turned w (Ignored a t k left))
ignored w v a t k left may = passed w v w.awaits (Ask a t k) left may.0
    (λ m q h. (
      h,
      (λ e. let o = v.asked m q h in let is : a ≡ o.0 = subst (λ x. IsAskOf w.holder o.0 x) e o.2 in let n = v.newest m o.0 o.1 in
          let lt : w.ended t m < o.0.turn = n.3 t in let le : o.0.turn ≤ w.ended t m = subst (λ r. o.0.turn ≤ w.ended t r) n.0 (subst (λ (b : Attempt). b.turn ≤ w.ended t (b.who.master)) is may.1.0) in omega (arith, lt, le)),
      λ e. subst (λ x. IsReply x) e (reply_of q),
    ))
    (λ b s. ((λ h. ((λ e. cc), (λ e. cc))), (λ h. ((λ e. cc), (λ e. cc)))))

sync_ignored : (w : Asking) → Moves w → (a : Attempt) (t k : ℕ) (left : List Note) → MayTurn w (Sync_ignored a t k left) → Moves (turned w (Sync_ignored a t k left))
sync_ignored w v a t k left may = passed w v w.awaits (Sync a t k) left may.0
    (λ m q h. (
      h,
      (λ e. let o = v.asked m q h in let is : (a ≡ o.0) × (w.holder t ≡ Some o.0) = subst (λ x. IsAskOf w.holder o.0 x) e o.2 in may.1 (is.1 ∙ ap Some (sym is.0))),
      λ e. subst (λ x. IsReply x) e (reply_of q),
    ))
    (λ b s. ((λ h. ((λ e. cc), (λ e. cc))), (λ h. ((λ e. cc), (λ e. cc)))))

answer_ignored : (w : Asking) → Moves w → (p : Note) (left : List Note) → MayTurn w (Answer_ignored p left) → Moves (turned w (Answer_ignored p left))
answer_ignored w v p left may = passed w v w.awaits p left may.0
    (λ m q h. (h, (λ e. let o = v.asked m q h in (ask_facts w.holder o.0 q o.2).1 (subst (λ x. IsReply x) (sym e) (answer_replies p may.1))), may.2 m q h))
    (λ b s. let f = apart_from p may.1 b s in ((λ h. f.0), (λ h. f.1)))

answer_taken : (w : Asking) → Moves w → (m : ℕ) (p : Note) (left : List Note) → MayTurn w (Answer_taken m p left) → Moves (turned w (Answer_taken m p left))
answer_taken w v m p left may = passed w v (put w.awaits m []) p left may.0
    (λ s q. put_at (λ s l. IsIn q l → IsIn q (w.awaits s) × (q ≢ p) × (answer q ≢ p)) w.awaits m [] s (λ h. absurd h)
    (λ d h. let o = v.asked s q h in let f = ask_facts w.holder o.0 q o.2 in let o' = v.asked m may.2 may.3 in let f' = ask_facts w.holder o'.0 may.2 o'.2 in (
      h,
      (λ e. f.1 (subst (λ x. IsReply x) (sym e) (answer_replies p may.1))),
      λ e. let same : o.0 ≡ o'.0 = sym f.0 ∙ sym (who_answers q) ∙ ap who (e ∙ sym may.4) ∙ who_answers may.2 ∙ f'.0 in
          d (sym (v.newest s o.0 o.1).0 ∙ ap (λ (b : Attempt). b.who.master) same ∙ (v.newest m o'.0 o'.1).0),
    )))
    (λ b s. let f = apart_from p may.1 b s in ((λ h. f.0), (λ h. f.1)))

refused : (w : Asking) → Moves w → (a : Attempt) (t k : ℕ) (left : List Note) → MayTurn w (Refused a t k left) → Moves (turned w (Refused a t k left))
refused w v a t k left may = answered w v (Ask a t k) left may (λ x. x) tt

sync_taken : (w : Asking) → Moves w → (a : Attempt) (t k : ℕ) (left : List Note) → MayTurn w (Sync_taken a t k left) → Moves (turned w (Sync_taken a t k left))
sync_taken w v a t k left may = answered w v (Sync a t k) left may.0 (λ x. x) tt

execute_again : (w : Asking) → Moves w → (a : Attempt) (t : ℕ) (left : List Note) → MayTurn w (Execute_again a t left) → Moves (turned w (Execute_again a t left))
execute_again w v a t left may = let s = v.tells (Execute a t) may.0.sent in
    answered w v (Execute a t) left may.0 (λ x. x) (s.0, ⊎_elim (λ (h : w.holder t ≡ Some a). absurd (may.1 h)) (λ (q : Through w a t). q) s.1)

granted : (w : Asking) → Moves w → (a : Attempt) (t k : ℕ) (left : List Note) (ends : ℕ) → MayTurn w (Granted a t k left ends) → Moves (turned w (Granted a t k left ends))
granted w v a t k left ends may =
    let says = v.tells (Ask a t k) may.0.sent in
    changes w v t (Some a) (a.who.master) ends (Ask a t k) left may.0 (λ x. x)
    (⊎_elim (λ (e : ends ≡ 0). omega (arith, e)) (λ (lt : ends < a.turn). let le = says.0 in omega (arith, lt, le)) may.3)
    (λ c trying. ⊎_elim (λ (e : ends ≡ 0). inr e) (λ (lt : ends < a.turn). inl (let le = says.0 in let n = (v.newest (a.who.master) c trying).1 in omega (arith, lt, le, n))) may.3)
    (λ b h. ⊎_elim (λ (e : b ≡ a). inl (ap Some (sym e)))
    (λ (y : (b.who ≡ a.who) × (b.turn ≤ ends)). ⊎_elim
    (λ (own : w.holder t ≡ Some a). inl (sym own ∙ h))
    (λ (lt : w.ended t (a.who.master) < a.turn). inr (
      ap (λ (y : Who). y.master) y.0,
      y.1,
      λ e. let q : a.turn ≡ b.turn = ap (λ (c : Attempt). c.turn) (some_same a b e) in let le = y.1 in
          ⊎_elim (λ (z : ends ≡ 0). omega (arith, z, q, le, lt)) (λ (z : ends < a.turn). omega (arith, z, q, le)) may.3,
    )) may.2) (may.1 b h))
    (λ b e. let q : a ≡ b = some_same a b e in subst (λ (b : Attempt). (w.holder t ≡ Some b) ⊎ ((w.ended t (b.who.master) < b.turn) × ((k : ℕ) × IsIn (Ask b t k) w.ever))) q
    (⊎_elim (λ h. inl h) (λ (lt : w.ended t (a.who.master) < a.turn). inr (lt, (k, may.0.sent))) may.2))
    tt

-- what an attempt that is over makes of its target
through_now : (w : Asking) (a : Attempt) (t : ℕ) (next : Option Attempt) → next ≢ Some a → ThroughIn (put w.holder t next) (ends_at w t (a.who.master) a.turn) a t
through_now w a t next ne = (
  subst (λ f. a.turn ≤ f (a.who.master)) (sym (put_same w.ended t (put (w.ended t) (a.who.master) (max (w.ended t (a.who.master)) a.turn))))
      (subst (λ y. a.turn ≤ y) (sym (put_same (w.ended t) (a.who.master) (max (w.ended t (a.who.master)) a.turn))) (omega arith)),
  subst (λ h. h ≢ Some a) (sym (put_same w.holder t next)) ne,
)

lets_go : (w : Asking) → Moves w → (a : Attempt) (t : ℕ) (p : Note) (left : List Note) → Takes w p left → (IsReply p → ⊥) → Past w.turns w.trying a → w.holder t ≡ Some a
    → Tells (record w { holder = put w.holder t None; ended = ends_at w t (a.who.master) a.turn }) (answer p)
    → Moves (record w { holder = put w.holder t None; ended = ends_at w t (a.who.master) a.turn; ever = answer p ∷ w.ever; fresh = answer p ∷ left })
lets_go w v a t p left takes ask past holds new = changes w v t None (a.who.master) a.turn p left takes ask past.0 (λ c trying. inl (past.1 c trying))
    (λ b h. let q : a ≡ b = some_same a b (sym holds ∙ h) in inr (ap (λ (c : Attempt). c.who.master) (sym q), subst (λ (b : Attempt). b.turn ≤ a.turn) q (le_refl _), λ e. none_some b e))
    (λ b e. absurd (none_some b e)) new

execute_taken : (w : Asking) → Moves w → (a : Attempt) (t : ℕ) (left : List Note) → MayTurn w (Execute_taken a t left) → Moves (turned w (Execute_taken a t left))
execute_taken w v a t left may = let s = v.tells (Execute a t) may.0.sent in
    lets_go w v a t (Execute a t) left may.0 (λ x. x) s.0 may.1 (s.0, through_now w a t None (λ e. none_some a e))

release_taken : (w : Asking) → Moves w → (a : Attempt) (t : ℕ) (left : List Note) → MayTurn w (Release_taken a t left) → Moves (turned w (Release_taken a t left))
release_taken w v a t left may = let s = v.tells (Release a t) may.0.sent in
    lets_go w v a t (Release a t) left may.0 (λ x. x) s may.1 (s, through_now w a t None (λ e. none_some a e))

release_noted : (w : Asking) → Moves w → (a : Attempt) (t : ℕ) (left : List Note) → MayTurn w (Release_noted a t left) → Moves (turned w (Release_noted a t left))
release_noted w v a t left may = let s = v.tells (Release a t) may.0.sent in
    changes w v t (w.holder t) (a.who.master) a.turn (Release a t) left may.0 (λ x. x) s.0 (λ c trying. inl (s.1 c trying)) (λ b h. inl h) (λ b h. inl h)
    (s, through_now w a t (w.holder t) may.1)

asks_more : (w : Asking) → Moves w → (m : ℕ) (a : Attempt) (t k : ℕ) → MayTurn w (Asks m a t k) → Moves (turned w (Asks m a t k))
asks_more w v m a t k may = let n = v.newest m a may in let at : w.trying (a.who.master) ≡ Some a = subst (λ r. w.trying r ≡ Some a) (sym n.0) may in
    asks w v m a (Ask a t k) may refl (subst (λ r. a.turn ≤ w.turns r) (sym n.0) (subst (λ x. a.turn ≤ x) n.1 (le_refl _)), inl at)

syncs_more : (w : Asking) → Moves w → (m : ℕ) (a : Attempt) (t k : ℕ) → MayTurn w (Syncs m a t k) → Moves (turned w (Syncs m a t k))
syncs_more w v m a t k may = asks w v m a (Sync a t k) may.0 (refl, may.1) tt

pair_of : Note → Attempt × ℕ
unfolding who where_to
pair_of p = (who p, where_to p)

same_executed : (a b : Attempt) (t s : ℕ) → Executed a t ≡ Executed b s → ◌≡◌ {A = Attempt × ℕ} (a, t) (b, s)
unfolding pair_of who where_to
same_executed a b t s e = ap pair_of e

same_released : (a b : Attempt) (t s : ℕ) → Released a t ≡ Released b s → ◌≡◌ {A = Attempt × ℕ} (a, t) (b, s)
unfolding pair_of who where_to
same_released a b t s e = ap pair_of e

executed_taken : (w : Asking) → Moves w → (a : Attempt) (t : ℕ) (left : List Note) (execs : List (Attempt × ℕ)) → MayTurn w (Executed_taken a t left execs) → Moves (turned w (Executed_taken a t left execs))
executed_taken w v a t left execs may =
    let done : Through w a t = (v.tells (Executed a t) may.0.sent).1 in
    let w' : Asking = record w { execs = execs } in
    let goes : Goes w w' = record {
      past = λ b q. q;
      turns = λ r. le_refl _;
      through = λ b s l q. q;
      holds = λ b s q h. inl h;
      reason = λ b s k sent r. ⊎_elim (λ e. inl e) (λ (y : IsIn (b, s) w.execs ⊎ (IsIn (b, s) w.rels ⊎ Through w b s)). ⊎_elim
          (λ (x : IsIn (b, s) w.execs). ⊎_elim (λ (e : ◌≡◌ {A = Attempt × ℕ} (b, s) (a, t)). inr (inr (inr (subst (λ (y : Attempt × ℕ). Through w y.0 y.1) (sym e) done)))) (λ (g : IsIn (b, s) execs). inr (inl g)) (may.1.1 (b, s) x))
          (λ z. inr (inr z)) y) r;
    } in
    record {
      newest = v.newest;
      ends = v.ends;
      held = v.held;
      tells = λ q h. tells_more w w' goes q h (v.tells q h);
      asked = λ m q h. let o = v.asked m q h in let f = ask_facts w.holder o.0 q o.2 in (o.0, o.1, o.2, waits_left w (Executed a t) left may.0 q (λ e. f.1 (subst (λ x. IsReply x) (sym e) tt)) (λ e. subst (λ x. IsAnswer x) e f.2) o.3);
      executing = λ b s h. let n = may.1.0 (b, s) h in waits_left w (Executed a t) left may.0 (Execute b s) (λ e. cc) (λ e. n.1 (same_executed b a s t e)) (v.executing b s n.0);
      releasing = λ b s h. waits_left w (Executed a t) left may.0 (Release b s) (λ e. cc) (λ e. cc) (v.releasing b s h);
    }

released_taken : (w : Asking) → Moves w → (a : Attempt) (t : ℕ) (left : List Note) (rels : List (Attempt × ℕ)) → MayTurn w (Released_taken a t left rels) → Moves (turned w (Released_taken a t left rels))
released_taken w v a t left rels may =
    let done : Through w a t = (v.tells (Released a t) may.0.sent).1 in
    let w' : Asking = record w { rels = rels } in
    let goes : Goes w w' = record {
      past = λ b q. q;
      turns = λ r. le_refl _;
      through = λ b s l q. q;
      holds = λ b s q h. inl h;
      reason = λ b s k sent r. ⊎_elim (λ e. inl e) (λ (y : IsIn (b, s) w.execs ⊎ (IsIn (b, s) w.rels ⊎ Through w b s)). ⊎_elim (λ x. inr (inl x))
          (λ (z : IsIn (b, s) w.rels ⊎ Through w b s). ⊎_elim
          (λ (x : IsIn (b, s) w.rels). ⊎_elim (λ (e : ◌≡◌ {A = Attempt × ℕ} (b, s) (a, t)). inr (inr (inr (subst (λ (y : Attempt × ℕ). Through w y.0 y.1) (sym e) done)))) (λ (g : IsIn (b, s) rels). inr (inr (inl g))) (may.1.1 (b, s) x))
          (λ q. inr (inr (inr q))) z) y) r;
    } in
    record {
      newest = v.newest;
      ends = v.ends;
      held = v.held;
      tells = λ q h. tells_more w w' goes q h (v.tells q h);
      asked = λ m q h. let o = v.asked m q h in let f = ask_facts w.holder o.0 q o.2 in (o.0, o.1, o.2, waits_left w (Released a t) left may.0 q (λ e. f.1 (subst (λ x. IsReply x) (sym e) tt)) (λ e. subst (λ x. IsAnswer x) e f.2) o.3);
      executing = λ b s h. waits_left w (Released a t) left may.0 (Execute b s) (λ e. cc) (λ e. cc) (v.executing b s h);
      releasing = λ b s h. let n = may.1.0 (b, s) h in waits_left w (Released a t) left may.0 (Release b s) (λ e. cc) (λ e. n.1 (same_released b a s t e)) (v.releasing b s n.0);
    }

starts : (w : Asking) → Moves w → (who : Who) → MayTurn w (Starts who) → Moves (turned w (Starts who))
starts w v who free =
    let h : ℕ = who.master in
    let a : Attempt = new_attempt w who in
    let turns' : ℕ → ℕ = put w.turns h (suc (w.turns h)) in
    let trying' : ℕ → Option Attempt = put w.trying h (Some a) in
    let holder' : ℕ → Option Attempt = put w.holder h (Some a) in
    let idle : (c : Attempt) → w.trying h ≡ Some c → ⊥ = λ c e. none_some c (sym free ∙ (v.newest h c e).2) in
    let more : (m : ℕ) → w.turns m ≤ turns' m = λ m. put_at (λ m x. w.turns m ≤ x) w.turns h (suc (w.turns h)) m (omega arith) (λ d. le_refl _) in
    let cur_stays : (m : ℕ) (c : Attempt) → w.trying m ≡ Some c → trying' m ≡ Some c = λ m c. put_at (λ m x. w.trying m ≡ Some c → x ≡ Some c) w.trying h (Some a) m (λ e. absurd (idle c e)) (λ d e. e) in
    let holds : (b : Attempt) (s : ℕ) → w.holder s ≡ Some b → holder' s ≡ Some b = λ b s. put_at (λ s x. w.holder s ≡ Some b → x ≡ Some b) w.holder h (Some a) s (λ e. absurd (none_some b (sym free ∙ e))) (λ d e. e) in
    let through : (b : Attempt) (s : ℕ) → b.turn ≤ w.turns (b.who.master) → Through w b s → ThroughIn holder' w.ended b s = λ b s le q. (
      q.0,
      put_at (λ s x. w.holder s ≢ Some b → x ≢ Some b) w.holder h (Some a) s (λ n e. let same : a ≡ b = some_same a b e in
          let big : suc (w.turns h) ≤ w.turns h = subst (λ (c : Attempt). c.turn ≤ w.turns (c.who.master)) (sym same) le in omega (arith, big)) (λ d n e. n e) q.1,
    ) in
    let w' : Asking = record w { turns = turns'; trying = trying'; holder = holder' } in
    let goes : Goes w w' = record {
      turns = more;
      through = through;
      holds = λ b s q e. inl (holds b s e);
      past = λ b q. (
        le_trans q.0 (more _),
        λ c. put_at (λ m x. b.turn ≤ w.turns m → ((c : Attempt) → w.trying m ≡ Some c → b.turn < c.turn) → x ≡ Some c → b.turn < c.turn) w.trying h (Some a) (b.who.master)
            (λ le f e. let t : suc (w.turns h) ≡ c.turn = ap (λ (y : Attempt). y.turn) (some_same a c e) in omega (arith, le, t)) (λ d le f e. f c e) q.0 q.1,
      );
      reason = λ b s k sent r. ⊎_elim (λ (e : w.trying (b.who.master) ≡ Some b). inl (cur_stays _ b e))
          (λ (y : IsIn (b, s) w.execs ⊎ (IsIn (b, s) w.rels ⊎ Through w b s)). ⊎_elim (λ x. inr (inl x)) (λ (z : IsIn (b, s) w.rels ⊎ Through w b s). ⊎_elim (λ x. inr (inr (inl x)))
          (λ (q : Through w b s). inr (inr (inr (through b s (v.tells (Ask b s k) sent).0 q)))) z) y) r;
    } in
    record {
      newest = λ m c e. elim (eqb_tells m h) [
        | inl q ↦ let same : a ≡ c = some_same a c (sym (put_same w.trying h (Some a)) ∙ subst (λ m. trying' m ≡ Some c) q.1 e) in
            subst (λ (c : Attempt). (c.who.master ≡ m) × (c.turn ≡ turns' m) × (holder' m ≡ Some c) × ((t : ℕ) → w.ended t m < c.turn)) same
            (subst (λ m. (h ≡ m) × (suc (w.turns h) ≡ turns' m) × (holder' m ≡ Some a) × ((t : ℕ) → w.ended t m < suc (w.turns h))) (sym q.1)
            (refl, sym (put_same w.turns h (suc (w.turns h))), put_same w.holder h (Some a), λ t. let le = v.ends t h in omega (arith, le)))
        | inr q ↦ let e' : w.trying m ≡ Some c = put_at (λ m x. m ≢ h → x ≡ Some c → w.trying m ≡ Some c) w.trying h (Some a) m (λ d e. absurd (d refl)) (λ d x e. e) q.1 e in
            let n = v.newest m c e' in (n.0, put_at (λ m x. m ≢ h → c.turn ≡ w.turns m → c.turn ≡ x) w.turns h (suc (w.turns h)) m (λ d e. absurd (d refl)) (λ d x e. e) q.1 n.1, holds c m n.2, n.3)
      ];
      ends = λ t m. le_trans (v.ends t m) (more m);
      tells = λ q s. tells_more w w' goes q s (v.tells q s);
      held = λ t b. put_at (λ t x. x ≡ Some b → ((b.who.master ≡ t) × (trying' t ≡ Some b)) ⊎ ((k : ℕ) × IsIn (Ask b t k) w.ever)) w.holder h (Some a) t
          (λ e. let same : a ≡ b = some_same a b e in inl (subst (λ (b : Attempt). (b.who.master ≡ h) × (trying' h ≡ Some b)) same (refl, put_same w.trying h (Some a))))
          (λ d e. ⊎_elim (λ (y : (b.who.master ≡ t) × (w.trying t ≡ Some b)). inl (y.0, cur_stays t b y.1)) (λ y. inr y) (v.held t b e));
      asked = λ m q s. let o = v.asked m q s in (o.0, cur_stays m o.0 o.1, is_again w.holder holder' o.0 q (λ t e. holds o.0 t e) o.2, o.3);
      executing = v.executing;
      releasing = v.releasing;
    }

mem_map : {A B : Type 0} (f : A → B) (l : List A) (y : B) → IsIn y (map f l) → (x : A) × IsIn x l × (y ≡ f x)
mem_map f [] y h = absurd h
mem_map f (x ∷ l) y (inl e) = (x, inl refl, e)
mem_map f (x ∷ l) y (inr h) = let r = mem_map f l y h in (r.0, inr r.1, r.2)

map_mem : {A B : Type 0} (f : A → B) (l : List A) (x : A) → IsIn x l → IsIn (f x) (map f l)
map_mem f [] x h = absurd h
map_mem f (y ∷ l) x (inl e) = inl (ap f e)
map_mem f (y ∷ l) x (inr h) = inr (map_mem f l x h)

mem_split : {A : Type 0} (xs ys : List A) (x : A) → IsIn x (xs ++ ys) → IsIn x xs ⊎ IsIn x ys
mem_split [] ys x h = inr h
mem_split (y ∷ xs) ys x (inl e) = inl (inl e)
mem_split (y ∷ xs) ys x (inr h) = ⊎_elim (λ a. inl (inr a)) (λ b. inr b) (mem_split xs ys x h)

mem_before : {A : Type 0} (xs ys : List A) (x : A) → IsIn x xs → IsIn x (xs ++ ys)
mem_before [] ys x h = absurd h
mem_before (y ∷ xs) ys x (inl e) = inl e
mem_before (y ∷ xs) ys x (inr h) = inr (mem_before xs ys x h)

mem_after : {A : Type 0} (xs ys : List A) (x : A) → IsIn x ys → IsIn x (xs ++ ys)
mem_after [] ys x h = h
mem_after (y ∷ xs) ys x h = inr (mem_after xs ys x h)

finishes : (w : Asking) → Moves w → (m : ℕ) (a : Attempt) (es rs : List ℕ) → MayTurn w (Finishes m a es rs) → Moves (turned w (Finishes m a es rs))
finishes w v m a es rs may =
    let n = v.newest m a may.0 in
    let trying' : ℕ → Option Attempt = put w.trying m None in
    let holder' : ℕ → Option Attempt = put w.holder m None in
    let ended' : ℕ → ℕ → ℕ = ends_at w m m a.turn in
    let execs' : List (Attempt × ℕ) = map (λ t. (a, t)) es ++ w.execs in
    let rels' : List (Attempt × ℕ) = map (λ t. (a, t)) rs ++ w.rels in
    let more : (s r : ℕ) → w.ended s r ≤ ended' s r = ended_more w.ended m m a.turn in
    let less : (s : ℕ) (c : Attempt) → trying' s ≡ Some c → (s ≢ m) × (w.trying s ≡ Some c) = λ s c e. none_less w.trying m s c e in
    let through : (b : Attempt) (s : ℕ) → Through w b s → ThroughIn holder' ended' b s = λ b s q. (le_trans q.0 (more s _), put_at (λ s x. w.holder s ≢ Some b → x ≢ Some b) w.holder m None s (λ d e. none_some b e) (λ d q. q) q.1) in
    let a_past : Past w.turns trying' a = (subst (λ r. a.turn ≤ w.turns r) (sym n.0) (subst (λ x. a.turn ≤ x) n.1 (le_refl _)), λ c e. absurd ((less _ c e).0 n.0)) in
    let add : List Note → List Note = λ l. map (Execute a) es ++ (map (Release a) rs ++ l) in
    let old_in : (l : List Note) (q : Note) → IsIn q l → IsIn q (add l) = λ l q h. mem_after (map (Execute a) es) (map (Release a) rs ++ l) q (mem_after (map (Release a) rs) l q h) in
    let waits : (q : Note) → Waits w.fresh q → Waits (add w.fresh) q = λ q y. ⊎_elim (λ (h : IsIn q w.fresh). inl (old_in w.fresh q h)) (λ (h : IsIn (answer q) w.fresh). inr (old_in w.fresh (answer q) h)) y in
    let w' : Asking = record w { trying = trying'; holder = holder'; ended = ended'; execs = execs'; rels = rels' } in
    let goes : Goes w w' = record {
      turns = λ r. le_refl _;
      through = λ b s l q. through b s q;
      past = λ b q. (q.0, λ c e. q.1 c (less _ c e).1);
      holds = λ b s q. put_at (λ s x. w.holder s ≡ Some b → (x ≡ Some b) ⊎ ((b.turn ≤ ended' s (b.who.master)) × (x ≢ Some b))) w.holder m None s
          (λ h. let same : a ≡ b = some_same a b (sym n.2 ∙ h) in absurd (let at : w.trying (b.who.master) ≡ Some b = subst (λ (b : Attempt). w.trying (b.who.master) ≡ Some b) same (subst (λ r. w.trying r ≡ Some a) (sym n.0) may.0) in
          let lt = q.1 b at in omega (arith, lt))) (λ d h. inl h);
      reason = λ b s k sent r. ⊎_elim
          (λ (e : w.trying (b.who.master) ≡ Some b). elim (eqb_tells (b.who.master) m) [
            | inl q ↦ let same : a ≡ b = some_same a b (sym may.0 ∙ subst (λ r. w.trying r ≡ Some b) q.1 e) in
                subst (λ b. ReasonIn holder' ended' trying' execs' rels' b s) same (⊎_elim
                (λ (x : IsIn s es). inr (inl (mem_before (map (λ t. (a, t)) es) w.execs (a, s) (map_mem (λ t. (a, t)) es s x))))
                (λ (x : IsIn s rs). inr (inr (inl (mem_before (map (λ t. (a, t)) rs) w.rels (a, s) (map_mem (λ t. (a, t)) rs s x)))))
                (may.2 s k (subst (λ b. IsIn (Ask b s k) w.ever) (sym same) sent)))
            | inr q ↦ inl (put_at (λ r x. r ≢ m → w.trying r ≡ Some b → x ≡ Some b) w.trying m None (b.who.master) (λ d e. absurd (d refl)) (λ d f e. e) q.1 e)
          ])
          (λ (y : IsIn (b, s) w.execs ⊎ (IsIn (b, s) w.rels ⊎ Through w b s)). ⊎_elim (λ (x : IsIn (b, s) w.execs). inr (inl (mem_after (map (λ t. (a, t)) es) w.execs (b, s) x)))
          (λ (z : IsIn (b, s) w.rels ⊎ Through w b s). ⊎_elim (λ (x : IsIn (b, s) w.rels). inr (inr (inl (mem_after (map (λ t. (a, t)) rs) w.rels (b, s) x)))) (λ (q : Through w b s). inr (inr (inr (through b s q)))) z) y) r;
    } in
    let keeps : (s : ℕ) (c : Attempt) → trying' s ≡ Some c → (t : ℕ) → w.holder t ≡ Some c → holder' t ≡ Some c = λ s c e t. put_at (λ t x. w.holder t ≡ Some c → x ≡ Some c) w.holder m None t
    (λ h. let same : a ≡ c = some_same a c (sym n.2 ∙ h) in let q = less s c e in absurd (q.0 (sym (v.newest s c q.1).0 ∙ ap (λ (b : Attempt). b.who.master) (sym same) ∙ n.0))) (λ d h. h) in
    record {
      newest = λ r c e. let q = less r c e in let o = v.newest r c q.1 in (
        o.0,
        o.1,
        keeps r c e r o.2,
        λ s. put_at (λ s f. f r < c.turn) w.ended m (put (w.ended m) m (max (w.ended m m) a.turn)) s (put_at (λ r y. r ≢ m → w.ended m r < c.turn → y < c.turn) (w.ended m) m (max (w.ended m m) a.turn) r (λ d. absurd (d refl)) (λ d f lt. lt) q.0 (o.3 m)) (λ d. o.3 s),
      );
      ends = λ s r. put_at (λ s f. f r ≤ w.turns r) w.ended m (put (w.ended m) m (max (w.ended m m) a.turn)) s
          (put_at (λ r y. w.ended m r ≤ w.turns r → y ≤ w.turns r) (w.ended m) m (max (w.ended m m) a.turn) r (λ le. let t = n.1 in omega (arith, t, le)) (λ d le. le) (v.ends m r)) (λ d. v.ends s r);
      tells = λ q h. ⊎_elim
          (λ (x : IsIn q (map (Execute a) es)). let y = mem_map (Execute a) es q x in subst (λ q. Tells w' q) (sym y.2) (a_past, inl (let z = may.1 y.0 y.1 in put_at (λ t x. t ≢ m → w.holder t ≡ Some a → x ≡ Some a) w.holder m None y.0 (λ d h. absurd (d refl)) (λ d f h. h) z.1 z.0)))
          (λ (x : IsIn q (map (Release a) rs ++ w.ever)). ⊎_elim
          (λ (x : IsIn q (map (Release a) rs)). let y = mem_map (Release a) rs q x in subst (λ q. Tells w' q) (sym y.2) a_past)
          (λ (x : IsIn q w.ever). tells_more w w' goes q x (v.tells q x)) (mem_split (map (Release a) rs) w.ever q x))
          (mem_split (map (Execute a) es) (map (Release a) rs ++ w.ever) q h);
      held = λ t b. put_at (λ t x. x ≡ Some b → ((b.who.master ≡ t) × (trying' t ≡ Some b)) ⊎ ((k : ℕ) × IsIn (Ask b t k) (add w.ever))) w.holder m None t (λ e. absurd (none_some b e))
          (λ d e. ⊎_elim (λ (y : (b.who.master ≡ t) × (w.trying t ≡ Some b)). inl (y.0, put_at (λ r x. r ≢ m → w.trying r ≡ Some b → x ≡ Some b) w.trying m None t (λ d e. absurd (d refl)) (λ d f e. e) d y.1))
          (λ (y : (k : ℕ) × IsIn (Ask b t k) w.ever). inr (y.0, old_in w.ever (Ask b t y.0) y.1)) (v.held t b e));
      asked = λ s q. put_at (λ s l. IsIn q l → (b : Attempt) × (trying' s ≡ Some b) × IsAskOf holder' b q × Waits (add w.fresh) q) w.awaits m [] s (λ h. absurd h)
          (λ d h. let o = v.asked s q h in let e : trying' s ≡ Some o.0 = put_at (λ r x. r ≢ m → w.trying r ≡ Some o.0 → x ≡ Some o.0) w.trying m None s (λ d e. absurd (d refl)) (λ d f e. e) d o.1 in
          (o.0, e, is_again w.holder holder' o.0 q (keeps s o.0 e) o.2, waits q o.3));
      executing = λ b t h. ⊎_elim
          (λ (x : IsIn (b, t) (map (λ t. (a, t)) es)). let y = mem_map (λ t. (a, t)) es (b, t) x in subst (λ (p : Attempt × ℕ). Waits (add w.fresh) (Execute p.0 p.1)) (sym y.2) (inl (mem_before (map (Execute a) es) (map (Release a) rs ++ w.fresh) (Execute a y.0) (map_mem (Execute a) es y.0 y.1))))
          (λ (x : IsIn (b, t) w.execs). waits (Execute b t) (v.executing b t x)) (mem_split (map (λ t. (a, t)) es) w.execs (b, t) h);
      releasing = λ b t h. ⊎_elim
          (λ (x : IsIn (b, t) (map (λ t. (a, t)) rs)). let y = mem_map (λ t. (a, t)) rs (b, t) x in subst (λ (p : Attempt × ℕ). Waits (add w.fresh) (Release p.0 p.1)) (sym y.2)
          (inl (mem_after (map (Execute a) es) (map (Release a) rs ++ w.fresh) (Release a y.0) (mem_before (map (Release a) rs) w.fresh (Release a y.0) (map_mem (Release a) rs y.0 y.1)))))
          (λ (x : IsIn (b, t) w.rels). waits (Release b t) (v.releasing b t x)) (mem_split (map (λ t. (a, t)) rs) w.rels (b, t) h);
    }

pub keeps_turn : (w : Asking) → Moves w → (u : Turn) → MayTurn w u → Moves (turned w u)
keeps_turn w v (Starts who) may = starts w v who may
keeps_turn w v (Asks m a t k) may = asks_more w v m a t k may
keeps_turn w v (Syncs m a t k) may = syncs_more w v m a t k may
keeps_turn w v (Granted a t k left ends) may = granted w v a t k left ends may
keeps_turn w v (Refused a t k left) may = refused w v a t k left may
keeps_turn w v (Ignored a t k left) may = ignored w v a t k left may
keeps_turn w v (Sync_taken a t k left) may = sync_taken w v a t k left may
keeps_turn w v (Sync_ignored a t k left) may = sync_ignored w v a t k left may
keeps_turn w v (Answer_taken m p left) may = answer_taken w v m p left may
keeps_turn w v (Answer_ignored p left) may = answer_ignored w v p left may
keeps_turn w v (Finishes m a es rs) may = finishes w v m a es rs may
keeps_turn w v (Execute_taken a t left) may = execute_taken w v a t left may
keeps_turn w v (Execute_again a t left) may = execute_again w v a t left may
keeps_turn w v (Release_taken a t left) may = release_taken w v a t left may
keeps_turn w v (Release_noted a t left) may = release_noted w v a t left may
keeps_turn w v (Executed_taken a t left execs) may = executed_taken w v a t left execs may
keeps_turn w v (Released_taken a t left rels) may = released_taken w v a t left rels may
keeps_turn w v (Resends p) may = record {
  newest = v.newest;
  ends = v.ends;
  tells = v.tells;
  held = v.held;
  asked = λ m q h. let o = v.asked m q h in (o.0, o.1, o.2, waits_more w.fresh p q o.3);
  executing = λ a t h. waits_more w.fresh p (Execute a t) (v.executing a t h);
  releasing = λ a t h. waits_more w.fresh p (Release a t) (v.releasing a t h);
}

pub at_first : Moves idle
at_first = record {
  newest = λ m a e. absurd (none_some a e);
  ends = λ t m. le_refl _;
  tells = λ p h. absurd h;
  held = λ t a e. absurd (none_some a e);
  asked = λ m p h. absurd h;
  executing = λ a t h. absurd h;
  releasing = λ a t h. absurd h;
}

pub all_turns : (us : List (Turn)) (w v : Asking) → Moves w → Turns w us v → Moves v
all_turns [] w v i run = subst (λ x. Moves x) (sym run) i
all_turns (u ∷ us) w v i run = all_turns us (turned w u) v (keeps_turn w i u run.0) run.1
