-- Small facts: lists, points, names, and how an agreement is put together after a turn.
use Rattle.std.proofs.Common.{◌≡◌, ◌≢◌, ◌<◌, ◌==◌, ◌&&◌, ◌⊎◌, inl, inr, length, ℕ, Bool, true, false, true≢false, List, [], ◌∷◌, ◌++◌, map, set, Option, Some, None, refl, sym, ap, ◌∙◌, subst}
use Rattle.std.proofs.lemmas.Bool.Decides.{eqb_tells}
use Rattle.std.proofs.lemmas.List.{get_or-set_same, get_or-set_other, length-set}
use Rattle.tree_model.specs.Participants.{home_of}
use Rattle.tree_model.specs.declared.op.Request.{Request}
use Rattle.update_record.specs.declared.message.Attempt.{Attempt as Name}
use Rattle.update_record.specs.declared.message.Message.{Message as Mail}
use Rattle.cluster_mail.specs.Mail.{Sent, fresh}
use Rattle.target_state.specs.Rules.{is_held_by, same_attempt}
use Rattle.update_coordinator.specs.Coordinating.{Coordinating}
use Rattle.target_turns.specs.Target.{Target, Turned, serves}
use Rattle.update_protocol.specs.Lists.{IsIn}
use Rattle.update_protocol.specs.World.{Accepted, Attempt, Each, World}
use Rattle.turn_laws.specs.Values.{Cluster, Genuine, Questions, Slice, Unique, after_turn, name_of, named, no_target, slice, target_at}
use Rattle.turn_laws.specs.Agrees.{Agrees, Carried, IsItem, Keeps, KeepsHome}

pub mem_append : {X : Type 0} (xs ys : List X) (x : X) → IsIn x (xs ++ ys) → IsIn x xs ⊎ IsIn x ys
mem_append [] ys x m = inr m
mem_append (y ∷ xs) ys x (inl e) = inl (inl e)
mem_append (y ∷ xs) ys x (inr m) = elim (mem_append xs ys x m) [
  | inl h ↦ inl (inr h)
  | inr h ↦ inr h
]

mem_fresh : (ms : List Mail) (m : Sent) → IsIn m (map fresh ms) → IsIn m.message ms
mem_fresh [] m h = absurd h
mem_fresh (x ∷ ms) m (inl e) = inl (ap (λ (q : Sent). q.message) e)
mem_fresh (x ∷ ms) m (inr h) = inr (mem_fresh ms m h)

old_or_new : (sent : List Sent) (ms : List Mail) (m : Sent) → IsIn m (sent ++ map fresh ms) → IsIn m sent ⊎ IsIn m.message ms
old_or_new sent ms m h = elim (mem_append sent (map fresh ms) m h) [
  | inl old ↦ inl old
  | inr new ↦ inr (mem_fresh ms m new)
]

-- POINTS

pub at_set : (P : ℕ → Target → Type 0) (ts : List Target) (i : ℕ) (x : Target) → i < length ts → P i x → ((j : ℕ) → j ≢ i → P j (target_at ts j)) → (j : ℕ) → P j (target_at (set ts i x) j)
at_set P ts i x low here other j = elim (eqb_tells j i) [
  | inl h ↦ subst (λ n. P n (target_at (set ts i x) n)) (sym h.1) (subst (P i) (sym (get_or-set_same ts i x no_target low)) here)
  | inr h ↦ subst (P j) (sym (get_or-set_other ts i j x no_target h.1)) (other j h.1)
]

-- NAMES

pub eqb_is : (m n : ℕ) → (m == n) ≡ true → m ≡ n
eqb_is m n e = elim (eqb_tells m n) [
  | inl h ↦ h.1
  | inr h ↦ absurd (true≢false (sym e ∙ h.0))
]

pub eqb_self : (n : ℕ) → (n == n) ≡ true
eqb_self n = elim (eqb_tells n n) [
  | inl h ↦ h.0
  | inr h ↦ absurd (h.1 refl)
]

pub both : (a b : Bool) → a && b ≡ true → (a ≡ true) × (b ≡ true)
both true b e = (refl, e)
both false b e = cc

pub same_is : (a b : Name) → same_attempt a b ≡ true → a ≡ b
same_is a b e =
    let one = both (a.epoch == b.epoch) ((a.master == b.master) && ((a.attempt == b.attempt) && (a.number == b.number))) e in
    let two = both (a.master == b.master) ((a.attempt == b.attempt) && (a.number == b.number)) one.1 in
    let three = both (a.attempt == b.attempt) (a.number == b.number) two.1 in
    let x = eqb_is a.epoch b.epoch one.0 in
    let m = eqb_is a.master b.master two.0 in
    let t = eqb_is a.attempt b.attempt three.0 in
    let n = eqb_is a.number b.number three.1 in
    λ i. record { epoch = x i; master = m i; attempt = t i; number = n i }

pub same_self : (a : Name) → same_attempt a a ≡ true
same_self a =
    ap (λ x. x && ((a.master == a.master) && ((a.attempt == a.attempt) && (a.number == a.number)))) (eqb_self a.epoch)
    ∙ ap (λ x. x && ((a.attempt == a.attempt) && (a.number == a.number))) (eqb_self a.master)
    ∙ ap (λ x. x && (a.number == a.number)) (eqb_self a.attempt)
    ∙ eqb_self a.number

pub held_is : (h : Option Name) (a : Name) → is_held_by h a ≡ true → h ≡ Some a
held_is None a e = cc
held_is (Some b) a e = ap (λ (x : Name). Some x) (same_is b a e)

-- a number stands for one request, so a name stands for one attempt
pub name_tells : (targets : ℕ) (sent : List Request) → Unique sent → (e : ℕ) (a b : Attempt) → Genuine targets sent a → Genuine targets sent b → name_of e a ≡ name_of e b → a ≡ b
name_tells targets sent unique e a b g h same =
    let r : a.who.request ≡ b.who.request = unique a.who.request b.who.request g.0 h.0 (ap (λ (n : Name). n.number) same) in
    let m : a.who.master ≡ b.who.master = ap (λ (n : Name). n.master) same in
    let t : a.turn ≡ b.turn = ap (λ (n : Name). n.attempt) same in
    λ i. record { who = record { master = m i; request = r i }; turn = t i }

pub some_name : (a b : Name) → ◌≡◌ {A = Option Name} (Some a) (Some b) → a ≡ b
some_name a b e = cc

pub none_name : (a : Name) → ◌≡◌ {A = Option Name} None (Some a) → ⊥
none_name a e = cc

pub holder_tells : (targets : ℕ) (sent : List Request) → Unique sent → (e : ℕ) (o : Option Attempt) (a : Attempt) → ((b : Attempt) → o ≡ Some b → Genuine targets sent b) → Genuine targets sent a → named e o ≡ Some (name_of e a) → o ≡ Some a
holder_tells targets sent unique e None a known g same = absurd (none_name (name_of e a) same)
holder_tells targets sent unique e (Some b) a known g same = ap (λ (x : Attempt). Some x) (name_tells targets sent unique e b a (known b refl) g (some_name (name_of e b) (name_of e a) same))

-- two attempts of one request are of one home
pub same_who : (targets : ℕ) (sent : List Request) → Unique sent → (a b : Attempt) → Genuine targets sent a → Genuine targets sent b → a.who.request.number ≡ b.who.request.number → a.who ≡ b.who
same_who targets sent unique a b g h number =
    let r : a.who.request ≡ b.who.request = unique a.who.request b.who.request g.0 h.0 number in
    let m : a.who.master ≡ b.who.master = some_number _ _ (sym g.1 ∙ ap (λ (q : Request). home_of targets q.op) r ∙ h.1) in
    λ i. record { master = m i; request = r i }
  where
    some_number : (m n : ℕ) → ◌≡◌ {A = Option ℕ} (Some m) (Some n) → m ≡ n
    some_number m n e = cc

-- AGREEMENT

-- what the home keeps doesn't mention these
pub home_moves : (targets e : ℕ) (sent : List Request) (since : List Accepted) (t : ℕ) (s : Slice) (c : Coordinating) (done disk gone : List ℕ) (holder : Option Attempt) (ended : ℕ → ℕ) (clock : ℕ)
    → KeepsHome targets e sent since t s c → KeepsHome targets e sent since t (record s { done = done; disk = disk; gone = gone; holder = holder; ended = ended; clock = clock }) c
home_moves targets e sent since t s c done disk gone holder ended clock h =
    record { cluster = h.cluster; at_home = h.at_home; epoch = h.epoch; attempts = h.attempts; batches = h.batches; sets = h.sets; wide = h.wide; stable = h.stable; mark = h.mark; under = h.under; idle = h.idle; going = h.going }

module _ (targets : ℕ) where
  -- an agreement after the turn of target i
  pub settles : (c : Cluster) (w v : World) (g : Agrees targets c w) (sent : List Request) → Unique sent → (asked : Questions) (i : ℕ) → i < length c.targets → (u : Turned)
      → v.serving ≡ w.serving
      → Each (λ n x. IsItem targets g.epoch sent x) v.since
      → v.up i ≡ serves u.target
      → ((j : ℕ) → j ≢ i → v.up j ≡ w.up j)
      → ((j : ℕ) → j ≢ i → serves (target_at c.targets j) ≡ true → Keeps targets g.epoch sent (g.start j) v.base v.since j (slice v j) (target_at c.targets j))
      → (serves u.target ≡ true → Keeps targets g.epoch sent (g.start i) v.base v.since i (slice v i) u.target)
      → ((m : Mail) → Carried targets g.epoch g.sent g.asked w.since w.pool m → Carried targets g.epoch sent asked v.since v.pool m)
      → ((m : Mail) → IsIn m u.sent → m.epoch ≡ g.epoch → Carried targets g.epoch sent asked v.since v.pool m)
      → Agrees targets (after_turn c i u) v
  settles c w v g sent unique asked i inside u serving items up ups others here old news = record {
    epoch = g.epoch;
    sent = sent;
    unique = unique;
    asked = asked;
    start = g.start;
    serving = serving ∙ g.serving;
    items = items;
    few = length-set c.targets i u.target ∙ g.few;
    ups = λ t l. at_set (λ t x. t < length c.targets → v.up t ≡ serves x) c.targets i u.target inside (λ l. up) (λ j ne l. ups j ne ∙ g.ups j l) t (subst (λ n. t < n) (length-set c.targets i u.target) l);
    keeps = at_set (λ t x. serves x ≡ true → Keeps targets g.epoch sent (g.start t) v.base v.since t (slice v t) x) c.targets i u.target inside here others;
    carried = λ m h e. elim (old_or_new c.sent u.sent m h) [
      | inl q ↦ old m.message (g.carried m q e)
      | inr n ↦ news m.message n e
    ];
  }
