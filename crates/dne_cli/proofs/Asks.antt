-- What was asked for and accepted, and what a session keeps of it.
use Rattle.std.proofs.Common.{◌≡◌, ◌≢◌, ◌≤◌, ℕ, Bool, false, true, List, [], ◌∷◌, ◌++◌, set, Option, Some, None, IsSome, ◌⊎◌, inl, inr, refl, sym, ap, ◌∙◌, subst}
use Rattle.std.specs.List.{AllByRecursion}
use Rattle.std.proofs.lemmas.List.{length-set}
use Rattle.tree_model.specs.History.{Item}
use Rattle.tree_model.specs.declared.op.Request.{Request}
use Rattle.scenario_text.specs.Spelling.{Entry, Skip, Order, IsEntry, IsRequest, NoFeed, is_create, line_of}
use Rattle.scenario_text.specs.Machine.{Asked, Among, HasAnswer, HaveAnswers, IsTaken, MayStand, is_sent}
use Rattle.scenario_text.specs.declared.line.Line.{Line}
use Rattle.scenario_text.specs.declared.command.Command.TheVariants as commands
use Rattle.scenario_text.proofs.OneSpelling.{limits}
use Rattle.scenario_text.proofs.Runs.{answer_stays, answer_after}
use Rattle.dne_cli.specs.Kept.{Kept, Held, is_used}
use Rattle.dne_cli.specs.Reached.{AsksSame, IsPlayedRequest, IsFree, Stands, IsSpelled}
use Rattle.dne_cli.proofs.Lists.{all_push, all_map, all_among, among_front, among_last, not_sent, flags_more, distinct_push}

-- the numbers that were used matter for a request alone
may_as : (cluster : Option ℕ) (ended : Bool) (u v : ℕ → Bool) (e : Entry) → ((n : ℕ) → n ≤ 65536 → u n ≡ v n) → IsSpelled cluster e → MayStand cluster ended u e → MayStand cluster ended v e
may_as cluster ended u v (Skip line) same fits may = may
may_as cluster ended u v (Order (commands.Cluster n)) same fits may = may
may_as cluster ended u v (Order (commands.Send r)) same fits may = (may.0, sym (same r.number (limits cluster r fits).2) ∙ may.1)
may_as cluster ended u v (Order (commands.Again n)) same fits may = (may.0, sym (same n fits.1) ∙ may.1)
may_as cluster ended u v (Order (commands.Deliver k)) same fits may = may
may_as cluster ended u v (Order (commands.Drop k)) same fits may = may
may_as cluster ended u v (Order commands.Settle) same fits may = may
may_as cluster ended u v (Order commands.Resend) same fits may = may
may_as cluster ended u v (Order commands.List) same fits may = may
may_as cluster ended u v (Order (commands.Log t)) same fits may = may
may_as cluster ended u v (Order commands.Tree) same fits may = may
may_as cluster ended u v (Order commands.End) same fits may = may
may_as cluster ended u v (Order (commands.Commit t)) same fits may = may
may_as cluster ended u v (Order (commands.Crash t)) same fits may = may
may_as cluster ended u v (Order (commands.Restart t)) same fits may = may
may_as cluster ended u v (Order (commands.Fuse t after choice)) same fits may = may

spelled_entry : (cluster : Option ℕ) (e : Entry) → IsSpelled cluster e → NoFeed (line_of e) → IsEntry cluster e
spelled_entry cluster (Skip line) h clean = (h, clean)
spelled_entry cluster (Order c) h clean = h

entry_spelled : (cluster : Option ℕ) (e : Entry) → IsEntry cluster e → IsSpelled cluster e
entry_spelled cluster (Skip line) h = h.0
entry_spelled cluster (Order c) h = h

-- what a session takes, the machine takes
pub taken_here : (a : Asked) (h : List Item) (said : List Line) (k : Kept) (e : Entry) → AsksSame a h said k → Stands k e → NoFeed (line_of e) → IsTaken a e
taken_here a h said k e s stands clean =
    let fits : IsSpelled a.cluster e = subst (λ c. IsSpelled c e) s.cluster stands.0 in (
      spelled_entry a.cluster e fits clean,
      may_as a.cluster a.ended (is_used k.used) (is_sent a.sent) e s.used fits
          (subst (λ c. MayStand c a.ended (is_used k.used) e) s.cluster (subst (λ b. MayStand k.cluster b (is_used k.used) e) s.ended stands.1)),
      stands.2,
    )

-- and what the machine takes, a session takes
pub taken_back : (a : Asked) (h : List Item) (said : List Line) (k : Kept) (e : Entry) → AsksSame a h said k → IsTaken a e → Stands k e
taken_back a h said k e s taken =
    let fits : IsSpelled a.cluster e = entry_spelled a.cluster e taken.0 in (
      subst (λ c. IsSpelled c e) (sym s.cluster) fits,
      subst (λ c. MayStand c k.ended (is_used k.used) e) (sym s.cluster) (subst (λ b. MayStand a.cluster b (is_used k.used) e) (sym s.ended)
          (may_as a.cluster a.ended (is_sent a.sent) (is_used k.used) e (λ n low. sym (s.used n low)) fits taken.1)),
      taken.2,
    )

stays : (said ls : List Line) (ws : List Request) (rs : List Request) → AllByRecursion (λ r. HasAnswer r.number said ⊎ Among ws r) rs → AllByRecursion (λ r. HasAnswer r.number (said ++ ls) ⊎ Among ws r) rs
stays said ls ws rs h = all_map (λ r. HasAnswer r.number said ⊎ Among ws r) (λ r. HasAnswer r.number (said ++ ls) ⊎ Among ws r) rs (λ r x. one r x) h
  where
    one : (r : Request) → HasAnswer r.number said ⊎ Among ws r → HasAnswer r.number (said ++ ls) ⊎ Among ws r
    one r (inl x) = inl (answer_stays r.number said ls x)
    one r (inr x) = inr x

-- nothing was asked for, and a line is said
pub asks_on : (a : Asked) (h : List Item) (said ls : List Line) (k : Kept) (target : Held) → AsksSame a h said k → AsksSame a h (said ++ ls) (record k { target = target })
asks_on a h said ls k target s = record {
  cluster = s.cluster;
  ended = s.ended;
  used = s.used;
  flags = s.flags;
  one = s.one;
  requests = s.requests;
  accepted = s.accepted;
  wait = s.wait;
  free = s.free;
  apart = s.apart;
  answered = stays said ls k.waiting a.sent s.answered;
}

-- the end was asked for
pub asks_end : (a : Asked) (h : List Item) (said ls : List Line) (k : Kept) (target : Held) → AsksSame a h said k → AsksSame (record a { ended = true }) h (said ++ ls) (record k { ended = true; target = target })
asks_end a h said ls k target s = record {
  cluster = s.cluster;
  ended = refl;
  used = s.used;
  flags = s.flags;
  one = s.one;
  requests = s.requests;
  accepted = s.accepted;
  wait = s.wait;
  free = s.free;
  apart = s.apart;
  answered = stays said ls k.waiting a.sent s.answered;
}

-- a cluster of one target was asked for
pub asks_cluster : (a : Asked) (h : List Item) (said ls : List Line) (k : Kept) (target : Held) (n : ℕ) → n ≡ 1 → AsksSame a h said k → AsksSame (record a { cluster = Some n }) h (said ++ ls) (record k { cluster = Some n; target = target })
asks_cluster a h said ls k target n is s = record {
  cluster = refl;
  ended = s.ended;
  used = s.used;
  flags = s.flags;
  one = λ m e. sym (some_is n m e) ∙ is;
  requests = s.requests;
  accepted = s.accepted;
  wait = s.wait;
  free = s.free;
  apart = s.apart;
  answered = stays said ls k.waiting a.sent s.answered;
}
  where
    some_is : (m n : ℕ) → Some m ≡ Some n → m ≡ n
    some_is m n e = cc

-- the cluster has one target
pub one_target : (a : Asked) (h : List Item) (said : List Line) (k : Kept) → AsksSame a h said k → IsSome a.cluster → a.cluster ≡ Some 1
one_target a h said k s some = find a.cluster some s.one
  where
    find : (c : Option ℕ) → IsSome c → ((n : ℕ) → c ≡ Some n → n ≡ 1) → c ≡ Some 1
    find None some one = cc
    find (Some n) some one = ap Some (one n refl)

-- a request was asked for
pub asks_send : (a : Asked) (h : List Item) (said : List Line) (k : Kept) (r : Request) → AsksSame a h said k → IsRequest a.cluster r → is_create r.op ≡ true → IsSome a.cluster → is_sent a.sent r.number ≡ false
    → AsksSame (record a { sent = a.sent ++ r ∷ [] }) h (said ++ []) (record k { waiting = k.waiting ++ r ∷ []; used = set k.used r.number true })
asks_send a h said k r s fits made some unused =
    let one : IsRequest (Some 1) r = subst (λ c. IsRequest c r) (one_target a h said k s some) fits in
    let here : IsPlayedRequest r = (one.0, one.1, one.2, one.3, made) in
    let others = not_sent a.sent r.number unused in
    let more : (q : Request) → Among a.sent q → Among (a.sent ++ r ∷ []) q = λ q m. among_front a.sent (r ∷ []) q m in
    record {
      cluster = s.cluster;
      ended = s.ended;
      used = flags_more k.used a.sent r s.flags here.1 s.used;
      flags = length-set k.used r.number true ∙ s.flags;
      one = s.one;
      requests = all_push IsPlayedRequest a.sent r s.requests here;
      accepted = all_map (λ i. Among a.sent i.request) (λ i. Among (a.sent ++ r ∷ []) i.request) h (λ i m. more i.request m) s.accepted;
      wait = all_push (λ q. Among (a.sent ++ r ∷ []) q) k.waiting r (all_map (λ q. Among a.sent q) (λ q. Among (a.sent ++ r ∷ []) q) k.waiting more s.wait) (among_last a.sent r);
      free = all_push (IsFree h) k.waiting r s.free
          (all_map (λ i. Among a.sent i.request) (λ i. i.request.number ≢ r.number) h (λ i m. all_among (λ q. q.number ≢ r.number) a.sent i.request others m) s.accepted);
      apart = distinct_push k.waiting r s.apart (all_map (λ q. Among a.sent q) (λ q. q.number ≢ r.number) k.waiting (λ q m. all_among (λ p. p.number ≢ r.number) a.sent q others m) s.wait);
      answered = all_push (λ q. HasAnswer q.number (said ++ []) ⊎ Among (k.waiting ++ r ∷ []) q) a.sent r
          (all_map (λ q. HasAnswer q.number said ⊎ Among k.waiting q) (λ q. HasAnswer q.number (said ++ []) ⊎ Among (k.waiting ++ r ∷ []) q) a.sent (λ q x. answered_or q x) s.answered)
          (inr (among_last k.waiting r));
    }
  where
    answered_or : (q : Request) → HasAnswer q.number said ⊎ Among k.waiting q → HasAnswer q.number (said ++ []) ⊎ Among (k.waiting ++ r ∷ []) q
    answered_or q (inl x) = inl (answer_stays q.number said [] x)
    answered_or q (inr x) = inr (among_front k.waiting (r ∷ []) q x)

-- each request that was sent has its answer, where those that waited have
pub all_answered : (a : Asked) (h : List Item) (said ls : List Line) (k : Kept) → AsksSame a h said k → HaveAnswers k.waiting ls → HaveAnswers a.sent (said ++ ls)
all_answered a h said ls k s answers = all_map (λ r. HasAnswer r.number said ⊎ Among k.waiting r) (λ r. HasAnswer r.number (said ++ ls)) a.sent (λ r x. one r x) s.answered
  where
    one : (r : Request) → HasAnswer r.number said ⊎ Among k.waiting r → HasAnswer r.number (said ++ ls)
    one r (inl x) = answer_stays r.number said ls x
    one r (inr x) = answer_after r.number said ls (all_among (λ q. HasAnswer q.number ls) k.waiting r answers x)

-- the requests that waited were served
pub asks_settle : (a : Asked) (h more : List Item) (said ls : List Line) (k : Kept) (target : Held) → AsksSame a h said k → HaveAnswers k.waiting ls → AllByRecursion (λ i. Among a.sent i.request) more
    → AsksSame a more (said ++ ls) (record k { waiting = []; target = target })
asks_settle a h more said ls k target s answers accepted = record {
  cluster = s.cluster;
  ended = s.ended;
  used = s.used;
  flags = s.flags;
  one = s.one;
  requests = s.requests;
  accepted = accepted;
  wait = tt;
  free = tt;
  apart = tt;
  answered = all_map (λ r. HasAnswer r.number (said ++ ls)) (λ r. HasAnswer r.number (said ++ ls) ⊎ Among [] r) a.sent (λ r x. inl x) (all_answered a h said ls k s answers);
}
