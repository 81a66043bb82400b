-- Requests that are served one after another are accepted, or late, as the machine says.
use Rattle.std.proofs.Common.{◌≡◌, ◌≢◌, ◌<◌, ◌≤◌, ◌+◌, ◌-◌, ◌/◌, ◌&&◌, ◌==◌, nat_le, nat_lt, is_some, ℕ, Bool, true, false, cond, List, [], ◌∷◌, ◌++◌, length, Some, None, inl, inr, refl, sym, ap, ◌∙◌, subst, append_assoc, append-nil, length-append, arith}
use Rattle.std.specs.List.{AllByRecursion}
use Rattle.std.proofs.lemmas.Grind.{flat_map-append}
use Rattle.std.proofs.lemmas.Bool.{ltb-true, ltb-false, cases_Bool}
use Rattle.std.proofs.Math.Nat.{div-eq_of_lt}
use Rattle.std.proofs.lemmas.List.{length-set}
use Rattle.fid_space.specs.declared.fid.Fid.{Fid}
use Rattle.fid_space.specs.Places.{place_of, has_place, in_range, base_of}
use Rattle.tree_model.specs.Tree.{Grown, base}
use Rattle.tree_model.specs.Step.{step}
use Rattle.tree_model.specs.History.{Item, tree_of}
use Rattle.tree_model.specs.Participants.{home_of}
use Rattle.tree_model.specs.Striped as striped
use Rattle.tree_model.specs.Keys.{Laid}
use Rattle.tree_model.specs.Kept.{laid_of}
use Rattle.tree_model.proofs.OneTarget.{on_one}
use Rattle.tree_model.specs.OpText.{IsOp}
use Rattle.tree_model.specs.declared.op.Op.{Op}
use Rattle.tree_model.specs.declared.op.Op.TheVariants as ops
use Rattle.tree_model.specs.declared.op.Request.{Request}
use Rattle.tree_model.proofs.Histories.{tree_from-push}
use Rattle.scenario_text.specs.Spelling.{is_create}
use Rattle.scenario_text.specs.Machine.{State, Accepts, Among, Answers, IsAnswer, IsStale, SameSeat, SaysAll, HaveAnswers, serves, targets_of}
use Rattle.scenario_text.specs.declared.line.Standing.TheVariants.{Serving}
use Rattle.scenario_text.specs.declared.line.Line.{Line}
use Rattle.scenario_text.specs.declared.line.Line.TheVariants as lines
use Rattle.scenario_text.proofs.Runs.{answers_after}
use Rattle.dne_cli.specs.Image.{item_bytes, items_bytes}
use Rattle.dne_cli.specs.Kept.{Ledger, accepted_by, is_late, item_for, seat_of, serve_lines, served, served_lines, served_one, turned_away, two_lines}
use Rattle.dne_cli.specs.Reached.{IsPlayedRequest, Matches, IsFree, AreDistinct, greatest}
use Rattle.dne_cli.proofs.Lists.{all_push, all_map, all_among, among_last, greatest_above, greatest_item, seats_more}

and_right : (a b : Bool) → a && b ≡ true → b ≡ true
and_right true b e = e
and_right false b e = cc

place_by : (a b : Bool) (x : ℕ) → is_some (cond a (Some 0) (cond b (Some x) None)) ≡ true → (b ≡ true → x ≡ 0) → cond a (Some 0) (cond b (Some x) None) ≡ Some 0
place_by true b x h z = refl
place_by false true x h z = ap Some (z refl)
place_by false false x h z = cc

-- every FID with a place in a cluster of one target lives there
place_one : (f : Fid) → has_place 1 f ≡ true → place_of 1 f ≡ Some 0
place_one f h = place_by (f.seq == 0x200000007) (in_range 1 f) ((f.seq - base_of 0) / 0x100000) h (λ e. div-eq_of_lt (below e))
  where
    below : in_range 1 f ≡ true → f.seq - base_of 0 < 0x100000
    below e = let low = ltb-true f.seq (base_of 1) (and_right (nat_le (base_of 0) f.seq) (nat_lt f.seq (base_of 1)) e) in omega (arith, low)

op_home : (o : Op) → is_create o ≡ true → IsOp 1 o → home_of 1 o ≡ Some 0
op_home (ops.Create p x f) is h = place_one p h.0.1
op_home _ is h = cc

-- the home of a request to a cluster of one target
pub request_home : (n : ℕ) (r : Request) → n ≡ 1 → IsPlayedRequest r → home_of n r.op ≡ Some 0
request_home n r is h = ap (λ m. home_of m r.op) is ∙ op_home r.op h.4 h.3

all_both : {X : Type 0} (P Q R : X → Type 0) (xs : List X) → ((x : X) → P x → Q x → R x) → AllByRecursion P xs → AllByRecursion Q xs → AllByRecursion R xs
all_both P Q R [] f h k = tt
all_both P Q R (x ∷ xs) f h k = (f x h.0 k.0, all_both P Q R xs f h.1 k.1)

-- what comes of requests that are served one after another
pub record Serves (s : State) (l : Ledger) (ws : List Request) : Type 0 where
  pub history : List Item
  pub pending : List ℕ
  pub more : List Item
  pub longer : history ≡ s.history ++ more
  pub says : SaysAll s (served_lines l ws) (record s { history = history; pend = pending })
  pub matches : Matches (targets_of s) history pending (served l ws)
  pub counted : s.last + length pending ≡ length history
  pub accepted : AllByRecursion (λ i. Among s.asked.sent i.request) history
  pub few : length history ≤ length s.history + length ws
  pub answers : HaveAnswers ws (served_lines l ws)
  pub lines : AllByRecursion IsAnswer (served_lines l ws)

-- where requests may be served
pub record IsReady (s : State) (l : Ledger) (ws : List Request) : Type 0 where
  pub one : targets_of s ≡ 1
  pub serving : s.standing ≡ Serving
  pub requests : AllByRecursion IsPlayedRequest s.asked.sent
  pub accepted : AllByRecursion (λ i. Among s.asked.sent i.request) s.history
  pub matches : Matches (targets_of s) s.history s.pend l
  pub counted : s.last + length s.pend ≡ length s.history
  pub wait : AllByRecursion (λ r. Among s.asked.sent r) ws
  pub free : AllByRecursion (IsFree s.history) ws
  pub apart : AreDistinct ws

-- a request that is late is answered so
stale : (s : State) (l : Ledger) (r : Request) (rs : List Request) → IsReady s l (r ∷ rs) → is_late l r ≡ true → IsStale s r.number (seat_of l r.client) s
stale s l r rs y late =
    let fits : IsPlayedRequest r = all_among IsPlayedRequest s.asked.sent r y.requests y.wait.0 in
    let seat : seat_of l r.client ≡ greatest r.client s.history = y.matches.seats r.client (omega (arith, fits.2)) in
    let low = ltb-true r.number (seat_of l r.client) late in
    let g = greatest_item r.client s.history (omega (arith, low, seat)) in
    let other : IsPlayedRequest g.item.request = all_among IsPlayedRequest s.asked.sent g.item.request y.requests (all_among (λ i. Among s.asked.sent i.request) s.history g.item y.accepted g.among) in
    record {
      request = r;
      sent = y.wait.0;
      numbered = refl;
      serving = y.serving;
      item = g.item;
      same_seat = (g.client, request_home (targets_of s) g.item.request y.one other ∙ sym (request_home (targets_of s) r y.one fits));
      latest = (
        g.among,
        all_map (λ j. j.request.client ≡ r.client → j.request.number ≤ greatest r.client s.history) (λ j. SameSeat (targets_of s) j.request g.item.request → j.request.number ≤ g.item.request.number) s.history
            (λ j below same. subst (λ n. j.request.number ≤ n) (sym g.number) (below (same.0 ∙ g.client))) (greatest_above r.client s.history),
      );
      named = g.number ∙ sym seat;
      greater = low;
      after = refl;
    }

-- the rest of the requests, where the first was late
late_next : (s : State) (l : Ledger) (r : Request) (rs : List Request) → IsReady s l (r ∷ rs) → is_late l r ≡ true → Serves s l rs → Serves s l (r ∷ rs)
late_next s l r rs y late v =
    let line : Line = lines.Stale r.number (seat_of l r.client) in
    let same : served_one l r ≡ l = ap (λ b. cond b l (accepted_by l r)) late in
    let said : serve_lines l r ≡ line ∷ [] = ap (λ b. cond b (line ∷ []) (two_lines (item_for l r))) late in
    let all : line ∷ served_lines l rs ≡ served_lines l (r ∷ rs) = λ i. sym said i ++ served_lines (sym same i) rs in
    record {
      history = v.history;
      pending = v.pending;
      more = v.more;
      longer = v.longer;
      says = subst (λ ls. SaysAll s ls (record s { history = v.history; pend = v.pending })) all (s, stale s l r rs y late, v.says);
      matches = subst (λ x. Matches (targets_of s) v.history v.pending (served x rs)) (sym same) v.matches;
      counted = v.counted;
      accepted = v.accepted;
      few = let f = v.few in omega (arith, f);
      answers = subst (λ ls. HaveAnswers (r ∷ rs) ls) all (inl refl, answers_after rs (line ∷ []) (served_lines l rs) v.answers);
      lines = subst (λ ls. AllByRecursion IsAnswer ls) all (tt, v.lines);
    }

-- the item of a request that is accepted
abbrev item_of : State → Request → Item
item_of s r = record { request = r; reply = (step (targets_of s) (tree_of (targets_of s) s.history) r.op).1 }

abbrev after_one : State → Request → State
after_one s r = record s { history = s.history ++ item_of s r ∷ []; pend = s.pend ++ r.number ∷ [] }

below : (s : State) (l : Ledger) (r : Request) (rs : List Request) → IsReady s l (r ∷ rs) → is_late l r ≡ false → greatest r.client s.history ≤ r.number
below s l r rs y new =
    let fits : IsPlayedRequest r = all_among IsPlayedRequest s.asked.sent r y.requests y.wait.0 in
    let seat : seat_of l r.client ≡ greatest r.client s.history = y.matches.seats r.client (omega (arith, fits.2)) in
    let high = ltb-false r.number (seat_of l r.client) new in
    omega (arith, high, seat)

-- a request that isn't late is accepted
accepts : (s : State) (l : Ledger) (r : Request) (rs : List Request) (others : List Line) → IsReady s l (r ∷ rs) → is_late l r ≡ false
    → Accepts s r.number (item_of s r).reply 1 (lines.Reply r.number (item_of s r).reply ∷ others) (after_one s r)
accepts s l r rs others y new =
    let most = below s l r rs y new in
    let fits : IsPlayedRequest r = all_among IsPlayedRequest s.asked.sent r y.requests y.wait.0 in
    let laid : Laid = laid_of (targets_of s) s.history in
    record {
      request = r;
      sent = y.wait.0;
      numbered = refl;
      serving = y.serving;
      fresh = all_both (λ i. i.request.number ≢ r.number) (λ i. i.request.client ≡ r.client → i.request.number ≤ greatest r.client s.history)
          (λ i. (i.request.number ≢ r.number) × (SameSeat (targets_of s) i.request r → i.request.number ≤ r.number)) s.history
          (λ i apart low. (apart, (λ same. let l = low same.0 in omega (arith, l, most)))) y.free.0 (greatest_above r.client s.history);
      replied = refl;
      placed = sym (ap (λ n. striped.on n laid r.op) y.one ∙ on_one laid r.op fits.3);
      next = refl;
      after = refl;
    }

answers_it : (s : State) (l : Ledger) (r : Request) (rs : List Request) → IsReady s l (r ∷ rs) → is_late l r ≡ false → Answers (after_one s r) r.number (item_of s r).reply (after_one s r)
answers_it s l r rs y new =
    let most = below s l r rs y new in
    record {
      item = item_of s r;
      numbered = refl;
      replied = refl;
      serving = y.serving;
      latest = (
        among_last s.history (item_of s r),
        all_push (λ j. SameSeat (targets_of s) j.request r → j.request.number ≤ r.number) s.history (item_of s r)
            (all_map (λ j. j.request.client ≡ r.client → j.request.number ≤ greatest r.client s.history) (λ j. SameSeat (targets_of s) j.request r → j.request.number ≤ r.number) s.history
            (λ j low same. let l = low same.0 in omega (arith, l, most)) (greatest_above r.client s.history))
            (λ _. omega arith),
      );
      after = refl;
    }

matches_more : (s : State) (l : Ledger) (r : Request) (rs : List Request) → IsReady s l (r ∷ rs) → is_late l r ≡ false → Matches (targets_of s) (s.history ++ item_of s r ∷ []) (s.pend ++ r.number ∷ []) (accepted_by l r)
matches_more s l r rs y new =
    let n : ℕ = targets_of s in
    let h : List Item = s.history in
    let i : Item = item_of s r in
    let m = y.matches in
    let fits : IsPlayedRequest r = all_among IsPlayedRequest s.asked.sent r y.requests y.wait.0 in
    let same : item_for l r ≡ i = ap (λ (g : Grown). record { request = r; reply = (step g.targets g.tree r.op).1 }) m.tree in
    record {
      tree = ap (λ (g : Grown). record { targets = g.targets; tree = (step g.targets g.tree r.op).0 }) m.tree ∙ ap (λ t. record { targets = n; tree = t }) (sym (tree_from-push n base h i));
      count = ap (λ c. c + 1) m.count ∙ sym (length-append h (i ∷ []));
      bytes = (λ k. m.bytes k ++ item_bytes (same k)) ∙ ap (λ b. items_bytes h ++ b) (sym (append-nil (item_bytes i))) ∙ sym (flat_map-append item_bytes h (i ∷ []));
      size = length-set l.seats r.client r.number ∙ m.size;
      seats = seats_more l.seats h i m.size (omega (arith, fits.2)) (below s l r rs y new) m.seats;
      pend = ap (λ p. p ++ r.number ∷ []) m.pend;
    }

ready_next : (s : State) (l : Ledger) (r : Request) (rs : List Request) → IsReady s l (r ∷ rs) → is_late l r ≡ false → IsReady (after_one s r) (accepted_by l r) rs
ready_next s l r rs y new = record {
  one = y.one;
  serving = y.serving;
  requests = y.requests;
  accepted = all_push (λ i. Among s.asked.sent i.request) s.history (item_of s r) y.accepted y.wait.0;
  matches = matches_more s l r rs y new;
  counted = (let a = length-append s.pend (r.number ∷ []) in let b = length-append s.history (item_of s r ∷ []) in let c = y.counted in omega (arith, a, b, c));
  wait = y.wait.1;
  free = all_both (IsFree s.history) (λ q. q.number ≢ r.number) (IsFree (s.history ++ item_of s r ∷ [])) rs
      (λ q free apart. all_push (λ i. i.request.number ≢ q.number) s.history (item_of s r) free (λ e. apart (sym e))) y.free.1 y.apart.0;
  apart = y.apart.1;
}

-- the rest of the requests, where the first was accepted
new_next : (s : State) (l : Ledger) (r : Request) (rs : List Request) → IsReady s l (r ∷ rs) → is_late l r ≡ false → Serves (after_one s r) (accepted_by l r) rs → Serves s l (r ∷ rs)
new_next s l r rs y new v =
    let n : ℕ = targets_of s in
    let i : Item = item_of s r in
    let two : List Line = two_lines i in
    let rest : List Line = served_lines (accepted_by l r) rs in
    let same : served_one l r ≡ accepted_by l r = ap (λ b. cond b l (accepted_by l r)) new in
    let said : serve_lines l r ≡ two =
    ap (λ b. cond b (lines.Stale r.number (seat_of l r.client) ∷ []) (two_lines (item_for l r))) new
    ∙ ap (λ (g : Grown). two_lines (record { request = r; reply = (step g.targets g.tree r.op).1 })) y.matches.tree in
    let all : two ++ rest ≡ served_lines l (r ∷ rs) = λ k. sym said k ++ served_lines (sym same k) rs in
    record {
      history = v.history;
      pending = v.pending;
      more = i ∷ v.more;
      longer = v.longer ∙ append_assoc s.history (i ∷ []) v.more;
      says = subst (λ ls. SaysAll s ls (record s { history = v.history; pend = v.pending })) all
          (after_one s r, accepts s l r rs rest y new, (after_one s r, answers_it s l r rs y new, v.says));
      matches = subst (λ x. Matches n v.history v.pending (served x rs)) (sym same) v.matches;
      counted = v.counted;
      accepted = v.accepted;
      few = (let f = v.few in let b = length-append s.history (i ∷ []) in omega (arith, f, b));
      answers = subst (λ ls. HaveAnswers (r ∷ rs) ls) all (inr (inl refl), answers_after rs two rest v.answers);
      lines = subst (λ ls. AllByRecursion IsAnswer ls) all (tt, (tt, v.lines));
    }

pub serve_all : (ws : List Request) (s : State) (l : Ledger) → IsReady s l ws → Serves s l ws
serve_all [] s l y = record {
  history = s.history;
  pending = s.pend;
  more = [];
  longer = sym (append-nil s.history);
  says = refl;
  matches = y.matches;
  counted = y.counted;
  accepted = y.accepted;
  few = omega arith;
  answers = tt;
  lines = tt;
}
serve_all (r ∷ rs) s l y = elim (cases_Bool (is_late l r)) [
  | inl late ↦ late_next s l r rs y late (serve_all rs s l (ready_late y))
  | inr new ↦ new_next s l r rs y new (serve_all rs (after_one s r) (accepted_by l r) (ready_next s l r rs y new))
]
  where
    ready_late : IsReady s l (r ∷ rs) → IsReady s l rs
    ready_late y = record {
      one = y.one;
      serving = y.serving;
      requests = y.requests;
      accepted = y.accepted;
      matches = y.matches;
      counted = y.counted;
      wait = y.wait.1;
      free = y.free.1;
      apart = y.apart.1;
    }

-- a target that doesn't serve turns each request away
pub turned_says : (ws : List Request) (s : State) → targets_of s ≡ 1 → serves s.standing ≡ false → AllByRecursion IsPlayedRequest s.asked.sent → AllByRecursion (λ r. Among s.asked.sent r) ws → SaysAll s (turned_away ws) s
turned_says [] s one stopped fits wait = refl
turned_says (r ∷ rs) s one stopped fits wait =
    (s, record { request = r; sent = wait.0; numbered = refl; home = request_home (targets_of s) r one (all_among IsPlayedRequest s.asked.sent r fits wait.0); stopped = stopped; after = refl }, turned_says rs s one stopped fits wait.1)

pub turned_lines : (ws : List Request) → AllByRecursion IsAnswer (turned_away ws)
turned_lines [] = tt
turned_lines (r ∷ rs) = (tt, turned_lines rs)

pub turned_answers : (ws : List Request) → HaveAnswers ws (turned_away ws)
turned_answers [] = tt
turned_answers (r ∷ rs) = (inl refl, answers_after rs (lines.Recovering r.number 0 ∷ []) (turned_away rs) (turned_answers rs))
