-- Targets with which a recovery begins.
use Rattle.std.specs.Prelude.{false}
use Rattle.std.specs.List.{flat_map, list_any, AllByRecursion}
use Rattle.std.proofs.Common.{◌≡◌, ◌≤◌, ◌<◌, ◌+◌, slice_get, ℕ, zero, suc, Bool, true, cond, ◌||◌, List, [], ◌∷◌, length, take, drop, Option, Some, None, Err, refl, sym, ap, subst, ◌∙◌, arith}
use Rattle.std.proofs.lemmas.Bool.{false≢true}
use Rattle.std.proofs.lemmas.Option.{none-some, same_Some, slice_get_within}
use Rattle.outside.specs.Disk.{Shown}
use Rattle.target_state.specs.State.{TargetState}
use Rattle.target_state.specs.declared.waiting.Waiting.{Waiting}
use Rattle.target_state.specs.Commit.{is_empty}
use Rattle.target_node.specs.Node.{NodeState}
use Rattle.update_record.specs.declared.operation.Record.{Record}
use Rattle.update_recovery.specs.declared.found.Found.{Found}
use Rattle.update_recovery.specs.Redoing.{lacking, Redoes, RedoesAt}
use Rattle.update_recovery.specs.declared.standing.Standing.{Standing}
use Rattle.update_recovery.specs.declared.standing.Standing.TheVariants as standing
use Rattle.update_recovery.specs.declared.report.Report.{Report}
use Rattle.update_recovery.specs.declared.report.Stop.{Stop}
use Rattle.update_recovery.specs.declared.report.Stop.TheVariants as stop
use Rattle.update_recovery.specs.declared.halt.Halt.{Halt}
use Rattle.update_recovery.specs.declared.halt.Halt.TheVariants as halt
use Rattle.update_recovery.specs.Steps.{AllCame, HasStopped, WhereHalted, told_from}
use Rattle.update_recovery.specs.Gathering.{is_down, GathersOpened, Gathers, BreaksGathering, stable_at, nodes_in, stopped_at}
use Rattle.update_recovery.specs.States.{lowest_down, AreIdle, HandsBack, IfStopped, StoppedGathering}

-- ---- the lowest that is down

drop_all : {X : Type 0} (n : ℕ) (xs : List X) → length xs ≤ n → drop n xs ≡ []
drop_all zero [] past = refl
drop_all zero (x ∷ xs) past = absurd (omega (arith, past))
drop_all (suc n) [] past = refl
drop_all (suc n) (x ∷ xs) past = drop_all n xs (omega (arith, past))

not_some : {X : Type 0} (b : Bool) (x : X) (o : Option X) → cond b (Some x) o ≡ None → (b ≡ false) × (o ≡ None)
not_some true x o is = absurd (none-some x (sym is))
not_some false x o is = (refl, is)

none_from : {D : Type 0} (place : ℕ) (ts : List (Standing D)) → lowest_down place ts ≡ None → list_any is_down ts ≡ false
none_from place [] is = refl
none_from {D} place (t ∷ ts) is =
    let n = not_some (is_down t) place (lowest_down (place + 1) ts) is in
    ap (λ (b : Bool). b || list_any is_down ts) n.0 ∙ none_from (place + 1) ts n.1

pub none_down : {D : Type 0} (n : ℕ) (ts : List (Standing D)) → length ts ≤ n → lowest_down n (drop n ts) ≡ lowest_down 0 ts → list_any is_down ts ≡ false
none_down {D} n ts past same = none_from 0 ts (sym same ∙ ap (λ (xs : List (Standing D)). lowest_down n xs) (drop_all n ts past))

-- ---- how it stops

pub hands_stopped : {D : Type 0} (shown : D → Shown) (old targets : List (Standing D)) (h : Halt) (report : Report) (s : Stop D)
    → WhereHalted {T = Unit {0}} (Err h) (λ place. HasStopped (Gathers shown) (BreaksGathering shown) place old targets)
    → WhereHalted {T = Unit {0}} (Err h) (λ place. report.stable ≡ told_from stable_at 0 (take place old))
    → report.redone ≡ [] → HandsBack h (flat_map nodes_in targets) report s
    → IfStopped s (λ handed missing told. StoppedGathering shown old handed missing told)
hands_stopped {D} shown old targets (halt.Disk place) report (stop.Stopped handed missing told) came stable none hands = record {
  targets = targets;
  came = subst (λ (m : ℕ). HasStopped (Gathers shown) (BreaksGathering shown) m old targets) (sym hands.1) came;
  handed_are = hands.0 ∙ ap (λ (m : ℕ). told_from (stopped_at m) 0 (flat_map nodes_in targets)) (sym hands.1);
  stable = ap (λ (r : Report). r.stable) hands.2 ∙ stable ∙ ap (λ (m : ℕ). told_from stable_at 0 (take m old)) (sym hands.1);
  redone = ap (λ (r : Report). r.redone) hands.2 ∙ none;
}
hands_stopped shown old targets (halt.Disk place) report (stop.Memory handed) came stable none hands = tt
hands_stopped shown old targets halt.Memory report (stop.Stopped handed missing told) came stable none hands = absurd hands
hands_stopped shown old targets halt.Memory report (stop.Memory handed) came stable none hands = tt

-- ---- nothing waits

abbrev IsIdle : {D : Type 0} → Standing D → Type 0
IsIdle (standing.Serving n) = n.state.waiting ≡ []
IsIdle (standing.Opened n) = n.state.waiting ≡ []
IsIdle (standing.Down d) = Unit {0}

opened_idle : {D : Type 0} (shown : D → Shown) (o n : NodeState D) (ws : List Waiting) → o.state.waiting ≡ ws → GathersOpened shown (is_empty ws) o n → n.state.waiting ≡ []
opened_idle {D} shown o n [] is g = ap (λ (x : NodeState D). x.state.waiting) g ∙ is
opened_idle shown o n (w ∷ ws) is g = ap (λ (s : TargetState). s.waiting) g.0

gathers_idle : {D : Type 0} (shown : D → Shown) (place : ℕ) (o n : Standing D) → Gathers shown place o n → IsIdle n
gathers_idle shown place (standing.Serving o) (standing.Serving n) g = ap (λ (s : TargetState). s.waiting) g.0
gathers_idle shown place (standing.Opened o) (standing.Opened n) g = opened_idle shown o n o.state.waiting refl g
gathers_idle shown place (standing.Down o) (standing.Down n) g = tt
gathers_idle shown place (standing.Serving o) (standing.Opened n) g = absurd g
gathers_idle shown place (standing.Serving o) (standing.Down n) g = absurd g
gathers_idle shown place (standing.Opened o) (standing.Serving n) g = absurd g
gathers_idle shown place (standing.Opened o) (standing.Down n) g = absurd g
gathers_idle shown place (standing.Down o) (standing.Serving n) g = absurd g
gathers_idle shown place (standing.Down o) (standing.Opened n) g = absurd g

get_within : {X : Type 0} (xs : List X) (k : ℕ) → k < length xs → (x : X) × (slice_get xs k ≡ Some x)
get_within [] k low = absurd (omega (arith, low))
get_within (x ∷ xs) zero low = (x, refl)
get_within (x ∷ xs) (suc k) low = get_within xs k (omega (arith, low))

came_idle : {D : Type 0} (shown : D → Shown) (old ts : List (Standing D)) → AllCame (Gathers shown) old ts → (k : ℕ) (t : Standing D) → slice_get ts k ≡ Some t → IsIdle t
came_idle {D} shown old ts came k t get =
    let low : k < length old = (let w = slice_get_within ts k t get in let l = came.long in omega (arith, w, l)) in
    let o = get_within old k low in
    let b = came.before k o.0 low o.1 in
    subst (λ (s : Standing D). IsIdle s) (same_Some b.0 t (sym b.1 ∙ get)) (gathers_idle shown k o.0 b.0 b.2)

all_idle : {D : Type 0} (ts : List (Standing D)) → ((k : ℕ) (t : Standing D) → slice_get ts k ≡ Some t → IsIdle t) → AllByRecursion (λ (n : NodeState D). n.state.waiting ≡ []) (flat_map nodes_in ts)
all_idle [] each = tt
all_idle (standing.Serving n ∷ ts) each = (each 0 (standing.Serving n) refl, all_idle ts (λ k t get. each (suc k) t get))
all_idle (standing.Opened n ∷ ts) each = (each 0 (standing.Opened n) refl, all_idle ts (λ k t get. each (suc k) t get))
all_idle (standing.Down d ∷ ts) each = all_idle ts (λ k t get. each (suc k) t get)

pub gathered_idle : {D : Type 0} (shown : D → Shown) (old ts : List (Standing D)) (ns : List (NodeState D)) → AllCame (Gathers shown) old ts → ns ≡ flat_map nodes_in ts → AreIdle ns
gathered_idle {D} shown old ts ns came is = subst (λ (l : List (NodeState D)). AllByRecursion (λ (n : NodeState D). n.state.waiting ≡ []) l) (sym is) (all_idle ts (came_idle shown old ts came))

pub nodes_long : {D : Type 0} (ts : List (Standing D)) → list_any is_down ts ≡ false → length (flat_map nodes_in ts) ≡ length ts
nodes_long [] up = refl
nodes_long (standing.Serving n ∷ ts) up = ap suc (nodes_long ts up)
nodes_long (standing.Opened n ∷ ts) up = ap suc (nodes_long ts up)
nodes_long (standing.Down d ∷ ts) up = absurd (false≢true (sym up))

-- ---- and after a redo

all_from_get : {X : Type 0} (P : X → Type 0) (xs : List X) → ((k : ℕ) (x : X) → slice_get xs k ≡ Some x → P x) → AllByRecursion P xs
all_from_get P [] each = tt
all_from_get P (x ∷ xs) each = (each 0 x refl, all_from_get P xs (λ k y get. each (suc k) y get))

get_from_all : {X : Type 0} (P : X → Type 0) (xs : List X) (k : ℕ) (x : X) → AllByRecursion P xs → slice_get xs k ≡ Some x → P x
get_from_all P [] k x all get = absurd (none-some x get)
get_from_all P (y ∷ ys) zero x all get = subst P (same_Some y x get) all.0
get_from_all P (y ∷ ys) (suc k) x all get = get_from_all P ys k x all.1 get

redoes_idle : {D : Type 0} (shown : D → Shown) (rs : List Record) (o n : NodeState D) → Redoes shown rs o n → o.state.waiting ≡ [] → n.state.waiting ≡ []
redoes_idle {D} shown [] o n does idle = ap (λ (x : NodeState D). x.state.waiting) does ∙ idle
redoes_idle shown (r ∷ rs) o n does idle = ap (λ (s : TargetState). s.waiting) does.0

pub redone_idle : {D : Type 0} (shown : D → Shown) (epoch : ℕ) (marks : List ℕ) (ks : List Found) (old new : List (NodeState D)) → AllCame (RedoesAt shown epoch marks ks) old new → AreIdle old → AreIdle new
redone_idle {D} shown epoch marks ks old new came idle =
    all_from_get (λ (n : NodeState D). n.state.waiting ≡ []) new (λ k n get.
    let low : k < length old = (let w = slice_get_within new k n get in let l = came.long in omega (arith, w, l)) in
    let o = get_within old k low in
    let b = came.before k o.0 low o.1 in
    subst (λ (x : NodeState D). x.state.waiting ≡ []) (same_Some b.0 n (sym b.1 ∙ get))
    (redoes_idle shown (lacking epoch marks k o.0.state ks) o.0 b.0 b.2 (get_from_all (λ (x : NodeState D). x.state.waiting ≡ []) old k o.0 idle o.1)))
