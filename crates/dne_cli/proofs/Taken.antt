-- What a session does for a line is a turn of the plain machine.
use Rattle.std.proofs.Common.{◌≡◌, ◌<◌, ◌+◌, ◌||◌, ◌^◌, ℕ, zero, suc, Bool, true, false, cond, List, [], ◌∷◌, ◌++◌, length, take, set, Option, Some, None, IsSome, IfSome, IsTrue, is_some, unwrap_or, inl, inr, refl, sym, ap, ◌∙◌, subst, length-append, arith}
use Rattle.std.specs.List.{AllByRecursion}
use Rattle.std.proofs.lemmas.List.{length-replicate, get_or-replicate, length-take-le}
use Rattle.outside.specs.Disk.{Shown}
use Rattle.tree_model.specs.History.{Item, tree_of}
use Rattle.tree_model.specs.OpText.{IsOp}
use Rattle.tree_model.specs.declared.op.Op.{Op}
use Rattle.tree_model.specs.declared.op.Op.TheVariants as ops
use Rattle.tree_model.specs.declared.op.Request.{Request}
use Rattle.scenario_text.specs.Spelling.{Entry, Skip, Order, is_create}
use Rattle.scenario_text.specs.Machine.{Asked, State, Turn, SaysAll, Among, CommitLines, EndLines, TreeLines, IsAnswer, IsGroup, IsServed, IsTaken, asked_after, begun, is_formatted, is_settle, serves, targets_of}
use Rattle.scenario_text.specs.declared.line.Line.{Line}
use Rattle.scenario_text.specs.declared.line.Line.TheVariants as lines
use Rattle.scenario_text.specs.declared.line.Standing.{Standing}
use Rattle.scenario_text.specs.declared.line.Standing.TheVariants.{Serving, Opened, Down}
use Rattle.scenario_text.specs.declared.command.Command.TheVariants as commands
use Rattle.dne_cli.specs.Image.{items_bytes}
use Rattle.dne_cli.specs.Kept.{Kept, Held, Ledger, Committed, Torn, Commits, Ends, Founds, all_stable, empty_ledger, image_bytes, ledger_after, no_seats, served, served_lines, serving_on, settle_lines, standing_of, stopped, tree_lines, turned_away}
use Rattle.dne_cli.specs.Disks.{Calls, DiskTurn, DoesToDisk, IsFailure, made_by, makes}
use Rattle.dne_cli.specs.Reached.{IsPlayedRequest, Agrees, AsksSame, HoldsSame, Matches, Stored, greatest}
use Rattle.dne_cli.proofs.Lists.{all_map, all_among}
use Rattle.dne_cli.proofs.Touching.{touches_refl}
use Rattle.dne_cli.proofs.Asks.{asks_on, asks_end, asks_cluster, asks_send, asks_settle, all_answered, one_target}
use Rattle.dne_cli.proofs.Settling.{IsReady, Serves, serve_all, turned_says, turned_lines, turned_answers}
use Rattle.dne_cli.proofs.Storing.{ReadsAgain, commits_at, formats_at, grows_at, image_is, torn_at}
use Rattle.dne_cli.proofs.Images.{Fits, name_of, numbers_again}

-- a turn, what it owes, what the session then keeps, and what it does to the disk
pub record IsTurn (calls : Calls) (s : State) (said : List Line) (count : ℕ) (k : Kept) (e : Entry) (new : Kept) (ls : List Line) : Type 0 where
  pub state : State
  pub turn : Turn s (record { entry = e; lines = ls }) state
  pub served : IsServed e (asked_after s.asked e).sent (said ++ ls)
  pub agrees : Agrees state (said ++ ls) (count + 1) new
  pub disk : DiskTurn calls k.target.formatted (record { entry = e; lines = ls }) k.target.disk new.target.disk
  pub made : new.target.formatted ≡ made_by k.target.formatted (record { entry = e; lines = ls })

-- SMALL FACTS

or_again : (a b : Bool) → (a || b) || b ≡ a || b
or_again true b = refl
or_again false true = refl
or_again false false = refl

pub or_true : (a : Bool) → a || true ≡ true
or_true true = refl
or_true false = refl

pub or_first : (a b : Bool) → a ≡ true → a || b ≡ true
or_first true b e = refl
or_first false b e = cc

pub or_none : (a : Bool) → a || false ≡ a
or_none true = refl
or_none false = refl

is_up : (h : Held) (l : Ledger) → h.ledger ≡ Some l → standing_of h ≡ Serving
is_up h l e = ap (λ x. cond (is_some x) Serving (cond h.up Opened Down)) e

not_serving : (h : Held) → h.ledger ≡ None → serves (standing_of h) ≡ false
not_serving h e = ap (λ x. serves (cond (is_some x) Serving (cond h.up Opened Down))) e ∙ by_up h.up
  where
    by_up : (b : Bool) → serves (cond b Opened Down) ≡ false
    by_up true = refl
    by_up false = refl

pub some_here : (c : Option ℕ) → IsSome c → c ≡ None → ⊥
some_here None some e = cc
some_here (Some n) some e = cc

pub never_clean : (s : State) (h : Held) → HoldsSame s h → s.asked.ended ≡ false → s.clean ≡ true → ⊥
never_clean s h a going clean = false_true (sym going ∙ (a.clean clean).0)
  where
    false_true : false ≡ true → ⊥
    false_true e = cc

pub true_false : true ≡ false → ⊥
true_false e = cc

pub serving_down : ◌≡◌ {A = Standing} Serving Down → ⊥
serving_down e = cc

pub opened_down : ◌≡◌ {A = Standing} Opened Down → ⊥
opened_down e = cc

pub opened_serving : ◌≡◌ {A = Standing} Opened Serving → ⊥
opened_serving e = cc

pub down_serving : ◌≡◌ {A = Standing} Down Serving → ⊥
down_serving e = cc

pub not_true : (b : Bool) → (IsTrue b → ⊥) → b ≡ false
not_true true f = absurd (f refl)
not_true false f = refl

no_failure : (e : Entry) (ls : List Line) → ls ≡ [] → IsFailure (record { entry = e; lines = ls }) → ⊥
no_failure e ls none f = subst (λ l. Among l (lines.Down f.1.0)) none f.1.1

-- among lines that answer requests no target stops
no_down : (ls : List Line) (t : ℕ) → AllByRecursion IsAnswer ls → Among ls (lines.Down t) → ⊥
no_down [] t h m = m
no_down (l ∷ ls) t h (inl e) = subst IsAnswer e h.0
no_down (l ∷ ls) t h (inr m) = no_down ls t h.1 m

ledger_of : (h : Held) (l : Ledger) (targets : ℕ) (history : List Item) (pend : List ℕ) → h.ledger ≡ Some l → IfSome h.ledger (Matches targets history pend) → Matches targets history pend l
ledger_of h l targets history pend e m = subst (λ x. IfSome x (Matches targets history pend)) e m

all_take : {X : Type 0} (P : X → Type 0) (n : ℕ) (xs : List X) → AllByRecursion P xs → AllByRecursion P (take n xs)
all_take P zero xs h = tt
all_take P (suc n) [] h = tt
all_take P (suc n) (x ∷ xs) h = (h.0, all_take P n xs h.1)

item_fits : (i : Item) → IsPlayedRequest i.request → Fits i
item_fits i r = record { number = (let n = r.1 in omega (arith, n)); client = (let c = r.2 in omega (arith, c)); name = short i.request.op r.4 r.3; create = r.4 }
  where
    short : (o : Op) → is_create o ≡ true → IsOp 1 o → length (name_of o) < 256
    short (ops.Create p x f) is h = let n = h.1.1 in omega (arith, n)
    short _ is h = cc

-- the numbers of an image of any front of the history are read again
pub reads_again : (a : Asked) (h : List Item) (said : List Line) (k : Kept) → AsksSame a h said k → length h < 2 ^ 32 → ReadsAgain h
reads_again a h said k s few = λ n most.
    let size = length-take-le n h most in
    numbers_again (take n h) (all_take Fits n h (all_map (λ (i : Item). Among a.sent i.request) Fits h (λ i m. item_fits i (all_among IsPlayedRequest a.sent i.request s.requests m)) s.accepted)) (omega (arith, size, few, most))

-- EACH LINE

-- what a target keeps, where requests alone were asked for
holds_sent : (s : State) (h : Held) (sent : List Request) → HoldsSame s h → HoldsSame (record s { asked = record s.asked { sent = sent }; formatted = is_formatted s }) h
holds_sent s h sent a = record {
  standing = a.standing;
  formatted = or_again s.formatted (serves s.standing) ∙ a.formatted;
  up = a.up;
  ledger = a.ledger;
  counted = a.counted;
  clean = a.clean;
  honest = a.honest;
  new = a.new;
  fresh = a.fresh;
  stored = a.stored;
}

pub skip_turn : (calls : Calls) (line : List ℕ) (s : State) (said : List Line) (n : ℕ) (k : Kept) → Agrees s said n k → IsTaken s.asked (Skip line) → IsTurn calls s said n k (Skip line) k []
skip_turn calls line s said n k a taken = record {
  state = begun s (Skip line);
  turn = (taken, refl, refl);
  served = λ e. absurd (true_false (sym e));
  agrees = record { asks = asks_on s.asked s.history said [] k k.target a.asks; few = (let f = a.few in omega (arith, f)); holds = holds_sent s k.target s.asked.sent a.holds };
  disk = record { touches = touches_refl k.target.disk; cause = λ f. absurd f.1.1; does = refl };
  made = sym (or_none k.target.formatted);
}

pub fuse_turn : (calls : Calls) (t after choice : ℕ) (s : State) (said : List Line) (n : ℕ) (k : Kept) → Agrees s said n k → IsTaken s.asked (Order (commands.Fuse t after choice)) → calls.armed after choice k.target.disk → IsTurn calls s said n k (Order (commands.Fuse t after choice)) k []
fuse_turn calls t after choice s said n k a taken said_so = record {
  state = begun s (Order (commands.Fuse t after choice));
  turn = (taken, refl, refl);
  served = λ e. absurd (true_false (sym e));
  agrees = record { asks = asks_on s.asked s.history said [] k k.target a.asks; few = (let f = a.few in omega (arith, f)); holds = holds_sent s k.target s.asked.sent a.holds };
  disk = record { touches = touches_refl k.target.disk; cause = λ f. absurd f.1.1; does = (said_so, refl) };
  made = sym (or_none k.target.formatted);
}

tree_none : (st : Standing) → serves st ≡ false → TreeLines st (lines.TreeState 0 ∷ [])
tree_none Serving e = absurd (true_false e)
tree_none Opened e = refl
tree_none Down e = refl

pub tree_turn : (calls : Calls) (x : Option Ledger) (s : State) (said : List Line) (n : ℕ) (k : Kept) → k.target.ledger ≡ x → Agrees s said n k → IsTaken s.asked (Order commands.Tree) → IsTurn calls s said n k (Order commands.Tree) k (tree_lines x)
tree_turn calls None s said n k is a taken =
    let stopped : serves s.standing ≡ false = ap serves a.holds.standing ∙ not_serving k.target is in
    let t : State = begun s (Order commands.Tree) in
    record {
      state = t;
      turn = (taken, tree_none s.standing stopped, (t, (stopped, refl), refl));
      served = λ e. absurd (true_false (sym e));
      agrees = record { asks = asks_on s.asked s.history said (lines.TreeState 0 ∷ []) k k.target a.asks; few = (let f = a.few in omega (arith, f)); holds = holds_sent s k.target s.asked.sent a.holds };
      disk = record { touches = touches_refl k.target.disk; cause = λ f. absurd (other f.1.0 f.1.1); does = refl };
      made = sym (or_none k.target.formatted);
    }
  where
    other : (t : ℕ) → Among (lines.TreeState 0 ∷ []) (lines.Down t) → ⊥
    other t (inl e) = cc
    other t (inr m) = m
tree_turn calls (Some l) s said n k is a taken =
    let serving : s.standing ≡ Serving = a.holds.standing ∙ is_up k.target l is in
    let m = ledger_of k.target l (targets_of s) s.history s.pend is a.holds.ledger in
    let t : State = begun s (Order commands.Tree) in
    record {
      state = t;
      turn = (taken, subst (λ x. TreeLines x (lines.Tree l.tree ∷ [])) (sym serving) (l.tree, refl), (t, (m.tree, refl), refl));
      served = λ e. absurd (true_false (sym e));
      agrees = record { asks = asks_on s.asked s.history said (lines.Tree l.tree ∷ []) k k.target a.asks; few = (let f = a.few in omega (arith, f)); holds = holds_sent s k.target s.asked.sent a.holds };
      disk = record { touches = touches_refl k.target.disk; cause = λ f. absurd (other f.1.0 f.1.1); does = refl };
      made = sym (or_none k.target.formatted);
    }
  where
    other : (t : ℕ) → Among (lines.Tree l.tree ∷ []) (lines.Down t) → ⊥
    other t (inl e) = cc
    other t (inr m) = m

pub send_turn : (calls : Calls) (r : Request) (s : State) (said : List Line) (n : ℕ) (k : Kept) → Agrees s said n k → IsTaken s.asked (Order (commands.Send r))
    → IsTurn calls s said n k (Order (commands.Send r)) (record k { waiting = k.waiting ++ r ∷ []; used = set k.used r.number true }) []
send_turn calls r s said n k a taken = record {
  state = begun s (Order (commands.Send r));
  turn = (taken, refl, refl);
  served = λ e. absurd (true_false (sym e));
  agrees = record {
    asks = asks_send s.asked s.history said k r a.asks taken.0 taken.2 taken.1.0.0 taken.1.1;
    few = (let f = a.few in let b = length-append k.waiting (r ∷ []) in omega (arith, f, b));
    holds = holds_sent s k.target (s.asked.sent ++ r ∷ []) a.holds;
  };
  disk = record { touches = touches_refl k.target.disk; cause = λ f. absurd f.1.1; does = refl };
  made = sym (or_none k.target.formatted);
}

pub cluster_turn : (calls : Calls) (m : ℕ) (s : State) (said : List Line) (n : ℕ) (k : Kept) (target : Held) (ls : List Line) → Agrees s said n k → IsTaken s.asked (Order (commands.Cluster m)) → Founds k.target.disk m target ls
    → IsTurn calls s said n k (Order (commands.Cluster m)) (record k { cluster = Some m; target = target }) ls
unfolding no_seats
cluster_turn calls m s said n k target ls a taken (inl (d, formatted, is, none)) =
    let e : Entry = Order (commands.Cluster m) in
    let new = a.holds.new taken.1 in
    let held : Held = serving_on (empty_ledger m) d in
    subst (λ x. IsTurn calls s said n k e (record k { cluster = Some m; target = x }) ls) (sym is) (subst (λ x. IsTurn calls s said n k e (record k { cluster = Some m; target = held }) x) (sym none)
    (record {
      state = begun s e;
      turn = (taken, inl refl, refl);
      served = λ e. absurd (true_false (sym e));
      agrees = record {
        asks = asks_cluster s.asked s.history said [] k held m taken.2 a.asks;
        few = (let f = a.few in omega (arith, f));
        holds = record {
          standing = refl;
          formatted = or_true (is_formatted s);
          up = λ _. refl;
          ledger = record {
            tree = ap (λ (h : List Item). record { targets = m; tree = tree_of m h }) (sym new.0);
            count = ap length (sym new.0);
            bytes = ap items_bytes (sym new.0);
            size = length-replicate {A = ℕ} 256 0;
            seats = λ c low. get_or-replicate 256 c 0 0 low ∙ ap (greatest c) (sym new.0);
            pend = sym new.1;
          };
          counted = λ _. (let x = ap length new.0 in let y = ap length new.1 in let z = new.2 in omega (arith, x, y, z));
          clean = λ c. absurd (true_false (sym c ∙ new.4));
          honest = a.holds.honest ∙ sym formatted.touches.stays.honest;
          new = λ e. absurd (some_none m e);
          fresh = λ e. absurd (true_false e);
          stored = λ honest _. formats_at s.last s.history k.target.disk d formatted (subst IsTrue a.holds.honest honest) new.0 new.2;
        };
      };
      disk = record { touches = formatted.touches; cause = λ f. absurd f.1.1; does = formatted };
      made = sym (or_true k.target.formatted);
    }))
  where
    some_none : (m : ℕ) → ◌≡◌ {A = Option ℕ} (Some m) None → ⊥
    some_none m e = cc
cluster_turn calls m s said n k target ls a taken (inr (d, faulted, is, one)) =
    let e : Entry = Order (commands.Cluster m) in
    let new = a.holds.new taken.1 in
    let held : Held = stopped false d in
    let down : List Line = lines.Down 0 ∷ [] in
    let t : State = record (begun s e) { standing = Down; pend = [] } in
    subst (λ x. IsTurn calls s said n k e (record k { cluster = Some m; target = x }) ls) (sym is) (subst (λ x. IsTurn calls s said n k e (record k { cluster = Some m; target = held }) x) (sym one)
    (record {
      state = t;
      turn = (taken, inr refl, (t, refl, refl));
      served = λ e. absurd (true_false (sym e));
      agrees = record {
        asks = asks_cluster s.asked s.history said down k held m taken.2 a.asks;
        few = (let f = a.few in omega (arith, f));
        holds = record {
          standing = refl;
          formatted = or_none (is_formatted s) ∙ a.holds.formatted ∙ new.3;
          up = λ other. absurd (other refl);
          ledger = tt;
          counted = λ e. absurd (down_serving e);
          clean = λ c. absurd (true_false (sym c ∙ new.4));
          honest = a.holds.honest ∙ sym faulted.touches.stays.honest;
          new = λ e. absurd (some_none m e);
          fresh = λ _. (new.0, new.2);
          stored = λ _ f. absurd (true_false (sym f));
        };
      };
      disk = record { touches = faulted.touches; cause = λ _. faulted.rose; does = faulted };
      made = sym (or_none k.target.formatted ∙ new.3);
    }))
  where
    some_none : (m : ℕ) → ◌≡◌ {A = Option ℕ} (Some m) None → ⊥
    some_none m e = cc

-- a settle of a target that doesn't serve
away_turn : (calls : Calls) (s : State) (said : List Line) (n : ℕ) (k : Kept) → k.target.ledger ≡ None → Agrees s said n k → IsTaken s.asked (Order commands.Settle) → IsTurn calls s said n k (Order commands.Settle) (record k { waiting = [] }) (turned_away k.waiting)
away_turn calls s said n k is a taken =
    let t : State = begun s (Order commands.Settle) in
    let stopped : serves s.standing ≡ false = ap serves a.holds.standing ∙ not_serving k.target is in
    let one : targets_of s ≡ 1 = ap (λ c. unwrap_or c 0) (one_target s.asked s.history said k a.asks taken.1.0) in
    let answers = turned_answers k.waiting in
    record {
      state = t;
      turn = (taken, turned_lines k.waiting, turned_says k.waiting t one stopped a.asks.requests a.asks.wait);
      served = λ _. all_answered s.asked s.history said (turned_away k.waiting) k a.asks answers;
      agrees = record {
        asks = asks_settle s.asked s.history s.history said (turned_away k.waiting) k k.target a.asks answers a.asks.accepted;
        few = (let f = a.few in omega (arith, f));
        holds = holds_sent s k.target s.asked.sent a.holds;
      };
      disk = record { touches = touches_refl k.target.disk; cause = λ f. absurd (no_down (turned_away k.waiting) f.1.0 (turned_lines k.waiting) f.1.1); does = refl };
      made = sym (or_none k.target.formatted);
    }

-- a settle of a target that serves
serve_turn : (calls : Calls) (l : Ledger) (s : State) (said : List Line) (n : ℕ) (k : Kept) → k.target.ledger ≡ Some l → Agrees s said n k → IsTaken s.asked (Order commands.Settle)
    → IsTurn calls s said n k (Order commands.Settle) (record k { waiting = []; target = record k.target { ledger = Some (served l k.waiting) } }) (served_lines l k.waiting)
serve_turn calls l s said n k is a taken =
    let b : State = begun s (Order commands.Settle) in
    let serving : s.standing ≡ Serving = a.holds.standing ∙ is_up k.target l is in
    let one : targets_of s ≡ 1 = ap (λ c. unwrap_or c 0) (one_target s.asked s.history said k a.asks taken.1.0) in
    let ready : IsReady b l k.waiting = record {
      one = one;
      serving = serving;
      requests = a.asks.requests;
      accepted = a.asks.accepted;
      matches = ledger_of k.target l (targets_of s) s.history s.pend is a.holds.ledger;
      counted = a.holds.counted serving;
      wait = a.asks.wait;
      free = a.asks.free;
      apart = a.asks.apart;
    } in
    let v : Serves b l k.waiting = serve_all k.waiting b l ready in
    let held : Held = record k.target { ledger = Some (served l k.waiting) } in
    let formatted : k.target.formatted ≡ true = a.holds.up (λ e. absurd (serving_down (sym serving ∙ e))) in
    record {
      state = record b { history = v.history; pend = v.pending };
      turn = (taken, v.lines, v.says);
      served = λ _. all_answered s.asked s.history said (served_lines l k.waiting) k a.asks v.answers;
      agrees = record {
        asks = asks_settle s.asked s.history v.history said (served_lines l k.waiting) k held a.asks v.answers v.accepted;
        few = (let f = a.few in let g = v.few in omega (arith, f, g));
        holds = record {
          standing = serving;
          formatted = or_again s.formatted (serves s.standing) ∙ a.holds.formatted;
          up = a.holds.up;
          ledger = v.matches;
          counted = λ _. v.counted;
          clean = λ c. absurd (never_clean s k.target a.holds taken.1.1 c);
          honest = a.holds.honest;
          new = λ e. absurd (some_here s.asked.cluster taken.1.0 e);
          fresh = λ e. absurd (true_false (sym formatted ∙ e));
          stored = λ honest f. subst (λ x. Stored x s.last v.history k.target.disk) (sym serving)
              (grows_at s.last s.history v.history v.more k.target.disk v.longer (subst (λ x. Stored x s.last s.history k.target.disk) serving (a.holds.stored honest f)));
        };
      };
      disk = record { touches = touches_refl k.target.disk; cause = λ f. absurd (no_down (served_lines l k.waiting) f.1.0 v.lines f.1.1); does = refl };
      made = sym (or_none k.target.formatted);
    }

pub settle_turn : (calls : Calls) (x : Option Ledger) (s : State) (said : List Line) (n : ℕ) (k : Kept) → k.target.ledger ≡ x → Agrees s said n k → IsTaken s.asked (Order commands.Settle)
    → IsTurn calls s said n k (Order commands.Settle) (record k { waiting = []; target = record k.target { ledger = ledger_after x k.waiting } }) (settle_lines x k.waiting)
settle_turn calls None s said n k is a taken =
    subst (λ x. IsTurn calls s said n k (Order commands.Settle) (record k { waiting = []; target = record k.target { ledger = x } }) (turned_away k.waiting)) is (away_turn calls s said n k is a taken)
settle_turn calls (Some l) s said n k is a taken = serve_turn calls l s said n k is a taken

-- COMMITS

pub no_down_in : (l : Line) (t : ℕ) → (l ≡ lines.Down t → ⊥) → Among (l ∷ []) (lines.Down t) → ⊥
no_down_in l t h (inl e) = h e
no_down_in l t h (inr m) = m

commit_none : (st : Standing) (t : ℕ) → serves st ≡ false → CommitLines st t (lines.State t st ∷ [])
commit_none Serving t e = absurd (true_false e)
commit_none Opened t e = refl
commit_none Down t e = refl

-- a target's state is told
pub state_turn : (calls : Calls) (e : Entry) (t : ℕ) (s : State) (said : List Line) (n : ℕ) (k : Kept) → Agrees s said n k → IsTaken s.asked e → begun s e ≡ record s { formatted = is_formatted s } → asked_after s.asked e ≡ s.asked → is_settle e ≡ false → DoesToDisk calls k.target.formatted e (lines.State t (standing_of k.target) ∷ []) k.target.disk k.target.disk
    → makes e (lines.State t (standing_of k.target) ∷ []) ≡ false → IsGroup s.standing e (lines.State t (standing_of k.target) ∷ []) → IsTurn calls s said n k e k (lines.State t (standing_of k.target) ∷ [])
state_turn calls e t s said n k a taken here asked settle does quiet group =
    let b : State = record s { formatted = is_formatted s } in
    let ls : List Line = lines.State t (standing_of k.target) ∷ [] in
    record {
      state = b;
      turn = (taken, group, subst (λ x. SaysAll x ls b) (sym here) (b, (sym a.holds.standing, refl), refl));
      served = λ x. absurd (true_false (sym x ∙ settle));
      agrees = record { asks = asks_on s.asked s.history said ls k k.target a.asks; few = (let f = a.few in omega (arith, f)); holds = holds_sent s k.target s.asked.sent a.holds };
      disk = record { touches = touches_refl k.target.disk; cause = λ f. absurd (no_down_in (lines.State t (standing_of k.target)) f.1.0 (λ x. cc) f.1.1); does = does };
      made = sym (ap (λ x. k.target.formatted || x) quiet ∙ or_none k.target.formatted);
    }

-- what a target keeps after a commit
holds_commit : (l : Ledger) (s : State) (h : Held) (d : Shown) (ended clean : Bool) → h.ledger ≡ Some l → HoldsSame s h → IsSome s.asked.cluster → s.standing ≡ Serving → Committed (image_bytes l) h.disk d
    → (clean ≡ true → ended ≡ true)
    → HoldsSame (record s { asked = record s.asked { ended = ended }; formatted = is_formatted s; pend = []; last = s.last + length s.pend; clean = clean }) (serving_on (all_stable l) d)
holds_commit l s h d ended clean is a some serving c over =
    let m = ledger_of h l (targets_of s) s.history s.pend is a.ledger in
    let formatted : h.formatted ≡ true = a.up (λ e. absurd (serving_down (sym serving ∙ e))) in
    let all = a.counted serving in
    record {
      standing = serving;
      formatted = or_again s.formatted (serves s.standing) ∙ a.formatted ∙ formatted;
      up = λ _. refl;
      ledger = record { tree = m.tree; count = m.count; bytes = m.bytes; size = m.size; seats = m.seats; pend = refl };
      counted = λ _. omega (arith, all);
      clean = λ e. (over e, serving, refl);
      honest = a.honest ∙ sym c.touches.stays.honest;
      new = λ e. absurd (some_here s.asked.cluster some e);
      fresh = λ e. absurd (true_false e);
      stored = λ honest _. subst (λ x. Stored x (s.last + length s.pend) s.history d) (sym serving)
          (commits_at s.last (length s.pend) s.history (image_bytes l) h.disk d (subst (λ x. Stored x s.last s.history h.disk) serving (a.stored honest formatted)) c (image_is (targets_of s) s.history s.pend l m) all);
    }

-- what a target keeps after a commit that failed
holds_torn : (l : Ledger) (s : State) (h : Held) (d : Shown) (ended : Bool) → h.ledger ≡ Some l → HoldsSame s h → IsSome s.asked.cluster → s.asked.ended ≡ false → s.standing ≡ Serving → Torn (image_bytes l) h.disk d
    → HoldsSame (record s { asked = record s.asked { ended = ended }; standing = Down; formatted = is_formatted s; pend = [] }) (stopped true d)
holds_torn l s h d ended is a some going serving c =
    let m = ledger_of h l (targets_of s) s.history s.pend is a.ledger in
    let formatted : h.formatted ≡ true = a.up (λ e. absurd (serving_down (sym serving ∙ e))) in
    record {
      standing = refl;
      formatted = or_none (is_formatted s) ∙ a.formatted ∙ formatted;
      up = λ _. refl;
      ledger = tt;
      counted = λ e. absurd (down_serving e);
      clean = λ e. absurd (never_clean s h a going e);
      honest = a.honest ∙ sym c.faulted.touches.stays.honest;
      new = λ e. absurd (some_here s.asked.cluster some e);
      fresh = λ e. absurd (true_false e);
      stored = λ honest _. torn_at s.last (length s.pend) s.history (image_bytes l) h.disk d (subst (λ x. Stored x s.last s.history h.disk) serving (a.stored honest formatted)) c (image_is (targets_of s) s.history s.pend l m) (a.counted serving);
    }

pub commit_turn : (calls : Calls) (x : Option Ledger) (t : ℕ) (s : State) (said : List Line) (n : ℕ) (k : Kept) (target : Held) (ls : List Line) → k.target.ledger ≡ x → Agrees s said n k → IsTaken s.asked (Order (commands.Commit t)) → Commits x t k.target target ls
    → IsTurn calls s said n k (Order (commands.Commit t)) (record k { target = target }) ls
commit_turn calls None t s said n k target ls is a taken c =
    let e : Entry = Order (commands.Commit t) in
    let stopped : serves (standing_of k.target) ≡ false = not_serving k.target is in
    subst (λ x. IsTurn calls s said n k e (record k { target = x }) ls) (sym c.0) (subst (λ x. IsTurn calls s said n k e k x) (sym c.1)
    (state_turn calls e t s said n k a taken refl refl refl tt refl (subst (λ x. CommitLines x t (lines.State t (standing_of k.target) ∷ [])) (sym a.holds.standing) (commit_none (standing_of k.target) t stopped))))
commit_turn calls (Some l) t s said n k target ls is a taken (inl (d, c, made, one)) =
    let e : Entry = Order (commands.Commit t) in
    let serving : s.standing ≡ Serving = a.holds.standing ∙ is_up k.target l is in
    let m = ledger_of k.target l (targets_of s) s.history s.pend is a.holds.ledger in
    let held : Held = serving_on (all_stable l) d in
    let line : List Line = lines.Stable t l.pend ∷ [] in
    let u : State = record (begun s e) { pend = []; last = s.last + length s.pend } in
    subst (λ x. IsTurn calls s said n k e (record k { target = x }) ls) (sym made) (subst (λ x. IsTurn calls s said n k e (record k { target = held }) x) (sym one)
    (record {
      state = u;
      turn = (taken, subst (λ x. CommitLines x t line) (sym serving) (inl (l.pend, refl)), (u, (serving, m.pend, refl), refl));
      served = λ x. absurd (true_false (sym x));
      agrees = record {
        asks = asks_on s.asked s.history said line k held a.asks;
        few = (let f = a.few in omega (arith, f));
        holds = holds_commit l s k.target d s.asked.ended s.clean is a.holds taken.1.0 serving c (λ x. (a.holds.clean x).0);
      };
      disk = record { touches = c.touches; cause = λ f. absurd (no_down_in (lines.Stable t l.pend) f.1.0 (λ x. cc) f.1.1); does = tt };
      made = sym (or_none k.target.formatted ∙ a.holds.up (λ x. serving_down (sym serving ∙ x)));
    }))
commit_turn calls (Some l) t s said n k target ls is a taken (inr (d, c, made, one)) =
    let e : Entry = Order (commands.Commit t) in
    let serving : s.standing ≡ Serving = a.holds.standing ∙ is_up k.target l is in
    let held : Held = stopped true d in
    let line : List Line = lines.Down t ∷ [] in
    let u : State = record (begun s e) { standing = Down; pend = [] } in
    subst (λ x. IsTurn calls s said n k e (record k { target = x }) ls) (sym made) (subst (λ x. IsTurn calls s said n k e (record k { target = held }) x) (sym one)
    (record {
      state = u;
      turn = (taken, subst (λ x. CommitLines x t line) (sym serving) (inr refl), (u, refl, refl));
      served = λ x. absurd (true_false (sym x));
      agrees = record { asks = asks_on s.asked s.history said line k held a.asks; few = (let f = a.few in omega (arith, f)); holds = holds_torn l s k.target d s.asked.ended is a.holds taken.1.0 taken.1.1 serving c };
      disk = record { touches = c.faulted.touches; cause = λ _. c.faulted.rose; does = tt };
      made = sym (or_none k.target.formatted ∙ a.holds.up (λ x. serving_down (sym serving ∙ x)));
    }))

end_none : (st : Standing) → serves st ≡ false → EndLines st (lines.EndUnclean 0 ∷ [])
end_none Serving e = absurd (true_false e)
end_none Opened e = refl
end_none Down e = refl

holds_end : (s : State) (h : Held) → HoldsSame s h → HoldsSame (record s { asked = record s.asked { ended = true }; formatted = is_formatted s }) h
holds_end s h a = record {
  standing = a.standing;
  formatted = or_again s.formatted (serves s.standing) ∙ a.formatted;
  up = a.up;
  ledger = a.ledger;
  counted = a.counted;
  clean = λ e. let c = a.clean e in (refl, c.1, c.2);
  honest = a.honest;
  new = a.new;
  fresh = a.fresh;
  stored = a.stored;
}

pub end_turn : (calls : Calls) (x : Option Ledger) (s : State) (said : List Line) (n : ℕ) (k : Kept) (target : Held) (ls : List Line) → k.target.ledger ≡ x → Agrees s said n k → IsTaken s.asked (Order commands.End) → Ends x k.target target ls
    → IsTurn calls s said n k (Order commands.End) (record k { ended = true; target = target }) ls
end_turn calls None s said n k target ls is a taken c =
    let e : Entry = Order commands.End in
    let stopped : serves s.standing ≡ false = ap serves a.holds.standing ∙ not_serving k.target is in
    let line : List Line = lines.EndUnclean 0 ∷ [] in
    let u : State = begun s e in
    subst (λ x. IsTurn calls s said n k e (record k { ended = true; target = x }) ls) (sym c.0) (subst (λ x. IsTurn calls s said n k e (record k { ended = true }) x) (sym c.1)
    (record {
      state = u;
      turn = (taken, end_none s.standing stopped, (u, (stopped, refl), refl));
      served = λ x. absurd (true_false (sym x));
      agrees = record { asks = asks_end s.asked s.history said line k k.target a.asks; few = (let f = a.few in omega (arith, f)); holds = holds_end s k.target a.holds };
      disk = record { touches = touches_refl k.target.disk; cause = λ f. absurd (no_down_in (lines.EndUnclean 0) f.1.0 (λ x. cc) f.1.1); does = tt };
      made = sym (or_none k.target.formatted);
    }))
end_turn calls (Some l) s said n k target ls is a taken (inl (d, c, made, two)) =
    let e : Entry = Order commands.End in
    let serving : s.standing ≡ Serving = a.holds.standing ∙ is_up k.target l is in
    let m = ledger_of k.target l (targets_of s) s.history s.pend is a.holds.ledger in
    let held : Held = serving_on (all_stable l) d in
    let both : List Line = lines.Stable 0 l.pend ∷ lines.EndClean ∷ [] in
    let u : State = record (begun s e) { pend = []; last = s.last + length s.pend } in
    let v : State = record u { clean = true } in
    subst (λ x. IsTurn calls s said n k e (record k { ended = true; target = x }) ls) (sym made) (subst (λ x. IsTurn calls s said n k e (record k { ended = true; target = held }) x) (sym two)
    (record {
      state = v;
      turn = (taken, subst (λ x. EndLines x both) (sym serving) (inl (l.pend, refl)), (u, (serving, m.pend, refl), (v, (serving, refl), refl)));
      served = λ x. absurd (true_false (sym x));
      agrees = record {
        asks = asks_end s.asked s.history said both k held a.asks;
        few = (let f = a.few in omega (arith, f));
        holds = holds_commit l s k.target d true true is a.holds taken.1.0 serving c (λ _. refl);
      };
      disk = record { touches = c.touches; cause = λ f. absurd (other f.1.0 f.1.1); does = tt };
      made = sym (or_none k.target.formatted ∙ a.holds.up (λ x. serving_down (sym serving ∙ x)));
    }))
  where
    other : (t : ℕ) → Among (lines.Stable 0 l.pend ∷ lines.EndClean ∷ []) (lines.Down t) → ⊥
    other t (inl e) = cc
    other t (inr (inl e)) = cc
    other t (inr (inr m)) = m
end_turn calls (Some l) s said n k target ls is a taken (inr (d, c, made, two)) =
    let e : Entry = Order commands.End in
    let serving : s.standing ≡ Serving = a.holds.standing ∙ is_up k.target l is in
    let held : Held = stopped true d in
    let both : List Line = lines.Down 0 ∷ lines.EndUnclean 0 ∷ [] in
    let u : State = record (begun s e) { standing = Down; pend = [] } in
    subst (λ x. IsTurn calls s said n k e (record k { ended = true; target = x }) ls) (sym made) (subst (λ x. IsTurn calls s said n k e (record k { ended = true; target = held }) x) (sym two)
    (record {
      state = u;
      turn = (taken, subst (λ x. EndLines x both) (sym serving) (inr refl), (u, refl, (u, (refl, refl), refl)));
      served = λ x. absurd (true_false (sym x));
      agrees = record { asks = asks_end s.asked s.history said both k held a.asks; few = (let f = a.few in omega (arith, f)); holds = holds_torn l s k.target d true is a.holds taken.1.0 taken.1.1 serving c };
      disk = record { touches = c.faulted.touches; cause = λ _. c.faulted.rose; does = tt };
      made = sym (or_none k.target.formatted ∙ a.holds.up (λ x. serving_down (sym serving ∙ x)));
    }))
