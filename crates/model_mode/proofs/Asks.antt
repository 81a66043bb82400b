-- What was asked for, one line after another, and what is kept of it.
use Rattle.std.proofs.Common.{◌≡◌, ◌≤◌, ℕ, Bool, true, List, [], ◌∷◌, ◌++◌, Option, Some, None, refl, sym, ap, ◌∙◌, subst, append_assoc, append-nil}
use Rattle.std.specs.List.{AllByRecursion}
use Rattle.std.proofs.lemmas.List.{length-set}
use Rattle.tree_model.specs.Tree.{Grown}
use Rattle.tree_model.specs.declared.op.Request.{Request}
use Rattle.scenario_text.specs.Spelling.{Entry, Skip, Order, IsEntry, NoFeed, line_of}
use Rattle.scenario_text.specs.Machine.{Asked, AreNext, IsNext, MayStand, asked_after, asked_all, is_sent, scenario}
use Rattle.scenario_text.specs.declared.command.Command.TheVariants as commands
use Rattle.scenario_text.proofs.OneSpelling.{limits}
use Rattle.model_mode.specs.Plain.{said_after, said_all, tree_after, tree_all, tree_by}
use Rattle.model_mode.specs.Kept.{Kept, cluster_of, is_used, kept_after}
use Rattle.model_mode.specs.Reached.{AsksSame, IsSpelled, Stands}
use Rattle.model_mode.proofs.Flags.{flags_more}

pub all_push : {X : Type 0} (P : X → Type 0) (xs : List X) (x : X) → AllByRecursion P xs → P x → AllByRecursion P (xs ++ x ∷ [])
all_push P [] x h p = (p, tt)
all_push P (y ∷ xs) x h p = (h.0, all_push P xs x h.1 p)

-- ONE LINE MORE

pub scenario-push : (es : List Entry) (e : Entry) → scenario (es ++ e ∷ []) ≡ scenario es ++ (line_of e ++ 10 ∷ [])
scenario-push [] e = append-nil (line_of e ++ 10 ∷ [])
scenario-push (d ∷ es) e = ap (λ l. (line_of d ++ 10 ∷ []) ++ l) (scenario-push es e) ∙ sym (append_assoc (line_of d ++ 10 ∷ []) (scenario es) (line_of e ++ 10 ∷ []))

pub asked-push : (a : Asked) (es : List Entry) (e : Entry) → asked_all a (es ++ e ∷ []) ≡ asked_after (asked_all a es) e
asked-push a [] e = refl
asked-push a (d ∷ es) e = asked-push (asked_after a d) es e

pub tree-push : (t : Option Grown) (es : List Entry) (e : Entry) → tree_all t (es ++ e ∷ []) ≡ tree_after (tree_all t es) e
tree-push t [] e = refl
tree-push t (d ∷ es) e = tree-push (tree_after t d) es e

pub next-push : (a : Asked) (es : List Entry) (e : Entry) → AreNext a es → IsNext (asked_all a es) e → AreNext a (es ++ e ∷ [])
next-push a [] e all next = (next, tt)
next-push a (d ∷ es) e all next = (all.0, next-push (asked_after a d) es e all.1 next)

pub said-push : (t : Option Grown) (es : List Entry) (e : Entry) → said_all t (es ++ e ∷ []) ≡ said_all t es ++ said_after (tree_all t es) e
said-push t [] e = append-nil (said_after t e)
said-push t (d ∷ es) e = ap (λ l. said_after t d ++ l) (said-push (tree_after t d) es e) ∙ sym (append_assoc (said_after t d) (said_all (tree_after t d) es) (said_after (tree_all (tree_after t d) es) e))

-- WHAT MAY STAND

-- the numbers that were used matter for a request alone, and for one that is sent again
may_as : (cluster : Option ℕ) (ended : Bool) (u v : ℕ → Bool) (e : Entry) → ((n : ℕ) → n ≤ 65536 → u n ≡ v n) → IsSpelled cluster e → MayStand cluster ended u e → MayStand cluster ended v e
may_as cluster ended u v (Skip line) same fits may = may
may_as cluster ended u v (Order (commands.Cluster n)) same fits may = may
may_as cluster ended u v (Order (commands.Send r)) same fits may = (may.0, sym (same r.number (limits cluster r fits).2) ∙ may.1)
may_as cluster ended u v (Order (commands.Again n)) same fits may = (may.0, sym (same n fits.1) ∙ may.1)
may_as cluster ended u v (Order (commands.Deliver k)) same fits may = may
may_as cluster ended u v (Order (commands.Drop k)) same fits may = may
may_as cluster ended u v (Order commands.Settle) same fits may = may
may_as cluster ended u v (Order commands.Resend) same fits may = may
may_as cluster ended u v (Order commands.List) same fits may = may
may_as cluster ended u v (Order (commands.Log t)) same fits may = may
may_as cluster ended u v (Order commands.Tree) same fits may = may
may_as cluster ended u v (Order commands.End) same fits may = may
may_as cluster ended u v (Order (commands.Commit t)) same fits may = may
may_as cluster ended u v (Order (commands.Crash t)) same fits may = may
may_as cluster ended u v (Order (commands.Restart t)) same fits may = may
may_as cluster ended u v (Order (commands.Fuse t after choice)) same fits may = may

spelled_entry : (cluster : Option ℕ) (e : Entry) → IsSpelled cluster e → NoFeed (line_of e) → IsEntry cluster e
spelled_entry cluster (Skip line) h clean = (h, clean)
spelled_entry cluster (Order c) h clean = h

entry_spelled : (cluster : Option ℕ) (e : Entry) → IsEntry cluster e → IsSpelled cluster e
entry_spelled cluster (Skip line) h = h.0
entry_spelled cluster (Order c) h = h

same_cluster : (a : Asked) (t : Option Grown) (k : Kept) → AsksSame a t k → cluster_of k.tree ≡ a.cluster
same_cluster a t k s = ap cluster_of s.tree ∙ s.cluster

-- what is taken may stand in the scenario
pub stands_next : (a : Asked) (t : Option Grown) (k : Kept) (e : Entry) → AsksSame a t k → Stands k e → NoFeed (line_of e) → IsNext a e
stands_next a t k e s stands clean =
    let cluster = same_cluster a t k s in
    let fits : IsSpelled a.cluster e = subst (λ c. IsSpelled c e) cluster stands.0 in (
      spelled_entry a.cluster e fits clean,
      may_as a.cluster a.ended (is_used k.used) (is_sent a.sent) e s.used fits
          (subst (λ c. MayStand c a.ended (is_used k.used) e) cluster (subst (λ b. MayStand (cluster_of k.tree) b (is_used k.used) e) s.ended stands.1)),
    )

-- and what may stand there is taken
pub next_stands : (a : Asked) (t : Option Grown) (k : Kept) (e : Entry) → AsksSame a t k → IsNext a e → Stands k e
next_stands a t k e s next =
    let cluster = same_cluster a t k s in
    let fits : IsSpelled a.cluster e = entry_spelled a.cluster e next.0 in (
      subst (λ c. IsSpelled c e) (sym cluster) fits,
      subst (λ c. MayStand c k.ended (is_used k.used) e) (sym cluster) (subst (λ b. MayStand a.cluster b (is_used k.used) e) (sym s.ended)
          (may_as a.cluster a.ended (is_sent a.sent) (is_used k.used) e (λ n low. sym (s.used n low)) fits next.1)),
    )

-- WHAT IS KEPT

sent_cluster : (t : Option Grown) (r : Request) → cluster_of (tree_by t (commands.Send r)) ≡ cluster_of t
sent_cluster None r = refl
sent_cluster (Some g) r = refl

-- one line more was taken
pub asks_more : (a : Asked) (t : Option Grown) (k : Kept) (e : Entry) → AsksSame a t k → IsNext a e → AsksSame (asked_after a e) (tree_after t e) (kept_after k e)
asks_more a t k (Skip line) s next = s
asks_more a t k (Order (commands.Cluster n)) s next = record { tree = refl; cluster = refl; ended = s.ended; used = s.used; flags = s.flags }
asks_more a t k (Order (commands.Send r)) s next =
    let low = (limits a.cluster r next.0).2 in
    record {
      tree = ap (λ x. tree_by x (commands.Send r)) s.tree;
      cluster = sent_cluster t r ∙ s.cluster;
      ended = s.ended;
      used = flags_more k.used a.sent r s.flags low s.used;
      flags = length-set k.used r.number true ∙ s.flags;
    }
asks_more a t k (Order (commands.Again n)) s next = record { tree = s.tree; cluster = s.cluster; ended = s.ended; used = s.used; flags = s.flags }
asks_more a t k (Order (commands.Deliver m)) s next = record { tree = s.tree; cluster = s.cluster; ended = s.ended; used = s.used; flags = s.flags }
asks_more a t k (Order (commands.Drop m)) s next = record { tree = s.tree; cluster = s.cluster; ended = s.ended; used = s.used; flags = s.flags }
asks_more a t k (Order commands.Resend) s next = record { tree = s.tree; cluster = s.cluster; ended = s.ended; used = s.used; flags = s.flags }
asks_more a t k (Order commands.List) s next = record { tree = s.tree; cluster = s.cluster; ended = s.ended; used = s.used; flags = s.flags }
asks_more a t k (Order (commands.Log target)) s next = record { tree = s.tree; cluster = s.cluster; ended = s.ended; used = s.used; flags = s.flags }
asks_more a t k (Order commands.Settle) s next = record { tree = s.tree; cluster = s.cluster; ended = s.ended; used = s.used; flags = s.flags }
asks_more a t k (Order commands.Tree) s next = record { tree = s.tree; cluster = s.cluster; ended = s.ended; used = s.used; flags = s.flags }
asks_more a t k (Order commands.End) s next = record { tree = s.tree; cluster = s.cluster; ended = refl; used = s.used; flags = s.flags }
asks_more a t k (Order (commands.Commit target)) s next = record { tree = s.tree; cluster = s.cluster; ended = s.ended; used = s.used; flags = s.flags }
asks_more a t k (Order (commands.Crash target)) s next = record { tree = s.tree; cluster = s.cluster; ended = s.ended; used = s.used; flags = s.flags }
asks_more a t k (Order (commands.Restart target)) s next = record { tree = s.tree; cluster = s.cluster; ended = s.ended; used = s.used; flags = s.flags }
asks_more a t k (Order (commands.Fuse target after choice)) s next = record { tree = s.tree; cluster = s.cluster; ended = s.ended; used = s.used; flags = s.flags }
