-- What an accept says.
use Rattle.std.proofs.Common.{◌≡◌, ◌<◌, inl, inr, ℕ, suc, false, ◌++◌, ◌+◌, Some, List, [], ◌∷◌, length, refl, sym, ap, ◌∙◌, subst, arith}
use Rattle.std.specs.Prelude.{map}
use Rattle.std.specs.List.{AllByRecursion}
use Rattle.tree_model.specs.History.{tree_of}
use Rattle.tree_model.specs.Kept.{HasNumber, laid_of}
use Rattle.tree_model.specs.Participants.{home_of}
use Rattle.tree_model.specs.Step.{step}
use Rattle.tree_model.specs.Striped.{on}
use Rattle.tree_model.specs.declared.op.Request.{Request}
use Rattle.update_record.specs.Spelling.{targets_from}
use Rattle.update_protocol.specs.Epochs.{Reached}
use Rattle.update_protocol.specs.Events.{Accept, May, fresh, happens}
use Rattle.update_protocol.specs.Lists.{IsIn, put}
use Rattle.update_protocol.specs.Machine.{Accepts, Entry, Line, Replies, Serving, State, history_of}
use Rattle.update_protocol.specs.Parts.{IsSent, entries_of}
use Rattle.update_protocol.specs.Rows.{has, pending}
use Rattle.update_protocol.specs.Seats.{Newest}
use Rattle.update_protocol.specs.States.{Spoken, entries_at, entry_at, number_at, numbers_at, state_of}
use Rattle.update_protocol.specs.World.{Accepted, Follows, History, Matches, World, after_items, entry, grown, request_of}
use Rattle.update_protocol.proofs.Basics.{at-new, at-old}
use Rattle.update_protocol.proofs.Invariant.{Invariant}
use Rattle.update_protocol.proofs.Legal.{after_joined}
use Rattle.update_protocol.proofs.Naming.{lifted, numbers_join}
use Rattle.update_protocol.proofs.Pending.{accept_pending}
use Rattle.update_protocol.proofs.Runs.{base_kept, keeps}
use Rattle.update_protocol.proofs.Saying.{inv, pends_known}
use Rattle.update_protocol.proofs.Setting.{Setting}
use Rattle.update_protocol.proofs.Showing.{not_has, pends_behind}
use Rattle.update_protocol.proofs.Whole.{new_newest, new_once}

pub items_are : (disk : ℕ → List ℕ) (k : ℕ) (xs : List Accepted) → map (λ (e : Entry). e.item) (entries_at disk k xs) ≡ entries_of xs
items_are disk k [] = refl
items_are disk k (x ∷ xs) = ap (λ h. entry x ∷ h) (items_are disk (suc k) xs)

entries_push : (disk : ℕ → List ℕ) (k : ℕ) (xs : List Accepted) (x : Accepted) → entries_at disk k (xs ++ x ∷ []) ≡ entries_at disk k xs ++ entry_at disk (k + length xs) x ∷ []
entries_push disk k [] x = let e : k ≡ k + 0 = omega arith in ap (λ n. entry_at disk n x ∷ []) e
entries_push disk k (y ∷ xs) x = let e : suc k + length xs ≡ k + suc (length xs) = omega arith in
    ap (λ h. entry_at disk k y ∷ h) (entries_push disk (suc k) xs x ∙ ap (λ n. entries_at disk (suc k) xs ++ entry_at disk n x ∷ []) e)

numbers_old : (xs : List Accepted) (x : Accepted) (ns : List ℕ) → ((k : ℕ) → IsIn k ns → k < length xs) → numbers_at (xs ++ x ∷ []) ns ≡ numbers_at xs ns
numbers_old xs x [] known = refl
numbers_old xs x (n ∷ ns) known =
    ap (λ (y : Accepted). (request_of y).number ∷ numbers_at (xs ++ x ∷ []) ns) (at-old xs x n (known n (inl refl)))
    ∙ ap (λ l. number_at xs n ∷ l) (numbers_old xs x ns (λ k m. known k (inr m)))

follows_last : (targets : ℕ) (h : History) (xs : List Accepted) (x : Accepted) → Follows targets h (xs ++ x ∷ []) → Matches targets (after_items h xs) x
follows_last targets h [] x f = f.0
follows_last targets h (y ∷ xs) x f = follows_last targets (grown h y) xs x f.1

none_has : (n : ℕ) (h : History) → (HasNumber n h → ⊥) → AllByRecursion (λ i. i.request.number ≡ n → ⊥) h
none_has n [] none = tt
none_has n (i ∷ h) none = ((λ e. none (inl e)), none_has n h (λ m. none (inr m)))

pub grown_is : (σ : Setting) (h : History) (w : World) (r : Reached σ.targets h w) → after_items w.base w.since ≡ h ++ entries_of w.since
grown_is σ h w r = ap (λ b. after_items b w.since) (base_kept σ r.events (fresh r.start h) w r.run) ∙ after_joined h w.since

module _ (σ : Setting) (h : History) (w : World) (r : Reached σ.targets h w) (sent : ℕ → Request) (known : IsSent sent (h ++ entries_of w.since)) (o : Spoken) where
  abbrev now : State
  now = state_of σ.targets o w

  pub history_is : h ++ entries_of w.since ≡ history_of now
  history_is = ap (λ b. b ++ entries_of w.since) (sym (base_kept σ r.events (fresh r.start h) w r.run)) ∙ ap (λ l. w.base ++ l) (sym (items_are w.disk 0 w.since))

  pub whole_is : after_items w.base w.since ≡ history_of now
  whole_is = after_joined w.base w.since ∙ ap (λ l. w.base ++ l) (sym (items_are w.disk 0 w.since))

  module _ (m : ℕ) (x : Accepted) (may : May σ.targets w (Accept m x)) where
    after : Invariant σ.targets (happens w (Accept m x))
    after = keeps σ w (inv σ h w r) (Accept m x) may

    pub matches : Matches σ.targets (after_items w.base w.since) x
    matches = follows_last σ.targets w.base w.since x after.follows

    new_pends : (s : ℕ) → numbers_at (w.since ++ x ∷ []) (pending (happens w (Accept m x)) s) ≡ put now.pend m (now.pend m ++ (request_of x).number ∷ []) s
    new_pends s =
        ap (numbers_at (w.since ++ x ∷ [])) (accept_pending w m x s (pends_behind σ w (inv σ h w r) m))
        ∙ lifted (λ q ns. numbers_at (w.since ++ x ∷ []) ns) (pending w) m (pending w m ++ length w.since ∷ []) s
        ∙ (λ i. put (λ q. numbers_old w.since x (pending w q) (pends_known σ h w r sent known q) i) m (last_number i) s)
      where
        last_number : numbers_at (w.since ++ x ∷ []) (pending w m ++ length w.since ∷ []) ≡ now.pend m ++ (request_of x).number ∷ []
        last_number =
            numbers_join (w.since ++ x ∷ []) (pending w m) (length w.since ∷ [])
            ∙ (λ i. numbers_old w.since x (pending w m) (pends_known σ h w r sent known m) i ++ (request_of (at-new w.since x i)).number ∷ [])

    new_entries : entries_at w.disk 0 (w.since ++ x ∷ []) ≡ entries_at w.disk 0 w.since ++ record { item = entry x; on = targets_from 0 x.parts; named = λ t. false } ∷ []
    new_entries =
        entries_push w.disk 0 w.since x
        ∙ (λ i. entries_at w.disk 0 w.since ++ record { item = entry x; on = targets_from 0 x.parts; named = λ t. unnamed t i } ∷ [])
      where
        unnamed : (t : ℕ) → has (0 + length w.since) (w.disk t) ≡ false
        unnamed t = not_has (0 + length w.since) (w.disk t) (λ q. let l = ((inv σ h w r).durable.known t (0 + length w.since) q).0 in omega (arith, l))

    pub home : home_of σ.targets (request_of x).op ≡ Some m
    home = ((inv σ h w r).holding.current m x.attempt may.is_current).at_home

    pub accepts : request_of x ≡ sent (request_of x).number → IsIn (request_of x) o.sent → o.standing m ≡ Serving → (rest : List Line)
        → Accepts now (request_of x).number x.reply (targets_from 0 x.parts) (Replies (request_of x).number x.reply ∷ rest) (state_of σ.targets o (happens w (Accept m x)))
    accepts is was_sent serves rest = record {
      comes = record { request = request_of x; was_sent = was_sent; numbered = refl; home = m; at_home = home; serves = serves };
      changes = may.changes;
      newest = subst (λ g. Newest σ.targets g (request_of x)) history_is (new_newest σ h r.story r.start r.events w r.run m x may);
      unused = subst (λ g. AllByRecursion (λ i. i.request.number ≡ (request_of x).number → ⊥) g) history_is (none_has (request_of x).number (h ++ entries_of w.since) (new_once σ h r.story r.start r.events w r.run m x may sent known is));
      replied = matches.reply ∙ ap (λ t. (step σ.targets t (request_of x).op).1) (σ.laws.beside_tree σ.targets (after_items w.base w.since)) ∙ ap (λ g. (step σ.targets (tree_of σ.targets g) (request_of x).op).1) whole_is;
      placed = ap (λ ps. targets_from 0 ps) matches.parts ∙ σ.laws.on_is (after_items w.base w.since) x.batch (request_of x).op matches.fits matches.is_op ∙ ap (λ g. on σ.targets (laid_of σ.targets g) (request_of x).op) whole_is;
      rest = rest;
      then_reply = refl;
      after = λ i. record now { since = new_entries i; pend = λ s. new_pends s i };
    }
